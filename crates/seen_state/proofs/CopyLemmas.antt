-- Packets that come and go, in the maps as in the list.
use Rattle.std.proofs.Common.{◌≡◌, ◌==◌, ◌≤◌, ◌+◌, ◌-◌, ◌++◌, ◌∷◌, ◌∙◌, ◌&&◌, ◌||◌, [], ℕ, Bool, true, false, not, List, Option, Some, None, cond, refl, ap, sym, subst, arith, unwrap_or}
use Rattle.std.proofs.lemmas.Bool.{eqb-true}
use Rattle.std.proofs.lemmas.Bool.Decides.{nat_tests}
use Rattle.std.specs.List.{list_any}
use Rattle.net_values.proofs.NumberLemmas.{equal_turned}
use Rattle.net_base.specs.declared.trace.state_name.StateName.{StateName}
use Rattle.net_base.specs.declared.trace.state_name.StateName.TheVariants as state
use Rattle.seen_network.specs.Once.{has_seen, is_seen_copy, names_seen}
use Rattle.seen_network.specs.Seen.{Seen, SeenCopy, copy_comes, copy_goes, origin_among, repeats, said_towards, session_told, with_copies, with_octets, with_rest, with_standing, with_up, without_copy}
use Rattle.seen_state.specs.Numbered.{Values, no_values, value_at}
use Rattle.seen_state.specs.Copies.{is_number, AreFew, CopyMaps, HaveOwnNumbers, TellsPackets, copies_of, count_in, origin_under}

-- ---- counts

pub none_few : AreFew (record { origins = no_values; counts = no_values; comings = 0 })
none_few = λ o. omega arith

pub none_told : TellsPackets (record { origins = no_values; counts = no_values; comings = 0 }) []
none_told = record { origins = λ n. refl; counts = λ o. refl; own = tt }

-- another count at one origin
pub count_put : (old new : Values ℕ) (origin n : ℕ) → ((q : ℕ) → value_at new q ≡ cond (q == origin) (Some n) (value_at old q))
    → (other : ℕ) → count_in new other ≡ cond (other == origin) n (count_in old other)
count_put old new origin n put other = ap (λ (o : Option ℕ). unwrap_or o 0) (put other) ∙ by (other == origin) where
  by : (b : Bool) → unwrap_or (cond b (Some n) (value_at old other)) 0 ≡ cond b n (count_in old other)
  by true = refl
  by false = refl

-- none at one origin
pub count_gone : (old new : Values ℕ) (origin : ℕ) → ((q : ℕ) → value_at new q ≡ cond (q == origin) None (value_at old q))
    → (other : ℕ) → count_in new other ≡ cond (other == origin) 0 (count_in old other)
count_gone old new origin gone other = ap (λ (o : Option ℕ). unwrap_or o 0) (gone other) ∙ by (other == origin) where
  by : (b : Bool) → unwrap_or (cond b None (value_at old other)) 0 ≡ cond b 0 (count_in old other)
  by true = refl
  by false = refl

-- counts that stay are as few as before
pub few_kept : (old new : Values ℕ) (most : ℕ) → ((o : ℕ) → count_in old o ≤ most) → ((q : ℕ) → value_at new q ≡ value_at old q) → (o : ℕ) → count_in new o ≤ most
few_kept old new most few same o = omega (arith, few o, ap (λ (v : Option ℕ). unwrap_or v 0) (same o))

pub down_by : (old new : Values ℕ) (origin n : ℕ) → n ≡ count_in old origin - 1 → ((other : ℕ) → count_in new other ≡ cond (other == origin) n (count_in old other))
    → (other : ℕ) → count_in new other ≡ count_in old other - cond (other == origin) 1 0
down_by old new origin n is put other = put other ∙ by (other == origin) refl where
  by : (b : Bool) → (other == origin) ≡ b → cond b n (count_in old other) ≡ count_in old other - cond b 1 0
  by true here = is ∙ ap (λ (k : ℕ). count_in old k - 1) (sym (eqb-true other origin here))
  by false away = omega arith

pub up_by : (old new : Values ℕ) (origin n : ℕ) → n ≡ count_in old origin + 1 → ((other : ℕ) → count_in new other ≡ cond (other == origin) n (count_in old other))
    → (other : ℕ) → count_in new other ≡ count_in old other + cond (other == origin) 1 0
up_by old new origin n is put other = put other ∙ by (other == origin) refl where
  by : (b : Bool) → (other == origin) ≡ b → cond b n (count_in old other) ≡ count_in old other + cond b 1 0
  by true here = is ∙ ap (λ (k : ℕ). count_in old k + 1) (sym (eqb-true other origin here))
  by false away = omega arith

-- counts that do not grow are as few as before
pub few_down : (old new : Values ℕ) (origin n most : ℕ) → n ≤ most → ((o : ℕ) → count_in old o ≤ most) → ((other : ℕ) → count_in new other ≡ cond (other == origin) n (count_in old other))
    → (o : ℕ) → count_in new o ≤ most
few_down old new origin n most h few put o = by (o == origin) (put o) (few o) where
  by : (b : Bool) → count_in new o ≡ cond b n (count_in old o) → count_in old o ≤ most → count_in new o ≤ most
  by true is g = omega (arith, is, h)
  by false is g = omega (arith, is, g)

pub few_more : (counts : Values ℕ) (most : ℕ) → ((o : ℕ) → count_in counts o ≤ most) → (o : ℕ) → count_in counts o ≤ most + 1
few_more counts most few o = omega (arith, few o)

-- ---- the list

abbrev one_if : Bool → ℕ
one_if b = cond b 1 0

-- one that goes
among_without : (number n : ℕ) (copies : List SeenCopy) → HaveOwnNumbers copies → origin_among n (without_copy number copies) ≡ cond (n == number) None (origin_among n copies)
among_without number n [] own = by (n == number) where
  by : (b : Bool) → origin_among n [] ≡ cond b None (origin_among n [])
  by true = refl
  by false = refl
among_without number n (c ∷ cs) own = by (c.number == number) refl (c.number == n) refl (n == number) refl (among_without number n cs own.1) where
  by : (a : Bool) → (c.number == number) ≡ a → (b : Bool) → (c.number == n) ≡ b → (d : Bool) → (n == number) ≡ d
      → origin_among n (without_copy number cs) ≡ cond (n == number) None (origin_among n cs)
      → origin_among n (cond a cs (c ∷ without_copy number cs)) ≡ cond d None (cond b (Some c.origin) (origin_among n cs))
  by true h b g true k rest = ap (λ (m : ℕ). origin_among m cs) (eqb-true n number k ∙ sym (eqb-true c.number number h)) ∙ own.0
  by true h true g false k rest = absurd (grind (arith, nat_tests, h, g, k))
  by true h false g false k rest = refl
  by false h true g true k rest = absurd (grind (arith, nat_tests, h, g, k))
  by false h true g false k rest = ap (λ (b : Bool). cond b (Some c.origin) (origin_among n (without_copy number cs))) g
  by false h false g true k rest = ap (λ (b : Bool). cond b (Some c.origin) (origin_among n (without_copy number cs))) g ∙ (rest ∙ ap (λ (b : Bool). cond b None (origin_among n cs)) k)
  by false h false g false k rest = ap (λ (b : Bool). cond b (Some c.origin) (origin_among n (without_copy number cs))) g ∙ (rest ∙ ap (λ (b : Bool). cond b None (origin_among n cs)) k)

-- where it is not among them nothing goes
without_none : (number : ℕ) (copies : List SeenCopy) → origin_among number copies ≡ None → without_copy number copies ≡ copies
without_none number [] none = refl
without_none number (c ∷ cs) none = by (c.number == number) none (λ rest. without_none number cs rest) where
  by : (b : Bool) → cond b (Some c.origin) (origin_among number cs) ≡ None → (origin_among number cs ≡ None → without_copy number cs ≡ cs) → cond b cs (c ∷ without_copy number cs) ≡ c ∷ cs
  by true h rest = absurd (cc (h))
  by false h rest = ap (λ (xs : List SeenCopy). c ∷ xs) (rest h)

-- one that is among them counts
some_of : (number o gone : ℕ) (copies : List SeenCopy) → origin_among number copies ≡ Some gone → cond (o == gone) 1 0 ≤ copies_of o copies
some_of number o gone [] some = absurd (cc (some))
some_of number o gone (c ∷ cs) some = by (c.number == number) some (λ rest. some_of number o gone cs rest) where
  by : (b : Bool) → cond b (Some c.origin) (origin_among number cs) ≡ Some gone → (origin_among number cs ≡ Some gone → cond (o == gone) 1 0 ≤ copies_of o cs)
      → cond (o == gone) 1 0 ≤ cond (c.origin == o) 1 0 + copies_of o cs
  by true is rest =
      let same : c.origin ≡ gone = cc (is) in
      let turn : one_if (c.origin == o) ≡ one_if (o == gone) = ap one_if (equal_turned c.origin o ∙ ap (λ (m : ℕ). o == m) same) in
      omega (arith, turn)
  by false is rest = omega (arith, rest is)

copies_without : (number o gone : ℕ) (copies : List SeenCopy) → origin_among number copies ≡ Some gone → copies_of o (without_copy number copies) + cond (o == gone) 1 0 ≡ copies_of o copies
copies_without number o gone [] some = absurd (cc (some))
copies_without number o gone (c ∷ cs) some = by (c.number == number) some (λ rest. copies_without number o gone cs rest) where
  by : (b : Bool) → cond b (Some c.origin) (origin_among number cs) ≡ Some gone → (origin_among number cs ≡ Some gone → copies_of o (without_copy number cs) + cond (o == gone) 1 0 ≡ copies_of o cs)
      → copies_of o (cond b cs (c ∷ without_copy number cs)) + cond (o == gone) 1 0 ≡ cond (c.origin == o) 1 0 + copies_of o cs
  by true is rest =
      let same : c.origin ≡ gone = cc (is) in
      let turn : one_if (c.origin == o) ≡ one_if (o == gone) = ap one_if (equal_turned c.origin o ∙ ap (λ (m : ℕ). o == m) same) in
      omega (arith, turn)
  by false is rest = omega (arith, rest is)

own_without : (number : ℕ) (copies : List SeenCopy) → HaveOwnNumbers copies → HaveOwnNumbers (without_copy number copies)
own_without number [] own = tt
own_without number (c ∷ cs) own = by (c.number == number) (own_without number cs own.1) where
  none : (b : Bool) → cond b None (origin_among c.number cs) ≡ None
  none true = refl
  none false = own.0

  by : (b : Bool) → HaveOwnNumbers (without_copy number cs) → HaveOwnNumbers (cond b cs (c ∷ without_copy number cs))
  by true rest = own.1
  by false rest = (among_without number c.number cs own.1 ∙ none (c.number == number), rest)

-- one more behind them
among_more : (n : ℕ) (copies : List SeenCopy) (c : SeenCopy) → origin_among c.number copies ≡ None → origin_among n (copies ++ c ∷ []) ≡ cond (n == c.number) (Some c.origin) (origin_among n copies)
among_more n [] c none = ap (λ (b : Bool). cond b (Some c.origin) None) (equal_turned c.number n)
among_more n (d ∷ ds) c none = by (d.number == c.number) refl none (d.number == n) refl (n == c.number) refl (λ rest. among_more n ds c rest) where
  by : (a : Bool) → (d.number == c.number) ≡ a → cond a (Some d.origin) (origin_among c.number ds) ≡ None → (b : Bool) → (d.number == n) ≡ b → (e : Bool) → (n == c.number) ≡ e
      → (origin_among c.number ds ≡ None → origin_among n (ds ++ c ∷ []) ≡ cond (n == c.number) (Some c.origin) (origin_among n ds))
      → cond b (Some d.origin) (origin_among n (ds ++ c ∷ [])) ≡ cond e (Some c.origin) (cond b (Some d.origin) (origin_among n ds))
  by true h none b g e k rest = absurd (cc (none))
  by false h none true g true k rest = absurd (grind (arith, nat_tests, h, g, k))
  by false h none true g false k rest = refl
  by false h none false g e k rest = rest none ∙ ap (λ (b : Bool). cond b (Some c.origin) (origin_among n ds)) k

copies_more : (o : ℕ) (copies : List SeenCopy) (c : SeenCopy) → copies_of o (copies ++ c ∷ []) ≡ copies_of o copies + cond (o == c.origin) 1 0
copies_more o [] c = let turn : one_if (c.origin == o) ≡ one_if (o == c.origin) = ap one_if (equal_turned c.origin o) in omega (arith, turn)
copies_more o (d ∷ ds) c = omega (arith, copies_more o ds c)

own_more : (copies : List SeenCopy) (c : SeenCopy) → origin_among c.number copies ≡ None → HaveOwnNumbers copies → HaveOwnNumbers (copies ++ c ∷ [])
own_more [] c none own = (refl, tt)
own_more (d ∷ ds) c none own = by (d.number == c.number) refl none (λ rest. own_more ds c rest own.1) where
  by : (a : Bool) → (d.number == c.number) ≡ a → cond a (Some d.origin) (origin_among c.number ds) ≡ None → (origin_among c.number ds ≡ None → HaveOwnNumbers (ds ++ c ∷ []))
      → HaveOwnNumbers (d ∷ (ds ++ c ∷ []))
  by true h none rest = absurd (cc (none))
  by false h none rest = (among_more d.number ds c none ∙ (ap (λ (b : Bool). cond b (Some c.origin) (origin_among d.number ds)) h ∙ own.0), rest none)

-- ---- the maps tell of the list

-- no packet with this number is under way
pub went_none : (old new : CopyMaps) (number : ℕ) → origin_under old number ≡ None → ((n : ℕ) → origin_under new n ≡ cond (n == number) None (origin_under old n)) → ((o : ℕ) → count_in new.counts o ≡ count_in old.counts o)
    → (copies : List SeenCopy) → TellsPackets old copies → TellsPackets new (without_copy number copies)
went_none old new number none origins counts copies told = record {
  origins = λ n. origins n ∙ (ap (λ (x : Option ℕ). cond (n == number) None x) (told.origins n) ∙ sym (among_without number n copies told.own));
  counts = λ o. counts o ∙ (told.counts o ∙ ap (copies_of o) (sym (without_none number copies (sym (told.origins number) ∙ none))));
  own = own_without number copies told.own;
}

pub went_one : (old new : CopyMaps) (number gone : ℕ) → origin_under old number ≡ Some gone → ((n : ℕ) → origin_under new n ≡ cond (n == number) None (origin_under old n))
    → ((o : ℕ) → count_in new.counts o ≡ count_in old.counts o - cond (o == gone) 1 0)
    → (copies : List SeenCopy) → TellsPackets old copies → TellsPackets new (without_copy number copies)
went_one old new number gone some origins counts copies told = record {
  origins = λ n. origins n ∙ (ap (λ (x : Option ℕ). cond (n == number) None x) (told.origins n) ∙ sym (among_without number n copies told.own));
  counts = λ o. omega (arith, counts o, told.counts o, copies_without number o gone copies (sym (told.origins number) ∙ some));
  own = own_without number copies told.own;
}

-- what is gone is not among them
gone_from : (number : ℕ) (copies : List SeenCopy) → HaveOwnNumbers copies → origin_among number (without_copy number copies) ≡ None
gone_from number copies own = among_without number number copies own ∙ ap (λ (b : Bool). cond b None (origin_among number copies)) same where
  same : (number == number) ≡ true
  same = grind (arith, nat_tests)

pub came_one : (mid new : CopyMaps) (number origin : ℕ)
    → ((n : ℕ) → origin_under new n ≡ cond (n == number) (Some origin) (origin_under mid n))
    → ((o : ℕ) → count_in new.counts o ≡ count_in mid.counts o + cond (o == origin) 1 0)
    → (copies : List SeenCopy) → HaveOwnNumbers copies → TellsPackets mid (without_copy number copies)
    → TellsPackets new (without_copy number copies ++ record { number = number; origin = origin } ∷ [])
came_one mid new number origin origins counts copies own told = record {
  origins = λ n. origins n
      ∙ (ap (λ (x : Option ℕ). cond (n == number) (Some origin) x) (told.origins n)
      ∙ sym (among_more n (without_copy number copies) (record { number = number; origin = origin }) (gone_from number copies own)));
  counts = λ o. counts o ∙ (ap (λ (k : ℕ). k + cond (o == origin) 1 0) (told.counts o) ∙ sym (copies_more o (without_copy number copies) (record { number = number; origin = origin })));
  own = own_more (without_copy number copies) (record { number = number; origin = origin }) (gone_from number copies own) told.own;
}

-- ---- what is seen

one : (b : Bool) (n : ℕ) (any : Bool) → not (n == 0) ≡ any → not (cond b 1 0 + n == 0) ≡ b || any
one true n any is = ap not some where
  some : (1 + n == 0) ≡ false
  some = grind (arith, nat_tests)
one false n any is = ap (λ (k : ℕ). not (k == 0)) same ∙ is where
  same : 0 + n ≡ n
  same = omega arith

-- some copy of the frame
pub seen_some : (maps : CopyMaps) (seen : Seen) (origin : ℕ) → TellsPackets maps seen.under_way → not (count_in maps.counts origin == 0) ≡ has_seen seen origin
seen_some maps seen origin told = ap (λ (k : ℕ). not (k == 0)) (told.counts origin) ∙ of seen.under_way where
  of : (cs : List SeenCopy) → not (copies_of origin cs == 0) ≡ list_any (λ copy. copy.origin == origin) cs
  of [] = refl
  of (c ∷ cs) = one (c.origin == origin) (copies_of origin cs) (list_any (λ copy. copy.origin == origin) cs) (of cs)

-- the packet with this number
among_named : (number origin : ℕ) (cs : List SeenCopy) → HaveOwnNumbers cs → is_number origin (origin_among number cs) ≡ list_any (is_seen_copy origin number) cs
among_named number origin [] own = refl
among_named number origin (c ∷ cs) own = by (c.number == number) refl (c.origin == origin) refl (among_named number origin cs own.1) where
  none : (c.number == number) ≡ true → is_number origin (origin_among number cs) ≡ list_any (is_seen_copy origin number) cs → list_any (is_seen_copy origin number) cs ≡ false
  none here rest = sym rest ∙ ap (is_number origin) (ap (λ (m : ℕ). origin_among m cs) (sym (eqb-true c.number number here)) ∙ own.0)

  by : (a : Bool) → (c.number == number) ≡ a → (b : Bool) → (c.origin == origin) ≡ b → is_number origin (origin_among number cs) ≡ list_any (is_seen_copy origin number) cs
      → is_number origin (cond a (Some c.origin) (origin_among number cs)) ≡ b && a || list_any (is_seen_copy origin number) cs
  by false away true is rest = rest
  by false away false is rest = rest
  by true here true is rest = is
  by true here false is rest = is ∙ sym (none here rest)

pub seen_named : (maps : CopyMaps) (seen : Seen) (origin number : ℕ) → TellsPackets maps seen.under_way → is_number origin (origin_under maps number) ≡ names_seen seen origin number
seen_named maps seen origin number told = ap (is_number origin) (told.origins number) ∙ among_named number origin seen.under_way told.own

-- ---- entries

pub repeated_none : (maps : CopyMaps) (number of : ℕ) (seen : Seen) → origin_under maps of ≡ None → TellsPackets maps seen.under_way
    → TellsPackets maps (repeats number (origin_among of seen.under_way) seen).under_way
repeated_none maps number of seen none told = subst (λ (o : Option ℕ). TellsPackets maps (repeats number o seen).under_way) (sym none ∙ told.origins of) told

pub repeated_one : (old new : CopyMaps) (number of origin : ℕ) (seen : Seen) → origin_under old of ≡ Some origin → TellsPackets old seen.under_way
    → TellsPackets new (copy_comes number origin seen).under_way
    → TellsPackets new (repeats number (origin_among of seen.under_way) seen).under_way
repeated_one old new number of origin seen some told come = subst (λ (o : Option ℕ). TellsPackets new (repeats number o seen).under_way) (sym some ∙ told.origins of) come

-- what tells nothing of packets
pub told_said : (maps : CopyMaps) (from to : ℕ) (octets : List ℕ) (seen : Seen) → TellsPackets maps seen.under_way → TellsPackets maps (said_towards from to octets seen).under_way
unfolding with_octets
told_said maps from to octets seen told = by (seen.stands to from) where
  by : (b : Bool) → TellsPackets maps (cond b (with_octets from to (seen.pipes from to ++ octets) seen) seen).under_way
  by true = told
  by false = told

pub told_session : (maps : CopyMaps) (edge peer : ℕ) (name : StateName) (seen : Seen) → TellsPackets maps seen.under_way → TellsPackets maps (session_told edge peer name seen).under_way
unfolding with_octets with_rest with_standing
told_session maps edge peer (state.Ended why) seen told = told
told_session maps edge peer state.NonExistent seen told = told
told_session maps edge peer state.Initialized seen told = told
told_session maps edge peer state.OpenSent seen told = told
told_session maps edge peer state.OpenRec seen told = told
told_session maps edge peer state.Operational seen told = told

pub told_wire : (maps : CopyMaps) (edge wire : ℕ) (up : Bool) (seen : Seen) → TellsPackets maps seen.under_way → TellsPackets maps (with_up edge wire up seen).under_way
unfolding with_up
told_wire maps edge wire up seen told = told

pub told_aged : (maps : CopyMaps) (number : ℕ) (seen : Seen) → TellsPackets maps (without_copy number seen.under_way) → TellsPackets maps (copy_goes number seen).under_way
unfolding with_copies
told_aged maps number seen told = told

pub ruleset repeated = (repeated_none, repeated_one)

pub ruleset counts_down = (count_put, count_gone, down_by, few_down, few_kept)

pub ruleset counts_up = (count_put, up_by, few_down, few_kept, few_more)
