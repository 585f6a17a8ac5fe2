-- One wire's end at an edge and what its neighbour holds of it: what each message that is said or heard makes of the two.
use Rattle.std.proofs.Common.{◌≡◌, ◌==◌, ◌&&◌, ◌||◌, ◌++◌, ◌∙◌, not, ℕ, Bool, true, false, cond, List, [], ◌∷◌, Option, Some, None, is_some, refl, sym, ap, arith}
use Rattle.std.proofs.lemmas.Bool.Decides.{nat_tests}
use Rattle.std.proofs.lemmas.Bool.{eqb-true, and_from, or_right, or_left}
use Rattle.net_values.proofs.BoolLemmas.{first_holds, clash, second_holds, or_append}
use Rattle.net_values.proofs.NumberLemmas.{same_number as itself}
use Rattle.pw_tlvs.specs.declared.pw_fec.PwFec.{PwFec}
use Rattle.pw_tlvs.specs.declared.pw_status.PwStatus.{PwStatus}
use Rattle.ldp_grammar.specs.declared.message.Message.{Message}
use Rattle.ldp_grammar.specs.declared.message.Message.TheVariants.{Notification, LabelMapping, LabelWithdraw, LabelRelease}
use Rattle.pw_signalling.specs.declared.binding.Binding.{Binding}
use Rattle.pw_signalling.specs.declared.told.Told.{Told}
use Rattle.pw_signalling.specs.End.{LocalPart, Idle, Advertised, Withdrawing}
use Rattle.pw_signalling.specs.Rows.{release_part, status_part, unless_named, with_status}
use Rattle.pw_messages.specs.Content.{mapping, pw_status_code, status_notification, withdrawal}
use Rattle.flight_laws.specs.Binding.{advertised_by, bound_after, heard_of, where_named}
use Rattle.flight_laws.specs.Bound.{IsBoundBy, answered_part, has_advertised, is_old, is_release_of, is_silent, is_waited_for, is_withdrawal_of, names_label, names_old, names_other, released_by, releases_old, some_message, withdraws_old}
use Rattle.flight_laws.specs.Flight.{all_messages}
use Rattle.flight_laws.proofs.RowLemmas.{all-append}

-- ---- lists of messages

pub after-append : (pw_id : ℕ) (xs ys : List Message) (held : Option Binding) → bound_after pw_id (xs ++ ys) held ≡ bound_after pw_id ys (bound_after pw_id xs held)
after-append pw_id [] ys held = refl
after-append pw_id (x ∷ xs) ys held = after-append pw_id xs ys (heard_of pw_id x held)

-- one more message passes the test
all_more : (test : Message → Bool) (xs : List Message) (m : Message) → all_messages test xs ≡ true → test m ≡ true → all_messages test (xs ++ m ∷ []) ≡ true
all_more test xs m all one = all-append test xs (m ∷ []) all (and_from (test m) true one refl)

all_weaker : (p q : Message → Bool) (xs : List Message) → ((x : Message) → p x ≡ true → q x ≡ true) → all_messages p xs ≡ true → all_messages q xs ≡ true
all_weaker p q [] follows h = refl
all_weaker p q (x ∷ xs) follows h = and_from (q x) (all_messages q xs) (follows x (first_holds (p x) (all_messages p xs) h)) (all_weaker p q xs follows (second_holds (p x) (all_messages p xs) h))

some-append : (test : Message → Bool) (xs ys : List Message) → some_message test (xs ++ ys) ≡ (some_message test xs || some_message test ys)
some-append test [] ys = refl
some-append test (x ∷ xs) ys = ap (λ (b : Bool). test x || b) (some-append test xs ys) ∙ or_append (test x) (some_message test xs) (some_message test ys)

-- what some message passes some message of more passes
some_still : (test : Message → Bool) (xs : List Message) (m : Message) → some_message test xs ≡ true → some_message test (xs ++ m ∷ []) ≡ true
some_still test xs m some = some-append test xs (m ∷ []) ∙ or_left (some_message test xs) (some_message test (m ∷ [])) some

pub some_last : (test : Message → Bool) (xs : List Message) (m : Message) → test m ≡ true → some_message test (xs ++ m ∷ []) ≡ true
some_last test xs m one = some-append test xs (m ∷ []) ∙ or_right (some_message test xs) (some_message test (m ∷ [])) (or_left (test m) false one)

-- ---- labels that were old stay old

-- whatever is old in one state is old in another one
older : (pw_id : ℕ) (next next2 : ℕ → Bool) (near near2 : LocalPart) → ((label : ℕ) → is_old next near label ≡ true → is_old next2 near2 label ≡ true)
    → (named label : Option ℕ) → names_old pw_id next near named label ≡ true → names_old pw_id next2 near2 named label ≡ true
older pw_id next next2 near near2 follows None label old = clash old
older pw_id next next2 near near2 follows (Some other) None old = clash old
older pw_id next next2 near near2 follows (Some other) (Some label) old = either (other == pw_id) old
  where
    either : (same : Bool) → not same || is_old next near label ≡ true → not same || is_old next2 near2 label ≡ true
    either true h = follows label h
    either false h = refl

withdraws_older : (pw_id : ℕ) (next next2 : ℕ → Bool) (near near2 : LocalPart) → ((label : ℕ) → is_old next near label ≡ true → is_old next2 near2 label ≡ true)
    → (m : Message) → withdraws_old pw_id next near m ≡ true → withdraws_old pw_id next2 near2 m ≡ true
withdraws_older pw_id next next2 near near2 follows (LabelWithdraw id fec label) old = older pw_id next next2 near near2 follows fec.pw_id label old
withdraws_older pw_id next next2 near near2 follows (Notification id code status None) old = refl
withdraws_older pw_id next next2 near near2 follows (Notification id code status (Some fec)) old = old
withdraws_older pw_id next next2 near near2 follows m old = old

releases_older : (pw_id : ℕ) (next next2 : ℕ → Bool) (near near2 : LocalPart) → ((label : ℕ) → is_old next near label ≡ true → is_old next2 near2 label ≡ true)
    → (m : Message) → releases_old pw_id next near m ≡ true → releases_old pw_id next2 near2 m ≡ true
releases_older pw_id next next2 near near2 follows (LabelRelease id fec label) old = older pw_id next next2 near near2 follows fec.pw_id label old
releases_older pw_id next next2 near near2 follows m old = old

-- ---- what an edge says of its own end

-- a mapping binds its wire to what it tells
mapping_heard : (pw_id label : ℕ) (told : Told) (id : ℕ) (held : Option Binding) → heard_of pw_id (mapping pw_id label told id) held ≡ Some (record { label = label; told = told })
mapping_heard pw_id label told id held = rw (itself pw_id) refl

withdrawal_heard : (pw_id label : ℕ) (told told2 : Told) (id : ℕ) → heard_of pw_id (withdrawal pw_id label told id) (Some (record { label = label; told = told2 })) ≡ None
withdrawal_heard pw_id label told told2 id = rw (itself pw_id, itself label) refl

status_heard_is : (pw_id label : ℕ) (status : PwStatus) (told told2 : Told) (id : ℕ)
    → heard_of pw_id (status_notification pw_id status told id) (Some (record { label = label; told = told2 })) ≡ Some (record { label = label; told = with_status status told2 })
status_heard_is pw_id label status told told2 id = rw (itself pw_id) refl

-- what is given stays given
abbrev pub StaysGiven : (ℕ → Bool) → (ℕ → Bool) → Type 0
StaysGiven next next2 = (label : ℕ) → next label ≡ true → next2 label ≡ true

-- an idle end advertises a label that was not given
pub binding_advertises : (pw_id : ℕ) (next next2 : ℕ → Bool) (new : ℕ) (declined : Bool) (told : Told) (id : ℕ) (far : Option Binding) (out back : List Message) → StaysGiven next next2
    → next new ≡ false → next2 new ≡ true
    → IsBoundBy pw_id next (Idle declined) far out back → IsBoundBy pw_id next2 (Advertised new told) far (out ++ mapping pw_id new told id ∷ []) back
binding_advertises pw_id next next2 new declined told id far out back follows none given is = record {
  agrees = after-append pw_id out (mapping pw_id new told id ∷ []) far ∙ mapping_heard pw_id new told id (bound_after pw_id out far);
  withdrawn = all_more (withdraws_old pw_id next2 (Advertised new told)) out (mapping pw_id new told id)
      (all_weaker (withdraws_old pw_id next (Idle declined)) (withdraws_old pw_id next2 (Advertised new told)) out
      (withdraws_older pw_id next next2 (Idle declined) (Advertised new told) still) is.withdrawn) refl;
  released = all_weaker (releases_old pw_id next (Idle declined)) (releases_old pw_id next2 (Advertised new told)) back
      (releases_older pw_id next next2 (Idle declined) (Advertised new told) still) is.released;
  waits = given;
}
  where
    apart : (label : ℕ) → next label ≡ true → (same : Bool) → (new == label) ≡ same → not same ≡ true
    apart label old true is = clash (sym none ∙ (ap next (eqb-true new label is) ∙ old))
    apart label old false is = refl

    still : (label : ℕ) → is_old next (Idle declined) label ≡ true → is_old next2 (Advertised new told) label ≡ true
    still label old =
        let before : next label ≡ true = first_holds (next label) true old in
        and_from (next2 label) (not (new == label)) (follows label before) (apart label before (new == label) refl)

-- an end that advertises withdraws its label
pub binding_withdraws : (pw_id : ℕ) (next : ℕ → Bool) (label : ℕ) (told content : Told) (id : ℕ) (far : Option Binding) (out back : List Message)
    → IsBoundBy pw_id next (Advertised label told) far out back → IsBoundBy pw_id next (Withdrawing label) far (out ++ withdrawal pw_id label content id ∷ []) back
binding_withdraws pw_id next label told content id far out back is = record {
  agrees = after-append pw_id out (withdrawal pw_id label content id ∷ []) far
      ∙ (ap (heard_of pw_id (withdrawal pw_id label content id)) is.agrees ∙ withdrawal_heard pw_id label content told id);
  withdrawn = all_more (withdraws_old pw_id next (Withdrawing label)) out (withdrawal pw_id label content id)
      (all_weaker (withdraws_old pw_id next (Advertised label told)) (withdraws_old pw_id next (Withdrawing label)) out
      (withdraws_older pw_id next next (Advertised label told) (Withdrawing label) (still next label told)) is.withdrawn)
      (or_right (not (pw_id == pw_id)) (is_old next (Withdrawing label) label) (and_from (next label) true is.waits refl));
  released = all_weaker (releases_old pw_id next (Advertised label told)) (releases_old pw_id next (Withdrawing label)) back
      (releases_older pw_id next next (Advertised label told) (Withdrawing label) (still next label told)) is.released;
  waits = and_from (next label) (some_message (is_withdrawal_of pw_id label) (out ++ withdrawal pw_id label content id ∷ []) || some_message (is_release_of pw_id label) back) is.waits
      (or_left (some_message (is_withdrawal_of pw_id label) (out ++ withdrawal pw_id label content id ∷ [])) (some_message (is_release_of pw_id label) back)
      (some_last (is_withdrawal_of pw_id label) out (withdrawal pw_id label content id) (and_from (pw_id == pw_id) (label == label) (itself pw_id) (itself label))));
}
  where
    still : (next : ℕ → Bool) (own : ℕ) (told : Told) (label : ℕ) → is_old next (Advertised own told) label ≡ true → is_old next (Withdrawing own) label ≡ true
    still next own told label old = grind (arith, nat_tests)

-- an end that advertises tells a status
pub binding_tells : (pw_id : ℕ) (next : ℕ → Bool) (label : ℕ) (told content : Told) (status : PwStatus) (id : ℕ) (far : Option Binding) (out back : List Message)
    → IsBoundBy pw_id next (Advertised label told) far out back → IsBoundBy pw_id next (Advertised label (with_status status told)) far (out ++ status_notification pw_id status content id ∷ []) back
binding_tells pw_id next label told content status id far out back is = record {
  agrees = after-append pw_id out (status_notification pw_id status content id ∷ []) far
      ∙ (ap (heard_of pw_id (status_notification pw_id status content id)) is.agrees ∙ status_heard_is pw_id label status content told id);
  withdrawn = all_more (withdraws_old pw_id next (Advertised label (with_status status told))) out (status_notification pw_id status content id)
      (all_weaker (withdraws_old pw_id next (Advertised label told)) (withdraws_old pw_id next (Advertised label (with_status status told))) out
      (withdraws_older pw_id next next (Advertised label told) (Advertised label (with_status status told)) (λ old is. is)) is.withdrawn) refl;
  released = all_weaker (releases_old pw_id next (Advertised label told)) (releases_old pw_id next (Advertised label (with_status status told))) back
      (releases_older pw_id next next (Advertised label told) (Advertised label (with_status status told)) (λ old is. is)) is.released;
  waits = is.waits;
}

-- ---- what an edge says of other wires, and of the session

waits_out : (pw_id : ℕ) (next : ℕ → Bool) (near : LocalPart) (out back : List Message) (m : Message) → is_waited_for pw_id next near out back ≡ true
    → is_waited_for pw_id next near (out ++ m ∷ []) back ≡ true
waits_out pw_id next (Idle declined) out back m waits = waits
waits_out pw_id next (Advertised label told) out back m waits = waits
waits_out pw_id next (Withdrawing label) out back m waits =
    and_from (next label) (some_message (is_withdrawal_of pw_id label) (out ++ m ∷ []) || some_message (is_release_of pw_id label) back)
    (first_holds (next label) (some_message (is_withdrawal_of pw_id label) out || some_message (is_release_of pw_id label) back) waits)
    (either (some_message (is_withdrawal_of pw_id label) out) refl (second_holds (next label) (some_message (is_withdrawal_of pw_id label) out || some_message (is_release_of pw_id label) back) waits))
  where
    either : (here : Bool) → some_message (is_withdrawal_of pw_id label) out ≡ here → here || some_message (is_release_of pw_id label) back ≡ true
        → some_message (is_withdrawal_of pw_id label) (out ++ m ∷ []) || some_message (is_release_of pw_id label) back ≡ true
    either true is h = or_left (some_message (is_withdrawal_of pw_id label) (out ++ m ∷ [])) (some_message (is_release_of pw_id label) back) (some_still (is_withdrawal_of pw_id label) out m is)
    either false is h = or_right (some_message (is_withdrawal_of pw_id label) (out ++ m ∷ [])) (some_message (is_release_of pw_id label) back) h

waits_back : (pw_id : ℕ) (next : ℕ → Bool) (near : LocalPart) (out back : List Message) (m : Message) → is_waited_for pw_id next near out back ≡ true
    → is_waited_for pw_id next near out (back ++ m ∷ []) ≡ true
waits_back pw_id next (Idle declined) out back m waits = waits
waits_back pw_id next (Advertised label told) out back m waits = waits
waits_back pw_id next (Withdrawing label) out back m waits =
    and_from (next label) (some_message (is_withdrawal_of pw_id label) out || some_message (is_release_of pw_id label) (back ++ m ∷ []))
    (first_holds (next label) (some_message (is_withdrawal_of pw_id label) out || some_message (is_release_of pw_id label) back) waits)
    (either (some_message (is_withdrawal_of pw_id label) out) (second_holds (next label) (some_message (is_withdrawal_of pw_id label) out || some_message (is_release_of pw_id label) back) waits))
  where
    either : (here : Bool) → here || some_message (is_release_of pw_id label) back ≡ true → here || some_message (is_release_of pw_id label) (back ++ m ∷ []) ≡ true
    either true h = refl
    either false h = some_still (is_release_of pw_id label) back m h

-- another wire's name is not this wire's
other_named : (pw_id : ℕ) (named : Option ℕ) (a b : Option Binding) (fec : PwFec) → names_other pw_id named ≡ true → where_named pw_id fec named a b b ≡ b
other_named pw_id None a b fec other = clash other
other_named pw_id (Some n) a b fec other = either (n == pw_id) other
  where
    either : (same : Bool) → not same ≡ true → cond same a b ≡ b
    either true h = clash h
    either false h = refl

silent_named : (pw_id : ℕ) (named : Option ℕ) → names_other pw_id named ≡ true → is_some named ≡ true
silent_named pw_id None other = other
silent_named pw_id (Some n) other = refl

silent_old : (pw_id : ℕ) (next : ℕ → Bool) (near : LocalPart) (named label : Option ℕ) → names_other pw_id named && is_some label ≡ true → names_old pw_id next near named label ≡ true
silent_old pw_id next near None label silent = silent
silent_old pw_id next near (Some n) None silent = clash (no (not (n == pw_id)) silent)
  where
    no : (b : Bool) → b && false ≡ true → false ≡ true
    no true h = h
    no false h = h
silent_old pw_id next near (Some n) (Some label) silent = or_left (not (n == pw_id)) (is_old next near label) (first_holds (not (n == pw_id)) true silent)

pub silent_heard : (pw_id : ℕ) (m : Message) (held : Option Binding) → is_silent pw_id m ≡ true → heard_of pw_id m held ≡ held
silent_heard pw_id (LabelMapping id fec label status points) held silent = other_named pw_id fec.pw_id _ held fec silent
silent_heard pw_id (LabelWithdraw id fec label) held silent = by_name fec.pw_id (first_holds (names_other pw_id fec.pw_id) (is_some label) silent)
  where
    by_name : (named : Option ℕ) → names_other pw_id named ≡ true → where_named pw_id fec named (unless_named label held) None held ≡ held
    by_name None other = clash other
    by_name (Some n) other = either (n == pw_id) other
      where
        either : (same : Bool) → not same ≡ true → cond same (unless_named label held) held ≡ held
        either true h = clash h
        either false h = refl
silent_heard pw_id (Notification id code None fec) held silent = refl
silent_heard pw_id (Notification id code (Some status) None) held silent = refl
silent_heard pw_id (Notification id code (Some status) (Some fec)) held silent = by_code (code.code == pw_status_code) (by_name fec.pw_id silent)
  where
    by_name : (named : Option ℕ) → names_other pw_id named ≡ true → where_named pw_id fec named (status_part status held) (status_part status held) held ≡ held
    by_name None other = clash other
    by_name (Some n) other = either (n == pw_id) other
      where
        either : (same : Bool) → not same ≡ true → cond same (status_part status held) held ≡ held
        either true h = clash h
        either false h = refl

    by_code : (b : Bool) {x : Option Binding} → x ≡ held → cond b x held ≡ held
    by_code true is = is
    by_code false is = refl
silent_heard pw_id m held silent = refl

silent_withdraws : (pw_id : ℕ) (next : ℕ → Bool) (near : LocalPart) (m : Message) → is_silent pw_id m ≡ true → withdraws_old pw_id next near m ≡ true
silent_withdraws pw_id next near (LabelMapping id fec label status points) silent = silent_named pw_id fec.pw_id silent
silent_withdraws pw_id next near (LabelWithdraw id fec label) silent = silent_old pw_id next near fec.pw_id label silent
silent_withdraws pw_id next near (Notification id code status None) silent = refl
silent_withdraws pw_id next near (Notification id code status (Some fec)) silent = silent_named pw_id fec.pw_id silent
silent_withdraws pw_id next near m silent = refl

pub silent_releases : (pw_id : ℕ) (next : ℕ → Bool) (near : LocalPart) (m : Message) → is_silent pw_id m ≡ true → releases_old pw_id next near m ≡ true
silent_releases pw_id next near (LabelRelease id fec label) silent = silent_old pw_id next near fec.pw_id label silent
silent_releases pw_id next near m silent = refl

pub binding_says_other : (pw_id : ℕ) (next : ℕ → Bool) (near : LocalPart) (far : Option Binding) (out back : List Message) (m : Message) → is_silent pw_id m ≡ true
    → IsBoundBy pw_id next near far out back → IsBoundBy pw_id next near far (out ++ m ∷ []) back
binding_says_other pw_id next near far out back m silent is = record {
  agrees = after-append pw_id out (m ∷ []) far ∙ (silent_heard pw_id m (bound_after pw_id out far) silent ∙ is.agrees);
  withdrawn = all_more (withdraws_old pw_id next near) out m is.withdrawn (silent_withdraws pw_id next near m silent);
  released = is.released;
  waits = waits_out pw_id next near out back m is.waits;
}

-- it says a release, of whatever
pub binding_says_release : (pw_id : ℕ) (next : ℕ → Bool) (near : LocalPart) (far : Option Binding) (out back : List Message) (id : ℕ) (fec : PwFec) (label : Option ℕ)
    → IsBoundBy pw_id next near far out back → IsBoundBy pw_id next near far (out ++ LabelRelease id fec label ∷ []) back
binding_says_release pw_id next near far out back id fec label is = record {
  agrees = after-append pw_id out (LabelRelease id fec label ∷ []) far ∙ is.agrees;
  withdrawn = all_more (withdraws_old pw_id next near) out (LabelRelease id fec label) is.withdrawn refl;
  released = is.released;
  waits = waits_out pw_id next near out back (LabelRelease id fec label) is.waits;
}

-- the neighbour says what releases no label of the wire but an old one
pub binding_answers : (pw_id : ℕ) (next : ℕ → Bool) (near : LocalPart) (far : Option Binding) (out back : List Message) (m : Message) → releases_old pw_id next near m ≡ true
    → IsBoundBy pw_id next near far out back → IsBoundBy pw_id next near far out (back ++ m ∷ [])
binding_answers pw_id next near far out back m old is = record {
  agrees = is.agrees;
  withdrawn = is.withdrawn;
  released = all_more (releases_old pw_id next near) back m is.released old;
  waits = waits_back pw_id next near out back m is.waits;
}

-- another end of the edge takes a label
pub binding_goes_on : (pw_id : ℕ) (next next2 : ℕ → Bool) (near : LocalPart) (far : Option Binding) (out back : List Message) → StaysGiven next next2
    → IsBoundBy pw_id next near far out back → IsBoundBy pw_id next2 near far out back
binding_goes_on pw_id next next2 near far out back follows is = record {
  agrees = is.agrees;
  withdrawn = all_weaker (withdraws_old pw_id next near) (withdraws_old pw_id next2 near) out (withdraws_older pw_id next next2 near near (λ label old. still near label old)) is.withdrawn;
  released = all_weaker (releases_old pw_id next near) (releases_old pw_id next2 near) back (releases_older pw_id next next2 near near (λ label old. still near label old)) is.released;
  waits = waits near is.waits;
}
  where
    still : (near : LocalPart) (label : ℕ) → is_old next near label ≡ true → is_old next2 near label ≡ true
    still near label old = and_from (next2 label) (not (has_advertised near label)) (follows label (first_holds (next label) (not (has_advertised near label)) old))
        (second_holds (next label) (not (has_advertised near label)) old)

    waits : (near : LocalPart) → is_waited_for pw_id next near out back ≡ true → is_waited_for pw_id next2 near out back ≡ true
    waits (Idle declined) h = h
    waits (Advertised label told) h = follows label h
    waits (Withdrawing label) h =
        and_from (next2 label) (some_message (is_withdrawal_of pw_id label) out || some_message (is_release_of pw_id label) back)
        (follows label (first_holds (next label) (some_message (is_withdrawal_of pw_id label) out || some_message (is_release_of pw_id label) back) h))
        (second_holds (next label) (some_message (is_withdrawal_of pw_id label) out || some_message (is_release_of pw_id label) back) h)

-- an idle end is declined no longer
pub binding_renews : (pw_id : ℕ) (next : ℕ → Bool) (one : Bool) (far : Option Binding) (out back : List Message) → IsBoundBy pw_id next (Idle one) far out back
    → IsBoundBy pw_id next (Idle false) far out back
binding_renews pw_id next one far out back is = record {
  agrees = is.agrees;
  withdrawn = all_weaker (withdraws_old pw_id next (Idle one)) (withdraws_old pw_id next (Idle false)) out (withdraws_older pw_id next next (Idle one) (Idle false) (λ label old. old)) is.withdrawn;
  released = all_weaker (releases_old pw_id next (Idle one)) (releases_old pw_id next (Idle false)) back (releases_older pw_id next next (Idle one) (Idle false) (λ label old. old)) is.released;
  waits = refl;
}

-- two ends of a new connection
pub binding_begins : (pw_id : ℕ) (next : ℕ → Bool) → IsBoundBy pw_id next (Idle false) None [] []
binding_begins pw_id next = record { agrees = refl; withdrawn = refl; released = refl; waits = refl }

-- ---- what is heard

-- the neighbour hears the next message, and it is no withdrawal that the end waits for
pub binding_heard : (pw_id : ℕ) (next : ℕ → Bool) (near : LocalPart) (far : Option Binding) (m : Message) (out back : List Message)
    → ((label : ℕ) → near ≡ Withdrawing label → is_withdrawal_of pw_id label m ≡ false)
    → IsBoundBy pw_id next near far (m ∷ out) back → IsBoundBy pw_id next near (heard_of pw_id m far) out back
binding_heard pw_id next near far m out back other is = record {
  agrees = is.agrees;
  withdrawn = second_holds (withdraws_old pw_id next near m) (all_messages (withdraws_old pw_id next near) out) is.withdrawn;
  released = is.released;
  waits = waits near other is.waits;
}
  where
    waits : (near : LocalPart) → ((label : ℕ) → near ≡ Withdrawing label → is_withdrawal_of pw_id label m ≡ false) → is_waited_for pw_id next near (m ∷ out) back ≡ true
        → is_waited_for pw_id next near out back ≡ true
    waits (Idle declined) other h = h
    waits (Advertised label told) other h = h
    waits (Withdrawing label) other h = rw (other label refl) at h

-- it hears a withdrawal, and releases the label
pub binding_hears_withdrawal : (pw_id : ℕ) (next : ℕ → Bool) (near : LocalPart) (far : Option Binding) (id id2 : ℕ) (fec fec2 : PwFec) (label : Option ℕ) (out back : List Message)
    → fec2.pw_id ≡ fec.pw_id
    → IsBoundBy pw_id next near far (LabelWithdraw id fec label ∷ out) back
    → IsBoundBy pw_id next near (heard_of pw_id (LabelWithdraw id fec label) far) out (back ++ LabelRelease id2 fec2 label ∷ [])
binding_hears_withdrawal pw_id next near far id id2 fec fec2 label out back same is = record {
  agrees = is.agrees;
  withdrawn = second_holds (withdraws_old pw_id next near (LabelWithdraw id fec label)) (all_messages (withdraws_old pw_id next near) out) is.withdrawn;
  released = all_more (releases_old pw_id next near) back (LabelRelease id2 fec2 label) is.released
      (rw same (first_holds (names_old pw_id next near fec.pw_id label) (all_messages (withdraws_old pw_id next near) out) is.withdrawn));
  waits = waits near is.waits;
}
  where
    waits : (near : LocalPart) → is_waited_for pw_id next near (LabelWithdraw id fec label ∷ out) back ≡ true → is_waited_for pw_id next near out (back ++ LabelRelease id2 fec2 label ∷ []) ≡ true
    waits (Idle declined) h = h
    waits (Advertised own told) h = h
    waits (Withdrawing own) h =
        and_from (next own) (some_message (is_withdrawal_of pw_id own) out || some_message (is_release_of pw_id own) (back ++ LabelRelease id2 fec2 label ∷ []))
        (first_holds (next own) ((names_label pw_id own fec.pw_id label || some_message (is_withdrawal_of pw_id own) out) || some_message (is_release_of pw_id own) back) h)
        (either (names_label pw_id own fec.pw_id label) refl (some_message (is_withdrawal_of pw_id own) out)
        (second_holds (next own) ((names_label pw_id own fec.pw_id label || some_message (is_withdrawal_of pw_id own) out) || some_message (is_release_of pw_id own) back) h))
      where
        either : (here : Bool) → names_label pw_id own fec.pw_id label ≡ here → (later : Bool) → (here || later) || some_message (is_release_of pw_id own) back ≡ true
            → later || some_message (is_release_of pw_id own) (back ++ LabelRelease id2 fec2 label ∷ []) ≡ true
        either here now true h = refl
        either true now false h = some_last (is_release_of pw_id own) back (LabelRelease id2 fec2 label) (rw same now)
        either false now false h = some_still (is_release_of pw_id own) back (LabelRelease id2 fec2 label) h

-- an old label that is released is none that is advertised
old_released : (next : ℕ → Bool) (near : LocalPart) (label : ℕ) → is_old next near label ≡ true → advertised_by (release_part (Some label) near) ≡ advertised_by near
old_released next (Idle declined) label old = refl
old_released next (Advertised own told) label old = grind (arith, nat_tests)
old_released next (Withdrawing own) label old = grind (arith, nat_tests)

still_old : (next : ℕ → Bool) (near : LocalPart) (label other : ℕ) → is_old next near other ≡ true → is_old next (release_part (Some label) near) other ≡ true
still_old next (Idle declined) label other old = old
still_old next (Advertised own told) label other old = grind (arith, nat_tests)
still_old next (Withdrawing own) label other old = grind (arith, nat_tests)

-- what releases no label that the end waits for
hears_other : (pw_id : ℕ) (next : ℕ → Bool) (near : LocalPart) (far : Option Binding) (m : Message) (out back : List Message) → ((label : ℕ) → is_release_of pw_id label m ≡ false)
    → IsBoundBy pw_id next near far out (m ∷ back) → IsBoundBy pw_id next near far out back
hears_other pw_id next near far m out back other is = record {
  agrees = is.agrees;
  withdrawn = is.withdrawn;
  released = second_holds (releases_old pw_id next near m) (all_messages (releases_old pw_id next near) back) is.released;
  waits = waits near is.waits;
}
  where
    waits : (near : LocalPart) → is_waited_for pw_id next near out (m ∷ back) ≡ true → is_waited_for pw_id next near out back ≡ true
    waits (Idle declined) h = h
    waits (Advertised label told) h = h
    waits (Withdrawing label) h = rw (other label) at h

-- a release of an old label of the wire
hears_old : (pw_id : ℕ) (next : ℕ → Bool) (near : LocalPart) (far : Option Binding) (id label : ℕ) (fec : PwFec) (out back : List Message) → is_old next near label ≡ true → (fec.pw_id ≡ Some pw_id)
    → IsBoundBy pw_id next near far out (LabelRelease id fec (Some label) ∷ back) → IsBoundBy pw_id next (release_part (Some label) near) far out back
hears_old pw_id next near far id label fec out back old named is = record {
  agrees = is.agrees ∙ sym (old_released next near label old);
  withdrawn = all_weaker (withdraws_old pw_id next near) (withdraws_old pw_id next (release_part (Some label) near)) out
      (withdraws_older pw_id next next near (release_part (Some label) near) (λ other is. still_old next near label other is)) is.withdrawn;
  released = all_weaker (releases_old pw_id next near) (releases_old pw_id next (release_part (Some label) near)) back
      (releases_older pw_id next next near (release_part (Some label) near) (λ other is. still_old next near label other is))
      (second_holds (names_old pw_id next near fec.pw_id (Some label)) (all_messages (releases_old pw_id next near) back) is.released);
  waits = waits near old (rw named at is.waits);
}
  where
    waits : (near : LocalPart) → is_old next near label ≡ true → is_waited_for pw_id next near out (LabelRelease id (record fec { pw_id = Some pw_id }) (Some label) ∷ back) ≡ true
        → is_waited_for pw_id next (release_part (Some label) near) out back ≡ true
    waits (Idle declined) old h = h
    waits (Advertised own told) old h = by_label (label == own) refl
      where
        apart : (own label : ℕ) (given : Bool) → given && not (own == label) ≡ true → (label == own) ≡ false
        apart own label given old = grind (arith, nat_tests)

        by_label : (same : Bool) → (label == own) ≡ same → is_waited_for pw_id next (cond same (Idle true) (Advertised own told)) out back ≡ true
        by_label true is = clash (sym (apart own label (next label) old) ∙ is)
        by_label false is = h
    waits (Withdrawing own) old h = by_label (label == own) (rw (itself pw_id) at h)
      where
        by_label : (same : Bool) → next own && (some_message (is_withdrawal_of pw_id own) out || (same || some_message (is_release_of pw_id own) back)) ≡ true
            → is_waited_for pw_id next (cond same (Idle false) (Withdrawing own)) out back ≡ true
        by_label true h = refl
        by_label false h = h

-- the end hears the next message of its neighbour
pub binding_hears : (pw_id : ℕ) (next : ℕ → Bool) (near : LocalPart) (far : Option Binding) (m : Message) (out back : List Message) → IsBoundBy pw_id next near far out (m ∷ back)
    → IsBoundBy pw_id next (answered_part pw_id m near) far out back
binding_hears pw_id next near far (LabelRelease id fec label) out back is =
    by_name fec.pw_id label refl refl (first_holds (names_old pw_id next near fec.pw_id label) (all_messages (releases_old pw_id next near) back) is.released)
  where
    by_name : (named given : Option ℕ) → fec.pw_id ≡ named → label ≡ given → names_old pw_id next near named given ≡ true → IsBoundBy pw_id next (released_by pw_id named given near) far out back
    by_name None given name_is label_is old = clash old
    by_name (Some n) None name_is label_is old = clash old
    by_name (Some n) (Some l) name_is label_is old = by_wire (n == pw_id) refl old
      where
        by_wire : (same : Bool) → n == pw_id ≡ same → not same || is_old next near l ≡ true → IsBoundBy pw_id next (cond same (release_part (Some l) near) near) far out back
        by_wire true here old = hears_old pw_id next near far id l fec out back old (name_is ∙ ap Some (eqb-true n pw_id here)) (rw label_is at is)
        by_wire false here old = hears_other pw_id next near far (LabelRelease id fec label) out back (λ own. rw (name_is, label_is, here) refl) is
binding_hears pw_id next near far m out back is = hears_other pw_id next near far m out back (λ own. refl) is
