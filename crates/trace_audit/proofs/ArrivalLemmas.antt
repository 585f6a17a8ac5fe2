-- A frame is found by its number, and by what it is.
use Rattle.std.proofs.Common.{Ordering, ◌≡◌, ◌<◌, ◌≤◌, ◌+◌, ◌==◌, ◌&&◌, ◌||◌, ◌++◌, ◌∷◌, ◌∙◌, ℕ, zero, suc, Bool, true, false, List, [], Option, Some, None, IfSome, length, option_map, slice_get, is_some, nat_lt, cond, take, drop, refl, ap, ap₂, sym, subst, arith, take-append-drop}
use Rattle.std.proofs.lemmas.Bool.{eqb-true}
use Rattle.std.proofs.lemmas.List.{append_assoc, length-append, length-drop}
use Rattle.std.proofs.lemmas.Map.Text.{is_eq-slice_cmp}
use Rattle.std.specs.BTreeMap.{is_at}
use Rattle.std.specs.BTreeSet.{insert_key}
use Rattle.std.specs.Cmp.Lexicographic.{slice_cmp}
use Rattle.std.specs.List.{list_any}
use Rattle.std.specs.Ordering.{is_eq, match_ordering, nat_cmp, ordering_then}
use Rattle.std.specs.Str.{bytes_eq}
use Rattle.std.specs.declared.cmp.Ordering.TheVariants.{Less, Equal, Greater}
use Rattle.net_values.proofs.BoolLemmas.{or_none}
use Rattle.net_values.proofs.NumberLemmas.{less_apart}
use Rattle.seen_state.specs.Numbered.{Values, no_values, value_at}
use Rattle.trace_audit.specs.Arrivals.{AreInside, ArePlaced, ArePlacedInside, ArrivalLists, Entered, TellsArrivals, entered_of, first_at, first_under, frame_in, has_come, has_other, is_entered, is_first, with_came}
use Rattle.trace_audit.specs.declared.arrivals.First.{First}
use Rattle.trace_audit.specs.declared.entered_frame.EnteredFrame.{EnteredFrame}
use Rattle.trace_audit.proofs.PathLemmas.{entered_itself, entered_same, kept_found}

-- ---- one frame

came_more : (known : List Entered) (one other : Entered) → has_come (with_came known one) other ≡ has_come known other || is_entered other one
came_more known one other = kept_found known one other ∙ ap (λ (b : Bool). has_come known other || b) (sym (or_none (is_entered other one)))

-- ---- none

pub none_placed : ArePlacedInside no_values [] 0
none_placed = record { placed = λ number place is. absurd (cc is); inside = tt }

pub none_arrived : (places : Values ℕ) (firsts : List First) (octets : List ℕ) (others : List EnteredFrame) → places ≡ no_values → firsts ≡ [] → others ≡ []
    → TellsArrivals (record { places = places; firsts = firsts; octets = octets; others = others }) []
none_arrived places firsts octets others no_places no_firsts none = λ one.
    ap₂ (λ (o : Option First) (l : List EnteredFrame). is_first one (option_map (frame_in octets) o) || has_other l one)
    (ap₂ (λ (l : List First) (v : Values ℕ). first_at l (value_at v one.number)) no_firsts no_places) none

-- ---- octets one behind the other

take_front : (n : ℕ) (xs ys : List ℕ) → n ≤ length xs → take n (xs ++ ys) ≡ take n xs
take_front zero xs ys few = refl
take_front (suc n) [] ys few = absurd (omega (arith, few))
take_front (suc n) (x ∷ xs) ys few = ap (λ (l : List ℕ). x ∷ l) (take_front n xs ys (omega (arith, few)))

-- a piece of the front is that of the whole
piece_front : (at len : ℕ) (xs ys : List ℕ) → at + len ≤ length xs → take len (drop at (xs ++ ys)) ≡ take len (drop at xs)
piece_front zero len xs ys few = take_front len xs ys (omega (arith, few))
piece_front (suc at) len [] ys few = absurd (omega (arith, few))
piece_front (suc at) len (x ∷ xs) ys few = piece_front at len xs ys (omega (arith, few))

-- the last one is what was put behind
piece_last : (xs ys : List ℕ) → take (length ys) (drop (length xs) (xs ++ ys)) ≡ ys
piece_last [] ys = all ys where
  all : (ys : List ℕ) → take (length ys) ys ≡ ys
  all [] = refl
  all (y ∷ ys) = ap (λ (l : List ℕ). y ∷ l) (all ys)
piece_last (x ∷ xs) ys = piece_last xs ys

inside_more : (firsts : List First) (count more : ℕ) → count ≤ more → AreInside firsts count → AreInside firsts more
inside_more [] count more grown are = tt
inside_more (f ∷ fs) count more grown are = (omega (arith, grown, are.0), inside_more fs count more grown are.1)

inside_last : (firsts : List First) (first : First) (count : ℕ) → first.at + first.len ≤ count → AreInside firsts count → AreInside (firsts ++ first ∷ []) count
inside_last [] first count is are = (is, tt)
inside_last (f ∷ fs) first count is are = (are.0, inside_last fs first count is are.1)

inside_at : (firsts : List First) (place count : ℕ) → AreInside firsts count → IfSome (slice_get firsts place) (λ first. first.at + first.len ≤ count)
inside_at [] place count are = tt
inside_at (f ∷ fs) zero count are = are.0
inside_at (f ∷ fs) (suc place) count are = inside_at fs place count are.1

first_inside : (places : Values ℕ) (firsts : List First) (count number : ℕ) (first : First) → ArePlacedInside places firsts count → first_at firsts (value_at places number) ≡ Some first
    → first.at + first.len ≤ count
first_inside places firsts count number first are is = subst (λ (o : Option First). IfSome o (λ f. f.at + f.len ≤ count)) is (by (value_at places number)) where
  by : (o : Option ℕ) → IfSome (first_at firsts o) (λ f. f.at + f.len ≤ count)
  by None = tt
  by (Some place) = inside_at firsts place count are.inside

pub at_within : (places : Values ℕ) (firsts : List First) (count number : ℕ) (first : First) → ArePlacedInside places firsts count → first_at firsts (value_at places number) ≡ Some first
    → first.at ≤ count
at_within places firsts count number first are is = omega (arith, first_inside places firsts count number first are is)

pub len_within : (places : Values ℕ) (firsts : List First) (octets : List ℕ) (number : ℕ) (first : First) → ArePlacedInside places firsts (length octets)
    → first_at firsts (value_at places number) ≡ Some first → first.len ≤ length (drop first.at octets)
len_within places firsts octets number first are is = omega (arith, length-drop first.at octets, first_inside places firsts (length octets) number first are is)

-- ---- the first one of a number

-- the first one of its number is among those that entered
pub first_arrived : (arrivals : ArrivalLists) (known : List Entered) (one : Entered) (first : First) → TellsArrivals arrivals known
    → first_at arrivals.firsts (value_at arrivals.places one.number) ≡ Some first → frame_in arrivals.octets first ≡ one → has_come known one ≡ true
first_arrived arrivals known one first tells found same =
    sym (tells one)
    ∙ (ap (λ (o : Option First). is_first one (option_map (frame_in arrivals.octets) o) || has_other arrivals.others one) found
    ∙ ap (λ (b : Bool). b || has_other arrivals.others one) (ap (is_entered one) same ∙ entered_itself one))

get_front : (xs : List First) (x : First) (n : ℕ) → n < length xs → slice_get (xs ++ x ∷ []) n ≡ slice_get xs n
get_front [] x n less = absurd (omega (arith, less))
get_front (y ∷ ys) x zero less = refl
get_front (y ∷ ys) x (suc n) less = get_front ys x n (omega (arith, less))

get_last : (xs : List First) (x : First) → slice_get (xs ++ x ∷ []) (length xs) ≡ Some x
get_last [] x = refl
get_last (y ∷ ys) x = get_last ys x

some_place : {a b : ℕ} → Some a ≡ Some b → a ≡ b
some_place e = cc e

-- where octets come, and no frame yet
pub octets_placed : (places : Values ℕ) (firsts : List First) (octets more : List ℕ) → ArePlacedInside places firsts (length octets) → ArePlacedInside places firsts (length (octets ++ more))
octets_placed places firsts octets more are = record {
  placed = are.placed;
  inside = inside_more firsts (length octets) (length (octets ++ more)) (omega (arith, length-append octets more)) are.inside;
}

-- the places behind one more
pub frame_placed : (places : Values ℕ) (firsts : List First) (first : First) (count : ℕ) → first.at + first.len ≤ count → ArePlacedInside places firsts count
    → ArePlacedInside places (firsts ++ first ∷ []) count
frame_placed places firsts first count is are = record {
  placed = λ n place at. omega (arith, are.placed n place at, length-append firsts (first ∷ []));
  inside = inside_last firsts first count is are.inside;
}

pub number_placed : (places new : Values ℕ) (firsts : List First) (number place count : ℕ) → ArePlaced places place → length firsts ≡ suc place → ArePlacedInside places firsts count
    → ((n : ℕ) → value_at new n ≡ cond (n == number) (Some place) (value_at places n)) → ArePlacedInside new firsts count
number_placed places new firsts number place count are last inside put = record { placed = λ n at is. by n at (n == number) refl is; inside = inside.inside } where
  by : (n at : ℕ) (b : Bool) → (n == number) ≡ b → value_at new n ≡ Some at → at < length firsts
  by n at true here is = omega (arith, last, some_place (sym (put n ∙ ap (λ (b : Bool). cond b (Some place) (value_at places n)) here) ∙ is))
  by n at false away is = omega (arith, last, are n at (sym (put n ∙ ap (λ (b : Bool). cond b (Some place) (value_at places n)) away) ∙ is))

pub number_kept : (places new : Values ℕ) (firsts : List First) (count : ℕ) → ((n : ℕ) → value_at new n ≡ value_at places n) → ArePlacedInside places firsts count → ArePlacedInside new firsts count
number_kept places new firsts count same inside = record { placed = λ n at is. inside.placed n at (sym (same n) ∙ is); inside = inside.inside }

first_added : (places new : Values ℕ) (firsts : List First) (octets frame : List ℕ) (others : List EnteredFrame) (number service : ℕ) → ArePlacedInside places firsts (length octets)
    → is_some (value_at places number) ≡ false
    → ((n : ℕ) → value_at new n ≡ cond (n == number) (Some (length firsts)) (value_at places n))
    → (known : List Entered) → TellsArrivals (record { places = places; firsts = firsts; octets = octets; others = others }) known
    → TellsArrivals (record {
      places = new;
      firsts = firsts ++ record { number = number; at = length octets; len = length frame; service = service } ∷ [];
      octets = octets ++ frame;
      others = others;
    }) (with_came known (record { number = number; service = service; frame = frame }))
first_added places new firsts octets frame others number service are fresh put known tells = λ one. by one (one.number == number) refl ∙ sym (came_more known came one) where
  came : Entered
  came = record { number = number; service = service; frame = frame }

  first : First
  first = record { number = number; at = length octets; len = length frame; service = service }

  told : Entered → Option ℕ → Bool
  told one place = is_first one (option_map (frame_in (octets ++ frame)) (first_at (firsts ++ first ∷ []) place))

  turn : (a b c : Bool) → b ≡ c → a || b ≡ c || a
  turn true true c is = ap (λ (x : Bool). x || true) is
  turn true false c is = ap (λ (x : Bool). x || true) is
  turn false b c is = is ∙ or_none c

  no_first : (o : Option ℕ) → is_some o ≡ false → o ≡ None
  no_first None none = refl
  no_first (Some place) none = absurd (cc none)

  same_piece : (f : First) → f.at + f.len ≤ length octets → frame_in (octets ++ frame) f ≡ frame_in octets f
  same_piece f is = ap (λ (os : List ℕ). record { number = f.number; service = f.service; frame = os }) (piece_front f.at f.len octets frame is)

  same_first : (one : Entered) (o : Option First) → IfSome o (λ f. f.at + f.len ≤ length octets) → is_first one (option_map (frame_in (octets ++ frame)) o) ≡ is_first one (option_map (frame_in octets) o)
  same_first one None is = refl
  same_first one (Some f) is = ap (is_entered one) (same_piece f is)

  kept : (one : Entered) (o : Option ℕ) → value_at places one.number ≡ o → told one o ≡ is_first one (option_map (frame_in octets) (first_at firsts o))
  kept one None is = refl
  kept one (Some place) is =
      ap (λ (o : Option First). is_first one (option_map (frame_in (octets ++ frame)) o)) (get_front firsts first place (are.placed one.number place is))
      ∙ same_first one (slice_get firsts place) (inside_at firsts place (length octets) are.inside)

  last : (one : Entered) → told one (Some (length firsts)) ≡ is_entered one came
  last one = ap (λ (o : Option First). is_first one (option_map (frame_in (octets ++ frame)) o)) (get_last firsts first)
      ∙ ap (λ (os : List ℕ). is_entered one (record { number = number; service = service; frame = os })) (piece_last octets frame)

  same_number : (one : Entered) → (one.number == number) ≡ true → one.number ≡ number
  same_number one here = eqb-true one.number number here

  by : (one : Entered) (b : Bool) → (one.number == number) ≡ b → told one (value_at new one.number) || has_other others one ≡ has_come known one || is_entered one came
  by one true here =
      ap (λ (o : Option ℕ). told one o || has_other others one) (put one.number ∙ ap (λ (b : Bool). cond b (Some (length firsts)) (value_at places one.number)) here)
      ∙ (ap (λ (b : Bool). b || has_other others one) (last one)
      ∙ turn (is_entered one came) (has_other others one) (has_come known one)
      (ap (λ (o : Option ℕ). is_first one (option_map (frame_in octets) (first_at firsts o)) || has_other others one)
      (sym (no_first (value_at places one.number) (ap (λ (n : ℕ). is_some (value_at places n)) (same_number one here) ∙ fresh)))
      ∙ tells one))
  by one false away =
      ap (λ (o : Option ℕ). told one o || has_other others one) (put one.number ∙ ap (λ (b : Bool). cond b (Some (length firsts)) (value_at places one.number)) away)
      ∙ (ap (λ (b : Bool). b || has_other others one) (kept one (value_at places one.number) refl)
      ∙ (tells one
      ∙ (or_none (has_come known one)
      ∙ ap (λ (b : Bool). has_come known one || b) (sym (ap (λ (t : Bool). t && (one.service == service && bytes_eq one.frame frame)) away)))))

-- the same, step by step
pub added_behind : (old : ArrivalLists) (new : ArrivalLists) (between : List ℕ) (front back : List ℕ) (first : First) (number service place : ℕ) → ArePlacedInside old.places old.firsts (length old.octets)
    → is_some (value_at old.places number) ≡ false
    → first.number ≡ number → first.at ≡ length old.octets → first.len ≡ length front + length back → first.service ≡ service → place ≡ length old.firsts
    → between ≡ old.octets ++ front → new.octets ≡ between ++ back → new.firsts ≡ old.firsts ++ first ∷ []
    → ((n : ℕ) → value_at new.places n ≡ cond (n == number) (Some place) (value_at old.places n)) → new.others ≡ old.others
    → (known : List Entered) → TellsArrivals old known → TellsArrivals new (with_came known (record { number = number; service = service; frame = front ++ back }))
added_behind old new between front back first number service place inside fresh numbered at len served last grew octets firsts put others known tells =
    subst (λ (a : ArrivalLists). TellsArrivals a (with_came known (record { number = number; service = service; frame = front ++ back })))
    (λ i. record { places = new.places; firsts = (ap (λ (f : First). old.firsts ++ f ∷ []) (sym same) ∙ sym firsts) i; octets = sym (octets ∙ joins) i; others = sym others i })
    (first_added old.places new.places old.firsts old.octets (front ++ back) old.others number service inside fresh (λ n.
    put n ∙ ap (λ (p : ℕ). cond (n == number) (Some p) (value_at old.places n)) last) known tells) where
      joins : between ++ back ≡ old.octets ++ (front ++ back)
      joins = ap (λ (xs : List ℕ). xs ++ back) grew ∙ append_assoc old.octets front back

      same : first ≡ record { number = number; at = length old.octets; len = length (front ++ back); service = service }
      same = λ i. record { number = numbered i; at = at i; len = (len ∙ sym (length-append front back)) i; service = served i }

-- ---- the others

abbrev pub came_order : EnteredFrame → EnteredFrame → Ordering
came_order a b = ordering_then (nat_cmp a.number b.number) (ordering_then (nat_cmp a.service b.service) (slice_cmp nat_cmp a.frame.items b.frame.items))

number_at : (a b : ℕ) → is_eq (nat_cmp a b) ≡ (a == b)
number_at a b = by (nat_lt a b) (a == b) (less_apart a b) where
  by : (l e : Bool) → (l ≡ true → e ≡ false) → is_eq (cond l Less (cond e Equal Greater)) ≡ e
  by true e apart = sym (apart refl)
  by false true apart = refl
  by false false apart = refl

both_at : (o p : Ordering) → is_eq (ordering_then o p) ≡ is_eq o && is_eq p
both_at Less p = refl
both_at Equal p = refl
both_at Greater p = refl

came_same : (a b : EnteredFrame) → is_eq (came_order a b) ≡ is_entered (entered_of a) (entered_of b)
came_same a b =
    both_at (nat_cmp a.number b.number) (ordering_then (nat_cmp a.service b.service) (slice_cmp nat_cmp a.frame.items b.frame.items))
    ∙ ap₂ (λ (x y : Bool). x && y) (number_at a.number b.number)
    (both_at (nat_cmp a.service b.service) (slice_cmp nat_cmp a.frame.items b.frame.items)
    ∙ ap₂ (λ (x y : Bool). x && y) (number_at a.service b.service) (is_eq-slice_cmp a.frame.items b.frame.items))

pub any_key : (others : List EnteredFrame) (came : EnteredFrame) → list_any (is_at (came_order came)) others ≡ has_other others (entered_of came)
any_key [] came = refl
any_key (x ∷ xs) came = ap₂ (λ (a b : Bool). a || b) (came_same came x) (any_key xs came)

other_put : (others : List EnteredFrame) (came : EnteredFrame) (one : Entered) → has_other (insert_key came_order others came) one ≡ has_other others one || is_entered one (entered_of came)
other_put [] came one = sym (or_none (is_entered one (entered_of came)))
other_put (x ∷ xs) came one = by (came_order came x) refl (other_put xs came one) where
  front : (a b : Bool) → a || b ≡ b || a
  front true true = refl
  front true false = refl
  front false true = refl
  front false false = refl

  there : (a b : Bool) → a || b ≡ (a || b) || a
  there true b = refl
  there false true = refl
  there false false = refl

  behind : (a b c d : Bool) → b ≡ c || d → a || b ≡ (a || c) || d
  behind true b c d is = refl
  behind false b c d is = is

  by : (o : Ordering) → came_order came x ≡ o → has_other (insert_key came_order xs came) one ≡ has_other xs one || is_entered one (entered_of came)
      → has_other (match_ordering o (came ∷ x ∷ xs) (x ∷ xs) (x ∷ insert_key came_order xs came)) one ≡ has_other (x ∷ xs) one || is_entered one (entered_of came)
  by Less is rest = front (is_entered one (entered_of came)) (has_other (x ∷ xs) one)
  by Equal is rest =
      there (is_entered one (entered_of x)) (has_other xs one)
      ∙ ap (λ (e : Entered). has_other (x ∷ xs) one || is_entered one e) (sym (entered_same (entered_of came) (entered_of x) (sym (came_same came x) ∙ ap is_eq is)))
  by Greater is rest = behind (is_entered one (entered_of x)) (has_other (insert_key came_order xs came) one) (has_other xs one) (is_entered one (entered_of came)) rest

pub other_added : (arrivals : ArrivalLists) (new : List EnteredFrame) (came : EnteredFrame) → new ≡ insert_key came_order arrivals.others came → (known : List Entered) → TellsArrivals arrivals known
    → TellsArrivals (record arrivals { others = new }) (with_came known (entered_of came))
other_added arrivals new came put known tells = λ one.
    ap (λ (l : List EnteredFrame). is_first one (first_under arrivals one.number) || has_other l one) put
    ∙ (ap (λ (b : Bool). is_first one (first_under arrivals one.number) || b) (other_put arrivals.others came one)
    ∙ (front (is_first one (first_under arrivals one.number)) (has_other arrivals.others one) (is_entered one (entered_of came))
    ∙ (ap (λ (b : Bool). b || is_entered one (entered_of came)) (tells one)
    ∙ sym (came_more known (entered_of came) one)))) where
      front : (a b c : Bool) → a || (b || c) ≡ (a || b) || c
      front true b c = refl
      front false b c = refl

-- two parts are what they are cut from
pub parts_joined : (frame front back : List ℕ) (n : ℕ) → take n frame ≡ front → drop n frame ≡ back → frame ≡ front ++ back
parts_joined frame front back n first last = sym (take-append-drop n frame) ∙ ap₂ (λ (x y : List ℕ). x ++ y) first last
