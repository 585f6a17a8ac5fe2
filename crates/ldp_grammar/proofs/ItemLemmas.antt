-- Items that stand one after another, and the first fault behind some of them.
use Rattle.std.proofs.Common.{◌≡◌, ◌<◌, ◌+◌, ◌++◌, ◌⊎◌, inl, inr, ℕ, List, [], ◌∷◌, length, flat_map, refl, sym, ap, subst, ◌∙◌, append_assoc, append-nil, length-append, arith}
use Rattle.std.proofs.lemmas.Grind.{flat_map-append}
use Rattle.std.specs.List.{AllByRecursion}
use Rattle.ldp_grammar.specs.declared.fault.Fault.{Fault}
use Rattle.ldp_grammar.specs.FirstFault.{IsNamedIn, IsFirst, IsFirstHere, Precedes, moved}

-- no item's octets begin with another item's octets
abbrev pub ArePrefixFree : {A : Type 0} → (A → List ℕ) → (A → Type 0) → Type 0
ArePrefixFree {A = A} spelled IsItem = (s t : A) (more rest : List ℕ) → IsItem s → IsItem t → spelled s ++ more ≡ spelled t ++ rest → (s ≡ t) × (more ≡ rest)

-- the octets of the list begin with those of the other
record Extends {A : Type 0} (spelled : A → List ℕ) (ts before : List A) (more rest : List ℕ) : Type 0 where
  further : List A
  longer : before ≡ ts ++ further
  left : more ≡ flat_map spelled further ++ rest

-- the list goes on with an item behind the other
record GoesOn {A : Type 0} (spelled : A → List ℕ) (ts before : List A) (more rest : List ℕ) : Type 0 where
  item : A
  further : List A
  longer : ts ≡ before ++ item ∷ further
  left : rest ≡ spelled item ++ (flat_map spelled further ++ more)

-- of two lists of items whose octets are the same as far as they go, one begins with the other
compared : {A : Type 0} (spelled : A → List ℕ) (IsItem : A → Type 0) → ArePrefixFree spelled IsItem → (ts before : List A) (more rest : List ℕ) → AllByRecursion IsItem ts
    → AllByRecursion IsItem before → flat_map spelled ts ++ more ≡ flat_map spelled before ++ rest
    → Extends spelled ts before more rest ⊎ GoesOn spelled ts before more rest
compared spelled IsItem free [] before more rest fit_ts fit_before e = inl (record { further = before; longer = refl; left = e })
compared spelled IsItem free (t ∷ ts) [] more rest fit_ts fit_before e =
    inr (record { item = t; further = ts; longer = refl; left = sym e ∙ append_assoc (spelled t) (flat_map spelled ts) more })
compared spelled IsItem free (t ∷ ts) (b ∷ bs) more rest fit_ts fit_before e =
    let joined : spelled t ++ (flat_map spelled ts ++ more) ≡ spelled b ++ (flat_map spelled bs ++ rest) =
    sym (append_assoc (spelled t) (flat_map spelled ts) more) ∙ (e ∙ append_assoc (spelled b) (flat_map spelled bs) rest) in
    let (head, tail) = free t b (flat_map spelled ts ++ more) (flat_map spelled bs ++ rest) fit_ts.0 fit_before.0 joined in
    elim (compared spelled IsItem free ts bs more rest fit_ts.1 fit_before.1 tail) [
      | inl w ↦ inl (record { further = w.further; longer = (λ i. sym head i ∷ w.longer i); left = w.left })
      | inr w ↦ inr (record { item = w.item; further = w.further; longer = (λ i. head i ∷ w.longer i); left = w.left })
    ]

-- no item of the list is at fault, whatever stands behind it
abbrev pub AreClean : {A : Type 0} → (A → List ℕ) → (List A → List ℕ → Fault → Type 0) → List A → Type 0
AreClean {A = A} spelled Here ts = (before : List A) (t : A) (further : List A) (rest : List ℕ) (f : Fault) → ts ≡ before ++ t ∷ further → Here before (spelled t ++ rest) f → ⊥

pub moved_after : (n : ℕ) (f g : Fault) → Precedes f g → Precedes (moved n f) (moved n g)
moved_after n f g (inl less) = inl (omega arith)
moved_after n f g (inr both) = inr (ap (λ (p : ℕ). n + p) both.0, both.1)

item_after : {A : Type 0} (IsItem : A → Type 0) (ts further : List A) (t : A) → AllByRecursion IsItem (ts ++ t ∷ further) → IsItem t
item_after IsItem [] further t all = all.0
item_after IsItem (x ∷ ts) further t all = item_after IsItem ts further t all.1

-- where the list ends before the fault's own list ends
after : {A : Type 0} (spelled : A → List ℕ) (IsItem : A → Type 0) (Here : List A → List ℕ → Fault → Type 0) (ts : List A) (rest : List ℕ) (f : Fault)
    → ((g : Fault) → Here ts rest g → Precedes f g)
    → ((t : A) (more : List ℕ) → IsItem t → rest ≡ spelled t ++ more → f.place < length (spelled t))
    → (further before : List A) (left : List ℕ) (here g : Fault) → AllByRecursion IsItem before → Here before left here → g ≡ moved (length (flat_map spelled before)) here → before
    ≡ ts ++ further → rest ≡ flat_map spelled further ++ left
    → Precedes (moved (length (flat_map spelled ts)) f) g
after {A = A} spelled IsItem Here ts rest f least inside [] before left here g items names is longer e =
    let same : before ≡ ts = longer ∙ append-nil ts in
    let back : left ≡ rest = sym e in
    let named : Here ts rest here = subst (λ (l : List A). Here l rest here) same (subst (λ (l : List ℕ). Here before l here) back names) in
    let moved_to : moved (length (flat_map spelled ts)) here ≡ g = ap (λ (l : List A). moved (length (flat_map spelled l)) here) (sym same) ∙ sym is in
    subst (λ (h : Fault). Precedes (moved (length (flat_map spelled ts)) f) h) moved_to (moved_after (length (flat_map spelled ts)) f here (least here named))
after {A = A} spelled IsItem Here ts rest f least inside (t ∷ further) before left here g items names is longer e =
    let item : IsItem t = item_after IsItem ts further t (subst (AllByRecursion IsItem) longer items) in
    let less : f.place < length (spelled t) = inside t (flat_map spelled further ++ left) item (e ∙ append_assoc (spelled t) (flat_map spelled further) left) in
    let size : length (flat_map spelled before) ≡ length (flat_map spelled ts) + (length (spelled t) + length (flat_map spelled further)) =
    ap (λ (l : List A). length (flat_map spelled l)) longer
    ∙ (ap length (flat_map-append spelled ts (t ∷ further))
    ∙ (length-append (flat_map spelled ts) (spelled t ++ flat_map spelled further) ∙ ap (λ (n : ℕ). length (flat_map spelled ts) + n) (length-append (spelled t) (flat_map spelled further)))) in
    let place : g.place ≡ length (flat_map spelled before) + here.place = ap (λ (h : Fault). h.place) is in
    inl (omega (arith, less, size, place))

-- of the faults behind the items of the list, one that is first where the list ends is first of all
pub first_behind : {A : Type 0} (spelled : A → List ℕ) (IsItem : A → Type 0) (Here : List A → List ℕ → Fault → Type 0) → ArePrefixFree spelled IsItem
    → (ts : List A) (rest : List ℕ) (f : Fault) → AllByRecursion IsItem ts → AreClean spelled Here ts → IsFirstHere spelled IsItem Here ts rest f
    → IsFirst (IsNamedIn spelled IsItem Here (flat_map spelled ts ++ rest)) (moved (length (flat_map spelled ts)) f)
first_behind {A = A} spelled IsItem Here free ts rest f items clean here = record {
  named = record { before = ts; rest = rest; split = refl; items = items; here = f; names = here.named; is = refl };
  first = λ g w. elim (compared spelled IsItem free ts w.before rest w.rest items w.items w.split) [
    | inl x ↦ after spelled IsItem Here ts rest f here.first here.inside x.further w.before w.rest w.here g w.items w.names w.is x.longer x.left
    | inr x ↦ absurd (clean w.before x.item x.further (flat_map spelled x.further ++ rest) w.here x.longer (subst (λ (l : List ℕ). Here w.before l w.here) x.left w.names))
  ];
}

no_front : (xs ys : List ℕ) → [] ≡ xs ++ ys → (xs ≡ []) × (ys ≡ [])
no_front [] ys e = (refl, sym e)
no_front (x ∷ xs) ys e = absurd (cc)

-- no fault is named in the octets of items without fault
pub none_named : {A : Type 0} (spelled : A → List ℕ) (IsItem : A → Type 0) (Here : List A → List ℕ → Fault → Type 0) → ArePrefixFree spelled IsItem
    → (ts : List A) → AllByRecursion IsItem ts → AreClean spelled Here ts → ((before : List A) (g : Fault) → Here before [] g → ⊥)
    → (g : Fault) → IsNamedIn spelled IsItem Here (flat_map spelled ts) g → ⊥
none_named spelled IsItem Here free ts items clean none g w =
    elim (compared spelled IsItem free ts w.before [] w.rest items w.items (append-nil (flat_map spelled ts) ∙ w.split)) [
      | inl x ↦ none w.before w.here (subst (λ (l : List ℕ). Here w.before l w.here) ((no_front _ _ x.left).1) w.names)
      | inr x ↦ clean w.before x.item x.further (flat_map spelled x.further ++ []) w.here x.longer (subst (λ (l : List ℕ). Here w.before l w.here) x.left w.names)
    ]

-- octets are those of one list of items at most
pub one_list : {A : Type 0} (spelled : A → List ℕ) (IsItem : A → Type 0) → ArePrefixFree spelled IsItem → ((t : A) → 0 < length (spelled t))
    → (ts us : List A) → AllByRecursion IsItem ts → AllByRecursion IsItem us → flat_map spelled ts ≡ flat_map spelled us → ts ≡ us
one_list spelled IsItem free some [] [] all_ts all_us e = refl
one_list spelled IsItem free some [] (u ∷ us) all_ts all_us e =
    let none : spelled u ≡ [] = (no_front _ _ e).0 in
    let long : 0 < length (spelled u) = some u in
    absurd (omega (arith, ap length none, long))
one_list spelled IsItem free some (t ∷ ts) [] all_ts all_us e =
    let none : spelled t ≡ [] = (no_front _ _ (sym e)).0 in
    let long : 0 < length (spelled t) = some t in
    absurd (omega (arith, ap length none, long))
one_list spelled IsItem free some (t ∷ ts) (u ∷ us) all_ts all_us e =
    let (head, tail) = free t u (flat_map spelled ts) (flat_map spelled us) all_ts.0 all_us.0 e in
    let more : ts ≡ us = one_list spelled IsItem free some ts us all_ts.1 all_us.1 tail in
    λ i. head i ∷ more i

-- one more item stands behind the list
pub items_more : {A : Type 0} (IsItem : A → Type 0) (ts : List A) (t : A) → AllByRecursion IsItem ts → IsItem t → AllByRecursion IsItem (ts ++ t ∷ [])
items_more IsItem [] t all is = (is, tt)
items_more IsItem (x ∷ ts) t all is = (all.0, items_more IsItem ts t all.1 is)

pub item_at : {A : Type 0} (IsItem : A → Type 0) (before further : List A) (t : A) (ts : List A) → ts ≡ before ++ t ∷ further → AllByRecursion IsItem ts → IsItem t
item_at IsItem before further t ts e all = item_after IsItem before further t (subst (AllByRecursion IsItem) e all)
