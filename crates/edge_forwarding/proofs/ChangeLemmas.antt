-- Domain after domain is changed.
use Rattle.std.proofs.Common.{◌≡◌, ◌<◌, ◌≤◌, ◌+◌, ◌∙◌, ℕ, suc, Bool, true, false, nat_eq, List, [], ◌∷◌, Option, None, length, map, slice_index_or, slice_set, get_or, cond, length-set, ap, sym, subst, inl, inr, arith, refl}
use Rattle.std.specs.Prelude.{All}
use Rattle.std.proofs.lemmas.Bool.{cases_order, eqb-true}
use Rattle.std.proofs.lemmas.Bool.Decides.{nat_tests}
use Rattle.net_values.proofs.RowLemmas.{same_read}
use Rattle.edge_forwarding.specs.declared.domain.Domain.{Domain}
use Rattle.edge_forwarding.specs.declared.domain_change.DomainChange.{DomainChange}
use Rattle.edge_forwarding.specs.declared.domain_change.DomainChange.TheVariants as change
use Rattle.edge_forwarding.specs.Change.{AreChanged, IsKeptChanged, MayChange}
use Rattle.edge_forwarding.proofs.Views.{past_end, view_at}

-- where there is no domain nothing is changed
pub changed_none : (to : DomainChange) → IsKeptChanged to None None
changed_none (change.Turn port on) = tt
changed_none (change.Forget port) = refl
changed_none (change.Withdraw from addresses) = refl
changed_none change.Close = tt
changed_none change.Clear = refl
changed_none (change.Age now) = refl

-- the domains before a place are changed, and the others are as they were
pub record AreChangedTo (to : DomainChange) (old now : List (Option Domain)) (place : ℕ) : Type 0 where
  pub len : length now ≡ length old
  pub before : (k : ℕ) → k < place → IsKeptChanged to (slice_index_or old k None) (slice_index_or now k None)
  pub after : (k : ℕ) → place ≤ k → slice_index_or now k None ≡ slice_index_or old k None

pub changed_first : (to : DomainChange) (old : List (Option Domain)) → AreChangedTo to old old 0
changed_first to old = record { len = refl; before = λ k below. absurd (omega arith); after = λ k above. refl }

-- the next domain is as it was
next_was : (to : DomainChange) (old now : List (Option Domain)) (place : ℕ) (x : Option Domain) → AreChangedTo to old now place → place < length now → x ≡ get_or now place x → x
    ≡ slice_index_or old place None
next_was to old now place x are within read = read ∙ (same_read now place x None within ∙ are.after place (omega arith))

pub may_change : (to : DomainChange) (old now : List (Option Domain)) (place : ℕ) (x : Option Domain) → All (MayChange to) old → AreChangedTo to old now place → place < length now → x
    ≡ get_or now place x → MayChange to x
may_change to old now place x may are within read =
    let there : place < length old = omega (arith, are.len, within) in
    subst (MayChange to) (sym (next_was to old now place x are within read ∙ sym (same_read old place x None there))) (may place x there)

pub changed_more : (to : DomainChange) (old now : List (Option Domain)) (place : ℕ) (x y : Option Domain) → AreChangedTo to old now place → place < length now → x ≡ get_or now place x
    → IsKeptChanged to x y
    → AreChangedTo to old (slice_set now place y) (place + 1)
changed_more to old now place x y are within read one = record {
  len = length-set now place y ∙ are.len;
  before = λ k below. subst (IsKeptChanged to (slice_index_or old k None)) (sym (view_at None now place y k within)) (of k (nat_eq k place) refl below);
  after = λ k above. view_at None now place y k within ∙ (ap (λ (b : Bool). cond b y (slice_index_or now k None)) (apart k above) ∙ are.after k (omega (arith, above)));
}
  where
    apart : (k : ℕ) → place + 1 ≤ k → nat_eq k place ≡ false
    apart k above = grind (arith, nat_tests, above)

    less : (k : ℕ) → nat_eq k place ≡ false → k < place + 1 → k < place
    less k other below = grind (arith, nat_tests, other, below)

    of : (k : ℕ) (b : Bool) → nat_eq k place ≡ b → k < place + 1 → IsKeptChanged to (slice_index_or old k None) (cond b y (slice_index_or now k None))
    of k false other below = are.before k (less k other below)
    of k true same below =
        subst (λ (n : ℕ). IsKeptChanged to (slice_index_or old n None) y) (sym (eqb-true k place same))
        (subst (λ (d : Option Domain). IsKeptChanged to d y) (next_was to old now place x are within read) one)

pub changed_all : (to : DomainChange) (old now : List (Option Domain)) (place : ℕ) → AreChangedTo to old now place → length now ≤ place → AreChanged to old now
changed_all to old now place are past = record {
  len = are.len;
  each = λ k. elim (cases_order k place) [
    | inl same ↦ beyond k (omega (arith, are.len, past, same))
    | inr rest ↦ elim rest [
      | inl less ↦ are.before k less
      | inr more ↦ beyond k (omega (arith, are.len, past, more))
    ]
  ];
}
  where
    beyond : (k : ℕ) → length old ≤ k → IsKeptChanged to (slice_index_or old k None) (slice_index_or now k None)
    beyond k above =
        subst (λ (d : Option Domain). IsKeptChanged to d (slice_index_or now k None)) (sym (past_end None old k above))
        (subst (IsKeptChanged to None) (sym (past_end None now k (omega (arith, are.len, above)))) (changed_none to))

-- a list of which each item is that of another list after a change
pub all_mapped : (f : Option Domain → Option Domain) (old now : List (Option Domain)) → length now ≡ length old → ((k : ℕ) → slice_index_or now k None ≡ f (slice_index_or old k None))
    → now ≡ map f old
all_mapped f [] [] long each = refl
all_mapped f [] (y ∷ now) long each = absurd (omega (arith, long))
all_mapped f (x ∷ old) [] long each = absurd (omega (arith, long))
all_mapped f (x ∷ old) (y ∷ now) long each =
    ap (λ (d : Option Domain). d ∷ now) (each 0) ∙ ap (λ (l : List (Option Domain)). f x ∷ l) (all_mapped f old now (omega (arith, long)) (λ k. each (suc k)))
