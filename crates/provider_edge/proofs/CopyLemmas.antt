-- The copies of a frame, one by one.
use Rattle.std.proofs.Common.{◌≡◌, ◌<◌, ◌≤◌, ◌+◌, ◌∙◌, ℕ, zero, suc, Bool, false, List, [], ◌∷◌, cond, length, drop, slice_get, refl, ap, sym, arith}
use Rattle.hvpls_spokes.specs.declared.port.Port.{Port}
use Rattle.edge_model.specs.Frame.{copies}
use Rattle.edge_model.specs.Work.{Work}
use Rattle.provider_edge.specs.Taking.{copied_by}

copies_from : (targets : ℕ → Bool) (copy : Port → Work → Work) (k p : ℕ) (ports : List Port) (work : Work) → p < length ports
    → copies targets copy k (drop p ports) work ≡ copies targets copy (k + 1) (drop (suc p) ports) (cond (targets k) (copied_by copy (slice_get ports p) work) work)
copies_from targets copy k p [] work within = absurd (omega arith)
copies_from targets copy k zero (x ∷ ports) work within = refl
copies_from targets copy k (suc p) (x ∷ ports) work within = copies_from targets copy k p ports work (omega arith)

-- the copies from a port on are that by the port, where it is a target, and then those by the later ones
pub copies_next : (targets : ℕ → Bool) (copy : Port → Work → Work) (p : ℕ) (ports : List Port) (work : Work) → p < length ports
    → copies targets copy p (drop p ports) work ≡ copies targets copy (p + 1) (drop (p + 1) ports) (cond (targets p) (copied_by copy (slice_get ports p) work) work)
copies_next targets copy p ports work within =
    let next : suc p ≡ p + 1 = omega arith in
    copies_from targets copy p p ports work within ∙ ap (λ (n : ℕ). copies targets copy (p + 1) (drop n ports) (cond (targets p) (copied_by copy (slice_get ports p) work) work)) next

pub copies_end : (targets : ℕ → Bool) (copy : Port → Work → Work) (k p : ℕ) (ports : List Port) (work : Work) → length ports ≤ p → copies targets copy k (drop p ports) work ≡ work
copies_end targets copy k zero [] work past = refl
copies_end targets copy k (suc p) [] work past = refl
copies_end targets copy k zero (x ∷ ports) work past = absurd (omega arith)
copies_end targets copy k (suc p) (x ∷ ports) work past = copies_end targets copy k p ports work (omega arith)

-- where no port is meant there is no copy
pub copies_none : (targets : ℕ → Bool) (copy : Port → Work → Work) (p : ℕ) (ports : List Port) (work : Work) → ((q : ℕ) → targets q ≡ false) → copies targets copy p ports work ≡ work
copies_none targets copy p [] work none = refl
copies_none targets copy p (x ∷ ports) work none =
    ap (λ (b : Bool). copies targets copy (p + 1) ports (cond b (copy x work) work)) (none p) ∙ copies_none targets copy (p + 1) ports work none

-- one copy more
pub copied_next : (targets : ℕ → Bool) (copy : Port → Work → Work) (p : ℕ) (ports : List Port) (work now whole : Work) → p < length ports
    → now ≡ cond (targets p) (copied_by copy (slice_get ports p) work) work → copies targets copy p (drop p ports) work ≡ whole → copies targets copy (p + 1) (drop (p + 1) ports) now ≡ whole
copied_next targets copy p ports work now whole within is so_far =
    ap (copies targets copy (p + 1) (drop (p + 1) ports)) is ∙ (sym (copies_next targets copy p ports work within) ∙ so_far)
