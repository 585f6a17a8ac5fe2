-- What several crates and files need of the definitions here.
use Rattle.std.proofs.Common.{◌++◌, ◌<◌, ◌∷◌, ◌≡◌, List, Some, [], ap, arith, length, slice_index_or, suc, sym, true, zero, ℕ}
use Rattle.net_base.specs.declared.outside.link_call.LinkCall.{LinkCall}
use Rattle.net_base.specs.declared.plan.places.EdgeId.{EdgeId}
use Rattle.net_base.specs.declared.plan.places.WireId.{WireId}
use Rattle.net_base.specs.declared.plan.wire_plan.WirePlan.{WirePlan}
use Rattle.net_base.specs.declared.trace.entry.Entry.{Entry}

pub last_taken : (calls : List LinkCall) (call : LinkCall) → call.taken ≡ true → ((k : ℕ) (other : LinkCall) → k < length calls → (slice_index_or calls k other).taken ≡ true)
    → (k : ℕ) (other : LinkCall) → k < length (calls ++ call ∷ []) → (slice_index_or (calls ++ call ∷ []) k other).taken ≡ true
last_taken [] call is all zero other below = is
last_taken [] call is all (suc k) other below = absurd (omega arith)
last_taken (c ∷ cs) call is all zero other below = all zero other (omega arith)
last_taken (c ∷ cs) call is all (suc k) other below = last_taken cs call is (λ i o h. all (suc i) o (omega arith)) k other (omega arith)

pub same_entries : {x y : Entry} {xs ys : List Entry} → x ≡ y → xs ≡ ys → x ∷ xs ≡ y ∷ ys
same_entries p q = λ i. p i ∷ q i

pub same_option : (a b : EdgeId) → Some a ≡ Some b → a ≡ b
same_option a b e = cc

pub same_row : {a b : WirePlan} → Some a ≡ Some b → a ≡ b
same_row e = cc

pub same_wire : (one other : WireId) → one.0 ≡ other.0 → other ≡ one
same_wire one other same = ap (λ (n : ℕ). record { 0 = n }) (sym same)
