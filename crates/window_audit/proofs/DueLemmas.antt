-- The circuits at which a frame has to leave, one after the other.
use Rattle.std.proofs.Common.{◌≡◌, ◌==◌, ◌<◌, ◌≤◌, ◌+◌, ◌&&◌, ◌∙◌, ℕ, Bool, true, false, List, nat_lt, min, refl, ap, sym, arith}
use Rattle.std.proofs.lemmas.Bool.{eqb-true}
use Rattle.std.proofs.lemmas.Bool.Decides.{nat_tests}
use Rattle.hvpls_spokes.specs.PortSet.{holds_port}
use Rattle.net_base.specs.declared.plan.Plan.{Plan}
use Rattle.window_audit.specs.Verdict.{AgreeOrDiffer, is_owed_at}

-- none stands among those before it
pub due_none : (sites due : List ℕ) → ((c : ℕ) → holds_port due c ≡ false) → (c : ℕ) → holds_port due c ≡ (nat_lt c 0 && holds_port sites c)
due_none sites due none c = none c ∙ sym (ap (λ b. b && holds_port sites c) (let h : nat_lt c 0 ≡ false = grind (arith, nat_tests) in h))

pub due_new : (sites due : List ℕ) (k : ℕ) → ((c : ℕ) → holds_port due c ≡ (nat_lt c k && holds_port sites c)) → holds_port due k ≡ false
due_new sites due k known = known k ∙ ap (λ b. b && holds_port sites k) (let h : nat_lt k k ≡ false = grind (arith, nat_tests) in h)

pub due_more : (sites old new : List ℕ) (k : ℕ) → ((c : ℕ) → holds_port old c ≡ (nat_lt c k && holds_port sites c)) → holds_port new k ≡ holds_port sites k
    → ((c : ℕ) → (c ≡ k → ⊥) → holds_port new c ≡ holds_port old c) → (c : ℕ) → holds_port new c ≡ (nat_lt c (k + 1) && holds_port sites c)
due_more sites old new k known here others c = by (c == k) refl where
  by : (b : Bool) → (c == k) ≡ b → holds_port new c ≡ (nat_lt c (k + 1) && holds_port sites c)
  by true same = ap (holds_port new) (eqb-true c k same) ∙ (here ∙ (ap (holds_port sites) (sym (eqb-true c k same))
      ∙ sym (ap (λ b. b && holds_port sites c) (let h : nat_lt c (k + 1) ≡ true = grind (arith, nat_tests, same) in h))))
  by false away = others c (λ is. absurd (grind (arith, nat_tests, away, is))) ∙ (known c
      ∙ ap (λ b. b && holds_port sites c) (let h : nat_lt c k ≡ nat_lt c (k + 1) = grind (arith, nat_tests, away) in h))

-- all were looked at
pub due_all : (sites due : List ℕ) (count k : ℕ) → min count 512 ≤ k → k ≤ min count 512 → ((c : ℕ) → holds_port due c ≡ (nat_lt c k && holds_port sites c))
    → (c : ℕ) → c < 512 → holds_port due c ≡ (nat_lt c count && holds_port sites c)
due_all sites due count k from to known c port = known c ∙ ap (λ b. b && holds_port sites c) (let h : nat_lt c k ≡ nat_lt c count = grind (arith, nat_tests, from, to, port) in h)

pub same_agree : (plan : Plan) (sites at due : List ℕ) → at ≡ due → ((c : ℕ) → c < 512 → holds_port due c ≡ is_owed_at plan sites c) → AgreeOrDiffer plan sites at true
same_agree plan sites at due same known = λ c port. ap (λ s. holds_port s c) same ∙ known c port

pub ruleset due_steps = (due_none, due_new, due_more, due_all)
