-- A set of the first two ports.
use Rattle.std.proofs.Common.{◌≡◌, ◌≢◌, ◌<◌, ◌∙◌, ℕ, zero, suc, true, false, List, sym, arith}
use Rattle.std.proofs.lemmas.Bool.{true≢false}
use Rattle.hvpls_spokes.specs.PortSet.{holds_port}

pub both_had : (one two : List ℕ) → holds_port one 0 ≡ true → holds_port two 1 ≡ true → ((p : ℕ) → p ≢ 1 → holds_port two p ≡ holds_port one p) → (p : ℕ) → p < 2 → holds_port two p ≡ true
both_had one two first second others zero small = others 0 (λ is. omega (arith, is)) ∙ first
both_had one two first second others (suc zero) small = second
both_had one two first second others (suc (suc p)) small = absurd (omega (arith, small))

pub both_alone : (none one two : List ℕ) → ((p : ℕ) → holds_port none p ≡ false) → ((p : ℕ) → p ≢ 0 → holds_port one p ≡ holds_port none p) → ((p : ℕ) → p ≢ 1 → holds_port two p ≡ holds_port one p) → (p : ℕ) → holds_port two p ≡ true → p < 2
both_alone none one two empty first second zero is = omega arith
both_alone none one two empty first second (suc zero) is = omega arith
both_alone none one two empty first second (suc (suc p)) is =
    absurd (true≢false (sym is ∙ (second (suc (suc p)) (λ e. omega (arith, e)) ∙ (first (suc (suc p)) (λ e. omega (arith, e)) ∙ empty (suc (suc p))))))
