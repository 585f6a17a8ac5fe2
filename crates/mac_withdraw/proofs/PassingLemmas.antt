-- The ports that pass a test are put into a set one by one.
use Rattle.std.proofs.Common.{◌≡◌, ◌≢◌, ◌≤◌, ◌+◌, ◌&&◌, ◌∙◌, ℕ, zero, suc, Bool, true, false, nat_lt, List, [], ◌∷◌, length, sym, subst, inl, inr, arith, refl}
use Rattle.std.proofs.lemmas.Bool.{cases_eq, cases_order}
use Rattle.std.proofs.lemmas.Bool.Decides.{nat_tests}
use Rattle.hvpls_spokes.specs.declared.edge_role.Role.TheVariants as role
use Rattle.hvpls_spokes.specs.declared.port.Port.{Port}
use Rattle.mac_withdraw.specs.Passing.{is_passed_to, is_wire_at}

before_next : (test : ℕ → Bool) (p port : ℕ) → p ≢ port → nat_lt p port && test p ≡ nat_lt p (port + 1) && test p
before_next test p port apart = grind (arith, nat_tests)

-- the next port passes the test, and is put into the set
pub put_next : (test old now : ℕ → Bool) (port : ℕ) → ((p : ℕ) → old p ≡ (nat_lt p port && test p)) → test port ≡ true → now port ≡ true → ((p : ℕ) → p ≢ port → now p ≡ old p)
    → (p : ℕ) → now p ≡ (nat_lt p (port + 1) && test p)
put_next test old now port so_far passes it others p = elim (cases_eq p port) [
  | inl same ↦ subst (λ (p : ℕ). now p ≡ (nat_lt p (port + 1) && test p)) (sym same) (grind (arith, nat_tests, it, passes))
  | inr apart ↦ others p apart ∙ (so_far p ∙ before_next test p port apart)
]

-- the next port does not pass it
pub pass_over : (test old : ℕ → Bool) (port : ℕ) → ((p : ℕ) → old p ≡ (nat_lt p port && test p)) → test port ≡ false → (p : ℕ) → old p ≡ (nat_lt p (port + 1) && test p)
pass_over test old port so_far fails p = elim (cases_eq p port) [
  | inl same ↦ subst (λ (p : ℕ). old p ≡ (nat_lt p (port + 1) && test p)) (sym same) (so_far port ∙ grind (arith, nat_tests, fails))
  | inr apart ↦ so_far p ∙ before_next test p port apart
]

-- a port by which an edge passes something on is one of its ports
wire_within : (ports : List Port) (p : ℕ) → length ports ≤ p → is_wire_at ports p ≡ false
wire_within [] p past = refl
wire_within (first ∷ ports) zero past = absurd (omega arith)
wire_within (first ∷ ports) (suc p) past = wire_within ports p (omega arith)

pub all_passed : (ports : List Port) (from port : ℕ) (now : ℕ → Bool) → length ports ≤ port → ((p : ℕ) → now p ≡ (nat_lt p port && is_passed_to role.Core ports from p))
    → (p : ℕ) → now p ≡ is_passed_to role.Core ports from p
all_passed ports from port now end so_far p = so_far p ∙ elim (cases_order p port) [
  | inl same ↦ let none : is_wire_at ports p ≡ false = wire_within ports p (omega arith) in grind (arith, nat_tests, none)
  | inr apart ↦ elim apart [
    | inl less ↦ grind (arith, nat_tests)
    | inr more ↦ let none : is_wire_at ports p ≡ false = wire_within ports p (omega arith) in grind (arith, nat_tests, none)
  ]
]
