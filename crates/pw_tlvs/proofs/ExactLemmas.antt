-- A call that answers a value that holds, or the first fault, answers each exactly where it is so.
use Rattle.std.proofs.Common.{◌≡◌, ◌↔◌, ap, subst, Option, Some, None, Ok, Err}
use Rattle.std.specs.Prelude.{IfOk, IfErr, IfSome, IfNone, Result}
use Rattle.pw_tlvs.specs.declared.field_fault.FieldFault.{FieldFault}
use Rattle.pw_tlvs.specs.Faults.{IsFirstIn}
use Rattle.pw_tlvs.proofs.FaultLemmas.{one_first}

module _ {V : Type 0} (Is : V → Type 0) (Named : FieldFault → Type 0) where
  -- a value is answered exactly where it holds
  pub exact_ok : (one : (a b : V) → Is a → Is b → a ≡ b) (never : (a : V) (f : FieldFault) → Is a → Named f → ⊥) (r : Result V FieldFault) → IfOk r Is → IfErr r (IsFirstIn Named)
      → (a : V) → (r ≡ Ok a) ↔ Is a
  exact_ok one never (Ok b) ok err a = (λ e. let same : b ≡ a = cc (e) in subst Is same ok, λ is. ap Ok (one b a ok is))
  exact_ok one never (Err g) ok err a = (λ e. absurd (cc (e)), λ is. absurd (never a g is err.named))

  -- a fault is answered exactly where it is the first
  pub exact_err : (never : (a : V) (f : FieldFault) → Is a → Named f → ⊥) (r : Result V FieldFault) → IfOk r Is → IfErr r (IsFirstIn Named) → (f : FieldFault) → (r ≡ Err f) ↔ IsFirstIn Named f
  exact_err never (Ok b) ok err f = (λ e. absurd (cc (e)), λ first. absurd (never b f ok first.named))
  exact_err never (Err g) ok err f = (λ e. let same : g ≡ f = cc (e) in subst (IsFirstIn Named) same err, λ first. ap Err (one_first g f err first))

-- what holds of each fault that can be named holds of the first
pub err_of_named : {V : Type 0} (Named Holds : FieldFault → Type 0) (r : Result V FieldFault) → IfErr r (IsFirstIn Named) → ((f : FieldFault) → Named f → Holds f) → IfErr r Holds
err_of_named Named Holds (Ok v) err all = tt
err_of_named Named Holds (Err f) err all = all f err.named

-- the first fault that is answered alone is answered exactly where it is so
pub exact_fault : (Named : FieldFault → Type 0) (r : Option FieldFault) → IfSome r (IsFirstIn Named) → IfNone r ((f : FieldFault) → Named f → ⊥) → (f : FieldFault) → (r ≡ Some f) ↔ IsFirstIn Named f
exact_fault Named None some none f = (λ e. absurd (cc (e)), λ first. absurd (none f first.named))
exact_fault Named (Some g) some none f = (λ e. let same : g ≡ f = cc (e) in subst (IsFirstIn Named) same some, λ first. ap Some (one_first g f some first))

-- what holds of each fault that can be named holds of the first that is answered
pub some_of_named : (Named Holds : FieldFault → Type 0) (r : Option FieldFault) → IfSome r (IsFirstIn Named) → ((f : FieldFault) → Named f → Holds f) → IfSome r Holds
some_of_named Named Holds None some all = tt
some_of_named Named Holds (Some f) some all = all f some.named
