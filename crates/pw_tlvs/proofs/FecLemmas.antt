-- The value of a FEC TLV is one, or its octets have one first fault.
use Rattle.std.proofs.Common.{◌≡◌, ◌≤◌, ◌<◌, ◌+◌, ℕ, List, length, take, drop, get_or, length-drop, refl, sym, ap, ◌∙◌, subst, arith, inl, inr, Some, None}
use Rattle.std.specs.Prelude.{slice_index, IfSome, IfNone, Option, option_map}
use Rattle.std.proofs.lemmas.List.{drop-drop, get_or-take}
use Rattle.byteorder.specs.Endian.{big_number}
use Rattle.pw_tlvs.specs.declared.field_fault.FieldFault.{FieldFault}
use Rattle.pw_tlvs.specs.declared.fec_value.FecValue.{FecValue}
use Rattle.pw_tlvs.specs.declared.fec_value.FecValue.TheVariants.{Pw, Foreign}
use Rattle.pw_tlvs.specs.declared.registry.Registry.TheVariants.{InterfaceParameter}
use Rattle.pw_tlvs.specs.declared.if_params.IfParams.{IfParams}
use Rattle.pw_tlvs.specs.declared.pw_fec.PwFec.{PwFec}
use Rattle.pw_tlvs.specs.Faults.{fault_place, IsInside, PrecedesIn, IsFirstIn}
use Rattle.pw_tlvs.specs.SubTlvs.{SubTlv, IsNamed, said}
use Rattle.pw_tlvs.specs.Fec.{AreParameters, IsPwid, information_length, IsTooShort, IsInformation, IsPwFec, IsFollowed, IsFecValue, IsFecFault, empty, short, too_short, past_end, parameter, text_of, vccv_of}
use Rattle.pw_tlvs.proofs.SubTlvLemmas.{never_both, one_joining}
use Rattle.pw_tlvs.proofs.WrongLemmas.{named_within}
use Rattle.std.proofs.lemmas.Bool.{cases_lt}

pub parameter_first : (octets : List ℕ) (f : FieldFault) → IsPwid octets → (IsTooShort (information_length octets) → ⊥) → 1 ≤ information_length octets → length octets ≡ 8 + information_length octets
    → IsFirstIn (IsNamed InterfaceParameter 12 (drop 12 octets)) f → IsFirstIn (IsFecFault octets) f
parameter_first octets f begun long some whole inner = record { named = parameter begun long some whole inner.named; first = first }
  where
    first : (g : FieldFault) → IsFecFault octets g → PrecedesIn f g
    first g (empty none e) = let h = begun.header in absurd (omega arith)
    first g (short some' first' few e) = let h = begun.header in absurd (omega arith)
    first g (too_short begun' few e) = absurd (long few)
    first g (past_end begun' far e) = absurd (omega arith)
    first g (parameter begun' long' some' whole' named) = inner.first g named

-- an element without parameters has no fault
pub element_bare : (octets : List ℕ) → IsPwid octets → (IsTooShort (information_length octets) → ⊥) → length octets ≡ 8 + information_length octets → length octets < 12
    → (f : FieldFault) → IsFecFault octets f → ⊥
element_bare octets begun long whole few f (empty none e) = let h = begun.header in omega arith
element_bare octets begun long whole few f (short some first less e) = let h = begun.header in omega arith
element_bare octets begun long whole few f (too_short begun' low e) = long low
element_bare octets begun long whole few f (past_end begun' far e) = omega arith
element_bare octets begun long whole few f (parameter begun' long' some whole' named) = long (some, omega (arith, whole, few))

-- the first fault of parameters is that of their element
pub element_first : (octets back : List ℕ) (r : Option FieldFault) → IsPwid octets → (IsTooShort (information_length octets) → ⊥) → length octets ≡ 8 + information_length octets
    → 12 ≤ length octets → back ≡ drop 12 octets
    → IfSome r (IsFirstIn (IsNamed InterfaceParameter 12 back)) → IfSome r (IsFirstIn (IsFecFault octets))
element_first octets back None begun long whole enough is first = tt
element_first octets back (Some f) begun long whole enough is first =
    parameter_first octets f begun long (omega (arith, whole, enough)) whole (subst (λ (l : List ℕ). IsFirstIn (IsNamed InterfaceParameter 12 l) f) is first)

-- where they have none, the element has none
pub element_none : (octets back : List ℕ) (r : Option FieldFault) → IsPwid octets → (IsTooShort (information_length octets) → ⊥) → length octets ≡ 8 + information_length octets → back ≡ drop 12 octets
    → IfNone r ((f : FieldFault) → IsNamed InterfaceParameter 12 back f → ⊥) → IfNone r ((f : FieldFault) → IsFecFault octets f → ⊥)
element_none octets back (Some f) begun long whole is none = tt
element_none octets back None begun long whole is none = by
  where
    by : (f : FieldFault) → IsFecFault octets f → ⊥
    by f (empty bare e) = let h = begun.header in omega arith
    by f (short some first few e) = let h = begun.header in omega arith
    by f (too_short begun' low e) = long low
    by f (past_end begun' far e) = omega arith
    by f (parameter begun' long' some whole' named) = none f (subst (λ (l : List ℕ). IsNamed InterfaceParameter 12 l f) (sym is) named)

-- the parameters of some octets are one
one_params : (octets : List ℕ) (a b : IfParams) → AreParameters octets a → AreParameters octets b → a ≡ b
one_params octets a b one other =
    let same = one_joining InterfaceParameter octets one.subs other.subs one.are other.are in
    let mtu = one.mtu ∙ (ap (λ (l : List SubTlv). option_map (λ (value : List ℕ). big_number 2 value) (said 0x01 l)) same ∙ sym other.mtu) in
    let description = one.description ∙ (ap (λ (l : List SubTlv). text_of (said 0x03 l)) same ∙ sym other.description) in
    let vlan = one.vlan ∙ (ap (λ (l : List SubTlv). option_map (λ (value : List ℕ). big_number 2 value) (said 0x06 l)) same ∙ sym other.vlan) in
    let vccv = one.vccv ∙ (ap (λ (l : List SubTlv). option_map vccv_of (said 0x0C l)) same ∙ sym other.vccv) in
    λ i. record { mtu = mtu i; description = description i; vlan = vlan i; vccv = vccv i }

one_information : (octets : List ℕ) (m n : Option ℕ) (a b : IfParams) → IsInformation octets m a → IsInformation octets n b → (m ≡ n) × (a ≡ b)
one_information octets None None a b one other = (refl, one.1 ∙ sym other.1)
one_information octets None (Some n) a b one other = let len = ap length one.0 in let four = other.0 in absurd (omega arith)
one_information octets (Some m) None a b one other = let len = ap length other.0 in let four = one.0 in absurd (omega arith)
one_information octets (Some m) (Some n) a b one other = (ap Some (one.1 ∙ sym other.1), one_params (drop 4 octets) a b one.2 other.2)

-- the octets are one element at most
pub one_pw : (octets : List ℕ) (a b : PwFec) → IsPwFec octets a → IsPwFec octets b → a ≡ b
one_pw octets a b one other =
    let (pw_id, params) = one_information (drop 8 octets) a.pw_id b.pw_id a.params b.params one.information other.information in
    let c = one.c ∙ sym other.c in
    let kind = one.kind ∙ sym other.kind in
    let group = one.group ∙ sym other.group in
    λ i. record { c = c i; kind = kind i; group = group i; pw_id = pw_id i; params = params i }

-- the octets are one value at most
pub one_fec : (octets : List ℕ) (a b : FecValue) → IsFecValue octets a → IsFecValue octets b → a ≡ b
one_fec octets (Pw a) (Pw b) one other = ap Pw (one_pw octets a b one other)
one_fec octets (Pw a) (Foreign b) one (inl other) = absurd (other.other (other.is ∙ one.begun.element))
one_fec octets (Pw a) (Foreign b) one (inr other) = let w = one.whole in let m = other.more in absurd (omega arith)
one_fec octets (Foreign a) (Pw b) (inl one) other = absurd (one.other (one.is ∙ other.begun.element))
one_fec octets (Foreign a) (Pw b) (inr one) other = let w = other.whole in let m = one.more in absurd (omega arith)
one_fec octets (Foreign a) (Foreign b) (inl one) (inl other) = ap Foreign (one.is ∙ sym other.is)
one_fec octets (Foreign a) (Foreign b) (inl one) (inr other) = absurd (one.other (one.is ∙ other.begun.element))
one_fec octets (Foreign a) (Foreign b) (inr one) (inl other) = absurd (other.other (other.is ∙ one.begun.element))
one_fec octets (Foreign a) (Foreign b) (inr one) (inr other) = ap Foreign (one.is ∙ sym other.is)

pw_no_fault : (octets : List ℕ) (a : PwFec) (f : FieldFault) → IsPwFec octets a → IsFecFault octets f → ⊥
pw_no_fault octets a f is (empty none e) = let h = is.begun.header in omega arith
pw_no_fault octets a f is (short some first few e) = let h = is.begun.header in omega arith
pw_no_fault octets a f is (too_short begun few e) = by a.pw_id is.information
  where
    by : (n : Option ℕ) → IsInformation (drop 8 octets) n a.params → ⊥
    by None inf = let len = ap length inf.0 in let d = length-drop 8 octets in let w = is.whole in let low = few.0 in omega arith
    by (Some n) inf = let four = inf.0 in let d = length-drop 8 octets in let w = is.whole in let high = few.1 in omega arith
pw_no_fault octets a f is (past_end begun far e) = let w = is.whole in omega arith
pw_no_fault octets a f is (parameter begun long some whole named) = by a.pw_id is.information
  where
    by : (n : Option ℕ) → IsInformation (drop 8 octets) n a.params → ⊥
    by None inf = let len = ap length inf.0 in let d = length-drop 8 octets in omega arith
    by (Some n) inf = never_both InterfaceParameter 12 (drop 4 (drop 8 octets)) inf.2.subs f inf.2.are (subst (λ (l : List ℕ). IsNamed InterfaceParameter 12 l f) (sym (drop-drop 4 8 octets)) named)

-- octets that are a value have no fault
pub never_fec : (octets : List ℕ) (a : FecValue) (f : FieldFault) → IsFecValue octets a → IsFecFault octets f → ⊥
never_fec octets (Pw a) f is named = pw_no_fault octets a f is named
never_fec octets (Foreign a) f (inl other) (empty none e) = let s = other.some in omega arith
never_fec octets (Foreign a) f (inl other) (short some first few e) = other.other (other.is ∙ first)
never_fec octets (Foreign a) f (inl other) (too_short begun few e) = other.other (other.is ∙ begun.element)
never_fec octets (Foreign a) f (inl other) (past_end begun far e) = other.other (other.is ∙ begun.element)
never_fec octets (Foreign a) f (inl other) (parameter begun long some whole named) = other.other (other.is ∙ begun.element)
never_fec octets (Foreign a) f (inr more) (empty none e) = let h = more.begun.header in omega arith
never_fec octets (Foreign a) f (inr more) (short some first few e) = let h = more.begun.header in omega arith
never_fec octets (Foreign a) f (inr more) (too_short begun few e) = more.long few
never_fec octets (Foreign a) f (inr more) (past_end begun far e) = let m = more.more in omega arith
never_fec octets (Foreign a) f (inr more) (parameter begun long some whole named) = let m = more.more in omega arith

-- and so what is not looked into has none
pub foreign_faultless : (octets : List ℕ) (first : ℕ) → IsFecValue octets (Foreign first) → (f : FieldFault) → IsFecFault octets f → ⊥
foreign_faultless octets first is f named = never_fec octets (Foreign first) f is named

same_octet : (n : ℕ) (octets other : List ℕ) → n < 4 → take 4 octets ≡ take 4 other → slice_index octets n ≡ slice_index other n
same_octet n octets other below same = sym (get_or-take 4 octets n 0 below) ∙ (ap (λ (l : List ℕ). get_or l n 0) same ∙ get_or-take 4 other n 0 below)

-- what follows an element is not looked at
pub followed_again : (octets other : List ℕ) (first : ℕ) → IsFollowed octets first → take 4 octets ≡ take 4 other → length octets ≡ length other → IsFollowed other first
followed_again octets other first is same len =
    let begin = same_octet 0 octets other (omega arith) same in
    let count = same_octet 3 octets other (omega arith) same in
    let header = is.begun.header in
    let more = is.more in
    record {
      begun = record { element = sym begin ∙ is.begun.element; header = omega arith };
      is = is.is;
      long = λ few. is.long (subst IsTooShort (sym count) few);
      more = omega arith;
    }

-- a fault that can be named is within the octets, but for a wrong size
pub fec_inside : (octets : List ℕ) (f : FieldFault) → IsFecFault octets f → IsInside octets f
fec_inside octets f (empty none e) = inl e
fec_inside octets f (short some first few e) = inl e
fec_inside octets f (too_short begun few e) = inr (let p = ap fault_place e in let h = begun.header in omega arith)
fec_inside octets f (past_end begun far e) = inr (let p = ap fault_place e in let h = begun.header in omega arith)
fec_inside octets f (parameter begun long some whole named) =
    let close = named_within InterfaceParameter 12 (drop 12 octets) f named in
    let rest = length-drop 12 octets in
    elim (cases_lt (information_length octets) 4) [
      | inl few ↦ absurd (long (some, omega arith))
      | inr more ↦ inr (omega arith)
    ]
