-- Sub-TLVs that were read up to a place.
use Rattle.std.proofs.Common.{◌≡◌, ◌≤◌, ◌+◌, ◌++◌, ℕ, Bool, false, List, [], ◌∷◌, length, take, drop, length-append, length-drop, sym, ap, ◌∙◌, subst, arith}
use Rattle.std.specs.Prelude.{IsSome}
use Rattle.std.specs.List.{flat_map}
use Rattle.std.proofs.lemmas.Grind.{flat_map-append}
use Rattle.std.proofs.lemmas.List.{append-nil, drop_all, take-append-drop, length-take-le, take_at}
use Rattle.std.proofs.Math.Seq.{take-add}
use Rattle.pw_tlvs.specs.declared.field_fault.FieldFault.{FieldFault}
use Rattle.pw_tlvs.specs.declared.registry.Registry.{Registry}
use Rattle.pw_tlvs.specs.declared.registry.Registry.TheVariants.{InterfaceParameter, SwitchingPointPart}
use Rattle.pw_tlvs.specs.declared.found_params.FoundParams.{FoundParams}
use Rattle.pw_tlvs.specs.declared.met_params.MetParams.{MetParams}
use Rattle.pw_tlvs.specs.declared.point.Point.{Point}
use Rattle.pw_tlvs.specs.Found.{FoundSays, MetSays, PointSays}
use Rattle.pw_tlvs.specs.Faults.{IsFirstIn}
use Rattle.pw_tlvs.specs.SubTlvs.{SubTlv, spell, AreGood, IsNamed, IsFirstWrong, Stood, sub_tlv_row, values}
use Rattle.pw_tlvs.proofs.SubTlvLemmas.{first_named, never_both}
use Rattle.pw_tlvs.proofs.WrongLemmas.{stood_no}

-- good sub-TLVs stand before the place
pub record AreReadUpTo (registry : Registry) (octets : List ℕ) (at : ℕ) (subs : List SubTlv) : Type 0 where
  pub within : at ≤ length octets
  pub front : take at octets ≡ flat_map (spell registry) subs
  pub good : AreGood registry subs

split_at : (registry : Registry) (octets : List ℕ) (at : ℕ) (subs : List SubTlv) → AreReadUpTo registry octets at subs → octets ≡ flat_map (spell registry) subs ++ drop at octets
split_at registry octets at subs upto = sym (take-append-drop at octets) ∙ ap (λ (l : List ℕ). l ++ drop at octets) upto.front

length_of : (registry : Registry) (octets : List ℕ) (at : ℕ) (subs : List SubTlv) → AreReadUpTo registry octets at subs → length (flat_map (spell registry) subs) ≡ at
length_of registry octets at subs upto = sym (ap length upto.front) ∙ length-take-le at octets upto.within

-- what is first wrong at the place is the first fault of all
pub read_fault : (registry : Registry) (begin : ℕ) (octets : List ℕ) (at place : ℕ) (subs : List SubTlv) (f : FieldFault) → AreReadUpTo registry octets at subs → place ≡ begin + at
    → IsFirstWrong registry subs (drop at octets) place f → IsFirstIn (IsNamed registry begin octets) f
read_fault registry begin octets at place subs f upto is wrong =
    let there : place ≡ begin + length (flat_map (spell registry) subs) = omega (arith, length_of registry octets at subs upto, is) in
    first_named registry begin octets subs (drop at octets) f (split_at registry octets at subs upto) upto.good (subst (λ (n : ℕ). IsFirstWrong registry subs (drop at octets) n f) there wrong)

-- where the place is the end, nothing is at fault
pub none_named : (registry : Registry) (begin : ℕ) (octets : List ℕ) (at : ℕ) (subs : List SubTlv) → AreReadUpTo registry octets at subs → length octets ≤ at → (f : FieldFault)
    → IsNamed registry begin octets f → ⊥
none_named registry begin octets at subs upto all f named =
    let joined : octets ≡ flat_map (spell registry) subs =
    split_at registry octets at subs upto ∙ (ap (λ (l : List ℕ). flat_map (spell registry) subs ++ l) (drop_all at octets all) ∙ append-nil (flat_map (spell registry) subs)) in
    never_both registry begin octets subs f (record { joined = joined; good = upto.good }) named

-- one more stands before a later place
pub read_more : (registry : Registry) (octets : List ℕ) (at size : ℕ) (subs : List SubTlv) (s : SubTlv) (more : List ℕ) → AreReadUpTo registry octets at subs → drop at octets
    ≡ spell registry s ++ more
    → size ≡ 2 + length s.value → AreGood registry (subs ++ s ∷ []) → AreReadUpTo registry octets (at + size) (subs ++ s ∷ [])
read_more registry octets at size subs s more upto next is good = record {
  within = omega (arith, length-drop at octets, ap length next, length-append s.value more, is, upto.within);
  front =
      let here : take size (drop at octets) ≡ spell registry s = ap (take size) next ∙ take_at (spell registry s) more size (omega (arith, is)) in
      take-add at size octets ∙ ((λ i. upto.front i ++ here i)
      ∙ (ap (λ (l : List ℕ). flat_map (spell registry) subs ++ l) (sym (append-nil (spell registry s))) ∙ sym (flat_map-append (spell registry) subs (s ∷ []))));
  good = good;
}

-- parameters were read up to a place, and this is what they say
pub record AreFoundUpTo (octets : List ℕ) (at : ℕ) (found : FoundParams) : Type 0 where
  pub subs : List SubTlv
  pub upto : AreReadUpTo InterfaceParameter octets at subs
  pub says : FoundSays found subs

-- parameters without fault stand before the place, and these were met
pub record AreMetUpTo (octets : List ℕ) (at : ℕ) (met : MetParams) : Type 0 where
  pub subs : List SubTlv
  pub upto : AreReadUpTo InterfaceParameter octets at subs
  pub says : MetSays met subs

-- parts of a point were read up to a place, and this is what they say
pub record IsPointUpTo (octets : List ℕ) (at : ℕ) (point : Point) : Type 0 where
  pub subs : List SubTlv
  pub upto : AreReadUpTo SwitchingPointPart octets at subs
  pub says : PointSays point subs

-- of a known type none stood before
pub fresh_of : (registry : Registry) (before : List SubTlv) (kind octet : ℕ) (stood : Bool) → kind ≡ octet → Stood registry before octet stood
    → (IsSome (sub_tlv_row registry kind) → stood ≡ false) → IsSome (sub_tlv_row registry kind) → values kind before ≡ []
fresh_of registry before kind octet stood is fact no_other known =
    stood_no registry before kind stood (no_other known) (subst (λ (k : ℕ). Stood registry before k stood) (sym is) fact) known
