-- What is written is a value, and the one that was written.
use Rattle.std.proofs.Common.{◌≡◌, ◌≤◌, ◌<◌, ◌+◌, ◌++◌, ◌%◌, ◌^◌, ◌∙◌, ℕ, Bool, true, false, List, [], ◌∷◌, length, refl, sym, ap, subst, arith, Some, None}
use Rattle.std.specs.Prelude.{IfSome, IfNone, Option, option_map, nat_le}
use Rattle.std.proofs.lemmas.Bool.Decides.{nat_tests}
use Rattle.byteorder.specs.Endian.{big_number, big_bytes}
use Rattle.net_values.specs.declared.addr.Addr.{Addr}
use Rattle.net_values.specs.declared.field.Field.TheVariants as field
use Rattle.pw_tlvs.specs.declared.fec_value.FecValue.TheVariants.{Pw}
use Rattle.pw_tlvs.specs.declared.registry.Registry.TheVariants.{InterfaceParameter, SwitchingPointPart}
use Rattle.pw_tlvs.specs.declared.if_params.IfParams.{IfParams}
use Rattle.pw_tlvs.specs.declared.point.Point.{Point}
use Rattle.pw_tlvs.specs.declared.pw_fec.PwFec.{PwFec}
use Rattle.pw_tlvs.specs.declared.pw_status.PwStatus.{PwStatus}
use Rattle.pw_tlvs.specs.SubTlvs.{IsGood, sub_tlv_row}
use Rattle.pw_tlvs.specs.Fec.{AreParameters, IsFecValue, IsInformation, no_params, text_of, vccv_of}
use Rattle.pw_tlvs.specs.Point.{IsPoint, address_of}
use Rattle.pw_tlvs.specs.Status.{IsPwStatus, written_status}
use Rattle.pw_tlvs.specs.Written.{told, description_value, pair_octets, parameter_sub_tlvs, written_parameters, information, control_and_kind, written_fec, writable_fec, IsFecInRange, part_sub_tlvs, written_point, IsPointInRange}
use Rattle.pw_tlvs.proofs.ToldLemmas.{values_told, values_both, said_told, said_past, good_none, good_told, number_two, number_four, numbers_two, numbers_four}
use Rattle.pw_tlvs.proofs.WritableLemmas.{fec_can}

good_number : (o : Option ℕ) → IfSome (option_map (λ (n : ℕ). big_bytes 4 n) o) (λ value. IsGood SwitchingPointPart (record { kind = 0x01; value = value }))
good_number None = tt
good_number (Some n) = record { fit = refl; allowed = refl }

good_address : (kind : ℕ) (o : Option Addr) → sub_tlv_row SwitchingPointPart kind ≡ Some (record { field = field.Point; least = 4; most = 4 }) → IfSome o (λ address. length address.0 ≡ 4)
    → IfSome (option_map (λ (a : Addr). a.0) o) (λ value. IsGood SwitchingPointPart (record { kind = kind; value = value }))
good_address kind None known four = tt
good_address kind (Some address) known four = record { fit = rw known (rw four refl); allowed = refl }

same_address : (o : Option Addr) → o ≡ option_map address_of (option_map (λ (a : Addr). a.0) o)
same_address None = refl
same_address (Some address) = refl

-- a written point is that point
pub point_again : (point : Point) → IsPointInRange point → IsPoint (written_point point) point
point_again point within =
    let a = told 0x01 (option_map (λ (n : ℕ). big_bytes 4 n) point.pw_id) in
    let b = told 0x03 (option_map (λ (x : Addr). x.0) point.local) in
    let d = told 0x04 (option_map (λ (x : Addr). x.0) point.remote) in
    let one = good_told SwitchingPointPart [] 0x01 (option_map (λ (n : ℕ). big_bytes 4 n) point.pw_id) (good_none SwitchingPointPart) refl (good_number point.pw_id) in
    let none3 = values_told 0x03 0x01 (option_map (λ (n : ℕ). big_bytes 4 n) point.pw_id) refl in
    let two = good_told SwitchingPointPart a 0x03 (option_map (λ (x : Addr). x.0) point.local) one none3 (good_address 0x03 point.local refl within.local) in
    let none4 = values_both 0x04 a b (values_told 0x04 0x01 (option_map (λ (n : ℕ). big_bytes 4 n) point.pw_id) refl) (values_told 0x04 0x03 (option_map (λ (x : Addr). x.0) point.local) refl) in
    let three = good_told SwitchingPointPart (a ++ b) 0x04 (option_map (λ (x : Addr). x.0) point.remote) two none4 (good_address 0x04 point.remote refl within.remote) in
    let says1 = said_past 0x01 0x04 (a ++ b) (option_map (λ (x : Addr). x.0) point.remote) refl
    ∙ (said_past 0x01 0x03 a (option_map (λ (x : Addr). x.0) point.local) refl ∙ said_told 0x01 [] (option_map (λ (n : ℕ). big_bytes 4 n) point.pw_id) refl) in
    let says3 = said_past 0x03 0x04 (a ++ b) (option_map (λ (x : Addr). x.0) point.remote) refl ∙ said_told 0x03 a (option_map (λ (x : Addr). x.0) point.local) none3 in
    let says4 = said_told 0x04 (a ++ b) (option_map (λ (x : Addr). x.0) point.remote) none4 in
    record {
      subs = part_sub_tlvs point;
      are = record { joined = refl; good = three };
      pw_id = numbers_four point.pw_id within.pw_id ∙ ap (λ (o : Option (List ℕ)). option_map (λ (value : List ℕ). big_number 4 value) o) (sym says1);
      local = same_address point.local ∙ ap (λ (o : Option (List ℕ)). option_map address_of o) (sym says3);
      remote = same_address point.remote ∙ ap (λ (o : Option (List ℕ)). option_map address_of o) (sym says4);
    }

good_mtu : (o : Option ℕ) → IfSome (option_map (λ (n : ℕ). big_bytes 2 n) o) (λ value. IsGood InterfaceParameter (record { kind = 0x01; value = value }))
good_mtu None = tt
good_mtu (Some n) = record { fit = refl; allowed = refl }

good_description : (text : List ℕ) → length text ≤ 80 → IfSome (description_value text) (λ value. IsGood InterfaceParameter (record { kind = 0x03; value = value }))
good_description [] few = tt
good_description (x ∷ xs) few = record { fit = grind (arith, nat_tests, few); allowed = refl }

good_vlan : (o : Option ℕ) → IfSome o (λ n. n ≤ 4095) → IfSome (option_map (λ (n : ℕ). big_bytes 2 n) o) (λ value. IsGood InterfaceParameter (record { kind = 0x06; value = value }))
good_vlan None below = tt
good_vlan (Some n) below = record {
  fit = refl;
  allowed =
      let same : big_number 2 (big_bytes 2 n) ≡ n = number_two n [] (omega (arith, below)) in
      let within : nat_le n 4095 ≡ true = grind (arith, nat_tests, below) in
      subst (λ (k : ℕ). nat_le k 4095 ≡ true) (sym same) within;
}

good_vccv : (o : Option (ℕ × ℕ)) → IfSome (option_map pair_octets o) (λ value. IsGood InterfaceParameter (record { kind = 0x0C; value = value }))
good_vccv None = tt
good_vccv (Some pair) = record { fit = refl; allowed = refl }

text_again : (text : List ℕ) → text ≡ text_of (description_value text)
text_again [] = refl
text_again (x ∷ xs) = refl

vccv_again : (o : Option (ℕ × ℕ)) → o ≡ option_map vccv_of (option_map pair_octets o)
vccv_again None = refl
vccv_again (Some pair) = refl

vlan_again : (o : Option ℕ) → IfSome o (λ n. n ≤ 4095) → o ≡ option_map (λ value. big_number 2 value) (option_map (λ n. big_bytes 2 n) o)
vlan_again None below = refl
vlan_again (Some n) below = ap Some (sym (number_two n [] (omega (arith, below))))

-- written parameters are those parameters
pub parameters_again : (params : IfParams) → IfSome params.mtu (λ mtu. mtu < 2 ^ 16) → length params.description ≤ 80 → IfSome params.vlan (λ vlan. vlan ≤ 4095)
    → AreParameters (written_parameters params) params
parameters_again params mtu description vlan =
    let o1 = option_map (λ (n : ℕ). big_bytes 2 n) params.mtu in
    let o3 = description_value params.description in
    let o6 = option_map (λ (n : ℕ). big_bytes 2 n) params.vlan in
    let o12 = option_map pair_octets params.vccv in
    let g1 = good_told InterfaceParameter [] 0x01 o1 (good_none InterfaceParameter) refl (good_mtu params.mtu) in
    let n3 = values_told 0x03 0x01 o1 refl in
    let g3 = good_told InterfaceParameter (told 0x01 o1) 0x03 o3 g1 n3 (good_description params.description description) in
    let n6 = values_both 0x06 (told 0x01 o1) (told 0x03 o3) (values_told 0x06 0x01 o1 refl) (values_told 0x06 0x03 o3 refl) in
    let g6 = good_told InterfaceParameter (told 0x01 o1 ++ told 0x03 o3) 0x06 o6 g3 n6 (good_vlan params.vlan vlan) in
    let n12 = values_both 0x0C (told 0x01 o1 ++ told 0x03 o3) (told 0x06 o6)
    (values_both 0x0C (told 0x01 o1) (told 0x03 o3) (values_told 0x0C 0x01 o1 refl) (values_told 0x0C 0x03 o3 refl)) (values_told 0x0C 0x06 o6 refl) in
    let g12 = good_told InterfaceParameter ((told 0x01 o1 ++ told 0x03 o3) ++ told 0x06 o6) 0x0C o12 g6 n12 (good_vccv params.vccv) in
    let says1 = said_past 0x01 0x0C ((told 0x01 o1 ++ told 0x03 o3) ++ told 0x06 o6) o12 refl
    ∙ (said_past 0x01 0x06 (told 0x01 o1 ++ told 0x03 o3) o6 refl ∙ (said_past 0x01 0x03 (told 0x01 o1) o3 refl ∙ said_told 0x01 [] o1 refl)) in
    let says3 = said_past 0x03 0x0C ((told 0x01 o1 ++ told 0x03 o3) ++ told 0x06 o6) o12 refl ∙ (said_past 0x03 0x06 (told 0x01 o1 ++ told 0x03 o3) o6 refl ∙ said_told 0x03 (told 0x01 o1) o3 n3) in
    let says6 = said_past 0x06 0x0C ((told 0x01 o1 ++ told 0x03 o3) ++ told 0x06 o6) o12 refl ∙ said_told 0x06 (told 0x01 o1 ++ told 0x03 o3) o6 n6 in
    let says12 = said_told 0x0C ((told 0x01 o1 ++ told 0x03 o3) ++ told 0x06 o6) o12 n12 in
    record {
      subs = parameter_sub_tlvs params;
      are = record { joined = refl; good = g12 };
      mtu = numbers_two params.mtu mtu ∙ ap (λ (o : Option (List ℕ)). option_map (λ (value : List ℕ). big_number 2 value) o) (sym says1);
      description = text_again params.description ∙ ap text_of (sym says3);
      vlan = vlan_again params.vlan vlan ∙ ap (λ (o : Option (List ℕ)). option_map (λ (value : List ℕ). big_number 2 value) o) (sym says6);
      vccv = vccv_again params.vccv ∙ ap (λ (o : Option (List ℕ)). option_map vccv_of o) (sym says12);
    }

-- a written status is that status
pub status_again : (status : PwStatus) → status.0 < 2 ^ 32 → IsPwStatus (written_status status) status
status_again status below = record { size = refl; bits = sym (number_four status.0 [] below) }

c_again : (c : Bool) (kind : ℕ) (more : List ℕ) → kind ≤ 0x7FFF → c ≡ nat_le 0x8000 (big_number 2 (big_bytes 2 (control_and_kind c kind) ++ more))
c_again true kind more below =
    let n = number_two (0x8000 + kind) more (omega (arith, below)) in
    let test : nat_le 0x8000 (0x8000 + kind) ≡ true = grind (arith, nat_tests) in
    subst (λ (k : ℕ). true ≡ nat_le 0x8000 k) (sym n) (sym test)
c_again false kind more below =
    let n = number_two kind more (omega (arith, below)) in
    let test : nat_le 0x8000 kind ≡ false = grind (arith, nat_tests, below) in
    subst (λ (k : ℕ). false ≡ nat_le 0x8000 k) (sym n) (sym test)

kind_again : (c : Bool) (kind : ℕ) (more : List ℕ) → kind ≤ 0x7FFF → kind ≡ big_number 2 (big_bytes 2 (control_and_kind c kind) ++ more) % 0x8000
kind_again true kind more below = let n = number_two (0x8000 + kind) more (omega (arith, below)) in omega (arith, n, below)
kind_again false kind more below = let n = number_two kind more (omega (arith, below)) in omega (arith, n, below)

information_again : (pw_id : Option ℕ) (params : IfParams) → IfSome pw_id (λ n. n < 2 ^ 32) → IfNone pw_id (params ≡ no_params) → AreParameters (written_parameters params) params
    → IsInformation (information pw_id params) pw_id params
information_again None params below none are = (refl, none)
information_again (Some pw_id) params below none are = (omega arith, sym (number_four pw_id (written_parameters params) below), are)

-- a written FEC is that FEC
pub fec_again : (fec : PwFec) → writable_fec fec ≡ true → IsFecInRange fec → IsFecValue (written_fec fec) (Pw fec)
fec_again fec can within =
    let writable = fec_can fec can in
    let inner = information fec.pw_id fec.params in
    let behind = length inner ∷ (big_bytes 4 fec.group ++ inner) in
    record {
      begun = record { element = refl; header = omega arith };
      c = c_again fec.c fec.kind behind writable.kind;
      kind = kind_again fec.c fec.kind behind writable.kind;
      whole = omega arith;
      group = sym (number_four fec.group inner within.group);
      information = information_again fec.pw_id fec.params within.pw_id writable.params (parameters_again fec.params within.mtu within.description writable.vlan);
    }
