-- What holds of a FEC that can be written.
use Rattle.std.proofs.Common.{◌≡◌, ◌≤◌, ◌&&◌, ℕ, true, Option, Some, None, length, nat_eq, nat_le, refl, arith}
use Rattle.std.specs.Prelude.{is_none, IfSome, IfNone}
use Rattle.std.proofs.lemmas.Bool.{and_parts}
use Rattle.std.proofs.lemmas.Bool.Decides.{nat_tests}
use Rattle.net_values.proofs.RowLemmas.{empty_of_test}
use Rattle.pw_tlvs.specs.declared.if_params.IfParams.{IfParams}
use Rattle.pw_tlvs.specs.declared.pw_fec.PwFec.{PwFec}
use Rattle.pw_tlvs.specs.Fec.{no_params}
use Rattle.pw_tlvs.specs.Written.{tells_nothing, has_vlan, may_tell, writable_fec}

-- the same in propositions
pub record IsWritable (fec : PwFec) : Type 0 where
  pub kind : fec.kind ≤ 0x7FFF
  pub vlan : IfSome fec.params.vlan (λ vlan. vlan ≤ 4095)
  pub params : IfNone fec.pw_id (fec.params ≡ no_params)

none_is : {A : Type 0} (o : Option A) → is_none o ≡ true → o ≡ None
none_is None e = refl
none_is (Some x) e = absurd (cc)

untold : (params : IfParams) → tells_nothing params ≡ true → params ≡ no_params
untold params e =
    let front = and_parts (is_none params.mtu && nat_eq (length params.description) 0) (is_none params.vlan && is_none params.vccv) e in
    let left = and_parts (is_none params.mtu) (nat_eq (length params.description) 0) front.0 in
    let right = and_parts (is_none params.vlan) (is_none params.vccv) front.1 in
    let mtu = none_is params.mtu left.0 in
    let description = empty_of_test params.description left.1 in
    let vlan = none_is params.vlan right.0 in
    let vccv = none_is params.vccv right.1 in
    λ i. record { mtu = mtu i; description = description i; vlan = vlan i; vccv = vccv i }

vlan_fits : (o : Option ℕ) → has_vlan o ≡ true → IfSome o (λ vlan. vlan ≤ 4095)
vlan_fits None e = tt
vlan_fits (Some vlan) e = grind (arith, nat_tests)

params_fit : (o : Option ℕ) (params : IfParams) → may_tell o params ≡ true → IfNone o (params ≡ no_params)
params_fit None params e = untold params e
params_fit (Some pw_id) params e = tt

kind_fits : (n : ℕ) → nat_le n 0x7FFF ≡ true → n ≤ 0x7FFF
kind_fits n e = grind (arith, nat_tests)

pub fec_can : (fec : PwFec) → writable_fec fec ≡ true → IsWritable fec
fec_can fec e =
    let front = and_parts (nat_le fec.kind 0x7FFF) (has_vlan fec.params.vlan && may_tell fec.pw_id fec.params) e in
    let back = and_parts (has_vlan fec.params.vlan) (may_tell fec.pw_id fec.params) front.1 in
    record { kind = kind_fits fec.kind front.0; vlan = vlan_fits fec.params.vlan back.0; params = params_fit fec.pw_id fec.params back.1 }
