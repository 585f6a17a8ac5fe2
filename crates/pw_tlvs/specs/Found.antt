-- What sub-TLVs say, as far as they were read.
use Rattle.std.specs.Prelude.{◌≡◌, List, is_some, option_map}
use Rattle.byteorder.specs.Endian.{big_number}
use Rattle.pw_tlvs.specs.declared.found_params.FoundParams.{FoundParams}
use Rattle.pw_tlvs.specs.declared.met_params.MetParams.{MetParams}
use Rattle.pw_tlvs.specs.declared.point.Point.{Point}
use Rattle.pw_tlvs.specs.SubTlvs.{SubTlv, said}
use Rattle.pw_tlvs.specs.Fec.{vccv_of}
use Rattle.pw_tlvs.specs.Point.{address_of}

-- what was found is what the parameters say
pub record FoundSays (found : FoundParams) (subs : List SubTlv) : Type 0 where
  pub mtu : found.mtu ≡ option_map (λ value. big_number 2 value) (said 0x01 subs)
  pub description : found.description ≡ said 0x03 subs
  pub vlan : found.vlan ≡ option_map (λ value. big_number 2 value) (said 0x06 subs)
  pub vccv : found.vccv ≡ option_map vccv_of (said 0x0C subs)

-- what was met is which of the parameters say something
pub record MetSays (met : MetParams) (subs : List SubTlv) : Type 0 where
  pub mtu : met.mtu ≡ is_some (said 0x01 subs)
  pub description : met.description ≡ is_some (said 0x03 subs)
  pub vlan : met.vlan ≡ is_some (said 0x06 subs)
  pub vccv : met.vccv ≡ is_some (said 0x0C subs)

-- the point is what the parts say
pub record PointSays (point : Point) (subs : List SubTlv) : Type 0 where
  pub pw_id : point.pw_id ≡ option_map (λ value. big_number 4 value) (said 0x01 subs)
  pub local : point.local ≡ option_map address_of (said 0x03 subs)
  pub remote : point.remote ≡ option_map address_of (said 0x04 subs)
