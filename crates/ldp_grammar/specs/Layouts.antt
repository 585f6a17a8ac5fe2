-- The TLVs that are read: their fields, and the Length of each (RFC 5036 sections 3.4 and 3.5, RFC 8077 section 6.3.2,
-- RFC 4762 section 6.2).
use Rattle.std.specs.Prelude.{◌==◌, ◌&&◌, ◌-◌, ◌%◌, ℕ, Bool, true, not, nat_le, List, length, Option, Some, None, if◌then◌else◌}
use Rattle.net_values.specs.declared.field.Field.{Field}
use Rattle.net_values.specs.declared.field.Field.TheVariants as field
use Rattle.ldp_grammar.specs.Octets.{two_at}
use Rattle.ldp_grammar.specs.Rows.{Row, fec, address_list, label, status, hello_parameters, transport_address, mac_list, session_parameters, request_id, pw_status, switching_point, is_in}

-- the TLV of a type
abbrev pub field_of : ℕ → Option Field
field_of tlv =
    if tlv == fec then Some field.Fec
    else if tlv == address_list then Some field.AddressList
    else if tlv == label then Some field.Label
    else if tlv == status then Some field.Status
    else if tlv == hello_parameters then Some field.Hello
    else if tlv == transport_address then Some field.Transport
    else if tlv == mac_list then Some field.MacList
    else if tlv == session_parameters then Some field.Session
    else if tlv == request_id then Some field.RequestId
    else if tlv == pw_status then Some field.PwStatus
    else if tlv == switching_point then Some field.Point
    else None

-- how the value of a TLV is laid out: so many octets; an address family and addresses; addresses of six octets each; a FEC; a
-- label; a switching point; or as the field does not say
pub data Layout : Type 0 where
  CountedOctets : ℕ → Layout
  FamilyAddresses : Layout
  MacAddresses : Layout
  FecElement : Layout
  LabelNumber : Layout
  PointParts : Layout
  FreeOctets : Layout

-- the layout of each TLV (RFC 5036 sections 3.4 and 3.5, RFC 8077 section 6.3.2, RFC 4762 section 6.2, RFC 6073 section 7.4)
abbrev pub layout_of : Field → Layout
layout_of field.Fec = FecElement
layout_of field.AddressList = FamilyAddresses
layout_of field.Label = LabelNumber
layout_of field.Status = CountedOctets 10
layout_of field.Hello = CountedOctets 4
layout_of field.Transport = CountedOctets 4
layout_of field.MacList = MacAddresses
layout_of field.Session = CountedOctets 14
layout_of field.RequestId = CountedOctets 4
layout_of field.PwStatus = CountedOctets 4
layout_of field.Point = PointParts
layout_of other = FreeOctets

-- Whether the Length of a value fits a layout; addresses of family 1 have four octets each. What a FEC and a switching point
-- hold tells their Length.
abbrev pub fits_as : Layout → List ℕ → Bool
fits_as (CountedOctets count) value = length value == count
fits_as FamilyAddresses value = nat_le 2 (length value) && not (two_at 0 value == 1 && not ((length value - 2) % 4 == 0))
fits_as MacAddresses value = length value % 6 == 0
fits_as FecElement value = true
fits_as LabelNumber value = length value == 4
fits_as PointParts value = true
fits_as FreeOctets value = true

-- the same of a TLV
abbrev pub fits : Field → List ℕ → Bool
fits f value = fits_as (layout_of f) value

-- how often a TLV of a layout may stand in one message that lists it
abbrev pub most_as : Layout → ℕ
most_as (CountedOctets count) = 1
most_as FamilyAddresses = 1
most_as MacAddresses = 1
most_as FecElement = 1
most_as LabelNumber = 1
most_as PointParts = 3
most_as FreeOctets = 1

abbrev pub most : Field → ℕ
most f = most_as (layout_of f)

-- the TLV of a type, where the row lists it
abbrev pub listed : Row → ℕ → Option Field
listed row tlv = if is_in tlv row.needed then field_of tlv else if is_in tlv row.further then field_of tlv else None
