-- Sets of TLVs by their fields.
use Rattle.std.specs.Prelude.{◌≡◌, ℕ, Bool, true, false, List, Option, Some, get_or}
use Rattle.net_values.specs.declared.field.Field.{Field}
use Rattle.net_values.specs.declared.field.Field.TheVariants as field
use Rattle.ldp_grammar.specs.Layouts.{listed}
use Rattle.ldp_grammar.specs.Rows.{Row}
use Rattle.ldp_grammar.specs.Tlvs.{Tlv, count_of}

-- the place of a TLV's field; what is no TLV has the last one
abbrev pub place_of_field : Field → ℕ
place_of_field field.Fec = 0
place_of_field field.AddressList = 1
place_of_field field.Label = 2
place_of_field field.Status = 3
place_of_field field.Hello = 4
place_of_field field.Transport = 5
place_of_field field.MacList = 6
place_of_field field.Session = 7
place_of_field field.RequestId = 8
place_of_field field.PwStatus = 9
place_of_field field.Point = 10
place_of_field other = 11

-- the field is in the set
abbrev pub has : List Bool → Field → Bool
has places f = get_or places (place_of_field f) false

-- the set holds the fields of all the TLVs that the row lists
abbrev pub HoldsListed : Row → List Bool → List Tlv → Type 0
HoldsListed row places tlvs = (tlv : ℕ) (f : Field) → listed row tlv ≡ Some f → has places f ≡ false → count_of tlv tlvs ≡ 0

-- the field, where there is one, was put into the set
pub record IsPutIn (list : Option Field) (old new : List Bool) : Type 0 where
  pub kept : (f : Field) → has new f ≡ false → has old f ≡ false
  pub put : (f : Field) → list ≡ Some f → has new f ≡ true
