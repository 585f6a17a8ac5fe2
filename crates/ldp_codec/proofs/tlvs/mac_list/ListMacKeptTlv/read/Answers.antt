-- Six octets an address are no fault.
use Rattle.std.proofs.Common.{ap, ◌∙◌, eqb-true}
use Rattle.std.specs.Prelude.{Err}
use Rattle.ldp_codec.proofs.tlvs.mac_list.ListMacKeptTlv.read.Goals as goal

pub unreachable-requires : goal.unreachable-requires
unreachable-requires c = ((c.read_macs.ensures.fault c.in-Err-Field.field-0-0).0 (c.in-Err-Field.is ∙ ap Err c.in-Err-Field.field-0-is)).named.other (eqb-true _ _ c.requires.fits)
