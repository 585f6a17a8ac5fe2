-- The octets by lanes are those of the definition.
use Rattle.std.proofs.Common.{◌∙◌, sym}
use Rattle.octet_text.specs.Hex.{digits_in}
use Rattle.octet_text.proofs.DigitLemmas.{digits_length, worth_in}
use Rattle.octet_text.proofs.LaneLemmas.{octets_are}
use Rattle.octet_text.proofs.digits.eight.Goals as goal

pub returns-clause-octets : goal.returns-clause-octets
returns-clause-octets c = octets_are (digits_in c.args.capitals c.args.digits) c.values-values.result (digits_length c.args.capitals c.args.digits ∙ c.fits-digits.0)
    (c.values-values.ensures ∙ sym (worth_in c.args.capitals c.args.digits))
