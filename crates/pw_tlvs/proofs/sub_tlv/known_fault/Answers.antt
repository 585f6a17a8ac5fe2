-- Each exit is the first of what is wrong at the place.
use Rattle.std.specs.Prelude.{slice_index, drop, length, ◌+◌}
use Rattle.std.proofs.Common.{sym, ◌∙◌, subst, ◌≡◌, true, ℕ}
use Rattle.pw_tlvs.specs.SubTlvs.{row_fits}
use Rattle.pw_tlvs.proofs.WrongLemmas.{again_exit, outside_exit, misfit_first, excess_first, stood_no}
use Rattle.pw_tlvs.proofs.sub_tlv.known_fault.Goals as goal

pub returns-then-place-clause-first : goal.returns-then-place-clause-first
returns-then-place-clause-first c = λ before stood.
    again_exit c.args.registry before c.args.rest.now c.args.place.at c.args.row c.args.place.again c.args.outside c.requires.header c.requires.row c.requires.no c.requires.part c.if-place.true stood

pub returns-then-outside-clause-first : goal.returns-then-outside-clause-first
returns-then-outside-clause-first c = λ before stood.
    outside_exit c.args.registry before c.args.rest.now c.args.place.at c.args.row c.args.place.again c.args.outside c.outside_fault.result c.requires.header c.requires.yes c.requires.part c.if-place.false c.if-outside.true c.outside_fault.ensures stood

pub returns-then-not-fits-clause-first : goal.returns-then-not-fits-clause-first
returns-then-not-fits-clause-first c = λ before stood.
    misfit_first c.args.registry before c.args.rest.now c.args.place.at c.args.row c.requires.header (c.requires.no c.if-outside.false) c.requires.row
    (sym c.fits.ensures ∙ c.if-not-fits.true) (stood_no c.args.registry before (slice_index c.args.rest.now 0) c.args.place.again c.if-place.false stood)

pub returns-then-not-is_allowed-clause-first : goal.returns-then-not-is_allowed-clause-first
returns-then-not-is_allowed-clause-first c = λ before stood.
    excess_first c.args.registry before c.args.rest.now c.args.place.at c.args.row (record { kind = slice_index c.args.rest.now 0; value = c.value_at.result.now })
    (drop (2 + length c.value_at.result.now) c.args.rest.now) c.value_at.ensures.spelled c.requires.row
    (subst (λ (n : ℕ). row_fits c.args.row n ≡ true) c.value_at.ensures.counts (sym c.fits.ensures ∙ c.if-not-fits.false)) (sym c.is_allowed.ensures ∙ c.if-not-is_allowed.true)
    (stood_no c.args.registry before (slice_index c.args.rest.now 0) c.args.place.again c.if-place.false stood)
