-- What has no fault is good.
use Rattle.std.specs.Prelude.{slice_index, drop, length, ◌+◌}
use Rattle.pw_tlvs.proofs.sub_tlv.first_sub_tlv.Goals as goal

pub returns-in-None-clause-good : goal.returns-in-None-clause-good
returns-in-None-clause-good c =
    c.in-None.ensures.good (record { kind = slice_index c.args.rest.now 0; value = c.value_at.result.now }) (drop (2 + length c.value_at.result.now) c.args.rest.now) c.value_at.ensures.spelled
