-- One more line is played.
use Rattle.std.proofs.Common.{◌<◌, length, slice_index_or, arith}
use Rattle.std.proofs.lemmas.List.{get_or_default}
use Rattle.switchover_model.specs.declared.switch_line.SwitchLine.{SwitchLine}
use Rattle.switchover_model.specs.declared.switch_line.SwitchLine.TheVariants.{Connect}
use Rattle.switchover_net.proofs.PlayLemmas.{more_played}
use Rattle.switchover_net.proofs.script.play_lines.Goals as goal

pub loop-place-preserved : goal.loop-place-preserved
loop-place-preserved c =
    let within : c.loop-place.place < length c.args.lines.now = omega (arith, c.loop-place-test.true) in
    let line : SwitchLine = slice_index_or c.args.lines.now c.loop-place.place (Connect (record { 0 = 0 }) (record { 0 = 0 })) in
    more_played c.args.network.now.row.plan c.args.lines.now c.loop-place.place line c.loop-place.network c.line.new.self c.loop-place.told c.push.new.self c.in_ok-line.field-0 within
    (get_or_default c.args.lines.now c.loop-place.place (Connect (record { 0 = 0 }) (record { 0 = 0 })) line within) c.in_ok-line.ensures.plan
    c.in_ok-line.ensures.reached c.in_ok-line.ensures.state c.in_ok-line.ensures.entries c.in_ok-push.ensures.ok c.loop-place.invariant
