-- What came of the lines was written.
use Rattle.std.proofs.Common.{◌≡◌, ◌∙◌, ap}
use Rattle.switchover_text.specs.Text.{switchover_report, switchover_text}
use Rattle.vplsnet.proofs.SwitchoverLemmas.{exchange_told}
use Rattle.vplsnet.proofs.switchover.write_exchange.Goals as goal

pub returns-in-Ok-play : goal.returns-in-Ok-play
returns-in-Ok-play g c =
    let same : switchover_text c.args.plan.now c.args.lines.now c.as_slice.result.now ≡ switchover_report c.args.plan.now c.args.lines.now =
    ap (switchover_text c.args.plan.now c.args.lines.now) (c.as_slice.ensures ∙ c.in-Ok-play.ensures.entries) in
    exchange_told c.args.plan.now c.args.lines.now (switchover_text c.args.plan.now c.args.lines.now c.as_slice.result.now) _ _ _ c.requires.checked c.requires.typed same c.write_told.ensures
