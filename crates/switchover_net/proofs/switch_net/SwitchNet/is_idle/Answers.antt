use Rattle.std.proofs.Common.{◌∙◌, ℕ, Option, not, is_some, ap, sym, subst}
use Rattle.switchover_model.specs.declared.switch_line.SwitchLine.{SwitchLine}
use Rattle.switchover_model.specs.Network.{is_line_idle, next_pair}
use Rattle.switchover_net.specs.contracts.switch_net.SwitchNet.{the_view}
use Rattle.switchover_net.specs.Net.{SwitchLists, ShowsSwitchState}
use Rattle.switchover_net.proofs.LineLemmas.{shown_pair, turned_test}
use Rattle.switchover_net.proofs.switch_net.SwitchNet.is_idle.Goals as goal

pub returns-in-Settle : goal.returns-in-Settle
returns-in-Settle c = λ x sh.
    let shown : ShowsSwitchState (the_view c.self.inside) x = subst (λ (n : SwitchLists). ShowsSwitchState n x) (sym c.self.view_is) sh in
    turned_test (is_some c.first_pair.result) c.is_none.result c.is_none.ensures
    ∙ (ap (λ (o : Option (ℕ × ℕ)). not (is_some o)) (c.first_pair.ensures.first ∙ shown_pair (the_view c.self.inside) x shown c.self.invariant.size)
    ∙ (ap (λ (n : SwitchLists). not (is_some (next_pair n.row.plan x))) c.self.view_is
    ∙ ap (λ (l : SwitchLine). is_line_idle c.args.self.now.row.plan x l) (sym c.in-Settle.is)))
