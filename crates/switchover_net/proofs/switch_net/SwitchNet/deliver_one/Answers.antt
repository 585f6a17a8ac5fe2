-- An edge that holds more than before has put nothing, and uses the wires that it used.
use Rattle.std.proofs.Common.{rules, ◌≡◌, ◌++◌, ◌∙◌, ℕ, Bool, List, true, false, length, ap, sym, subst, arith}
use Rattle.net_base.specs.declared.plan.Plan.{Plan}
use Rattle.independent_mode.specs.Receiver.{HoldsBy}
use Rattle.status_exchange.specs.Exchange.{at_two}
use Rattle.switchover_model.specs.Network.{is_waiting}
use Rattle.switchover_model.specs.Text.{said_entries, turned_all, used}
use Rattle.switchover_net.specs.Net.{SwitchLists}
use Rattle.octet_pipes.specs.Pipes.{pipes_of}
use Rattle.switchover_net.specs.Pipes.{bytes_of}
use Rattle.switchover_net.specs.Rows.{seen_row}
use Rattle.switchover_net.proofs.GrowthLemmas.{still_used, was_silent}
use Rattle.switchover_net.proofs.NetLemmas.{none_waits, was_heard}
use Rattle.switchover_net.proofs.UsedLemmas.{used_long}
use Rattle.switchover_net.proofs.switch_net.SwitchNet.deliver_one.Goals as goal

pub returns-then-held-clause-used : goal.returns-then-held-clause-used
returns-then-held-clause-used c =
    still_used c.args.self.now.row.plan c.args.way.to.0 c.args.way.from c.args.self.now c.hear_one.new.self c.in_ok-calls.calls c.held-held.result c.held.result c.hear_one.ensures.going c.in_ok-calls.ensures.row
    (subst (λ (n : SwitchLists). HoldsBy c.held-held.result ((seen_row n.row c.args.way.to.0).connection c.args.way.from.0)) c.self.view_is c.held-held.ensures)
    (subst (λ (n : SwitchLists). HoldsBy c.held.result ((seen_row n.row c.args.way.to.0).connection c.args.way.from.0)) c.self-2.view_is c.held.ensures) (omega (arith, c.if-held.true))
    c.args.used.now.items c.hear_one.ensures.plan c.requires.used

pub returns-then-held-clause-step : goal.returns-then-held-clause-step
returns-then-held-clause-step c =
    let waits : is_waiting (pipes_of c.args.self.now.pipes c.args.way.from.0 c.args.way.to.0) ≡ true = search rules in
    was_silent c.args.self.now.row.plan c.args.way.to.0 c.args.way.from c.args.self.now c.hear_one.new.self c.in_ok-calls.calls c.held-held.result c.held.result c.hear_one.ensures.going c.in_ok-calls.ensures.row
    (subst (λ (n : SwitchLists). HoldsBy c.held-held.result ((seen_row n.row c.args.way.to.0).connection c.args.way.from.0)) c.self.view_is c.held-held.ensures)
    (subst (λ (n : SwitchLists). HoldsBy c.held.result ((seen_row n.row c.args.way.to.0).connection c.args.way.from.0)) c.self-2.view_is c.held.ensures) (omega (arith, c.if-held.true))
    c.args.work.now.out waits c.hear_one.ensures.pipes

pub tell-requires-clause-before : goal.tell-requires-clause-before
tell-requires-clause-before c =
    ap (λ (l : List Bool). length l) (c.as_slice.ensures.value ∙ c.requires.used)
    ∙ (used_long c.args.self.now.row.plan c.args.way.to.0 0 (length c.args.self.now.row.plan.wires) (seen_row c.args.self.now.row c.args.way.to.0)
    ∙ ap (λ (p : Plan). length p.wires) (sym c.hear_one.ensures.plan))

pub returns-then-not-is_waiting-clause-step : goal.returns-then-not-is_waiting-clause-step
returns-then-not-is_waiting-clause-step c =
    let waits : is_waiting (pipes_of c.args.self.now.pipes c.args.way.from.0 c.args.way.to.0) ≡ false = search rules in
    none_waits c.args.self.now.row.plan c.args.way.from.0 c.args.way.to.0 c.args.self.now c.args.work.now.out waits

pub returns-clause-step : goal.returns-clause-step
returns-clause-step c =
    let waits : is_waiting (pipes_of c.args.self.now.pipes c.args.way.from.0 c.args.way.to.0) ≡ true = search rules in
    was_heard c.args.self.now.row.plan c.args.way.to.0 c.args.way.from c.args.self.now c.tell.new.self c.hear_one.new.self.row c.in_ok-calls.calls c.as_slice.result.now
    c.args.work.now.out c.tell.new.work.out waits c.in_ok-calls.ensures.row c.in_ok-tell.ensures.row (c.as_slice.ensures.value ∙ c.requires.used)
    (c.in_ok-tell.ensures.pipes
    ∙ ap (λ (p : ℕ → ℕ → List ℕ). at_two c.args.way.to.0 c.args.way.from.0 (p c.args.way.to.0 c.args.way.from.0 ++ bytes_of c.in_ok-calls.calls) p) c.hear_one.ensures.pipes)
    (c.in_ok-tell.ensures.out
    ∙ ap (λ (p : Plan). (c.args.work.now.out ++ said_entries c.args.way.to.0 c.in_ok-calls.calls) ++ turned_all c.args.way.to.0 0 c.as_slice.result.now
    (used p c.args.way.to.0 (seen_row c.hear_one.new.self.row c.args.way.to.0))) c.hear_one.ensures.plan)
