-- A line that is not idle cuts two different edges, and sets a wire that has another end. What its call made is what the line does and
-- tells.
use Rattle.std.proofs.Common.{◌≡◌, ◌∙◌, false, OnOk, sym, subst, refl}
use Rattle.independent_model.proofs.WireLemmas.{other_within}
use Rattle.switchover_model.specs.declared.switch_line.SwitchLine.{SwitchLine}
use Rattle.switchover_model.specs.declared.switch_line.SwitchLine.TheVariants as line
use Rattle.switchover_model.specs.Network.{SwitchState, switch_connecting, cutting, does, is_line_idle, setting}
use Rattle.switchover_model.specs.Text.{entries, set_entries}
use Rattle.switchover_net.specs.Net.{Makes, ShowsSwitchState, cut_entries, pair_entries}
use Rattle.switchover_net.proofs.LineLemmas.{cut_apart, made_as, set_ends}
use Rattle.switchover_net.proofs.NetLemmas.{ok_then}
use Rattle.switchover_net.proofs.switch_net.SwitchNet.apply.Goals as goal

pub cut-requires-clause-apart : goal.cut-requires-clause-apart
cut-requires-clause-apart c =
    cut_apart c.args.self.now c.in-Cut.edge c.in-Cut.peer c.requires.reached
    (subst (λ (l : SwitchLine). (x : SwitchState) → ShowsSwitchState c.args.self.now x → is_line_idle c.args.self.now.row.plan x l ≡ false) c.in-Cut.is c.requires.runs)

pub set-requires-clause-peer : goal.set-requires-clause-peer
set-requires-clause-peer c = other_within c.args.self.now.row.plan c.in-Set.edge.0 c.in-Set.wire.0 c.in-Some.peer c.requires.reached.checked (sym c.in-Some.is ∙ c.other_end.ensures)

pub unreachable-requires : goal.unreachable-requires
unreachable-requires c =
    set_ends c.args.self.now c.in-Set.edge c.in-Set.wire c.in-Set.wish c.requires.reached
    (subst (λ (l : SwitchLine). (x : SwitchState) → ShowsSwitchState c.args.self.now x → is_line_idle c.args.self.now.row.plan x l ≡ false) c.in-Set.is c.requires.runs)
    (sym c.in-None.is ∙ c.other_end.ensures)

pub returns-in-Connect-clause-step : goal.returns-in-Connect-clause-step
returns-in-Connect-clause-step c =
    subst (λ (l : SwitchLine). OnOk c.connect.result
    (Makes c.args.self.now c.connect.new.self c.args.work.now.out c.connect.new.work.out (does c.args.self.now.row.plan l) (entries c.args.self.now.row.plan l))) (sym c.in-Connect.is)
    (ok_then c.connect.result
    (λ made. made_as c.args.self.now.row.plan (line.Connect c.in-Connect.edge c.in-Connect.peer) c.args.self.now c.connect.new.self c.args.work.now.out c.connect.new.work.out
    (switch_connecting c.args.self.now.row.plan c.in-Connect.edge.0 c.in-Connect.peer.0)
    (pair_entries c.args.self.now.row.plan c.in-Connect.edge.0 c.in-Connect.peer.0) (λ x. refl) (λ x. refl) made)
    c.connect.ensures.step)

pub returns-in-Cut-clause-step : goal.returns-in-Cut-clause-step
returns-in-Cut-clause-step c =
    subst (λ (l : SwitchLine). OnOk c.cut.result (Makes c.args.self.now c.cut.new.self c.args.work.now.out c.cut.new.work.out (does c.args.self.now.row.plan l)
    (entries c.args.self.now.row.plan l))) (sym c.in-Cut.is)
    (ok_then c.cut.result
    (λ made. made_as c.args.self.now.row.plan (line.Cut c.in-Cut.edge c.in-Cut.peer) c.args.self.now c.cut.new.self c.args.work.now.out c.cut.new.work.out
    (cutting c.args.self.now.row.plan c.in-Cut.edge.0 c.in-Cut.peer.0)
    (cut_entries c.args.self.now.row.plan c.in-Cut.edge.0 c.in-Cut.peer.0) (λ x. refl) (λ x. refl) made)
    c.cut.ensures.step)

pub returns-in-Some-clause-step : goal.returns-in-Some-clause-step
returns-in-Some-clause-step c =
    subst (λ (l : SwitchLine). OnOk c.set.result (Makes c.args.self.now c.set.new.self c.args.work.now.out c.set.new.work.out (does c.args.self.now.row.plan l)
    (entries c.args.self.now.row.plan l))) (sym c.in-Set.is)
    (ok_then c.set.result
    (λ made. made_as c.args.self.now.row.plan (line.Set c.in-Set.edge c.in-Set.wire c.in-Set.wish) c.args.self.now c.set.new.self c.args.work.now.out c.set.new.work.out
    (setting c.args.self.now.row.plan c.in-Set.edge.0 c.in-Set.wire.0 c.in-Set.wish)
    (set_entries c.args.self.now.row.plan c.in-Set.edge.0 c.in-Set.wire.0 c.in-Set.wish) (λ x. refl) (λ x. refl) made)
    c.set.ensures.step)
