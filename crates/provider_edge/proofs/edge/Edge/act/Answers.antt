-- What a mapping, a release and a withdrawal of addresses do; on each message of the last arm the edge tells its advice, and does no more.
use Rattle.std.proofs.Common.{◌≡◌, ◌∙◌, refl}
use Rattle.pw_messages.specs.LinkAnswers.{Answers}
use Rattle.edge_model.specs.Hear.{acts_on, advice_of, advises}
use Rattle.edge_model.specs.Work.{Work}
use Rattle.peer_dialogue.proofs.SettleLemmas.{map_on}
use Rattle.provider_edge.proofs.ActLemmas.{is_advised, mapping_acts, release_acts, split}
use Rattle.provider_edge.proofs.ClearLemmas.{withdraw_acts}
use Rattle.provider_edge.specs.AtWork.{at_work}
use Rattle.provider_edge.specs.Lists.{seen}
use Rattle.provider_edge.proofs.edge.Edge.act.Goals as goal

pub returns-in-LabelMapping-clause-step : goal.returns-in-LabelMapping-clause-step
returns-in-LabelMapping-clause-step g c = map_on _ _ c.hear_mapping.result
    (λ puts told agrees.
    mapping_acts c.args.self.now.plan told c.args.peer c.args.message.now c.in-LabelMapping.id c.in-LabelMapping.fec c.in-LabelMapping.label c.in-LabelMapping.pw_status c.in-LabelMapping.points c.binding_in-binding.result (seen c.args.self.now) (g.L.Link.calls c.args.work.now.link.now) c.args.work.now.effects.now.list _
    c.in-LabelMapping.is c.binding_in-binding.ensures.binding (puts told agrees))
    c.hear_mapping.ensures.step

pub returns-in-LabelRelease-clause-step : goal.returns-in-LabelRelease-clause-step
returns-in-LabelRelease-clause-step g c = λ told agrees.
    release_acts c.args.self.now.plan told c.args.peer c.args.message.now c.in-LabelRelease.id c.in-LabelRelease.fec c.in-LabelRelease.label (seen c.args.self.now)
    (seen c.hear_release.new.self) (g.L.Link.calls c.args.work.now.link.now) c.args.work.now.effects.now.list
    c.in-LabelRelease.is (c.hear_release.ensures.step)

pub returns-in-AddressWithdraw-clause-step : goal.returns-in-AddressWithdraw-clause-step
returns-in-AddressWithdraw-clause-step g c = map_on _ _ c.hear_mac_withdraw.result
    (λ puts told agrees.
    withdraw_acts c.args.self.now.plan told c.args.peer c.args.message.now c.in-AddressWithdraw.id c.in-AddressWithdraw.addresses c.in-AddressWithdraw.fec c.in-AddressWithdraw.macs
    (at_work g.L.Link.calls c.args.self.now c.args.work.now) _
    c.in-AddressWithdraw.is (puts told agrees))
    c.hear_mac_withdraw.ensures.step

pub returns-in-Hello-clause-step : goal.returns-in-Hello-clause-step
returns-in-Hello-clause-step g c = map_on _ _ c.tell_advice.result
    (λ puts told agrees. puts told agrees ∙ advised told (at_work g.L.Link.calls c.args.self.now c.args.work.now))
    c.tell_advice.ensures.step
  where
    advised : (told : Answers) (work : Work) → advises told c.args.peer (advice_of c.args.message.now) work ≡ acts_on c.args.self.now.plan told c.args.peer c.args.message.now work
    advised told work =
        split c.in-Hello.is (λ p. is_advised c.args.self.now.plan told c.args.peer work c.args.message.now _ p.5 refl)
        (λ q. split q (λ p. is_advised c.args.self.now.plan told c.args.peer work c.args.message.now _ p.2 refl)
        (λ q. split q (λ p. is_advised c.args.self.now.plan told c.args.peer work c.args.message.now _ p.1 refl)
        (λ q. split q (λ p. is_advised c.args.self.now.plan told c.args.peer work c.args.message.now _ p.3 refl)
        (λ q. split q (λ p. is_advised c.args.self.now.plan told c.args.peer work c.args.message.now _ p.2 refl)
        (λ q. split q (λ p. is_advised c.args.self.now.plan told c.args.peer work c.args.message.now _ p.3 refl)
        (λ q. split q (λ p. is_advised c.args.self.now.plan told c.args.peer work c.args.message.now _ p.3 refl)
        (λ p. is_advised c.args.self.now.plan told c.args.peer work c.args.message.now _ p.3 refl)))))))
