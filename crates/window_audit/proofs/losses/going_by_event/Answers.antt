-- A frame is lost by an arrival or a discard only where it was that packet's; connections, deliveries, losses, restarts and circuits lose
-- none.
use Rattle.std.proofs.Common.{◌≡◌, ◌∙◌, true, false, subst}
use Rattle.net_base.specs.declared.trace.event.Event.{Event}
use Rattle.seen_network.specs.Once.{has_seen}
use Rattle.seen_network.specs.Seen.{delivers, end_goes, happened, with_on, with_standing, without_edge}
use Rattle.window_audit.proofs.LossLemmas.{delivered_same, end_same, none_by, on_same, standing_same, went_of, without_same}
use Rattle.window_audit.proofs.losses.going_by_event.Goals as goal

pub returns-in-Arrive : goal.returns-in-Arrive
returns-in-Arrive c = λ seen told origin had lost.
    c.origin.ensures ∙ went_of c.args.copies.now c.in-Arrive.packet origin seen told had (subst (λ (e : Event). has_seen (happened e seen) origin ≡ false) c.in-Arrive.is lost)

pub returns-in-Discard : goal.returns-in-Discard
returns-in-Discard c = λ seen told origin had lost.
    c.origin-in-Discard.ensures ∙ went_of c.args.copies.now c.in-Discard.packet origin seen told had (subst (λ (e : Event). has_seen (happened e seen) origin ≡ false) c.in-Discard.is lost)

pub returns-in-Connect : goal.returns-in-Connect
returns-in-Connect c = λ seen told origin had lost.
    absurd (none_by seen (with_standing c.in-Connect.to.0 c.in-Connect.from.0 true (with_standing c.in-Connect.from.0 c.in-Connect.to.0 true seen)) origin (standing_same c.in-Connect.to.0
    c.in-Connect.from.0 c.in-Connect.from.0 c.in-Connect.to.0 seen) had (subst (λ (e : Event). has_seen (happened e seen) origin ≡ false) c.in-Connect.is lost))

pub returns-in-Deliver : goal.returns-in-Deliver
returns-in-Deliver c = λ seen told origin had lost.
    absurd (none_by seen (delivers c.in-Deliver.from.0 c.in-Deliver.to.0 c.in-Deliver.count seen) origin (delivered_same c.in-Deliver.from.0 c.in-Deliver.to.0 c.in-Deliver.count seen) had (subst
    (λ (e : Event). has_seen (happened e seen) origin ≡ false) c.in-Deliver.is lost))

pub returns-in-Lose : goal.returns-in-Lose
returns-in-Lose c = λ seen told origin had lost.
    absurd (none_by seen (end_goes c.in-Lose.edge.0 c.in-Lose.peer.0 seen) origin (end_same c.in-Lose.edge.0 c.in-Lose.peer.0 seen) had (subst (λ (e : Event). has_seen (happened e seen) origin ≡
    false) c.in-Lose.is lost))

pub returns-in-Restart : goal.returns-in-Restart
returns-in-Restart c = λ seen told origin had lost.
    absurd (none_by seen (without_edge c.in-Restart.edge.0 seen) origin (without_same c.in-Restart.edge.0 seen) had (subst (λ (e : Event). has_seen (happened e seen) origin ≡ false)
    c.in-Restart.is lost))

pub returns-in-Circuit : goal.returns-in-Circuit
returns-in-Circuit c = λ seen told origin had lost.
    absurd (none_by seen (with_on c.in-Circuit.circuit.0 c.in-Circuit.on seen) origin (on_same c.in-Circuit.circuit.0 c.in-Circuit.on seen) had (subst (λ (e : Event). has_seen (happened e seen)
    origin ≡ false) c.in-Circuit.is lost))
