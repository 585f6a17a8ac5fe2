-- A frame is lost by a sent, copied or aged packet only where it was that packet's; what is said, sessions and wires lose none.
use Rattle.std.proofs.Common.{◌≡◌, ◌∙◌, false, subst}
use Rattle.net_base.specs.declared.trace.entry.Entry.{Entry}
use Rattle.seen_network.specs.Once.{has_seen}
use Rattle.seen_network.specs.Seen.{is_shown_up, origin_among, said_towards, session_told, told_by_itself, with_up}
use Rattle.seen_network.proofs.CommonLemmas.{session_way, said_way}
use Rattle.window_audit.proofs.LossLemmas.{came_of, none_by, repeated_of, up_same, went_of}
use Rattle.window_audit.proofs.losses.going_by_entry.Goals as goal

pub returns-in-Sent : goal.returns-in-Sent
returns-in-Sent c = λ seen tells origin had lost.
    c.origin.ensures ∙ came_of c.args.copies.now c.in-Sent.packet c.in-Sent.origin origin seen tells had (subst (λ (e : Entry). has_seen (told_by_itself e seen) origin ≡ false) c.in-Sent.is lost)

pub returns-in-Copied : goal.returns-in-Copied
returns-in-Copied c = λ seen tells origin had lost.
    c.origin-in-Copied.ensures ∙ repeated_of c.args.copies.now c.in-Copied.packet origin (origin_among c.in-Copied.of seen.under_way) seen tells had (subst (λ (e : Entry). has_seen (told_by_itself e seen)
    origin ≡ false) c.in-Copied.is lost)

pub returns-in-Aged : goal.returns-in-Aged
returns-in-Aged c = λ seen tells origin had lost.
    c.origin-in-Aged.ensures ∙ went_of c.args.copies.now c.in-Aged.packet origin seen tells had (subst (λ (e : Entry). has_seen (told_by_itself e seen) origin ≡ false) c.in-Aged.is lost)

pub returns-in-Said : goal.returns-in-Said
returns-in-Said c = λ seen tells origin had lost.
    absurd (none_by seen (said_towards c.in-Said.from.0 c.in-Said.to.0 c.in-Said.bytes seen) origin (said_way c.in-Said.from.0 c.in-Said.to.0 c.in-Said.bytes seen) had (subst (λ (e : Entry).
    has_seen (told_by_itself e seen) origin ≡ false) c.in-Said.is lost))

pub returns-in-Session : goal.returns-in-Session
returns-in-Session c = λ seen tells origin had lost.
    absurd (none_by seen (session_told c.in-Session.edge.0 c.in-Session.peer.0 c.in-Session.state seen) origin (session_way c.in-Session.edge.0 c.in-Session.peer.0 c.in-Session.state seen) had
    (subst (λ (e : Entry). has_seen (told_by_itself e seen) origin ≡ false) c.in-Session.is lost))

pub returns-in-Wire : goal.returns-in-Wire
returns-in-Wire c = λ seen tells origin had lost.
    absurd (none_by seen (with_up c.in-Wire.edge.0 c.in-Wire.wire.0 (is_shown_up c.in-Wire.down) seen) origin (up_same c.in-Wire.edge.0 c.in-Wire.wire.0 (is_shown_up c.in-Wire.down) seen) had (subst (λ (e :
    Entry). has_seen (told_by_itself e seen) origin ≡ false) c.in-Wire.is lost))
