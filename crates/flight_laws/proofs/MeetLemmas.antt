-- An event of a session keeps an edge and its neighbour in step.
use Rattle.std.proofs.Common.{◌≡◌, ◌++◌, ◌∙◌, ℕ, Bool, true, false, cond, not, List, [], ◌∷◌, Option, Some, None, refl, sym, ap, append_assoc}
use Rattle.net_base.specs.declared.plan.places.EdgeId.{EdgeId}
use Rattle.net_values.specs.declared.addr.Addr.{Addr}
use Rattle.net_values.proofs.NumberLemmas.{same_number}
use Rattle.ldp_grammar.specs.declared.message.Message.{Message}
use Rattle.session_core.specs.declared.peers.Peers.{Peers}
use Rattle.session_core.specs.declared.reply.Reply.{Reply}
use Rattle.session_core.specs.Phase.{Phase}
use Rattle.session_core.specs.Phase as phase
use Rattle.session_core.specs.Session.{phase_name}
use Rattle.session_core.specs.State.{SessionState}
use Rattle.session_core.specs.Table.{SessionEvent, Outcome, Stay, Goes, Ends, outcome_of}
use Rattle.edge_model.specs.declared.effect.Effect.TheVariants as effect
use Rattle.edge_model.specs.Put.{Spoken, having_spoken, put_replies}
use Rattle.edge_model.specs.Session.{comes_of, ends, happens, is_same_phase, tells_change, with_session}
use Rattle.edge_model.specs.State.{Peering, is_there, with_peering}
use Rattle.edge_model.specs.Work.{Work, changes, gives}
use Rattle.network_model.specs.Absorb.{taken_all}
use Rattle.flight_laws.specs.Coming.{and_more}
use Rattle.flight_laws.specs.Meeting.{IsFine, Meets, ShowsPlace, said_to}
use Rattle.flight_laws.specs.Messages.{octets_of_all}
use Rattle.flight_laws.specs.Pair.{AreTalking, StayInStep, having_put_all, messages_put, octets_put}
use Rattle.flight_laws.proofs.ReactLemmas.{put_octets_are}
use Rattle.flight_laws.proofs.SaidLemmas.{all_joined}
use Rattle.flight_laws.proofs.WorkLemmas.{HasPut, all_put, ends_shows, session_spares, well-append}

-- what the work shows is in step
pub meets_shown : (own other : Peers) (me peer : EdgeId) (far near : Option Peering) (out said : List ℕ) (messages answers : List Message) (work : Work)
    → ShowsPlace peer.0 work near said (not (is_there near)) → IsFine me work → and_more far out said ≡ octets_of_all own.me messages
    → AreTalking own other near far messages (cond (is_there near) answers [])
    → Meets own other me peer far out answers work
meets_shown own other me peer far near out said messages answers work shows fine is talk = record {
  fine = fine;
  ended = rw shows.keeps shows.ended;
  messages = messages;
  out_is = rw shows.says is;
  talk = rw shows.keeps talk;
}

-- more is said
pub more_octets : (router : Addr) (far : Option Peering) (out said more : List ℕ) (messages new : List Message) → and_more far out said ≡ octets_of_all router messages → more
    ≡ octets_of_all router new
    → and_more far out (said ++ more) ≡ octets_of_all router (and_more far messages new)
more_octets router None out said more messages new is more_is = is
more_octets router (Some y) out said more messages new is more_is =
    sym (append_assoc out said more) ∙ ap (λ (l : List ℕ). l ++ more) is ∙ ap (λ (l : List ℕ). octets_of_all router messages ++ l) more_is ∙ sym (all_joined router messages new)

pub put_peers : (rs : List Reply) (kept : Peering) → (having_put_all rs kept).session.peers ≡ kept.session.peers
put_peers [] kept = refl
put_peers (r ∷ rs) kept = put_peers rs (having_spoken kept)

-- a changed state is told
told_shows : (me peer : EdgeId) (same : Bool) (new : Phase) (near : Option Peering) (said : List ℕ) (closed : Bool) (work : Work) → ShowsPlace peer.0 work near said closed → IsFine me work
    → ShowsPlace peer.0 (cond same work (gives (effect.Session peer (phase_name new)) work)) near said closed × IsFine me (cond same work (gives (effect.Session peer (phase_name new)) work))
unfolding gives
told_shows me peer true new near said closed work shows fine = (shows, fine)
told_shows me peer false new near said closed work shows fine =
    let spared = session_spares peer.0 peer (phase_name new) work in (
      record { keeps = spared.kept ∙ shows.keeps; says = spared.said ∙ shows.says; ended = spared.closed ∙ shows.ended },
      record { place = fine.place; idle = fine.idle; well = well-append work.effects (effect.Session peer (phase_name new)) fine.well (by_phase new) },
    )
  where
    by_phase : (p : Phase) → Rattle.flight_laws.specs.Endings.EndsWell (phase_name p)
    by_phase phase.Initialized = tt
    by_phase phase.OpenSent = tt
    by_phase phase.OpenRec = tt
    by_phase phase.Operational = tt

pub moved_shows : (me peer : EdgeId) (kept now : Peering) (said : List ℕ) (closed : Bool) (work : Work) → ShowsPlace peer.0 work (Some kept) said closed → IsFine me work
    → ShowsPlace peer.0 (changes (with_peering peer (Some now)) work) (Some now) said closed × IsFine me (changes (with_peering peer (Some now)) work)
unfolding changes with_peering
moved_shows me peer kept now said closed work shows fine = (
  record { keeps = rw (same_number peer.0) refl; says = shows.says; ended = shows.ended },
  record { place = fine.place; idle = fine.idle; well = fine.well },
)

-- what comes of an event
pub comes_meets : (own other : Peers) (me peer : EdgeId) (kept : Peering) (far : Option Peering) (out said : List ℕ) (messages answers : List Message) (work : Work) (o : Outcome)
    → kept.session.peers ≡ own → ShowsPlace peer.0 work (Some kept) said false → IsFine me work → and_more far out said ≡ octets_of_all own.me messages → StayInStep own other kept far messages answers o
    → Meets own other me peer far out answers (comes_of taken_all peer kept o work)
comes_meets own other me peer kept far out said messages answers work Stay peers shows fine is step = meets_shown own other me peer far (Some kept) out said messages answers work shows fine is step
comes_meets own other me peer kept far out said messages answers work (Goes next replies) peers shows fine is step =
    let now : Peering = with_session next kept in
    let moved = moved_shows me peer kept now said false work shows fine in
    let put : Spoken = put_replies taken_all peer replies (changes (with_peering peer (Some now)) work) in
    let all : HasPut me peer (Some (having_put_all replies now)) (said ++ octets_put replies now) false put =
    all_put me peer replies now (changes (with_peering peer (Some now)) work) said false moved.0 moved.1 in
    let told = told_shows me peer (is_same_phase kept.session.phase next.phase) next.phase (Some (having_put_all replies now)) (said ++ octets_put replies now) false put.work all.shows all.fine in
    let same : next.peers ≡ own = sym (put_peers replies now) ∙ step.here.peers in
    rw all.taken
    (meets_shown own other me peer far (Some (having_put_all replies now)) out (said ++ octets_put replies now) (and_more far messages (messages_put replies now)) answers
    (tells_change peer kept.session.phase next.phase put.work) told.0 told.1
    (more_octets own.me far out said (octets_put replies now) messages (messages_put replies now) is
    (put_octets_are replies now ∙ ap (λ (p : Peers). octets_of_all p.me (messages_put replies now)) same)) step)
comes_meets own other me peer kept far out said messages answers work (Ends why replies) peers shows fine is step =
    let put : Spoken = put_replies taken_all peer replies work in
    let all : HasPut me peer (Some (having_put_all replies kept)) (said ++ octets_put replies kept) false put = all_put me peer replies kept work said false shows fine in
    let ended = ends_shows me peer why (Some (having_put_all replies kept)) put.work (said ++ octets_put replies kept) false step.0 all.shows all.fine in
    meets_shown own other me peer far None out (said ++ octets_put replies kept) (and_more far messages (messages_put replies kept)) answers (ends peer why put.work) ended.0 ended.1
    (more_octets own.me far out said (octets_put replies kept) messages (messages_put replies kept) is
    (put_octets_are replies kept ∙ ap (λ (p : Peers). octets_of_all p.me (messages_put replies kept)) peers)) step.1

-- an event that keeps every session in step, with other answers to hear
pub happens_meets : (own other : Peers) (me peer : EdgeId) (far : Option Peering) (out : List ℕ) (before answers : List Message) (event : SessionEvent) (work : Work)
    → ((kept : Peering) (messages : List Message) → AreTalking own other (Some kept) far messages before → StayInStep own other kept far messages answers (outcome_of kept.session event))
    → Meets own other me peer far out before work → Meets own other me peer far out answers (happens taken_all peer event work)
happens_meets own other me peer far out before answers event work step meets = by_end (work.edge.peering peer.0) refl where
  by_end : (near : Option Peering) → work.edge.peering peer.0 ≡ near → Meets own other me peer far out answers (happens taken_all peer event work)
  by_end None is = rw is (record {
    fine = meets.fine;
    ended = meets.ended;
    messages = meets.messages;
    out_is = meets.out_is;
    talk = rw is (rw is at meets.talk);
  })
  by_end (Some kept) is = rw is
      (comes_meets own other me peer kept far out (said_to peer.0 work.effects) meets.messages answers work (outcome_of kept.session event) (here kept is).here.peers
      (record { keeps = is; says = refl; ended = meets.ended ∙ ap (λ (o : Option Peering). not (is_there o)) is }) meets.fine meets.out_is
      (step kept meets.messages (here kept is)))
    where
      here : (kept : Peering) → work.edge.peering peer.0 ≡ Some kept → AreTalking own other (Some kept) far meets.messages before
      here kept is = rw is at meets.talk

-- what comes of an event after which the session goes on
pub goes_shows : (me peer : EdgeId) (kept : Peering) (next : SessionState) (replies : List Reply) (said : List ℕ) (work : Work) → ShowsPlace peer.0 work (Some kept) said false → IsFine me work
    → ShowsPlace peer.0 (comes_of taken_all peer kept (Goes next replies) work) (Some (having_put_all replies (with_session next kept))) (said ++ octets_put replies (with_session next kept)) false
    × IsFine me (comes_of taken_all peer kept (Goes next replies) work)
goes_shows me peer kept next replies said work shows fine =
    let now : Peering = with_session next kept in
    let begun = moved_shows me peer kept now said false work shows fine in
    let put : Spoken = put_replies taken_all peer replies (changes (with_peering peer (Some now)) work) in
    let all : HasPut me peer (Some (having_put_all replies now)) (said ++ octets_put replies now) false put =
    all_put me peer replies now (changes (with_peering peer (Some now)) work) said false begun.0 begun.1 in
    rw all.taken (told_shows me peer (is_same_phase kept.session.phase next.phase) next.phase (Some (having_put_all replies now)) (said ++ octets_put replies now) false put.work all.shows all.fine)
