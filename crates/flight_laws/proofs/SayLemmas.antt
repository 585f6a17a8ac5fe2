-- A message about pseudowires is said in a session that is up: what it is for the peer, and for another place.
use Rattle.std.proofs.Common.{◌≡◌, ◌++◌, ◌∙◌, ℕ, Bool, true, false, cond, not, nat_eq, List, [], ◌∷◌, Option, Some, None, refl, sym, ap, subst}
use Rattle.net_base.specs.declared.plan.places.EdgeId.{EdgeId}
use Rattle.ldp_grammar.specs.declared.message.Message.{Message}
use Rattle.ldp_grammar.specs.Written.{written}
use Rattle.session_core.specs.declared.peers.Peers.{Peers}
use Rattle.session_core.specs.Phase as phase
use Rattle.pw_messages.specs.Sender.{platform_of}
use Rattle.edge_model.specs.Put.{having_spoken, message_octets_of}
use Rattle.edge_model.specs.Session.{clears_ends, says, losing_ends}
use Rattle.edge_model.specs.State.{Peering, has_end, is_there, with_ends_beside, with_kept}
use Rattle.edge_model.specs.Work.{Work, changes}
use Rattle.edge_model.proofs.MendLemmas.{clears_not}
use Rattle.network_model.specs.Absorb.{taken_all}
use Rattle.flight_laws.specs.Coming.{and_more}
use Rattle.flight_laws.specs.Ends.{IsLeftBehind}
use Rattle.flight_laws.specs.Meeting.{IsFine, Meets, ShowsPlace, Spares, closes, said_to}
use Rattle.flight_laws.specs.Messages.{octets_of_all}
use Rattle.flight_laws.specs.Pair.{ArePaired, AreTalking}
use Rattle.flight_laws.proofs.MeetLemmas.{meets_shown, more_octets}
use Rattle.flight_laws.proofs.OfferLemmas.{IsOfWires}
use Rattle.flight_laws.proofs.ReactLemmas.{says_in_step}
use Rattle.flight_laws.proofs.WorkLemmas.{same_end, wrote, wrote_fine, wrote_shows, wrote_spares}

-- ---- ends that are lost touch neither neighbours nor what was said

pub clears_spares : (place : ℕ) (peer : EdgeId) (work : Work) → Spares place work (clears_ends peer work)
unfolding changes with_ends_beside with_kept
clears_spares place peer work = by_end (has_end work.edge peer) where
  by_end : (b : Bool) → Spares place work (cond b work (changes (losing_ends peer) work))
  by_end true = record { kept = refl; said = refl; closed = refl }
  by_end false = record { kept = refl; said = refl; closed = refl }

pub clears_fine : (me peer : EdgeId) (work : Work) → IsFine me work → IsFine me (clears_ends peer work)
unfolding changes with_ends_beside with_kept
clears_fine me peer work fine = by_end (has_end work.edge peer) where
  by_end : (b : Bool) → IsFine me (cond b work (changes (losing_ends peer) work))
  by_end true = fine
  by_end false = record { place = fine.place; idle = fine.idle; well = fine.well }

-- ---- what is said

wrote_there : (peer : EdgeId) (kept : Peering) (bytes : List ℕ) (work : Work) → work.edge.peering peer.0 ≡ Some kept → has_end (wrote peer bytes work).edge peer ≡ true
wrote_there peer kept bytes work at =
    ap is_there (wrote_shows peer kept bytes work (said_to peer.0 work.effects) (closes peer.0 work.effects) (record { keeps = at; says = refl; ended = refl })).keeps

-- the message is put, with the Message ID that is next
pub says_is : (peer : EdgeId) (message : ℕ → Message) (kept : Peering) (work : Work) → work.edge.peering peer.0 ≡ Some kept → (says taken_all peer message work).work
    ≡ wrote peer (message_octets_of kept message) work
unfolding wrote
says_is peer message kept work at = rw at (clears_not peer (wrote peer (message_octets_of kept message) work) (wrote_there peer kept (message_octets_of kept message) work at))

-- nothing is where no session stands
pub says_none : (peer : EdgeId) (message : ℕ → Message) (work : Work) → work.edge.peering peer.0 ≡ None → (says taken_all peer message work).work ≡ work
says_none peer message work at = rw at refl

pub says_spares : (place : ℕ) (peer : EdgeId) (message : ℕ → Message) (work : Work) → nat_eq place peer.0 ≡ false → Spares place work (says taken_all peer message work).work
says_spares place peer message work apart = by_end (work.edge.peering peer.0) refl where
  by_end : (near : Option Peering) → work.edge.peering peer.0 ≡ near → Spares place work (says taken_all peer message work).work
  by_end None at = subst (Spares place work) (sym (says_none peer message work at)) (record { kept = refl; said = refl; closed = refl })
  by_end (Some kept) at = subst (Spares place work) (sym (says_is peer message kept work at)) (wrote_spares place peer (message_octets_of kept message) work apart)

pub says_fine : (me peer : EdgeId) (message : ℕ → Message) (work : Work) → IsFine me work → IsFine me (says taken_all peer message work).work
says_fine me peer message work fine = by_end (work.edge.peering peer.0) refl where
  by_end : (near : Option Peering) → work.edge.peering peer.0 ≡ near → IsFine me (says taken_all peer message work).work
  by_end None at = subst (IsFine me) (sym (says_none peer message work at)) fine
  by_end (Some kept) at = subst (IsFine me) (sym (says_is peer message kept work at)) (wrote_fine me peer (message_octets_of kept message) work fine)

pub says_shows : (peer : EdgeId) (message : ℕ → Message) (kept : Peering) (work : Work) (said : List ℕ) (closed : Bool) → ShowsPlace peer.0 work (Some kept) said closed
    → ShowsPlace peer.0 (says taken_all peer message work).work (Some (having_spoken kept)) (said ++ message_octets_of kept message) closed
says_shows peer message kept work said closed shows =
    subst (λ (w : Work). ShowsPlace peer.0 w (Some (having_spoken kept)) (said ++ message_octets_of kept message) closed) (sym (says_is peer message kept work shows.keeps))
    (wrote_shows peer kept (message_octets_of kept message) work said closed shows)

-- ---- the peer

pub one_octets : (own : Peers) (message : ℕ → Message) (kept : Peering) → kept.session.peers ≡ own → message_octets_of kept message ≡ octets_of_all own.me (message kept.next_id ∷ [])
one_octets own message kept peers = ap (λ (p : Peers). written (message kept.next_id) (platform_of p.me)) peers ∙ sym (same_end (written (message kept.next_id) (platform_of own.me)))

pub left_says : (own other : Peers) (peer : EdgeId) (kept : Peering) (far : Option Peering) (out more : List ℕ) (message : ℕ → Message) (work : Work) → work.edge.peering peer.0
    ≡ Some kept → kept.session.phase ≡ phase.Operational
    → IsOfWires message → IsLeftBehind own other peer.0 far out more work → IsLeftBehind own other peer.0 far out more (says taken_all peer message work).work
left_says own other peer kept far out more message work at up is left =
    let said : List ℕ = said_to peer.0 work.effects in
    let unclosed : closes peer.0 work.effects ≡ false = left.unclosed kept at in
    let pair : ArePaired own other (Some kept) far (and_more far out said) (kept.held ++ more) = rw (at, unclosed) at left.leaves in
    let shows = says_shows peer message kept work said false (record { keeps = at; says = refl; ended = unclosed }) in
    let m : Message = message kept.next_id in
    record {
      leaves = rw (shows.keeps, shows.says, shows.ended) (record {
        messages = and_more far pair.messages (m ∷ []);
        answers = pair.answers;
        out_is = more_octets own.me far out said (message_octets_of kept message) pair.messages (m ∷ []) pair.out_is (one_octets own message kept pair.talk.here.peers);
        back_is = pair.back_is;
        talk = says_in_step own other kept far pair.messages pair.answers m up (is.said own kept.next_id pair.talk.here.numbered) (is.plain kept.next_id) pair.talk;
      });
      unclosed = λ k e. shows.ended;
    }

pub meets_says : (own other : Peers) (me peer : EdgeId) (kept : Peering) (far : Option Peering) (out : List ℕ) (answers : List Message) (message : ℕ → Message) (work : Work)
    → work.edge.peering peer.0 ≡ Some kept
    → kept.session.phase ≡ phase.Operational → IsOfWires message → Meets own other me peer far out answers work → Meets own other me peer far out answers (says taken_all peer message work).work
meets_says own other me peer kept far out answers message work at up is meets =
    let said : List ℕ = said_to peer.0 work.effects in
    let talk : AreTalking own other (Some kept) far meets.messages answers = rw at at meets.talk in
    let unclosed : closes peer.0 work.effects ≡ false = meets.ended ∙ ap (λ (o : Option Peering). not (is_there o)) at in
    let m : Message = message kept.next_id in
    meets_shown own other me peer far (Some (having_spoken kept)) out (said ++ message_octets_of kept message) (and_more far meets.messages (m ∷ [])) answers (says taken_all peer message work).work
    (says_shows peer message kept work said false (record { keeps = at; says = refl; ended = unclosed }))
    (says_fine me peer message work meets.fine)
    (more_octets own.me far out said (message_octets_of kept message) meets.messages (m ∷ []) meets.out_is (one_octets own message kept talk.here.peers))
    (says_in_step own other kept far meets.messages answers m up (is.said own kept.next_id talk.here.numbered) (is.plain kept.next_id) talk)
