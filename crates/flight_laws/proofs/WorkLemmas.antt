-- What an edge's work is for one neighbour: what is kept for it, what was said to it, and whether the end was closed.
use Rattle.std.proofs.Common.{◌≡◌, ◌++◌, ◌||◌, ◌∙◌, ℕ, Bool, true, false, cond, nat_eq, List, [], ◌∷◌, Option, Some, None, refl, sym, ap, append_assoc}
use Rattle.net_values.proofs.BoolLemmas.{or_false, or_true, or_append}
use Rattle.net_values.proofs.NumberLemmas.{same_number}
use Rattle.net_base.specs.declared.plan.places.EdgeId.{EdgeId}
use Rattle.net_base.specs.declared.trace.state_name.Reason.{Reason}
use Rattle.net_base.specs.declared.trace.state_name.Reason.TheVariants as reason
use Rattle.net_base.specs.declared.trace.state_name.StateName.{StateName}
use Rattle.net_base.specs.declared.trace.state_name.StateName.TheVariants as name
use Rattle.session_core.specs.declared.reply.Reply.{Reply}
use Rattle.session_core.specs.Phase.{Phase}
use Rattle.session_core.specs.Session.{phase_name}
use Rattle.session_core.specs.Table.{SessionEvent, Outcome, Stay, Goes, Ends, outcome_of}
use Rattle.pw_messages.specs.LinkAnswers.{Answers}
use Rattle.edge_model.specs.declared.effect.Effect.{Effect}
use Rattle.edge_model.specs.declared.effect.Effect.TheVariants as effect
use Rattle.edge_model.specs.Put.{Spoken, put_octets, put_reply, put_reply_to, put_replies, puts_on, octets_of, having_spoken, with_spoken}
use Rattle.edge_model.specs.Session.{comes_of, ends, happens, happens_to, is_same_phase, tells_change, with_session}
use Rattle.edge_model.specs.State.{Peering, with_peering}
use Rattle.edge_model.specs.Work.{Work, changes, gives, next_answer, puts}
use Rattle.network_model.specs.Absorb.{taken_all}
use Rattle.flight_laws.specs.Endings.{is_no_refusal}
use Rattle.flight_laws.specs.Meeting.{IsFine, ShowsPlace, Spares, TellWell, TellsWell, closes, said_to}
use Rattle.flight_laws.specs.Pair.{having_put_all, octets_put}

cond_append : (b : Bool) (x y z : List ℕ) → cond b (x ++ (y ++ z)) (y ++ z) ≡ cond b (x ++ y) y ++ z
cond_append true x y z = sym (append_assoc x y z)
cond_append false x y z = refl

pub said-append : (place : ℕ) (es fs : List Effect) → said_to place (es ++ fs) ≡ said_to place es ++ said_to place fs
said-append place [] fs = refl
said-append place (effect.Said peer octets ∷ es) fs =
    ap (λ (l : List ℕ). cond (nat_eq place peer.0) (octets ++ l) l) (said-append place es fs) ∙ cond_append (nat_eq place peer.0) octets (said_to place es) (said_to place fs)
said-append place (effect.Sent peer wire came octets ∷ es) fs = said-append place es fs
said-append place (effect.Left circuit octets ∷ es) fs = said-append place es fs
said-append place (effect.Dropped cause ∷ es) fs = said-append place es fs
said-append place (effect.Session peer state ∷ es) fs = said-append place es fs
said-append place (effect.Wire wire down ∷ es) fs = said-append place es fs
said-append place (effect.Pong wire sequence ∷ es) fs = said-append place es fs
said-append place (effect.Closed peer ∷ es) fs = said-append place es fs

pub closes-append : (place : ℕ) (es fs : List Effect) → closes place (es ++ fs) ≡ (closes place es || closes place fs)
closes-append place [] fs = refl
closes-append place (effect.Closed peer ∷ es) fs =
    ap (λ (b : Bool). nat_eq place peer.0 || b) (closes-append place es fs) ∙ or_append (nat_eq place peer.0) (closes place es) (closes place fs)
closes-append place (effect.Sent peer wire came octets ∷ es) fs = closes-append place es fs
closes-append place (effect.Left circuit octets ∷ es) fs = closes-append place es fs
closes-append place (effect.Dropped cause ∷ es) fs = closes-append place es fs
closes-append place (effect.Session peer state ∷ es) fs = closes-append place es fs
closes-append place (effect.Wire wire down ∷ es) fs = closes-append place es fs
closes-append place (effect.Pong wire sequence ∷ es) fs = closes-append place es fs
closes-append place (effect.Said peer octets ∷ es) fs = closes-append place es fs

pub well-append : (es : List Effect) (e : Effect) → TellWell es → TellsWell e → TellWell (es ++ e ∷ [])
well-append [] e all here = (here, tt)
well-append (x ∷ es) e all here = (all.0, well-append es e all.1 here)

pub spares_same : (place : ℕ) (work : Work) → Spares place work work
spares_same place work = record { kept = refl; said = refl; closed = refl }

pub spares_then : (place : ℕ) (a b c : Work) → Spares place a b → Spares place b c → Spares place a c
spares_then place a b c one next = record { kept = next.kept ∙ one.kept; said = next.said ∙ one.said; closed = next.closed ∙ one.closed }

-- ---- operations on one peer spare another place

pub same_end : (xs : List ℕ) → xs ++ [] ≡ xs
same_end [] = refl
same_end (x ∷ xs) = ap (λ (l : List ℕ). x ∷ l) (same_end xs)

pub with_peering_spares : (place : ℕ) (peer : EdgeId) (kept : Option Peering) (work : Work) → nat_eq place peer.0 ≡ false → Spares place work (changes (with_peering peer kept) work)
unfolding changes with_peering
with_peering_spares place peer kept work apart = record { kept = rw apart refl; said = refl; closed = refl }

with_spoken_spares : (place : ℕ) (peer : EdgeId) (work : Work) → nat_eq place peer.0 ≡ false → Spares place work (changes (with_spoken peer) work)
unfolding changes with_peering with_spoken
with_spoken_spares place peer work apart = record { kept = rw apart refl; said = refl; closed = refl }

puts_spares : (place : ℕ) (peer : EdgeId) (bytes : List ℕ) (taken : Bool) (work : Work) → Spares place work (puts peer bytes taken work)
unfolding puts
puts_spares place peer bytes taken work = record { kept = refl; said = refl; closed = refl }

said_spares : (place : ℕ) (peer : EdgeId) (bytes : List ℕ) (work : Work) → nat_eq place peer.0 ≡ false → Spares place work (gives (effect.Said peer bytes) work)
unfolding gives
said_spares place peer bytes work apart = record {
  kept = refl;
  said = said-append place work.effects (effect.Said peer bytes ∷ []) ∙ rw apart (same_end (said_to place work.effects));
  closed = closes-append place work.effects (effect.Said peer bytes ∷ []) ∙ or_false (closes place work.effects);
}

pub session_spares : (place : ℕ) (peer : EdgeId) (state : StateName) (work : Work) → Spares place work (gives (effect.Session peer state) work)
unfolding gives
session_spares place peer state work = record {
  kept = refl;
  said = said-append place work.effects (effect.Session peer state ∷ []) ∙ same_end (said_to place work.effects);
  closed = closes-append place work.effects (effect.Session peer state ∷ []) ∙ or_false (closes place work.effects);
}

closed_spares : (place : ℕ) (peer : EdgeId) (work : Work) → nat_eq place peer.0 ≡ false → Spares place work (gives (effect.Closed peer) work)
unfolding gives
closed_spares place peer work apart = record {
  kept = refl;
  said = said-append place work.effects (effect.Closed peer ∷ []) ∙ same_end (said_to place work.effects);
  closed = closes-append place work.effects (effect.Closed peer ∷ []) ∙ rw apart (or_false (closes place work.effects));
}

-- ---- an event of one peer spares another place

put_octets_spares : (place : ℕ) (peer : EdgeId) (bytes : List ℕ) (taken : Bool) (work : Work) → nat_eq place peer.0 ≡ false → Spares place work (put_octets peer bytes taken work).work
put_octets_spares place peer bytes true work apart =
    let put : Work = puts peer bytes true work in
    spares_then place work put _ (puts_spares place peer bytes true work)
    (spares_then place put (changes (with_spoken peer) put) _ (with_spoken_spares place peer put apart) (said_spares place peer bytes (changes (with_spoken peer) put) apart))
put_octets_spares place peer bytes false work apart = puts_spares place peer bytes false work

pub put_reply_spares : (told : Answers) (place : ℕ) (peer : EdgeId) (r : Reply) (kept : Option Peering) (work : Work) → nat_eq place peer.0 ≡ false
    → Spares place work (put_reply_to told peer r kept work).work
put_reply_spares told place peer r None work apart = spares_same place work
put_reply_spares told place peer r (Some kept) work apart = put_octets_spares place peer (octets_of kept r) (next_answer told work) work apart

put_replies_spares : (told : Answers) (place : ℕ) (peer : EdgeId) (rs : List Reply) (work : Work) → nat_eq place peer.0 ≡ false → Spares place work (put_replies told peer rs work).work
put_replies_spares told place peer [] work apart = spares_same place work
put_replies_spares told place peer (r ∷ rs) work apart =
    let one : Spoken = put_reply told peer r work in
    spares_then place work one.work _ (put_reply_spares told place peer r (work.edge.peering peer.0) work apart)
    (on (λ (next : Work). put_replies_spares told place peer rs next apart) one.failed one.work)
  where
    on : ((next : Work) → Spares place next (put_replies told peer rs next).work) → (failed : Bool) (next : Work) → Spares place next (puts_on (put_replies told peer rs) failed next).work
    on others true next = spares_same place next
    on others false next = others next

pub ends_spares : (place : ℕ) (peer : EdgeId) (why : Reason) (work : Work) → nat_eq place peer.0 ≡ false → Spares place work (ends peer why work)
ends_spares place peer why work apart =
    let gone : Work = changes (with_peering peer None) work in
    spares_then place work gone _ (with_peering_spares place peer None work apart)
    (spares_then place gone (gives (effect.Session peer (name.Ended why)) gone) _ (session_spares place peer (name.Ended why) gone)
    (closed_spares place peer (gives (effect.Session peer (name.Ended why)) gone) apart))

tells_spares : (place : ℕ) (peer : EdgeId) (same : Bool) (new : Phase) (work : Work) → Spares place work (cond same work (gives (effect.Session peer (phase_name new)) work))
tells_spares place peer true new work = spares_same place work
tells_spares place peer false new work = session_spares place peer (phase_name new) work

went_spares : (place : ℕ) (peer : EdgeId) (old new : Phase) (failed : Bool) (work : Work) → nat_eq place peer.0 ≡ false
    → Spares place work (cond failed (ends peer reason.LinkFault work) (tells_change peer old new work))
went_spares place peer old new true work apart = ends_spares place peer reason.LinkFault work apart
went_spares place peer old new false work apart = tells_spares place peer (is_same_phase old new) new work

comes_spares : (told : Answers) (place : ℕ) (peer : EdgeId) (kept : Peering) (o : Outcome) (work : Work) → nat_eq place peer.0 ≡ false → Spares place work (comes_of told peer kept o work)
comes_spares told place peer kept Stay work apart = spares_same place work
comes_spares told place peer kept (Goes next replies) work apart =
    let moved : Work = changes (with_peering peer (Some (with_session next kept))) work in
    let put : Spoken = put_replies told peer replies moved in
    spares_then place work moved _ (with_peering_spares place peer (Some (with_session next kept)) work apart)
    (spares_then place moved put.work _ (put_replies_spares told place peer replies moved apart) (went_spares place peer kept.session.phase next.phase put.failed put.work apart))
comes_spares told place peer kept (Ends why replies) work apart =
    spares_then place work (put_replies told peer replies work).work _ (put_replies_spares told place peer replies work apart)
    (ends_spares place peer why (put_replies told peer replies work).work apart)

happens_to_spares : (told : Answers) (place : ℕ) (peer : EdgeId) (event : SessionEvent) (kept : Option Peering) (work : Work) → nat_eq place peer.0 ≡ false
    → Spares place work (happens_to told peer event kept work)
happens_to_spares told place peer event None work apart = spares_same place work
happens_to_spares told place peer event (Some kept) work apart = comes_spares told place peer kept (outcome_of kept.session event) work apart

pub happens_spares : (told : Answers) (place : ℕ) (peer : EdgeId) (event : SessionEvent) (work : Work) → nat_eq place peer.0 ≡ false → Spares place work (happens told peer event work)
happens_spares told place peer event work apart = happens_to_spares told place peer event (work.edge.peering peer.0) work apart

-- ---- an event of a peer, where its link taken_all everything

-- the work after octets were put
unfoldable pub wrote : EdgeId → List ℕ → Work → Work
wrote peer bytes work = gives (effect.Said peer bytes) (changes (with_spoken peer) (puts peer bytes true work))

one_put : (peer : EdgeId) (kept : Peering) (r : Reply) (work : Work) → work.edge.peering peer.0 ≡ Some kept → put_reply taken_all peer r work
    ≡ record { work = wrote peer (octets_of kept r) work; failed = false }
unfolding wrote
one_put peer kept r work is = rw is refl

pub wrote_shows : (peer : EdgeId) (kept : Peering) (bytes : List ℕ) (work : Work) (said : List ℕ) (closed : Bool) → ShowsPlace peer.0 work (Some kept) said closed
    → ShowsPlace peer.0 (wrote peer bytes work) (Some (having_spoken kept)) (said ++ bytes) closed
unfolding wrote gives changes with_spoken with_peering puts
wrote_shows peer kept bytes work said closed shows = record {
  keeps = rw (same_number peer.0, shows.keeps) refl;
  says = said-append peer.0 work.effects (effect.Said peer bytes ∷ []) ∙ rw (same_number peer.0, shows.says, same_end bytes) refl;
  ended = closes-append peer.0 work.effects (effect.Said peer bytes ∷ []) ∙ or_false (closes peer.0 work.effects) ∙ shows.ended;
}

pub wrote_fine : (me peer : EdgeId) (bytes : List ℕ) (work : Work) → IsFine me work → IsFine me (wrote peer bytes work)
unfolding wrote gives changes with_spoken with_peering puts
wrote_fine me peer bytes work fine = record { place = fine.place; idle = fine.idle; well = well-append work.effects (effect.Said peer bytes) fine.well tt }

pub wrote_spares : (place : ℕ) (peer : EdgeId) (bytes : List ℕ) (work : Work) → nat_eq place peer.0 ≡ false → Spares place work (wrote peer bytes work)
unfolding wrote
wrote_spares place peer bytes work apart = put_octets_spares place peer bytes true work apart

-- what was put, all of it
pub record HasPut (me peer : EdgeId) (kept : Option Peering) (said : List ℕ) (closed : Bool) (put : Spoken) : Type 0 where
  pub taken : put.failed ≡ false
  pub shows : ShowsPlace peer.0 put.work kept said closed
  pub fine : IsFine me put.work

pub all_put : (me peer : EdgeId) (rs : List Reply) (kept : Peering) (work : Work) (said : List ℕ) (closed : Bool) → ShowsPlace peer.0 work (Some kept) said closed → IsFine me work
    → HasPut me peer (Some (having_put_all rs kept)) (said ++ octets_put rs kept) closed (put_replies taken_all peer rs work)
all_put me peer [] kept work said closed shows fine = record { taken = refl; shows = record { keeps = shows.keeps; says = shows.says ∙ sym (same_end said); ended = shows.ended }; fine = fine }
all_put me peer (r ∷ rs) kept work said closed shows fine =
    rw (one_put peer kept r work shows.keeps, ← append_assoc said (octets_of kept r) (octets_put rs (having_spoken kept)))
    (all_put me peer rs (having_spoken kept) (wrote peer (octets_of kept r) work) (said ++ octets_of kept r) closed (wrote_shows peer kept (octets_of kept r) work said closed shows)
    (wrote_fine me peer (octets_of kept r) work fine))

-- a session ends
pub ends_shows : (me peer : EdgeId) (why : Reason) (kept : Option Peering) (work : Work) (said : List ℕ) (closed : Bool) → is_no_refusal why ≡ true → ShowsPlace peer.0 work kept said closed
    → IsFine me work
    → ShowsPlace peer.0 (ends peer why work) None said true × IsFine me (ends peer why work)
unfolding gives changes with_peering
ends_shows me peer why kept work said closed well shows fine = (
  record {
    keeps = rw (same_number peer.0) refl;
    says = said-append peer.0 (work.effects ++ effect.Session peer (name.Ended why) ∷ []) (effect.Closed peer ∷ []) ∙ same_end _
        ∙ said-append peer.0 work.effects (effect.Session peer (name.Ended why) ∷ []) ∙ same_end _ ∙ shows.says;
    ended = closes-append peer.0 (work.effects ++ effect.Session peer (name.Ended why) ∷ []) (effect.Closed peer ∷ [])
        ∙ rw (same_number peer.0) (or_true (closes peer.0 (work.effects ++ effect.Session peer (name.Ended why) ∷ [])));
  },
  record {
    place = fine.place;
    idle = fine.idle;
    well = well-append (work.effects ++ effect.Session peer (name.Ended why) ∷ []) (effect.Closed peer)
        (well-append work.effects (effect.Session peer (name.Ended why)) fine.well well) tt;
  },
)
