-- An edge at work keeps the rules of labels and of told contents, whatever it says and hears.
use Rattle.std.proofs.Common.{◌≡◌, ◌≤◌, ◌<◌, ◌^◌, ◌++◌, ◌∙◌, ◌⊎◌, ℕ, true, false, nat_eq, List, [], ◌∷◌, Option, Some, None, refl, sym, ap, subst, inl, inr, ⊎_elim}
use Rattle.std.proofs.lemmas.Bool.{eqb-true}
use Rattle.net_values.proofs.BoolLemmas.{or_false}
use Rattle.net_values.proofs.NumberLemmas.{same_number}
use Rattle.net_base.specs.declared.plan.Plan.{Plan}
use Rattle.net_base.specs.declared.plan.places.EdgeId.{EdgeId}
use Rattle.label_space.specs.Labels.{numbers_end}
use Rattle.ldp_grammar.specs.declared.message.Message.{Message}
use Rattle.ldp_grammar.specs.Written.{written}
use Rattle.pw_signalling.specs.End.{EndState}
use Rattle.session_core.specs.declared.peers.Peers.{Peers}
use Rattle.pw_messages.specs.Sender.{platform_of}
use Rattle.pw_messages.proofs.CommonLemmas.{following_small}
use Rattle.edge_model.specs.declared.effect.Effect.TheVariants as effect
use Rattle.edge_model.specs.Put.{having_spoken}
use Rattle.edge_model.specs.State.{EdgeState, Peering, with_peering}
use Rattle.edge_model.specs.Work.{Work, changes, gives}
use Rattle.flight_laws.specs.Ends.{ends_at}
use Rattle.flight_laws.specs.Meeting.{closes, said_to}
use Rattle.flight_laws.specs.Messages.{octets_of_all}
use Rattle.flight_laws.specs.Pair.{AreFit}
use Rattle.flight_laws.specs.Rules.{AllMessages, BindsGiven, NamesFar, NamesOwn, OwnsItsLabels}
use Rattle.flight_laws.proofs.MentionLemmas.{all_kept, all_more, own_kept}
use Rattle.flight_laws.proofs.NameLemmas.{HasKept, HasLeast, KeepsNames, names_same, names_still, names_then, split}
use Rattle.flight_laws.proofs.OutcomeLemmas.{IsFitSession}
use Rattle.flight_laws.proofs.SaidLemmas.{IsReady, all_joined}
use Rattle.flight_laws.proofs.ToldLemmas.{TellsFirm, TellsOwn}
use Rattle.flight_laws.proofs.WorkLemmas.{closes-append, said-append, same_end}

-- ---- what holds of one edge

-- a session that stands is between the two ends of the plan, and its next Message ID fits
pub record IsFitEnd (own : Peers) (kept : Peering) : Type 0 where
  pub session : IsFitSession own kept.session
  pub fit : AreFit own
  pub numbered : kept.next_id < 2 ^ 32

abbrev pub FitsIf : Peers → Option Peering → Type 0
FitsIf own None = Unit {0}
FitsIf own (Some kept) = IsFitEnd own kept

-- its labels are its own and in range, its failure bits are those of RFC 4446 section 3.5, it tells and holds what is planned, and its sessions fit
pub record IsRuledEdge (plan : Plan) (me : ℕ) (edge : EdgeState) : Type 0 where
  pub place : edge.me ≡ record { 0 = me }
  pub owned : OwnsItsLabels edge
  pub rests : HasKept edge
  pub least : HasLeast 16 edge
  pub most : edge.next_label ≤ numbers_end
  pub bits : (wire : ℕ) → edge.bits wire ≤ 31
  pub tells : TellsOwn plan me edge
  pub sessions : (peer : ℕ) → FitsIf (ends_at plan me peer) (edge.peering peer)

-- ---- what holds of a message

-- it can be written, names labels that were given, and tells what is planned, on its way from one edge to another one
pub record IsRuled (plan : Plan) (a b : ℕ) (one other : EdgeState) (m : Message) : Type 0 where
  pub fit : AreFit (ends_at plan a b)
  pub ready : IsReady m (ends_at plan a b).me
  pub own : NamesOwn plan one b m
  pub far : NamesFar plan other a m
  pub tells : TellsFirm plan a b m

pub ruled_kept : (plan : Plan) (a b : ℕ) (old new other : EdgeState) (m : Message) → new.me ≡ old.me → KeepsNames old new → IsRuled plan a b old other m → IsRuled plan a b new other m
ruled_kept plan a b old new other m same keeps ruled = record { fit = ruled.fit; ready = ruled.ready; own = own_kept plan old new b m same keeps ruled.own; far = ruled.far; tells = ruled.tells }

-- ---- an edge at work, for one other edge

-- the octets that an end holds, where it stands
abbrev pub holds_of : Option Peering → Option (List ℕ)
holds_of None = None
holds_of (Some kept) = Some kept.held

-- what was held of the other edge is held still, or the end is gone
abbrev pub IsInward : ℕ → Option (List ℕ) → Work → Type 0
IsInward place held work = ((holds_of (work.edge.peering place) ≡ held) × (closes place work.effects ≡ false)) ⊎ ((work.edge.peering place ≡ None) × (closes place work.effects ≡ true))

-- what it has said is ruled, what it holds of the other edge was given, and what it had heard
pub record IsRuledFor (plan : Plan) (me place : ℕ) (other : EdgeState) (held : Option (List ℕ)) (work : Work) : Type 0 where
  pub messages : List Message
  pub octets : said_to place work.effects ≡ octets_of_all (ends_at plan me place).me messages
  pub ruled : AllMessages (IsRuled plan me place work.edge other) messages
  pub bound : (wire : ℕ) → BindsGiven other wire me (work.edge.ends wire place).remote
  pub inward : IsInward place held work

-- an edge at work beside other edges, from a first state on, with what it had heard of each
pub record WorksRuled (plan : Plan) (others : ℕ → EdgeState) (me : ℕ) (first : EdgeState) (held : ℕ → Option (List ℕ)) (work : Work) : Type 0 where
  pub edge : IsRuledEdge plan me work.edge
  pub keeps : KeepsNames first work.edge
  pub left : (place : ℕ) → nat_eq place me ≡ false → IsRuledFor plan me place (others place) (held place) work

-- ---- a step of the work

-- what it says to one other edge, what it then holds of it, and what it had heard
pub record StepsFor (plan : Plan) (me place : ℕ) (other : EdgeState) (held : Option (List ℕ)) (old new : Work) : Type 0 where
  pub messages : List Message
  pub octets : said_to place new.effects ≡ said_to place old.effects ++ octets_of_all (ends_at plan me place).me messages
  pub ruled : AllMessages (IsRuled plan me place new.edge other) messages
  pub bound : (wire : ℕ) → BindsGiven other wire me (new.edge.ends wire place).remote
  pub inward : IsInward place held new

pub record Steps (plan : Plan) (others : ℕ → EdgeState) (me : ℕ) (held : ℕ → Option (List ℕ)) (old new : Work) : Type 0 where
  pub place : new.edge.me ≡ old.edge.me
  pub keeps : KeepsNames old.edge new.edge
  pub most : new.edge.next_label ≤ numbers_end
  pub bits : (wire : ℕ) → new.edge.bits wire ≤ 31
  pub tells : TellsOwn plan me new.edge
  pub sessions : (peer : ℕ) → FitsIf (ends_at plan me peer) (new.edge.peering peer)
  pub each : (place : ℕ) → nat_eq place me ≡ false → StepsFor plan me place (others place) (held place) old new

pub steps_keep : (plan : Plan) (others : ℕ → EdgeState) (me : ℕ) (first : EdgeState) (was held : ℕ → Option (List ℕ)) (old new : Work) → Steps plan others me held old new
    → WorksRuled plan others me first was old → WorksRuled plan others me first held new
steps_keep plan others me first was held old new steps works = record {
  edge = record {
    place = steps.place ∙ works.edge.place;
    owned = steps.keeps.owned works.edge.owned;
    rests = steps.keeps.kept works.edge.owned works.edge.rests;
    least = steps.keeps.least 16 works.edge.least;
    most = steps.most;
    bits = steps.bits;
    tells = steps.tells;
    sessions = steps.sessions;
  };
  keeps = names_then first old.edge new.edge works.keeps steps.keeps;
  left = λ place away.
      let before = works.left place away in
      let step = steps.each place away in
      record {
        messages = before.messages ++ step.messages;
        octets = step.octets ∙ (ap (λ (l : List ℕ). l ++ octets_of_all (ends_at plan me place).me step.messages) before.octets
            ∙ sym (all_joined (ends_at plan me place).me before.messages step.messages));
        ruled = all_more (IsRuled plan me place new.edge (others place)) before.messages step.messages
            (all_kept (IsRuled plan me place old.edge (others place)) (IsRuled plan me place new.edge (others place)) before.messages
            (λ m ruled. ruled_kept plan me place old.edge new.edge (others place) m steps.place steps.keeps ruled) before.ruled) step.ruled;
        bound = step.bound;
        inward = step.inward;
      };
}

-- ---- silent steps

-- an edge whose ends and failure bits are the same, with the same labels
pub record SameEnds (old new : EdgeState) : Type 0 where
  pub me : new.me ≡ old.me
  pub ends : new.ends ≡ old.ends
  pub bits : new.bits ≡ old.bits
  pub next : new.next_label ≡ old.next_label
  pub kept : new.kept ≡ old.kept

same_names : (old new : EdgeState) → SameEnds old new → KeepsNames old new
same_names old new same = names_still old new same.ends same.next same.kept

same_tells : (plan : Plan) (me : ℕ) (old new : EdgeState) → SameEnds old new → TellsOwn plan me old → TellsOwn plan me new
same_tells plan me old new same tells wire peer = subst (λ (f : ℕ → ℕ → EndState). Rattle.flight_laws.proofs.ToldLemmas.TellsAt plan me wire peer (f wire peer)) (sym same.ends) (tells wire peer)

same_bound : (other old new : EdgeState) (wire me place : ℕ) → SameEnds old new → BindsGiven other wire me (old.ends wire place).remote → BindsGiven other wire me (new.ends wire place).remote
same_bound other old new wire me place same given = subst (λ (f : ℕ → ℕ → EndState). BindsGiven other wire me (f wire place).remote) (sym same.ends) given

-- nothing is said to anyone, no end is closed, and each session is as before
pub record IsQuietStep (old new : Work) : Type 0 where
  pub same : SameEnds old.edge new.edge
  pub peering : new.edge.peering ≡ old.edge.peering
  pub said : (place : ℕ) → said_to place new.effects ≡ said_to place old.effects
  pub closed : (place : ℕ) → closes place new.effects ≡ closes place old.effects

pub inward_moved : (place : ℕ) (held : Option (List ℕ)) (old new : Work) → new.edge.peering place ≡ old.edge.peering place → closes place new.effects ≡ closes place old.effects
    → IsInward place held old → IsInward place held new
inward_moved place held old new kept closed inward = rw (kept, closed) inward

pub quiet_keeps : (plan : Plan) (others : ℕ → EdgeState) (me : ℕ) (first : EdgeState) (held : ℕ → Option (List ℕ)) (old new : Work) → IsQuietStep old new
    → WorksRuled plan others me first held old → WorksRuled plan others me first held new
quiet_keeps plan others me first held old new quiet works = steps_keep plan others me first held held old new (record {
  place = quiet.same.me;
  keeps = same_names old.edge new.edge quiet.same;
  most = subst (λ (n : ℕ). n ≤ numbers_end) (sym quiet.same.next) works.edge.most;
  bits = λ wire. subst (λ (f : ℕ → ℕ). f wire ≤ 31) (sym quiet.same.bits) (works.edge.bits wire);
  tells = same_tells plan me old.edge new.edge quiet.same works.edge.tells;
  sessions = λ peer. subst (λ (f : ℕ → Option Peering). FitsIf (ends_at plan me peer) (f peer)) (sym quiet.peering) (works.edge.sessions peer);
  each = λ place away.
      let before = works.left place away in
      record {
        messages = [];
        octets = quiet.said place ∙ sym (same_end (said_to place old.effects));
        ruled = tt;
        bound = λ wire. same_bound (others place) old.edge new.edge wire me place quiet.same (before.bound wire);
        inward = inward_moved place (held place) old new (ap (λ (f : ℕ → Option Peering). f place) quiet.peering) (quiet.closed place) before.inward;
      };
}) works

-- ---- the ends change

-- an edge whose ends are others, with nothing said
pub record ChangesEnds (plan : Plan) (others : ℕ → EdgeState) (me : ℕ) (old new : EdgeState) : Type 0 where
  pub place : new.me ≡ old.me
  pub peering : new.peering ≡ old.peering
  pub keeps : KeepsNames old new
  pub most : new.next_label ≤ numbers_end
  pub bits : (wire : ℕ) → new.bits wire ≤ 31
  pub tells : TellsOwn plan me new
  pub bound : (place wire : ℕ) → nat_eq place me ≡ false → BindsGiven (others place) wire me (new.ends wire place).remote

pub changes_keep : (plan : Plan) (others : ℕ → EdgeState) (me : ℕ) (first : EdgeState) (held : ℕ → Option (List ℕ)) (change : EdgeState → EdgeState) (work : Work)
    → ChangesEnds plan others me work.edge (change work.edge)
    → WorksRuled plan others me first held work → WorksRuled plan others me first held (changes change work)
unfolding changes
changes_keep plan others me first held change work new works = steps_keep plan others me first held held work (changes change work) (record {
  place = new.place;
  keeps = new.keeps;
  most = new.most;
  bits = new.bits;
  tells = new.tells;
  sessions = λ peer. subst (λ (f : ℕ → Option Peering). FitsIf (ends_at plan me peer) (f peer)) (sym new.peering) (works.edge.sessions peer);
  each = λ place away. record {
    messages = [];
    octets = sym (same_end (said_to place work.effects));
    ruled = tt;
    bound = λ wire. new.bound place wire away;
    inward = inward_moved place (held place) work (changes change work) (ap (λ (f : ℕ → Option Peering). f place) new.peering) refl (works.left place away).inward;
  };
}) works

-- ---- what is kept for a peer changes

-- the end that is kept for a peer is another one, which holds the same
pub still_stands : (plan : Plan) (others : ℕ → EdgeState) (me : ℕ) (first : EdgeState) (held : ℕ → Option (List ℕ)) (peer : EdgeId) (kept now : Peering) (work : Work)
    → work.edge.peering peer.0 ≡ Some kept → now.held ≡ kept.held
    → IsFitEnd (ends_at plan me peer.0) now → WorksRuled plan others me first held work → WorksRuled plan others me first held (changes (with_peering peer (Some now)) work)
unfolding changes with_peering
still_stands plan others me first held peer kept now work at same fit works = steps_keep plan others me first held held work (changes (with_peering peer (Some now)) work) (record {
  place = refl;
  keeps = names_still work.edge (with_peering peer (Some now) work.edge) refl refl refl;
  most = works.edge.most;
  bits = works.edge.bits;
  tells = λ wire k. works.edge.tells wire k;
  sessions = λ k. split {P = FitsIf (ends_at plan me k) ((with_peering peer (Some now) work.edge).peering k)} (nat_eq k peer.0)
      (λ is. rw is (subst (λ (n : ℕ). IsFitEnd (ends_at plan me n) now) (sym (eqb-true k peer.0 is)) fit))
      (λ apart. rw apart (works.edge.sessions k));
  each = λ place away.
      let before = works.left place away in
      record {
        messages = [];
        octets = sym (same_end (said_to place work.effects));
        ruled = tt;
        bound = λ wire. before.bound wire;
        inward = split {P = IsInward place (held place) (changes (with_peering peer (Some now)) work)} (nat_eq place peer.0)
            (λ is. ⊎_elim
            (λ (stays : (holds_of (work.edge.peering place) ≡ held place) × (closes place work.effects ≡ false)). inl
            (rw is (ap (λ (l : List ℕ). Some l) same ∙ (sym (holds place is) ∙ stays.0), stays.1)))
            (λ (gone : (work.edge.peering place ≡ None) × (closes place work.effects ≡ true)). absurd (no_end (sym (at_place place is) ∙ gone.0)))
            before.inward)
            (λ apart. ⊎_elim
            (λ (stays : (holds_of (work.edge.peering place) ≡ held place) × (closes place work.effects ≡ false)). inl (rw apart stays))
            (λ (gone : (work.edge.peering place ≡ None) × (closes place work.effects ≡ true)). inr (rw apart gone))
            before.inward);
      };
}) works
  where
    at_place : (place : ℕ) → nat_eq place peer.0 ≡ true → work.edge.peering place ≡ Some kept
    at_place place is = ap (λ (k : ℕ). work.edge.peering k) (eqb-true place peer.0 is) ∙ at

    holds : (place : ℕ) → nat_eq place peer.0 ≡ true → holds_of (work.edge.peering place) ≡ Some kept.held
    holds place is = ap (λ (o : Option Peering). holds_of o) (at_place place is)

    no_end : Some kept ≡ None → ⊥
    no_end e = cc

-- ---- a message is put

pub spoken_fits : (own : Peers) (kept : Peering) → IsFitEnd own kept → IsFitEnd own (having_spoken kept)
spoken_fits own kept fit = record {
  session = record { peers = fit.session.peers; least = fit.session.least; most = fit.session.most };
  fit = fit.fit;
  numbered = following_small kept.next_id fit.numbered;
}

-- a message is said
pub says_octets : (plan : Plan) (others : ℕ → EdgeState) (me : ℕ) (first : EdgeState) (held : ℕ → Option (List ℕ)) (peer : EdgeId) (m : Message) (work : Work)
    → (nat_eq peer.0 me ≡ false → IsRuled plan me peer.0 work.edge (others peer.0) m) → WorksRuled plan others me first held work
    → WorksRuled plan others me first held (gives (effect.Said peer (written m (platform_of (ends_at plan me peer.0).me))) work)
unfolding gives
says_octets plan others me first held peer m work ruled works = steps_keep plan others me first held held work said (record {
  place = refl;
  keeps = names_same work.edge;
  most = works.edge.most;
  bits = works.edge.bits;
  tells = λ wire k. works.edge.tells wire k;
  sessions = λ k. works.edge.sessions k;
  each = λ place away. split {P = StepsFor plan me place (others place) (held place) work said} (nat_eq place peer.0)
      (λ is. subst (λ (k : ℕ). StepsFor plan me k (others k) (held k) work said) (sym (eqb-true place peer.0 is)) (to_peer (subst (λ (k : ℕ). nat_eq k me ≡ false) (eqb-true place peer.0 is) away)))
      (λ apart. record {
        messages = [];
        octets = said-append place work.effects (effect.Said peer bytes ∷ []) ∙ rw apart refl;
        ruled = tt;
        bound = λ wire. (works.left place away).bound wire;
        inward = inward_moved place (held place) work said refl (closes-append place work.effects (effect.Said peer bytes ∷ []) ∙ or_false (closes place work.effects)) (works.left place away).inward;
      });
}) works
  where
    bytes : List ℕ
    bytes = written m (platform_of (ends_at plan me peer.0).me)

    said : Work
    said = gives (effect.Said peer bytes) work

    to_peer : nat_eq peer.0 me ≡ false → StepsFor plan me peer.0 (others peer.0) (held peer.0) work said
    to_peer away = record {
      messages = m ∷ [];
      octets = said-append peer.0 work.effects (effect.Said peer bytes ∷ []) ∙ rw (same_number peer.0) refl;
      ruled = (ruled away, tt);
      bound = λ wire. (works.left peer.0 away).bound wire;
      inward = inward_moved peer.0 (held peer.0) work said refl (closes-append peer.0 work.effects (effect.Said peer bytes ∷ []) ∙ or_false (closes peer.0 work.effects))
          (works.left peer.0 away).inward;
    }
