-- Octets that an edge hears, and a connection that comes up, keep the rules of labels and of told contents.
use Rattle.std.proofs.Common.{◌≡◌, ◌++◌, ◌∙◌, ℕ, suc, true, false, cond, nat_eq, length, List, [], Option, Some, None, refl, sym, ap, subst, inl, inr, ⊎_elim}
use Rattle.std.proofs.lemmas.Bool.{eqb-true}
use Rattle.net_base.specs.declared.plan.Plan.{Plan}
use Rattle.net_base.specs.declared.plan.places.EdgeId.{EdgeId}
use Rattle.net_base.specs.declared.trace.state_name.StateName.TheVariants as name
use Rattle.net_base.specs.plan.Accepted.{IsChecked}
use Rattle.ldp_grammar.specs.declared.message.Message.{Message}
use Rattle.session_core.specs.Table as table
use Rattle.edge_model.specs.Connection.{connects}
use Rattle.edge_model.specs.declared.effect.Effect.TheVariants as effect
use Rattle.edge_model.specs.Hear.{hears, holds}
use Rattle.edge_model.specs.Labels.{meeting}
use Rattle.edge_model.specs.Mend.{mends}
use Rattle.edge_model.specs.State.{EdgeState, Peering, with_peering}
use Rattle.edge_model.specs.Work.{Work, changes, gives}
use Rattle.network_model.specs.Absorb.{taken_all}
use Rattle.flight_laws.specs.Ends.{HasTypes, ends_at}
use Rattle.flight_laws.specs.Meeting.{closes, said_to}
use Rattle.flight_laws.specs.Messages.{AreSaid, octets_of_all}
use Rattle.flight_laws.specs.Pair.{AreFit}
use Rattle.flight_laws.specs.Rules.{AllMessages}
use Rattle.flight_laws.proofs.HearingLemmas.{HasHeard, few_heard, message_heard}
use Rattle.flight_laws.proofs.NameLemmas.{names_still, split}
use Rattle.flight_laws.proofs.RuledHearLemmas.{IsHearing, hearing_ruled}
use Rattle.flight_laws.proofs.RuledInputLemmas.{mends_ruled}
use Rattle.flight_laws.proofs.RuledLemmas.{FitsIf, IsFitEnd, IsInward, IsRuled, WorksRuled, holds_of, quiet_keeps, steps_keep}
use Rattle.flight_laws.proofs.RuledSessionLemmas.{event_ruled, gives_quiet, session_nothing}
use Rattle.flight_laws.proofs.WorkLemmas.{same_end}

-- what is held of one place is something else
abbrev pub held_now : ℕ → List ℕ → (ℕ → Option (List ℕ)) → ℕ → Option (List ℕ)
held_now peer rest held place = cond (nat_eq place peer) (Some rest) (held place)

some_not_none : {P : Type 0} {x : List ℕ} → None ≡ Some x → P
some_not_none e = absurd (cc)

no_end : {P : Type 0} {x : Peering} → Some x ≡ None → P
no_end e = absurd (cc)

module _ (plan : Plan) (others : ℕ → EdgeState) (me : ℕ) (first : EdgeState) (held : ℕ → Option (List ℕ)) where
  -- what is held of a peer is other octets, where something was held of it
  holds_some : (peer : EdgeId) (rest before : List ℕ) (kept : Peering) (last : Work) → held peer.0 ≡ Some before → last.edge.peering peer.0 ≡ Some kept → WorksRuled plan others me first held last
      → WorksRuled plan others me first (held_now peer.0 rest held) (changes (with_peering peer (Some (record kept { held = rest }))) last)
  unfolding changes with_peering
  holds_some peer rest before kept last was at works = steps_keep plan others me first held (held_now peer.0 rest held) last result (record {
    place = refl;
    keeps = names_still last.edge result.edge refl refl refl;
    most = works.edge.most;
    bits = works.edge.bits;
    tells = λ wire k. works.edge.tells wire k;
    sessions = λ k. split {P = FitsIf (ends_at plan me k) (result.edge.peering k)} (nat_eq k peer.0)
        (λ is. rw is (subst (λ (n : ℕ). IsFitEnd (ends_at plan me n) (record kept { held = rest })) (sym (eqb-true k peer.0 is))
        (still (subst (FitsIf (ends_at plan me peer.0)) at (works.edge.sessions peer.0)))))
        (λ apart. rw apart (works.edge.sessions k));
    each = λ place away.
        let old = works.left place away in
        record {
          messages = [];
          octets = sym (same_end (said_to place last.effects));
          ruled = tt;
          bound = λ wire. old.bound wire;
          inward = split {P = IsInward place (held_now peer.0 rest held place) result} (nat_eq place peer.0)
              (λ is. ⊎_elim
              (λ (stays : (holds_of (last.edge.peering place) ≡ held place) × (closes place last.effects ≡ false)). inl (rw is (refl, stays.1)))
              (λ (gone : (last.edge.peering place ≡ None) × (closes place last.effects ≡ true)). no_end (sym (ap (λ (k : ℕ). last.edge.peering k) (eqb-true place peer.0 is) ∙ at) ∙ gone.0))
              old.inward)
              (λ apart. rw apart old.inward);
        };
  }) works
    where
      result : Work
      result = changes (with_peering peer (Some (record kept { held = rest }))) last

      still : IsFitEnd (ends_at plan me peer.0) kept → IsFitEnd (ends_at plan me peer.0) (record kept { held = rest })
      still fit = record { session = fit.session; fit = fit.fit; numbered = fit.numbered }

  holds_none : (peer : EdgeId) (rest before : List ℕ) (last : Work) → held peer.0 ≡ Some before → last.edge.peering peer.0 ≡ None → WorksRuled plan others me first held last
      → WorksRuled plan others me first (held_now peer.0 rest held) last
  holds_none peer rest before last was at works = record {
    edge = works.edge;
    keeps = works.keeps;
    left = λ place away.
        let old = works.left place away in
        record {
          messages = old.messages;
          octets = old.octets;
          ruled = old.ruled;
          bound = old.bound;
          inward = split {P = IsInward place (held_now peer.0 rest held place) last} (nat_eq place peer.0)
              (λ is. ⊎_elim
              (λ (stays : (holds_of (last.edge.peering place) ≡ held place) × (closes place last.effects ≡ false)).
              some_not_none (sym (ap (λ (o : Option Peering). holds_of o) (ap (λ (k : ℕ). last.edge.peering k) (eqb-true place peer.0 is) ∙ at))
              ∙ (stays.0 ∙ (ap held (eqb-true place peer.0 is) ∙ was))))
              (λ (gone : (last.edge.peering place ≡ None) × (closes place last.effects ≡ true)). inr gone)
              old.inward)
              (λ apart. rw apart old.inward);
        };
  }

  pub holds_ruled : (peer : EdgeId) (rest before : List ℕ) (last : Work) → held peer.0 ≡ Some before → WorksRuled plan others me first held last
      → WorksRuled plan others me first (held_now peer.0 rest held) (holds peer rest (last.edge.peering peer.0) last)
  holds_ruled peer rest before last was works = by_end (last.edge.peering peer.0) refl where
    by_end : (near : Option Peering) → last.edge.peering peer.0 ≡ near → WorksRuled plan others me first (held_now peer.0 rest held) (holds peer rest near last)
    by_end None at = holds_none peer rest before last was at works
    by_end (Some kept) at = holds_some peer rest before kept last was at works

-- ---- octets

-- some of the messages were heard: the first octets of the others are held
pub record HasHeardRuled (plan : Plan) (others : ℕ → EdgeState) (me peer : ℕ) (first : EdgeState) (held : ℕ → Option (List ℕ)) (more : List ℕ) (result : Work) : Type 0 where
  pub rest : List ℕ
  pub later : List Message
  pub works : WorksRuled plan others me first (held_now peer rest held) result
  pub behind : rest ++ more ≡ octets_of_all (ends_at plan peer me).me later
  pub ruled : AllMessages (IsRuled plan peer me (others peer) first) later

pub octets_ruled : (plan : Plan) (checked : IsChecked plan) (types : HasTypes plan) (others : ℕ → EdgeState) (me peer : EdgeId) (first : EdgeState) (held : ℕ → Option (List ℕ)) (before octets more : List ℕ) (messages : List Message) (work : Work)
    → nat_eq peer.0 me.0 ≡ false → (others peer.0).me ≡ peer → held peer.0 ≡ Some before → AreFit (ends_at plan peer.0 me.0) → AreSaid (ends_at plan peer.0 me.0) messages
    → octets ++ more ≡ octets_of_all (ends_at plan peer.0 me.0).me messages
    → AllMessages (IsRuled plan peer.0 me.0 (others peer.0) first) messages → WorksRuled plan others me.0 first held work
    → HasHeardRuled plan others me.0 peer.0 first held more (mends plan taken_all (hears plan taken_all peer octets work))
octets_ruled plan checked types others me peer first held before octets more messages work away placed was fit said e ruled works =
    let heard : HasHeard peer (ends_at plan peer.0 me.0) (IsHearing plan others me.0 peer.0 first held) more (hears plan taken_all peer octets work) =
    few_heard plan peer (ends_at plan peer.0 me.0) fit (IsHearing plan others me.0 peer.0 first held)
    (message_heard plan me peer (ends_at plan peer.0 me.0) (IsHearing plan others me.0 peer.0 first held) (hearing_ruled plan checked types others me peer first held away placed))
    (suc (length octets)) octets more messages work said e (record { works = works; to_hear = ruled }) in
    record {
      rest = heard.rest;
      later = heard.later;
      works = mends_ruled plan checked types others me first (held_now peer.0 heard.rest held) (hears plan taken_all peer octets work)
          (subst (WorksRuled plan others me.0 first (held_now peer.0 heard.rest held)) (sym heard.is)
          (holds_ruled plan others me.0 first held peer heard.rest before heard.last was heard.keeps.works));
      behind = heard.behind;
      ruled = heard.keeps.to_hear;
    }

-- ---- a connection comes up

-- an end that stands where none stood before
stands_ruled : (plan : Plan) (others : ℕ → EdgeState) (me : ℕ) (first : EdgeState) (held : ℕ → Option (List ℕ)) (peer : EdgeId) (now : Peering) (work : Work) → now.held ≡ []
    → closes peer.0 work.effects ≡ false → IsFitEnd (ends_at plan me peer.0) now
    → WorksRuled plan others me first held work → WorksRuled plan others me first (held_now peer.0 [] held) (changes (with_peering peer (Some now)) work)
unfolding changes with_peering
stands_ruled plan others me first held peer now work none not_closed fit works = steps_keep plan others me first held (held_now peer.0 [] held) work result (record {
  place = refl;
  keeps = names_still work.edge result.edge refl refl refl;
  most = works.edge.most;
  bits = works.edge.bits;
  tells = λ wire k. works.edge.tells wire k;
  sessions = λ k. split {P = FitsIf (ends_at plan me k) (result.edge.peering k)} (nat_eq k peer.0)
      (λ is. rw is (subst (λ (n : ℕ). IsFitEnd (ends_at plan me n) now) (sym (eqb-true k peer.0 is)) fit))
      (λ apart. rw apart (works.edge.sessions k));
  each = λ place away.
      let old = works.left place away in
      record {
        messages = [];
        octets = sym (same_end (said_to place work.effects));
        ruled = tt;
        bound = λ wire. old.bound wire;
        inward = split {P = IsInward place (held_now peer.0 [] held place) result} (nat_eq place peer.0)
            (λ is. inl (rw is (ap (λ (l : List ℕ). Some l) none, ap (λ (k : ℕ). closes k work.effects) (eqb-true place peer.0 is) ∙ not_closed)))
            (λ apart. rw apart old.inward);
      };
}) works
  where
    result : Work
    result = changes (with_peering peer (Some now)) work

-- to meet a peer closes nothing
meets_none : (peer : EdgeId) (work : Work) → closes peer.0 work.effects ≡ false → closes peer.0 (changes (meeting peer) work).effects ≡ false
unfolding changes
meets_none peer work none = none

-- it has met the peer before
pub connects_ruled : (plan : Plan) (checked : IsChecked plan) (types : HasTypes plan) (others : ℕ → EdgeState) (me peer : EdgeId) (first : EdgeState) (held : ℕ → Option (List ℕ)) (now : Peering) (work : Work)
    → now.held ≡ [] → closes peer.0 work.effects ≡ false → IsFitEnd (ends_at plan me.0 peer.0) now → WorksRuled plan others me.0 first held (changes (meeting peer) work)
    → WorksRuled plan others me.0 first (held_now peer.0 [] held) (mends plan taken_all (connects taken_all peer now work))
connects_ruled plan checked types others me peer first held now work none not_closed fit works =
    let began : Work = changes (meeting peer) work in
    let stands : Work = changes (with_peering peer (Some now)) began in
    let told : Work = gives (effect.Session peer name.Initialized) stands in
    mends_ruled plan checked types others me first (held_now peer.0 [] held) (connects taken_all peer now work)
    (event_ruled plan others me.0 first (held_now peer.0 [] held) peer table.Start told tt
    (quiet_keeps plan others me.0 first (held_now peer.0 [] held) stands told (gives_quiet (effect.Session peer name.Initialized) stands (session_nothing peer name.Initialized))
    (stands_ruled plan others me.0 first held peer now began none (meets_none peer work not_closed) fit works)))
