-- While an edge hears a neighbour what it tells is worth less than what it hears, and than how far its session moves.
use Rattle.std.proofs.Common.{◌≡◌, ◌≤◌, ◌<◌, ◌+◌, ◌++◌, ◌∙◌, ◌⊎◌, ℕ, suc, Bool, true, false, cond, nat_eq, List, [], ◌∷◌, Option, Some, None, refl, sym, ap, subst, inl, inr, ⊎_elim, arith}
use Rattle.std.proofs.lemmas.Bool.{cases_Bool}
use Rattle.std.proofs.lemmas.List.{append_cancel_left}
use Rattle.std.specs.List.{AllByRecursion}
use Rattle.net_values.proofs.BoolLemmas.{clash}
use Rattle.net_base.specs.declared.plan.Plan.{Plan}
use Rattle.net_base.specs.declared.plan.places.EdgeId.{EdgeId}
use Rattle.net_base.specs.plan.Accepted.{IsChecked}
use Rattle.ldp_grammar.specs.declared.message.Message.{Message}
use Rattle.session_core.specs.declared.peers.Peers.{Peers}
use Rattle.session_core.specs.Phase.{Phase}
use Rattle.session_core.specs.Phase as phase
use Rattle.session_core.specs.Reasons.{is_fatal}
use Rattle.session_core.specs.Table.{Outcome, Stay, Goes, Ends, Heard, Received, outcome_of}
use Rattle.pw_messages.specs.Sender.{platform_of}
use Rattle.edge_model.specs.declared.effect.Effect.{Effect}
use Rattle.edge_model.specs.declared.effect.Effect.TheVariants as effect
use Rattle.edge_model.specs.Hear.{acts_on, hears_message, hears_one, is_up_phase}
use Rattle.edge_model.specs.Mend.{is_operational, is_up_with, mends}
use Rattle.edge_model.specs.Session.{happens_with_ends, with_session}
use Rattle.edge_model.specs.State.{EdgeState, Peering, has_end, is_there, with_peering}
use Rattle.edge_model.specs.Work.{Work, changes}
use Rattle.network_model.specs.Absorb.{taken_all}
use Rattle.network_model.specs.State.{NetworkState}
use Rattle.flight_laws.specs.Across.{IsMappingTaken}
use Rattle.flight_laws.specs.Ends.{HasTypes, ends_at}
use Rattle.flight_laws.specs.Messages.{IsSaidAcross}
use Rattle.flight_laws.specs.Rules.{AllMessages}
use Rattle.flight_laws.proofs.HearLemmas.{HearsOn, hears_kept}
use Rattle.flight_laws.proofs.HearingLemmas.{KeptByHearing, KeptByMessages, message_heard}
use Rattle.flight_laws.proofs.MendedRunLemmas.{IsMendedAt}
use Rattle.flight_laws.proofs.MendingLemmas.{mends_keep}
use Rattle.flight_laws.proofs.RuledHearLemmas.{IsHearing, hearing_ruled}
use Rattle.flight_laws.proofs.SaidLemmas.{fatal_ends}
use Rattle.spelling_laws.proofs.PutLemmas.{changed_effects}
use Rattle.spelling_laws.proofs.WorkLemmas.{hears_standing, talk_at}
use Rattle.spelling_laws.proofs.SessionLemmas.{moved_stands}
use Rattle.quiet_laws.proofs.FallLemmas.{has_mended}
use Rattle.rest_laws.specs.Levels.{level_of}
use Rattle.rest_laws.specs.Rises.{PutsAbove, put_most}
use Rattle.rest_laws.proofs.ClearLemmas.{put_mended}
use Rattle.rest_laws.proofs.DeliverLemmas.{HasLevel, class_of, goes_by_plan, holds_by_plan, waits_put}
use Rattle.rest_laws.proofs.DueLemmas.{PutsMore, PutsWell}
use Rattle.rest_laws.proofs.PutLemmas.{HasPut}
use Rattle.rest_laws.proofs.RiseLemmas.{hearing_rises}
use Rattle.rest_laws.proofs.StillLemmas.{mended_puts_none}
use Rattle.quiet_laws.specs.Measure.{end_rank, phase_rank}
use Rattle.quiet_laws.proofs.ToldLemmas.{AreTold, MovesBy, MovesFew, MovesOn, Put, TellsMore, Told, moves_not, moves_then, received_few, received_moves, sender_is, tells_not, told_joined, told_kept, told_messages}
use Rattle.settle_bounds.specs.Bound.{end_worth, fall_cost, lone_worth, may_fall, may_rise, messages_worth, phase_worth, rise_cost}
use Rattle.settle_bounds.specs.Worth.{mend_cost, message_worth}
use Rattle.settle_bounds.proofs.EventLemmas.{fall_like, fall_puts, mending_pays, next_me, rise_like, rise_puts, still_mended}
use Rattle.settle_bounds.proofs.HearLemmas.{hearing_pays, worth_some}
use Rattle.settle_bounds.proofs.ReplyLemmas.{TellsWorth, event_worth, outcome_worth, paid_joined}
use Rattle.settle_bounds.proofs.WorthLemmas as worths

-- nothing is said
pub none_paid : (plan : Plan) (checked : IsChecked plan) (edges : ℕ → EdgeState) (me : EdgeId) (es : List Effect) (ps : List Put) → AllByRecursion (PutsWell plan me (λ place saying. false)) es → AreTold plan me.0 es ps
    → worths.paid plan checked edges me ps ≡ 0
none_paid plan checked edges me [] [] none are = refl
none_paid plan checked edges me [] (p ∷ ps) none are = absurd are
none_paid plan checked edges me (effect.Said peer octets ∷ es) ps none are = clash none.0.allowed
none_paid plan checked edges me (e ∷ es) ps none are = none_paid plan checked edges me es ps none.1 are

-- what an edge that has mended tells when it mends is nothing
pub mended_paid : (plan : Plan) (checked : IsChecked plan) (edges : ℕ → EdgeState) (me : EdgeId) (work : Work) → IsMendedAt plan me.0 work.edge → (tells : TellsMore plan me.0 work.effects (mends plan taken_all work).effects)
    → worths.paid plan checked edges me tells.told ≡ 0
mended_paid plan checked edges me work mended tells =
    let puts : PutsMore plan me (λ place saying. false) work.effects (mends plan taken_all work).effects = mended_puts_none plan me (λ place saying. false) work mended in
    none_paid plan checked edges me puts.more tells.told puts.well
    (subst (λ (es : List Effect). AreTold plan me.0 es tells.told) (append_cancel_left work.effects tells.more puts.more (sym tells.joined ∙ puts.joined)) tells.are)

-- ---- how far a session has to go

phase_more : (p q : Phase) (rise : ℕ) → phase_rank p ≤ phase_rank q → phase_worth p rise ≤ phase_worth q rise
phase_more phase.Operational q rise le = none (phase_worth q rise) where
  none : (n : ℕ) → 0 ≤ n
  none n = omega arith
phase_more phase.OpenRec phase.Operational rise le = absurd (omega (arith, le))
phase_more phase.OpenRec phase.OpenRec rise le = omega arith
phase_more phase.OpenRec phase.OpenSent rise le = omega arith
phase_more phase.OpenRec phase.Initialized rise le = omega arith
phase_more phase.OpenSent phase.Operational rise le = absurd (omega (arith, le))
phase_more phase.OpenSent phase.OpenRec rise le = absurd (omega (arith, le))
phase_more phase.OpenSent phase.OpenSent rise le = omega arith
phase_more phase.OpenSent phase.Initialized rise le = omega arith
phase_more phase.Initialized phase.Operational rise le = absurd (omega (arith, le))
phase_more phase.Initialized phase.OpenRec rise le = absurd (omega (arith, le))
phase_more phase.Initialized phase.OpenSent rise le = absurd (omega (arith, le))
phase_more phase.Initialized phase.Initialized rise le = omega arith

-- a session that is not up, and moves, leaves so much
phase_less : (p q : Phase) (rise : ℕ) → phase_rank p < phase_rank q → is_operational p ≡ false → phase_worth p rise + 2 ≤ phase_worth q rise
phase_less phase.Operational q rise less up = clash (sym up)
phase_less phase.OpenRec phase.Operational rise less up = absurd (omega (arith, less))
phase_less phase.OpenRec phase.OpenRec rise less up = absurd (omega (arith, less))
phase_less phase.OpenRec phase.OpenSent rise less up = omega arith
phase_less phase.OpenRec phase.Initialized rise less up = omega arith
phase_less phase.OpenSent phase.Operational rise less up = absurd (omega (arith, less))
phase_less phase.OpenSent phase.OpenRec rise less up = absurd (omega (arith, less))
phase_less phase.OpenSent phase.OpenSent rise less up = absurd (omega (arith, less))
phase_less phase.OpenSent phase.Initialized rise less up = omega arith
phase_less phase.Initialized phase.Operational rise less up = absurd (omega (arith, less))
phase_less phase.Initialized phase.OpenRec rise less up = absurd (omega (arith, less))
phase_less phase.Initialized phase.OpenSent rise less up = absurd (omega (arith, less))
phase_less phase.Initialized phase.Initialized rise less up = absurd (omega (arith, less))

-- one that is not up still comes up
phase_down : (p : Phase) (rise : ℕ) → is_operational p ≡ false → 2 + rise ≤ phase_worth p rise
phase_down phase.Operational rise up = clash (sym up)
phase_down phase.OpenRec rise up = omega arith
phase_down phase.OpenSent rise up = omega arith
phase_down phase.Initialized rise up = omega arith

operational_is : (p : Phase) → is_operational p ≡ is_up_phase p
operational_is phase.Operational = refl
operational_is phase.OpenRec = refl
operational_is phase.OpenSent = refl
operational_is phase.Initialized = refl

-- a session that is up has no state left to move to
no_lower : (p q : Phase) → is_operational q ≡ true → phase_rank p < phase_rank q → ⊥
no_lower phase.Operational phase.Operational up less = omega (arith, less)
no_lower phase.OpenRec phase.Operational up less = omega (arith, less)
no_lower phase.OpenSent phase.Operational up less = omega (arith, less)
no_lower phase.Initialized phase.Operational up less = omega (arith, less)
no_lower p phase.OpenRec up less = clash up
no_lower p phase.OpenSent up less = clash up
no_lower p phase.Initialized up less = clash up

pub end_on : (far : Bool) (rise fall : ℕ) (kept : Peering) (o : Option Peering) → MovesOn (Some kept) o → end_worth far rise fall o ≤ phase_worth kept.session.phase rise + lone_worth far fall
end_on far rise fall kept None on = none (phase_worth kept.session.phase rise + lone_worth far fall) where
  none : (n : ℕ) → 0 ≤ n
  none n = omega arith
end_on far rise fall kept (Some now) on = sum (phase_worth now.session.phase rise) (phase_worth kept.session.phase rise) (lone_worth far fall) (phase_more now.session.phase kept.session.phase rise on.1) where
  sum : (a b c : ℕ) → a ≤ b → a + c ≤ b + c
  sum a b c le = omega (arith, le)

module _ (plan : Plan) (checked : IsChecked plan) (types : HasTypes plan) (later : NetworkState) (me peer : EdgeId) (apart : nat_eq me.0 peer.0 ≡ false) (away : nat_eq peer.0 me.0 ≡ false)
    (others : ℕ → EdgeState) (first : EdgeState) (held : ℕ → Option (List ℕ)) (placed : (others peer.0).me ≡ peer) (start : ℕ → Option Peering) (far : Bool) where
  abbrev pub other_end : Peers
  other_end = ends_at plan peer.0 me.0

  abbrev pub rise : ℕ
  rise = rise_cost plan others me peer.0

  abbrev pub fall : ℕ
  fall = fall_cost plan others me peer.0

  abbrev pub near_worth : Option Peering → ℕ
  near_worth near = end_worth far rise fall near

  abbrev pub weight_left : Option Peering → List Message → ℕ
  weight_left None ms = 0
  weight_left (Some kept) ms = messages_worth plan others peer.0 me.0 ms

  abbrev pub paid : List Put → ℕ
  paid ps = worths.paid plan checked others me ps

  -- the session ended, though both ends stood
  abbrev pub EndedBoth : Option Peering → Type 0
  EndedBoth near = (far ≡ true) × (near ≡ None)

  -- while the session may go on
  pub record Facts (messages : List Message) (work : Work) : Type 0 where
    pub ruled : IsHearing plan others me.0 peer.0 first held messages work
    pub taken : AllMessages (IsMappingTaken plan me.0 peer.0) messages

  pub record Falls (all : ℕ) (messages : List Message) (work : Work) : Type 0 where
    pub hears : HearsOn plan later me peer messages work
    pub told : List Put
    pub are : AreTold plan me.0 work.effects told
    pub on : (k : ℕ) → MovesOn (start k) (work.edge.peering k)
    pub mended : IsMendedAt plan me.0 work.edge
    pub bits : (others me.0).bits ≡ work.edge.bits
    pub facts : (work.edge.peering peer.0 ≡ None) ⊎ Facts messages work
    pub light : EndedBoth (work.edge.peering peer.0) ⊎ (near_worth (work.edge.peering peer.0) + (paid told + weight_left (work.edge.peering peer.0) messages) ≤ all)

  pub base : KeptByHearing plan me peer other_end (HearsOn plan later me peer)
  base = hears_kept plan later me peer apart checked types

  pub ruled_messages : KeptByMessages plan peer other_end (IsHearing plan others me.0 peer.0 first held)
  ruled_messages = message_heard plan me peer other_end (IsHearing plan others me.0 peer.0 first held) (hearing_ruled plan checked types others me peer first held away placed)

  none_is : {kept : Peering} → None ≡ Some kept → ⊥
  none_is e = cc

  pub facts_at : {messages : List Message} {work : Work} {kept : Peering} → work.edge.peering peer.0 ≡ Some kept → (work.edge.peering peer.0 ≡ None) ⊎ Facts messages work → Facts messages work
  facts_at {messages} {work} {kept} at either = ⊎_elim (λ (none : work.edge.peering peer.0 ≡ None). absurd (none_is (sym none ∙ at))) (λ (f : Facts messages work). f) either

  pub light_at : (all : ℕ) (messages : List Message) (told : List Put) (near : Option Peering) (kept : Peering) → near ≡ Some kept
      → EndedBoth near ⊎ (near_worth near + (paid told + weight_left near messages) ≤ all) → near_worth (Some kept) + (paid told + weight_left (Some kept) messages) ≤ all
  light_at all messages told near kept at either = ⊎_elim
      (λ (ended : EndedBoth near). absurd (none_is (sym ended.1 ∙ at)))
      (λ (light : near_worth near + (paid told + weight_left near messages) ≤ all). subst (λ (o : Option Peering). near_worth o + (paid told + weight_left o messages) ≤ all) at light) either

  -- ---- the sender of a PDU

  -- the session stands as it did
  pub record SenderFalls (all : ℕ) (messages : List Message) (next : Work) : Type 0 where
    pub now : Peering
    pub stands : next.edge.peering peer.0 ≡ Some now
    pub falls : Falls all messages next

  pub sender_falls : (all : ℕ) (messages : List Message) (kept : Peering) (work : Work) → work.edge.peering peer.0 ≡ Some kept → Falls all messages work
      → SenderFalls all messages (happens_with_ends taken_all peer (Heard (platform_of other_end.me)) work)
  sender_falls all messages kept work at falls =
      record {
        now = now;
        stands = ap (λ (w : Work). w.edge.peering peer.0) is ∙ there;
        falls = record {
          hears = base.sender messages work falls.hears;
          told = falls.told;
          are = subst (λ (w : Work). AreTold plan me.0 w.effects falls.told) (sym is) (subst (λ (es : List Effect). AreTold plan me.0 es falls.told) (sym (changed_effects (with_peering peer (Some now)) work)) falls.are);
          on = λ k. moves_then (start k) (work.edge.peering k) (next.edge.peering k) (falls.on k) (on.1.1 k);
          mended = subst (λ (w : Work). IsMendedAt plan me.0 w.edge) (sym is) (put_mended plan me work.edge moved.edge put falls.mended);
          bits = falls.bits ∙ (sym put.bits ∙ ap (λ (w : Work). w.edge.bits) (sym is));
          facts = inr (record {
            ruled = ruled_messages.sender messages work (facts_at at falls.facts).ruled;
            taken = (facts_at at falls.facts).taken;
          });
          light = inr (subst (λ (w : Work). near_worth (w.edge.peering peer.0) + (paid falls.told + weight_left (w.edge.peering peer.0) messages) ≤ all) (sym is)
              (subst (λ (o : Option Peering). near_worth o + (paid falls.told + weight_left o messages) ≤ all) (sym there) (light_at all messages falls.told (work.edge.peering peer.0) kept at falls.light)));
        };
      }
    where
      next : Work
      next = happens_with_ends taken_all peer (Heard (platform_of other_end.me)) work

      now : Peering
      now = with_session (record (kept.session) { wait = 0 }) kept

      moved : Work
      moved = changes (with_peering peer (Some now)) work

      is : next ≡ moved
      is = sender_is plan later me peer apart checked types messages kept work at falls.hears

      there : moved.edge.peering peer.0 ≡ Some now
      there = moved_stands peer now work

      put : HasPut work.edge moved.edge
      put = waits_put peer kept now work at refl

      on : Told plan later me peer apart checked types work.effects work.edge.peering messages next
      on = (told_messages plan later me peer apart checked types work.effects work.edge.peering).sender messages work (falls.hears, (tells_not plan me.0 work.effects, λ k. moves_not (work.edge.peering k)))

  -- ---- a message

  pub there_is : (m : Message) (kept : Peering) (work : Work) → work.edge.peering peer.0 ≡ Some kept → hears_message plan taken_all peer m work ≡ mends plan taken_all (hears_one plan taken_all peer m work)
  there_is m kept work at = by (has_end work.edge peer) (ap is_there at) where
    by : (b : Bool) → b ≡ true → cond b (mends plan taken_all (hears_one plan taken_all peer m work)) work ≡ mends plan taken_all (hears_one plan taken_all peer m work)
    by true e = refl
    by false e = clash e

  -- what comes of a message is worth less than the message, and how far the session moves; or the session has ended though both ends stood
  abbrev pub Pays : (m : Message) (kept : Peering) (near : Option Peering) → List Put → Type 0
  Pays m kept near ps = EndedBoth near ⊎ (near_worth near + paid ps < near_worth (Some kept) + message_worth plan others peer.0 me.0 m)

  -- ---- the session moves

  module _ (m : Message) (messages : List Message) (kept : Peering) (work : Work) (at : work.edge.peering peer.0 ≡ Some kept) (said : IsSaidAcross other_end m)
      (why : (is_up_phase kept.session.phase ≡ false) ⊎ (is_fatal m ≡ true)) (hears : HearsOn plan later me peer (m ∷ messages) work) (mended : IsMendedAt plan me.0 work.edge) where
    abbrev pub event : Work
    event = happens_with_ends taken_all peer (Received m) work

    moves : MovesFew plan later me peer apart checked types kept work event
    moves = received_few plan later me peer apart checked types m messages kept work at why hears

    outcome : Outcome
    outcome = outcome_of kept.session (Received m)

    by_moves : MovesBy (ends_at plan me.0 peer.0) kept (outcome_of kept.session (Received m))
    by_moves = received_moves (ends_at plan me.0 peer.0) other_end kept ((later.edges peer.0).peering me.0) hears.meets.messages messages m (talk_at plan later me peer (m ∷ messages) kept work at hears) why

    replied : TellsWorth plan checked others me peer (outcome_worth plan checked others me peer (outcome_of kept.session (Received m))) work.effects event.effects
    replied = event_worth plan checked others me peer (Received m) kept work at (hears_standing plan later me peer (m ∷ messages) work hears peer.0 kept at) by_moves.plain

    replied_few : (o : Outcome) → outcome_worth plan checked others me peer o ≤ 2
    replied_few Stay = omega arith
    replied_few (Goes next replies) = omega arith
    replied_few (Ends reason replies) = omega arith

    -- what it mends then
    mending : Told plan later me peer apart checked types event.effects event.edge.peering messages (mends plan taken_all event)
    mending = mends_keep plan me (Told plan later me peer apart checked types event.effects event.edge.peering messages)
        ((told_kept plan later me peer apart checked types event.effects event.edge.peering).mends messages) event
        (base.event m messages kept work at said why hears, (tells_not plan me.0 event.effects, λ k. moves_not (event.edge.peering k)))

    mending_tells : TellsMore plan me.0 event.effects (mends plan taken_all event).effects
    mending_tells = mending.1.0

    after : MovesOn (event.edge.peering peer.0) ((mends plan taken_all event).edge.peering peer.0)
    after = mending.1.1 peer.0

    both_paid : paid (replied.tells.told ++ mending_tells.told) ≡ paid replied.tells.told + paid mending_tells.told
    both_paid = paid_joined plan checked others me peer replied.tells.told mending_tells.told

    some : 1 ≤ message_worth plan others peer.0 me.0 m
    some = worth_some plan others peer.0 me.0 m

    not_up : is_up_phase kept.session.phase ≡ false → is_up_with (work.edge.peering peer.0) ≡ false
    not_up down = ap is_up_with at ∙ (operational_is kept.session.phase ∙ down)

    only_none : (o : Option Peering) → MovesOn None o → o ≡ None
    only_none None on = refl
    only_none (Some now) on = absurd on

    -- it has ended
    ended_pays : event.edge.peering peer.0 ≡ None → Pays m kept ((mends plan taken_all event).edge.peering peer.0) (replied.tells.told ++ mending_tells.told)
    ended_pays none = by far refl where
      gone : (mends plan taken_all event).edge.peering peer.0 ≡ None
      gone = only_none ((mends plan taken_all event).edge.peering peer.0) (subst (λ (o : Option Peering). MovesOn o ((mends plan taken_all event).edge.peering peer.0)) none after)

      mend_few : paid mending_tells.told ≤ mend_cost plan me (Rattle.settle_bounds.specs.Bound.allowed plan others me (may_fall plan me peer.0))
      mend_few = mending_pays plan checked others me (may_fall plan me peer.0) (fall_like plan me peer.0) event (next_me plan checked me peer (Received m) work mended)
          (fall_puts plan checked me peer (Received m) work mended none) mending_tells

      reply_few : paid replied.tells.told ≤ phase_worth kept.session.phase rise
      reply_few = ⊎_elim
          (λ (down : is_up_phase kept.session.phase ≡ false).
          both (paid replied.tells.told) (outcome_worth plan checked others me peer (outcome_of kept.session (Received m))) rise (phase_worth kept.session.phase rise) replied.worth
          (replied_few (outcome_of kept.session (Received m))) (phase_down kept.session.phase rise (operational_is kept.session.phase ∙ down)))
          (λ (fatal : is_fatal m ≡ true).
          nothing (paid replied.tells.told) (outcome_worth plan checked others me peer (outcome_of kept.session (Received m))) (phase_worth kept.session.phase rise) replied.worth
          (ap (outcome_worth plan checked others me peer) (fatal_ends kept.session other_end m said fatal)))
          why
        where
          both : (a b r c : ℕ) → a ≤ b → b ≤ 2 → 2 + r ≤ c → a ≤ c
          both a b r c one two three = omega (arith, one, two, three)

          nothing : (a b c : ℕ) → a ≤ b → b ≡ 0 → a ≤ c
          nothing a b c one none = omega (arith, one, none)

      sum : (r d p ps f c w : ℕ) → ps ≡ r + d → r ≤ p → d ≤ c → f ≡ suc c → 1 ≤ w → 0 + ps < (p + f) + w
      sum r d p ps f c w is one two three some = omega (arith, is, one, two, three, some)

      by : (b : Bool) → far ≡ b → Pays m kept ((mends plan taken_all event).edge.peering peer.0) (replied.tells.told ++ mending_tells.told)
      by true both = inl (both, gone)
      by false lone = inr (subst (λ (o : Option Peering). near_worth o + paid (replied.tells.told ++ mending_tells.told) < near_worth (Some kept) + message_worth plan others peer.0 me.0 m) (sym gone)
          (subst (λ (f : ℕ). 0 + paid (replied.tells.told ++ mending_tells.told) < (phase_worth kept.session.phase rise + f) + message_worth plan others peer.0 me.0 m) (sym (ap (λ (b : Bool). lone_worth b fall) lone))
          (sum (paid replied.tells.told) (paid mending_tells.told) (phase_worth kept.session.phase rise) (paid (replied.tells.told ++ mending_tells.told)) fall
          (mend_cost plan me (Rattle.settle_bounds.specs.Bound.allowed plan others me (may_fall plan me peer.0))) (message_worth plan others peer.0 me.0 m) both_paid reply_few mend_few refl some)))

    -- it stands
    stood_pays : (now : Peering) → event.edge.peering peer.0 ≡ Some now → Pays m kept ((mends plan taken_all event).edge.peering peer.0) (replied.tells.told ++ mending_tells.told)
    stood_pays now there = inr (elim (cases_Bool (is_operational kept.session.phase)) [
      | inl up ↦ absurd (no_lower now.session.phase kept.session.phase up less)
      | inr down ↦ elim (cases_Bool (is_operational now.session.phase)) [
        | inl risen ↦ up_now down risen
        | inr still ↦ still_down down still
      ]
    ])
      where
        less : phase_rank now.session.phase < phase_rank kept.session.phase
        less = subst (λ (o : Option Peering). end_rank o < phase_rank kept.session.phase) there moves.less

        near_on : near_worth ((mends plan taken_all event).edge.peering peer.0) ≤ phase_worth now.session.phase rise + lone_worth far fall
        near_on = end_on far rise fall now ((mends plan taken_all event).edge.peering peer.0) (subst (λ (o : Option Peering). MovesOn o ((mends plan taken_all event).edge.peering peer.0)) there after)

        few : paid replied.tells.told ≤ 2
        few = both (paid replied.tells.told) (outcome_worth plan checked others me peer (outcome_of kept.session (Received m))) replied.worth (replied_few (outcome_of kept.session (Received m))) where
          both : (a b : ℕ) → a ≤ b → b ≤ 2 → a ≤ 2
          both a b one two = omega (arith, one, two)

        down_before : is_operational kept.session.phase ≡ false → is_up_with (work.edge.peering peer.0) ≡ false
        down_before down = ap is_up_with at ∙ down

        Goal : Type 0
        Goal = near_worth ((mends plan taken_all event).edge.peering peer.0) + paid (replied.tells.told ++ mending_tells.told) < near_worth (Some kept) + message_worth plan others peer.0 me.0 m

        up_now : is_operational kept.session.phase ≡ false → is_operational now.session.phase ≡ true → Goal
        up_now down risen =
            sum (near_worth ((mends plan taken_all event).edge.peering peer.0)) (phase_worth now.session.phase rise) (lone_worth far fall) (paid replied.tells.told) (paid mending_tells.told)
            (paid (replied.tells.told ++ mending_tells.told)) rise (phase_worth kept.session.phase rise) (message_worth plan others peer.0 me.0 m) near_on (up_worth now.session.phase risen) both_paid few
            (mending_pays plan checked others me (may_rise plan me peer.0) (rise_like plan me peer.0) event (next_me plan checked me peer (Received m) work mended)
            (rise_puts plan checked me peer (Received m) work mended now there (down_before down)) mending_tells)
            (phase_down kept.session.phase rise down) some
          where
            up_worth : (p : Phase) → is_operational p ≡ true → phase_worth p rise ≡ 0
            up_worth phase.Operational up = refl
            up_worth phase.OpenRec up = clash up
            up_worth phase.OpenSent up = clash up
            up_worth phase.Initialized up = clash up

            sum : (n p l r d ps rise k w : ℕ) → n ≤ p + l → p ≡ 0 → ps ≡ r + d → r ≤ 2 → d ≤ rise → 2 + rise ≤ k → 1 ≤ w → n + ps < (k + l) + w
            sum n p l r d ps rise k w one nought is two three four some = omega (arith, one, nought, is, two, three, four, some)

        still_down : is_operational kept.session.phase ≡ false → is_operational now.session.phase ≡ false → Goal
        still_down down still =
            sum (near_worth ((mends plan taken_all event).edge.peering peer.0)) (phase_worth now.session.phase rise) (lone_worth far fall) (paid replied.tells.told) (paid mending_tells.told)
            (paid (replied.tells.told ++ mending_tells.told)) (phase_worth kept.session.phase rise) (message_worth plan others peer.0 me.0 m) near_on both_paid few
            (mended_paid plan checked others me event
            (still_mended plan checked me peer (Received m) work mended now there (ap is_up_with there ∙ (still ∙ sym (down_before down)))) mending_tells)
            (phase_less now.session.phase kept.session.phase rise less still) some
          where
            sum : (n p l r d ps k w : ℕ) → n ≤ p + l → ps ≡ r + d → r ≤ 2 → d ≡ 0 → p + 2 ≤ k → 1 ≤ w → n + ps < (k + l) + w
            sum n p l r d ps k w one is two none four some = omega (arith, one, is, two, none, four, some)

    -- what it tells, and what that is worth
    pub record MovePays : Type 0 where
      pub tells : TellsMore plan me.0 work.effects (mends plan taken_all (happens_with_ends taken_all peer (Received m) work)).effects
      pub pays : Pays m kept ((mends plan taken_all (happens_with_ends taken_all peer (Received m) work)).edge.peering peer.0) tells.told

    pub event_pays : MovePays
    event_pays = record {
      tells = record {
        more = replied.tells.more ++ mending_tells.more;
        joined = mending_tells.joined ∙ (ap (λ (l : List Effect). l ++ mending_tells.more) replied.tells.joined ∙ Rattle.std.proofs.Common.append_assoc work.effects replied.tells.more mending_tells.more);
        told = replied.tells.told ++ mending_tells.told;
        are = told_joined plan me.0 replied.tells.more mending_tells.more replied.tells.told mending_tells.told replied.tells.are mending_tells.are;
      };
      pays = by (event.edge.peering peer.0) refl;
    }
      where
        by : (o : Option Peering) → event.edge.peering peer.0 ≡ o → Pays m kept ((mends plan taken_all event).edge.peering peer.0) (replied.tells.told ++ mending_tells.told)
        by None none = ended_pays none
        by (Some now) there = stood_pays now there

  -- ---- the session is up, and acts on the message

  pub acts_pays : (m : Message) (messages : List Message) (kept : Peering) (work : Work) → work.edge.peering peer.0 ≡ Some kept → IsSaidAcross other_end m → IsMendedAt plan me.0 work.edge
      → (others me.0).bits ≡ work.edge.bits → Facts (m ∷ messages) work
      → (tells : TellsMore plan me.0 work.effects (mends plan taken_all (acts_on plan taken_all peer m work)).effects)
      → MovesOn (Some kept) ((mends plan taken_all (acts_on plan taken_all peer m work)).edge.peering peer.0)
      → Pays m kept ((mends plan taken_all (acts_on plan taken_all peer m work)).edge.peering peer.0) tells.told
  acts_pays m messages kept work at said mended bits f tells on =
      inr (sum (near_worth ((mends plan taken_all (acts_on plan taken_all peer m work)).edge.peering peer.0)) (paid tells.told) (phase_worth kept.session.phase rise + lone_worth far fall) (message_worth plan others peer.0 me.0 m)
      (end_on far rise fall kept ((mends plan taken_all (acts_on plan taken_all peer m work)).edge.peering peer.0) on)
      (⊎_elim leveled unleveled (class_of plan checked others peer me other_end m said f.ruled.to_hear.0.tells)))
    where
      sum : (a c r w : ℕ) → a ≤ r → c < w → a + c < r + w
      sum a c r w one other = omega (arith, one, other)

      placed_here : work.edge.me ≡ me
      placed_here = mended.me

      leveled : HasLevel plan others peer me m → paid tells.told < message_worth plan others peer.0 me.0 m
      leveled has = hearing_pays plan checked others me peer other_end m has.least (put_most plan me m) work mended said
          (goes_by_plan plan checked others peer me work.edge placed_here m f.ruled.to_hear.0.tells f.taken.0) has.is
          (subst (λ (k : EdgeId). PutsAbove plan others k.0 has.least (put_most plan k m) work.effects (mends plan taken_all (acts_on plan taken_all peer m work)).effects) placed_here
          (hearing_rises plan checked others peer m has.least work (ap is_there at) (has_mended plan me work.edge mended) (ap (λ (k : EdgeId). (others k.0).bits) placed_here ∙ bits)
          (holds_by_plan plan checked others peer me work.edge placed_here f.ruled.works.edge.tells)
          (goes_by_plan plan checked others peer me work.edge placed_here m f.ruled.to_hear.0.tells f.taken.0)
          (ap (λ (k : EdgeId). level_of plan others peer.0 k.0 m) placed_here ∙ has.is))) tells

      unleveled : ((w : Work) → acts_on plan taken_all peer m w ≡ w) → paid tells.told < message_worth plan others peer.0 me.0 m
      unleveled none =
          let puts : PutsMore plan me (λ place saying. false) work.effects (mends plan taken_all (acts_on plan taken_all peer m work)).effects =
          subst (λ (w : Work). PutsMore plan me (λ place saying. false) work.effects (mends plan taken_all w).effects) (sym (none work)) (mended_puts_none plan me (λ place saying. false) work mended) in
          nothing (paid tells.told) (message_worth plan others peer.0 me.0 m)
          (none_paid plan checked others me puts.more tells.told puts.well
          (subst (λ (es : List Effect). AreTold plan me.0 es tells.told) (append_cancel_left work.effects tells.more puts.more (sym tells.joined ∙ puts.joined)) tells.are))
          (worth_some plan others peer.0 me.0 m)
        where
          nothing : (a b : ℕ) → a ≡ 0 → 1 ≤ b → a < b
          nothing a b is some = omega (arith, is, some)
