-- An edge at work in a network whose edges are paired: it begins, its sessions have events, and its work goes into the network.
use Rattle.std.proofs.Common.{◌≡◌, ◌++◌, ◌∙◌, ◌≤◌, ℕ, Bool, true, false, cond, not, nat_eq, List, [], ◌∷◌, Option, Some, None, refl, sym, ap, subst, inl, inr}
use Rattle.std.proofs.lemmas.Bool.{cases_Bool, eqb-true}
use Rattle.net_values.proofs.BoolLemmas.{clash, or_false}
use Rattle.net_values.proofs.NumberLemmas.{apart_back}
use Rattle.net_base.specs.declared.plan.Plan.{Plan}
use Rattle.net_base.specs.declared.plan.places.EdgeId.{EdgeId}
use Rattle.net_base.specs.declared.plan.places.WireId.{WireId}
use Rattle.net_base.specs.plan.Accepted.{IsChecked}
use Rattle.net_base.specs.declared.trace.state_name.Reason.TheVariants as reason
use Rattle.ldp_grammar.specs.declared.message.Message.{Message}
use Rattle.session_core.specs.declared.peers.Peers.{Peers}
use Rattle.session_core.specs.declared.reply.Reply.{Reply}
use Rattle.session_core.specs.Phase.{Phase}
use Rattle.session_core.specs.Phase as phase
use Rattle.session_core.specs.Session.{phase_name}
use Rattle.session_core.specs.State.{is_active}
use Rattle.session_core.specs.Table.{Closed, SessionEvent, Ticked, Outcome, Stay, Goes, Ends, outcome_of}
use Rattle.session_core.proofs.LawLemmas.{ends_agree}
use Rattle.edge_model.specs.declared.effect.Effect.{Effect}
use Rattle.edge_model.specs.declared.effect.Effect.TheVariants as effect
use Rattle.edge_model.specs.Mend.{is_up_with}
use Rattle.edge_model.specs.Put.{Spoken, having_spoken, message_octets_of, put_replies, with_spoken}
use Rattle.edge_model.specs.Session.{clears_ends, comes_of, happens, happens_with_ends, is_same_phase, says, with_session}
use Rattle.edge_model.specs.State.{EdgeState, Peering, is_there, with_bits, with_kept, with_peering, with_renewed, with_ticks, with_wire}
use Rattle.edge_model.specs.Wire.{turned_wire}
use Rattle.edge_model.specs.Work.{Work, changes, gives, puts}
use Rattle.network_model.specs.Absorb.{absorb, absorb_all, begin_at, taken_all}
use Rattle.network_model.specs.State.{NetworkState, with_edge}
use Rattle.flight_laws.specs.Coming.{and_more}
use Rattle.flight_laws.specs.Ends.{HasTypes, IsLeftBehind, IsOrdered, IsPaired, KeepsOrder, LeftFor, WorksOn, ends_at}
use Rattle.flight_laws.specs.Sound.{TellsSoundly, point_limit}
use Rattle.flight_laws.specs.Facts.{HoldsBut, Turns, flight}
use Rattle.flight_laws.specs.Meeting.{IsFine, Leaves, Meets, ShowsPlace, Spares, closes, said_to}
use Rattle.flight_laws.specs.Messages.{octets_of_all}
use Rattle.flight_laws.specs.Pair.{ArePaired, AreTalking, StandsIf, StayInStep, having_put_all, is_in_step}
use Rattle.flight_laws.proofs.BridgeLemmas.{bridged_fine, bridged_spares}
use Rattle.flight_laws.proofs.MeetLemmas.{happens_meets, moved_shows}
use Rattle.flight_laws.proofs.OfferLemmas.{IsOfWires}
use Rattle.flight_laws.proofs.PipeLemmas.{all_edges, all_good}
use Rattle.flight_laws.proofs.SayLemmas.{clears_fine, clears_spares, left_says, says_fine, says_is, says_none, says_spares}
use Rattle.flight_laws.proofs.SettleLemmas.{edge_else, edge_there, settle}
use Rattle.flight_laws.proofs.ReactLemmas.{closed_in_step, ticked_in_step}
use Rattle.flight_laws.proofs.SoundLemmas.{happens_sound, renewed_sound, sound_ends, sound_rekept, sound_same, up_is}
use Rattle.flight_laws.proofs.NameLemmas.{counted_rekept}
use Rattle.edge_model.specs.Tick.{counted}
use Rattle.edge_model.proofs.HeldLemmas.{ended_gone}
use Rattle.flight_laws.proofs.SteadyLemmas.{IsSilent, IsSteady, steady_rows}
use Rattle.flight_laws.proofs.WorkingLemmas.{KeptByWork}
use Rattle.flight_laws.proofs.TalkLemmas.{turned_none, turned_rows}
use Rattle.flight_laws.proofs.WorkLemmas.{all_put, closes-append, happens_spares, said-append, same_end, spares_then, well-append, wrote}
use Rattle.flight_laws.proofs.CommonLemmas.{no_more}

-- ---- a pair from its other side

turned_steps : (own other : Peers) (near far : Option Peering) (out back : List Message) → StandsIf own other near → is_in_step own near far out back ≡ true → is_in_step other far near back out ≡ true
turned_steps own other None None out back here h = turned_none out back h
turned_steps own other None (Some y) out back here h = h
turned_steps own other (Some x) None out back here h = h
turned_steps own other (Some x) (Some y) out back here h =
    let active : is_active other ≡ not (is_active own) = ends_agree.one_active own other here.between.facing here.between.one.me here.between.one.peer here.between.one.proper in
    rw active (turned_rows (is_active own) x.session.phase y.session.phase out back h)

pub pair_turned : (plan : Plan) → Turns (IsPaired plan)
pair_turned plan a b one other out back pair = record {
  messages = pair.answers;
  answers = pair.messages;
  out_is = pair.back_is;
  back_is = pair.out_is;
  talk = record {
    said = pair.talk.answered;
    answered = pair.talk.said;
    here = pair.talk.there;
    there = pair.talk.here;
    steps = turned_steps (ends_at plan a b) (ends_at plan b a) (one.peering b) (other.peering a) pair.messages pair.answers pair.talk.here pair.talk.steps;
  };
}

-- ---- the work goes into the network

-- what is so of each other edge by itself
pub record AreOthers (plan : Plan) (me : EdgeId) (network : NetworkState) : Type 0 where
  pub alone : (a : ℕ) → nat_eq a me.0 ≡ false → (network.edges a).peering a ≡ None
  pub placed : (a : ℕ) → nat_eq a me.0 ≡ false → (network.edges a).me ≡ record { 0 = a }
  pub sound : (a : ℕ) → nat_eq a me.0 ≡ false → TellsSoundly (point_limit plan a) (network.edges a)

pub others_are : (plan : Plan) (me : EdgeId) (network : NetworkState) → IsOrdered plan network → AreOthers plan me network
others_are plan me network ordered = record { alone = λ a away. ordered.alone a; placed = λ a away. ordered.placed a; sound = λ a away. ordered.sound a }

pub works_settle : (plan : Plan) (network : NetworkState) (me : EdgeId) (origin hops : ℕ) (work : Work) → HoldsBut (IsPaired plan) me.0 network → AreOthers plan me network
    → WorksOn plan network me work
    → IsOrdered plan (absorb me origin hops work network).state
works_settle plan network me origin hops work two others works = record {
  two = settle (IsPaired plan) network me origin hops work (pair_turned plan) two (λ place away. (works.left place away).leaves);
  alone = λ a. by_place (λ k e. e.peering k ≡ None) a works.alone (others.alone a);
  placed = λ a. by_place (λ k e. e.me ≡ record { 0 = k }) a works.fine.place (others.placed a);
  sound = λ a. by_place (λ k e. TellsSoundly (point_limit plan k) e) a works.sound (others.sound a);
}
  where
    after : NetworkState
    after = absorb_all me origin hops work.effects (with_edge me work.edge network)

    edges : after.edges ≡ (with_edge me work.edge network).edges
    edges = all_edges me origin hops work.effects (with_edge me work.edge network)

    own_edge : after.edges me.0 ≡ work.edge
    own_edge = ap (λ (f : ℕ → EdgeState). f me.0) edges ∙ edge_there me work.edge network

    other_edge : (a : ℕ) → nat_eq a me.0 ≡ false → after.edges a ≡ network.edges a
    other_edge a away = ap (λ (f : ℕ → EdgeState). f a) edges ∙ edge_else me work.edge network a away

    by_place : (Q : ℕ → EdgeState → Type 0) (a : ℕ) → Q me.0 work.edge → (nat_eq a me.0 ≡ false → Q a (network.edges a)) → Q a (after.edges a)
    by_place Q a here there = elim (cases_Bool (nat_eq a me.0)) [
      | inl same ↦ subst (λ (k : ℕ). Q k (after.edges k)) (sym (eqb-true a me.0 same)) (rw own_edge here)
      | inr away ↦ rw (other_edge a away) (there away)
    ]

-- work on a network in order keeps it so
pub work_keeps : (plan : Plan) (network : NetworkState) (me : EdgeId) (origin hops : ℕ) (work : Work) → IsOrdered plan network → WorksOn plan network me work
    → KeepsOrder plan (absorb me origin hops work network)
work_keeps plan network me origin hops work ordered works = record {
  ordered = works_settle plan network me origin hops work (λ a b apart away gone. ordered.two a b apart) (others_are plan me network ordered) works;
  good = all_good me origin hops work.effects (with_edge me work.edge network) works.fine.well;
}

-- ---- an edge begins

pub works_begin : (plan : Plan) (network : NetworkState) (me : EdgeId) → IsOrdered plan network → WorksOn plan network me (begin_at network me)
works_begin plan network me ordered = record {
  fine = record { place = ordered.placed me.0; idle = refl; well = tt };
  sound = ordered.sound me.0;
  alone = ordered.alone me.0;
  left = λ place away. record {
    leaves = rw (no_more ((network.edges place).peering me.0) (flight network me.0 place)) (ordered.two me.0 place (apart_back place me.0 away));
    unclosed = λ kept is. refl;
  };
}

-- ---- nothing else for a place

pub left_spared : (own other : Peers) (place : ℕ) (far : Option Peering) (out more : List ℕ) (old new : Work) → Spares place old new → IsLeftBehind own other place far out more old
    → IsLeftBehind own other place far out more new
left_spared own other place far out more old new spared left = record {
  leaves = rw (spared.kept, spared.said, spared.closed) left.leaves;
  unclosed = λ kept is. spared.closed ∙ left.unclosed kept (sym spared.kept ∙ is);
}

-- ---- an event of a session

-- what is left where the end is gone
pub gone_leaves : (own other : Peers) (me peer : EdgeId) (far : Option Peering) (out more : List ℕ) (answers : List Message) (work : Work) → work.edge.peering peer.0 ≡ None
    → Meets own other me peer far out answers work → IsFine me work × Leaves own other peer.0 far out more work
gone_leaves own other me peer far out more answers work is meets = (
  meets.fine,
  rw (is, meets.ended, is) (record {
    messages = meets.messages;
    answers = [];
    out_is = meets.out_is;
    back_is = refl;
    talk = rw is at meets.talk;
  }),
)

abbrev KeepsHeld : List ℕ → Option Peering → Type 0
KeepsHeld held None = Unit {0}
KeepsHeld held (Some kept) = kept.held ≡ held

pub put_held : (rs : List Reply) (kept : Peering) → (having_put_all rs kept).held ≡ kept.held
put_held [] kept = refl
put_held (r ∷ rs) kept = put_held rs (having_spoken kept)

told_edge : (peer : EdgeId) (same : Bool) (new : Phase) (work : Work) → (cond same work (gives (effect.Session peer (phase_name new)) work)).edge ≡ work.edge
unfolding gives
told_edge peer true new work = refl
told_edge peer false new work = refl

comes_keeps : (me peer : EdgeId) (kept : Peering) (said : List ℕ) (work : Work) (o : Outcome) → ShowsPlace peer.0 work (Some kept) said false → IsFine me work
    → KeepsHeld kept.held ((comes_of taken_all peer kept o work).edge.peering peer.0)
comes_keeps me peer kept said work Stay shows fine = rw shows.keeps refl
comes_keeps me peer kept said work (Goes next replies) shows fine =
    let now : Peering = with_session next kept in
    let begun = moved_shows me peer kept now said false work shows fine in
    let put : Spoken = put_replies taken_all peer replies (changes (with_peering peer (Some now)) work) in
    let all = all_put me peer replies now (changes (with_peering peer (Some now)) work) said false begun.0 begun.1 in
    rw all.taken (subst (KeepsHeld kept.held)
    (sym (ap (λ (e : EdgeState). e.peering peer.0) (told_edge peer (is_same_phase kept.session.phase next.phase) next.phase put.work) ∙ all.shows.keeps)) (put_held replies now))
comes_keeps me peer kept said work (Ends why replies) shows fine = subst (KeepsHeld kept.held) (sym (ended_gone peer why (put_replies taken_all peer replies work).work)) tt

pub no_end : (kept : Peering) → None ≡ Some kept → ⊥
no_end kept e = cc

-- what an edge in step leaves, where it still holds what it held
meets_left : (own other : Peers) (me peer : EdgeId) (far : Option Peering) (out octets more : List ℕ) (answers : List Message) (work : Work) → octets ++ more ≡ octets_of_all other.me answers
    → KeepsHeld octets (work.edge.peering peer.0) → Meets own other me peer far out answers work → IsLeftBehind own other peer.0 far out more work
meets_left own other me peer far out octets more answers work is same meets = by_end (work.edge.peering peer.0) refl where
  by_end : (near : Option Peering) → work.edge.peering peer.0 ≡ near → IsLeftBehind own other peer.0 far out more work
  by_end None at = record { leaves = (gone_leaves own other me peer far out more answers work at meets).1; unclosed = λ kept e. absurd (no_end kept (sym at ∙ e)) }
  by_end (Some kept) at =
      let unclosed : closes peer.0 work.effects ≡ false = meets.ended ∙ ap (λ (o : Option Peering). not (is_there o)) at in
      let holds : kept.held ≡ octets = rw at at same in
      record {
        leaves = rw (at, unclosed) (record { messages = meets.messages; answers = answers; out_is = meets.out_is; back_is = rw holds is; talk = rw at at meets.talk });
        unclosed = λ k e. unclosed;
      }

-- an event that takes nothing of what is on its way
abbrev pub TakesNothing : SessionEvent → Type 0
TakesNothing event = (own other : Peers) (kept : Peering) (far : Option Peering) (messages answers : List Message) → AreTalking own other (Some kept) far messages answers
    → StayInStep own other kept far messages answers (outcome_of kept.session event)

pub happens_left : (own other : Peers) (me peer : EdgeId) (far : Option Peering) (out more : List ℕ) (event : SessionEvent) (work : Work) → TakesNothing event → IsFine me work
    → IsLeftBehind own other peer.0 far out more work → IsFine me (happens_with_ends taken_all peer event work) × IsLeftBehind own other peer.0 far out more (happens_with_ends taken_all peer event work)
happens_left own other me peer far out more event work takes fine left = cleared (by_end (work.edge.peering peer.0) refl) where
  cleared : IsFine me (happens taken_all peer event work) × IsLeftBehind own other peer.0 far out more (happens taken_all peer event work)
      → IsFine me (happens_with_ends taken_all peer event work) × IsLeftBehind own other peer.0 far out more (happens_with_ends taken_all peer event work)
  cleared both = (
    clears_fine me peer (happens taken_all peer event work) both.0,
    left_spared own other peer.0 far out more (happens taken_all peer event work) (happens_with_ends taken_all peer event work) (clears_spares peer.0 peer (happens taken_all peer event work)) both.1,
  )

  by_end : (near : Option Peering) → work.edge.peering peer.0 ≡ near → IsFine me (happens taken_all peer event work) × IsLeftBehind own other peer.0 far out more (happens taken_all peer event work)
  by_end None at = rw at (fine, left)
  by_end (Some kept) at =
      let unclosed : closes peer.0 work.effects ≡ false = left.unclosed kept at in
      let pair : ArePaired own other (Some kept) far (and_more far out (said_to peer.0 work.effects)) (kept.held ++ more) = rw (at, unclosed) at left.leaves in
      let meets : Meets own other me peer far out pair.answers work = record {
        fine = fine;
        ended = rw at unclosed;
        messages = pair.messages;
        out_is = pair.out_is;
        talk = rw at pair.talk;
      } in
      let after : Meets own other me peer far out pair.answers (happens taken_all peer event work) =
      happens_meets own other me peer far out pair.answers pair.answers event work (λ k messages t. takes own other k far messages pair.answers t) meets in
      let held : KeepsHeld kept.held ((happens taken_all peer event work).edge.peering peer.0) =
      rw at (comes_keeps me peer kept (said_to peer.0 work.effects) work (outcome_of kept.session event) (record { keeps = at; says = refl; ended = unclosed }) fine) in
      (after.fine, meets_left own other me peer far out kept.held more pair.answers (happens taken_all peer event work) pair.back_is held after)

-- it is nothing else for another place
pub event_spares : (place : ℕ) (peer : EdgeId) (event : SessionEvent) (work : Work) → nat_eq place peer.0 ≡ false → Spares place work (happens_with_ends taken_all peer event work)
event_spares place peer event work apart =
    spares_then place work (happens taken_all peer event work) _ (happens_spares taken_all place peer event work apart) (clears_spares place peer (happens taken_all peer event work))

-- a session without a connection has no event
pub no_event : (peer : EdgeId) (event : SessionEvent) (work : Work) → work.edge.peering peer.0 ≡ None → happens_with_ends taken_all peer event work ≡ clears_ends peer work
no_event peer event work at = ap (clears_ends peer) same where
  same : happens taken_all peer event work ≡ work
  same = rw at refl

pub works_clears : (plan : Plan) (network : NetworkState) (me peer : EdgeId) (work : Work) → TellsSoundly (point_limit plan me.0) (clears_ends peer work).edge
    → WorksOn plan network me work → WorksOn plan network me (clears_ends peer work)
works_clears plan network me peer work sound works = record {
  fine = clears_fine me peer work works.fine;
  sound = sound;
  alone = (clears_spares me.0 peer work).kept ∙ works.alone;
  left = λ place away. left_spared (ends_at plan me.0 place) (ends_at plan place me.0) place ((network.edges place).peering me.0) (flight network me.0 place)
      (network.pipes place me.0) work (clears_ends peer work)
      (clears_spares place peer work) (works.left place away);
}

-- it happens to the session with any place
pub works_happens : (plan : Plan) (network : NetworkState) (me peer : EdgeId) (event : SessionEvent) (work : Work) → TakesNothing event → WorksOn plan network me work
    → WorksOn plan network me (happens_with_ends taken_all peer event work)
works_happens plan network me peer event work takes works = elim (cases_Bool (nat_eq peer.0 me.0)) [
  | inl same ↦ (let none : work.edge.peering peer.0 ≡ None = ap (λ (k : ℕ). work.edge.peering k) (eqb-true peer.0 me.0 same) ∙ works.alone in
      subst (WorksOn plan network me) (sym (no_event peer event work none))
      (works_clears plan network me peer work (subst (λ (w : Work). TellsSoundly (point_limit plan me.0) w.edge) (no_event peer event work none) sound) works))
  | inr away ↦ (let own = happens_left (ends_at plan me.0 peer.0) (ends_at plan peer.0 me.0) me peer ((network.edges peer.0).peering me.0) (flight network me.0 peer.0)
      (network.pipes peer.0 me.0) event work takes works.fine (works.left peer.0 away) in
      record {
        fine = own.0;
        sound = sound;
        alone = (event_spares me.0 peer event work (apart_back peer.0 me.0 away)).kept ∙ works.alone;
        left = λ place gone. elim (cases_Bool (nat_eq place peer.0)) [
          | inl this ↦ subst (LeftFor plan network me (happens_with_ends taken_all peer event work)) (sym (eqb-true place peer.0 this)) own.1
          | inr other ↦ left_spared (ends_at plan me.0 place) (ends_at plan place me.0) place ((network.edges place).peering me.0) (flight network me.0 place)
              (network.pipes place me.0) work (happens_with_ends taken_all peer event work)
              (event_spares place peer event work other) (works.left place gone)
        ];
      })
]
  where
    sound : TellsSoundly (point_limit plan me.0) (happens_with_ends taken_all peer event work).edge
    sound = happens_sound taken_all peer event work works.sound

-- ---- calm steps

-- a change that leaves the edge's place and what it keeps for its neighbours
pub change_spares : (place : ℕ) (change : EdgeState → EdgeState) (work : Work) → (change work.edge).peering ≡ work.edge.peering → Spares place work (changes change work)
unfolding changes
change_spares place change work kept = record { kept = ap (λ (f : ℕ → Option Peering). f place) kept; said = refl; closed = refl }

pub change_fine : (me : EdgeId) (change : EdgeState → EdgeState) (work : Work) → (change work.edge).me ≡ work.edge.me → IsFine me work → IsFine me (changes change work)
unfolding changes
change_fine me change work place fine = record { place = place ∙ fine.place; idle = fine.idle; well = fine.well }

pub changed_edge : (change : EdgeState → EdgeState) (work : Work) → (changes change work).edge ≡ change work.edge
unfolding changes
changed_edge change work = refl

pub given_edge : (e : Effect) (work : Work) → (gives e work).edge ≡ work.edge
unfolding gives
given_edge e work = refl

pub gives_spares : (place : ℕ) (e : Effect) (work : Work) → IsSilent e → Spares place work (gives e work)
unfolding gives
gives_spares place e work silent = record {
  kept = refl;
  said = said-append place work.effects (e ∷ []) ∙ rw (silent.says place) (same_end (said_to place work.effects));
  closed = closes-append place work.effects (e ∷ []) ∙ rw (silent.closed place) (or_false (closes place work.effects));
}

pub gives_fine : (me : EdgeId) (e : Effect) (work : Work) → IsSilent e → IsFine me work → IsFine me (gives e work)
unfolding gives
gives_fine me e work silent fine = record { place = fine.place; idle = fine.idle; well = well-append work.effects e fine.well silent.well }

wrote_sound : {limit : ℕ → ℕ} → (peer : EdgeId) (kept : Peering) (bytes : List ℕ) (work : Work) → work.edge.peering peer.0 ≡ Some kept → TellsSoundly limit work.edge
    → TellsSoundly limit (wrote peer bytes work).edge
unfolding wrote gives changes with_spoken with_peering puts
wrote_sound peer kept bytes work at sound = record {
  least = sound.least;
  most = sound.most;
  kept = sound.kept;
  bits = sound.bits;
  ends = λ wire k. elim (cases_Bool (nat_eq k peer.0)) [
    | inl same ↦ rw same (rw (at, eqb-true k peer.0 same) (rw at at (sound.ends wire peer.0)))
    | inr apart ↦ rw apart (sound.ends wire k)
  ];
}

pub says_sound : {limit : ℕ → ℕ} → (peer : EdgeId) (message : ℕ → Message) (work : Work) → TellsSoundly limit work.edge → TellsSoundly limit (says taken_all peer message work).work.edge
says_sound {limit} peer message work sound = by_end (work.edge.peering peer.0) refl where
  by_end : (near : Option Peering) → work.edge.peering peer.0 ≡ near → TellsSoundly limit (says taken_all peer message work).work.edge
  by_end None at = subst (λ (w : Work). TellsSoundly limit w.edge) (sym (says_none peer message work at)) sound
  by_end (Some kept) at = subst (λ (w : Work). TellsSoundly limit w.edge) (sym (says_is peer message kept work at)) (wrote_sound peer kept (message_octets_of kept message) work at sound)

-- the places but those where this test passes
abbrev pub LeftBut : Plan → NetworkState → EdgeId → (ℕ → Bool) → Work → Type 0
LeftBut plan network me besides work = (place : ℕ) → nat_eq place me.0 ≡ false → besides place ≡ false → LeftFor plan network me work place

pub but_spared : (plan : Plan) (network : NetworkState) (me : EdgeId) (besides : ℕ → Bool) (old new : Work) → ((place : ℕ) → Spares place old new) → LeftBut plan network me besides old
    → LeftBut plan network me besides new
but_spared plan network me besides old new spares left place away here =
    left_spared (ends_at plan me.0 place) (ends_at plan place me.0) place ((network.edges place).peering me.0) (flight network me.0 place) (network.pipes place me.0) old new
    (spares place) (left place away here)

pub but_says : (plan : Plan) (network : NetworkState) (me : EdgeId) (besides : ℕ → Bool) (peer : EdgeId) (message : ℕ → Message) (kept : Peering) (work : Work)
    → work.edge.peering peer.0 ≡ Some kept → kept.session.phase ≡ phase.Operational
    → IsOfWires message → LeftBut plan network me besides work → LeftBut plan network me besides (says taken_all peer message work).work
but_says plan network me besides peer message kept work at up is left place away here = elim (cases_Bool (nat_eq place peer.0)) [
  | inl this ↦ subst (LeftFor plan network me (says taken_all peer message work).work) (sym (eqb-true place peer.0 this))
      (left_says (ends_at plan me.0 peer.0) (ends_at plan peer.0 me.0) peer kept ((network.edges peer.0).peering me.0) (flight network me.0 peer.0) (network.pipes peer.0 me.0) message work at up is
      (subst (LeftFor plan network me work) (eqb-true place peer.0 this) (left place away here)))
  | inr other ↦ left_spared (ends_at plan me.0 place) (ends_at plan place me.0) place ((network.edges place).peering me.0) (flight network me.0 place) (network.pipes place me.0) work
      (says taken_all peer message work).work
      (says_spares place peer message work other) (left place away here)
]

pub there_up : (near : Option Peering) (P : Type 0) → is_up_with near ≡ true → ((kept : Peering) → near ≡ Some kept → kept.session.phase ≡ phase.Operational → P) → P
there_up None P up follows = clash up
there_up (Some kept) P up follows = follows kept refl (up_is kept.session.phase up)

-- an end that stands is of another edge
pub apart_from : (me peer : EdgeId) (kept : Peering) (work : Work) → work.edge.peering me.0 ≡ None → work.edge.peering peer.0 ≡ Some kept → nat_eq me.0 peer.0 ≡ false
apart_from me peer kept work alone at = elim (cases_Bool (nat_eq me.0 peer.0)) [
  | inl same ↦ absurd (no_end kept (sym alone ∙ (ap work.edge.peering (eqb-true me.0 peer.0 same) ∙ at)))
  | inr apart ↦ apart
]

-- every place
all_places : ℕ → Bool
all_places place = false

-- an edge at work keeps to calm steps
pub works_steady : (plan : Plan) (network : NetworkState) (me : EdgeId) → IsSteady plan me (WorksOn plan network me)
unfolding all_places
works_steady plan network me = record {
  placed = λ work works. works.fine.place;
  sound = λ work works. works.sound;
  changes = λ change work kept place sound works. record {
    fine = change_fine me change work place works.fine;
    sound = rw (changed_edge change work) sound;
    alone = (change_spares me.0 change work kept).kept ∙ works.alone;
    left = λ k away. but_spared plan network me all_places work (changes change work) (λ j. change_spares j change work kept) (λ j there here. works.left j there) k away refl;
  };
  gives = λ e work silent works. record {
    fine = gives_fine me e work silent works.fine;
    sound = rw (given_edge e work) works.sound;
    alone = (gives_spares me.0 e work silent).kept ∙ works.alone;
    left = λ k away. but_spared plan network me all_places work (gives e work) (λ j. gives_spares j e work silent) (λ j there here. works.left j there) k away refl;
  };
  says = λ peer message work up is works. there_up (work.edge.peering peer.0) (WorksOn plan network me (says taken_all peer message work).work) up (λ kept at state. record {
    fine = says_fine me peer message work works.fine;
    sound = says_sound peer message work works.sound;
    alone = (says_spares me.0 peer message work (apart_from me peer kept work works.alone at)).kept ∙ works.alone;
    left = λ k away. but_says plan network me all_places peer message kept work at state is (λ j there here. works.left j there) k away refl;
  });
}

-- ---- all parts of an input

turned_same : (limit : ℕ → ℕ) (wire : WireId) (on : Bool) (edge : EdgeState) → ((turned_wire wire on edge).peering ≡ edge.peering) × ((turned_wire wire on edge).me ≡ edge.me)
    × (TellsSoundly limit edge → TellsSoundly limit (turned_wire wire on edge))
unfolding with_renewed with_wire
turned_same limit wire true edge = (
  refl,
  refl,
  λ sound. sound_ends edge _ refl refl refl refl
      (λ w peer is. renewed_sound (limit w) (nat_eq w wire.0) (is_up_with (edge.peering peer)) (edge.ends w peer) is) sound,
)
turned_same limit wire false edge = (refl, refl, λ sound. sound_same edge _ refl refl refl refl refl sound)

bits_same : (limit : ℕ → ℕ) (wire : WireId) (bits : ℕ) (edge : EdgeState) → bits ≤ 31 → ((with_bits wire bits edge).peering ≡ edge.peering) × ((with_bits wire bits edge).me ≡ edge.me)
    × (TellsSoundly limit edge → TellsSoundly limit (with_bits wire bits edge))
unfolding with_bits
bits_same limit wire bits edge few = (
  refl,
  refl,
  λ sound. record {
    least = sound.least;
    most = sound.most;
    kept = sound.kept;
    bits = λ w. either (nat_eq w wire.0) (edge.bits w) (sound.bits w);
    ends = sound.ends;
  },
)
  where
    either : (b : Bool) (other : ℕ) → other ≤ 31 → cond b bits other ≤ 31
    either true other is = few
    either false other is = is

counted_same : (limit : ℕ → ℕ) (edge : EdgeState) → ((counted edge).peering ≡ edge.peering) × ((counted edge).me ≡ edge.me) × (TellsSoundly limit edge → TellsSoundly limit (counted edge))
unfolding with_ticks with_kept
counted_same limit edge = (refl, refl, λ sound. sound_rekept edge (counted edge) (counted_rekept edge) refl refl sound)

pub works_kept : (plan : Plan) (network : NetworkState) (me : EdgeId) → IsChecked plan → HasTypes plan → KeptByWork plan me (WorksOn plan network me)
works_kept plan network me checked types =
    let steady : IsSteady plan me (WorksOn plan network me) = works_steady plan network me in
    record {
      rows = steady_rows plan me checked types (WorksOn plan network me) steady;
      closed = λ peer work works. works_happens plan network me peer (Closed reason.Closed) work (λ own other kept far messages answers t. closed_in_step own other kept far messages answers t) works;
      ticked = λ peer work works. works_happens plan network me peer Ticked work (λ own other kept far messages answers t. ticked_in_step own other kept far messages answers t) works;
      bridges = λ old new bridged works. record {
        fine = bridged_fine me old new bridged works.fine;
        sound = sound_same old.edge new.edge bridged.keeps.next_label bridged.keeps.kept bridged.keeps.bits bridged.peering bridged.keeps.ends works.sound;
        alone = (bridged_spares me.0 old new bridged).kept ∙ works.alone;
        left = λ k away. left_spared (ends_at plan me.0 k) (ends_at plan k me.0) k ((network.edges k).peering me.0) (flight network me.0 k) (network.pipes k me.0) old new
            (bridged_spares k old new bridged) (works.left k away);
      };
      turned = λ wire on work works. (let same = turned_same (point_limit plan me.0) wire on work.edge in steady.changes (turned_wire wire on) work same.0 same.1 (same.2 works.sound) works);
      bits = λ wire bits work few works. (let same = bits_same (point_limit plan me.0) wire bits work.edge few in steady.changes (with_bits wire bits) work same.0 same.1 (same.2 works.sound) works);
    }

pub works_counted : (plan : Plan) (network : NetworkState) (me : EdgeId) (work : Work) → WorksOn plan network me work → WorksOn plan network me (changes counted work)
works_counted plan network me work works =
    let same = counted_same (point_limit plan me.0) work.edge in
    (works_steady plan network me).changes counted work same.0 same.1 (same.2 works.sound) works
