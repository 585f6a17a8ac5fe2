-- A connection that comes up keeps the ends of wires between each two edges bound.
use Rattle.std.proofs.Common.{◌≡◌, ◌&&◌, ◌∙◌, ℕ, Bool, true, false, cond, not, nat_eq, List, [], Option, Some, None, slice_get, refl, sym, ap, subst, inl, inr}
use Rattle.std.proofs.lemmas.Bool.{cases_Bool, eqb-true}
use Rattle.net_values.proofs.BoolLemmas.{clash}
use Rattle.net_values.proofs.NumberLemmas.{apart_back}
use Rattle.net_base.specs.declared.plan.Plan.{Plan}
use Rattle.net_base.specs.declared.plan.edge_plan.EdgePlan.{EdgePlan}
use Rattle.net_base.specs.declared.plan.places.EdgeId.{EdgeId}
use Rattle.net_base.specs.declared.trace.state_name.StateName.TheVariants as name
use Rattle.net_base.specs.plan.Accepted.{IsChecked}
use Rattle.net_base.specs.plan.Paths.{are_joined}
use Rattle.ldp_grammar.specs.declared.message.Message.{Message}
use Rattle.ldp_grammar.specs.declared.message.Message.TheVariants.{Initialization}
use Rattle.pw_signalling.specs.declared.binding.Binding.{Binding}
use Rattle.pw_signalling.specs.End.{EndState, LocalPart, Idle, Advertised, Withdrawing}
use Rattle.session_core.specs.declared.peers.Peers.{Peers}
use Rattle.session_core.specs.Parameters.{proposal}
use Rattle.session_core.specs.Phase.{Phase}
use Rattle.session_core.specs.Phase as phase
use Rattle.session_core.specs.State.{is_active}
use Rattle.session_core.specs.Table.{Start}
use Rattle.edge_model.specs.Connection.{connects, connects_between, opened_with, peers_of}
use Rattle.edge_model.specs.declared.effect.Effect.TheVariants.{Session}
use Rattle.edge_model.specs.Mend.{is_up_with, mends}
use Rattle.edge_model.specs.State.{EdgeState, Peering, is_there, with_kept, with_peering}
use Rattle.edge_model.specs.Work.{Work, changes, gives, idles}
use Rattle.network_model.specs.Absorb.{begin_at, idle, taken_all}
use Rattle.network_model.specs.Connection.{connect_event, connected_work, connecting}
use Rattle.network_model.specs.State.{NetworkState, held, stands}
use Rattle.flight_laws.specs.Binding.{is_unasked}
use Rattle.flight_laws.specs.Bound.{AreBound, AreBoundBy, HasSaid, given_of, IsBoundBy, LeavesBound}
use Rattle.flight_laws.specs.Coming.{is_talk}
use Rattle.flight_laws.specs.Ends.{HasTypes, IsOrdered, ends_at}
use Rattle.flight_laws.specs.Facts.{flight}
use Rattle.flight_laws.specs.Messages.{AreSaid, octets_of_all}
use Rattle.flight_laws.specs.Pair.{AreEnds}
use Rattle.flight_laws.specs.Sound.{IsSoundEnd, TellsSoundly}
use Rattle.flight_laws.proofs.ActBindingLemmas.{spared_leaves}
use Rattle.flight_laws.proofs.BetweenLemmas.{LeavesOthers, back_between, connected_two, out_between}
use Rattle.flight_laws.proofs.BoundEventLemmas.{Bounds, Starts, begins_bound, bound_turns, held_now, starts}
use Rattle.flight_laws.proofs.ConnectLemmas.{ConnectsOn, HasOpened, connected_is, connects_on, connects_spares, connects_steady, none_on_way, none_there, opened_low}
use Rattle.edge_model.specs.Labels.{meeting}
use Rattle.flight_laws.proofs.GivenLemmas.{met_given}
use Rattle.flight_laws.proofs.EdgeBindingLemmas.{HasSameEnds, bound_turned}
use Rattle.flight_laws.proofs.EventBindingLemmas.{bound_silent, event_spare, no_far}
use Rattle.flight_laws.proofs.MendingLemmas.{mends_keep}
use Rattle.flight_laws.proofs.PlanLemmas.{ends_are, joined_apart, joined_turned}
use Rattle.flight_laws.proofs.RowBindingLemmas.{LeavesAll, SaysAll, rows_leave}
use Rattle.flight_laws.proofs.SettleLemmas.{begins}
use Rattle.flight_laws.proofs.SteadyLemmas.{IsSteady, steady_rows}
use Rattle.flight_laws.proofs.UniqueLemmas.{said_once}
use Rattle.flight_laws.proofs.WorkBindingLemmas.{HoldsAll, HoldsOctets, held_steady, leaves_by_octets}

-- ---- ends of a session that is not up

idle_bound : (pw_id : ℕ) (next : ℕ → Bool) (near : LocalPart) (far : Option Binding) → is_unasked near ≡ true → far ≡ None → IsBoundBy pw_id next near far [] []
idle_bound pw_id next (Idle declined) far idle none = record { agrees = none; withdrawn = refl; released = refl; waits = idle }
idle_bound pw_id next (Advertised label told) far idle none = clash idle
idle_bound pw_id next (Withdrawing label) far idle none = clash idle

pub low_end : (limit : ℕ) (up : Bool) (e : EndState) → up ≡ false → IsSoundEnd limit up e → (is_unasked e.local ≡ true) × (e.remote ≡ None)
low_end limit true e low sound = clash (sym low)
low_end limit false e low sound = sound

low_bound : {limit limit2 : ℕ → ℕ} → (plan : Plan) (a b : ℕ) (one other : EdgeState) → TellsSoundly limit one → TellsSoundly limit2 other → is_up_with (one.peering b) ≡ false
    → is_up_with (other.peering a) ≡ false → AreBound plan a b one other [] []
low_bound {limit} {limit2} plan a b one other sound sound' low low' = record {
  near = λ wire row is joined. idle_bound row.pw_id (given_of one) (one.ends wire.0 b).local (other.ends wire.0 a).remote
      (low_end (limit wire.0) (is_up_with (one.peering b)) (one.ends wire.0 b) low (sound.ends wire.0 b)).0
      (low_end (limit2 wire.0) (is_up_with (other.peering a)) (other.ends wire.0 a) low' (sound'.ends wire.0 a)).1;
  far = λ wire row is joined. idle_bound row.pw_id (given_of other) (other.ends wire.0 a).local (one.ends wire.0 b).remote
      (low_end (limit2 wire.0) (is_up_with (other.peering a)) (other.ends wire.0 a) low' (sound'.ends wire.0 a)).0
      (low_end (limit wire.0) (is_up_with (one.peering b)) (one.ends wire.0 b) low (sound.ends wire.0 b)).1;
}

-- what an end that has opened has said
opened_says : (plan : Plan) (a b : ℕ) (one other : EdgeState) (back : List Message) (own far : Peers) (me peer : EdgeId) (work : Work) → (has : HasOpened own far me peer work)
    → AreBound plan a b one other [] back
    → AreBound plan a b one other has.messages back
opened_says plan a b one other back own far me peer work has bound = elim (cases_Bool (is_active own)) [
  | inl active ↦ subst (λ (l : List Message). AreBound plan a b one other l back) (sym (has.speaks active).1)
      (bound_silent plan a b one other [] back (Initialization 1 (proposal own)) (λ pw_id. refl) bound)
  | inr passive ↦ subst (λ (l : List Message). AreBound plan a b one other l back) (sym (has.waits passive).1) bound
]

-- ---- an edge of which an end comes to stand

module _ (plan : Plan) (network : NetworkState) (me peer : EdgeId) (one other : EdgePlan) (checked : IsChecked plan) (types : HasTypes plan) (ordered : IsOrdered plan network) (bounds : Bounds plan network) (between : nat_eq me.0 peer.0 ≡ false)
    (fit : AreEnds (peers_of one other) (peers_of other one)) (near : ends_at plan me.0 peer.0 ≡ peers_of one other) (far : ends_at plan peer.0 me.0 ≡ peers_of other one)
    (none : (network.edges me.0).peering peer.0 ≡ None) (none' : (network.edges peer.0).peering me.0 ≡ None) where
  start : Starts plan network me
  start = starts plan network me ordered

  abbrev On : Work → Type 0
  On work = ConnectsOn plan network (peers_of one other) (peers_of other one) me peer work × HoldsAll (λ place. nat_eq place peer.0) (λ place. held network me.0 place) work

  on_steady : IsSteady plan me On
  on_steady = held_steady plan me (ConnectsOn plan network (peers_of one other) (peers_of other one) me peer) (λ place. nat_eq place peer.0) (λ place. held network me.0 place)
      (connects_steady plan network (peers_of one other) (peers_of other one) me peer)

  opens_talk : (active : Bool) (p : Phase) → is_talk active p None [] [] ≡ true
  opens_talk active phase.Initialized = refl
  opens_talk active phase.OpenSent = refl
  opens_talk active phase.OpenRec = refl
  opens_talk active phase.Operational = refl

  peer_said : (work : Work) → ConnectsOn plan network (peers_of one other) (peers_of other one) me peer work → HasSaid plan me peer.0 (network.edges peer.0) (flight network me.0 peer.0) work
  peer_said work on = record {
    messages = [];
    answers = [];
    out_is = rw none' (none_on_way plan network me.0 peer.0 ordered between none none');
    talk = rw (on.opened.shows.keeps, none', near, far) (record {
      said = tt;
      answered = tt;
      here = on.opened.stands;
      there = tt;
      steps = opens_talk (is_active (peers_of one other)) on.opened.kept.session.phase;
    });
  }

  all_said : (work : Work) → On work → SaysAll plan me checked network.edges (flight network me.0) start.answers work
  all_said work on place away = elim (cases_Bool (nat_eq place peer.0)) [
    | inl same ↦ subst (λ (k : ℕ). HasSaid plan me k (network.edges k) (flight network me.0 k) work) (sym (eqb-true place peer.0 same)) (peer_said work on.0)
    | inr gone ↦ (let left = (on.0.left place away gone).leaves in record { messages = left.messages; answers = left.answers; out_is = left.out_is; talk = left.talk })
  ]

  abbrev OnBound : Work → Type 0
  OnBound work = On work × LeavesAll plan me checked network.edges (flight network me.0) start.answers work

  begun_same : (place : ℕ) (kept : Peering) (work : Work) → HasSameEnds place work.edge (gives (Session peer name.Initialized) (changes (with_peering peer (Some kept)) work)).edge
  unfolding gives changes with_peering
  begun_same place kept work = record { label = λ label given. given; ends = λ wire. refl }

  met_same : (place : ℕ) (work : Work) → HasSameEnds place work.edge (changes (meeting peer) work).edge
  unfolding changes with_kept
  met_same place work = record { label = met_given peer work.edge; ends = λ wire. refl }

  connects_same : (place : ℕ) → nat_eq place peer.0 ≡ false → HasSameEnds place (begin_at network me).edge (connects taken_all peer (opened_with one other) (begin_at network me)).edge
  connects_same place gone =
      let met : Work = changes (meeting peer) (begin_at network me) in
      let told : Work = gives (Session peer name.Initialized) (changes (with_peering peer (Some (opened_with one other))) met) in
      let began = met_same place (begin_at network me) in
      let first = begun_same place (opened_with one other) met in
      let then = event_spare place peer Start told gone in
      record { label = λ label given. then.same.label label (first.label label (began.label label given)); ends = λ wire. then.same.ends wire ∙ (first.ends wire ∙ began.ends wire) }

  connects_bound : OnBound (connects taken_all peer (opened_with one other) (begin_at network me))
  connects_bound = (
    (
      connects_on plan network me peer one other ordered between fit none,
      λ place gone. subst (HoldsOctets (held network me.0 place)) (sym (connects_spares place peer (opened_with one other) (begin_at network me) gone).kept)
          (held_now ((network.edges me.0).peering place)),
    ),
    λ place away. elim (cases_Bool (nat_eq place peer.0)) [
      | inl same ↦ subst (λ (k : ℕ). LeavesBound plan me k (network.edges k) (flight network me.0 k) (start.answers k)
          (connects taken_all peer (opened_with one other) (begin_at network me))) (sym (eqb-true place peer.0 same))
          (no_far plan me peer.0 (network.edges peer.0) (flight network me.0 peer.0) (start.answers peer.0) (connects taken_all peer (opened_with one other) (begin_at network me)) none')
      | inr gone ↦ spared_leaves plan me place (network.edges place) (flight network me.0 place) (start.answers place) (begin_at network me)
          (connects taken_all peer (opened_with one other) (begin_at network me))
          (record { spares = connects_spares place peer (opened_with one other) (begin_at network me) gone; same = connects_same place gone }) (begins_bound plan network me place bounds start away)
    ],
  )

  mended_bound : OnBound (mends plan taken_all (connects taken_all peer (opened_with one other) (begin_at network me)))
  mended_bound = mends_keep plan me OnBound
      (rows_leave plan me checked network.edges (flight network me.0) start.answers types On (steady_rows plan me checked types On on_steady) (λ work on. on.0.sound) all_said)
      (connects taken_all peer (opened_with one other) (begin_at network me)) connects_bound

  pub connected_others : LeavesOthers (AreBoundBy plan) network me peer (mends plan taken_all (connects taken_all peer (opened_with one other) (begin_at network me)))
  connected_others place away gone =
      let work : Work = mends plan taken_all (connects taken_all peer (opened_with one other) (begin_at network me)) in
      leaves_by_octets plan network me place (held network me.0 place) (start.answers place) work (start.are place away) (all_said work mended_bound.0 place away) (mended_bound.0.1 place gone)
      (λ kept at. (mended_bound.0.0.left place away gone).unclosed kept at) (mended_bound.1 place away)

  pub connected_on : ConnectsOn plan network (peers_of one other) (peers_of other one) me peer (mends plan taken_all (connects taken_all peer (opened_with one other) (begin_at network me)))
  connected_on = mended_bound.0.0

-- ---- the event

idles_others : (plan : Plan) (network : NetworkState) (me peer : EdgeId) → Bounds plan network → LeavesOthers (AreBoundBy plan) network me peer (idles (begin_at network me))
unfolding idles
idles_others plan network me peer bounds place away gone = begins (AreBoundBy plan) network me place (bounds me.0 place (apart_back place me.0 away))

idles_pair : (plan : Plan) (network : NetworkState) (from to : EdgeId) → (network.edges from.0).peering to.0 ≡ None → (out back : List ℕ)
    → AreBoundBy plan from.0 to.0 (idles (begin_at network from)).edge (idles (begin_at network to)).edge out back
unfolding idles
idles_pair plan network from to none out back = record { bound = λ messages answers said answered out_is back_is near far. clash (sym (ap is_there none) ∙ near) }

idles_bounds : (plan : Plan) (network : NetworkState) (from to : EdgeId) → Bounds plan network → nat_eq from.0 to.0 ≡ false → (network.edges from.0).peering to.0 ≡ None
    → Bounds plan (connecting from (idles (begin_at network from)) to (idles (begin_at network to)) network).state
idles_bounds plan network from to bounds between none =
    connected_two (AreBoundBy plan) network from to (idles (begin_at network from)) (idles (begin_at network to)) (bound_turns plan) between bounds
    (idles_others plan network from to bounds) (idles_others plan network to from bounds)
    (idles_pair plan network from to none _ _)

-- between two ends that have opened, what both have said is on its way
opened_out : (own other : Peers) (from to : EdgeId) (first second : Work) → (one : HasOpened own other from to first) → (two : HasOpened other own to from second)
    → out_between (second.edge.peering from.0) first second from to [] ≡ octets_of_all own.me one.messages
unfolding out_between
opened_out own other from to first second one two = rw (two.shows.keeps, two.shows.ended, one.shows.says, two.nothing) refl

opened_back : (own other : Peers) (from to : EdgeId) (first second : Work) → (one : HasOpened own other from to first) → (two : HasOpened other own to from second)
    → back_between (first.edge.peering to.0) first second from to [] ≡ octets_of_all other.me two.messages
unfolding back_between
opened_back own other from to first second one two = rw (one.shows.keeps, one.shows.ended, two.shows.says, one.nothing) refl

opened_pair_bound : (plan : Plan) (network : NetworkState) (from to : EdgeId) (one other : EdgePlan) (first second : Work) → ends_at plan from.0 to.0 ≡ peers_of one other
    → ends_at plan to.0 from.0 ≡ peers_of other one
    → ConnectsOn plan network (peers_of one other) (peers_of other one) from to first → ConnectsOn plan network (peers_of other one) (peers_of one other) to from second
    → AreBoundBy plan from.0 to.0 first.edge second.edge (out_between (second.edge.peering from.0) first second from to []) (back_between (first.edge.peering to.0) first second from to [])
opened_pair_bound plan network from to one other first second near far here there = record {
  bound = λ messages answers said answered out_is back_is up up'.
      subst (λ (l : List Message). AreBound plan from.0 to.0 first.edge second.edge l answers)
      (said_once (peers_of one other) here.opened.messages messages here.opened.stands.between.one here.opened.said (subst (λ (e : Peers). AreSaid e messages) near said)
      (sym (opened_out (peers_of one other) (peers_of other one) from to first second here.opened there.opened) ∙ (out_is ∙ ap (λ (e : Peers). octets_of_all e.me messages) near)))
      (subst (λ (l : List Message). AreBound plan from.0 to.0 first.edge second.edge here.opened.messages l)
      (said_once (peers_of other one) there.opened.messages answers there.opened.stands.between.one there.opened.said (subst (λ (e : Peers). AreSaid e answers) far answered)
      (sym (opened_back (peers_of one other) (peers_of other one) from to first second here.opened there.opened) ∙ (back_is ∙ ap (λ (e : Peers). octets_of_all e.me answers) far)))
      both);
}
  where
    low : AreBound plan to.0 from.0 second.edge first.edge [] []
    low = low_bound plan to.0 from.0 second.edge first.edge there.sound here.sound (opened_low (peers_of other one) (peers_of one other) to from second there.opened)
        (opened_low (peers_of one other) (peers_of other one) from to first here.opened)

    both : AreBound plan from.0 to.0 first.edge second.edge here.opened.messages there.opened.messages
    both = opened_says plan from.0 to.0 first.edge second.edge there.opened.messages (peers_of one other) (peers_of other one) from to first here.opened
        (bound_turned plan to.0 from.0 second.edge first.edge there.opened.messages []
        (opened_says plan to.0 from.0 second.edge first.edge [] (peers_of other one) (peers_of one other) to from second there.opened low))

opens_bounds : (plan : Plan) (network : NetworkState) (from to : EdgeId) (one other : EdgePlan) → IsChecked plan → HasTypes plan → IsOrdered plan network → Bounds plan network
    → nat_eq from.0 to.0 ≡ false → AreEnds (peers_of one other) (peers_of other one)
    → ends_at plan from.0 to.0 ≡ peers_of one other → ends_at plan to.0 from.0 ≡ peers_of other one → (network.edges from.0).peering to.0 ≡ None → (network.edges to.0).peering from.0 ≡ None
    → Bounds plan (connecting from (mends plan taken_all (connects taken_all to (opened_with one other) (begin_at network from))) to
    (mends plan taken_all (connects taken_all from (opened_with other one) (begin_at network to))) network).state
opens_bounds plan network from to one other checked types ordered bounds between ends near far none none' =
    let turned : nat_eq to.0 from.0 ≡ false = apart_back from.0 to.0 between in
    let back : AreEnds (peers_of other one) (peers_of one other) = record { one = ends.two; two = ends.one; facing = ends.back; back = ends.facing } in
    all_bound (none_on_way plan network from.0 to.0 ordered between none none') (none_on_way plan network to.0 from.0 ordered turned none' none)
    (mends plan taken_all (connects taken_all to (opened_with one other) (begin_at network from))) (mends plan taken_all (connects taken_all from (opened_with other one) (begin_at network to)))
    (connected_on plan network from to one other checked types ordered bounds between ends near far none none')
    (connected_on plan network to from other one checked types ordered bounds turned back far near none' none)
    (connected_others plan network from to one other checked types ordered bounds between ends near far none none')
    (connected_others plan network to from other one checked types ordered bounds turned back far near none' none)
  where
    all_bound : network.pipes from.0 to.0 ≡ [] → network.pipes to.0 from.0 ≡ [] → (first second : Work) → ConnectsOn plan network (peers_of one other) (peers_of other one) from to first
        → ConnectsOn plan network (peers_of other one) (peers_of one other) to from second → LeavesOthers (AreBoundBy plan) network from to first
        → LeavesOthers (AreBoundBy plan) network to from second
        → Bounds plan (connecting from first to second network).state
    all_bound out_none back_none first second here there one_others other_others =
        connected_two (AreBoundBy plan) network from to first second (bound_turns plan) between bounds one_others other_others
        (rw (out_none, back_none) (opened_pair_bound plan network from to one other first second near far here there))

pub connect_bounds : (plan : Plan) (from to : EdgeId) (network : NetworkState) → IsChecked plan → HasTypes plan → IsOrdered plan network → Bounds plan network
    → Bounds plan (connect_event plan from to network).state
connect_bounds plan from to network checked types ordered bounds = can (are_joined plan from.0 to.0) (stands network from.0 to.0) (stands network to.0 from.0) refl refl refl where
  rows : nat_eq from.0 to.0 ≡ false → (network.edges from.0).peering to.0 ≡ None → (network.edges to.0).peering from.0 ≡ None → (first second : Option EdgePlan)
      → slice_get plan.edges from.0 ≡ first → slice_get plan.edges to.0 ≡ second
      → Bounds plan (connecting from (connects_between plan taken_all to first second (begin_at network from)) to
      (connects_between plan taken_all from second first (begin_at network to)) network).state
  rows between none none' (Some one) (Some other) here there =
      opens_bounds plan network from to one other checked types ordered bounds between (ends_are plan from.0 to.0 one other checked types here there between) (rw (here, there) refl)
      (rw (there, here) refl) none none'
  rows between none none' None None here there = idles_bounds plan network from to bounds between none
  rows between none none' None (Some other) here there = idles_bounds plan network from to bounds between none
  rows between none none' (Some one) None here there = idles_bounds plan network from to bounds between none

  can : (joined one other : Bool) → are_joined plan from.0 to.0 ≡ joined → stands network from.0 to.0 ≡ one → stands network to.0 from.0 ≡ other
      → Bounds plan (cond (joined && (not one && not other)) (connecting from (connected_work plan network from to) to (connected_work plan network to from) network) (idle network)).state
  can true false false is none none' =
      rw (connected_is plan network from to ordered is none, connected_is plan network to from ordered (sym (joined_turned plan from.0 to.0) ∙ is) none')
      (rows (joined_apart plan from.0 to.0 checked is) (none_there ((network.edges from.0).peering to.0) none) (none_there ((network.edges to.0).peering from.0) none')
      (slice_get plan.edges from.0) (slice_get plan.edges to.0) refl refl)
  can true true other is none none' = bounds
  can true false true is none none' = bounds
  can false one other is none none' = bounds
