-- A connection comes up: both ends stand, and the active one has said its Initialization.
use Rattle.std.proofs.Common.{◌≡◌, ◌<◌, ◌^◌, ◌++◌, ◌&&◌, ◌∙◌, ℕ, Bool, true, false, cond, not, nat_eq, List, [], ◌∷◌, Option, Some, None, slice_get, refl, sym, ap, subst, inl, inr, arith}
use Rattle.std.proofs.lemmas.Bool.{cases_Bool, eqb-true}
use Rattle.net_values.proofs.BoolLemmas.{first_holds, clash, clash_at}
use Rattle.net_values.proofs.NumberLemmas.{same_number, apart_back}
use Rattle.net_base.specs.declared.plan.Plan.{Plan}
use Rattle.net_base.specs.declared.plan.edge_plan.EdgePlan.{EdgePlan}
use Rattle.net_base.specs.declared.plan.places.EdgeId.{EdgeId}
use Rattle.net_base.specs.declared.trace.state_name.StateName.TheVariants as name
use Rattle.net_base.specs.plan.Accepted.{IsChecked}
use Rattle.net_base.specs.plan.Paths.{are_joined}
use Rattle.ldp_grammar.specs.declared.message.Message.{Message}
use Rattle.ldp_grammar.specs.declared.message.Message.TheVariants.{Initialization}
use Rattle.session_core.specs.declared.peers.Peers.{Peers}
use Rattle.session_core.specs.declared.reply.Reply.TheVariants as reply
use Rattle.session_core.specs.Parameters.{proposal}
use Rattle.session_core.specs.Phase as phase
use Rattle.session_core.specs.State.{is_active, opened}
use Rattle.session_core.specs.Table.{Goes, Start, Stay, enters_phase, outcome_of}
use Rattle.session_core.proofs.LawLemmas.{ends_agree}
use Rattle.edge_model.specs.Connection.{connects, connects_between, opened_with, peers_of}
use Rattle.edge_model.specs.declared.effect.Effect.TheVariants.{Session}
use Rattle.edge_model.specs.Put.{having_spoken}
use Rattle.edge_model.specs.Mend.{is_up_with, mends}
use Rattle.edge_model.specs.Session.{happens, says, with_session}
use Rattle.edge_model.specs.State.{EdgeState, Peering, is_there, with_kept, with_peering}
use Rattle.edge_model.specs.Work.{Work, changes, gives, idles}
use Rattle.network_model.specs.Absorb.{absorb_all, begin_at, idle, taken_all}
use Rattle.network_model.specs.Connection.{connect_event, connected_work, connecting}
use Rattle.network_model.specs.State.{NetworkState, stands, with_edge}
use Rattle.flight_laws.specs.Ends.{HasTypes, IsOrdered, IsPaired, KeepsOrder, ends_at}
use Rattle.flight_laws.specs.Facts.{flight}
use Rattle.flight_laws.specs.Meeting.{IsFine, ShowsPlace, Spares, TellWell}
use Rattle.flight_laws.specs.Messages.{AreSaid, octets_of_all}
use Rattle.flight_laws.specs.Sound.{TellsSoundly, point_limit}
use Rattle.flight_laws.specs.Pair.{AreEnds, ArePaired, IsStanding, is_in_step}
use Rattle.flight_laws.specs.Flight.{is_empty}
use Rattle.flight_laws.proofs.BetweenLemmas.{LeavesOthers, back_between, connected_two, out_between}
use Rattle.flight_laws.proofs.EventLemmas.{idle_keeps}
use Rattle.flight_laws.proofs.MendingLemmas.{mends_keep}
use Rattle.flight_laws.proofs.SayLemmas.{clears_fine, clears_spares, says_fine, says_spares}
use Rattle.flight_laws.proofs.SoundLemmas.{happens_sound, sound_rekept}
use Rattle.flight_laws.proofs.NameLemmas.{meeting_rekept}
use Rattle.edge_model.specs.Labels.{meeting}
use Rattle.flight_laws.proofs.SteadyLemmas.{IsSteady, steady_rows}
use Rattle.flight_laws.proofs.MeetLemmas.{goes_shows}
use Rattle.flight_laws.proofs.PipeLemmas.{all_edges, all_good, good-append}
use Rattle.flight_laws.proofs.PlanLemmas.{ends_are, joined_apart, joined_turned}
use Rattle.flight_laws.proofs.SettleLemmas.{edge_else, edge_there}
use Rattle.flight_laws.proofs.WorkLemmas.{same_end, session_spares, spares_then, well-append, with_peering_spares}
use Rattle.flight_laws.proofs.WorksLemmas.{LeftBut, apart_from, but_says, but_spared, change_fine, change_spares, changed_edge, event_spares, given_edge, gives_fine, gives_spares, left_spared, pair_turned, says_sound, there_up, works_begin}

-- ---- what an edge makes of a connection that comes up

-- the session is opened: an active end has said its Initialization, and a passive end waits for one
pub record HasOpened (own other : Peers) (me peer : EdgeId) (work : Work) : Type 0 where
  pub kept : Peering
  pub messages : List Message
  pub shows : ShowsPlace peer.0 work (Some kept) (octets_of_all own.me messages) false
  pub fine : IsFine me work
  pub nothing : kept.held ≡ []
  pub stands : IsStanding own other kept
  pub said : AreSaid own messages
  pub speaks : is_active own ≡ true → (kept.session.phase ≡ phase.OpenSent) × (messages ≡ Initialization 1 (proposal own) ∷ [])
  pub waits : is_active own ≡ false → (kept.session.phase ≡ phase.Initialized) × (messages ≡ [])

starts : (own : Peers) → is_active own ≡ true → outcome_of (opened own) Start ≡ Goes (enters_phase phase.OpenSent (opened own)) (reply.Init ∷ [])
starts own active = rw active refl

rests : (own : Peers) → is_active own ≡ false → outcome_of (opened own) Start ≡ Stay
rests own passive = rw passive refl

-- before the session starts
open_end : (me peer : EdgeId) (kept : Peering) (work : Work) → work.effects ≡ [] → IsFine me work
    → ShowsPlace peer.0 (gives (Session peer name.Initialized) (changes (with_peering peer (Some kept)) work)) (Some kept) [] false
    × IsFine me (gives (Session peer name.Initialized) (changes (with_peering peer (Some kept)) work))
unfolding gives changes with_peering
open_end me peer kept work none fine = (
  record { keeps = rw (same_number peer.0) refl; says = rw none refl; ended = rw none refl },
  record { place = fine.place; idle = fine.idle; well = well-append work.effects (Session peer name.Initialized) fine.well tt },
)

stands_open : (one other : EdgePlan) (kept : Peering) → AreEnds (peers_of one other) (peers_of other one) → kept.session.peers ≡ peers_of one other → kept.session.max_pdu ≡ 4096
    → kept.next_id < 2 ^ 32
    → (kept.session.phase ≡ phase.Initialized → is_active (peers_of one other) ≡ false) → IsStanding (peers_of one other) (peers_of other one) kept
stands_open one other kept ends same long id passive = record { peers = same; between = ends; least = omega (arith, long); most = omega (arith, long); numbered = id; passive = passive }

-- the work once the session has started
started : EdgeId → EdgePlan → EdgePlan → Work → Work
started peer one other work = happens taken_all peer Start (gives (Session peer name.Initialized) (changes (with_peering peer (Some (opened_with one other))) work))

starts_opens : (me peer : EdgeId) (one other : EdgePlan) (work : Work) → AreEnds (peers_of one other) (peers_of other one) → work.effects ≡ [] → IsFine me work
    → HasOpened (peers_of one other) (peers_of other one) me peer (started peer one other work)
unfolding started
starts_opens me peer one other work ends none fine = elim (cases_Bool (is_active own)) [
  | inl active ↦ (let said = goes_shows me peer kept (enters_phase phase.OpenSent (opened own)) (reply.Init ∷ []) [] begun opening.0 opening.1 in
      rw (opening.0.keeps, starts own active) (record {
        kept = having_spoken (with_session (enters_phase phase.OpenSent (opened own)) kept);
        messages = Initialization 1 (proposal own) ∷ [];
        shows = said.0;
        fine = said.1;
        nothing = refl;
        stands = stands_open one other (having_spoken (with_session (enters_phase phase.OpenSent (opened own)) kept)) ends refl refl (omega arith) (λ e. absurd (no e));
        said = ((omega arith, refl), tt);
        speaks = λ e. (refl, refl);
        waits = λ e. clash (sym e ∙ active);
      }))
  | inr passive ↦ rw (opening.0.keeps, rests own passive) (record {
    kept = kept;
    messages = [];
    shows = opening.0;
    fine = opening.1;
    nothing = refl;
    stands = stands_open one other kept ends refl refl (omega arith) (λ e. passive);
    said = tt;
    speaks = λ e. clash (sym passive ∙ e);
    waits = λ e. (refl, refl);
  })
]
  where
    own : Peers
    own = peers_of one other

    kept : Peering
    kept = opened_with one other

    begun : Work
    begun = gives (Session peer name.Initialized) (changes (with_peering peer (Some kept)) work)

    opening : ShowsPlace peer.0 begun (Some kept) [] false × IsFine me begun
    opening = open_end me peer kept work none fine

    no : phase.OpenSent ≡ phase.Initialized → ⊥
    no e = cc

-- what is nothing else for the peer
opened_spared : (own other : Peers) (me peer : EdgeId) (old new : Work) → IsFine me new → Spares peer.0 old new → HasOpened own other me peer old → HasOpened own other me peer new
opened_spared own other me peer old new fine spares has = record {
  kept = has.kept;
  messages = has.messages;
  shows = record { keeps = spares.kept ∙ has.shows.keeps; says = spares.said ∙ has.shows.says; ended = spares.closed ∙ has.shows.ended };
  fine = fine;
  nothing = has.nothing;
  stands = has.stands;
  said = has.said;
  speaks = has.speaks;
  waits = has.waits;
}

-- the two edges meet
met_says : (peer : EdgeId) (work : Work) → (changes (meeting peer) work).effects ≡ work.effects
unfolding changes
met_says peer work = refl

met_fine : (me peer : EdgeId) (work : Work) → IsFine me work → IsFine me (changes (meeting peer) work)
unfolding changes with_kept
met_fine me peer work fine = record { place = fine.place; idle = fine.idle; well = fine.well }

met_spares : (place : ℕ) (peer : EdgeId) (work : Work) → Spares place work (changes (meeting peer) work)
unfolding changes with_kept
met_spares place peer work = record { kept = refl; said = refl; closed = refl }

met_sound : {limit : ℕ → ℕ} → (peer : EdgeId) (work : Work) → TellsSoundly limit work.edge → TellsSoundly limit (changes (meeting peer) work).edge
unfolding changes with_kept
met_sound peer work sound = sound_rekept work.edge (meeting peer work.edge) (meeting_rekept peer work.edge) refl refl sound

met_peering : (peer : EdgeId) (work : Work) → (changes (meeting peer) work).edge.peering ≡ work.edge.peering
unfolding changes with_kept
met_peering peer work = refl

connects_opens : (me peer : EdgeId) (one other : EdgePlan) (work : Work) → AreEnds (peers_of one other) (peers_of other one) → work.effects ≡ [] → IsFine me work
    → HasOpened (peers_of one other) (peers_of other one) me peer (connects taken_all peer (opened_with one other) work)
unfolding started
connects_opens me peer one other work ends none fine =
    let met : Work = changes (meeting peer) work in
    let has : HasOpened (peers_of one other) (peers_of other one) me peer (started peer one other met) =
    starts_opens me peer one other met ends (met_says peer work ∙ none) (met_fine me peer work fine) in
    opened_spared (peers_of one other) (peers_of other one) me peer (started peer one other met) (connects taken_all peer (opened_with one other) work)
    (clears_fine me peer (started peer one other met) has.fine) (clears_spares peer.0 peer (started peer one other met)) has

pub connects_spares : (place : ℕ) (peer : EdgeId) (kept : Peering) (work : Work) → nat_eq place peer.0 ≡ false → Spares place work (connects taken_all peer kept work)
connects_spares place peer kept work apart =
    let met : Work = changes (meeting peer) work in
    let there : Work = changes (with_peering peer (Some kept)) met in
    let told : Work = gives (Session peer name.Initialized) there in
    spares_then place work met _ (met_spares place peer work)
    (spares_then place met there _ (with_peering_spares place peer (Some kept) met apart)
    (spares_then place there told _ (session_spares place peer name.Initialized there) (event_spares place peer Start told apart)))

-- ends beside a peer whose session begins
open_sound : {limit : ℕ → ℕ} → (peer : EdgeId) (kept : Peering) (work : Work) → work.edge.peering peer.0 ≡ None → kept.session.phase ≡ phase.Initialized → TellsSoundly limit work.edge
    → TellsSoundly limit (gives (Session peer name.Initialized) (changes (with_peering peer (Some kept)) work)).edge
unfolding gives changes with_peering
open_sound peer kept work none state sound = record {
  least = sound.least;
  most = sound.most;
  kept = sound.kept;
  bits = sound.bits;
  ends = λ wire k. elim (cases_Bool (nat_eq k peer.0)) [
    | inl same ↦ rw (same, state) (rw (eqb-true k peer.0 same) (rw none at (sound.ends wire peer.0)))
    | inr away ↦ rw away (sound.ends wire k)
  ];
}

-- the session is not up yet
pub opened_low : (own other : Peers) (me peer : EdgeId) (work : Work) → HasOpened own other me peer work → is_up_with (work.edge.peering peer.0) ≡ false
opened_low own other me peer work has = elim (cases_Bool (is_active own)) [
  | inl active ↦ rw (has.shows.keeps, (has.speaks active).0) refl
  | inr passive ↦ rw (has.shows.keeps, (has.waits passive).0) refl
]

-- ---- the edge mends its ends

-- the end beside the peer has opened, and all other neighbours are in step
pub record ConnectsOn (plan : Plan) (network : NetworkState) (own other : Peers) (me peer : EdgeId) (work : Work) : Type 0 where
  pub opened : HasOpened own other me peer work
  pub sound : TellsSoundly (point_limit plan me.0) work.edge
  pub alone : work.edge.peering me.0 ≡ None
  pub left : LeftBut plan network me (λ k. nat_eq k peer.0) work

pub connects_steady : (plan : Plan) (network : NetworkState) (own other : Peers) (me peer : EdgeId) → IsSteady plan me (ConnectsOn plan network own other me peer)
connects_steady plan network own other me peer = record {
  placed = λ work on. on.opened.fine.place;
  sound = λ work on. on.sound;
  changes = λ change work kept place sound on. record {
    opened = opened_spared own other me peer work (changes change work) (change_fine me change work place on.opened.fine) (change_spares peer.0 change work kept) on.opened;
    sound = rw (changed_edge change work) sound;
    alone = (change_spares me.0 change work kept).kept ∙ on.alone;
    left = but_spared plan network me (λ k. nat_eq k peer.0) work (changes change work) (λ j. change_spares j change work kept) on.left;
  };
  gives = λ e work silent on. record {
    opened = opened_spared own other me peer work (gives e work) (gives_fine me e work silent on.opened.fine) (gives_spares peer.0 e work silent) on.opened;
    sound = rw (given_edge e work) on.sound;
    alone = (gives_spares me.0 e work silent).kept ∙ on.alone;
    left = but_spared plan network me (λ k. nat_eq k peer.0) work (gives e work) (λ j. gives_spares j e work silent) on.left;
  };
  says = λ to message work up is on. there_up (work.edge.peering to.0) (ConnectsOn plan network own other me peer (says taken_all to message work).work) up (λ kept at state. record {
    opened = opened_spared own other me peer work (says taken_all to message work).work (says_fine me to message work on.opened.fine)
        (says_spares peer.0 to message work (to_another to work up on.opened)) on.opened;
    sound = says_sound to message work on.sound;
    alone = (says_spares me.0 to message work (apart_from me to kept work on.alone at)).kept ∙ on.alone;
    left = but_says plan network me (λ k. nat_eq k peer.0) to message kept work at state is on.left;
  });
}
  where
    to_another : (to : EdgeId) (work : Work) → is_up_with (work.edge.peering to.0) ≡ true → HasOpened own other me peer work → nat_eq peer.0 to.0 ≡ false
    to_another to work up has = elim (cases_Bool (nat_eq peer.0 to.0)) [
      | inl same ↦ clash_at (is_up_with (work.edge.peering to.0)) up (ap (λ (k : ℕ). is_up_with (work.edge.peering k)) (sym (eqb-true peer.0 to.0 same)) ∙ opened_low own other me peer work has)
      | inr apart ↦ apart
    ]

pub connects_on : (plan : Plan) (network : NetworkState) (me peer : EdgeId) (one other : EdgePlan) → IsOrdered plan network → nat_eq me.0 peer.0 ≡ false
    → AreEnds (peers_of one other) (peers_of other one) → (network.edges me.0).peering peer.0 ≡ None
    → ConnectsOn plan network (peers_of one other) (peers_of other one) me peer (connects taken_all peer (opened_with one other) (begin_at network me))
connects_on plan network me peer one other ordered between ends none = record {
  opened = connects_opens me peer one other (begin_at network me) ends refl (record { place = ordered.placed me.0; idle = refl; well = tt });
  sound = happens_sound taken_all peer Start (gives (Session peer name.Initialized) (changes (with_peering peer (Some (opened_with one other))) (changes (meeting peer) (begin_at network me))))
      (open_sound peer (opened_with one other) (changes (meeting peer) (begin_at network me)) (ap (λ (f : ℕ → Option Peering). f peer.0) (met_peering peer (begin_at network me)) ∙ none) refl
      (met_sound peer (begin_at network me) (ordered.sound me.0)));
  alone = (connects_spares me.0 peer (opened_with one other) (begin_at network me) between).kept ∙ ordered.alone me.0;
  left = λ place away here. left_spared (ends_at plan me.0 place) (ends_at plan place me.0) place ((network.edges place).peering me.0) (flight network me.0 place)
      (network.pipes place me.0) (begin_at network me) (connects taken_all peer (opened_with one other) (begin_at network me))
      (connects_spares place peer (opened_with one other) (begin_at network me) here) ((works_begin plan network me ordered).left place away);
}

pub mended_on : (plan : Plan) (network : NetworkState) (me peer : EdgeId) (one other : EdgePlan) → IsChecked plan → HasTypes plan → IsOrdered plan network → nat_eq me.0 peer.0 ≡ false
    → AreEnds (peers_of one other) (peers_of other one) → (network.edges me.0).peering peer.0 ≡ None
    → ConnectsOn plan network (peers_of one other) (peers_of other one) me peer (mends plan taken_all (connects taken_all peer (opened_with one other) (begin_at network me)))
mended_on plan network me peer one other checked types ordered between ends none =
    mends_keep plan me (ConnectsOn plan network (peers_of one other) (peers_of other one) me peer)
    (steady_rows plan me checked types (ConnectsOn plan network (peers_of one other) (peers_of other one) me peer) (connects_steady plan network (peers_of one other) (peers_of other one) me peer))
    (connects taken_all peer (opened_with one other) (begin_at network me)) (connects_on plan network me peer one other ordered between ends none)

-- ---- the network

-- the work of an edge on a connection with a peer, which leaves each other place in step
pub record HasConnected (plan : Plan) (network : NetworkState) (me peer : EdgeId) (work : Work) : Type 0 where
  pub place : work.edge.me ≡ me
  pub well : TellWell work.effects
  pub sound : TellsSoundly (point_limit plan me.0) work.edge
  pub alone : work.edge.peering me.0 ≡ None
  pub left : LeftBut plan network me (λ k. nat_eq k peer.0) work

leaves_others : (plan : Plan) (network : NetworkState) (me peer : EdgeId) (work : Work) → HasConnected plan network me peer work → LeavesOthers (IsPaired plan) network me peer work
leaves_others plan network me peer work connected place away here = (connected.left place away here).leaves

connecting_edges : (from to : EdgeId) (first second : Work) (network : NetworkState) → (connecting from first to second network).state.edges
    ≡ (with_edge to second.edge (with_edge from first.edge network)).edges
connecting_edges from to first second network =
    all_edges to 0 0 second.effects (absorb_all from 0 0 first.effects (with_edge to second.edge (with_edge from first.edge network)))
    ∙ all_edges from 0 0 first.effects (with_edge to second.edge (with_edge from first.edge network))

connecting_keeps : (plan : Plan) (network : NetworkState) (from to : EdgeId) (first second : Work) → nat_eq from.0 to.0 ≡ false → IsOrdered plan network
    → HasConnected plan network from to first → HasConnected plan network to from second
    → IsPaired plan from.0 to.0 first.edge second.edge (out_between (second.edge.peering from.0) first second from to (network.pipes from.0 to.0))
    (back_between (first.edge.peering to.0) first second from to (network.pipes to.0 from.0))
    → KeepsOrder plan (connecting from first to second network)
connecting_keeps plan network from to first second between ordered one other pair = record {
  ordered = record {
    two = connected_two (IsPaired plan) network from to first second (pair_turned plan) between ordered.two (leaves_others plan network from to first one)
        (leaves_others plan network to from second other) pair;
    alone = λ a. by_place (λ k e. e.peering k ≡ None) a one.alone other.alone (ordered.alone a);
    placed = λ a. by_place (λ k e. e.me ≡ record { 0 = k }) a one.place other.place (ordered.placed a);
    sound = λ a. by_place (λ k e. TellsSoundly (point_limit plan k) e) a one.sound other.sound (ordered.sound a);
  };
  good = good-append _ _ (all_good from 0 0 first.effects (with_edge to second.edge (with_edge from first.edge network)) one.well)
      (all_good to 0 0 second.effects (absorb_all from 0 0 first.effects (with_edge to second.edge (with_edge from first.edge network))) other.well);
}
  where
    by_place : (Q : ℕ → EdgeState → Type 0) (a : ℕ) → Q from.0 first.edge → Q to.0 second.edge → Q a (network.edges a) → Q a ((connecting from first to second network).state.edges a)
    by_place Q a here there else_where = rw (connecting_edges from to first second network) (elim (cases_Bool (nat_eq a to.0)) [
      | inl is ↦ subst (λ (k : ℕ). Q k ((with_edge to second.edge (with_edge from first.edge network)).edges k)) (sym (eqb-true a to.0 is))
          (rw (edge_there to second.edge (with_edge from first.edge network)) there)
      | inr away ↦ rw (edge_else to second.edge (with_edge from first.edge network) a away) (elim (cases_Bool (nat_eq a from.0)) [
        | inl is ↦ subst (λ (k : ℕ). Q k ((with_edge from first.edge network).edges k)) (sym (eqb-true a from.0 is)) (rw (edge_there from first.edge network) here)
        | inr gone ↦ rw (edge_else from first.edge network a gone) else_where
      ])
    ])

-- between two ends that have opened, the Initialization of the active one is on its way and nothing else
opened_steps : (own other : Peers) (me peer : EdgeId) (first second : Work) (one : HasOpened own other me peer first) (two : HasOpened other own peer me second)
    → is_in_step own (Some one.kept) (Some two.kept) one.messages two.messages ≡ true
opened_steps own other me peer first second one two =
    let turned : is_active other ≡ not (is_active own) =
    ends_agree.one_active own other one.stands.between.facing one.stands.between.one.me one.stands.between.one.peer one.stands.between.one.proper in
    elim (cases_Bool (is_active own)) [
      | inl active ↦ (let here = one.speaks active in let there = two.waits (turned ∙ ap (λ (b : Bool). not b) active) in rw (active, here.0, here.1, there.0, there.1) refl)
      | inr passive ↦ (let here = one.waits passive in let there = two.speaks (turned ∙ ap (λ (b : Bool). not b) passive) in rw (passive, here.0, here.1, there.0, there.1) refl)
    ]

pub opened_pair : (own other : Peers) (from to : EdgeId) (first second : Work) → HasOpened own other from to first → HasOpened other own to from second
    → ArePaired own other (first.edge.peering to.0) (second.edge.peering from.0) (out_between (second.edge.peering from.0) first second from to [])
    (back_between (first.edge.peering to.0) first second from to [])
unfolding out_between back_between
opened_pair own other from to first second one two =
    rw (one.shows.keeps, two.shows.keeps, one.shows.ended, two.shows.ended, one.shows.says, two.shows.says)
    (record {
      messages = one.messages;
      answers = two.messages;
      out_is = rw two.nothing refl;
      back_is = rw one.nothing refl;
      talk = record { said = one.said; answered = two.said; here = one.stands; there = two.stands; steps = opened_steps own other from to first second one two };
    })

-- nothing is on its way between ends of which none stands
pub none_on_way : (plan : Plan) (network : NetworkState) (a b : ℕ) → IsOrdered plan network → nat_eq a b ≡ false → (network.edges a).peering b ≡ None → (network.edges b).peering a
    ≡ None → network.pipes a b ≡ []
none_on_way plan network a b ordered apart one two =
    let pair : ArePaired (ends_at plan a b) (ends_at plan b a) None None (network.pipes a b) (network.pipes b a) = rw (one, two) at (ordered.two a b apart) in
    pair.out_is ∙ ap (octets_of_all (ends_at plan a b).me) (empty pair.messages (first_holds _ _ pair.talk.steps))
  where
    empty : (ms : List Message) → is_empty ms ≡ true → ms ≡ []
    empty [] h = refl
    empty (m ∷ ms) h = clash h

-- an edge that is joined to a peer, and whose end does not stand
pub connected_is : (plan : Plan) (network : NetworkState) (me peer : EdgeId) → IsOrdered plan network → are_joined plan me.0 peer.0 ≡ true → stands network me.0 peer.0 ≡ false
    → connected_work plan network me peer ≡ connects_between plan taken_all peer (slice_get plan.edges me.0) (slice_get plan.edges peer.0) (begin_at network me)
connected_is plan network me peer ordered joined none = rw (ordered.placed me.0, joined, none) refl

pub none_there : (near : Option Peering) → is_there near ≡ false → near ≡ None
none_there None e = refl
none_there (Some kept) e = clash (sym e)

connects_has : (plan : Plan) (network : NetworkState) (own other : Peers) (me peer : EdgeId) (work : Work) → ConnectsOn plan network own other me peer work → HasConnected plan network me peer work
connects_has plan network own other me peer work on = record { place = on.opened.fine.place; well = on.opened.fine.well; sound = on.sound; alone = on.alone; left = on.left }

idles_has : (plan : Plan) (network : NetworkState) (me peer : EdgeId) → IsOrdered plan network → HasConnected plan network me peer (idles (begin_at network me))
unfolding idles
idles_has plan network me peer ordered = record {
  place = ordered.placed me.0;
  well = tt;
  sound = ordered.sound me.0;
  alone = ordered.alone me.0;
  left = λ place away here. left_spared (ends_at plan me.0 place) (ends_at plan place me.0) place ((network.edges place).peering me.0) (flight network me.0 place)
      (network.pipes place me.0) (begin_at network me) (idles (begin_at network me))
      (record { kept = refl; said = refl; closed = refl }) ((works_begin plan network me ordered).left place away);
}

same_pipe : (b : Bool) (pipe : List ℕ) → cond b (pipe ++ []) pipe ≡ pipe
same_pipe true pipe = same_end pipe
same_pipe false pipe = refl

idles_pair : (plan : Plan) (network : NetworkState) (from to : EdgeId) → IsOrdered plan network → nat_eq from.0 to.0 ≡ false
    → IsPaired plan from.0 to.0 (network.edges from.0) (network.edges to.0)
    (out_between ((network.edges to.0).peering from.0) (idles (begin_at network from)) (idles (begin_at network to)) from to (network.pipes from.0 to.0))
    (back_between ((network.edges from.0).peering to.0) (idles (begin_at network from)) (idles (begin_at network to)) from to (network.pipes to.0 from.0))
unfolding idles out_between back_between
idles_pair plan network from to ordered between =
    rw (same_pipe (is_there ((network.edges to.0).peering from.0)) (network.pipes from.0 to.0), same_pipe (is_there ((network.edges from.0).peering to.0)) (network.pipes to.0 from.0))
    (ordered.two from.0 to.0 between)

idles_keep : (plan : Plan) (network : NetworkState) (from to : EdgeId) → IsOrdered plan network → nat_eq from.0 to.0 ≡ false
    → KeepsOrder plan (connecting from (idles (begin_at network from)) to (idles (begin_at network to)) network)
unfolding idles
idles_keep plan network from to ordered between =
    connecting_keeps plan network from to (idles (begin_at network from)) (idles (begin_at network to)) between ordered (idles_has plan network from to ordered)
    (idles_has plan network to from ordered) (idles_pair plan network from to ordered between)

opens_keep : (plan : Plan) (network : NetworkState) (from to : EdgeId) (one other : EdgePlan) → IsChecked plan → HasTypes plan → IsOrdered plan network → nat_eq from.0 to.0 ≡ false
    → AreEnds (peers_of one other) (peers_of other one)
    → ends_at plan from.0 to.0 ≡ peers_of one other → ends_at plan to.0 from.0 ≡ peers_of other one → network.pipes from.0 to.0 ≡ [] → network.pipes to.0 from.0 ≡ []
    → (network.edges from.0).peering to.0 ≡ None → (network.edges to.0).peering from.0 ≡ None
    → KeepsOrder plan (connecting from (mends plan taken_all (connects taken_all to (opened_with one other) (begin_at network from))) to
    (mends plan taken_all (connects taken_all from (opened_with other one) (begin_at network to))) network)
opens_keep plan network from to one other checked types ordered between ends near far out back none none' =
    let here : ConnectsOn plan network (peers_of one other) (peers_of other one) from to (mends plan taken_all (connects taken_all to (opened_with one other) (begin_at network from))) =
    mended_on plan network from to one other checked types ordered between ends none in
    let there : ConnectsOn plan network (peers_of other one) (peers_of one other) to from (mends plan taken_all (connects taken_all from (opened_with other one) (begin_at network to))) =
    mended_on plan network to from other one checked types ordered (apart_back from.0 to.0 between) (record { one = ends.two; two = ends.one; facing = ends.back; back = ends.facing }) none' in
    both_keep plan network from to one other ordered between near far out back _ _ here there
  where
    both_keep : (plan : Plan) (network : NetworkState) (from to : EdgeId) (one other : EdgePlan) → IsOrdered plan network → nat_eq from.0 to.0 ≡ false
        → ends_at plan from.0 to.0 ≡ peers_of one other → ends_at plan to.0 from.0 ≡ peers_of other one → network.pipes from.0 to.0 ≡ [] → network.pipes to.0 from.0 ≡ []
        → (first second : Work) → ConnectsOn plan network (peers_of one other) (peers_of other one) from to first → ConnectsOn plan network (peers_of other one) (peers_of one other) to from second
        → KeepsOrder plan (connecting from first to second network)
    both_keep plan network from to one other ordered between near far out back first second here there =
        connecting_keeps plan network from to first second between ordered
        (connects_has plan network (peers_of one other) (peers_of other one) from to first here) (connects_has plan network (peers_of other one) (peers_of one other) to from second there)
        (rw (near, far, out, back) (opened_pair (peers_of one other) (peers_of other one) from to first second here.opened there.opened))

pub connect_keeps : (plan : Plan) (from to : EdgeId) (network : NetworkState) → IsChecked plan → HasTypes plan → IsOrdered plan network → KeepsOrder plan (connect_event plan from to network)
connect_keeps plan from to network checked types ordered = can (are_joined plan from.0 to.0) (stands network from.0 to.0) (stands network to.0 from.0) refl refl refl where
  rows : nat_eq from.0 to.0 ≡ false → (network.edges from.0).peering to.0 ≡ None → (network.edges to.0).peering from.0 ≡ None → (first second : Option EdgePlan)
      → slice_get plan.edges from.0 ≡ first → slice_get plan.edges to.0 ≡ second
      → KeepsOrder plan (connecting from (connects_between plan taken_all to first second (begin_at network from)) to (connects_between plan taken_all from second first (begin_at network to)) network)
  rows between none none' (Some one) (Some other) here there =
      opens_keep plan network from to one other checked types ordered between (ends_are plan from.0 to.0 one other checked types here there between) (rw (here, there) refl) (rw (there, here) refl)
      (none_on_way plan network from.0 to.0 ordered between none none') (none_on_way plan network to.0 from.0 ordered (apart_back from.0 to.0 between) none' none) none none'
  rows between none none' None None here there = idles_keep plan network from to ordered between
  rows between none none' None (Some other) here there = idles_keep plan network from to ordered between
  rows between none none' (Some one) None here there = idles_keep plan network from to ordered between

  can : (joined one other : Bool) → are_joined plan from.0 to.0 ≡ joined → stands network from.0 to.0 ≡ one → stands network to.0 from.0 ≡ other
      → KeepsOrder plan (cond (joined && (not one && not other)) (connecting from (connected_work plan network from to) to (connected_work plan network to from) network) (idle network))
  can true false false is none none' =
      rw (connected_is plan network from to ordered is none, connected_is plan network to from ordered (sym (joined_turned plan from.0 to.0) ∙ is) none')
      (rows (joined_apart plan from.0 to.0 checked is) (none_there ((network.edges from.0).peering to.0) none) (none_there ((network.edges to.0).peering from.0) none')
      (slice_get plan.edges from.0) (slice_get plan.edges to.0) refl refl)
  can true true other is none none' = idle_keeps plan network ordered
  can true false true is none none' = idle_keeps plan network ordered
  can false one other is none none' = idle_keeps plan network ordered
