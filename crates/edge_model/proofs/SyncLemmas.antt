-- What was told of each wire that ends at an edge is why it does not forward there, after each input.
use Rattle.std.proofs.Common.{◌≡◌, ◌&&◌, ◌||◌, ◌∙◌, ℕ, zero, suc, Bool, true, false, List, [], ◌∷◌, Option, Some, None, cond, not, refl, sym, ap, subst, is_some, length, nat_eq, slice_get}
use Rattle.std.specs.List.{AllByRecursion, find, list_any}
use Rattle.std.proofs.lemmas.Bool.{eqb-true}
use Rattle.net_values.proofs.BoolLemmas.{first_holds, second_holds}
use Rattle.net_base.specs.declared.plan.Plan.{Plan}
use Rattle.net_base.specs.declared.plan.circuit_plan.CircuitPlan.{CircuitPlan}
use Rattle.net_base.specs.declared.plan.edge_plan.EdgePlan.{EdgePlan}
use Rattle.net_base.specs.declared.plan.places.CircuitId.{CircuitId}
use Rattle.net_base.specs.declared.plan.places.EdgeId.{EdgeId}
use Rattle.net_base.specs.declared.plan.places.WireId.{WireId}
use Rattle.net_base.specs.declared.trace.down.Down.{Down}
use Rattle.net_base.specs.declared.trace.down.Down.TheVariants as cause
use Rattle.net_base.specs.declared.trace.state_name.Reason.TheVariants as reason
use Rattle.net_base.specs.plan.Accepted.{IsChecked}
use Rattle.net_base.specs.plan.Paths.{are_joined}
use Rattle.net_base.specs.plan.Places.{circuit_row, wire_row}
use Rattle.pw_signalling.specs.Down.{down}
use Rattle.pw_signalling.specs.End.{EndState, fresh}
use Rattle.session_core.specs.Table.{Closed}
use Rattle.pw_messages.specs.LinkAnswers.{Answers}
use Rattle.edge_model.specs.Circuit.{circuit_input, is_same, turned}
use Rattle.edge_model.specs.Connection.{connected_input, connects, connects_between, opened_with, restart_input}
use Rattle.edge_model.specs.declared.end_place.EndPlace.{EndPlace}
use Rattle.edge_model.specs.declared.input.Input.{Input}
use Rattle.edge_model.specs.declared.input.Input.TheVariants.{Connected, Octets, Lost, Restart, Tick, Frame, Packet, Wire, Circuit, Status, Priority, Ping}
use Rattle.edge_model.specs.EndPlaces.{end_places, ends_here, is_end_of_wire, passes}
use Rattle.edge_model.specs.Ends.{end_forwards, forwards_at, is_up, wire_end}
use Rattle.edge_model.specs.Frame.{frame_input, is_own}
use Rattle.edge_model.specs.Hear.{hears_on, octets_input}
use Rattle.edge_model.specs.Mend.{cause_number, each_end, forgets_downs, mends, mends_choice, mends_end, mends_few, mends_once, mends_status, tells_downs, then_changes}
use Rattle.edge_model.specs.Packet.{packet_input}
use Rattle.edge_model.specs.Ping.{ping_input}
use Rattle.edge_model.specs.Put.{Spoken, stays}
use Rattle.edge_model.specs.Role.{down_at, role_at}
use Rattle.edge_model.specs.Session.{happens_with_ends}
use Rattle.edge_model.specs.Spokes.{choosing}
use Rattle.edge_model.specs.State.{EdgeState, Peering, empty_edge, has_end, is_on, with_bits, with_learned, with_priority, without_ends, without_peerings, with_kept}
use Rattle.edge_model.specs.Step.{edge_step}
use Rattle.edge_model.specs.Synced.{InSync, IsSynced}
use Rattle.edge_model.specs.Tick.{counted, forgetting, ticks_sessions}
use Rattle.edge_model.specs.Wire.{is_own_spoke, turned_wire}
use Rattle.edge_model.specs.Work.{Work, changes, idles}
use Rattle.edge_model.proofs.BridgeLemmas.{LearnsOnly, PingsInput, forgets_downs_only, frame_bridges, learns_is, packet_bridges, ping_bridges, with_pings}
use Rattle.edge_model.proofs.MendedLemmas.{HaveTold, all_told}
use Rattle.edge_model.specs.Settled.{is_down_told}
use Rattle.edge_model.proofs.OneEndLemmas.{has_one_end}
use Rattle.edge_model.proofs.PlaceLemmas.{all-map, places_are}
use Rattle.edge_model.proofs.SignalLemmas.{IsSignalWork, chooses_signals, each_end_signals, mends_choice_signals, mends_end_signals, mends_status_signals}

-- ---- before the first input, and after a restart

pub all_of : (P : EndPlace → Type 0) → ((place : EndPlace) → P place) → (places : List EndPlace) → AllByRecursion P places
all_of P each [] = tt
all_of P each (place ∷ places) = (each place, all_of P each places)

-- an end as it is before the first input tells no label
fresh_down : (plan : Plan) (edge : EdgeState) (place : EndPlace) → edge.ends place.wire.0 place.peer.0 ≡ fresh → cause_number (down_at plan edge place) ≡ 1
unfolding down
fresh_down plan edge place is = ap (λ (end : EndState). cause_number (down (role_at plan edge place) (edge.bits place.wire.0) end)) is

fresh_synced : (plan : Plan) (edge : EdgeState) → ((wire k : ℕ) → edge.ends wire k ≡ fresh) → ((wire : ℕ) → cause_number (edge.told_down wire) ≡ 1) → InSync plan edge
fresh_synced plan edge ends told =
    record { each = all_of (IsSynced plan edge) (λ place. record { so = λ terminal. told place.wire.0 ∙ sym (fresh_down plan edge place (ends place.wire.0 place.peer.0)) }) (end_places plan edge.me) }

pub synced_first : (plan : Plan) (me : EdgeId) → InSync plan (empty_edge plan me)
synced_first plan me = fresh_synced plan (empty_edge plan me) (λ wire k. refl) (λ wire. refl)

pub restart_synced : (plan : Plan) (work : Work) → InSync plan (restart_input work).edge
unfolding changes with_learned without_ends without_peerings with_kept
restart_synced plan work = fresh_synced plan (restart_input work).edge (λ wire k. refl) (λ wire. refl)

-- ---- an edge mends

synced_of : (plan : Plan) (edge : EdgeState) (place : EndPlace) → is_down_told plan edge place ≡ true → IsSynced plan edge place
synced_of plan edge place is = record { so = λ terminal. eqb-true told down (ap (λ (b : Bool). not b || nat_eq told down) (sym terminal) ∙ is) }
  where
    told : ℕ
    told = cause_number (edge.told_down place.wire.0)

    down : ℕ
    down = cause_number (down_at plan edge place)

-- a round of mending, whatever the link took
round_synced : (plan : Plan) (told : Answers) (work : Work) → IsChecked plan → InSync plan (mends_once plan told work).work.edge
round_synced plan told work checked = record { each = subst (λ (me : EdgeId). AllByRecursion (IsSynced plan last) (end_places plan me)) (sym same_me) synced } where
  me : EdgeId
  me = work.edge.me

  places : List EndPlace
  places = end_places plan me

  first : Spoken
  first = each_end (mends_end plan told) places (stays work)

  chosen : Spoken
  chosen = then_changes (choosing plan) first

  second : Spoken
  second = each_end (mends_status plan told) places chosen

  third : Spoken
  third = each_end (mends_choice plan told work.edge.chosen) places second

  forgot : Work
  forgot = forgets_downs plan places third.work

  last : EdgeState
  last = (tells_downs plan places forgot).edge

  downs : HaveTold plan me places forgot.edge last
  downs = all_told plan me (has_one_end plan me checked) places (places_are plan me) forgot

  one : IsSignalWork work first.work
  one = each_end_signals (mends_end plan told) (mends_end_signals plan told) places (stays work)

  two : IsSignalWork first.work chosen.work
  two = chooses_signals plan first.work

  three : IsSignalWork chosen.work second.work
  three = each_end_signals (mends_status plan told) (mends_status_signals plan told) places chosen

  four : IsSignalWork second.work third.work
  four = each_end_signals (mends_choice plan told work.edge.chosen) (mends_choice_signals plan told work.edge.chosen) places second

  same_me : last.me ≡ me
  same_me = ap (λ (e : EdgeState). e.me) downs.is ∙ ((forgets_downs_only plan places third.work).edge.me ∙ (four.edge.me ∙ (three.edge.me ∙ (two.edge.me ∙ one.edge.me))))

  synced : AllByRecursion (IsSynced plan last) places
  synced = all-map (λ place. is_down_told plan last place ≡ true) (IsSynced plan last) places (λ place is. synced_of plan last place is) downs.so

-- so many rounds at most, after one
few_synced : (plan : Plan) (told : Answers) (n : ℕ) (work : Work) → IsChecked plan → InSync plan work.edge → InSync plan (mends_few plan told n work).edge
few_synced plan told zero work checked synced = synced
few_synced plan told (suc n) work checked synced =
    by (mends_once plan told work).failed (few_synced plan told n (mends_once plan told work).work checked (round_synced plan told work checked))
  where
    next : Work
    next = (mends_once plan told work).work

    by : (failed : Bool) → InSync plan (mends_few plan told n next).edge → InSync plan (cond failed (mends_few plan told n next) next).edge
    by true again = again
    by false again = round_synced plan told work checked

pub mends_synced : (plan : Plan) (told : Answers) (work : Work) → IsChecked plan → InSync plan (mends plan told work).edge
mends_synced plan told work checked = by (mends_once plan told work).failed where
  next : Work
  next = (mends_once plan told work).work

  here : InSync plan next.edge
  here = round_synced plan told work checked

  by : (failed : Bool) → InSync plan (cond failed (mends_few plan told (length plan.edges) next) next).edge
  by true = few_synced plan told (length plan.edges) next checked here
  by false = here

-- ---- every input

-- other addresses tell nothing of it
pub learns_synced : (plan : Plan) (old new : EdgeState) → LearnsOnly old new → InSync plan old → InSync plan new
learns_synced plan old new only synced = subst (InSync plan) (sym (learns_is old new only)) (record { each = same })
  where
    same : AllByRecursion (IsSynced plan (record old { learned = new.learned })) (end_places plan old.me)
    same = all-map (IsSynced plan old) (IsSynced plan (record old { learned = new.learned })) (end_places plan old.me) (λ place is. record { so = is.so }) synced.each

-- nor do the sequence numbers of pings
pub pings_synced : (plan : Plan) (pings : ℕ → ℕ) (edge : EdgeState) → InSync plan edge → InSync plan (with_pings pings edge)
pings_synced plan pings edge synced = record { each = all-map (IsSynced plan edge) (IsSynced plan (with_pings pings edge)) (end_places plan edge.me) (λ place is. record { so = is.so }) synced.each }

module _ (plan : Plan) (told : Answers) (work : Work) (checked : IsChecked plan) (synced : InSync plan work.edge) where
  idles_synced : InSync plan (idles work).edge
  unfolding idles
  idles_synced = synced

  -- an input that applies, and after which the edge mends
  mended_synced : (applies : Bool) (work_done : Work) → InSync plan (cond applies (mends plan told work_done) (idles work)).edge
  mended_synced true work_done = mends_synced plan told work_done checked
  mended_synced false work_done = idles_synced

  connected_synced : (peer : EdgeId) → InSync plan (connected_input plan told peer work).edge
  connected_synced peer = by (are_joined plan work.edge.me.0 peer.0 && not (has_end work.edge peer)) where
    between : (own other : Option EdgePlan) → InSync plan (connects_between plan told peer own other work).edge
    between None other = idles_synced
    between (Some own) None = idles_synced
    between (Some own) (Some other) = mends_synced plan told (connects told peer (opened_with own other) work) checked

    by : (b : Bool) → InSync plan (cond b (connects_between plan told peer (slice_get plan.edges work.edge.me.0) (slice_get plan.edges peer.0) work) (idles work)).edge
    by true = between (slice_get plan.edges work.edge.me.0) (slice_get plan.edges peer.0)
    by false = idles_synced

  octets_synced : (peer : EdgeId) (octets : List ℕ) (kept : Option Peering) → InSync plan (octets_input plan told peer octets kept work).edge
  octets_synced peer octets None = idles_synced
  octets_synced peer octets (Some kept) = mends_synced plan told (hears_on plan told peer octets (Some kept) work) checked

  circuit_synced : (circuit : CircuitId) (on : Bool) (row : Option CircuitPlan) → InSync plan (circuit_input plan told circuit on row work).edge
  circuit_synced circuit on None = idles_synced
  circuit_synced circuit on (Some row) = mended_synced (is_own work.edge row && not (is_same on (is_on work.edge circuit))) (changes (turned plan circuit row on) work)

  input_synced : (input : Input) → InSync plan (edge_step plan told input work).edge
  input_synced (Connected peer) = connected_synced peer
  input_synced (Octets peer bytes) = octets_synced peer bytes.now (work.edge.peering peer.0)
  input_synced (Lost peer) = mended_synced (has_end work.edge peer) (happens_with_ends told peer (Closed reason.Closed) work)
  input_synced Restart = restart_synced plan work
  input_synced Tick = mends_synced plan told (changes (forgetting plan) (ticks_sessions told 0 (length plan.edges) (changes counted work))) checked
  input_synced (Frame circuit bytes) =
      learns_synced plan work.edge (frame_input plan told circuit bytes.now (circuit_row plan circuit) work).edge
      (frame_bridges plan told circuit bytes.now (circuit_row plan circuit) work).edge synced
  input_synced (Packet bytes) = learns_synced plan work.edge (packet_input plan told bytes.now work).edge (packet_bridges plan told bytes.now work).edge synced
  input_synced (Circuit circuit on) = circuit_synced circuit on (circuit_row plan circuit)
  input_synced (Wire wire on) = mended_synced (passes plan work.edge.me wire && not (is_same on (work.edge.wire_on wire.0))) (changes (turned_wire wire on) work)
  input_synced (Status wire bits) = mended_synced (ends_here plan work.edge.me wire && not (nat_eq bits (work.edge.bits wire.0))) (changes (with_bits wire bits) work)
  input_synced (Priority wire priority) =
      mended_synced (is_own_spoke work.edge.me (wire_row plan wire) && not (nat_eq priority (work.edge.priority wire.0))) (changes (with_priority wire priority) work)
  input_synced (Ping wire) =
      let pings : PingsInput work (ping_input plan told wire work) = ping_bridges plan told wire work in
      subst (InSync plan) (sym pings.edge) (pings_synced plan pings.pings work.edge synced)

pub step_synced : (plan : Plan) (told : Answers) (input : Input) (work : Work) → IsChecked plan → InSync plan work.edge → InSync plan (edge_step plan told input work).edge
step_synced plan told input work checked synced = input_synced plan told work checked synced input

-- ---- and so the port of a wire forwards exactly where nothing was told why not

-- the one that is found passes the test, and is one of them
found_passes : (test : EndPlace → Bool) (places : List EndPlace) (place : EndPlace) → find test places ≡ Some place → test place ≡ true
found_passes test [] place is = absurd (cc (is))
found_passes test (first ∷ places) place is = by (test first) refl is (λ rest. found_passes test places place rest) where
  by : (b : Bool) → test first ≡ b → cond b (Some first) (find test places) ≡ Some place → (find test places ≡ Some place → test place ≡ true) → test place ≡ true
  by true passes is again =
      let same : first ≡ place = cc (is) in
      ap test (sym same) ∙ passes
  by false fails is again = again is

any_found : (test : EndPlace → Bool) (places : List EndPlace) → is_some (find test places) ≡ list_any test places
any_found test [] = refl
any_found test (first ∷ places) = by (test first) (any_found test places) where
  by : (b : Bool) → is_some (find test places) ≡ list_any test places → is_some (cond b (Some first) (find test places)) ≡ b || list_any test places
  by true rest = refl
  by false rest = rest

found_holds : (P : EndPlace → Type 0) (test : EndPlace → Bool) (places : List EndPlace) (place : EndPlace) → AllByRecursion P places → find test places ≡ Some place → P place
found_holds P test [] place all is = absurd (cc (is))
found_holds P test (first ∷ places) place all is = by (test first) is (λ rest. found_holds P test places place all.1 rest) where
  by : (b : Bool) → cond b (Some first) (find test places) ≡ Some place → (find test places ≡ Some place → P place) → P place
  by true is again =
      let same : first ≡ place = cc (is) in
      subst P same all.0
  by false is again = again is

-- a cause by its number
cause_of : ℕ → Option Down
cause_of n =
    cond (nat_eq n 1) (Some cause.NoLocal)
    (cond (nat_eq n 2) (Some cause.NoRemote)
    (cond (nat_eq n 3) (Some cause.CBit)
    (cond (nat_eq n 4) (Some cause.Kind)
    (cond (nat_eq n 5) (Some cause.Mtu)
    (cond (nat_eq n 6) (Some cause.LocalFault)
    (cond (nat_eq n 7) (Some cause.RemoteFault)
    (cond (nat_eq n 8) (Some cause.Standby) None)))))))

numbered : (down : Option Down) → cause_of (cause_number down) ≡ down
unfolding cause_of
numbered None = refl
numbered (Some cause.NoLocal) = refl
numbered (Some cause.NoRemote) = refl
numbered (Some cause.CBit) = refl
numbered (Some cause.Kind) = refl
numbered (Some cause.Mtu) = refl
numbered (Some cause.LocalFault) = refl
numbered (Some cause.RemoteFault) = refl
numbered (Some cause.Standby) = refl

-- causes with one number are one
pub cause_same : (a b : Option Down) → cause_number a ≡ cause_number b → a ≡ b
cause_same a b same = sym (numbered a) ∙ (ap cause_of same ∙ numbered b)

-- an end is up where its cause has the number 0
pub up_number : (down : Option Down) → is_up down ≡ nat_eq (cause_number down) 0
up_number None = refl
up_number (Some cause.NoLocal) = refl
up_number (Some cause.NoRemote) = refl
up_number (Some cause.CBit) = refl
up_number (Some cause.Kind) = refl
up_number (Some cause.Mtu) = refl
up_number (Some cause.LocalFault) = refl
up_number (Some cause.RemoteFault) = refl
up_number (Some cause.Standby) = refl

-- the edge's end of a wire of which it is a terminal edge is terminal, and of the wire
pub wire_end_is : (plan : Plan) (me : EdgeId) (wire : WireId) (place : EndPlace) → wire_end plan me wire ≡ Some place → is_end_of_wire wire place ≡ true
wire_end_is plan me wire place is = found_passes (is_end_of_wire wire) (end_places plan me) place is

-- there is one exactly at a terminal edge of the wire
pub ends_here_is : (plan : Plan) (me : EdgeId) (wire : WireId) → is_some (wire_end plan me wire) ≡ ends_here plan me wire
ends_here_is plan me wire = any_found (is_end_of_wire wire) (end_places plan me)

-- what was told of a wire is why the edge's end of it does not forward
pub told_is : (plan : Plan) (edge : EdgeState) (wire : WireId) (place : EndPlace) → InSync plan edge → wire_end plan edge.me wire ≡ Some place → edge.told_down wire.0 ≡ down_at plan edge place
told_is plan edge wire place synced is =
    let here : nat_eq place.wire.0 wire.0 && place.terminal ≡ true = wire_end_is plan edge.me wire place is in
    let one : IsSynced plan edge place = found_holds (IsSynced plan edge) (is_end_of_wire wire) (end_places plan edge.me) place synced.each is in
    ap edge.told_down (sym (eqb-true place.wire.0 wire.0 (first_holds (nat_eq place.wire.0 wire.0) place.terminal here)))
    ∙ cause_same (edge.told_down place.wire.0) (down_at plan edge place) (one.so (second_holds (nat_eq place.wire.0 wire.0) place.terminal here))

-- the end is up exactly where nothing was told why not
pub open_is_forwarding : (plan : Plan) (edge : EdgeState) (wire : WireId) (place : EndPlace) → InSync plan edge → wire_end plan edge.me wire ≡ Some place
    → nat_eq (cause_number (edge.told_down wire.0)) 0 ≡ is_up (down_at plan edge place)
open_is_forwarding plan edge wire place synced is = sym (up_number (edge.told_down wire.0)) ∙ ap is_up (told_is plan edge wire place synced is)

-- and so is the port of a wire at a terminal edge of it
pub forwards_as_told : (plan : Plan) (edge : EdgeState) (wire : WireId) → InSync plan edge → ends_here plan edge.me wire ≡ true → end_forwards plan edge wire ≡ is_up (edge.told_down wire.0)
forwards_as_told plan edge wire synced here = by (wire_end plan edge.me wire) refl (ends_here_is plan edge.me wire ∙ here) where
  by : (place : Option EndPlace) → wire_end plan edge.me wire ≡ place → is_some place ≡ true → forwards_at plan edge place ≡ is_up (edge.told_down wire.0)
  by None is some = absurd (cc (some))
  by (Some place) is some = sym (ap is_up (told_is plan edge wire place synced is))

-- at every other edge it does not forward
pub forwards_not_elsewhere : (plan : Plan) (edge : EdgeState) (wire : WireId) → ends_here plan edge.me wire ≡ false → end_forwards plan edge wire ≡ false
forwards_not_elsewhere plan edge wire away = by (wire_end plan edge.me wire) (ends_here_is plan edge.me wire ∙ away) where
  by : (place : Option EndPlace) → is_some place ≡ false → forwards_at plan edge place ≡ false
  by None none = refl
  by (Some place) none = absurd (cc (none))
