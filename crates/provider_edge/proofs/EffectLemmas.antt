-- What an edge gives out: it names what is in the plan, and tells what the link took.
use Rattle.std.proofs.Common.{◌≡◌, ◌<◌, ◌≤◌, ◌+◌, ◌-◌, ◌++◌, ◌&&◌, ◌||◌, ◌∙◌, ℕ, zero, suc, Bool, true, false, List, [], ◌∷◌, Option, Some, None, Result, Ok, Err, cond, filter, length, nat_eq, nat_lt, not, slice_get, slice_index_or, refl, ap, sym, subst, arith, append_assoc}
use Rattle.std.proofs.lemmas.List.{append-nil}
use Rattle.std.proofs.lemmas.Option.{get_or_from_slice_get, slice_get_within}
use Rattle.net_base.specs.declared.outside.link_call.LinkCall.{LinkCall}
use Rattle.net_base.specs.declared.plan.Plan.{Plan}
use Rattle.net_base.specs.declared.plan.circuit_plan.CircuitPlan.{CircuitPlan}
use Rattle.net_base.specs.declared.plan.edge_plan.EdgePlan.{EdgePlan}
use Rattle.net_base.specs.declared.plan.places.CircuitId.{CircuitId}
use Rattle.net_base.specs.declared.plan.places.EdgeId.{EdgeId}
use Rattle.net_base.specs.declared.plan.places.ServiceId.{ServiceId}
use Rattle.net_base.specs.declared.trace.arrival.Arrival.{Arrival}
use Rattle.net_base.specs.declared.trace.arrival.Arrival.TheVariants as arrival
use Rattle.net_base.specs.declared.trace.drop_cause.DropCause.{DropCause}
use Rattle.net_base.specs.declared.trace.drop_cause.DropCause.TheVariants as causes
use Rattle.net_base.specs.declared.trace.state_name.Reason.{Reason}
use Rattle.net_base.specs.declared.trace.state_name.Reason.TheVariants as reason
use Rattle.net_base.specs.declared.trace.state_name.StateName.{StateName}
use Rattle.net_base.specs.declared.trace.state_name.StateName.TheVariants as name
use Rattle.net_base.specs.outside.Link.{call_of}
use Rattle.net_base.specs.plan.Accepted.{IsChecked, IsWireOf}
use Rattle.net_base.specs.declared.plan.wire_plan.WirePlan.{WirePlan}
use Rattle.net_base.specs.plan.Paths.{are_joined, edge_address, joins, mate, mate_on, offer_of}
use Rattle.net_base.specs.plan.RowFaults.{is_edge_of}
use Rattle.std.specs.List.{AllByRecursion, list_all}
use Rattle.std.specs.Option.{option_or}
use Rattle.std.proofs.lemmas.Bool.{eqb-true, ltb-true}
use Rattle.std.proofs.lemmas.List.Elements.{All-get_or}
use Rattle.net_base.specs.declared.plan.places.WireId.{WireId}
use Rattle.net_base.specs.declared.trace.down.Down.{Down}
use Rattle.ldp_grammar.specs.declared.status_code.StatusCode.{StatusCode}
use Rattle.pw_tlvs.specs.declared.pw_fec.PwFec.{PwFec}
use Rattle.pw_tlvs.specs.declared.pw_status.PwStatus.{PwStatus}
use Rattle.pw_signalling.specs.declared.told.Told.{Told}
use Rattle.pw_signalling.specs.End.{LocalPart, Idle, Advertised, Withdrawing}
use Rattle.pw_signalling.specs.Rows.{bound, group_stated, group_unbound, stated, unbound}
use Rattle.net_base.specs.plan.Places.{circuit_row, wire_row}
use Rattle.net_base.specs.trace.Isolated.{inner_at}
use Rattle.net_base.specs.trace.Frame.{dress}
use Rattle.ldp_codec.specs.Decoded.{refusal_of}
use Rattle.ldp_grammar.specs.declared.message.Message.{Message}
use Rattle.ldp_grammar.specs.declared.message.Message.TheVariants as message
use Rattle.ldp_stream.specs.FrontOf.{Front, More, Got, Bad, front_of}
use Rattle.session_core.specs.declared.reply.Reply.{Reply}
use Rattle.session_core.specs.Phase.{Phase}
use Rattle.session_core.specs.Session.{phase_name}
use Rattle.session_core.specs.Table.{SessionEvent, Heard, Received, Refused, Ticked, Outcome, Stay, Goes, Ends, outcome_of}
use Rattle.session_core.specs.Table as table
use Rattle.pw_messages.specs.Content.{binding_in, mac_withdrawal, mapping, pw_status_code, release, status_notification, withdrawal}
use Rattle.pw_messages.specs.LinkAnswers.{Agrees, Answers}
use Rattle.hvpls_spokes.specs.declared.port.Port.{Port}
use Rattle.hvpls_spokes.specs.declared.port.Port.TheVariants as port
use Rattle.hvpls_spokes.specs.Port.{ports_of}
use Rattle.hvpls_spokes.proofs.PortsLemmas.{IsServed, served_at}
use Rattle.eth_encap.specs.declared.stack_entry.StackEntry.{StackEntry}
use Rattle.eth_encap.specs.Packet.{entry_of}
use Rattle.pw_signalling.specs.declared.binding.Binding.{Binding}
use Rattle.pw_stitch.specs.declared.swap_drop.SwapDrop.{SwapDrop}
use Rattle.pw_stitch.specs.Stitch.{has_told}
use Rattle.net_values.specs.declared.addr.Addr.{Addr}
use Rattle.vccv_channel.specs.declared.cc.Cc.{Cc}
use Rattle.vccv_channel.specs.declared.cc.Cc.TheVariants.{Alert, Expiry, Header}
use Rattle.vccv_channel.specs.declared.echo.Echo.{Echo}
use Rattle.vccv_channel.specs.declared.echo.Echo.TheVariants.{Answer, Request}
use Rattle.vccv_channel.specs.declared.vccv_fault.VccvFault.{VccvFault}
use Rattle.vccv_channel.specs.Channel.{has_header}
use Rattle.vccv_channel.specs.Echo.{answer_packet, request_packet}
use Rattle.vccv_channel.specs.Fault.{vccv_cause_of}
use Rattle.vccv_channel.specs.Reading.{ip_packet_of, reading}
use Rattle.pw_stitch.specs.Drop.{dropped_for}
use Rattle.pw_stitch.specs.Relabelling.{relabelled}
use Rattle.pw_stitch.specs.Swap.{label_onward}
use Rattle.edge_model.specs.declared.effect.Effect.{Effect}
use Rattle.edge_model.specs.declared.effect.Effect.TheVariants.{Said, Sent, Left, Dropped, Session, Wire, Pong, Closed}
use Rattle.edge_model.specs.declared.effects.Effects.{Effects}
use Rattle.edge_model.specs.declared.input.Input.{Input}
use Rattle.edge_model.specs.declared.input.Input.TheVariants as input
use Rattle.edge_model.specs.Circuit.{circuit_input, is_same, turned}
use Rattle.edge_model.specs.Connection.{connected_input, connects_between, lost_input, opened_with, restarted}
use Rattle.edge_model.specs.Frame.{copies, copy_by, forwarded, frame_input, hearing, is_own, port_at, received, tag_of, targets_of}
use Rattle.edge_model.specs.Hear.{acts, acts_on, advice_of, advises, hears_few, hears_front, hears_message, hears_messages, hears_on, hears_one, hears_pdu, hears_within, holds, octets_input, was_up}
use Rattle.net_values.specs.declared.mac.Mac.{Mac}
use Rattle.net_values.proofs.BoolLemmas.{first_holds, second_holds}
use Rattle.net_values.proofs.RowLemmas.{same_read, found_among}
use Rattle.hvpls_spokes.specs.declared.edge_role.Role.{Role}
use Rattle.hvpls_spokes.specs.Role as roles
use Rattle.mac_withdraw.specs.Passing.{is_passed_to}
use Rattle.mac_withdraw.specs.Pieces.{pieces_of}
use Rattle.edge_model.specs.Across.{end_beside, end_beyond, mate_of}
use Rattle.edge_model.specs.Clear.{clears_at, clears_by, clears_wire, hears_mac_withdraw, passes_on, tells_at, tells_by, withdrawing_at}
use Rattle.edge_model.specs.Withdraw.{tells_piece, tells_piece_by, tells_pieces}
use Rattle.edge_model.specs.Echo.{channel_octets, channel_under, echoes, is_picked, ping_number, verifies, verifies_in}
use Rattle.edge_model.specs.Ping.{asks, far_address, ping_between, ping_input, pinging, pings_at, pings_by, pings_in, pings_under}
use Rattle.edge_model.specs.Packet.{advertiser, advertises_label, alerted, alerts_by, alerts_end, behind_entry, by_control_word, bridges_frame, by_offer, enters, is_alert, is_channel, labelled, least_label, opened_by, owned, packet_input, switched, switched_by, switched_to, switched_under, terminated, towards, unpacked_at}
use Rattle.edge_model.specs.Send.{drops, had_posted, packet_of, sends, sends_copy, sends_under}
use Rattle.edge_model.specs.Synced.{InSync}
use Rattle.edge_model.specs.Put.{Spoken, message_octets_of, octets_of, put_octets, put_replies, put_reply, put_reply_to, puts_on, with_spoken, stays}
use Rattle.edge_model.specs.Labels.{label_to_give, meeting}
use Rattle.edge_model.specs.Session.{clears_ends, comes_of, losing_ends, ends, had_put, had_said, happens, happens_to, happens_with_ends, says, says_to, is_same_phase, tells_change, went_on, with_session}
use Rattle.edge_model.specs.declared.end_place.EndPlace.{EndPlace}
use Rattle.edge_model.specs.EndPlaces.{end_places, ends_here, is_at, is_end_of_wire, passes}
use Rattle.edge_model.specs.Ends.{is_up, wire_end}
use Rattle.edge_model.specs.Mend.{advertises_under, advertises_wish, advertising, and_says, cause_number, each_end, forgets_down, forgets_downs, forgetting_wire, is_new_choice, mends, mends_choice, mends_end, mends_few, mends_local, mends_once, mends_status, mends_status_of, port_of_wire, offer_stands, telling_status, tells_down, tells_downs, tells_new_status, tells_over, then_changes, wish, withdrawing, withdraws, withdraws_unless}
use Rattle.edge_model.specs.Role.{down_at, status_to_tell}
use Rattle.edge_model.specs.Signal.{end_of_fec, hears_status, maps_to, releases_label, takes_content, with_end_changed, with_named, with_released}
use Rattle.edge_model.specs.Spokes.{choosing}
use Rattle.edge_model.specs.Wire.{is_own_spoke, turned_wire}
use Rattle.edge_model.specs.State.{EdgeState, Peering, end_at, has_end, is_on, is_there, with_bits, with_peering, with_priority, with_told_down}
use Rattle.edge_model.specs.Step.{edge_step}
use Rattle.edge_model.specs.Tick.{counted, forgetting, ticks_sessions}
use Rattle.edge_model.specs.Work.{Work, beginning, changes, gives, idles, next_answer, posts, puts}
use Rattle.edge_model.proofs.SyncLemmas.{step_synced}
use Rattle.edge_model.proofs.PlaceLemmas.{IsEndOf, all-map, places_are}
use Rattle.edge_forwarding.specs.Views.{view}
use Rattle.provider_edge.specs.Invariant.{IsEdge}
use Rattle.provider_edge.specs.Lists.{EdgeLists, seen, worked}
use Rattle.provider_edge.specs.Said.{AllFit, NamesPlaces, TellsTaken, calls_told}

-- Of an edge at work this holds of its work, whatever it does for its neighbours and its circuits.
pub record AreKept (plan : Plan) (Holds : Work → Type 0) : Type 0 where
  pub changed : (change : EdgeState → EdgeState) (w : Work) → Holds w → Holds (changes change w)
  pub idle : (w : Work) → Holds w → Holds (idles w)
  pub left : (circuit : CircuitId) (bytes : List ℕ) (w : Work) → circuit.0 < length plan.circuits → Holds w → Holds (gives (Left circuit bytes) w)
  pub dropped : (cause : DropCause) (w : Work) → Holds w → Holds (gives (Dropped cause) w)
  pub session : (peer : EdgeId) (state : StateName) (w : Work) → peer.0 < length plan.edges → Holds w → Holds (gives (Session peer state) w)
  pub wire : (wire : WireId) (down : Option Down) (w : Work) → wire.0 < length plan.wires → Holds w → Holds (gives (Wire wire down) w)
  pub pong : (wire : WireId) (sequence : ℕ) (w : Work) → wire.0 < length plan.wires → Holds w → Holds (gives (Pong wire sequence) w)
  pub gone : (peer : EdgeId) (w : Work) → peer.0 < length plan.edges → Holds w → Holds (gives (Closed peer) w)
  pub said : (peer : EdgeId) (bytes : List ℕ) (change : EdgeState → EdgeState) (w : Work) → peer.0 < length plan.edges → Holds w
      → Holds (gives (Said peer bytes) (changes change (puts peer bytes true w)))
  pub refused : (peer : EdgeId) (bytes : List ℕ) (w : Work) → Holds w → Holds (puts peer bytes false w)
  pub sent : (peer : EdgeId) (wire : WireId) (came : Arrival) (bytes : List ℕ) (w : Work) → peer.0 < length plan.edges → wire.0 < length plan.wires → Holds w
      → Holds (gives (Sent peer wire came bytes) (posts peer bytes true w))
  pub lost : (peer : EdgeId) (bytes : List ℕ) (w : Work) → Holds w → Holds (posts peer bytes false w)

-- ---- where ends are

-- the place is one of the plan
pub record IsPlaced (plan : Plan) (place : EndPlace) : Type 0 where
  pub peer : place.peer.0 < length plan.edges
  pub wire : place.wire.0 < length plan.wires

pub below_edges : (plan : Plan) (edge : EdgeId) → is_edge_of plan edge ≡ true → edge.0 < length plan.edges
below_edges plan edge is = ltb-true edge.0 (length plan.edges) is

joined_within : (plan : Plan) (a b : ℕ) (path : List EdgeId) → joins a b path ≡ true → list_all (is_edge_of plan) path ≡ true → b < length plan.edges
joined_within plan a b [] joined all = absurd (cc (joined))
joined_within plan a b (last ∷ []) joined all = absurd (cc (joined))
joined_within plan a b (first ∷ next ∷ rest) joined all =
    let one : first.0 < length plan.edges = below_edges plan first (first_holds (is_edge_of plan first) (list_all (is_edge_of plan) (next ∷ rest)) all) in
    let tail : list_all (is_edge_of plan) (next ∷ rest) ≡ true = second_holds (is_edge_of plan first) (list_all (is_edge_of plan) (next ∷ rest)) all in
    let two : next.0 < length plan.edges = below_edges plan next (first_holds (is_edge_of plan next) (list_all (is_edge_of plan) rest) tail) in
    by one two (λ further. joined_within plan a b (next ∷ rest) further tail) (nat_eq a first.0 && nat_eq b next.0) refl (nat_eq b first.0 && nat_eq a next.0) refl joined
  where
    by : first.0 < length plan.edges → next.0 < length plan.edges → (joins a b (next ∷ rest) ≡ true → b < length plan.edges) → (x : Bool) → (nat_eq a first.0 && nat_eq b next.0) ≡ x
        → (y : Bool) → (nat_eq b first.0 && nat_eq a next.0) ≡ y
        → (x || y) || joins a b (next ∷ rest) ≡ true → b < length plan.edges
    by one two further true is y other any = subst (λ (n : ℕ). n < length plan.edges) (sym (eqb-true b next.0 (second_holds (nat_eq a first.0) (nat_eq b next.0) is))) two
    by one two further false is true other any = subst (λ (n : ℕ). n < length plan.edges) (sym (eqb-true b first.0 (first_holds (nat_eq b first.0) (nat_eq a next.0) other))) one
    by one two further false is false other any = further any

place_placed : (plan : Plan) (me : EdgeId) → IsChecked plan → (place : EndPlace) → IsEndOf plan me place → IsPlaced plan place
place_placed plan me checked place is =
    let within : place.wire.0 < length plan.wires = slice_get_within plan.wires place.wire.0 is.row is.is in
    let row : IsWireOf plan is.row =
    subst (IsWireOf plan) (get_or_from_slice_get plan.wires place.wire.0 is.row is.row is.is) (All-get_or (IsWireOf plan) plan.wires place.wire.0 is.row within checked.wires) in
    record { peer = joined_within plan me.0 place.peer.0 is.row.path is.joined row.edges; wire = within }

places_placed : (plan : Plan) (me : EdgeId) → IsChecked plan → AllByRecursion (IsPlaced plan) (end_places plan me)
places_placed plan me checked = all-map (IsEndOf plan me) (IsPlaced plan) (end_places plan me) (λ place is. place_placed plan me checked place is) (places_are plan me)

-- ---- frames

sends_kept : (plan : Plan) (Holds : Work → Type 0) → AreKept plan Holds → (told : Answers) (place : EndPlace) (came : Arrival) (octets : List ℕ) (work : Work) → IsPlaced plan place
    → Holds work → Holds (sends told place came octets work)
sends_kept plan Holds kept told place came octets work placed here = by (next_answer told work) where
  by : (taken : Bool) → Holds (had_posted place came octets taken work)
  by true = kept.sent place.peer place.wire came octets work placed.peer placed.wire here
  by false = kept.dropped causes.LinkFault (posts place.peer octets false work) (kept.lost place.peer octets work here)

copied_kept : (plan : Plan) (Holds : Work → Type 0) → AreKept plan Holds → (told : Answers) (came : Arrival) (frame : List ℕ) (end : Option EndPlace) (work : Work)
    → ((place : EndPlace) → end ≡ Some place → IsPlaced plan place) → Holds work
    → Holds (sends_copy plan told came frame end work)
copied_kept plan Holds kept told came frame None work placed here = here
copied_kept plan Holds kept told came frame (Some place) work placed here = by (wire_row plan place.wire) (end_at work.edge place).remote where
  by : (row : Option WirePlan) (remote : Option Binding) → Holds (sends_under told came frame work.edge.me place row remote work)
  by None remote = here
  by (Some row) None = here
  by (Some row) (Some binding) = sends_kept plan Holds kept told place came (packet_of (offer_of row work.edge.me.0) binding frame) work (placed place refl) here

copy_kept : (plan : Plan) (Holds : Work → Type 0) → AreKept plan Holds → IsChecked plan → (told : Answers) (came : Arrival) (frame : List ℕ) (x : Port) (b : Bool) (work : Work)
    → ((c : CircuitId) → x ≡ port.Circuit c → c.0 < length plan.circuits)
    → Holds work → Holds (cond b (copy_by plan told came frame x work) work)
copy_kept plan Holds kept checked told came frame x false work planned here = here
copy_kept plan Holds kept checked told came frame (port.Circuit c) true work planned here = kept.left c (dress (tag_of plan c) frame) work (planned c refl) here
copy_kept plan Holds kept checked told came frame (port.Mesh wire) true work planned here =
    copied_kept plan Holds kept told came frame (wire_end plan work.edge.me wire) work
    (λ place. found_among (IsPlaced plan) (is_end_of_wire wire) (end_places plan work.edge.me) place (places_placed plan work.edge.me checked)) here
copy_kept plan Holds kept checked told came frame (port.Spoke wire) true work planned here =
    copied_kept plan Holds kept told came frame (wire_end plan work.edge.me wire) work
    (λ place. found_among (IsPlaced plan) (is_end_of_wire wire) (end_places plan work.edge.me) place (places_placed plan work.edge.me checked)) here

copies_kept : (plan : Plan) (Holds : Work → Type 0) → AreKept plan Holds → IsChecked plan
    → (told : Answers) (came : Arrival) (frame : List ℕ) (targets : ℕ → Bool) (p : ℕ) (ports : List Port) (work : Work)
    → ((q : ℕ) (c : CircuitId) → slice_get ports q ≡ Some (port.Circuit c) → c.0 < length plan.circuits)
    → Holds work → Holds (copies targets (copy_by plan told came frame) p ports work)
copies_kept plan Holds kept checked told came frame targets p [] work planned here = here
copies_kept plan Holds kept checked told came frame targets p (x ∷ ports) work planned here =
    copies_kept plan Holds kept checked told came frame targets (p + 1) ports (cond (targets p) (copy_by plan told came frame x work) work)
    (λ q c leads. planned (suc q) c leads)
    (copy_kept plan Holds kept checked told came frame x (targets p) work (λ c is. planned 0 c (ap (λ (x : Port). Some x) is)) here)

in_plan : (plan : Plan) (service : ServiceId) (me : EdgeId) (q : ℕ) (c : CircuitId) → slice_get (ports_of plan service me) q ≡ Some (port.Circuit c) → c.0 < length plan.circuits
in_plan plan service me q c leads =
    let served : IsServed plan.circuits service me c.0 = served_at plan service me q (port.Circuit c) leads in
    slice_get_within plan.circuits c.0 served.row served.is

forwarded_kept : (plan : Plan) (Holds : Work → Type 0) → AreKept plan Holds → IsChecked plan
    → (told : Answers) (came : Arrival) (service : ServiceId) (frame : List ℕ) (port : Option ℕ) (work : Work) → Holds work → Holds (forwarded plan told came service frame port work)
forwarded_kept plan Holds kept checked told came service frame None work here = here
forwarded_kept plan Holds kept checked told came service frame (Some arrival) work here =
    let heard : Work = changes (hearing service frame arrival) work in
    copies_kept plan Holds kept checked told came frame (targets_of plan heard.edge service (ports_of plan service heard.edge.me) frame arrival) 0
    (ports_of plan service heard.edge.me) heard (in_plan plan service heard.edge.me)
    (kept.changed (hearing service frame arrival) work here)

received_kept : (plan : Plan) (Holds : Work → Type 0) → AreKept plan Holds → IsChecked plan
    → (told : Answers) (came : Arrival) (service : ServiceId) (port : Option ℕ) (read : Result (List ℕ) DropCause) (work : Work) → Holds work → Holds (received plan told came service port read work)
received_kept plan Holds kept checked told came service port (Ok frame) work here = forwarded_kept plan Holds kept checked told came service frame port work here
received_kept plan Holds kept checked told came service port (Err cause) work here = kept.dropped cause work here

frame_kept : (plan : Plan) (Holds : Work → Type 0) → AreKept plan Holds → IsChecked plan
    → (told : Answers) (circuit : CircuitId) (octets : List ℕ) (row : Option CircuitPlan) (work : Work) → Holds work → Holds (frame_input plan told circuit octets row work)
frame_kept plan Holds kept checked told circuit octets None work here = kept.idle work here
frame_kept plan Holds kept checked told circuit octets (Some row) work here = taken (is_own work.edge row && is_on work.edge circuit) where
  taken : (b : Bool) → Holds (cond b (received plan told (arrival.Circuit circuit) row.service (port_at plan work.edge circuit row) (inner_at plan circuit octets) work) (idles work))
  taken false = kept.idle work here
  taken true = received_kept plan Holds kept checked told (arrival.Circuit circuit) row.service (port_at plan work.edge circuit row) (inner_at plan circuit octets) work here

-- ---- packets

enters_kept : (plan : Plan) (Holds : Work → Type 0) → AreKept plan Holds → IsChecked plan → (told : Answers) (row : WirePlan) (place : EndPlace) (payload : List ℕ) (work : Work)
    → Holds work → Holds (enters plan told row place payload work)
enters_kept plan Holds kept checked told row place payload work here = by (is_up (down_at plan work.edge place)) where
  by : (b : Bool) → Holds (cond b (bridges_frame plan told row place payload work) (drops causes.Down work))
  by true = received_kept plan Holds kept checked told (arrival.Wire place.wire) row.service (port_of_wire plan work.edge place.wire row) (unpacked_at plan row work.edge.me payload) work here
  by false = kept.dropped causes.Down work here

-- ---- an echo packet

echoed_kept : (plan : Plan) (Holds : Work → Type 0) → AreKept plan Holds
    → (told : Answers) (place : EndPlace) (kind : Cc) (binding : Binding) (ip : List ℕ) (read : Result Echo VccvFault) (work : Work) → IsPlaced plan place → Holds work
    → Holds (echoes told place kind binding ip read work)
echoed_kept plan Holds kept told place kind binding ip (Err why) work placed here = kept.dropped (vccv_cause_of why) work here
echoed_kept plan Holds kept told place kind binding ip (Ok (Answer sequence)) work placed here = kept.pong place.wire sequence work placed.wire here
echoed_kept plan Holds kept told place kind binding ip (Ok (Request from to sequence long)) work placed here =
    sends_kept plan Holds kept told place arrival.Own (channel_octets kind binding (answer_packet ip)) work placed here

verified_kept : (plan : Plan) (Holds : Work → Type 0) → AreKept plan Holds
    → (told : Answers) (place : EndPlace) (row : WirePlan) (kind : Cc) (binding : Binding) (payload : List ℕ) (work : Work) → IsPlaced plan place → Holds work
    → Holds (verifies told place row kind binding payload work)
verified_kept plan Holds kept told place row kind binding payload work placed here =
    echoed_kept plan Holds kept told place kind binding (ip_packet_of (has_header kind) payload) (reading (has_header kind) (ping_number row) payload) work placed here

verified_in_kept : (plan : Plan) (Holds : Work → Type 0) → AreKept plan Holds
    → (told : Answers) (place : EndPlace) (row : WirePlan) (kind : Cc) (binding : Binding) (payload : List ℕ) (work : Work) → IsPlaced plan place → Holds work
    → Holds (verifies_in told place row kind binding payload work)
verified_in_kept plan Holds kept told place row kind binding payload work placed here = by (is_picked kind (channel_under row work.edge.me binding)) where
  by : (b : Bool) → Holds (cond b (verifies told place row kind binding payload work) (drops causes.NotOffered work))
  by true = verified_kept plan Holds kept told place row kind binding payload work placed here
  by false = kept.dropped causes.NotOffered work here

-- ---- a terminal end

worded_kept : (plan : Plan) (Holds : Work → Type 0) → AreKept plan Holds → IsChecked plan
    → (told : Answers) (row : WirePlan) (place : EndPlace) (binding : Binding) (payload : List ℕ) (work : Work) → IsPlaced plan place → Holds work
    → Holds (by_control_word plan told row place binding payload work)
worded_kept plan Holds kept checked told row place binding payload work placed here = by (nat_eq (length payload) 0) where
  channel : (b : Bool) → Holds (cond b (verifies_in told place row Header binding payload work) (enters plan told row place payload work))
  channel true = verified_in_kept plan Holds kept told place row Header binding payload work placed here
  channel false = enters_kept plan Holds kept checked told row place payload work here

  by : (b : Bool) → Holds (cond b (drops causes.Short work) (cond (is_channel payload) (verifies_in told place row Header binding payload work) (enters plan told row place payload work)))
  by true = kept.dropped causes.Short work here
  by false = channel (is_channel payload)

offered_kept : (plan : Plan) (Holds : Work → Type 0) → AreKept plan Holds → IsChecked plan
    → (told : Answers) (row : WirePlan) (place : EndPlace) (binding : Binding) (ttl : ℕ) (cword : Bool) (payload : List ℕ) (work : Work) → IsPlaced plan place → Holds work
    → Holds (by_offer plan told row place binding ttl cword payload work)
offered_kept plan Holds kept checked told row place binding ttl true payload work placed here = worded_kept plan Holds kept checked told row place binding payload work placed here
offered_kept plan Holds kept checked told row place binding ttl false payload work placed here = by (nat_eq ttl 1 && is_picked Expiry (channel_under row work.edge.me binding)) where
  by : (b : Bool) → Holds (cond b (verifies told place row Expiry binding payload work) (enters plan told row place payload work))
  by true = verified_kept plan Holds kept told place row Expiry binding payload work placed here
  by false = enters_kept plan Holds kept checked told row place payload work here

terminated_kept : (plan : Plan) (Holds : Work → Type 0) → AreKept plan Holds → IsChecked plan
    → (told : Answers) (place : EndPlace) (ttl : ℕ) (row : Option WirePlan) (remote : Option Binding) (payload : List ℕ) (work : Work) → IsPlaced plan place → Holds work
    → Holds (terminated plan told place ttl row remote payload work)
terminated_kept plan Holds kept checked told place ttl None remote payload work placed here = kept.dropped causes.Down work here
terminated_kept plan Holds kept checked told place ttl (Some row) None payload work placed here = kept.dropped causes.Down work here
terminated_kept plan Holds kept checked told place ttl (Some row) (Some binding) payload work placed here =
    offered_kept plan Holds kept checked told row place binding ttl (offer_of row work.edge.me.0).cword payload work placed here

-- the mate at a switching point is an edge of the plan
mate_within : (plan : Plan) (path : List EdgeId) (me from : ℕ) (to : EdgeId) → list_all (is_edge_of plan) path ≡ true → mate_on path me from ≡ Some to → to.0 < length plan.edges
mate_within plan [] me from to all is = absurd (cc (is))
mate_within plan (last ∷ []) me from to all is = absurd (cc (is))
mate_within plan (before ∷ last ∷ []) me from to all is = absurd (cc (is))
mate_within plan (before ∷ point ∷ next ∷ rest) me from to all is =
    let tail : list_all (is_edge_of plan) (point ∷ next ∷ rest) ≡ true = second_holds (is_edge_of plan before) (list_all (is_edge_of plan) (point ∷ next ∷ rest)) all in
    let further : list_all (is_edge_of plan) (next ∷ rest) ≡ true = second_holds (is_edge_of plan point) (list_all (is_edge_of plan) (next ∷ rest)) tail in
    by (nat_eq me point.0 && nat_eq from before.0) (nat_eq me point.0 && nat_eq from next.0)
    (below_edges plan next (first_holds (is_edge_of plan next) (list_all (is_edge_of plan) rest) further))
    (below_edges plan before (first_holds (is_edge_of plan before) (list_all (is_edge_of plan) (point ∷ next ∷ rest)) all))
    (λ later. mate_within plan (point ∷ next ∷ rest) me from to tail later) is
  where
    same : (edge : EdgeId) → edge.0 < length plan.edges → Some edge ≡ Some to → to.0 < length plan.edges
    same edge below eq =
        let it : edge ≡ to = cc (eq) in
        subst (λ (e : EdgeId). e.0 < length plan.edges) it below

    by : (a b : Bool) → next.0 < length plan.edges → before.0 < length plan.edges → (mate_on (point ∷ next ∷ rest) me from ≡ Some to → to.0 < length plan.edges)
        → option_or (cond a (Some next) (cond b (Some before) None)) (mate_on (point ∷ next ∷ rest) me from) ≡ Some to → to.0 < length plan.edges
    by true b one two later eq = same next one eq
    by false true one two later eq = same before two eq
    by false false one two later eq = later eq

switched_kept : (plan : Plan) (Holds : Work → Type 0) → AreKept plan Holds → IsChecked plan → (told : Answers) (octets : List ℕ) (entry : StackEntry) (place : EndPlace) (work : Work)
    → Holds work → Holds (switched plan told octets entry place work)
switched_kept plan Holds kept checked told octets entry place work here = by (wire_row plan place.wire) refl where
  under : (to : EdgeId) → IsPlaced plan (towards to place) → (label : Result ℕ SwapDrop) → Holds (switched_under told octets entry place to label work)
  under to placed (Err why) = kept.dropped (dropped_for why) work here
  under to placed (Ok label) = sends_kept plan Holds kept told (towards to place) (arrival.Wire place.wire) (relabelled label (entry.ttl - 1) octets) work placed here

  mated : (row : WirePlan) → wire_row plan place.wire ≡ Some row → (to : Option EdgeId) → mate row work.edge.me.0 place.peer.0 ≡ to → Holds (switched_to told octets entry place to work)
  mated row is None mate_is = here
  mated row is (Some to) mate_is =
      let within : place.wire.0 < length plan.wires = slice_get_within plan.wires place.wire.0 row is in
      let wire : IsWireOf plan row = subst (IsWireOf plan) (get_or_from_slice_get plan.wires place.wire.0 row row is) (All-get_or (IsWireOf plan) plan.wires place.wire.0 row within checked.wires) in
      under to (record { peer = mate_within plan row.path work.edge.me.0 place.peer.0 to wire.edges mate_is; wire = within }) (label_onward (work.edge.ends place.wire.0 to.0).remote entry.ttl)

  by : (row : Option WirePlan) → wire_row plan place.wire ≡ row → Holds (switched_by told octets entry place row work)
  by None is = here
  by (Some row) is = mated row is (mate row work.edge.me.0 place.peer.0) refl

owned_kept : (plan : Plan) (Holds : Work → Type 0) → AreKept plan Holds → IsChecked plan → (told : Answers) (octets : List ℕ) (entry : StackEntry) (end : Option EndPlace) (work : Work)
    → ((place : EndPlace) → end ≡ Some place → IsPlaced plan place) → Holds work
    → Holds (owned plan told octets entry end work)
owned_kept plan Holds kept checked told octets entry None work placed here = kept.dropped causes.NoLabel work here
owned_kept plan Holds kept checked told octets entry (Some place) work placed here = by place.terminal where
  by : (b : Bool) → Holds (cond b (terminated plan told place entry.ttl (wire_row plan place.wire) (end_at work.edge place).remote (behind_entry octets) work)
      (switched plan told octets entry place work))
  by true = terminated_kept plan Holds kept checked told place entry.ttl (wire_row plan place.wire) (end_at work.edge place).remote (behind_entry octets) work (placed place refl) here
  by false = switched_kept plan Holds kept checked told octets entry place work here

-- the end that advertises a label is one of the plan
advertiser_placed : (plan : Plan) (edge : EdgeState) (label : ℕ) → IsChecked plan → (place : EndPlace) → advertiser plan edge label ≡ Some place → IsPlaced plan place
advertiser_placed plan edge label checked place =
    found_among (IsPlaced plan) (λ (p : EndPlace). advertises_label label (end_at edge p).local) (end_places plan edge.me) place (places_placed plan edge.me checked)

labelled_kept : (plan : Plan) (Holds : Work → Type 0) → AreKept plan Holds → IsChecked plan → (told : Answers) (octets : List ℕ) (entry : StackEntry) (work : Work) → Holds work
    → Holds (labelled plan told octets entry work)
labelled_kept plan Holds kept checked told octets entry work here = by (nat_lt entry.label least_label) where
  bottom : (b : Bool) → Holds (cond b (owned plan told octets entry (advertiser plan work.edge entry.label) work) (drops causes.NotBottom work))
  bottom true = owned_kept plan Holds kept checked told octets entry (advertiser plan work.edge entry.label) work (advertiser_placed plan work.edge entry.label checked) here
  bottom false = kept.dropped causes.NotBottom work here

  by : (b : Bool) → Holds (cond b (drops causes.NoLabel work) (cond entry.bottom (owned plan told octets entry (advertiser plan work.edge entry.label) work) (drops causes.NotBottom work)))
  by true = kept.dropped causes.NoLabel work here
  by false = bottom entry.bottom

alert_end_kept : (plan : Plan) (Holds : Work → Type 0) → AreKept plan Holds
    → (told : Answers) (place : EndPlace) (row : Option WirePlan) (remote : Option Binding) (payload : List ℕ) (work : Work) → IsPlaced plan place → Holds work
    → Holds (alerts_by told place row remote payload work)
alert_end_kept plan Holds kept told place None remote payload work placed here = kept.dropped causes.NotOffered work here
alert_end_kept plan Holds kept told place (Some row) None payload work placed here = kept.dropped causes.NotOffered work here
alert_end_kept plan Holds kept told place (Some row) (Some binding) payload work placed here = verified_in_kept plan Holds kept told place row Alert binding payload work placed here

alerted_kept : (plan : Plan) (Holds : Work → Type 0) → AreKept plan Holds → IsChecked plan → (told : Answers) (octets : List ℕ) (read : Result StackEntry DropCause) (work : Work)
    → Holds work → Holds (alerted plan told octets read work)
alerted_kept plan Holds kept checked told octets (Err why) work here = kept.dropped why work here
alerted_kept plan Holds kept checked told octets (Ok entry) work here = by entry.bottom where
  terminal : (place : EndPlace) → IsPlaced plan place → (b : Bool)
      → Holds (cond b (alerts_by told place (wire_row plan place.wire) (end_at work.edge place).remote (behind_entry octets) work) (drops causes.NoLabel work))
  terminal place placed true = alert_end_kept plan Holds kept told place (wire_row plan place.wire) (end_at work.edge place).remote (behind_entry octets) work placed here
  terminal place placed false = kept.dropped causes.NoLabel work here

  ends_at : (end : Option EndPlace) → ((place : EndPlace) → end ≡ Some place → IsPlaced plan place) → Holds (alerts_end plan told (behind_entry octets) end work)
  ends_at None placed = kept.dropped causes.NoLabel work here
  ends_at (Some place) placed = terminal place (placed place refl) place.terminal

  by : (b : Bool) → Holds (cond b (alerts_end plan told (behind_entry octets) (advertiser plan work.edge entry.label) work) (drops causes.NotBottom work))
  by true = ends_at (advertiser plan work.edge entry.label) (advertiser_placed plan work.edge entry.label checked)
  by false = kept.dropped causes.NotBottom work here

packet_kept : (plan : Plan) (Holds : Work → Type 0) → AreKept plan Holds → IsChecked plan → (told : Answers) (octets : List ℕ) (work : Work) → Holds work → Holds (packet_input plan told octets work)
packet_kept plan Holds kept checked told octets work here = to (entry_of octets) where
  by : (entry : StackEntry) (b : Bool) → Holds (cond b (alerted plan told (behind_entry octets) (entry_of (behind_entry octets)) work) (labelled plan told octets entry work))
  by entry true = alerted_kept plan Holds kept checked told (behind_entry octets) (entry_of (behind_entry octets)) work here
  by entry false = labelled_kept plan Holds kept checked told octets entry work here

  to : (read : Result StackEntry DropCause) → Holds (opened_by plan told octets read work)
  to (Err why) = kept.dropped why work here
  to (Ok entry) = by entry (is_alert entry)

-- ---- a ping

asked_kept : (plan : Plan) (Holds : Work → Type 0) → AreKept plan Holds
    → (told : Answers) (place : EndPlace) (row : WirePlan) (kind : Cc) (binding : Binding) (from to : Option Addr) (work : Work) → IsPlaced plan place → Holds work
    → Holds (asks told place row kind binding from to work)
asked_kept plan Holds kept told place row kind binding (Some from) (Some to) work placed here =
    sends_kept plan Holds kept told place arrival.Own (channel_octets kind binding (request_packet (ping_between row from to (work.edge.next_ping place.wire.0))))
    (changes (pinging place.wire) work) placed
    (kept.changed (pinging place.wire) work here)
asked_kept plan Holds kept told place row kind binding (Some from) None work placed here = kept.idle work here
asked_kept plan Holds kept told place row kind binding None to work placed here = kept.idle work here

ping_kept : (plan : Plan) (Holds : Work → Type 0) → AreKept plan Holds → IsChecked plan → (told : Answers) (wire : WireId) (work : Work) → Holds work → Holds (ping_input plan told wire work)
ping_kept plan Holds kept checked told wire work here = to (wire_end plan work.edge.me wire) (λ place. found_among (IsPlaced plan) (is_end_of_wire wire) (end_places plan work.edge.me) place (places_placed plan work.edge.me checked)) where
  picked : (place : EndPlace) → IsPlaced plan place → (row : WirePlan) (binding : Binding) (kind : Option Cc) → Holds (pings_in plan told place row binding kind work)
  picked place placed row binding None = kept.idle work here
  picked place placed row binding (Some kind) = asked_kept plan Holds kept told place row kind binding (edge_address plan work.edge.me) (far_address plan work.edge.me row) work placed here

  bound : (place : EndPlace) → IsPlaced plan place → (row : WirePlan) (remote : Option Binding) → Holds (pings_under plan told place row remote work)
  bound place placed row None = kept.idle work here
  bound place placed row (Some binding) = picked place placed row binding (channel_under row work.edge.me binding)

  told_at : (place : EndPlace) → IsPlaced plan place → (row : WirePlan) (b : Bool) → Holds (cond b (pings_under plan told place row (end_at work.edge place).remote work) (idles work))
  told_at place placed row true = bound place placed row (end_at work.edge place).remote
  told_at place placed row false = kept.idle work here

  of_wire : (place : EndPlace) → IsPlaced plan place → (row : Option WirePlan) → Holds (pings_at plan told place row work)
  of_wire place placed None = kept.idle work here
  of_wire place placed (Some row) = told_at place placed row (has_told (end_at work.edge place).local)

  to : (end : Option EndPlace) → ((place : EndPlace) → end ≡ Some place → IsPlaced plan place) → Holds (pings_by plan told end work)
  to None placed = kept.idle work here
  to (Some place) placed = of_wire place (placed place refl) (wire_row plan place.wire)

-- ---- sessions

octets_kept : (plan : Plan) (Holds : Work → Type 0) → AreKept plan Holds → (peer : EdgeId) → peer.0 < length plan.edges → (bytes : List ℕ) (taken : Bool) (work : Work) → Holds work
    → Holds (put_octets peer bytes taken work).work
octets_kept plan Holds kept peer within bytes true work here = kept.said peer bytes (with_spoken peer) work within here
octets_kept plan Holds kept peer within bytes false work here = kept.refused peer bytes work here

reply_kept : (plan : Plan) (Holds : Work → Type 0) → AreKept plan Holds → (told : Answers) (peer : EdgeId) → peer.0 < length plan.edges → (reply : Reply) (work : Work) → Holds work
    → Holds (put_reply told peer reply work).work
reply_kept plan Holds kept told peer within reply work here = to (work.edge.peering peer.0) where
  to : (x : Option Peering) → Holds (put_reply_to told peer reply x work).work
  to None = here
  to (Some p) = octets_kept plan Holds kept peer within (octets_of p reply) (next_answer told work) work here

replies_kept : (plan : Plan) (Holds : Work → Type 0) → AreKept plan Holds → (told : Answers) (peer : EdgeId) → peer.0 < length plan.edges → (replies : List Reply) (work : Work)
    → Holds work → Holds (put_replies told peer replies work).work
replies_kept plan Holds kept told peer within [] work here = here
replies_kept plan Holds kept told peer within (reply ∷ replies) work here =
    on (λ w h. replies_kept plan Holds kept told peer within replies w h) (put_reply told peer reply work).failed (put_reply told peer reply work).work
    (reply_kept plan Holds kept told peer within reply work here)
  where
    on : ((w : Work) → Holds w → Holds (put_replies told peer replies w).work) → (failed : Bool) (w : Work) → Holds w → Holds (puts_on (put_replies told peer replies) failed w).work
    on rest true w h = h
    on rest false w h = rest w h

ends_kept : (plan : Plan) (Holds : Work → Type 0) → AreKept plan Holds → (peer : EdgeId) → peer.0 < length plan.edges → (why : Reason) (work : Work) → Holds work → Holds (ends peer why work)
ends_kept plan Holds kept peer within why work here =
    kept.gone peer (gives (Session peer (name.Ended why)) (changes (with_peering peer None) work)) within
    (kept.session peer (name.Ended why) (changes (with_peering peer None) work) within (kept.changed (with_peering peer None) work here))

went_kept : (plan : Plan) (Holds : Work → Type 0) → AreKept plan Holds → (peer : EdgeId) → peer.0 < length plan.edges → (old new : Phase) (put : Spoken) → Holds put.work
    → Holds (went_on peer old new put)
went_kept plan Holds kept peer within old new put here = by put.failed where
  tells : (b : Bool) → Holds (cond b put.work (gives (Session peer (phase_name new)) put.work))
  tells true = here
  tells false = kept.session peer (phase_name new) put.work within here

  by : (b : Bool) → Holds (cond b (ends peer reason.LinkFault put.work) (tells_change peer old new put.work))
  by true = ends_kept plan Holds kept peer within reason.LinkFault put.work here
  by false = tells (is_same_phase old new)

had_kept : (plan : Plan) (Holds : Work → Type 0) → AreKept plan Holds → (peer : EdgeId) → peer.0 < length plan.edges → (put : Spoken) → Holds put.work → Holds (had_put peer put)
had_kept plan Holds kept peer within put here = by put.failed where
  by : (b : Bool) → Holds (cond b (ends peer reason.LinkFault put.work) put.work)
  by true = ends_kept plan Holds kept peer within reason.LinkFault put.work here
  by false = here

happens_kept : (plan : Plan) (Holds : Work → Type 0) → AreKept plan Holds → (told : Answers) (peer : EdgeId) → peer.0 < length plan.edges → (event : SessionEvent) (work : Work)
    → Holds work → Holds (happens told peer event work)
happens_kept plan Holds kept told peer within event work here = to (work.edge.peering peer.0) where
  comes : (p : Peering) (outcome : Outcome) → Holds (comes_of told peer p outcome work)
  comes p Stay = here
  comes p (Goes next replies) =
      went_kept plan Holds kept peer within p.session.phase next.phase (put_replies told peer replies (changes (with_peering peer (Some (with_session next p))) work))
      (replies_kept plan Holds kept told peer within replies (changes (with_peering peer (Some (with_session next p))) work) (kept.changed (with_peering peer (Some (with_session next p))) work here))
  comes p (Ends why replies) = ends_kept plan Holds kept peer within why (put_replies told peer replies work).work (replies_kept plan Holds kept told peer within replies work here)

  to : (x : Option Peering) → Holds (happens_to told peer event x work)
  to None = here
  to (Some p) = comes p (outcome_of p.session event)

-- ---- ends, and messages apart from the events

clears_kept : (plan : Plan) (Holds : Work → Type 0) → AreKept plan Holds → (peer : EdgeId) (work : Work) → Holds work → Holds (clears_ends peer work)
clears_kept plan Holds kept peer work here = by (has_end work.edge peer) where
  by : (b : Bool) → Holds (cond b work (changes (losing_ends peer) work))
  by true = here
  by false = kept.changed (losing_ends peer) work here

with_ends_kept : (plan : Plan) (Holds : Work → Type 0) → AreKept plan Holds → (told : Answers) (peer : EdgeId) → peer.0 < length plan.edges → (event : SessionEvent) (work : Work)
    → Holds work → Holds (happens_with_ends told peer event work)
with_ends_kept plan Holds kept told peer within event work here = clears_kept plan Holds kept peer (happens told peer event work) (happens_kept plan Holds kept told peer within event work here)

had_said_kept : (plan : Plan) (Holds : Work → Type 0) → AreKept plan Holds → (peer : EdgeId) → peer.0 < length plan.edges → (put : Spoken) → Holds put.work → Holds (had_said peer put).work
had_said_kept plan Holds kept peer within put here = clears_kept plan Holds kept peer (had_put peer put) (had_kept plan Holds kept peer within put here)

says_kept : (plan : Plan) (Holds : Work → Type 0) → AreKept plan Holds → (told : Answers) (peer : EdgeId) → peer.0 < length plan.edges → (message : ℕ → Message) (work : Work)
    → Holds work → Holds (says told peer message work).work
says_kept plan Holds kept told peer within message work here = to (work.edge.peering peer.0) where
  to : (x : Option Peering) → Holds (says_to told peer message x work).work
  to None = here
  to (Some p) =
      had_said_kept plan Holds kept peer within (put_octets peer (message_octets_of p message) (next_answer told work) work)
      (octets_kept plan Holds kept peer within (message_octets_of p message) (next_answer told work) work here)

advised_kept : (plan : Plan) (Holds : Work → Type 0) → AreKept plan Holds → (told : Answers) (peer : EdgeId) → peer.0 < length plan.edges → (advice : Option Reply) (work : Work)
    → Holds work → Holds (advises told peer advice work)
advised_kept plan Holds kept told peer within None work here = here
advised_kept plan Holds kept told peer within (Some reply) work here =
    had_said_kept plan Holds kept peer within (put_reply told peer reply work) (reply_kept plan Holds kept told peer within reply work here)

-- ---- an edge mends

end_kept : (plan : Plan) (Holds : Work → Type 0) → AreKept plan Holds → (told : Answers) (place : EndPlace) → IsPlaced plan place → (work : Work) → Holds work
    → Holds (mends_end plan told place work).work
end_kept plan Holds kept told place placed work here = to (end_at work.edge place).local where
  wished : (w : Option Told) → Holds (advertises_wish told place w work).work
  wished None = here
  wished (Some content) = by (label_to_give work.edge) where
    by : (label : Option ℕ) → Holds (advertises_under told place content label work).work
    by None = here
    by (Some label) =
        says_kept plan Holds kept told place.peer placed.peer (mapping place.pw_id label content) (changes (advertising place label content) work)
        (kept.changed (advertising place label content) work here)

  unless : (label : ℕ) (content : Told) (w : Option Told) → Holds (withdraws_unless told place label content w work).work
  unless label content w = by (offer_stands place content w) where
    by : (b : Bool) → Holds (cond b (stays work) (withdraws told place label content work)).work
    by true = here
    by false = says_kept plan Holds kept told place.peer placed.peer (withdrawal place.pw_id label content) (changes (withdrawing place) work) (kept.changed (withdrawing place) work here)

  idle : (b : Bool) → Holds (cond b (stays work) (advertises_wish told place (wish plan work.edge place) work)).work
  idle true = here
  idle false = wished (wish plan work.edge place)

  to : (local : LocalPart) → Holds (mends_local plan told place local work).work
  to (Idle declined) = idle declined
  to (Advertised label content) = unless label content (wish plan work.edge place)
  to (Withdrawing label) = here

status_kept : (plan : Plan) (Holds : Work → Type 0) → AreKept plan Holds → (told : Answers) (place : EndPlace) → IsPlaced plan place → (work : Work) → Holds work
    → Holds (mends_status plan told place work).work
status_kept plan Holds kept told place placed work here = to (end_at work.edge place).local where
  over : (content : Told) (status : PwStatus) (last : Option PwStatus) → Holds (tells_over told place content status last work).work
  over content status None = here
  over content status (Some last) = by (nat_eq last.0 status.0) where
    by : (b : Bool) → Holds (cond b (stays work) (tells_new_status told place content status work)).work
    by true = here
    by false = says_kept plan Holds kept told place.peer placed.peer (status_notification place.pw_id status content) (changes (telling_status place status) work)
        (kept.changed (telling_status place status) work here)

  to : (local : LocalPart) → Holds (mends_status_of plan told place local work).work
  to (Idle declined) = here
  to (Advertised label content) = over content (status_to_tell plan work.edge place) content.status
  to (Withdrawing label) = here

piece_kept : (plan : Plan) (Holds : Work → Type 0) → AreKept plan Holds → (told : Answers) (place : EndPlace) → IsPlaced plan place → (addresses : List Mac) (work : Work) → Holds work
    → Holds (tells_piece told place addresses work).work
piece_kept plan Holds kept told place placed addresses work here = to (end_at work.edge place).local where
  to : (local : LocalPart) → Holds (tells_piece_by told place addresses local work).work
  to (Idle declined) = here
  to (Advertised label content) = says_kept plan Holds kept told place.peer placed.peer (mac_withdrawal place.pw_id addresses content) work here
  to (Withdrawing label) = here

choice_kept : (plan : Plan) (Holds : Work → Type 0) → AreKept plan Holds → (told : Answers) (before : ℕ → Option WireId) (place : EndPlace) → IsPlaced plan place → (work : Work)
    → Holds work → Holds (mends_choice plan told before place work).work
choice_kept plan Holds kept told before place placed work here = by (is_new_choice before work.edge.chosen place.wire (wire_row plan place.wire)) where
  by : (b : Bool) → Holds (cond b (tells_piece told place [] work) (stays work)).work
  by true = piece_kept plan Holds kept told place placed [] work here
  by false = here

each_kept : (plan : Plan) (Holds : Work → Type 0) (mend : EndPlace → Work → Spoken) → ((place : EndPlace) → IsPlaced plan place → (work : Work) → Holds work → Holds (mend place work).work)
    → (places : List EndPlace) → AllByRecursion (IsPlaced plan) places → (m : Spoken) → Holds m.work → Holds (each_end mend places m).work
each_kept plan Holds mend one [] placed m here = here
each_kept plan Holds mend one (place ∷ places) placed m here = each_kept plan Holds mend one places placed.1 (and_says m (mend place)) (one place placed.0 m.work here)

downs_kept : (plan : Plan) (Holds : Work → Type 0) → AreKept plan Holds → (places : List EndPlace) → AllByRecursion (IsPlaced plan) places → (work : Work) → Holds work
    → Holds (tells_downs plan places work)
downs_kept plan Holds kept [] placed work here = here
downs_kept plan Holds kept (place ∷ places) placed work here = downs_kept plan Holds kept places placed.1 (cond place.terminal (tells_down place (down_at plan work.edge place) work) work) (by place.terminal) where
  told_one : (b : Bool) → Holds (cond b work (gives (Wire place.wire (down_at plan work.edge place)) (changes (with_told_down place.wire (down_at plan work.edge place)) work)))
  told_one true = here
  told_one false = kept.wire place.wire (down_at plan work.edge place) (changes (with_told_down place.wire (down_at plan work.edge place)) work) placed.0.wire
      (kept.changed (with_told_down place.wire (down_at plan work.edge place)) work here)

  by : (b : Bool) → Holds (cond b (tells_down place (down_at plan work.edge place) work) work)
  by true = told_one (nat_eq (cause_number (work.edge.told_down place.wire.0)) (cause_number (down_at plan work.edge place)))
  by false = here

forgets_kept : (plan : Plan) (Holds : Work → Type 0) → AreKept plan Holds → (places : List EndPlace) (work : Work) → Holds work → Holds (forgets_downs plan places work)
forgets_kept plan Holds kept [] work here = here
forgets_kept plan Holds kept (place ∷ places) work here = forgets_kept plan Holds kept places (cond place.terminal (forgets_down plan place (down_at plan work.edge place) work) work) (by place.terminal) where
  forgot : (down : Option Down) → Holds (forgets_down plan place down work)
  forgot None = here
  forgot (Some why) = kept.changed (forgetting_wire plan place.wire (wire_row plan place.wire)) work here

  by : (b : Bool) → Holds (cond b (forgets_down plan place (down_at plan work.edge place) work) work)
  by true = forgot (down_at plan work.edge place)
  by false = here

once_kept : (plan : Plan) (Holds : Work → Type 0) → AreKept plan Holds → IsChecked plan → (told : Answers) (work : Work) → Holds work → Holds (mends_once plan told work).work
once_kept plan Holds kept checked told work here =
    let placed : AllByRecursion (IsPlaced plan) (end_places plan work.edge.me) = places_placed plan work.edge.me checked in
    let ends : Spoken = each_end (mends_end plan told) (end_places plan work.edge.me) (stays work) in
    let chosen : Spoken = then_changes (choosing plan) ends in
    let statuses : Spoken = each_end (mends_status plan told) (end_places plan work.edge.me) chosen in
    let moved : Spoken = each_end (mends_choice plan told work.edge.chosen) (end_places plan work.edge.me) statuses in
    downs_kept plan Holds kept (end_places plan work.edge.me) placed (forgets_downs plan (end_places plan work.edge.me) moved.work)
    (forgets_kept plan Holds kept (end_places plan work.edge.me) moved.work
    (each_kept plan Holds (mends_choice plan told work.edge.chosen) (λ place here w h. choice_kept plan Holds kept told work.edge.chosen place here w h) (end_places plan work.edge.me) placed statuses
    (each_kept plan Holds (mends_status plan told) (λ place here w h. status_kept plan Holds kept told place here w h) (end_places plan work.edge.me) placed chosen
    (kept.changed (choosing plan) ends.work
    (each_kept plan Holds (mends_end plan told) (λ place here w h. end_kept plan Holds kept told place here w h) (end_places plan work.edge.me) placed (stays work) here)))))

rounds_kept : (plan : Plan) (Holds : Work → Type 0) → AreKept plan Holds → IsChecked plan → (told : Answers) (n : ℕ) (work : Work) → Holds work → Holds (mends_few plan told n work)
rounds_kept plan Holds kept checked told zero work here = here
rounds_kept plan Holds kept checked told (suc n) work here =
    again (λ w h. rounds_kept plan Holds kept checked told n w h) (mends_once plan told work).failed (mends_once plan told work).work (once_kept plan Holds kept checked told work here)
  where
    again : ((w : Work) → Holds w → Holds (mends_few plan told n w)) → (failed : Bool) (w : Work) → Holds w → Holds (cond failed (mends_few plan told n w) w)
    again on true w h = on w h
    again on false w h = h

mends_kept : (plan : Plan) (Holds : Work → Type 0) → AreKept plan Holds → IsChecked plan → (told : Answers) (work : Work) → Holds work → Holds (mends plan told work)
mends_kept plan Holds kept checked told work here = rounds_kept plan Holds kept checked told (suc (length plan.edges)) work here

-- ---- a MAC withdraw

pieces_kept : (plan : Plan) (Holds : Work → Type 0) → AreKept plan Holds → (told : Answers) (place : EndPlace) → IsPlaced plan place → (pieces : List (List Mac)) (work : Work)
    → Holds work → Holds (tells_pieces told place pieces work)
pieces_kept plan Holds kept told place placed [] work here = here
pieces_kept plan Holds kept told place placed (piece ∷ pieces) work here =
    pieces_kept plan Holds kept told place placed pieces (tells_piece told place piece work).work (piece_kept plan Holds kept told place placed piece work here)

told_by_kept : (plan : Plan) (Holds : Work → Type 0) → AreKept plan Holds → (told : Answers) (addresses : List Mac) (end : Option EndPlace) (work : Work)
    → ((place : EndPlace) → end ≡ Some place → IsPlaced plan place) → Holds work
    → Holds (tells_by told addresses end work)
told_by_kept plan Holds kept told addresses None work placed here = here
told_by_kept plan Holds kept told addresses (Some place) work placed here = pieces_kept plan Holds kept told place (placed place refl) (pieces_of addresses) work here

told_at_kept : (plan : Plan) (Holds : Work → Type 0) → AreKept plan Holds → IsChecked plan → (told : Answers) (addresses : List Mac) (x : Port) (b : Bool) (work : Work) → Holds work
    → Holds (cond b (tells_at plan told addresses x work) work)
told_at_kept plan Holds kept checked told addresses x false work here = here
told_at_kept plan Holds kept checked told addresses (port.Circuit c) true work here = here
told_at_kept plan Holds kept checked told addresses (port.Mesh wire) true work here =
    told_by_kept plan Holds kept told addresses (wire_end plan work.edge.me wire) work
    (λ place. found_among (IsPlaced plan) (is_end_of_wire wire) (end_places plan work.edge.me) place (places_placed plan work.edge.me checked)) here
told_at_kept plan Holds kept checked told addresses (port.Spoke wire) true work here =
    told_by_kept plan Holds kept told addresses (wire_end plan work.edge.me wire) work
    (λ place. found_among (IsPlaced plan) (is_end_of_wire wire) (end_places plan work.edge.me) place (places_placed plan work.edge.me checked)) here

passed_kept : (plan : Plan) (Holds : Work → Type 0) → AreKept plan Holds → IsChecked plan
    → (told : Answers) (addresses : List Mac) (passed : ℕ → Bool) (p : ℕ) (ports : List Port) (work : Work) → Holds work
    → Holds (copies passed (tells_at plan told addresses) p ports work)
passed_kept plan Holds kept checked told addresses passed p [] work here = here
passed_kept plan Holds kept checked told addresses passed p (x ∷ ports) work here =
    passed_kept plan Holds kept checked told addresses passed (p + 1) ports (cond (passed p) (tells_at plan told addresses x work) work)
    (told_at_kept plan Holds kept checked told addresses x (passed p) work here)

beyond_placed : (plan : Plan) (me : EdgeId) (wire : WireId) (mate : Option EdgeId) → IsChecked plan → (place : EndPlace) → end_beside plan me wire mate ≡ Some place → IsPlaced plan place
beyond_placed plan me wire None checked place found = absurd (cc (found))
beyond_placed plan me wire (Some peer) checked place found = found_among (IsPlaced plan) (is_at wire.0 peer.0) (end_places plan me) place (places_placed plan me checked) found

withdraw_kept : (plan : Plan) (Holds : Work → Type 0) → AreKept plan Holds → IsChecked plan
    → (told : Answers) (peer : EdgeId) (fec : Option PwFec) (macs : Option (List Mac)) (work : Work) → Holds work → Holds (hears_mac_withdraw plan told peer fec macs work)
withdraw_kept plan Holds kept checked told peer None macs work here = here
withdraw_kept plan Holds kept checked told peer (Some fec) None work here = here
withdraw_kept plan Holds kept checked told peer (Some fec) (Some addresses) work here = named (end_of_fec plan work.edge peer fec) where
  on : (service : ServiceId) (from : ℕ) (role : Option Role) (w : Work) → Holds w → Holds (passes_on plan told addresses service from role w)
  on service from None w h = h
  on service from (Some role) w h = passed_kept plan Holds kept checked told addresses (is_passed_to role (ports_of plan service w.edge.me) from) 0 (ports_of plan service w.edge.me) w h

  at : (service : ServiceId) (found : Option ℕ) → Holds (clears_at plan told addresses service found work)
  at service None = here
  at service (Some from) = on service from (roles.role_of plan service work.edge.me) (changes (withdrawing_at service addresses from) work)
      (kept.changed (withdrawing_at service addresses from) work here)

  wire : (place : EndPlace) (row : Option WirePlan) → Holds (clears_wire plan told addresses place row work)
  wire place None = here
  wire place (Some row) = at row.service (port_of_wire plan work.edge place.wire row)

  by : (place : EndPlace) (b : Bool) → Holds (cond b (clears_wire plan told addresses place (wire_row plan place.wire) work) (tells_by told addresses (end_beyond plan work.edge.me place) work))
  by place true = wire place (wire_row plan place.wire)
  by place false =
      told_by_kept plan Holds kept told addresses (end_beyond plan work.edge.me place) work
      (beyond_placed plan work.edge.me place.wire (mate_of work.edge.me place (wire_row plan place.wire)) checked) here

  named : (end : Option EndPlace) → Holds (clears_by plan told addresses end work)
  named None = here
  named (Some place) = by place place.terminal

-- ---- what is heard

acted_kept : (plan : Plan) (Holds : Work → Type 0) → AreKept plan Holds → IsChecked plan → (told : Answers) (peer : EdgeId) → peer.0 < length plan.edges
    → (message : Message) (work : Work) → Holds work → Holds (acts_on plan told peer message work)
acted_kept plan Holds kept checked told peer within m work here = to m where
  maps : (fec : PwFec) (binding : Binding) (x : Option EndPlace) → Holds (maps_to plan told peer fec binding x work)
  maps fec binding None = says_kept plan Holds kept told peer within (release fec (Some binding.label)) work here
  maps fec binding (Some place) = by (takes_content plan work.edge.me place binding.told) where
    by : (b : Bool) → Holds (cond b (changes (with_end_changed (bound binding) (Some place)) work)
        (releases_label told peer fec (Some binding.label) (changes (with_end_changed (unbound None) (Some place)) work)))
    by true = kept.changed (with_end_changed (bound binding) (Some place)) work here
    by false =
        says_kept plan Holds kept told peer within (release fec (Some binding.label)) (changes (with_end_changed (unbound None) (Some place)) work)
        (kept.changed (with_end_changed (unbound None) (Some place)) work here)

  states : (code : StatusCode) (status : Option PwStatus) (fec : Option PwFec) → Holds (hears_status plan peer code status fec work)
  states code None fec = here
  states code (Some status) None = here
  states code (Some status) (Some fec) = by (nat_eq code.code pw_status_code) where
    by : (b : Bool) → Holds (cond b (changes (with_named plan peer fec (stated status) (group_stated fec.group status) fec.pw_id) work) work)
    by true = kept.changed (with_named plan peer fec (stated status) (group_stated fec.group status) fec.pw_id) work here
    by false = here

  advised : (advice : Option Reply) → Holds (advises told peer advice work)
  advised advice = advised_kept plan Holds kept told peer within advice work here

  to : (m : Message) → Holds (acts_on plan told peer m work)
  to (message.LabelMapping id fec label status points) = maps fec (binding_in fec label status points) (end_of_fec plan work.edge peer fec)
  to (message.LabelWithdraw id fec label) =
      says_kept plan Holds kept told peer within (release fec label) (changes (with_named plan peer fec (unbound label) (group_unbound fec.group) fec.pw_id) work)
      (kept.changed (with_named plan peer fec (unbound label) (group_unbound fec.group) fec.pw_id) work here)
  to (message.LabelRelease id fec label) = kept.changed (λ edge. with_released label (end_of_fec plan edge peer fec) edge) work here
  to (message.Notification id code status fec) = states code status fec
  to (message.Hello id hold targeted request transport) = advised (advice_of (message.Hello id hold targeted request transport))
  to (message.Initialization id params) = advised (advice_of (message.Initialization id params))
  to (message.KeepAlive id) = advised (advice_of (message.KeepAlive id))
  to (message.Address id family octets) = advised (advice_of (message.Address id family octets))
  to (message.AddressWithdraw id addresses pw macs) = withdraw_kept plan Holds kept checked told peer pw macs work here
  to (message.LabelRequest id pw) = advised (advice_of (message.LabelRequest id pw))
  to (message.LabelAbort id pw request) = advised (advice_of (message.LabelAbort id pw request))
  to (message.Other id u number) = advised (advice_of (message.Other id u number))
  to (message.Unprocessed id number why) = advised (advice_of (message.Unprocessed id number why))

message_kept : (plan : Plan) (Holds : Work → Type 0) → AreKept plan Holds → IsChecked plan → (told : Answers) (peer : EdgeId) → peer.0 < length plan.edges
    → (message : Message) (work : Work) → Holds work → Holds (hears_message plan told peer message work)
message_kept plan Holds kept checked told peer within m work here = heard (has_end work.edge peer) where
  mid : Work
  mid = happens_with_ends told peer (Received m) work

  after : Holds mid
  after = with_ends_kept plan Holds kept told peer within (Received m) work here

  still : (b : Bool) → Holds (cond b (acts_on plan told peer m mid) mid)
  still true = acted_kept plan Holds kept checked told peer within m mid after
  still false = after

  up : (b : Bool) → Holds (acts plan told peer m b mid)
  up false = after
  up true = still (has_end mid.edge peer)

  heard : (b : Bool) → Holds (cond b (mends plan told (hears_one plan told peer m work)) work)
  heard true = mends_kept plan Holds kept checked told (hears_one plan told peer m work) (up (was_up (work.edge.peering peer.0)))
  heard false = here

messages_kept : (plan : Plan) (Holds : Work → Type 0) → AreKept plan Holds → IsChecked plan → (told : Answers) (peer : EdgeId) → peer.0 < length plan.edges
    → (messages : List Message) (work : Work) → Holds work → Holds (hears_messages plan told peer messages work)
messages_kept plan Holds kept checked told peer within [] work here = here
messages_kept plan Holds kept checked told peer within (m ∷ messages) work here =
    messages_kept plan Holds kept checked told peer within messages (hears_message plan told peer m work) (message_kept plan Holds kept checked told peer within m work here)

few_kept : (plan : Plan) (Holds : Work → Type 0) → AreKept plan Holds → IsChecked plan → (told : Answers) (peer : EdgeId) → peer.0 < length plan.edges
    → (n : ℕ) (octets : List ℕ) (work : Work) → Holds work → Holds (hears_few plan told peer n octets work)
few_kept plan Holds kept checked told peer within zero octets work here = held (work.edge.peering peer.0) where
  held : (x : Option Peering) → Holds (holds peer octets x work)
  held None = here
  held (Some p) = kept.changed (with_peering peer (Some (record p { held = octets }))) work here
few_kept plan Holds kept checked told peer within (suc n) octets work here = to (λ rest w h. few_kept plan Holds kept checked told peer within n rest w h) (work.edge.peering peer.0) where
  front : ((rest : List ℕ) (w : Work) → Holds w → Holds (hears_few plan told peer n rest w)) → (p : Peering) (f : Front)
      → Holds (hears_front plan told peer (hears_few plan told peer n) p octets f work)
  front on p More = kept.changed (with_peering peer (Some (record p { held = octets }))) work here
  front on p (Got pdu rest) =
      on rest (hears_pdu plan told peer pdu work)
      (messages_kept plan Holds kept checked told peer within pdu.messages (happens_with_ends told peer (Heard pdu.id) work) (with_ends_kept plan Holds kept told peer within (Heard pdu.id) work here))
  front on p (Bad fault) = with_ends_kept plan Holds kept told peer within (Refused (refusal_of fault)) work here

  to : ((rest : List ℕ) (w : Work) → Holds w → Holds (hears_few plan told peer n rest w)) → (x : Option Peering) → Holds (hears_within plan told peer (hears_few plan told peer n) octets x work)
  to on None = here
  to on (Some p) = front on p (front_of p.session.max_pdu octets)

-- ---- inputs

-- the edge has an end of a connection only with edges of the plan
pub record HasPeers (plan : Plan) (edge : EdgeState) : Type 0 where
  pub each : (peer : EdgeId) → has_end edge peer ≡ true → peer.0 < length plan.edges

heard_kept : (plan : Plan) (Holds : Work → Type 0) → AreKept plan Holds → IsChecked plan → (told : Answers) (peer : EdgeId) (octets : List ℕ) (work : Work) → HasPeers plan work.edge
    → Holds work → Holds (octets_input plan told peer octets (work.edge.peering peer.0) work)
heard_kept plan Holds kept checked told peer octets work peers here = to (work.edge.peering peer.0) refl where
  to : (x : Option Peering) → work.edge.peering peer.0 ≡ x → Holds (octets_input plan told peer octets x work)
  to None is = kept.idle work here
  to (Some p) is =
      mends_kept plan Holds kept checked told (hears_on plan told peer octets (Some p) work)
      (few_kept plan Holds kept checked told peer (peers.each peer (ap is_there is)) (suc (length (p.held ++ octets))) (p.held ++ octets) work here)

lost_kept : (plan : Plan) (Holds : Work → Type 0) → AreKept plan Holds → IsChecked plan → (told : Answers) (peer : EdgeId) (work : Work) → HasPeers plan work.edge → Holds work
    → Holds (lost_input plan told peer work)
lost_kept plan Holds kept checked told peer work peers here = by (has_end work.edge peer) refl where
  by : (b : Bool) → has_end work.edge peer ≡ b → Holds (cond b (mends plan told (happens_with_ends told peer (table.Closed reason.Closed) work)) (idles work))
  by true is = mends_kept plan Holds kept checked told (happens_with_ends told peer (table.Closed reason.Closed) work)
      (with_ends_kept plan Holds kept told peer (peers.each peer is) (table.Closed reason.Closed) work here)
  by false is = kept.idle work here

connected_kept : (plan : Plan) (Holds : Work → Type 0) → AreKept plan Holds → IsChecked plan → (told : Answers) (peer : EdgeId) (work : Work) → Holds work → Holds (connected_input plan told peer work)
connected_kept plan Holds kept checked told peer work here = by (are_joined plan work.edge.me.0 peer.0 && not (has_end work.edge peer)) where
  between : (own other : Option EdgePlan) → slice_get plan.edges peer.0 ≡ other → Holds (connects_between plan told peer own other work)
  between None other is = kept.idle work here
  between (Some own) None is = kept.idle work here
  between (Some own) (Some other) is =
      let within : peer.0 < length plan.edges = slice_get_within plan.edges peer.0 other is in
      let met : Work = changes (meeting peer) work in
      let stands : Work = changes (with_peering peer (Some (opened_with own other))) met in
      mends_kept plan Holds kept checked told (happens_with_ends told peer table.Start (gives (Session peer name.Initialized) stands))
      (with_ends_kept plan Holds kept told peer within table.Start (gives (Session peer name.Initialized) stands)
      (kept.session peer name.Initialized stands within (kept.changed (with_peering peer (Some (opened_with own other))) met (kept.changed (meeting peer) work here))))

  by : (b : Bool) → Holds (cond b (connects_between plan told peer (slice_get plan.edges work.edge.me.0) (slice_get plan.edges peer.0) work) (idles work))
  by true = between (slice_get plan.edges work.edge.me.0) (slice_get plan.edges peer.0) refl
  by false = kept.idle work here

sessions_kept : (plan : Plan) (Holds : Work → Type 0) → AreKept plan Holds → (told : Answers) (place count : ℕ) (work : Work) → place + count ≤ length plan.edges → Holds work
    → Holds (ticks_sessions told place count work)
sessions_kept plan Holds kept told place zero work within here = here
sessions_kept plan Holds kept told place (suc count) work within here =
    sessions_kept plan Holds kept told (place + 1) count (happens_with_ends told (record { 0 = place }) Ticked work) (omega (arith, within))
    (with_ends_kept plan Holds kept told (record { 0 = place }) (omega (arith, within)) Ticked work here)

changed_kept : (plan : Plan) (Holds : Work → Type 0) → AreKept plan Holds → IsChecked plan → (told : Answers) (change : EdgeState → EdgeState) (work : Work) (b : Bool) → Holds work
    → Holds (cond b (mends plan told (changes change work)) (idles work))
changed_kept plan Holds kept checked told change work true here = mends_kept plan Holds kept checked told (changes change work) (kept.changed change work here)
changed_kept plan Holds kept checked told change work false here = kept.idle work here

circuit_kept : (plan : Plan) (Holds : Work → Type 0) → AreKept plan Holds → IsChecked plan → (told : Answers) (circuit : CircuitId) (on : Bool) (row : Option CircuitPlan) (work : Work)
    → Holds work → Holds (circuit_input plan told circuit on row work)
circuit_kept plan Holds kept checked told circuit on None work here = kept.idle work here
circuit_kept plan Holds kept checked told circuit on (Some row) work here =
    changed_kept plan Holds kept checked told (turned plan circuit row on) work (is_own work.edge row && not (is_same on (is_on work.edge circuit))) here

pub step_kept : (plan : Plan) (Holds : Work → Type 0) → AreKept plan Holds → IsChecked plan → (told : Answers) (given : Input) (work : Work) → HasPeers plan work.edge → Holds work
    → Holds (edge_step plan told given work)
step_kept plan Holds kept checked told (input.Connected peer) work peers here = connected_kept plan Holds kept checked told peer work here
step_kept plan Holds kept checked told (input.Octets peer bytes) work peers here = heard_kept plan Holds kept checked told peer bytes.now work peers here
step_kept plan Holds kept checked told (input.Lost peer) work peers here = lost_kept plan Holds kept checked told peer work peers here
step_kept plan Holds kept checked told input.Restart work peers here = kept.changed restarted work here
step_kept plan Holds kept checked told input.Tick work peers here =
    mends_kept plan Holds kept checked told (changes (forgetting plan) (ticks_sessions told 0 (length plan.edges) (changes counted work)))
    (kept.changed (forgetting plan) (ticks_sessions told 0 (length plan.edges) (changes counted work))
    (sessions_kept plan Holds kept told 0 (length plan.edges) (changes counted work) (omega arith) (kept.changed counted work here)))
step_kept plan Holds kept checked told (input.Frame circuit bytes) work peers here = frame_kept plan Holds kept checked told circuit bytes.now (circuit_row plan circuit) work here
step_kept plan Holds kept checked told (input.Packet bytes) work peers here = packet_kept plan Holds kept checked told bytes.now work here
step_kept plan Holds kept checked told (input.Wire wire on) work peers here =
    changed_kept plan Holds kept checked told (turned_wire wire on) work (passes plan work.edge.me wire && not (is_same on (work.edge.wire_on wire.0))) here
step_kept plan Holds kept checked told (input.Circuit circuit on) work peers here = circuit_kept plan Holds kept checked told circuit on (circuit_row plan circuit) work here
step_kept plan Holds kept checked told (input.Status wire bits) work peers here =
    changed_kept plan Holds kept checked told (with_bits wire bits) work (ends_here plan work.edge.me wire && not (nat_eq bits (work.edge.bits wire.0))) here
step_kept plan Holds kept checked told (input.Priority wire priority) work peers here =
    changed_kept plan Holds kept checked told (with_priority wire priority) work (is_own_spoke work.edge.me (wire_row plan wire) && not (nat_eq priority (work.edge.priority wire.0))) here
step_kept plan Holds kept checked told (input.Ping wire) work peers here = ping_kept plan Holds kept checked told wire work here

-- ---- effects name what is in the plan

fit-append : (plan : Plan) (es : List Effect) (e : Effect) → AllFit plan es → NamesPlaces plan e → AllFit plan (es ++ e ∷ [])
fit-append plan [] e all here = (here, tt)
fit-append plan (x ∷ es) e all here = (all.0, fit-append plan es e all.1 here)

pub fit_kept : (plan : Plan) → AreKept plan (λ w. AllFit plan w.effects)
unfolding changes idles gives puts posts
fit_kept plan = record {
  changed = λ change w here. here;
  idle = λ w here. here;
  left = λ circuit bytes w within here. fit-append plan w.effects (Left circuit bytes) here within;
  dropped = λ cause w here. fit-append plan w.effects (Dropped cause) here tt;
  session = λ peer state w within here. fit-append plan w.effects (Session peer state) here within;
  wire = λ wire down w within here. fit-append plan w.effects (Wire wire down) here within;
  pong = λ wire sequence w within here. fit-append plan w.effects (Pong wire sequence) here within;
  gone = λ peer w within here. fit-append plan w.effects (Closed peer) here within;
  said = λ peer bytes change w within here. fit-append plan w.effects (Said peer bytes) here within;
  refused = λ peer bytes w here. here;
  sent = λ peer wire came bytes w within of_wire here. fit-append plan w.effects (Sent peer wire came bytes) here (within, of_wire);
  lost = λ peer bytes w here. here;
}

-- ---- effects tell what the link took

told-append : (es fs : List Effect) → calls_told (es ++ fs) ≡ calls_told es ++ calls_told fs
told-append [] fs = refl
told-append (Said peer bytes ∷ es) fs = ap (λ (l : List LinkCall). call_of peer false bytes true ∷ l) (told-append es fs)
told-append (Sent peer wire came bytes ∷ es) fs = ap (λ (l : List LinkCall). call_of peer true bytes true ∷ l) (told-append es fs)
told-append (Left circuit bytes ∷ es) fs = told-append es fs
told-append (Dropped cause ∷ es) fs = told-append es fs
told-append (Session peer state ∷ es) fs = told-append es fs
told-append (Wire wire down ∷ es) fs = told-append es fs
told-append (Pong wire sequence ∷ es) fs = told-append es fs
told-append (Closed peer ∷ es) fs = told-append es fs

taken-append : (xs ys : List LinkCall) → filter (λ call. call.taken) (xs ++ ys) ≡ filter (λ call. call.taken) xs ++ filter (λ call. call.taken) ys
taken-append [] ys = refl
taken-append (x ∷ xs) ys = by x.taken (taken-append xs ys) where
  by : (b : Bool) → filter (λ call. call.taken) (xs ++ ys) ≡ filter (λ call. call.taken) xs ++ filter (λ call. call.taken) ys
      → cond b (x ∷ filter (λ call. call.taken) (xs ++ ys)) (filter (λ call. call.taken) (xs ++ ys))
      ≡ cond b (x ∷ filter (λ call. call.taken) xs) (filter (λ call. call.taken) xs) ++ filter (λ call. call.taken) ys
  by true rest = ap (λ (l : List LinkCall). x ∷ l) rest
  by false rest = rest

-- one thing more that tells no call
tells_same : (before now : List LinkCall) (es : List Effect) (e : Effect) → calls_told (e ∷ []) ≡ [] → TellsTaken before now es → TellsTaken before now (es ++ e ∷ [])
tells_same before now es e none tells = record {
  more = tells.more;
  joined = tells.joined;
  told = told-append es (e ∷ []) ∙ (ap (λ (l : List LinkCall). calls_told es ++ l) none ∙ (append-nil (calls_told es) ∙ tells.told));
}

-- one call more, and what tells it
tells_more : (before now : List LinkCall) (es fs : List Effect) (call : LinkCall) → calls_told fs ≡ filter (λ call. call.taken) (call ∷ []) → TellsTaken before now es
    → TellsTaken before (now ++ call ∷ []) (es ++ fs)
tells_more before now es fs call one tells = record {
  more = tells.more ++ call ∷ [];
  joined = ap (λ (l : List LinkCall). l ++ call ∷ []) tells.joined ∙ append_assoc before tells.more (call ∷ []);
  told = told-append es fs ∙ (ap (λ (l : List LinkCall). l ++ calls_told fs) tells.told
      ∙ (ap (λ (l : List LinkCall). filter (λ call. call.taken) tells.more ++ l) one ∙ sym (taken-append tells.more (call ∷ []))));
}

tell_kept : (plan : Plan) (before : List LinkCall) → AreKept plan (λ w. TellsTaken before w.calls w.effects)
unfolding changes idles gives puts posts
tell_kept plan before = record {
  changed = λ change w here. here;
  idle = λ w here. here;
  left = λ circuit bytes w within here. tells_same before w.calls w.effects (Left circuit bytes) refl here;
  dropped = λ cause w here. tells_same before w.calls w.effects (Dropped cause) refl here;
  session = λ peer state w within here. tells_same before w.calls w.effects (Session peer state) refl here;
  wire = λ wire down w within here. tells_same before w.calls w.effects (Wire wire down) refl here;
  pong = λ wire sequence w within here. tells_same before w.calls w.effects (Pong wire sequence) refl here;
  gone = λ peer w within here. tells_same before w.calls w.effects (Closed peer) refl here;
  said = λ peer bytes change w within here. tells_more before w.calls w.effects (Said peer bytes ∷ []) (call_of peer false bytes true) refl here;
  refused = λ peer bytes w here.
      subst (TellsTaken before (w.calls ++ call_of peer false bytes false ∷ [])) (append-nil w.effects) (tells_more before w.calls w.effects [] (call_of peer false bytes false) refl here);
  sent = λ peer wire came bytes w within of_wire here. tells_more before w.calls w.effects (Sent peer wire came bytes ∷ []) (call_of peer true bytes true) refl here;
  lost = λ peer bytes w here.
      subst (TellsTaken before (w.calls ++ call_of peer true bytes false ∷ [])) (append-nil w.effects) (tells_more before w.calls w.effects [] (call_of peer true bytes false) refl here);
}

-- ---- of an edge that has done the work of an input, whatever its link answers

-- what the link answered, told by its calls
abbrev pub no_call : LinkCall
no_call = call_of (record { 0 = 0 }) false [] false

abbrev pub told_by : List LinkCall → Answers
told_by calls k = (slice_index_or calls k no_call).taken

pub agrees_itself : (calls : List LinkCall) → Agrees (told_by calls) calls
agrees_itself calls = record { each = λ k other within. ap (λ (c : LinkCall). c.taken) (same_read calls k other no_call within) }

-- the work of an input is that of the edge's step
abbrev pub Steps : EdgeLists → EdgeLists → Input → Effects → List LinkCall → List LinkCall → Type 0
Steps e now given effects before after = (told : Answers) → Agrees told after → worked now after effects ≡ edge_step e.plan told given (beginning (seen e) before)

has_peers : (e : EdgeLists) → IsEdge e → HasPeers e.plan (seen e)
unfolding seen
has_peers e is = record { each = λ peer there. omega (arith, within e.peerings peer.0 there, is.peerings) } where
  within : (xs : List (Option Peering)) (k : ℕ) → is_there (view None xs k) ≡ true → k < length xs
  within [] k there = absurd (cc (there))
  within (x ∷ xs) zero there = omega arith
  within (x ∷ xs) (suc k) there = omega (arith, within xs k there)

pub steps_fit : (e now : EdgeLists) (given : Input) (effects : Effects) (before after : List LinkCall) → IsEdge e → Steps e now given effects before after → AllFit e.plan effects.list
unfolding worked
steps_fit e now given effects before after is steps =
    subst (λ (w : Work). AllFit e.plan w.effects) (sym (steps (told_by after) (agrees_itself after)))
    (step_kept e.plan (λ w. AllFit e.plan w.effects) (fit_kept e.plan) is.checked (told_by after) given (beginning (seen e) before) (has_peers e is) tt)

pub steps_tell : (e now : EdgeLists) (given : Input) (effects : Effects) (before after : List LinkCall) → IsEdge e → Steps e now given effects before after → TellsTaken before after effects.list
unfolding worked
steps_tell e now given effects before after is steps =
    subst (λ (w : Work). TellsTaken before w.calls w.effects) (sym (steps (told_by after) (agrees_itself after)))
    (step_kept e.plan (λ w. TellsTaken before w.calls w.effects) (tell_kept e.plan before) is.checked (told_by after) given (beginning (seen e) before) (has_peers e is)
    (record { more = []; joined = sym (append-nil before); told = refl }))

-- the edge is in sync again
pub steps_synced : (e now : EdgeLists) (given : Input) (effects : Effects) (before after : List LinkCall) → IsEdge e → InSync e.plan (seen e) → Steps e now given effects before after
    → InSync e.plan (seen now)
unfolding worked
steps_synced e now given effects before after is synced steps =
    subst (λ (w : Work). InSync e.plan w.edge) (sym (steps (told_by after) (agrees_itself after)))
    (step_synced e.plan (told_by after) given (beginning (seen e) before) is.checked synced)
