-- Walks over all that an edge does: what holds of no work, of two works in turn and of each single step, holds of the whole. A fact
-- of two moments of an edge so owes its single steps alone.
use Rattle.std.proofs.Common.{◌≡◌, ◌+◌, ◌++◌, ◌&&◌, ◌∙◌, ◌-◌, ℕ, zero, suc, Bool, true, false, List, [], ◌∷◌, Option, Some, None, Result, Ok, Err, cond, refl, sym, ap, nat_eq, nat_lt, append_assoc, not, length, slice_get, option_and_then, subst}
use Rattle.net_base.specs.declared.plan.Plan.{Plan}
use Rattle.net_base.specs.declared.plan.edge_plan.EdgePlan.{EdgePlan}
use Rattle.net_base.specs.declared.plan.circuit_plan.CircuitPlan.{CircuitPlan}
use Rattle.net_base.specs.declared.plan.places.CircuitId.{CircuitId}
use Rattle.net_base.specs.declared.plan.places.EdgeId.{EdgeId}
use Rattle.net_base.specs.declared.plan.places.ServiceId.{ServiceId}
use Rattle.net_base.specs.declared.plan.places.WireId.{WireId}
use Rattle.net_base.specs.declared.plan.wire_plan.WirePlan.{WirePlan}
use Rattle.net_base.specs.declared.trace.arrival.Arrival.{Arrival}
use Rattle.net_base.specs.declared.trace.arrival.Arrival.TheVariants as arrival
use Rattle.net_base.specs.declared.trace.down.Down.{Down}
use Rattle.net_base.specs.declared.trace.drop_cause.DropCause.{DropCause}
use Rattle.net_base.specs.declared.trace.drop_cause.DropCause.TheVariants as cause
use Rattle.net_base.specs.declared.trace.state_name.Reason.TheVariants as reason
use Rattle.net_base.specs.declared.trace.state_name.StateName.TheVariants as name
use Rattle.net_values.specs.declared.addr.Addr.{Addr}
use Rattle.net_values.specs.declared.mac.Mac.{Mac}
use Rattle.net_base.specs.plan.Paths.{are_joined, edge_address, mate, offer_of}
use Rattle.net_base.specs.plan.Places.{circuit_row, wire_row}
use Rattle.net_base.specs.trace.Isolated.{inner_at}
use Rattle.pw_messages.specs.Content.{binding_in, mac_withdrawal, mapping, pw_status_code, status_notification, withdrawal}
use Rattle.pw_messages.specs.LinkAnswers.{Answers}
use Rattle.eth_encap.specs.declared.stack_entry.StackEntry.{StackEntry}
use Rattle.eth_encap.specs.Packet.{entry_of}
use Rattle.hvpls_spokes.specs.declared.edge_role.Role.{Role}
use Rattle.hvpls_spokes.specs.declared.port.Port.{Port}
use Rattle.hvpls_spokes.specs.declared.port.Port.TheVariants as port
use Rattle.hvpls_spokes.specs.Port.{ports_of}
use Rattle.hvpls_spokes.specs.Role as roles
use Rattle.ldp_codec.specs.Decoded.{refusal_of}
use Rattle.ldp_grammar.specs.declared.message.Message.{Message}
use Rattle.ldp_grammar.specs.declared.message.Message.TheVariants.{Notification, AddressWithdraw, LabelMapping, LabelWithdraw, LabelRelease}
use Rattle.ldp_grammar.specs.declared.pdu.Pdu.{Pdu}
use Rattle.ldp_grammar.specs.declared.status_code.StatusCode.{StatusCode}
use Rattle.mac_withdraw.specs.Passing.{is_passed_to}
use Rattle.mac_withdraw.specs.Pieces.{pieces_of}
use Rattle.ldp_stream.specs.FrontOf.{Front, More, Got, Bad, front_of}
use Rattle.session_core.specs.declared.reply.Reply.{Reply}
use Rattle.session_core.specs.Table as table
use Rattle.session_core.specs.Table.{SessionEvent, Heard, Received, Refused, Ticked}
use Rattle.pw_tlvs.specs.declared.point.Point.{Point}
use Rattle.pw_tlvs.specs.declared.pw_fec.PwFec.{PwFec}
use Rattle.pw_signalling.specs.declared.binding.Binding.{Binding}
use Rattle.pw_signalling.specs.Rows.{bound, group_stated, group_unbound, stated, unbound}
use Rattle.pw_tlvs.specs.declared.pw_status.PwStatus.{PwStatus}
use Rattle.pw_signalling.specs.declared.told.Told.{Told}
use Rattle.pw_signalling.specs.End.{EndState, LocalPart, Idle, Advertised, Withdrawing}
use Rattle.edge_model.specs.declared.effect.Effect.TheVariants as effect
use Rattle.edge_model.specs.declared.end_place.EndPlace.{EndPlace}
use Rattle.edge_model.specs.Circuit.{circuit_input, is_same, turned}
use Rattle.edge_model.specs.Clear.{clears_at, clears_by, clears_wire, hears_mac_withdraw, passes_on, tells_at, tells_by, withdrawing_at}
use Rattle.edge_model.specs.Connection.{connected_input, connects_between, lost_input, opened_with, restart_input}
use Rattle.edge_model.specs.declared.input.Input.{Input}
use Rattle.edge_model.specs.declared.input.Input.TheVariants.{Connected, Octets, Lost, Restart, Tick, Frame, Packet, Wire, Circuit, Status, Priority, Ping}
use Rattle.edge_model.specs.EndPlaces.{end_named, end_places, ends_here, passes}
use Rattle.pw_stitch.specs.declared.swap_drop.SwapDrop.{SwapDrop}
use Rattle.pw_stitch.specs.Drop.{dropped_for}
use Rattle.pw_stitch.specs.Relabelling.{relabelled}
use Rattle.pw_stitch.specs.Stitch.{has_told}
use Rattle.pw_stitch.specs.Swap.{label_onward}
use Rattle.edge_model.specs.Across.{end_beyond}
use Rattle.vccv_channel.specs.declared.cc.Cc.{Cc}
use Rattle.vccv_channel.specs.declared.cc.Cc.TheVariants.{Header, Alert, Expiry}
use Rattle.vccv_channel.specs.declared.echo.Echo.{Echo}
use Rattle.vccv_channel.specs.declared.echo.Echo.TheVariants.{Request, Answer}
use Rattle.vccv_channel.specs.declared.vccv_fault.VccvFault.{VccvFault}
use Rattle.vccv_channel.specs.Channel.{has_header}
use Rattle.vccv_channel.specs.Echo.{answer_packet, request_packet}
use Rattle.vccv_channel.specs.Fault.{vccv_cause_of}
use Rattle.vccv_channel.specs.Reading.{ip_packet_of, reading}
use Rattle.edge_model.specs.Echo.{channel_octets, channel_under, echoes, is_picked, ping_number, verifies, verifies_in}
use Rattle.edge_model.specs.Ends.{is_up, wire_end}
use Rattle.edge_model.specs.Frame.{copies, copy_by, frame_input, hearing, is_own, port_at, received, targets_of}
use Rattle.edge_model.specs.Hear.{acts, acts_on, advice_of, advises, hears, hears_few, hears_front, hears_message, hears_messages, hears_on, hears_one, hears_pdu, hears_within, holds, octets_input, was_up}
use Rattle.edge_model.specs.Mend.{advertises, advertises_under, advertises_wish, advertising, and_says, cause_number, each_end, forgets_down, forgets_downs, forgetting_wire, is_new_choice, mends, mends_choice, mends_end, mends_few, mends_local, mends_once, mends_status, mends_status_of, port_of_wire, tells_down, tells_downs, tells_new_status, tells_over, telling_status, then_changes, wish, offer_stands, withdrawing, withdraws, withdraws_unless}
use Rattle.edge_model.specs.Packet.{switched_by, switched_to, switched_under, towards, advertiser, alerted, alerts_by, alerts_end, behind_entry, bridges_frame, by_offer, enters, is_alert, is_channel, labelled, least_label, opened_by, owned, packet_input, switched, terminated, unpacked_at}
use Rattle.edge_model.specs.Put.{Spoken, put_reply, stays}
use Rattle.edge_model.specs.Ping.{asks, far_address, ping_between, ping_input, pinging, pings_at, pings_by, pings_in, pings_under}
use Rattle.edge_model.specs.Role.{down_at, status_to_tell}
use Rattle.edge_model.specs.Send.{drops, packet_of, sends, sends_copy, sends_under}
use Rattle.edge_model.specs.Session.{had_said, happens_with_ends, says}
use Rattle.edge_model.specs.Signal.{end_of_fec, hears_mapping, hears_release, hears_status, hears_withdraw, maps_to, releases_label, takes_content, with_end_changed, with_named}
use Rattle.edge_model.specs.Spokes.{choosing}
use Rattle.edge_model.specs.State.{EdgeState, Peering, end_at, has_end, is_on, with_addresses, with_bits, with_chosen, with_end, with_next_label, with_peering, with_priority, with_told_down, with_kept}
use Rattle.edge_model.specs.Step.{edge_step}
use Rattle.edge_model.specs.Tick.{counted, forgetting, tick_input, ticks_sessions}
use Rattle.edge_model.specs.Wire.{is_own_spoke, priority_input, status_input, turned_wire, wire_input}
use Rattle.edge_model.specs.Withdraw.{tells_piece, tells_piece_by, tells_pieces}
use Rattle.edge_model.specs.Work.{Work, changes, gives, idles}
use Rattle.edge_model.proofs.SessionLemmas.{any, says_works}
use Rattle.edge_model.specs.Labels.{label_to_give, meeting}

-- the edge has an end at this place, by the plan
pub record IsEndAt (plan : Plan) (me : EdgeId) (place : EndPlace) : Type 0 where
  pub before : List EndPlace
  pub after : List EndPlace
  pub split : end_places plan me ≡ before ++ place ∷ after

-- ---- an edge mends

-- something holds of each step of mending
pub record MendSteps (plan : Plan) (told : Answers) (R : Work → Work → Type 0) : Type 0 where
  pub same : (work : Work) → R work work
  pub joined : (a b c : Work) → R a b → R b c → R a c
  -- an end is advertised
  pub advertises : (place : EndPlace) (label : ℕ) (content : Told) (work : Work) → IsEndAt plan work.edge.me place
      → (end_at work.edge place).local ≡ Idle false → wish plan work.edge place ≡ Some content → label_to_give work.edge ≡ Some label
      → R work (says told place.peer (mapping place.pw_id label content) (changes (advertising place label content) work)).work
  -- one is withdrawn
  pub withdraws : (place : EndPlace) (label : ℕ) (content : Told) (work : Work) → IsEndAt plan work.edge.me place
      → (end_at work.edge place).local ≡ Advertised label content → offer_stands place content (wish plan work.edge place) ≡ false
      → R work (withdraws told place label content work).work
  -- the edge chooses among its spokes
  pub chooses : (work : Work) → R work (changes (choosing plan) work)
  -- a new status is told
  pub tells_status : (place : EndPlace) (label : ℕ) (content : Told) (last : PwStatus) (work : Work) → IsEndAt plan work.edge.me place
      → (end_at work.edge place).local ≡ Advertised label content → content.status ≡ Some last → nat_eq last.0 (status_to_tell plan work.edge place).0 ≡ false
      → R work (tells_new_status told place content (status_to_tell plan work.edge place) work).work
  -- a neighbour is told that addresses are to be forgotten
  pub tells_piece : (place : EndPlace) (label : ℕ) (content : Told) (addresses : List Mac) (work : Work) → (end_at work.edge place).local ≡ Advertised label content
      → R work (says told place.peer (mac_withdrawal place.pw_id addresses content) work).work
  -- a wire that began to forward, or stopped, is told
  pub tells_down : (place : EndPlace) (work : Work) → IsEndAt plan work.edge.me place
      → place.terminal ≡ true → nat_eq (cause_number (work.edge.told_down place.wire.0)) (cause_number (down_at plan work.edge place)) ≡ false
      → R work (gives (effect.Wire place.wire (down_at plan work.edge place)) (changes (with_told_down place.wire (down_at plan work.edge place)) work))
  -- what was learned at a wire that does not forward is forgotten
  pub forgets_wire : (place : EndPlace) (why : Down) (work : Work) → IsEndAt plan work.edge.me place → place.terminal ≡ true → down_at plan work.edge place ≡ Some why
      → R work (changes (forgetting_wire plan place.wire (wire_row plan place.wire)) work)

-- it holds, and the edge is the same one
record Walks (R : Work → Work → Type 0) (a b : Work) : Type 0 where
  holds : R a b
  me : b.edge.me ≡ a.edge.me

walks_not : {plan : Plan} {told : Answers} {R : Work → Work → Type 0} → MendSteps plan told R → (work : Work) → Walks R work work
walks_not steps work = record { holds = steps.same work; me = refl }

walks_then : {plan : Plan} {told : Answers} {R : Work → Work → Type 0} → MendSteps plan told R → (a b c : Work) → Walks R a b → Walks R b c → Walks R a c
walks_then steps a b c first next = record { holds = steps.joined a b c first.holds next.holds; me = next.me ∙ first.me }

-- the edge is the same one after it has forgotten
forgetting_me : (plan : Plan) (wire : WireId) (row : Option WirePlan) (edge : EdgeState) → (forgetting_wire plan wire row edge).me ≡ edge.me
unfolding with_addresses
forgetting_me plan wire None edge = refl
forgetting_me plan wire (Some row) edge = refl

module _ (plan : Plan) (told : Answers) (R : Work → Work → Type 0) (steps : MendSteps plan told R) where
  -- ---- an end is advertised, withdrawn or left

  advertises_walks : (place : EndPlace) (content : Told) (work : Work) → IsEndAt plan work.edge.me place → (end_at work.edge place).local ≡ Idle false → wish plan work.edge place ≡ Some content
      → Walks R work (advertises told place content work).work
  unfolding changes with_end with_next_label with_kept
  advertises_walks place content work here idle wished = by (label_to_give work.edge) refl where
    by : (r : Option ℕ) → label_to_give work.edge ≡ r → Walks R work (advertises_under told place content r work).work
    by None none = walks_not steps work
    by (Some label) given = record {
      holds = steps.advertises place label content work here idle wished given;
      me = (says_works told any place.peer (mapping place.pw_id label content) (changes (advertising place label content) work) refl).edge.me;
    }

  advertises_wish_walks : (place : EndPlace) (wished : Option Told) (work : Work) → IsEndAt plan work.edge.me place → (end_at work.edge place).local ≡ Idle false → wish plan work.edge place ≡ wished
      → Walks R work (advertises_wish told place wished work).work
  advertises_wish_walks place None work here idle is = walks_not steps work
  advertises_wish_walks place (Some content) work here idle is = advertises_walks place content work here idle is

  withdraws_walks : (place : EndPlace) (label : ℕ) (content : Told) (wished : Option Told) (work : Work) → IsEndAt plan work.edge.me place
      → (end_at work.edge place).local ≡ Advertised label content → wish plan work.edge place ≡ wished → Walks R work (withdraws_unless told place label content wished work).work
  unfolding changes with_end with_kept
  withdraws_walks place label content wished work here told_it is = by (offer_stands place content wished) refl where
    by : (b : Bool) → offer_stands place content wished ≡ b → Walks R work (cond b (stays work) (withdraws told place label content work)).work
    by true still = walks_not steps work
    by false changed = record {
      holds = steps.withdraws place label content work here told_it (ap (offer_stands place content) is ∙ changed);
      me = (says_works told any place.peer (withdrawal place.pw_id label content) (changes (withdrawing place) work) refl).edge.me;
    }

  mends_local_walks : (place : EndPlace) (local : LocalPart) (work : Work) → IsEndAt plan work.edge.me place → (end_at work.edge place).local ≡ local
      → Walks R work (mends_local plan told place local work).work
  mends_local_walks place (Idle true) work here is = walks_not steps work
  mends_local_walks place (Idle false) work here is = advertises_wish_walks place (wish plan work.edge place) work here is refl
  mends_local_walks place (Advertised label content) work here is = withdraws_walks place label content (wish plan work.edge place) work here is refl
  mends_local_walks place (Withdrawing label) work here is = walks_not steps work

  mends_end_walks : (place : EndPlace) (work : Work) → IsEndAt plan work.edge.me place → Walks R work (mends_end plan told place work).work
  mends_end_walks place work here = mends_local_walks place (end_at work.edge place).local work here refl

  -- ---- the edge chooses

  chooses_walks : (work : Work) → Walks R work (changes (choosing plan) work)
  unfolding changes with_chosen
  chooses_walks work = record { holds = steps.chooses work; me = refl }

  -- ---- a status that has changed is told

  tells_over_walks : (place : EndPlace) (label : ℕ) (content : Told) (last : Option PwStatus) (work : Work) → IsEndAt plan work.edge.me place
      → (end_at work.edge place).local ≡ Advertised label content → content.status ≡ last
      → Walks R work (tells_over told place content (status_to_tell plan work.edge place) last work).work
  unfolding changes with_end with_kept
  tells_over_walks place label content None work here told_it is = walks_not steps work
  tells_over_walks place label content (Some last) work here told_it is = by (nat_eq last.0 (status_to_tell plan work.edge place).0) refl where
    by : (b : Bool) → nat_eq last.0 (status_to_tell plan work.edge place).0 ≡ b
        → Walks R work (cond b (stays work) (tells_new_status told place content (status_to_tell plan work.edge place) work)).work
    by true same = walks_not steps work
    by false other = record {
      holds = steps.tells_status place label content last work here told_it is other;
      me = (says_works told any place.peer (status_notification place.pw_id (status_to_tell plan work.edge place) content)
          (changes (telling_status place (status_to_tell plan work.edge place)) work) refl).edge.me;
    }

  mends_status_of_walks : (place : EndPlace) (local : LocalPart) (work : Work) → IsEndAt plan work.edge.me place → (end_at work.edge place).local ≡ local
      → Walks R work (mends_status_of plan told place local work).work
  mends_status_of_walks place (Idle declined) work here is = walks_not steps work
  mends_status_of_walks place (Advertised label content) work here is = tells_over_walks place label content content.status work here is refl
  mends_status_of_walks place (Withdrawing label) work here is = walks_not steps work

  mends_status_walks : (place : EndPlace) (work : Work) → IsEndAt plan work.edge.me place → Walks R work (mends_status plan told place work).work
  mends_status_walks place work here = mends_status_of_walks place (end_at work.edge place).local work here refl

  -- ---- a spoke that was chosen anew tells that addresses have moved

  tells_piece_by_walks : (place : EndPlace) (addresses : List Mac) (local : LocalPart) (work : Work) → (end_at work.edge place).local ≡ local
      → Walks R work (tells_piece_by told place addresses local work).work
  tells_piece_by_walks place addresses (Idle declined) work is = walks_not steps work
  tells_piece_by_walks place addresses (Advertised label content) work is = record {
    holds = steps.tells_piece place label content addresses work is;
    me = (says_works told any place.peer (mac_withdrawal place.pw_id addresses content) work refl).edge.me;
  }
  tells_piece_by_walks place addresses (Withdrawing label) work is = walks_not steps work

  tells_piece_walks : (place : EndPlace) (addresses : List Mac) (work : Work) → Walks R work (tells_piece told place addresses work).work
  tells_piece_walks place addresses work = tells_piece_by_walks place addresses (end_at work.edge place).local work refl

  mends_choice_walks : (chosen : ℕ → Option WireId) (place : EndPlace) (work : Work) → Walks R work (mends_choice plan told chosen place work).work
  mends_choice_walks chosen place work = by (is_new_choice chosen work.edge.chosen place.wire (wire_row plan place.wire)) where
    by : (b : Bool) → Walks R work (cond b (tells_piece told place [] work) (stays work)).work
    by true = tells_piece_walks place [] work
    by false = walks_not steps work

  -- ---- each end in turn

  each_end_walks : (mend : EndPlace → Work → Spoken) → ((place : EndPlace) (work : Work) → IsEndAt plan work.edge.me place → Walks R work (mend place work).work)
      → (before places : List EndPlace) (m : Spoken) → end_places plan m.work.edge.me ≡ before ++ places → Walks R m.work (each_end mend places m).work
  each_end_walks mend one before [] m are = walks_not steps m.work
  each_end_walks mend one before (place ∷ places) m are =
      let first : Walks R m.work (mend place m.work).work = one place m.work (record { before = before; after = places; split = are }) in
      walks_then steps m.work (mend place m.work).work _ first
      (each_end_walks mend one (before ++ place ∷ []) places (and_says m (mend place)) (ap (end_places plan) first.me ∙ (are ∙ sym (append_assoc before (place ∷ []) places))))

  forgets_down_walks : (place : EndPlace) (down : Option Down) (work : Work) → IsEndAt plan work.edge.me place → place.terminal ≡ true → down_at plan work.edge place ≡ down
      → Walks R work (forgets_down plan place down work)
  unfolding changes
  forgets_down_walks place None work here terminal is = walks_not steps work
  forgets_down_walks place (Some why) work here terminal is =
      record { holds = steps.forgets_wire place why work here terminal is; me = forgetting_me plan place.wire (wire_row plan place.wire) work.edge }

  forgets_downs_walks : (before places : List EndPlace) (work : Work) → end_places plan work.edge.me ≡ before ++ places → Walks R work (forgets_downs plan places work)
  forgets_downs_walks before [] work are = walks_not steps work
  forgets_downs_walks before (place ∷ places) work are =
      let here : IsEndAt plan work.edge.me place = record { before = before; after = places; split = are } in
      let first : Walks R work (cond place.terminal (forgets_down plan place (down_at plan work.edge place) work) work) = by here place.terminal refl in
      walks_then steps work (cond place.terminal (forgets_down plan place (down_at plan work.edge place) work) work) (forgets_downs plan (place ∷ places) work) first
      (forgets_downs_walks (before ++ place ∷ []) places (cond place.terminal (forgets_down plan place (down_at plan work.edge place) work) work)
      (ap (end_places plan) first.me ∙ (are ∙ sym (append_assoc before (place ∷ []) places))))
    where
      by : IsEndAt plan work.edge.me place → (b : Bool) → place.terminal ≡ b → Walks R work (cond b (forgets_down plan place (down_at plan work.edge place) work) work)
      by here true terminal = forgets_down_walks place (down_at plan work.edge place) work here terminal refl
      by here false terminal = walks_not steps work

  tells_down_walks : (place : EndPlace) (work : Work) → IsEndAt plan work.edge.me place → place.terminal ≡ true → Walks R work (tells_down place (down_at plan work.edge place) work)
  unfolding changes gives with_told_down
  tells_down_walks place work here terminal = by (nat_eq (cause_number (work.edge.told_down place.wire.0)) (cause_number (down_at plan work.edge place))) refl where
    by : (b : Bool) → nat_eq (cause_number (work.edge.told_down place.wire.0)) (cause_number (down_at plan work.edge place)) ≡ b
        → Walks R work (cond b work (gives (effect.Wire place.wire (down_at plan work.edge place)) (changes (with_told_down place.wire (down_at plan work.edge place)) work)))
    by true same = walks_not steps work
    by false other = record { holds = steps.tells_down place work here terminal other; me = refl }

  tells_downs_walks : (before places : List EndPlace) (work : Work) → end_places plan work.edge.me ≡ before ++ places → Walks R work (tells_downs plan places work)
  tells_downs_walks before [] work are = walks_not steps work
  tells_downs_walks before (place ∷ places) work are =
      let here : IsEndAt plan work.edge.me place = record { before = before; after = places; split = are } in
      let first : Walks R work (cond place.terminal (tells_down place (down_at plan work.edge place) work) work) = by here place.terminal refl in
      walks_then steps work (cond place.terminal (tells_down place (down_at plan work.edge place) work) work) (tells_downs plan (place ∷ places) work) first
      (tells_downs_walks (before ++ place ∷ []) places (cond place.terminal (tells_down place (down_at plan work.edge place) work) work)
      (ap (end_places plan) first.me ∙ (are ∙ sym (append_assoc before (place ∷ []) places))))
    where
      by : IsEndAt plan work.edge.me place → (b : Bool) → place.terminal ≡ b → Walks R work (cond b (tells_down place (down_at plan work.edge place) work) work)
      by here true terminal = tells_down_walks place work here terminal
      by here false terminal = walks_not steps work

  -- ---- all steps

  mends_once_walks : (work : Work) → Walks R work (mends_once plan told work).work
  mends_once_walks work =
      let places : List EndPlace = end_places plan work.edge.me in
      let advertised : Spoken = each_end (mends_end plan told) places (stays work) in
      let chosen : Spoken = then_changes (choosing plan) advertised in
      let statuses : Spoken = each_end (mends_status plan told) places chosen in
      let first : Walks R work chosen.work =
      walks_then steps work advertised.work chosen.work (each_end_walks (mends_end plan told) mends_end_walks [] places (stays work) refl) (chooses_walks advertised.work) in
      let second : Walks R work statuses.work =
      walks_then steps work chosen.work statuses.work first (each_end_walks (mends_status plan told) mends_status_walks [] places chosen (ap (end_places plan) first.me)) in
      let moved : Spoken = each_end (mends_choice plan told work.edge.chosen) places statuses in
      let third : Walks R work moved.work =
      walks_then steps work statuses.work moved.work second
      (each_end_walks (mends_choice plan told work.edge.chosen) (λ place now here. mends_choice_walks work.edge.chosen place now) [] places statuses (ap (end_places plan) second.me)) in
      let forgotten : Work = forgets_downs plan places moved.work in
      let fourth : Walks R work forgotten = walks_then steps work moved.work forgotten third (forgets_downs_walks [] places moved.work (ap (end_places plan) third.me)) in
      walks_then steps work forgotten (mends_once plan told work).work fourth (tells_downs_walks [] places forgotten (ap (end_places plan) fourth.me))

  mends_few_walks : (n : ℕ) (work : Work) → Walks R work (mends_few plan told n work)
  mends_few_walks zero work = walks_not steps work
  mends_few_walks (suc n) work =
      walks_then steps work (mends_once plan told work).work (mends_few plan told (suc n) work) (mends_once_walks work)
      (by (mends_once plan told work).failed (mends_few_walks n (mends_once plan told work).work))
    where
      by : (failed : Bool) → Walks R (mends_once plan told work).work (mends_few plan told n (mends_once plan told work).work)
          → Walks R (mends_once plan told work).work (cond failed (mends_few plan told n (mends_once plan told work).work) (mends_once plan told work).work)
      by true again = again
      by false again = walks_not steps (mends_once plan told work).work

-- so it holds of each round of mending, and of all of it
pub mends_once_holds : (plan : Plan) (told : Answers) (R : Work → Work → Type 0) → MendSteps plan told R → (work : Work) → R work (mends_once plan told work).work
mends_once_holds plan told R steps work = (mends_once_walks plan told R steps work).holds

pub mends_holds : (plan : Plan) (told : Answers) (R : Work → Work → Type 0) → MendSteps plan told R → (work : Work) → R work (mends plan told work)
mends_holds plan told R steps work = (mends_few_walks plan told R steps (suc (length plan.edges)) work).holds

pub tells_piece_holds : (plan : Plan) (told : Answers) (R : Work → Work → Type 0) → MendSteps plan told R → (place : EndPlace) (addresses : List Mac) (work : Work)
    → R work (tells_piece told place addresses work).work
tells_piece_holds plan told R steps place addresses work = (tells_piece_walks plan told R steps place addresses work).holds

-- ---- an edge hears

-- something holds of each step of hearing
pub record HearSteps (plan : Plan) (told : Answers) (R : Work → Work → Type 0) : Type 0 where
  pub mend : MendSteps plan told R
  -- the sessions
  pub happens : (peer : EdgeId) (event : SessionEvent) (work : Work) → R work (happens_with_ends told peer event work)
  pub advises : (peer : EdgeId) (reply : Reply) (work : Work) → R work (had_said peer (put_reply told peer reply work)).work
  pub holds : (peer : EdgeId) (kept : Peering) (octets : List ℕ) (work : Work) → work.edge.peering peer.0 ≡ Some kept → R work (changes (with_peering peer (Some (record kept { held = octets }))) work)
  -- the rows of messages about pseudowires, in a session that stands
  pub releases : (peer : EdgeId) (fec : PwFec) (label : Option ℕ) (work : Work) → R work (releases_label told peer fec label work)
  pub binds : (peer : EdgeId) (fec : PwFec) (place : EndPlace) (binding : Binding) (work : Work) → has_end work.edge peer ≡ true → end_of_fec plan work.edge peer fec ≡ Some place
      → takes_content plan work.edge.me place binding.told ≡ true → R work (changes (with_end_changed (bound binding) (Some place)) work)
  pub unbinds : (peer : EdgeId) (fec : PwFec) (label : Option ℕ) (work : Work) → has_end work.edge peer ≡ true
      → R work (changes (with_named plan peer fec (unbound label) (group_unbound fec.group) fec.pw_id) work)
  pub released : (peer : EdgeId) (fec : PwFec) (label : Option ℕ) (work : Work) → has_end work.edge peer ≡ true → R work (hears_release plan peer fec label work)
  pub states : (peer : EdgeId) (fec : PwFec) (status : PwStatus) (work : Work) → has_end work.edge peer ≡ true
      → R work (changes (with_named plan peer fec (stated status) (group_stated fec.group status) fec.pw_id) work)
  -- what a MAC withdraw by a port names is forgotten
  pub clears : (service : ServiceId) (addresses : List Mac) (from : ℕ) (work : Work) → R work (changes (withdrawing_at service addresses from) work)

-- an end that is named by its PW ID is changed alone
pub named_alone : (plan : Plan) (peer : EdgeId) (fec : PwFec) (place : EndPlace) (one all : EndState → EndState) (edge : EdgeState) → end_of_fec plan edge peer fec ≡ Some place
    → with_named plan peer fec one all fec.pw_id edge ≡ with_end_changed one (Some place) edge
named_alone plan peer fec place one all edge is = by fec.pw_id is where
  by : (pw_id : Option ℕ) → option_and_then (end_named plan edge.me peer) pw_id ≡ Some place → with_named plan peer fec one all pw_id edge ≡ with_end_changed one (Some place) edge
  by None none = absurd (cc (none))
  by (Some pw_id) found = ap (λ (o : Option EndPlace). with_end_changed one o edge) found

module _ (plan : Plan) (told : Answers) (R : Work → Work → Type 0) (steps : HearSteps plan told R) where
  pub advises_holds : (peer : EdgeId) (advice : Option Reply) (work : Work) → R work (advises told peer advice work)
  advises_holds peer None work = steps.mend.same work
  advises_holds peer (Some reply) work = steps.advises peer reply work

  -- ---- the rows

  refuses_holds : (peer : EdgeId) (fec : PwFec) (place : EndPlace) (binding : Binding) (work : Work) → has_end work.edge peer ≡ true → end_of_fec plan work.edge peer fec ≡ Some place
      → R work (releases_label told peer fec (Some binding.label) (changes (with_end_changed (unbound None) (Some place)) work))
  unfolding changes
  refuses_holds peer fec place binding work there is =
      let gone : Work = changes (with_end_changed (unbound None) (Some place)) work in
      steps.mend.joined work gone (releases_label told peer fec (Some binding.label) gone)
      (subst (λ (edge : EdgeState). R work (record work { edge = edge })) (named_alone plan peer fec place (unbound None) (group_unbound fec.group) work.edge is)
      (steps.unbinds peer fec None work there))
      (steps.releases peer fec (Some binding.label) gone)

  maps_to_holds : (peer : EdgeId) (fec : PwFec) (binding : Binding) (place : Option EndPlace) (work : Work) → has_end work.edge peer ≡ true → end_of_fec plan work.edge peer fec ≡ place
      → R work (maps_to plan told peer fec binding place work)
  maps_to_holds peer fec binding None work there is = steps.releases peer fec (Some binding.label) work
  maps_to_holds peer fec binding (Some place) work there is = by (takes_content plan work.edge.me place binding.told) refl where
    by : (b : Bool) → takes_content plan work.edge.me place binding.told ≡ b
        → R work (cond b (changes (with_end_changed (bound binding) (Some place)) work)
        (releases_label told peer fec (Some binding.label) (changes (with_end_changed (unbound None) (Some place)) work)))
    by true taken = steps.binds peer fec place binding work there is taken
    by false refused = refuses_holds peer fec place binding work there is

  pub hears_mapping_holds : (peer : EdgeId) (fec : PwFec) (label : ℕ) (status : Option PwStatus) (points : List Point) (work : Work)
      → has_end work.edge peer ≡ true → R work (hears_mapping plan told peer fec label status points work)
  hears_mapping_holds peer fec label status points work there = maps_to_holds peer fec (binding_in fec label status points) (end_of_fec plan work.edge peer fec) work there refl

  pub hears_withdraw_holds : (peer : EdgeId) (fec : PwFec) (label : Option ℕ) (work : Work) → has_end work.edge peer ≡ true → R work (hears_withdraw plan told peer fec label work)
  hears_withdraw_holds peer fec label work there =
      let unbound_it : Work = changes (with_named plan peer fec (unbound label) (group_unbound fec.group) fec.pw_id) work in
      steps.mend.joined work unbound_it (releases_label told peer fec label unbound_it) (steps.unbinds peer fec label work there) (steps.releases peer fec label unbound_it)

  pub hears_status_holds : (peer : EdgeId) (code : StatusCode) (status : Option PwStatus) (fec : Option PwFec) (work : Work) → has_end work.edge peer ≡ true
      → R work (hears_status plan peer code status fec work)
  hears_status_holds peer code None fec work there = steps.mend.same work
  hears_status_holds peer code (Some status) None work there = steps.mend.same work
  hears_status_holds peer code (Some status) (Some fec) work there = by (nat_eq code.code pw_status_code) where
    by : (b : Bool) → R work (cond b (changes (with_named plan peer fec (stated status) (group_stated fec.group status) fec.pw_id) work) work)
    by true = steps.states peer fec status work there
    by false = steps.mend.same work

  -- ---- a MAC withdraw

  tells_pieces_hold : (place : EndPlace) (pieces : List (List Mac)) (work : Work) → R work (tells_pieces told place pieces work)
  tells_pieces_hold place [] work = steps.mend.same work
  tells_pieces_hold place (piece ∷ pieces) work =
      let first : Work = (tells_piece told place piece work).work in
      steps.mend.joined work first (tells_pieces told place pieces first) (tells_piece_holds plan told R steps.mend place piece work) (tells_pieces_hold place pieces first)

  tells_by_holds : (addresses : List Mac) (place : Option EndPlace) (work : Work) → R work (tells_by told addresses place work)
  tells_by_holds addresses None work = steps.mend.same work
  tells_by_holds addresses (Some place) work = tells_pieces_hold place (pieces_of addresses) work

  tells_at_holds : (addresses : List Mac) (x : Port) (b : Bool) (work : Work) → R work (cond b (tells_at plan told addresses x work) work)
  tells_at_holds addresses x false work = steps.mend.same work
  tells_at_holds addresses (port.Circuit circuit) true work = steps.mend.same work
  tells_at_holds addresses (port.Mesh wire) true work = tells_by_holds addresses (wire_end plan work.edge.me wire) work
  tells_at_holds addresses (port.Spoke wire) true work = tells_by_holds addresses (wire_end plan work.edge.me wire) work

  tells_ports_hold : (passed : ℕ → Bool) (addresses : List Mac) (p : ℕ) (ports : List Port) (work : Work) → R work (copies passed (tells_at plan told addresses) p ports work)
  tells_ports_hold passed addresses p [] work = steps.mend.same work
  tells_ports_hold passed addresses p (x ∷ ports) work =
      let first : Work = cond (passed p) (tells_at plan told addresses x work) work in
      steps.mend.joined work first (copies passed (tells_at plan told addresses) (p + 1) ports first) (tells_at_holds addresses x (passed p) work)
      (tells_ports_hold passed addresses (p + 1) ports first)

  passes_on_holds : (addresses : List Mac) (service : ServiceId) (from : ℕ) (role : Option Role) (work : Work) → R work (passes_on plan told addresses service from role work)
  passes_on_holds addresses service from None work = steps.mend.same work
  passes_on_holds addresses service from (Some role) work =
      let ports : List Port = ports_of plan service work.edge.me in
      tells_ports_hold (is_passed_to role ports from) addresses 0 ports work

  clears_at_holds : (addresses : List Mac) (service : ServiceId) (from : Option ℕ) (work : Work) → R work (clears_at plan told addresses service from work)
  clears_at_holds addresses service None work = steps.mend.same work
  clears_at_holds addresses service (Some from) work =
      let cleared : Work = changes (withdrawing_at service addresses from) work in
      let role : Option Role = roles.role_of plan service work.edge.me in
      steps.mend.joined work cleared (passes_on plan told addresses service from role cleared) (steps.clears service addresses from work)
      (passes_on_holds addresses service from role cleared)

  clears_wire_holds : (addresses : List Mac) (place : EndPlace) (row : Option WirePlan) (work : Work) → R work (clears_wire plan told addresses place row work)
  clears_wire_holds addresses place None work = steps.mend.same work
  clears_wire_holds addresses place (Some row) work = clears_at_holds addresses row.service (port_of_wire plan work.edge place.wire row) work

  clears_by_holds : (addresses : List Mac) (place : Option EndPlace) (work : Work) → R work (clears_by plan told addresses place work)
  clears_by_holds addresses None work = steps.mend.same work
  clears_by_holds addresses (Some place) work = by place.terminal where
    by : (b : Bool) → R work (cond b (clears_wire plan told addresses place (wire_row plan place.wire) work) (tells_by told addresses (end_beyond plan work.edge.me place) work))
    by true = clears_wire_holds addresses place (wire_row plan place.wire) work
    by false = tells_by_holds addresses (end_beyond plan work.edge.me place) work

  pub hears_mac_withdraw_holds : (peer : EdgeId) (fec : Option PwFec) (addresses : Option (List Mac)) (work : Work) → R work (hears_mac_withdraw plan told peer fec addresses work)
  hears_mac_withdraw_holds peer None addresses work = steps.mend.same work
  hears_mac_withdraw_holds peer (Some fec) None work = steps.mend.same work
  hears_mac_withdraw_holds peer (Some fec) (Some addresses) work = clears_by_holds addresses (end_of_fec plan work.edge peer fec) work

  pub acts_on_holds : (peer : EdgeId) (message : Message) (work : Work) → has_end work.edge peer ≡ true → R work (acts_on plan told peer message work)
  acts_on_holds peer (LabelMapping id fec label status points) work there = hears_mapping_holds peer fec label status points work there
  acts_on_holds peer (LabelWithdraw id fec label) work there = hears_withdraw_holds peer fec label work there
  acts_on_holds peer (LabelRelease id fec label) work there = steps.released peer fec label work there
  acts_on_holds peer (Notification id code status fec) work there = hears_status_holds peer code status fec work there
  acts_on_holds peer (AddressWithdraw id addresses fec macs) work there = hears_mac_withdraw_holds peer fec macs work
  acts_on_holds peer message work there = advises_holds peer (advice_of message) work

  -- ---- messages

  acts_holds : (peer : EdgeId) (message : Message) (up : Bool) (work : Work) → R work (acts plan told peer message up work)
  acts_holds peer message false work = steps.mend.same work
  acts_holds peer message true work = by (has_end work.edge peer) refl where
    by : (b : Bool) → has_end work.edge peer ≡ b → R work (cond b (acts_on plan told peer message work) work)
    by true there = acts_on_holds peer message work there
    by false there = steps.mend.same work

  pub hears_one_holds : (peer : EdgeId) (message : Message) (work : Work) → R work (hears_one plan told peer message work)
  hears_one_holds peer message work =
      let happened : Work = happens_with_ends told peer (Received message) work in
      steps.mend.joined work happened (hears_one plan told peer message work) (steps.happens peer (Received message) work) (acts_holds peer message (was_up (work.edge.peering peer.0)) happened)

  pub hears_message_holds : (peer : EdgeId) (message : Message) (work : Work) → R work (hears_message plan told peer message work)
  hears_message_holds peer message work = by (has_end work.edge peer) where
    heard : Work
    heard = hears_one plan told peer message work

    by : (b : Bool) → R work (cond b (mends plan told heard) work)
    by true = steps.mend.joined work heard (mends plan told heard) (hears_one_holds peer message work) (mends_holds plan told R steps.mend heard)
    by false = steps.mend.same work

  pub hears_messages_holds : (peer : EdgeId) (messages : List Message) (work : Work) → R work (hears_messages plan told peer messages work)
  hears_messages_holds peer [] work = steps.mend.same work
  hears_messages_holds peer (message ∷ messages) work =
      let heard : Work = hears_message plan told peer message work in
      steps.mend.joined work heard (hears_messages plan told peer messages heard) (hears_message_holds peer message work) (hears_messages_holds peer messages heard)

  pub hears_pdu_holds : (peer : EdgeId) (pdu : Pdu) (work : Work) → R work (hears_pdu plan told peer pdu work)
  hears_pdu_holds peer pdu work =
      let happened : Work = happens_with_ends told peer (Heard pdu.id) work in
      steps.mend.joined work happened (hears_messages plan told peer pdu.messages happened) (steps.happens peer (Heard pdu.id) work) (hears_messages_holds peer pdu.messages happened)

  -- ---- octets

  holds_holds : (peer : EdgeId) (octets : List ℕ) (kept : Option Peering) (work : Work) → work.edge.peering peer.0 ≡ kept → R work (holds peer octets kept work)
  holds_holds peer octets None work is = steps.mend.same work
  holds_holds peer octets (Some kept) work is = steps.holds peer kept octets work is

  hears_few_holds : (peer : EdgeId) (n : ℕ) (octets : List ℕ) (work : Work) → R work (hears_few plan told peer n octets work)
  hears_few_holds peer zero octets work = holds_holds peer octets (work.edge.peering peer.0) work refl
  hears_few_holds peer (suc n) octets work = within (work.edge.peering peer.0) refl (λ rest next. hears_few_holds peer n rest next) where
    front : ((rest : List ℕ) (next : Work) → R next (hears_few plan told peer n rest next)) → (kept : Peering) → work.edge.peering peer.0 ≡ Some kept → (stands : Front)
        → R work (hears_front plan told peer (hears_few plan told peer n) kept octets stands work)
    front again kept is More = holds_holds peer octets (Some kept) work is
    front again kept is (Got pdu rest) =
        let heard : Work = hears_pdu plan told peer pdu work in
        steps.mend.joined work heard (hears_few plan told peer n rest heard) (hears_pdu_holds peer pdu work) (again rest heard)
    front again kept is (Bad fault) = steps.happens peer (Refused (refusal_of fault)) work

    within : (kept : Option Peering) → work.edge.peering peer.0 ≡ kept → ((rest : List ℕ) (next : Work) → R next (hears_few plan told peer n rest next))
        → R work (hears_within plan told peer (hears_few plan told peer n) octets kept work)
    within None is again = steps.mend.same work
    within (Some kept) is again = front again kept is (front_of kept.session.max_pdu octets)

  pub hears_holds : (peer : EdgeId) (octets : List ℕ) (work : Work) → R work (hears plan told peer octets work)
  hears_holds peer octets work = hears_few_holds peer (suc (length octets)) octets work

  pub hears_on_holds : (peer : EdgeId) (octets : List ℕ) (kept : Option Peering) (work : Work) → R work (hears_on plan told peer octets kept work)
  hears_on_holds peer octets None work = steps.mend.same work
  hears_on_holds peer octets (Some kept) work = hears_holds peer (kept.held ++ octets) work

  -- ---- all sessions have the tick

  pub ticks_hold : (place count : ℕ) (work : Work) → R work (ticks_sessions told place count work)
  ticks_hold place zero work = steps.mend.same work
  ticks_hold place (suc count) work =
      let first : Work = happens_with_ends told (record { 0 = place }) Ticked work in
      steps.mend.joined work first (ticks_sessions told (place + 1) count first) (steps.happens (record { 0 = place }) Ticked work) (ticks_hold (place + 1) count first)

-- ---- an edge takes an input

-- something holds of each step on an input
pub record InputSteps (plan : Plan) (told : Answers) (R : Work → Work → Type 0) : Type 0 where
  pub hear : HearSteps plan told R
  pub idles : (work : Work) → R work (idles work)
  -- connections
  pub meets : (peer : EdgeId) (work : Work) → has_end work.edge peer ≡ false → R work (changes (meeting peer) work)
  pub opens : (peer : EdgeId) (own other : EdgePlan) (work : Work) → has_end work.edge peer ≡ false
      → R work (gives (effect.Session peer name.Initialized) (changes (with_peering peer (Some (opened_with own other))) work))
  pub restarts : (work : Work) → R work (restart_input work)
  -- a tick
  pub counts : (work : Work) → R work (changes counted work)
  pub forgets : (work : Work) → R work (changes (forgetting plan) work)
  -- what is set
  pub turns : (circuit : CircuitId) (row : CircuitPlan) (on : Bool) (work : Work) → R work (changes (turned plan circuit row on) work)
  pub turns_wire : (wire : WireId) (on : Bool) (work : Work) → R work (changes (turned_wire wire on) work)
  pub sets_bits : (wire : WireId) (bits : ℕ) (work : Work) → R work (changes (with_bits wire bits) work)
  pub sets_priority : (wire : WireId) (priority : ℕ) (work : Work) → R work (changes (with_priority wire priority) work)
  -- frames
  pub learns : (service : ServiceId) (frame : List ℕ) (arrival : ℕ) (work : Work) → R work (changes (hearing service frame arrival) work)
  pub leaves : (circuit : CircuitId) (octets : List ℕ) (work : Work) → R work (gives (effect.Left circuit octets) work)
  pub drops : (why : DropCause) (work : Work) → R work (gives (effect.Dropped why) work)
  -- a packet that the link takes or not
  pub sends_packet : (place : EndPlace) (came : Arrival) (octets : List ℕ) (work : Work) → R work (sends told place came octets work)
  -- pings, and the answers to them
  pub numbers_ping : (wire : WireId) (work : Work) → R work (changes (pinging wire) work)
  pub tells_answer : (wire : WireId) (sequence : ℕ) (work : Work) → R work (gives (effect.Pong wire sequence) work)

module _ (plan : Plan) (told : Answers) (R : Work → Work → Type 0) (steps : InputSteps plan told R) where
  -- a change after which the edge mends
  changed_holds : (change : EdgeState → EdgeState) (work : Work) → R work (changes change work) → R work (mends plan told (changes change work))
  changed_holds change work one = steps.hear.mend.joined work (changes change work) (mends plan told (changes change work)) one (mends_holds plan told R steps.hear.mend (changes change work))

  pub connected_holds : (peer : EdgeId) (work : Work) → R work (connected_input plan told peer work)
  unfolding changes with_kept
  connected_holds peer work = by (are_joined plan work.edge.me.0 peer.0) (has_end work.edge peer) refl where
    between : has_end work.edge peer ≡ false → (first second : Option EdgePlan) → R work (connects_between plan told peer first second work)
    between none None second = steps.idles work
    between none (Some first) None = steps.idles work
    between none (Some first) (Some second) =
        let met : Work = changes (meeting peer) work in
        let began : Work = gives (effect.Session peer name.Initialized) (changes (with_peering peer (Some (opened_with first second))) met) in
        let started : Work = happens_with_ends told peer table.Start began in
        steps.hear.mend.joined work began (mends plan told started) (steps.hear.mend.joined work met began (steps.meets peer work none) (steps.opens peer first second met none))
        (steps.hear.mend.joined began started (mends plan told started) (steps.hear.happens peer table.Start began) (mends_holds plan told R steps.hear.mend started))

    by : (joined stands : Bool) → has_end work.edge peer ≡ stands
        → R work (cond (joined && not stands) (connects_between plan told peer (slice_get plan.edges work.edge.me.0) (slice_get plan.edges peer.0) work) (idles work))
    by true true is = steps.idles work
    by true false is = between is (slice_get plan.edges work.edge.me.0) (slice_get plan.edges peer.0)
    by false stands is = steps.idles work

  pub octets_hold : (peer : EdgeId) (octets : List ℕ) (kept : Option Peering) (work : Work) → R work (octets_input plan told peer octets kept work)
  octets_hold peer octets None work = steps.idles work
  octets_hold peer octets (Some kept) work =
      let heard : Work = hears_on plan told peer octets (Some kept) work in
      steps.hear.mend.joined work heard (mends plan told heard) (hears_on_holds plan told R steps.hear peer octets (Some kept) work) (mends_holds plan told R steps.hear.mend heard)

  pub lost_holds : (peer : EdgeId) (work : Work) → R work (lost_input plan told peer work)
  lost_holds peer work = by (has_end work.edge peer) where
    ended : Work
    ended = happens_with_ends told peer (table.Closed reason.Closed) work

    by : (b : Bool) → R work (cond b (mends plan told ended) (idles work))
    by true = steps.hear.mend.joined work ended (mends plan told ended) (steps.hear.happens peer (table.Closed reason.Closed) work) (mends_holds plan told R steps.hear.mend ended)
    by false = steps.idles work

  pub tick_holds : (work : Work) → R work (tick_input plan told work)
  tick_holds work =
      let first : Work = changes counted work in
      let ticked : Work = ticks_sessions told 0 (length plan.edges) first in
      steps.hear.mend.joined work first (tick_input plan told work) (steps.counts work)
      (steps.hear.mend.joined first ticked (tick_input plan told work) (ticks_hold plan told R steps.hear 0 (length plan.edges) first)
      (changed_holds (forgetting plan) ticked (steps.forgets ticked)))

  copy_on_wire_holds : (came : Arrival) (frame : List ℕ) (place : Option EndPlace) (work : Work) → R work (sends_copy plan told came frame place work)
  copy_on_wire_holds came frame None work = steps.hear.mend.same work
  copy_on_wire_holds came frame (Some place) work = by (wire_row plan place.wire) (end_at work.edge place).remote where
    by : (row : Option WirePlan) (remote : Option Binding) → R work (sends_under told came frame work.edge.me place row remote work)
    by None remote = steps.hear.mend.same work
    by (Some row) None = steps.hear.mend.same work
    by (Some row) (Some binding) = steps.sends_packet place came (packet_of (offer_of row work.edge.me.0) binding frame) work

  copy_holds : (came : Arrival) (frame : List ℕ) (x : Port) (b : Bool) (work : Work) → R work (cond b (copy_by plan told came frame x work) work)
  copy_holds came frame x false work = steps.hear.mend.same work
  copy_holds came frame (port.Circuit at) true work = steps.leaves at _ work
  copy_holds came frame (port.Mesh wire) true work = copy_on_wire_holds came frame (wire_end plan work.edge.me wire) work
  copy_holds came frame (port.Spoke wire) true work = copy_on_wire_holds came frame (wire_end plan work.edge.me wire) work

  copies_hold : (targets : ℕ → Bool) (came : Arrival) (frame : List ℕ) (p : ℕ) (ports : List Port) (work : Work) → R work (copies targets (copy_by plan told came frame) p ports work)
  copies_hold targets came frame p [] work = steps.hear.mend.same work
  copies_hold targets came frame p (x ∷ ports) work =
      let first : Work = cond (targets p) (copy_by plan told came frame x work) work in
      steps.hear.mend.joined work first (copies targets (copy_by plan told came frame) (p + 1) ports first) (copy_holds came frame x (targets p) work)
      (copies_hold targets came frame (p + 1) ports first)

  pub received_holds : (came : Arrival) (service : ServiceId) (arrival : Option ℕ) (read : Result (List ℕ) DropCause) (work : Work) → R work (received plan told came service arrival read work)
  received_holds came service None (Ok frame) work = steps.hear.mend.same work
  received_holds came service (Some arrival) (Ok frame) work =
      let heard : Work = changes (hearing service frame arrival) work in
      let ports : List Port = ports_of plan service heard.edge.me in
      steps.hear.mend.joined work heard (received plan told came service (Some arrival) (Ok frame) work) (steps.learns service frame arrival work)
      (copies_hold (targets_of plan heard.edge service ports frame arrival) came frame 0 ports heard)
  received_holds came service arrival (Err why) work = steps.drops why work

  pub frame_holds : (circuit : CircuitId) (octets : List ℕ) (row : Option CircuitPlan) (work : Work) → R work (frame_input plan told circuit octets row work)
  frame_holds circuit octets None work = steps.idles work
  frame_holds circuit octets (Some row) work = by (is_own work.edge row && is_on work.edge circuit) where
    by : (b : Bool) → R work (cond b (received plan told (arrival.Circuit circuit) row.service (port_at plan work.edge circuit row) (inner_at plan circuit octets) work) (idles work))
    by true = received_holds (arrival.Circuit circuit) row.service (port_at plan work.edge circuit row) (inner_at plan circuit octets) work
    by false = steps.idles work

  -- ---- packets

  enters_holds : (row : WirePlan) (place : EndPlace) (payload : List ℕ) (work : Work) → R work (enters plan told row place payload work)
  enters_holds row place payload work = by (is_up (down_at plan work.edge place)) where
    by : (b : Bool) → R work (cond b (bridges_frame plan told row place payload work) (drops cause.Down work))
    by true = received_holds (arrival.Wire place.wire) row.service (port_of_wire plan work.edge place.wire row) (unpacked_at plan row work.edge.me payload) work
    by false = steps.drops cause.Down work

  echoes_hold : (place : EndPlace) (kind : Cc) (binding : Binding) (ip : List ℕ) (read : Result Echo VccvFault) (work : Work) → R work (echoes told place kind binding ip read work)
  echoes_hold place kind binding ip (Err why) work = steps.drops (vccv_cause_of why) work
  echoes_hold place kind binding ip (Ok (Answer sequence)) work = steps.tells_answer place.wire sequence work
  echoes_hold place kind binding ip (Ok (Request from to sequence long)) work = steps.sends_packet place arrival.Own (channel_octets kind binding (answer_packet ip)) work

  verifies_holds : (place : EndPlace) (row : WirePlan) (kind : Cc) (binding : Binding) (payload : List ℕ) (work : Work) → R work (verifies told place row kind binding payload work)
  verifies_holds place row kind binding payload work = echoes_hold place kind binding (ip_packet_of (has_header kind) payload) (reading (has_header kind) (ping_number row) payload) work

  verifies_in_holds : (place : EndPlace) (row : WirePlan) (kind : Cc) (binding : Binding) (payload : List ℕ) (work : Work) → R work (verifies_in told place row kind binding payload work)
  verifies_in_holds place row kind binding payload work = by (is_picked kind (channel_under row work.edge.me binding)) where
    by : (b : Bool) → R work (cond b (verifies told place row kind binding payload work) (drops cause.NotOffered work))
    by true = verifies_holds place row kind binding payload work
    by false = steps.drops cause.NotOffered work

  by_offer_holds : (row : WirePlan) (place : EndPlace) (binding : Binding) (ttl : ℕ) (cword : Bool) (payload : List ℕ) (work : Work)
      → R work (by_offer plan told row place binding ttl cword payload work)
  by_offer_holds row place binding ttl false payload work = by (nat_eq ttl 1 && is_picked Expiry (channel_under row work.edge.me binding)) where
    by : (b : Bool) → R work (cond b (verifies told place row Expiry binding payload work) (enters plan told row place payload work))
    by true = verifies_holds place row Expiry binding payload work
    by false = enters_holds row place payload work
  by_offer_holds row place binding ttl true payload work = by (nat_eq (length payload) 0) (is_channel payload) where
    by : (empty channel : Bool) → R work (cond empty (drops cause.Short work) (cond channel (verifies_in told place row Header binding payload work) (enters plan told row place payload work)))
    by true channel = steps.drops cause.Short work
    by false true = verifies_in_holds place row Header binding payload work
    by false false = enters_holds row place payload work

  terminated_holds : (place : EndPlace) (ttl : ℕ) (row : Option WirePlan) (remote : Option Binding) (payload : List ℕ) (work : Work) → R work (terminated plan told place ttl row remote payload work)
  terminated_holds place ttl None remote payload work = steps.drops cause.Down work
  terminated_holds place ttl (Some row) None payload work = steps.drops cause.Down work
  terminated_holds place ttl (Some row) (Some binding) payload work = by_offer_holds row place binding ttl (offer_of row work.edge.me.0).cword payload work

  switched_holds : (octets : List ℕ) (entry : StackEntry) (place : EndPlace) (work : Work) → R work (switched plan told octets entry place work)
  switched_holds octets entry place work = by (wire_row plan place.wire) where
    under : (to : EdgeId) (label : Result ℕ SwapDrop) → R work (switched_under told octets entry place to label work)
    under to (Err why) = steps.drops (dropped_for why) work
    under to (Ok label) = steps.sends_packet (towards to place) (arrival.Wire place.wire) (relabelled label (entry.ttl - 1) octets) work

    mated : (to : Option EdgeId) → R work (switched_to told octets entry place to work)
    mated None = steps.hear.mend.same work
    mated (Some to) = under to (label_onward (work.edge.ends place.wire.0 to.0).remote entry.ttl)

    by : (row : Option WirePlan) → R work (switched_by told octets entry place row work)
    by None = steps.hear.mend.same work
    by (Some row) = mated (mate row work.edge.me.0 place.peer.0)

  owned_holds : (octets : List ℕ) (entry : StackEntry) (place : Option EndPlace) (work : Work) → R work (owned plan told octets entry place work)
  owned_holds octets entry None work = steps.drops cause.NoLabel work
  owned_holds octets entry (Some place) work = by place.terminal where
    by : (b : Bool) → R work (cond b (terminated plan told place entry.ttl (wire_row plan place.wire) (end_at work.edge place).remote (behind_entry octets) work)
        (switched plan told octets entry place work))
    by true = terminated_holds place entry.ttl (wire_row plan place.wire) (end_at work.edge place).remote (behind_entry octets) work
    by false = switched_holds octets entry place work

  labelled_holds : (octets : List ℕ) (entry : StackEntry) (work : Work) → R work (labelled plan told octets entry work)
  labelled_holds octets entry work = by (nat_lt entry.label least_label) entry.bottom where
    by : (reserved bottom : Bool) → R work (cond reserved (drops cause.NoLabel work)
        (cond bottom (owned plan told octets entry (advertiser plan work.edge entry.label) work) (drops cause.NotBottom work)))
    by true bottom = steps.drops cause.NoLabel work
    by false true = owned_holds octets entry (advertiser plan work.edge entry.label) work
    by false false = steps.drops cause.NotBottom work

  alerts_by_holds : (place : EndPlace) (row : Option WirePlan) (remote : Option Binding) (payload : List ℕ) (work : Work) → R work (alerts_by told place row remote payload work)
  alerts_by_holds place None remote payload work = steps.drops cause.NotOffered work
  alerts_by_holds place (Some row) None payload work = steps.drops cause.NotOffered work
  alerts_by_holds place (Some row) (Some binding) payload work = verifies_in_holds place row Alert binding payload work

  alerts_holds : (payload : List ℕ) (place : Option EndPlace) (work : Work) → R work (alerts_end plan told payload place work)
  alerts_holds payload None work = steps.drops cause.NoLabel work
  alerts_holds payload (Some place) work = by place.terminal where
    by : (b : Bool) → R work (cond b (alerts_by told place (wire_row plan place.wire) (end_at work.edge place).remote payload work) (drops cause.NoLabel work))
    by true = alerts_by_holds place (wire_row plan place.wire) (end_at work.edge place).remote payload work
    by false = steps.drops cause.NoLabel work

  alerted_holds : (octets : List ℕ) (read : Result StackEntry DropCause) (work : Work) → R work (alerted plan told octets read work)
  alerted_holds octets (Err why) work = steps.drops why work
  alerted_holds octets (Ok entry) work = by entry.bottom where
    by : (b : Bool) → R work (cond b (alerts_end plan told (behind_entry octets) (advertiser plan work.edge entry.label) work) (drops cause.NotBottom work))
    by true = alerts_holds (behind_entry octets) (advertiser plan work.edge entry.label) work
    by false = steps.drops cause.NotBottom work

  opened_holds : (octets : List ℕ) (read : Result StackEntry DropCause) (work : Work) → R work (opened_by plan told octets read work)
  opened_holds octets (Err why) work = steps.drops why work
  opened_holds octets (Ok entry) work = by (is_alert entry) where
    by : (b : Bool) → R work (cond b (alerted plan told (behind_entry octets) (entry_of (behind_entry octets)) work) (labelled plan told octets entry work))
    by true = alerted_holds (behind_entry octets) (entry_of (behind_entry octets)) work
    by false = labelled_holds octets entry work

  pub packet_holds : (octets : List ℕ) (work : Work) → R work (packet_input plan told octets work)
  packet_holds octets work = opened_holds octets (entry_of octets) work

  pub circuit_holds : (circuit : CircuitId) (on : Bool) (row : Option CircuitPlan) (work : Work) → R work (circuit_input plan told circuit on row work)
  circuit_holds circuit on None work = steps.idles work
  circuit_holds circuit on (Some row) work = by (is_own work.edge row && not (is_same on (is_on work.edge circuit))) where
    by : (b : Bool) → R work (cond b (mends plan told (changes (turned plan circuit row on) work)) (idles work))
    by true = changed_holds (turned plan circuit row on) work (steps.turns circuit row on work)
    by false = steps.idles work

  pub wire_holds : (wire : WireId) (on : Bool) (work : Work) → R work (wire_input plan told wire on work)
  wire_holds wire on work = by (passes plan work.edge.me wire && not (is_same on (work.edge.wire_on wire.0))) where
    by : (b : Bool) → R work (cond b (mends plan told (changes (turned_wire wire on) work)) (idles work))
    by true = changed_holds (turned_wire wire on) work (steps.turns_wire wire on work)
    by false = steps.idles work

  pub status_holds : (wire : WireId) (bits : ℕ) (work : Work) → R work (status_input plan told wire bits work)
  status_holds wire bits work = by (ends_here plan work.edge.me wire && not (nat_eq bits (work.edge.bits wire.0))) where
    by : (b : Bool) → R work (cond b (mends plan told (changes (with_bits wire bits) work)) (idles work))
    by true = changed_holds (with_bits wire bits) work (steps.sets_bits wire bits work)
    by false = steps.idles work

  pub priority_holds : (wire : WireId) (priority : ℕ) (work : Work) → R work (priority_input plan told wire priority work)
  priority_holds wire priority work = by (is_own_spoke work.edge.me (wire_row plan wire) && not (nat_eq priority (work.edge.priority wire.0))) where
    by : (b : Bool) → R work (cond b (mends plan told (changes (with_priority wire priority) work)) (idles work))
    by true = changed_holds (with_priority wire priority) work (steps.sets_priority wire priority work)
    by false = steps.idles work

  -- ---- pings

  asks_hold : (place : EndPlace) (row : WirePlan) (kind : Cc) (binding : Binding) (from to : Option Addr) (work : Work) → R work (asks told place row kind binding from to work)
  asks_hold place row kind binding None to work = steps.idles work
  asks_hold place row kind binding (Some from) None work = steps.idles work
  asks_hold place row kind binding (Some from) (Some to) work =
      let numbered : Work = changes (pinging place.wire) work in
      let octets : List ℕ = channel_octets kind binding (request_packet (ping_between row from to (work.edge.next_ping place.wire.0))) in
      steps.hear.mend.joined work numbered (sends told place arrival.Own octets numbered) (steps.numbers_ping place.wire work) (steps.sends_packet place arrival.Own octets numbered)

  pings_in_hold : (place : EndPlace) (row : WirePlan) (binding : Binding) (kind : Option Cc) (work : Work) → R work (pings_in plan told place row binding kind work)
  pings_in_hold place row binding None work = steps.idles work
  pings_in_hold place row binding (Some kind) work = asks_hold place row kind binding (edge_address plan work.edge.me) (far_address plan work.edge.me row) work

  pings_under_hold : (place : EndPlace) (row : WirePlan) (remote : Option Binding) (work : Work) → R work (pings_under plan told place row remote work)
  pings_under_hold place row None work = steps.idles work
  pings_under_hold place row (Some binding) work = pings_in_hold place row binding (channel_under row work.edge.me binding) work

  pings_at_hold : (place : EndPlace) (row : Option WirePlan) (work : Work) → R work (pings_at plan told place row work)
  pings_at_hold place None work = steps.idles work
  pings_at_hold place (Some row) work = by (has_told (end_at work.edge place).local) where
    by : (b : Bool) → R work (cond b (pings_under plan told place row (end_at work.edge place).remote work) (idles work))
    by true = pings_under_hold place row (end_at work.edge place).remote work
    by false = steps.idles work

  pings_by_hold : (place : Option EndPlace) (work : Work) → R work (pings_by plan told place work)
  pings_by_hold None work = steps.idles work
  pings_by_hold (Some place) work = pings_at_hold place (wire_row plan place.wire) work

  pub ping_holds : (wire : WireId) (work : Work) → R work (ping_input plan told wire work)
  ping_holds wire work = pings_by_hold (wire_end plan work.edge.me wire) work

  pub step_holds : (input : Input) (work : Work) → R work (edge_step plan told input work)
  step_holds (Connected peer) work = connected_holds peer work
  step_holds (Octets peer bytes) work = octets_hold peer bytes.now (work.edge.peering peer.0) work
  step_holds (Lost peer) work = lost_holds peer work
  step_holds Restart work = steps.restarts work
  step_holds Tick work = tick_holds work
  step_holds (Frame circuit bytes) work = frame_holds circuit bytes.now (circuit_row plan circuit) work
  step_holds (Packet bytes) work = packet_holds bytes.now work
  step_holds (Circuit circuit on) work = circuit_holds circuit on (circuit_row plan circuit) work
  step_holds (Wire wire on) work = wire_holds wire on work
  step_holds (Status wire bits) work = status_holds wire bits work
  step_holds (Priority wire priority) work = priority_holds wire priority work
  step_holds (Ping wire) work = ping_holds wire work
