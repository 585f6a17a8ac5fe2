-- What an edge gives out on a packet stays behind the wire whose label the packet has.
use Rattle.std.proofs.Common.{◌≡◌, ◌&&◌, ◌/◌, ◌∙◌, ◌-◌, inl, inr, drop, Bool, true, false, ℕ, List, [], ◌∷◌, Option, Some, None, Result, Ok, Err, length, position, slice_get, slice_index, nat_lt, refl, ap, sym, subst, not, nat_eq, cond}
use Rattle.std.proofs.lemmas.Bool.{and_from, eq-eqb, eqb-true, ne_eqb}
use Rattle.net_values.proofs.BoolLemmas.{and_false}
use Rattle.net_values.proofs.RowLemmas.{found_passes, found_among}
use Rattle.net_base.specs.declared.outside.link_call.LinkCall.{LinkCall}
use Rattle.net_base.specs.declared.plan.Plan.{Plan}
use Rattle.net_base.specs.declared.plan.places.EdgeId.{EdgeId}
use Rattle.net_base.specs.declared.plan.places.WireId.{WireId}
use Rattle.net_base.specs.declared.plan.wire_plan.WirePlan.{WirePlan}
use Rattle.net_base.specs.declared.trace.arrival.Arrival.TheVariants as arrival
use Rattle.net_base.specs.declared.trace.down.Down.{Down}
use Rattle.net_base.specs.declared.trace.drop_cause.DropCause.{DropCause}
use Rattle.net_base.specs.declared.trace.drop_cause.DropCause.TheVariants as cause
use Rattle.net_base.specs.plan.Paths.{mate, offer_of}
use Rattle.net_base.specs.plan.Places.{is_mesh_class, mtu_of, wire_row}
use Rattle.net_base.specs.plan.Roles.{wire_ends_at}
use Rattle.pw_messages.specs.LinkAnswers.{Answers}
use Rattle.hvpls_spokes.specs.declared.port.Port.{Port}
use Rattle.hvpls_spokes.specs.Port.{is_mesh, is_mesh_port, is_wire_port, ports_of, wire_port}
use Rattle.hvpls_spokes.proofs.RowPortLemmas.{wire_behind, wire_leads}
use Rattle.hvpls_spokes.proofs.WirePortLemmas.{LeadsToWire, finds_wire_port, found_wire_port, has_wire_port, same_wire_port, wire_port_is}
use Rattle.eth_encap.specs.declared.stack_entry.StackEntry.{StackEntry}
use Rattle.eth_encap.specs.Packet.{behind_control, entry_of, frame_behind}
use Rattle.pw_signalling.specs.declared.binding.Binding.{Binding}
use Rattle.pw_signalling.specs.declared.told.Told.{Told}
use Rattle.pw_signalling.specs.End.{LocalPart, Idle, Advertised, Withdrawing}
use Rattle.edge_model.specs.Copies.{AllAreCopies, IsCopy, PacketGoesOn, PacketGoesOut, PacketIsAnswered, PacketIsCopied, PacketIsDropped, PacketIsLost, PacketIsTold, PacketWork}
use Rattle.edge_model.specs.declared.effect.Effect.{Effect}
use Rattle.edge_model.specs.declared.effect.Effect.TheVariants as effect
use Rattle.edge_model.specs.declared.end_place.EndPlace.{EndPlace}
use Rattle.edge_model.specs.EndPlaces.{end_places, is_end_of_wire, is_terminal}
use Rattle.pw_stitch.specs.declared.swap_drop.SwapDrop.TheVariants.{Expired}
use Rattle.pw_stitch.specs.Relabelling.{relabelled}
use Rattle.pw_stitch.specs.Swap.{label_onward}
use Rattle.vccv_channel.specs.declared.cc.Cc.{Cc}
use Rattle.vccv_channel.specs.declared.cc.Cc.TheVariants.{Header, Alert, Expiry}
use Rattle.vccv_channel.specs.declared.echo.Echo.{Echo}
use Rattle.vccv_channel.specs.declared.echo.Echo.TheVariants.{Request, Answer}
use Rattle.vccv_channel.specs.declared.vccv_fault.VccvFault.{VccvFault}
use Rattle.vccv_channel.specs.Channel.{has_header}
use Rattle.vccv_channel.specs.Echo.{answer_packet}
use Rattle.vccv_channel.specs.Fault.{vccv_cause_of}
use Rattle.vccv_channel.specs.Reading.{ip_packet_of}
use Rattle.edge_model.specs.Echo.{channel_octets, channel_under, echoes, is_picked, verifies, verifies_in}
use Rattle.edge_model.specs.Ends.{is_up, wire_end}
use Rattle.edge_model.specs.Frame.{forwarded, received}
use Rattle.edge_model.specs.Local.{AllStayBehind, ComesBy, ComesInChannel, PacketsStayLocal, SentBack, StaysBehind, channel_payload, echo_of, from_label, has_alert, is_in_channel}
use Rattle.edge_model.specs.Mend.{port_of_wire}
use Rattle.edge_model.specs.Packet.{switched_by, switched_to, switched_under, towards, advertiser, advertises_label, alerted, alerts_by, alerts_end, behind_entry, bridges_frame, by_offer, enters, is_alert, is_channel, labelled, least_label, opened_by, owned, packet_input, switched, terminated, unpacked_at, unpacked_by}
use Rattle.edge_model.specs.Role.{down_at}
use Rattle.edge_model.specs.Send.{drops, had_posted}
use Rattle.edge_model.specs.State.{EdgeState, end_at}
use Rattle.edge_model.specs.Work.{Work, beginning, gives, next_answer, posts}
use Rattle.edge_model.proofs.CopyLemmas.{forwards_copies, wire_class}
use Rattle.edge_model.proofs.PlaceLemmas.{IsEndOf, places_are}

-- ---- the channel that was picked

pub picked_is : (kind : Cc) (found : Option Cc) → is_picked kind found ≡ true → found ≡ Some kind
picked_is Header None picks = absurd (cc (picks))
picked_is Header (Some Header) picks = refl
picked_is Header (Some Alert) picks = absurd (cc (picks))
picked_is Header (Some Expiry) picks = absurd (cc (picks))
picked_is Alert None picks = absurd (cc (picks))
picked_is Alert (Some Header) picks = absurd (cc (picks))
picked_is Alert (Some Alert) picks = refl
picked_is Alert (Some Expiry) picks = absurd (cc (picks))
picked_is Expiry None picks = absurd (cc (picks))
picked_is Expiry (Some Header) picks = absurd (cc (picks))
picked_is Expiry (Some Alert) picks = absurd (cc (picks))
picked_is Expiry (Some Expiry) picks = refl

-- ---- what an edge gives out on a packet: nothing, one drop, copies, the packet itself, or what comes of an echo packet

-- the edge is as before, unless copies of the packet's inner frame go out
pub data HearsAFrame (plan : Plan) (edge : EdgeState) (octets : List ℕ) (work : Work) : Type 0 where
  HearsNone : work.edge ≡ edge → HearsAFrame plan edge octets work
  HearsOne : PacketIsCopied plan edge octets work.effects → HearsAFrame plan edge octets work

-- so much comes of a packet
pub record HasWorked (plan : Plan) (edge : EdgeState) (octets : List ℕ) (done : Work) : Type 0 where
  pub work : PacketWork plan edge octets done.effects
  pub hears : HearsAFrame plan edge octets done

module _ (plan : Plan) (told : Answers) (edge : EdgeState) (calls : List LinkCall) (octets : List ℕ) where
  begun : Work
  begun = beginning edge calls

  abbrev Works : Work → Type 0
  Works work = HasWorked plan edge octets work

  dropped : (why : DropCause) → Works (drops why begun)
  unfolding begun gives
  dropped why = record { work = PacketIsDropped why refl; hears = HearsNone refl }

  -- the packet comes by this end
  record Comes (place : EndPlace) (row : WirePlan) (binding : Binding) : Type 0 where
    comes : ComesBy plan edge octets place row
    bound : (end_at edge place).remote ≡ Some binding

  received_works : (place : EndPlace) (row : WirePlan) (binding : Binding) (from : Option ℕ) (read : Result (List ℕ) DropCause) → Comes place row binding
      → port_of_wire plan edge place.wire row ≡ from → unpacked_at plan row edge.me (behind_entry octets) ≡ read
      → Works (received plan told (arrival.Wire place.wire) row.service from read begun)
  unfolding begun
  received_works place row binding None (Ok frame) by found formed = record { work = PacketIsLost refl; hears = HearsNone refl }
  received_works place row binding (Some from) (Ok frame) by found formed =
      let copied = forwards_copies plan told (arrival.Wire place.wire) row.service frame from begun in
      let out : PacketIsCopied plan edge octets (received plan told (arrival.Wire place.wire) row.service (Some from) (Ok frame) begun).effects =
      record {
        place = place;
        row = row;
        comes = by.comes;
        binding = binding;
        bound = by.bound;
        frame = frame;
        formed = formed;
        from = from;
        found = found;
        copies = subst (AllAreCopies plan edge (arrival.Wire place.wire) row.service frame from) (sym copied.joined) copied.all;
      } in
      record { work = PacketGoesOut out; hears = HearsOne out }
  received_works place row binding from (Err why) by found formed = dropped why

  -- ---- an echo packet

  posted_back : (peer : EdgeId) (wire : WireId) (bytes : List ℕ) → SentBack plan edge octets peer wire arrival.Own bytes → (place : EndPlace) → place.peer ≡ peer → place.wire ≡ wire → (taken : Bool)
      → Works (had_posted place arrival.Own bytes taken begun)
  unfolding begun gives posts
  posted_back peer wire bytes back place to on true =
      record {
        work = PacketIsAnswered peer wire bytes back (ap (λ (p : EdgeId). effect.Sent p place.wire arrival.Own bytes ∷ []) to ∙ ap (λ (w : WireId). effect.Sent peer w arrival.Own bytes ∷ []) on);
        hears = HearsNone refl;
      }
  posted_back peer wire bytes back place to on false = record { work = PacketIsDropped cause.LinkFault refl; hears = HearsNone refl }

  echoes_works : (place : EndPlace) (row : WirePlan) (kind : Cc) (binding : Binding) → ComesInChannel plan edge octets place row kind binding → (read : Result Echo VccvFault)
      → echo_of row kind octets ≡ read
      → Works (echoes told place kind binding (ip_packet_of (has_header kind) (channel_payload kind octets)) read begun)
  unfolding begun gives
  echoes_works place row kind binding by (Err why) is = dropped (vccv_cause_of why)
  echoes_works place row kind binding by (Ok (Answer sequence)) is =
      record {
        work = PacketIsTold place.wire sequence (record { kind = kind; place = place; row = row; binding = binding; by = by; said = is; same = refl }) refl;
        hears = HearsNone refl;
      }
  echoes_works place row kind binding by (Ok (Request from to sequence long)) is =
      posted_back place.peer place.wire (channel_octets kind binding (answer_packet (ip_packet_of (has_header kind) (channel_payload kind octets))))
      (record {
        kind = kind;
        place = place;
        row = row;
        binding = binding;
        by = by;
        from = from;
        to = to;
        sequence = sequence;
        long = long;
        asked = is;
        same = refl;
        back = refl;
        own = refl;
        answered = refl;
      })
      place refl refl (next_answer told begun)

  verifies_works : (place : EndPlace) (row : WirePlan) (kind : Cc) (binding : Binding) → ComesInChannel plan edge octets place row kind binding
      → Works (verifies told place row kind binding (channel_payload kind octets) begun)
  verifies_works place row kind binding by = echoes_works place row kind binding by (echo_of row kind octets) refl

  -- the entry in front is that of an end of this wire, which is bound
  record Opens (entry : StackEntry) (place : EndPlace) (row : WirePlan) (binding : Binding) : Type 0 where
    read : entry_of octets ≡ Ok entry
    owner : advertiser plan edge entry.label ≡ Some place
    terminal : place.terminal ≡ true
    is : wire_row plan place.wire ≡ Some row
    bound : (end_at edge place).remote ≡ Some binding

  enters_works : (entry : StackEntry) (place : EndPlace) (row : WirePlan) (binding : Binding) → Opens entry place row binding → Works (enters plan told row place (behind_entry octets) begun)
  unfolding begun
  enters_works entry place row binding opens = by (down_at plan edge place) refl where
    by : (down : Option Down) → down_at plan edge place ≡ down → Works (cond (is_up down) (bridges_frame plan told row place (behind_entry octets) begun) (drops cause.Down begun))
    by None up = received_works place row binding (port_of_wire plan edge place.wire row) (unpacked_at plan row edge.me (behind_entry octets))
        (record { comes = record { entry = entry; read = opens.read; owner = opens.owner; terminal = opens.terminal; is = opens.is; forwards = up }; bound = opens.bound }) refl refl
    by (Some why) up = dropped cause.Down

  -- the same by its channel, which the end has picked
  comes_in : (kind : Cc) (entry : StackEntry) (place : EndPlace) (row : WirePlan) (binding : Binding) → entry_of (from_label kind octets) ≡ Ok entry → is_in_channel kind octets entry ≡ true
      → advertiser plan edge entry.label ≡ Some place → place.terminal ≡ true → wire_row plan place.wire ≡ Some row → (end_at edge place).remote ≡ Some binding
      → is_picked kind (channel_under row edge.me binding) ≡ true → ComesInChannel plan edge octets place row kind binding
  comes_in kind entry place row binding read channel owner terminal is bound picks =
      record { entry = entry; read = read; channel = channel; owner = owner; terminal = terminal; is = is; bound = bound; picked = picked_is kind (channel_under row edge.me binding) picks }

  verifies_in_works : (kind : Cc) (entry : StackEntry) (place : EndPlace) (row : WirePlan) (binding : Binding) → entry_of (from_label kind octets) ≡ Ok entry → is_in_channel kind octets entry ≡ true
      → advertiser plan edge entry.label ≡ Some place → place.terminal ≡ true → wire_row plan place.wire ≡ Some row → (end_at edge place).remote ≡ Some binding
      → Works (verifies_in told place row kind binding (channel_payload kind octets) begun)
  unfolding begun
  verifies_in_works kind entry place row binding read channel owner terminal is bound = by (is_picked kind (channel_under row edge.me binding)) refl where
    by : (b : Bool) → is_picked kind (channel_under row edge.me binding) ≡ b → Works (cond b (verifies told place row kind binding (channel_payload kind octets) begun) (drops cause.NotOffered begun))
    by true picks = verifies_works place row kind binding (comes_in kind entry place row binding read channel owner terminal is bound picks)
    by false picks = dropped cause.NotOffered

  by_offer_works : (entry : StackEntry) (place : EndPlace) (row : WirePlan) (binding : Binding) (cword : Bool) → Opens entry place row binding
      → Works (by_offer plan told row place binding entry.ttl cword (behind_entry octets) begun)
  unfolding begun
  by_offer_works entry place row binding false opens = by (nat_eq entry.ttl 1) (is_picked Expiry (channel_under row edge.me binding)) refl refl where
    by : (last picks : Bool) → nat_eq entry.ttl 1 ≡ last → is_picked Expiry (channel_under row edge.me binding) ≡ picks
        → Works (cond (last && picks) (verifies told place row Expiry binding (behind_entry octets) begun) (enters plan told row place (behind_entry octets) begun))
    by true true last picks = verifies_works place row Expiry binding (comes_in Expiry entry place row binding opens.read last opens.owner opens.terminal opens.is opens.bound picks)
    by true false last picks = enters_works entry place row binding opens
    by false picks last is = enters_works entry place row binding opens
  by_offer_works entry place row binding true opens = by (nat_eq (length (behind_entry octets)) 0) (is_channel (behind_entry octets)) refl where
    by : (empty channel : Bool) → is_channel (behind_entry octets) ≡ channel
        → Works (cond empty (drops cause.Short begun) (cond channel (verifies_in told place row Header binding (behind_entry octets) begun) (enters plan told row place (behind_entry octets) begun)))
    by true channel is = dropped cause.Short
    by false true is = verifies_in_works Header entry place row binding opens.read is opens.owner opens.terminal opens.is opens.bound
    by false false is = enters_works entry place row binding opens

  terminated_works : (entry : StackEntry) (place : EndPlace) (row : Option WirePlan) (remote : Option Binding) → entry_of octets ≡ Ok entry → advertiser plan edge entry.label
      ≡ Some place → place.terminal ≡ true
      → wire_row plan place.wire ≡ row → (end_at edge place).remote ≡ remote → Works (terminated plan told place entry.ttl row remote (behind_entry octets) begun)
  unfolding begun
  terminated_works entry place None remote read owner terminal is bound = dropped cause.Down
  terminated_works entry place (Some row) None read owner terminal is bound = dropped cause.Down
  terminated_works entry place (Some row) (Some binding) read owner terminal is bound =
      by_offer_works entry place row binding (offer_of row edge.me.0).cword (record { read = read; owner = owner; terminal = terminal; is = is; bound = bound })

  switched_works : (entry : StackEntry) (place : EndPlace) → entry_of octets ≡ Ok entry → advertiser plan edge entry.label ≡ Some place → place.terminal ≡ false
      → Works (switched plan told octets entry place begun)
  unfolding begun gives posts
  switched_works entry place read owner passing = by (wire_row plan place.wire) refl where
    posted : (row : WirePlan) → wire_row plan place.wire ≡ Some row → (to : EdgeId) → mate row edge.me.0 place.peer.0 ≡ Some to → (binding : Binding)
        → (edge.ends place.wire.0 to.0).remote ≡ Some binding → nat_eq entry.ttl 1 ≡ false
        → (taken : Bool) → Works (had_posted (towards to place) (arrival.Wire place.wire) (relabelled binding.label (entry.ttl - 1) octets) taken begun)
    posted row is to mate_is binding bound living true =
        record {
          work = PacketGoesOn (record {
            place = place;
            row = row;
            entry = entry;
            read = read;
            owner = owner;
            passing = passing;
            is = is;
            to = to;
            mate_is = mate_is;
            binding = binding;
            bound = bound;
            living = living;
            sent = refl;
          });
          hears = HearsNone refl;
        }
    posted row is to mate_is binding bound living false = record { work = PacketIsDropped cause.LinkFault refl; hears = HearsNone refl }

    pick : (row : WirePlan) → wire_row plan place.wire ≡ Some row → (to : EdgeId) → mate row edge.me.0 place.peer.0 ≡ Some to → (binding : Binding)
        → (edge.ends place.wire.0 to.0).remote ≡ Some binding → (b : Bool) → nat_eq entry.ttl 1 ≡ b
        → Works (switched_under told octets entry place to (cond b (Err Expired) (Ok binding.label)) begun)
    pick row is to mate_is binding bound true living = dropped cause.Expired
    pick row is to mate_is binding bound false living = posted row is to mate_is binding bound living (next_answer told begun)

    swap : (row : WirePlan) → wire_row plan place.wire ≡ Some row → (to : EdgeId) → mate row edge.me.0 place.peer.0 ≡ Some to → (remote : Option Binding)
        → (edge.ends place.wire.0 to.0).remote ≡ remote → Works (switched_under told octets entry place to (label_onward remote entry.ttl) begun)
    swap row is to mate_is None bound = dropped cause.NoBinding
    swap row is to mate_is (Some binding) bound = pick row is to mate_is binding bound (nat_eq entry.ttl 1) refl

    mated : (row : WirePlan) → wire_row plan place.wire ≡ Some row → (to : Option EdgeId) → mate row edge.me.0 place.peer.0 ≡ to → Works (switched_to told octets entry place to begun)
    mated row is None mate_is = record { work = PacketIsLost refl; hears = HearsNone refl }
    mated row is (Some to) mate_is = swap row is to mate_is (edge.ends place.wire.0 to.0).remote refl

    by : (row : Option WirePlan) → wire_row plan place.wire ≡ row → Works (switched_by told octets entry place row begun)
    by None is = record { work = PacketIsLost refl; hears = HearsNone refl }
    by (Some row) is = mated row is (mate row edge.me.0 place.peer.0) refl

  owned_works : (entry : StackEntry) (place : Option EndPlace) → entry_of octets ≡ Ok entry → advertiser plan edge entry.label ≡ place → Works (owned plan told octets entry place begun)
  unfolding begun
  owned_works entry None read owner = dropped cause.NoLabel
  owned_works entry (Some place) read owner = by place.terminal refl where
    by : (terminal : Bool) → place.terminal ≡ terminal
        → Works (cond terminal (terminated plan told place entry.ttl (wire_row plan place.wire) (end_at edge place).remote (behind_entry octets) begun) (switched plan told octets entry place begun))
    by true terminal = terminated_works entry place (wire_row plan place.wire) (end_at edge place).remote read owner terminal refl refl
    by false terminal = switched_works entry place read owner terminal

  labelled_works : (entry : StackEntry) → entry_of octets ≡ Ok entry → Works (labelled plan told octets entry begun)
  unfolding begun
  labelled_works entry read = by (nat_lt entry.label least_label) entry.bottom where
    by : (reserved bottom : Bool) → Works (cond reserved (drops cause.NoLabel begun)
        (cond bottom (owned plan told octets entry (advertiser plan edge entry.label) begun) (drops cause.NotBottom begun)))
    by true bottom = dropped cause.NoLabel
    by false true = owned_works entry (advertiser plan edge entry.label) read refl
    by false false = dropped cause.NotBottom

  -- behind a router alert
  alerts_works : (entry : StackEntry) (place : Option EndPlace) → entry_of (behind_entry octets) ≡ Ok entry → has_alert (entry_of octets) ≡ true → advertiser plan edge entry.label ≡ place
      → Works (alerts_end plan told (behind_entry (behind_entry octets)) place begun)
  unfolding begun
  alerts_works entry None read alert owner = dropped cause.NoLabel
  alerts_works entry (Some place) read alert owner = by place.terminal refl where
    in_channel : place.terminal ≡ true → (row : Option WirePlan) (remote : Option Binding) → wire_row plan place.wire ≡ row → (end_at edge place).remote ≡ remote
        → Works (alerts_by told place row remote (behind_entry (behind_entry octets)) begun)
    in_channel terminal None remote is bound = dropped cause.NotOffered
    in_channel terminal (Some row) None is bound = dropped cause.NotOffered
    in_channel terminal (Some row) (Some binding) is bound = verifies_in_works Alert entry place row binding read alert owner terminal is bound

    by : (terminal : Bool) → place.terminal ≡ terminal
        → Works (cond terminal (alerts_by told place (wire_row plan place.wire) (end_at edge place).remote (behind_entry (behind_entry octets)) begun) (drops cause.NoLabel begun))
    by true terminal = in_channel terminal (wire_row plan place.wire) (end_at edge place).remote refl refl
    by false terminal = dropped cause.NoLabel

  alerted_works : (read : Result StackEntry DropCause) → entry_of (behind_entry octets) ≡ read → has_alert (entry_of octets) ≡ true → Works (alerted plan told (behind_entry octets) read begun)
  unfolding begun
  alerted_works (Err why) read alert = dropped why
  alerted_works (Ok entry) read alert = by entry.bottom where
    by : (bottom : Bool) → Works (cond bottom (alerts_end plan told (behind_entry (behind_entry octets)) (advertiser plan edge entry.label) begun) (drops cause.NotBottom begun))
    by true = alerts_works entry (advertiser plan edge entry.label) read alert refl
    by false = dropped cause.NotBottom

  opened_works : (read : Result StackEntry DropCause) → entry_of octets ≡ read → Works (opened_by plan told octets read begun)
  opened_works (Err why) is = dropped why
  opened_works (Ok entry) is = by (is_alert entry) refl where
    by : (alert : Bool) → is_alert entry ≡ alert → Works (cond alert (alerted plan told (behind_entry octets) (entry_of (behind_entry octets)) begun) (labelled plan told octets entry begun))
    by true alert = alerted_works (entry_of (behind_entry octets)) refl (ap has_alert is ∙ alert)
    by false alert = labelled_works entry is

packet_worked : (plan : Plan) (told : Answers) (edge : EdgeState) (calls : List LinkCall) (octets : List ℕ) → HasWorked plan edge octets (packet_input plan told octets (beginning edge calls))
unfolding begun
packet_worked plan told edge calls octets = opened_works plan told edge calls octets (entry_of octets) refl

pub packet_work : (plan : Plan) (told : Answers) (edge : EdgeState) (calls : List LinkCall) (octets : List ℕ)
    → PacketWork plan edge octets (packet_input plan told octets (beginning edge calls)).effects
packet_work plan told edge calls octets = (packet_worked plan told edge calls octets).work

pub packet_hears : (plan : Plan) (told : Answers) (edge : EdgeState) (calls : List LinkCall) (octets : List ℕ) → HearsAFrame plan edge octets (packet_input plan told octets (beginning edge calls))
packet_hears plan told edge calls octets = (packet_worked plan told edge calls octets).hears

-- ---- a copy stays behind the wire

-- the port of a wire is a mesh port where the wire is a mesh wire
pub mesh_port : (ports : List Port) (p wire : ℕ) (row : WirePlan) → slice_get ports p ≡ Some (wire_port wire row) → is_mesh_port ports p ≡ is_mesh_class row.class
mesh_port ports p wire row at = ap is_mesh at ∙ wire_class wire row

copy_behind : (plan : Plan) (edge : EdgeState) (octets frame : List ℕ) (place : EndPlace) (row : WirePlan) (from : ℕ) (e : Effect)
    → ComesBy plan edge octets place row → unpacked_at plan row edge.me (behind_entry octets) ≡ Ok frame → LeadsToWire (ports_of plan row.service edge.me) from place.wire.0
    → IsCopy plan edge (arrival.Wire place.wire) row.service frame from e → StaysBehind plan edge octets e
copy_behind plan edge octets frame place row from (effect.Left at bytes) comes formed leads copy =
    record { place = place; row = row; came = comes; same_service = copy.same_service; frame = frame; formed = formed; dressed = copy.dressed }
copy_behind plan edge octets frame place row from (effect.Sent peer wire came bytes) comes formed leads copy =
    let ports : List Port = ports_of plan row.service edge.me in
    let leads_on : LeadsToWire ports copy.p wire.0 = record { is = ap wire_behind copy.by.at ∙ wire_leads wire.0 copy.row } in
    let arrives : is_mesh_port ports from ≡ is_mesh_class row.class = mesh_port ports from place.wire.0 row (wire_port_is plan row.service edge.me from place.wire.0 row leads comes.is) in
    let goes : is_mesh_port ports copy.p ≡ is_mesh_class copy.row.class = mesh_port ports copy.p wire.0 copy.row copy.by.at in
    inl (record {
      place = place;
      row = row;
      by = comes;
      from = copy.same_arrival;
      other = sym (same_wire_port plan row.service edge.me copy.p from wire.0 place.wire.0 leads_on leads) ∙ copy.by.other;
      next = copy.row;
      is = copy.is;
      same_service = copy.same_service;
      not_both_mesh = ap (λ (b : Bool). b && is_mesh_class copy.row.class) (sym arrives) ∙ (ap (λ (b : Bool). is_mesh_port ports from && b) (sym goes) ∙ copy.by.apart);
    })
copy_behind plan edge octets frame place row from (effect.Dropped why) comes formed leads copy = tt
copy_behind plan edge octets frame place row from (effect.Said peer bytes) comes formed leads copy = absurd copy
copy_behind plan edge octets frame place row from (effect.Session peer state) comes formed leads copy = absurd copy
copy_behind plan edge octets frame place row from (effect.Wire wire down) comes formed leads copy = absurd copy
copy_behind plan edge octets frame place row from (effect.Pong wire sequence) comes formed leads copy = absurd copy
copy_behind plan edge octets frame place row from (effect.Closed peer) comes formed leads copy = absurd copy

copies_behind : (plan : Plan) (edge : EdgeState) (octets frame : List ℕ) (place : EndPlace) (row : WirePlan) (from : ℕ) (es : List Effect)
    → ComesBy plan edge octets place row → unpacked_at plan row edge.me (behind_entry octets) ≡ Ok frame → LeadsToWire (ports_of plan row.service edge.me) from place.wire.0
    → AllAreCopies plan edge (arrival.Wire place.wire) row.service frame from es → AllStayBehind plan edge octets es
copies_behind plan edge octets frame place row from [] comes formed leads all = tt
copies_behind plan edge octets frame place row from (e ∷ es) comes formed leads all =
    (copy_behind plan edge octets frame place row from e comes formed leads all.0, copies_behind plan edge octets frame place row from es comes formed leads all.1)

work_stays : (plan : Plan) (edge : EdgeState) (octets : List ℕ) (es : List Effect) → PacketWork plan edge octets es → AllStayBehind plan edge octets es
work_stays plan edge octets es (PacketIsLost none) = subst (AllStayBehind plan edge octets) (sym none) tt
work_stays plan edge octets es (PacketIsDropped why one) = subst (AllStayBehind plan edge octets) (sym one) (tt, tt)
work_stays plan edge octets es (PacketGoesOut out) =
    copies_behind plan edge octets out.frame out.place out.row out.from es out.comes out.formed (found_wire_port out.place.wire (ports_of plan out.row.service edge.me) out.from out.found) out.copies
work_stays plan edge octets es (PacketGoesOn out) = subst (AllStayBehind plan edge octets) (sym out.sent) (
  inr (inl (record { place = out.place; row = out.row; entry = out.entry; read = out.read; owner = out.owner; passing = out.passing; is = out.is; mate_is = out.mate_is; same = refl; from = refl })),
  tt,
)
work_stays plan edge octets es (PacketIsAnswered peer wire bytes back one) = subst (AllStayBehind plan edge octets) (sym one) (inr (inr back), tt)
work_stays plan edge octets es (PacketIsTold wire sequence answer one) = subst (AllStayBehind plan edge octets) (sym one) (answer, tt)

pub packet_stays : (plan : Plan) (told : Answers) (edge : EdgeState) (calls : List LinkCall) (octets : List ℕ)
    → AllStayBehind plan edge octets (packet_input plan told octets (beginning edge calls)).effects
packet_stays plan told edge calls octets = work_stays plan edge octets (packet_input plan told octets (beginning edge calls)).effects (packet_work plan told edge calls octets)

pub packets_stay_local : PacketsStayLocal
packets_stay_local plan told edge calls octets = packet_stays plan told edge calls octets

-- ---- a packet whose inner frame is heard

-- behind a control word stands no associated channel, where there is a frame
record IsNoChannel (payload : List ℕ) : Type 0 where
  some : nat_eq (length payload) 0 ≡ false
  frame : is_channel payload ≡ false

no_channel : (tagged : Bool) (mtu : ℕ) (payload frame : List ℕ) → frame_behind tagged mtu (behind_control true payload) ≡ Ok frame → IsNoChannel payload
no_channel tagged mtu payload frame formed = by (nat_lt (length payload) 4) (nat_eq (slice_index payload 0 / 16) 0) refl refl formed where
  by : (short zeros : Bool) → nat_lt (length payload) 4 ≡ short → nat_eq (slice_index payload 0 / 16) 0 ≡ zeros
      → frame_behind tagged mtu (cond short (Err cause.Short) (cond (not zeros) (Err cause.BadNibble) (Ok (drop 4 payload)))) ≡ Ok frame → IsNoChannel payload
  by true zeros is_short are_zeros e = absurd (cc (e))
  by false false is_short are_zeros e = absurd (cc (e))
  by false true is_short are_zeros e = record {
    some = ne_eqb (length payload) 0 (λ none. absurd (cc (sym is_short ∙ ap (λ (n : ℕ). nat_lt n 4) none)));
    frame = ap (λ (n : ℕ). nat_eq n 1) (eqb-true (slice_index payload 0 / 16) 0 are_zeros);
  }

module _ (plan : Plan) (told : Answers) (octets frame : List ℕ) (work : Work) (place : EndPlace) (row : WirePlan) where
  abbrev heard : Work
  heard = forwarded plan told (arrival.Wire place.wire) row.service frame (port_of_wire plan work.edge place.wire row) work

  enters_is : down_at plan work.edge place ≡ None → unpacked_at plan row work.edge.me (behind_entry octets) ≡ Ok frame → enters plan told row place (behind_entry octets) work ≡ heard
  enters_is forwards formed =
      ap (λ (down : Option Down). cond (is_up down) (bridges_frame plan told row place (behind_entry octets) work) (drops cause.Down work)) forwards
      ∙ ap (λ (read : Result (List ℕ) DropCause). received plan told (arrival.Wire place.wire) row.service (port_of_wire plan work.edge place.wire row) read work) formed

  offered_is : (binding : Binding) (ttl : ℕ) (cword tagged : Bool) (mtu : ℕ) → nat_eq ttl 1 ≡ false → frame_behind tagged mtu (behind_control cword (behind_entry octets)) ≡ Ok frame
      → enters plan told row place (behind_entry octets) work ≡ heard → by_offer plan told row place binding ttl cword (behind_entry octets) work ≡ heard
  offered_is binding ttl false tagged mtu living formed entered =
      ap (λ (b : Bool). cond (b && is_picked Expiry (channel_under row work.edge.me binding)) (verifies told place row Expiry binding (behind_entry octets) work)
      (enters plan told row place (behind_entry octets) work)) living
      ∙ entered
  offered_is binding ttl true tagged mtu living formed entered =
      let no = no_channel tagged mtu (behind_entry octets) frame formed in
      let verified : Work = verifies_in told place row Header binding (behind_entry octets) work in
      ap (λ (b : Bool). cond b (drops cause.Short work) (cond (is_channel (behind_entry octets)) verified (enters plan told row place (behind_entry octets) work))) no.some
      ∙ (ap (λ (b : Bool). cond b verified (enters plan told row place (behind_entry octets) work)) no.frame ∙ entered)

  by_offer_is : (binding : Binding) (ttl : ℕ) (mtu : Option ℕ) → nat_eq ttl 1 ≡ false → unpacked_by (offer_of row work.edge.me.0) mtu (behind_entry octets) ≡ Ok frame
      → enters plan told row place (behind_entry octets) work ≡ heard → by_offer plan told row place binding ttl (offer_of row work.edge.me.0).cword (behind_entry octets) work ≡ heard
  by_offer_is binding ttl None living formed entered = absurd (cc (formed))
  by_offer_is binding ttl (Some mtu) living formed entered = offered_is binding ttl (offer_of row work.edge.me.0).cword (offer_of row work.edge.me.0).tagged mtu living formed entered

  terminated_is : (binding : Binding) (ttl : ℕ) → (end_at work.edge place).remote ≡ Some binding → wire_row plan place.wire ≡ Some row → down_at plan work.edge place ≡ None → nat_eq ttl 1 ≡ false
      → unpacked_at plan row work.edge.me (behind_entry octets) ≡ Ok frame
      → terminated plan told place ttl (wire_row plan place.wire) (end_at work.edge place).remote (behind_entry octets) work ≡ heard
  terminated_is binding ttl bound is forwards living formed =
      ap (λ (r : Option WirePlan). terminated plan told place ttl r (end_at work.edge place).remote (behind_entry octets) work) is
      ∙ (ap (λ (b : Option Binding). terminated plan told place ttl (Some row) b (behind_entry octets) work) bound
      ∙ by_offer_is binding ttl (mtu_of plan row.service) living formed (enters_is forwards formed))

  -- A packet with one entry, the label of a bound end that forwards, a TTL that does not end here, and behind it a frame: the frame is
  -- heard by the port of the wire.
  pub packet_is : (binding : Binding) (comes : ComesBy plan work.edge octets place row) → comes.entry.bottom ≡ true → nat_lt comes.entry.label least_label ≡ false → nat_eq comes.entry.ttl 1 ≡ false
      → (end_at work.edge place).remote ≡ Some binding
      → unpacked_at plan row work.edge.me (behind_entry octets) ≡ Ok frame → packet_input plan told octets work ≡ heard
  packet_is binding comes bottom given living bound formed =
      let entry : StackEntry = comes.entry in
      let alert : is_alert entry ≡ false = ap (λ (b : Bool). nat_eq entry.label 1 && not b) bottom ∙ and_false (nat_eq entry.label 1) in
      ap (λ (read : Result StackEntry DropCause). opened_by plan told octets read work) comes.read
      ∙ (ap (λ (b : Bool). cond b (alerted plan told (behind_entry octets) (entry_of (behind_entry octets)) work) (labelled plan told octets entry work)) alert
      ∙ (ap (λ (b : Bool). cond b (drops cause.NoLabel work) (cond entry.bottom (owned plan told octets entry (advertiser plan work.edge entry.label) work) (drops cause.NotBottom work))) given
      ∙ (ap (λ (b : Bool). cond b (owned plan told octets entry (advertiser plan work.edge entry.label) work) (drops cause.NotBottom work)) bottom
      ∙ (ap (λ (o : Option EndPlace). owned plan told octets entry o work) comes.owner
      ∙ (ap (λ (b : Bool). cond b (terminated plan told place entry.ttl (wire_row plan place.wire) (end_at work.edge place).remote (behind_entry octets) work)
      (switched plan told octets entry place work)) comes.terminal
      ∙ terminated_is binding comes.entry.ttl bound comes.is comes.forwards living formed)))))

-- ---- the end by which a packet comes

-- the end owns the label
pub record Advertises (edge : EdgeState) (place : EndPlace) (label : ℕ) : Type 0 where
  pub told : Told
  pub is : (end_at edge place).local ≡ Advertised label told

advertises_by : (edge : EdgeState) (place : EndPlace) (label : ℕ) → advertises_label label (end_at edge place).local ≡ true → Advertises edge place label
advertises_by edge place label owns = by (end_at edge place).local refl owns where
  by : (local : LocalPart) → (end_at edge place).local ≡ local → advertises_label label local ≡ true → Advertises edge place label
  by (Idle declined) is e = absurd (cc (e))
  by (Advertised own told) is e = record { told = told; is = is ∙ ap (λ (n : ℕ). Advertised n told) (eqb-true own label e) }
  by (Withdrawing own) is e = absurd (cc (e))

pub owner_advertises : (plan : Plan) (edge : EdgeState) (label : ℕ) (place : EndPlace) → advertiser plan edge label ≡ Some place → Advertises edge place label
owner_advertises plan edge label place owner =
    advertises_by edge place label (found_passes (λ (place : EndPlace). advertises_label label (end_at edge place).local) (end_places plan edge.me) place owner)

-- and is one of the plan
pub owner_is : (plan : Plan) (edge : EdgeState) (label : ℕ) (place : EndPlace) → advertiser plan edge label ≡ Some place → IsEndOf plan edge.me place
owner_is plan edge label place owner =
    found_among (IsEndOf plan edge.me) (λ (place : EndPlace). advertises_label label (end_at edge place).local) (end_places plan edge.me) place (places_are plan edge.me) owner

-- so is the end of a wire
pub wire_end_is : (plan : Plan) (me : EdgeId) (wire : WireId) (place : EndPlace) → wire_end plan me wire ≡ Some place → IsEndOf plan me place
wire_end_is plan me wire place found = found_among (IsEndOf plan me) (is_end_of_wire wire) (end_places plan me) place (places_are plan me) found

-- the wire of a terminal end has a port of its service at the edge
pub wire_found : (plan : Plan) (me : EdgeId) (place : EndPlace) (row : WirePlan) → IsEndOf plan me place → place.terminal ≡ true → wire_row plan place.wire ≡ Some row
    → (p : ℕ) × (position (is_wire_port place.wire) (ports_of plan row.service me) ≡ Some p)
wire_found plan me place row of_plan terminal is =
    let rows : Some of_plan.row ≡ Some row = sym of_plan.is ∙ is in
    let same : of_plan.row ≡ row = cc (rows) in
    let ends : is_terminal row me ≡ true = ap (λ (r : WirePlan). is_terminal r me) (sym same) ∙ (sym of_plan.terminal ∙ terminal) in
    let at : wire_ends_at row.service me.0 row ≡ true = and_from (nat_eq row.service.0 row.service.0) (is_terminal row me) (eq-eqb row.service.0 row.service.0 refl) ends in
    finds_wire_port place.wire (ports_of plan row.service me) (has_wire_port plan row.service me place.wire.0 row is at)
