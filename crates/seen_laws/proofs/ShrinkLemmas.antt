-- What a bridge has not learned it does not learn but by a frame.
use Rattle.std.proofs.Common.{◌≡◌, ◌+◌, ◌&&◌, ◌∙◌, not, ℕ, zero, suc, Bool, true, false, List, Option, Some, None, cond, filter, length, nat_eq, refl, sym, ap, slice_get}
use Rattle.std.proofs.lemmas.Bool.{eqb-true}
use Rattle.net_base.specs.declared.plan.Plan.{Plan}
use Rattle.net_base.specs.declared.plan.circuit_plan.CircuitPlan.{CircuitPlan}
use Rattle.net_base.specs.declared.plan.edge_plan.EdgePlan.{EdgePlan}
use Rattle.net_base.specs.declared.plan.places.CircuitId.{CircuitId}
use Rattle.net_base.specs.declared.plan.places.EdgeId.{EdgeId}
use Rattle.net_base.specs.declared.plan.places.ServiceId.{ServiceId}
use Rattle.net_base.specs.declared.plan.places.WireId.{WireId}
use Rattle.net_base.specs.declared.plan.service_plan.ServicePlan.{ServicePlan}
use Rattle.net_base.specs.declared.plan.wire_plan.WirePlan.{WirePlan}
use Rattle.net_base.specs.declared.trace.down.Down.{Down}
use Rattle.net_base.specs.declared.trace.state_name.Reason.TheVariants as reason
use Rattle.net_base.specs.plan.Paths.{are_joined}
use Rattle.net_base.specs.plan.Places.{wire_row}
use Rattle.net_values.specs.declared.mac.Mac.{Mac}
use Rattle.ldp_grammar.specs.declared.message.Message.{Message}
use Rattle.mac_table.specs.Addresses.{has_address}
use Rattle.mac_table.specs.declared.mac_entry.MacEntry.{MacEntry}
use Rattle.mac_table.proofs.AddressLemmas.{absent-filter}
use Rattle.pw_signalling.specs.declared.told.Told.{Told}
use Rattle.pw_signalling.specs.End.{EndState}
use Rattle.pw_signalling.specs.Rows.{bound, group_stated, group_unbound, stated, telling, unbound, withdrawn}
use Rattle.pw_tlvs.specs.declared.pw_fec.PwFec.{PwFec}
use Rattle.session_core.specs.Table.{Closed, Ticked}
use Rattle.edge_model.specs.Circuit.{circuit_input, is_same, turned}
use Rattle.edge_model.specs.Clear.{withdrawing_at}
use Rattle.edge_model.specs.Connection.{connected_input, connects, connects_between, lost_input, opened_with, restart_input}
use Rattle.pw_messages.specs.Content.{mac_withdrawal, mapping, release, status_notification, withdrawal}
use Rattle.edge_model.specs.declared.effect.Effect.TheVariants as effect
use Rattle.edge_model.specs.declared.end_place.EndPlace.{EndPlace}
use Rattle.edge_model.specs.EndPlaces.{end_named, ends_here, passes}
use Rattle.edge_model.specs.Frame.{is_own, port_at}
use Rattle.edge_model.specs.Hear.{hears_on, octets_input}
use Rattle.edge_model.specs.Mend.{advertising, forgetting_wire, mends, port_of_wire, telling_status, withdrawing}
use Rattle.edge_model.specs.Ping.{ping_input}
use Rattle.edge_model.specs.Role.{down_at, status_to_tell}
use Rattle.edge_model.specs.Labels.{releasing}
use Rattle.edge_model.specs.Session.{happens_with_ends, says}
use Rattle.edge_model.specs.Signal.{end_of_fec, with_end_changed, with_named, with_released}
use Rattle.edge_model.specs.Spokes.{choosing}
use Rattle.edge_model.specs.State.{EdgeState, Peering, addresses_of, end_at, has_end, is_on, with_addresses, with_bits, with_chosen, with_circuit, with_end, with_ends_beside, with_kept, with_learned, with_next_label, with_peering, with_priority, with_renewed, with_ticks, with_told_down, with_wire, without_ends, without_peerings, without_port}
use Rattle.edge_model.specs.Tick.{aged, counted, forgetting, tick_input, ticks_sessions}
use Rattle.edge_model.specs.Wire.{is_own_spoke, priority_input, status_input, turned_wire, wire_input}
use Rattle.edge_model.specs.Work.{Work, changes, gives, idles}
use Rattle.pw_messages.specs.LinkAnswers.{Answers}
use Rattle.edge_model.proofs.BridgeLemmas.{PingsInput, ping_bridges}
use Rattle.edge_model.proofs.SessionLemmas.{advice_works, any, connects_works, happens_with_ends_works, says_works}
use Rattle.edge_model.proofs.WalkLemmas.{HearSteps, MendSteps, hears_on_holds, mends_holds}

-- no address comes into the tables
pub record Shrinks (old new : EdgeState) : Type 0 where
  pub gone : (service : ℕ) (address : Mac) → has_address (old.learned service) address ≡ false → has_address (new.learned service) address ≡ false

abbrev pub WorkShrinks : Work → Work → Type 0
WorkShrinks old new = Shrinks old.edge new.edge

same_shrinks : (old new : EdgeState) → new.learned ≡ old.learned → Shrinks old new
same_shrinks old new same = record { gone = λ service address absent. ap (λ (l : ℕ → List MacEntry). has_address (l service) address) same ∙ absent }

shrinks_then : (a b c : EdgeState) → Shrinks a b → Shrinks b c → Shrinks a c
shrinks_then a b c first next = record { gone = λ service address absent. next.gone service address (first.gone service address absent) }

change_shrinks : (change : EdgeState → EdgeState) (work : Work) → Shrinks work.edge (change work.edge) → WorkShrinks work (changes change work)
unfolding changes
change_shrinks change work shrinks = shrinks

-- the addresses of one service are fewer
addresses_shrink : (service : ServiceId) (p : MacEntry → Bool) (edge : EdgeState) → Shrinks edge (with_addresses service (filter p (addresses_of edge service)) edge)
unfolding with_addresses
addresses_shrink service p edge = record { gone = λ k address absent. by k address absent (nat_eq k service.0) refl } where
  by : (k : ℕ) (address : Mac) → has_address (edge.learned k) address ≡ false → (b : Bool) → nat_eq k service.0 ≡ b
      → has_address (cond b (filter p (edge.learned service.0)) (edge.learned k)) address ≡ false
  by k address absent true same = absent-filter p (edge.learned service.0) address (ap (λ (n : ℕ). has_address (edge.learned n) address) (sym (eqb-true k service.0 same)) ∙ absent)
  by k address absent false other = absent

port_shrinks : (service : ServiceId) (port : Option ℕ) (edge : EdgeState) → Shrinks edge (with_addresses service (without_port port (addresses_of edge service)) edge)
unfolding with_addresses
port_shrinks service None edge = record { gone = λ k address absent. by k address absent (nat_eq k service.0) refl } where
  by : (k : ℕ) (address : Mac) → has_address (edge.learned k) address ≡ false → (b : Bool) → nat_eq k service.0 ≡ b → has_address (cond b (edge.learned service.0) (edge.learned k)) address ≡ false
  by k address absent true same = ap (λ (n : ℕ). has_address (edge.learned n) address) (sym (eqb-true k service.0 same)) ∙ absent
  by k address absent false other = absent
port_shrinks service (Some p) edge = addresses_shrink service (λ e. not (nat_eq e.port p)) edge

says_shrinks : (told : Answers) (peer : EdgeId) (message : ℕ → Message) (work : Work) → WorkShrinks work (says told peer message work).work
says_shrinks told peer message work = same_shrinks work.edge (says told peer message work).work.edge (says_works told any peer message work refl).edge.learned

then_says : (told : Answers) (peer : EdgeId) (message : ℕ → Message) (change : EdgeState → EdgeState) (work : Work) → WorkShrinks work (changes change work)
    → WorkShrinks work (says told peer message (changes change work)).work
then_says told peer message change work first = shrinks_then work.edge (changes change work).edge (says told peer message (changes change work)).work.edge first
    (says_shrinks told peer message (changes change work))

end_same : (place : EndPlace) (end : EdgeState → EndState) (edge : EdgeState) → Shrinks edge (with_end place (end edge) edge)
unfolding with_end
end_same place end edge = same_shrinks edge (with_end place (end edge) edge) refl

advertising_same : (place : EndPlace) (label : ℕ) (content : Told) (edge : EdgeState) → Shrinks edge (advertising place label content edge)
unfolding with_end with_kept with_next_label
advertising_same place label content edge = same_shrinks edge (advertising place label content edge) refl

choosing_same : (plan : Plan) (edge : EdgeState) → Shrinks edge (choosing plan edge)
unfolding with_chosen
choosing_same plan edge = same_shrinks edge (choosing plan edge) refl

down_same : (wire : WireId) (down : Option Down) (work : Work) → WorkShrinks work (gives (effect.Wire wire down) (changes (with_told_down wire down) work))
unfolding gives changes with_told_down
down_same wire down work = same_shrinks work.edge (with_told_down wire down work.edge) refl

forgetting_shrinks : (plan : Plan) (wire : WireId) (row : Option WirePlan) (edge : EdgeState) → Shrinks edge (forgetting_wire plan wire row edge)
forgetting_shrinks plan wire None edge = same_shrinks edge edge refl
forgetting_shrinks plan wire (Some row) edge = port_shrinks row.service (port_of_wire plan edge wire row) edge

beside_same : (peer : EdgeId) (change : EndState → EndState) (edge : EdgeState) → Shrinks edge (with_ends_beside peer change edge)
unfolding with_ends_beside
beside_same peer change edge = same_shrinks edge (with_ends_beside peer change edge) refl

changed_same : (change : EndState → EndState) (place : Option EndPlace) (edge : EdgeState) → Shrinks edge (with_end_changed change place edge)
changed_same change None edge = same_shrinks edge edge refl
changed_same change (Some place) edge = end_same place (λ e. change (end_at e place)) edge

releasing_same : (label : Option ℕ) (place : EndPlace) (edge : EdgeState) → Shrinks edge (releasing label place edge)
unfolding with_end with_kept
releasing_same label place edge = same_shrinks edge (releasing label place edge) refl

released_same : (label : Option ℕ) (place : Option EndPlace) (edge : EdgeState) → Shrinks edge (with_released label place edge)
released_same label None edge = same_shrinks edge edge refl
released_same label (Some place) edge = releasing_same label place edge

named_same : (plan : Plan) (peer : EdgeId) (fec : PwFec) (one all : EndState → EndState) (pw_id : Option ℕ) (edge : EdgeState) → Shrinks edge (with_named plan peer fec one all pw_id edge)
named_same plan peer fec one all None edge = beside_same peer all edge
named_same plan peer fec one all (Some pw_id) edge = changed_same one (end_named plan edge.me peer pw_id) edge

peering_same : (peer : EdgeId) (kept : Option Peering) (edge : EdgeState) → Shrinks edge (with_peering peer kept edge)
unfolding with_peering
peering_same peer kept edge = same_shrinks edge (with_peering peer kept edge) refl

-- ---- walks

mend_shrinks : (plan : Plan) (told : Answers) → MendSteps plan told WorkShrinks
mend_shrinks plan told = record {
  same = λ work. same_shrinks work.edge work.edge refl;
  joined = λ a b c first next. shrinks_then a.edge b.edge c.edge first next;
  advertises = λ place label content work here idle wished left.
      then_says told place.peer (mapping place.pw_id label content) (advertising place label content) work
      (change_shrinks (advertising place label content) work (advertising_same place label content work.edge));
  withdraws = λ place label content work here is wished.
      then_says told place.peer (withdrawal place.pw_id label content) (withdrawing place) work (change_shrinks (withdrawing place) work (end_same place (λ e. withdrawn (end_at e place)) work.edge));
  chooses = λ work. change_shrinks (choosing plan) work (choosing_same plan work.edge);
  tells_status = λ place label content last work here status is other.
      then_says told place.peer (status_notification place.pw_id (status_to_tell plan work.edge place) content) (telling_status place (status_to_tell plan work.edge place)) work
      (change_shrinks (telling_status place (status_to_tell plan work.edge place)) work (end_same place (λ e. telling (status_to_tell plan work.edge place) (end_at e place)) work.edge));
  tells_piece = λ place label content addresses work is. says_shrinks told place.peer (mac_withdrawal place.pw_id addresses content) work;
  tells_down = λ place work here terminal other. down_same place.wire (down_at plan work.edge place) work;
  forgets_wire = λ place why work here terminal is. change_shrinks (forgetting_wire plan place.wire (wire_row plan place.wire)) work
      (forgetting_shrinks plan place.wire (wire_row plan place.wire) work.edge);
}

hear_shrinks : (plan : Plan) (told : Answers) → HearSteps plan told WorkShrinks
hear_shrinks plan told = record {
  mend = mend_shrinks plan told;
  happens = λ peer event work. same_shrinks work.edge (happens_with_ends told peer event work).edge (happens_with_ends_works told any peer event work refl).edge.learned;
  advises = λ peer reply work. same_shrinks work.edge _ (advice_works told any peer reply work refl).edge.learned;
  holds = λ peer kept octets work is. change_shrinks (with_peering peer (Some (record kept { held = octets }))) work (peering_same peer (Some (record kept { held = octets })) work.edge);
  releases = λ peer fec label work. says_shrinks told peer (release fec label) work;
  binds = λ peer fec place binding work there is taken. change_shrinks (with_end_changed (bound binding) (Some place)) work (changed_same (bound binding) (Some place) work.edge);
  unbinds = λ peer fec label work there. change_shrinks (with_named plan peer fec (unbound label) (group_unbound fec.group) fec.pw_id) work
      (named_same plan peer fec (unbound label) (group_unbound fec.group) fec.pw_id work.edge);
  released = λ peer fec label work there. change_shrinks (λ edge. with_released label (end_of_fec plan edge peer fec) edge) work (released_same label (end_of_fec plan work.edge peer fec) work.edge);
  states = λ peer fec status work there. change_shrinks (with_named plan peer fec (stated status) (group_stated fec.group status) fec.pw_id) work
      (named_same plan peer fec (stated status) (group_stated fec.group status) fec.pw_id work.edge);
  clears = λ service addresses from work. change_shrinks (withdrawing_at service addresses from) work
      (addresses_shrink service (Rattle.mac_table.specs.Addresses.entry_stays from addresses) work.edge);
}

-- ---- single changes

set_same : (circuit : CircuitId) (on : Bool) (edge : EdgeState) → Shrinks edge (with_circuit circuit on edge)
unfolding with_circuit
set_same circuit on edge = same_shrinks edge (with_circuit circuit on edge) refl

off_shrinks : (plan : Plan) (circuit : CircuitId) (row : CircuitPlan) (edge : EdgeState) → Shrinks edge (turned plan circuit row false edge)
unfolding with_circuit
off_shrinks plan circuit row edge = shrinks_then edge (with_circuit circuit false edge) (turned plan circuit row false edge) (set_same circuit false edge)
    (port_shrinks row.service (port_at plan edge circuit row) (with_circuit circuit false edge))

turned_same : (wire : WireId) (on : Bool) (edge : EdgeState) → Shrinks edge (turned_wire wire on edge)
unfolding with_wire with_renewed
turned_same wire true edge = same_shrinks edge (turned_wire wire true edge) refl
turned_same wire false edge = same_shrinks edge (turned_wire wire false edge) refl

bits_same : (wire : WireId) (bits : ℕ) (edge : EdgeState) → Shrinks edge (with_bits wire bits edge)
unfolding with_bits
bits_same wire bits edge = same_shrinks edge (with_bits wire bits edge) refl

priority_same : (wire : WireId) (priority : ℕ) (edge : EdgeState) → Shrinks edge (with_priority wire priority edge)
unfolding with_priority
priority_same wire priority edge = same_shrinks edge (with_priority wire priority edge) refl

counted_same : (edge : EdgeState) → Shrinks edge (counted edge)
unfolding with_kept with_ticks
counted_same edge = same_shrinks edge (counted edge) refl

ticks_shrink : (plan : Plan) (told : Answers) (place count : ℕ) (work : Work) → WorkShrinks work (ticks_sessions told place count work)
ticks_shrink plan told place zero work = same_shrinks work.edge work.edge refl
ticks_shrink plan told place (suc count) work =
    let first : Work = happens_with_ends told (record { 0 = place }) Ticked work in
    shrinks_then work.edge first.edge (ticks_sessions told (place + 1) count first).edge ((hear_shrinks plan told).happens (record { 0 = place }) Ticked work)
    (ticks_shrink plan told (place + 1) count first)

aged_absent : (now : ℕ) (row : Option ServicePlan) (entries : List MacEntry) (address : Mac) → has_address entries address ≡ false → has_address (aged now row entries) address ≡ false
aged_absent now None entries address absent = absent
aged_absent now (Some row) entries address absent = absent-filter _ entries address absent

aging_shrinks : (plan : Plan) (edge : EdgeState) → Shrinks edge (forgetting plan edge)
unfolding with_learned
aging_shrinks plan edge = record { gone = λ k address absent. aged_absent edge.ticks (slice_get plan.services k) (edge.learned k) address absent }

pub restart_shrinks : (work : Work) → WorkShrinks work (restart_input work)
unfolding changes with_kept with_learned without_ends without_peerings
restart_shrinks work = record { gone = λ k address absent. refl }

-- ---- inputs

module _ (plan : Plan) (told : Answers) (work : Work) where
  mended : (first : Work) → WorkShrinks work first → WorkShrinks work (mends plan told first)
  mended first shrinks = shrinks_then work.edge first.edge (mends plan told first).edge shrinks (mends_holds plan told WorkShrinks (mend_shrinks plan told) first)

  idles_same : WorkShrinks work (idles work)
  unfolding idles
  idles_same = same_shrinks work.edge work.edge refl

  applied : (b : Bool) (first : Work) → WorkShrinks work first → WorkShrinks work (cond b (mends plan told first) (idles work))
  applied true first shrinks = mended first shrinks
  applied false first shrinks = idles_same

  pub lost_shrinks : (peer : EdgeId) → WorkShrinks work (lost_input plan told peer work)
  lost_shrinks peer = applied (has_end work.edge peer) (happens_with_ends told peer (Closed reason.Closed) work) ((hear_shrinks plan told).happens peer (Closed reason.Closed) work)

  pub connected_shrinks : (peer : EdgeId) → WorkShrinks work (connected_input plan told peer work)
  connected_shrinks peer = by (are_joined plan work.edge.me.0 peer.0 && not (has_end work.edge peer)) where
    between : (own other : Option EdgePlan) → WorkShrinks work (connects_between plan told peer own other work)
    between None other = idles_same
    between (Some own) None = idles_same
    between (Some own) (Some other) = mended (connects told peer (opened_with own other) work)
        (same_shrinks work.edge (connects told peer (opened_with own other) work).edge (connects_works told any peer (opened_with own other) work refl).edge.learned)

    by : (b : Bool) → WorkShrinks work (cond b (connects_between plan told peer (slice_get plan.edges work.edge.me.0) (slice_get plan.edges peer.0) work) (idles work))
    by true = between (slice_get plan.edges work.edge.me.0) (slice_get plan.edges peer.0)
    by false = idles_same

  pub octets_shrink : (peer : EdgeId) (octets : List ℕ) (kept : Option Peering) → WorkShrinks work (octets_input plan told peer octets kept work)
  octets_shrink peer octets None = idles_same
  octets_shrink peer octets (Some kept) = mended (hears_on plan told peer octets (Some kept) work) (hears_on_holds plan told WorkShrinks (hear_shrinks plan told) peer octets (Some kept) work)

  pub circuit_shrinks : (circuit : CircuitId) (on : Bool) (row : Option CircuitPlan) → WorkShrinks work (circuit_input plan told circuit on row work)
  circuit_shrinks circuit on None = idles_same
  circuit_shrinks circuit on (Some row) = applied (is_own work.edge row && not (is_same on (is_on work.edge circuit))) (changes (turned plan circuit row on) work) (change_shrinks (turned plan circuit row on) work (turns on work.edge)) where
    turns : (on : Bool) (edge : EdgeState) → Shrinks edge (turned plan circuit row on edge)
    turns true edge = set_same circuit true edge
    turns false edge = off_shrinks plan circuit row edge

  pub wire_shrinks : (wire : WireId) (on : Bool) → WorkShrinks work (wire_input plan told wire on work)
  wire_shrinks wire on = applied (passes plan work.edge.me wire && not (is_same on (work.edge.wire_on wire.0))) (changes (turned_wire wire on) work)
      (change_shrinks (turned_wire wire on) work (turned_same wire on work.edge))

  pub status_shrinks : (wire : WireId) (bits : ℕ) → WorkShrinks work (status_input plan told wire bits work)
  status_shrinks wire bits = applied (ends_here plan work.edge.me wire && not (nat_eq bits (work.edge.bits wire.0))) (changes (with_bits wire bits) work)
      (change_shrinks (with_bits wire bits) work (bits_same wire bits work.edge))

  pub priority_shrinks : (wire : WireId) (priority : ℕ) → WorkShrinks work (priority_input plan told wire priority work)
  priority_shrinks wire priority = applied (is_own_spoke work.edge.me (wire_row plan wire) && not (nat_eq priority (work.edge.priority wire.0)))
      (changes (with_priority wire priority) work) (change_shrinks (with_priority wire priority) work (priority_same wire priority work.edge))

  pub ping_shrinks : (wire : WireId) → WorkShrinks work (ping_input plan told wire work)
  ping_shrinks wire =
      let pings : PingsInput work (ping_input plan told wire work) = ping_bridges plan told wire work in
      same_shrinks work.edge (ping_input plan told wire work).edge (ap (λ (e : EdgeState). e.learned) pings.edge)

  pub tick_shrinks : WorkShrinks work (tick_input plan told work)
  tick_shrinks =
      let first : Work = changes counted work in
      let ticked : Work = ticks_sessions told 0 (length plan.edges) first in
      mended (changes (forgetting plan) ticked)
      (shrinks_then work.edge first.edge (changes (forgetting plan) ticked).edge (change_shrinks counted work (counted_same work.edge))
      (shrinks_then first.edge ticked.edge (changes (forgetting plan) ticked).edge (ticks_shrink plan told 0 (length plan.edges) first)
      (change_shrinks (forgetting plan) ticked (aging_shrinks plan ticked.edge))))
