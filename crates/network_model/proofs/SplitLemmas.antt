-- Split horizon holds of every run.
use Rattle.std.proofs.Common.{◌≡◌, ◌⊎◌, inl, inr, nat_eq, ◌||◌, ◌&&◌, ◌∙◌, ℕ, Bool, true, false, List, [], ◌∷◌, Option, Some, None, cond, refl, ap, sym, subst}
use Rattle.net_base.specs.declared.plan.Plan.{Plan}
use Rattle.net_base.specs.declared.plan.circuit_plan.CircuitPlan.{CircuitPlan}
use Rattle.net_base.specs.declared.plan.places.CircuitId.{CircuitId}
use Rattle.net_base.specs.declared.plan.places.EdgeId.{EdgeId}
use Rattle.net_base.specs.declared.plan.places.WireId.{WireId}
use Rattle.net_base.specs.declared.trace.arrival.Arrival.{Arrival}
use Rattle.net_base.specs.declared.trace.entry.Entry.{Entry}
use Rattle.net_base.specs.declared.trace.entry.Entry.TheVariants.{Left, Sent}
use Rattle.net_base.specs.declared.trace.event.Event.{Event}
use Rattle.net_base.specs.declared.trace.event.Event.TheVariants.{Tick, Frame, Arrive, Discard, Again, Ping}
use Rattle.net_base.specs.plan.Places.{circuit_row, is_mesh_class, is_mesh_row, is_mesh_wire}
use Rattle.net_base.specs.plan.Paths.{mate_on}
use Rattle.net_base.specs.trace.Split.{Split, SplitSent, is_before_last, is_inside, is_inside_row, is_switching_point}
use Rattle.net_base.proofs.TraceLemmas.{split-append}
use Rattle.edge_model.specs.declared.effect.Effect.{Effect}
use Rattle.edge_model.specs.declared.effect.Effect.TheVariants as effect
use Rattle.edge_model.specs.Local.{AllStayAsked, AllStayBehind, AllStayBeside, SentBack, SentBehind, SentOn}
use Rattle.edge_model.specs.State.{EdgeState}
use Rattle.edge_model.proofs.LocalLemmas.{input_stays}
use Rattle.edge_model.proofs.PacketLemmas.{packet_stays}
use Rattle.edge_model.proofs.PingLemmas.{pings_stay_local}
use Rattle.network_model.specs.declared.packet.Packet.{Packet}
use Rattle.network_model.specs.Absorb.{absorb, absorb_one, all_entries_of, idle, taken_all}
use Rattle.network_model.specs.Frame.{entering, frame_event, frame_work, next_origin}
use Rattle.network_model.specs.Laws.{RunsAreSplit}
use Rattle.network_model.specs.Packet.{again_event, arrive_event, discard_event, packet_at, packet_work}
use Rattle.network_model.specs.Ping.{ping_event, ping_work}
use Rattle.network_model.specs.Run.{entries_along}
use Rattle.network_model.specs.State.{NetworkState, edge_at, empty_network}
use Rattle.network_model.specs.Step.{step}
use Rattle.network_model.specs.Tick.{tick_event}
use Rattle.network_model.proofs.PlaceLemmas.{IsPlaced, step_placed}
use Rattle.network_model.proofs.QuietLemmas.{NoneGoesOut, step_signals, tick_tells}

-- what an edge sends on an input came by a circuit, or by another wire that is not a mesh wire as it is
abbrev AllSplit : Plan → EdgeId → List Effect → Type 0
AllSplit plan me [] = Unit {0}
AllSplit plan me (effect.Sent peer wire came octets ∷ es) = SplitSent plan me wire came × AllSplit plan me es
AllSplit plan me (e ∷ es) = AllSplit plan me es

effects_split : (plan : Plan) (me : EdgeId) (origin hops : ℕ) (network : NetworkState) (es : List Effect) → AllSplit plan me es → Split plan (all_entries_of me origin hops es network)
effects_split plan me origin hops network [] all = tt
effects_split plan me origin hops network (effect.Said peer bytes ∷ es) all = (tt, effects_split plan me origin hops (absorb_one me origin hops (effect.Said peer bytes) network) es all)
effects_split plan me origin hops network (effect.Sent peer wire came bytes ∷ es) all =
    (all.0, effects_split plan me origin hops (absorb_one me origin hops (effect.Sent peer wire came bytes) network) es all.1)
effects_split plan me origin hops network (effect.Left at bytes ∷ es) all = (tt, effects_split plan me origin hops network es all)
effects_split plan me origin hops network (effect.Dropped cause ∷ es) all = (tt, effects_split plan me origin hops network es all)
effects_split plan me origin hops network (effect.Session peer state ∷ es) all = (tt, effects_split plan me origin hops network es all)
effects_split plan me origin hops network (effect.Wire wire down ∷ es) all = (tt, effects_split plan me origin hops network es all)
effects_split plan me origin hops network (effect.Pong wire sequence ∷ es) all = (tt, effects_split plan me origin hops network es all)
effects_split plan me origin hops network (effect.Closed peer ∷ es) all = effects_split plan me origin hops (absorb_one me origin hops (effect.Closed peer) network) es all

-- on a frame
beside_split : (plan : Plan) (sender : CircuitId) (me : EdgeId) (octets : List ℕ) (es : List Effect) → AllStayBeside plan sender octets es → AllSplit plan me es
beside_split plan sender me octets [] all = tt
beside_split plan sender me octets (effect.Sent peer wire came bytes ∷ es) all = (subst (λ (a : Arrival). SplitSent plan me wire a) (sym all.0.from) tt, beside_split plan sender me octets es all.1)
beside_split plan sender me octets (e ∷ es) all = beside_split plan sender me octets es all.1

-- on a packet
not_both : (came next : Bool) → came && next ≡ false → next ≡ true → came ≡ true → ⊥
not_both true true apart a b = absurd (cc (apart))
not_both true false apart a b = absurd (cc (a))
not_both false next apart a b = absurd (cc (b))

sent_behind : (plan : Plan) (edge : EdgeState) (me : EdgeId) (octets : List ℕ) (wire : WireId) (came : Arrival) → SentBehind plan edge octets wire came → SplitSent plan me wire came
sent_behind plan edge me octets wire came behind =
    let here : is_mesh_wire plan behind.place.wire ≡ is_mesh_class behind.row.class = ap is_mesh_row behind.by.is in
    let there : is_mesh_wire plan wire ≡ is_mesh_class behind.next.class = ap is_mesh_row behind.is in
    subst (λ (a : Arrival). SplitSent plan me wire a) (sym behind.from)
    (λ out into. absurd (not_both (is_mesh_class behind.row.class) (is_mesh_class behind.next.class) behind.not_both_mesh (sym there ∙ out) (sym here ∙ into)))

-- an edge with a mate stands between the ends of the path
mate_inside : (path : List EdgeId) (me : EdgeId) (from : ℕ) (to : EdgeId) → mate_on path me.0 from ≡ Some to → is_inside me path ≡ true
mate_inside [] me from to is = absurd (cc (is))
mate_inside (last ∷ []) me from to is = absurd (cc (is))
mate_inside (before ∷ last ∷ []) me from to is = absurd (cc (is))
mate_inside (before ∷ point ∷ next ∷ rest) me from to is = by (nat_eq me.0 point.0) refl (λ later. mate_inside (point ∷ next ∷ rest) me from to later) where
  by : (b : Bool) → nat_eq me.0 point.0 ≡ b → (mate_on (point ∷ next ∷ rest) me.0 from ≡ Some to → is_before_last me (next ∷ rest) ≡ true) → b || is_before_last me (next ∷ rest) ≡ true
  by true here behind = refl
  by false away behind = behind (rw away at is)

sent_on : (plan : Plan) (edge : EdgeState) (me : EdgeId) (octets : List ℕ) (peer : EdgeId) (wire : WireId) (came : Arrival) → edge.me ≡ me → SentOn plan edge octets peer wire came
    → SplitSent plan me wire came
sent_on plan edge me octets peer wire came same on =
    let inside : is_switching_point plan me wire ≡ true =
    ap (λ (w : WireId). is_switching_point plan me w) on.same
    ∙ (ap (is_inside_row me) on.is ∙ subst (λ (e : EdgeId). is_inside e on.row.path ≡ true) same (mate_inside on.row.path edge.me on.place.peer.0 peer on.mate_is)) in
    subst (λ (a : Arrival). SplitSent plan me wire a) (sym on.from) (λ out into. (sym on.same, inside))

behind_split : (plan : Plan) (edge : EdgeState) (me : EdgeId) (octets : List ℕ) (es : List Effect) → edge.me ≡ me → AllStayBehind plan edge octets es → AllSplit plan me es
behind_split plan edge me octets [] same all = tt
behind_split plan edge me octets (effect.Sent peer wire came bytes ∷ es) same all = (by all.0, behind_split plan edge me octets es same all.1) where
  by : SentBehind plan edge octets wire came ⊎ (SentOn plan edge octets peer wire came ⊎ SentBack plan edge octets peer wire came bytes) → SplitSent plan me wire came
  by (inl behind) = sent_behind plan edge me octets wire came behind
  by (inr (inl on)) = sent_on plan edge me octets peer wire came same on
  by (inr (inr back)) = subst (λ (a : Arrival). SplitSent plan me wire a) (sym back.own) tt
behind_split plan edge me octets (e ∷ es) same all = behind_split plan edge me octets es same all.1

-- on a ping
asked_split : (plan : Plan) (edge : EdgeState) (me : EdgeId) (wire : WireId) (es : List Effect) → AllStayAsked plan edge wire es → AllSplit plan me es
asked_split plan edge me wire [] all = tt
asked_split plan edge me wire (effect.Sent peer on came bytes ∷ es) all = (subst (λ (a : Arrival). SplitSent plan me on a) (sym all.0.own) tt, asked_split plan edge me wire es all.1)
asked_split plan edge me wire (e ∷ es) all = asked_split plan edge me wire es all.1

ping_split : (plan : Plan) (me : EdgeId) (wire : WireId) (network : NetworkState) → Split plan (ping_event plan me wire network).entries
ping_split plan me wire network = by (ping_work plan network me wire).idle where
  by : (idles : Bool) → Split plan (cond idles (idle network) (absorb me 0 0 (ping_work plan network me wire) network)).entries
  by true = (tt, tt)
  by false =
      effects_split plan me 0 0 _ (ping_work plan network me wire).effects
      (asked_split plan (edge_at network me) me wire (ping_work plan network me wire).effects (pings_stay_local plan taken_all (edge_at network me) [] wire))

frame_split : (plan : Plan) (network : NetworkState) (circuit : CircuitId) (octets : List ℕ) (row : Option CircuitPlan) → circuit_row plan circuit ≡ row
    → Split plan (frame_event plan circuit octets row network).entries
frame_split plan network circuit octets None is = (tt, tt)
frame_split plan network circuit octets (Some row) is = taken (frame_work plan network circuit octets row).idle where
  taken : (idles : Bool) → Split plan (cond idles (idle network) (entering network circuit octets row (frame_work plan network circuit octets row))).entries
  taken true = (tt, tt)
  taken false = (
    tt,
    effects_split plan row.edge (next_origin network) 0 _ (frame_work plan network circuit octets row).effects
        (beside_split plan circuit row.edge octets (frame_work plan network circuit octets row).effects (input_stays plan taken_all (edge_at network row.edge) [] circuit octets (Some row) is)),
  )

arrive_split : (plan : Plan) (network : NetworkState) (found : Option Packet) → IsPlaced network → Split plan (arrive_event plan found network).entries
arrive_split plan network None placed = (tt, tt)
arrive_split plan network (Some packet) placed =
    effects_split plan packet.to packet.origin packet.hops _ (packet_work plan network packet).effects
    (behind_split plan (edge_at network packet.to) packet.to packet.bytes (packet_work plan network packet).effects (placed.me packet.to.0)
    (packet_stays plan taken_all (edge_at network packet.to) [] packet.bytes))

discard_split : (plan : Plan) (network : NetworkState) (found : Option Packet) → Split plan (discard_event found network).entries
discard_split plan network None = (tt, tt)
discard_split plan network (Some packet) = tt

-- a repeated packet is told as a copy, and not as sent
again_split : (plan : Plan) (network : NetworkState) (found : Option Packet) → Split plan (again_event found network).entries
again_split plan network None = (tt, tt)
again_split plan network (Some packet) = (tt, tt)

none_split : (plan : Plan) (es : List Entry) → NoneGoesOut es → Split plan es
none_split plan [] none = tt
none_split plan (Left circuit origin hops octets ∷ es) none = absurd none
none_split plan (Sent from to wire came packet origin hops octets ∷ es) none = absurd none
none_split plan (e ∷ es) none = (tt, none_split plan es none)

step_split : (plan : Plan) (network : NetworkState) (event : Event) → IsPlaced network → Split plan (step plan network event).entries
step_split plan network (Frame circuit octets) placed = (tt, frame_split plan network circuit octets (circuit_row plan circuit) refl)
step_split plan network (Arrive number) placed = (tt, arrive_split plan network (packet_at network number) placed)
step_split plan network (Discard number) placed = (tt, discard_split plan network (packet_at network number))
step_split plan network (Again number) placed = (tt, again_split plan network (packet_at network number))
step_split plan network (Ping me wire) placed = (tt, ping_split plan me wire network)
step_split plan network Tick placed = (tt, none_split plan (tick_event plan network).entries (tick_tells plan network))
step_split plan network event placed = none_split plan (step plan network event).entries (step_signals plan network event refl).tells

pub along_split : (plan : Plan) (network : NetworkState) (events : List Event) → IsPlaced network → Split plan (entries_along plan network events)
along_split plan network [] placed = tt
along_split plan network (e ∷ es) placed =
    split-append plan (step plan network e).entries (entries_along plan (step plan network e).state es) (step_split plan network e placed)
    (along_split plan (step plan network e).state es (step_placed plan network e placed))

pub run_split : RunsAreSplit
run_split plan events checked = along_split plan (empty_network plan) events (record { me = λ k. refl })
