-- What stands on the other side of an end, and what an end takes.
use Rattle.std.proofs.Common.{◌≡◌, ◌<◌, ◌≤◌, ◌∙◌, ℕ, Bool, true, false, Option, Some, None, length, option_map, position, refl, ap, sym, subst}
use Rattle.std.specs.Prelude.{IfSome}
use Rattle.std.specs.List.{find}
use Rattle.net_base.specs.declared.plan.places.EdgeId.{EdgeId}
use Rattle.net_base.specs.declared.plan.places.WireId.{WireId}
use Rattle.net_base.specs.declared.plan.wire_plan.WirePlan.{WirePlan}
use Rattle.net_base.specs.plan.Paths.{edge_address, mate}
use Rattle.net_base.specs.plan.Places.{wire_row}
use Rattle.pw_tlvs.specs.declared.point.Point.{Point}
use Rattle.pw_tlvs.specs.Written.{has_vlan}
use Rattle.pw_signalling.specs.declared.binding.Binding.{Binding}
use Rattle.pw_signalling.specs.declared.told.Told.{Told}
use Rattle.pw_signalling.specs.End.{EndState, fresh}
use Rattle.pw_stitch.specs.Passing.{own_point, wanted}
use Rattle.pw_ends.specs.Ends.{Holds, end_in, place_of, seen_ends}
use Rattle.edge_model.specs.declared.end_place.EndPlace.{EndPlace}
use Rattle.edge_model.specs.Across.{end_beside, end_beyond, held_beyond, held_from, held_of, mate_of}
use Rattle.edge_model.specs.EndPlaces.{end_places, is_terminal}
use Rattle.edge_model.specs.Mend.{passed_from, passed_wish}
use Rattle.provider_edge.proofs.ListLemmas.{slot_placed}
use Rattle.provider_edge.proofs.PacketLemmas.{row_there}
use Rattle.provider_edge.proofs.SlotLemmas.{none_found, slot_found}
use Rattle.provider_edge.specs.Invariant.{IsEdge}
use Rattle.provider_edge.specs.Lists.{EdgeLists, seen}

-- ---- what is held

-- the ends of a wire are terminal alike
pub alike : (c : EdgeLists) (one other : ℕ) → IsEdge c → one < length c.ends.places → other < length c.ends.places → (place_of c.ends one).wire ≡ (place_of c.ends other).wire
    → (place_of c.ends one).terminal ≡ (place_of c.ends other).terminal
alike c one other is first second same =
    let a = slot_placed c one is first in
    let b = slot_placed c other is second in
    let rows : a.row ≡ b.row = cc (sym a.is, ap (wire_row c.plan) same, b.is) in
    a.terminal ∙ (ap (λ (r : WirePlan). is_terminal r c.me) rows ∙ sym b.terminal)

pub held_read : (c : EdgeLists) (slot other : ℕ) (wire : WireId) (peer : EdgeId) (end : EndState) (held : Option Binding) → wire ≡ (place_of c.ends slot).wire
    → (place_of c.ends other).wire ≡ wire → (place_of c.ends other).peer ≡ peer
    → end ≡ end_in c.ends other → held ≡ end.remote → held ≡ held_of (seen c) (place_of c.ends slot).wire peer.0
unfolding seen
held_read c slot other wire peer end held at wires peers read is =
    is
    ∙ (ap (λ (e : EndState). e.remote) read
    ∙ (ap (λ (w : WireId). (seen_ends c.ends w.0 (place_of c.ends other).peer.0).remote) (wires ∙ at)
    ∙ ap (λ (p : EdgeId). (seen_ends c.ends (place_of c.ends slot).wire.0 p.0).remote) peers))

pub held_none : (c : EdgeLists) (slot : ℕ) (wire : WireId) (peer : EdgeId) → wire ≡ (place_of c.ends slot).wire → seen_ends c.ends wire.0 peer.0 ≡ fresh → None
    ≡ held_of (seen c) (place_of c.ends slot).wire peer.0
unfolding seen
held_none c slot wire peer at untold = sym (ap (λ (e : EndState). e.remote) untold) ∙ ap (λ (w : WireId). (seen_ends c.ends w.0 peer.0).remote) at

held_kind : (place : EndPlace) (held : Option Binding) → Holds place held → IfSome held (λ binding. binding.told.kind ≤ 0x7FFF)
held_kind place None holds = tt
held_kind place (Some binding) holds = holds.kind

held_vlan : (place : EndPlace) (held : Option Binding) → Holds place held → IfSome held (λ binding. has_vlan binding.told.vlan ≡ true)
held_vlan place None holds = tt
held_vlan place (Some binding) holds = holds.vlan

held_room : (place : EndPlace) (held : Option Binding) → place.terminal ≡ false → Holds place held → IfSome held (λ binding. length binding.told.points < 3)
held_room place None switching holds = tt
held_room place (Some binding) switching holds = holds.room switching

pub read_kind : (place : EndPlace) (read : Option Binding) (end at : EndState) → read ≡ end.remote → end ≡ at → Holds place at.remote → IfSome read (λ binding. binding.told.kind ≤ 0x7FFF)
read_kind place read end at is same holds = subst (λ (o : Option Binding). IfSome o (λ binding. binding.told.kind ≤ 0x7FFF)) (sym (is ∙ ap (λ (e : EndState). e.remote) same))
    (held_kind place at.remote holds)

pub read_vlan : (place : EndPlace) (read : Option Binding) (end at : EndState) → read ≡ end.remote → end ≡ at → Holds place at.remote → IfSome read (λ binding. has_vlan binding.told.vlan ≡ true)
read_vlan place read end at is same holds = subst (λ (o : Option Binding). IfSome o (λ binding. has_vlan binding.told.vlan ≡ true)) (sym (is ∙ ap (λ (e : EndState). e.remote) same))
    (held_vlan place at.remote holds)

pub read_room : (place : EndPlace) (read : Option Binding) (end at : EndState) → place.terminal ≡ false → read ≡ end.remote → end ≡ at → Holds place at.remote
    → IfSome read (λ binding. length binding.told.points < 3)
read_room place read end at switching is same holds =
    subst (λ (o : Option Binding). IfSome o (λ binding. length binding.told.points < 3)) (sym (is ∙ ap (λ (e : EndState). e.remote) same)) (held_room place at.remote switching holds)

-- ---- the other side

mate_here : (c : EdgeLists) (place : EndPlace) (found : Option EdgeId) → place.wire.0 < length c.plan.wires
    → ((row : WirePlan) → wire_row c.plan place.wire ≡ Some row → found ≡ mate row c.me.0 place.peer.0)
    → found ≡ mate_of c.me place (wire_row c.plan place.wire)
mate_here c place found within mates =
    let (row, at) = row_there c.plan.wires place.wire.0 within in
    mates row at ∙ ap (mate_of c.me place) (sym at)

pub beyond_read : (c : EdgeLists) (place : EndPlace) (found : Option EdgeId) (held : Option Binding) → place.wire.0 < length c.plan.wires
    → ((row : WirePlan) → wire_row c.plan place.wire ≡ Some row → found ≡ mate row c.me.0 place.peer.0)
    → held ≡ held_from (held_of (seen c) place.wire) found → held ≡ held_beyond c.plan (seen c) place
unfolding seen
beyond_read c place found held within mates is = is ∙ ap (held_from (held_of (seen c) place.wire)) (mate_here c place found within mates)

-- the end beside a neighbour, where there is one
pub found_beside : (c : EdgeLists) (test : EndPlace → Bool) (found : Option ℕ) → IsEdge c → found ≡ position test c.ends.places → option_map (place_of c.ends) found
    ≡ find test (end_places c.plan c.me)
found_beside c test None is at = sym (none_found c test None is at refl)
found_beside c test (Some slot) is at = sym (slot_found c test (Some slot) slot is at refl)

pub slot_beyond : (c : EdgeLists) (place : EndPlace) (found : Option EdgeId) (end : Option EndPlace) → place.wire.0 < length c.plan.wires
    → ((row : WirePlan) → wire_row c.plan place.wire ≡ Some row → found ≡ mate row c.me.0 place.peer.0)
    → end ≡ end_beside c.plan c.me place.wire found → end ≡ end_beyond c.plan c.me place
slot_beyond c place found end within mates is = is ∙ ap (end_beside c.plan c.me place.wire) (mate_here c place found within mates)

-- ---- what is passed on

pub passed_read : (c : EdgeLists) (slot : ℕ) (row : WirePlan) (place : EndPlace) (from : EdgeId) (found : Option EdgeId) (point : Point) (held : Option Binding) (wished : Option Told)
    → place ≡ place_of c.ends slot
    → found ≡ mate row c.me.0 place.peer.0 → found ≡ Some from → point ≡ own_point row.pw_id (edge_address c.plan c.me) (edge_address c.plan from) → held
    ≡ held_of (seen c) (place_of c.ends slot).wire from.0
    → wished ≡ wanted point held → wished ≡ passed_wish c.plan (seen c) (place_of c.ends slot) row
unfolding seen
passed_read c slot row place from found point held wished at mates some points holds is =
    is
    ∙ (ap (λ (p : Point). wanted p held) points
    ∙ (ap (wanted (own_point row.pw_id (edge_address c.plan c.me) (edge_address c.plan from))) holds
    ∙ ap (passed_from c.plan row c.me (held_of (seen c) (place_of c.ends slot).wire)) (sym some ∙ (mates ∙ ap (λ (p : EndPlace). mate row c.me.0 p.peer.0) at))))

pub passed_none : (c : EdgeLists) (slot : ℕ) (row : WirePlan) (place : EndPlace) (found : Option EdgeId) → place ≡ place_of c.ends slot → found ≡ mate row c.me.0 place.peer.0 → found ≡ None
    → None ≡ passed_wish c.plan (seen c) (place_of c.ends slot) row
unfolding seen
passed_none c slot row place found at mates none =
    ap (passed_from c.plan row c.me (held_of (seen c) (place_of c.ends slot).wire)) (sym none ∙ (mates ∙ ap (λ (p : EndPlace). mate row c.me.0 p.peer.0) at))
