-- What an edge gives out on a frame stays beside the circuit of the frame.
use Rattle.std.proofs.Common.{◌≡◌, ◌&&◌, ◌∙◌, Bool, true, false, ℕ, List, [], ◌∷◌, Option, Some, None, Result, Ok, Err, option_map, refl, ap, sym, subst, cond}
use Rattle.net_base.specs.declared.outside.link_call.LinkCall.{LinkCall}
use Rattle.net_base.specs.declared.plan.Plan.{Plan}
use Rattle.net_base.specs.declared.plan.circuit_plan.CircuitPlan.{CircuitPlan}
use Rattle.net_base.specs.declared.plan.places.CircuitId.{CircuitId}
use Rattle.net_base.specs.declared.trace.arrival.Arrival.TheVariants as arrival
use Rattle.net_base.specs.declared.trace.drop_cause.DropCause.{DropCause}
use Rattle.net_base.specs.plan.Places.{circuit_row}
use Rattle.net_base.specs.trace.Isolated.{inner_at}
use Rattle.pw_messages.specs.LinkAnswers.{Answers}
use Rattle.hvpls_spokes.specs.Port.{ports_of}
use Rattle.hvpls_spokes.proofs.PortsLemmas.{LeadsTo, found_port, same_circuit_port}
use Rattle.edge_model.specs.Copies.{AllAreCopies, FrameGoesOut, FrameIsDropped, FrameIsIdle, FrameWork, IsCopy}
use Rattle.edge_model.specs.declared.effect.Effect.{Effect}
use Rattle.edge_model.specs.declared.effect.Effect.TheVariants as effect
use Rattle.edge_model.specs.Frame.{frame_input, is_own, port_at, received}
use Rattle.edge_model.specs.Local.{AllStayBeside, FramesStayLocal, StaysBeside}
use Rattle.edge_model.specs.State.{EdgeState, is_on}
use Rattle.edge_model.specs.Work.{beginning, gives, idles}
use Rattle.edge_model.proofs.CopyLemmas.{forwards_copies}

-- ---- what an edge gives out on a frame: nothing, one drop, or copies

received_work : (plan : Plan) (told : Answers) (edge : EdgeState) (calls : List LinkCall) (circuit : CircuitId) (octets : List ℕ) (row : CircuitPlan) (from : Option ℕ) (read : Result (List ℕ) DropCause)
    → port_at plan edge circuit row ≡ from → inner_at plan circuit octets ≡ read
    → FrameWork plan edge circuit octets (Some row) (received plan told (arrival.Circuit circuit) row.service from read (beginning edge calls)).effects
unfolding gives
received_work plan told edge calls circuit octets row None (Ok frame) found formed = FrameIsIdle refl
received_work plan told edge calls circuit octets row (Some from) (Ok frame) found formed =
    let copied = forwards_copies plan told (arrival.Circuit circuit) row.service frame from (beginning edge calls) in
    FrameGoesOut row refl (record {
      frame = frame;
      formed = formed;
      from = from;
      found = found;
      copies = subst (AllAreCopies plan edge (arrival.Circuit circuit) row.service frame from) (sym copied.joined) copied.all;
    })
received_work plan told edge calls circuit octets row from (Err why) found formed = FrameIsDropped why formed refl

pub frame_work : (plan : Plan) (told : Answers) (edge : EdgeState) (calls : List LinkCall) (circuit : CircuitId) (octets : List ℕ) (row : Option CircuitPlan)
    → FrameWork plan edge circuit octets row (frame_input plan told circuit octets row (beginning edge calls)).effects
unfolding idles
frame_work plan told edge calls circuit octets None = FrameIsIdle refl
frame_work plan told edge calls circuit octets (Some row) = taken (is_own edge row && is_on edge circuit) where
  taken : (b : Bool) → FrameWork plan edge circuit octets (Some row)
      (cond b (received plan told (arrival.Circuit circuit) row.service (port_at plan edge circuit row) (inner_at plan circuit octets) (beginning edge calls)) (idles (beginning edge calls))).effects
  taken false = FrameIsIdle refl
  taken true = received_work plan told edge calls circuit octets row (port_at plan edge circuit row) (inner_at plan circuit octets) refl refl

-- ---- a copy stays beside the circuit

copy_beside : (plan : Plan) (edge : EdgeState) (circuit : CircuitId) (octets frame : List ℕ) (row : CircuitPlan) (from : ℕ) (e : Effect)
    → circuit_row plan circuit ≡ Some row → inner_at plan circuit octets ≡ Ok frame → LeadsTo (ports_of plan row.service edge.me) from circuit.0
    → IsCopy plan edge (arrival.Circuit circuit) row.service frame from e → StaysBeside plan circuit octets e
copy_beside plan edge circuit octets frame row from (effect.Left at bytes) is formed leads copy =
    record {
      other = sym (same_circuit_port plan row.service edge.me copy.p from at.0 circuit.0 (record { is = copy.by.at }) leads) ∙ copy.by.other;
      service = row.service;
      of_service = ap (λ (r : Option CircuitPlan). option_map (λ (row : CircuitPlan). row.service) r) is;
      same_service = copy.same_service;
      frame = frame;
      formed = formed;
      dressed = copy.dressed;
    }
copy_beside plan edge circuit octets frame row from (effect.Sent peer wire came bytes) is formed leads copy =
    record {
      from = copy.same_arrival;
      row = copy.row;
      is = copy.is;
      of_service = ap (λ (r : Option CircuitPlan). option_map (λ (row : CircuitPlan). row.service) r) is ∙ ap Some (sym copy.same_service);
    }
copy_beside plan edge circuit octets frame row from (effect.Dropped why) is formed leads copy = tt
copy_beside plan edge circuit octets frame row from (effect.Said peer bytes) is formed leads copy = absurd copy
copy_beside plan edge circuit octets frame row from (effect.Session peer state) is formed leads copy = absurd copy
copy_beside plan edge circuit octets frame row from (effect.Wire wire down) is formed leads copy = absurd copy
copy_beside plan edge circuit octets frame row from (effect.Pong wire sequence) is formed leads copy = absurd copy
copy_beside plan edge circuit octets frame row from (effect.Closed peer) is formed leads copy = absurd copy

copies_beside : (plan : Plan) (edge : EdgeState) (circuit : CircuitId) (octets frame : List ℕ) (row : CircuitPlan) (from : ℕ) (es : List Effect)
    → circuit_row plan circuit ≡ Some row → inner_at plan circuit octets ≡ Ok frame → LeadsTo (ports_of plan row.service edge.me) from circuit.0
    → AllAreCopies plan edge (arrival.Circuit circuit) row.service frame from es → AllStayBeside plan circuit octets es
copies_beside plan edge circuit octets frame row from [] is formed leads all = tt
copies_beside plan edge circuit octets frame row from (e ∷ es) is formed leads all =
    (copy_beside plan edge circuit octets frame row from e is formed leads all.0, copies_beside plan edge circuit octets frame row from es is formed leads all.1)

work_stays : (plan : Plan) (edge : EdgeState) (circuit : CircuitId) (octets : List ℕ) (row : Option CircuitPlan) (es : List Effect)
    → circuit_row plan circuit ≡ row → FrameWork plan edge circuit octets row es → AllStayBeside plan circuit octets es
work_stays plan edge circuit octets row es is (FrameIsIdle none) = subst (AllStayBeside plan circuit octets) (sym none) tt
work_stays plan edge circuit octets row es is (FrameIsDropped why formed one) = subst (AllStayBeside plan circuit octets) (sym one) (tt, tt)
work_stays plan edge circuit octets row es is (FrameGoesOut own same out) =
    copies_beside plan edge circuit octets out.frame own out.from es (is ∙ same) out.formed (found_port circuit (ports_of plan own.service edge.me) out.from out.found) out.copies

-- on a frame at a circuit with this row
pub input_stays : (plan : Plan) (told : Answers) (edge : EdgeState) (calls : List LinkCall) (circuit : CircuitId) (octets : List ℕ) (row : Option CircuitPlan)
    → circuit_row plan circuit ≡ row → AllStayBeside plan circuit octets (frame_input plan told circuit octets row (beginning edge calls)).effects
input_stays plan told edge calls circuit octets row is =
    work_stays plan edge circuit octets row (frame_input plan told circuit octets row (beginning edge calls)).effects is (frame_work plan told edge calls circuit octets row)

pub stays_local : FramesStayLocal
stays_local plan told edge calls circuit octets = input_stays plan told edge calls circuit octets (circuit_row plan circuit) refl
