-- What leaves at a circuit of a service has the inner frame of what entered at another one.
use Rattle.std.proofs.Common.{◌≡◌, ◌∙◌, ℕ, List, Option, Some, None, Ok, refl, ap, sym, option_map, option_and_then}
use Rattle.net_base.specs.declared.plan.Plan.{Plan}
use Rattle.net_base.specs.declared.plan.circuit_plan.CircuitPlan.{CircuitPlan}
use Rattle.net_base.specs.declared.trace.entry.Entry.{Entry}
use Rattle.net_base.specs.declared.trace.entry.Entry.TheVariants.{In}
use Rattle.net_base.specs.declared.plan.places.CircuitId.{CircuitId}
use Rattle.net_base.specs.declared.plan.places.ServiceId.{ServiceId}
use Rattle.net_base.specs.plan.Accepted.{IsChecked}
use Rattle.net_base.specs.plan.Places.{circuit_row, service_of}
use Rattle.net_base.specs.trace.Isolated.{Among, CameIn, inner_at, inner_by, mtu_by}
use Rattle.net_base.specs.trace.Frame.{dress}
use Rattle.net_base.proofs.FrameLemmas.{IsVlanId, inner_size, inner-dress}
use Rattle.edge_model.specs.Frame.{tag_of}
use Rattle.edge_model.specs.Local.{LeavesBeside}
use Rattle.network_model.proofs.PlanLemmas.{circuit_of, vlan_of}

-- a frame has the same inner frame at each circuit of its service
pub inner_by_again : (row receiver : CircuitPlan) (mtu : Option ℕ) (octets frame : List ℕ) → IsVlanId receiver.tag → inner_by (Some row) mtu octets ≡ Ok frame
    → inner_by (Some receiver) mtu (dress receiver.tag frame) ≡ Ok frame
inner_by_again row receiver None octets frame vlan e = absurd (cc)
inner_by_again row receiver (Some mtu) octets frame vlan e = inner-dress receiver.tag mtu frame vlan (inner_size row.tag mtu octets frame e)

pub inner_there : (plan : Plan) (sender receiver : CircuitId) (service : ServiceId) (row receiving : CircuitPlan) (octets frame : List ℕ)
    → IsChecked plan → circuit_row plan sender ≡ Some row → service_of plan sender ≡ Some service → inner_at plan sender octets ≡ Ok frame
    → circuit_row plan receiver ≡ Some receiving → service_of plan receiver ≡ Some service
    → inner_at plan receiver (dress (tag_of plan receiver) frame) ≡ Ok frame
inner_there plan sender receiver service row receiving octets frame checked sends sender_service as_entered receives receiver_service =
    let entered : inner_by (Some row) (mtu_by plan (Some service)) octets ≡ Ok frame =
    sym (ap (λ (r : Option CircuitPlan). inner_by r (mtu_by plan (service_of plan sender)) octets) sends
    ∙ ap (λ (s : Option ServiceId). inner_by (Some row) (mtu_by plan s) octets) sender_service) ∙ as_entered in
    let vlan : IsVlanId receiving.tag = vlan_of receiving.tag (circuit_of plan receiver receiving checked receives).tag in
    let left = inner_by_again row receiving (mtu_by plan (Some service)) octets frame vlan entered in
    let tag : tag_of plan receiver ≡ receiving.tag = ap (λ (r : Option CircuitPlan). option_and_then (λ (row : CircuitPlan). row.tag) r) receives in
    ap (λ (r : Option CircuitPlan). inner_by r (mtu_by plan (service_of plan receiver)) (dress (tag_of plan receiver) frame)) receives
    ∙ (ap (λ (s : Option ServiceId). inner_by (Some receiving) (mtu_by plan s) (dress (tag_of plan receiver) frame)) receiver_service
    ∙ (ap (λ (t : Option ℕ). inner_by (Some receiving) (mtu_by plan (Some service)) (dress t frame)) tag ∙ left))

-- a circuit of a service has a row
pub record HasRow (plan : Plan) (circuit : CircuitId) : Type 0 where
  pub row : CircuitPlan
  pub is : circuit_row plan circuit ≡ Some row

pub has_row : (plan : Plan) (circuit : CircuitId) (service : ServiceId) → service_of plan circuit ≡ Some service → HasRow plan circuit
has_row plan circuit service of_service = found (circuit_row plan circuit) refl of_service where
  found : (r : Option CircuitPlan) → circuit_row plan circuit ≡ r → option_map (λ (row : CircuitPlan). row.service) r ≡ Some service → HasRow plan circuit
  found None is e = absurd (cc (e))
  found (Some row) is e = record { row = row; is = is }

-- what left beside a circuit came in by it
pub came_in : (plan : Plan) (sender at : CircuitId) (origin : ℕ) (octets bytes : List ℕ) (earlier : List Entry)
    → IsChecked plan → Among (In sender origin octets) earlier → LeavesBeside plan sender octets at bytes → CameIn plan earlier at origin bytes
came_in plan sender at origin octets bytes earlier checked before beside =
    let from = has_row plan sender beside.service beside.of_service in
    let to = has_row plan at beside.service beside.same_service in
    record {
      sender = sender;
      entered = octets;
      before = before;
      service = beside.service;
      sender_service = beside.of_service;
      receiver_service = beside.same_service;
      frame = beside.frame;
      as_entered = beside.formed;
      as_left = ap (inner_at plan at) beside.dressed
          ∙ inner_there plan sender at beside.service from.row to.row octets beside.frame checked from.is beside.of_service beside.formed to.is beside.same_service;
    }
