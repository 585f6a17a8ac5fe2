-- Where a window opens.
use Rattle.std.proofs.Common.{◌≡◌, ◌==◌, ◌<◌, ◌+◌, ◌&&◌, ◌∙◌, ◌++◌, ◌∷◌, [], ℕ, Bool, true, false, not, List, Option, Some, None, Result, Ok, Err, nat_lt, cond, get_or, length, refl, ap, sym, arith, take, drop}
use Rattle.std.proofs.lemmas.Bool.{eqb-true}
use Rattle.std.proofs.lemmas.Bool.Decides.{nat_tests}
use Rattle.std.proofs.lemmas.Option.{slice_get_read}
use Rattle.net_base.specs.declared.plan.Plan.{Plan}
use Rattle.net_base.specs.declared.plan.circuit_plan.CircuitPlan.{CircuitPlan}
use Rattle.net_base.specs.declared.plan.places.CircuitId.{CircuitId}
use Rattle.net_base.specs.declared.plan.places.ServiceId.{ServiceId}
use Rattle.net_base.specs.declared.trace.drop_cause.DropCause.{DropCause}
use Rattle.net_base.specs.declared.trace.drop_cause.DropCause.TheVariants.{Down, Long, NoTag, Short, WrongTag}
use Rattle.net_base.specs.plan.Places.{circuit_row, service_of}
use Rattle.net_base.specs.trace.Frame.{destination_of, of_size, pair_at, tag_protocol, untagged, vlan_id_of}
use Rattle.net_base.specs.trace.Isolated.{inner_at, inner_by, mtu_by}
use Rattle.net_values.specs.Mac.{is_group_address}
use Rattle.net_values.specs.declared.mac.Mac.{Mac}
use Rattle.net_values.proofs.NumberLemmas.{lt_next}
use Rattle.hvpls_spokes.specs.PortSet.{holds_port}
use Rattle.seen_network.specs.Once.{is_circuit_row_of}
use Rattle.seen_network.specs.Seen.{Seen}
use Rattle.seen_network.specs.Windows.{GoesTo}
use Rattle.window_audit.specs.Opening.{is_due}

-- ---- sites

-- the circuit of a row is due as the row tells
due_is : (plan : Plan) (seen : Seen) (service : ServiceId) (sender : CircuitId) (place : ℕ) (row : CircuitPlan) → place < length plan.circuits → row ≡ get_or plan.circuits place row
    → is_due plan seen service sender place ≡ ((row.service.0 == service.0 && seen.on place) && not (place == sender.0))
due_is plan seen service sender place row within is =
    ap (λ (r : Option CircuitPlan). (is_circuit_row_of service r && seen.on place) && not (place == sender.0)) (slice_get_read plan.circuits (length plan.circuits) place row refl within is)

-- the sites up to one more
pub sites_more : (plan : Plan) (seen : Seen) (service : ServiceId) (sender : CircuitId) (place : ℕ) (row : CircuitPlan) (old new : List ℕ) → place < length plan.circuits
    → row ≡ get_or plan.circuits place row
    → ((p : ℕ) → holds_port old p ≡ nat_lt p place && is_due plan seen service sender p)
    → holds_port new place ≡ ((row.service.0 == service.0 && seen.on place) && not (place == sender.0))
    → ((p : ℕ) → (p == place) ≡ false → holds_port new p ≡ holds_port old p)
    → (p : ℕ) → holds_port new p ≡ nat_lt p (place + 1) && is_due plan seen service sender p
sites_more plan seen service sender place row old new within is upto here others p = by (p == place) refl where
  now : nat_lt place (place + 1) ≡ true
  now = grind (arith, nat_tests)

  by : (b : Bool) → (p == place) ≡ b → holds_port new p ≡ nat_lt p (place + 1) && is_due plan seen service sender p
  by true at =
      ap (holds_port new) (eqb-true p place at)
      ∙ (here ∙ (sym (due_is plan seen service sender place row within is)
      ∙ (ap (λ (b : Bool). b && is_due plan seen service sender place) (sym now) ∙ ap (λ (k : ℕ). nat_lt k (place + 1) && is_due plan seen service sender k) (sym (eqb-true p place at)))))
  by false away = others p away ∙ (upto p ∙ ap (λ (b : Bool). b && is_due plan seen service sender p) (sym (lt_next p place away)))

-- ---- where a frame goes

abbrev payload : Result (List ℕ) DropCause → List ℕ
payload (Ok frame) = frame
payload (Err cause) = []

abbrev good : Result (List ℕ) DropCause → Bool
good (Ok frame) = true
good (Err cause) = false

no_fault : {P : Type 0} (cause : DropCause) (frame : List ℕ) → Err cause ≡ Ok frame → P
no_fault cause frame e = let wrong : false ≡ true = ap good e in absurd (cc (wrong))

kept : (b : Bool) (cause : DropCause) (read : Result (List ℕ) DropCause) (frame : List ℕ) → cond b (Err cause) read ≡ Ok frame → read ≡ Ok frame
kept true cause read frame e = no_fault cause frame e
kept false cause read frame e = e

front_of : (xs ys : List ℕ) → nat_lt (length xs) 14 ≡ false → take 6 (take 12 xs ++ ys) ≡ take 6 xs
front_of (a ∷ b ∷ c ∷ d ∷ e ∷ f ∷ xs) ys long = refl
front_of [] ys long = absurd (cc (long))
front_of (a ∷ []) ys long = absurd (cc (long))
front_of (a ∷ b ∷ []) ys long = absurd (cc (long))
front_of (a ∷ b ∷ c ∷ []) ys long = absurd (cc (long))
front_of (a ∷ b ∷ c ∷ d ∷ []) ys long = absurd (cc (long))
front_of (a ∷ b ∷ c ∷ d ∷ e ∷ []) ys long = absurd (cc (long))

-- the inner frame goes where the frame goes
pub same_destination : (plan : Plan) (circuit : CircuitId) (octets frame : List ℕ) → inner_at plan circuit octets ≡ Ok frame → destination_of frame ≡ destination_of octets
same_destination plan circuit octets frame is = by_row (circuit_row plan circuit) (mtu_by plan (service_of plan circuit)) is where
  by_size : (mtu : ℕ) (read : Result (List ℕ) DropCause) → of_size mtu read ≡ Ok frame → read ≡ Ok frame
  by_size mtu (Ok x) at = kept (nat_lt (mtu + 18) (length x)) Long (Ok x) frame at
  by_size mtu (Err cause) at = no_fault cause frame at

  by_tag : (tag : Option ℕ) → nat_lt (length octets) 14 ≡ false → untagged tag octets ≡ Ok frame → destination_of frame ≡ destination_of octets
  by_tag None long at = ap destination_of (sym (ap payload at))
  by_tag (Some tag) long at =
      let third = kept (not (vlan_id_of octets == tag)) WrongTag (Ok (take 12 octets ++ drop 16 octets)) frame (kept (nat_lt (length octets) 18) Short _ frame (kept (not (pair_at octets 12 ==
      tag_protocol)) NoTag _ frame at)) in
      ap destination_of (sym (ap payload third)) ∙ front_of octets (drop 16 octets) long

  by_row : (row : Option CircuitPlan) (mtu : Option ℕ) → inner_by row mtu octets ≡ Ok frame → destination_of frame ≡ destination_of octets
  by_row None mtu at = no_fault Down frame at
  by_row (Some row) None at = no_fault Down frame at
  by_row (Some row) (Some mtu) at = short (nat_lt (length octets) 14) refl at where
    short : (b : Bool) → nat_lt (length octets) 14 ≡ b → cond b (Err Short) (of_size mtu (untagged row.tag octets)) ≡ Ok frame → destination_of frame ≡ destination_of octets
    short true few e = no_fault Short frame e
    short false long e = by_tag row.tag long (by_size mtu (untagged row.tag octets) e)

pub inner_goes : (plan : Plan) (circuit : CircuitId) (octets : List ℕ) (goes : Option Mac) → GoesTo octets goes → (frame : List ℕ) → inner_at plan circuit octets ≡ Ok frame → GoesTo frame goes
inner_goes plan circuit octets None to frame is = ap is_group_address (same_destination plan circuit octets frame is) ∙ to
inner_goes plan circuit octets (Some address) to frame is =
    (ap is_group_address (same_destination plan circuit octets frame is) ∙ to.0, same_destination plan circuit octets frame is ∙ to.1)
