-- What is due to a circuit: a count over the copies of a frame that are under way.
use Rattle.std.proofs.Common.{◌≡◌, ◌+◌, ◌++◌, ℕ, Bool, true, false, List, [], ◌∷◌, cond, refl, ap, sym, nat_eq, zero-add, arith}
use Rattle.std.proofs.lemmas.Bool.{eq-eqb}
use Rattle.net_base.specs.declared.plan.Plan.{Plan}
use Rattle.net_base.specs.declared.plan.places.CircuitId.{CircuitId}
use Rattle.net_base.specs.declared.plan.places.EdgeId.{EdgeId}
use Rattle.net_base.specs.declared.plan.places.ServiceId.{ServiceId}
use Rattle.edge_model.specs.declared.effect.Effect.{Effect}
use Rattle.edge_model.specs.declared.effect.Effect.TheVariants as effect
use Rattle.network_model.specs.declared.packet.Packet.{Packet}
use Rattle.network_model.specs.Absorb.{absorb_all, absorb_one, all_entries_of, entries_told}
use Rattle.network_model.specs.OnceEach.{times_left}
use Rattle.network_model.proofs.AbsorbLemmas.{of_origin, pipe_leaves, times_left-append}
use Rattle.flood_laws.specs.Due.{awaits}
use Rattle.flood_laws.specs.Copy.{copy_awaits, heading_on}
use Rattle.net_base.specs.plan.Places.{wire_row}
use Rattle.net_base.specs.declared.plan.places.WireId.{WireId}
use Rattle.network_model.specs.State.{NetworkState, stands, with_packet}

-- ---- what is due to a circuit

-- how many of these packets have
abbrev pub awaited : Plan → NetworkState → ServiceId → CircuitId → List Packet → ℕ
awaited plan calm service circuit [] = 0
awaited plan calm service circuit (p ∷ ps) = cond (copy_awaits plan calm service circuit p) 1 0 + awaited plan calm service circuit ps

-- what an edge sends to a neighbour has still to serve the circuit
abbrev pub sent_awaits : Plan → NetworkState → ServiceId → CircuitId → EdgeId → EdgeId → WireId → Bool
sent_awaits plan calm service circuit me peer wire = awaits plan calm service circuit (heading_on (wire_row plan wire) me peer) wire

abbrev pub due : Plan → NetworkState → ServiceId → CircuitId → ℕ → NetworkState → ℕ
due plan calm service circuit origin network = awaited plan calm service circuit (of_origin origin network.under_way)

-- how many copies of an edge serve the circuit, at once or later
abbrev pub meets : Plan → NetworkState → ServiceId → CircuitId → EdgeId → List Effect → ℕ
meets plan calm service circuit me [] = 0
meets plan calm service circuit me (effect.Left at octets ∷ es) = cond (nat_eq at.0 circuit.0) 1 0 + meets plan calm service circuit me es
meets plan calm service circuit me (effect.Sent peer wire came octets ∷ es) = cond (sent_awaits plan calm service circuit me peer wire) 1 0 + meets plan calm service circuit me es
meets plan calm service circuit me (e ∷ es) = meets plan calm service circuit me es

pub meets-append : (plan : Plan) (calm : NetworkState) (service : ServiceId) (circuit : CircuitId) (me : EdgeId) (xs ys : List Effect)
    → meets plan calm service circuit me (xs ++ ys) ≡ meets plan calm service circuit me xs + meets plan calm service circuit me ys
meets-append plan calm service circuit me [] ys = sym (zero-add (meets plan calm service circuit me ys))
meets-append plan calm service circuit me (effect.Left at octets ∷ xs) ys = omega (arith, meets-append plan calm service circuit me xs ys)
meets-append plan calm service circuit me (effect.Sent peer wire came octets ∷ xs) ys = omega (arith, meets-append plan calm service circuit me xs ys)
meets-append plan calm service circuit me (x ∷ xs) ys = meets-append plan calm service circuit me xs ys

awaited-last : (plan : Plan) (calm : NetworkState) (service : ServiceId) (circuit : CircuitId) (origin : ℕ) (p : Packet) (ps : List Packet) → nat_eq p.origin origin ≡ true
    → awaited plan calm service circuit (of_origin origin (ps ++ p ∷ [])) ≡ awaited plan calm service circuit (of_origin origin ps) + cond (copy_awaits plan calm service circuit p) 1 0
awaited-last plan calm service circuit origin p [] same = rw same (omega arith)
awaited-last plan calm service circuit origin p (q ∷ ps) same = kept (nat_eq q.origin origin) (awaited-last plan calm service circuit origin p ps same) where
  kept : (b : Bool) → awaited plan calm service circuit (of_origin origin (ps ++ p ∷ [])) ≡ awaited plan calm service circuit (of_origin origin ps) + cond (copy_awaits plan calm service circuit p) 1 0
      → awaited plan calm service circuit (cond b (q ∷ of_origin origin (ps ++ p ∷ [])) (of_origin origin (ps ++ p ∷ [])))
      ≡ awaited plan calm service circuit (cond b (q ∷ of_origin origin ps) (of_origin origin ps)) + cond (copy_awaits plan calm service circuit p) 1 0
  kept true rest = omega (arith, rest)
  kept false rest = rest

one_due : (plan : Plan) (calm : NetworkState) (service : ServiceId) (circuit : CircuitId) (origin : ℕ) (me : EdgeId) (hops : ℕ) (e : Effect) (network : NetworkState)
    → times_left origin circuit (entries_told me origin hops e network) + due plan calm service circuit origin (absorb_one me origin hops e network)
    ≡ due plan calm service circuit origin network + meets plan calm service circuit me (e ∷ [])
unfolding with_packet
one_due plan calm service circuit origin me hops (effect.Left at octets) network = rw (eq-eqb origin origin refl) (omega arith)
one_due plan calm service circuit origin me hops (effect.Sent peer wire came octets) network =
    omega (
      arith,
      awaited-last plan calm service circuit origin
          (record { number = network.sent + 1; wire = wire; from = me; to = peer; origin = origin; hops = hops + 1; age = 0; bytes = octets }) network.under_way (eq-eqb origin origin refl),
    )
one_due plan calm service circuit origin me hops (effect.Said peer octets) network =
    omega (arith, ap (awaited plan calm service circuit) (pipe_leaves origin me peer (network.pipes me.0 peer.0 ++ octets) network (stands network peer.0 me.0)))
one_due plan calm service circuit origin me hops (effect.Closed peer) network = omega (arith, ap (awaited plan calm service circuit) (pipe_leaves origin peer me [] network true))
one_due plan calm service circuit origin me hops e network = omega arith

-- what its edge gives out on a frame is told at once, or due
pub all_due : (plan : Plan) (calm : NetworkState) (service : ServiceId) (circuit : CircuitId) (origin : ℕ) (me : EdgeId) (hops : ℕ) (es : List Effect) (network : NetworkState)
    → times_left origin circuit (all_entries_of me origin hops es network) + due plan calm service circuit origin (absorb_all me origin hops es network)
    ≡ due plan calm service circuit origin network + meets plan calm service circuit me es
all_due plan calm service circuit origin me hops [] network = omega arith
all_due plan calm service circuit origin me hops (e ∷ es) network =
    let next : NetworkState = absorb_one me origin hops e network in
    omega (
      arith,
      times_left-append origin circuit (entries_told me origin hops e network) (all_entries_of me origin hops es next),
      one_due plan calm service circuit origin me hops e network,
      all_due plan calm service circuit origin me hops es next,
      meets-append plan calm service circuit me (e ∷ []) es,
    )
