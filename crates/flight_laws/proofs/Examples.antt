-- A connection comes up on a network of two edges that a wire joins: the first row of the table. The equations are found by
-- evaluation alone.
use Rattle.std.proofs.Common.{◌≡◌, ℕ, true, false, List, [], ◌∷◌, Option, Some, None, option_map, refl, arith}
use Rattle.std.specs.Prelude.{codes}
use Rattle.net_base.specs.declared.plan.Plan.{Plan}
use Rattle.net_base.specs.declared.plan.edge_plan.EdgePlan.{EdgePlan}
use Rattle.net_base.specs.declared.plan.offer.Offer.{Offer}
use Rattle.net_base.specs.declared.plan.places.EdgeId.{EdgeId}
use Rattle.net_base.specs.declared.plan.wire_plan.WirePlan.{WirePlan}
use Rattle.net_base.specs.declared.plan.wire_plan.Class.TheVariants.{Mesh}
use Rattle.net_base.specs.declared.trace.event.Event.{Event}
use Rattle.net_base.specs.declared.trace.event.Event.TheVariants.{Connect}
use Rattle.ldp_grammar.specs.declared.message.Message.TheVariants.{Initialization}
use Rattle.pw_signalling.specs.Down.{down}
use Rattle.session_core.specs.Parameters.{proposal}
use Rattle.session_core.specs.Phase.{Phase}
use Rattle.session_core.specs.Phase as phase
use Rattle.edge_model.specs.Put.{with_spoken}
use Rattle.edge_model.specs.State.{with_addresses, with_chosen, with_kept, with_peering}
use Rattle.edge_model.specs.Work.{changes, gives, idles, puts}
use Rattle.network_model.specs.State.{NetworkState, with_edge, with_pipe}
use Rattle.flight_laws.specs.Ends.{ends_at}
use Rattle.flight_laws.specs.Facts.{flight}
use Rattle.flight_laws.specs.Laws.{network_after}
use Rattle.flight_laws.specs.Messages.{octets_of_all}
use Rattle.flight_laws.specs.Pair.{AreFit}

abbrev an_edge : ℕ → EdgePlan
an_edge last = record { name = codes "pe"; address = record { 0 = 10 ∷ 0 ∷ 0 ∷ last ∷ [] }; first_label = 16; keepalive = 180; max_pdu = 4096 }

abbrev an_offer : Offer
an_offer = record { tagged = false; cword = true; mtu = Some 1500; vlan = None; vccv = None; status = true; group = 0; description = [] }

abbrev a_wire : WirePlan
a_wire = record { name = codes "w"; service = record { 0 = 0 }; class = Mesh; path = record { 0 = 0 } ∷ record { 0 = 1 } ∷ []; pw_id = 100; near = an_offer; far = an_offer; priority = 0 }

abbrev plan : Plan
plan = record {
  edges = an_edge 2 ∷ an_edge 1 ∷ [];
  services = record { name = codes "s"; mtu = 1500; age = 2 } ∷ [];
  circuits = [];
  wires = a_wire ∷ [];
}

-- a is the active end, because its address is the larger
abbrev a : EdgeId
a = record { 0 = 0 }

abbrev b : EdgeId
b = record { 0 = 1 }

abbrev phase_at : NetworkState → ℕ → ℕ → Option Phase
phase_at network here there = option_map (λ kept. kept.session.phase) ((network.edges here).peering there)

-- the two session states, the active end's first
abbrev states : List Event → Option Phase × Option Phase
states events = (phase_at (network_after plan events) 0 1, phase_at (network_after plan events) 1 0)

abbrev connected : List Event
connected = Connect a b ∷ []

-- the active end has spoken, and the passive end waits
first_row : states connected ≡ (Some phase.OpenSent, Some phase.Initialized)
unfolding changes down gives idles puts with_addresses with_chosen with_edge with_kept with_peering with_pipe with_spoken
first_row = refl

on_its_way : flight (network_after plan connected) 0 1 ≡ octets_of_all (ends_at plan 0 1).me (Initialization 1 (proposal (ends_at plan 0 1)) ∷ [])
unfolding changes down gives idles puts with_addresses with_chosen with_edge with_kept with_peering with_pipe with_spoken
on_its_way = refl

-- the ends of the plan are as the laws ask
fit : AreFit (ends_at plan 0 1)
fit = record {
  proper = record { apart = refl; keepalive = omega arith; least = omega arith; most = omega arith };
  me = record { four = refl; octets = (omega arith, (omega arith, (omega arith, (omega arith, tt)))) };
  peer = record { four = refl; octets = (omega arith, (omega arith, (omega arith, (omega arith, tt)))) };
  keepalive = omega arith;
}
