-- Two edges and a wire: the octets of what is told, and the script in which the first edge asks for a switchover. The equations are
-- found by evaluation alone.
use Rattle.std.proofs.Common.{◌≡◌, ℕ, true, false, List, [], ◌∷◌, Some, None, refl}
use Rattle.std.specs.Prelude.{codes}
use Rattle.net_base.specs.declared.plan.Plan.{Plan}
use Rattle.net_base.specs.declared.plan.edge_plan.EdgePlan.{EdgePlan}
use Rattle.net_base.specs.declared.plan.offer.Offer.{Offer}
use Rattle.net_base.specs.declared.plan.wire_plan.WirePlan.{WirePlan}
use Rattle.net_base.specs.declared.plan.wire_plan.Class.TheVariants.{Mesh}
use Rattle.status_exchange.specs.declared.wish.Wish.TheVariants.{Active, Standby}
use Rattle.independent_model.specs.State.{with_connection}
use Rattle.independent_model.specs.Tell.{octets_on}
use Rattle.independent_model.specs.Wires.{is_between}
use Rattle.switchover_model.specs.declared.switch_line.SwitchLine.{SwitchLine}
use Rattle.switchover_model.specs.declared.switch_line.SwitchLine.TheVariants.{Connect}
use Rattle.switchover_model.specs.Network.{SwitchState, done_all, first_network, switch_flight}

abbrev an_edge : ℕ → EdgePlan
an_edge last = record { name = codes "pe"; address = record { 0 = 10 ∷ 0 ∷ 0 ∷ last ∷ [] }; first_label = 16; keepalive = 180; max_pdu = 4096 }

abbrev an_offer : Offer
an_offer = record { tagged = false; cword = true; mtu = Some 1500; vlan = None; vccv = Some 0; status = true; group = 0; description = [] }

abbrev a_wire : WirePlan
a_wire = record { name = codes "w"; service = record { 0 = 0 }; class = Mesh; path = record { 0 = 0 } ∷ record { 0 = 1 } ∷ []; pw_id = 100; near = an_offer; far = an_offer; priority = 100 }

abbrev plan : Plan
plan = record {
  edges = an_edge 1 ∷ an_edge 2 ∷ [];
  services = record { name = codes "s"; mtu = 1500; age = 300 } ∷ [];
  circuits = [];
  wires = a_wire ∷ [];
}

-- the first edge tells that it stands by
told_first : octets_on plan 0 a_wire Standby 1 ≡ 0 ∷ 1 ∷ 0 ∷ 52 ∷ 10 ∷ 0 ∷ 0 ∷ 1 ∷ 0 ∷ 0 ∷ 0 ∷ 1 ∷ 0 ∷ 42 ∷ 0 ∷ 0 ∷ 0 ∷ 1 ∷ 3 ∷ 0 ∷ 0 ∷ 10 ∷ 0 ∷ 0 ∷ 0 ∷ 40 ∷ 0 ∷ 0 ∷ 0 ∷ 0 ∷ 0 ∷ 0
    ∷ 137 ∷ 106 ∷ 0 ∷ 4 ∷ 0 ∷ 0 ∷ 0 ∷ 32 ∷ 1 ∷ 0 ∷ 0 ∷ 12 ∷ 128 ∷ 128 ∷ 5 ∷ 4 ∷ 0 ∷ 0 ∷ 0 ∷ 0 ∷ 0 ∷ 0 ∷ 0 ∷ 100 ∷ []
told_first = refl

-- the second edge tells that it is active, as it was asked
told_answer : octets_on plan 1 a_wire Active 2 ≡ 0 ∷ 1 ∷ 0 ∷ 52 ∷ 10 ∷ 0 ∷ 0 ∷ 2 ∷ 0 ∷ 0 ∷ 0 ∷ 1 ∷ 0 ∷ 42 ∷ 0 ∷ 0 ∷ 0 ∷ 2 ∷ 3 ∷ 0 ∷ 0 ∷ 10 ∷ 0 ∷ 0 ∷ 0 ∷ 40 ∷ 0 ∷ 0 ∷ 0 ∷ 0 ∷ 0 ∷ 0
    ∷ 137 ∷ 106 ∷ 0 ∷ 4 ∷ 0 ∷ 0 ∷ 0 ∷ 0 ∷ 1 ∷ 0 ∷ 0 ∷ 12 ∷ 128 ∷ 128 ∷ 5 ∷ 4 ∷ 0 ∷ 0 ∷ 0 ∷ 0 ∷ 0 ∷ 0 ∷ 0 ∷ 100 ∷ []
told_answer = refl

abbrev after : List SwitchLine → SwitchState
after lines = done_all plan lines first_network

said_first : switch_flight (after (Connect (record { 0 = 0 }) (record { 0 = 1 }) ∷ [])) 0 1 ≡ octets_on plan 0 a_wire Standby 1
unfolding is_between with_connection
said_first = refl
