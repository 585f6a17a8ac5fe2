-- What an event tells shows what it makes of the network.
use Rattle.std.specs.Prelude.{◌≡◌, ℕ, false}
use Rattle.net_base.specs.declared.plan.Plan.{Plan}
use Rattle.net_base.specs.declared.trace.event.Event.{Event}
use Rattle.network_model.specs.Absorb.{Stepped, idle}
use Rattle.network_model.specs.State.{NetworkState, stands}
use Rattle.seen_network.specs.Seen.{Seen, happened}
use Rattle.seen_laws.specs.Shows.{AreTold, Shows, tolds}

-- no edge has a connection with itself
abbrev pub NoneAlone : NetworkState → Type 0
NoneAlone network = (a : ℕ) → stands network a a ≡ false

-- an event that does not apply tells that alone; of another one, what is told behind it shows the network
pub data IsShown (plan : Plan) (event : Event) (network : NetworkState) (seen : Seen) (after : Stepped) : Type 0 where
  WasIdle : after ≡ idle network → IsShown plan event network seen after
  HasGone : AreTold after.entries → Shows plan after.state (tolds after.entries (happened event seen)) → IsShown plan event network seen after
