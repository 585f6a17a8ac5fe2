-- The words of an event, written and read.
use Rattle.std.specs.Prelude.{◌≡◌, ◌<◌, ◌≤◌, ◌^◌, ℕ, List, length, Ok}
use Rattle.net_base.specs.declared.plan.Plan.{Plan}
use Rattle.net_base.specs.declared.trace.event.Event.{Event}
use Rattle.net_base.specs.declared.trace.event.Event.TheVariants.{Connect, Deliver, Lose, Restart, Tick, Frame, Arrive, Discard, Again, Wire, Circuit, Status, Priority, Ping}
use Rattle.net_base.specs.plan.Planned.{IsEventOf}
use Rattle.std.specs.List.{All}
use Rattle.event_rows.specs.Rows.{event_words}
use Rattle.plan_names.specs.Planned.{HasNames}
use Rattle.script_text.specs.Script.{spaced_words}
use Rattle.command_text.specs.Events.{command_in}
use Rattle.command_text.specs.declared.command.Command.TheVariants.{One}

-- the number of a packet
abbrev pub IsPacket : ℕ → Type 0
IsPacket packet = (1 ≤ packet) × (packet < 2 ^ 64)

-- a frame that a scenario can write: 1 to 9216 octets
pub record IsWritable (octets : List ℕ) : Type 0 where
  pub each : All (λ octet. octet < 256) octets
  pub some : 1 ≤ length octets
  pub few : length octets ≤ 9216

-- the numbers of an event are in the ranges in which a scenario writes them
abbrev pub IsEventInRange : Event → Type 0
IsEventInRange (Connect from to) = Unit {0}
IsEventInRange (Deliver from to count) = (1 ≤ count) × (count ≤ 65535)
IsEventInRange (Lose edge peer) = Unit {0}
IsEventInRange (Restart edge) = Unit {0}
IsEventInRange Tick = Unit {0}
IsEventInRange (Frame circuit octets) = IsWritable octets
IsEventInRange (Arrive packet) = IsPacket packet
IsEventInRange (Discard packet) = IsPacket packet
IsEventInRange (Again packet) = IsPacket packet
IsEventInRange (Wire edge wire on) = Unit {0}
IsEventInRange (Circuit circuit on) = Unit {0}
IsEventInRange (Status edge wire bits) = Unit {0}
IsEventInRange (Priority edge wire priority) = priority ≤ 255
IsEventInRange (Ping edge wire) = Unit {0}

-- the words of an event are read as the event
abbrev pub ReadsWhatIsWritten : Type 0
ReadsWhatIsWritten = (plan : Plan) (event : Event) (number plays : ℕ) → HasNames plan → IsEventOf plan event → IsEventInRange event
    → command_in plan number plays (spaced_words (event_words plan event)) ≡ Ok (One event)
