-- What happens in a rehearsal: everything is set up, and then 2,000 frames enter, each with its whole way through the network.
use Rattle.std.specs.Prelude.{◌+◌, ◌==◌, ◌++◌, replicate, ℕ, zero, suc, List, [], ◌∷◌, if◌then◌else◌}
use Rattle.net_base.specs.declared.plan.wire_plan.WirePlan.{WirePlan}
use Rattle.net_base.specs.declared.plan.places.EdgeId.{EdgeId}
use Rattle.net_base.specs.declared.trace.event.Event.TheVariants.{Connect, Frame}
use Rattle.command_text.specs.declared.command.Command.{Command}
use Rattle.command_text.specs.declared.command.Command.TheVariants.{One, Settle, Flow}
use Rattle.rehearsal.specs.Draws.{next_number, drawn}

-- the two ends of a wire connect, the first edge of its path first
abbrev pub connect : List EdgeId → List Command
connect [] = []
connect (from ∷ []) = []
connect (from ∷ to ∷ []) = One (Connect from to) ∷ []
connect (from ∷ to ∷ more ∷ rest) = []

-- those of each wire, in the plan's order
abbrev pub connect_commands : List WirePlan → List Command
connect_commands [] = []
connect_commands (wire ∷ wires) = connect wire.path ++ connect_commands wires

-- the station at a circuit, which has the number of its edge
abbrev pub station : ℕ → List ℕ
station number = 2 ∷ 0 ∷ 0 ∷ 0 ∷ 0 ∷ number ∷ []

-- where a frame goes to: to everybody (0), or to the station of this number, which is nowhere where the number is no edge's
abbrev pub probe_destination : ℕ → List ℕ
probe_destination number = if number == 0 then 255 ∷ 255 ∷ 255 ∷ 255 ∷ 255 ∷ 255 ∷ [] else station number

-- the type of IPv4, and 46 octets: the least frame (IEEE 802.3 section 3.2.7)
unfoldable pub probe_payload : List ℕ
probe_payload = 8 ∷ 0 ∷ replicate 46 0

-- a frame from one station to another
unfoldable pub frame : ℕ → ℕ → List ℕ
frame from to = (probe_destination to ++ station from) ++ probe_payload

-- so many frames and their ways, where the draw before them left this number: the first draw is the circuit at which the frame enters,
-- and the second one where it goes to
abbrev pub frames_from : ℕ → ℕ → List Command
frames_from zero number = []
frames_from (suc count) number =
    One (Frame (record { 0 = drawn 16 (next_number number) }) (frame (drawn 16 (next_number number) + 1) (drawn 17 (next_number (next_number number)))))
    ∷ Flow 1000 ∷ frames_from count (next_number (next_number number))

-- the connections, all deliveries that they lead to, and the frames
unfoldable pub commands : List WirePlan → ℕ → List Command
commands wires seed = (connect_commands wires ++ Settle 10000 ∷ []) ++ frames_from 2000 seed
