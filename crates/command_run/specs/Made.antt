-- The events that the commands of a scenario make, each from the state that the events before it left.
use Rattle.std.specs.Prelude.{◌++◌, ℕ, zero, suc, List, [], ◌∷◌, Option, Some, None}
use Rattle.net_base.specs.declared.plan.Plan.{Plan}
use Rattle.net_base.specs.declared.plan.places.CircuitId.{CircuitId}
use Rattle.net_base.specs.declared.trace.event.Event.{Event}
use Rattle.net_base.specs.declared.trace.event.Event.TheVariants.{Frame, Tick}
use Rattle.network_model.specs.Delivery.{next_delivery}
use Rattle.network_model.specs.Packet.{next_arrival}
use Rattle.network_model.specs.Run.{state_after}
use Rattle.network_model.specs.State.{NetworkState}
use Rattle.network_model.specs.Step.{step}
use Rattle.command_text.specs.declared.command.Command.{Command}
use Rattle.command_text.specs.declared.command.Command.TheVariants.{One, Settle, Flow, Ticks, Play}

-- so many ticks
abbrev pub ticks : ℕ → List Event
ticks zero = []
ticks (suc n) = Tick ∷ ticks n

-- an event, and those behind it; nothing where there is none
abbrev pub event_and : Option Event → (Event → List Event) → List Event
event_and None behind = []
event_and (Some event) behind = event ∷ behind event

-- so many turns at most, each the next event in the state that the turns before it left; they end where there is none
abbrev pub turns : Plan → (NetworkState → Option Event) → ℕ → NetworkState → List Event
turns plan next zero network = []
turns plan next (suc n) network = event_and (next network) (λ event. turns plan next n (step plan network event).state)

-- so many next deliveries
abbrev pub deliveries : Plan → ℕ → NetworkState → List Event
deliveries plan count network = turns plan (next_delivery plan) count network

-- so many next arrivals
abbrev pub arrivals : Plan → ℕ → NetworkState → List Event
arrivals plan count network = turns plan next_arrival count network

-- each frame enters at the circuit
abbrev pub frames_entering : CircuitId → List (List ℕ) → List Event
frames_entering circuit [] = []
frames_entering circuit (frame ∷ frames) = Frame circuit frame ∷ frames_entering circuit frames

-- the frames of the next capture that is played; none where there is no further one
abbrev pub next_frames : List (List (List ℕ)) → List (List ℕ)
next_frames [] = []
next_frames (frames ∷ captures) = frames

-- the captures behind the next one
abbrev pub later_captures : List (List (List ℕ)) → List (List (List ℕ))
later_captures [] = []
later_captures (frames ∷ captures) = captures

-- the captures that are left to be played once a command was done
abbrev pub captures_after : Command → List (List (List ℕ)) → List (List (List ℕ))
captures_after (One event) captures = captures
captures_after (Settle count) captures = captures
captures_after (Flow count) captures = captures
captures_after (Ticks count) captures = captures
captures_after (Play circuit file) captures = later_captures captures

-- the events of a command, where these are the frames of the captures that are played from it on
abbrev pub made_by : Plan → NetworkState → List (List (List ℕ)) → Command → List Event
made_by plan network captures (One event) = event ∷ []
made_by plan network captures (Settle count) = deliveries plan count network
made_by plan network captures (Flow count) = arrivals plan count network
made_by plan network captures (Ticks count) = ticks count
made_by plan network captures (Play circuit file) = frames_entering circuit (next_frames captures)

-- the events of all commands
abbrev pub made : Plan → NetworkState → List (List (List ℕ)) → List Command → List Event
made plan network captures [] = []
made plan network captures (command ∷ commands) =
    made_by plan network captures command ++ made plan (state_after plan network (made_by plan network captures command)) (captures_after command captures) commands
