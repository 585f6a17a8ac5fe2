-- The next delivery: up to 65,535 octets between the first two edges that have something to deliver, in the plan's order of the
-- sender and then of the receiver.
use Rattle.std.specs.Prelude.{◌+◌, ℕ, zero, suc, Bool, length, Option, Some, None, option_map, if◌then◌else◌}
use Rattle.net_base.specs.declared.plan.Plan.{Plan}
use Rattle.net_base.specs.declared.trace.event.Event.{Event}
use Rattle.net_base.specs.declared.trace.event.Event.TheVariants.{Deliver}
use Rattle.network_model.specs.Connection.{is_deliverable}
use Rattle.network_model.specs.State.{NetworkState}

-- the first of so many places, from one on, that passes a test
abbrev pub first_from : (ℕ → Bool) → ℕ → ℕ → Option ℕ
first_from test place zero = None
first_from test place (suc count) = if test place then Some place else first_from test (place + 1) count

-- a pair with this first place, where it has a second one, or else another pair
abbrev pub pair_or : ℕ → Option ℕ → Option (ℕ × ℕ) → Option (ℕ × ℕ)
pair_or place None rest = rest
pair_or place (Some other) rest = Some (place, other)

-- the first pair of places below a size that passes a test, the first places being so many from one on
abbrev pub first_pair : (ℕ → ℕ → Bool) → ℕ → ℕ → ℕ → Option (ℕ × ℕ)
first_pair test size place zero = None
first_pair test size place (suc count) = pair_or place (first_from (test place) 0 size) (first_pair test size (place + 1) count)

-- as many octets as a pipe is asked for at once
abbrev pub most_octets : ℕ
most_octets = 65535

-- the delivery of all that is on its way between the two edges, as far as one event can bring it
abbrev pub delivery_of : ℕ × ℕ → Event
delivery_of pair = Deliver (record { 0 = pair.0 }) (record { 0 = pair.1 }) most_octets

-- the next delivery: that of the first pair for which there is one
abbrev pub next_delivery : Plan → NetworkState → Option Event
next_delivery plan network = option_map delivery_of (first_pair (is_deliverable network) (length plan.edges) 0 (length plan.edges))
