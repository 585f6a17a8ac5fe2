-- A run of the network: the events of a list in turn, from the empty network.
use Rattle.std.specs.Prelude.{◌++◌, List, [], ◌∷◌}
use Rattle.net_base.specs.declared.plan.Plan.{Plan}
use Rattle.net_base.specs.declared.trace.event.Event.{Event}
use Rattle.net_base.specs.declared.trace.entry.Entry.{Entry}
use Rattle.network_model.specs.State.{NetworkState, empty_network}
use Rattle.network_model.specs.Step.{step}

-- the state after the events, and the states on the way, the first one among them
abbrev pub state_after : Plan → NetworkState → List Event → NetworkState
state_after plan network [] = network
state_after plan network (e ∷ es) = state_after plan (step plan network e).state es

abbrev pub states_along : Plan → NetworkState → List Event → List NetworkState
states_along plan network [] = network ∷ []
states_along plan network (e ∷ es) = network ∷ states_along plan (step plan network e).state es

-- what the events tell
abbrev pub entries_along : Plan → NetworkState → List Event → List Entry
entries_along plan network [] = []
entries_along plan network (e ∷ es) = (step plan network e).entries ++ entries_along plan (step plan network e).state es

-- a run: the states, the first one among them, and the trace
pub record Ran : Type 0 where
  pub states : List NetworkState
  pub entries : List Entry

-- the run of these events, from a network before its first event on
abbrev pub run : Plan → List Event → Ran
run plan events = record { states = states_along plan (empty_network plan) events; entries = entries_along plan (empty_network plan) events }
