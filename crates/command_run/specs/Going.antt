-- A network that goes on.
use Rattle.std.specs.Prelude.{◌≡◌, false, Result, Ok, Err}
use Rattle.psn_net.specs.declared.net_stop.NetStop.{NetStop}
use Rattle.psn_net.specs.declared.net_stop.NetStop.TheVariants.{Crowded, TooMuch, NoMemory}
use Rattle.psn_net.specs.Lists.{NetLists}

-- a network goes on behind events that were done, also where a limit stopped one; where memory was refused nothing is said of it
abbrev pub GoesOnAt : NetStop → NetLists → Type 0
GoesOnAt (Crowded count event) network = network.failed ≡ false
GoesOnAt (TooMuch weight event) network = network.failed ≡ false
GoesOnAt NoMemory network = Unit {0}

-- the network of a call that was done, or that a limit stopped, goes on
abbrev pub IsRunGoing : {A : Type 0} → Result A NetStop → NetLists → Type 0
IsRunGoing (Ok done) network = network.failed ≡ false
IsRunGoing (Err stop) network = GoesOnAt stop network
