-- What `apply` answers.
use Rattle.std.specs.Prelude.{◌≡◌, true, Some, length}
use Rattle.net_base.specs.declared.trace.event.Event.{Event}
use Rattle.psn_net.specs.declared.net_stop.NetStop.{NetStop}
use Rattle.psn_net.specs.declared.net_stop.NetStop.TheVariants.{Crowded, TooMuch, NoMemory}
use Rattle.psn_net.specs.Lists.{NetLists, network_seen}
use Rattle.psn_net.specs.Weight.{stop_at}

-- the limit that is met, and then nothing has changed; or memory was refused, and the network is given up
abbrev pub Stops : NetLists → NetLists → Event → NetStop → Type 0
Stops old now event (Crowded count number) = (stop_at old.trace (length (network_seen old).under_way) event ≡ Some (Crowded count number)) × (now ≡ old)
Stops old now event (TooMuch weight number) = (stop_at old.trace (length (network_seen old).under_way) event ≡ Some (TooMuch weight number)) × (now ≡ old)
Stops old now event NoMemory = now.failed ≡ true
