-- The limit that stopped a run, in words.
use Rattle.std.specs.Prelude.{codes, ℕ, List, [], ◌∷◌}
use Rattle.std.specs.Fmt.{decimal}
use Rattle.psn_net.specs.declared.net_stop.NetStop.{NetStop}
use Rattle.psn_net.specs.declared.net_stop.NetStop.TheVariants.{Crowded, TooMuch, NoMemory}

-- the limit's name, what was counted, and the number of the event that was not done
abbrev pub stop_words : NetStop → List (List ℕ)
stop_words (Crowded count event) = codes "Crowded" ∷ decimal count ∷ decimal event ∷ []
stop_words (TooMuch weight event) = codes "TooMuch" ∷ decimal weight ∷ decimal event ∷ []
stop_words NoMemory = codes "out of memory" ∷ []
