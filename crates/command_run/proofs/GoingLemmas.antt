-- A network goes on behind the events that it has done.
use Rattle.std.proofs.Common.{◌≡◌, ◌≢◌, ◌∙◌, false, Result, Ok, Err, OnOk, IfErr, ap, refl}
use Rattle.net_base.specs.declared.trace.event.Event.{Event}
use Rattle.psn_net.specs.declared.net_stop.NetStop.{NetStop}
use Rattle.psn_net.specs.declared.net_stop.NetStop.TheVariants.{Crowded, TooMuch, NoMemory}
use Rattle.psn_net.specs.Applying.{Stops}
use Rattle.psn_net.specs.Lists.{NetLists}
use Rattle.command_run.specs.Going.{GoesOnAt, IsRunGoing}

-- a limit changes nothing
pub stopped_going : (old now : NetLists) (event : Event) (stop : NetStop) → old.failed ≡ false → Stops old now event stop → GoesOnAt stop now
stopped_going old now event (Crowded count number) going stops = ap (λ (l : NetLists). l.failed) stops.1 ∙ going
stopped_going old now event (TooMuch weight number) going stops = ap (λ (l : NetLists). l.failed) stops.1 ∙ going
stopped_going old now event NoMemory going stops = tt

-- what one event leaves
pub applied_going : {A : Type 0} (old now : NetLists) (event : Event) (result : Result A NetStop) → old.failed ≡ false → OnOk result ((old.failed ≡ false) × (now.failed ≡ false))
    → IfErr result (Stops old now event) → IsRunGoing result now
applied_going old now event (Ok done) going goes stops = goes.1
applied_going old now event (Err stop) going goes stops = stopped_going old now event stop going stops

-- a run that a limit stopped
pub limit_going : (stop : NetStop) (left : NetLists) → stop ≢ NoMemory → GoesOnAt stop left → left.failed ≡ false
limit_going (Crowded count event) left limit going = going
limit_going (TooMuch weight event) left limit going = going
limit_going NoMemory left limit going = absurd (limit refl)
