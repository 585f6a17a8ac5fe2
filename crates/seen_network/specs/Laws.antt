-- What traces show goes on from what they showed, and what becomes of windows.
use Rattle.std.specs.Prelude.{◌≡◌, ◌++◌, ◌∷◌, ℕ, List, Option}
use Rattle.net_base.specs.declared.plan.Plan.{Plan}
use Rattle.net_base.specs.declared.trace.entry.Entry.{Entry}
use Rattle.net_base.specs.declared.trace.entry.Entry.TheVariants.{Did}
use Rattle.net_base.specs.declared.trace.event.Event.{Event}
use Rattle.seen_network.specs.EventEntries.{HasNoEvent}
use Rattle.seen_network.specs.Seen.{BeginsEvent, Seen, seen_from}
use Rattle.seen_network.specs.Verdict.{IsFirstOwed, OnceAnswers}
use Rattle.seen_network.specs.Windows.{AreWindowsOpen, AreOwed, HasPassedWindows, IsOpened}
use Rattle.seen_network.specs.declared.window.Window.{Window}

-- entries behind others, which cut no event, show what they show behind what those showed
abbrev pub SeenOn : Type 0
SeenOn = (front back : List Entry) (seen : Seen) → BeginsEvent back → seen_from seen (front ++ back) ≡ seen_from (seen_from seen front) back

-- windows behind one event more
abbrev pub WindowsGoOn : Type 0
WindowsGoOn = (plan : Plan) (done : List Entry) (event : Event) (rest : List Entry) → HasNoEvent rest → (found : Option Window) (lasting owed lasting2 owed2 : List Window)
    → AreWindowsOpen plan done lasting → AreOwed plan done owed → IsOpened plan done event rest found → HasPassedWindows plan done event rest found lasting owed lasting2 owed2
    → AreWindowsOpen plan (done ++ Did event ∷ rest) lasting2 × AreOwed plan (done ++ Did event ∷ rest) owed2

-- windows at the end
abbrev pub WindowsTell : Type 0
WindowsTell = (plan : Plan) (trace : List Entry) (owed : List Window) (answer : Option ℕ) → AreOwed plan trace owed → IsFirstOwed plan trace owed answer → OnceAnswers plan trace answer
