-- A scenario's fault in words.
use Rattle.std.specs.Prelude.{codes, map, ℕ, List, [], ◌∷◌}
use Rattle.std.specs.Fmt.{decimal}
use Rattle.net_base.specs.declared.plan.place.Place.{Place}
use Rattle.net_base.specs.declared.plan.plan_fault.PlanFault.{PlanFault}
use Rattle.net_base.specs.declared.plan.plan_fault.PlanFault.TheVariants as plan_fault
use Rattle.net_base.specs.declared.plan.table.Table.{Table}
use Rattle.net_base.specs.declared.plan.table.Table.TheVariants as table
use Rattle.command_text.specs.Places.{masked}
use Rattle.command_text.specs.declared.scenario_fault.ScenarioFault.{ScenarioFault}
use Rattle.command_text.specs.declared.scenario_fault.ScenarioFault.TheVariants as fault

abbrev pub table_name : Table → List ℕ
table_name table.Top = codes "top"
table_name table.Events = codes "events"
table_name table.Edge = codes "edge"
table_name table.Service = codes "service"
table_name table.Group = codes "group"
table_name table.Circuit = codes "circuit"
table_name table.Wire = codes "wire"
table_name table.Near = codes "near"
table_name table.Far = codes "far"

-- the table, the row and the key, with `?` for what cannot be printed
abbrev pub place_words : Place → List (List ℕ)
place_words place = table_name place.table ∷ decimal place.index ∷ map masked place.key ∷ []

abbrev pub plan_fault_name : PlanFault → List ℕ
plan_fault_name (plan_fault.UnknownName place) = codes "UnknownName"
plan_fault_name (plan_fault.RepeatedName place) = codes "RepeatedName"
plan_fault_name (plan_fault.RepeatedPwId place) = codes "RepeatedPwId"
plan_fault_name (plan_fault.TwoMeshWires place) = codes "TwoMeshWires"
plan_fault_name (plan_fault.SpokeInMesh place) = codes "SpokeInMesh"
plan_fault_name (plan_fault.PathTooLong place) = codes "PathTooLong"
plan_fault_name (plan_fault.PathRepeats place) = codes "PathRepeats"
plan_fault_name (plan_fault.OutOfRange place) = codes "OutOfRange"

-- where a plan's fault stands
abbrev pub plan_fault_place : PlanFault → Place
plan_fault_place (plan_fault.UnknownName place) = place
plan_fault_place (plan_fault.RepeatedName place) = place
plan_fault_place (plan_fault.RepeatedPwId place) = place
plan_fault_place (plan_fault.TwoMeshWires place) = place
plan_fault_place (plan_fault.SpokeInMesh place) = place
plan_fault_place (plan_fault.PathTooLong place) = place
plan_fault_place (plan_fault.PathRepeats place) = place
plan_fault_place (plan_fault.OutOfRange place) = place

-- the fault's name, and its fields in order
abbrev pub fault_words : ScenarioFault → List (List ℕ)
fault_words fault.NotToml = codes "NotToml" ∷ []
fault_words (fault.Missing place) = codes "Missing" ∷ place_words place
fault_words (fault.WrongKind place) = codes "WrongKind" ∷ place_words place
fault_words (fault.UnknownKey place) = codes "UnknownKey" ∷ place_words place
fault_words (fault.BadWord event word) = codes "BadWord" ∷ decimal event ∷ decimal word ∷ []
fault_words (fault.TooMany table limit) = codes "TooMany" ∷ table_name table ∷ decimal limit ∷ []
fault_words fault.Version = codes "Version" ∷ []
fault_words (fault.Plan plan) = codes "Plan" ∷ plan_fault_name plan ∷ place_words (plan_fault_place plan)
fault_words fault.NoMemory = codes "out of memory" ∷ []
