-- Reading in steps: the first fault from the front is the answer.
use Rattle.std.specs.Prelude.{◌≡◌, ◌++◌, Bool, true, List, Option, Some, None, Result, Ok, Err, if◌then◌else◌}
use Rattle.command_text.specs.declared.scenario_fault.ScenarioFault.{ScenarioFault}
use Rattle.command_text.specs.declared.scenario_fault.ScenarioFault.TheVariants.{NotToml, Missing, WrongKind, UnknownKey, BadWord, TooMany, Version, Plan, NoMemory}

infixl 10 ◌>>=◌
abbrev pub ◌>>=◌ : {A B : Type 0} → Result A ScenarioFault → (A → Result B ScenarioFault) → Result B ScenarioFault
(Ok x) >>= f = f x
(Err e) >>= f = Err e

-- Ok where the test holds, and else this fault
abbrev pub checked : ScenarioFault → Bool → Result Bool ScenarioFault
checked fault test = if test then Ok true else Err fault

-- what was found, and else this fault
abbrev pub found : {A : Type 0} → ScenarioFault → Option A → Result A ScenarioFault
found fault None = Err fault
found fault (Some x) = Ok x

-- these before those read
abbrev pub with_front : {A : Type 0} → List A → Result (List A) ScenarioFault → Result (List A) ScenarioFault
with_front front read = read >>= (λ xs. Ok (front ++ xs))

-- a fault other than want of memory is the definition's
abbrev pub Fails : {Y : Type 0} → ScenarioFault → Result Y ScenarioFault → Type 0
Fails NoMemory read = Unit {0}
Fails NotToml read = read ≡ Err NotToml
Fails (Missing place) read = read ≡ Err (Missing place)
Fails (WrongKind place) read = read ≡ Err (WrongKind place)
Fails (UnknownKey place) read = read ≡ Err (UnknownKey place)
Fails (BadWord event word) read = read ≡ Err (BadWord event word)
Fails (TooMany table limit) read = read ≡ Err (TooMany table limit)
Fails Version read = read ≡ Err Version
Fails (Plan fault) read = read ≡ Err (Plan fault)

-- a call gives what the definition says, want of memory apart
abbrev pub Gives : {X : Type 0} → Result X ScenarioFault → Result X ScenarioFault → Type 0
Gives (Ok x) read = read ≡ Ok x
Gives (Err e) read = Fails e read

-- a call that takes no memory gives what the definition says, seen by a view
abbrev pub MapsTo : {X Y : Type 0} → (X → Y) → Result X ScenarioFault → Result Y ScenarioFault → Type 0
MapsTo view (Ok x) read = read ≡ Ok (view x)
MapsTo view (Err e) read = read ≡ Err e
