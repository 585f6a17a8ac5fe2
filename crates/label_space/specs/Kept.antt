-- Numbers that were freed and are kept to be given again. Such a number may still be named by a message on its way, by a binding of the
-- neighbour, or on a packet under way. After a new connection with the neighbour that it was given for no message and no binding names
-- it, and no packet is under way for longer than 64 ticks; so then it may be given again.
use Rattle.std.specs.Prelude.{◌≤◌, ◌+◌, ◌==◌, nat_lt, not, map, filter, ℕ, Bool, true, false, List, [], ◌∷◌, length, Option, Some, None, option_map, if◌then◌else◌}
use Rattle.std.specs.List.{find}
use Rattle.net_base.specs.declared.plan.places.EdgeId.{EdgeId}
use Rattle.label_space.specs.declared.kept.Kept.{Kept}
use Rattle.label_space.specs.declared.kept.KeptState.{KeptState}
use Rattle.label_space.specs.declared.kept.KeptState.TheVariants.{Waits, Rests, Free}

-- how many numbers are kept at most, and for how many ticks a number rests
abbrev pub most_kept : ℕ
most_kept = 4096

abbrev pub rest_ticks : ℕ
rest_ticks = 64

-- ---- lists in rising order of a number

-- one more, at its place
abbrev pub put_by : {X : Type 0} → (X → ℕ) → X → List X → List X
put_by number new [] = new ∷ []
put_by number new (x ∷ xs) = if nat_lt (number x) (number new) then x ∷ put_by number new xs else new ∷ x ∷ xs

-- the numbers rise, and none is below this one
abbrev pub AreRisingBy : {X : Type 0} → (X → ℕ) → ℕ → List X → Type 0
AreRisingBy number from [] = Unit {0}
AreRisingBy number from (x ∷ xs) = (from ≤ number x) × AreRisingBy number (number x + 1) xs

-- ---- the kept numbers stand in rising order

-- the number itself
abbrev pub label_of : Kept → ℕ
label_of k = k.label

-- what one of them does; a number that is not kept does nothing
abbrev pub kept_at : ℕ → List Kept → Option KeptState
kept_at label [] = None
kept_at label (k ∷ ks) = if k.label == label then Some k.state else kept_at label ks

-- ---- a number is freed

-- it waits for a neighbour
abbrev pub waiting : ℕ → EdgeId → Kept
waiting label peer = record { label = label; state = Waits peer }

-- one more is kept, in the order of the numbers
abbrev pub put_in : Kept → List Kept → List Kept
put_in new kept = put_by label_of new kept

-- it waits for the neighbour that it was given for; where as many are kept as may be it is retired, which is to say that it is neither
-- kept nor ever given again
abbrev pub keeps : ℕ → EdgeId → List Kept → List Kept
keeps label peer kept = if nat_lt (length kept) most_kept then put_in (waiting label peer) kept else kept

-- ---- a connection with a neighbour begins: what waits for it begins to rest

-- what waits for this neighbour rests from now on
abbrev pub met_state : EdgeId → KeptState → KeptState
met_state peer (Waits other) = if other.0 == peer.0 then Rests 0 else Waits other
met_state peer (Rests ticks) = Rests ticks
met_state peer Free = Free

-- the same of a kept number
abbrev pub met_one : EdgeId → Kept → Kept
met_one peer k = record { label = k.label; state = met_state peer k.state }

-- the same of all
abbrev pub met : EdgeId → List Kept → List Kept
met peer kept = map (met_one peer) kept

-- ---- a tick passes: each rest is longer, and at its end the number is free

-- a rest is one tick longer, until it is over
abbrev pub ticked_state : KeptState → KeptState
ticked_state (Waits peer) = Waits peer
ticked_state (Rests ticks) = if nat_lt (ticks + 1) rest_ticks then Rests (ticks + 1) else Free
ticked_state Free = Free

-- the same of a kept number
abbrev pub ticked_one : Kept → Kept
ticked_one k = record { label = k.label; state = ticked_state k.state }

-- the same of all
abbrev pub ticked : List Kept → List Kept
ticked kept = map ticked_one kept

-- it rests
abbrev pub rests_state : KeptState → Bool
rests_state (Waits peer) = false
rests_state (Rests ticks) = true
rests_state Free = false

-- the same of a kept number
abbrev pub rests : Kept → Bool
rests k = rests_state k.state

-- ---- a number is given

-- a number that may be given again
abbrev pub is_free_state : KeptState → Bool
is_free_state (Waits peer) = false
is_free_state (Rests ticks) = false
is_free_state Free = true

-- the same of a kept number
abbrev pub is_free : Kept → Bool
is_free k = is_free_state k.state

-- the least number that is free
abbrev pub least_free : List Kept → Option ℕ
least_free kept = option_map label_of (find is_free kept)

-- a number that is given is kept no longer
abbrev pub without : ℕ → List Kept → List Kept
without label kept = filter (λ k. not (k.label == label)) kept

-- the same of a number, where there is one
abbrev pub without_one : Option ℕ → List Kept → List Kept
without_one None kept = kept
without_one (Some label) kept = without label kept
