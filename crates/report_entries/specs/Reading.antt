-- What the words of a report's lines say. No two words say the same: numbers have no leading zeros, and digits no capital letters.
use Rattle.std.specs.Prelude.{◌≡◌, codes, take, false, ℕ, List, Option, Some, None, option_map, is_some, Result, Ok, Err, if◌then◌else◌}
use Rattle.std.specs.Str.{bytes_eq}
use Rattle.net_base.specs.declared.plan.places.CircuitId.{CircuitId}
use Rattle.net_base.specs.declared.plan.places.EdgeId.{EdgeId}
use Rattle.net_base.specs.declared.plan.places.WireId.{WireId}
use Rattle.net_base.specs.declared.trace.arrival.Arrival.{Arrival}
use Rattle.net_base.specs.declared.trace.arrival.Arrival.TheVariants as arrival
use Rattle.octet_text.specs.Hex.{digits_in, unhex}
use Rattle.script_text.specs.Script.{words_of}
use Rattle.plan_names.specs.declared.plan_names.PlanNames.{PlanNames}
use Rattle.plan_names.specs.Names.{place_in}
use Rattle.plan_names.specs.Decimal.{decimal_from}
use Rattle.report_entries.specs.declared.unread.Unread.{Unread}
use Rattle.report_entries.specs.declared.unread.Unread.TheVariants.{NoEntry, NoMemory}

infixl 10 ◌>>=◌
abbrev pub ◌>>=◌ : {A B : Type 0} → Option A → (A → Option B) → Option B
None >>= f = None
(Some x) >>= f = f x

-- a call reads what the definition says, want of memory apart
abbrev pub Reads : {A : Type 0} → Result A Unread → Option A → Type 0
Reads (Ok x) read = read ≡ Some x
Reads (Err NoEntry) read = read ≡ None
Reads (Err NoMemory) read = Unit {0}

-- ---- words

-- no line that a report has is longer than nine words, so that the first ten tell whether it is one. It is cut at each blank, so that a word may be empty
unfoldable pub line_words : List ℕ → List (List ℕ)
line_words line = take 10 (words_of line)

-- the edge with this name
unfoldable pub edge_of_word : PlanNames → List ℕ → Option EdgeId
edge_of_word names word = option_map (λ n. record { 0 = n }) (place_in names.edges word)

-- the circuit with this name
unfoldable pub circuit_of_word : PlanNames → List ℕ → Option CircuitId
circuit_of_word names word = option_map (λ n. record { 0 = n }) (place_in names.circuits word)

-- the wire with this name
unfoldable pub wire_of_word : PlanNames → List ℕ → Option WireId
wire_of_word names word = option_map (λ n. record { 0 = n }) (place_in names.wires word)

-- no circuit has the name of a wire, and none has a dash
unfoldable pub arrival_in : PlanNames → List ℕ → Option Arrival
arrival_in names word =
    if bytes_eq word (codes "-") then Some arrival.Own
    else if is_some (circuit_of_word names word) then option_map arrival.Circuit (circuit_of_word names word)
    else option_map arrival.Wire (wire_of_word names word)

-- a number of 64 bits
unfoldable pub number_in : List ℕ → Option ℕ
number_in word = decimal_from 0 18446744073709551615 word

-- pairs of digits, of which no capital letter is one
unfoldable pub digits_told : List ℕ → Option (List ℕ)
digits_told word = unhex (digits_in false word)
