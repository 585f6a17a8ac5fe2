-- What the words of the command line ask for.
use Rattle.std.specs.Prelude.{◌&&◌, ◌==◌, ◌-◌, ◌^◌, not, nat_lt, codes, ℕ, Bool, List, [], ◌∷◌, length, slice_index, Option, Some, None, option_map, if◌then◌else◌}
use Rattle.std.specs.Str.{bytes_eq}
use Rattle.plan_names.specs.Decimal.{decimal_from}
use Rattle.vplsnet.specs.declared.request.Request.{Request}
use Rattle.vplsnet.specs.declared.request.Request.TheVariants as request
use Rattle.vplsnet.specs.declared.run_request.RunRequest.{RunRequest}
use Rattle.vplsnet.specs.declared.run_request.RunRequest.TheVariants as runs

-- a command with what its words name
pub data Asked : Type 0 where
  Replay : (file : List ℕ) → Asked
  Tables : (file : List ℕ) → Asked
  Capture : (file circuit : List ℕ) → Asked
  Decode : (file : List ℕ) → Asked
  Rehearse : (seed : ℕ) → Asked
  Migrate : (file : List ℕ) → Asked
  Discover : (file script : List ℕ) → Asked
  Switchover : (file script : List ℕ) → Asked
  Audit : (file report : List ℕ) → Asked

-- a request of a run as it was asked for
abbrev pub run_asked_by : RunRequest → Asked
run_asked_by (runs.Replay file) = Replay file.now
run_asked_by (runs.Tables file) = Tables file.now
run_asked_by (runs.Capture file circuit) = Capture file.now circuit.now
run_asked_by (runs.Rehearse seed) = Rehearse seed

-- a request as it was asked for
abbrev pub asked_by : Request → Asked
asked_by (request.Run run) = run_asked_by run
asked_by (request.Decode file) = Decode file.now
asked_by (request.Migrate file) = Migrate file.now
asked_by (request.Discover file script) = Discover file.now script.now
asked_by (request.Switchover file script) = Switchover file.now script.now
asked_by (request.Audit file report) = Audit file.now report.now

-- neither empty nor an option: it does not begin with `-`
abbrev pub is_plain_argument : List ℕ → Bool
is_plain_argument word = nat_lt 0 (length word) && not (slice_index word 0 == 45)

-- a seed is a number below 2^64, in decimal without leading zeros
abbrev pub rehearsed : List ℕ → Option Asked
rehearsed word = option_map Rehearse (decimal_from 0 (2 ^ 64 - 1) word)

-- a command of one more word, which is plain, by its name
abbrev pub one_word_command : List ℕ → List ℕ → Option Asked
one_word_command command word =
    if bytes_eq command (codes "replay") then Some (Replay word) else
    if bytes_eq command (codes "tables") then Some (Tables word) else
    if bytes_eq command (codes "decode") then Some (Decode word) else
    if bytes_eq command (codes "rehearse") then rehearsed word else
    if bytes_eq command (codes "migrate") then Some (Migrate word) else None

-- a command of two more words, which are plain, by its name
abbrev pub two_word_command : List ℕ → List ℕ → List ℕ → Option Asked
two_word_command command file word =
    if bytes_eq command (codes "capture") then Some (Capture file word) else
    if bytes_eq command (codes "discover") then Some (Discover file word) else
    if bytes_eq command (codes "switchover") then Some (Switchover file word) else
    if bytes_eq command (codes "audit") then Some (Audit file word) else None

-- `replay FILE`, `tables FILE`, `capture FILE CIRCUIT`, `decode FILE`, `rehearse SEED`, `migrate FILE`, `discover FILE SCRIPT`,
-- `switchover FILE SCRIPT` or `audit FILE REPORT`, whose words behind the first are plain; any other words ask for nothing
abbrev pub asked : List (List ℕ) → Option Asked
asked [] = None
asked (command ∷ []) = None
asked (command ∷ word ∷ []) = if is_plain_argument word then one_word_command command word else None
asked (command ∷ file ∷ word ∷ []) = if is_plain_argument file && is_plain_argument word then two_word_command command file word else None
asked (command ∷ file ∷ word ∷ more ∷ rest) = None
