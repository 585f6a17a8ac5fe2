-- What lies around a call of the program: its files and what it writes to.
use Rattle.std.specs.Prelude.{◌≡◌, ℕ, List, [], Option, Some, None, drop, length}
use Rattle.net_base.specs.outside.Outside.{Agrees, ReadCall, Rose}
use Rattle.net_base.specs.declared.trace.entry.Entry.{Entry}
use Rattle.psn_net.specs.Lists.{NetLists}

-- what is known of files: the reads that a shelf was asked for, with the octets that they answered
abbrev pub Files : Type 0
Files = List ReadCall

-- the reads of a call, by those before and after it
unfoldable pub gained : List ReadCall → List ReadCall → Files
gained before after = drop (length before) after

-- this is so of all files with which the answers agree
abbrev pub OfFiles : Files → ((List ℕ → Option (List ℕ)) → Type 0) → Type 0
OfFiles files IsSo = (held : List ℕ → Option (List ℕ)) → Agrees held files → IsSo held

-- the reads of the call with their answers, the shelf's counts of faults by name, what the sink took where it tells it, and the sink's
-- count of faults
pub record Around : Type 0 where
  pub files : Files
  pub shelf_before : List ℕ → ℕ
  pub shelf_after : List ℕ → ℕ
  pub taken_before : Option (List ℕ)
  pub taken_after : Option (List ℕ)
  pub sink_before : ℕ
  pub sink_after : ℕ

-- what lies around a call, by what a shelf and a sink tell of themselves before and after it
abbrev pub around : {F K : Type 0} → (F → List ReadCall) → (F → List ℕ → ℕ) → (K → Option (List ℕ)) → (K → ℕ) → F → K → F → K → Around
around reads shelf_faults taken sink_faults shelf sink shelf_now sink_now = record {
  files = gained (reads shelf) (reads shelf_now);
  shelf_before = shelf_faults shelf;
  shelf_after = shelf_faults shelf_now;
  taken_before = taken sink;
  taken_after = taken sink_now;
  sink_before = sink_faults sink;
  sink_after = sink_faults sink_now;
}

-- a call of the shelf with this name failed
abbrev pub HasReadFault : Around → List ℕ → Type 0
HasReadFault around name = Rose (around.shelf_before name) (around.shelf_after name)

-- a call of the sink failed
abbrev pub HasWriteFault : Around → Type 0
HasWriteFault around = Rose around.sink_before around.sink_after

-- the entries of a run, and none where no run began
abbrev pub trace_of : Option NetLists → List Entry
trace_of None = []
trace_of (Some network) = network.trace

-- no run began, and nothing was taken
pub record IsUntouched (around : Around) (network : Option NetLists) : Type 0 where
  pub taken : around.taken_after ≡ around.taken_before
  pub no_run : network ≡ None

-- the name has these octets, in all files with which the answers agree
abbrev pub Has : Files → List ℕ → List ℕ → Type 0
Has files name octets = OfFiles files (λ held. held name ≡ Some octets)

-- there are files with which the answers agree, and in which the name has these octets
pub record TellsFile (files : Files) (name octets : List ℕ) : Type 0 where
  pub held : List ℕ → Option (List ℕ)
  pub agrees : Agrees held files
  pub has : held name ≡ Some octets
