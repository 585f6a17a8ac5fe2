-- What the reads of a call were for.
use Rattle.std.proofs.Common.{◌≡◌, ◌≤◌, ◌<◌, ◌+◌, ◌++◌, ◌∙◌, ℕ, List, [], ◌∷◌, Option, Some, None, length, refl, ap, sym, subst, append_assoc}
use Rattle.std.proofs.lemmas.List.{append-nil}
use Rattle.std.specs.List.{AllByRecursion}
use Rattle.std.specs.Prelude.{drop, slice_index_or}
use Rattle.net_base.specs.outside.Outside.{ReadCall}
use Rattle.command_text.specs.declared.command.Command.{Command}
use Rattle.scenario_text.specs.declared.scenario.Scenario.{Scenario}
use Rattle.vplsnet.specs.Around.{Files, Has, gained}
use Rattle.vplsnet.specs.Asked.{Asked, Decode, Migrate}
use Rattle.vplsnet.specs.Capture.{lacks_circuit}
use Rattle.vplsnet.specs.Captures.{HasPlayed}
use Rattle.vplsnet.specs.Inputs.{capture_file, capture_limit, played, played_by, scenario_limit, stream_limit}
use Rattle.vplsnet.specs.Reads.{GainsReads, IsCaptureRead, IsPlayedRead, IsReadOf, IsReadOfNext, MayRead}
use Rattle.vplsnet.specs.ScenarioFile.{IsOfFile, ReadsScenario}
use Rattle.vplsnet.proofs.AgreeLemmas.{Within, has_within, within_first, within_second}
use Rattle.vplsnet.proofs.CaptureLemmas.{IsPlayedTo, played_at, played_both, played_within}
use Rattle.vplsnet.proofs.ScenarioFileLemmas.{IsScenarioFile, comes_to}

-- ---- reads one after another

all_append : (P : ReadCall → Type 0) (xs ys : List ReadCall) → AllByRecursion P xs → AllByRecursion P ys → AllByRecursion P (xs ++ ys)
all_append P [] ys one other = other
all_append P (x ∷ xs) ys one other = (one.0, all_append P xs ys one.1 other)

all_as : (P Q : ReadCall → Type 0) (xs : List ReadCall) → ((x : ReadCall) → P x → Q x) → AllByRecursion P xs → AllByRecursion Q xs
all_as P Q [] follows all = tt
all_as P Q (x ∷ xs) follows all = (follows x all.0, all_as P Q xs follows all.1)

pub reads_none : (P : ReadCall → Type 0) (reads : List ReadCall) → GainsReads P reads reads
reads_none P reads = record { gained = []; joined = sym (append-nil reads); each = tt }

pub reads_then : (P : ReadCall → Type 0) (a b c : List ReadCall) → GainsReads P a b → GainsReads P b c → GainsReads P a c
reads_then P a b c one two = record {
  gained = one.gained ++ two.gained;
  joined = two.joined ∙ (ap (λ (l : List ReadCall). l ++ two.gained) one.joined ∙ append_assoc a one.gained two.gained);
  each = all_append P one.gained two.gained one.each two.each;
}

pub reads_as : (P Q : ReadCall → Type 0) (a b : List ReadCall) → ((read : ReadCall) → P read → Q read) → GainsReads P a b → GainsReads Q a b
reads_as P Q a b follows one = record { gained = one.gained; joined = one.joined; each = all_as P Q one.gained follows one.each }

-- one more, of the same file
pub reads_more : (name : List ℕ) (limit from room : ℕ) (answer : Option (List ℕ)) (before between after : List ReadCall) → GainsReads (IsReadOf (record { name = name; limit = limit })) before between
    → after ≡ between ++ record { name = name; from = from; room = room; answer = answer } ∷ [] → from + room ≤ limit + 1 → GainsReads (IsReadOf (record { name = name; limit = limit })) before after
reads_more name limit from room answer before between after one is within =
    reads_then _ before between after one (record { gained = record { name = name; from = from; room = room; answer = answer } ∷ []; joined = is; each = (record { name = refl; within = within }, tt) })

-- ---- captures

-- of the one file that a command plays
pub played_reads : (files : Files) (name : List ℕ) (before after : List ReadCall) → GainsReads (IsReadOf (record { name = name; limit = capture_limit })) before after
    → GainsReads (IsPlayedRead files (name ∷ [])) before after
played_reads files name before after one =
    reads_as _ _ before after (λ read is. record { had = []; name = name; later = []; split = refl; captures = []; played = record { read = []; are = tt }; is = is }) one

pub ruleset played_steps = (played_reads, reads_none)

-- of one command more
pub played_on : (files past here : Files) (names : List (List ℕ)) (commands : List Command) (i : ℕ) (command : Command) (captures : List (List (List ℕ))) (before between after : List ReadCall)
    → Within past files → Within here files → i < length commands → command ≡ slice_index_or commands i command → IsPlayedTo past names (played (drop i commands)) captures
    → GainsReads (IsPlayedRead past names) before between → GainsReads (IsPlayedRead here (played_by command)) between after → GainsReads (IsPlayedRead files names) before after
played_on files past here names commands i command captures before between after earlier later within is so_far one other =
    reads_then _ before between after (reads_as _ _ before between ahead one) (reads_as _ _ between after behind other)
  where
    rest : List (List ℕ)
    rest = played (drop (i + 1) commands)

    front : played (drop i commands) ≡ played_by command ++ rest
    front = played_at commands i command within ∙ ap (λ (c : Command). played_by c ++ rest) (sym is)

    ahead : (read : ReadCall) → IsPlayedRead past names read → IsPlayedRead files names read
    ahead read had = record {
      had = had.had;
      name = had.name;
      later = had.later;
      split = had.split;
      captures = had.captures;
      played = played_within past files had.had had.captures earlier had.played;
      is = had.is;
    }

    behind : (read : ReadCall) → IsPlayedRead here (played_by command) read → IsPlayedRead files names read
    behind read there =
        let left : played (drop i commands) ≡ there.had ++ there.name ∷ (there.later ++ rest) =
        front ∙ (ap (λ (l : List (List ℕ)). l ++ rest) there.split ∙ append_assoc there.had (there.name ∷ there.later) rest) in
        record {
          had = so_far.had ++ there.had;
          name = there.name;
          later = there.later ++ rest;
          split = so_far.split ∙ (ap (λ (l : List (List ℕ)). so_far.had ++ l) left ∙ sym (append_assoc so_far.had there.had (there.name ∷ (there.later ++ rest))));
          captures = captures ++ there.captures;
          played = played_both files so_far.had there.had captures there.captures (played_within past files so_far.had captures earlier so_far.played)
              (played_within here files there.had there.captures later there.played);
          is = there.is;
        }

-- of a scenario that has the circuit
pub capture_reads : (files : Files) (asked : Asked) (scenario : Scenario) (before after : List ReadCall) → None ≡ lacks_circuit asked scenario.plan
    → GainsReads (IsPlayedRead files (played scenario.commands)) before after
    → GainsReads (IsCaptureRead files asked scenario) before after
capture_reads files asked scenario before after has one = reads_as _ _ before after (λ read is. record { circuit = sym has; played = is }) one

pub ruleset capture_steps = (capture_reads, reads_none)

-- ---- the file of a scenario, and what it plays

pub file_first : (files : Files) (asked : Asked) (file : List ℕ) (before after : List ReadCall) → ReadsScenario asked file
    → GainsReads (IsReadOf (record { name = file; limit = scenario_limit })) before after
    → GainsReads (IsReadOfNext (Has files) asked) before after
file_first files asked file before after reads one =
    reads_as _ _ before after (λ read is. record { wanted = record { name = file; limit = scenario_limit }; come = record { read = []; are_read = tt; is_next = reads.first }; is = is }) one

pub file_then : (asked : Asked) (file : List ℕ) (scenario : Scenario) (before between after : List ReadCall) → ReadsScenario asked file
    → IsOfFile (gained before between) file scenario
    → GainsReads (IsReadOf (record { name = file; limit = scenario_limit })) before between → GainsReads (IsCaptureRead (gained between after) asked scenario) between after
    → GainsReads (IsReadOfNext (Has (gained before after)) asked) before after
file_then asked file scenario before between after reads of one other =
    reads_then _ before between after (file_first (gained before after) asked file before between reads one) (reads_as _ _ between after behind other)
  where
    files : Files
    files = gained before after

    behind : (read : ReadCall) → IsCaptureRead (gained between after) asked scenario read → IsReadOfNext (Has files) asked read
    behind read there =
        let has : Has files file of.octets = has_within (gained before between) files file of.octets (within_first _ _ before between after one other) of.has in
        let is : IsScenarioFile files asked file of.octets scenario = record { reads = reads; has = has; fits = of.fits; document_is = of.document_is; circuit = there.circuit } in
        let capture = there.played in
        let had : HasPlayed files capture.had capture.captures =
        played_within (gained between after) files capture.had capture.captures (within_second _ _ before between after one other) capture.played in
        record {
          wanted = record { name = capture.name; limit = capture_limit };
          come = comes_to files asked file of.octets scenario capture.captures capture.had (capture.name ∷ capture.later) (capture_file capture.name) is capture.split had refl;
          is = capture.is;
        }

pub ruleset file_reads = (file_first, file_then)

-- ---- the file of a stream

pub stream_reads : (files : Files) (file : List ℕ) (before after : List ReadCall) → GainsReads (IsReadOf (record { name = file; limit = stream_limit })) before after
    → GainsReads (IsReadOfNext (Has files) (Decode file)) before after
stream_reads files file before after one =
    reads_as _ _ before after (λ read is. record { wanted = record { name = file; limit = stream_limit }; come = record { read = []; are_read = tt; is_next = refl }; is = is }) one

-- ---- the file of a scenario that is migrated

pub migrate_reads : (files : Files) (file : List ℕ) (before after : List ReadCall) → GainsReads (IsReadOf (record { name = file; limit = scenario_limit })) before after
    → GainsReads (IsReadOfNext (Has files) (Migrate file)) before after
migrate_reads files file before after one =
    reads_as _ _ before after (λ read is. record { wanted = record { name = file; limit = scenario_limit }; come = record { read = []; are_read = tt; is_next = refl }; is = is }) one

-- ---- what the words ask for

pub asked_reads : (files : Files) (asked : Asked) (words : Option Asked) (before after : List ReadCall) → Some asked ≡ words → GainsReads (IsReadOfNext (Has files) asked) before after
    → GainsReads (MayRead files words) before after
asked_reads files asked words before after is one = subst (λ (o : Option Asked). GainsReads (MayRead files o) before after) is one

pub ruleset run_reads = (asked_reads, reads_none)
