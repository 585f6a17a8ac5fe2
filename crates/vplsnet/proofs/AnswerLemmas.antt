-- What a call answers by what its stages say, and that in a sound surrounding the answer is what the files call for.
use Rattle.std.proofs.Common.{true, false, ◌≡◌, ◌↔◌, ◌⊎◌, ◌<◌, ◌≤◌, ◌++◌, ◌∙◌, ℕ, Bool, List, [], ◌∷◌, Option, Some, None, Result, Ok, Err, IfSome, length, inl, inr, refl, ap, sym, subst, arith, append_assoc}
use Rattle.std.proofs.lemmas.List.{append-nil}
use Rattle.net_base.specs.declared.plan.Plan.{Plan}
use Rattle.discovery_net.specs.Script.{events_made}
use Rattle.discovery_script.specs.declared.script_line.ScriptLine.{ScriptLine}
use Rattle.command_text.specs.declared.scenario_fault.ScenarioFault.{ScenarioFault}
use Rattle.pcap_file.specs.declared.capture_fault.CaptureFault.{CaptureFault}
use Rattle.pcap_file.proofs.ReadingLemmas.{one_reading}
use Rattle.psn_net.specs.declared.net_stop.NetStop.{NetStop}
use Rattle.psn_net.specs.Lists.{NetLists}
use Rattle.psn_net.specs.Runs.{Ended}
use Rattle.ldp_stream.specs.Parsed.{Ending, Pending, Refused}
use Rattle.ldp_stream.proofs.ParsedLemmas.{one_parsing}
use Rattle.scenario_text.specs.declared.scenario.Scenario.{Scenario}
use Rattle.scenario_text.specs.Document.{document}
use Rattle.text_lines.specs.Written.{Written, lines_written}
use Rattle.trace_audit.specs.Yes.{IsYes}
use Rattle.trace_audit.proofs.YesLemmas.{good_yes}
use Rattle.vplsnet.specs.declared.audit_rule.AuditRule.{AuditRule}
use Rattle.vplsnet.specs.declared.audit_rule.AuditRule.TheVariants as rule
use Rattle.vplsnet.specs.declared.outcome.Outcome.{Outcome}
use Rattle.vplsnet.specs.declared.outcome.Outcome.TheVariants.{Done, Usage, ReadFault, WriteFault, TooLong, ScenarioRefused, NoCircuit, CaptureRefused, ScriptRefused, AuditRefused, Stopped, DecodeRefused, Unfinished, NoMemory}
use Rattle.vplsnet.specs.Answers.{CallsFor, Completes, Finishes, IsCutShort, IsEndOf, IsJudged, IsMade, IsRefused, IsSoundFile, IsSoundOutcome, IsTooLong, IsWholeTaken, MakesAnswer, MakesRun, PassesIfReport, SaysOutcome, run_text}
use Rattle.vplsnet.specs.Around.{Files, Around, HasWriteFault, IsUntouched, Has, OfFiles, TellsFile}
use Rattle.vplsnet.specs.Asked.{Asked, Replay, Tables, Capture, Decode, Rehearse, Migrate, Discover, Switchover, Audit}
use Rattle.vplsnet.specs.Audit.{stop_of}
use Rattle.vplsnet.specs.Capture.{lacks_circuit}
use Rattle.vplsnet.specs.Decode.{IsDecoding, IsDecodedAs}
use Rattle.vplsnet.specs.Discover.{IsDiscoverRun}
use Rattle.vplsnet.specs.Files.{IsLonger, IsNotHad}
use Rattle.vplsnet.specs.Inputs.{AreReadNext, ComesTo, IsNextInput, IsNextAfter, IsNextBehind, IsNextDiscovery, IsNextExchange, IsNextReport, IsNextOf, IsNextPlayed, IsNextRead, IsReadNext, Discovery, Exchange, Report, Migration, Next, Reads, Refuses, Run, Stream, Wanted, CommandWork, Works, played, report_file, scenario_limit, script_file, stream_limit}
use Rattle.vplsnet.specs.ScenarioFile.{HasNoScenario, IsOfFile}
use Rattle.vplsnet.specs.RunOver.{outcome_by, run_of}
use Rattle.vplsnet.specs.ScenarioRun.{IsScenarioRun, whole_run}
use Rattle.vplsnet.specs.StreamText.{largest_pdu, outcome_of_ending}
use Rattle.vplsnet.specs.Writing.{EndsMigration, EndsRun, EndsStream, EndsText, GivesUp, WritesNone}
use Rattle.vplsnet.proofs.AgreeLemmas.{longer_as}
use Rattle.vplsnet.proofs.ReportLemmas.{passes_by}
use Rattle.vplsnet.proofs.ScenarioFileLemmas.{refused_first}

-- ---- what the stages say is an answer

-- where memory was refused and nothing was taken
says_want : (around : Around) (asked : Asked) (network : Option NetLists) → IsUntouched around network → SaysOutcome around asked network NoMemory
says_want around (Replay file) network untouched = untouched
says_want around (Tables file) network untouched = untouched
says_want around (Capture file circuit) network untouched = untouched
says_want around (Rehearse seed) network untouched = untouched
says_want around (Migrate file) network untouched = untouched
says_want around (Discover file script) network untouched = untouched
says_want around (Switchover file script) network untouched = untouched
says_want around (Audit file report) network untouched = untouched
says_want around (Decode file) network untouched = inl untouched

-- what is refused before any run
pub refused_answers : (around : Around) (asked : Asked) (network : Option NetLists) (outcome : Outcome) → IsRefused around.files around.shelf_before around.shelf_after asked outcome
    → IsUntouched around network
    → SaysOutcome around asked network outcome
refused_answers around asked network ReadFault refused untouched = (refused, untouched)
refused_answers around asked network (TooLong named limit) refused untouched = (refused, untouched)
refused_answers around asked network (ScenarioRefused fault) refused untouched = (refused, untouched)
refused_answers around asked network (NoCircuit circuit) refused untouched = (refused, untouched)
refused_answers around asked network (CaptureRefused file fault) refused untouched = (refused, untouched)
refused_answers around asked network (ScriptRefused line word) refused untouched = (refused, untouched)
refused_answers around asked network (AuditRefused line which) refused untouched = (refused, untouched)
refused_answers around asked network NoMemory refused untouched = says_want around asked network untouched
refused_answers around asked network Done refused untouched = absurd refused
refused_answers around asked network Usage refused untouched = absurd refused
refused_answers around asked network WriteFault refused untouched = absurd refused
refused_answers around asked network (Stopped stop) refused untouched = absurd refused
refused_answers around asked network (DecodeRefused fault) refused untouched = absurd refused
refused_answers around asked network (Unfinished at) refused untouched = absurd refused

-- an outcome that a command makes of its work
abbrev pub is_own : Outcome → Bool
is_own Usage = false
is_own ReadFault = false
is_own WriteFault = false
is_own (TooLong named limit) = false
is_own (ScenarioRefused fault) = false
is_own (NoCircuit circuit) = false
is_own (CaptureRefused file fault) = false
is_own (ScriptRefused line word) = false
is_own (AuditRefused line which) = false
is_own NoMemory = false
is_own outcome = true

pub run_own : (reason : Option NetStop) → is_own (outcome_by reason) ≡ true
run_own None = refl
run_own (Some reason) = refl

stream_own : (ending : Ending) → is_own (outcome_of_ending ending) ≡ true
stream_own (Pending at []) = refl
stream_own (Pending at (octet ∷ rest)) = refl
stream_own (Refused base fault) = refl

-- what was made and taken whole is an answer
whole_answers : (around : Around) (asked : Asked) (network : Option NetLists) (outcome : Outcome) → is_own outcome ≡ true → IsWholeTaken around asked network outcome
    → SaysOutcome around asked network outcome
whole_answers around asked network Done own whole = whole
whole_answers around asked network (Stopped stop) own whole = whole
whole_answers around asked network (DecodeRefused fault) own whole = whole
whole_answers around asked network (Unfinished at) own whole = whole
whole_answers around asked network Usage own whole = absurd (cc own)
whole_answers around asked network ReadFault own whole = absurd (cc own)
whole_answers around asked network WriteFault own whole = absurd (cc own)
whole_answers around asked network (TooLong named limit) own whole = absurd (cc own)
whole_answers around asked network (ScenarioRefused fault) own whole = absurd (cc own)
whole_answers around asked network (NoCircuit circuit) own whole = absurd (cc own)
whole_answers around asked network (CaptureRefused file fault) own whole = absurd (cc own)
whole_answers around asked network (ScriptRefused line word) own whole = absurd (cc own)
whole_answers around asked network (AuditRefused line which) own whole = absurd (cc own)
whole_answers around asked network NoMemory own whole = absurd (cc own)

-- what the sink took by a call, and how its count of faults stands
abbrev pub old_of : Around → Written
old_of around = lines_written around.taken_before around.sink_before []

abbrev pub now_of : Around → Written
now_of around = lines_written around.taken_after around.sink_after []

pub none_answers : (around : Around) (asked : Asked) (network : Option NetLists) (outcome : Outcome) → WritesNone (old_of around) (now_of around) network outcome
    → SaysOutcome around asked network outcome
none_answers around asked network outcome none =
    subst (λ (o : Outcome). SaysOutcome around asked network o) (sym none.outcome_is) (says_want around asked network (record { taken = none.taken; no_run = none.no_run }))

-- how the writing of a text ended that the command makes
pub text_answers : (around : Around) (asked : Asked) (text : List ℕ) (left : Option NetLists) (made : Outcome) (network : Option NetLists) (outcome : Outcome) → is_own made ≡ true
    → IsMade around asked text left made
    → EndsText text left made (old_of around) (now_of around) network outcome → SaysOutcome around asked network outcome
text_answers around asked text left made network outcome own is (inl whole) =
    subst (λ (o : Outcome). SaysOutcome around asked network o) (sym whole.outcome_is)
    (subst (λ (n : Option NetLists). SaysOutcome around asked n made) (sym whole.network_is) (whole_answers around asked left made own (record { text = text; made = is; taken = whole.taken })))
text_answers around asked text left made network outcome own is (inr (inl front)) =
    subst (λ (o : Outcome). SaysOutcome around asked network o) (sym front.outcome_is)
    (subst (λ (n : Option NetLists). IsCutShort around asked n) (sym front.network_is) (record { text = text; outcome = made; made = is; taken = front.taken; cause = front.cause }))
text_answers around asked text left made network outcome own is (inr (inr none)) = none_answers around asked network outcome none

-- a run is made of its scenario
run_made : (asked : Asked) (scenario : Scenario) (captures : List (List (List ℕ))) (left : NetLists) (reason : Option NetStop) → IsScenarioRun scenario captures left reason
    → PassesIfReport asked scenario.plan (run_text asked left reason)
    → MakesRun asked scenario captures (run_text asked left reason) (Some left) (outcome_by reason)
run_made asked scenario captures left None run passes = record { left = left; network_is = refl; is_run = run; text_is = refl; passes = passes }
run_made asked scenario captures left (Some reason) run passes = record { left = left; network_is = refl; is_run = run; text_is = refl; passes = passes }

pub run_answers : (around : Around) (asked : Asked) (scenario : Scenario) (captures : List (List (List ℕ))) (network : Option NetLists) (outcome : Outcome)
    → ComesTo (Has around.files) asked (Works (Run scenario captures))
    → EndsRun scenario captures asked (lines_written around.taken_before around.sink_before []) (lines_written around.taken_after around.sink_after []) network outcome → SaysOutcome around asked network outcome
run_answers around asked scenario captures network outcome come (inl run) =
    text_answers around asked (run_text asked run.left run.reason) (Some run.left) (outcome_by run.reason) network outcome (run_own run.reason)
    (record {
      work = Run scenario captures;
      come = come;
      makes = run_made asked scenario captures run.left run.reason run.is_run (passes_by around.files asked scenario captures run.left run.reason come run.is_run run.typed);
    }) run.ends
run_answers around asked scenario captures network outcome come (inr none) = none_answers around asked network outcome none

-- a stream's file was not had
pub stream_not_had : (around : Around) (file : List ℕ) (network : Option NetLists) (outcome : Outcome)
    → IsNotHad around.files around.shelf_before around.shelf_after file stream_limit outcome → IsUntouched around network
    → SaysOutcome around (Decode file) network outcome
stream_not_had around file network outcome why untouched = refused_answers around (Decode file) network outcome (by outcome why) untouched where
  first : ComesTo (Has around.files) (Decode file) (Reads (record { name = file; limit = stream_limit }))
  first = record { read = []; are_read = tt; is_next = refl }

  by : (o : Outcome) → IsNotHad around.files around.shelf_before around.shelf_after file stream_limit o → IsRefused around.files around.shelf_before around.shelf_after (Decode file) o
  by ReadFault why = record { wanted = record { name = file; limit = stream_limit }; come = first; cause = why }
  by (TooLong named limit) why = record {
    come = subst (λ (w : Wanted). ComesTo (Has around.files) (Decode file) (Reads w))
        (sym (ap (λ (n : List ℕ). record { name = n; limit = limit }) why.0 ∙ ap (λ (l : ℕ). record { name = file; limit = l }) why.1)) first;
    longer = longer_as around.files named file limit stream_limit why.0 why.1 why.2;
  }
  by NoMemory why = tt
  by Done why = absurd why
  by Usage why = absurd why
  by WriteFault why = absurd why
  by (ScenarioRefused fault) why = absurd why
  by (NoCircuit circuit) why = absurd why
  by (CaptureRefused name fault) why = absurd why
  by (ScriptRefused line word) why = absurd why
  by (AuditRefused line which) why = absurd why
  by (Stopped stop) why = absurd why
  by (DecodeRefused fault) why = absurd why
  by (Unfinished at) why = absurd why

-- how the writing of a stream's text ended
told_answers : (around : Around) (file text : List ℕ) (made : Outcome) (network : Option NetLists) (outcome : Outcome) → is_own made ≡ true → IsMade around (Decode file) text None made
    → EndsText text None made (old_of around) (now_of around) network outcome ⊎ GivesUp text (old_of around) (now_of around) network outcome → SaysOutcome around (Decode file) network outcome
told_answers around file text made network outcome own is (inl ends) = text_answers around (Decode file) text None made network outcome own is ends
told_answers around file text made network outcome own is (inr gives) =
    subst (λ (o : Outcome). SaysOutcome around (Decode file) network o) (sym gives.outcome_is)
    (subst (λ (n : Option NetLists). SaysOutcome around (Decode file) n NoMemory) (sym gives.no_run)
    (inr (record { text = text; outcome = made; made = is; taken = gives.taken })))

stream_answers : (around : Around) (file octets : List ℕ) (network : Option NetLists) (outcome : Outcome) → Has around.files file octets → length octets ≤ stream_limit
    → EndsStream octets (lines_written around.taken_before around.sink_before []) (lines_written around.taken_after around.sink_after []) network outcome → SaysOutcome around (Decode file) network outcome
stream_answers around file octets network outcome has fits (inl told) =
    told_answers around file told.text told.made network outcome (ap is_own told.is_decoding.ends ∙ stream_own told.is_decoding.ending)
    (record {
      work = Stream octets;
      come = record { read = octets ∷ []; are_read = (record { wanted = record { name = file; limit = stream_limit }; next = refl; holds = has; fits = fits }, tt); is_next = refl };
      makes = told.is_decoding;
    }) told.ends
stream_answers around file octets network outcome has fits (inr none) = none_answers around (Decode file) network outcome none

-- the same of octets that were lent
pub stream_ended : (around : Around) (file octets lent : List ℕ) (network : Option NetLists) (made outcome : Outcome) → lent ≡ octets → network ≡ None → outcome ≡ made
    → Has around.files file octets → length octets ≤ stream_limit
    → EndsStream lent (lines_written around.taken_before around.sink_before []) (lines_written around.taken_after around.sink_after []) None made → SaysOutcome around (Decode file) network outcome
stream_ended around file octets lent network made outcome same none is has fits ends =
    subst (λ (n : Option NetLists). SaysOutcome around (Decode file) n outcome) (sym none)
    (subst (λ (o : Outcome). SaysOutcome around (Decode file) None o) (sym is)
    (stream_answers around file octets None made has fits (subst (λ (l : List ℕ). EndsStream l (old_of around) (now_of around) None made) same ends)))

-- what comes next behind the file of a scenario that is migrated
migrated_next : (octets : List ℕ) (result : Result Scenario ScenarioFault) (next : Next) → document octets ≡ result → IsNextAfter (λ scenario it. it ≡ Works (Migration scenario)) result next
    → IsNextAfter (λ scenario it. it ≡ Works (Migration scenario)) (document octets) next
migrated_next octets result next is comes = subst (λ (r : Result Scenario ScenarioFault). IsNextAfter (λ scenario it. it ≡ Works (Migration scenario)) r next) (sym is) comes

-- the scenario of the file was migrated
migration_answers : (around : Around) (file : List ℕ) (scenario : Scenario) (network : Option NetLists) (outcome : Outcome) → IsOfFile around.files file scenario
    → EndsMigration scenario (old_of around) (now_of around) network outcome → SaysOutcome around (Migrate file) network outcome
migration_answers around file scenario network outcome of (inl told) =
    text_answers around (Migrate file) told.text None Done network outcome refl
    (record {
      work = Migration scenario;
      come = record {
        read = of.octets ∷ [];
        are_read = (record { wanted = record { name = file; limit = scenario_limit }; next = refl; holds = of.has; fits = of.fits }, tt);
        is_next = migrated_next of.octets (Ok scenario) (Works (Migration scenario)) of.document_is refl;
      };
      makes = record { migrated = told.is_migrated; ends = refl; no_run = refl };
    }) told.ends
migration_answers around file scenario network outcome of (inr none) = none_answers around (Migrate file) network outcome none

pub migration_ended : (around : Around) (file : List ℕ) (scenario : Scenario) (network : Option NetLists) (made outcome : Outcome) → network ≡ None → outcome ≡ made
    → IsOfFile around.files file scenario
    → EndsMigration scenario (lines_written around.taken_before around.sink_before []) (lines_written around.taken_after around.sink_after []) None made → SaysOutcome around (Migrate file) network outcome
migration_ended around file scenario network made outcome none is of ends =
    subst (λ (n : Option NetLists). SaysOutcome around (Migrate file) n outcome) (sym none)
    (subst (λ (o : Outcome). SaysOutcome around (Migrate file) None o) (sym is) (migration_answers around file scenario None made of ends))

-- it was not had
pub no_migration : (around : Around) (file : List ℕ) (network : Option NetLists) (outcome : Outcome) → HasNoScenario around.files around.shelf_before around.shelf_after file outcome
    → IsUntouched around network
    → SaysOutcome around (Migrate file) network outcome
no_migration around file network outcome why untouched =
    refused_answers around (Migrate file) network outcome
    (refused_first around.files around.shelf_before around.shelf_after (Migrate file) file outcome refl
    (λ octets fault is. migrated_next octets (Err fault) (Refuses (ScenarioRefused fault)) is refl) why) untouched

-- ---- one thing comes next

one_played : (scenario : Scenario) (captures : List (List (List ℕ))) (files read : List (List ℕ)) (next other : Next) → IsNextPlayed scenario captures files read next
    → IsNextPlayed scenario captures files read other → next ≡ other
one_played scenario captures [] read next other a b = a ∙ sym b
one_played scenario captures (file ∷ files) [] next other a b = a ∙ sym b
one_played scenario captures (file ∷ files) (octets ∷ read) next other (inl (frames, is, a)) (inl (others, are, b)) =
    let same : others ≡ frames = one_reading.one_list octets others frames are is in
    one_played scenario (captures ++ frames ∷ []) files read next other a (subst (λ (fs : List (List ℕ)). IsNextPlayed scenario (captures ++ fs ∷ []) files read other) same b)
one_played scenario captures (file ∷ files) (octets ∷ read) next other (inl (frames, is, a)) (inr (fault, first, b)) = absurd (one_reading.never_both octets frames fault is first)
one_played scenario captures (file ∷ files) (octets ∷ read) next other (inr (fault, first, a)) (inl (frames, is, b)) = absurd (one_reading.never_both octets frames fault is first)
one_played scenario captures (file ∷ files) (octets ∷ read) next other (inr (fault, first, a)) (inr (more, also, b)) =
    let same : fault ≡ more = one_reading.one_fault octets fault more first also in
    a ∙ (ap (λ (f : CaptureFault). Refuses (CaptureRefused file f)) same ∙ sym b)

one_of : (circuit : Option (List ℕ)) (scenario : Scenario) (read : List (List ℕ)) (next other : Next) → IsNextOf circuit scenario read next → IsNextOf circuit scenario read other → next ≡ other
one_of (Some name) scenario read next other a b = a ∙ sym b
one_of None scenario read next other a b = one_played scenario [] (played scenario.commands) read next other a b

one_read : (asked : Asked) (result : Result Scenario ScenarioFault) (read : List (List ℕ)) (next other : Next) → IsNextRead asked result read next → IsNextRead asked result read other → next ≡ other
one_read asked (Err fault) read next other a b = a ∙ sym b
one_read asked (Ok scenario) read next other a b = one_of (lacks_circuit asked scenario.plan) scenario read next other a b

one_after : (IsNextOfIt : Scenario → Next → Type 0) → ((scenario : Scenario) (next other : Next) → IsNextOfIt scenario next → IsNextOfIt scenario other → next ≡ other)
    → (result : Result Scenario ScenarioFault) (next other : Next) → IsNextAfter IsNextOfIt result next → IsNextAfter IsNextOfIt result other → next ≡ other
one_after IsNextOfIt one (Err fault) next other a b = a ∙ sym b
one_after IsNextOfIt one (Ok scenario) next other a b = one scenario next other a b

one_behind : (file : Next) (IsNextOfIt : List ℕ → Next → Type 0) → ((octets : List ℕ) (next other : Next) → IsNextOfIt octets next → IsNextOfIt octets other → next ≡ other)
    → (read : List (List ℕ)) (next other : Next) → IsNextBehind file IsNextOfIt read next → IsNextBehind file IsNextOfIt read other → next ≡ other
one_behind file IsNextOfIt one [] next other a b = a ∙ sym b
one_behind file IsNextOfIt one (octets ∷ read) next other a b = one octets next other a b

pub one_next : (asked : Asked) (read : List (List ℕ)) (next other : Next) → IsNextInput asked read next → IsNextInput asked read other → next ≡ other
one_next (Replay file) [] next other a b = a ∙ sym b
one_next (Replay file) (octets ∷ read) next other a b = one_read (Replay file) (document octets) read next other a b
one_next (Tables file) [] next other a b = a ∙ sym b
one_next (Tables file) (octets ∷ read) next other a b = one_read (Tables file) (document octets) read next other a b
one_next (Capture file circuit) [] next other a b = a ∙ sym b
one_next (Capture file circuit) (octets ∷ read) next other a b = one_read (Capture file circuit) (document octets) read next other a b
one_next (Decode file) [] next other a b = a ∙ sym b
one_next (Decode file) (octets ∷ read) next other a b = a ∙ sym b
one_next (Rehearse seed) read next other a b = a ∙ sym b
one_next (Migrate file) [] next other a b = a ∙ sym b
one_next (Migrate file) (octets ∷ read) next other a b = one_after (λ scenario it. it ≡ Works (Migration scenario)) (λ scenario one two is also. is ∙ sym also) (document octets) next other a b
one_next (Discover file script) [] next other a b = a ∙ sym b
one_next (Discover file script) (octets ∷ read) next other a b =
    one_after (λ scenario it. IsNextBehind (script_file script) (IsNextDiscovery scenario) read it)
    (λ scenario. one_behind (script_file script) (IsNextDiscovery scenario) (λ text one two is also. is ∙ sym also) read) (document octets) next other a b
one_next (Switchover file script) [] next other a b = a ∙ sym b
one_next (Switchover file script) (octets ∷ read) next other a b =
    one_after (λ scenario it. IsNextBehind (script_file script) (IsNextExchange scenario) read it)
    (λ scenario. one_behind (script_file script) (IsNextExchange scenario) (λ text one two is also. is ∙ sym also) read) (document octets) next other a b
one_next (Audit file report) [] next other a b = a ∙ sym b
one_next (Audit file report) (octets ∷ read) next other a b =
    one_after (λ scenario it. IsNextBehind (report_file report) (IsNextReport scenario) read it)
    (λ scenario. one_behind (report_file report) (IsNextReport scenario) (λ text one two is also. is ∙ sym also) read) (document octets) next other a b

-- ---- the files that are read are one list

-- a told file has one content
same_octets : (files : Files) (name octets other : List ℕ) → TellsFile files name octets → Has files name other → octets ≡ other
same_octets files name octets other tells has =
    let both : Some octets ≡ Some other = sym tells.has ∙ has tells.held tells.agrees in
    cc (both)

longer_octets : (files : Files) (name octets : List ℕ) (limit : ℕ) → TellsFile files name octets → OfFiles files (λ held. IsLonger limit (held name)) → limit < length octets
longer_octets files name octets limit tells all =
    let longer = all tells.held tells.agrees in
    let both : Some octets ≡ Some longer.bytes = sym tells.has ∙ longer.held in
    let same : octets ≡ longer.bytes = cc (both) in
    omega (arith, ap length same, longer.longer)

-- one more file is read
record ReadsOn (Holds : List ℕ → List ℕ → Type 0) (next : Next) : Type 0 where
  wanted : Wanted
  is : next ≡ Reads wanted
  octets : List ℕ
  holds : Holds wanted.name octets
  fits : length octets ≤ wanted.limit

reads_on : (Holds : List ℕ → List ℕ → Type 0) (asked : Asked) (before : List (List ℕ)) (octets : List ℕ) (next : Next) → IsReadNext Holds asked before octets → IsNextInput asked before next
    → ReadsOn Holds next
reads_on Holds asked before octets next reads is = record {
  wanted = reads.wanted;
  is = one_next asked before next (Reads reads.wanted) is reads.next;
  octets = octets;
  holds = reads.holds;
  fits = reads.fits;
}

-- of two readings behind the same files, of which one tells them, the same comes next, or one of them reads on
followed : (around : Around) (asked : Asked) (before read others : List (List ℕ)) (next other : Next) → AreReadNext (Has around.files) asked before read → IsNextInput asked (before ++ read) next
    → AreReadNext (IsSoundFile around) asked before others → IsNextInput asked (before ++ others) other → (next ≡ other) ⊎ ReadsOn (IsSoundFile around) next ⊎ ReadsOn (Has around.files) other
followed around asked before [] [] next other are is told calls =
    inl (one_next asked before next other (subst (λ (l : List (List ℕ)). IsNextInput asked l next) (append-nil before) is) (subst (λ (l : List (List ℕ)). IsNextInput asked l other) (append-nil before) calls))
followed around asked before [] (octets ∷ others) next other are is told calls =
    inr (inl (reads_on (IsSoundFile around) asked before octets next told.0 (subst (λ (l : List (List ℕ)). IsNextInput asked l next) (append-nil before) is)))
followed around asked before (octets ∷ read) [] next other are is told calls =
    inr (inr (reads_on (Has around.files) asked before octets other are.0 (subst (λ (l : List (List ℕ)). IsNextInput asked l other) (append-nil before) calls)))
followed around asked before (octets ∷ read) (same ∷ others) next other are is told calls =
    let wanted : Reads told.0.wanted ≡ Reads are.0.wanted = one_next asked before (Reads told.0.wanted) (Reads are.0.wanted) told.0.next are.0.next in
    let file : told.0.wanted ≡ are.0.wanted = cc (wanted) in
    let tells : TellsFile around.files are.0.wanted.name same = subst (λ (w : Wanted). TellsFile around.files w.name same) file told.0.holds.tells in
    let equal : same ≡ octets = same_octets around.files are.0.wanted.name same octets tells are.0.holds in
    followed around asked (before ++ octets ∷ []) read others next other are.1
    (subst (λ (l : List (List ℕ)). IsNextInput asked l next) (sym (append_assoc before (octets ∷ []) read)) is)
    (subst (λ (o : List ℕ). AreReadNext (IsSoundFile around) asked (before ++ o ∷ []) others) equal told.1)
    (subst (λ (l : List (List ℕ)). IsNextInput asked l other) (sym (append_assoc before (octets ∷ []) others)) (subst (λ (o : List ℕ). IsNextInput asked (before ++ o ∷ others) other) equal calls))

-- the reading of an answer, beside that of a sound surrounding
met : (around : Around) (asked : Asked) (next : Next) (called : Outcome) → ComesTo (Has around.files) asked next → (sound : IsSoundOutcome around asked called) → (next ≡ sound.next)
    ⊎ ReadsOn (IsSoundFile around) next ⊎ ReadsOn (Has around.files) sound.next
met around asked next called come sound = followed around asked [] come.read sound.come.read next sound.next come.are_read come.is_next sound.come.are_read sound.come.is_next

-- what calls for an outcome does not read on
called_ends : (around : Around) (next : Next) (called : Outcome) → CallsFor around next called → ReadsOn (Has around.files) next → ⊥
called_ends around (Reads wanted) called calls on =
    let both : Reads wanted ≡ Reads on.wanted = on.is in
    let file : wanted ≡ on.wanted = cc (both) in
    let tells : TellsFile around.files on.wanted.name calls.octets = subst (λ (w : Wanted). TellsFile around.files w.name calls.octets) file calls.sound.tells in
    let same : calls.octets ≡ on.octets = same_octets around.files on.wanted.name calls.octets on.octets tells on.holds in
    let limit : wanted.limit ≡ on.wanted.limit = ap (λ (w : Wanted). w.limit) file in
    omega (arith, ap length same, limit, calls.longer, on.fits)
called_ends around (Refuses refused) called calls on = absurd (cc (on.is))
called_ends around (Works work) called calls on = absurd (cc (on.is))

calls_same : (around : Around) (next other : Next) (called : Outcome) → next ≡ other → CallsFor around other called → CallsFor around next called
calls_same around next other called same calls = subst (λ (n : Next). CallsFor around n called) (sym same) calls

-- ---- the outcome is what is called for

-- a refusal that comes next
refused_called : (around : Around) (asked : Asked) (refused called : Outcome) → ComesTo (Has around.files) asked (Refuses refused) → IsSoundOutcome around asked called → refused ≡ called
refused_called around asked refused called come sound = elim (met around asked (Refuses refused) called come sound) [
  | inl same ↦ sym (calls_same around (Refuses refused) sound.next called same sound.calls)
  | inr more ↦ elim more [
    | inl on ↦ absurd (cc (on.is))
    | inr on ↦ absurd (called_ends around sound.next called sound.calls on)
  ]
]

unread_never : (around : Around) (asked : Asked) (called : Outcome) → IsRefused around.files around.shelf_before around.shelf_after asked ReadFault → IsSoundOutcome around asked called → ⊥
unread_never around asked called unread sound = elim (met around asked (Reads unread.wanted) called unread.come sound) [
  | inl same ↦ (calls_same around (Reads unread.wanted) sound.next called same sound.calls).sound.read unread.cause
  | inr more ↦ elim more [
    | inl on ↦ (let both : Reads unread.wanted ≡ Reads on.wanted = on.is in
        let file : unread.wanted ≡ on.wanted = cc (both) in
        (subst (λ (w : Wanted). IsSoundFile around w.name on.octets) (sym file) on.holds).read unread.cause)
    | inr on ↦ called_ends around sound.next called sound.calls on
  ]
]

long_called : (around : Around) (asked : Asked) (named : List ℕ) (limit : ℕ) (called : Outcome) → IsTooLong around.files asked named limit → IsSoundOutcome around asked called
    → TooLong named limit ≡ called
long_called around asked named limit called long sound = elim (met around asked (Reads (record { name = named; limit = limit })) called long.come sound) [
  | inl same ↦ sym (calls_same around (Reads (record { name = named; limit = limit })) sound.next called same sound.calls).is
  | inr more ↦ elim more [
    | inl on ↦ absurd (fits_never on)
    | inr on ↦ absurd (called_ends around sound.next called sound.calls on)
  ]
]
  where
    fits_never : ReadsOn (IsSoundFile around) (Reads (record { name = named; limit = limit })) → ⊥
    fits_never on =
        let both : Reads (record { name = named; limit = limit }) ≡ Reads on.wanted = on.is in
        let file : record { name = named; limit = limit } ≡ on.wanted = cc (both) in
        let tells : TellsFile around.files named on.octets = subst (λ (w : Wanted). TellsFile around.files w.name on.octets) (sym file) on.holds.tells in
        let is_limit : limit ≡ on.wanted.limit = ap (λ (w : Wanted). w.limit) file in
        let beyond : limit < length on.octets = longer_octets around.files named on.octets limit tells long.longer in
        omega (arith, is_limit, beyond, on.fits)

-- a run has one outcome
run_end : (asked : Asked) (scenario : Scenario) (captures : List (List (List ℕ))) (text : List ℕ) (network : Option NetLists) (outcome called : Outcome)
    → MakesRun asked scenario captures text network outcome
    → called ≡ outcome_by (whole_run scenario captures).stop → outcome ≡ called
run_end asked scenario captures text network Done called makes is = sym (is ∙ sym (ap (λ (r : Ended). outcome_by r.stop) makes.is_run.is_run.ends))
run_end asked scenario captures text network (Stopped stop) called makes is = sym (is ∙ sym (ap (λ (r : Ended). outcome_by r.stop) makes.is_run.is_run.ends))
run_end asked scenario captures text network Usage called makes is = absurd makes
run_end asked scenario captures text network ReadFault called makes is = absurd makes
run_end asked scenario captures text network WriteFault called makes is = absurd makes
run_end asked scenario captures text network (TooLong named limit) called makes is = absurd makes
run_end asked scenario captures text network (ScenarioRefused fault) called makes is = absurd makes
run_end asked scenario captures text network (NoCircuit circuit) called makes is = absurd makes
run_end asked scenario captures text network (CaptureRefused file fault) called makes is = absurd makes
run_end asked scenario captures text network (ScriptRefused line word) called makes is = absurd makes
run_end asked scenario captures text network (AuditRefused line which) called makes is = absurd makes
run_end asked scenario captures text network (DecodeRefused fault) called makes is = absurd makes
run_end asked scenario captures text network (Unfinished at) called makes is = absurd makes
run_end asked scenario captures text network NoMemory called makes is = absurd makes

decode_end : (octets text : List ℕ) (network : Option NetLists) (outcome called : Outcome) → IsDecoding octets text network outcome → IsDecodedAs octets called → outcome ≡ called
decode_end octets text network outcome called makes end =
    let same = (one_parsing.one 0 largest_pdu octets makes.text_is.pdus end.pdus makes.ending end.ending (omega arith) makes.text_is.parsed end.parsed).ending_is in
    makes.ends ∙ (ap outcome_of_ending same ∙ sym end.ends)

discovery_end : (plan : Plan) (lines : List ScriptLine) (text : List ℕ) (network : Option NetLists) (outcome called : Outcome) → IsDiscoverRun plan lines text network outcome
    → called ≡ outcome_by (run_of plan (events_made plan lines)).stop → outcome ≡ called
discovery_end plan lines text network Done called makes is = sym (is ∙ sym (ap (λ (r : Ended). outcome_by r.stop) makes.is_run.is_run.ends))
discovery_end plan lines text network (Stopped stop) called makes is = sym (is ∙ sym (ap (λ (r : Ended). outcome_by r.stop) makes.is_run.is_run.ends))
discovery_end plan lines text network Usage called makes is = absurd makes
discovery_end plan lines text network ReadFault called makes is = absurd makes
discovery_end plan lines text network WriteFault called makes is = absurd makes
discovery_end plan lines text network (TooLong named limit) called makes is = absurd makes
discovery_end plan lines text network (ScenarioRefused fault) called makes is = absurd makes
discovery_end plan lines text network (NoCircuit circuit) called makes is = absurd makes
discovery_end plan lines text network (CaptureRefused file fault) called makes is = absurd makes
discovery_end plan lines text network (ScriptRefused line word) called makes is = absurd makes
discovery_end plan lines text network (AuditRefused line which) called makes is = absurd makes
discovery_end plan lines text network (DecodeRefused fault) called makes is = absurd makes
discovery_end plan lines text network (Unfinished at) called makes is = absurd makes
discovery_end plan lines text network NoMemory called makes is = absurd makes

makes_end : (asked : Asked) (work : CommandWork) (text : List ℕ) (network : Option NetLists) (outcome called : Outcome) → MakesAnswer asked work text network outcome → IsEndOf work called → outcome ≡ called
makes_end asked (Run scenario captures) text network outcome called makes end = run_end asked scenario captures text network outcome called makes end
makes_end asked (Stream octets) text network outcome called makes end = decode_end octets text network outcome called makes end
makes_end asked (Migration scenario) text network outcome called makes end = makes.ends ∙ sym end
makes_end asked (Discovery plan lines) text network outcome called makes end = discovery_end plan lines text network outcome called makes end
makes_end asked (Exchange plan lines) text network outcome called makes end = makes.ends ∙ sym end
makes_end asked (Report plan octets) text network outcome called makes end = makes.ends ∙ sym end.0

-- what was made is what is called for, and no call of the sink failed
made_called : (around : Around) (asked : Asked) (text : List ℕ) (network : Option NetLists) (outcome called : Outcome) → IsMade around asked text network outcome → IsSoundOutcome around asked called
    → (outcome ≡ called) × (¬ HasWriteFault around)
made_called around asked text network outcome called made sound = elim (met around asked (Works made.work) called made.come sound) [
  | inl same ↦ (let calls = calls_same around (Works made.work) sound.next called same sound.calls in
      (makes_end asked made.work text network outcome called made.makes calls.0, calls.1))
  | inr more ↦ elim more [
    | inl on ↦ absurd (cc (on.is))
    | inr on ↦ absurd (called_ends around sound.next called sound.calls on)
  ]
]

-- a rule that fails is no yes
rule_never : (which : AuditRule) (line : ℕ) → IsYes (Err (stop_of which line)) → ⊥
rule_never rule.Form line says = says
rule_never rule.Isolated line says = says
rule_never rule.Split line says = says
rule_never rule.Once line says = says

-- a report that breaks a rule calls for nothing
judged_never : (around : Around) (asked : Asked) (line : ℕ) (which : AuditRule) (called : Outcome) → IsJudged around.files asked line which → IsSoundOutcome around asked called → ⊥
judged_never around asked line which called judged sound = elim (met around asked (Works (Report judged.plan judged.octets)) called judged.come sound) [
  | inl same ↦ (let calls = calls_same around (Works (Report judged.plan judged.octets)) sound.next called same sound.calls in
      rule_never which line (good_yes judged.plan judged.octets (Err (stop_of which line)) calls.0.1 judged.judged))
  | inr more ↦ elim more [
    | inl on ↦ absurd (cc (on.is))
    | inr on ↦ absurd (called_ends around sound.next called sound.calls on)
  ]
]

whole_called : (around : Around) (asked : Asked) (network : Option NetLists) (outcome called : Outcome) → IsWholeTaken around asked network outcome → IsSoundOutcome around asked called → outcome ≡ called
whole_called around asked network outcome called whole sound = (made_called around asked whole.text network outcome called whole.made sound).0

completes : (around : Around) (asked : Asked) (network : Option NetLists) (outcome : Outcome) → SaysOutcome around asked network outcome → Completes around asked outcome
completes around asked network Done answers called sound = inl (whole_called around asked network Done called answers sound)
completes around asked network Usage answers called sound = absurd answers
completes around asked network ReadFault answers called sound = absurd (unread_never around asked called answers.0 sound)
completes around asked network WriteFault answers called sound = absurd ((made_called around asked answers.text network answers.outcome called answers.made sound).1 answers.cause)
completes around asked network (TooLong named limit) answers called sound = inl (long_called around asked named limit called answers.0 sound)
completes around asked network (ScenarioRefused fault) answers called sound = inl (refused_called around asked (ScenarioRefused fault) called answers.0.0 sound)
completes around asked network (NoCircuit circuit) answers called sound = inl (refused_called around asked (NoCircuit circuit) called answers.0 sound)
completes around asked network (CaptureRefused file fault) answers called sound = inl (refused_called around asked (CaptureRefused file fault) called answers.0.0 sound)
completes around asked network (ScriptRefused line word) answers called sound = inl (refused_called around asked (ScriptRefused line word) called answers.0 sound)
completes around asked network (AuditRefused line which) answers called sound = absurd (judged_never around asked line which called answers.0 sound)
completes around asked network (Stopped stop) answers called sound = inl (whole_called around asked network (Stopped stop) called answers sound)
completes around asked network (DecodeRefused fault) answers called sound = inl (whole_called around asked network (DecodeRefused fault) called answers sound)
completes around asked network (Unfinished at) answers called sound = inl (whole_called around asked network (Unfinished at) called answers sound)
completes around asked network NoMemory answers called sound = inr refl

-- ---- what is said of what was asked for is said of the words that ask for it

pub usage_by : (around : Around) (asked : Asked) (words : Option Asked) (network : Option NetLists) (outcome : Outcome) → Some asked ≡ words → SaysOutcome around asked network outcome
    → (outcome ≡ Usage) ↔ (words ≡ None)
usage_by around asked words network outcome is says = (
  λ usage. absurd (subst (λ (o : Outcome). SaysOutcome around asked network o) usage says),
  λ none. absurd (cc (is, none)),
)

pub finishes_by : (around : Around) (asked : Asked) (words : Option Asked) (network : Option NetLists) (outcome : Outcome) → Some asked ≡ words
    → SaysOutcome around asked network outcome → Finishes around words network outcome
finishes_by around asked words network outcome is says = subst (λ (o : Option Asked). Finishes around o network outcome) is says

pub completes_by : (around : Around) (asked : Asked) (words : Option Asked) (network : Option NetLists) (outcome : Outcome) → Some asked ≡ words → SaysOutcome around asked network outcome
    → IfSome words (λ asked. Completes around asked outcome)
completes_by around asked words network outcome is says = subst (λ (o : Option Asked). IfSome o (λ it. Completes around it outcome)) is (completes around asked network outcome says)

pub ruleset word_steps = (usage_by, finishes_by, completes_by)
