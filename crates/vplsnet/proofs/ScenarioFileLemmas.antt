-- What a scenario's file comes to.
use Rattle.std.proofs.Common.{◌≡◌, ◌≤◌, ◌++◌, ◌∷◌, ◌∙◌, [], ℕ, List, Some, None, Ok, Err, Option, Result, refl, ap, sym, subst, length, append_assoc, inl, inr}
use Rattle.std.proofs.lemmas.List.{append-nil}
use Rattle.std.proofs.lemmas.List.Elements.{All-nil}
use Rattle.std.specs.List.{All}
use Rattle.net_base.specs.outside.Outside.{NeverFall, ReadCall}
use Rattle.net_base.specs.plan.Planned.{IsFrame}
use Rattle.text_lines.proofs.WrittenLemmas.{rose_later}
use Rattle.command_text.specs.declared.scenario_fault.ScenarioFault.{ScenarioFault}
use Rattle.command_text.specs.declared.scenario_fault.ScenarioFault.TheVariants as scenario_fault
use Rattle.command_text.specs.Reading.{Fails}
use Rattle.pcap_file.specs.declared.capture_fault.CaptureFault.{CaptureFault}
use Rattle.migration.specs.Law.{WasRead}
use Rattle.rehearsal.specs.Scenario.{rehearsal}
use Rattle.scenario_text.specs.declared.scenario.Scenario.{Scenario}
use Rattle.scenario_text.specs.Document.{document}
use Rattle.vplsnet.specs.declared.outcome.Outcome.{Outcome}
use Rattle.vplsnet.specs.declared.outcome.Outcome.TheVariants.{Done, Usage, ReadFault, WriteFault, TooLong, ScenarioRefused, NoCircuit, CaptureRefused, ScriptRefused, AuditRefused, Stopped, DecodeRefused, Unfinished, NoMemory}
use Rattle.vplsnet.specs.Answers.{IsRefused}
use Rattle.vplsnet.specs.Around.{Files, Has, gained}
use Rattle.vplsnet.specs.Asked.{Asked, Replay, Tables, Capture, Rehearse}
use Rattle.vplsnet.specs.Capture.{lacks_circuit}
use Rattle.vplsnet.specs.Captures.{AreCaptures, FailsToPlay, HasPlayed, IsCaptureFile}
use Rattle.vplsnet.specs.Files.{IsNotHad}
use Rattle.vplsnet.specs.Inputs.{AreReadNext, ComesTo, IsNextInput, IsNextOf, IsNextPlayed, IsNextRead, Next, Reads, Refuses, Run, Wanted, Works, capture_file, capture_limit, played, scenario_file, scenario_limit}
use Rattle.vplsnet.specs.Reads.{GainsReads, IsCaptureRead, IsReadOf}
use Rattle.vplsnet.specs.ScenarioFile.{HasAll, HasNoScenario, IsNoCircuit, IsNoScenario, IsOfFile, LacksCapture, LacksSome, ReadsScenario, outcome_of_fault}
use Rattle.vplsnet.proofs.AgreeLemmas.{Within, has_within, longer_as, within_first, within_second}
use Rattle.vplsnet.proofs.CaptureLemmas.{fails_within, played_within}

-- ---- behind the captures that were read

-- what comes next behind more captures comes next behind all of them
next_played : (files : Files) (scenario : Scenario) (before captures : List (List (List ℕ))) (names rest read more : List (List ℕ)) (next : Next) → AreCaptures files names read captures
    → IsNextPlayed scenario (before ++ captures) rest more next → IsNextPlayed scenario before (names ++ rest) (read ++ more) next
next_played files scenario before [] [] rest [] more next are is = subst (λ (l : List (List (List ℕ))). IsNextPlayed scenario l rest more next) (append-nil before) is
next_played files scenario before (frames ∷ captures) [] rest [] more next are is = absurd are
next_played files scenario before captures [] rest (octets ∷ read) more next are is = absurd are
next_played files scenario before captures (name ∷ names) rest [] more next are is = absurd are
next_played files scenario before [] (name ∷ names) rest (octets ∷ read) more next are is = absurd are
next_played files scenario before (frames ∷ captures) (name ∷ names) rest (octets ∷ read) more next are is =
    inl (
      frames,
      are.0.is,
      next_played files scenario (before ++ frames ∷ []) captures names rest read more next are.1
          (subst (λ (l : List (List (List ℕ))). IsNextPlayed scenario l rest more next) (sym (append_assoc before (frames ∷ []) captures)) is),
    )

-- the octets of a scenario's file, which has the circuit that is named, if one is
pub record IsScenarioFile (files : Files) (asked : Asked) (file octets : List ℕ) (scenario : Scenario) : Type 0 where
  pub reads : ReadsScenario asked file
  pub has : Has files file octets
  pub fits : length octets ≤ scenario_limit
  pub document_is : document octets ≡ Ok scenario
  pub circuit : lacks_circuit asked scenario.plan ≡ None

next_of : (files : Files) (asked : Asked) (file octets : List ℕ) (scenario : Scenario) (read : List (List ℕ)) (next : Next) → IsScenarioFile files asked file octets scenario
    → IsNextPlayed scenario [] (played scenario.commands) read next → IsNextInput asked (octets ∷ read) next
next_of files asked file octets scenario read next is comes =
    let circuit : IsNextOf (lacks_circuit asked scenario.plan) scenario read next = subst (λ (o : Option (List ℕ)). IsNextOf o scenario read next) (sym is.circuit) comes in
    is.reads.behind octets read next (subst (λ (r : Result Scenario ScenarioFault). IsNextRead asked r read next) (sym is.document_is) circuit)

-- the captures were read next, one after another
captures_read : (files : Files) (asked : Asked) (file octets : List ℕ) (scenario : Scenario) (captures later : List (List (List ℕ))) (had names rest read more : List (List ℕ))
    → IsScenarioFile files asked file octets scenario
    → played scenario.commands ≡ had ++ (names ++ rest) → AreCaptures files had read captures → AreCaptures files names more later → AreReadNext (Has files) asked (octets ∷ read) more
captures_read files asked file octets scenario captures later had [] rest read [] is split are_had are = tt
captures_read files asked file octets scenario captures [] had [] rest read (o ∷ more) is split are_had are = absurd are
captures_read files asked file octets scenario captures (frames ∷ later) had [] rest read (o ∷ more) is split are_had are = absurd are
captures_read files asked file octets scenario captures later had (name ∷ names) rest read [] is split are_had are = absurd are
captures_read files asked file octets scenario captures [] had (name ∷ names) rest read (o ∷ more) is split are_had are = absurd are
captures_read files asked file octets scenario captures (frames ∷ later) had (name ∷ names) rest read (o ∷ more) is split are_had are =
    let here : IsNextPlayed scenario [] (had ++ name ∷ (names ++ rest)) (read ++ []) (capture_file name) =
    next_played files scenario [] captures had (name ∷ (names ++ rest)) read [] (capture_file name) are_had refl in
    let all : IsNextPlayed scenario [] (played scenario.commands) read (capture_file name) =
    subst (λ (l : List (List ℕ)). IsNextPlayed scenario [] l read (capture_file name)) (sym split)
    (subst (λ (l : List (List ℕ)). IsNextPlayed scenario [] (had ++ name ∷ (names ++ rest)) l (capture_file name)) (append-nil read) here) in (
      record {
        wanted = record { name = name; limit = capture_limit };
        next = next_of files asked file octets scenario read (capture_file name) is all;
        holds = are.0.has;
        fits = are.0.fits;
      },
      captures_read files asked file octets scenario (captures ++ frames ∷ []) later (had ++ name ∷ []) names rest (read ++ o ∷ []) more is
          (split ∙ sym (append_assoc had (name ∷ []) (names ++ rest)))
          (snoc files had read captures name o frames are_had are.0) are.1,
    )
  where
    snoc : (files : Files) (names read : List (List ℕ)) (captures : List (List (List ℕ))) (name octets : List ℕ) (frames : List (List ℕ)) → AreCaptures files names read captures
        → IsCaptureFile files name octets frames
        → AreCaptures files (names ++ name ∷ []) (read ++ octets ∷ []) (captures ++ frames ∷ [])
    snoc files [] [] [] name octets frames are one = (one, tt)
    snoc files [] [] (f ∷ captures) name octets frames are one = absurd are
    snoc files [] (o ∷ read) captures name octets frames are one = absurd are
    snoc files (n ∷ names) [] captures name octets frames are one = absurd are
    snoc files (n ∷ names) (o ∷ read) [] name octets frames are one = absurd are
    snoc files (n ∷ names) (o ∷ read) (f ∷ captures) name octets frames are one = (are.0, snoc files names read captures name octets frames are.1 one)

-- the first captures were read, and what comes next behind them comes next behind the whole reading
comes_behind : (files : Files) (asked : Asked) (file octets : List ℕ) (scenario : Scenario) (captures : List (List (List ℕ))) (names rest : List (List ℕ)) (next : Next)
    → IsScenarioFile files asked file octets scenario
    → played scenario.commands ≡ names ++ rest → (read more : List (List ℕ)) → AreCaptures files names read captures → AreReadNext (Has files) asked (octets ∷ read) more
    → IsNextPlayed scenario captures rest more next → ComesTo (Has files) asked next
comes_behind files asked file octets scenario captures names rest next is split read more are are_more comes = record {
  read = octets ∷ (read ++ more);
  are_read = (
    record { wanted = record { name = file; limit = scenario_limit }; next = is.reads.first; holds = is.has; fits = is.fits },
    read_both asked (octets ∷ []) read more (captures_read files asked file octets scenario [] captures [] names rest [] read is split tt are) are_more,
  );
  is_next = next_of files asked file octets scenario (read ++ more) next is
      (subst (λ (l : List (List ℕ)). IsNextPlayed scenario [] l (read ++ more) next) (sym split) (next_played files scenario [] captures names rest read more next are comes));
}
  where
    read_both : (asked : Asked) (before read more : List (List ℕ)) → AreReadNext (Has files) asked before read → AreReadNext (Has files) asked (before ++ read) more
        → AreReadNext (Has files) asked before (read ++ more)
    read_both asked before [] more one two = subst (λ (l : List (List ℕ)). AreReadNext (Has files) asked l more) (append-nil before) two
    read_both asked before (o ∷ read) more one two =
        (one.0, read_both asked (before ++ o ∷ []) read more one.1 (subst (λ (l : List (List ℕ)). AreReadNext (Has files) asked l more) (sym (append_assoc before (o ∷ []) read)) two))

pub comes_to : (files : Files) (asked : Asked) (file octets : List ℕ) (scenario : Scenario) (captures : List (List (List ℕ))) (names rest : List (List ℕ)) (next : Next)
    → IsScenarioFile files asked file octets scenario
    → played scenario.commands ≡ names ++ rest → HasPlayed files names captures → IsNextPlayed scenario captures rest [] next → ComesTo (Has files) asked next
comes_to files asked file octets scenario captures names rest next is split played comes =
    comes_behind files asked file octets scenario captures names rest next is split played.read [] played.are tt comes

-- ---- the file of a scenario

-- all was read
pub comes_to_run : (asked : Asked) (file : List ℕ) (scenario work : Scenario) (captures : List (List (List ℕ))) (before between after : List ReadCall) → ReadsScenario asked file
    → IsOfFile (gained before between) file scenario → HasAll (gained between after) asked scenario captures
    → GainsReads (IsReadOf (record { name = file; limit = scenario_limit })) before between → GainsReads (IsCaptureRead (gained between after) asked scenario) between after
    → work ≡ scenario → ComesTo (Has (gained before after)) asked (Works (Run work captures))
comes_to_run asked file scenario work captures before between after reads of all one other same =
    let files = gained before after in
    let has : Has files file of.octets = has_within (gained before between) files file of.octets (within_first _ _ before between after one other) of.has in
    let is : IsScenarioFile files asked file of.octets scenario = record { reads = reads; has = has; fits = of.fits; document_is = of.document_is; circuit = all.circuit } in
    let had : HasPlayed files (played scenario.commands) captures =
    played_within (gained between after) files (played scenario.commands) captures (within_second _ _ before between after one other) all.played in
    subst (λ (s : Scenario). ComesTo (Has files) asked (Works (Run s captures))) (sym same)
    (comes_to files asked file of.octets scenario captures (played scenario.commands) [] (Works (Run scenario captures)) is (sym (append-nil (played scenario.commands))) had refl)

-- behind the file alone
comes_first : (files : Files) (asked : Asked) (file octets : List ℕ) (read : Result Scenario ScenarioFault) (next : Next) → ReadsScenario asked file → Has files file octets
    → length octets ≤ scenario_limit → document octets ≡ read
    → IsNextRead asked read [] next → ComesTo (Has files) asked next
comes_first files asked file octets read next reads has fits document_is comes = record {
  read = octets ∷ [];
  are_read = (record { wanted = record { name = file; limit = scenario_limit }; next = reads.first; holds = has; fits = fits }, tt);
  is_next = reads.behind octets [] next (subst (λ (r : Result Scenario ScenarioFault). IsNextRead asked r [] next) (sym document_is) comes);
}

-- the outcome of a fault that is told as it is
pub no_scenario_by : (octets : List ℕ) (fault : ScenarioFault) (outcome : Outcome) → Fails fault (document octets) → outcome ≡ outcome_of_fault fault → IsNoScenario octets outcome
no_scenario_by octets fault outcome fails is = subst (λ (o : Outcome). IsNoScenario octets o) (sym is) (by fault fails) where
  by : (f : ScenarioFault) → Fails f (document octets) → IsNoScenario octets (outcome_of_fault f)
  by scenario_fault.NoMemory fails = tt
  by scenario_fault.NotToml fails = (fails, λ want. cc (want))
  by (scenario_fault.Missing place) fails = (fails, λ want. cc (want))
  by (scenario_fault.WrongKind place) fails = (fails, λ want. cc (want))
  by (scenario_fault.UnknownKey place) fails = (fails, λ want. cc (want))
  by (scenario_fault.BadWord event word) fails = (fails, λ want. cc (want))
  by (scenario_fault.TooMany table limit) fails = (fails, λ want. cc (want))
  by scenario_fault.Version fails = (fails, λ want. cc (want))
  by (scenario_fault.Plan fault) fails = (fails, λ want. cc (want))

-- the scenario of the file that is read first was not had
pub refused_first : (files : Files) (before after : List ℕ → ℕ) (asked : Asked) (file : List ℕ) (outcome : Outcome) → IsNextInput asked [] (scenario_file file)
    → ((octets : List ℕ) (fault : ScenarioFault) → document octets ≡ Err fault → IsNextInput asked (octets ∷ []) (Refuses (ScenarioRefused fault)))
    → HasNoScenario files before after file outcome → IsRefused files before after asked outcome
refused_first files before after asked file ReadFault first refuses why =
    record { wanted = record { name = file; limit = scenario_limit }; come = record { read = []; are_read = tt; is_next = first }; cause = why }
refused_first files before after asked file (TooLong named limit) first refuses why =
    record {
      come = subst (λ (w : Wanted). ComesTo (Has files) asked (Reads w)) (sym (ap (λ (n : List ℕ). record { name = n; limit = limit }) why.0 ∙ ap (λ (l : ℕ). record { name = file; limit = l }) why.1))
          (record { read = []; are_read = tt; is_next = first });
      longer = longer_as files named file limit scenario_limit why.0 why.1 why.2;
    }
refused_first files before after asked file (ScenarioRefused fault) first refuses why = (
  record {
    read = why.0.octets ∷ [];
    are_read = (record { wanted = record { name = file; limit = scenario_limit }; next = first; holds = why.0.has; fits = why.0.fits }, tt);
    is_next = refuses why.0.octets fault why.0.document_is;
  },
  why.1,
)
refused_first files before after asked file NoMemory first refuses why = tt
refused_first files before after asked file Done first refuses why = absurd why
refused_first files before after asked file Usage first refuses why = absurd why
refused_first files before after asked file WriteFault first refuses why = absurd why
refused_first files before after asked file (NoCircuit circuit) first refuses why = absurd why
refused_first files before after asked file (CaptureRefused name fault) first refuses why = absurd why
refused_first files before after asked file (ScriptRefused line word) first refuses why = absurd why
refused_first files before after asked file (AuditRefused line rule) first refuses why = absurd why
refused_first files before after asked file (Stopped stop) first refuses why = absurd why
refused_first files before after asked file (DecodeRefused fault) first refuses why = absurd why
refused_first files before after asked file (Unfinished at) first refuses why = absurd why

pub not_had : (files : Files) (before after : List ℕ → ℕ) (asked : Asked) (file : List ℕ) (outcome : Outcome) → ReadsScenario asked file → HasNoScenario files before after file outcome
    → IsRefused files before after asked outcome
not_had files before after asked file outcome reads why =
    refused_first files before after asked file outcome reads.first
    (λ octets fault is. reads.behind octets [] (Refuses (ScenarioRefused fault))
    (subst (λ (r : Result Scenario ScenarioFault). IsNextRead asked r [] (Refuses (ScenarioRefused fault))) (sym is) refl)) why

-- a capture was not had
capture_wanted : (files : Files) (before after : List ℕ → ℕ) (asked : Asked) (file octets : List ℕ) (scenario : Scenario) (outcome : Outcome) → IsScenarioFile files asked file octets scenario
    → (fails : FailsToPlay files before after (played scenario.commands) outcome) → ComesTo (Has files) asked (capture_file fails.name)
capture_wanted files before after asked file octets scenario outcome is fails =
    comes_to files asked file octets scenario fails.captures fails.had (fails.name ∷ fails.later) (capture_file fails.name) is fails.split fails.played refl

capture_refused : (files : Files) (asked : Asked) (file octets name : List ℕ) (scenario : Scenario) (before after : List ℕ → ℕ) (named : List ℕ) (fault : CaptureFault)
    → IsScenarioFile files asked file octets scenario
    → (fails : FailsToPlay files before after (played scenario.commands) (CaptureRefused named fault)) → ComesTo (Has files) asked (Refuses (CaptureRefused fails.name fault))
capture_refused files asked file octets name scenario before after named fault is fails =
    let (is_name, broken, some) = fails.why in
    comes_behind files asked file octets scenario fails.captures fails.had (fails.name ∷ fails.later) (Refuses (CaptureRefused fails.name fault)) is fails.split fails.played.read
    (broken.octets ∷ []) fails.played.are (
      record {
        wanted = record { name = fails.name; limit = capture_limit };
        next = next_of files asked file octets scenario fails.played.read (capture_file fails.name) is
            (subst (λ (l : List (List ℕ)). IsNextPlayed scenario [] l fails.played.read (capture_file fails.name)) (sym fails.split)
            (subst (λ (l : List (List ℕ)). IsNextPlayed scenario [] (fails.had ++ fails.name ∷ fails.later) l (capture_file fails.name)) (append-nil fails.played.read)
            (next_played files scenario [] fails.captures fails.had (fails.name ∷ fails.later) fails.played.read [] (capture_file fails.name) fails.played.are refl)));
        holds = broken.has;
        fits = broken.fits;
      },
      tt,
    )
    (inr (fault, broken.first, refl))

-- the scenario lacks the circuit, or a capture was not had
pub lacks_some : (start middle last : List ReadCall) (before between after : List ℕ → ℕ) (asked : Asked) (file : List ℕ) (scenario : Scenario) (outcome : Outcome)
    → GainsReads (IsReadOf (record { name = file; limit = scenario_limit })) start middle → GainsReads (IsCaptureRead (gained middle last) asked scenario) middle last
    → NeverFall before between → ReadsScenario asked file
    → IsOfFile (gained start middle) file scenario → LacksSome (gained middle last) between after asked scenario outcome → IsRefused (gained start last) before after asked outcome
lacks_some start middle last before between after asked file scenario outcome one other later reads of lacks = by outcome (some_within outcome lacks) where
  files : Files
  files = gained start last

  here : Files
  here = gained middle last

  within : Within here files
  within = within_second _ _ start middle last one other

  has : Has files file of.octets
  has = has_within (gained start middle) files file of.octets (within_first _ _ start middle last one other) of.has

  file_is : lacks_circuit asked scenario.plan ≡ None → IsScenarioFile files asked file of.octets scenario
  file_is circuit = record { reads = reads; has = has; fits = of.fits; document_is = of.document_is; circuit = circuit }

  capture_within : (o : Outcome) → LacksCapture here between after asked scenario o → LacksCapture files between after asked scenario o
  capture_within o lacks = record { circuit = lacks.circuit; fails = fails_within files here between after (played scenario.commands) o within lacks.fails }

  some_within : (o : Outcome) → LacksSome here between after asked scenario o → LacksSome files between after asked scenario o
  some_within ReadFault lacks = capture_within ReadFault lacks
  some_within (TooLong named limit) lacks = capture_within (TooLong named limit) lacks
  some_within (CaptureRefused named fault) lacks = capture_within (CaptureRefused named fault) lacks
  some_within (NoCircuit circuit) lacks = lacks
  some_within NoMemory lacks = tt
  some_within Done lacks = absurd lacks
  some_within Usage lacks = absurd lacks
  some_within WriteFault lacks = absurd lacks
  some_within (ScenarioRefused fault) lacks = absurd lacks
  some_within (ScriptRefused line word) lacks = absurd lacks
  some_within (AuditRefused line rule) lacks = absurd lacks
  some_within (Stopped stop) lacks = absurd lacks
  some_within (DecodeRefused fault) lacks = absurd lacks
  some_within (Unfinished at) lacks = absurd lacks

  by : (o : Outcome) → LacksSome files between after asked scenario o → IsRefused files before after asked o
  by ReadFault lacks = record {
    wanted = record { name = lacks.fails.name; limit = capture_limit };
    come = capture_wanted files between after asked file of.octets scenario ReadFault (file_is lacks.circuit) lacks.fails;
    cause = rose_later (before lacks.fails.name) (between lacks.fails.name) (after lacks.fails.name) (later lacks.fails.name) lacks.fails.why;
  }
  by (TooLong named limit) lacks =
      let (is_name, is_limit, longer) = lacks.fails.why in
      record {
        come = subst (λ (w : Wanted). ComesTo (Has files) asked (Reads w))
            (sym (ap (λ (n : List ℕ). record { name = n; limit = limit }) is_name ∙ ap (λ (l : ℕ). record { name = lacks.fails.name; limit = l }) is_limit))
            (capture_wanted files between after asked file of.octets scenario (TooLong named limit) (file_is lacks.circuit) lacks.fails);
        longer = longer_as files named lacks.fails.name limit capture_limit is_name is_limit longer;
      }
  by (CaptureRefused named fault) lacks =
      let (is_name, broken, some) = lacks.fails.why in (
        subst (λ (n : List ℕ). ComesTo (Has files) asked (Refuses (CaptureRefused n fault))) (sym is_name)
            (capture_refused files asked file of.octets named scenario between after named fault (file_is lacks.circuit) lacks.fails),
        some,
      )
  by (NoCircuit circuit) lacks =
      comes_first files asked file of.octets (Ok scenario) (Refuses (NoCircuit circuit)) reads has of.fits of.document_is
      (subst (λ (o : Option (List ℕ)). IsNextOf o scenario [] (Refuses (NoCircuit circuit))) (sym lacks) refl)
  by NoMemory lacks = tt
  by Done lacks = absurd lacks
  by Usage lacks = absurd lacks
  by WriteFault lacks = absurd lacks
  by (ScenarioRefused fault) lacks = absurd lacks
  by (ScriptRefused line word) lacks = absurd lacks
  by (AuditRefused line rule) lacks = absurd lacks
  by (Stopped stop) lacks = absurd lacks
  by (DecodeRefused fault) lacks = absurd lacks
  by (Unfinished at) lacks = absurd lacks

-- the circuit that is named is not there
pub lacks_named : (files : Files) (before after : List ℕ → ℕ) (asked : Asked) (scenario : Scenario) (circuit : List ℕ) (outcome : Outcome) → Some circuit
    ≡ lacks_circuit asked scenario.plan → IsNoCircuit circuit outcome
    → LacksSome files before after asked scenario outcome
lacks_named files before after asked scenario circuit (NoCircuit named) lacks told = sym lacks ∙ ap Some (sym told)
lacks_named files before after asked scenario circuit NoMemory lacks told = tt
lacks_named files before after asked scenario circuit Done lacks told = absurd told
lacks_named files before after asked scenario circuit Usage lacks told = absurd told
lacks_named files before after asked scenario circuit ReadFault lacks told = absurd told
lacks_named files before after asked scenario circuit WriteFault lacks told = absurd told
lacks_named files before after asked scenario circuit (TooLong named limit) lacks told = absurd told
lacks_named files before after asked scenario circuit (ScenarioRefused fault) lacks told = absurd told
lacks_named files before after asked scenario circuit (CaptureRefused file fault) lacks told = absurd told
lacks_named files before after asked scenario circuit (ScriptRefused line word) lacks told = absurd told
lacks_named files before after asked scenario circuit (AuditRefused line rule) lacks told = absurd told
lacks_named files before after asked scenario circuit (Stopped stop) lacks told = absurd told
lacks_named files before after asked scenario circuit (DecodeRefused fault) lacks told = absurd told
lacks_named files before after asked scenario circuit (Unfinished at) lacks told = absurd told

-- a file that is played was not had
pub lacks_file : (files : Files) (before after : List ℕ → ℕ) (asked : Asked) (scenario : Scenario) (outcome : Outcome) → None ≡ lacks_circuit asked scenario.plan
    → FailsToPlay files before after (played scenario.commands) outcome
    → LacksSome files before after asked scenario outcome
lacks_file files before after asked scenario ReadFault has fails = record { circuit = sym has; fails = fails }
lacks_file files before after asked scenario (TooLong named limit) has fails = record { circuit = sym has; fails = fails }
lacks_file files before after asked scenario (CaptureRefused file fault) has fails = record { circuit = sym has; fails = fails }
lacks_file files before after asked scenario NoMemory has fails = tt
lacks_file files before after asked scenario Done has fails = absurd fails.why
lacks_file files before after asked scenario Usage has fails = absurd fails.why
lacks_file files before after asked scenario WriteFault has fails = absurd fails.why
lacks_file files before after asked scenario (ScenarioRefused fault) has fails = absurd fails.why
lacks_file files before after asked scenario (NoCircuit circuit) has fails = absurd fails.why
lacks_file files before after asked scenario (ScriptRefused line word) has fails = absurd fails.why
lacks_file files before after asked scenario (AuditRefused line rule) has fails = absurd fails.why
lacks_file files before after asked scenario (Stopped stop) has fails = absurd fails.why
lacks_file files before after asked scenario (DecodeRefused fault) has fails = absurd fails.why
lacks_file files before after asked scenario (Unfinished at) has fails = absurd fails.why

pub has_all : (files : Files) (asked : Asked) (scenario : Scenario) (captures : List (List (List ℕ))) → None ≡ lacks_circuit asked scenario.plan
    → HasPlayed files (played scenario.commands) captures → HasAll files asked scenario captures
has_all files asked scenario captures has played = record { circuit = sym has; played = played }

pub ruleset lack_steps = (lacks_named, lacks_file, has_all)

pub ruleset file_steps = (comes_to_run, not_had, lacks_some)

-- ---- a scenario without what it plays

pub of_file : (files : Files) (file octets : List ℕ) (scenario : Scenario) → Has files file octets → length octets ≤ scenario_limit → document octets ≡ Ok scenario → IsOfFile files file scenario
of_file files file octets scenario has fits is = record { octets = octets; has = has; fits = fits; document_is = is }

pub was_read : (files : Files) (file : List ℕ) (scenario : Scenario) → IsOfFile files file scenario → WasRead scenario
was_read files file scenario of = record { bytes = of.octets; is = of.document_is }

pub no_file : (files : Files) (before after : List ℕ → ℕ) (file : List ℕ) (outcome : Outcome) → IsNotHad files before after file scenario_limit outcome → HasNoScenario files before after file outcome
no_file files before after file ReadFault why = why
no_file files before after file (TooLong named limit) why = why
no_file files before after file NoMemory why = tt
no_file files before after file Done why = absurd why
no_file files before after file Usage why = absurd why
no_file files before after file WriteFault why = absurd why
no_file files before after file (ScenarioRefused fault) why = absurd why
no_file files before after file (NoCircuit circuit) why = absurd why
no_file files before after file (CaptureRefused name fault) why = absurd why
no_file files before after file (ScriptRefused line word) why = absurd why
no_file files before after file (AuditRefused line rule) why = absurd why
no_file files before after file (Stopped stop) why = absurd why
no_file files before after file (DecodeRefused fault) why = absurd why
no_file files before after file (Unfinished at) why = absurd why

pub no_document : (files : Files) (before after : List ℕ → ℕ) (file octets : List ℕ) (outcome : Outcome) → Has files file octets → length octets ≤ scenario_limit
    → IsNoScenario octets outcome → HasNoScenario files before after file outcome
no_document files before after file octets (ScenarioRefused fault) has fits told = (record { octets = octets; has = has; fits = fits; document_is = told.0 }, told.1)
no_document files before after file octets NoMemory has fits told = tt
no_document files before after file octets Done has fits told = absurd told
no_document files before after file octets Usage has fits told = absurd told
no_document files before after file octets ReadFault has fits told = absurd told
no_document files before after file octets WriteFault has fits told = absurd told
no_document files before after file octets (TooLong named limit) has fits told = absurd told
no_document files before after file octets (NoCircuit circuit) has fits told = absurd told
no_document files before after file octets (CaptureRefused name fault) has fits told = absurd told
no_document files before after file octets (ScriptRefused line word) has fits told = absurd told
no_document files before after file octets (AuditRefused line rule) has fits told = absurd told
no_document files before after file octets (Stopped stop) has fits told = absurd told
no_document files before after file octets (DecodeRefused fault) has fits told = absurd told
no_document files before after file octets (Unfinished at) has fits told = absurd told

pub ruleset one_file_steps = (of_file, no_file, no_document)

-- ---- what each command works on

pub reads_replay : (file : List ℕ) → ReadsScenario (Replay file) file
reads_replay file = record { first = refl; behind = λ octets read next comes. comes }

pub reads_tables : (file : List ℕ) → ReadsScenario (Tables file) file
reads_tables file = record { first = refl; behind = λ octets read next comes. comes }

pub reads_capture : (file circuit : List ℕ) → ReadsScenario (Capture file circuit) file
reads_capture file circuit = record { first = refl; behind = λ octets read next comes. comes }

-- a seed makes a scenario, and no file is read
pub comes_to_rehearsal : (files : Files) (seed : ℕ) (scenario : Scenario) (captures : List (List (List ℕ))) → scenario ≡ rehearsal seed → captures ≡ []
    → ComesTo (Has files) (Rehearse seed) (Works (Run scenario captures))
comes_to_rehearsal files seed scenario captures is none = record {
  read = [];
  are_read = tt;
  is_next = ap (λ (s : Scenario). Works (Run s captures)) is ∙ ap (λ (c : List (List (List ℕ))). Works (Run (rehearsal seed) c)) none;
}

pub rehearsal_short : (captures : List (List (List ℕ))) → captures ≡ [] → All (All IsFrame) captures
rehearsal_short captures none = subst (λ (c : List (List (List ℕ))). All (All IsFrame) c) (sym none) (All-nil (All IsFrame))

pub rehearsal_wants : (files : Files) (before after : List ℕ → ℕ) (asked : Asked) (outcome : Outcome) → outcome ≡ NoMemory → IsRefused files before after asked outcome
rehearsal_wants files before after asked outcome want = subst (λ (o : Outcome). IsRefused files before after asked o) (sym want) tt

pub ruleset work_steps = (reads_replay, reads_tables, reads_capture, comes_to_rehearsal, rehearsal_short, rehearsal_wants)
