-- Two calls over the same files took the same text.
use Rattle.std.proofs.Common.{◌≡◌, ◌++◌, ◌∙◌, ℕ, List, [], ◌∷◌, Option, Some, None, Result, Ok, Err, codes, inl, inr, refl, sym, ap, subst, arith, append_assoc}
use Rattle.std.proofs.lemmas.List.{append-nil}
use Rattle.std.specs.Fmt.{decimal}
use Rattle.net_base.specs.declared.plan.Plan.{Plan}
use Rattle.net_base.specs.outside.Outside.{Agrees}
use Rattle.net_base.specs.declared.trace.entry.Entry.{Entry}
use Rattle.network_model.specs.State.{NetworkState}
use Rattle.discovery_net.specs.Acts.{Course}
use Rattle.discovery_script.specs.declared.script_line.ScriptLine.{ScriptLine}
use Rattle.discovery_script.specs.Lines.{discovery_lines_in}
use Rattle.discovery_text.specs.Text.{discovery_report}
use Rattle.command_text.specs.declared.scenario_fault.ScenarioFault.{ScenarioFault}
use Rattle.capture_text.specs.Capture.{capture_text}
use Rattle.ldp_stream.specs.Parsed.{PlacedPdu}
use Rattle.ldp_stream.proofs.ParsedLemmas.{one_parsing}
use Rattle.psn_net.specs.declared.net_stop.NetStop.{NetStop}
use Rattle.psn_net.specs.Lists.{NetLists, network_seen}
use Rattle.psn_net.specs.Runs.{Ended, ended}
use Rattle.report_text.specs.Report.{counts_line, report}
use Rattle.scenario_text.specs.declared.scenario.Scenario.{Scenario}
use Rattle.scenario_text.specs.Document.{document}
use Rattle.script_text.specs.declared.script_fault.ScriptFault.{ScriptFault}
use Rattle.script_text.specs.declared.script_fault.ScriptFault.TheVariants as script_fault
use Rattle.switchover_script.specs.Lines.{switch_lines_in}
use Rattle.tables_text.specs.Tables.{tables}
use Rattle.text_lines.specs.Lines.{line_of}
use Rattle.text_lines.specs.Written.{Writes}
use Rattle.vplsnet.specs.declared.outcome.Outcome.{Outcome}
use Rattle.vplsnet.specs.declared.outcome.Outcome.TheVariants.{Done, Stopped, NoMemory}
use Rattle.vplsnet.specs.Answers.{IsWholeTaken, MakesAnswer, MakesRun, TellsRun, run_text}
use Rattle.vplsnet.specs.Around.{Around, Files, Has}
use Rattle.vplsnet.specs.Asked.{Asked, Replay, Tables, Capture, Decode, Rehearse, Migrate, Discover, Switchover, Audit}
use Rattle.vplsnet.specs.Capture.{circuit_of, lacks_circuit, left_at}
use Rattle.vplsnet.specs.Discover.{IsDiscoverRun, TellsDiscovery}
use Rattle.vplsnet.specs.Inputs.{AreReadNext, ComesTo, IsNextAfter, IsNextBehind, IsNextDiscovery, IsNextExchange, IsNextInput, IsNextOf, IsNextPlayed, IsNextRead, IsNextReport, CommandWork, Discovery, Exchange, Migration, Next, Reads, Report, Run, Stream, Wanted, Works, next_script, played, report_file, script_file}
use Rattle.vplsnet.specs.OneText.{EndAlike, HasOneText, OneInputOneText, TakeOneText}
use Rattle.vplsnet.specs.Replay.{ending_by}
use Rattle.vplsnet.specs.StreamText.{largest_pdu, stream_lines}
use Rattle.vplsnet.proofs.AnswerLemmas.{one_next}

-- ---- the work of a command is one

-- in these files the name has these octets
abbrev IsHeld : (List ℕ → Option (List ℕ)) → List ℕ → List ℕ → Type 0
IsHeld held name octets = held name ≡ Some octets

one_holds : (held : List ℕ → Option (List ℕ)) (name octets other : List ℕ) → held name ≡ Some octets → held name ≡ Some other → octets ≡ other
one_holds held name octets other one two =
    let both : Some octets ≡ Some other = sym one ∙ two in
    cc (both)

works_same : (held : List ℕ → Option (List ℕ)) (asked : Asked) (before read others : List (List ℕ)) (work other : CommandWork) → AreReadNext (IsHeld held) asked before read
    → IsNextInput asked (before ++ read) (Works work) → AreReadNext (IsHeld held) asked before others → IsNextInput asked (before ++ others) (Works other) → Works work ≡ Works other
works_same held asked before [] [] work other are is also comes =
    one_next asked before (Works work) (Works other) (subst (λ (l : List (List ℕ)). IsNextInput asked l (Works work)) (append-nil before) is)
    (subst (λ (l : List (List ℕ)). IsNextInput asked l (Works other)) (append-nil before) comes)
works_same held asked before [] (octets ∷ others) work other are is also comes =
    let wrong : Works work ≡ Reads also.0.wanted =
    one_next asked before (Works work) (Reads also.0.wanted) (subst (λ (l : List (List ℕ)). IsNextInput asked l (Works work)) (append-nil before) is) also.0.next in
    absurd (cc (wrong))
works_same held asked before (octets ∷ read) [] work other are is also comes =
    let wrong : Works other ≡ Reads are.0.wanted =
    one_next asked before (Works other) (Reads are.0.wanted) (subst (λ (l : List (List ℕ)). IsNextInput asked l (Works other)) (append-nil before) comes) are.0.next in
    absurd (cc (wrong))
works_same held asked before (octets ∷ read) (same ∷ others) work other are is also comes =
    let wanted : Reads also.0.wanted ≡ Reads are.0.wanted = one_next asked before (Reads also.0.wanted) (Reads are.0.wanted) also.0.next are.0.next in
    let file : also.0.wanted ≡ are.0.wanted = cc (wanted) in
    let equal : same ≡ octets =
    one_holds held are.0.wanted.name same octets (subst (λ (w : Wanted). held w.name ≡ Some same) file also.0.holds) are.0.holds in
    works_same held asked (before ++ octets ∷ []) read others work other are.1
    (subst (λ (l : List (List ℕ)). IsNextInput asked l (Works work)) (sym (append_assoc before (octets ∷ []) read)) is)
    (subst (λ (o : List ℕ). AreReadNext (IsHeld held) asked (before ++ o ∷ []) others) equal also.1)
    (subst (λ (l : List (List ℕ)). IsNextInput asked l (Works other)) (sym (append_assoc before (octets ∷ []) others))
    (subst (λ (o : List ℕ). IsNextInput asked (before ++ o ∷ others) (Works other)) equal comes))

-- files with the same octets
all_same : (held same : List ℕ → Option (List ℕ)) (asked : Asked) (before read : List (List ℕ)) → ((name : List ℕ) → held name ≡ same name) → AreReadNext (IsHeld same) asked before read
    → AreReadNext (IsHeld held) asked before read
all_same held same asked before [] equal are = tt
all_same held same asked before (octets ∷ read) equal are = (
  record { wanted = are.0.wanted; next = are.0.next; holds = equal are.0.wanted.name ∙ are.0.holds; fits = are.0.fits },
  all_same held same asked (before ++ octets ∷ []) read equal are.1,
)

-- what was read has these octets in all files with which the answers agree
told_read : (files : Files) (held : List ℕ → Option (List ℕ)) (asked : Asked) (before read : List (List ℕ)) → Agrees held files → AreReadNext (Has files) asked before read
    → AreReadNext (IsHeld held) asked before read
told_read files held asked before [] agrees are = tt
told_read files held asked before (octets ∷ read) agrees are = (
  record { wanted = are.0.wanted; next = are.0.next; holds = are.0.holds held agrees; fits = are.0.fits },
  told_read files held asked (before ++ octets ∷ []) read agrees are.1,
)

told_come : (files : Files) (held : List ℕ → Option (List ℕ)) (asked : Asked) (next : Next) → Agrees held files → ComesTo (Has files) asked next → ComesTo (IsHeld held) asked next
told_come files held asked next agrees come = record { read = come.read; are_read = told_read files held asked [] come.read agrees come.are_read; is_next = come.is_next }

one_work : (held same : List ℕ → Option (List ℕ)) (asked : Asked) (work other : CommandWork) → ((name : List ℕ) → held name ≡ same name) → ComesTo (IsHeld held) asked (Works work)
    → ComesTo (IsHeld same) asked (Works other) → work ≡ other
one_work held same asked work other equal one two =
    let both : Works work ≡ Works other = works_same held asked [] one.read two.read work other one.are_read one.is_next (all_same held same asked [] two.read equal two.are_read) two.is_next in
    cc (both)

-- ---- no other command than `migrate` writes a scenario

never_played : (read_as scenario : Scenario) (had : List (List (List ℕ))) (files read : List (List ℕ)) → IsNextPlayed read_as had files read (Works (Migration scenario)) → ⊥
never_played read_as scenario had [] read is = absurd (cc (is))
never_played read_as scenario had (file ∷ files) [] is = absurd (cc (is))
never_played read_as scenario had (file ∷ files) (octets ∷ read) (inl (frames, is, next)) = never_played read_as scenario (had ++ frames ∷ []) files read next
never_played read_as scenario had (file ∷ files) (octets ∷ read) (inr (fault, first, next)) = absurd (cc (next))

never_of : (circuit : Option (List ℕ)) (read_as scenario : Scenario) (read : List (List ℕ)) → IsNextOf circuit read_as read (Works (Migration scenario)) → ⊥
never_of (Some circuit) read_as scenario read is = absurd (cc (is))
never_of None read_as scenario read is = never_played read_as scenario [] (played read_as.commands) read is

never_read : (asked : Asked) (result : Result Scenario ScenarioFault) (scenario : Scenario) (read : List (List ℕ)) → IsNextRead asked result read (Works (Migration scenario)) → ⊥
never_read asked (Err fault) scenario read is = absurd (cc (is))
never_read asked (Ok read_as) scenario read is = never_of (lacks_circuit asked read_as.plan) read_as scenario read is

-- a second file has lines, or a fault
never_script : {Lines : Type 0} (work : Lines → CommandWork) (result : Result Lines ScriptFault) (scenario : Scenario) → ((lines : Lines) → work lines ≡ Migration scenario → ⊥)
    → Works (Migration scenario) ≡ next_script work result → ⊥
never_script work (Err (script_fault.Bad line word)) scenario never is = absurd (cc (is))
never_script work (Err script_fault.NoMemory) scenario never is = absurd (cc (is))
never_script work (Ok lines) scenario never is =
    let wrong : work lines ≡ Migration scenario = cc (is) in
    never lines wrong

never_behind : (file : Wanted) (IsNextOfIt : List ℕ → Next → Type 0) (scenario : Scenario) → ((octets : List ℕ) → IsNextOfIt octets (Works (Migration scenario)) → ⊥) → (read : List (List ℕ))
    → IsNextBehind (Reads file) IsNextOfIt read (Works (Migration scenario)) → ⊥
never_behind file IsNextOfIt scenario never [] is = absurd (cc (is))
never_behind file IsNextOfIt scenario never (octets ∷ read) is = never octets is

never_after : (IsNextOfIt : Scenario → Next → Type 0) (result : Result Scenario ScenarioFault) (scenario : Scenario) → ((read_as : Scenario) → IsNextOfIt read_as (Works (Migration scenario)) → ⊥)
    → IsNextAfter IsNextOfIt result (Works (Migration scenario)) → ⊥
never_after IsNextOfIt (Err fault) scenario never is = absurd (cc (is))
never_after IsNextOfIt (Ok read_as) scenario never is = never read_as is

never_migrates : (asked : Asked) (scenario : Scenario) (read : List (List ℕ)) → HasOneText asked → IsNextInput asked read (Works (Migration scenario)) → ⊥
never_migrates (Replay file) scenario [] one is = absurd (cc (is))
never_migrates (Replay file) scenario (octets ∷ read) one is = never_read (Replay file) (document octets) scenario read is
never_migrates (Tables file) scenario [] one is = absurd (cc (is))
never_migrates (Tables file) scenario (octets ∷ read) one is = never_read (Tables file) (document octets) scenario read is
never_migrates (Capture file circuit) scenario [] one is = absurd (cc (is))
never_migrates (Capture file circuit) scenario (octets ∷ read) one is = never_read (Capture file circuit) (document octets) scenario read is
never_migrates (Decode file) scenario [] one is = absurd (cc (is))
never_migrates (Decode file) scenario (octets ∷ read) one is = absurd (cc (is))
never_migrates (Rehearse seed) scenario read one is = absurd (cc (is))
never_migrates (Migrate file) scenario read one is = absurd one
never_migrates (Discover file script) scenario [] one is = absurd (cc (is))
never_migrates (Discover file script) scenario (octets ∷ read) one is =
    never_after (λ read_as it. IsNextBehind (script_file script) (IsNextDiscovery read_as) read it) (document octets) scenario
    (λ read_as next. never_behind _ (IsNextDiscovery read_as) scenario
    (λ text same. never_script (Discovery read_as.plan) (discovery_lines_in read_as.plan text) scenario (λ lines wrong. absurd (cc (wrong))) same) read next) is
never_migrates (Switchover file script) scenario [] one is = absurd (cc (is))
never_migrates (Switchover file script) scenario (octets ∷ read) one is =
    never_after (λ read_as it. IsNextBehind (script_file script) (IsNextExchange read_as) read it) (document octets) scenario
    (λ read_as next. never_behind _ (IsNextExchange read_as) scenario
    (λ text same. never_script (Exchange read_as.plan) (switch_lines_in read_as.plan text) scenario (λ lines wrong. absurd (cc (wrong))) same) read next) is
never_migrates (Audit file report) scenario [] one is = absurd (cc (is))
never_migrates (Audit file report) scenario (octets ∷ read) one is =
    never_after (λ read_as it. IsNextBehind (report_file report) (IsNextReport read_as) read it) (document octets) scenario
    (λ read_as next. never_behind _ (IsNextReport read_as) scenario (λ text same. absurd (cc (same))) read next) is

-- ---- the text of a run is one

-- two networks after the same run
record AreAlike (one other : NetLists) : Type 0 where
  plan : one.plan ≡ other.plan
  state : network_seen one ≡ network_seen other
  trace : one.trace ≡ other.trace

whole_same : (asked : Asked) (one other : NetLists) → AreAlike one other → run_text asked one None ≡ run_text asked other None
whole_same (Replay file) one other alike = ap (λ (p : Plan). report p one.trace (ending_by None)) alike.plan ∙ ap (λ (t : List Entry). report other.plan t (ending_by None)) alike.trace
whole_same (Tables file) one other alike = ap (λ (p : Plan). tables p (network_seen one)) alike.plan ∙ ap (λ (s : NetworkState). tables other.plan s) alike.state
whole_same (Capture file circuit) one other alike = ap (λ (p : Plan). left_at one (circuit_of p circuit)) alike.plan ∙ at (circuit_of other.plan circuit) where
  at : (place : Option ℕ) → left_at one place ≡ left_at other place
  at None = refl
  at (Some place) = ap (λ (t : List Entry). capture_text t (record { 0 = place })) alike.trace
whole_same (Rehearse seed) one other alike = ap (λ (t : List Entry). line_of (codes "rehearse" ∷ decimal seed ∷ []) ++ counts_line t) alike.trace
whole_same (Decode file) one other alike = refl
whole_same (Migrate file) one other alike = refl
whole_same (Discover file script) one other alike = refl
whole_same (Switchover file script) one other alike = refl
whole_same (Audit file report) one other alike = refl

stopped_same : (asked : Asked) (one other : NetLists) (reason : NetStop) → AreAlike one other → run_text asked one (Some reason) ≡ run_text asked other (Some reason)
stopped_same (Replay file) one other reason alike =
    ap (λ (p : Plan). report p one.trace (ending_by (Some reason))) alike.plan ∙ ap (λ (t : List Entry). report other.plan t (ending_by (Some reason))) alike.trace
stopped_same (Tables file) one other reason alike = refl
stopped_same (Capture file circuit) one other reason alike = refl
stopped_same (Rehearse seed) one other reason alike = refl
stopped_same (Decode file) one other reason alike = refl
stopped_same (Migrate file) one other reason alike = refl
stopped_same (Discover file script) one other reason alike = refl
stopped_same (Switchover file script) one other reason alike = refl
stopped_same (Audit file report) one other reason alike = refl

-- the two runs come to the same
same_end : (asked : Asked) (scenario : Scenario) (captures : List (List (List ℕ))) (text also : List ℕ) (network next : Option NetLists) (reason stop : Option NetStop)
    → (one : TellsRun asked scenario captures text network reason) → (other : TellsRun asked scenario captures also next stop) → ended one.left reason ≡ ended other.left stop
same_end asked scenario captures text also network next reason stop one other = one.is_run.is_run.ends ∙ sym other.is_run.is_run.ends

are_alike : (asked : Asked) (scenario : Scenario) (captures : List (List (List ℕ))) (text also : List ℕ) (network next : Option NetLists) (reason stop : Option NetStop)
    → (one : TellsRun asked scenario captures text network reason) → (other : TellsRun asked scenario captures also next stop) → AreAlike one.left other.left
are_alike asked scenario captures text also network next reason stop one other =
    let same : ended one.left reason ≡ ended other.left stop = same_end asked scenario captures text also network next reason stop one other in
    record { plan = one.is_run.is_run.plan_is ∙ sym other.is_run.is_run.plan_is; state = ap (λ (e : Ended). e.state) same; trace = ap (λ (e : Ended). e.trace) same }

runs_same : (asked : Asked) (scenario : Scenario) (captures : List (List (List ℕ))) (text also : List ℕ) (network next : Option NetLists) (outcome ending : Outcome) → EndAlike outcome ending
    → MakesRun asked scenario captures text network outcome → MakesRun asked scenario captures also next ending → text ≡ also
runs_same asked scenario captures text also network next Done Done alike one other =
    one.text_is ∙ (whole_same asked one.left other.left (are_alike asked scenario captures text also network next None None one other) ∙ sym other.text_is)
runs_same asked scenario captures text also network next (Stopped reason) (Stopped stop) alike one other =
    let same : Some reason ≡ Some stop = ap (λ (e : Ended). e.stop) (same_end asked scenario captures text also network next (Some reason) (Some stop) one other) in
    one.text_is ∙ (stopped_same asked one.left other.left reason (are_alike asked scenario captures text also network next (Some reason) (Some stop) one other)
    ∙ (ap (λ (r : Option NetStop). run_text asked other.left r) same ∙ sym other.text_is))
runs_same asked scenario captures text also network next outcome ending alike one other = absurd alike

-- ---- that of a script of discovery

scripts_same : (plan : Plan) (lines : List ScriptLine) (text also : List ℕ) (network next : Option NetLists) (reason stop : Option NetStop)
    → TellsDiscovery plan lines text network reason → TellsDiscovery plan lines also next stop → text ≡ also
scripts_same plan lines text also network next reason stop one other =
    let same = one.is_run.course ∙ sym other.is_run.course in
    one.text_is ∙ (ap (λ (p : Plan). discovery_report p one.left.trace one.notes (ending_by reason)) (one.is_run.is_run.plan_is ∙ sym other.is_run.is_run.plan_is)
    ∙ (ap (λ (c : Course). discovery_report other.left.plan c.trace c.notes (ending_by c.stop)) same ∙ sym other.text_is))

discoveries_same : (plan : Plan) (lines : List ScriptLine) (text also : List ℕ) (network next : Option NetLists) (outcome ending : Outcome) → EndAlike outcome ending
    → IsDiscoverRun plan lines text network outcome → IsDiscoverRun plan lines also next ending → text ≡ also
discoveries_same plan lines text also network next Done Done alike one other = scripts_same plan lines text also network next None None one other
discoveries_same plan lines text also network next (Stopped reason) (Stopped stop) alike one other = scripts_same plan lines text also network next (Some reason) (Some stop) one other
discoveries_same plan lines text also network next outcome ending alike one other = absurd alike

-- ---- of each work but a migration the text is one

texts_same : (asked : Asked) (work : CommandWork) (text also : List ℕ) (network next : Option NetLists) (outcome ending : Outcome) → EndAlike outcome ending
    → ((scenario : Scenario) → work ≡ Migration scenario → ⊥) → MakesAnswer asked work text network outcome → MakesAnswer asked work also next ending → text ≡ also
texts_same asked (Run scenario captures) text also network next outcome ending alike never one other = runs_same asked scenario captures text also network next outcome ending alike one other
texts_same asked (Stream octets) text also network next outcome ending alike never one other =
    let same = one_parsing.one 0 largest_pdu octets one.text_is.pdus other.text_is.pdus one.ending other.ending (omega arith) one.text_is.parsed other.text_is.parsed in
    one.text_is.text_is ∙ (ap (λ (ps : List PlacedPdu). stream_lines ps) same.pdus_are ∙ sym other.text_is.text_is)
texts_same asked (Migration scenario) text also network next outcome ending alike never one other = absurd (never scenario refl)
texts_same asked (Discovery plan lines) text also network next outcome ending alike never one other = discoveries_same plan lines text also network next outcome ending alike one other
texts_same asked (Exchange plan lines) text also network next outcome ending alike never one other = one.text_is ∙ sym other.text_is
texts_same asked (Report plan octets) text also network next outcome ending alike never one other = one.text_is ∙ sym other.text_is

-- ---- two calls

whole_taken : (held same : List ℕ → Option (List ℕ)) (one other : Around) (asked : Asked) (network next : Option NetLists) (outcome ending : Outcome) → HasOneText asked
    → ((name : List ℕ) → held name ≡ same name) → EndAlike outcome ending → Agrees held one.files → Agrees same other.files → IsWholeTaken one asked network outcome
    → IsWholeTaken other asked next ending → TakeOneText one other
whole_taken held same one other asked network next outcome ending has equal alike told also first second =
    let come : ComesTo (IsHeld held) asked (Works first.made.work) = told_come one.files held asked (Works first.made.work) told first.made.come in
    let comes : ComesTo (IsHeld same) asked (Works second.made.work) = told_come other.files same asked (Works second.made.work) also second.made.come in
    let work : first.made.work ≡ second.made.work = one_work held same asked first.made.work second.made.work equal come comes in
    let text : first.text ≡ second.text =
    texts_same asked first.made.work first.text second.text network next outcome ending alike
    (λ scenario wrong. never_migrates asked scenario come.read has (subst (λ (w : CommandWork). IsNextInput asked come.read (Works w)) wrong come.is_next)) first.made.makes
    (subst (λ (w : CommandWork). MakesAnswer asked w second.text next ending) (sym work) second.made.makes) in
    record { text = first.text; first = first.taken; second = subst (λ (t : List ℕ). Writes other.taken_before other.taken_after t) (sym text) second.taken }

pub one_text : OneInputOneText
one_text asked held same one other Done Done has equal alike first second =
    whole_taken held same one other asked first.network second.network Done Done has equal alike first.agrees second.agrees first.says second.says
one_text asked held same one other (Stopped reason) (Stopped stop) has equal alike first second =
    whole_taken held same one other asked first.network second.network (Stopped reason) (Stopped stop) has equal alike first.agrees second.agrees first.says second.says
one_text asked held same one other outcome ending has equal alike first second = absurd alike
