-- The captures that a scenario plays, file by file.
use Rattle.std.proofs.Common.{◌≡◌, ◌≢◌, ◌≤◌, ◌<◌, ◌+◌, ◌++◌, ◌∷◌, ◌∙◌, [], ℕ, List, refl, ap, sym, subst, arith, length, drop, map, append_assoc, slice_index_or}
use Rattle.std.proofs.lemmas.List.{append-nil, at_drop_more, drop_all}
use Rattle.std.proofs.lemmas.List.Elements.{All-append, All-cons, All-from_recursion, All-nil}
use Rattle.std.specs.List.{All, AllByRecursion}
use Rattle.net_base.specs.outside.Outside.{NeverFall}
use Rattle.net_base.specs.plan.Planned.{IsFrame}
use Rattle.text_lines.proofs.WrittenLemmas.{rose_later}
use Rattle.command_text.specs.declared.command.Command.{Command}
use Rattle.pcap_file.specs.declared.capture_fault.CaptureFault.{CaptureFault}
use Rattle.pcap_file.specs.declared.capture_fault.CaptureFault.TheVariants as capture_fault
use Rattle.pcap_file.specs.declared.endianness.Endianness.{Endianness}
use Rattle.pcap_file.specs.Answers.{TellsCaptureFault}
use Rattle.pcap_file.specs.FirstFault.{IsFirstFault}
use Rattle.pcap_file.specs.Records.{IsCapture, IsPacketRecord, PacketRecord, record_frame}
use Rattle.vplsnet.specs.declared.outcome.Outcome.{Outcome}
use Rattle.vplsnet.specs.declared.outcome.Outcome.TheVariants.{Done, Usage, ReadFault, WriteFault, TooLong, ScenarioRefused, NoCircuit, CaptureRefused, ScriptRefused, AuditRefused, Stopped, DecodeRefused, Unfinished, NoMemory}
use Rattle.vplsnet.specs.Around.{Files, Has}
use Rattle.vplsnet.specs.Captures.{AreCaptures, FailsToPlay, GainsPlayed, HasCaptureFault, HasFrames, HasPlayed, IsNoCapture, IsToldAs}
use Rattle.vplsnet.specs.Files.{IsLonger, IsNotHad}
use Rattle.vplsnet.specs.Inputs.{capture_limit, played, played_by}
use Rattle.vplsnet.proofs.AgreeLemmas.{Within, has_within, of_within}

-- ---- one file

-- a fault that is told as it is, is the first one
tells_it : (Holds : CaptureFault → Type 0) (fault : CaptureFault) → fault ≢ capture_fault.NoMemory → TellsCaptureFault Holds fault → Holds fault
tells_it Holds (capture_fault.Magic at) some tells = tells
tells_it Holds (capture_fault.Version at) some tells = tells
tells_it Holds (capture_fault.Network at) some tells = tells
tells_it Holds (capture_fault.Length at) some tells = tells
tells_it Holds (capture_fault.Truncated at field) some tells = tells
tells_it Holds capture_fault.NoMemory some tells = absurd (some refl)

told_as : (Holds : CaptureFault → Type 0) (name : List ℕ) (fault : CaptureFault) (outcome : Outcome) → Holds fault → IsToldAs (λ told. told ≡ fault) name outcome → IsToldAs Holds name outcome
told_as Holds name fault (CaptureRefused named other) holds told = (told.0, subst Holds (sym told.1) holds, told.2)
told_as Holds name fault NoMemory holds told = tt
told_as Holds name fault Done holds told = absurd told
told_as Holds name fault Usage holds told = absurd told
told_as Holds name fault ReadFault holds told = absurd told
told_as Holds name fault WriteFault holds told = absurd told
told_as Holds name fault (TooLong named limit) holds told = absurd told
told_as Holds name fault (ScenarioRefused other) holds told = absurd told
told_as Holds name fault (NoCircuit circuit) holds told = absurd told
told_as Holds name fault (ScriptRefused line word) holds told = absurd told
told_as Holds name fault (AuditRefused line rule) holds told = absurd told
told_as Holds name fault (Stopped stop) holds told = absurd told
told_as Holds name fault (DecodeRefused other) holds told = absurd told
told_as Holds name fault (Unfinished at) holds told = absurd told

pub told_first : (octets name : List ℕ) (fault : CaptureFault) (outcome : Outcome) → fault ≢ capture_fault.NoMemory → TellsCaptureFault (IsFirstFault octets) fault
    → IsToldAs (λ told. told ≡ fault) name outcome
    → IsToldAs (IsFirstFault octets) name outcome
told_first octets name fault outcome some tells told = told_as (IsFirstFault octets) name fault outcome (tells_it (IsFirstFault octets) fault some tells) told

-- a frame of a capture is no longer than a record
short_records : (order : Endianness) (records : List PacketRecord) → AllByRecursion (IsPacketRecord order) records → AllByRecursion IsFrame (map record_frame records)
short_records order [] are = tt
short_records order (r ∷ rs) are = (are.0.most, short_records order rs are.1)

pub short_frames : (octets : List ℕ) (frames : List (List ℕ)) → IsCapture octets frames → All IsFrame frames
short_frames octets frames is =
    subst (λ (fs : List (List ℕ)). All IsFrame fs) (sym is.records.of) (All-from_recursion IsFrame (map record_frame is.records.records) (short_records is.order is.records.records is.records.are))

-- why a file was not had is why its frames were not had
pub not_had : (files : Files) (before after : List ℕ → ℕ) (name : List ℕ) (outcome : Outcome) → IsNotHad files before after name capture_limit outcome → IsNoCapture files before after name outcome
not_had files before after name ReadFault why = why
not_had files before after name (TooLong named limit) why = why
not_had files before after name NoMemory why = tt
not_had files before after name Done why = absurd why
not_had files before after name Usage why = absurd why
not_had files before after name WriteFault why = absurd why
not_had files before after name (ScenarioRefused fault) why = absurd why
not_had files before after name (NoCircuit circuit) why = absurd why
not_had files before after name (CaptureRefused file fault) why = absurd why
not_had files before after name (ScriptRefused line word) why = absurd why
not_had files before after name (AuditRefused line rule) why = absurd why
not_had files before after name (Stopped stop) why = absurd why
not_had files before after name (DecodeRefused fault) why = absurd why
not_had files before after name (Unfinished at) why = absurd why

pub has_frames : (files : Files) (name octets : List ℕ) (frames : List (List ℕ)) → Has files name octets → length octets ≤ capture_limit → IsCapture octets frames → HasFrames files name frames
has_frames files name octets frames has fits is = record { octets = octets; file = record { has = has; fits = fits; is = is } }

-- the octets of a file are no capture
pub no_capture : (files : Files) (before after : List ℕ → ℕ) (name octets : List ℕ) (outcome : Outcome) → Has files name octets → length octets ≤ capture_limit
    → IsToldAs (IsFirstFault octets) name outcome
    → IsNoCapture files before after name outcome
no_capture files before after name octets (CaptureRefused named fault) has fits told = (told.0, record { octets = octets; has = has; fits = fits; first = told.1 }, told.2)
no_capture files before after name octets NoMemory has fits told = tt
no_capture files before after name octets Done has fits told = absurd told
no_capture files before after name octets Usage has fits told = absurd told
no_capture files before after name octets ReadFault has fits told = absurd told
no_capture files before after name octets WriteFault has fits told = absurd told
no_capture files before after name octets (TooLong named limit) has fits told = absurd told
no_capture files before after name octets (ScenarioRefused fault) has fits told = absurd told
no_capture files before after name octets (NoCircuit circuit) has fits told = absurd told
no_capture files before after name octets (ScriptRefused line word) has fits told = absurd told
no_capture files before after name octets (AuditRefused line rule) has fits told = absurd told
no_capture files before after name octets (Stopped stop) has fits told = absurd told
no_capture files before after name octets (DecodeRefused fault) has fits told = absurd told
no_capture files before after name octets (Unfinished at) has fits told = absurd told

pub ruleset frame_steps = (not_had, has_frames, no_capture)

-- ---- file by file

captures_both : (files : Files) (names more read others : List (List ℕ)) (captures gained : List (List (List ℕ))) → AreCaptures files names read captures → AreCaptures files more others gained
    → AreCaptures files (names ++ more) (read ++ others) (captures ++ gained)
captures_both files [] more [] others [] gained are rest = rest
captures_both files [] more [] others (frames ∷ captures) gained are rest = absurd are
captures_both files [] more (octets ∷ read) others captures gained are rest = absurd are
captures_both files (name ∷ names) more [] others captures gained are rest = absurd are
captures_both files (name ∷ names) more (octets ∷ read) others [] gained are rest = absurd are
captures_both files (name ∷ names) more (octets ∷ read) others (frames ∷ captures) gained are rest = (are.0, captures_both files names more read others captures gained are.1 rest)

pub played_both : (files : Files) (names more : List (List ℕ)) (captures gained : List (List (List ℕ))) → HasPlayed files names captures → HasPlayed files more gained
    → HasPlayed files (names ++ more) (captures ++ gained)
played_both files names more captures gained one two = record {
  read = one.read ++ two.read;
  are = captures_both files names more one.read two.read captures gained one.are two.are;
}

-- what was read by some answers was read by all of them
captures_within : (some all : Files) (names read : List (List ℕ)) (captures : List (List (List ℕ))) → Within some all → AreCaptures some names read captures → AreCaptures all names read captures
captures_within some all [] [] [] within are = tt
captures_within some all [] [] (frames ∷ captures) within are = absurd are
captures_within some all [] (octets ∷ read) captures within are = absurd are
captures_within some all (name ∷ names) [] captures within are = absurd are
captures_within some all (name ∷ names) (octets ∷ read) [] within are = absurd are
captures_within some all (name ∷ names) (octets ∷ read) (frames ∷ captures) within are = (
  record { has = has_within some all name octets within are.0.has; fits = are.0.fits; is = are.0.is },
  captures_within some all names read captures within are.1,
)

pub played_within : (some all : Files) (names : List (List ℕ)) (captures : List (List (List ℕ))) → Within some all → HasPlayed some names captures → HasPlayed all names captures
played_within some all names captures within played = record { read = played.read; are = captures_within some all names played.read captures within played.are }

played_none : (files : Files) → HasPlayed files [] []
played_none files = record { read = []; are = tt }

-- no file is played
pub gains_none : (files : Files) (captures : List (List (List ℕ))) → GainsPlayed files [] captures captures
gains_none files captures = record { gained = []; played = played_none files; short = All-nil (All IsFrame); adds = sym (append-nil captures) }

-- one file is played
pub gains_one : (files : Files) (name : List ℕ) (frames : List (List ℕ)) (captures now : List (List (List ℕ))) → HasFrames files name frames → All IsFrame frames → now
    ≡ captures ++ frames ∷ [] → GainsPlayed files (name ∷ []) captures now
gains_one files name frames captures now has short adds = record {
  gained = frames ∷ [];
  played = record { read = has.octets ∷ []; are = (has.file, tt) };
  short = All-cons (All IsFrame) frames [] short (All-nil (All IsFrame));
  adds = adds;
}

-- the frames of one file were not had
pub fails_one : (files : Files) (before after : List ℕ → ℕ) (name : List ℕ) (outcome : Outcome) → IsNoCapture files before after name outcome → FailsToPlay files before after (name ∷ []) outcome
fails_one files before after name outcome why = record { had = []; name = name; later = []; split = refl; captures = []; played = played_none files; why = why }

pub fails_want : (files : Files) (before after : List ℕ → ℕ) (name : List ℕ) (outcome : Outcome) → outcome ≡ NoMemory → FailsToPlay files before after (name ∷ []) outcome
fails_want files before after name outcome want = fails_one files before after name outcome (subst (λ (o : Outcome). IsNoCapture files before after name o) (sym want) tt)

pub ruleset add_steps = (gains_one, fails_one, fails_want)

fault_within : (some all : Files) (name : List ℕ) (fault : CaptureFault) → Within some all → HasCaptureFault some name fault → HasCaptureFault all name fault
fault_within some all name fault within has = record { octets = has.octets; has = has_within some all name has.octets within has.has; fits = has.fits; first = has.first }

-- a fault that was counted later was counted
no_capture_later : (files here : Files) (before between after : List ℕ → ℕ) (name : List ℕ) (outcome : Outcome) → Within here files → NeverFall before between → IsNoCapture here between after name outcome
    → IsNoCapture files before after name outcome
no_capture_later files here before between after name ReadFault within later why = rose_later (before name) (between name) (after name) (later name) why
no_capture_later files here before between after name (TooLong named limit) within later why = (why.0, why.1, of_within (λ held. IsLonger capture_limit (held name)) here files within why.2)
no_capture_later files here before between after name (CaptureRefused named fault) within later why = (why.0, fault_within here files name fault within why.1, why.2)
no_capture_later files here before between after name NoMemory within later why = tt
no_capture_later files here before between after name Done within later why = absurd why
no_capture_later files here before between after name Usage within later why = absurd why
no_capture_later files here before between after name WriteFault within later why = absurd why
no_capture_later files here before between after name (ScenarioRefused fault) within later why = absurd why
no_capture_later files here before between after name (NoCircuit circuit) within later why = absurd why
no_capture_later files here before between after name (ScriptRefused line word) within later why = absurd why
no_capture_later files here before between after name (AuditRefused line rule) within later why = absurd why
no_capture_later files here before between after name (Stopped stop) within later why = absurd why
no_capture_later files here before between after name (DecodeRefused fault) within later why = absurd why
no_capture_later files here before between after name (Unfinished at) within later why = absurd why

-- of the files that are played the first ones were read, and these are left
pub record IsPlayedTo (files : Files) (names rest : List (List ℕ)) (captures : List (List (List ℕ))) : Type 0 where
  pub had : List (List ℕ)
  pub split : names ≡ had ++ rest
  pub played : HasPlayed files had captures
  pub short : All (All IsFrame) captures

pub played_first : (files : Files) (names : List (List ℕ)) → IsPlayedTo files names names []
played_first files names = record { had = []; split = refl; played = played_none files; short = All-nil (All IsFrame) }

pub played_at : (commands : List Command) (i : ℕ) (d : Command) → i < length commands → played (drop i commands) ≡ played_by (slice_index_or commands i d) ++ played (drop (i + 1) commands)
played_at commands i d within = at_drop_more played commands i d within

-- those of one more command were read
pub played_more : (files past here : Files) (names : List (List ℕ)) (commands : List Command) (i : ℕ) (d : Command) (captures now : List (List (List ℕ))) → Within past files → Within here files → i < length commands
    → IsPlayedTo past names (played (drop i commands)) captures → GainsPlayed here (played_by (slice_index_or commands i d)) captures now → IsPlayedTo files names (played (drop (i + 1) commands)) now
played_more files past here names commands i d captures now earlier later within so_far gains =
    let more = played_by (slice_index_or commands i d) in
    let had : HasPlayed files so_far.had captures = played_within past files so_far.had captures earlier so_far.played in
    let there : HasPlayed files more gains.gained = played_within here files more gains.gained later gains.played in
    record {
      had = so_far.had ++ more;
      split = so_far.split ∙ (ap (λ (l : List (List ℕ)). so_far.had ++ l) (played_at commands i d within) ∙ sym (append_assoc so_far.had more (played (drop (i + 1) commands))));
      played = subst (λ (l : List (List (List ℕ))). HasPlayed files (so_far.had ++ more) l) (sym gains.adds) (played_both files so_far.had more captures gains.gained had there);
      short = subst (λ (l : List (List (List ℕ))). All (All IsFrame) l) (sym gains.adds) (All-append (All IsFrame) captures gains.gained so_far.short gains.short);
    }

-- all were read
pub played_end : (files : Files) (names : List (List ℕ)) (commands : List Command) (i : ℕ) (captures : List (List (List ℕ))) → length commands ≤ i
    → IsPlayedTo files names (played (drop i commands)) captures → HasPlayed files names captures
played_end files names commands i captures all so_far =
    let none : played (drop i commands) ≡ [] = ap played (drop_all i commands all) in
    let same : names ≡ so_far.had = so_far.split ∙ (ap (λ (l : List (List ℕ)). so_far.had ++ l) none ∙ append-nil so_far.had) in
    subst (λ (l : List (List ℕ)). HasPlayed files l captures) (sym same) so_far.played

-- one was not had
pub played_stopped : (files past here : Files) (before between after : List ℕ → ℕ) (names : List (List ℕ)) (commands : List Command) (i : ℕ) (command : Command) (captures : List (List (List ℕ))) (outcome : Outcome)
    → Within past files → Within here files → NeverFall before between → i < length commands → command ≡ slice_index_or commands i command
    → IsPlayedTo past names (played (drop i commands)) captures → FailsToPlay here between after (played_by command) outcome → FailsToPlay files before after names outcome
played_stopped files past here before between after names commands i command captures outcome earlier later fall within is so_far there =
    let rest = played (drop (i + 1) commands) in
    let front : played (drop i commands) ≡ played_by command ++ rest = played_at commands i command within ∙ ap (λ (c : Command). played_by c ++ rest) (sym is) in
    let left : played (drop i commands) ≡ there.had ++ there.name ∷ (there.later ++ rest) =
    front ∙ (ap (λ (l : List (List ℕ)). l ++ rest) there.split ∙ append_assoc there.had (there.name ∷ there.later) rest) in
    record {
      had = so_far.had ++ there.had;
      name = there.name;
      later = there.later ++ rest;
      split = so_far.split ∙ (ap (λ (l : List (List ℕ)). so_far.had ++ l) left ∙ sym (append_assoc so_far.had there.had (there.name ∷ (there.later ++ rest))));
      captures = captures ++ there.captures;
      played = played_both files so_far.had there.had captures there.captures (played_within past files so_far.had captures earlier so_far.played)
          (played_within here files there.had there.captures later there.played);
      why = no_capture_later files here before between after there.name outcome later fall there.why;
    }

-- the same by some answers and by all of them
pub fails_within : (files here : Files) (before after : List ℕ → ℕ) (names : List (List ℕ)) (outcome : Outcome) → Within here files → FailsToPlay here before after names outcome
    → FailsToPlay files before after names outcome
fails_within files here before after names outcome within fails = record {
  had = fails.had;
  name = fails.name;
  later = fails.later;
  split = fails.split;
  captures = fails.captures;
  played = played_within here files fails.had fails.captures within fails.played;
  why = no_capture_later files here before before after fails.name outcome within (λ name. omega arith) fails.why;
}

pub never_later : (before between after : List ℕ → ℕ) → NeverFall before between → NeverFall between after → NeverFall before after
never_later before between after one two = λ name. let a = one name in let b = two name in omega arith

pub ruleset play_steps = (played_first, played_more, played_end, played_stopped, never_later)
