-- The text of a stream is written PDU by PDU, and its octets are fed piece by piece.
use Rattle.std.proofs.Common.{◌≡◌, ◌⊎◌, ◌<◌, ◌≤◌, ◌+◌, ◌-◌, ◌==◌, if◌then◌else◌, ◌++◌, ◌∙◌, ◌^◌, ℕ, Bool, true, false, List, [], ◌∷◌, Option, None, Ok, length, take, drop, min, flat_map, refl, sym, ap, subst, inl, inr, arith, append_assoc, length-append, length-take, length-drop}
use Rattle.std.proofs.Math.Seq.{take-append_seam}
use Rattle.std.proofs.lemmas.Bool.Decides.{nat_tests}
use Rattle.std.proofs.lemmas.List.{append-nil, take-take, drop-drop, take-append-drop, drop_all, length-take-le}
use Rattle.ldp_grammar.specs.declared.fault.Fault.{Fault}
use Rattle.ldp_grammar.specs.declared.pdu.Pdu.{Pdu}
use Rattle.ldp_codec.proofs.DecodeLemmas.{view_read}
use Rattle.ldp_codec.specs.declared.decode_fault.DecodeFault.{DecodeFault}
use Rattle.ldp_codec.specs.Decoded.{refusal_of}
use Rattle.ldp_codec.specs.Views.{SeenPdu}
use Rattle.ldp_grammar.specs.Octets.{two}
use Rattle.ldp_grammar.specs.Spells.{Spells, spell_message}
use Rattle.ldp_stream.specs.declared.stream_fault.StreamFault.{StreamFault}
use Rattle.ldp_stream.specs.declared.stream_fault.StreamFault.TheVariants as fault
use Rattle.ldp_stream.specs.Front.{HasFront, IsPending, IsFrontFault}
use Rattle.ldp_stream.specs.Parsed.{Ending, Pending, Refused, IsParsedFrom}
use Rattle.ldp_stream.specs.Seen.{HasNext, IsPeeked, IsRefusal}
use Rattle.ldp_stream.specs.State.{StreamState, empty, taken_count, Passes, Waits, place_behind}
use Rattle.ldp_stream.proofs.ParsedLemmas.{one_parsing}
use Rattle.ldp_stream.proofs.ReadingLemmas.{each_has_front}
use Rattle.ldp_stream.proofs.StreamLemmas.{going_fault}
use Rattle.message_text.specs.Lent.{AddsLines}
use Rattle.message_text.specs.Line.{decoded_lines}
use Rattle.net_base.specs.outside.Outside.{Appends}
use Rattle.net_values.specs.Octets.{AreOctets}
use Rattle.text_lines.specs.Written.{Written, lines_written, WritingGoesOn, IsCut}
use Rattle.text_lines.proofs.WrittenLemmas.{cut_first, cut_later, cut_text, goes_none, puts_two, whole_text, writes_appends}
use Rattle.vplsnet.specs.declared.outcome.Outcome.{Outcome}
use Rattle.vplsnet.specs.declared.outcome.Outcome.TheVariants.{Done, DecodeRefused, NoMemory, Unfinished, WriteFault}
use Rattle.vplsnet.specs.declared.stream_stop.StreamStop.{StreamStop}
use Rattle.vplsnet.specs.declared.stream_stop.StreamStop.TheVariants as stop
use Rattle.vplsnet.specs.StreamText.{largest_pdu, stream_lines, IsTextFrom, IsStreamText, outcome_of_ending}
use Rattle.vplsnet.specs.StreamSteps.{IsStreamGoing, AddsPdu, Flushes, IsFedTo, IsFrontStop, IsStopped, LeavesSome, PutsAll, PutsFront, PutsOne, PutsPart, PutsToFault, PutsUpTo, StopsIn, StopsText, TakesOne, TakesPdu, TextGoesOn, outcome_at}
use Rattle.vplsnet.specs.Writing.{EndsStream, EndsText, GivesUp}

-- a PDU in front has some octets
piece_some : (piece : List ℕ) (max : ℕ) (pdu : Pdu) → Spells piece max pdu → 0 < length piece
piece_some piece max pdu spells =
    let behind = two (6 + length (flat_map spell_message spells.spellings)) ++ ((pdu.id.router.0 ++ two pdu.id.space) ++ flat_map spell_message spells.spellings) in
    omega (arith, ap length spells.framed.split, length-append (two 1) behind)

-- a place within a stream that is short of the last number is counted as it is
place_near : (base count : ℕ) → base + count < 2 ^ 63 → place_behind base count ≡ base + count
unfolding place_behind
place_near base count few =
    let counted : place_behind base count ≡ min (base + count) (2 ^ 64 - 1) = refl in
    omega (arith, counted, few)

-- ---- one PDU

-- the lines of what is lent of the PDU in front were added
pub puts_front : (s : StreamState) (seen : SeenPdu) (fed base : ℕ) (before after : List ℕ) → IsStreamGoing s fed → base ≡ fed - length s.held → IsPeeked s seen → HasNext s
    → AddsLines base seen.spellings before after → PutsFront s before after
puts_front s seen fed base before after going is peeked ready adds =
    let place : base ≡ s.base = omega (arith, is, going.place) in
    record {
      ready = ready;
      pdu = record { id = seen.id; messages = adds.messages };
      rest = peeked.rest;
      front = record {
        piece = peeked.piece;
        split = peeked.split;
        spelled = view_read peeked.piece s.max seen (record { id = seen.id; messages = adds.messages }) peeked.viewed (record { id = refl; stand = adds.stand });
      };
      lines = adds.lines ∙ ap (λ (b : ℕ). before ++ decoded_lines b adds.messages) place;
    }

-- the PDU in front was given up
pub adds_front : (old new : StreamState) (lines : List ℕ) → PutsFront old [] lines → ((pdu : Pdu) (rest : List ℕ) → HasFront old.max old.held pdu rest → Passes old new pdu) → AddsPdu old new lines
adds_front old new lines puts passes = record { pdu = puts.pdu; passes = passes puts.pdu puts.rest puts.front; are = puts.lines }

-- the lines of the PDU in front were put
pub takes_pdu : (old new : StreamState) (lines : List ℕ) (a b : Written) → AddsPdu old new lines → WritingGoesOn a b lines → TakesOne true old new a b
takes_pdu old new lines a b adds goes = record { lines = lines; adds = adds; goes = goes }

-- none was taken
pub takes_none : (s : StreamState) (a : Written) (before after : List ℕ) → PutsOne false s before after → TakesOne false s s a a
takes_none s a before after puts = (record { going = puts.0.0; pending = puts.0.1; unchanged = refl }, refl)

-- the text of octets in front of which a PDU stands: its lines, and the text of what is behind it
record IsSplit (s : StreamState) (pdu : Pdu) (piece rest more whole : List ℕ) (ending : Ending) : Type 0 where
  text : List ℕ
  all : whole ≡ decoded_lines s.base pdu.messages ++ text
  left : IsTextFrom (s.base + length piece) (rest ++ more) text ending

split_text : (s : StreamState) (pdu : Pdu) (piece rest more whole : List ℕ) (ending : Ending) → s.max ≡ largest_pdu → s.held ≡ piece ++ rest → Spells piece s.max pdu
    → IsTextFrom s.base (s.held ++ more) whole ending → IsSplit s pdu piece rest more whole ending
split_text s pdu piece rest more whole ending max split spelled is =
    let spells : Spells piece largest_pdu pdu = subst (λ (m : ℕ). Spells piece m pdu) max spelled in
    let joins : s.held ++ more ≡ piece ++ (rest ++ more) = ap (λ (l : List ℕ). l ++ more) split ∙ append_assoc piece rest more in
    let step = one_parsing.stepped s.base largest_pdu piece (rest ++ more) pdu is.pdus ending (omega arith) spells
    (subst (λ (l : List ℕ). IsParsedFrom s.base largest_pdu l is.pdus ending) joins is.parsed) in
    record {
      text = stream_lines step.others;
      all = is.text_is ∙ ap stream_lines step.are;
      left = record { pdus = step.others; parsed = step.parsed; text_is = refl };
    }

-- nothing was put
abbrev no_part : (whole : List ℕ) (a : Written) → PutsPart whole a a
no_part whole a = record { front = []; rest = whole; all = refl; goes = goes_none a }

-- one text behind another one
goes_both : (a b c : Written) (first second : List ℕ) → WritingGoesOn a b first → WritingGoesOn b c second → WritingGoesOn a c (first ++ second)
goes_both a b c first second one two = puts_two {T = Unit {0}} {E = Unit {0}} (Ok tt) a b c first second one two

-- a front of a text was put, and then more of it
stops_behind : (reason : StreamStop) (front rest whole : List ℕ) (ending : Ending) (a b c : Written) → whole ≡ front ++ rest → WritingGoesOn a b front → StopsText reason rest ending b c
    → StopsText reason whole ending a c
stops_behind (stop.Fault (fault.Refused base refusal)) front rest whole ending a b c all goes stops = record {
  fault = stops.fault;
  names = stops.names;
  ends = stops.ends;
  goes = subst (λ (l : List ℕ). WritingGoesOn a c l) (sym all) (goes_both a b c front rest goes stops.goes);
}
stops_behind (stop.Fault fault.NoMemory) front rest whole ending a b c all goes stops = record {
  front = front ++ stops.front;
  rest = stops.rest;
  all = all ∙ (ap (λ (l : List ℕ). front ++ l) stops.all ∙ sym (append_assoc front stops.front stops.rest));
  goes = goes_both a b c front stops.front goes stops.goes;
}
stops_behind stop.Failed front rest whole ending a b c all goes stops = subst (λ (l : List ℕ). IsCut a c l) (sym all) (cut_later a b c front rest goes stops)

-- memory was refused
stopped_short : (s : StreamState) (a : Written) → IsStopped (stop.Fault fault.NoMemory) s a a
stopped_short s a = record { on = λ more whole ending is_text. no_part whole a }

-- a fault stands in front, whatever follows, and the text ends there
stopped_at : (s : StreamState) (fed : ℕ) (refusal : StreamFault) (a : Written) → IsStreamGoing s fed → IsRefusal s refusal → IsStopped (stop.Fault refusal) s a a
stopped_at s fed refusal a going refused = subst (λ (f : StreamFault). IsStopped (stop.Fault f) s a a) (sym refused.is) (record { on = at }) where
  front : IsFrontFault largest_pdu s.held refused.fault
  front = subst (λ (max : ℕ). IsFrontFault max s.held refused.fault) going.max (going_fault s refused.fault going.going refused.stands)

  at : (more whole : List ℕ) (ending : Ending) → IsTextFrom s.base (s.held ++ more) whole ending → PutsToFault s.base (refusal_of refused.fault) whole ending a a
  at more whole ending is_text =
      let same = one_parsing.one s.base largest_pdu (s.held ++ more) is_text.pdus [] ending (Refused s.base refused.fault) (omega arith) is_text.parsed
      (one_parsing.faulty s.base largest_pdu s.held more refused.fault front) in
      record {
        fault = refused.fault;
        names = refl;
        ends = same.ending_is;
        goes = subst (λ (l : List ℕ). WritingGoesOn a a l) (sym (is_text.text_is ∙ ap stream_lines same.pdus_are)) (goes_none a);
      }

-- no lines were added
pub stopped_front : (s : StreamState) (fed : ℕ) (refusal : StreamFault) (a : Written) → IsStreamGoing s fed → IsFrontStop s refusal → IsStopped (stop.Fault refusal) s a a
stopped_front s fed refusal a going (inl refused) = stopped_at s fed refusal a going refused
stopped_front s fed refusal a going (inr short) = subst (λ (f : StreamFault). IsStopped (stop.Fault f) s a a) (sym short) (stopped_short s a)

-- the sink failed at the lines of the PDU in front
pub stopped_cut : (s : StreamState) (fed : ℕ) (lines text : List ℕ) (a b : Written) → IsStreamGoing s fed → PutsFront s [] lines → text ≡ lines → IsCut a b text → IsStopped stop.Failed s a b
stopped_cut s fed lines text a b going puts same cut = record { on = at } where
  at : (more whole : List ℕ) (ending : Ending) → IsTextFrom s.base (s.held ++ more) whole ending → IsCut a b whole
  at more whole ending is_text =
      let split = split_text s puts.pdu puts.front.piece puts.rest more whole ending going.max puts.front.split puts.front.spelled is_text in
      let all : whole ≡ lines ++ split.text = split.all ∙ ap (λ (l : List ℕ). l ++ split.text) (sym puts.lines) in
      subst (λ (l : List ℕ). IsCut a b l) (sym all) (cut_first a b lines split.text (subst (λ (l : List ℕ). IsCut a b l) same cut))

-- the place behind the PDU in front
passed_base : (old new : StreamState) (fed : ℕ) (pdu : Pdu) → IsStreamGoing old fed → fed < 2 ^ 63 → (passes : Passes old new pdu) → new.base ≡ old.base + length passes.piece
passed_base old new fed pdu going few passes =
    let within : length old.held ≡ length passes.piece + length new.held = ap length passes.split ∙ length-append passes.piece new.held in
    let near : old.base + length passes.piece < 2 ^ 63 = omega (arith, going.place, within, few) in
    ap (λ (s : StreamState). s.base) passes.is ∙ place_near old.base (length passes.piece) near

passed_going : (old new : StreamState) (fed : ℕ) (pdu : Pdu) → IsStreamGoing old fed → fed < 2 ^ 63 → Passes old new pdu → IsStreamGoing new fed
passed_going old new fed pdu going few passes =
    let within : length old.held ≡ length passes.piece + length new.held = ap length passes.split ∙ length-append passes.piece new.held in
    record {
      going = ap (λ (s : StreamState). s.refused) passes.is;
      max = ap (λ (s : StreamState). s.max) passes.is ∙ going.max;
      place = omega (arith, going.place, within, passed_base old new fed pdu going few passes);
    }

passed_less : (old new : StreamState) (pdu : Pdu) → Passes old new pdu → length new.held < length old.held
passed_less old new pdu passes = omega (arith, ap length passes.split, length-append passes.piece new.held, piece_some passes.piece old.max pdu passes.spelled)

-- the lines of the PDU in front were put
passed_on : (old new : StreamState) (fed : ℕ) (a b : Written) → IsStreamGoing old fed → fed < 2 ^ 63 → TakesPdu old new a b → TextGoesOn old new a b
passed_on old new fed a b going few takes = record { on = at } where
  passes : Passes old new takes.adds.pdu
  passes = takes.adds.passes

  base : old.base + length passes.piece ≡ new.base
  base = sym (passed_base old new fed takes.adds.pdu going few passes)

  at : (more whole : List ℕ) (ending : Ending) → IsTextFrom old.base (old.held ++ more) whole ending → PutsUpTo new more whole ending a b
  at more whole ending is_text =
      let split = split_text old takes.adds.pdu passes.piece new.held more whole ending going.max passes.split passes.spelled is_text in
      record {
        part = record {
          front = takes.lines;
          rest = split.text;
          all = split.all ∙ ap (λ (l : List ℕ). l ++ split.text) (sym takes.adds.are);
          goes = takes.goes;
        };
        left = subst (λ (n : ℕ). IsTextFrom n (new.held ++ more) split.text ending) base split.left;
      }

-- ---- the PDUs that stand in front

-- nothing was put
pub goes_on_same : (s : StreamState) (a : Written) → TextGoesOn s s a a
goes_on_same s a = record { on = λ more whole ending is_text. record { part = no_part whole a; left = is_text } }

-- a part of the text was put, and then a part of the rest
parts_up_to : (s : StreamState) (more whole : List ℕ) (ending : Ending) (a b c : Written) (part : PutsPart whole a b) → PutsUpTo s more part.rest ending b c → PutsUpTo s more whole ending a c
parts_up_to s more whole ending a b c part next = record {
  part = record {
    front = part.front ++ next.part.front;
    rest = next.part.rest;
    all = part.all ∙ (ap (λ (l : List ℕ). part.front ++ l) next.part.all ∙ sym (append_assoc part.front next.part.front next.part.rest));
    goes = goes_both a b c part.front next.part.front part.goes next.part.goes;
  };
  left = next.left;
}

goes_on_more : (old between new : StreamState) (a b c : Written) → TextGoesOn old between a b → TextGoesOn between new b c → TextGoesOn old new a c
goes_on_more old between new a b c first second = record {
  on = λ more whole ending is_text.
      let up_to = first.on more whole ending is_text in
      parts_up_to new more whole ending a b c up_to.part (second.on more up_to.part.rest ending up_to.left);
}

-- the writing stopped behind what was put
pub stopped_more : (reason : StreamStop) (old new : StreamState) (a b c : Written) → TextGoesOn old new a b → IsStopped reason new b c → IsStopped reason old a c
stopped_more reason old new a b c goes stopped = record {
  on = λ more whole ending is_text.
      let up_to = goes.on more whole ending is_text in
      stops_behind reason up_to.part.front up_to.part.rest whole ending a b c up_to.part.all up_to.part.goes (stopped.on more up_to.part.rest ending up_to.left);
}

-- a PDU was taken
takes_more : (more : Bool) (old new : StreamState) (a b : Written) → more ≡ true → TakesOne more old new a b → TakesPdu old new a b
takes_more true old new a b went takes = takes
takes_more false old new a b went takes = absurd (cc (went))

pub taken_going : (more : Bool) (old new : StreamState) (fed : ℕ) (a b : Written) → more ≡ true → IsStreamGoing old fed → fed < 2 ^ 63 → TakesOne more old new a b → IsStreamGoing new fed
taken_going more old new fed a b went going few takes =
    let adds = (takes_more more old new a b went takes).adds in
    passed_going old new fed adds.pdu going few adds.passes

pub taken_on : (more : Bool) (first old new : StreamState) (fed : ℕ) (a b c : Written) → more ≡ true → IsStreamGoing old fed → fed < 2 ^ 63 → TextGoesOn first old a b
    → TakesOne more old new b c → TextGoesOn first new a c
taken_on more first old new fed a b c went going few goes takes = goes_on_more first old new a b c goes (passed_on old new fed b c going few (takes_more more old new b c went takes))

pub taken_less : (more : Bool) (old new : StreamState) (a b : Written) → more ≡ true → TakesOne more old new a b → length new.held < length old.held
taken_less more old new a b went takes =
    let adds = (takes_more more old new a b went takes).adds in
    passed_less old new adds.pdu adds.passes

-- none was taken
pub taken_none : (more : Bool) (old new : StreamState) (a b : Written) → more ≡ false → TakesOne more old new a b → Waits old new × (b ≡ a)
taken_none true old new a b went takes = absurd (cc (went))
taken_none false old new a b went takes = takes

-- ---- the octets that are fed

-- A proper prefix of a PDU leaves room.
pub pending_room : (held : List ℕ) → IsPending largest_pdu held → length held < 4100
pending_room held (inl few) = omega (arith, few)
pending_room held (inr (inl lacks)) = omega (arith, lacks.few)
pending_room held (inr (inr lacks)) = omega (arith, lacks.few, lacks.header.most)

-- after a piece was fed, what is held and what is behind are the same octets
fed_rest : (octets piece held : List ℕ) (at n k : ℕ) → piece ≡ take k (drop at octets) → n ≤ length piece → (held ++ take n piece) ++ drop (at + n) octets ≡ held ++ drop at octets
fed_rest octets piece held at n k is within =
    let few : n ≤ k = omega (arith, within, ap length is, length-take k (drop at octets)) in
    let front : take n piece ≡ take n (drop at octets) = ap (λ (l : List ℕ). take n l) is ∙ take-take n k (drop at octets) few in
    let behind : drop (at + n) octets ≡ drop n (drop at octets) = sym (drop-drop n at octets) in
    append_assoc held (take n piece) (drop (at + n) octets)
    ∙ ap (λ (l : List ℕ). held ++ l) (ap (λ (l : List ℕ). l ++ drop (at + n) octets) front ∙ (ap (λ (l : List ℕ). take n (drop at octets) ++ l) behind ∙ take-append-drop n (drop at octets)))

-- what a stream without a fault takes of a piece
pub record IsFed (octets : List ℕ) (at : ℕ) (piece : List ℕ) (s new : StreamState) (n : ℕ) : Type 0 where
  pub before : at < length octets
  pub piece_is : piece ≡ take (min (length octets - at) 2048) (drop at octets)
  pub count : n ≡ taken_count s.refused (length s.held) (length piece)
  pub fed : new ≡ record s { held = s.held ++ take n piece }

-- it is some octets, and no more than the piece
fed_count : (octets : List ℕ) (at : ℕ) (piece : List ℕ) (s new : StreamState) (n : ℕ) (a b : Written) → IsFedTo octets at s a b → IsFed octets at piece s new n → (0 < n)
    × (n ≤ length piece) × (at + n ≤ length octets)
fed_count octets at piece s new n a b so_far fed =
    let count : n ≡ min (length piece) (4100 - length s.held) = fed.count ∙ ap (λ (r : Option Fault). taken_count r (length s.held) (length piece)) so_far.going.going in
    let room = pending_room s.held so_far.pending in
    let size : length piece ≡ min (length octets - at) 2048 = ap length fed.piece_is ∙ length-take-le (min (length octets - at) 2048) (drop at octets) (omega (arith, length-drop at octets)) in
    (omega (arith, count, room, size, fed.before), omega (arith, count), omega (arith, count, size, fed.before))

pub fed_less : (octets : List ℕ) (at : ℕ) (piece : List ℕ) (s new : StreamState) (n : ℕ) (a b : Written) → IsFedTo octets at s a b → IsFed octets at piece s new n
    → length octets - (at + n) < length octets - at
fed_less octets at piece s new n a b so_far fed =
    let counts = fed_count octets at piece s new n a b so_far fed in
    omega (arith, counts.0, fed.before)

pub fed_going : (octets : List ℕ) (at : ℕ) (piece : List ℕ) (s new : StreamState) (n : ℕ) (a b : Written) → IsFedTo octets at s a b → IsFed octets at piece s new n → IsStreamGoing new (at + n)
fed_going octets at piece s new n a b so_far fed =
    let counts = fed_count octets at piece s new n a b so_far fed in
    let held : new.held ≡ s.held ++ take n piece = ap (λ (t : StreamState). t.held) fed.fed in
    let base : new.base ≡ s.base = ap (λ (t : StreamState). t.base) fed.fed in
    record {
      going = ap (λ (t : StreamState). t.refused) fed.fed ∙ so_far.going.going;
      max = ap (λ (t : StreamState). t.max) fed.fed ∙ so_far.going.max;
      place = omega (arith, base, ap length held, length-append s.held (take n piece), length-take-le n piece counts.1, so_far.going.place);
    }

-- what is left after a piece was fed is the text of what is held then and of what is behind
fed_text : (octets : List ℕ) (at : ℕ) (piece : List ℕ) (s new : StreamState) (n : ℕ) (a b : Written) (whole : List ℕ) (ending : Ending) → IsFedTo octets at s a b → IsFed octets at piece s new n
    → IsStreamText octets whole ending → PutsUpTo new (drop (at + n) octets) whole ending a b
fed_text octets at piece s new n a b whole ending so_far fed is_text =
    let counts = fed_count octets at piece s new n a b so_far fed in
    let held : new.held ≡ s.held ++ take n piece = ap (λ (t : StreamState). t.held) fed.fed in
    let same : new.held ++ drop (at + n) octets ≡ s.held ++ drop at octets =
    ap (λ (l : List ℕ). l ++ drop (at + n) octets) held ∙ fed_rest octets piece s.held at n (min (length octets - at) 2048) fed.piece_is counts.1 in
    let base : new.base ≡ s.base = ap (λ (t : StreamState). t.base) fed.fed in
    let up_to = so_far.on whole ending is_text in
    record {
      part = up_to.part;
      left = subst (λ (b : ℕ). IsTextFrom b (new.held ++ drop (at + n) octets) up_to.part.rest ending) (sym base)
          (subst (λ (l : List ℕ). IsTextFrom s.base l up_to.part.rest ending) (sym same) up_to.left);
    }

-- nothing was fed yet
pub fed_none : (octets : List ℕ) (s : StreamState) (a : Written) → s ≡ empty → IsFedTo octets 0 s a a
fed_none octets s a is =
    subst (λ (t : StreamState). IsFedTo octets 0 t a a) (sym is)
    (record {
      within = omega arith;
      going = record { going = refl; max = refl; place = refl };
      pending = inl (omega arith);
      on = λ whole ending is_text. record { part = no_part whole a; left = is_text };
    })

-- a piece was fed, and the PDUs that stood in front were taken
pub fed_on : (octets : List ℕ) (at : ℕ) (piece : List ℕ) (s new last : StreamState) (n : ℕ) (a b c : Written) → IsFedTo octets at s a b → IsFed octets at piece s new n
    → IsStreamGoing last (at + n) → IsPending largest_pdu last.held → TextGoesOn new last b c → IsFedTo octets (at + n) last a c
fed_on octets at piece s new last n a b c so_far fed going pending goes =
    let counts = fed_count octets at piece s new n a b so_far fed in
    record {
      within = counts.2;
      going = going;
      pending = pending;
      on = λ whole ending is_text.
          let up_to = fed_text octets at piece s new n a b whole ending so_far fed is_text in
          parts_up_to last (drop (at + n) octets) whole ending a b c up_to.part (goes.on (drop (at + n) octets) up_to.part.rest ending up_to.left);
    }

-- a piece was fed, and the writing stopped among the PDUs in front
pub fed_stopped : (octets : List ℕ) (at : ℕ) (piece : List ℕ) (s new : StreamState) (n : ℕ) (reason : StreamStop) (a b c : Written) → IsFedTo octets at s a b → IsFed octets at piece s new n
    → IsStopped reason new b c → StopsIn reason octets a c
fed_stopped octets at piece s new n reason a b c so_far fed stopped = record {
  on = λ whole ending is_text.
      let up_to = fed_text octets at piece s new n a b whole ending so_far fed is_text in
      stops_behind reason up_to.part.front up_to.part.rest whole ending a b c up_to.part.all up_to.part.goes (stopped.on (drop (at + n) octets) up_to.part.rest ending up_to.left);
}

-- a proper prefix of a PDU has no text
pending_none : (base : ℕ) (held text : List ℕ) (ending : Ending) → IsPending largest_pdu held → IsTextFrom base held text ending → (text ≡ []) × (ending ≡ Pending base held)
pending_none base held text ending pending is_text =
    let same = one_parsing.one base largest_pdu held is_text.pdus [] ending (Pending base held) (omega arith) is_text.parsed (one_parsing.waits base largest_pdu held pending) in
    (is_text.text_is ∙ ap stream_lines same.pdus_are, same.ending_is)

-- all octets were fed
pub fed_all : (octets : List ℕ) (at : ℕ) (s : StreamState) (a b : Written) (left : ℕ) → IsFedTo octets at s a b → length octets ≤ at → left ≡ length s.held → LeavesSome octets a b left
fed_all octets at s a b left so_far ends held = record { within = omega (arith, place); on = on } where
  place : s.base + left ≡ length octets
  place = omega (arith, so_far.going.place, so_far.within, ends, held)

  none : s.held ++ drop at octets ≡ s.held
  none = ap (λ (l : List ℕ). s.held ++ l) (drop_all at octets ends) ∙ append-nil s.held

  on : (whole : List ℕ) (ending : Ending) → IsStreamText octets whole ending → PutsAll octets left whole ending a b
  on whole ending is_text =
      let up_to = so_far.on whole ending is_text in
      let front = up_to.part.front in
      let last = pending_none s.base s.held up_to.part.rest ending so_far.pending (subst (λ (l : List ℕ). IsTextFrom s.base l up_to.part.rest ending) none up_to.left) in
      record {
        at = s.base;
        rest = s.held;
        ends = last.1;
        left_is = held;
        place = place;
        goes = subst (λ (l : List ℕ). WritingGoesOn a b l) (sym (up_to.part.all ∙ (ap (λ (l : List ℕ). front ++ l) last.0 ∙ append-nil front))) up_to.part.goes;
      }

-- ---- the end of the call

-- the outcome of a stream by what is left behind its last PDU
ends_of : (at left len : ℕ) (rest : List ℕ) → left ≡ length rest → at + left ≡ len → (if left == 0 then Done else Unfinished (len - left)) ≡ outcome_of_ending (Pending at rest)
ends_of at left len [] is place = ap (λ (n : ℕ). if n == 0 then Done else Unfinished (len - n)) is
ends_of at left len (octet ∷ rest) is place =
    let some : 0 < left = omega (arith, is) in
    let test : (left == 0) ≡ false = grind (arith, nat_tests, some) in
    let behind : len - left ≡ at = omega (arith, is, place) in
    rw test (ap Unfinished behind)

-- how the call ends for a text, where no run begins
abbrev Ends : List ℕ → Ending → Written → Written → Outcome → Type 0
Ends whole ending a c outcome = EndsText whole None (outcome_of_ending ending) a c None outcome ⊎ GivesUp whole a c None outcome

-- each stream has a text
tells : (octets : List ℕ) (a c : Written) (outcome : Outcome) → AreOctets octets
    → ((whole : List ℕ) (ending : Ending) → IsStreamText octets whole ending → Ends whole ending a c outcome) → EndsStream octets a c None outcome
tells octets a c outcome are ends =
    let read = each_has_front.parsing 0 largest_pdu octets are (omega arith) in
    let is_text : IsStreamText octets (stream_lines read.pdus) read.ending = record { pdus = read.pdus; parsed = read.parsed; text_is = refl } in
    inl (record {
      text = stream_lines read.pdus;
      made = outcome_of_ending read.ending;
      is_decoding = record { ending = read.ending; text_is = is_text; ends = refl; no_run = refl };
      ends = ends (stream_lines read.pdus) read.ending is_text;
    })

pub cut_behind : (a b c : Written) (text : List ℕ) → WritingGoesOn a b text → IsCut b c [] → IsCut a c text
cut_behind a b c text goes cut = subst (λ (l : List ℕ). IsCut a c l) (append-nil text) (cut_later a b c text [] goes cut)

-- the sink failed
ends_cut : (whole : List ℕ) (ending : Ending) (a c : Written) (outcome : Outcome) → a.waiting ≡ [] → outcome ≡ WriteFault → IsCut a c whole → Ends whole ending a c outcome
ends_cut whole ending a c outcome none is cut = inl (inr (inl (record { outcome_is = is; network_is = refl; taken = cut_text a c whole none cut; cause = cut.rose })))

-- the whole text was put, and what waited was written
ends_all : (whole : List ℕ) (ending : Ending) (a b c : Written) (made outcome : Outcome) → a.waiting ≡ [] → WritingGoesOn a b whole → made ≡ outcome_of_ending ending
    → Flushes made outcome b c → Ends whole ending a c outcome
ends_all whole ending a b c made outcome none goes is (inl flushed) =
    inl (inl (record { outcome_is = flushed.is ∙ is; network_is = refl; taken = whole_text a b c.taken whole none goes flushed.taken }))
ends_all whole ending a b c made outcome none goes is (inr failed) = ends_cut whole ending a c outcome none failed.is (cut_behind a b c whole goes failed.cut)

-- a part of the text was put, and what waited was written
ends_part : (whole : List ℕ) (ending : Ending) (a b c : Written) (outcome : Outcome) → a.waiting ≡ [] → PutsPart whole a b → Flushes NoMemory outcome b c → Ends whole ending a c outcome
ends_part whole ending a b c outcome none part (inl flushed) =
    let front : part.front ≡ take (length part.front) whole = sym (ap (λ (l : List ℕ). take (length part.front) l) part.all ∙ take-append_seam part.front part.rest) in
    let taken = writes_appends a.taken c.taken part.front (whole_text a b c.taken part.front none part.goes flushed.taken) in
    inr (record { outcome_is = flushed.is; no_run = refl; taken = record { len = length part.front; taken = subst (λ (l : List ℕ). Appends a.taken c.taken l) front taken } })
ends_part whole ending a b c outcome none part (inr failed) =
    ends_cut whole ending a c outcome none failed.is (subst (λ (l : List ℕ). IsCut a c l) (sym part.all) (cut_first a c part.front part.rest (cut_behind a b c part.front part.goes failed.cut)))

-- where nothing waited at first: all octets were fed, ..
pub stream_left : (octets waiting : List ℕ) (taken : Option (List ℕ)) (faults left : ℕ) (b c : Written) (made outcome : Outcome) → AreOctets octets → waiting ≡ []
    → LeavesSome octets (lines_written taken faults waiting) b left
    → made ≡ (if left == 0 then Done else Unfinished (length octets - left)) → Flushes made outcome b c → EndsStream octets (lines_written taken faults []) c None outcome
stream_left octets waiting taken faults left b c made outcome are none leaves is flushes = tells octets (lines_written taken faults []) c outcome are on where
  on : (whole : List ℕ) (ending : Ending) → IsStreamText octets whole ending → Ends whole ending (lines_written taken faults []) c outcome
  on whole ending is_text =
      let all = (subst (λ (w : List ℕ). LeavesSome octets (lines_written taken faults w) b left) none leaves).on whole ending is_text in
      ends_all whole ending (lines_written taken faults []) b c made outcome refl all.goes
      (is ∙ (ends_of all.at left (length octets) all.rest all.left_is all.place ∙ ap outcome_of_ending (sym all.ends))) flushes

-- what was put before a fault, or where memory was refused, and then what waited was written
ends_at : (refusal : StreamFault) (whole : List ℕ) (ending : Ending) (a b c : Written) (outcome : Outcome) → a.waiting ≡ [] → StopsText (stop.Fault refusal) whole ending a b
    → Flushes (outcome_at refusal) outcome b c → Ends whole ending a c outcome
ends_at (fault.Refused base refusal) whole ending a b c outcome none stops flushes =
    ends_all whole ending a b c (DecodeRefused (fault.Refused base refusal)) outcome none stops.goes
    (ap (λ (r : DecodeFault). DecodeRefused (fault.Refused base r)) stops.names ∙ ap outcome_of_ending (sym stops.ends)) flushes
ends_at fault.NoMemory whole ending a b c outcome none stops flushes = ends_part whole ending a b c outcome none stops flushes

-- .. there was a fault or memory was refused, ..
pub stream_faulty : (octets waiting : List ℕ) (taken : Option (List ℕ)) (faults : ℕ) (reason : StreamStop) (refusal : StreamFault) (b c : Written) (made outcome : Outcome)
    → AreOctets octets → waiting ≡ []
    → reason ≡ stop.Fault refusal → StopsIn reason octets (lines_written taken faults waiting) b → made ≡ outcome_at refusal → Flushes made outcome b c
    → EndsStream octets (lines_written taken faults []) c None outcome
stream_faulty octets waiting taken faults reason refusal b c made outcome are none names stops is flushes = tells octets (lines_written taken faults []) c outcome are on where
  on : (whole : List ℕ) (ending : Ending) → IsStreamText octets whole ending → Ends whole ending (lines_written taken faults []) c outcome
  on whole ending is_text =
      ends_at refusal whole ending (lines_written taken faults []) b c outcome refl
      ((subst (λ (r : StreamStop). StopsIn r octets (lines_written taken faults []) b) names
      (subst (λ (w : List ℕ). StopsIn reason octets (lines_written taken faults w) b) none stops)).on whole ending is_text)
      (subst (λ (m : Outcome). Flushes m outcome b c) is flushes)

-- .. or the sink failed.
pub stream_cut : (octets waiting last : List ℕ) (taken now : Option (List ℕ)) (faults later : ℕ) (outcome : Outcome) → AreOctets octets → waiting ≡ []
    → StopsIn stop.Failed octets (lines_written taken faults waiting) (lines_written now later last)
    → outcome ≡ WriteFault → EndsStream octets (lines_written taken faults []) (lines_written now later []) None outcome
stream_cut octets waiting last taken now faults later outcome are none stops is = tells octets (lines_written taken faults []) (lines_written now later []) outcome are on where
  on : (whole : List ℕ) (ending : Ending) → IsStreamText octets whole ending → Ends whole ending (lines_written taken faults []) (lines_written now later []) outcome
  on whole ending is_text =
      let cut = (subst (λ (w : List ℕ). StopsIn stop.Failed octets (lines_written taken faults w) (lines_written now later last)) none stops).on whole ending is_text in
      ends_cut whole ending (lines_written taken faults []) (lines_written now later []) outcome refl is (record { front = cut.front; rose = cut.rose })
