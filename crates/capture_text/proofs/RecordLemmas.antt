-- Records of frames.
use Rattle.std.proofs.Common.{◌≡◌, ◌≤◌, ◌<◌, ◌+◌, ◌/◌, ◌%◌, ◌++◌, ◌∙◌, ℕ, List, [], ◌∷◌, Option, Some, None, Result, length, drop, get_or, flat_map, sym, ap, subst, arith}
use Rattle.std.specs.Prelude.{option_map}
use Rattle.std.proofs.lemmas.Grind.{flat_map-append}
use Rattle.std.proofs.lemmas.List.{append-nil, at_drop_more, drop_all}
use Rattle.byteorder.specs.Endian.{little_bytes}
use Rattle.net_base.specs.declared.plan.places.CircuitId.{CircuitId}
use Rattle.net_base.specs.declared.trace.entry.Entry.{Entry}
use Rattle.pcap_file.specs.Written.{written_frame, written_header, written_record}
use Rattle.capture_text.specs.Capture.{timed_frame_of, frames_left, ticks_after, timed}
use Rattle.text_lines.specs.Written.{Written, WritingGoesOn, IsCut, Puts}
use Rattle.text_lines.proofs.WrittenLemmas.{cut_first, goes_none, puts_two}

-- four octets are the list of them
four : (a b c d p q r s : ℕ) → a ≡ p → b ≡ q → c ≡ r → d ≡ s → a ∷ b ∷ c ∷ d ∷ [] ≡ p ∷ q ∷ r ∷ s ∷ []
four a b c d p q r s first second third fourth = λ i. first i ∷ second i ∷ third i ∷ fourth i ∷ []

-- four octets have the low 32 bits of a number
low_octets : (n : ℕ) → little_bytes 4 (n % 4294967296) ≡ little_bytes 4 n
low_octets n =
    let a : n % 4294967296 % 256 ≡ n % 256 = omega arith in
    let b : n % 4294967296 / 256 % 256 ≡ n / 256 % 256 = omega arith in
    let c : n % 4294967296 / 65536 % 256 ≡ n / 65536 % 256 = omega arith in
    let d : n % 4294967296 / 16777216 % 256 ≡ n / 16777216 % 256 = omega arith in
    four _ _ _ _ _ _ _ _ a b c d

heads : (a b p q : List ℕ) → a ≡ p → b ≡ q → a ++ (little_bytes 4 0 ++ (b ++ b)) ≡ p ++ (little_bytes 4 0 ++ (q ++ q))
heads a b p q first second = λ i. first i ++ (little_bytes 4 0 ++ (second i ++ second i))

-- what stands before a frame has the low 32 bits of its time and length
pub record_low : (seconds size : ℕ) → written_record (seconds % 4294967296) (size % 4294967296) ≡ written_record seconds size
record_low seconds size = heads (little_bytes 4 (seconds % 4294967296)) (little_bytes 4 (size % 4294967296)) (little_bytes 4 seconds) (little_bytes 4 size) (low_octets seconds) (low_octets size)

-- an array of a header's length holds the header alone, once that is written to its front
pub header_whole : (new old : List ℕ) → new ≡ written_header ++ drop 24 old → length old ≤ 24 → new ≡ written_header
header_whole new old writes short = writes ∙ (ap (λ (l : List ℕ). written_header ++ l) (drop_all 24 old short) ∙ append-nil written_header)

-- one text behind another one, which was made elsewhere
pub puts_behind : {T E : Type 0} (result : Result T E) (a b c : Written) (made first second : List ℕ) → made ≡ first → WritingGoesOn a b made → Puts result b c second → Puts result a c (first ++ second)
puts_behind result a b c made first second is goes puts = puts_two result a b c first second (subst (λ (l : List ℕ). WritingGoesOn a b l) is goes) puts

pub cut_made : (a b : Written) (made first second : List ℕ) → made ≡ first → IsCut a b made → IsCut a b (first ++ second)
cut_made a b made first second is cut = cut_first a b first second (subst (λ (l : List ℕ). IsCut a b l) is cut)

-- what an option of the code is in the words of the definition
left_some : {B : Type 0} (f : B → List ℕ) (found : Option B) (octets : B) (left : Option (List ℕ)) → option_map f found ≡ left → found ≡ Some octets → left ≡ Some (f octets)
left_some f found octets left told is = sym told ∙ ap (option_map f) is

left_none : {B : Type 0} (f : B → List ℕ) (found : Option B) (left : Option (List ℕ)) → option_map f found ≡ left → found ≡ None → left ≡ None
left_none f found left told is = sym told ∙ ap (option_map f) is

-- a frame is put by its record
pub puts_left : {T E B : Type 0} (result : Result T E) (a b : Written) (ticks : ℕ) (f : B → List ℕ) (found : Option B) (octets : B) (left : Option (List ℕ)) → option_map f found ≡ left
    → found ≡ Some octets
    → Puts result a b (written_frame (record { seconds = ticks; frame = f octets })) → Puts result a b (flat_map written_frame (timed ticks left))
puts_left result a b ticks f found octets left told is puts =
    let front = written_frame (record { seconds = ticks; frame = f octets }) in
    let all : flat_map written_frame (timed ticks left) ≡ front = ap (λ (o : Option (List ℕ)). flat_map written_frame (timed ticks o)) (left_some f found octets left told is) ∙ append-nil front in
    subst (λ (l : List ℕ). Puts result a b l) (sym all) puts

-- no frame is put by nothing
pub puts_none : {B : Type 0} (w : Written) (ticks : ℕ) (f : B → List ℕ) (found : Option B) (left : Option (List ℕ)) → option_map f found ≡ left → found ≡ None
    → WritingGoesOn w w (flat_map written_frame (timed ticks left))
puts_none w ticks f found left told is =
    let all : flat_map written_frame (timed ticks left) ≡ [] = ap (λ (o : Option (List ℕ)). flat_map written_frame (timed ticks o)) (left_none f found left told is) in
    subst (λ (l : List ℕ). WritingGoesOn w w l) (sym all) (goes_none w)

-- the record of the next entry's frame, and those behind it
pub frames_from : (circuit : CircuitId) (ticks after : ℕ) (trace : List Entry) (index : ℕ) (entry : Entry) → index < length trace → entry ≡ get_or trace index entry → after ≡ ticks_after entry ticks
    → flat_map written_frame (frames_left circuit ticks (drop index trace))
    ≡ flat_map written_frame (timed_frame_of circuit ticks entry) ++ flat_map written_frame (frames_left circuit after (drop (index + 1) trace))
frames_from circuit ticks after trace index entry within is told =
    let rest = drop (index + 1) trace in
    let front = flat_map written_frame (timed_frame_of circuit ticks entry) in
    at_drop_more (λ (l : List Entry). flat_map written_frame (frames_left circuit ticks l)) trace index entry within
    ∙ (ap (λ (e : Entry). flat_map written_frame (frames_left circuit ticks (e ∷ rest))) (sym is)
    ∙ (flat_map-append written_frame (timed_frame_of circuit ticks entry) (frames_left circuit (ticks_after entry ticks) rest)
    ∙ ap (λ (n : ℕ). front ++ flat_map written_frame (frames_left circuit n rest)) (sym told)))
