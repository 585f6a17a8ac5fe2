-- Reading in pieces.
use Rattle.std.proofs.Common.{◌≡◌, ◌≤◌, ◌<◌, ◌+◌, ◌-◌, ◌++◌, ℕ, List, [], ◌∷◌, Option, Some, Result, Ok, Err, IfOk, IfErr, OnOk, IsErrOf, length, take, drop, refl, sym, ap, ◌∙◌, subst, arith, length-append, length-take}
use Rattle.std.proofs.Math.Seq.{take-add}
use Rattle.std.proofs.lemmas.List.{take_all, take-append-le}
use Rattle.net_base.specs.outside.Outside.{Agrees, ReadCall, ReadsFrom}
use Rattle.vplsnet.specs.declared.files.ReadStop.{ReadStop}
use Rattle.vplsnet.specs.declared.files.ReadStop.TheVariants.{TooLong}
use Rattle.vplsnet.specs.Around.{Files, OfFiles, gained}
use Rattle.vplsnet.specs.Files.{IsFrontOf, IsLonger}
use Rattle.vplsnet.specs.Reads.{GainsReads}
use Rattle.vplsnet.proofs.AgreeLemmas.{Held, Within, gained_is, within_first, within_second}

-- what was read so far is a front of what the file has
pub record IsRead (files : Files) (name octets : List ℕ) : Type 0 where
  pub front : (held : Held) → Agrees held files → (bytes : List ℕ) → held name ≡ Some bytes → (length octets ≤ length bytes) × (octets ≡ take (length octets) bytes)
  pub some : (held : Held) → Agrees held files → 0 < length octets → (bytes : List ℕ) × (held name ≡ Some bytes)

pub read_none : (files : Files) (name : List ℕ) → IsRead files name []
read_none files name = record { front = λ held e bytes h. (omega arith, refl); some = λ held e more. absurd (omega arith) }

joined : (octets piece bytes : List ℕ) (count : ℕ) → octets ≡ take (length octets) bytes → piece ≡ take count (drop (length octets) bytes) → length piece ≡ count → octets ++ piece
    ≡ take (length (octets ++ piece)) bytes
joined octets piece bytes count e1 e2 len =
    let sum : length (octets ++ piece) ≡ length octets + count = omega (arith, length-append octets piece, len) in
    let right : take (length (octets ++ piece)) bytes ≡ take (length octets) bytes ++ take count (drop (length octets) bytes) =
    ap (λ (k : ℕ). take k bytes) sum ∙ take-add (length octets) count bytes in
    let left : octets ++ piece ≡ take (length octets) bytes ++ take count (drop (length octets) bytes) = ap (λ (l : List ℕ). l ++ piece) e1 ∙ ap (λ (l : List ℕ). take (length octets) bytes ++ l) e2 in
    left ∙ sym right

read_more : (files now : Files) (name octets piece : List ℕ) (room : ℕ) → Within files now → IsRead files name octets
    → OfFiles now (λ held. ReadsFrom (held name) (length octets) room (length piece) piece) → IsRead now name (octets ++ piece)
read_more files now name octets piece room within so_far reads = record {
  front = λ held agrees bytes h.
      let read = reads held agrees in
      let whole : read.octets ≡ bytes = cc (read.held, h) in
      let there : length piece ≤ length bytes - length octets = omega (arith, read.within, ap length whole) in
      let had = so_far.front held (within held agrees) bytes h in
      let all : take (length piece) piece ≡ piece = take_all _ _ (omega arith) in
      let of_file : piece ≡ take (length piece) (drop (length octets) bytes) =
      sym all ∙ (read.front ∙ ap (λ (l : List ℕ). take (length piece) (drop (length octets) l)) whole) in
      (omega (arith, length-append octets piece, had.0, there), joined octets piece bytes (length piece) had.1 of_file refl);
  some = λ held agrees more. let read = reads held agrees in (read.octets, read.held);
}

-- a read by what it answered
answered : (files : Files) (name octets piece : List ℕ) (from room : ℕ) → from ≡ length octets
    → Within (record { name = name; from = from; room = room; answer = Some piece } ∷ []) files
    → OfFiles files (λ held. ReadsFrom (held name) (length octets) room (length piece) piece)
answered files name octets piece from room at last = λ held agrees.
    subst (λ (k : ℕ). ReadsFrom (held name) k room (length piece) piece) at (last held agrees).0

-- one more read
abbrev IsLast : List ReadCall → List ReadCall → ReadCall → Type 0
IsLast between after read = after ≡ between ++ read ∷ []

one_read : (between after : List ReadCall) (read : ReadCall) → IsLast between after read → GainsReads (λ it. Unit {0}) between after
one_read between after read is = record { gained = read ∷ []; joined = is; each = (tt, tt) }

last_read : (P : ReadCall → Type 0) (before between after : List ReadCall) (read : ReadCall) → GainsReads P before between → IsLast between after read → Within (read ∷ []) (gained before after)
last_read P before between after read so_far is = λ held agrees.
    subst (λ (l : List ReadCall). Agrees held l) (gained_is between after (read ∷ []) is)
    (within_second P (λ it. Unit {0}) before between after so_far (one_read between after read is) held agrees)

-- after a call that read into the front of a buffer
pub read_next : (P : ReadCall → Type 0) (before between after : List ReadCall) (name octets next buffer rest : List ℕ) (from room count : ℕ) → GainsReads P before between
    → after ≡ between ++ record { name = name; from = from; room = room; answer = Some (take count buffer) } ∷ [] → from ≡ length octets → IsRead (gained before between) name octets
    → count ≤ length buffer → next ≡ octets ++ take count (buffer ++ rest) → IsRead (gained before after) name next
read_next P before between after name octets next buffer rest from room count gains last at so_far fits is =
    let read : ReadCall = record { name = name; from = from; room = room; answer = Some (take count buffer) } in
    let more : IsRead (gained before after) name (octets ++ take count buffer) =
    read_more (gained before between) (gained before after) name octets (take count buffer) room
    (within_first P (λ it. Unit {0}) before between after gains (one_read between after read last)) so_far
    (answered (gained before after) name octets (take count buffer) from room at (last_read P before between after read gains last)) in
    let piece : next ≡ octets ++ take count buffer = is ∙ ap (λ (l : List ℕ). octets ++ l) (take-append-le count buffer rest fits) in
    subst (λ (l : List ℕ). IsRead (gained before after) name l) (sym piece) more

-- the file has no more than what was read, and that is within the limit
read_end : (P : ReadCall → Type 0) (before between after : List ReadCall) (name octets : List ℕ) (from room limit : ℕ) → GainsReads P before between
    → after ≡ between ++ record { name = name; from = from; room = room; answer = Some [] } ∷ [] → from ≡ length octets → IsRead (gained before between) name octets
    → 0 < room → length octets ≤ limit → OfFiles (gained before after) (λ held. IsFrontOf limit (held name) octets)
read_end P before between after name octets from room limit gains last at so_far some fits = λ held agrees.
    let read : ReadCall = record { name = name; from = from; room = room; answer = Some [] } in
    let it = answered (gained before after) name octets [] from room at (last_read P before between after read gains last) held agrees in
    let had = so_far.front held (within_first P (λ it. Unit {0}) before between after gains (one_read between after read last) held agrees) it.octets it.held in
    let ends : length it.octets ≤ length octets = it.ends some refl in
    let whole : take (length octets) it.octets ≡ it.octets = take_all _ _ ends in
    let more : take (limit + 1) it.octets ≡ it.octets = take_all _ _ (omega (arith, ends, fits)) in
    record { bytes = it.octets; held = it.held; front = had.1 ∙ (whole ∙ sym more) }

pub read_all : (P : ReadCall → Type 0) (before between after : List ReadCall) (name octets buffer : List ℕ) (from room count limit : ℕ) → GainsReads P before between
    → after ≡ between ++ record { name = name; from = from; room = room; answer = Some (take count buffer) } ∷ [] → count ≡ 0 → from ≡ length octets
    → IsRead (gained before between) name octets → 0 < room → length octets ≤ limit → OfFiles (gained before after) (λ held. IsFrontOf limit (held name) octets)
read_all P before between after name octets buffer from room count limit gains last none at so_far some fits =
    read_end P before between after name octets from room limit gains
    (subst (λ (k : ℕ). after ≡ between ++ record { name = name; from = from; room = room; answer = Some (take k buffer) } ∷ []) none last) at so_far some fits

-- one octet more than the limit was read
pub read_beyond : (files : Files) (name octets : List ℕ) (limit : ℕ) → IsRead files name octets → length octets ≡ limit + 1 → OfFiles files (λ held. IsFrontOf limit (held name) octets)
read_beyond files name octets limit so_far len = λ held agrees.
    let (bytes, is) = so_far.some held agrees (omega arith) in
    record { bytes = bytes; held = is; front = (so_far.front held agrees bytes is).1 ∙ ap (λ (k : ℕ). take k bytes) len }

-- where all that was read is within the limit, it is the whole file; where it is not, the file is longer
front_whole : (file : Option (List ℕ)) (octets : List ℕ) (limit : ℕ) → IsFrontOf limit file octets → length octets ≤ limit → file ≡ Some octets
front_whole file octets limit front fits =
    let len : length octets ≡ length (take (limit + 1) front.bytes) = ap length front.front in
    let whole : take (limit + 1) front.bytes ≡ front.bytes = take_all _ _ (omega (arith, len, length-take (limit + 1) front.bytes, fits)) in
    front.held ∙ ap Some (sym (front.front ∙ whole))

front_longer : (file : Option (List ℕ)) (octets : List ℕ) (limit : ℕ) → IsFrontOf limit file octets → limit < length octets → IsLonger limit file
front_longer file octets limit front long = record {
  bytes = front.bytes;
  held = front.held;
  longer = omega (arith, ap length front.front, length-take (limit + 1) front.bytes, long);
}

pub short_whole : (files : Files) (name octets : List ℕ) (limit : ℕ) (result : Result (List ℕ) ReadStop) → OfFiles files (λ held. IsFrontOf limit (held name) octets)
    → IfOk result (λ same. (same ≡ octets) × (length octets ≤ limit)) → OfFiles files (λ held. IfOk result (λ all. held name ≡ Some all))
short_whole files name octets limit (Ok same) front fits = λ held agrees. front_whole (held name) octets limit (front held agrees) fits.1 ∙ ap Some (sym fits.0)
short_whole files name octets limit (Err stop) front fits = λ held agrees. tt

pub too_long : (files : Files) (name octets : List ℕ) (limit : ℕ) (result : Result (List ℕ) ReadStop) → OfFiles files (λ held. IsFrontOf limit (held name) octets)
    → IfErr result (λ stop. (stop ≡ TooLong) × (limit < length octets)) → OfFiles files (λ held. IsErrOf result TooLong → IsLonger limit (held name))
too_long files name octets limit (Ok same) front long = λ held agrees is. absurd (cc (is))
too_long files name octets limit (Err stop) front long = λ held agrees is. front_longer (held name) octets limit (front held agrees) long.1

pub short_longer : (files : Files) (name octets : List ℕ) (limit : ℕ) (result : Result (List ℕ) ReadStop) → OfFiles files (λ held. IsFrontOf limit (held name) octets)
    → IfOk result (λ same. (same ≡ octets) × (length octets ≤ limit)) → OfFiles files (λ held. IsLonger limit (held name) → OnOk result ⊥)
short_longer files name octets limit (Ok same) front fits = λ held agrees longer.
    let both : Some octets ≡ Some longer.bytes = sym (front_whole (held name) octets limit (front held agrees) fits.1) ∙ longer.held in
    let is : octets ≡ longer.bytes = cc (both) in
    omega (arith, ap length is, longer.longer, fits.1)
short_longer files name octets limit (Err stop) front fits = λ held agrees longer. tt

-- where nothing was read, nothing is asked
pub none_longer : (files : Files) (name : List ℕ) (limit : ℕ) → OfFiles files (λ held. IsLonger limit (held name) → Unit {0})
none_longer files name limit = λ held agrees longer. tt
