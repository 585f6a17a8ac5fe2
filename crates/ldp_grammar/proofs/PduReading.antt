-- Octets spell a PDU, or have a first fault: one of the two can always be told.
use Rattle.std.proofs.Common.{◌≡◌, ◌≢◌, ◌≤◌, ◌<◌, ◌+◌, ◌%◌, ◌/◌, ◌++◌, ◌⊎◌, inl, inr, ℕ, zero, suc, List, [], ◌∷◌, Option, Some, None, length, take, drop, flat_map, refl, sym, ap, subst, ◌∙◌, append-nil, append_assoc, length-take, length-drop, arith}
use Rattle.std.specs.Prelude.{◌^◌}
use Rattle.std.proofs.lemmas.Bool.{cases_lt}
use Rattle.std.proofs.lemmas.Bool.Decides.{eqb_tells}
use Rattle.std.proofs.lemmas.List.{take-append-drop}
use Rattle.std.specs.List.{AllByRecursion}
use Rattle.ldp_grammar.specs.declared.fault.Fault.{Fault}
use Rattle.ldp_grammar.specs.declared.cause.Cause.{Cause}
use Rattle.ldp_grammar.specs.declared.cause.Cause.TheVariants as cause
use Rattle.ldp_grammar.specs.declared.message.Message.{Message}
use Rattle.ldp_grammar.specs.declared.message.Message.TheVariants as message
use Rattle.ldp_grammar.specs.declared.message_kind.MessageKind.{MessageKind}
use Rattle.ldp_grammar.specs.Octets.{two, two_at, bit}
use Rattle.ldp_grammar.specs.Rows.{kind_of, row_of}
use Rattle.ldp_grammar.specs.Spells.{Spelling, spell_message, IsSpelling, StandsAs, StandsFor, StandInOrder, IsFramed}
use Rattle.ldp_grammar.specs.FirstFault.{IsFirst, IsFirstMessageFault, NamesMessages, IsMiscounted, HeaderFault, IsInMessages, Precedes, FirstFault, moved}
use Rattle.ldp_grammar.specs.Reading.{Reading, spelled, refused, EachIsRead}
use Rattle.ldp_grammar.proofs.OctetLemmas.{AreOctets, octets_drop}
use Rattle.ldp_grammar.proofs.ItemLemmas.{items_more}
use Rattle.ldp_grammar.proofs.MessageLemmas.{octets_of, cut_message, fault_within, first_of_messages, stand_more, spelled_more}
use Rattle.ldp_grammar.proofs.PduLemmas.{length_of, count_of, first_inside}
use Rattle.ldp_grammar.proofs.FrontLemmas.{cut, message, message_front, numbers_read, two_below}
use Rattle.ldp_grammar.proofs.ReadingLemmas.{faultless, first_fault, tlvs_reading}
use Rattle.ldp_grammar.proofs.TellingLemmas.{read_as}

-- what stands behind some messages comes to
data MessageHere (before : List Spelling) (rest : List ℕ) : Type 0 where
  taken : (s : Spelling) (more : List ℕ) → rest ≡ spell_message s ++ more → IsSpelling s → AreOctets more → (m : Message) → StandsFor s m → MessageHere before rest
  wrong : (f : Fault) → IsFirstMessageFault before rest f → MessageHere before rest

-- a message of a known type, or of another one
message_of : (before : List Spelling) (rest more : List ℕ) (s : Spelling) → rest ≡ spell_message s ++ more → IsSpelling s → AreOctets s.body → AreOctets more → (o : Option MessageKind)
    → kind_of (s.word % 2 ^ 15) ≡ o → MessageHere before rest
message_of before rest more s e is body_octets more_octets None known =
    let m = message.Other s.id (bit 15 s.word) (s.word % 2 ^ 15) in
    taken s more e is more_octets m (subst (λ (o : Option MessageKind). StandsAs o s (message.Other s.id (bit 15 s.word) (s.word % 2 ^ 15))) (sym known) refl)
message_of before rest more s e is body_octets more_octets (Some kind) known = elim (tlvs_reading (row_of kind) s.body body_octets) [
  | faultless tlvs joined clean ↦
      let m = read_as kind s.id s.body tlvs joined clean in
      taken s more e is more_octets m.message (subst (λ (o : Option MessageKind). StandsAs o s m.message) (sym known) m.is)
  | first_fault fault first near ↦ wrong (moved 8 fault) (fault_within before rest more s kind fault is e known first near)
]

message_here : (before : List Spelling) (rest : List ℕ) → AreOctets rest → 0 < length rest → MessageHere before rest
message_here before rest octets some = elim (message_front rest octets some) [
  | cut place cuts near ↦ wrong (record { place = place; cause = cause.MessageLength }) (cut_message before rest place cuts)
  | message s more e is body_octets more_octets ↦ message_of before rest more s e is body_octets more_octets (kind_of (s.word % 2 ^ 15)) refl
]

-- What the octets of messages come to: messages that stand for something, or the first fault.
pub data MessagesReading (body : List ℕ) : Type 0 where
  read : (ss : List Spelling) (ms : List Message) → body ≡ flat_map spell_message ss → AllByRecursion IsSpelling ss → StandInOrder ss ms → MessagesReading body
  faulty : (f : Fault) → IsFirst (NamesMessages body) f → MessagesReading body

message_split : (body rest more : List ℕ) (ss : List Spelling) (s : Spelling) → body ≡ flat_map spell_message ss ++ rest → rest ≡ spell_message s ++ more → body
    ≡ flat_map spell_message (ss ++ s ∷ []) ++ more
message_split body rest more ss s split e =
    split ∙ (ap (λ (l : List ℕ). flat_map spell_message ss ++ l) e ∙ (sym (append_assoc (flat_map spell_message ss) (spell_message s) more)
    ∙ ap (λ (l : List ℕ). l ++ more) (spelled_more (flat_map spell_message ss) (flat_map spell_message ss ++ spell_message s) ss s refl refl)))

messages_from : (fuel : ℕ) (body rest : List ℕ) (ss : List Spelling) (ms : List Message) → AreOctets rest → length rest ≤ fuel → body ≡ flat_map spell_message ss ++ rest
    → AllByRecursion IsSpelling ss → StandInOrder ss ms → MessagesReading body
messages_from fuel body [] ss ms octets few split items stand = read ss ms (split ∙ append-nil (flat_map spell_message ss)) items stand
messages_from zero body (x ∷ rest) ss ms octets few split items stand = absurd (omega arith)
messages_from (suc fuel) body (x ∷ rest) ss ms octets few split items stand = elim (message_here ss (x ∷ rest) octets (omega arith)) [
  | taken s more e is more_octets m stands ↦
      messages_from fuel body more (ss ++ s ∷ []) (ms ++ m ∷ []) more_octets (omega (arith, octets_of s more, ap length e, few)) (message_split body (x ∷ rest) more ss s split e)
      (items_more IsSpelling ss s items is) (stand_more ss ms s m stand stands)
  | wrong fault first ↦
      faulty (moved (length (flat_map spell_message ss)) fault)
      (first_of_messages body (flat_map spell_message ss) (x ∷ rest) ss ms (length (flat_map spell_message ss)) fault split refl refl items stand first)
]

-- the octets of messages stand for something, or have a first fault
pub messages_reading : (body : List ℕ) → AreOctets body → MessagesReading body
messages_reading body octets = messages_from (length body) body body [] [] octets (omega arith) refl tt tt

-- another version is the first fault
version_header : (bytes : List ℕ) (max : ℕ) → (c : Cause) (place : ℕ) → HeaderFault bytes max c place → Precedes (record { place = 0; cause = cause.Version }) (record { place = place; cause = c })
version_header bytes max cause.Version place names = inr (sym names.0, omega arith)
version_header bytes max cause.PduLength place names = inl (omega (arith, names.0))
version_header bytes max cause.MessageLength place names = absurd names
version_header bytes max cause.TlvLength place names = absurd names
version_header bytes max (cause.TlvValue field) place names = absurd names
version_header bytes max (cause.Repeated field) place names = absurd names

version_before : (bytes : List ℕ) (max : ℕ) → (two_at 0 bytes ≢ 1) → (g : Fault) → HeaderFault bytes max g.cause g.place ⊎ IsInMessages bytes max g
    → Precedes (record { place = 0; cause = cause.Version }) g
version_before bytes max other g (inl names) = version_header bytes max g.cause g.place names
version_before bytes max other g (inr w) = absurd (other (ap (two_at 0) w.framed.split))

version_first : (bytes : List ℕ) (max : ℕ) → 2 ≤ length bytes → (two_at 0 bytes ≢ 1) → FirstFault bytes max (record { place = 0; cause = cause.Version })
version_first bytes max some other = record {
  named = inl (refl, some, other);
  first = λ g names. version_before bytes max other g names;
}

-- a PDU Length that does not count is the first fault behind version 1
miscounted_framed : (bytes sender body : List ℕ) (max : ℕ) → max ≤ 4096 → IsFramed bytes max sender body → IsMiscounted bytes max → ⊥
miscounted_framed bytes sender body max small f (inl few) = omega (arith, few, count_of bytes sender body max f)
miscounted_framed bytes sender body max small f (inr (inl less)) = omega (arith, less, length_of bytes sender body max small f, f.least)
miscounted_framed bytes sender body max small f (inr (inr (inl more))) = omega (arith, more, length_of bytes sender body max small f, f.most)
miscounted_framed bytes sender body max small f (inr (inr (inr differs))) = differs (omega (arith, count_of bytes sender body max f, length_of bytes sender body max small f))

count_header : (bytes : List ℕ) (max : ℕ) → (2 ≤ length bytes → two_at 0 bytes ≡ 1) → (c : Cause) (place : ℕ) → HeaderFault bytes max c place
    → Precedes (record { place = 2; cause = cause.PduLength }) (record { place = place; cause = c })
count_header bytes max version cause.Version place names = absurd (names.2 (version names.1))
count_header bytes max version cause.PduLength place names = inr (sym names.0, omega arith)
count_header bytes max version cause.MessageLength place names = absurd names
count_header bytes max version cause.TlvLength place names = absurd names
count_header bytes max version (cause.TlvValue field) place names = absurd names
count_header bytes max version (cause.Repeated field) place names = absurd names

count_before : (bytes : List ℕ) (max : ℕ) → max ≤ 4096 → (2 ≤ length bytes → two_at 0 bytes ≡ 1) → IsMiscounted bytes max → (g : Fault) → HeaderFault bytes max g.cause g.place
    ⊎ IsInMessages bytes max g → Precedes (record { place = 2; cause = cause.PduLength }) g
count_before bytes max small version miscounted g (inl names) = count_header bytes max version g.cause g.place names
count_before bytes max small version miscounted g (inr w) = absurd (miscounted_framed bytes w.sender w.body max small w.framed miscounted)

count_first : (bytes : List ℕ) (max : ℕ) → max ≤ 4096 → (2 ≤ length bytes → two_at 0 bytes ≡ 1) → IsMiscounted bytes max → FirstFault bytes max (record { place = 2; cause = cause.PduLength })
count_first bytes max small version miscounted = record {
  named = inl (refl, miscounted);
  first = λ g names. count_before bytes max small version miscounted g names;
}

-- the header of a PDU whose PDU Length counts
sender_of : (xs : List ℕ) → AreOctets xs → 6 ≤ length xs → take 4 xs ++ two (two_at 4 xs) ≡ take 6 xs
sender_of [] octets long = absurd (omega arith)
sender_of (a ∷ []) octets long = absurd (omega arith)
sender_of (a ∷ b ∷ []) octets long = absurd (omega arith)
sender_of (a ∷ b ∷ c ∷ []) octets long = absurd (omega arith)
sender_of (a ∷ b ∷ c ∷ d ∷ []) octets long = absurd (omega arith)
sender_of (a ∷ b ∷ c ∷ d ∷ e ∷ []) octets long = absurd (omega arith)
sender_of (a ∷ b ∷ c ∷ d ∷ e ∷ f ∷ xs) octets long =
    let high : two_at 4 (a ∷ b ∷ c ∷ d ∷ e ∷ f ∷ xs) / 256 % 256 ≡ e = omega (arith, octets 4, octets 5) in
    let low : two_at 4 (a ∷ b ∷ c ∷ d ∷ e ∷ f ∷ xs) % 256 ≡ f = omega (arith, octets 4, octets 5) in
    λ i. a ∷ b ∷ c ∷ d ∷ high i ∷ low i ∷ []

ten : (xs : List ℕ) → drop 6 (drop 4 xs) ≡ drop 10 xs
ten [] = refl
ten (a ∷ []) = refl
ten (a ∷ b ∷ []) = refl
ten (a ∷ b ∷ c ∷ []) = refl
ten (a ∷ b ∷ c ∷ d ∷ xs) = refl

record IsCounted (bytes : List ℕ) (max : ℕ) : Type 0 where
  least : 14 ≤ two_at 2 bytes
  most : two_at 2 bytes ≤ max
  count : length bytes ≡ 4 + two_at 2 bytes

framed_by : (bytes : List ℕ) (max : ℕ) → AreOctets bytes → two_at 0 bytes ≡ 1 → IsCounted bytes max → IsFramed bytes max (take 4 (drop 4 bytes) ++ two (two_at 4 (drop 4 bytes))) (drop 10 bytes)
framed_by bytes max octets version counted =
    let long : 18 ≤ length bytes = omega (arith, counted.least, counted.count) in
    let behind : AreOctets (drop 4 bytes) = octets_drop 4 bytes octets in
    let sender : take 4 (drop 4 bytes) ++ two (two_at 4 (drop 4 bytes)) ≡ take 6 (drop 4 bytes) = sender_of (drop 4 bytes) behind (omega (arith, length-drop 4 bytes, long)) in
    let size : two_at 2 bytes ≡ 6 + length (drop 10 bytes) = omega (arith, counted.count, length-drop 10 bytes, long) in
    let first : two 1 ≡ two (two_at 0 bytes) = ap two (sym version) in
    let second : two (6 + length (drop 10 bytes)) ≡ two (two_at 2 bytes) = ap two (sym size) in
    let rest : (take 4 (drop 4 bytes) ++ two (two_at 4 (drop 4 bytes))) ++ drop 10 bytes ≡ drop 4 bytes = (λ i. sender i ++ sym (ten bytes) i) ∙ take-append-drop 6 (drop 4 bytes) in
    record {
      split = sym ((λ i. first i ++ (second i ++ rest i)) ∙ numbers_read bytes octets (omega (arith, long)));
      identifier = ap length sender ∙ omega (arith, length-take 6 (drop 4 bytes), length-drop 4 bytes, long);
      least = omega (arith, size, counted.least);
      most = omega (arith, size, counted.most);
    }

-- a right header stands in front
counted_reading : (bytes : List ℕ) (max : ℕ) → AreOctets bytes → max ≤ 4096 → two_at 0 bytes ≡ 1 → IsCounted bytes max → Reading bytes max
counted_reading bytes max octets small version counted =
    let framed = framed_by bytes max octets version counted in
    let sender : List ℕ = take 4 (drop 4 bytes) ++ two (two_at 4 (drop 4 bytes)) in
    elim (messages_reading (drop 10 bytes) (octets_drop 10 bytes octets)) [
      | faulty fault first ↦ refused (moved 10 fault) (first_inside bytes (take 4 (drop 4 bytes) ++ two (two_at 4 (drop 4 bytes))) (drop 10 bytes) max fault small framed first)
      | read ss ms e items stand ↦
          spelled (record { id = record { router = record { 0 = take 4 (drop 4 bytes) }; space = two_at 4 (drop 4 bytes) }; messages = ms }) (record {
            spellings = ss;
            framed = subst (λ (l : List ℕ). IsFramed bytes max (take 4 (drop 4 bytes) ++ two (two_at 4 (drop 4 bytes))) l) e framed;
            router = omega (arith, length-take 4 (drop 4 bytes), length-drop 4 bytes, counted.least, counted.count);
            space = two_below (drop 4 (drop 4 bytes)) (octets_drop 4 (drop 4 bytes) (octets_drop 4 bytes octets));
            fit = items;
            stand = stand;
          })
    ]

-- version 1, or too few octets for a version
headed_reading : (bytes : List ℕ) (max : ℕ) → AreOctets bytes → max ≤ 4096 → (2 ≤ length bytes → two_at 0 bytes ≡ 1) → Reading bytes max
headed_reading bytes max octets small version =
    let bad : IsMiscounted bytes max → Reading bytes max = λ miscounted. refused (record { place = 2; cause = cause.PduLength }) (count_first bytes max small version miscounted) in
    elim (cases_lt (length bytes) 4) [
      | inl few ↦ bad (inl few)
      | inr long ↦ elim (cases_lt (two_at 2 bytes) 14) [
        | inl less ↦ bad (inr (inl less))
        | inr least ↦ elim (cases_lt max (two_at 2 bytes)) [
          | inl more ↦ bad (inr (inr (inl more)))
          | inr most ↦ elim (eqb_tells (length bytes) (4 + two_at 2 bytes)) [
            | inr differs ↦ bad (inr (inr (inr differs.1)))
            | inl same ↦ counted_reading bytes max octets small (version (omega (arith, long))) (record { least = least; most = most; count = same.1 })
          ]
        ]
      ]
    ]

-- octets spell a PDU, or have a first fault
pub pdu_reading : (bytes : List ℕ) (max : ℕ) → AreOctets bytes → max ≤ 4096 → Reading bytes max
pdu_reading bytes max octets small = elim (cases_lt (length bytes) 2) [
  | inl few ↦ headed_reading bytes max octets small (λ some. absurd (omega (arith, few, some)))
  | inr some ↦ elim (eqb_tells (two_at 0 bytes) 1) [
    | inr other ↦ refused (record { place = 0; cause = cause.Version }) (version_first bytes max some other.1)
    | inl own ↦ headed_reading bytes max octets small (λ more. own.1)
  ]
]

-- so it is for all octets
pub each_is_read : EachIsRead
each_is_read = record { reading = pdu_reading }
