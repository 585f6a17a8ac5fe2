-- Names, numbers and octets in hexadecimal are text, and so are commands.
use Rattle.std.proofs.Common.{◌≡◌, ◌<◌, ◌++◌, ◌∙◌, ◌^◌, ℕ, zero, suc, List, [], ◌∷◌, length, map, codes, nat_le, refl, sym, ap, append-nil, arith}
use Rattle.std.proofs.lemmas.Bool.{and_parts}
use Rattle.std.proofs.lemmas.Bool.Decides.{nat_tests}
use Rattle.std.proofs.lemmas.Str.{IsUtf8-from_ascii, IsUtf8-append, IsUtf8-nil}
use Rattle.std.specs.Fmt.{decimal}
use Rattle.std.specs.List.{AllByRecursion, list_all}
use Rattle.std.specs.Str.{IsAscii, IsUtf8}
use Rattle.net_values.specs.Name.{IsName}
use Rattle.net_base.specs.declared.plan.Plan.{Plan}
use Rattle.net_base.specs.declared.plan.places.CircuitId.{CircuitId}
use Rattle.net_base.specs.declared.trace.event.Event.{Event}
use Rattle.net_base.specs.plan.Planned.{IsEventOf}
use Rattle.line_shapes.specs.Words.{circuit_name}
use Rattle.event_rows.specs.Rows.{event_words}
use Rattle.plan_names.specs.Planned.{HasNames}
use Rattle.event_laws.specs.Law.{IsEventInRange}
use Rattle.event_laws.proofs.EventLemmas.{event_graphic, named_of}
use Rattle.event_laws.proofs.ValueLemmas.{AreGraphic, IsGraphic, decimal_graphic, name_is_graphic, row_graphic}
use Rattle.script_text.specs.Script.{is_graphic, space, spaced_words}
use Rattle.text_lines.specs.declared.line_word.LineWord.{LineWord}
use Rattle.text_lines.specs.Lines.{word_octets}
use Rattle.text_pieces.specs.Pieces.{spaced}

-- the first word, and a blank before each other one
joined_spaced : (word : List ℕ) (words : List (List ℕ)) → spaced_words (word ∷ words) ≡ word ++ spaced words
joined_spaced word [] = sym (append-nil word)
joined_spaced word (next ∷ words) = ap (λ (rest : List ℕ). word ++ space ∷ rest) (joined_spaced next words)

-- words as they are put
pub joined_first : (text : List ℕ) (all : List LineWord) (first : LineWord) (rest : List LineWord) → all ≡ first ∷ rest → text ≡ word_octets first ++ spaced (map word_octets rest)
    → text ≡ spaced_words (map word_octets all)
joined_first text all first rest split is =
    is ∙ sym (joined_spaced (word_octets first) (map word_octets rest)) ∙ ap (λ (words : List LineWord). spaced_words (map word_octets words)) (sym split)

pub joined_none : (all : List LineWord) → length all ≡ 0 → [] ≡ spaced_words (map word_octets all)
joined_none [] none = refl
joined_none (word ∷ words) none = absurd (omega (arith, none))

-- graphic octets are text
ascii_of : (octets : List ℕ) → IsGraphic octets → IsAscii octets
ascii_of [] all i = omega arith
ascii_of (octet ∷ octets) all zero =
    let below = (and_parts (nat_le 33 octet) (nat_le octet 126) (and_parts (is_graphic octet) (list_all is_graphic octets) all).0).1 in
    grind (arith, nat_tests, below)
ascii_of (octet ∷ octets) all (suc i) = ascii_of octets (and_parts (is_graphic octet) (list_all is_graphic octets) all).1 i

is_text : (octets : List ℕ) → IsGraphic octets → IsUtf8 octets
is_text octets all = IsUtf8-from_ascii octets (ascii_of octets all)

pub name_is_text : (name : List ℕ) → IsName name → IsUtf8 name
name_is_text name is = is_text name (name_is_graphic name is)

-- words
abbrev AreTexts : List (List ℕ) → Type 0
AreTexts words = AllByRecursion IsUtf8 words

are_texts : (words : List (List ℕ)) → AreGraphic words → AreTexts words
are_texts [] all = tt
are_texts (word ∷ words) all = (is_text word all.0, are_texts words all.1)

space_ascii : IsAscii (codes " ")
space_ascii zero = omega arith
space_ascii (suc i) = omega arith

words_are_text : (words : List (List ℕ)) → AreTexts words → IsUtf8 (spaced_words words)
words_are_text [] are = IsUtf8-nil
words_are_text (word ∷ []) are = are.0
words_are_text (word ∷ next ∷ words) are =
    IsUtf8-append word (space ∷ spaced_words (next ∷ words)) are.0
    (IsUtf8-append (codes " ") (spaced_words (next ∷ words)) (IsUtf8-from_ascii (codes " ") space_ascii) (words_are_text (next ∷ words) are.1))

graphic_text : (words : List (List ℕ)) → AreGraphic words → IsUtf8 (spaced_words words)
graphic_text words all = words_are_text words (are_texts words all)

-- the text of an event
pub event_is_text : (plan : Plan) (event : Event) → HasNames plan → IsEventOf plan event → IsEventInRange event → IsUtf8 (spaced_words (event_words plan event))
event_is_text plan event names of in_ = graphic_text (event_words plan event) (event_graphic plan event names (named_of plan event of in_))

-- the texts of the other commands
pub settle_is_text : (count : ℕ) → count < 2 ^ 32 → IsUtf8 (spaced_words (codes "settle" ∷ decimal count ∷ []))
settle_is_text count lt = graphic_text (codes "settle" ∷ decimal count ∷ []) (refl, (decimal_graphic count (omega (arith, lt)), tt))

pub flow_is_text : (count : ℕ) → count < 2 ^ 32 → IsUtf8 (spaced_words (codes "flow" ∷ decimal count ∷ []))
flow_is_text count lt = graphic_text (codes "flow" ∷ decimal count ∷ []) (refl, (decimal_graphic count (omega (arith, lt)), tt))

pub ticks_are_text : (count : ℕ) → count < 2 ^ 32 → IsUtf8 (spaced_words (codes "tick" ∷ decimal count ∷ []))
ticks_are_text count lt = graphic_text (codes "tick" ∷ decimal count ∷ []) (refl, (decimal_graphic count (omega (arith, lt)), tt))

pub play_is_text : (plan : Plan) (circuit : CircuitId) (file : List ℕ) → HasNames plan → circuit.0 < length plan.circuits → IsUtf8 file
    → IsUtf8 (spaced_words (codes "play" ∷ circuit_name plan circuit ∷ file ∷ []))
play_is_text plan circuit file names lt is =
    words_are_text (codes "play" ∷ circuit_name plan circuit ∷ file ∷ []) (is_text (codes "play") refl, (is_text (circuit_name plan circuit) (row_graphic (λ row. row.name) plan.circuits circuit.0 names.circuits lt), (is, tt)))

pub ruleset texts = (event_is_text, settle_is_text, flow_is_text, ticks_are_text, play_is_text)
