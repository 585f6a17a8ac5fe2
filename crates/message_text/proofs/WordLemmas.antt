-- Words with a blank before each, joined.
use Rattle.std.proofs.Common.{suc, zero, ◌≡◌, ◌≢◌, ◌<◌, ◌≤◌, ◌+◌, ◌++◌, ℕ, List, [], ◌∷◌, Some, drop, get_or, refl, ap, sym, ◌∙◌, length, append_assoc, arith}
use Rattle.std.specs.Prelude.{codes, slice_get, Bool, true, false}
use Rattle.std.specs.Int.{from_bool}
use Rattle.std.specs.Fmt.{decimal}
use Rattle.std.proofs.lemmas.Fmt.{decimal_digit}
use Rattle.std.proofs.lemmas.List.{append-nil, at_drop_more, drop_all}
use Rattle.ldp_grammar.specs.declared.message.Message.{Message}
use Rattle.ldp_grammar.specs.declared.message.Message.TheVariants as message
use Rattle.pw_tlvs.specs.declared.point.Point.{Point}
use Rattle.pw_tlvs.proofs.CommonLemmas.{same_point}
use Rattle.text_pieces.specs.Pieces.{hex, spaced}
use Rattle.message_text.specs.Words.{description_words, flag, opening, parted, point_word, point_words}

-- the words from a place on are the one there and those behind it
pub points_from : (points : List Point) (index : ℕ) (point : Point) → slice_get points index ≡ Some point
    → spaced (point_words (drop index points)) ≡ (codes " " ++ point_word point) ++ spaced (point_words (drop (index + 1) points))
points_from [] index point is = absurd (cc)
points_from (first ∷ points) zero point is =
    ap (λ (p : Point). (codes " " ++ point_word p) ++ spaced (point_words points)) (same_point (Some first) first point refl is)
points_from (first ∷ points) (suc index) point is =
    let next : suc (index + 1) ≡ suc index + 1 = omega arith in
    points_from points index point is ∙ ap (λ (k : ℕ). (codes " " ++ point_word point) ++ spaced (point_words (drop k (first ∷ points)))) next

-- a description that is not empty is one word
pub description_told : (octets : List ℕ) → length octets ≢ 0 → spaced (description_words octets) ≡ codes " description=" ++ hex octets
description_told [] some = absurd (some refl)
description_told (octet ∷ octets) some = append-nil (codes " description=" ++ hex (octet ∷ octets))

-- a bit is told by its number
pub bit_digit : (set : Bool) → decimal (from_bool set) ≡ flag set
bit_digit true = decimal_digit 1 (omega arith)
bit_digit false = decimal_digit 0 (omega arith)

-- a second part is told behind a slash
pub pair_told : (old one two new name first second : List ℕ) → one ≡ old ++ spaced ((name ++ first) ∷ []) → two ≡ one ++ codes "/" → new ≡ two ++ second
    → new ≡ old ++ spaced ((name ++ parted (codes "/") (first ∷ second ∷ [])) ∷ [])
pair_told old one two new name first second begun marked told = simp (told, marked, begun, append_assoc, append-nil)

-- a name is told behind a blank, and its value behind it
pub value_told : (old middle new name value : List ℕ) → middle ≡ old ++ (codes " " ++ name) → new ≡ middle ++ value → new ≡ old ++ spaced ((name ++ value) ∷ [])
value_told old middle new name value begun told = simp (told, begun, append_assoc, append-nil)

-- a name with what stands around it, a number and the words behind it are the words one after another
opening_told : (name id parts : List ℕ) → ((codes " " ++ name) ++ codes " id=") ++ (id ++ parts) ≡ (codes " " ++ name) ++ ((codes " " ++ (codes "id=" ++ id)) ++ parts)
opening_told name id parts = append_assoc (codes " " ++ name) (codes " id=") (id ++ parts)

three_told : (old one two new a b c : List ℕ) → one ≡ old ++ a → two ≡ one ++ b → new ≡ two ++ c → new ≡ old ++ ((a ++ b) ++ c)
three_told old one two new a b c first second third = simp (third, second, first, append_assoc)

-- a line is told from its place to its end
pub line_told : (old one two new place name id parts : List ℕ) → one ≡ old ++ (place ++ (((codes " " ++ name) ++ codes " id=") ++ id)) → two ≡ one ++ parts → new ≡ two ++ codes "\n"
    → new ≡ old ++ ((place ++ ((codes " " ++ name) ++ ((codes " " ++ (codes "id=" ++ id)) ++ parts))) ++ codes "\n")
line_told old one two new place name id parts opened told ends =
    let opening : List ℕ = (codes " " ++ name) ++ codes " id=" in
    let words : (place ++ (opening ++ id)) ++ parts ≡ place ++ ((codes " " ++ name) ++ ((codes " " ++ (codes "id=" ++ id)) ++ parts)) =
    append_assoc place (opening ++ id) parts ∙ ap (λ (l : List ℕ). place ++ l) (append_assoc opening id parts ∙ opening_told name id parts) in
    three_told old one two new (place ++ (opening ++ id)) parts (codes "\n") opened told ends ∙ ap (λ (l : List ℕ). old ++ (l ++ codes "\n")) words

-- what stands around the name of a message is short
pub opening_short : (m : Message) → length (opening m) ≤ 20
opening_short (message.Notification id status pw_status fec) = omega arith
opening_short (message.Hello id hold targeted request transport) = omega arith
opening_short (message.Initialization id params) = omega arith
opening_short (message.KeepAlive id) = omega arith
opening_short (message.Address id family octets) = omega arith
opening_short (message.AddressWithdraw id addresses fec macs) = omega arith
opening_short (message.LabelMapping id fec label pw_status points) = omega arith
opening_short (message.LabelRequest id fec) = omega arith
opening_short (message.LabelWithdraw id fec label) = omega arith
opening_short (message.LabelRelease id fec label) = omega arith
opening_short (message.LabelAbort id fec request) = omega arith
opening_short (message.Other id u kind) = omega arith
opening_short (message.Unprocessed id kind why) = omega arith

-- one more item of a list is told, and those behind it are left
pub next_told : {X : Type 0} (told : List X → List ℕ) (item : X → List ℕ) → ((x : X) (xs : List X) → told (x ∷ xs) ≡ item x ++ told xs)
    → (xs : List X) (index : ℕ) (other : X) (old new whole : List ℕ) → index < length xs → new ≡ old ++ item (get_or xs index other)
    → old ++ told (drop index xs) ≡ whole → new ++ told (drop (index + 1) xs) ≡ whole
next_told told item step xs index other old new whole within adds before =
    let x = get_or xs index other in
    let rest = drop (index + 1) xs in
    (ap (λ (text : List ℕ). text ++ told rest) adds ∙ append_assoc old (item x) (told rest))
    ∙ (ap (λ (back : List ℕ). old ++ back) (sym (at_drop_more told xs index other within ∙ step x rest)) ∙ before)

-- where no item of a list is left, all are told
pub all_told : {X : Type 0} (told : List X → List ℕ) → told [] ≡ [] → (xs : List X) (index : ℕ) (now whole : List ℕ) → length xs ≤ index
    → now ++ told (drop index xs) ≡ whole → now ≡ whole
all_told told none xs index now whole end before =
    (sym (append-nil now) ∙ ap (λ (back : List ℕ). now ++ back) (sym (ap told (drop_all index xs end) ∙ none))) ∙ before
