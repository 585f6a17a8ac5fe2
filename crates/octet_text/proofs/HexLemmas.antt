-- One more pair of digits, and digits that are no pairs.
use Rattle.std.proofs.Common.{◌≡◌, ◌<◌, ◌≤◌, ◌+◌, ◌-◌, ◌*◌, ◌%◌, ◌&&◌, ◌++◌, ◌∙◌, ℕ, Bool, true, false, List, [], ◌∷◌, length, slice_index, slice_set, take, drop, Option, Some, None, nat_lt, option_and_then, option_map, if◌then◌else◌, refl, ap, sym, arith, append_assoc}
use Rattle.std.proofs.Common.{length-drop, take-append-drop}
use Rattle.std.proofs.lemmas.List.{append-nil, drop_more, drop_all, drop-drop, length-take-le, take_all, take_more_set}
use Rattle.std.proofs.lemmas.Bool.{false_from_ne_true, lt-ltb}
use Rattle.std.proofs.lemmas.Grind.{or_after_shift}
use Rattle.std.proofs.lemmas.Nat.{le_or_l, le_or_r, or_lt}
use Rattle.std.specs.Int.Bits.{bit_or}
use Rattle.std.proofs.lemmas.Bool.Decides.{nat_tests}
use Rattle.octet_text.specs.Hex.{digit_value, pair_value, part, unhex}

pub below : (octet value : ℕ) → digit_value octet ≡ Some value → value < 16
below octet value e = grind (arith, nat_tests)

below_both : (a b : ℕ) → bit_or a b < 256 → (a < 256) × (b < 256)
below_both a b less = (omega (arith, less, le_or_l a b), omega (arith, less, le_or_r a b))

over : (n : ℕ) → nat_lt n 256 ≡ false → ¬ (n < 256)
over n e less = absurd (cc (sym e ∙ lt-ltb n 256 less))

under : (n : ℕ) → nat_lt n 256 ≡ true → n < 256
under n e = grind (arith, nat_tests)

-- joined octets are below 256 exactly where both are
pub joined_below : (a b : ℕ) → nat_lt (bit_or a b) 256 ≡ (nat_lt a 256 && nat_lt b 256)
joined_below a b = go (nat_lt a 256) (nat_lt b 256) refl refl
  where
    go : (p q : Bool) → nat_lt a 256 ≡ p → nat_lt b 256 ≡ q → nat_lt (bit_or a b) 256 ≡ (p && q)
    go true true x y = lt-ltb (bit_or a b) 256 (or_lt 8 a b (under a x) (under b y))
    go true false x y = false_from_ne_true (nat_lt (bit_or a b) 256) (λ h. over b y (below_both a b (under (bit_or a b) h)).1)
    go false q x y = false_from_ne_true (nat_lt (bit_or a b) 256) (λ h. over a x (below_both a b (under (bit_or a b) h)).0)

-- what two digits add is the octet of both
of_parts : (x y : Option ℕ) → ((value : ℕ) → x ≡ Some value → value < 16) → ((value : ℕ) → y ≡ Some value → value < 16)
    → option_and_then (λ high. option_map (λ low. high * 16 + low) y) x
    ≡ (if nat_lt (bit_or (part x * 16) (part y)) 256 then Some (bit_or (part x * 16) (part y) % 256) else None)
of_parts None y first second = rw (joined_below 4096 (part y)) refl
of_parts (Some high) None first second = rw (joined_below (high * 16) 256, lt-ltb (high * 16) 256 (let less = first high refl in omega arith)) refl
of_parts (Some high) (Some low) first second =
    let h = first high refl in
    let l = second low refl in
    let whole : high * 16 % 65536 ≡ high * 16 = omega arith in
    let both : bit_or (high * 16) low ≡ high * 16 + low = ap (λ (n : ℕ). bit_or n low) (sym whole) ∙ or_after_shift high 16 65536 low refl l (omega arith) in
    let less : high * 16 + low < 256 = omega arith in
    let same : (high * 16 + low) % 256 ≡ high * 16 + low = omega arith in
    rw (both, lt-ltb (high * 16 + low) 256 less, same) refl

pub octet_of_two : (a b high low : ℕ) → high ≡ part (digit_value a) → low ≡ part (digit_value b)
    → pair_value a b ≡ (if nat_lt (bit_or (high * 16) low) 256 then Some (bit_or (high * 16) low % 256) else None)
octet_of_two a b high low first second = rw (first, second) (of_parts (digit_value a) (digit_value b) (below a) (below b))

-- the octets behind those of a front, where all of the front are digits
abbrev pub behind : Option (List ℕ) → Option (List ℕ) → Option (List ℕ)
behind front back = option_and_then (λ xs. option_map (λ ys. xs ++ ys) back) front

behind_more : (x : Option ℕ) (front back : Option (List ℕ))
    → option_and_then (λ octet. option_map (λ octets. octet ∷ octets) (behind front back)) x ≡ behind (option_and_then (λ octet. option_map (λ octets. octet ∷ octets) front) x) back
behind_more None front back = refl
behind_more (Some octet) None back = refl
behind_more (Some octet) (Some xs) None = refl
behind_more (Some octet) (Some xs) (Some ys) = refl

same_behind : (read : Option (List ℕ)) → read ≡ behind (Some []) read
same_behind None = refl
same_behind (Some ys) = refl

pub unhex_front : (count : ℕ) (front back : List ℕ) → length front ≡ 2 * count → unhex (front ++ back) ≡ behind (unhex front) (unhex back)
unhex_front count [] back size = same_behind (unhex back)
unhex_front count (a ∷ []) back size = absurd (omega (arith, size))
unhex_front count (a ∷ b ∷ more) back size =
    rw (unhex_front (count - 1) more back (omega (arith, size))) (behind_more (pair_value a b) (unhex more) (unhex back))

-- the octets of what is left are those of a piece of it, and those behind it
pub unhex_from : (digits : List ℕ) (at count : ℕ) → at + 2 * count ≤ length digits
    → unhex (drop at digits) ≡ behind (unhex (take (2 * count) (drop at digits))) (unhex (drop (at + 2 * count) digits))
unhex_from digits at count within =
    let rest : List ℕ = drop at digits in
    let size : length (take (2 * count) rest) ≡ 2 * count = length-take-le (2 * count) rest (omega (arith, length-drop at digits)) in
    ap unhex (sym (take-append-drop (2 * count) rest))
    ∙ (unhex_front count (take (2 * count) rest) (drop (2 * count) rest) size
    ∙ ap (λ (l : List ℕ). behind (unhex (take (2 * count) rest)) (unhex l)) (drop-drop (2 * count) at digits))

-- what is read of pairs of digits: the octets that are written, and then those of the rest
abbrev pub filled : List ℕ → List ℕ → ℕ → Bool → Option (List ℕ)
filled digits room i all = if all then option_map (λ xs. take i room ++ xs) (unhex (drop (2 * i) digits)) else None

-- an octet behind the front or before the rest
front_more : (front : List ℕ) (x : ℕ) (read : Option (List ℕ)) → option_map (λ xs. front ++ x ∷ [] ++ xs) read ≡ option_map (λ xs. front ++ xs) (option_map (λ xs. x ∷ xs) read)
front_more front x (Some xs) = ap Some (append_assoc front (x ∷ []) xs)
front_more front x None = refl

-- a pair of digits before the rest
pair_from : (digits : List ℕ) (i : ℕ) → 2 * i + 1 < length digits
    → unhex (drop (2 * i) digits) ≡ option_and_then (λ octet. option_map (λ octets. octet ∷ octets) (unhex (drop (2 * (i + 1)) digits)))
    (pair_value (slice_index digits (2 * i)) (slice_index digits (2 * i + 1)))
pair_from digits i within =
    let next : 2 * i + 1 + 1 ≡ 2 * (i + 1) = omega arith in
    rw (drop_more digits (2 * i) 0 (omega arith), drop_more digits (2 * i + 1) 0 (omega arith), next) refl

-- one octet more is written
pub filled_more : (digits room : List ℕ) (i octet : ℕ) (all are : Bool) → i < length room → length digits ≡ 2 * length room
    → pair_value (slice_index digits (2 * i)) (slice_index digits (2 * i + 1)) ≡ (if are then Some octet else None)
    → filled digits room i all ≡ unhex digits → filled digits (slice_set room i octet) (i + 1) (all && are) ≡ unhex digits
filled_more digits room i octet false are within size pair told = told
filled_more digits room i octet true false within size pair told =
    let none : unhex (drop (2 * i) digits) ≡ None = rw (pair_from digits i (omega (arith, size)), pair) refl in
    rw none at told
filled_more digits room i octet true true within size pair told =
    let front : take (i + 1) (slice_set room i octet) ≡ take i room ++ octet ∷ [] = take_more_set room i octet within in
    let more : unhex (drop (2 * i) digits) ≡ option_map (λ xs. octet ∷ xs) (unhex (drop (2 * (i + 1)) digits)) = rw (pair_from digits i (omega (arith, size)), pair) refl in
    rw front (front_more (take i room) octet (unhex (drop (2 * (i + 1)) digits)) ∙ (ap (λ (read : Option (List ℕ)). option_map (λ xs. take i room ++ xs) read) (sym more) ∙ told))

-- the same by joined octets
pub filled_by : (digits room : List ℕ) (i joined octet : ℕ) → i < length room → length digits ≡ 2 * length room
    → pair_value (slice_index digits (2 * i)) (slice_index digits (2 * i + 1)) ≡ (if nat_lt octet 256 then Some (octet % 256) else None)
    → filled digits room i (nat_lt joined 256) ≡ unhex digits → filled digits (slice_set room i (octet % 256)) (i + 1) (nat_lt (bit_or joined octet) 256) ≡ unhex digits
filled_by digits room i joined octet within size pair told =
    rw (joined_below joined octet) (filled_more digits room i (octet % 256) (nat_lt joined 256) (nat_lt octet 256) within size pair told)

-- all octets are written
pub filled_all : (digits room : List ℕ) (i : ℕ) (all : Bool) → length room ≤ i → length digits ≡ 2 * length room
    → filled digits room i all ≡ unhex digits → unhex digits ≡ (if all then Some room else None)
filled_all digits room i false end size told = sym told
filled_all digits room i true end size told =
    let none : drop (2 * i) digits ≡ [] = drop_all (2 * i) digits (omega (arith, size)) in
    let whole : take i room ≡ room = take_all i room end in
    sym (rw (none, whole, append-nil) at told)

added : (octets now : List ℕ) (front back : Option (List ℕ)) → option_map (λ xs. octets ++ xs) front ≡ Some now
    → option_map (λ ys. now ++ ys) back ≡ option_map (λ xs. octets ++ xs) (behind front back)
added octets now None back is = absurd (cc)
added octets now (Some xs) None is = refl
added octets now (Some xs) (Some ys) is =
    let same : octets ++ xs ≡ now = cc in
    ap Some (ap (λ (l : List ℕ). l ++ ys) (sym same) ∙ append_assoc octets xs ys)

none_added : (octets : List ℕ) (front back : Option (List ℕ)) → option_map (λ xs. octets ++ xs) front ≡ None → option_map (λ xs. octets ++ xs) (behind front back) ≡ None
none_added octets None back is = refl
none_added octets (Some xs) back is = absurd (cc)

-- what a piece adds, by what is read of it
pub piece_added : (octets now made : List ℕ) (read : Option (List ℕ)) (all : Bool) → read ≡ (if all then Some made else None) → now ≡ octets ++ made
    → option_map (λ xs. octets ++ xs) read ≡ (if all then Some now else None)
piece_added octets now made read true is adds = ap (λ (o : Option (List ℕ)). option_map (λ xs. octets ++ xs) o) is ∙ ap Some (sym adds)
piece_added octets now made read false is adds = ap (λ (o : Option (List ℕ)). option_map (λ xs. octets ++ xs) o) is

-- the octets of a piece are added
pub decoded_more : (digits rest piece octets now : List ℕ) (at count : ℕ) (all : Bool) → all ≡ true → rest ≡ drop at digits → piece ≡ take (2 * count) rest → at + 2 * count ≤ length digits
    → option_map (λ xs. octets ++ xs) (unhex piece) ≡ (if all then Some now else None) → option_map (λ xs. octets ++ xs) (unhex (drop at digits)) ≡ unhex digits
    → option_map (λ xs. now ++ xs) (unhex (drop (at + 2 * count) digits)) ≡ unhex digits
decoded_more digits rest piece octets now at count all are back front within adds told =
    let is : piece ≡ take (2 * count) (drop at digits) = front ∙ ap (take (2 * count)) back in
    added octets now (unhex (take (2 * count) (drop at digits))) (unhex (drop (at + 2 * count) digits))
    (ap (λ (l : List ℕ). option_map (λ xs. octets ++ xs) (unhex l)) (sym is) ∙ (adds ∙ ap (λ (b : Bool). if b then Some now else None) are))
    ∙ (ap (λ (read : Option (List ℕ)). option_map (λ xs. octets ++ xs) read) (sym (unhex_from digits at count within)) ∙ told)

-- a piece has what is no digit
pub decoded_none : (digits rest piece octets now : List ℕ) (at count : ℕ) (all : Bool) → all ≡ false → rest ≡ drop at digits → piece ≡ take (2 * count) rest → at + 2 * count ≤ length digits
    → option_map (λ xs. octets ++ xs) (unhex piece) ≡ (if all then Some now else None) → option_map (λ xs. octets ++ xs) (unhex (drop at digits)) ≡ unhex digits
    → None ≡ unhex digits
decoded_none digits rest piece octets now at count all are back front within none told =
    let is : piece ≡ take (2 * count) (drop at digits) = front ∙ ap (take (2 * count)) back in
    sym (none_added octets (unhex (take (2 * count) (drop at digits))) (unhex (drop (at + 2 * count) digits))
    (ap (λ (l : List ℕ). option_map (λ xs. octets ++ xs) (unhex l)) (sym is) ∙ (none ∙ ap (λ (b : Bool). if b then Some now else None) are)))
    ∙ (ap (λ (read : Option (List ℕ)). option_map (λ xs. octets ++ xs) read) (sym (unhex_from digits at count within)) ∙ told)

alone : (rest : List ℕ) → length rest ≡ 1 → unhex rest ≡ None
alone [] one = absurd (omega arith)
alone (a ∷ []) one = refl
alone (a ∷ b ∷ more) one = absurd (omega arith)

pub unhex_odd : (digits : List ℕ) (at : ℕ) → length digits ≡ at + 1 → unhex (drop at digits) ≡ None
unhex_odd digits at last = alone (drop at digits) (omega (arith, length-drop at digits))
