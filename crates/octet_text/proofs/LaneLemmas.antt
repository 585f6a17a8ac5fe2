-- Digits in lanes: what sixteen of them are worth, one by one, and their eight octets.
use Rattle.std.proofs.Common.{◌≡◌, ◌<◌, ◌≤◌, ◌+◌, ◌-◌, ◌*◌, ◌%◌, ◌^◌, ◌&&◌, ◌||◌, ◌++◌, ◌∙◌, ℕ, zero, suc, Bool, true, false, not, cond, eqb, leb, eqb→eq, List, [], ◌∷◌, map, length, get_or, take, drop, replicate, Option, Some, None, nat_eq, option_and_then, option_map, if◌then◌else◌, refl, ap, ap₂, sym, arith, append_assoc, take-append-drop, Fits, w8}
use Rattle.std.proofs.lemmas.Bool.{agree_below, agree_below_at}
use Rattle.std.proofs.lemmas.Bool.Decides.{nat_tests}
use Rattle.std.proofs.lemmas.List.{length-map, length-take-le}
use Rattle.std.proofs.lemmas.Simd.{zip2_splat_left, mask_l-mod, take_more_put_chunk}
use Rattle.std.proofs.lemmas.Float.{T_from_true}
use Rattle.std.specs.Prelude.{unwrap_or}
use Rattle.std.specs.Simd.Lanes.{zip2, sel_l, mask_l, top, chunk, put_chunk, Each1}
use Rattle.octet_text.specs.Hex.{digit_value, unhex, worth}
use Rattle.octet_text.proofs.HexLemmas.{below, behind, filled, unhex_front, unhex_from}

-- ---- operations on vectors that were computed lane by lane from v
zip2-map : (h : ℕ → ℕ → ℕ) (f g : ℕ → ℕ) (v : List ℕ) → zip2 h (map f v) (map g v) ≡ map (λ x. h (f x) (g x)) v
zip2-map h f g [] = refl
zip2-map h f g (x ∷ xs) = ap (λ r. h (f x) (g x) ∷ r) (zip2-map h f g xs)

pub joined : (h : ℕ → ℕ → ℕ) (f g : ℕ → ℕ) (v : List ℕ) {a b : List ℕ} → a ≡ map f v → b ≡ map g v → zip2 h a b ≡ map (λ x. h (f x) (g x)) v
joined h f g v p q = ap₂ (zip2 h) p q ∙ zip2-map h f g v

chosen_of : (p : ℕ → Bool) (f g : ℕ → ℕ) (v : List ℕ) → sel_l (map p v) (map f v) (map g v) ≡ map (λ x. cond (p x) (f x) (g x)) v
chosen_of p f g [] = refl
chosen_of p f g (x ∷ xs) = ap (λ r. cond (p x) (f x) (g x) ∷ r) (chosen_of p f g xs)

tests_of : (f : ℕ → ℕ) (v : List ℕ) → map (top 7) (map f v) ≡ map (λ x. top 7 (f x)) v
tests_of f [] = refl
tests_of f (x ∷ xs) = ap (λ r. top 7 (f x) ∷ r) (tests_of f xs)

pub chosen : (t f g : ℕ → ℕ) (v : List ℕ) {m a b : List ℕ} → m ≡ map t v → a ≡ map f v → b ≡ map g v → sel_l (map (top 7) m) a b ≡ map (λ x. cond (top 7 (t x)) (f x) (g x)) v
chosen t f g v {m} {a} {b} r p q =
    ap (λ (l : List ℕ). sel_l (map (top 7) l) a b) r ∙ (ap (λ (l : List Bool). sel_l l a b) (tests_of t v) ∙ (ap₂ (λ (x y : List ℕ). sel_l (map (λ x. top 7 (t x)) v) x y) p q
    ∙ chosen_of (λ x. top 7 (t x)) f g v))

pub splat_is : (v : List ℕ) (n y : ℕ) → length v ≡ n → replicate n y ≡ map (λ _. y) v
splat_is [] n y e = ap (λ k. replicate k y) (sym e)
splat_is (x ∷ xs) n y e = ap (λ k. replicate k y) (sym e) ∙ ap (λ r. y ∷ r) (splat_is xs (length xs) y refl)

-- two functions that agree at each octet agree at each lane
pub same_lanes : (f g : ℕ → ℕ) (v : List ℕ) → agree_below (λ x. eqb (f x) (g x)) (λ _. true) 256 ≡ true → Each1 (Fits w8) v → map f v ≡ map g v
same_lanes f g [] all fits = refl
same_lanes f g (x ∷ xs) all fits =
    ap₂ (λ (a : ℕ) (r : List ℕ). a ∷ r) (eqb→eq (f x) (g x) (T_from_true (eqb (f x) (g x)) (agree_below_at (λ y. eqb (f y) (g y)) (λ _. true) 256 x all fits.0.fits))) (same_lanes f g xs all fits.1)

-- ---- the octets of digits, by what each is worth
abbrev strange : ℕ → Bool
strange value = leb 16 value

abbrev any_strange : List ℕ → Bool
any_strange [] = false
any_strange (x ∷ xs) = strange x || any_strange xs

abbrev paired : List ℕ → List ℕ
paired [] = []
paired (h ∷ []) = []
paired (h ∷ l ∷ rest) = ((h * 16 % 256 + l) % 256) ∷ paired rest

plain : (value : ℕ) → value < 16 → strange value ≡ false
plain value less = grind (arith, nat_tests)

rest_of : (h l : ℕ) (read : Option (List ℕ)) (any : Bool) (rest : List ℕ) → h < 16 → l < 16 → read ≡ (if any then None else Some rest)
    → option_map (λ octets. (h * 16 + l) ∷ octets) read ≡ (if any then None else Some (((h * 16 % 256 + l) % 256) ∷ rest))
rest_of h l read true rest high low e = ap (option_map (λ octets. (h * 16 + l) ∷ octets)) e
rest_of h l read false rest high low e =
    let same : h * 16 + l ≡ (h * 16 % 256 + l) % 256 = omega arith in
    ap (option_map (λ octets. (h * 16 + l) ∷ octets)) e ∙ ap (λ (n : ℕ). Some (n ∷ rest)) same

two_more : (x y : Option ℕ) (read : Option (List ℕ)) (any : Bool) (rest : List ℕ) → ((value : ℕ) → x ≡ Some value → value < 16) → ((value : ℕ) → y ≡ Some value → value < 16)
    → read ≡ (if any then None else Some rest)
    → option_and_then (λ octet. option_map (λ octets. octet ∷ octets) read) (option_and_then (λ high. option_map (λ low. high * 16 + low) y) x)
    ≡ (if strange (unwrap_or x 255) || (strange (unwrap_or y 255) || any) then None else Some (((unwrap_or x 255 * 16 % 256 + unwrap_or y 255) % 256) ∷ rest))
two_more None y read any rest first second e = refl
two_more (Some h) None read any rest first second e = rw (plain h (first h refl)) refl
two_more (Some h) (Some l) read any rest first second e =
    rw (plain h (first h refl), plain l (second l refl)) (rest_of h l read any rest (first h refl) (second l refl) e)

unhex_is : (n : ℕ) (v : List ℕ) → length v ≡ 2 * n → unhex v ≡ (if any_strange (map worth v) then None else Some (paired (map worth v)))
unhex_is n [] e = refl
unhex_is n (a ∷ []) e = absurd (omega (arith, e))
unhex_is n (a ∷ b ∷ rest) e =
    two_more (digit_value a) (digit_value b) (unhex rest) (any_strange (map worth rest)) (paired (map worth rest)) (below a) (below b) (unhex_is (n - 1) rest (omega (arith, e)))

-- ---- the mask of strange lanes
top_of : (b : Bool) → top 7 (cond b 255 0) ≡ b
top_of true = refl
top_of false = refl

tops : (w : List ℕ) → map (top 7) (map (λ y. cond (leb 16 y) 255 0) w) ≡ map strange w
tops [] = refl
tops (x ∷ xs) = ap₂ (λ (b : Bool) (r : List Bool). b ∷ r) (top_of (leb 16 x)) (tops xs)

none_more : (b : Bool) (n : ℕ) (any : Bool) → nat_eq n 0 ≡ not any → nat_eq (cond b 1 0 + 2 * n) 0 ≡ not (b || any)
none_more true n any e = grind (arith, nat_tests)
none_more false zero any e = e
none_more false (suc n) any e = let same : nat_eq (0 + 2 * suc n) 0 ≡ nat_eq (suc n) 0 = grind (arith, nat_tests) in same ∙ e

none_set : (w : List ℕ) → nat_eq (mask_l (map strange w)) 0 ≡ not (any_strange w)
none_set [] = refl
none_set (x ∷ xs) = none_more (strange x) (mask_l (map strange xs)) (any_strange xs) (none_set xs)

-- ---- sixteen lanes, one by one
abbrev Vec : ℕ → (List ℕ → Type 0) → Type 0
Vec zero P = P []
Vec (suc n) P = (x : ℕ) → Vec n (λ xs. P (x ∷ xs))

each : (n : ℕ) (P : List ℕ → Type 0) → Vec n P → (w : List ℕ) → length w ≡ n → P w
each zero P all [] e = all
each zero P all (x ∷ xs) e = absurd (omega arith)
each (suc n) P all [] e = absurd (omega arith)
each (suc n) P all (x ∷ xs) e = each n (λ ys. P (x ∷ ys)) (all x) xs (omega arith)

abbrev octet_at : List ℕ → ℕ → ℕ → ℕ
octet_at w i j = (get_or (w ++ w) i 0 * 16 % 256 + get_or (w ++ w) j 0) % 256

abbrev by_lanes : List ℕ → List ℕ
by_lanes w = octet_at w 0 1 ∷ octet_at w 2 3 ∷ octet_at w 4 5 ∷ octet_at w 6 7 ∷ octet_at w 8 9 ∷ octet_at w 10 11 ∷ octet_at w 12 13 ∷ octet_at w 14 15 ∷ []

lanes_paired : (w : List ℕ) → length w ≡ 16 → by_lanes w ≡ paired w
lanes_paired w long = each 16 (λ w. by_lanes w ≡ paired w) (λ a b c d e f g h i j k l m n o p. refl) w long

turned : (b : Bool) (octets : List ℕ) → (if b then None else Some octets) ≡ (if not b then Some octets else None)
turned true octets = refl
turned false octets = refl

-- the octets of sixteen digits, by lanes
pub octets_are : (v w : List ℕ) → length v ≡ 16 → w ≡ map worth v
    → unhex v ≡ (if nat_eq (mask_l (map (top 7) (zip2 (λ a b. cond (leb a b) 255 0) (replicate 16 16) w)) % 2 ^ 64) 0 then Some (by_lanes w) else None)
octets_are v w long is =
    let size : length w ≡ 16 = ap (λ (l : List ℕ). length l) is ∙ (length-map v worth ∙ long) in
    let lanes : map (top 7) (zip2 (λ a b. cond (leb a b) 255 0) (replicate 16 16) w) ≡ map strange w = ap (map (top 7)) (zip2_splat_left (λ a b. cond (leb a b) 255 0) 16 16 w size) ∙ tops w in
    let mask : mask_l (map (top 7) (zip2 (λ a b. cond (leb a b) 255 0) (replicate 16 16) w)) % 2 ^ 64 ≡ mask_l (map strange w) =
    ap (λ l. mask_l l % 2 ^ 64) lanes ∙ mask_l-mod (map strange w) 64 (omega (arith, length-map w strange, size)) in
    let none : nat_eq (mask_l (map (top 7) (zip2 (λ a b. cond (leb a b) 255 0) (replicate 16 16) w)) % 2 ^ 64) 0 ≡ not (any_strange w) = ap (λ m. nat_eq m 0) mask ∙ none_set w in
    unhex_is 8 v (omega (arith, long)) ∙ (ap (λ (l : List ℕ). if any_strange l then None else Some (paired l)) (sym is) ∙ (turned (any_strange w) (paired w)
    ∙ (ap (λ (b : Bool). if b then Some (paired w) else None) (sym none)
    ∙ ap (λ (l : List ℕ). if nat_eq (mask_l (map (top 7) (zip2 (λ a b. cond (leb a b) 255 0) (replicate 16 16) w)) % 2 ^ 64) 0 then Some l else None) (sym (lanes_paired w size)))))

-- ---- eight octets more
behind_front : (front octets : List ℕ) (read : Option (List ℕ)) → option_map (λ xs. (front ++ octets) ++ xs) read ≡ option_map (λ xs. front ++ xs) (behind (Some octets) read)
behind_front front octets None = refl
behind_front front octets (Some xs) = ap Some (append_assoc front octets xs)

pub filled_eight : (digits room octets : List ℕ) (i : ℕ) (all are : Bool) → i + 8 ≤ length room → length digits ≡ 2 * length room → length octets ≡ 8
    → unhex (chunk (2 * i) 16 digits) ≡ (if are then Some octets else None) → filled digits room i all ≡ unhex digits
    → filled digits (put_chunk i room octets) (i + 8) (all && are) ≡ unhex digits
filled_eight digits room octets i false are within size eight piece told = told
filled_eight digits room octets i true are within size eight piece told =
    let next : 2 * i + 2 * 8 ≡ 2 * (i + 8) = omega arith in
    let parted : unhex (drop (2 * i) digits) ≡ behind (if are then Some octets else None) (unhex (drop (2 * (i + 8)) digits)) =
    unhex_from digits (2 * i) 8 (omega (arith, within, size))
    ∙ (ap (λ o. behind o (unhex (drop (2 * i + 2 * 8) digits))) piece ∙ ap (λ n. behind (if are then Some octets else None) (unhex (drop n digits))) next) in
    go are parted
  where
    go : (are : Bool) → unhex (drop (2 * i) digits) ≡ behind (if are then Some octets else None) (unhex (drop (2 * (i + 8)) digits))
        → filled digits (put_chunk i room octets) (i + 8) (true && are) ≡ unhex digits
    go false parted = ap (option_map (λ xs. take i room ++ xs)) (sym parted) ∙ told
    go true parted =
        let front : take (i + 8) (put_chunk i room octets) ≡ take i room ++ octets = take_more_put_chunk i room octets (i + 8) (omega (arith, eight)) within in
        ap (λ (l : List ℕ). option_map (λ xs. l ++ xs) (unhex (drop (2 * (i + 8)) digits))) front
        ∙ (behind_front (take i room) octets (unhex (drop (2 * (i + 8)) digits)) ∙ (ap (option_map (λ xs. take i room ++ xs)) (sym parted) ∙ told))

pub nothing_filled : (digits room : List ℕ) → filled digits room 0 true ≡ unhex digits
nothing_filled digits room = same (unhex digits)
  where
    same : (read : Option (List ℕ)) → option_map (λ xs. xs) read ≡ read
    same None = refl
    same (Some xs) = refl

pub by_eights : (n : ℕ) → n % 8 ≡ 0 → (n - 0) % 8 ≡ 0
by_eights n e = omega (arith, e)

-- ---- a front and what is behind it
parted_at : (digits : List ℕ) (count : ℕ) → 2 * count ≤ length digits → unhex digits ≡ behind (unhex (take (2 * count) digits)) (unhex (drop (2 * count) digits))
parted_at digits count within =
    ap unhex (sym (take-append-drop (2 * count) digits)) ∙ unhex_front count (take (2 * count) digits) (drop (2 * count) digits) (length-take-le (2 * count) digits within)

pub both_filled : (digits first last : List ℕ) (count : ℕ) (more : Bool) → 2 * count ≤ length digits → unhex (take (2 * count) digits) ≡ Some first
    → unhex (drop (2 * count) digits) ≡ (if more then Some last else None) → unhex digits ≡ (if more then Some (first ++ last) else None)
both_filled digits first last count more within front back =
    parted_at digits count within ∙ (ap₂ (λ (x y : Option (List ℕ)). behind x y) front back ∙ go more)
  where
    go : (more : Bool) → behind (Some first) (if more then Some last else None) ≡ (if more then Some (first ++ last) else None)
    go true = refl
    go false = refl

pub none_filled : (digits : List ℕ) (count : ℕ) → 2 * count ≤ length digits → unhex (take (2 * count) digits) ≡ None → unhex digits ≡ None
none_filled digits count within front = parted_at digits count within ∙ ap (λ (x : Option (List ℕ)). behind x (unhex (drop (2 * count) digits))) front
