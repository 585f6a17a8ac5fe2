-- The first mark among sixteen octets.
use Rattle.std.proofs.Common.{◌≡◌, ◌<◌, ◌≤◌, ◌+◌, ◌%◌, ◌^◌, ◌∙◌, ℕ, false, not, List, map, cond, eqb, length, slice_index, replicate, w8, ap, sym, subst, arith}
use Rattle.std.proofs.lemmas.Simd.{bitmask_splat, first_set_mask_l, length-chunk, run_in_chunk_fails, run_in_chunk_stops}
use Rattle.std.specs.List.{prefix_len}
use Rattle.std.specs.Simd.Lanes.{chunk, mask_l, top, zip2}
use Rattle.memchr.specs.Find.{Nowhere, Passes, is_byte}
use Rattle.octet_text.specs.Cut.{lowest_bit}

-- the bits of the lanes that are the mark
abbrev marked : ℕ → List ℕ → ℕ
marked mark text = mask_l (map (top 7) (zip2 (λ a b. cond (eqb a b) 255 0) (chunk 0 16 text) (replicate 16 mark))) % 2 ^ 64

counted : (mark : ℕ) (text : List ℕ) (r : ℕ) → 0 + 16 ≤ length text → r ≡ lowest_bit (marked mark text) 16 → r ≡ prefix_len (λ x. not (eqb x mark)) (chunk 0 16 text)
counted mark text r room found =
    found ∙ (ap (λ m. lowest_bit m 16) (bitmask_splat w8 eqb (chunk 0 16 text) 16 mark long (omega arith)) ∙ first_set_mask_l (λ x. eqb x mark) (chunk 0 16 text) 16 long (omega arith)) where
      long : length (chunk 0 16 text) ≡ 16
      long = length-chunk 0 16 text room

-- none stands before it
pub lane_before : (mark : ℕ) (text : List ℕ) (r : ℕ) → 16 ≤ length text → r ≡ lowest_bit (marked mark text) 16 → Nowhere (Passes (is_byte mark) text) 0 r
lane_before mark text r room found k low high passes = absurd (cc (sym passes ∙ fails)) where
  fails : is_byte mark (slice_index text k) ≡ false
  fails = run_in_chunk_fails (λ x. eqb x mark) text 0 16 r 0 (omega (arith, room)) (counted mark text r (omega (arith, room)) found) k low (omega (arith, high))

-- and it is one, where it is among them
pub lane_is : (mark : ℕ) (text : List ℕ) (r : ℕ) → 16 ≤ length text → r ≡ lowest_bit (marked mark text) 16 → r < 16 → Passes (is_byte mark) text r
lane_is mark text r room found short =
    subst (λ (k : ℕ). Passes (is_byte mark) text k) here (run_in_chunk_stops (λ x. eqb x mark) text 0 16 r 0 (omega (arith, room)) (counted mark text r (omega (arith, room)) found) short) where
      here : 0 + r ≡ r
      here = omega arith
