-- Octets that lie in two pieces.
use Rattle.std.proofs.Common.{◌≡◌, ◌≤◌, ◌<◌, ◌+◌, ◌-◌, ◌++◌, ℕ, suc, List, [], ◌∷◌, length, take, drop, sym, ap, ◌∙◌, arith}
use Rattle.std.proofs.lemmas.List.{take-append-le, drop-append-le}
use Rattle.std.proofs.Math.Seq.{take-append-add, drop-append-add, get_or-append_right}
use Rattle.std.proofs.Math.ListN.{get_or-append}
use Rattle.std.specs.Prelude.{slice_index}
use Rattle.net_values.specs.Octets.{AreOctets}
use Rattle.ldp_grammar.proofs.OctetLemmas.{octet_front}

-- an octet of the first piece, and one of the second
pub at_front : (xs ys : List ℕ) (at : ℕ) → at < length xs → slice_index (xs ++ ys) at ≡ slice_index xs at
at_front xs ys at within = get_or-append xs ys 0 at within

pub at_back : (xs ys : List ℕ) (at : ℕ) → length xs ≤ at → slice_index (xs ++ ys) at ≡ slice_index ys (at - length xs)
at_back xs ys at past = get_or-append_right xs ys at 0 past

-- a cut in the first piece, and one in the second
pub record IsCut (whole first rest : List ℕ) (at : ℕ) : Type 0 where
  pub front : first ≡ take at whole
  pub back : rest ≡ drop at whole

pub cut_front : (xs ys : List ℕ) (at : ℕ) → at ≤ length xs → IsCut (xs ++ ys) (take at xs) (drop at xs ++ ys) at
cut_front xs ys at within = record { front = sym (take-append-le at xs ys within); back = sym (drop-append-le at xs ys within) }

pub cut_back : (xs ys : List ℕ) (at : ℕ) → length xs ≤ at → IsCut (xs ++ ys) (xs ++ take (at - length xs) ys) (drop (at - length xs) ys) at
cut_back xs ys at past =
    let e : at ≡ length xs + (at - length xs) = omega arith in
    record {
      front = sym (ap (λ (n : ℕ). take n (xs ++ ys)) e ∙ take-append-add xs ys (at - length xs));
      back = sym (ap (λ (n : ℕ). drop n (xs ++ ys)) e ∙ drop-append-add xs ys (at - length xs));
    }

-- each number of both pieces is one that an octet holds
pub octets_joined : (xs ys : List ℕ) → AreOctets xs → AreOctets ys → AreOctets (xs ++ ys)
octets_joined [] ys front back = back
octets_joined (x ∷ xs) ys front back = octet_front x (xs ++ ys) (front 0) (octets_joined xs ys (λ i. front (suc i)) back)
