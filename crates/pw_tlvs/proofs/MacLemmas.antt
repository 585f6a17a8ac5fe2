-- Octets are addresses in one way at most.
use Rattle.std.proofs.Common.{◌≡◌, ◌≤◌, ◌<◌, ◌%◌, ◌*◌, ◌+◌, ◌++◌, ◌∙◌, ℕ, List, [], ◌∷◌, length, take, drop, refl, sym, ap, arith, length-append}
use Rattle.std.specs.List.{AllByRecursion}
use Rattle.std.proofs.lemmas.Grind.{flat_map-append}
use Rattle.std.proofs.lemmas.List.{append-nil, take_all}
use Rattle.std.proofs.lemmas.Slice.{drop-append-drop}
use Rattle.std.proofs.Math.Seq.{take-add, take-append_seam}
use Rattle.net_values.specs.declared.mac.Mac.{Mac}
use Rattle.net_values.proofs.RowLemmas.{same_front}
use Rattle.pw_tlvs.specs.declared.field_fault.FieldFault.{FieldFault}
use Rattle.pw_tlvs.specs.Macs.{mac_octets, AreMacs, IsMacsFault}

-- addresses stand before a place
pub record AreMacsUpTo (octets : List ℕ) (at : ℕ) (list : List Mac) : Type 0 where
  pub within : at ≤ length octets
  pub sixes : at % 6 ≡ 0
  pub front : take at octets ≡ mac_octets list
  pub whole : AllByRecursion (λ mac. length mac.0 ≡ 6) list

all_more : (list : List Mac) (mac : Mac) → AllByRecursion (λ m. length m.0 ≡ 6) list → length mac.0 ≡ 6 → AllByRecursion (λ m. length m.0 ≡ 6) (list ++ mac ∷ [])
all_more [] mac all six = (six, tt)
all_more (m ∷ list) mac all six = (all.0, all_more list mac all.1 six)

octets_more : (list : List Mac) (mac : Mac) → mac_octets (list ++ mac ∷ []) ≡ mac_octets list ++ mac.0
octets_more list mac = flat_map-append (λ (m : Mac). m.0) list (mac ∷ []) ∙ ap (λ (l : List ℕ). mac_octets list ++ l) (append-nil mac.0)

-- one more address stands before a later place
pub macs_more : (octets : List ℕ) (at : ℕ) (list new : List Mac) (mac : Mac) → AreMacsUpTo octets at list → at < length octets → length octets % 6 ≡ 0
    → mac.0 ≡ take 6 (drop at octets) → length mac.0 ≡ 6 → new ≡ list ++ mac ∷ [] → AreMacsUpTo octets (at + 6) new
macs_more octets at list new mac upto below sixes is six e = rw e (record {
  within = let h = upto.sixes in omega arith;
  sixes = let h = upto.sixes in omega arith;
  front = take-add at 6 octets ∙ ((λ i. upto.front i ++ sym is i) ∙ sym (octets_more list mac));
  whole = all_more list mac upto.whole six;
})

-- at the end they are all
pub macs_all : (octets : List ℕ) (at : ℕ) (list : List Mac) → AreMacsUpTo octets at list → length octets ≤ at → AreMacs octets list
macs_all octets at list upto end = record { joined = sym (take_all at octets end) ∙ upto.front; whole = upto.whole }

same_macs : (a b : List Mac) → AllByRecursion (λ m. length m.0 ≡ 6) a → AllByRecursion (λ m. length m.0 ≡ 6) b → mac_octets a ≡ mac_octets b → a ≡ b
same_macs [] [] six seven e = refl
same_macs [] (m ∷ b) six seven e = let len = ap length e in let parts = length-append m.0 (mac_octets b) in let w = seven.0 in absurd (omega arith)
same_macs (m ∷ a) [] six seven e = let len = ap length e in let parts = length-append m.0 (mac_octets a) in let w = six.0 in absurd (omega arith)
same_macs (m ∷ a) (n ∷ b) six seven e =
    let (front, back) = same_front m.0 n.0 (mac_octets a) (mac_octets b) (six.0 ∙ sym seven.0) e in
    let rest = same_macs a b six.1 seven.1 back in
    λ i. record { 0 = front i } ∷ rest i

pub one_macs : (octets : List ℕ) (a b : List Mac) → AreMacs octets a → AreMacs octets b → a ≡ b
one_macs octets a b one other = same_macs a b one.whole other.whole (sym one.joined ∙ other.joined)

pub length_macs : (list : List Mac) → AllByRecursion (λ m. length m.0 ≡ 6) list → length (mac_octets list) ≡ 6 * length list
length_macs [] six = refl
length_macs (m ∷ list) six = let parts = length-append m.0 (mac_octets list) in let w = six.0 in let rest = length_macs list six.1 in omega arith

pub never_macs : (octets : List ℕ) (a : List Mac) (f : FieldFault) → AreMacs octets a → IsMacsFault octets f → ⊥
never_macs octets a f is named = let len = ap length is.joined in let all = length_macs a is.whole in named.other (omega arith)

-- these addresses are written at the front
pub record AreWritten (list : List Mac) (count at : ℕ) (old new : List ℕ) : Type 0 where
  pub sixes : at ≡ 6 * count
  pub is : at ≡ length (mac_octets list)
  pub octets : new ≡ mac_octets list ++ drop at old

-- one more address is written behind them
pub written_more : (list : List Mac) (mac : Mac) (count at end : ℕ) (old new newer : List ℕ) → AreWritten list count at old new → length mac.0 ≡ 6 → end ≡ at + 6
    → newer ≡ (take at new ++ mac.0) ++ drop end new → AreWritten (list ++ mac ∷ []) (count + 1) end old newer
written_more list mac count at end old new newer done six is written = record {
  sixes = let h = done.sixes in omega arith;
  is = let h = done.is in let more = ap length (octets_more list mac) in let parts = length-append (mac_octets list) mac.0 in omega arith;
  octets =
      let front : take at new ≡ mac_octets list = ap (λ (l : List ℕ). take at l) done.octets
      ∙ (ap (λ (n : ℕ). take n (mac_octets list ++ drop at old)) done.is ∙ take-append_seam (mac_octets list) (drop at old)) in
      let back : drop end new ≡ drop end old = ap (λ (l : List ℕ). drop end l) done.octets ∙ drop-append-drop at old (mac_octets list) end (omega arith) (sym done.is) in
      written ∙ ((λ i. (front i ++ mac.0) ++ back i) ∙ ap (λ (l : List ℕ). l ++ drop end old) (sym (octets_more list mac)));
}
