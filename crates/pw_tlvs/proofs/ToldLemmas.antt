-- What is told is what the sub-TLVs say.
use Rattle.std.proofs.Common.{◌≡◌, ◌<◌, ◌++◌, ◌==◌, ◌^◌, ◌∙◌, ℕ, false, List, [], refl, sym, ap, subst, arith, Some, None}
use Rattle.std.specs.Prelude.{IfSome, Option, slice_get, option_map}
use Rattle.std.proofs.lemmas.List.{append-nil}
use Rattle.byteorder.specs.Endian.{big_number, big_bytes}
use Rattle.pw_tlvs.specs.declared.registry.Registry.{Registry}
use Rattle.pw_tlvs.specs.SubTlvs.{SubTlv, IsGood, values, said, AreGood}
use Rattle.pw_tlvs.specs.Written.{told}
use Rattle.pw_tlvs.proofs.SubTlvLemmas.{values-append, good_more}
use Rattle.pw_tlvs.proofs.FoundLemmas.{said_new, said_other}

-- another type is not among what is told
pub values_told : (k kind : ℕ) (o : Option (List ℕ)) → (kind == k) ≡ false → values k (told kind o) ≡ []
values_told k kind None other = refl
values_told k kind (Some value) other = rw other refl

pub values_both : (k : ℕ) (a b : List SubTlv) → values k a ≡ [] → values k b ≡ [] → values k (a ++ b) ≡ []
values_both k a b one other = values-append k a b ∙ (λ i. one i ++ other i)

pub said_told : (k : ℕ) (subs : List SubTlv) (o : Option (List ℕ)) → values k subs ≡ [] → said k (subs ++ told k o) ≡ o
said_told k subs None none = ap (λ (l : List SubTlv). said k l) (append-nil subs) ∙ ap (λ (l : List (List ℕ)). slice_get l 0) none
said_told k subs (Some value) none = said_new k subs value none

pub said_past : (k kind : ℕ) (subs : List SubTlv) (o : Option (List ℕ)) → (kind == k) ≡ false → said k (subs ++ told kind o) ≡ said k subs
said_past k kind subs None other = ap (λ (l : List SubTlv). said k l) (append-nil subs)
said_past k kind subs (Some value) other = said_other k kind subs value other

pub good_none : (registry : Registry) → AreGood registry []
good_none registry = record { good = tt; once = λ kind known. omega arith }

pub good_told : (registry : Registry) (subs : List SubTlv) (kind : ℕ) (o : Option (List ℕ)) → AreGood registry subs → values kind subs ≡ []
    → IfSome o (λ value. IsGood registry (record { kind = kind; value = value })) → AreGood registry (subs ++ told kind o)
good_told registry subs kind None good none one = subst (AreGood registry) (sym (append-nil subs)) good
good_told registry subs kind (Some value) good none one = good_more registry subs (record { kind = kind; value = value }) good one (λ known. none)

-- a number comes back from its octets, whatever follows
pub number_two : (n : ℕ) (more : List ℕ) → n < 2 ^ 16 → big_number 2 (big_bytes 2 n ++ more) ≡ n
number_two n more below = omega arith

pub number_four : (n : ℕ) (more : List ℕ) → n < 2 ^ 32 → big_number 4 (big_bytes 4 n ++ more) ≡ n
number_four n more below = omega arith

pub numbers_two : (o : Option ℕ) → IfSome o (λ n. n < 2 ^ 16) → o ≡ option_map (λ value. big_number 2 value) (option_map (λ n. big_bytes 2 n) o)
numbers_two None below = refl
numbers_two (Some n) below = ap Some (sym (number_two n [] below))

pub numbers_four : (o : Option ℕ) → IfSome o (λ n. n < 2 ^ 32) → o ≡ option_map (λ value. big_number 4 value) (option_map (λ n. big_bytes 4 n) o)
numbers_four None below = refl
numbers_four (Some n) below = ap Some (sym (number_four n [] below))
