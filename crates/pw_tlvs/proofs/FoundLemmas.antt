-- One more sub-TLV says one thing more.
use Rattle.std.proofs.Common.{◌≡◌, ◌≤◌, ◌++◌, ◌==◌, ℕ, Bool, true, false, List, [], ◌∷◌, length, refl, sym, ap, ◌∙◌, subst, arith, Some, None}
use Rattle.std.specs.Prelude.{slice_get, option_map, is_some, Option}
use Rattle.std.proofs.lemmas.List.{append-nil}
use Rattle.std.proofs.lemmas.Bool.{eq-eqb}
use Rattle.pw_tlvs.specs.declared.registry.Registry.{Registry}
use Rattle.pw_tlvs.specs.SubTlvs.{SubTlv, values, said, Stood}
use Rattle.pw_tlvs.proofs.SubTlvLemmas.{values-append}

-- a type of which none stood says what the new one says
pub said_new : (k : ℕ) (subs : List SubTlv) (value : List ℕ) → values k subs ≡ [] → said k (subs ++ record { kind = k; value = value } ∷ []) ≡ Some value
said_new k subs value none =
    let own : (k == k) ≡ true = eq-eqb k k refl in
    let parts = values-append k subs (record { kind = k; value = value } ∷ []) in
    let new : values k (record { kind = k; value = value } ∷ []) ≡ value ∷ [] = rw own refl in
    ap (λ (l : List (List ℕ)). slice_get l 0) (parts ∙ ((λ i. none i ++ new i)))

-- another type says what it said
pub said_other : (k kind : ℕ) (subs : List SubTlv) (value : List ℕ) → (kind == k) ≡ false → said k (subs ++ record { kind = kind; value = value } ∷ []) ≡ said k subs
said_other k kind subs value other =
    let parts = values-append k subs (record { kind = kind; value = value } ∷ []) in
    let new : values k (record { kind = kind; value = value } ∷ []) ≡ [] = rw other refl in
    ap (λ (l : List (List ℕ)). slice_get l 0) (parts ∙ ap (λ (l : List (List ℕ)). values k subs ++ l) new ∙ append-nil (values k subs))

-- whether a type says something is whether one stood
pub said_some : (k : ℕ) (subs : List SubTlv) → is_some (said k subs) ≡ true → 1 ≤ length (values k subs)
said_some k subs e = by (values k subs) e
  where
    by : (l : List (List ℕ)) → is_some (slice_get l 0) ≡ true → 1 ≤ length l
    by [] e = absurd (cc (e))
    by (x ∷ l) e = omega arith

pub said_none : (k : ℕ) (subs : List SubTlv) → is_some (said k subs) ≡ false → values k subs ≡ []
said_none k subs e = by (values k subs) e
  where
    by : (l : List (List ℕ)) → is_some (slice_get l 0) ≡ false → l ≡ []
    by [] e = refl
    by (x ∷ l) e = absurd (cc (e))

pub is_some_map : {A B : Type 0} (f : A → B) (o : Option A) → is_some (option_map f o) ≡ is_some o
is_some_map f None = refl
is_some_map f (Some x) = refl

-- whether a type says something is whether one stood before
pub stood_by : (registry : Registry) (k kind : ℕ) (subs : List SubTlv) (b : Bool) → kind ≡ k → b ≡ is_some (said k subs) → Stood registry subs kind b
stood_by registry k kind subs true is e = subst (λ (n : ℕ). 1 ≤ length (values n subs)) (sym is) (said_some k subs (sym e))
stood_by registry k kind subs false is e = λ known. subst (λ (n : ℕ). values n subs ≡ []) (sym is) (said_none k subs (sym e))
