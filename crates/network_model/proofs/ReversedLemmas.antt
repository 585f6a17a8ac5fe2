-- A path from its other end.
use Rattle.std.proofs.Common.{◌≡◌, ◌==◌, ◌&&◌, ◌||◌, ◌++◌, ◌∙◌, ℕ, Bool, true, false, List, [], ◌∷◌, reverse, refl, ap, arith}
use Rattle.std.proofs.lemmas.List.{reverse-append}
use Rattle.std.proofs.lemmas.List.Folds.{list_any-append}
use Rattle.net_base.specs.declared.plan.places.EdgeId.{EdgeId}
use Rattle.net_base.specs.plan.Paths.{follows, has_repeat, is_last}
use Rattle.network_model.proofs.WayLemmas.{stands_on, turned_test}

reverse_first : (first : EdgeId) (rest : List EdgeId) → reverse (first ∷ rest) ≡ reverse rest ++ first ∷ []
reverse_first first rest = reverse-append (first ∷ []) rest

-- ---- one more edge at the end

pub last_more : (path : List EdgeId) (x : EdgeId) (a : ℕ) → is_last a (path ++ x ∷ []) ≡ (a == x.0)
last_more [] x a = refl
last_more (first ∷ []) x a = refl
last_more (first ∷ next ∷ rest) x a = last_more (next ∷ rest) x a

follows_more : (path : List EdgeId) (x : EdgeId) (a b : ℕ) → follows (path ++ x ∷ []) a b ≡ follows path a b || (is_last a path && b == x.0)
follows_more [] x a b = refl
follows_more (first ∷ []) x a b = mix (a == first.0) (b == x.0) where
  mix : (p q : Bool) → (p && q) || false ≡ false || (p && q)
  mix true true = refl
  mix true false = refl
  mix false q = refl
follows_more (first ∷ next ∷ rest) x a b = mix (a == first.0 && b == next.0) (follows (next ∷ rest) a b) (is_last a (next ∷ rest) && b == x.0) (follows_more (next ∷ rest) x a b) where
  mix : (p q r : Bool) {t : Bool} → t ≡ q || r → p || t ≡ (p || q) || r
  mix p q r h = grind (arith, h)

repeat_more : (path : List EdgeId) (x : EdgeId) → has_repeat (path ++ x ∷ []) ≡ has_repeat path || stands_on x.0 path
repeat_more [] x = refl
repeat_more (first ∷ rest) x =
    mix (stands_on first.0 rest) (x.0 == first.0) (has_repeat rest) (stands_on x.0 rest) (first.0 == x.0) (turned_test x.0 first.0 refl)
    (list_any-append (λ (e : EdgeId). e.0 == first.0) rest (x ∷ [])) (repeat_more rest x)
  where
    mix : (p q r s u : Bool) {t v : Bool} → u ≡ q → t ≡ p || (q || false) → v ≡ r || s → t || v ≡ (p || r) || (u || s)
    mix p q r s u e h k = grind (arith, e, h, k)

-- ---- from the other end

stands_reversed : (path : List EdgeId) (a : ℕ) → stands_on a (reverse path) ≡ stands_on a path
stands_reversed [] a = refl
stands_reversed (first ∷ rest) a =
    ap (stands_on a) (reverse_first first rest) ∙ (list_any-append (λ (e : EdgeId). e.0 == a) (reverse rest) (first ∷ []) ∙ mix (stands_on a rest) (first.0 == a) (stands_reversed rest a))
  where
    mix : (p q : Bool) {t : Bool} → t ≡ p → t || (q || false) ≡ q || p
    mix p q h = grind (arith, h)

pub once_reversed : (path : List EdgeId) → has_repeat (reverse path) ≡ has_repeat path
once_reversed [] = refl
once_reversed (first ∷ rest) = ap has_repeat (reverse_first first rest)
    ∙ (repeat_more (reverse rest) first ∙ mix (has_repeat rest) (stands_on first.0 rest) (once_reversed rest) (stands_reversed rest first.0))
  where
    mix : (p q : Bool) {t u : Bool} → t ≡ p → u ≡ q → t || u ≡ q || p
    mix p q h k = grind (arith, h, k)

pub last_reversed : (first : EdgeId) (rest : List EdgeId) (a : ℕ) → is_last a (reverse (first ∷ rest)) ≡ (a == first.0)
last_reversed first rest a = ap (is_last a) (reverse_first first rest) ∙ last_more (reverse rest) first a

pub follows_reversed : (path : List EdgeId) (a b : ℕ) → follows (reverse path) a b ≡ follows path b a
follows_reversed [] a b = refl
follows_reversed (last ∷ []) a b = refl
follows_reversed (first ∷ next ∷ rest) a b =
    ap (λ (p : List EdgeId). follows p a b) (reverse_first first (next ∷ rest))
    ∙ (follows_more (reverse (next ∷ rest)) first a b
    ∙ mix (follows (next ∷ rest) b a) (a == next.0) (b == first.0) (follows_reversed (next ∷ rest) a b) (last_reversed next rest a))
  where
    mix : (p q r : Bool) {t u : Bool} → t ≡ p → u ≡ q → t || (u && r) ≡ (r && q) || p
    mix p q r h k = grind (arith, h, k)
