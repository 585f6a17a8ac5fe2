-- The first windows of frames, and those behind them.
use Rattle.std.proofs.Common.{◌≡◌, ◌==◌, ◌++◌, ◌∷◌, ◌∙◌, [], ℕ, Bool, true, false, List, Option, Some, None, cond, refl, ap, ap₂, sym, append_assoc}
use Rattle.std.proofs.lemmas.Bool.{eqb-true}
use Rattle.std.specs.List.{filter}
use Rattle.seen_state.specs.Numbered.{Values, value_at}
use Rattle.seen_network.specs.declared.window.Window.{Window}
use Rattle.window_audit.specs.OpenWindows.{WindowsByOrigin, others_at, windows_at, with_first}

pub none_open : (firsts : Values Window) (others : List (ℕ × List Window)) (origin : ℕ) → value_at firsts origin ≡ None → others ≡ [] → windows_at (record { firsts = firsts; others = others }) origin ≡ []
none_open firsts others origin none empty = ap₂ (λ f os. with_first f (others_at os origin)) none empty

no_first : (f : Option Window) (os : List Window) → with_first f os ≡ [] → os ≡ []
no_first None os is = is
no_first (Some w) os is = absurd (cc (is))

pub first_put : (old new : Values Window) (others : List (ℕ × List Window)) (window : Window) → windows_at (record { firsts = old; others = others }) window.origin ≡ []
    → ((n : ℕ) → value_at new n ≡ cond (n == window.origin) (Some window) (value_at old n))
    → (o : ℕ) → windows_at (record { firsts = new; others = others }) o
    ≡ cond (o == window.origin) (windows_at (record { firsts = old; others = others }) o ++ window ∷ []) (windows_at (record { firsts = old; others = others }) o)
first_put old new others window none put o = ap (λ f. with_first f (others_at others o)) (put o) ∙ by (o == window.origin) refl where
  by : (b : Bool) → (o == window.origin) ≡ b → with_first (cond b (Some window) (value_at old o)) (others_at others o)
      ≡ cond b (with_first (value_at old o) (others_at others o) ++ window ∷ []) (with_first (value_at old o) (others_at others o))
  by true here =
      let at : with_first (value_at old o) (others_at others o) ≡ [] = ap (λ n. with_first (value_at old n) (others_at others n)) (eqb-true o window.origin here) ∙ none in
      ap (λ (os : List Window). window ∷ os) (no_first (value_at old o) (others_at others o) at) ∙ sym (ap (λ (os : List Window). os ++ window ∷ []) at)
  by false away = refl

behind : (f : Option Window) (os : List Window) (w : Window) → with_first f (os ++ w ∷ []) ≡ with_first f os ++ w ∷ []
behind None os w = refl
behind (Some f) os w = refl

pub behind_put : (old mid new : WindowsByOrigin) (window : Window) (windows more : List Window) → mid.firsts ≡ old.firsts → new.firsts ≡ mid.firsts → windows ≡ others_at old.others window.origin
    → more ≡ windows ++ window ∷ [] → ((n : ℕ) → others_at mid.others n ≡ cond (n == window.origin) [] (others_at old.others n))
    → ((n : ℕ) → others_at new.others n ≡ cond (n == window.origin) more (others_at mid.others n))
    → (o : ℕ) → windows_at new o ≡ cond (o == window.origin) (windows_at old o ++ window ∷ []) (windows_at old o)
behind_put old mid new window windows more first next took grew left put o =
    ap₂ (λ (f : Values Window) (os : List Window). with_first (value_at f o) os) (next ∙ first) (put o ∙ ap (cond (o == window.origin) more) (left o)) ∙ by (o == window.origin) refl where
      by : (b : Bool) → (o == window.origin) ≡ b → with_first (value_at old.firsts o) (cond b more (cond b [] (others_at old.others o))) ≡ cond b (windows_at old o ++ window ∷ []) (windows_at old o)
      by true here = ap (with_first (value_at old.firsts o)) (grew ∙ ap (λ (os : List Window). os ++ window ∷ []) (took ∙ ap (others_at old.others) (sym (eqb-true o window.origin here))))
          ∙ behind (value_at old.firsts o) (others_at old.others o) window
      by false away = refl

pub both_gone : (old new : WindowsByOrigin) (mid : Values Window) (origin : ℕ) → ((n : ℕ) → value_at mid n ≡ cond (n == origin) None (value_at old.firsts n)) → new.firsts ≡ mid
    → ((n : ℕ) → others_at new.others n ≡ cond (n == origin) [] (others_at old.others n)) → (o : ℕ) → windows_at new o ≡ cond (o == origin) [] (windows_at old o)
both_gone old new mid origin first same left o = ap₂ with_first (ap (λ (f : Values Window). value_at f o) same ∙ first o) (left o) ∙ by (o == origin) where
  by : (b : Bool) → with_first (cond b None (value_at old.firsts o)) (cond b [] (others_at old.others o)) ≡ cond b [] (windows_at old o)
  by true = refl
  by false = refl

pub owed_both : (flooded : Window → Bool) (w : Window) (ws owed one all : List Window) → one ≡ owed ++ cond (flooded w) (w ∷ []) [] → all ≡ one ++ filter flooded ws → all ≡ owed ++ filter flooded (w ∷ ws)
owed_both flooded w ws owed one all first rest =
    rest ∙ (ap (λ (os : List Window). os ++ filter flooded ws) first ∙ (append_assoc owed (cond (flooded w) (w ∷ []) []) (filter flooded ws) ∙ ap (λ (os : List Window). owed ++ os) (by (flooded w)))) where
      by : (b : Bool) → cond b (w ∷ []) [] ++ filter flooded ws ≡ cond b (w ∷ filter flooded ws) (filter flooded ws)
      by true = refl
      by false = refl
