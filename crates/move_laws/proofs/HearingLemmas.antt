-- Messages that are heard in order: a withdrawal of addresses that is said last, by an end that advertises, comes where it is heeded.
use Rattle.std.proofs.Common.{◌≡◌, ◌&&◌, ◌||◌, ◌++◌, ◌∙◌, ◌⊎◌, inl, inr, not, ℕ, Bool, true, false, List, [], ◌∷◌, refl, sym, ap}
use Rattle.std.proofs.lemmas.Bool.{or_right, or_left}
use Rattle.net_values.proofs.BoolLemmas.{clash}
use Rattle.ldp_grammar.specs.declared.message.Message.{Message}
use Rattle.move_laws.specs.Clearing.{clears}
use Rattle.move_laws.specs.Clearing.{binds, come_unbound, is_bound_by, is_cleared_by}
use Rattle.move_laws.specs.Healing.{IsMet}

or_true : (b : Bool) → b || true ≡ true
or_true true = refl
or_true false = refl

-- one that holds a binding holds one on
pub bound_on : (pw_id : ℕ) (messages : List Message) → is_bound_by pw_id true messages ≡ true
bound_on pw_id [] = refl
bound_on pw_id (m ∷ ms) = bound_on pw_id ms

-- more messages
pub bound_joined : (pw_id : ℕ) (bound : Bool) (ms ns : List Message) → is_bound_by pw_id bound (ms ++ ns) ≡ is_bound_by pw_id (is_bound_by pw_id bound ms) ns
bound_joined pw_id bound [] ns = refl
bound_joined pw_id bound (m ∷ ms) ns = bound_joined pw_id (bound || binds pw_id m) ms ns

-- what is said last, once all before it have bound the end
pub cleared_last : (pw_id : ℕ) (bound : Bool) (ms : List Message) (m : Message) → is_bound_by pw_id bound ms ≡ true → clears pw_id m ≡ true → is_cleared_by pw_id bound (ms ++ m ∷ []) ≡ true
cleared_last pw_id bound [] m is clear = rw (is, clear) refl
cleared_last pw_id bound (x ∷ xs) m is clear =
    or_right (bound && clears pw_id x) (is_cleared_by pw_id (bound || binds pw_id x) (xs ++ m ∷ [])) (cleared_last pw_id (bound || binds pw_id x) xs m is clear)

-- more is said
pub cleared_more : (pw_id : ℕ) (bound : Bool) (ms ns : List Message) → is_cleared_by pw_id bound ms ≡ true → is_cleared_by pw_id bound (ms ++ ns) ≡ true
cleared_more pw_id bound [] ns is = clash is
cleared_more pw_id bound (x ∷ xs) ns is = by (bound && clears pw_id x) (cleared_more pw_id (bound || binds pw_id x) xs ns) is where
  by : (b : Bool) → (is_cleared_by pw_id (bound || binds pw_id x) xs ≡ true → is_cleared_by pw_id (bound || binds pw_id x) (xs ++ ns) ≡ true)
      → b || is_cleared_by pw_id (bound || binds pw_id x) xs ≡ true → b || is_cleared_by pw_id (bound || binds pw_id x) (xs ++ ns) ≡ true
  by true more is = refl
  by false more is = more is

-- the next message is heard: it clears at an end that is bound, or one behind it does
pub cleared_next : (pw_id : ℕ) (bound : Bool) (m : Message) (ms : List Message) → is_cleared_by pw_id bound (m ∷ ms) ≡ true
    → (bound && clears pw_id m ≡ true) ⊎ (is_cleared_by pw_id (bound || binds pw_id m) ms ≡ true)
cleared_next pw_id bound m ms is = by (bound && clears pw_id m) refl is where
  by : (b : Bool) → bound && clears pw_id m ≡ b → b || is_cleared_by pw_id (bound || binds pw_id m) ms ≡ true
      → (bound && clears pw_id m ≡ true) ⊎ (is_cleared_by pw_id (bound || binds pw_id m) ms ≡ true)
  by true here is = inl here
  by false away is = inr is

-- one that takes it sooner takes it too
may_take : (a b c : Bool) → (a ≡ true → b ≡ true) → a || c ≡ true → b || c ≡ true
may_take true b c follows is = ap (λ (d : Bool). d || c) (follows refl)
may_take false true c follows is = refl
may_take false false c follows is = is

left_too : (a b c : Bool) → (a ≡ true → b ≡ true) → a && c ≡ true → b && c ≡ true
left_too true b c follows is = ap (λ (d : Bool). d && c) (follows refl) ∙ is
left_too false b c follows is = clash is

pub cleared_where : (pw_id : ℕ) (a b : Bool) (ms : List Message) → (a ≡ true → b ≡ true) → is_cleared_by pw_id a ms ≡ true → is_cleared_by pw_id b ms ≡ true
cleared_where pw_id a b [] follows is = clash is
cleared_where pw_id a b (m ∷ ms) follows is =
    by (a && clears pw_id m) refl (cleared_where pw_id (a || binds pw_id m) (b || binds pw_id m) ms (may_take a b (binds pw_id m) follows)) is
  where
    by : (here : Bool) → a && clears pw_id m ≡ here → (is_cleared_by pw_id (a || binds pw_id m) ms ≡ true → is_cleared_by pw_id (b || binds pw_id m) ms ≡ true)
        → here || is_cleared_by pw_id (a || binds pw_id m) ms ≡ true
        → (b && clears pw_id m) || is_cleared_by pw_id (b || binds pw_id m) ms ≡ true
    by true here more later = or_left (b && clears pw_id m) (is_cleared_by pw_id (b || binds pw_id m) ms) (left_too a b (clears pw_id m) follows here)
    by false away more later = or_right (b && clears pw_id m) (is_cleared_by pw_id (b || binds pw_id m) ms) (more later)

-- one that holds a binding sooner holds one at the end too
pub bound_sooner : (pw_id : ℕ) (a b : Bool) (ms : List Message) → (a ≡ true → b ≡ true) → is_bound_by pw_id a ms ≡ true → is_bound_by pw_id b ms ≡ true
bound_sooner pw_id a b [] follows is = follows is
bound_sooner pw_id a b (m ∷ ms) follows is = bound_sooner pw_id (a || binds pw_id m) (b || binds pw_id m) ms (may_take a b (binds pw_id m) follows) is

-- ---- an end and its neighbour

not_both : (a b c : Bool) → not (a && b) && c ≡ true → c ≡ true
not_both true true c is = clash is
not_both true false c is = is
not_both false b c is = is

pub unbound_joined : (pw_id : ℕ) (bound : Bool) (ms ns : List Message) → come_unbound pw_id bound ms ≡ true → come_unbound pw_id (is_bound_by pw_id bound ms) ns ≡ true
    → come_unbound pw_id bound (ms ++ ns) ≡ true
unbound_joined pw_id bound [] ns one other = other
unbound_joined pw_id bound (m ∷ ms) ns one other =
    both_hold (not (bound && binds pw_id m)) (come_unbound pw_id (bound || binds pw_id m) ms) (come_unbound pw_id (bound || binds pw_id m) (ms ++ ns)) one
    (λ later. unbound_joined pw_id (bound || binds pw_id m) ms ns later other)
  where
    both_hold : (a b c : Bool) → a && b ≡ true → (b ≡ true → c ≡ true) → a && c ≡ true
    both_hold true b c is follows = follows is
    both_hold false b c is follows = clash is

-- messages behind others
pub met_joined : (pw_id : ℕ) (bound told last : Bool) (ms ns : List Message) → IsMet pw_id bound ms told → IsMet pw_id told ns last → IsMet pw_id bound (ms ++ ns) last
met_joined pw_id bound told last ms ns one other = record {
  agrees = bound_joined pw_id bound ms ns ∙ (ap (λ (b : Bool). is_bound_by pw_id b ns) one.agrees ∙ other.agrees);
  unbound = unbound_joined pw_id bound ms ns one.unbound (ap (λ (b : Bool). come_unbound pw_id b ns) one.agrees ∙ other.unbound);
}

or_none : (b : Bool) → b || false ≡ b
or_none true = refl
or_none false = refl

-- one more message that binds nothing
pub met_said : (pw_id : ℕ) (told : Bool) (m : Message) → binds pw_id m ≡ false → IsMet pw_id told (m ∷ []) told
met_said pw_id told m none = record { agrees = ap (λ (b : Bool). told || b) none ∙ or_none told; unbound = ap (λ (b : Bool). not (told && b) && true) none ∙ neither told } where
  neither : (b : Bool) → not (b && false) && true ≡ true
  neither true = refl
  neither false = refl

-- and one that binds an end which was told nothing
pub met_bound : (pw_id : ℕ) (m : Message) → binds pw_id m ≡ true → IsMet pw_id false (m ∷ []) true
met_bound pw_id m binds_it = record { agrees = binds_it; unbound = refl }

-- the next one is heard
pub met_next : (pw_id : ℕ) (bound told : Bool) (m : Message) (ms : List Message) → IsMet pw_id bound (m ∷ ms) told → IsMet pw_id (bound || binds pw_id m) ms told
met_next pw_id bound told m ms met = record { agrees = met.agrees; unbound = not_both bound (binds pw_id m) (come_unbound pw_id (bound || binds pw_id m) ms) met.unbound }

-- a mapping comes to an end that holds nothing
pub met_unbound : (pw_id : ℕ) (bound told : Bool) (m : Message) (ms : List Message) → IsMet pw_id bound (m ∷ ms) told → binds pw_id m ≡ true → bound ≡ false
met_unbound pw_id bound told m ms met binds_it = by bound (come_unbound pw_id (bound || binds pw_id m) ms)
    (ap (λ (b : Bool). not (bound && b) && come_unbound pw_id (bound || binds pw_id m) ms) (sym binds_it) ∙ met.unbound) where
      by : (b c : Bool) → not (b && true) && c ≡ true → b ≡ false
      by true c is = clash is
      by false c is = refl
