-- Whether frames left where they had to.
use Rattle.std.proofs.Common.{◌≡◌, ◌==◌, ◌<◌, ◌≤◌, ◌+◌, ◌&&◌, ◌||◌, ◌++◌, ◌∷◌, ◌∙◌, ◌⊎◌, [], inl, inr, ℕ, Bool, true, false, List, Option, Some, None, nat_lt, cond, min, refl, ap, sym, subst, arith, length}
use Rattle.std.proofs.lemmas.Bool.{eqb-true, or_parts}
use Rattle.std.proofs.lemmas.Bool.Decides.{nat_tests}
use Rattle.std.specs.List.{list_any}
use Rattle.hvpls_spokes.specs.PortSet.{holds_port}
use Rattle.net_base.specs.declared.plan.Plan.{Plan}
use Rattle.net_base.specs.declared.plan.places.CircuitId.{CircuitId}
use Rattle.net_base.specs.declared.trace.entry.Entry.{Entry}
use Rattle.net_base.specs.declared.trace.entry.Entry.TheVariants as entry
use Rattle.net_base.specs.plan.Accepted.{IsWithinLimits}
use Rattle.seen_network.specs.Once.{SeenWithin, times_seen}
use Rattle.seen_network.specs.Verdict.{IsFirstOwed, IsServed}
use Rattle.seen_network.specs.Windows.{AmongWindows}
use Rattle.seen_network.specs.declared.window.Window.{Window}
use Rattle.window_audit.specs.Exits.{ExitLists, HasExits, LeftTwice, has_left, is_again, is_far, leavings_of, left_far}
use Rattle.window_audit.specs.Verdict.{AgreeOrDiffer, DifferAtSites, Judges, earlier, is_owed_at}

-- ---- segments

near_one : (from origin hops : ℕ) → (from == origin && nat_lt 12 hops) ≡ false → from ≡ origin → hops ≤ 12
near_one from origin hops h same = by (nat_lt 12 hops) refl where
  by : (b : Bool) → nat_lt 12 hops ≡ b → hops ≤ 12
  by false is = grind (arith, nat_tests, is)
  by true is = absurd (grind (arith, sym h ∙ (ap (λ b. b && nat_lt 12 hops) (let e : (from == origin) ≡ true = grind (arith, nat_tests, same) in e) ∙ is)))

-- where none had come too far each came near enough
pub all_near : (origin : ℕ) (es : List Entry) → list_any (left_far origin) es ≡ false → SeenWithin 12 origin es
all_near origin [] h = tt
all_near origin (entry.Left at from hops octets ∷ es) h = (
  near_one from origin hops (or_parts (left_far origin (entry.Left at from hops octets)) (list_any (left_far origin) es) h).0,
  all_near origin es (or_parts (left_far origin (entry.Left at from hops octets)) (list_any (left_far origin) es) h).1,
)
all_near origin (entry.Idle ∷ es) h = all_near origin es h
all_near origin (entry.Said from to octets ∷ es) h = all_near origin es h
all_near origin (entry.In at number octets ∷ es) h = all_near origin es h
all_near origin (entry.Sent from to wire came packet from2 hops octets ∷ es) h = all_near origin es h
all_near origin (entry.Copied packet of ∷ es) h = all_near origin es h
all_near origin (entry.Aged packet ∷ es) h = all_near origin es h
all_near origin (entry.Dropped edge from cause ∷ es) h = all_near origin es h
all_near origin (entry.Session edge peer name ∷ es) h = all_near origin es h
all_near origin (entry.Wire edge wire down ∷ es) h = all_near origin es h
all_near origin (entry.Pong edge wire sequence ∷ es) h = all_near origin es h
all_near origin (entry.Did event ∷ es) h = all_near origin es h

one_near : (from origin hops : ℕ) → (from ≡ origin → hops ≤ 12) → (from == origin && nat_lt 12 hops) ≡ false
one_near from origin hops near = by (from == origin) refl where
  by : (b : Bool) → (from == origin) ≡ b → (b && nat_lt 12 hops) ≡ false
  by false is = refl
  by true is = grind (arith, nat_tests, near (eqb-true from origin is))

-- and the other way round
pub none_far : (origin : ℕ) (es : List Entry) → SeenWithin 12 origin es → list_any (left_far origin) es ≡ false
none_far origin [] h = refl
none_far origin (entry.Left at from hops octets ∷ es) h = ap (λ b. b || list_any (left_far origin) es) (one_near from origin hops h.0) ∙ none_far origin es h.1
none_far origin (entry.Idle ∷ es) h = none_far origin es h
none_far origin (entry.Said from to octets ∷ es) h = none_far origin es h
none_far origin (entry.In at number octets ∷ es) h = none_far origin es h
none_far origin (entry.Sent from to wire came packet from2 hops octets ∷ es) h = none_far origin es h
none_far origin (entry.Copied packet of ∷ es) h = none_far origin es h
none_far origin (entry.Aged packet ∷ es) h = none_far origin es h
none_far origin (entry.Dropped edge from cause ∷ es) h = none_far origin es h
none_far origin (entry.Session edge peer name ∷ es) h = none_far origin es h
none_far origin (entry.Wire edge wire down ∷ es) h = none_far origin es h
none_far origin (entry.Pong edge wire sequence ∷ es) h = none_far origin es h
none_far origin (entry.Did event ∷ es) h = none_far origin es h

-- ---- sites

-- a number of at most 1 is 1 where it is not 0
one_or_none : (n : ℕ) → n ≤ 1 → (b : Bool) → nat_lt 0 n ≡ b → n ≡ cond b 1 0
one_or_none n few true h = grind (arith, nat_tests, h, few)
one_or_none n few false h = grind (arith, nat_tests, h)

-- a frame that left twice at a circuit was not served
pub twice_not : (plan : Plan) (trace : List Entry) (window : Window) → LeftTwice window.origin trace → IsServed plan trace window → ⊥
twice_not plan trace window left served = by (is_owed_at plan window.sites left.circuit.0) (served.once left.circuit) where
  by : (b : Bool) → times_seen window.origin left.circuit trace ≡ cond b 1 0 → ⊥
  by true is = omega (arith, is, left.twice)
  by false is = omega (arith, is, left.twice)

pub far_not : (plan : Plan) (trace : List Entry) (window : Window) → list_any (left_far window.origin) trace ≡ true → IsServed plan trace window → ⊥
far_not plan trace window far served = grind (arith, sym far ∙ none_far window.origin trace served.within)

owed_one : (b : Bool) → nat_lt 0 (cond b 1 0) ≡ b
owed_one true = grind (arith, nat_tests)
owed_one false = grind (arith, nat_tests)

pub differ_not : (plan : Plan) (trace : List Entry) (window : Window) (exits : ExitLists) (at : List ℕ) → HasExits exits trace
    → ((c : ℕ) → holds_port at c ≡ has_left (leavings_of exits window.origin) c)
    → DifferAtSites plan window.sites at → IsServed plan trace window → ⊥
differ_not plan trace window exits at known at_is differ served = differ.differ
    (at_is differ.circuit ∙ (known.at window.origin (record { 0 = differ.circuit })
    ∙ (ap (nat_lt 0) (served.once (record { 0 = differ.circuit })) ∙ owed_one (is_owed_at plan window.sites differ.circuit))))

pub served : (plan : Plan) (trace : List Entry) (window : Window) (exits : ExitLists) (at : List ℕ) → IsWithinLimits plan → HasExits exits trace
    → is_again (leavings_of exits window.origin) ≡ false → is_far (leavings_of exits window.origin) ≡ false
    → ((c : ℕ) → holds_port at c ≡ has_left (leavings_of exits window.origin) c) → ((c : ℕ) → c < 512 → holds_port at c ≡ is_owed_at plan window.sites c) → IsServed plan trace window
served plan trace window exits at limits known once near at_is agree = record {
  once = λ circuit. by circuit (nat_lt circuit.0 512) refl;
  within = all_near window.origin trace (sym (known.far window.origin) ∙ near);
} where
  by : (circuit : CircuitId) → (b : Bool) → nat_lt circuit.0 512 ≡ b → times_seen window.origin circuit trace ≡ cond (is_owed_at plan window.sites circuit.0) 1 0
  by circuit true h = one_or_none (times_seen window.origin circuit trace) (known.once window.origin once circuit) (is_owed_at plan window.sites circuit.0)
      (sym (known.at window.origin circuit) ∙ (sym (at_is circuit.0) ∙ agree circuit.0 (let q : circuit.0 < 512 = grind (arith, nat_tests, h) in q)))
  by circuit false h = known.beyond window.origin circuit (let q : 512 ≤ circuit.0 = grind (arith, nat_tests, h) in q)
      ∙ sym (ap (λ b. cond (b && holds_port window.sites circuit.0) 1 0) (let q : nat_lt circuit.0 (length plan.circuits) ≡ false = grind (arith, nat_tests, h, limits.circuits) in q))

pub judged : (plan : Plan) (trace : List Entry) (window : Window) (exits : ExitLists) (at : List ℕ) (answer : Bool) → IsWithinLimits plan → HasExits exits trace
    → is_again (leavings_of exits window.origin) ≡ false → is_far (leavings_of exits window.origin) ≡ false
    → ((c : ℕ) → holds_port at c ≡ has_left (leavings_of exits window.origin) c) → AgreeOrDiffer plan window.sites at answer → Judges plan trace window answer
judged plan trace window exits at true limits known once near at_is agree = served plan trace window exits at limits known once near at_is agree
judged plan trace window exits at false limits known once near at_is differ = differ_not plan trace window exits at known at_is differ

pub refused_again : (plan : Plan) (trace : List Entry) (window : Window) (exits : ExitLists) → HasExits exits trace
    → is_again (leavings_of exits window.origin) ≡ true → Judges plan trace window false
refused_again plan trace window exits known again = twice_not plan trace window (known.again window.origin again)

pub refused_far : (plan : Plan) (trace : List Entry) (window : Window) (exits : ExitLists) → HasExits exits trace
    → is_far (leavings_of exits window.origin) ≡ true → Judges plan trace window false
refused_far plan trace window exits known far = far_not plan trace window (sym (known.far window.origin) ∙ far)

-- ---- the first

-- one of the first ones, or the last one
among_front : (w last : Window) (ws : List Window) → AmongWindows w ws → AmongWindows w (ws ++ last ∷ [])
among_front w last [] m = absurd m
among_front w last (v ∷ ws) (inl same) = inl same
among_front w last (v ∷ ws) (inr m) = inr (among_front w last ws m)

among_last : (last : Window) (ws : List Window) → AmongWindows last (ws ++ last ∷ [])
among_last last [] = inl refl
among_last last (v ∷ ws) = inr (among_last last ws)

among_either : (w last : Window) (ws : List Window) → AmongWindows w (ws ++ last ∷ []) → (w ≡ last) ⊎ AmongWindows w ws
among_either w last [] (inl same) = inl same
among_either w last [] (inr m) = absurd m
among_either w last (v ∷ ws) (inl same) = inr (inl same)
among_either w last (v ∷ ws) (inr m) = elim (among_either w last ws m) [ inl same ↦ inl same | inr k ↦ inr (inr k) ]

pub one_served : (plan : Plan) (trace : List Entry) (ws : List Window) (last : Window) (first : Option ℕ) → IsServed plan trace last → IsFirstOwed plan trace ws first
    → IsFirstOwed plan trace (ws ++ last ∷ []) first
one_served plan trace ws last None served all = λ w m. elim (among_either w last ws m) [ inl same ↦ subst (IsServed plan trace) (sym same) served | inr k ↦ all w k ]
one_served plan trace ws last (Some place) served is = (
  record { window = is.0.window; owes = among_front is.0.window last ws is.0.owes; place_is = is.0.place_is; unserved = is.0.unserved },
  λ w m not. elim (among_either w last ws m) [ inl same ↦ absurd (not (subst (IsServed plan trace) (sym same) served)) | inr k ↦ is.1 w k not ],
)

pub one_unserved : (plan : Plan) (trace : List Entry) (ws : List Window) (last : Window) (first : Option ℕ) → (IsServed plan trace last → ⊥) → IsFirstOwed plan trace ws first
    → IsFirstOwed plan trace (ws ++ last ∷ []) (Some (earlier first last.place))
one_unserved plan trace ws last None not all = (
  record { window = last; owes = among_last last ws; place_is = refl; unserved = not },
  λ w m other. elim (among_either w last ws m) [ inl same ↦ omega (arith, ap (λ (v : Window). v.place) same) | inr k ↦ absurd (other (all w k)) ],
)
one_unserved plan trace ws last (Some place) not is = by (nat_lt last.place place) refl where
  by : (b : Bool) → nat_lt last.place place ≡ b → IsFirstOwed plan trace (ws ++ last ∷ []) (Some (min place last.place))
  by true less = (
    record { window = last; owes = among_last last ws; place_is = (let q : last.place ≡ min place last.place = grind (arith, nat_tests, less) in q); unserved = not },
    λ w m other. elim (among_either w last ws m) [
      | inl same ↦ grind (arith, nat_tests, less, ap (λ (v : Window). v.place) same)
      | inr k ↦ grind (arith, nat_tests, less, is.1 w k other)
    ],
  )
  by false more = (
    record {
      window = is.0.window;
      owes = among_front is.0.window last ws is.0.owes;
      place_is = (let q : is.0.window.place ≡ min place last.place = grind (arith, nat_tests, more, is.0.place_is) in q);
      unserved = is.0.unserved;
    },
    λ w m other. elim (among_either w last ws m) [
      | inl same ↦ grind (arith, nat_tests, more, ap (λ (v : Window). v.place) same)
      | inr k ↦ grind (arith, nat_tests, more, is.1 w k other)
    ],
  )
