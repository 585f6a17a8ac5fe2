-- What the windows that are owed tell of the trace.
use Rattle.std.proofs.Common.{◌≡◌, ◌==◌, ◌≤◌, ◌&&◌, ◌∷◌, ◌∙◌, [], ℕ, zero, suc, Bool, true, false, not, nat_lt, List, Option, Some, None, cond, refl, ap, sym, subst, arith, length, slice_get}
use Rattle.std.proofs.lemmas.Bool.Decides.{nat_tests}
use Rattle.net_base.specs.declared.plan.Plan.{Plan}
use Rattle.net_base.specs.declared.plan.circuit_plan.CircuitPlan.{CircuitPlan}
use Rattle.net_base.specs.declared.plan.places.CircuitId.{CircuitId}
use Rattle.net_base.specs.declared.plan.places.ServiceId.{ServiceId}
use Rattle.net_base.specs.declared.trace.entry.Entry.{Entry}
use Rattle.hvpls_spokes.specs.PortSet.{holds_port}
use Rattle.seen_network.specs.Once.{SeenServed, SeenWithin, is_circuit_row_of, is_seen_site, times_seen}
use Rattle.seen_network.specs.Seen.{seen_in}
use Rattle.seen_network.specs.Windows.{AreOwed, Describes, IsOwed, Lists}
use Rattle.seen_network.specs.Verdict.{IsFirstOwed, IsOwing, IsServed, OnceAnswers, Unserved}
use Rattle.seen_network.specs.declared.window.Window.{Window}

-- no row stands behind the last one
no_row : (xs : List CircuitPlan) (n : ℕ) → nat_lt n (length xs) ≡ false → slice_get xs n ≡ None
no_row [] n past = refl
no_row (x ∷ xs) zero past = absurd (grind (arith, nat_tests, past))
no_row (x ∷ xs) (suc n) past = no_row xs n (grind (arith, nat_tests, past))

-- a site is one of the window's where it is one by the trace
site_is : (plan : Plan) (before : List Entry) (circuit : CircuitId) (octets : List ℕ) (during : List Entry) (service : ServiceId) (origin : ℕ) (window : Window)
    → Describes plan before circuit octets during service origin window → (site : CircuitId)
    → nat_lt site.0 (length plan.circuits) && holds_port window.sites site.0 ≡ is_seen_site plan (seen_in before) service site && not (site.0 == circuit.0)
site_is plan before circuit octets during service origin window d site = by (nat_lt site.0 (length plan.circuits)) refl where
  by : (b : Bool) → nat_lt site.0 (length plan.circuits) ≡ b → b && holds_port window.sites site.0 ≡ is_seen_site plan (seen_in before) service site && not (site.0 == circuit.0)
  by true within = d.sites site (grind (arith, nat_tests, within))
  by false past = sym (ap (λ (row : Option CircuitPlan). (is_circuit_row_of service row && (seen_in before).on site.0) && not (site.0 == circuit.0)) (no_row plan.circuits site.0 past))

-- once at each site by the window is once at each site by the trace
served : (plan : Plan) (trace before : List Entry) (circuit : CircuitId) (octets : List ℕ) (during : List Entry) (service : ServiceId) (origin : ℕ) (window : Window)
    → Describes plan before circuit octets during service origin window → IsServed plan trace window → SeenServed 12 plan (seen_in before) circuit service origin trace
served plan trace before circuit octets during service origin window d s = record {
  once = λ site. ap (λ (o : ℕ). times_seen o site trace) (sym d.origin_is) ∙ (s.once site ∙ ap (λ (b : Bool). one_if b) (site_is plan before circuit octets during service origin window d site));
  within = subst (λ (o : ℕ). SeenWithin 12 o trace) d.origin_is s.within;
} where
  one_if : Bool → ℕ
  one_if b = cond b 1 0

unserved_of : (plan : Plan) (trace before : List Entry) (circuit : CircuitId) (octets : List ℕ) (during : List Entry) (service : ServiceId) (origin : ℕ) (window : Window)
    → Describes plan before circuit octets during service origin window → SeenServed 12 plan (seen_in before) circuit service origin trace → IsServed plan trace window
unserved_of plan trace before circuit octets during service origin window d s = record {
  once = λ site. ap (λ (o : ℕ). times_seen o site trace) d.origin_is ∙ (s.once site ∙ ap (λ (b : Bool). one_if b) (sym (site_is plan before circuit octets during service origin window d site)));
  within = subst (λ (o : ℕ). SeenWithin 12 o trace) (sym d.origin_is) s.within;
} where
  one_if : Bool → ℕ
  one_if b = cond b 1 0

pub answered : (plan : Plan) (trace : List Entry) (owed : List Window) (answer : Option ℕ) → AreOwed plan trace owed → IsFirstOwed plan trace owed answer → OnceAnswers plan trace answer
answered plan trace owed None are first = λ before circuit octets during after service origin is begins shown.
    all before circuit octets during service origin (are.each before circuit octets during after service origin is begins shown) where
      all : (before : List Entry) (circuit : CircuitId) (octets : List ℕ) (during : List Entry) (service : ServiceId) (origin : ℕ) → Lists plan before circuit octets during service origin owed
          → SeenServed 12 plan (seen_in before) circuit service origin trace
      all before circuit octets during service origin l = served plan trace before circuit octets during service origin l.window l.describes (first l.window l.listed)
answered plan trace owed (Some place) are first = record { unserved = at first.0; first = λ other u. least other u (are.each u.before u.circuit u.octets u.during u.after u.service u.origin u.is u.begins u.shown) } where
  at : IsOwing plan trace owed place → Unserved plan trace place
  at o = from (are.only o.window o.owes) where
    from : IsOwed plan trace o.window → Unserved plan trace place
    from w = record {
      before = w.before;
      circuit = w.circuit;
      octets = w.octets;
      during = w.during;
      after = w.after;
      service = w.service;
      origin = w.origin;
      is = w.is;
      begins = w.begins;
      shown = w.shown;
      unserved = λ s. o.unserved (unserved_of plan trace w.before w.circuit w.octets w.during w.service w.origin o.window w.describes s);
      place_is = sym o.place_is ∙ w.describes.place;
    }

  least : (other : ℕ) (u : Unserved plan trace other) → Lists plan u.before u.circuit u.octets u.during u.service u.origin owed → place ≤ other
  least other u l =
      subst (λ (n : ℕ). place ≤ n) (l.describes.place ∙ sym u.place_is)
      (first.1 l.window l.listed (λ s. u.unserved (served plan trace u.before u.circuit u.octets u.during u.service u.origin l.window l.describes s)))
