-- What a step of a stretch serves of a frame to a known station: its site as often as that is owed, and no other one more often.
use Rattle.std.proofs.Common.{◌≡◌, ◌≤◌, ◌+◌, ◌++◌, ℕ, true, List, ◌∷◌, refl, arith}
use Rattle.net_base.specs.declared.plan.Plan.{Plan}
use Rattle.net_base.specs.declared.plan.places.CircuitId.{CircuitId}
use Rattle.net_base.specs.declared.plan.places.ServiceId.{ServiceId}
use Rattle.net_base.specs.declared.trace.event.Event.{Event}
use Rattle.net_base.specs.declared.trace.entry.Entry.TheVariants.{Did}
use Rattle.network_model.specs.Absorb.{Stepped}
use Rattle.network_model.specs.OnceEach.{times_left}
use Rattle.network_model.specs.Reach.{is_site}
use Rattle.network_model.specs.State.{NetworkState}
use Rattle.network_model.proofs.AbsorbLemmas.{times_left-append, within-append}
use Rattle.flood_laws.proofs.CountLemmas.{due}
use Rattle.flood_laws.proofs.ServeLemmas.{Serves, serves_told}

-- the step serves each site so often, or leaves it due: one of them as often as it is owed, and any other one no more often
pub record ServesSite (plan : Plan) (calm : NetworkState) (service : ServiceId) (target : CircuitId) (frame : List ℕ) (origin : ℕ) (owed : CircuitId → ℕ) (stepped : Stepped) : Type 0 where
  pub given : CircuitId → ℕ
  pub serves : Serves plan calm service frame origin given stepped
  pub same : given target ≡ owed target
  pub most : (circuit : CircuitId) → is_site plan calm service circuit ≡ true → given circuit ≤ owed circuit

module _ (plan : Plan) (calm : NetworkState) (service : ServiceId) (target : CircuitId) (frame : List ℕ) (origin : ℕ) where
  -- each site as often as it is owed
  pub serves_each : (owed : CircuitId → ℕ) (stepped : Stepped) → Serves plan calm service frame origin owed stepped → ServesSite plan calm service target frame origin owed stepped
  serves_each owed stepped serves = record { given = owed; serves = serves; same = refl; most = λ circuit site. equal (owed circuit) } where
    equal : (n : ℕ) → n ≤ n
    equal n = omega arith

  -- the event is told before
  pub serves_site_told : (owed : CircuitId → ℕ) (event : Event) (stepped : Stepped) → ServesSite plan calm service target frame origin owed stepped
      → ServesSite plan calm service target frame origin owed (record { state = stepped.state; entries = Did event ∷ stepped.entries })
  serves_site_told owed event stepped serves =
      record { given = serves.given; serves = serves_told plan calm service frame origin serves.given event stepped serves.serves; same = serves.same; most = serves.most }

  -- one step after another
  pub serves_site_then : (owed : CircuitId → ℕ) (first next : Stepped) → is_site plan calm service target ≡ true → ServesSite plan calm service target frame origin owed first
      → ServesSite plan calm service target frame origin (λ circuit. due plan calm service circuit origin first.state) next
      → ServesSite plan calm service target frame origin owed (record { state = next.state; entries = first.entries ++ next.entries })
  serves_site_then owed first next on here later = record {
    given = λ circuit. times_left origin circuit first.entries + later.given circuit;
    serves = record {
      copies = later.serves.copies;
      balance = λ circuit site. omega (arith, times_left-append origin circuit first.entries next.entries, later.serves.balance circuit site);
      none = λ circuit away. omega (arith, times_left-append origin circuit first.entries next.entries, here.serves.none circuit away, later.serves.none circuit away);
      within = within-append 12 origin first.entries next.entries here.serves.within later.serves.within;
    };
    same = omega (arith, here.serves.balance target on, here.same, later.same);
    most = λ circuit site. omega (arith, here.serves.balance circuit site, here.most circuit site, later.most circuit site);
  }
