-- Whether frames left where they had to.
use Rattle.std.specs.Prelude.{◌≡◌, ◌<◌, ◌&&◌, nat_lt, ℕ, Bool, true, false, List, Option, Some, None, length, min}
use Rattle.hvpls_spokes.specs.PortSet.{holds_port}
use Rattle.net_base.specs.declared.plan.Plan.{Plan}
use Rattle.net_base.specs.declared.trace.entry.Entry.{Entry}
use Rattle.seen_network.specs.Verdict.{IsServed}
use Rattle.seen_network.specs.declared.window.Window.{Window}

-- the circuit is a site, and one of the plan
abbrev pub is_owed_at : Plan → List ℕ → ℕ → Bool
is_owed_at plan sites circuit = nat_lt circuit (length plan.circuits) && holds_port sites circuit

-- a frame left at a circuit that is no site, or did not leave at a site
pub record DifferAtSites (plan : Plan) (sites at : List ℕ) : Type 0 where
  pub circuit : ℕ
  pub differ : holds_port at circuit ≡ is_owed_at plan sites circuit → ⊥

-- whether a frame left at the sites alone
abbrev pub AgreeOrDiffer : Plan → List ℕ → List ℕ → Bool → Type 0
AgreeOrDiffer plan sites at true = (circuit : ℕ) → circuit < 512 → holds_port at circuit ≡ is_owed_at plan sites circuit
AgreeOrDiffer plan sites at false = DifferAtSites plan sites at

-- whether the frame of the window was served
abbrev pub Judges : Plan → List Entry → Window → Bool → Type 0
Judges plan trace window true = IsServed plan trace window
Judges plan trace window false = IsServed plan trace window → ⊥

-- a place, or one before it
abbrev pub earlier : Option ℕ → ℕ → ℕ
earlier None place = place
earlier (Some first) place = min first place
