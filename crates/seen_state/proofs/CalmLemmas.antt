-- What is seen of a service, whatever is under way.
use Rattle.std.proofs.Common.{◌≡◌, ◌∙◌, ◌∷◌, [], ℕ, List, refl, ap}
use Rattle.net_base.specs.declared.plan.Plan.{Plan}
use Rattle.net_base.specs.declared.plan.places.EdgeId.{EdgeId}
use Rattle.net_base.specs.declared.plan.places.ServiceId.{ServiceId}
use Rattle.net_base.specs.plan.Paths.{first_edge, last_edge}
use Rattle.seen_network.specs.Calm.{first_up, is_seen_calm, last_up}
use Rattle.seen_network.specs.Seen.{Seen}
use Rattle.seen_state.specs.SeenEdges.{ShowsEdges, SeenEdgeLists, shown_with, up_at}

-- ---- wires

pub first_is : (seen : Seen) (wire : ℕ) (path : List EdgeId) → up_at seen wire (first_edge path) ≡ first_up seen wire path
first_is seen wire [] = refl
first_is seen wire (e ∷ es) = refl

pub last_is : (seen : Seen) (wire : ℕ) (path : List EdgeId) → up_at seen wire (last_edge path) ≡ last_up seen wire path
last_is seen wire [] = refl
last_is seen wire (e ∷ []) = refl
last_is seen wire (e ∷ f ∷ es) = last_is seen wire (f ∷ es)

pub ruleset up_steps = (first_is, last_is)

-- ---- services

pub shown_calm : (plan : Plan) (seen_edges : SeenEdgeLists) (seen : Seen) (service : ServiceId) → ShowsEdges seen_edges seen → is_seen_calm plan (shown_with seen_edges []) service ≡ is_seen_calm plan seen service
unfolding shown_with
shown_calm plan seen_edges seen service shows = alone ∙ ap (λ (x : Seen). is_seen_calm plan x service) shows where
  alone : is_seen_calm plan (shown_with seen_edges []) service ≡ is_seen_calm plan (shown_with seen_edges seen.under_way) service
  alone = refl
