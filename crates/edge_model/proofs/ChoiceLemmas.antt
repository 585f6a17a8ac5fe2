-- What the choice among spokes depends on: of an edge, its place, its failure bits, the priorities of its spokes, and whether its ends
-- would forward. What was chosen before, and which status an end has told, change nothing of it.
use Rattle.std.proofs.Common.{◌≡◌, ◌∙◌, not, is_some, map, ℕ, List, [], ◌∷◌, Option, None, Some, option_and_then, option_map, slice_get, refl, sym, ap}
use Rattle.net_base.specs.declared.plan.Plan.{Plan}
use Rattle.net_base.specs.declared.plan.places.EdgeId.{EdgeId}
use Rattle.net_base.specs.declared.plan.places.ServiceId.{ServiceId}
use Rattle.net_base.specs.declared.plan.places.WireId.{WireId}
use Rattle.net_base.specs.declared.trace.down.Down.{Down}
use Rattle.pw_tlvs.specs.declared.pw_status.PwStatus.{PwStatus}
use Rattle.pw_signalling.specs.declared.binding.Binding.{Binding}
use Rattle.pw_signalling.specs.declared.end_role.EndRole.{EndRole}
use Rattle.pw_signalling.specs.declared.end_role.EndRole.TheVariants as role
use Rattle.pw_signalling.specs.Down.{down}
use Rattle.pw_signalling.specs.End.{EndState, LocalPart, Idle, Advertised, Withdrawing}
use Rattle.pw_signalling.specs.Rows.{tell_part, telling}
use Rattle.spoke_redundancy.specs.declared.spoke.Spoke.{Spoke}
use Rattle.spoke_redundancy.specs.Choice.{chosen}
use Rattle.edge_model.specs.declared.end_place.EndPlace.{EndPlace}
use Rattle.edge_model.specs.Spokes.{choice, choosing, spoke_at, spoke_places}
use Rattle.edge_model.specs.State.{EdgeState, end_at, with_chosen}
use Rattle.edge_model.specs.Work.{Work, changes}

-- ---- what an end tells of its status is no cause

-- why an end does not forward is as before once the end has told another status
pub telling_down : (role : EndRole) (bits : ℕ) (status : PwStatus) (end : EndState) → down role bits (telling status end) ≡ down role bits end
unfolding down
telling_down role bits status end = by end.local end.remote where
  by : (local : LocalPart) (remote : Option Binding) → down role bits (record { local = tell_part status local; remote = remote }) ≡ down role bits (record { local = local; remote = remote })
  by (Idle declined) remote = refl
  by (Advertised label told) None = refl
  by (Advertised label told) (Some binding) = refl
  by (Withdrawing label) remote = refl

-- ---- the same choice

-- where ends would forward as before, the choice is the same
pub choice_same : (plan : Plan) (old new : EdgeState) → new.me ≡ old.me → new.bits ≡ old.bits → new.priority ≡ old.priority
    → ((wire k bits : ℕ) → down role.Chosen bits (new.ends wire k) ≡ down role.Chosen bits (old.ends wire k))
    → (service : ServiceId) → choice plan new service ≡ choice plan old service
choice_same plan old new me bits priorities downs service =
    ap (λ (k : EdgeId). among k (map (spoke_at new) (spoke_places plan k service))) me ∙ ap (among old.me) (all (spoke_places plan old.me service))
  where
    among : EdgeId → List Spoke → Option WireId
    among me spokes = option_map (λ (place : EndPlace). place.wire) (option_and_then (slice_get (spoke_places plan me service)) (chosen spokes))

    one : (place : EndPlace) → spoke_at new place ≡ spoke_at old place
    one place =
        ap (λ (p : ℕ → ℕ). record { priority = p place.wire.0; usable = not (is_some (down role.Chosen (new.bits place.wire.0) (end_at new place))) }) priorities
        ∙ ap (λ (why : Option Down). record { priority = old.priority place.wire.0; usable = not (is_some why) })
        (ap (λ (b : ℕ → ℕ). down role.Chosen (b place.wire.0) (end_at new place)) bits ∙ downs place.wire.0 place.peer.0 (old.bits place.wire.0))

    all : (places : List EndPlace) → map (spoke_at new) places ≡ map (spoke_at old) places
    all [] = refl
    all (place ∷ places) = ap (λ (spoke : Spoke). spoke ∷ map (spoke_at new) places) (one place) ∙ ap (λ (spokes : List Spoke). spoke_at old place ∷ spokes) (all places)

-- ---- an edge that has chosen

-- the edge has chosen for each service as it would choose by now
abbrev pub HasChosen : Plan → EdgeState → Type 0
HasChosen plan edge = (service : ℕ) → edge.chosen service ≡ choice plan edge (record { 0 = service })

-- then it chooses the same again
pub choosing_not : (plan : Plan) (work : Work) → HasChosen plan work.edge → changes (choosing plan) work ≡ work
unfolding changes with_chosen
choosing_not plan work is = λ i. record work { edge = record (work.edge) { chosen = λ service. sym (is service) i } }

-- once it has chosen, it has
pub choosing_is : (plan : Plan) (work : Work) → HasChosen plan (changes (choosing plan) work).edge
unfolding changes with_chosen
choosing_is plan work service = refl
