-- What messages are worth in the triangle of two core edges and a spoke edge, by evaluation, and the bound once its connections have begun.
use Rattle.std.proofs.Common.{◌≡◌, ◌||◌, ℕ, suc, cond, nat_eq, List, [], ◌∷◌, Some, refl}
use Rattle.net_base.specs.declared.trace.event.Event.TheVariants.{Connect}
use Rattle.edge_model.specs.State.{EdgeState}
use Rattle.network_model.specs.State.{empty_network, stands}
use Rattle.flight_laws.proofs.UpExamples.{a, b, evaluated, reached, triangle, x}
use Rattle.flight_laws.proofs.WholeMessageLemmas.{Happens, Moment}
use Rattle.quiet_laws.specs.Measure.{sum_below}
use Rattle.rest_laws.specs.Levels.{Binds, Clears, States, level_at}
use Rattle.settle_bounds.specs.Bound.{end_worth}
use Rattle.settle_bounds.specs.Worth.{beside, worth}

-- no edge has failure bits
abbrev idle : ℕ → EdgeState
idle = (empty_network triangle).edges

-- a status of the spoke edge to a core edge comes to an end there, and so does a mapping
ended : (deep : ℕ) → worth triangle idle (suc deep) 2 1 0 States ≡ 1
unfolding evaluated
ended deep = refl

mapped : (deep : ℕ) → worth triangle idle (suc deep) 2 1 0 Binds ≡ 1
unfolding evaluated
mapped deep = refl

-- a withdrawal of addresses from the spoke edge: one to a, two by b back to the spoke edge, and one back by the spoke by which it came
cleared : (deep : ℕ) → worth triangle idle (suc (suc (suc deep))) 2 1 0 Clears ≡ 4
unfolding evaluated
cleared deep = refl

-- a status from a core edge: the spoke edge may choose again, and tell its two spokes a status and a withdrawal each; so a mapping
stated : (deep : ℕ) → worth triangle idle (suc (suc (suc (suc deep)))) 0 1 2 States ≡ 11
unfolding evaluated
stated deep = refl

chosen_anew : (deep : ℕ) → worth triangle idle (suc (suc (suc (suc deep)))) 0 1 2 Binds ≡ 11
unfolding evaluated
chosen_anew deep = refl

-- as many levels are left above each of these: 112 less its own
level : level_at triangle idle 0 States (beside 1 2) ≡ Some 33
unfolding evaluated
level = refl

-- ---- once the three connections have begun

abbrev opened : List Moment
opened = Happens (Connect a b) ∷ Happens (Connect a x) ∷ Happens (Connect b x) ∷ []

-- what an end puts once its session comes up: a mapping, and at the spoke edge a status and a withdrawal on each spoke besides
abbrev rises : ℕ → ℕ → ℕ
rises me peer = cond (nat_eq me 2 || nat_eq peer 2) 11 1

-- all sessions together; with the three Initialization messages that are on their way no more than 79 deliveries follow
sessions : sum_below (λ me. sum_below (λ peer. end_worth (stands (reached opened) peer me) (rises me peer) 0 (((reached opened).edges me).peering peer)) 3) 3 ≡ 76
unfolding evaluated
sessions = refl
