-- Levels of messages, by evaluation: of the wires of a triangle, and of a path over a switching point of which one way hangs.
use Rattle.std.proofs.Common.{◌≡◌, ℕ, false, [], ◌∷◌, refl}
use Rattle.net_base.specs.declared.plan.wire_plan.WirePlan.{WirePlan}
use Rattle.net_base.specs.declared.plan.wire_plan.Class.TheVariants.{Spoke}
use Rattle.edge_model.specs.State.{EdgeState}
use Rattle.network_model.specs.State.{empty_network}
use Rattle.flight_laws.proofs.UpExamples.{a_wire, an_offer, triangle}
use Rattle.rest_laws.specs.Levels.{Binds, Withdraws, Releases, States, Clears, level}

-- a spoke from one edge over another to a third, whose far offer has no statuses
abbrev over : WirePlan
over = record (a_wire [] Spoke 0 2 300 0) { path = record { 0 = 0 } ∷ record { 0 = 1 } ∷ record { 0 = 2 } ∷ []; far = record an_offer { status = false } }

-- no end has failure bits, or each one has
abbrev clear : ℕ → EdgeState
clear = (empty_network triangle).edges

abbrev failed : ℕ → EdgeState
failed k = record (clear k) { bits = λ wire. 1 }

-- a withdraw, its release, and the mapping after it, on each of two segments
first_withdraw : level clear 0 over 0 1 Withdraws ≡ 3
first_withdraw = refl

first_release : level clear 0 over 1 0 Releases ≡ 4
first_release = refl

first_mapping : level clear 0 over 0 1 Binds ≡ 5
first_mapping = refl

next_withdraw : level clear 0 over 1 2 Withdraws ≡ 6
next_withdraw = refl

-- the way onward hangs on the other one where its end has failure bits, and the other one hangs on nothing
hung_mapping : level failed 0 over 0 1 Binds ≡ 21
hung_mapping = refl

back_mapping : level failed 0 over 1 0 Binds ≡ 8
back_mapping = refl

-- statuses, of core edges and of spoke edges, and addresses
core_status : level clear 0 over 2 1 States ≡ 33
core_status = refl

spoke_status : level clear 0 over 1 2 States ≡ 50
spoke_status = refl

addresses : level clear 0 over 0 1 Clears ≡ 65
addresses = refl
