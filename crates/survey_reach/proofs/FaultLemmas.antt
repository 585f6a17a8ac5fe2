-- The list of the faults, row by row.
use Rattle.std.proofs.Common.{◌≡◌, ◌<◌, ◌≤◌, ◌+◌, ◌++◌, ◌||◌, ◌∙◌, ℕ, Bool, true, false, List, [], ◌∷◌, Option, Some, None, drop, length, slice_index_or, refl, ap, arith, sym}
use Rattle.std.proofs.lemmas.List.{append-nil, append_assoc, drop_all, drop_more}
use Rattle.net_base.specs.declared.plan.Plan.{Plan}
use Rattle.net_base.specs.declared.plan.edge_plan.EdgePlan.{EdgePlan}
use Rattle.net_base.specs.declared.plan.wire_plan.WirePlan.{WirePlan}
use Rattle.network_model.specs.State.{NetworkState}
use Rattle.survey_laws.specs.declared.fault.Fault.{Fault}
use Rattle.survey_laws.specs.declared.fault.Fault.TheVariants as fault
use Rattle.survey_laws.specs.Faults.{where_so, with_fault}
use Rattle.survey_reach.specs.declared.ground.Ground.{Ground}
use Rattle.survey_reach.specs.Ground.{IsGroundOf, are_peers, number_of, sound_at}
use Rattle.survey_reach.specs.FaultList.{all_faults, edges_from, has_peer, least_rival, priorities_from, renumbered, sessions_from, sessions_with, wires_from}
use Rattle.survey_reach.specs.Words.{has_pair}

pub none_added : (faults : List Fault) → faults ≡ faults ++ []
none_added faults = sym (append-nil faults)

-- a fault, where there is one, before others
before_others : (one : Option Fault) (faults : List Fault) → with_fault one faults ≡ with_fault one [] ++ faults
before_others None faults = refl
before_others (Some one) faults = refl

-- a list that is made row by row, where a row gives a fault by its place
first_left : {R : Type 0} (made : ℕ → List R → List Fault) (given : ℕ → Option Fault)
    → ((place : ℕ) (row : R) (rows : List R) → made place (row ∷ rows) ≡ with_fault (given place) (made (place + 1) rows))
    → (place i : ℕ) (rows : List R) → i < length rows → made place (drop i rows) ≡ with_fault (given place) (made (place + 1) (drop (i + 1) rows))
first_left made given step place i [] below = absurd (omega (arith, below))
first_left made given step place i (row ∷ rows) below = ap (made place) (drop_more (row ∷ rows) i row below) ∙ step place (slice_index_or (row ∷ rows) i row) (drop (i + 1) (row ∷ rows))

-- the fault of a row was added to those so far
one_more : {R : Type 0} (made : ℕ → List R → List Fault) (given : ℕ → Option Fault)
    → ((place : ℕ) (row : R) (rows : List R) → made place (row ∷ rows) ≡ with_fault (given place) (made (place + 1) rows))
    → (i : ℕ) (rows : List R) (list more whole : List Fault) → i < length rows → list ++ made i (drop i rows) ≡ whole → more ≡ list ++ with_fault (given i) []
    → more ++ made (i + 1) (drop (i + 1) rows) ≡ whole
one_more made given step i rows list more whole below so_far pushed =
    ap (λ (l : List Fault). l ++ made (i + 1) (drop (i + 1) rows)) pushed
    ∙ (append_assoc list (with_fault (given i) []) (made (i + 1) (drop (i + 1) rows))
    ∙ (ap (λ (l : List Fault). list ++ l) (sym (before_others (given i) (made (i + 1) (drop (i + 1) rows))) ∙ sym (first_left made given step i i rows below)) ∙ so_far))

-- all rows were taken
at_end : {R : Type 0} (made : ℕ → List R → List Fault) → ((place : ℕ) → made place [] ≡ []) → (i : ℕ) (rows : List R) (list whole : List Fault) → length rows ≤ i
    → list ++ made i (drop i rows) ≡ whole → list ≡ whole
at_end made none i rows list whole past so_far =
    sym (append-nil list) ∙ (ap (λ (l : List Fault). list ++ l) (sym (ap (made i) (drop_all i rows past) ∙ none i)) ∙ so_far)

-- ---- connections

pub with_more : (connected : ℕ → ℕ → Bool) (a b : ℕ) (rows : List EdgePlan) (later list more whole : List Fault) → b < length rows
    → list ++ (sessions_with connected a b (drop b rows) ++ later) ≡ whole
    → more ≡ list ++ with_fault (where_so (connected a b) (fault.Session (record { 0 = a }) (record { 0 = b }))) [] → more ++ (sessions_with connected a (b + 1) (drop (b + 1) rows) ++ later) ≡ whole
with_more connected a b rows later list more whole below so_far pushed =
    sym (append_assoc more (sessions_with connected a (b + 1) (drop (b + 1) rows)) later)
    ∙ (ap (λ (l : List Fault). l ++ later)
    (one_more (sessions_with connected a) (λ b. where_so (connected a b) (fault.Session (record { 0 = a }) (record { 0 = b }))) (λ b row rows. refl) b rows list more
    (list ++ sessions_with connected a b (drop b rows)) below refl pushed)
    ∙ (append_assoc list (sessions_with connected a b (drop b rows)) later ∙ so_far))

pub with_end : (connected : ℕ → ℕ → Bool) (a b : ℕ) (rows : List EdgePlan) (later list whole : List Fault) → length rows ≤ b → list ++ (sessions_with connected a b (drop b rows) ++ later) ≡ whole
    → list ++ later ≡ whole
with_end connected a b rows later list whole past so_far = ap (λ (l : List Fault). list ++ (l ++ later)) (sym (ap (sessions_with connected a b) (drop_all b rows past))) ∙ so_far

first_sessions : (connected : ℕ → ℕ → Bool) (a i : ℕ) (rows : List EdgePlan) → i < length rows
    → sessions_from connected a (drop i rows) ≡ sessions_with connected a (a + 1) (drop (i + 1) rows) ++ sessions_from connected (a + 1) (drop (i + 1) rows)
first_sessions connected a i [] below = absurd (omega (arith, below))
first_sessions connected a i (row ∷ rows) below = ap (sessions_from connected a) (drop_more (row ∷ rows) i row below)

pub sessions_start : (connected : ℕ → ℕ → Bool) (a : ℕ) (rows : List EdgePlan) (list whole : List Fault) → a < length rows → list ++ sessions_from connected a (drop a rows) ≡ whole
    → list ++ (sessions_with connected a (a + 1) (drop (a + 1) rows) ++ sessions_from connected (a + 1) (drop (a + 1) rows)) ≡ whole
sessions_start connected a rows list whole below so_far = ap (λ (l : List Fault). list ++ l) (sym (first_sessions connected a a rows below)) ∙ so_far

pub sessions_end : (connected : ℕ → ℕ → Bool) (a : ℕ) (rows : List EdgePlan) (list whole : List Fault) → length rows ≤ a → list ++ sessions_from connected a (drop a rows) ≡ whole → list ≡ whole
sessions_end connected = at_end (sessions_from connected) (λ a. refl)

-- ---- wires

pub wires_more : (sound : ℕ → Bool) (i : ℕ) (rows : List WirePlan) (list more whole : List Fault) → i < length rows → list ++ wires_from sound i (drop i rows) ≡ whole
    → more ≡ list ++ with_fault (where_so (sound i) (fault.Wire (record { 0 = i }))) [] → more ++ wires_from sound (i + 1) (drop (i + 1) rows) ≡ whole
wires_more sound = one_more (wires_from sound) (λ i. where_so (sound i) (fault.Wire (record { 0 = i }))) (λ i row rows. refl)

pub wires_end : (sound : ℕ → Bool) (i : ℕ) (rows : List WirePlan) (list whole : List Fault) → length rows ≤ i → list ++ wires_from sound i (drop i rows) ≡ whole → list ≡ whole
wires_end sound = at_end (wires_from sound) (λ i. refl)

pub ruleset wire_steps = (wires_more, wires_end)

-- ---- edges

first_peer : (connected : ℕ → ℕ → Bool) (edge other i : ℕ) (rows : List EdgePlan) → i < length rows
    → has_peer connected edge other (drop i rows) ≡ connected edge other || has_peer connected edge (other + 1) (drop (i + 1) rows)
first_peer connected edge other i [] below = absurd (omega (arith, below))
first_peer connected edge other i (row ∷ rows) below = ap (has_peer connected edge other) (drop_more (row ∷ rows) i row below)

-- the next one is none, or is one
pub no_peer : (connected : ℕ → ℕ → Bool) (edge i : ℕ) (rows : List EdgePlan) (whole : Bool) → i < length rows → has_peer connected edge i (drop i rows) ≡ whole → connected edge i ≡ false
    → has_peer connected edge (i + 1) (drop (i + 1) rows) ≡ whole
no_peer connected edge i rows whole below so_far none =
    ap (λ (t : Bool). t || has_peer connected edge (i + 1) (drop (i + 1) rows)) (sym none) ∙ (sym (first_peer connected edge i i rows below) ∙ so_far)

pub peer_found : (connected : ℕ → ℕ → Bool) (edge i : ℕ) (rows : List EdgePlan) (whole : Bool) → i < length rows → has_peer connected edge i (drop i rows) ≡ whole → connected edge i ≡ true
    → true ≡ whole
peer_found connected edge i rows whole below so_far some =
    ap (λ (t : Bool). t || has_peer connected edge (i + 1) (drop (i + 1) rows)) (sym some) ∙ (sym (first_peer connected edge i i rows below) ∙ so_far)

pub peers_end : (connected : ℕ → ℕ → Bool) (edge i : ℕ) (rows : List EdgePlan) (whole : Bool) → length rows ≤ i → has_peer connected edge i (drop i rows) ≡ whole → false ≡ whole
peers_end connected edge i rows whole past so_far = sym (ap (has_peer connected edge i) (drop_all i rows past)) ∙ so_far

pub ruleset peer_steps = (no_peer, peer_found, peers_end)

pub edges_more : (connected : ℕ → ℕ → Bool) (all : List EdgePlan) (i : ℕ) (rows : List EdgePlan) (list more whole : List Fault) → i < length rows
    → list ++ edges_from connected all i (drop i rows) ≡ whole
    → more ≡ list ++ with_fault (where_so (has_peer connected i 0 all) (fault.Edge (record { 0 = i }))) [] → more ++ edges_from connected all (i + 1) (drop (i + 1) rows) ≡ whole
edges_more connected all = one_more (edges_from connected all) (λ i. where_so (has_peer connected i 0 all) (fault.Edge (record { 0 = i }))) (λ i row rows. refl)

pub edges_end : (connected : ℕ → ℕ → Bool) (all : List EdgePlan) (i : ℕ) (rows : List EdgePlan) (list whole : List Fault) → length rows ≤ i
    → list ++ edges_from connected all i (drop i rows) ≡ whole → list ≡ whole
edges_end connected all = at_end (edges_from connected all) (λ i. refl)

pub ruleset edge_steps = (edges_more, edges_end)

-- ---- numbers

pub priorities_more : (plan : Plan) (number : ℕ → ℕ) (i : ℕ) (rows : List WirePlan) (d row : WirePlan) (list more whole : List Fault) → i < length rows → row ≡ slice_index_or rows i d
    → list ++ priorities_from plan number i (drop i rows) ≡ whole → more ≡ list ++ with_fault (renumbered i (number i) (least_rival number i row None 0 plan.wires)) []
    → more ++ priorities_from plan number (i + 1) (drop (i + 1) rows) ≡ whole
priorities_more plan number i rows d row list more whole below read so_far pushed =
    ap (λ (l : List Fault). l ++ rest) pushed
    ∙ (append_assoc list (with_fault (given row) []) rest
    ∙ (ap (λ (l : List Fault). list ++ l) (sym (before_others (given row) rest)
    ∙ (ap (λ (r : WirePlan). with_fault (given r) rest) read ∙ sym (ap (priorities_from plan number i) (drop_more rows i d below)))) ∙ so_far))
  where
    rest : List Fault
    rest = priorities_from plan number (i + 1) (drop (i + 1) rows)

    given : WirePlan → Option Fault
    given r = renumbered i (number i) (least_rival number i r None 0 plan.wires)

pub priorities_end : (plan : Plan) (number : ℕ → ℕ) (i : ℕ) (rows : List WirePlan) (list whole : List Fault) → length rows ≤ i → list ++ priorities_from plan number i (drop i rows) ≡ whole
    → list ≡ whole
priorities_end plan number = at_end (priorities_from plan number) (λ i. refl)

pub ruleset priority_steps = (priorities_more, priorities_end)

-- ---- all

pub all_are : (plan : Plan) (before : NetworkState) (ground : Ground) (sessions wires edges list : List Fault) → IsGroundOf plan before ground
    → sessions ≡ [] ++ sessions_from (has_pair ground.connected) 0 plan.edges → wires ≡ sessions ++ wires_from (sound_at plan before) 0 plan.wires
    → edges ≡ wires ++ edges_from (has_pair ground.connected) plan.edges 0 plan.edges → list ≡ edges ++ priorities_from plan (number_of plan before) 0 plan.wires → list ≡ all_faults plan before
all_are plan before ground sessions wires edges list is by_sessions by_wires by_edges by_numbers =
    by_numbers ∙ (ap (λ (l : List Fault). l ++ numbers) (by_edges ∙ (ap (λ (l : List Fault). l ++ ends) (by_wires ∙ ap (λ (l : List Fault). l ++ lost) by_sessions)))
    ∙ (append_assoc (opened ++ lost) ends numbers
    ∙ (append_assoc opened lost (ends ++ numbers) ∙ λ i. sessions_from (same i) 0 plan.edges ++ (lost ++ (edges_from (same i) plan.edges 0 plan.edges ++ numbers)))))
  where
    same : has_pair ground.connected ≡ are_peers plan before
    same = λ i a b. is.connected a b i

    opened : List Fault
    opened = sessions_from (has_pair ground.connected) 0 plan.edges

    lost : List Fault
    lost = wires_from (sound_at plan before) 0 plan.wires

    ends : List Fault
    ends = edges_from (has_pair ground.connected) plan.edges 0 plan.edges

    numbers : List Fault
    numbers = priorities_from plan (number_of plan before) 0 plan.wires
