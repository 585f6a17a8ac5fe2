-- Lists of the rehearsal in the making: once its next row or frame is added, what is made so far goes on by those still to come.
use Rattle.std.proofs.Common.{◌≡◌, ◌<◌, ◌+◌, ◌-◌, ◌++◌, ◌∙◌, ℕ, suc, List, [], ◌∷◌, refl, sym, ap, append_assoc, arith}
use Rattle.std.specs.Prelude.{codes}
use Rattle.std.specs.Fmt.{decimal}
use Rattle.net_base.specs.declared.plan.edge_plan.EdgePlan.{EdgePlan}
use Rattle.net_base.specs.declared.plan.circuit_plan.CircuitPlan.{CircuitPlan}
use Rattle.net_base.specs.declared.plan.wire_plan.WirePlan.{WirePlan}
use Rattle.command_text.specs.declared.command.Command.{Command}
use Rattle.rehearsal.specs.Commands.{frames_from}
use Rattle.rehearsal.specs.Draws.{next_number}
use Rattle.rehearsal.specs.Rows.{edge_row, edges_from, rehearsed_circuit, circuits_from, mesh_wire, mesh_beside, mesh_among, first_spoke, second_spoke, spokes_from}

-- a list goes on by the front of what is still to come
pub added : {A : Type 0} (old new front rest more all : List A) → new ≡ old ++ front → more ≡ front ++ rest → old ++ more ≡ all → new ++ rest ≡ all
added old new front rest more all p e q = rw p (append_assoc old front rest ∙ (ap (λ l. old ++ l) (sym e) ∙ q))

pub edges_next : (number : ℕ) → number < 17 → edges_from (17 - number) number ≡ edge_row number ∷ edges_from (17 - (number + 1)) (number + 1)
edges_next number within = let e : 17 - number ≡ suc (17 - (number + 1)) = omega arith in rw e refl

pub circuits_next : (number : ℕ) → number < 17 → circuits_from (17 - number) number ≡ rehearsed_circuit number ∷ circuits_from (17 - (number + 1)) (number + 1)
circuits_next number within = let e : 17 - number ≡ suc (17 - (number + 1)) = omega arith in rw e refl

pub mesh_next : (from to number : ℕ) → to < 9 → mesh_beside (9 - to) from to number ≡ mesh_wire from to number ∷ mesh_beside (9 - (to + 1)) from (to + 1) (number + 1)
mesh_next from to number within = let e : 9 - to ≡ suc (9 - (to + 1)) = omega arith in rw e refl

pub among_next : (from number : ℕ) → from < 9 → mesh_among (9 - from) from number ≡ mesh_beside (8 - from) from (from + 1) number ++ mesh_among (9 - (from + 1)) (from + 1) (number + (8 - from))
among_next from number within = let e : 9 - from ≡ suc (8 - from) = omega arith in let f : 9 - (from + 1) ≡ 8 - from = omega arith in rw e (rw f refl)

pub spokes_next : (place : ℕ) → place < 8 → spokes_from (8 - place) place ≡ first_spoke place ∷ second_spoke place ∷ spokes_from (8 - (place + 1)) (place + 1)
spokes_next place within = let e : 8 - place ≡ suc (8 - (place + 1)) = omega arith in rw e refl

-- one frame, and those behind it
pub frames_next : (count done number : ℕ) → done < count → frames_from (count - done) number ≡ frames_from 1 number ++ frames_from (count - (done + 1)) (next_number (next_number number))
frames_next count done number within = let e : count - done ≡ suc (count - (done + 1)) = omega arith in rw e refl

-- a row is added, and those behind it are still to come
-- the row of an edge with a name
abbrev named_edge : ℕ → List ℕ → EdgePlan
named_edge number name = record { name = name; address = record { 0 = 10 ∷ 0 ∷ 0 ∷ number ∷ [] }; first_label = 16; keepalive = 180; max_pdu = 4096 }

pub edge_named : (name : List ℕ) (number : ℕ) → name ≡ codes "e" ++ decimal number → named_edge number name ≡ edge_row number
edge_named name number is = ap (named_edge number) is

pub edges_more : (old new all : List EdgePlan) (row : EdgePlan) (number : ℕ) → number < 17 → row ≡ edge_row number → new ≡ old ++ row ∷ [] → old ++ edges_from (17 - number) number
    ≡ all → new ++ edges_from (17 - (number + 1)) (number + 1) ≡ all
edges_more old new all row number within is pushed e =
    added old new (edge_row number ∷ []) (edges_from (17 - (number + 1)) (number + 1)) (edges_from (17 - number) number) all (pushed ∙ ap (λ (r : EdgePlan). old ++ r ∷ []) is)
    (edges_next number within) e

pub circuits_more : (old new all : List CircuitPlan) (row : CircuitPlan) (number : ℕ) → number < 17 → row ≡ rehearsed_circuit number → new ≡ old ++ row ∷ []
    → old ++ circuits_from (17 - number) number ≡ all → new ++ circuits_from (17 - (number + 1)) (number + 1) ≡ all
circuits_more old new all row number within is pushed e =
    added old new (rehearsed_circuit number ∷ []) (circuits_from (17 - (number + 1)) (number + 1)) (circuits_from (17 - number) number) all
    (pushed ∙ ap (λ (r : CircuitPlan). old ++ r ∷ []) is) (circuits_next number within) e

pub mesh_more : (old new all : List WirePlan) (row : WirePlan) (from to number next : ℕ) → to < 9 → next ≡ number + 1 → row ≡ mesh_wire from to number → new ≡ old ++ row ∷ []
    → old ++ mesh_beside (9 - to) from to number ≡ all → new ++ mesh_beside (9 - (to + 1)) from (to + 1) next ≡ all
mesh_more old new all row from to number next within follows is pushed e =
    rw follows (added old new (mesh_wire from to number ∷ []) (mesh_beside (9 - (to + 1)) from (to + 1) (number + 1)) (mesh_beside (9 - to) from to number) all
    (pushed ∙ ap (λ (r : WirePlan). old ++ r ∷ []) is) (mesh_next from to number within) e)

pub among_more : (old new all : List WirePlan) (from number next : ℕ) → from < 9 → next ≡ number + (8 - from) → new ≡ old ++ mesh_beside (8 - from) from (from + 1) number
    → old ++ mesh_among (9 - from) from number ≡ all → new ++ mesh_among (9 - (from + 1)) (from + 1) next ≡ all
among_more old new all from number next within follows gained e =
    rw follows (added old new (mesh_beside (8 - from) from (from + 1) number) (mesh_among (9 - (from + 1)) (from + 1) (number + (8 - from)))
    (mesh_among (9 - from) from number) all gained (among_next from number within) e)

pub spokes_more : (old new all : List WirePlan) (place : ℕ) → place < 8 → new ≡ (old ++ first_spoke place ∷ []) ++ second_spoke place ∷ [] → old ++ spokes_from (8 - place) place ≡ all
    → new ++ spokes_from (8 - (place + 1)) (place + 1) ≡ all
spokes_more old new all place within gained e =
    added old new (first_spoke place ∷ second_spoke place ∷ []) (spokes_from (8 - (place + 1)) (place + 1)) (spokes_from (8 - place) place) all
    (gained ∙ append_assoc old (first_spoke place ∷ []) (second_spoke place ∷ [])) (spokes_next place within) e

pub frames_more : (old new all : List Command) (count done number next : ℕ) → done < count → next ≡ next_number (next_number number) → new ≡ old ++ frames_from 1 number
    → old ++ frames_from (count - done) number ≡ all → new ++ frames_from (count - (done + 1)) next ≡ all
frames_more old new all count done number next within follows gained e =
    rw follows (added old new (frames_from 1 number) (frames_from (count - (done + 1)) (next_number (next_number number))) (frames_from (count - done) number) all gained
    (frames_next count done number within) e)
