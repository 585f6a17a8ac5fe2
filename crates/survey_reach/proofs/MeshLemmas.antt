-- The pairs of edges that sound mesh wires join.
use Rattle.std.proofs.Common.{◌≡◌, ◌<◌, ◌+◌, ◌&&◌, ◌||◌, ◌∙◌, ℕ, Bool, true, false, List, [], ◌∷◌, drop, length, slice_index_or, refl, ap, arith, sym}
use Rattle.std.proofs.lemmas.List.{drop_all, drop_more}
use Rattle.net_values.proofs.BoolLemmas.{or_false}
use Rattle.net_base.specs.declared.plan.places.EdgeId.{EdgeId}
use Rattle.net_base.specs.declared.plan.wire_plan.WirePlan.{WirePlan}
use Rattle.net_base.specs.plan.Paths.{first_edge, is_first, is_last, last_edge}
use Rattle.net_base.specs.declared.plan.places.ServiceId.{ServiceId}
use Rattle.net_base.specs.plan.Roles.{any_wire, is_mesh_of}
use Rattle.survey_reach.specs.Reach.{are_named, is_named, mesh_row}

first_named : (a : ℕ) (path : List EdgeId) → is_named a (first_edge path) ≡ is_first a path
first_named a [] = refl
first_named a (first ∷ rest) = refl

last_named : (a : ℕ) (path : List EdgeId) → is_named a (last_edge path) ≡ is_last a path
last_named a [] = refl
last_named a (last ∷ []) = refl
last_named a (first ∷ next ∷ rest) = last_named a (next ∷ rest)

swapped : (p q : Bool) → p && q ≡ q && p
swapped true true = refl
swapped true false = refl
swapped false true = refl
swapped false false = refl

-- two edges are the terminal edges of a path, in either order
pub ends_named : (a b : ℕ) (path : List EdgeId) → are_named a b (first_edge path) (last_edge path) || are_named a b (last_edge path) (first_edge path)
    ≡ (is_first a path && is_last b path) || (is_first b path && is_last a path)
ends_named a b path =
    ap (λ (p : Bool). (p && is_named b (last_edge path)) || are_named a b (last_edge path) (first_edge path)) (first_named a path)
    ∙ (ap (λ (p : Bool). (is_first a path && p) || are_named a b (last_edge path) (first_edge path)) (last_named b path)
    ∙ ap (λ (p : Bool). (is_first a path && is_last b path) || p)
    (ap (λ (p : Bool). p && is_named b (first_edge path)) (last_named a path) ∙ (ap (λ (p : Bool). is_last a path && p) (first_named b path) ∙ swapped (is_last a path) (is_first b path))))

-- the terminal edges of a mesh wire that is sound were added, or nothing of another one
pub mesh_added : (service : ServiceId) (a b : ℕ) (row : WirePlan) (old new : Bool) → is_mesh_of service row ≡ true
    → new ≡ (are_named a b (first_edge row.path) (last_edge row.path) || are_named a b (last_edge row.path) (first_edge row.path)) || old → new ≡ (mesh_row service a b row && true) || old
mesh_added service a b row old new mesh added =
    added ∙ (ap (λ (p : Bool). p || old) (ends_named a b row.path) ∙ by (is_mesh_of service row) ((is_first a row.path && is_last b row.path) || (is_first b row.path && is_last a row.path)) mesh)
  where
    by : (m p : Bool) → m ≡ true → p || old ≡ ((m && p) && true) || old
    by true true e = refl
    by true false e = refl
    by false p e = absurd (cc (e))

pub ruleset mesh_steps = (mesh_added)

-- ---- wire by wire

pub any_step : (test : ℕ → WirePlan → Bool) (place i : ℕ) (rows : List WirePlan) (d : WirePlan) → i < length rows
    → any_wire test place (drop i rows) ≡ test place (slice_index_or rows i d) || any_wire test (place + 1) (drop (i + 1) rows)
any_step test place i rows d h = ap (any_wire test place) (drop_more rows i d h)

pub meshes_none : (pair whole : Bool) → pair ≡ false → pair || whole ≡ whole
meshes_none pair whole e = ap (λ (p : Bool). p || whole) e

turned : (p q r : Bool) → (p || q) || r ≡ q || (p || r)
turned true true r = refl
turned true false r = refl
turned false q r = refl

-- the pairs of a wire were added
pub meshes_more : (test : ℕ → WirePlan → Bool) (i : ℕ) (rows : List WirePlan) (d row : WirePlan) (old new whole : Bool) → i < length rows → row ≡ slice_index_or rows i d
    → old || any_wire test i (drop i rows) ≡ whole → new ≡ test i row || old → new || any_wire test (i + 1) (drop (i + 1) rows) ≡ whole
meshes_more test i rows d row old new whole below read so_far added =
    ap (λ (p : Bool). p || any_wire test (i + 1) (drop (i + 1) rows)) added
    ∙ (turned (test i row) old (any_wire test (i + 1) (drop (i + 1) rows))
    ∙ (ap (λ (r : WirePlan). old || (test i r || any_wire test (i + 1) (drop (i + 1) rows))) read
    ∙ (ap (λ (p : Bool). old || p) (sym (any_step test i i rows d below)) ∙ so_far)))

pub meshes_end : (test : ℕ → WirePlan → Bool) (i : ℕ) (rows : List WirePlan) (pair whole : Bool) → length rows ≡ i → pair || any_wire test i (drop i rows) ≡ whole → pair ≡ whole
meshes_end test i rows pair whole past so_far = sym (ap (λ (l : List WirePlan). pair || any_wire test i l) (all_dropped rows i past) ∙ or_false pair) ∙ so_far
  where
    all_dropped : (rows : List WirePlan) (i : ℕ) → length rows ≡ i → drop i rows ≡ []
    all_dropped rows i e = drop_all i rows (omega (arith, e))
