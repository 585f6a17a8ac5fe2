-- Which edges the core edges meet, edge by edge.
use Rattle.std.proofs.Common.{◌≡◌, ◌≢◌, ◌<◌, ◌+◌, ◌&&◌, ◌||◌, ◌∙◌, ℕ, Bool, true, false, List, Option, Some, None, cond, length, nat_eq, nat_lt, slice_index_or, refl, ap, arith, eq-eqb, sym}
use Rattle.std.proofs.lemmas.Bool.{eqb-true, lt-ltb}
use Rattle.net_values.proofs.BoolLemmas.{and_true, clash_at}
use Rattle.net_values.proofs.NumberLemmas.{lt_next}
use Rattle.net_values.proofs.RowLemmas.{same_read}
use Rattle.net_base.specs.declared.plan.places.EdgeId.{EdgeId}
use Rattle.survey_reach.specs.declared.met.Met.{Met}
use Rattle.survey_reach.specs.Met.{AreMet, core_at, meet, meets, meets_by}
use Rattle.survey_reach.specs.Reach.{place_of}
use Rattle.survey_reach.specs.Words.{has_pair, in_word}
use Rattle.survey_reach.proofs.WordLemmas.{below_none, word_more, word_none}

-- ---- the edges that a core edge meets, edge by edge

pub met_none : (meshes : List ℕ) (cores : List (Option EdgeId)) (core k : ℕ) → in_word 0 k ≡ nat_lt k 0 && meet meshes (Some core) (core_at cores k)
met_none meshes cores core = word_none (λ k. meet meshes (Some core) (core_at cores k))

pub met_more : (meshes : List ℕ) (cores : List (Option EdgeId)) (core old new edge : ℕ) (other : Option EdgeId) (so : Bool) → edge < length cores → other ≡ slice_index_or cores edge other
    → ((k : ℕ) → in_word old k ≡ nat_lt k edge && meet meshes (Some core) (core_at cores k)) → so ≡ meet meshes (Some core) (place_of other)
    → ((k : ℕ) → in_word new k ≡ (nat_eq k edge && so) || in_word old k) → (k : ℕ) → in_word new k ≡ nat_lt k (edge + 1) && meet meshes (Some core) (core_at cores k)
met_more meshes cores core old new edge other so below read so_far is added =
    word_more (λ k. meet meshes (Some core) (core_at cores k)) old new edge so so_far
    (is ∙ ap (λ (o : Option EdgeId). meet meshes (Some core) (place_of o)) (read ∙ same_read cores edge other None below)) added

pub ruleset met_steps = (met_none, met_more)

-- ---- what is known of core edges

-- of no core edge it is known
pub none_met : (meshes : List ℕ) (cores : List (Option EdgeId)) (met : Met) → ((k : ℕ) → in_word met.known k ≡ false) → AreMet meshes cores met
none_met meshes cores met none = record { each = λ core known edge. clash_at (in_word met.known core) known (none core) }

-- of one more it was worked out
pub learned : (meshes : List ℕ) (cores : List (Option EdgeId)) (core row : ℕ) (old new : Met) → AreMet meshes cores old → ((k : ℕ) → in_word row k ≡ meets meshes cores (Some core) k)
    → ((i j : ℕ) → has_pair new.rows i j ≡ cond (nat_eq i core) (in_word row j) (has_pair old.rows i j)) → ((k : ℕ) → k ≢ core → in_word new.known k ≡ in_word old.known k)
    → AreMet meshes cores new
learned meshes cores core row old new was worked put others = record { each = λ p known k. put p k ∙ by p k (nat_eq p core) refl known } where
  by : (p k : ℕ) (b : Bool) → nat_eq p core ≡ b → in_word new.known p ≡ true → cond b (in_word row k) (has_pair old.rows p k) ≡ meets meshes cores (Some p) k
  by p k true same known = worked k ∙ ap (λ (q : ℕ). meets meshes cores (Some q) k) (sym (eqb-true p core same))
  by p k false apart known = was.each p (sym (others p (λ e. clash_at (nat_eq p core) (eq-eqb p core e) apart)) ∙ known) k

-- ---- whom each edge reaches, edge by edge

-- the row of an edge, itself in it
row_set : (old new : List ℕ) (edge word row : ℕ) → ((i j : ℕ) → has_pair new i j ≡ cond (nat_eq i edge) (in_word word j) (has_pair old i j))
    → ((k : ℕ) → in_word word k ≡ (nat_eq k edge && true) || in_word row k) → (i j : ℕ) → has_pair new i j ≡ cond (nat_eq i edge) (nat_eq j edge || in_word row j) (has_pair old i j)
row_set old new edge word row put is i j =
    put i j ∙ ap (λ (b : Bool). cond (nat_eq i edge) b (has_pair old i j)) (is j ∙ ap (λ (b : Bool). b || in_word row j) (and_true (nat_eq j edge)))

pub pairs_none : (meshes : List ℕ) (cores : List (Option EdgeId)) (pairs : List ℕ) → ((a b : ℕ) → has_pair pairs a b ≡ false) → (a b : ℕ) → has_pair pairs a b ≡ nat_lt a 0 && meets_by meshes cores a b
pairs_none meshes cores pairs none a b = none a b ∙ sym (ap (λ (t : Bool). t && meets_by meshes cores a b) (below_none a))

pub pairs_more : (meshes : List ℕ) (cores : List (Option EdgeId)) (old new : List ℕ) (edge row word : ℕ) (core : Option EdgeId) → edge < length cores → core ≡ slice_index_or cores edge core
    → ((a b : ℕ) → has_pair old a b ≡ nat_lt a edge && meets_by meshes cores a b)
    → ((k : ℕ) → in_word row k ≡ meets meshes cores (place_of core) k) → ((k : ℕ) → in_word word k ≡ (nat_eq k edge && true) || in_word row k)
    → ((i j : ℕ) → has_pair new i j ≡ cond (nat_eq i edge) (in_word word j) (has_pair old i j)) → (a b : ℕ) → has_pair new a b ≡ nat_lt a (edge + 1) && meets_by meshes cores a b
pairs_more meshes cores old new edge row word core below read so_far worked is put a b = row_set old new edge word row put is a b ∙ by (nat_eq a edge) refl where
  by : (t : Bool) → nat_eq a edge ≡ t → cond t (nat_eq b edge || in_word row b) (has_pair old a b) ≡ nat_lt a (edge + 1) && meets_by meshes cores a b
  by false apart = so_far a b ∙ ap (λ (t : Bool). t && meets_by meshes cores a b) (sym (lt_next a edge apart))
  by true same =
      let here : a ≡ edge = eqb-true a edge same in
      let within : nat_lt a (edge + 1) ≡ true = lt-ltb a (edge + 1) (omega (arith, here)) in
      let row_is : in_word row b ≡ meets meshes cores (core_at cores edge) b = worked b ∙ ap (λ (o : Option EdgeId). meets meshes cores (place_of o) b) (read ∙ same_read cores edge core None below) in
      (ap (λ (t : Bool). nat_eq b edge || t) row_is ∙ ap (λ (e : ℕ). meets_by meshes cores e b) (sym here)) ∙ sym (ap (λ (t : Bool). t && meets_by meshes cores a b) within)

pub ruleset row_steps = (none_met, pairs_none, pairs_more)
