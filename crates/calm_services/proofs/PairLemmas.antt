-- Pairs of edges and edges that are put into sets.
use Rattle.std.proofs.Common.{◌≡◌, ◌≢◌, ◌<◌, ◌≤◌, ◌/◌, ◌%◌, ◌*◌, ◌+◌, ◌^◌, ◌∙◌, ◌&&◌, ◌||◌, ◌==◌, ℕ, Bool, true, false, List, [], length, get_or, set, replicate, bit_or, nat_eq, inl, inr, refl, ap, ap₂, sym, arith, eq-eqb, w64, get_or-set_same, get_or-set_other, drop}
use Rattle.std.proofs.lemmas.Bool.{cases_eq, eqb-true, eqb-false}
use Rattle.std.proofs.lemmas.List.{drop_all}
use Rattle.std.proofs.lemmas.Option.{slice_get-get_or}
use Rattle.std.proofs.lemmas.Nat.Bits.{bit_at-zero, bit_at_set_same, bit_at_set_other}
use Rattle.std.specs.Int.{bit_at}
use Rattle.net_values.proofs.RowLemmas.{drop_next, replicate_default}
use Rattle.net_base.specs.declared.plan.places.EdgeId.{EdgeId}
use Rattle.net_base.specs.declared.plan.wire_plan.WirePlan.{WirePlan}
use Rattle.net_base.specs.plan.Paths.{is_first, is_last}
use Rattle.net_base.specs.plan.Roles.{any_wire}
use Rattle.hvpls_spokes.specs.PortSet.{holds_port}
use Rattle.calm_services.specs.EdgePairs.{has_pair, holds_number}

-- ---- a row of words

-- a word is replaced by one that has the same bits but for that of a number
other_bits : (rows : List ℕ) (number n word : ℕ) → number < 4096 → length rows ≡ 64 → n ≢ number
    → ((bit : ℕ) → bit < 64 → bit ≢ number % 64 → bit_at word bit ≡ bit_at (get_or rows (number / 64) 0) bit)
    → holds_number (set rows (number / 64) word) n ≡ holds_number rows n
other_bits rows number n word fits len ne same = elim (cases_eq (n / 64) (number / 64)) [
  | inl together ↦
      let within : number / 64 < length rows = omega arith in
      let low : n % 64 < 64 = omega arith in
      let other : n % 64 ≢ number % 64 = λ e. absurd (ne (omega arith)) in
      rw (together, get_or-set_same) (ap (λ (bit : ℕ). nat_eq bit 1) (same (n % 64) low other))
  | inr apart ↦ rw get_or-set_other
]

pub set_same : (rows : List ℕ) (number : ℕ) → number < 4096 → length rows ≡ 64
    → holds_number (set rows (number / 64) (bit_or (get_or rows (number / 64) 0) (1 * 2 ^ (number % 64) % 2 ^ 64))) number ≡ true
set_same rows number fits len =
    let within : number / 64 < length rows = omega arith in
    let low : number % 64 < 64 = omega arith in
    rw get_or-set_same (eq-eqb _ _ (bit_at_set_same w64 (get_or rows (number / 64) 0) (number % 64) low))

pub set_other : (rows : List ℕ) (number n : ℕ) → number < 4096 → length rows ≡ 64 → n ≢ number
    → holds_number (set rows (number / 64) (bit_or (get_or rows (number / 64) 0) (1 * 2 ^ (number % 64) % 2 ^ 64))) n ≡ holds_number rows n
set_other rows number n fits len ne =
    let low : number % 64 < 64 = omega arith in
    other_bits rows number n _ fits len ne (λ bit within other. bit_at_set_other w64 (get_or rows (number / 64) 0) (number % 64) low bit other)

-- no number is held in words without a bit
bit_none : (k : ℕ) → (bit_at 0 k == 1) ≡ false
bit_none k = ap (λ (bit : ℕ). nat_eq bit 1) (bit_at-zero k)

pub none_held : (count n : ℕ) → holds_number (replicate count 0) n ≡ false
none_held count n = ap (λ (word : ℕ). bit_at word (n % 64) == 1) (replicate_default count 0 (n / 64)) ∙ bit_none (n % 64)

-- ---- pairs

-- where a pair stands
pub pair_place : (rows : List ℕ) (a b : ℕ) → b < 64 → has_pair rows a b ≡ (bit_at (get_or rows a 0) b == 1)
pair_place rows a b low =
    let row : (a * 64 + b) / 64 ≡ a = omega (arith, low) in
    let bit : (a * 64 + b) % 64 ≡ b = omega (arith, low) in
    ap₂ (λ (r s : ℕ). bit_at (get_or rows r 0) s == 1) row bit

-- one pair more is held
pub pair_put : (old new : List ℕ) (a b : ℕ) → b < 64 → holds_number new (a * 64 + b) ≡ true → ((n : ℕ) → n ≢ a * 64 + b → holds_number new n ≡ holds_number old n)
    → (x y : ℕ) → y < 64 → has_pair new x y ≡ (x == a && y == b) || has_pair old x y
pair_put old new a b low it others x y under = by (x == a) (y == b) refl refl where
  by : (s t : Bool) → (x == a) ≡ s → (y == b) ≡ t → has_pair new x y ≡ (s && t) || has_pair old x y
  by true true one other = ap₂ (has_pair new) (eqb-true x a one) (eqb-true y b other) ∙ it
  by true false one other = others (x * 64 + y) (λ same. eqb-false y b other (omega (arith, same, low, under, eqb-true x a one)))
  by false t one other = others (x * 64 + y) (λ same. eqb-false x a one (omega (arith, same, low, under)))

-- both ways
pub both_put : (old mid new : List ℕ) (a b x y : ℕ) → has_pair mid x y ≡ (x == a && y == b) || has_pair old x y → has_pair new x y ≡ (x == b && y == a) || has_pair mid x y
    → has_pair new x y ≡ ((x == a && y == b) || (y == a && x == b)) || has_pair old x y
both_put old mid new a b x y first next = next ∙ (ap (λ (t : Bool). (x == b && y == a) || t) first ∙ turn (x == a && y == b) (x == b) (y == a) (has_pair old x y)) where
  turn : (p s t o : Bool) → (s && t) || (p || o) ≡ (p || (t && s)) || o
  turn true true true o = refl
  turn true true false o = refl
  turn true false t o = none t where
    none : (t : Bool) → true ≡ (true || (t && false)) || o
    none t = refl
  turn false true true o = refl
  turn false true false o = refl
  turn false false true o = refl
  turn false false false o = refl

-- no pair of 64 has an edge past them
pub none_put : (a b x y : ℕ) (old : Bool) → x < 64 → y < 64 → (a < 64 → b < 64 → ⊥) → old ≡ ((x == a && y == b) || (y == a && x == b)) || old
none_put a b x y old low under past = by (x == a && y == b) refl (y == a && x == b) refl where
  parts : (s t : Bool) → s && t ≡ true → (s ≡ true) × (t ≡ true)
  parts true true both = (refl, refl)
  parts true false both = (refl, both)
  parts false t both = absurd (cc both)

  by : (s : Bool) → (x == a && y == b) ≡ s → (t : Bool) → (y == a && x == b) ≡ t → old ≡ (s || t) || old
  by true one t other =
      let both = parts (x == a) (y == b) one in
      absurd (past (omega (arith, low, eqb-true x a both.0)) (omega (arith, under, eqb-true y b both.1)))
  by false one true other =
      let both = parts (y == a) (x == b) other in
      absurd (past (omega (arith, under, eqb-true y a both.0)) (omega (arith, low, eqb-true x b both.1)))
  by false one false other = refl

-- ---- rows one after another

-- what a row puts, and then those behind it
pub step_more : (here later old new all : Bool) → (here || later) || old ≡ all → new ≡ here || old → later || new ≡ all
step_more here later old new all before put = ap (λ (b : Bool). later || b) put ∙ (turn later here old ∙ before) where
  turn : (a b c : Bool) → a || (b || c) ≡ (b || a) || c
  turn true true c = refl
  turn true false c = refl
  turn false true c = refl
  turn false false c = refl

-- what a wire puts, and then those behind it
pub any_step : (test : ℕ → WirePlan → Bool) (place : ℕ) (rows : List WirePlan) (row : WirePlan) (old new all : Bool) → place < length rows → row ≡ get_or rows place row
    → any_wire test place (drop place rows) || old ≡ all → new ≡ test place row || old → any_wire test (place + 1) (drop (place + 1) rows) || new ≡ all
any_step test place rows row old new all within is before put =
    step_more (test place row) (any_wire test (place + 1) (drop (place + 1) rows)) old new all
    (ap (λ (l : List WirePlan). any_wire test place l || old) (sym (drop_next rows place row within is)) ∙ before) put

pub any_last : (test : ℕ → WirePlan → Bool) (place : ℕ) (rows : List WirePlan) (last all : Bool) → length rows ≤ place → any_wire test place (drop place rows) || last ≡ all → last ≡ all
any_last test place rows last all past is = sym (ap (λ (l : List WirePlan). any_wire test place l || last) (drop_all place rows past)) ∙ is

pub ruleset wires_end = (any_last, slice_get-get_or)

-- a mesh wire that is up joins its ends, and another wire none
pub mesh_put : (mesh ends up old new : Bool) → mesh && up ≡ true → new ≡ ends || old → new ≡ ((mesh && ends) && up) || old
mesh_put true true true old new both put = put
mesh_put true false true old new both put = put
mesh_put true ends false old new both put = absurd (cc both)
mesh_put false ends up old new both put = absurd (cc both)

pub mesh_not : (mesh ends up old : Bool) → mesh && up ≡ false → old ≡ ((mesh && ends) && up) || old
mesh_not true ends true old none = absurd (cc none)
mesh_not true true false old none = refl
mesh_not true false false old none = refl
mesh_not false ends up old none = refl

-- ---- edges

-- the edge of a circuit
pub circuit_put : (edge e : ℕ) (old new : Bool) → new ≡ (e == edge) || old → new ≡ (edge == e) || old
circuit_put edge e old new put = put ∙ ap (λ (b : Bool). b || old) (turned (e == edge) (edge == e) refl refl) where
  turned : (s t : Bool) → (e == edge) ≡ s → (edge == e) ≡ t → s ≡ t
  turned true true one other = refl
  turned true false one other = absurd (eqb-false edge e other (sym (eqb-true e edge one)))
  turned false true one other = absurd (eqb-false e edge one (sym (eqb-true edge e other)))
  turned false false one other = refl

-- one edge more is in the set
pub edge_put : (old new : List ℕ) (edge : ℕ) → holds_port new edge ≡ true → ((p : ℕ) → p ≢ edge → holds_port new p ≡ holds_port old p)
    → (e : ℕ) → holds_port new e ≡ (e == edge) || holds_port old e
edge_put old new edge it others e = by (e == edge) refl where
  by : (b : Bool) → (e == edge) ≡ b → holds_port new e ≡ b || holds_port old e
  by true same = ap (holds_port new) (eqb-true e edge same) ∙ it
  by false apart = others e (eqb-false e edge apart)

-- no edge of 512 is one past them
pub edge_past : (edge e : ℕ) (old : Bool) → e < 512 → (edge < 512 → ⊥) → old ≡ (e == edge) || old
edge_past edge e old low past = by (e == edge) refl where
  by : (b : Bool) → (e == edge) ≡ b → old ≡ b || old
  by true same = absurd (past (omega (arith, low, eqb-true e edge same)))
  by false apart = refl

-- an edge at either end
pub last_first : (first last old mid new : Bool) → mid ≡ last || old → new ≡ first || mid → new ≡ (first || last) || old
last_first first last old mid new put next = next ∙ (ap (λ (b : Bool). first || b) put ∙ turn first last old) where
  turn : (a b c : Bool) → a || (b || c) ≡ (a || b) || c
  turn true b c = refl
  turn false b c = refl

-- the edges of circuits, and then those of wires
pub ends_behind : (circuits wires none mid new : Bool) → none ≡ false → mid ≡ circuits || none → new ≡ wires || mid → new ≡ circuits || wires
ends_behind circuits wires none mid new is first next = next ∙ (ap (λ (b : Bool). wires || b) (first ∙ ap (λ (b : Bool). circuits || b) is) ∙ turn circuits wires) where
  turn : (a b : Bool) → b || (a || false) ≡ a || b
  turn true true = refl
  turn true false = refl
  turn false true = refl
  turn false false = refl

-- a path without an edge has no ends
pub no_ends : (path : List EdgeId) (x y : ℕ) (old : Bool) → path ≡ [] → old ≡ ((is_first x path && is_last y path) || (is_first y path && is_last x path)) || old
no_ends path x y old none = ap (λ (l : List EdgeId). ((is_first x l && is_last y l) || (is_first y l && is_last x l)) || old) (sym none)
