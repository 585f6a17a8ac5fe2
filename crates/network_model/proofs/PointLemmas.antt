-- What an edge is expected to tell: a switching point tells what it is told, with its own point behind the others; it is in none of
-- those, and hears two at most.
use Rattle.std.proofs.Common.{◌≡◌, ◌≤◌, ◌<◌, ◌+◌, ◌==◌, ◌||◌, ◌++◌, ◌∙◌, ℕ, Bool, true, false, List, [], ◌∷◌, Some, if◌then◌else◌, length, reverse, refl, sym, ap, arith}
use Rattle.std.proofs.lemmas.List.{length-append, length-reverse}
use Rattle.std.proofs.lemmas.Bool.{eqb-true}
use Rattle.net_values.proofs.BoolLemmas.{clash, or_later}
use Rattle.net_base.specs.declared.plan.Plan.{Plan}
use Rattle.net_base.specs.declared.plan.places.EdgeId.{EdgeId}
use Rattle.net_base.specs.declared.plan.wire_plan.WirePlan.{WirePlan}
use Rattle.net_base.specs.plan.Paths.{PassedPoint, edge_address, expected, follows, has_repeat, mate_on, points_on, up_to}
use Rattle.network_model.proofs.WayLemmas.{Homeward, Onward, Passes, behind_first, earlier_stands, either_here, later_stands, mate_passes, once_behind, one_way, split, way_kept}
use Rattle.network_model.proofs.ReversedLemmas.{follows_reversed, once_reversed}

-- the point with which an edge passes on what it has from another one
abbrev pub point_at : Plan → WirePlan → EdgeId → EdgeId → PassedPoint
point_at plan row point before = record { pw_id = row.pw_id; local = edge_address plan point; remote = edge_address plan before }

place : (n : ℕ) (e : EdgeId) → (n == e.0) ≡ true → record { 0 = n } ≡ e
place n e same = ap (λ (k : ℕ). record { 0 = k }) (eqb-true n e.0 same)

-- ---- one edge further on the way

-- the points up to an edge behind the first one are the first of them, and then those of the rest
points_behind : (plan : Plan) (row : WirePlan) (first next : EdgeId) (rest : List EdgeId) (a : ℕ)
    → points_on plan row (first ∷ up_to (next ∷ rest) a) ≡ point_at plan row next first ∷ points_on plan row (up_to (next ∷ rest) a)
points_behind plan row first next rest a = by (a == next.0) refl where
  by : (b : Bool) → (a == next.0) ≡ b → points_on plan row (first ∷ (if b then next ∷ [] else next ∷ up_to rest a))
      ≡ point_at plan row next first ∷ points_on plan row (if b then next ∷ [] else next ∷ up_to rest a)
  by true is = refl
  by false is = refl

pub points_next : (plan : Plan) (row : WirePlan) (path : List EdgeId) (a b : EdgeId) → has_repeat path ≡ false → follows path a.0 b.0 ≡ true
    → points_on plan row (up_to path b.0) ≡ points_on plan row (up_to path a.0) ++ point_at plan row b a ∷ []
points_next plan row [] a b once h = clash h
points_next plan row (last ∷ []) a b once h = clash h
points_next plan row (first ∷ next ∷ rest) a b once h =
    let late : (b.0 == first.0) ≡ false = behind_first first (next ∷ rest) b.0 once (later_stands first (next ∷ rest) a.0 b.0 h) in
    either_here (a.0 == first.0) (b.0 == next.0) (follows (next ∷ rest) a.0 b.0) h
    (λ p q. rw (late, p, q) (ap (λ (x : PassedPoint). x ∷ []) (ends a b first next (place a.0 first p) (place b.0 next q))))
    (λ t.
    let early : (a.0 == first.0) ≡ false = behind_first first (next ∷ rest) a.0 once (earlier_stands (next ∷ rest) a.0 b.0 t) in
    rw (late, early) (points_behind plan row first next rest b.0
    ∙ (ap (λ (l : List PassedPoint). point_at plan row next first ∷ l) (points_next plan row (next ∷ rest) a b (once_behind first (next ∷ rest) once) t)
    ∙ ap (λ (l : List PassedPoint). l ++ point_at plan row b a ∷ []) (sym (points_behind plan row first next rest a.0)))))
  where
    ends : (a b c d : EdgeId) → a ≡ c → b ≡ d → point_at plan row d c ≡ point_at plan row b a
    ends a b c d p q = ap (λ (e : EdgeId). point_at plan row e c) (sym q) ∙ ap (λ (e : EdgeId). point_at plan row b e) (sym p)

-- ---- what a switching point is expected to tell

-- it is of the offer that it is told
pub passes_offer : (plan : Plan) (row : WirePlan) (me from to : EdgeId) → has_repeat row.path ≡ false → mate_on row.path me.0 from.0 ≡ Some to
    → (expected plan row me.0 to.0).offer ≡ (expected plan row from.0 me.0).offer
passes_offer plan row me from to once is = ap (λ (b : Bool). if b then row.near else row.far) (way_kept row.path me.0 from.0 to once is)

-- and its points are those that it is told, with its own one
pub passes_points : (plan : Plan) (row : WirePlan) (me from to : EdgeId) → has_repeat row.path ≡ false → mate_on row.path me.0 from.0 ≡ Some to
    → (expected plan row me.0 to.0).points ≡ (expected plan row from.0 me.0).points ++ point_at plan row me from ∷ []
passes_points plan row me from to once is = by (mate_passes row.path me.0 from.0 to is) where
  by : Passes row.path me.0 from.0 to.0 → (expected plan row me.0 to.0).points ≡ (expected plan row from.0 me.0).points ++ point_at plan row me from ∷ []
  by (Onward a b) = rw (a, b) (points_next plan row row.path from me once a)
  by (Homeward a b) =
      let c : follows row.path from.0 me.0 ≡ false = one_way row.path me.0 from.0 once b in
      let d : follows row.path me.0 to.0 ≡ false = one_way row.path to.0 me.0 once a in
      rw (c, d) (points_next plan row (reverse row.path) from me (once_reversed row.path ∙ once) (follows_reversed row.path from.0 me.0 ∙ b))

-- ---- how many there are

up_to_before : (path : List EdgeId) (a b : ℕ) → has_repeat path ≡ false → follows path a b ≡ true → length (up_to path a) + 1 ≤ length path
up_to_before [] a b once h = clash h
up_to_before (last ∷ []) a b once h = clash h
up_to_before (first ∷ next ∷ rest) a b once h = by (a == first.0) refl
    (λ q. up_to_before (next ∷ rest) a b (once_behind first (next ∷ rest) once) q)
  where
    by : (t : Bool) → (a == first.0) ≡ t → (follows (next ∷ rest) a b ≡ true → length (up_to (next ∷ rest) a) + 1 ≤ length (next ∷ rest))
        → length (if t then first ∷ [] else first ∷ up_to (next ∷ rest) a) + 1 ≤ length (first ∷ next ∷ rest)
    by true is more = omega arith
    by false is more = omega (arith, more (rw is at h))

pub points_less : (plan : Plan) (row : WirePlan) (way : List EdgeId) → length (points_on plan row way) ≤ length way
points_less plan row [] = omega arith
points_less plan row (last ∷ []) = omega arith
points_less plan row (before ∷ point ∷ rest) = omega (arith, points_less plan row (point ∷ rest))

points_one_less : (plan : Plan) (row : WirePlan) (first : EdgeId) (rest : List EdgeId) → length (points_on plan row (first ∷ rest)) ≤ length rest
points_one_less plan row first [] = omega arith
points_one_less plan row first (point ∷ rest) = omega (arith, points_one_less plan row point rest)

-- of a way that begins with an edge, one less
points_of_way : (plan : Plan) (row : WirePlan) (path : List EdgeId) (a b most : ℕ) → has_repeat path ≡ false → follows path a b ≡ true → length path ≤ most + 2
    → length (points_on plan row (up_to path a)) ≤ most
points_of_way plan row [] a b most once h fits = clash h
points_of_way plan row (first ∷ rest) a b most once h fits = by (a == first.0) refl (up_to_before (first ∷ rest) a b once h) where
  by : (t : Bool) → (a == first.0) ≡ t → length (if t then first ∷ [] else first ∷ up_to rest a) + 1 ≤ length (first ∷ rest)
      → length (points_on plan row (if t then first ∷ [] else first ∷ up_to rest a)) ≤ most
  by true is less = omega arith
  by false is less = omega (arith, points_one_less plan row first (up_to rest a), less, fits)

-- on a path of five edges three points at most are told
pub points_three : (plan : Plan) (row : WirePlan) (from to : ℕ) → has_repeat row.path ≡ false → length row.path ≤ 5 → follows row.path from to || follows row.path to from ≡ true
    → length (expected plan row from to).points ≤ 3
points_three plan row from to once fits joined = split {P = length (expected plan row from to).points ≤ 3} (follows row.path from to)
    (λ h. rw h (points_of_way plan row row.path from to 3 once h (omega (arith, fits))))
    (λ h. rw h (points_of_way plan row (reverse row.path) from to 3 (once_reversed row.path ∙ once) (follows_reversed row.path from to ∙ (rw h at joined))
    (omega (arith, fits, length-reverse row.path))))

-- and a switching point hears two at most
pub points_heard : (plan : Plan) (row : WirePlan) (me from to : EdgeId) → has_repeat row.path ≡ false → length row.path ≤ 5 → mate_on row.path me.0 from.0 ≡ Some to
    → length (expected plan row from.0 me.0).points < 3
points_heard plan row me from to once fits is =
    less (length (expected plan row from.0 me.0).points) (length (expected plan row me.0 to.0).points)
    (ap (λ (l : List PassedPoint). length l) (passes_points plan row me from to once is) ∙ length-append (expected plan row from.0 me.0).points (point_at plan row me from ∷ []))
    (points_three plan row me.0 to.0 once fits (goes (mate_passes row.path me.0 from.0 to is)))
  where
    less : (m n : ℕ) → n ≡ m + 1 → n ≤ 3 → m < 3
    less m n is most = omega (arith, is, most)

    goes : Passes row.path me.0 from.0 to.0 → follows row.path me.0 to.0 || follows row.path to.0 me.0 ≡ true
    goes (Onward a b) = rw b refl
    goes (Homeward a b) = or_later (follows row.path me.0 to.0) a
