-- At most three points, and the list of them.
use Rattle.std.specs.Prelude.{◌≡◌, List, [], ◌∷◌, refl}
use Rattle.pw_tlvs.specs.declared.point.Point.{Point}
use Rattle.pw_tlvs.specs.declared.held_points.HeldPoints.{HeldPoints}
use Rattle.pw_tlvs.specs.declared.held_points.HeldPoints.TheVariants as held

-- the points in order
abbrev pub points_of : HeldPoints → List Point
points_of held.None = []
points_of (held.One a) = a ∷ []
points_of (held.Two a b) = a ∷ b ∷ []
points_of (held.Three a b c) = a ∷ b ∷ c ∷ []

-- how the first three points of a list are held
abbrev pub held_points : List Point → HeldPoints
held_points [] = held.None
held_points (a ∷ []) = held.One a
held_points (a ∷ b ∷ []) = held.Two a b
held_points (a ∷ b ∷ c ∷ rest) = held.Three a b c

-- held points come back from their list
pub held_points_again : (h : HeldPoints) → held_points (points_of h) ≡ h
held_points_again held.None = refl
held_points_again (held.One a) = refl
held_points_again (held.Two a b) = refl
held_points_again (held.Three a b c) = refl
