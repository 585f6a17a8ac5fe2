-- What the measure is made of, by evaluation: the triangle of two core edges and a spoke edge, once its three connections have begun.
use Rattle.std.proofs.Common.{◌≡◌, ◌+◌, ◌*◌, ◌^◌, ◌∙◌, ℕ, zero, suc, List, [], ◌∷◌, length, refl, sym, ap, arith}
use Rattle.std.proofs.Math.Nat.{pow-succ', pow-zero, suc-mul}
use Rattle.net_base.specs.declared.plan.Plan.{Plan}
use Rattle.net_base.specs.declared.trace.event.Event.TheVariants.{Connect}
use Rattle.flight_laws.proofs.UpExamples.{a, b, evaluated, reached, triangle, x}
use Rattle.flight_laws.proofs.WholeMessageLemmas.{Happens, Moment}
use Rattle.rest_laws.specs.Weight.{grow, heavy}
use Rattle.quiet_laws.specs.Measure.{end_rank, few_of, message_worth, puts_most, sum_below}

-- ---- a weight is a power

grow_is : (few h : ℕ) → grow few h ≡ suc few * h
grow_is zero h = one h (suc-mul 0 h) where
  one : (h : ℕ) → 1 * h ≡ 0 * h + h → h ≡ 1 * h
  one h is = omega (arith, is)
grow_is (suc few) h = more (grow few h) (suc few * h) h (suc (suc few) * h) (grow_is few h) (suc-mul (suc few) h) where
  more : (g s h t : ℕ) → g ≡ s → t ≡ s + h → h + g ≡ t
  more g s h t one two = omega (arith, one, two)

power_next : (n k : ℕ) → n * n ^ k ≡ n ^ suc k
power_next n k = sym (pow-succ' n k)

heavy_is : (few levels : ℕ) → heavy few levels ≡ suc few ^ levels
heavy_is few zero = sym (pow-zero (suc few))
heavy_is few (suc levels) = grow_is few (heavy few levels) ∙ (ap (λ (n : ℕ). suc few * n) (heavy_is few levels) ∙ power_next (suc few) levels)

worth_is : (plan : Plan) → message_worth plan ≡ suc (few_of plan) ^ 112 + 260
worth_is plan = ap (λ (n : ℕ). n + 260) (heavy_is (few_of plan) 112)

-- ---- the triangle

-- an edge puts at most so many messages on one: 1, for each circuit and each wire one, and three for each of its two ends
puts : puts_most triangle ≡ 3 * (suc (length triangle.circuits + 3) + 3 * 2)
puts = refl

abbrev opened : List Moment
opened = Happens (Connect a b) ∷ Happens (Connect a x) ∷ Happens (Connect b x) ∷ []

-- of each connection one end has four states to leave, and the other one, which has spoken, three
ranks : sum_below (λ one. sum_below (λ other. end_rank (((reached opened).edges one).peering other)) 3) 3 ≡ 21
unfolding evaluated
ranks = refl

-- three Initialization messages are on their way, each in a PDU of 36 octets (RFC 5036 sections 3.1 and 3.5.3)
octets : sum_below (λ one. sum_below (λ other. length ((reached opened).pipes one other)) 3) 3 ≡ 108
unfolding evaluated
octets = refl
