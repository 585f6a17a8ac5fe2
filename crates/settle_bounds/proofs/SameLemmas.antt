-- What messages and sessions are worth goes by the plan and the failure bits of edges alone.
use Rattle.std.proofs.Common.{◌≡◌, ◌+◌, ◌*◌, ◌++◌, ◌∙◌, ◌&&◌, ℕ, zero, suc, Bool, cond, List, [], ◌∷◌, Option, Some, None, option_and_then, refl, sym, ap, arith, zero-add}
use Rattle.net_base.specs.declared.plan.Plan.{Plan}
use Rattle.net_base.specs.declared.plan.places.EdgeId.{EdgeId}
use Rattle.net_base.specs.declared.plan.wire_plan.WirePlan.{WirePlan}
use Rattle.net_base.specs.plan.Paths.{first_edge, follows, last_edge}
use Rattle.net_base.specs.plan.Places.{wire_row}
use Rattle.ldp_grammar.specs.declared.message.Message.{Message}
use Rattle.edge_model.specs.declared.end_place.EndPlace.{EndPlace}
use Rattle.edge_model.specs.EndPlaces.{end_named}
use Rattle.edge_model.specs.State.{EdgeState}
use Rattle.rest_laws.specs.Levels.{Saying, Binds, Withdraws, Releases, States, Clears, bits_of, edges_spoken, hangs, is_higher, label_stage, level, level_at, level_by, pw_id_of, saying_of, way_hangs}
use Rattle.rest_laws.specs.Rises.{left_above}
use Rattle.settle_bounds.specs.Bound.{fall_cost, may_fall, may_rise, messages_worth, rise_cost}
use Rattle.settle_bounds.specs.Worth.{Worths, beside, clear_cost, comes_by, comes_of, gate, heard_cost, may_follow, mend_cost, message_worth, worth, worth_at, worth_by, worth_named}

module _ (plan : Plan) (e f : ℕ → EdgeState) (same : (k : ℕ) → (e k).bits ≡ (f k).bits) where
  -- ---- levels

  bits_same : (wire : ℕ) (o : Option EdgeId) → bits_of e wire o ≡ bits_of f wire o
  bits_same wire None = refl
  bits_same wire (Some edge) = ap (λ (g : ℕ → ℕ). g wire) (same edge.0)

  hangs_same : (wire : ℕ) (row : WirePlan) (a b : ℕ) → way_hangs e wire row a b ≡ way_hangs f wire row a b
  hangs_same wire row a b = λ i. cond (follows row.path a b) (hangs row.near row.far (bits_same wire (first_edge row.path) i)) (hangs row.far row.near (bits_same wire (last_edge row.path) i))

  level_same : (wire : ℕ) (row : WirePlan) (a b : ℕ) (s : Saying) → level e wire row a b s ≡ level f wire row a b s
  level_same wire row a b Binds = ap (λ (h : Bool). label_stage h + (3 * edges_spoken row a b + 2)) (hangs_same wire row a b)
  level_same wire row a b Withdraws = ap (λ (h : Bool). label_stage h + 3 * edges_spoken row a b) (hangs_same wire row a b)
  level_same wire row a b Releases = ap (λ (h : Bool). label_stage h + (3 * edges_spoken row b a + 1)) (hangs_same wire row b a)
  level_same wire row a b States = refl
  level_same wire row a b Clears = refl

  row_same : (wire a b : ℕ) (s : Saying) (o : Option WirePlan) → level_by e wire a b s o ≡ level_by f wire a b s o
  row_same wire a b s None = refl
  row_same wire a b s (Some row) = ap (λ (n : ℕ). Some n) (level_same wire row a b s)

  at_same : (a : ℕ) (s : Saying) (place : EndPlace) → level_at plan e a s place ≡ level_at plan f a s place
  at_same a s place = row_same place.wire.0 a place.peer.0 s (wire_row plan place.wire)

  -- ---- worths

  module _ (one two : Worths) (is : one ≡ two) where
    heard_same : (me : EdgeId) (place : EndPlace) (row : WirePlan) (s : Saying) → heard_cost plan e one me place row s ≡ heard_cost plan f two me place row s
    heard_same me place row s = λ i p t. gate (is_higher (level_same place.wire.0 row place.peer.0 me.0 s i) (at_same me.0 t p i) && may_follow plan me place.wire.0 place.peer.0 row s p t) (is i me.0 p.wire.0 p.peer.0 t)

    of_same : (me : EdgeId) (place : EndPlace) (row : WirePlan) (s : Saying) → comes_of plan e one me place row s ≡ comes_of plan f two me place row s
    of_same me place row Binds = ap (mend_cost plan me) (heard_same me place row Binds)
    of_same me place row Withdraws = λ i. is i me.0 place.wire.0 place.peer.0 Releases + mend_cost plan me (heard_same me place row Withdraws i)
    of_same me place row Releases = ap (mend_cost plan me) (heard_same me place row Releases)
    of_same me place row States = ap (mend_cost plan me) (heard_same me place row States)
    of_same me place row Clears = ap (λ (cost : EndPlace → Saying → ℕ). clear_cost plan me cost place row) (heard_same me place row Clears)

    by_same : (me from wire : ℕ) (o : Option WirePlan) (s : Saying) → comes_by plan e one me from wire o s ≡ comes_by plan f two me from wire o s
    by_same me from wire None s = refl
    by_same me from wire (Some row) s = of_same (record { 0 = me }) (beside wire from) row s

  worth_same : (n : ℕ) → worth plan e n ≡ worth plan f n
  worth_same zero = refl
  worth_same (suc n) = λ i from wire to s. suc (by_same (worth plan e n) (worth plan f n) (worth_same n) to from wire (wire_row plan (record { 0 = wire })) s i)

  place_same : (from : ℕ) (place : EndPlace) (s : Saying) → worth_at plan e from place s ≡ worth_at plan f from place s
  place_same from place s = by (level_at plan e from s place) ∙ ap (worth_by plan f from place s) (at_same from s place) where
    by : (o : Option ℕ) → worth_by plan e from place s o ≡ worth_by plan f from place s o
    by None = refl
    by (Some l) = ap (λ (w : Worths). w from place.wire.0 place.peer.0 s) (worth_same (left_above l))

  named_same : (from : ℕ) (o : Option Saying) (named : Option EndPlace) → worth_named plan e from o named ≡ worth_named plan f from o named
  named_same from None named = refl
  named_same from (Some s) None = refl
  named_same from (Some s) (Some place) = place_same from place s

  pub message_same : (from to : ℕ) (m : Message) → message_worth plan e from to m ≡ message_worth plan f from to m
  message_same from to m = named_same from (saying_of m) (option_and_then (end_named plan (record { 0 = from }) (record { 0 = to })) (pw_id_of m))

  pub messages_same : (from to : ℕ) (ms : List Message) → messages_worth plan e from to ms ≡ messages_worth plan f from to ms
  messages_same from to [] = refl
  messages_same from to (m ∷ ms) = λ i. message_same from to m i + messages_same from to ms i

  pub rise_same : (me : EdgeId) (peer : ℕ) → rise_cost plan e me peer ≡ rise_cost plan f me peer
  rise_same me peer = λ i. mend_cost plan me (λ p s. gate (may_rise plan me peer p s) (place_same me.0 p s i))

  pub fall_same : (me : EdgeId) (peer : ℕ) → fall_cost plan e me peer ≡ fall_cost plan f me peer
  fall_same me peer = λ i. suc (mend_cost plan me (λ p s. gate (may_fall plan me peer p s) (place_same me.0 p s i)))

pub messages_joined : (plan : Plan) (e : ℕ → EdgeState) (a b : ℕ) (xs ys : List Message) → messages_worth plan e a b (xs ++ ys) ≡ messages_worth plan e a b xs + messages_worth plan e a b ys
messages_joined plan e a b [] ys = sym (zero-add (messages_worth plan e a b ys))
messages_joined plan e a b (x ∷ xs) ys = sum (message_worth plan e a b x) (messages_worth plan e a b (xs ++ ys)) (messages_worth plan e a b xs) (messages_worth plan e a b ys) (messages_joined plan e a b xs ys) where
  sum : (w a b c : ℕ) → a ≡ b + c → w + a ≡ (w + b) + c
  sum w a b c is = omega (arith, is)
