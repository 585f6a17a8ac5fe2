-- The rows of events: what they make names places of the plan and has the words of the row, and each event without octets has a row.
use Rattle.std.proofs.Common.{◌≡◌, ◌<◌, ◌==◌, ◌⊎◌, ℕ, codes, true, false, List, [], ◌∷◌, length, inl, inr, refl, ap, arith}
use Rattle.std.proofs.lemmas.Bool.{eqb-true}
use Rattle.net_base.specs.declared.plan.Plan.{Plan}
use Rattle.net_base.specs.declared.plan.places.CircuitId.{CircuitId}
use Rattle.net_base.specs.declared.trace.event.Event.{Event}
use Rattle.net_base.specs.declared.trace.event.Event.TheVariants as event
use Rattle.net_base.specs.plan.Planned.{IsEventOf}
use Rattle.plan_names.proofs.BelowLemmas.{all_below, below_at}
use Rattle.line_shapes.specs.Choices.{choice_word, choice_words, switch_place}
use Rattle.line_shapes.specs.declared.choice.Choice.{Choice}
use Rattle.line_shapes.specs.declared.choice.Choice.TheVariants as choice
use Rattle.event_rows.specs.Rows.{event_words, event_forms, event_made, IsNamedEvent}
use Rattle.line_shapes.specs.Shapes.{AreValuesOf, form_at, row_words, nth_value, value_word}
use Rattle.line_shapes.specs.declared.kind.Kind.TheVariants as kind
use Rattle.line_shapes.proofs.TableLemmas.{AllBelow, IsRow, below_all}

-- the word of what a place tells is the word of the place
pub word_same : {A : Type 0} (c : Choice) (told : ℕ → A) (place : A → ℕ) (n : ℕ) → all_below (λ n. place (told n) == n) (length (choice_words c)) ≡ true → n < length (choice_words c)
    → choice_word c (place (told n)) ≡ choice_word c n
word_same c told place n all lt = ap (choice_word c) (eqb-true (place (told n)) n (below_at (λ n. place (told n) == n) (length (choice_words c)) n all lt))

switch_word : (n : ℕ) → n < 2 → choice_word choice.Switch (switch_place (n == 1)) ≡ choice_word choice.Switch n
unfolding all_below
switch_word n lt = word_same choice.Switch (λ n. n == 1) switch_place n refl lt

-- what a row makes of values that fit it names places of the plan, and has the words of the row
abbrev pub EventRow : Plan → ℕ → Type 0
EventRow plan row = (v : List ℕ) → AreValuesOf plan (form_at event_forms row).kinds v → IsNamedEvent plan (event_made row v) × (event_words plan (event_made row v) ≡ row_words plan (form_at event_forms row) v)

-- an edge, a wire and one word behind them
abbrev pub at_end_of : Plan → List ℕ → List ℕ → List ℕ → List (List ℕ)
at_end_of plan first v word = first ∷ value_word plan kind.Edge (nth_value 0 v) ∷ value_word plan kind.Wire (nth_value 1 v) ∷ word ∷ []

module _ (plan : Plan) where
  deliver_row : EventRow plan 0
  deliver_row v fit = ((fit.1.0, (fit.1.1.1.0, fit.1.1.1.1.1.0)), refl)

  arrive_row : EventRow plan 1
  arrive_row v fit = (fit.1.0, refl)

  discard_row : EventRow plan 2
  discard_row v fit = (fit.1.0, refl)

  again_row : EventRow plan 3
  again_row v fit = (fit.1.0, refl)

  connect_row : EventRow plan 4
  connect_row v fit = ((fit.1.0, fit.1.1.1.0), refl)

  lose_row : EventRow plan 5
  lose_row v fit = ((fit.1.0, fit.1.1.1.0), refl)

  restart_row : EventRow plan 6
  restart_row v fit = (fit.1.0, refl)

  tick_row : EventRow plan 7
  tick_row v fit = (tt, refl)

  wire_row : EventRow plan 8
  wire_row v fit = ((fit.1.0, fit.1.1.1.0), ap (at_end_of plan (codes "wire") v) (switch_word (nth_value 2 v) fit.1.1.1.1.1.0))

  circuit_row : EventRow plan 9
  circuit_row v fit = (fit.1.0, ap (λ (w : List ℕ). codes "circuit" ∷ value_word plan kind.Circuit (nth_value 0 v) ∷ w ∷ []) (switch_word (nth_value 1 v) fit.1.1.1.0))

  status_row : EventRow plan 10
  status_row v fit = ((fit.1.0, (fit.1.1.1.0, fit.1.1.1.1.1.0)), refl)

  priority_row : EventRow plan 11
  priority_row v fit = ((fit.1.0, (fit.1.1.1.0, fit.1.1.1.1.1.0)), refl)

  ping_row : EventRow plan 12
  ping_row v fit = ((fit.1.0, fit.1.1.1.0), refl)

  pub event_rows : AllBelow (EventRow plan) (length event_forms)
  event_rows = (((((((((((((tt, deliver_row), arrive_row), discard_row), again_row), connect_row), lose_row), restart_row), tick_row), wire_row), circuit_row), status_row), priority_row), ping_row)

  -- ---- the row of each

  abbrev pub IsEventRow : Event → Type 0
  IsEventRow x = IsRow plan event_forms event_made (event_words plan x) x

  -- a frame
  pub record IsFrameEvent (x : Event) : Type 0 where
    pub circuit : CircuitId
    pub octets : List ℕ
    pub is : x ≡ event.Frame circuit octets

  pub event_row : (x : Event) → IsNamedEvent plan x → IsFrameEvent x ⊎ IsEventRow x
  event_row (event.Connect from to) is = inr (record { row = 4; values = from.0 ∷ to.0 ∷ []; within = omega arith; fit = (refl, (is.0, (refl, (is.1, refl)))); written = refl; is = refl })
  event_row (event.Deliver from to count) is =
      inr (record { row = 0; values = from.0 ∷ to.0 ∷ count ∷ []; within = omega arith; fit = (refl, (is.0, (refl, (is.1.0, (refl, (is.1.1, refl)))))); written = refl; is = refl })
  event_row (event.Lose edge peer) is = inr (record { row = 5; values = edge.0 ∷ peer.0 ∷ []; within = omega arith; fit = (refl, (is.0, (refl, (is.1, refl)))); written = refl; is = refl })
  event_row (event.Restart edge) is = inr (record { row = 6; values = edge.0 ∷ []; within = omega arith; fit = (refl, (is, refl)); written = refl; is = refl })
  event_row event.Tick is = inr (record { row = 7; values = []; within = omega arith; fit = refl; written = refl; is = refl })
  event_row (event.Frame circuit octets) is = inl (record { circuit = circuit; octets = octets; is = refl })
  event_row (event.Arrive packet) is = inr (record { row = 1; values = packet ∷ []; within = omega arith; fit = (refl, (is, refl)); written = refl; is = refl })
  event_row (event.Discard packet) is = inr (record { row = 2; values = packet ∷ []; within = omega arith; fit = (refl, (is, refl)); written = refl; is = refl })
  event_row (event.Again packet) is = inr (record { row = 3; values = packet ∷ []; within = omega arith; fit = (refl, (is, refl)); written = refl; is = refl })
  event_row (event.Wire edge wire true) is =
      inr (record { row = 8; values = edge.0 ∷ wire.0 ∷ 1 ∷ []; within = omega arith; fit = (refl, (is.0, (refl, (is.1, (refl, (omega arith, refl)))))); written = refl; is = refl })
  event_row (event.Wire edge wire false) is =
      inr (record { row = 8; values = edge.0 ∷ wire.0 ∷ 0 ∷ []; within = omega arith; fit = (refl, (is.0, (refl, (is.1, (refl, (omega arith, refl)))))); written = refl; is = refl })
  event_row (event.Circuit circuit true) is = inr (record { row = 9; values = circuit.0 ∷ 1 ∷ []; within = omega arith; fit = (refl, (is, (refl, (omega arith, refl)))); written = refl; is = refl })
  event_row (event.Circuit circuit false) is = inr (record { row = 9; values = circuit.0 ∷ 0 ∷ []; within = omega arith; fit = (refl, (is, (refl, (omega arith, refl)))); written = refl; is = refl })
  event_row (event.Status edge wire bits) is =
      inr (record { row = 10; values = edge.0 ∷ wire.0 ∷ bits ∷ []; within = omega arith; fit = (refl, (is.0, (refl, (is.1.0, (refl, (is.1.1, refl)))))); written = refl; is = refl })
  event_row (event.Priority edge wire priority) is =
      inr (record { row = 11; values = edge.0 ∷ wire.0 ∷ priority ∷ []; within = omega arith; fit = (refl, (is.0, (refl, (is.1.0, (refl, (is.1.1, refl)))))); written = refl; is = refl })
  event_row (event.Ping edge wire) is = inr (record { row = 12; values = edge.0 ∷ wire.0 ∷ []; within = omega arith; fit = (refl, (is.0, (refl, (is.1, refl)))); written = refl; is = refl })

-- ---- what a row makes is of the plan

abbrev OfPlan : Plan → ℕ → Type 0
OfPlan plan row = (v : List ℕ) → AreValuesOf plan (form_at event_forms row).kinds v → IsEventOf plan (event_made row v)

all_of_plan : (plan : Plan) → AllBelow (OfPlan plan) (length event_forms)
all_of_plan plan = ((
  (
    (
      (
        (
          ((((((((tt, λ v fit. (fit.1.0, fit.1.1.1.0)), λ v fit. tt), λ v fit. tt), λ v fit. tt), λ v fit. (fit.1.0, fit.1.1.1.0)), λ v fit. (fit.1.0, fit.1.1.1.0)), λ v fit. fit.1.0), λ v fit. tt),
          λ v fit. (fit.1.0, fit.1.1.1.0),
        ),
        λ v fit. fit.1.0,
      ),
      λ v fit. (fit.1.0, fit.1.1.1.0, fit.1.1.1.1.1.0.1),
    ),
    λ v fit. (fit.1.0, fit.1.1.1.0),
  ),
  λ v fit. (fit.1.0, fit.1.1.1.0),
)
    )

pub row_planned : (plan : Plan) (row : ℕ) (values : List ℕ) → row < length event_forms → AreValuesOf plan (form_at event_forms row).kinds values → IsEventOf plan (event_made row values)
row_planned plan row values lt fit = below_all (OfPlan plan) (length event_forms) row (all_of_plan plan) lt values fit
