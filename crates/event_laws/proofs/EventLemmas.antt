-- Each event is read from its words.
use Rattle.std.proofs.Common.{◌≡◌, ◌<◌, ◌≤◌, ◌∙◌, ◌==◌, ◌&&◌, ◌||◌, not, ℕ, Bool, true, false, List, [], ◌∷◌, length, Ok, inl, inr, refl, sym, ap, subst, arith}
use Rattle.std.specs.Prelude.{codes}
use Rattle.std.specs.Str.{bytes_eq}
use Rattle.std.proofs.lemmas.Bool.{and_parts, cases_Bool, eqb-true, not-true}
use Rattle.net_base.specs.declared.plan.Plan.{Plan}
use Rattle.net_base.specs.declared.plan.places.CircuitId.{CircuitId}
use Rattle.net_base.specs.declared.trace.event.Event.{Event}
use Rattle.net_base.specs.declared.trace.event.Event.TheVariants.{Connect, Deliver, Lose, Restart, Tick, Frame, Arrive, Discard, Again, Wire, Circuit, Status, Priority, Ping}
use Rattle.net_base.specs.plan.NameFaults.{circuit_names}
use Rattle.net_base.specs.plan.Planned.{IsEventOf}
use Rattle.plan_names.specs.Names.{place_in}
use Rattle.plan_names.specs.Planned.{HasNames}
use Rattle.plan_names.proofs.BelowLemmas.{all_below, below_at}
use Rattle.event_rows.specs.Rows.{event_words, event_forms, event_made, IsNamedEvent}
use Rattle.line_shapes.specs.Words.{circuit_name}
use Rattle.text_pieces.specs.Pieces.{hex}
use Rattle.command_text.specs.Words.{word_at}
use Rattle.script_text.specs.Parts.{parted_by}
use Rattle.script_text.specs.Script.{spaced_words, words_of}
use Rattle.script_text.proofs.PartLemmas.{AreWhole, words_again}
use Rattle.line_shapes.specs.Laws.{have_kinds, have_words}
use Rattle.line_shapes.specs.Shapes.{AreValuesOf, form_at, line_said, nth_value, row_words, value_words}
use Rattle.line_shapes.proofs.LawLemmas.{reads as row_reads}
use Rattle.line_shapes.proofs.NameLemmas.{row_said}
use Rattle.line_shapes.proofs.TableLemmas.{AllBelow, IsRow, are_kinds, below_all, words_differ}
use Rattle.event_rows.proofs.RowLemmas.{event_row}
use Rattle.command_text.specs.declared.command.Command.TheVariants.{One}
use Rattle.command_text.specs.Events.{command_in, command_of, event_by, frame_event_in, one, row_event_in}
use Rattle.command_text.specs.Hex.{frame_of}
use Rattle.event_laws.specs.Law.{IsEventInRange, IsPacket, ReadsWhatIsWritten}
use Rattle.event_laws.proofs.ReadLemmas.{by_word, ends_is, said_is}
use Rattle.event_laws.proofs.ValueLemmas.{AreGraphic, frame_said, octets_graphic, row_graphic, row_words_graphic, whole_words}

-- an event that a scenario can write is one of those that have a row, or a frame
pub named_of : (plan : Plan) (x : Event) → IsEventOf plan x → IsEventInRange x → IsNamedEvent plan x
named_of plan (Connect from to) of in_ = (of.0, of.1)
named_of plan (Deliver from to count) of in_ = (of.0, (of.1, in_))
named_of plan (Lose edge peer) of in_ = (of.0, of.1)
named_of plan (Restart edge) of in_ = of
named_of plan Tick of in_ = tt
named_of plan (Frame circuit octets) of in_ = (of.0, (in_.each, of.1))
named_of plan (Arrive packet) of in_ = (in_.0, omega (arith, in_.1))
named_of plan (Discard packet) of in_ = (in_.0, omega (arith, in_.1))
named_of plan (Again packet) of in_ = (in_.0, omega (arith, in_.1))
named_of plan (Wire edge wire on) of in_ = (of.0, of.1)
named_of plan (Circuit circuit on) of in_ = of
named_of plan (Status edge wire bits) of in_ = (of.0, (of.1, (omega arith, of.2)))
named_of plan (Priority edge wire priority) of in_ = (of.0, (of.1, (omega arith, in_)))
named_of plan (Ping edge wire) of in_ = (of.0, of.1)

-- the first word of a row is that of no other command, but for `tick`
abbrev is_plain : List ℕ → Bool
is_plain word =
    not (bytes_eq word (codes "frame"))
    && (not (bytes_eq word (codes "tick")) && (not (bytes_eq word (codes "settle")) && (not (bytes_eq word (codes "flow")) && not (bytes_eq word (codes "play")))))

plain_command : (plan : Plan) (number plays : ℕ) (word text : List ℕ) → is_plain word ≡ true → command_of plan number plays word text ≡ one (row_event_in plan number text)
unfolding command_of
plain_command plan number plays word text plain =
    let frame = and_parts (not (bytes_eq word (codes "frame"))) _ plain in
    let tick = and_parts (not (bytes_eq word (codes "tick"))) _ frame.1 in
    let settle = and_parts (not (bytes_eq word (codes "settle"))) _ tick.1 in
    let flow = and_parts (not (bytes_eq word (codes "flow"))) _ settle.1 in
    rw (
      not-true (bytes_eq word (codes "frame")) frame.0,
      not-true (bytes_eq word (codes "tick")) tick.0,
      not-true (bytes_eq word (codes "settle")) settle.0,
      not-true (bytes_eq word (codes "flow")) flow.0,
      not-true (bytes_eq word (codes "play")) flow.1,
    ) refl

plain_row : (row : ℕ) → row < length event_forms → (row == 7) ≡ false → is_plain (form_at event_forms row).word ≡ true
unfolding all_below
plain_row row lt other = by (row == 7) other (below_at (λ n. (n == 7) || is_plain (form_at event_forms n).word) (length event_forms) row refl lt) where
  by : (b : Bool) → b ≡ false → b || is_plain (form_at event_forms row).word ≡ true → is_plain (form_at event_forms row).word ≡ true
  by true other is = absurd (cc)
  by false other is = is

frame_graphic : (plan : Plan) (circuit : CircuitId) (octets : List ℕ) → HasNames plan → IsNamedEvent plan (Frame circuit octets) → AreGraphic (event_words plan (Frame circuit octets))
frame_graphic plan circuit octets names is = (refl, (row_graphic (λ row. row.name) plan.circuits circuit.0 names.circuits is.0, (octets_graphic octets is.1.0, tt)))

tick_read : (plan : Plan) (number plays : ℕ) → command_in plan number plays (spaced_words (codes "tick" ∷ [])) ≡ Ok (One Tick)
unfolding command_of word_at parted_by
tick_read plan number plays = refl

module _ (plan : Plan) (number plays : ℕ) (names : HasNames plan) where
  -- an event by its row
  by_row : (x : Event) → IsRow plan event_forms event_made (event_words plan x) x → command_in plan number plays (spaced_words (event_words plan x)) ≡ Ok (One x)
  unfolding row_event_in have_kinds have_words
  by_row x told =
      ap (λ (l : List (List ℕ)). command_in plan number plays (spaced_words l)) told.written ∙ elim (cases_Bool (told.row == 7)) [
        | inl tick ↦ of_tick (eqb-true told.row 7 tick)
        | inr other ↦ of_row other
      ] ∙ ap (λ (e : Event). Ok (One e)) told.is
    where
      of_tick : told.row ≡ 7 → command_in plan number plays (spaced_words (row_words plan (form_at event_forms told.row) told.values)) ≡ Ok (One (event_made told.row told.values))
      of_tick is =
          subst (λ (row : ℕ). command_in plan number plays (spaced_words (row_words plan (form_at event_forms row) told.values)) ≡ Ok (One (event_made row told.values))) (sym is)
          (tick_read plan number plays)

      of_row : (told.row == 7) ≡ false → command_in plan number plays (spaced_words (row_words plan (form_at event_forms told.row) told.values)) ≡ Ok (One (event_made told.row told.values))
      of_row other =
          let word : List ℕ = (form_at event_forms told.row).word in
          let rest : List (List ℕ) = value_words plan (form_at event_forms told.row).kinds told.values in
          let whole : AreWhole (word ∷ rest) = whole_words (word ∷ rest) (row_words_graphic plan event_forms told.row told.values names refl refl told.fit) in
          by_word plan number plays word rest (One (event_made told.row told.values)) whole
          (plain_command plan number plays word (spaced_words (word ∷ rest)) (plain_row told.row told.within other)
          ∙ ap (λ (l : List (List ℕ)). one (event_by number (line_said plan event_forms l))) (words_again word rest whole)
          ∙ ap (λ r. one (event_by number r)) (row_reads plan event_forms told.row told.values names (words_differ event_forms refl) told.within (are_kinds event_forms told.row refl) told.fit))

  frame_read : (circuit : CircuitId) (octets : List ℕ) → IsEventOf plan (Frame circuit octets) → IsEventInRange (Frame circuit octets)
      → command_in plan number plays (spaced_words (event_words plan (Frame circuit octets))) ≡ Ok (One (Frame circuit octets))
  unfolding command_of frame_event_in
  frame_read circuit octets of in_ =
      let word : List ℕ = codes "frame" in
      let rest : List (List ℕ) = circuit_name plan circuit ∷ hex octets ∷ [] in
      let whole : AreWhole (word ∷ rest) = whole_words (word ∷ rest) (frame_graphic plan circuit octets names (named_of plan (Frame circuit octets) of in_)) in
      let again : words_of (spaced_words (word ∷ rest)) ≡ word ∷ rest = words_again word rest whole in
      let said2 = said_is (place_in (circuit_names plan.circuits)) number 2 (spaced_words (word ∷ rest)) (circuit_name plan circuit) (word ∷ rest) circuit.0 again refl
      (row_said (λ row. row.name) plan.circuits circuit.0 names.circuits of.0) in
      let said3 = said_is frame_of number 3 (spaced_words (word ∷ rest)) (hex octets) (word ∷ rest) octets again refl (frame_said octets in_) in
      let ends4 = ends_is number 4 (spaced_words (word ∷ rest)) (word ∷ rest) again refl in
      by_word plan number plays word rest (One (Frame circuit octets)) whole (rw (said2, said3, ends4) refl)

-- the words that a report writes for an event are read as the event
pub reads : ReadsWhatIsWritten
reads plan x number plays names of in_ = elim (event_row plan x (named_of plan x of in_)) [
  | inl frame ↦
      subst (λ (e : Event). IsEventOf plan e → IsEventInRange e → command_in plan number plays (spaced_words (event_words plan e)) ≡ Ok (One e)) (sym frame.is)
      (frame_read plan number plays names frame.circuit frame.octets) of in_
  | inr told ↦ by_row plan number plays names x told
]

-- and they are graphic
pub event_graphic : (plan : Plan) (x : Event) → HasNames plan → IsNamedEvent plan x → AreGraphic (event_words plan x)
unfolding have_kinds
event_graphic plan x names is = elim (event_row plan x is) [
  | inl frame ↦ subst (λ (e : Event). IsNamedEvent plan e → AreGraphic (event_words plan e)) (sym frame.is) (frame_graphic plan frame.circuit frame.octets names) is
  | inr told ↦ subst AreGraphic (sym told.written) (row_words_graphic plan event_forms told.row told.values names refl refl told.fit)
]

-- ---- the other way

-- the numbers that a row reads are in the ranges of its event
abbrev InRange : Plan → ℕ → Type 0
InRange plan row = (v : List ℕ) → AreValuesOf plan (form_at event_forms row).kinds v → IsEventInRange (event_made row v)

ranges : (plan : Plan) → AllBelow (InRange plan) (length event_forms)
ranges plan =
    let packet : (n : ℕ) → (1 ≤ n) × (n ≤ 18446744073709551615) → IsPacket n = λ n fit. (fit.0, omega (arith, fit.1)) in (
      (
        (
          (
            (
              (
                (
                  (
                    (
                      ((((tt, λ v fit. fit.1.1.1.1.1.0), λ v fit. packet (nth_value 0 v) fit.1.0), λ v fit. packet (nth_value 0 v) fit.1.0), λ v fit. packet (nth_value 0 v) fit.1.0),
                      λ v fit. tt,
                    ),
                    λ v fit. tt,
                  ),
                  λ v fit. tt,
                ),
                λ v fit. tt,
              ),
              λ v fit. tt,
            ),
            λ v fit. tt,
          ),
          λ v fit. tt,
        ),
        λ v fit. fit.1.1.1.1.1.0.1,
      ),
      λ v fit. tt,
    )

pub row_in_range : (plan : Plan) (row : ℕ) (values : List ℕ) → row < length event_forms → AreValuesOf plan (form_at event_forms row).kinds values → IsEventInRange (event_made row values)
row_in_range plan row values lt fit = below_all (InRange plan) (length event_forms) row (ranges plan) lt values fit
