-- An entry is read from its words, which are graphic.
use Rattle.std.proofs.Common.{◌≡◌, ◌<◌, ◌≤◌, ◌++◌, ◌∙◌, ℕ, codes, List, [], ◌∷◌, Option, Some, None, IfSome, length, option_map, refl, sym, ap, subst, arith, inl, inr, not}
use Rattle.std.proofs.lemmas.Bool.{le-leb, not-true}
use Rattle.std.specs.Str.{bytes_eq}
use Rattle.std.specs.Fmt.{decimal}
use Rattle.net_values.proofs.OptionLemmas.{none_some}
use Rattle.net_values.proofs.RowLemmas.{octets_apart_test}
use Rattle.net_base.specs.declared.plan.Plan.{Plan}
use Rattle.net_base.specs.declared.plan.circuit_plan.CircuitPlan.{CircuitPlan}
use Rattle.net_base.specs.declared.plan.edge_plan.EdgePlan.{EdgePlan}
use Rattle.net_base.specs.declared.plan.wire_plan.WirePlan.{WirePlan}
use Rattle.net_base.specs.declared.plan.places.CircuitId.{CircuitId}
use Rattle.net_base.specs.declared.plan.places.EdgeId.{EdgeId}
use Rattle.net_base.specs.declared.plan.places.WireId.{WireId}
use Rattle.net_base.specs.declared.trace.arrival.Arrival.{Arrival}
use Rattle.net_base.specs.declared.trace.arrival.Arrival.TheVariants as arrival
use Rattle.net_base.specs.declared.trace.entry.Entry.{Entry}
use Rattle.net_base.specs.declared.trace.entry.Entry.TheVariants as entry
use Rattle.net_base.specs.declared.trace.event.Event.{Event}
use Rattle.net_base.specs.declared.trace.event.Event.TheVariants as event
use Rattle.net_base.specs.plan.NameFaults.{circuit_names}
use Rattle.plan_names.specs.Names.{place_in}
use Rattle.plan_names.specs.Planned.{HasNames, names_of}
use Rattle.plan_names.proofs.BelowLemmas.{all_below, below_at}
use Rattle.plan_names.proofs.DecimalLemmas.{number_said}
use Rattle.octet_text.specs.Hex.{unhex}
use Rattle.script_text.specs.Script.{spaced_words}
use Rattle.text_pieces.specs.Pieces.{hex}
use Rattle.line_shapes.specs.Choices.{cause_place, state_place, wire_end_place}
use Rattle.line_shapes.specs.Words.{arrival_name, circuit_name, edge_name, wire_name}
use Rattle.line_shapes.specs.Laws.{have_kinds, have_words}
use Rattle.line_shapes.specs.Shapes.{AreValuesOf, IsFit, form_at, row_words}
use Rattle.line_shapes.specs.declared.kind.Kind.TheVariants as kind
use Rattle.line_shapes.proofs.NameLemmas.{row_said}
use Rattle.line_shapes.proofs.ReadLemmas.{IsRead, value_read}
use Rattle.line_shapes.proofs.TableLemmas.{IsRow, row_read}
use Rattle.event_rows.specs.Rows.{AreOctetsTold, IsCircuit, IsNamedEdge, IsNamedEvent, IsToldNumber, IsWire, event_forms, event_made, event_words}
use Rattle.event_rows.proofs.RowLemmas.{event_row}
use Rattle.event_laws.proofs.EventLemmas.{event_graphic}
use Rattle.event_laws.proofs.ValueLemmas.{AreGraphic, IsGraphic, decimal_graphic, octets_graphic, octets_read, row_graphic, row_words_graphic}
use Rattle.report_text.specs.Named.{HasNamesApart, IsArrival, IsEntryNamed}
use Rattle.report_text.specs.Report.{entry_line, entry_words}
use Rattle.report_text.specs.Rows.{entry_forms, entry_made}
use Rattle.report_entries.specs.Entries.{carried_in, entered_in, left_in, line_entry, passed_in, row_entry, said_in, sent_in, told_entry_of, words_entry}
use Rattle.report_entries.specs.Events.{event_told, frame_told, row_event}
use Rattle.report_entries.specs.Laws.{LinesAreRead}
use Rattle.report_entries.specs.Reading.{arrival_in, circuit_of_word, digits_told, edge_of_word, number_in, wire_of_word}
use Rattle.report_entries.proofs.ApartLemmas.{names_apart}
use Rattle.report_entries.proofs.CutLemmas.{IsLineOf, line_is, line_of_words}
use Rattle.report_entries.proofs.DigitLemmas.{digits_small}
use Rattle.report_entries.proofs.ReadLemmas.{entry_by, line_told}
use Rattle.report_entries.proofs.RowLemmas.{cause_told, end_told, state_told}

-- ---- values

number_found : (n : ℕ) → IsToldNumber n → number_in (decimal n) ≡ Some n
unfolding number_in
number_found n is = number_said 0 18446744073709551615 n (omega arith) (omega (arith, is)) is

octets_found : (octets : List ℕ) → AreOctetsTold octets → digits_told (hex octets) ≡ Some octets
unfolding digits_told
octets_found octets are = ap unhex (digits_small octets are) ∙ octets_read octets are

abbrev as_edge : Option ℕ → Option EdgeId
as_edge place = option_map (λ (n : ℕ). record { 0 = n }) place

abbrev as_circuit : Option ℕ → Option CircuitId
as_circuit place = option_map (λ (n : ℕ). record { 0 = n }) place

abbrev as_wire : Option ℕ → Option WireId
as_wire place = option_map (λ (n : ℕ). record { 0 = n }) place

-- no row is that of a frame
no_frame : (plan : Plan) (row : ℕ) (values : List ℕ) → row < length event_forms → event_told plan (row_words plan (form_at event_forms row) values) ≡ row_event plan (row_words plan (form_at event_forms row) values)
unfolding all_below
no_frame plan row values lt =
    rw (not-true (bytes_eq (form_at event_forms row).word (codes "frame")) (below_at (λ n. not (bytes_eq (form_at event_forms n).word (codes "frame"))) (length event_forms) row refl lt)) refl

module _ (plan : Plan) (names : HasNames plan) where
  edge_found : (a : EdgeId) → IsNamedEdge plan a → edge_of_word (names_of plan) (edge_name plan a) ≡ Some a
  unfolding edge_of_word
  edge_found a is = ap as_edge (row_said (λ (row : EdgePlan). row.name) plan.edges a.0 names.edges is)

  circuit_found : (a : CircuitId) → IsCircuit plan a → circuit_of_word (names_of plan) (circuit_name plan a) ≡ Some a
  unfolding circuit_of_word
  circuit_found a is = ap as_circuit (row_said (λ (row : CircuitPlan). row.name) plan.circuits a.0 names.circuits is)

  wire_found : (a : WireId) → IsWire plan a → wire_of_word (names_of plan) (wire_name plan a) ≡ Some a
  unfolding wire_of_word
  wire_found a is = ap as_wire (row_said (λ (row : WirePlan). row.name) plan.wires a.0 names.wires is)

  frame_found : (circuit : CircuitId) (octets : List ℕ) → IsNamedEvent plan (event.Frame circuit octets) → event_told plan (event_words plan (event.Frame circuit octets)) ≡ Some (event.Frame circuit octets)
  unfolding frame_told
  frame_found circuit octets is = rw (circuit_found circuit is.0, octets_found octets is.1.0, le-leb (length octets) 262144 is.1.1) refl

  row_event_found : (x : Event) → IsRow plan event_forms event_made (event_words plan x) x → event_told plan (event_words plan x) ≡ Some x
  unfolding row_event have_words have_kinds
  row_event_found x told =
      ap (event_told plan) told.written
      ∙ (no_frame plan told.row told.values told.within
      ∙ (ap (row_event plan) (sym told.written) ∙ row_read plan event_forms event_made (event_words plan x) x names refl refl told))

  event_found : (x : Event) → IsNamedEvent plan x → event_told plan (event_words plan x) ≡ Some x
  event_found x is = elim (event_row plan x is) [
    | inl frame ↦ subst (λ (e : Event). IsNamedEvent plan e → event_told plan (event_words plan e) ≡ Some e) (sym frame.is) (frame_found frame.circuit frame.octets) is
    | inr told ↦ row_event_found x told
  ]

  edge_graphic : (a : EdgeId) → IsNamedEdge plan a → IsGraphic (edge_name plan a)
  edge_graphic a is = row_graphic (λ (row : EdgePlan). row.name) plan.edges a.0 names.edges is

  circuit_graphic : (a : CircuitId) → IsCircuit plan a → IsGraphic (circuit_name plan a)
  circuit_graphic a is = row_graphic (λ (row : CircuitPlan). row.name) plan.circuits a.0 names.circuits is

  wire_graphic : (a : WireId) → IsWire plan a → IsGraphic (wire_name plan a)
  wire_graphic a is = row_graphic (λ (row : WirePlan). row.name) plan.wires a.0 names.wires is

  arrival_graphic : (a : Arrival) → IsArrival plan a → IsGraphic (arrival_name plan a)
  arrival_graphic (arrival.Circuit a) is = circuit_graphic a is
  arrival_graphic (arrival.Wire a) is = wire_graphic a is
  arrival_graphic arrival.Own is = refl

-- a name of no circuit
no_circuit : (plan : Plan) → HasNamesApart plan → (a : WireId) → IsWire plan a → circuit_of_word (names_of plan) (wire_name plan a) ≡ None
unfolding circuit_of_word
no_circuit plan apart a is = by (place_in (circuit_names plan.circuits) (wire_name plan a)) (value_read plan kind.Circuit (wire_name plan a)) where
  by : (o : Option ℕ) → IfSome o (IsRead plan kind.Circuit (wire_name plan a)) → as_circuit o ≡ None
  by None said = refl
  by (Some n) said = absurd (apart.apart (record { 0 = n }) a said.0 is (said.1 tt))

-- what a number of 64 bits is as a value
told_fit : (plan : Plan) (n : ℕ) → IsToldNumber n → IsFit plan (kind.Number 0 18446744073709551615) n
told_fit plan n is = (omega arith, omega (arith, is))

module _ (plan : Plan) (names : HasNames plan) (apart : HasNamesApart plan) where
  arrival_found : (a : Arrival) → IsArrival plan a → arrival_in (names_of plan) (arrival_name plan a) ≡ Some a
  unfolding arrival_in
  arrival_found (arrival.Circuit a) is = rw (octets_apart_test (circuit_name plan a) (codes "-") (apart.circuits a is), circuit_found plan names a is) refl
  arrival_found (arrival.Wire a) is = rw (octets_apart_test (wire_name plan a) (codes "-") (apart.wires a is), no_circuit plan apart a is, wire_found plan names a is) refl
  arrival_found arrival.Own is = refl

  record IsTold (x : Entry) : Type 0 where
    graphic : AreGraphic (entry_words plan x)
    found : words_entry plan (entry_words plan x) ≡ Some x

  -- an entry by its row
  of_row : (x : Entry) (row : ℕ) (values : List ℕ) → row < length entry_forms → AreValuesOf plan (form_at entry_forms row).kinds values
      → entry_words plan x ≡ row_words plan (form_at entry_forms row) values → entry_made row values ≡ x → words_entry plan (entry_words plan x) ≡ row_entry plan (entry_words plan x) → IsTold x
  unfolding row_entry have_words have_kinds
  of_row x row values within fit written is by_row = record {
    graphic = subst AreGraphic (sym written) (row_words_graphic plan entry_forms row values names refl refl fit);
    found = by_row
        ∙ row_read plan entry_forms entry_made (entry_words plan x) x names refl refl (record { row = row; values = values; within = within; fit = fit; written = written; is = is });
  }

  entry_told : (x : Entry) → IsEntryNamed plan x → IsTold x
  unfolding told_entry_of said_in entered_in sent_in carried_in passed_in left_in
  entry_told (entry.Did event) is = record { graphic = (refl, event_graphic plan event names is); found = rw (event_found plan names event is) refl }
  entry_told (entry.Said from to octets) is = record {
    graphic = (refl, (edge_graphic plan names from is.0, (edge_graphic plan names to is.1.0, (octets_graphic octets is.1.1, tt))));
    found = rw (edge_found plan names from is.0, edge_found plan names to is.1.0, octets_found octets is.1.1) refl;
  }
  entry_told (entry.In circuit number octets) is = record {
    graphic = (refl, (circuit_graphic plan names circuit is.0, (decimal_graphic number is.1.0, (octets_graphic octets is.1.1, tt))));
    found = rw (circuit_found plan names circuit is.0, number_found number is.1.0, octets_found octets is.1.1) refl;
  }
  entry_told (entry.Sent from to wire came packet origin hops octets) is =
      let behind = is.1.1.1.1 in record {
        graphic = (
          refl,
          (
            decimal_graphic packet behind.0,
            (edge_graphic plan names from is.0, (edge_graphic plan names to is.1.0, (wire_graphic plan names wire is.1.1.0, (arrival_graphic plan names came is.1.1.1.0, (decimal_graphic origin behind.1.0, (decimal_graphic hops behind.1.1.0, (octets_graphic octets behind.1.1.1, tt))))))),
          ),
        );
        found = rw (
          number_found packet behind.0,
          edge_found plan names from is.0,
          edge_found plan names to is.1.0,
          wire_found plan names wire is.1.1.0,
          arrival_found came is.1.1.1.0,
          number_found origin behind.1.0,
          number_found hops behind.1.1.0,
          octets_found octets behind.1.1.1,
        ) refl;
      }
  entry_told (entry.Left circuit origin hops octets) is = record {
    graphic = (refl, (circuit_graphic plan names circuit is.0, (decimal_graphic origin is.1.0, (decimal_graphic hops is.1.1.0, (octets_graphic octets is.1.1.1, tt)))));
    found = rw (circuit_found plan names circuit is.0, number_found origin is.1.0, number_found hops is.1.1.0, octets_found octets is.1.1.1) refl;
  }
  entry_told (entry.Session edge peer state) is =
      of_row (entry.Session edge peer state) 0 (edge.0 ∷ peer.0 ∷ state_place state ∷ []) (omega arith) (refl, (is.0, (refl, (is.1, (refl, ((state_told state).0, refl))))))
      refl (ap (entry.Session edge peer) (state_told state).1) refl
  entry_told (entry.Wire edge wire down) is =
      of_row (entry.Wire edge wire down) 1 (edge.0 ∷ wire.0 ∷ wire_end_place down ∷ []) (omega arith) (refl, (is.0, (refl, (is.1, (refl, ((end_told down).0, refl))))))
      refl (ap (entry.Wire edge wire) (end_told down).1) refl
  entry_told (entry.Dropped edge origin cause) is =
      of_row (entry.Dropped edge origin cause) 2 (edge.0 ∷ origin ∷ cause_place cause ∷ []) (omega arith) (refl, (is.0, (refl, (told_fit plan origin is.1, (refl, ((cause_told cause).0, refl))))))
      refl (ap (entry.Dropped edge origin) (cause_told cause).1) refl
  entry_told entry.Idle is = of_row entry.Idle 3 [] (omega arith) refl refl refl refl
  entry_told (entry.Copied packet of) is =
      of_row (entry.Copied packet of) 4 (packet ∷ of ∷ []) (omega arith) (refl, (told_fit plan packet is.0, (refl, (told_fit plan of is.1, refl)))) refl refl refl
  entry_told (entry.Aged packet) is = of_row (entry.Aged packet) 5 (packet ∷ []) (omega arith) (refl, (told_fit plan packet is, refl)) refl refl refl
  entry_told (entry.Pong edge wire sequence) is =
      of_row (entry.Pong edge wire sequence) 6 (edge.0 ∷ wire.0 ∷ sequence ∷ []) (omega arith) (refl, (is.0, (refl, (is.1.0, (refl, (is.1.1, refl)))))) refl refl refl

-- ---- lines

-- the words that tell an entry are some, and few
told_few : (plan : Plan) (words : List (List ℕ)) (x : Entry) → words_entry plan words ≡ Some x → (0 < length words) × (length words ≤ 10)
told_few plan [] x is = none_some x is
told_few plan (kind ∷ words) x is = (omega arith, omega (arith, (entry_by plan (kind ∷ words) x is).1.1))

module _ (plan : Plan) (names : HasNames plan) (apart : HasNamesApart plan) (x : Entry) (named : IsEntryNamed plan x) where
  -- an entry has a line
  pub has_line : IsLineOf (entry_words plan x) (spaced_words (entry_words plan x))
  has_line =
      let told = entry_told plan names apart x named in
      let few = told_few plan (entry_words plan x) x told.found in
      line_of_words (entry_words plan x) few.0 few.1 told.graphic

  -- an entry's line is read as the entry
  pub line_found : (line : List ℕ) → entry_line plan x ≡ line ++ codes "\n" → line_entry plan line ≡ Some x
  line_found line same =
      let told = entry_told plan names apart x named in
      let few = told_few plan (entry_words plan x) x told.found in
      line_told plan line ∙ (ap (words_entry plan) (line_is (entry_words plan x) line same few.0 few.1 told.graphic).cut ∙ told.found)

pub lines_read : LinesAreRead
lines_read plan entry line checked names is same = line_found plan names (names_apart plan checked names) entry is line same
