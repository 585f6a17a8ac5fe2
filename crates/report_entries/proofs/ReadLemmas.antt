-- What is read of a line names places of the plan, and is the entry of which it is the line: no two words say the same.
use Rattle.std.proofs.Common.{◌≡◌, ◌≤◌, ◌++◌, ◌∙◌, ℕ, codes, Bool, true, false, List, [], ◌∷◌, Option, Some, None, Result, Ok, Err, IfOk, IfSome, cond, length, nat_le, option_map, is_some, refl, sym, ap, subst, arith}
use Rattle.std.proofs.lemmas.Bool.{leb-true}
use Rattle.std.proofs.lemmas.Option.{IfSome_then}
use Rattle.std.proofs.lemmas.Slice.Eq.{bytes_eq-Decides}
use Rattle.std.specs.Fmt.{decimal}
use Rattle.std.specs.Str.{bytes_eq}
use Rattle.net_base.specs.declared.plan.Plan.{Plan}
use Rattle.net_base.specs.declared.plan.places.CircuitId.{CircuitId}
use Rattle.net_base.specs.declared.plan.places.EdgeId.{EdgeId}
use Rattle.net_base.specs.declared.plan.places.WireId.{WireId}
use Rattle.net_base.specs.declared.trace.arrival.Arrival.{Arrival}
use Rattle.net_base.specs.declared.trace.arrival.Arrival.TheVariants as arrival
use Rattle.net_base.specs.declared.trace.entry.Entry.{Entry}
use Rattle.net_base.specs.declared.trace.entry.Entry.TheVariants as entry
use Rattle.net_base.specs.declared.trace.event.Event.{Event}
use Rattle.net_base.specs.declared.trace.event.Event.TheVariants as event
use Rattle.net_base.specs.plan.Planned.{IsFrame}
use Rattle.plan_names.specs.Planned.{names_of}
use Rattle.plan_names.proofs.BelowLemmas.{all_below}
use Rattle.text_pieces.specs.Pieces.{hex}
use Rattle.text_lines.specs.Lines.{line_of}
use Rattle.line_shapes.specs.Words.{arrival_name, circuit_name, edge_name, wire_name}
use Rattle.line_shapes.specs.Laws.{have_kinds}
use Rattle.line_shapes.specs.declared.kind.Kind.TheVariants as kind
use Rattle.line_shapes.proofs.ReadLemmas.{value_read}
use Rattle.line_shapes.proofs.TableLemmas.{below_all, few_words, rows_hold}
use Rattle.event_rows.specs.Rows.{AreOctetsTold, IsCircuit, IsNamedEdge, IsNamedEvent, IsToldNumber, IsWire, event_forms, event_made, event_words}
use Rattle.event_rows.proofs.RowLemmas.{EventRow, event_rows}
use Rattle.report_text.specs.Named.{IsArrival, IsEntryNamed}
use Rattle.report_text.specs.Report.{entry_line, entry_words}
use Rattle.report_text.specs.Rows.{entry_forms, entry_made}
use Rattle.report_entries.specs.declared.passed.Carried.{Carried}
use Rattle.report_entries.specs.declared.passed.Passed.{Passed}
use Rattle.report_entries.specs.declared.unread.Unread.{Unread}
use Rattle.report_entries.specs.Entries.{carried_in, did_in, entered_in, exact, left_in, line_entry, passed_in, row_entry, said_in, sent_in, told_entry_in, told_entry_of, words_entry}
use Rattle.report_entries.specs.Events.{event_told, frame_told, of_record_size, row_event}
use Rattle.report_entries.specs.Reading.{◌>>=◌, Reads, arrival_in, circuit_of_word, edge_of_word, line_words, number_in, wire_of_word}
use Rattle.report_entries.proofs.CutLemmas.{line_again}
use Rattle.report_entries.proofs.DigitLemmas.{AreTold, octets_again}
use Rattle.report_entries.proofs.RowLemmas.{EntryRow, entry_rows}

-- ---- what is read step by step

then : {A B : Type 0} (P : A → Type 0) (Q : B → Type 0) (o : Option A) (f : A → Option B) → IfSome o P → ((x : A) → P x → IfSome (f x) Q) → IfSome (o >>= f) Q
then P Q None f holds next = tt
then P Q (Some x) f holds next = next x holds

made : {A : Type 0} (Q : A → Type 0) (x : A) → Q x → IfSome (Some x) Q
made Q x is = is

mapped : {A B : Type 0} {P : A → Type 0} (Q : B → Type 0) (f : A → B) (o : Option A) → IfSome o P → ((x : A) → P x → Q (f x)) → IfSome (option_map f o) Q
mapped Q f None holds implied = tt
mapped Q f (Some x) holds implied = implied x holds

either : {A : Type 0} (Q : A → Type 0) (b : Bool) (x y : Option A) → IfSome x Q → IfSome y Q → IfSome (cond b x y) Q
either Q true x y first second = first
either Q false x y first second = second

by_text : {A : Type 0} (Q : List ℕ → A → Type 0) (word text : List ℕ) (x y : Option A) → IfSome x (Q text) → IfSome y (Q word) → IfSome (cond (bytes_eq word text) x y) (Q word)
by_text Q word text x y first second = by (bytes_eq word text) refl where
  by : (b : Bool) → bytes_eq word text ≡ b → IfSome (cond b x y) (Q word)
  by true same = subst (λ (w : List ℕ). IfSome x (Q w)) (sym ((bytes_eq-Decides word text).0 same)) first
  by false other = second

module _ (plan : Plan) where
  -- ---- words

  abbrev IsEdgeBy : List ℕ → EdgeId → Type 0
  IsEdgeBy word a = IsNamedEdge plan a × (edge_name plan a ≡ word)

  abbrev IsCircuitBy : List ℕ → CircuitId → Type 0
  IsCircuitBy word a = IsCircuit plan a × (circuit_name plan a ≡ word)

  abbrev IsWireBy : List ℕ → WireId → Type 0
  IsWireBy word a = IsWire plan a × (wire_name plan a ≡ word)

  abbrev IsNumberBy : List ℕ → ℕ → Type 0
  IsNumberBy word n = IsToldNumber n × (decimal n ≡ word)

  abbrev IsArrivalBy : List ℕ → Arrival → Type 0
  IsArrivalBy word a = IsArrival plan a × (arrival_name plan a ≡ word)

  abbrev IsFrameBy : List ℕ → List ℕ → Type 0
  IsFrameBy word octets = (AreOctetsTold octets × IsFrame octets) × (hex octets ≡ word)

  edge_read : (word : List ℕ) → IfSome (edge_of_word (names_of plan) word) (IsEdgeBy word)
  unfolding edge_of_word
  edge_read word = mapped (IsEdgeBy word) (λ n. record { 0 = n }) _ (value_read plan kind.Edge word) (λ n said. (said.0, said.1 tt))

  circuit_read : (word : List ℕ) → IfSome (circuit_of_word (names_of plan) word) (IsCircuitBy word)
  unfolding circuit_of_word
  circuit_read word = mapped (IsCircuitBy word) (λ n. record { 0 = n }) _ (value_read plan kind.Circuit word) (λ n said. (said.0, said.1 tt))

  wire_read : (word : List ℕ) → IfSome (wire_of_word (names_of plan) word) (IsWireBy word)
  unfolding wire_of_word
  wire_read word = mapped (IsWireBy word) (λ n. record { 0 = n }) _ (value_read plan kind.Wire word) (λ n said. (said.0, said.1 tt))

  number_read : (word : List ℕ) → IfSome (number_in word) (IsNumberBy word)
  unfolding number_in
  number_read word = IfSome_then _ {Q = IsNumberBy word} (value_read plan (kind.Number 0 18446744073709551615) word) (λ n said. (omega (arith, said.0.1), said.1 (omega arith)))

  arrival_read : (word : List ℕ) → IfSome (arrival_in (names_of plan) word) (IsArrivalBy word)
  unfolding arrival_in
  arrival_read word = by_text IsArrivalBy word (codes "-") _ _ (tt, refl) (either (IsArrivalBy word) (is_some (circuit_of_word (names_of plan) word)) _ _
      (mapped (IsArrivalBy word) arrival.Circuit (circuit_of_word (names_of plan) word) (circuit_read word) (λ a is. is))
      (mapped (IsArrivalBy word) arrival.Wire (wire_of_word (names_of plan) word) (wire_read word) (λ a is. is)))

  -- ---- events

  -- an event that words tell, which are few
  abbrev IsEventBy : List (List ℕ) → Event → Type 0
  IsEventBy words x = IsNamedEvent plan x × ((event_words plan x ≡ words) × (length words ≤ 4))

  sized : (octets word : List ℕ) → AreTold word octets → IfSome (of_record_size octets) (IsFrameBy word)
  sized octets word told = by (nat_le (length octets) 262144) refl where
    by : (b : Bool) → nat_le (length octets) 262144 ≡ b → IfSome (cond b (Some octets) None) (IsFrameBy word)
    by true few = ((told.0, leb-true (length octets) 262144 few), told.1)
    by false many = tt

  frame_read : (words : List (List ℕ)) → IfSome (frame_told (names_of plan) words) (IsEventBy (codes "frame" ∷ words))
  unfolding frame_told
  frame_read [] = tt
  frame_read (w0 ∷ []) = tt
  frame_read (w0 ∷ w1 ∷ []) =
      let Q : Event → Type 0 = IsEventBy (codes "frame" ∷ w0 ∷ w1 ∷ []) in
      then (IsCircuitBy w0) Q _ _ (circuit_read w0) (λ circuit a. then (AreTold w1) Q _ _ (octets_again w1) (λ octets told. then (IsFrameBy w1) Q _ _ (sized octets w1 told) (λ frame b. made Q (event.Frame circuit frame) ((a.0, b.0), ((λ i. codes "frame" ∷ a.1 i ∷ b.1 i ∷ []), omega arith)))))
  frame_read (w0 ∷ w1 ∷ w2 ∷ rest) = tt

  row_event_read : (kind : List ℕ) (words : List (List ℕ)) → IfSome (row_event plan (kind ∷ words)) (IsEventBy (kind ∷ words))
  unfolding row_event have_kinds all_below
  row_event_read kind words = rows_hold plan event_forms event_made (λ x l. IsEventBy l x) kind words refl (λ row lt v fit.
      let is = below_all (EventRow plan) (length event_forms) row (event_rows plan) lt v fit in
      (is.0, (is.1, few_words plan event_forms row v refl lt)))

  event_read : (words : List (List ℕ)) → IfSome (event_told plan words) (IsEventBy words)
  event_read [] = tt
  event_read (kind ∷ words) = by_text (λ k. IsEventBy (k ∷ words)) kind (codes "frame") _ _ (frame_read words) (row_event_read kind words)

  -- ---- entries

  -- an entry that words tell, which are few
  abbrev pub IsEntryBy : List (List ℕ) → Entry → Type 0
  IsEntryBy words x = IsEntryNamed plan x × ((entry_words plan x ≡ words) × (length words ≤ 9))

  abbrev IsPassedBy : List (List ℕ) → Passed → Type 0
  IsPassedBy words p = (IsToldNumber p.origin × (IsToldNumber p.hops × AreOctetsTold p.bytes)) × ((decimal p.origin ∷ decimal p.hops ∷ hex p.bytes ∷ [] ≡ words) × (length words ≤ 3))

  abbrev IsCarriedBy : List (List ℕ) → Carried → Type 0
  IsCarriedBy words c = (IsWire plan c.wire × (IsArrival plan c.arrival × (IsToldNumber c.passed.origin × (IsToldNumber c.passed.hops × AreOctetsTold c.passed.bytes))))
      × ((wire_name plan c.wire ∷ arrival_name plan c.arrival ∷ decimal c.passed.origin ∷ decimal c.passed.hops ∷ hex c.passed.bytes ∷ [] ≡ words) × (length words ≤ 5))

  passed_read : (words : List (List ℕ)) → IfSome (passed_in words) (IsPassedBy words)
  unfolding passed_in
  passed_read [] = tt
  passed_read (w0 ∷ []) = tt
  passed_read (w0 ∷ w1 ∷ []) = tt
  passed_read (w0 ∷ w1 ∷ w2 ∷ []) =
      let Q : Passed → Type 0 = IsPassedBy (w0 ∷ w1 ∷ w2 ∷ []) in
      then (IsNumberBy w0) Q _ _ (number_read w0) (λ origin a. then (IsNumberBy w1) Q _ _ (number_read w1) (λ hops b. then (AreTold w2) Q _ _ (octets_again w2) (λ octets c. made Q (record { origin = origin; hops = hops; bytes = octets }) ((a.0, (b.0, c.0)), ((λ i. a.1 i ∷ b.1 i ∷ c.1 i ∷ []), omega arith)))))
  passed_read (w0 ∷ w1 ∷ w2 ∷ w3 ∷ rest) = tt

  carried_read : (words : List (List ℕ)) → IfSome (carried_in (names_of plan) words) (IsCarriedBy words)
  unfolding carried_in
  carried_read [] = tt
  carried_read (w0 ∷ []) = tt
  carried_read (w0 ∷ w1 ∷ words) =
      let Q : Carried → Type 0 = IsCarriedBy (w0 ∷ w1 ∷ words) in
      then (IsWireBy w0) Q _ _ (wire_read w0) (λ wire a. then (IsArrivalBy w1) Q _ _ (arrival_read w1) (λ came b. then (IsPassedBy words) Q _ _ (passed_read words) (λ passed c. made Q (record { wire = wire; arrival = came; passed = passed }) ((a.0, (b.0, c.0)), ((λ i. a.1 i ∷ b.1 i ∷ c.1.0 i), omega (arith, c.1.1))))))

  said_read : (words : List (List ℕ)) → IfSome (said_in (names_of plan) words) (IsEntryBy (codes "said" ∷ words))
  unfolding said_in
  said_read [] = tt
  said_read (w0 ∷ []) = tt
  said_read (w0 ∷ w1 ∷ []) = tt
  said_read (w0 ∷ w1 ∷ w2 ∷ []) =
      let Q : Entry → Type 0 = IsEntryBy (codes "said" ∷ w0 ∷ w1 ∷ w2 ∷ []) in
      then (IsEdgeBy w0) Q _ _ (edge_read w0) (λ from a. then (IsEdgeBy w1) Q _ _ (edge_read w1) (λ to b. then (AreTold w2) Q _ _ (octets_again w2) (λ octets c. made Q (entry.Said from to octets) ((a.0, (b.0, c.0)), ((λ i. codes "said" ∷ a.1 i ∷ b.1 i ∷ c.1 i ∷ []), omega arith)))))
  said_read (w0 ∷ w1 ∷ w2 ∷ w3 ∷ rest) = tt

  entered_read : (words : List (List ℕ)) → IfSome (entered_in (names_of plan) words) (IsEntryBy (codes "in" ∷ words))
  unfolding entered_in
  entered_read [] = tt
  entered_read (w0 ∷ []) = tt
  entered_read (w0 ∷ w1 ∷ []) = tt
  entered_read (w0 ∷ w1 ∷ w2 ∷ []) =
      let Q : Entry → Type 0 = IsEntryBy (codes "in" ∷ w0 ∷ w1 ∷ w2 ∷ []) in
      then (IsCircuitBy w0) Q _ _ (circuit_read w0) (λ circuit a. then (IsNumberBy w1) Q _ _ (number_read w1) (λ number b. then (AreTold w2) Q _ _ (octets_again w2) (λ octets c. made Q (entry.In circuit number octets) ((a.0, (b.0, c.0)), ((λ i. codes "in" ∷ a.1 i ∷ b.1 i ∷ c.1 i ∷ []), omega arith)))))
  entered_read (w0 ∷ w1 ∷ w2 ∷ w3 ∷ rest) = tt

  sent_read : (words : List (List ℕ)) → IfSome (sent_in (names_of plan) words) (IsEntryBy (codes "sent" ∷ words))
  unfolding sent_in
  sent_read [] = tt
  sent_read (w0 ∷ []) = tt
  sent_read (w0 ∷ w1 ∷ []) = tt
  sent_read (w0 ∷ w1 ∷ w2 ∷ words) =
      let Q : Entry → Type 0 = IsEntryBy (codes "sent" ∷ w0 ∷ w1 ∷ w2 ∷ words) in
      then (IsNumberBy w0) Q _ _ (number_read w0) (λ packet a. then (IsEdgeBy w1) Q _ _ (edge_read w1) (λ from b. then (IsEdgeBy w2) Q _ _ (edge_read w2) (λ to c. then (IsCarriedBy words) Q _ _ (carried_read words) (λ carried d. made Q (entry.Sent from to carried.wire carried.arrival packet carried.passed.origin carried.passed.hops carried.passed.bytes)
      ((b.0, (c.0, (d.0.0, (d.0.1.0, (a.0, d.0.1.1))))), ((λ i. codes "sent" ∷ a.1 i ∷ b.1 i ∷ c.1 i ∷ d.1.0 i), omega (arith, d.1.1)))))))

  left_read : (words : List (List ℕ)) → IfSome (left_in (names_of plan) words) (IsEntryBy (codes "left" ∷ words))
  unfolding left_in
  left_read [] = tt
  left_read (w0 ∷ words) =
      let Q : Entry → Type 0 = IsEntryBy (codes "left" ∷ w0 ∷ words) in
      then (IsCircuitBy w0) Q _ _ (circuit_read w0) (λ circuit a. then (IsPassedBy words) Q _ _ (passed_read words) (λ passed b. made Q (entry.Left circuit passed.origin passed.hops passed.bytes) ((a.0, b.0), ((λ i. codes "left" ∷ a.1 i ∷ b.1.0 i), omega (arith, b.1.1)))))

  did_read : (words : List (List ℕ)) → IfSome (did_in plan words) (IsEntryBy (codes ">" ∷ words))
  did_read words = then (IsEventBy words) (IsEntryBy (codes ">" ∷ words)) _ _ (event_read words) (λ done a. made (IsEntryBy (codes ">" ∷ words)) (entry.Did done) (a.0, ((λ i. codes ">" ∷ a.1.0 i), omega (arith, a.1.1))))

  row_entry_read : (kind : List ℕ) (words : List (List ℕ)) → IfSome (row_entry plan (kind ∷ words)) (IsEntryBy (kind ∷ words))
  unfolding row_entry have_kinds all_below
  row_entry_read kind words = rows_hold plan entry_forms entry_made (λ x l. IsEntryBy l x) kind words refl (λ row lt v fit.
      let is = below_all (EntryRow plan) (length entry_forms) row (entry_rows plan) lt v fit in
      (is.0, (is.1, omega (arith, few_words plan entry_forms row v refl lt))))

  words_read : (words : List (List ℕ)) → IfSome (words_entry plan words) (IsEntryBy words)
  unfolding told_entry_of
  words_read [] = tt
  words_read (kind ∷ words) =
      let Q : List ℕ → Entry → Type 0 = λ k. IsEntryBy (k ∷ words) in
      by_text Q kind (codes ">") _ _ (did_read words)
      (by_text Q kind (codes "in") _ _ (entered_read words)
      (by_text Q kind (codes "left") _ _ (left_read words)
      (by_text Q kind (codes "sent") _ _ (sent_read words)
      (by_text Q kind (codes "said") _ _ (said_read words) (row_entry_read kind words)))))

  -- what words tell is told by them
  pub entry_by : (words : List (List ℕ)) (x : Entry) → words_entry plan words ≡ Some x → IsEntryBy words x
  entry_by words x is = subst (λ (o : Option Entry). IfSome o (IsEntryBy words)) is (words_read words)

  -- ---- lines

  -- the words of a line tell no other entry than that of which it is the line
  pub line_told : (line : List ℕ) → line_entry plan line ≡ words_entry plan (line_words line)
  unfolding line_entry told_entry_in
  line_told line = by (words_entry plan (line_words line)) (words_read (line_words line)) where
    by : (o : Option Entry) → IfSome o (IsEntryBy (line_words line)) → o >>= exact plan line ≡ o
    by None at = refl
    by (Some x) at = rw ((bytes_eq-Decides (entry_line plan x) (line ++ codes "\n")).1 (ap line_of at.1.0 ∙ line_again line at.1.1)) refl

-- what is read of a line is written so, and names places of the plan
pub reads_line : (plan : Plan) (entry : Entry) (line : List ℕ) → line_entry plan line ≡ Some entry → entry_line plan entry ≡ line ++ codes "\n"
reads_line plan entry line is =
    let told = entry_by plan (line_words line) entry (sym (line_told plan line) ∙ is) in
    ap line_of told.1.0 ∙ line_again line told.1.1

pub named_entry : (plan : Plan) (line : List ℕ) (entry : Entry) → line_entry plan line ≡ Some entry → IsEntryNamed plan entry
named_entry plan line entry is = (entry_by plan (line_words line) entry (sym (line_told plan line) ∙ is)).0

pub reads_line_of : (plan : Plan) (line : List ℕ) (words : List (List ℕ)) (result : Result Entry Unread) → words ≡ line_words line
    → Reads result (words_entry plan words) → Reads result (line_entry plan line)
reads_line_of plan line words result cut reads = subst (Reads result) (ap (words_entry plan) cut ∙ sym (line_told plan line)) reads

pub names_places : (plan : Plan) (words : List (List ℕ)) (result : Result Entry Unread) → Reads result (words_entry plan words) → IfOk result (IsEntryNamed plan)
names_places plan words (Ok x) reads = (entry_by plan words x reads).0
names_places plan words (Err fault) reads = tt
