-- A wire is sound behind an event where it was before, and the fault of the event does not take it.
use Rattle.std.proofs.Common.{◌≡◌, ◌⊎◌, ◌∙◌, ◌&&◌, ◌||◌, ℕ, Bool, true, false, cond, not, nat_eq, List, [], ◌∷◌, Some, inl, inr, refl, sym, ap, subst}
use Rattle.std.specs.List.{list_any}
use Rattle.std.proofs.lemmas.Bool.{eqb-true}
use Rattle.net_values.proofs.BoolLemmas.{and_false, and_true, clash, first_holds, or_false, second_holds}
use Rattle.net_base.specs.declared.plan.Plan.{Plan}
use Rattle.net_base.specs.declared.plan.places.EdgeId.{EdgeId}
use Rattle.net_base.specs.declared.plan.places.WireId.{WireId}
use Rattle.net_base.specs.declared.plan.wire_plan.WirePlan.{WirePlan}
use Rattle.net_base.specs.declared.trace.event.Event.{Event}
use Rattle.net_base.specs.declared.trace.event.Event.TheVariants.{Connect, Deliver, Lose, Restart, Tick, Frame, Arrive, Discard, Again, Wire, Circuit, Status, Priority, Ping}
use Rattle.net_base.specs.plan.Accepted.{IsChecked}
use Rattle.net_base.specs.plan.Paths.{is_first, is_last, joins}
use Rattle.net_base.specs.plan.Places.{wire_row}
use Rattle.network_model.specs.State.{NetworkState, stands}
use Rattle.network_model.specs.Step.{step}
use Rattle.connection_laws.specs.Laws.{connects_them}
use Rattle.connection_laws.proofs.NetworkLemmas.{are_lost, come_by_connections}
use Rattle.settle_laws.specs.Sound.{are_connected, do_agree, first_is_clear, is_connected, is_on_along, is_sound, last_is_clear}
use Rattle.settle_laws.proofs.CalmLemmas.{same_tests}
use Rattle.survey_laws.specs.declared.fault.Fault.TheVariants as fault
use Rattle.survey_laws.specs.Faults.{fault_by, is_end_of, is_on_path, is_spoke_end_of, is_taken, takes_or_passes, where_so, with_fault}
use Rattle.survey_laws.proofs.PassLemmas.{is_among, is_long, more_parts, rows_long, two_parts}
use Rattle.survey_laws.proofs.SettingLemmas.{Sets, eq_turned, parts, restart_at, sets_bits, turns_off}

-- ---- connections

-- two edges that an event parts are not connected behind it
parted_not : (plan : Plan) (network : NetworkState) (event : Event) (a b : ℕ) → parts event a b ≡ true → are_connected (step plan network event).state a b ≡ false
parted_not plan network (Lose me peer) a b is = by (nat_eq me.0 a && nat_eq peer.0 b) refl is where
  lost : stands (step plan network (Lose me peer)).state me.0 peer.0 ≡ false
  lost = are_lost plan network me peer

  here : (x y : ℕ) → nat_eq me.0 x && nat_eq peer.0 y ≡ true → stands (step plan network (Lose me peer)).state x y ≡ false
  here x y both =
      subst (λ (n : ℕ). stands (step plan network (Lose me peer)).state n y ≡ false) (eqb-true me.0 x (first_holds (nat_eq me.0 x) (nat_eq peer.0 y) both))
      (subst (λ (n : ℕ). stands (step plan network (Lose me peer)).state me.0 n ≡ false) (eqb-true peer.0 y (second_holds (nat_eq me.0 x) (nat_eq peer.0 y) both)) lost)

  turned_both : (p q : Bool) → p && q ≡ true → q && p ≡ true
  turned_both true true both = refl
  turned_both true false both = clash both
  turned_both false q both = clash both

  by : (first : Bool) → nat_eq me.0 a && nat_eq peer.0 b ≡ first → first || (nat_eq peer.0 a && nat_eq me.0 b) ≡ true → are_connected (step plan network (Lose me peer)).state a b ≡ false
  by true at there = rw (here a b at) refl
  by false at there =
      ap (λ (other : Bool). stands (step plan network (Lose me peer)).state a b && other) (here b a (turned_both (nat_eq peer.0 a) (nat_eq me.0 b) there))
      ∙ and_false (stands (step plan network (Lose me peer)).state a b)
parted_not plan network (Restart me) a b is = by (nat_eq me.0 a) refl is where
  gone : (x y : ℕ) → nat_eq me.0 x ≡ true → stands (step plan network (Restart me)).state x y ≡ false
  gone x y at = restart_at plan network me x y ∙ ap (λ (t : Bool). cond t false (stands network x y)) (eq_turned x me.0 ∙ at)

  by : (first : Bool) → nat_eq me.0 a ≡ first → first || nat_eq me.0 b ≡ true → are_connected (step plan network (Restart me)).state a b ≡ false
  by true at there = rw (gone a b at) refl
  by false at there =
      ap (λ (other : Bool). stands (step plan network (Restart me)).state a b && other) (gone b a there) ∙ and_false (stands (step plan network (Restart me)).state a b)
parted_not plan network (Connect from to) a b is = clash is
parted_not plan network (Deliver from to count) a b is = clash is
parted_not plan network Tick a b is = clash is
parted_not plan network (Frame circuit octets) a b is = clash is
parted_not plan network (Arrive number) a b is = clash is
parted_not plan network (Discard number) a b is = clash is
parted_not plan network (Again number) a b is = clash is
parted_not plan network (Wire me wire on) a b is = clash is
parted_not plan network (Circuit circuit on) a b is = clash is
parted_not plan network (Status me wire bits) a b is = clash is
parted_not plan network (Priority me wire priority) a b is = clash is
parted_not plan network (Ping me wire) a b is = clash is

-- an event that takes or passes by connects nobody
connects_none : (event : Event) → takes_or_passes event ≡ true → (a b : ℕ) → connects_them event a b ≡ false
connects_none (Connect from to) plain a b = clash plain
connects_none (Deliver from to count) plain a b = refl
connects_none (Lose me peer) plain a b = refl
connects_none (Restart me) plain a b = refl
connects_none Tick plain a b = refl
connects_none (Frame circuit octets) plain a b = refl
connects_none (Arrive number) plain a b = refl
connects_none (Discard number) plain a b = refl
connects_none (Again number) plain a b = refl
connects_none (Wire me wire on) plain a b = refl
connects_none (Circuit circuit on) plain a b = refl
connects_none (Status me wire bits) plain a b = refl
connects_none (Priority me wire priority) plain a b = refl
connects_none (Ping me wire) plain a b = refl

both_true : (p q : Bool) → p ≡ true → q ≡ true → p && q ≡ true
both_true p q one other = rw (one, other) refl

-- what is lost, and what stays of two
both_but : (o r t u : Bool) → (o && not t) && (r && not u) ≡ (o && r) && not (t || u)
both_but true r true u = sym (and_false r)
both_but true r false u = refl
both_but false r t u = refl

-- what an event takes of a path: the wire is off at some edge, two neighbours are parted, or an end has failure bits
abbrev off_along : Plan → Event → ℕ → List EdgeId → Bool
off_along plan event wire path = list_any (λ (edge : EdgeId). turns_off plan event edge.0 wire) path

abbrev parted_along : Event → List EdgeId → Bool
parted_along event [] = false
parted_along event (last ∷ []) = false
parted_along event (first ∷ next ∷ rest) = parts event first.0 next.0 || parted_along event (next ∷ rest)

abbrev first_bits : Plan → Event → ℕ → List EdgeId → Bool
first_bits plan event wire [] = false
first_bits plan event wire (first ∷ rest) = sets_bits plan event first.0 wire

abbrev last_bits : Plan → Event → ℕ → List EdgeId → Bool
last_bits plan event wire [] = false
last_bits plan event wire (last ∷ []) = sets_bits plan event last.0 wire
last_bits plan event wire (first ∷ next ∷ rest) = last_bits plan event wire (next ∷ rest)

abbrev spoiled : Plan → Event → ℕ → List EdgeId → Bool
spoiled plan event wire path = (off_along plan event wire path || parted_along event path) || (first_bits plan event wire path || last_bits plan event wire path)

module _ (plan : Plan) (network : NetworkState) (event : Event) (plain : takes_or_passes event ≡ true) (sets : Sets plan event network (step plan network event).state) where
  abbrev new : NetworkState
  new = (step plan network event).state

  stood : (a b : ℕ) → stands new a b ≡ true → stands network a b ≡ true
  stood a b up = by (come_by_connections plan network event a b up) where
    by : (stands network a b ≡ true) ⊎ (connects_them event a b ≡ true) → stands network a b ≡ true
    by (inl is) = is
    by (inr is) = clash (sym (connects_none event plain a b) ∙ is)

  connected_is : (a b : ℕ) → are_connected new a b ≡ are_connected network a b && not (parts event a b)
  connected_is a b = by (parts event a b) refl where
    by : (parted : Bool) → parts event a b ≡ parted → are_connected new a b ≡ are_connected network a b && not parted
    by true is = parted_not plan network event a b is ∙ sym (and_false (are_connected network a b))
    by false is = same_tests (are_connected new a b) (are_connected network a b)
        (λ up. both_true (stands network a b) (stands network b a) (stood a b (first_holds (stands new a b) (stands new b a) up)) (stood b a (second_holds (stands new a b) (stands new b a) up)))
        (λ up.
        let both = sets.ends a b (record { one = first_holds (stands network a b) (stands network b a) up; other = second_holds (stands network a b) (stands network b a) up }) is in
        both_true (stands new a b) (stands new b a) both.one both.other)
        ∙ sym (and_true (are_connected network a b))

  -- ---- along a path

  on_is : (wire : ℕ) (path : List EdgeId) → is_on_along new wire path ≡ is_on_along network wire path && not (off_along plan event wire path)
  on_is wire [] = refl
  on_is wire (edge ∷ rest) =
      ap (λ (b : Bool). b && is_on_along new wire rest) (sets.wires edge.0 wire)
      ∙ (ap (λ (b : Bool). ((network.edges edge.0).wire_on wire && not (turns_off plan event edge.0 wire)) && b) (on_is wire rest)
      ∙ both_but ((network.edges edge.0).wire_on wire) (is_on_along network wire rest) (turns_off plan event edge.0 wire) (off_along plan event wire rest))

  connected_along : (path : List EdgeId) → is_connected new path ≡ is_connected network path && not (parted_along event path)
  connected_along [] = refl
  connected_along (last ∷ []) = refl
  connected_along (first ∷ next ∷ rest) =
      ap (λ (b : Bool). b && is_connected new (next ∷ rest)) (connected_is first.0 next.0)
      ∙ (ap (λ (b : Bool). (are_connected network first.0 next.0 && not (parts event first.0 next.0)) && b) (connected_along (next ∷ rest))
      ∙ both_but (are_connected network first.0 next.0) (is_connected network (next ∷ rest)) (parts event first.0 next.0) (parted_along event (next ∷ rest)))

  first_is : (wire : ℕ) (path : List EdgeId) → first_is_clear new wire path ≡ first_is_clear network wire path && not (first_bits plan event wire path)
  first_is wire [] = refl
  first_is wire (first ∷ rest) = sets.clear first.0 wire

  last_is : (wire : ℕ) (path : List EdgeId) → last_is_clear new wire path ≡ last_is_clear network wire path && not (last_bits plan event wire path)
  last_is wire [] = refl
  last_is wire (last ∷ []) = sets.clear last.0 wire
  last_is wire (first ∷ next ∷ rest) = last_is wire (next ∷ rest)

  agree_last : (x y t : Bool) → (x && not t) && y ≡ (x && y) && not t
  agree_last true y true = sym (and_false y)
  agree_last true y false = sym (and_true y)
  agree_last false y t = refl

  -- what a wire has lost by the event
  pub sound_is : (wire : ℕ) (row : WirePlan) → is_sound new wire row ≡ is_sound network wire row && not (spoiled plan event wire row.path)
  sound_is wire row =
      ap (λ (b : Bool). b && ((first_is_clear new wire row.path && last_is_clear new wire row.path) && do_agree row.near row.far))
      (ap (λ (b : Bool). b && is_connected new row.path) (on_is wire row.path)
      ∙ (ap (λ (b : Bool). (is_on_along network wire row.path && not (off_along plan event wire row.path)) && b) (connected_along row.path)
      ∙ both_but (is_on_along network wire row.path) (is_connected network row.path) (off_along plan event wire row.path) (parted_along event row.path)))
      ∙ (ap (λ (b : Bool). ((is_on_along network wire row.path && is_connected network row.path) && not (off_along plan event wire row.path || parted_along event row.path))
      && (b && do_agree row.near row.far))
      (ap (λ (b : Bool). b && last_is_clear new wire row.path) (first_is wire row.path)
      ∙ (ap (λ (b : Bool). (first_is_clear network wire row.path && not (first_bits plan event wire row.path)) && b) (last_is wire row.path)
      ∙ both_but (first_is_clear network wire row.path) (last_is_clear network wire row.path) (first_bits plan event wire row.path) (last_bits plan event wire row.path)))
      ∙ (ap (λ (b : Bool). ((is_on_along network wire row.path && is_connected network row.path) && not (off_along plan event wire row.path || parted_along event row.path)) && b)
      (agree_last (first_is_clear network wire row.path && last_is_clear network wire row.path) (do_agree row.near row.far) (first_bits plan event wire row.path || last_bits plan event wire row.path))
      ∙ both_but (is_on_along network wire row.path && is_connected network row.path) ((first_is_clear network wire row.path && last_is_clear network wire row.path) && do_agree row.near row.far)
      (off_along plan event wire row.path || parted_along event row.path) (first_bits plan event wire row.path || last_bits plan event wire row.path)))

-- ---- the fault of the event takes the wire where it has lost something

none_off : (plan : Plan) (event : Event) (wire : ℕ) (path : List EdgeId) → ((k : ℕ) → turns_off plan event k wire ≡ false) → off_along plan event wire path ≡ false
none_off plan event wire [] none = refl
none_off plan event wire (edge ∷ rest) none = rw (none edge.0, none_off plan event wire rest none) refl

none_parted : (event : Event) (path : List EdgeId) → ((a b : ℕ) → parts event a b ≡ false) → parted_along event path ≡ false
none_parted event [] none = refl
none_parted event (last ∷ []) none = refl
none_parted event (first ∷ next ∷ rest) none = rw (none first.0 next.0, none_parted event (next ∷ rest) none) refl

none_first : (plan : Plan) (event : Event) (wire : ℕ) (path : List EdgeId) → ((k : ℕ) → sets_bits plan event k wire ≡ false) → first_bits plan event wire path ≡ false
none_first plan event wire [] none = refl
none_first plan event wire (first ∷ rest) none = none first.0

none_last : (plan : Plan) (event : Event) (wire : ℕ) (path : List EdgeId) → ((k : ℕ) → sets_bits plan event k wire ≡ false) → last_bits plan event wire path ≡ false
none_last plan event wire [] none = refl
none_last plan event wire (last ∷ []) none = none last.0
none_last plan event wire (first ∷ next ∷ rest) none = none_last plan event wire (next ∷ rest) none

spoils_nothing : (plan : Plan) (event : Event) (wire : ℕ) (path : List EdgeId) → ((k : ℕ) → turns_off plan event k wire ≡ false) → ((a b : ℕ) → parts event a b ≡ false)
    → ((k : ℕ) → sets_bits plan event k wire ≡ false) → spoiled plan event wire path ≡ false
spoils_nothing plan event wire path off parted bits =
    rw (none_off plan event wire path off, none_parted event path parted, none_first plan event wire path bits, none_last plan event wire path bits) refl

parts_alone : (plan : Plan) (event : Event) (wire : ℕ) (path : List EdgeId) → ((k : ℕ) → turns_off plan event k wire ≡ false) → ((k : ℕ) → sets_bits plan event k wire ≡ false)
    → spoiled plan event wire path ≡ parted_along event path || false
parts_alone plan event wire path off bits = rw (none_off plan event wire path off, none_first plan event wire path bits, none_last plan event wire path bits) refl

-- a lost connection is one between neighbours
parts_joined : (me peer : EdgeId) (path : List EdgeId) → parted_along (Lose me peer) path ≡ joins me.0 peer.0 path
parts_joined me peer [] = refl
parts_joined me peer (last ∷ []) = refl
parts_joined me peer (first ∷ next ∷ rest) = ap (λ (b : Bool). ((nat_eq me.0 first.0 && nat_eq peer.0 next.0) || (nat_eq peer.0 first.0 && nat_eq me.0 next.0)) || b)
    (parts_joined me peer (next ∷ rest))

-- a restart parts all neighbours of an edge on the path
parts_among : (me : EdgeId) (path : List EdgeId) → parted_along (Restart me) path ≡ is_long path && is_among me.0 path
parts_among me [] = refl
parts_among me (last ∷ []) = refl
parts_among me (first ∷ next ∷ rest) =
    ap (λ (b : Bool). (nat_eq me.0 first.0 || nat_eq me.0 next.0) || b) (parts_among me (next ∷ rest)) ∙ by rest
  where
    by : (rest : List EdgeId) → (nat_eq me.0 first.0 || nat_eq me.0 next.0) || (is_long (next ∷ rest) && is_among me.0 (next ∷ rest))
        ≡ nat_eq me.0 first.0 || (nat_eq me.0 next.0 || is_among me.0 rest)
    by [] = two_parts true (nat_eq me.0 first.0) (nat_eq me.0 next.0)
    by (third ∷ more) = more_parts true (nat_eq me.0 first.0) (nat_eq me.0 next.0) (is_among me.0 (third ∷ more))

-- what holds of the edge itself alone
off_const : (me : ℕ) (c : Bool) (path : List EdgeId) → list_any (λ (edge : EdgeId). nat_eq edge.0 me && c) path ≡ is_among me path && c
off_const me c [] = refl
off_const me c (edge ∷ rest) = ap (λ (b : Bool). (nat_eq edge.0 me && c) || b) (off_const me c rest)
    ∙ (ap (λ (b : Bool). (b && c) || (is_among me rest && c)) (eq_turned edge.0 me) ∙ either_and (nat_eq me edge.0) (is_among me rest) c)
  where
    either_and : (a b c : Bool) → (a && c) || (b && c) ≡ (a || b) && c
    either_and true b true = refl
    either_and true b false = and_false b
    either_and false b c = refl

first_const : (plan : Plan) (me : EdgeId) (lost : WireId) (bits wire : ℕ) (path : List EdgeId)
    → first_bits plan (Status me lost bits) wire path ≡ is_first me.0 path && (nat_eq wire lost.0 && is_end_of me.0 (wire_row plan lost))
first_const plan me lost bits wire [] = refl
first_const plan me lost bits wire (first ∷ rest) = ap (λ (b : Bool). b && (nat_eq wire lost.0 && is_end_of me.0 (wire_row plan lost))) (eq_turned first.0 me.0)

last_const : (plan : Plan) (me : EdgeId) (lost : WireId) (bits wire : ℕ) (path : List EdgeId)
    → last_bits plan (Status me lost bits) wire path ≡ is_last me.0 path && (nat_eq wire lost.0 && is_end_of me.0 (wire_row plan lost))
last_const plan me lost bits wire [] = refl
last_const plan me lost bits wire (last ∷ []) = ap (λ (b : Bool). b && (nat_eq wire lost.0 && is_end_of me.0 (wire_row plan lost))) (eq_turned last.0 me.0)
last_const plan me lost bits wire (first ∷ next ∷ rest) = last_const plan me lost bits wire (next ∷ rest)

-- the row of the wire decides, where it is this wire
pub same_part : (a x o : Bool) → (x ≡ true → o ≡ a) → a && (x && o) ≡ x && o
same_part a true o same = by o a (same refl) where
  by : (o a : Bool) → o ≡ a → a && o ≡ o
  by true true is = refl
  by false a is = and_false a
  by true false is = clash (sym is)
same_part a false o same = and_false a

taken_where : (wire : ℕ) (row : WirePlan) (lost : WireId) (o : Bool) → is_taken (with_fault (where_so o (fault.Wire lost)) []) wire row ≡ nat_eq wire lost.0 && o
taken_where wire row lost true = or_false (nat_eq wire lost.0) ∙ sym (and_true (nat_eq wire lost.0))
taken_where wire row lost false = sym (and_false (nat_eq wire lost.0))

pub spoiled_is : (plan : Plan) (event : Event) (wire : WireId) (row : WirePlan) → IsChecked plan → wire_row plan wire ≡ Some row → takes_or_passes event ≡ true
    → spoiled plan event wire.0 row.path ≡ is_taken (with_fault (fault_by plan event) []) wire.0 row
spoiled_is plan (Connect from to) wire row checked is plain = clash plain
spoiled_is plan (Deliver from to count) wire row checked is plain = spoils_nothing plan (Deliver from to count) wire.0 row.path (λ k. refl) (λ a b. refl) (λ k. refl)
spoiled_is plan (Lose me peer) wire row checked is plain =
    parts_alone plan (Lose me peer) wire.0 row.path (λ k. refl) (λ k. refl) ∙ ap (λ (b : Bool). b || false) (parts_joined me peer row.path)
spoiled_is plan (Restart me) wire row checked is plain =
    parts_alone plan (Restart me) wire.0 row.path (λ k. refl) (λ k. refl)
    ∙ ap (λ (b : Bool). b || false) (parts_among me row.path ∙ ap (λ (b : Bool). b && is_among me.0 row.path) (rows_long plan checked wire.0 row is))
spoiled_is plan Tick wire row checked is plain = clash plain
spoiled_is plan (Frame circuit octets) wire row checked is plain = spoils_nothing plan (Frame circuit octets) wire.0 row.path (λ k. refl) (λ a b. refl) (λ k. refl)
spoiled_is plan (Arrive number) wire row checked is plain = spoils_nothing plan (Arrive number) wire.0 row.path (λ k. refl) (λ a b. refl) (λ k. refl)
spoiled_is plan (Discard number) wire row checked is plain = spoils_nothing plan (Discard number) wire.0 row.path (λ k. refl) (λ a b. refl) (λ k. refl)
spoiled_is plan (Again number) wire row checked is plain = spoils_nothing plan (Again number) wire.0 row.path (λ k. refl) (λ a b. refl) (λ k. refl)
spoiled_is plan (Circuit circuit on) wire row checked is plain = spoils_nothing plan (Circuit circuit on) wire.0 row.path (λ k. refl) (λ a b. refl) (λ k. refl) ∙ none on
  where
    none : (on : Bool) → false ≡ is_taken (with_fault (where_so (not on) (fault.Circuit circuit)) []) wire.0 row
    none true = refl
    none false = refl
spoiled_is plan (Priority me lost number) wire row checked is plain =
    spoils_nothing plan (Priority me lost number) wire.0 row.path (λ k. refl) (λ a b. refl) (λ k. refl) ∙ none (is_spoke_end_of me.0 (wire_row plan lost))
  where
    none : (o : Bool) → false ≡ is_taken (with_fault (where_so o (fault.Priority lost number)) []) wire.0 row
    none true = refl
    none false = refl
spoiled_is plan (Ping me other) wire row checked is plain = spoils_nothing plan (Ping me other) wire.0 row.path (λ k. refl) (λ a b. refl) (λ k. refl)
spoiled_is plan (Wire me lost on) wire row checked is plain =
    ap (λ (b : Bool). (off_along plan (Wire me lost on) wire.0 row.path || b) || (first_bits plan (Wire me lost on) wire.0 row.path || last_bits plan (Wire me lost on) wire.0 row.path))
    (none_parted (Wire me lost on) row.path (λ a b. refl))
    ∙ (ap (λ (b : Bool). (off_along plan (Wire me lost on) wire.0 row.path || false) || (b || last_bits plan (Wire me lost on) wire.0 row.path))
    (none_first plan (Wire me lost on) wire.0 row.path (λ k. refl))
    ∙ (ap (λ (b : Bool). (off_along plan (Wire me lost on) wire.0 row.path || false) || b) (none_last plan (Wire me lost on) wire.0 row.path (λ k. refl))
    ∙ (or_false (off_along plan (Wire me lost on) wire.0 row.path || false) ∙ (or_false (off_along plan (Wire me lost on) wire.0 row.path)
    ∙ (off_const me.0 (nat_eq wire.0 lost.0 && is_on_path me.0 (wire_row plan lost)) row.path
    ∙ (same_part (is_among me.0 row.path) (nat_eq wire.0 lost.0) (is_on_path me.0 (wire_row plan lost)) (λ same. here same)
    ∙ (sym (taken_where wire.0 row lost (is_on_path me.0 (wire_row plan lost)))
    ∙ ap (λ (b : Bool). is_taken (with_fault (where_so (b && is_on_path me.0 (wire_row plan lost)) (fault.Wire lost)) []) wire.0 row) (sym plain))))))))
  where
    here : nat_eq wire.0 lost.0 ≡ true → is_on_path me.0 (wire_row plan lost) ≡ is_among me.0 row.path
    here same = ap (is_on_path me.0) (ap (λ (n : ℕ). wire_row plan (record { 0 = n })) (sym (eqb-true wire.0 lost.0 same)) ∙ is)
spoiled_is plan (Status me lost bits) wire row checked is plain =
    ap (λ (b : Bool). (b || parted_along (Status me lost bits) row.path) || (first_bits plan (Status me lost bits) wire.0 row.path || last_bits plan (Status me lost bits) wire.0 row.path))
    (none_off plan (Status me lost bits) wire.0 row.path (λ k. refl))
    ∙ (ap (λ (b : Bool). b || (first_bits plan (Status me lost bits) wire.0 row.path || last_bits plan (Status me lost bits) wire.0 row.path))
    (none_parted (Status me lost bits) row.path (λ a b. refl))
    ∙ (ap (λ (b : Bool). b || last_bits plan (Status me lost bits) wire.0 row.path) (first_const plan me lost bits wire.0 row.path)
    ∙ (ap (λ (b : Bool). (is_first me.0 row.path && (nat_eq wire.0 lost.0 && is_end_of me.0 (wire_row plan lost))) || b) (last_const plan me lost bits wire.0 row.path)
    ∙ (either_and (is_first me.0 row.path) (is_last me.0 row.path) (nat_eq wire.0 lost.0 && is_end_of me.0 (wire_row plan lost))
    ∙ (same_part (is_first me.0 row.path || is_last me.0 row.path) (nat_eq wire.0 lost.0) (is_end_of me.0 (wire_row plan lost)) (λ same. here same)
    ∙ (sym (taken_where wire.0 row lost (is_end_of me.0 (wire_row plan lost)))
    ∙ ap (λ (b : Bool). is_taken (with_fault (where_so (b && is_end_of me.0 (wire_row plan lost)) (fault.Wire lost)) []) wire.0 row) (sym plain)))))))
  where
    either_and : (a b c : Bool) → (a && c) || (b && c) ≡ (a || b) && c
    either_and true b true = refl
    either_and true b false = and_false b
    either_and false b c = refl

    here : nat_eq wire.0 lost.0 ≡ true → is_end_of me.0 (wire_row plan lost) ≡ is_first me.0 row.path || is_last me.0 row.path
    here same = ap (is_end_of me.0) (ap (λ (n : ℕ). wire_row plan (record { 0 = n })) (sym (eqb-true wire.0 lost.0 same)) ∙ is)
