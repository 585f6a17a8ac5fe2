-- The spokes of a spoke edge by their slots, and the choice among them.
use Rattle.std.proofs.Common.{◌≡◌, ◌<◌, ◌≤◌, ◌+◌, ◌++◌, ◌∙◌, ◌⊎◌, ◌&&◌, ℕ, zero, suc, Bool, true, false, cond, is_some, not, filter, map, nat_eq, nat_lt, position, ◌||◌, List, [], ◌∷◌, Option, Some, None, length, drop, slice_get, slice_index_or, option_and_then, option_map, set, take, append_assoc, append-nil, refl, ap, sym, subst, inl, inr, arith}
use Rattle.std.proofs.lemmas.Bool.{cases_order, eq-eqb, eqb-true}
use Rattle.std.proofs.lemmas.Bool.Decides.{nat_tests}
use Rattle.std.proofs.lemmas.List.{drop_all, drop_more, length_push, length-map}
use Rattle.std.specs.Bool.{Decides}
use Rattle.std.specs.List.{list_any, position_or_len}
use Rattle.std.specs.Cmp.Lexicographic.{pointwise, pointwise_decides}
use Rattle.std.specs.Option.{option_eq}
use Rattle.net_values.proofs.BoolLemmas.{or_assoc, or_false}
use Rattle.net_values.proofs.RowLemmas.{row_holds, same_read, last_of}
use Rattle.net_base.specs.declared.plan.Plan.{Plan}
use Rattle.net_base.specs.declared.plan.places.EdgeId.{EdgeId}
use Rattle.net_base.specs.declared.plan.places.ServiceId.{ServiceId}
use Rattle.net_base.specs.declared.plan.places.WireId.{WireId}
use Rattle.net_base.specs.declared.plan.wire_plan.WirePlan.{WirePlan}
use Rattle.net_base.specs.declared.trace.down.Down.{Down}
use Rattle.net_base.specs.plan.Accepted.{IsChecked, IsWireOf}
use Rattle.net_base.specs.plan.Paths.{is_first}
use Rattle.net_base.specs.plan.Places.{is_mesh_class, wire_row}
use Rattle.pw_signalling.specs.declared.end_role.EndRole.TheVariants as role
use Rattle.pw_signalling.specs.Down.{down}
use Rattle.pw_signalling.specs.End.{EndState}
use Rattle.edge_model.specs.declared.end_place.EndPlace.{EndPlace}
use Rattle.edge_model.specs.EndPlaces.{end_places}
use Rattle.edge_model.specs.Spokes.{choice, choosing, is_spoke_row, is_usable, spoke_at, spoke_places, spokes_of}
use Rattle.edge_model.specs.State.{EdgeState, put_at, with_chosen}
use Rattle.spoke_redundancy.specs.declared.spoke.Spoke.{Spoke}
use Rattle.spoke_redundancy.specs.Choice.{chosen}
use Rattle.spoke_redundancy.specs.Least.{IsLeast, is_least, is_less, is_usable_below}
use Rattle.spoke_redundancy.proofs.ChoiceLemmas.{chosen_is}
use Rattle.pw_ends.specs.Ends.{EndLists, end_in, no_place, place_of}
use Rattle.edge_forwarding.proofs.EachLemmas.{before_push, each_next}
use Rattle.edge_forwarding.proofs.Views.{past_end}
use Rattle.provider_edge.specs.Invariant.{IsEdge}
use Rattle.provider_edge.specs.Lists.{EdgeLists, seen}
use Rattle.provider_edge.specs.Spokes.{AreSlots, place_where, slots_for, slots_where, starts_spoke, unchosen}

-- ---- slots by services

pub slots_none : (plan : Plan) (me : EdgeId) (places : List EndPlace) → AreSlots plan me places 0 []
slots_none plan me places = record { count = refl; each = λ service below. absurd (omega arith) }

-- those of one service more
pub slots_more : (plan : Plan) (me : EdgeId) (places : List EndPlace) (n : ℕ) (slots : List (List ℕ)) (one : List ℕ) → AreSlots plan me places n slots → one ≡ slots_for plan me places n
    → AreSlots plan me places (n + 1) (slots ++ one ∷ [])
slots_more plan me places n slots one are is = record {
  count = length_push slots one ∙ ap (λ (k : ℕ). k + 1) are.count;
  each = λ service below. elim (cases_order service n) [
    | inl same ↦ of service (inr same)
    | inr rest ↦ elim rest [
      | inl less ↦ of service (inl less)
      | inr more ↦ absurd (omega arith)
    ]
  ];
}
  where
    of : (service : ℕ) → (service < n) ⊎ (service ≡ n) → slice_index_or (slots ++ one ∷ []) service [] ≡ slots_for plan me places service
    of service (inl earlier) = before_push slots one [] service (omega (arith, are.count)) ∙ are.each service earlier
    of service (inr here) =
        ap (λ (k : ℕ). slice_index_or (slots ++ one ∷ []) k []) (here ∙ sym are.count) ∙ (last_of slots one [] ∙ (is ∙ ap (slots_for plan me places) (sym here)))

-- ---- slots of one service

where_more : (test : EndPlace → Bool) (p : ℕ) (place : EndPlace) (places : List EndPlace)
    → slots_where test p (place ∷ places) ≡ cond (test place) (p ∷ []) [] ++ slots_where test (p + 1) places
where_more test p place places = by (test place) where
  by : (b : Bool) → cond b (p ∷ slots_where test (p + 1) places) (slots_where test (p + 1) places) ≡ cond b (p ∷ []) [] ++ slots_where test (p + 1) places
  by true = refl
  by false = refl

-- the slot of one place more
pub slots_next : (test : EndPlace → Bool) (places : List EndPlace) (i : ℕ) (place : EndPlace) (slots more whole : List ℕ) (starts : Bool) → i < length places → place
    ≡ slice_index_or places i place → starts ≡ test place
    → slots ++ slots_where test i (drop i places) ≡ whole → more ≡ slots ++ cond starts (i ∷ []) [] → more ++ slots_where test (i + 1) (drop (i + 1) places) ≡ whole
slots_next test places i place slots more whole starts below read tested so_far pushed =
    ap (λ (l : List ℕ). l ++ slots_where test (i + 1) (drop (i + 1) places)) (pushed ∙ ap (λ (b : Bool). slots ++ cond b (i ∷ []) []) tested)
    ∙ (append_assoc slots (cond (test place) (i ∷ []) []) (slots_where test (i + 1) (drop (i + 1) places))
    ∙ (ap (λ (l : List ℕ). slots ++ l) (sym (where_more test i place (drop (i + 1) places)))
    ∙ (ap (λ (p : EndPlace). slots ++ slots_where test i (p ∷ drop (i + 1) places)) read
    ∙ (ap (λ (l : List EndPlace). slots ++ slots_where test i l) (sym (drop_more places i place below)) ∙ so_far))))

pub slots_end : (test : EndPlace → Bool) (places : List EndPlace) (i : ℕ) (slots whole : List ℕ) → length places ≤ i → slots ++ slots_where test i (drop i places) ≡ whole → slots ≡ whole
slots_end test places i slots whole past so_far =
    sym (append-nil slots) ∙ (ap (λ (l : List EndPlace). slots ++ slots_where test i l) (sym (drop_all i places past)) ∙ so_far)

-- ---- priorities by the plan

pub priorities_next : (rows : List WirePlan) (i : ℕ) (row : WirePlan) (priorities now : List ℕ) → i < length rows → row ≡ slice_index_or rows i row
    → priorities ++ map (λ (r : WirePlan). r.priority) (drop i rows) ≡ map (λ (r : WirePlan). r.priority) rows → now ≡ priorities ++ row.priority ∷ []
    → now ++ map (λ (r : WirePlan). r.priority) (drop (i + 1) rows) ≡ map (λ (r : WirePlan). r.priority) rows
priorities_next rows i row priorities now below read so_far pushed =
    ap (λ (l : List ℕ). l ++ map (λ (r : WirePlan). r.priority) (drop (i + 1) rows)) (pushed ∙ ap (λ (r : WirePlan). priorities ++ r.priority ∷ []) read)
    ∙ (append_assoc priorities ((slice_index_or rows i row).priority ∷ []) (map (λ (r : WirePlan). r.priority) (drop (i + 1) rows))
    ∙ (ap (λ (l : List WirePlan). priorities ++ map (λ (r : WirePlan). r.priority) l) (sym (drop_more rows i row below)) ∙ so_far))

pub priorities_end : (rows : List WirePlan) (i : ℕ) (priorities : List ℕ) → length rows ≤ i
    → priorities ++ map (λ (r : WirePlan). r.priority) (drop i rows) ≡ map (λ (r : WirePlan). r.priority) rows → priorities ≡ map (λ (r : WirePlan). r.priority) rows
priorities_end rows i priorities past so_far =
    sym (append-nil priorities) ∙ (ap (λ (l : List WirePlan). priorities ++ map (λ (r : WirePlan). r.priority) l) (sym (drop_all i rows past)) ∙ so_far)

-- ---- slots name the places that pass the test

-- a slot is one of the edge's
pub slots_below : (test : EndPlace → Bool) (p n : ℕ) (places : List EndPlace) (i d : ℕ) → p + length places ≤ n → i < length (slots_where test p places)
    → slice_index_or (slots_where test p places) i d < n
slots_below test p n [] i d within below = absurd (omega arith)
slots_below test p n (x ∷ places) i d within below = by (test x) i below (λ k h. slots_below test (p + 1) n places k d (omega arith) h) where
  rest : List ℕ
  rest = slots_where test (p + 1) places

  by : (b : Bool) (k : ℕ) → k < length (cond b (p ∷ rest) rest) → ((j : ℕ) → j < length rest → slice_index_or rest j d < n) → slice_index_or (cond b (p ∷ rest) rest) k d < n
  by true zero h later = omega arith
  by true (suc k) h later = later k (omega arith)
  by false k h later = later k h

-- what is made of each such place is what is made of its slot
pub by_slots : {X : Type 0} (f : EndPlace → X) (test : EndPlace → Bool) (all : List EndPlace) (p : ℕ) (places : List EndPlace)
    → ((k : ℕ) → k < length places → slice_index_or all (p + k) no_place ≡ slice_index_or places k no_place)
    → map (λ slot. f (slice_index_or all slot no_place)) (slots_where test p places) ≡ map f (filter test places)
by_slots f test all p [] same = refl
by_slots {X = X} f test all p (x ∷ places) same = by (test x) (by_slots f test all (p + 1) places later) where
  here : slice_index_or all p no_place ≡ x
  here = let place : p + 0 ≡ p = omega arith in ap (λ (n : ℕ). slice_index_or all n no_place) (sym place) ∙ same 0 (omega arith)

  later : (k : ℕ) → k < length places → slice_index_or all (p + 1 + k) no_place ≡ slice_index_or places k no_place
  later k below = let place : p + 1 + k ≡ p + suc k = omega arith in ap (λ (n : ℕ). slice_index_or all n no_place) place ∙ same (suc k) (omega arith)

  made : ℕ → X
  made slot = f (slice_index_or all slot no_place)

  by : (b : Bool) → map made (slots_where test (p + 1) places) ≡ map f (filter test places)
      → map made (cond b (p ∷ slots_where test (p + 1) places) (slots_where test (p + 1) places)) ≡ map f (cond b (x ∷ filter test places) (filter test places))
  by true rest = ap (λ (y : X). y ∷ map made (slots_where test (p + 1) places)) (ap f here) ∙ ap (λ (l : List X). f x ∷ l) rest
  by false rest = rest

-- the same of all places
pub by_all_slots : {X : Type 0} (f : EndPlace → X) (test : EndPlace → Bool) (places : List EndPlace) → map (λ slot. f (slice_index_or places slot no_place)) (slots_where test 0 places)
    ≡ map f (filter test places)
by_all_slots f test places = by_slots f test places 0 places (λ k below. let place : 0 + k ≡ k = omega arith in ap (λ (n : ℕ). slice_index_or places n no_place) place)

got_map : {X Y : Type 0} (f : X → Y) (xs : List X) (i : ℕ) (d : X) → i < length xs → slice_get (map f xs) i ≡ Some (f (slice_index_or xs i d))
got_map f [] i d below = absurd (omega arith)
got_map f (x ∷ xs) zero d below = refl
got_map f (x ∷ xs) (suc i) d below = got_map f xs i d (omega arith)

map_self : (xs : List EndPlace) → map (λ place. place) xs ≡ xs
map_self [] = refl
map_self (x ∷ xs) = ap (λ (l : List EndPlace). x ∷ l) (map_self xs)

-- the place of one of the slots
pub slot_names : (test : EndPlace → Bool) (places : List EndPlace) (i d : ℕ) → i < length (slots_where test 0 places)
    → slice_get (filter test places) i ≡ Some (slice_index_or places (slice_index_or (slots_where test 0 places) i d) no_place)
slot_names test places i d below =
    ap (λ (l : List EndPlace). slice_get l i) (sym (by_all_slots (λ place. place) test places ∙ map_self (filter test places)))
    ∙ got_map (λ slot. slice_index_or places slot no_place) (slots_where test 0 places) i d below

-- ---- services that are not in the plan have no spokes

none_pass : (test : EndPlace → Bool) (places : List EndPlace) → ((place : EndPlace) → test place ≡ false) → filter test places ≡ []
none_pass test [] none = refl
none_pass test (x ∷ places) none = by (test x) (none x) (none_pass test places none) where
  by : (b : Bool) → b ≡ false → filter test places ≡ [] → cond b (x ∷ filter test places) (filter test places) ≡ []
  by true is rest = absurd (cc (is))
  by false is rest = rest

no_spoke : (plan : Plan) (me : EdgeId) (service : ServiceId) (wire : WireId) → IsChecked plan → length plan.services ≤ service.0 → is_spoke_row service me (wire_row plan wire) ≡ false
no_spoke plan me service wire checked past = by (wire_row plan wire) refl where
  by : (row : Option WirePlan) → wire_row plan wire ≡ row → is_spoke_row service me row ≡ false
  by None is = refl
  by (Some row) is =
      let within : row.service.0 < length plan.services = (row_holds (IsWireOf plan) plan.wires wire.0 row is checked.wires).service in
      let other : nat_eq row.service.0 service.0 ≡ false = grind (arith, nat_tests, within, past) in
      ap (λ (b : Bool). (b && not (is_mesh_class row.class)) && is_first me.0 row.path) other

pub choice_past : (plan : Plan) (edge : EdgeState) (service : ServiceId) → IsChecked plan → length plan.services ≤ service.0 → choice plan edge service ≡ None
choice_past plan edge service checked past =
    ap (λ (places : List EndPlace). option_map (λ (place : EndPlace). place.wire) (option_and_then (slice_get places) (chosen (map (spoke_at edge) places))))
    (none_pass (λ place. is_spoke_row service edge.me (wire_row plan place.wire)) (end_places plan edge.me) (λ place. no_spoke plan edge.me service place.wire checked past))

-- ---- service after service

-- the first so many services have the one choice, and the others the other
abbrev pub chosen_to : ℕ → (ℕ → Option WireId) → (ℕ → Option WireId) → ℕ → Option WireId
chosen_to n new old service = cond (nat_lt service n) (new service) (old service)

-- the edge has chosen for the first so many services
abbrev pub choosing_to : ℕ → Plan → EdgeState → EdgeState
choosing_to n plan edge = with_chosen (chosen_to n (λ service. choice plan edge (record { 0 = service })) edge.chosen) edge

pub chosen_none : (plan : Plan) (edge : EdgeState) → edge ≡ choosing_to 0 plan edge
unfolding with_chosen
chosen_none plan edge = λ i. record edge { chosen = λ service. ap (λ (b : Bool). cond b (choice plan edge (record { 0 = service })) (edge.chosen service)) (above service) i } where
  above : (service : ℕ) → false ≡ nat_lt service 0
  above service = grind (arith, nat_tests)

pub chosen_more : (plan : Plan) (n : ℕ) (old mid new : EdgeState) (wire : Option WireId) → mid ≡ choosing_to n plan old → wire ≡ choice plan mid (record { 0 = n }) → new
    ≡ with_chosen (put_at mid.chosen n wire) mid
    → new ≡ choosing_to (n + 1) plan old
unfolding with_chosen
chosen_more plan n old mid new wire so_far chosen puts =
    puts
    ∙ (ap (λ (w : Option WireId). with_chosen (put_at mid.chosen n w) mid) chosen
    ∙ (ap (λ (e : EdgeState). with_chosen (put_at e.chosen n (choice plan e (record { 0 = n }))) e) so_far
    ∙ (λ i. record old { chosen = λ service. one service (nat_eq service n) refl i })))
  where
    by_now : ℕ → Option WireId
    by_now service = choice plan old (record { 0 = service })

    here : (k : ℕ) → nat_eq k n ≡ true → nat_lt k (n + 1) ≡ true
    here k same = grind (arith, nat_tests, same)

    apart : (k : ℕ) → nat_eq k n ≡ false → nat_lt k n ≡ nat_lt k (n + 1)
    apart k other = grind (arith, nat_tests, other)

    one : (k : ℕ) (b : Bool) → nat_eq k n ≡ b → cond (nat_eq k n) (by_now n) (chosen_to n by_now old.chosen k) ≡ chosen_to (n + 1) by_now old.chosen k
    one k true same = rw (same, here k same) (ap by_now (sym (eqb-true k n same)))
    one k false other = rw other (ap (λ (b : Bool). cond b (by_now k) (old.chosen k)) (apart k other))

-- for the services past those it has chosen what it would choose
pub chosen_all : (plan : Plan) (n : ℕ) (old new : EdgeState) → ((service : ℕ) → n ≤ service → old.chosen service ≡ choice plan old (record { 0 = service })) → new
    ≡ choosing_to n plan old → new ≡ choosing plan old
unfolding with_chosen
chosen_all plan n old new past is = is ∙ (λ i. record old { chosen = λ service. one service (nat_lt service n) refl i }) where
  above : (service : ℕ) → nat_lt service n ≡ false → n ≤ service
  above service other = grind (arith, nat_tests, other)

  one : (service : ℕ) (b : Bool) → nat_lt service n ≡ b → cond (nat_lt service n) (choice plan old (record { 0 = service })) (old.chosen service) ≡ choice plan old (record { 0 = service })
  one service true below = rw below refl
  one service false other = rw other (past service (above service other))

pub chosen_past : (c : EdgeLists) (service : ℕ) → IsEdge c → length c.plan.services ≤ service → (seen c).chosen service ≡ choice c.plan (seen c) (record { 0 = service })
unfolding seen
chosen_past c service is past = past_end None c.spokes.chosen service (omega (arith, is.spokes.chosen, past)) ∙ sym (choice_past c.plan (seen c) (record { 0 = service }) is.checked past)

-- ---- none is chosen any more

pub unchosen_next : (xs now : List (Option WireId)) (i : ℕ) → now ≡ map unchosen (take i xs) ++ drop i xs → i < length now → set now i None ≡ map unchosen (take (i + 1) xs) ++ drop (i + 1) xs
unchosen_next xs now i so_far within =
    each_next unchosen xs now i (slice_index_or now i None) None so_far within (same_read now i None (slice_index_or now i None) within) refl

-- ---- what is asked of the spokes of a service

pub usable_read : (c : EdgeLists) (slot : ℕ) (place : EndPlace) (bits : ℕ) (end : EndState) (why : Option Down) (free : Bool) → place ≡ place_of c.ends slot → bits ≡ (seen c).bits place.wire.0
    → end ≡ end_in c.ends slot → why ≡ down role.Chosen bits end → is_some why ≡ not free → free ≡ is_usable (seen c) (place_of c.ends slot)
unfolding seen
usable_read c slot place bits end why free at bit read is so =
    sym (ap not so ∙ twice free)
    ∙ ap (λ (w : Option Down). not (is_some w))
    (is
    ∙ (ap (λ (e : EndState). down role.Chosen bits e) read
    ∙ ap (λ (b : ℕ). down role.Chosen b (end_in c.ends slot)) (bit ∙ ap (λ (p : EndPlace). (seen c).bits p.wire.0) at)))
  where
    twice : (b : Bool) → not (not b) ≡ b
    twice true = refl
    twice false = refl

-- a slot is one of the edge's
pub slot_below : (plan : Plan) (me : EdgeId) (places : List EndPlace) (service : ℕ) (slots : List ℕ) (i d : ℕ) → slots ≡ slots_for plan me places service → i < length slots
    → slice_index_or slots i d < length places
slot_below plan me places service slots i d are below =
    subst (λ (l : List ℕ). slice_index_or l i d < length places) (sym are)
    (slots_below (starts_spoke plan me (record { 0 = service })) 0 (length places) places i d (omega arith) (subst (λ (l : List ℕ). i < length l) are below))

-- the wire of a slot is that of the place
pub wire_named : (plan : Plan) (me : EdgeId) (ends : EndLists) (service : ℕ) (slots : List ℕ) (i d : ℕ) (place : EndPlace) → ends.places ≡ end_places plan me → slots
    ≡ slots_for plan me ends.places service → i < length (slots_for plan me ends.places service)
    → place ≡ place_of ends (slice_index_or slots i d) → option_map (λ (end : EndPlace). end.wire) (slice_get (spoke_places plan me (record { 0 = service })) i) ≡ Some place.wire
wire_named plan me ends service slots i d place placed are below at =
    ap (λ (l : List EndPlace). option_map (λ (end : EndPlace). end.wire) (slice_get (filter (starts_spoke plan me (record { 0 = service })) l) i)) (sym placed)
    ∙ (ap (option_map (λ (end : EndPlace). end.wire)) (slot_names (starts_spoke plan me (record { 0 = service })) ends.places i d below)
    ∙ ap (λ (p : EndPlace). Some p.wire) (sym (at ∙ ap (λ (l : List ℕ). place_of ends (slice_index_or l i d)) are)))

-- the spokes by their slots are those of the edge
pub spokes_read : (c : EdgeLists) (service : ℕ) (slots : List ℕ) (spokes : List Spoke) → c.ends.places ≡ end_places c.plan c.me → slots ≡ slots_for c.plan c.me c.ends.places service
    → spokes ≡ map (λ slot. spoke_at (seen c) (place_of c.ends slot)) slots → spokes ≡ spokes_of c.plan (seen c) (record { 0 = service })
unfolding seen
spokes_read c service slots spokes placed are is =
    is
    ∙ (ap (map (λ slot. spoke_at (seen c) (place_of c.ends slot))) are
    ∙ (by_all_slots (spoke_at (seen c)) (starts_spoke c.plan c.me (record { 0 = service })) c.ends.places
    ∙ ap (λ (l : List EndPlace). map (spoke_at (seen c)) (filter (starts_spoke c.plan c.me (record { 0 = service })) l)) placed))

-- the least number of one spoke more
pub least_next : (f : ℕ → Spoke) (slots : List ℕ) (i d : ℕ) (least next : Option ℕ) → i < length slots
    → ((number : ℕ) → (is_less least number || list_any (is_usable_below number) (map f (drop i slots))) ≡ list_any (is_usable_below number) (map f slots))
    → ((number : ℕ) → (is_less least number || is_usable_below number (f (slice_index_or slots i d))) ≡ is_less next number)
    → (number : ℕ) → (is_less next number || list_any (is_usable_below number) (map f (drop (i + 1) slots))) ≡ list_any (is_usable_below number) (map f slots)
least_next f slots i d least next below so_far lesser number =
    let test = is_usable_below number in
    let rest = list_any test (map f (drop (i + 1) slots)) in
    ap (λ (b : Bool). b || rest) (sym (lesser number))
    ∙ (or_assoc (is_less least number) (test (f (slice_index_or slots i d))) rest
    ∙ (ap (λ (l : List ℕ). is_less least number || list_any test (map f l)) (sym (drop_more slots i d below)) ∙ so_far number))

-- where all were looked at it is the least of all
pub least_all : (c : EdgeLists) (service : ℕ) (slots : List ℕ) (i : ℕ) (least : Option ℕ) → c.ends.places ≡ end_places c.plan c.me → slots ≡ slots_for c.plan c.me c.ends.places service
    → length slots ≤ i
    → ((number : ℕ) → (is_less least number || list_any (is_usable_below number) (map (λ slot. spoke_at (seen c) (place_of c.ends slot)) (drop i slots)))
    ≡ list_any (is_usable_below number) (map (λ slot. spoke_at (seen c) (place_of c.ends slot)) slots))
    → IsLeast (spokes_of c.plan (seen c) (record { 0 = service })) least
least_all c service slots i least placed are past so_far = record {
  below = λ number.
      let f : ℕ → Spoke = λ slot. spoke_at (seen c) (place_of c.ends slot) in
      sym (ap (list_any (is_usable_below number)) (spokes_read c service slots (map f slots) placed are refl))
      ∙ (sym (so_far number)
      ∙ (ap (λ (l : List ℕ). is_less least number || list_any (is_usable_below number) (map f l)) (drop_all i slots past) ∙ or_false (is_less least number)));
}

-- the place of the first that passes, as the list of spokes has it
place_is : (test : ℕ → Bool) (p : ℕ) (slots : List ℕ) → place_where test p slots ≡ cond (nat_lt (position_or_len test slots) (length slots)) (Some (p + position_or_len test slots)) None
place_is test p [] = refl
place_is test p (slot ∷ slots) = by (test slot) (place_is test (p + 1) slots) where
  n : ℕ
  n = position_or_len test slots

  by : (b : Bool) → place_where test (p + 1) slots ≡ cond (nat_lt n (length slots)) (Some (p + 1 + n)) None
      → cond b (Some p) (place_where test (p + 1) slots) ≡ cond (nat_lt (cond (not b) (1 + n) 0) (length (slot ∷ slots))) (Some (p + cond (not b) (1 + n) 0)) None
  by true rest =
      let first : true ≡ nat_lt 0 (length (slot ∷ slots)) = grind (arith, nat_tests) in
      let here : p ≡ p + 0 = omega arith in
      λ i. cond (first i) (Some (here i)) None
  by false rest =
      let later : nat_lt n (length slots) ≡ nat_lt (1 + n) (length (slot ∷ slots)) = grind (arith, nat_tests) in
      let there : p + 1 + n ≡ p + (1 + n) = omega arith in
      rest ∙ (λ i. cond (later i) (Some (there i)) None)

mapped : {X : Type 0} (test : X → Bool) (f : ℕ → X) (slots : List ℕ) → position_or_len (λ slot. test (f slot)) slots ≡ position_or_len test (map f slots)
mapped test f [] = refl
mapped test f (slot ∷ slots) = ap (λ (n : ℕ). cond (not (test (f slot))) (1 + n) 0) (mapped test f slots)

-- one slot more is not of such a spoke
pub place_next : (test : ℕ → Bool) (slots : List ℕ) (i d : ℕ) (found : Option ℕ) → i < length slots → test (slice_index_or slots i d) ≡ false → place_where test i (drop i slots) ≡ found
    → place_where test (i + 1) (drop (i + 1) slots) ≡ found
place_next test slots i d found below fails so_far =
    sym (ap (λ (l : List ℕ). place_where test i l) (drop_more slots i d below) ∙ ap (λ (b : Bool). cond b (Some i) (place_where test (i + 1) (drop (i + 1) slots))) fails) ∙ so_far

pub place_here : (test : ℕ → Bool) (slots : List ℕ) (i d : ℕ) (found : Option ℕ) → i < length slots → test (slice_index_or slots i d) ≡ true → place_where test i (drop i slots) ≡ found
    → Some i ≡ found
place_here test slots i d found below passes so_far =
    sym (ap (λ (l : List ℕ). place_where test i l) (drop_more slots i d below) ∙ ap (λ (b : Bool). cond b (Some i) (place_where test (i + 1) (drop (i + 1) slots))) passes) ∙ so_far

pub place_none : (test : ℕ → Bool) (slots : List ℕ) (i : ℕ) (found : Option ℕ) → length slots ≤ i → place_where test i (drop i slots) ≡ found → None ≡ found
place_none test slots i found past so_far = sym (ap (λ (l : List ℕ). place_where test i l) (drop_all i slots past)) ∙ so_far

-- the place that is found is that of the spoke that is chosen
pub place_chosen : (c : EdgeLists) (service : ℕ) (slots : List ℕ) (least found : Option ℕ) → c.ends.places ≡ end_places c.plan c.me → slots ≡ slots_for c.plan c.me c.ends.places service
    → IsLeast (spokes_of c.plan (seen c) (record { 0 = service })) least
    → found ≡ place_where (λ slot. is_least least (spoke_at (seen c) (place_of c.ends slot))) 0 slots → found ≡ chosen (spokes_of c.plan (seen c) (record { 0 = service }))
place_chosen c service slots least found placed are is at =
    let f : ℕ → Spoke = λ slot. spoke_at (seen c) (place_of c.ends slot) in
    let first : 0 + position_or_len (λ slot. is_least least (f slot)) slots ≡ position_or_len (λ slot. is_least least (f slot)) slots = omega arith in
    let place : 0 + position_or_len (λ slot. is_least least (f slot)) slots ≡ position_or_len (is_least least) (map f slots) = first ∙ mapped (is_least least) f slots in
    let size : length slots ≡ length (map f slots) = sym (length-map slots f) in
    at
    ∙ (place_is (λ slot. is_least least (f slot)) 0 slots
    ∙ ((λ i. cond (nat_lt (mapped (is_least least) f slots i) (size i)) (Some (place i)) None)
    ∙ (ap (position (is_least least)) (spokes_read c service slots (map f slots) placed are refl)
    ∙ chosen_is (spokes_of c.plan (seen c) (record { 0 = service })) least is)))

-- a number that is no less than the least one is less than no other by itself
pub less_by : (least priority : ℕ) → least ≤ priority → (number : ℕ) (usable : Bool) → (nat_lt least number || (usable && nat_lt priority number)) ≡ nat_lt least number
less_by least priority within number true = grind (arith, nat_tests)
less_by least priority within number false = or_false (nat_lt least number)

-- and what is less than it is less than what the least one is less than
pub less_before : (least priority : ℕ) → priority < least → (number : ℕ) → (nat_lt least number || nat_lt priority number) ≡ nat_lt priority number
less_before least priority below number = grind (arith, nat_tests)

pub choice_read : (c : EdgeLists) (service place : ℕ) (spokes : List Spoke) (wire : WireId) → spokes ≡ spokes_of c.plan (seen c) (record { 0 = service }) → Some place ≡ chosen spokes
    → option_map (λ (end : EndPlace). end.wire) (slice_get (spoke_places c.plan c.me (record { 0 = service })) place) ≡ Some wire → Some wire ≡ choice c.plan (seen c) (record { 0 = service })
unfolding seen
choice_read c service place spokes wire are some named =
    sym named
    ∙ ap (λ (o : Option ℕ). option_map (λ (end : EndPlace). end.wire) (option_and_then (slice_get (spoke_places c.plan c.me (record { 0 = service }))) o)) (some ∙ ap chosen are)

-- ---- two lists of wires

wires_decide : (one other : Option WireId) → Decides (option_eq (λ a b. nat_eq a.0 b.0) one other) (one ≡ other)
wires_decide None None = (λ h. refl, λ h. refl)
wires_decide None (Some y) = (λ h. absurd (cc (h)), λ h. absurd (cc (h)))
wires_decide (Some x) None = (λ h. absurd (cc (h)), λ h. absurd (cc (h)))
wires_decide (Some x) (Some y) = (λ h. ap (λ (n : ℕ). Some (record { 0 = n })) (eqb-true x.0 y.0 h), λ h. eq-eqb x.0 y.0 (inside h)) where
  number : ℕ → Option WireId → ℕ
  number n None = n
  number n (Some w) = w.0

  inside : Some x ≡ Some y → x.0 ≡ y.0
  inside h = ap (number 0) h

pub wires_same : (xs ys : List (Option WireId)) → pointwise (option_eq (λ a b. nat_eq a.0 b.0)) xs ys ≡ true → xs ≡ ys
wires_same xs ys same = (pointwise_decides wires_decide xs ys).0 same
