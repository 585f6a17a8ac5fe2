-- The ends of wires at their terminal edges, by the rows of the plan.
use Rattle.std.proofs.Common.{◌≡◌, ◌<◌, ◌≤◌, ◌+◌, ◌-◌, ◌++◌, ◌∙◌, ◌&&◌, ◌||◌, Bor, ℕ, zero, suc, Bool, true, false, List, [], ◌∷◌, Option, Some, None, IfSome, cond, drop, get_or, length, slice_get, slice_index_or, nat_eq, nat_lt, refl, sym, ap, subst, arith, inl, inr}
use Rattle.std.specs.Prelude.{is_some}
use Rattle.std.specs.List.{list_all, list_any}
use Rattle.std.proofs.lemmas.Bool.{and_parts, and_from, cases_Bool, eq-eqb, or_left, or_right}
use Rattle.std.proofs.lemmas.Bool.Decides.{nat_tests}
use Rattle.std.proofs.lemmas.List.{drop_more}
use Rattle.std.proofs.lemmas.List.Elements.{All-get_or}
use Rattle.std.proofs.lemmas.List.Folds.{list_any-append}
use Rattle.std.proofs.lemmas.Option.{get_or_from_slice_get, slice_get_within}
use Rattle.net_base.specs.declared.plan.Plan.{Plan}
use Rattle.net_base.specs.declared.plan.places.EdgeId.{EdgeId}
use Rattle.net_base.specs.declared.plan.places.WireId.{WireId}
use Rattle.net_base.specs.declared.plan.wire_plan.WirePlan.{WirePlan}
use Rattle.net_base.specs.declared.trace.down.Down.{Down}
use Rattle.net_base.specs.plan.Accepted.{IsChecked, IsWireOf}
use Rattle.net_base.specs.plan.Paths.{first_edge, is_first, is_last, last_edge}
use Rattle.net_base.specs.plan.RowFaults.{is_edge_of}
use Rattle.edge_model.specs.declared.end_place.EndPlace.{EndPlace}
use Rattle.edge_model.specs.EndPlaces.{end_place_at, ends_here, is_end_of_wire, is_terminal, places_along, places_at, places_from}
use Rattle.edge_model.specs.Ends.{end_forwards, forwards_at, is_stitched, is_up, wire_end}
use Rattle.edge_model.specs.Role.{down_at}
use Rattle.edge_model.proofs.CopyLemmas.{found_end}
use Rattle.edge_model.proofs.PacketLemmas.{wire_end_is}
use Rattle.edge_model.proofs.SyncLemmas.{ends_here_is}
use Rattle.provider_edge.specs.Lists.{EdgeLists, seen}
use Rattle.provider_edge.proofs.EffectLemmas.{below_edges}
use Rattle.network_model.specs.Calm.{first_forwards, inner_stitched, last_forwards}
use Rattle.network_model.specs.State.{NetworkState}
use Rattle.psn_net.specs.Carrying.{forwards_if}
use Rattle.psn_net.specs.Lists.{IsNetwork, NetLists, edge_outside}

-- ---- the rows of a checked plan

row_of : (plan : Plan) (wire : ℕ) (row : WirePlan) → IsChecked plan → slice_get plan.wires wire ≡ Some row → IsWireOf plan row
row_of plan wire row checked is =
    subst (IsWireOf plan) (get_or_from_slice_get plan.wires wire row row is) (All-get_or (IsWireOf plan) plan.wires wire row (slice_get_within plan.wires wire row is) checked.wires)

path_first : (plan : Plan) (path : List EdgeId) (first : EdgeId) → list_all (is_edge_of plan) path ≡ true → first_edge path ≡ Some first → first.0 < length plan.edges
path_first plan [] first all at = absurd (cc (at))
path_first plan (edge ∷ rest) first all at =
    let same : edge ≡ first = cc (at) in
    subst (λ (e : EdgeId). e.0 < length plan.edges) same (below_edges plan edge (and_parts (is_edge_of plan edge) (list_all (is_edge_of plan) rest) all).0)

path_last : (plan : Plan) (path : List EdgeId) (last : EdgeId) → list_all (is_edge_of plan) path ≡ true → last_edge path ≡ Some last → last.0 < length plan.edges
path_last plan [] last all at = absurd (cc (at))
path_last plan (edge ∷ []) last all at = path_first plan (edge ∷ []) last all at
path_last plan (edge ∷ next ∷ rest) last all at = path_last plan (next ∷ rest) last (and_parts (is_edge_of plan edge) (list_all (is_edge_of plan) (next ∷ rest)) all).1 at

-- the first edge of a wire of the plan is an edge of the plan
pub first_within : (plan : Plan) (wire : ℕ) (row : WirePlan) (first : EdgeId) → IsChecked plan → slice_get plan.wires wire ≡ Some row → first_edge row.path ≡ Some first → first.0 < length plan.edges
first_within plan wire row first checked is at = path_first plan row.path first (row_of plan wire row checked is).edges at

-- and so is the last one
pub last_within : (plan : Plan) (wire : ℕ) (row : WirePlan) (last : EdgeId) → IsChecked plan → slice_get plan.wires wire ≡ Some row → last_edge row.path ≡ Some last → last.0 < length plan.edges
last_within plan wire row last checked is at = path_last plan row.path last (row_of plan wire row checked is).edges at

-- the same of an edge that is told, if one is
pub first_of_plan : (plan : Plan) (wire : ℕ) (row : WirePlan) → IsChecked plan → slice_get plan.wires wire ≡ Some row → IfSome (first_edge row.path) (λ edge. edge.0 < length plan.edges)
first_of_plan plan wire row checked is = told (first_edge row.path) refl where
  told : (e : Option EdgeId) → first_edge row.path ≡ e → IfSome e (λ edge. edge.0 < length plan.edges)
  told None at = tt
  told (Some edge) at = first_within plan wire row edge checked is at

pub last_of_plan : (plan : Plan) (wire : ℕ) (row : WirePlan) → IsChecked plan → slice_get plan.wires wire ≡ Some row → IfSome (last_edge row.path) (λ edge. edge.0 < length plan.edges)
last_of_plan plan wire row checked is = told (last_edge row.path) refl where
  told : (e : Option EdgeId) → last_edge row.path ≡ e → IfSome e (λ edge. edge.0 < length plan.edges)
  told None at = tt
  told (Some edge) at = last_within plan wire row edge checked is at

same_default : (xs : List EdgeLists) (i : ℕ) (d e : EdgeLists) → i < length xs → slice_index_or xs i d ≡ slice_index_or xs i e
same_default [] i d e below = absurd (omega arith)
same_default (x ∷ xs) zero d e below = refl
same_default (x ∷ xs) (suc i) d e below = same_default xs i d e (omega arith)

-- an edge of the network is over the plan of the network
pub planned_at : (n : NetLists) (edge : ℕ) (found : EdgeLists) → IsNetwork n → edge < length n.plan.edges → found ≡ slice_index_or n.edges edge found → found.plan ≡ n.plan
planned_at n edge found is within at =
    let below : edge < length n.edges = omega (arith, is.count) in
    ap (λ (e : EdgeLists). e.plan) (at ∙ same_default n.edges edge found (edge_outside n.plan edge) below) ∙ is.planned edge below

-- an edge that is lent is over the plan of the network, and has the place that was asked for
pub lent_planned : (n : NetLists) (id : EdgeId) (lent : Option (Bor EdgeLists)) → IsNetwork n → is_some lent ≡ nat_lt id.0 (length n.edges)
    → IfSome lent (λ edge. edge.now ≡ slice_index_or n.edges id.0 edge.now) → IfSome lent (λ edge. edge.now.plan ≡ n.plan)
lent_planned n id None is some at = tt
lent_planned n id (Some edge) is some at =
    let below : id.0 < length n.edges = grind (arith, nat_tests, some) in
    planned_at n id.0 edge.now is (omega (arith, below, is.count)) at

pub lent_placed : (n : NetLists) (id : EdgeId) (lent : Option (Bor EdgeLists)) → IsNetwork n → is_some lent ≡ nat_lt id.0 (length n.edges)
    → IfSome lent (λ edge. edge.now ≡ slice_index_or n.edges id.0 edge.now) → IfSome lent (λ edge. edge.now.me ≡ id)
lent_placed n id None is some at = tt
lent_placed n id (Some edge) is some at =
    let below : id.0 < length n.edges = grind (arith, nat_tests, some) in
    ap (λ (e : EdgeLists). e.me) (at ∙ same_default n.edges id.0 edge.now (edge_outside n.plan id.0) below) ∙ is.placed id.0

-- ---- the terminal edges of a path

pub first_forwards_is : (plan : Plan) (network : NetworkState) (wire : ℕ) (path : List EdgeId) → first_forwards plan network wire path ≡ forwards_if plan network wire (first_edge path)
first_forwards_is plan network wire [] = refl
first_forwards_is plan network wire (first ∷ rest) = refl

pub last_forwards_is : (plan : Plan) (network : NetworkState) (wire : ℕ) (path : List EdgeId) → last_forwards plan network wire path ≡ forwards_if plan network wire (last_edge path)
last_forwards_is plan network wire [] = refl
last_forwards_is plan network wire (last ∷ []) = refl
last_forwards_is plan network wire (first ∷ next ∷ rest) = last_forwards_is plan network wire (next ∷ rest)

-- ---- the edges between them

-- the edges of a wire of the plan are edges of the plan; so are those behind the first
rest_of : (plan : Plan) (path : List EdgeId) (first : EdgeId) (rest : List EdgeId) → path ≡ first ∷ rest → list_all (is_edge_of plan) path ≡ true → list_all (is_edge_of plan) rest ≡ true
rest_of plan path first rest at all = (and_parts (is_edge_of plan first) (list_all (is_edge_of plan) rest) (ap (list_all (is_edge_of plan)) (sym at) ∙ all)).1

pub rest_within : (plan : Plan) (wire : ℕ) (row : WirePlan) (first : EdgeId) (rest : List EdgeId) → IsChecked plan → slice_get plan.wires wire ≡ Some row → row.path ≡ first ∷ rest
    → list_all (is_edge_of plan) rest ≡ true
rest_within plan wire row first rest checked is at = rest_of plan row.path first rest at (row_of plan wire row checked is).edges

-- one of them is an edge of the plan
each_of : (plan : Plan) (path : List EdgeId) (place : ℕ) (d : EdgeId) → list_all (is_edge_of plan) path ≡ true → place < length path → (get_or path place d).0 < length plan.edges
each_of plan [] place d all within = absurd (omega (arith, within))
each_of plan (edge ∷ rest) zero d all within = below_edges plan edge (and_parts (is_edge_of plan edge) (list_all (is_edge_of plan) rest) all).0
each_of plan (edge ∷ rest) (suc place) d all within = each_of plan rest place d (and_parts (is_edge_of plan edge) (list_all (is_edge_of plan) rest) all).1 (omega (arith, within))

pub each_within : (plan : Plan) (path : List EdgeId) (place : ℕ) (d : EdgeId) → list_all (is_edge_of plan) path ≡ true → place < length path - 1 → (get_or path place d).0 < length plan.edges
each_within plan path place d all within = each_of plan path place d all (omega (arith, within))

module _ (plan : Plan) (network : NetworkState) (wire : ℕ) where
  -- one edge that is not the last, and those behind it
  inner_at : (path : List EdgeId) (place : ℕ) (d : EdgeId) → place < length path - 1
      → inner_stitched plan network wire (drop place path)
      ≡ (is_stitched plan (network.edges (get_or path place d).0) (record { 0 = wire }) && inner_stitched plan network wire (drop (place + 1) path))
  inner_at path place d within =
      let point : EdgeId = get_or path place d in
      let next : drop (place + 1) path ≡ get_or path (place + 1) d ∷ drop (place + 1 + 1) path = drop_more path (place + 1) d (omega (arith, within)) in
      ap (inner_stitched plan network wire) (drop_more path place d (omega (arith, within)))
      ∙ (ap (λ (ys : List EdgeId). inner_stitched plan network wire (point ∷ ys)) next
      ∙ sym (ap (λ (ys : List EdgeId). is_stitched plan (network.edges point.0) (record { 0 = wire }) && inner_stitched plan network wire ys) next))

  pub inner_more : (path : List EdgeId) (place : ℕ) (d : EdgeId) → place < length path - 1 → is_stitched plan (network.edges (get_or path place d).0) (record { 0 = wire }) ≡ true
      → inner_stitched plan network wire (drop place path) ≡ inner_stitched plan network wire (drop (place + 1) path)
  inner_more path place d within here = inner_at path place d within ∙ ap (λ b. b && inner_stitched plan network wire (drop (place + 1) path)) here

  pub inner_fails : (path : List EdgeId) (place : ℕ) (d : EdgeId) → place < length path - 1 → is_stitched plan (network.edges (get_or path place d).0) (record { 0 = wire }) ≡ false
      → inner_stitched plan network wire (drop place path) ≡ false
  inner_fails path place d within here = inner_at path place d within ∙ ap (λ b. b && inner_stitched plan network wire (drop (place + 1) path)) here

  pub inner_end : (path : List EdgeId) (place : ℕ) → length path - 1 ≤ place → inner_stitched plan network wire (drop place path) ≡ true
  inner_end [] zero past = refl
  inner_end [] (suc place) past = refl
  inner_end (last ∷ []) zero past = refl
  inner_end (edge ∷ next ∷ rest) zero past = absurd (omega (arith, past))
  inner_end (edge ∷ rest) (suc place) past = inner_end rest place (omega (arith, past))

pub ruleset stitching_steps = (each_within, inner_more, inner_fails, inner_end)

-- ---- a terminal edge of a wire has an end of it

-- some end of the wire is terminal
abbrev has_end : WireId → List EndPlace → Bool
has_end wire places = list_any (is_end_of_wire wire) places

joined_left : (wire : WireId) (xs ys : List EndPlace) → has_end wire xs ≡ true → has_end wire (xs ++ ys) ≡ true
joined_left wire xs ys here = list_any-append (is_end_of_wire wire) xs ys ∙ or_left (has_end wire xs) (has_end wire ys) here

joined_right : (wire : WireId) (xs ys : List EndPlace) → has_end wire ys ≡ true → has_end wire (xs ++ ys) ≡ true
joined_right wire xs ys there = list_any-append (is_end_of_wire wire) xs ys ∙ or_right (has_end wire xs) (has_end wire ys) there

one_end : (wire : WireId) (place : EndPlace) → place.wire.0 ≡ wire.0 → place.terminal ≡ true → has_end wire (place ∷ []) ≡ true
one_end wire place same terminal = or_left (is_end_of_wire wire place) false (and_from (nat_eq place.wire.0 wire.0) place.terminal (eq-eqb place.wire.0 wire.0 same) terminal)

-- an edge at one side of a segment has an end there
at_one : (wire : WireId) (row : WirePlan) (me : EdgeId) (segment : ℕ) (first next : EdgeId) → is_terminal row me ≡ true → (nat_eq me.0 first.0 || nat_eq me.0 next.0) ≡ true
    → has_end wire (places_at wire row me segment first next) ≡ true
at_one wire row me segment first next terminal one = by (nat_eq me.0 first.0) (nat_eq me.0 next.0) one where
  by : (a b : Bool) → (a || b) ≡ true → has_end wire (cond a (end_place_at wire row me segment 0 next ∷ []) (cond b (end_place_at wire row me segment 1 first ∷ []) [])) ≡ true
  by true b one = one_end wire (end_place_at wire row me segment 0 next) refl terminal
  by false true one = one_end wire (end_place_at wire row me segment 1 first) refl terminal
  by false false one = absurd (cc (one))

at_last : (wire : WireId) (row : WirePlan) (me : EdgeId) (segment : ℕ) (path : List EdgeId) → is_terminal row me ≡ true → 2 ≤ length path → is_last me.0 path ≡ true
    → has_end wire (places_along wire row me segment path) ≡ true
at_last wire row me segment [] terminal least last = absurd (omega (arith, least))
at_last wire row me segment (x ∷ []) terminal least last = absurd (omega (arith, least))
at_last wire row me segment (x ∷ y ∷ []) terminal least last =
    joined_left wire (places_at wire row me segment x y) [] (at_one wire row me segment x y terminal (or_right (nat_eq me.0 x.0) (nat_eq me.0 y.0) last))
at_last wire row me segment (x ∷ y ∷ z ∷ rest) terminal least last =
    joined_right wire (places_at wire row me segment x y) (places_along wire row me (segment + 1) (y ∷ z ∷ rest)) (at_last wire row me (segment + 1) (y ∷ z ∷ rest) terminal (omega arith) last)

at_first : (wire : WireId) (row : WirePlan) (me : EdgeId) (segment : ℕ) (path : List EdgeId) → is_terminal row me ≡ true → 2 ≤ length path → is_first me.0 path ≡ true
    → has_end wire (places_along wire row me segment path) ≡ true
at_first wire row me segment [] terminal least first = absurd (omega (arith, least))
at_first wire row me segment (x ∷ []) terminal least first = absurd (omega (arith, least))
at_first wire row me segment (x ∷ y ∷ rest) terminal least first =
    joined_left wire (places_at wire row me segment x y) (places_along wire row me (segment + 1) (y ∷ rest))
    (at_one wire row me segment x y terminal (or_left (nat_eq me.0 x.0) (nat_eq me.0 y.0) first))

at_either : (wire : WireId) (row : WirePlan) (me : EdgeId) → is_terminal row me ≡ true → 2 ≤ length row.path → has_end wire (places_along wire row me 0 row.path) ≡ true
at_either wire row me terminal least = elim (cases_Bool (is_first me.0 row.path)) [
  | inl first ↦ at_first wire row me 0 row.path terminal least first
  | inr other ↦ at_last wire row me 0 row.path terminal least (sym (ap (λ b. b || is_last me.0 row.path) other) ∙ terminal)
]

has_end_from : (me : EdgeId) (k n w : ℕ) (rows : List WirePlan) (row : WirePlan) → w ≡ k + n → slice_get rows n ≡ Some row → is_terminal row me ≡ true → 2 ≤ length row.path
    → has_end (record { 0 = w }) (places_from me k rows) ≡ true
has_end_from me k n w [] row place is terminal least = absurd (cc (is))
has_end_from me k zero w (x ∷ rows) row place is terminal least =
    let same : x ≡ row = cc (is) in
    let here : w ≡ k = omega (arith, place) in
    joined_left (record { 0 = w }) (places_along (record { 0 = k }) x me 0 x.path) (places_from me (k + 1) rows)
    (subst (λ (r : WirePlan). has_end (record { 0 = w }) (places_along (record { 0 = k }) r me 0 r.path) ≡ true) (sym same)
    (subst (λ (n : ℕ). has_end (record { 0 = w }) (places_along (record { 0 = n }) row me 0 row.path) ≡ true) here (at_either (record { 0 = w }) row me terminal least)))
has_end_from me k (suc n) w (x ∷ rows) row place is terminal least =
    joined_right (record { 0 = w }) (places_along (record { 0 = k }) x me 0 x.path) (places_from me (k + 1) rows) (has_end_from me (k + 1) n w rows row (omega (arith, place)) is terminal least)

-- a terminal edge of a wire of the plan has its terminal end
pub ends_at_row : (plan : Plan) (me : EdgeId) (wire : WireId) (row : WirePlan) → IsChecked plan → slice_get plan.wires wire.0 ≡ Some row → is_terminal row me ≡ true → ends_here plan me wire ≡ true
ends_at_row plan me wire row checked is terminal = has_end_from me 0 wire.0 wire.0 plan.wires row (omega arith) is terminal (row_of plan wire.0 row checked is).least

-- ---- and forwards where nothing keeps it from that

pub terminal_forwards : (edge : EdgeLists) (wire : WireId) (row : WirePlan) (down : Option Down) → IsChecked edge.plan → slice_get edge.plan.wires wire.0 ≡ Some row → is_terminal row edge.me ≡ true
    → IfSome (wire_end edge.plan edge.me wire) (λ place. down ≡ down_at edge.plan (seen edge) place) → is_up down ≡ end_forwards edge.plan (seen edge) wire
unfolding seen
terminal_forwards edge wire row down checked is terminal told = by (wire_end edge.plan edge.me wire) (ends_here_is edge.plan edge.me wire ∙ ends_at_row edge.plan edge.me wire row checked is terminal) told where
  by : (place : Option EndPlace) → is_some place ≡ true → IfSome place (λ place. down ≡ down_at edge.plan (seen edge) place) → is_up down ≡ forwards_at edge.plan (seen edge) place
  by None some told = absurd (cc (some))
  by (Some place) some told = ap is_up told

-- an edge that is no terminal edge of a wire does not forward it
pub not_elsewhere : (edge : EdgeLists) (wire : WireId) (row : WirePlan) → slice_get edge.plan.wires wire.0 ≡ Some row → is_terminal row edge.me ≡ false
    → end_forwards edge.plan (seen edge) wire ≡ false
unfolding seen
not_elsewhere edge wire row is elsewhere = by (wire_end edge.plan edge.me wire) refl where
  by : (place : Option EndPlace) → wire_end edge.plan edge.me wire ≡ place → forwards_at edge.plan (seen edge) place ≡ false
  by None at = refl
  by (Some place) at =
      let end = wire_end_is edge.plan edge.me wire place at in
      let found = found_end edge.plan edge.me wire place at in
      let rows : Some row ≡ Some end.row = sym is ∙ (ap (λ (w : WireId). slice_get edge.plan.wires w.0) (sym found.of_wire) ∙ end.is) in
      let same : row ≡ end.row = cc (rows) in
      absurd (cc (elsewhere, same, end.terminal, found.terminal))

pub ruleset forwarding_steps = (ends_at_row, terminal_forwards, not_elsewhere)
