-- What edges keep goes with their histories.
use Rattle.std.proofs.Common.{◌≡◌, ◌≢◌, ◌<◌, ◌≤◌, ◌==◌, ◌+◌, ◌++◌, ◌∙◌, ◌^◌, ◌&&◌, not, ℕ, zero, suc, Bool, true, false, List, [], ◌∷◌, length, get_or, set, drop, slice_get, append-nil, length-append, Option, Some, None, option_map, IfSome, Result, Ok, Err, if◌then◌else◌, refl, ap, sym, subst, arith}
use Rattle.std.proofs.lemmas.Bool.{eqb-true}
use Rattle.std.proofs.lemmas.Bool.Decides.{nat_tests}
use Rattle.std.proofs.lemmas.List.{length-map, length-set}
use Rattle.std.proofs.lemmas.Option.{slice_get-get_or}
use Rattle.net_values.specs.declared.addr.Addr.{Addr}
use Rattle.net_base.specs.declared.plan.Plan.{Plan}
use Rattle.net_base.specs.declared.plan.edge_plan.EdgePlan.{EdgePlan}
use Rattle.net_base.specs.declared.plan.places.EdgeId.{EdgeId}
use Rattle.net_base.specs.plan.Paths.{are_joined, edge_address}
use Rattle.ldp_grammar.specs.Written.{header_octets, message_octets}
use Rattle.ldp_discovery.specs.declared.heard.Heard.{Heard}
use Rattle.ldp_discovery.specs.declared.heard.Heard.TheVariants.{Fresh, Ignored}
use Rattle.ldp_discovery.specs.declared.heard.HelloFault.{HelloFault}
use Rattle.ldp_discovery.specs.declared.neighbour.Neighbour.{Neighbour}
use Rattle.ldp_discovery.specs.Adjacencies.{AdjacencyLists, Hears, IsAfter, adjacencies_after, id_behind, is_joined_to, known_of, lapses, neighbours_from}
use Rattle.ldp_discovery.specs.Hellos.{Says, hello_octets, hello_of, identifier}
use Rattle.ldp_discovery.specs.Live.{Deed, said, heard, ticked, AreHolds, is_adjacency_live, live}
use Rattle.ldp_discovery.proofs.AdjacencyLemmas.{deeds_kept, lives_is}
use Rattle.ldp_discovery.proofs.HearLemmas.{hellos_heard}
use Rattle.ldp_discovery.proofs.LiveLemmas.{stands}
use Rattle.ldp_discovery.specs.Histories.{AreAfter, AreEdgesOf, AreSized, IsOfEdge, ends_by_tick, with_deed}

-- ---- one item of a list is another one

get_same : {A : Type 0} (xs : List A) (me : ℕ) (x : A) → me < length xs → slice_get (set xs me x) me ≡ Some x
get_same [] me x within = absurd (omega (arith, within))
get_same (y ∷ ys) zero x within = refl
get_same (y ∷ ys) (suc me) x within = get_same ys me x (omega (arith, within))

get_other : {A : Type 0} (xs : List A) (me k : ℕ) (x : A) → k ≢ me → slice_get (set xs me x) k ≡ slice_get xs k
get_other [] me k x apart = refl
get_other (y ∷ ys) zero zero x apart = absurd (apart refl)
get_other (y ∷ ys) zero (suc k) x apart = refl
get_other (y ∷ ys) (suc me) zero x apart = refl
get_other (y ∷ ys) (suc me) (suc k) x apart = get_other ys me k x (λ e. apart (ap suc e))

none_past : {A : Type 0} (xs : List A) (k : ℕ) → k < length xs → slice_get xs k ≡ None → ⊥
none_past [] k within none = omega (arith, within)
none_past (x ∷ xs) zero within none = cc
none_past (x ∷ xs) (suc k) within none = none_past xs k (omega (arith, within)) none

-- what holds of each holds of the changed one too
each_set : {A : Type 0} (P Q : ℕ → A → Type 0) (xs : List A) (me : ℕ) (x : A) → me < length xs → ((k : ℕ) → IfSome (slice_get xs k) (P k))
    → ((k : ℕ) (y : A) → (k == me) ≡ false → P k y → Q k y) → Q me x
    → (k : ℕ) → IfSome (slice_get (set xs me x) k) (Q k)
each_set {A = A} P Q xs me x within each others here k = by (k == me) refl
  where
    else_each : (o : Option A) → (k == me) ≡ false → IfSome o (P k) → IfSome o (Q k)
    else_each None away holds = tt
    else_each (Some y) away holds = others k y away holds

    by : (b : Bool) → (k == me) ≡ b → IfSome (slice_get (set xs me x) k) (Q k)
    by true is =
        let at : k ≡ me = eqb-true k me is in
        subst (λ (n : ℕ). IfSome (slice_get (set xs me x) n) (Q n)) (sym at) (subst (λ (o : Option A). IfSome o (Q me)) (sym (get_same xs me x within)) here)
    by false is =
        let apart : k ≢ me = λ e. grind (arith, nat_tests, is, e) in
        subst (λ (o : Option A). IfSome o (Q k)) (sym (get_other xs me k x apart)) (else_each (slice_get xs k) is (each k))

pub found_of : {A : Type 0} (P : ℕ → A → Type 0) (xs : List A) (k : ℕ) (x : A) → ((k : ℕ) → IfSome (slice_get xs k) (P k)) → slice_get xs k ≡ Some x → P k x
found_of {A = A} P xs k x each is = subst (λ (o : Option A). IfSome o (P k)) is (each k)

-- the item that stands at a place, whatever stands for those past the end
item_is : {A : Type 0} (P : ℕ → A → Type 0) (xs : List A) (k : ℕ) (d : A) → ((k : ℕ) → IfSome (slice_get xs k) (P k)) → k < length xs → P k (get_or xs k d)
item_is P xs k d each within = found_of P xs k (get_or xs k d) each (slice_get-get_or xs k d within)

-- one item more
pub each_push : {A : Type 0} (P : ℕ → A → Type 0) (xs : List A) (x : A) → ((k : ℕ) → IfSome (slice_get xs k) (P k)) → P (length xs) x → (k : ℕ) → IfSome (slice_get (xs ++ x ∷ []) k) (P k)
each_push P [] x each last zero = last
each_push P [] x each last (suc k) = tt
each_push P (y ∷ ys) x each last zero = each zero
each_push P (y ∷ ys) x each last (suc k) = each_push (λ j. P (suc j)) ys x (λ j. each (suc j)) last k

-- ---- as many as there are edges

pub size_at : (all : List AdjacencyLists) (k : ℕ) (d : AdjacencyLists) → AreSized all → k < length all → length (get_or all k d).known ≡ length all
size_at all k d sized within = item_is (λ k a. length a.known ≡ length all) all k d sized within

pub sized : (plan : Plan) (all : List AdjacencyLists) → AreEdgesOf plan all → AreSized all
sized plan all are k = by (slice_get all k) (are.each k)
  where
    by : (o : Option AdjacencyLists) → IfSome o (IsOfEdge plan k) → IfSome o (λ a. length a.known ≡ length all)
    by None is = tt
    by (Some a) is = is.known ∙ sym are.count

length_after : (deed : Deed) (a : AdjacencyLists) → length (adjacencies_after deed a).known ≡ length a.known
length_after (said peer hold) a = length-set a.known peer _
length_after (heard peer hold) a = length-set a.known peer _
length_after ticked a = length-map a.known _

pub sized_after : (deed : Deed) (all : List AdjacencyLists) (me : ℕ) (x d : AdjacencyLists) → me < length all → x ≡ adjacencies_after deed (get_or all me d) → AreSized all → AreSized (set all me x)
sized_after deed all me x d within is sized =
    let same : length (set all me x) ≡ length all = length-set all me x in
    each_set (λ k a. length a.known ≡ length all) (λ k a. length a.known ≡ length (set all me x)) all me x within sized (λ k a away has. has ∙ sym same)
    (ap (λ (a : AdjacencyLists). length a.known) is ∙ length_after deed (get_or all me d) ∙ size_at all me d sized within ∙ sym same)

-- ---- what the plan says of them

fixed_after : (plan : Plan) (me : ℕ) (deed : Deed) (a : AdjacencyLists) → IsOfEdge plan me a → IsOfEdge plan me (adjacencies_after deed a)
fixed_after plan me (said peer hold) a is = record { address = is.address; neighbours = is.neighbours; known = length-set a.known peer _ ∙ is.known }
fixed_after plan me (heard peer hold) a is = record { address = is.address; neighbours = is.neighbours; known = length-set a.known peer _ ∙ is.known }
fixed_after plan me ticked a is = record { address = is.address; neighbours = is.neighbours; known = length-map a.known _ ∙ is.known }

pub plan_after : (deed : Deed) (plan : Plan) (all : List AdjacencyLists) (me : ℕ) (x d : AdjacencyLists) → me < length all → x ≡ adjacencies_after deed (get_or all me d) → AreEdgesOf plan all
    → AreEdgesOf plan (set all me x)
plan_after deed plan all me x d within is are = record {
  count = length-set all me x ∙ are.count;
  each = each_set (IsOfEdge plan) (IsOfEdge plan) all me x within are.each (λ k a away has. has)
      (subst (IsOfEdge plan me) (sym is) (fixed_after plan me deed (get_or all me d) (item_is (IsOfEdge plan) all me d are.each within)));
}

-- ---- a history that goes on at one edge alone

at_other : (me : EdgeId) (deed : Deed) (histories : ℕ → List Deed) (k : ℕ) → (k == me.0) ≡ false → with_deed me deed histories k ≡ histories k
at_other me deed histories k away = rw away refl

at_itself : (me : EdgeId) (deed : Deed) (histories : ℕ → List Deed) → with_deed me deed histories me.0 ≡ deed ∷ histories me.0
at_itself me deed histories =
    let same : (me.0 == me.0) ≡ true = grind (arith, nat_tests) in
    rw same refl

abbrev Fits : Deed → Type 0
Fits (said peer hold) = hold ≤ 65535
Fits (heard peer hold) = hold ≤ 65535
Fits ticked = Unit {0}

holds_one : (deed : Deed) (history : List Deed) → Fits deed → AreHolds history → AreHolds (deed ∷ history)
holds_one (said peer hold) history fit are = (fit, are)
holds_one (heard peer hold) history fit are = (fit, are)
holds_one ticked history fit are = are

deed_after : (deed : Deed) (histories : ℕ → List Deed) (all : List AdjacencyLists) (me : EdgeId) (x d : AdjacencyLists) → Fits deed → me.0 < length all → x
    ≡ adjacencies_after deed (get_or all me.0 d) → AreAfter histories all
    → AreAfter (with_deed me deed histories) (set all me.0 x)
deed_after deed histories all me x d fit within is are = record {
  each = each_set (λ k. IsAfter (histories k)) (λ k. IsAfter (with_deed me deed histories k)) all me.0 x within are.each
      (λ k a away has. subst (λ (h : List Deed). IsAfter h a) (sym (at_other me deed histories k away)) has)
      (subst (λ (h : List Deed). IsAfter h x) (sym (at_itself me deed histories))
      (subst (IsAfter (deed ∷ histories me.0)) (sym is)
      (deeds_kept deed (histories me.0) (get_or all me.0 d) (item_is (λ k. IsAfter (histories k)) all me.0 d are.each within))));
  holds = λ k. by k (k == me.0);
}
  where
    by : (k : ℕ) (b : Bool) → AreHolds (if b then deed ∷ histories k else histories k)
    by k true = holds_one deed (histories k) fit (are.holds k)
    by k false = are.holds k

pub said_after : (histories : ℕ → List Deed) (all : List AdjacencyLists) (me : EdgeId) (peer hold : ℕ) (x d : AdjacencyLists) → hold ≤ 65535 → me.0 < length all → x
    ≡ adjacencies_after (said peer hold) (get_or all me.0 d) → AreAfter histories all
    → AreAfter (with_deed me (said peer hold) histories) (set all me.0 x)
said_after histories all me peer hold x d fit within is are = deed_after (said peer hold) histories all me x d fit within is are

pub ticked_after : (histories : ℕ → List Deed) (all : List AdjacencyLists) (me : EdgeId) (x d : AdjacencyLists) → me.0 < length all → x ≡ adjacencies_after ticked (get_or all me.0 d) → AreAfter histories all
    → AreAfter (with_deed me ticked histories) (set all me.0 x)
ticked_after histories all me x d within is are = deed_after ticked histories all me x d tt within is are

-- ---- Hellos

no_rest : (old : List ℕ) → length old ≡ 34 → drop 34 old ≡ []
no_rest old size = of_length 34 old size
  where
    of_length : (n : ℕ) (xs : List ℕ) → length xs ≡ n → drop n xs ≡ []
    of_length zero [] e = refl
    of_length zero (x ∷ xs) e = absurd (omega (arith, e))
    of_length (suc n) [] e = absurd (omega (arith, e))
    of_length (suc n) (x ∷ xs) e = of_length n xs (omega (arith, e))

-- the octets of the next Hello
pub said_octets : (histories : ℕ → List Deed) (plan : Plan) (address : Addr) (all : List AdjacencyLists) (from : EdgeId) (d : AdjacencyLists) (hold : ℕ) (octets old : List ℕ)
    → from.0 < length all → octets ≡ hello_octets (get_or all from.0 d).address (get_or all from.0 d).next_id hold ++ drop 34 old → length old ≡ 34
    → AreAfter histories all → AreEdgesOf plan all → edge_address plan from ≡ Some address → octets ≡ hello_octets address (id_behind (histories from.0)) hold
said_octets histories plan address all from d hold octets old within is size after_all of_plan at =
    let edge : IsOfEdge plan from.0 (get_or all from.0 d) = item_is (IsOfEdge plan) all from.0 d of_plan.each within in
    let numbered : IsAfter (histories from.0) (get_or all from.0 d) = item_is (λ k. IsAfter (histories k)) all from.0 d after_all.each within in
    let same : (get_or all from.0 d).address ≡ address = cc (sym edge.address ∙ at) in
    is ∙ (ap (λ (l : List ℕ). hello_octets (get_or all from.0 d).address (get_or all from.0 d).next_id hold ++ l) (no_rest old size)
    ∙ (append-nil _ ∙ (λ i. hello_octets (same i) (numbered.numbered i) hold)))

neighbour_of : Plan → ℕ → ℕ → EdgePlan → Neighbour
neighbour_of plan me place row = record { address = row.address; joined = are_joined plan me place }

neighbours_at : (plan : Plan) (me place : ℕ) (rows : List EdgePlan) (k : ℕ) → slice_get (neighbours_from plan me place rows) k ≡ option_map (neighbour_of plan me (place + k)) (slice_get rows k)
unfolding neighbour_of
neighbours_at plan me place [] k = refl
neighbours_at plan me place (row ∷ rows) zero = ap (λ (n : ℕ). Some (neighbour_of plan me n row)) (omega arith)
neighbours_at plan me place (row ∷ rows) (suc k) = neighbours_at plan me (place + 1) rows k ∙ ap (λ (n : ℕ). option_map (neighbour_of plan me n) (slice_get rows k)) (omega arith)

joined_is : (plan : Plan) (me k : ℕ) (a : AdjacencyLists) → IsOfEdge plan me a → k < length plan.edges → is_joined_to (slice_get a.neighbours k) ≡ are_joined plan me k
unfolding neighbour_of
joined_is plan me k a is within =
    ap (λ (l : List Neighbour). is_joined_to (slice_get l k)) is.neighbours
    ∙ (ap is_joined_to (neighbours_at plan me 0 plan.edges k) ∙ by (slice_get plan.edges k) refl)
  where
    by : (o : Option EdgePlan) → slice_get plan.edges k ≡ o → is_joined_to (option_map (neighbour_of plan me (0 + k)) o) ≡ are_joined plan me k
    by None none = absurd (none_past plan.edges k within none)
    by (Some row) some = ap (are_joined plan me) (omega arith)

pub joined_at : (plan : Plan) (all : List AdjacencyLists) (a b : EdgeId) (d : AdjacencyLists) (result : Bool) → a.0 < length all → b.0 < length all → result
    ≡ is_joined_to (slice_get (get_or all a.0 d).neighbours b.0) → AreEdgesOf plan all
    → result ≡ are_joined plan a.0 b.0
joined_at plan all a b d result within_a within_b is are =
    is ∙ joined_is plan a.0 b.0 (get_or all a.0 d) (item_is (IsOfEdge plan) all a.0 d are.each within_a) (omega (arith, within_b, are.count))

-- a Hello has as many octets as this where its address has four
four_octets : (address : Addr) (id hold : ℕ) → length (hello_octets address id hold) ≡ 34 → length address.0 ≡ 4
four_octets address id hold size =
    let behind : List ℕ = message_octets (hello_of address id hold) in
    omega (arith, size, length-append (header_octets (length behind) (identifier address)) behind, length-append address.0 (0 ∷ 0 ∷ []), length-append address.0 [])

-- the address that an edge knows of another one
address_known : (plan : Plan) (me : ℕ) (from : EdgeId) (a : AdjacencyLists) → IsOfEdge plan me a → slice_get a.neighbours from.0
    ≡ option_map (neighbour_of plan me (0 + from.0)) (slice_get plan.edges from.0)
address_known plan me from a is = ap (λ (l : List Neighbour). slice_get l from.0) is.neighbours ∙ neighbours_at plan me 0 plan.edges from.0

-- what is heard of a Hello that the network carries
heard_is : (plan : Plan) (me : ℕ) (from : EdgeId) (a now : AdjacencyLists) (octets : List ℕ) (answer : Heard) (address : Addr) (id hold : ℕ) → IsOfEdge plan me a
    → edge_address plan from ≡ Some address → length address.0 ≡ 4
    → id < 2 ^ 32 → hold < 2 ^ 16 → octets ≡ hello_octets address id hold → Hears a from.0 octets answer now → now ≡ adjacencies_after (heard from.0 hold) a
unfolding neighbour_of
heard_is plan me from a now octets answer address id hold edge at four few short is hears = by_row (slice_get plan.edges from.0) refl
  where
    said_by : (neighbour : Neighbour) (verdict : Result ℕ HelloFault) → neighbour.address ≡ address → Says neighbour.address octets verdict → verdict ≡ Ok hold
    said_by neighbour verdict same says = hellos_heard address id hold verdict four few short
        (subst (λ (a : Addr). Says a (hello_octets address id hold) verdict) same (subst (λ (l : List ℕ). Says neighbour.address l verdict) is says))

    by_answer : (neighbour : Neighbour) → slice_get a.neighbours from.0 ≡ Some neighbour → neighbour.address ≡ address → (answer : Heard) → Hears a from.0 octets answer now → now
        ≡ adjacencies_after (heard from.0 hold) a
    by_answer neighbour there same Fresh hears =
        let says : Says neighbour.address octets (Ok hears.hold) = subst (λ (o : Option Neighbour). IfSome o (λ n. Says n.address octets (Ok hears.hold))) there hears.says in
        let held : hears.hold ≡ hold = cc (said_by neighbour (Ok hears.hold) same says) in
        hears.kept ∙ ap (λ (h : ℕ). adjacencies_after (heard from.0 h) a) held
    by_answer neighbour there same (Ignored fault) hears =
        let says : Says neighbour.address octets (Err fault) = subst (λ (o : Option Neighbour). IfSome o (λ n. Says n.address octets (Err fault))) there hears.0 in
        absurd (cc (said_by neighbour (Err fault) same says))

    by_row : (row : Option EdgePlan) → slice_get plan.edges from.0 ≡ row → now ≡ adjacencies_after (heard from.0 hold) a
    by_row None none = absurd (cc (sym (ap (λ (o : Option EdgePlan). option_map (λ r. r.address) o) none) ∙ at))
    by_row (Some row) some =
        let there : slice_get a.neighbours from.0 ≡ Some (neighbour_of plan me (0 + from.0) row) = address_known plan me from a edge ∙ ap (option_map (neighbour_of plan me (0 + from.0))) some in
        let same : row.address ≡ address = cc (sym (ap (λ (o : Option EdgePlan). option_map (λ r. r.address) o) some) ∙ at) in
        by_answer (neighbour_of plan me (0 + from.0) row) there same answer hears

pub heard_after : (histories : ℕ → List Deed) (plan : Plan) (address : Addr) (id hold : ℕ) (all : List AdjacencyLists) (me from : EdgeId) (x d : AdjacencyLists) (octets : List ℕ) (answer : Heard)
    → me.0 < length all → Hears (get_or all me.0 d) from.0 octets answer x → length octets ≡ 34
    → AreAfter histories all → AreEdgesOf plan all → edge_address plan from ≡ Some address → id < 2 ^ 32 → hold ≤ 65535 → octets ≡ hello_octets address id hold
    → AreAfter (with_deed me (heard from.0 hold) histories) (set all me.0 x)
heard_after histories plan address id hold all me from x d octets answer within hears size after_all of_plan at few short is =
    deed_after (heard from.0 hold) histories all me x d short within
    (heard_is plan me.0 from (get_or all me.0 d) x octets answer address id hold (item_is (IsOfEdge plan) all me.0 d of_plan.each within) at
    (four_octets address id hold (sym (ap (λ (l : List ℕ). length l) is) ∙ size)) few (omega (arith, short)) is hears) after_all

-- whatever is heard, the edges are those of the plan
hears_fixed : (plan : Plan) (me from : ℕ) (a now : AdjacencyLists) (octets : List ℕ) (answer : Heard) → Hears a from octets answer now → IsOfEdge plan me a → IsOfEdge plan me now
hears_fixed plan me from a now octets Fresh hears is = subst (IsOfEdge plan me) (sym hears.kept) (fixed_after plan me (heard from hears.hold) a is)
hears_fixed plan me from a now octets (Ignored fault) hears is = subst (IsOfEdge plan me) (sym hears.1) is

pub heard_fixed : (plan : Plan) (all : List AdjacencyLists) (me from : ℕ) (x d : AdjacencyLists) (octets : List ℕ) (answer : Heard) → me < length all
    → Hears (get_or all me d) from octets answer x → AreEdgesOf plan all → AreEdgesOf plan (set all me x)
heard_fixed plan all me from x d octets answer within hears are = record {
  count = length-set all me x ∙ are.count;
  each = each_set (IsOfEdge plan) (IsOfEdge plan) all me x within are.each (λ k a away has. has)
      (hears_fixed plan me from (get_or all me d) x octets answer hears (item_is (IsOfEdge plan) all me d are.each within));
}

hears_sized : (from : ℕ) (a now : AdjacencyLists) (octets : List ℕ) (answer : Heard) → Hears a from octets answer now → length now.known ≡ length a.known
hears_sized from a now octets Fresh hears = ap (λ (l : AdjacencyLists). length l.known) hears.kept ∙ length_after (heard from hears.hold) a
hears_sized from a now octets (Ignored fault) hears = ap (λ (l : AdjacencyLists). length l.known) hears.1

pub heard_sized : (all : List AdjacencyLists) (me from : ℕ) (x d : AdjacencyLists) (octets : List ℕ) (answer : Heard) → me < length all → Hears (get_or all me d) from octets answer x
    → AreSized all → AreSized (set all me x)
heard_sized all me from x d octets answer within hears sized =
    let same : length (set all me x) ≡ length all = length-set all me x in
    each_set (λ k a. length a.known ≡ length all) (λ k a. length a.known ≡ length (set all me x)) all me x within sized (λ k a away has. has ∙ sym same)
    (hears_sized from (get_or all me d) x octets answer hears ∙ size_at all me d sized within ∙ sym same)

-- ---- what lives

pub lives_at : (histories : ℕ → List Deed) (all : List AdjacencyLists) (edge peer : EdgeId) (d : AdjacencyLists) (result : Bool) → AreSized all → edge.0 < length all → peer.0 < length all
    → result ≡ is_adjacency_live (known_of (get_or all edge.0 d) peer.0) → AreAfter histories all → result ≡ live peer.0 (histories edge.0)
lives_at histories all edge peer d result sized within there is are =
    is ∙ lives_is (histories edge.0) (get_or all edge.0 d) peer.0 (are.holds edge.0) (item_is (λ k. IsAfter (histories k)) all edge.0 d are.each within)
    (omega (arith, there, size_at all edge.0 d sized within))

lapse_is : (history : List Deed) (a : AdjacencyLists) (peer : ℕ) → AreHolds history → IsAfter history a → peer < length a.known → lapses (known_of a peer) ≡ ends_by_tick history peer
lapse_is history a peer are is within =
    ap lapses (is.peers peer within) ∙ (λ i. stands peer history are i && not (stands peer (ticked ∷ history) are i))

pub lapsed_at : (histories : ℕ → List Deed) (all : List AdjacencyLists) (edge : EdgeId) (peer : ℕ) (d : AdjacencyLists) (ended : Bool) → AreSized all → edge.0 < length all → ended
    ≡ lapses (known_of (get_or all edge.0 d) peer)
    → AreAfter histories all → peer < length all → ended ≡ ends_by_tick (histories edge.0) peer
lapsed_at histories all edge peer d ended sized within is are there =
    is ∙ lapse_is (histories edge.0) (get_or all edge.0 d) peer (are.holds edge.0) (item_is (λ k. IsAfter (histories k)) all edge.0 d are.each within)
    (omega (arith, there, size_at all edge.0 d sized within))

-- where nothing was heard the edge is put back as it was
pub heard_nothing : (all : List AdjacencyLists) (me : ℕ) (x d : AdjacencyLists) → me < length all → x ≡ get_or all me d → set all me x ≡ all
heard_nothing [] me x d within is = absurd (omega (arith, within))
heard_nothing (y ∷ all) zero x d within is = ap (λ (z : AdjacencyLists). z ∷ all) is
heard_nothing (y ∷ all) (suc me) x d within is = ap (λ (l : List AdjacencyLists). y ∷ l) (heard_nothing all me x d (omega (arith, within)) is)
