-- Adjacencies that end by a tick, one after another.
use Rattle.std.proofs.Common.{◌≡◌, ◌<◌, ◌≤◌, ◌==◌, ◌+◌, ◌-◌, ◌++◌, ◌∙◌, nat_lt, ℕ, zero, suc, Bool, true, false, List, [], ◌∷◌, length, map, slice_get, Option, Some, None, IfSome, Result, Ok, Err, OnOk, if◌then◌else◌, refl, ap, sym, subst, arith, inl, inr}
use Rattle.std.proofs.lemmas.Bool.{cases_Bool}
use Rattle.std.proofs.lemmas.Bool.Decides.{nat_tests}
use Rattle.std.proofs.lemmas.Option.{slice_get_within}
use Rattle.net_base.specs.declared.plan.Plan.{Plan}
use Rattle.net_base.specs.declared.plan.places.EdgeId.{EdgeId}
use Rattle.net_base.specs.declared.trace.event.Event.TheVariants as event
use Rattle.ldp_discovery.specs.Adjacencies.{AdjacencyLists, IsAfter}
use Rattle.ldp_discovery.specs.Live.{Deed, ticked, AreHolds}
use Rattle.ldp_discovery.specs.Histories.{AreAfter, ends_by_tick, with_deed}
use Rattle.network_model.specs.Run.{state_after}
use Rattle.network_model.specs.State.{NetworkState}
use Rattle.network_model.specs.State as network
use Rattle.network_model.specs.Step.{step}
use Rattle.psn_net.specs.declared.net_stop.NetStop.{NetStop}
use Rattle.psn_net.specs.Lists.{network_seen}
use Rattle.discovery_script.specs.declared.note.Note.TheVariants as note
use Rattle.discovery_script.specs.declared.script_line.ScriptLine.TheVariants as line
use Rattle.discovery_net.specs.Acts.{Act, Does, Tells, Course, course, events_in}
use Rattle.discovery_net.specs.Deeds.{Discovery}
use Rattle.discovery_net.specs.Lines.{Lapse, acts_of, after_line, downs, lapses_from, lapses_with}
use Rattle.discovery_net.specs.Lists.{Acts, DiscoveryLists, HaltsAt, HaltsIn, HasDoneActs, IsAt, course_on, downs_on, said_hello}
use Rattle.discovery_net.proofs.CourseLemmas.{state_done}

-- the next peer
pub lapses_more : (f : ℕ → Bool) (edge : EdgeId) (n i : ℕ) (behind : List Lapse) → i < n
    → lapses_with f edge i (n - i) behind ≡ (if f i then record { edge = edge; peer = record { 0 = i } } ∷ lapses_with f edge (i + 1) (n - (i + 1)) behind else lapses_with f edge
    (i + 1) (n - (i + 1)) behind)
lapses_more f edge n i behind below = let e : n - i ≡ suc (n - (i + 1)) = omega (arith, below) in rw e refl

pub lapses_end : (f : ℕ → Bool) (edge : EdgeId) (n i : ℕ) (behind : List Lapse) → n ≤ i → lapses_with f edge i (n - i) behind ≡ behind
lapses_end f edge n i behind past = let e : n - i ≡ 0 = omega (arith, past) in rw e refl

-- two tests that agree on so many peers
with_same : (f g : ℕ → Bool) (edge : EdgeId) (place count : ℕ) (behind : List Lapse) → ((p : ℕ) → p < place + count → f p ≡ g p) → lapses_with f edge place count behind
    ≡ lapses_with g edge place count behind
with_same f g edge place zero behind same = refl
with_same f g edge place (suc count) behind same = by (f place) (g place) (same place (omega arith)) (with_same f g edge (place + 1) count behind (λ p below. same p (omega (arith, below))))
  where
    by : (a b : Bool) {xs ys : List Lapse} → a ≡ b → xs ≡ ys → (if a then record { edge = edge; peer = record { 0 = place } } ∷ xs else xs)
        ≡ (if b then record { edge = edge; peer = record { 0 = place } } ∷ ys else ys)
    by a b tests rest = λ i. if tests i then record { edge = edge; peer = record { 0 = place } } ∷ rest i else rest i

pub lapses_same : (f g : ℕ → Bool) (edge : EdgeId) (count : ℕ) (behind : List Lapse) → ((p : ℕ) → p < count → f p ≡ g p) → lapses_with f edge 0 count behind ≡ lapses_with g edge 0 count behind
lapses_same f g edge count behind same = with_same f g edge 0 count behind (λ p below. same p (omega (arith, below)))

-- the next edge
pub edges_more : (histories : ℕ → List Deed) (peers n i : ℕ) → i < n
    → lapses_from histories peers i (n - i) ≡ lapses_with (ends_by_tick (histories i)) (record { 0 = i }) 0 peers (lapses_from histories peers (i + 1) (n - (i + 1)))
edges_more histories peers n i below = let e : n - i ≡ suc (n - (i + 1)) = omega (arith, below) in rw e refl

pub edges_end : (histories : ℕ → List Deed) (peers n i : ℕ) → n ≤ i → lapses_from histories peers i (n - i) ≡ []
edges_end histories peers n i past = let e : n - i ≡ 0 = omega (arith, past) in rw e refl

-- ---- one adjacency is taken down

abbrev one_behind : EdgeId → EdgeId → List Lapse → List Lapse
one_behind edge peer behind = record { edge = edge; peer = peer } ∷ behind

-- where memory was refused to the note
pub halted_told : (old now : DiscoveryLists) (edge peer : EdgeId) (stop : NetStop) → HaltsIn stop old now (Tells (note.Down edge peer) ∷ []) → (behind : List Lapse) (rest : List Act)
    → HaltsAt stop now (downs_on old (one_behind edge peer behind) rest)
halted_told old now edge peer stop halts behind rest =
    halts ((if network.stands (network_seen old.network) edge.0 peer.0
    then Does (event.Lose edge peer) ∷ downs old.network.plan (step old.network.plan (network_seen old.network) (event.Lose edge peer)).state behind
    else downs old.network.plan (network_seen old.network) behind) ++ rest)

-- where the end does not stand
pub told_down : (old mid : DiscoveryLists) (edge peer : EdgeId) → mid.network ≡ old.network → HasDoneActs old mid (Tells (note.Down edge peer) ∷ [])
    → network.stands (network_seen old.network) edge.0 peer.0 ≡ false
    → (behind : List Lapse) (rest : List Act) → downs_on mid behind rest ≡ downs_on old (one_behind edge peer behind) rest
told_down old mid edge peer kept done none behind rest =
    ap (λ n. course_on mid (downs n.plan (network_seen n) behind ++ rest)) kept
    ∙ (done (downs old.network.plan (network_seen old.network) behind ++ rest) ∙ sym (ap (λ (b : Bool). course_on old (Tells (note.Down edge peer) ∷ (taken b ++ rest))) none))
  where
    taken : Bool → List Act
    taken b = if b then Does (event.Lose edge peer) ∷ downs old.network.plan (step old.network.plan (network_seen old.network) (event.Lose edge peer)).state behind else downs old.network.plan
        (network_seen old.network) behind

-- where it stands, and was lost
pub taken_down : (old mid now : DiscoveryLists) (edge peer : EdgeId) → mid.network ≡ old.network → HasDoneActs old mid (Tells (note.Down edge peer) ∷ [])
    → network.stands (network_seen old.network) edge.0 peer.0 ≡ true
    → now.network.plan ≡ mid.network.plan → network_seen now.network ≡ (step mid.network.plan (network_seen mid.network) (event.Lose edge peer)).state → HasDoneActs mid now (Does (event.Lose edge peer) ∷ [])
    → (behind : List Lapse) (rest : List Act) → downs_on now behind rest ≡ downs_on old (one_behind edge peer behind) rest
taken_down old mid now edge peer kept done is plan state lost behind rest =
    (λ i. course_on now (downs (plan i) (state i) behind ++ rest))
    ∙ (lost (downs mid.network.plan (step mid.network.plan (network_seen mid.network) (event.Lose edge peer)).state behind ++ rest)
    ∙ (ap (λ n. course_on mid (Does (event.Lose edge peer) ∷ (downs n.plan (step n.plan (network_seen n) (event.Lose edge peer)).state behind ++ rest))) kept
    ∙ (done (Does (event.Lose edge peer) ∷ (downs old.network.plan (step old.network.plan (network_seen old.network) (event.Lose edge peer)).state behind ++ rest))
    ∙ sym (ap (λ (b : Bool). course_on old (Tells (note.Down edge peer) ∷ (taken b ++ rest))) is))))
  where
    taken : Bool → List Act
    taken b = if b then Does (event.Lose edge peer) ∷ downs old.network.plan (step old.network.plan (network_seen old.network) (event.Lose edge peer)).state behind else downs old.network.plan
        (network_seen old.network) behind

-- where a limit stopped that
pub halted_down : (old mid now : DiscoveryLists) (edge peer : EdgeId) (stop : NetStop) → mid.network ≡ old.network → HasDoneActs old mid (Tells (note.Down edge peer) ∷ [])
    → network.stands (network_seen old.network) edge.0 peer.0 ≡ true
    → HaltsIn stop mid now (Does (event.Lose edge peer) ∷ []) → (behind : List Lapse) (rest : List Act) → HaltsAt stop now (downs_on old (one_behind edge peer behind) rest)
halted_down old mid now edge peer stop kept done is halts behind rest =
    subst (λ (c : Course). HaltsAt stop now c)
    (ap (λ n. course_on mid (Does (event.Lose edge peer) ∷ (downs n.plan (step n.plan (network_seen n) (event.Lose edge peer)).state behind ++ rest))) kept
    ∙ (done (Does (event.Lose edge peer) ∷ (downs old.network.plan (step old.network.plan (network_seen old.network) (event.Lose edge peer)).state behind ++ rest))
    ∙ sym (ap (λ (b : Bool). course_on old (Tells (note.Down edge peer) ∷ (taken b ++ rest))) is)))
    (halts (downs mid.network.plan (step mid.network.plan (network_seen mid.network) (event.Lose edge peer)).state behind ++ rest))
  where
    taken : Bool → List Act
    taken b = if b then Does (event.Lose edge peer) ∷ downs old.network.plan (step old.network.plan (network_seen old.network) (event.Lose edge peer)).state behind else downs old.network.plan
        (network_seen old.network) behind

-- ---- the peers of an edge, one after another

abbrev edge_at : ℕ → EdgeId
edge_at place = record { 0 = place }

same_place : (peer : EdgeId) (place : ℕ) → peer.0 ≡ place → peer ≡ edge_at place
same_place peer place is = λ i. record { 0 = is i }

-- a peer whose adjacency has ended is the next one to be taken down
pub down_first : (f : ℕ → Bool) (edge peer : EdgeId) (n i : ℕ) (behind : List Lapse) → i < n → peer.0 ≡ i → f i ≡ true → lapses_with f edge i (n - i) behind
    ≡ one_behind edge peer (lapses_with f edge (i + 1) (n - (i + 1)) behind)
down_first f edge peer n i behind below at ends =
    let later : List Lapse = lapses_with f edge (i + 1) (n - (i + 1)) behind in
    lapses_more f edge n i behind below
    ∙ (ap (λ (b : Bool). if b then record { edge = edge; peer = record { 0 = i } } ∷ later else later) ends ∙ ap (λ (p : EdgeId). one_behind edge p later) (sym (same_place peer i at)))

pub down_passed : (f : ℕ → Bool) (edge : EdgeId) (n i : ℕ) (behind : List Lapse) → i < n → f i ≡ false → lapses_with f edge i (n - i) behind ≡ lapses_with f edge (i + 1) (n - (i + 1)) behind
down_passed f edge n i behind below lives =
    let later : List Lapse = lapses_with f edge (i + 1) (n - (i + 1)) behind in
    lapses_more f edge n i behind below ∙ ap (λ (b : Bool). if b then record { edge = edge; peer = record { 0 = i } } ∷ later else later) lives

-- those of the peers before a place were taken down
abbrev pub AreTaken : (ℕ → Bool) → EdgeId → ℕ → ℕ → DiscoveryLists → DiscoveryLists → Type 0
AreTaken f edge n place old now = (behind : List Lapse) (rest : List Act) → downs_on now (lapses_with f edge place (n - place) behind) rest ≡ downs_on old (lapses_with f edge 0 n behind) rest

pub taken_first : (f : ℕ → Bool) (edge : EdgeId) (n : ℕ) (old now : DiscoveryLists) → now.network ≡ old.network → now.notes ≡ old.notes → AreTaken f edge n 0 old now
taken_first f edge n old now net notes behind rest =
    ap (λ (m : ℕ). downs_on now (lapses_with f edge 0 m behind) rest) (omega arith)
    ∙ (λ i. course (net i).plan (network_seen (net i)) (net i).trace (notes i) (downs (net i).plan (network_seen (net i)) (lapses_with f edge 0 n behind) ++ rest))

pub taken_next : (f : ℕ → Bool) (edge peer : EdgeId) (n place : ℕ) (old mid now : DiscoveryLists) → place < n → peer.0 ≡ place → f place ≡ true → AreTaken f edge n place old mid
    → ((behind : List Lapse) (rest : List Act) → downs_on now behind rest ≡ downs_on mid (one_behind edge peer behind) rest) → AreTaken f edge n (place + 1) old now
taken_next f edge peer n place old mid now below at ends so_far one behind rest =
    one (lapses_with f edge (place + 1) (n - (place + 1)) behind) rest
    ∙ (sym (ap (λ (l : List Lapse). downs_on mid l rest) (down_first f edge peer n place behind below at ends)) ∙ so_far behind rest)

pub taken_passed : (f : ℕ → Bool) (edge : EdgeId) (n place : ℕ) (old mid : DiscoveryLists) → place < n → f place ≡ false → AreTaken f edge n place old mid → AreTaken f edge n (place + 1) old mid
taken_passed f edge n place old mid below lives so_far behind rest =
    sym (ap (λ (l : List Lapse). downs_on mid l rest) (down_passed f edge n place behind below lives)) ∙ so_far behind rest

pub taken_stopped : (f g : ℕ → Bool) (edge peer : EdgeId) (n place : ℕ) (old mid now : DiscoveryLists) (stop : NetStop) → place < n → peer.0 ≡ place → f place ≡ true
    → ((p : ℕ) → p < n → f p ≡ g p) → AreTaken f edge n place old mid
    → ((behind : List Lapse) (rest : List Act) → HaltsAt stop now (downs_on mid (one_behind edge peer behind) rest)) → (behind : List Lapse) (rest : List Act)
    → HaltsAt stop now (downs_on old (lapses_with g edge 0 n behind) rest)
taken_stopped f g edge peer n place old mid now stop below at ends same so_far halts behind rest =
    subst (λ (c : Course). HaltsAt stop now c)
    (sym (ap (λ (l : List Lapse). downs_on mid l rest) (down_first f edge peer n place behind below at ends))
    ∙ (so_far behind rest ∙ ap (λ (l : List Lapse). downs_on old l rest) (lapses_same f g edge n behind same)))
    (halts (lapses_with f edge (place + 1) (n - (place + 1)) behind) rest)

pub taken_all : (f g : ℕ → Bool) (edge : EdgeId) (n place : ℕ) (old now : DiscoveryLists) → n ≤ place → ((p : ℕ) → p < n → f p ≡ g p) → AreTaken f edge n place old now
    → (behind : List Lapse) (rest : List Act) → downs_on now behind rest ≡ downs_on old (lapses_with g edge 0 n behind) rest
taken_all f g edge n place old now past same so_far behind rest =
    sym (ap (λ (l : List Lapse). downs_on now l rest) (lapses_end f edge n place behind past))
    ∙ (so_far behind rest ∙ ap (λ (l : List Lapse). downs_on old l rest) (lapses_same f g edge n behind same))

-- ---- the edges, one after another

-- so many edges have counted a tick
abbrev pub ticked_below : ℕ → (ℕ → List Deed) → ℕ → List Deed
ticked_below count histories k = if nat_lt k count then ticked ∷ histories k else histories k

after_same : (f g : ℕ → List Deed) (all : List AdjacencyLists) → ((k : ℕ) → f k ≡ g k) → AreAfter f all → AreAfter g all
after_same f g all same are = record {
  each = λ k. subst (λ (h : List Deed). IfSome (slice_get all k) (IsAfter h)) (same k) (are.each k);
  holds = λ k. subst (λ (h : List Deed). AreHolds h) (same k) (are.holds k);
}

pub ticked_first : (histories : ℕ → List Deed) (all : List AdjacencyLists) → AreAfter histories all → AreAfter (ticked_below 0 histories) all
ticked_first histories all are = after_same histories (ticked_below 0 histories) all none are
  where
    none : (k : ℕ) → histories k ≡ ticked_below 0 histories k
    none k =
        let not_below : nat_lt k 0 ≡ false = grind (arith, nat_tests) in
        subst (λ (b : Bool). histories k ≡ (if b then ticked ∷ histories k else histories k)) (sym not_below) refl

pub ticked_next : (histories : ℕ → List Deed) (edge : EdgeId) (place : ℕ) (all : List AdjacencyLists) → edge.0 ≡ place
    → AreAfter (with_deed edge ticked (ticked_below place histories)) all → AreAfter (ticked_below (place + 1) histories) all
ticked_next histories edge place all at are = after_same (with_deed edge ticked (ticked_below place histories)) (ticked_below (place + 1) histories) all one are
  where
    other : (k : ℕ) → (k == edge.0) ≡ false → nat_lt k (place + 1) ≡ nat_lt k place
    other k away = elim (cases_Bool (nat_lt k place)) [
      | inl below ↦ (let more : nat_lt k (place + 1) ≡ true = grind (arith, nat_tests, below) in more ∙ sym below)
      | inr above ↦ (let more : nat_lt k (place + 1) ≡ false = grind (arith, nat_tests, above, away, at) in more ∙ sym above)
    ]

    one : (k : ℕ) → with_deed edge ticked (ticked_below place histories) k ≡ ticked_below (place + 1) histories k
    one k = elim (cases_Bool (k == edge.0)) [
      | inl here ↦
          let not_below : nat_lt k place ≡ false = grind (arith, nat_tests, here, at) in
          let now_below : nat_lt k (place + 1) ≡ true = grind (arith, nat_tests, here, at) in
          rw (here, not_below, now_below) refl
      | inr away ↦ rw (away, other k away) refl
    ]

pub ticked_all : (histories : ℕ → List Deed) (place : ℕ) (all : List AdjacencyLists) → length all ≤ place → AreAfter (ticked_below place histories) all → AreAfter (λ k. ticked ∷ histories k) all
ticked_all histories place all past are = record {
  each = λ k. after_of k (slice_get all k) refl (are.each k);
  holds = λ k. holds_of k (nat_lt k place) (are.holds k);
}
  where
    after_of : (k : ℕ) (o : Option AdjacencyLists) → slice_get all k ≡ o → IfSome o (IsAfter (ticked_below place histories k)) → IfSome o (IsAfter (ticked ∷ histories k))
    after_of k None is after = tt
    after_of k (Some a) is after =
        let within : k < length all = slice_get_within all k a is in
        let below : nat_lt k place ≡ true = grind (arith, nat_tests, within, past) in
        subst (λ (b : Bool). IsAfter (if b then ticked ∷ histories k else histories k) a) below after

    holds_of : (k : ℕ) (b : Bool) → AreHolds (if b then ticked ∷ histories k else histories k) → AreHolds (ticked ∷ histories k)
    holds_of k true are = are
    holds_of k false are = are

-- the edge whose turn it is has counted none
not_ticked : (histories : ℕ → List Deed) (edge : EdgeId) (place : ℕ) → edge.0 ≡ place → ticked_below place histories edge.0 ≡ histories place
not_ticked histories edge place at =
    let not_below : nat_lt edge.0 place ≡ false = grind (arith, nat_tests, at) in
    rw not_below (ap histories at)

-- those of the edges before a place were taken down
abbrev pub AreAged : (ℕ → List Deed) → ℕ → ℕ → DiscoveryLists → DiscoveryLists → Type 0
AreAged histories n place old now = (rest : List Act) → downs_on now (lapses_from histories n place (n - place)) rest ≡ downs_on old (lapses_from histories n 0 n) rest

pub aged_none : (histories : ℕ → List Deed) (n : ℕ) (old now : DiscoveryLists) → now ≡ old → AreAged histories n 0 old now
aged_none histories n old now same rest =
    ap (λ (m : ℕ). downs_on now (lapses_from histories n 0 m) rest) (omega arith) ∙ ap (λ (l : DiscoveryLists). downs_on l (lapses_from histories n 0 n) rest) same

-- those of the edge whose turn it is come next
aged_first : (histories : ℕ → List Deed) (edge : EdgeId) (n place : ℕ) (mid : DiscoveryLists) (rest : List Act) → place < n → edge.0 ≡ place → length mid.network.plan.edges ≡ n
    → downs_on mid (lapses_with (ends_by_tick (ticked_below place histories edge.0)) edge 0 (length mid.network.plan.edges)
    (lapses_from histories n (place + 1) (n - (place + 1)))) rest ≡ downs_on mid (lapses_from histories n place (n - place)) rest
aged_first histories edge n place mid rest below at count =
    let later : List Lapse = lapses_from histories n (place + 1) (n - (place + 1)) in
    (λ i. downs_on mid (lapses_with (ends_by_tick (not_ticked histories edge place at i)) (same_place edge place at i) 0 (count i) later) rest)
    ∙ sym (ap (λ (l : List Lapse). downs_on mid l rest) (edges_more histories n n place below))

pub aged_next : (histories : ℕ → List Deed) (edge : EdgeId) (n place : ℕ) (old mid now : DiscoveryLists) → place < n → edge.0 ≡ place → length mid.network.plan.edges ≡ n
    → AreAged histories n place old mid
    → ((behind : List Lapse) (rest : List Act) → downs_on now behind rest
    ≡ downs_on mid (lapses_with (ends_by_tick (ticked_below place histories edge.0)) edge 0 (length mid.network.plan.edges) behind) rest)
    → AreAged histories n (place + 1) old now
aged_next histories edge n place old mid now below at count so_far one rest =
    one (lapses_from histories n (place + 1) (n - (place + 1))) rest ∙ (aged_first histories edge n place mid rest below at count ∙ so_far rest)

pub tick_is : (d : Discovery) (old : DiscoveryLists) (rest : List Act) → IsAt d old
    → downs_on old (lapses_from d.histories (length old.network.plan.edges) 0 (length old.network.plan.edges)) rest ≡ course_on old (acts_of old.network.plan d line.Tick ++ rest)
tick_is d old rest at = ap (λ (s : NetworkState). course_on old
    (downs old.network.plan s (lapses_from d.histories (length old.network.plan.edges) 0 (length old.network.plan.edges)) ++ rest)) at.network

pub aged_stopped : (d : Discovery) (edge : EdgeId) (place : ℕ) (old mid now : DiscoveryLists) (stop : NetStop) → IsAt d old → place < length old.network.plan.edges → edge.0 ≡ place
    → mid.network.plan ≡ old.network.plan
    → AreAged d.histories (length old.network.plan.edges) place old mid
    → ((behind : List Lapse) (rest : List Act) → HaltsAt stop now
    (downs_on mid (lapses_with (ends_by_tick (ticked_below place d.histories edge.0)) edge 0 (length mid.network.plan.edges) behind) rest))
    → HaltsIn stop old now (acts_of old.network.plan d line.Tick)
aged_stopped d edge place old mid now stop at below is plan so_far halts rest =
    let n : ℕ = length old.network.plan.edges in
    subst (λ (c : Course). HaltsAt stop now c)
    (aged_first d.histories edge n place mid rest below is (ap (λ (p : Plan). length p.edges) plan) ∙ (so_far rest ∙ tick_is d old rest at))
    (halts (lapses_from d.histories n (place + 1) (n - (place + 1))) rest)

-- no edge is left: the tick of the network comes
pub tick_acts_of : {A : Type 0} (result : Result A NetStop) (d : Discovery) (place : ℕ) (old mid now : DiscoveryLists) → IsAt d old → length old.network.plan.edges ≤ place
    → AreAged d.histories (length old.network.plan.edges) place old mid
    → Acts result mid now (Does event.Tick ∷ []) → Acts result old now (acts_of old.network.plan d line.Tick)
tick_acts_of result d place old mid now at past so_far acts = by result acts
  where
    n : ℕ
    n = length old.network.plan.edges

    path : (rest : List Act) → course_on mid (Does event.Tick ∷ rest) ≡ course_on old (acts_of old.network.plan d line.Tick ++ rest)
    path rest = sym (ap (λ (l : List Lapse). downs_on mid l rest) (edges_end d.histories n n place past)) ∙ (so_far rest ∙ tick_is d old rest at)

    by : {B : Type 0} (result : Result B NetStop) → Acts result mid now (Does event.Tick ∷ []) → Acts result old now (acts_of old.network.plan d line.Tick)
    by (Ok done) is = λ rest. is rest ∙ path rest
    by (Err stop) is = λ rest. subst (λ (c : Course). HaltsAt stop now c) (path rest) (is rest)

pub tick_after : {A : Type 0} (result : Result A NetStop) (d : Discovery) (place : ℕ) (old now : DiscoveryLists) → IsAt d old → length now.adjacencies ≤ place → now.network.plan
    ≡ old.network.plan → now.hellos ≡ old.hellos
    → AreAfter (ticked_below place d.histories) now.adjacencies → Acts result old now (acts_of old.network.plan d line.Tick) → OnOk result (IsAt (after_line old.network.plan d line.Tick) now)
tick_after (Err stop) d place old now at past plan hellos are acts = tt
tick_after (Ok done) d place old now at past plan hellos are acts = record {
  network = state_done old now (acts_of old.network.plan d line.Tick) acts ∙ ap (λ (s : NetworkState). state_after old.network.plan s (events_in (acts_of old.network.plan d line.Tick))) at.network;
  histories = ticked_all d.histories place now.adjacencies past are;
  hellos = hellos ∙ (at.hellos ∙ ap (λ (p : Plan). map (said_hello p) d.hellos) (sym plan));
  fit = at.fit;
}
