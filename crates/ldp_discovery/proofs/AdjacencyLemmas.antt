-- What an edge keeps of others goes with what it says, hears and counts.
use Rattle.std.proofs.Common.{◌≡◌, ◌≢◌, ◌<◌, ◌∙◌, ◌+◌, ◌++◌, nat_eq, ◌==◌, ℕ, zero, suc, List, [], ◌∷◌, length, get_or, set, take, drop, map, refl, ap, arith, inl, inr, if◌then◌else◌}
use Rattle.std.proofs.lemmas.Bool.{cases_Bool, eqb-true}
use Rattle.std.proofs.lemmas.Bool.Decides.{nat_tests}
use Rattle.std.proofs.lemmas.List.{get_or-set_same, get_or-set_other, length-set, length-map}
use Rattle.net_values.proofs.RowLemmas.{edited_next, edited_length}
use Rattle.ldp_discovery.specs.declared.adjacency.Adjacency.{Adjacency}
use Rattle.ldp_discovery.specs.Adjacencies.{AdjacencyLists, DeedsAreKept, IsAfter, adjacencies_after, id_after, known_of}
use Rattle.ldp_discovery.specs.Live.{Deed, said, heard, ticked, AreHolds, adjacency_aged, is_adjacency_live, live, hold_proposed, refreshed, unknown}
use Rattle.ldp_discovery.proofs.LiveLemmas.{stands}

-- ---- a list whose items are changed one by one

-- one item more
pub each_next : {X : Type 0} (f : X → X) (xs now : List X) (i : ℕ) (d y : X) → now ≡ map f (take i xs) ++ drop i xs → i < length now → y ≡ f (get_or now i d)
    → set now i y ≡ map f (take (i + 1) xs) ++ drop (i + 1) xs
each_next {X = X} f xs now i d y so_far within adjacencies_after =
    let parts : length (map f (take i xs) ++ drop i xs) ≡ length xs = edited_length f xs i in
    let below : i < length xs = omega (arith, ap length so_far) in
    let next : suc i ≡ i + 1 = omega arith in
    ap (λ (v : X). set now i v) adjacencies_after
    ∙ (ap (λ (l : List X). set l i (f (get_or l i d))) so_far
    ∙ (edited_next f xs i d below
    ∙ ap (λ (n : ℕ). map f (take n xs) ++ drop n xs) next))

-- ---- deeds

mapped : (f : Adjacency → Adjacency) (xs : List Adjacency) (i : ℕ) (d : Adjacency) → i < length xs → get_or (map f xs) i d ≡ f (get_or xs i d)
mapped f [] i d within = absurd (omega arith)
mapped f (x ∷ xs) zero d within = refl
mapped f (x ∷ xs) (suc i) d within = mapped f xs i d (omega (arith, within))

-- one adjacency is another one
changed : (xs : List Adjacency) (place peer : ℕ) (f : Adjacency → Adjacency) → peer < length xs → get_or (set xs place (f (get_or xs place unknown))) peer unknown
    ≡ (if place == peer then f (get_or xs peer unknown) else get_or xs peer unknown)
changed xs place peer f within = elim (cases_Bool (nat_eq place peer)) [
  | inl same ↦
      let at : place ≡ peer = eqb-true place peer same in
      rw same (ap (λ n. get_or (set xs n (f (get_or xs n unknown))) peer unknown) at ∙ get_or-set_same xs peer (f (get_or xs peer unknown)) unknown within)
  | inr other ↦
      let apart : peer ≢ place = λ e. grind (arith, nat_tests, other, e) in
      rw other (get_or-set_other xs place peer (f (get_or xs place unknown)) unknown apart)
]

-- what is kept of a peer tells whether the adjacency lives
pub lives_is : (history : List Deed) (a : AdjacencyLists) (peer : ℕ) → AreHolds history → IsAfter history a → peer < length a.known → is_adjacency_live (known_of a peer) ≡ live peer history
lives_is history a peer are is within = ap is_adjacency_live (is.peers peer within) ∙ stands peer history are

pub deeds_kept : DeedsAreKept
deeds_kept (said to hold) history a is = record {
  peers = λ peer within.
      let there : peer < length a.known = omega (arith, within, length-set a.known to (hold_proposed hold (known_of a to))) in
      changed a.known to peer (hold_proposed hold) there ∙ ap (λ (k : Adjacency). if to == peer then hold_proposed hold k else k) (is.peers peer there);
  numbered = ap id_after is.numbered;
}
deeds_kept (heard from hold) history a is = record {
  peers = λ peer within.
      let there : peer < length a.known = omega (arith, within, length-set a.known from (refreshed hold (known_of a from))) in
      changed a.known from peer (refreshed hold) there ∙ ap (λ (k : Adjacency). if from == peer then refreshed hold k else k) (is.peers peer there);
  numbered = is.numbered;
}
deeds_kept ticked history a is = record {
  peers = λ peer within.
      let there : peer < length a.known = omega (arith, within, length-map a.known adjacency_aged) in
      mapped adjacency_aged a.known peer unknown there ∙ ap adjacency_aged (is.peers peer there);
  numbered = is.numbered;
}
