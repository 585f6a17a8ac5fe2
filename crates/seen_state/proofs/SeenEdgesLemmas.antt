-- What is seen, with another end or another wire, is what a trace shows of it.
use Rattle.std.proofs.Common.{◌≡◌, ◌==◌, ◌<◌, ◌+◌, ◌&&◌, ◌++◌, ◌∷◌, ◌∙◌, [], ℕ, Bool, true, false, List, Option, Some, None, cond, refl, ap, sym, subst, arith, length, take, drop, slice_index_or, slice_set}
use Rattle.std.proofs.lemmas.Bool.{eqb-true}
use Rattle.std.proofs.lemmas.List.{get_or_default}
use Rattle.net_values.proofs.BoolLemmas.{and_turned}
use Rattle.seen_network.specs.Seen.{Seen, SeenCopy, at, at_both, cut, delivers, end_goes, said_towards, repeats, with_copies, with_octets, with_on, with_rest, with_standing, with_up, without_copy, without_edge}
use Rattle.seen_state.specs.PeerEnd.{EndSeen, no_end, taken_from_way}
use Rattle.seen_state.specs.SeenEdges.{EdgeSeen, IsWhole, ShowsEdges, SeenEdgeLists, edge_seen, end_seen, unseen_edge, shown_with}
use Rattle.seen_state.proofs.RowLemmas.{set_at}

-- with another end
abbrev pub with_end : ℕ → ℕ → EndSeen → SeenEdgeLists → SeenEdgeLists
with_end me peer end seen_edges = record seen_edges { edges = slice_set seen_edges.edges me (record (edge_seen seen_edges me) { ends = slice_set (edge_seen seen_edges me).ends peer end }) }

-- the end is there, and the others are as they were
end_at : (s : SeenEdgeLists) (me peer : ℕ) (v : EndSeen) (i j : ℕ) → me < length s.edges → peer < length (edge_seen s me).ends
    → end_seen (with_end me peer v s) i j ≡ cond (i == me && j == peer) v (end_seen s i j)
end_at s me peer v i j h g =
    ap (λ (e : EdgeSeen). slice_index_or e.ends j no_end) (set_at unseen_edge s.edges me (record (edge_seen s me) { ends = slice_set (edge_seen s me).ends peer v }) i h)
    ∙ by (i == me) refl (j == peer) refl where
      by : (a : Bool) → (i == me) ≡ a → (b : Bool) → (j == peer) ≡ b
          → slice_index_or (cond a (record (edge_seen s me) { ends = slice_set (edge_seen s me).ends peer v }) (edge_seen s i)).ends j no_end ≡ cond (a && b) v (end_seen s i j)
      by false away b h2 = refl
      by true here b is = set_at no_end (edge_seen s me).ends peer v j g ∙ (ap (λ (b : Bool). cond b v (end_seen s me j)) is ∙ ap (λ (k : ℕ). cond b v (end_seen s k j)) (sym (eqb-true i me here)))

-- what is read of it
read_end : {X : Type 0} (f : EndSeen → X) (s : SeenEdgeLists) (me peer : ℕ) (v : EndSeen) (i j : ℕ) → me < length s.edges → peer < length (edge_seen s me).ends
    → f (end_seen (with_end me peer v s) i j) ≡ cond (i == me && j == peer) (f v) (f (end_seen s i j))
read_end f s me peer v i j h g = ap f (end_at s me peer v i j h g) ∙ by (i == me && j == peer) where
  by : (b : Bool) → f (cond b v (end_seen s i j)) ≡ cond b (f v) (f (end_seen s i j))
  by true = refl
  by false = refl

-- the wires are as they were
up_kept : (s : SeenEdgeLists) (me peer : ℕ) (v : EndSeen) (i : ℕ) → me < length s.edges → (edge_seen (with_end me peer v s) i).up ≡ (edge_seen s i).up
up_kept s me peer v i h = ap (λ (e : EdgeSeen). e.up) (set_at unseen_edge s.edges me (record (edge_seen s me) { ends = slice_set (edge_seen s me).ends peer v }) i h) ∙ by (i == me) refl where
  by : (a : Bool) → (i == me) ≡ a → (cond a (record (edge_seen s me) { ends = slice_set (edge_seen s me).ends peer v }) (edge_seen s i)).up ≡ (edge_seen s i).up
  by true here = ap (λ (k : ℕ). (edge_seen s k).up) (sym (eqb-true i me here))
  by false away = refl

-- a map with the value at a place put there is the same map
same_both : {X : Type 0} (m : ℕ → ℕ → X) (a b : ℕ) (v : X) → m a b ≡ v → (i j : ℕ) → cond (i == a && j == b) v (m i j) ≡ m i j
same_both m a b v is i j = by (i == a) refl (j == b) refl where
  by : (p : Bool) → (i == a) ≡ p → (q : Bool) → (j == b) ≡ q → cond (p && q) v (m i j) ≡ m i j
  by false away q at = refl
  by true here false away = refl
  by true here true at = sym is ∙ (ap (λ (k : ℕ). m k b) (sym (eqb-true i a here)) ∙ ap (λ (k : ℕ). m i k) (sym (eqb-true j b at)))

-- with an end all of which is another one
abbrev put_all : ℕ → ℕ → EndSeen → Seen → Seen
put_all me peer v seen = record seen { stands = at_both seen.stands me peer v.stands; pipes = at_both seen.pipes peer me v.way; rests = at_both seen.rests me peer v.rest }

shown_end : (s : SeenEdgeLists) (copies : List SeenCopy) (me peer : ℕ) (v : EndSeen) → me < length s.edges → peer < length (edge_seen s me).ends
    → shown_with (with_end me peer v s) copies ≡ put_all me peer v (shown_with s copies)
unfolding shown_with
shown_end s copies me peer v h g = λ z. record {
  stands = λ i j. read_end (λ (e : EndSeen). e.stands) s me peer v i j h g z;
  pipes = λ i j. (read_end (λ (e : EndSeen). e.way) s me peer v j i h g ∙ ap (λ (b : Bool). cond b v.way (end_seen s j i).way) (and_turned (j == me) (i == peer))) z;
  rests = λ i j. read_end (λ (e : EndSeen). e.rest) s me peer v i j h g z;
  up = λ i j. ap (λ (u : List Bool). slice_index_or u j false) (up_kept s me peer v i h) z;
  on = λ i. slice_index_or s.on i true;
  under_way = copies;
}

-- one that stands
pub stood_up : (s : SeenEdgeLists) (seen : Seen) (me peer : ℕ) → me < length s.edges → peer < length (edge_seen s me).ends → ShowsEdges s seen
    → ShowsEdges (with_end me peer (record (end_seen s me peer) { stands = true }) s) (with_standing me peer true seen)
unfolding with_standing shown_with
stood_up s seen me peer h g shows =
    shown_end s seen.under_way me peer (record (end_seen s me peer) { stands = true }) h g
    ∙ ((λ z. record {
      stands = at_both (shown_with s seen.under_way).stands me peer true;
      pipes = λ i j. same_both (shown_with s seen.under_way).pipes peer me (end_seen s me peer).way refl i j z;
      rests = λ i j. same_both (shown_with s seen.under_way).rests me peer (end_seen s me peer).rest refl i j z;
      up = (shown_with s seen.under_way).up;
      on = (shown_with s seen.under_way).on;
      under_way = seen.under_way;
    })
    ∙ ap (with_standing me peer true) shows)

-- one that goes
pub gone_away : (s : SeenEdgeLists) (seen : Seen) (me peer : ℕ) → me < length s.edges → peer < length (edge_seen s me).ends → ShowsEdges s seen
    → ShowsEdges (with_end me peer no_end s) (end_goes me peer seen)
unfolding with_standing with_octets with_rest
gone_away s seen me peer h g shows = shown_end s seen.under_way me peer no_end h g ∙ ap (end_goes me peer) shows

-- one of which nothing changes
unchanged : (s : SeenEdgeLists) (seen : Seen) (me peer : ℕ) → put_all me peer (end_seen s me peer) (shown_with s seen.under_way) ≡ shown_with s seen.under_way
unfolding shown_with
unchanged s seen me peer = λ z. record {
  stands = λ i j. same_both (shown_with s seen.under_way).stands me peer (end_seen s me peer).stands refl i j z;
  pipes = λ i j. same_both (shown_with s seen.under_way).pipes peer me (end_seen s me peer).way refl i j z;
  rests = λ i j. same_both (shown_with s seen.under_way).rests me peer (end_seen s me peer).rest refl i j z;
  up = (shown_with s seen.under_way).up;
  on = (shown_with s seen.under_way).on;
  under_way = seen.under_way;
}

-- one towards which octets are put
more_way : (s : SeenEdgeLists) (seen : Seen) (me peer : ℕ) (octets : List ℕ)
    → put_all me peer (record (end_seen s me peer) { way = (end_seen s me peer).way ++ octets }) (shown_with s seen.under_way)
    ≡ with_octets peer me ((shown_with s seen.under_way).pipes peer me ++ octets) (shown_with s seen.under_way)
unfolding with_octets shown_with
more_way s seen me peer octets = λ z. record {
  stands = λ i j. same_both (shown_with s seen.under_way).stands me peer (end_seen s me peer).stands refl i j z;
  pipes = at_both (shown_with s seen.under_way).pipes peer me ((end_seen s me peer).way ++ octets);
  rests = λ i j. same_both (shown_with s seen.under_way).rests me peer (end_seen s me peer).rest refl i j z;
  up = (shown_with s seen.under_way).up;
  on = (shown_with s seen.under_way).on;
  under_way = seen.under_way;
}

stands_of : (s : SeenEdgeLists) (seen : Seen) (me peer : ℕ) → ShowsEdges s seen → (end_seen s me peer).stands ≡ seen.stands me peer
unfolding shown_with
stands_of s seen me peer shows = ap (λ (x : Seen). x.stands me peer) shows

pub put_on_way : (s : SeenEdgeLists) (seen : Seen) (me peer : ℕ) (octets : List ℕ) → me < length s.edges → peer < length (edge_seen s me).ends → ShowsEdges s seen
    → ShowsEdges (with_end me peer (cond (end_seen s me peer).stands (record (end_seen s me peer) { way = (end_seen s me peer).way ++ octets }) (end_seen s me peer)) s)
    (said_towards peer me octets seen)
unfolding with_octets
put_on_way s seen me peer octets h g shows = by (end_seen s me peer).stands (stands_of s seen me peer shows) where
  by : (b : Bool) → b ≡ seen.stands me peer
      → ShowsEdges (with_end me peer (cond b (record (end_seen s me peer) { way = (end_seen s me peer).way ++ octets }) (end_seen s me peer)) s) (said_towards peer me octets seen)
  by true is = rw (sym is) (shown_end s seen.under_way me peer (record (end_seen s me peer) { way = (end_seen s me peer).way ++ octets }) h g
      ∙ (more_way s seen me peer octets ∙ ap (λ (x : Seen). with_octets peer me (x.pipes peer me ++ octets) x) shows))
  by false is = rw (sym is) (shown_end s seen.under_way me peer (end_seen s me peer) h g ∙ (unchanged s seen me peer ∙ shows))

-- one of which octets are taken
less_way : (s : SeenEdgeLists) (seen : Seen) (me peer count : ℕ)
    → put_all me peer (taken_from_way count (end_seen s me peer)) (shown_with s seen.under_way) ≡ delivers peer me count (shown_with s seen.under_way)
unfolding taken_from_way with_octets with_rest shown_with
less_way s seen me peer count = λ z. record {
  stands = λ i j. same_both (shown_with s seen.under_way).stands me peer (end_seen s me peer).stands refl i j z;
  pipes = at_both (shown_with s seen.under_way).pipes peer me (drop count (end_seen s me peer).way);
  rests = at_both (shown_with s seen.under_way).rests me peer (cut ((end_seen s me peer).rest ++ take count (end_seen s me peer).way));
  up = (shown_with s seen.under_way).up;
  on = (shown_with s seen.under_way).on;
  under_way = seen.under_way;
}

pub taken_from : (s : SeenEdgeLists) (seen : Seen) (me peer count : ℕ) → me < length s.edges → peer < length (edge_seen s me).ends → ShowsEdges s seen
    → ShowsEdges (with_end me peer (taken_from_way count (end_seen s me peer)) s) (delivers peer me count seen)
unfolding with_octets with_rest
taken_from s seen me peer count h g shows = shown_end s seen.under_way me peer (taken_from_way count (end_seen s me peer)) h g ∙ (less_way s seen me peer count ∙ ap (delivers peer me count) shows)

-- ---- a whole edge, a wire, a circuit

abbrev pub with_edge : ℕ → EdgeSeen → SeenEdgeLists → SeenEdgeLists
with_edge me edge seen_edges = record seen_edges { edges = slice_set seen_edges.edges me edge }

read_edge : {X : Type 0} (f : EdgeSeen → X) (s : SeenEdgeLists) (me : ℕ) (e : EdgeSeen) (i : ℕ) → me < length s.edges → f (edge_seen (with_edge me e s) i) ≡ cond (i == me) (f e) (f (edge_seen s i))
read_edge f s me e i h = ap f (set_at unseen_edge s.edges me e i h) ∙ by (i == me) where
  by : (b : Bool) → f (cond b e (edge_seen s i)) ≡ cond b (f e) (f (edge_seen s i))
  by true = refl
  by false = refl

under : {X : Type 0} (b : Bool) (x y z : X) → x ≡ y → cond b x z ≡ cond b y z
under true x y z e = e
under false x y z e = refl

pub restarted_edge : (s : SeenEdgeLists) (seen : Seen) (me : ℕ) (e : EdgeSeen) → me < length s.edges
    → ((k : ℕ) → slice_index_or e.ends k no_end ≡ no_end) → ((k : ℕ) → slice_index_or e.up k false ≡ false) → ShowsEdges s seen → ShowsEdges (with_edge me e s) (without_edge me seen)
unfolding shown_with without_edge
restarted_edge s seen me e h ends ups shows = fresh ∙ ap (without_edge me) shows where
  fresh : shown_with (with_edge me e s) seen.under_way ≡ without_edge me (shown_with s seen.under_way)
  fresh = λ z. record {
    stands = λ i j. (read_edge (λ (x : EdgeSeen). (slice_index_or x.ends j no_end).stands) s me e i h
        ∙ under (i == me) (slice_index_or e.ends j no_end).stands false (end_seen s i j).stands (ap (λ (x : EndSeen). x.stands) (ends j))) z;
    pipes = λ i j. (read_edge (λ (x : EdgeSeen). (slice_index_or x.ends i no_end).way) s me e j h
        ∙ under (j == me) (slice_index_or e.ends i no_end).way [] (end_seen s j i).way (ap (λ (x : EndSeen). x.way) (ends i))) z;
    rests = λ i j. (read_edge (λ (x : EdgeSeen). (slice_index_or x.ends j no_end).rest) s me e i h
        ∙ under (i == me) (slice_index_or e.ends j no_end).rest [] (end_seen s i j).rest (ap (λ (x : EndSeen). x.rest) (ends j))) z;
    up = λ i j. (read_edge (λ (x : EdgeSeen). slice_index_or x.up j false) s me e i h ∙ under (i == me) (slice_index_or e.up j false) false (slice_index_or (edge_seen s i).up j false) (ups j)) z;
    on = λ i. slice_index_or s.on i true;
    under_way = seen.under_way;
  }

-- a part of the edge that stays as it is
part_kept : {X : Type 0} (f : EdgeSeen → X) (s : SeenEdgeLists) (me : ℕ) (e : EdgeSeen) (i : ℕ) → me < length s.edges → f e ≡ f (edge_seen s me) → f (edge_seen (with_edge me e s) i) ≡ f (edge_seen s i)
part_kept f s me e i h same = read_edge f s me e i h ∙ by (i == me) refl where
  by : (b : Bool) → (i == me) ≡ b → cond b (f e) (f (edge_seen s i)) ≡ f (edge_seen s i)
  by true here = same ∙ ap (λ (k : ℕ). f (edge_seen s k)) (sym (eqb-true i me here))
  by false away = refl

pub wire_set : (s : SeenEdgeLists) (seen : Seen) (me wire : ℕ) (v : Bool) → me < length s.edges → wire < length (edge_seen s me).up → ShowsEdges s seen
    → ShowsEdges (with_edge me (record (edge_seen s me) { up = slice_set (edge_seen s me).up wire v }) s) (with_up me wire v seen)
unfolding shown_with with_up
wire_set s seen me wire v h g shows = set_one ∙ ap (with_up me wire v) shows where
  e : EdgeSeen
  e = record (edge_seen s me) { up = slice_set (edge_seen s me).up wire v }

  ups : (i j : ℕ) → slice_index_or (edge_seen (with_edge me e s) i).up j false ≡ cond (i == me && j == wire) v (slice_index_or (edge_seen s i).up j false)
  ups i j = read_edge (λ (x : EdgeSeen). slice_index_or x.up j false) s me e i h ∙ by (i == me) refl where
    by : (b : Bool) → (i == me) ≡ b → cond b (slice_index_or e.up j false) (slice_index_or (edge_seen s i).up j false) ≡ cond (b && j == wire) v (slice_index_or (edge_seen s i).up j false)
    by false away = refl
    by true here = set_at false (edge_seen s me).up wire v j g ∙ ap (λ (k : ℕ). cond (j == wire) v (slice_index_or (edge_seen s k).up j false)) (sym (eqb-true i me here))

  set_one : shown_with (with_edge me e s) seen.under_way ≡ with_up me wire v (shown_with s seen.under_way)
  set_one = λ z. record {
    stands = λ i j. part_kept (λ (x : EdgeSeen). (slice_index_or x.ends j no_end).stands) s me e i h refl z;
    pipes = λ i j. part_kept (λ (x : EdgeSeen). (slice_index_or x.ends i no_end).way) s me e j h refl z;
    rests = λ i j. part_kept (λ (x : EdgeSeen). (slice_index_or x.ends j no_end).rest) s me e i h refl z;
    up = λ i j. ups i j z;
    on = λ i. slice_index_or s.on i true;
    under_way = seen.under_way;
  }

pub circuit_set : (s : SeenEdgeLists) (seen : Seen) (circuit : ℕ) (v : Bool) → circuit < length s.on → ShowsEdges s seen
    → ShowsEdges (record s { on = slice_set s.on circuit v }) (with_on circuit v seen)
unfolding shown_with with_on
circuit_set s seen circuit v h shows = set_one ∙ ap (with_on circuit v) shows where
  set_one : shown_with (record s { on = slice_set s.on circuit v }) seen.under_way ≡ with_on circuit v (shown_with s seen.under_way)
  set_one = λ z. record {
    stands = (shown_with s seen.under_way).stands;
    pipes = (shown_with s seen.under_way).pipes;
    rests = (shown_with s seen.under_way).rests;
    up = (shown_with s seen.under_way).up;
    on = λ i. set_at true s.on circuit v i h z;
    under_way = seen.under_way;
  }

-- whatever is under way
pub other_copies : (s : SeenEdgeLists) (seen : Seen) (copies : List SeenCopy) → ShowsEdges s seen → ShowsEdges s (with_copies copies seen)
unfolding shown_with with_copies
other_copies s seen copies shows = other ∙ ap (with_copies copies) shows where
  other : shown_with s copies ≡ with_copies copies (shown_with s seen.under_way)
  other = refl

pub repeats_shown : (s : SeenEdgeLists) (seen : Seen) (number : ℕ) (origin : Option ℕ) → ShowsEdges s seen → ShowsEdges s (repeats number origin seen)
repeats_shown s seen number None shows = shows
repeats_shown s seen number (Some origin) shows = other_copies s seen (without_copy number seen.under_way ++ record { number = number; origin = origin } ∷ []) shows

pub ruleset any_copies = (other_copies, repeats_shown)

-- ---- what the calls say

-- an end that was read and put back
pub one_end : (f : EndSeen → EndSeen) (g : Seen → Seen) (me peer : ℕ)
    → ((s : SeenEdgeLists) (seen : Seen) → me < length s.edges → peer < length (edge_seen s me).ends → ShowsEdges s seen → ShowsEdges (with_end me peer (f (end_seen s me peer)) s) (g seen))
    → (before now : SeenEdgeLists) (row raw : EdgeSeen) (one v : EndSeen) → before ≡ now → IsWhole before → me < now.sizes.edges → peer < now.sizes.edges
    → raw ≡ row → row ≡ slice_index_or before.edges me row → one ≡ slice_index_or raw.ends peer one → v ≡ f one
    → (seen : Seen) → ShowsEdges now seen → ShowsEdges (record before { edges = slice_set before.edges me (record raw { ends = slice_set raw.ends peer v }) }) (g seen)
one_end f g me peer law before now row raw one v same whole mine his raw_is read read_one is seen shows =
    subst (λ (x : SeenEdgeLists). ShowsEdges x (g seen)) (sym lists) (law before seen within inside (subst (λ (x : SeenEdgeLists). ShowsEdges x seen) (sym same) shows)) where
      below : me < before.sizes.edges
      below = subst (λ (x : SeenEdgeLists). me < x.sizes.edges) (sym same) mine

      within : me < length before.edges
      within = omega (arith, below, whole.edges)

      row_is : raw ≡ edge_seen before me
      row_is = raw_is ∙ (read ∙ get_or_default before.edges me row unseen_edge within)

      inside : peer < length (edge_seen before me).ends
      inside = omega (arith, subst (λ (x : SeenEdgeLists). peer < x.sizes.edges) (sym same) his, whole.ends me below)

      one_is : one ≡ end_seen before me peer
      one_is = read_one ∙ (ap (λ (x : EdgeSeen). slice_index_or x.ends peer one) row_is ∙ get_or_default (edge_seen before me).ends peer one no_end inside)

      lists : record before { edges = slice_set before.edges me (record raw { ends = slice_set raw.ends peer v }) } ≡ with_end me peer (f (end_seen before me peer)) before
      lists = ap (λ (x : EdgeSeen). record before { edges = slice_set before.edges me (record x { ends = slice_set x.ends peer v }) }) row_is
          ∙ ap (λ (x : EndSeen). with_end me peer x before) (is ∙ ap f one_is)

-- a wire that was read and put back
pub one_wire : (me wire : ℕ) (v : Bool) (before now : SeenEdgeLists) (row raw : EdgeSeen) → before ≡ now → IsWhole before → me < now.sizes.edges → wire < now.sizes.wires
    → raw ≡ row → row ≡ slice_index_or before.edges me row
    → (seen : Seen) → ShowsEdges now seen → ShowsEdges (record before { edges = slice_set before.edges me (record raw { up = slice_set raw.up wire v }) }) (with_up me wire v seen)
one_wire me wire v before now row raw same whole mine its raw_is read seen shows =
    subst (λ (x : EdgeSeen). ShowsEdges (record before { edges = slice_set before.edges me (record x { up = slice_set x.up wire v }) }) (with_up me wire v seen)) (sym row_is)
    (wire_set before seen me wire v within inside (subst (λ (x : SeenEdgeLists). ShowsEdges x seen) (sym same) shows)) where
      below : me < before.sizes.edges
      below = subst (λ (x : SeenEdgeLists). me < x.sizes.edges) (sym same) mine

      within : me < length before.edges
      within = omega (arith, below, whole.edges)

      row_is : raw ≡ edge_seen before me
      row_is = raw_is ∙ (read ∙ get_or_default before.edges me row unseen_edge within)

      inside : wire < length (edge_seen before me).up
      inside = omega (arith, subst (λ (x : SeenEdgeLists). wire < x.sizes.wires) (sym same) its, whole.wires me below)
