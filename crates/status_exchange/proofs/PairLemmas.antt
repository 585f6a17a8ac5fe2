-- Two edges and a wire between them, and what a step of other edges leaves as it was.
use Rattle.std.proofs.Common.{◌≡◌, ◌==◌, ◌&&◌, ◌||◌, ◌⊎◌, ◌++◌, ◌∙◌, ℕ, Bool, true, false, List, [], Option, None, is_some, if◌then◌else◌, refl, sym, ap, subst, arith, inl, inr, ⊎_elim}
use Rattle.std.proofs.lemmas.Bool.Decides.{nat_tests}
use Rattle.std.proofs.lemmas.Bool.{eqb-true}
use Rattle.net_values.proofs.BoolLemmas.{true_clash}
use Rattle.net_values.proofs.NumberLemmas.{apart_back, two_same, turned_away}
use Rattle.pw_tlvs.specs.declared.pw_status.PwStatus.{PwStatus}
use Rattle.status_exchange.specs.declared.wish.Wish.{Wish}
use Rattle.status_exchange.specs.Exchange.{EdgeStatuses, Exchange, IsWiring, StatusWork, StatusMessage, Wiring, exchange_absorb, put_at_place, at_two, exchange_clears, is_exchange_connected}
use Rattle.status_exchange.specs.Laws.{of_wire}
use Rattle.status_exchange.specs.Line.{IsLine, status_after}
use Rattle.status_exchange.proofs.LineLemmas.{turned}
use Rattle.status_exchange.proofs.StatusLemmas.{AllTold, at_other, at_same}

-- ---- what is kept

-- of a wire between two edges, of which the one is called near: what they call it and know of each other, whether each is connected,
-- what is on its way, and what was heard
pub record PairOf (near far : Wish) (near_knows far_knows : Option PwStatus) (one other : Bool) (out back out_heard back_heard : List StatusMessage) (wire : ℕ) : Type 0 where
  pub line : one ≡ true → IsLine near far near_knows far_knows (of_wire wire out) (of_wire wire back)
  pub near_last : near_knows ≡ status_after (of_wire wire back_heard) None
  pub far_last : far_knows ≡ status_after (of_wire wire out_heard) None
  pub gone : one ≡ false → (near_knows ≡ None) × (far_knows ≡ None)
  pub both : one ≡ other

abbrev pub IsPair : Exchange → ℕ → ℕ → ℕ → Type 0
IsPair x a b k = PairOf ((x.edges a).local k) ((x.edges b).local k) ((x.edges a).remote k) ((x.edges b).remote k) (is_exchange_connected x a b) (is_exchange_connected x b a) (x.ways a b) (x.ways b a)
    (x.heard a b) (x.heard b a) k

-- what is on its way between two edges
pub record WayOf (one other : Bool) (out : List StatusMessage) (test : ℕ → Bool) : Type 0 where
  pub both : one ≡ other
  pub none : one ≡ false → out ≡ []
  pub between : AllTold test out

abbrev pub IsWay : Wiring → Exchange → ℕ → ℕ → Type 0
IsWay w x a b = WayOf (is_exchange_connected x a b) (is_exchange_connected x b a) (x.ways a b) (λ k. w.joins k a b)

pub record Holds (w : Wiring) (x : Exchange) : Type 0 where
  pub pairs : (a b k : ℕ) → w.joins k a b ≡ true → IsPair x a b k
  pub ways : (a b : ℕ) → IsWay w x a b

pub pair_turned : (near far : Wish) (near_knows far_knows : Option PwStatus) (one other : Bool) (out back out_heard back_heard : List StatusMessage) (k : ℕ)
    → PairOf near far near_knows far_knows one other out back out_heard back_heard k → PairOf far near far_knows near_knows other one back out back_heard out_heard k
pair_turned near far near_knows far_knows one other out back out_heard back_heard k p = record {
  line = λ there. turned near far near_knows far_knows (of_wire k out) (of_wire k back) (p.line (p.both ∙ there));
  near_last = p.far_last;
  far_last = p.near_last;
  gone = λ none. ((p.gone (p.both ∙ none)).1, (p.gone (p.both ∙ none)).0);
  both = sym p.both;
}

-- ---- two edges and others

abbrev pub is_two : ℕ → ℕ → ℕ → ℕ → Bool
is_two a b c d = (a == c && b == d) || (a == d && b == c)

-- nothing changes but of the wires between two edges
pub record Frame (w : Wiring) (me peer : ℕ) (x y : Exchange) : Type 0 where
  pub local : (e k : ℕ) → w.joins k me peer ≡ false → (y.edges e).local k ≡ (x.edges e).local k
  pub remote : (e k : ℕ) → w.joins k me peer ≡ false → (y.edges e).remote k ≡ (x.edges e).remote k
  pub next : (a b : ℕ) → is_two a b me peer ≡ false → is_exchange_connected y a b ≡ is_exchange_connected x a b
  pub ways : (a b : ℕ) → is_two a b me peer ≡ false → y.ways a b ≡ x.ways a b
  pub heard : (a b : ℕ) → is_two a b me peer ≡ false → y.heard a b ≡ x.heard a b

pub frame_both : (w : Wiring) (me peer : ℕ) (x y z : Exchange) → Frame w me peer x y → Frame w me peer y z → Frame w me peer x z
frame_both w me peer x y z one two = record {
  local = λ e k away. two.local e k away ∙ one.local e k away;
  remote = λ e k away. two.remote e k away ∙ one.remote e k away;
  next = λ a b away. two.next a b away ∙ one.next a b away;
  ways = λ a b away. two.ways a b away ∙ one.ways a b away;
  heard = λ a b away. two.heard a b away ∙ one.heard a b away;
}

two_turned : (a b c d : ℕ) → is_two a b c d ≡ is_two a b d c
two_turned a b c d = grind (arith)

two_swapped : (a b c d : ℕ) → is_two a b c d ≡ is_two b a c d
two_swapped a b c d = grind (arith)

joins_not : (w : Wiring) → IsWiring w → (k a b : ℕ) → w.joins k a b ≡ false → w.joins k b a ≡ false
joins_not w laws k a b away = by (w.joins k b a) refl
  where
    by : (t : Bool) → w.joins k b a ≡ t → w.joins k b a ≡ false
    by true is = true_clash (sym (laws.turned k b a is) ∙ away)
    by false is = is

pub frame_turned : (w : Wiring) → IsWiring w → (me peer : ℕ) (x y : Exchange) → Frame w me peer x y → Frame w peer me x y
frame_turned w laws me peer x y f = record {
  local = λ e k away. f.local e k (joins_not w laws k peer me away);
  remote = λ e k away. f.remote e k (joins_not w laws k peer me away);
  next = λ a b away. f.next a b (two_turned a b me peer ∙ away);
  ways = λ a b away. f.ways a b (two_turned a b me peer ∙ away);
  heard = λ a b away. f.heard a b (two_turned a b me peer ∙ away);
}

-- ---- what is kept of two edges is kept of all

two_are : (a b c d : ℕ) → is_two a b c d ≡ true → ((a ≡ c) × (b ≡ d)) ⊎ ((a ≡ d) × (b ≡ c))
two_are a b c d is = by (a == c && b == d) refl
  where
    one : (p q r s : ℕ) → (p == q && r == s) ≡ true → (p ≡ q) × (r ≡ s)
    one p q r s both = (grind (arith, nat_tests, both), grind (arith, nat_tests, both))

    by : (t : Bool) → (a == c && b == d) ≡ t → ((a ≡ c) × (b ≡ d)) ⊎ ((a ≡ d) × (b ≡ c))
    by true first = inl (one a c b d first)
    by false first = inr (one a d b c (grind (arith, first, is)))

not_two : (w : Wiring) → IsWiring w → (k a b c d : ℕ) → w.joins k a b ≡ true → w.joins k c d ≡ false → is_two a b c d ≡ false
not_two w laws k a b c d is away = by (is_two a b c d) refl
  where
    same : ((a ≡ c) × (b ≡ d)) ⊎ ((a ≡ d) × (b ≡ c)) → is_two a b c d ≡ false
    same h = ⊎_elim
        (λ (e : (a ≡ c) × (b ≡ d)). true_clash (sym (subst (λ (n : ℕ). w.joins k c n ≡ true) e.1 (subst (λ (n : ℕ). w.joins k n b ≡ true) e.0 is)) ∙ away))
        (λ (e : (a ≡ d) × (b ≡ c)). true_clash (sym (laws.turned k d c (subst (λ (n : ℕ). w.joins k d n ≡ true) e.1 (subst (λ (n : ℕ). w.joins k n b ≡ true) e.0 is))) ∙ away))
        h

    by : (t : Bool) → is_two a b c d ≡ t → is_two a b c d ≡ false
    by true two = same (two_are a b c d two)
    by false two = two

module _ (w : Wiring) (laws : IsWiring w) (me peer : ℕ) (x y : Exchange) (frame : Frame w me peer x y) (old : Holds w x) where
  other_pair : (a b k : ℕ) → w.joins k a b ≡ true → w.joins k me peer ≡ false → IsPair y a b k
  other_pair a b k is away =
      let here : is_two a b me peer ≡ false = not_two w laws k a b me peer is away in
      let back : is_two b a me peer ≡ false = sym (two_swapped a b me peer) ∙ here in
      rw (
        frame.local a k away,
        frame.local b k away,
        frame.remote a k away,
        frame.remote b k away,
        frame.next a b here,
        frame.next b a back,
        frame.ways a b here,
        frame.ways b a back,
        frame.heard a b here,
        frame.heard b a back,
      )
      (old.pairs a b k is)

  other_way : (a b : ℕ) → is_two a b me peer ≡ false → IsWay w y a b
  other_way a b here =
      let back : is_two b a me peer ≡ false = sym (two_swapped a b me peer) ∙ here in
      rw (frame.next a b here, frame.next b a back, frame.ways a b here) (old.ways a b)

  pub kept : ((k : ℕ) → w.joins k me peer ≡ true → IsPair y me peer k) → IsWay w y me peer → IsWay w y peer me → Holds w y
  kept pair way back = record {
    pairs = λ a b k is. by_wire a b k is (w.joins k me peer) refl;
    ways = λ a b. by_two a b (is_two a b me peer) refl;
  }
    where
      same_pair : (a b k : ℕ) → w.joins k me peer ≡ true → ((a ≡ me) × (b ≡ peer)) ⊎ ((a ≡ peer) × (b ≡ me)) → IsPair y a b k
      same_pair a b k is h = ⊎_elim
          (λ (e : (a ≡ me) × (b ≡ peer)). rw (e.0, e.1) (pair k is))
          (λ (e : (a ≡ peer) × (b ≡ me)). rw (e.0, e.1)
          (pair_turned ((y.edges me).local k) ((y.edges peer).local k) ((y.edges me).remote k) ((y.edges peer).remote k) (is_exchange_connected y me peer) (is_exchange_connected y peer me)
          (y.ways me peer) (y.ways peer me) (y.heard me peer) (y.heard peer me) k (pair k is)))
          h

      by_wire : (a b k : ℕ) → w.joins k a b ≡ true → (t : Bool) → w.joins k me peer ≡ t → IsPair y a b k
      by_wire a b k is true at = same_pair a b k at (laws.two k a b me peer is at)
      by_wire a b k is false at = other_pair a b k is at

      same_way : (a b : ℕ) → ((a ≡ me) × (b ≡ peer)) ⊎ ((a ≡ peer) × (b ≡ me)) → IsWay w y a b
      same_way a b h = ⊎_elim (λ (e : (a ≡ me) × (b ≡ peer)). rw (e.0, e.1) way) (λ (e : (a ≡ peer) × (b ≡ me)). rw (e.0, e.1) back) h

      by_two : (a b : ℕ) (t : Bool) → is_two a b me peer ≡ t → IsWay w y a b
      by_two a b true two = same_way a b (two_are a b me peer two)
      by_two a b false two = other_way a b two

-- ---- parts of steps

pub two_at : {A : Type 0} (a b : ℕ) (value : A) (f : ℕ → ℕ → A) → at_two a b value f a b ≡ value
two_at a b value f = rw (two_same a b) refl

pub two_away : {A : Type 0} (a b j k : ℕ) (value : A) (f : ℕ → ℕ → A) → (j == a && k == b) ≡ false → at_two a b value f j k ≡ f j k
two_away a b j k value f away = rw away refl

one_away : (a b j k : ℕ) → is_two j k a b ≡ false → (j == a && k == b) ≡ false
one_away a b j k away = grind (arith, away)

other_away : (a b j k : ℕ) → is_two j k a b ≡ false → (j == b && k == a) ≡ false
other_away a b j k away = grind (arith, away)

pub clears_frame : (w : Wiring) (a b : ℕ) (x : Exchange) → Frame w a b x (exchange_clears a b x)
clears_frame w a b x = record {
  local = λ e k away. refl;
  remote = λ e k away. refl;
  next = λ j k away. refl;
  ways = λ j k away. cleared x.ways j k away;
  heard = λ j k away. cleared x.heard j k away;
}
  where
    cleared : (f : ℕ → ℕ → List StatusMessage) (j k : ℕ) → is_two j k a b ≡ false → at_two a b [] (at_two b a [] f) j k ≡ f j k
    cleared f j k away = two_away a b j k [] (at_two b a [] f) (one_away a b j k away) ∙ two_away b a j k [] f (other_away a b j k away)

-- an edge has changed nothing but for its wires with a peer
pub record Minds (w : Wiring) (me peer : ℕ) (old new : EdgeStatuses) : Type 0 where
  pub local : (k : ℕ) → w.joins k me peer ≡ false → new.local k ≡ old.local k
  pub remote : (k : ℕ) → w.joins k me peer ≡ false → new.remote k ≡ old.remote k
  pub others : (p : ℕ) → (p == peer) ≡ false → new.next p ≡ old.next p

pub edge_frame : (w : Wiring) (me peer : ℕ) (edge : EdgeStatuses) (x : Exchange) → Minds w me peer (x.edges me) edge → Frame w me peer x (record x { edges = put_at_place me edge x.edges })
edge_frame w me peer edge x minds = record {
  local = λ e k away. by_edge (λ (old new : EdgeStatuses). new.local k ≡ old.local k) e refl (minds.local k away);
  remote = λ e k away. by_edge (λ (old new : EdgeStatuses). new.remote k ≡ old.remote k) e refl (minds.remote k away);
  next = λ a b away. next a b away (a == me) refl;
  ways = λ a b away. refl;
  heard = λ a b away. refl;
}
  where
    by_edge : (P : EdgeStatuses → EdgeStatuses → Type 0) (e : ℕ) → P (x.edges e) (x.edges e) → P (x.edges me) edge → P (x.edges e) (put_at_place me edge x.edges e)
    by_edge P e same new = by (e == me) refl
      where
        by : (t : Bool) → (e == me) ≡ t → P (x.edges e) (if t then edge else x.edges e)
        by true is = subst (λ (n : ℕ). P (x.edges n) edge) (sym (eqb-true e me is)) new
        by false is = same

    next : (a b : ℕ) → is_two a b me peer ≡ false → (t : Bool) → (a == me) ≡ t → is_some ((put_at_place me edge x.edges a).next b) ≡ is_some ((x.edges a).next b)
    next a b away true is = rw is (ap is_some (minds.others b (grind (arith, away, is))) ∙ ap (λ (n : ℕ). is_some ((x.edges n).next b)) (sym (eqb-true a me is)))
    next a b away false is = rw is refl

pub absorb_frame : (w : Wiring) (me peer : ℕ) (t : StatusWork) (x : Exchange) → Minds w me peer (x.edges me) t.edge → Frame w me peer x (exchange_absorb me peer t x)
absorb_frame w me peer t x minds = record {
  local = frame.local;
  remote = frame.remote;
  next = frame.next;
  ways = λ a b away. two_away me peer a b (x.ways me peer ++ t.out) x.ways (one_away me peer a b away);
  heard = λ a b away. refl;
}
  where
    frame : Frame w me peer x (record x { edges = put_at_place me t.edge x.edges })
    frame = edge_frame w me peer t.edge x minds

-- an edge's work has gone in: what is kept of it and its peer
pub absorb_pair : (me peer k : ℕ) (t : StatusWork) (x : Exchange) → (me == peer) ≡ false
    → PairOf (t.edge.local k) ((x.edges peer).local k) (t.edge.remote k) ((x.edges peer).remote k) (is_some (t.edge.next peer)) (is_exchange_connected x peer me) (x.ways me peer ++ t.out)
    (x.ways peer me) (x.heard me peer) (x.heard peer me) k
    → IsPair (exchange_absorb me peer t x) me peer k
absorb_pair me peer k t x apart p =
    rw (
      at_same me t.edge x.edges,
      at_other me peer t.edge x.edges (apart_back me peer apart),
      two_at me peer (x.ways me peer ++ t.out) x.ways,
      two_away me peer peer me (x.ways me peer ++ t.out) x.ways (turned_away me peer apart),
    ) p

pub absorb_way : (w : Wiring) (me peer : ℕ) (t : StatusWork) (x : Exchange) → (me == peer) ≡ false
    → WayOf (is_some (t.edge.next peer)) (is_exchange_connected x peer me) (x.ways me peer ++ t.out) (λ k. w.joins k me peer) → IsWay w (exchange_absorb me peer t x) me peer
absorb_way w me peer t x apart p = rw (at_same me t.edge x.edges, at_other me peer t.edge x.edges (apart_back me peer apart), two_at me peer (x.ways me peer ++ t.out) x.ways) p

pub absorb_back : (w : Wiring) (me peer : ℕ) (t : StatusWork) (x : Exchange) → (me == peer) ≡ false
    → WayOf (is_exchange_connected x peer me) (is_some (t.edge.next peer)) (x.ways peer me) (λ k. w.joins k peer me) → IsWay w (exchange_absorb me peer t x) peer me
absorb_back w me peer t x apart p = rw (
  at_same me t.edge x.edges,
  at_other me peer t.edge x.edges (apart_back me peer apart),
  two_away me peer peer me (x.ways me peer ++ t.out) x.ways (turned_away me peer apart),
) p
