-- Each step keeps what is kept of two edges and a wire, and so does every run.
use Rattle.std.proofs.Common.{◌≡◌, ◌==◌, ◌&&◌, ◌++◌, ◌∙◌, ℕ, Bool, true, false, List, [], ◌∷◌, Option, Some, None, is_some, refl, sym, ap, subst, arith, append-nil, inl, inr}
use Rattle.std.proofs.lemmas.Bool.{cases_Bool, eqb-true}
use Rattle.net_values.proofs.BoolLemmas.{true_clash}
use Rattle.net_values.proofs.NumberLemmas.{equal_turned, apart_back, turned_away}
use Rattle.pw_tlvs.specs.declared.pw_status.PwStatus.{PwStatus}
use Rattle.status_exchange.specs.declared.wish.Wish.{Wish}
use Rattle.status_exchange.specs.declared.wish.Wish.TheVariants.{Active, Standby, Ask}
use Rattle.status_exchange.specs.Exchange.{Applies, Apply, EdgeStatuses, Exchange, IsWiring, Step, StatusWork, StatusMessage, Wiring, exchange_absorb, put_at_place, at_two, exchange_clears, exchange_connects, first, exchange_hears, heard_first, is_exchange_connected, exchange_learns, exchange_loses, exchange_run, exchange_sets, silent, exchange_step, Connects, Loses, Hears, Sets}
use Rattle.status_exchange.specs.Laws.{Agree, ExchangesAgree, IsExchangeAgreed, IsEnd, is_known_active, of_wire}
use Rattle.status_exchange.specs.Line.{IsLine, status_answer}
use Rattle.status_exchange.specs.Wish.{becomes, is_wished_active, is_ask, status_of}
use Rattle.status_exchange.proofs.LineLemmas as line
use Rattle.status_exchange.proofs.PairLemmas.{Frame, Holds, IsPair, Minds, PairOf, WayOf, absorb_back, absorb_frame, absorb_pair, absorb_way, clears_frame, edge_frame, frame_both, frame_turned, kept, two_at, two_away}
use Rattle.status_exchange.proofs.StatusLemmas.{AllTold, Stays, all_between, all_stay, all_told, at_other, at_same, hears_between, hears_other, hears_stay, hears_this, of_append, tells_between, tells_none, tells_other, tells_stay, tells_this, told_append}

-- another wire than one that joins two edges
other_wire : (w : Wiring) (j k a b : ℕ) → w.joins j a b ≡ true → w.joins k a b ≡ false → (k == j) ≡ false
other_wire w j k a b is away = by (k == j) refl
  where
    by : (t : Bool) → (k == j) ≡ t → (k == j) ≡ false
    by true same = true_clash (sym (subst (λ (n : ℕ). w.joins n a b ≡ true) (sym (eqb-true k j same)) is) ∙ away)
    by false same = same

-- ---- two edges that are not connected

none_pair : (near far : Wish) (k : ℕ) → PairOf near far None None false false [] [] [] [] k
none_pair near far k = record { line = λ there. true_clash (sym there); near_last = refl; far_last = refl; gone = λ none. (refl, refl); both = refl }

none_way : (test : ℕ → Bool) → WayOf false false [] test
none_way test = record { both = refl; none = λ gone. refl; between = tt }

-- more is told of other wires
more_told : (near far : Wish) (near_knows far_knows : Option PwStatus) (one other : Bool) (out back out_heard back_heard more : List StatusMessage) (k : ℕ) → of_wire k more ≡ []
    → PairOf near far near_knows far_knows one other out back out_heard back_heard k → PairOf near far near_knows far_knows one other (out ++ more) back out_heard back_heard k
more_told near far near_knows far_knows one other out back out_heard back_heard more k none p = record {
  line = λ there. rw (of_append k out more, none, append-nil (of_wire k out)) (p.line there);
  near_last = p.near_last;
  far_last = p.far_last;
  gone = p.gone;
  both = p.both;
}

module _ (w : Wiring) (laws : IsWiring w) where
  -- ---- a wire is called something else

  module _ (me peer j : ℕ) (wish : Wish) (x : Exchange) (is : w.joins j me peer ≡ true) (old : Holds w x) where
    abbrev called : EdgeStatuses
    called = record (x.edges me) { local = put_at_place j wish (x.edges me).local }

    abbrev statuses : StatusWork
    statuses = exchange_sets peer j wish (x.edges me)

    stay : Stays peer called statuses.edge
    stay = tells_stay peer j (silent called)

    minds : Minds w me peer (x.edges me) statuses.edge
    minds = record {
      local = λ k away. stay.local k ∙ at_other j k wish (x.edges me).local (other_wire w j k me peer is away);
      remote = λ k away. stay.remote k;
      others = stay.others;
    }

    apart : (me == peer) ≡ false
    apart = laws.apart j me peer is

    -- the other wires between the two
    set_other : (k : ℕ) → w.joins k me peer ≡ true → (k == j) ≡ false
        → PairOf (statuses.edge.local k) ((x.edges peer).local k) (statuses.edge.remote k) ((x.edges peer).remote k) (is_some (statuses.edge.next peer)) (is_exchange_connected x peer me)
        (x.ways me peer ++ statuses.out) (x.ways peer me) (x.heard me peer) (x.heard peer me) k
    set_other k joined away = rw (stay.local k, at_other j k wish (x.edges me).local away, stay.remote k, stay.there)
        (more_told ((x.edges me).local k) ((x.edges peer).local k) ((x.edges me).remote k) ((x.edges peer).remote k) (is_exchange_connected x me peer) (is_exchange_connected x peer me) (x.ways me peer)
        (x.ways peer me) (x.heard me peer) (x.heard peer me) statuses.out k
        (tells_other peer j k (silent called) (equal_turned j k ∙ away)) (old.pairs me peer k joined))

    -- the wire itself
    set_this : (k : ℕ) → w.joins k me peer ≡ true → (k == j) ≡ true
        → PairOf (statuses.edge.local k) ((x.edges peer).local k) (statuses.edge.remote k) ((x.edges peer).remote k) (is_some (statuses.edge.next peer)) (is_exchange_connected x peer me)
        (x.ways me peer ++ statuses.out) (x.ways peer me) (x.heard me peer) (x.heard peer me) k
    set_this k joined same =
        let now : put_at_place j wish (x.edges me).local k ≡ wish = rw same refl in
        let p = old.pairs me peer k joined in
        rw (stay.local k, now, stay.remote k, stay.there) (record {
          line = λ there.
              let told : of_wire k statuses.out ≡ wish ∷ [] = tells_this peer j k (silent called) there (equal_turned j k ∙ same) ∙ ap (λ (v : Wish). v ∷ []) (at_same j wish (x.edges me).local) in
              rw (of_append k (x.ways me peer) statuses.out, told)
              (line.sets ((x.edges me).local k) ((x.edges peer).local k) wish ((x.edges me).remote k) ((x.edges peer).remote k) (of_wire k (x.ways me peer))
              (of_wire k (x.ways peer me)) (p.line there));
          near_last = p.near_last;
          far_last = p.far_last;
          gone = p.gone;
          both = p.both;
        })

    set_none : is_exchange_connected x me peer ≡ false → x.ways me peer ++ statuses.out ≡ []
    set_none gone = rw ((old.ways me peer).none gone, tells_none peer j (silent called) gone) refl

    set_way : WayOf (is_some (statuses.edge.next peer)) (is_exchange_connected x peer me) (x.ways me peer ++ statuses.out) (λ k. w.joins k me peer)
    set_way = rw stay.there (record {
      both = (old.ways me peer).both;
      none = set_none;
      between = told_append (λ (k : ℕ). w.joins k me peer) (x.ways me peer) statuses.out (old.ways me peer).between (tells_between (λ (k : ℕ). w.joins k me peer) peer j (silent called) is tt);
    })

    sets_hold : Holds w (exchange_absorb me peer statuses x)
    sets_hold = kept w laws me peer x (exchange_absorb me peer statuses x) (absorb_frame w me peer statuses x minds) old
        (λ k joined. absorb_pair me peer k statuses x apart (elim (cases_Bool (k == j)) [
          | inl same ↦ set_this k joined same
          | inr away ↦ set_other k joined away
        ]))
        (absorb_way w me peer statuses x apart set_way)
        (absorb_back w me peer statuses x apart (rw stay.there (old.ways peer me)))

  -- ---- what comes next is heard

  module _ (from to : ℕ) (t : StatusMessage) (ts : List StatusMessage) (x : Exchange) (way : x.ways from to ≡ t ∷ ts) (old : Holds w x) where
    abbrev taken : Exchange
    taken = record x { ways = at_two from to ts x.ways; heard = at_two from to (x.heard from to ++ t ∷ []) x.heard }

    abbrev answering : StatusWork
    answering = exchange_hears from t.wire (status_of t.wish) (x.edges to)

    joined_first : w.joins t.wire from to ≡ true
    joined_first = (subst (AllTold (λ (k : ℕ). w.joins k from to)) way (old.ways from to).between).0

    joined_here : w.joins t.wire to from ≡ true
    joined_here = laws.turned t.wire from to joined_first

    rest_between : AllTold (λ k. w.joins k from to) ts
    rest_between = (subst (AllTold (λ (k : ℕ). w.joins k from to)) way (old.ways from to).between).1

    from_apart : (from == to) ≡ false
    from_apart = laws.apart t.wire from to joined_first

    to_apart : (to == from) ≡ false
    to_apart = laws.apart t.wire to from joined_here

    connected : is_exchange_connected x from to ≡ true
    connected = by (is_exchange_connected x from to) refl
      where
        no : t ∷ ts ≡ [] → ⊥
        no e = cc (e)

        by : (b : Bool) → is_exchange_connected x from to ≡ b → is_exchange_connected x from to ≡ true
        by true is = is
        by false is = absurd (no (sym way ∙ (old.ways from to).none is))

    here : is_exchange_connected x to from ≡ true
    here = (old.ways to from).both ∙ connected

    take_frame : Frame w from to x taken
    take_frame = record {
      local = λ e k away. refl;
      remote = λ e k away. refl;
      next = λ a b away. refl;
      ways = λ a b away. two_away from to a b ts x.ways (grind (arith, away));
      heard = λ a b away. two_away from to a b (x.heard from to ++ t ∷ []) x.heard (grind (arith, away));
    }

    heard_stay : Stays from (exchange_learns t.wire (status_of t.wish) (x.edges to)) answering.edge
    heard_stay = hears_stay from t.wire (status_of t.wish) (x.edges to)

    heard_minds : Minds w to from (x.edges to) answering.edge
    heard_minds = record {
      local = λ k away. heard_stay.local k ∙ at_other t.wire k (becomes (status_of t.wish) ((x.edges to).local t.wire)) (x.edges to).local (other_wire w t.wire k to from joined_here away);
      remote = λ k away. heard_stay.remote k ∙ at_other t.wire k (Some (status_of t.wish)) (x.edges to).remote (other_wire w t.wire k to from joined_here away);
      others = heard_stay.others;
    }

    taken_frame : Frame w to from x (exchange_absorb to from answering taken)
    taken_frame = frame_both w to from x taken (exchange_absorb to from answering taken) (frame_turned w laws from to x taken take_frame) (absorb_frame w to from answering taken heard_minds)

    abbrev HeardPair : ℕ → Type 0
    HeardPair k = PairOf (answering.edge.local k) ((x.edges from).local k) (answering.edge.remote k) ((x.edges from).remote k) (is_some (answering.edge.next from))
        (is_exchange_connected x from to) (x.ways to from ++ answering.out) ts (x.heard to from) (x.heard from to ++ t ∷ []) k

    heard_this : (k : ℕ) → w.joins k to from ≡ true → (k == t.wire) ≡ true → HeardPair k
    heard_this k joined same =
        let p = old.pairs to from k joined in
        let wire : t.wire ≡ k = sym (eqb-true k t.wire same) in
        let back : of_wire k (x.ways from to) ≡ t.wish ∷ of_wire k ts = rw (way, equal_turned t.wire k, same) refl in
        let local : answering.edge.local k ≡ becomes (status_of t.wish) ((x.edges to).local k) = heard_stay.local k ∙ rw (same, wire) refl in
        let remote : answering.edge.remote k ≡ Some (status_of t.wish) = heard_stay.remote k ∙ rw same refl in
        let said : of_wire k answering.out ≡ status_answer (status_of t.wish) ((x.edges to).local k) =
        hears_this from t.wire k (status_of t.wish) (x.edges to) here (equal_turned t.wire k ∙ same) ∙ rw wire refl in
        rw (local, remote, heard_stay.there) (record {
          line = λ there. rw (of_append k (x.ways to from) answering.out, said)
              (line.hears ((x.edges to).local k) ((x.edges from).local k) t.wish ((x.edges to).remote k) ((x.edges from).remote k) (of_wire k (x.ways to from)) (of_wire k ts)
              (subst (λ (l : List Wish). IsLine ((x.edges to).local k) ((x.edges from).local k) ((x.edges to).remote k) ((x.edges from).remote k) (of_wire k (x.ways to from)) l) back (p.line there)));
          near_last = rw (of_append k (x.heard from to) (t ∷ []), equal_turned t.wire k, same) (sym (line.after_more (of_wire k (x.heard from to)) t.wish None));
          far_last = p.far_last;
          gone = λ none. true_clash (sym here ∙ none);
          both = p.both;
        })

    heard_other : (k : ℕ) → w.joins k to from ≡ true → (k == t.wire) ≡ false → HeardPair k
    heard_other k joined away =
        let p = old.pairs to from k joined in
        let back : of_wire k (x.ways from to) ≡ of_wire k ts = rw (way, equal_turned t.wire k, away) refl in
        let local : answering.edge.local k ≡ (x.edges to).local k = heard_stay.local k ∙ at_other t.wire k (becomes (status_of t.wish) ((x.edges to).local t.wire)) (x.edges to).local away in
        let remote : answering.edge.remote k ≡ (x.edges to).remote k = heard_stay.remote k ∙ at_other t.wire k (Some (status_of t.wish)) (x.edges to).remote away in
        let said : of_wire k answering.out ≡ [] = hears_other from t.wire k (status_of t.wish) (x.edges to) (equal_turned t.wire k ∙ away) in
        rw (local, remote, heard_stay.there) (record {
          line = λ there. rw (of_append k (x.ways to from) answering.out, said, append-nil (of_wire k (x.ways to from)))
              (subst (λ (l : List Wish). IsLine ((x.edges to).local k) ((x.edges from).local k) ((x.edges to).remote k) ((x.edges from).remote k) (of_wire k (x.ways to from)) l) back (p.line there));
          near_last = rw (of_append k (x.heard from to) (t ∷ []), equal_turned t.wire k, away, append-nil (of_wire k (x.heard from to))) p.near_last;
          far_last = p.far_last;
          gone = p.gone;
          both = p.both;
        })

    heard_pair : (k : ℕ) → w.joins k to from ≡ true → IsPair (exchange_absorb to from answering taken) to from k
    heard_pair k joined = absorb_pair to from k answering taken to_apart
        (rw (
          two_away from to to from ts x.ways (turned_away from to from_apart),
          two_at from to ts x.ways,
          two_away from to to from (x.heard from to ++ t ∷ []) x.heard (turned_away from to from_apart),
          two_at from to (x.heard from to ++ t ∷ []) x.heard,
        )
        (elim (cases_Bool (k == t.wire)) [
          | inl same ↦ heard_this k joined same
          | inr away ↦ heard_other k joined away
        ]))

    heard_way : WayOf (is_some (answering.edge.next from)) (is_exchange_connected taken from to) (taken.ways to from ++ answering.out) (λ k. w.joins k to from)
    heard_way = rw (heard_stay.there, two_away from to to from ts x.ways (turned_away from to from_apart)) (record {
      both = (old.ways to from).both;
      none = λ gone. true_clash (sym here ∙ gone);
      between = told_append (λ (k : ℕ). w.joins k to from) (x.ways to from) answering.out (old.ways to from).between
          (hears_between (λ (k : ℕ). w.joins k to from) from t.wire (status_of t.wish) (x.edges to) joined_here);
    })

    heard_back : WayOf (is_exchange_connected taken from to) (is_some (answering.edge.next from)) (taken.ways from to) (λ k. w.joins k from to)
    heard_back = rw (heard_stay.there, two_at from to ts x.ways) (record { both = (old.ways from to).both; none = λ gone. true_clash (sym connected ∙ gone); between = rest_between })

    hears_hold : Holds w (exchange_absorb to from answering taken)
    hears_hold = kept w laws to from x (exchange_absorb to from answering taken) taken_frame old heard_pair (absorb_way w to from answering taken to_apart heard_way)
        (absorb_back w to from answering taken to_apart heard_back)

  -- ---- a connection is lost

  module _ (a b : ℕ) (x : Exchange) (apart : (a == b) ≡ false) (old : Holds w x) where
    abbrev one_lost : Exchange
    one_lost = record x { edges = put_at_place a (exchange_loses w a b (x.edges a)) x.edges }

    abbrev both_lost : Exchange
    both_lost = record x { edges = put_at_place b (exchange_loses w b a (x.edges b)) (put_at_place a (exchange_loses w a b (x.edges a)) x.edges) }

    loses_minds : (me peer : ℕ) → Minds w me peer (x.edges me) (exchange_loses w me peer (x.edges me))
    loses_minds me peer = record {
      local = λ k away. refl;
      remote = λ k away. rw away refl;
      others = λ p away. at_other peer p None (x.edges me).next away;
    }

    b_is : one_lost.edges b ≡ x.edges b
    b_is = at_other a b (exchange_loses w a b (x.edges a)) x.edges (apart_back a b apart)

    lost_frame : Frame w a b x (exchange_clears a b both_lost)
    lost_frame = frame_both w a b x both_lost (exchange_clears a b both_lost)
        (frame_both w a b x one_lost both_lost (edge_frame w a b (exchange_loses w a b (x.edges a)) x (loses_minds a b))
        (frame_turned w laws b a one_lost both_lost (edge_frame w b a (exchange_loses w b a (x.edges b)) one_lost (rw b_is (loses_minds b a)))))
        (clears_frame w a b both_lost)

    lost_a : both_lost.edges a ≡ exchange_loses w a b (x.edges a)
    lost_a = at_other b a (exchange_loses w b a (x.edges b)) (put_at_place a (exchange_loses w a b (x.edges a)) x.edges) apart ∙ at_same a (exchange_loses w a b (x.edges a)) x.edges

    lost_b : both_lost.edges b ≡ exchange_loses w b a (x.edges b)
    lost_b = at_same b (exchange_loses w b a (x.edges b)) (put_at_place a (exchange_loses w a b (x.edges a)) x.edges)

    cleared_out : (f : ℕ → ℕ → List StatusMessage) → at_two a b [] (at_two b a [] f) a b ≡ []
    cleared_out f = two_at a b [] (at_two b a [] f)

    cleared_back : (f : ℕ → ℕ → List StatusMessage) → at_two a b [] (at_two b a [] f) b a ≡ []
    cleared_back f = two_away a b b a [] (at_two b a [] f) (turned_away a b apart) ∙ two_at b a [] f

    none_next : (me peer : ℕ) → (exchange_loses w me peer (x.edges me)).next peer ≡ None
    none_next me peer = at_same peer None (x.edges me).next

    lost_pair : (k : ℕ) → w.joins k a b ≡ true → IsPair (exchange_clears a b both_lost) a b k
    lost_pair k joined = rw (lost_a, lost_b, none_next a b, none_next b a, cleared_out x.ways, cleared_back x.ways, cleared_out x.heard, cleared_back x.heard, joined, laws.turned k a b joined)
        (none_pair ((x.edges a).local k) ((x.edges b).local k) k)

    loses_hold : Holds w (exchange_clears a b both_lost)
    loses_hold = kept w laws a b x (exchange_clears a b both_lost) lost_frame old lost_pair
        (rw (lost_a, lost_b, none_next a b, none_next b a, cleared_out x.ways) (none_way (λ (k : ℕ). w.joins k a b)))
        (rw (lost_a, lost_b, none_next a b, none_next b a, cleared_back x.ways) (none_way (λ (k : ℕ). w.joins k b a)))

    -- ---- a connection stands

    abbrev one_status : StatusWork
    one_status = exchange_connects w a b (x.edges a)

    abbrev other_status : StatusWork
    other_status = exchange_connects w b a (x.edges b)

    abbrev opened : ℕ → ℕ → EdgeStatuses
    opened me peer = record (x.edges me) { next = put_at_place peer (Some 1) (x.edges me).next }

    abbrev one_up : Exchange
    one_up = exchange_absorb a b one_status (exchange_clears a b x)

    abbrev both_up : Exchange
    both_up = exchange_absorb b a other_status one_up

    up_stay : (me peer : ℕ) → Stays peer (opened me peer) (exchange_connects w me peer (x.edges me)).edge
    up_stay me peer = all_stay w me peer 0 w.count (silent (opened me peer))

    up_there : (me peer : ℕ) → is_some ((exchange_connects w me peer (x.edges me)).edge.next peer) ≡ true
    up_there me peer = (up_stay me peer).there ∙ ap is_some (at_same peer (Some 1) (x.edges me).next)

    up_minds : (me peer : ℕ) → Minds w me peer (x.edges me) (exchange_connects w me peer (x.edges me)).edge
    up_minds me peer = record {
      local = λ k away. (up_stay me peer).local k;
      remote = λ k away. (up_stay me peer).remote k;
      others = λ p away. (up_stay me peer).others p away ∙ at_other peer p (Some 1) (x.edges me).next away;
    }

    up_told : (me peer k : ℕ) → w.joins k me peer ≡ true → of_wire k (exchange_connects w me peer (x.edges me)).out ≡ (x.edges me).local k ∷ []
    up_told me peer k joined = all_told w me peer 0 w.count k (silent (opened me peer)) (ap is_some (at_same peer (Some 1) (x.edges me).next)) joined (omega arith)
        (omega (arith, laws.within k me peer joined))

    b_still : one_up.edges b ≡ x.edges b
    b_still = at_other a b one_status.edge x.edges (apart_back a b apart)

    up_frame : Frame w a b x both_up
    up_frame = frame_both w a b x one_up both_up
        (frame_both w a b x (exchange_clears a b x) one_up (clears_frame w a b x) (absorb_frame w a b one_status (exchange_clears a b x) (up_minds a b)))
        (frame_turned w laws b a one_up both_up (absorb_frame w b a other_status one_up (rw b_still (up_minds b a))))

    back_apart : (b == a) ≡ false
    back_apart = apart_back a b apart

    a_up : one_up.edges a ≡ one_status.edge
    a_up = at_same a one_status.edge x.edges

    one_way : one_up.ways a b ≡ one_status.out
    one_way = two_at a b ((exchange_clears a b x).ways a b ++ one_status.out) (exchange_clears a b x).ways ∙ ap (λ (l : List StatusMessage). l ++ one_status.out) (cleared_out x.ways)

    other_way : one_up.ways b a ≡ []
    other_way = two_away a b b a ((exchange_clears a b x).ways a b ++ one_status.out) (exchange_clears a b x).ways (turned_away a b apart) ∙ cleared_back x.ways

    module _ (gone : is_exchange_connected x a b ≡ false) where
      up_pair : (k : ℕ) → w.joins k b a ≡ true → IsPair both_up b a k
      up_pair k joined =
          let front : w.joins k a b ≡ true = laws.turned k b a joined in
          let none = (old.pairs a b k front).gone gone in
          absorb_pair b a k other_status one_up back_apart
          (rw (
            a_up,
            one_way,
            other_way,
            cleared_out x.heard,
            cleared_back x.heard,
            up_there a b,
            up_there b a,
            (up_stay a b).local k,
            (up_stay b a).local k,
            (up_stay a b).remote k,
            (up_stay b a).remote k,
            none.0,
            none.1,
          ) (record {
            line = λ there. rw (up_told b a k joined, up_told a b k front) (line.connects ((x.edges b).local k) ((x.edges a).local k));
            near_last = refl;
            far_last = refl;
            gone = λ is. true_clash is;
            both = refl;
          }))

      up_back : WayOf (is_some (other_status.edge.next a)) (is_exchange_connected one_up a b) (one_up.ways b a ++ other_status.out) (λ k. w.joins k b a)
      up_back = rw (a_up, other_way, up_there a b, up_there b a) (record { both = refl; none = λ is. true_clash is; between = all_between w b a 0 w.count (silent (opened b a)) tt })

      up_way : WayOf (is_exchange_connected one_up a b) (is_some (other_status.edge.next a)) (one_up.ways a b) (λ k. w.joins k a b)
      up_way = rw (a_up, one_way, up_there a b, up_there b a) (record { both = refl; none = λ is. true_clash is; between = all_between w a b 0 w.count (silent (opened a b)) tt })

      connects_hold : Holds w both_up
      connects_hold = kept w laws b a x both_up (frame_turned w laws a b x both_up up_frame) old up_pair (absorb_way w b a other_status one_up back_apart up_back)
          (absorb_back w b a other_status one_up back_apart up_way)

  -- ---- every step

  pub step_holds : (x : Exchange) (s : Step) → Applies w x s → Holds w x → Holds w (exchange_step w x s)
  step_holds x (Connects a b) can old = connects_hold a b x can.0 old can.1
  step_holds x (Loses a b) can old = loses_hold a b x can old
  step_holds x (Hears from to) can old = by (x.ways from to) refl
    where
      by : (ts : List StatusMessage) → x.ways from to ≡ ts → Holds w (heard_first from to ts x)
      by [] is = old
      by (t ∷ ts) is = hears_hold from to t ts x is old
  step_holds x (Sets me peer wire wish) can old = sets_hold me peer wire wish x can old

  pub run_holds : (x : Exchange) (steps : List Step) → Apply w x steps → Holds w x → Holds w (exchange_run w x steps)
  run_holds x [] can old = old
  run_holds x (s ∷ ss) can old = run_holds (exchange_step w x s) ss can.1 (step_holds x s can.0 old)

  pub first_holds : Holds w first
  first_holds = record { pairs = λ a b k is. none_pair Standby Standby k; ways = λ a b. none_way (λ (k : ℕ). w.joins k a b) }

-- ---- what that says

known_active : (wish : Wish) → is_known_active (Some (status_of wish)) ≡ is_wished_active wish
known_active Active = refl
known_active Standby = refl
known_active Ask = refl

asks_not : (wish : Wish) → (is_ask wish ≡ true → false ≡ true) → is_ask wish ≡ false
asks_not Ask never = true_clash (sym (never refl))
asks_not Active never = refl
asks_not Standby never = refl

first_of : (p q r : Bool) → ((p && q) && r) ≡ true → (q ≡ true) × (r ≡ true)
first_of p q r is = (grind (arith, is), grind (arith, is))

pub agree : (w : Wiring) (x : Exchange) (a b k : ℕ) → Holds w x → w.joins k a b ≡ true → w.joins k b a ≡ true → Agree x a b k
agree w x a b k holds joined back = record {
  both = p.both;
  ends = λ there. (end_of a b p there, end_of b a q (sym p.both ∙ there));
  quiet = λ there out_none back_none. quiet there out_none back_none;
  used = λ is.
      let them = first_of (is_exchange_connected x a b) (is_wished_active ((x.edges a).local k)) (is_known_active ((x.edges a).remote k)) is in
      (them.0, ap is_known_active (sym p.near_last) ∙ them.1);
  gone = λ none. ((holds.ways a b).none none, (p.gone none).0);
}
  where
    p : IsPair x a b k
    p = holds.pairs a b k joined

    q : IsPair x b a k
    q = holds.pairs b a k back

    end_of : (me peer : ℕ) → IsPair x me peer k → is_exchange_connected x me peer ≡ true → IsEnd x me peer k
    end_of me peer r there = record { after_way = (r.line there).heard; asked = (r.line there).near_asks; knows = r.near_last }

    quiet : is_exchange_connected x a b ≡ true → x.ways a b ≡ [] → x.ways b a ≡ [] → IsExchangeAgreed x a b k
    quiet there out_none back_none =
        let l = subst (λ (ts : List StatusMessage). IsLine ((x.edges a).local k) ((x.edges b).local k) ((x.edges a).remote k) ((x.edges b).remote k) [] (of_wire k ts)) back_none
        (subst (λ (ts : List StatusMessage). IsLine ((x.edges a).local k) ((x.edges b).local k) ((x.edges a).remote k) ((x.edges b).remote k) (of_wire k ts)
        (of_wire k (x.ways b a))) out_none (p.line there)) in
        let turned_and : (m n : Bool) → ((true && m) && n) ≡ (n && m) = λ m n. grind (arith) in
        let plain_and : (m n : Bool) → ((true && m) && n) ≡ (m && n) = λ m n. grind (arith) in
        record {
          one = rw (there, l.heard, known_active ((x.edges b).local k)) (plain_and (is_wished_active ((x.edges a).local k)) (is_wished_active ((x.edges b).local k)));
          other = rw (sym p.both ∙ there, l.told, known_active ((x.edges a).local k)) (turned_and (is_wished_active ((x.edges b).local k)) (is_wished_active ((x.edges a).local k)));
          asks_not = asks_not ((x.edges a).local k) l.near_asks;
          other_asks_not = asks_not ((x.edges b).local k) l.far_asks;
        }

pub exchanges_agree : ExchangesAgree
exchanges_agree w laws steps can a b k joined = agree w (exchange_run w first steps) a b k (run_holds w laws first steps can (first_holds w laws)) joined (laws.turned k a b joined)
