-- Each line of a script keeps what holds of an exchange, and so does every script.
use Rattle.std.proofs.Common.{◌≡◌, ◌<◌, ◌-◌, ◌^◌, ◌==◌, ◌&&◌, ◌||◌, ◌++◌, ◌∙◌, not, ℕ, zero, suc, Bool, true, false, List, [], ◌∷◌, Option, Some, None, length, slice_get, take, drop, option_map, is_some, if◌then◌else◌, refl, sym, ap, subst, arith, append_assoc, append-nil, inl, ⊎_elim}
use Rattle.std.proofs.lemmas.Bool.Decides.{nat_tests}
use Rattle.std.proofs.lemmas.List.{take-append-drop}
use Rattle.std.proofs.lemmas.Bool.{eqb-true}
use Rattle.net_values.proofs.BoolLemmas.{true_clash}
use Rattle.net_values.proofs.NumberLemmas.{same_number as self, apart_back, turned_away}
use Rattle.net_values.proofs.RowLemmas.{front_empty}
use Rattle.net_base.specs.declared.outside.link_call.LinkCall.{LinkCall}
use Rattle.net_base.specs.declared.plan.Plan.{Plan}
use Rattle.net_base.specs.declared.plan.places.EdgeId.{EdgeId}
use Rattle.net_base.specs.declared.plan.wire_plan.WirePlan.{WirePlan}
use Rattle.net_base.specs.plan.Accepted.{IsChecked}
use Rattle.ldp_stream.specs.FrontOf.{Front, More, Got, front_of}
use Rattle.ldp_stream.specs.State.{place_behind}
use Rattle.ldp_stream.proofs.CommonLemmas.{none_front}
use Rattle.pw_messages.specs.Sender.{platform_of}
use Rattle.status_exchange.specs.declared.wish.Wish.{Wish}
use Rattle.status_exchange.specs.Exchange.{EdgeStatuses, Exchange, IsWiring, StatusWork, StatusMessage, Wiring, exchange_absorb, at_two, exchange_clears, first, heard_first, exchange_step, Connects, Hears, Loses, Sets}
use Rattle.status_exchange.specs.Exchange as exchange
use Rattle.status_exchange.specs.Wish.{is_same_wish, status_of}
use Rattle.status_exchange.proofs.PairLemmas.{Holds, two_at, two_away}
use Rattle.status_exchange.proofs.RunLemmas.{first_holds, step_holds}
use Rattle.status_exchange.proofs.StatusLemmas.{AllTold, at_other, at_same, told_append}
use Rattle.independent_model.specs.Calls.{independent_connects, independent_hears, independent_hears_on, is_connected, loses, sets}
use Rattle.independent_model.specs.Hear.{hears_all, hears_by, independent_hears_few, independent_hears_front, independent_hears_message}
use Rattle.switchover_model.specs.Laws.{DeliveriesGoOn, HasSwitchTypes}
use Rattle.switchover_model.specs.declared.switch_line.SwitchLine.{SwitchLine}
use Rattle.switchover_model.specs.declared.switch_line.SwitchLine.TheVariants as line
use Rattle.switchover_model.specs.Network.{IsGoing, SwitchState, absorbs, switch_connecting, connects_one, cutting, switch_delivering, switch_delivers, delivers_next, delivers_one, does, done, done_all, first_network, switch_flight, octets_held_by, held_with, edge_numbered, is_line_idle, is_waiting, next_pair, put_to, setting, settling, some_between, switches_stand, takes_all}
use Rattle.independent_model.specs.State.{ConnectionState, Stopped, Receiver, IndepState, Receiving, Broken, receiver_set, fresh_connection, id_next, statuses_of, with_connection, with_receiver, without_remotes}
use Rattle.independent_model.specs.Tell.{notification}
use Rattle.independent_model.specs.Wires.{is_between, other_end, wiring}
use Rattle.independent_model.specs.Work.{Goes, IndepOutcome, and_works}
use Rattle.switchover_model.proofs.DoesLemmas.{Does, connect_does, receiver_part, hear_does, set_does}
use Rattle.switchover_model.proofs.FlightLemmas.{AreTold, HasNext, IsTold, are_both, front_is, octets_in_row, octets_told, told_both}
use Rattle.switchover_model.proofs.NetworkLemmas.{AreOpen, IsDone, IsOpen, Matches, done_matches, held_in, held_is, is_pair, same_held}
use Rattle.switchover_model.proofs.TwoLemmas.{HasRow, edge_there, other_is, wiring_is}

-- ---- an edge's work for a peer

module _ (plan : Plan) (me peer : ℕ) (x : SwitchState) (y : Exchange) (t : StatusWork) (o : IndepOutcome) (start : IndepState) (apart : (me == peer) ≡ false) (m : Matches plan x y) (d : Does plan me peer start [] t o)
    (held : octets_held_by (start.connection peer) ≡ octets_held_by ((x.edges me).connection peer)) (receivers : (b : ℕ) → (b == peer) ≡ false → option_map receiver_part (start.connection b) ≡ option_map receiver_part ((x.edges me).connection b))
    (open_peer : AreOpen (option_map receiver_part (start.connection peer))) where
  abbrev work : StatusWork
  work = record { edge = statuses_of d.edge; out = d.out }

  abbrev y_after : Exchange
  y_after = exchange_absorb me peer work y

  told_at : (a b : ℕ) (s : Bool) → AreTold plan (if s then y.ways me peer ++ d.out else y.ways a b)
  told_at a b true = are_both plan (y.ways me peer) d.out (m.told me peer) d.at.told
  told_at a b false = m.told a b

  is_done : IsDone plan me peer x d.edge d.calls y_after
  is_done = record {
    here = sym (at_same me (statuses_of d.edge) y.edges);
    edges = λ k away. m.edges k ∙ sym (at_other me k (statuses_of d.edge) y.edges away);
    comes = ap (λ (l : List ℕ). l ++ x.pipes peer me) (same_held (d.edge.connection peer) (start.connection peer) (d.at.receivers peer) ∙ held)
        ∙ (m.octets peer me ∙ ap (octets_told plan peer) (sym (two_away me peer peer me (y.ways me peer ++ d.out) y.ways (turned_away me peer apart))));
    goes = sym (append_assoc (octets_held_by ((x.edges peer).connection me)) (x.pipes me peer) (put_to peer d.calls))
        ∙ (ap (λ (l : List ℕ). l ++ put_to peer d.calls) (m.octets me peer) ∙ (ap (λ (l : List ℕ). octets_told plan me (y.ways me peer) ++ l) d.at.said
        ∙ (sym (told_both plan me (y.ways me peer) d.out) ∙ ap (octets_told plan me) (sym (two_at me peer (y.ways me peer ++ d.out) y.ways)))));
    others = λ a b one two. m.octets a b ∙ ap (octets_told plan a) (sym (two_away me peer a b (y.ways me peer ++ d.out) y.ways one));
    silent = λ b away. d.at.others b away;
    receivers = λ b away. d.at.receivers b ∙ receivers b away;
    open_here = subst AreOpen (sym (d.at.receivers peer)) open_peer;
    open_all = λ a b. inl (m.open_all a b);
    small_here = d.at.small;
    small = m.small;
    told = λ a b. told_at a b (a == me && b == peer);
    came_here = m.came peer me ∙ ap (λ (l : List ℕ). octets_told plan peer (y.heard peer me) ++ l) (sym (same_held (d.edge.connection peer) (start.connection peer) (d.at.receivers peer) ∙ held));
    came = λ a b away. m.came a b;
    past = m.past;
  }

  pub absorbed : Matches plan (absorbs me o x) (exchange_absorb me peer t y)
  absorbed = subst (λ (p : IndepOutcome). Matches plan (absorbs me p x) (exchange_absorb me peer t y)) (sym d.is)
      (subst (λ (u : StatusWork). Matches plan (absorbs me (Goes d.edge d.calls) x) (exchange_absorb me peer u y)) (sym d.statuses) (done_matches plan me peer x d.edge d.calls y_after apart is_done))

module _ (plan : Plan) (checked : IsChecked plan) (types : HasSwitchTypes plan) where
  abbrev w : Wiring
  w = wiring plan

  laws : IsWiring w
  laws = wiring_is plan checked

  pub record Follows (x : SwitchState) : Type 0 where
    pub y : Exchange
    pub matches : Matches plan x y
    pub holds : Holds w y

  -- whether an edge is connected
  pub stands_is : (x : SwitchState) (f : Follows x) (a b : ℕ) → is_some ((f.y.edges a).next b) ≡ is_connected (x.edges a) b
  stands_is x f a b = ap (λ (e : EdgeStatuses). is_some (e.next b)) (sym (f.matches.edges a)) ∙ some ((x.edges a).connection b)
    where
      some : (o : Option ConnectionState) → is_some (option_map id_next o) ≡ is_some o
      some None = refl
      some (Some kept) = refl

  -- ---- a wire is called something else

  set_follows : (me peer wire : ℕ) (row : WirePlan) (wish : Wish) (x : SwitchState) → slice_get plan.wires wire ≡ Some row → is_between plan wire me peer ≡ true
      → other_end plan me wire ≡ Some (edge_numbered peer)
      → is_same_wish ((x.edges me).local wire) wish ≡ false → Follows x → Follows (setting plan me wire wish x)
  set_follows me peer wire row wish x row_is joined other away f =
      let d = set_does plan me peer wire row wish (x.edges me) [] row_is other away (f.matches.small me) in
      record {
        y = exchange_absorb me peer (exchange.exchange_sets peer wire wish (statuses_of (x.edges me))) f.y;
        matches = absorbed plan me peer x f.y (exchange.exchange_sets peer wire wish (statuses_of (x.edges me))) (sets plan takes_all me wire wish (x.edges me) []) (x.edges me)
            (laws.apart wire me peer joined) f.matches d refl (λ b away. refl) (f.matches.open_all me peer);
        holds = subst (λ (e : EdgeStatuses). Holds w (exchange_absorb me peer (exchange.exchange_sets peer wire wish e) f.y)) (sym (f.matches.edges me)) (step_holds w laws f.y (Sets me peer wire wish) joined f.holds);
      }

  -- ---- both are connected

  no_ways : (x : SwitchState) (f : Follows x) (a b : ℕ) → is_connected (x.edges a) b ≡ false → f.y.ways a b ≡ []
  no_ways x f a b gone = (f.holds.ways a b).none (stands_is x f a b ∙ gone)

  none_there : (o : Option ConnectionState) → is_some o ≡ false → o ≡ None
  none_there None gone = refl
  none_there (Some kept) gone = true_clash gone

  two_cleared : (f : ℕ → ℕ → List StatusMessage) (a b j k : ℕ) → f a b ≡ [] → f b a ≡ [] → at_two a b [] (at_two b a [] f) j k ≡ f j k
  two_cleared f a b j k one other = by (j == a && k == b) (j == b && k == a) refl refl
    where
      same : (p q r s : ℕ) → (p == r && q == s) ≡ true → f r s ≡ [] → [] ≡ f p q
      same p q r s is none = let one : p ≡ r = grind (arith, nat_tests, is) in let two : q ≡ s = grind (arith, nat_tests, is) in rw (one, two) (sym none)

      by : (t u : Bool) → (j == a && k == b) ≡ t → (j == b && k == a) ≡ u → (if t then [] else if u then [] else f j k) ≡ f j k
      by true u is to = same j k a b is one
      by false true is to = same j k b a to other
      by false false is to = refl

  started : (me peer : ℕ) (e : IndepState) → is_connected e peer ≡ false → octets_held_by ((with_connection peer (Some fresh_connection) e).connection peer) ≡ octets_held_by (e.connection peer)
  unfolding with_connection
  started me peer e none = rw (self peer, none_there (e.connection peer) none) refl

  started_receivers : (peer : ℕ) (e : IndepState) (k : ℕ) → (k == peer) ≡ false → option_map receiver_part ((with_connection peer (Some fresh_connection) e).connection k)
      ≡ option_map receiver_part (e.connection k)
  unfolding with_connection
  started_receivers peer e k away = rw away refl

  started_open : (peer : ℕ) (e : IndepState) → AreOpen (option_map receiver_part ((with_connection peer (Some fresh_connection) e).connection peer))
  unfolding with_connection
  started_open peer e = rw (self peer) tt

  connect_follows : (a b : ℕ) (x : SwitchState) → (a == b) ≡ false → is_connected (x.edges a) b ≡ false → Follows x → Follows (switch_connecting plan a b x)
  connect_follows a b x apart gone f = record { y = exchange_absorb b a t2 (exchange_absorb a b t1 y0); matches = m2; holds = up }
    where
      y0 : Exchange
      y0 = exchange_clears a b f.y

      other_gone : is_connected (x.edges b) a ≡ false
      other_gone = sym (stands_is x f b a) ∙ (sym (f.holds.ways a b).both ∙ (stands_is x f a b ∙ gone))

      way_is : (j k : ℕ) → y0.ways j k ≡ f.y.ways j k
      way_is j k = two_cleared f.y.ways a b j k (no_ways x f a b gone) (no_ways x f b a other_gone)

      x0 : SwitchState
      x0 = record x { came = at_two a b [] (at_two b a [] x.came) }

      none_came : (j k : ℕ) (s t : Bool) → (j == a && k == b) ≡ s → (j == b && k == a) ≡ t → (if s then [] else if t then [] else x.came j k)
          ≡ octets_told plan j (if s then [] else if t then [] else f.y.heard j k) ++ octets_held_by ((x.edges k).connection j)
      none_came j k true t is to = let one : j ≡ a = grind (arith, nat_tests, is) in let two : k ≡ b = grind (arith, nat_tests, is) in
          rw (one, two, none_there ((x.edges b).connection a) other_gone) refl
      none_came j k false true is to = let one : j ≡ b = grind (arith, nat_tests, to) in let two : k ≡ a = grind (arith, nat_tests, to) in
          rw (one, two, none_there ((x.edges a).connection b) gone) refl
      none_came j k false false is to = f.matches.came j k

      none_past : (j k : ℕ) (s t : Bool) → AreTold plan (if s then [] else if t then [] else f.y.heard j k) × AllTold (λ m. is_between plan m j k) (if s then [] else if t then [] else f.y.heard j k)
      none_past j k true t = (tt, tt)
      none_past j k false true = (tt, tt)
      none_past j k false false = f.matches.past j k

      m0 : Matches plan x0 y0
      m0 = record {
        edges = f.matches.edges;
        octets = λ j k. f.matches.octets j k ∙ ap (octets_told plan j) (sym (way_is j k));
        open_all = f.matches.open_all;
        small = f.matches.small;
        told = λ j k. subst (AreTold plan) (sym (way_is j k)) (f.matches.told j k);
        came = λ j k. none_came j k (j == a && k == b) (j == b && k == a) refl refl;
        past = λ j k. none_past j k (j == a && k == b) (j == b && k == a);
      }

      t1 : StatusWork
      t1 = exchange.exchange_connects w a b (f.y.edges a)

      t2 : StatusWork
      t2 = exchange.exchange_connects w b a (f.y.edges b)

      up : Holds w (exchange_absorb b a t2 (exchange_absorb a b t1 y0))
      up = step_holds w laws f.y (Connects a b) (apart, stands_is x f a b ∙ gone) f.holds

      x1 : SwitchState
      x1 = connects_one plan a b x0

      d1 : Does plan a b (with_connection b (Some fresh_connection) (x.edges a)) [] t1 (independent_connects plan takes_all a (edge_numbered b) (x.edges a) [])
      d1 = subst (λ (e : EdgeStatuses). Does plan a b (with_connection b (Some fresh_connection) (x.edges a)) [] (exchange.exchange_connects w a b e) (independent_connects plan takes_all a (edge_numbered b) (x.edges a) []))
          (f.matches.edges a)
          (connect_does plan a b (x.edges a) [] checked (f.matches.small a))

      m1 : Matches plan x1 (exchange_absorb a b t1 y0)
      m1 = absorbed plan a b x0 y0 t1 (independent_connects plan takes_all a (edge_numbered b) (x.edges a) []) (with_connection b (Some fresh_connection) (x.edges a)) apart m0 d1 (started a b (x.edges a) gone)
          (started_receivers b (x.edges a)) (started_open b (x.edges a))

      b_is : x1.edges b ≡ x.edges b
      b_is = rw (apart_back a b apart) refl

      d2 : Does plan b a (with_connection a (Some fresh_connection) (x1.edges b)) [] t2 (independent_connects plan takes_all b (edge_numbered a) (x1.edges b) [])
      d2 = subst (λ (e : EdgeStatuses). Does plan b a (with_connection a (Some fresh_connection) (x1.edges b)) [] (exchange.exchange_connects w b a e)
          (independent_connects plan takes_all b (edge_numbered a) (x1.edges b) [])) (ap statuses_of b_is ∙ f.matches.edges b)
          (connect_does plan b a (x1.edges b) [] checked (m1.small b))

      m2 : Matches plan (switch_connecting plan a b x) (exchange_absorb b a t2 (exchange_absorb a b t1 y0))
      m2 = absorbed plan b a x1 (exchange_absorb a b t1 y0) t2 (independent_connects plan takes_all b (edge_numbered a) (x1.edges b) []) (with_connection a (Some fresh_connection) (x1.edges b)) (apart_back a b apart) m1 d2
          (started b a (x1.edges b) (ap (λ (e : IndepState). is_connected e a) b_is ∙ other_gone)) (started_receivers a (x1.edges b)) (started_open a (x1.edges b))

  -- ---- both lose the connection

  lost_statuses : (me peer : ℕ) (e : IndepState) → statuses_of (loses plan me (edge_numbered peer) e) ≡ exchange.exchange_loses w me peer (statuses_of e)
  unfolding with_connection without_remotes
  lost_statuses me peer e = λ i. record (exchange.exchange_loses w me peer (statuses_of e)) { next = λ p. by p (p == peer) i }
    where
      by : (p : ℕ) (b : Bool) → option_map id_next (if b then None else e.connection p) ≡ (if b then None else option_map id_next (e.connection p))
      by p true = refl
      by p false = refl

  lost_connection : (me peer : ℕ) (e : IndepState) (p : ℕ) → (loses plan me (edge_numbered peer) e).connection p ≡ (if p == peer then None else e.connection p)
  unfolding with_connection without_remotes
  lost_connection me peer e p = refl

  cut_follows : (a b : ℕ) (x : SwitchState) → (a == b) ≡ false → Follows x → Follows (cutting plan a b x)
  cut_follows a b x apart f = record { y = y2; matches = m; holds = step_holds w laws f.y (Loses a b) apart f.holds }
    where
      y2 : Exchange
      y2 = exchange_step w f.y (Loses a b)

      edge_is : (k : ℕ) (s t : Bool) → (k == b) ≡ s → (k == a) ≡ t
          → statuses_of (if s then loses plan b (edge_numbered a) (x.edges b) else if t then loses plan a (edge_numbered b) (x.edges a) else x.edges k)
          ≡ (if s then exchange.exchange_loses w b a (f.y.edges b) else if t then exchange.exchange_loses w a b (f.y.edges a) else f.y.edges k)
      edge_is k true t is to = lost_statuses b a (x.edges b) ∙ ap (exchange.exchange_loses w b a) (f.matches.edges b)
      edge_is k false true is to = lost_statuses a b (x.edges a) ∙ ap (exchange.exchange_loses w a b) (f.matches.edges a)
      edge_is k false false is to = f.matches.edges k

      -- what is kept of a connection
      left : (k p : ℕ) (s t : Bool) → (k == b) ≡ s → (k == a) ≡ t → (P : Option ConnectionState → Type 0) → P None → P ((x.edges k).connection p)
          → P ((if s then loses plan b (edge_numbered a) (x.edges b) else if t then loses plan a (edge_numbered b) (x.edges a) else x.edges k).connection p)
      left k p true t is to P none kept = subst P (sym (lost_connection b a (x.edges b) p)) (by (p == a))
        where
          by : (u : Bool) → P (if u then None else (x.edges b).connection p)
          by true = none
          by false = subst (λ (n : ℕ). P ((x.edges n).connection p)) (eqb-true k b is) kept
      left k p false true is to P none kept = subst P (sym (lost_connection a b (x.edges a) p)) (by (p == b))
        where
          by : (u : Bool) → P (if u then None else (x.edges a).connection p)
          by true = none
          by false = subst (λ (n : ℕ). P ((x.edges n).connection p)) (eqb-true k a to) kept
      left k p false false is to P none kept = kept

      -- no octets are left between the two
      gone_at : (j k : ℕ) (s t : Bool) → (j == a && k == b) ≡ s → (j == b && k == a) ≡ t
          → octets_held_by (((cutting plan a b x).edges k).connection j) ++ (if s then [] else if t then [] else x.pipes j k) ≡ octets_told plan j (if s then [] else if t then [] else f.y.ways j k)
      gone_at j k true t is to =
          let one : j ≡ a = grind (arith, nat_tests, is) in
          let two : k ≡ b = grind (arith, nat_tests, is) in
          rw (one, two, self b, lost_connection b a (x.edges b) a, self a) refl
      gone_at j k false true is to =
          let one : j ≡ b = grind (arith, nat_tests, to) in
          let two : k ≡ a = grind (arith, nat_tests, to) in
          rw (one, two, apart, self a, lost_connection a b (x.edges a) b, self b) refl
      gone_at j k false false is to = ap (λ (l : List ℕ). l ++ x.pipes j k) (ap octets_held_by (still (k == b) (k == a) refl refl)) ∙ f.matches.octets j k
        where
          still : (s t : Bool) → (k == b) ≡ s → (k == a) ≡ t
              → (if s then loses plan b (edge_numbered a) (x.edges b) else if t then loses plan a (edge_numbered b) (x.edges a) else x.edges k).connection j ≡ (x.edges k).connection j
          still true t e g =
              let away : (j == a) ≡ false = grind (arith, is, e) in
              lost_connection b a (x.edges b) j ∙ rw away (ap (λ (n : ℕ). (x.edges n).connection j) (sym (eqb-true k b e)))
          still false true e g =
              let away : (j == b) ≡ false = grind (arith, to, g) in
              lost_connection a b (x.edges a) j ∙ rw away (ap (λ (n : ℕ). (x.edges n).connection j) (sym (eqb-true k a g)))
          still false false e g = refl

      told_at : (j k : ℕ) (s t : Bool) → AreTold plan (if s then [] else if t then [] else f.y.ways j k)
      told_at j k true t = tt
      told_at j k false true = tt
      told_at j k false false = f.matches.told j k

      held_still : (j k : ℕ) → (j == a && k == b) ≡ false → (j == b && k == a) ≡ false → octets_held_by (((cutting plan a b x).edges k).connection j) ≡ octets_held_by ((x.edges k).connection j)
      held_still j k is to = ap octets_held_by (still (k == b) (k == a) refl refl)
        where
          still : (s t : Bool) → (k == b) ≡ s → (k == a) ≡ t
              → (if s then loses plan b (edge_numbered a) (x.edges b) else if t then loses plan a (edge_numbered b) (x.edges a) else x.edges k).connection j ≡ (x.edges k).connection j
          still true t e g =
              let away : (j == a) ≡ false = grind (arith, is, e) in
              lost_connection b a (x.edges b) j ∙ rw away (ap (λ (n : ℕ). (x.edges n).connection j) (sym (eqb-true k b e)))
          still false true e g =
              let away : (j == b) ≡ false = grind (arith, to, g) in
              lost_connection a b (x.edges a) j ∙ rw away (ap (λ (n : ℕ). (x.edges n).connection j) (sym (eqb-true k a g)))
          still false false e g = refl

      came_at : (j k : ℕ) (s t : Bool) → (j == a && k == b) ≡ s → (j == b && k == a) ≡ t → (if s then [] else if t then [] else x.came j k)
          ≡ octets_told plan j (if s then [] else if t then [] else f.y.heard j k) ++ octets_held_by (((cutting plan a b x).edges k).connection j)
      came_at j k true t is to =
          let one : j ≡ a = grind (arith, nat_tests, is) in
          let two : k ≡ b = grind (arith, nat_tests, is) in
          rw (one, two, self b, lost_connection b a (x.edges b) a, self a) refl
      came_at j k false true is to =
          let one : j ≡ b = grind (arith, nat_tests, to) in
          let two : k ≡ a = grind (arith, nat_tests, to) in
          rw (one, two, apart, self a, lost_connection a b (x.edges a) b, self b) refl
      came_at j k false false is to = f.matches.came j k ∙ ap (λ (l : List ℕ). octets_told plan j (f.y.heard j k) ++ l) (sym (held_still j k is to))

      past_at : (j k : ℕ) (s t : Bool) → AreTold plan (if s then [] else if t then [] else f.y.heard j k) × AllTold (λ m. is_between plan m j k) (if s then [] else if t then [] else f.y.heard j k)
      past_at j k true t = (tt, tt)
      past_at j k false true = (tt, tt)
      past_at j k false false = f.matches.past j k

      m : Matches plan (cutting plan a b x) y2
      m = record {
        edges = λ k. edge_is k (k == b) (k == a) refl refl;
        octets = λ j k. gone_at j k (j == a && k == b) (j == b && k == a) refl refl;
        open_all = λ j k. left j k (j == b) (j == a) refl refl (λ (o : Option ConnectionState). AreOpen (option_map receiver_part o)) tt (f.matches.open_all j k);
        small = λ k p id. left k p (k == b) (k == a) refl refl (λ (o : Option ConnectionState). option_map id_next o ≡ Some id → id < 2 ^ 32) (λ e. absurd (cc (e))) (f.matches.small k p id);
        told = λ j k. told_at j k (j == a && k == b) (j == b && k == a);
        came = λ j k. came_at j k (j == a && k == b) (j == b && k == a) refl refl;
        past = λ j k. past_at j k (j == a && k == b) (j == b && k == a);
      }

  -- ---- the first octets come

  -- `to` has heard some of what was on its way from `from`: what it is now, what it has put, and what it is still to hear
  record Hearing (x : SwitchState) (f : Follows x) (from to : ℕ) (start : IndepState) (ms : List StatusMessage) (edge : IndepState) (calls : List LinkCall) : Type 0 where
    now : Exchange
    holds : Holds w now
    here : statuses_of edge ≡ now.edges to
    others : (k : ℕ) → (k == to) ≡ false → now.edges k ≡ f.y.edges k
    way : now.ways from to ≡ ms
    back : switch_flight x to from ++ put_to from calls ≡ octets_told plan to (now.ways to from)
    away : (a b : ℕ) → is_pair a b to from ≡ false → is_pair a b from to ≡ false → now.ways a b ≡ f.y.ways a b
    silent : (b : ℕ) → (b == from) ≡ false → put_to b calls ≡ []
    receivers : (b : ℕ) → option_map receiver_part (edge.connection b) ≡ option_map receiver_part (start.connection b)
    small : (p id : ℕ) → option_map id_next (edge.connection p) ≡ Some id → id < 2 ^ 32
    told : (a b : ℕ) → AreTold plan (now.ways a b)
    past : (a b : ℕ) → AreTold plan (now.heard a b) × AllTold (λ k. is_between plan k a b) (now.heard a b)
    heard_away : (a b : ℕ) → is_pair a b from to ≡ false → now.heard a b ≡ f.y.heard a b

  record HeardOne (x : SwitchState) (f : Follows x) (from to : ℕ) (start : IndepState) (t : StatusMessage) (ts : List StatusMessage) (past : List StatusMessage) (o : IndepOutcome) : Type 0 where
    edge : IndepState
    calls : List LinkCall
    is : o ≡ Goes edge calls
    hearing : Hearing x f from to start ts edge calls
    heard_is : hearing.now.heard from to ≡ past ++ t ∷ []

  between_first : (y : Exchange) (from to : ℕ) (t : StatusMessage) (ts : List StatusMessage) → Holds w y → y.ways from to ≡ t ∷ ts → is_between plan t.wire from to ≡ true
  between_first y from to t ts holds way = (subst (AllTold (λ (k : ℕ). is_between plan k from to)) way (holds.ways from to).between).0

  module _ (x : SwitchState) (f : Follows x) (from to : ℕ) (start : IndepState) (t : StatusMessage) (ts : List StatusMessage) (edge : IndepState) (calls : List LinkCall) (h : Hearing x f from to start (t ∷ ts) edge calls) where
    joined : is_between plan t.wire from to ≡ true
    joined = between_first h.now from to t ts h.holds h.way

    joined_back : is_between plan t.wire to from ≡ true
    joined_back = laws.turned t.wire from to joined

    from_to : (from == to) ≡ false
    from_to = laws.apart t.wire from to joined

    to_from : (to == from) ≡ false
    to_from = laws.apart t.wire to from joined_back

    is_told : IsTold plan t
    is_told = (subst (AreTold plan) h.way (h.told from to)).0

    rest_told : AreTold plan ts
    rest_told = (subst (AreTold plan) h.way (h.told from to)).1

    heard_does : Does plan to from edge calls (exchange.exchange_hears from t.wire (status_of t.wish) (statuses_of edge))
        (independent_hears_message plan takes_all to (edge_numbered from) (notification is_told.row from t.wish t.id) edge calls)
    heard_does = hear_does plan to from t.wire is_told.row t.wish t.id edge calls checked is_told.row_is joined_back h.small

    abbrev taken : Exchange
    taken = record h.now { ways = at_two from to ts h.now.ways; heard = at_two from to (h.now.heard from to ++ t ∷ []) h.now.heard }

    abbrev heard_work : StatusWork
    heard_work = record { edge = statuses_of heard_does.edge; out = heard_does.out }

    abbrev heard_now : Exchange
    heard_now = exchange_absorb to from heard_work taken

    heard_holds : Holds w heard_now
    heard_holds = subst (λ (u : StatusWork). Holds w (exchange_absorb to from u taken)) (ap (exchange.exchange_hears from t.wire (status_of t.wish)) (sym h.here) ∙ heard_does.statuses)
        (subst (λ (l : List StatusMessage). Holds w (heard_first from to l h.now)) h.way (step_holds w laws h.now (Hears from to) tt h.holds))

    back_way : at_two from to ts h.now.ways to from ≡ h.now.ways to from
    back_way = two_away from to to from ts h.now.ways (turned_away from to from_to)

    heard_told : (a b : ℕ) (s u : Bool) → AreTold plan (if s then at_two from to ts h.now.ways to from ++ heard_does.out else if u then ts else h.now.ways a b)
    heard_told a b true u = subst (λ (l : List StatusMessage). AreTold plan (l ++ heard_does.out)) (sym back_way)
        (are_both plan (h.now.ways to from) heard_does.out (h.told to from) heard_does.at.told)
    heard_told a b false true = rest_told
    heard_told a b false false = h.told a b

    heard_past : (a b : ℕ) (u : Bool) → (a == from && b == to) ≡ u → AreTold plan (if u then h.now.heard from to ++ t ∷ [] else h.now.heard a b)
        × AllTold (λ k. is_between plan k a b) (if u then h.now.heard from to ++ t ∷ [] else h.now.heard a b)
    heard_past a b true is =
        let one : a ≡ from = grind (arith, nat_tests, is) in
        let two : b ≡ to = grind (arith, nat_tests, is) in (
          are_both plan (h.now.heard from to) (t ∷ []) (h.past from to).0 (is_told, tt),
          rw (one, two) (told_append (λ (k : ℕ). is_between plan k from to) (h.now.heard from to) (t ∷ []) (h.past from to).1 (joined, tt)),
        )
    heard_past a b false is = h.past a b

    hear_one : HeardOne x f from to start t ts (h.now.heard from to) (independent_hears_message plan takes_all to (edge_numbered from) (notification is_told.row from t.wish t.id) edge calls)
    hear_one = record {
      edge = heard_does.edge;
      calls = heard_does.calls;
      is = heard_does.is;
      hearing = record {
        now = heard_now;
        holds = heard_holds;
        here = sym (at_same to (statuses_of heard_does.edge) h.now.edges);
        others = λ k away. at_other to k (statuses_of heard_does.edge) h.now.edges away ∙ h.others k away;
        way = two_away to from from to (at_two from to ts h.now.ways to from ++ heard_does.out) (at_two from to ts h.now.ways) (turned_away to from to_from) ∙ two_at from to ts h.now.ways;
        back = ap (λ (l : List ℕ). switch_flight x to from ++ l) heard_does.at.said
            ∙ (sym (append_assoc (switch_flight x to from) (put_to from calls) (octets_told plan to heard_does.out))
            ∙ (ap (λ (l : List ℕ). l ++ octets_told plan to heard_does.out) h.back
            ∙ (sym (told_both plan to (h.now.ways to from) heard_does.out)
            ∙ ap (octets_told plan to) (ap (λ (l : List StatusMessage). l ++ heard_does.out) (sym back_way)
            ∙ sym (two_at to from (at_two from to ts h.now.ways to from ++ heard_does.out) (at_two from to ts h.now.ways))))));
        away = λ a b one two. two_away to from a b (at_two from to ts h.now.ways to from ++ heard_does.out) (at_two from to ts h.now.ways) one
            ∙ (two_away from to a b ts h.now.ways two ∙ h.away a b one two);
        silent = λ b away. heard_does.at.others b away ∙ h.silent b away;
        receivers = λ b. heard_does.at.receivers b ∙ h.receivers b;
        small = heard_does.at.small;
        told = λ a b. heard_told a b (a == to && b == from) (a == from && b == to);
        past = λ a b. heard_past a b (a == from && b == to) refl;
        heard_away = λ a b two. two_away from to a b (h.now.heard from to ++ t ∷ []) h.now.heard two ∙ h.heard_away a b two;
      };
      heard_is = two_at from to (h.now.heard from to ++ t ∷ []) h.now.heard;
    }

  -- of octets that are the first of what is on its way
  record HeardSome (x : SwitchState) (f : Follows x) (from to : ℕ) (start : IndepState) (octets more : List ℕ) (past : List StatusMessage) (o : IndepOutcome) : Type 0 where
    left : List StatusMessage
    gone : List StatusMessage
    base : ℕ
    rest : List ℕ
    edge : IndepState
    calls : List LinkCall
    is : o ≡ Goes (with_receiver from (Receiving base rest) edge) calls
    behind : rest ++ more ≡ octets_told plan from left
    split : octets ≡ octets_told plan from gone ++ rest
    hearing : Hearing x f from to start left edge calls
    heard_is : hearing.now.heard from to ≡ past ++ gone

  few_heard : (x : SwitchState) (f : Follows x) (from to : ℕ) (start : IndepState) (n base : ℕ) (octets more : List ℕ) (ms : List StatusMessage) (edge : IndepState) (calls : List LinkCall) → octets ++ more ≡ octets_told plan from ms
      → (h : Hearing x f from to start ms edge calls) → HeardSome x f from to start octets more (h.now.heard from to) (independent_hears_few plan takes_all to (edge_numbered from) n base octets edge calls)
  few_heard x f from to start zero base octets more ms edge calls e h =
      record { left = ms; gone = []; base = base; rest = octets; edge = edge; calls = calls; is = refl; behind = e; split = refl; hearing = h; heard_is = sym (append-nil (h.now.heard from to)) }
  few_heard x f from to start (suc n) base octets more [] edge calls e h = record {
    left = [];
    gone = [];
    base = base;
    rest = octets;
    edge = edge;
    calls = calls;
    is = ap (λ (g : Front). independent_hears_front plan takes_all to (edge_numbered from) (independent_hears_few plan takes_all to (edge_numbered from) n) base octets g edge calls)
        (ap (front_of 4096) (front_empty octets more e) ∙ none_front);
    behind = e;
    split = refl;
    hearing = h;
    heard_is = sym (append-nil (h.now.heard from to));
  }
  few_heard x f from to start (suc n) base octets more (t ∷ ts) edge calls e h = ⊎_elim waits
      (gets (λ rest one behind. few_heard x f from to start n (place_behind base (length octets - length rest)) rest more ts one.edge one.calls behind one.hearing))
      (front_is plan checked types from there.row there.is t told ts octets more rest_are e)
    where
      told : IsTold plan t
      told = is_told x f from to start t ts edge calls h

      rest_are : AreTold plan ts
      rest_are = rest_told x f from to start t ts edge calls h

      there : HasRow plan from
      there = edge_there plan t.wire from to checked (joined x f from to start t ts edge calls h)

      by_front : (g : Front) → front_of 4096 octets ≡ g → independent_hears_few plan takes_all to (edge_numbered from) (suc n) base octets edge calls
          ≡ independent_hears_front plan takes_all to (edge_numbered from) (independent_hears_few plan takes_all to (edge_numbered from) n) base octets g edge calls
      by_front g is = ap (λ (g : Front). independent_hears_front plan takes_all to (edge_numbered from) (independent_hears_few plan takes_all to (edge_numbered from) n) base octets g edge calls) is

      waits : front_of 4096 octets ≡ More → HeardSome x f from to start octets more (h.now.heard from to) (independent_hears_few plan takes_all to (edge_numbered from) (suc n) base octets edge calls)
      waits is = record {
        left = t ∷ ts;
        gone = [];
        base = base;
        rest = octets;
        edge = edge;
        calls = calls;
        is = by_front More is;
        behind = e;
        split = refl;
        hearing = h;
        heard_is = sym (append-nil (h.now.heard from to));
      }

      gets : ((rest : List ℕ) (one : HeardOne x f from to start t ts (h.now.heard from to) (independent_hears_message plan takes_all to (edge_numbered from) (notification told.row from t.wish t.id) edge calls)) → rest ++ more ≡ octets_told plan from ts
          → HeardSome x f from to start rest more (one.hearing.now.heard from to)
          (independent_hears_few plan takes_all to (edge_numbered from) n (place_behind base (length octets - length rest)) rest one.edge one.calls))
          → HasNext plan checked types from there.row there.is t told ts octets more
          → HeardSome x f from to start octets more (h.now.heard from to) (independent_hears_few plan takes_all to (edge_numbered from) (suc n) base octets edge calls)
      gets again next =
          let one = hear_one x f from to start t ts edge calls h in
          let on = again next.rest one next.behind in
          record {
            left = on.left;
            gone = t ∷ on.gone;
            base = on.base;
            rest = on.rest;
            edge = on.edge;
            calls = on.calls;
            is = by_front (Got (record { id = platform_of there.row.address; messages = notification told.row from t.wish t.id ∷ [] }) next.rest) next.front
                ∙ (ap (λ (o : IndepOutcome). and_works (and_works o (λ e c. Goes e c))
                (λ e c. independent_hears_few plan takes_all to (edge_numbered from) n (place_behind base (length octets - length next.rest)) next.rest e c)) one.is ∙ on.is);
            behind = on.behind;
            split = next.split ∙ (ap (λ (l : List ℕ). octets_in_row plan from t (slice_get plan.wires t.wire) ++ l) on.split
                ∙ sym (append_assoc (octets_in_row plan from t (slice_get plan.wires t.wire)) (octets_told plan from on.gone) on.rest));
            hearing = on.hearing;
            heard_is = on.heard_is ∙ (ap (λ (l : List StatusMessage). l ++ on.gone) one.heard_is ∙ append_assoc (h.now.heard from to) (t ∷ []) on.gone);
          }

  -- what an edge hears with is set
  receiver_statuses : (peer : ℕ) (receiver : Receiver) (e : IndepState) → statuses_of (with_receiver peer receiver e) ≡ statuses_of e
  unfolding with_connection
  receiver_statuses peer receiver e = λ i. record (statuses_of e) { next = λ p. by p (p == peer) refl i }
    where
      same : (o : Option ConnectionState) → option_map id_next (option_map (receiver_set receiver) o) ≡ option_map id_next o
      same None = refl
      same (Some kept) = refl

      by : (p : ℕ) (b : Bool) → (p == peer) ≡ b → option_map id_next (if b then option_map (receiver_set receiver) (e.connection peer) else e.connection p) ≡ option_map id_next (e.connection p)
      by p true is = same (e.connection peer) ∙ ap (λ (n : ℕ). option_map id_next (e.connection n)) (sym (eqb-true p peer is))
      by p false is = refl

  receiver_other : (peer : ℕ) (receiver : Receiver) (e : IndepState) (p : ℕ) → (p == peer) ≡ false → (with_receiver peer receiver e).connection p ≡ e.connection p
  unfolding with_connection
  receiver_other peer receiver e p away = rw away refl

  receiver_here : (peer : ℕ) (receiver : Receiver) (e : IndepState) → is_some (option_map receiver_part (e.connection peer)) ≡ true
      → option_map receiver_part ((with_receiver peer receiver e).connection peer) ≡ Some receiver
  unfolding with_connection
  receiver_here peer receiver e there = rw (self peer) (by (e.connection peer) there)
    where
      by : (o : Option ConnectionState) → is_some (option_map receiver_part o) ≡ true → option_map receiver_part (option_map (receiver_set receiver) o) ≡ Some receiver
      by None there = true_clash (sym there)
      by (Some kept) there = refl

  record IsOpenAt (o : Option ConnectionState) : Type 0 where
    kept : ConnectionState
    is : o ≡ Some kept
    base : ℕ
    held : List ℕ
    opened : kept.receiver ≡ Receiving base held

  open_at : (o : Option ConnectionState) → is_some o ≡ true → AreOpen (option_map receiver_part o) → IsOpenAt o
  open_at None there opened = true_clash (sym there)
  open_at (Some kept) there opened = by kept.receiver refl opened
    where
      by : (receiver : Receiver) → kept.receiver ≡ receiver → IsOpen receiver → IsOpenAt (Some kept)
      by (Receiving base held) is opened = record { kept = kept; is = refl; base = base; held = held; opened = is }
      by (Broken base wrong) is opened = absurd opened
      by Stopped is opened = absurd opened

  module _ (from to count : ℕ) (x : SwitchState) (f : Follows x) (some : is_waiting (x.pipes from to) ≡ true) where
    -- where octets are on their way, both are connected
    connected_to : is_connected (x.edges to) from ≡ true
    connected_to = by (is_connected (x.edges to) from) refl
      where
        waiting_none : (l held : List ℕ) → held ++ l ≡ [] → is_waiting l ≡ false
        waiting_none [] held e = refl
        waiting_none (o ∷ l) [] e = absurd (cc (e))
        waiting_none (o ∷ l) (p ∷ held) e = absurd (cc (e))

        by : (b : Bool) → is_connected (x.edges to) from ≡ b → is_connected (x.edges to) from ≡ true
        by true is = is
        by false is =
            let both : is_some ((f.y.edges from).next to) ≡ false = (f.holds.ways from to).both ∙ (stands_is x f to from ∙ is) in
            let none : f.y.ways from to ≡ [] = (f.holds.ways from to).none both in
            true_clash (sym some ∙ waiting_none (x.pipes from to) (octets_held_by ((x.edges to).connection from)) (f.matches.octets from to ∙ ap (octets_told plan from) none))

    here : IsOpenAt ((x.edges to).connection from)
    here = open_at ((x.edges to).connection from) connected_to (f.matches.open_all to from)

    abbrev start : IndepState
    start = with_receiver from Stopped (x.edges to)

    abbrev x1 : SwitchState
    x1 = record x { pipes = at_two from to (drop count (x.pipes from to)) x.pipes; came = at_two from to (x.came from to ++ take count (x.pipes from to)) x.came }

    whole : (here.held ++ take count (x.pipes from to)) ++ drop count (x.pipes from to) ≡ octets_told plan from (f.y.ways from to)
    whole = append_assoc here.held (take count (x.pipes from to)) (drop count (x.pipes from to))
        ∙ (ap (λ (l : List ℕ). here.held ++ l) (take-append-drop count (x.pipes from to))
        ∙ (ap (λ (l : List ℕ). l ++ x.pipes from to) (sym (ap octets_held_by here.is ∙ ap held_with here.opened)) ∙ f.matches.octets from to))

    hears_is : independent_hears plan takes_all to (edge_numbered from) (take count (x.pipes from to)) (x.edges to) []
        ≡ hears_all plan takes_all to (edge_numbered from) here.base (here.held ++ take count (x.pipes from to)) start []
    hears_is = ap (λ (o : Option ConnectionState). independent_hears_on plan takes_all to (edge_numbered from) (take count (x.pipes from to)) o (x.edges to) []) here.is
        ∙ ap (λ (receiver : Receiver). hears_by plan takes_all to (edge_numbered from) (take count (x.pipes from to)) receiver (x.edges to) []) here.opened

    start_statuses : statuses_of start ≡ f.y.edges to
    start_statuses = receiver_statuses from Stopped (x.edges to) ∙ f.matches.edges to

    first_hearing : Hearing x f from to start (f.y.ways from to) start []
    first_hearing = record {
      now = f.y;
      holds = f.holds;
      here = start_statuses;
      others = λ k away. refl;
      way = refl;
      back = append-nil (switch_flight x to from) ∙ f.matches.octets to from;
      away = λ a b one two. refl;
      silent = λ b away. refl;
      receivers = λ b. refl;
      small = λ p id is. f.matches.small to p id (ap (λ (e : EdgeStatuses). e.next p) (sym (receiver_statuses from Stopped (x.edges to))) ∙ is);
      told = f.matches.told;
      past = f.matches.past;
      heard_away = λ a b two. refl;
    }

    heard : HeardSome x f from to start (here.held ++ take count (x.pipes from to)) (drop count (x.pipes from to)) (f.y.heard from to)
        (hears_all plan takes_all to (edge_numbered from) here.base (here.held ++ take count (x.pipes from to)) start [])
    unfolding first_hearing
    heard = few_heard x f from to start (suc (length (here.held ++ take count (x.pipes from to)))) here.base (here.held ++ take count (x.pipes from to)) (drop count (x.pipes from to))
        (f.y.ways from to) start [] whole first_hearing

    abbrev last : IndepState
    last = with_receiver from (Receiving heard.base heard.rest) heard.edge

    still_there : is_some (option_map receiver_part (heard.edge.connection from)) ≡ true
    still_there = ap is_some (heard.hearing.receivers from ∙ receiver_here from Stopped (x.edges to) (ap (λ (o : Option ConnectionState). is_some (option_map receiver_part o)) here.is)) ∙ refl

    last_receiver : option_map receiver_part (last.connection from) ≡ Some (Receiving heard.base heard.rest)
    last_receiver = receiver_here from (Receiving heard.base heard.rest) heard.edge still_there

    last_statuses : statuses_of last ≡ heard.hearing.now.edges to
    last_statuses = receiver_statuses from (Receiving heard.base heard.rest) heard.edge ∙ heard.hearing.here

    from_to_apart : (to == from) ≡ false
    from_to_apart = by (f.y.ways from to) refl
      where
        waiting_none : (l held : List ℕ) → held ++ l ≡ [] → is_waiting l ≡ false
        waiting_none [] held e = refl
        waiting_none (o ∷ l) [] e = absurd (cc (e))
        waiting_none (o ∷ l) (p ∷ held) e = absurd (cc (e))

        by : (ts : List StatusMessage) → f.y.ways from to ≡ ts → (to == from) ≡ false
        by [] is = true_clash (sym some ∙ waiting_none (x.pipes from to) (octets_held_by ((x.edges to).connection from)) (f.matches.octets from to ∙ ap (octets_told plan from) is))
        by (t ∷ ts) is = laws.apart t.wire to from (laws.turned t.wire from to (between_first f.y from to t ts f.holds is))

    is_delivered : IsDone plan to from x1 last heard.calls heard.hearing.now
    is_delivered = record {
      here = last_statuses;
      edges = λ k away. f.matches.edges k ∙ sym (heard.hearing.others k away);
      comes = ap (λ (l : List ℕ). l ++ at_two from to (drop count (x.pipes from to)) x.pipes from to) (held_is (last.connection from) ∙ ap held_in last_receiver)
          ∙ (ap (λ (l : List ℕ). heard.rest ++ l) (two_at from to (drop count (x.pipes from to)) x.pipes) ∙ (heard.behind ∙ ap (octets_told plan from) (sym heard.hearing.way)));
      goes = ap (λ (l : List ℕ). octets_held_by ((x.edges from).connection to) ++ (l ++ put_to from heard.calls))
          (two_away from to to from (drop count (x.pipes from to)) x.pipes (turned_away from to (apart_back to from from_to_apart)))
          ∙ (sym (append_assoc (octets_held_by ((x.edges from).connection to)) (x.pipes to from) (put_to from heard.calls)) ∙ heard.hearing.back);
      others = λ a b one two. ap (λ (l : List ℕ). octets_held_by ((x.edges b).connection a) ++ l) (two_away from to a b (drop count (x.pipes from to)) x.pipes two)
          ∙ (f.matches.octets a b ∙ ap (octets_told plan a) (sym (heard.hearing.away a b one two)));
      silent = heard.hearing.silent;
      receivers = λ b away. ap (option_map receiver_part) (receiver_other from (Receiving heard.base heard.rest) heard.edge b away)
          ∙ (heard.hearing.receivers b ∙ ap (option_map receiver_part) (receiver_other from Stopped (x.edges to) b away));
      open_here = subst AreOpen (sym last_receiver) tt;
      open_all = λ a b. inl (f.matches.open_all a b);
      small_here = λ p id is. heard.hearing.small p id (ap (λ (e : EdgeStatuses). e.next p) (sym (receiver_statuses from (Receiving heard.base heard.rest) heard.edge)) ∙ is);
      small = f.matches.small;
      told = heard.hearing.told;
      came_here = two_at from to (x.came from to ++ take count (x.pipes from to)) x.came ∙ (ap (λ (l : List ℕ). l ++ take count (x.pipes from to)) (f.matches.came from to)
          ∙ (append_assoc (octets_told plan from (f.y.heard from to)) (octets_held_by ((x.edges to).connection from)) (take count (x.pipes from to))
          ∙ (ap (λ (l : List ℕ). octets_told plan from (f.y.heard from to) ++ (l ++ take count (x.pipes from to))) (ap octets_held_by here.is ∙ ap held_with here.opened)
          ∙ (ap (λ (l : List ℕ). octets_told plan from (f.y.heard from to) ++ l) heard.split
          ∙ (sym (append_assoc (octets_told plan from (f.y.heard from to)) (octets_told plan from heard.gone) heard.rest)
          ∙ (ap (λ (l : List ℕ). l ++ heard.rest) (sym (told_both plan from (f.y.heard from to) heard.gone) ∙ ap (octets_told plan from) (sym heard.heard_is))
          ∙ ap (λ (l : List ℕ). octets_told plan from (heard.hearing.now.heard from to) ++ l) (sym (held_is (last.connection from) ∙ ap held_in last_receiver))))))));
      came = λ a b away. two_away from to a b (x.came from to ++ take count (x.pipes from to)) x.came away
          ∙ (f.matches.came a b ∙ ap (λ (ts : List StatusMessage). octets_told plan a ts ++ octets_held_by ((x.edges b).connection a)) (sym (heard.hearing.heard_away a b away)));
      past = heard.hearing.past;
    }

    deliver_follows : Follows (switch_delivering plan from to count x)
    deliver_follows = record {
      y = heard.hearing.now;
      matches = subst (λ (o : IndepOutcome). Matches plan (absorbs to o x1) heard.hearing.now) (sym (hears_is ∙ heard.is))
          (done_matches plan to from x1 last heard.calls heard.hearing.now from_to_apart is_delivered);
      holds = heard.hearing.holds;
    }

    -- what comes is not refused
    goes : IsGoing (independent_hears plan takes_all to (edge_numbered from) (take count (x.pipes from to)) (x.edges to) [])
    goes = subst IsGoing (sym (hears_is ∙ heard.is)) tt

  -- ---- every line

  one_follows : (from to : ℕ) (x : SwitchState) → Follows x → Follows (delivers_one plan from to x)
  one_follows from to x f = by (is_waiting (x.pipes from to)) refl
    where
      by : (b : Bool) → is_waiting (x.pipes from to) ≡ b → Follows (if b then switch_delivering plan from to 1 x else x)
      by true is = deliver_follows from to 1 x f is
      by false is = f

  delivers_follow : (from to : ℕ) (octets : List ℕ) (x : SwitchState) → Follows x → Follows (switch_delivers plan from to octets x)
  delivers_follow from to [] x f = f
  delivers_follow from to (octet ∷ octets) x f = delivers_follow from to octets (delivers_one plan from to x) (one_follows from to x f)

  settle_follows : (n : ℕ) (x : SwitchState) → Follows x → Follows (settling plan n x)
  settle_follows zero x f = f
  settle_follows (suc n) x f = by (next_pair plan x) refl (λ z g. settle_follows n z g)
    where
      by : (o : Option (ℕ × ℕ)) → next_pair plan x ≡ o → ((z : SwitchState) → Follows z → Follows (settling plan n z)) → Follows (delivers_next plan (settling plan n) o x)
      by None is again = f
      by (Some pair) is again = again (switch_delivers plan pair.0 pair.1 (take 65535 (x.pipes pair.0 pair.1)) x) (delivers_follow pair.0 pair.1 (take 65535 (x.pipes pair.0 pair.1)) x f)

  some_joins : (a b n : ℕ) → some_between plan a b n ≡ true → (a == b) ≡ false
  some_joins a b zero is = true_clash (sym is)
  some_joins a b (suc n) is = by (is_between plan n a b) refl is (λ later. some_joins a b n later)
    where
      by : (t : Bool) → is_between plan n a b ≡ t → (t || some_between plan a b n) ≡ true → (some_between plan a b n ≡ true → (a == b) ≡ false) → (a == b) ≡ false
      by true at found again = laws.apart n a b at
      by false at found again = again found

  not_or : (p q : Bool) → (not p || q) ≡ false → (p ≡ true) × (q ≡ false)
  not_or p q is = (grind (arith, is), grind (arith, is))

  line_follows : (line : SwitchLine) (x : SwitchState) → is_line_idle plan x line ≡ false → Follows x → Follows (does plan line x)
  line_follows (line.Connect a b) x runs f = let both = not_or (some_between plan a.0 b.0 (length plan.wires)) (switches_stand x a.0 b.0) runs in
      connect_follows a.0 b.0 x (some_joins a.0 b.0 (length plan.wires) both.0) both.1 f
  line_follows (line.Cut a b) x runs f = let both = not_or (some_between plan a.0 b.0 (length plan.wires)) (not (switches_stand x a.0 b.0)) runs in
      cut_follows a.0 b.0 x (some_joins a.0 b.0 (length plan.wires) both.0) f
  line_follows (line.Deliver from to count) x runs f = delivers_follow from.0 to.0 (take count (x.pipes from.0 to.0)) x f
  line_follows (line.Settle count) x runs f = settle_follows count x f
  line_follows (line.Set me wire wish) x runs f = let both = not_or (is_some (other_end plan me.0 wire.0)) (is_same_wish ((x.edges me.0).local wire.0) wish) runs in
      by (other_end plan me.0 wire.0) refl both.0
    where
      by : (o : Option EdgeId) → other_end plan me.0 wire.0 ≡ o → is_some o ≡ true → Follows (setting plan me.0 wire.0 wish x)
      by None is there = true_clash (sym there)
      by (Some peer) is there =
          let end = other_is plan me.0 wire.0 peer checked is in
          set_follows me.0 peer.0 wire.0 end.row wish x end.row_is end.joined (is ∙ ap (λ (e : EdgeId). Some e) end.same)
          (not_or (is_some (other_end plan me.0 wire.0)) (is_same_wish ((x.edges me.0).local wire.0) wish) runs).1 f

  done_follows : (line : SwitchLine) (x : SwitchState) → Follows x → Follows (done plan line x)
  done_follows line x f = by (is_line_idle plan x line) refl
    where
      by : (b : Bool) → is_line_idle plan x line ≡ b → Follows (if b then x else does plan line x)
      by true is = f
      by false is = line_follows line x is f

  pub all_follow : (lines : List SwitchLine) (x : SwitchState) → Follows x → Follows (done_all plan lines x)
  all_follow [] x f = f
  all_follow (line ∷ lines) x f = all_follow lines (done plan line x) (done_follows line x f)

  pub first_follows : Follows first_network
  first_follows = record {
    y = first;
    matches = record { edges = λ k. refl; octets = λ a b. refl; open_all = λ a b. tt; small = λ k p id is. absurd (cc (is)); told = λ a b. tt; came = λ a b. refl; past = λ a b. (tt, tt) };
    holds = first_holds w laws;
  }

pub deliveries_go_on : DeliveriesGoOn
deliveries_go_on plan checked types lines from to count waits =
    goes plan checked types from to count (done_all plan lines first_network) (all_follow plan checked types lines first_network (first_follows plan checked types)) waits
