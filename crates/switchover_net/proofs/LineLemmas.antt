-- What a line of a script makes of the network.
use Rattle.std.proofs.Common.{◌≡◌, ◌<◌, ◌≤◌, ◌==◌, ◌+◌, ◌-◌, ◌||◌, ◌++◌, ◌∙◌, ℕ, zero, suc, Bool, true, false, List, [], ◌∷◌, Option, Some, None, not, is_some, length, take, drop, min, if◌then◌else◌, refl, sym, ap, subst, arith, append_assoc, append-nil}
use Rattle.std.proofs.lemmas.Bool.{eqb-true}
use Rattle.std.proofs.lemmas.Bool.Decides.{nat_tests}
use Rattle.std.proofs.lemmas.List.{length-take}
use Rattle.net_base.specs.declared.plan.Plan.{Plan}
use Rattle.net_base.specs.declared.plan.places.EdgeId.{EdgeId}
use Rattle.net_base.specs.declared.plan.places.WireId.{WireId}
use Rattle.status_exchange.specs.declared.wish.Wish.{Wish}
use Rattle.status_exchange.specs.Exchange.{IsWiring, put_at_place, at_two}
use Rattle.status_exchange.specs.Wish.{is_same_wish}
use Rattle.status_exchange.proofs.StatusLemmas.{at_other}
use Rattle.independent_model.specs.Calls.{is_connected, loses}
use Rattle.independent_model.specs.State.{IndepState}
use Rattle.independent_model.specs.Wires.{is_between, other_end, wiring}
use Rattle.switchover_model.specs.declared.switch_entry.SwitchEntry.{SwitchEntry}
use Rattle.switchover_model.specs.declared.switch_entry.SwitchEntry.TheVariants.{Idle}
use Rattle.switchover_model.specs.declared.switch_line.SwitchLine.{SwitchLine}
use Rattle.switchover_model.specs.declared.switch_line.SwitchLine.TheVariants as line
use Rattle.switchover_model.specs.Network.{SwitchState, switch_connecting, connects_one, cutting, switch_delivers, delivers_next, delivers_one, switch_delivering, does, done, done_all, first_network, first_differing_pair, is_line_idle, is_waiting, loses_one, next_pair, settling, some_between, switches_stand}
use Rattle.switchover_model.specs.Text.{connect_entries, deliver_entries, entries, hear_entries, line_entries, lose_entries, next_entries, settle_entries}
use Rattle.switchover_model.proofs.TwoLemmas.{wiring_is}
use Rattle.switchover_net.specs.Net.{IsReached, Makes, SwitchLists, ShowsSwitchState, cut_entries, pair_entries}
use Rattle.octet_pipes.specs.Pipes.{pipes_of, with_pipe_octets}
use Rattle.switchover_net.specs.Rows.{seen_row}
use Rattle.switchover_net.proofs.PipeLemmas.{as_two}
use Rattle.switchover_net.proofs.ReachedLemmas.{reached_more}

-- ---- both edges

cleared : ℕ → ℕ → SwitchState → SwitchState
cleared a b x = record x { came = at_two a b [] (at_two b a [] x.came) }

pub both_connect : (plan : Plan) (a b : ℕ) (old mid new : SwitchLists) (first next last : List SwitchEntry)
    → Makes old mid first next (connects_one plan a b) (connect_entries plan a b) → Makes mid new next last (connects_one plan b a) (connect_entries plan b a)
    → Makes old new first last (switch_connecting plan a b) (pair_entries plan a b)
both_connect plan a b old mid new first next last one two = record {
  shows = λ x sh. two.shows (connects_one plan a b (record x { came = at_two a b [] (at_two b a [] x.came) }))
      (one.shows (record x { came = at_two a b [] (at_two b a [] x.came) }) (record { edges = sh.edges; pipes = sh.pipes }));
  tells = λ x sh. two.tells (connects_one plan a b x) (one.shows x sh) ∙ (ap (λ (l : List SwitchEntry). l ++ connect_entries plan b a (connects_one plan a b x)) (one.tells x sh)
      ∙ append_assoc first (connect_entries plan a b x) (connect_entries plan b a (connects_one plan a b x)));
}

pub both_lose : (plan : Plan) (a b : EdgeId) (old mid left new : SwitchLists) (first next last : List SwitchEntry) → (b.0 == a.0) ≡ false
    → Makes old mid first next (loses_one plan a.0 b.0) (lose_entries plan a.0 b.0) → Makes mid left next last (loses_one plan b.0 a.0) (lose_entries plan b.0 a.0)
    → new.row ≡ left.row → pipes_of new.pipes ≡ with_pipe_octets a.0 b.0 [] (with_pipe_octets b.0 a.0 [] (pipes_of left.pipes))
    → Makes old new first last (cutting plan a.0 b.0) (cut_entries plan a.0 b.0)
both_lose plan a b old mid left new first next last apart one two row pipes = record {
  shows = λ x sh. let after : ShowsSwitchState left (loses_one plan b.0 a.0 (loses_one plan a.0 b.0 x)) = two.shows (loses_one plan a.0 b.0 x) (one.shows x sh) in record {
    edges = ap seen_row row ∙ (after.edges ∙ ap (λ (e : IndepState). put_at_place b.0 (loses plan b.0 a e) (put_at_place a.0 (loses plan a.0 b (x.edges a.0)) x.edges))
        (at_other a.0 b.0 (loses plan a.0 b (x.edges a.0)) x.edges apart));
    pipes = pipes ∙ (ap (λ (p : ℕ → ℕ → List ℕ). with_pipe_octets a.0 b.0 [] p) (as_two b.0 a.0 [] (pipes_of left.pipes)) ∙ (as_two a.0 b.0 [] (at_two b.0 a.0 [] (pipes_of left.pipes))
        ∙ ap (λ (p : ℕ → ℕ → List ℕ). at_two a.0 b.0 [] (at_two b.0 a.0 [] p)) after.pipes));
  };
  tells = λ x sh. two.tells (loses_one plan a.0 b.0 x) (one.shows x sh) ∙ (ap (λ (l : List SwitchEntry). l ++ lose_entries plan b.0 a.0 (loses_one plan a.0 b.0 x)) (one.tells x sh)
      ∙ append_assoc first (lose_entries plan a.0 b.0 x) (lose_entries plan b.0 a.0 (loses_one plan a.0 b.0 x)));
}

-- ---- octets that come one by one

-- so many octets of the piece have come
pub record Delivered (plan : Plan) (from to : ℕ) (piece : List ℕ) (place : ℕ) (x : SwitchState) (now : SwitchLists) (first out : List SwitchEntry) : Type 0 where
  pub y : SwitchState
  pub shows : ShowsSwitchState now y
  pub state : switch_delivers plan from to (drop place piece) y ≡ switch_delivers plan from to piece x
  pub tells : out ++ deliver_entries plan from to (drop place piece) y ≡ first ++ deliver_entries plan from to piece x

abbrev pub piece_of : ℕ → ℕ → ℕ → SwitchState → List ℕ
piece_of count from to x = take count (x.pipes from to)

-- the same of each state that the network has shown
pub record AreDelivered (plan : Plan) (from to count place : ℕ) (old now : SwitchLists) (first out : List SwitchEntry) : Type 0 where
  pub plan_is : now.row.plan ≡ plan
  pub reached : IsReached now
  pub each : (x : SwitchState) → ShowsSwitchState old x → Delivered plan from to (piece_of count from to x) place x now first out

pub none_delivered : (plan : Plan) (from to count : ℕ) (old : SwitchLists) (first : List SwitchEntry) → old.row.plan ≡ plan → IsReached old → AreDelivered plan from to count 0 old old first first
none_delivered plan from to count old first is reached = record { plan_is = is; reached = reached; each = λ x sh. record { y = x; shows = sh; state = refl; tells = refl } }

pub one_line : (plan : Plan) (from to : EdgeId) (x : SwitchState) → delivers_one plan from.0 to.0 x ≡ done plan (line.Deliver from to 1) x
one_line plan from to x = by (x.pipes from.0 to.0) refl
  where
    by : (p : List ℕ) → x.pipes from.0 to.0 ≡ p → delivers_one plan from.0 to.0 x ≡ (if not (is_waiting p) then x else switch_delivers plan from.0 to.0 (take 1 p) x)
    by [] is = ap (λ (q : List ℕ). if is_waiting q then switch_delivering plan from.0 to.0 1 x else x) is
    by (o ∷ p) is = refl

record HasMore (l : List ℕ) (k : ℕ) : Type 0 where
  octet : ℕ
  is : drop k l ≡ octet ∷ drop (k + 1) l

has_more : (l : List ℕ) (k : ℕ) → k < length l → HasMore l k
has_more [] k inside = absurd (omega (arith, inside))
has_more (o ∷ l) zero inside = record { octet = o; is = refl }
has_more (o ∷ l) (suc k) inside = let more = has_more l k (omega (arith, inside)) in let behind : suc k + 1 ≡ suc (k + 1) = omega arith in record { octet = more.octet; is = rw behind more.is }

none_left : (l : List ℕ) (k : ℕ) → length l ≤ k → drop k l ≡ []
none_left [] zero past = refl
none_left [] (suc k) past = refl
none_left (o ∷ l) zero past = absurd (omega (arith, past))
none_left (o ∷ l) (suc k) past = none_left l k (omega (arith, past))

pub piece_long : (count : ℕ) (l : List ℕ) → length (take count l) ≡ min (length l) count
piece_long count l = length-take count l ∙ omega arith

pub more_delivered : (plan : Plan) (from to : EdgeId) (count place most : ℕ) (old now next : SwitchLists) (first out last : List SwitchEntry) → most
    ≡ min (length (pipes_of old.pipes from.0 to.0)) count → place < most
    → next.row.plan ≡ now.row.plan → Makes now next out last (delivers_one now.row.plan from.0 to.0) (hear_entries now.row.plan from.0 to.0)
    → AreDelivered plan from.0 to.0 count place old now first out → AreDelivered plan from.0 to.0 count (place + 1) old next first last
more_delivered plan from to count place most old now next first out last most_is below same made are = record {
  plan_is = same ∙ are.plan_is;
  reached = reached_more now next (line.Deliver from to 1) same are.reached (λ x sh. subst (ShowsSwitchState next) (one_line now.row.plan from to x) (made.shows x sh));
  each = λ x sh. one x sh (are.each x sh) (has_more (piece_of count from.0 to.0 x) place
      (omega (arith, below, most_is, piece_long count (x.pipes from.0 to.0), ap (λ (p : ℕ → ℕ → List ℕ). length (p from.0 to.0)) sh.pipes)));
}
  where
    here : Makes now next out last (delivers_one plan from.0 to.0) (hear_entries plan from.0 to.0)
    here = subst (λ (p : Plan). Makes now next out last (delivers_one p from.0 to.0) (hear_entries p from.0 to.0)) are.plan_is made

    one : (x : SwitchState) → ShowsSwitchState old x → Delivered plan from.0 to.0 (piece_of count from.0 to.0 x) place x now first out → HasMore (piece_of count from.0 to.0 x) place
        → Delivered plan from.0 to.0 (piece_of count from.0 to.0 x) (place + 1) x next first last
    one x sh d more = record {
      y = delivers_one plan from.0 to.0 d.y;
      shows = here.shows d.y d.shows;
      state = sym (ap (λ (l : List ℕ). switch_delivers plan from.0 to.0 l d.y) more.is) ∙ d.state;
      tells = ap (λ (l : List SwitchEntry). l ++ deliver_entries plan from.0 to.0 (drop (place + 1) (piece_of count from.0 to.0 x)) (delivers_one plan from.0 to.0 d.y)) (here.tells d.y d.shows)
          ∙ (append_assoc out (hear_entries plan from.0 to.0 d.y) (deliver_entries plan from.0 to.0 (drop (place + 1) (piece_of count from.0 to.0 x)) (delivers_one plan from.0 to.0 d.y))
          ∙ (ap (λ (l : List ℕ). out ++ deliver_entries plan from.0 to.0 l d.y) (sym more.is) ∙ d.tells));
    }

pub all_delivered : (plan : Plan) (from to : ℕ) (count place most : ℕ) (old now : SwitchLists) (first out : List SwitchEntry) → most ≡ min (length (pipes_of old.pipes from to)) count → most ≤ place
    → AreDelivered plan from to count place old now first out
    → Makes old now first out (λ x. switch_delivers plan from to (take count (x.pipes from to)) x) (λ x. deliver_entries plan from to (take count (x.pipes from to)) x)
all_delivered plan from to count place most old now first out most_is past are = record {
  shows = λ x sh. let d = are.each x sh in subst (ShowsSwitchState now) (sym (ap (λ (l : List ℕ). switch_delivers plan from to l d.y) (gone x sh)) ∙ d.state) d.shows;
  tells = λ x sh. let d = are.each x sh in sym (append-nil out) ∙ (ap (λ (l : List ℕ). out ++ deliver_entries plan from to l d.y) (sym (gone x sh)) ∙ d.tells);
}
  where
    gone : (x : SwitchState) → ShowsSwitchState old x → drop place (piece_of count from to x) ≡ []
    gone x sh = none_left (piece_of count from to x) place (omega (arith, past, most_is, piece_long count (x.pipes from to), ap (λ (p : ℕ → ℕ → List ℕ). length (p from to)) sh.pipes))

pub still_reached : (plan : Plan) (from to : ℕ) (count place : ℕ) (old now : SwitchLists) (first out : List SwitchEntry) → AreDelivered plan from to count place old now first out → IsReached now
still_reached plan from to count place old now first out are = are.reached

pub ruleset delivered_steps = (none_delivered, more_delivered, all_delivered, still_reached)

-- ---- the first pair, again and again

pub record Settled (plan : Plan) (count place : ℕ) (x : SwitchState) (now : SwitchLists) (first out : List SwitchEntry) : Type 0 where
  pub y : SwitchState
  pub shows : ShowsSwitchState now y
  pub state : settling plan (count - place) y ≡ settling plan count x
  pub tells : out ++ settle_entries plan (count - place) y ≡ first ++ settle_entries plan count x

pub record AreSettled (plan : Plan) (count place : ℕ) (old now : SwitchLists) (first out : List SwitchEntry) : Type 0 where
  pub plan_is : now.row.plan ≡ plan
  pub reached : IsReached now
  pub each : (x : SwitchState) → ShowsSwitchState old x → Settled plan count place x now first out

pub none_settled : (plan : Plan) (count : ℕ) (old : SwitchLists) (first : List SwitchEntry) → old.row.plan ≡ plan → IsReached old → AreSettled plan count 0 old old first first
none_settled plan count old first is reached = record {
  plan_is = is;
  reached = reached;
  each = λ x sh. record { y = x; shows = sh; state = ap (λ (n : ℕ). settling plan n x) all; tells = ap (λ (n : ℕ). first ++ settle_entries plan n x) all };
}
  where
    all : count - 0 ≡ count
    all = omega arith

-- the next pair of the network is that of each state that it shows
pair_shown : (plan : Plan) (now : SwitchLists) (y : SwitchState) (found : Option (ℕ × ℕ)) → ShowsSwitchState now y → now.pipes.size ≡ length plan.edges → found
    ≡ first_differing_pair (λ from to. is_waiting (pipes_of now.pipes from to)) now.pipes.size 0 now.pipes.size → next_pair plan y ≡ found
pair_shown plan now y found sh size is = sym (is ∙ (ap (λ (n : ℕ). first_differing_pair (λ from to. is_waiting (pipes_of now.pipes from to)) n 0 n) size
    ∙ ap (λ (p : ℕ → ℕ → List ℕ). first_differing_pair (λ from to. is_waiting (p from to)) (length plan.edges) 0 (length plan.edges)) sh.pipes))

pub settled_more : (plan : Plan) (count place : ℕ) (from to : EdgeId) (old now next : SwitchLists) (first out last : List SwitchEntry) → place < count → now.pipes.size ≡ length now.row.plan.edges
    → Some (from.0, to.0) ≡ first_differing_pair (λ from to. is_waiting (pipes_of now.pipes from to)) now.pipes.size 0 now.pipes.size
    → next.row.plan ≡ now.row.plan → IsReached next
    → Makes now next out last (λ x. switch_delivers now.row.plan from.0 to.0 (take 65535 (x.pipes from.0 to.0)) x) (λ x. deliver_entries now.row.plan from.0 to.0 (take 65535 (x.pipes from.0 to.0)) x)
    → AreSettled plan count place old now first out → AreSettled plan count (place + 1) old next first last
settled_more plan count place from to old now next first out last below size found same reached made are = record {
  plan_is = same ∙ are.plan_is;
  reached = reached;
  each = λ x sh. one x (are.each x sh);
}
  where
    one_more : count - place ≡ suc (count - (place + 1))
    one_more = omega (arith, below)

    here : Makes now next out last (λ x. switch_delivers plan from.0 to.0 (take 65535 (x.pipes from.0 to.0)) x) (λ x. deliver_entries plan from.0 to.0 (take 65535 (x.pipes from.0 to.0)) x)
    here = subst (λ (p : Plan). Makes now next out last (λ x. switch_delivers p from.0 to.0 (take 65535 (x.pipes from.0 to.0)) x)
        (λ x. deliver_entries p from.0 to.0 (take 65535 (x.pipes from.0 to.0)) x)) are.plan_is made

    one : (x : SwitchState) → Settled plan count place x now first out → Settled plan count (place + 1) x next first last
    one x d =
        let pair : next_pair plan d.y ≡ Some (from.0, to.0) = pair_shown plan now d.y (Some (from.0, to.0)) d.shows (size ∙ ap (λ (p : Plan). length p.edges) are.plan_is) found in
        let state : settling plan (suc (count - (place + 1))) d.y ≡ settling plan count x = ap (λ (n : ℕ). settling plan n d.y) (sym one_more) ∙ d.state in
        let tells : out ++ settle_entries plan (suc (count - (place + 1))) d.y ≡ first ++ settle_entries plan count x = ap (λ (n : ℕ). out ++ settle_entries plan n d.y) (sym one_more) ∙ d.tells in
        record {
          y = switch_delivers plan from.0 to.0 (take 65535 (d.y.pipes from.0 to.0)) d.y;
          shows = here.shows d.y d.shows;
          state = ap (λ (o : Option (ℕ × ℕ)). delivers_next plan (settling plan (count - (place + 1))) o d.y) (sym pair) ∙ state;
          tells = ap (λ (l : List SwitchEntry). l ++ settle_entries plan (count - (place + 1)) (switch_delivers plan from.0 to.0 (take 65535 (d.y.pipes from.0 to.0)) d.y)) (here.tells d.y d.shows)
              ∙ (append_assoc out (deliver_entries plan from.0 to.0 (take 65535 (d.y.pipes from.0 to.0)) d.y)
              (settle_entries plan (count - (place + 1)) (switch_delivers plan from.0 to.0 (take 65535 (d.y.pipes from.0 to.0)) d.y))
              ∙ (ap (λ (o : Option (ℕ × ℕ)). out ++ next_entries plan (settle_entries plan (count - (place + 1))) o d.y) (sym pair) ∙ tells));
        }

-- where no pair is left, nothing more is done
pub settled_none : (plan : Plan) (count place : ℕ) (old now : SwitchLists) (first out : List SwitchEntry) → place < count → now.pipes.size ≡ length now.row.plan.edges
    → None ≡ first_differing_pair (λ from to. is_waiting (pipes_of now.pipes from to)) now.pipes.size 0 now.pipes.size → AreSettled plan count place old now first out
    → Makes old now first out (settling plan count) (settle_entries plan count)
settled_none plan count place old now first out below size found are = record {
  shows = λ x sh. let d = are.each x sh in subst (ShowsSwitchState now)
      (ap (λ (o : Option (ℕ × ℕ)). delivers_next plan (settling plan (count - (place + 1))) o d.y) (sym (pair d)) ∙ (ap (λ (n : ℕ). settling plan n d.y) (sym one_more) ∙ d.state)) d.shows;
  tells = λ x sh. let d = are.each x sh in sym (append-nil out)
      ∙ (ap (λ (o : Option (ℕ × ℕ)). out ++ next_entries plan (settle_entries plan (count - (place + 1))) o d.y) (sym (pair d))
      ∙ (ap (λ (n : ℕ). out ++ settle_entries plan n d.y) (sym one_more) ∙ d.tells));
}
  where
    one_more : count - place ≡ suc (count - (place + 1))
    one_more = omega (arith, below)

    pair : {x : SwitchState} (d : Settled plan count place x now first out) → next_pair plan d.y ≡ None
    pair d = pair_shown plan now d.y None d.shows (size ∙ ap (λ (p : Plan). length p.edges) are.plan_is) found

pub settled_all : (plan : Plan) (count place : ℕ) (old now : SwitchLists) (first out : List SwitchEntry) → count ≤ place → AreSettled plan count place old now first out
    → Makes old now first out (settling plan count) (settle_entries plan count)
settled_all plan count place old now first out past are = record {
  shows = λ x sh. let d = are.each x sh in subst (ShowsSwitchState now) (ap (λ (n : ℕ). settling plan n d.y) (sym none) ∙ d.state) d.shows;
  tells = λ x sh. let d = are.each x sh in sym (append-nil out) ∙ (ap (λ (n : ℕ). out ++ settle_entries plan n d.y) (sym none) ∙ d.tells);
}
  where
    none : count - place ≡ 0
    none = omega (arith, past)

pub ruleset settled_steps = (none_settled, settled_more, settled_none, settled_all)

-- ---- wires that join two edges

or_more : (p q : Bool) → true ≡ q → true ≡ (p || q)
or_more true q is = refl
or_more false q is = is

pub joined_hit : (plan : Plan) (a b wire n : ℕ) → wire < n → is_between plan wire a b ≡ true → true ≡ some_between plan a b n
joined_hit plan a b wire zero below is = absurd (omega (arith, below))
joined_hit plan a b wire (suc n) below is = by (wire == n) refl (λ less. joined_hit plan a b wire n less is)
  where
    by : (s : Bool) → (wire == n) ≡ s → (wire < n → true ≡ some_between plan a b n) → true ≡ (is_between plan n a b || some_between plan a b n)
    by true same again = let here : is_between plan n a b ≡ true = subst (λ (k : ℕ). is_between plan k a b ≡ true) (eqb-true wire n same) is in
        sym (ap (λ (s : Bool). s || some_between plan a b n) here)
    by false apart again = or_more (is_between plan n a b) (some_between plan a b n) (again (grind (arith, nat_tests, below, apart)))

pub joined_none : (plan : Plan) (a b : ℕ) → some_between plan a b 0 ≡ false
joined_none plan a b = refl

pub joined_more : (plan : Plan) (a b wire : ℕ) → is_between plan wire a b ≡ false → some_between plan a b wire ≡ false → some_between plan a b (wire + 1) ≡ false
joined_more plan a b wire is none = let next : wire + 1 ≡ suc wire = omega arith in rw next (ap (λ (s : Bool). s || some_between plan a b wire) is ∙ none)

pub ruleset joined_steps = (joined_hit, joined_none, joined_more)

some_apart : (plan : Plan) (a b n : ℕ) → IsWiring (wiring plan) → some_between plan a b n ≡ true → (b == a) ≡ false
some_apart plan a b zero laws is = absurd (cc (is))
some_apart plan a b (suc n) laws is = by (is_between plan n a b) refl is (λ e. some_apart plan a b n laws e)
  where
    by : (s : Bool) → is_between plan n a b ≡ s → (s || some_between plan a b n) ≡ true → (some_between plan a b n ≡ true → (b == a) ≡ false) → (b == a) ≡ false
    by true here e again = laws.apart n b a (laws.turned n a b here)
    by false here e again = again e

-- ---- lines

pub cut_apart : (net : SwitchLists) (a b : EdgeId) → IsReached net → ((x : SwitchState) → ShowsSwitchState net x → is_line_idle net.row.plan x (line.Cut a b) ≡ false) → (b.0 == a.0) ≡ false
cut_apart net a b reached runs = some_apart net.row.plan a.0 b.0 (length net.row.plan.wires) (wiring_is net.row.plan reached.checked)
    (joined (some_between net.row.plan a.0 b.0 (length net.row.plan.wires)) (not (switches_stand (done_all net.row.plan reached.lines first_network) a.0 b.0))
    (runs (done_all net.row.plan reached.lines first_network) reached.shows))
  where
    joined : (p q : Bool) → (not p || q) ≡ false → p ≡ true
    joined true q is = refl
    joined false q is = absurd (cc (is))

pub set_ends : (net : SwitchLists) (me : EdgeId) (wire : WireId) (wish : Wish) → IsReached net
    → ((x : SwitchState) → ShowsSwitchState net x → is_line_idle net.row.plan x (line.Set me wire wish) ≡ false)
    → None ≡ other_end net.row.plan me.0 wire.0 → ⊥
set_ends net me wire wish reached runs none = no (is_same_wish (((done_all net.row.plan reached.lines first_network).edges me.0).local wire.0) wish)
    (other_end net.row.plan me.0 wire.0) (sym none) (runs (done_all net.row.plan reached.lines first_network) reached.shows)
  where
    no : (q : Bool) (o : Option EdgeId) → o ≡ None → (not (is_some o) || q) ≡ false → ⊥
    no q None is e = cc (e)
    no q (Some p) is e = cc (is)

pub ruleset apply_steps = (cut_apart, set_ends)

-- what a part of the network has done is what the line does
pub made_as : (plan : Plan) (line : SwitchLine) (old new : SwitchLists) (first last : List SwitchEntry) (next : SwitchState → SwitchState) (told : SwitchState → List SwitchEntry)
    → ((x : SwitchState) → next x ≡ does plan line x)
    → ((x : SwitchState) → told x ≡ entries plan line x) → Makes old new first last next told → Makes old new first last (does plan line) (entries plan line)
made_as plan line old new first last next told one two made =
    record { shows = λ x sh. subst (ShowsSwitchState new) (one x) (made.shows x sh); tells = λ x sh. made.tells x sh ∙ ap (λ (l : List SwitchEntry). first ++ l) (two x) }

-- ---- whether a line applies

pub shown_connected : (net : SwitchLists) (x : SwitchState) (a b : ℕ) → ShowsSwitchState net x → is_connected (seen_row net.row a) b ≡ is_connected (x.edges a) b
shown_connected net x a b sh = ap (λ (e : ℕ → IndepState). is_connected (e a) b) sh.edges

pub shown_waits : (net : SwitchLists) (x : SwitchState) (from to : ℕ) → ShowsSwitchState net x → is_waiting (pipes_of net.pipes from to) ≡ is_waiting (x.pipes from to)
shown_waits net x from to sh = ap (λ (p : ℕ → ℕ → List ℕ). is_waiting (p from to)) sh.pipes

pub shown_wish : (net : SwitchLists) (x : SwitchState) (me wire : ℕ) (wish : Wish) → ShowsSwitchState net x → is_same_wish ((seen_row net.row me).local wire) wish
    ≡ is_same_wish ((x.edges me).local wire) wish
shown_wish net x me wire wish sh = ap (λ (e : ℕ → IndepState). is_same_wish ((e me).local wire) wish) sh.edges

pub shown_pair : (net : SwitchLists) (x : SwitchState) → ShowsSwitchState net x → net.pipes.size ≡ length net.row.plan.edges
    → first_differing_pair (λ from to. is_waiting (pipes_of net.pipes from to)) net.pipes.size 0 net.pipes.size ≡ next_pair net.row.plan x
shown_pair net x sh size = sym (pair_shown net.row.plan net x (first_differing_pair (λ from to. is_waiting (pipes_of net.pipes from to)) net.pipes.size 0 net.pipes.size) sh size refl)

-- a test of what is there by a test of what is not
pub turned_test : (some none : Bool) → some ≡ not none → none ≡ not some
turned_test some true is = ap not (sym is)
turned_test some false is = ap not (sym is)

pub ruleset idle_steps = (shown_connected, shown_waits, shown_wish, shown_pair)

-- ---- a line

pub idle_done : (net : SwitchLists) (line : SwitchLine) (idle : Bool) → idle ≡ true → ((x : SwitchState) → ShowsSwitchState net x → idle ≡ is_line_idle net.row.plan x line) → (x : SwitchState)
    → ShowsSwitchState net x → ShowsSwitchState net (done net.row.plan line x)
idle_done net line idle is all x sh = subst (λ (b : Bool). ShowsSwitchState net (if b then x else does net.row.plan line x)) (sym is ∙ all x sh) sh

pub idle_told : (net : SwitchLists) (line : SwitchLine) (idle : Bool) → idle ≡ true → ((x : SwitchState) → ShowsSwitchState net x → idle ≡ is_line_idle net.row.plan x line) → (x : SwitchState)
    → ShowsSwitchState net x → Idle ∷ [] ≡ line_entries net.row.plan line x
idle_told net line idle is all x sh = ap (λ (b : Bool). if b then Idle ∷ [] else entries net.row.plan line x) (sym is ∙ all x sh)

pub line_runs : (net : SwitchLists) (line : SwitchLine) (idle : Bool) → idle ≡ false → ((x : SwitchState) → ShowsSwitchState net x → idle ≡ is_line_idle net.row.plan x line) → (x : SwitchState)
    → ShowsSwitchState net x → is_line_idle net.row.plan x line ≡ false
line_runs net line idle is all x sh = sym (all x sh) ∙ is

pub runs_done : (old new : SwitchLists) (line : SwitchLine) (first last : List SwitchEntry) (idle : Bool) → idle ≡ false
    → ((x : SwitchState) → ShowsSwitchState old x → idle ≡ is_line_idle old.row.plan x line)
    → Makes old new first last (does old.row.plan line) (entries old.row.plan line) → (x : SwitchState) → ShowsSwitchState old x → ShowsSwitchState new (done old.row.plan line x)
runs_done old new line first last idle is all made x sh = subst (λ (b : Bool). ShowsSwitchState new (if b then x else does old.row.plan line x)) (sym is ∙ all x sh) (made.shows x sh)

pub runs_told : (old new : SwitchLists) (line : SwitchLine) (last : List SwitchEntry) (idle : Bool) → idle ≡ false
    → ((x : SwitchState) → ShowsSwitchState old x → idle ≡ is_line_idle old.row.plan x line)
    → Makes old new [] last (does old.row.plan line) (entries old.row.plan line) → (x : SwitchState) → ShowsSwitchState old x → last ≡ line_entries old.row.plan line x
runs_told old new line last idle is all made x sh = made.tells x sh ∙ ap (λ (b : Bool). if b then Idle ∷ [] else entries old.row.plan line x) (sym is ∙ all x sh)

pub runs_reached : (old new : SwitchLists) (line : SwitchLine) (first last : List SwitchEntry) (idle : Bool) → idle ≡ false
    → ((x : SwitchState) → ShowsSwitchState old x → idle ≡ is_line_idle old.row.plan x line) → new.row.plan ≡ old.row.plan → IsReached old
    → Makes old new first last (does old.row.plan line) (entries old.row.plan line) → IsReached new
runs_reached old new line first last idle is all same reached made = reached_more old new line same reached (λ x sh. runs_done old new line first last idle is all made x sh)

pub ruleset line_steps = (idle_done, idle_told, line_runs, runs_done, runs_told, runs_reached)
