-- What a call of one edge makes of the network.
use Rattle.std.proofs.Common.{◌≡◌, ◌==◌, ◌&&◌, ◌++◌, ◌∙◌, ℕ, Bool, true, false, List, [], Some, Result, Ok, Err, OnOk, take, drop, if◌then◌else◌, refl, sym, ap, subst, append_assoc, append-nil}
use Rattle.std.proofs.lemmas.Bool.{eqb-true}
use Rattle.net_base.specs.declared.outside.link_call.LinkCall.{LinkCall}
use Rattle.net_base.specs.declared.plan.Plan.{Plan}
use Rattle.net_base.specs.declared.plan.places.EdgeId.{EdgeId}
use Rattle.status_exchange.specs.declared.wish.Wish.{Wish}
use Rattle.status_exchange.specs.Exchange.{put_at_place, at_two}
use Rattle.status_exchange.proofs.StatusLemmas.{at_same}
use Rattle.independent_model.specs.Calls.{independent_connects, independent_hears, loses, sets}
use Rattle.independent_model.specs.State.{IndepState, first_state}
use Rattle.independent_model.specs.Wires.{other_end}
use Rattle.independent_model.specs.Work.{IndepOutcome}
use Rattle.switchover_model.specs.declared.switch_entry.SwitchEntry.{SwitchEntry}
use Rattle.switchover_model.specs.Network.{SwitchState, calls_of, connects_one, switch_delivering, delivers_one, edge_after, first_network, is_waiting, loses_one, put_to, setting, takes_all}
use Rattle.switchover_model.specs.Text.{connect_entries, hear_entries, lose_entries, moment, said_entries, set_entries, turned_all, used}
use Rattle.switchover_net.specs.Net.{Makes, SwitchLists, ShowsSwitchState}
use Rattle.octet_pipes.specs.Pipes.{no_octets, pipes_of}
use Rattle.switchover_net.specs.Pipes.{bytes_of}
use Rattle.switchover_net.specs.Rows.{HasDoneWork, RowLists, seen_row}
use Rattle.switchover_net.proofs.ToLemmas.{AllTo, all_said, connects_to, hears_to, none_said, sets_to}

-- ---- by what a call has answered

pub ok_then : {A E P Q : Type 0} (r : Result A E) → (P → Q) → OnOk r P → OnOk r Q
ok_then (Ok a) f p = f p
ok_then (Err e) f p = tt

pub ok_both : {A E P Q R : Type 0} (r : Result A E) → (P → Q → R) → OnOk r P → OnOk r Q → OnOk r R
ok_both (Ok a) f p q = f p q
ok_both (Err e) f p q = tt

-- ---- what is put goes into the pipe to the peer

put_there : (me peer : ℕ) (calls : List LinkCall) (q : ℕ → ℕ → List ℕ) → AllTo peer calls → (a b : ℕ)
    → at_two me peer (q me peer ++ bytes_of calls) q a b ≡ (if a == me then q a b ++ put_to b calls else q a b)
put_there me peer calls q all a b = by (a == me) (b == peer) refl refl
  where
    same : (j k : ℕ) → j ≡ me → k ≡ peer → q me peer ++ bytes_of calls ≡ q j k ++ put_to k calls
    same j k one two = rw (one, two) (ap (λ (l : List ℕ). q me peer ++ l) (sym (all_said peer calls all)))

    by : (s t : Bool) → (a == me) ≡ s → (b == peer) ≡ t → (if s && t then q me peer ++ bytes_of calls else q a b) ≡ (if s then q a b ++ put_to b calls else q a b)
    by true true one two = same a b (eqb-true a me one) (eqb-true b peer two)
    by true false one two = sym (append-nil (q a b)) ∙ ap (λ (l : List ℕ). q a b ++ l) (sym (none_said peer b calls all two))
    by false t one two = refl

-- an edge has done a work for a peer, over the edges and over octets that were on their way
pub record Worked (plan : Plan) (me : ℕ) (work : (ℕ → ℕ → List ℕ) → IndepState → IndepOutcome) (left : (ℕ → ℕ → List ℕ) → ℕ → ℕ → List ℕ) (new : SwitchLists) (first last : List SwitchEntry) (e : ℕ → IndepState) (p : ℕ → ℕ → List ℕ) : Type 0 where
  pub edges : seen_row new.row ≡ put_at_place me (edge_after (work p (e me))) e
  pub pipes : pipes_of new.pipes ≡ (λ a b. if a == me then left p a b ++ put_to b (calls_of (work p (e me))) else left p a b)
  pub tells : last ≡ first ++ moment plan me (work p (e me)) (e me)

module _ (plan : Plan) (me peer : ℕ) (work : (ℕ → ℕ → List ℕ) → IndepState → IndepOutcome) (left : (ℕ → ℕ → List ℕ) → ℕ → ℕ → List ℕ) (old new : SwitchLists) (row : RowLists) (calls : List LinkCall) (before : List Bool) (first last : List SwitchEntry)
    (all : (p : ℕ → ℕ → List ℕ) (e : IndepState) → AllTo peer (calls_of (work p e)))
    (done : HasDoneWork me old.row row calls (work (pipes_of old.pipes) (seen_row old.row me))) (row_is : new.row ≡ row) (was : before ≡ used plan me (seen_row old.row me))
    (put : pipes_of new.pipes ≡ at_two me peer (left (pipes_of old.pipes) me peer ++ bytes_of calls) (left (pipes_of old.pipes)))
    (told : last ≡ (first ++ said_entries me calls) ++ turned_all me 0 before (used plan me (seen_row row me))) where
  abbrev outcome : IndepOutcome
  outcome = work (pipes_of old.pipes) (seen_row old.row me)

  here : Worked plan me work left new first last (seen_row old.row) (pipes_of old.pipes)
  here = record {
    edges = ap seen_row row_is ∙ done.state;
    pipes = put ∙ (ap (λ (c : List LinkCall). at_two me peer (left (pipes_of old.pipes) me peer ++ bytes_of c) (left (pipes_of old.pipes))) done.put
        ∙ (λ i a b. put_there me peer (calls_of outcome) (left (pipes_of old.pipes)) (all (pipes_of old.pipes) (seen_row old.row me)) a b i));
    tells = told ∙ (ap (λ (c : List LinkCall). (first ++ said_entries me c) ++ turned_all me 0 before (used plan me (seen_row row me))) done.put
        ∙ (ap (λ (b : List Bool). (first ++ said_entries me (calls_of outcome)) ++ turned_all me 0 b (used plan me (seen_row row me))) was
        ∙ (ap (λ (s : IndepState). (first ++ said_entries me (calls_of outcome)) ++ turned_all me 0 (used plan me (seen_row old.row me)) (used plan me s))
        (ap (λ (f : ℕ → IndepState). f me) done.state ∙ at_same me (edge_after outcome) (seen_row old.row))
        ∙ append_assoc first (said_entries me (calls_of outcome)) (turned_all me 0 (used plan me (seen_row old.row me)) (used plan me (edge_after outcome))))));
  }

  pub worked : (x : SwitchState) → ShowsSwitchState old x → Worked plan me work left new first last x.edges x.pipes
  worked x sh = subst (λ (e : ℕ → IndepState). Worked plan me work left new first last e x.pipes) sh.edges
      (subst (λ (p : ℕ → ℕ → List ℕ). Worked plan me work left new first last (seen_row old.row) p) sh.pipes here)

-- ---- each call

pub connected : (plan : Plan) (me : ℕ) (peer : EdgeId) (old new : SwitchLists) (row : RowLists) (calls : List LinkCall) (before : List Bool) (first last : List SwitchEntry)
    → HasDoneWork me old.row row calls (independent_connects plan takes_all me peer (seen_row old.row me) []) → new.row ≡ row → before ≡ used plan me (seen_row old.row me)
    → pipes_of new.pipes ≡ at_two me peer.0 (pipes_of old.pipes me peer.0 ++ bytes_of calls) (pipes_of old.pipes)
    → last ≡ (first ++ said_entries me calls) ++ turned_all me 0 before (used plan me (seen_row row me))
    → Makes old new first last (connects_one plan me peer.0) (connect_entries plan me peer.0)
connected plan me peer old new row calls before first last done row_is was put told =
    let w : (x : SwitchState) → ShowsSwitchState old x → Worked plan me (λ p e. independent_connects plan takes_all me peer e []) (λ p. p) new first last x.edges x.pipes
    = worked plan me peer.0 (λ p e. independent_connects plan takes_all me peer e []) (λ p. p) old new row calls before first last
    (λ p e. connects_to plan takes_all me peer e) done row_is was put told in
    record { shows = λ x sh. record { edges = (w x sh).edges; pipes = (w x sh).pipes }; tells = λ x sh. (w x sh).tells }

pub was_set : (plan : Plan) (me wire : ℕ) (peer : EdgeId) (wish : Wish) (old new : SwitchLists) (row : RowLists) (calls : List LinkCall) (before : List Bool) (first last : List SwitchEntry)
    → other_end plan me wire ≡ Some peer → HasDoneWork me old.row row calls (sets plan takes_all me wire wish (seen_row old.row me) []) → new.row ≡ row → before ≡ used plan me (seen_row old.row me)
    → pipes_of new.pipes ≡ at_two me peer.0 (pipes_of old.pipes me peer.0 ++ bytes_of calls) (pipes_of old.pipes)
    → last ≡ (first ++ said_entries me calls) ++ turned_all me 0 before (used plan me (seen_row row me))
    → Makes old new first last (setting plan me wire wish) (set_entries plan me wire wish)
was_set plan me wire peer wish old new row calls before first last other done row_is was put told =
    let w : (x : SwitchState) → ShowsSwitchState old x → Worked plan me (λ p e. sets plan takes_all me wire wish e []) (λ p. p) new first last x.edges x.pipes
    = worked plan me peer.0 (λ p e. sets plan takes_all me wire wish e []) (λ p. p) old new row calls before first last
    (λ p e. sets_to plan takes_all me peer wire wish e other) done row_is was put told in
    record { shows = λ x sh. record { edges = (w x sh).edges; pipes = (w x sh).pipes }; tells = λ x sh. (w x sh).tells }

pub was_heard : (plan : Plan) (me : ℕ) (peer : EdgeId) (old new : SwitchLists) (row : RowLists) (calls : List LinkCall) (before : List Bool) (first last : List SwitchEntry)
    → is_waiting (pipes_of old.pipes peer.0 me) ≡ true
    → HasDoneWork me old.row row calls (independent_hears plan takes_all me peer (take 1 (pipes_of old.pipes peer.0 me)) (seen_row old.row me) []) → new.row ≡ row → before
    ≡ used plan me (seen_row old.row me)
    → pipes_of new.pipes ≡ at_two me peer.0 (at_two peer.0 me (drop 1 (pipes_of old.pipes peer.0 me)) (pipes_of old.pipes) me peer.0 ++ bytes_of calls)
    (at_two peer.0 me (drop 1 (pipes_of old.pipes peer.0 me)) (pipes_of old.pipes))
    → last ≡ (first ++ said_entries me calls) ++ turned_all me 0 before (used plan me (seen_row row me))
    → Makes old new first last (delivers_one plan peer.0 me) (hear_entries plan peer.0 me)
was_heard plan me peer old new row calls before first last waits done row_is was put told =
    let w : (x : SwitchState) → ShowsSwitchState old x → Worked plan me (λ p e. independent_hears plan takes_all me peer (take 1 (p peer.0 me)) e [])
    (λ p. at_two peer.0 me (drop 1 (p peer.0 me)) p) new first last x.edges x.pipes
    = worked plan me peer.0 (λ p e. independent_hears plan takes_all me peer (take 1 (p peer.0 me)) e []) (λ p. at_two peer.0 me (drop 1 (p peer.0 me)) p) old new row calls before first last
    (λ p e. hears_to plan takes_all me peer (take 1 (p peer.0 me)) e) done row_is was put told in
    let wait : (x : SwitchState) → ShowsSwitchState old x → is_waiting (x.pipes peer.0 me) ≡ true = λ x sh. ap (λ (p : ℕ → ℕ → List ℕ). is_waiting (p peer.0 me)) (sym sh.pipes) ∙ waits in
    record {
      shows = λ x sh. subst (λ (b : Bool). ShowsSwitchState new (if b then switch_delivering plan peer.0 me 1 x else x)) (sym (wait x sh)) (record { edges = (w x sh).edges; pipes = (w x sh).pipes });
      tells = λ x sh. subst (λ (b : Bool). last ≡ first ++ (if b then moment plan me (independent_hears plan takes_all me peer (take 1 (x.pipes peer.0 me)) (x.edges me) []) (x.edges me) else []))
          (sym (wait x sh)) (w x sh).tells;
    }

pub none_waits : (plan : Plan) (from to : ℕ) (old : SwitchLists) (first : List SwitchEntry) → is_waiting (pipes_of old.pipes from to) ≡ false
    → Makes old old first first (delivers_one plan from to) (hear_entries plan from to)
none_waits plan from to old first waits =
    let wait : (x : SwitchState) → ShowsSwitchState old x → is_waiting (x.pipes from to) ≡ false = λ x sh. ap (λ (p : ℕ → ℕ → List ℕ). is_waiting (p from to)) (sym sh.pipes) ∙ waits in
    record {
      shows = λ x sh. subst (λ (b : Bool). ShowsSwitchState old (if b then switch_delivering plan from to 1 x else x)) (sym (wait x sh)) sh;
      tells = λ x sh. subst (λ (b : Bool). first ≡ first
          ++ (if b then moment plan to (independent_hears plan takes_all to (record { 0 = from }) (take 1 (x.pipes from to)) (x.edges to) []) (x.edges to) else [])) (sym (wait x sh))
          (sym (append-nil first));
    }

pub was_lost : (plan : Plan) (me : ℕ) (peer : EdgeId) (old new : SwitchLists) (before : List Bool) (first last : List SwitchEntry)
    → seen_row new.row ≡ put_at_place me (loses plan me peer (seen_row old.row me)) (seen_row old.row) → pipes_of new.pipes ≡ pipes_of old.pipes → before ≡ used plan me (seen_row old.row me)
    → last ≡ first ++ turned_all me 0 before (used plan me (seen_row new.row me))
    → Makes old new first last (loses_one plan me peer.0) (lose_entries plan me peer.0)
was_lost plan me peer old new before first last done pipes was told = record {
  shows = λ x sh. record { edges = subst (λ (e : ℕ → IndepState). seen_row new.row ≡ put_at_place me (loses plan me peer (e me)) e) sh.edges done; pipes = pipes ∙ sh.pipes };
  tells = λ x sh. subst (λ (e : ℕ → IndepState). last ≡ first ++ turned_all me 0 (used plan me (e me)) (used plan me (loses plan me peer (e me)))) sh.edges
      (told ∙ (ap (λ (b : List Bool). first ++ turned_all me 0 b (used plan me (seen_row new.row me))) was
      ∙ ap (λ (s : IndepState). first ++ turned_all me 0 (used plan me (seen_row old.row me)) (used plan me s))
      (ap (λ (f : ℕ → IndepState). f me) done ∙ at_same me (loses plan me peer (seen_row old.row me)) (seen_row old.row))));
}

-- the network before its first line
pub opened : (net : SwitchLists) → seen_row net.row ≡ (λ me. first_state) → pipes_of net.pipes ≡ no_octets → ShowsSwitchState net first_network
opened net edges pipes = record { edges = edges; pipes = pipes }
