-- Where nothing can be delivered any more every service is quiet.
use Rattle.std.proofs.Common.{◌≡◌, ◌≤◌, ◌<◌, ◌==◌, ◌&&◌, ◌||◌, ◌+◌, ◌++◌, ◌∙◌, arith, length, drop, take, not, nat_lt, ℕ, zero, suc, Bool, true, false, cond, List, [], ◌∷◌, Option, Some, None, option_map, nat_eq, refl, sym, ap}
use Rattle.std.proofs.lemmas.Bool.{eqb-true}
use Rattle.std.proofs.lemmas.Bool.Decides.{nat_tests}
use Rattle.net_values.proofs.BoolLemmas.{clash, or_later}
use Rattle.net_values.proofs.NumberLemmas.{apart_back}
use Rattle.net_values.proofs.RowLemmas.{empty_of_test}
use Rattle.net_base.specs.declared.plan.Plan.{Plan}
use Rattle.net_base.specs.declared.plan.places.ServiceId.{ServiceId}
use Rattle.net_base.specs.declared.trace.entry.Entry.{Entry}
use Rattle.net_base.specs.declared.trace.entry.Entry.TheVariants as entry
use Rattle.net_base.specs.declared.trace.event.Event.{Event}
use Rattle.net_base.specs.declared.trace.event.Event.TheVariants as event
use Rattle.net_base.specs.declared.trace.state_name.StateName.{StateName}
use Rattle.net_base.specs.declared.trace.state_name.StateName.TheVariants as state
use Rattle.net_base.specs.plan.Roles.{all_below, are_joined_by}
use Rattle.net_base.specs.trace.Frame.{pair_at}
use Rattle.ldp_grammar.specs.declared.message.Message.{Message}
use Rattle.ldp_stream.specs.FrontOf.{Got, front_of}
use Rattle.ldp_stream.proofs.FrontOfLemmas.{front_is_read}
use Rattle.session_core.specs.declared.peers.Peers.{Peers}
use Rattle.pw_messages.specs.Sender.{platform_of}
use Rattle.edge_model.specs.State.{Peering, is_there}
use Rattle.network_model.specs.Calm.{is_quiet, is_settled}
use Rattle.network_model.specs.Connection.{is_deliverable, is_drained_pipe}
use Rattle.network_model.specs.Delivery.{delivery_of, first_from, first_pair, next_delivery, pair_or}
use Rattle.network_model.specs.Run.{run}
use Rattle.network_model.specs.State.{NetworkState, held, stands}
use Rattle.flight_laws.specs.Ends.{IsOrdered, ends_at}
use Rattle.flight_laws.specs.Facts.{flight}
use Rattle.flight_laws.specs.Laws.{IsRun, network_after}
use Rattle.flight_laws.specs.Messages.{AreSaid, IsSaidAcross, octets_of_all}
use Rattle.flight_laws.specs.Pair.{AreFit, ArePaired, StandsIf}
use Rattle.flight_laws.proofs.RunLemmas.{both_apart, run_ordered}
use Rattle.flight_laws.proofs.SaidLemmas.{IsReady, all_octets, ready}
use Rattle.seen_network.specs.Seen.{Seen, cut, cut_within, happened, happened_or, is_idle_behind, nothing_seen, seen_from, session_told, said_towards, told_by_itself, with_copies, with_octets, with_on, with_rest, with_standing, with_up, without_edge, repeats, origin_among}
use Rattle.seen_laws.proofs.CutLemmas.{dropped_short, few_stay, got_cut, part_stays}
use Rattle.seen_laws.proofs.RunLemmas.{run_shows}

-- ---- what was cut is cut

cut_stays : (n : ℕ) (octets : List ℕ) → length octets ≤ n → cut (cut_within n octets) ≡ cut_within n octets
cut_stays zero [] few = refl
cut_stays zero (x ∷ xs) few = absurd (omega (arith, few))
cut_stays (suc n) octets few =
    by (nat_lt (length octets) 4) (nat_lt (length octets) (4 + pair_at octets 2)) refl refl (cut_stays n (drop (4 + pair_at octets 2) octets) (dropped_short octets n (pair_at octets 2) few))
  where
    below : (a b : ℕ) → nat_lt a b ≡ true → a < b
    below a b is = grind (arith, nat_tests)

    by : (a b : Bool) → nat_lt (length octets) 4 ≡ a → nat_lt (length octets) (4 + pair_at octets 2) ≡ b → {rest : List ℕ} → cut rest ≡ rest
        → cut (cond a octets (cond b octets rest)) ≡ cond a octets (cond b octets rest)
    by true b short part again = few_stay octets (below (length octets) 4 short)
    by false true short part again = part_stays octets (below (length octets) (4 + pair_at octets 2) part)
    by false false short part again = again

cut_again : (octets : List ℕ) → cut (cut octets) ≡ cut octets
cut_again octets = cut_stays (length octets) octets (omega arith)

-- what a trace shows of what edges hold is cut
abbrev AreCut : Seen → Type 0
AreCut seen = (a b : ℕ) → cut (seen.rests a b) ≡ seen.rests a b

put_cut : (b : Bool) (octets rest : List ℕ) → cut octets ≡ octets → cut rest ≡ rest → cut (cond b octets rest) ≡ cond b octets rest
put_cut true octets rest one other = one
put_cut false octets rest one other = other

happens_cut : (e : Event) (seen : Seen) → AreCut seen → AreCut (happened e seen)
unfolding with_rest with_octets with_standing without_edge with_on with_copies
happens_cut (event.Connect from to) seen are a b = are a b
happens_cut (event.Deliver from to count) seen are a b =
    put_cut (a == to.0 && b == from.0) (cut (seen.rests to.0 from.0 ++ take count (seen.pipes from.0 to.0))) (seen.rests a b) (cut_again (seen.rests to.0 from.0 ++ take count (seen.pipes from.0 to.0))) (are a b)
happens_cut (event.Lose edge peer) seen are a b = put_cut (a == edge.0 && b == peer.0) [] (seen.rests a b) refl (are a b)
happens_cut (event.Restart edge) seen are a b = put_cut (a == edge.0) [] (seen.rests a b) refl (are a b)
happens_cut event.Tick seen are a b = are a b
happens_cut (event.Frame circuit octets) seen are a b = are a b
happens_cut (event.Arrive packet) seen are a b = are a b
happens_cut (event.Discard packet) seen are a b = are a b
happens_cut (event.Again packet) seen are a b = are a b
happens_cut (event.Wire edge wire on) seen are a b = are a b
happens_cut (event.Circuit circuit on) seen are a b = are a b
happens_cut (event.Status edge wire bits) seen are a b = are a b
happens_cut (event.Priority edge wire priority) seen are a b = are a b
happens_cut (event.Ping edge wire) seen are a b = are a b

said_cut : (from to : ℕ) (octets : List ℕ) (seen : Seen) → AreCut seen → AreCut (said_towards from to octets seen)
unfolding with_octets
said_cut from to octets seen are = by (seen.stands to from) where
  by : (b : Bool) → AreCut (cond b (with_octets from to (seen.pipes from to ++ octets) seen) seen)
  by true a b = are a b
  by false a b = are a b

session_cut : (edge peer : ℕ) (name : StateName) (seen : Seen) → AreCut seen → AreCut (session_told edge peer name seen)
unfolding with_rest with_octets with_standing
session_cut edge peer (state.Ended why) seen are a b = put_cut (a == edge && b == peer) [] (seen.rests a b) refl (are a b)
session_cut edge peer name seen are a b = are a b

repeats_cut : (number : ℕ) (origin : Option ℕ) (seen : Seen) → AreCut seen → AreCut (repeats number origin seen)
unfolding with_copies
repeats_cut number None seen are a b = are a b
repeats_cut number (Some origin) seen are a b = are a b

told_cut : (e : Entry) (seen : Seen) → AreCut seen → AreCut (told_by_itself e seen)
unfolding with_up with_copies
told_cut (entry.Said from to octets) seen are a b = said_cut from.0 to.0 octets seen are a b
told_cut (entry.Session edge peer name) seen are a b = session_cut edge.0 peer.0 name seen are a b
told_cut (entry.Wire edge wire down) seen are a b = are a b
told_cut (entry.Sent from to wire arrival packet origin hops octets) seen are a b = are a b
told_cut (entry.Copied packet of) seen are a b = repeats_cut packet (origin_among of seen.under_way) seen are a b
told_cut (entry.Aged packet) seen are a b = are a b
told_cut e seen are a b = are a b

event_cut : (idle : Bool) (e : Event) (seen : Seen) → AreCut seen → AreCut (happened_or idle e seen)
event_cut true e seen are = are
event_cut false e seen are = happens_cut e seen are

trace_cut : (seen : Seen) (es : List Entry) → AreCut seen → AreCut (seen_from seen es)
trace_cut seen [] are = are
trace_cut seen (entry.Did e ∷ es) are = trace_cut (happened_or (is_idle_behind es) e seen) es (event_cut (is_idle_behind es) e seen are)
trace_cut seen (e ∷ es) are = trace_cut (told_by_itself e seen) es (told_cut e seen are)

held_cut : (plan : Plan) (events : List Event) → IsRun plan events → (a b : ℕ) → cut (held (network_after plan events) a b) ≡ held (network_after plan events) a b
held_cut plan events is a b =
    let shown = (run_shows plan events is).rests a b in
    ap cut (sym shown) ∙ (trace_cut nothing_seen (run plan events).entries (λ x y. refl) a b ∙ shown)

-- ---- whole messages are cut away

front_said : (ends : Peers) (m : Message) (ms : List Message) → AreFit ends → IsSaidAcross ends m → AreSaid ends ms
    → front_of 4096 (octets_of_all ends.me (m ∷ ms)) ≡ Got (record { id = platform_of ends.me; messages = m ∷ [] }) (octets_of_all ends.me ms)
front_said ends m ms fit said others =
    front_is_read.written_first 4096 m (platform_of ends.me) (octets_of_all ends.me ms) (all_octets ends (m ∷ ms) fit (said, others)) (omega arith) is_ready.can is_ready.fits
    (record { router = fit.me.four; space = omega arith }) (omega (arith, is_ready.short))
  where
    is_ready : IsReady m ends.me
    is_ready = ready ends m fit said

messages_cut : (ends : Peers) (ms : List Message) → AreFit ends → AreSaid ends ms → cut (octets_of_all ends.me ms) ≡ []
messages_cut ends [] fit said = refl
messages_cut ends (m ∷ ms) fit said =
    got_cut 4096 (octets_of_all ends.me (m ∷ ms)) (octets_of_all ends.me ms) (record { id = platform_of ends.me; messages = m ∷ [] }) (all_octets ends (m ∷ ms) fit said) (omega arith)
    (front_said ends m ms fit said.0 said.1)
    ∙ messages_cut ends ms fit said.1

-- ---- nothing can be delivered

none_from : (test : ℕ → Bool) (place count k : ℕ) → first_from test place count ≡ None → place ≤ k → k < place + count → test k ≡ false
none_from test place zero k none from below = absurd (omega (arith, from, below))
none_from test place (suc count) k none from below = by (test place) refl none (λ rest later. none_from test (place + 1) count k rest later (omega (arith, below))) where
  at : (p k : ℕ) → p ≤ k → nat_eq p k ≡ false → p + 1 ≤ k
  at p k from apart = grind (arith, nat_tests)

  by : (b : Bool) → test place ≡ b → cond b (Some place) (first_from test (place + 1) count) ≡ None → (first_from test (place + 1) count ≡ None → place + 1 ≤ k → test k ≡ false) → test k ≡ false
  by true is none rest = absurd (cc (none))
  by false is none rest = either (nat_eq place k) refl where
    either : (b : Bool) → nat_eq place k ≡ b → test k ≡ false
    either true same = ap test (sym (eqb-true place k same)) ∙ is
    either false apart = rest none (at place k from apart)

none_pair : (test : ℕ → ℕ → Bool) (size place count a b : ℕ) → first_pair test size place count ≡ None → place ≤ a → a < place + count → b < size → test a b ≡ false
none_pair test size place zero a b none from below within = absurd (omega (arith, from, below))
none_pair test size place (suc count) a b none from below within =
    by (first_from (test place) 0 size) refl none (λ rest later. none_pair test size (place + 1) count a b rest later (omega (arith, below)) within) where
      at : (p k : ℕ) → p ≤ k → nat_eq p k ≡ false → p + 1 ≤ k
      at p k from apart = grind (arith, nat_tests)

      by : (o : Option ℕ) → first_from (test place) 0 size ≡ o → pair_or place o (first_pair test size (place + 1) count) ≡ None
          → (first_pair test size (place + 1) count ≡ None → place + 1 ≤ a → test a b ≡ false) → test a b ≡ false
      by (Some other) is none rest = absurd (cc (none))
      by None is none rest = either (nat_eq place a) refl where
        either : (t : Bool) → nat_eq place a ≡ t → test a b ≡ false
        either true same = ap (λ (n : ℕ). test n b) (sym (eqb-true place a same)) ∙ none_from (test place) 0 size b is (omega arith) (omega (arith, within))
        either false apart = rest none (at place a from apart)

none_of : (o : Option (ℕ × ℕ)) → option_map delivery_of o ≡ None → o ≡ None
none_of None is = refl
none_of (Some pair) is = absurd (cc (is))

-- ---- so two edges are settled

below_all : (n : ℕ) (test : ℕ → Bool) → ((k : ℕ) → k < n → test k ≡ true) → all_below n test ≡ true
below_all zero test each = refl
below_all (suc n) test each = rw (each n (omega arith), below_all n test (λ k below. each k (omega (arith, below)))) refl

held_none : (octets : List ℕ) → octets ++ [] ≡ octets
held_none [] = refl
held_none (x ∷ xs) = ap (λ (l : List ℕ). x ∷ l) (held_none xs)

length_none : (octets : List ℕ) → octets ≡ [] → nat_eq (length octets) 0 ≡ true
length_none octets is = ap (λ (l : List ℕ). nat_eq (length l) 0) is

module _ (plan : Plan) (events : List Event) (is : IsRun plan events) where
  abbrev network : NetworkState
  network = network_after plan events

  ordered : IsOrdered plan network
  ordered = run_ordered plan events is

  fit_of : (own other : Peers) (kept : Option Peering) → StandsIf own other kept → is_there kept ≡ true → AreFit own
  fit_of own other None stands there = clash there
  fit_of own other (Some kept) stands there = stands.between.one

  -- an edge holds nothing of a neighbour from which nothing is on its way
  rest_none : (a b : ℕ) → nat_eq a b ≡ false → stands network a b ≡ true → is_drained_pipe network a b ≡ true → held network b a ≡ []
  rest_none a b apart there drained =
      let pair : ArePaired (ends_at plan a b) (ends_at plan b a) ((network.edges a).peering b) ((network.edges b).peering a) (flight network a b) (flight network b a) = ordered.two a b apart in
      let fit : AreFit (ends_at plan a b) = fit_of (ends_at plan a b) (ends_at plan b a) ((network.edges a).peering b) pair.talk.here there in
      let whole : held network b a ≡ octets_of_all (ends_at plan a b).me pair.messages =
      sym (held_none (held network b a)) ∙ (ap (λ (p : List ℕ). held network b a ++ p) (sym (empty_of_test (network.pipes a b) drained)) ∙ pair.out_is) in
      sym (held_cut plan events is b a) ∙ (ap cut whole ∙ messages_cut (ends_at plan a b) pair.messages fit pair.talk.said)

  both_settled : (a b : ℕ) → is_deliverable network a b ≡ false → is_deliverable network b a ≡ false → is_settled network a b ≡ true
  both_settled a b one other = by (stands network a b) (stands network b a) refl refl where
    by : (x y : Bool) → stands network a b ≡ x → stands network b a ≡ y → is_settled network a b ≡ true
    by true true here there =
        let apart : nat_eq a b ≡ false = both_apart plan network a b ordered here in
        let out : is_drained_pipe network a b ≡ true = emptied (is_drained_pipe network a b) (rw (here, there) at one) in
        let back : is_drained_pipe network b a ≡ true = emptied (is_drained_pipe network b a) (rw (here, there) at other) in
        rw (here, there, out, back, length_none (held network b a) (rest_none a b apart here out), length_none (held network a b) (rest_none b a (apart_back a b apart) there back)) refl
      where
        emptied : (b : Bool) → not b || false ≡ false → b ≡ true
        emptied true e = refl
        emptied false e = sym e
    by true false here there = clash (sym (gone (is_drained_pipe network b a) (rw (here, there) at other))) where
      gone : (b : Bool) → not b || true ≡ false → true ≡ false
      gone true e = e
      gone false e = e
    by false true here there = clash (sym (gone (is_drained_pipe network a b) (rw (here, there) at one))) where
      gone : (b : Bool) → not b || true ≡ false → true ≡ false
      gone true e = e
      gone false e = e
    by false false here there = rw (here, there) refl

  pub rest_quiet : next_delivery plan network ≡ None → (service : ServiceId) → is_quiet plan network service ≡ true
  rest_quiet none service =
      below_all (length plan.edges) _ (λ a low. below_all (length plan.edges) _ (λ b less. or_later (not (are_joined_by plan service a b))
      (both_settled a b (never a b low less) (never b a less low))))
    where
      never : (a b : ℕ) → a < length plan.edges → b < length plan.edges → is_deliverable network a b ≡ false
      never a b low less = none_pair (is_deliverable network) (length plan.edges) 0 (length plan.edges) a b (none_of _ none) (omega arith) (omega (arith, low)) less
