-- Runs joined, and what a run that comes to its end or is stopped has done.
use Rattle.std.proofs.Common.{◌≡◌, ◌++◌, ◌∷◌, [], ◌∙◌, List, Option, Some, None, refl, ap, sym, append_assoc, append-nil, length}
use Rattle.net_base.specs.declared.plan.Plan.{Plan}
use Rattle.net_base.specs.declared.trace.entry.Entry.{Entry}
use Rattle.net_base.specs.declared.trace.event.Event.{Event}
use Rattle.network_model.specs.Run.{entries_along, state_after}
use Rattle.network_model.specs.State.{NetworkState}
use Rattle.network_model.specs.Step.{step}
use Rattle.psn_net.specs.declared.net_stop.NetStop.{NetStop}
use Rattle.psn_net.specs.declared.net_stop.NetStop.TheVariants.{Crowded, TooMuch, NoMemory}
use Rattle.psn_net.specs.Applying.{Stops}
use Rattle.psn_net.specs.Lists.{NetLists, network_seen}
use Rattle.psn_net.specs.Runs.{Ended, HasRunEvents, IsRunOf, RunHalts, ended, ran, unless}
use Rattle.psn_net.specs.Weight.{stop_at}

-- the events after some others
pub ran_append : (plan : Plan) (s : NetworkState) (t : List Entry) (xs ys : List Event)
    → ran plan s t (xs ++ ys) ≡ unless (ran plan s t xs).stop (ran plan s t xs).state (ran plan s t xs).trace (ran plan (ran plan s t xs).state (ran plan s t xs).trace ys)
ran_append plan s t [] ys = refl
ran_append plan s t (x ∷ xs) ys = by (stop_at t (length s.under_way) x) _ _ (ran_append plan (step plan s x).state (t ++ (step plan s x).entries) xs ys)
  where
    by : (o : Option NetStop) (a b : Ended) → a ≡ unless b.stop b.state b.trace (ran plan b.state b.trace ys)
        → unless o s t a ≡ unless (unless o s t b).stop (unless o s t b).state (unless o s t b).trace (ran plan (unless o s t b).state (unless o s t b).trace ys)
    by None a b h = h
    by (Some x) a b h = refl

-- a run that no limit stops comes to the state after its events
pub ran_state : (plan : Plan) (s : NetworkState) (t : List Entry) (xs : List Event) → (ran plan s t xs).stop ≡ None → (ran plan s t xs).state ≡ state_after plan s xs
ran_state plan s t [] h = refl
ran_state plan s t (x ∷ xs) h = by (stop_at t (length s.under_way) x) _ _ (ran_state plan (step plan s x).state (t ++ (step plan s x).entries) xs) h
  where
    by : (o : Option NetStop) (a : Ended) (q : NetworkState) → (a.stop ≡ None → a.state ≡ q) → (unless o s t a).stop ≡ None → (unless o s t a).state ≡ q
    by None a q f h = f h
    by (Some x) a q f h = absurd (cc (h))

-- an event that is done before others, and one that a limit stops
pub ran_first : (plan : Plan) (old now : NetLists) (event : Event) (es : List Event) → stop_at old.trace (length (network_seen old).under_way) event ≡ None
    → network_seen now ≡ (step plan (network_seen old) event).state → now.trace ≡ old.trace ++ (step plan (network_seen old) event).entries → ran plan (network_seen now) now.trace es ≡ ran plan (network_seen old) old.trace (event ∷ es)
ran_first plan old now event es none state trace =
    let rest : Ended = ran plan (step plan (network_seen old) event).state (old.trace ++ (step plan (network_seen old) event).entries) es in
    (λ i. ran plan (state i) (trace i) es) ∙ sym (ap (λ (o : Option NetStop). unless o (network_seen old) old.trace rest) none)

refused_first : (plan : Plan) (old now : NetLists) (event : Event) (es : List Event) (stop : NetStop) → stop_at old.trace (length (network_seen old).under_way) event ≡ Some stop → now ≡ old
    → ended now (Some stop) ≡ ran plan (network_seen old) old.trace (event ∷ es)
refused_first plan old now event es stop met same =
    let rest : Ended = ran plan (step plan (network_seen old) event).state (old.trace ++ (step plan (network_seen old) event).entries) es in
    ap (λ (n : NetLists). ended n (Some stop)) same ∙ sym (ap (λ (o : Option NetStop). unless o (network_seen old) old.trace rest) met)

pub halts_first : (plan : Plan) (old now : NetLists) (event : Event) (es : List Event) (stop : NetStop) → Stops old now event stop → RunHalts stop now (ran plan (network_seen old) old.trace (event ∷ es))
halts_first plan old now event es (Crowded count number) stops = refused_first plan old now event es (Crowded count number) stops.0 stops.1
halts_first plan old now event es (TooMuch weight number) stops = refused_first plan old now event es (TooMuch weight number) stops.0 stops.1
halts_first plan old now event es NoMemory stops = tt

-- the same of one event alone
pub ran_one : (plan : Plan) (old now : NetLists) (event : Event) → stop_at old.trace (length (network_seen old).under_way) event ≡ None → network_seen now ≡ (step plan (network_seen old) event).state
    → now.trace ≡ old.trace ++ (step plan (network_seen old) event).entries
    → ended now None ≡ ran plan (network_seen old) old.trace (event ∷ [])
ran_one plan old now event none state trace = ran_first plan old now event [] none state trace

pub ran_none : (plan : Plan) (old now : NetLists) (event : Event) (stop : NetStop) → Stops old now event stop → RunHalts stop now (ran plan (network_seen old) old.trace (event ∷ []))
ran_none plan old now event stop stops = halts_first plan old now event [] stop stops

-- a run that no limit stops has done all of its events
run_whole : (plan : Plan) (s : NetworkState) (t : List Entry) (es : List Event) (n : NetLists) → ended n None ≡ ran plan s t es → HasRunEvents plan s t es n
run_whole plan s t [] n h = record { state_is = ap (λ (r : Ended). r.state) h; trace_is = ap (λ (r : Ended). r.trace) h ∙ sym (append-nil t) }
run_whole plan s t (e ∷ es) n h = by (stop_at t (length s.under_way) e) h (run_whole plan (step plan s e).state (t ++ (step plan s e).entries) es n)
  where
    by : (o : Option NetStop) → ended n None ≡ unless o s t (ran plan (step plan s e).state (t ++ (step plan s e).entries) es)
        → (ended n None ≡ ran plan (step plan s e).state (t ++ (step plan s e).entries) es → HasRunEvents plan (step plan s e).state (t ++ (step plan s e).entries) es n) → HasRunEvents plan s t (e ∷ es) n
    by None q rest = record { state_is = (rest q).state_is; trace_is = (rest q).trace_is ∙ append_assoc t (step plan s e).entries (entries_along plan (step plan s e).state es) }
    by (Some x) q rest =
        let wrong : None ≡ Some x = ap (λ (r : Ended). r.stop) q in
        absurd (cc (wrong))

-- one that a limit stops has done some first ones
run_cut : (plan : Plan) (s : NetworkState) (t : List Entry) (es : List Event) (n : NetLists) (x : NetStop) → ended n (Some x) ≡ ran plan s t es → IsRunOf plan s t es n (Some x)
run_cut plan s t [] n x h =
    let wrong : Some x ≡ None = ap (λ (r : Ended). r.stop) h in
    absurd (cc (wrong))
run_cut plan s t (e ∷ es) n x h = by (stop_at t (length s.under_way) e) refl h (run_cut plan (step plan s e).state (t ++ (step plan s e).entries) es n x)
  where
    by : (o : Option NetStop) → stop_at t (length s.under_way) e ≡ o → ended n (Some x) ≡ unless o s t (ran plan (step plan s e).state (t ++ (step plan s e).entries) es)
        → (ended n (Some x) ≡ ran plan (step plan s e).state (t ++ (step plan s e).entries) es → IsRunOf plan (step plan s e).state (t ++ (step plan s e).entries) es n (Some x))
        → IsRunOf plan s t (e ∷ es) n (Some x)
    by None o q rest = let r = rest q in record {
      done = e ∷ r.done;
      are_done = record { event = r.are_done.event; rest = r.are_done.rest; split = ap (λ (l : List Event). e ∷ l) r.are_done.split; refused = r.are_done.refused };
      ran = record { state_is = r.ran.state_is; trace_is = r.ran.trace_is ∙ append_assoc t (step plan s e).entries (entries_along plan (step plan s e).state r.done) };
    }
    by (Some y) o q rest = record {
      done = [];
      are_done = record { event = e; rest = es; split = refl; refused = ap (λ (r : Ended). stop_at r.trace (length r.state.under_way) e) q ∙ (o ∙ sym (ap (λ (r : Ended). r.stop) q)) };
      ran = record { state_is = ap (λ (r : Ended). r.state) q; trace_is = ap (λ (r : Ended). r.trace) q ∙ sym (append-nil t) };
    }

pub run_of : (plan : Plan) (s : NetworkState) (t : List Entry) (es : List Event) (n : NetLists) (stop : Option NetStop) → ended n stop ≡ ran plan s t es → IsRunOf plan s t es n stop
run_of plan s t es n None h = record { done = es; are_done = refl; ran = run_whole plan s t es n h }
run_of plan s t es n (Some x) h = run_cut plan s t es n x h

-- events after those that a network has done, and after those in which one was stopped
pub ran_on : (plan : Plan) (s : NetworkState) (t : List Entry) (xs ys : List Event) (n : NetLists) → ended n None ≡ ran plan s t xs → ran plan (network_seen n) n.trace ys ≡ ran plan s t (xs ++ ys)
ran_on plan s t xs ys n h = ap (λ (r : Ended). unless r.stop r.state r.trace (ran plan r.state r.trace ys)) h ∙ sym (ran_append plan s t xs ys)

stopped_on : (plan : Plan) (s : NetworkState) (t : List Entry) (xs ys : List Event) (n : NetLists) (x : NetStop) → ended n (Some x) ≡ ran plan s t xs → ended n (Some x) ≡ ran plan s t (xs ++ ys)
stopped_on plan s t xs ys n x h = ap (λ (r : Ended). unless r.stop r.state r.trace (ran plan r.state r.trace ys)) h ∙ sym (ran_append plan s t xs ys)

pub halts_on : (plan : Plan) (s : NetworkState) (t : List Entry) (xs ys : List Event) (n : NetLists) (stop : NetStop) → RunHalts stop n (ran plan s t xs) → RunHalts stop n (ran plan s t (xs ++ ys))
halts_on plan s t xs ys n (Crowded count event) h = stopped_on plan s t xs ys n (Crowded count event) h
halts_on plan s t xs ys n (TooMuch weight event) h = stopped_on plan s t xs ys n (TooMuch weight event) h
halts_on plan s t xs ys n NoMemory h = h
