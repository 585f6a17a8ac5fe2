-- The events of commands, one command after another.
use Rattle.std.proofs.Common.{◌≡◌, ◌≢◌, ◌<◌, ◌≤◌, ◌+◌, ◌-◌, ◌∷◌, ◌++◌, [], ◌∙◌, ℕ, zero, suc, List, Option, Some, None, refl, ap, sym, subst, arith, length}
use Rattle.std.specs.List.{All}
use Rattle.std.proofs.lemmas.List.Elements.{All-head, All-nil, All-tail}
use Rattle.net_base.specs.declared.plan.Plan.{Plan}
use Rattle.net_base.specs.declared.plan.places.CircuitId.{CircuitId}
use Rattle.net_base.specs.declared.trace.entry.Entry.{Entry}
use Rattle.net_base.specs.declared.trace.event.Event.{Event}
use Rattle.net_base.specs.declared.trace.event.Event.TheVariants.{Frame, Tick}
use Rattle.net_base.specs.plan.Planned.{IsFrame}
use Rattle.network_model.specs.Delivery.{next_delivery}
use Rattle.network_model.specs.Packet.{next_arrival}
use Rattle.network_model.specs.Run.{state_after}
use Rattle.network_model.specs.State.{NetworkState}
use Rattle.network_model.specs.Step.{step}
use Rattle.psn_net.specs.declared.net_stop.NetStop.{NetStop}
use Rattle.psn_net.specs.declared.net_stop.NetStop.TheVariants as net_stop
use Rattle.psn_net.specs.Applying.{Stops}
use Rattle.psn_net.specs.Lists.{NetLists, network_seen}
use Rattle.psn_net.specs.Runs.{Ended, RunHalts, ended, ran}
use Rattle.psn_net.specs.Weight.{stop_at}
use Rattle.psn_net.proofs.RunLemmas.{halts_first, halts_on, ran_first, ran_on, ran_state}
use Rattle.command_text.specs.Planned.{IsPlanned}
use Rattle.command_text.specs.declared.command.Command.{Command}
use Rattle.command_text.specs.declared.command.Command.TheVariants.{One, Settle, Flow, Ticks, Play}
use Rattle.command_run.specs.Made.{arrivals, captures_after, deliveries, frames_entering, event_and, made, made_by, next_frames, ticks, turns}

made_on : (plan : Plan) (n : NetLists) (s : NetworkState) (t : List Entry) (captures later : List (List (List ℕ))) (c : Command) (cs : List Command)
    → ended n None ≡ ran plan s t (made_by plan s captures c) → later ≡ captures_after c captures → ran plan (network_seen n) n.trace (made plan (network_seen n) later cs)
    ≡ ran plan s t (made plan s captures (c ∷ cs))
made_on plan n s t captures later c cs h is =
    let to : network_seen n ≡ state_after plan s (made_by plan s captures c) = ap (λ (r : Ended). r.state) h ∙ ran_state plan s t (made_by plan s captures c) (sym (ap (λ (r : Ended). r.stop) h)) in
    ap (λ (left : List (List (List ℕ))). ran plan (network_seen n) n.trace (made plan (network_seen n) left cs)) is
    ∙ (ap (λ (q : NetworkState). ran plan (network_seen n) n.trace (made plan q (captures_after c captures) cs)) to
    ∙ ran_on plan s t (made_by plan s captures c) (made plan (state_after plan s (made_by plan s captures c)) (captures_after c captures) cs) n h)

made_err : (plan : Plan) (n : NetLists) (stop : NetStop) (s : NetworkState) (t : List Entry) (captures : List (List (List ℕ))) (c : Command) (cs : List Command)
    → RunHalts stop n (ran plan s t (made_by plan s captures c)) → RunHalts stop n (ran plan s t (made plan s captures (c ∷ cs)))
made_err plan n stop s t captures c cs h =
    halts_on plan s t (made_by plan s captures c) (made plan (state_after plan s (made_by plan s captures c)) (captures_after c captures) cs) n stop h

-- one more command of those that are left was done by a network that keeps the plan, or was stopped
pub made_next : (plan : Plan) (old now : NetLists) (last : Ended) (captures later : List (List (List ℕ))) (c : Command) (all rest : List Command) → all ≡ c ∷ rest → old.plan ≡ plan
    → ran plan (network_seen old) old.trace (made plan (network_seen old) captures all) ≡ last → ended now None
    ≡ ran old.plan (network_seen old) old.trace (made_by old.plan (network_seen old) captures c) → later
    ≡ captures_after c captures
    → ran plan (network_seen now) now.trace (made plan (network_seen now) later rest) ≡ last
made_next plan old now last captures later c all rest is kept before h left =
    subst (λ (p : Plan). ran p (network_seen now) now.trace (made p (network_seen now) later rest) ≡ ran p (network_seen old) old.trace (made p (network_seen old) captures (c ∷ rest))) kept
    (made_on old.plan now (network_seen old) old.trace captures later c rest h left)
    ∙ (ap (λ (cs : List Command). ran plan (network_seen old) old.trace (made plan (network_seen old) captures cs)) (sym is) ∙ before)

pub made_stopped : (plan : Plan) (old now : NetLists) (last : Ended) (captures : List (List (List ℕ))) (c : Command) (all rest : List Command) (stop : NetStop) → all ≡ c ∷ rest → old.plan ≡ plan
    → ran plan (network_seen old) old.trace (made plan (network_seen old) captures all) ≡ last
    → RunHalts stop now (ran old.plan (network_seen old) old.trace (made_by old.plan (network_seen old) captures c)) → RunHalts stop now last
made_stopped plan old now last captures c all rest stop is kept before h =
    subst (λ (e : Ended). RunHalts stop now e) before
    (subst (λ (cs : List Command). RunHalts stop now (ran plan (network_seen old) old.trace (made plan (network_seen old) captures cs))) (sym is)
    (subst (λ (p : Plan). RunHalts stop now (ran p (network_seen old) old.trace (made p (network_seen old) captures (c ∷ rest)))) kept
    (made_err old.plan now stop (network_seen old) old.trace captures c rest h)))

-- the limit that stopped a run is that of what it comes to
pub stopped_end : (stop : NetStop) (left : NetLists) (end : Ended) → stop ≢ net_stop.NoMemory → RunHalts stop left end → ended left (Some stop) ≡ end
stopped_end (net_stop.Crowded count event) left end limit halts = halts
stopped_end (net_stop.TooMuch weight event) left end limit halts = halts
stopped_end net_stop.NoMemory left end limit halts = absurd (limit refl)

pub planned_first : (plan : Plan) (c : Command) (cs : List Command) → All (IsPlanned plan) (c ∷ cs) → IsPlanned plan c
planned_first plan c cs planned = All-head (IsPlanned plan) c cs planned

-- the frames of the captures that are left are short
pub left_short : (command : Command) (captures : List (List (List ℕ))) → All (All IsFrame) captures → All (All IsFrame) (captures_after command captures)
left_short (One event) captures short = short
left_short (Settle count) captures short = short
left_short (Flow count) captures short = short
left_short (Ticks count) captures short = short
left_short (Play circuit file) [] short = short
left_short (Play circuit file) (frames ∷ captures) short = All-tail (All IsFrame) frames captures short

pub next_short : (captures : List (List (List ℕ))) → All (All IsFrame) captures → All IsFrame (next_frames captures)
next_short [] short = All-nil IsFrame
next_short (frames ∷ captures) short = All-head (All IsFrame) frames captures short

-- ---- frames of a capture

pub entering_next : (plan : Plan) (old now : NetLists) (last : Ended) (circuit : CircuitId) (frame : List ℕ) (all rest : List (List ℕ)) → all ≡ frame ∷ rest → old.plan ≡ plan
    → ran plan (network_seen old) old.trace (frames_entering circuit all) ≡ last → ended now None ≡ ran old.plan (network_seen old) old.trace (Frame circuit frame ∷ [])
    → ran plan (network_seen now) now.trace (frames_entering circuit rest) ≡ last
entering_next plan old now last circuit frame all rest is kept before h =
    subst (λ (p : Plan). ran p (network_seen now) now.trace (frames_entering circuit rest) ≡ ran p (network_seen old) old.trace (frames_entering circuit (frame ∷ rest))) kept
    (ran_on old.plan (network_seen old) old.trace (Frame circuit frame ∷ []) (frames_entering circuit rest) now h)
    ∙ (ap (λ (frames : List (List ℕ)). ran plan (network_seen old) old.trace (frames_entering circuit frames)) (sym is) ∙ before)

pub entering_err : (plan : Plan) (n : NetLists) (stop : NetStop) (s : NetworkState) (t : List Entry) (circuit : CircuitId) (frame : List ℕ) (frames : List (List ℕ))
    → RunHalts stop n (ran plan s t (Frame circuit frame ∷ [])) → RunHalts stop n (ran plan s t (frames_entering circuit (frame ∷ frames)))
entering_err plan n stop s t circuit frame frames h = halts_on plan s t (Frame circuit frame ∷ []) (frames_entering circuit frames) n stop h

pub short_first : (frame : List ℕ) (frames : List (List ℕ)) → All IsFrame (frame ∷ frames) → IsFrame frame
short_first frame frames short = All-head IsFrame frame frames short

pub ruleset entering_steps = (entering_err, short_first)

ticks_more : (n i : ℕ) → i < n → ticks (n - i) ≡ Tick ∷ ticks (n - (i + 1))
ticks_more n i h = let e : n - i ≡ suc (n - (i + 1)) = omega arith in rw e refl

pub ticks_end : (n i : ℕ) → n ≤ i → ticks (n - i) ≡ []
ticks_end n i h = let e : n - i ≡ 0 = omega arith in rw e refl

-- a further tick was done, or a limit stopped it, by a network that keeps the plan
pub tick_done : (plan : Plan) (old now : NetLists) (count i : ℕ) → old.plan ≡ plan → i < count
    → stop_at old.trace (length (network_seen old).under_way) Tick ≡ None → network_seen now ≡ (step old.plan (network_seen old) Tick).state → now.trace
    ≡ old.trace ++ (step old.plan (network_seen old) Tick).entries
    → ran plan (network_seen now) now.trace (ticks (count - (i + 1))) ≡ ran plan (network_seen old) old.trace (ticks (count - i))
tick_done plan old now count i kept below none state trace =
    subst (λ (p : Plan). ran p (network_seen now) now.trace (ticks (count - (i + 1))) ≡ ran p (network_seen old) old.trace (ticks (count - i))) kept
    (ran_first old.plan old now Tick (ticks (count - (i + 1))) none state trace ∙ sym (ap (λ (es : List Event). ran old.plan (network_seen old) old.trace es) (ticks_more count i below)))

pub tick_stopped : (plan : Plan) (old now : NetLists) (stop : NetStop) (count i : ℕ) → i < count → Stops old now Tick stop
    → RunHalts stop now (ran plan (network_seen old) old.trace (ticks (count - i)))
tick_stopped plan old now stop count i below stops =
    subst (λ (es : List Event). RunHalts stop now (ran plan (network_seen old) old.trace es)) (sym (ticks_more count i below)) (halts_first plan old now Tick (ticks (count - (i + 1))) stop stops)

-- ---- turns: the next event of a kind, so many times

turns_more : (plan : Plan) (next : NetworkState → Option Event) (s : NetworkState) (n i : ℕ) (event : Event) → i < n → next s ≡ Some event
    → turns plan next (n - i) s ≡ event ∷ turns plan next (n - (i + 1)) (step plan s event).state
turns_more plan next s n i event h found =
    let e : n - i ≡ suc (n - (i + 1)) = omega arith in
    ap (λ (k : ℕ). turns plan next k s) e ∙ ap (λ (o : Option Event). event_and o (λ it. turns plan next (n - (i + 1)) (step plan s it).state)) found

-- no further turn is done at the end of the count, and none where there is no next event
turns_end : (plan : Plan) (next : NetworkState → Option Event) (s : NetworkState) (n i : ℕ) → n ≤ i → turns plan next (n - i) s ≡ []
turns_end plan next s n i h = let e : n - i ≡ 0 = omega arith in rw e refl

turns_none : (plan : Plan) (next : NetworkState → Option Event) (s : NetworkState) (n : ℕ) → next s ≡ None → turns plan next n s ≡ []
turns_none plan next s zero none = refl
turns_none plan next s (suc n) none = ap (λ (o : Option Event). event_and o (λ it. turns plan next n (step plan s it).state)) none

-- a further turn was done, or a limit stopped it, by a network that keeps the plan
turn_done : (next : Plan → NetworkState → Option Event) (plan : Plan) (old now : NetLists) (count i : ℕ) (event : Event) → old.plan ≡ plan → i < count → Some event ≡ next old.plan (network_seen old)
    → stop_at old.trace (length (network_seen old).under_way) event ≡ None → network_seen now ≡ (step old.plan (network_seen old) event).state → now.trace
    ≡ old.trace ++ (step old.plan (network_seen old) event).entries
    → ran plan (network_seen now) now.trace (turns plan (next plan) (count - (i + 1)) (network_seen now))
    ≡ ran plan (network_seen old) old.trace (turns plan (next plan) (count - i) (network_seen old))
turn_done next plan old now count i event kept below found none state trace =
    subst (λ (p : Plan). ran p (network_seen now) now.trace (turns p (next p) (count - (i + 1)) (network_seen now))
    ≡ ran p (network_seen old) old.trace (turns p (next p) (count - i) (network_seen old))) kept
    (ap (λ (s : NetworkState). ran old.plan (network_seen now) now.trace (turns old.plan (next old.plan) (count - (i + 1)) s)) state
    ∙ (ran_first old.plan old now event (turns old.plan (next old.plan) (count - (i + 1)) (step old.plan (network_seen old) event).state) none state trace
    ∙ sym (ap (λ (es : List Event). ran old.plan (network_seen old) old.trace es) (turns_more old.plan (next old.plan) (network_seen old) count i event below (sym found)))))

turn_stopped : (next : Plan → NetworkState → Option Event) (plan : Plan) (old now : NetLists) (stop : NetStop) (count i : ℕ) (event : Event) → old.plan ≡ plan → i < count → Some event
    ≡ next old.plan (network_seen old)
    → Stops old now event stop → RunHalts stop now (ran plan (network_seen old) old.trace (turns plan (next plan) (count - i) (network_seen old)))
turn_stopped next plan old now stop count i event kept below found stops =
    subst (λ (p : Plan). RunHalts stop now (ran p (network_seen old) old.trace (turns p (next p) (count - i) (network_seen old)))) kept
    (subst (λ (es : List Event). RunHalts stop now (ran old.plan (network_seen old) old.trace es)) (sym (turns_more old.plan (next old.plan) (network_seen old) count i event below (sym found)))
    (halts_first old.plan old now event (turns old.plan (next old.plan) (count - (i + 1)) (step old.plan (network_seen old) event).state) stop stops))

-- ---- deliveries

pub deliveries_end : (plan : Plan) (s : NetworkState) (n i : ℕ) → n ≤ i → deliveries plan (n - i) s ≡ []
deliveries_end plan s n i h = turns_end plan (next_delivery plan) s n i h

pub deliveries_none : (plan : Plan) (s : NetworkState) (n : ℕ) → next_delivery plan s ≡ None → deliveries plan n s ≡ []
deliveries_none plan s n none = turns_none plan (next_delivery plan) s n none

pub delivery_done : (plan : Plan) (old now : NetLists) (count i : ℕ) (event : Event) → old.plan ≡ plan → i < count → Some event ≡ next_delivery old.plan (network_seen old)
    → stop_at old.trace (length (network_seen old).under_way) event ≡ None → network_seen now ≡ (step old.plan (network_seen old) event).state → now.trace
    ≡ old.trace ++ (step old.plan (network_seen old) event).entries
    → ran plan (network_seen now) now.trace (deliveries plan (count - (i + 1)) (network_seen now)) ≡ ran plan (network_seen old) old.trace (deliveries plan (count - i) (network_seen old))
delivery_done plan old now count i event kept below found none state trace = turn_done next_delivery plan old now count i event kept below found none state trace

pub delivery_stopped : (plan : Plan) (old now : NetLists) (stop : NetStop) (count i : ℕ) (event : Event) → old.plan ≡ plan → i < count → Some event ≡ next_delivery old.plan (network_seen old)
    → Stops old now event stop → RunHalts stop now (ran plan (network_seen old) old.trace (deliveries plan (count - i) (network_seen old)))
delivery_stopped plan old now stop count i event kept below found stops = turn_stopped next_delivery plan old now stop count i event kept below found stops

pub ruleset delivery_steps = (deliveries_end, deliveries_none)

-- ---- arrivals

pub arrivals_end : (plan : Plan) (s : NetworkState) (n i : ℕ) → n ≤ i → arrivals plan (n - i) s ≡ []
arrivals_end plan s n i h = turns_end plan next_arrival s n i h

pub arrivals_none : (plan : Plan) (s : NetworkState) (n : ℕ) → next_arrival s ≡ None → arrivals plan n s ≡ []
arrivals_none plan s n none = turns_none plan next_arrival s n none

pub arrival_done : (plan : Plan) (old now : NetLists) (count i : ℕ) (event : Event) → old.plan ≡ plan → i < count → Some event ≡ next_arrival (network_seen old)
    → stop_at old.trace (length (network_seen old).under_way) event ≡ None → network_seen now ≡ (step old.plan (network_seen old) event).state → now.trace
    ≡ old.trace ++ (step old.plan (network_seen old) event).entries
    → ran plan (network_seen now) now.trace (arrivals plan (count - (i + 1)) (network_seen now)) ≡ ran plan (network_seen old) old.trace (arrivals plan (count - i) (network_seen old))
arrival_done plan old now count i event kept below found none state trace = turn_done (λ p. next_arrival) plan old now count i event kept below found none state trace

pub arrival_stopped : (plan : Plan) (old now : NetLists) (stop : NetStop) (count i : ℕ) (event : Event) → old.plan ≡ plan → i < count → Some event ≡ next_arrival (network_seen old)
    → Stops old now event stop → RunHalts stop now (ran plan (network_seen old) old.trace (arrivals plan (count - i) (network_seen old)))
arrival_stopped plan old now stop count i event kept below found stops = turn_stopped (λ p. next_arrival) plan old now stop count i event kept below found stops

pub ruleset arrival_steps = (arrivals_end, arrivals_none)
