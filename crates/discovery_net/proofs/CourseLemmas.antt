-- What acts come to, one after another.
use Rattle.std.proofs.Common.{◌≡◌, ◌≢◌, ◌++◌, ◌∷◌, [], ◌∙◌, List, Option, Some, None, Result, Ok, Err, length, append-nil, refl, ap, sym}
use Rattle.net_base.specs.declared.plan.Plan.{Plan}
use Rattle.net_base.specs.declared.trace.entry.Entry.{Entry}
use Rattle.net_base.specs.declared.trace.event.Event.{Event}
use Rattle.network_model.specs.Run.{state_after}
use Rattle.network_model.specs.State.{NetworkState}
use Rattle.network_model.specs.Step.{step}
use Rattle.psn_net.specs.declared.net_stop.NetStop.{NetStop}
use Rattle.psn_net.specs.declared.net_stop.NetStop.TheVariants.{Crowded, TooMuch, NoMemory}
use Rattle.psn_net.specs.Applying.{Stops}
use Rattle.psn_net.specs.Lists.{network_seen}
use Rattle.psn_net.specs.Runs.{Ended, GivesNetwork, RunHalts, ended, ran}
use Rattle.psn_net.specs.Runs as runs
use Rattle.psn_net.specs.Weight.{stop_at}
use Rattle.psn_net.proofs.RunLemmas.{ran_state}
use Rattle.discovery_script.specs.declared.note.Note.{Note}
use Rattle.discovery_script.specs.declared.placed_note.PlacedNote.{PlacedNote}
use Rattle.discovery_net.specs.Acts.{Act, Does, Tells, Course, all_done, course, course_of, events_in, noted, unless_stopped}
use Rattle.discovery_net.specs.Lists.{Acts, DiscoveryLists, HaltsAt, HaltsIn, HasDoneActs, course_on, ended_at}

-- a course without its notes
abbrev pub network_of : Course → Ended
network_of c = record { state = c.state; trace = c.trace; stop = c.stop }

-- is the run of its events
pub course_ran : (plan : Plan) (s : NetworkState) (t : List Entry) (notes : List PlacedNote) (acts : List Act) → network_of (course plan s t notes acts) ≡ ran plan s t (events_in acts)
course_ran plan s t notes [] = refl
course_ran plan s t notes (Tells note ∷ acts) = course_ran plan s t (noted t notes note) acts
course_ran plan s t notes (Does event ∷ acts) =
    by (stop_at t (length s.under_way) event) (course plan (step plan s event).state (t ++ (step plan s event).entries) notes acts)
    (ran plan (step plan s event).state (t ++ (step plan s event).entries) (events_in acts))
    (course_ran plan (step plan s event).state (t ++ (step plan s event).entries) notes acts)
  where
    by : (o : Option NetStop) (c : Course) (e : Ended) → network_of c ≡ e → network_of (unless_stopped o (course_of s t notes None) c) ≡ runs.unless o s t e
    by None c e same = same
    by (Some stop) c e same = refl

-- the state behind acts
pub state_done : (old now : DiscoveryLists) (acts : List Act) → HasDoneActs old now acts → network_seen now.network ≡ state_after old.network.plan (network_seen old.network) (events_in acts)
state_done old now acts done =
    let events : List Event = events_in (acts ++ []) in
    let end : network_of (course_on now []) ≡ ran old.network.plan (network_seen old.network) old.network.trace events =
    ap network_of (done []) ∙ course_ran old.network.plan (network_seen old.network) old.network.trace old.notes (acts ++ []) in
    let stops : (ran old.network.plan (network_seen old.network) old.network.trace events).stop ≡ None = sym (ap (λ (e : Ended). e.stop) end) in
    ap (λ (e : Ended). e.state) end
    ∙ (ran_state old.network.plan (network_seen old.network) old.network.trace events stops
    ∙ ap (λ (acts : List Act). state_after old.network.plan (network_seen old.network) (events_in acts)) (append-nil acts))

-- ---- one act

pub does_one : (old now : DiscoveryLists) (event : Event) → now.network.plan ≡ old.network.plan → stop_at old.network.trace (length (network_seen old.network).under_way) event ≡ None
    → network_seen now.network ≡ (step old.network.plan (network_seen old.network) event).state → now.network.trace
    ≡ old.network.trace ++ (step old.network.plan (network_seen old.network) event).entries
    → now.notes ≡ old.notes
    → HasDoneActs old now (Does event ∷ [])
does_one old now event kept none state trace same rest =
    let behind : Course = course old.network.plan (step old.network.plan (network_seen old.network) event).state
    (old.network.trace ++ (step old.network.plan (network_seen old.network) event).entries) old.notes rest in
    (λ i. course (kept i) (state i) (trace i) (same i) rest)
    ∙ sym (ap (λ (o : Option NetStop). unless_stopped o (course_of (network_seen old.network) old.network.trace old.notes None) behind) none)

refused_one : (old now : DiscoveryLists) (event : Event) (stop : NetStop) → stop_at old.network.trace (length (network_seen old.network).under_way) event ≡ Some stop → now.network
    ≡ old.network → now.notes ≡ old.notes
    → (rest : List Act) → ended_at now (Some stop) ≡ course_on old (Does event ∷ rest)
refused_one old now event stop met kept same rest =
    let behind : Course = course old.network.plan (step old.network.plan (network_seen old.network) event).state
    (old.network.trace ++ (step old.network.plan (network_seen old.network) event).entries) old.notes rest in
    (λ i. course_of (network_seen (kept i)) (kept i).trace (same i) (Some stop))
    ∙ sym (ap (λ (o : Option NetStop). unless_stopped o (course_of (network_seen old.network) old.network.trace old.notes None) behind) met)

pub does_none : (old now : DiscoveryLists) (event : Event) (stop : NetStop) → Stops old.network now.network event stop → now.notes ≡ old.notes → HaltsIn stop old now (Does event ∷ [])
does_none old now event (Crowded count number) stops same rest = refused_one old now event (Crowded count number) stops.0 stops.1 same rest
does_none old now event (TooMuch weight number) stops same rest = refused_one old now event (TooMuch weight number) stops.0 stops.1 same rest
does_none old now event NoMemory stops same rest = tt

pub tells_one : (old now : DiscoveryLists) (note : Note) → now.network ≡ old.network → now.notes ≡ noted old.network.trace old.notes note → HasDoneActs old now (Tells note ∷ [])
tells_one old now note kept more rest = λ i. course (kept i).plan (network_seen (kept i)) (kept i).trace (more i) rest

-- ---- events in turn

-- events alone tell nothing
pub done_alone : (events : List Event) → events_in (all_done events) ≡ events
done_alone [] = refl
done_alone (e ∷ es) = ap (λ (l : List Event). e ∷ l) (done_alone es)

-- further acts behind a run
abbrev goes_on : Plan → List PlacedNote → List Act → Ended → Course
goes_on plan notes rest e = unless_stopped e.stop (course_of e.state e.trace notes None) (course plan e.state e.trace notes rest)

course_events : (plan : Plan) (s : NetworkState) (t : List Entry) (notes : List PlacedNote) (es : List Event) (rest : List Act) → course plan s t notes (all_done es ++ rest)
    ≡ goes_on plan notes rest (ran plan s t es)
course_events plan s t notes [] rest = refl
course_events plan s t notes (e ∷ es) rest =
    by (stop_at t (length s.under_way) e) (course plan (step plan s e).state (t ++ (step plan s e).entries) notes (all_done es ++ rest))
    (ran plan (step plan s e).state (t ++ (step plan s e).entries) es)
    (course_events plan (step plan s e).state (t ++ (step plan s e).entries) notes es rest)
  where
    by : (o : Option NetStop) (c : Course) (r : Ended) → c ≡ goes_on plan notes rest r → unless_stopped o (course_of s t notes None) c ≡ goes_on plan notes rest (runs.unless o s t r)
    by None c r same = same
    by (Some stop) c r same = refl

pub events_done : (old now : DiscoveryLists) (es : List Event) → now.network.plan ≡ old.network.plan → now.notes ≡ old.notes → ended now.network None
    ≡ ran old.network.plan (network_seen old.network) old.network.trace es
    → HasDoneActs old now (all_done es)
events_done old now es kept same is rest =
    (λ i. course (kept i) (network_seen now.network) now.network.trace (same i) rest)
    ∙ ap (goes_on old.network.plan old.notes rest) is
    ∙ sym (course_events old.network.plan (network_seen old.network) old.network.trace old.notes es rest)

halted : (old now : DiscoveryLists) (es : List Event) (stop : NetStop) → now.notes ≡ old.notes → ended now.network (Some stop) ≡ ran old.network.plan (network_seen old.network) old.network.trace es
    → (rest : List Act) → ended_at now (Some stop) ≡ course_on old (all_done es ++ rest)
halted old now es stop same is rest =
    (λ i. course_of (network_seen now.network) now.network.trace (same i) (Some stop))
    ∙ ap (goes_on old.network.plan old.notes rest) is
    ∙ sym (course_events old.network.plan (network_seen old.network) old.network.trace old.notes es rest)

pub events_halted : (old now : DiscoveryLists) (es : List Event) (stop : NetStop) → now.notes ≡ old.notes
    → RunHalts stop now.network (ran old.network.plan (network_seen old.network) old.network.trace es) → HaltsIn stop old now (all_done es)
events_halted old now es (Crowded count event) same halts rest = halted old now es (Crowded count event) same halts rest
events_halted old now es (TooMuch weight event) same halts rest = halted old now es (TooMuch weight event) same halts rest
events_halted old now es NoMemory same halts rest = tt

pub events_come : {A : Type 0} (result : Result A NetStop) (old now : DiscoveryLists) (es : List Event) → now.network.plan ≡ old.network.plan → now.notes ≡ old.notes
    → GivesNetwork result now.network (ran old.network.plan (network_seen old.network) old.network.trace es) → Acts result old now (all_done es)
events_come (Ok done) old now es kept same gives = events_done old now es kept same gives
events_come (Err stop) old now es kept same gives = events_halted old now es stop same gives

-- the limit that stopped a script is that of what it comes to
pub halted_at : (stop : NetStop) (n : DiscoveryLists) (end : Course) → stop ≢ NoMemory → HaltsAt stop n end → ended_at n (Some stop) ≡ end
halted_at (Crowded count event) n end limit halts = halts
halted_at (TooMuch weight event) n end limit halts = halts
halted_at NoMemory n end limit halts = absurd (limit refl)
