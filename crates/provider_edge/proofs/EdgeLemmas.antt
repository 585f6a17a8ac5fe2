-- The inputs of an edge, exit by exit.
use Rattle.std.proofs.Common.{◌≡◌, ◌<◌, ◌&&◌, ◌∙◌, ◌==◌, ◌↔◌, Bor, ℕ, Bool, true, false, List, [], Option, Some, None, cond, not, length, option_copied, option_map, slice_get, refl, ap, sym, subst}
use Rattle.std.proofs.Math.Bool.{beq}
use Rattle.std.specs.Prelude.{IfSome, IsNone}
use Rattle.std.proofs.lemmas.Option.{slice_get_within}
use Rattle.net_values.proofs.BoolLemmas.{and_not_held}
use Rattle.net_base.specs.declared.outside.link_call.LinkCall.{LinkCall}
use Rattle.net_base.specs.declared.plan.Plan.{Plan}
use Rattle.net_base.specs.declared.plan.circuit_plan.CircuitPlan.{CircuitPlan}
use Rattle.net_base.specs.declared.plan.edge_plan.EdgePlan.{EdgePlan}
use Rattle.net_base.specs.declared.plan.places.CircuitId.{CircuitId}
use Rattle.net_base.specs.declared.plan.places.EdgeId.{EdgeId}
use Rattle.net_base.specs.declared.plan.places.WireId.{WireId}
use Rattle.net_base.specs.declared.trace.state_name.Reason.TheVariants as reason
use Rattle.net_base.specs.plan.Places.{wire_row}
use Rattle.net_base.specs.plan.Paths.{are_joined}
use Rattle.pw_signalling.specs.End.{EndState}
use Rattle.session_core.specs.declared.peers.Peers.{Peers}
use Rattle.session_core.specs.Table.{Closed}
use Rattle.pw_messages.specs.LinkAnswers.{Answers}
use Rattle.edge_model.specs.declared.effect.Effect.{Effect}
use Rattle.edge_model.specs.declared.effects.Effects.{Effects}
use Rattle.edge_model.specs.Circuit.{is_same, turned}
use Rattle.edge_model.specs.Connection.{connected_input, connects, connects_between, lost_input, peers_of, restart_input}
use Rattle.edge_model.specs.declared.end_place.EndPlace.{EndPlace}
use Rattle.edge_model.specs.EndPlaces.{ends_here, passes}
use Rattle.edge_model.specs.Hear.{hears_on, octets_input}
use Rattle.edge_model.specs.Labels.{keeping_all, resting}
use Rattle.edge_model.specs.Mend.{mends}
use Rattle.edge_model.specs.Session.{happens_with_ends}
use Rattle.edge_model.specs.State.{EdgeState, Peering, has_end, later, with_bits, with_kept, with_learned, with_priority, with_ticks, without_ends, without_peerings}
use Rattle.edge_model.specs.Synced.{InSync}
use Rattle.provider_edge.specs.Tidy.{IsTidy}
use Rattle.edge_model.specs.Tick.{counted, forgetting, ticks_sessions}
use Rattle.edge_model.specs.Wire.{is_own_spoke, priority_input, status_input, turned_wire, wire_input}
use Rattle.edge_model.specs.Work.{Work, beginning, changes, idles}
use Rattle.peer_dialogue.specs.Peering.{at_edge, connection_with, peers_between}
use Rattle.provider_edge.proofs.WorkLemmas.{other_before, same_already}
use Rattle.provider_edge.specs.declared.end_marks.EndMarks.{EndMarks}
use Rattle.provider_edge.specs.Hearing.{AreTakenOut}
use Rattle.provider_edge.specs.Invariant.{IsEdge}
use Rattle.provider_edge.specs.Lists.{EdgeLists, Keeps, seen, worked}

-- while it works nothing is said of what was told last of the wires
-- ---- inputs

-- what was done before the edge mends
pub mended : (e mid now : EdgeLists) (told : Answers) (mid_calls new : List LinkCall) (out : List Effect) (effects : Effects) (work : Work) → effects.idle ≡ false → Keeps e mid
    → at_edge (seen mid) mid_calls out ≡ work
    → at_edge (seen now) new effects.list ≡ mends mid.plan told (at_edge (seen mid) mid_calls out)
    → worked now new effects ≡ mends e.plan told work
unfolding worked at_edge
mended e mid now told mid_calls new out effects work fresh keeps is mends_now =
    ap (λ (b : Bool). record { edge = seen now; calls = new; effects = effects.list; idle = b }) fresh
    ∙ (mends_now
    ∙ (ap (λ (p : Plan). mends p told (record { edge = seen mid; calls = mid_calls; effects = out; idle = false })) keeps.plan
    ∙ ap (mends e.plan told) is))

pub begun : (edge : EdgeState) (calls : List LinkCall) → at_edge edge calls [] ≡ beginning edge calls
unfolding at_edge
begun edge calls = refl

pub given_out : (e : EdgeLists) (calls : List LinkCall) (effects : Effects) → effects.idle ≡ false → worked e calls effects ≡ at_edge (seen e) calls effects.list
unfolding worked at_edge
given_out e calls effects fresh = ap (λ (b : Bool). record { edge = seen e; calls = calls; effects = effects.list; idle = b }) fresh

not_there : (e : EdgeLists) (calls : List LinkCall) → worked e calls (record { idle = true; list = [] }) ≡ idles (beginning (seen e) calls)
unfolding worked idles
not_there e calls = refl

pub lost_idle : (e : EdgeLists) (told : Answers) (peer : EdgeId) (calls : List LinkCall) → has_end (seen e) peer ≡ false → worked e calls (record { idle = true; list = [] })
    ≡ lost_input e.plan told peer (beginning (seen e) calls)
lost_idle e told peer calls none =
    not_there e calls ∙ sym (ap (λ (b : Bool). cond b (mends e.plan told (happens_with_ends told peer (Closed reason.Closed) (beginning (seen e) calls))) (idles (beginning (seen e) calls))) none)

pub lost_done : (e : EdgeLists) (told : Answers) (peer : EdgeId) (calls : List LinkCall) (work : Work) → has_end (seen e) peer ≡ true
    → work ≡ mends e.plan told (happens_with_ends told peer (Closed reason.Closed) (beginning (seen e) calls)) → work ≡ lost_input e.plan told peer (beginning (seen e) calls)
lost_done e told peer calls work there is =
    is ∙ sym (ap (λ (b : Bool). cond b (mends e.plan told (happens_with_ends told peer (Closed reason.Closed) (beginning (seen e) calls))) (idles (beginning (seen e) calls))) there)

pub octets_idle : (e mid : EdgeLists) (told : Answers) (peer : EdgeId) (octets : List ℕ) (calls : List LinkCall) → (seen e).peering peer.0 ≡ None → seen mid ≡ seen e
    → worked mid calls (record { idle = true; list = [] }) ≡ octets_input e.plan told peer octets ((seen e).peering peer.0) (beginning (seen e) calls)
octets_idle e mid told peer octets calls none same =
    not_there mid calls
    ∙ (ap (λ (s : EdgeState). idles (beginning s calls)) same
    ∙ sym (ap (λ (x : Option Peering). octets_input e.plan told peer octets x (beginning (seen e) calls)) none))

pub octets_done : (e : EdgeLists) (told : Answers) (peer : EdgeId) (octets held : List ℕ) (mid : EdgeState) (calls : List LinkCall) (work : Work)
    → AreTakenOut peer ((seen e).peering peer.0) (seen e) mid (Some held)
    → work ≡ mends e.plan told (hears_on e.plan told peer octets ((seen e).peering peer.0) (beginning (seen e) calls))
    → work ≡ octets_input e.plan told peer octets ((seen e).peering peer.0) (beginning (seen e) calls)
octets_done e told peer octets held mid calls work taken is = by ((seen e).peering peer.0) taken is where
  by : (x : Option Peering) → AreTakenOut peer x (seen e) mid (Some held)
      → work ≡ mends e.plan told (hears_on e.plan told peer octets x (beginning (seen e) calls)) → work ≡ octets_input e.plan told peer octets x (beginning (seen e) calls)
  by None none is = absurd (cc (none.0))
  by (Some kept) some is = is

pub restart_done : (e now : EdgeLists) (calls : List LinkCall) → seen now ≡ with_learned (λ service. []) (without_ends (keeping_all (without_peerings (seen e))))
    → worked now calls (record { idle = false; list = [] }) ≡ restart_input (beginning (seen e) calls)
unfolding worked changes with_kept with_learned without_ends without_peerings
restart_done e now calls is = ap (λ (s : EdgeState). record { edge = s; calls = calls; effects = []; idle = false }) is

-- ---- ticks

counted_at : (e rest mid : EdgeLists) (calls : List LinkCall) → seen rest ≡ resting (seen e) → seen mid ≡ with_ticks (later (seen rest).ticks) (seen rest) → at_edge (seen mid) calls []
    ≡ changes counted (beginning (seen e) calls)
unfolding at_edge changes with_kept
counted_at e rest mid calls rests counts =
    ap (λ (s : EdgeState). record { edge = s; calls = calls; effects = []; idle = false }) (counts ∙ ap (λ (s : EdgeState). with_ticks (later s.ticks) s) rests)

forgot_at : (mid now : EdgeLists) (plan : Plan) (calls : List LinkCall) (list : List Effect) → mid.plan ≡ plan → seen now ≡ forgetting mid.plan (seen mid)
    → at_edge (seen now) calls list ≡ changes (forgetting plan) (at_edge (seen mid) calls list)
unfolding at_edge changes
forgot_at mid now plan calls list same is = ap (λ (s : EdgeState). record { edge = s; calls = calls; effects = list; idle = false }) (is ∙ ap (λ (p : Plan). forgetting p (seen mid)) same)

pub ticked : (told : Answers) (e rest mid ticks now : EdgeLists) (calls new : List LinkCall) (list : List Effect)
    → Keeps e mid → Keeps mid ticks → seen rest ≡ resting (seen e) → seen mid ≡ with_ticks (later (seen rest).ticks) (seen rest)
    → at_edge (seen ticks) new list ≡ ticks_sessions told 0 (length mid.plan.edges) (at_edge (seen mid) calls [])
    → seen now ≡ forgetting ticks.plan (seen ticks)
    → at_edge (seen now) new list ≡ changes (forgetting e.plan) (ticks_sessions told 0 (length e.plan.edges) (changes counted (beginning (seen e) calls)))
ticked told e rest mid ticks now calls new list first next rests counts have forgets =
    forgot_at ticks now e.plan new list (next.plan ∙ first.plan) forgets
    ∙ (ap (changes (forgetting e.plan)) have
    ∙ (ap (λ (p : Plan). changes (forgetting e.plan) (ticks_sessions told 0 (length p.edges) (at_edge (seen mid) calls []))) first.plan
    ∙ ap (λ (w : Work). changes (forgetting e.plan) (ticks_sessions told 0 (length e.plan.edges) w)) (counted_at e rest mid calls rests counts)))

-- ---- a connection stands

pub me_of : (e : EdgeLists) → (seen e).me ≡ e.me
unfolding seen
me_of e = refl

pub connected_idle : (e : EdgeLists) (told : Answers) (peer : EdgeId) (calls : List LinkCall) → are_joined e.plan e.me.0 peer.0 && not (has_end (seen e) peer) ≡ false
    → worked e calls (record { idle = true; list = [] }) ≡ connected_input e.plan told peer (beginning (seen e) calls)
unfolding worked idles
connected_idle e told peer calls apart =
    let test : are_joined e.plan (seen e).me.0 peer.0 && not (has_end (seen e) peer) ≡ false = ap (λ (m : EdgeId). are_joined e.plan m.0 peer.0 && not (has_end (seen e) peer)) (me_of e) ∙ apart in
    sym (ap (λ (b : Bool). cond b (connects_between e.plan told peer (slice_get e.plan.edges (seen e).me.0) (slice_get e.plan.edges peer.0) (beginning (seen e) calls))
    (idles (beginning (seen e) calls))) test)

pub apart_test : (joined stands : Bool) → joined ≡ false → joined && not stands ≡ false
apart_test false stands apart = refl
apart_test true stands apart = absurd (cc (apart))

between_none : (plan : Plan) (told : Answers) (peer : EdgeId) (own other : Option EdgePlan) (work : Work) → peers_between own other ≡ None → connects_between plan told peer own other work ≡ idles work
between_none plan told peer None other work none = refl
between_none plan told peer (Some own) None work none = refl
between_none plan told peer (Some own) (Some other) work none = absurd (cc (none))

between_some : (plan : Plan) (told : Answers) (peer : EdgeId) (own other : Option EdgePlan) (peers : Peers) (work : Work) → peers_between own other ≡ Some peers
    → connects_between plan told peer own other work ≡ mends plan told (connects told peer (connection_with peers) work)
between_some plan told peer None other peers work some = absurd (cc (some))
between_some plan told peer (Some own) None peers work some = absurd (cc (some))
between_some plan told peer (Some own) (Some other) peers work some =
    let same : peers_of own other ≡ peers = cc (some) in
    ap (λ (p : Peers). mends plan told (connects told peer (connection_with p) work)) same

connects_by : (e : EdgeLists) (told : Answers) (peer : EdgeId) (work : Work) → work.edge ≡ seen e → are_joined e.plan e.me.0 peer.0 && not (has_end (seen e) peer) ≡ true
    → connected_input e.plan told peer work ≡ connects_between e.plan told peer (slice_get e.plan.edges e.me.0) (slice_get e.plan.edges peer.0) work
connects_by e told peer work is test =
    ap (λ (s : EdgeState). cond (are_joined e.plan s.me.0 peer.0 && not (has_end s peer))
    (connects_between e.plan told peer (slice_get e.plan.edges s.me.0) (slice_get e.plan.edges peer.0) work) (idles work)) is
    ∙ (ap (λ (m : EdgeId). cond (are_joined e.plan m.0 peer.0 && not (has_end (seen e) peer))
    (connects_between e.plan told peer (slice_get e.plan.edges m.0) (slice_get e.plan.edges peer.0) work) (idles work)) (me_of e)
    ∙ ap (λ (b : Bool). cond b (connects_between e.plan told peer (slice_get e.plan.edges e.me.0) (slice_get e.plan.edges peer.0) work) (idles work)) test)

pub connected_none : (e : EdgeLists) (told : Answers) (peer : EdgeId) (peers : Option Peers) (calls : List LinkCall) → are_joined e.plan e.me.0 peer.0 && not (has_end (seen e) peer) ≡ true
    → peers ≡ peers_between (slice_get e.plan.edges e.me.0) (slice_get e.plan.edges peer.0) → peers ≡ None
    → worked e calls (record { idle = true; list = [] }) ≡ connected_input e.plan told peer (beginning (seen e) calls)
unfolding worked idles
connected_none e told peer peers calls test is none =
    sym (connects_by e told peer (beginning (seen e) calls) refl test
    ∙ between_none e.plan told peer (slice_get e.plan.edges e.me.0) (slice_get e.plan.edges peer.0) (beginning (seen e) calls) (sym is ∙ none))

pub connected_done : (e : EdgeLists) (told : Answers) (peer : EdgeId) (found : Option Peers) (peers : Peers) (calls : List LinkCall) (work : Work)
    → are_joined e.plan e.me.0 peer.0 && not (has_end (seen e) peer) ≡ true
    → found ≡ peers_between (slice_get e.plan.edges e.me.0) (slice_get e.plan.edges peer.0) → found ≡ Some peers
    → work ≡ mends e.plan told (connects told peer (connection_with peers) (beginning (seen e) calls))
    → work ≡ connected_input e.plan told peer (beginning (seen e) calls)
connected_done e told peer found peers calls work test is some connected =
    connected
    ∙ sym (connects_by e told peer (beginning (seen e) calls) refl test
    ∙ between_some e.plan told peer (slice_get e.plan.edges e.me.0) (slice_get e.plan.edges peer.0) peers (beginning (seen e) calls) (sym is ∙ some))

pub peer_within : (plan : Plan) (own : Option EdgePlan) (peer : EdgeId) (peers : Peers) → peers_between own (slice_get plan.edges peer.0) ≡ Some peers → peer.0 < length plan.edges
peer_within plan own peer peers some = by own (slice_get plan.edges peer.0) refl some where
  by : (own other : Option EdgePlan) → slice_get plan.edges peer.0 ≡ other → peers_between own other ≡ Some peers → peer.0 < length plan.edges
  by None other is some = absurd (cc (some))
  by (Some own) None is some = absurd (cc (some))
  by (Some own) (Some other) is some = slice_get_within plan.edges peer.0 other is

-- ---- wires

pub wire_apart : (e : EdgeLists) (told : Answers) (wire : WireId) (on : Bool) (calls : List LinkCall) → passes e.plan e.me wire ≡ false
    → worked e calls (record { idle = true; list = [] }) ≡ wire_input e.plan told wire on (beginning (seen e) calls)
unfolding seen
wire_apart e told wire on calls apart =
    not_there e calls ∙ sym (ap (λ (b : Bool). cond (b && not (is_same on ((seen e).wire_on wire.0))) (mends e.plan told (changes (turned_wire wire on) (beginning (seen e) calls)))
    (idles (beginning (seen e) calls))) apart)

pub wire_already : (e : EdgeLists) (told : Answers) (wire : WireId) (on : Bool) (calls : List LinkCall) → beq ((seen e).wire_on wire.0) on ≡ true
    → worked e calls (record { idle = true; list = [] }) ≡ wire_input e.plan told wire on (beginning (seen e) calls)
wire_already e told wire on calls same =
    not_there e calls ∙ sym (ap (λ (b : Bool). cond b (mends e.plan told (changes (turned_wire wire on) (beginning (seen e) calls))) (idles (beginning (seen e) calls)))
    (and_not_held (passes e.plan (seen e).me wire) (is_same on ((seen e).wire_on wire.0)) (same_already on ((seen e).wire_on wire.0) same)))

pub wire_turned : (e : EdgeLists) (told : Answers) (wire : WireId) (on : Bool) (calls : List LinkCall) (work : Work) → passes e.plan e.me wire ≡ true → beq ((seen e).wire_on wire.0) on ≡ false
    → work ≡ mends e.plan told (changes (turned_wire wire on) (beginning (seen e) calls)) → work ≡ wire_input e.plan told wire on (beginning (seen e) calls)
unfolding seen
wire_turned e told wire on calls work through other is =
    is ∙ sym (ap (λ (b : Bool). cond (b && not (is_same on ((seen e).wire_on wire.0))) (mends e.plan told (changes (turned_wire wire on) (beginning (seen e) calls)))
    (idles (beginning (seen e) calls))) through
    ∙ ap (λ (b : Bool). cond (not b) (mends e.plan told (changes (turned_wire wire on) (beginning (seen e) calls))) (idles (beginning (seen e) calls)))
    (other_before on ((seen e).wire_on wire.0) other))

pub turned_at : (e mid : EdgeLists) (wire : WireId) (on : Bool) (calls : List LinkCall) → seen mid ≡ turned_wire wire on (seen e) → at_edge (seen mid) calls []
    ≡ changes (turned_wire wire on) (beginning (seen e) calls)
unfolding at_edge changes
turned_at e mid wire on calls is = ap (λ (s : EdgeState). record { edge = s; calls = calls; effects = []; idle = false }) is

pub status_apart : (e : EdgeLists) (told : Answers) (wire : WireId) (bits : ℕ) (calls : List LinkCall) → ends_here e.plan e.me wire ≡ false
    → worked e calls (record { idle = true; list = [] }) ≡ status_input e.plan told wire bits (beginning (seen e) calls)
unfolding seen
status_apart e told wire bits calls apart =
    not_there e calls ∙ sym (ap (λ (b : Bool). cond (b && not (bits == (seen e).bits wire.0)) (mends e.plan told (changes (with_bits wire bits) (beginning (seen e) calls)))
    (idles (beginning (seen e) calls))) apart)

pub status_already : (e : EdgeLists) (told : Answers) (wire : WireId) (bits : ℕ) (calls : List LinkCall) → (bits == (seen e).bits wire.0) ≡ true
    → worked e calls (record { idle = true; list = [] }) ≡ status_input e.plan told wire bits (beginning (seen e) calls)
status_already e told wire bits calls same =
    not_there e calls ∙ sym (ap (λ (b : Bool). cond b (mends e.plan told (changes (with_bits wire bits) (beginning (seen e) calls))) (idles (beginning (seen e) calls)))
    (and_not_held (ends_here e.plan (seen e).me wire) (bits == (seen e).bits wire.0) same))

pub status_set : (e : EdgeLists) (told : Answers) (wire : WireId) (bits : ℕ) (calls : List LinkCall) (work : Work) → ends_here e.plan e.me wire ≡ true → (bits == (seen e).bits wire.0) ≡ false
    → work ≡ mends e.plan told (changes (with_bits wire bits) (beginning (seen e) calls)) → work ≡ status_input e.plan told wire bits (beginning (seen e) calls)
unfolding seen
status_set e told wire bits calls work here other is =
    is ∙ sym (ap (λ (b : Bool). cond (b && not (bits == (seen e).bits wire.0)) (mends e.plan told (changes (with_bits wire bits) (beginning (seen e) calls))) (idles (beginning (seen e) calls))) here
    ∙ ap (λ (b : Bool). cond (not b) (mends e.plan told (changes (with_bits wire bits) (beginning (seen e) calls))) (idles (beginning (seen e) calls))) other)

pub bits_at : (e mid : EdgeLists) (wire : WireId) (bits : ℕ) (calls : List LinkCall) → seen mid ≡ with_bits wire bits (seen e) → at_edge (seen mid) calls []
    ≡ changes (with_bits wire bits) (beginning (seen e) calls)
unfolding at_edge changes
bits_at e mid wire bits calls is = ap (λ (s : EdgeState). record { edge = s; calls = calls; effects = []; idle = false }) is

pub priority_apart : (e : EdgeLists) (told : Answers) (wire : WireId) (priority : ℕ) (calls : List LinkCall) → is_own_spoke e.me (wire_row e.plan wire) ≡ false
    → worked e calls (record { idle = true; list = [] }) ≡ priority_input e.plan told wire priority (beginning (seen e) calls)
unfolding seen
priority_apart e told wire priority calls apart =
    not_there e calls ∙ sym (ap (λ (b : Bool). cond (b && not (priority == (seen e).priority wire.0))
    (mends e.plan told (changes (with_priority wire priority) (beginning (seen e) calls))) (idles (beginning (seen e) calls))) apart)

pub priority_already : (e : EdgeLists) (told : Answers) (wire : WireId) (priority : ℕ) (calls : List LinkCall) → (priority == (seen e).priority wire.0) ≡ true
    → worked e calls (record { idle = true; list = [] }) ≡ priority_input e.plan told wire priority (beginning (seen e) calls)
priority_already e told wire priority calls same =
    not_there e calls ∙ sym (ap (λ (b : Bool). cond b (mends e.plan told (changes (with_priority wire priority) (beginning (seen e) calls))) (idles (beginning (seen e) calls)))
    (and_not_held (is_own_spoke (seen e).me (wire_row e.plan wire)) (priority == (seen e).priority wire.0) same))

pub priority_set : (e : EdgeLists) (told : Answers) (wire : WireId) (priority : ℕ) (calls : List LinkCall) (work : Work) → is_own_spoke e.me (wire_row e.plan wire) ≡ true
    → (priority == (seen e).priority wire.0) ≡ false
    → work ≡ mends e.plan told (changes (with_priority wire priority) (beginning (seen e) calls)) → work ≡ priority_input e.plan told wire priority (beginning (seen e) calls)
unfolding seen
priority_set e told wire priority calls work here other is =
    is ∙ sym (ap (λ (b : Bool). cond (b && not (priority == (seen e).priority wire.0)) (mends e.plan told (changes (with_priority wire priority) (beginning (seen e) calls)))
    (idles (beginning (seen e) calls))) here
    ∙ ap (λ (b : Bool). cond (not b) (mends e.plan told (changes (with_priority wire priority) (beginning (seen e) calls))) (idles (beginning (seen e) calls))) other)

pub priority_at : (e mid : EdgeLists) (wire : WireId) (priority : ℕ) (calls : List LinkCall) → seen mid ≡ with_priority wire priority (seen e) → at_edge (seen mid) calls []
    ≡ changes (with_priority wire priority) (beginning (seen e) calls)
unfolding at_edge changes
priority_at e mid wire priority calls is = ap (λ (s : EdgeState). record { edge = s; calls = calls; effects = []; idle = false }) is

-- ---- circuits

pub circuit_at : (e mid : EdgeLists) (circuit : CircuitId) (row : CircuitPlan) (on : Bool) (calls : List LinkCall) → seen mid ≡ turned e.plan circuit row on (seen e)
    → at_edge (seen mid) calls [] ≡ changes (turned e.plan circuit row on) (beginning (seen e) calls)
unfolding at_edge changes
circuit_at e mid circuit row on calls is = ap (λ (s : EdgeState). record { edge = s; calls = calls; effects = []; idle = false }) is

-- ---- what is asked of an end

-- there is an end exactly where there is a place of it
pub end_asked : {T X : Type 0} (state : T → EndState) (at : X → EndState) (r : Option (Bor T)) (f : Option X) → option_map state (option_copied r) ≡ option_map at f → IsNone r ↔ (f ≡ None)
end_asked state at None None is = (λ none. refl, λ none. refl)
end_asked state at None (Some x) is = absurd (cc (is))
end_asked state at (Some end) None is = absurd (cc (is))
end_asked state at (Some end) (Some x) is = (λ none. absurd (cc (none)), λ none. absurd (cc (none)))

pub state_asked : {T X : Type 0} (state : T → EndState) (at : X → EndState) (r : Option (Bor T)) (f : Option X) → option_map state (option_copied r) ≡ option_map at f
    → IfSome r (λ end. IfSome f (λ x. state end.now ≡ at x))
state_asked state at None f is = tt
state_asked state at (Some end) None is = tt
state_asked state at (Some end) (Some x) is = cc (is)

-- of an end that may be there
pub for_place : (P : EndPlace → Type 0) (f : Option EndPlace) → ((place : EndPlace) → f ≡ Some place → P place) → IfSome f P
for_place P None made = tt
for_place P (Some place) made = made place refl

-- ---- in sync

pub seen_stopped : (e : EdgeLists) (stopped : Bool) → seen (record e { stopped = stopped }) ≡ seen e
unfolding seen
seen_stopped e stopped = refl

pub worked_stopped : (e : EdgeLists) (stopped : Bool) (calls : List LinkCall) (effects : Effects) → worked (record e { stopped = stopped }) calls effects ≡ worked e calls effects
unfolding worked
worked_stopped e stopped calls effects = ap (λ (s : EdgeState). record { edge = s; calls = calls; effects = effects.list; idle = effects.idle }) (seen_stopped e stopped)

-- an input begins
pub edge_begins : (e : EdgeLists) → IsEdge e → IsEdge (record e { stopped = true })
edge_begins e is = record {
  checked = is.checked;
  peerings = is.peerings;
  held = is.held;
  places = is.places;
  wires = is.wires;
  each_bits = is.each_bits;
  small = is.small;
  priorities = is.priorities;
  each_ping = is.each_ping;
  spokes = is.spokes;
  plan = is.plan;
  me = is.me;
  synced = λ going. absurd (cc (going));
  tidy = subst (λ (s : EdgeState). IfSome e.marks (IsTidy e.plan s)) (sym (seen_stopped e true)) is.tidy;
}

-- the input is done
pub edge_going : (e : EdgeLists) → IsEdge e → InSync e.plan (seen e) → IsEdge (record e { stopped = false })
edge_going e is synced = record {
  checked = is.checked;
  peerings = is.peerings;
  held = is.held;
  places = is.places;
  wires = is.wires;
  each_bits = is.each_bits;
  small = is.small;
  priorities = is.priorities;
  each_ping = is.each_ping;
  spokes = is.spokes;
  plan = is.plan;
  me = is.me;
  synced = λ going. subst (InSync e.plan) (sym (seen_stopped e false)) synced;
  tidy = subst (λ (s : EdgeState). IfSome e.marks (IsTidy e.plan s)) (sym (seen_stopped e false)) is.tidy;
}

-- ---- marks

pub seen_marks : (e : EdgeLists) (marks : Option EndMarks) → seen (record e { marks = marks }) ≡ seen e
unfolding seen
seen_marks e marks = refl

-- each end without a mark is settled
pub holds_marks : (e : EdgeLists) (marks : Option EndMarks) → e.stopped ≡ true → IfSome marks (IsTidy e.plan (seen e)) → IsEdge e → IsEdge (record e { marks = marks })
holds_marks e marks working tidy is = record {
  checked = is.checked;
  peerings = is.peerings;
  held = is.held;
  places = is.places;
  wires = is.wires;
  each_bits = is.each_bits;
  spokes = is.spokes;
  plan = is.plan;
  me = is.me;
  small = is.small;
  priorities = is.priorities;
  each_ping = is.each_ping;
  synced = λ going. absurd (cc (sym working ∙ going));
  tidy = subst (λ (s : EdgeState). IfSome marks (IsTidy e.plan s)) (sym (seen_marks e marks)) tidy;
}
