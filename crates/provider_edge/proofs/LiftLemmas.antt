-- Work for one neighbour is work of the edge.
use Rattle.std.proofs.Common.{◌≡◌, ◌∙◌, ℕ, Bool, true, false, List, [], ◌∷◌, ◌++◌, Option, Some, None, is_some, not, refl, ap, sym}
use Rattle.net_base.specs.declared.outside.link_call.LinkCall.{LinkCall}
use Rattle.net_base.specs.declared.plan.places.EdgeId.{EdgeId}
use Rattle.net_base.specs.declared.trace.state_name.StateName.TheVariants as name
use Rattle.session_core.specs.Table.{SessionEvent, Start}
use Rattle.ldp_grammar.specs.declared.message.Message.{Message}
use Rattle.session_core.specs.declared.reply.Reply.{Reply}
use Rattle.pw_messages.specs.LinkAnswers.{Answers}
use Rattle.edge_model.specs.declared.effect.Effect.{Effect}
use Rattle.edge_model.specs.declared.effect.Effect.TheVariants.{Session}
use Rattle.edge_model.specs.Connection.{connects, lost_input}
use Rattle.edge_model.specs.Hear.{advises}
use Rattle.edge_model.specs.Labels.{meeting}
use Rattle.edge_model.specs.Put.{Spoken, put_reply}
use Rattle.edge_model.specs.Session.{clears_ends, had_put, happens, happens_to, happens_with_ends, says, says_to}
use Rattle.edge_model.specs.State.{EdgeState, Peering, has_end, is_there, with_peering}
use Rattle.edge_model.specs.Work.{Work, beginning, changes, gives}
use Rattle.peer_dialogue.specs.Peering.{at_edge, at_peer, had_spoken, is_over, put_message, put_message_to}
use Rattle.peer_dialogue.proofs.SpeakerLemmas.{put_same, put_twice}
use Rattle.provider_edge.proofs.EdgeLemmas.{lost_idle}
use Rattle.provider_edge.specs.Lists.{EdgeLists, seen, worked}

pub peer_edge : (peer : EdgeId) (kept : Option Peering) (edge : EdgeState) (calls : List LinkCall) (out : List Effect) → edge.peering peer.0 ≡ kept → at_peer peer kept edge calls out
    ≡ at_edge edge calls out
unfolding at_peer at_edge
peer_edge peer kept edge calls out is = ap (λ (e : EdgeState). record { edge = e; calls = calls; effects = out; idle = false }) (put_same peer kept edge is)

pub left_edge : (peer : EdgeId) (left : Option Peering) (edge mid now : EdgeState) (calls : List LinkCall) (out : List Effect) → mid ≡ with_peering peer None edge → now ≡ with_peering peer left mid
    → at_edge now calls out ≡ at_peer peer left edge calls out
unfolding at_peer at_edge
left_edge peer left edge mid now calls out took puts =
    ap (λ (e : EdgeState). record { edge = e; calls = calls; effects = out; idle = false }) (puts ∙ (ap (with_peering peer left) took ∙ put_twice peer None left edge))

-- something was done to what was taken out, and what is left was put back
pub done_edge : (does : Work → Work) (peer : EdgeId) (taken left kept : Option Peering) (edge mid now : EdgeState) (calls new : List LinkCall) (out given : List Effect)
    → taken ≡ edge.peering peer.0 → taken ≡ kept → mid ≡ with_peering peer None edge → now ≡ with_peering peer left mid
    → at_peer peer left edge new given ≡ does (at_peer peer kept edge calls out)
    → at_edge now new given ≡ does (at_edge edge calls out)
done_edge does peer taken left kept edge mid now calls new out given read is took puts done =
    left_edge peer left edge mid now new given took puts
    ∙ (done ∙ ap does (peer_edge peer kept edge calls out (sym read ∙ is)))

-- and nothing was put back
pub left_none : (does : Work → Work) (peer : EdgeId) (taken kept : Option Peering) (edge now : EdgeState) (calls new : List LinkCall) (out given : List Effect)
    → taken ≡ edge.peering peer.0 → taken ≡ kept → now ≡ with_peering peer None edge
    → at_peer peer None edge new given ≡ does (at_peer peer kept edge calls out)
    → at_edge now new given ≡ does (at_edge edge calls out)
unfolding at_peer at_edge
left_none does peer taken kept edge now calls new out given read is took done =
    ap (λ (e : EdgeState). record { edge = e; calls = new; effects = given; idle = false }) took
    ∙ (done ∙ ap does (peer_edge peer kept edge calls out (sym read ∙ is)))

-- the same where something is told beside
pub spoken_edge : (does : Work → Spoken) (peer : EdgeId) (taken left kept : Option Peering) (edge mid now : EdgeState) (calls new : List LinkCall) (out given : List Effect) (failed : Bool)
    → taken ≡ edge.peering peer.0 → taken ≡ kept → mid ≡ with_peering peer None edge → now ≡ with_peering peer left mid
    → record { work = at_peer peer left edge new given; failed = failed } ≡ does (at_peer peer kept edge calls out)
    → record { work = at_edge now new given; failed = failed } ≡ does (at_edge edge calls out)
spoken_edge does peer taken left kept edge mid now calls new out given failed read is took puts done =
    ap (λ (w : Work). record { work = w; failed = failed }) (left_edge peer left edge mid now new given took puts)
    ∙ (done ∙ ap does (peer_edge peer kept edge calls out (sym read ∙ is)))

-- nothing happens where no session stands
pub happened_none : (told : Answers) (peer : EdgeId) (event : SessionEvent) (taken : Option Peering) (edge now : EdgeState) (calls : List LinkCall) (out : List Effect)
    → taken ≡ edge.peering peer.0 → taken ≡ None → now ≡ with_peering peer None edge
    → at_edge now calls out ≡ happens told peer event (at_edge edge calls out)
unfolding at_edge
happened_none told peer event taken edge now calls out read none took =
    ap (λ (e : EdgeState). record { edge = e; calls = calls; effects = out; idle = false }) (took ∙ put_same peer None edge (sym read ∙ none))
    ∙ ap (λ (x : Option Peering). happens_to told peer event x (record { edge = edge; calls = calls; effects = out; idle = false })) (sym none ∙ read)

pub absent_is : (x : Option Peering) → is_there x ≡ false → None ≡ x
absent_is None absent = refl
absent_is (Some kept) absent = absurd (cc (absent))

-- no session stands, and none is looked for
pub untouched_none : (told : Answers) (peer : EdgeId) (event : SessionEvent) (edge : EdgeState) (calls : List LinkCall) (out : List Effect)
    → has_end edge peer ≡ false → at_edge edge calls out ≡ happens told peer event (at_edge edge calls out)
unfolding at_edge
untouched_none told peer event edge calls out absent =
    ap (λ (x : Option Peering). happens_to told peer event x (record { edge = edge; calls = calls; effects = out; idle = false })) (absent_is (edge.peering peer.0) absent)

-- so nothing is kept of the neighbour
pub nothing_kept : (peer : EdgeId) (edge : EdgeState) → has_end edge peer ≡ false → edge.peering peer.0 ≡ None
nothing_kept peer edge absent = sym (absent_is (edge.peering peer.0) absent)

-- no end of a connection is lost where none stands
pub lost_none : (c mid : EdgeLists) (told : Answers) (peer : EdgeId) (taken : Option Peering) (calls : List LinkCall) → taken ≡ (seen c).peering peer.0 → taken ≡ None → seen mid
    ≡ with_peering peer None (seen c)
    → worked mid calls (record { idle = true; list = [] }) ≡ lost_input c.plan told peer (beginning (seen c) calls)
unfolding worked
lost_none c mid told peer taken calls read none took =
    ap (λ (e : EdgeState). record { edge = e; calls = calls; effects = []; idle = true }) (took ∙ put_same peer None (seen c) (sym read ∙ none))
    ∙ lost_idle c told peer calls (ap is_there (sym read ∙ none))

-- ---- a message

-- nothing is said where no session stands
pub said_none : (told : Answers) (peer : EdgeId) (message : ℕ → Message) (taken : Option Peering) (edge now : EdgeState) (calls : List LinkCall) (out : List Effect)
    → taken ≡ edge.peering peer.0 → taken ≡ None → now ≡ with_peering peer None edge
    → record { work = at_edge now calls out; failed = false } ≡ says told peer message (at_edge edge calls out)
unfolding at_edge
said_none told peer message taken edge now calls out read none took =
    ap (λ (e : EdgeState). record { work = record { edge = e; calls = calls; effects = out; idle = false }; failed = false }) (took ∙ put_same peer None edge (sym read ∙ none))
    ∙ ap (λ (x : Option Peering). says_to told peer message x (record { edge = edge; calls = calls; effects = out; idle = false })) (sym none ∙ read)

-- a message was put, and the ends are lost where it was not taken
pub said_some : (told : Answers) (peer : EdgeId) (message : ℕ → Message) (taken : Option Peering) (kept : Peering) (edge : EdgeState) (calls : List LinkCall) (out : List Effect) (mid work : Work) (failed : Bool)
    → taken ≡ edge.peering peer.0 → taken ≡ Some kept
    → record { work = mid; failed = failed } ≡ had_spoken peer (put_message told peer message (at_edge edge calls out))
    → work ≡ clears_ends peer mid
    → record { work = work; failed = failed } ≡ says told peer message (at_edge edge calls out)
unfolding at_edge
said_some told peer message taken kept edge calls out mid work failed read some spoken clears =
    let start : Work = record { edge = edge; calls = calls; effects = out; idle = false } in
    let there : edge.peering peer.0 ≡ Some kept = sym read ∙ some in
    ap (λ (w : Work). record { work = w; failed = failed }) clears
    ∙ (ap (λ (s : Spoken). record { work = clears_ends peer s.work; failed = s.failed }) spoken
    ∙ (ap (λ (x : Option Peering). record {
      work = clears_ends peer (had_spoken peer (put_message_to told peer message x start)).work;
      failed = (had_spoken peer (put_message_to told peer message x start)).failed;
    }) there
    ∙ ap (λ (x : Option Peering). says_to told peer message x start) (sym there)))

-- an advisory was put
pub advised : (told : Answers) (peer : EdgeId) (reply : Reply) (start mid work : Work) → mid ≡ had_put peer (put_reply told peer reply start) → work ≡ clears_ends peer mid → work
    ≡ advises told peer (Some reply) start
advised told peer reply start mid work put clears = clears ∙ ap (clears_ends peer) put

-- an event happened, and the ends are lost where no session is left
pub happened : (told : Answers) (peer : EdgeId) (event : SessionEvent) (start mid work : Work) → mid ≡ happens told peer event start → work ≡ clears_ends peer mid → work
    ≡ happens_with_ends told peer event start
happened told peer event start mid work is clears = clears ∙ ap (clears_ends peer) is

-- no session was taken out where one stands
pub none_there : (peer : EdgeId) (taken : Option Peering) (edge : EdgeState) → taken ≡ edge.peering peer.0 → taken ≡ None → has_end edge peer ≡ true → ⊥
none_there peer taken edge read none there = absurd (cc (sym (ap is_there (sym read ∙ none)) ∙ there))

-- ---- a connection stands

pub connected_at : (told : Answers) (peer : EdgeId) (kept : Peering) (edge mid : EdgeState) (calls : List LinkCall) (out told_out : List Effect) (work : Work)
    → mid ≡ with_peering peer (Some kept) (meeting peer edge) → told_out ≡ out ++ Session peer name.Initialized ∷ []
    → work ≡ happens_with_ends told peer Start (at_edge mid calls told_out)
    → work ≡ connects told peer kept (at_edge edge calls out)
unfolding at_edge changes gives
connected_at told peer kept edge mid calls out told_out work puts tells is =
    is
    ∙ (ap (λ (e : EdgeState). happens_with_ends told peer Start (record { edge = e; calls = calls; effects = told_out; idle = false })) puts
    ∙ ap (λ (l : List Effect). happens_with_ends told peer Start (record { edge = with_peering peer (Some kept) (meeting peer edge); calls = calls; effects = l; idle = false })) tells)

-- there is no session left exactly where none was kept
pub over_is : (left : Option Peering) (none : Bool) → is_some left ≡ not none → none ≡ is_over left
over_is None true is = refl
over_is None false is = absurd (cc (is))
over_is (Some d) true is = absurd (cc (is))
over_is (Some d) false is = refl
