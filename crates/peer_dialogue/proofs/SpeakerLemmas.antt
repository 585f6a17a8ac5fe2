-- What an edge puts to a neighbour, one message after another.
use Rattle.std.proofs.Common.{◌≡◌, ◌<◌, ◌≤◌, ◌+◌, ◌-◌, ◌++◌, ◌∙◌, ℕ, zero, suc, Bool, true, false, List, [], ◌∷◌, Option, Some, None, cond, not, length, drop, slice_get, slice_index_or, nat_eq, option_map, refl, ap, sym, subst, arith, append_assoc}
use Rattle.std.proofs.lemmas.Bool.{eq-eqb, eqb-true}
use Rattle.std.proofs.lemmas.List.{append-nil}
use Rattle.std.specs.List.{AllByRecursion}
use Rattle.net_values.proofs.RowLemmas.{last_of}
use Rattle.net_base.specs.declared.outside.link_call.LinkCall.{LinkCall}
use Rattle.net_base.specs.declared.plan.places.EdgeId.{EdgeId}
use Rattle.net_base.specs.outside.Link.{call_of}
use Rattle.ldp_grammar.specs.declared.message.Message.{Message}
use Rattle.ldp_grammar.specs.Written.{written}
use Rattle.session_core.specs.declared.peers.Peers.{Peers}
use Rattle.session_core.specs.declared.reply.Reply.{Reply}
use Rattle.session_core.specs.Messages.{HasData, message_of}
use Rattle.session_core.specs.State.{SessionState}
use Rattle.pw_messages.specs.LinkAnswers.{Agrees, Answers}
use Rattle.pw_messages.specs.Sender.{following, platform_of}
use Rattle.edge_model.specs.declared.effect.Effect.{Effect}
use Rattle.edge_model.specs.declared.effect.Effect.TheVariants.{Said}
use Rattle.edge_model.specs.Put.{Spoken, having_spoken, message_octets_of, octets_of, put_octets, put_replies, put_reply, put_reply_to, puts_on, with_spoken}
use Rattle.edge_model.specs.State.{EdgeState, Peering, with_peering}
use Rattle.edge_model.specs.Work.{GoesOn, Work, changes, gives, puts}
use Rattle.peer_dialogue.specs.Peering.{at_peer, having_put, put_message, put_message_to}

-- ---- what is kept for one neighbour

pub read_peer : (peer : EdgeId) (kept : Option Peering) (edge : EdgeState) → (with_peering peer kept edge).peering peer.0 ≡ kept
unfolding with_peering
read_peer peer kept edge = ap (λ (b : Bool). cond b kept (edge.peering peer.0)) (eq-eqb peer.0 peer.0 refl)

pub put_twice : (peer : EdgeId) (first next : Option Peering) (edge : EdgeState) → with_peering peer next (with_peering peer first edge) ≡ with_peering peer next edge
unfolding with_peering
put_twice peer first next edge = λ i. record edge { peering = λ k. over (nat_eq k peer.0) (edge.peering k) i } where
  over : (b : Bool) (other : Option Peering) → cond b next (cond b first other) ≡ cond b next other
  over true other = refl
  over false other = refl

pub put_same : (peer : EdgeId) (kept : Option Peering) (edge : EdgeState) → edge.peering peer.0 ≡ kept → with_peering peer kept edge ≡ edge
unfolding with_peering
put_same peer kept edge is = λ i. record edge { peering = λ k. at k (nat_eq k peer.0) refl i } where
  at : (k : ℕ) (b : Bool) → nat_eq k peer.0 ≡ b → cond b kept (edge.peering k) ≡ edge.peering k
  at k true same = sym (ap edge.peering (eqb-true k peer.0 same) ∙ is)
  at k false same = refl

pub peer_of : (peer : EdgeId) (kept : Option Peering) (edge : EdgeState) (calls : List LinkCall) (out : List Effect) → (at_peer peer kept edge calls out).edge.peering peer.0 ≡ kept
unfolding at_peer
peer_of peer kept edge calls out = read_peer peer kept edge

pub changed_at : (peer : EdgeId) (first next : Option Peering) (edge : EdgeState) (calls : List LinkCall) (out : List Effect)
    → changes (with_peering peer next) (at_peer peer first edge calls out) ≡ at_peer peer next edge calls out
unfolding at_peer changes
changed_at peer first next edge calls out = ap (λ (e : EdgeState). record { edge = e; calls = calls; effects = out; idle = false }) (put_twice peer first next edge)

-- ---- one reply

kept_of : List ℕ → SessionState → ℕ → Peering
kept_of held s id = record { session = s; held = held; next_id = id }

pub said_at : (peer : EdgeId) (kept : Peering) (bytes : List ℕ) (edge : EdgeState) (calls : List LinkCall) (out : List Effect)
    → put_octets peer bytes true (at_peer peer (Some kept) edge calls out)
    ≡ record { work = at_peer peer (Some (having_spoken kept)) edge (calls ++ call_of peer false bytes true ∷ []) (out ++ Said peer bytes ∷ []); failed = false }
unfolding at_peer changes gives puts with_spoken
said_at peer kept bytes edge calls out =
    ap (λ (e : EdgeState). record { work = record { edge = e; calls = calls ++ call_of peer false bytes true ∷ []; effects = out ++ Said peer bytes ∷ []; idle = false }; failed = false })
    (ap (λ (x : Option Peering). with_peering peer (option_map having_spoken x) (with_peering peer (Some kept) edge)) (read_peer peer (Some kept) edge)
    ∙ put_twice peer (Some kept) (Some (having_spoken kept)) edge)

pub failed_at : (peer : EdgeId) (kept : Option Peering) (bytes : List ℕ) (edge : EdgeState) (calls : List LinkCall) (out : List Effect)
    → put_octets peer bytes false (at_peer peer kept edge calls out) ≡ record { work = at_peer peer kept edge (calls ++ call_of peer false bytes false ∷ []) out; failed = true }
unfolding at_peer puts
failed_at peer kept bytes edge calls out = refl

-- what was told of the call that came last
pub told_last : (told : Answers) (calls : List LinkCall) (call : LinkCall) → Agrees told (calls ++ call ∷ []) → told (length calls) ≡ call.taken
told_last told calls call agrees = sym (agrees.each (length calls) call (within calls)) ∙ ap (λ (c : LinkCall). c.taken) (last_of calls call call) where
  within : (xs : List LinkCall) → length xs < length (xs ++ call ∷ [])
  within [] = omega arith
  within (x ∷ xs) = omega (arith, within xs)

reply_at : (told : Answers) (peer : EdgeId) (reply : Reply) (kept : Peering) (edge : EdgeState) (calls : List LinkCall) (out : List Effect)
    → put_reply told peer reply (at_peer peer (Some kept) edge calls out) ≡ put_octets peer (octets_of kept reply) (told (length calls)) (at_peer peer (Some kept) edge calls out)
unfolding at_peer
reply_at told peer reply kept edge calls out = ap (λ (x : Option Peering). put_reply_to told peer reply x (at_peer peer (Some kept) edge calls out)) (read_peer peer (Some kept) edge)

-- the octets of a reply are those that were put
pub record WasPut (peers : Peers) (reply : Reply) (next : ℕ) (bytes : List ℕ) : Type 0 where
  pub is : bytes ≡ written (message_of reply next peers) (platform_of peers.me)

same_octets : (peers : Peers) (reply : Reply) (next : ℕ) (bytes held : List ℕ) (s : SessionState) → bytes ≡ written (message_of reply next peers) (platform_of peers.me) → s.peers ≡ peers
    → octets_of (record { session = s; held = held; next_id = next }) reply ≡ bytes
same_octets peers reply next bytes held s is between = ap (λ (p : Peers). written (message_of reply next p) (platform_of p.me)) between ∙ sym is

pub reply_by_octets : (told : Answers) (peer : EdgeId) (peers : Peers) (reply : Reply) (next : ℕ) (bytes held : List ℕ) (s : SessionState) (edge : EdgeState) (calls : List LinkCall) (out : List Effect) (put : Spoken)
    → bytes ≡ written (message_of reply next peers) (platform_of peers.me) → s.peers ≡ peers
    → put_octets peer bytes (told (length calls)) (at_peer peer (Some (record { session = s; held = held; next_id = next })) edge calls out) ≡ put
    → put_reply told peer reply (at_peer peer (Some (record { session = s; held = held; next_id = next })) edge calls out) ≡ put
reply_by_octets told peer peers reply next bytes held s edge calls out put octets between is =
    let kept : Peering = record { session = s; held = held; next_id = next } in
    reply_at told peer reply kept edge calls out
    ∙ (ap (λ (o : List ℕ). put_octets peer o (told (length calls)) (at_peer peer (Some kept) edge calls out)) (same_octets peers reply next bytes held s octets between)
    ∙ is)

-- ---- one message

message_at : (told : Answers) (peer : EdgeId) (message : ℕ → Message) (kept : Peering) (edge : EdgeState) (calls : List LinkCall) (out : List Effect)
    → put_message told peer message (at_peer peer (Some kept) edge calls out) ≡ put_octets peer (message_octets_of kept message) (told (length calls)) (at_peer peer (Some kept) edge calls out)
unfolding at_peer
message_at told peer message kept edge calls out = ap (λ (x : Option Peering). put_message_to told peer message x (at_peer peer (Some kept) edge calls out)) (read_peer peer (Some kept) edge)

pub message_by_octets : (told : Answers) (peer : EdgeId) (peers : Peers) (message : ℕ → Message) (next : ℕ) (bytes held : List ℕ) (s : SessionState) (edge : EdgeState) (calls : List LinkCall) (out : List Effect) (put : Spoken)
    → bytes ≡ written (message next) (platform_of peers.me) → s.peers ≡ peers
    → put_octets peer bytes (told (length calls)) (at_peer peer (Some (record { session = s; held = held; next_id = next })) edge calls out) ≡ put
    → put_message told peer message (at_peer peer (Some (record { session = s; held = held; next_id = next })) edge calls out) ≡ put
message_by_octets told peer peers message next bytes held s edge calls out put octets between is =
    let kept : Peering = record { session = s; held = held; next_id = next } in
    message_at told peer message kept edge calls out
    ∙ (ap (λ (o : List ℕ). put_octets peer o (told (length calls)) (at_peer peer (Some kept) edge calls out)) (ap (λ (p : Peers). written (message next) (platform_of p.me)) between ∙ sym octets)
    ∙ is)

-- ---- calls that go on

-- the link is not called
pub goes_nowhere : (calls : List LinkCall) → GoesOn calls calls
goes_nowhere calls = record { more = []; joined = sym (append-nil calls) }

pub goes_both : (a b c : List LinkCall) → GoesOn a b → GoesOn b c → GoesOn a c
goes_both a b c first next = record {
  more = first.more ++ next.more;
  joined = next.joined ∙ (ap (λ (l : List LinkCall). l ++ next.more) first.joined ∙ append_assoc a first.more next.more);
}

pub goes_by : (a b : List LinkCall) (call : LinkCall) → b ≡ a ++ call ∷ [] → GoesOn a b
goes_by a b call is = record { more = call ∷ []; joined = is }

before_more : (a more : List LinkCall) (k : ℕ) (other : LinkCall) → k < length a → slice_index_or (a ++ more) k other ≡ slice_index_or a k other
before_more [] more k other within = absurd (omega arith)
before_more (x ∷ a) more zero other within = refl
before_more (x ∷ a) more (suc k) other within = before_more a more k other (omega arith)

longer : (a more : List LinkCall) (k : ℕ) → k < length a → k < length (a ++ more)
longer [] more k within = absurd (omega arith)
longer (x ∷ a) more zero within = omega arith
longer (x ∷ a) more (suc k) within = omega (arith, longer a more k (omega arith))

pub agrees_before : (told : Answers) (a b : List LinkCall) → GoesOn a b → Agrees told b → Agrees told a
agrees_before told a b goes agrees = record {
  each = λ k other within.
      let there : Agrees told (a ++ goes.more) = subst (Agrees told) goes.joined agrees in
      sym (ap (λ (c : LinkCall). c.taken) (before_more a goes.more k other within)) ∙ there.each k other (longer a goes.more k within);
}

-- ---- replies in order

pub replies_more : (told : Answers) (peer : EdgeId) (replies : List Reply) (reply : Reply) (place : ℕ) (work next : Work) → slice_get replies place ≡ Some reply
    → put_reply told peer reply work ≡ record { work = next; failed = false }
    → put_replies told peer (drop place replies) work ≡ put_replies told peer (drop (place + 1) replies) next
replies_more told peer [] reply place work next at put = absurd (cc (at))
replies_more told peer (x ∷ replies) reply zero work next at put =
    let same : x ≡ reply = cc (at) in
    ap (λ (r : Reply). puts_on (put_replies told peer replies) (put_reply told peer r work).failed (put_reply told peer r work).work) same
    ∙ ap (λ (p : Spoken). puts_on (put_replies told peer replies) p.failed p.work) put
replies_more told peer (x ∷ replies) reply (suc place) work next at put =
    let behind : suc place + 1 ≡ suc (place + 1) = omega arith in
    rw behind (replies_more told peer replies reply place work next at put)

pub replies_failed : (told : Answers) (peer : EdgeId) (replies : List Reply) (reply : Reply) (place : ℕ) (work next : Work) → slice_get replies place ≡ Some reply
    → put_reply told peer reply work ≡ record { work = next; failed = true }
    → put_replies told peer (drop place replies) work ≡ record { work = next; failed = true }
replies_failed told peer [] reply place work next at put = absurd (cc (at))
replies_failed told peer (x ∷ replies) reply zero work next at put =
    let same : x ≡ reply = cc (at) in
    ap (λ (r : Reply). puts_on (put_replies told peer replies) (put_reply told peer r work).failed (put_reply told peer r work).work) same
    ∙ ap (λ (p : Spoken). puts_on (put_replies told peer replies) p.failed p.work) put
replies_failed told peer (x ∷ replies) reply (suc place) work next at put = replies_failed told peer replies reply place work next at put

pub replies_end : (told : Answers) (peer : EdgeId) (replies : List Reply) (place : ℕ) (work : Work) → length replies ≤ place → put_replies told peer (drop place replies) work
    ≡ record { work = work; failed = false }
replies_end told peer [] zero work past = refl
replies_end told peer [] (suc place) work past = refl
replies_end told peer (x ∷ replies) zero work past = absurd (omega arith)
replies_end told peer (x ∷ replies) (suc place) work past = replies_end told peer replies place work (omega arith)

pub data_at : (replies : List Reply) (place : ℕ) (reply : Reply) → AllByRecursion HasData replies → slice_get replies place ≡ Some reply → HasData reply
data_at [] place reply all at = absurd (cc (at))
data_at (x ∷ replies) zero reply all at =
    let same : x ≡ reply = cc (at) in
    subst HasData same all.0
data_at (x ∷ replies) (suc place) reply all at = data_at replies place reply all.1 at

-- ---- octets at the exits of the code

pub was_failed : (told : Answers) (peer : EdgeId) (next : ℕ) (bytes slice held : List ℕ) (taken : Bool) (s : SessionState) (edge : EdgeState) (calls now : List LinkCall) (out : List Effect)
    → slice ≡ bytes → taken ≡ false → now ≡ calls ++ call_of peer false slice taken ∷ [] → Agrees told now
    → put_octets peer bytes (told (length calls)) (at_peer peer (Some (record { session = s; held = held; next_id = next })) edge calls out)
    ≡ record { work = at_peer peer (Some (record { session = s; held = held; next_id = next })) edge now out; failed = true }
was_failed told peer next bytes slice held true s edge calls now out same refused called agrees = absurd (cc (refused))
was_failed told peer next bytes slice held false s edge calls now out same refused called agrees =
    let kept : Peering = record { session = s; held = held; next_id = next } in
    let here : now ≡ calls ++ call_of peer false bytes false ∷ [] = called ∙ ap (λ (b : List ℕ). calls ++ call_of peer false b false ∷ []) same in
    ap (λ (b : Bool). put_octets peer bytes b (at_peer peer (Some kept) edge calls out)) (told_last told calls (call_of peer false bytes false) (subst (Agrees told) here agrees))
    ∙ (failed_at peer (Some kept) bytes edge calls out
    ∙ ap (λ (c : List LinkCall). record { work = at_peer peer (Some kept) edge c out; failed = true }) (sym here))

pub was_taken : (told : Answers) (peer : EdgeId) (next after : ℕ) (bytes slice held : List ℕ) (taken : Bool) (s : SessionState) (edge : EdgeState) (calls now : List LinkCall) (out given : List Effect)
    → slice ≡ bytes → taken ≡ true → now ≡ calls ++ call_of peer false slice taken ∷ [] → given ≡ out ++ Said peer bytes ∷ [] → after ≡ following next → Agrees told now
    → put_octets peer bytes (told (length calls)) (at_peer peer (Some (record { session = s; held = held; next_id = next })) edge calls out)
    ≡ record { work = at_peer peer (Some (record { session = having_put true s; held = held; next_id = after })) edge now given; failed = false }
was_taken told peer next after bytes slice held false s edge calls now out given same refused called gave counted agrees = absurd (cc (refused))
was_taken told peer next after bytes slice held true s edge calls now out given same refused called gave counted agrees =
    let kept : Peering = record { session = s; held = held; next_id = next } in
    let here : now ≡ calls ++ call_of peer false bytes true ∷ [] = called ∙ ap (λ (b : List ℕ). calls ++ call_of peer false b true ∷ []) same in
    ap (λ (b : Bool). put_octets peer bytes b (at_peer peer (Some kept) edge calls out)) (told_last told calls (call_of peer false bytes true) (subst (Agrees told) here agrees))
    ∙ (said_at peer kept bytes edge calls out
    ∙ (ap (λ (c : List LinkCall). record { work = at_peer peer (Some (having_spoken kept)) edge c (out ++ Said peer bytes ∷ []); failed = false }) (sym here)
    ∙ (ap (λ (l : List Effect). record { work = at_peer peer (Some (having_spoken kept)) edge now l; failed = false }) (sym gave)
    ∙ ap (λ (n : ℕ). record { work = at_peer peer (Some (record { session = having_put true s; held = held; next_id = n })) edge now given; failed = false }) (sym counted))))

-- ---- replies at the turns of the loop

pub same_peers : (spoke : Bool) (s : SessionState) (peers : Peers) → s.peers ≡ peers → (having_put spoke s).peers ≡ peers
same_peers true s peers between = between
same_peers false s peers between = between

pub next_put : (told : Answers) (peer : EdgeId) (replies : List Reply) (reply : Reply) (place : ℕ) (spoke taken : Bool) (s : SessionState) (held : List ℕ) (edge : EdgeState) (id after : ℕ) (calls now : List LinkCall) (out given : List Effect) (whole : Spoken)
    → slice_get replies place ≡ Some reply → taken ≡ true
    → whole ≡ put_replies told peer (drop place replies) (at_peer peer (Some (record { session = having_put spoke s; held = held; next_id = id })) edge calls out)
    → put_reply told peer reply (at_peer peer (Some (record { session = having_put spoke s; held = held; next_id = id })) edge calls out)
    ≡ record { work = at_peer peer (Some (record { session = having_put taken (having_put spoke s); held = held; next_id = after })) edge now given; failed = not taken }
    → whole ≡ put_replies told peer (drop (place + 1) replies) (at_peer peer (Some (record { session = having_put true s; held = held; next_id = after })) edge now given)
next_put told peer replies reply place spoke false s held edge id after calls now out given whole at took so_far put = absurd (cc (took))
next_put told peer replies reply place true true s held edge id after calls now out given whole at took so_far put =
    so_far ∙ replies_more told peer replies reply place (at_peer peer (Some (record { session = having_put true s; held = held; next_id = id })) edge calls out)
    (at_peer peer (Some (record { session = having_put true s; held = held; next_id = after })) edge now given) at put
next_put told peer replies reply place false true s held edge id after calls now out given whole at took so_far put =
    so_far ∙ replies_more told peer replies reply place (at_peer peer (Some (record { session = s; held = held; next_id = id })) edge calls out)
    (at_peer peer (Some (record { session = having_put true s; held = held; next_id = after })) edge now given) at put

pub last_put : (told : Answers) (peer : EdgeId) (replies : List Reply) (reply : Reply) (place : ℕ) (spoke taken : Bool) (s : SessionState) (held : List ℕ) (edge : EdgeState) (id after : ℕ) (calls now : List LinkCall) (out given : List Effect) (whole : Spoken)
    → slice_get replies place ≡ Some reply → taken ≡ false
    → whole ≡ put_replies told peer (drop place replies) (at_peer peer (Some (record { session = having_put spoke s; held = held; next_id = id })) edge calls out)
    → put_reply told peer reply (at_peer peer (Some (record { session = having_put spoke s; held = held; next_id = id })) edge calls out)
    ≡ record { work = at_peer peer (Some (record { session = having_put taken (having_put spoke s); held = held; next_id = after })) edge now given; failed = not taken }
    → whole ≡ record { work = at_peer peer (Some (record { session = having_put spoke s; held = held; next_id = after })) edge now given; failed = true }
last_put told peer replies reply place spoke true s held edge id after calls now out given whole at refused so_far put = absurd (cc (refused))
last_put told peer replies reply place spoke false s held edge id after calls now out given whole at refused so_far put =
    so_far ∙ replies_failed told peer replies reply place (at_peer peer (Some (record { session = having_put spoke s; held = held; next_id = id })) edge calls out)
    (at_peer peer (Some (record { session = having_put spoke s; held = held; next_id = after })) edge now given) at put

none_left : (replies : List Reply) (place : ℕ) → slice_get replies place ≡ None → length replies ≤ place
none_left [] place none = omega arith
none_left (x ∷ replies) zero none = absurd (cc (none))
none_left (x ∷ replies) (suc place) none = omega (arith, none_left replies place none)

pub all_put : (told : Answers) (peer : EdgeId) (replies : List Reply) (place : ℕ) (work : Work) (whole : Spoken) → slice_get replies place ≡ None → whole
    ≡ put_replies told peer (drop place replies) work → whole ≡ record { work = work; failed = false }
all_put told peer replies place work whole none so_far = so_far ∙ replies_end told peer replies place work (none_left replies place none)
