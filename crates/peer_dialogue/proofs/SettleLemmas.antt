-- What comes of an event of a session at an edge.
use Rattle.std.proofs.Common.{◌≡◌, ◌++◌, ◌∙◌, ℕ, Bool, true, false, List, [], ◌∷◌, Option, Some, None, Result, Ok, Err, cond, not, refl, ap, sym, subst, arith}
use Rattle.std.specs.Prelude.{IfOk, OnOk}
use Rattle.std.specs.List.{AllByRecursion}
use Rattle.net_base.specs.declared.outside.link_call.LinkCall.{LinkCall}
use Rattle.net_base.specs.declared.plan.places.EdgeId.{EdgeId}
use Rattle.net_base.specs.declared.trace.state_name.Reason.{Reason}
use Rattle.net_base.specs.declared.trace.state_name.Reason.TheVariants as reason
use Rattle.net_base.specs.declared.trace.state_name.StateName.{StateName}
use Rattle.net_base.specs.declared.trace.state_name.StateName.TheVariants as name
use Rattle.ldp_codec.specs.declared.decode_fault.DecodeFault.{DecodeFault}
use Rattle.session_core.specs.declared.peers.Peers.{Peers}
use Rattle.session_core.specs.declared.reply.Reply.{Reply}
use Rattle.session_core.specs.Messages.{HasData}
use Rattle.session_core.specs.Phase.{Phase}
use Rattle.session_core.specs.Phase as phase
use Rattle.session_core.specs.Session.{name_of, phase_name}
use Rattle.session_core.specs.State.{SessionState, SessionView, Stands, EndedBy, is_active}
use Rattle.session_core.specs.StatusCodes.{about_none, data_of}
use Rattle.session_core.specs.Table.{SessionEvent, Start, Heard, Received, Refused, Spoke, Ticked, Closed, Outcome, Stay, Goes, Ends, next_of, outcome_of, replies_of, table, view_after, view_next, view_said}
use Rattle.session_core.proofs.PutLemmas.{replies_are_put}
use Rattle.pw_messages.specs.LinkAnswers.{Answers}
use Rattle.edge_model.specs.declared.effect.Effect.{Effect}
use Rattle.edge_model.specs.declared.effect.Effect.TheVariants.{Session, Closed as Gone}
use Rattle.edge_model.specs.Put.{Spoken, put_replies}
use Rattle.edge_model.specs.Session.{comes_of, ends, happens, happens_to, is_same_phase, tells_change, went_on}
use Rattle.edge_model.specs.State.{EdgeState, Peering}
use Rattle.edge_model.specs.Work.{Work, changes, gives}
use Rattle.peer_dialogue.specs.Peering.{IsBetween, StandsBetween, at_peer, ending_reason, had_spoken, having_put, next_state, settled, state_of}
use Rattle.peer_dialogue.proofs.SpeakerLemmas.{changed_at, peer_of, put_twice}

-- ---- what is known of every outcome

pub said_data : (between : Peers) (view : SessionView) (event : SessionEvent) (replies : List Reply) → StandsBetween between view → replies ≡ view_said view event → AllByRecursion HasData replies
said_data between (Stands s) event replies stands is = subst (AllByRecursion HasData) (sym is) (replies_are_put.has_data s event)
said_data between (EndedBy why) event replies stands is = absurd stands

kept_between : (between : Peers) (s : SessionState) (event : SessionEvent) → s.peers ≡ between → IsBetween between (next_of s event)
kept_between between s Start is = grind (arith)
kept_between between s (Heard sender) is = grind (arith)
kept_between between s (Received message) is = grind (arith)
kept_between between s (Refused wrong) is = grind (arith)
kept_between between s Spoke is = grind (arith)
kept_between between s Ticked is = grind (arith)
kept_between between s (Closed lost) is = grind (arith)

pub stays_between : (between : Peers) (view next : SessionView) (event : SessionEvent) → StandsBetween between view → next ≡ view_next view event → IsBetween between next
stays_between between (Stands s) next event stands is = subst (IsBetween between) (sym is) (kept_between between s event stands)
stays_between between (EndedBy why) next event stands is = absurd stands

-- ---- a session ends, or its state is told

pub ended_at : (peer : EdgeId) (why : Reason) (kept : Option Peering) (edge : EdgeState) (calls : List LinkCall) (out : List Effect)
    → ends peer why (at_peer peer kept edge calls out) ≡ at_peer peer None edge calls ((out ++ Session peer (name.Ended why) ∷ []) ++ Gone peer ∷ [])
unfolding at_peer changes gives
ended_at peer why kept edge calls out =
    ap (λ (e : EdgeState). record { edge = e; calls = calls; effects = (out ++ Session peer (name.Ended why) ∷ []) ++ Gone peer ∷ []; idle = false }) (put_twice peer kept None edge)

-- the link is not called
uncalled_at : (peer : EdgeId) (kept : Option Peering) (edge : EdgeState) (calls now : List LinkCall) (out given : List Effect) → now ≡ calls → given ≡ out
    → at_peer peer kept edge now given ≡ at_peer peer kept edge calls out
uncalled_at peer kept edge calls now out given same gave = ap (λ (c : List LinkCall). at_peer peer kept edge c given) same ∙ ap (at_peer peer kept edge calls) gave

pub same_names : (old new : Phase) → phase_name old ≡ phase_name new → is_same_phase old new ≡ true
same_names phase.Initialized phase.Initialized is = refl
same_names phase.Initialized phase.OpenSent is = absurd (cc (is))
same_names phase.Initialized phase.OpenRec is = absurd (cc (is))
same_names phase.Initialized phase.Operational is = absurd (cc (is))
same_names phase.OpenSent phase.Initialized is = absurd (cc (is))
same_names phase.OpenSent phase.OpenSent is = refl
same_names phase.OpenSent phase.OpenRec is = absurd (cc (is))
same_names phase.OpenSent phase.Operational is = absurd (cc (is))
same_names phase.OpenRec phase.Initialized is = absurd (cc (is))
same_names phase.OpenRec phase.OpenSent is = absurd (cc (is))
same_names phase.OpenRec phase.OpenRec is = refl
same_names phase.OpenRec phase.Operational is = absurd (cc (is))
same_names phase.Operational phase.Initialized is = absurd (cc (is))
same_names phase.Operational phase.OpenSent is = absurd (cc (is))
same_names phase.Operational phase.OpenRec is = absurd (cc (is))
same_names phase.Operational phase.Operational is = refl

same_itself : (state : Phase) → is_same_phase state state ≡ true
same_itself phase.Initialized = refl
same_itself phase.OpenSent = refl
same_itself phase.OpenRec = refl
same_itself phase.Operational = refl

names_same : (old new : Phase) → is_same_phase old new ≡ true → phase_name old ≡ phase_name new
names_same phase.Initialized new same = grind (arith)
names_same phase.OpenSent new same = grind (arith)
names_same phase.OpenRec new same = grind (arith)
names_same phase.Operational new same = grind (arith)

names_other : (old new : Phase) → is_same_phase old new ≡ false → phase_name old ≡ phase_name new → ⊥
names_other old new other same = absurd (cc (sym other ∙ same_names old new same))

-- ---- an event

-- what comes of an outcome is what is settled, once the session is as it is now and everything was put
comes_by : (told : Answers) (peer : EdgeId) (held : List ℕ) (s : SessionState) (id : ℕ) (outcome : Outcome) (edge : EdgeState) (calls : List LinkCall) (out : List Effect)
    → comes_of told peer (record { session = s; held = held; next_id = id }) outcome (at_peer peer (Some (record { session = s; held = held; next_id = id })) edge calls out)
    ≡ settled peer s.phase (view_after s outcome)
    (put_replies told peer (replies_of outcome) (at_peer peer (Some (record { session = next_state s (view_after s outcome); held = held; next_id = id })) edge calls out))
comes_by told peer held s id Stay edge calls out =
    sym (ap (λ (b : Bool). cond b (at_peer peer (Some (record { session = s; held = held; next_id = id })) edge calls out)
    (gives (Session peer (phase_name s.phase)) (at_peer peer (Some (record { session = s; held = held; next_id = id })) edge calls out))) (same_itself s.phase))
comes_by told peer held s id (Goes next replies) edge calls out =
    ap (λ (w : Work). went_on peer s.phase next.phase (put_replies told peer replies w))
    (changed_at peer (Some (record { session = s; held = held; next_id = id })) (Some (record { session = next; held = held; next_id = id })) edge calls out)
comes_by told peer held s id (Ends why replies) edge calls out = refl

happens_at : (told : Answers) (peer : EdgeId) (held : List ℕ) (s : SessionState) (id : ℕ) (event : SessionEvent) (edge : EdgeState) (calls : List LinkCall) (out : List Effect)
    → happens told peer event (at_peer peer (Some (record { session = s; held = held; next_id = id })) edge calls out)
    ≡ settled peer s.phase (next_of s event)
    (put_replies told peer (replies_of (outcome_of s event)) (at_peer peer (Some (record { session = next_state s (next_of s event); held = held; next_id = id })) edge calls out))
happens_at told peer held s id event edge calls out =
    ap (λ (x : Option Peering). happens_to told peer event x (at_peer peer (Some (record { session = s; held = held; next_id = id })) edge calls out))
    (peer_of peer (Some (record { session = s; held = held; next_id = id })) edge calls out)
    ∙ comes_by told peer held s id (outcome_of s event) edge calls out

-- where a session goes on, it is still between its ends
pub next_between : (between : Peers) (s : SessionState) (view : SessionView) → s.peers ≡ between → IsBetween between view → (next_state s view).peers ≡ between
next_between between s (Stands next) here stands = stands
next_between between s (EndedBy why) here stands = here

pub happened : (told : Answers) (peer : EdgeId) (held : List ℕ) (between : Peers) (view next : SessionView) (old : StateName) (id after : ℕ) (spoke failed : Bool) (event : SessionEvent) (replies : List Reply) (edge : EdgeState) (calls now : List LinkCall) (out given : List Effect) (work : Work)
    → StandsBetween between view → old ≡ name_of view → next ≡ view_next view event → replies ≡ view_said view event
    → ((s : SessionState) → s.peers ≡ between → put_replies told peer replies (at_peer peer (Some (record { session = s; held = held; next_id = id })) edge calls out)
    ≡ record { work = at_peer peer (Some (record { session = having_put spoke s; held = held; next_id = after })) edge now given; failed = failed })
    → ((before : SessionState) → phase_name before.phase ≡ old → work
    ≡ settled peer before.phase next (record {
      work = at_peer peer (Some (record { session = having_put spoke (next_state before next); held = held; next_id = after })) edge now given;
      failed = failed;
    }))
    → work ≡ happens told peer event (at_peer peer (Some (record { session = state_of between view; held = held; next_id = id })) edge calls out)
happened told peer held between (EndedBy why) next old id after spoke failed event replies edge calls now out given work stands named is said put settles = absurd stands
happened told peer held between (Stands s) next old id after spoke failed event replies edge calls now out given work stands named is said put settles =
    settles s (sym named)
    ∙ (ap (settled peer s.phase next) (sym (put (next_state s next) (next_between between s next stands (stays_between between (Stands s) next event stands is))))
    ∙ (ap (λ (rs : List Reply). settled peer s.phase next (put_replies told peer rs (at_peer peer (Some (record { session = next_state s next; held = held; next_id = id })) edge calls out))) said
    ∙ (ap (λ (v : SessionView). settled peer s.phase v
    (put_replies told peer (replies_of (outcome_of s event)) (at_peer peer (Some (record { session = next_state s v; held = held; next_id = id })) edge calls out))) is
    ∙ sym (happens_at told peer held s id event edge calls out))))

-- ---- the exits of what is settled

pub settled_end : (peer : EdgeId) (before : SessionState) (view : SessionView) (why : Reason) (put : Spoken) (edge : EdgeState) (calls now : List LinkCall) (out given : List Effect) (kept : Option Peering)
    → view ≡ EndedBy why → put.work ≡ at_peer peer kept edge calls out → now ≡ calls → given ≡ (out ++ Session peer (name.Ended why) ∷ []) ++ Gone peer ∷ []
    → at_peer peer None edge now given ≡ settled peer before.phase view put
settled_end peer before (Stands s) why put edge calls now out given kept ended is same gave = absurd (cc (ended))
settled_end peer before (EndedBy other) why put edge calls now out given kept ended is same gave =
    let alike : other ≡ why = cc (ended) in
    uncalled_at peer None edge calls now _ given same gave
    ∙ (sym (ended_at peer why kept edge calls out)
    ∙ (ap (ends peer why) (sym is) ∙ ap (λ (r : Reason). ends peer r put.work) (sym alike)))

pub settled_fault : (peer : EdgeId) (before s : SessionState) (view : SessionView) (put : Spoken) (edge : EdgeState) (calls now : List LinkCall) (out given : List Effect) (kept : Option Peering)
    → view ≡ Stands s → put.failed ≡ true → put.work ≡ at_peer peer kept edge calls out → now ≡ calls → given ≡ (out ++ Session peer (name.Ended reason.LinkFault) ∷ []) ++ Gone peer ∷ []
    → at_peer peer None edge now given ≡ settled peer before.phase view put
settled_fault peer before s view put edge calls now out given kept stands failed is same gave =
    rw (stands, failed)
    (uncalled_at peer None edge calls now _ given same gave
    ∙ (sym (ended_at peer reason.LinkFault kept edge calls out) ∙ ap (ends peer reason.LinkFault) (sym is)))

-- what is told of two states
abbrev pub telling : EdgeId → Bool → StateName → List Effect → List Effect
telling peer true new out = out
telling peer false new out = out ++ Session peer new ∷ []

told_at : (peer : EdgeId) (same : Bool) (new : Phase) (kept : Option Peering) (edge : EdgeState) (calls : List LinkCall) (out : List Effect)
    → at_peer peer kept edge calls (telling peer same (phase_name new) out) ≡ cond same (at_peer peer kept edge calls out) (gives (Session peer (phase_name new)) (at_peer peer kept edge calls out))
unfolding at_peer gives
told_at peer true new kept edge calls out = refl
told_at peer false new kept edge calls out = refl

pub settled_on : (peer : EdgeId) (before s : SessionState) (view : SessionView) (put : Spoken) (edge : EdgeState) (calls now : List LinkCall) (out given : List Effect) (kept : Option Peering)
    → view ≡ Stands s → put.failed ≡ false → put.work ≡ at_peer peer kept edge calls out → now ≡ calls → given ≡ telling peer (is_same_phase before.phase s.phase) (phase_name s.phase) out
    → at_peer peer kept edge now given ≡ settled peer before.phase view put
settled_on peer before s view put edge calls now out given kept stands failed is same gave =
    rw (stands, failed)
    (uncalled_at peer kept edge calls now _ given same gave
    ∙ (told_at peer (is_same_phase before.phase s.phase) s.phase kept edge calls out
    ∙ ap (tells_change peer before.phase s.phase) (sym is)))

pub telling_is : (peer : EdgeId) (old new : Phase) (out given : List Effect) → (phase_name old ≡ phase_name new → given ≡ out)
    → ((phase_name old ≡ phase_name new → ⊥) → given ≡ out ++ Session peer (phase_name new) ∷ [])
    → given ≡ telling peer (is_same_phase old new) (phase_name new) out
telling_is peer old new out given same other = by (is_same_phase old new) refl where
  by : (b : Bool) → is_same_phase old new ≡ b → given ≡ telling peer b (phase_name new) out
  by true is = same (names_same old new is)
  by false is = other (names_other old new is)

pub ended_by : (view : SessionView) (why : Reason) → ending_reason view ≡ Some why → view ≡ EndedBy why
ended_by (Stands s) why is = absurd (cc (is))
ended_by (EndedBy other) why is =
    let same : other ≡ why = cc (is) in
    ap EndedBy same

pub stands_by : (before : SessionState) (view : SessionView) → ending_reason view ≡ None → view ≡ Stands (next_state before view)
stands_by before (Stands s) none = refl
stands_by before (EndedBy why) none = absurd (cc (none))

-- something was put
spoke_is : (s : SessionState) → next_of s Spoke ≡ Stands (record s { silence = 0 })
spoke_is s = ap (view_after s) (by s.phase (is_active s.peers)) where
  by : (state : Phase) (active : Bool) → table state Spoke active s ≡ Goes (record s { silence = 0 }) []
  by phase.Initialized active = refl
  by phase.OpenSent active = refl
  by phase.OpenRec active = refl
  by phase.Operational active = refl

pub spoken_is : (view next : SessionView) (s : SessionState) → view ≡ Stands s → next ≡ view_next view Spoke → next ≡ Stands (record s { silence = 0 })
spoken_is view next s stands is = is ∙ (ap (λ (v : SessionView). view_next v Spoke) stands ∙ spoke_is s)

-- the session that is left stands between its ends
pub put_between : (between : Peers) (spoke : Bool) (s : SessionState) → s.peers ≡ between → (having_put spoke s).peers ≡ between
put_between between true s is = is
put_between between false s is = is

pub stands_put : (between : Peers) (view now : SessionView) (spoke : Bool) → ending_reason view ≡ None → IsBetween between view
    → ((s : SessionState) → view ≡ Stands s → now ≡ Stands (having_put spoke s)) → StandsBetween between now
stands_put between (Stands s) now spoke none is put = subst (StandsBetween between) (sym (put s refl)) (put_between between spoke s is)
stands_put between (EndedBy why) now spoke none is put = absurd (cc (none))

pub told_change : (peer : EdgeId) (before s : SessionState) (view : SessionView) (old new : StateName) (out given : List Effect) → phase_name before.phase ≡ old → new ≡ name_of view → view ≡ Stands s
    → (old ≡ new → given ≡ out) → ((old ≡ new → ⊥) → given ≡ out ++ Session peer new ∷ [])
    → given ≡ telling peer (is_same_phase before.phase s.phase) (phase_name s.phase) out
told_change peer before s view old new out given named is stands same other =
    let now : new ≡ phase_name s.phase = is ∙ ap name_of stands in
    telling_is peer before.phase s.phase out given (λ e. same (sym named ∙ (e ∙ sym now))) (λ apart. other (λ e. apart (named ∙ (e ∙ now))) ∙ ap (λ (n : StateName). out ++ Session peer n ∷ []) now)

-- an answer that may be want of memory
pub map_ok : {A E : Type 0} (P Q : A → Type 0) (r : Result A E) → ((x : A) → P x → Q x) → IfOk r P → IfOk r Q
map_ok P Q (Ok x) more here = more x here
map_ok P Q (Err stop) more here = tt

-- ---- one message is put apart from the events

pub put_on : (does : Work → Spoken) (peer : EdgeId) (held : List ℕ) (between other : Peers) (view now : SessionView) (id after : ℕ) (taken : Bool) (edge : EdgeState) (calls new : List LinkCall) (out given : List Effect)
    → StandsBetween between view → now ≡ view_next view Spoke → taken ≡ true
    → ((s : SessionState) → s.peers ≡ between → does (at_peer peer (Some (record { session = s; held = held; next_id = id })) edge calls out)
    ≡ record { work = at_peer peer (Some (record { session = having_put taken s; held = held; next_id = after })) edge new given; failed = not taken })
    → record { work = at_peer peer (Some (record { session = state_of other now; held = held; next_id = after })) edge new given; failed = false }
    ≡ had_spoken peer (does (at_peer peer (Some (record { session = state_of between view; held = held; next_id = id })) edge calls out))
put_on does peer held between other (EndedBy why) now id after taken edge calls new out given stands is took put = absurd stands
put_on does peer held between other (Stands s) now id after false edge calls new out given stands is took put = absurd (cc (took))
put_on does peer held between other (Stands s) now id after true edge calls new out given stands is took put =
    ap (λ (v : SessionView). record { work = at_peer peer (Some (record { session = state_of other v; held = held; next_id = after })) edge new given; failed = false })
    (spoken_is (Stands s) now s refl is)
    ∙ ap (had_spoken peer) (sym (put s stands))

pub put_off : (does : Work → Spoken) (peer : EdgeId) (held : List ℕ) (between : Peers) (view : SessionView) (id after : ℕ) (taken : Bool) (edge : EdgeState) (calls new now : List LinkCall) (out mid given : List Effect)
    → StandsBetween between view → taken ≡ false
    → ((s : SessionState) → s.peers ≡ between → does (at_peer peer (Some (record { session = s; held = held; next_id = id })) edge calls out)
    ≡ record { work = at_peer peer (Some (record { session = having_put taken s; held = held; next_id = after })) edge new mid; failed = not taken })
    → now ≡ new → given ≡ (mid ++ Session peer (name.Ended reason.LinkFault) ∷ []) ++ Gone peer ∷ []
    → record { work = at_peer peer None edge now given; failed = true }
    ≡ had_spoken peer (does (at_peer peer (Some (record { session = state_of between view; held = held; next_id = id })) edge calls out))
put_off does peer held between (EndedBy why) id after taken edge calls new now out mid given stands refused put same gave = absurd stands
put_off does peer held between (Stands s) id after true edge calls new now out mid given stands refused put same gave = absurd (cc (refused))
put_off does peer held between (Stands s) id after false edge calls new now out mid given stands refused put same gave =
    ap (λ (w : Work). record { work = w; failed = true }) (uncalled_at peer None edge new now _ given same gave)
    ∙ (ap (λ (w : Work). record { work = w; failed = true }) (sym (ended_at peer reason.LinkFault (Some (record { session = s; held = held; next_id = after })) edge new mid))
    ∙ ap (had_spoken peer) (sym (put s stands)))

-- ---- the connection is lost

closed_is : (s : SessionState) (why : Reason) → outcome_of s (Closed why) ≡ Ends why []
closed_is s why = by s.phase (is_active s.peers) where
  by : (state : Phase) (active : Bool) → table state (Closed why) active s ≡ Ends why []
  by phase.Initialized active = refl
  by phase.OpenSent active = refl
  by phase.OpenRec active = refl
  by phase.Operational active = refl

pub lost_at : (told : Answers) (peer : EdgeId) (kept : Peering) (why : Reason) (edge : EdgeState) (calls now : List LinkCall) (out given : List Effect)
    → now ≡ calls → given ≡ (out ++ Session peer (name.Ended why) ∷ []) ++ Gone peer ∷ []
    → at_peer peer None edge now given ≡ happens told peer (Closed why) (at_peer peer (Some kept) edge calls out)
lost_at told peer kept why edge calls now out given same gave =
    uncalled_at peer None edge calls now _ given same gave
    ∙ (sym (ended_at peer why (Some kept) edge calls out)
    ∙ (ap (λ (o : Outcome). comes_of told peer kept o (at_peer peer (Some kept) edge calls out)) (sym (closed_is kept.session why))
    ∙ ap (λ (x : Option Peering). happens_to told peer (Closed why) x (at_peer peer (Some kept) edge calls out))
    (sym (peer_of peer (Some kept) edge calls out))))

pub not_ended : (view : SessionView) (why : Reason) → ending_reason view ≡ None → view ≡ EndedBy why → ⊥
not_ended (Stands s) why none ended = absurd (cc (ended))
not_ended (EndedBy other) why none ended = absurd (cc (none))

refused_is : (s : SessionState) (wrong : DecodeFault) → next_of s (Refused wrong) ≡ EndedBy reason.Decode
refused_is s wrong = ap (view_after s) (by s.phase (is_active s.peers)) where
  by : (state : Phase) (active : Bool) → table state (Refused wrong) active s ≡ Ends reason.Decode (about_none (data_of wrong) ∷ [])
  by phase.Initialized active = refl
  by phase.OpenSent active = refl
  by phase.OpenRec active = refl
  by phase.Operational active = refl

-- what is refused ends the session
pub refused_none : (between : Peers) (view next : SessionView) (event : SessionEvent) (wrong : DecodeFault) (left : Option Peering) → StandsBetween between view → next
    ≡ view_next view event → event ≡ Refused wrong
    → ((why : Reason) → next ≡ EndedBy why → left ≡ None) → left ≡ None
refused_none between (Stands s) next event wrong left stands is refused ended = ended reason.Decode (is ∙ (ap (next_of s) refused ∙ refused_is s wrong))
refused_none between (EndedBy why) next event wrong left stands is refused ended = absurd stands

pub map_on : {A E : Type 0} (P Q : Type 0) (r : Result A E) → (P → Q) → OnOk r P → OnOk r Q
map_on P Q (Ok x) more here = more here
map_on P Q (Err stop) more here = tt
