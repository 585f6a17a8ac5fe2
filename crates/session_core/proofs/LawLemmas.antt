-- The laws of the table.
use Rattle.std.proofs.Common.{rules, ◌≡◌, ◌<◌, ◌==◌, ℕ, true, false, not, nat_lt, List, [], ◌∷◌, Option, Some, None, refl, sym, ap, ◌∙◌, subst, arith}
use Rattle.std.specs.List.{AllByRecursion}
use Rattle.ldp_grammar.specs.declared.message.Message.{Message}
use Rattle.ldp_grammar.specs.declared.message.Message.TheVariants.{Notification, Initialization, KeepAlive}
use Rattle.ldp_grammar.specs.declared.session_params.SessionParams.{SessionParams}
use Rattle.ldp_grammar.specs.declared.status_code.StatusCode.{StatusCode}
use Rattle.net_base.specs.declared.trace.state_name.Reason.{Reason}
use Rattle.session_core.specs.declared.peers.Peers.{Peers}
use Rattle.session_core.specs.declared.refusal.Refusal.{Refusal}
use Rattle.session_core.specs.declared.refusal.Refusal.TheVariants as refusal
use Rattle.session_core.specs.declared.reply.Reply.{Reply}
use Rattle.session_core.specs.Laws.{tells_end, IsFarewell, OneNotice, NeverSilent, next_put, run_by, IsWithinProposal, WithinProposals, IsAddress, IsFacing, IsAgreement, Proposes, run_session, EndsAgree}
use Rattle.session_core.proofs.AddressLemmas.{numbers_apart, one_larger}
use Rattle.session_core.specs.Parameters.{longest, proposal, proposal_refusal, refusal_reason}
use Rattle.session_core.specs.Phase.{Phase, is_agreed}
use Rattle.session_core.specs.State.{SessionState, SessionView, Stands, EndedBy, IsProper, is_active, opened, address_number}
use Rattle.session_core.specs.StatusCodes.{about}
use Rattle.session_core.specs.Table.{SessionEvent, Start, Heard, Received, Refused, Spoke, Ticked, Closed, Ends, next_of, outcome_of, third, view_after, notified, judged, reason_in, data_refusing}

-- a Notification that ends a session is answered where it is a shutdown and the session is up
told : (s : SessionState) (message : Message) (status : StatusCode) (why : Reason) (replies : List Reply) → notified (reason_in status) s message ≡ Ends why replies
    → IsFarewell (tells_end s.phase why) replies
told s message status why replies is = grind (arith)

-- the refusals are told
refusal_told : (state : Phase) (why : Refusal) → tells_end state (refusal_reason why) ≡ true
refusal_told state refusal.Version = grind (arith)
refusal_told state refusal.Receiver = grind (arith)
refusal_told state refusal.KeepAliveTime = grind (arith)

-- a proposal that is refused is answered
refused : (s : SessionState) (message : Message) (params : SessionParams) (others : List Reply) (why : Reason) (replies : List Reply)
    → judged (proposal_refusal s.peers params) s message params others ≡ Ends why replies
    → IsFarewell (tells_end s.phase why) replies
refused s message params others why replies is = so (proposal_refusal s.peers params) is
  where
    so : (given : Option Refusal) → judged given s message params others ≡ Ends why replies → IsFarewell (tells_end s.phase why) replies
    so None ends = grind (arith)
    so (Some given) ends =
        let same : refusal_reason given ≡ why = grind (arith) in
        let one : about message (data_refusing given) ∷ [] ≡ replies = grind (arith) in
        let told : tells_end s.phase why ≡ true = ap (λ (r : Reason). tells_end s.phase r) (sym same) ∙ refusal_told s.phase given in
        rw (told, ← one) refl

-- a message that ends a session is answered as its reason says
answered : (s : SessionState) (message : Message) (why : Reason) (replies : List Reply) → outcome_of s (Received message) ≡ Ends why replies → IsFarewell (tells_end s.phase why) replies
answered s (Notification id status pw_status fec) why replies is = grind (arith, told)
answered s (Initialization id params) why replies is = grind (arith, refused)
answered s (KeepAlive id) why replies is = grind (arith)
answered s message why replies is = grind (arith)

pub one_notice : OneNotice
one_notice s Start why replies may is = grind (arith)
one_notice s (Heard sender) why replies may is = grind (arith)
one_notice s (Received message) why replies may is = answered s message why replies is
one_notice s (Refused wrong) why replies may is = grind (arith)
one_notice s Spoke why replies may is = grind (arith)
one_notice s Ticked why replies may is = grind (arith)
one_notice s (Closed lost) why replies may is = grind (arith)

-- what an event makes of a session keeps within the proposals
kept : (ends : Peers) (s next : SessionState) (event : SessionEvent) → IsProper ends → IsWithinProposal ends s → view_after s (outcome_of s event) ≡ Stands next → IsWithinProposal ends next
kept ends s next Start proper within is = grind (arith)
kept ends s next (Heard sender) proper within is = grind (arith)
kept ends s next (Received message) proper within is = grind (arith)
kept ends s next (Refused wrong) proper within is = grind (arith)
kept ends s next Spoke proper within is = grind (arith)
kept ends s next Ticked proper within is = grind (arith)
kept ends s next (Closed lost) proper within is = grind (arith)

-- a session that ended does not go on
ended_stays : (why : Reason) (last : SessionState) → EndedBy why ≡ Stands last → ⊥
ended_stays why last is = grind (arith)

stands_same : (s last : SessionState) → Stands s ≡ Stands last → s ≡ last
stands_same s last is = grind (arith)

-- what holds at first, and is kept by each event of a kind, holds of every run of such events
ran_by : (next : SessionState → SessionEvent → SessionView) (May : SessionEvent → Type 0) (Holds : SessionState → Type 0)
    → ((s t : SessionState) (event : SessionEvent) → May event → Holds s → next s event ≡ Stands t → Holds t)
    → (events : List SessionEvent) (s last : SessionState) → AllByRecursion May events → Holds s → run_by next s events ≡ Stands last → Holds last
ran_by next May Holds keeps [] s last may holds is = subst Holds (stands_same s last is) holds
ran_by next May Holds keeps (event ∷ events) s last may holds is = goes_on (λ t here rest. ran_by next May Holds keeps events t last may.1 here rest) (next s event) refl is
  where
    goes_on : ((t : SessionState) → Holds t → run_by next t events ≡ Stands last → Holds last) → (view : SessionView) → next s event ≡ view
        → elim view [ Stands then_on ↦ run_by next then_on events | EndedBy why ↦ EndedBy why ] ≡ Stands last → Holds last
    goes_on others (Stands t) after rest = others t (keeps s t event may.0 holds after) rest
    goes_on others (EndedBy why) after rest = absurd (ended_stays why last rest)

every_event : (events : List SessionEvent) → AllByRecursion (λ event. Unit {0}) events
every_event [] = tt
every_event (event ∷ events) = (tt, every_event events)

-- the same of every run
ran : (next : SessionState → SessionEvent → SessionView) (Holds : SessionState → Type 0) → ((s t : SessionState) (event : SessionEvent) → Holds s → next s event ≡ Stands t → Holds t)
    → (events : List SessionEvent) (s last : SessionState) → Holds s → run_by next s events ≡ Stands last → Holds last
ran next Holds keeps events s last holds is = ran_by next (λ event. Unit {0}) Holds (λ t u event may here after. keeps t u event here after) events s last (every_event events) holds is

pub within_proposals : WithinProposals
within_proposals ends events s proper is = ran next_of (IsWithinProposal ends) (λ t u event within after. kept ends t u event proper within after) events (opened ends) s (grind (arith)) is

-- a third of a hold time is at least a tick
third_some : (hold : ℕ) → 0 < third hold
third_some hold = grind (arith)

-- silence is short once an Initialization was accepted
abbrev IsShort : SessionState → Type 0
IsShort s = is_agreed s.phase ≡ true → s.silence < third s.hold

short_kept : (s t : SessionState) (event : SessionEvent) → IsShort s → next_put s event ≡ Stands t → IsShort t
short_kept s t Start short is = grind (arith, third_some)
short_kept s t (Heard sender) short is = grind (arith, third_some)
short_kept s t (Received message) short is = grind (arith, third_some)
short_kept s t (Refused wrong) short is = grind (arith, third_some)
short_kept s t Spoke short is = grind (arith, third_some)
short_kept s t Ticked short is = grind (arith, third_some)
short_kept s t (Closed lost) short is = grind (arith, third_some)

pub never_silent : NeverSilent
never_silent ends events s is = ran next_put IsShort short_kept events (opened ends) s (grind (arith)) is

-- of two ends that face each other one is active
one_active : (one other : Peers) → IsFacing one other → IsAddress one.me → IsAddress one.peer → IsProper one → is_active other ≡ not (is_active one)
one_active one other facing me peer proper =
    let apart : (address_number one.me == address_number one.peer) ≡ false = numbers_apart one.me.0 one.peer.0 me.four peer.four me.octets peer.octets proper.apart in
    let larger : nat_lt (address_number one.me) (address_number one.peer) ≡ not (nat_lt (address_number one.peer) (address_number one.me)) =
    one_larger (address_number one.me) (address_number one.peer) apart in
    rw (facing.back, ← facing.there) larger

-- an end accepts what the other one proposes
accepted : (one other : Peers) → IsFacing one other → IsProper one → proposal_refusal other (proposal one) ≡ None
accepted one other facing proper = search rules

-- as long as each Initialization is the other end's, what was accepted are the smaller numbers of the two
record Agrees (one other : Peers) (s : SessionState) : Type 0 where
  same : s.peers ≡ one
  numbers : is_agreed s.phase ≡ true → IsAgreement one other s

-- a Max PDU Length that an end may propose means itself
meant : (other : Peers) → IsProper other → longest other.max_pdu ≡ other.max_pdu
meant other proper = grind (arith, proper.least, proper.most)

agree_kept : (one other : Peers) (s next : SessionState) (event : SessionEvent) → IsProper other → Proposes (proposal other) event → Agrees one other s → next_of s event ≡ Stands next
    → Agrees one other next
agree_kept one other s next Start proper may agrees is = grind (arith)
agree_kept one other s next (Heard sender) proper may agrees is = grind (arith)
agree_kept one other s next (Received message) proper may agrees is = grind (arith, meant)
agree_kept one other s next (Refused wrong) proper may agrees is = grind (arith)
agree_kept one other s next Spoke proper may agrees is = grind (arith)
agree_kept one other s next Ticked proper may agrees is = grind (arith)
agree_kept one other s next (Closed lost) proper may agrees is = grind (arith)

agreed_by : (one other : Peers) (events : List SessionEvent) (s : SessionState) → IsProper other → AllByRecursion (Proposes (proposal other)) events → run_session (opened one) events
    ≡ Stands s → Agrees one other s
agreed_by one other events s proper may is =
    ran_by next_of (Proposes (proposal other)) (Agrees one other) (λ t u event may' agrees after. agree_kept one other t u event proper may' agrees after) events (opened one) s may (grind (arith)) is

pub ends_agree : EndsAgree
ends_agree = record {
  one_active = one_active;
  acceptable = accepted;
  agreed = λ one other events s facing proper proper' may is. (agreed_by one other events s proper' may is).numbers;
  active_up = λ one other first second facing proper proper' active. search rules;
  passive_up = λ one other first second facing proper proper' active. search rules;
}
