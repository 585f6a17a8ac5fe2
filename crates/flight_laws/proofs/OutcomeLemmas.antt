-- What comes of an event in a session fits: its ends, its longest PDU, and the numbers of what is put.
use Rattle.std.proofs.Common.{◌≡◌, ◌≤◌, ◌<◌, ◌^◌, ℕ, Bool, true, false, cond, min, List, [], ◌∷◌, Option, Some, None, ap, arith}
use Rattle.std.specs.List.{AllByRecursion}
use Rattle.std.proofs.lemmas.Bool.Decides.{nat_tests}
use Rattle.net_values.proofs.BoolLemmas.{clash}
use Rattle.net_base.specs.declared.trace.state_name.Reason.{Reason}
use Rattle.net_base.specs.declared.trace.state_name.Reason.TheVariants as reason
use Rattle.ldp_codec.specs.declared.decode_fault.DecodeFault.{DecodeFault}
use Rattle.ldp_grammar.specs.declared.message.Message.{Message}
use Rattle.ldp_grammar.specs.declared.message.Message.TheVariants.{Notification, Hello, Initialization, KeepAlive, Address, AddressWithdraw, LabelMapping, LabelRequest, LabelWithdraw, LabelRelease, LabelAbort, Other, Unprocessed}
use Rattle.ldp_grammar.specs.declared.session_params.SessionParams.{SessionParams}
use Rattle.ldp_grammar.specs.Written.{Fits, id_of, writable, written_type}
use Rattle.session_core.specs.declared.peers.Peers.{Peers}
use Rattle.session_core.specs.declared.refusal.Refusal.{Refusal}
use Rattle.session_core.specs.declared.refusal.Refusal.TheVariants as refusal
use Rattle.session_core.specs.declared.reply.Reply.{Reply}
use Rattle.session_core.specs.declared.reply.Reply.TheVariants as reply
use Rattle.session_core.specs.Parameters.{longest, proposal_refusal}
use Rattle.session_core.specs.Phase.{Phase}
use Rattle.session_core.specs.Phase as phase
use Rattle.session_core.specs.Parameters.{is_platform}
use Rattle.session_core.specs.State.{SessionState, is_active}
use Rattle.session_core.specs.StatusCodes.{about, about_none, data_of, shutdown}
use Rattle.session_core.specs.Table.{SessionEvent, Start, Heard, Received, Refused, Spoke, Ticked, Closed, Outcome, Stay, Goes, Ends, data_refusing, farewell, is_expired, is_keep_alive_due, judged, a_tick_later, notified, outcome_of, reason_in, table, ticked_session}
use Rattle.flight_laws.specs.Pair.{AreFit}

-- ---- what fits

-- a session between these ends, whose PDUs have 256 to 4096 octets at most
pub record IsFitSession (own : Peers) (s : SessionState) : Type 0 where
  pub peers : s.peers ≡ own
  pub least : 256 ≤ s.max_pdu
  pub most : s.max_pdu ≤ 4096

-- the numbers of a reply fit the fields that they are written in
abbrev pub IsFitReply : Reply → Type 0
IsFitReply reply.Init = Unit {0}
IsFitReply reply.KeepAlive = Unit {0}
IsFitReply (reply.Notice status) = (status.code < 2 ^ 30) × (status.message < 2 ^ 32) × (status.kind < 2 ^ 16)

abbrev pub FitOutcome : Peers → Outcome → Type 0
FitOutcome own Stay = Unit {0}
FitOutcome own (Goes next replies) = IsFitSession own next × AllByRecursion IsFitReply replies
FitOutcome own (Ends why replies) = AllByRecursion IsFitReply replies

-- a message that can be written is received
abbrev pub FitEvent : SessionEvent → Type 0
FitEvent (Received m) = Fits m × (writable m ≡ true)
FitEvent event = Unit {0}

-- ---- replies

fit_id : (m : Message) → Fits m → id_of m < 2 ^ 32
fit_id (Notification id code status fec) fits = fits.0
fit_id (Hello id hold targeted request transport) fits = fits.0
fit_id (Initialization id params) fits = fits.0
fit_id (KeepAlive id) fits = fits
fit_id (Address id family octets) fits = fits.0
fit_id (AddressWithdraw id addresses fec macs) fits = fits.0
fit_id (LabelMapping id fec label status points) fits = fits.0
fit_id (LabelRequest id fec) fits = fits.0
fit_id (LabelWithdraw id fec label) fits = fits.0
fit_id (LabelRelease id fec label) fits = fits.0
fit_id (LabelAbort id fec request) fits = fits.0
fit_id (Other id u number) fits = fits
fit_id (Unprocessed id number why) fits = fits

fit_type : (m : Message) → writable m ≡ true → written_type m < 2 ^ 16
fit_type (Notification id code status fec) can = omega arith
fit_type (Hello id hold targeted request transport) can = omega arith
fit_type (Initialization id params) can = omega arith
fit_type (KeepAlive id) can = omega arith
fit_type (Address id family octets) can = omega arith
fit_type (AddressWithdraw id addresses fec macs) can = omega arith
fit_type (LabelMapping id fec label status points) can = omega arith
fit_type (LabelRequest id fec) can = omega arith
fit_type (LabelWithdraw id fec label) can = omega arith
fit_type (LabelRelease id fec label) can = omega arith
fit_type (LabelAbort id fec request) can = omega arith
fit_type (Other id u number) can = clash can
fit_type (Unprocessed id number why) can = clash can

about_fits : (m : Message) (data_is : ℕ) → data_is < 2 ^ 30 → Fits m → writable m ≡ true → IsFitReply (about m data_is)
about_fits m data_is low fits can = (low, fit_id m fits, fit_type m can)

none_fits : (data_is : ℕ) → data_is < 2 ^ 30 → IsFitReply (about_none data_is)
none_fits data_is low = (low, omega arith, omega arith)

-- ---- outcomes

judged_fits : (own : Peers) (given : Option Refusal) (s : SessionState) (m : Message) (params : SessionParams) (replies : List Reply) → AreFit own → IsFitSession own s → Fits m
    → writable m ≡ true → AllByRecursion IsFitReply replies
    → FitOutcome own (judged given s m params replies)
judged_fits own None s m params replies fit session fits can all =
    let ends : s.peers.max_pdu ≡ own.max_pdu = ap (λ (p : Peers). p.max_pdu) session.peers in (
      record { peers = session.peers; least = lower s.peers.max_pdu own.max_pdu params.max_pdu ends fit.proper.least; most = upper s.peers.max_pdu own.max_pdu params.max_pdu ends fit.proper.most },
      all,
    )
  where
    lower : (a b c : ℕ) → a ≡ b → 256 ≤ b → 256 ≤ min a (longest c)
    lower a b c same least = grind (arith, nat_tests)

    upper : (a b c : ℕ) → a ≡ b → b ≤ 4096 → min a (longest c) ≤ 4096
    upper a b c same most = grind (arith, nat_tests)
judged_fits own (Some refusal.Version) s m params replies fit session fits can all = (about_fits m (data_refusing refusal.Version) (omega arith) fits can, tt)
judged_fits own (Some refusal.Receiver) s m params replies fit session fits can all = (about_fits m (data_refusing refusal.Receiver) (omega arith) fits can, tt)
judged_fits own (Some refusal.KeepAliveTime) s m params replies fit session fits can all = (about_fits m (data_refusing refusal.KeepAliveTime) (omega arith) fits can, tt)

farewell_fits : (p : Phase) (why : Reason) (m : Message) → Fits m → writable m ≡ true → AllByRecursion IsFitReply (farewell p why m)
farewell_fits phase.Operational reason.PeerShutdown m fits can = (about_fits m shutdown (omega arith) fits can, tt)
farewell_fits p why m fits can = tt

notified_fits : (own : Peers) (why : Option Reason) (s : SessionState) (m : Message) → Fits m → writable m ≡ true → FitOutcome own (notified why s m)
notified_fits own None s m fits can = tt
notified_fits own (Some why) s m fits can = farewell_fits s.phase why m fits can

refused : (m : Message) → Fits m → writable m ≡ true → AllByRecursion IsFitReply (about m shutdown ∷ [])
refused m fits can = (about_fits m shutdown (omega arith) fits can, tt)

received_fits : (own : Peers) (s : SessionState) (p : Phase) (active : Bool) (m : Message) → AreFit own → IsFitSession own s → Fits m → writable m ≡ true
    → FitOutcome own (table p (Received m) active s)
received_fits own s phase.Initialized active (Notification id code status fec) fit session fits can = notified_fits own (reason_in code) s (Notification id code status fec) fits can
received_fits own s phase.OpenSent active (Notification id code status fec) fit session fits can = notified_fits own (reason_in code) s (Notification id code status fec) fits can
received_fits own s phase.OpenRec active (Notification id code status fec) fit session fits can = notified_fits own (reason_in code) s (Notification id code status fec) fits can
received_fits own s phase.Operational active (Notification id code status fec) fit session fits can = notified_fits own (reason_in code) s (Notification id code status fec) fits can
received_fits own s phase.Initialized false (Initialization id params) fit session fits can =
    judged_fits own (proposal_refusal s.peers params) s (Initialization id params) params (reply.Init ∷ reply.KeepAlive ∷ []) fit session fits can (tt, (tt, tt))
received_fits own s phase.Initialized true (Initialization id params) fit session fits can = refused (Initialization id params) fits can
received_fits own s phase.OpenSent active (Initialization id params) fit session fits can =
    judged_fits own (proposal_refusal s.peers params) s (Initialization id params) params (reply.KeepAlive ∷ []) fit session fits can (tt, tt)
received_fits own s phase.OpenRec active (KeepAlive id) fit session fits can = (record { peers = session.peers; least = session.least; most = session.most }, tt)
received_fits own s phase.Operational active m fit session fits can = tt
received_fits own s phase.Initialized active m fit session fits can = refused m fits can
received_fits own s phase.OpenSent active m fit session fits can = refused m fits can
received_fits own s phase.OpenRec active m fit session fits can = refused m fits can

fault_low : (f : DecodeFault) → data_of f < 2 ^ 30
fault_low f = grind arith

heard_fits : (own : Peers) (s : SessionState) (right : Bool) → IsFitSession own s
    → FitOutcome own (cond right (Goes (record s { wait = 0 }) []) (Ends reason.BadIdentifier (about_none Rattle.session_core.specs.StatusCodes.bad_ldp_identifier ∷ [])))
heard_fits own s true session = (record { peers = session.peers; least = session.least; most = session.most }, tt)
heard_fits own s false session = (none_fits Rattle.session_core.specs.StatusCodes.bad_ldp_identifier (omega arith), tt)

ticked_fits : (own : Peers) (s : SessionState) → IsFitSession own s → FitOutcome own (ticked_session s)
ticked_fits own s session = by_wait (is_expired s) (is_keep_alive_due s)
  where
    by_wait : (over quiet : Bool) → FitOutcome own
        (cond over (Ends reason.Expired (about_none Rattle.session_core.specs.StatusCodes.keep_alive_timer_expired ∷ [])) (Goes s (cond quiet (reply.KeepAlive ∷ []) [])))
    by_wait true quiet = (none_fits Rattle.session_core.specs.StatusCodes.keep_alive_timer_expired (omega arith), tt)
    by_wait false true = (session, (tt, tt))
    by_wait false false = (session, tt)

later_fits : (own : Peers) (s : SessionState) → IsFitSession own s → IsFitSession own (a_tick_later s)
later_fits own s session = record { peers = session.peers; least = session.least; most = session.most }

event_fits : (own : Peers) (s : SessionState) (p : Phase) (active : Bool) (event : SessionEvent) → AreFit own → IsFitSession own s → FitEvent event → FitOutcome own (table p event active s)
event_fits own s p active (Received m) fit session is = received_fits own s p active m fit session is.0 is.1
event_fits own s phase.Initialized true Start fit session is = (record { peers = session.peers; least = session.least; most = session.most }, (tt, tt))
event_fits own s phase.Initialized false Start fit session is = tt
event_fits own s phase.OpenSent active Start fit session is = tt
event_fits own s phase.OpenRec active Start fit session is = tt
event_fits own s phase.Operational active Start fit session is = tt
event_fits own s phase.Initialized active (Heard sender) fit session is = heard_fits own s (is_platform s.peers.peer sender) session
event_fits own s phase.OpenSent active (Heard sender) fit session is = heard_fits own s (is_platform s.peers.peer sender) session
event_fits own s phase.OpenRec active (Heard sender) fit session is = heard_fits own s (is_platform s.peers.peer sender) session
event_fits own s phase.Operational active (Heard sender) fit session is = heard_fits own s (is_platform s.peers.peer sender) session
event_fits own s phase.Initialized active (Refused wrong) fit session is = (none_fits (data_of wrong) (fault_low wrong), tt)
event_fits own s phase.OpenSent active (Refused wrong) fit session is = (none_fits (data_of wrong) (fault_low wrong), tt)
event_fits own s phase.OpenRec active (Refused wrong) fit session is = (none_fits (data_of wrong) (fault_low wrong), tt)
event_fits own s phase.Operational active (Refused wrong) fit session is = (none_fits (data_of wrong) (fault_low wrong), tt)
event_fits own s phase.Initialized active Spoke fit session is = (record { peers = session.peers; least = session.least; most = session.most }, tt)
event_fits own s phase.OpenSent active Spoke fit session is = (record { peers = session.peers; least = session.least; most = session.most }, tt)
event_fits own s phase.OpenRec active Spoke fit session is = (record { peers = session.peers; least = session.least; most = session.most }, tt)
event_fits own s phase.Operational active Spoke fit session is = (record { peers = session.peers; least = session.least; most = session.most }, tt)
event_fits own s phase.Initialized active Ticked fit session is = ticked_fits own (a_tick_later s) (later_fits own s session)
event_fits own s phase.OpenSent active Ticked fit session is = ticked_fits own (a_tick_later s) (later_fits own s session)
event_fits own s phase.OpenRec active Ticked fit session is = ticked_fits own (a_tick_later s) (later_fits own s session)
event_fits own s phase.Operational active Ticked fit session is = ticked_fits own (a_tick_later s) (later_fits own s session)
event_fits own s phase.Initialized active (Closed why) fit session is = tt
event_fits own s phase.OpenSent active (Closed why) fit session is = tt
event_fits own s phase.OpenRec active (Closed why) fit session is = tt
event_fits own s phase.Operational active (Closed why) fit session is = tt

pub outcome_fits : (own : Peers) (s : SessionState) (event : SessionEvent) → AreFit own → IsFitSession own s → FitEvent event → FitOutcome own (outcome_of s event)
outcome_fits own s event fit session is = event_fits own s s.phase (is_active s.peers) event fit session is
