-- How an edge hears octets of a peer: one PDU after another (RFC 5036 section 3.1), and of its messages those that tell the status of a
-- wire with the peer (RFC 8077 section 6.3.2).
use Rattle.std.specs.Prelude.{◌==◌, ◌-◌, ◌++◌, ℕ, zero, suc, List, [], ◌∷◌, length, Option, Some, None, if◌then◌else◌}
use Rattle.net_base.specs.declared.outside.link_call.LinkCall.{LinkCall}
use Rattle.net_base.specs.declared.plan.Plan.{Plan}
use Rattle.net_base.specs.declared.plan.places.EdgeId.{EdgeId}
use Rattle.pw_tlvs.specs.declared.pw_fec.PwFec.{PwFec}
use Rattle.pw_tlvs.specs.declared.pw_status.PwStatus.{PwStatus}
use Rattle.ldp_codec.specs.Decoded.{refusal_of}
use Rattle.ldp_grammar.specs.declared.message.Message.{Message}
use Rattle.ldp_grammar.specs.declared.message.Message.TheVariants.{Notification}
use Rattle.ldp_stream.specs.FrontOf.{Front, More, Got, Bad, front_of}
use Rattle.ldp_stream.specs.State.{place_behind}
use Rattle.ldp_stream.specs.declared.stream_fault.StreamFault.TheVariants as fault
use Rattle.pw_messages.specs.Content.{pw_status_code}
use Rattle.pw_messages.specs.LinkAnswers.{Answers}
use Rattle.status_exchange.specs.Wish.{becomes, is_status_told}
use Rattle.independent_model.specs.declared.indep_stop.IndepStop.TheVariants as stop
use Rattle.independent_model.specs.State.{Stopped, Receiver, IndepState, Receiving, Broken, with_receiver, with_local, with_remote}
use Rattle.independent_model.specs.Tell.{tells}
use Rattle.independent_model.specs.Wires.{wire_named}
use Rattle.independent_model.specs.Work.{Goes, IndepOutcome, Stops, and_works}

-- ---- a message

-- the first three of the four steps below
abbrev pub learns : ℕ → PwStatus → IndepState → IndepState
learns wire status edge = with_local wire (becomes status (edge.local wire)) (with_remote wire (Some status) edge)

-- The status of a wire with the peer is heard (RFC 6870 sections 4 and 5). This does four things in order:
-- 1. what is known of the other end is this status (`learns`);
-- 2. where the other end asks for a switchover, an end that stands by is active (`yields`);
-- 3. where the other end does not stand by, an end that asks is active, and asks no more (`rests`, both by `becomes`);
-- 4. where the end was asked, or was changed by 2 or 3, what it calls the wire is told once (`is_told`).
abbrev pub independent_hears_status : Plan → Answers → ℕ → EdgeId → ℕ → PwStatus → IndepState → List LinkCall → IndepOutcome
independent_hears_status plan told me peer wire status edge calls =
    if is_status_told status (edge.local wire) then tells plan told me peer wire (learns wire status edge) calls else Goes (learns wire status edge) calls

-- a status is heard of a wire, where one is named
abbrev pub hears_of : Plan → Answers → ℕ → EdgeId → PwStatus → Option ℕ → IndepState → List LinkCall → IndepOutcome
hears_of plan told me peer status None edge calls = Goes edge calls
hears_of plan told me peer status (Some wire) edge calls = independent_hears_status plan told me peer wire status edge calls

-- a status Notification: of these status data, with a status, and with a FEC that names a wire with the peer
abbrev pub hears_notice : Plan → Answers → ℕ → EdgeId → ℕ → Option PwStatus → Option PwFec → IndepState → List LinkCall → IndepOutcome
hears_notice plan told me peer code None fec edge calls = Goes edge calls
hears_notice plan told me peer code (Some status) None edge calls = Goes edge calls
hears_notice plan told me peer code (Some status) (Some fec) edge calls =
    if code == pw_status_code then hears_of plan told me peer status (wire_named plan me peer.0 fec.pw_id) edge calls else Goes edge calls

-- all other messages are ignored
abbrev pub independent_hears_message : Plan → Answers → ℕ → EdgeId → Message → IndepState → List LinkCall → IndepOutcome
independent_hears_message plan told me peer (Notification id code status fec) edge calls = hears_notice plan told me peer code.code status fec edge calls
independent_hears_message plan told me peer message edge calls = Goes edge calls

-- one message after another
abbrev pub independent_hears_messages : Plan → Answers → ℕ → EdgeId → List Message → IndepState → List LinkCall → IndepOutcome
independent_hears_messages plan told me peer [] edge calls = Goes edge calls
independent_hears_messages plan told me peer (message ∷ messages) edge calls = and_works (independent_hears_message plan told me peer message edge calls) (λ e c. independent_hears_messages plan told me peer messages e c)

-- ---- octets

-- what stands in front of octets is heard, and the octets behind a PDU go on
abbrev pub independent_hears_front : Plan → Answers → ℕ → EdgeId → (ℕ → List ℕ → IndepState → List LinkCall → IndepOutcome) → ℕ → List ℕ → Front → IndepState → List LinkCall → IndepOutcome
independent_hears_front plan told me peer on base held More edge calls = Goes (with_receiver peer.0 (Receiving base held) edge) calls
independent_hears_front plan told me peer on base held (Got pdu rest) edge calls =
    and_works (independent_hears_messages plan told me peer pdu.messages edge calls) (λ e c. on (place_behind base (length held - length rest)) rest e c)
independent_hears_front plan told me peer on base held (Bad wrong) edge calls = Stops (stop.Refused (fault.Refused base (refusal_of wrong))) (with_receiver peer.0 (Broken base wrong) edge) calls

-- so many PDUs at most
abbrev pub independent_hears_few : Plan → Answers → ℕ → EdgeId → ℕ → ℕ → List ℕ → IndepState → List LinkCall → IndepOutcome
independent_hears_few plan told me peer zero base held edge calls = Goes (with_receiver peer.0 (Receiving base held) edge) calls
independent_hears_few plan told me peer (suc n) base held edge calls = independent_hears_front plan told me peer (independent_hears_few plan told me peer n) base held (front_of 4096 held) edge calls

-- all of them: a PDU has octets, so there are no more PDUs than octets
abbrev pub hears_all : Plan → Answers → ℕ → EdgeId → ℕ → List ℕ → IndepState → List LinkCall → IndepOutcome
hears_all plan told me peer base held edge calls = independent_hears_few plan told me peer (suc (length held)) base held edge calls

-- by what the edge hears the peer with; it is taken up while it hears, so that nothing is left where a message is refused
abbrev pub hears_by : Plan → Answers → ℕ → EdgeId → List ℕ → Receiver → IndepState → List LinkCall → IndepOutcome
hears_by plan told me peer octets (Receiving base held) edge calls = hears_all plan told me peer base (held ++ octets) (with_receiver peer.0 Stopped edge) calls
hears_by plan told me peer octets (Broken base wrong) edge calls = Stops (stop.Refused (fault.Refused base (refusal_of wrong))) edge calls
hears_by plan told me peer octets Stopped edge calls = Goes edge calls

-- ---- in parts

-- what comes of octets behind those that are held
abbrev pub hears_at : Plan → Answers → ℕ → EdgeId → Receiver → List ℕ → IndepState → List LinkCall → IndepOutcome
hears_at plan told me peer (Receiving base held) more edge calls = hears_all plan told me peer base (held ++ more) edge calls
hears_at plan told me peer (Broken base wrong) more edge calls = Stops (stop.Refused (fault.Refused base (refusal_of wrong))) (with_receiver peer.0 (Broken base wrong) edge) calls
hears_at plan told me peer Stopped more edge calls = Goes edge calls
