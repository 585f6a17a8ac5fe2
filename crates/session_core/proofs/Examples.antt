-- The definitions at work on values: each fact below is found by evaluation.
use Rattle.std.proofs.Common.{◌≡◌, true, false, [], ◌∷◌, Some, None, refl}
use Rattle.ldp_grammar.specs.declared.message.Message.TheVariants.{Notification, Initialization, KeepAlive}
use Rattle.ldp_grammar.specs.declared.status_code.StatusCode.{StatusCode}
use Rattle.net_base.specs.declared.trace.state_name.Reason.TheVariants as reason
use Rattle.session_core.specs.declared.peers.Peers.{Peers}
use Rattle.session_core.specs.declared.refusal.Refusal.TheVariants as refusal
use Rattle.session_core.specs.Parameters.{longest, proposal, proposal_refusal}
use Rattle.session_core.specs.Phase as phase
use Rattle.session_core.specs.State.{EndedBy, Stands, is_active, opened}
use Rattle.session_core.specs.Table.{Ends, Received, Spoke, Stay, Ticked, one_more, outcome_of, third}
use Rattle.session_core.specs.Laws.{run_session}

-- 10.0.0.2 and 10.0.0.1
abbrev active : Peers
active = record { me = record { 0 = 10 ∷ 0 ∷ 0 ∷ 2 ∷ [] }; peer = record { 0 = 10 ∷ 0 ∷ 0 ∷ 1 ∷ [] }; keepalive = 60; max_pdu = 1500 }

abbrev passive : Peers
passive = record { me = record { 0 = 10 ∷ 0 ∷ 0 ∷ 1 ∷ [] }; peer = record { 0 = 10 ∷ 0 ∷ 0 ∷ 2 ∷ [] }; keepalive = 180; max_pdu = 4096 }

larger_is_active : is_active active ≡ true
larger_is_active = refl

smaller_is_passive : is_active passive ≡ false
smaller_is_passive = refl

thirds : (third 180 ∷ third 10 ∷ third 2 ∷ []) ≡ 60 ∷ 3 ∷ 1 ∷ []
thirds = refl

lengths : (longest 0 ∷ longest 255 ∷ longest 256 ∷ longest 4096 ∷ longest 4097 ∷ []) ≡ 4096 ∷ 4096 ∷ 256 ∷ 4096 ∷ 4096 ∷ []
lengths = refl

-- of three refusals that hold the first counts
first_refusal : proposal_refusal passive (record (proposal passive) { version = 2; keepalive = 0 }) ≡ Some refusal.Version
first_refusal = refl

second_refusal : proposal_refusal passive (record (proposal passive) { keepalive = 0 }) ≡ Some refusal.Receiver
second_refusal = refl

third_refusal : proposal_refusal passive (record (proposal active) { keepalive = 0 }) ≡ Some refusal.KeepAliveTime
third_refusal = refl

-- a set-up, and the session that it leaves
up : run_session (opened passive) (Received (Initialization 1 (proposal active)) ∷ Spoke ∷ Ticked ∷ Received (KeepAlive 2) ∷ [])
    ≡ Stands (record { phase = phase.Operational; peers = passive; hold = 60; max_pdu = 1500; wait = 1; silence = 1 })
unfolding one_more
up = refl

-- advice that is not fatal ends nothing, whatever its data
abbrev advice : StatusCode
advice = record { fatal = false; forward = false; code = 10; message = 0; kind = 0 }

advice_stays : outcome_of (opened passive) (Received (Notification 3 advice None None)) ≡ Stay
advice_stays = refl

error_ends : outcome_of (opened passive) (Received (Notification 3 (record advice { fatal = true; code = 20 }) None None)) ≡ Ends reason.PeerFatal []
error_ends = refl

-- nothing was heard for the hold time
expired : run_session (record (opened passive) { hold = 2 }) (Ticked ∷ Ticked ∷ []) ≡ EndedBy reason.Expired
expired = refl
