-- Which proposals a passive session accepts and refuses.
use Rattle.std.proofs.Common.{◌≡◌, ◌↔◌, ◌&&◌, Bool, true, false, not, IsTrue, Some, None, arith}
use Rattle.ldp_grammar.specs.declared.message.Message.{Message}
use Rattle.ldp_grammar.specs.declared.session_params.SessionParams.{SessionParams}
use Rattle.net_base.specs.declared.trace.state_name.Reason.TheVariants as reason
use Rattle.net_base.specs.declared.trace.state_name.StateName.TheVariants as name
use Rattle.session_core.specs.declared.peers.Peers.{Peers}
use Rattle.session_core.specs.declared.refusal.Refusal.TheVariants as refusal
use Rattle.session_core.specs.declared.standing.Standing.{Standing}
use Rattle.session_core.specs.Parameters.{proposal_refusal}
use Rattle.session_core.specs.Phase as phase
use Rattle.session_core.specs.Reasons.{has_bad_receiver, has_zero_time, is_acceptable, proposes}
use Rattle.session_core.specs.Session.{name_of}
use Rattle.session_core.specs.State.{SessionView, EndedBy, in_phase, is_active}
use Rattle.session_core.specs.Table.{Received, after, table, view_after}

-- what is acceptable is not refused
pub acceptable : (peers : Peers) (p : SessionParams) → (proposal_refusal peers p ≡ None) ↔ IsTrue (is_acceptable peers p)
acceptable peers p = grind (arith)

-- the second and the third of the refusals
pub bad_receiver : (peers : Peers) (p : SessionParams) → (proposal_refusal peers p ≡ Some refusal.Receiver) ↔ IsTrue (has_bad_receiver peers p)
bad_receiver peers p = grind (arith)

pub zero_time : (peers : Peers) (p : SessionParams) → (proposal_refusal peers p ≡ Some refusal.KeepAliveTime) ↔ IsTrue (has_zero_time peers p)
zero_time peers p = grind (arith)

-- what a message makes of a session in Initialized, of the passive or of the active end
abbrev waiting : Standing → Bool → Message → SessionView
waiting s active m = view_after (in_phase phase.Initialized s) (table phase.Initialized (Received m) active (in_phase phase.Initialized s))

accepts : (s : Standing) (active : Bool) (m : Message) → (name_of (waiting s active m) ≡ name.OpenRec) ↔ IsTrue (not active && proposes (is_acceptable s.peers) m)
accepts s true m = grind (arith)
accepts s false m = grind (arith, acceptable)

ends_by_receiver : (s : Standing) (active : Bool) (m : Message) → (waiting s active m ≡ EndedBy reason.BadReceiver) ↔ IsTrue (not active && proposes (has_bad_receiver s.peers) m)
ends_by_receiver s true m = grind (arith)
ends_by_receiver s false m = grind (arith, bad_receiver)

ends_by_time : (s : Standing) (active : Bool) (m : Message) → (waiting s active m ≡ EndedBy reason.ZeroKeepAlive) ↔ IsTrue (not active && proposes (has_zero_time s.peers) m)
ends_by_time s true m = grind (arith)
ends_by_time s false m = grind (arith, zero_time)

-- the same of an end as its addresses say
pub passive_accepts : (s : Standing) (m : Message) → (name_of (after phase.Initialized s (Received m)) ≡ name.OpenRec) ↔ IsTrue (not (is_active s.peers) && proposes (is_acceptable s.peers) m)
passive_accepts s m = accepts s (is_active s.peers) m

pub passive_bad_receiver : (s : Standing) (m : Message) → (after phase.Initialized s (Received m) ≡ EndedBy reason.BadReceiver)
    ↔ IsTrue (not (is_active s.peers) && proposes (has_bad_receiver s.peers) m)
passive_bad_receiver s m = ends_by_receiver s (is_active s.peers) m

pub passive_zero_time : (s : Standing) (m : Message) → (after phase.Initialized s (Received m) ≡ EndedBy reason.ZeroKeepAlive) ↔ IsTrue (not (is_active s.peers) && proposes (has_zero_time s.peers) m)
passive_zero_time s m = ends_by_time s (is_active s.peers) m
