-- A session comes up between two edges: what each of them makes of what the other one said. Each equation below is found by
-- evaluation alone.
use Rattle.std.proofs.Common.{◌≡◌, ℕ, true, false, List, [], ◌∷◌, Some, None, refl}
use Rattle.std.specs.Prelude.{codes}
use Rattle.net_base.specs.declared.plan.Plan.{Plan}
use Rattle.net_base.specs.declared.plan.edge_plan.EdgePlan.{EdgePlan}
use Rattle.net_base.specs.declared.plan.offer.Offer.{Offer}
use Rattle.net_base.specs.declared.plan.places.EdgeId.{EdgeId}
use Rattle.net_base.specs.declared.plan.wire_plan.WirePlan.{WirePlan}
use Rattle.net_base.specs.declared.plan.wire_plan.Class.TheVariants.{Mesh}
use Rattle.net_base.specs.declared.trace.down.Down.TheVariants.{NoRemote}
use Rattle.net_base.specs.declared.trace.state_name.Reason.TheVariants as reason
use Rattle.net_base.specs.declared.trace.state_name.StateName.TheVariants as name
use Rattle.pw_messages.specs.LinkAnswers.{Answers}
use Rattle.edge_model.specs.Connection.{connected_input, lost_input, restart_input}
use Rattle.edge_model.specs.declared.effect.Effect.TheVariants.{Said, Session, Wire, Closed}
use Rattle.edge_model.specs.Hear.{hears_pdu}
use Rattle.edge_model.specs.Put.{with_spoken}
use Rattle.edge_model.specs.State.{EdgeState, empty_edge, with_addresses, with_chosen, with_end, with_ends_beside, with_kept, with_learned, with_next_label, with_peering, with_ticks, with_told_down, without_ends, without_peerings}
use Rattle.edge_model.specs.Tick.{tick_input}
use Rattle.edge_model.specs.Work.{Work, beginning, changes, gives, idles, puts}
use Rattle.label_space.specs.Kept.{waiting}
use Rattle.label_space.specs.declared.kept.KeptState.{KeptState}
use Rattle.label_space.specs.declared.kept.KeptState.TheVariants.{Rests}
use Rattle.ldp_grammar.specs.declared.message.Message.{Message}
use Rattle.ldp_grammar.specs.declared.message.Message.TheVariants.{Initialization, KeepAlive}
use Rattle.ldp_grammar.specs.declared.pdu.Pdu.{Pdu}
use Rattle.net_values.specs.declared.addr.Addr.{Addr}
use Rattle.pw_signalling.specs.Down.{down}
use Rattle.session_core.specs.Parameters.{proposal}
use Rattle.session_core.specs.Table.{one_more}

abbrev an_edge : ℕ → EdgePlan
an_edge last = record { name = codes "pe"; address = record { 0 = 10 ∷ 0 ∷ 0 ∷ last ∷ [] }; first_label = 16; keepalive = 180; max_pdu = 4096 }

abbrev an_offer : Offer
an_offer = record { tagged = false; cword = true; mtu = Some 1500; vlan = None; vccv = None; status = true; group = 0; description = [] }

abbrev a_wire : WirePlan
a_wire = record { name = codes "w"; service = record { 0 = 0 }; class = Mesh; path = record { 0 = 0 } ∷ record { 0 = 1 } ∷ []; pw_id = 100; near = an_offer; far = an_offer; priority = 0 }

abbrev plan : Plan
plan = record {
  edges = an_edge 1 ∷ an_edge 2 ∷ an_edge 3 ∷ [];
  services = record { name = codes "s"; mtu = 1500; age = 2 } ∷ [];
  circuits = [];
  wires = a_wire ∷ [];
}

-- the two edges; b is the active end, because its address is the larger
abbrev a : EdgeId
a = record { 0 = 0 }

abbrev b : EdgeId
b = record { 0 = 1 }

-- every call is taken, or the first one is not
abbrev taken : Answers
taken k = true

abbrev failing : Answers
failing k = false

abbrev connected : Answers → EdgeId → EdgeId → Work
connected told me peer = connected_input plan told peer (beginning (empty_edge plan me) [])

abbrev initialization_of_b : List ℕ
initialization_of_b = 0 ∷ 1 ∷ 0 ∷ 32 ∷ 10 ∷ 0 ∷ 0 ∷ 2 ∷ 0 ∷ 0 ∷ 2 ∷ 0 ∷ 0 ∷ 22 ∷ 0 ∷ 0 ∷ 0 ∷ 1 ∷ 5 ∷ 0 ∷ 0 ∷ 14 ∷ 0 ∷ 1 ∷ 0 ∷ 180 ∷ 0 ∷ 0 ∷ 16 ∷ 0 ∷ 10 ∷ 0 ∷ 0 ∷ 1 ∷ 0 ∷ 0 ∷ []

abbrev initialization_of_a : List ℕ
initialization_of_a = 0 ∷ 1 ∷ 0 ∷ 32 ∷ 10 ∷ 0 ∷ 0 ∷ 1 ∷ 0 ∷ 0 ∷ 2 ∷ 0 ∷ 0 ∷ 22 ∷ 0 ∷ 0 ∷ 0 ∷ 1 ∷ 5 ∷ 0 ∷ 0 ∷ 14 ∷ 0 ∷ 1 ∷ 0 ∷ 180 ∷ 0 ∷ 0 ∷ 16 ∷ 0 ∷ 10 ∷ 0 ∷ 0 ∷ 2 ∷ 0 ∷ 0 ∷ []

abbrev keep_alive_of_a : List ℕ
keep_alive_of_a = 0 ∷ 1 ∷ 0 ∷ 14 ∷ 10 ∷ 0 ∷ 0 ∷ 1 ∷ 0 ∷ 0 ∷ 2 ∷ 1 ∷ 0 ∷ 4 ∷ 0 ∷ 0 ∷ 0 ∷ 2 ∷ []

abbrev keep_alive_of_b : List ℕ
keep_alive_of_b = 0 ∷ 1 ∷ 0 ∷ 14 ∷ 10 ∷ 0 ∷ 0 ∷ 2 ∷ 0 ∷ 0 ∷ 2 ∷ 1 ∷ 0 ∷ 4 ∷ 0 ∷ 0 ∷ 0 ∷ 2 ∷ []

-- label 16 for the wire with PW ID 100, raw, with the control word, an MTU of 1500 octets and no failure
abbrev mapping_of_b : List ℕ
mapping_of_b = 0 ∷ 1 ∷ 0 ∷ 50 ∷ 10 ∷ 0 ∷ 0 ∷ 2 ∷ 0 ∷ 0 ∷ 4 ∷ 0 ∷ 0 ∷ 40 ∷ 0 ∷ 0 ∷ 0 ∷ 3 ∷ 1 ∷ 0 ∷ 0 ∷ 16 ∷ 128 ∷ 128 ∷ 5 ∷ 8 ∷ 0 ∷ 0 ∷ 0 ∷ 0 ∷ 0 ∷ 0 ∷ 0 ∷ 100 ∷ 1 ∷ 4 ∷ 5 ∷ 220 ∷ 2 ∷ 0
    ∷ 0 ∷ 4 ∷ 0 ∷ 0 ∷ 0 ∷ 16 ∷ 137 ∷ 106 ∷ 0 ∷ 4 ∷ 0 ∷ 0 ∷ 0 ∷ 0 ∷ []

-- the passive end waits, the active one speaks
waits : (connected taken a b).effects ≡ Session b name.Initialized ∷ []
unfolding changes down gives idles puts with_addresses with_chosen with_end with_ends_beside with_next_label with_peering with_spoken with_told_down with_kept
waits = refl

speaks : (connected taken b a).effects ≡ Session a name.Initialized ∷ Said a initialization_of_b ∷ Session a name.OpenSent ∷ []
unfolding changes down gives idles puts with_addresses with_chosen with_end with_ends_beside with_next_label with_peering with_spoken with_told_down with_kept
speaks = refl

-- where the link does not take it, the session ends at once
fails : (connected failing b a).effects ≡ Session a name.Initialized ∷ Session a (name.Ended reason.LinkFault) ∷ Closed a ∷ []
unfolding changes down gives idles puts with_addresses with_chosen with_end with_ends_beside with_next_label with_peering with_spoken with_told_down with_kept
fails = refl

-- edges that no wire joins have no connection
apart : (connected taken a (record { 0 = 2 })).idle ≡ true
unfolding changes down gives idles puts with_addresses with_chosen with_end with_ends_beside with_next_label with_peering with_spoken with_told_down with_kept
apart = refl

lost : (lost_input plan taken b (beginning (connected taken a b).edge [])).effects ≡ Session b (name.Ended reason.Closed) ∷ Closed b ∷ []
unfolding changes down gives idles puts with_addresses with_chosen with_end with_ends_beside with_next_label with_peering with_spoken with_told_down with_kept
lost = refl

-- what each of them puts, as messages
abbrev address : ℕ → Addr
address last = record { 0 = 10 ∷ 0 ∷ 0 ∷ last ∷ [] }

abbrev from_edge : ℕ → List Message → Pdu
from_edge last messages = record { id = record { router = address last; space = 0 }; messages = messages }

abbrev proposal_of : ℕ → ℕ → Message
proposal_of last other = Initialization 1 (proposal (record { me = address last; peer = address other; keepalive = 180; max_pdu = 4096 }))

abbrev hears_all : Answers → EdgeId → List Pdu → Work → Work
hears_all told peer [] work = work
hears_all told peer (pdu ∷ pdus) work = hears_all told peer pdus (hears_pdu plan told peer pdu work)

abbrev hearing : Answers → EdgeId → List Pdu → EdgeState → Work
hearing told peer pdus edge = hears_all told peer pdus (beginning edge [])

-- the proposal is answered by one's own and by a KeepAlive
answers : (hearing taken b (from_edge 2 (proposal_of 2 1 ∷ []) ∷ []) (connected taken a b).edge).effects
    ≡ Said b initialization_of_a ∷ Said b keep_alive_of_a ∷ Session b name.OpenRec ∷ []
unfolding changes down gives idles puts with_addresses with_chosen with_end with_ends_beside with_next_label with_peering with_spoken with_told_down with_kept
answers = refl

-- and so the session comes up at the other end, which advertises its end of the wire
comes_up : (hearing taken a (from_edge 1 (proposal_of 1 2 ∷ []) ∷ from_edge 1 (KeepAlive 2 ∷ []) ∷ []) (connected taken b a).edge).effects
    ≡ Said a keep_alive_of_b ∷ Session a name.OpenRec ∷ Session a name.Operational ∷ Said a mapping_of_b ∷ Wire (record { 0 = 0 }) (Some NoRemote) ∷ []
unfolding changes down gives idles puts with_addresses with_chosen with_end with_ends_beside with_next_label with_peering with_spoken with_told_down with_kept
comes_up = refl

-- ---- labels are used again: the numbers of b

abbrev up : EdgeState
up = (hearing taken a (from_edge 1 (proposal_of 1 2 ∷ []) ∷ from_edge 1 (KeepAlive 2 ∷ []) ∷ []) (connected taken b a).edge).edge

-- the mapping gave a number
gives_one : up.next_label ≡ 17
unfolding changes down gives idles puts with_addresses with_chosen with_end with_ends_beside with_learned with_next_label with_peering one_more with_spoken with_ticks with_told_down without_ends without_peerings with_kept
gives_one = refl

-- with the session its end is lost: the number waits for the neighbour, and rests from the next connection on
abbrev after_loss : EdgeState
after_loss = (lost_input plan taken a (beginning up [])).edge

waits_for_it : after_loss.kept ≡ waiting 16 a ∷ []
unfolding changes down gives idles puts with_addresses with_chosen with_end with_ends_beside with_learned with_next_label with_peering one_more with_spoken with_ticks with_told_down without_ends without_peerings with_kept
waits_for_it = refl

rests_then : (connected_input plan taken a (beginning after_loss [])).edge.kept ≡ record { label = 16; state = Rests 0 } ∷ []
unfolding changes down gives idles puts with_addresses with_chosen with_end with_ends_beside with_learned with_next_label with_peering one_more with_spoken with_ticks with_told_down without_ends without_peerings with_kept
rests_then = refl

-- a restart keeps the next number and lets what is owned wait
waits_after_restart : (restart_input (beginning up [])).edge.kept ≡ waiting 16 a ∷ []
unfolding changes down gives idles puts with_addresses with_chosen with_end with_ends_beside with_learned with_next_label with_peering one_more with_spoken with_ticks with_told_down without_ends without_peerings with_kept
waits_after_restart = refl

next_after_restart : (restart_input (beginning up [])).edge.next_label ≡ 17
unfolding changes down gives idles puts with_addresses with_chosen with_end with_ends_beside with_learned with_next_label with_peering one_more with_spoken with_ticks with_told_down without_ends without_peerings with_kept
next_after_restart = refl

-- an edge that has given all numbers, and whose last one is in a state
abbrev given_all : KeptState → EdgeState → EdgeState
given_all state edge = record edge { next_label = 1048576; kept = record { label = 1048575; state = state } ∷ [] }

-- the session comes up, and nothing is advertised while the number waits or rests
abbrev up_without : EdgeState
up_without = (hearing taken a (from_edge 1 (proposal_of 1 2 ∷ []) ∷ from_edge 1 (KeepAlive 2 ∷ []) ∷ []) (given_all (Rests 62) (connected taken b a).edge)).edge

none_said : (hearing taken a (from_edge 1 (proposal_of 1 2 ∷ []) ∷ from_edge 1 (KeepAlive 2 ∷ []) ∷ []) (given_all (Rests 0) (connected taken b a).edge)).effects
    ≡ Said a keep_alive_of_b ∷ Session a name.OpenRec ∷ Session a name.Operational ∷ []
unfolding changes down gives idles puts with_addresses with_chosen with_end with_ends_beside with_learned with_next_label with_peering one_more with_spoken with_ticks with_told_down without_ends without_peerings with_kept
none_said = refl

abbrev tick_of_b : EdgeState → Work
tick_of_b edge = tick_input plan taken (beginning edge [])

-- 63 ticks of its rest have passed with this one, and still it is not free
none_yet : (tick_of_b up_without).effects ≡ []
unfolding changes down gives idles puts with_addresses with_chosen with_end with_ends_beside with_learned with_next_label with_peering one_more with_spoken with_ticks with_told_down without_ends without_peerings with_kept
none_yet = refl

-- with the 64th one it is free before the edge mends its ends, and is given
abbrev last_mapping_of_b : List ℕ
last_mapping_of_b = 0 ∷ 1 ∷ 0 ∷ 50 ∷ 10 ∷ 0 ∷ 0 ∷ 2 ∷ 0 ∷ 0 ∷ 4 ∷ 0 ∷ 0 ∷ 40 ∷ 0 ∷ 0 ∷ 0 ∷ 3 ∷ 1 ∷ 0 ∷ 0 ∷ 16 ∷ 128 ∷ 128 ∷ 5 ∷ 8 ∷ 0 ∷ 0 ∷ 0 ∷ 0 ∷ 0 ∷ 0 ∷ 0 ∷ 100 ∷ 1 ∷ 4 ∷ 5 ∷ 220
    ∷ 2 ∷ 0 ∷ 0 ∷ 4 ∷ 0 ∷ 15 ∷ 255 ∷ 255 ∷ 137 ∷ 106 ∷ 0 ∷ 4 ∷ 0 ∷ 0 ∷ 0 ∷ 0 ∷ []

given_again : (tick_of_b (tick_of_b up_without).edge).effects ≡ Said a last_mapping_of_b ∷ Wire (record { 0 = 0 }) (Some NoRemote) ∷ []
unfolding changes down gives idles puts with_addresses with_chosen with_end with_ends_beside with_learned with_next_label with_peering one_more with_spoken with_ticks with_told_down without_ends without_peerings with_kept
given_again = refl

-- the next number stays the last one, and the label is kept no longer
none_kept : (tick_of_b (tick_of_b up_without).edge).edge.kept ≡ []
unfolding changes down gives idles puts with_addresses with_chosen with_end with_ends_beside with_learned with_next_label with_peering one_more with_spoken with_ticks with_told_down without_ends without_peerings with_kept
none_kept = refl
