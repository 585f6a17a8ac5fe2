-- A pseudowire is set up between two edges, withdrawn, released and told: what each of them makes of what the other one said.
-- Each equation below is found by evaluation alone.
use Rattle.std.proofs.Common.{◌≡◌, ℕ, Bool, true, false, List, [], ◌∷◌, Some, None, refl}
use Rattle.std.specs.Prelude.{codes}
use Rattle.net_base.specs.declared.plan.Plan.{Plan}
use Rattle.net_base.specs.declared.plan.edge_plan.EdgePlan.{EdgePlan}
use Rattle.net_base.specs.declared.plan.offer.Offer.{Offer}
use Rattle.net_base.specs.declared.plan.places.EdgeId.{EdgeId}
use Rattle.net_base.specs.declared.plan.places.WireId.{WireId}
use Rattle.net_base.specs.declared.plan.wire_plan.WirePlan.{WirePlan}
use Rattle.net_base.specs.declared.plan.wire_plan.Class.TheVariants.{Mesh, Spoke}
use Rattle.net_base.specs.declared.trace.down.Down.TheVariants.{NoLocal, NoRemote, Mtu, LocalFault, RemoteFault}
use Rattle.net_base.specs.declared.trace.state_name.Reason.TheVariants as reason
use Rattle.net_base.specs.declared.trace.state_name.StateName.TheVariants as name
use Rattle.net_values.specs.declared.addr.Addr.{Addr}
use Rattle.ldp_grammar.specs.declared.message.Message.{Message}
use Rattle.ldp_grammar.specs.declared.message.Message.TheVariants.{AddressWithdraw, Initialization, KeepAlive, LabelMapping, LabelWithdraw, LabelRelease, Notification}
use Rattle.ldp_grammar.specs.Written.{written}
use Rattle.pw_messages.specs.Content.{bare_fec_of, fec_of, pw_status_notice}
use Rattle.pw_messages.specs.LinkAnswers.{Answers}
use Rattle.pw_messages.specs.Sender.{platform_of}
use Rattle.mac_table.specs.declared.mac_entry.MacEntry.{MacEntry}
use Rattle.pw_tlvs.specs.declared.pw_fec.PwFec.{PwFec}
use Rattle.pw_signalling.specs.declared.told.Told.{Told}
use Rattle.pw_signalling.specs.Down.{down}
use Rattle.session_core.specs.Parameters.{proposal}
use Rattle.edge_model.specs.Connection.{connected_input, lost_input}
use Rattle.pw_tlvs.specs.Fec.{no_params}
use Rattle.edge_model.specs.declared.effect.Effect.{Effect}
use Rattle.edge_model.specs.declared.effect.Effect.TheVariants.{Said, Session, Wire, Closed}
use Rattle.edge_model.specs.Hear.{hears_messages}
use Rattle.edge_model.specs.Put.{with_spoken}
use Rattle.edge_model.specs.State.{EdgeState, empty_edge, with_addresses, with_bits, with_chosen, with_end, with_ends_beside, with_learned, with_next_label, with_peering, with_renewed, with_told_down, with_wire, with_kept}
use Rattle.edge_model.specs.Wire.{status_input, wire_input}
use Rattle.edge_model.specs.Work.{Work, beginning, changes, gives, idles, puts}

abbrev address : ℕ → Addr
address last = record { 0 = 10 ∷ 0 ∷ 0 ∷ last ∷ [] }

abbrev an_edge : ℕ → ℕ → EdgePlan
an_edge last first_label = record { name = codes "pe"; address = address last; first_label = first_label; keepalive = 180; max_pdu = 4096 }

abbrev an_offer : ℕ → ℕ → Offer
an_offer mtu group = record { tagged = false; cword = true; mtu = Some mtu; vlan = None; vccv = None; status = true; group = group; description = [] }

abbrev a_wire : ℕ → ℕ → Offer → Offer → WirePlan
a_wire service pw_id near far = record {
  name = codes "w";
  service = record { 0 = service };
  class = Mesh;
  path = record { 0 = 0 } ∷ record { 0 = 1 } ∷ [];
  pw_id = pw_id;
  near = near;
  far = far;
  priority = 0;
}

-- the first edge gives labels from here on, and offers what the second one does not always
abbrev plan_of : ℕ → List WirePlan → Plan
plan_of first_label wires = record {
  edges = an_edge 1 first_label ∷ an_edge 2 16 ∷ [];
  services = record { name = codes "s"; mtu = 1500; age = 2 } ∷ record { name = codes "r"; mtu = 1500; age = 2 } ∷ [];
  circuits = [];
  wires = wires;
}

-- the two edges; b is the active end, because its address is the larger
abbrev a : EdgeId
a = record { 0 = 0 }

abbrev b : EdgeId
b = record { 0 = 1 }

abbrev w : WireId
w = record { 0 = 0 }

abbrev v : WireId
v = record { 0 = 1 }

abbrev taken : Answers
taken k = true

abbrev connected : Plan → EdgeId → EdgeId → EdgeState
connected plan me peer = (connected_input plan taken peer (beginning (empty_edge plan me) [])).edge

-- an edge hears messages of its peer
abbrev hearing : Plan → EdgeId → List Message → EdgeState → Work
hearing plan peer messages edge = hears_messages plan taken peer messages (beginning edge [])

-- what an edge says, as its link takes it
abbrev said_by_a : Message → Effect
said_by_a message = Said b (written message (platform_of (address 1)))

abbrev said_by_b : Message → Effect
said_by_b message = Said a (written message (platform_of (address 2)))

abbrev proposal_of : ℕ → ℕ → Message
proposal_of last other = Initialization 1 (proposal (record { me = address last; peer = address other; keepalive = 180; max_pdu = 4096 }))

-- what an end tells of itself: raw, with the control word, and this MTU, group and status
abbrev content : ℕ → ℕ → ℕ → Told
content mtu group status = record {
  c = true;
  kind = 5;
  group = group;
  mtu = Some mtu;
  vlan = None;
  vccv = None;
  description = [];
  status = Some (record { 0 = status });
  points = [];
}

abbrev mapping_with : ℕ → ℕ → ℕ → Told → Message
mapping_with id pw_id label told = LabelMapping id (fec_of pw_id told) label told.status []

-- ---- a pseudowire is set up

abbrev plan : Plan
plan = plan_of 16 (a_wire 0 100 (an_offer 1500 0) (an_offer 1500 0) ∷ [])

abbrev usual : Told
usual = content 1500 0 0

-- both sessions are up, and both ends have said their labels
abbrev a_up : Plan → EdgeState
a_up plan = (hearing plan b (proposal_of 2 1 ∷ KeepAlive 2 ∷ []) (connected plan a b)).edge

abbrev b_up : Plan → EdgeState
b_up plan = (hearing plan a (proposal_of 1 2 ∷ KeepAlive 2 ∷ []) (connected plan b a)).edge

-- an end whose session comes up advertises a label
advertises : (hearing plan b (KeepAlive 2 ∷ []) (hearing plan b (proposal_of 2 1 ∷ []) (connected plan a b)).edge).effects
    ≡ Session b name.Operational ∷ said_by_a (mapping_with 3 100 16 usual) ∷ Wire w (Some NoRemote) ∷ []
unfolding changes down gives idles puts with_addresses with_chosen with_end with_ends_beside with_next_label with_peering with_spoken with_told_down with_kept
advertises = refl

-- it forwards once the label of the other one has come
forwards : (hearing plan b (mapping_with 3 100 16 usual ∷ []) (a_up plan)).effects ≡ Wire w None ∷ []
unfolding changes down gives idles puts with_addresses with_chosen with_end with_ends_beside with_next_label with_peering with_spoken with_told_down with_kept
forwards = refl

-- a mapping of a pseudowire that the plan lacks is released
releases_unknown : (hearing plan b (mapping_with 3 99 16 usual ∷ []) (a_up plan)).effects ≡ said_by_a (LabelRelease 4 (bare_fec_of 99 usual) (Some 16)) ∷ []
unfolding changes down gives idles puts with_addresses with_chosen with_end with_ends_beside with_next_label with_peering with_spoken with_told_down with_kept
releases_unknown = refl

abbrev a_set : EdgeState
a_set = (hearing plan b (mapping_with 3 100 16 usual ∷ []) (a_up plan)).edge

abbrev b_set : EdgeState
b_set = (hearing plan a (mapping_with 3 100 16 usual ∷ []) (b_up plan)).edge

-- ---- a label is withdrawn and released, and the next one is given

abbrev turns : Bool → EdgeState → Work
turns on edge = wire_input plan taken w on (beginning edge [])

withdraws : (turns false b_set).effects ≡ said_by_b (LabelWithdraw 4 (bare_fec_of 100 usual) (Some 16)) ∷ Wire w (Some NoLocal) ∷ []
unfolding changes down gives idles puts with_addresses with_chosen with_end with_ends_beside with_next_label with_peering with_spoken with_told_down with_wire with_kept
withdraws = refl

-- what was learned at the wire is forgotten, and what was learned at another port is not
abbrev learned_at : ℕ → MacEntry
learned_at port = record { address = record { 0 = 2 ∷ 0 ∷ 0 ∷ 0 ∷ 0 ∷ port ∷ [] }; port = port; tick = 0 }

abbrev b_taught : EdgeState
b_taught = with_learned (λ service. learned_at 0 ∷ learned_at 1 ∷ []) b_set

forgets : (turns false b_taught).edge.learned 0 ≡ learned_at 1 ∷ []
unfolding changes down gives idles puts with_addresses with_chosen with_end with_ends_beside with_learned with_next_label with_peering with_spoken with_told_down with_wire with_kept
forgets = refl

-- the other end releases it, and does not forward
releases : (hearing plan b (LabelWithdraw 4 (bare_fec_of 100 usual) (Some 16) ∷ []) a_set).effects
    ≡ said_by_a (LabelRelease 4 (bare_fec_of 100 usual) (Some 16)) ∷ Wire w (Some NoRemote) ∷ []
unfolding changes down gives idles puts with_addresses with_chosen with_end with_ends_beside with_next_label with_peering with_spoken with_told_down with_kept
releases = refl

-- as long as the label is not released, no other one is given, whatever is on
waits : (turns true (turns false b_set).edge).effects ≡ []
unfolding changes down gives idles puts with_addresses with_chosen with_end with_ends_beside with_next_label with_peering with_renewed with_spoken with_told_down with_wire with_kept
waits = refl

-- then it is the next one
given_next : (hearing plan a (LabelRelease 4 (bare_fec_of 100 usual) (Some 16) ∷ []) (turns true (turns false b_set).edge).edge).effects
    ≡ said_by_b (mapping_with 5 100 17 usual) ∷ Wire w None ∷ []
unfolding changes down gives idles puts with_addresses with_chosen with_end with_ends_beside with_next_label with_peering with_renewed with_spoken with_told_down with_wire with_kept
given_next = refl

-- a wire that is on is not put on, nor one that the plan lacks
idle_where_on : (turns true b_set).idle ≡ true
unfolding changes down gives idles puts with_addresses with_chosen with_end with_ends_beside with_next_label with_peering with_renewed with_spoken with_told_down with_wire with_kept
idle_where_on = refl

idle_elsewhere : (wire_input plan taken v false (beginning b_set [])).idle ≡ true
unfolding changes down gives idles puts with_addresses with_chosen with_end with_ends_beside with_next_label with_peering with_renewed with_spoken with_told_down with_wire with_kept
idle_elsewhere = refl

-- ---- a label that the other end releases unasked is declined: no other one is given until the wire is turned on again

abbrev b_declined : Work
b_declined = hearing plan a (LabelRelease 4 (bare_fec_of 100 usual) (Some 16) ∷ []) b_set

declined : b_declined.effects ≡ Wire w (Some NoLocal) ∷ []
unfolding changes down gives idles puts with_addresses with_chosen with_end with_ends_beside with_next_label with_peering with_spoken with_told_down with_kept
declined = refl

renewed : (turns true (turns false b_declined.edge).edge).effects ≡ said_by_b (mapping_with 4 100 17 usual) ∷ Wire w None ∷ []
unfolding changes down gives idles puts with_addresses with_chosen with_end with_ends_beside with_next_label with_peering with_renewed with_spoken with_told_down with_wire with_kept
renewed = refl

-- ---- a whole group is withdrawn: each binding of the group goes, and one release answers with the same FEC

abbrev grouped_plan : Plan
grouped_plan = plan_of 16 (a_wire 0 100 (an_offer 1500 7) (an_offer 1500 0) ∷ a_wire 1 200 (an_offer 1500 7) (an_offer 1500 0) ∷ [])

abbrev group_fec : PwFec
group_fec = record { c = true; kind = 5; group = 7; pw_id = None; params = no_params }

abbrev b_grouped : EdgeState
b_grouped = (hearing grouped_plan a (mapping_with 3 100 16 (content 1500 7 0) ∷ mapping_with 4 200 17 (content 1500 7 0) ∷ []) (b_up grouped_plan)).edge

releases_group : (hearing grouped_plan a (LabelWithdraw 4 group_fec None ∷ []) b_grouped).effects
    ≡ said_by_b (LabelRelease 5 group_fec None) ∷ Wire w (Some NoRemote) ∷ Wire v (Some NoRemote) ∷ []
unfolding changes down gives idles puts with_addresses with_chosen with_end with_ends_beside with_next_label with_peering with_spoken with_told_down with_kept
releases_group = refl

-- ---- MTUs that differ: neither end forwards

abbrev narrow_plan : Plan
narrow_plan = plan_of 16 (a_wire 0 100 (an_offer 1500 0) (an_offer 1400 0) ∷ [])

narrow_at_a : (hearing narrow_plan b (mapping_with 3 100 16 (content 1400 0 0) ∷ []) (a_up narrow_plan)).effects ≡ Wire w (Some Mtu) ∷ []
unfolding changes down gives idles puts with_addresses with_chosen with_end with_ends_beside with_next_label with_peering with_spoken with_told_down with_kept
narrow_at_a = refl

narrow_at_b : (hearing narrow_plan a (mapping_with 3 100 16 (content 1500 0 0) ∷ []) (b_up narrow_plan)).effects ≡ Wire w (Some Mtu) ∷ []
unfolding changes down gives idles puts with_addresses with_chosen with_end with_ends_beside with_next_label with_peering with_spoken with_told_down with_kept
narrow_at_b = refl

-- ---- a status is told

tells_failure : (status_input plan taken w 2 (beginning a_set [])).effects
    ≡ said_by_a (Notification 4 pw_status_notice (Some (record { 0 = 2 })) (Some (bare_fec_of 100 usual))) ∷ Wire w (Some LocalFault) ∷ []
unfolding changes down gives idles puts with_addresses with_bits with_chosen with_end with_ends_beside with_next_label with_peering with_spoken with_told_down with_kept
tells_failure = refl

hears_failure : (hearing plan a (Notification 4 pw_status_notice (Some (record { 0 = 2 })) (Some (bare_fec_of 100 usual)) ∷ []) b_set).effects ≡ Wire w (Some RemoteFault) ∷ []
unfolding changes down gives idles puts with_addresses with_chosen with_end with_ends_beside with_next_label with_peering with_spoken with_told_down with_kept
hears_failure = refl

-- ---- a session is lost, and with it what was told in it; a label is not given again

abbrev a_lost : Work
a_lost = lost_input plan taken b (beginning a_set [])

loses : a_lost.effects ≡ Session b (name.Ended reason.Closed) ∷ Closed b ∷ Wire w (Some NoLocal) ∷ []
unfolding changes down gives idles puts with_addresses with_chosen with_end with_ends_beside with_next_label with_peering with_spoken with_told_down with_kept
loses = refl

abbrev b_again : EdgeState
b_again = (connected_input plan taken a (beginning (lost_input plan taken a (beginning b_set [])).edge [])).edge

advertises_again : (hearing plan a (KeepAlive 2 ∷ []) (hearing plan a (proposal_of 1 2 ∷ []) b_again).edge).effects
    ≡ Session a name.Operational ∷ said_by_b (mapping_with 3 100 17 usual) ∷ Wire w (Some NoRemote) ∷ []
unfolding changes down gives idles puts with_addresses with_chosen with_end with_ends_beside with_next_label with_peering with_spoken with_told_down with_kept
advertises_again = refl

-- ---- the last label that there is goes to the first wire, and the second one has none

abbrev last_plan : Plan
last_plan = plan_of 1048575 (a_wire 0 100 (an_offer 1500 0) (an_offer 1500 0) ∷ a_wire 1 200 (an_offer 1500 0) (an_offer 1500 0) ∷ [])

gives_the_last : (hearing last_plan b (KeepAlive 2 ∷ []) (hearing last_plan b (proposal_of 2 1 ∷ []) (connected last_plan a b)).edge).effects
    ≡ Session b name.Operational ∷ said_by_a (mapping_with 3 100 1048575 usual) ∷ Wire w (Some NoRemote) ∷ []
unfolding changes down gives idles puts with_addresses with_chosen with_end with_ends_beside with_next_label with_peering with_spoken with_told_down with_kept
gives_the_last = refl

none_is_left : (hearing last_plan b (KeepAlive 2 ∷ []) (hearing last_plan b (proposal_of 2 1 ∷ []) (connected last_plan a b)).edge).edge.told_down 1 ≡ Some NoLocal
unfolding changes down gives idles puts with_addresses with_chosen with_end with_ends_beside with_next_label with_peering with_spoken with_told_down with_kept
none_is_left = refl

-- ---- spokes: a tells that addresses have moved as it chooses one, and b forgets them and passes it on

abbrev a_spoke : ℕ → WirePlan
a_spoke pw_id = record (a_wire 0 pw_id (an_offer 1500 0) (an_offer 1500 0)) { class = Spoke }

abbrev spoke_plan : Plan
spoke_plan = plan_of 16 (a_spoke 100 ∷ a_spoke 200 ∷ [])

-- all is meant that b did not learn by the spoke on which it is told
abbrev all_moved : ℕ → ℕ → Message
all_moved id pw_id = AddressWithdraw id None (Some (bare_fec_of pw_id usual)) (Some [])

tells_as_it_chooses : (hearing spoke_plan b (mapping_with 3 100 16 usual ∷ []) (a_up spoke_plan)).effects
    ≡ said_by_a (Notification 5 pw_status_notice (Some (record { 0 = 0 })) (Some (bare_fec_of 100 usual))) ∷ said_by_a (all_moved 6 100) ∷ Wire w None ∷ []
unfolding changes down gives idles puts with_addresses with_chosen with_end with_ends_beside with_next_label with_peering with_spoken with_told_down with_kept
tells_as_it_chooses = refl

abbrev b_spoked : EdgeState
b_spoked = with_learned (λ service. learned_at 0 ∷ learned_at 1 ∷ []) (hearing spoke_plan a (mapping_with 3 100 16 usual ∷ mapping_with 4 200 17 usual ∷ []) (b_up spoke_plan)).edge

forgets_elsewhere : (hearing spoke_plan a (all_moved 5 100 ∷ []) b_spoked).edge.learned 0 ≡ learned_at 0 ∷ []
unfolding changes down gives idles puts with_addresses with_chosen with_end with_ends_beside with_learned with_next_label with_peering with_spoken with_told_down with_kept
forgets_elsewhere = refl

passes_on : (hearing spoke_plan a (all_moved 5 100 ∷ []) b_spoked).effects ≡ said_by_b (all_moved 5 200) ∷ []
unfolding changes down gives idles puts with_addresses with_chosen with_end with_ends_beside with_learned with_next_label with_peering with_spoken with_told_down with_kept
passes_on = refl
