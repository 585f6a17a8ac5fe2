-- Connections of an edge: one stands, one is lost, and the edge restarts.
use Rattle.std.specs.Prelude.{◌&&◌, not, [], Option, Some, slice_get, if◌then◌else◌}
use Rattle.net_base.specs.declared.plan.Plan.{Plan}
use Rattle.net_base.specs.declared.plan.edge_plan.EdgePlan.{EdgePlan}
use Rattle.net_base.specs.declared.plan.places.EdgeId.{EdgeId}
use Rattle.net_base.specs.declared.trace.state_name.Reason.TheVariants as reason
use Rattle.net_base.specs.declared.trace.state_name.StateName.TheVariants as name
use Rattle.net_base.specs.plan.Paths.{are_joined}
use Rattle.session_core.specs.declared.peers.Peers.{Peers}
use Rattle.session_core.specs.State.{opened}
use Rattle.session_core.specs.Table as table
use Rattle.pw_messages.specs.LinkAnswers.{Answers}
use Rattle.edge_model.specs.declared.effect.Effect.TheVariants.{Session}
use Rattle.edge_model.specs.Labels.{keeping_all, meeting}
use Rattle.edge_model.specs.Mend.{mends}
use Rattle.edge_model.specs.Session.{happens_with_ends}
use Rattle.edge_model.specs.State.{EdgeState, Peering, has_end, with_learned, with_peering, without_ends, without_peerings}
use Rattle.edge_model.specs.Work.{Work, changes, gives, idles}

-- the two ends of a session, as the plan has them
abbrev pub peers_of : EdgePlan → EdgePlan → Peers
peers_of own other = record { me = own.address; peer = other.address; keepalive = own.keepalive; max_pdu = own.max_pdu }

-- a connection of which nothing came yet; messages are numbered from 1 on each
abbrev pub opened_with : EdgePlan → EdgePlan → Peering
opened_with own other = record { session = opened (peers_of own other); held = []; next_id = 1 }

-- what waits for the peer begins to rest, the edge's end of the connection stands, and its session begins; the active end speaks first (RFC 5036 section 2.5.3)
abbrev pub connects : Answers → EdgeId → Peering → Work → Work
connects told peer kept work =
    happens_with_ends told peer table.Start (gives (Session peer name.Initialized) (changes (with_peering peer (Some kept)) (changes (meeting peer) work)))

-- the session is that of the two rows of the plan
abbrev pub connects_between : Plan → Answers → EdgeId → Option EdgePlan → Option EdgePlan → Work → Work
connects_between plan told peer (Some own) (Some other) work = mends plan told (connects told peer (opened_with own other) work)
connects_between plan told peer own other work = idles work

-- the input `Connected`: it applies at an edge that a segment joins to the peer, and whose end does not stand
abbrev pub connected_input : Plan → Answers → EdgeId → Work → Work
connected_input plan told peer work =
    if are_joined plan work.edge.me.0 peer.0 && not (has_end work.edge peer)
    then connects_between plan told peer (slice_get plan.edges work.edge.me.0) (slice_get plan.edges peer.0) work
    else idles work

-- the input `Lost`: it applies where the edge's end stands
abbrev pub lost_input : Plan → Answers → EdgeId → Work → Work
lost_input plan told peer work =
    if has_end work.edge peer then mends plan told (happens_with_ends told peer (table.Closed reason.Closed) work) else idles work

-- the edge restarts: it keeps its ticks, what was set of its circuits and wires, the label that it gives next, and the numbers that may
-- be given again, those that its ends have owned among them; it tells nothing
abbrev pub restarted : EdgeState → EdgeState
restarted edge = without_ends (with_learned (λ service. []) (without_peerings (keeping_all edge)))

-- the input `Restart`: it always applies
abbrev pub restart_input : Work → Work
restart_input work = changes restarted work
