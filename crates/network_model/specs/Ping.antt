-- An edge pings the far end of a wire. What comes of it belongs to no frame: its origin is 0 (RFC 5085 section 3).
use Rattle.net_base.specs.declared.plan.Plan.{Plan}
use Rattle.net_base.specs.declared.plan.places.EdgeId.{EdgeId}
use Rattle.net_base.specs.declared.plan.places.WireId.{WireId}
use Rattle.edge_model.specs.Ping.{ping_input}
use Rattle.edge_model.specs.Work.{Work}
use Rattle.network_model.specs.Absorb.{Stepped, answer, begin_at, taken_all}
use Rattle.network_model.specs.State.{NetworkState}

-- the work of the edge that pings
abbrev pub ping_work : Plan → NetworkState → EdgeId → WireId → Work
ping_work plan network me wire = ping_input plan taken_all wire (begin_at network me)

-- the event `Ping`
abbrev pub ping_event : Plan → EdgeId → WireId → NetworkState → Stepped
ping_event plan me wire network = answer me 0 0 (ping_work plan network me wire) network
