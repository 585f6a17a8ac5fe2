-- A switching point, which has an end of each of two segments of a wire: the octets of a packet that go on, and what it drops; what it
-- tells one side of the other, and what it takes. Each equation below is found by evaluation alone.
use Rattle.std.proofs.Common.{◌≡◌, ℕ, true, false, List, [], ◌∷◌, Option, Some, None, refl, option_map}
use Rattle.std.specs.Prelude.{codes}
use Rattle.net_base.specs.declared.plan.Plan.{Plan}
use Rattle.net_base.specs.declared.plan.edge_plan.EdgePlan.{EdgePlan}
use Rattle.net_base.specs.declared.plan.offer.Offer.{Offer}
use Rattle.net_base.specs.declared.plan.places.EdgeId.{EdgeId}
use Rattle.net_base.specs.declared.plan.places.WireId.{WireId}
use Rattle.net_base.specs.declared.plan.wire_plan.Class.TheVariants.{Mesh}
use Rattle.net_base.specs.declared.trace.arrival.Arrival.TheVariants as arrival
use Rattle.net_base.specs.declared.trace.drop_cause.DropCause.TheVariants as cause
use Rattle.pw_signalling.specs.declared.binding.Binding.{Binding}
use Rattle.pw_signalling.specs.declared.told.Told.{Told}
use Rattle.pw_signalling.specs.End.{Advertised}
use Rattle.session_core.specs.Phase as phase
use Rattle.pw_messages.specs.Content.{bare_fec_of, content_of}
use Rattle.pw_messages.specs.LinkAnswers.{Answers}
use Rattle.edge_model.specs.Connection.{opened_with, peers_of}
use Rattle.edge_model.specs.declared.effect.Effect.TheVariants.{Said, Sent, Dropped}
use Rattle.edge_model.specs.declared.end_place.EndPlace.{EndPlace}
use Rattle.edge_model.specs.Ends.{is_stitched}
use Rattle.edge_model.specs.Mend.{offer_stands, wish}
use Rattle.edge_model.specs.Packet.{packet_input}
use Rattle.edge_model.specs.Put.{with_spoken}
use Rattle.edge_model.specs.Role.{status_to_tell}
use Rattle.edge_model.specs.Signal.{hears_mapping, takes_content}
use Rattle.edge_model.specs.State.{EdgeState, Peering, empty_edge, with_end, with_peering, with_kept}
use Rattle.edge_model.specs.Work.{Work, beginning, changes, gives, posts, puts}
use Rattle.pw_tlvs.specs.declared.point.Point.{Point}
use Rattle.session_core.specs.State.{opened}

abbrev an_edge : ℕ → EdgePlan
an_edge last = record { name = codes "pe"; address = record { 0 = 10 ∷ 0 ∷ 0 ∷ last ∷ [] }; first_label = 16; keepalive = 180; max_pdu = 4096 }

abbrev an_offer : Offer
an_offer = record { tagged = false; cword = true; mtu = Some 1500; vlan = None; vccv = None; status = true; group = 0; description = [] }

abbrev a : EdgeId
a = record { 0 = 0 }

abbrev b : EdgeId
b = record { 0 = 1 }

abbrev c : EdgeId
c = record { 0 = 2 }

abbrev w : WireId
w = record { 0 = 0 }

-- a wire from the first edge over the second one to the third one
abbrev plan : Plan
plan = record {
  edges = an_edge 1 ∷ an_edge 2 ∷ an_edge 3 ∷ [];
  services = record { name = codes "s"; mtu = 1500; age = 2 } ∷ [];
  circuits = [];
  wires = record { name = codes "w"; service = record { 0 = 0 }; class = Mesh; path = a ∷ b ∷ c ∷ []; pw_id = 100; near = an_offer; far = an_offer; priority = 0 } ∷ [];
}

abbrev content : Told
content = content_of an_offer (Some (record { 0 = 0 }))

abbrev bound_to : ℕ → Option Binding
bound_to label = Some (record { label = label; told = content })

abbrev before : EndPlace
before = record { wire = w; peer = a; pw_id = 100; segment = 0; side = 1; terminal = false }

abbrev after : EndPlace
after = record { wire = w; peer = c; pw_id = 100; segment = 1; side = 0; terminal = false }

-- the second edge advertises label 16 to the first one and label 17 to the third one; of the first one it holds label 20
abbrev point : Option Binding → EdgeState
point held = with_end after (record { local = Advertised 17 content; remote = held }) (with_end before (record { local = Advertised 16 content; remote = bound_to 20 }) (empty_edge plan b))

abbrev taken : Answers
taken k = true

abbrev refused : Answers
refused k = false

abbrev on_packet : Answers → Option Binding → List ℕ → Work
on_packet told held octets = packet_input plan told octets (beginning (point held) [])

-- ---- of the third edge it holds label 30

-- a packet under label 16 goes on under label 30, with TTL 254 and in the same traffic class, which is 5
goes_on : (on_packet taken (bound_to 30) (0 ∷ 1 ∷ 11 ∷ 255 ∷ 0 ∷ 0 ∷ 7 ∷ [])).effects ≡ Sent c w (arrival.Wire w) (0 ∷ 1 ∷ 235 ∷ 254 ∷ 0 ∷ 0 ∷ 7 ∷ []) ∷ []
unfolding gives posts with_end with_kept
goes_on = refl

-- one under label 17 goes the other way, under label 20
goes_back : (on_packet taken (bound_to 30) (0 ∷ 1 ∷ 17 ∷ 255 ∷ 0 ∷ 0 ∷ 7 ∷ [])).effects ≡ Sent a w (arrival.Wire w) (0 ∷ 1 ∷ 65 ∷ 254 ∷ 0 ∷ 0 ∷ 7 ∷ []) ∷ []
unfolding gives posts with_end with_kept
goes_back = refl

-- with TTL 1 it is dropped, and where the link does not take it
drops_expired : (on_packet taken (bound_to 30) (0 ∷ 1 ∷ 17 ∷ 1 ∷ 0 ∷ 0 ∷ 7 ∷ [])).effects ≡ Dropped cause.Expired ∷ []
unfolding gives posts with_end with_kept
drops_expired = refl

drops_refused : (on_packet refused (bound_to 30) (0 ∷ 1 ∷ 17 ∷ 255 ∷ 0 ∷ 0 ∷ 7 ∷ [])).effects ≡ Dropped cause.LinkFault ∷ []
unfolding gives posts with_end with_kept
drops_refused = refl

stitched : is_stitched plan (point (bound_to 30)) w ≡ true
unfolding with_end with_kept
stitched = refl

-- ---- of the third edge it holds nothing

drops_unbound : (on_packet taken None (0 ∷ 1 ∷ 11 ∷ 255 ∷ 0 ∷ 0 ∷ 7 ∷ [])).effects ≡ Dropped cause.NoBinding ∷ []
unfolding gives posts with_end with_kept
drops_unbound = refl

-- packets the other way still go on
goes_back_alone : (on_packet taken None (0 ∷ 1 ∷ 17 ∷ 255 ∷ 0 ∷ 0 ∷ 7 ∷ [])).effects ≡ Sent a w (arrival.Wire w) (0 ∷ 1 ∷ 65 ∷ 254 ∷ 0 ∷ 0 ∷ 7 ∷ []) ∷ []
unfolding gives posts with_end with_kept
goes_back_alone = refl

not_stitched : is_stitched plan (point None) w ≡ false
unfolding with_end with_kept
not_stitched = refl

-- ---- what it tells, and what it takes

-- the point of another switching point, and the own one, which has the wire from the third edge
abbrev a_point : ℕ → Point
a_point last = record { pw_id = Some 100; local = Some (record { 0 = 10 ∷ 0 ∷ 0 ∷ last ∷ [] }); remote = Some (record { 0 = 10 ∷ 0 ∷ 0 ∷ 3 ∷ [] }) }

abbrev told_with_points : List Point → ℕ → Option ℕ → Told
told_with_points points mtu status = record content { mtu = Some mtu; status = option_map (λ bits. record { 0 = bits }) status; points = points }

-- the session with the first edge is up, and the third one has told this
abbrev up : Peering
up = record (opened_with (an_edge 2) (an_edge 1)) { session = record (opened (peers_of (an_edge 2) (an_edge 1))) { phase = phase.Operational } }

abbrev holding : Told → EdgeState
holding told = with_peering a (Some up) (point (Some (record { label = 30; told = told })))

-- it tells the first edge what the third one told, with its own point behind the others
passes_all : wish plan (holding (told_with_points (a_point 9 ∷ []) 1400 (Some 1))) before ≡ Some (told_with_points (a_point 9 ∷ a_point 2 ∷ []) 1400 (Some 1))
unfolding with_end with_peering with_kept
passes_all = refl

-- nothing where the third edge has told nothing
passes_nothing : wish plan (with_peering a (Some up) (point None)) before ≡ None
unfolding with_end with_peering with_kept
passes_nothing = refl

-- another status leaves what it has told, and is told alone; another MTU does not
keeps_label : offer_stands before (told_with_points (a_point 2 ∷ []) 1500 (Some 0)) (wish plan (holding (told_with_points [] 1500 (Some 32))) before) ≡ true
unfolding with_end with_peering with_kept
keeps_label = refl

passes_status : status_to_tell plan (holding (told_with_points [] 1500 (Some 32))) before ≡ record { 0 = 32 }
unfolding with_end with_peering with_kept
passes_status = refl

passes_no_status : status_to_tell plan (holding (told_with_points [] 1500 None)) before ≡ record { 0 = 0 }
unfolding with_end with_peering with_kept
passes_no_status = refl

takes_label_back : offer_stands before (told_with_points (a_point 2 ∷ []) 1500 (Some 0)) (wish plan (holding (told_with_points [] 1400 (Some 0))) before) ≡ false
unfolding with_end with_peering with_kept
takes_label_back = refl

-- it takes what has passed two switching points, and neither its own point nor three
takes_two : takes_content plan b before (told_with_points (a_point 8 ∷ a_point 9 ∷ []) 1500 None) ≡ true
takes_two = refl

refuses_own : takes_content plan b before (told_with_points (a_point 9 ∷ a_point 2 ∷ []) 1500 None) ≡ false
refuses_own = refl

refuses_three : takes_content plan b before (told_with_points (a_point 7 ∷ a_point 8 ∷ a_point 9 ∷ []) 1500 None) ≡ false
refuses_three = refl

-- a mapping of the first edge with the own point: the binding that was held goes, and the label is released
abbrev on_mapping : Work
on_mapping = hears_mapping plan taken a (bare_fec_of 100 content) 16 None (a_point 2 ∷ []) (beginning (holding content) [])

holds_nothing : (on_mapping.edge.ends 0 0).remote ≡ None
unfolding gives posts puts changes with_end with_peering with_spoken with_kept
holds_nothing = refl

releases_it : on_mapping.effects ≡ Said a (0 ∷ 1 ∷ 0 ∷ 38 ∷ 10 ∷ 0 ∷ 0 ∷ 2 ∷ 0 ∷ 0 ∷ 4 ∷ 3 ∷ 0 ∷ 28 ∷ 0 ∷ 0 ∷ 0 ∷ 1 ∷ 1 ∷ 0 ∷ 0 ∷ 12 ∷ 128 ∷ 128 ∷ 5 ∷ 4 ∷ 0 ∷ 0 ∷ 0 ∷ 0 ∷ 0 ∷ 0 ∷ 0
    ∷ 100 ∷ 2 ∷ 0 ∷ 0 ∷ 4 ∷ 0 ∷ 0 ∷ 0 ∷ 16 ∷ []) ∷ []
unfolding gives posts puts changes with_end with_peering with_spoken with_kept
releases_it = refl
