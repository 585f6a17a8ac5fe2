-- What an edge makes of what came in a control channel, and of a ping, exit by exit.
use Rattle.pw_messages.specs.LinkAnswers.{Answers}
use Rattle.edge_model.specs.Echo.{channel_octets, channel_under, echoes, is_picked, ping_number, verifies}
use Rattle.edge_model.specs.Ping.{asks, far_address, ping_input, pinging, pings_at, pings_by, pings_in, pings_under}
use Rattle.edge_model.specs.Send.{drops, sends}
use Rattle.edge_model.specs.State.{EdgeState, end_at}
use Rattle.edge_model.specs.Work.{Work, beginning, changes, gives, idles}
use Rattle.edge_model.specs.Ends.{wire_end}
use Rattle.edge_model.specs.declared.effect.Effect.{Effect}
use Rattle.edge_model.specs.declared.effect.Effect.TheVariants.{Dropped, Pong}
use Rattle.edge_model.specs.declared.end_place.EndPlace.{EndPlace}
use Rattle.net_base.specs.declared.outside.link_call.LinkCall.{LinkCall}
use Rattle.net_base.specs.declared.plan.Plan.{Plan}
use Rattle.net_base.specs.declared.plan.offer.Offer.{Offer}
use Rattle.net_base.specs.declared.plan.places.EdgeId.{EdgeId}
use Rattle.net_base.specs.declared.plan.places.WireId.{WireId}
use Rattle.net_base.specs.declared.plan.wire_plan.WirePlan.{WirePlan}
use Rattle.net_base.specs.declared.trace.arrival.Arrival.TheVariants as arrival
use Rattle.net_base.specs.declared.trace.drop_cause.DropCause.{DropCause}
use Rattle.net_base.specs.declared.trace.drop_cause.DropCause.TheVariants as cause
use Rattle.net_base.specs.plan.Paths.{edge_address, offer_of}
use Rattle.net_base.specs.plan.Places.{wire_row}
use Rattle.net_values.specs.declared.addr.Addr.{Addr}
use Rattle.peer_dialogue.specs.Peering.{at_edge}
use Rattle.provider_edge.proofs.BridgeLemmas.{dropped_at}
use Rattle.provider_edge.proofs.PacketLemmas.{row_there}
use Rattle.provider_edge.specs.Lists.{EdgeLists, Keeps, seen, worked}
use Rattle.provider_edge.specs.Pings.{asked_with, asks_with, channel_by, ping_from, ping_of, request_at, request_by, request_in, request_of, request_under, verified_by}
use Rattle.provider_edge.proofs.MendLemmas.{me_at}
use Rattle.pw_ends.specs.Ends.{end_in, no_place, place_of}
use Rattle.pw_signalling.specs.declared.binding.Binding.{Binding}
use Rattle.pw_stitch.specs.Stitch.{has_told}
use Rattle.std.proofs.Common.{Bool, Err, List, None, Ok, Option, Result, Some, [], ap, arith, cond, drop, false, length, refl, slice_index_or, sym, take, true, ℕ, ◌++◌, ◌∙◌, ◌∷◌, ◌≡◌, ◌≤◌, ◌<◌}
use Rattle.std.proofs.lemmas.List.{length-drop}
use Rattle.vccv_channel.proofs.ReadingLemmas.{IsRead, read_as}
use Rattle.vccv_channel.specs.Channel.{has_header}
use Rattle.vccv_channel.specs.Echo.{answer_packet}
use Rattle.vccv_channel.specs.Fault.{vccv_cause_of}
use Rattle.vccv_channel.specs.Pick.{picked}
use Rattle.vccv_channel.specs.Reading.{behind_header, ip_packet_of, reading}
use Rattle.vccv_channel.specs.declared.cc.Cc.{Cc}
use Rattle.vccv_channel.specs.declared.cc.Cc.TheVariants.{Alert, Expiry, Header}
use Rattle.vccv_channel.specs.declared.echo.Echo.{Echo}
use Rattle.vccv_channel.specs.declared.echo.Echo.TheVariants.{Answer, Request}
use Rattle.vccv_channel.specs.declared.ping.Ping.{Ping}
use Rattle.vccv_channel.specs.declared.vccv_fault.VccvFault.{VccvFault}

-- ---- which channel is picked

none_picked : (kind : Cc) → is_picked kind None ≡ false
none_picked Header = refl
none_picked Alert = refl
none_picked Expiry = refl

pub channel_bound : (row : WirePlan) (me : EdgeId) (remote : Option Binding) (binding : Binding) (offer : Offer) (channel : Option Cc) → offer ≡ offer_of row me.0 → remote ≡ Some binding
    → channel ≡ picked offer.vccv binding.told.vccv offer.cword (length binding.told.points) → channel ≡ channel_by row me remote
channel_bound row me remote binding offer channel same held is =
    is ∙ (ap (λ (o : Offer). picked o.vccv binding.told.vccv o.cword (length binding.told.points)) same ∙ ap (channel_by row me) (sym held))

pub channel_free : (row : WirePlan) (me : EdgeId) (remote : Option Binding) → remote ≡ None → None ≡ channel_by row me remote
channel_free row me remote free = ap (channel_by row me) (sym free)

pub not_picked : (c : EdgeLists) (told : Answers) (place : EndPlace) (row : WirePlan) (kind : Cc) (remote : Option Binding) (channel : Option Cc) (payload : List ℕ) (calls : List LinkCall) (out given : List Effect)
    → channel ≡ channel_by row c.me remote → is_picked kind channel ≡ false → given ≡ out ++ Dropped cause.NotOffered ∷ []
    → at_edge (seen c) calls given ≡ verified_by told place row kind remote payload (at_edge (seen c) calls out)
not_picked c told place row kind None channel payload calls out given is other gave = dropped_at cause.NotOffered (seen c) calls out given gave
not_picked c told place row kind (Some binding) channel payload calls out given is other gave =
    let work : Work = at_edge (seen c) calls out in
    dropped_at cause.NotOffered (seen c) calls out given gave
    ∙ sym (ap (λ (b : Bool). cond b (verifies told place row kind binding payload work) (drops cause.NotOffered work))
    (ap (λ (m : EdgeId). is_picked kind (channel_under row m binding)) (me_at c calls out) ∙ (ap (is_picked kind) (sym is) ∙ other)))

pub picked_by : (c : EdgeLists) (told : Answers) (place : EndPlace) (row : WirePlan) (kind : Cc) (remote : Option Binding) (channel : Option Cc) (payload : List ℕ) (calls : List LinkCall) (out : List Effect) (x : Work)
    → channel ≡ channel_by row c.me remote → is_picked kind channel ≡ true
    → ((binding : Binding) → remote ≡ Some binding → x ≡ verifies told place row kind binding payload (at_edge (seen c) calls out))
    → x ≡ verified_by told place row kind remote payload (at_edge (seen c) calls out)
picked_by c told place row kind None channel payload calls out x is here same = absurd (cc (sym (none_picked kind) ∙ (ap (is_picked kind) (sym is) ∙ here)))
picked_by c told place row kind (Some binding) channel payload calls out x is here same =
    let work : Work = at_edge (seen c) calls out in
    same binding refl
    ∙ sym (ap (λ (b : Bool). cond b (verifies told place row kind binding payload work) (drops cause.NotOffered work))
    (ap (λ (m : EdgeId). is_picked kind (channel_under row m binding)) (me_at c calls out) ∙ (ap (is_picked kind) (sym is) ∙ here)))

-- ---- the packet is read

pub header_within : (channel : Bool) (number : ℕ) (octets : List ℕ) (from to : Addr) (sequence len : ℕ) → reading channel number octets ≡ Ok (Request from to sequence len) → channel
    ≡ true → 4 ≤ length octets
header_within true number octets from to sequence len read is =
    let r : IsRead number (drop 4 octets) from to sequence len = read_as true number octets from to sequence len read in
    omega (arith, length-drop 4 octets, r.whole, r.least)
header_within false number octets from to sequence len read is = absurd (cc (is))

pub length_within : (channel : Bool) (number : ℕ) (octets : List ℕ) (from to : Addr) (sequence len : ℕ) → reading channel number octets ≡ Ok (Request from to sequence len)
    → len ≤ length (behind_header channel octets)
length_within channel number octets from to sequence len read =
    let r : IsRead number (behind_header channel octets) from to sequence len = read_as channel number octets from to sequence len read in
    omega (arith, r.whole, r.counted)

packet_same : (channel : Bool) (number : ℕ) (octets : List ℕ) (from to : Addr) (sequence len : ℕ) → reading channel number octets ≡ Ok (Request from to sequence len)
    → take len (behind_header channel octets) ≡ ip_packet_of channel octets
packet_same channel number octets from to sequence len read =
    let r : IsRead number (behind_header channel octets) from to sequence len = read_as channel number octets from to sequence len read in
    ap (λ (n : ℕ). take n (behind_header channel octets)) (sym r.counted)

-- the number of the wire
number_is : (kind : Cc) (header : Bool) (row : WirePlan) (number : ℕ) (payload : List ℕ) (read : Result Echo VccvFault) → header ≡ has_header kind → number ≡ ping_number row → read
    ≡ reading header number payload
    → reading (has_header kind) (ping_number row) payload ≡ read
number_is kind header row number payload read by same is =
    sym (is ∙ (ap (λ (h : Bool). reading h number payload) by ∙ ap (λ (n : ℕ). reading (has_header kind) n payload) same))

pub faulty : (told : Answers) (place : EndPlace) (row : WirePlan) (kind : Cc) (binding : Binding) (header : Bool) (number : ℕ) (payload : List ℕ) (fault : VccvFault) (why : DropCause) (edge : EdgeState) (calls : List LinkCall) (out given : List Effect)
    → header ≡ has_header kind → number ≡ ping_number row → Err fault ≡ reading header number payload → why ≡ vccv_cause_of fault → given ≡ out ++ Dropped why ∷ []
    → at_edge edge calls given ≡ verifies told place row kind binding payload (at_edge edge calls out)
faulty told place row kind binding header number payload fault why edge calls out given by same read is gave =
    dropped_at why edge calls out given gave
    ∙ (ap (λ (w : DropCause). drops w (at_edge edge calls out)) is
    ∙ ap (λ (r : Result Echo VccvFault). echoes told place kind binding (ip_packet_of (has_header kind) payload) r (at_edge edge calls out))
    (sym (number_is kind header row number payload (Err fault) by same read)))

pub ponged : (told : Answers) (place : EndPlace) (row : WirePlan) (kind : Cc) (binding : Binding) (header : Bool) (number : ℕ) (payload : List ℕ) (sequence : ℕ) (edge : EdgeState) (calls : List LinkCall) (out given : List Effect)
    → header ≡ has_header kind → number ≡ ping_number row → Ok (Answer sequence) ≡ reading header number payload → given ≡ out ++ Pong place.wire sequence ∷ []
    → at_edge edge calls given ≡ verifies told place row kind binding payload (at_edge edge calls out)
unfolding at_edge gives
ponged told place row kind binding header number payload sequence edge calls out given by same read gave =
    let work : Work = record { edge = edge; calls = calls; effects = out; idle = false } in
    ap (λ (l : List Effect). record { edge = edge; calls = calls; effects = l; idle = false }) gave
    ∙ ap (λ (r : Result Echo VccvFault). echoes told place kind binding (ip_packet_of (has_header kind) payload) r work)
    (sym (number_is kind header row number payload (Ok (Answer sequence)) by same read))

one_binding : (remote : Option Binding) (held binding : Binding) → remote ≡ Some held → remote ≡ Some binding → held ≡ binding
one_binding remote held binding is at = cc (sym is ∙ at)

pub replied : (told : Answers) (place : EndPlace) (row : WirePlan) (kind : Cc) (binding : Binding) (header : Bool) (number : ℕ) (payload ip : List ℕ) (from to : Addr) (sequence len : ℕ) (work x : Work)
    → header ≡ has_header kind → number ≡ ping_number row → Ok (Request from to sequence len) ≡ reading header number payload → ip ≡ take len (behind_header header payload)
    → x ≡ sends told place arrival.Own (channel_octets kind binding (answer_packet ip)) work → x ≡ verifies told place row kind binding payload work
replied told place row kind binding header number payload ip from to sequence len work x by same read cut is =
    is
    ∙ (ap (λ (l : List ℕ). sends told place arrival.Own (channel_octets kind binding (answer_packet l)) work)
    (cut ∙ (packet_same header number payload from to sequence len (sym read) ∙ ap (λ (h : Bool). ip_packet_of h payload) by))
    ∙ ap (λ (r : Result Echo VccvFault). echoes told place kind binding (ip_packet_of (has_header kind) payload) r work)
    (sym (number_is kind header row number payload (Ok (Request from to sequence len)) by same read)))

-- the answer goes under the binding of the end
pub answered : (told : Answers) (place : EndPlace) (kind : Cc) (remote : Option Binding) (held binding : Binding) (ip packet : List ℕ) (work x : Work)
    → packet ≡ channel_octets kind held (answer_packet ip) → remote ≡ Some held → remote ≡ Some binding
    → x ≡ sends told place arrival.Own packet work → x ≡ sends told place arrival.Own (channel_octets kind binding (answer_packet ip)) work
answered told place kind remote held binding ip packet work x made is at sent =
    sent
    ∙ (ap (λ (l : List ℕ). sends told place arrival.Own l work) made
    ∙ ap (λ (b : Binding). sends told place arrival.Own (channel_octets kind b (answer_packet ip)) work) (one_binding remote held binding is at))

-- ---- a ping

-- what an edge asks at an end is the packet of its next ping there
pings_are : (plan : Plan) (told : Answers) (place : EndPlace) (work : Work) → pings_at plan told place (wire_row plan place.wire) work ≡ asked_with told place (request_of plan work.edge place) work
pings_are plan told place work = of_wire (wire_row plan place.wire) where
  asks_are : (row : WirePlan) (kind : Cc) (binding : Binding) (from to : Option Addr) → asks told place row kind binding from to work
      ≡ asked_with told place (request_by kind binding (ping_from row (work.edge.next_ping place.wire.0) from to)) work
  asks_are row kind binding (Some from) (Some to) = refl
  asks_are row kind binding (Some from) None = refl
  asks_are row kind binding None to = refl

  picked_in : (row : WirePlan) (binding : Binding) (kind : Option Cc) → pings_in plan told place row binding kind work
      ≡ asked_with told place (request_in plan work.edge place.wire row binding kind) work
  picked_in row binding None = refl
  picked_in row binding (Some kind) = asks_are row kind binding (edge_address plan work.edge.me) (far_address plan work.edge.me row)

  bound : (row : WirePlan) (remote : Option Binding) → pings_under plan told place row remote work ≡ asked_with told place (request_under plan work.edge place.wire row remote) work
  bound row None = refl
  bound row (Some binding) = picked_in row binding (channel_under row work.edge.me binding)

  told_at : (row : WirePlan) (b : Bool)
      → cond b (pings_under plan told place row (end_at work.edge place).remote work) (idles work)
      ≡ asked_with told place (cond b (request_under plan work.edge place.wire row (end_at work.edge place).remote) None) work
  told_at row true = bound row (end_at work.edge place).remote
  told_at row false = refl

  of_wire : (row : Option WirePlan) → pings_at plan told place row work ≡ asked_with told place (request_at plan work.edge place row) work
  of_wire None = refl
  of_wire (Some row) = told_at row (has_told (end_at work.edge place).local)

-- nothing can be asked: the edge has no such end, or none that can
pub unended : (e : EdgeLists) (told : Answers) (wire : WireId) (calls : List LinkCall) → wire_end e.plan e.me wire ≡ None → worked e calls (record { idle = true; list = [] })
    ≡ ping_input e.plan told wire (beginning (seen e) calls)
unfolding worked seen idles
unended e told wire calls none = ap (λ (p : Option EndPlace). pings_by e.plan told p (beginning (seen e) calls)) (sym none)

pub unasked : (e : EdgeLists) (told : Answers) (wire : WireId) (calls : List LinkCall) (place : EndPlace) → wire_end e.plan e.me wire ≡ Some place → None ≡ request_of e.plan (seen e) place
    → worked e calls (record { idle = true; list = [] }) ≡ ping_input e.plan told wire (beginning (seen e) calls)
unfolding worked seen idles
unasked e told wire calls place is none =
    ap (λ (p : Option (List ℕ)). asked_with told place p (beginning (seen e) calls)) none
    ∙ (sym (pings_are e.plan told place (beginning (seen e) calls))
    ∙ ap (λ (p : Option EndPlace). pings_by e.plan told p (beginning (seen e) calls)) (sym is))

-- it is asked
pub asked : (e : EdgeLists) (told : Answers) (wire : WireId) (calls : List LinkCall) (place : EndPlace) (packet : List ℕ) (x : Work) → wire_end e.plan e.me wire ≡ Some place
    → Some packet ≡ request_of e.plan (seen e) place
    → x ≡ asks_with told place packet (beginning (seen e) calls) → x ≡ ping_input e.plan told wire (beginning (seen e) calls)
unfolding seen
asked e told wire calls place packet x is ask same =
    same
    ∙ (ap (λ (p : Option (List ℕ)). asked_with told place p (beginning (seen e) calls)) ask
    ∙ (sym (pings_are e.plan told place (beginning (seen e) calls))
    ∙ ap (λ (p : Option EndPlace). pings_by e.plan told p (beginning (seen e) calls)) (sym is)))

-- the next ping has the next sequence number
pub asks_counted : (e mid : EdgeLists) (told : Answers) (place at : EndPlace) (packet : List ℕ) (calls : List LinkCall) (out : List Effect) (x : Work) → seen mid
    ≡ pinging place.wire (seen e) → at ≡ place
    → x ≡ sends told at arrival.Own packet (at_edge (seen mid) calls out) → x ≡ asks_with told place packet (at_edge (seen e) calls out)
unfolding at_edge changes
asks_counted e mid told place at packet calls out x is same sent =
    sent
    ∙ (ap (λ (p : EndPlace). sends told p arrival.Own packet (record { edge = seen mid; calls = calls; effects = out; idle = false })) same
    ∙ ap (λ (s : EdgeState). sends told place arrival.Own packet (record { edge = s; calls = calls; effects = out; idle = false })) is)

-- the next ping of a wire, by what an edge knows
pub ping_made : (e : EdgeLists) (wire : WireId) (row : WirePlan) (sequence : ℕ) (from to : Option Addr) (ping : Option Ping) → sequence ≡ (seen e).next_ping wire.0 → from
    ≡ edge_address e.plan e.me → to ≡ far_address e.plan e.me row
    → ping ≡ ping_from row sequence from to → ping ≡ ping_of e.plan (seen e) wire row
unfolding seen
ping_made e wire row sequence from to ping next near far is =
    is
    ∙ (ap (λ (n : ℕ). ping_from row n from to) next
    ∙ (ap (λ (a : Option Addr). ping_from row ((seen e).next_ping wire.0) a to) near
    ∙ ap (ping_from row ((seen e).next_ping wire.0) (edge_address e.plan e.me)) far))

-- ---- the packet of a ping, exit by exit

request_row : (e : EdgeLists) (slot : ℕ) (packet : Option (List ℕ)) → (place_of e.ends slot).wire.0 < length e.plan.wires
    → ((row : WirePlan) → wire_row e.plan (place_of e.ends slot).wire ≡ Some row
    → packet ≡ cond (has_told (end_in e.ends slot).local) (request_under e.plan (seen e) (place_of e.ends slot).wire row (end_in e.ends slot).remote) None)
    → packet ≡ request_of e.plan (seen e) (place_of e.ends slot)
unfolding seen
request_row e slot packet within each =
    let (row, at) = row_there e.plan.wires (place_of e.ends slot).wire.0 within in
    each row at ∙ ap (λ (r : Option WirePlan). request_at e.plan (seen e) (place_of e.ends slot) r) (sym at)

pub request_untold : (e : EdgeLists) (slot : ℕ) (told : Bool) → (place_of e.ends slot).wire.0 < length e.plan.wires → told ≡ has_told (end_in e.ends slot).local → told ≡ false → None
    ≡ request_of e.plan (seen e) (place_of e.ends slot)
request_untold e slot told within is not_told =
    request_row e slot None within (λ row at.
    sym (ap (λ (b : Bool). cond b (request_under e.plan (seen e) (place_of e.ends slot).wire row (end_in e.ends slot).remote) None) (sym is ∙ not_told)))

-- it was told
request_told : (e : EdgeLists) (slot : ℕ) (told : Bool) (packet : Option (List ℕ)) → (place_of e.ends slot).wire.0 < length e.plan.wires → told ≡ has_told (end_in e.ends slot).local → told ≡ true
    → ((row : WirePlan) → wire_row e.plan (place_of e.ends slot).wire ≡ Some row → packet ≡ request_under e.plan (seen e) (place_of e.ends slot).wire row (end_in e.ends slot).remote)
    → packet ≡ request_of e.plan (seen e) (place_of e.ends slot)
request_told e slot told packet within is was each =
    request_row e slot packet within (λ row at.
    each row at ∙ sym (ap (λ (b : Bool). cond b (request_under e.plan (seen e) (place_of e.ends slot).wire row (end_in e.ends slot).remote) None) (sym is ∙ was)))

pub request_free : (e : EdgeLists) (slot : ℕ) (told : Bool) → (place_of e.ends slot).wire.0 < length e.plan.wires → told ≡ has_told (end_in e.ends slot).local → told ≡ true
    → (end_in e.ends slot).remote ≡ None
    → None ≡ request_of e.plan (seen e) (place_of e.ends slot)
request_free e slot told within is was free =
    request_told e slot told None within is was (λ row at. sym (ap (request_under e.plan (seen e) (place_of e.ends slot).wire row) free))

-- in the channel that was picked
request_channel : (e : EdgeLists) (slot : ℕ) (told : Bool) (binding : Binding) (channel : Option Cc) (packet : Option (List ℕ)) → (place_of e.ends slot).wire.0 < length e.plan.wires
    → told ≡ has_told (end_in e.ends slot).local → told ≡ true
    → (end_in e.ends slot).remote ≡ Some binding
    → ((row : WirePlan) → wire_row e.plan (place_of e.ends slot).wire ≡ Some row → channel ≡ channel_by row e.me (end_in e.ends slot).remote)
    → ((row : WirePlan) → wire_row e.plan (place_of e.ends slot).wire ≡ Some row → packet ≡ request_in e.plan (seen e) (place_of e.ends slot).wire row binding channel)
    → packet ≡ request_of e.plan (seen e) (place_of e.ends slot)
unfolding seen
request_channel e slot told binding channel packet within is was held picks each =
    request_told e slot told packet within is was (λ row at.
    each row at
    ∙ (ap (request_in e.plan (seen e) (place_of e.ends slot).wire row binding) (picks row at ∙ ap (channel_by row e.me) held)
    ∙ sym (ap (request_under e.plan (seen e) (place_of e.ends slot).wire row) held)))

pub request_unpicked : (e : EdgeLists) (slot : ℕ) (told : Bool) (binding : Binding) (channel : Option Cc) → (place_of e.ends slot).wire.0 < length e.plan.wires → told
    ≡ has_told (end_in e.ends slot).local → told ≡ true
    → (end_in e.ends slot).remote ≡ Some binding
    → ((row : WirePlan) → wire_row e.plan (place_of e.ends slot).wire ≡ Some row → channel ≡ channel_by row e.me (end_in e.ends slot).remote) → channel ≡ None
    → None ≡ request_of e.plan (seen e) (place_of e.ends slot)
request_unpicked e slot told binding channel within is was held picks none =
    request_channel e slot told binding channel None within is was held picks (λ row at. sym (ap (request_in e.plan (seen e) (place_of e.ends slot).wire row binding) none))

pub request_made : (e : EdgeLists) (slot : ℕ) (told : Bool) (binding : Binding) (channel : Option Cc) (kind : Cc) (ping : Option Ping) (packet : Option (List ℕ))
    → (place_of e.ends slot).wire.0 < length e.plan.wires → told ≡ has_told (end_in e.ends slot).local
    → told ≡ true → (end_in e.ends slot).remote ≡ Some binding
    → ((row : WirePlan) → wire_row e.plan (place_of e.ends slot).wire ≡ Some row → channel ≡ channel_by row e.me (end_in e.ends slot).remote) → channel ≡ Some kind
    → ((row : WirePlan) → wire_row e.plan (place_of e.ends slot).wire ≡ Some row → ping ≡ ping_of e.plan (seen e) (place_of e.ends slot).wire row)
    → packet ≡ request_by kind binding ping
    → packet ≡ request_of e.plan (seen e) (place_of e.ends slot)
request_made e slot told binding channel kind ping packet within is was held picks some pings same =
    request_channel e slot told binding channel packet within is was held picks (λ row at.
    same
    ∙ (ap (request_by kind binding) (pings row at)
    ∙ sym (ap (request_in e.plan (seen e) (place_of e.ends slot).wire row binding) some)))

pub counted_at : (e mid : EdgeLists) (place at : EndPlace) → at ≡ place → seen mid ≡ pinging at.wire (seen e) → seen mid ≡ pinging place.wire (seen e)
counted_at e mid place at same is = is ∙ ap (λ (p : EndPlace). pinging p.wire (seen e)) same

pub placed_same : (e mid : EdgeLists) (slot : ℕ) → Keeps e mid → place_of mid.ends slot ≡ place_of e.ends slot
placed_same e mid slot keeps = ap (λ (l : List EndPlace). slice_index_or l slot no_place) keeps.places
