-- An inner frame is bridged, step by step.
use Rattle.std.proofs.Common.{◌≡◌, ◌==◌, ◌++◌, ◌∷◌, ◌∙◌, [], ℕ, Bool, true, false, cond, List, length, Option, Some, None, Result, Ok, Err, refl, ap, sym, subst}
use Rattle.std.proofs.lemmas.List.{append-nil, nil_from_length}
use Rattle.std.proofs.lemmas.Bool.{eqb-true}
use Rattle.net_base.specs.declared.outside.link_call.LinkCall.{LinkCall}
use Rattle.net_base.specs.declared.plan.Plan.{Plan}
use Rattle.net_base.specs.declared.plan.offer.Offer.{Offer}
use Rattle.net_base.specs.declared.plan.places.CircuitId.{CircuitId}
use Rattle.net_base.specs.declared.plan.places.EdgeId.{EdgeId}
use Rattle.net_base.specs.declared.plan.places.ServiceId.{ServiceId}
use Rattle.net_base.specs.declared.plan.places.WireId.{WireId}
use Rattle.net_base.specs.declared.plan.wire_plan.WirePlan.{WirePlan}
use Rattle.net_base.specs.declared.trace.arrival.Arrival.{Arrival}
use Rattle.net_base.specs.declared.trace.drop_cause.DropCause.{DropCause}
use Rattle.net_base.specs.declared.trace.drop_cause.DropCause.TheVariants as cause
use Rattle.net_base.specs.outside.Link.{call_of}
use Rattle.net_base.specs.plan.Paths.{offer_of}
use Rattle.net_base.specs.plan.Places.{wire_row}
use Rattle.net_base.specs.trace.Frame.{dress}
use Rattle.pw_messages.specs.LinkAnswers.{Agrees, Answers}
use Rattle.hvpls_spokes.specs.declared.port.Port.{Port}
use Rattle.hvpls_spokes.specs.declared.port.Port.TheVariants as port
use Rattle.hvpls_spokes.specs.Port.{ports_of}
use Rattle.hvpls_spokes.specs.PortSet.{holds_port}
use Rattle.pw_signalling.specs.declared.binding.Binding.{Binding}
use Rattle.vsi_bridge.specs.Targets.{is_target, known_port}
use Rattle.edge_model.specs.declared.effect.Effect.{Effect}
use Rattle.edge_model.specs.declared.effect.Effect.TheVariants.{Left, Sent, Dropped}
use Rattle.edge_model.specs.declared.end_place.EndPlace.{EndPlace}
use Rattle.edge_model.specs.Ends.{wire_end}
use Rattle.edge_model.specs.Frame.{copies, copy_by, destination, forwarded, hearing, port_forwards, received, tag_of, targets_of}
use Rattle.edge_model.specs.Send.{drops, had_posted, packet_of, sends, sends_copy, sends_under}
use Rattle.edge_model.specs.State.{EdgeState, with_addresses}
use Rattle.edge_model.specs.Synced.{InSync}
use Rattle.edge_model.specs.Work.{Work, changes, gives, posts}
use Rattle.pw_ends.specs.Ends.{end_in, place_of}
use Rattle.edge_forwarding.specs.Forwarding.{ForwardingLists, KeepsForwarding, domain_of, entries_of, open_ports, with_forwarding}
use Rattle.peer_dialogue.specs.Peering.{at_edge}
use Rattle.edge_forwarding.proofs.OpenLemmas.{same_tests}
use Rattle.peer_dialogue.proofs.SpeakerLemmas.{told_last}
use Rattle.provider_edge.proofs.ForwardLemmas.{learned_read, seen_kept}
use Rattle.provider_edge.proofs.SyncLemmas.{forwards_hearing, open_forwards}
use Rattle.provider_edge.specs.Invariant.{IsEdge}
use Rattle.provider_edge.specs.Lists.{EdgeLists, Keeps, seen}
use Rattle.provider_edge.proofs.MendLemmas.{me_at, local_at}

-- ---- a packet is sent

pub sent_not : (told : Answers) (place at : EndPlace) (came : Arrival) (packet slice : List ℕ) (taken : Bool) (edge : EdgeState) (calls now : List LinkCall) (out given : List Effect)
    → at ≡ place → slice ≡ packet → taken ≡ false → now ≡ calls ++ call_of at.peer true slice taken ∷ [] → given ≡ out ++ Dropped cause.LinkFault ∷ [] → Agrees told now
    → at_edge edge now given ≡ sends told place came packet (at_edge edge calls out)
unfolding at_edge gives posts
sent_not told place at came packet slice true edge calls now out given is same refused called gave agrees = absurd (cc (refused))
sent_not told place at came packet slice false edge calls now out given is same refused called gave agrees =
    let here : now ≡ calls ++ call_of place.peer true packet false ∷ [] =
    called ∙ (ap (λ (p : EndPlace). calls ++ call_of p.peer true slice false ∷ []) is ∙ ap (λ (b : List ℕ). calls ++ call_of place.peer true b false ∷ []) same) in
    ap (λ (c : List LinkCall). record { edge = edge; calls = c; effects = given; idle = false }) here
    ∙ (ap (λ (l : List Effect). record { edge = edge; calls = calls ++ call_of place.peer true packet false ∷ []; effects = l; idle = false }) gave
    ∙ ap (λ (b : Bool). had_posted place came packet b (record { edge = edge; calls = calls; effects = out; idle = false }))
    (sym (told_last told calls (call_of place.peer true packet false) (subst (Agrees told) here agrees))))

pub sent_is : (told : Answers) (place at : EndPlace) (came : Arrival) (packet slice : List ℕ) (taken : Bool) (edge : EdgeState) (calls now : List LinkCall) (out given : List Effect)
    → at ≡ place → slice ≡ packet → taken ≡ true → now ≡ calls ++ call_of at.peer true slice taken ∷ [] → given ≡ out ++ Sent at.peer at.wire came packet ∷ [] → Agrees told now
    → at_edge edge now given ≡ sends told place came packet (at_edge edge calls out)
unfolding at_edge gives posts
sent_is told place at came packet slice false edge calls now out given is same refused called gave agrees = absurd (cc (refused))
sent_is told place at came packet slice true edge calls now out given is same refused called gave agrees =
    let here : now ≡ calls ++ call_of place.peer true packet true ∷ [] =
    called ∙ (ap (λ (p : EndPlace). calls ++ call_of p.peer true slice true ∷ []) is ∙ ap (λ (b : List ℕ). calls ++ call_of place.peer true b true ∷ []) same) in
    ap (λ (c : List LinkCall). record { edge = edge; calls = c; effects = given; idle = false }) here
    ∙ (ap (λ (l : List Effect). record { edge = edge; calls = calls ++ call_of place.peer true packet true ∷ []; effects = l; idle = false })
    (gave ∙ ap (λ (p : EndPlace). out ++ Sent p.peer p.wire came packet ∷ []) is)
    ∙ ap (λ (b : Bool). had_posted place came packet b (record { edge = edge; calls = calls; effects = out; idle = false }))
    (sym (told_last told calls (call_of place.peer true packet true) (subst (Agrees told) here agrees))))

-- ---- a copy by an end

pub under_no_wire : (told : Answers) (came : Arrival) (frame : List ℕ) (me : EdgeId) (place : EndPlace) (row : Option WirePlan) (remote : Option Binding) (work : Work) → row ≡ None
    → work ≡ sends_under told came frame me place row remote work
under_no_wire told came frame me place row remote work none = sym (ap (λ (r : Option WirePlan). sends_under told came frame me place r remote work) none)

pub under_none : (told : Answers) (came : Arrival) (frame : List ℕ) (me : EdgeId) (place : EndPlace) (row : Option WirePlan) (remote : Option Binding) (work : Work) → remote ≡ None
    → work ≡ sends_under told came frame me place row remote work
under_none told came frame me place row remote work none = sym (ap (λ (r : Option Binding). sends_under told came frame me place row r work) none ∙ still row) where
  still : (row : Option WirePlan) → sends_under told came frame me place row None work ≡ work
  still None = refl
  still (Some row) = refl

pub under_some : (told : Answers) (came : Arrival) (frame : List ℕ) (me : EdgeId) (place : EndPlace) (row : Option WirePlan) (own : WirePlan) (remote : Option Binding) (binding : Binding) (offer : Offer) (packet : List ℕ) (work x : Work)
    → row ≡ Some own → remote ≡ Some binding → offer ≡ offer_of own me.0 → packet ≡ packet_of offer binding frame → x ≡ sends told place came packet work
    → x ≡ sends_under told came frame me place row remote work
under_some told came frame me place row own remote binding offer packet work x at holds offers packs is =
    is
    ∙ (ap (λ (p : List ℕ). sends told place came p work) (packs ∙ ap (λ (o : Offer). packet_of o binding frame) offers)
    ∙ (ap (λ (b : Option Binding). sends_under told came frame me place (Some own) b work) (sym holds)
    ∙ ap (λ (r : Option WirePlan). sends_under told came frame me place r remote work) (sym at)))

pub copy_none : (told : Answers) (came : Arrival) (frame : List ℕ) (plan : Plan) (end : Option EndPlace) (work : Work) → end ≡ None → work ≡ sends_copy plan told came frame end work
copy_none told came frame plan end work none = sym (ap (λ (e : Option EndPlace). sends_copy plan told came frame e work) none)

pub copy_some : (c : EdgeLists) (told : Answers) (came : Arrival) (frame : List ℕ) (slot : ℕ) (end : Option EndPlace) (calls : List LinkCall) (out : List Effect) (x : Work) → end
    ≡ Some (place_of c.ends slot)
    → x ≡ sends_under told came frame c.me (place_of c.ends slot) (wire_row c.plan (place_of c.ends slot).wire) (end_in c.ends slot).remote (at_edge (seen c) calls out)
    → x ≡ sends_copy c.plan told came frame end (at_edge (seen c) calls out)
copy_some c told came frame slot end calls out x some is =
    is
    ∙ (ap (λ (m : EdgeId). sends_under told came frame m (place_of c.ends slot) (wire_row c.plan (place_of c.ends slot).wire) (end_in c.ends slot).remote (at_edge (seen c) calls out))
    (sym (me_at c calls out))
    ∙ (ap (λ e. sends_under told came frame (at_edge (seen c) calls out).edge.me (place_of c.ends slot) (wire_row c.plan (place_of c.ends slot).wire) e.remote
    (at_edge (seen c) calls out)) (sym (local_at c calls out slot))
    ∙ ap (λ (e : Option EndPlace). sends_copy c.plan told came frame e (at_edge (seen c) calls out)) (sym some)))

-- ---- the copy by a port

pub copied_circuit : (plan : Plan) (told : Answers) (came : Arrival) (frame : List ℕ) (x : Port) (circuit : CircuitId) (edge : EdgeState) (calls : List LinkCall) (out given : List Effect) → x ≡ port.Circuit circuit
    → given ≡ out ++ Left circuit (dress (tag_of plan circuit) frame) ∷ []
    → at_edge edge calls given ≡ copy_by plan told came frame x (at_edge edge calls out)
unfolding at_edge gives
copied_circuit plan told came frame x circuit edge calls out given is gave =
    ap (λ (l : List Effect). record { edge = edge; calls = calls; effects = l; idle = false }) gave
    ∙ ap (λ (y : Port). copy_by plan told came frame y (record { edge = edge; calls = calls; effects = out; idle = false })) (sym is)

pub copied_mesh : (c : EdgeLists) (told : Answers) (came : Arrival) (frame : List ℕ) (x : Port) (wire : WireId) (calls : List LinkCall) (out : List Effect) (next : Work) → x ≡ port.Mesh wire
    → next ≡ sends_copy c.plan told came frame (wire_end c.plan c.me wire) (at_edge (seen c) calls out)
    → next ≡ copy_by c.plan told came frame x (at_edge (seen c) calls out)
copied_mesh c told came frame x wire calls out next is sent =
    sent
    ∙ (ap (λ (m : EdgeId). sends_copy c.plan told came frame (wire_end c.plan m wire) (at_edge (seen c) calls out)) (sym (me_at c calls out))
    ∙ ap (λ (y : Port). copy_by c.plan told came frame y (at_edge (seen c) calls out)) (sym is))

pub copied_spoke : (c : EdgeLists) (told : Answers) (came : Arrival) (frame : List ℕ) (x : Port) (wire : WireId) (calls : List LinkCall) (out : List Effect) (next : Work) → x ≡ port.Spoke wire
    → next ≡ sends_copy c.plan told came frame (wire_end c.plan c.me wire) (at_edge (seen c) calls out)
    → next ≡ copy_by c.plan told came frame x (at_edge (seen c) calls out)
copied_spoke c told came frame x wire calls out next is sent =
    sent
    ∙ (ap (λ (m : EdgeId). sends_copy c.plan told came frame (wire_end c.plan m wire) (at_edge (seen c) calls out)) (sym (me_at c calls out))
    ∙ ap (λ (y : Port). copy_by c.plan told came frame y (at_edge (seen c) calls out)) (sym is))

-- the port is a target, or it is not
pub copied_if : (targets : Bool) (work copied x : Work) → targets ≡ true → x ≡ copied → x ≡ cond targets copied work
copied_if true work copied x here is = is
copied_if false work copied x here is = absurd (cc (here))

pub copied_else : (targets : Bool) (work copied : Work) → targets ≡ false → work ≡ cond targets copied work
copied_else false work copied away = refl
copied_else true work copied away = absurd (cc (away))

-- ---- a frame is heard

pub heard_edge : (c : EdgeLists) (f : ForwardingLists) (service : ServiceId) (frame : List ℕ) (arrival : ℕ) → IsEdge c → KeepsForwarding c.forwarding f
    → ((edge : EdgeState) → with_forwarding f edge ≡ hearing service frame arrival (with_forwarding c.forwarding edge))
    → seen (record c { forwarding = f }) ≡ hearing service frame arrival (seen c)
heard_edge c f service frame arrival is keeps step = seen_kept (hearing service frame arrival) c f is keeps step

pub heard_targets : (c : EdgeLists) (f : ForwardingLists) (service : ServiceId) (frame : List ℕ) (arrival : ℕ) (targets : List ℕ) → IsEdge c → InSync c.plan (seen c) → KeepsForwarding c.forwarding f
    → ((edge : EdgeState) → with_forwarding f edge ≡ hearing service frame arrival (with_forwarding c.forwarding edge))
    → holds_port targets ≡ is_target (ports_of c.forwarding.plan service c.forwarding.me) (open_ports c.forwarding service) arrival
    (known_port (entries_of (domain_of f service.0)) (destination frame))
    → holds_port targets ≡ targets_of c.plan (seen (record c { forwarding = f })) service (ports_of c.plan service c.me) frame arrival
heard_targets c f service frame arrival targets is synced keeps step decided =
    let now : EdgeState = seen (record c { forwarding = f }) in
    let ports : List Port = ports_of c.plan service c.me in
    let known : Option ℕ = known_port (entries_of (domain_of f service.0)) (destination frame) in
    let same : port_forwards c.plan (seen c) ports ≡ port_forwards c.plan now ports =
    same_tests (port_forwards c.plan (seen c) ports) (port_forwards c.plan now ports)
    (λ p. sym (forwards_hearing c.plan (seen c) service frame arrival ports p) ∙ ap (λ (e : EdgeState). port_forwards c.plan e ports p) (sym (heard_edge c f service frame arrival is keeps step))) in
    decided
    ∙ (ap (λ (p : Plan). is_target (ports_of p service c.forwarding.me) (open_ports c.forwarding service) arrival known) is.plan
    ∙ (ap (λ (m : EdgeId). is_target (ports_of c.plan service m) (open_ports c.forwarding service) arrival known) is.me
    ∙ (ap (λ (t : ℕ → Bool). is_target ports t arrival known) (open_forwards c service is synced ∙ same)
    ∙ ap (λ es. is_target ports (port_forwards c.plan now ports) arrival (known_port es (destination frame)))
    (learned_read (record c { forwarding = f }) service (entries_of (domain_of f service.0)) refl))))

pub forwarded_some : (c now : EdgeLists) (told : Answers) (came : Arrival) (service : ServiceId) (frame : List ℕ) (port : Option ℕ) (arrival : ℕ) (targets : ℕ → Bool) (calls : List LinkCall) (out : List Effect) (x : Work)
    → port ≡ Some arrival → Keeps c now → seen now ≡ hearing service frame arrival (seen c)
    → targets ≡ targets_of c.plan (seen now) service (ports_of c.plan service c.me) frame arrival
    → x ≡ copies targets (copy_by now.plan told came frame) 0 (ports_of now.plan service now.me) (at_edge (seen now) calls out)
    → x ≡ forwarded c.plan told came service frame port (at_edge (seen c) calls out)
unfolding at_edge changes seen with_addresses
forwarded_some c now told came service frame port arrival targets calls out x is keeps hears chosen copied =
    copied
    ∙ (ap (λ (p : Plan). copies targets (copy_by p told came frame) 0 (ports_of p service now.me) (at_edge (seen now) calls out)) keeps.plan
    ∙ (ap (λ (m : EdgeId). copies targets (copy_by c.plan told came frame) 0 (ports_of c.plan service m) (at_edge (seen now) calls out)) keeps.me
    ∙ (ap (λ (t : ℕ → Bool). copies t (copy_by c.plan told came frame) 0 (ports_of c.plan service c.me) (at_edge (seen now) calls out)) chosen
    ∙ (ap (λ (s : EdgeState). copies (targets_of c.plan s service (ports_of c.plan service c.me) frame arrival) (copy_by c.plan told came frame) 0 (ports_of c.plan service c.me)
    (at_edge s calls out)) hears
    ∙ ap (λ (p : Option ℕ). forwarded c.plan told came service frame p (at_edge (seen c) calls out)) (sym is)))))

-- ---- what was read

pub received_ok : (plan : Plan) (told : Answers) (came : Arrival) (service : ServiceId) (port : Option ℕ) (formed : Result (List ℕ) DropCause) (frame slice : List ℕ) (work x : Work)
    → formed ≡ Ok frame → slice ≡ frame
    → x ≡ forwarded plan told came service slice port work → x ≡ received plan told came service port formed work
received_ok plan told came service port formed frame slice work x is same heard =
    heard ∙ (ap (λ (l : List ℕ). forwarded plan told came service l port work) same ∙ ap (λ (r : Result (List ℕ) DropCause). received plan told came service port r work) (sym is))

-- it was read as one part
one_part : (front back : List ℕ) → (length back == 0) ≡ true → front ≡ front ++ back
one_part front back none =
    sym (ap (λ (l : List ℕ). front ++ l) (nil_from_length back (eqb-true (length back) 0 none)) ∙ append-nil front)

pub received_whole : (plan : Plan) (told : Answers) (came : Arrival) (service : ServiceId) (port : Option ℕ) (formed : Result (List ℕ) DropCause) (front back : List ℕ) (work x : Work)
    → formed ≡ Ok (front ++ back) → (length back == 0) ≡ true
    → x ≡ forwarded plan told came service front port work → x ≡ received plan told came service port formed work
received_whole plan told came service port formed front back work x is none heard =
    received_ok plan told came service port formed (front ++ back) front work x is (one_part front back none) heard

pub received_err : (plan : Plan) (told : Answers) (came : Arrival) (service : ServiceId) (port : Option ℕ) (formed : Result (List ℕ) DropCause) (why : DropCause) (edge : EdgeState) (calls : List LinkCall) (out given : List Effect) → formed ≡ Err why
    → given ≡ out ++ Dropped why ∷ [] → at_edge edge calls given ≡ received plan told came service port formed (at_edge edge calls out)
unfolding at_edge gives
received_err plan told came service port formed why edge calls out given is gave =
    ap (λ (l : List Effect). record { edge = edge; calls = calls; effects = l; idle = false }) gave
    ∙ ap (λ (r : Result (List ℕ) DropCause). received plan told came service port r (record { edge = edge; calls = calls; effects = out; idle = false })) (sym is)

-- what is dropped is given out
pub dropped_at : (why : DropCause) (edge : EdgeState) (calls : List LinkCall) (out given : List Effect) → given ≡ out ++ Dropped why ∷ [] → at_edge edge calls given
    ≡ drops why (at_edge edge calls out)
unfolding at_edge gives
dropped_at why edge calls out given gave = ap (λ (l : List Effect). record { edge = edge; calls = calls; effects = l; idle = false }) gave
