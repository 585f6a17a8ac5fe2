-- A packet comes from a neighbour, exit by exit.
use Rattle.std.proofs.Common.{Bor, option_copied, ◌&&◌, ◌≡◌, ◌<◌, ◌≤◌, ◌++◌, ◌∷◌, ◌∙◌, ◌==◌, [], ℕ, zero, suc, Bool, true, false, cond, not, nat_lt, is_some, List, Option, Some, None, Result, Ok, Err, length, option_map, position, slice_get, refl, ap, sym, subst, arith}
use Rattle.std.specs.List.{find}
use Rattle.std.proofs.lemmas.Bool.Decides.{nat_tests}
use Rattle.std.proofs.lemmas.Bool.{not-true, not-false}
use Rattle.net_base.specs.declared.outside.link_call.LinkCall.{LinkCall}
use Rattle.net_base.specs.declared.plan.Plan.{Plan}
use Rattle.net_base.specs.declared.plan.offer.Offer.{Offer}
use Rattle.net_base.specs.declared.plan.places.EdgeId.{EdgeId}
use Rattle.net_base.specs.declared.plan.places.ServiceId.{ServiceId}
use Rattle.net_base.specs.declared.plan.wire_plan.WirePlan.{WirePlan}
use Rattle.net_base.specs.declared.trace.arrival.Arrival.TheVariants as arrival
use Rattle.net_base.specs.declared.trace.down.Down.{Down}
use Rattle.net_base.specs.declared.trace.drop_cause.DropCause.{DropCause}
use Rattle.net_base.specs.declared.trace.drop_cause.DropCause.TheVariants as cause
use Rattle.net_base.specs.plan.Paths.{offer_of}
use Rattle.net_base.specs.plan.Places.{mtu_of, wire_row}
use Rattle.pw_messages.specs.LinkAnswers.{Answers}
use Rattle.eth_encap.specs.declared.stack_entry.StackEntry.{StackEntry}
use Rattle.eth_encap.specs.Packet.{entry_of, unpacked}
use Rattle.hvpls_spokes.specs.Port.{is_wire_port, ports_of}
use Rattle.pw_signalling.specs.declared.binding.Binding.{Binding}
use Rattle.edge_model.specs.declared.effect.Effect.{Effect}
use Rattle.edge_model.specs.declared.effect.Effect.TheVariants.{Dropped}
use Rattle.edge_model.specs.declared.end_place.EndPlace.{EndPlace}
use Rattle.edge_model.specs.EndPlaces.{end_places}
use Rattle.edge_model.specs.Ends.{is_up}
use Rattle.edge_model.specs.Frame.{received}
use Rattle.edge_model.specs.Echo.{channel_under, is_picked, verifies, verifies_in}
use Rattle.edge_model.specs.Packet.{advertiser, advertises_label, alerted, alerts_by, alerts_end, behind_entry, bridges_frame, by_control_word, by_offer, by_ttl, enters, is_channel, labelled, least_label, opened_by, owned, packet_input, switched, terminated, unpacked_at, unpacked_by}
use Rattle.edge_model.specs.Role.{down_at}
use Rattle.edge_model.specs.Send.{drops}
use Rattle.edge_model.specs.State.{EdgeState, end_at}
use Rattle.edge_model.specs.Work.{Work, gives}
use Rattle.edge_model.proofs.CommonLemmas.{up_not}
use Rattle.pw_ends.specs.Ends.{end_in, end_there, place_of}
use Rattle.peer_dialogue.specs.Peering.{at_edge}
use Rattle.provider_edge.proofs.BridgeLemmas.{dropped_at}
use Rattle.provider_edge.specs.Lists.{EdgeLists, seen}
use Rattle.provider_edge.specs.Pings.{channel_by, verified_by}
use Rattle.provider_edge.proofs.MendLemmas.{me_at}
use Rattle.vccv_channel.specs.declared.cc.Cc.{Cc}
use Rattle.vccv_channel.specs.declared.cc.Cc.TheVariants.{Alert, Expiry, Header}

-- ---- the first entry

pub packet_err : (plan : Plan) (told : Answers) (octets : List ℕ) (why : DropCause) (edge : EdgeState) (calls : List LinkCall) (out given : List Effect) → entry_of octets ≡ Err why
    → given ≡ out ++ Dropped why ∷ []
    → at_edge edge calls given ≡ packet_input plan told octets (at_edge edge calls out)
packet_err plan told octets why edge calls out given read gave =
    dropped_at why edge calls out given gave ∙ ap (λ (r : Result StackEntry DropCause). opened_by plan told octets r (at_edge edge calls out)) (sym read)

-- ---- behind a router alert

edge_in : (c : EdgeLists) (calls : List LinkCall) (out : List Effect) → (at_edge (seen c) calls out).edge ≡ seen c
unfolding at_edge
edge_in c calls out = refl

pub alerted_err : (plan : Plan) (told : Answers) (octets : List ℕ) (why : DropCause) (edge : EdgeState) (calls : List LinkCall) (out given : List Effect) → entry_of octets ≡ Err why
    → given ≡ out ++ Dropped why ∷ []
    → at_edge edge calls given ≡ alerted plan told octets (entry_of octets) (at_edge edge calls out)
alerted_err plan told octets why edge calls out given read gave =
    dropped_at why edge calls out given gave ∙ ap (λ (r : Result StackEntry DropCause). alerted plan told octets r (at_edge edge calls out)) (sym read)

pub alerted_ok : (plan : Plan) (told : Answers) (octets : List ℕ) (entry : StackEntry) (work x : Work) → entry_of octets ≡ Ok entry → x ≡ alerted plan told octets (Ok entry) work → x
    ≡ alerted plan told octets (entry_of octets) work
alerted_ok plan told octets entry work x read is = is ∙ ap (λ (r : Result StackEntry DropCause). alerted plan told octets r work) (sym read)

pub not_bottom : (plan : Plan) (told : Answers) (octets : List ℕ) (entry : StackEntry) (edge : EdgeState) (calls : List LinkCall) (out given : List Effect) → entry.bottom ≡ false
    → given ≡ out ++ Dropped cause.NotBottom ∷ []
    → at_edge edge calls given ≡ alerted plan told octets (Ok entry) (at_edge edge calls out)
not_bottom plan told octets entry edge calls out given is gave =
    let work : Work = at_edge edge calls out in
    dropped_at cause.NotBottom edge calls out given gave
    ∙ sym (ap (λ (b : Bool). cond b (alerts_end plan told (behind_entry octets) (advertiser plan work.edge entry.label) work) (drops cause.NotBottom work)) is)

pub at_bottom : (c : EdgeLists) (told : Answers) (octets : List ℕ) (entry : StackEntry) (calls : List LinkCall) (out : List Effect) (end : Option EndPlace) (x : Work) → entry.bottom
    ≡ true → advertiser c.plan (seen c) entry.label ≡ end
    → x ≡ alerts_end c.plan told (behind_entry octets) end (at_edge (seen c) calls out)
    → x ≡ alerted c.plan told octets (Ok entry) (at_edge (seen c) calls out)
at_bottom c told octets entry calls out end x is found same =
    let work : Work = at_edge (seen c) calls out in
    same
    ∙ (ap (λ (e : Option EndPlace). alerts_end c.plan told (behind_entry octets) e work) (sym found)
    ∙ (ap (λ (e : EdgeState). alerts_end c.plan told (behind_entry octets) (advertiser c.plan e entry.label) work) (sym (edge_in c calls out))
    ∙ sym (ap (λ (b : Bool). cond b (alerts_end c.plan told (behind_entry octets) (advertiser c.plan work.edge entry.label) work) (drops cause.NotBottom work)) is)))

pub alerts_nowhere : (plan : Plan) (told : Answers) (octets : List ℕ) (edge : EdgeState) (calls : List LinkCall) (out given : List Effect) → given ≡ out ++ Dropped cause.NoLabel ∷ []
    → at_edge edge calls given ≡ alerts_end plan told (behind_entry octets) None (at_edge edge calls out)
alerts_nowhere plan told octets edge calls out given gave = dropped_at cause.NoLabel edge calls out given gave

pub behind_same : (plan : Plan) (told : Answers) (octets behind : List ℕ) (end : Option EndPlace) (work x : Work) → behind ≡ behind_entry octets → x
    ≡ alerts_end plan told behind end work → x ≡ alerts_end plan told (behind_entry octets) end work
behind_same plan told octets behind end work x front is = is ∙ ap (λ (l : List ℕ). alerts_end plan told l end work) front

-- the end that was found is the one that the label names
pub named_some : (f : ℕ → EndPlace) (found : Option ℕ) (slot : ℕ) (named : Option EndPlace) → option_map f found ≡ named → found ≡ Some slot → named ≡ Some (f slot)
named_some f found slot named is some = sym is ∙ ap (option_map f) some

pub named_none : (f : ℕ → EndPlace) (found : Option ℕ) (named : Option EndPlace) → option_map f found ≡ named → found ≡ None → named ≡ None
named_none f found named is none = sym is ∙ ap (option_map f) none

-- a switching point takes no connectivity verification
pub alerts_between : (plan : Plan) (told : Answers) (payload : List ℕ) (place at : EndPlace) (edge : EdgeState) (calls : List LinkCall) (out given : List Effect) → at ≡ place
    → not at.terminal ≡ true → given ≡ out ++ Dropped cause.NoLabel ∷ []
    → at_edge edge calls given ≡ alerts_end plan told payload (Some place) (at_edge edge calls out)
alerts_between plan told payload place at edge calls out given is other gave =
    let work : Work = at_edge edge calls out in
    dropped_at cause.NoLabel edge calls out given gave
    ∙ sym (ap (λ (b : Bool). cond b (alerts_by told place (wire_row plan place.wire) (end_at work.edge place).remote payload work) (drops cause.NoLabel work))
    (ap (λ (p : EndPlace). p.terminal) (sym is) ∙ not-true at.terminal other))

verified_as : (told : Answers) (place : EndPlace) (row : WirePlan) (remote : Option Binding) (payload : List ℕ) (work : Work) → verified_by told place row Alert remote payload work
    ≡ alerts_by told place (Some row) remote payload work
verified_as told place row None payload work = refl
verified_as told place row (Some binding) payload work = refl

remote_in : (c : EdgeLists) (calls : List LinkCall) (out : List Effect) (slot : ℕ) → (end_at (at_edge (seen c) calls out).edge (place_of c.ends slot)).remote ≡ (end_in c.ends slot).remote
unfolding seen at_edge
remote_in c calls out slot = refl

pub row_there : {X : Type 0} (xs : List X) (k : ℕ) → k < length xs → (x : X) × (slice_get xs k ≡ Some x)
row_there [] k within = absurd (omega (arith, within))
row_there (x ∷ xs) zero within = (x, refl)
row_there (x ∷ xs) (suc k) within = row_there xs k (omega (arith, within))

pub alerts_terminal : (c : EdgeLists) (told : Answers) (slot : ℕ) (at : EndPlace) (payload : List ℕ) (calls : List LinkCall) (out : List Effect) (x : Work) → at ≡ place_of c.ends slot
    → at.wire.0 < length c.plan.wires → not at.terminal ≡ false
    → ((row : WirePlan) → wire_row c.plan (place_of c.ends slot).wire ≡ Some row → x
    ≡ verified_by told (place_of c.ends slot) row Alert (end_in c.ends slot).remote payload (at_edge (seen c) calls out))
    → x ≡ alerts_end c.plan told payload (Some (place_of c.ends slot)) (at_edge (seen c) calls out)
alerts_terminal c told slot at payload calls out x is within terminal same =
    let place : EndPlace = place_of c.ends slot in
    let work : Work = at_edge (seen c) calls out in
    let (row, here) = row_there c.plan.wires place.wire.0 (subst (λ (p : EndPlace). p.wire.0 < length c.plan.wires) is within) in
    same row here
    ∙ (verified_as told place row (end_in c.ends slot).remote payload work
    ∙ (ap (λ (r : Option WirePlan). alerts_by told place r (end_in c.ends slot).remote payload work) (sym here)
    ∙ (ap (λ (r : Option Binding). alerts_by told place (wire_row c.plan place.wire) r payload work) (sym (remote_in c calls out slot))
    ∙ sym (ap (λ (b : Bool). cond b (alerts_by told place (wire_row c.plan place.wire) (end_at work.edge place).remote payload work) (drops cause.NoLabel work))
    (ap (λ (p : EndPlace). p.terminal) (sym is) ∙ not-false at.terminal terminal)))))

-- ---- whose label it is

-- the end that was found by the ends' own list is that of the plan
pub advertiser_in : (c : EdgeLists) (label : ℕ) → c.ends.places ≡ end_places c.plan c.me → find (λ place. advertises_label label (end_there c.ends place).local) c.ends.places
    ≡ advertiser c.plan (seen c) label
unfolding seen
advertiser_in c label placed = ap (find (λ place. advertises_label label (end_there c.ends place).local)) placed

-- ---- the label is one of the edge's own

pub reserved : (plan : Plan) (told : Answers) (octets : List ℕ) (entry : StackEntry) (edge : EdgeState) (calls : List LinkCall) (out given : List Effect) → entry.label < 16 → given
    ≡ out ++ Dropped cause.NoLabel ∷ []
    → at_edge edge calls given ≡ labelled plan told octets entry (at_edge edge calls out)
reserved plan told octets entry edge calls out given below gave =
    let less : nat_lt entry.label least_label ≡ true = grind (arith, nat_tests, below) in
    dropped_at cause.NoLabel edge calls out given gave
    ∙ sym (ap (λ (b : Bool). cond b (drops cause.NoLabel (at_edge edge calls out))
    (cond entry.bottom (owned plan told octets entry (advertiser plan (at_edge edge calls out).edge entry.label) (at_edge edge calls out)) (drops cause.NotBottom (at_edge edge calls out)))) less)

pub above_bottom : (plan : Plan) (told : Answers) (octets : List ℕ) (entry : StackEntry) (edge : EdgeState) (calls : List LinkCall) (out given : List Effect) → 16 ≤ entry.label
    → entry.bottom ≡ false → given ≡ out ++ Dropped cause.NotBottom ∷ []
    → at_edge edge calls given ≡ labelled plan told octets entry (at_edge edge calls out)
above_bottom plan told octets entry edge calls out given above other gave =
    let more : nat_lt entry.label least_label ≡ false = grind (arith, nat_tests, above) in
    dropped_at cause.NotBottom edge calls out given gave
    ∙ sym (ap (λ (b : Bool). cond b (drops cause.NoLabel (at_edge edge calls out))
    (cond entry.bottom (owned plan told octets entry (advertiser plan (at_edge edge calls out).edge entry.label) (at_edge edge calls out)) (drops cause.NotBottom (at_edge edge calls out)))) more
    ∙ ap (λ (b : Bool). cond b (owned plan told octets entry (advertiser plan (at_edge edge calls out).edge entry.label) (at_edge edge calls out))
    (drops cause.NotBottom (at_edge edge calls out))) other)

pub labelled_here : (c : EdgeLists) (told : Answers) (octets : List ℕ) (entry : StackEntry) (calls : List LinkCall) (out : List Effect) (x : Work) → 16 ≤ entry.label → entry.bottom ≡ true
    → x ≡ owned c.plan told octets entry (advertiser c.plan (seen c) entry.label) (at_edge (seen c) calls out)
    → x ≡ labelled c.plan told octets entry (at_edge (seen c) calls out)
labelled_here c told octets entry calls out x above bottom is =
    let more : nat_lt entry.label least_label ≡ false = grind (arith, nat_tests, above) in
    let work : Work = at_edge (seen c) calls out in
    is
    ∙ (ap (λ (e : EdgeState). owned c.plan told octets entry (advertiser c.plan e entry.label) work) (sym (edge_in c calls out))
    ∙ sym (ap (λ (b : Bool). cond b (drops cause.NoLabel work) (cond entry.bottom (owned c.plan told octets entry (advertiser c.plan work.edge entry.label) work) (drops cause.NotBottom work))) more
    ∙ ap (λ (b : Bool). cond b (owned c.plan told octets entry (advertiser c.plan work.edge entry.label) work) (drops cause.NotBottom work)) bottom))

pub owned_none : (plan : Plan) (told : Answers) (octets : List ℕ) (entry : StackEntry) (end : Option EndPlace) (edge : EdgeState) (calls : List LinkCall) (out given : List Effect)
    → end ≡ None → given ≡ out ++ Dropped cause.NoLabel ∷ []
    → at_edge edge calls given ≡ owned plan told octets entry end (at_edge edge calls out)
owned_none plan told octets entry end edge calls out given none gave =
    dropped_at cause.NoLabel edge calls out given gave ∙ ap (λ (e : Option EndPlace). owned plan told octets entry e (at_edge edge calls out)) (sym none)

pub owned_some : (plan : Plan) (told : Answers) (octets : List ℕ) (entry : StackEntry) (end : Option EndPlace) (place : EndPlace) (work x : Work) → end ≡ Some place → x
    ≡ owned plan told octets entry (Some place) work → x ≡ owned plan told octets entry end work
owned_some plan told octets entry end place work x some is = is ∙ ap (λ (e : Option EndPlace). owned plan told octets entry e work) (sym some)

pub owned_between : (plan : Plan) (told : Answers) (octets : List ℕ) (entry : StackEntry) (place at : EndPlace) (work x : Work) → at ≡ place → not at.terminal ≡ true → x
    ≡ switched plan told octets entry place work
    → x ≡ owned plan told octets entry (Some place) work
owned_between plan told octets entry place at work x is other same =
    same
    ∙ sym (ap (λ (b : Bool). cond b (terminated plan told place entry.ttl (wire_row plan place.wire) (end_at work.edge place).remote (behind_entry octets) work)
    (switched plan told octets entry place work)) (ap (λ (p : EndPlace). p.terminal) (sym is) ∙ not-true at.terminal other))

pub owned_terminal : (c : EdgeLists) (told : Answers) (octets behind : List ℕ) (entry : StackEntry) (slot : ℕ) (at : EndPlace) (calls : List LinkCall) (out : List Effect) (x : Work)
    → at ≡ place_of c.ends slot → not at.terminal ≡ false → behind ≡ behind_entry octets
    → x ≡ terminated c.plan told (place_of c.ends slot) entry.ttl (wire_row c.plan (place_of c.ends slot).wire) (end_in c.ends slot).remote behind (at_edge (seen c) calls out)
    → x ≡ owned c.plan told octets entry (Some (place_of c.ends slot)) (at_edge (seen c) calls out)
owned_terminal c told octets behind entry slot at calls out x is terminal front same =
    let place : EndPlace = place_of c.ends slot in
    let work : Work = at_edge (seen c) calls out in
    same
    ∙ (ap (λ (l : List ℕ). terminated c.plan told place entry.ttl (wire_row c.plan place.wire) (end_in c.ends slot).remote l work) front
    ∙ (ap (λ (r : Option Binding). terminated c.plan told place entry.ttl (wire_row c.plan place.wire) r (behind_entry octets) work) (sym (remote_in c calls out slot))
    ∙ sym (ap (λ (b : Bool). cond b (terminated c.plan told place entry.ttl (wire_row c.plan place.wire) (end_at work.edge place).remote (behind_entry octets) work)
    (switched c.plan told octets entry place work)) (ap (λ (p : EndPlace). p.terminal) (sym is) ∙ not-false at.terminal terminal))))

-- ---- a terminal end

none_of : {X : Type 0} (o : Option X) → is_some o ≡ false → o ≡ None
none_of None is = refl
none_of (Some x) is = absurd (cc (is))

-- whether an end that was read holds a binding
pub bound_read : (read : Option (Bor Binding)) (none : Bool) (remote : Option Binding) → is_some read ≡ not none → option_copied read ≡ remote → not none ≡ is_some remote
bound_read None none remote is same = sym is ∙ ap is_some same
bound_read (Some binding) none remote is same = sym is ∙ ap is_some same

pub unbound_end : (plan : Plan) (told : Answers) (place : EndPlace) (ttl : ℕ) (row : Option WirePlan) (remote : Option Binding) (bound : Bool) (payload : List ℕ) (edge : EdgeState) (calls : List LinkCall) (out given : List Effect) → bound ≡ is_some remote → bound ≡ false
    → given ≡ out ++ Dropped cause.Down ∷ []
    → at_edge edge calls given ≡ terminated plan told place ttl row remote payload (at_edge edge calls out)
unbound_end plan told place ttl row remote bound payload edge calls out given is apart gave =
    dropped_at cause.Down edge calls out given gave
    ∙ (sym (down row) ∙ ap (λ (r : Option Binding). terminated plan told place ttl row r payload (at_edge edge calls out)) (sym (none_of remote (sym is ∙ apart))))
  where
    down : (row : Option WirePlan) → terminated plan told place ttl row None payload (at_edge edge calls out) ≡ drops cause.Down (at_edge edge calls out)
    down None = refl
    down (Some row) = refl

-- what an option has
pub some_there : {X : Type 0} (o : Option X) → is_some o ≡ true → (x : X) × (o ≡ Some x)
some_there None is = absurd (cc (is))
some_there (Some x) is = (x, refl)

-- an end that is bound, by the row of its wire
pub by_row : (c : EdgeLists) (told : Answers) (slot ttl : ℕ) (bound : Bool) (offer : Offer) (payload : List ℕ) (calls : List LinkCall) (out : List Effect) (x : Work)
    → (place_of c.ends slot).wire.0 < length c.plan.wires → bound ≡ is_some (end_in c.ends slot).remote → bound ≡ true
    → ((row : WirePlan) → wire_row c.plan (place_of c.ends slot).wire ≡ Some row → offer ≡ offer_of row c.me.0)
    → ((row : WirePlan) (binding : Binding) → wire_row c.plan (place_of c.ends slot).wire ≡ Some row → (end_in c.ends slot).remote ≡ Some binding → x
    ≡ by_offer c.plan told row (place_of c.ends slot) binding ttl offer.cword payload (at_edge (seen c) calls out))
    → x ≡ terminated c.plan told (place_of c.ends slot) ttl (wire_row c.plan (place_of c.ends slot).wire) (end_in c.ends slot).remote payload (at_edge (seen c) calls out)
by_row c told slot ttl bound offer payload calls out x within is here offers same =
    let place : EndPlace = place_of c.ends slot in
    let work : Work = at_edge (seen c) calls out in
    let (row, at) = row_there c.plan.wires place.wire.0 within in
    let (binding, held) = some_there (end_in c.ends slot).remote (sym is ∙ here) in
    same row binding at held
    ∙ (ap (λ (o : Offer). by_offer c.plan told row place binding ttl o.cword payload work) (offers row at)
    ∙ (ap (λ (m : EdgeId). by_offer c.plan told row place binding ttl (offer_of row m.0).cword payload work) (sym (me_at c calls out))
    ∙ (ap (λ (r : Option Binding). terminated c.plan told place ttl (Some row) r payload work) (sym held)
    ∙ ap (λ (r : Option WirePlan). terminated c.plan told place ttl r (end_in c.ends slot).remote payload work) (sym at))))

pub with_word : (plan : Plan) (told : Answers) (row : WirePlan) (place : EndPlace) (binding : Binding) (ttl : ℕ) (cword : Bool) (payload : List ℕ) (work x : Work) → cword ≡ true → x
    ≡ by_control_word plan told row place binding payload work
    → x ≡ by_offer plan told row place binding ttl cword payload work
with_word plan told row place binding ttl cword payload work x has is = is ∙ ap (λ (b : Bool). by_offer plan told row place binding ttl b payload work) (sym has)

pub without_word : (plan : Plan) (told : Answers) (row : WirePlan) (place : EndPlace) (binding : Binding) (ttl : ℕ) (cword : Bool) (payload : List ℕ) (work x : Work) → cword ≡ false
    → x ≡ by_ttl plan told row place binding ttl payload work
    → x ≡ by_offer plan told row place binding ttl cword payload work
without_word plan told row place binding ttl cword payload work x plain is = is ∙ ap (λ (b : Bool). by_offer plan told row place binding ttl b payload work) (sym plain)

-- without a control word: does the TTL end in the channel that was picked?
expired : (c : EdgeLists) (row : WirePlan) (binding : Binding) (remote : Option Binding) (ttl : ℕ) (channel : Option Cc) (calls : List LinkCall) (out : List Effect) → channel
    ≡ channel_by row c.me remote → remote ≡ Some binding
    → (ttl == 1 && is_picked Expiry (channel_under row (at_edge (seen c) calls out).edge.me binding)) ≡ (ttl == 1 && is_picked Expiry channel)
expired c row binding remote ttl channel calls out is held =
    ap (λ (m : EdgeId). ttl == 1 && is_picked Expiry (channel_under row m binding)) (me_at c calls out)
    ∙ ap (λ (k : Option Cc). ttl == 1 && is_picked Expiry k) (sym (is ∙ ap (channel_by row c.me) held))

pub ttl_ends : (c : EdgeLists) (told : Answers) (row : WirePlan) (place : EndPlace) (binding : Binding) (remote : Option Binding) (ttl : ℕ) (channel : Option Cc) (payload : List ℕ) (calls : List LinkCall) (out : List Effect) (x : Work)
    → channel ≡ channel_by row c.me remote → remote ≡ Some binding → (ttl == 1 && is_picked Expiry channel) ≡ true
    → x ≡ verifies told place row Expiry binding payload (at_edge (seen c) calls out) → x ≡ by_ttl c.plan told row place binding ttl payload (at_edge (seen c) calls out)
ttl_ends c told row place binding remote ttl channel payload calls out x is held ends same =
    let work : Work = at_edge (seen c) calls out in
    same ∙ sym (ap (λ (b : Bool). cond b (verifies told place row Expiry binding payload work) (enters c.plan told row place payload work))
    (expired c row binding remote ttl channel calls out is held ∙ ends))

pub ttl_goes_on : (c : EdgeLists) (told : Answers) (row : WirePlan) (place : EndPlace) (binding : Binding) (remote : Option Binding) (ttl : ℕ) (channel : Option Cc) (payload : List ℕ) (calls : List LinkCall) (out : List Effect) (x : Work)
    → channel ≡ channel_by row c.me remote → remote ≡ Some binding → (ttl == 1 && is_picked Expiry channel) ≡ false
    → x ≡ enters c.plan told row place payload (at_edge (seen c) calls out) → x ≡ by_ttl c.plan told row place binding ttl payload (at_edge (seen c) calls out)
ttl_goes_on c told row place binding remote ttl channel payload calls out x is held goes same =
    let work : Work = at_edge (seen c) calls out in
    same ∙ sym (ap (λ (b : Bool). cond b (verifies told place row Expiry binding payload work) (enters c.plan told row place payload work))
    (expired c row binding remote ttl channel calls out is held ∙ goes))

-- with a control word
pub word_short : (plan : Plan) (told : Answers) (row : WirePlan) (place : EndPlace) (binding : Binding) (payload : List ℕ) (edge : EdgeState) (calls : List LinkCall) (out given : List Effect) → (length payload == 0) ≡ true → given ≡ out ++ Dropped cause.Short ∷ []
    → at_edge edge calls given ≡ by_control_word plan told row place binding payload (at_edge edge calls out)
word_short plan told row place binding payload edge calls out given empty gave =
    let work : Work = at_edge edge calls out in
    dropped_at cause.Short edge calls out given gave
    ∙ sym (ap (λ (b : Bool). cond b (drops cause.Short work) (cond (is_channel payload) (verifies_in told place row Header binding payload work) (enters plan told row place payload work))) empty)

pub word_channel : (plan : Plan) (told : Answers) (row : WirePlan) (place : EndPlace) (binding : Binding) (remote : Option Binding) (payload : List ℕ) (work x : Work)
    → (length payload == 0) ≡ false → is_channel payload ≡ true → remote ≡ Some binding
    → x ≡ verified_by told place row Header remote payload work → x ≡ by_control_word plan told row place binding payload work
word_channel plan told row place binding remote payload work x some channel held same =
    same
    ∙ (ap (λ (r : Option Binding). verified_by told place row Header r payload work) held
    ∙ sym (ap (λ (b : Bool). cond b (drops cause.Short work) (cond (is_channel payload) (verifies_in told place row Header binding payload work) (enters plan told row place payload work))) some
    ∙ ap (λ (b : Bool). cond b (verifies_in told place row Header binding payload work) (enters plan told row place payload work)) channel))

pub word_frame : (plan : Plan) (told : Answers) (row : WirePlan) (place : EndPlace) (binding : Binding) (payload : List ℕ) (work x : Work) → (length payload == 0) ≡ false
    → is_channel payload ≡ false → x ≡ enters plan told row place payload work
    → x ≡ by_control_word plan told row place binding payload work
word_frame plan told row place binding payload work x some plain is =
    is
    ∙ sym (ap (λ (b : Bool). cond b (drops cause.Short work) (cond (is_channel payload) (verifies_in told place row Header binding payload work) (enters plan told row place payload work))) some
    ∙ ap (λ (b : Bool). cond b (verifies_in told place row Header binding payload work) (enters plan told row place payload work)) plain)

-- ---- a frame comes by a wire

pub up_at : (down : Option Down) → is_some down ≡ false → is_up down ≡ true
up_at None is = refl
up_at (Some why) is = absurd (cc (is))

pub enters_not : (plan : Plan) (told : Answers) (row : WirePlan) (place : EndPlace) (payload : List ℕ) (down : Option Down) (edge : EdgeState) (calls : List LinkCall) (out given : List Effect) → down ≡ down_at plan edge place → is_some down ≡ true
    → given ≡ out ++ Dropped cause.Down ∷ []
    → at_edge edge calls given ≡ enters plan told row place payload (at_edge edge calls out)
unfolding at_edge gives
enters_not plan told row place payload down edge calls out given is some gave =
    let work : Work = record { edge = edge; calls = calls; effects = out; idle = false } in
    ap (λ (l : List Effect). record { edge = edge; calls = calls; effects = l; idle = false }) gave
    ∙ sym (ap (λ (b : Bool). cond b (bridges_frame plan told row place payload work) (drops cause.Down work)) (ap is_up (sym is) ∙ up_not down some))

pub enters_here : (c : EdgeLists) (told : Answers) (row : WirePlan) (slot : ℕ) (payload : List ℕ) (down : Option Down) (calls : List LinkCall) (out : List Effect) (x : Work) → down
    ≡ down_at c.plan (seen c) (place_of c.ends slot) → is_some down ≡ false
    → x ≡ bridges_frame c.plan told row (place_of c.ends slot) payload (at_edge (seen c) calls out)
    → x ≡ enters c.plan told row (place_of c.ends slot) payload (at_edge (seen c) calls out)
enters_here c told row slot payload down calls out x is none same =
    let work : Work = at_edge (seen c) calls out in
    same
    ∙ sym (ap (λ (b : Bool). cond b (bridges_frame c.plan told row (place_of c.ends slot) payload work) (drops cause.Down work))
    (ap (λ (e : EdgeState). is_up (down_at c.plan e (place_of c.ends slot))) (edge_in c calls out) ∙ (ap is_up (sym is) ∙ up_at down none)))

pub bridged_payload : (c : EdgeLists) (told : Answers) (row : WirePlan) (slot : ℕ) (at : EndPlace) (service : ServiceId) (port : Option ℕ) (payload : List ℕ) (calls : List LinkCall) (out : List Effect) (x : Work) → at ≡ place_of c.ends slot
    → service ≡ row.service → port ≡ position (is_wire_port (place_of c.ends slot).wire) (ports_of c.plan service c.me)
    → x ≡ received c.plan told (arrival.Wire at.wire) service port (unpacked_at c.plan row c.me payload) (at_edge (seen c) calls out)
    → x ≡ bridges_frame c.plan told row (place_of c.ends slot) payload (at_edge (seen c) calls out)
unfolding seen at_edge
bridged_payload c told row slot at service port payload calls out x is of found same =
    let place : EndPlace = place_of c.ends slot in
    same
    ∙ (ap (λ (p : EndPlace). received c.plan told (arrival.Wire p.wire) service port (unpacked_at c.plan row c.me payload) (at_edge (seen c) calls out)) is
    ∙ (ap (λ (p : Option ℕ). received c.plan told (arrival.Wire place.wire) service p (unpacked_at c.plan row c.me payload) (at_edge (seen c) calls out)) found
    ∙ ap (λ (s : ServiceId). received c.plan told (arrival.Wire place.wire) s (position (is_wire_port place.wire) (ports_of c.plan s c.me)) (unpacked_at c.plan row c.me payload)
    (at_edge (seen c) calls out)) of))

-- ---- the frame is read by the edge's own offer

pub read_by : (plan : Plan) (row : WirePlan) (me : EdgeId) (offer : Offer) (service : ServiceId) (mtu : ℕ) (payload : List ℕ) → offer ≡ offer_of row me.0 → service ≡ row.service
    → mtu_of plan service ≡ Some mtu
    → unpacked offer.cword offer.tagged mtu payload ≡ unpacked_at plan row me payload
read_by plan row me offer service mtu payload offers of known =
    ap (λ (o : Offer). unpacked o.cword o.tagged mtu payload) offers
    ∙ ap (λ (m : Option ℕ). unpacked_by (offer_of row me.0) m payload) (sym (sym (ap (mtu_of plan) of) ∙ known))
