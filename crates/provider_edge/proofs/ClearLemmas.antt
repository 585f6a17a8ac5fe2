-- A MAC withdraw is heard, exit by exit: what is forgotten, and where the addresses go on.
use Rattle.std.proofs.Common.{◌≡◌, ◌<◌, ◌∙◌, ℕ, zero, suc, Bool, true, false, not, cond, List, [], ◌∷◌, Option, Some, None, length, slice_get, position, refl, ap, sym, subst, arith}
use Rattle.std.specs.Prelude.{IfSome}
use Rattle.std.proofs.lemmas.Bool.{not-true, not-false}
use Rattle.net_base.specs.declared.outside.link_call.LinkCall.{LinkCall}
use Rattle.net_base.specs.declared.plan.Plan.{Plan}
use Rattle.net_base.specs.declared.plan.places.EdgeId.{EdgeId}
use Rattle.net_base.specs.declared.plan.places.ServiceId.{ServiceId}
use Rattle.net_base.specs.declared.plan.places.WireId.{WireId}
use Rattle.net_base.specs.declared.plan.wire_plan.WirePlan.{WirePlan}
use Rattle.net_values.specs.declared.mac.Mac.{Mac}
use Rattle.net_base.specs.plan.Places.{wire_row}
use Rattle.pw_tlvs.specs.declared.pw_fec.PwFec.{PwFec}
use Rattle.ldp_grammar.specs.declared.address_list.AddressList.{AddressList}
use Rattle.ldp_grammar.specs.declared.message.Message.{Message}
use Rattle.ldp_grammar.specs.declared.message.Message.TheVariants.{AddressWithdraw}
use Rattle.pw_messages.specs.LinkAnswers.{Answers}
use Rattle.hvpls_spokes.specs.declared.edge_role.Role.{Role}
use Rattle.hvpls_spokes.specs.declared.edge_role.Role.TheVariants as roles
use Rattle.hvpls_spokes.specs.declared.port.Port.{Port}
use Rattle.hvpls_spokes.specs.declared.port.Port.TheVariants as port
use Rattle.hvpls_spokes.specs.Port.{is_wire_port, ports_of, is_wire}
use Rattle.hvpls_spokes.specs.Role.{role_of}
use Rattle.hvpls_spokes.proofs.RowPortLemmas.{wire_behind}
use Rattle.hvpls_spokes.proofs.WirePortLemmas.{found_wire_port}
use Rattle.mac_withdraw.specs.Passing.{is_passed_to, is_wire_at}
use Rattle.mac_withdraw.specs.Pieces.{pieces_of}
use Rattle.edge_model.specs.Across.{end_beyond}
use Rattle.edge_model.specs.Clear.{clears_at, clears_by, clears_wire, hears_mac_withdraw, passes_on, tells_at, tells_by, withdrawing_at}
use Rattle.edge_model.specs.declared.effect.Effect.{Effect}
use Rattle.edge_model.specs.declared.end_place.EndPlace.{EndPlace}
use Rattle.edge_model.specs.Ends.{wire_end}
use Rattle.edge_model.specs.Frame.{copies}
use Rattle.edge_model.specs.Hear.{acts_on}
use Rattle.edge_model.specs.Signal.{end_of_fec}
use Rattle.edge_model.specs.State.{EdgeState}
use Rattle.edge_model.specs.Withdraw.{tells_pieces}
use Rattle.edge_model.specs.Work.{Work, changes}
use Rattle.peer_dialogue.specs.Peering.{at_edge}
use Rattle.edge_forwarding.proofs.OpenLemmas.{same_tests}
use Rattle.provider_edge.proofs.CopyLemmas.{copies_none}
use Rattle.provider_edge.proofs.MendLemmas.{me_at}
use Rattle.provider_edge.proofs.RowLemmas.{changed_edge}
use Rattle.provider_edge.specs.Lists.{EdgeLists, Keeps, seen}
use Rattle.provider_edge.specs.Taking.{copied_by}

-- ---- the message names a wire, or nothing

pub withdraw_acts : (plan : Plan) (told : Answers) (peer : EdgeId) (message : Message) (id : ℕ) (addresses : Option AddressList) (fec : Option PwFec) (macs : Option (List Mac)) (work next : Work)
    → message ≡ AddressWithdraw id addresses fec macs → next ≡ hears_mac_withdraw plan told peer fec macs work → next ≡ acts_on plan told peer message work
withdraw_acts plan told peer message id addresses fec macs work next at is = is ∙ sym (ap (λ (m : Message). acts_on plan told peer m work) at)

pub no_fec_heard : (plan : Plan) (told : Answers) (peer : EdgeId) (fec : Option PwFec) (macs : Option (List Mac)) (work : Work) → fec ≡ None → work ≡ hears_mac_withdraw plan told peer fec macs work
no_fec_heard plan told peer fec macs work none = sym (ap (λ (f : Option PwFec). hears_mac_withdraw plan told peer f macs work) none)

both_heard : (plan : Plan) (told : Answers) (peer : EdgeId) (fec : Option PwFec) (named : PwFec) (macs : Option (List Mac)) (addresses : List Mac) (work : Work) → fec ≡ Some named
    → macs ≡ Some addresses
    → hears_mac_withdraw plan told peer fec macs work ≡ clears_by plan told addresses (end_of_fec plan work.edge peer named) work
both_heard plan told peer fec named macs addresses work there listed =
    ap (λ (f : Option PwFec). hears_mac_withdraw plan told peer f macs work) there ∙ ap (λ (m : Option (List Mac)). hears_mac_withdraw plan told peer (Some named) m work) listed

pub no_end_heard : (plan : Plan) (told : Answers) (peer : EdgeId) (fec : Option PwFec) (named : PwFec) (macs : Option (List Mac)) (addresses : List Mac) (edge : EdgeState) (calls : List LinkCall) (out : List Effect)
    → fec ≡ Some named → macs ≡ Some addresses → end_of_fec plan edge peer named ≡ None
    → at_edge edge calls out ≡ hears_mac_withdraw plan told peer fec macs (at_edge edge calls out)
unfolding at_edge
no_end_heard plan told peer fec named macs addresses edge calls out there listed none =
    let start : Work = record { edge = edge; calls = calls; effects = out; idle = false } in
    sym (both_heard plan told peer fec named macs addresses start there listed ∙ ap (λ (e : Option EndPlace). clears_by plan told addresses e start) none)

pub end_heard : (plan : Plan) (told : Answers) (peer : EdgeId) (fec : Option PwFec) (named : PwFec) (macs : Option (List Mac)) (addresses : List Mac) (place : EndPlace) (edge : EdgeState) (calls : List LinkCall) (out : List Effect) (next : Work)
    → fec ≡ Some named → macs ≡ Some addresses → end_of_fec plan edge peer named ≡ Some place → next ≡ clears_by plan told addresses (Some place) (at_edge edge calls out)
    → next ≡ hears_mac_withdraw plan told peer fec macs (at_edge edge calls out)
unfolding at_edge
end_heard plan told peer fec named macs addresses place edge calls out next there listed found is =
    let start : Work = record { edge = edge; calls = calls; effects = out; idle = false } in
    is ∙ sym (both_heard plan told peer fec named macs addresses start there listed ∙ ap (λ (e : Option EndPlace). clears_by plan told addresses e start) found)

-- ---- the wire of the end

-- a switching point tells its other side
pub beyond_clears : (c : EdgeLists) (told : Answers) (addresses given : List Mac) (place at : EndPlace) (calls : List LinkCall) (out : List Effect) (next : Work) → place ≡ at
    → not place.terminal ≡ true → given ≡ addresses
    → next ≡ tells_by told given (end_beyond c.plan c.me at) (at_edge (seen c) calls out) → next ≡ clears_by c.plan told addresses (Some at) (at_edge (seen c) calls out)
beyond_clears c told addresses given place at calls out next is passes same tells =
    let work : Work = at_edge (seen c) calls out in
    tells
    ∙ (ap (λ (l : List Mac). tells_by told l (end_beyond c.plan c.me at) work) same
    ∙ (ap (λ (m : EdgeId). tells_by told addresses (end_beyond c.plan m at) work) (sym (me_at c calls out))
    ∙ sym (ap (λ (b : Bool). cond b (clears_wire c.plan told addresses at (wire_row c.plan at.wire) work) (tells_by told addresses (end_beyond c.plan work.edge.me at) work))
    (sym (ap (λ (p : EndPlace). p.terminal) is) ∙ not-true place.terminal passes))))

there : {X : Type 0} (xs : List X) (i : ℕ) → slice_get xs i ≡ None → i < length xs → ⊥
there [] i none below = absurd (omega arith)
there (x ∷ xs) zero none below = absurd (cc (none))
there (x ∷ xs) (suc i) none below = there xs i none (omega arith)

pub terminal_clears : (c : EdgeLists) (told : Answers) (addresses : List Mac) (place at : EndPlace) (service : ServiceId) (found : Option ℕ) (calls : List LinkCall) (out : List Effect) (next : Work)
    → place ≡ at → not place.terminal ≡ false → place.wire.0 < length c.plan.wires → ((row : WirePlan) → wire_row c.plan at.wire ≡ Some row → service ≡ row.service)
    → found ≡ position (is_wire_port place.wire) (ports_of c.plan service c.me) → next ≡ clears_at c.plan told addresses service found (at_edge (seen c) calls out)
    → next ≡ clears_by c.plan told addresses (Some at) (at_edge (seen c) calls out)
terminal_clears c told addresses place at service found calls out next is ends within of ported cleared = by (wire_row c.plan at.wire) refl where
  work : Work
  work = at_edge (seen c) calls out

  by : (row : Option WirePlan) → wire_row c.plan at.wire ≡ row → next ≡ clears_by c.plan told addresses (Some at) work
  by None none = absurd (there c.plan.wires at.wire.0 none (subst (λ (p : EndPlace). p.wire.0 < length c.plan.wires) is within))
  by (Some row) some =
      cleared
      ∙ (ap (λ (f : Option ℕ). clears_at c.plan told addresses service f work) (ported ∙ ap (λ (p : EndPlace). position (is_wire_port p.wire) (ports_of c.plan service c.me)) is)
      ∙ (ap (λ (s : ServiceId). clears_at c.plan told addresses s (position (is_wire_port at.wire) (ports_of c.plan s c.me)) work) (of row some)
      ∙ (ap (λ (m : EdgeId). clears_at c.plan told addresses row.service (position (is_wire_port at.wire) (ports_of c.plan row.service m)) work) (sym (me_at c calls out))
      ∙ (ap (λ (r : Option WirePlan). clears_wire c.plan told addresses at r work) (sym some)
      ∙ ap (λ (b : Bool). cond b (clears_wire c.plan told addresses at (wire_row c.plan at.wire) work) (tells_by told addresses (end_beyond c.plan work.edge.me at) work))
      (sym (sym (ap (λ (p : EndPlace). p.terminal) is) ∙ not-false place.terminal ends))))))

-- the port that is found for a wire leads to it
pub found_is_wire : (wire : WireId) (ports : List Port) (found : Option ℕ) → found ≡ position (is_wire_port wire) ports → IfSome found (λ from. is_wire_at ports from ≡ true)
found_is_wire wire ports None is = tt
found_is_wire wire ports (Some from) is = behind (slice_get ports from) ((found_wire_port wire ports from (sym is)).is) where
  behind : (x : Option Port) → wire_behind x ≡ Some wire.0 → is_wire x ≡ true
  behind None at = absurd (cc (at))
  behind (Some (port.Circuit circuit)) at = absurd (cc (at))
  behind (Some (port.Mesh w)) at = refl
  behind (Some (port.Spoke w)) at = refl

-- ---- the bridge forgets, and the addresses go on

pub no_port_clears : (plan : Plan) (told : Answers) (addresses : List Mac) (service : ServiceId) (found : Option ℕ) (work : Work) → found ≡ None → work
    ≡ clears_at plan told addresses service found work
no_port_clears plan told addresses service found work none = sym (ap (λ (f : Option ℕ). clears_at plan told addresses service f work) none)

pub cleared_on : (c mid : EdgeLists) (told : Answers) (addresses given : List Mac) (service : ServiceId) (from : ℕ) (found : Option ℕ) (calls : List LinkCall) (out : List Effect) (next : Work)
    → Keeps c mid → found ≡ Some from → given ≡ addresses → seen mid ≡ withdrawing_at service addresses from (seen c)
    → next ≡ passes_on mid.plan told given service from (role_of mid.plan service mid.me) (at_edge (seen mid) calls out)
    → next ≡ clears_at c.plan told addresses service found (at_edge (seen c) calls out)
cleared_on c mid told addresses given service from found calls out next keeps some same forgot passed =
    let work : Work = at_edge (seen c) calls out in
    let after : Work = changes (withdrawing_at service addresses from) work in
    passed
    ∙ (ap (λ (w : Work). passes_on mid.plan told given service from (role_of mid.plan service mid.me) w) (changed_edge (withdrawing_at service addresses from) (seen c) (seen mid) calls out forgot)
    ∙ (ap (λ (l : List Mac). passes_on mid.plan told l service from (role_of mid.plan service mid.me) after) same
    ∙ (ap (λ (p : Plan). passes_on p told addresses service from (role_of p service mid.me) after) keeps.plan
    ∙ (ap (λ (m : EdgeId). passes_on c.plan told addresses service from (role_of c.plan service m) after) (keeps.me ∙ sym (me_at c calls out))
    ∙ ap (λ (f : Option ℕ). clears_at c.plan told addresses service f work) (sym some)))))

pub passed_to : (c : EdgeLists) (told : Answers) (addresses : List Mac) (service : ServiceId) (from : ℕ) (role : Role) (found other : Option Role) (ports : List Port) (passed : ℕ → Bool) (calls : List LinkCall) (out : List Effect) (next : Work)
    → found ≡ other → found ≡ Some role → ports ≡ ports_of c.plan service c.me → ((p : ℕ) → passed p ≡ is_passed_to role ports from p)
    → next ≡ copies passed (tells_at c.plan told addresses) 0 (ports_of c.plan service c.me) (at_edge (seen c) calls out)
    → next ≡ passes_on c.plan told addresses service from other (at_edge (seen c) calls out)
passed_to c told addresses service from role found other ports passed calls out next is some are passes told_on =
    let work : Work = at_edge (seen c) calls out in
    told_on
    ∙ (ap (λ (t : ℕ → Bool). copies t (tells_at c.plan told addresses) 0 (ports_of c.plan service c.me) work)
    (same_tests passed (is_passed_to role ports from) passes ∙ ap (λ (l : List Port). is_passed_to role l from) are)
    ∙ (ap (λ (m : EdgeId). copies (is_passed_to role (ports_of c.plan service m) from) (tells_at c.plan told addresses) 0 (ports_of c.plan service m) work) (sym (me_at c calls out))
    ∙ ap (λ (r : Option Role). passes_on c.plan told addresses service from r work) (sym (sym is ∙ some))))

-- a spoke edge passes nothing on
pub passed_to_none : (c : EdgeLists) (told : Answers) (addresses : List Mac) (service : ServiceId) (from : ℕ) (role : Role) (other : Option Role) (calls : List LinkCall) (out : List Effect)
    → other ≡ Some role → role ≡ roles.SpokeEdge → at_edge (seen c) calls out ≡ passes_on c.plan told addresses service from other (at_edge (seen c) calls out)
passed_to_none c told addresses service from role other calls out found is =
    let work : Work = at_edge (seen c) calls out in
    let ports : List Port = ports_of c.plan service work.edge.me in
    sym (ap (λ (r : Option Role). passes_on c.plan told addresses service from r work) (found ∙ ap Some is)
    ∙ copies_none (is_passed_to roles.SpokeEdge ports from) (tells_at c.plan told addresses) 0 ports work (λ q. refl))

-- ---- port by port

pub where_kept : (c now : EdgeLists) (told : Answers) (addresses : List Mac) (service : ServiceId) (p : ℕ) (passed : Bool) (work next : Work) → Keeps c now
    → next ≡ cond passed (copied_by (tells_at now.plan told addresses) (slice_get (ports_of now.plan service now.me) p) work) work
    → next ≡ cond passed (copied_by (tells_at c.plan told addresses) (slice_get (ports_of c.plan service c.me) p) work) work
where_kept c now told addresses service p passed work next keeps is =
    is
    ∙ (ap (λ (plan : Plan). cond passed (copied_by (tells_at plan told addresses) (slice_get (ports_of plan service now.me) p) work) work) keeps.plan
    ∙ ap (λ (m : EdgeId). cond passed (copied_by (tells_at c.plan told addresses) (slice_get (ports_of c.plan service m) p) work) work) keeps.me)

pub told_by_some : (tells : Port → Work → Work) (found other : Option Port) (x : Port) (work next : Work) → found ≡ other → found ≡ Some x → next ≡ tells x work → next ≡ copied_by tells other work
told_by_some tells found other x work next is some told = told ∙ ap (λ (o : Option Port). copied_by tells o work) (sym (sym is ∙ some))

pub told_mesh : (c : EdgeLists) (told : Answers) (addresses : List Mac) (x : Port) (wire : WireId) (calls : List LinkCall) (out : List Effect) (next : Work) → x ≡ port.Mesh wire
    → next ≡ tells_by told addresses (wire_end c.plan c.me wire) (at_edge (seen c) calls out) → next ≡ tells_at c.plan told addresses x (at_edge (seen c) calls out)
told_mesh c told addresses x wire calls out next is told_on =
    told_on
    ∙ (ap (λ (m : EdgeId). tells_by told addresses (wire_end c.plan m wire) (at_edge (seen c) calls out)) (sym (me_at c calls out))
    ∙ ap (λ (y : Port). tells_at c.plan told addresses y (at_edge (seen c) calls out)) (sym is))

pub told_spoke : (c : EdgeLists) (told : Answers) (addresses : List Mac) (x : Port) (wire : WireId) (calls : List LinkCall) (out : List Effect) (next : Work) → x ≡ port.Spoke wire
    → next ≡ tells_by told addresses (wire_end c.plan c.me wire) (at_edge (seen c) calls out) → next ≡ tells_at c.plan told addresses x (at_edge (seen c) calls out)
told_spoke c told addresses x wire calls out next is told_on =
    told_on
    ∙ (ap (λ (m : EdgeId). tells_by told addresses (wire_end c.plan m wire) (at_edge (seen c) calls out)) (sym (me_at c calls out))
    ∙ ap (λ (y : Port). tells_at c.plan told addresses y (at_edge (seen c) calls out)) (sym is))

pub no_end_told : (told : Answers) (addresses : List Mac) (end : Option EndPlace) (work : Work) → end ≡ None → work ≡ tells_by told addresses end work
no_end_told told addresses end work none = sym (ap (λ (e : Option EndPlace). tells_by told addresses e work) none)

pub end_told : (told : Answers) (addresses : List Mac) (end : Option EndPlace) (place : EndPlace) (work next : Work) → end ≡ Some place → next
    ≡ tells_pieces told place (pieces_of addresses) work → next ≡ tells_by told addresses end work
end_told told addresses end place work next some is = is ∙ ap (λ (e : Option EndPlace). tells_by told addresses e work) (sym some)
