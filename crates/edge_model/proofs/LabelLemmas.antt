-- The label that an edge gives next never falls, whatever comes, and stays within the labels that there are (RFC 3032 section 2.1).
use Rattle.std.proofs.Common.{◌≡◌, ◌≤◌, ◌+◌, ℕ, Bool, cond, true, false, Option, Some, None, sym, subst, nat_eq, refl, arith}
use Rattle.std.proofs.lemmas.Bool.Decides.{nat_tests}
use Rattle.net_base.specs.declared.plan.Plan.{Plan}
use Rattle.net_base.specs.declared.plan.circuit_plan.CircuitPlan.{CircuitPlan}
use Rattle.net_base.specs.declared.plan.places.CircuitId.{CircuitId}
use Rattle.net_base.specs.declared.plan.places.EdgeId.{EdgeId}
use Rattle.net_base.specs.declared.plan.places.WireId.{WireId}
use Rattle.net_base.specs.plan.Places.{wire_row}
use Rattle.label_space.specs.Labels.{numbers_end}
use Rattle.pw_tlvs.specs.declared.pw_fec.PwFec.{PwFec}
use Rattle.pw_signalling.specs.declared.told.Told.{Told}
use Rattle.pw_signalling.specs.End.{EndState}
use Rattle.pw_signalling.specs.Rows.{bound, group_stated, group_unbound, released, stated, telling, unbound, withdrawn}
use Rattle.ldp_grammar.specs.declared.message.Message.{Message}
use Rattle.pw_messages.specs.Content.{mac_withdrawal, mapping, release, status_notification, withdrawal}
use Rattle.pw_messages.specs.LinkAnswers.{Answers}
use Rattle.edge_model.specs.Circuit.{turned}
use Rattle.edge_model.specs.Clear.{withdrawing_at}
use Rattle.edge_model.specs.declared.end_place.EndPlace.{EndPlace}
use Rattle.edge_model.specs.declared.input.Input.{Input}
use Rattle.edge_model.specs.EndPlaces.{end_named}
use Rattle.edge_model.specs.Mend.{advertising, forgetting_wire, mends, telling_status, withdrawing}
use Rattle.edge_model.specs.Put.{put_reply}
use Rattle.edge_model.specs.Send.{sends}
use Rattle.edge_model.specs.Session.{had_said, happens_with_ends, says}
use Rattle.edge_model.specs.Signal.{end_of_fec, with_end_changed, with_named, with_released}
use Rattle.edge_model.specs.State.{EdgeState, end_at, with_addresses, with_bits, with_chosen, with_circuit, with_end, with_ends_beside, with_learned, with_next_label, with_next_ping, with_peering, with_priority, with_renewed, with_ticks, with_told_down, with_wire, without_ends, without_peerings, with_kept}
use Rattle.edge_model.specs.Step.{edge_step}
use Rattle.edge_model.specs.Wire.{turned_wire}
use Rattle.edge_model.specs.Work.{Work, changes, gives, idles}
use Rattle.edge_model.proofs.BridgeLemmas.{LearnsOnly, forgetting_only, sends_bridges, withdrawing_only}
use Rattle.edge_model.proofs.SessionLemmas.{IsSessionWork, advice_works, any, happens_with_ends_works, says_works}
use Rattle.edge_model.proofs.WalkLemmas.{HearSteps, InputSteps, MendSteps, mends_holds, step_holds}

-- the next label does not fall, and where there was one of these labels, or none was left, it is so afterwards
pub record LabelsRise (limit old new : ℕ) : Type 0 where
  pub rise : old ≤ new
  pub within : old ≤ limit → new ≤ limit

-- of all labels that there are
abbrev pub LabelsFit : ℕ → ℕ → Type 0
LabelsFit old new = LabelsRise numbers_end old new

abbrev pub WorkRises : Work → Work → Type 0
WorkRises a b = LabelsFit a.edge.next_label b.edge.next_label

same_label : (limit a b : ℕ) → b ≡ a → LabelsRise limit a b
same_label limit a b same = subst (λ (n : ℕ). LabelsRise limit a n) (sym same) (record { rise = omega arith; within = λ fits. fits })

one_more : (limit a b : ℕ) → b ≡ cond (nat_eq a limit) a (a + 1) → LabelsRise limit a b
one_more limit a b next = subst (λ (n : ℕ). LabelsRise limit a n) (sym next) (by (nat_eq a limit) refl) where
  under : nat_eq a limit ≡ false → a ≤ limit → a + 1 ≤ limit
  under other fits = grind (arith, nat_tests)

  by : (last : Bool) → nat_eq a limit ≡ last → LabelsRise limit a (cond last a (a + 1))
  by true last = record { rise = omega arith; within = λ fits. fits }
  by false other = record { rise = omega arith; within = under other }

rises_then : (limit a b c : ℕ) → LabelsRise limit a b → LabelsRise limit b c → LabelsRise limit a c
rises_then limit a b c first next = record { rise = joined first.rise next.rise; within = λ fits. next.within (first.within fits) } where
  joined : a ≤ b → b ≤ c → a ≤ c
  joined x y = omega (arith, x, y)

pub fits_same : (label : ℕ) → LabelsFit label label
fits_same label = same_label numbers_end label label refl

pub fits_then : (a b c : ℕ) → LabelsFit a b → LabelsFit b c → LabelsFit a c
fits_then a b c first next = rises_then numbers_end a b c first next

rises_not : (work : Work) → WorkRises work work
rises_not work = same_label numbers_end work.edge.next_label work.edge.next_label refl

-- a change that leaves the next label
keeps : (change : EdgeState → EdgeState) (work : Work) → (change work.edge).next_label ≡ work.edge.next_label → WorkRises work (changes change work)
unfolding changes
keeps change work same = same_label numbers_end work.edge.next_label (change work.edge).next_label same

learns_rise : (a b : Work) → LearnsOnly a.edge b.edge → WorkRises a b
learns_rise a b only = same_label numbers_end a.edge.next_label b.edge.next_label only.labels

session_rises : (a b : Work) → IsSessionWork any a b → WorkRises a b
session_rises a b works = same_label numbers_end a.edge.next_label b.edge.next_label works.edge.labels

says_rises : (told : Answers) (peer : EdgeId) (message : ℕ → Message) (change : EdgeState → EdgeState) (work : Work) → (change work.edge).next_label ≡ work.edge.next_label
    → WorkRises work (says told peer message (changes change work)).work
says_rises told peer message change work same =
    let changed : Work = changes change work in
    let said : Work = (says told peer message changed).work in
    rises_then numbers_end work.edge.next_label changed.edge.next_label said.edge.next_label (keeps change work same) (session_rises changed said (says_works told any peer message changed refl))

end_keeps : (place : EndPlace) (end : EndState) (edge : EdgeState) → (with_end place end edge).next_label ≡ edge.next_label
unfolding with_end with_kept
end_keeps place end edge = refl

changed_keeps : (change : EndState → EndState) (place : Option EndPlace) (edge : EdgeState) → (with_end_changed change place edge).next_label ≡ edge.next_label
changed_keeps change None edge = refl
changed_keeps change (Some place) edge = end_keeps place (change (end_at edge place)) edge

released_keeps : (label : Option ℕ) (place : Option EndPlace) (edge : EdgeState) → (with_released label place edge).next_label ≡ edge.next_label
unfolding with_end with_kept
released_keeps label None edge = refl
released_keeps label (Some place) edge = refl

named_keeps : (plan : Plan) (peer : EdgeId) (fec : PwFec) (one all : EndState → EndState) (pw_id : Option ℕ) (edge : EdgeState)
    → (with_named plan peer fec one all pw_id edge).next_label ≡ edge.next_label
unfolding with_ends_beside with_kept
named_keeps plan peer fec one all None edge = refl
named_keeps plan peer fec one all (Some pw_id) edge = changed_keeps one (end_named plan edge.me peer pw_id) edge

advertises_rises : (told : Answers) (place : EndPlace) (label : ℕ) (content : Told) (work : Work)
    → WorkRises work (says told place.peer (mapping place.pw_id label content) (changes (advertising place label content) work)).work
unfolding changes with_end with_next_label with_kept
advertises_rises told place label content work =
    let given : Work = changes (advertising place label content) work in
    let message : ℕ → Message = mapping place.pw_id label content in
    let said : Work = (says told place.peer message given).work in
    rises_then numbers_end work.edge.next_label given.edge.next_label said.edge.next_label (one_more numbers_end work.edge.next_label given.edge.next_label refl)
    (session_rises given said (says_works told any place.peer message given refl))

pub mend_rises : (plan : Plan) (told : Answers) → MendSteps plan told WorkRises
unfolding changes gives with_chosen with_told_down
mend_rises plan told = record {
  same = rises_not;
  joined = λ a b c. rises_then numbers_end a.edge.next_label b.edge.next_label c.edge.next_label;
  advertises = λ place label content work here idle wished given. advertises_rises told place label content work;
  withdraws = λ place label content work here is wished.
      says_rises told place.peer (withdrawal place.pw_id label content) (withdrawing place) work (end_keeps place (withdrawn (end_at work.edge place)) work.edge);
  chooses = rises_not;
  tells_status = λ place label content last work here is status other.
      says_rises told place.peer (status_notification place.pw_id _ content) (telling_status place _) work (end_keeps place (telling _ (end_at work.edge place)) work.edge);
  tells_piece = λ place label content addresses work is.
      let message : ℕ → Message = mac_withdrawal place.pw_id addresses content in
      session_rises work (says told place.peer message work).work (says_works told any place.peer message work refl);
  forgets_wire = λ place why work here terminal is. learns_rise work (changes (forgetting_wire plan place.wire (wire_row plan place.wire)) work)
      (forgetting_only plan place.wire (wire_row plan place.wire) work).edge;
  tells_down = λ place work here terminal other. rises_not work;
}

pub hear_rises : (plan : Plan) (told : Answers) → HearSteps plan told WorkRises
unfolding with_peering
hear_rises plan told = record {
  mend = mend_rises plan told;
  happens = λ peer event work. session_rises work (happens_with_ends told peer event work) (happens_with_ends_works told any peer event work refl);
  advises = λ peer reply work. session_rises work (had_said peer (put_reply told peer reply work)).work (advice_works told any peer reply work refl);
  holds = λ peer kept octets work is. keeps (with_peering peer (Some (record kept { held = octets }))) work refl;
  releases = λ peer fec label work. session_rises work (says told peer (release fec label) work).work (says_works told any peer (release fec label) work refl);
  binds = λ peer fec place binding work there is taken. keeps (with_end_changed (bound binding) (Some place)) work (changed_keeps (bound binding) (Some place) work.edge);
  unbinds = λ peer fec label work there.
      keeps (with_named plan peer fec (unbound label) (group_unbound fec.group) fec.pw_id) work (named_keeps plan peer fec (unbound label) (group_unbound fec.group) fec.pw_id work.edge);
  released = λ peer fec label work there.
      keeps (λ edge. with_released label (end_of_fec plan edge peer fec) edge) work (released_keeps label (end_of_fec plan work.edge peer fec) work.edge);
  states = λ peer fec status work there.
      keeps (with_named plan peer fec (stated status) (group_stated fec.group status) fec.pw_id) work (named_keeps plan peer fec (stated status) (group_stated fec.group status) fec.pw_id work.edge);
  clears = λ service addresses from work. learns_rise work (changes (withdrawing_at service addresses from) work) (withdrawing_only service addresses from work).edge;
}

turned_keeps : (plan : Plan) (circuit : CircuitId) (row : CircuitPlan) (on : Bool) (edge : EdgeState) → (turned plan circuit row on edge).next_label ≡ edge.next_label
unfolding with_addresses with_circuit
turned_keeps plan circuit row true edge = refl
turned_keeps plan circuit row false edge = refl

turned_wire_keeps : (wire : WireId) (on : Bool) (edge : EdgeState) → (turned_wire wire on edge).next_label ≡ edge.next_label
unfolding with_renewed with_wire
turned_wire_keeps wire true edge = refl
turned_wire_keeps wire false edge = refl

pub input_rises : (plan : Plan) (told : Answers) → InputSteps plan told WorkRises
unfolding changes gives idles with_addresses with_bits with_learned with_next_ping with_peering with_priority with_ticks without_ends without_peerings with_kept
input_rises plan told = record {
  hear = hear_rises plan told;
  idles = rises_not;
  opens = λ peer own other work none. rises_not work;
  restarts = rises_not;
  meets = λ peer work none. rises_not work;
  counts = rises_not;
  forgets = rises_not;
  turns = λ circuit row on work. keeps (turned plan circuit row on) work (turned_keeps plan circuit row on work.edge);
  turns_wire = λ wire on work. keeps (turned_wire wire on) work (turned_wire_keeps wire on work.edge);
  sets_bits = λ wire bits work. rises_not work;
  sets_priority = λ wire priority work. rises_not work;
  learns = λ service frame arrival work. rises_not work;
  leaves = λ circuit octets work. rises_not work;
  drops = λ cause work. rises_not work;
  sends_packet = λ place came octets work. learns_rise work (sends told place came octets work) (sends_bridges told place came octets work).edge;
  numbers_ping = λ wire work. rises_not work;
  tells_answer = λ wire sequence work. rises_not work;
}

pub mends_rises : (plan : Plan) (told : Answers) (work : Work) → WorkRises work (mends plan told work)
mends_rises plan told work = mends_holds plan told WorkRises (mend_rises plan told) work

-- on every input
pub step_rises : (plan : Plan) (told : Answers) (input : Input) (work : Work) → WorkRises work (edge_step plan told input work)
step_rises plan told input work = step_holds plan told WorkRises (input_rises plan told) input work
