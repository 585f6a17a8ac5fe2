-- An edge that has mended has nothing to mend: its ends tell what they should by now.
use Rattle.std.proofs.Common.{◌≡◌, ◌∙◌, ◌||◌, ◌&&◌, ℕ, Bool, true, false, List, [], ◌∷◌, Option, Some, None, cond, refl, sym, ap, subst, not, is_some, length, nat_eq, option_map, inl, inr}
use Rattle.std.proofs.lemmas.Bool.{cases_Bool, eqb-true, eq-eqb}
use Rattle.std.specs.List.{AllByRecursion}
use Rattle.net_values.proofs.BoolLemmas.{first_holds, second_holds, second_fails, first_fails}
use Rattle.net_base.specs.declared.plan.Plan.{Plan}
use Rattle.net_base.specs.declared.plan.places.EdgeId.{EdgeId}
use Rattle.net_base.specs.declared.plan.places.ServiceId.{ServiceId}
use Rattle.net_base.specs.declared.plan.places.WireId.{WireId}
use Rattle.net_base.specs.declared.plan.wire_plan.WirePlan.{WirePlan}
use Rattle.net_base.specs.declared.trace.down.Down.{Down}
use Rattle.net_base.specs.plan.Paths.{mate, offer_of}
use Rattle.net_base.specs.plan.Places.{wire_row}
use Rattle.label_space.specs.declared.kept.Kept.{Kept}
use Rattle.label_space.specs.Kept.{without}
use Rattle.label_space.specs.Labels.{next_after, number_to_give}
use Rattle.pw_messages.specs.Content.{content_of, mac_withdrawal, mapping, status_notification, withdrawal}
use Rattle.pw_messages.specs.LinkAnswers.{Answers}
use Rattle.mac_table.specs.declared.mac_entry.MacEntry.{MacEntry}
use Rattle.ldp_grammar.specs.declared.message.Message.{Message}
use Rattle.pw_tlvs.specs.declared.pw_status.PwStatus.{PwStatus}
use Rattle.pw_status.specs.Status.{combined, method_by}
use Rattle.pw_signalling.specs.declared.binding.Binding.{Binding}
use Rattle.pw_signalling.specs.declared.end_role.EndRole.{EndRole}
use Rattle.pw_signalling.specs.declared.end_role.EndRole.TheVariants as role
use Rattle.pw_signalling.specs.declared.told.Told.{Told}
use Rattle.pw_signalling.specs.Down.{down}
use Rattle.pw_signalling.specs.End.{EndState, LocalPart, Idle, Advertised, Withdrawing}
use Rattle.pw_signalling.specs.Rows.{advertised, telling, withdrawn, with_status}
use Rattle.spoke_redundancy.specs.Telling.{is_not_chosen}
use Rattle.edge_model.specs.declared.effect.Effect.TheVariants.{Wire}
use Rattle.edge_model.specs.declared.end_place.EndPlace.{EndPlace}
use Rattle.edge_model.specs.EndPlaces.{end_places, is_terminal}
use Rattle.edge_model.specs.Mend.{passed_wish, advertises_under, advertises_wish, advertising, and_says, cause_number, each_end, forgets_down, forgets_downs, forgetting_wire, is_new_choice, is_up_with, mends, mends_again, mends_choice, mends_end, mends_few, mends_local, mends_once, mends_status, mends_status_of, port_of_wire, status_held, status_offered, telling_status, tells_down, tells_downs, tells_over, tells_status, then_changes, wish, wish_of, withdrawing, offer_stands, withdraws, passed_from, terminal_wish}
use Rattle.edge_model.specs.Put.{Spoken, having_spoken, message_octets_of, put_octets, with_spoken, stays}
use Rattle.edge_model.specs.Role.{down_at, is_chosen, role_in, status_to_tell, own_status}
use Rattle.edge_model.specs.Session.{had_said, says, says_to}
use Rattle.edge_model.specs.Settled.{IsForgotten, is_down_told, is_mended, is_status, is_told, tells_now, tells_wish}
use Rattle.edge_model.specs.Spokes.{choosing}
use Rattle.edge_model.specs.State.{EdgeState, Peering, addresses_of, end_at, with_addresses, with_chosen, with_end, with_next_label, with_peering, with_told_down, without_port, with_kept}
use Rattle.edge_model.specs.Withdraw.{tells_piece, tells_piece_by}
use Rattle.edge_model.specs.Work.{Work, changes, gives, next_answer, puts}
use Rattle.edge_model.proofs.BridgeLemmas.{LearnsOnly, forgets_downs_only, forgetting_learns, learns_is}
use Rattle.edge_model.proofs.ChoiceLemmas.{HasChosen, choice_same, choosing_is, choosing_not, telling_down}
use Rattle.edge_model.proofs.MendLemmas.{TakesAll, mends_once_takes, mends_takes, says_nothing, says_taken}
use Rattle.edge_model.proofs.PlaceLemmas.{IsEndOf, places_are}
use Rattle.edge_model.specs.Across.{held_beyond, held_from, held_of, mate_of}
use Rattle.pw_stitch.specs.Change.{is_same_but_status}
use Rattle.pw_stitch.specs.Passing.{passed_status}
use Rattle.pw_stitch.proofs.ChangeLemmas.{same_without_status}
use Rattle.edge_model.specs.Labels.{label_to_give}

-- no label is left to be given
abbrev none_to_give : EdgeState → Bool
none_to_give edge = not (is_some (label_to_give edge))

-- ---- at an end that is settled there is nothing to mend

pub mends_end_not : (plan : Plan) (told : Answers) (place : EndPlace) (work : Work) → is_mended plan work.edge place ≡ true → mends_end plan told place work ≡ stays work
mends_end_not plan told place work = of (end_at work.edge place).local where
  none_left : Bool
  none_left = none_to_give work.edge

  left : (content : Told) (r : Option ℕ) → not (is_some r) ≡ true → advertises_under told place content r work ≡ stays work
  left content None e = refl
  left content (Some label) e = absurd (cc (e))

  idle : (wished : Option Told) → not (is_some wished) || none_left ≡ true → advertises_wish told place wished work ≡ stays work
  idle None e = refl
  idle (Some content) e = left content (label_to_give work.edge) e

  told_it : (label : ℕ) (content : Told) (b : Bool) → b ≡ true → cond b (stays work) (withdraws told place label content work) ≡ stays work
  told_it label content b e = rw e refl

  of : (local : LocalPart) → tells_wish place (wish plan work.edge place) none_left local ≡ true → mends_local plan told place local work ≡ stays work
  of (Idle true) e = refl
  of (Idle false) e = idle (wish plan work.edge place) e
  of (Advertised label content) e = told_it label content (offer_stands place content (wish plan work.edge place)) e
  of (Withdrawing label) e = refl

pub mends_status_not : (plan : Plan) (told : Answers) (place : EndPlace) (work : Work) → is_told plan work.edge place ≡ true → mends_status plan told place work ≡ stays work
mends_status_not plan told place work = of (end_at work.edge place).local where
  status : PwStatus
  status = status_to_tell plan work.edge place

  same : (content : Told) (b : Bool) → b ≡ true → cond b (stays work) (says told place.peer (status_notification place.pw_id status content) (changes (telling_status place status) work)) ≡ stays work
  same content b e = rw e refl

  over : (content : Told) (last : Option PwStatus) → is_status status.0 last ≡ true → tells_over told place content status last work ≡ stays work
  over content None e = refl
  over content (Some last) e = same content (nat_eq last.0 status.0) e

  of : (local : LocalPart) → tells_now status.0 local ≡ true → mends_status_of plan told place local work ≡ stays work
  of (Idle declined) e = refl
  of (Advertised label content) e = over content content.status e
  of (Withdrawing label) e = refl

-- what is chosen is as it was, so no spoke was chosen anew
no_new_choice : (chosen : ℕ → Option WireId) (wire : WireId) (row : Option WirePlan) → is_new_choice chosen chosen wire row ≡ false
no_new_choice chosen wire None = refl
no_new_choice chosen wire (Some row) = by (is_chosen chosen wire row) where
  by : (b : Bool) → b && not b ≡ false
  by true = refl
  by false = refl

mends_choice_not : (plan : Plan) (told : Answers) (place : EndPlace) (work : Work) → mends_choice plan told work.edge.chosen place work ≡ stays work
mends_choice_not plan told place work =
    ap (λ (b : Bool). cond b (tells_piece told place [] work) (stays work)) (no_new_choice work.edge.chosen place.wire (wire_row plan place.wire))

pub tells_down_not : (plan : Plan) (place : EndPlace) (work : Work) → is_down_told plan work.edge place ≡ true → cond place.terminal (tells_down place (down_at plan work.edge place) work) work ≡ work
tells_down_not plan place work = of place.terminal where
  down : Option Down
  down = down_at plan work.edge place

  same : (b : Bool) → b ≡ true → cond b work (gives (Wire place.wire down) (changes (with_told_down place.wire down) work)) ≡ work
  same b e = rw e refl

  of : (terminal : Bool) → not terminal || nat_eq (cause_number (work.edge.told_down place.wire.0)) (cause_number down) ≡ true → cond terminal (tells_down place down work) work ≡ work
  of true e = same (nat_eq (cause_number (work.edge.told_down place.wire.0)) (cause_number down)) e
  of false e = refl

-- addresses that are there already
same_addresses : (service : ServiceId) (entries : List MacEntry) (edge : EdgeState) → entries ≡ addresses_of edge service → with_addresses service entries edge ≡ edge
unfolding with_addresses
same_addresses service entries edge same = λ i. record edge { learned = λ k. each k i } where
  each : (k : ℕ) → cond (nat_eq k service.0) entries (edge.learned k) ≡ edge.learned k
  each k = elim (cases_Bool (nat_eq k service.0)) [
    | inl here ↦ rw here (same ∙ ap edge.learned (sym (eqb-true k service.0 here)))
    | inr away ↦ rw away refl
  ]

-- one end in turn
forgets_one : Plan → EndPlace → Work → Work
forgets_one plan place work = cond place.terminal (forgets_down plan place (down_at plan work.edge place) work) work

forgets_one_not : (plan : Plan) (place : EndPlace) (work : Work) → IsForgotten plan work.edge place → forgets_one plan place work ≡ work
unfolding changes forgets_one
forgets_one_not plan place work gone = of place.terminal refl where
  by_row : place.terminal ≡ true → is_some (down_at plan work.edge place) ≡ true → (row : Option WirePlan) → wire_row plan place.wire ≡ row → forgetting_wire plan place.wire row work.edge ≡ work.edge
  by_row terminal down None is = refl
  by_row terminal down (Some row) is = same_addresses row.service _ work.edge (gone row terminal is down)

  by : place.terminal ≡ true → (down : Option Down) → down_at plan work.edge place ≡ down → forgets_down plan place down work ≡ work
  by terminal None is = refl
  by terminal (Some why) is =
      ap (λ (edge : EdgeState). record work { edge = edge }) (by_row terminal (ap (λ (o : Option Down). is_some o) is) (wire_row plan place.wire) refl)

  of : (b : Bool) → place.terminal ≡ b → cond b (forgets_down plan place (down_at plan work.edge place) work) work ≡ work
  of true terminal = by terminal (down_at plan work.edge place) refl
  of false middle = refl

pub forgets_down_not : (plan : Plan) (place : EndPlace) (work : Work) → IsForgotten plan work.edge place → cond place.terminal (forgets_down plan place (down_at plan work.edge place) work) work ≡ work
unfolding forgets_one
forgets_down_not plan place work gone = forgets_one_not plan place work gone

forgets_downs_not : (plan : Plan) (work : Work) (places : List EndPlace) → AllByRecursion (IsForgotten plan work.edge) places → forgets_downs plan places work ≡ work
unfolding forgets_one
forgets_downs_not plan work [] all = refl
forgets_downs_not plan work (place ∷ places) all = ap (forgets_downs plan places) (forgets_one_not plan place work all.0) ∙ forgets_downs_not plan work places all.1

each_end_not : (mend : EndPlace → Work → Spoken) (work : Work) (places : List EndPlace) → AllByRecursion (λ place. mend place work ≡ stays work) places → each_end mend places (stays work) ≡ stays work
each_end_not mend work [] all = refl
each_end_not mend work (place ∷ places) all =
    ap (λ (s : Spoken). each_end mend places (record { work = s.work; failed = s.failed })) all.0 ∙ each_end_not mend work places all.1

tells_downs_not : (plan : Plan) (work : Work) (places : List EndPlace) → AllByRecursion (λ place. is_down_told plan work.edge place ≡ true) places → tells_downs plan places work ≡ work
tells_downs_not plan work [] all = refl
tells_downs_not plan work (place ∷ places) all = ap (tells_downs plan places) (tells_down_not plan place work all.0) ∙ tells_downs_not plan work places all.1

all_map : (P Q : EndPlace → Type 0) → ((place : EndPlace) → P place → Q place) → (places : List EndPlace) → AllByRecursion P places → AllByRecursion Q places
all_map P Q each [] all = tt
all_map P Q each (place ∷ places) all = (each place all.0, all_map P Q each places all.1)

-- all ends of an edge tell what they should, and it has chosen among its spokes
pub record IsMended (plan : Plan) (edge : EdgeState) : Type 0 where
  pub ends : AllByRecursion (λ place. is_mended plan edge place ≡ true) (end_places plan edge.me)
  pub chosen : HasChosen plan edge
  pub statuses : AllByRecursion (λ place. is_told plan edge place ≡ true) (end_places plan edge.me)
  pub forgotten : AllByRecursion (IsForgotten plan edge) (end_places plan edge.me)
  pub downs : AllByRecursion (λ place. is_down_told plan edge place ≡ true) (end_places plan edge.me)

pub mends_once_not : (plan : Plan) (told : Answers) (work : Work) → IsMended plan work.edge → mends_once plan told work ≡ stays work
mends_once_not plan told work mended =
    let places : List EndPlace = end_places plan work.edge.me in
    let first : each_end (mends_end plan told) places (stays work) ≡ stays work =
    each_end_not (mends_end plan told) work places
    (all_map (λ place. is_mended plan work.edge place ≡ true) (λ place. mends_end plan told place work ≡ stays work) (λ place is. mends_end_not plan told place work is) places mended.ends) in
    let second : each_end (mends_status plan told) places (stays work) ≡ stays work =
    each_end_not (mends_status plan told) work places
    (all_map (λ place. is_told plan work.edge place ≡ true) (λ place. mends_status plan told place work ≡ stays work) (λ place is. mends_status_not plan told place work is) places mended.statuses) in
    let moved : Spoken → Spoken = each_end (mends_choice plan told work.edge.chosen) places in
    let third : moved (stays work) ≡ stays work =
    each_end_not (mends_choice plan told work.edge.chosen) work places
    (all_map (λ place. is_told plan work.edge place ≡ true) (λ place. mends_choice plan told work.edge.chosen place work ≡ stays work)
    (λ place is. mends_choice_not plan told place work) places mended.statuses) in
    ap (λ (s : Spoken). last places s)
    (ap (λ (s : Spoken). moved (each_end (mends_status plan told) places (then_changes (choosing plan) s))) first
    ∙ (ap (λ (w : Work). moved (each_end (mends_status plan told) places (stays w))) (choosing_not plan work mended.chosen) ∙ (ap moved second ∙ third)))
    ∙ ap stays (ap (tells_downs plan places) (forgets_downs_not plan work places mended.forgotten) ∙ tells_downs_not plan work places mended.downs)
  where
    last : List EndPlace → Spoken → Spoken
    last places s = record { work = tells_downs plan places (forgets_downs plan places s.work); failed = s.failed }

-- an edge whose ends tell what they should does nothing when it mends
pub mends_not : (plan : Plan) (told : Answers) (work : Work) → IsMended plan work.edge → mends plan told work ≡ work
mends_not plan told work mended = ap (mends_again (mends_few plan told (length plan.edges))) (mends_once_not plan told work mended)

-- ---- a message that was put, or had no session to be put in, leaves what ends should tell

up_spoken : (kept : Option Peering) → is_up_with (option_map having_spoken kept) ≡ is_up_with kept
up_spoken None = refl
up_spoken (Some kept) = refl

-- of the edge, what is kept for neighbours alone has changed, and no session went up or down
record IsSpoken (old new : EdgeState) : Type 0 where
  me : new.me ≡ old.me
  wires : new.wire_on ≡ old.wire_on
  bits : new.bits ≡ old.bits
  priorities : new.priority ≡ old.priority
  ends : new.ends ≡ old.ends
  chosen : new.chosen ≡ old.chosen
  labels : new.next_label ≡ old.next_label
  kept : new.kept ≡ old.kept
  ups : (k : ℕ) → is_up_with (new.peering k) ≡ is_up_with (old.peering k)

spoken_not : (edge : EdgeState) → IsSpoken edge edge
spoken_not edge = record { me = refl; wires = refl; bits = refl; priorities = refl; ends = refl; chosen = refl; labels = refl; kept = refl; ups = λ k. refl }

-- no label is left where none was
spoken_labels : (old new : EdgeState) → IsSpoken old new → none_to_give old ≡ true → none_to_give new ≡ true
spoken_labels old new spoken none =
    ap (λ (n : ℕ). not (is_some (number_to_give n new.kept))) spoken.labels ∙ (ap (λ (ks : List Kept). not (is_some (number_to_give old.next_label ks))) spoken.kept ∙ none)

put_spoken : (peer : EdgeId) (bytes : List ℕ) (work : Work) → IsSpoken work.edge (put_octets peer bytes true work).work.edge
unfolding changes gives puts with_peering with_spoken
put_spoken peer bytes work = record { me = refl; wires = refl; bits = refl; priorities = refl; ends = refl; chosen = refl; labels = refl; kept = refl; ups = λ k. up k } where
  up : (k : ℕ) → is_up_with (cond (nat_eq k peer.0) (option_map having_spoken (work.edge.peering peer.0)) (work.edge.peering k)) ≡ is_up_with (work.edge.peering k)
  up k = elim (cases_Bool (nat_eq k peer.0)) [
    | inl here ↦ rw here (up_spoken (work.edge.peering peer.0) ∙ ap (λ (n : ℕ). is_up_with (work.edge.peering n)) (sym (eqb-true k peer.0 here)))
    | inr away ↦ rw away refl
  ]

spoken_then : (a b c : EdgeState) → IsSpoken a b → IsSpoken b c → IsSpoken a c
spoken_then a b c first next = record {
  me = next.me ∙ first.me;
  wires = next.wires ∙ first.wires;
  bits = next.bits ∙ first.bits;
  priorities = next.priorities ∙ first.priorities;
  ends = next.ends ∙ first.ends;
  chosen = next.chosen ∙ first.chosen;
  labels = next.labels ∙ first.labels;
  kept = next.kept ∙ first.kept;
  ups = λ k. next.ups k ∙ first.ups k;
}

says_spoken : (told : Answers) (peer : EdgeId) (message : ℕ → Message) (work : Work) → (says told peer message work).failed ≡ false → IsSpoken work.edge (says told peer message work).work.edge
unfolding puts
says_spoken told peer message work none = by (work.edge.peering peer.0) refl where
  by : (kept : Option Peering) → work.edge.peering peer.0 ≡ kept → IsSpoken work.edge (says told peer message work).work.edge
  by None is = subst (λ (s : Spoken). IsSpoken work.edge s.work.edge) (sym (says_nothing told peer message work is)) (spoken_not work.edge)
  by (Some kept) is = taken (next_answer told work) refl where
    bytes : List ℕ
    bytes = message_octets_of kept message

    taken : (b : Bool) → next_answer told work ≡ b → IsSpoken work.edge (says told peer message work).work.edge
    taken true takes = subst (λ (s : Spoken). IsSpoken work.edge s.work.edge) (sym (says_taken told peer message kept work takes is)) (put_spoken peer bytes work)
    taken false takes =
        let refused : (says told peer message work).failed ≡ true =
        ap (λ (o : Option Peering). (says_to told peer message o work).failed) is ∙ ap (λ (b : Bool). (had_said peer (put_octets peer bytes b work)).failed) takes in
        let wrong : true ≡ false = sym refused ∙ none in
        absurd (cc (wrong))

-- what ends should tell is as before
record IsSteady (old new : EdgeState) : Type 0 where
  me : new.me ≡ old.me
  wires : new.wire_on ≡ old.wire_on
  bits : new.bits ≡ old.bits
  priorities : new.priority ≡ old.priority
  chosen : new.chosen ≡ old.chosen
  remotes : (wire k : ℕ) → (new.ends wire k).remote ≡ (old.ends wire k).remote
  ups : (k : ℕ) → is_up_with (new.peering k) ≡ is_up_with (old.peering k)

steady_not : (edge : EdgeState) → IsSteady edge edge
steady_not edge = record { me = refl; wires = refl; bits = refl; priorities = refl; chosen = refl; remotes = λ wire k. refl; ups = λ k. refl }

steady_then : (a b c : EdgeState) → IsSteady a b → IsSteady b c → IsSteady a c
steady_then a b c first next = record {
  me = next.me ∙ first.me;
  wires = next.wires ∙ first.wires;
  bits = next.bits ∙ first.bits;
  priorities = next.priorities ∙ first.priorities;
  chosen = next.chosen ∙ first.chosen;
  remotes = λ wire k. next.remotes wire k ∙ first.remotes wire k;
  ups = λ k. next.ups k ∙ first.ups k;
}

held_steady : (a b : EdgeState) (wire : WireId) → IsSteady a b → held_of b wire ≡ held_of a wire
held_steady a b wire steady = λ i k. steady.remotes wire.0 k i

status_steady : (plan : Plan) (a b : EdgeState) (place : EndPlace) → IsSteady a b → status_to_tell plan b place ≡ status_to_tell plan a place
status_steady plan a b place steady = by place.terminal where
  row : Option WirePlan
  row = wire_row plan place.wire

  own : own_status plan b place ≡ own_status plan a place
  own =
      ap (λ (bits : ℕ → ℕ). combined (bits place.wire.0) (is_not_chosen (role_in row b.me b.chosen place.wire))) steady.bits
      ∙ (ap (λ (me : EdgeId). combined (a.bits place.wire.0) (is_not_chosen (role_in row me b.chosen place.wire))) steady.me
      ∙ ap (λ (chosen : ℕ → Option WireId). combined (a.bits place.wire.0) (is_not_chosen (role_in row a.me chosen place.wire))) steady.chosen)

  beyond : held_beyond plan b place ≡ held_beyond plan a place
  beyond =
      ap (λ (held : ℕ → Option Binding). held_from held (mate_of b.me place row)) (held_steady a b place.wire steady)
      ∙ ap (λ (me : EdgeId). held_from (held_of a place.wire) (mate_of me place row)) steady.me

  by : (terminal : Bool) → cond terminal (own_status plan b place) (passed_status (held_beyond plan b place)) ≡ cond terminal (own_status plan a place) (passed_status (held_beyond plan a place))
  by true = own
  by false = ap passed_status beyond

wish_steady : (plan : Plan) (a b : EdgeState) (place : EndPlace) → IsSteady a b → wish plan b place ≡ wish plan a place
wish_steady plan a b place steady = of (wire_row plan place.wire) where
  w : ℕ
  w = place.wire.0

  -- what is wished, of these parts of an edge
  wished : WirePlan → (me : EdgeId) (on up : Bool) (bits : ℕ) (held : ℕ → Option Binding) (status : PwStatus) → Option Told
  wished row me on up bits held status =
      cond (on && up)
      (cond place.terminal
      (cond (tells_status (method_by (offer_of row me.0).status (status_held (held place.peer.0))) || nat_eq bits 0)
      (Some (content_of (offer_of row me.0) (cond (offer_of row me.0).status (Some status) None)))
      None)
      (passed_from plan row me held (mate row me.0 place.peer.0)))
      None

  of : (row : Option WirePlan) → wish_of plan b place row ≡ wish_of plan a place row
  of None = refl
  of (Some row) =
      ap (λ (me : EdgeId). wished row me (b.wire_on w) (is_up_with (b.peering place.peer.0)) (b.bits w) (held_of b place.wire) (status_to_tell plan b place)) steady.me
      ∙ (ap (λ (on : ℕ → Bool). wished row a.me (on w) (is_up_with (b.peering place.peer.0)) (b.bits w) (held_of b place.wire) (status_to_tell plan b place)) steady.wires
      ∙ (ap (λ (up : Bool). wished row a.me (a.wire_on w) up (b.bits w) (held_of b place.wire) (status_to_tell plan b place)) (steady.ups place.peer.0)
      ∙ (ap (λ (bits : ℕ → ℕ). wished row a.me (a.wire_on w) (is_up_with (a.peering place.peer.0)) (bits w) (held_of b place.wire) (status_to_tell plan b place)) steady.bits
      ∙ (ap (λ (held : ℕ → Option Binding). wished row a.me (a.wire_on w) (is_up_with (a.peering place.peer.0)) (a.bits w) held (status_to_tell plan b place)) (held_steady a b place.wire steady)
      ∙ ap (λ (status : PwStatus). wished row a.me (a.wire_on w) (is_up_with (a.peering place.peer.0)) (a.bits w) (held_of a place.wire) status) (status_steady plan a b place steady)))))

-- ---- one end has another state

pub end_put : (place : EndPlace) (end : EndState) (edge : EdgeState) → end_at (with_end place end edge) place ≡ end
unfolding with_end with_kept
end_put place end edge = rw (eq-eqb place.wire.0 place.wire.0 refl, eq-eqb place.peer.0 place.peer.0 refl) refl

-- an end stands at the place of another one
abbrev is_at : EndPlace → ℕ → ℕ → Bool
is_at place wire k = nat_eq wire place.wire.0 && nat_eq k place.peer.0

end_else : (place : EndPlace) (end : EndState) (edge : EdgeState) (wire k : ℕ) → is_at place wire k ≡ false → (with_end place end edge).ends wire k ≡ edge.ends wire k
unfolding with_end with_kept
end_else place end edge wire k apart = elim (cases_Bool (nat_eq wire place.wire.0)) [
  | inl here ↦
      (let away : nat_eq k place.peer.0 ≡ false = ap (λ (b : Bool). b && nat_eq k place.peer.0) (sym here) ∙ apart in
      rw (here, away) (ap (λ (w : ℕ). edge.ends w k) (sym (eqb-true wire place.wire.0 here))))
  | inr away ↦ rw away refl
]

remote_put : (place : EndPlace) (end : EndState) (edge : EdgeState) → end.remote ≡ (end_at edge place).remote → (wire k : ℕ) → ((with_end place end edge).ends wire k).remote
    ≡ (edge.ends wire k).remote
remote_put place end edge same wire k = elim (cases_Bool (is_at place wire k)) [
  | inl here ↦
      (let w : wire ≡ place.wire.0 = eqb-true wire place.wire.0 (first_holds (nat_eq wire place.wire.0) (nat_eq k place.peer.0) here) in
      let p : k ≡ place.peer.0 = eqb-true k place.peer.0 (second_holds (nat_eq wire place.wire.0) (nat_eq k place.peer.0) here) in
      both w p (ap (λ (e : EndState). e.remote) (end_put place end edge) ∙ same))
  | inr apart ↦ ap (λ (e : EndState). e.remote) (end_else place end edge wire k apart)
]
  where
    both : wire ≡ place.wire.0 → k ≡ place.peer.0 → (end_at (with_end place end edge) place).remote ≡ (end_at edge place).remote → ((with_end place end edge).ends wire k).remote
        ≡ (edge.ends wire k).remote
    both w p e =
        ap (λ (n : ℕ). ((with_end place end edge).ends n k).remote) w ∙ (ap (λ (n : ℕ). ((with_end place end edge).ends place.wire.0 n).remote) p
        ∙ (e ∙ (ap (λ (n : ℕ). (edge.ends place.wire.0 n).remote) (sym p) ∙ ap (λ (n : ℕ). (edge.ends n k).remote) (sym w))))

-- an end was advertised, withdrawn, has told a status, or was left: every other end is as it was
record EndStep (place : EndPlace) (old new : EdgeState) : Type 0 where
  steady : IsSteady old new
  others : (wire k : ℕ) → is_at place wire k ≡ false → new.ends wire k ≡ old.ends wire k
  labels : none_to_give old ≡ true → none_to_give new ≡ true

step_not : (place : EndPlace) (edge : EdgeState) → EndStep place edge edge
step_not place edge = record { steady = steady_not edge; others = λ wire k apart. refl; labels = λ none. none }

changed_step : (place : EndPlace) (end : EndState) (label : ℕ) (kept : List Kept) (old new : EdgeState) → end.remote ≡ (end_at old place).remote
    → (none_to_give old ≡ true → not (is_some (number_to_give label kept)) ≡ true) → IsSpoken (with_next_label label (with_kept kept (with_end place end old))) new → EndStep place old new
unfolding with_end with_next_label with_kept
changed_step place end label kept old new remote left spoken = record {
  steady = record {
    me = spoken.me;
    wires = spoken.wires;
    bits = spoken.bits;
    priorities = spoken.priorities;
    chosen = spoken.chosen;
    remotes = λ wire k. ap (λ (ends : ℕ → ℕ → EndState). (ends wire k).remote) spoken.ends ∙ remote_put place end old remote wire k;
    ups = spoken.ups;
  };
  others = λ wire k apart. ap (λ (ends : ℕ → ℕ → EndState). ends wire k) spoken.ends ∙ end_else place end old wire k apart;
  labels = λ none. ap (λ (n : ℕ). not (is_some (number_to_give n new.kept))) spoken.labels ∙ (ap (λ (ks : List Kept). not (is_some (number_to_give label ks))) spoken.kept ∙ left none);
}

changed_end : (place : EndPlace) (end : EndState) (label : ℕ) (kept : List Kept) (old new : EdgeState) → IsSpoken (with_next_label label (with_kept kept (with_end place end old))) new
    → end_at new place ≡ end
unfolding with_end with_next_label with_kept
changed_end place end label kept old new spoken = ap (λ (ends : ℕ → ℕ → EndState). ends place.wire.0 place.peer.0) spoken.ends ∙ end_put place end old

-- ---- an end is advertised, withdrawn or left

record EndMends (plan : Plan) (place : EndPlace) (old new : EdgeState) : Type 0 where
  step : EndStep place old new
  mended : is_mended plan new place ≡ true

-- an end is mended by what it should tell, whether a label is left, and what it tells
mended_by : (plan : Plan) (edge : EdgeState) (place : EndPlace) (wished : Option Told) (none_left : Bool) (local : LocalPart) → wish plan edge place ≡ wished → none_to_give edge ≡ none_left
    → (end_at edge place).local ≡ local → is_mended plan edge place ≡ tells_wish place wished none_left local
mended_by plan edge place wished none_left local w n l =
    ap (λ (o : Option Told). tells_wish place o (none_to_give edge) (end_at edge place).local) w
    ∙ (ap (λ (b : Bool). tells_wish place wished b (end_at edge place).local) n ∙ ap (tells_wish place wished none_left) l)

-- what an end should tell still stands where it has told just that
stands_itself : (place : EndPlace) (content : Told) → offer_stands place content (Some content) ≡ true
stands_itself place content = by place.terminal where
  by : (terminal : Bool) → terminal || is_same_but_status content content ≡ true
  by true = refl
  by false = (same_without_status content content).1 refl

-- whether it still stands does not go by the status that was told
stands_alike : (place : EndPlace) (content : Told) (status : PwStatus) (wished : Option Told) → offer_stands place (with_status status content) wished ≡ offer_stands place content wished
stands_alike place content status None = refl
stands_alike place content status (Some wished) = refl

end_mends : (plan : Plan) (told : Answers) (place : EndPlace) (work : Work) → (mends_end plan told place work).failed ≡ false → EndMends plan place work.edge (mends_end plan told place work).work.edge
unfolding changes with_end with_next_label with_kept
end_mends plan told place work = of (end_at work.edge place).local refl where
  a : EdgeState
  a = work.edge

  stayed : is_mended plan a place ≡ true → EndMends plan place a a
  stayed mended = record { step = step_not place a; mended = mended }

  advertises_it : (label : ℕ) (content : Told) → (end_at a place).local ≡ Idle false → wish plan a place ≡ Some content → label_to_give a ≡ Some label
      → (said : Spoken) → IsSpoken (advertising place label content a) said.work.edge → EndMends plan place a said.work.edge
  advertises_it label content is wished given said spoken =
      let end : EndState = advertised label content (end_at a place) in
      let step : EndStep place a said.work.edge =
      changed_step place end (next_after a.next_label) (without label a.kept) a said.work.edge refl
      (λ none. absurd (wrong none)) spoken in
      record {
        step = step;
        mended = mended_by plan said.work.edge place (Some content) (none_to_give said.work.edge) (Advertised label content)
            (wish_steady plan a said.work.edge place step.steady ∙ wished) refl
            (ap (λ (e : EndState). e.local) (changed_end place end (next_after a.next_label) (without label a.kept) a said.work.edge spoken)
            ∙ ap (λ (l : LocalPart). (advertised label content (record { local = l; remote = (end_at a place).remote })).local) is)
            ∙ stands_itself place content;
      }
    where
      wrong : none_to_give a ≡ true → ⊥
      wrong none =
          let clash : true ≡ false = sym none ∙ ap (λ (r : Option ℕ). not (is_some r)) given in
          cc

  idle : (end_at a place).local ≡ Idle false → (wished : Option Told) → wish plan a place ≡ wished → (advertises_wish told place wished work).failed ≡ false
      → EndMends plan place a (advertises_wish told place wished work).work.edge
  idle is None wished none = stayed (mended_by plan a place None (none_to_give a) (Idle false) wished refl is)
  idle is (Some content) wished none = by (label_to_give a) refl none where
    by : (r : Option ℕ) → label_to_give a ≡ r → (advertises_under told place content r work).failed ≡ false → EndMends plan place a (advertises_under told place content r work).work.edge
    by None left none = stayed (mended_by plan a place (Some content) true (Idle false) wished (ap (λ (r : Option ℕ). not (is_some r)) left) is)
    by (Some label) given none =
        advertises_it label content is wished given (says told place.peer (mapping place.pw_id label content) (changes (advertising place label content) work))
        (says_spoken told place.peer (mapping place.pw_id label content) (changes (advertising place label content) work) none)

  told_it : (label : ℕ) (content : Told) → (end_at a place).local ≡ Advertised label content → (b : Bool) → offer_stands place content (wish plan a place) ≡ b
      → (cond b (stays work) (withdraws told place label content work)).failed ≡ false → EndMends plan place a (cond b (stays work) (withdraws told place label content work)).work.edge
  told_it label content is false changed none = after (says told place.peer message begun) (says_spoken told place.peer message begun none) where
    begun : Work
    begun = changes (withdrawing place) work

    message : ℕ → Message
    message = withdrawal place.pw_id label content

    after : (said : Spoken) → IsSpoken (withdrawing place a) said.work.edge → EndMends plan place a said.work.edge
    after said spoken =
        let end : EndState = withdrawn (end_at a place) in
        record {
          step = changed_step place end a.next_label a.kept a said.work.edge refl (λ left. left) spoken;
          mended = mended_by plan said.work.edge place (wish plan said.work.edge place) (none_to_give said.work.edge) (Withdrawing label) refl refl
              (ap (λ (e : EndState). e.local) (changed_end place end a.next_label a.kept a said.work.edge spoken)
              ∙ ap (λ (l : LocalPart). (withdrawn (record { local = l; remote = (end_at a place).remote })).local) is);
        }
  told_it label content is true still none =
      stayed (mended_by plan a place (wish plan a place) (none_to_give a) (Advertised label content) refl refl is ∙ still)

  of : (local : LocalPart) → (end_at a place).local ≡ local → (mends_local plan told place local work).failed ≡ false → EndMends plan place a (mends_local plan told place local work).work.edge
  of (Idle true) is none = stayed (mended_by plan a place (wish plan a place) (none_to_give a) (Idle true) refl refl is)
  of (Idle false) is none = idle is (wish plan a place) refl none
  of (Advertised label content) is none = told_it label content is (offer_stands place content (wish plan a place)) refl none
  of (Withdrawing label) is none = stayed (mended_by plan a place (wish plan a place) (none_to_give a) (Withdrawing label) refl refl is)

-- ---- a status is told

record EndTells (plan : Plan) (place : EndPlace) (old new : EdgeState) : Type 0 where
  step : EndStep place old new
  -- it advertises as before
  same : (at : EndPlace) (wished : Option Told) (none_left : Bool) → tells_wish at wished none_left (end_at new place).local ≡ tells_wish at wished none_left (end_at old place).local
  -- and forwards as before in each role
  downs : (role : EndRole) (bits : ℕ) → down role bits (end_at new place) ≡ down role bits (end_at old place)
  told : is_told plan new place ≡ true

end_tells : (plan : Plan) (told : Answers) (place : EndPlace) (work : Work) → (mends_status plan told place work).failed ≡ false
    → EndTells plan place work.edge (mends_status plan told place work).work.edge
unfolding changes with_end with_next_label with_kept
end_tells plan told place work = of (end_at work.edge place).local refl where
  a : EdgeState
  a = work.edge

  status : PwStatus
  status = status_to_tell plan a place

  stayed : is_told plan a place ≡ true → EndTells plan place a a
  stayed now = record { step = step_not place a; same = λ at wished none_left. refl; downs = λ role bits. refl; told = now }

  after : (label : ℕ) (content : Told) → (end_at a place).local ≡ Advertised label content → (said : Spoken) → IsSpoken (telling_status place status a) said.work.edge
      → EndTells plan place a said.work.edge
  after label content is said spoken =
      let end : EndState = telling status (end_at a place) in
      let step : EndStep place a said.work.edge = changed_step place end a.next_label a.kept a said.work.edge refl (λ left. left) spoken in
      let there : (end_at said.work.edge place).local ≡ (telling status (record { local = Advertised label content; remote = (end_at a place).remote })).local =
      ap (λ (e : EndState). e.local) (changed_end place end a.next_label a.kept a said.work.edge spoken)
      ∙ ap (λ (l : LocalPart). (telling status (record { local = l; remote = (end_at a place).remote })).local) is in
      record {
        step = step;
        same = λ at wished none_left. ap (tells_wish at wished none_left) there ∙ (stands_alike at content status wished ∙ ap (tells_wish at wished none_left) (sym is));
        downs = λ role bits. ap (down role bits) (changed_end place end a.next_label a.kept a said.work.edge spoken) ∙ telling_down role bits status (end_at a place);
        told = ap (λ (l : LocalPart). tells_now (status_to_tell plan said.work.edge place).0 l) there
            ∙ (ap (λ (s : PwStatus). nat_eq status.0 s.0) (status_steady plan a said.work.edge place step.steady) ∙ eq-eqb status.0 status.0 refl);
      }

  over : (label : ℕ) (content : Told) → (end_at a place).local ≡ Advertised label content → (last : Option PwStatus) → content.status ≡ last
      → (tells_over told place content status last work).failed ≡ false
      → EndTells plan place a (tells_over told place content status last work).work.edge
  over label content is None carried none = stayed (ap (tells_now status.0) is ∙ ap (is_status status.0) carried)
  over label content is (Some last) carried none = by (nat_eq last.0 status.0) refl none where
    begun : Work
    begun = changes (telling_status place status) work

    message : ℕ → Message
    message = status_notification place.pw_id status content

    by : (b : Bool) → nat_eq last.0 status.0 ≡ b → (cond b (stays work) (says told place.peer message begun)).failed ≡ false
        → EndTells plan place a (cond b (stays work) (says told place.peer message begun)).work.edge
    by true now none = stayed (ap (tells_now status.0) is ∙ (ap (is_status status.0) carried ∙ now))
    by false now none = after label content is (says told place.peer message begun) (says_spoken told place.peer message begun none)

  of : (local : LocalPart) → (end_at a place).local ≡ local → (mends_status_of plan told place local work).failed ≡ false → EndTells plan place a (mends_status_of plan told place local work).work.edge
  of (Idle declined) is none = stayed (ap (tells_now status.0) is)
  of (Advertised label content) is none = over label content is content.status refl none
  of (Withdrawing label) is none = stayed (ap (tells_now status.0) is)

-- ---- what was mended stays so

-- a place like any other one at the same wire, peer and side of the wire
abbrev like : ℕ → ℕ → Bool → EndPlace
like wire k terminal = record { wire = record { 0 = wire }; peer = record { 0 = k }; pw_id = 0; segment = 0; side = 0; terminal = terminal }

mended_like : (plan : Plan) (edge : EdgeState) (p q : EndPlace) → p.wire.0 ≡ q.wire.0 → p.peer.0 ≡ q.peer.0 → p.terminal ≡ q.terminal → is_mended plan edge p ≡ is_mended plan edge q
mended_like plan edge p q w k t =
    ap (λ (n : ℕ). is_mended plan edge (like n p.peer.0 p.terminal)) w
    ∙ (ap (λ (n : ℕ). is_mended plan edge (like q.wire.0 n p.terminal)) k ∙ ap (λ (b : Bool). is_mended plan edge (like q.wire.0 q.peer.0 b)) t)

told_like : (plan : Plan) (edge : EdgeState) (p q : EndPlace) → p.wire.0 ≡ q.wire.0 → p.peer.0 ≡ q.peer.0 → p.terminal ≡ q.terminal → is_told plan edge p ≡ is_told plan edge q
told_like plan edge p q w k t =
    ap (λ (n : ℕ). is_told plan edge (like n p.peer.0 p.terminal)) w
    ∙ (ap (λ (n : ℕ). is_told plan edge (like q.wire.0 n p.terminal)) k ∙ ap (λ (b : Bool). is_told plan edge (like q.wire.0 q.peer.0 b)) t)

-- fewer labels are left
pub fewer : (place : EndPlace) (wished : Option Told) (none_left then_none : Bool) (local : LocalPart) → (none_left ≡ true → then_none ≡ true) → tells_wish place wished none_left local ≡ true
    → tells_wish place wished then_none local ≡ true
fewer place wished none_left then_none (Idle true) left is = refl
fewer place None none_left then_none (Idle false) left is = refl
fewer place (Some content) none_left then_none (Idle false) left is = left is
fewer place wished none_left then_none (Advertised label content) left is = is
fewer place wished none_left then_none (Withdrawing label) left is = refl

-- where the end tells as before, it stays mended
mended_still : (plan : Plan) (place : EndPlace) (old new : EdgeState) → IsSteady old new → (none_to_give old ≡ true → none_to_give new ≡ true)
    → ((wished : Option Told) (none_left : Bool) → tells_wish place wished none_left (end_at new place).local ≡ tells_wish place wished none_left (end_at old place).local)
    → is_mended plan old place ≡ true → is_mended plan new place ≡ true
mended_still plan place old new steady left same is =
    ap (λ (o : Option Told). tells_wish place o (none_to_give new) (end_at new place).local) (wish_steady plan old new place steady)
    ∙ (same (wish plan old place) (none_to_give new)
    ∙ fewer place (wish plan old place) (none_to_give old) (none_to_give new) (end_at old place).local left is)

mends_keeps : (plan : Plan) (p q : EndPlace) (old new : EdgeState) → EndMends plan q old new → (p.wire.0 ≡ q.wire.0 → p.terminal ≡ q.terminal) → is_mended plan old p ≡ true
    → is_mended plan new p ≡ true
mends_keeps plan p q old new mends side is = elim (cases_Bool (is_at q p.wire.0 p.peer.0)) [
  | inl here ↦
      (let w : p.wire.0 ≡ q.wire.0 = eqb-true p.wire.0 q.wire.0 (first_holds (nat_eq p.wire.0 q.wire.0) (nat_eq p.peer.0 q.peer.0) here) in
      let k : p.peer.0 ≡ q.peer.0 = eqb-true p.peer.0 q.peer.0 (second_holds (nat_eq p.wire.0 q.wire.0) (nat_eq p.peer.0 q.peer.0) here) in
      mended_like plan new p q w k (side w) ∙ mends.mended)
  | inr apart ↦
      mended_still plan p old new mends.step.steady mends.step.labels
      (λ wished none_left. ap (λ (e : EndState). tells_wish p wished none_left e.local) (mends.step.others p.wire.0 p.peer.0 apart)) is
]

tells_keeps_mended : (plan : Plan) (p q : EndPlace) (old new : EdgeState) → EndTells plan q old new → is_mended plan old p ≡ true → is_mended plan new p ≡ true
tells_keeps_mended plan p q old new tells is = mended_still plan p old new tells.step.steady tells.step.labels (λ wished none_left. same wished none_left) is where
  end_like : (edge : EdgeState) → p.wire.0 ≡ q.wire.0 → p.peer.0 ≡ q.peer.0 → end_at edge p ≡ end_at edge q
  end_like edge w k = ap (λ (n : ℕ). edge.ends n p.peer.0) w ∙ ap (edge.ends q.wire.0) k

  same : (wished : Option Told) (none_left : Bool) → tells_wish p wished none_left (end_at new p).local ≡ tells_wish p wished none_left (end_at old p).local
  same wished none_left = elim (cases_Bool (is_at q p.wire.0 p.peer.0)) [
    | inl here ↦
        (let w : p.wire.0 ≡ q.wire.0 = eqb-true p.wire.0 q.wire.0 (first_holds (nat_eq p.wire.0 q.wire.0) (nat_eq p.peer.0 q.peer.0) here) in
        let k : p.peer.0 ≡ q.peer.0 = eqb-true p.peer.0 q.peer.0 (second_holds (nat_eq p.wire.0 q.wire.0) (nat_eq p.peer.0 q.peer.0) here) in
        ap (λ (e : EndState). tells_wish p wished none_left e.local) (end_like new w k)
        ∙ (tells.same p wished none_left ∙ ap (λ (e : EndState). tells_wish p wished none_left e.local) (sym (end_like old w k))))
    | inr apart ↦ ap (λ (e : EndState). tells_wish p wished none_left e.local) (tells.step.others p.wire.0 p.peer.0 apart)
  ]

tells_keeps_told : (plan : Plan) (p q : EndPlace) (old new : EdgeState) → EndTells plan q old new → (p.wire.0 ≡ q.wire.0 → p.terminal ≡ q.terminal) → is_told plan old p ≡ true
    → is_told plan new p ≡ true
tells_keeps_told plan p q old new tells side is = elim (cases_Bool (is_at q p.wire.0 p.peer.0)) [
  | inl here ↦
      (let w : p.wire.0 ≡ q.wire.0 = eqb-true p.wire.0 q.wire.0 (first_holds (nat_eq p.wire.0 q.wire.0) (nat_eq p.peer.0 q.peer.0) here) in
      let k : p.peer.0 ≡ q.peer.0 = eqb-true p.peer.0 q.peer.0 (second_holds (nat_eq p.wire.0 q.wire.0) (nat_eq p.peer.0 q.peer.0) here) in
      told_like plan new p q w k (side w) ∙ tells.told)
  | inr apart ↦
      ap (λ (s : PwStatus). tells_now s.0 (end_at new p).local) (status_steady plan old new p tells.step.steady)
      ∙ (ap (λ (e : EndState). tells_now (status_to_tell plan old p).0 e.local) (tells.step.others p.wire.0 p.peer.0 apart) ∙ is)
]

-- a status that was told is no cause for any end not to forward
tells_keeps_downs : (plan : Plan) (q : EndPlace) (old new : EdgeState) → EndTells plan q old new → (wire k : ℕ) (role : EndRole) (bits : ℕ) → down role bits (new.ends wire k)
    ≡ down role bits (old.ends wire k)
tells_keeps_downs plan q old new tells wire k role bits = elim (cases_Bool (is_at q wire k)) [
  | inl here ↦
      (let w : wire ≡ q.wire.0 = eqb-true wire q.wire.0 (first_holds (nat_eq wire q.wire.0) (nat_eq k q.peer.0) here) in
      let p : k ≡ q.peer.0 = eqb-true k q.peer.0 (second_holds (nat_eq wire q.wire.0) (nat_eq k q.peer.0) here) in
      ap (down role bits) (end_like new w p) ∙ (tells.downs role bits ∙ ap (down role bits) (sym (end_like old w p))))
  | inr apart ↦ ap (down role bits) (tells.step.others wire k apart)
] where
  end_like : (edge : EdgeState) → wire ≡ q.wire.0 → k ≡ q.peer.0 → edge.ends wire k ≡ end_at edge q
  end_like edge w p = ap (λ (n : ℕ). edge.ends n k) w ∙ ap (edge.ends q.wire.0) p

-- ---- each end in turn

-- One step of mending at each of these places: what holds throughout goes on, and at its own place the step makes something so that
-- no other step undoes.
record IsPass (mend : EndPlace → Work → Spoken) (places : EndPlace → Type 0) (throughout : EdgeState → Type 0) (so : EndPlace → EdgeState → Type 0) : Type 0 where
  goes_on : (q : EndPlace) (work : Work) → places q → (mend q work).failed ≡ false → throughout work.edge → throughout (mend q work).work.edge
  makes : (q : EndPlace) (work : Work) → places q → (mend q work).failed ≡ false → throughout work.edge → so q (mend q work).work.edge
  keeps : (p q : EndPlace) (work : Work) → places p → places q → (mend q work).failed ≡ false → throughout work.edge → so p work.edge → so p (mend q work).work.edge

record Passed (places : EndPlace → Type 0) (throughout : EdgeState → Type 0) (so : EndPlace → EdgeState → Type 0) (done : List EndPlace) (old new : EdgeState) : Type 0 where
  still : throughout new
  made : AllByRecursion (λ p. so p new) done
  kept : (p : EndPlace) → places p → so p old → so p new

fails_not_before : (mend : EndPlace → Work → Spoken) (places : List EndPlace) (m : Spoken) → (each_end mend places m).failed ≡ false → m.failed ≡ false
fails_not_before mend [] m none = none
fails_not_before mend (q ∷ rest) m none = first_fails m.failed (mend q m.work).failed (fails_not_before mend rest (and_says m (mend q)) none)

-- of each end, what it tells is as before where no session ended as it told that addresses have moved
choice_spoken : (plan : Plan) (told : Answers) (before : ℕ → Option WireId) (place : EndPlace) (work : Work) → (mends_choice plan told before place work).failed ≡ false
    → IsSpoken work.edge (mends_choice plan told before place work).work.edge
choice_spoken plan told before place work = by (is_new_choice before work.edge.chosen place.wire (wire_row plan place.wire)) where
  piece : (local : LocalPart) → (tells_piece_by told place [] local work).failed ≡ false → IsSpoken work.edge (tells_piece_by told place [] local work).work.edge
  piece (Idle declined) none = spoken_not work.edge
  piece (Advertised label content) none = says_spoken told place.peer (mac_withdrawal place.pw_id [] content) work none
  piece (Withdrawing label) none = spoken_not work.edge

  by : (b : Bool) → (cond b (tells_piece told place [] work) (stays work)).failed ≡ false → IsSpoken work.edge (cond b (tells_piece told place [] work) (stays work)).work.edge
  by true none = piece (end_at work.edge place).local none
  by false none = spoken_not work.edge

choices_spoken : (plan : Plan) (told : Answers) (before : ℕ → Option WireId) (places : List EndPlace) (m : Spoken) → (each_end (mends_choice plan told before) places m).failed ≡ false
    → IsSpoken m.work.edge (each_end (mends_choice plan told before) places m).work.edge
choices_spoken plan told before [] m none = spoken_not m.work.edge
choices_spoken plan told before (q ∷ rest) m none =
    let mend : EndPlace → Work → Spoken = mends_choice plan told before in
    let next : Spoken = and_says m (mend q) in
    let taken : (mend q m.work).failed ≡ false = second_fails m.failed (mend q m.work).failed (fails_not_before mend rest next none) in
    spoken_then m.work.edge next.work.edge (each_end mend rest next).work.edge (choice_spoken plan told before q m.work taken) (choices_spoken plan told before rest next none)

-- then what ends should tell, and what they told, is as before
spoken_steady : (old new : EdgeState) → IsSpoken old new → IsSteady old new
spoken_steady old new spoken = record {
  me = spoken.me;
  wires = spoken.wires;
  bits = spoken.bits;
  priorities = spoken.priorities;
  chosen = spoken.chosen;
  remotes = λ wire k. ap (λ (ends : ℕ → ℕ → EndState). (ends wire k).remote) spoken.ends;
  ups = spoken.ups;
}

spoken_mended : (plan : Plan) (p : EndPlace) (old new : EdgeState) → IsSpoken old new → is_mended plan old p ≡ true → is_mended plan new p ≡ true
spoken_mended plan p old new spoken is =
    mended_still plan p old new (spoken_steady old new spoken) (spoken_labels old new spoken)
    (λ wished none_left. ap (λ (ends : ℕ → ℕ → EndState). tells_wish p wished none_left (ends p.wire.0 p.peer.0).local) spoken.ends) is

spoken_told : (plan : Plan) (p : EndPlace) (old new : EdgeState) → IsSpoken old new → is_told plan old p ≡ true → is_told plan new p ≡ true
spoken_told plan p old new spoken is =
    ap (λ (s : PwStatus). tells_now s.0 (end_at new p).local) (status_steady plan old new p (spoken_steady old new spoken))
    ∙ (ap (λ (ends : ℕ → ℕ → EndState). tells_now (status_to_tell plan old p).0 (ends p.wire.0 p.peer.0).local) spoken.ends ∙ is)

spoken_chosen : (plan : Plan) (old new : EdgeState) → IsSpoken old new → HasChosen plan old → HasChosen plan new
spoken_chosen plan old new spoken chosen service =
    ap (λ (map : ℕ → Option WireId). map service) spoken.chosen
    ∙ (chosen service
    ∙ sym (choice_same plan old new spoken.me spoken.bits spoken.priorities (λ wire k bits. ap (λ (ends : ℕ → ℕ → EndState). down role.Chosen bits (ends wire k)) spoken.ends)
    (record { 0 = service })))

passes : (mend : EndPlace → Work → Spoken) (places : EndPlace → Type 0) (throughout : EdgeState → Type 0) (so : EndPlace → EdgeState → Type 0) → IsPass mend places throughout so
    → (list : List EndPlace)
    → AllByRecursion places list → (m : Spoken) → (each_end mend list m).failed ≡ false → throughout m.work.edge → Passed places throughout so list m.work.edge (each_end mend list m).work.edge
passes mend places throughout so pass [] all m none holds = record { still = holds; made = tt; kept = λ p here is. is }
passes mend places throughout so pass (q ∷ rest) all m none holds =
    let next : Spoken = and_says m (mend q) in
    let taken : (mend q m.work).failed ≡ false = second_fails m.failed (mend q m.work).failed (fails_not_before mend rest next none) in
    let later : Passed places throughout so rest next.work.edge (each_end mend rest next).work.edge =
    passes mend places throughout so pass rest all.1 next none (pass.goes_on q m.work all.0 taken holds) in
    record {
      still = later.still;
      made = (later.kept q all.0 (pass.makes q m.work all.0 taken holds), later.made);
      kept = λ p here is. later.kept p here (pass.keeps p q m.work here all.0 taken holds is);
    }

-- the side of a wire at which an edge has its end, by the plan
terminal_in : Option WirePlan → EdgeId → Bool
terminal_in None me = false
terminal_in (Some row) me = is_terminal row me

terminal_is : (plan : Plan) (me : EdgeId) (p : EndPlace) → IsEndOf plan me p → p.terminal ≡ terminal_in (wire_row plan (record { 0 = p.wire.0 })) me
unfolding terminal_in
terminal_is plan me p end = end.terminal ∙ sym (ap (λ (row : Option WirePlan). terminal_in row me) end.is)

same_side : (plan : Plan) (me : EdgeId) (p q : EndPlace) → IsEndOf plan me p → IsEndOf plan me q → p.wire.0 ≡ q.wire.0 → p.terminal ≡ q.terminal
same_side plan me p q one other w = terminal_is plan me p one ∙ (ap (λ (n : ℕ). terminal_in (wire_row plan (record { 0 = n })) me) w ∙ sym (terminal_is plan me q other))

-- what ends should tell has not changed, ends that were mended are, and each forwards as before in each role
record StaysMended (plan : Plan) (old now : EdgeState) : Type 0 where
  steady : IsSteady old now
  downs : (wire k : ℕ) (role : EndRole) (bits : ℕ) → down role bits (now.ends wire k) ≡ down role bits (old.ends wire k)
  mended : (p : EndPlace) → is_mended plan old p ≡ true → is_mended plan now p ≡ true

module _ (plan : Plan) (told : Answers) (me : EdgeId) where
  first_pass : (old : EdgeState) → IsPass (mends_end plan told) (IsEndOf plan me) (λ now. IsSteady old now) (λ p now. is_mended plan now p ≡ true)
  first_pass old = record {
    goes_on = λ q work here none steady. steady_then old work.edge (mends_end plan told q work).work.edge steady (end_mends plan told q work none).step.steady;
    makes = λ q work here none steady. (end_mends plan told q work none).mended;
    keeps = λ p q work one other none steady is.
        mends_keeps plan p q work.edge (mends_end plan told q work).work.edge (end_mends plan told q work none) (λ w. same_side plan me p q one other w) is;
  }

  second_pass : (old : EdgeState) → IsPass (mends_status plan told) (IsEndOf plan me) (λ now. StaysMended plan old now) (λ p now. is_told plan now p ≡ true)
  second_pass old = record {
    goes_on = λ q work here none stays. record {
      steady = steady_then old work.edge (mends_status plan told q work).work.edge stays.steady (end_tells plan told q work none).step.steady;
      downs = λ wire k role bits. tells_keeps_downs plan q work.edge (mends_status plan told q work).work.edge (end_tells plan told q work none) wire k role bits ∙ stays.downs wire k role bits;
      mended = λ p is. tells_keeps_mended plan p q work.edge (mends_status plan told q work).work.edge (end_tells plan told q work none) (stays.mended p is);
    };
    makes = λ q work here none stays. (end_tells plan told q work none).told;
    keeps = λ p q work one other none stays is. tells_keeps_told plan p q work.edge (mends_status plan told q work).work.edge (end_tells plan told q work none)
        (λ w. same_side plan me p q one other w) is;
  }

-- ---- the edge chooses

-- which spokes are chosen tells nothing of whether an end should tell something
wish_there : (plan : Plan) (chosen : ℕ → Option WireId) (edge : EdgeState) (place : EndPlace) → is_some (wish plan (with_chosen chosen edge) place) ≡ is_some (wish plan edge place)
unfolding with_chosen
wish_there plan chosen edge place = of (wire_row plan place.wire) where
  there : (up terminal tells : Bool) (one other : Told) (passed : Option Told) → is_some (cond up (cond terminal (cond tells (Some one) None) passed) None)
      ≡ is_some (cond up (cond terminal (cond tells (Some other) None) passed) None)
  there true true true one other passed = refl
  there true true false one other passed = refl
  there true false tells one other passed = refl
  there false terminal tells one other passed = refl

  content : EdgeState → WirePlan → Told
  content e row = content_of (offer_of row e.me.0) (status_offered plan e place (offer_of row e.me.0))

  of : (row : Option WirePlan) → is_some (wish_of plan (with_chosen chosen edge) place row) ≡ is_some (wish_of plan edge place row)
  of None = refl
  of (Some row) =
      there (edge.wire_on place.wire.0 && is_up_with (edge.peering place.peer.0)) place.terminal
      (tells_status (method_by (offer_of row edge.me.0).status (status_held (end_at edge place).remote)) || nat_eq (edge.bits place.wire.0) 0)
      (content (with_chosen chosen edge) row) (content edge row)
      (passed_wish plan edge place row)

-- nor of what a switching point should tell
wish_passed_there : (plan : Plan) (chosen : ℕ → Option WireId) (edge : EdgeState) (place : EndPlace) → place.terminal ≡ false → wish plan (with_chosen chosen edge) place ≡ wish plan edge place
unfolding with_chosen
wish_passed_there plan chosen edge place switching = of (wire_row plan place.wire) where
  passes_on : (up : Bool) (one passed : Option Told) → cond up (cond place.terminal one passed) None ≡ cond up passed None
  passes_on up one passed = ap (λ (b : Bool). cond up (cond b one passed) None) switching

  of : (row : Option WirePlan) → wish_of plan (with_chosen chosen edge) place row ≡ wish_of plan edge place row
  of None = refl
  of (Some row) =
      let up : Bool = edge.wire_on place.wire.0 && is_up_with (edge.peering place.peer.0) in
      passes_on up (terminal_wish plan (with_chosen chosen edge) place (offer_of row edge.me.0)) (passed_wish plan edge place row)
      ∙ sym (passes_on up (terminal_wish plan edge place (offer_of row edge.me.0)) (passed_wish plan edge place row))

-- a terminal end is mended by whether it should tell something
tells_some : (place : EndPlace) → place.terminal ≡ true → (one other : Option Told) (none_left : Bool) (local : LocalPart) → is_some one ≡ is_some other
    → tells_wish place one none_left local ≡ tells_wish place other none_left local
tells_some place terminal one other none_left (Idle declined) same = ap (λ (b : Bool). declined || (not b || none_left)) same
tells_some place terminal None None none_left (Advertised label content) same = refl
tells_some place terminal None (Some b) none_left (Advertised label content) same = absurd (cc (same))
tells_some place terminal (Some a) None none_left (Advertised label content) same = absurd (cc (same))
tells_some place terminal (Some a) (Some b) none_left (Advertised label content) same =
    ap (λ (t : Bool). t || is_same_but_status content a) terminal ∙ sym (ap (λ (t : Bool). t || is_same_but_status content b) terminal)
tells_some place terminal one other none_left (Withdrawing label) same = refl

-- so an end that was mended is once the edge has chosen
choosing_mended : (plan : Plan) (place : EndPlace) (work : Work) → is_mended plan work.edge place ≡ true → is_mended plan (changes (choosing plan) work).edge place ≡ true
unfolding changes with_chosen
choosing_mended plan place work is = by place.terminal refl where
  next : EdgeState
  next = (changes (choosing plan) work).edge

  none_left : Bool
  none_left = none_to_give next

  by : (terminal : Bool) → place.terminal ≡ terminal → is_mended plan next place ≡ true
  by true terminal = tells_some place terminal (wish plan next place) (wish plan work.edge place) none_left (end_at next place).local (wish_there plan next.chosen work.edge place) ∙ is
  by false switching = ap (λ (o : Option Told). tells_wish place o none_left (end_at next place).local) (wish_passed_there plan next.chosen work.edge place switching) ∙ is

-- it is the same edge
choosing_me : (plan : Plan) (work : Work) → (changes (choosing plan) work).edge.me ≡ work.edge.me
unfolding changes with_chosen
choosing_me plan work = refl

-- ---- what was learned at wires that do not forward is forgotten

-- what is gone is not there to go
without_twice : (p : Option ℕ) (entries : List MacEntry) → without_port p (without_port p entries) ≡ without_port p entries
without_twice None entries = refl
without_twice (Some n) [] = refl
without_twice (Some n) (e ∷ entries) = elim (cases_Bool (nat_eq e.port n)) [
  | inl here ↦ rw here (without_twice (Some n) entries)
  | inr away ↦ rw (away, away) (ap (λ (rest : List MacEntry). e ∷ rest) (without_twice (Some n) entries))
]

-- the ports go in either order
without_both : (p q : Option ℕ) (entries : List MacEntry) → without_port p (without_port q entries) ≡ without_port q (without_port p entries)
without_both None q entries = refl
without_both (Some n) None entries = refl
without_both (Some n) (Some m) [] = refl
without_both (Some n) (Some m) (e ∷ entries) = elim (cases_Bool (nat_eq e.port n)) [
  | inl first ↦ elim (cases_Bool (nat_eq e.port m)) [
    | inl second ↦ rw (first, second) (without_both (Some n) (Some m) entries)
    | inr second ↦ rw (first, second, first) (without_both (Some n) (Some m) entries)
  ]
  | inr first ↦ elim (cases_Bool (nat_eq e.port m)) [
    | inl second ↦ rw (first, second) (without_both (Some n) (Some m) entries)
    | inr second ↦ rw (first, second, first) (ap (λ (rest : List MacEntry). e ∷ rest) (without_both (Some n) (Some m) entries))
  ]
]

-- what is gone stays gone when more goes
stays_gone : (service : ServiceId) (p : Option ℕ) (edge : EdgeState) (k : ℕ) (q : Option ℕ) → without_port q (edge.learned k) ≡ edge.learned k
    → without_port q ((with_addresses service (without_port p (addresses_of edge service)) edge).learned k) ≡ (with_addresses service (without_port p (addresses_of edge service)) edge).learned k
unfolding with_addresses
stays_gone service p edge k q gone = elim (cases_Bool (nat_eq k service.0)) [
  | inl here ↦
      (let same : edge.learned k ≡ edge.learned service.0 = ap edge.learned (eqb-true k service.0 here) in
      rw here (without_both q p (edge.learned service.0) ∙ ap (without_port p) (subst (λ (entries : List MacEntry). without_port q entries ≡ entries) same gone)))
  | inr away ↦ rw away gone
]

-- the addresses at a port go
goes : (service : ServiceId) (p : Option ℕ) (edge : EdgeState) → without_port p ((with_addresses service (without_port p (addresses_of edge service)) edge).learned service.0)
    ≡ (with_addresses service (without_port p (addresses_of edge service)) edge).learned service.0
unfolding with_addresses
goes service p edge = rw (eq-eqb service.0 service.0 refl) (without_twice p (edge.learned service.0))

-- other addresses tell nothing of why an end does not forward, and of which port it is
gone_like : (plan : Plan) (p : EndPlace) (old new : EdgeState) → LearnsOnly old new
    → ((row : WirePlan) → p.terminal ≡ true → wire_row plan p.wire ≡ Some row → is_some (down_at plan old p) ≡ true
    → without_port (port_of_wire plan old p.wire row) (addresses_of new row.service) ≡ addresses_of new row.service)
    → IsForgotten plan new p
gone_like plan p old new only gone row terminal is down =
    let same : new ≡ record old { learned = new.learned } = learns_is old new only in
    ap (λ (e : EdgeState). without_port (port_of_wire plan e p.wire row) (addresses_of new row.service)) same
    ∙ gone row terminal is (sym (ap (λ (e : EdgeState). is_some (down_at plan e p)) same) ∙ down)

-- what is forgotten stays so when the addresses at another wire go, and when an end has its turn
forgetting_keeps : (plan : Plan) (q : EndPlace) (row : Option WirePlan) (p : EndPlace) (edge : EdgeState) → IsForgotten plan edge p → IsForgotten plan (forgetting_wire plan q.wire row edge) p
forgetting_keeps plan q None p edge gone = gone
forgetting_keeps plan q (Some row) p edge gone =
    gone_like plan p edge (forgetting_wire plan q.wire (Some row) edge) (forgetting_learns plan q.wire (Some row) edge)
    (λ mine terminal is down. stays_gone row.service (port_of_wire plan edge q.wire row) edge mine.service.0 (port_of_wire plan edge p.wire mine) (gone mine terminal is down))

one_keeps : (plan : Plan) (q p : EndPlace) (work : Work) → IsForgotten plan work.edge p → IsForgotten plan (forgets_one plan q work).edge p
unfolding changes forgets_one
one_keeps plan q p work gone = of q.terminal (down_at plan work.edge q) where
  of : (b : Bool) (down : Option Down) → IsForgotten plan (cond b (forgets_down plan q down work) work).edge p
  of true None = gone
  of true (Some why) = forgetting_keeps plan q (wire_row plan q.wire) p work.edge gone
  of false down = gone

-- an end that had its turn is forgotten, where it does not forward
one_goes : (plan : Plan) (q : EndPlace) (work : Work) → IsForgotten plan (forgets_one plan q work).edge q
unfolding changes forgets_one
one_goes plan q work = of q.terminal refl (down_at plan work.edge q) refl where
  after : (found : Option WirePlan) → wire_row plan q.wire ≡ found → IsForgotten plan (forgetting_wire plan q.wire found work.edge) q
  after None none = λ row terminal is down. no_row row none is
    where
      no_row : (row : WirePlan) → wire_row plan q.wire ≡ None → wire_row plan q.wire ≡ Some row
          → without_port (port_of_wire plan work.edge q.wire row) (addresses_of work.edge row.service) ≡ addresses_of work.edge row.service
      no_row row none is =
          let wrong : None ≡ Some row = sym none ∙ is in
          absurd (cc (wrong))
  after (Some found) there =
      gone_like plan q work.edge (forgetting_wire plan q.wire (Some found) work.edge) (forgetting_learns plan q.wire (Some found) work.edge)
      (λ row terminal is down. same_row row is)
    where
      same_row : (row : WirePlan) → wire_row plan q.wire ≡ Some row
          → without_port (port_of_wire plan work.edge q.wire row) (addresses_of (forgetting_wire plan q.wire (Some found) work.edge) row.service)
          ≡ addresses_of (forgetting_wire plan q.wire (Some found) work.edge) row.service
      same_row row is =
          let rows : Some found ≡ Some row = sym there ∙ is in
          let one : found ≡ row = cc (rows) in
          subst (λ (r : WirePlan). without_port (port_of_wire plan work.edge q.wire r) (addresses_of (forgetting_wire plan q.wire (Some found) work.edge) r.service)
          ≡ addresses_of (forgetting_wire plan q.wire (Some found) work.edge) r.service) one (goes found.service (port_of_wire plan work.edge q.wire found) work.edge)

  stands : is_some (down_at plan work.edge q) ≡ false → IsForgotten plan work.edge q
  stands up row own is down =
      let wrong : false ≡ true = sym up ∙ down in
      absurd (cc (wrong))

  switches : q.terminal ≡ false → IsForgotten plan work.edge q
  switches middle row terminal is down =
      let wrong : false ≡ true = sym middle ∙ terminal in
      absurd (cc (wrong))

  of : (b : Bool) → q.terminal ≡ b → (down : Option Down) → down_at plan work.edge q ≡ down → IsForgotten plan (cond b (forgets_down plan q down work) work).edge q
  of true terminal None up = stands (ap (λ (o : Option Down). is_some o) up)
  of true terminal (Some why) is = after (wire_row plan q.wire) refl
  of false middle other same = switches middle

-- the same of each end in turn
all_keep : (plan : Plan) (list : List EndPlace) (p : EndPlace) (work : Work) → IsForgotten plan work.edge p → IsForgotten plan (forgets_downs plan list work).edge p
unfolding forgets_one
all_keep plan [] p work gone = gone
all_keep plan (q ∷ list) p work gone = all_keep plan list p (forgets_one plan q work) (one_keeps plan q p work gone)

all_go : (plan : Plan) (list : List EndPlace) (work : Work) → AllByRecursion (IsForgotten plan (forgets_downs plan list work).edge) list
unfolding forgets_one
all_go plan [] work = tt
all_go plan (q ∷ list) work = (all_keep plan list q (forgets_one plan q work) (one_goes plan q work), all_go plan list (forgets_one plan q work))

-- ---- each wire is told

-- a terminal edge of a wire has one end of it
abbrev pub HasOneEnd : Plan → EdgeId → Type 0
HasOneEnd plan me = (p q : EndPlace) → IsEndOf plan me p → IsEndOf plan me q → p.terminal ≡ true → q.terminal ≡ true → p.wire.0 ≡ q.wire.0 → p.peer.0 ≡ q.peer.0

pub down_like : (plan : Plan) (edge : EdgeState) (p q : EndPlace) → p.wire.0 ≡ q.wire.0 → p.peer.0 ≡ q.peer.0 → down_at plan edge p ≡ down_at plan edge q
down_like plan edge p q w k = ap (λ (n : ℕ). down_at plan edge (like n p.peer.0 false)) w ∙ ap (λ (n : ℕ). down_at plan edge (like q.wire.0 n false)) k

-- one end is told
tells_one : Plan → EndPlace → Work → Work
tells_one plan q work = cond q.terminal (tells_down q (down_at plan work.edge q) work) work

-- of the edge, what was told of wires alone has changed, and of this one it is so
record HasTold (plan : Plan) (me : EdgeId) (q : EndPlace) (old new : EdgeState) : Type 0 where
  downs : ℕ → Option Down
  is : new ≡ record old { told_down = downs }
  so : is_down_told plan new q ≡ true
  keeps : (p : EndPlace) → IsEndOf plan me p → is_down_told plan old p ≡ true → is_down_told plan new p ≡ true

one_told : (plan : Plan) (me : EdgeId) → HasOneEnd plan me → (q : EndPlace) → IsEndOf plan me q → (work : Work) → HasTold plan me q work.edge (tells_one plan q work).edge
unfolding tells_one changes gives with_told_down
one_told plan me one q here work = of q.terminal refl where
  a : EdgeState
  a = work.edge

  down : Option Down
  down = down_at plan a q

  left : is_down_told plan a q ≡ true → HasTold plan me q a a
  left so = record { downs = a.told_down; is = refl; so = so; keeps = λ p there is. is }

  after : q.terminal ≡ true → HasTold plan me q a (record a { told_down = λ k. cond (nat_eq k q.wire.0) down (a.told_down k) })
  after terminal = record { downs = λ k. cond (nat_eq k q.wire.0) down (a.told_down k); is = refl; so = by_place; keeps = λ p there is. others p there is (p.terminal) refl }
    where
      new : EdgeState
      new = record a { told_down = λ k. cond (nat_eq k q.wire.0) down (a.told_down k) }

      by_place : is_down_told plan new q ≡ true
      by_place = rw (terminal, eq-eqb q.wire.0 q.wire.0 refl) (eq-eqb (cause_number down) (cause_number down) refl)

      at_wire : (p : EndPlace) → IsEndOf plan me p → p.terminal ≡ true → (b : Bool) → nat_eq p.wire.0 q.wire.0 ≡ b
          → nat_eq (cause_number (a.told_down p.wire.0)) (cause_number (down_at plan a p)) ≡ true
          → nat_eq (cause_number (cond b down (a.told_down p.wire.0))) (cause_number (down_at plan a p)) ≡ true
      at_wire p there own true same is =
          let w : p.wire.0 ≡ q.wire.0 = eqb-true p.wire.0 q.wire.0 same in
          ap (λ (o : Option Down). nat_eq (cause_number down) (cause_number o)) (down_like plan a p q w (one p q there here own terminal w)) ∙ eq-eqb (cause_number down) (cause_number down) refl
      at_wire p there own false away is = is

      others : (p : EndPlace) → IsEndOf plan me p → is_down_told plan a p ≡ true → (b : Bool) → p.terminal ≡ b → is_down_told plan new p ≡ true
      others p there is false own = ap (λ (b : Bool). not b || nat_eq (cause_number (new.told_down p.wire.0)) (cause_number (down_at plan a p))) own
      others p there is true own =
          ap (λ (b : Bool). not b || nat_eq (cause_number (new.told_down p.wire.0)) (cause_number (down_at plan a p))) own
          ∙ at_wire p there own (nat_eq p.wire.0 q.wire.0) refl
          (sym (ap (λ (b : Bool). not b || nat_eq (cause_number (a.told_down p.wire.0)) (cause_number (down_at plan a p))) own) ∙ is)

  by : q.terminal ≡ true → (b : Bool) → nat_eq (cause_number (a.told_down q.wire.0)) (cause_number down) ≡ b
      → HasTold plan me q a (cond b work (gives (Wire q.wire down) (changes (with_told_down q.wire down) work))).edge
  by terminal true same = left (rw terminal same)
  by terminal false other = after terminal

  of : (b : Bool) → q.terminal ≡ b → HasTold plan me q a (cond b (tells_down q down work) work).edge
  of true terminal = by terminal (nat_eq (cause_number (a.told_down q.wire.0)) (cause_number down)) refl
  of false middle = left (ap (λ (b : Bool). not b || nat_eq (cause_number (a.told_down q.wire.0)) (cause_number down)) middle)

-- the same of each end in turn
pub record HaveTold (plan : Plan) (me : EdgeId) (list : List EndPlace) (old new : EdgeState) : Type 0 where
  pub downs : ℕ → Option Down
  pub is : new ≡ record old { told_down = downs }
  pub so : AllByRecursion (λ q. is_down_told plan new q ≡ true) list
  pub keeps : (p : EndPlace) → IsEndOf plan me p → is_down_told plan old p ≡ true → is_down_told plan new p ≡ true

pub all_told : (plan : Plan) (me : EdgeId) → HasOneEnd plan me → (list : List EndPlace) → AllByRecursion (IsEndOf plan me) list → (work : Work)
    → HaveTold plan me list work.edge (tells_downs plan list work).edge
unfolding tells_one
all_told plan me one [] all work = record { downs = work.edge.told_down; is = refl; so = tt; keeps = λ p here is. is }
all_told plan me one (q ∷ list) all work =
    let next : Work = tells_one plan q work in
    let first : HasTold plan me q work.edge next.edge = one_told plan me one q all.0 work in
    let rest : HaveTold plan me list next.edge (tells_downs plan list next).edge = all_told plan me one list all.1 next in
    record {
      downs = rest.downs;
      is = rest.is ∙ ap (λ (e : EdgeState). record e { told_down = rest.downs }) first.is;
      so = (rest.keeps q all.0 first.so, rest.so);
      keeps = λ p here is. rest.keeps p here (first.keeps p here is);
    }

-- ---- a round of mending in which the link took every message

pub round_mends : (plan : Plan) (told : Answers) (work : Work) → HasOneEnd plan work.edge.me → (mends_once plan told work).failed ≡ false → IsMended plan (mends_once plan told work).work.edge
round_mends plan told work one none =
    record {
      ends = at_me (λ me. AllByRecursion (λ p. is_mended plan last p ≡ true) (end_places plan me))
          (all_map (λ p. is_mended plan first.work.edge p ≡ true) (λ p. is_mended plan last p ≡ true)
          (λ p is. subst (λ (e : EdgeState). is_mended plan e p ≡ true) (sym at_last)
          (spoken_mended plan p second.work.edge third.work.edge moved (statuses.still.mended p (choosing_mended plan p first.work is)))) places ends.made);
      chosen = subst (HasChosen plan) (sym at_last) choice_made;
      statuses = at_me (λ me. AllByRecursion (λ p. is_told plan last p ≡ true) (end_places plan me))
          (all_map (λ p. is_told plan second.work.edge p ≡ true) (λ p. is_told plan last p ≡ true)
          (λ p is. subst (λ (e : EdgeState). is_told plan e p ≡ true) (sym at_last) (spoken_told plan p second.work.edge third.work.edge moved is)) places statuses.made);
      forgotten = at_me (λ me. AllByRecursion (IsForgotten plan last) (end_places plan me))
          (all_map (IsForgotten plan forgot.edge) (IsForgotten plan last) (λ p gone. subst (λ (e : EdgeState). IsForgotten plan e p) (sym downs.is) gone) places (all_go plan places third.work));
      downs = at_me (λ me. AllByRecursion (λ p. is_down_told plan last p ≡ true) (end_places plan me)) downs.so;
    }
  where
    me : EdgeId
    me = work.edge.me

    places : List EndPlace
    places = end_places plan me

    all : AllByRecursion (IsEndOf plan me) places
    all = places_are plan me

    first : Spoken
    first = each_end (mends_end plan told) places (stays work)

    chosen : Spoken
    chosen = then_changes (choosing plan) first

    second : Spoken
    second = each_end (mends_status plan told) places chosen

    third : Spoken
    third = each_end (mends_choice plan told work.edge.chosen) places second

    forgot : Work
    forgot = forgets_downs plan places third.work

    last : EdgeState
    last = (tells_downs plan places forgot).edge

    none_second : second.failed ≡ false
    none_second = fails_not_before (mends_choice plan told work.edge.chosen) places second none

    ends : Passed (IsEndOf plan me) (λ now. IsSteady work.edge now) (λ p now. is_mended plan now p ≡ true) places work.edge first.work.edge
    ends = passes (mends_end plan told) (IsEndOf plan me) (λ now. IsSteady work.edge now) (λ p now. is_mended plan now p ≡ true) (first_pass plan told me work.edge) places all (stays work)
        (fails_not_before (mends_status plan told) places chosen none_second) (steady_not work.edge)

    statuses : Passed (IsEndOf plan me) (λ now. StaysMended plan chosen.work.edge now) (λ p now. is_told plan now p ≡ true) places chosen.work.edge second.work.edge
    statuses = passes (mends_status plan told) (IsEndOf plan me) (λ now. StaysMended plan chosen.work.edge now) (λ p now. is_told plan now p ≡ true)
        (second_pass plan told me chosen.work.edge) places all chosen
        none_second (record { steady = steady_not chosen.work.edge; downs = λ wire k role bits. refl; mended = λ p is. is })

    moved : IsSpoken second.work.edge third.work.edge
    moved = choices_spoken plan told work.edge.chosen places second none

    -- the choice is that of now: the statuses that were told change nothing of it
    still_chosen : HasChosen plan second.work.edge
    still_chosen service =
        ap (λ (map : ℕ → Option WireId). map service) statuses.still.steady.chosen
        ∙ (choosing_is plan first.work service
        ∙ sym (choice_same plan chosen.work.edge second.work.edge statuses.still.steady.me statuses.still.steady.bits statuses.still.steady.priorities
        (λ wire k bits. statuses.still.downs wire k role.Chosen bits) (record { 0 = service })))

    learns : LearnsOnly third.work.edge forgot.edge
    learns = (forgets_downs_only plan places third.work).edge

    downs : HaveTold plan me places forgot.edge last
    downs = all_told plan me one places all forgot

    at_last : last ≡ record (third.work.edge) { learned = forgot.edge.learned; told_down = downs.downs }
    at_last = downs.is ∙ ap (λ (e : EdgeState). record e { told_down = downs.downs }) (learns_is third.work.edge forgot.edge learns)

    choice_made : HasChosen plan (record (third.work.edge) { learned = forgot.edge.learned; told_down = downs.downs })
    choice_made service = spoken_chosen plan second.work.edge third.work.edge moved still_chosen service

    same_me : last.me ≡ me
    same_me = ap (λ (e : EdgeState). e.me) at_last ∙ (moved.me ∙ (statuses.still.steady.me ∙ (choosing_me plan first.work ∙ ends.still.me)))

    at_me : (P : EdgeId → Type 0) → P me → P last.me
    at_me P p = subst P (sym same_me) p

-- over a link that takes every call
pub mends_mended : (plan : Plan) (told : Answers) (work : Work) → TakesAll told → HasOneEnd plan work.edge.me → IsMended plan (mends plan told work).edge
mends_mended plan told work takes one =
    subst (λ (w : Work). IsMended plan w.edge) (sym (mends_takes plan told takes work)) (round_mends plan told work one (mends_once_takes plan told takes work))

-- mending twice does nothing more
pub mends_twice : (plan : Plan) (told : Answers) (work : Work) → TakesAll told → HasOneEnd plan work.edge.me → mends plan told (mends plan told work) ≡ mends plan told work
mends_twice plan told work takes one = mends_not plan told (mends plan told work) (mends_mended plan told work takes one)
