-- Mending is made of its rows, over a link that takes everything: what each row keeps, mending keeps.
use Rattle.std.proofs.Common.{◌≡◌, ◌==◌, ℕ, zero, suc, Bool, true, false, cond, List, [], ◌∷◌, Option, Some, None, length, refl, sym, subst}
use Rattle.std.specs.List.{AllByRecursion}
use Rattle.net_base.specs.declared.plan.Plan.{Plan}
use Rattle.net_base.specs.declared.plan.places.EdgeId.{EdgeId}
use Rattle.net_base.specs.declared.plan.places.WireId.{WireId}
use Rattle.net_base.specs.declared.trace.down.Down.{Down}
use Rattle.net_values.specs.declared.mac.Mac.{Mac}
use Rattle.net_base.specs.plan.Places.{wire_row}
use Rattle.pw_tlvs.specs.declared.pw_status.PwStatus.{PwStatus}
use Rattle.pw_signalling.specs.declared.told.Told.{Told}
use Rattle.pw_signalling.specs.End.{LocalPart, Idle, Advertised, Withdrawing}
use Rattle.pw_messages.specs.Content.{mac_withdrawal, mapping}
use Rattle.edge_model.specs.declared.effect.Effect.TheVariants.{Wire}
use Rattle.edge_model.specs.declared.end_place.EndPlace.{EndPlace}
use Rattle.edge_model.specs.EndPlaces.{end_places}
use Rattle.edge_model.specs.Mend.{advertises_under, advertises_wish, advertising, cause_number, each_end, forgets_down, forgets_downs, forgetting_wire, is_new_choice, mends, mends_again, mends_choice, mends_end, mends_few, mends_local, mends_once, mends_status, mends_status_of, offer_stands, tells_down, tells_downs, tells_new_status, tells_over, wish, withdraws}
use Rattle.edge_model.specs.Put.{Spoken, stays}
use Rattle.edge_model.specs.Role.{down_at, status_to_tell}
use Rattle.edge_model.specs.Session.{says}
use Rattle.edge_model.specs.Spokes.{choosing}
use Rattle.edge_model.specs.State.{EdgeState, end_at, with_chosen, with_told_down}
use Rattle.edge_model.specs.Withdraw.{tells_piece, tells_piece_by}
use Rattle.edge_model.specs.Work.{Work, changes, gives}
use Rattle.edge_model.proofs.BridgeLemmas.{LearnsOnly, forgetting_learns}
use Rattle.network_model.specs.Absorb.{taken_all}
use Rattle.flight_laws.proofs.BridgeLemmas.{learns_keeps}
use Rattle.flight_laws.proofs.KeepLemmas.{KeepsEnds}
use Rattle.flight_laws.proofs.PieceLemmas.{IsPiece, none_are_piece}
use Rattle.flight_laws.proofs.PlaceLemmas.{IsEndOf, places_are}
use Rattle.edge_model.specs.Labels.{label_to_give}

-- what is so of an edge at work at this place, and what each row of mending keeps
pub record KeptByRows (plan : Plan) (me : EdgeId) (I : Work → Type 0) : Type 0 where
  pub placed : (work : Work) → I work → work.edge.me ≡ me
  -- an idle end advertises the label that is given
  pub advertises : (place : EndPlace) (label : ℕ) (content : Told) (work : Work) → IsEndOf plan me place → (end_at work.edge place).local ≡ Idle false → wish plan work.edge place ≡ Some content
      → label_to_give work.edge ≡ Some label → I work → I (says taken_all place.peer (mapping place.pw_id label content) (changes (advertising place label content) work)).work
  -- an end withdraws its label where what it has told does not stand
  pub withdraws : (place : EndPlace) (label : ℕ) (content : Told) (work : Work) → IsEndOf plan me place → (end_at work.edge place).local ≡ Advertised label content
      → offer_stands place content (wish plan work.edge place) ≡ false
      → I work → I (withdraws taken_all place label content work).work
  -- an end that has told a status tells another one
  pub tells : (place : EndPlace) (label : ℕ) (content : Told) (last : PwStatus) (work : Work) → IsEndOf plan me place → (end_at work.edge place).local ≡ Advertised label content
      → content.status ≡ Some last
      → last.0 == (status_to_tell plan work.edge place).0 ≡ false → I work → I (tells_new_status taken_all place content (status_to_tell plan work.edge place) work).work
  -- an end that advertises tells that addresses are to be forgotten
  pub clears : (place : EndPlace) (label : ℕ) (content : Told) (addresses : List Mac) (work : Work) → IsEndOf plan me place → (end_at work.edge place).local ≡ Advertised label content
      → IsPiece addresses
      → I work → I (says taken_all place.peer (mac_withdrawal place.pw_id addresses content) work).work
  -- a wire that began to forward, or stopped, is told
  pub tells_down : (place : EndPlace) (down : Option Down) (work : Work) → IsEndOf plan me place → I work → I (gives (Wire place.wire down) (changes (with_told_down place.wire down) work))
  -- what leaves neighbours and the ends of pseudowires as they were
  pub others : (change : EdgeState → EdgeState) (work : Work) → KeepsEnds work.edge (change work.edge) → (change work.edge).peering ≡ work.edge.peering → I work → I (changes change work)

-- the choice among spokes leaves them so
choosing_rest : (plan : Plan) (edge : EdgeState) → KeepsEnds edge (choosing plan edge) × ((choosing plan edge).peering ≡ edge.peering)
unfolding with_chosen
choosing_rest plan edge = (record { me = refl; wire_on = refl; bits = refl; ends = refl; told_down = refl; next_label = refl; kept = refl }, refl)

module _ (plan : Plan) (me : EdgeId) (I : Work → Type 0) (kept : KeptByRows plan me I) where
  pub end_keeps : (place : EndPlace) → IsEndOf plan me place → (work : Work) → I work → I (mends_end plan taken_all place work).work
  end_keeps place is work i = by_local (end_at work.edge place).local refl where
    by_label : (content : Told) → (end_at work.edge place).local ≡ Idle false → wish plan work.edge place ≡ Some content → (r : Option ℕ) → label_to_give work.edge ≡ r
        → I (advertises_under taken_all place content r work).work
    by_label content at wished None none = i
    by_label content at wished (Some label) given = kept.advertises place label content work is at wished given i

    by_wish : (end_at work.edge place).local ≡ Idle false → (wished : Option Told) → wish plan work.edge place ≡ wished → I (advertises_wish taken_all place wished work).work
    by_wish at None wished = i
    by_wish at (Some content) wished = by_label content at wished (label_to_give work.edge) refl

    unless : (label : ℕ) (content : Told) → (end_at work.edge place).local ≡ Advertised label content → (still : Bool) → offer_stands place content (wish plan work.edge place) ≡ still
        → I (cond still (stays work) (withdraws taken_all place label content work)).work
    unless label content at true still = i
    unless label content at false changed = kept.withdraws place label content work is at changed i

    by_local : (local : LocalPart) → (end_at work.edge place).local ≡ local → I (mends_local plan taken_all place local work).work
    by_local (Idle true) at = i
    by_local (Idle false) at = by_wish at (wish plan work.edge place) refl
    by_local (Advertised label content) at = unless label content at (offer_stands place content (wish plan work.edge place)) refl
    by_local (Withdrawing label) at = i

  pub status_keeps : (place : EndPlace) → IsEndOf plan me place → (work : Work) → I work → I (mends_status plan taken_all place work).work
  status_keeps place is work i = by_local (end_at work.edge place).local refl where
    by_change : (label : ℕ) (content : Told) (last : PwStatus) → (end_at work.edge place).local ≡ Advertised label content → content.status ≡ Some last → (same : Bool)
        → last.0 == (status_to_tell plan work.edge place).0 ≡ same → I (cond same (stays work) (tells_new_status taken_all place content (status_to_tell plan work.edge place) work)).work
    by_change label content last at told true same = i
    by_change label content last at told false other = kept.tells place label content last work is at told other i

    by_status : (label : ℕ) (content : Told) → (end_at work.edge place).local ≡ Advertised label content → (status : Option PwStatus) → content.status ≡ status
        → I (tells_over taken_all place content (status_to_tell plan work.edge place) status work).work
    by_status label content at None told = i
    by_status label content at (Some last) told = by_change label content last at told (last.0 == (status_to_tell plan work.edge place).0) refl

    by_local : (local : LocalPart) → (end_at work.edge place).local ≡ local → I (mends_status_of plan taken_all place local work).work
    by_local (Idle declined) at = i
    by_local (Advertised label content) at = by_status label content at content.status refl
    by_local (Withdrawing label) at = i

  -- one piece of addresses
  pub piece_keeps : (place : EndPlace) → IsEndOf plan me place → (addresses : List Mac) → IsPiece addresses → (work : Work) → I work → I (tells_piece taken_all place addresses work).work
  piece_keeps place is addresses piece work i = by_local (end_at work.edge place).local refl where
    by_local : (local : LocalPart) → (end_at work.edge place).local ≡ local → I (tells_piece_by taken_all place addresses local work).work
    by_local (Idle declined) at = i
    by_local (Advertised label content) at = kept.clears place label content addresses work is at piece i
    by_local (Withdrawing label) at = i

  pub choice_keeps : (before : ℕ → Option WireId) (place : EndPlace) → IsEndOf plan me place → (work : Work) → I work → I (mends_choice plan taken_all before place work).work
  choice_keeps before place is work i = by_choice (is_new_choice before work.edge.chosen place.wire (wire_row plan place.wire)) where
    by_choice : (chosen : Bool) → I (cond chosen (tells_piece taken_all place [] work) (stays work)).work
    by_choice true = piece_keeps place is [] none_are_piece work i
    by_choice false = i

  pub each_keeps : (mend : EndPlace → Work → Spoken) → ((place : EndPlace) → IsEndOf plan me place → (work : Work) → I work → I (mend place work).work)
      → (places : List EndPlace) → AllByRecursion (IsEndOf plan me) places → (m : Spoken) → I m.work → I (each_end mend places m).work
  each_keeps mend one [] all m i = i
  each_keeps mend one (place ∷ places) all m i = each_keeps mend one places all.1 _ (one place all.0 m.work i)

  pub forgets_keep : (places : List EndPlace) (work : Work) → I work → I (forgets_downs plan places work)
  forgets_keep [] work i = i
  forgets_keep (place ∷ places) work i = forgets_keep places _ (by_side place.terminal) where
    by_down : (down : Option Down) → I (forgets_down plan place down work)
    by_down None = i
    by_down (Some why) =
        let only : LearnsOnly work.edge (forgetting_wire plan place.wire (wire_row plan place.wire) work.edge) = forgetting_learns plan place.wire (wire_row plan place.wire) work.edge in
        kept.others (forgetting_wire plan place.wire (wire_row plan place.wire)) work (learns_keeps work.edge _ only) only.peering i

    by_side : (terminal : Bool) → I (cond terminal (forgets_down plan place (down_at plan work.edge place) work) work)
    by_side true = by_down (down_at plan work.edge place)
    by_side false = i

  down_keeps : (place : EndPlace) (down : Option Down) → IsEndOf plan me place → (work : Work) → I work → I (tells_down place down work)
  down_keeps place down is work i = by_cause (cause_number (work.edge.told_down place.wire.0) == cause_number down) where
    by_cause : (same : Bool) → I (cond same work (gives (Wire place.wire down) (changes (with_told_down place.wire down) work)))
    by_cause true = i
    by_cause false = kept.tells_down place down work is i

  pub downs_keep : (places : List EndPlace) → AllByRecursion (IsEndOf plan me) places → (work : Work) → I work → I (tells_downs plan places work)
  downs_keep [] all work i = i
  downs_keep (place ∷ places) all work i = downs_keep places all.1 _ (by_side place.terminal) where
    by_side : (terminal : Bool) → I (cond terminal (tells_down place (down_at plan work.edge place) work) work)
    by_side true = down_keeps place (down_at plan work.edge place) all.0 work i
    by_side false = i

  pub chooses_keep : (work : Work) → I work → I (changes (choosing plan) work)
  chooses_keep work i = (let rest = choosing_rest plan work.edge in kept.others (choosing plan) work rest.0 rest.1 i)

  once_keeps : (work : Work) → I work → I (mends_once plan taken_all work).work
  once_keeps work i =
      let all : AllByRecursion (IsEndOf plan me) (end_places plan work.edge.me) =
      subst (λ (k : EdgeId). AllByRecursion (IsEndOf plan me) (end_places plan k)) (sym (kept.placed work i)) (places_are plan me) in
      downs_keep (end_places plan work.edge.me) all _
      (forgets_keep (end_places plan work.edge.me) _
      (each_keeps (mends_choice plan taken_all work.edge.chosen) (choice_keeps work.edge.chosen) (end_places plan work.edge.me) all _
      (each_keeps (mends_status plan taken_all) status_keeps (end_places plan work.edge.me) all _
      (chooses_keep _ (each_keeps (mends_end plan taken_all) end_keeps (end_places plan work.edge.me) all (stays work) i)))))

  again_keeps : (again : Work → Work) → ((work : Work) → I work → I (again work)) → (m : Spoken) → I m.work → I (mends_again again m)
  again_keeps again more m i = by_put m.failed where
    by_put : (failed : Bool) → I (cond failed (again m.work) m.work)
    by_put true = more m.work i
    by_put false = i

  few_keep : (n : ℕ) (work : Work) → I work → I (mends_few plan taken_all n work)
  few_keep zero work i = i
  few_keep (suc n) work i = again_keeps (mends_few plan taken_all n) (λ next j. few_keep n next j) (mends_once plan taken_all work) (once_keeps work i)

  pub mends_keep : (work : Work) → I work → I (mends plan taken_all work)
  mends_keep work i = few_keep (suc (length plan.edges)) work i
