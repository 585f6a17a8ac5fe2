-- What is due at an edge that had mended, once it has heard one message about a label.
use Rattle.std.proofs.Common.{◌≡◌, ◌≤◌, ◌<◌, ◌+◌, ◌*◌, ◌∙◌, ◌&&◌, ◌||◌, ◌⊎◌, ℕ, suc, Bool, true, false, cond, is_some, not, nat_eq, nat_lt, length, List, [], ◌∷◌, Option, Some, None, option_map, refl, sym, ap, subst, arith, inl, inr, ⊎_elim}
use Rattle.std.proofs.lemmas.Bool.{cases_Bool, eqb-true, lt-ltb}
use Rattle.std.specs.List.{find}
use Rattle.net_base.specs.declared.plan.Plan.{Plan}
use Rattle.net_base.specs.declared.plan.places.EdgeId.{EdgeId}
use Rattle.net_base.specs.declared.plan.places.WireId.{WireId}
use Rattle.net_base.specs.declared.plan.wire_plan.WirePlan.{WirePlan}
use Rattle.net_base.specs.plan.Accepted.{IsChecked, IsWireOf}
use Rattle.net_base.specs.plan.Paths.{follows, joins}
use Rattle.net_base.specs.plan.Places.{is_mesh_class, wire_row}
use Rattle.net_values.proofs.BoolLemmas.{first_holds, second_holds}
use Rattle.net_values.proofs.RowLemmas.{row_holds}
use Rattle.label_space.specs.declared.kept.Kept.{Kept}
use Rattle.label_space.specs.declared.kept.KeptState.{KeptState}
use Rattle.label_space.specs.Kept.{is_free, kept_at, label_of, most_kept, put_in, waiting}
use Rattle.label_space.specs.Labels.{number_to_give, numbers_end}
use Rattle.pw_tlvs.specs.declared.pw_fec.PwFec.{PwFec}
use Rattle.pw_signalling.specs.declared.told.Told.{Told}
use Rattle.pw_signalling.specs.End.{EndState, LocalPart, Idle, Advertised, Withdrawing}
use Rattle.pw_signalling.specs.Laws.{own_label}
use Rattle.pw_signalling.specs.Rows.{names, release_part, released}
use Rattle.edge_model.specs.declared.effect.Effect.{Effect}
use Rattle.edge_model.specs.declared.end_place.EndPlace.{EndPlace}
use Rattle.edge_model.specs.EndPlaces.{end_places, is_named}
use Rattle.edge_model.specs.Labels.{keeps_one, label_to_give, left_label, releasing, unless_kept}
use Rattle.edge_model.specs.Mend.{mends, offer_stands, wish}
use Rattle.edge_model.specs.Settled.{is_mended, tells_wish}
use Rattle.edge_model.specs.Signal.{end_of_fec, hears_release, with_released}
use Rattle.edge_model.specs.State.{EdgeState, end_at, with_end, with_kept}
use Rattle.edge_model.specs.Work.{Work}
use Rattle.edge_model.proofs.MendedLemmas.{end_put}
use Rattle.network_model.specs.Absorb.{taken_all}
use Rattle.flight_laws.proofs.MendedRunLemmas.{IsMendedAt}
use Rattle.flight_laws.proofs.PlaceLemmas.{IsEndOf, NamedEnd, end_of, find_holds, named_is}
use Rattle.spelling_laws.proofs.PutLemmas.{changed_effects}
use Rattle.rest_laws.specs.Levels.{Saying, Binds, Withdraws, Releases, States, Clears, address_stage, is_above, is_higher, label_stage, level, level_by, edges_spoken, status_stage, way_hangs}
use Rattle.rest_laws.proofs.DueLemmas.{IsDue, PutsMore}
use Rattle.flight_laws.proofs.WorksLemmas.{changed_edge}
use Rattle.rest_laws.proofs.PutLemmas.{WishesAlike, end_else, mending_puts_due, remote_put, same_side, some_alike, stands_alike, stands_at}
use Rattle.rest_laws.proofs.StepLemmas.{spoken_short}

-- ---- an edge that has mended

-- a place like any other one at the same wire, peer and side of the wire
abbrev like : ℕ → ℕ → Bool → EndPlace
like wire k terminal = record { wire = record { 0 = wire }; peer = record { 0 = k }; pw_id = 0; segment = 0; side = 0; terminal = terminal }

mended_like : (plan : Plan) (edge : EdgeState) (p q : EndPlace) → p.wire.0 ≡ q.wire.0 → p.peer.0 ≡ q.peer.0 → p.terminal ≡ q.terminal → is_mended plan edge p ≡ is_mended plan edge q
mended_like plan edge p q w k t =
    ap (λ (n : ℕ). is_mended plan edge (like n p.peer.0 p.terminal)) w
    ∙ (ap (λ (n : ℕ). is_mended plan edge (like q.wire.0 n p.terminal)) k ∙ ap (λ (b : Bool). is_mended plan edge (like q.wire.0 q.peer.0 b)) t)

-- each of its ends tells what it should
pub mended_here : (plan : Plan) (checked : IsChecked plan) (me : EdgeId) (edge : EdgeState) → IsMendedAt plan me.0 edge → (p : EndPlace) → IsEndOf plan me p → is_mended plan edge p ≡ true
mended_here plan checked me edge mended p here =
    let near : NamedEnd plan me p.peer p.wire here.row = end_of plan me p.peer p.wire here.row checked here.is here.joined in
    let near_is : IsEndOf plan me near.place = (named_is plan me p.peer here.row.pw_id near.place near.named).holds in
    let w : p.wire.0 ≡ near.place.wire.0 = ap (λ (x : WireId). x.0) (sym near.wire_is) in
    mended_like plan edge p near.place w (ap (λ (x : EdgeId). x.0) (sym near.peer_is)) (same_side plan me p near.place here near_is w)
    ∙ (find_holds (λ (q : EndPlace). is_mended plan edge q ≡ true) (is_named p.peer here.row.pw_id) (end_places plan me) near.place mended.ends near.named).holds

none_of : (x y : Bool) → x ≡ true → y ≡ true → not x || not y ≡ true → ⊥
none_of true true one other wrong = absurd (cc (wrong))
none_of true false one other wrong = absurd (cc (other))
none_of false y one other wrong = absurd (cc (one))

-- so nothing of labels is due at one that tells as before
idle_fine : (plan : Plan) (edge : EdgeState) (p : EndPlace) → is_mended plan edge p ≡ true → (end_at edge p).local ≡ Idle false → is_some (wish plan edge p) ≡ true
    → is_some (label_to_give edge) ≡ true → ⊥
idle_fine plan edge p mended at some left =
    none_of (is_some (wish plan edge p)) (is_some (label_to_give edge)) some left
    (ap (tells_wish p (wish plan edge p) (not (is_some (label_to_give edge)))) (sym at) ∙ mended)

told_fine : (plan : Plan) (edge : EdgeState) (p : EndPlace) (label : ℕ) (content : Told) → is_mended plan edge p ≡ true → (end_at edge p).local ≡ Advertised label content
    → offer_stands p content (wish plan edge p) ≡ false → ⊥
told_fine plan edge p label content mended at gone =
    let wrong : false ≡ true = sym gone ∙ (ap (tells_wish p (wish plan edge p) (not (is_some (label_to_give edge)))) (sym at) ∙ mended) in
    absurd (cc (wrong))

module _ (plan : Plan) (checked : IsChecked plan) (me : EdgeId) (may : EndPlace → Saying → Bool) (old new : EdgeState) (mended : IsMendedAt plan me.0 old) where
  -- what is due then may be put, where it was not due before
  pub due_after : (is_some (label_to_give new) ≡ true → is_some (label_to_give old) ≡ true)
      → ((p : EndPlace) → IsEndOf plan me p → (end_at new p).local ≡ Idle false → is_some (wish plan new p) ≡ true
      → ((end_at old p).local ≡ Idle false) × (is_some (wish plan old p) ≡ true) ⊎ (may p Binds ≡ true))
      → ((p : EndPlace) → IsEndOf plan me p → (label : ℕ) (content : Told) → (end_at new p).local ≡ Advertised label content → offer_stands p content (wish plan new p) ≡ false
      → ((end_at old p).local ≡ Advertised label content) × (offer_stands p content (wish plan old p) ≡ false) ⊎ (may p Withdraws ≡ true))
      → IsDue plan me may new
  due_after labels binds withdraws = record {
    binds = λ p here at some left. ⊎_elim
        (λ (h : ((end_at old p).local ≡ Idle false) × (is_some (wish plan old p) ≡ true)). absurd (idle_fine plan old p (mended_here plan checked me old mended p here) h.0 h.1 (labels left)))
        (λ (h : may p Binds ≡ true). h)
        (binds p here at some);
    withdraws = λ p here label content at gone. ⊎_elim
        (λ (h : ((end_at old p).local ≡ Advertised label content) × (offer_stands p content (wish plan old p) ≡ false)).
        absurd (told_fine plan old p label content (mended_here plan checked me old mended p here) h.0 h.1))
        (λ (h : may p Withdraws ≡ true). h)
        (withdraws p here label content at gone);
  }

-- ---- a Label Release

-- a number that waits is not free
waits_not_free : (label : ℕ) (peer : EdgeId) (kept : List Kept) → find is_free (put_in (waiting label peer) kept) ≡ find is_free kept
waits_not_free label peer [] = refl
waits_not_free label peer (k ∷ kept) = by (nat_lt k.label label) (waits_not_free label peer kept) where
  by : (b : Bool) → find is_free (put_in (waiting label peer) kept) ≡ find is_free kept
      → find is_free (cond b (k ∷ put_in (waiting label peer) kept) (waiting label peer ∷ k ∷ kept)) ≡ find is_free (k ∷ kept)
  by true later = ap (λ (o : Option Kept). cond (is_free k) (Some k) o) later
  by false later = refl

keeps_not_free : (own : Option ℕ) (peer : EdgeId) (kept : List Kept) → find is_free (keeps_one own peer kept) ≡ find is_free kept
keeps_not_free None peer kept = refl
keeps_not_free (Some label) peer kept = by (kept_at label kept) where
  room : (b : Bool) → find is_free (cond b (put_in (waiting label peer) kept) kept) ≡ find is_free kept
  room true = waits_not_free label peer kept
  room false = refl

  by : (r : Option KeptState) → find is_free (unless_kept r label peer kept) ≡ find is_free kept
  by (Some state) = refl
  by None = room (nat_lt (length kept) most_kept)

-- so the same number would be given
pub same_to_give : (next : ℕ) (own : Option ℕ) (peer : EdgeId) (kept : List Kept) → number_to_give next (keeps_one own peer kept) ≡ number_to_give next kept
same_to_give next own peer kept = ap (λ (o : Option Kept). cond (nat_eq next numbers_end) (option_map label_of o) (Some next)) (keeps_not_free own peer kept)

released_told : (label : Option ℕ) (local : LocalPart) (own : ℕ) (content : Told) → release_part label local ≡ Advertised own content → local ≡ Advertised own content
released_told label (Idle declined) own content is = absurd (cc (is))
released_told label (Advertised other told) own content is = by (names label other) is where
  by : (b : Bool) → cond b (Idle true) (Advertised other told) ≡ Advertised own content → Advertised other told ≡ Advertised own content
  by true e = absurd (cc (e))
  by false e = e
released_told label (Withdrawing other) own content is = by (names label other) is where
  by : (b : Bool) → cond b (Idle false) (Withdrawing other) ≡ Advertised own content → Withdrawing other ≡ Advertised own content
  by true e = absurd (cc (e))
  by false e = absurd (cc (e))

pub released_alike : (label : Option ℕ) (place : EndPlace) (edge : EdgeState) → WishesAlike edge (releasing label place edge)
unfolding with_kept with_end
released_alike label place edge = record {
  me = refl;
  wires = refl;
  bits = refl;
  remotes = λ wire k. remote_put place (released label (end_at edge place)) edge refl wire k;
  ups = λ k. refl;
  labels = λ left. ap (λ (o : Option ℕ). is_some o)
      (sym (same_to_give edge.next_label (left_label (own_label (end_at edge place).local) (own_label (released label (end_at edge place)).local)) place.peer edge.kept)) ∙ left;
}

pub released_here : (label : Option ℕ) (place : EndPlace) (edge : EdgeState) → end_at (releasing label place edge) place ≡ released label (end_at edge place)
unfolding with_kept
released_here label place edge = end_put place (released label (end_at edge place)) edge

pub released_else : (label : Option ℕ) (place : EndPlace) (edge : EdgeState) (wire k : ℕ) → stands_at place wire k ≡ false → (releasing label place edge).ends wire k ≡ edge.ends wire k
unfolding with_kept
released_else label place edge wire k apart = end_else place (released label (end_at edge place)) edge wire k apart

-- the end may map anew, and that is all
pub release_due : (plan : Plan) (checked : IsChecked plan) (me : EdgeId) (may : EndPlace → Saying → Bool) (edge : EdgeState) → IsMendedAt plan me.0 edge → (label : Option ℕ) (place : EndPlace)
    → ((p : EndPlace) → IsEndOf plan me p → p.wire.0 ≡ place.wire.0 → p.peer.0 ≡ place.peer.0 → may p Binds ≡ true)
    → IsDue plan me may (releasing label place edge)
release_due plan checked me may edge mended label place allowed = due_after plan checked me may edge new mended alike.labels binds withdraws where
  new : EdgeState
  new = releasing label place edge

  alike : WishesAlike edge new
  alike = released_alike label place edge

  binds : (p : EndPlace) → IsEndOf plan me p → (end_at new p).local ≡ Idle false → is_some (wish plan new p) ≡ true
      → ((end_at edge p).local ≡ Idle false) × (is_some (wish plan edge p) ≡ true) ⊎ (may p Binds ≡ true)
  binds p here at some = elim (cases_Bool (stands_at place p.wire.0 p.peer.0)) [
    | inl same ↦ inr (allowed p here (eqb-true p.wire.0 place.wire.0 (first_holds (nat_eq p.wire.0 place.wire.0) (nat_eq p.peer.0 place.peer.0) same))
        (eqb-true p.peer.0 place.peer.0 (second_holds (nat_eq p.wire.0 place.wire.0) (nat_eq p.peer.0 place.peer.0) same)))
    | inr apart ↦ inl (ap (λ (e : EndState). e.local) (sym (released_else label place edge p.wire.0 p.peer.0 apart)) ∙ at, sym (some_alike plan edge new alike p) ∙ some)
  ]

  -- no end advertises that did not before
  local_there : (p : EndPlace) (own : ℕ) (content : Told) → stands_at place p.wire.0 p.peer.0 ≡ true → (end_at new p).local ≡ Advertised own content → (end_at edge p).local ≡ Advertised own content
  local_there p own content same at =
      let w : p.wire.0 ≡ place.wire.0 = eqb-true p.wire.0 place.wire.0 (first_holds (nat_eq p.wire.0 place.wire.0) (nat_eq p.peer.0 place.peer.0) same) in
      let k : p.peer.0 ≡ place.peer.0 = eqb-true p.peer.0 place.peer.0 (second_holds (nat_eq p.wire.0 place.wire.0) (nat_eq p.peer.0 place.peer.0) same) in
      ap (λ (n : ℕ). (edge.ends n p.peer.0).local) w
      ∙ (ap (λ (n : ℕ). (edge.ends place.wire.0 n).local) k
      ∙ released_told label (end_at edge place).local own content
      (ap (λ (e : EndState). e.local) (sym (released_here label place edge))
      ∙ (ap (λ (n : ℕ). (new.ends place.wire.0 n).local) (sym k) ∙ (ap (λ (n : ℕ). (new.ends n p.peer.0).local) (sym w) ∙ at))))

  withdraws : (p : EndPlace) → IsEndOf plan me p → (own : ℕ) (content : Told) → (end_at new p).local ≡ Advertised own content → offer_stands p content (wish plan new p) ≡ false
      → ((end_at edge p).local ≡ Advertised own content) × (offer_stands p content (wish plan edge p) ≡ false) ⊎ (may p Withdraws ≡ true)
  withdraws p here own content at gone = elim (cases_Bool (stands_at place p.wire.0 p.peer.0)) [
    | inl same ↦ inl (local_there p own content same at, sym (stands_alike plan edge new alike p content) ∙ gone)
    | inr apart ↦ inl (ap (λ (e : EndState). e.local) (sym (released_else label place edge p.wire.0 p.peer.0 apart)) ∙ at, sym (stands_alike plan edge new alike p content) ∙ gone)
  ]

-- ---- levels

stage_small : (hangs : Bool) → label_stage hangs ≤ 16
stage_small false = omega arith
stage_small true = omega arith

-- so many edges at most have spoken
pub spoken_few : (plan : Plan) (checked : IsChecked plan) (wire : WireId) (row : WirePlan) (a b : ℕ) → wire_row plan wire ≡ Some row → joins a b row.path ≡ true → edges_spoken row a b ≤ 4
spoken_few plan checked wire row a b is joined =
    let fit : IsWireOf plan row = row_holds (IsWireOf plan) plan.wires wire.0 row is checked.wires in
    few (edges_spoken row a b) (length row.path) (spoken_short row.path a b fit.once joined) fit.most
  where
    few : (n path : ℕ) → suc n ≤ path → path ≤ 5 → n ≤ 4
    few n path h k = omega (arith, h, k)

states_far : (spoke : Bool) (n least : ℕ) → least ≤ 30 → least < status_stage spoke + n
states_far false n least low = omega (arith, low)
states_far true n least low = omega (arith, low)

clears_far : (mesh onward : Bool) (n least : ℕ) → least ≤ 30 → least < address_stage mesh onward + n
clears_far true onward n least low = omega (arith, low)
clears_far false true n least low = omega (arith, low)
clears_far false false n least low = omega (arith, low)

module _ (plan : Plan) (edges : ℕ → EdgeState) (me : EdgeId) (least : ℕ) where
  -- by the row of the wire
  pub above_is : (p : EndPlace) (row : WirePlan) (saying : Saying) → wire_row plan p.wire ≡ Some row → least < level edges p.wire.0 row me.0 p.peer.0 saying → is_above plan edges me.0 least p saying ≡ true
  above_is p row saying is more =
      ap (λ (o : Option WirePlan). is_higher least (level_by edges p.wire.0 me.0 p.peer.0 saying o)) is ∙ lt-ltb least (level edges p.wire.0 row me.0 p.peer.0 saying) more

  -- statuses and addresses are above labels
  pub states_above : least ≤ 30 → (p : EndPlace) → IsEndOf plan me p → is_above plan edges me.0 least p States ≡ true
  states_above low p here = above_is p here.row States here.is (states_far (not (is_mesh_class here.row.class) && follows here.row.path me.0 p.peer.0) (edges_spoken here.row me.0 p.peer.0) least low)

  pub clears_above : least ≤ 30 → (p : EndPlace) → IsEndOf plan me p → is_above plan edges me.0 least p Clears ≡ true
  clears_above low p here = above_is p here.row Clears here.is (clears_far (is_mesh_class here.row.class) (follows here.row.path me.0 p.peer.0) (edges_spoken here.row me.0 p.peer.0) least low)

  -- another place of the same wire, beside the same peer
  pub above_like : (p : EndPlace) (wire peer : ℕ) (row : WirePlan) (saying : Saying) → p.wire.0 ≡ wire → p.peer.0 ≡ peer → wire_row plan (record { 0 = wire }) ≡ Some row
      → least < level edges wire row me.0 peer saying → is_above plan edges me.0 least p saying ≡ true
  above_like p wire peer row saying w k is more =
      ap (λ (n : ℕ). is_higher least (level_by edges n me.0 p.peer.0 saying (wire_row plan (record { 0 = n })))) w
      ∙ (ap (λ (n : ℕ). is_higher least (level_by edges wire me.0 n saying (wire_row plan (record { 0 = wire })))) k
      ∙ (ap (λ (o : Option WirePlan). is_higher least (level_by edges wire me.0 peer saying o)) is ∙ lt-ltb least (level edges wire row me.0 peer saying) more))

-- ---- a Label Release is heard

release_small : (stage n : ℕ) → stage ≤ 16 → n ≤ 4 → stage + (3 * n + 1) ≤ 30
release_small stage n h k = omega (arith, h, k)

release_more : (stage n : ℕ) → stage + (3 * n + 1) < stage + (3 * n + 2)
release_more stage n = omega arith

pub releasing_me : (label : Option ℕ) (place : EndPlace) (edge : EdgeState) → (releasing label place edge).me ≡ edge.me
unfolding with_kept with_end
releasing_me label place edge = refl

-- an edge that had mended puts messages of higher levels alone on a Label Release
pub release_rises : (plan : Plan) (checked : IsChecked plan) (edges : ℕ → EdgeState) (me peer : EdgeId) (fec : PwFec) (label : Option ℕ) (place : EndPlace) (work : Work)
    → IsMendedAt plan me.0 work.edge → end_of_fec plan work.edge peer fec ≡ Some place → (here : IsEndOf plan me place)
    → PutsMore plan me (is_above plan edges me.0 (level edges place.wire.0 here.row place.peer.0 me.0 Releases)) work.effects (mends plan taken_all (hears_release plan peer fec label work)).effects
release_rises plan checked edges me peer fec label place work mended named here =
    subst (λ (es : List Effect). PutsMore plan me (is_above plan edges me.0 least) es (mends plan taken_all heard).effects) (changed_effects change work)
    (mending_puts_due plan me (is_above plan edges me.0 least) heard
    (ap (λ (e : EdgeState). e.me) edge_is ∙ (releasing_me label place work.edge ∙ mended.me))
    (subst (IsDue plan me (is_above plan edges me.0 least)) (sym edge_is)
    (release_due plan checked me (is_above plan edges me.0 least) work.edge mended label place
    (λ p at w k. above_like plan edges me least p place.wire.0 place.peer.0 here.row Binds w k here.is (release_more (label_stage (way_hangs edges place.wire.0 here.row me.0 place.peer.0)) (edges_spoken here.row me.0 place.peer.0)))))
    (states_above plan edges me least low) (clears_above plan edges me least low))
  where
    change : EdgeState → EdgeState
    change edge = with_released label (end_of_fec plan edge peer fec) edge

    heard : Work
    heard = hears_release plan peer fec label work

    least : ℕ
    least = level edges place.wire.0 here.row place.peer.0 me.0 Releases

    low : least ≤ 30
    low = release_small (label_stage (way_hangs edges place.wire.0 here.row me.0 place.peer.0)) (edges_spoken here.row me.0 place.peer.0)
        (stage_small (way_hangs edges place.wire.0 here.row me.0 place.peer.0)) (spoken_few plan checked place.wire here.row me.0 place.peer.0 here.is here.joined)

    edge_is : heard.edge ≡ releasing label place work.edge
    edge_is = changed_edge change work ∙ ap (λ (o : Option EndPlace). with_released label o work.edge) named
