-- What an edge puts when it mends, whose ends tell what they should but for their statuses: those that are due once it has chosen among
-- its spokes, and withdrawals of addresses on the spokes that it has chosen anew.
use Rattle.std.proofs.Common.{◌≡◌, ◌∙◌, ◌||◌, ℕ, Bool, true, false, cond, nat_eq, List, [], ◌∷◌, Option, Some, None, refl, sym, ap, subst}
use Rattle.std.proofs.lemmas.Bool.{eqb-true, eq-eqb}
use Rattle.std.specs.List.{AllByRecursion}
use Rattle.net_base.specs.declared.plan.Plan.{Plan}
use Rattle.net_base.specs.declared.plan.places.EdgeId.{EdgeId}
use Rattle.net_base.specs.declared.plan.places.WireId.{WireId}
use Rattle.net_base.specs.declared.plan.wire_plan.WirePlan.{WirePlan}
use Rattle.net_base.specs.plan.Accepted.{IsChecked}
use Rattle.net_base.specs.plan.Paths.{mate, mate_on}
use Rattle.net_base.specs.plan.Places.{wire_row}
use Rattle.net_values.proofs.BoolLemmas.{first_holds, second_holds}
use Rattle.pw_tlvs.specs.declared.pw_status.PwStatus.{PwStatus}
use Rattle.pw_status.specs.Status.{combined}
use Rattle.pw_messages.specs.Content.{mac_withdrawal, status_notification}
use Rattle.pw_signalling.specs.declared.binding.Binding.{Binding}
use Rattle.pw_signalling.specs.declared.told.Told.{Told}
use Rattle.pw_signalling.specs.End.{EndState, LocalPart, Idle, Advertised, Withdrawing}
use Rattle.pw_signalling.specs.Rows.{telling, with_status}
use Rattle.pw_stitch.specs.Passing.{passed_status}
use Rattle.spoke_redundancy.specs.Telling.{is_not_chosen}
use Rattle.edge_model.specs.Across.{held_beyond, held_from, held_of, mate_of}
use Rattle.edge_model.specs.declared.end_place.EndPlace.{EndPlace}
use Rattle.edge_model.specs.EndPlaces.{end_places, is_named}
use Rattle.edge_model.specs.Mend.{and_says, each_end, is_new_choice, mends, mends_choice, mends_end, mends_status, mends_status_of, telling_status, tells_new_status, tells_over, then_changes, tells_downs, forgets_downs}
use Rattle.edge_model.specs.Put.{Spoken, stays}
use Rattle.edge_model.specs.Role.{own_status, role_in, status_to_tell}
use Rattle.edge_model.specs.Session.{says}
use Rattle.edge_model.specs.Settled.{is_mended, is_status, is_told, tells_now}
use Rattle.edge_model.specs.Spokes.{choosing}
use Rattle.edge_model.specs.State.{EdgeState, end_at, with_chosen, with_end, with_kept}
use Rattle.edge_model.specs.Withdraw.{tells_piece, tells_piece_by}
use Rattle.edge_model.specs.Work.{Work, changes}
use Rattle.edge_model.specs.declared.effect.Effect.{Effect}
use Rattle.edge_model.proofs.ChoiceLemmas.{HasChosen, choosing_not}
use Rattle.edge_model.proofs.MendLemmas.{mends_takes}
use Rattle.edge_model.proofs.MendedLemmas.{mends_end_not}
use Rattle.network_model.specs.Absorb.{taken_all}
use Rattle.flight_laws.proofs.MendedRunLemmas.{IsMendedAt}
use Rattle.flight_laws.proofs.PlaceLemmas.{IsEndOf, NamedEnd, end_of, find_holds, named_is, places_are}
use Rattle.flight_laws.proofs.WorksLemmas.{changed_edge}
use Rattle.spelling_laws.proofs.PutLemmas.{changed_effects}
use Rattle.rest_laws.specs.Levels.{Saying, Clears, States}
use Rattle.rest_laws.proofs.DueLemmas.{PutsMore}
use Rattle.rest_laws.proofs.PutLemmas.{HasSaid, TurnsEnd, WishesAlike, puts_not, puts_then, same_side, says_puts, stands_at, turned_by}
use Rattle.rest_laws.proofs.StillLemmas.{choice_not, downs_put, each_not, forgets_put}

-- ---- the status of now

pub status_alike : (plan : Plan) (a b : EdgeState) (place : EndPlace) → WishesAlike a b → b.chosen ≡ a.chosen → status_to_tell plan b place ≡ status_to_tell plan a place
status_alike plan a b place alike same = by place.terminal where
  row : Option WirePlan
  row = wire_row plan place.wire

  held : held_of b place.wire ≡ held_of a place.wire
  held = λ i k. alike.remotes place.wire.0 k i

  own : own_status plan b place ≡ own_status plan a place
  own =
      ap (λ (bits : ℕ → ℕ). combined (bits place.wire.0) (is_not_chosen (role_in row b.me b.chosen place.wire))) alike.bits
      ∙ (ap (λ (me : EdgeId). combined (a.bits place.wire.0) (is_not_chosen (role_in row me b.chosen place.wire))) alike.me
      ∙ ap (λ (chosen : ℕ → Option WireId). combined (a.bits place.wire.0) (is_not_chosen (role_in row a.me chosen place.wire))) same)

  beyond : held_beyond plan b place ≡ held_beyond plan a place
  beyond =
      ap (λ (held : ℕ → Option Binding). held_from held (mate_of b.me place row)) held
      ∙ ap (λ (me : EdgeId). held_from (held_of a place.wire) (mate_of me place row)) alike.me

  by : (terminal : Bool) → cond terminal (own_status plan b place) (passed_status (held_beyond plan b place)) ≡ cond terminal (own_status plan a place) (passed_status (held_beyond plan a place))
  by true = own
  by false = ap passed_status beyond

-- a place like any other one at the same wire, peer and side of the wire
abbrev like : ℕ → ℕ → Bool → EndPlace
like wire k terminal = record { wire = record { 0 = wire }; peer = record { 0 = k }; pw_id = 0; segment = 0; side = 0; terminal = terminal }

pub told_like : (plan : Plan) (edge : EdgeState) (p q : EndPlace) → p.wire.0 ≡ q.wire.0 → p.peer.0 ≡ q.peer.0 → p.terminal ≡ q.terminal → is_told plan edge p ≡ is_told plan edge q
told_like plan edge p q w k t =
    ap (λ (n : ℕ). is_told plan edge (like n p.peer.0 p.terminal)) w
    ∙ (ap (λ (n : ℕ). is_told plan edge (like q.wire.0 n p.terminal)) k ∙ ap (λ (b : Bool). is_told plan edge (like q.wire.0 q.peer.0 b)) t)

-- each end of an edge that has mended has told its status of now
pub told_here : (plan : Plan) (checked : IsChecked plan) (me : EdgeId) (edge : EdgeState) → IsMendedAt plan me.0 edge → (p : EndPlace) → IsEndOf plan me p → is_told plan edge p ≡ true
told_here plan checked me edge mended p here =
    let near : NamedEnd plan me p.peer p.wire here.row = end_of plan me p.peer p.wire here.row checked here.is here.joined in
    let near_is : IsEndOf plan me near.place = (named_is plan me p.peer here.row.pw_id near.place near.named).holds in
    let w : p.wire.0 ≡ near.place.wire.0 = ap (λ (x : WireId). x.0) (sym near.wire_is) in
    told_like plan edge p near.place w (ap (λ (x : EdgeId). x.0) (sym near.peer_is)) (same_side plan me p near.place here near_is w)
    ∙ (find_holds (λ (x : EndPlace). is_told plan edge x ≡ true) (is_named p.peer here.row.pw_id) (end_places plan me) near.place mended.statuses near.named).holds

-- a switching point tells the status that it holds on the other side
pub passed_is : (plan : Plan) (me : EdgeId) (edge : EdgeState) → edge.me ≡ me → (p : EndPlace) (here : IsEndOf plan me p) → p.terminal ≡ false → (from : Option EdgeId)
    → mate_on here.row.path me.0 p.peer.0 ≡ from → status_to_tell plan edge p ≡ passed_status (held_from (held_of edge p.wire) from)
passed_is plan me edge at p here switching from mated =
    ap (λ (t : Bool). cond t (own_status plan edge p) (passed_status (held_beyond plan edge p))) switching
    ∙ (ap (λ (o : Option WirePlan). passed_status (held_from (held_of edge p.wire) (mate_of edge.me p o))) here.is
    ∙ (ap (λ (m : EdgeId). passed_status (held_from (held_of edge p.wire) (mate here.row m.0 p.peer.0))) at
    ∙ ap (λ (o : Option EdgeId). passed_status (held_from (held_of edge p.wire) o)) mated))

-- a step that does nothing leaves the work, whatever failed before
each_leaves : (mend : EndPlace → Work → Spoken) (work : Work) → ((place : EndPlace) → mend place work ≡ stays work) → (places : List EndPlace) (failed : Bool)
    → (each_end mend places (record { work = work; failed = failed })).work ≡ work
each_leaves mend work one [] failed = refl
each_leaves mend work one (place ∷ places) failed =
    ap (λ (s : Spoken). (each_end mend places (and_says (record { work = work; failed = failed }) (λ w. s))).work) (one place)
    ∙ each_leaves mend work one places (failed || false)

module _ (plan : Plan) (me : EdgeId) (may : EndPlace → Saying → Bool) (chosen : ℕ → Option WireId) where
  -- while statuses are told: those that are due may be put, and the choice is the same
  record IsTelling (first : Work) (work : Work) : Type 0 where
    at : work.edge.me ≡ me
    same : work.edge.chosen ≡ chosen
    due : (p : EndPlace) → IsEndOf plan me p → is_told plan work.edge p ≡ false → may p States ≡ true
    puts : PutsMore plan me may first.effects work.effects

  status_put : (first : Work) (q : EndPlace) (label : ℕ) (content : Told) (last : PwStatus) (work : Work) → (here : IsEndOf plan me q) → (end_at work.edge q).local ≡ Advertised label content
      → may q States ≡ true → IsTelling first work → IsTelling first (tells_new_status taken_all q content (status_to_tell plan work.edge q) work).work
  unfolding changes with_end with_kept
  status_put first q label content last work here told may_it now =
      let status : PwStatus = status_to_tell plan work.edge q in
      let end : EndState = telling status (end_at work.edge q) in
      let begun : Work = changes (telling_status q status) work in
      let next : Work = (says taken_all q.peer (status_notification q.pw_id status content) begun).work in
      let said : HasSaid plan me may begun next =
      says_puts plan me may q (status_notification q.pw_id status content) States begun here (λ id. refl) (λ id. refl) may_it in
      let turned : TurnsEnd q end work.edge next.edge = turned_by q end work.edge begun.edge next.edge refl refl refl refl refl refl (λ left. left) said.put in
      let kept : next.edge.chosen ≡ work.edge.chosen = said.put.chosen in
      let local : (end_at next.edge q).local ≡ Advertised label (with_status status content) =
      ap (λ (e : EndState). e.local) turned.here ∙ ap (λ (l : LocalPart). (telling status (record { local = l; remote = (end_at work.edge q).remote })).local) told in
      let told_now : is_told plan next.edge q ≡ true =
      ap (λ (l : LocalPart). tells_now (status_to_tell plan next.edge q).0 l) local
      ∙ (ap (λ (s : PwStatus). nat_eq status.0 s.0) (status_alike plan work.edge next.edge q turned.alike kept) ∙ eq-eqb status.0 status.0 refl) in
      record {
        at = turned.alike.me ∙ now.at;
        same = kept ∙ now.same;
        due = λ p is untold. by p is untold turned kept told_now (stands_at q p.wire.0 p.peer.0) refl;
        puts = puts_then plan me may first.effects work.effects next.effects now.puts said.puts;
      }
    where
      by : (p : EndPlace) → IsEndOf plan me p → {new : EdgeState} → {end : EndState} → is_told plan new p ≡ false → TurnsEnd q end work.edge new → new.chosen ≡ work.edge.chosen → is_told plan new q ≡ true
          → (b : Bool) → stands_at q p.wire.0 p.peer.0 ≡ b → may p States ≡ true
      by p is {new} untold turned kept told_now true same =
          let w : p.wire.0 ≡ q.wire.0 = eqb-true p.wire.0 q.wire.0 (first_holds (nat_eq p.wire.0 q.wire.0) (nat_eq p.peer.0 q.peer.0) same) in
          let k : p.peer.0 ≡ q.peer.0 = eqb-true p.peer.0 q.peer.0 (second_holds (nat_eq p.wire.0 q.wire.0) (nat_eq p.peer.0 q.peer.0) same) in
          let wrong : false ≡ true = sym untold ∙ (told_like plan new p q w k (same_side plan me p q is here w) ∙ told_now) in
          absurd (cc (wrong))
      by p is {new} untold turned kept told_now false apart = now.due p is
          (ap (λ (s : PwStatus). tells_now s.0 (end_at work.edge p).local) (sym (status_alike plan work.edge new p turned.alike kept))
          ∙ (ap (λ (e : EndState). tells_now (status_to_tell plan new p).0 e.local) (sym (turned.others p.wire.0 p.peer.0 apart)) ∙ untold))

  status_step : (first : Work) (q : EndPlace) (work : Work) → IsEndOf plan me q → IsTelling first work → IsTelling first (mends_status plan taken_all q work).work
  status_step first q work here now = of (end_at work.edge q).local refl where
    by : (label : ℕ) (content : Told) (last : PwStatus) → (end_at work.edge q).local ≡ Advertised label content → content.status ≡ Some last → (b : Bool)
        → nat_eq last.0 (status_to_tell plan work.edge q).0 ≡ b → IsTelling first (cond b (stays work) (tells_new_status taken_all q content (status_to_tell plan work.edge q) work)).work
    by label content last told carried true is = now
    by label content last told carried false is = status_put first q label content last work here told
        (now.due q here (ap (tells_now (status_to_tell plan work.edge q).0) told ∙ (ap (is_status (status_to_tell plan work.edge q).0) carried ∙ is))) now

    over : (label : ℕ) (content : Told) → (end_at work.edge q).local ≡ Advertised label content → (last : Option PwStatus) → content.status ≡ last
        → IsTelling first (tells_over taken_all q content (status_to_tell plan work.edge q) last work).work
    over label content told None carried = now
    over label content told (Some last) carried = by label content last told carried (nat_eq last.0 (status_to_tell plan work.edge q).0) refl

    of : (local : LocalPart) → (end_at work.edge q).local ≡ local → IsTelling first (mends_status_of plan taken_all q local work).work
    of (Idle declined) is = now
    of (Advertised label content) is = over label content is content.status refl
    of (Withdrawing label) is = now

  each_status : (first : Work) (places : List EndPlace) → AllByRecursion (IsEndOf plan me) places → (m : Spoken) → IsTelling first m.work
      → IsTelling first (each_end (mends_status plan taken_all) places m).work
  each_status first [] all m now = now
  each_status first (q ∷ places) all m now = each_status first places all.1 (and_says m (mends_status plan taken_all q)) (status_step first q m.work all.0 now)

-- where ends tell what they should but for statuses, and the choice stands, mending puts the statuses that are due
pub mending_puts_statuses : (plan : Plan) (me : EdgeId) (may : EndPlace → Saying → Bool) (work : Work) → work.edge.me ≡ me
    → AllByRecursion (λ place. is_mended plan work.edge place ≡ true) (end_places plan me) → HasChosen plan work.edge
    → ((p : EndPlace) → IsEndOf plan me p → is_told plan work.edge p ≡ false → may p States ≡ true)
    → PutsMore plan me may work.effects (mends plan taken_all work).effects
mending_puts_statuses plan me may work at ends has_chosen due =
    subst (λ (w : Work). PutsMore plan me may work.effects w.effects) (sym (mends_takes plan taken_all (λ k. refl) work))
    (subst (λ (s : Spoken). PutsMore plan me may work.effects (tells_downs plan places (forgets_downs plan places (moved (each_end (mends_status plan taken_all) places s)).work)).effects) (sym first_not)
    (subst (λ (w : Work). PutsMore plan me may work.effects (tells_downs plan places (forgets_downs plan places w)).effects) (sym moved_not)
    (puts_then plan me may work.effects (forgets_downs plan places told.work).effects (tells_downs plan places (forgets_downs plan places told.work)).effects
    (puts_then plan me may work.effects told.work.effects (forgets_downs plan places told.work).effects telling.puts (forgets_put plan me may places told.work))
    (downs_put plan me may places (forgets_downs plan places told.work)))))
  where
    places : List EndPlace
    places = end_places plan work.edge.me

    moved : Spoken → Spoken
    moved = each_end (mends_choice plan taken_all work.edge.chosen) places

    told : Spoken
    told = each_end (mends_status plan taken_all) places (stays work)

    mended : AllByRecursion (λ place. is_mended plan work.edge place ≡ true) places
    mended = subst (λ (k : EdgeId). AllByRecursion (λ place. is_mended plan work.edge place ≡ true) (end_places plan k)) (sym at) ends

    first_not : then_changes (choosing plan) (each_end (mends_end plan taken_all) places (stays work)) ≡ stays work
    first_not =
        ap (then_changes (choosing plan)) (each_not (mends_end plan taken_all) work (is_mended plan work.edge) (λ place is. mends_end_not plan taken_all place work is) places mended)
        ∙ ap stays (choosing_not plan work has_chosen)

    all : AllByRecursion (IsEndOf plan me) places
    all = subst (λ (k : EdgeId). AllByRecursion (IsEndOf plan me) (end_places plan k)) (sym at) (places_are plan me)

    telling : IsTelling plan me may work.edge.chosen work told.work
    telling = each_status plan me may work.edge.chosen work places all (stays work) (record { at = at; same = refl; due = due; puts = puts_not plan me may work.effects })

    moved_not : (moved told).work ≡ told.work
    moved_not = subst (λ (c : ℕ → Option WireId). (each_end (mends_choice plan taken_all c) places told).work ≡ told.work) telling.same
        (each_leaves (mends_choice plan taken_all told.work.edge.chosen) told.work (λ place. choice_not plan place told.work) places told.failed)

-- ---- where spokes are chosen anew

chosen_me : (plan : Plan) (edge : EdgeState) → (choosing plan edge).me ≡ edge.me
unfolding with_chosen
chosen_me plan edge = refl

module _ (plan : Plan) (me : EdgeId) (may : EndPlace → Saying → Bool) (before chosen : ℕ → Option WireId) (new : (p : EndPlace) → IsEndOf plan me p → is_new_choice before chosen p.wire (wire_row plan p.wire)
    ≡ true → may p Clears ≡ true) where
  -- while addresses are withdrawn on the spokes that are chosen anew
  record IsMoving (first work : Work) : Type 0 where
    at : work.edge.me ≡ me
    same : work.edge.chosen ≡ chosen
    puts : PutsMore plan me may first.effects work.effects

  piece_put : (first : Work) (q : EndPlace) (work : Work) → IsEndOf plan me q → may q Clears ≡ true → IsMoving first work → IsMoving first (tells_piece taken_all q [] work).work
  piece_put first q work here may_it now = by (end_at work.edge q).local where
    by : (local : LocalPart) → IsMoving first (tells_piece_by taken_all q [] local work).work
    by (Idle declined) = now
    by (Withdrawing label) = now
    by (Advertised label content) =
        let next : Work = (says taken_all q.peer (mac_withdrawal q.pw_id [] content) work).work in
        let said : HasSaid plan me may work next = says_puts plan me may q (mac_withdrawal q.pw_id [] content) Clears work here (λ id. refl) (λ id. refl) may_it in
        record {
          at = said.put.me ∙ now.at;
          same = said.put.chosen ∙ now.same;
          puts = puts_then plan me may first.effects work.effects next.effects now.puts said.puts;
        }

  move_step : (first : Work) (q : EndPlace) (work : Work) → IsEndOf plan me q → IsMoving first work → IsMoving first (mends_choice plan taken_all before q work).work
  move_step first q work here now = by (is_new_choice before work.edge.chosen q.wire (wire_row plan q.wire)) refl where
    by : (b : Bool) → is_new_choice before work.edge.chosen q.wire (wire_row plan q.wire) ≡ b → IsMoving first (cond b (tells_piece taken_all q [] work) (stays work)).work
    by true is = piece_put first q work here (new q here (ap (λ (c : ℕ → Option WireId). is_new_choice before c q.wire (wire_row plan q.wire)) (sym now.same) ∙ is)) now
    by false is = now

  each_move : (first : Work) (places : List EndPlace) → AllByRecursion (IsEndOf plan me) places → (m : Spoken) → IsMoving first m.work
      → IsMoving first (each_end (mends_choice plan taken_all before) places m).work
  each_move first [] all m now = now
  each_move first (q ∷ places) all m now = each_move first places all.1 (and_says m (mends_choice plan taken_all before q)) (move_step first q m.work all.0 now)

-- mending puts what it puts of labels, and then the statuses that are due by the new choice, and withdraws addresses on the spokes that are
-- chosen anew
pub mending_puts_then : (plan : Plan) (me : EdgeId) (may : EndPlace → Saying → Bool) (work : Work) → work.edge.me ≡ me
    → (first : Spoken) → each_end (mends_end plan taken_all) (end_places plan me) (stays work) ≡ first → first.work.edge.me ≡ me → PutsMore plan me may work.effects first.work.effects
    → ((p : EndPlace) → IsEndOf plan me p → is_told plan (choosing plan first.work.edge) p ≡ false → may p States ≡ true)
    → ((p : EndPlace) → IsEndOf plan me p → is_new_choice work.edge.chosen (choosing plan first.work.edge).chosen p.wire (wire_row plan p.wire) ≡ true → may p Clears ≡ true)
    → PutsMore plan me may work.effects (mends plan taken_all work).effects
mending_puts_then plan me may work at first first_is first_at labels due new =
    subst (λ (w : Work). PutsMore plan me may work.effects w.effects) (sym (mends_takes plan taken_all (λ k. refl) work ∙ ap passes (ap (end_places plan) at)))
    (subst (λ (s : Spoken). PutsMore plan me may work.effects (tells_downs plan places (forgets_downs plan places (moved (each_end (mends_status plan taken_all) places (then_changes (choosing plan) s))).work)).effects) (sym first_is)
    (puts_then plan me may work.effects (forgets_downs plan places last.work).effects (tells_downs plan places (forgets_downs plan places last.work)).effects
    (puts_then plan me may work.effects last.work.effects (forgets_downs plan places last.work).effects moving.puts (forgets_put plan me may places last.work))
    (downs_put plan me may places (forgets_downs plan places last.work))))
  where
    places : List EndPlace
    places = end_places plan me

    passes : List EndPlace → Work
    passes ps = tells_downs plan ps (forgets_downs plan ps
        (each_end (mends_choice plan taken_all work.edge.chosen) ps (each_end (mends_status plan taken_all) ps (then_changes (choosing plan) (each_end (mends_end plan taken_all) ps (stays work))))).work)

    moved : Spoken → Spoken
    moved = each_end (mends_choice plan taken_all work.edge.chosen) places

    chose : Work
    chose = changes (choosing plan) first.work

    told : Spoken
    told = each_end (mends_status plan taken_all) places (then_changes (choosing plan) first)

    last : Spoken
    last = moved told

    edge_is : chose.edge ≡ choosing plan first.work.edge
    edge_is = changed_edge (choosing plan) first.work

    telling : IsTelling plan me may chose.edge.chosen work told.work
    telling = each_status plan me may chose.edge.chosen work places (places_are plan me) (then_changes (choosing plan) first) (record {
      at = ap (λ (e : EdgeState). e.me) edge_is ∙ (chosen_me plan first.work.edge ∙ first_at);
      same = refl;
      due = λ p here untold. due p here (ap (λ (e : EdgeState). is_told plan e p) (sym edge_is) ∙ untold);
      puts = subst (λ (es : List Effect). PutsMore plan me may work.effects es) (sym (changed_effects (choosing plan) first.work)) labels;
    })

    new_there : (p : EndPlace) → IsEndOf plan me p → is_new_choice work.edge.chosen chose.edge.chosen p.wire (wire_row plan p.wire) ≡ true → may p Clears ≡ true
    new_there p here is = new p here (ap (λ (e : EdgeState). is_new_choice work.edge.chosen e.chosen p.wire (wire_row plan p.wire)) (sym edge_is) ∙ is)

    moving : IsMoving plan me may work.edge.chosen chose.edge.chosen new_there work last.work
    moving = each_move plan me may work.edge.chosen chose.edge.chosen new_there work places (places_are plan me) told (record { at = telling.at; same = telling.same; puts = telling.puts })

-- so where ends tell what they should but for statuses
pub mending_puts_moved : (plan : Plan) (me : EdgeId) (may : EndPlace → Saying → Bool) (work : Work) → work.edge.me ≡ me
    → AllByRecursion (λ place. is_mended plan work.edge place ≡ true) (end_places plan me)
    → ((p : EndPlace) → IsEndOf plan me p → is_told plan (choosing plan work.edge) p ≡ false → may p States ≡ true)
    → ((p : EndPlace) → IsEndOf plan me p → is_new_choice work.edge.chosen (choosing plan work.edge).chosen p.wire (wire_row plan p.wire) ≡ true → may p Clears ≡ true)
    → PutsMore plan me may work.effects (mends plan taken_all work).effects
mending_puts_moved plan me may work at ends due new =
    mending_puts_then plan me may work at (stays work)
    (each_not (mends_end plan taken_all) work (is_mended plan work.edge) (λ place is. mends_end_not plan taken_all place work is) (end_places plan me) ends) at
    (puts_not plan me may work.effects) due new
