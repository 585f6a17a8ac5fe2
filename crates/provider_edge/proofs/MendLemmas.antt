-- An edge mends its ends, step by step.
use Rattle.std.proofs.Common.{◌≡◌, ◌<◌, ◌≤◌, ◌+◌, ◌-◌, ◌==◌, ◌||◌, ◌&&◌, ◌∙◌, ℕ, zero, suc, Bool, true, false, List, [], ◌∷◌, Option, Some, None, cond, is_some, not, length, drop, slice_index_or, refl, ap, sym, subst, arith}
use Rattle.std.proofs.lemmas.Bool.{not-true, not-false}
use Rattle.net_values.proofs.BoolLemmas.{or_false}
use Rattle.net_values.proofs.RowLemmas.{row_holds}
use Rattle.net_base.specs.declared.outside.link_call.LinkCall.{LinkCall}
use Rattle.net_base.specs.declared.plan.Plan.{Plan}
use Rattle.net_base.specs.declared.plan.offer.Offer.{Offer}
use Rattle.net_base.specs.declared.plan.places.EdgeId.{EdgeId}
use Rattle.net_base.specs.declared.plan.places.WireId.{WireId}
use Rattle.net_base.specs.declared.plan.wire_plan.WirePlan.{WirePlan}
use Rattle.net_base.specs.declared.trace.down.Down.{Down}
use Rattle.net_base.specs.declared.trace.down.Down.TheVariants.{NoLocal}
use Rattle.net_base.specs.plan.Accepted.{IsChecked, IsOffer, IsWireOf}
use Rattle.net_base.specs.plan.Paths.{is_first, offer_of}
use Rattle.net_base.specs.plan.Places.{wire_row}
use Rattle.pw_signalling.specs.AnyEnd.{end_of}
use Rattle.pw_signalling.specs.Down.{down, far_told, first_cause, own_told}
use Rattle.pw_signalling.specs.End.{EndState, LocalPart, Idle, Advertised, Withdrawing}
use Rattle.pw_signalling.specs.declared.binding.Binding.{Binding}
use Rattle.pw_signalling.specs.declared.end_role.EndRole.{EndRole}
use Rattle.pw_signalling.specs.declared.pw_end.PwEnd.{PwEnd}
use Rattle.pw_signalling.specs.declared.told.Told.{Told}
use Rattle.pw_messages.specs.LinkAnswers.{Answers}
use Rattle.pw_stitch.specs.Stitch.{has_told}
use Rattle.pw_tlvs.specs.declared.pw_status.PwStatus.{PwStatus}
use Rattle.pw_ends.specs.Ends.{end_in, no_place, place_of}
use Rattle.peer_dialogue.specs.Wish.{wish_of_offer}
use Rattle.edge_model.specs.declared.effect.Effect.{Effect}
use Rattle.edge_model.specs.declared.effect.Effect.TheVariants.{Wire}
use Rattle.edge_model.specs.declared.end_place.EndPlace.{EndPlace}
use Rattle.edge_model.specs.EndPlaces.{end_places}
use Rattle.edge_model.specs.Mend.{advertises_wish, and_says, each_end, forgets_down, forgets_downs, forgetting_wire, cause_number, is_new_choice, mends, mends_again, mends_choice, mends_end, mends_few, mends_local, mends_once, mends_status, mends_status_of, tells_down, tells_downs, tells_new_status, tells_over, terminal_wish, then_changes, wish, wish_of, withdraws_unless}
use Rattle.edge_model.specs.Put.{Spoken, stays}
use Rattle.edge_model.specs.Role.{down_at, is_chosen_wire, role_at, status_to_tell}
use Rattle.edge_model.specs.Spokes.{choosing}
use Rattle.edge_model.specs.State.{EdgeState, end_at, with_addresses, with_told_down}
use Rattle.edge_model.specs.Withdraw.{tells_piece}
use Rattle.edge_model.specs.Work.{Work, changes, gives}
use Rattle.peer_dialogue.specs.Peering.{at_edge}
use Rattle.provider_edge.specs.Lists.{EdgeLists, Keeps, seen}
use Rattle.provider_edge.specs.Mending.{forgotten_down, may_tell_end, mended_down}

-- ---- rounds

few_again : (plan : Plan) (told : Answers) (n i : ℕ) (work next : Work) (failed : Bool) → i < n → record { work = next; failed = failed } ≡ mends_once plan told work → failed ≡ true
    → mends_few plan told (n - i) work ≡ mends_few plan told (n - (i + 1)) next
few_again plan told n i work next failed below once again =
    let more : n - i ≡ suc (n - (i + 1)) = omega arith in
    rw more
    (ap (mends_again (mends_few plan told (n - (i + 1)))) (sym once)
    ∙ ap (λ (b : Bool). mends_again (mends_few plan told (n - (i + 1))) (record { work = next; failed = b })) again)

few_done : (plan : Plan) (told : Answers) (n i : ℕ) (work next : Work) (failed : Bool) → i < n → record { work = next; failed = failed } ≡ mends_once plan told work → failed ≡ false
    → mends_few plan told (n - i) work ≡ next
few_done plan told n i work next failed below once all =
    let more : n - i ≡ suc (n - (i + 1)) = omega arith in
    rw more
    (ap (mends_again (mends_few plan told (n - (i + 1)))) (sym once)
    ∙ ap (λ (b : Bool). mends_again (mends_few plan told (n - (i + 1))) (record { work = next; failed = b })) all)

few_end : (plan : Plan) (told : Answers) (n i : ℕ) (work : Work) → n ≤ i → mends_few plan told (n - i) work ≡ work
few_end plan told n i work past = let none : n - i ≡ 0 = omega arith in rw none refl

pub round_again : (c now : EdgeLists) (told : Answers) (n i : ℕ) (start work next : Work) (failed : Bool) → Keeps c now → i < n → mends_few c.plan told n start ≡ mends_few c.plan told (n - i) work
    → record { work = next; failed = failed } ≡ mends_once now.plan told work → failed ≡ true → mends_few c.plan told n start ≡ mends_few c.plan told (n - (i + 1)) next
round_again c now told n i start work next failed keeps below so_far one again =
    so_far ∙ few_again c.plan told n i work next failed below (one ∙ ap (λ (p : Plan). mends_once p told work) keeps.plan) again

pub round_done : (c now : EdgeLists) (told : Answers) (n i : ℕ) (start work next : Work) (failed : Bool) → Keeps c now → n ≡ suc (length c.plan.edges) → i < n
    → mends_few c.plan told n start ≡ mends_few c.plan told (n - i) work
    → record { work = next; failed = failed } ≡ mends_once now.plan told work → failed ≡ false → next ≡ mends c.plan told start
round_done c now told n i start work next failed keeps rounds below so_far one all =
    sym (so_far ∙ few_done c.plan told n i work next failed below (one ∙ ap (λ (p : Plan). mends_once p told work) keeps.plan) all) ∙ ap (λ (k : ℕ). mends_few c.plan told k start) rounds

pub rounds_end : (c : EdgeLists) (told : Answers) (n i : ℕ) (start work : Work) → n ≡ suc (length c.plan.edges) → n ≤ i → mends_few c.plan told n start
    ≡ mends_few c.plan told (n - i) work → work ≡ mends c.plan told start
rounds_end c told n i start work rounds past so_far = sym (so_far ∙ few_end c.plan told n i work past) ∙ ap (λ (k : ℕ). mends_few c.plan told k start) rounds

-- ---- all steps once

pub once_done : (plan : Plan) (told : Answers) (me : EdgeId) (before : ℕ → Option WireId) (start last : Work) (ends chosen statuses moved : Spoken) → start.edge.me ≡ me → before ≡ start.edge.chosen
    → ends ≡ each_end (mends_end plan told) (end_places plan me) (stays start)
    → chosen ≡ then_changes (choosing plan) ends
    → statuses ≡ each_end (mends_status plan told) (end_places plan me) chosen
    → moved ≡ each_end (mends_choice plan told before) (end_places plan me) statuses
    → last ≡ tells_downs plan (end_places plan me) (forgets_downs plan (end_places plan me) moved.work)
    → record { work = last; failed = moved.failed } ≡ mends_once plan told start
once_done plan told me before start last ends chosen statuses moved here chose first chooses next moves downs =
    let after : EdgeId → Work → Work = λ m w. tells_downs plan (end_places plan m) (forgets_downs plan (end_places plan m) w) in
    let told_all : EdgeId → Spoken = λ m. each_end (mends_status plan told) (end_places plan m) (then_changes (choosing plan) (each_end (mends_end plan told) (end_places plan m) (stays start))) in
    let all : EdgeId → Spoken = λ m. each_end (mends_choice plan told start.edge.chosen) (end_places plan m) (told_all m) in
    ap (λ (w : Work). record { work = w; failed = moved.failed }) downs
    ∙ (ap (λ (s : Spoken). record { work = after me s.work; failed = s.failed })
    (moves
    ∙ (ap (λ (b : ℕ → Option WireId). each_end (mends_choice plan told b) (end_places plan me) statuses) chose
    ∙ ap (each_end (mends_choice plan told start.edge.chosen) (end_places plan me))
    (next ∙ ap (each_end (mends_status plan told) (end_places plan me)) (chooses ∙ ap (then_changes (choosing plan)) first))))
    ∙ ap (λ (m : EdgeId). record { work = after m (all m).work; failed = (all m).failed }) (sym here))

pub chosen_kept : (c now new : EdgeLists) (calls : List LinkCall) (out : List Effect) (failed : Bool) → Keeps c now → seen new ≡ choosing now.plan (seen now)
    → record { work = at_edge (seen new) calls out; failed = failed } ≡ then_changes (choosing c.plan) (record { work = at_edge (seen now) calls out; failed = failed })
unfolding at_edge changes
chosen_kept c now new calls out failed keeps is =
    ap (λ (e : EdgeState). record { work = record { edge = e; calls = calls; effects = out; idle = false }; failed = failed }) (is ∙ ap (λ (p : Plan). choosing p (seen now)) keeps.plan)

pub statuses_kept : (c now : EdgeLists) (told : Answers) (m x : Spoken) → Keeps c now → x ≡ each_end (mends_status now.plan told) (end_places now.plan now.me) m → x
    ≡ each_end (mends_status c.plan told) (end_places c.plan c.me) m
statuses_kept c now told m x keeps is =
    is ∙ (ap (λ (p : Plan). each_end (mends_status p told) (end_places p now.me) m) keeps.plan ∙ ap (λ (e : EdgeId). each_end (mends_status c.plan told) (end_places c.plan e) m) keeps.me)

pub choices_kept : (c now : EdgeLists) (told : Answers) (before : ℕ → Option WireId) (m x : Spoken) → Keeps c now → x ≡ each_end (mends_choice now.plan told before) (end_places now.plan now.me) m
    → x ≡ each_end (mends_choice c.plan told before) (end_places c.plan c.me) m
choices_kept c now told before m x keeps is =
    is
    ∙ (ap (λ (p : Plan). each_end (mends_choice p told before) (end_places p now.me) m) keeps.plan ∙ ap (λ (e : EdgeId). each_end (mends_choice c.plan told before) (end_places c.plan e) m) keeps.me)

pub downs_kept : (c now : EdgeLists) (work x : Work) → Keeps c now → x ≡ tells_downs now.plan (end_places now.plan now.me) (forgets_downs now.plan (end_places now.plan now.me) work)
    → x ≡ tells_downs c.plan (end_places c.plan c.me) (forgets_downs c.plan (end_places c.plan c.me) work)
downs_kept c now work x keeps is =
    is
    ∙ (ap (λ (p : Plan). tells_downs p (end_places p now.me) (forgets_downs p (end_places p now.me) work)) keeps.plan
    ∙ ap (λ (e : EdgeId). tells_downs c.plan (end_places c.plan e) (forgets_downs c.plan (end_places c.plan e) work)) keeps.me)

pub me_at : (c : EdgeLists) (calls : List LinkCall) (out : List Effect) → (at_edge (seen c) calls out).edge.me ≡ c.me
unfolding seen at_edge
me_at c calls out = refl

pub chosen_at : (c : EdgeLists) (calls : List LinkCall) (out : List Effect) → (seen c).chosen ≡ (at_edge (seen c) calls out).edge.chosen
unfolding at_edge
chosen_at c calls out = refl

-- ---- each end in turn

each_more : (mend : EndPlace → Work → Spoken) (places : List EndPlace) (i : ℕ) (d : EndPlace) (m : Spoken) → i < length places
    → each_end mend (drop i places) m ≡ each_end mend (drop (i + 1) places) (and_says m (mend (slice_index_or places i d)))
each_more mend [] i d m below = absurd (omega arith)
each_more mend (x ∷ places) zero d m below = refl
each_more mend (x ∷ places) (suc i) d m below =
    let next : suc i + 1 ≡ suc (i + 1) = omega arith in
    rw next (each_more mend places i d m (omega arith))

each_past : (mend : EndPlace → Work → Spoken) (places : List EndPlace) (i : ℕ) (m : Spoken) → length places ≤ i → each_end mend (drop i places) m ≡ m
each_past mend [] zero m past = refl
each_past mend [] (suc i) m past = refl
each_past mend (x ∷ places) zero m past = absurd (omega arith)
each_past mend (x ∷ places) (suc i) m past = each_past mend places i m (omega arith)

-- one end more
pub said_more : (before failed : Bool) (start next : Work) (mend : Work → Spoken) → record { work = next; failed = failed } ≡ mend start
    → record { work = next; failed = before || failed } ≡ and_says (record { work = start; failed = before }) mend
said_more before failed start next mend one = ap (λ (s : Spoken). record { work = s.work; failed = before || s.failed }) one

pub ends_next : (mends : Plan → EndPlace → Work → Spoken) (c now : EdgeLists) (i : ℕ) (m next whole : Spoken) → Keeps c now → c.ends.places ≡ end_places c.plan c.me → i < length now.ends.places
    → whole ≡ each_end (mends c.plan) (drop i (end_places c.plan c.me)) m → next ≡ and_says m (mends now.plan (place_of now.ends i))
    → whole ≡ each_end (mends c.plan) (drop (i + 1) (end_places c.plan c.me)) next
ends_next mends c now i m next whole keeps placed below so_far one =
    so_far
    ∙ (each_more (mends c.plan) (end_places c.plan c.me) i no_place m (subst (λ (l : List EndPlace). i < length l) (keeps.places ∙ placed) below)
    ∙ ap (each_end (mends c.plan) (drop (i + 1) (end_places c.plan c.me)))
    (sym (one ∙ (ap (λ (p : Plan). and_says m (mends p (place_of now.ends i))) keeps.plan
    ∙ ap (λ (l : List EndPlace). and_says m (mends c.plan (slice_index_or l i no_place))) (keeps.places ∙ placed)))))

pub ends_past : (mends : Plan → EndPlace → Work → Spoken) (c : EdgeLists) (i : ℕ) (m whole : Spoken) → c.ends.places ≡ end_places c.plan c.me → length c.ends.places ≤ i
    → whole ≡ each_end (mends c.plan) (drop i (end_places c.plan c.me)) m → m ≡ whole
ends_past mends c i m whole placed past so_far = sym (so_far ∙ each_past (mends c.plan) (end_places c.plan c.me) i m (subst (λ (l : List EndPlace). length l ≤ i) placed past))

-- what is learned is no cause, and neither is what was told
down_told : (plan : Plan) (p q : EndPlace) (work : Work) → down_at plan (mended_down plan p work).edge q ≡ down_at plan work.edge q
unfolding changes gives with_told_down
down_told plan p q work = by p.terminal (cause_number (work.edge.told_down p.wire.0) == cause_number (down_at plan work.edge p)) where
  by : (terminal same : Bool)
      → down_at plan (cond terminal (cond same work (gives (Wire p.wire (down_at plan work.edge p)) (changes (with_told_down p.wire (down_at plan work.edge p)) work))) work).edge q
      ≡ down_at plan work.edge q
  by false same = refl
  by true true = refl
  by true false = refl

forgets_alike : (plan : Plan) (p q : EndPlace) (down : Option Down) (work : Work)
    → (down_at plan (forgets_down plan q down work).edge p ≡ down_at plan work.edge p) × ((forgets_down plan q down work).edge.told_down ≡ work.edge.told_down)
unfolding changes with_addresses
forgets_alike plan p q None work = (refl, refl)
forgets_alike plan p q (Some why) work = by (wire_row plan q.wire) where
  by : (row : Option WirePlan)
      → (down_at plan (changes (forgetting_wire plan q.wire row) work).edge p ≡ down_at plan work.edge p) × ((changes (forgetting_wire plan q.wire row) work).edge.told_down ≡ work.edge.told_down)
  by None = (refl, refl)
  by (Some row) = (refl, refl)

forgotten_alike : (plan : Plan) (p q : EndPlace) (work : Work)
    → (down_at plan (forgotten_down plan q work).edge p ≡ down_at plan work.edge p) × ((forgotten_down plan q work).edge.told_down ≡ work.edge.told_down)
forgotten_alike plan p q work = by q.terminal where
  by : (terminal : Bool)
      → (down_at plan (cond terminal (forgets_down plan q (down_at plan work.edge q) work) work).edge p ≡ down_at plan work.edge p)
      × ((cond terminal (forgets_down plan q (down_at plan work.edge q) work) work).edge.told_down ≡ work.edge.told_down)
  by false = (refl, refl)
  by true = forgets_alike plan p q (down_at plan work.edge q) work

-- one wire may be told before what was learned at another is forgotten
swapped : (plan : Plan) (p q : EndPlace) (work : Work) → forgotten_down plan q (mended_down plan p work) ≡ mended_down plan p (forgotten_down plan q work)
unfolding changes gives with_told_down with_addresses
swapped plan p q work =
    ap (λ (d : Option Down). cond q.terminal (forgets_down plan q d (mended_down plan p work)) (mended_down plan p work)) (down_told plan p q work)
    ∙ (middle
    ∙ (ap (λ (t : ℕ → Option Down). tell (cause_number (t p.wire.0) == cause_number down) p.terminal (forgotten_down plan q work)) (sym (forgotten_alike plan p q work).1)
    ∙ ap (λ (d : Option Down). cond p.terminal (tells_down p d (forgotten_down plan q work)) (forgotten_down plan q work)) (sym (forgotten_alike plan p q work).0)))
  where
    down : Option Down
    down = down_at plan work.edge p

    tell : Bool → Bool → Work → Work
    tell same terminal w = cond terminal (cond same w (gives (Wire p.wire down) (changes (with_told_down p.wire down) w))) w

    forget : Option Down → Option WirePlan → Work → Work
    forget None row w = w
    forget (Some why) row w = changes (forgetting_wire plan q.wire row) w

    forget_is : (d : Option Down) (w : Work) → forget d (wire_row plan q.wire) w ≡ forgets_down plan q d w
    forget_is None w = refl
    forget_is (Some why) w = refl

    any : (terminal : Bool) (d : Option Down) (row : Option WirePlan) (own same : Bool) → cond terminal (forget d row (tell same own work)) (tell same own work)
        ≡ tell same own (cond terminal (forget d row work) work)
    any false d row own same = refl
    any true None row own same = refl
    any true (Some why) None false same = refl
    any true (Some why) None true true = refl
    any true (Some why) None true false = refl
    any true (Some why) (Some row) false same = refl
    any true (Some why) (Some row) true true = refl
    any true (Some why) (Some row) true false = refl

    middle : cond q.terminal (forgets_down plan q (down_at plan work.edge q) (mended_down plan p work)) (mended_down plan p work)
        ≡ tell (cause_number (work.edge.told_down p.wire.0) == cause_number down) p.terminal (forgotten_down plan q work)
    middle =
        let u : Work = mended_down plan p work in
        ap (λ (w : Work). cond q.terminal w u) (sym (forget_is (down_at plan work.edge q) u))
        ∙ (any q.terminal (down_at plan work.edge q) (wire_row plan q.wire) p.terminal (cause_number (work.edge.told_down p.wire.0) == cause_number down)
        ∙ ap (λ (w : Work). tell (cause_number (work.edge.told_down p.wire.0) == cause_number down) p.terminal (cond q.terminal w work)) (forget_is (down_at plan work.edge q) work))

-- each end in turn: what was learned there is forgotten, and it is told
abbrev pub settles_downs : Plan → List EndPlace → Work → Work
settles_downs plan [] work = work
settles_downs plan (place ∷ places) work = settles_downs plan places (mended_down plan place (forgotten_down plan place work))

told_later : (plan : Plan) (p : EndPlace) (places : List EndPlace) (work : Work) → forgets_downs plan places (mended_down plan p work) ≡ mended_down plan p (forgets_downs plan places work)
told_later plan p [] work = refl
told_later plan p (q ∷ places) work = ap (forgets_downs plan places) (swapped plan p q work) ∙ told_later plan p places (forgotten_down plan q work)

pub settled_downs : (plan : Plan) (places : List EndPlace) (work : Work) → settles_downs plan places work ≡ tells_downs plan places (forgets_downs plan places work)
settled_downs plan [] work = refl
settled_downs plan (p ∷ places) work =
    settled_downs plan places (mended_down plan p (forgotten_down plan p work)) ∙ ap (tells_downs plan places) (told_later plan p places (forgotten_down plan p work))

settles_more : (plan : Plan) (places : List EndPlace) (i : ℕ) (d : EndPlace) (work : Work) → i < length places
    → settles_downs plan (drop i places) work ≡ settles_downs plan (drop (i + 1) places) (mended_down plan (slice_index_or places i d) (forgotten_down plan (slice_index_or places i d) work))
settles_more plan [] i d work below = absurd (omega arith)
settles_more plan (x ∷ places) zero d work below = refl
settles_more plan (x ∷ places) (suc i) d work below =
    let next : suc i + 1 ≡ suc (i + 1) = omega arith in
    rw next (settles_more plan places i d work (omega arith))

settles_past : (plan : Plan) (places : List EndPlace) (i : ℕ) (work : Work) → length places ≤ i → settles_downs plan (drop i places) work ≡ work
settles_past plan [] zero work past = refl
settles_past plan [] (suc i) work past = refl
settles_past plan (x ∷ places) zero work past = absurd (omega arith)
settles_past plan (x ∷ places) (suc i) work past = settles_past plan places i work (omega arith)

pub settles_next : (c now : EdgeLists) (i : ℕ) (work next whole : Work) → Keeps c now → c.ends.places ≡ end_places c.plan c.me → i < length now.ends.places
    → whole ≡ settles_downs c.plan (drop i (end_places c.plan c.me)) work → next ≡ mended_down now.plan (place_of now.ends i) (forgotten_down now.plan (place_of now.ends i) work)
    → whole ≡ settles_downs c.plan (drop (i + 1) (end_places c.plan c.me)) next
settles_next c now i work next whole keeps placed below so_far one =
    so_far
    ∙ (settles_more c.plan (end_places c.plan c.me) i no_place work (subst (λ (l : List EndPlace). i < length l) (keeps.places ∙ placed) below)
    ∙ ap (settles_downs c.plan (drop (i + 1) (end_places c.plan c.me)))
    (sym (one
    ∙ (ap (λ (p : Plan). mended_down p (place_of now.ends i) (forgotten_down p (place_of now.ends i) work)) keeps.plan
    ∙ ap (λ (l : List EndPlace). mended_down c.plan (slice_index_or l i no_place) (forgotten_down c.plan (slice_index_or l i no_place) work)) (keeps.places ∙ placed)))))

pub settles_end : (c : EdgeLists) (i : ℕ) (start work : Work) → c.ends.places ≡ end_places c.plan c.me → length c.ends.places ≤ i
    → settles_downs c.plan (end_places c.plan c.me) start ≡ settles_downs c.plan (drop i (end_places c.plan c.me)) work
    → work ≡ tells_downs c.plan (end_places c.plan c.me) (forgets_downs c.plan (end_places c.plan c.me) start)
settles_end c i start work placed past so_far =
    sym (so_far ∙ settles_past c.plan (end_places c.plan c.me) i work (subst (λ (l : List EndPlace). length l ≤ i) placed past)) ∙ settled_downs c.plan (end_places c.plan c.me) start

pub within_kept : (c now : EdgeLists) (i : ℕ) → Keeps c now → i < length c.ends.places → i < length now.ends.places
within_kept c now i keeps below = subst (λ (l : List EndPlace). i < length l) (sym keeps.places) below

-- ---- one end

pub local_at : (c : EdgeLists) (calls : List LinkCall) (out : List Effect) (slot : ℕ) → end_at (at_edge (seen c) calls out).edge (place_of c.ends slot) ≡ end_in c.ends slot
unfolding seen at_edge
local_at c calls out slot = refl

pub idle_declined : (plan : Plan) (told : Answers) (place : EndPlace) (work : Work) (declined : Bool) → (end_at work.edge place).local ≡ Idle declined → declined ≡ true → stays work
    ≡ mends_end plan told place work
idle_declined plan told place work declined is so =
    sym (ap (λ (l : LocalPart). mends_local plan told place l work) is ∙ ap (λ (b : Bool). mends_local plan told place (Idle b) work) so)

pub idle_wishes : (plan : Plan) (told : Answers) (place : EndPlace) (work : Work) (declined : Bool) (put : Spoken) → (end_at work.edge place).local ≡ Idle declined → declined ≡ false
    → put ≡ advertises_wish told place (wish plan work.edge place) work → put ≡ mends_end plan told place work
idle_wishes plan told place work declined put is so puts =
    puts ∙ sym (ap (λ (l : LocalPart). mends_local plan told place l work) is ∙ ap (λ (b : Bool). mends_local plan told place (Idle b) work) so)

pub advertised_ends : (plan : Plan) (told : Answers) (place : EndPlace) (work : Work) (label : ℕ) (content : Told) (put : Spoken) → (end_at work.edge place).local ≡ Advertised label content
    → put ≡ withdraws_unless told place label content (wish plan work.edge place) work → put ≡ mends_end plan told place work
advertised_ends plan told place work label content put is puts = puts ∙ sym (ap (λ (l : LocalPart). mends_local plan told place l work) is)

pub withdrawing_stays : (plan : Plan) (told : Answers) (place : EndPlace) (work : Work) (label : ℕ) → (end_at work.edge place).local ≡ Withdrawing label → stays work ≡ mends_end plan told place work
withdrawing_stays plan told place work label is = sym (ap (λ (l : LocalPart). mends_local plan told place l work) is)

-- ---- a status

pub status_idle : (plan : Plan) (told : Answers) (place : EndPlace) (work : Work) (declined : Bool) → (end_at work.edge place).local ≡ Idle declined → stays work ≡ mends_status plan told place work
status_idle plan told place work declined is = sym (ap (λ (l : LocalPart). mends_status_of plan told place l work) is)

pub status_withdrawing : (plan : Plan) (told : Answers) (place : EndPlace) (work : Work) (label : ℕ) → (end_at work.edge place).local ≡ Withdrawing label → stays work
    ≡ mends_status plan told place work
status_withdrawing plan told place work label is = sym (ap (λ (l : LocalPart). mends_status_of plan told place l work) is)

pub status_over : (plan : Plan) (told : Answers) (place : EndPlace) (work : Work) (label : ℕ) (content : Told) (put : Spoken) → (end_at work.edge place).local ≡ Advertised label content
    → put ≡ tells_over told place content (status_to_tell plan work.edge place) content.status work → put ≡ mends_status plan told place work
status_over plan told place work label content put is puts = puts ∙ sym (ap (λ (l : LocalPart). mends_status_of plan told place l work) is)

pub over_none : (told : Answers) (place : EndPlace) (content : Told) (now : PwStatus) (given : Option PwStatus) (work : Work) → given ≡ None → stays work ≡ tells_over told place content now given work
over_none told place content now given work none = sym (ap (λ (l : Option PwStatus). tells_over told place content now l work) none)

pub over_same : (told : Answers) (place : EndPlace) (content : Told) (status now : PwStatus) (given : Option PwStatus) (last : PwStatus) (work : Work) → status ≡ now → given
    ≡ Some last → (last.0 == status.0) ≡ true
    → stays work ≡ tells_over told place content now given work
over_same told place content status now given last work is some same =
    sym (ap (λ (b : Bool). cond b (stays work) (tells_new_status told place content status work)) same)
    ∙ (ap (λ (s : PwStatus). tells_over told place content s (Some last) work) is ∙ ap (λ (l : Option PwStatus). tells_over told place content now l work) (sym some))

pub over_new : (told : Answers) (place : EndPlace) (content : Told) (status now : PwStatus) (given : Option PwStatus) (last : PwStatus) (work : Work) (put : Spoken) → status ≡ now
    → given ≡ Some last → (last.0 == status.0) ≡ false
    → put ≡ tells_new_status told place content status work → put ≡ tells_over told place content now given work
over_new told place content status now given last work put is some other puts =
    puts
    ∙ (sym (ap (λ (b : Bool). cond b (stays work) (tells_new_status told place content status work)) other)
    ∙ (ap (λ (s : PwStatus). tells_over told place content s (Some last) work) is ∙ ap (λ (l : Option PwStatus). tells_over told place content now l work) (sym some)))

-- the local part of an end that was read
pub local_is : (c : EdgeLists) (calls : List LinkCall) (out : List Effect) (slot : ℕ) (read end : PwEnd) → end_of read ≡ end_in c.ends slot → read ≡ end
    → (end_at (at_edge (seen c) calls out).edge (place_of c.ends slot)).local ≡ (end_of end).local
local_is c calls out slot read end is so = ap (λ (e : EndState). e.local) (local_at c calls out slot ∙ (sym is ∙ ap end_of so))

-- ---- a wire that began to forward, or stopped

pub settled_other : (plan : Plan) (place at : EndPlace) (edge : EdgeState) (calls : List LinkCall) (out : List Effect) → at ≡ place → not at.terminal ≡ true
    → at_edge edge calls out ≡ mended_down plan place (forgotten_down plan place (at_edge edge calls out))
unfolding at_edge
settled_other plan place at edge calls out is other = sym (by place.terminal (ap (λ (p : EndPlace). p.terminal) (sym is) ∙ not-true at.terminal other)) where
  start : Work
  start = record { edge = edge; calls = calls; effects = out; idle = false }

  forgot : Bool → Work
  forgot terminal = cond terminal (forgets_down plan place (down_at plan edge place) start) start

  by : (terminal : Bool) → terminal ≡ false → cond terminal (tells_down place (down_at plan (forgot terminal).edge place) (forgot terminal)) (forgot terminal) ≡ start
  by false none = refl
  by true none = absurd (cc (none))

-- what was learned at a terminal end is forgotten by its cause, which is then told
pub settled_down : (plan : Plan) (place at : EndPlace) (down : Option Down) (edge mid : EdgeState) (calls : List LinkCall) (out : List Effect) (told : Work) → at ≡ place
    → not at.terminal ≡ false → down ≡ down_at plan edge place
    → mid ≡ cond (is_some down) (forgetting_wire plan at.wire (wire_row plan at.wire) edge) edge → told ≡ tells_down place down (at_edge mid calls out)
    → told ≡ mended_down plan place (forgotten_down plan place (at_edge edge calls out))
unfolding at_edge changes
settled_down plan place at down edge mid calls out told is own why forgets tells =
    tells
    ∙ (ap (tells_down place down) (ap (λ (e : EdgeState). record { edge = e; calls = calls; effects = out; idle = false }) forgets ∙ (ap (λ (p : EndPlace). forgot down p) is ∙ forgot_is down))
    ∙ (ap (λ (d : Option Down). tells_down place d (forgets_down plan place down start)) (why ∙ sym (forgets_alike plan place place down start).0)
    ∙ (ap (λ (d : Option Down). tells_down place (down_at plan (forgets_down plan place d start).edge place) (forgets_down plan place d start)) why
    ∙ sym (by place.terminal (ap (λ (p : EndPlace). p.terminal) (sym is) ∙ not-false at.terminal own)))))
  where
    start : Work
    start = record { edge = edge; calls = calls; effects = out; idle = false }

    forgot : Option Down → EndPlace → Work
    forgot d p = record { edge = cond (is_some d) (forgetting_wire plan p.wire (wire_row plan p.wire) edge) edge; calls = calls; effects = out; idle = false }

    forgot_is : (d : Option Down) → forgot d place ≡ forgets_down plan place d start
    forgot_is None = refl
    forgot_is (Some cause) = refl

    whole : Work
    whole = forgets_down plan place (down_at plan edge place) start

    after : Bool → Work
    after terminal = cond terminal whole start

    by : (terminal : Bool) → terminal ≡ true → cond terminal (tells_down place (down_at plan (after terminal).edge place) (after terminal)) (after terminal)
        ≡ tells_down place (down_at plan whole.edge place) whole
    by true so = refl
    by false so = absurd (cc (so))

-- ---- a spoke that was chosen anew

pub choice_stays : (plan : Plan) (told : Answers) (before : ℕ → Option WireId) (place : EndPlace) (edge : EdgeState) (calls : List LinkCall) (out : List Effect) (new : Bool)
    → new ≡ is_new_choice before edge.chosen place.wire (wire_row plan place.wire) → new ≡ false
    → stays (at_edge edge calls out) ≡ mends_choice plan told before place (at_edge edge calls out)
unfolding at_edge
choice_stays plan told before place edge calls out new is same =
    let start : Work = record { edge = edge; calls = calls; effects = out; idle = false } in
    sym (ap (λ (b : Bool). cond b (tells_piece told place [] start) (stays start)) (sym is ∙ same))

pub choice_tells : (plan : Plan) (told : Answers) (before : ℕ → Option WireId) (place : EndPlace) (edge : EdgeState) (calls : List LinkCall) (out : List Effect) (new : Bool) (put : Spoken)
    → new ≡ is_new_choice before edge.chosen place.wire (wire_row plan place.wire) → new ≡ true → put ≡ tells_piece told place [] (at_edge edge calls out)
    → put ≡ mends_choice plan told before place (at_edge edge calls out)
unfolding at_edge
choice_tells plan told before place edge calls out new put is other puts =
    let start : Work = record { edge = edge; calls = calls; effects = out; idle = false } in
    puts ∙ sym (ap (λ (b : Bool). cond b (tells_piece told place [] start) (stays start)) (sym is ∙ other))

no_new_choice : (chosen : ℕ → Option WireId) (wire : WireId) (row : Option WirePlan) → is_new_choice chosen chosen wire row ≡ false
no_new_choice chosen wire None = refl
no_new_choice chosen wire (Some row) = by (is_chosen_wire wire (chosen row.service.0)) where
  by : (b : Bool) → b && not b ≡ false
  by true = refl
  by false = refl

choices_not : (plan : Plan) (told : Answers) (places : List EndPlace) (m : Spoken) → each_end (mends_choice plan told m.work.edge.chosen) places m ≡ m
choices_not plan told [] m = refl
choices_not plan told (place ∷ places) m = ap (each_end (mends_choice plan told m.work.edge.chosen) places) one ∙ choices_not plan told places m where
  one : and_says m (mends_choice plan told m.work.edge.chosen place) ≡ m
  one =
      ap (λ (b : Bool). record { work = (cond b (tells_piece told place [] m.work) (stays m.work)).work; failed = m.failed || (cond b (tells_piece told place [] m.work) (stays m.work)).failed })
      (no_new_choice m.work.edge.chosen place.wire (wire_row plan place.wire))
      ∙ ap (λ (b : Bool). record { work = m.work; failed = b }) (or_false m.failed)

-- where the choice is as it was no spoke was chosen anew
pub same_choices : (plan : Plan) (told : Answers) (before : ℕ → Option WireId) (places : List EndPlace) (edge : EdgeState) (calls : List LinkCall) (out : List Effect) (failed : Bool)
    → before ≡ edge.chosen
    → record { work = at_edge edge calls out; failed = failed } ≡ each_end (mends_choice plan told before) places (record { work = at_edge edge calls out; failed = failed })
unfolding at_edge
same_choices plan told before places edge calls out failed same =
    let m : Spoken = record { work = record { edge = edge; calls = calls; effects = out; idle = false }; failed = failed } in
    sym (ap (λ (b : ℕ → Option WireId). each_end (mends_choice plan told b) places m) same ∙ choices_not plan told places m)

-- ---- what an end should tell

pub offer_holds : (plan : Plan) (wire : WireId) (row : WirePlan) (me : ℕ) → IsChecked plan → wire_row plan wire ≡ Some row → IsOffer (offer_of row me)
offer_holds plan wire row me checked is = of (is_first me row.path) where
  placed : IsWireOf plan row
  placed = row_holds (IsWireOf plan) plan.wires wire.0 row is checked.wires

  of : (b : Bool) → IsOffer (cond b row.near row.far)
  of true = placed.near
  of false = placed.far

pub wish_read : (c : EdgeLists) (slot : ℕ) (row : WirePlan) (place : EndPlace) (offer : Offer) (end : EndState) (remote : Option Binding) (bits : ℕ) (status : PwStatus) (wished : Option Told) → place ≡ place_of c.ends slot
    → offer ≡ offer_of row c.me.0 → end ≡ end_in c.ends slot → remote ≡ end.remote → bits ≡ (seen c).bits place.wire.0 → status ≡ status_to_tell c.plan (seen c) (place_of c.ends slot)
    → wished ≡ wish_of_offer offer remote bits status → wished ≡ terminal_wish c.plan (seen c) (place_of c.ends slot) (offer_of row (seen c).me.0)
unfolding seen
wish_read c slot row place offer end remote bits status wished at offers read held bit tells is =
    is
    ∙ (ap (λ (o : Offer). wish_of_offer o remote bits status) offers
    ∙ (ap (λ (r : Option Binding). wish_of_offer (offer_of row c.me.0) r bits status) (held ∙ ap (λ (e : EndState). e.remote) read)
    ∙ (ap (λ (b : ℕ). wish_of_offer (offer_of row c.me.0) (end_in c.ends slot).remote b status) (bit ∙ ap (λ (p : EndPlace). (seen c).bits p.wire.0) at)
    ∙ ap (λ (s : PwStatus). wish_of_offer (offer_of row c.me.0) (end_in c.ends slot).remote ((seen c).bits (place_of c.ends slot).wire.0) s) tells)))

-- why an end does not forward
pub down_read : (c : EdgeLists) (slot : ℕ) (place : EndPlace) (end : EndState) (role : EndRole) (bits : ℕ) (why : Option Down) → place ≡ place_of c.ends slot
    → end ≡ end_in c.ends slot → role ≡ role_at c.plan (seen c) (place_of c.ends slot) → bits ≡ (seen c).bits place.wire.0
    → why ≡ down role bits end → why ≡ down_at c.plan (seen c) (place_of c.ends slot)
unfolding seen
down_read c slot place end role bits why at read is bit so =
    so
    ∙ (ap (λ (r : EndRole). down r bits end) is
    ∙ (ap (λ (b : ℕ). down (role_at c.plan (seen c) (place_of c.ends slot)) b end) (bit ∙ ap (λ (p : EndPlace). (seen c).bits p.wire.0) at)
    ∙ ap (λ (e : EndState). down (role_at c.plan (seen c) (place_of c.ends slot)) ((seen c).bits (place_of c.ends slot).wire.0) e) read))

-- an end that advertises nothing does not forward
pub down_untold : (c : EdgeLists) (slot : ℕ) (end : EndState) (tells : Bool) → end ≡ end_in c.ends slot → tells ≡ has_told end.local → tells ≡ false
    → Some NoLocal ≡ down_at c.plan (seen c) (place_of c.ends slot)
unfolding seen down
down_untold c slot end tells read is none =
    by (own_told (end_in c.ends slot).local) (told_own (end_in c.ends slot).local (sym (is ∙ ap (λ (e : EndState). has_told e.local) read) ∙ none))
  where
    told_own : (own : LocalPart) → has_told own ≡ false → is_some (own_told own) ≡ false
    told_own (Idle declined) untold = refl
    told_own (Advertised label content) untold = absurd (cc (untold))
    told_own (Withdrawing label) untold = refl

    role : EndRole
    role = role_at c.plan (seen c) (place_of c.ends slot)

    by : (own : Option Told) → is_some own ≡ false → Some NoLocal ≡ first_cause role ((seen c).bits (place_of c.ends slot).wire.0) own (far_told (end_in c.ends slot).remote)
    by None e = refl
    by (Some own) e = absurd (cc (e))

-- an end tells nothing where its wire is off or the session is not up
pub untold_stays : (plan : Plan) (told : Answers) (place at : EndPlace) (edge : EdgeState) (calls : List LinkCall) (out : List Effect) (may : Bool) → at ≡ place → may
    ≡ may_tell_end edge at → may ≡ false
    → stays (at_edge edge calls out) ≡ advertises_wish told place (wish plan edge place) (at_edge edge calls out)
unfolding at_edge
untold_stays plan told place at edge calls out may is reads none =
    sym (ap (λ (w : Option Told). advertises_wish told place w start) (by (wire_row plan place.wire) (sym (reads ∙ ap (may_tell_end edge) is) ∙ none)))
  where
    start : Work
    start = record { edge = edge; calls = calls; effects = out; idle = false }

    by : (row : Option WirePlan) → may_tell_end edge place ≡ false → wish_of plan edge place row ≡ None
    by None e = refl
    by (Some row) e = rw e refl
