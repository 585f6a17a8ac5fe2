-- An edge that has mended has nothing to mend, whatever its link answered: a round of mending in which the link did not take a message
-- has ended a session, and there are more rounds than sessions.
use Rattle.std.proofs.Common.{◌≡◌, ◌≤◌, ◌<◌, ◌+◌, ◌&&◌, ◌||◌, ◌==◌, ◌∙◌, ℕ, zero, suc, Bool, true, false, List, [], ◌∷◌, Option, Some, None, cond, length, nat_eq, option_map, refl, sym, ap, subst, inl, inr, arith}
use Rattle.std.proofs.lemmas.Bool.{cases_Bool, eqb-true, and_parts, ltb-true}
use Rattle.std.proofs.lemmas.Bool.Decides.{nat_tests}
use Rattle.std.specs.List.{AllByRecursion, list_all}
use Rattle.net_values.proofs.NumberLemmas.{same_number}
use Rattle.net_values.proofs.RowLemmas.{row_holds}
use Rattle.net_base.specs.declared.plan.Plan.{Plan}
use Rattle.net_base.specs.declared.plan.places.EdgeId.{EdgeId}
use Rattle.net_base.specs.declared.plan.places.WireId.{WireId}
use Rattle.net_base.specs.declared.plan.wire_plan.WirePlan.{WirePlan}
use Rattle.net_base.specs.declared.trace.state_name.Reason.TheVariants as reason
use Rattle.net_base.specs.plan.Accepted.{IsWireOf}
use Rattle.net_base.specs.plan.Paths.{joins}
use Rattle.net_base.specs.plan.Places.{wire_row}
use Rattle.net_base.specs.plan.RowFaults.{is_edge_of}
use Rattle.ldp_grammar.specs.declared.message.Message.{Message}
use Rattle.pw_tlvs.specs.declared.pw_status.PwStatus.{PwStatus}
use Rattle.pw_signalling.specs.declared.told.Told.{Told}
use Rattle.pw_signalling.specs.End.{LocalPart, Idle, Advertised, Withdrawing}
use Rattle.pw_messages.specs.Content.{mac_withdrawal, mapping, status_notification, withdrawal}
use Rattle.pw_messages.specs.LinkAnswers.{Answers}
use Rattle.edge_model.specs.declared.effect.Effect.TheVariants.{Wire}
use Rattle.edge_model.specs.declared.end_place.EndPlace.{EndPlace}
use Rattle.edge_model.specs.EndPlaces.{end_places}
use Rattle.edge_model.specs.Mend.{advertises_under, advertises_wish, advertising, and_says, each_end, forgets_downs, is_new_choice, mends, mends_choice, mends_end, mends_few, mends_local, mends_once, mends_status, mends_status_of, tells_down, tells_downs, tells_over, telling_status, then_changes, wish, withdrawing, withdraws_unless, offer_stands, withdraws}
use Rattle.edge_model.specs.Mended.{HasFitPaths, MendsAtOnce}
use Rattle.edge_model.specs.Put.{Spoken, having_spoken, message_octets_of, put_octets, stays, with_spoken}
use Rattle.edge_model.specs.Role.{down_at, status_to_tell}
use Rattle.edge_model.specs.Session.{clears_ends, ends, had_said, says, says_to}
use Rattle.edge_model.specs.Spokes.{choosing}
use Rattle.edge_model.specs.State.{EdgeState, Peering, end_at, is_there, with_chosen, with_end, with_next_label, with_peering, with_told_down, with_kept}
use Rattle.edge_model.specs.Withdraw.{tells_piece, tells_piece_by}
use Rattle.edge_model.specs.Work.{Work, changes, gives, next_answer, puts}
use Rattle.edge_model.proofs.BridgeLemmas.{forgets_downs_only}
use Rattle.edge_model.proofs.HeldLemmas.{clears_keep}
use Rattle.edge_model.proofs.MendLemmas.{says_nothing, says_taken}
use Rattle.edge_model.proofs.MendedLemmas.{HasOneEnd, IsMended, mends_not, round_mends}
use Rattle.edge_model.proofs.OneEndLemmas.{one_neighbour}
use Rattle.edge_model.proofs.PlaceLemmas.{IsEndOf, all-map, places_are}
use Rattle.edge_model.specs.Labels.{label_to_give}

-- ---- how many are so

-- of the first n
abbrev count : (ℕ → Bool) → ℕ → ℕ
count so zero = 0
count so (suc n) = cond (so n) 1 0 + count so n

count_same : (f g : ℕ → Bool) (n : ℕ) → ((k : ℕ) → k < n → g k ≡ f k) → count g n ≡ count f n
count_same f g zero same = refl
count_same f g (suc n) same =
    ap (λ (b : Bool). cond b 1 0 + count g n) (same n (omega arith))
    ∙ ap (λ (c : ℕ). cond (f n) 1 0 + c) (count_same f g n (λ k less. same k (omega (arith, less))))

count_most : (f : ℕ → Bool) (n : ℕ) → count f n ≤ n
count_most f zero = omega arith
count_most f (suc n) =
    let rest : count f n ≤ n = count_most f n in
    elim (f n) as (λ v. cond v 1 0 + count f n ≤ suc n) [
      | true ↦ omega arith
      | false ↦ omega arith
    ]

apart_of : (n p : ℕ) → nat_eq n p ≡ false → p < suc n → p < n
apart_of n p apart within = grind (arith, nat_tests)

less_apart : (k n p : ℕ) → n ≡ p → k < n → nat_eq k p ≡ false
less_apart k n p is less = grind (arith, nat_tests)

-- one of them is no longer
count_less : (f g : ℕ → Bool) (p : ℕ) → f p ≡ true → g p ≡ false → ((k : ℕ) → nat_eq k p ≡ false → g k ≡ f k) → (n : ℕ) → p < n → count g n + 1 ≡ count f n
count_less f g p was is others zero within = absurd (omega (arith, within))
count_less f g p was is others (suc n) within = elim (cases_Bool (nat_eq n p)) [
  | inl here ↦
      (let same : n ≡ p = eqb-true n p here in
      let rest : count g n ≡ count f n = count_same f g n (λ k less. others k (less_apart k n p same less)) in
      let old : count f (suc n) ≡ 1 + count f n = ap (λ (b : Bool). cond b 1 0 + count f n) (ap f same ∙ was) in
      let new : count g (suc n) ≡ 0 + count g n = ap (λ (b : Bool). cond b 1 0 + count g n) (ap g same ∙ is) in
      omega (arith, rest, old, new))
  | inr away ↦
      (let rest : count g n + 1 ≡ count f n = count_less f g p was is others n (apart_of n p away within) in
      let new : count g (suc n) ≡ cond (f n) 1 0 + count g n = ap (λ (b : Bool). cond b 1 0 + count g n) (others n away) in
      joined (cond (f n) 1 0) (count g n) (count f n) (count g (suc n)) rest new)
]
  where
    joined : (b g_n f_n g_next : ℕ) → g_n + 1 ≡ f_n → g_next ≡ b + g_n → g_next + 1 ≡ b + f_n
    joined b g_n f_n g_next rest new = omega (arith, rest, new)

-- ---- sessions that stand

abbrev standing : EdgeState → ℕ → Bool
standing edge k = is_there (edge.peering k)

-- no session came up, and one went down where a message was not taken
record Loses (n : ℕ) (old : Work) (said : Spoken) : Type 0 where
  few : count (standing said.work.edge) n ≤ count (standing old.edge) n
  less : said.failed ≡ true → count (standing said.work.edge) n < count (standing old.edge) n

stays_loses : (n : ℕ) (work : Work) → Loses n work (stays work)
stays_loses n work = record { few = omega arith; less = λ failed. absurd (cc (failed)) }

and_loses : (n : ℕ) (old : Work) (m : Spoken) (next : Work → Spoken) → Loses n old m → Loses n m.work (next m.work) → Loses n old (and_says m next)
and_loses n old m next first then = record { few = omega (arith, first.few, then.few); less = by m.failed refl } where
  sum : (a b c : ℕ) → b ≤ a → c < b → c < a
  sum a b c one other = omega (arith, one, other)

  by : (b : Bool) → m.failed ≡ b → b || (next m.work).failed ≡ true → count (standing (next m.work).work.edge) n < count (standing old.edge) n
  by true is failed = lower (count (standing old.edge) n) (count (standing m.work.edge) n) (count (standing (next m.work).work.edge) n) (first.less is) then.few where
    lower : (a b c : ℕ) → b < a → c ≤ b → c < a
    lower a b c one other = omega (arith, one, other)
  by false is failed = sum (count (standing old.edge) n) (count (standing m.work.edge) n) (count (standing (next m.work).work.edge) n) first.few (then.less failed)

pub there_spoken : (kept : Option Peering) → is_there (option_map having_spoken kept) ≡ is_there kept
there_spoken None = refl
there_spoken (Some kept) = refl

-- a message that is put
put_stands : (peer : EdgeId) (bytes : List ℕ) (work : Work) (k : ℕ) → standing (put_octets peer bytes true work).work.edge k ≡ standing work.edge k
unfolding changes gives puts with_peering with_spoken
put_stands peer bytes work k = elim (cases_Bool (nat_eq k peer.0)) [
  | inl here ↦ rw here (there_spoken (work.edge.peering peer.0) ∙ ap (λ (j : ℕ). is_there (work.edge.peering j)) (sym (eqb-true k peer.0 here)))
  | inr away ↦ rw away refl
]

-- and one that the link did not take
abbrev pub refused : EdgeId → List ℕ → Work → Work
refused peer bytes work = clears_ends peer (ends peer reason.LinkFault (puts peer bytes false work))

pub refused_keeps : (peer : EdgeId) (bytes : List ℕ) (work : Work) → (refused peer bytes work).edge.peering ≡ (with_peering peer None work.edge).peering
unfolding changes gives puts with_peering
refused_keeps peer bytes work = clears_keep peer (ends peer reason.LinkFault (puts peer bytes false work))

gone : (peer : EdgeId) (edge : EdgeState) → standing (with_peering peer None edge) peer.0 ≡ false
unfolding with_peering
gone peer edge = ap (λ (b : Bool). is_there (cond b None (edge.peering peer.0))) (same_number peer.0)

others_stand : (peer : EdgeId) (edge : EdgeState) (k : ℕ) → nat_eq k peer.0 ≡ false → standing (with_peering peer None edge) k ≡ standing edge k
unfolding with_peering
others_stand peer edge k away = ap (λ (b : Bool). is_there (cond b None (edge.peering k))) away

refused_less : (n : ℕ) (peer : EdgeId) (bytes : List ℕ) (kept : Peering) (work : Work) → peer.0 < n → work.edge.peering peer.0 ≡ Some kept
    → count (standing (refused peer bytes work).edge) n + 1 ≡ count (standing work.edge) n
refused_less n peer bytes kept work within is =
    count_less (standing work.edge) (standing (refused peer bytes work).edge) peer.0 (ap (λ (o : Option Peering). is_there o) is)
    (now peer.0 ∙ gone peer work.edge) (λ k away. now k ∙ others_stand peer work.edge k away) n within
  where
    now : (k : ℕ) → standing (refused peer bytes work).edge k ≡ standing (with_peering peer None work.edge) k
    now k = ap (λ (peering : ℕ → Option Peering). is_there (peering k)) (refused_keeps peer bytes work)

says_loses : (n : ℕ) (told : Answers) (peer : EdgeId) (message : ℕ → Message) (work : Work) → peer.0 < n → Loses n work (says told peer message work)
unfolding puts
says_loses n told peer message work within = by (work.edge.peering peer.0) refl where
  by : (kept : Option Peering) → work.edge.peering peer.0 ≡ kept → Loses n work (says told peer message work)
  by None is = subst (λ (s : Spoken). Loses n work s) (sym (says_nothing told peer message work is)) (stays_loses n work)
  by (Some kept) is = taken (next_answer told work) refl where
    bytes : List ℕ
    bytes = message_octets_of kept message

    taken : (b : Bool) → next_answer told work ≡ b → Loses n work (says told peer message work)
    taken true takes =
        let same : count (standing (put_octets peer bytes true work).work.edge) n ≡ count (standing work.edge) n =
        count_same (standing work.edge) (standing (put_octets peer bytes true work).work.edge) n (λ k less. put_stands peer bytes work k) in
        subst (λ (s : Spoken). Loses n work s) (sym (says_taken told peer message kept work takes is))
        (record { few = omega (arith, same); less = λ failed. absurd (cc (failed)) })
    taken false takes =
        let all : says told peer message work ≡ record { work = refused peer bytes work; failed = true } =
        ap (λ (o : Option Peering). says_to told peer message o work) is ∙ ap (λ (b : Bool). had_said peer (put_octets peer bytes b work)) takes in
        let less : count (standing (refused peer bytes work).edge) n + 1 ≡ count (standing work.edge) n = refused_less n peer bytes kept work within is in
        subst (λ (s : Spoken). Loses n work s) (sym all)
        (record { few = omega (arith, less); less = λ failed. omega (arith, less) })

-- ---- a round of mending

module _ (plan : Plan) (told : Answers) (n : ℕ) where
  mends_end_loses : (place : EndPlace) (work : Work) → place.peer.0 < n → Loses n work (mends_end plan told place work)
  unfolding changes with_end with_next_label with_kept
  mends_end_loses place work within = of (end_at work.edge place).local where
    begun : ℕ → Told → Work
    begun label content = changes (advertising place label content) work

    left : (content : Told) (r : Option ℕ) → Loses n work (advertises_under told place content r work)
    left content None = stays_loses n work
    left content (Some label) =
        let said : Loses n (begun label content) (says told place.peer (mapping place.pw_id label content) (begun label content)) =
        says_loses n told place.peer (mapping place.pw_id label content) (begun label content) within in
        record { few = said.few; less = said.less }

    idle : (wished : Option Told) → Loses n work (advertises_wish told place wished work)
    idle None = stays_loses n work
    idle (Some content) = left content (label_to_give work.edge)

    told_it : (label : ℕ) (content : Told) (wished : Option Told) → Loses n work (withdraws_unless told place label content wished work)
    told_it label content wished = by (offer_stands place content wished) where
      by : (b : Bool) → Loses n work (cond b (stays work) (withdraws told place label content work))
      by true = stays_loses n work
      by false =
          let said : Loses n (changes (withdrawing place) work) (says told place.peer (withdrawal place.pw_id label content) (changes (withdrawing place) work)) =
          says_loses n told place.peer (withdrawal place.pw_id label content) (changes (withdrawing place) work) within in
          record { few = said.few; less = said.less }

    of : (local : LocalPart) → Loses n work (mends_local plan told place local work)
    of (Idle true) = stays_loses n work
    of (Idle false) = idle (wish plan work.edge place)
    of (Advertised label content) = told_it label content (wish plan work.edge place)
    of (Withdrawing label) = stays_loses n work

  mends_status_loses : (place : EndPlace) (work : Work) → place.peer.0 < n → Loses n work (mends_status plan told place work)
  unfolding changes with_end with_kept
  mends_status_loses place work within = of (end_at work.edge place).local where
    status : PwStatus
    status = status_to_tell plan work.edge place

    by : (content : Told) (b : Bool) → Loses n work (cond b (stays work) (says told place.peer (status_notification place.pw_id status content) (changes (telling_status place status) work)))
    by content true = stays_loses n work
    by content false =
        let said : Loses n (changes (telling_status place status) work) (says told place.peer (status_notification place.pw_id status content) (changes (telling_status place status) work)) =
        says_loses n told place.peer (status_notification place.pw_id status content) (changes (telling_status place status) work) within in
        record { few = said.few; less = said.less }

    over : (content : Told) (last : Option PwStatus) → Loses n work (tells_over told place content status last work)
    over content None = stays_loses n work
    over content (Some last) = by content (nat_eq last.0 status.0)

    of : (local : LocalPart) → Loses n work (mends_status_of plan told place local work)
    of (Idle declined) = stays_loses n work
    of (Advertised label content) = over content content.status
    of (Withdrawing label) = stays_loses n work

  mends_choice_loses : (chosen : ℕ → Option WireId) (place : EndPlace) (work : Work) → place.peer.0 < n → Loses n work (mends_choice plan told chosen place work)
  mends_choice_loses chosen place work within = by (is_new_choice chosen work.edge.chosen place.wire (wire_row plan place.wire)) where
    of : (local : LocalPart) → Loses n work (tells_piece_by told place [] local work)
    of (Idle declined) = stays_loses n work
    of (Advertised label content) = says_loses n told place.peer (mac_withdrawal place.pw_id [] content) work within
    of (Withdrawing label) = stays_loses n work

    by : (b : Bool) → Loses n work (cond b (tells_piece told place [] work) (stays work))
    by true = of (end_at work.edge place).local
    by false = stays_loses n work

  each_loses : (mend : EndPlace → Work → Spoken) → ((place : EndPlace) (work : Work) → place.peer.0 < n → Loses n work (mend place work))
      → (places : List EndPlace) → AllByRecursion (λ place. place.peer.0 < n) places → (old : Work) (m : Spoken) → Loses n old m → Loses n old (each_end mend places m)
  each_loses mend one [] all old m before = before
  each_loses mend one (place ∷ places) all old m before =
      each_loses mend one places all.1 old (and_says m (mend place)) (and_loses n old m (mend place) before (one place m.work all.0))

  tells_downs_keep : (places : List EndPlace) (work : Work) → (tells_downs plan places work).edge.peering ≡ work.edge.peering
  unfolding changes gives with_told_down
  tells_downs_keep [] work = refl
  tells_downs_keep (place ∷ places) work = tells_downs_keep places (cond place.terminal (tells_down place (down_at plan work.edge place) work) work) ∙ by place.terminal where
    of : (b : Bool) → (cond b work (gives (Wire place.wire (down_at plan work.edge place)) (changes (with_told_down place.wire (down_at plan work.edge place)) work))).edge.peering ≡ work.edge.peering
    of true = refl
    of false = refl

    by : (b : Bool) → (cond b (tells_down place (down_at plan work.edge place) work) work).edge.peering ≡ work.edge.peering
    by true = of _
    by false = refl

  round_loses : (work : Work) → AllByRecursion (λ place. place.peer.0 < n) (end_places plan work.edge.me) → Loses n work (mends_once plan told work)
  unfolding changes with_chosen
  round_loses work all =
      let places : List EndPlace = end_places plan work.edge.me in
      let first : Spoken = each_end (mends_end plan told) places (stays work) in
      let one : Loses n work first = each_loses (mends_end plan told) mends_end_loses places all work (stays work) (stays_loses n work) in
      let chosen : Spoken = then_changes (choosing plan) first in
      let two : Loses n work chosen = record { few = one.few; less = one.less } in
      let second : Spoken = each_end (mends_status plan told) places chosen in
      let three : Loses n work second = each_loses (mends_status plan told) mends_status_loses places all work chosen two in
      let third : Spoken = each_end (mends_choice plan told work.edge.chosen) places second in
      let four : Loses n work third = each_loses (mends_choice plan told work.edge.chosen) (mends_choice_loses work.edge.chosen) places all work second three in
      let forgot : Work = forgets_downs plan places third.work in
      let same : (tells_downs plan places forgot).edge.peering ≡ third.work.edge.peering = tells_downs_keep places forgot ∙ (forgets_downs_only plan places third.work).edge.peering in
      record {
        few = subst (λ (peering : ℕ → Option Peering). count (λ k. is_there (peering k)) n ≤ count (standing work.edge) n) (sym same) four.few;
        less = λ failed. subst (λ (peering : ℕ → Option Peering). count (λ k. is_there (peering k)) n < count (standing work.edge) n) (sym same) (four.less failed);
      }

-- ---- rounds of mending

-- more of them than sessions
rounds_mend : (plan : Plan) (told : Answers) → ((me : EdgeId) → HasOneEnd plan me) → ((me : EdgeId) → AllByRecursion (λ place. place.peer.0 < length plan.edges) (end_places plan me))
    → (fuel : ℕ) (work : Work) → count (standing work.edge) (length plan.edges) ≤ fuel → IsMended plan (mends_few plan told (suc fuel) work).edge
rounds_mend plan told one within zero work few = by (mends_once plan told work).failed refl where
  next : Work
  next = (mends_once plan told work).work

  none : (a b : ℕ) → a < b → b ≤ zero → ⊥
  none a b less few = omega (arith, less, few)

  by : (b : Bool) → (mends_once plan told work).failed ≡ b → IsMended plan (cond b (mends_few plan told zero next) next).edge
  by false took = round_mends plan told work (one work.edge.me) took
  by true failed = absurd (none (count (standing next.edge) (length plan.edges)) (count (standing work.edge) (length plan.edges))
      ((round_loses plan told (length plan.edges) work (within work.edge.me)).less failed) few)
rounds_mend plan told one within (suc fuel) work few = by (rounds_mend plan told one within fuel (mends_once plan told work).work) (mends_once plan told work).failed refl where
  next : Work
  next = (mends_once plan told work).work

  fewer : (a b : ℕ) → a < b → b ≤ suc fuel → a ≤ fuel
  fewer a b less few = omega (arith, less, few)

  by : (count (standing next.edge) (length plan.edges) ≤ fuel → IsMended plan (mends_few plan told (suc fuel) next).edge)
      → (b : Bool) → (mends_once plan told work).failed ≡ b → IsMended plan (cond b (mends_few plan told (suc fuel) next) next).edge
  by again false took = round_mends plan told work (one work.edge.me) took
  by again true failed =
      again
      (fewer (count (standing next.edge) (length plan.edges)) (count (standing work.edge) (length plan.edges)) ((round_loses plan told (length plan.edges) work (within work.edge.me)).less failed) few)

-- ---- paths of edges of the plan, each once

one_of : (a b first next n : ℕ) → first < n → next < n → ((a == first && b == next) || (b == first && a == next)) || false ≡ true → b < n
one_of a b first next n one other joined = grind (arith, nat_tests)

joined_within : (plan : Plan) (path : List EdgeId) (a b : ℕ) → list_all (is_edge_of plan) path ≡ true → joins a b path ≡ true → b < length plan.edges
joined_within plan [] a b all joined = absurd (cc (joined))
joined_within plan (last ∷ []) a b all joined = absurd (cc (joined))
joined_within plan (first ∷ next ∷ rest) a b all joined =
    let parts = and_parts (is_edge_of plan first) (list_all (is_edge_of plan) (next ∷ rest)) all in
    let more = and_parts (is_edge_of plan next) (list_all (is_edge_of plan) rest) parts.1 in
    by (joins a b (next ∷ rest)) (joined_within plan (next ∷ rest) a b parts.1) refl (ltb-true first.0 (length plan.edges) parts.0) (ltb-true next.0 (length plan.edges) more.0) joined
  where
    by : (later : Bool) → (joins a b (next ∷ rest) ≡ true → b < length plan.edges) → joins a b (next ∷ rest) ≡ later → first.0 < length plan.edges → next.0 < length plan.edges
        → ((a == first.0 && b == next.0) || (b == first.0 && a == next.0)) || later ≡ true → b < length plan.edges
    by true on is one other joined = on is
    by false on is one other joined = one_of a b first.0 next.0 (length plan.edges) one other joined

peers_within : (plan : Plan) → HasFitPaths plan → (me : EdgeId) → AllByRecursion (λ place. place.peer.0 < length plan.edges) (end_places plan me)
peers_within plan fit me =
    all-map (IsEndOf plan me) (λ place. place.peer.0 < length plan.edges) (end_places plan me)
    (λ place end. joined_within plan end.row.path me.0 place.peer.0 (fit.edges place.wire end.row end.is) end.joined) (places_are plan me)

pub one_end : (plan : Plan) → HasFitPaths plan → (me : EdgeId) → HasOneEnd plan me
one_end plan fit me p q one other first second w =
    one_neighbour one.row.path me.0 p.peer.0 q.peer.0 (fit.once p.wire one.row one.is)
    (sym one.terminal ∙ first) one.joined (subst (λ (row : WirePlan). joins me.0 q.peer.0 row.path ≡ true) same other.joined)
  where
    rows : Some other.row ≡ Some one.row
    rows = sym other.is ∙ (ap (λ (n : ℕ). wire_row plan (record { 0 = n })) (sym w) ∙ one.is)

    same : other.row ≡ one.row
    same = cc (rows)

pub mends_at_once : MendsAtOnce
mends_at_once = record {
  twice = λ plan told work fit.
      mends_not plan told (mends plan told work)
      (rounds_mend plan told (one_end plan fit) (peers_within plan fit) (length plan.edges) work (count_most (standing work.edge) (length plan.edges)));
  fit = λ plan checked. record {
    edges = λ wire row is. (row_holds (IsWireOf plan) plan.wires wire.0 row is checked.wires).edges;
    once = λ wire row is. (row_holds (IsWireOf plan) plan.wires wire.0 row is checked.wires).once;
  };
}
