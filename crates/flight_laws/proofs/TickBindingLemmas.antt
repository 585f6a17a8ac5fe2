-- A tick keeps what is left of the ends of wires: a number whose rest ends is named by no message and owned by no end.
use Rattle.std.proofs.Common.{◌≡◌, ◌≤◌, ◌<◌, ◌+◌, ◌==◌, ◌&&◌, ◌||◌, ◌∙◌, not, nat_eq, nat_lt, length, ℕ, zero, suc, Bool, true, false, cond, List, [], ◌∷◌, Option, Some, None, refl, sym, ap, subst, arith}
use Rattle.std.proofs.lemmas.Bool.{eqb-true, and_from, lt-ltb}
use Rattle.std.proofs.lemmas.Bool.Decides.{nat_tests}
use Rattle.std.specs.List.{list_any}
use Rattle.net_values.proofs.BoolLemmas.{first_holds, clash, second_holds}
use Rattle.net_values.proofs.NumberLemmas.{same_number, apart_back}
use Rattle.net_values.proofs.OptionLemmas.{same_number_held}
use Rattle.net_base.specs.declared.plan.Plan.{Plan}
use Rattle.net_base.specs.declared.plan.places.EdgeId.{EdgeId}
use Rattle.net_base.specs.plan.Accepted.{IsChecked}
use Rattle.label_space.specs.declared.kept.Kept.{Kept}
use Rattle.label_space.specs.declared.kept.KeptState.{KeptState}
use Rattle.label_space.specs.declared.kept.KeptState.TheVariants.{Waits, Rests, Free}
use Rattle.label_space.specs.Kept.{AreRisingBy, is_free_state, kept_at, label_of, ticked, ticked_state}
use Rattle.ldp_grammar.specs.declared.message.Message.{Message}
use Rattle.ldp_grammar.specs.declared.message.Message.TheVariants.{Notification, LabelWithdraw, LabelRelease}
use Rattle.pw_signalling.specs.End.{LocalPart, Idle, Advertised, Withdrawing}
use Rattle.session_core.specs.declared.peers.Peers.{Peers}
use Rattle.edge_model.specs.declared.end_place.EndPlace.{EndPlace}
use Rattle.edge_model.specs.Signal.{end_of_fec}
use Rattle.edge_model.specs.State.{EdgeState, Peering, is_there, with_kept, with_ticks}
use Rattle.edge_model.specs.Tick.{counted, tick_input}
use Rattle.edge_model.specs.Work.{changes}
use Rattle.network_model.specs.Absorb.{begin_at, taken_all}
use Rattle.network_model.specs.State.{NetworkState, held, with_older}
use Rattle.network_model.specs.Tick.{tick_at, tick_event, ticks_from}
use Rattle.flight_laws.specs.Bound.{AreBound, LeavesBound, given_of, has_advertised, is_free_one, is_old, is_release_of, is_waited_for, is_withdrawal_of, names_old, releases_old, some_message, withdraws_old}
use Rattle.flight_laws.specs.Ends.{HasTypes, IsOrdered, WorksOn, ends_at}
use Rattle.flight_laws.specs.Facts.{flight}
use Rattle.flight_laws.specs.Flight.{all_messages}
use Rattle.flight_laws.specs.Pair.{AreFit, StandsIf}
use Rattle.flight_laws.specs.Rules.{AllMessages, MayBeKept, MayName, MayNameAt, NamesFar, NamesOwn, OwnsItsLabels, part_owns}
use Rattle.flight_laws.proofs.BoundEventLemmas.{Bounds, Starts, begins_bound, held_now, starts, work_bounds}
use Rattle.flight_laws.proofs.EventLemmas.{older_ordered}
use Rattle.flight_laws.proofs.MentionLemmas.{all_kept}
use Rattle.flight_laws.proofs.NameLemmas.{HasKept}
use Rattle.flight_laws.proofs.RuledEventLemmas.{older_ruled, tick_at_ruled}
use Rattle.flight_laws.proofs.RuledLemmas.{IsRuled}
use Rattle.flight_laws.proofs.RuledNetworkLemmas.{IsRuledNetwork, RulesTo}
use Rattle.flight_laws.proofs.RuledRunLemmas.{messages_said}
use Rattle.flight_laws.proofs.UniqueLemmas.{said_once}
use Rattle.flight_laws.proofs.WorkBindingLemmas.{WorksBound, bound_work_kept}
use Rattle.flight_laws.proofs.WorkingLemmas.{tick_kept}
use Rattle.flight_laws.proofs.WorksLemmas.{work_keeps, works_begin, works_counted, works_kept}
use Rattle.flight_laws.proofs.CommonLemmas.{no_more}

-- ---- a number that may be named is not free after a tick

none_above : (label from : ℕ) (kept : List Kept) → label < from → AreRisingBy label_of from kept → list_any (is_free_one label) (ticked kept) ≡ false
none_above label from [] low rising = refl
none_above label from (k ∷ ks) low rising =
    let first : from ≤ k.label = rising.0 in
    rw (unlike k.label label from first low) (none_above label (k.label + 1) ks (omega (arith, low, first)) rising.1)
  where
    unlike : (n label from : ℕ) → from ≤ n → label < from → nat_eq n label ≡ false
    unlike n label from first low = grind (arith, nat_tests)

may_not_free : (label peer from : ℕ) (kept : List Kept) → AreRisingBy label_of from kept → MayBeKept peer None (kept_at label kept) → list_any (is_free_one label) (ticked kept) ≡ false
may_not_free label peer from [] rising may = refl
may_not_free label peer from (k ∷ ks) rising may = by (nat_eq k.label label) refl may (λ rest. may_not_free label peer (k.label + 1) ks rising.1 rest) where
  head : (s : KeptState) → MayBeKept peer None (Some s) → is_free_state (ticked_state s) ≡ false
  head (Waits other) may = refl
  head (Rests ticks) may = absurd may
  head Free may = absurd may

  by : (here : Bool) → nat_eq k.label label ≡ here → MayBeKept peer None (cond here (Some k.state) (kept_at label ks))
      → (MayBeKept peer None (kept_at label ks) → list_any (is_free_one label) (ticked ks) ≡ false) → (here && is_free_state (ticked_state k.state)) || list_any (is_free_one label) (ticked ks) ≡ false
  by true is may later = rw (head k.state may) (none_above label (k.label + 1) ks (omega (arith, eqb-true k.label label is)) rising.1)
  by false is may later = later may

counted_rest : (edge : EdgeState) → ((counted edge).next_label ≡ edge.next_label) × ((counted edge).kept ≡ ticked edge.kept)
unfolding with_ticks with_kept
counted_rest edge = (refl, refl)

pub named_given : (edge : EdgeState) (wire peer label : ℕ) → HasKept edge → MayName edge wire peer label → given_of (counted edge) label ≡ true
named_given edge wire peer label has may =
    let rest = counted_rest edge in
    and_from (nat_lt label (counted edge).next_label) (not (list_any (is_free_one label) (counted edge).kept))
    (subst (λ (n : ℕ). nat_lt label n ≡ true) (sym rest.0) (lt-ltb label edge.next_label may.below))
    (subst (λ (ks : List Kept). not (list_any (is_free_one label) ks) ≡ true) (sym rest.1) (ap (λ (b : Bool). not b) (may_not_free label peer 0 edge.kept has.rising may.kept)))

-- ---- what is said of old labels

old_on : (pw_id : ℕ) (next next2 : ℕ → Bool) (near : LocalPart) (named label : Option ℕ) → ((own : ℕ) → label ≡ Some own → next2 own ≡ true) → names_old pw_id next near named label
    ≡ true → names_old pw_id next2 near named label ≡ true
old_on pw_id next next2 near None label given old = clash old
old_on pw_id next next2 near (Some other) None given old = clash old
old_on pw_id next next2 near (Some other) (Some own) given old = either (other == pw_id) old where
  either : (same : Bool) → not same || is_old next near own ≡ true → not same || is_old next2 near own ≡ true
  either true old = and_from (next2 own) (not (has_advertised near own)) (given own refl) (second_holds (next own) (not (has_advertised near own)) old)
  either false old = refl

given_at : (edge : EdgeState) (peer label : ℕ) (place : Option EndPlace) → HasKept edge → MayNameAt edge peer place label → given_of (counted edge) label ≡ true
given_at edge peer label None has may = absurd may
given_at edge peer label (Some place) has may = named_given edge place.wire.0 peer label has may

withdraws_on : (plan : Plan) (edge : EdgeState) (peer pw_id : ℕ) (near : LocalPart) (m : Message) → HasKept edge → NamesOwn plan edge peer m
    → withdraws_old pw_id (given_of edge) near m ≡ true → withdraws_old pw_id (given_of (counted edge)) near m ≡ true
withdraws_on plan edge peer pw_id near (LabelWithdraw id fec None) has may old = old_on pw_id (given_of edge) (given_of (counted edge)) near fec.pw_id None (λ own is. nothing own is) old where
  nothing : {P : Type 0} (own : ℕ) → None ≡ Some own → P
  nothing own e = absurd (cc)
withdraws_on plan edge peer pw_id near (LabelWithdraw id fec (Some label)) has may old =
    old_on pw_id (given_of edge) (given_of (counted edge)) near fec.pw_id (Some label)
    (λ own is. subst (λ (l : ℕ). given_of (counted edge) l ≡ true) (same_number_held label own is) (given_at edge peer label (end_of_fec plan edge (record { 0 = peer }) fec) has may)) old
withdraws_on plan edge peer pw_id near (Notification id code status None) has may old = refl
withdraws_on plan edge peer pw_id near (Notification id code status (Some fec)) has may old = old
withdraws_on plan edge peer pw_id near m has may old = old

releases_on : (plan : Plan) (edge : EdgeState) (peer pw_id : ℕ) (near : LocalPart) (m : Message) → HasKept edge → NamesFar plan edge peer m → releases_old pw_id (given_of edge) near m
    ≡ true → releases_old pw_id (given_of (counted edge)) near m ≡ true
releases_on plan edge peer pw_id near (LabelRelease id fec None) has may old = old_on pw_id (given_of edge) (given_of (counted edge)) near fec.pw_id None (λ own is. nothing own is) old where
  nothing : {P : Type 0} (own : ℕ) → None ≡ Some own → P
  nothing own e = absurd (cc)
releases_on plan edge peer pw_id near (LabelRelease id fec (Some label)) has may old =
    old_on pw_id (given_of edge) (given_of (counted edge)) near fec.pw_id (Some label)
    (λ own is. subst (λ (l : ℕ). given_of (counted edge) l ≡ true) (same_number_held label own is) (given_at edge peer label (end_of_fec plan edge (record { 0 = peer }) fec) has may)) old
releases_on plan edge peer pw_id near m has may old = old

all_on : (test test2 : Message → Bool) (P : Message → Type 0) (ms : List Message) → ((m : Message) → P m → test m ≡ true → test2 m ≡ true) → AllMessages P ms → all_messages test ms
    ≡ true → all_messages test2 ms ≡ true
all_on test test2 P [] next are all = refl
all_on test test2 P (m ∷ ms) next are all =
    and_from (test2 m) (all_messages test2 ms) (next m are.0 (first_holds (test m) (all_messages test ms) all)) (all_on test test2 P ms next are.1 (second_holds (test m) (all_messages test ms) all))

waits_on : (edge : EdgeState) (wire peer pw_id : ℕ) (near : LocalPart) (out back : List Message) → HasKept edge → ((label : ℕ) → part_owns near label ≡ true → MayName edge wire peer label)
    → is_waited_for pw_id (given_of edge) near out back ≡ true → is_waited_for pw_id (given_of (counted edge)) near out back ≡ true
waits_on edge wire peer pw_id (Idle declined) out back has own waits = waits
waits_on edge wire peer pw_id (Advertised label told) out back has own waits = named_given edge wire peer label has (own label (same_number label))
waits_on edge wire peer pw_id (Withdrawing label) out back has own waits =
    and_from (given_of (counted edge) label) (some_message (is_withdrawal_of pw_id label) out || some_message (is_release_of pw_id label) back)
    (named_given edge wire peer label has (own label (same_number label)))
    (second_holds (given_of edge label) (some_message (is_withdrawal_of pw_id label) out || some_message (is_release_of pw_id label) back) waits)

-- ---- the ends between two edges

counted_ends : (edge : EdgeState) → (counted edge).ends ≡ edge.ends
unfolding with_ticks with_kept
counted_ends edge = refl

counted_bound : (plan : Plan) (a b : ℕ) (edge other : EdgeState) (out back : List Message) → HasKept edge → OwnsItsLabels edge → AllMessages (NamesOwn plan edge b) out
    → AllMessages (NamesFar plan edge b) back
    → AreBound plan a b edge other out back → AreBound plan a b (counted edge) other out back
unfolding with_ticks with_kept
counted_bound plan a b edge other out back has own named far bound = record {
  near = λ wire row is joined.
      let before = bound.near wire row is joined in
      record {
        agrees = before.agrees;
        withdrawn = all_on (withdraws_old row.pw_id (given_of edge) (edge.ends wire.0 b).local) (withdraws_old row.pw_id (given_of (counted edge)) (edge.ends wire.0 b).local)
            (NamesOwn plan edge b) out
            (λ m may old. withdraws_on plan edge b row.pw_id (edge.ends wire.0 b).local m has may old) named before.withdrawn;
        released = all_on (releases_old row.pw_id (given_of edge) (edge.ends wire.0 b).local) (releases_old row.pw_id (given_of (counted edge)) (edge.ends wire.0 b).local) (NamesFar plan edge b) back
            (λ m may old. releases_on plan edge b row.pw_id (edge.ends wire.0 b).local m has may old) far before.released;
        waits = waits_on edge wire.0 b row.pw_id (edge.ends wire.0 b).local out back has (λ label owned. own wire.0 b label owned) before.waits;
      };
  far = bound.far;
}

-- ---- an edge begins its tick

fit_there : (own other : Peers) (near : Option Peering) → is_there near ≡ true → StandsIf own other near → AreFit own × AreFit other
fit_there own other None there stands = clash there
fit_there own other (Some kept) there stands = (stands.between.one, stands.between.two)

counted_said : (network : NetworkState) (me : EdgeId) → ((changes counted (begin_at network me)).edge ≡ counted (network.edges me.0)) × ((changes counted (begin_at network me)).effects ≡ [])
unfolding changes
counted_said network me = (refl, refl)

counted_leaves : (plan : Plan) (network : NetworkState) (me : EdgeId) (place : ℕ) → IsOrdered plan network → IsRuledNetwork plan network → Bounds plan network
    → (start : Starts plan network me) → nat_eq place me.0 ≡ false
    → LeavesBound plan me place (network.edges place) (flight network me.0 place) (start.answers place) (changes counted (begin_at network me))
unfolding changes with_ticks with_kept
counted_leaves plan network me place ordered ruled bounds start away = record {
  bound = λ messages said out_is near far.
      let apart : nat_eq me.0 place ≡ false = apart_back place me.0 away in
      let fit = fit_there (ends_at plan me.0 place) (ends_at plan place me.0) ((network.edges me.0).peering place) near (ordered.two me.0 place apart).talk.here in
      let out : RulesTo plan me.0 place (network.edges me.0) (network.edges place) (flight network me.0 place) = (ruled.two me.0 place apart).0 in
      let back : RulesTo plan place me.0 (network.edges place) (network.edges me.0) (flight network place me.0) = (ruled.two place me.0 away).0 in
      let same : out.messages ≡ messages =
      said_once (ends_at plan me.0 place) out.messages messages fit.0 (messages_said plan network me.0 place apart ordered ruled).said said
      (sym out.octets ∙ (sym (no_more ((network.edges place).peering me.0) (flight network me.0 place)) ∙ out_is)) in
      let too : back.messages ≡ start.answers place =
      said_once (ends_at plan place me.0) back.messages (start.answers place) fit.1 (messages_said plan network place me.0 away ordered ruled).said (start.are place away).said
      (sym back.octets ∙ (start.are place away).octets) in
      counted_bound plan me.0 place (network.edges me.0) (network.edges place) messages (start.answers place) (ruled.edges me.0).rests (ruled.edges me.0).owned
      (subst (AllMessages (NamesOwn plan (network.edges me.0) place)) same
      (all_kept (IsRuled plan me.0 place (network.edges me.0) (network.edges place)) (NamesOwn plan (network.edges me.0) place) out.messages (λ m is. is.own) out.ruled))
      (subst (AllMessages (NamesFar plan (network.edges me.0) place)) too
      (all_kept (IsRuled plan place me.0 (network.edges place) (network.edges me.0)) (NamesFar plan (network.edges me.0) place) back.messages (λ m is. is.far) back.ruled))
      ((begins_bound plan network me place bounds start away).bound messages said out_is near far);
}

counted_starts : (plan : Plan) (network : NetworkState) (me : EdgeId) (checked : IsChecked plan) (types : HasTypes plan) → IsOrdered plan network → IsRuledNetwork plan network
    → Bounds plan network → (start : Starts plan network me)
    → WorksBound plan network me checked types (λ place. held network me.0 place) start.answers (changes counted (begin_at network me))
unfolding changes with_ticks with_kept
counted_starts plan network me checked types ordered ruled bounds start = (
  (works_counted plan network me (begin_at network me) (works_begin plan network me ordered), λ place here. held_now ((network.edges me.0).peering place)),
  λ place away. counted_leaves plan network me place ordered ruled bounds start away,
)

-- ---- ticks pass

ticks_bound : (plan : Plan) (place count : ℕ) (network : NetworkState) → IsChecked plan → HasTypes plan → IsOrdered plan network → IsRuledNetwork plan network → Bounds plan network
    → Bounds plan (ticks_from plan place count network).state
ticks_bound plan place zero network checked types ordered ruled bounds = bounds
ticks_bound plan place (suc count) network checked types ordered ruled bounds =
    let me : EdgeId = record { 0 = place } in
    let start : Starts plan network me = starts plan network me ordered in
    ticks_bound plan (place + 1) count (tick_at plan me network).state checked types
    (work_keeps plan network me 0 0 (tick_input plan taken_all (begin_at network me)) ordered
    (tick_kept plan me (WorksOn plan network me) (works_kept plan network me checked types) (begin_at network me)
    (works_counted plan network me (begin_at network me) (works_begin plan network me ordered)))).ordered
    (tick_at_ruled plan checked types me network ruled).ruled
    (work_bounds plan network me 0 0 checked types (tick_input plan taken_all (begin_at network me)) bounds start
    (tick_kept plan me (WorksBound plan network me checked types (λ k. held network me.0 k) start.answers)
    (bound_work_kept plan network me checked types (λ k. held network me.0 k) start.answers) (begin_at network me)
    (counted_starts plan network me checked types ordered ruled bounds start)))

older_bounds : (plan : Plan) (network : NetworkState) → Bounds plan network → Bounds plan (with_older network)
unfolding with_older
older_bounds plan network bounds a b apart = record { bound = (bounds a b apart).bound }

pub tick_bounds : (plan : Plan) (network : NetworkState) → IsChecked plan → HasTypes plan → IsOrdered plan network → IsRuledNetwork plan network → Bounds plan network
    → Bounds plan (tick_event plan network).state
tick_bounds plan network checked types ordered ruled bounds =
    ticks_bound plan 0 (length plan.edges) (with_older network) checked types (older_ordered plan network ordered) (older_ruled plan checked types network ruled) (older_bounds plan network bounds)
