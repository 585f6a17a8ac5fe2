-- What is left after ticks alone of an address that was heard on a wire whose end forwards; and the law of all addresses.
use Rattle.std.proofs.Common.{◌≡◌, ◌<◌, ◌≤◌, ◌+◌, ◌-◌, ◌^◌, ◌∙◌, ◌==◌, ℕ, zero, suc, Bool, true, false, not, cond, List, [], ◌∷◌, Option, Some, None, nat_eq, length, slice_get, refl, sym, ap, subst, inl, inr, arith}
use Rattle.std.specs.Prelude.{filter, position}
use Rattle.std.specs.List.{AllByRecursion}
use Rattle.std.proofs.lemmas.Bool.{and_parts, cases_Bool, eqb-true}
use Rattle.std.proofs.lemmas.Map.Entries.{option_filter}
use Rattle.net_base.specs.declared.plan.Plan.{Plan}
use Rattle.net_base.specs.declared.plan.places.EdgeId.{EdgeId}
use Rattle.net_base.specs.declared.plan.places.ServiceId.{ServiceId}
use Rattle.net_base.specs.declared.plan.places.WireId.{WireId}
use Rattle.net_base.specs.declared.plan.service_plan.ServicePlan.{ServicePlan}
use Rattle.net_base.specs.declared.plan.wire_plan.WirePlan.{WirePlan}
use Rattle.net_base.specs.declared.trace.down.Down.{Down}
use Rattle.net_base.specs.plan.Places.{wire_row}
use Rattle.net_values.specs.declared.mac.Mac.{Mac}
use Rattle.net_values.proofs.NumberLemmas.{before_next, next_within, next_within_less, equal_at_most}
use Rattle.net_values.proofs.RowLemmas.{found_passes, found_among}
use Rattle.pw_messages.specs.Content.{mac_withdrawal, mapping, status_notification, withdrawal}
use Rattle.pw_messages.specs.LinkAnswers.{Answers}
use Rattle.hvpls_spokes.specs.declared.port.Port.{Port}
use Rattle.hvpls_spokes.specs.declared.port.Port.TheVariants as port
use Rattle.hvpls_spokes.specs.Port.{is_wire_port, ports_of}
use Rattle.hvpls_spokes.proofs.WirePortLemmas.{LeadsToWire, found_wire_port, leads_by_mesh, leads_by_spoke, same_wire_port}
use Rattle.ldp_grammar.specs.declared.message.Message.{Message}
use Rattle.mac_table.specs.declared.mac_entry.MacEntry.{MacEntry}
use Rattle.mac_table.specs.Addresses.{AreDistinctAddresses, is_young, mac_entry_of}
use Rattle.mac_table.proofs.AddressLemmas.{distinct-filter, entry_of-filter}
use Rattle.mac_table.proofs.AgeLemmas.{stays_young}
use Rattle.pw_tlvs.specs.declared.pw_status.PwStatus.{PwStatus}
use Rattle.pw_signalling.specs.declared.told.Told.{Told}
use Rattle.pw_signalling.specs.End.{LocalPart, Idle, Advertised, Withdrawing}
use Rattle.edge_model.specs.Aging.{AddressesLastTheirAge, entry_at, ticks_passing}
use Rattle.edge_model.specs.declared.end_place.EndPlace.{EndPlace}
use Rattle.edge_model.specs.EndPlaces.{end_places, is_end_of_wire}
use Rattle.edge_model.specs.Ends.{wire_end}
use Rattle.edge_model.specs.Mend.{advertises_under, advertises_wish, advertising, and_says, each_end, forgets_down, forgets_downs, forgetting_wire, is_new_choice, mends, mends_choice, mends_end, mends_local, mends_status, mends_status_of, tells_downs, tells_over, telling_status, then_changes, wish, withdrawing, withdraws_unless, offer_stands, withdraws}
use Rattle.edge_model.specs.Mended.{HasFitPaths}
use Rattle.edge_model.specs.Put.{Spoken, stays}
use Rattle.edge_model.specs.Role.{down_at, status_to_tell}
use Rattle.edge_model.specs.Session.{says}
use Rattle.edge_model.specs.Spokes.{choosing}
use Rattle.edge_model.specs.State.{EdgeState, addresses_of, end_at, later, with_addresses, with_chosen, with_end, with_learned, with_next_label, with_ticks, without_port, with_kept}
use Rattle.edge_model.specs.Tick.{counted, forgetting, tick_input, ticks_sessions}
use Rattle.edge_model.specs.Withdraw.{tells_piece, tells_piece_by}
use Rattle.edge_model.specs.Work.{Work, beginning, changes}
use Rattle.edge_model.proofs.AgainLemmas.{one_end}
use Rattle.edge_model.proofs.AgingLemmas.{at_forgot_is, forgetting_keeps, fresh, less_of, mends_keep, next_tick, one_tick, rest_of, TicksOnce, ticking_goes, ticking_stands}
use Rattle.edge_model.proofs.BridgeLemmas.{LearnsOnly, forgets_down_only, forgets_downs_only, learns_is}
use Rattle.edge_model.proofs.MendLemmas.{mends_takes}
use Rattle.edge_model.proofs.MendedLemmas.{HaveTold, all_told, down_like}
use Rattle.edge_model.proofs.PlaceLemmas.{IsEndOf, places_are}
use Rattle.edge_model.proofs.SessionLemmas.{any, says_works, ticks_work}
use Rattle.edge_model.specs.Labels.{label_to_give}

-- ---- an edge that mends learns nothing before it forgets

said_learned : (told : Answers) (peer : EdgeId) (message : ℕ → Message) (work : Work) → (says told peer message work).work.edge.learned ≡ work.edge.learned
said_learned told peer message work = (says_works told any peer message work refl).edge.learned

module _ (plan : Plan) (told : Answers) where
  mends_end_learned : (place : EndPlace) (work : Work) → (mends_end plan told place work).work.edge.learned ≡ work.edge.learned
  unfolding changes with_end with_next_label with_kept
  mends_end_learned place work = of (end_at work.edge place).local where
    left : (content : Told) (r : Option ℕ) → (advertises_under told place content r work).work.edge.learned ≡ work.edge.learned
    left content None = refl
    left content (Some label) = said_learned told place.peer (mapping place.pw_id label content) (changes (advertising place label content) work)

    idle : (wished : Option Told) → (advertises_wish told place wished work).work.edge.learned ≡ work.edge.learned
    idle None = refl
    idle (Some content) = left content (label_to_give work.edge)

    told_it : (label : ℕ) (content : Told) (wished : Option Told) → (withdraws_unless told place label content wished work).work.edge.learned ≡ work.edge.learned
    told_it label content wished = by (offer_stands place content wished) where
      by : (b : Bool) → (cond b (stays work) (withdraws told place label content work)).work.edge.learned ≡ work.edge.learned
      by true = refl
      by false = said_learned told place.peer (withdrawal place.pw_id label content) (changes (withdrawing place) work)

    of : (local : LocalPart) → (mends_local plan told place local work).work.edge.learned ≡ work.edge.learned
    of (Idle true) = refl
    of (Idle false) = idle (wish plan work.edge place)
    of (Advertised label content) = told_it label content (wish plan work.edge place)
    of (Withdrawing label) = refl

  mends_status_learned : (place : EndPlace) (work : Work) → (mends_status plan told place work).work.edge.learned ≡ work.edge.learned
  unfolding changes with_end with_kept
  mends_status_learned place work = of (end_at work.edge place).local where
    status : PwStatus
    status = status_to_tell plan work.edge place

    by : (content : Told) (b : Bool) → (cond b (stays work)
        (says told place.peer (status_notification place.pw_id status content) (changes (telling_status place status) work))).work.edge.learned ≡ work.edge.learned
    by content true = refl
    by content false = said_learned told place.peer (status_notification place.pw_id status content) (changes (telling_status place status) work)

    over : (content : Told) (last : Option PwStatus) → (tells_over told place content status last work).work.edge.learned ≡ work.edge.learned
    over content None = refl
    over content (Some last) = by content (nat_eq last.0 status.0)

    of : (local : LocalPart) → (mends_status_of plan told place local work).work.edge.learned ≡ work.edge.learned
    of (Idle declined) = refl
    of (Advertised label content) = over content content.status
    of (Withdrawing label) = refl

  mends_choice_learned : (chosen : ℕ → Option WireId) (place : EndPlace) (work : Work) → (mends_choice plan told chosen place work).work.edge.learned ≡ work.edge.learned
  mends_choice_learned chosen place work = by (is_new_choice chosen work.edge.chosen place.wire (wire_row plan place.wire)) where
    of : (local : LocalPart) → (tells_piece_by told place [] local work).work.edge.learned ≡ work.edge.learned
    of (Idle declined) = refl
    of (Advertised label content) = said_learned told place.peer (mac_withdrawal place.pw_id [] content) work
    of (Withdrawing label) = refl

    by : (b : Bool) → (cond b (tells_piece told place [] work) (stays work)).work.edge.learned ≡ work.edge.learned
    by true = of (end_at work.edge place).local
    by false = refl

  each_end_learned : (mend : EndPlace → Work → Spoken) → ((place : EndPlace) (work : Work) → (mend place work).work.edge.learned ≡ work.edge.learned)
      → (places : List EndPlace) (m : Spoken) → (each_end mend places m).work.edge.learned ≡ m.work.edge.learned
  each_end_learned mend one [] m = refl
  each_end_learned mend one (place ∷ places) m = each_end_learned mend one places (and_says m (mend place)) ∙ one place m.work

  -- up to where it forgets
  abbrev told_all : Work → Work
  told_all work =
      (each_end (mends_choice plan told work.edge.chosen) (end_places plan work.edge.me)
      (each_end (mends_status plan told) (end_places plan work.edge.me)
      (then_changes (choosing plan) (each_end (mends_end plan told) (end_places plan work.edge.me) (stays work))))).work

  told_all_learned : (work : Work) → (told_all work).edge.learned ≡ work.edge.learned
  unfolding changes with_chosen
  told_all_learned work =
      let places : List EndPlace = end_places plan work.edge.me in
      let first : Spoken = each_end (mends_end plan told) places (stays work) in
      let chosen : Spoken = then_changes (choosing plan) first in
      let second : Spoken = each_end (mends_status plan told) places chosen in
      each_end_learned (mends_choice plan told work.edge.chosen) (mends_choice_learned work.edge.chosen) places second
      ∙ (each_end_learned (mends_status plan told) mends_status_learned places chosen
      ∙ each_end_learned (mends_end plan told) mends_end_learned places (stays work))

forgot_me : (plan : Plan) (told : Answers) (work : Work) → (changes (forgetting plan) (ticks_sessions told 0 (length plan.edges) (changes counted work))).edge.me ≡ work.edge.me
unfolding changes with_learned with_ticks with_kept
forgot_me plan told work = (ticks_work told 0 (length plan.edges) (changes counted work)).edge.me

-- ---- what was learned on a wire that forwards stands

-- the ports of two wires
wire_at : (ports : List Port) (p : ℕ) (x : Port) (wire : WireId) → slice_get ports p ≡ Some x → is_wire_port wire x ≡ true → LeadsToWire ports p wire.0
wire_at ports p (port.Circuit circuit) wire at leads = absurd (cc (leads))
wire_at ports p (port.Mesh other) wire at leads = subst (λ (n : ℕ). LeadsToWire ports p n) (eqb-true other.0 wire.0 leads) (leads_by_mesh ports p other at)
wire_at ports p (port.Spoke other) wire at leads = subst (λ (n : ℕ). LeadsToWire ports p n) (eqb-true other.0 wire.0 leads) (leads_by_spoke ports p other at)

down_learned : (plan : Plan) (old new : EdgeState) (place : EndPlace) → LearnsOnly old new → down_at plan new place ≡ down_at plan old place
down_learned plan old new place only = ap (λ (edge : EdgeState). down_at plan edge place) (learns_is old new only)

module _ (plan : Plan) (fit : HasFitPaths plan) (service : ServiceId) (address : Mac) (entry : MacEntry) (place : EndPlace) where
  -- at one edge, the entry is found, and the end of its wire forwards
  record IsFound (me : EdgeId) (edge : EdgeState) : Type 0 where
    same_me : edge.me ≡ me
    distinct : AreDistinctAddresses (addresses_of edge service)
    found : entry_at edge service address ≡ Some entry
    forwards : down_at plan edge place ≡ None

  module _ (me : EdgeId) (here : wire_end plan me place.wire ≡ Some place) (leads : LeadsToWire (ports_of plan service me) entry.port place.wire.0) where
    own : IsEndOf plan me place
    own = found_among (IsEndOf plan me) (is_end_of_wire place.wire) (end_places plan me) place (places_are plan me) here

    terminal : place.terminal ≡ true
    terminal = (and_parts (nat_eq place.wire.0 place.wire.0) place.terminal (found_passes (is_end_of_wire place.wire) (end_places plan me) place here)).1

    -- an end that does not forward is of another wire
    other_wire : (edge : EdgeState) → IsFound me edge → (q : EndPlace) → IsEndOf plan me q → q.terminal ≡ true → (why : Down) → down_at plan edge q ≡ Some why → nat_eq place.wire.0 q.wire.0 ≡ false
    other_wire edge is q end side why down = elim (cases_Bool (nat_eq place.wire.0 q.wire.0)) [
      | inl same ↦
          (let w : place.wire.0 ≡ q.wire.0 = eqb-true place.wire.0 q.wire.0 same in
          let k : place.peer.0 ≡ q.peer.0 = one_end plan fit me place q own end terminal side w in
          let wrong : None ≡ Some why = sym is.forwards ∙ (down_like plan edge place q w k ∙ down) in
          absurd (cc (wrong)))
      | inr other ↦ other
    ]

    -- so its port is another one
    without_other : (q : EndPlace) → nat_eq place.wire.0 q.wire.0 ≡ false → (xs : List MacEntry) → AreDistinctAddresses xs → mac_entry_of xs address ≡ Some entry
        → (p : Option ℕ) → position (is_wire_port q.wire) (ports_of plan service me) ≡ p → mac_entry_of (without_port p xs) address ≡ Some entry
    without_other q other xs distinct found None is = found
    without_other q other xs distinct found (Some p) is =
        entry_of-filter (λ e. not (e.port == p)) xs address distinct ∙ (ap (option_filter (λ e. not (e.port == p))) found ∙ ap (λ (b : Bool). cond (not b) (Some entry) None)
        (same_wire_port plan service me entry.port p place.wire.0 q.wire.0 leads (found_wire_port q.wire (ports_of plan service me) p is) ∙ other))

    forgetting_stands : (edge : EdgeState) → IsFound me edge → (q : EndPlace) → nat_eq place.wire.0 q.wire.0 ≡ false → (row : Option WirePlan)
        → entry_at (forgetting_wire plan q.wire row edge) service address ≡ Some entry
    unfolding with_addresses
    forgetting_stands edge is q other None = is.found
    forgetting_stands edge is q other (Some row) = by (nat_eq service.0 row.service.0) refl where
      gone : ServiceId → List MacEntry
      gone s = without_port (position (is_wire_port q.wire) (ports_of plan s edge.me)) (addresses_of edge s)

      by : (b : Bool) → nat_eq service.0 row.service.0 ≡ b → mac_entry_of (cond b (gone row.service) (addresses_of edge service)) address ≡ Some entry
      by true same =
          ap (λ (k : ℕ). mac_entry_of (gone (record { 0 = k })) address) (sym (eqb-true service.0 row.service.0 same))
          ∙ (ap (λ (k : EdgeId). mac_entry_of (without_port (position (is_wire_port q.wire) (ports_of plan service k)) (addresses_of edge service)) address) is.same_me
          ∙ without_other q other (addresses_of edge service) is.distinct is.found (position (is_wire_port q.wire) (ports_of plan service me)) refl)
      by false away = is.found

    one_stands : (q : EndPlace) → IsEndOf plan me q → (work : Work) → IsFound me work.edge → IsFound me (cond q.terminal (forgets_down plan q (down_at plan work.edge q) work) work).edge
    unfolding changes
    one_stands q end work is = of q.terminal refl where
      by : q.terminal ≡ true → (down : Option Down) → down_at plan work.edge q ≡ down → IsFound me (forgets_down plan q down work).edge
      by side None up = is
      by side (Some why) down =
          let next : EdgeState = forgetting_wire plan q.wire (wire_row plan q.wire) work.edge in
          let only : LearnsOnly work.edge next = (forgets_down_only plan q (Some why) work).edge in
          record {
            same_me = only.me ∙ is.same_me;
            distinct = (forgetting_keeps plan service address q.wire (wire_row plan q.wire) work.edge).distinct is.distinct;
            found = forgetting_stands work.edge is q (other_wire work.edge is q end side why down) (wire_row plan q.wire);
            forwards = down_learned plan work.edge next place only ∙ is.forwards;
          }

      of : (b : Bool) → q.terminal ≡ b → IsFound me (cond b (forgets_down plan q (down_at plan work.edge q) work) work).edge
      of true side = by side (down_at plan work.edge q) refl
      of false side = is

    all_stand : (list : List EndPlace) → AllByRecursion (IsEndOf plan me) list → (work : Work) → IsFound me work.edge → IsFound me (forgets_downs plan list work).edge
    all_stand [] all work is = is
    all_stand (q ∷ list) all work is = all_stand list all.1 (cond q.terminal (forgets_down plan q (down_at plan work.edge q) work) work) (one_stands q all.0 work is)

    -- a round of mending after which the end forwards
    mends_stand : (told : Answers) → ((k : ℕ) → told k ≡ true) → (work : Work) → work.edge.me ≡ me → AreDistinctAddresses (addresses_of work.edge service)
        → entry_at work.edge service address ≡ Some entry
        → down_at plan (mends plan told work).edge place ≡ None → entry_at (mends plan told work).edge service address ≡ Some entry
    mends_stand told takes work same distinct found up =
        ap (λ (w : Work). entry_at w.edge service address) once
        ∙ (ap (λ (edge : EdgeState). entry_at edge service address) told_is ∙ stood.found)
      where
        places : List EndPlace
        places = end_places plan work.edge.me

        third : Work
        third = told_all plan told work

        forgot : Work
        forgot = forgets_downs plan places third

        last : Work
        last = tells_downs plan places forgot

        once : mends plan told work ≡ last
        once = mends_takes plan told takes work

        all : AllByRecursion (IsEndOf plan work.edge.me) places
        all = places_are plan work.edge.me

        tells : HaveTold plan work.edge.me places forgot.edge last.edge
        tells = all_told plan work.edge.me (one_end plan fit work.edge.me) places all forgot

        told_is : last.edge ≡ record (forgot.edge) { told_down = tells.downs }
        told_is = tells.is

        learned : addresses_of third.edge service ≡ addresses_of work.edge service
        learned = ap (λ (map : ℕ → List MacEntry). map service.0) (told_all_learned plan told work)

        third_up : down_at plan third.edge place ≡ None
        third_up =
            sym (down_learned plan third.edge forgot.edge place (forgets_downs_only plan places third).edge)
            ∙ (sym (ap (λ (edge : EdgeState). down_at plan edge place) told_is) ∙ (sym (ap (λ (w : Work). down_at plan w.edge place) once) ∙ up))

        third_me : third.edge.me ≡ work.edge.me
        third_me =
            sym (forgets_downs_only plan places third).edge.me
            ∙ (sym (ap (λ (edge : EdgeState). edge.me) told_is) ∙ (sym (ap (λ (w : Work). w.edge.me) once) ∙ (mends_keep plan service address told work).me))

        stood : IsFound me forgot.edge
        stood =
            all_stand places (subst (λ (k : EdgeId). AllByRecursion (IsEndOf plan k) places) same all) third
            (record {
              same_me = third_me ∙ same;
              distinct = subst (λ (xs : List MacEntry). AreDistinctAddresses xs) (sym learned) distinct;
              found = ap (λ (xs : List MacEntry). mac_entry_of xs address) learned ∙ found;
              forwards = third_up;
            })

    tick_stands : (told : Answers) → ((k : ℕ) → told k ≡ true) → (row : ServicePlan) → slice_get plan.services service.0 ≡ Some row → (work : Work) → work.edge.me ≡ me
        → AreDistinctAddresses (addresses_of work.edge service)
        → entry_at work.edge service address ≡ Some entry → is_young (later work.edge.ticks) row.age entry ≡ true → down_at plan (tick_input plan told work).edge place ≡ None
        → entry_at (tick_input plan told work).edge service address ≡ Some entry
    tick_stands told takes row is work same distinct found young up =
        let forgot : Work = changes (forgetting plan) (ticks_sessions told 0 (length plan.edges) (changes counted work)) in
        let now : addresses_of forgot.edge service ≡ filter (is_young (later work.edge.ticks) row.age) (addresses_of work.edge service) = at_forgot_is plan service address told row is work in
        mends_stand told takes forgot (forgot_me plan told work ∙ same)
        (subst (λ (xs : List MacEntry). AreDistinctAddresses xs) (sym now) (distinct-filter (is_young (later work.edge.ticks) row.age) (addresses_of work.edge service) distinct))
        (ap (λ (xs : List MacEntry). mac_entry_of xs address) now ∙ stays_young (later work.edge.ticks) row.age (addresses_of work.edge service) address entry distinct found young) up

    ticking_stands_by : (told : Answers) → ((k : ℕ) → told k ≡ true) → (row : ServicePlan) → slice_get plan.services service.0 ≡ Some row → (n : ℕ) (work : Work) → work.edge.me ≡ me
        → AreDistinctAddresses (addresses_of work.edge service)
        → entry_at work.edge service address ≡ Some entry → entry.tick ≤ work.edge.ticks → work.edge.ticks + n < entry.tick + row.age → work.edge.ticks + n ≤ 2 ^ 64 - 1
        → ((k : ℕ) → 1 ≤ k → k ≤ n → down_at plan (ticks_passing plan told k work).edge place ≡ None)
        → entry_at (ticks_passing plan told n work).edge service address ≡ Some entry
    ticking_stands_by told takes row is zero work same distinct found past within counts up = found
    ticking_stands_by told takes row is (suc n) work same distinct found past within counts up =
        let begun : Work = beginning work.edge work.calls in
        let next : Work = tick_input plan told begun in
        let tick : TicksOnce plan service address row work.edge next.edge = one_tick plan service address told row is begun in
        let less : work.edge.ticks < 2 ^ 64 - 1 = less_of plan service address work.edge.ticks n (2 ^ 64 - 1) counts in
        let now : next.edge.ticks ≡ work.edge.ticks + 1 = tick.ticks ∙ next_tick plan service address work.edge.ticks less in
        ticking_stands_by told takes row is n next (tick.me ∙ same) (tick.distinct distinct)
        (tick_stands told takes row is begun same distinct found
        (fresh plan service address work.edge.ticks row.age entry.tick less past (next_within_less work.edge.ticks n (entry.tick + row.age) within)) (up 1 (omega arith) (omega arith)))
        (before_next entry.tick work.edge.ticks _ now past) (next_within work.edge.ticks _ n (entry.tick + row.age) now within)
        (rest_of plan service address work.edge.ticks _ n (2 ^ 64 - 1) now counts)
        (λ k some most. up (suc k) (omega arith) (omega (arith, most)))

-- ---- the law

starts_within : (tick ticks n age : ℕ) → tick ≡ ticks → n < age → ticks + n < tick + age
starts_within tick ticks n age is less = omega (arith, is, less)

starts_young : (tick ticks age : ℕ) → tick ≡ ticks → 1 ≤ age → ticks < tick + age
starts_young tick ticks age is some = omega (arith, is, some)

starts_due : (tick ticks n age : ℕ) → tick ≡ ticks → age ≤ n → tick + age ≤ ticks + n
starts_due tick ticks n age is more = omega (arith, is, more)

pub addresses_last_their_age : AddressesLastTheirAge
addresses_last_their_age = record {
  stands = λ plan told n work service row address entry heard here counts within.
      ticking_stands plan service address told row heard.is n work entry heard.distinct heard.found here (equal_at_most entry.tick work.edge.ticks heard.now)
      (starts_within entry.tick work.edge.ticks n row.age heard.now within) counts;
  stands_by_wire = λ plan told n work service row address entry place fit takes heard at up counts within.
      ticking_stands_by plan fit service address entry place work.edge.me at.here
      (wire_at (ports_of plan service work.edge.me) entry.port at.x place.wire at.at at.to_wire) told takes row heard.is n work refl
      heard.distinct heard.found (equal_at_most entry.tick work.edge.ticks heard.now) (starts_within entry.tick work.edge.ticks n row.age heard.now within) counts up;
  goes = λ plan told n work service row address entry heard counts some more.
      ticking_goes plan service address told row heard.is n work entry heard.distinct heard.found (equal_at_most entry.tick work.edge.ticks heard.now)
      (starts_young entry.tick work.edge.ticks row.age heard.now some) (starts_due entry.tick work.edge.ticks n row.age heard.now more) counts;
}
