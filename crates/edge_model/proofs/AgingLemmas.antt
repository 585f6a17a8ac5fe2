-- What is left of an address after ticks alone.
use Rattle.std.proofs.Common.{◌≡◌, ◌<◌, ◌≤◌, ◌+◌, ◌-◌, ◌^◌, ◌∙◌, ◌⊎◌, ◌==◌, ℕ, zero, suc, Bool, true, false, not, cond, List, Option, Some, None, nat_eq, nat_lt, length, slice_get, refl, sym, ap, subst, inl, inr, arith}
use Rattle.std.specs.Prelude.{filter, position}
use Rattle.std.proofs.lemmas.Bool.{cases_Bool, eqb-true, ltb-true, lt-ltb, ltb-false}
use Rattle.std.proofs.lemmas.Map.Entries.{option_filter}
use Rattle.net_base.specs.declared.plan.Plan.{Plan}
use Rattle.net_base.specs.declared.plan.places.CircuitId.{CircuitId}
use Rattle.net_base.specs.declared.plan.places.EdgeId.{EdgeId}
use Rattle.net_base.specs.declared.plan.places.ServiceId.{ServiceId}
use Rattle.net_base.specs.declared.plan.places.WireId.{WireId}
use Rattle.net_base.specs.declared.plan.service_plan.ServicePlan.{ServicePlan}
use Rattle.net_base.specs.declared.plan.wire_plan.WirePlan.{WirePlan}
use Rattle.net_base.specs.plan.Places.{wire_row}
use Rattle.net_values.specs.declared.mac.Mac.{Mac}
use Rattle.net_values.proofs.NumberLemmas.{next_within, next_within_less}
use Rattle.pw_messages.specs.Content.{mac_withdrawal, mapping, status_notification, withdrawal}
use Rattle.pw_messages.specs.LinkAnswers.{Answers}
use Rattle.hvpls_spokes.specs.declared.port.Port.TheVariants as port
use Rattle.hvpls_spokes.specs.Port.{is_wire_port, ports_of}
use Rattle.hvpls_spokes.proofs.WirePortLemmas.{found_wire_port, ports_apart}
use Rattle.ldp_grammar.specs.declared.message.Message.{Message}
use Rattle.mac_table.specs.declared.mac_entry.MacEntry.{MacEntry}
use Rattle.mac_table.specs.Addresses.{AreDistinctAddresses, is_young, mac_entry_of}
use Rattle.mac_table.proofs.AddressLemmas.{distinct-filter, entry_of-filter}
use Rattle.mac_table.proofs.AgeLemmas.{goes_old, none_comes, old, stays_young, young}
use Rattle.edge_model.specs.Aging.{IsAtCircuit, entry_at, ticks_passing}
use Rattle.edge_model.specs.Mend.{advertising, forgetting_wire, mends, port_of_wire, telling_status, withdrawing}
use Rattle.edge_model.specs.Role.{down_at, status_to_tell}
use Rattle.edge_model.specs.Session.{says}
use Rattle.edge_model.specs.Spokes.{choosing}
use Rattle.edge_model.specs.State.{EdgeState, addresses_of, later, with_addresses, with_chosen, with_end, with_learned, with_next_label, with_ticks, with_told_down, without_port, with_kept}
use Rattle.edge_model.specs.Tick.{aged, counted, forgetting, tick_input, ticks_sessions}
use Rattle.edge_model.specs.Work.{Work, beginning, changes, gives}
use Rattle.edge_model.proofs.SessionLemmas.{IsSessionWork, any, says_works, ticks_work}
use Rattle.edge_model.proofs.WalkLemmas.{MendSteps, mends_holds}

-- ---- what an edge that mends leaves of an address

-- the edge and its ticks are as they were; an address is found as before or not at all, and as before where it was heard at a
-- circuit
pub record KeepsAddress (plan : Plan) (service : ServiceId) (address : Mac) (old new : EdgeState) : Type 0 where
  pub me : new.me ≡ old.me
  pub ticks : new.ticks ≡ old.ticks
  pub distinct : AreDistinctAddresses (addresses_of old service) → AreDistinctAddresses (addresses_of new service)
  pub less : AreDistinctAddresses (addresses_of old service) → (entry_at new service address ≡ entry_at old service address) ⊎ (entry_at new service address ≡ None)
  pub kept : AreDistinctAddresses (addresses_of old service) → (entry : MacEntry) → entry_at old service address ≡ Some entry → IsAtCircuit plan old service entry
      → entry_at new service address ≡ Some entry

at_same : (plan : Plan) (service : ServiceId) (entry : MacEntry) (old new : EdgeState) → new.me ≡ old.me → IsAtCircuit plan old service entry → IsAtCircuit plan new service entry
at_same plan service entry old new me here =
    record { circuit = here.circuit; at = ap (λ (k : EdgeId). slice_get (ports_of plan service k) entry.port) me ∙ here.at }

module _ (plan : Plan) (service : ServiceId) (address : Mac) where
  -- nothing was learned or forgotten
  keeps_same : (old new : EdgeState) → new.me ≡ old.me → new.ticks ≡ old.ticks → new.learned ≡ old.learned → KeepsAddress plan service address old new
  keeps_same old new me ticks learned = record {
    me = me;
    ticks = ticks;
    distinct = subst (λ (xs : List MacEntry). AreDistinctAddresses xs) (sym addresses);
    less = λ distinct. inl (ap (λ (xs : List MacEntry). mac_entry_of xs address) addresses);
    kept = λ distinct entry found here. ap (λ (xs : List MacEntry). mac_entry_of xs address) addresses ∙ found;
  }
    where
      addresses : addresses_of new service ≡ addresses_of old service
      addresses = ap (λ (map : ℕ → List MacEntry). map service.0) learned

  keeps_then : (a b c : EdgeState) → KeepsAddress plan service address a b → KeepsAddress plan service address b c → KeepsAddress plan service address a c
  keeps_then a b c first next = record {
    me = next.me ∙ first.me;
    ticks = next.ticks ∙ first.ticks;
    distinct = λ distinct. next.distinct (first.distinct distinct);
    less = λ distinct. elim (next.less (first.distinct distinct)) [
      | inl same ↦ elim (first.less distinct) [
        | inl before ↦ inl (same ∙ before)
        | inr none ↦ inr (same ∙ none)
      ]
      | inr none ↦ inr none
    ];
    kept = λ distinct entry found here. next.kept (first.distinct distinct) entry (first.kept distinct entry found here) (at_same plan service entry a b first.me here);
  }

  -- the addresses of the service are less
  record KeepsEntries (me : EdgeId) (xs ys : List MacEntry) : Type 0 where
    distinct : AreDistinctAddresses xs → AreDistinctAddresses ys
    less : AreDistinctAddresses xs → (mac_entry_of ys address ≡ mac_entry_of xs address) ⊎ (mac_entry_of ys address ≡ None)
    kept : AreDistinctAddresses xs → (entry : MacEntry) → mac_entry_of xs address ≡ Some entry → (circuit : CircuitId) → slice_get (ports_of plan service me) entry.port ≡ Some (port.Circuit circuit)
        → mac_entry_of ys address ≡ Some entry

  entries_not : (me : EdgeId) (xs : List MacEntry) → KeepsEntries me xs xs
  entries_not me xs = record { distinct = λ distinct. distinct; less = λ distinct. inl refl; kept = λ distinct entry found circuit at. found }

  -- those at the port of a wire go
  without_wire : (me : EdgeId) (wire : WireId) (xs : List MacEntry) (p : Option ℕ) → position (is_wire_port wire) (ports_of plan service me) ≡ p → KeepsEntries me xs (without_port p xs)
  without_wire me wire xs None is = entries_not me xs
  without_wire me wire xs (Some p) is = record {
    distinct = distinct-filter stays xs;
    less = λ distinct. by (mac_entry_of xs address) refl distinct;
    kept = λ distinct entry found circuit at.
        entry_of-filter stays xs address distinct ∙ (ap (option_filter stays) found ∙ ap (λ (b : Bool). cond (not b) (Some entry) None)
        (ports_apart (ports_of plan service me) entry.port p circuit.0 wire.0 (record { is = at }) (found_wire_port wire (ports_of plan service me) p is)));
  }
    where
      stays : MacEntry → Bool
      stays e = not (e.port == p)

      one : (entry : MacEntry) (b : Bool) → (cond b (Some entry) None ≡ Some entry) ⊎ (cond b (Some entry) None ≡ None)
      one entry true = inl refl
      one entry false = inr refl

      by : (found : Option MacEntry) → mac_entry_of xs address ≡ found → AreDistinctAddresses xs → (mac_entry_of (filter stays xs) address ≡ found) ⊎ (mac_entry_of (filter stays xs) address ≡ None)
      by None is distinct = inr (none_comes stays xs address distinct is)
      by (Some entry) is distinct = elim (one entry (stays entry)) [
        | inl same ↦ inl (entry_of-filter stays xs address distinct ∙ (ap (option_filter stays) is ∙ same))
        | inr none ↦ inr (entry_of-filter stays xs address distinct ∙ (ap (option_filter stays) is ∙ none))
      ]

  pub forgetting_keeps : (wire : WireId) (row : Option WirePlan) (edge : EdgeState) → KeepsAddress plan service address edge (forgetting_wire plan wire row edge)
  unfolding with_addresses
  forgetting_keeps wire None edge = keeps_same edge edge refl refl refl
  forgetting_keeps wire (Some row) edge = by (nat_eq service.0 row.service.0) refl where
    gone : List MacEntry
    gone = without_port (port_of_wire plan edge wire row) (addresses_of edge row.service)

    entries : (b : Bool) → nat_eq service.0 row.service.0 ≡ b → KeepsEntries edge.me (addresses_of edge service) (cond b gone (addresses_of edge service))
    entries true here =
        let same : row.service.0 ≡ service.0 = sym (eqb-true service.0 row.service.0 here) in
        subst (λ (k : ℕ). KeepsEntries edge.me (addresses_of edge service) (without_port (position (is_wire_port wire) (ports_of plan (record { 0 = k }) edge.me)) (edge.learned k))) (sym same)
        (without_wire edge.me wire (addresses_of edge service) (position (is_wire_port wire) (ports_of plan service edge.me)) refl)
    entries false away = entries_not edge.me (addresses_of edge service)

    by : (b : Bool) → nat_eq service.0 row.service.0 ≡ b → KeepsAddress plan service address edge (with_addresses row.service gone edge)
    by b is =
        let keeps : KeepsEntries edge.me (addresses_of edge service) (addresses_of (with_addresses row.service gone edge) service) =
        subst (λ (c : Bool). KeepsEntries edge.me (addresses_of edge service) (cond c gone (addresses_of edge service))) (sym is) (entries b is) in
        record {
          me = refl;
          ticks = refl;
          distinct = keeps.distinct;
          less = keeps.less;
          kept = λ distinct entry found here. keeps.kept distinct entry found here.circuit here.at;
        }

  -- a message is put
  session_keeps : (a b : Work) → IsSessionWork any a b → KeepsAddress plan service address a.edge b.edge
  session_keeps a b works = keeps_same a.edge b.edge works.edge.me works.edge.ticks works.edge.learned

  change_says_keeps : (told : Answers) (peer : EdgeId) (message : ℕ → Message) (change : EdgeState → EdgeState) (work : Work)
      → KeepsAddress plan service address work.edge (change work.edge) → KeepsAddress plan service address work.edge (says told peer message (changes change work)).work.edge
  unfolding changes
  change_says_keeps told peer message change work first =
      keeps_then work.edge (change work.edge) (says told peer message (changes change work)).work.edge first
      (session_keeps (changes change work) (says told peer message (changes change work)).work (says_works told any peer message (changes change work) refl))

  mend_keeps : (told : Answers) → MendSteps plan told (λ a b. KeepsAddress plan service address a.edge b.edge)
  unfolding changes gives with_chosen with_end with_next_label with_told_down with_kept
  mend_keeps told = record {
    same = λ work. keeps_same work.edge work.edge refl refl refl;
    joined = λ a b c first next. keeps_then a.edge b.edge c.edge first next;
    advertises = λ place label content work here idle wished given.
        change_says_keeps told place.peer (mapping place.pw_id label content) (advertising place label content) work
        (keeps_same work.edge (advertising place label content work.edge) refl refl refl);
    withdraws = λ place label content work here is wished.
        change_says_keeps told place.peer (withdrawal place.pw_id label content) (withdrawing place) work (keeps_same work.edge (withdrawing place work.edge) refl refl refl);
    chooses = λ work. keeps_same work.edge (choosing plan work.edge) refl refl refl;
    tells_status = λ place label content last work here is status other.
        change_says_keeps told place.peer (status_notification place.pw_id (status_to_tell plan work.edge place) content) (telling_status place (status_to_tell plan work.edge place)) work
        (keeps_same work.edge (telling_status place (status_to_tell plan work.edge place) work.edge) refl refl refl);
    tells_piece = λ place label content addresses work is.
        session_keeps work (says told place.peer (mac_withdrawal place.pw_id addresses content) work).work (says_works told any place.peer (mac_withdrawal place.pw_id addresses content) work refl);
    forgets_wire = λ place why work here terminal is. forgetting_keeps place.wire (wire_row plan place.wire) work.edge;
    tells_down = λ place work here terminal other. keeps_same work.edge (with_told_down place.wire (down_at plan work.edge place) work.edge) refl refl refl;
  }

  pub mends_keep : (told : Answers) (work : Work) → KeepsAddress plan service address work.edge (mends plan told work).edge
  mends_keep told work = mends_holds plan told (λ a b. KeepsAddress plan service address a.edge b.edge) (mend_keeps told) work

  -- ---- one tick

  pub record TicksOnce (row : ServicePlan) (old new : EdgeState) : Type 0 where
    pub me : new.me ≡ old.me
    pub ticks : new.ticks ≡ later old.ticks
    pub distinct : AreDistinctAddresses (addresses_of old service) → AreDistinctAddresses (addresses_of new service)
    pub none : AreDistinctAddresses (addresses_of old service) → entry_at old service address ≡ None → entry_at new service address ≡ None
    pub stands : AreDistinctAddresses (addresses_of old service) → (entry : MacEntry) → entry_at old service address ≡ Some entry → IsAtCircuit plan old service entry
        → is_young (later old.ticks) row.age entry ≡ true → entry_at new service address ≡ Some entry
    pub fades : AreDistinctAddresses (addresses_of old service) → (entry : MacEntry) → entry_at old service address ≡ Some entry → is_young (later old.ticks) row.age entry ≡ true
        → (entry_at new service address ≡ Some entry) ⊎ (entry_at new service address ≡ None)
    pub goes : AreDistinctAddresses (addresses_of old service) → (entry : MacEntry) → entry_at old service address ≡ Some entry → is_young (later old.ticks) row.age entry ≡ false
        → entry_at new service address ≡ None

  -- what each bridge forgets at a tick
  pub at_forgot_is : (told : Answers) (row : ServicePlan) → slice_get plan.services service.0 ≡ Some row → (work : Work)
      → addresses_of (changes (forgetting plan) (ticks_sessions told 0 (length plan.edges) (changes counted work))).edge service
      ≡ filter (is_young (later work.edge.ticks) row.age) (addresses_of work.edge service)
  unfolding changes with_learned with_ticks with_kept
  at_forgot_is told row is work =
      let ticked : Work = ticks_sessions told 0 (length plan.edges) (changes counted work) in
      let sessions : IsSessionWork any (changes counted work) ticked = ticks_work told 0 (length plan.edges) (changes counted work) in
      ap (λ (o : Option ServicePlan). aged ticked.edge.ticks o (ticked.edge.learned service.0)) is
      ∙ (ap (λ (t : ℕ). filter (is_young t row.age) (ticked.edge.learned service.0)) sessions.edge.ticks
      ∙ ap (λ (map : ℕ → List MacEntry). filter (is_young (later work.edge.ticks) row.age) (map service.0)) sessions.edge.learned)

  pub one_tick : (told : Answers) (row : ServicePlan) → slice_get plan.services service.0 ≡ Some row → (work : Work) → TicksOnce row work.edge (tick_input plan told work).edge
  unfolding changes with_learned with_ticks with_kept
  one_tick told row is work = record {
    me = last.me ∙ sessions.edge.me;
    ticks = last.ticks ∙ sessions.edge.ticks;
    distinct = λ distinct. last.distinct (young_distinct distinct);
    none = λ distinct none. gone_still distinct (at_forgot ∙ none_comes young_now before address distinct none);
    stands = λ distinct entry found here fresh.
        last.kept (young_distinct distinct) entry (at_forgot ∙ stays_young now row.age before address entry distinct found fresh)
        (at_same plan service entry work.edge forgot.edge sessions.edge.me here);
    fades = λ distinct entry found fresh. elim (last.less (young_distinct distinct)) [
      | inl same ↦ inl (same ∙ (at_forgot ∙ stays_young now row.age before address entry distinct found fresh))
      | inr none ↦ inr none
    ];
    goes = λ distinct entry found past. gone_still distinct (at_forgot ∙ goes_old now row.age before address entry distinct found past);
  }
    where
      ticked : Work
      ticked = ticks_sessions told 0 (length plan.edges) (changes counted work)

      forgot : Work
      forgot = changes (forgetting plan) ticked

      now : ℕ
      now = later work.edge.ticks

      before : List MacEntry
      before = addresses_of work.edge service

      young_now : MacEntry → Bool
      young_now = is_young now row.age

      sessions : IsSessionWork any (changes counted work) ticked
      sessions = ticks_work told 0 (length plan.edges) (changes counted work)

      last : KeepsAddress plan service address forgot.edge (tick_input plan told work).edge
      last = mends_keep told forgot

      forgotten : addresses_of forgot.edge service ≡ filter young_now before
      forgotten = at_forgot_is told row is work

      at_forgot : entry_at forgot.edge service address ≡ mac_entry_of (filter young_now before) address
      at_forgot = ap (λ (xs : List MacEntry). mac_entry_of xs address) forgotten

      young_distinct : AreDistinctAddresses before → AreDistinctAddresses (addresses_of forgot.edge service)
      young_distinct distinct = subst (λ (xs : List MacEntry). AreDistinctAddresses xs) (sym forgotten) (distinct-filter young_now before distinct)

      gone_still : AreDistinctAddresses before → entry_at forgot.edge service address ≡ None → entry_at (tick_input plan told work).edge service address ≡ None
      gone_still distinct none = elim (last.less (young_distinct distinct)) [
        | inl same ↦ same ∙ none
        | inr gone ↦ gone
      ]

  -- ---- ticks

  pub next_tick : (ticks : ℕ) → ticks < 2 ^ 64 - 1 → later ticks ≡ ticks + 1
  next_tick ticks less = ap (λ (b : Bool). cond b (ticks + 1) ticks) (lt-ltb ticks (2 ^ 64 - 1) less)

  pub fresh : (ticks age tick : ℕ) → ticks < 2 ^ 64 - 1 → tick ≤ ticks → ticks + 1 < tick + age → nat_lt (later ticks - tick) age ≡ true
  fresh ticks age tick less past within =
      ap (λ (t : ℕ). nat_lt (t - tick) age) (next_tick ticks less) ∙ young (ticks + 1) age tick (omega (arith, past)) within

  stale : (ticks age tick : ℕ) → ticks < 2 ^ 64 - 1 → tick + age ≤ ticks + 1 → nat_lt (later ticks - tick) age ≡ false
  stale ticks age tick less past = ap (λ (t : ℕ). nat_lt (t - tick) age) (next_tick ticks less) ∙ old (ticks + 1) age tick past

  pub less_of : (t n limit : ℕ) → t + suc n ≤ limit → t < limit
  less_of t n limit within = omega (arith, within)

  pub rest_of : (t now n limit : ℕ) → now ≡ t + 1 → t + suc n ≤ limit → now + n ≤ limit
  rest_of t now n limit is within = omega (arith, is, within)

  ticking_none : (told : Answers) (row : ServicePlan) → slice_get plan.services service.0 ≡ Some row → (n : ℕ) (work : Work) → AreDistinctAddresses (addresses_of work.edge service)
      → entry_at work.edge service address ≡ None
      → entry_at (ticks_passing plan told n work).edge service address ≡ None
  ticking_none told row is zero work distinct none = none
  ticking_none told row is (suc n) work distinct none =
      let begun : Work = beginning work.edge work.calls in
      let tick : TicksOnce row work.edge (tick_input plan told begun).edge = one_tick told row is begun in
      ticking_none told row is n (tick_input plan told begun) (tick.distinct distinct) (tick.none distinct none)

  pub ticking_stands : (told : Answers) (row : ServicePlan) → slice_get plan.services service.0 ≡ Some row → (n : ℕ) (work : Work) (entry : MacEntry)
      → AreDistinctAddresses (addresses_of work.edge service)
      → entry_at work.edge service address ≡ Some entry → IsAtCircuit plan work.edge service entry → entry.tick ≤ work.edge.ticks → work.edge.ticks + n < entry.tick + row.age
      → work.edge.ticks + n ≤ 2 ^ 64 - 1
      → entry_at (ticks_passing plan told n work).edge service address ≡ Some entry
  ticking_stands told row is zero work entry distinct found here past within counts = found
  ticking_stands told row is (suc n) work entry distinct found here past within counts =
      let begun : Work = beginning work.edge work.calls in
      let tick : TicksOnce row work.edge (tick_input plan told begun).edge = one_tick told row is begun in
      let less : work.edge.ticks < 2 ^ 64 - 1 = less_of work.edge.ticks n (2 ^ 64 - 1) counts in
      let now : (tick_input plan told begun).edge.ticks ≡ work.edge.ticks + 1 = tick.ticks ∙ next_tick work.edge.ticks less in
      ticking_stands told row is n (tick_input plan told begun) entry (tick.distinct distinct)
      (tick.stands distinct entry found here (fresh work.edge.ticks row.age entry.tick less past (next_within_less work.edge.ticks n (entry.tick + row.age) within)))
      (at_same plan service entry work.edge (tick_input plan told begun).edge tick.me here)
      (after entry.tick work.edge.ticks _ now past) (next_within work.edge.ticks _ n (entry.tick + row.age) now within) (rest_of work.edge.ticks _ n (2 ^ 64 - 1) now counts)
    where
      after : (tick t now : ℕ) → now ≡ t + 1 → tick ≤ t → tick ≤ now
      after tick t now is past = omega (arith, is, past)

  pub ticking_goes : (told : Answers) (row : ServicePlan) → slice_get plan.services service.0 ≡ Some row → (n : ℕ) (work : Work) (entry : MacEntry)
      → AreDistinctAddresses (addresses_of work.edge service)
      → entry_at work.edge service address ≡ Some entry → entry.tick ≤ work.edge.ticks → work.edge.ticks < entry.tick + row.age → entry.tick + row.age ≤ work.edge.ticks + n
      → work.edge.ticks + n ≤ 2 ^ 64 - 1
      → entry_at (ticks_passing plan told n work).edge service address ≡ None
  ticking_goes told row is zero work entry distinct found past young_yet due counts = absurd (clash work.edge.ticks (entry.tick + row.age) young_yet due) where
    clash : (t limit : ℕ) → t < limit → limit ≤ t + zero → ⊥
    clash t limit less more = omega (arith, less, more)
  ticking_goes told row is (suc n) work entry distinct found past young_yet due counts = elim (cases_Bool (nat_lt (work.edge.ticks + 1) (entry.tick + row.age))) [
    | inl next_within_less ↦
        (let within : work.edge.ticks + 1 < entry.tick + row.age = ltb-true _ _ next_within_less in
        elim (tick.fades distinct entry found (fresh work.edge.ticks row.age entry.tick less past within)) [
          | inl still ↦
              ticking_goes told row is n next entry (tick.distinct distinct) still (after entry.tick work.edge.ticks _ now past)
              (subst (λ (t : ℕ). t < entry.tick + row.age) (sym now) within) (due_later work.edge.ticks _ n (entry.tick + row.age) now due) (rest_of work.edge.ticks _ n (2 ^ 64 - 1) now counts)
          | inr none ↦ ticking_none told row is n next (tick.distinct distinct) none
        ])
    | inr later_on ↦ ticking_none told row is n next (tick.distinct distinct) (tick.goes distinct entry found (stale work.edge.ticks row.age entry.tick less (ltb-false _ _ later_on)))
  ]
    where
      next : Work
      next = tick_input plan told (beginning work.edge work.calls)

      tick : TicksOnce row work.edge next.edge
      tick = one_tick told row is (beginning work.edge work.calls)

      less : work.edge.ticks < 2 ^ 64 - 1
      less = less_of work.edge.ticks n (2 ^ 64 - 1) counts

      now : next.edge.ticks ≡ work.edge.ticks + 1
      now = tick.ticks ∙ next_tick work.edge.ticks less

      after : (tick t now : ℕ) → now ≡ t + 1 → tick ≤ t → tick ≤ now
      after tick t now is past = omega (arith, is, past)

      due_later : (t now n limit : ℕ) → now ≡ t + 1 → limit ≤ t + suc n → limit ≤ now + n
      due_later t now n limit is due = omega (arith, is, due)
