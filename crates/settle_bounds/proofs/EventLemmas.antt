-- What an edge that had mended puts when a session comes up, or ends.
use Rattle.std.proofs.Common.{◌≡◌, ◌≤◌, ◌+◌, ◌++◌, ◌∙◌, ◌&&◌, ◌||◌, ◌⊎◌, ℕ, Bool, true, false, cond, is_some, nat_eq, List, [], ◌∷◌, Option, Some, None, refl, sym, ap, subst, arith, inl, inr}
use Rattle.std.proofs.lemmas.Bool.{cases_Bool, eqb-true}
use Rattle.std.proofs.lemmas.List.{append_cancel_left}
use Rattle.std.specs.List.{AllByRecursion}
use Rattle.net_values.proofs.BoolLemmas.{clash}
use Rattle.net_values.proofs.NumberLemmas.{same_number}
use Rattle.net_base.specs.declared.plan.Plan.{Plan}
use Rattle.net_base.specs.declared.plan.places.EdgeId.{EdgeId}
use Rattle.net_base.specs.declared.plan.places.ServiceId.{ServiceId}
use Rattle.net_base.specs.declared.plan.wire_plan.WirePlan.{WirePlan}
use Rattle.net_base.specs.plan.Accepted.{IsChecked}
use Rattle.net_base.specs.plan.Paths.{mate_on}
use Rattle.net_base.specs.plan.Places.{wire_row}
use Rattle.label_space.specs.declared.kept.Kept.{Kept}
use Rattle.label_space.specs.Labels.{number_to_give}
use Rattle.session_core.specs.Table.{SessionEvent}
use Rattle.pw_signalling.specs.declared.told.Told.{Told}
use Rattle.pw_signalling.specs.End.{EndState, Idle, Advertised}
use Rattle.pw_signalling.specs.End as end_spec
use Rattle.pw_signalling.specs.Laws.{own_label}
use Rattle.edge_model.specs.Across.{mate_of}
use Rattle.edge_model.specs.declared.effect.Effect.{Effect}
use Rattle.edge_model.specs.declared.end_place.EndPlace.{EndPlace}
use Rattle.edge_model.specs.Labels.{keeps_lost, keeps_one, label_to_give}
use Rattle.edge_model.specs.Mend.{is_up_with, mends, offer_stands, wish, wish_by, wish_of}
use Rattle.edge_model.specs.Role.{status_to_tell}
use Rattle.edge_model.specs.Session.{happens, happens_with_ends, losing_ends}
use Rattle.edge_model.specs.Settled.{is_told, tells_now}
use Rattle.edge_model.specs.Spokes.{is_spoke_row}
use Rattle.edge_model.specs.State.{EdgeState, Peering, end_at, has_end, is_there, with_ends_beside, with_kept}
use Rattle.edge_model.specs.Work.{Work, changes}
use Rattle.edge_model.proofs.HeldLemmas.{clears_keep}
use Rattle.edge_model.proofs.MendLemmas.{clears_not}
use Rattle.edge_model.proofs.SessionLemmas.{IsBesides, happens_ends, happens_with_ends_works}
use Rattle.network_model.specs.Absorb.{taken_all}
use Rattle.flight_laws.proofs.KeepLemmas.{KeepsEnds, happens_keeps}
use Rattle.flight_laws.proofs.MendedRunLemmas.{IsMendedAt}
use Rattle.flight_laws.proofs.PlaceLemmas.{IsEndOf}
use Rattle.rest_laws.specs.Levels.{Saying, Binds, Withdraws, Releases, States, Clears}
use Rattle.rest_laws.proofs.ClearLemmas.{put_mended}
use Rattle.rest_laws.proofs.DueLemmas.{IsDue, PutsMore, PutsWell}
use Rattle.rest_laws.proofs.HearLemmas.{due_after, same_to_give}
use Rattle.quiet_laws.proofs.ToldLemmas.{TellsMore}
use Rattle.settle_bounds.specs.Bound.{allowed, is_peer, may_fall, may_rise}
use Rattle.settle_bounds.specs.Worth.{gate, mend_cost, starts_spoke, worth_at}
use Rattle.settle_bounds.proofs.ChosenLemmas.{mending_puts_chosen, own_same, passed_same, told_still}
use Rattle.settle_bounds.proofs.NearLemmas.{TellsAlike, either_second, tells_alike}
use Rattle.settle_bounds.proofs.WalkLemmas.{AreSlots, Walks, mends_walk, slots_sum, spoke_row_starts}
use Rattle.settle_bounds.proofs.WorthLemmas.{AllSlots, may_all, paid, slots_both, slots_less, told_least}

-- ---- places of the same wire, beside the same peer

pub rise_like : (plan : Plan) (me : EdgeId) (peer : ℕ) (p q : EndPlace) (s : Saying) → p.wire.0 ≡ q.wire.0 → p.peer.0 ≡ q.peer.0 → may_rise plan me peer p s ≡ may_rise plan me peer q s
rise_like plan me peer p q Binds w k = ap (λ (n : ℕ). nat_eq n peer) k
rise_like plan me peer p q Withdraws w k = refl
rise_like plan me peer p q Releases w k = ap (λ (n : ℕ). starts_spoke me (wire_row plan (record { 0 = n }))) w
rise_like plan me peer p q States w k = ap (λ (n : ℕ). starts_spoke me (wire_row plan (record { 0 = n }))) w
rise_like plan me peer p q Clears w k = ap (λ (n : ℕ). starts_spoke me (wire_row plan (record { 0 = n }))) w

beyond_like : (plan : Plan) (me : EdgeId) (peer : ℕ) (p q : EndPlace) → p.wire.0 ≡ q.wire.0 → p.peer.0 ≡ q.peer.0
    → is_peer peer (mate_of me p (wire_row plan p.wire)) ≡ is_peer peer (mate_of me q (wire_row plan q.wire))
beyond_like plan me peer p q w k =
    ap (λ (n : ℕ). is_peer peer (mate_of me (Rattle.settle_bounds.specs.Worth.beside n p.peer.0) (wire_row plan (record { 0 = n })))) w
    ∙ ap (λ (n : ℕ). is_peer peer (mate_of me (Rattle.settle_bounds.specs.Worth.beside q.wire.0 n) (wire_row plan q.wire))) k

pub fall_like : (plan : Plan) (me : EdgeId) (peer : ℕ) (p q : EndPlace) (s : Saying) → p.wire.0 ≡ q.wire.0 → p.peer.0 ≡ q.peer.0 → may_fall plan me peer p s ≡ may_fall plan me peer q s
fall_like plan me peer p q Binds w k = beyond_like plan me peer p q w k
fall_like plan me peer p q Withdraws w k = beyond_like plan me peer p q w k
fall_like plan me peer p q Releases w k = ap (λ (n : ℕ). starts_spoke me (wire_row plan (record { 0 = n }))) w
fall_like plan me peer p q States w k = λ i. beyond_like plan me peer p q w k i || starts_spoke me (wire_row plan (record { 0 = w i }))
fall_like plan me peer p q Clears w k = ap (λ (n : ℕ). starts_spoke me (wire_row plan (record { 0 = n }))) w

-- ---- an edge after an event

-- the sessions with others are as they were
abbrev is_of : EdgeId → ℕ → Bool
is_of peer k = nat_eq k peer.0

pub event_besides : (peer : EdgeId) (event : SessionEvent) (work : Work) → IsBesides (is_of peer) work.edge (happens_with_ends taken_all peer event work).edge
event_besides peer event work = (happens_with_ends_works taken_all (is_of peer) peer event work (same_number peer.0)).edge

wish_down : (plan : Plan) (edge : EdgeState) (p : EndPlace) → is_up_with (edge.peering p.peer.0) ≡ false → wish plan edge p ≡ None
wish_down plan edge p down = by (wire_row plan p.wire) where
  never : (on : Bool) → on && is_up_with (edge.peering p.peer.0) ≡ false
  never true = down
  never false = refl

  by : (o : Option WirePlan) → wish_of plan edge p o ≡ None
  by None = refl
  by (Some row) = ap (λ (b : Bool). cond b (wish_by plan edge p row) None) (never (edge.wire_on p.wire.0))

none_some : {A : Type 0} {x : A} → None ≡ Some x → ⊥
none_some e = cc

not_told : {declined : Bool} {label : ℕ} {content : Told} → Idle declined ≡ Advertised label content → ⊥
not_told e = cc

module _ (plan : Plan) (checked : IsChecked plan) (me peer : EdgeId) (event : SessionEvent) (work : Work) (mended : IsMendedAt plan me.0 work.edge) where
  abbrev next : Work
  next = happens_with_ends taken_all peer event work

  besides : IsBesides (is_of peer) work.edge next.edge
  besides = event_besides peer event work

  pub next_me : next.edge.me ≡ me
  next_me = besides.me ∙ mended.me

  -- ---- the session stands

  module _ (kept : Peering) (there : next.edge.peering peer.0 ≡ Some kept) where
    stood : has_end (happens taken_all peer event work).edge peer ≡ true
    stood = ap is_there (ap (λ (f : ℕ → Option Peering). f peer.0) (sym (clears_keep peer (happens taken_all peer event work))) ∙ there)

    next_is : next ≡ happens taken_all peer event work
    next_is = clears_not peer (happens taken_all peer event work) stood

    ends_same : next.edge.ends ≡ work.edge.ends
    ends_same = ap (λ (w : Work). w.edge.ends) next_is ∙ happens_ends taken_all peer event work

    keeps : KeepsEnds work.edge (happens taken_all peer event work).edge
    keeps = happens_keeps taken_all peer event work

    labels_same : label_to_give next.edge ≡ label_to_give work.edge
    labels_same = (λ i. number_to_give (besides.labels i) ((ap (λ (w : Work). w.edge.kept) next_is ∙ keeps.kept) i))

    ups_else : (k : ℕ) → nat_eq k peer.0 ≡ false → is_up_with (next.edge.peering k) ≡ is_up_with (work.edge.peering k)
    ups_else k away = ap is_up_with (besides.others k away)

    -- it is not up, and was not: the edge has mended still
    pub still_mended : is_up_with (next.edge.peering peer.0) ≡ is_up_with (work.edge.peering peer.0) → IsMendedAt plan me.0 next.edge
    still_mended same = put_mended plan me work.edge next.edge (record {
      me = besides.me;
      wires = besides.wires;
      bits = besides.bits;
      ends = ends_same;
      ups = λ k. ups k;
      labels = labels_same;
      chosen = besides.chosen;
      priorities = besides.priorities;
    }) mended
      where
        ups : (k : ℕ) → is_up_with (next.edge.peering k) ≡ is_up_with (work.edge.peering k)
        ups k = elim (cases_Bool (nat_eq k peer.0)) [
          | inl here ↦ subst (λ (n : ℕ). is_up_with (next.edge.peering n) ≡ is_up_with (work.edge.peering n)) (sym (eqb-true k peer.0 here)) same
          | inr away ↦ ups_else k away
        ]

    -- it has come up: its ends are mapped
    rise_due : is_up_with (work.edge.peering peer.0) ≡ false → IsDue plan me (may_rise plan me peer.0) next.edge
    rise_due down = due_after plan checked me (may_rise plan me peer.0) work.edge next.edge mended (λ left. ap (λ (o : Option ℕ). is_some o) (sym labels_same) ∙ left) binds withdraws where
      local : (p : EndPlace) → (end_at work.edge p).local ≡ (end_at next.edge p).local
      local p = ap (λ (all : ℕ → ℕ → EndState). (all p.wire.0 p.peer.0).local) (sym ends_same)

      alike : (p : EndPlace) → (here : IsEndOf plan me p) → nat_eq p.peer.0 peer.0 ≡ false → TellsAlike plan work.edge next.edge p
      alike p here away = tells_alike plan me work.edge next.edge mended.me p here (record {
        me_is = besides.me;
        wires = besides.wires;
        bits = besides.bits;
        up = ups_else p.peer.0 away;
        own = λ terminal. ap (λ (all : ℕ → ℕ → EndState). (all p.wire.0 p.peer.0).remote) ends_same;
        beyond = λ from mated. ap (λ (all : ℕ → ℕ → EndState). (all p.wire.0 from.0).remote) ends_same;
      })

      binds : (p : EndPlace) → IsEndOf plan me p → (end_at next.edge p).local ≡ Idle false → is_some (wish plan next.edge p) ≡ true
          → ((end_at work.edge p).local ≡ Idle false) × (is_some (wish plan work.edge p) ≡ true) ⊎ (may_rise plan me peer.0 p Binds ≡ true)
      binds p here idle some = elim (cases_Bool (nat_eq p.peer.0 peer.0)) [
        | inl beside ↦ inr beside
        | inr away ↦ inl (local p ∙ idle, sym (alike p here away).some ∙ some)
      ]

      withdraws : (p : EndPlace) → IsEndOf plan me p → (label : ℕ) (content : Told) → (end_at next.edge p).local ≡ Advertised label content → offer_stands p content (wish plan next.edge p) ≡ false
          → ((end_at work.edge p).local ≡ Advertised label content) × (offer_stands p content (wish plan work.edge p) ≡ false) ⊎ (may_rise plan me peer.0 p Withdraws ≡ true)
      withdraws p here label content told gone = elim (cases_Bool (nat_eq p.peer.0 peer.0)) [
        | inl beside ↦ inl (local p ∙ told, ap (offer_stands p content) (wish_down plan work.edge p (ap (λ (n : ℕ). is_up_with (work.edge.peering n)) (eqb-true p.peer.0 peer.0 beside) ∙ down)))
        | inr away ↦ inl (local p ∙ told, sym ((alike p here away).stands content) ∙ gone)
      ]

    pub rise_puts : is_up_with (work.edge.peering peer.0) ≡ false → PutsMore plan me (may_rise plan me peer.0) next.effects (mends plan taken_all next).effects
    rise_puts down = mending_puts_chosen plan me (may_rise plan me peer.0) (rise_like plan me peer.0) next next_me (rise_due down)
        (λ p here untold. clash (sym untold ∙ told_still plan checked me work.edge next.edge mended p here (ap (λ (all : ℕ → ℕ → EndState). (all p.wire.0 p.peer.0).local) ends_same) (status_risen p here)))
        (λ service. inl (λ p here spoke. (spoke_may p here service spoke, spoke_may p here service spoke)))
      where
        spoke_may : (p : EndPlace) → IsEndOf plan me p → (service : ServiceId) → is_spoke_row service me (wire_row plan p.wire) ≡ true → starts_spoke me (wire_row plan p.wire) ≡ true
        spoke_may p here service spoke = spoke_row_starts me service (wire_row plan p.wire) spoke

        status_risen : (p : EndPlace) → IsEndOf plan me p → status_to_tell plan next.edge p ≡ status_to_tell plan work.edge p
        status_risen p here = by p.terminal refl where
          by : (t : Bool) → p.terminal ≡ t → status_to_tell plan next.edge p ≡ status_to_tell plan work.edge p
          by true terminal = own_same plan work.edge next.edge p terminal besides.me besides.bits besides.chosen
          by false switching = passed_same plan me work.edge next.edge mended.me next_me p here switching (λ from mated. ap (λ (all : ℕ → ℕ → EndState). (all p.wire.0 from.0).remote) ends_same)

  -- ---- it has ended

  module _ (none : next.edge.peering peer.0 ≡ None) where
    abbrev happened : Work
    happened = happens taken_all peer event work

    gone : has_end happened.edge peer ≡ false
    gone = ap is_there (ap (λ (f : ℕ → Option Peering). f peer.0) (sym (clears_keep peer happened)) ∙ none)

    lost_is : next.edge ≡ losing_ends peer happened.edge
    lost_is = by (has_end happened.edge peer) gone where
      moved : (changes (losing_ends peer) happened).edge ≡ losing_ends peer happened.edge
      moved = Rattle.flight_laws.proofs.WorksLemmas.changed_edge (losing_ends peer) happened

      by : (b : Bool) → b ≡ false → (cond b happened (changes (losing_ends peer) happened)).edge ≡ losing_ends peer happened.edge
      by true is = clash (sym is)
      by false is = moved

    fresh_beside : (edge : EdgeState) (wire k : ℕ) → nat_eq k peer.0 ≡ true → (losing_ends peer edge).ends wire k ≡ end_spec.fresh
    unfolding with_kept with_ends_beside
    fresh_beside edge wire k beside = rw beside refl

    kept_lost : (edge : EdgeState) → (losing_ends peer edge).kept ≡ keeps_lost peer edge.ends edge.places edge.kept
    unfolding with_kept with_ends_beside
    kept_lost edge = refl

    lost_to_give : (number : ℕ) (ends : ℕ → ℕ → EndState) (places : List EndPlace) (kept : List Kept) → number_to_give number (keeps_lost peer ends places kept) ≡ number_to_give number kept
    lost_to_give number ends [] kept = refl
    lost_to_give number ends (place ∷ places) kept =
        lost_to_give number ends places (cond (nat_eq place.peer.0 peer.0) (keeps_one (own_label (ends place.wire.0 place.peer.0).local) place.peer kept) kept) ∙ by (nat_eq place.peer.0 peer.0)
      where
        by : (b : Bool) → number_to_give number (cond b (keeps_one (own_label (ends place.wire.0 place.peer.0).local) place.peer kept) kept) ≡ number_to_give number kept
        by true = same_to_give number (own_label (ends place.wire.0 place.peer.0).local) place.peer kept
        by false = refl

    labels_lost : label_to_give next.edge ≡ label_to_give work.edge
    labels_lost =
        (λ i. number_to_give (besides.labels i) ((ap (λ (e : EdgeState). e.kept) lost_is ∙ kept_lost happened.edge) i))
        ∙ (lost_to_give work.edge.next_label happened.edge.ends happened.edge.places happened.edge.kept
        ∙ ap (number_to_give work.edge.next_label) (happens_keeps taken_all peer event work).kept)

    end_lost : (p : EndPlace) → nat_eq p.peer.0 peer.0 ≡ true → end_at next.edge p ≡ end_spec.fresh
    end_lost p beside = ap (λ (e : EdgeState). e.ends p.wire.0 p.peer.0) lost_is ∙ fresh_beside happened.edge p.wire.0 p.peer.0 beside

    down_beside : (p : EndPlace) → nat_eq p.peer.0 peer.0 ≡ true → is_up_with (next.edge.peering p.peer.0) ≡ false
    down_beside p beside = ap (λ (n : ℕ). is_up_with (next.edge.peering n)) (eqb-true p.peer.0 peer.0 beside) ∙ ap is_up_with none

    fall_due : IsDue plan me (may_fall plan me peer.0) next.edge
    fall_due = due_after plan checked me (may_fall plan me peer.0) work.edge next.edge mended (λ left. ap (λ (o : Option ℕ). is_some o) (sym labels_lost) ∙ left) binds withdraws where
      -- the end on the other side
      mate_is : (p : EndPlace) → (here : IsEndOf plan me p) → mate_of me p (wire_row plan p.wire) ≡ mate_on here.row.path me.0 p.peer.0
      mate_is p here = ap (mate_of me p) here.is

      alike : (p : EndPlace) → (here : IsEndOf plan me p) → nat_eq p.peer.0 peer.0 ≡ false → may_fall plan me peer.0 p Binds ≡ false → TellsAlike plan work.edge next.edge p
      alike p here away beyond_not = tells_alike plan me work.edge next.edge mended.me p here (record {
        me_is = besides.me;
        wires = besides.wires;
        bits = besides.bits;
        up = ap is_up_with (besides.others p.peer.0 away);
        own = λ terminal. ap (λ (e : EndState). e.remote) (besides.ends p.wire.0 p.peer.0 away);
        beyond = λ from mated. ap (λ (e : EndState). e.remote) (besides.ends p.wire.0 from.0
            (ap (is_peer peer.0) (sym mated) ∙ (ap (is_peer peer.0) (sym (mate_is p here)) ∙ beyond_not)));
      })

      local : (p : EndPlace) → nat_eq p.peer.0 peer.0 ≡ false → (end_at work.edge p).local ≡ (end_at next.edge p).local
      local p away = ap (λ (e : EndState). e.local) (sym (besides.ends p.wire.0 p.peer.0 away))

      binds : (p : EndPlace) → IsEndOf plan me p → (end_at next.edge p).local ≡ Idle false → is_some (wish plan next.edge p) ≡ true
          → ((end_at work.edge p).local ≡ Idle false) × (is_some (wish plan work.edge p) ≡ true) ⊎ (may_fall plan me peer.0 p Binds ≡ true)
      binds p here idle some = elim (cases_Bool (nat_eq p.peer.0 peer.0)) [
        | inl beside ↦ clash (sym (ap (λ (o : Option Told). is_some o) (wish_down plan next.edge p (down_beside p beside))) ∙ some)
        | inr away ↦ elim (cases_Bool (may_fall plan me peer.0 p Binds)) [
          | inl beyond ↦ inr beyond
          | inr not_beyond ↦ inl (local p away ∙ idle, sym (alike p here away not_beyond).some ∙ some)
        ]
      ]

      withdraws : (p : EndPlace) → IsEndOf plan me p → (label : ℕ) (content : Told) → (end_at next.edge p).local ≡ Advertised label content → offer_stands p content (wish plan next.edge p) ≡ false
          → ((end_at work.edge p).local ≡ Advertised label content) × (offer_stands p content (wish plan work.edge p) ≡ false) ⊎ (may_fall plan me peer.0 p Withdraws ≡ true)
      withdraws p here label content told stands_not = elim (cases_Bool (nat_eq p.peer.0 peer.0)) [
        | inl beside ↦ absurd (not_told (sym (ap (λ (e : EndState). e.local) (end_lost p beside)) ∙ told))
        | inr away ↦ elim (cases_Bool (may_fall plan me peer.0 p Binds)) [
          | inl beyond ↦ inr beyond
          | inr not_beyond ↦ inl (local p away ∙ told, sym ((alike p here away not_beyond).stands content) ∙ stands_not)
        ]
      ]

    pub fall_puts : PutsMore plan me (may_fall plan me peer.0) next.effects (mends plan taken_all next).effects
    fall_puts = mending_puts_chosen plan me (may_fall plan me peer.0) (fall_like plan me peer.0) next next_me fall_due told_fallen
        (λ service. inl (λ p here spoke. (
          either_second (is_peer peer.0 (mate_of me p (wire_row plan p.wire))) (starts_spoke me (wire_row plan p.wire)) (spoke_row_starts me service (wire_row plan p.wire) spoke),
          spoke_row_starts me service (wire_row plan p.wire) spoke,
        )))
      where
        fresh_told : (status : ℕ) → tells_now status (end_spec.fresh).local ≡ true
        fresh_told status = refl

        -- beyond an end that is gone another status may be due
        told_fallen : (p : EndPlace) → IsEndOf plan me p → is_told plan next.edge p ≡ false → may_fall plan me peer.0 p States ≡ true
        told_fallen p here untold = elim (cases_Bool (nat_eq p.peer.0 peer.0)) [
          | inl beside ↦ clash (sym untold ∙ (ap (λ (e : EndState). tells_now (status_to_tell plan next.edge p).0 e.local) (end_lost p beside) ∙ fresh_told (status_to_tell plan next.edge p).0))
          | inr away ↦ elim (cases_Bool (is_peer peer.0 (mate_of me p (wire_row plan p.wire)))) [
            | inl beyond ↦ rw beyond refl
            | inr not_beyond ↦ clash (sym untold ∙ told_still plan checked me work.edge next.edge mended p here (ap (λ (e : EndState). e.local) (besides.ends p.wire.0 p.peer.0 away)) (status_fallen p here away not_beyond))
          ]
        ] where
          status_fallen : (p : EndPlace) (here : IsEndOf plan me p) → nat_eq p.peer.0 peer.0 ≡ false → is_peer peer.0 (mate_of me p (wire_row plan p.wire)) ≡ false
              → status_to_tell plan next.edge p ≡ status_to_tell plan work.edge p
          status_fallen p here away not_beyond = by p.terminal refl where
            by : (t : Bool) → p.terminal ≡ t → status_to_tell plan next.edge p ≡ status_to_tell plan work.edge p
            by true terminal = own_same plan work.edge next.edge p terminal besides.me besides.bits besides.chosen
            by false switching = passed_same plan me work.edge next.edge mended.me next_me p here switching (λ from mated. ap (λ (e : EndState). e.remote) (besides.ends p.wire.0 from.0
                (ap (is_peer peer.0) (sym mated) ∙ (ap (λ (o : Option WirePlan). is_peer peer.0 (mate_of me p o)) (sym here.is) ∙ not_beyond))))

-- ---- what that costs

module _ (plan : Plan) (checked : IsChecked plan) (edges : ℕ → EdgeState) (me : EdgeId) where
  -- a mending that puts what it may costs no more than all that it may
  pub mending_pays : (may : EndPlace → Saying → Bool) → ((p q : EndPlace) (s : Saying) → p.wire.0 ≡ q.wire.0 → p.peer.0 ≡ q.peer.0 → may p s ≡ may q s) → (work : Work) → work.edge.me ≡ me
      → PutsMore plan me may work.effects (mends plan taken_all work).effects → (tells : TellsMore plan me.0 work.effects (mends plan taken_all work).effects)
      → paid plan checked edges me tells.told ≤ mend_cost plan me (allowed plan edges me may)
  mending_pays may like work at puts tells =
      less (paid plan checked edges me tells.told) (slots_sum (worth_at plan edges me.0) walks.slots) (slots_sum (allowed plan edges me may) walks.slots) (mend_cost plan me (allowed plan edges me may))
      (told_least plan checked edges me tells.more tells.told walks.slots tells.are slots)
      (slots_less (worth_at plan edges me.0) (allowed plan edges me may) walks.slots
      (slots_both (λ p s. may p s ≡ true) (λ p s. may p s ≡ true) (λ p s. worth_at plan edges me.0 p s ≤ allowed plan edges me may p s) (λ p s one other. gated (may p s) (worth_at plan edges me.0 p s) one) walks.slots may_them may_them))
      (walks.few (allowed plan edges me may))
    where
      less : (a b c d : ℕ) → a ≤ b → b ≤ c → c ≤ d → a ≤ d
      less a b c d one two three = omega (arith, one, two, three)

      gated : (b : Bool) (n : ℕ) → b ≡ true → n ≤ gate b n
      gated true n is = omega arith
      gated false n is = clash is

      walks : Walks plan me work.effects (mends plan taken_all work).effects (mend_cost plan me)
      walks = mends_walk plan me work at

      same_more : (more : List Effect) → (mends plan taken_all work).effects ≡ work.effects ++ more → more ≡ tells.more
      same_more more is = append_cancel_left work.effects more tells.more (sym is ∙ tells.joined)

      slots : AreSlots plan me tells.more walks.slots
      slots = subst (λ (es : List Effect). AreSlots plan me es walks.slots) (same_more walks.more walks.joined) walks.are

      may_them : AllSlots (λ p s. may p s ≡ true) walks.slots
      may_them = may_all plan checked edges me may like tells.more tells.told walks.slots tells.are slots
          (subst (λ (es : List Effect). AllByRecursion (PutsWell plan me may) es) (same_more puts.more puts.joined) puts.well)
