-- Two edges whose connection comes up say messages of their ends.
use Rattle.std.proofs.Common.{◌≡◌, ◌∙◌, ℕ, true, false, nat_eq, Option, Some, None, slice_get, refl, sym, subst, inl, inr, arith}
use Rattle.std.proofs.lemmas.Bool.{cases_Bool, eqb-true}
use Rattle.net_values.proofs.NumberLemmas.{same_number}
use Rattle.net_base.specs.declared.plan.Plan.{Plan}
use Rattle.net_base.specs.declared.plan.edge_plan.EdgePlan.{EdgePlan}
use Rattle.net_base.specs.declared.plan.places.EdgeId.{EdgeId}
use Rattle.net_base.specs.declared.trace.state_name.StateName.TheVariants as name
use Rattle.net_base.specs.plan.Accepted.{IsChecked}
use Rattle.net_base.specs.plan.Paths.{are_joined}
use Rattle.session_core.specs.declared.peers.Peers.{Peers}
use Rattle.session_core.specs.Table.{Start, outcome_of}
use Rattle.edge_model.specs.Connection.{connects, connects_between, opened_with, peers_of}
use Rattle.edge_model.specs.declared.effect.Effect.TheVariants.{Session}
use Rattle.edge_model.specs.Labels.{meeting}
use Rattle.edge_model.specs.Mend.{mends}
use Rattle.edge_model.specs.State.{Peering, with_peering}
use Rattle.edge_model.specs.Work.{Work, changes, gives, idles}
use Rattle.network_model.specs.Absorb.{begin_at, taken_all}
use Rattle.network_model.specs.Connection.{connected_work}
use Rattle.network_model.specs.State.{NetworkState, stands}
use Rattle.flight_laws.specs.Ends.{HasTypes, IsOrdered, ends_at}
use Rattle.flight_laws.specs.Pair.{AreEnds, AreFit, StandsIf}
use Rattle.flight_laws.proofs.ConnectLemmas.{ConnectsOn, connected_is, connects_on, connects_steady, none_there}
use Rattle.flight_laws.proofs.MendingLemmas.{mends_keep}
use Rattle.flight_laws.proofs.PlanLemmas.{ends_are, joined_apart}
use Rattle.flight_laws.proofs.SteadyLemmas.{steady_rows}
use Rattle.spelling_laws.proofs.PutLemmas.{AllTell, Speaks, changes_tell, gives_tell, speaks_by}
use Rattle.spelling_laws.proofs.SessionLemmas.{SaysAcross, event_tells, start_says}
use Rattle.spelling_laws.proofs.WorkLemmas.{Telling, telling_steady}

-- an edge whose end comes to stand
module _ (plan : Plan) (network : NetworkState) (me peer : EdgeId) (one other : EdgePlan) (same : ends_at plan me.0 peer.0 ≡ peers_of one other) where
  abbrev Opens : Work → Type 0
  Opens = ConnectsOn plan network (peers_of one other) (peers_of other one) me peer

  no_end : {kept : Peering} → None ≡ Some kept → ⊥
  no_end e = cc

  same_kept : {one other : Peering} → Some one ≡ Some other → one ≡ other
  same_kept e = cc

  standing : (work : Work) → Opens work → (k : ℕ) (kept : Peering) → work.edge.peering k ≡ Some kept → Speaks (ends_at plan me.0 k) kept
  standing work on k kept at = elim (cases_Bool (nat_eq k peer.0)) [
    | inl beside ↦ subst (λ (n : ℕ). Speaks (ends_at plan me.0 n) kept) (sym (eqb-true k peer.0 beside)) (at_peer (subst (λ (n : ℕ). work.edge.peering n ≡ Some kept) (eqb-true k peer.0 beside) at))
    | inr away ↦ elsewhere away
  ]
    where
      at_peer : work.edge.peering peer.0 ≡ Some kept → Speaks (ends_at plan me.0 peer.0) kept
      at_peer there = subst (λ (p : Peers). Speaks p kept) (sym same)
          (subst (Speaks (peers_of one other)) (same_kept (sym on.opened.shows.keeps ∙ there)) (speaks_by (peers_of one other) (peers_of other one) on.opened.kept on.opened.stands))

      elsewhere : nat_eq k peer.0 ≡ false → Speaks (ends_at plan me.0 k) kept
      elsewhere away = elim (cases_Bool (nat_eq k me.0)) [
        | inl mine ↦ absurd (no_end (sym (subst (λ (n : ℕ). work.edge.peering n ≡ None) (sym (eqb-true k me.0 mine)) on.alone) ∙ at))
        | inr gone ↦ speaks_by (ends_at plan me.0 k) (ends_at plan k me.0) kept (subst (StandsIf (ends_at plan me.0 k) (ends_at plan k me.0)) at (on.left k gone away).leaves.talk.here)
      ]

  -- it has opened
  open_stands : (work : Work) → (gives (Session peer name.Initialized) (changes (with_peering peer (Some (opened_with one other))) work)).edge.peering peer.0 ≡ Some (opened_with one other)
  unfolding gives changes with_peering
  open_stands work = rw (same_number peer.0) refl

  opened_speaks : AreFit (peers_of one other) → (kept : Peering) → opened_with one other ≡ kept → Speaks (peers_of one other) kept
  opened_speaks fit kept is = subst (Speaks (peers_of one other)) is (record { peers = refl; fit = fit; low = omega arith })

  connects_tell : (work : Work) → AreFit (peers_of one other) → AllTell plan me.0 work.effects → AllTell plan me.0 (connects taken_all peer (opened_with one other) work).effects
  connects_tell work fit before =
      let met : Work = changes (meeting peer) work in
      let there : Work = changes (with_peering peer (Some (opened_with one other))) met in
      let told : Work = gives (Session peer name.Initialized) there in
      event_tells plan me peer Start told (λ kept at. (let is : opened_with one other ≡ kept = same_kept (sym (open_stands met) ∙ at) in (
        subst (λ (p : Peers). Speaks p kept) (sym same) (opened_speaks fit kept is),
        subst (λ (p : Peers). SaysAcross p (outcome_of kept.session Start)) (sym same)
            (subst (λ (k : Peering). SaysAcross (peers_of one other) (outcome_of k.session Start)) is (start_says one other)),
      )))
      (gives_tell plan me.0 (Session peer name.Initialized) there tt
      (changes_tell plan me.0 (with_peering peer (Some (opened_with one other))) met (changes_tell plan me.0 (meeting peer) work before)))

  -- and mends its ends
  pub opening_tells : IsChecked plan → HasTypes plan → IsOrdered plan network → nat_eq me.0 peer.0 ≡ false → AreEnds (peers_of one other) (peers_of other one)
      → (network.edges me.0).peering peer.0 ≡ None
      → AllTell plan me.0 (mends plan taken_all (connects taken_all peer (opened_with one other) (begin_at network me))).effects
  opening_tells checked types ordered apart ends none =
      (mends_keep plan me (Telling plan me Opens (connects_steady plan network (peers_of one other) (peers_of other one) me peer) standing)
      (steady_rows plan me checked types (Telling plan me Opens (connects_steady plan network (peers_of one other) (peers_of other one) me peer) standing)
      (telling_steady plan me Opens (connects_steady plan network (peers_of one other) (peers_of other one) me peer) standing))
      (connects taken_all peer (opened_with one other) (begin_at network me))
      (connects_on plan network me peer one other ordered apart ends none, connects_tell (begin_at network me) ends.one tt)).1

idled_effects : (work : Work) → (idles work).effects ≡ work.effects
unfolding idles
idled_effects work = refl

-- the work of an edge that is joined to the peer, and whose end does not stand
pub connected_tells : (plan : Plan) (network : NetworkState) (me peer : EdgeId) → IsChecked plan → HasTypes plan → IsOrdered plan network → are_joined plan me.0 peer.0 ≡ true
    → stands network me.0 peer.0 ≡ false → AllTell plan me.0 (connected_work plan network me peer).effects
connected_tells plan network me peer checked types ordered joined none =
    subst (λ (w : Work). AllTell plan me.0 w.effects) (sym (connected_is plan network me peer ordered joined none)) (by (slice_get plan.edges me.0) (slice_get plan.edges peer.0) refl refl)
  where
    apart : nat_eq me.0 peer.0 ≡ false
    apart = joined_apart plan me.0 peer.0 checked joined

    idle_tells : AllTell plan me.0 (idles (begin_at network me)).effects
    idle_tells = subst (AllTell plan me.0) (sym (idled_effects (begin_at network me))) tt

    by : (first second : Option EdgePlan) → slice_get plan.edges me.0 ≡ first → slice_get plan.edges peer.0 ≡ second
        → AllTell plan me.0 (connects_between plan taken_all peer first second (begin_at network me)).effects
    by (Some one) (Some other) here there =
        opening_tells plan network me peer one other (rw (here, there) refl) checked types ordered apart (ends_are plan me.0 peer.0 one other checked types here there apart)
        (none_there ((network.edges me.0).peering peer.0) none)
    by None None here there = idle_tells
    by None (Some other) here there = idle_tells
    by (Some one) None here there = idle_tells
