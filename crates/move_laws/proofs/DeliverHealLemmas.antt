-- A delivery heals on.
use Rattle.edge_model.specs.State.{EdgeState}
use Rattle.address_laws.specs.Sites.{Sites}
use Rattle.edge_model.specs.Mend.{mends}
use Rattle.edge_model.specs.Session.{happens_with_ends}
use Rattle.edge_model.specs.Work.{Work, idles}
use Rattle.flight_laws.proofs.EventLemmas.{pipe_edges}
use Rattle.flight_laws.proofs.PipeLemmas.{pipe_from, pipe_there, pipe_to}
use Rattle.flight_laws.proofs.RunLemmas.{both_apart}
use Rattle.flight_laws.proofs.SoundLemmas.{happens_sound}
use Rattle.flight_laws.specs.Ends.{HasTypes, IsOrdered}
use Rattle.move_laws.proofs.HearHealLemmas.{MeshesTo, event_heals}
use Rattle.move_laws.proofs.LiveLemmas.{mends_live}
use Rattle.move_laws.proofs.MendHealLemmas.{mends_heal}
use Rattle.move_laws.proofs.OctetsHealLemmas.{octets_heal, HasTellers}
use Rattle.move_laws.proofs.SettleHealLemmas.{IsDrawn, begin_heals, settle_heals}
use Rattle.move_laws.proofs.JoinLemmas.{joined_back}
use Rattle.move_laws.specs.Healing.{HasWays, Heals, IsHealing, LeavesToHear, HealsLive}
use Rattle.net_base.specs.declared.plan.Plan.{Plan}
use Rattle.net_base.specs.declared.plan.places.EdgeId.{EdgeId}
use Rattle.net_base.specs.declared.plan.places.ServiceId.{ServiceId}
use Rattle.net_base.specs.declared.trace.state_name.Reason.TheVariants as reason
use Rattle.net_base.specs.plan.Accepted.{IsChecked}
use Rattle.net_base.specs.plan.Roles.{are_joined_by, is_core_edge}
use Rattle.network_model.specs.Absorb.{absorb, begin_at, idle, taken_all}
use Rattle.network_model.specs.Connection.{deliver_event, delivering, hearing_work, is_drained_pipe, losing, losing_work}
use Rattle.network_model.specs.State.{NetworkState, held_by, stands, with_pipe}
use Rattle.session_core.specs.Table.{Closed}
use Rattle.std.proofs.Common.{Bool, List, [], ap, cond, drop, false, nat_eq, not, refl, subst, sym, take, true, ℕ, ◌&&◌, ◌++◌, ◌||◌, ◌∙◌, ◌≡◌}
use Rattle.net_values.proofs.BoolLemmas.{clash}
use Rattle.net_values.proofs.NumberLemmas.{apart_back}
use Rattle.flood_laws.proofs.ChainLemmas.{has_end}

-- each two core edges have a mesh wire, in a calm service
pub record HasMeshes (plan : Plan) (service : ServiceId) : Type 0 where
  pub meshes : (a b : ℕ) → is_core_edge plan service a ≡ true → is_core_edge plan service b ≡ true → nat_eq b a ≡ false → MeshesTo plan service a b

module _ (plan : Plan) (service : ServiceId) (site : Sites) (calm network : NetworkState) (checked : IsChecked plan) (types : HasTypes plan) (ordered : IsOrdered plan network)
    (tells : HasTellers plan network) (meshed : HasMeshes plan service)
    (healing : HealsLive plan service site calm network) where
  heals : Heals plan service site calm network
  heals = healing.heals

  ways : (me : EdgeId) → HasWays plan service network me
  ways me place joined stood = (heals.steady me.0 place joined stood).0

  -- the end of a connection that no wire of the service needs is lost
  pub losing_heals : (me peer : EdgeId) → stands network me.0 peer.0 ≡ true → stands network peer.0 me.0 ≡ false → HealsLive plan service site calm (losing plan me peer network).state
  losing_heals me peer there gone = subst (λ (w : Work). HealsLive plan service site calm (absorb me 0 0 w network).state) (sym work_is)
      (settle_heals plan service site calm network network me peer.0 [] (mends plan taken_all ended) checked (record { edges = λ a away. refl; pipes = λ a b other. refl }) heals healed
      (mends_live plan service me ended checked after.stays.place) (λ a away. healing.live a)
      (λ joined stood. clash (sym apart ∙ joined_back plan service peer.0 me.0 joined))
      (λ joined stood wire row onward. clash (sym apart ∙ joined_back plan service peer.0 me.0 joined)))
    where
      apart : are_joined_by plan service me.0 peer.0 ≡ false
      apart = by (are_joined_by plan service me.0 peer.0) refl where
        by : (b : Bool) → are_joined_by plan service me.0 peer.0 ≡ b → b ≡ false
        by true joined = clash (sym gone ∙ has_end ((network.edges peer.0).peering me.0) (heals.steady me.0 peer.0 joined there).1.up)
        by false is = refl

      began : IsHealing plan service site network me peer.0 [] (begin_at network me)
      began = begin_heals plan service site calm network me peer.0 [] checked ordered heals (λ joined stood. clash (sym apart ∙ joined_back plan service peer.0 me.0 joined))

      ended : Work
      ended = happens_with_ends taken_all peer (Closed reason.Closed) (begin_at network me)

      after : IsHealing plan service site network me peer.0 [] ended
      after = (event_heals plan service site network me peer checked types (ways me) (Closed reason.Closed) [] (begin_at network me) apart
          (happens_sound taken_all peer (Closed reason.Closed) (begin_at network me) began.stays.sound) began).heals

      healed : IsHealing plan service site network me peer.0 [] (mends plan taken_all ended)
      healed = mends_heal plan service site network me peer.0 [] ended checked types (ways me) after

      work_is : losing_work plan network me peer ≡ mends plan taken_all ended
      work_is = ap (λ (b : Bool). cond b (mends plan taken_all ended) (idles (begin_at network me))) there

  delivering_heals : (from to : EdgeId) (count : ℕ) → nat_eq from.0 to.0 ≡ false → stands network to.0 from.0 ≡ true → HealsLive plan service site calm (delivering plan from to count network).state
  delivering_heals from to count away there =
      let healed = octets_heal plan service site calm network to from count checked types ordered tells heals away there (λ core is other here. meshed.meshes to.0 core here is other) in
      settle_heals plan service site calm network (with_pipe from to (drop count (network.pipes from.0 to.0)) network) to from.0 healed.later
      (hearing_work plan network from to (take count (network.pipes from.0 to.0))) checked drawn heals
      healed.heals healed.live (λ a away. healing.live a)
      (λ joined stood. subst (λ (l : List ℕ). LeavesToHear plan service network to.0 from.0 healed.later
      (held_by ((hearing_work plan network from to (take count (network.pipes from.0 to.0))).edge.peering from.0) ++ l))
      (sym (pipe_there from to (drop count (network.pipes from.0 to.0)) network)) (healed.left joined stood))
      healed.met
    where
      drawn : IsDrawn network (with_pipe from to (drop count (network.pipes from.0 to.0)) network) from.0 to.0
      drawn = record {
        edges = λ a apart. ap (λ (f : ℕ → EdgeState). f a) (pipe_edges from to (drop count (network.pipes from.0 to.0)) network);
        pipes = λ a b other. by a b (nat_eq a from.0) (nat_eq b to.0) refl refl other;
      }
        where
          by : (a b : ℕ) (p q : Bool) → nat_eq a from.0 ≡ p → nat_eq b to.0 ≡ q → p && q ≡ false → (with_pipe from to (drop count (network.pipes from.0 to.0)) network).pipes a b ≡ network.pipes a b
          by a b false q one other none = pipe_from from to (drop count (network.pipes from.0 to.0)) network a b one
          by a b true false one other none = pipe_to from to (drop count (network.pipes from.0 to.0)) network a b other
          by a b true true one other none = clash (sym none)

  pub deliver_heals : (from to : EdgeId) (count : ℕ) → HealsLive plan service site calm (deliver_event plan from to count network).state
  deliver_heals from to count = by (stands network to.0 from.0) refl where
    away_of : stands network to.0 from.0 ≡ true → nat_eq from.0 to.0 ≡ false
    away_of there = apart_back to.0 from.0 (both_apart plan network to.0 from.0 ordered there)

    by_drained : stands network to.0 from.0 ≡ true → (drained far : Bool) → is_drained_pipe network from.0 to.0 ≡ drained → stands network from.0 to.0 ≡ far
        → HealsLive plan service site calm (cond (not drained || not far) (cond drained (losing plan to from network) (delivering plan from to count network)) (idle network)).state
    by_drained there true true is stood = healing
    by_drained there true false is gone = losing_heals to from there gone
    by_drained there false far is stood = delivering_heals from to count (away_of there) there

    by : (b : Bool) → stands network to.0 from.0 ≡ b
        → HealsLive plan service site calm (cond (b && (not (is_drained_pipe network from.0 to.0) || not (stands network from.0 to.0)))
        (cond (is_drained_pipe network from.0 to.0) (losing plan to from network) (delivering plan from to count network)) (idle network)).state
    by true there = by_drained there (is_drained_pipe network from.0 to.0) (stands network from.0 to.0) refl refl
    by false gone = healing
