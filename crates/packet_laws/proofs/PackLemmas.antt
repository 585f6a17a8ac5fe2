-- What the plan and the told contents say of the two ends of a wire: few points, a VLAN ID that fits, and the same mode at both.
use Rattle.std.proofs.Common.{◌≡◌, ◌≤◌, ◌<◌, ◌==◌, ◌&&◌, ◌+◌, ◌∙◌, ℕ, Bool, true, false, List, [], ◌∷◌, Option, Some, None, cond, length, reverse, is_some, nat_le, refl, ap, sym, arith}
use Rattle.std.proofs.lemmas.Bool.Decides.{nat_tests}
use Rattle.std.proofs.lemmas.List.{length-reverse}
use Rattle.net_base.specs.declared.plan.Plan.{Plan}
use Rattle.net_base.specs.declared.plan.places.EdgeId.{EdgeId}
use Rattle.net_base.specs.declared.plan.places.WireId.{WireId}
use Rattle.net_base.specs.declared.plan.wire_plan.WirePlan.{WirePlan}
use Rattle.net_base.specs.plan.Accepted.{IsOffer, IsWireOf}
use Rattle.net_base.specs.plan.Faults.{is_told_within}
use Rattle.net_base.specs.plan.Paths.{expected, follows, up_to, way_from}
use Rattle.pw_messages.specs.Content.{ethernet_raw, ethernet_tagged}
use Rattle.eth_encap.specs.Packet.{IsVlan}
use Rattle.pw_signalling.specs.declared.end_role.EndRole.{EndRole}
use Rattle.pw_signalling.specs.declared.told.Told.{Told}
use Rattle.pw_signalling.specs.Down.{down}
use Rattle.pw_signalling.specs.Laws.{BothAgree}
use Rattle.pw_signalling.proofs.LawLemmas.{forwards_where_both_agree}
use Rattle.edge_model.specs.Send.{pushed_vlan}
use Rattle.network_model.specs.State.{NetworkState}
use Rattle.network_model.proofs.PointLemmas.{points_less}
use Rattle.flight_laws.specs.Rules.{TellsExpected}
use Rattle.flight_laws.proofs.StableLemmas.{IsPlannedEnd}

-- ---- points

up_to_fits : (path : List EdgeId) (edge : ℕ) → length (up_to path edge) ≤ length path
up_to_fits [] edge = omega arith
up_to_fits (first ∷ rest) edge = by (edge == first.0) (up_to_fits rest edge) where
  by : (b : Bool) → length (up_to rest edge) ≤ length rest → length (cond b (first ∷ []) (first ∷ up_to rest edge)) ≤ length (first ∷ rest)
  by true fits = omega arith
  by false fits = omega (arith, fits)

way_fits : (path : List EdgeId) (from to : ℕ) → length (way_from path from to) ≤ length path
way_fits path from to = by (follows path from to) where
  by : (b : Bool) → length (cond b (up_to path from) (up_to (reverse path) from)) ≤ length path
  by true = up_to_fits path from
  by false = omega (arith, up_to_fits (reverse path) from, length-reverse path)

-- no more points pass an offer on than its path has edges
pub few_points : (plan : Plan) (row : WirePlan) (from to : ℕ) → IsWireOf plan row → length (expected plan row from to).points ≤ 5
few_points plan row from to checked = omega (arith, points_less plan row (way_from row.path from to), way_fits row.path from to, checked.most)

-- ---- VLAN IDs

-- what one edge is expected to tell another one is an offer without a fault
pub expected_offer : (plan : Plan) (row : WirePlan) (from to : ℕ) → IsWireOf plan row → IsOffer (expected plan row from to).offer
expected_offer plan row from to checked = by (follows row.path from to) where
  by : (b : Bool) → IsOffer (cond b row.near row.far)
  by true = checked.near
  by false = checked.far

told_below : (vlan : ℕ) → is_told_within 0 4095 (Some vlan) ≡ true → vlan < 4096
told_below vlan within = below vlan 4095 within where
  below : (n most : ℕ) → nat_le 0 n && nat_le n most ≡ true → n < most + 1
  below n most e = grind (arith, nat_tests)

pub pushed_fits : (tagged : Bool) (vlan : Option ℕ) → is_told_within 0 4095 vlan ≡ true → IsVlan (pushed_vlan tagged vlan)
pushed_fits false vlan within = tt
pushed_fits true None within = omega arith
pushed_fits true (Some vlan) within = told_below vlan within

-- a tag is put on in tagged mode alone
pub pushed_mode : (tagged : Bool) (vlan : Option ℕ) → is_some (pushed_vlan tagged vlan) ≡ tagged
pushed_mode false vlan = refl
pushed_mode true None = refl
pushed_mode true (Some vlan) = refl

pub pushed_same : (tagged mode : Bool) (vlan requested : Option ℕ) → tagged ≡ mode → vlan ≡ requested → pushed_vlan tagged vlan ≡ pushed_vlan mode requested
pushed_same tagged mode vlan requested same is = ap (λ (b : Bool). pushed_vlan b vlan) same ∙ ap (pushed_vlan mode) is

-- ---- the contents that both ends tell

told_word : (plan : Plan) (row : WirePlan) (from to : ℕ) (told : Told) → TellsExpected plan row from to told → told.c ≡ (expected plan row from to).offer.cword
told_word plan row from to told tells = ap (λ (t : Told). t.c) tells.content

told_kind : (plan : Plan) (row : WirePlan) (from to : ℕ) (told : Told) → TellsExpected plan row from to told → told.kind ≡ cond (expected plan row from to).offer.tagged ethernet_tagged ethernet_raw
told_kind plan row from to told tells = ap (λ (t : Told). t.kind) tells.content

pub told_vlan : (plan : Plan) (row : WirePlan) (from to : ℕ) (told : Told) → TellsExpected plan row from to told → told.vlan ≡ (expected plan row from to).offer.vlan
told_vlan plan row from to told tells = ap (λ (t : Told). t.vlan) tells.content

same_mode : (one other : Bool) → cond one ethernet_tagged ethernet_raw ≡ cond other ethernet_tagged ethernet_raw → one ≡ other
same_mode true true same = refl
same_mode false false same = refl
same_mode true false same = absurd (omega (arith, same))
same_mode false true same = absurd (omega (arith, same))

-- both ends have the same mode, and both use a control word or none does
pub record HaveSameMode (plan : Plan) (row : WirePlan) (from to : ℕ) : Type 0 where
  pub word : (expected plan row to from).offer.cword ≡ (expected plan row from to).offer.cword
  pub mode : (expected plan row to from).offer.tagged ≡ (expected plan row from to).offer.tagged

-- where an end of a wire forwards
pub forwarding_agrees : (plan : Plan) (network : NetworkState) (me peer : ℕ) (wire : WireId) (row : WirePlan) (role : EndRole) (bits : ℕ) → IsPlannedEnd plan network me peer wire row
    → down role bits ((network.edges me).ends wire.0 peer) ≡ None → HaveSameMode plan row me peer
forwarding_agrees plan network me peer wire row role bits planned forwards =
    let agree : BothAgree ((network.edges me).ends wire.0 peer) = forwards_where_both_agree role bits ((network.edges me).ends wire.0 peer) forwards in
    let own : TellsExpected plan row me peer agree.own = (planned.advertises agree.label agree.own agree.advertises).tells in
    let far : TellsExpected plan row peer me agree.binding.told = (planned.holds agree.binding agree.bound).tells in
    record {
      word = sym (told_word plan row peer me agree.binding.told far) ∙ (sym agree.c_bits ∙ told_word plan row me peer agree.own own);
      mode = same_mode (expected plan row peer me).offer.tagged (expected plan row me peer).offer.tagged
          (sym (told_kind plan row peer me agree.binding.told far) ∙ (sym agree.kinds ∙ told_kind plan row me peer agree.own own));
    }
