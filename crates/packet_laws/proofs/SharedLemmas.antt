-- The two terminal ends of a wire pick the same control channel, and one that forwards has the C bit of the other one.
use Rattle.std.proofs.Common.{◌≡◌, ◌-◌, ◌∙◌, ℕ, Bool, true, false, Option, length, nat_eq, ap, sym}
use Rattle.net_base.specs.declared.plan.Plan.{Plan}
use Rattle.net_base.specs.declared.plan.offer.Offer.{Offer}
use Rattle.net_base.specs.declared.plan.places.EdgeId.{EdgeId}
use Rattle.net_base.specs.declared.plan.wire_plan.WirePlan.{WirePlan}
use Rattle.net_base.specs.plan.Accepted.{IsChecked, IsWireOf}
use Rattle.net_base.specs.plan.Paths.{expected, offer_of}
use Rattle.pw_signalling.specs.declared.binding.Binding.{Binding}
use Rattle.vccv_channel.specs.declared.cc.Cc.{Cc}
use Rattle.vccv_channel.specs.Pick.{picked}
use Rattle.edge_model.specs.declared.end_place.EndPlace.{EndPlace}
use Rattle.edge_model.specs.Echo.{channel_under}
use Rattle.edge_model.specs.EndPlaces.{is_terminal}
use Rattle.edge_model.specs.Role.{role_at}
use Rattle.network_model.specs.State.{NetworkState, edge_at}
use Rattle.network_model.proofs.WayLemmas.{turned_test}
use Rattle.flight_laws.specs.Laws.{network_after}
use Rattle.flight_laws.proofs.RuledNetworkLemmas.{IsRuledNetwork}
use Rattle.flight_laws.proofs.RuledRunLemmas.{run_ruled}
use Rattle.flight_laws.proofs.StableLemmas.{IsPlannedBinding, end_is_planned, terminal_offer}
use Rattle.flight_laws.proofs.TellLemmas.{TellsOwnOffer}
use Rattle.flight_laws.proofs.RuledMendLemmas.{wire_fits}
use Rattle.packet_laws.specs.Channel.{IsBoundEnd, SharesChannel}
use Rattle.packet_laws.specs.Echoed.{channels_told}
use Rattle.packet_laws.specs.Laws.{RunsShareChannels}
use Rattle.packet_laws.proofs.ChannelLemmas.{picked_turned, told_channels, told_points}
use Rattle.packet_laws.proofs.PackLemmas.{HaveSameMode, forwarding_agrees}
use Rattle.packet_laws.proofs.PathLemmas.{all_points, far_offer, side_of}

-- ---- by the offers of both terminal edges, and all switching points of the wire

-- the type that a terminal edge with the offer `own` picks towards one with the offer `far`
abbrev pub channel_between : Offer → Offer → ℕ → Option Cc
channel_between own far points = picked own.vccv (channels_told far) own.cword points

channel_turned : (own far : Offer) (points : ℕ) → own.cword ≡ far.cword → channel_between own far points ≡ channel_between far own points
channel_turned own far points same = ap (λ (w : Bool). picked own.vccv (channels_told far) w points) same ∙ picked_turned own.vccv far.vccv far.cword points

pub bound_picks : (plan : Plan) (network : NetworkState) (row : WirePlan) (me : EdgeId) (place : EndPlace) (binding : Binding) → IsChecked plan → IsRuledNetwork plan network
    → IsBoundEnd plan network me place row binding → channel_under row me binding ≡ channel_between (offer_of row me.0) (expected plan row place.peer.0 me.0).offer (length row.path - 2)
bound_picks plan network row me place binding checked ruled bound =
    let wire : IsWireOf plan row = wire_fits plan place.wire row checked bound.is in
    let planned : IsPlannedBinding plan network me.0 place.peer.0 place.wire row binding =
    (end_is_planned plan network checked ruled me.0 place.peer.0 place.wire row bound.is bound.joined).holds binding bound.bound in
    ap (λ (v : Option (ℕ × ℕ)). picked (offer_of row me.0).vccv v (offer_of row me.0).cword (length binding.told.points)) (told_channels plan row place.peer.0 me.0 binding.told planned.tells)
    ∙ ap (λ (n : ℕ). channel_between (offer_of row me.0) (expected plan row place.peer.0 me.0).offer n)
    (told_points plan row place.peer.0 me.0 binding.told planned.tells ∙ all_points plan row me.0 place.peer.0 wire bound.joined bound.terminal)

-- ---- the law

far_end : (plan : Plan) (network : NetworkState) (row : WirePlan) (me other : EdgeId) (place : EndPlace) (binding : Binding) → IsChecked plan → nat_eq me.0 other.0 ≡ false
    → IsBoundEnd plan network me place row binding → is_terminal row other ≡ true
    → (expected plan row place.peer.0 me.0).offer ≡ offer_of row other.0
far_end plan network row me other place binding checked apart bound terminal =
    far_offer plan row me other place.peer.0 (side_of row.path me.0 place.peer.0 (wire_fits plan place.wire row checked bound.is).once bound.joined bound.terminal) apart terminal

pub shares_channel : (plan : Plan) (network : NetworkState) → IsChecked plan → IsRuledNetwork plan network → SharesChannel plan network
shares_channel plan network checked ruled = record {
  same = λ row me other place beyond binding held apart one two of_wire words.
      bound_picks plan network row me place binding checked ruled one
      ∙ (ap (λ (o : Offer). channel_between (offer_of row me.0) o (length row.path - 2)) (far_end plan network row me other place binding checked apart one two.terminal)
      ∙ (channel_turned (offer_of row me.0) (offer_of row other.0) (length row.path - 2) words
      ∙ sym (bound_picks plan network row other beyond held checked ruled two
      ∙ ap (λ (o : Offer). channel_between (offer_of row other.0) o (length row.path - 2)) (far_end plan network row other me beyond held checked (turned_test me.0 other.0 apart) two one.terminal))));
  word = λ row me place end forwards.
      let own : TellsOwnOffer plan row me.0 place.peer.0 = terminal_offer plan place.wire row me place.peer checked end.is end.joined end.terminal in
      let modes : HaveSameMode plan row me.0 place.peer.0 =
      forwarding_agrees plan network me.0 place.peer.0 place.wire row (role_at plan (edge_at network me) place) ((edge_at network me).bits place.wire.0)
      (end_is_planned plan network checked ruled me.0 place.peer.0 place.wire row end.is end.joined) forwards in
      modes.word ∙ ap (λ (o : Offer). o.cword) own.offer;
}

pub runs_share_channels : RunsShareChannels
runs_share_channels plan events run = shares_channel plan (network_after plan events) run.checked (run_ruled plan events run)
