-- The control channel of a wire: what a terminal edge picks is what the plan says, and both terminal edges pick the same.
use Rattle.std.proofs.Common.{◌≡◌, ◌+◌, ◌==◌, ◌&&◌, ◌∙◌, ℕ, Bool, true, false, List, Option, Some, None, cond, length, option_map, refl, ap, sym, arith, zero-add}
use Rattle.std.proofs.lemmas.Bool.{eqb-true}
use Rattle.std.proofs.lemmas.List.{length-map}
use Rattle.net_values.proofs.BoolLemmas.{and_turned}
use Rattle.net_base.specs.declared.plan.Plan.{Plan}
use Rattle.net_base.specs.declared.plan.offer.Offer.{Offer}
use Rattle.net_base.specs.declared.plan.places.EdgeId.{EdgeId}
use Rattle.net_base.specs.declared.plan.wire_plan.WirePlan.{WirePlan}
use Rattle.net_base.specs.plan.Paths.{PassedPoint, expected, offer_of}
use Rattle.pw_signalling.specs.declared.binding.Binding.{Binding}
use Rattle.pw_signalling.specs.declared.told.Told.{Told}
use Rattle.pw_messages.specs.Content.{icmp_ping}
use Rattle.vccv_channel.specs.declared.cc.Cc.{Cc}
use Rattle.vccv_channel.specs.declared.cc.Cc.TheVariants.{Header, Alert, Expiry}
use Rattle.vccv_channel.specs.Pick.{offers, offers_ping, picked, shared}
use Rattle.edge_model.specs.Echo.{channel_under}
use Rattle.flight_laws.specs.Rules.{TellsExpected, point_of}
use Rattle.flight_laws.proofs.TellLemmas.{TellsOwnOffer}
use Rattle.packet_laws.specs.Echoed.{channels_told, planned_channel, points_in_all}

-- ---- what is picked

-- with control word only type 1
word_header : (local : Option ℕ) (remote : Option (ℕ × ℕ)) (points : ℕ) (kind : Cc) → picked local remote true points ≡ Some kind → kind ≡ Header
word_header None remote points kind is = absurd (cc (is))
word_header (Some own) None points kind is = absurd (cc (is))
word_header (Some own) (Some told) points kind is = by (offers_ping told.1) is where
  one : (b : Bool) → cond b (Some Header) None ≡ Some kind → kind ≡ Header
  one true is = let same : Header ≡ kind = cc (is) in sym same
  one false is = absurd (cc (is))

  by : (b : Bool) → cond b (shared true points own told.0) None ≡ Some kind → kind ≡ Header
  by true is = one (offers own Header && offers told.0 Header) is
  by false is = absurd (cc (is))

-- and without it another one
no_word_no_header : (local : Option ℕ) (remote : Option (ℕ × ℕ)) (points : ℕ) → picked local remote false points ≡ Some Header → ⊥
no_word_no_header None remote points is = cc (is)
no_word_no_header (Some own) None points is = cc (is)
no_word_no_header (Some own) (Some told) points is = by (offers_ping told.1) is where
  last : (b : Bool) → cond b (Some Expiry) None ≡ Some Header → ⊥
  last true is = cc (is)
  last false is = cc (is)

  two : (a b : Bool) → cond a (Some Alert) (cond b (Some Expiry) None) ≡ Some Header → ⊥
  two true b is = cc (is)
  two false b is = last b is

  by : (b : Bool) → cond b (shared false points own told.0) None ≡ Some Header → ⊥
  by true is = two ((points == 0) && (offers own Alert && offers told.0 Alert)) (offers own Expiry && offers told.0 Expiry) is
  by false is = cc (is)

-- so type 1 is picked exactly with the control word
pub header_word : (local : Option ℕ) (remote : Option (ℕ × ℕ)) (cword : Bool) (points : ℕ) → picked local remote cword points ≡ Some Header → cword ≡ true
header_word local remote true points is = refl
header_word local remote false points is = absurd (no_word_no_header local remote points is)

pub expiry_word : (local : Option ℕ) (remote : Option (ℕ × ℕ)) (cword : Bool) (points : ℕ) → picked local remote cword points ≡ Some Expiry → cword ≡ false
expiry_word local remote false points is = refl
expiry_word local remote true points is = let same : Expiry ≡ Header = word_header local remote points Expiry is in absurd (cc (same))

-- type 2 where no switching point is between
pub alert_points : (local : Option ℕ) (remote : Option (ℕ × ℕ)) (cword : Bool) (points : ℕ) → picked local remote cword points ≡ Some Alert → points ≡ 0
alert_points local remote true points is = let same : Alert ≡ Header = word_header local remote points Alert is in absurd (cc (same))
alert_points None remote false points is = absurd (cc (is))
alert_points (Some own) None false points is = absurd (cc (is))
alert_points (Some own) (Some told) false points is = by (offers_ping told.1) is where
  last : (b : Bool) → cond b (Some Expiry) None ≡ Some Alert → points ≡ 0
  last true is = absurd (cc (is))
  last false is = absurd (cc (is))

  two : (none a b : Bool) → (points == 0) ≡ none → cond (none && a) (Some Alert) (cond b (Some Expiry) None) ≡ Some Alert → points ≡ 0
  two true a b none is = eqb-true points 0 none
  two false a b none is = last b is

  by : (b : Bool) → cond b (shared false points own told.0) None ≡ Some Alert → points ≡ 0
  by true is = two (points == 0) (offers own Alert && offers told.0 Alert) (offers own Expiry && offers told.0 Expiry) refl is
  by false is = absurd (cc (is))

-- ---- both terminal edges pick the same

shared_turned : (cword : Bool) (points own told : ℕ) → shared cword points own told ≡ shared cword points told own
shared_turned cword points own told =
    rw (and_turned (offers own Header) (offers told Header), and_turned (offers own Alert) (offers told Alert), and_turned (offers own Expiry) (offers told Expiry)) refl

pub picked_turned : (one other : Option ℕ) (cword : Bool) (points : ℕ) → picked one (option_map (λ channels. (channels, icmp_ping)) other) cword points
    ≡ picked other (option_map (λ channels. (channels, icmp_ping)) one) cword points
picked_turned None None cword points = refl
picked_turned None (Some b) cword points = refl
picked_turned (Some a) None cword points = refl
picked_turned (Some a) (Some b) cword points = shared_turned cword points a b

-- ---- what an edge picks

pub told_channels : (plan : Plan) (row : WirePlan) (from to : ℕ) (told : Told) → TellsExpected plan row from to told → told.vccv ≡ channels_told (expected plan row from to).offer
told_channels plan row from to told tells = ap (λ (t : Told). t.vccv) tells.content

pub told_points : (plan : Plan) (row : WirePlan) (from to : ℕ) (told : Told) → TellsExpected plan row from to told → length told.points ≡ length (expected plan row from to).points
told_points plan row from to told tells = ap (λ (t : Told). length t.points) tells.content ∙ length-map (expected plan row from to).points point_of

-- a terminal edge under a binding whose content is the planned one: the type that the plan says of the packets that it sends
pub picks_planned : (plan : Plan) (row : WirePlan) (me : EdgeId) (peer : ℕ) (binding : Binding) → TellsOwnOffer plan row me.0 peer → TellsExpected plan row peer me.0 binding.told
    → channel_under row me binding ≡ planned_channel plan row me.0 peer
picks_planned plan row me peer binding own tells =
    let offer : (expected plan row me.0 peer).offer ≡ offer_of row me.0 = own.offer in
    let points : length binding.told.points ≡ points_in_all plan row me.0 peer = told_points plan row peer me.0 binding.told tells
    ∙ (sym (zero-add (length (expected plan row peer me.0).points)) ∙ ap (λ (l : List PassedPoint). length l + length (expected plan row peer me.0).points) (sym own.points)) in
    ap (λ (o : Offer). picked o.vccv binding.told.vccv o.cword (length binding.told.points)) (sym offer)
    ∙ (ap (λ (v : Option (ℕ × ℕ)). picked (expected plan row me.0 peer).offer.vccv v (expected plan row me.0 peer).offer.cword (length binding.told.points))
    (told_channels plan row peer me.0 binding.told tells)
    ∙ ap (picked (expected plan row me.0 peer).offer.vccv (channels_told (expected plan row peer me.0).offer) (expected plan row me.0 peer).offer.cword) points)

points_turned : (plan : Plan) (row : WirePlan) (from to : ℕ) → points_in_all plan row from to ≡ points_in_all plan row to from
points_turned plan row from to = omega arith

-- where both use a control word or none does
pub channel_turned : (plan : Plan) (row : WirePlan) (from to : ℕ) → (expected plan row to from).offer.cword ≡ (expected plan row from to).offer.cword → planned_channel plan row to from
    ≡ planned_channel plan row from to
channel_turned plan row from to word =
    picked_turned (expected plan row to from).offer.vccv (expected plan row from to).offer.vccv (expected plan row to from).offer.cword (points_in_all plan row to from)
    ∙ (ap (λ (c : Bool). picked (expected plan row from to).offer.vccv (channels_told (expected plan row to from).offer) c (points_in_all plan row to from)) word
    ∙ ap (picked (expected plan row from to).offer.vccv (channels_told (expected plan row to from).offer) (expected plan row from to).offer.cword) (points_turned plan row to from))
