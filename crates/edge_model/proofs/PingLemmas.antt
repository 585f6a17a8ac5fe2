-- What an edge gives out on a ping: one echo request on the wire, one drop, or nothing.
use Rattle.std.proofs.Common.{◌≡◌, ℕ, Bool, true, false, List, [], ◌∷◌, Option, Some, None, cond, refl, sym, subst}
use Rattle.net_base.specs.declared.outside.link_call.LinkCall.{LinkCall}
use Rattle.net_base.specs.declared.plan.Plan.{Plan}
use Rattle.net_base.specs.declared.plan.places.EdgeId.{EdgeId}
use Rattle.net_base.specs.declared.plan.places.WireId.{WireId}
use Rattle.net_base.specs.declared.plan.wire_plan.WirePlan.{WirePlan}
use Rattle.net_base.specs.declared.trace.arrival.Arrival.TheVariants as arrival
use Rattle.net_base.specs.declared.trace.drop_cause.DropCause.TheVariants as cause
use Rattle.net_base.specs.plan.Paths.{edge_address}
use Rattle.net_base.specs.plan.Places.{wire_row}
use Rattle.net_values.specs.declared.addr.Addr.{Addr}
use Rattle.pw_signalling.specs.declared.binding.Binding.{Binding}
use Rattle.pw_messages.specs.LinkAnswers.{Answers}
use Rattle.pw_stitch.specs.Stitch.{has_told}
use Rattle.vccv_channel.specs.declared.cc.Cc.{Cc}
use Rattle.vccv_channel.specs.Echo.{request_packet}
use Rattle.edge_model.specs.declared.effect.Effect.{Effect}
use Rattle.edge_model.specs.declared.effect.Effect.TheVariants.{Dropped, Sent}
use Rattle.edge_model.specs.declared.end_place.EndPlace.{EndPlace}
use Rattle.edge_model.specs.Echo.{channel_octets, channel_under}
use Rattle.edge_model.specs.Ends.{wire_end}
use Rattle.edge_model.specs.Local.{AllStayAsked, PingsStayLocal, SentAsked}
use Rattle.edge_model.specs.Ping.{asks, far_address, ping_between, ping_input, pinging, pings_at, pings_by, pings_in, pings_under}
use Rattle.edge_model.specs.Send.{had_posted}
use Rattle.edge_model.specs.State.{EdgeState, end_at}
use Rattle.edge_model.specs.Work.{Work, beginning, changes, gives, idles, next_answer, posts}

-- what comes of a ping
pub data PingWork (plan : Plan) (edge : EdgeState) (wire : WireId) (effects : List Effect) : Type 0 where
  PingIsLost : effects ≡ [] → PingWork plan edge wire effects
  PingIsDropped : effects ≡ Dropped cause.LinkFault ∷ [] → PingWork plan edge wire effects
  PingIsSent : (peer : EdgeId) (on : WireId) (bytes : List ℕ) → SentAsked plan edge wire peer on arrival.Own bytes → effects ≡ Sent peer on arrival.Own bytes ∷ [] → PingWork plan edge wire effects

module _ (plan : Plan) (told : Answers) (edge : EdgeState) (calls : List LinkCall) (wire : WireId) where
  begun : Work
  begun = beginning edge calls

  abbrev Works : Work → Type 0
  Works work = PingWork plan edge wire work.effects

  idle : Works (idles begun)
  unfolding begun idles
  idle = PingIsLost refl

  -- the end of the wire, bound and with its channel
  record Asks (place : EndPlace) (row : WirePlan) (binding : Binding) : Type 0 where
    here : wire_end plan edge.me wire ≡ Some place
    is : wire_row plan place.wire ≡ Some row
    told_it : has_told (end_at edge place).local ≡ true
    bound : (end_at edge place).remote ≡ Some binding

  posted : (place : EndPlace) (bytes : List ℕ) → SentAsked plan edge wire place.peer place.wire arrival.Own bytes → (taken : Bool)
      → Works (had_posted place arrival.Own bytes taken (changes (pinging place.wire) begun))
  unfolding begun changes gives posts
  posted place bytes asked true = PingIsSent place.peer place.wire bytes asked refl
  posted place bytes asked false = PingIsDropped refl

  asks_works : (place : EndPlace) (row : WirePlan) (binding : Binding) (kind : Cc) → Asks place row binding → channel_under row edge.me binding ≡ Some kind
      → (from to : Option Addr) → edge_address plan edge.me ≡ from → far_address plan edge.me row ≡ to → Works (asks told place row kind binding from to begun)
  unfolding begun
  asks_works place row binding kind end picked None to near far = idle
  asks_works place row binding kind end picked (Some from) None near far = idle
  asks_works place row binding kind end picked (Some from) (Some to) near far =
      posted place (channel_octets kind binding (request_packet (ping_between row from to (edge.next_ping place.wire.0))))
      (record {
        place = place;
        here = end.here;
        row = row;
        is = end.is;
        told = end.told_it;
        binding = binding;
        bound = end.bound;
        kind = kind;
        picked = picked;
        from = from;
        near = near;
        to = to;
        far = far;
        beside = refl;
        same = refl;
        own = refl;
        asked = refl;
      })
      (next_answer told (changes (pinging place.wire) begun))

  in_works : (place : EndPlace) (row : WirePlan) (binding : Binding) → Asks place row binding → (kind : Option Cc) → channel_under row edge.me binding ≡ kind
      → Works (pings_in plan told place row binding kind begun)
  unfolding begun
  in_works place row binding end None picked = idle
  in_works place row binding end (Some kind) picked = asks_works place row binding kind end picked (edge_address plan edge.me) (far_address plan edge.me row) refl refl

  under_works : (place : EndPlace) (row : WirePlan) → wire_end plan edge.me wire ≡ Some place → wire_row plan place.wire ≡ Some row → has_told (end_at edge place).local ≡ true
      → (remote : Option Binding) → (end_at edge place).remote ≡ remote → Works (pings_under plan told place row remote begun)
  unfolding begun
  under_works place row here is told_it None bound = idle
  under_works place row here is told_it (Some binding) bound =
      in_works place row binding (record { here = here; is = is; told_it = told_it; bound = bound }) (channel_under row edge.me binding) refl

  at_works : (place : EndPlace) → wire_end plan edge.me wire ≡ Some place → (row : Option WirePlan) → wire_row plan place.wire ≡ row → Works (pings_at plan told place row begun)
  unfolding begun
  at_works place here None is = idle
  at_works place here (Some row) is = by (has_told (end_at edge place).local) refl where
    by : (b : Bool) → has_told (end_at edge place).local ≡ b → Works (cond b (pings_under plan told place row (end_at edge place).remote begun) (idles begun))
    by true told_it = under_works place row here is told_it (end_at edge place).remote refl
    by false told_it = idle

  by_works : (place : Option EndPlace) → wire_end plan edge.me wire ≡ place → Works (pings_by plan told place begun)
  by_works None here = idle
  by_works (Some place) here = at_works place here (wire_row plan place.wire) refl

pub ping_work : (plan : Plan) (told : Answers) (edge : EdgeState) (calls : List LinkCall) (wire : WireId) → PingWork plan edge wire (ping_input plan told wire (beginning edge calls)).effects
unfolding begun
ping_work plan told edge calls wire = by_works plan told edge calls wire (wire_end plan edge.me wire) refl

work_stays : (plan : Plan) (edge : EdgeState) (wire : WireId) (es : List Effect) → PingWork plan edge wire es → AllStayAsked plan edge wire es
work_stays plan edge wire es (PingIsLost none) = subst (AllStayAsked plan edge wire) (sym none) tt
work_stays plan edge wire es (PingIsDropped one) = subst (AllStayAsked plan edge wire) (sym one) (tt, tt)
work_stays plan edge wire es (PingIsSent peer on bytes asked one) = subst (AllStayAsked plan edge wire) (sym one) (asked, tt)

pub pings_stay_local : PingsStayLocal
pings_stay_local plan told edge calls wire = work_stays plan edge wire (ping_input plan told wire (beginning edge calls)).effects (ping_work plan told edge calls wire)
