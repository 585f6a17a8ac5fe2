-- What comes in a control channel is never taken for a customer's frame.
use Rattle.std.proofs.Common.{◌≡◌, ◌&&◌, ◌∙◌, Bool, true, false, ℕ, List, Option, Some, None, Result, Ok, Err, cond, length, nat_eq, nat_lt, not, refl, ap, sym, subst}
use Rattle.net_values.proofs.BoolLemmas.{and_false}
use Rattle.net_base.specs.declared.outside.link_call.LinkCall.{LinkCall}
use Rattle.net_base.specs.declared.plan.Plan.{Plan}
use Rattle.net_base.specs.declared.plan.wire_plan.WirePlan.{WirePlan}
use Rattle.net_base.specs.declared.trace.arrival.Arrival.TheVariants as arrival
use Rattle.net_base.specs.declared.trace.drop_cause.DropCause.{DropCause}
use Rattle.net_base.specs.declared.trace.drop_cause.DropCause.TheVariants as cause
use Rattle.net_base.specs.plan.Paths.{offer_of}
use Rattle.net_base.specs.plan.Places.{wire_row}
use Rattle.pw_messages.specs.LinkAnswers.{Answers}
use Rattle.eth_encap.specs.declared.stack_entry.StackEntry.{StackEntry}
use Rattle.eth_encap.specs.Packet.{entry_of}
use Rattle.pw_signalling.specs.declared.binding.Binding.{Binding}
use Rattle.vccv_channel.specs.declared.cc.Cc.{Cc}
use Rattle.vccv_channel.specs.declared.cc.Cc.TheVariants.{Header, Alert, Expiry}
use Rattle.vccv_channel.specs.declared.echo.Echo.{Echo}
use Rattle.vccv_channel.specs.declared.echo.Echo.TheVariants.{Request, Answer}
use Rattle.vccv_channel.specs.declared.vccv_fault.VccvFault.{VccvFault}
use Rattle.vccv_channel.specs.Echo.{answer_packet}
use Rattle.vccv_channel.specs.Fault.{vccv_cause_of}
use Rattle.vccv_channel.specs.Pick.{offers, offers_ping, picked, shared}
use Rattle.edge_model.specs.Apart.{EchoesStayApart, IsAnswered, IsDropped, IsForEnd, IsTold, StaysInChannel, on_packet}
use Rattle.edge_model.specs.declared.end_place.EndPlace.{EndPlace}
use Rattle.edge_model.specs.Echo.{channel_octets, channel_under, echoes, is_picked, verifies, verifies_in}
use Rattle.edge_model.specs.Local.{ComesInChannel, from_label, has_alert, is_in_channel}
use Rattle.edge_model.specs.Packet.{advertiser, alerted, alerts_by, alerts_end, behind_entry, by_offer, enters, is_alert, is_channel, labelled, least_label, opened_by, owned, switched, terminated}
use Rattle.edge_model.specs.Send.{drops, had_posted}
use Rattle.edge_model.specs.State.{EdgeState, end_at}
use Rattle.edge_model.specs.Work.{Work, beginning, gives, next_answer, posts}
use Rattle.edge_model.proofs.PacketLemmas.{picked_is}

-- an end with control word does not pick type 3
no_expiry : (local : Option ℕ) (remote : Option (ℕ × ℕ)) (points : ℕ) → picked local remote true points ≡ Some Expiry → ⊥
no_expiry None remote points is = cc (is)
no_expiry (Some own) None points is = cc (is)
no_expiry (Some own) (Some told) points is = by (offers_ping told.1) is where
  first : (b : Bool) → cond b (Some Header) None ≡ Some Expiry → ⊥
  first true is = cc (is)
  first false is = cc (is)

  by : (b : Bool) → cond b (shared true points own told.0) None ≡ Some Expiry → ⊥
  by true is = first (offers own Header && offers told.0 Header) is
  by false is = cc (is)

module _ (plan : Plan) (told : Answers) (edge : EdgeState) (calls : List LinkCall) (octets : List ℕ) where
  begun : Work
  begun = beginning edge calls

  abbrev Apart : Work → Type 0
  Apart work = StaysInChannel plan edge octets work

  dropped : (why : DropCause) → Apart (drops why begun)
  unfolding begun gives
  dropped why = record { unheard = refl; verified = IsDropped why refl }

  -- ---- an echo packet

  posted : (place : EndPlace) (row : WirePlan) (kind : Cc) (binding : Binding) (bytes : List ℕ) → ComesInChannel plan edge octets place row kind binding → (taken : Bool)
      → Apart (had_posted place arrival.Own bytes taken begun)
  unfolding begun gives posts
  posted place row kind binding bytes by true = record { unheard = refl; verified = IsAnswered place row kind binding bytes by refl }
  posted place row kind binding bytes by false = record { unheard = refl; verified = IsDropped cause.LinkFault refl }

  echoes_apart : (place : EndPlace) (row : WirePlan) (kind : Cc) (binding : Binding) (ip : List ℕ) → ComesInChannel plan edge octets place row kind binding → (read : Result Echo VccvFault)
      → Apart (echoes told place kind binding ip read begun)
  unfolding begun gives
  echoes_apart place row kind binding ip by (Err why) = dropped (vccv_cause_of why)
  echoes_apart place row kind binding ip by (Ok (Answer sequence)) = record { unheard = refl; verified = IsTold place row kind binding sequence by refl }
  echoes_apart place row kind binding ip by (Ok (Request from to sequence long)) = posted place row kind binding (channel_octets kind binding (answer_packet ip)) by (next_answer told begun)

  -- the packet has the label of an end that is bound
  record Opens (kind : Cc) (entry : StackEntry) (place : EndPlace) (row : WirePlan) (binding : Binding) : Type 0 where
    read : entry_of (from_label kind octets) ≡ Ok entry
    channel : is_in_channel kind octets entry ≡ true
    owner : advertiser plan edge entry.label ≡ Some place
    terminal : place.terminal ≡ true
    is : wire_row plan place.wire ≡ Some row
    bound : (end_at edge place).remote ≡ Some binding

  comes : (kind : Cc) (entry : StackEntry) (place : EndPlace) (row : WirePlan) (binding : Binding) → Opens kind entry place row binding → channel_under row edge.me binding ≡ Some kind
      → ComesInChannel plan edge octets place row kind binding
  comes kind entry place row binding opens picks =
      record { entry = entry; read = opens.read; channel = opens.channel; owner = opens.owner; terminal = opens.terminal; is = opens.is; bound = opens.bound; picked = picks }

  verifies_in_apart : (kind : Cc) (entry : StackEntry) (place : EndPlace) (row : WirePlan) (binding : Binding) (payload : List ℕ) → Opens kind entry place row binding
      → Apart (verifies_in told place row kind binding payload begun)
  unfolding begun
  verifies_in_apart kind entry place row binding payload opens = by (is_picked kind (channel_under row edge.me binding)) refl where
    by : (b : Bool) → is_picked kind (channel_under row edge.me binding) ≡ b → Apart (cond b (verifies told place row kind binding payload begun) (drops cause.NotOffered begun))
    by true picks = echoes_apart place row kind binding _ (comes kind entry place row binding opens (picked_is kind (channel_under row edge.me binding) picks)) _
    by false picks = dropped cause.NotOffered

  -- ---- behind a router alert

  alerts_apart : (entry : StackEntry) (payload : List ℕ) (place : Option EndPlace) → entry_of (behind_entry octets) ≡ Ok entry → has_alert (entry_of octets) ≡ true
      → advertiser plan edge entry.label ≡ place
      → Apart (alerts_end plan told payload place begun)
  unfolding begun
  alerts_apart entry payload None read alert owner = dropped cause.NoLabel
  alerts_apart entry payload (Some place) read alert owner = by place.terminal refl where
    in_channel : place.terminal ≡ true → (row : Option WirePlan) (remote : Option Binding) → wire_row plan place.wire ≡ row → (end_at edge place).remote ≡ remote
        → Apart (alerts_by told place row remote payload begun)
    in_channel terminal None remote is bound = dropped cause.NotOffered
    in_channel terminal (Some row) None is bound = dropped cause.NotOffered
    in_channel terminal (Some row) (Some binding) is bound =
        verifies_in_apart Alert entry place row binding payload (record { read = read; channel = alert; owner = owner; terminal = terminal; is = is; bound = bound })

    by : (terminal : Bool) → place.terminal ≡ terminal → Apart (cond terminal (alerts_by told place (wire_row plan place.wire) (end_at edge place).remote payload begun) (drops cause.NoLabel begun))
    by true terminal = in_channel terminal (wire_row plan place.wire) (end_at edge place).remote refl refl
    by false terminal = dropped cause.NoLabel

  alerted_apart : (read : Result StackEntry DropCause) → entry_of (behind_entry octets) ≡ read → has_alert (entry_of octets) ≡ true → Apart (alerted plan told (behind_entry octets) read begun)
  unfolding begun
  alerted_apart (Err why) read alert = dropped why
  alerted_apart (Ok entry) read alert = by entry.bottom where
    by : (bottom : Bool) → Apart (cond bottom (alerts_end plan told (behind_entry (behind_entry octets)) (advertiser plan edge entry.label) begun) (drops cause.NotBottom begun))
    by true = alerts_apart entry (behind_entry (behind_entry octets)) (advertiser plan edge entry.label) read alert refl
    by false = dropped cause.NotBottom

  pub alert_apart : (front : StackEntry) → entry_of octets ≡ Ok front → is_alert front ≡ true → Apart (on_packet plan told edge calls octets)
  unfolding begun
  alert_apart front read alert =
      subst (λ (read : Result StackEntry DropCause). Apart (opened_by plan told octets read begun)) (sym read)
      (subst (λ (b : Bool). Apart (cond b (alerted plan told (behind_entry octets) (entry_of (behind_entry octets)) begun) (labelled plan told octets front begun))) (sym alert)
      (alerted_apart (entry_of (behind_entry octets)) refl (ap has_alert read ∙ alert)))

  -- ---- behind the label of an end

  module _ (place : EndPlace) (row : WirePlan) (binding : Binding) (to : IsForEnd plan edge octets place row binding) where
    -- what comes of the packet where its label is none of the reserved ones
    offered : Work
    offered = by_offer plan told row place binding to.entry.ttl (offer_of row edge.me.0).cword (behind_entry octets) begun

    owned_apart : Apart offered → Apart (owned plan told octets to.entry (Some place) begun)
    unfolding begun offered
    owned_apart one =
        subst (λ (b : Bool). Apart (cond b (terminated plan told place to.entry.ttl (wire_row plan place.wire) (end_at edge place).remote (behind_entry octets) begun)
        (switched plan told octets to.entry place begun))) (sym to.terminal)
        (subst (λ (r : Option WirePlan). Apart (terminated plan told place to.entry.ttl r (end_at edge place).remote (behind_entry octets) begun)) (sym to.is)
        (subst (λ (b : Option Binding). Apart (terminated plan told place to.entry.ttl (Some row) b (behind_entry octets) begun)) (sym to.bound) one))

    labelled_apart : Apart offered → (b : Bool)
        → Apart (cond b (drops cause.NoLabel begun) (cond to.entry.bottom (owned plan told octets to.entry (advertiser plan edge to.entry.label) begun) (drops cause.NotBottom begun)))
    unfolding begun
    labelled_apart one true = dropped cause.NoLabel
    labelled_apart one false =
        subst (λ (b : Bool). Apart (cond b (owned plan told octets to.entry (advertiser plan edge to.entry.label) begun) (drops cause.NotBottom begun))) (sym to.bottom)
        (subst (λ (o : Option EndPlace). Apart (owned plan told octets to.entry o begun)) (sym to.owner) (owned_apart one))

    no_alert : is_alert to.entry ≡ false
    no_alert = ap (λ (b : Bool). nat_eq to.entry.label 1 && not b) to.bottom ∙ and_false (nat_eq to.entry.label 1)

    packet_apart : Apart offered → Apart (on_packet plan told edge calls octets)
    unfolding begun
    packet_apart one =
        subst (λ (read : Result StackEntry DropCause). Apart (opened_by plan told octets read begun)) (sym to.read)
        (subst (λ (b : Bool). Apart (cond b (alerted plan told (behind_entry octets) (entry_of (behind_entry octets)) begun) (labelled plan told octets to.entry begun))) (sym no_alert)
        (labelled_apart one (nat_lt to.entry.label least_label)))

    pub header_apart : (offer_of row edge.me.0).cword ≡ true → is_channel (behind_entry octets) ≡ true → Apart (on_packet plan told edge calls octets)
    unfolding begun offered
    header_apart cword channel =
        packet_apart (subst (λ (b : Bool). Apart (by_offer plan told row place binding to.entry.ttl b (behind_entry octets) begun)) (sym cword) (by (nat_eq (length (behind_entry octets)) 0)))
      where
        by : (empty : Bool)
            → Apart (cond empty (drops cause.Short begun)
            (cond (is_channel (behind_entry octets)) (verifies_in told place row Header binding (behind_entry octets) begun) (enters plan told row place (behind_entry octets) begun)))
        by true = dropped cause.Short
        by false =
            subst (λ (b : Bool). Apart (cond b (verifies_in told place row Header binding (behind_entry octets) begun) (enters plan told row place (behind_entry octets) begun))) (sym channel)
            (verifies_in_apart Header to.entry place row binding (behind_entry octets)
            (record { read = to.read; channel = channel; owner = to.owner; terminal = to.terminal; is = to.is; bound = to.bound }))

    pub expiry_apart : to.entry.ttl ≡ 1 → channel_under row edge.me binding ≡ Some Expiry → Apart (on_packet plan told edge calls octets)
    unfolding begun offered
    expiry_apart last picks = packet_apart (by (offer_of row edge.me.0).cword refl) where
      is_verified : Apart (verifies told place row Expiry binding (behind_entry octets) begun)
      is_verified = echoes_apart place row Expiry binding _ (comes Expiry to.entry place row binding
          (record { read = to.read; channel = ap (λ (n : ℕ). nat_eq n 1) last; owner = to.owner; terminal = to.terminal; is = to.is; bound = to.bound }) picks) _

      by : (cword : Bool) → (offer_of row edge.me.0).cword ≡ cword → Apart (by_offer plan told row place binding to.entry.ttl cword (behind_entry octets) begun)
      by false cword =
          subst (λ (b : Bool). Apart (cond b (verifies told place row Expiry binding (behind_entry octets) begun) (enters plan told row place (behind_entry octets) begun)))
          (sym (ap (λ (n : ℕ). nat_eq n 1 && is_picked Expiry (channel_under row edge.me binding)) last ∙ ap (is_picked Expiry) picks)) is_verified
      by true cword = absurd (no_expiry (offer_of row edge.me.0).vccv binding.told.vccv (length binding.told.points)
          (sym (ap (λ (b : Bool). picked (offer_of row edge.me.0).vccv binding.told.vccv b (length binding.told.points)) cword) ∙ picks))

pub echoes_stay_apart : EchoesStayApart
echoes_stay_apart = record {
  header = λ plan told edge calls octets place row binding to. header_apart plan told edge calls octets place row binding to;
  alert = λ plan told edge calls octets front. alert_apart plan told edge calls octets front;
  expiry = λ plan told edge calls octets place row binding to. expiry_apart plan told edge calls octets place row binding to;
}
