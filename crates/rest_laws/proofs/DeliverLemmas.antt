-- While an edge hears a neighbour with whom its session is up, whatever it puts is of a higher level than a message that it has heard.
use Rattle.std.proofs.Common.{◌≡◌, ◌++◌, ◌∙◌, ◌<◌, ◌⊎◌, ℕ, suc, Bool, true, false, cond, nat_eq, length, take, drop, List, [], ◌∷◌, Option, Some, None, option_and_then, refl, sym, ap, subst, inl, inr, ⊎_elim, append_assoc, ◌≤◌, ◌+◌, arith, map, zero-add}
use Rattle.std.proofs.lemmas.Bool.{cases_Bool, eqb-true}
use Rattle.std.proofs.lemmas.List.{take-append-drop}
use Rattle.std.proofs.lemmas.Option.{same_Some}
use Rattle.std.specs.List.{AllByRecursion}
use Rattle.net_values.proofs.BoolLemmas.{clash}
use Rattle.net_values.proofs.NumberLemmas.{apart_back}
use Rattle.net_values.proofs.RowLemmas.{all-append}
use Rattle.net_base.specs.declared.plan.Plan.{Plan}
use Rattle.net_base.specs.declared.plan.places.EdgeId.{EdgeId}
use Rattle.net_base.specs.declared.plan.places.WireId.{WireId}
use Rattle.net_base.specs.declared.plan.wire_plan.WirePlan.{WirePlan}
use Rattle.net_base.specs.declared.trace.event.Event.{Event}
use Rattle.net_base.specs.plan.Accepted.{IsChecked}
use Rattle.net_base.specs.plan.Paths.{expected, joins}
use Rattle.net_base.specs.plan.Places.{wire_row}
use Rattle.net_base.proofs.CommonLemmas.{same_row}
use Rattle.net_base.proofs.PathLemmas.{joins_turned}
use Rattle.pw_tlvs.specs.declared.pw_fec.PwFec.{PwFec}
use Rattle.ldp_grammar.specs.declared.message.Message.{Message}
use Rattle.ldp_grammar.specs.declared.message.Message.TheVariants.{Initialization, KeepAlive, Notification, AddressWithdraw, LabelMapping, LabelWithdraw, LabelRelease}
use Rattle.session_core.specs.declared.peers.Peers.{Peers}
use Rattle.session_core.specs.Phase.{Phase, Initialized, OpenSent, OpenRec, Operational}
use Rattle.session_core.specs.Reasons.{is_fatal}
use Rattle.session_core.specs.Table.{Goes, Heard, Received, outcome_of}
use Rattle.pw_messages.specs.Content.{told_with}
use Rattle.pw_messages.specs.Sender.{platform_of}
use Rattle.edge_model.specs.declared.effect.Effect.{Effect}
use Rattle.edge_model.specs.declared.effect.Effect.TheVariants as effect
use Rattle.edge_model.specs.declared.end_place.EndPlace.{EndPlace}
use Rattle.edge_model.specs.EndPlaces.{end_named, end_places}
use Rattle.edge_model.specs.Settled.{is_mended, is_told}
use Rattle.edge_model.specs.Signal.{takes_content}
use Rattle.edge_model.specs.Hear.{is_up_phase, acts_on, hears, hears_message, hears_one, holds, octets_input}
use Rattle.edge_model.specs.Mend.{is_operational, is_up_with, mends}
use Rattle.edge_model.specs.Session.{happens_with_ends, says, with_session}
use Rattle.edge_model.specs.State.{EdgeState, Peering, has_end, is_there, with_peering}
use Rattle.edge_model.specs.Work.{Work, changes, gives}
use Rattle.edge_model.proofs.MendedLemmas.{mends_mended}
use Rattle.edge_model.proofs.OneEndLemmas.{has_one_end}
use Rattle.edge_model.proofs.SignalLemmas.{acts_on_signals, hears_message_signals, mends_signals}
use Rattle.network_model.specs.Absorb.{begin_at, taken_all}
use Rattle.network_model.specs.Connection.{hearing_work}
use Rattle.network_model.specs.State.{NetworkState, held_by, with_pipe}
use Rattle.flight_laws.specs.Across.{IsMappingTaken, TakesAll}
use Rattle.flight_laws.specs.Ends.{HasTypes, IsOrdered, ends_at}
use Rattle.flight_laws.specs.Facts.{flight}
use Rattle.flight_laws.specs.Laws.{AreOnWay, BothStand, IsRun, network_after}
use Rattle.flight_laws.specs.Messages.{AreSaid, IsSaidAcross, octets_of_all}
use Rattle.flight_laws.specs.Pair.{AreFit, ArePaired, AreTalking}
use Rattle.flight_laws.specs.Rules.{AllMessages, FarTells, TellsOfWire}
use Rattle.flight_laws.proofs.ActLemmas.{steady_acts}
use Rattle.flight_laws.proofs.AcrossLemmas.{runs_take_mappings}
use Rattle.flight_laws.proofs.CommonLemmas.{platform_is}
use Rattle.flight_laws.proofs.EventBindingLemmas.{goes_on}
use Rattle.flight_laws.proofs.EventLemmas.{hears_begin, pipe_edges, stands_apart}
use Rattle.flight_laws.proofs.HearLemmas.{HearsOn, hears_kept, hears_steady}
use Rattle.flight_laws.proofs.HearingLemmas.{HasHeard, KeptByHearing, KeptByMessages, few_heard, message_heard, up_heard}
use Rattle.flight_laws.proofs.MendedRunLemmas.{IsMendedAt, mended_at, run_mended_at}
use Rattle.flight_laws.proofs.PlaceLemmas.{NamedEnd, end_of}
use Rattle.flight_laws.proofs.MentionLemmas.{all_kept}
use Rattle.flight_laws.proofs.ReadyLemmas.{IsReadyBetween, all_ready, same_messages}
use Rattle.flight_laws.proofs.RuledHearLemmas.{IsHearing, hearing_ruled}
use Rattle.flight_laws.proofs.RuledLemmas.{IsRuled}
use Rattle.flight_laws.proofs.RuledNetworkLemmas.{IsRuledNetwork, RulesTo, held_at, ruled_begin}
use Rattle.flight_laws.proofs.RuledRunLemmas.{run_ruled}
use Rattle.flight_laws.proofs.RunLemmas.{run_ordered}
use Rattle.flight_laws.proofs.SaidLemmas.{fatal_ends, said_sender}
use Rattle.flight_laws.proofs.SayLemmas.{says_spares}
use Rattle.flight_laws.proofs.SpokenLemmas.{says_spoken}
use Rattle.flight_laws.proofs.StayLemmas.{received_goes}
use Rattle.flight_laws.proofs.SteadyLemmas.{IsSteady, steady_rows}
use Rattle.flight_laws.proofs.ToldLemmas.{TellsFirm, TellsOwn}
use Rattle.flight_laws.proofs.WorksLemmas.{changed_edge, gives_spares}
use Rattle.spelling_laws.proofs.PutLemmas.{changed_effects}
use Rattle.rest_laws.specs.Delivered.{IsOneOf, LightensOn, RisesOn, RunsLighten, RunsRise, SaysAboveOne, weigh_one, weight}
use Rattle.rest_laws.specs.Levels.{Saying, Binds, Withdraws, Releases, States, Clears, level, level_at, level_by, level_of, pw_id_of, saying_of}
use Rattle.rest_laws.specs.Rises.{AreSaidAt, HasMended, HoldsByPlan, IsByPlan, PutsAbove, left_above, most_put, put_most}
use Rattle.rest_laws.proofs.CountLemmas.{all_few_said}
use Rattle.rest_laws.specs.Weight.{heavy, total}
use Rattle.rest_laws.proofs.WeightLemmas.{heavy_some}
use Rattle.rest_laws.proofs.ClearLemmas.{put_mended}
use Rattle.rest_laws.proofs.DueLemmas.{PutsMore, PutsWell}
use Rattle.rest_laws.proofs.PutLemmas.{HasPut}
use Rattle.rest_laws.proofs.StillLemmas.{mended_puts_none}
use Rattle.rest_laws.proofs.RiseLemmas.{hearing_lightens, hearing_rises}

-- ---- a session stays up

says_up : (place : ℕ) (peer : EdgeId) (message : ℕ → Message) (work : Work) → is_up_with (work.edge.peering place) ≡ true → is_up_with ((says taken_all peer message work).work.edge.peering place) ≡ true
says_up place peer message work up = elim (cases_Bool (nat_eq place peer.0)) [
  | inl same ↦ subst (λ (k : ℕ). is_up_with ((says taken_all peer message work).work.edge.peering k) ≡ true) (sym (eqb-true place peer.0 same))
      (here (work.edge.peering peer.0) refl (subst (λ (k : ℕ). is_up_with (work.edge.peering k) ≡ true) (eqb-true place peer.0 same) up))
  | inr apart ↦ subst (λ (o : Option Peering). is_up_with o ≡ true) (sym (says_spares place peer message work apart).kept) up
]
  where
    here : (near : Option Peering) → work.edge.peering peer.0 ≡ near → is_up_with (work.edge.peering peer.0) ≡ true → is_up_with ((says taken_all peer message work).work.edge.peering peer.0) ≡ true
    here None at is = clash (sym (ap is_up_with at) ∙ is)
    here (Some kept) at is = ap is_up_with (says_spoken peer kept message work at).here ∙ (sym (ap is_up_with at) ∙ is)

-- calm steps keep it
up_steady : (plan : Plan) (me : EdgeId) (I : Work → Type 0) (place : ℕ) → IsSteady plan me I → IsSteady plan me (λ work. I work × (is_up_with (work.edge.peering place) ≡ true))
up_steady plan me I place steady = record {
  placed = λ work i. steady.placed work i.0;
  sound = λ work i. steady.sound work i.0;
  changes = λ change work kept me_is sound i. (
    steady.changes change work kept me_is sound i.0,
    ap (λ (e : EdgeState). is_up_with (e.peering place)) (changed_edge change work) ∙ (ap (λ (f : ℕ → Option Peering). is_up_with (f place)) kept ∙ i.1),
  );
  gives = λ e work silent i. (steady.gives e work silent i.0, subst (λ (o : Option Peering). is_up_with o ≡ true) (sym (gives_spares place e work silent).kept) i.1);
  says = λ peer message work up is i. (steady.says peer message work up is i.0, says_up place peer message work i.1);
}

-- the phase of a session that is up
pub up_phase : (p : Phase) → is_operational p ≡ true → p ≡ Operational
up_phase Operational up = refl
up_phase Initialized up = clash up
up_phase OpenSent up = clash up
up_phase OpenRec up = clash up

-- the sender of a PDU is the peer: only how long nothing was heard changes
waits_not : (peer : EdgeId) (kept : Peering) (work : Work) → work.edge.peering peer.0 ≡ Some kept → kept.session.phase ≡ Operational
    → (event : Rattle.session_core.specs.Table.SessionEvent) → outcome_of kept.session event ≡ Goes (record (kept.session) { wait = 0 }) []
    → happens_with_ends taken_all peer event work ≡ changes (with_peering peer (Some (with_session (record (kept.session) { wait = 0 }) kept))) work
unfolding changes with_peering
waits_not peer kept work at up event is = rw (at, is, up, Rattle.net_values.proofs.NumberLemmas.same_number peer.0) refl

-- and nothing but that
pub waits_put : (peer : EdgeId) (kept now : Peering) (work : Work) → work.edge.peering peer.0 ≡ Some kept → is_operational now.session.phase ≡ is_operational kept.session.phase
    → HasPut work.edge (changes (with_peering peer (Some now)) work).edge
unfolding changes with_peering
waits_put peer kept now work at same = record { me = refl; wires = refl; bits = refl; ends = refl; ups = λ k. up k; labels = refl; chosen = refl; priorities = refl } where
  up : (k : ℕ) → is_up_with (cond (nat_eq k peer.0) (Some now) (work.edge.peering k)) ≡ is_up_with (work.edge.peering k)
  up k = elim (cases_Bool (nat_eq k peer.0)) [
    | inl here ↦ rw here (same ∙ (sym (ap is_up_with at) ∙ ap (λ (n : ℕ). is_up_with (work.edge.peering n)) (sym (eqb-true k peer.0 here))))
    | inr away ↦ rw away refl
  ]

down_not : {b : Bool} → b ≡ false → b ≡ true → ⊥
down_not {b} off on = clash (sym off ∙ on)

-- ---- what is heard

-- a message about a wire has a level
pub record HasLevel (plan : Plan) (edges : ℕ → EdgeState) (from me : EdgeId) (message : Message) : Type 0 where
  pub least : ℕ
  pub is : level_of plan edges from.0 me.0 message ≡ Some least

module _ (plan : Plan) (checked : IsChecked plan) (edges : ℕ → EdgeState) (from me : EdgeId) where
  has_level : (wire : WireId) (row : WirePlan) (message : Message) (saying : Saying) → wire_row plan wire ≡ Some row → joins from.0 me.0 row.path ≡ true → saying_of message ≡ Some saying
      → pw_id_of message ≡ Some row.pw_id → HasLevel plan edges from me message
  has_level wire row message saying is joined says names =
      let near : NamedEnd plan from me wire row = end_of plan from me wire row checked is joined in
      record {
        least = level edges near.place.wire.0 row from.0 near.place.peer.0 saying;
        is = ap (λ (o : Option Saying). option_and_then (λ (s : Saying). option_and_then (level_at plan edges from.0 s) (option_and_then (end_named plan from me) (pw_id_of message))) o) says
            ∙ (ap (λ (o : Option ℕ). option_and_then (level_at plan edges from.0 saying) (option_and_then (end_named plan from me) o)) names
            ∙ (ap (option_and_then (level_at plan edges from.0 saying)) near.named
            ∙ ap (level_by edges near.place.wire.0 from.0 near.place.peer.0 saying) (ap (wire_row plan) near.wire_is ∙ is)));
      }

  -- a message has a level, or an edge does nothing on it
  pub class_of : (other : Peers) (m : Message) → IsSaidAcross other m → TellsFirm plan from.0 me.0 m → HasLevel plan edges from me m ⊎ ((work : Work) → acts_on plan taken_all from m work ≡ work)
  class_of other (Initialization id params) said tells = inr (λ work. refl)
  class_of other (KeepAlive id) said tells = inr (λ work. refl)
  class_of other (Notification id code status (Some fec)) said tells =
      inl (has_level tells.wire tells.row (Notification id code status (Some fec)) States tells.is tells.joined refl (ap (λ (f : PwFec). f.pw_id) tells.bare))
  class_of other (Notification id code None None) said tells = inr (λ work. refl)
  class_of other (Notification id code (Some status) None) said tells = inr (λ work. refl)
  class_of other (AddressWithdraw id addresses (Some fec) macs) said tells =
      inl (has_level tells.wire tells.row (AddressWithdraw id addresses (Some fec) macs) Clears tells.is tells.joined refl (ap (λ (f : PwFec). f.pw_id) tells.bare))
  class_of other (AddressWithdraw id addresses None None) said tells = inr (λ work. refl)
  class_of other (AddressWithdraw id addresses None (Some macs)) said tells = inr (λ work. refl)
  class_of other (LabelMapping id fec label status points) said tells =
      inl (has_level tells.wire tells.row (LabelMapping id fec label status points) Binds tells.is tells.joined refl tells.named)
  class_of other (LabelWithdraw id fec label) said tells =
      inl (has_level tells.wire tells.row (LabelWithdraw id fec label) Withdraws tells.is tells.joined refl (ap (λ (f : PwFec). f.pw_id) tells.bare))
  class_of other (LabelRelease id fec label) said tells =
      inl (has_level tells.wire tells.row (LabelRelease id fec label) Releases tells.is (sym (joins_turned tells.row.path me.0 from.0) ∙ tells.joined) refl (ap (λ (f : PwFec). f.pw_id) tells.bare))
  class_of other m said tells = absurd said

  -- of two wires between the two with one PW ID each is the other one
  same_wire : (w x : WireId) (r s : WirePlan) → wire_row plan w ≡ Some r → wire_row plan x ≡ Some s → joins from.0 me.0 r.path ≡ true → joins from.0 me.0 s.path ≡ true → r.pw_id ≡ s.pw_id → r ≡ s
  same_wire w x r s w_is x_is one other same =
      let near : NamedEnd plan from me w r = end_of plan from me w r checked w_is one in
      let far : NamedEnd plan from me x s = end_of plan from me x s checked x_is other in
      let place : near.place ≡ far.place = same_Some near.place far.place (sym near.named ∙ (ap (end_named plan from me) same ∙ far.named)) in
      same_row (sym w_is ∙ (ap (wire_row plan) (sym near.wire_is ∙ (ap (λ (p : EndPlace). p.wire) place ∙ far.wire_is)) ∙ x_is))

  -- it goes by the plan
  pub goes_by_plan : (edge : EdgeState) → edge.me ≡ me → (m : Message) → TellsFirm plan from.0 me.0 m → IsMappingTaken plan me.0 from.0 m → IsByPlan plan edge from m
  goes_by_plan edge at (LabelMapping id fec label status points) tells taken =
      subst (λ (k : EdgeId). TellsOfWire plan from.0 k.0 fec (told_with fec status points) × ((place : EndPlace) → option_and_then (end_named plan k from) fec.pw_id ≡ Some place
      → takes_content plan k place (told_with fec status points) ≡ true)) (sym at) (tells, taken)
  goes_by_plan edge at (Notification id code status (Some fec)) tells taken =
      subst (λ (k : EdgeId). (wire : WireId) (row : WirePlan) → wire_row plan wire ≡ Some row → joins from.0 k.0 row.path ≡ true → fec.pw_id ≡ Some row.pw_id → (expected plan row from.0 k.0).offer.status ≡ true) (sym at)
      (λ wire row is joined named.
      subst (λ (r : WirePlan). (expected plan r from.0 me.0).offer.status ≡ true)
      (same_wire tells.wire wire tells.row row tells.is is tells.joined joined (same_Some tells.row.pw_id row.pw_id (sym (ap (λ (f : PwFec). f.pw_id) tells.bare) ∙ named))) tells.carries)
  goes_by_plan edge at (Notification id code status None) tells taken = tt
  goes_by_plan edge at (LabelWithdraw id fec label) tells taken = tt
  goes_by_plan edge at (LabelRelease id fec label) tells taken = tt
  goes_by_plan edge at (AddressWithdraw id addresses fec macs) tells taken = tt
  goes_by_plan edge at m tells taken = tt

  -- and so does what the edge holds
  pub holds_by_plan : (edge : EdgeState) → edge.me ≡ me → TellsOwn plan me.0 edge → HoldsByPlan plan edge from
  holds_by_plan edge at tells =
      subst (λ (k : EdgeId). (wire : WireId) (row : WirePlan) → wire_row plan wire ≡ Some row → joins from.0 k.0 row.path ≡ true → FarTells plan row from.0 k.0 (edge.ends wire.0 from.0).remote) (sym at)
      (λ wire row is joined. (tells wire.0 from.0).far row is joined)

-- ---- what is put

-- whatever is put above one of the messages is so
puts_above_one : (plan : Plan) (edges : ℕ → EdgeState) (me from least : ℕ) (all : List Message) (m : Message) → IsOneOf m all → level_of plan edges from me m ≡ Some least → (es : List Effect) (levels : List ℕ)
    → AreSaidAt plan edges me es levels → AllByRecursion (λ level. least < level) levels → AllByRecursion (SaysAboveOne plan edges me from all) es
puts_above_one plan edges me from least all m among has [] levels are above = tt
puts_above_one plan edges me from least all m among has (effect.Said peer octets ∷ es) [] are above = absurd are
puts_above_one plan edges me from least all m among has (effect.Said peer octets ∷ es) (l ∷ levels) are above = (
  record { message = m; among = among; least = least; has = has; level = l; said = are.0; above = above.0 },
  puts_above_one plan edges me from least all m among has es levels are.1 above.1,
)
puts_above_one plan edges me from least all m among has (e ∷ es) levels are above = (tt, puts_above_one plan edges me from least all m among has es levels are above)

-- nothing may be said
says_nothing_at_all : (plan : Plan) (me : EdgeId) (edges : ℕ → EdgeState) (from : ℕ) (all : List Message) (es : List Effect) → AllByRecursion (PutsWell plan me (λ place saying. false)) es
    → AllByRecursion (SaysAboveOne plan edges me.0 from all) es
says_nothing_at_all plan me edges from all [] none = tt
says_nothing_at_all plan me edges from all (effect.Said peer octets ∷ es) none = clash none.0.allowed
says_nothing_at_all plan me edges from all (e ∷ es) none = (tt, says_nothing_at_all plan me edges from all es none.1)

-- ---- levels of what is put

levels_joined : (plan : Plan) (edges : ℕ → EdgeState) (me : ℕ) (es more : List Effect) (levels put : List ℕ) → AreSaidAt plan edges me es levels → AreSaidAt plan edges me more put
    → AreSaidAt plan edges me (es ++ more) (levels ++ put)
levels_joined plan edges me [] more [] put are others = others
levels_joined plan edges me [] more (l ∷ levels) put are others = absurd are
levels_joined plan edges me (effect.Said peer octets ∷ es) more [] put are others = absurd are
levels_joined plan edges me (effect.Said peer octets ∷ es) more (l ∷ levels) put are others = (are.0, levels_joined plan edges me es more levels put are.1 others)
levels_joined plan edges me (e ∷ es) more levels put are others = levels_joined plan edges me es more levels put are others

-- nothing may be said
no_levels : (plan : Plan) (me : EdgeId) (edges : ℕ → EdgeState) (es : List Effect) → AllByRecursion (PutsWell plan me (λ place saying. false)) es → AreSaidAt plan edges me.0 es []
no_levels plan me edges [] none = tt
no_levels plan me edges (effect.Said peer octets ∷ es) none = clash none.0.allowed
no_levels plan me edges (e ∷ es) none = no_levels plan me edges es none.1

sum_joined : (h a b c : ℕ) → c ≡ a + b → h + c ≡ (h + a) + b
sum_joined h a b c is = omega (arith, is)

total_joined : (few : ℕ) (levels put : List ℕ) → total few (map left_above (levels ++ put)) ≡ total few (map left_above levels) + total few (map left_above put)
total_joined few [] put = sym (zero-add (total few (map left_above put)))
total_joined few (l ∷ levels) put =
    sum_joined (heavy few (left_above l)) (total few (map left_above levels)) (total few (map left_above put)) (total few (map left_above (levels ++ put))) (total_joined few levels put)

end_same : {A : Type 0} (xs : List A) → xs ++ [] ≡ xs
end_same [] = refl
end_same (x ∷ xs) = λ i. x ∷ end_same xs i

pub weighs_some : (few : ℕ) (o : Option ℕ) → 0 < weigh_one few o
weighs_some few None = omega arith
weighs_some few (Some level) = heavy_some few (left_above level)

-- ---- hearing

module _ (plan : Plan) (checked : IsChecked plan) (types : HasTypes plan) (later : NetworkState) (me peer : EdgeId) (apart : nat_eq me.0 peer.0 ≡ false) (away : nat_eq peer.0 me.0 ≡ false)
    (others : ℕ → EdgeState) (first : EdgeState) (held : ℕ → Option (List ℕ)) (placed : (others peer.0).me ≡ peer) (faces : is_there ((later.edges peer.0).peering me.0) ≡ true) (all : List Message) where
  abbrev Hears : List Message → Work → Type 0
  Hears messages work = HearsOn plan later me peer messages work

  -- its session is up
  abbrev Rising : List Message → Work → Type 0
  Rising messages work = Hears messages work × (is_up_with (work.edge.peering peer.0) ≡ true)

  is_plain : (m : Message) (messages : List Message) (kept : Peering) (work : Work) → work.edge.peering peer.0 ≡ Some kept → IsSaidAcross (ends_at plan peer.0 me.0) m → Rising (m ∷ messages) work → is_fatal m ≡ false
  is_plain m messages kept work at said rising = by (is_fatal m) refl where
    goes : (far : Option Peering) → (later.edges peer.0).peering me.0 ≡ far → goes_on (outcome_of kept.session (Received m)) ≡ true
    goes None there = clash (sym (ap is_there there) ∙ faces)
    goes (Some far) there =
        let talk : AreTalking (ends_at plan me.0 peer.0) (ends_at plan peer.0 me.0) (Some kept) ((later.edges peer.0).peering me.0) rising.0.meets.messages (m ∷ messages) = rw at at rising.0.meets.talk in
        received_goes (ends_at plan me.0 peer.0) (ends_at plan peer.0 me.0) kept far rising.0.meets.messages messages m
        (subst (λ (o : Option Peering). AreTalking (ends_at plan me.0 peer.0) (ends_at plan peer.0 me.0) (Some kept) o rising.0.meets.messages (m ∷ messages)) there talk)

    by : (b : Bool) → is_fatal m ≡ b → b ≡ false
    by true fatal = sym (goes ((later.edges peer.0).peering me.0) refl) ∙ ap goes_on (fatal_ends kept.session (ends_at plan peer.0 me.0) m said fatal)
    by false plain = refl

  phase_is : (kept : Peering) (work : Work) → work.edge.peering peer.0 ≡ Some kept → is_up_with (work.edge.peering peer.0) ≡ true → kept.session.phase ≡ Operational
  phase_is kept work at up = up_phase kept.session.phase (sym (ap is_up_with at) ∙ up)

  -- the sender of a PDU is the peer
  heard_as : (messages : List Message) (kept : Peering) (work : Work) → work.edge.peering peer.0 ≡ Some kept → Rising messages work
      → happens_with_ends taken_all peer (Heard (platform_of (ends_at plan peer.0 me.0).me)) work ≡ changes (with_peering peer (Some (with_session (record (kept.session) { wait = 0 }) kept))) work
  heard_as messages kept work at rising =
      let talk : AreTalking (ends_at plan me.0 peer.0) (ends_at plan peer.0 me.0) (Some kept) ((later.edges peer.0).peering me.0) rising.0.meets.messages messages = rw at at rising.0.meets.talk in
      waits_not peer kept work at (phase_is kept work at rising.1) (Heard (platform_of (ends_at plan peer.0 me.0).me))
      (said_sender kept.session (ends_at plan peer.0 me.0).me (platform_is (ends_at plan me.0 peer.0) (ends_at plan peer.0 me.0) kept talk.here))

  heard_put : (messages : List Message) (work : Work) → Rising messages work
      → HasPut work.edge (happens_with_ends taken_all peer (Heard (platform_of (ends_at plan peer.0 me.0).me)) work).edge
      × ((happens_with_ends taken_all peer (Heard (platform_of (ends_at plan peer.0 me.0).me)) work).effects ≡ work.effects)
  heard_put messages work rising = by (work.edge.peering peer.0) refl where
    by : (near : Option Peering) → work.edge.peering peer.0 ≡ near
        → HasPut work.edge (happens_with_ends taken_all peer (Heard (platform_of (ends_at plan peer.0 me.0).me)) work).edge
        × ((happens_with_ends taken_all peer (Heard (platform_of (ends_at plan peer.0 me.0).me)) work).effects ≡ work.effects)
    by None at = clash (sym (ap is_up_with at) ∙ rising.1)
    by (Some kept) at =
        let now : Peering = with_session (record (kept.session) { wait = 0 }) kept in (
          subst (λ (w : Work). HasPut work.edge w.edge) (sym (heard_as messages kept work at rising)) (waits_put peer kept now work at refl),
          ap (λ (w : Work). w.effects) (heard_as messages kept work at rising) ∙ changed_effects (with_peering peer (Some now)) work,
        )

  steady : (messages : List Message) → IsSteady plan me (Rising messages)
  steady messages = up_steady plan me (Hears messages) peer.0 (hears_steady plan later me peer apart messages)

  rising_kept : KeptByHearing plan me peer (ends_at plan peer.0 me.0) Rising
  rising_kept =
      let base : KeptByHearing plan me peer (ends_at plan peer.0 me.0) Hears = hears_kept plan later me peer apart checked types in
      record {
        window = λ messages kept work at rising. base.window messages kept work at rising.0;
        sender = λ messages work rising. (base.sender messages work rising.0, (heard_put messages work rising).0.ups peer.0 ∙ rising.1);
        gone = λ m messages work at rising. (base.gone m messages work at rising.0, rising.1);
        event = λ m messages kept work at said ends rising. absurd (⊎_elim
            (λ (down : is_up_phase kept.session.phase ≡ false). down_not down (ap is_up_phase (phase_is kept work at rising.1)))
            (λ (fatal : is_fatal m ≡ true). down_not (is_plain m messages kept work at said rising) fatal)
            ends);
        acts = λ m messages kept work at up said plain pseudowires rising. (
          base.acts m messages kept work at up said plain pseudowires rising.0,
          (steady_acts plan me peer (ends_at plan peer.0 me.0) (Rising (m ∷ messages)) (steady (m ∷ messages)) m work said pseudowires rising.1 rising).1,
        );
        goes_by = λ m messages kept work at up said addresses rising. (base.goes_by m messages kept work at up said addresses rising.0, rising.1);
        mends = λ messages. steady_rows plan me checked types (Rising messages) (steady messages);
      }

  -- all that is kept
  record Keeps (messages : List Message) (work : Work) : Type 0 where
    rising : Rising messages work
    ruled : IsHearing plan others me.0 peer.0 first held messages work
    mended : IsMendedAt plan me.0 work.edge
    bits : (others me.0).bits ≡ work.edge.bits
    taken : AllMessages (IsMappingTaken plan me.0 peer.0) messages
    among : AllMessages (λ m. IsOneOf m all) messages
    puts : AllByRecursion (SaysAboveOne plan others me.0 peer.0 all) work.effects

  -- what comes of a message that has a level
  rises_of : (m : Message) (messages : List Message) (kept : Peering) (work : Work) → work.edge.peering peer.0 ≡ Some kept → Keeps (m ∷ messages) work → (has : HasLevel plan others peer me m)
      → PutsAbove plan others me.0 has.least (put_most plan me m) work.effects (mends plan taken_all (acts_on plan taken_all peer m work)).effects
  rises_of m messages kept work at keeps has =
      subst (λ (k : EdgeId). PutsAbove plan others k.0 has.least (put_most plan k m) work.effects (mends plan taken_all (acts_on plan taken_all peer m work)).effects) placed_here
      (hearing_rises plan checked others peer m has.least work (ap is_there at) mended (ap (λ (k : EdgeId). (others k.0).bits) placed_here ∙ keeps.bits)
      (holds_by_plan plan checked others peer me work.edge placed_here keeps.ruled.works.edge.tells)
      (goes_by_plan plan checked others peer me work.edge placed_here m keeps.ruled.to_hear.0.tells keeps.taken.0)
      (ap (λ (k : EdgeId). level_of plan others peer.0 k.0 m) placed_here ∙ has.is))
    where
      placed_here : work.edge.me ≡ me
      placed_here = keeps.mended.me

      mended : HasMended plan work.edge
      mended = record {
        ends = subst (λ (k : EdgeId). AllByRecursion (λ place. is_mended plan work.edge place ≡ true) (end_places plan k)) (sym placed_here) keeps.mended.ends;
        statuses = subst (λ (k : EdgeId). AllByRecursion (λ place. is_told plan work.edge place ≡ true) (end_places plan k)) (sym placed_here) keeps.mended.statuses;
        chosen = keeps.mended.chosen;
      }

  -- and of one on which the edge does nothing
  none_of : (m : Message) (messages : List Message) (work : Work) → Keeps (m ∷ messages) work → ((w : Work) → acts_on plan taken_all peer m w ≡ w)
      → PutsMore plan me (λ place saying. false) work.effects (mends plan taken_all (acts_on plan taken_all peer m work)).effects
  none_of m messages work keeps none =
      subst (λ (w : Work). PutsMore plan me (λ place saying. false) work.effects (mends plan taken_all w).effects) (sym (none work)) (mended_puts_none plan me (λ place saying. false) work keeps.mended)

  -- what comes of one message
  message_above : (m : Message) (messages : List Message) (kept : Peering) (work : Work) → work.edge.peering peer.0 ≡ Some kept → IsSaidAcross (ends_at plan peer.0 me.0) m → Keeps (m ∷ messages) work
      → AllByRecursion (SaysAboveOne plan others me.0 peer.0 all) (mends plan taken_all (acts_on plan taken_all peer m work)).effects
  message_above m messages kept work at said keeps = ⊎_elim leveled unleveled (class_of plan checked others peer me (ends_at plan peer.0 me.0) m said keeps.ruled.to_hear.0.tells) where
    leveled : HasLevel plan others peer me m → AllByRecursion (SaysAboveOne plan others me.0 peer.0 all) (mends plan taken_all (acts_on plan taken_all peer m work)).effects
    leveled has =
        let rises = rises_of m messages kept work at keeps has in
        subst (AllByRecursion (SaysAboveOne plan others me.0 peer.0 all)) (sym rises.joined)
        (all-append (SaysAboveOne plan others me.0 peer.0 all) work.effects rises.more keeps.puts
        (puts_above_one plan others me.0 peer.0 has.least all m keeps.among.0 has.is rises.more rises.levels rises.are rises.above))

    unleveled : ((w : Work) → acts_on plan taken_all peer m w ≡ w) → AllByRecursion (SaysAboveOne plan others me.0 peer.0 all) (mends plan taken_all (acts_on plan taken_all peer m work)).effects
    unleveled none =
        let puts = none_of m messages work keeps none in
        subst (AllByRecursion (SaysAboveOne plan others me.0 peer.0 all)) (sym puts.joined)
        (all-append (SaysAboveOne plan others me.0 peer.0 all) work.effects puts.more keeps.puts (says_nothing_at_all plan me others peer.0 all puts.more puts.well))

  -- the message is heard
  heard_is : (m : Message) (messages : List Message) (kept : Peering) (work : Work) → work.edge.peering peer.0 ≡ Some kept → IsSaidAcross (ends_at plan peer.0 me.0) m → Rising (m ∷ messages) work
      → hears_message plan taken_all peer m work ≡ mends plan taken_all (acts_on plan taken_all peer m work)
  heard_is m messages kept work at said rising =
      there (has_end work.edge peer) (ap is_there at)
      ∙ ap (mends plan taken_all) (up_heard plan (ends_at plan peer.0 me.0) peer m kept work at (phase_is kept work at rising.1) said (is_plain m messages kept work at said rising))
    where
      there : (b : Bool) → b ≡ true → cond b (mends plan taken_all (hears_one plan taken_all peer m work)) work ≡ mends plan taken_all (hears_one plan taken_all peer m work)
      there true e = refl
      there false e = clash e

  keeps_messages : KeptByMessages plan peer (ends_at plan peer.0 me.0) Keeps
  keeps_messages =
      let rising_messages : KeptByMessages plan peer (ends_at plan peer.0 me.0) Rising = message_heard plan me peer (ends_at plan peer.0 me.0) Rising rising_kept in
      let ruled_messages : KeptByMessages plan peer (ends_at plan peer.0 me.0) (IsHearing plan others me.0 peer.0 first held) =
      message_heard plan me peer (ends_at plan peer.0 me.0) (IsHearing plan others me.0 peer.0 first held) (hearing_ruled plan checked types others me peer first held away placed) in
      record {
        window = λ messages kept work at keeps. rising_messages.window messages kept work at keeps.rising;
        sender = λ messages work keeps. record {
          rising = rising_messages.sender messages work keeps.rising;
          ruled = ruled_messages.sender messages work keeps.ruled;
          mended = put_mended plan me work.edge (happens_with_ends taken_all peer (Heard (platform_of (ends_at plan peer.0 me.0).me)) work).edge (heard_put messages work keeps.rising).0 keeps.mended;
          bits = keeps.bits ∙ sym ((heard_put messages work keeps.rising).0.bits);
          taken = keeps.taken;
          among = keeps.among;
          puts = subst (AllByRecursion (SaysAboveOne plan others me.0 peer.0 all)) (sym (heard_put messages work keeps.rising).1) keeps.puts;
        };
        message = λ m messages work said more keeps. record {
          rising = rising_messages.message m messages work said more keeps.rising;
          ruled = ruled_messages.message m messages work said more keeps.ruled;
          mended = mended_after m messages work said keeps;
          bits = keeps.bits ∙ sym ((hears_message_signals plan taken_all peer m work).edge.bits);
          taken = keeps.taken.1;
          among = keeps.among.1;
          puts = puts_after m messages work said keeps (work.edge.peering peer.0) refl;
        };
      }
    where
      mended_there : (m : Message) (messages : List Message) (work : Work) → IsSaidAcross (ends_at plan peer.0 me.0) m → Keeps (m ∷ messages) work → (near : Option Peering) → work.edge.peering peer.0 ≡ near
          → IsMendedAt plan me.0 (hears_message plan taken_all peer m work).edge
      mended_there m messages work said keeps None at = clash (sym (ap is_up_with at) ∙ keeps.rising.1)
      mended_there m messages work said keeps (Some kept) at =
          let acted : Work = acts_on plan taken_all peer m work in
          subst (λ (w : Work). IsMendedAt plan me.0 w.edge) (sym (heard_is m messages kept work at said keeps.rising))
          (mended_at plan me.0 (mends plan taken_all acted).edge
          ((mends_signals plan taken_all acted).edge.me ∙ ((acts_on_signals plan taken_all peer m work (ap is_there at)).edge.me ∙ keeps.mended.me))
          (mends_mended plan taken_all acted (λ i. refl) (has_one_end plan acted.edge.me checked)))

      mended_after : (m : Message) (messages : List Message) (work : Work) → IsSaidAcross (ends_at plan peer.0 me.0) m → Keeps (m ∷ messages) work → IsMendedAt plan me.0 (hears_message plan taken_all peer m work).edge
      mended_after m messages work said keeps = mended_there m messages work said keeps (work.edge.peering peer.0) refl

      puts_after : (m : Message) (messages : List Message) (work : Work) → IsSaidAcross (ends_at plan peer.0 me.0) m → Keeps (m ∷ messages) work → (near : Option Peering) → work.edge.peering peer.0 ≡ near
          → AllByRecursion (SaysAboveOne plan others me.0 peer.0 all) (hears_message plan taken_all peer m work).effects
      puts_after m messages work said keeps None at = clash (sym (ap is_up_with at) ∙ keeps.rising.1)
      puts_after m messages work said keeps (Some kept) at =
          subst (λ (w : Work). AllByRecursion (SaysAboveOne plan others me.0 peer.0 all) w.effects) (sym (heard_is m messages kept work at said keeps.rising)) (message_above m messages kept work at said keeps)

  -- once all is heard, and what is left of the octets is held
  holds_above : (rest : List ℕ) (later_messages : List Message) (work : Work) → Keeps later_messages work → (near : Option Peering) → work.edge.peering peer.0 ≡ near
      → AllByRecursion (SaysAboveOne plan others me.0 peer.0 all) (mends plan taken_all (holds peer rest near work)).effects
  holds_above rest later_messages work keeps None at = clash (sym (ap is_up_with at) ∙ keeps.rising.1)
  holds_above rest later_messages work keeps (Some kept) at =
      let now : Peering = record kept { held = rest } in
      let held_work : Work = changes (with_peering peer (Some now)) work in
      let mended : IsMendedAt plan me.0 held_work.edge = put_mended plan me work.edge held_work.edge (waits_put peer kept now work at refl) keeps.mended in
      let puts : PutsMore plan me (λ place saying. false) held_work.effects (mends plan taken_all held_work).effects = mended_puts_none plan me (λ place saying. false) held_work mended in
      subst (AllByRecursion (SaysAboveOne plan others me.0 peer.0 all)) (sym puts.joined)
      (all-append (SaysAboveOne plan others me.0 peer.0 all) held_work.effects puts.more
      (subst (AllByRecursion (SaysAboveOne plan others me.0 peer.0 all)) (sym (changed_effects (with_peering peer (Some now)) work)) keeps.puts)
      (says_nothing_at_all plan me others peer.0 all puts.more puts.well))

  heard_above : (more : List ℕ) (result : Work) → HasHeard peer (ends_at plan peer.0 me.0) Keeps more result → AllByRecursion (SaysAboveOne plan others me.0 peer.0 all) (mends plan taken_all result).effects
  heard_above more result heard =
      subst (λ (w : Work). AllByRecursion (SaysAboveOne plan others me.0 peer.0 all) (mends plan taken_all w).effects) (sym heard.is)
      (holds_above heard.rest heard.later heard.last heard.keeps (heard.last.edge.peering peer.0) refl)

  -- ---- weights

  module _ (few : ℕ) (enough : AllMessages (λ m. put_most plan me m ≤ few) all) where
    abbrev weigh : List Message → ℕ
    weigh messages = weight plan others peer.0 me.0 few messages

    -- what was put so far, what is to be heard, and one for each message that was heard, weigh no more than all at first
    record Lightens (messages : List Message) (work : Work) : Type 0 where
      keeps : Keeps messages work
      levels : List ℕ
      are : AreSaidAt plan others me.0 work.effects levels
      gone : ℕ
      counted : gone + length messages ≡ length all
      short : AllMessages (λ m. put_most plan me m ≤ few) messages
      light : total few (map left_above levels) + (weigh messages + gone) ≤ weigh all

    -- of one message
    record Step (m : Message) (work next : Work) : Type 0 where
      more : List Effect
      joined : next.effects ≡ work.effects ++ more
      put : List ℕ
      are_put : AreSaidAt plan others me.0 more put
      lighter_than : total few (map left_above put) < weigh_one few (level_of plan others peer.0 me.0 m)

    stepped : (m : Message) (messages : List Message) (kept : Peering) (work : Work) → work.edge.peering peer.0 ≡ Some kept → IsSaidAcross (ends_at plan peer.0 me.0) m → put_most plan me m ≤ few → Keeps (m ∷ messages) work
        → Step m work (mends plan taken_all (acts_on plan taken_all peer m work))
    stepped m messages kept work at said short keeps = ⊎_elim leveled unleveled (class_of plan checked others peer me (ends_at plan peer.0 me.0) m said keeps.ruled.to_hear.0.tells) where
      leveled : HasLevel plan others peer me m → Step m work (mends plan taken_all (acts_on plan taken_all peer m work))
      leveled has =
          let rises = rises_of m messages kept work at keeps has in
          record {
            more = rises.more;
            joined = rises.joined;
            put = rises.levels;
            are_put = rises.are;
            lighter_than = subst (λ (o : Option ℕ). total few (map left_above rises.levels) < weigh_one few o) (sym has.is)
                (hearing_lightens plan checked others me peer m has.least few work.effects (mends plan taken_all (acts_on plan taken_all peer m work)).effects has.is rises short);
          }

      unleveled : ((w : Work) → acts_on plan taken_all peer m w ≡ w) → Step m work (mends plan taken_all (acts_on plan taken_all peer m work))
      unleveled none =
          let puts = none_of m messages work keeps none in
          record {
            more = puts.more;
            joined = puts.joined;
            put = [];
            are_put = no_levels plan me others puts.more puts.well;
            lighter_than = weighs_some few (level_of plan others peer.0 me.0 m);
          }

    goes_lighter : (old put now left gone all : ℕ) → old + ((now + left) + gone) ≤ all → put < now → (old + put) + (left + suc gone) ≤ all
    goes_lighter old put now left gone all light less = omega (arith, light, less)

    one_less : (gone left all : ℕ) → gone + suc left ≡ all → suc gone + left ≡ all
    one_less gone left all is = omega (arith, is)

    lightens_messages : KeptByMessages plan peer (ends_at plan peer.0 me.0) Lightens
    lightens_messages = record {
      window = λ messages kept work at now. keeps_messages.window messages kept work at now.keeps;
      sender = λ messages work now. record {
        keeps = keeps_messages.sender messages work now.keeps;
        levels = now.levels;
        are = subst (λ (es : List Effect). AreSaidAt plan others me.0 es now.levels) (sym ((heard_put messages work now.keeps.rising).1)) now.are;
        gone = now.gone;
        counted = now.counted;
        short = now.short;
        light = now.light;
      };
      message = λ m messages work said more now. by m messages work said more now (work.edge.peering peer.0) refl;
    }
      where
        by : (m : Message) (messages : List Message) (work : Work) → IsSaidAcross (ends_at plan peer.0 me.0) m → AreSaid (ends_at plan peer.0 me.0) messages → Lightens (m ∷ messages) work → (near : Option Peering)
            → work.edge.peering peer.0 ≡ near → Lightens messages (hears_message plan taken_all peer m work)
        by m messages work said more now None at = clash (sym (ap is_up_with at) ∙ now.keeps.rising.1)
        by m messages work said more now (Some kept) at =
            let next : Work = mends plan taken_all (acts_on plan taken_all peer m work) in
            let step : Step m work next = stepped m messages kept work at said now.short.0 now.keeps in
            let same : hears_message plan taken_all peer m work ≡ next = heard_is m messages kept work at said now.keeps.rising in
            record {
              keeps = keeps_messages.message m messages work said more now.keeps;
              levels = now.levels ++ step.put;
              are = subst (λ (w : Work). AreSaidAt plan others me.0 w.effects (now.levels ++ step.put)) (sym same)
                  (subst (λ (es : List Effect). AreSaidAt plan others me.0 es (now.levels ++ step.put)) (sym step.joined) (levels_joined plan others me.0 work.effects step.more now.levels step.put now.are step.are_put));
              gone = suc now.gone;
              counted = one_less now.gone (length messages) (length all) now.counted;
              short = now.short.1;
              light = subst (λ (n : ℕ). n + (weigh messages + suc now.gone) ≤ weigh all) (sym (total_joined few now.levels step.put))
                  (goes_lighter (total few (map left_above now.levels)) (total few (map left_above step.put)) (weigh_one few (level_of plan others peer.0 me.0 m)) (weigh messages) now.gone (weigh all) now.light step.lighter_than);
            }

    -- once all is heard, and what is left of the octets is held
    held_light : (rest : List ℕ) (left : List Message) (work : Work) (now : Lightens left work) → (near : Option Peering) → work.edge.peering peer.0 ≡ near
        → AreSaidAt plan others me.0 (mends plan taken_all (holds peer rest near work)).effects now.levels
    held_light rest left work now None at = clash (sym (ap is_up_with at) ∙ now.keeps.rising.1)
    held_light rest left work now (Some kept) at =
        let held_work : Work = changes (with_peering peer (Some (record kept { held = rest }))) work in
        let mended : IsMendedAt plan me.0 held_work.edge = put_mended plan me work.edge held_work.edge (waits_put peer kept (record kept { held = rest }) work at refl) now.keeps.mended in
        let puts : PutsMore plan me (λ place saying. false) held_work.effects (mends plan taken_all held_work).effects = mended_puts_none plan me (λ place saying. false) held_work mended in
        subst (AreSaidAt plan others me.0 (mends plan taken_all held_work).effects) (end_same now.levels)
        (subst (λ (es : List Effect). AreSaidAt plan others me.0 es (now.levels ++ [])) (sym puts.joined)
        (levels_joined plan others me.0 held_work.effects puts.more now.levels []
        (subst (λ (es : List Effect). AreSaidAt plan others me.0 es now.levels) (sym (changed_effects (with_peering peer (Some (record kept { held = rest }))) work)) now.are)
        (no_levels plan me others puts.more puts.well)))

-- ---- in a run

all_among : (ms : List Message) → AllMessages (λ m. IsOneOf m ms) ms
all_among [] = tt
all_among (m ∷ ms) = (inl refl, all_kept (λ x. IsOneOf x ms) (λ x. IsOneOf x (m ∷ ms)) ms (λ x is. inr is) (all_among ms))

module _ (plan : Plan) (events : List Event) (run : IsRun plan events) (from to : EdgeId) (count : ℕ) where
  abbrev network : NetworkState
  network = network_after plan events

  ordered : IsOrdered plan network
  ordered = run_ordered plan events run

  ruled : IsRuledNetwork plan network
  ruled = run_ruled plan events run

  abbrev pipe : List ℕ
  pipe = network.pipes from.0 to.0

  module _ (both : BothStand network to.0 from.0) (up : is_up_with ((network.edges to.0).peering from.0) ≡ true) (kept : Peering) (at : (network.edges to.0).peering from.0 ≡ Some kept) where
    apart : nat_eq from.0 to.0 ≡ false
    apart = stands_apart plan network from.0 to.0 ordered both.one

    back_apart : nat_eq to.0 from.0 ≡ false
    back_apart = apart_back from.0 to.0 apart

    pair : ArePaired (ends_at plan to.0 from.0) (ends_at plan from.0 to.0) (Some kept) ((network.edges from.0).peering to.0) (flight network to.0 from.0) (kept.held ++ pipe)
    pair = rw at at (ordered.two to.0 from.0 back_apart)

    on_way : AreOnWay plan network from.0 to.0 pair.answers
    on_way = record { octets = ap (λ (o : Option Peering). held_by o ++ pipe) at ∙ pair.back_is; said = pair.talk.answered }

    fit : AreFit (ends_at plan from.0 to.0)
    fit = pair.talk.here.between.two

    ready_all : AllMessages (IsReadyBetween (ends_at plan from.0 to.0)) pair.answers
    ready_all = all_ready (ends_at plan from.0 to.0) pair.answers fit pair.talk.answered

    back : RulesTo plan from.0 to.0 (network.edges from.0) (network.edges to.0) (flight network from.0 to.0)
    back = (ruled.two to.0 from.0 back_apart).1

    to_hear : AllMessages (IsRuled plan from.0 to.0 (network.edges from.0) (network.edges to.0)) pair.answers
    to_hear = subst (AllMessages (IsRuled plan from.0 to.0 (network.edges from.0) (network.edges to.0)))
        (same_messages (ends_at plan from.0 to.0) back.messages pair.answers
        (all_kept (IsRuled plan from.0 to.0 (network.edges from.0) (network.edges to.0)) (IsReadyBetween (ends_at plan from.0 to.0)) back.messages (λ m is. record { fit = is.fit; is = is.ready }) back.ruled)
        ready_all (sym back.octets ∙ on_way.octets)) back.ruled

    takes : TakesAll plan network from.0 to.0
    takes = runs_take_mappings plan events run from.0 to.0 apart

    taken : AllMessages (IsMappingTaken plan to.0 from.0) pair.answers
    taken = subst (AllMessages (IsMappingTaken plan to.0 from.0))
        (same_messages (ends_at plan from.0 to.0) takes.messages pair.answers (all_ready (ends_at plan from.0 to.0) takes.messages fit takes.on_way.said) ready_all (sym takes.on_way.octets ∙ on_way.octets)) takes.taken

    abbrev octets : List ℕ
    octets = kept.held ++ take count pipe

    abbrev later : NetworkState
    later = with_pipe from to (drop count pipe) network

    faces : is_there ((later.edges from.0).peering to.0) ≡ true
    faces = rw (pipe_edges from to (drop count pipe) network) both.other

    whole : octets ++ drop count pipe ≡ octets_of_all (ends_at plan from.0 to.0).me pair.answers
    whole = append_assoc kept.held (take count pipe) (drop count pipe) ∙ (ap (λ (l : List ℕ). kept.held ++ l) (take-append-drop count pipe) ∙ pair.back_is)

    abbrev Kept : List Message → Work → Type 0
    Kept = Keeps plan run.checked run.types later to from back_apart apart network.edges (network.edges to.0) (held_at network to.0) (ruled.edges from.0).place faces pair.answers

    start : Kept pair.answers (begin_at network to)
    start = record {
      rising = (hears_begin plan from to (drop count pipe) network kept ordered apart at pair, up);
      ruled = record { works = ruled_begin plan network to ruled; to_hear = to_hear };
      mended = run_mended_at plan events run to.0;
      bits = refl;
      taken = taken;
      among = all_among pair.answers;
      puts = tt;
    }

    heard : HasHeard from (ends_at plan from.0 to.0) Kept (drop count pipe) (hears plan taken_all from octets (begin_at network to))
    heard = few_heard plan from (ends_at plan from.0 to.0) fit Kept
        (keeps_messages plan run.checked run.types later to from back_apart apart network.edges (network.edges to.0) (held_at network to.0) (ruled.edges from.0).place faces pair.answers)
        (suc (length octets)) octets (drop count pipe) pair.answers (begin_at network to) pair.talk.answered whole start

    work_is : hearing_work plan network from to (take count pipe) ≡ mends plan taken_all (hears plan taken_all from octets (begin_at network to))
    work_is = ap (λ (o : Option Peering). octets_input plan taken_all from (take count pipe) o (begin_at network to)) at

    rises_on : RisesOn plan network from to count
    rises_on = record {
      heard = pair.answers;
      on_way = on_way;
      above = subst (λ (w : Work). AllByRecursion (SaysAboveOne plan network.edges to.0 from.0 pair.answers) w.effects) (sym work_is)
          (heard_above plan run.checked run.types later to from back_apart apart network.edges (network.edges to.0) (held_at network to.0) (ruled.edges from.0).place faces pair.answers
          (drop count pipe) (hears plan taken_all from octets (begin_at network to)) heard);
    }

  by_end : BothStand network to.0 from.0 → is_up_with ((network.edges to.0).peering from.0) ≡ true → (near : Option Peering) → (network.edges to.0).peering from.0 ≡ near → RisesOn plan network from to count
  by_end both up None at = clash (sym (ap is_up_with at) ∙ up)
  by_end both up (Some kept) at = rises_on both up kept at

pub runs_rise : RunsRise
runs_rise plan events run from to count both up = by_end plan events run from to count both up (((network_after plan events).edges to.0).peering from.0) refl

-- ---- and grows lighter

module _ (plan : Plan) (events : List Event) (run : IsRun plan events) (from to : EdgeId) (count few : ℕ) (both : BothStand (network_after plan events) to.0 from.0)
    (up : is_up_with (((network_after plan events).edges to.0).peering from.0) ≡ true) (kept : Peering) (at : ((network_after plan events).edges to.0).peering from.0 ≡ Some kept)
    (enough : most_put plan to ≤ few) where
  abbrev there : List Message
  there = (pair plan events run from to count both up kept at).answers

  all_enough : AllMessages (λ message. put_most plan to message ≤ few) there
  all_enough = all_few_said plan to (ends_at plan from.0 to.0) few enough there (on_way plan events run from to count both up kept at).said

  abbrev Light : List Message → Work → Type 0
  Light = Lightens plan run.checked run.types (later plan events run from to count both up kept at) to from (back_apart plan events run from to count both up kept at) (apart plan events run from to count both up kept at)
      (network_after plan events).edges ((network_after plan events).edges to.0) (held_at (network_after plan events) to.0) ((ruled plan events run from to count).edges from.0).place
      (faces plan events run from to count both up kept at) there few all_enough

  none_yet : (n : ℕ) → 0 + (n + 0) ≤ n
  none_yet n = omega arith

  light_start : Light there (begin_at (network_after plan events) to)
  light_start = record {
    keeps = start plan events run from to count both up kept at;
    levels = [];
    are = tt;
    gone = 0;
    counted = zero-add (length there);
    short = all_enough;
    light = none_yet (weight plan (network_after plan events).edges from.0 to.0 few there);
  }

  light_heard : HasHeard from (ends_at plan from.0 to.0) Light (drop count ((network_after plan events).pipes from.0 to.0)) (hears plan taken_all from (octets plan events run from to count both up kept at) (begin_at (network_after plan events) to))
  light_heard = few_heard plan from (ends_at plan from.0 to.0) (fit plan events run from to count both up kept at) Light
      (lightens_messages plan run.checked run.types (later plan events run from to count both up kept at) to from (back_apart plan events run from to count both up kept at) (apart plan events run from to count both up kept at)
      (network_after plan events).edges ((network_after plan events).edges to.0) (held_at (network_after plan events) to.0) ((ruled plan events run from to count).edges from.0).place
      (faces plan events run from to count both up kept at) there few all_enough)
      (suc (length (octets plan events run from to count both up kept at))) (octets plan events run from to count both up kept at) (drop count ((network_after plan events).pipes from.0 to.0)) there
      (begin_at (network_after plan events) to) (pair plan events run from to count both up kept at).talk.answered (whole plan events run from to count both up kept at) light_start

  lightens_on : LightensOn plan (network_after plan events) from to count few
  lightens_on = record {
    heard = there;
    on_way = on_way plan events run from to count both up kept at;
    rest = light_heard.rest;
    left = light_heard.later;
    behind = light_heard.behind;
    levels = light_heard.keeps.levels;
    are = subst (λ (w : Work). AreSaidAt plan (network_after plan events).edges to.0 w.effects light_heard.keeps.levels) (sym (work_is plan events run from to count both up kept at))
        (subst (λ (w : Work). AreSaidAt plan (network_after plan events).edges to.0 (mends plan taken_all w).effects light_heard.keeps.levels) (sym light_heard.is)
        (held_light plan run.checked run.types (later plan events run from to count both up kept at) to from (back_apart plan events run from to count both up kept at) (apart plan events run from to count both up kept at)
        (network_after plan events).edges ((network_after plan events).edges to.0) (held_at (network_after plan events) to.0) ((ruled plan events run from to count).edges from.0).place
        (faces plan events run from to count both up kept at) there few all_enough light_heard.rest light_heard.later light_heard.last light_heard.keeps (light_heard.last.edge.peering from.0) refl));
    gone = light_heard.keeps.gone;
    counted = light_heard.keeps.counted;
    light = light_heard.keeps.light;
  }

pub runs_lighten : RunsLighten
runs_lighten plan events run from to count few both up enough = by (((network_after plan events).edges to.0).peering from.0) refl where
  by : (near : Option Peering) → ((network_after plan events).edges to.0).peering from.0 ≡ near → LightensOn plan (network_after plan events) from to count few
  by None at = clash (sym (ap is_up_with at) ∙ up)
  by (Some kept) at = lightens_on plan events run from to count few both up kept at enough
