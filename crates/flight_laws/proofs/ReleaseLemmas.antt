-- Every run keeps to what is on its way of labels that are withdrawn.
use Rattle.std.proofs.Common.{◌≡◌, ◌≢◌, ◌||◌, ◌∙◌, not, nat_eq, ℕ, Bool, true, false, List, [], ◌∷◌, Option, Some, None, option_and_then, refl, sym, ap, subst, inl, inr}
use Rattle.std.proofs.lemmas.Bool.{cases_Bool, not-true}
use Rattle.net_values.proofs.BoolLemmas.{first_holds, clash, second_holds, clash_at}
use Rattle.net_values.proofs.NumberLemmas.{same_number, apart_back}
use Rattle.net_base.specs.declared.plan.Plan.{Plan}
use Rattle.net_base.specs.declared.plan.places.EdgeId.{EdgeId}
use Rattle.net_base.specs.declared.plan.places.WireId.{WireId}
use Rattle.net_base.specs.declared.plan.wire_plan.WirePlan.{WirePlan}
use Rattle.net_base.specs.plan.Accepted.{IsChecked}
use Rattle.net_base.specs.plan.Paths.{joins}
use Rattle.net_base.specs.plan.Places.{wire_row}
use Rattle.pw_tlvs.specs.declared.pw_fec.PwFec.{PwFec}
use Rattle.ldp_grammar.specs.declared.message.Message.{Message}
use Rattle.ldp_grammar.specs.declared.message.Message.TheVariants.{LabelRelease}
use Rattle.pw_signalling.specs.End.{LocalPart, Idle, Advertised, Withdrawing}
use Rattle.edge_model.specs.declared.end_place.EndPlace.{EndPlace}
use Rattle.edge_model.specs.EndPlaces.{end_named}
use Rattle.edge_model.specs.Signal.{end_of_fec}
use Rattle.edge_model.specs.State.{EdgeState}
use Rattle.network_model.specs.State.{NetworkState}
use Rattle.flight_laws.specs.Bound.{AreBound, given_of, has_advertised, is_old, is_release_of, is_waited_for, is_withdrawal_of, names_old, releases_old, some_message}
use Rattle.flight_laws.specs.Ends.{IsOrdered, ends_at}
use Rattle.flight_laws.specs.Facts.{flight}
use Rattle.flight_laws.specs.Flight.{all_messages}
use Rattle.flight_laws.specs.Laws.{AreOnWay, network_after}
use Rattle.flight_laws.specs.Pair.{ArePaired}
use Rattle.flight_laws.specs.Releases.{AwaitsRelease, NamesUnadvertised, RunsAwaitReleases, RunsDeclineNone, RunsReleaseUnadvertised}
use Rattle.flight_laws.specs.Rules.{AllMessages, MayNameAt, NamesTold, part_owns}
use Rattle.flight_laws.proofs.BoundRunLemmas.{AreBoundNow, bound_now, run_bounds}
use Rattle.flight_laws.proofs.PlaceLemmas.{wire_named}
use Rattle.flight_laws.proofs.RuledLemmas.{IsRuled}
use Rattle.flight_laws.proofs.RuledNetworkLemmas.{IsRuledNetwork, RulesTo}
use Rattle.flight_laws.proofs.RuledRunLemmas.{messages_said, run_ruled}
use Rattle.flight_laws.proofs.RunLemmas.{both_apart, run_ordered}
use Rattle.flight_laws.proofs.ToldLemmas.{tells_plan}

-- ---- a label that is withdrawn

awaits_release : (pw_id : ℕ) (next : ℕ → Bool) (near : LocalPart) (out back : List Message) → is_waited_for pw_id next near out back ≡ true → AwaitsRelease pw_id near out back
awaits_release pw_id next (Idle declined) out back waits = tt
awaits_release pw_id next (Advertised label told) out back waits = tt
awaits_release pw_id next (Withdrawing label) out back waits =
    let some = second_holds (next label) (some_message (is_withdrawal_of pw_id label) out || some_message (is_release_of pw_id label) back) waits in
    elim (cases_Bool (some_message (is_withdrawal_of pw_id label) out)) [
      | inl here ↦ inl here
      | inr away ↦ inr (rw away at some)
    ]

pub runs_await_releases : RunsAwaitReleases
runs_await_releases plan events run a b both =
    let network : NetworkState = network_after plan events in
    let now : AreBoundNow plan network a b = bound_now plan network a b (run_ordered plan events run) (run_bounds plan events run) both in
    record {
      out = now.pair.messages;
      back = now.pair.answers;
      goes = record { octets = now.pair.out_is; said = now.pair.talk.said };
      comes = record { octets = now.pair.back_is; said = now.pair.talk.answered };
      awaits = λ wire row is joined. awaits_release row.pw_id (given_of (network.edges a)) ((network.edges a).ends wire.0 b).local now.pair.messages now.pair.answers
          (now.bound.near wire row is joined).waits;
    }

-- ---- no end is declined

undeclined : (pw_id : ℕ) (given : ℕ → Bool) (near : LocalPart) (out back : List Message) → is_waited_for pw_id given near out back ≡ true → near ≢ Idle true
undeclined pw_id given near out back waits is = clash (ap (λ (local : LocalPart). is_waited_for pw_id given local out back) (sym is) ∙ waits)

pub runs_decline_none : RunsDeclineNone
runs_decline_none plan events run a b both =
    let network : NetworkState = network_after plan events in
    let now : AreBoundNow plan network a b = bound_now plan network a b (run_ordered plan events run) (run_bounds plan events run) both in
    record {
      undeclined = λ wire row is joined. undeclined row.pw_id (given_of (network.edges a)) ((network.edges a).ends wire.0 b).local now.pair.messages now.pair.answers
          (now.bound.near wire row is joined).waits;
    }

-- ---- a label that is released

-- an end owns the label that it advertises
advertised_owned : (near : LocalPart) (label : ℕ) → has_advertised near label ≡ true → part_owns near label ≡ true
advertised_owned (Idle declined) label is = clash is
advertised_owned (Advertised own told) label is = is
advertised_owned (Withdrawing own) label is = clash is

-- a label that is named with the wire itself is old
old_label : (pw_id : ℕ) (next : ℕ → Bool) (near : LocalPart) (named : Option ℕ) (label : ℕ) → named ≡ Some pw_id → names_old pw_id next near named (Some label) ≡ true
    → has_advertised near label ≡ false
old_label pw_id next near named label is old =
    let own : not (nat_eq pw_id pw_id) || is_old next near label ≡ true = rw is at old in
    not-true (has_advertised near label) (second_holds (next label) (not (has_advertised near label)) (rw (same_number pw_id) at own))

-- and there is one
some_label : {P : Type 0} (pw_id : ℕ) (next : ℕ → Bool) (near : LocalPart) (named : Option ℕ) → named ≡ Some pw_id → names_old pw_id next near named None ≡ true → P
some_label pw_id next near named is old =
    let none : false ≡ true = rw is at old in
    clash none

module _ (plan : Plan) (checked : IsChecked plan) (a b : ℕ) (one other : EdgeState) (placed : one.me ≡ record { 0 = a }) where
  -- the Label Releases of each wire between the two are of old labels
  abbrev OfOldLabels : Message → Type 0
  OfOldLabels m = (wire : WireId) (row : WirePlan) → wire_row plan wire ≡ Some row → joins a b row.path ≡ true → releases_old row.pw_id (given_of one) (one.ends wire.0 b).local m ≡ true

  -- whoever owns the label is the end that it is named with
  module _ (fec : PwFec) (label : ℕ) (told : NamesTold plan a b fec) (old : names_old told.row.pw_id (given_of one) (one.ends told.wire.0 b).local fec.pw_id (Some label) ≡ true) where
    named : fec.pw_id ≡ Some told.row.pw_id
    named = ap (λ (f : PwFec). f.pw_id) told.bare

    by_place : (found : Option EndPlace) → end_named plan one.me (record { 0 = b }) told.row.pw_id ≡ found → MayNameAt one b found label → (wire peer : ℕ)
        → has_advertised (one.ends wire peer).local label ≡ false
    by_place None is may wire peer = absurd may
    by_place (Some place) is may wire peer = elim (cases_Bool (has_advertised (one.ends wire peer).local label)) [
      | inl so ↦
          (let at = may.owner wire peer (advertised_owned (one.ends wire peer).local label so) in
          let same : place.wire ≡ told.wire = wire_named plan (record { 0 = a }) (record { 0 = b }) told.row.pw_id place told.wire told.row checked told.is told.joined
          (sym (ap (λ (m : EdgeId). end_named plan m (record { 0 = b }) told.row.pw_id) placed) ∙ is) (same_number told.row.pw_id) in
          let there : has_advertised (one.ends told.wire.0 b).local label ≡ true =
          subst (λ (k : ℕ). has_advertised (one.ends told.wire.0 k).local label ≡ true) at.1
          (subst (λ (w : ℕ). has_advertised (one.ends w peer).local label ≡ true) (at.0 ∙ ap (λ (w : WireId). w.0) same) so) in
          clash_at (has_advertised (one.ends told.wire.0 b).local label) there (old_label told.row.pw_id (given_of one) (one.ends told.wire.0 b).local fec.pw_id label named old))
      | inr not_so ↦ not_so
    ]

    unadvertised : MayNameAt one b (end_of_fec plan one (record { 0 = b }) fec) label → (wire peer : ℕ) → has_advertised (one.ends wire peer).local label ≡ false
    unadvertised may =
        by_place (end_named plan one.me (record { 0 = b }) told.row.pw_id) refl
        (subst (λ (n : Option ℕ). MayNameAt one b (option_and_then (end_named plan one.me (record { 0 = b })) n) label) named may)

  by_label : (id : ℕ) (fec : PwFec) (label : Option ℕ) → IsRuled plan b a other one (LabelRelease id fec label) → OfOldLabels (LabelRelease id fec label)
      → NamesUnadvertised one (LabelRelease id fec label)
  by_label id fec None ruled old =
      let told : NamesTold plan a b fec = tells_plan plan b a (LabelRelease id fec None) ruled.tells in
      some_label told.row.pw_id (given_of one) (one.ends told.wire.0 b).local fec.pw_id (ap (λ (f : PwFec). f.pw_id) told.bare) (old told.wire told.row told.is told.joined)
  by_label id fec (Some label) ruled old =
      let told : NamesTold plan a b fec = tells_plan plan b a (LabelRelease id fec (Some label)) ruled.tells in
      unadvertised fec label told (old told.wire told.row told.is told.joined) ruled.far

  one_named : (m : Message) → IsRuled plan b a other one m → OfOldLabels m → NamesUnadvertised one m
  one_named (LabelRelease id fec label) ruled old = by_label id fec label ruled old
  one_named m ruled old = tt

  all_named : (messages : List Message) → AllMessages (IsRuled plan b a other one) messages
      → ((wire : WireId) (row : WirePlan) → wire_row plan wire ≡ Some row → joins a b row.path ≡ true → all_messages (releases_old row.pw_id (given_of one) (one.ends wire.0 b).local) messages ≡ true)
      → AllMessages (NamesUnadvertised one) messages
  all_named [] ruled old = tt
  all_named (m ∷ messages) ruled old = (
    one_named m ruled.0 (λ wire row is joined. first_holds (releases_old row.pw_id (given_of one) (one.ends wire.0 b).local m)
        (all_messages (releases_old row.pw_id (given_of one) (one.ends wire.0 b).local) messages) (old wire row is joined)),
    all_named messages ruled.1 (λ wire row is joined. second_holds (releases_old row.pw_id (given_of one) (one.ends wire.0 b).local m)
        (all_messages (releases_old row.pw_id (given_of one) (one.ends wire.0 b).local) messages) (old wire row is joined)),
  )

pub runs_release_unadvertised : RunsReleaseUnadvertised
runs_release_unadvertised plan events run a b both =
    let network : NetworkState = network_after plan events in
    let ordered : IsOrdered plan network = run_ordered plan events run in
    let ruled : IsRuledNetwork plan network = run_ruled plan events run in
    let apart : nat_eq a b ≡ false = both_apart plan network a b ordered both.one in
    let turned : nat_eq b a ≡ false = apart_back a b apart in
    let comes : RulesTo plan b a (network.edges b) (network.edges a) (flight network b a) = (ruled.two b a turned).0 in
    let said : AreOnWay plan network b a comes.messages = messages_said plan network b a turned ordered ruled in
    let pair : ArePaired (ends_at plan a b) (ends_at plan b a) ((network.edges a).peering b) ((network.edges b).peering a) (flight network a b) (flight network b a) = ordered.two a b apart in
    let bound : AreBound plan a b (network.edges a) (network.edges b) pair.messages comes.messages =
    (run_bounds plan events run a b apart).bound pair.messages comes.messages pair.talk.said said.said pair.out_is said.octets both.one both.other in
    record {
      back = comes.messages;
      comes = said;
      named = all_named plan run.checked a b (network.edges a) (network.edges b) (ruled.edges a).place comes.messages comes.ruled (λ wire row is joined. (bound.near wire row is joined).released);
    }
