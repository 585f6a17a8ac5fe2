-- An edge that hears octets of a neighbour goes on to heal.
use Rattle.pw_signalling.specs.declared.binding.Binding.{Binding}
use Rattle.pw_signalling.specs.End.{EndState}
use Rattle.edge_model.specs.Labels.{label_to_give}
use Rattle.net_base.specs.plan.Places.{wire_row}
use Rattle.net_base.specs.plan.Paths.{mate}
use Rattle.net_base.specs.declared.plan.wire_plan.WirePlan.{WirePlan}
use Rattle.flight_laws.specs.Across.{IsMappingTaken, TakesAll, TellsAcross}
use Rattle.move_laws.proofs.GoesOnLemmas.{tells_go_on}
use Rattle.move_laws.proofs.StuckLemmas.{stuck_on}
use Rattle.move_laws.proofs.LastLemmas.{mends_hold}
use Rattle.pw_messages.specs.Sender.{platform_of}
use Rattle.address_laws.specs.Sites.{Sites}
use Rattle.edge_model.proofs.MendLemmas.{SpeaksOn, clears_not, having_spoken_times, mends_speaks}
use Rattle.edge_model.specs.Hear.{acts, hears_few, hears_one, holds, octets_input, was_up}
use Rattle.edge_model.specs.Mend.{mends, is_operational, is_up_with}
use Rattle.edge_model.specs.Session.{clears_ends, comes_of, happens_to, happens_with_ends, is_same_phase, with_session}
use Rattle.edge_model.specs.State.{Peering, is_there, with_peering}
use Rattle.edge_model.specs.Work.{Work, changes, gives}
use Rattle.edge_model.specs.declared.effect.Effect.TheVariants.{Session}
use Rattle.flight_laws.proofs.EventLemmas.{hears_begin}
use Rattle.flight_laws.proofs.HearLemmas.{HearsOn, hears_kept}
use Rattle.flight_laws.proofs.HearingLemmas.{HasHeard, KeptByHearing, KeptByMessages, few_heard, message_heard, one_heard}
use Rattle.flight_laws.proofs.NameLemmas.{split}
use Rattle.flight_laws.proofs.SaidLemmas.{said_sender}
use Rattle.flight_laws.proofs.SoundLemmas.{happens_sound}
use Rattle.flight_laws.proofs.UniqueLemmas.{said_once}
use Rattle.flight_laws.proofs.WorkLemmas.{with_peering_spares}
use Rattle.flight_laws.specs.Ends.{HasTypes, IsOrdered, ends_at}
use Rattle.flight_laws.specs.Facts.{flight}
use Rattle.flight_laws.specs.Messages.{IsSaidAcross, octets_of_all}
use Rattle.flight_laws.specs.Pair.{ArePaired, AreTalking}
use Rattle.flight_laws.specs.Rules.{AllMessages}
use Rattle.flight_laws.specs.Sound.{TellsSoundly, point_limit}
use Rattle.flight_laws.proofs.CommonLemmas.{platform_is}
use Rattle.ldp_grammar.specs.declared.ldp_id.LdpId.{LdpId}
use Rattle.ldp_grammar.specs.declared.message.Message.{Message}
use Rattle.move_laws.proofs.ForgetLemmas.{forgets_none}
use Rattle.move_laws.proofs.HearHealLemmas.{HearsHealing, MeshesTo, event_heals, message_heals}
use Rattle.move_laws.proofs.LiveLemmas.{mends_live}
use Rattle.move_laws.proofs.MendHealLemmas.{heals_on, mends_heal, hear_same}
use Rattle.move_laws.proofs.SettleHealLemmas.{begin_heals, there_some}
use Rattle.move_laws.proofs.JoinLemmas.{joined_back}
use Rattle.move_laws.proofs.SpeakLemmas.{Speaks, mesh_same, mildly_spared, speaks_first, spokes_same}
use Rattle.move_laws.proofs.StayLemmas.{speaks_on}
use Rattle.move_laws.specs.Clearing.{IsMild, IsOnward}
use Rattle.move_laws.specs.Healing.{HasWays, Heals, IsAtLive, IsHealing, IsMet, Lasts, LeavesToHear, SaysMore, SpeaksMildly, TellsChoice, ToHearMildly, advertises_to, is_advertising, is_stuck}
use Rattle.net_base.specs.declared.plan.Plan.{Plan}
use Rattle.net_base.specs.declared.plan.places.EdgeId.{EdgeId}
use Rattle.net_base.specs.declared.plan.places.ServiceId.{ServiceId}
use Rattle.net_base.specs.declared.plan.places.WireId.{WireId}
use Rattle.net_base.specs.plan.Accepted.{IsChecked}
use Rattle.net_base.specs.plan.Roles.{are_joined_by, is_core_edge}
use Rattle.network_model.specs.Absorb.{begin_at, taken_all}
use Rattle.network_model.specs.Connection.{hearing_work}
use Rattle.network_model.specs.State.{NetworkState, held_by, stands, with_pipe}
use Rattle.session_core.specs.Phase as phase
use Rattle.session_core.specs.Session.{phase_name}
use Rattle.session_core.specs.Table.{Goes, Heard, Outcome, Received, outcome_of}
use Rattle.std.proofs.Common.{Bool, List, None, Option, Some, [], ap, append_assoc, cond, drop, false, inl, inr, length, nat_eq, option_map, refl, subst, suc, sym, take, take-append-drop, true, zero, ℕ, ◌++◌, ◌<◌, ◌^◌, ◌∙◌, ◌∷◌, ◌≡◌, ⊎_elim, is_some}
use Rattle.std.proofs.lemmas.Bool.{cases_Bool, eqb-true}
use Rattle.std.specs.List.{AllByRecursion}
use Rattle.net_values.proofs.BoolLemmas.{clash}
use Rattle.net_values.proofs.NumberLemmas.{same_number, apart_back}
use Rattle.flood_laws.proofs.ChainLemmas.{has_end}

-- ---- what is kept for the peer becomes something else

module _ (plan : Plan) (service : ServiceId) (network : NetworkState) (me peer : EdgeId) (there : stands network me.0 peer.0 ≡ true) where
  -- the session goes on as it was
  pub record IsStill (kept now : Peering) : Type 0 where
    pub phase : now.session.phase ≡ kept.session.phase
    pub peers : now.session.peers ≡ kept.session.peers
    pub number : now.next_id ≡ kept.next_id

  pub kept_speaks : (base : Work) (kept now : Peering) (work : Work) → work.edge.peering peer.0 ≡ Some kept → IsStill kept now
      → TellsSoundly (point_limit plan me.0) (changes (with_peering peer (Some now)) work).edge → Speaks plan service network me peer.0 base work
      → Speaks plan service network me peer.0 base (changes (with_peering peer (Some now)) work)
  unfolding changes with_peering
  kept_speaks base kept now work at still sound speaks = record {
    place = speaks.place;
    sound = sound;
    speaks = λ place joined stood. split {P = SpeaksMildly plan service network me.0 peer.0 place new (advertises_to new.edge place)} (nat_eq place peer.0)
        (λ is. subst (λ (k : ℕ). SpeaksMildly plan service network me.0 peer.0 k new (advertises_to new.edge k)) (sym (eqb-true place peer.0 is))
        (here (subst (λ (k : ℕ). SpeaksMildly plan service network me.0 peer.0 k work (advertises_to work.edge k)) (eqb-true place peer.0 is) (speaks.speaks place joined stood))))
        (λ away. mildly_spared plan service network me peer.0 place work new (advertises_to work.edge place) (advertises_to new.edge place) (with_peering_spares place peer (Some now) work away)
        (λ wire row onward. refl) (speaks.speaks place joined stood));
    apart = λ place joined gone. split {P = new.edge.peering place ≡ None} (nat_eq place peer.0)
        (λ is. clash (sym (ap (λ (k : ℕ). stands network me.0 k) (sym (eqb-true place peer.0 is)) ∙ gone) ∙ there))
        (λ away. (with_peering_spares place peer (Some now) work away).kept ∙ speaks.apart place joined gone);
    mesh = mesh_same plan service me.0 work.edge new.edge refl refl refl speaks.mesh;
    spokes = spokes_same plan service network me work.edge new.edge refl refl refl speaks.spokes;
    more = λ place joined stood. more_again place (speaks.more place joined stood);
  }
    where
      new : Work
      new = changes (with_peering peer (Some now)) work

      same_kept : (a b : Peering) → Some a ≡ Some b → a ≡ b
      same_kept a b e = cc

      here : SpeaksMildly plan service network me.0 peer.0 peer.0 work (advertises_to work.edge peer.0) → SpeaksMildly plan service network me.0 peer.0 peer.0 new (advertises_to new.edge peer.0)
      here old = record {
        kept = now;
        at = rw (same_number peer.0) refl;
        up = still.phase ∙ (ap (λ (k : Peering). k.session.phase) (same_kept kept old.kept (sym at ∙ old.at)) ∙ old.up);
        peers = still.peers ∙ (ap (λ (k : Peering). k.session.peers) (same_kept kept old.kept (sym at ∙ old.at)) ∙ old.peers);
        numbered = subst (λ (n : ℕ). n < 2 ^ 32) (sym (still.number ∙ ap (λ (k : Peering). k.next_id) (same_kept kept old.kept (sym at ∙ old.at)))) old.numbered;
        held_still = λ other. clash (sym other ∙ same_number peer.0);
        unclosed = old.unclosed;
        messages = old.messages;
        is = old.is;
        said = old.said;
        mild = old.mild;
        met = old.met;
      }

      more_again : (place : ℕ) → SaysMore plan me.0 place base work → SaysMore plan me.0 place base new
      more_again place more = record { more = more.more; is = more.is; said = more.said }

-- the choice and what was learned are as they were
kept_chosen : (peer : EdgeId) (now : Option Peering) (work : Work) → ((changes (with_peering peer now) work).edge.chosen ≡ work.edge.chosen)
    × ((changes (with_peering peer now) work).edge.learned ≡ work.edge.learned)
unfolding changes with_peering
kept_chosen peer now work = (refl, refl)

-- and so are ends, wires, labels and failure bits
kept_rest : (peer : EdgeId) (now : Option Peering) (work : Work) → ((changes (with_peering peer now) work).edge.ends ≡ work.edge.ends) ×
    ((changes (with_peering peer now) work).edge.wire_on ≡ work.edge.wire_on)
    × ((changes (with_peering peer now) work).edge.bits ≡ work.edge.bits) × (label_to_give (changes (with_peering peer now) work).edge ≡ label_to_give work.edge)
unfolding changes with_peering
kept_rest peer now work = (refl, refl, refl, refl)

kept_else : (peer : EdgeId) (now : Option Peering) (work : Work) (k : ℕ) → nat_eq k peer.0 ≡ false → (changes (with_peering peer now) work).edge.peering k ≡ work.edge.peering k
unfolding changes with_peering
kept_else peer now work k away = rw away refl

kept_here : (peer : EdgeId) (now : Peering) (work : Work) → (changes (with_peering peer (Some now)) work).edge.peering peer.0 ≡ Some now
unfolding changes with_peering
kept_here peer now work = rw (same_number peer.0) refl

-- the sender of a PDU is known, in a session that is up
heard_is : (peer : EdgeId) (sender : LdpId) (kept : Peering) (work : Work) → work.edge.peering peer.0 ≡ Some kept → kept.session.phase ≡ phase.Operational
    → outcome_of kept.session (Heard sender) ≡ Goes (record kept.session { wait = 0 }) []
    → happens_with_ends taken_all peer (Heard sender) work ≡ changes (with_peering peer (Some (with_session (record kept.session { wait = 0 }) kept))) work
heard_is peer sender kept work at up goes =
    ap (clears_ends peer) (ap (λ (o : Option Peering). happens_to taken_all peer (Heard sender) o work) at
    ∙ (ap (λ (o : Outcome). comes_of taken_all peer kept o work) goes ∙ ap (λ (b : Bool). cond b new (gives (Session peer (phase_name kept.session.phase)) new)) same))
    ∙ clears_not peer new (ap is_there (kept_here peer (with_session (record kept.session { wait = 0 }) kept) work))
  where
    new : Work
    new = changes (with_peering peer (Some (with_session (record kept.session { wait = 0 }) kept))) work

    same : is_same_phase kept.session.phase kept.session.phase ≡ true
    same = rw up refl

held_sound : (limit : ℕ → ℕ) (peer : EdgeId) (rest : List ℕ) (kept : Peering) (work : Work) → work.edge.peering peer.0 ≡ Some kept → TellsSoundly limit work.edge
    → TellsSoundly limit (changes (with_peering peer (Some (record kept { held = rest }))) work).edge
unfolding changes with_peering
held_sound limit peer rest kept work at sound = record {
  least = sound.least;
  most = sound.most;
  kept = sound.kept;
  bits = sound.bits;
  ends = λ wire k. elim (cases_Bool (nat_eq k peer.0)) [
    | inl same ↦ rw same (rw (eqb-true k peer.0 same) (rw at at (sound.ends wire peer.0)))
    | inr away ↦ rw away (sound.ends wire k)
  ];
}

-- ---- what each state of a run has

-- what switching points tell is what they hold, and no mapping is refused
pub record HasTellers (plan : Plan) (network : NetworkState) : Type 0 where
  pub across : (me from to : EdgeId) (wire : WireId) (row : WirePlan) → wire_row plan wire ≡ Some row → mate row me.0 from.0 ≡ Some to → TellsAcross plan me from to wire row (network.edges me.0)
  pub taken : (from to : ℕ) → nat_eq from to ≡ false → TakesAll plan network from to

-- ---- octets

-- it has mended, and these messages are still to hear
pub record HasHealed (plan : Plan) (service : ServiceId) (site : Sites) (network : NetworkState) (me peer : EdgeId) (more : List ℕ) (work : Work) : Type 0 where
  pub later : List Message
  pub heals : IsHealing plan service site network me peer.0 later work
  pub live : AllByRecursion (IsAtLive plan service me.0 work.edge) (work.edge.learned service.0)
  pub met : are_joined_by plan service peer.0 me.0 ≡ true → stands network peer.0 me.0 ≡ true → (wire : WireId) (row : WirePlan) → IsOnward plan service network peer.0 me.0 wire row
      → IsMet row.pw_id (is_some (work.edge.ends wire.0 peer.0).remote) later (is_advertising ((network.edges peer.0).ends wire.0 me.0).local)
  pub left : are_joined_by plan service peer.0 me.0 ≡ true → stands network peer.0 me.0 ≡ true → LeavesToHear plan service network me.0 peer.0 later (held_by (work.edge.peering peer.0) ++ more)

module _ (plan : Plan) (service : ServiceId) (site : Sites) (calm network : NetworkState) (me peer : EdgeId) (count : ℕ) (checked : IsChecked plan) (types : HasTypes plan)
    (ordered : IsOrdered plan network) (tells : HasTellers plan network)
    (heals : Heals plan service site calm network) (away : nat_eq peer.0 me.0 ≡ false) (there : stands network me.0 peer.0 ≡ true)
    (stand : (core : ℕ) → is_core_edge plan service core ≡ true → nat_eq core me.0 ≡ false → is_core_edge plan service me.0 ≡ true → MeshesTo plan service me.0 core) where
  abbrev pub pipe : List ℕ
  pipe = network.pipes peer.0 me.0

  abbrev later_network : NetworkState
  later_network = with_pipe peer me (drop count pipe) network

  abbrev Hearing : List Message → Work → Type 0
  Hearing messages work = HearsOn plan later_network me peer messages work

  abbrev Both : List Message → Work → Type 0
  Both messages work = Hearing messages work × HearsHealing plan service site network me peer.0 messages work

  hearing : KeptByHearing plan me peer (ends_at plan peer.0 me.0) Hearing
  hearing = hears_kept plan later_network me peer (apart_back peer.0 me.0 away) checked types

  ways : HasWays plan service network me
  ways place joined stood = (heals.steady me.0 place joined stood).0

  back : are_joined_by plan service me.0 peer.0 ≡ true → stands network peer.0 me.0 ≡ true
  back joined = has_end ((network.edges peer.0).peering me.0) (heals.steady me.0 peer.0 joined there).1.up

  chosen_same : (old new : Work) → new.edge.chosen ≡ old.edge.chosen → TellsChoice plan service network me old new
  chosen_same old new same = record { told = λ wire home spoke chosen. inl (ap (λ (f : ℕ → Option WireId). f service.0) (sym same) ∙ chosen) }

  -- what is kept of the peer says that its session is up, as before
  kept_up : (kept now : Peering) (work : Work) → work.edge.peering peer.0 ≡ Some kept → IsStill plan service network me peer there kept now → (k : ℕ)
      → is_up_with ((changes (with_peering peer (Some now)) work).edge.peering k) ≡ is_up_with (work.edge.peering k)
  kept_up kept now work at still k = split {P = is_up_with ((changes (with_peering peer (Some now)) work).edge.peering k) ≡ is_up_with (work.edge.peering k)} (nat_eq k peer.0)
      (λ is. subst (λ (n : ℕ). is_up_with ((changes (with_peering peer (Some now)) work).edge.peering n) ≡ is_up_with (work.edge.peering n)) (sym (eqb-true k peer.0 is))
      (ap (λ (o : Option Peering). is_up_with o) (kept_here peer now work) ∙ (ap (λ (p : _). is_operational p) still.phase ∙ sym (ap (λ (o : Option Peering). is_up_with o) at))))
      (λ away. ap (λ (o : Option Peering). is_up_with o) (kept_else peer (Some now) work k away))

  kept_stuck : (kept now : Peering) (work : Work) → work.edge.peering peer.0 ≡ Some kept → IsStill plan service network me peer there kept now → (wire k : ℕ)
      → is_stuck work.edge wire k ≡ true → is_stuck (changes (with_peering peer (Some now)) work).edge wire k ≡ true
  kept_stuck kept now work at still wire k =
      let rest = kept_rest peer (Some now) work in
      stuck_on work.edge (changes (with_peering peer (Some now)) work).edge wire k rest.1 (kept_up kept now work at still k) (λ none. rest.3 ∙ none)
      (ap (λ (f : ℕ → ℕ → EndState). (f wire k).local) rest.0)

  kept_lasts : (kept now : Peering) (work : Work) → work.edge.peering peer.0 ≡ Some kept → IsStill plan service network me peer there kept now
      → Lasts plan service me.0 peer.0 work.edge (changes (with_peering peer (Some now)) work).edge
  kept_lasts kept now work at still =
      let rest = kept_rest peer (Some now) work in
      record {
        bits = rest.2;
        remotes = λ wire k away. ap (λ (f : ℕ → ℕ → EndState). (f wire k).remote) rest.0;
        stuck = λ wire k joined. kept_stuck kept now work at still wire k;
      }

  -- something else is kept for the peer
  kept_heals : (messages : List Message) (kept now : Peering) (work : Work) → work.edge.peering peer.0 ≡ Some kept → IsStill plan service network me peer there kept now
      → TellsSoundly (point_limit plan me.0) (changes (with_peering peer (Some now)) work).edge
      → IsHealing plan service site network me peer.0 messages work → IsHealing plan service site network me peer.0 messages (changes (with_peering peer (Some now)) work)
  kept_heals messages kept now work at still sound healing =
      let new : Work = changes (with_peering peer (Some now)) work in
      let same = kept_chosen peer (Some now) work in
      heals_on plan service site network me peer.0 messages messages work new
      (speaks_on plan service network me peer.0 work new healing.stays
      (kept_speaks plan service network me peer there work kept now work at still sound (speaks_first plan service network me peer.0 work healing.stays)) (kept_lasts kept now work at still)
      (forgets_none service work new same.1))
      (chosen_same work new same.0)
      (hear_same plan service network me.0 peer.0 messages work.edge new.edge (λ wire. ap (λ (f : ℕ → ℕ → EndState). (f wire peer.0).remote) (kept_rest peer (Some now) work).0)) healing

  kept_hears : (messages : List Message) (kept now : Peering) (work : Work) → work.edge.peering peer.0 ≡ Some kept → IsStill plan service network me peer there kept now
      → TellsSoundly (point_limit plan me.0) (changes (with_peering peer (Some now)) work).edge
      → HearsHealing plan service site network me peer.0 messages work → HearsHealing plan service site network me peer.0 messages (changes (with_peering peer (Some now)) work)
  kept_hears messages kept now work at still sound hears =
      let rest = kept_rest peer (Some now) work in
      record {
        heals = kept_heals messages kept now work at still sound hears.heals;
        mild = hears.mild;
        met = λ joined stood wire row onward. subst (λ (f : ℕ → ℕ → EndState). IsMet row.pw_id (is_some (f wire.0 peer.0).remote) messages
            (is_advertising ((network.edges peer.0).ends wire.0 me.0).local))
            (sym rest.0) (hears.met joined stood wire row onward);
        taken = hears.taken;
        goes_on = λ wire row from to onward mated held. ⊎_elim
            (λ (told : is_advertising (work.edge.ends wire.0 to.0).local ≡ true). inl (ap (λ (f : ℕ → ℕ → EndState). is_advertising (f wire.0 to.0).local) rest.0 ∙ told))
            (λ (stuck : is_stuck work.edge wire.0 to.0 ≡ true). inr (kept_stuck kept now work at still wire.0 to.0 stuck))
            (hears.goes_on wire row from to onward mated (ap (λ (f : ℕ → ℕ → EndState). is_some (f wire.0 from.0).remote) (sym rest.0) ∙ held));
      }

  sender_heals : (messages : List Message) (work : Work) → Both messages work
      → HearsHealing plan service site network me peer.0 messages (happens_with_ends taken_all peer (Heard (platform_of (ends_at plan peer.0 me.0).me)) work)
  sender_heals messages work both = by (are_joined_by plan service me.0 peer.0) refl where
    up_here : are_joined_by plan service me.0 peer.0 ≡ true
        → HearsHealing plan service site network me peer.0 messages (happens_with_ends taken_all peer (Heard (platform_of (ends_at plan peer.0 me.0).me)) work)
    up_here joined =
        let mildly = both.1.heals.stays.speaks peer.0 joined there in
        let talk : AreTalking (ends_at plan me.0 peer.0) (ends_at plan peer.0 me.0) (Some mildly.kept) ((later_network.edges peer.0).peering me.0) both.0.meets.messages messages =
        rw (mildly.at) at both.0.meets.talk in
        let goes : outcome_of mildly.kept.session (Heard (platform_of (ends_at plan peer.0 me.0).me)) ≡ Goes (record mildly.kept.session { wait = 0 }) [] =
        said_sender mildly.kept.session (ends_at plan peer.0 me.0).me (platform_is (ends_at plan me.0 peer.0) (ends_at plan peer.0 me.0) mildly.kept talk.here) in
        let is = heard_is peer (platform_of (ends_at plan peer.0 me.0).me) mildly.kept work mildly.at mildly.up goes in
        subst (HearsHealing plan service site network me peer.0 messages) (sym is)
        (kept_hears messages mildly.kept (with_session (record mildly.kept.session { wait = 0 }) mildly.kept) work mildly.at (record { phase = refl; peers = refl; number = refl })
        (subst (λ (w : Work). TellsSoundly (point_limit plan me.0) w.edge) is
        (happens_sound taken_all peer (Heard (platform_of (ends_at plan peer.0 me.0).me)) work both.1.heals.stays.sound)) both.1)

    not_here : are_joined_by plan service me.0 peer.0 ≡ false
        → HearsHealing plan service site network me peer.0 messages (happens_with_ends taken_all peer (Heard (platform_of (ends_at plan peer.0 me.0).me)) work)
    not_here apart =
        let event = event_heals plan service site network me peer checked types ways (Heard (platform_of (ends_at plan peer.0 me.0).me)) messages work apart
        (happens_sound taken_all peer (Heard (platform_of (ends_at plan peer.0 me.0).me)) work both.1.heals.stays.sound) both.1.heals in
        record {
          heals = event.heals;
          mild = both.1.mild;
          met = λ joined stood wire row onward. clash (sym apart ∙ joined_back plan service peer.0 me.0 joined);
          taken = both.1.taken;
          goes_on = event.goes_on both.1.goes_on;
        }

    by : (b : Bool) → are_joined_by plan service me.0 peer.0 ≡ b
        → HearsHealing plan service site network me peer.0 messages (happens_with_ends taken_all peer (Heard (platform_of (ends_at plan peer.0 me.0).me)) work)
    by true joined = up_here joined
    by false apart = not_here apart

  hears_sound : (m : Message) (messages : List Message) (work : Work) → IsSaidAcross (ends_at plan peer.0 me.0) m → Hearing (m ∷ messages) work
      → TellsSoundly (point_limit plan me.0) (hears_one plan taken_all peer m work).edge
  hears_sound m messages work said hears = by (work.edge.peering peer.0) refl where
    by : (near : Option Peering) → work.edge.peering peer.0 ≡ near → TellsSoundly (point_limit plan me.0) (hears_one plan taken_all peer m work).edge
    by None at = subst (λ (b : Bool). TellsSoundly (point_limit plan me.0) (acts plan taken_all peer m b (happens_with_ends taken_all peer (Received m) work)).edge)
        (sym (ap was_up at)) (happens_sound taken_all peer (Received m) work hears.sound)
    by (Some kept) at = (one_heard plan me peer (ends_at plan peer.0 me.0) Hearing hearing m messages kept work at said hears).sound

  both_kept : KeptByMessages plan peer (ends_at plan peer.0 me.0) Both
  both_kept =
      let base : KeptByMessages plan peer (ends_at plan peer.0 me.0) Hearing = message_heard plan me peer (ends_at plan peer.0 me.0) Hearing hearing in
      record {
        window = λ messages kept work at both. base.window messages kept work at both.0;
        sender = λ messages work both. (base.sender messages work both.0, sender_heals messages work both);
        message = λ m messages work said others both. (
          base.message m messages work said others both.0,
          message_heals plan service site network me peer checked types ways m messages work stand back there said (happens_sound taken_all peer (Received m) work both.0.sound)
              (hears_sound m messages work said both.0) both.1,
        );
      }

  -- the octets that are no whole message yet
  holds_hear : (messages : List Message) (rest : List ℕ) (work : Work) → Both messages work → rest ++ drop count pipe ≡ octets_of_all (ends_at plan peer.0 me.0).me messages
      → HearsHealing plan service site network me peer.0 messages (holds peer rest (work.edge.peering peer.0) work)
  holds_hear messages rest work both behind = by (work.edge.peering peer.0) refl where
    by : (near : Option Peering) → work.edge.peering peer.0 ≡ near → HearsHealing plan service site network me peer.0 messages (holds peer rest near work)
    by None at = both.1
    by (Some kept) at = kept_hears messages kept (record kept { held = rest }) work at (record { phase = refl; peers = refl; number = refl })
        (held_sound (point_limit plan me.0) peer rest kept work at both.0.sound) both.1

  held_times : (n : ℕ) (kept : Peering) → (having_spoken_times n kept).held ≡ kept.held
  held_times zero kept = refl
  held_times (suc n) kept = held_times n kept

  -- all that is heard at once
  heard_heals : (result : Work) → HasHeard peer (ends_at plan peer.0 me.0) Both (drop count pipe) result → HasHealed plan service site network me peer (drop count pipe) (mends plan taken_all result)
  heard_heals result heard =
      let hears : HearsHealing plan service site network me peer.0 heard.later result =
      subst (HearsHealing plan service site network me peer.0 heard.later) (sym heard.is) (holds_hear heard.later heard.rest heard.last heard.keeps heard.behind) in
      let healing : IsHealing plan service site network me peer.0 heard.later result = hears.heals in
      record {
        later = heard.later;
        heals = mends_heal plan service site network me peer.0 heard.later result checked types ways healing;
        met = λ joined stood wire row onward. subst (λ (o : Option Binding). IsMet row.pw_id (is_some o) heard.later (is_advertising ((network.edges peer.0).ends wire.0 me.0).local))
            (sym ((mends_hold plan me result healing.stays.place).held wire.0 peer.0)) (hears.met joined stood wire row onward);
        live = mends_live plan service me result checked healing.stays.place;
        left = λ joined stood. record {
          is = ap (λ (l : List ℕ). l ++ drop count pipe) (held_is joined) ∙ heard.behind;
          said = heard.said;
          mild = heard.keeps.1.mild;
        };
      }
    where
      held_is : are_joined_by plan service peer.0 me.0 ≡ true → held_by ((mends plan taken_all result).edge.peering peer.0) ≡ heard.rest
      held_is joined =
          let mildly = heard.keeps.1.heals.stays.speaks peer.0 (joined_back plan service peer.0 me.0 joined) there in
          let now : Peering = record mildly.kept { held = heard.rest } in
          let result_is : result.edge.peering peer.0 ≡ Some now =
          ap (λ (w : Work). w.edge.peering peer.0) (heard.is ∙ ap (λ (o : Option Peering). holds peer heard.rest o heard.last) mildly.at) ∙ kept_here peer now heard.last in
          let speaks : SpeaksOn (result.edge.peering peer.0) ((mends plan taken_all result).edge.peering peer.0) = mends_speaks plan taken_all peer.0 result (λ k. refl) in
          ap held_by (speaks.is ∙ ap (option_map (having_spoken_times speaks.times)) result_is) ∙ held_times speaks.times now

  pub octets_heal : HasHealed plan service site network me peer (drop count pipe) (hearing_work plan network peer me (take count pipe))
  octets_heal = there_some ((network.edges me.0).peering peer.0) there from where
    from : (kept : Peering) → (network.edges me.0).peering peer.0 ≡ Some kept → HasHealed plan service site network me peer (drop count pipe) (hearing_work plan network peer me (take count pipe))
    from kept at =
        subst (HasHealed plan service site network me peer (drop count pipe)) (sym work_is)
        (heard_heals (hears_few plan taken_all peer (suc (length octets)) octets begun)
        (few_heard plan peer (ends_at plan peer.0 me.0) pair.talk.here.between.two Both both_kept (suc (length octets)) octets (drop count pipe) pair.answers begun pair.talk.answered whole (
          hears_begin plan peer me (drop count pipe) network kept ordered away at pair,
          record {
            heals = began;
            mild = mild;
            met = met;
            taken = taken;
            goes_on = tells_go_on plan service network me (network.edges me.0) (λ from to wire row is mated. tells.across me from to wire row is mated) (heals.spokes me);
          },
        )))
      where
        octets : List ℕ
        octets = kept.held ++ take count pipe

        begun : Work
        begun = begin_at network me

        pair : ArePaired (ends_at plan me.0 peer.0) (ends_at plan peer.0 me.0) (Some kept) ((network.edges peer.0).peering me.0) (flight network me.0 peer.0) (kept.held ++ pipe)
        pair = rw at at (ordered.two me.0 peer.0 (apart_back peer.0 me.0 away))

        whole : octets ++ drop count pipe ≡ octets_of_all (ends_at plan peer.0 me.0).me pair.answers
        whole = append_assoc kept.held (take count pipe) (drop count pipe) ∙ ap (λ (l : List ℕ). kept.held ++ l) (take-append-drop count pipe) ∙ pair.back_is

        work_is : hearing_work plan network peer me (take count pipe) ≡ mends plan taken_all (hears_few plan taken_all peer (suc (length octets)) octets begun)
        work_is = ap (λ (o : Option Peering). octets_input plan taken_all peer (take count pipe) o begun) at

        flight_is : flight network peer.0 me.0 ≡ octets_of_all (ends_at plan peer.0 me.0).me pair.answers
        flight_is = ap (λ (o : Option Peering). held_by o ++ pipe) at ∙ pair.back_is

        mild : ToHearMildly plan service network me.0 peer.0 pair.answers
        mild = record {
          mild = λ joined stood.
              let way = (heals.steady peer.0 me.0 joined stood).0.way in
              subst (AllMessages (IsMild plan service network peer.0 me.0))
              (said_once (ends_at plan peer.0 me.0) way.messages pair.answers pair.talk.here.between.two way.said pair.talk.answered (sym way.is ∙ flight_is)) way.mild;
        }

        met : are_joined_by plan service peer.0 me.0 ≡ true → stands network peer.0 me.0 ≡ true → (wire : WireId) (row : WirePlan) → IsOnward plan service network peer.0 me.0 wire row
            → IsMet row.pw_id (is_some ((network.edges me.0).ends wire.0 peer.0).remote) pair.answers (is_advertising ((network.edges peer.0).ends wire.0 me.0).local)
        met joined stood wire row onward =
            let steady = (heals.steady peer.0 me.0 joined stood).0 in
            subst (λ (ms : List Message). IsMet row.pw_id (is_some ((network.edges me.0).ends wire.0 peer.0).remote) ms (is_advertising ((network.edges peer.0).ends wire.0 me.0).local))
            (said_once (ends_at plan peer.0 me.0) steady.way.messages pair.answers pair.talk.here.between.two steady.way.said pair.talk.answered (sym steady.way.is ∙ flight_is))
            (steady.met wire row onward)

        taken : AllMessages (IsMappingTaken plan me.0 peer.0) pair.answers
        taken =
            let all : TakesAll plan network peer.0 me.0 = tells.taken peer.0 me.0 away in
            subst (AllMessages (IsMappingTaken plan me.0 peer.0))
            (said_once (ends_at plan peer.0 me.0) all.messages pair.answers pair.talk.here.between.two all.on_way.said pair.talk.answered (sym all.on_way.octets ∙ flight_is)) all.taken

        began : IsHealing plan service site network me peer.0 pair.answers begun
        began = begin_heals plan service site calm network me peer.0 pair.answers checked ordered heals (λ joined stood. record { is = flight_is; said = pair.talk.answered; mild = mild })
