-- What an edge has done goes into the network, and the network goes on to heal.
use Rattle.pw_signalling.specs.declared.binding.Binding.{Binding}
use Rattle.net_base.specs.declared.plan.places.WireId.{WireId}
use Rattle.flight_laws.specs.Rules.{AllMessages}
use Rattle.move_laws.proofs.MendHealLemmas.{takes_same}
use Rattle.move_laws.proofs.LastLemmas.{lasts_same}
use Rattle.move_laws.proofs.HearingLemmas.{met_joined}
use Rattle.move_laws.proofs.JoinLemmas.{joined_away, joined_back}
use Rattle.address_laws.specs.Points.{PointsToSite}
use Rattle.address_laws.specs.Sites.{Sites}
use Rattle.edge_model.specs.State.{EdgeState, Peering, is_there, put_at}
use Rattle.edge_model.specs.Work.{Work}
use Rattle.flight_laws.proofs.MentionLemmas.{all_more}
use Rattle.flight_laws.proofs.NameLemmas.{split}
use Rattle.flight_laws.proofs.PipeLemmas.{all_apart, all_edges, all_from, all_to}
use Rattle.flight_laws.proofs.SaidLemmas.{all_joined, said-append}
use Rattle.flight_laws.proofs.SettleLemmas.{edge_else, edge_pipes, edge_there}
use Rattle.flight_laws.proofs.UniqueLemmas.{said_once}
use Rattle.flight_laws.proofs.WorkLemmas.{same_end}
use Rattle.flight_laws.proofs.WorksLemmas.{there_up}
use Rattle.flight_laws.specs.Ends.{IsOrdered, ends_at}
use Rattle.flight_laws.specs.Facts.{flight}
use Rattle.flight_laws.specs.Meeting.{closes, said_to}
use Rattle.flight_laws.specs.Messages.{octets_of_all}
use Rattle.flight_laws.specs.Pair.{AreFit, IsStanding, StandsIf}
use Rattle.ldp_grammar.specs.declared.message.Message.{Message}
use Rattle.move_laws.proofs.ForgetLemmas.{all_left, forgets_none}
use Rattle.move_laws.proofs.PendingLemmas.{all_weaker, entry_heals_on, Grows}
use Rattle.move_laws.specs.Clearing.{IsCleared, IsMild, IsMildWay, IsOnward, is_cleared_by, takes_clearing}
use Rattle.move_laws.specs.Healing.{EntryHeals, Heals, IsAtLive, IsHealing, IsMet, IsSeen, IsSteady, IsWithdrawalPending, KeepsMesh, KeepsSpokes, LeavesToHear, OfMesh, OfSpoke, SpeaksMildly, Stays, ToHear, Waits, WasSaid, WorkWays, advertises_to, chosen_in, is_advertising, is_stuck, learned_in, ways_of, work_ways, HealsLive}
use Rattle.net_base.specs.declared.plan.Plan.{Plan}
use Rattle.net_base.specs.declared.plan.places.EdgeId.{EdgeId}
use Rattle.net_base.specs.declared.plan.places.ServiceId.{ServiceId}
use Rattle.net_base.specs.declared.plan.wire_plan.WirePlan.{WirePlan}
use Rattle.net_base.specs.plan.Accepted.{IsChecked}
use Rattle.net_base.specs.plan.Roles.{are_joined_by}
use Rattle.network_model.specs.Absorb.{absorb, absorb_all, begin_at}
use Rattle.network_model.specs.State.{NetworkState, held, held_by, stands, with_edge}
use Rattle.std.proofs.Common.{Bool, List, None, Option, Some, [], ap, append_assoc, cond, false, inl, nat_eq, refl, subst, sym, true, ℕ, ◌&&◌, ◌++◌, ◌∙◌, ◌∷◌, ◌≡◌, is_some}
use Rattle.std.proofs.lemmas.Bool.{eqb-true, and_parts, and_right, and_left}
use Rattle.std.specs.List.{AllByRecursion}
use Rattle.net_values.proofs.BoolLemmas.{clash}
use Rattle.flood_laws.proofs.ChainLemmas.{has_end}

pub none_there : {A : Type 0} (x : Option A) → is_there x ≡ false → x ≡ None
none_there None is = refl
none_there (Some a) is = clash (sym is)

pub there_some : {A : Type 0} {P : Type 0} (x : Option A) → is_there x ≡ true → ((a : A) → x ≡ Some a → P) → P
there_some None is follows = clash is
there_some (Some a) is follows = follows a refl

-- ---- an edge begins

fit_at : (plan : Plan) (network : NetworkState) (a b : ℕ) → IsOrdered plan network → nat_eq a b ≡ false → stands network a b ≡ true → AreFit (ends_at plan a b)
fit_at plan network a b ordered apart there = by ((network.edges a).peering b) there (ordered.two a b apart).talk.here where
  by : (near : Option Peering) → is_there near ≡ true → StandsIf (ends_at plan a b) (ends_at plan b a) near → AreFit (ends_at plan a b)
  by None there stands = clash there
  by (Some kept) there stands = stands.between.one

module _ (plan : Plan) (service : ServiceId) (site : Sites) (calm network : NetworkState) (me : EdgeId) (peer : ℕ) (messages : List Message) (checked : IsChecked plan)
    (ordered : IsOrdered plan network) (heals : Heals plan service site calm network) where
  abbrev Begun : Work
  Begun = begin_at network me

  begin_mildly : (place : ℕ) → are_joined_by plan service me.0 place ≡ true → stands network me.0 place ≡ true
      → SpeaksMildly plan service network me.0 peer place Begun (advertises_to Begun.edge place)
  begin_mildly place joined there =
      there_up ((network.edges me.0).peering place) (SpeaksMildly plan service network me.0 peer place Begun (advertises_to Begun.edge place)) (heals.steady me.0 place joined there).0.up
      (λ kept at up.
      let apart = joined_away plan service me.0 place checked joined in
      let standing : IsStanding (ends_at plan me.0 place) (ends_at plan place me.0) kept =
      subst (StandsIf (ends_at plan me.0 place) (ends_at plan place me.0)) at (ordered.two me.0 place apart).talk.here in
      record {
        kept = kept;
        at = at;
        up = up;
        peers = standing.peers;
        numbered = standing.numbered;
        held_still = λ other. sym (ap held_by at);
        unclosed = refl;
        messages = [];
        is = refl;
        said = tt;
        mild = tt;
        met = λ wire row onward. record { agrees = refl; unbound = refl };
      })

  pub begin_stays : Stays plan service network me peer Begun
  begin_stays = record {
    place = ordered.placed me.0;
    sound = ordered.sound me.0;
    speaks = begin_mildly;
    apart = λ place joined gone. none_there ((network.edges me.0).peering place) gone;
    mesh = heals.mesh me.0;
    spokes = heals.spokes me;
    lasts = lasts_same plan service me.0 peer (network.edges me.0);
    table = (forgets_none service Begun Begun refl).left;
  }

  put_same : {A : Type 0} (f : ℕ → A) (k n : ℕ) → put_at f k (f k) n ≡ f n
  put_same f k n = split {P = put_at f k (f k) n ≡ f n} (nat_eq n k) (λ is. rw is (ap f (sym (eqb-true n k is)))) (λ other. rw other refl)

  module _ (left : are_joined_by plan service peer me.0 ≡ true → stands network peer me.0 ≡ true → LeavesToHear plan service network me.0 peer messages (flight network peer me.0)) where
    begin_way : (a b : ℕ) (wire : WireId) (row : WirePlan) → IsWithdrawalPending plan service network a b wire row → WorkWays plan service network me.0 peer messages Begun a b wire row
    begin_way a b wire row pending = split {P = WorkWays plan service network me.0 peer messages Begun a b wire row} (nat_eq a me.0)
        (λ is. (let same = eqb-true a me.0 is in
        WasSaid pending.seen same (subst (λ (k : ℕ). are_joined_by plan service k b ≡ true) same pending.joined) (subst (λ (k : ℕ). stands network k b ≡ true) same pending.there)
        (rw (same_end (flight network me.0 b)) (subst (λ (k : ℕ). IsCleared plan (network.edges b) k b wire row (flight network k b)) same pending.cleared))))
        (λ away. split {P = WorkWays plan service network me.0 peer messages Begun a b wire row} (nat_eq a peer && nat_eq b me.0)
        (λ both. hear (eqb-true a peer (and_parts (nat_eq a peer) (nat_eq b me.0) both).0) (eqb-true b me.0 (and_parts (nat_eq a peer) (nat_eq b me.0) both).1))
        (λ other. Waits away other pending))
      where
        hear : a ≡ peer → b ≡ me.0 → WorkWays plan service network me.0 peer messages Begun a b wire row
        hear from to =
            let here : IsWithdrawalPending plan service network peer me.0 wire row =
            subst (λ (k : ℕ). IsWithdrawalPending plan service network peer k wire row) to (subst (λ (k : ℕ). IsWithdrawalPending plan service network k b wire row) from pending) in
            let rest = left here.joined here.there in
            let fit : AreFit (ends_at plan peer me.0) = fit_at plan network peer me.0 ordered (joined_away plan service peer me.0 checked here.joined) here.there in
            let same : here.cleared.messages ≡ messages = said_once (ends_at plan peer me.0) here.cleared.messages messages fit here.cleared.said rest.said (sym here.cleared.is ∙ rest.is) in
            ToHear pending.seen from to here.joined here.there
            (subst (λ (ms : List Message). is_cleared_by row.pw_id (takes_clearing (network.edges me.0) row wire.0 peer me.0) ms ≡ true) same here.cleared.among)

    begin_ways : Grows plan service (ways_of plan service network) (work_ways plan service network me.0 peer messages Begun)
    begin_ways = record {
      way = begin_way;
      dead = λ edge wire home spoke dead. record {
        at = dead.at;
        next = dead.next;
        inner = dead.inner;
        follows_it = dead.follows_it;
        stuck = ap (λ (e : EdgeState). is_stuck e wire.0 dead.next) (put_same network.edges me.0 dead.at) ∙ dead.stuck;
      };
      whole = λ edge wire whole. whole;
    }

    pub begin_heals : IsHealing plan service site network me peer messages Begun
    begin_heals = record {
      stays = begin_stays;
      right = λ core is.
          subst (AllByRecursion (EntryHeals plan service site (put_at (chosen_in service network) me.0 (Begun.edge.chosen service.0))
          (work_ways plan service network me.0 peer messages Begun) core)) (sym (put_same (learned_in service network) me.0 core))
          (all_weaker (EntryHeals plan service site (chosen_in service network) (ways_of plan service network) core)
          (EntryHeals plan service site (put_at (chosen_in service network) me.0 (Begun.edge.chosen service.0)) (work_ways plan service network me.0 peer messages Begun) core)
          (learned_in service network core)
          (λ entry. entry_heals_on plan service site (chosen_in service network) (put_at (chosen_in service network) me.0 (Begun.edge.chosen service.0))
          (ways_of plan service network) (work_ways plan service network me.0 peer messages Begun) core entry
          begin_ways (λ edge wire home spoke chosen. inl (sym (put_same (chosen_in service network) me.0 edge) ∙ chosen)))
          (heals.right core is));
    }

-- ---- the work goes into the network

-- nothing but what is on its way from the peer, and the edge at work, is another one
pub record IsDrawn (network drawn : NetworkState) (peer me : ℕ) : Type 0 where
  pub edges : (a : ℕ) → nat_eq a me ≡ false → drawn.edges a ≡ network.edges a
  pub pipes : (a b : ℕ) → nat_eq a peer && nat_eq b me ≡ false → drawn.pipes a b ≡ network.pipes a b

said_behind : (far : Option Peering) (pipe said : List ℕ) → is_there far ≡ true → held_by far ++ cond (is_there far) (pipe ++ said) pipe ≡ (held_by far ++ pipe) ++ said
said_behind None pipe said there = clash there
said_behind (Some kept) pipe said there = sym (append_assoc kept.held pipe said)

module _ (plan : Plan) (service : ServiceId) (site : Sites) (calm network drawn : NetworkState) (me : EdgeId) (peer : ℕ) (later : List Message) (work : Work) (checked : IsChecked plan)
    (same : IsDrawn network drawn peer me.0)
    (heals : Heals plan service site calm network) (done : IsHealing plan service site network me peer later work)
    (live : AllByRecursion (IsAtLive plan service me.0 work.edge) (work.edge.learned service.0))
    (alive : (a : ℕ) → nat_eq a me.0 ≡ false → AllByRecursion (IsAtLive plan service a (network.edges a)) (learned_in service network a))
    (left : are_joined_by plan service peer me.0 ≡ true → stands network peer me.0 ≡ true → LeavesToHear plan service network me.0 peer later
    (held_by (work.edge.peering peer) ++ drawn.pipes peer me.0))
    (met_left : are_joined_by plan service peer me.0 ≡ true → stands network peer me.0 ≡ true → (wire : WireId) (row : WirePlan) → IsOnward plan service network peer me.0 wire row
    → IsMet row.pw_id (is_some (work.edge.ends wire.0 peer).remote) later (is_advertising ((network.edges peer).ends wire.0 me.0).local)) where
  abbrev Begin : NetworkState
  Begin = with_edge me work.edge drawn

  abbrev After : NetworkState
  After = absorb_all me 0 0 work.effects Begin

  edges : After.edges ≡ Begin.edges
  edges = all_edges me 0 0 work.effects Begin

  own_edge : After.edges me.0 ≡ work.edge
  own_edge = ap (λ (f : ℕ → EdgeState). f me.0) edges ∙ edge_there me work.edge drawn

  other_edge : (a : ℕ) → nat_eq a me.0 ≡ false → After.edges a ≡ network.edges a
  other_edge a away = ap (λ (f : ℕ → EdgeState). f a) edges ∙ (edge_else me work.edge drawn a away ∙ same.edges a away)

  other_flight : (a b : ℕ) → nat_eq a me.0 ≡ false → nat_eq b me.0 ≡ false → flight After a b ≡ flight network a b
  other_flight a b away gone = rw (
    other_edge b gone,
    all_apart me 0 0 a b work.effects Begin away gone,
    edge_pipes me work.edge drawn,
    same.pipes a b (and_right (nat_eq a peer) (nat_eq b me.0) gone),
  ) refl

  out_flight : (place : ℕ) → nat_eq place me.0 ≡ false → stands network place me.0 ≡ true → flight After me.0 place ≡ flight network me.0 place ++ said_to place work.effects
  out_flight place away there =
      rw (
        other_edge place away,
        all_from me 0 0 place work.effects Begin away,
        edge_else me work.edge drawn place away,
        same.edges place away,
        edge_pipes me work.edge drawn,
        same.pipes me.0 place (and_right (nat_eq me.0 peer) (nat_eq place me.0) away),
      )
      (said_behind ((network.edges place).peering me.0) (network.pipes me.0 place) (said_to place work.effects) there)

  back_flight : (place : ℕ) → nat_eq place me.0 ≡ false → closes place work.effects ≡ false → flight After place me.0 ≡ held_by (work.edge.peering place) ++ drawn.pipes place me.0
  back_flight place away unclosed = rw (own_edge, all_to me 0 0 place work.effects Begin away, unclosed, edge_pipes me work.edge drawn) refl

  -- failure bits stay, so spokes that are whole are the same
  bits_after : (a : ℕ) → (After.edges a).bits ≡ (network.edges a).bits
  bits_after a = split {P = (After.edges a).bits ≡ (network.edges a).bits} (nat_eq a me.0)
      (λ is. ap (λ (k : ℕ). (After.edges k).bits) (eqb-true a me.0 is) ∙ (ap (λ (e : EdgeState). e.bits) own_edge ∙
      (done.stays.lasts.bits ∙ ap (λ (k : ℕ). (network.edges k).bits) (sym (eqb-true a me.0 is)))))
      (λ away. ap (λ (e : EdgeState). e.bits) (other_edge a away))

  onward_before : (a b : ℕ) (wire : WireId) (row : WirePlan) → IsOnward plan service After a b wire row → IsOnward plan service network a b wire row
  onward_before a b wire row onward = record {
    is = onward.is;
    edge = onward.edge;
    from = onward.from;
    whole = ap (λ (f : ℕ → ℕ). f wire.0) (sym (bits_after onward.edge)) ∙ onward.whole;
    next = onward.next;
  }

  onward_after : (a b : ℕ) (wire : WireId) (row : WirePlan) → IsOnward plan service network a b wire row → IsOnward plan service After a b wire row
  onward_after a b wire row onward = record {
    is = onward.is;
    edge = onward.edge;
    from = onward.from;
    whole = ap (λ (f : ℕ → ℕ). f wire.0) (bits_after onward.edge) ∙ onward.whole;
    next = onward.next;
  }

  mild_after : (a b : ℕ) (m : Message) → IsMild plan service network a b m → IsMild plan service After a b m
  mild_after a b m mild = record {
    plain = mild.plain;
    labels = mild.labels;
    onward = λ wire row onward. mild.onward wire row (onward_before a b wire row onward);
    back = λ wire row onward. mild.back wire row (onward_before b a wire row onward);
  }

  all_mild : (a b : ℕ) (ms : List Message) → AllMessages (IsMild plan service network a b) ms → AllMessages (IsMild plan service After a b) ms
  all_mild a b [] all = tt
  all_mild a b (m ∷ ms) all = (mild_after a b m all.0, all_mild a b ms all.1)

  seen_after : (a b : ℕ) (wire : WireId) (row : WirePlan) → IsSeen plan service network a b wire row → IsSeen plan service After a b wire row
  seen_after a b wire row (OfMesh mesh) = OfMesh mesh
  seen_after a b wire row (OfSpoke onward) = OfSpoke (onward_after a b wire row onward)

  -- of a place that is not the peer
  still_flight : (place : ℕ) → nat_eq place me.0 ≡ false → nat_eq place peer ≡ false → SpeaksMildly plan service network me.0 peer place work (advertises_to work.edge place)
      → flight After place me.0 ≡ flight network place me.0
  still_flight place away other mildly =
      back_flight place away mildly.unclosed
      ∙ (ap (λ (o : Option Peering). held_by o ++ drawn.pipes place me.0) mildly.at
      ∙ (ap (λ (l : List ℕ). l ++ drawn.pipes place me.0) (mildly.held_still other)
      ∙ ap (λ (l : List ℕ). held network me.0 place ++ l) (same.pipes place me.0 (and_left (nat_eq place peer) (nat_eq me.0 me.0) other))))

  -- a place with which the session is up
  record IsNear (place : ℕ) : Type 0 where
    joined : are_joined_by plan service me.0 place ≡ true
    there : stands network me.0 place ≡ true
    away : nat_eq place me.0 ≡ false
    steady : IsSteady plan service network me.0 place
    back : IsSteady plan service network place me.0
    mildly : SpeaksMildly plan service network me.0 peer place work (advertises_to work.edge place)

  near : (place : ℕ) → are_joined_by plan service me.0 place ≡ true → stands network me.0 place ≡ true → IsNear place
  near place joined there =
      let both = heals.steady me.0 place joined there in
      record {
        joined = joined;
        there = there;
        away = joined_away plan service place me.0 checked (joined_back plan service me.0 place joined);
        steady = both.0;
        back = both.1;
        mildly = done.stays.speaks place joined there;
      }

  back_there : (place : ℕ) → IsNear place → stands network place me.0 ≡ true
  back_there place at = has_end ((network.edges place).peering me.0) at.back.up

  met_as : (pw_id : ℕ) (ms : List Message) {bound held told now : Bool} → held ≡ bound → now ≡ told → IsMet pw_id bound ms told → IsMet pw_id held ms now
  met_as pw_id ms {bound} {held} {told} {now} one other met = subst (λ (b : Bool). IsMet pw_id b ms now) (sym one) (subst (IsMet pw_id bound ms) (sym other) met)

  steady_out : (place : ℕ) → IsNear place → IsSteady plan service After me.0 place
  steady_out place at = record {
    up = rw (own_edge, at.mildly.at, at.mildly.up) refl;
    way = record {
      messages = at.steady.way.messages ++ at.mildly.messages;
      is = out_flight place at.away (back_there place at)
          ∙ (ap (λ (l : List ℕ). l ++ said_to place work.effects) at.steady.way.is
          ∙ (ap (λ (l : List ℕ). octets_of_all (ends_at plan me.0 place).me at.steady.way.messages ++ l) at.mildly.is
          ∙ sym (all_joined (ends_at plan me.0 place).me at.steady.way.messages at.mildly.messages)));
      said = said-append (ends_at plan me.0 place) at.steady.way.messages at.mildly.messages at.steady.way.said at.mildly.said;
      mild = all_mild me.0 place (at.steady.way.messages ++ at.mildly.messages)
          (all_more (IsMild plan service network me.0 place) at.steady.way.messages at.mildly.messages at.steady.way.mild at.mildly.mild);
    };
    met = λ wire row onward. met_as row.pw_id (at.steady.way.messages ++ at.mildly.messages)
        (ap (λ (e : EdgeState). is_some (e.ends wire.0 me.0).remote) (other_edge place at.away)) (ap (λ (e : EdgeState). advertises_to e place wire.0) own_edge)
        (met_joined row.pw_id (is_some ((network.edges place).ends wire.0 me.0).remote) (is_advertising ((network.edges me.0).ends wire.0 place).local) (advertises_to work.edge place wire.0)
        at.steady.way.messages at.mildly.messages (at.steady.met wire row (onward_before me.0 place wire row onward)) (at.mildly.met wire row (onward_before me.0 place wire row onward)));
  }

  abbrev moved_way : (a b : ℕ) (old new : List ℕ) → new ≡ old → IsMildWay plan service network a b old → IsMildWay plan service After a b new
  moved_way a b old new is way = record { messages = way.messages; is = is ∙ way.is; said = way.said; mild = all_mild a b way.messages way.mild }

  steady_back : (place : ℕ) → IsNear place → IsSteady plan service After place me.0
  steady_back place at = split {P = IsSteady plan service After place me.0} (nat_eq place peer)
      (λ is. subst (λ (k : ℕ). IsSteady plan service After k me.0) (sym (eqb-true place peer is)) (from_peer (subst IsNear (eqb-true place peer is) at)))
      (λ other. record {
        up = rw (other_edge place at.away) at.back.up;
        way = moved_way place me.0 (flight network place me.0) (flight After place me.0) (still_flight place at.away other at.mildly) at.back.way;
        met = λ wire row onward. met_as row.pw_id at.back.way.messages
            (ap (λ (e : EdgeState). is_some (e.ends wire.0 place).remote) own_edge ∙ ap (λ (o : Option Binding). is_some o) (done.stays.lasts.remotes wire.0 place other))
            (ap (λ (e : EdgeState). is_advertising (e.ends wire.0 me.0).local) (other_edge place at.away))
            (at.back.met wire row (onward_before place me.0 wire row onward));
      })
    where
      from_peer : IsNear peer → IsSteady plan service After peer me.0
      from_peer at =
          let joined = joined_back plan service me.0 peer at.joined in
          let rest = left joined (back_there peer at) in
          record {
            up = rw (other_edge peer at.away) at.back.up;
            way = record {
              messages = later;
              is = back_flight peer at.away at.mildly.unclosed ∙ rest.is;
              said = rest.said;
              mild = all_mild peer me.0 later (rest.mild.mild joined (back_there peer at));
            };
            met = λ wire row onward. met_as row.pw_id later
                (ap (λ (e : EdgeState). is_some (e.ends wire.0 peer).remote) own_edge)
                (ap (λ (e : EdgeState). is_advertising (e.ends wire.0 me.0).local) (other_edge peer at.away))
                (met_left joined (back_there peer at) wire row (onward_before peer me.0 wire row onward));
          }

  -- where the edge's end stands afterwards, it stood before
  stood : (place : ℕ) → are_joined_by plan service me.0 place ≡ true → is_there (work.edge.peering place) ≡ true → stands network me.0 place ≡ true
  stood place joined there = by (stands network me.0 place) refl where
    by : (b : Bool) → stands network me.0 place ≡ b → b ≡ true
    by true is = refl
    by false is = clash (sym (ap is_there (done.stays.apart place joined is)) ∙ there)

  steady_after : (a b : ℕ) → are_joined_by plan service a b ≡ true → stands After a b ≡ true → IsSteady plan service After a b × IsSteady plan service After b a
  steady_after a b joined there = split {P = IsSteady plan service After a b × IsSteady plan service After b a} (nat_eq a me.0)
      (λ is. subst (λ (k : ℕ). IsSteady plan service After k b × IsSteady plan service After b k) (sym (eqb-true a me.0 is))
      (from_me b (subst (λ (k : ℕ). are_joined_by plan service k b ≡ true) (eqb-true a me.0 is) joined) (subst (λ (k : ℕ). stands After k b ≡ true) (eqb-true a me.0 is) there)))
      (λ away. split {P = IsSteady plan service After a b × IsSteady plan service After b a} (nat_eq b me.0)
      (λ is. subst (λ (k : ℕ). IsSteady plan service After a k × IsSteady plan service After k a) (sym (eqb-true b me.0 is))
      (to_me a away (subst (λ (k : ℕ). are_joined_by plan service a k ≡ true) (eqb-true b me.0 is) joined) (subst (λ (k : ℕ). stands After a k ≡ true) (eqb-true b me.0 is) there)))
      (λ gone. others away gone))
    where
      from_me : (place : ℕ) → are_joined_by plan service me.0 place ≡ true → stands After me.0 place ≡ true → IsSteady plan service After me.0 place × IsSteady plan service After place me.0
      from_me place joined there =
          let at : IsNear place = near place joined (stood place joined (rw own_edge at there)) in
          (steady_out place at, steady_back place at)

      to_me : (place : ℕ) → nat_eq place me.0 ≡ false → are_joined_by plan service place me.0 ≡ true → stands After place me.0 ≡ true → IsSteady plan service After place me.0
          × IsSteady plan service After me.0 place
      to_me place away joined there =
          let both = heals.steady place me.0 joined (rw (other_edge place away) at there) in
          let at : IsNear place = near place (joined_back plan service place me.0 joined) (has_end ((network.edges me.0).peering place) both.1.up) in
          (steady_back place at, steady_out place at)

      still : (a b : ℕ) → nat_eq a me.0 ≡ false → nat_eq b me.0 ≡ false → IsSteady plan service network a b → IsSteady plan service After a b
      still a b away gone steady = record {
        up = rw (other_edge a away) steady.up;
        way = moved_way a b (flight network a b) (flight After a b) (other_flight a b away gone) steady.way;
        met = λ wire row onward. met_as row.pw_id steady.way.messages
            (ap (λ (e : EdgeState). is_some (e.ends wire.0 a).remote) (other_edge b gone))
            (ap (λ (e : EdgeState). is_advertising (e.ends wire.0 b).local) (other_edge a away))
            (steady.met wire row (onward_before a b wire row onward));
      }

      others : nat_eq a me.0 ≡ false → nat_eq b me.0 ≡ false → IsSteady plan service After a b × IsSteady plan service After b a
      others away gone =
          let both = heals.steady a b joined (rw (other_edge a away) at there) in (
            still a b away gone both.0,
            still b a gone away both.1,
          )

  moved_clear : (a b : ℕ) (wire : WireId) (row : WirePlan) (one other : EdgeState) (old new : List ℕ) → new ≡ old → takes_clearing other row wire.0 a b ≡ takes_clearing one row wire.0 a b
      → IsCleared plan one a b wire row old → IsCleared plan other a b wire row new
  moved_clear a b wire row one other old new is takes cleared = record {
    messages = cleared.messages;
    is = is ∙ cleared.is;
    said = cleared.said;
    among = ap (λ (t : Bool). is_cleared_by row.pw_id t cleared.messages) takes ∙ cleared.among;
  }

  takes_at : (a b : ℕ) (wire : WireId) (row : WirePlan) → nat_eq b me.0 ≡ false → takes_clearing (After.edges b) row wire.0 a b ≡ takes_clearing (network.edges b) row wire.0 a b
  takes_at a b wire row gone = ap (λ (e : EdgeState). takes_clearing e row wire.0 a b) (other_edge b gone)

  way_after : (a b : ℕ) (wire : WireId) (row : WirePlan) → WorkWays plan service network me.0 peer later work a b wire row → IsWithdrawalPending plan service After a b wire row
  way_after a b wire row (WasSaid seen from joined there cleared) =
      let at : IsNear b = near b joined there in
      subst (λ (k : ℕ). IsWithdrawalPending plan service After k b wire row) (sym from) (record {
        seen = subst (λ (k : ℕ). IsSeen plan service After k b wire row) from (seen_after a b wire row seen);
        joined = joined;
        there = rw (own_edge, at.mildly.at) refl;
        cleared = moved_clear me.0 b wire row (network.edges b) (After.edges b) (flight network me.0 b ++ said_to b work.effects) (flight After me.0 b) (out_flight b at.away (back_there b at))
            (takes_at me.0 b wire row at.away) cleared;
      })
  way_after a b wire row (ToHear seen from to joined there among) =
      let both = heals.steady peer me.0 joined there in
      let at : IsNear peer = near peer (joined_back plan service peer me.0 joined) (has_end ((network.edges me.0).peering peer) both.1.up) in
      let rest = left joined there in
      subst (λ (k : ℕ). IsWithdrawalPending plan service After k b wire row) (sym from) (subst (λ (k : ℕ). IsWithdrawalPending plan service After peer k wire row) (sym to) (record {
        seen = subst (λ (k : ℕ). IsSeen plan service After peer k wire row) to (subst (λ (k : ℕ). IsSeen plan service After k b wire row) from (seen_after a b wire row seen));
        joined = joined;
        there = rw (other_edge peer at.away) there;
        cleared = record {
          messages = later;
          is = back_flight peer at.away at.mildly.unclosed ∙ rest.is;
          said = rest.said;
          among = ap (λ (e : EdgeState). is_cleared_by row.pw_id (takes_clearing e row wire.0 peer me.0) later) own_edge ∙ among;
        };
      }))
  way_after a b wire row (Waits away other pending) = split {P = IsWithdrawalPending plan service After a b wire row} (nat_eq b me.0)
      (λ is. subst (λ (k : ℕ). IsWithdrawalPending plan service After a k wire row) (sym (eqb-true b me.0 is))
      (to_me (subst (λ (k : ℕ). IsWithdrawalPending plan service network a k wire row) (eqb-true b me.0 is) pending) (rw is at other)))
      (λ gone. record {
        seen = seen_after a b wire row pending.seen;
        joined = pending.joined;
        there = rw (other_edge a away) pending.there;
        cleared = moved_clear a b wire row (network.edges b) (After.edges b) (flight network a b) (flight After a b) (other_flight a b away gone) (takes_at a b wire row gone) pending.cleared;
      })
    where
      not_peer : (x : Bool) → x && true ≡ false → x ≡ false
      not_peer true e = clash (sym e)
      not_peer false e = refl

      to_me : IsWithdrawalPending plan service network a me.0 wire row → nat_eq a peer && true ≡ false → IsWithdrawalPending plan service After a me.0 wire row
      to_me pending other =
          let both = heals.steady a me.0 pending.joined pending.there in
          let at : IsNear a = near a (joined_back plan service a me.0 pending.joined) (has_end ((network.edges me.0).peering a) both.1.up) in
          record {
            seen = seen_after a me.0 wire row pending.seen;
            joined = pending.joined;
            there = rw (other_edge a away) pending.there;
            cleared = moved_clear a me.0 wire row (network.edges me.0) (After.edges me.0) (flight network a me.0) (flight After a me.0)
                (still_flight a away (not_peer (nat_eq a peer) other) at.mildly)
                (ap (λ (e : EdgeState). takes_clearing e row wire.0 a me.0) own_edge
                ∙ takes_same (network.edges me.0) work.edge row wire.0 a me.0 (done.stays.lasts.remotes wire.0 a (not_peer (nat_eq a peer) other))) pending.cleared;
          }

  edges_after : (a : ℕ) → After.edges a ≡ put_at network.edges me.0 work.edge a
  edges_after a = split {P = After.edges a ≡ put_at network.edges me.0 work.edge a} (nat_eq a me.0)
      (λ is. rw is (ap (λ (k : ℕ). After.edges k) (eqb-true a me.0 is) ∙ own_edge))
      (λ away. rw away (other_edge a away))

  ways_after : Grows plan service (work_ways plan service network me.0 peer later work) (ways_of plan service After)
  ways_after = record {
    way = way_after;
    dead = λ edge wire home spoke dead. record {
      at = dead.at;
      next = dead.next;
      inner = dead.inner;
      follows_it = dead.follows_it;
      stuck = ap (λ (e : EdgeState). is_stuck e wire.0 dead.next) (edges_after dead.at) ∙ dead.stuck;
    };
    whole = λ edge wire whole. ap (λ (f : ℕ → ℕ). f wire.0) (bits_after edge) ∙ whole;
  }

  spokes_after : (a : EdgeId) (edge : EdgeState) → KeepsSpokes plan service network a edge → KeepsSpokes plan service After a edge
  spokes_after a edge spokes = record {
    waits_not = λ wire row next onward. spokes.waits_not wire row next (onward_before a.0 next wire row onward);
    whole = λ wire row next onward first. spokes.whole wire row next (onward_before a.0 next wire row onward) first;
    on = λ wire row next onward told. spokes.on wire row next (onward_before a.0 next wire row onward) told;
    across = λ wire row from to label content onward mated at. spokes.across wire row from to label content (onward_before a.0 to.0 wire row onward) mated at;
  }

  -- the edge at a place afterwards
  by_place : (P : ℕ → EdgeState → Type 0) → P me.0 work.edge → ((a : ℕ) → nat_eq a me.0 ≡ false → P a (network.edges a)) → (a : ℕ) → P a (After.edges a)
  by_place P here others a = split {P = P a (After.edges a)} (nat_eq a me.0)
      (λ is. subst (λ (k : ℕ). P k (After.edges k)) (sym (eqb-true a me.0 is)) (subst (P me.0) (sym own_edge) here))
      (λ away. subst (P a) (sym (other_edge a away)) (others a away))

  chosen_after : (a : ℕ) → put_at (chosen_in service network) me.0 (work.edge.chosen service.0) a ≡ chosen_in service After a
  chosen_after a = split {P = put_at (chosen_in service network) me.0 (work.edge.chosen service.0) a ≡ chosen_in service After a} (nat_eq a me.0)
      (λ is. rw is (ap (λ (e : EdgeState). e.chosen service.0) (sym own_edge) ∙ ap (chosen_in service After) (sym (eqb-true a me.0 is))))
      (λ away. rw away (ap (λ (e : EdgeState). e.chosen service.0) (sym (other_edge a away))))

  learned_after : (a : ℕ) → put_at (learned_in service network) me.0 (work.edge.learned service.0) a ≡ learned_in service After a
  learned_after a = split {P = put_at (learned_in service network) me.0 (work.edge.learned service.0) a ≡ learned_in service After a} (nat_eq a me.0)
      (λ is. rw is (ap (λ (e : EdgeState). e.learned service.0) (sym own_edge) ∙ ap (learned_in service After) (sym (eqb-true a me.0 is))))
      (λ away. rw away (ap (λ (e : EdgeState). e.learned service.0) (sym (other_edge a away))))

  heals_after : Heals plan service site calm (absorb me 0 0 work drawn).state
  heals_after = record {
    steady = steady_after;
    mesh = by_place (λ a edge. KeepsMesh plan service a edge) done.stays.mesh (λ a away. heals.mesh a);
    spokes = λ a. spokes_after a (After.edges a.0)
        (by_place (λ k edge. KeepsSpokes plan service network (record { 0 = k }) edge) done.stays.spokes (λ k away. heals.spokes (record { 0 = k })) a.0);
    right = λ core is.
        subst (AllByRecursion (EntryHeals plan service site (chosen_in service After) (ways_of plan service After) core)) (learned_after core)
        (all_weaker (EntryHeals plan service site (put_at (chosen_in service network) me.0 (work.edge.chosen service.0)) (work_ways plan service network me.0 peer later work) core)
        (EntryHeals plan service site (chosen_in service After) (ways_of plan service After) core)
        (put_at (learned_in service network) me.0 (work.edge.learned service.0) core)
        (λ entry. entry_heals_on plan service site (put_at (chosen_in service network) me.0 (work.edge.chosen service.0)) (chosen_in service After)
        (work_ways plan service network me.0 peer later work) (ways_of plan service After) core entry
        ways_after (λ edge wire home spoke chosen. inl (chosen_after edge ∙ chosen)))
        (done.right core is));
    table = by_place (λ a edge. AllByRecursion (PointsToSite plan calm service site a) (edge.learned service.0))
        (all_left (PointsToSite plan calm service site me.0) (learned_in service network me.0) (work.edge.learned service.0) done.stays.table (heals.table me.0)) (λ a away. heals.table a);
  }

  pub settle_heals : HealsLive plan service site calm (absorb me 0 0 work drawn).state
  settle_heals = record { heals = heals_after; live = by_place (λ a edge. AllByRecursion (IsAtLive plan service a edge) (edge.learned service.0)) live alive }
