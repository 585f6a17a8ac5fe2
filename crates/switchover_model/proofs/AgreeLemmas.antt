-- What holds of an exchange holds of the network.
use Rattle.std.proofs.Common.{◌≡◌, ◌==◌, ◌||◌, ◌++◌, ◌∙◌, not, ℕ, Bool, true, false, List, [], ◌∷◌, Option, Some, None, slice_get, if◌then◌else◌, refl, sym, ap, subst}
use Rattle.std.specs.List.{AllByRecursion, list_any}
use Rattle.std.proofs.lemmas.Bool.{eqb-true, eq-eqb}
use Rattle.net_values.proofs.BoolLemmas.{true_clash}
use Rattle.net_base.specs.declared.plan.Plan.{Plan}
use Rattle.net_base.specs.declared.plan.edge_plan.EdgePlan.{EdgePlan}
use Rattle.net_base.specs.declared.plan.wire_plan.WirePlan.{WirePlan}
use Rattle.net_base.specs.plan.Accepted.{IsChecked}
use Rattle.pw_tlvs.specs.declared.pw_status.PwStatus.{PwStatus}
use Rattle.ldp_grammar.specs.declared.ldp_id.LdpId.{LdpId}
use Rattle.ldp_grammar.specs.declared.message.Message.{Message}
use Rattle.ldp_grammar.specs.Written.{written}
use Rattle.pw_messages.specs.Sender.{platform_of}
use Rattle.status_exchange.specs.Exchange.{EdgeStatuses, StatusMessage}
use Rattle.status_exchange.specs.Laws as exchange_laws
use Rattle.status_exchange.specs.Laws.{Agree, is_known_active, of_wire}
use Rattle.pw_status.specs.Status.{is_standby}
use Rattle.status_exchange.specs.declared.wish.Wish.{Wish}
use Rattle.status_exchange.specs.declared.wish.Wish.TheVariants.{Active, Standby, Ask}
use Rattle.status_exchange.specs.Line.{some_active, some_asks, status_after}
use Rattle.status_exchange.specs.Wish.{asks_switchover, is_ask, status_of}
use Rattle.status_exchange.proofs.RunLemmas.{agree}
use Rattle.status_exchange.proofs.StatusLemmas.{AllTold}
use Rattle.independent_model.specs.Calls.{uses, uses_with}
use Rattle.independent_model.specs.Tell.{notification}
use Rattle.independent_model.specs.Wires.{is_between, wire_named, wiring}
use Rattle.switchover_model.specs.After.{TellsWire, known_after_all, some_status, some_tells}
use Rattle.switchover_model.specs.Laws.{AgreesOn, HasAsked, HasSwitchTypes, IsAgreed, KnowsAfter, ScriptsAgree}
use Rattle.switchover_model.specs.Network.{SwitchState, done_all, first_network, switch_flight, octets_held_by, switches_stand}
use Rattle.switchover_model.proofs.FlightLemmas.{AreTold, message_in_row, messages_are, messages_told, octets_told, told_is}
use Rattle.switchover_model.proofs.RunLemmas.{Follows, all_follow, first_follows, stands_is}
use Rattle.switchover_model.proofs.TwoLemmas.{edge_there, named_is, other_end_is, wiring_is}

-- ---- what is known once messages have been heard

module _ (plan : Plan) (checked : IsChecked plan) (from to wire : ℕ) (row : WirePlan) (row_is : slice_get plan.wires wire ≡ Some row) (joined : is_between plan wire from to ≡ true) where
  -- of the wires between two edges each has a PW ID of its own
  same_ids : (k : ℕ) (other : WirePlan) → slice_get plan.wires k ≡ Some other → is_between plan k from to ≡ true → (row.pw_id == other.pw_id) ≡ (k == wire)
  same_ids k other at is = by (k == wire) (row.pw_id == other.pw_id) refl refl
    where
      by : (s t : Bool) → (k == wire) ≡ s → (row.pw_id == other.pw_id) ≡ t → t ≡ s
      by true true e g = refl
      by false false e g = refl
      by true false e g =
          let same : Some other ≡ Some row = sym at ∙ (ap (slice_get plan.wires) (eqb-true k wire e) ∙ row_is) in
          let one : other ≡ row = cc (same) in
          true_clash (sym (eq-eqb row.pw_id other.pw_id (ap (λ (r : WirePlan). r.pw_id) (sym one))) ∙ g)
      by false true e g =
          let named : Some wire ≡ Some k = sym (named_is plan from to wire row checked row_is joined)
          ∙ (ap (λ (n : ℕ). wire_named plan from to (Some n)) (eqb-true row.pw_id other.pw_id g) ∙ named_is plan from to k other checked at is) in
          let same : wire ≡ k = cc (named) in
          true_clash (sym (eq-eqb k wire (sym same)) ∙ e)

  known_is : (ts : List StatusMessage) (known : Option PwStatus) → AllTold (λ k. is_between plan k from to) ts → AreTold plan ts
      → known_after_all row.pw_id (messages_told plan from ts) known ≡ status_after (of_wire wire ts) known
  known_is [] known all told = refl
  known_is (t ∷ ts) known all told = row_at told.0.row told.0.row_is (λ k. known_is ts k all.1 told.1)
    where
      row_at : (other : WirePlan) → slice_get plan.wires t.wire ≡ Some other → ((k : Option PwStatus) → known_after_all row.pw_id (messages_told plan from ts) k ≡ status_after (of_wire wire ts) k)
          → known_after_all row.pw_id (message_in_row from t (slice_get plan.wires t.wire) ++ messages_told plan from ts) known
          ≡ status_after (if t.wire == wire then t.wish ∷ of_wire wire ts else of_wire wire ts) known
      row_at other at again =
          ap (λ (o : Option WirePlan). known_after_all row.pw_id (message_in_row from t o ++ messages_told plan from ts) known) at
          ∙ (ap (λ (b : Bool). known_after_all row.pw_id (messages_told plan from ts) (if b then Some (status_of t.wish) else known)) (same_ids t.wire other at all.0) ∙ by (t.wire == wire))
        where
          by : (b : Bool) → known_after_all row.pw_id (messages_told plan from ts) (if b then Some (status_of t.wish) else known)
              ≡ status_after (if b then t.wish ∷ of_wire wire ts else of_wire wire ts) known
          by true = again (Some (status_of t.wish))
          by false = again known

  -- some status that was told of the wire passes a test
  some_is : (test : PwStatus → Bool) (ts : List StatusMessage) → AllTold (λ k. is_between plan k from to) ts → AreTold plan ts
      → some_tells row.pw_id test (messages_told plan from ts) ≡ list_any (λ (wish : Wish). test (status_of wish)) (of_wire wire ts)
  some_is test [] all told = refl
  some_is test (t ∷ ts) all told = row_at told.0.row told.0.row_is (some_is test ts all.1 told.1)
    where
      row_at : (other : WirePlan) → slice_get plan.wires t.wire ≡ Some other → some_tells row.pw_id test (messages_told plan from ts) ≡ list_any (λ (wish : Wish). test (status_of wish)) (of_wire wire ts)
          → some_tells row.pw_id test (message_in_row from t (slice_get plan.wires t.wire) ++ messages_told plan from ts)
          ≡ list_any (λ (wish : Wish). test (status_of wish)) (if t.wire == wire then t.wish ∷ of_wire wire ts else of_wire wire ts)
      row_at other at again =
          ap (λ (o : Option WirePlan). some_tells row.pw_id test (message_in_row from t o ++ messages_told plan from ts)) at
          ∙ (ap (λ (b : Bool). some_status test (if b then Some (status_of t.wish) else None) || some_tells row.pw_id test (messages_told plan from ts)) (same_ids t.wire other at all.0) ∙ by (t.wire == wire))
        where
          by : (b : Bool) → some_status test (if b then Some (status_of t.wish) else None) || some_tells row.pw_id test (messages_told plan from ts)
              ≡ list_any (λ (wish : Wish). test (status_of wish)) (if b then t.wish ∷ of_wire wire ts else of_wire wire ts)
          by true = ap (λ (b : Bool). test (status_of t.wish) || b) again
          by false = again

-- the status of a wish asks where it does, and is without standby where it calls the wire active
asks_is : (wishes : List Wish) → list_any (λ (wish : Wish). asks_switchover (status_of wish)) wishes ≡ some_asks wishes
asks_is [] = refl
asks_is (Active ∷ wishes) = asks_is wishes
asks_is (Standby ∷ wishes) = asks_is wishes
asks_is (Ask ∷ wishes) = refl

active_is : (wishes : List Wish) → list_any (λ (wish : Wish). not (is_standby (status_of wish))) wishes ≡ some_active wishes
active_is [] = refl
active_is (Active ∷ wishes) = refl
active_is (Standby ∷ wishes) = active_is wishes
active_is (Ask ∷ wishes) = refl

-- what was told are status Notifications of wires between the two
told_wires : (plan : Plan) (from to : ℕ) (ts : List StatusMessage) → AllTold (λ k. is_between plan k from to) ts → AreTold plan ts → AllByRecursion (TellsWire plan from to) (messages_told plan from ts)
told_wires plan from to [] all told = tt
told_wires plan from to (t ∷ ts) all told = subst (λ (o : Option WirePlan). AllByRecursion (TellsWire plan from to) (message_in_row from t o ++ messages_told plan from ts)) (sym told.0.row_is) (
  record { wire = t.wire; row = told.0.row; is = told.0.row_is; joined = all.0; wish = t.wish; id = t.id; small = told.0.small; told = refl },
  told_wires plan from to ts all.1 told.1,
)

-- ---- nothing is on its way

some_octets : (m : Message) (id : LdpId) (more : List ℕ) → written m id ++ more ≡ [] → ⊥
some_octets m id more e = cc (e)

module _ (plan : Plan) (checked : IsChecked plan) (types : HasSwitchTypes plan) where
  none_told : (from : ℕ) (edge : EdgePlan) (there : slice_get plan.edges from ≡ Some edge) (ts : List StatusMessage) → AreTold plan ts → octets_told plan from ts ≡ [] → ts ≡ []
  none_told from edge there [] told none = refl
  none_told from edge there (t ∷ ts) told none = absurd (some_octets (notification told.0.row from t.wish t.id) (platform_of edge.address) (octets_told plan from ts)
      (ap (λ (l : List ℕ). l ++ octets_told plan from ts) (sym (told_is plan checked types from edge there t told.0)) ∙ none))

  -- ---- two edges with a wire

  module _ (x : SwitchState) (f : Follows plan checked types x) (a b wire : ℕ) (row : WirePlan) (row_is : slice_get plan.wires wire ≡ Some row) (joined : is_between plan wire a b ≡ true) where
    back : is_between plan wire b a ≡ true
    back = (wiring_is plan checked).turned wire a b joined

    agreed : Agree f.y a b wire
    agreed = agree (wiring plan) f.y a b wire f.holds joined back

    both : switches_stand x a b ≡ switches_stand x b a
    both = sym (stands_is plan checked types x f a b) ∙ (agreed.both ∙ stands_is plan checked types x f b a)

    remote_is : (k : ℕ) → (x.edges k).remote wire ≡ (f.y.edges k).remote wire
    remote_is k = ap (λ (e : EdgeStatuses). e.remote wire) (f.matches.edges k)

    local_is : (k : ℕ) → (x.edges k).local wire ≡ (f.y.edges k).local wire
    local_is k = ap (λ (e : EdgeStatuses). e.local wire) (f.matches.edges k)

    uses_is : (me peer : ℕ) → is_between plan wire me peer ≡ true → uses plan me (x.edges me) wire ≡ exchange_laws.exchange_uses (f.y.edges me) peer wire
    uses_is me peer is = ap (uses_with (x.edges me) wire) (other_end_is plan me peer wire checked is)
        ∙ rw (sym (stands_is plan checked types x f me peer), local_is me, remote_is me) refl

    knows : switches_stand x a b ≡ true → KnowsAfter plan x a b wire row
    knows there =
        let end = (agreed.ends (stands_is plan checked types x f a b ∙ there)).0 in
        record {
          messages = messages_told plan b (f.y.ways b a);
          octets = f.matches.octets b a ∙ messages_are plan b (f.y.ways b a);
          told = told_wires plan b a (f.y.ways b a) (f.holds.ways b a).between (f.matches.told b a);
          knows = known_is plan checked b a wire row row_is back (f.y.ways b a) ((x.edges a).remote wire) (f.holds.ways b a).between (f.matches.told b a)
              ∙ rw (remote_is a, local_is b) end.after_way;
        }

    quiet : switches_stand x a b ≡ true → switch_flight x a b ≡ [] → switch_flight x b a ≡ [] → IsAgreed plan x a b wire
    quiet there out_none back_none =
        let one = edge_there plan wire a b checked joined in
        let two = edge_there plan wire b a checked back in
        let out : f.y.ways a b ≡ [] = none_told a one.row one.is (f.y.ways a b) (f.matches.told a b) (sym (f.matches.octets a b) ∙ out_none) in
        let way : f.y.ways b a ≡ [] = none_told b two.row two.is (f.y.ways b a) (f.matches.told b a) (sym (f.matches.octets b a) ∙ back_none) in
        let all = agreed.quiet (stands_is plan checked types x f a b ∙ there) out way in
        record {
          one = uses_is a b joined ∙ rw (local_is a, local_is b) all.one;
          other = uses_is b a back ∙ rw (local_is a, local_is b) all.other;
          asks_not = rw (local_is a) all.asks_not;
          other_asks_not = rw (local_is b) all.other_asks_not;
        }

    asked : switches_stand x a b ≡ true → is_ask ((x.edges a).local wire) ≡ true → HasAsked plan x a b wire row
    asked there asks =
        let end = (agreed.ends (stands_is plan checked types x f a b ∙ there)).0 in
        record {
          out = messages_told plan a (f.y.ways a b);
          out_octets = f.matches.octets a b ∙ messages_are plan a (f.y.ways a b);
          out_told = told_wires plan a b (f.y.ways a b) (f.holds.ways a b).between (f.matches.told a b);
          back = messages_told plan b (f.y.ways b a);
          back_octets = f.matches.octets b a ∙ messages_are plan b (f.y.ways b a);
          back_told = told_wires plan b a (f.y.ways b a) (f.holds.ways b a).between (f.matches.told b a);
          asked = rw (
            some_is plan checked a b wire row row_is joined asks_switchover (f.y.ways a b) (f.holds.ways a b).between (f.matches.told a b) ∙ asks_is (of_wire wire (f.y.ways a b)),
            some_is plan checked b a wire row row_is back (λ status. not (is_standby status)) (f.y.ways b a) (f.holds.ways b a).between (f.matches.told b a) ∙ active_is (of_wire wire (f.y.ways b a)),
          ) (end.asked (ap is_ask (sym (local_is a)) ∙ asks));
        }

    last_is : (f.y.edges a).remote wire ≡ status_after (of_wire wire (f.y.heard b a)) None
    last_is = (f.holds.pairs a b wire joined).near_last

    agrees : AgreesOn plan x a b wire row
    agrees = record {
      both = both;
      after = knows;
      asked = asked;
      quiet = quiet;
      last = record {
        messages = messages_told plan b (f.y.heard b a);
        octets = f.matches.came b a ∙ ap (λ (l : List ℕ). l ++ octets_held_by ((x.edges a).connection b)) (messages_are plan b (f.y.heard b a));
        told = told_wires plan b a (f.y.heard b a) (f.matches.past b a).1 (f.matches.past b a).0;
        knows = remote_is a ∙ (last_is ∙ sym (known_is plan checked b a wire row row_is back (f.y.heard b a) None (f.matches.past b a).1 (f.matches.past b a).0));
      };
      used = λ is.
          let them = agreed.used (sym (uses_is a b joined) ∙ is) in
          (rw (local_is a) them.0, ap is_known_active (remote_is a ∙ last_is) ∙ them.1);
      gone = λ gone.
          let none = agreed.gone (stands_is plan checked types x f a b ∙ gone) in
          (f.matches.octets a b ∙ ap (octets_told plan a) none.0, remote_is a ∙ none.1);
    }

pub scripts_agree : ScriptsAgree
scripts_agree plan checked types lines a b wire row row_is joined =
    agrees plan checked types (done_all plan lines first_network) (all_follow plan checked types lines first_network (first_follows plan checked types)) a b wire row row_is joined
