-- What an edge puts when it mends: at each of its ends a mapping or a withdrawal at most, and a status, and addresses on spokes alone.
use Rattle.std.proofs.Common.{◌≡◌, ◌≤◌, ◌+◌, ◌++◌, ◌&&◌, ◌∙◌, ℕ, suc, Bool, true, false, cond, nat_eq, nat_lt, not, filter, slice_get, option_and_then, option_map, List, [], ◌∷◌, Option, Some, None, refl, sym, ap, subst, append_assoc, arith, zero, zero-add}
use Rattle.std.proofs.lemmas.Bool.{eqb-true}
use Rattle.std.proofs.lemmas.Bool.Decides.{nat_tests}
use Rattle.std.proofs.lemmas.Option.{same_Some}
use Rattle.std.specs.List.{AllByRecursion}
use Rattle.net_values.proofs.BoolLemmas.{clash, first_holds}
use Rattle.net_base.specs.declared.plan.Plan.{Plan}
use Rattle.net_base.specs.declared.plan.places.EdgeId.{EdgeId}
use Rattle.net_base.specs.declared.plan.places.ServiceId.{ServiceId}
use Rattle.net_base.specs.declared.plan.places.WireId.{WireId}
use Rattle.net_base.specs.declared.plan.wire_plan.WirePlan.{WirePlan}
use Rattle.net_base.specs.plan.Paths.{is_first}
use Rattle.net_base.specs.plan.Places.{is_mesh_class, wire_row}
use Rattle.net_base.specs.plan.Roles.{is_wire_of}
use Rattle.net_values.specs.declared.addr.Addr.{Addr}
use Rattle.ldp_grammar.specs.declared.message.Message.{Message}
use Rattle.ldp_grammar.specs.Written.{written}
use Rattle.net_values.specs.declared.mac.Mac.{Mac}
use Rattle.pw_messages.specs.Content.{mac_withdrawal, mapping, status_notification, withdrawal}
use Rattle.pw_messages.specs.Sender.{platform_of}
use Rattle.pw_signalling.specs.declared.told.Told.{Told}
use Rattle.pw_signalling.specs.End.{LocalPart, Idle, Advertised, Withdrawing}
use Rattle.pw_tlvs.specs.declared.pw_status.PwStatus.{PwStatus}
use Rattle.spoke_redundancy.specs.Choice.{chosen}
use Rattle.edge_model.specs.declared.effect.Effect.{Effect}
use Rattle.edge_model.specs.declared.effect.Effect.TheVariants as effect
use Rattle.edge_model.specs.declared.end_place.EndPlace.{EndPlace}
use Rattle.edge_model.specs.EndPlaces.{end_places}
use Rattle.edge_model.specs.Labels.{label_to_give}
use Rattle.edge_model.specs.Mend.{advertises_under, advertises_wish, advertising, and_says, each_end, forgets_downs, is_new_choice, mends, mends_choice, mends_end, mends_local, mends_status, mends_status_of, offer_stands, tells_downs, tells_new_status, tells_over, telling_status, then_changes, wish, withdrawing, withdraws}
use Rattle.edge_model.specs.Put.{Spoken, message_octets_of, stays}
use Rattle.edge_model.specs.Role.{is_chosen, is_chosen_wire, status_to_tell}
use Rattle.edge_model.specs.Session.{says}
use Rattle.edge_model.specs.Spokes.{choice, choosing, is_spoke_row, spoke_places, spokes_of}
use Rattle.edge_model.specs.State.{EdgeState, Peering, end_at, with_chosen, with_end, with_kept, with_next_label}
use Rattle.edge_model.specs.Withdraw.{tells_piece, tells_piece_by}
use Rattle.edge_model.specs.Work.{Work, changes}
use Rattle.edge_model.proofs.MendLemmas.{mends_takes, says_nothing, says_taken}
use Rattle.network_model.specs.Absorb.{taken_all}
use Rattle.flight_laws.proofs.PlaceLemmas.{IsEndOf, places_are}
use Rattle.flight_laws.proofs.WorksLemmas.{changed_edge}
use Rattle.spelling_laws.proofs.PutLemmas.{changed_effects, put_effects}
use Rattle.rest_laws.specs.Levels.{Saying, Binds, Withdraws, States, Clears, pw_id_of, saying_of}
use Rattle.rest_laws.proofs.DueLemmas.{PutsMore, PutsWell}
use Rattle.rest_laws.proofs.PutLemmas.{says_puts}
use Rattle.rest_laws.proofs.StillLemmas.{downs_put, forgets_put}
use Rattle.settle_bounds.specs.Worth.{ends_sum, gate, larger, mend_cost, starts_spoke}

-- ---- numbers

pub larger_first : (a b : ℕ) → a ≤ larger a b
larger_first a b = by (nat_lt a b) refl where
  by : (c : Bool) → nat_lt a b ≡ c → a ≤ cond c b a
  by true is = grind (arith, nat_tests)
  by false is = omega arith

pub larger_second : (a b : ℕ) → b ≤ larger a b
larger_second a b = by (nat_lt a b) refl where
  by : (c : Bool) → nat_lt a b ≡ c → b ≤ cond c b a
  by true is = omega arith
  by false is = grind (arith, nat_tests)

-- ---- messages at ends

-- what is said, at an end
pub record Slot : Type 0 where
  pub place : EndPlace
  pub saying : Saying

-- octets for a peer are those of a message about the wire of an end beside it, which says this
pub record IsSlot (plan : Plan) (me : EdgeId) (peer : ℕ) (octets : List ℕ) (slot : Slot) : Type 0 where
  pub here : IsEndOf plan me slot.place
  pub beside : slot.place.peer.0 ≡ peer
  pub message : Message
  pub router : Addr
  pub spelled : octets ≡ written message (platform_of router)
  pub says : saying_of message ≡ Some slot.saying
  pub names : pw_id_of message ≡ Some slot.place.pw_id

-- whatever is said is said so, in turn
abbrev pub AreSlots : Plan → EdgeId → List Effect → List Slot → Type 0
AreSlots plan me [] [] = Unit {0}
AreSlots plan me [] (s ∷ ss) = ⊥
AreSlots plan me (effect.Said peer octets ∷ es) [] = ⊥
AreSlots plan me (effect.Said peer octets ∷ es) (s ∷ ss) = IsSlot plan me peer.0 octets s × AreSlots plan me es ss
AreSlots plan me (e ∷ es) ss = AreSlots plan me es ss

abbrev pub Costs : Type 0
Costs = EndPlace → Saying → ℕ

abbrev pub slots_sum : Costs → List Slot → ℕ
slots_sum cost [] = 0
slots_sum cost (s ∷ ss) = cost s.place s.saying + slots_sum cost ss

-- more is given out, and whatever is said of it costs so much at most, by any costs
pub record Walks (plan : Plan) (me : EdgeId) (old new : List Effect) (most : Costs → ℕ) : Type 0 where
  pub more : List Effect
  pub joined : new ≡ old ++ more
  pub slots : List Slot
  pub are : AreSlots plan me more slots
  pub few : (cost : Costs) → slots_sum cost slots ≤ most cost

no_more : (es : List Effect) → es ≡ es ++ []
no_more [] = refl
no_more (e ∷ es) = ap (λ (l : List Effect). e ∷ l) (no_more es)

-- a spoke of a service that starts at the edge
pub spoke_row_starts : (me : EdgeId) (service : ServiceId) (o : Option WirePlan) → is_spoke_row service me o ≡ true → starts_spoke me o ≡ true
spoke_row_starts me service None spoke = spoke
spoke_row_starts me service (Some row) spoke = part (is_wire_of service row) (not (is_mesh_class row.class)) (is_first me.0 row.path) spoke where
  part : (a b c : Bool) → (a && b) && c ≡ true → b && c ≡ true
  part true b c both = both
  part false b c both = clash both

module _ (plan : Plan) (me : EdgeId) where
  slots_joined : (es more : List Effect) (ss ts : List Slot) → AreSlots plan me es ss → AreSlots plan me more ts → AreSlots plan me (es ++ more) (ss ++ ts)
  slots_joined [] more [] ts one other = other
  slots_joined [] more (s ∷ ss) ts one other = absurd one
  slots_joined (effect.Said peer octets ∷ es) more [] ts one other = absurd one
  slots_joined (effect.Said peer octets ∷ es) more (s ∷ ss) ts one other = (one.0, slots_joined es more ss ts one.1 other)
  slots_joined (e ∷ es) more ss ts one other = slots_joined es more ss ts one other

  sums_joined : (cost : Costs) (ss ts : List Slot) → slots_sum cost (ss ++ ts) ≡ slots_sum cost ss + slots_sum cost ts
  sums_joined cost [] ts = sym (zero-add (slots_sum cost ts))
  sums_joined cost (s ∷ ss) ts = sum (cost s.place s.saying) (slots_sum cost (ss ++ ts)) (slots_sum cost ss) (slots_sum cost ts) (sums_joined cost ss ts) where
    sum : (w a b c : ℕ) → a ≡ b + c → w + a ≡ (w + b) + c
    sum w a b c is = omega (arith, is)

  pub walks_not : (es : List Effect) (most : Costs → ℕ) → Walks plan me es es most
  walks_not es most = record { more = []; joined = no_more es; slots = []; are = tt; few = λ cost. none (most cost) } where
    none : (n : ℕ) → 0 ≤ n
    none n = omega arith

  pub walks_then : (a b c : List Effect) (one next : Costs → ℕ) → Walks plan me a b one → Walks plan me b c next → Walks plan me a c (λ cost. one cost + next cost)
  walks_then a b c one next first then = record {
    more = first.more ++ then.more;
    joined = then.joined ∙ (ap (λ (l : List Effect). l ++ then.more) first.joined ∙ append_assoc a first.more then.more);
    slots = first.slots ++ then.slots;
    are = slots_joined first.more then.more first.slots then.slots first.are then.are;
    few = λ cost. both (slots_sum cost (first.slots ++ then.slots)) (slots_sum cost first.slots) (slots_sum cost then.slots) (one cost) (next cost) (sums_joined cost first.slots then.slots) (first.few cost) (then.few cost);
  }
    where
      both : (t a b x y : ℕ) → t ≡ a + b → a ≤ x → b ≤ y → t ≤ x + y
      both t a b x y is one other = omega (arith, is, one, other)

  pub walks_wider : (a b : List Effect) (one next : Costs → ℕ) → ((cost : Costs) → one cost ≤ next cost) → Walks plan me a b one → Walks plan me a b next
  walks_wider a b one next less walks = record {
    more = walks.more;
    joined = walks.joined;
    slots = walks.slots;
    are = walks.are;
    few = λ cost. both (slots_sum cost walks.slots) (one cost) (next cost) (walks.few cost) (less cost);
  }
    where
      both : (a b c : ℕ) → a ≤ b → b ≤ c → a ≤ c
      both a b c one other = omega (arith, one, other)

  -- what says nothing
  none_slots : (es : List Effect) → AllByRecursion (PutsWell plan me (λ place saying. false)) es → AreSlots plan me es []
  none_slots [] none = tt
  none_slots (effect.Said peer octets ∷ es) none = clash none.0.allowed
  none_slots (e ∷ es) none = none_slots es none.1

  pub walks_none : (a b : List Effect) (most : Costs → ℕ) → PutsMore plan me (λ place saying. false) a b → Walks plan me a b most
  walks_none a b most puts = record { more = puts.more; joined = puts.joined; slots = []; are = none_slots puts.more puts.well; few = λ cost. none (most cost) } where
    none : (n : ℕ) → 0 ≤ n
    none n = omega arith

  -- ---- one message

  itself : (n : ℕ) → n + 0 ≤ n
  itself n = omega arith

  pub says_walk : (place : EndPlace) (message : ℕ → Message) (saying : Saying) (work : Work) → IsEndOf plan me place → ((id : ℕ) → saying_of (message id) ≡ Some saying)
      → ((id : ℕ) → pw_id_of (message id) ≡ Some place.pw_id) → Walks plan me work.effects (says taken_all place.peer message work).work.effects (λ cost. cost place saying)
  says_walk place message saying work here says_it names = by (work.edge.peering place.peer.0) refl where
    Goes : List Effect → Type 0
    Goes es = Walks plan me work.effects es (λ cost. cost place saying)

    by : (kept : Option Peering) → work.edge.peering place.peer.0 ≡ kept → Goes (says taken_all place.peer message work).work.effects
    by None is = subst (λ (s : Spoken). Goes s.work.effects) (sym (says_nothing taken_all place.peer message work is)) (walks_not work.effects (λ cost. cost place saying))
    by (Some kept) is = subst (λ (s : Spoken). Goes s.work.effects) (sym (says_taken taken_all place.peer message kept work refl is))
        (subst Goes (sym (put_effects place.peer (message_octets_of kept message) work)) (record {
          more = effect.Said place.peer (message_octets_of kept message) ∷ [];
          joined = refl;
          slots = record { place = place; saying = saying } ∷ [];
          are = (
            record {
              here = here;
              beside = refl;
              message = message kept.next_id;
              router = kept.session.peers.me;
              spelled = refl;
              says = says_it kept.next_id;
              names = names kept.next_id;
            },
            tt,
          );
          few = λ cost. itself (cost place saying);
        }))

  -- a change before it says nothing
  pub changed_walk : (change : EdgeState → EdgeState) (place : EndPlace) (message : ℕ → Message) (saying : Saying) (work : Work) → IsEndOf plan me place → ((id : ℕ) → saying_of (message id) ≡ Some saying)
      → ((id : ℕ) → pw_id_of (message id) ≡ Some place.pw_id) → Walks plan me work.effects (says taken_all place.peer message (changes change work)).work.effects (λ cost. cost place saying)
  changed_walk change place message saying work here says_it names =
      subst (λ (es : List Effect). Walks plan me es (says taken_all place.peer message (changes change work)).work.effects (λ cost. cost place saying)) (changed_effects change work)
      (says_walk place message saying (changes change work) here says_it names)

  said_chosen : (place : EndPlace) (message : ℕ → Message) (saying : Saying) (work : Work) → IsEndOf plan me place → ((id : ℕ) → saying_of (message id) ≡ Some saying)
      → ((id : ℕ) → pw_id_of (message id) ≡ Some place.pw_id) → (says taken_all place.peer message work).work.edge.chosen ≡ work.edge.chosen
  said_chosen place message saying work here says_it names = (says_puts plan me (λ p s. true) place message saying work here says_it names refl).put.chosen

  -- ---- at one end

  abbrev labels : EndPlace → Costs → ℕ
  labels place cost = larger (cost place Withdraws) (cost place Binds)

  said_me : (place : EndPlace) (message : ℕ → Message) (saying : Saying) (work : Work) → IsEndOf plan me place → ((id : ℕ) → saying_of (message id) ≡ Some saying)
      → ((id : ℕ) → pw_id_of (message id) ≡ Some place.pw_id) → (says taken_all place.peer message work).work.edge.me ≡ work.edge.me
  said_me place message saying work here says_it names = (says_puts plan me (λ p s. true) place message saying work here says_it names refl).put.me

  advertising_me : (place : EndPlace) (label : ℕ) (content : Told) (work : Work) → (changes (advertising place label content) work).edge.me ≡ work.edge.me
  unfolding changes with_end with_next_label with_kept
  advertising_me place label content work = refl

  withdrawing_me : (place : EndPlace) (work : Work) → (changes (withdrawing place) work).edge.me ≡ work.edge.me
  unfolding changes with_end
  withdrawing_me place work = refl

  end_walk : (place : EndPlace) (work : Work) → IsEndOf plan me place → work.edge.me ≡ me
      → Walks plan me work.effects (mends_end plan taken_all place work).work.effects (labels place) × ((mends_end plan taken_all place work).work.edge.me ≡ me)
  end_walk place work here at = of (end_at work.edge place).local where
    Goes : Work → Type 0
    Goes next = Walks plan me work.effects next.effects (labels place) × (next.edge.me ≡ me)

    quiet : Goes work
    quiet = (walks_not work.effects (labels place), at)

    under : (content : Told) (label : Option ℕ) → Goes (advertises_under taken_all place content label work).work
    under content None = quiet
    under content (Some label) = (
      walks_wider work.effects (says taken_all place.peer (mapping place.pw_id label content) (changes (advertising place label content) work)).work.effects (λ cost. cost place Binds) (labels place)
          (λ cost. larger_second (cost place Withdraws) (cost place Binds))
          (changed_walk (advertising place label content) place (mapping place.pw_id label content) Binds work here (λ id. refl) (λ id. refl)),
      said_me place (mapping place.pw_id label content) Binds (changes (advertising place label content) work) here (λ id. refl) (λ id. refl) ∙ (advertising_me place label content work ∙ at),
    )

    wished : (wish : Option Told) → Goes (advertises_wish taken_all place wish work).work
    wished None = quiet
    wished (Some content) = under content (label_to_give work.edge)

    unless : (label : ℕ) (content : Told) (b : Bool) → Goes (cond b (stays work) (withdraws taken_all place label content work)).work
    unless label content true = quiet
    unless label content false = (
      walks_wider work.effects (says taken_all place.peer (withdrawal place.pw_id label content) (changes (withdrawing place) work)).work.effects (λ cost. cost place Withdraws) (labels place)
          (λ cost. larger_first (cost place Withdraws) (cost place Binds))
          (changed_walk (withdrawing place) place (withdrawal place.pw_id label content) Withdraws work here (λ id. refl) (λ id. refl)),
      said_me place (withdrawal place.pw_id label content) Withdraws (changes (withdrawing place) work) here (λ id. refl) (λ id. refl) ∙ (withdrawing_me place work ∙ at),
    )

    of : (local : LocalPart) → Goes (mends_local plan taken_all place local work).work
    of (Idle true) = quiet
    of (Idle false) = wished (wish plan work.edge place)
    of (Advertised label content) = unless label content (offer_stands place content (wish plan work.edge place))
    of (Withdrawing label) = quiet

  telling_chosen : (place : EndPlace) (status : PwStatus) (work : Work) → (changes (telling_status place status) work).edge.chosen ≡ work.edge.chosen
  unfolding changes with_end with_kept
  telling_chosen place status work = refl

  -- it is kept which spokes are chosen
  abbrev Keeps : (ℕ → Option WireId) → Work → Type 0
  Keeps was work = work.edge.chosen ≡ was

  status_walk : (was : ℕ → Option WireId) (place : EndPlace) (work : Work) → IsEndOf plan me place → Keeps was work
      → Walks plan me work.effects (mends_status plan taken_all place work).work.effects (λ cost. cost place States) × Keeps was (mends_status plan taken_all place work).work
  status_walk was place work here kept = of (end_at work.edge place).local where
    Goes : Work → Type 0
    Goes next = Walks plan me work.effects next.effects (λ cost. cost place States) × Keeps was next

    status : PwStatus
    status = status_to_tell plan work.edge place

    quiet : Goes work
    quiet = (walks_not work.effects (λ cost. cost place States), kept)

    by : (content : Told) (b : Bool) → Goes (cond b (stays work) (tells_new_status taken_all place content status work)).work
    by content true = quiet
    by content false = (
      changed_walk (telling_status place status) place (status_notification place.pw_id status content) States work here (λ id. refl) (λ id. refl),
      said_chosen place (status_notification place.pw_id status content) States (changes (telling_status place status) work) here (λ id. refl) (λ id. refl) ∙ (telling_chosen place status work ∙ kept),
    )

    over : (content : Told) (last : Option PwStatus) → Goes (tells_over taken_all place content status last work).work
    over content None = quiet
    over content (Some last) = by content (nat_eq last.0 status.0)

    of : (local : LocalPart) → Goes (mends_status_of plan taken_all place local work).work
    of (Idle declined) = quiet
    of (Advertised label content) = over content content.status
    of (Withdrawing label) = quiet

  pub piece_walk : (place : EndPlace) (piece : List Mac) (work : Work) → IsEndOf plan me place
      → Walks plan me work.effects (tells_piece taken_all place piece work).work.effects (λ cost. cost place Clears) × ((tells_piece taken_all place piece work).work.edge.chosen ≡ work.edge.chosen)
  piece_walk place piece work here = of (end_at work.edge place).local where
    of : (local : LocalPart) → Walks plan me work.effects (tells_piece_by taken_all place piece local work).work.effects (λ cost. cost place Clears)
        × ((tells_piece_by taken_all place piece local work).work.edge.chosen ≡ work.edge.chosen)
    of (Idle declined) = (walks_not work.effects (λ cost. cost place Clears), refl)
    of (Advertised label content) = (
      says_walk place (mac_withdrawal place.pw_id piece content) Clears work here (λ id. refl) (λ id. refl),
      said_chosen place (mac_withdrawal place.pw_id piece content) Clears work here (λ id. refl) (λ id. refl),
    )
    of (Withdrawing label) = (walks_not work.effects (λ cost. cost place Clears), refl)

  -- ---- a spoke that is chosen starts at the edge

  passed : (test : EndPlace → Bool) (xs : List EndPlace) (k : ℕ) (x : EndPlace) → slice_get (filter test xs) k ≡ Some x → test x ≡ true
  passed test [] k x is = absurd (cc (is))
  passed test (y ∷ ys) k x is = by (λ j at. passed test ys j x at) (test y) refl is where
    here : ((j : ℕ) → slice_get (filter test ys) j ≡ Some x → test x ≡ true) → (k : ℕ) → test y ≡ true → slice_get (y ∷ filter test ys) k ≡ Some x → test x ≡ true
    here rest zero at is = ap test (sym (same_Some y x is)) ∙ at
    here rest (suc k) at is = rest k is

    by : ((j : ℕ) → slice_get (filter test ys) j ≡ Some x → test x ≡ true) → (b : Bool) → test y ≡ b → slice_get (cond b (y ∷ filter test ys) (filter test ys)) k ≡ Some x → test x ≡ true
    by rest true at is = here rest k at is
    by rest false at is = rest k is

  choice_starts : (edge : EdgeState) → edge.me ≡ me → (service : ServiceId) (wire : WireId) → choice plan edge service ≡ Some wire → is_spoke_row service me (wire_row plan wire) ≡ true
  choice_starts edge at service wire is = of (chosen (spokes_of plan edge service)) is where
    test : EndPlace → Bool
    test place = is_spoke_row service me (wire_row plan place.wire)

    places_is : spoke_places plan edge.me service ≡ spoke_places plan me service
    places_is = ap (λ (k : EdgeId). spoke_places plan k service) at

    found : (o : Option EndPlace) (k : ℕ) → slice_get (spoke_places plan me service) k ≡ o → option_map (λ (place : EndPlace). place.wire) o ≡ Some wire → is_spoke_row service me (wire_row plan wire) ≡ true
    found None k there is = absurd (cc (is))
    found (Some place) k there is =
        ap (λ (w : WireId). is_spoke_row service me (wire_row plan w)) (sym (same_Some place.wire wire is)) ∙ passed test (end_places plan me) k place there

    of : (o : Option ℕ) → option_map (λ (place : EndPlace). place.wire) (option_and_then (slice_get (spoke_places plan edge.me service)) o) ≡ Some wire → is_spoke_row service me (wire_row plan wire) ≡ true
    of None is = absurd (cc (is))
    of (Some k) is = found (slice_get (spoke_places plan me service) k) k refl (ap (λ (l : List EndPlace). option_map (λ (place : EndPlace). place.wire) (slice_get l k)) (sym places_is) ∙ is)

  choosing_is : (edge : EdgeState) → (choosing plan edge).chosen ≡ (λ (service : ℕ). choice plan edge (record { 0 = service }))
  unfolding with_chosen
  choosing_is edge = refl

  -- which spokes are chosen by an edge
  abbrev Chose : EdgeState → (ℕ → Option WireId) → Type 0
  Chose edge was = was ≡ (λ (service : ℕ). choice plan edge (record { 0 = service }))

  pub chosen_row : (edge : EdgeState) → edge.me ≡ me → (was : ℕ → Option WireId) → Chose edge was → (wire : WireId) (row : WirePlan) → wire_row plan wire ≡ Some row → is_chosen was wire row ≡ true
      → is_spoke_row row.service me (wire_row plan wire) ≡ true
  chosen_row edge at was was_is wire row is chosen_it = by (was row.service.0) refl chosen_it where
    by : (o : Option WireId) → was row.service.0 ≡ o → is_chosen_wire wire o ≡ true → is_spoke_row row.service me (wire_row plan wire) ≡ true
    by None there it = clash it
    by (Some other) there it =
        ap (λ (n : ℕ). is_spoke_row row.service me (wire_row plan (record { 0 = n }))) (sym (eqb-true other.0 wire.0 it))
        ∙ choice_starts edge at row.service other (ap (λ (c : ℕ → Option WireId). c row.service.0) (sym was_is) ∙ there)

  abbrev spoke_clears : EndPlace → Costs → ℕ
  spoke_clears place cost = gate (starts_spoke me (wire_row plan place.wire)) (cost place Clears)

  choice_walk : (edge : EdgeState) → edge.me ≡ me → (before was : ℕ → Option WireId) → Chose edge was → (place : EndPlace) (work : Work) → IsEndOf plan me place → Keeps was work
      → Walks plan me work.effects (mends_choice plan taken_all before place work).work.effects (spoke_clears place) × Keeps was (mends_choice plan taken_all before place work).work
  choice_walk edge at before was was_is place work here kept = by (is_new_choice before work.edge.chosen place.wire (wire_row plan place.wire)) refl where
    starts_here : is_new_choice before work.edge.chosen place.wire (wire_row plan place.wire) ≡ true → starts_spoke me (wire_row plan place.wire) ≡ true
    starts_here anew =
        spoke_row_starts me here.row.service (wire_row plan place.wire)
        (chosen_row edge at was was_is place.wire here.row here.is
        (ap (λ (c : ℕ → Option WireId). is_chosen c place.wire here.row) (sym kept)
        ∙ first_holds (is_chosen work.edge.chosen place.wire here.row) (not (is_chosen before place.wire here.row))
        (ap (is_new_choice before work.edge.chosen place.wire) (sym here.is) ∙ anew)))

    same : (n : ℕ) (b : Bool) → b ≡ true → n ≤ gate b n
    same n true is = omega arith
    same n false is = clash is

    by : (b : Bool) → is_new_choice before work.edge.chosen place.wire (wire_row plan place.wire) ≡ b
        → Walks plan me work.effects (cond b (tells_piece taken_all place [] work) (stays work)).work.effects (spoke_clears place) × Keeps was (cond b (tells_piece taken_all place [] work) (stays work)).work
    by true anew = (
      walks_wider work.effects (tells_piece taken_all place [] work).work.effects (λ cost. cost place Clears) (spoke_clears place)
          (λ cost. same (cost place Clears) (starts_spoke me (wire_row plan place.wire)) (starts_here anew)) (piece_walk place [] work here).0,
      (piece_walk place [] work here).1 ∙ kept,
    )
    by false anew = (walks_not work.effects (spoke_clears place), kept)

  -- ---- at all ends

  each_walk : (mend : EndPlace → Work → Spoken) (step : EndPlace → Costs → ℕ) (Inv : Work → Type 0)
      → ((place : EndPlace) (work : Work) → IsEndOf plan me place → Inv work → Walks plan me work.effects (mend place work).work.effects (step place) × Inv (mend place work).work)
      → (places : List EndPlace) → AllByRecursion (IsEndOf plan me) places → (m : Spoken) → Inv m.work
      → Walks plan me m.work.effects (each_end mend places m).work.effects (λ cost. ends_sum (λ place. step place cost) places) × Inv (each_end mend places m).work
  each_walk mend step Inv one [] all m inv = (walks_not m.work.effects (λ cost. 0), inv)
  each_walk mend step Inv one (place ∷ places) all m inv =
      let first = one place m.work all.0 inv in
      let rest = each_walk mend step Inv one places all.1 (and_says m (mend place)) first.1 in (
        walks_then m.work.effects (mend place m.work).work.effects (each_end mend places (and_says m (mend place))).work.effects (step place) (λ cost. ends_sum (λ place. step place cost) places) first.0 rest.0,
        rest.1,
      )

  three_sums : (f g h : EndPlace → ℕ) (places : List EndPlace) → ends_sum f places + (ends_sum g places + ends_sum h places) ≤ ends_sum (λ place. f place + (g place + h place)) places
  three_sums f g h [] = omega arith
  three_sums f g h (place ∷ places) =
      one (f place) (g place) (h place) (ends_sum f places) (ends_sum g places) (ends_sum h places) (ends_sum (λ p. f p + (g p + h p)) places) (three_sums f g h places)
    where
      one : (a b c x y z t : ℕ) → x + (y + z) ≤ t → (a + x) + ((b + y) + (c + z)) ≤ (a + (b + c)) + t
      one a b c x y z t le = omega (arith, le)

  pub mends_walk : (work : Work) → work.edge.me ≡ me → Walks plan me work.effects (mends plan taken_all work).effects (mend_cost plan me)
  mends_walk work at =
      subst (λ (w : Work). Walks plan me work.effects w.effects (mend_cost plan me)) (sym (mends_takes plan taken_all (λ k. refl) work ∙ ap passes (ap (end_places plan) at)))
      (walks_wider work.effects (passes places).effects (λ cost. (ends_sum (λ p. labels p cost) places + (ends_sum (λ p. cost p States) places + ends_sum (λ p. spoke_clears p cost) places)) + 0) (mend_cost plan me)
      (λ cost. all (ends_sum (λ p. labels p cost) places) (ends_sum (λ p. cost p States) places) (ends_sum (λ p. spoke_clears p cost) places) (mend_cost plan me cost)
      (three_sums (λ p. labels p cost) (λ p. cost p States) (λ p. spoke_clears p cost) places))
      (walks_then work.effects moved.work.effects (passes places).effects (λ cost. ends_sum (λ p. labels p cost) places + (ends_sum (λ p. cost p States) places + ends_sum (λ p. spoke_clears p cost) places)) (λ cost. 0)
      (walks_then work.effects told.work.effects moved.work.effects (λ cost. ends_sum (λ p. labels p cost) places) (λ cost. ends_sum (λ p. cost p States) places + ends_sum (λ p. spoke_clears p cost) places)
      ends.0 (walks_then told.work.effects statuses.work.effects moved.work.effects (λ cost. ends_sum (λ p. cost p States) places) (λ cost. ends_sum (λ p. spoke_clears p cost) places) stated.0 chosen_anew.0))
      (walks_then moved.work.effects (forgets_downs plan places moved.work).effects (passes places).effects (λ cost. 0) (λ cost. 0)
      (walks_none moved.work.effects (forgets_downs plan places moved.work).effects (λ cost. 0) (forgets_put plan me (λ p s. false) places moved.work))
      (walks_none (forgets_downs plan places moved.work).effects (passes places).effects (λ cost. 0) (downs_put plan me (λ p s. false) places (forgets_downs plan places moved.work))))))
    where
      all : (a b c t : ℕ) → a + (b + c) ≤ t → (a + (b + c)) + 0 ≤ t
      all a b c t le = omega (arith, le)

      places : List EndPlace
      places = end_places plan me

      passes : List EndPlace → Work
      passes ps = tells_downs plan ps (forgets_downs plan ps
          (each_end (mends_choice plan taken_all work.edge.chosen) ps (each_end (mends_status plan taken_all) ps (then_changes (choosing plan) (each_end (mends_end plan taken_all) ps (stays work))))).work)

      told : Spoken
      told = each_end (mends_end plan taken_all) places (stays work)

      chose : Spoken
      chose = then_changes (choosing plan) told

      statuses : Spoken
      statuses = each_end (mends_status plan taken_all) places chose

      moved : Spoken
      moved = each_end (mends_choice plan taken_all work.edge.chosen) places statuses

      ends : Walks plan me work.effects told.work.effects (λ cost. ends_sum (λ p. labels p cost) places) × (told.work.edge.me ≡ me)
      ends = each_walk (mends_end plan taken_all) labels (λ w. w.edge.me ≡ me) (λ place w here inv. end_walk place w here inv) places (places_are plan me) (stays work) at

      was : ℕ → Option WireId
      was = chose.work.edge.chosen

      was_is : Chose told.work.edge was
      was_is = ap (λ (e : EdgeState). e.chosen) (changed_edge (choosing plan) told.work) ∙ choosing_is told.work.edge

      stated : Walks plan me told.work.effects statuses.work.effects (λ cost. ends_sum (λ p. cost p States) places) × Keeps was statuses.work
      stated =
          let all = each_walk (mends_status plan taken_all) (λ p cost. cost p States) (Keeps was) (λ place w here kept. status_walk was place w here kept) places (places_are plan me) chose refl in
          (subst (λ (es : List Effect). Walks plan me es statuses.work.effects (λ cost. ends_sum (λ p. cost p States) places)) (changed_effects (choosing plan) told.work) all.0, all.1)

      chosen_anew : Walks plan me statuses.work.effects moved.work.effects (λ cost. ends_sum (λ p. spoke_clears p cost) places) × Keeps was moved.work
      chosen_anew = each_walk (mends_choice plan taken_all work.edge.chosen) spoke_clears (Keeps was) (λ place w here kept. choice_walk told.work.edge ends.1 work.edge.chosen was was_is place w here kept) places (places_are plan me) statuses stated.1
