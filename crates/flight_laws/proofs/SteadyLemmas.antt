-- What is kept by calm steps of an edge at work is kept by mending, and by what an edge makes of a message: changes of its ends,
-- effects that say nothing to a neighbour, and messages about pseudowires in sessions that are up.
use Rattle.std.proofs.Common.{◌≡◌, ◌≢◌, ◌≤◌, ◌<◌, ◌^◌, ◌==◌, ◌&&◌, ◌||◌, ◌∙◌, ℕ, Bool, true, false, cond, List, [], ◌∷◌, Option, Some, None, slice_get, nat_eq, refl, sym, ap, subst, arith}
use Rattle.std.proofs.lemmas.Bool.{eq-eqb}
use Rattle.std.specs.Prelude.{option_map}
use Rattle.std.specs.List.{find}
use Rattle.std.specs.Prelude.{option_map, slice_index}
use Rattle.std.specs.List.{AllByRecursion}
use Rattle.std.proofs.lemmas.Bool.Decides.{nat_tests}
use Rattle.std.proofs.lemmas.Option.{same_Some}
use Rattle.label_space.specs.declared.kept.Kept.{Kept}
use Rattle.label_space.specs.declared.kept.KeptState.{KeptState}
use Rattle.label_space.specs.Kept.{is_free, kept_at, label_of, least_free}
use Rattle.label_space.specs.Labels.{numbers_end}
use Rattle.net_base.specs.declared.plan.Plan.{Plan}
use Rattle.net_base.specs.declared.plan.edge_plan.EdgePlan.{EdgePlan}
use Rattle.net_base.specs.declared.plan.places.EdgeId.{EdgeId}
use Rattle.net_base.specs.declared.trace.down.Down.{Down}
use Rattle.net_values.specs.declared.mac.Mac.{Mac}
use Rattle.net_base.specs.plan.Accepted.{IsChecked, IsOffer, IsWireOf}
use Rattle.net_base.specs.plan.Paths.{edge_address, is_first, mate, offer_of}
use Rattle.net_base.specs.plan.Places.{wire_row}
use Rattle.net_values.specs.Label.{IsLabel}
use Rattle.net_values.proofs.BoolLemmas.{clash, second_holds}
use Rattle.net_values.proofs.NumberLemmas.{below_32_bits}
use Rattle.net_values.proofs.OptionLemmas.{same_number_held, none_some}
use Rattle.net_values.proofs.RowLemmas.{row_holds}
use Rattle.ldp_grammar.specs.declared.message.Message.{Message}
use Rattle.ldp_grammar.specs.Written.{IsState}
use Rattle.ldp_grammar.proofs.OctetLemmas.{octet_front}
use Rattle.ldp_grammar.proofs.WrittenOctets.{no_octets}
use Rattle.pw_tlvs.specs.declared.point.Point.{Point}
use Rattle.pw_tlvs.specs.declared.pw_status.PwStatus.{PwStatus}
use Rattle.pw_status.proofs.StatusLemmas.{combined_most}
use Rattle.pw_status.specs.Status.{combined}
use Rattle.pw_signalling.specs.declared.binding.Binding.{Binding}
use Rattle.pw_signalling.specs.declared.told.Told.{Told}
use Rattle.pw_signalling.specs.End.{EndState, LocalPart, Idle, Advertised}
use Rattle.pw_signalling.specs.Rows.{advertised, telling, withdrawn}
use Rattle.pw_messages.specs.Content.{content_of, mac_withdrawal, mapping, status_notification, withdrawal}
use Rattle.pw_stitch.specs.Passing.{own_point, passed_status, past_point, stated_or_clear, wanted}
use Rattle.session_core.specs.Laws.{IsAddress}
use Rattle.spoke_redundancy.specs.Telling.{is_not_chosen}
use Rattle.edge_model.specs.Across.{held_from, held_of, mate_of}
use Rattle.edge_model.specs.declared.effect.Effect.{Effect}
use Rattle.edge_model.specs.declared.effect.Effect.TheVariants.{Said, Wire}
use Rattle.edge_model.specs.declared.end_place.EndPlace.{EndPlace}
use Rattle.edge_model.specs.Mend.{advertising, is_up_with, passed_from, passed_wish, status_held, status_offered, telling_status, tells_new_status, tells_status, terminal_wish, wish, wish_by, wish_of, withdrawing, withdraws}
use Rattle.edge_model.specs.Role.{role_at, status_to_tell}
use Rattle.edge_model.specs.Session.{says}
use Rattle.edge_model.specs.State.{EdgeState, end_at, with_end, with_next_label, with_told_down, with_kept}
use Rattle.edge_model.specs.Work.{Work, changes, gives}
use Rattle.pw_status.specs.Status.{method_by}
use Rattle.network_model.specs.Absorb.{taken_all}
use Rattle.flight_laws.specs.Ends.{AreFieldOffers, HasTypes, IsFieldOffer}
use Rattle.flight_laws.specs.Meeting.{TellsWell, closes, said_to}
use Rattle.flight_laws.specs.Sound.{CanBeMapped, IsSoundEnd, IsSoundHeld, IsSoundPart, IsSoundTold, TellsSoundly, limit_of, point_limit}
use Rattle.flight_laws.proofs.MendingLemmas.{KeptByRows}
use Rattle.flight_laws.proofs.OfferLemmas.{IsOfWires, IsPointAddress, clearance_is, mapping_sound, offer_sound, own_in_range, own_octets, past_sound, sound_can, status_is, withdrawal_is}
use Rattle.flight_laws.proofs.PieceLemmas.{IsPiece}
use Rattle.flight_laws.proofs.PlaceLemmas.{IsEndOf}
use Rattle.flight_laws.proofs.SoundLemmas.{sound_giving, sound_same, sound_with_end}
use Rattle.edge_model.specs.Labels.{label_to_give}

-- an effect that is no octets for a neighbour
abbrev pub IsUnsaid : Effect → Type 0
IsUnsaid (Said peer octets) = ⊥
IsUnsaid e = Unit {0}

-- an effect that says nothing to a neighbour, and nothing of sessions
pub record IsSilent (e : Effect) : Type 0 where
  pub unsaid : IsUnsaid e
  pub says : (place : ℕ) → said_to place (e ∷ []) ≡ []
  pub closed : (place : ℕ) → closes place (e ∷ []) ≡ false
  pub well : TellsWell e

-- what calm steps keep
pub record IsSteady (plan : Plan) (me : EdgeId) (I : Work → Type 0) : Type 0 where
  pub placed : (work : Work) → I work → work.edge.me ≡ me
  pub sound : (work : Work) → I work → TellsSoundly (point_limit plan me.0) work.edge
  pub changes : (change : EdgeState → EdgeState) (work : Work) → (change work.edge).peering ≡ work.edge.peering → (change work.edge).me ≡ work.edge.me
      → TellsSoundly (point_limit plan me.0) (change work.edge)
      → I work → I (changes change work)
  pub gives : (e : Effect) (work : Work) → IsSilent e → I work → I (gives e work)
  pub says : (peer : EdgeId) (message : ℕ → Message) (work : Work) → is_up_with (work.edge.peering peer.0) ≡ true → IsOfWires message → I work → I (says taken_all peer message work).work

-- ---- what a switching point holds

-- what an end that is sound holds
held_sound : (limit : ℕ) (up : Bool) (e : EndState) (binding : Binding) → IsSoundEnd limit up e → e.remote ≡ Some binding → IsSoundTold limit binding.told
held_sound limit true e binding sound is = subst (IsSoundHeld limit) is sound.1
held_sound limit false e binding sound is = none_some binding (sym sound.1 ∙ is)

pub bound_sound : {limit : ℕ → ℕ} → (edge : EdgeState) (wire peer : ℕ) (binding : Binding) → TellsSoundly limit edge → (edge.ends wire peer).remote ≡ Some binding
    → IsSoundTold (limit wire) binding.told
bound_sound {limit} edge wire peer binding sound is = held_sound (limit wire) (is_up_with (edge.peering peer)) (edge.ends wire peer) binding (sound.ends wire peer) is

-- ---- the status that an end should tell

pub small_status : (bits : ℕ) (standby : Bool) → bits ≤ 31 → (combined bits standby).0 < 2 ^ 32
small_status bits standby few = omega (arith, few, combined_most bits standby)

pub stated_small : (status : Option PwStatus) → IsState status → (stated_or_clear status).0 < 2 ^ 32
stated_small None small = omega arith
stated_small (Some status) small = small

pub status_small : {limit : ℕ → ℕ} → (plan : Plan) (edge : EdgeState) (place : EndPlace) → TellsSoundly limit edge → (status_to_tell plan edge place).0 < 2 ^ 32
status_small {limit} plan edge place sound = by_side place.terminal (small_status (edge.bits place.wire.0) (is_not_chosen (role_at plan edge place)) (sound.bits place.wire.0))
    (across (mate_of edge.me place (wire_row plan place.wire)))
  where
    of_held : (held : Option Binding) → ((binding : Binding) → held ≡ Some binding → IsState binding.told.status) → (passed_status held).0 < 2 ^ 32
    of_held None small = omega arith
    of_held (Some binding) small = stated_small binding.told.status (small binding refl)

    across : (from : Option EdgeId) → (passed_status (held_from (held_of edge place.wire) from)).0 < 2 ^ 32
    across None = omega arith
    across (Some from) = of_held (edge.ends place.wire.0 from.0).remote (λ binding is. (bound_sound edge place.wire.0 from.0 binding sound is).status)

    by_side : (b : Bool) {own passed : PwStatus} → own.0 < 2 ^ 32 → passed.0 < 2 ^ 32 → (cond b own passed).0 < 2 ^ 32
    by_side true own passed = own
    by_side false own passed = passed

-- ---- rows of the plan

pub end_small : (plan : Plan) (me : EdgeId) (place : EndPlace) → IsChecked plan → IsEndOf plan me place → place.pw_id < 2 ^ 32
end_small plan me place checked is =
    let wire : IsWireOf plan is.row = row_holds (IsWireOf plan) plan.wires place.wire.0 is.row is.is checked.wires in
    rw is.pw_id (below_32_bits is.row.pw_id wire.pw_id.1)

pub offer_field : (plan : Plan) (me : EdgeId) (place : EndPlace) (k : ℕ) → HasTypes plan → (is : IsEndOf plan me place) → IsFieldOffer (offer_of is.row k)
offer_field plan me place k types is = by_side (is_first k is.row.path) where
  both : AreFieldOffers is.row
  both = row_holds AreFieldOffers plan.wires place.wire.0 is.row is.is types.offers

  by_side : (b : Bool) → IsFieldOffer (cond b is.row.near is.row.far)
  by_side true = both.near
  by_side false = both.far

pub offer_fits : (plan : Plan) (me : EdgeId) (place : EndPlace) (k : ℕ) → IsChecked plan → (is : IsEndOf plan me place) → IsOffer (offer_of is.row k)
offer_fits plan me place k checked is = by_side (is_first k is.row.path) where
  wire : IsWireOf plan is.row
  wire = row_holds (IsWireOf plan) plan.wires place.wire.0 is.row is.is checked.wires

  by_side : (b : Bool) → IsOffer (cond b is.row.near is.row.far)
  by_side true = wire.near
  by_side false = wire.far

-- the address of an edge of the plan
pub edge_address_is : (plan : Plan) (edge : EdgeId) → HasTypes plan → IsPointAddress (edge_address plan edge)
edge_address_is plan edge types = by_row (slice_get plan.edges edge.0) refl where
  octets_are : (xs : List ℕ) → AllByRecursion (λ (x : ℕ). x < 256) xs → (i : ℕ) → slice_index xs i < 256
  octets_are [] all i = no_octets i
  octets_are (x ∷ xs) all i = octet_front x xs all.0 (octets_are xs all.1) i

  by_row : (row : Option EdgePlan) → slice_get plan.edges edge.0 ≡ row → IsPointAddress (option_map (λ (r : EdgePlan). r.address) row)
  by_row None is = tt
  by_row (Some row) is = (let address : IsAddress row.address = row_holds (λ (r : EdgePlan). IsAddress r.address) plan.edges edge.0 row is types.addresses in (address.four, octets_are row.address.0 address.octets))

-- ---- what an end should tell

-- it can be written, and the session is up
pub record WishesSoundly (edge : EdgeState) (place : EndPlace) (content : Told) : Type 0 where
  pub up : is_up_with (edge.peering place.peer.0) ≡ true
  pub sound : IsSoundTold 3 content

module _ (plan : Plan) (me : EdgeId) (checked : IsChecked plan) (types : HasTypes plan) (edge : EdgeState) (place : EndPlace) (content : Told) (sound : TellsSoundly (point_limit plan me.0) edge) (is : IsEndOf plan me place) where
  offer_wished : place.terminal ≡ true → terminal_wish plan edge place (offer_of is.row edge.me.0) ≡ Some content → IsSoundTold 3 content
  offer_wished terminal wished = by_test (tells_status (method_by (offer_of is.row edge.me.0).status (status_held (end_at edge place).remote)) || edge.bits place.wire.0 == 0) wished where
    told_status : (b : Bool) → IsState (cond b (Some (status_to_tell plan edge place)) None)
    told_status true = status_small plan edge place sound
    told_status false = tt

    by_test : (b : Bool) → cond b (Some (content_of (offer_of is.row edge.me.0) (status_offered plan edge place (offer_of is.row edge.me.0)))) None ≡ Some content → IsSoundTold 3 content
    by_test true e = subst (IsSoundTold 3) (same_Some (content_of (offer_of is.row edge.me.0) (status_offered plan edge place (offer_of is.row edge.me.0))) content e)
        (offer_sound 3 (offer_of is.row edge.me.0) (status_offered plan edge place (offer_of is.row edge.me.0)) (told_status (offer_of is.row edge.me.0).status)
        (offer_field plan me place edge.me.0 types is) (offer_fits plan me place edge.me.0 checked is))
    by_test false e = none_some content e

  two_taken : place.terminal ≡ false → point_limit plan me.0 place.wire.0 ≡ 2
  two_taken passes = ap (limit_of me) is.is ∙ ap (λ (b : Bool). cond b 3 2) (sym is.terminal ∙ passes)

  passed_wished : place.terminal ≡ false → (from : Option EdgeId) → passed_from plan is.row edge.me (held_of edge place.wire) from ≡ Some content → IsSoundTold 3 content
  passed_wished passes None e = none_some content e
  passed_wished passes (Some from) e = by_held (edge.ends place.wire.0 from.0).remote refl e where
    own : Point
    own = own_point is.row.pw_id (edge_address plan edge.me) (edge_address plan from)

    small : is.row.pw_id < 2 ^ 32
    small = subst (λ (n : ℕ). n < 2 ^ 32) is.pw_id (end_small plan me place checked is)

    by_held : (held : Option Binding) → (edge.ends place.wire.0 from.0).remote ≡ held → wanted (own_point is.row.pw_id (edge_address plan edge.me) (edge_address plan from)) held
        ≡ Some content → IsSoundTold 3 content
    by_held None there e = none_some content e
    by_held (Some binding) there e = subst (IsSoundTold 3) (same_Some (past_point (own_point is.row.pw_id (edge_address plan edge.me) (edge_address plan from)) binding.told) content e)
        (past_sound 2 (own_point is.row.pw_id (edge_address plan edge.me) (edge_address plan from)) binding.told
        (own_in_range is.row.pw_id (edge_address plan edge.me) (edge_address plan from) small (edge_address_is plan edge.me types) (edge_address_is plan from types))
        (own_octets is.row.pw_id (edge_address plan edge.me) (edge_address plan from) (edge_address_is plan edge.me types) (edge_address_is plan from types))
        (subst (λ (limit : ℕ). IsSoundTold limit binding.told) (two_taken passes) (bound_sound edge place.wire.0 from.0 binding sound there)))

  by_terminal : (b : Bool) → place.terminal ≡ b → cond b (terminal_wish plan edge place (offer_of is.row edge.me.0)) (passed_wish plan edge place is.row) ≡ Some content → IsSoundTold 3 content
  by_terminal true terminal e = offer_wished terminal e
  by_terminal false passes e = passed_wished passes (mate is.row edge.me.0 place.peer.0) e

  pub wishes : wish plan edge place ≡ Some content → WishesSoundly edge place content
  wishes wished = by_test (edge.wire_on place.wire.0 && is_up_with (edge.peering place.peer.0)) refl (ap (wish_of plan edge place) (sym is.is) ∙ wished) where
    by_test : (b : Bool) → edge.wire_on place.wire.0 && is_up_with (edge.peering place.peer.0) ≡ b → cond b (wish_by plan edge place is.row) None ≡ Some content → WishesSoundly edge place content
    by_test true holds e = record {
      up = second_holds (edge.wire_on place.wire.0) (is_up_with (edge.peering place.peer.0)) holds;
      sound = by_terminal place.terminal refl e;
    }
    by_test false holds e = none_some content e

-- ---- an end that advertises

pub advertised_up : (limit : ℕ) (up : Bool) (e : EndState) (label : ℕ) (told : Told) → IsSoundEnd limit up e → e.local ≡ Advertised label told → (up ≡ true) × CanBeMapped label told
advertised_up limit true e label told sound at = (refl, subst IsSoundPart at sound.0)
advertised_up limit false e label told sound at = clash (sym (ap Rattle.flight_laws.specs.Binding.is_unasked at) ∙ sound.0)

below_end : (n : ℕ) → n ≤ numbers_end → n == numbers_end ≡ false → n ≤ 1048575
below_end n most some = grind (arith, nat_tests)

-- the least free number is kept
least_there : (label : ℕ) (kept : List Kept) → least_free kept ≡ Some label → kept_at label kept ≢ None
least_there label [] found = λ none. nothing found where
  nothing : None ≡ Some label → ⊥
  nothing e = cc
least_there label (k ∷ ks) found = by (is_free k) found (λ rest. least_there label ks rest) where
  some : (s : KeptState) → Some s ≡ None → ⊥
  some s e = cc

  else : (here : Bool) → (kept_at label ks ≢ None) → cond here (Some k.state) (kept_at label ks) ≢ None
  else true there none = some k.state none
  else false there none = there none

  at : (here : Bool) → here ≡ true → cond here (Some k.state) (kept_at label ks) ≢ None
  at true is none = some k.state none
  at false is none = clash is

  by : (free : Bool) → option_map label_of (cond free (Some k) (find is_free ks)) ≡ Some label → (least_free ks ≡ Some label → kept_at label ks ≢ None)
      → cond (nat_eq k.label label) (Some k.state) (kept_at label ks) ≢ None
  by true found rest = at (nat_eq k.label label) (eq-eqb k.label label (same_number_held k.label label found))
  by false found rest = else (nat_eq k.label label) (rest found)

-- what is given is a label: the next number, or one that was given before
pub next_is_label : {limit : ℕ → ℕ} → (edge : EdgeState) (label : ℕ) → TellsSoundly limit edge → label_to_give edge ≡ Some label → IsLabel label
next_is_label edge label sound given = by (edge.next_label == numbers_end) refl where
  by : (last : Bool) → (edge.next_label == numbers_end) ≡ last → IsLabel label
  by true last = sound.kept label (least_there label edge.kept (rw last at given))
  by false some =
      let same : edge.next_label ≡ label = same_number_held edge.next_label label (rw some at given) in
      subst (λ (l : ℕ). IsLabel l) same (record { above = sound.least; below = below_end edge.next_label sound.most some })

-- what an end tells is another part, and what it holds is the same
local_sound : (limit : ℕ) (up : Bool) (e : EndState) (local : LocalPart) → up ≡ true → IsSoundPart local → IsSoundEnd limit up e → IsSoundEnd limit up (record { local = local; remote = e.remote })
local_sound limit true e local is part sound = (part, sound.1)
local_sound limit false e local is part sound = clash is

advertising_sound : {limit : ℕ → ℕ} → (place : EndPlace) (label : ℕ) (content : Told) (edge : EdgeState) → is_up_with (edge.peering place.peer.0) ≡ true → (end_at edge place).local
    ≡ Idle false → CanBeMapped label content
    → TellsSoundly limit edge → TellsSoundly limit (advertising place label content edge)
unfolding with_end with_kept
advertising_sound {limit} place label content edge up at can sound =
    sound_giving label (with_end place (advertised label content (end_at edge place)) edge)
    (sound_with_end place (advertised label content (end_at edge place)) edge
    (local_sound (limit place.wire.0) (is_up_with (edge.peering place.peer.0)) (end_at edge place) (advertised label content (end_at edge place)).local up (rw at can)
    (sound.ends place.wire.0 place.peer.0)) sound)

pub advertising_rest : (place : EndPlace) (content : Told) (label : ℕ) (edge : EdgeState) → ((advertising place label content edge).peering ≡ edge.peering)
    × ((advertising place label content edge).me ≡ edge.me)
unfolding with_end with_next_label with_kept
advertising_rest place content label edge = (refl, refl)

pub with_end_rest : (place : EndPlace) (end : EndState) (edge : EdgeState) → ((with_end place end edge).peering ≡ edge.peering) × ((with_end place end edge).me ≡ edge.me)
unfolding with_end with_kept
with_end_rest place end edge = (refl, refl)

changed_up : (change : EdgeState → EdgeState) (work : Work) (peer : EdgeId) → (change work.edge).peering ≡ work.edge.peering → is_up_with (work.edge.peering peer.0) ≡ true
    → is_up_with ((changes change work).edge.peering peer.0) ≡ true
unfolding changes
changed_up change work peer same up = rw same up

down_rest : (limit : ℕ → ℕ) (place : EndPlace) (down : Option Down) (edge : EdgeState)
    → ((with_told_down place.wire down edge).peering ≡ edge.peering) × ((with_told_down place.wire down edge).me ≡ edge.me)
    × (TellsSoundly limit edge → TellsSoundly limit (with_told_down place.wire down edge))
unfolding with_told_down
down_rest limit place down edge = (refl, refl, λ sound. sound_same edge _ refl refl refl refl refl sound)

-- ---- mending

module _ (plan : Plan) (me : EdgeId) (checked : IsChecked plan) (types : HasTypes plan) (I : Work → Type 0) (steady : IsSteady plan me I) where
  steady_advertises : (place : EndPlace) (label : ℕ) (content : Told) (work : Work) → IsEndOf plan me place → (end_at work.edge place).local ≡ Idle false → wish plan work.edge place ≡ Some content
      → label_to_give work.edge ≡ Some label → I work → I (says taken_all place.peer (mapping place.pw_id label content) (changes (advertising place label content) work)).work
  steady_advertises place label content work is at wished given i =
      let sound : TellsSoundly (point_limit plan me.0) work.edge = steady.sound work i in
      let told : WishesSoundly work.edge place content = wishes plan me checked types work.edge place content sound is wished in
      let one : IsLabel label = next_is_label work.edge label sound given in
      let rest = advertising_rest place content label work.edge in
      steady.says place.peer (mapping place.pw_id label content) (changes (advertising place label content) work)
      (changed_up (advertising place label content) work place.peer rest.0 told.up)
      (mapping_sound place.pw_id label content (end_small plan me place checked is) one told.sound)
      (steady.changes (advertising place label content) work rest.0 rest.1 (advertising_sound place label content work.edge told.up at (sound_can 3 label content one told.sound) sound) i)

  steady_withdraws : (place : EndPlace) (label : ℕ) (content : Told) (work : Work) → IsEndOf plan me place → (end_at work.edge place).local ≡ Advertised label content → I work
      → I (withdraws taken_all place label content work).work
  steady_withdraws place label content work is at i =
      let sound : TellsSoundly (point_limit plan me.0) work.edge = steady.sound work i in
      let can = advertised_up (point_limit plan me.0 place.wire.0) (is_up_with (work.edge.peering place.peer.0)) (end_at work.edge place) label content (sound.ends place.wire.0 place.peer.0) at in
      let rest = with_end_rest place (withdrawn (end_at work.edge place)) work.edge in
      steady.says place.peer (withdrawal place.pw_id label content) (changes (withdrawing place) work) (changed_up (withdrawing place) work place.peer rest.0 can.0)
      (withdrawal_is place.pw_id label content (end_small plan me place checked is) can.1)
      (steady.changes (withdrawing place) work rest.0 rest.1
      (sound_with_end place (withdrawn (end_at work.edge place)) work.edge
      (local_sound (point_limit plan me.0 place.wire.0) (is_up_with (work.edge.peering place.peer.0)) (end_at work.edge place) (withdrawn (end_at work.edge place)).local can.0
      (rw at can.1.is_label) (sound.ends place.wire.0 place.peer.0)) sound) i)

  steady_tells : (place : EndPlace) (label : ℕ) (content : Told) (work : Work) → IsEndOf plan me place → (end_at work.edge place).local ≡ Advertised label content
      → I work → I (tells_new_status taken_all place content (status_to_tell plan work.edge place) work).work
  steady_tells place label content work is at i =
      let sound : TellsSoundly (point_limit plan me.0) work.edge = steady.sound work i in
      let status : PwStatus = status_to_tell plan work.edge place in
      let can = advertised_up (point_limit plan me.0 place.wire.0) (is_up_with (work.edge.peering place.peer.0)) (end_at work.edge place) label content (sound.ends place.wire.0 place.peer.0) at in
      let rest = with_end_rest place (telling status (end_at work.edge place)) work.edge in
      steady.says place.peer (status_notification place.pw_id status content) (changes (telling_status place status) work) (changed_up (telling_status place status) work place.peer rest.0 can.0)
      (status_is place.pw_id label status content (end_small plan me place checked is) (status_small plan work.edge place sound) can.1)
      (steady.changes (telling_status place status) work rest.0 rest.1
      (sound_with_end place (telling status (end_at work.edge place)) work.edge
      (local_sound (point_limit plan me.0 place.wire.0) (is_up_with (work.edge.peering place.peer.0)) (end_at work.edge place) (telling status (end_at work.edge place)).local can.0
      (rw at (record { is_label = can.1.is_label; kind = can.1.kind; group = can.1.group })) (sound.ends place.wire.0 place.peer.0)) sound) i)

  steady_clears : (place : EndPlace) (label : ℕ) (content : Told) (addresses : List Mac) (work : Work) → IsEndOf plan me place → (end_at work.edge place).local
      ≡ Advertised label content → IsPiece addresses
      → I work → I (says taken_all place.peer (mac_withdrawal place.pw_id addresses content) work).work
  steady_clears place label content addresses work is at piece i =
      let can = advertised_up (point_limit plan me.0 place.wire.0) (is_up_with (work.edge.peering place.peer.0)) (end_at work.edge place) label content
      ((steady.sound work i).ends place.wire.0 place.peer.0) at in
      steady.says place.peer (mac_withdrawal place.pw_id addresses content) work can.0 (clearance_is place.pw_id label addresses content (end_small plan me place checked is) piece can.1) i

  steady_tells_down : (place : EndPlace) (down : Option Down) (work : Work) → I work → I (gives (Wire place.wire down) (changes (with_told_down place.wire down) work))
  steady_tells_down place down work i =
      let rest = down_rest (point_limit plan me.0) place down work.edge in
      steady.gives (Wire place.wire down) (changes (with_told_down place.wire down) work) (record { unsaid = tt; says = λ k. refl; closed = λ k. refl; well = tt })
      (steady.changes (with_told_down place.wire down) work rest.0 rest.1 (rest.2 (steady.sound work i)) i)

  pub steady_rows : KeptByRows plan me I
  steady_rows = record {
    placed = steady.placed;
    advertises = steady_advertises;
    withdraws = λ place label content work is at wished i. steady_withdraws place label content work is at i;
    tells = λ place label content last work is at told other i. steady_tells place label content work is at i;
    clears = steady_clears;
    tells_down = λ place down work is i. steady_tells_down place down work i;
    others = λ change work keeps peering i.
        steady.changes change work peering keeps.me (sound_same work.edge (change work.edge) keeps.next_label keeps.kept keeps.bits peering keeps.ends (steady.sound work i)) i;
  }
