-- What keeps ends settled: a change leaves each end settled that sees nothing of it.
use Rattle.std.proofs.Common.{◌≡◌, ◌≢◌, ◌<◌, ◌≤◌, ◌∙◌, ◌||◌, ◌&&◌, not, is_some, length, drop, map, position, option_and_then, option_map, slice_get, ℕ, zero, suc, Bool, true, false, List, [], ◌∷◌, Option, Some, None, IfSome, cond, filter, nat_eq, refl, ap, sym, subst, inl, inr, arith}
use Rattle.std.proofs.lemmas.Bool.{cases_Bool, eq-eqb, eqb-true}
use Rattle.std.specs.List.{AllByRecursion}
use Rattle.net_values.proofs.BoolLemmas.{or_false}
use Rattle.net_values.proofs.NumberLemmas.{apart_test}
use Rattle.net_base.specs.declared.outside.link_call.LinkCall.{LinkCall}
use Rattle.net_base.specs.declared.plan.Plan.{Plan}
use Rattle.net_base.specs.declared.plan.places.EdgeId.{EdgeId}
use Rattle.net_base.specs.declared.plan.places.ServiceId.{ServiceId}
use Rattle.net_base.specs.declared.plan.places.WireId.{WireId}
use Rattle.net_base.specs.declared.plan.wire_plan.WirePlan.{WirePlan}
use Rattle.net_base.specs.declared.trace.down.Down.{Down}
use Rattle.net_base.specs.plan.Paths.{is_first, is_last, mate, offer_of}
use Rattle.net_base.specs.plan.Places.{is_mesh_class, wire_row}
use Rattle.net_base.specs.plan.Roles.{is_spoke_from}
use Rattle.pw_messages.specs.Content.{content_of}
use Rattle.pw_messages.specs.LinkAnswers.{Answers}
use Rattle.hvpls_spokes.specs.Port.{is_wire_port, ports_of}
use Rattle.label_space.specs.declared.kept.Kept.{Kept}
use Rattle.label_space.specs.Kept.{least_free}
use Rattle.pw_tlvs.specs.declared.pw_status.PwStatus.{PwStatus}
use Rattle.pw_status.specs.Status.{combined, method_by}
use Rattle.pw_signalling.specs.declared.binding.Binding.{Binding}
use Rattle.pw_signalling.specs.declared.end_role.EndRole.{EndRole}
use Rattle.pw_signalling.specs.declared.end_role.EndRole.TheVariants as role
use Rattle.pw_signalling.specs.declared.told.Told.{Told}
use Rattle.pw_signalling.specs.Down.{down}
use Rattle.pw_signalling.specs.End.{EndState, fresh}
use Rattle.pw_signalling.specs.Laws.{own_label}
use Rattle.pw_signalling.specs.Rows.{advertised, lost, renewed}
use Rattle.pw_stitch.specs.Passing.{passed_status}
use Rattle.spoke_redundancy.specs.declared.spoke.Spoke.{Spoke}
use Rattle.spoke_redundancy.specs.Choice.{chosen}
use Rattle.spoke_redundancy.specs.Telling.{is_not_chosen}
use Rattle.edge_model.specs.Across.{held_beyond, held_from, held_of, mate_of}
use Rattle.edge_model.specs.declared.effect.Effect.{Effect}
use Rattle.edge_model.specs.declared.end_place.EndPlace.{EndPlace}
use Rattle.edge_model.specs.EndPlaces.{end_places, is_at, is_terminal}
use Rattle.edge_model.specs.Labels.{keeps_lost, keeps_one, label_to_give, left_label}
use Rattle.edge_model.specs.Mend.{advertising, and_says, cause_number, each_end, is_up_with, mends_end, mends_status, passed_from, port_of_wire, status_held, tells_status, wish, wish_of}
use Rattle.edge_model.specs.Put.{Spoken, stays}
use Rattle.edge_model.specs.Role.{down_at, end_role_of, is_chosen_wire, own_status, role_at, role_in, status_to_tell}
use Rattle.edge_model.specs.Session.{clears_ends, losing_ends}
use Rattle.edge_model.specs.Settled.{IsForgotten, IsSettled, is_down_told, is_mended, is_told, tells_now, tells_wish}
use Rattle.edge_model.specs.Spokes.{choice, is_spoke_row, spoke_at, spoke_places}
use Rattle.edge_model.specs.State.{EdgeState, Peering, addresses_of, end_at, has_end, put_at, with_bits, with_chosen, with_end, with_ends_beside, with_kept, with_next_label, with_peering, with_priority, with_renewed, with_told_down, with_wire, without_port}
use Rattle.edge_model.specs.Work.{Work, changes}
use Rattle.edge_model.proofs.MendedLemmas.{IsMended, forgets_down_not, mends_end_not, mends_not, mends_status_not, tells_down_not, fewer}
use Rattle.edge_model.proofs.PlaceLemmas.{IsEndOf, places_are}
use Rattle.edge_model.proofs.CommonLemmas.{put_away}
use Rattle.pw_ends.specs.Ends.{place_of, seen_ends}
use Rattle.pw_ends.proofs.BesideLemmas.{beside_none, beside_peer, beside_place, beside_within}
use Rattle.peer_dialogue.specs.Peering.{at_edge}
use Rattle.provider_edge.specs.declared.end_marks.EndMarks.{EndMarks}
use Rattle.provider_edge.specs.Changes.{changing}
use Rattle.provider_edge.specs.Lists.{EdgeLists, seen}
use Rattle.provider_edge.specs.Marks.{IsUnmarked, IsWider, Marked, MarksBeside, MarksEach, MarksWire, place_at}
use Rattle.provider_edge.specs.Mending.{forgotten_down, mended_down}
use Rattle.provider_edge.specs.Spokes.{starts_spoke}
use Rattle.provider_edge.specs.Tidy.{HasChosenFor, IsPassedBy, IsSettledAt, IsTidy, MendsNothing}
use Rattle.provider_edge.proofs.GivenLemmas.{lost_free, none_is, none_left, one_free}
use Rattle.provider_edge.proofs.MendLemmas.{settles_downs}

-- ---- an end that sees nothing of a change stays settled

-- what one end sees of an edge is as it was
pub record SeesAlike (plan : Plan) (place : EndPlace) (old new : EdgeState) : Type 0 where
  pub me : new.me ≡ old.me
  pub on : new.wire_on place.wire.0 ≡ old.wire_on place.wire.0
  pub up : is_up_with (new.peering place.peer.0) ≡ is_up_with (old.peering place.peer.0)
  pub bits : new.bits place.wire.0 ≡ old.bits place.wire.0
  pub end : end_at new place ≡ end_at old place
  -- what the edge holds of the wire, at either side of it
  pub remotes : (k : ℕ) → (new.ends place.wire.0 k).remote ≡ (old.ends place.wire.0 k).remote
  pub role : place.terminal ≡ true → role_at plan new place ≡ role_at plan old place
  pub told : new.told_down place.wire.0 ≡ old.told_down place.wire.0
  -- where no label is left none is then, and addresses that are gone are so then
  pub labels : label_to_give old ≡ None → label_to_give new ≡ None
  pub learned : (port : Option ℕ) (service : ℕ) → without_port port (old.learned service) ≡ old.learned service → without_port port (new.learned service) ≡ new.learned service

module _ (plan : Plan) (place : EndPlace) (old new : EdgeState) (alike : SeesAlike plan place old new) where
  held_alike : held_of new place.wire ≡ held_of old place.wire
  held_alike = λ i k. alike.remotes k i

  status_alike : status_to_tell plan new place ≡ status_to_tell plan old place
  status_alike = by place.terminal refl where
    own : place.terminal ≡ true → own_status plan new place ≡ own_status plan old place
    own terminal =
        ap (λ (bits : ℕ). combined bits (is_not_chosen (role_at plan new place))) alike.bits
        ∙ ap (λ (r : EndRole). combined (old.bits place.wire.0) (is_not_chosen r)) (alike.role terminal)

    beyond : held_beyond plan new place ≡ held_beyond plan old place
    beyond =
        ap (λ (held : ℕ → Option Binding). held_from held (mate_of new.me place (wire_row plan place.wire))) held_alike
        ∙ ap (λ (me : EdgeId). held_from (held_of old place.wire) (mate_of me place (wire_row plan place.wire))) alike.me

    by : (terminal : Bool) → place.terminal ≡ terminal → cond terminal (own_status plan new place) (passed_status (held_beyond plan new place))
        ≡ cond terminal (own_status plan old place) (passed_status (held_beyond plan old place))
    by true terminal = own terminal
    by false switching = ap passed_status beyond

  wish_alike : wish plan new place ≡ wish plan old place
  wish_alike = of (wire_row plan place.wire) where
    w : ℕ
    w = place.wire.0

    -- what is wished, of these parts of an edge
    wished : WirePlan → (me : EdgeId) (on up : Bool) (bits : ℕ) (held : ℕ → Option Binding) (status : PwStatus) → Option Told
    wished row me on up bits held status =
        cond (on && up)
        (cond place.terminal
        (cond (tells_status (method_by (offer_of row me.0).status (status_held (held place.peer.0))) || nat_eq bits 0)
        (Some (content_of (offer_of row me.0) (cond (offer_of row me.0).status (Some status) None)))
        None)
        (passed_from plan row me held (mate row me.0 place.peer.0)))
        None

    of : (row : Option WirePlan) → wish_of plan new place row ≡ wish_of plan old place row
    of None = refl
    of (Some row) =
        ap (λ (me : EdgeId). wished row me (new.wire_on w) (is_up_with (new.peering place.peer.0)) (new.bits w) (held_of new place.wire) (status_to_tell plan new place)) alike.me
        ∙ (ap (λ (on : Bool). wished row old.me on (is_up_with (new.peering place.peer.0)) (new.bits w) (held_of new place.wire) (status_to_tell plan new place)) alike.on
        ∙ (ap (λ (up : Bool). wished row old.me (old.wire_on w) up (new.bits w) (held_of new place.wire) (status_to_tell plan new place)) alike.up
        ∙ (ap (λ (bits : ℕ). wished row old.me (old.wire_on w) (is_up_with (old.peering place.peer.0)) bits (held_of new place.wire) (status_to_tell plan new place)) alike.bits
        ∙ (ap (λ (held : ℕ → Option Binding). wished row old.me (old.wire_on w) (is_up_with (old.peering place.peer.0)) (old.bits w) held (status_to_tell plan new place)) held_alike
        ∙ ap (λ (status : PwStatus). wished row old.me (old.wire_on w) (is_up_with (old.peering place.peer.0)) (old.bits w) (held_of old place.wire) status) status_alike))))

  mended_alike : is_mended plan old place ≡ true → is_mended plan new place ≡ true
  mended_alike is =
      ap (λ (o : Option Told). tells_wish place o (not (is_some (label_to_give new))) (end_at new place).local) wish_alike
      ∙ (ap (λ (e : EndState). tells_wish place (wish plan old place) (not (is_some (label_to_give new))) e.local) alike.end
      ∙ fewer place (wish plan old place) (not (is_some (label_to_give old))) (not (is_some (label_to_give new))) (end_at old place).local
      (none_is (label_to_give old) (label_to_give new) alike.labels) is)

  told_alike : is_told plan old place ≡ true → is_told plan new place ≡ true
  told_alike is =
      ap (λ (s : PwStatus). tells_now s.0 (end_at new place).local) status_alike
      ∙ (ap (λ (e : EndState). tells_now (status_to_tell plan old place).0 e.local) alike.end ∙ is)

  down_alike : place.terminal ≡ true → down_at plan new place ≡ down_at plan old place
  down_alike terminal =
      ap (λ (r : EndRole). down r (new.bits place.wire.0) (end_at new place)) (alike.role terminal)
      ∙ (ap (λ (bits : ℕ). down (role_at plan old place) bits (end_at new place)) alike.bits ∙ ap (down (role_at plan old place) (old.bits place.wire.0)) alike.end)

  forgotten_alike : IsForgotten plan old place → IsForgotten plan new place
  forgotten_alike gone row terminal is down =
      ap (λ (me : EdgeId). without_port (position (is_wire_port place.wire) (ports_of plan row.service me)) (addresses_of new row.service)) alike.me
      ∙ alike.learned (port_of_wire plan old place.wire row) row.service.0 (gone row terminal is (sym (ap (λ (o : Option Down). is_some o) (down_alike terminal)) ∙ down))

  down_told_alike : is_down_told plan old place ≡ true → is_down_told plan new place ≡ true
  down_told_alike is = by place.terminal refl where
    by : (terminal : Bool) → place.terminal ≡ terminal → is_down_told plan new place ≡ true
    by false switching = ap (λ (b : Bool). not b || nat_eq (cause_number (new.told_down place.wire.0)) (cause_number (down_at plan new place))) switching
    by true terminal =
        ap (λ (d : Option Down). not place.terminal || nat_eq (cause_number (new.told_down place.wire.0)) (cause_number d)) (down_alike terminal)
        ∙ (ap (λ (d : Option Down). not place.terminal || nat_eq (cause_number d) (cause_number (down_at plan old place))) alike.told ∙ is)

  pub settled_alike : IsSettled plan old place → IsSettled plan new place
  settled_alike settled =
      record { mended = mended_alike settled.mended; told = told_alike settled.told; forgotten = forgotten_alike settled.forgotten; down = down_told_alike settled.down }

-- ---- a choice stays

-- what the choice sees of a spoke
pub spoke_alike : (place : EndPlace) (old new : EdgeState) → new.priority place.wire.0 ≡ old.priority place.wire.0 → new.bits place.wire.0 ≡ old.bits place.wire.0 → end_at new place ≡ end_at old place
    → spoke_at new place ≡ spoke_at old place
spoke_alike place old new priority bits end =
    ap (λ (p : ℕ). record { priority = p; usable = not (is_some (down role.Chosen (new.bits place.wire.0) (end_at new place))) }) priority
    ∙ (ap (λ (b : ℕ). record { priority = old.priority place.wire.0; usable = not (is_some (down role.Chosen b (end_at new place))) }) bits
    ∙ ap (λ (e : EndState). record { priority = old.priority place.wire.0; usable = not (is_some (down role.Chosen (old.bits place.wire.0) e)) }) end)

behind_next : (a b : ℕ) → a ≤ b → suc a ≤ suc b
behind_next a b behind = omega arith

below_before : (a b : ℕ) → suc a < suc b → a < b
below_before a b below = omega arith

below_next : (a b : ℕ) → a < b → suc a < suc b
below_next a b below = omega arith

spokes_alike : (test : EndPlace → Bool) (old new : EdgeState) (places : List EndPlace)
    → ((slot : ℕ) → slot < length places → test (place_at places slot) ≡ true → spoke_at new (place_at places slot) ≡ spoke_at old (place_at places slot))
    → map (spoke_at new) (filter test places) ≡ map (spoke_at old) (filter test places)
spokes_alike test old new [] each = refl
spokes_alike test old new (place ∷ places) each =
    by (each zero (omega arith)) (spokes_alike test old new places (λ slot below is. each (suc slot) (below_next slot (length places) below) is)) (test place) refl
  where
    by : (test place ≡ true → spoke_at new place ≡ spoke_at old place) → map (spoke_at new) (filter test places) ≡ map (spoke_at old) (filter test places) → (b : Bool) → test place ≡ b
        → map (spoke_at new) (cond b (place ∷ filter test places) (filter test places)) ≡ map (spoke_at old) (cond b (place ∷ filter test places) (filter test places))
    by one rest true is = ap (λ (spoke : Spoke). spoke ∷ map (spoke_at new) (filter test places)) (one is) ∙ ap (λ (spokes : List Spoke). spoke_at old place ∷ spokes) rest
    by one rest false is = rest

-- where the choice sees each spoke of a service as it was, it is as it was
pub choice_alike : (plan : Plan) (old new : EdgeState) (service : ServiceId) → new.me ≡ old.me
    → ((slot : ℕ) → slot < length (end_places plan old.me) → starts_spoke plan old.me service (place_at (end_places plan old.me) slot) ≡ true
    → spoke_at new (place_at (end_places plan old.me) slot) ≡ spoke_at old (place_at (end_places plan old.me) slot))
    → choice plan new service ≡ choice plan old service
choice_alike plan old new service me each =
    ap (λ (k : EdgeId). among k (map (spoke_at new) (spoke_places plan k service))) me
    ∙ ap (among old.me) (spokes_alike (λ place. starts_spoke plan old.me service place) old new (end_places plan old.me) each)
  where
    among : EdgeId → List Spoke → Option WireId
    among me spokes = option_map (λ (place : EndPlace). place.wire) (option_and_then (slice_get (spoke_places plan me service)) (chosen spokes))

-- ---- an edge stays tidy

-- where more slots have marks
pub tidy_wider : (plan : Plan) (edge : EdgeState) (old new : EndMarks) → IsTidy plan edge old → IsWider old new → IsTidy plan edge new
tidy_wider plan edge old new tidy wider = record {
  ends = λ slot free. tidy.ends slot (wider slot free);
  chosen = λ service passed. tidy.chosen service (λ slot below starts. wider slot (passed slot below starts));
}

-- where each end without a mark sees nothing of a change, and the choice nothing of each spoke
pub tidy_alike : (plan : Plan) (old new : EdgeState) (marks : EndMarks) → new.me ≡ old.me
    → ((slot : ℕ) → slot < length (end_places plan old.me) → IsUnmarked marks slot → SeesAlike plan (place_at (end_places plan old.me) slot) old new)
    → ((slot : ℕ) → slot < length (end_places plan old.me) → IsUnmarked marks slot → spoke_at new (place_at (end_places plan old.me) slot) ≡ spoke_at old (place_at (end_places plan old.me) slot))
    → ((service : ℕ) → IsPassedBy plan old marks service → HasChosenFor plan old service → new.chosen service ≡ choice plan old (record { 0 = service }))
    → IsTidy plan old marks → IsTidy plan new marks
tidy_alike plan old new marks me sees spokes choices tidy = record { ends = ends; chosen = chosen_for } where
  ends : (slot : ℕ) → IsUnmarked marks slot → IsSettledAt plan new slot
  ends slot free =
      subst (λ (k : EdgeId). slot < length (end_places plan k) → IsSettled plan new (place_at (end_places plan k) slot)) (sym me)
      (λ below. settled_alike plan (place_at (end_places plan old.me) slot) old new (sees slot below free) (tidy.ends slot free below))

  passed_before : (service : ℕ) → IsPassedBy plan new marks service → IsPassedBy plan old marks service
  passed_before service passed =
      subst (λ (k : EdgeId). (slot : ℕ) → slot < length (end_places plan k) → starts_spoke plan k (record { 0 = service }) (place_at (end_places plan k) slot) ≡ true → IsUnmarked marks slot) me passed

  chosen_for : (service : ℕ) → IsPassedBy plan new marks service → HasChosenFor plan new service
  chosen_for service passed =
      let before : IsPassedBy plan old marks service = passed_before service passed in
      choices service before (tidy.chosen service before)
      ∙ sym (choice_alike plan old new (record { 0 = service }) me (λ slot below starts. spokes slot below (before slot below starts)))

-- a change of which marks know as much as they hold
marked_tidy : (plan : Plan) (old new : EdgeState) (holds : EndMarks → Type 0) (before after : Option EndMarks) → IfSome before (IsTidy plan old) → Marked holds before after
    → ((marks : EndMarks) → holds marks → IsTidy plan old marks → IsTidy plan new marks) → IfSome after (IsTidy plan new)
marked_tidy plan old new holds None None tidy marked stays = tt
marked_tidy plan old new holds None (Some a) tidy marked stays = absurd marked
marked_tidy plan old new holds (Some b) None tidy marked stays = tt
marked_tidy plan old new holds (Some b) (Some a) tidy marked stays = stays a marked.1 (tidy_wider plan old b a tidy marked.0)

-- ---- a change at one wire

-- but for the ends of one wire, ends see nothing of it
pub record IsBesides (wire : ℕ) (old new : EdgeState) : Type 0 where
  pub me : new.me ≡ old.me
  pub ups : (k : ℕ) → is_up_with (new.peering k) ≡ is_up_with (old.peering k)
  pub chosen : new.chosen ≡ old.chosen
  pub on : (k : ℕ) → nat_eq k wire ≡ false → new.wire_on k ≡ old.wire_on k
  pub bits : (k : ℕ) → nat_eq k wire ≡ false → new.bits k ≡ old.bits k
  pub priority : (k : ℕ) → nat_eq k wire ≡ false → new.priority k ≡ old.priority k
  pub ends : (k peer : ℕ) → nat_eq k wire ≡ false → new.ends k peer ≡ old.ends k peer
  pub told : (k : ℕ) → nat_eq k wire ≡ false → new.told_down k ≡ old.told_down k
  pub labels : label_to_give old ≡ None → label_to_give new ≡ None
  pub learned : (port : Option ℕ) (service : ℕ) → without_port port (old.learned service) ≡ old.learned service → without_port port (new.learned service) ≡ new.learned service

same_role : (plan : Plan) (place : EndPlace) (old new : EdgeState) → new.me ≡ old.me → new.chosen ≡ old.chosen → role_at plan new place ≡ role_at plan old place
same_role plan place old new me chosen =
    ap (λ (k : EdgeId). role_in (wire_row plan place.wire) k new.chosen place.wire) me ∙ ap (λ (c : ℕ → Option WireId). role_in (wire_row plan place.wire) old.me c place.wire) chosen

besides_sees : (plan : Plan) (wire : ℕ) (place : EndPlace) (old new : EdgeState) → IsBesides wire old new → nat_eq place.wire.0 wire ≡ false → SeesAlike plan place old new
besides_sees plan wire place old new besides away = record {
  me = besides.me;
  on = besides.on place.wire.0 away;
  up = besides.ups place.peer.0;
  bits = besides.bits place.wire.0 away;
  end = besides.ends place.wire.0 place.peer.0 away;
  remotes = λ k. ap (λ (e : EndState). e.remote) (besides.ends place.wire.0 k away);
  role = λ terminal. same_role plan place old new besides.me besides.chosen;
  told = besides.told place.wire.0 away;
  labels = besides.labels;
  learned = besides.learned;
}

pub tidy_besides : (plan : Plan) (wire : ℕ) (old new : EdgeState) (before after : Option EndMarks) → IfSome before (IsTidy plan old) → Marked (MarksWire (end_places plan old.me) wire) before after
    → IsBesides wire old new → IfSome after (IsTidy plan new)
tidy_besides plan wire old new before after tidy marked besides =
    marked_tidy plan old new (MarksWire (end_places plan old.me) wire) before after tidy marked
    (λ marks holds known. tidy_alike plan old new marks besides.me
    (λ slot below free. besides_sees plan wire (at slot) old new besides (apart_test (at slot).wire.0 wire (holds slot below free)))
    (λ slot below free. by_spoke (at slot) (apart_test (at slot).wire.0 wire (holds slot below free)))
    (λ service passed is. ap (λ (c : ℕ → Option WireId). c service) besides.chosen ∙ is)
    known)
  where
    at : ℕ → EndPlace
    at slot = place_at (end_places plan old.me) slot

    by_spoke : (place : EndPlace) → nat_eq place.wire.0 wire ≡ false → spoke_at new place ≡ spoke_at old place
    by_spoke place away =
        spoke_alike place old new (besides.priority place.wire.0 away) (besides.bits place.wire.0 away) (besides.ends place.wire.0 place.peer.0 away)

pub besides_then : (wire : ℕ) (a b c : EdgeState) → IsBesides wire a b → IsBesides wire b c → IsBesides wire a c
besides_then wire a b c first next = record {
  me = next.me ∙ first.me;
  ups = λ k. next.ups k ∙ first.ups k;
  chosen = next.chosen ∙ first.chosen;
  on = λ k away. next.on k away ∙ first.on k away;
  bits = λ k away. next.bits k away ∙ first.bits k away;
  priority = λ k away. next.priority k away ∙ first.priority k away;
  ends = λ k peer away. next.ends k peer away ∙ first.ends k peer away;
  told = λ k away. next.told k away ∙ first.told k away;
  labels = λ none. next.labels (first.labels none);
  learned = λ port service gone. next.learned port service (first.learned port service gone);
}

pub besides_end : (place : EndPlace) (end : EndState) (edge : EdgeState) → IsBesides place.wire.0 edge (with_end place end edge)
unfolding with_end
besides_end place end edge = record {
  me = refl;
  ups = λ k. refl;
  chosen = refl;
  on = λ k away. refl;
  bits = λ k away. refl;
  priority = λ k away. refl;
  ends = λ k peer away. ap (λ (row : ℕ → EndState). row peer) (put_away edge.ends place.wire.0 (put_at (edge.ends place.wire.0) place.peer.0 end) k away);
  told = λ k away. refl;
  labels = λ none. none;
  learned = λ port service gone. gone;
}

-- other numbers are kept, and none is free that was not
rekept : (wire : ℕ) (kept : List Kept) (edge : EdgeState) → least_free kept ≡ least_free edge.kept → IsBesides wire edge (with_kept kept edge)
unfolding with_kept
rekept wire kept edge same = record {
  me = refl;
  ups = λ k. refl;
  chosen = refl;
  on = λ k away. refl;
  bits = λ k away. refl;
  priority = λ k away. refl;
  ends = λ k peer away. refl;
  told = λ k away. refl;
  labels = none_left edge.next_label edge.kept kept same;
  learned = λ port service gone. gone;
}

kept_at_end : (place : EndPlace) (end : EndState) (edge : EdgeState) → (with_end place end edge).kept ≡ edge.kept
unfolding with_end
kept_at_end place end edge = refl

pub besides_changing : (change : EndState → EndState) (place : EndPlace) (edge : EdgeState) → IsBesides place.wire.0 edge (changing change place edge)
besides_changing change place edge =
    let end : EndState = change (end_at edge place) in
    let left : Option ℕ = left_label (own_label (end_at edge place).local) (own_label end.local) in
    besides_then place.wire.0 edge (with_end place end edge) (changing change place edge) (besides_end place end edge)
    (rekept place.wire.0 (keeps_one left place.peer edge.kept) (with_end place end edge) (one_free left place.peer edge.kept ∙ ap least_free (sym (kept_at_end place end edge))))

-- a label was left
pub besides_advertising : (place : EndPlace) (label : ℕ) (told : Told) (edge : EdgeState) → label_to_give edge ≡ Some label → IsBesides place.wire.0 edge (advertising place label told edge)
unfolding with_end with_kept with_next_label
besides_advertising place label told edge left =
    let ended : IsBesides place.wire.0 edge (with_end place (advertised label told (end_at edge place)) edge) = besides_end place (advertised label told (end_at edge place)) edge in
    record {
      me = refl;
      ups = λ k. refl;
      chosen = refl;
      on = λ k away. refl;
      bits = λ k away. refl;
      priority = λ k away. refl;
      ends = ended.ends;
      told = λ k away. refl;
      labels = λ none. absurd (cc (sym none ∙ left));
      learned = λ port service gone. gone;
    }

pub besides_bits : (wire : WireId) (bits : ℕ) (edge : EdgeState) → IsBesides wire.0 edge (with_bits wire bits edge)
unfolding with_bits
besides_bits wire bits edge = record {
  me = refl;
  ups = λ k. refl;
  chosen = refl;
  on = λ k away. refl;
  bits = λ k away. put_away edge.bits wire.0 bits k away;
  priority = λ k away. refl;
  ends = λ k peer away. refl;
  told = λ k away. refl;
  labels = λ none. none;
  learned = λ port service gone. gone;
}

pub besides_priority : (wire : WireId) (priority : ℕ) (edge : EdgeState) → IsBesides wire.0 edge (with_priority wire priority edge)
unfolding with_priority
besides_priority wire priority edge = record {
  me = refl;
  ups = λ k. refl;
  chosen = refl;
  on = λ k away. refl;
  bits = λ k away. refl;
  priority = λ k away. put_away edge.priority wire.0 priority k away;
  ends = λ k peer away. refl;
  told = λ k away. refl;
  labels = λ none. none;
  learned = λ port service gone. gone;
}

pub besides_told : (wire : WireId) (down : Option Down) (edge : EdgeState) → IsBesides wire.0 edge (with_told_down wire down edge)
unfolding with_told_down
besides_told wire down edge = record {
  me = refl;
  ups = λ k. refl;
  chosen = refl;
  on = λ k away. refl;
  bits = λ k away. refl;
  priority = λ k away. refl;
  ends = λ k peer away. refl;
  told = λ k away. put_away edge.told_down wire.0 down k away;
  labels = λ none. none;
  learned = λ port service gone. gone;
}

pub besides_wire : (wire : WireId) (on : Bool) (edge : EdgeState) → IsBesides wire.0 edge (with_wire wire on edge)
unfolding with_wire
besides_wire wire on edge = record {
  me = refl;
  ups = λ k. refl;
  chosen = refl;
  on = λ k away. put_away edge.wire_on wire.0 on k away;
  bits = λ k away. refl;
  priority = λ k away. refl;
  ends = λ k peer away. refl;
  told = λ k away. refl;
  labels = λ none. none;
  learned = λ port service gone. gone;
}

pub besides_renewed : (wire : WireId) (edge : EdgeState) → IsBesides wire.0 edge (with_renewed wire edge)
unfolding with_renewed
besides_renewed wire edge = record {
  me = refl;
  ups = λ k. refl;
  chosen = refl;
  on = λ k away. refl;
  bits = λ k away. refl;
  priority = λ k away. refl;
  ends = λ k peer away. ap (λ (b : Bool). cond b (renewed (edge.ends k peer)) (edge.ends k peer)) away;
  told = λ k away. refl;
  labels = λ none. none;
  learned = λ port service gone. gone;
}

-- ---- an edge that has mended is tidy

all_at : (P : EndPlace → Type 0) (places : List EndPlace) → AllByRecursion P places → (slot : ℕ) → slot < length places → P (place_at places slot)
all_at P [] all slot below = absurd (omega arith)
all_at P (place ∷ places) all zero below = all.0
all_at P (place ∷ places) all (suc slot) below = all_at P places all.1 slot (below_before slot (length places) below)

at_all : (P : EndPlace → Type 0) (places : List EndPlace) → ((slot : ℕ) → slot < length places → P (place_at places slot)) → AllByRecursion P places
at_all P [] each = tt
at_all P (place ∷ places) each = (each zero (omega arith), at_all P places (λ slot below. each (suc slot) (below_next slot (length places) below)))

-- whatever has a mark
pub tidy_mended : (plan : Plan) (edge : EdgeState) (marks : EndMarks) → IsMended plan edge → IsTidy plan edge marks
tidy_mended plan edge marks mended = record {
  ends = λ slot free below. record {
    mended = all_at (λ place. is_mended plan edge place ≡ true) (end_places plan edge.me) mended.ends slot below;
    told = all_at (λ place. is_told plan edge place ≡ true) (end_places plan edge.me) mended.statuses slot below;
    forgotten = all_at (IsForgotten plan edge) (end_places plan edge.me) mended.forgotten slot below;
    down = all_at (λ place. is_down_told plan edge place ≡ true) (end_places plan edge.me) mended.downs slot below;
  };
  chosen = λ service passed. mended.chosen service;
}

-- where nothing has a mark
pub mended_tidy : (plan : Plan) (edge : EdgeState) (marks : EndMarks) → IsTidy plan edge marks → ((slot : ℕ) → IsUnmarked marks slot) → IsMended plan edge
mended_tidy plan edge marks tidy free = record {
  ends = at_all (λ place. is_mended plan edge place ≡ true) (end_places plan edge.me) (λ slot below. (tidy.ends slot (free slot) below).mended);
  chosen = λ service. tidy.chosen service (λ slot below starts. free slot);
  statuses = at_all (λ place. is_told plan edge place ≡ true) (end_places plan edge.me) (λ slot below. (tidy.ends slot (free slot) below).told);
  forgotten = at_all (IsForgotten plan edge) (end_places plan edge.me) (λ slot below. (tidy.ends slot (free slot) below).forgotten);
  downs = at_all (λ place. is_down_told plan edge place ≡ true) (end_places plan edge.me) (λ slot below. (tidy.ends slot (free slot) below).down);
}

-- then mending is nothing
pub tidy_nothing : (plan : Plan) (edge : EdgeState) (marks : EndMarks) → IsTidy plan edge marks → ((slot : ℕ) → IsUnmarked marks slot) → MendsNothing plan edge
unfolding at_edge
tidy_nothing plan edge marks tidy free told calls out =
    mends_not plan told (record { edge = edge; calls = calls; effects = out; idle = false }) (mended_tidy plan edge marks tidy free)

-- ---- settled ends are passed over

said_still : (m : Spoken) (next : Work → Spoken) → next m.work ≡ stays m.work → and_says m next ≡ m
said_still m next still =
    ap (λ (s : Spoken). record { work = s.work; failed = m.failed || s.failed }) still ∙ ap (λ (b : Bool). record { work = m.work; failed = b }) (or_false m.failed)

-- those in front
pub passes_front : (mend : EndPlace → Work → Spoken) (places : List EndPlace) (n : ℕ) (m : Spoken)
    → ((slot : ℕ) → slot < n → slot < length places → mend (place_at places slot) m.work ≡ stays m.work) → each_end mend places m ≡ each_end mend (drop n places) m
passes_front mend [] zero m still = refl
passes_front mend [] (suc n) m still = refl
passes_front mend (place ∷ places) zero m still = refl
passes_front mend (place ∷ places) (suc n) m still =
    ap (each_end mend places) (said_still m (mend place) (still zero (omega arith) (omega arith)))
    ∙ passes_front mend places n m (λ slot front below. still (suc slot) (below_next slot n front) (below_next slot (length places) below))

passes_all : (mend : EndPlace → Work → Spoken) (places : List EndPlace) (m : Spoken) → ((slot : ℕ) → slot < length places → mend (place_at places slot) m.work ≡ stays m.work)
    → each_end mend places m ≡ m
passes_all mend [] m still = refl
passes_all mend (place ∷ places) m still =
    ap (each_end mend places) (said_still m (mend place) (still zero (omega arith))) ∙ passes_all mend places m (λ slot below. still (suc slot) (below_next slot (length places) below))

-- and those behind
pub passes_back : (mend : EndPlace → Work → Spoken) (places : List EndPlace) (n : ℕ) (m : Spoken)
    → ((slot : ℕ) → n ≤ slot → slot < length places → mend (place_at places slot) m.work ≡ stays m.work) → each_end mend (drop n places) m ≡ m
passes_back mend [] zero m still = refl
passes_back mend [] (suc n) m still = refl
passes_back mend (place ∷ places) zero m still = passes_all mend (place ∷ places) m (λ slot below. still slot (omega arith) below)
passes_back mend (place ∷ places) (suc n) m still = passes_back mend places n m (λ slot back below. still (suc slot) (behind_next n slot back) (below_next slot (length places) below))

-- what an end is told is nothing where it is settled
ends_still : (plan : Plan) (told : Answers) (edge : EdgeState) (calls : List LinkCall) (out : List Effect) (place : EndPlace) → IsSettled plan edge place
    → mends_end plan told place (at_edge edge calls out) ≡ stays (at_edge edge calls out)
unfolding at_edge
ends_still plan told edge calls out place settled = mends_end_not plan told place (record { edge = edge; calls = calls; effects = out; idle = false }) settled.mended

statuses_still : (plan : Plan) (told : Answers) (edge : EdgeState) (calls : List LinkCall) (out : List Effect) (place : EndPlace) → IsSettled plan edge place
    → mends_status plan told place (at_edge edge calls out) ≡ stays (at_edge edge calls out)
unfolding at_edge
statuses_still plan told edge calls out place settled = mends_status_not plan told place (record { edge = edge; calls = calls; effects = out; idle = false }) settled.told

-- so the edge begins at the first one that may not be, and stops where none is left
pub ends_front : (plan : Plan) (told : Answers) (edge : EdgeState) (calls : List LinkCall) (out : List Effect) (failed : Bool) (n : ℕ) → ((slot : ℕ) → slot < n → IsSettledAt plan edge slot)
    → each_end (mends_end plan told) (end_places plan edge.me) (record { work = at_edge edge calls out; failed = failed })
    ≡ each_end (mends_end plan told) (drop n (end_places plan edge.me)) (record { work = at_edge edge calls out; failed = failed })
ends_front plan told edge calls out failed n settled =
    passes_front (mends_end plan told) (end_places plan edge.me) n (record { work = at_edge edge calls out; failed = failed })
    (λ slot front below. ends_still plan told edge calls out (place_at (end_places plan edge.me) slot) (settled slot front below))

pub ends_back : (plan : Plan) (told : Answers) (edge : EdgeState) (calls : List LinkCall) (out : List Effect) (failed : Bool) (n : ℕ) → ((slot : ℕ) → n ≤ slot → IsSettledAt plan edge slot)
    → each_end (mends_end plan told) (drop n (end_places plan edge.me)) (record { work = at_edge edge calls out; failed = failed }) ≡ record { work = at_edge edge calls out; failed = failed }
ends_back plan told edge calls out failed n settled =
    passes_back (mends_end plan told) (end_places plan edge.me) n (record { work = at_edge edge calls out; failed = failed })
    (λ slot back below. ends_still plan told edge calls out (place_at (end_places plan edge.me) slot) (settled slot back below))

pub statuses_front : (plan : Plan) (told : Answers) (edge : EdgeState) (calls : List LinkCall) (out : List Effect) (failed : Bool) (n : ℕ) → ((slot : ℕ) → slot < n → IsSettledAt plan edge slot)
    → each_end (mends_status plan told) (end_places plan edge.me) (record { work = at_edge edge calls out; failed = failed })
    ≡ each_end (mends_status plan told) (drop n (end_places plan edge.me)) (record { work = at_edge edge calls out; failed = failed })
statuses_front plan told edge calls out failed n settled =
    passes_front (mends_status plan told) (end_places plan edge.me) n (record { work = at_edge edge calls out; failed = failed })
    (λ slot front below. statuses_still plan told edge calls out (place_at (end_places plan edge.me) slot) (settled slot front below))

pub statuses_back : (plan : Plan) (told : Answers) (edge : EdgeState) (calls : List LinkCall) (out : List Effect) (failed : Bool) (n : ℕ) → ((slot : ℕ) → n ≤ slot → IsSettledAt plan edge slot)
    → each_end (mends_status plan told) (drop n (end_places plan edge.me)) (record { work = at_edge edge calls out; failed = failed }) ≡ record { work = at_edge edge calls out; failed = failed }
statuses_back plan told edge calls out failed n settled =
    passes_back (mends_status plan told) (end_places plan edge.me) n (record { work = at_edge edge calls out; failed = failed })
    (λ slot back below. statuses_still plan told edge calls out (place_at (end_places plan edge.me) slot) (settled slot back below))

-- nothing is forgotten or told at a settled end
settles_still : (plan : Plan) (place : EndPlace) (work : Work) → IsSettled plan work.edge place → mended_down plan place (forgotten_down plan place work) ≡ work
settles_still plan place work settled = ap (mended_down plan place) (forgets_down_not plan place work settled.forgotten) ∙ tells_down_not plan place work settled.down

settles_passed : (plan : Plan) (places : List EndPlace) (n : ℕ) (work : Work) → ((slot : ℕ) → slot < n → slot < length places → IsSettled plan work.edge (place_at places slot))
    → settles_downs plan places work ≡ settles_downs plan (drop n places) work
settles_passed plan [] zero work settled = refl
settles_passed plan [] (suc n) work settled = refl
settles_passed plan (place ∷ places) zero work settled = refl
settles_passed plan (place ∷ places) (suc n) work settled =
    ap (settles_downs plan places) (settles_still plan place work (settled zero (omega arith) (omega arith)))
    ∙ settles_passed plan places n work (λ slot front below. settled (suc slot) (below_next slot n front) (below_next slot (length places) below))

settles_none : (plan : Plan) (places : List EndPlace) (work : Work) → ((slot : ℕ) → slot < length places → IsSettled plan work.edge (place_at places slot)) → settles_downs plan places work ≡ work
settles_none plan [] work settled = refl
settles_none plan (place ∷ places) work settled =
    ap (settles_downs plan places) (settles_still plan place work (settled zero (omega arith)))
    ∙ settles_none plan places work (λ slot below. settled (suc slot) (below_next slot (length places) below))

settles_left : (plan : Plan) (places : List EndPlace) (n : ℕ) (work : Work) → ((slot : ℕ) → n ≤ slot → slot < length places → IsSettled plan work.edge (place_at places slot))
    → settles_downs plan (drop n places) work ≡ work
settles_left plan [] zero work settled = refl
settles_left plan [] (suc n) work settled = refl
settles_left plan (place ∷ places) zero work settled = settles_none plan (place ∷ places) work (λ slot below. settled slot (omega arith) below)
settles_left plan (place ∷ places) (suc n) work settled = settles_left plan places n work (λ slot back below. settled (suc slot) (behind_next n slot back) (below_next slot (length places) below))

pub settles_front : (plan : Plan) (edge : EdgeState) (calls : List LinkCall) (out : List Effect) (n : ℕ) → ((slot : ℕ) → slot < n → IsSettledAt plan edge slot)
    → settles_downs plan (end_places plan edge.me) (at_edge edge calls out) ≡ settles_downs plan (drop n (end_places plan edge.me)) (at_edge edge calls out)
unfolding at_edge
settles_front plan edge calls out n settled =
    settles_passed plan (end_places plan edge.me) n (record { edge = edge; calls = calls; effects = out; idle = false }) (λ slot front below. settled slot front below)

pub settles_back : (plan : Plan) (edge : EdgeState) (calls : List LinkCall) (out : List Effect) (n : ℕ) → ((slot : ℕ) → n ≤ slot → IsSettledAt plan edge slot)
    → settles_downs plan (drop n (end_places plan edge.me)) (at_edge edge calls out) ≡ at_edge edge calls out
unfolding at_edge
settles_back plan edge calls out n settled =
    settles_left plan (end_places plan edge.me) n (record { edge = edge; calls = calls; effects = out; idle = false }) (λ slot back below. settled slot back below)

-- ---- a change beside one peer

-- the edge has no end of a wire beside a peer
abbrev pub HasNoEnd : Plan → EdgeId → ℕ → ℕ → Type 0
HasNoEnd plan me wire peer = (slot : ℕ) → slot < length (end_places plan me) → (place_at (end_places plan me) slot).wire.0 ≡ wire → (place_at (end_places plan me) slot).peer.0 ≢ peer

-- but for the ends beside one peer, and those across from them, ends see nothing of it
pub record IsBeside (plan : Plan) (peer : ℕ) (old new : EdgeState) : Type 0 where
  pub me : new.me ≡ old.me
  pub on : new.wire_on ≡ old.wire_on
  pub bits : new.bits ≡ old.bits
  pub priority : new.priority ≡ old.priority
  pub told : new.told_down ≡ old.told_down
  pub chosen : new.chosen ≡ old.chosen
  pub labels : label_to_give old ≡ None → label_to_give new ≡ None
  pub learned : (port : Option ℕ) (service : ℕ) → without_port port (old.learned service) ≡ old.learned service → without_port port (new.learned service) ≡ new.learned service
  pub ups : (k : ℕ) → nat_eq k peer ≡ false → is_up_with (new.peering k) ≡ is_up_with (old.peering k)
  pub ends : (wire k : ℕ) → nat_eq k peer ≡ false → new.ends wire k ≡ old.ends wire k
  pub absent : (wire : ℕ) → HasNoEnd plan old.me wire peer → new.ends wire peer ≡ old.ends wire peer

beside_sees : (plan : Plan) (peer : ℕ) (place : EndPlace) (old new : EdgeState) → IsBeside plan peer old new → HasNoEnd plan old.me place.wire.0 peer → nat_eq place.peer.0 peer ≡ false
    → SeesAlike plan place old new
beside_sees plan peer place old new beside none away = record {
  me = beside.me;
  on = ap (λ (m : ℕ → Bool). m place.wire.0) beside.on;
  up = beside.ups place.peer.0 away;
  bits = ap (λ (m : ℕ → ℕ). m place.wire.0) beside.bits;
  end = beside.ends place.wire.0 place.peer.0 away;
  remotes = remotes;
  role = λ terminal. same_role plan place old new beside.me beside.chosen;
  told = ap (λ (m : ℕ → Option Down). m place.wire.0) beside.told;
  labels = beside.labels;
  learned = beside.learned;
}
  where
    remotes : (k : ℕ) → (new.ends place.wire.0 k).remote ≡ (old.ends place.wire.0 k).remote
    remotes k = elim (cases_Bool (nat_eq k peer)) [
      | inl here ↦
          (let same : k ≡ peer = eqb-true k peer here in
          ap (λ (n : ℕ). (new.ends place.wire.0 n).remote) same
          ∙ (ap (λ (e : EndState). e.remote) (beside.absent place.wire.0 none) ∙ ap (λ (n : ℕ). (old.ends place.wire.0 n).remote) (sym same)))
      | inr apart ↦ ap (λ (e : EndState). e.remote) (beside.ends place.wire.0 k apart)
    ]

pub tidy_beside : (plan : Plan) (peer : ℕ) (old new : EdgeState) (before after : Option EndMarks) → IfSome before (IsTidy plan old) → Marked (MarksBeside (end_places plan old.me) peer) before after
    → IsBeside plan peer old new → IfSome after (IsTidy plan new)
tidy_beside plan peer old new before after tidy marked beside =
    marked_tidy plan old new (MarksBeside (end_places plan old.me) peer) before after tidy marked
    (λ marks holds known. tidy_alike plan old new marks beside.me
    (λ slot below free. beside_sees plan peer (at slot) old new beside (λ other within same. holds slot other below within free same)
    (apart_test (at slot).peer.0 peer (holds slot slot below below free refl)))
    (λ slot below free. by_spoke (at slot) (apart_test (at slot).peer.0 peer (holds slot slot below below free refl)))
    (λ service passed is. ap (λ (c : ℕ → Option WireId). c service) beside.chosen ∙ is)
    known)
  where
    at : ℕ → EndPlace
    at slot = place_at (end_places plan old.me) slot

    by_spoke : (place : EndPlace) → nat_eq place.peer.0 peer ≡ false → spoke_at new place ≡ spoke_at old place
    by_spoke place away =
        spoke_alike place old new (ap (λ (m : ℕ → ℕ). m place.wire.0) beside.priority) (ap (λ (m : ℕ → ℕ). m place.wire.0) beside.bits) (beside.ends place.wire.0 place.peer.0 away)

pub beside_not : (plan : Plan) (peer : ℕ) (edge : EdgeState) → IsBeside plan peer edge edge
beside_not plan peer edge = record {
  me = refl;
  on = refl;
  bits = refl;
  priority = refl;
  told = refl;
  chosen = refl;
  labels = λ none. none;
  learned = λ port service gone. gone;
  ups = λ k away. refl;
  ends = λ wire k away. refl;
  absent = λ wire none. refl;
}

pub beside_then : (plan : Plan) (peer : ℕ) (a b c : EdgeState) → IsBeside plan peer a b → IsBeside plan peer b c → IsBeside plan peer a c
beside_then plan peer a b c first next = record {
  me = next.me ∙ first.me;
  on = next.on ∙ first.on;
  bits = next.bits ∙ first.bits;
  priority = next.priority ∙ first.priority;
  told = next.told ∙ first.told;
  chosen = next.chosen ∙ first.chosen;
  labels = λ none. next.labels (first.labels none);
  learned = λ port service gone. next.learned port service (first.learned port service gone);
  ups = λ k away. next.ups k away ∙ first.ups k away;
  ends = λ wire k away. next.ends wire k away ∙ first.ends wire k away;
  absent = λ wire none. next.absent wire (subst (λ (k : EdgeId). HasNoEnd plan k wire peer) (sym first.me) none) ∙ first.absent wire none;
}

-- of ends that are not there nothing was told
abbrev pub AreFreshElse : Plan → EdgeState → Type 0
AreFreshElse plan edge = (wire k : ℕ) → HasNoEnd plan edge.me wire k → edge.ends wire k ≡ fresh

pub fresh_else : (c : EdgeLists) → c.ends.places ≡ end_places c.plan c.me → AreFreshElse c.plan (seen c)
unfolding seen
fresh_else c placed = λ wire peer none. by wire peer none (position (is_at wire peer) c.ends.places) refl where
  by : (wire peer : ℕ) → HasNoEnd c.plan c.me wire peer → (found : Option ℕ) → found ≡ position (is_at wire peer) c.ends.places → seen_ends c.ends wire peer ≡ fresh
  by wire peer none None is = beside_none c.ends wire peer None is refl
  by wire peer none (Some slot) is =
      let w : (place_of c.ends slot).wire ≡ record { 0 = wire } = beside_place c.ends (record { 0 = wire }) (record { 0 = peer }) (Some slot) is in
      let p : (place_of c.ends slot).peer ≡ record { 0 = peer } = beside_peer c.ends (record { 0 = wire }) (record { 0 = peer }) (Some slot) is in
      absurd
      (subst (λ (l : List EndPlace). (slot : ℕ) → slot < length l → (place_at l slot).wire.0 ≡ wire → (place_at l slot).peer.0 ≢ peer) (sym placed) none slot
      (beside_within c.ends wire peer (Some slot) is) (ap (λ (x : WireId). x.0) w) (ap (λ (x : EdgeId). x.0) p))

-- each end beside the peer is changed, and of one that is not there nothing is told
pub beside_ends : (plan : Plan) (peer : EdgeId) (change : EndState → EndState) (edge : EdgeState) → change fresh ≡ fresh → AreFreshElse plan edge
    → IsBeside plan peer.0 edge (with_ends_beside peer change edge)
unfolding with_ends_beside
beside_ends plan peer change edge stays_fresh else = record {
  me = refl;
  on = refl;
  bits = refl;
  priority = refl;
  told = refl;
  chosen = refl;
  labels = λ none. none;
  learned = λ port service gone. gone;
  ups = λ k away. refl;
  ends = λ wire k away. ap (λ (b : Bool). cond b (change (edge.ends wire k)) (edge.ends wire k)) away;
  absent = λ wire none.
      ap (λ (b : Bool). cond b (change (edge.ends wire peer.0)) (edge.ends wire peer.0)) (eq-eqb peer.0 peer.0 refl)
      ∙ (ap change (else wire peer.0 none) ∙ (stays_fresh ∙ sym (else wire peer.0 none)));
}

pub beside_lost : (plan : Plan) (peer : EdgeId) (edge : EdgeState) → AreFreshElse plan edge → IsBeside plan peer.0 edge (losing_ends peer edge)
unfolding with_ends_beside with_kept
beside_lost plan peer edge else =
    let beside : IsBeside plan peer.0 edge (with_ends_beside peer lost edge) = beside_ends plan peer lost edge refl else in
    record {
      me = refl;
      on = refl;
      bits = refl;
      priority = refl;
      told = refl;
      chosen = refl;
      labels = none_left edge.next_label edge.kept (keeps_lost peer edge.ends edge.places edge.kept) (lost_free peer edge.ends edge.places edge.kept);
      learned = λ port service gone. gone;
      ups = λ k away. refl;
      ends = beside.ends;
      absent = beside.absent;
    }

-- another session with the peer, or none
pub beside_peering : (plan : Plan) (peer : EdgeId) (kept : Option Peering) (edge : EdgeState) → IsBeside plan peer.0 edge (with_peering peer kept edge)
unfolding with_peering
beside_peering plan peer kept edge = record {
  me = refl;
  on = refl;
  bits = refl;
  priority = refl;
  told = refl;
  chosen = refl;
  labels = λ none. none;
  learned = λ port service gone. gone;
  ups = λ k away. ap (λ (b : Bool). is_up_with (cond b kept (edge.peering k))) away;
  ends = λ wire k away. refl;
  absent = λ wire none. refl;
}

pub fresh_peering : (plan : Plan) (peer : EdgeId) (kept : Option Peering) (edge : EdgeState) → AreFreshElse plan edge → AreFreshElse plan (with_peering peer kept edge)
unfolding with_peering
fresh_peering plan peer kept edge else = else

-- the ends beside the peer are lost where no session with it stands
pub beside_cleared : (plan : Plan) (peer : EdgeId) (put new : EdgeState) → AreFreshElse plan put
    → ((calls : List LinkCall) (out : List Effect) → at_edge new calls out ≡ clears_ends peer (at_edge put calls out))
    → IsBeside plan peer.0 put new
unfolding at_edge changes
beside_cleared plan peer put new else clears = subst (IsBeside plan peer.0 put) (sym (ap (λ (w : Work). w.edge) (clears [] []))) (by (has_end put peer)) where
  here : Work
  here = record { edge = put; calls = []; effects = []; idle = false }

  by : (b : Bool) → IsBeside plan peer.0 put (cond b here (changes (losing_ends peer) here)).edge
  by true = beside_not plan peer.0 put
  by false = beside_lost plan peer put else

-- a session was taken out, and another one or none put in its place
peering_put : (peer : EdgeId) (left : Option Peering) (old mid put : EdgeState) → mid ≡ with_peering peer None old → put ≡ with_peering peer left mid → put
    ≡ with_peering peer left (with_peering peer None old)
peering_put peer left old mid put took puts = puts ∙ ap (with_peering peer left) took

pub beside_put : (plan : Plan) (peer : EdgeId) (left : Option Peering) (old mid put : EdgeState) → mid ≡ with_peering peer None old → put ≡ with_peering peer left mid → IsBeside plan peer.0 old put
beside_put plan peer left old mid put took puts =
    subst (IsBeside plan peer.0 old) (sym (peering_put peer left old mid put took puts))
    (beside_then plan peer.0 old (with_peering peer None old) (with_peering peer left (with_peering peer None old)) (beside_peering plan peer None old)
    (beside_peering plan peer left (with_peering peer None old)))

pub fresh_put : (plan : Plan) (peer : EdgeId) (left : Option Peering) (old mid put : EdgeState) → mid ≡ with_peering peer None old → put ≡ with_peering peer left mid
    → AreFreshElse plan old → AreFreshElse plan put
fresh_put plan peer left old mid put took puts else =
    subst (AreFreshElse plan) (sym (peering_put peer left old mid put took puts)) (fresh_peering plan peer left (with_peering peer None old) (fresh_peering plan peer None old else))

-- then the ends beside the peer are lost where none stands
pub beside_happened : (plan : Plan) (peer : EdgeId) (left : Option Peering) (old mid put new : EdgeState) → AreFreshElse plan old → mid ≡ with_peering peer None old → put ≡ with_peering peer left mid
    → ((calls : List LinkCall) (out : List Effect) → at_edge new calls out ≡ clears_ends peer (at_edge put calls out)) → IsBeside plan peer.0 old new
beside_happened plan peer left old mid put new else took puts clears =
    beside_then plan peer.0 old put new (beside_put plan peer left old mid put took puts) (beside_cleared plan peer put new (fresh_put plan peer left old mid put took puts else) clears)

-- ---- the edge chooses for a service

-- an end that has a role by what is chosen is one of a spoke that starts at the edge
other_role : (row : WirePlan) (me : EdgeId) (service : ℕ) → nat_eq row.service.0 service ≡ true → is_terminal row me ≡ true → is_spoke_from (record { 0 = service }) me.0 row ≡ false → (a b : Bool)
    → end_role_of row me a ≡ end_role_of row me b
other_role row me service mine terminal not_spoke a b = by (is_mesh_class row.class) (is_last me.0 row.path) refl refl where
  pick : Bool → Bool → Bool → EndRole
  pick mesh last chosen = cond mesh role.Mesh (cond last role.Core (cond chosen role.Chosen role.NotChosen))

  starts : (first last mesh own : Bool) → own ≡ true → mesh ≡ false → last ≡ false → first || last ≡ true → (own && not mesh) && first ≡ false → ⊥
  starts true false false true o m l t s = cc
  starts false false false true o m l t s = cc
  starts first true mesh own o m l t s = cc
  starts first false true own o m l t s = cc
  starts first false false false o m l t s = cc

  by : (mesh last : Bool) → is_mesh_class row.class ≡ mesh → is_last me.0 row.path ≡ last → end_role_of row me a ≡ end_role_of row me b
  by true last m l = ap (λ (x : Bool). pick x (is_last me.0 row.path) a) m ∙ sym (ap (λ (x : Bool). pick x (is_last me.0 row.path) b) m)
  by false true m l =
      ap (λ (x : Bool). pick x (is_last me.0 row.path) a) m
      ∙ (ap (λ (x : Bool). pick false x a) l ∙ (sym (ap (λ (x : Bool). pick false x b) l) ∙ sym (ap (λ (x : Bool). pick x (is_last me.0 row.path) b) m)))
  by false false m l = absurd (starts (is_first me.0 row.path) (is_last me.0 row.path) (is_mesh_class row.class) (nat_eq row.service.0 service) mine m l terminal not_spoke)

chosen_sees : (plan : Plan) (place : EndPlace) (old : EdgeState) (service : ℕ) (chosen : Option WireId) → IsEndOf plan old.me place → starts_spoke plan old.me (record { 0 = service }) place ≡ false
    → SeesAlike plan place old (with_chosen (put_at old.chosen service chosen) old)
unfolding with_chosen
chosen_sees plan place old service chosen end apart = record {
  me = refl;
  on = refl;
  up = refl;
  bits = refl;
  end = refl;
  remotes = λ k. refl;
  role = λ terminal.
      ap (λ (r : Option WirePlan). role_in r old.me (put_at old.chosen service chosen) place.wire) end.is
      ∙ (by terminal (nat_eq end.row.service.0 service) refl ∙ sym (ap (λ (r : Option WirePlan). role_in r old.me old.chosen place.wire) end.is));
  told = refl;
  labels = λ none. none;
  learned = λ port service gone. gone;
}
  where
    by : place.terminal ≡ true → (b : Bool) → nat_eq end.row.service.0 service ≡ b
        → end_role_of end.row old.me (is_chosen_wire place.wire (cond (nat_eq end.row.service.0 service) chosen (old.chosen end.row.service.0)))
        ≡ end_role_of end.row old.me (is_chosen_wire place.wire (old.chosen end.row.service.0))
    by terminal true mine =
        other_role end.row old.me service mine (sym end.terminal ∙ terminal) (sym (ap (is_spoke_row (record { 0 = service }) old.me) end.is) ∙ apart)
        (is_chosen_wire place.wire (cond (nat_eq end.row.service.0 service) chosen (old.chosen end.row.service.0))) (is_chosen_wire place.wire (old.chosen end.row.service.0))
    by terminal false other = ap (λ (b : Bool). end_role_of end.row old.me (is_chosen_wire place.wire (cond b chosen (old.chosen end.row.service.0)))) other

chosen_now : (plan : Plan) (old : EdgeState) (service : ℕ) (chosen : Option WireId) (k : ℕ) → chosen ≡ choice plan old (record { 0 = service }) → HasChosenFor plan old k
    → (with_chosen (put_at old.chosen service chosen) old).chosen k ≡ choice plan old (record { 0 = k })
unfolding with_chosen
chosen_now plan old service chosen k is had = elim (cases_Bool (nat_eq k service)) [
  | inl here ↦ ap (λ (b : Bool). cond b chosen (old.chosen k)) here ∙ (is ∙ ap (λ (n : ℕ). choice plan old (record { 0 = n })) (sym (eqb-true k service here)))
  | inr away ↦ ap (λ (b : Bool). cond b chosen (old.chosen k)) away ∙ had
]

chosen_me : (old : EdgeState) (chosen : ℕ → Option WireId) → (with_chosen chosen old).me ≡ old.me
unfolding with_chosen
chosen_me old chosen = refl

chosen_spoke : (place : EndPlace) (old : EdgeState) (chosen : ℕ → Option WireId) → spoke_at (with_chosen chosen old) place ≡ spoke_at old place
unfolding with_chosen
chosen_spoke place old chosen = refl

pub tidy_chosen : (plan : Plan) (service : ℕ) (chosen : Option WireId) (old new : EdgeState) (before after : Option EndMarks) → IfSome before (IsTidy plan old)
    → Marked (MarksEach (end_places plan old.me) (starts_spoke plan old.me (record { 0 = service }))) before after → chosen ≡ choice plan old (record { 0 = service })
    → new ≡ with_chosen (put_at old.chosen service chosen) old → IfSome after (IsTidy plan new)
tidy_chosen plan service chosen old new before after tidy marked is chose =
    subst (λ (e : EdgeState). IfSome after (IsTidy plan e)) (sym chose)
    (marked_tidy plan old next (MarksEach (end_places plan old.me) (starts_spoke plan old.me (record { 0 = service }))) before after tidy marked
    (λ marks holds known. tidy_alike plan old next marks (chosen_me old (put_at old.chosen service chosen))
    (λ slot below free. chosen_sees plan (place_at (end_places plan old.me) slot) old service chosen
    (all_at (IsEndOf plan old.me) (end_places plan old.me) (places_are plan old.me) slot below) (holds slot below free))
    (λ slot below free. chosen_spoke (place_at (end_places plan old.me) slot) old (put_at old.chosen service chosen))
    (λ k passed had. chosen_now plan old service chosen k is had)
    known))
  where
    next : EdgeState
    next = with_chosen (put_at old.chosen service chosen) old

-- a choice that is there already
pub chosen_already : (service : ℕ) (chosen : Option WireId) (edge : EdgeState) → edge.chosen service ≡ chosen → with_chosen (put_at edge.chosen service chosen) edge ≡ edge
unfolding with_chosen
chosen_already service chosen edge had = λ i. record edge { chosen = λ k. each k i } where
  each : (k : ℕ) → put_at edge.chosen service chosen k ≡ edge.chosen k
  each k = elim (cases_Bool (nat_eq k service)) [
    | inl here ↦ ap (λ (b : Bool). cond b chosen (edge.chosen k)) here ∙ (sym had ∙ ap edge.chosen (sym (eqb-true k service here)))
    | inr away ↦ ap (λ (b : Bool). cond b chosen (edge.chosen k)) away
  ]
