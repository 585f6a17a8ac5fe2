-- An edge whose ends are all settled has nothing to mend; and the changes that leave each end settled, so that the marks stay.
use Rattle.std.proofs.Common.{◌≡◌, ◌<◌, ◌∙◌, ◌||◌, ◌&&◌, not, is_some, length, ℕ, Bool, true, false, List, [], ◌∷◌, Option, Some, None, cond, filter, nat_eq, slice_get, refl, ap, sym, subst}
use Rattle.std.specs.Prelude.{IfSome}
use Rattle.std.proofs.lemmas.Bool.{eqb-true, not-true}
use Rattle.net_base.specs.declared.outside.link_call.LinkCall.{LinkCall}
use Rattle.net_base.specs.declared.plan.Plan.{Plan}
use Rattle.net_base.specs.declared.plan.places.CircuitId.{CircuitId}
use Rattle.net_base.specs.declared.plan.places.EdgeId.{EdgeId}
use Rattle.net_base.specs.declared.plan.places.ServiceId.{ServiceId}
use Rattle.net_base.specs.declared.plan.places.WireId.{WireId}
use Rattle.net_base.specs.declared.plan.service_plan.ServicePlan.{ServicePlan}
use Rattle.net_base.specs.declared.plan.wire_plan.WirePlan.{WirePlan}
use Rattle.net_base.specs.plan.Accepted.{IsChecked}
use Rattle.net_values.specs.declared.mac.Mac.{Mac}
use Rattle.net_values.proofs.NumberLemmas.{same_number}
use Rattle.net_base.specs.plan.Places.{wire_row}
use Rattle.label_space.specs.declared.kept.Kept.{Kept}
use Rattle.label_space.specs.Kept.{met}
use Rattle.pw_messages.specs.LinkAnswers.{Answers}
use Rattle.mac_table.specs.Addresses.{entry_stays, is_young}
use Rattle.mac_table.specs.declared.mac_entry.MacEntry.{MacEntry}
use Rattle.pw_signalling.specs.declared.told.Told.{Told}
use Rattle.pw_signalling.specs.End.{EndState, LocalPart, Idle, Advertised, Withdrawing}
use Rattle.session_core.specs.Phase.{Phase}
use Rattle.session_core.specs.Phase as phase
use Rattle.edge_model.specs.declared.effect.Effect.{Effect}
use Rattle.edge_model.specs.declared.end_place.EndPlace.{EndPlace}
use Rattle.edge_model.specs.Clear.{withdrawing_at}
use Rattle.edge_model.specs.EndPlaces.{end_places}
use Rattle.edge_model.specs.Hear.{was_up}
use Rattle.edge_model.specs.Labels.{label_to_give, meeting}
use Rattle.edge_model.specs.Mend.{forgetting_wire, is_up_with, mends_once, port_of_wire, offer_stands, wish, wish_by, wish_of}
use Rattle.edge_model.specs.Put.{Spoken}
use Rattle.edge_model.specs.Session.{clears_ends, losing_ends}
use Rattle.edge_model.specs.Settled.{IsSettled, is_mended}
use Rattle.edge_model.specs.State.{EdgeState, Peering, addresses_of, end_at, has_end, is_there, put_at, with_addresses, with_circuit, with_kept, with_learned, with_next_ping, with_peering, with_ticks, without_port}
use Rattle.edge_model.specs.Tick.{aged, forgetting}
use Rattle.edge_model.specs.Work.{Work, changes}
use Rattle.edge_model.proofs.AgainLemmas.{mends_at_once, one_end}
use Rattle.edge_model.proofs.MendedLemmas.{IsMended, round_mends, fewer as fewer_left}
use Rattle.edge_model.proofs.CommonLemmas.{gone_up}
use Rattle.peer_dialogue.specs.Peering.{at_edge}
use Rattle.provider_edge.proofs.GivenLemmas.{meeting_leaves, none_is}
use Rattle.provider_edge.specs.declared.end_marks.EndMarks.{EndMarks}
use Rattle.provider_edge.specs.Marks.{IsUnmarked, place_at}
use Rattle.provider_edge.specs.Spokes.{starts_spoke}
use Rattle.provider_edge.specs.Tidy.{HasChosenFor, IsTidy, stands_as}

-- ---- mending is nothing exactly where all ends tell what they should

-- a round in which the link took each message leaves nothing to mend
pub round_nothing : (plan : Plan) (told : Answers) (edge : EdgeState) (calls : List LinkCall) (out : List Effect) (work : Work) (failed : Bool) → IsChecked plan
    → record { work = at_edge edge calls out; failed = failed } ≡ mends_once plan told work → failed ≡ false → IsMended plan edge
unfolding at_edge
round_nothing plan told edge calls out work failed checked is took =
    subst (λ (s : Spoken). IsMended plan s.work.edge) (sym is)
    (round_mends plan told work (one_end plan (mends_at_once.fit plan checked) work.edge.me) (sym (ap (λ (s : Spoken). s.failed) is) ∙ took))

-- ---- a change that leaves each end settled leaves the marks as they were

-- each end that has no mark
pub tidy_slots : (plan : Plan) (old new : EdgeState) (marks : Option EndMarks) → new.me ≡ old.me
    → ((slot : ℕ) → slot < length (end_places plan old.me) → IsSettled plan old (place_at (end_places plan old.me) slot) → IsSettled plan new (place_at (end_places plan old.me) slot))
    → ((service : ℕ) → HasChosenFor plan old service → HasChosenFor plan new service)
    → IfSome marks (IsTidy plan old) → IfSome marks (IsTidy plan new)
tidy_slots plan old new None same each chosen tidy = tt
tidy_slots plan old new (Some marks) same each chosen tidy = record {
  ends = λ slot unmarked.
      subst (λ (me : EdgeId). slot < length (end_places plan me) → IsSettled plan new (place_at (end_places plan me) slot)) (sym same)
      (λ within. each slot within (tidy.ends slot unmarked within));
  chosen = λ service passed. chosen service
      (tidy.chosen service
      (subst (λ (me : EdgeId). (slot : ℕ) → slot < length (end_places plan me) → starts_spoke plan me (record { 0 = service }) (place_at (end_places plan me) slot) ≡ true
      → IsUnmarked marks slot) same passed));
}

-- whatever end it is
pub tidy_each : (plan : Plan) (old new : EdgeState) (marks : Option EndMarks) → new.me ≡ old.me → ((place : EndPlace) → IsSettled plan old place → IsSettled plan new place)
    → ((service : ℕ) → HasChosenFor plan old service → HasChosenFor plan new service)
    → IfSome marks (IsTidy plan old) → IfSome marks (IsTidy plan new)
tidy_each plan old new marks same each chosen = tidy_slots plan old new marks same (λ slot within. each (place_at (end_places plan old.me) slot)) chosen

-- ---- the numbers that are kept to be given again

-- where no label is left to be given none is then
pub tidy_rekept : (plan : Plan) (edge : EdgeState) (kept : List Kept) (marks : Option EndMarks) → (label_to_give edge ≡ None → label_to_give (with_kept kept edge) ≡ None)
    → IfSome marks (IsTidy plan edge)
    → IfSome marks (IsTidy plan (with_kept kept edge))
unfolding with_kept
tidy_rekept plan edge kept marks leaves =
    tidy_each plan edge (record edge { kept = kept }) marks refl
    (λ place is. record {
      mended = fewer_left place (wish plan edge place) (not (is_some (label_to_give edge))) (not (is_some (label_to_give (record edge { kept = kept })))) (end_at edge place).local
          (none_is (label_to_give edge) (label_to_give (record edge { kept = kept })) leaves) is.mended;
      told = is.told;
      forgotten = is.forgotten;
      down = is.down;
    })
    (λ service is. is)

-- what waits for a peer begins to rest
pub tidy_met : (plan : Plan) (edge : EdgeState) (peer : EdgeId) (marks : Option EndMarks) → IfSome marks (IsTidy plan edge) → IfSome marks (IsTidy plan (meeting peer edge))
tidy_met plan edge peer marks = tidy_rekept plan edge (met peer edge.kept) marks (meeting_leaves peer edge)

-- ---- ticks, pings and circuits

pub tidy_ticked : (plan : Plan) (edge : EdgeState) (ticks : ℕ) (marks : Option EndMarks) → IfSome marks (IsTidy plan edge) → IfSome marks (IsTidy plan (with_ticks ticks edge))
unfolding with_ticks
tidy_ticked plan edge ticks marks =
    tidy_each plan edge (record edge { ticks = ticks }) marks refl
    (λ place is. record { mended = is.mended; told = is.told; forgotten = is.forgotten; down = is.down }) (λ service is. is)

pub tidy_pinged : (plan : Plan) (edge : EdgeState) (wire : WireId) (sequence : ℕ) (marks : Option EndMarks) → IfSome marks (IsTidy plan edge)
    → IfSome marks (IsTidy plan (with_next_ping wire sequence edge))
unfolding with_next_ping
tidy_pinged plan edge wire sequence marks =
    tidy_each plan edge (record edge { next_ping = put_at edge.next_ping wire.0 sequence }) marks refl
    (λ place is. record { mended = is.mended; told = is.told; forgotten = is.forgotten; down = is.down }) (λ service is. is)

pub tidy_circuit : (plan : Plan) (edge : EdgeState) (circuit : CircuitId) (on : Bool) (marks : Option EndMarks) → IfSome marks (IsTidy plan edge)
    → IfSome marks (IsTidy plan (with_circuit circuit on edge))
unfolding with_circuit
tidy_circuit plan edge circuit on marks =
    tidy_each plan edge (record edge { circuit_on = put_at edge.circuit_on circuit.0 on }) marks refl
    (λ place is. record { mended = is.mended; told = is.told; forgotten = is.forgotten; down = is.down }) (λ service is. is)

-- ---- addresses age

filters : {X : Type 0} (f g : X → Bool) (xs : List X) → filter f (filter g xs) ≡ filter g (filter f xs)
filters {X = X} f g [] = refl
filters {X = X} f g (x ∷ xs) = by (filters f g xs) (f x) (g x) refl refl where
  by : filter f (filter g xs) ≡ filter g (filter f xs) → (a b : Bool) → f x ≡ a → g x ≡ b → filter f (cond b (x ∷ filter g xs) (filter g xs)) ≡ filter g (cond a (x ∷ filter f xs) (filter f xs))
  by rest true true fa gb =
      ap (λ (b : Bool). cond b (x ∷ filter f (filter g xs)) (filter f (filter g xs))) fa
      ∙ (ap (λ (l : List X). x ∷ l) rest ∙ sym (ap (λ (b : Bool). cond b (x ∷ filter g (filter f xs)) (filter g (filter f xs))) gb))
  by rest true false fa gb = rest ∙ sym (ap (λ (b : Bool). cond b (x ∷ filter g (filter f xs)) (filter g (filter f xs))) gb)
  by rest false true fa gb = ap (λ (b : Bool). cond b (x ∷ filter f (filter g xs)) (filter f (filter g xs))) fa ∙ rest
  by rest false false fa gb = rest

-- addresses that are gone stay so
aged_gone : (port : Option ℕ) (now : ℕ) (row : Option ServicePlan) (entries : List MacEntry) → without_port port entries ≡ entries → without_port port (aged now row entries) ≡ aged now row entries
aged_gone None now row entries gone = refl
aged_gone (Some p) now None entries gone = gone
aged_gone (Some p) now (Some row) entries gone =
    filters (λ (e : MacEntry). not (nat_eq e.port p)) (is_young now row.age) entries ∙ ap (filter (is_young now row.age)) gone

pub tidy_aged : (plan : Plan) (edge : EdgeState) (marks : Option EndMarks) → IfSome marks (IsTidy plan edge) → IfSome marks (IsTidy plan (forgetting plan edge))
unfolding with_learned
tidy_aged plan edge marks =
    tidy_each plan edge (forgetting plan edge) marks refl
    (λ place is. record {
      mended = is.mended;
      told = is.told;
      forgotten = λ row terminal at down.
          aged_gone (port_of_wire plan edge place.wire row) edge.ticks (slice_get plan.services row.service.0) (addresses_of edge row.service) (is.forgotten row terminal at down);
      down = is.down;
    })
    (λ service is. is)

-- ---- of a service fewer addresses are left

filtered_gone : (port : Option ℕ) (stays : MacEntry → Bool) (entries : List MacEntry) → without_port port entries ≡ entries → without_port port (filter stays entries) ≡ filter stays entries
filtered_gone None stays entries gone = refl
filtered_gone (Some p) stays entries gone = filters (λ (e : MacEntry). not (nat_eq e.port p)) stays entries ∙ ap (filter stays) gone

pub tidy_fewer : (plan : Plan) (edge : EdgeState) (service : ServiceId) (stays : MacEntry → Bool) (marks : Option EndMarks) → IfSome marks (IsTidy plan edge)
    → IfSome marks (IsTidy plan (with_addresses service (filter stays (addresses_of edge service)) edge))
unfolding with_addresses
tidy_fewer plan edge service stays marks =
    tidy_each plan edge new marks refl
    (λ place is. record {
      mended = is.mended;
      told = is.told;
      forgotten = λ row terminal at down. fewer (port_of_wire plan edge place.wire row) row.service (is.forgotten row terminal at down);
      down = is.down;
    })
    (λ service is. is)
  where
    left : List MacEntry
    left = filter stays (addresses_of edge service)

    new : EdgeState
    new = record edge { learned = put_at edge.learned service.0 left }

    fewer : (port : Option ℕ) (at : ServiceId) → without_port port (addresses_of edge at) ≡ addresses_of edge at → without_port port (addresses_of new at) ≡ addresses_of new at
    fewer port at gone = by (nat_eq at.0 service.0) refl where
      by : (b : Bool) → nat_eq at.0 service.0 ≡ b → without_port port (cond b left (addresses_of edge at)) ≡ cond b left (addresses_of edge at)
      by true here = filtered_gone port stays (addresses_of edge service)
          (subst (λ (n : ℕ). without_port port (edge.learned n) ≡ edge.learned n) (eqb-true at.0 service.0 here) gone)
      by false away = gone

-- a MAC withdraw is heard
pub tidy_withdrawn : (plan : Plan) (edge : EdgeState) (service : ServiceId) (addresses : List Mac) (from : ℕ) (marks : Option EndMarks) → IfSome marks (IsTidy plan edge)
    → IfSome marks (IsTidy plan (withdrawing_at service addresses from edge))
tidy_withdrawn plan edge service addresses from marks = tidy_fewer plan edge service (entry_stays from addresses) marks

-- what is there already
same_there : (service : ServiceId) (edge : EdgeState) → with_addresses service (addresses_of edge service) edge ≡ edge
unfolding with_addresses
same_there service edge = λ i. record edge { learned = λ k. each k i } where
  each : (k : ℕ) → cond (nat_eq k service.0) (addresses_of edge service) (edge.learned k) ≡ edge.learned k
  each k = by (nat_eq k service.0) refl where
    by : (b : Bool) → nat_eq k service.0 ≡ b → cond b (addresses_of edge service) (edge.learned k) ≡ edge.learned k
    by true here = ap edge.learned (sym (eqb-true k service.0 here))
    by false away = refl

-- what was learned at a port is forgotten
pub tidy_without : (plan : Plan) (edge : EdgeState) (service : ServiceId) (port : Option ℕ) (marks : Option EndMarks) → IfSome marks (IsTidy plan edge)
    → IfSome marks (IsTidy plan (with_addresses service (without_port port (addresses_of edge service)) edge))
tidy_without plan edge service None marks tidy = subst (λ (e : EdgeState). IfSome marks (IsTidy plan e)) (sym (same_there service edge)) tidy
tidy_without plan edge service (Some p) marks tidy = tidy_fewer plan edge service (λ (e : MacEntry). not (nat_eq e.port p)) marks tidy

-- and at the port of a wire
pub tidy_forgot : (plan : Plan) (edge : EdgeState) (wire : WireId) (row : Option WirePlan) (marks : Option EndMarks) → IfSome marks (IsTidy plan edge)
    → IfSome marks (IsTidy plan (forgetting_wire plan wire row edge))
tidy_forgot plan edge wire None marks tidy = tidy
tidy_forgot plan edge wire (Some row) marks tidy = tidy_without plan edge row.service (port_of_wire plan edge wire row) marks tidy

-- ---- another session with a peer, which is up or not as it was

-- what an end should tell goes by whether the session is up
wish_up : (plan : Plan) (edge : EdgeState) (peering : ℕ → Option Peering) (place : EndPlace) → ((k : ℕ) → is_up_with (peering k) ≡ is_up_with (edge.peering k))
    → wish plan (record edge { peering = peering }) place ≡ wish plan edge place
wish_up plan edge peering place ups = by (wire_row plan place.wire) where
  by : (row : Option WirePlan) → wish_of plan (record edge { peering = peering }) place row ≡ wish_of plan edge place row
  by None = refl
  by (Some row) = ap (λ (up : Bool). cond (edge.wire_on place.wire.0 && up) (wish_by plan edge place row) None) (ups place.peer.0)

mended_up : (plan : Plan) (edge : EdgeState) (peering : ℕ → Option Peering) (place : EndPlace) → ((k : ℕ) → is_up_with (peering k) ≡ is_up_with (edge.peering k))
    → is_mended plan (record edge { peering = peering }) place ≡ is_mended plan edge place
mended_up plan edge peering place ups = by (end_at edge place).local where
  -- with this local part of each end, of which what ends should tell does not depend
  with_local : LocalPart → ℕ → ℕ → EndState
  with_local local wire k = record { local = local; remote = (edge.ends wire k).remote }

  same : wish plan (record edge { peering = peering }) place ≡ wish plan edge place
  same = wish_up plan edge peering place ups

  by : (local : LocalPart) → is_mended plan (record edge { peering = peering; ends = with_local local }) place ≡ is_mended plan (record edge { ends = with_local local }) place
  by (Idle declined) = ap (λ (wished : Option Told). declined || (not (is_some wished) || not (is_some (label_to_give edge)))) same
  by (Advertised label content) = ap (λ (wished : Option Told). offer_stands place content wished) same
  by (Withdrawing label) = refl

pub tidy_up : (plan : Plan) (edge : EdgeState) (peering : ℕ → Option Peering) (marks : Option EndMarks) → ((k : ℕ) → is_up_with (peering k) ≡ is_up_with (edge.peering k))
    → IfSome marks (IsTidy plan edge)
    → IfSome marks (IsTidy plan (record edge { peering = peering }))
tidy_up plan edge peering marks ups =
    tidy_each plan edge (record edge { peering = peering }) marks refl
    (λ place is. record { mended = mended_up plan edge peering place ups ∙ is.mended; told = is.told; forgotten = is.forgotten; down = is.down }) (λ service is. is)

-- two names of the phase in which a session is up
was_up_with : (kept : Option Peering) → is_up_with kept ≡ was_up kept
was_up_with None = refl
was_up_with (Some kept) = by kept.session.phase where
  by : (p : Phase) → is_up_with (Some (record kept { session = record kept.session { phase = p } })) ≡ was_up (Some (record kept { session = record kept.session { phase = p } }))
  by phase.Initialized = refl
  by phase.OpenSent = refl
  by phase.OpenRec = refl
  by phase.Operational = refl

-- each session is up or not as it was
pub tidy_alike : (plan : Plan) (edge : EdgeState) (peering : ℕ → Option Peering) (marks : Option EndMarks) → ((k : ℕ) → was_up (peering k) ≡ was_up (edge.peering k)) → IfSome marks (IsTidy plan edge)
    → IfSome marks (IsTidy plan (record edge { peering = peering }))
tidy_alike plan edge peering marks same tidy = tidy_up plan edge peering marks (λ k. was_up_with (peering k) ∙ (same k ∙ sym (was_up_with (edge.peering k)))) tidy

-- in the place of what was kept of a peer something is put that is up or not as it was
pub tidy_put : (plan : Plan) (peer : EdgeId) (before left : Option Peering) (old mid new : EdgeState) (marks : Option EndMarks) → IfSome marks (IsTidy plan old) → before ≡ old.peering peer.0
    → mid ≡ with_peering peer None old → new ≡ with_peering peer left mid → was_up left ≡ was_up before → IfSome marks (IsTidy plan new)
unfolding with_peering
tidy_put plan peer before left old mid new marks tidy read took puts same =
    subst (λ (e : EdgeState). IfSome marks (IsTidy plan e)) (sym (puts ∙ ap (λ (e : EdgeState). record e { peering = put_at e.peering peer.0 left }) took))
    (tidy_up plan old peering marks (λ k. ups k) tidy)
  where
    peering : ℕ → Option Peering
    peering = put_at (put_at old.peering peer.0 None) peer.0 left

    ups : (k : ℕ) → is_up_with (peering k) ≡ is_up_with (old.peering k)
    ups k = by (nat_eq k peer.0) refl where
      by : (b : Bool) → nat_eq k peer.0 ≡ b → is_up_with (cond b left (cond b None (old.peering k))) ≡ is_up_with (old.peering k)
      by true here = was_up_with left ∙ (same ∙ (sym (was_up_with before) ∙ (ap is_up_with read ∙ ap (λ (n : ℕ). is_up_with (old.peering n)) (sym (eqb-true k peer.0 here)))))
      by false away = refl

-- a session begins where none stood, and is not up
pub tidy_begun : (plan : Plan) (peer : EdgeId) (kept : Peering) (old new : EdgeState) (marks : Option EndMarks) → IfSome marks (IsTidy plan old) → has_end old peer ≡ false → was_up (Some kept) ≡ false
    → new ≡ with_peering peer (Some kept) old → IfSome marks (IsTidy plan new)
unfolding with_peering
tidy_begun plan peer kept old new marks tidy none down puts = subst (λ (e : EdgeState). IfSome marks (IsTidy plan e)) (sym puts) (tidy_up plan old peering marks (λ k. ups k) tidy) where
  peering : ℕ → Option Peering
  peering = put_at old.peering peer.0 (Some kept)

  ups : (k : ℕ) → is_up_with (peering k) ≡ is_up_with (old.peering k)
  ups k = by (nat_eq k peer.0) refl where
    by : (b : Bool) → nat_eq k peer.0 ≡ b → is_up_with (cond b (Some kept) (old.peering k)) ≡ is_up_with (old.peering k)
    by true here =
        was_up_with (Some kept)
        ∙ (down ∙ (sym (gone_up (old.peering peer.0) none) ∙ ap (λ (n : ℕ). is_up_with (old.peering n)) (sym (eqb-true k peer.0 here))))
    by false away = refl

stands_there : (up : Bool) (left : Option Peering) → stands_as up left ≡ true → is_there left ≡ true
stands_there up None stands = stands
stands_there up (Some kept) stands = refl

stands_up : (up : Bool) (left : Option Peering) → stands_as up left ≡ true → was_up left ≡ up
stands_up up None stands = absurd (cc (stands))
stands_up true (Some kept) stands = stands
stands_up false (Some kept) stands = not-true (was_up (Some kept)) stands

cleared_there : (peer : EdgeId) (put new : EdgeState) → ((calls : List LinkCall) (out : List Effect) → at_edge new calls out ≡ clears_ends peer (at_edge put calls out))
    → has_end put peer ≡ true → new ≡ put
unfolding at_edge
cleared_there peer put new clears there =
    let here : Work = record { edge = put; calls = []; effects = []; idle = false } in
    ap (λ (w : Work). w.edge) (clears [] []) ∙ ap (λ (b : Bool). (cond b here (changes (losing_ends peer) here)).edge) there

pub there_put : (peer : EdgeId) (left : Option Peering) (mid put : EdgeState) → put ≡ with_peering peer left mid → is_there left ≡ true → has_end put peer ≡ true
unfolding with_peering
there_put peer left mid put puts there = ap (λ (e : EdgeState). has_end e peer) puts ∙ (ap (λ (b : Bool). is_there (cond b left (mid.peering peer.0))) (same_number peer.0) ∙ there)

-- an event happened to a session, which stands as it did
pub tidy_happened : (plan : Plan) (peer : EdgeId) (before left : Option Peering) (up : Bool) (old mid put new : EdgeState) (marks : Option EndMarks) → IfSome marks (IsTidy plan old)
    → up ≡ was_up (old.peering peer.0)
    → before ≡ old.peering peer.0 → mid ≡ with_peering peer None old → put ≡ with_peering peer left mid
    → ((calls : List LinkCall) (out : List Effect) → at_edge new calls out ≡ clears_ends peer (at_edge put calls out)) → stands_as up left ≡ true → IfSome marks (IsTidy plan new)
tidy_happened plan peer before left up old mid put new marks tidy at read took puts clears stands =
    subst (λ (e : EdgeState). IfSome marks (IsTidy plan e)) (sym (cleared_there peer put new clears (there_put peer left mid put puts (stands_there up left stands))))
    (tidy_put plan peer before left old mid put marks tidy read took puts (stands_up up left stands ∙ (at ∙ ap was_up (sym read))))
