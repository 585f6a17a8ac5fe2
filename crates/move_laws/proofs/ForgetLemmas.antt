-- An edge that mends and hears learns nothing: of what it has learned some entries are left.
use Rattle.pw_messages.specs.Content.{mac_withdrawal, mapping, release, status_notification, withdrawal}
use Rattle.edge_model.proofs.SessionLemmas.{advice_works, any, happens_with_ends_works, says_works}
use Rattle.edge_model.proofs.WalkLemmas.{HearSteps, MendSteps, acts_on_holds, mends_holds}
use Rattle.edge_model.specs.Clear.{withdrawing_at}
use Rattle.edge_model.specs.EndPlaces.{end_named}
use Rattle.edge_model.specs.Hear.{acts_on}
use Rattle.edge_model.specs.Mend.{advertising, forgetting_wire, mends, port_of_wire, telling_status, withdrawing}
use Rattle.edge_model.specs.Put.{put_reply}
use Rattle.edge_model.specs.Role.{down_at, status_to_tell}
use Rattle.edge_model.specs.Session.{had_said, happens_with_ends, says}
use Rattle.edge_model.specs.Signal.{end_of_fec, with_end_changed, with_named, with_released}
use Rattle.edge_model.specs.Spokes.{choosing}
use Rattle.edge_model.specs.State.{EdgeState, Peering, end_at, has_end, put_at, with_addresses, with_chosen, with_end, with_ends_beside, with_kept, with_next_label, with_peering, with_told_down, without_port}
use Rattle.edge_model.specs.Work.{Work, changes, gives}
use Rattle.edge_model.specs.declared.effect.Effect.TheVariants.{Wire}
use Rattle.edge_model.specs.declared.end_place.EndPlace.{EndPlace}
use Rattle.flight_laws.proofs.NameLemmas.{split}
use Rattle.ldp_grammar.specs.declared.message.Message.{Message}
use Rattle.mac_table.specs.Addresses.{entry_stays}
use Rattle.mac_table.specs.declared.mac_entry.MacEntry.{MacEntry}
use Rattle.move_laws.specs.Healing.{IsFiltered}
use Rattle.net_base.specs.declared.plan.Plan.{Plan}
use Rattle.net_base.specs.declared.plan.places.EdgeId.{EdgeId}
use Rattle.net_base.specs.declared.plan.places.ServiceId.{ServiceId}
use Rattle.net_base.specs.declared.plan.places.WireId.{WireId}
use Rattle.net_base.specs.declared.plan.wire_plan.WirePlan.{WirePlan}
use Rattle.net_base.specs.declared.trace.down.Down.{Down}
use Rattle.net_values.specs.declared.mac.Mac.{Mac}
use Rattle.net_base.specs.plan.Places.{wire_row}
use Rattle.network_model.specs.Absorb.{taken_all}
use Rattle.pw_signalling.specs.End.{EndState}
use Rattle.pw_signalling.specs.Rows.{bound, group_stated, group_unbound, released, stated, telling, unbound, withdrawn}
use Rattle.pw_signalling.specs.declared.told.Told.{Told}
use Rattle.pw_tlvs.specs.declared.pw_fec.PwFec.{PwFec}
use Rattle.session_core.specs.Table.{SessionEvent}
use Rattle.std.proofs.Common.{Bool, List, None, Option, Some, [], ap, cond, false, filter, nat_eq, not, refl, subst, sym, true, ℕ, ◌&&◌, ◌==◌, ◌∙◌, ◌∷◌, ◌≡◌}
use Rattle.std.proofs.lemmas.Bool.{eqb-true}
use Rattle.std.specs.List.{AllByRecursion}

-- each entry is left
keeps_all : (xs : List MacEntry) → xs ≡ filter (λ entry. true) xs
keeps_all [] = refl
keeps_all (x ∷ xs) = ap (λ (l : List MacEntry). x ∷ l) (keeps_all xs)

filter_twice : (f g : MacEntry → Bool) (xs : List MacEntry) → filter g (filter f xs) ≡ filter (λ entry. f entry && g entry) xs
filter_twice f g [] = refl
filter_twice f g (x ∷ xs) = by (f x) (g x) refl refl (filter_twice f g xs) where
  by : (p q : Bool) → f x ≡ p → g x ≡ q → filter g (filter f xs) ≡ filter (λ entry. f entry && g entry) xs → filter g (filter f (x ∷ xs)) ≡ filter (λ entry. f entry && g entry) (x ∷ xs)
  by true true one other rest = rw (one, other) (ap (λ (l : List MacEntry). x ∷ l) rest)
  by true false one other rest = rw (one, other) rest
  by false q one other rest = rw one rest

some_left : (P : MacEntry → Type 0) (f : MacEntry → Bool) (xs : List MacEntry) → AllByRecursion P xs → AllByRecursion P (filter f xs)
some_left P f [] all = tt
some_left P f (x ∷ xs) all = by (f x) (some_left P f xs all.1) where
  by : (b : Bool) → AllByRecursion P (filter f xs) → AllByRecursion P (cond b (x ∷ filter f xs) (filter f xs))
  by true rest = (all.0, rest)
  by false rest = rest

pub all_left : (P : MacEntry → Type 0) (old new : List MacEntry) → IsFiltered old new → AllByRecursion P old → AllByRecursion P new
all_left P old new left all = subst (AllByRecursion P) (sym left.is) (some_left P left.test old all)

pub left_then : (a b c : List MacEntry) → IsFiltered a b → IsFiltered b c → IsFiltered a c
left_then a b c one next = record { test = λ entry. one.test entry && next.test entry; is = next.is ∙ (ap (filter next.test) one.is ∙ filter_twice one.test next.test a) }

module _ (service : ServiceId) where
  -- the tables of the service before and after
  pub record Forgets (old new : Work) : Type 0 where
    pub left : IsFiltered (old.edge.learned service.0) (new.edge.learned service.0)

  pub forgets_none : (old new : Work) → new.edge.learned ≡ old.edge.learned → Forgets old new
  forgets_none old new same = record { left = record { test = λ entry. true; is = ap (λ (f : ℕ → List MacEntry). f service.0) same ∙ keeps_all (old.edge.learned service.0) } }

  forgets_then : (a b c : Work) → Forgets a b → Forgets b c → Forgets a c
  forgets_then a b c one next = record { left = left_then (a.edge.learned service.0) (b.edge.learned service.0) (c.edge.learned service.0) one.left next.left }

  -- some of one service are left
  put_left : (learned : ℕ → List MacEntry) (k n : ℕ) (test : MacEntry → Bool) → IsFiltered (learned n) (put_at learned k (filter test (learned k)) n)
  put_left learned k n test = split {P = IsFiltered (learned n) (put_at learned k (filter test (learned k)) n)} (nat_eq n k)
      (λ same. record { test = test; is = rw same (ap (λ (m : ℕ). filter test (learned m)) (sym (eqb-true n k same))) })
      (λ other. record { test = λ entry. true; is = rw other (keeps_all (learned n)) })

  clears_forgets : (of : ServiceId) (addresses : List Mac) (from : ℕ) (work : Work) → Forgets work (changes (withdrawing_at of addresses from) work)
  unfolding changes with_addresses
  clears_forgets of addresses from work = record { left = put_left work.edge.learned of.0 service.0 (entry_stays from addresses) }

  with_same : (of : ServiceId) (work : Work) → IsFiltered (work.edge.learned service.0) (put_at work.edge.learned of.0 (work.edge.learned of.0) service.0)
  with_same of work = split {P = IsFiltered (work.edge.learned service.0) (put_at work.edge.learned of.0 (work.edge.learned of.0) service.0)} (nat_eq service.0 of.0)
      (λ same. record { test = λ entry. true; is = rw same (ap work.edge.learned (sym (eqb-true service.0 of.0 same)) ∙ keeps_all (work.edge.learned service.0)) })
      (λ other. record { test = λ entry. true; is = rw other (keeps_all (work.edge.learned service.0)) })

  wire_forgets : (plan : Plan) (wire : WireId) (row : Option WirePlan) (work : Work) → Forgets work (changes (forgetting_wire plan wire row) work)
  unfolding changes with_addresses
  wire_forgets plan wire None work = forgets_none work work refl
  wire_forgets plan wire (Some row) work = record { left = by (port_of_wire plan work.edge wire row) } where
    by : (p : Option ℕ) → IsFiltered (work.edge.learned service.0) (put_at work.edge.learned row.service.0 (without_port p (work.edge.learned row.service.0)) service.0)
    by None = with_same row.service work
    by (Some p) = put_left work.edge.learned row.service.0 service.0 (λ e. not (e.port == p))

  says_forgets : (to : EdgeId) (message : ℕ → Message) (work : Work) → Forgets work (says taken_all to message work).work
  says_forgets to message work = forgets_none work (says taken_all to message work).work (says_works taken_all any to message work refl).edge.learned

  changed_says : (change : EdgeState → EdgeState) (to : EdgeId) (message : ℕ → Message) (work : Work) → (change work.edge).learned ≡ work.edge.learned
      → Forgets work (says taken_all to message (changes change work)).work
  unfolding changes
  changed_says change to message work same = forgets_none work (says taken_all to message (changes change work)).work
      ((says_works taken_all any to message (changes change work) refl).edge.learned ∙ same)

  pub changed_forgets : (change : EdgeState → EdgeState) (work : Work) → (change work.edge).learned ≡ work.edge.learned → Forgets work (changes change work)
  unfolding changes
  changed_forgets change work same = forgets_none work (changes change work) same

  advertising_learned : (place : EndPlace) (label : ℕ) (content : Told) (edge : EdgeState) → (advertising place label content edge).learned ≡ edge.learned
  unfolding with_end with_next_label with_kept
  advertising_learned place label content edge = refl

  end_learned : (place : EndPlace) (end : EndState) (edge : EdgeState) → (with_end place end edge).learned ≡ edge.learned
  unfolding with_end
  end_learned place end edge = refl

  changed_learned : (change : EndState → EndState) (place : Option EndPlace) (edge : EdgeState) → (with_end_changed change place edge).learned ≡ edge.learned
  changed_learned change None edge = refl
  changed_learned change (Some place) edge = end_learned place (change (end_at edge place)) edge

  released_learned : (label : Option ℕ) (place : Option EndPlace) (edge : EdgeState) → (with_released label place edge).learned ≡ edge.learned
  unfolding with_end with_kept
  released_learned label None edge = refl
  released_learned label (Some place) edge = refl

  beside_learned : (to : EdgeId) (change : EndState → EndState) (edge : EdgeState) → (with_ends_beside to change edge).learned ≡ edge.learned
  unfolding with_ends_beside
  beside_learned to change edge = refl

  named_learned : (plan : Plan) (to : EdgeId) (fec : PwFec) (one all : EndState → EndState) (pw_id : Option ℕ) (edge : EdgeState) → (with_named plan to fec one all pw_id edge).learned ≡ edge.learned
  named_learned plan to fec one all None edge = beside_learned to all edge
  named_learned plan to fec one all (Some pw_id) edge = changed_learned one (end_named plan edge.me to pw_id) edge

  choosing_learned : (plan : Plan) (edge : EdgeState) → (choosing plan edge).learned ≡ edge.learned
  unfolding with_chosen
  choosing_learned plan edge = refl

  told_forgets : (place : EndPlace) (down : Option Down) (work : Work) → Forgets work (gives (Wire place.wire down) (changes (with_told_down place.wire down) work))
  unfolding gives changes with_told_down
  told_forgets place down work = forgets_none work (gives (Wire place.wire down) (changes (with_told_down place.wire down) work)) refl

  kept_forgets : (to : EdgeId) (kept : Peering) (octets : List ℕ) (work : Work) → Forgets work (changes (with_peering to (Some (record kept { held = octets }))) work)
  unfolding changes with_peering
  kept_forgets to kept octets work = forgets_none work (changes (with_peering to (Some (record kept { held = octets }))) work) refl

  pub mend_steps_forget : (plan : Plan) → MendSteps plan taken_all Forgets
  mend_steps_forget plan = record {
    same = λ work. forgets_none work work refl;
    joined = forgets_then;
    advertises = λ place label content work here at wished given. changed_says (advertising place label content) place.peer (mapping place.pw_id label content) work
        (advertising_learned place label content work.edge);
    withdraws = λ place label content work here at wished. changed_says (withdrawing place) place.peer (withdrawal place.pw_id label content) work
        (end_learned place (withdrawn (end_at work.edge place)) work.edge);
    chooses = λ work. changed_forgets (choosing plan) work (choosing_learned plan work.edge);
    tells_status = λ place label content last work here at told other. changed_says (telling_status place (status_to_tell plan work.edge place)) place.peer
        (status_notification place.pw_id (status_to_tell plan work.edge place) content) work
        (end_learned place (telling (status_to_tell plan work.edge place) (end_at work.edge place)) work.edge);
    tells_piece = λ place label content addresses work at. says_forgets place.peer (mac_withdrawal place.pw_id addresses content) work;
    tells_down = λ place work here terminal other. told_forgets place (down_at plan work.edge place) work;
    forgets_wire = λ place why work here terminal down. wire_forgets plan place.wire (wire_row plan place.wire) work;
  }

  pub hear_steps_forget : (plan : Plan) → HearSteps plan taken_all Forgets
  hear_steps_forget plan = record {
    mend = mend_steps_forget plan;
    happens = λ to event work. forgets_none work (happens_with_ends taken_all to event work) (happens_with_ends_works taken_all any to event work refl).edge.learned;
    advises = λ to reply work. forgets_none work (had_said to (put_reply taken_all to reply work)).work (advice_works taken_all any to reply work refl).edge.learned;
    holds = λ to kept octets work at. kept_forgets to kept octets work;
    releases = λ to fec label work. says_forgets to (release fec label) work;
    binds = λ to fec place binding work there is taken. changed_forgets (with_end_changed (bound binding) (Some place)) work (changed_learned (bound binding) (Some place) work.edge);
    unbinds = λ to fec label work there. changed_forgets (with_named plan to fec (unbound label) (group_unbound fec.group) fec.pw_id) work
        (named_learned plan to fec (unbound label) (group_unbound fec.group) fec.pw_id work.edge);
    released = λ to fec label work there. changed_forgets (λ edge. with_released label (end_of_fec plan edge to fec) edge) work (released_learned label (end_of_fec plan work.edge to fec) work.edge);
    states = λ to fec status work there. changed_forgets (with_named plan to fec (stated status) (group_stated fec.group status) fec.pw_id) work
        (named_learned plan to fec (stated status) (group_stated fec.group status) fec.pw_id work.edge);
    clears = λ of addresses from work. clears_forgets of addresses from work;
  }

  pub mends_forget : (plan : Plan) (work : Work) → Forgets work (mends plan taken_all work)
  mends_forget plan work = mends_holds plan taken_all Forgets (mend_steps_forget plan) work

  pub acts_forget : (plan : Plan) (peer : EdgeId) (m : Message) (work : Work) → has_end work.edge peer ≡ true → Forgets work (acts_on plan taken_all peer m work)
  acts_forget plan peer m work there = acts_on_holds plan taken_all Forgets (hear_steps_forget plan) peer m work there

  pub event_forgets : (peer : EdgeId) (event : SessionEvent) (work : Work) → Forgets work (happens_with_ends taken_all peer event work)
  event_forgets peer event work = forgets_none work (happens_with_ends taken_all peer event work) (happens_with_ends_works taken_all any peer event work refl).edge.learned
