-- What an edge makes of a message in a session that is up keeps what is left of the ends of wires, for every place.
use Rattle.std.proofs.Common.{◌≡◌, ◌++◌, ◌∙◌, nat_eq, ℕ, Bool, true, false, cond, List, [], ◌∷◌, Option, Some, None, is_some, option_and_then, refl, sym, ap, subst}
use Rattle.net_values.proofs.BoolLemmas.{clash, second_holds}
use Rattle.net_base.specs.declared.plan.Plan.{Plan}
use Rattle.net_base.specs.declared.plan.places.EdgeId.{EdgeId}
use Rattle.net_base.specs.plan.Accepted.{IsChecked}
use Rattle.ldp_grammar.specs.declared.message.Message.{Message}
use Rattle.ldp_grammar.specs.declared.message.Message.TheVariants.{Notification, Initialization, KeepAlive, AddressWithdraw, LabelMapping, LabelWithdraw, LabelRelease}
use Rattle.ldp_grammar.specs.declared.status_code.StatusCode.{StatusCode}
use Rattle.pw_tlvs.specs.declared.point.Point.{Point}
use Rattle.pw_tlvs.specs.declared.pw_fec.PwFec.{PwFec}
use Rattle.pw_tlvs.specs.declared.pw_status.PwStatus.{PwStatus}
use Rattle.pw_tlvs.specs.Written.{writable_fec}
use Rattle.pw_signalling.specs.End.{EndState}
use Rattle.pw_signalling.specs.Rows.{bound, group_stated, group_unbound, released, stated, unbound}
use Rattle.session_core.specs.declared.peers.Peers.{Peers}
use Rattle.pw_messages.specs.Content.{binding_in, pw_status_code, release, told_with}
use Rattle.edge_model.specs.declared.end_place.EndPlace.{EndPlace}
use Rattle.edge_model.specs.EndPlaces.{end_named}
use Rattle.edge_model.specs.Hear.{acts_on}
use Rattle.edge_model.specs.Session.{says}
use Rattle.edge_model.specs.Signal.{end_of_fec, hears_mapping, hears_status, hears_withdraw, maps_to, releases_label, takes_content, with_end_changed, with_named, with_released}
use Rattle.edge_model.specs.State.{EdgeState, Peering, end_at, is_there, with_ends_beside, with_kept}
use Rattle.edge_model.specs.Work.{Work, changes}
use Rattle.edge_model.proofs.FitLemmas.{named_keeps, changed_keeps, released_keeps}
use Rattle.network_model.specs.Absorb.{taken_all}
use Rattle.flight_laws.specs.Bound.{AreBound, HasSaid, LeavesBound, is_withdrawal_of}
use Rattle.flight_laws.specs.Coming.{and_more}
use Rattle.flight_laws.specs.Ends.{ends_at}
use Rattle.flight_laws.specs.Meeting.{Spares}
use Rattle.flight_laws.specs.Messages.{IsSaidAcross, IsSound}
use Rattle.flight_laws.specs.Pair.{IsStanding}
use Rattle.flight_laws.specs.Rules.{TellsOfWire, TellsPlan}
use Rattle.flight_laws.proofs.AcceptLemmas.{takes_told}
use Rattle.flight_laws.proofs.EdgeBindingLemmas.{HasSameEnds, end_beside_other, end_given}
use Rattle.flight_laws.proofs.GivenLemmas.{given_on, heard_given, released_ends}
use Rattle.flight_laws.proofs.HeardBindingLemmas.{HearsAs, bound_hears, bound_hears_unknown, bound_hears_withdrawal, mapping_known, mapping_unknown, other_code, release_heard, status_heard_as, unknown_released, withdraw_heard}
use Rattle.flight_laws.proofs.HearingLemmas.{withdraws_addresses}
use Rattle.flight_laws.proofs.LeaveLemmas.{leaves_same, leaves_spoken}
use Rattle.flight_laws.proofs.OfferLemmas.{IsOfWires, release_is}
use Rattle.flight_laws.proofs.PlaceLemmas.{named_is}
use Rattle.flight_laws.proofs.RowBindingLemmas.{changed_said}
use Rattle.flight_laws.proofs.SayLemmas.{says_none, says_spares}
use Rattle.flight_laws.proofs.SpokenLemmas.{HasSpoken, says_spoken}
use Rattle.flight_laws.proofs.WorkLemmas.{spares_same, spares_then}
use Rattle.flight_laws.proofs.WorksLemmas.{changed_edge}
use Rattle.flight_laws.proofs.ActLemmas.{writable_kind}

-- ---- for the sender

-- the edge is changed, and nothing is said
heard_leaves : (plan : Plan) (me peer : EdgeId) (far : EdgeState) (out : List ℕ) (m : Message) (messages : List Message) (change : EdgeState → EdgeState) (work : Work)
    → ((pw_id label : ℕ) → is_withdrawal_of pw_id label m ≡ false)
    → (change work.edge).peering ≡ work.edge.peering → HearsAs plan me peer m work.edge (change work.edge)
    → LeavesBound plan me peer.0 far out (m ∷ messages) work → LeavesBound plan me peer.0 far out messages (changes change work)
heard_leaves plan me peer far out m messages change work none same hears leaves = record {
  bound = λ ms are is near other. subst (λ (e : EdgeState). AreBound plan me.0 peer.0 e far ms messages) (sym (changed_edge change work))
      (bound_hears plan me peer m work.edge (change work.edge) far ms messages none hears
      (leaves.bound ms are (ap (λ (said : List ℕ). and_more (far.peering me.0) out said) (sym (changed_said change work peer.0)) ∙ is)
      (ap is_there (sym (ap (λ (e : EdgeState). e.peering peer.0) (changed_edge change work) ∙ ap (λ (f : ℕ → Option Peering). f peer.0) same)) ∙ near) other));
}

-- the same where nothing changes
pub unchanged_leaves : (plan : Plan) (me peer : EdgeId) (far : EdgeState) (out : List ℕ) (m : Message) (messages : List Message) (work : Work)
    → ((pw_id label : ℕ) → is_withdrawal_of pw_id label m ≡ false)
    → HearsAs plan me peer m work.edge work.edge → LeavesBound plan me peer.0 far out (m ∷ messages) work → LeavesBound plan me peer.0 far out messages work
unchanged_leaves plan me peer far out m messages work none hears leaves = record {
  bound = λ ms are is near other. bound_hears plan me peer m work.edge work.edge far ms messages none hears (leaves.bound ms are is near other);
}

-- the edge is changed, and a release is said
released_leaves : (plan : Plan) (me peer : EdgeId) (far : EdgeState) (out : List ℕ) (before after : List Message) (fec : PwFec) (label : Option ℕ) (change : EdgeState → EdgeState) (kept : Peering) (work : Work)
    → (has : HasSaid plan me peer.0 far out work) → work.edge.peering peer.0 ≡ Some kept → (change work.edge).peering ≡ work.edge.peering → IsOfWires (release fec label)
    → ((id : ℕ) (ms : List Message) → AreBound plan me.0 peer.0 work.edge far ms before → AreBound plan me.0 peer.0 (change work.edge) far (ms ++ release fec label id ∷ []) after)
    → LeavesBound plan me peer.0 far out before work → LeavesBound plan me peer.0 far out after (says taken_all peer (release fec label) (changes change work)).work
released_leaves plan me peer far out before after fec label change kept work has at same of_wires follows leaves =
    leaves_spoken plan me peer far out before after kept (release fec label) work (changes change work) (says taken_all peer (release fec label) (changes change work)).work has at
    (of_wires.said (ends_at plan me.0 peer.0) kept.next_id standing.numbered) (changed_said change work peer.0)
    (says_spoken peer kept (release fec label) (changes change work) (ap (λ (e : EdgeState). e.peering peer.0) (changed_edge change work) ∙ (ap (λ (f : ℕ → Option Peering). f peer.0) same ∙ at)))
    (λ is. subst (λ (e : EdgeState). AreBound plan me.0 peer.0 e far (has.messages ++ release fec label kept.next_id ∷ []) after) (sym (changed_edge change work))
    (follows kept.next_id has.messages is)) leaves
  where
    standing : IsStanding (ends_at plan me.0 peer.0) (ends_at plan peer.0 me.0) kept
    standing = rw at at has.talk.here

-- the same where the edge is not changed
release_leaves : (plan : Plan) (me peer : EdgeId) (far : EdgeState) (out : List ℕ) (before after : List Message) (fec : PwFec) (label : Option ℕ) (kept : Peering) (work : Work)
    → (has : HasSaid plan me peer.0 far out work) → work.edge.peering peer.0 ≡ Some kept → IsOfWires (release fec label)
    → ((id : ℕ) (ms : List Message) → AreBound plan me.0 peer.0 work.edge far ms before → AreBound plan me.0 peer.0 work.edge far (ms ++ release fec label id ∷ []) after)
    → LeavesBound plan me peer.0 far out before work → LeavesBound plan me peer.0 far out after (says taken_all peer (release fec label) work).work
release_leaves plan me peer far out before after fec label kept work has at of_wires follows leaves =
    leaves_spoken plan me peer far out before after kept (release fec label) work work (says taken_all peer (release fec label) work).work has at
    (of_wires.said (ends_at plan me.0 peer.0) kept.next_id standing.numbered) refl (says_spoken peer kept (release fec label) work at) (λ is. follows kept.next_id has.messages is) leaves
  where
    standing : IsStanding (ends_at plan me.0 peer.0) (ends_at plan peer.0 me.0) kept
    standing = rw at at has.talk.here

beside_peering : (peer : EdgeId) (change : EndState → EndState) (edge : EdgeState) → (with_ends_beside peer change edge).peering ≡ edge.peering
unfolding with_ends_beside with_kept
beside_peering peer change edge = refl

module _ (plan : Plan) (peer : EdgeId) (checked : IsChecked plan) (far : EdgeState) (out : List ℕ) (messages : List Message) (kept : Peering) (work : Work) (has : HasSaid plan work.edge.me peer.0 far out work) (at : work.edge.peering peer.0 ≡ Some kept) where
  mapping_leaves : (id : ℕ) (fec : PwFec) (label : ℕ) (status : Option PwStatus) (points : List Point) → IsSound (LabelMapping id fec label status points)
      → TellsOfWire plan peer.0 work.edge.me.0 fec (told_with fec status points)
      → LeavesBound plan work.edge.me peer.0 far out (LabelMapping id fec label status points ∷ messages) work
      → LeavesBound plan work.edge.me peer.0 far out messages (hears_mapping plan taken_all peer fec label status points work)
  mapping_leaves id fec label status points sound tells leaves = by_place (end_of_fec plan work.edge peer fec) refl where
    by_place : (found : Option EndPlace) → end_of_fec plan work.edge peer fec ≡ found
        → LeavesBound plan work.edge.me peer.0 far out messages (maps_to plan taken_all peer fec (binding_in fec label status points) found work)
    by_place None none =
        release_leaves plan work.edge.me peer far out (LabelMapping id fec label status points ∷ messages) messages fec (Some label) kept work has at
        (release_is fec (Some label) (writable_kind fec (second_holds (is_some fec.pw_id) (writable_fec fec) sound.1)) sound.0.1.group sound.0.1.pw_id sound.0.2)
        (λ id2 ms is. bound_hears_unknown plan work.edge.me peer id id2 fec label status points work.edge far ms messages (mapping_unknown plan peer id fec label status points work.edge checked none)
        (unknown_released plan peer fec label work.edge checked none) is) leaves
    by_place (Some place) named = subst (λ (b : Bool). LeavesBound plan work.edge.me peer.0 far out messages
        (cond b (changes (with_end_changed (bound (binding_in fec label status points)) (Some place)) work)
        (releases_label taken_all peer fec (Some label) (changes (with_end_changed (unbound None) (Some place)) work))))
        (sym (takes_told plan work.edge.me peer fec place (told_with fec status points) checked tells named))
        (heard_leaves plan work.edge.me peer far out (LabelMapping id fec label status points) messages
        (with_end_changed (bound (binding_in fec label status points)) (Some place)) work (λ pw_id own. refl)
        (changed_keeps (bound (binding_in fec label status points)) (Some place) work.edge) (mapping_known plan peer id fec label status points place work.edge checked named) leaves)

  withdraw_leaves : (id : ℕ) (fec : PwFec) (label : Option ℕ) → IsSound (LabelWithdraw id fec label) → LeavesBound plan work.edge.me peer.0 far out (LabelWithdraw id fec label ∷ messages) work
      → LeavesBound plan work.edge.me peer.0 far out messages (hears_withdraw plan taken_all peer fec label work)
  withdraw_leaves id fec label sound leaves =
      released_leaves plan work.edge.me peer far out (LabelWithdraw id fec label ∷ messages) messages fec label
      (with_named plan peer fec (unbound label) (group_unbound fec.group) fec.pw_id) kept work has at
      (named_keeps plan peer fec (unbound label) (group_unbound fec.group) fec.pw_id work.edge)
      (release_is fec label (writable_kind fec sound.1) sound.0.1.group sound.0.1.pw_id sound.0.2)
      (λ id2 ms is. bound_hears_withdrawal plan work.edge.me peer id id2 fec label work.edge (with_named plan peer fec (unbound label) (group_unbound fec.group) fec.pw_id work.edge) far ms messages
      (withdraw_heard plan peer id fec label work.edge checked) is) leaves

  status_leaves : (id : ℕ) (code : StatusCode) (status : Option PwStatus) (fec : Option PwFec) → LeavesBound plan work.edge.me peer.0 far out (Notification id code status fec ∷ messages) work
      → LeavesBound plan work.edge.me peer.0 far out messages (hears_status plan peer code status fec work)
  status_leaves id code None fec leaves =
      unchanged_leaves plan work.edge.me peer far out (Notification id code None fec) messages work (λ pw_id own. refl)
      (record { label = λ label given. given; local = λ wire row is joined. refl; remote = λ wire row next near is joined alone. refl }) leaves
  status_leaves id code (Some status) None leaves =
      unchanged_leaves plan work.edge.me peer far out (Notification id code (Some status) None) messages work (λ pw_id own. refl)
      (record { label = λ label given. given; local = λ wire row is joined. refl; remote = λ wire row next near is joined alone. refl }) leaves
  status_leaves id code (Some status) (Some fec) leaves = by_code (nat_eq code.code pw_status_code) refl where
    by_code : (b : Bool) → nat_eq code.code pw_status_code ≡ b
        → LeavesBound plan work.edge.me peer.0 far out messages (cond b (changes (with_named plan peer fec (stated status) (group_stated fec.group status) fec.pw_id) work) work)
    by_code true right = heard_leaves plan work.edge.me peer far out (Notification id code (Some status) (Some fec)) messages
        (with_named plan peer fec (stated status) (group_stated fec.group status) fec.pw_id) work (λ pw_id own. refl)
        (named_keeps plan peer fec (stated status) (group_stated fec.group status) fec.pw_id work.edge) (status_heard_as plan peer id code status fec work.edge checked right) leaves
    by_code false wrong = unchanged_leaves plan work.edge.me peer far out (Notification id code (Some status) (Some fec)) messages work (λ pw_id own. refl)
        (other_code plan peer id code status fec work.edge wrong) leaves

  pub acts_leaves : (m : Message) (other : Peers) → IsSaidAcross other m → withdraws_addresses m ≡ false → TellsPlan plan peer.0 work.edge.me.0 m
      → LeavesBound plan work.edge.me peer.0 far out (m ∷ messages) work → LeavesBound plan work.edge.me peer.0 far out messages (acts_on plan taken_all peer m work)
  acts_leaves (Initialization id params) other said plain tells leaves =
      unchanged_leaves plan work.edge.me peer far out (Initialization id params) messages work (λ pw_id own. refl)
      (record { label = λ label given. given; local = λ wire row is joined. refl; remote = λ wire row next near is joined alone. refl }) leaves
  acts_leaves (KeepAlive id) other said plain tells leaves =
      unchanged_leaves plan work.edge.me peer far out (KeepAlive id) messages work (λ pw_id own. refl)
      (record { label = λ label given. given; local = λ wire row is joined. refl; remote = λ wire row next near is joined alone. refl }) leaves
  acts_leaves (Notification id code status fec) other said plain tells leaves = status_leaves id code status fec leaves
  acts_leaves (AddressWithdraw id addresses fec macs) other said plain tells leaves = clash (sym plain)
  acts_leaves (LabelMapping id fec label status points) other said plain tells leaves = mapping_leaves id fec label status points said tells leaves
  acts_leaves (LabelWithdraw id fec label) other said plain tells leaves = withdraw_leaves id fec label said leaves
  acts_leaves (LabelRelease id fec label) other said plain tells leaves =
      heard_leaves plan work.edge.me peer far out (LabelRelease id fec label) messages (λ edge. with_released label (end_of_fec plan edge peer fec) edge) work (λ pw_id own. refl)
      (released_keeps label (end_of_fec plan work.edge peer fec) work.edge) (release_heard plan peer id fec label work.edge checked) leaves
  acts_leaves m other said plain tells leaves = absurd said

-- ---- for every other place

-- nothing is another one for a place
pub record SparesWires (place : ℕ) (old new : Work) : Type 0 where
  pub spares : Spares place old new
  pub same : HasSameEnds place old.edge new.edge

pub spared_leaves : (plan : Plan) (me : EdgeId) (place : ℕ) (far : EdgeState) (out : List ℕ) (answers : List Message) (old new : Work) → SparesWires place old new
    → LeavesBound plan me place far out answers old → LeavesBound plan me place far out answers new
spared_leaves plan me place far out answers old new spared leaves =
    leaves_same plan me place far out answers old new spared.spares.said (λ near. sym (ap is_there spared.spares.kept) ∙ near) spared.same leaves

wires_same : (place : ℕ) (work : Work) → SparesWires place work work
wires_same place work = record { spares = spares_same place work; same = record { label = λ label given. given; ends = λ wire. refl } }

wires_then : (place : ℕ) (a b c : Work) → SparesWires place a b → SparesWires place b c → SparesWires place a c
wires_then place a b c one next = record {
  spares = spares_then place a b c one.spares next.spares;
  same = record { label = λ label given. next.same.label label (one.same.label label given); ends = λ wire. next.same.ends wire ∙ one.same.ends wire };
}

changes_spare : (place : ℕ) (change : EdgeState → EdgeState) (work : Work) → (change work.edge).peering ≡ work.edge.peering → HasSameEnds place work.edge (change work.edge)
    → SparesWires place work (changes change work)
unfolding changes
changes_spare place change work kept same = record { spares = record { kept = ap (λ (f : ℕ → Option Peering). f place) kept; said = refl; closed = refl }; same = same }

says_spare : (place : ℕ) (peer : EdgeId) (message : ℕ → Message) (work : Work) → nat_eq place peer.0 ≡ false → SparesWires place work (says taken_all peer message work).work
says_spare place peer message work apart = record { spares = says_spares place peer message work apart; same = by_end (work.edge.peering peer.0) refl } where
  by_end : (near : Option Peering) → work.edge.peering peer.0 ≡ near → HasSameEnds place work.edge (says taken_all peer message work).work.edge
  by_end None at = subst (λ (w : Work). HasSameEnds place work.edge w.edge) (sym (says_none peer message work at)) (record { label = λ label given. given; ends = λ wire. refl })
  by_end (Some kept) at =
      let spoken : HasSpoken peer kept message work (says taken_all peer message work).work = says_spoken peer kept message work at in
      record { label = given_on work.edge (says taken_all peer message work).work.edge spoken.label spoken.labels; ends = λ wire. ap (λ (f : ℕ → ℕ → EndState). f wire place) spoken.ends }

module _ (plan : Plan) (peer : EdgeId) (place : ℕ) (apart : nat_eq place peer.0 ≡ false) where
  named_same : (change : EndState → EndState) (n : ℕ) (edge : EdgeState) → HasSameEnds place edge (with_end_changed change (end_named plan edge.me peer n) edge)
  named_same change n edge = by_end (end_named plan edge.me peer n) refl where
    by_end : (found : Option EndPlace) → end_named plan edge.me peer n ≡ found → HasSameEnds place edge (with_end_changed change found edge)
    by_end None is = record { label = λ label given. given; ends = λ wire. refl }
    by_end (Some end) is = record {
      label = end_given end (change (end_at edge end)) edge;
      ends = λ wire. end_beside_other end (change (end_at edge end)) edge wire place (subst (λ (p : EdgeId). nat_eq place p.0 ≡ false) (sym (named_is plan edge.me peer n end is).peer_is) apart);
    }

  fec_same : (change : EndState → EndState) (name : Option ℕ) (edge : EdgeState) → HasSameEnds place edge (with_end_changed change (option_and_then (end_named plan edge.me peer) name) edge)
  fec_same change None edge = record { label = λ label given. given; ends = λ wire. refl }
  fec_same change (Some n) edge = named_same change n edge

  released_same : (label : Option ℕ) (name : Option ℕ) (edge : EdgeState) → HasSameEnds place edge (with_released label (option_and_then (end_named plan edge.me peer) name) edge)
  released_same label name edge = record {
    label = heard_given label (option_and_then (end_named plan edge.me peer) name) edge;
    ends = λ wire. ap (λ (f : ℕ → ℕ → EndState). f wire place) (released_ends label (option_and_then (end_named plan edge.me peer) name) edge) ∙ (fec_same (released label) name edge).ends wire;
  }

  beside_same : (change : EndState → EndState) (edge : EdgeState) → HasSameEnds place edge (with_ends_beside peer change edge)
  unfolding with_ends_beside with_kept
  beside_same change edge = record { label = λ label given. given; ends = λ wire. rw apart refl }

  all_same : (fec : PwFec) (one all : EndState → EndState) (name : Option ℕ) (edge : EdgeState) → HasSameEnds place edge (with_named plan peer fec one all name edge)
  all_same fec one all None edge = beside_same all edge
  all_same fec one all (Some n) edge = named_same one n edge

  maps_spare : (fec : PwFec) (label : ℕ) (status : Option PwStatus) (points : List Point) (work : Work) → SparesWires place work (hears_mapping plan taken_all peer fec label status points work)
  maps_spare fec label status points work = by_place (end_of_fec plan work.edge peer fec) refl where
    end_spares : (end : EndPlace) (change : EndState → EndState) → end_of_fec plan work.edge peer fec ≡ Some end → SparesWires place work (changes (with_end_changed change (Some end)) work)
    end_spares end change named = changes_spare place (with_end_changed change (Some end)) work (changed_keeps change (Some end) work.edge)
        (subst (λ (found : Option EndPlace). HasSameEnds place work.edge (with_end_changed change found work.edge)) named (fec_same change fec.pw_id work.edge))

    takes : (end : EndPlace) → end_of_fec plan work.edge peer fec ≡ Some end → (b : Bool)
        → SparesWires place work (cond b (changes (with_end_changed (bound (binding_in fec label status points)) (Some end)) work)
        (releases_label taken_all peer fec (Some label) (changes (with_end_changed (unbound None) (Some end)) work)))
    takes end named true = end_spares end (bound (binding_in fec label status points)) named
    takes end named false =
        wires_then place work (changes (with_end_changed (unbound None) (Some end)) work)
        (releases_label taken_all peer fec (Some label) (changes (with_end_changed (unbound None) (Some end)) work)) (end_spares end (unbound None) named)
        (says_spare place peer (release fec (Some label)) (changes (with_end_changed (unbound None) (Some end)) work) apart)

    by_place : (found : Option EndPlace) → end_of_fec plan work.edge peer fec ≡ found → SparesWires place work (maps_to plan taken_all peer fec (binding_in fec label status points) found work)
    by_place None none = says_spare place peer (release fec (Some label)) work apart
    by_place (Some end) named = takes end named (takes_content plan work.edge.me end (told_with fec status points))

  states_spare : (code : StatusCode) (status : Option PwStatus) (fec : Option PwFec) (work : Work) → SparesWires place work (hears_status plan peer code status fec work)
  states_spare code None fec work = wires_same place work
  states_spare code (Some status) None work = wires_same place work
  states_spare code (Some status) (Some fec) work = by_code (nat_eq code.code pw_status_code) where
    by_code : (b : Bool) → SparesWires place work (cond b (changes (with_named plan peer fec (stated status) (group_stated fec.group status) fec.pw_id) work) work)
    by_code true = changes_spare place (with_named plan peer fec (stated status) (group_stated fec.group status) fec.pw_id) work
        (named_keeps plan peer fec (stated status) (group_stated fec.group status) fec.pw_id work.edge)
        (all_same fec (stated status) (group_stated fec.group status) fec.pw_id work.edge)
    by_code false = wires_same place work

  pub acts_spare : (m : Message) (other : Peers) (work : Work) → IsSaidAcross other m → withdraws_addresses m ≡ false → SparesWires place work (acts_on plan taken_all peer m work)
  acts_spare (Initialization id params) other work said plain = wires_same place work
  acts_spare (KeepAlive id) other work said plain = wires_same place work
  acts_spare (Notification id code status fec) other work said plain = states_spare code status fec work
  acts_spare (AddressWithdraw id addresses fec macs) other work said plain = clash (sym plain)
  acts_spare (LabelMapping id fec label status points) other work said plain = maps_spare fec label status points work
  acts_spare (LabelWithdraw id fec label) other work said plain =
      let change : EdgeState → EdgeState = with_named plan peer fec (unbound label) (group_unbound fec.group) fec.pw_id in
      wires_then place work (changes change work) _
      (changes_spare place change work (named_keeps plan peer fec (unbound label) (group_unbound fec.group) fec.pw_id work.edge)
      (all_same fec (unbound label) (group_unbound fec.group) fec.pw_id work.edge))
      (says_spare place peer (release fec label) (changes change work) apart)
  acts_spare (LabelRelease id fec label) other work said plain =
      changes_spare place (λ edge. with_released label (end_of_fec plan edge peer fec) edge) work (released_keeps label (end_of_fec plan work.edge peer fec) work.edge)
      (released_same label fec.pw_id work.edge)
  acts_spare m other work said plain = absurd said
