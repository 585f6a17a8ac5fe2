-- What an edge hears of a neighbour keeps the rules of labels and of told contents.
use Rattle.std.proofs.Common.{◌≡◌, ◌≤◌, ◌<◌, ◌^◌, ◌==◌, ◌&&◌, ◌∙◌, ℕ, Bool, true, false, cond, nat_eq, List, Option, Some, None, refl, sym, ap, subst, arith}
use Rattle.std.specs.Prelude.{nat_le}
use Rattle.std.specs.Option.{option_and_then}
use Rattle.std.proofs.lemmas.Bool.Decides.{nat_tests}
use Rattle.net_values.proofs.BoolLemmas.{clash}
use Rattle.net_base.specs.declared.plan.Plan.{Plan}
use Rattle.net_base.specs.declared.plan.places.EdgeId.{EdgeId}
use Rattle.net_base.specs.declared.plan.places.WireId.{WireId}
use Rattle.net_base.specs.declared.plan.wire_plan.WirePlan.{WirePlan}
use Rattle.net_base.specs.plan.Accepted.{IsChecked}
use Rattle.net_base.specs.plan.Paths.{expected, joins}
use Rattle.net_base.specs.plan.Places.{wire_row}
use Rattle.net_base.proofs.PathLemmas.{joins_turned}
use Rattle.net_base.proofs.CommonLemmas.{same_row}
use Rattle.pw_tlvs.specs.declared.point.Point.{Point}
use Rattle.pw_tlvs.specs.declared.pw_fec.PwFec.{PwFec}
use Rattle.pw_tlvs.specs.declared.pw_status.PwStatus.{PwStatus}
use Rattle.pw_tlvs.specs.Written.{has_vlan, may_tell, writable_fec}
use Rattle.ldp_grammar.specs.declared.message.Message.{Message}
use Rattle.ldp_grammar.specs.declared.message.Message.TheVariants.{Notification, Initialization, KeepAlive, AddressWithdraw, LabelMapping, LabelWithdraw, LabelRelease}
use Rattle.ldp_grammar.specs.declared.status_code.StatusCode.{StatusCode}
use Rattle.pw_signalling.specs.declared.binding.Binding.{Binding}
use Rattle.pw_signalling.specs.End.{EndState}
use Rattle.pw_signalling.specs.Rows.{bound, group_stated, group_unbound, released, stated, status_part, unbound, unless_named}
use Rattle.session_core.specs.declared.peers.Peers.{Peers}
use Rattle.session_core.specs.Table.{Heard, Received}
use Rattle.pw_messages.specs.Content.{bare_fec_of, binding_in, pw_status_code, release, told_with}
use Rattle.pw_messages.specs.Sender.{platform_of}
use Rattle.edge_model.specs.declared.end_place.EndPlace.{EndPlace}
use Rattle.edge_model.specs.EndPlaces.{end_named}
use Rattle.edge_model.specs.Hear.{acts_on}
use Rattle.edge_model.specs.Signal.{end_of_fec, hears_release, hears_status, maps_to, releases_label, takes_content, with_end_changed, with_named, with_released}
use Rattle.edge_model.specs.State.{EdgeState, Peering, end_at, with_end, with_kept}
use Rattle.edge_model.specs.Work.{Work, changes}
use Rattle.network_model.specs.Absorb.{taken_all}
use Rattle.flight_laws.specs.Ends.{HasTypes, ends_at}
use Rattle.flight_laws.specs.Messages.{IsSaidAcross}
use Rattle.flight_laws.specs.Rules.{AllMessages, BindsGiven, MayName, MayNameAt, NamesTold, TellsExpected, TellsOfWire, expected_told}
use Rattle.flight_laws.proofs.AcceptLemmas.{takes_told}
use Rattle.flight_laws.proofs.HearingLemmas.{KeptByHearing, withdraws_addresses}
use Rattle.flight_laws.proofs.MendingLemmas.{KeptByRows}
use Rattle.flight_laws.proofs.MentionLemmas.{binds_status, binds_unless, release_of_withdrawal, release_own}
use Rattle.flight_laws.proofs.NameLemmas.{end_fact, names_end, names_releasing, names_same, owns_released}
use Rattle.flight_laws.proofs.OfferLemmas.{IsOfWires, release_is}
use Rattle.flight_laws.proofs.PlaceLemmas.{NamedEnd, end_of}
use Rattle.flight_laws.proofs.RuledLemmas.{ChangesEnds, FitsIf, IsFitEnd, IsRuled, WorksRuled, changes_keep}
use Rattle.flight_laws.proofs.RuledMendLemmas.{rows_ruled}
use Rattle.flight_laws.proofs.RuledSessionLemmas.{event_ruled, says_ruled}
use Rattle.flight_laws.proofs.SaidLemmas.{ready}
use Rattle.flight_laws.proofs.ToldLemmas.{NamesStatus, TellsAt, far_status, far_unless, fits_status, fits_unless, local_tells, near_released, release_of_withdrawal_tells, remote_tells}

-- the messages that are still to be heard of a neighbour are ruled by how the edge began
pub record IsHearing (plan : Plan) (others : ℕ → EdgeState) (me peer : ℕ) (first : EdgeState) (held : ℕ → Option (List ℕ)) (messages : List Message) (work : Work) : Type 0 where
  pub works : WorksRuled plan others me first held work
  pub to_hear : AllMessages (IsRuled plan peer me (others peer) first) messages

-- rows keep it where they keep the work
pub rows_hearing : (plan : Plan) (others : ℕ → EdgeState) (me : EdgeId) (peer : ℕ) (first : EdgeState) (held : ℕ → Option (List ℕ)) (messages : List Message)
    → KeptByRows plan me (WorksRuled plan others me.0 first held)
    → KeptByRows plan me (IsHearing plan others me.0 peer first held messages)
rows_hearing plan others me peer first held messages rows = record {
  placed = λ work hears. rows.placed work hears.works;
  advertises = λ place label content work end_is idle wished given hears. record { works = rows.advertises place label content work end_is idle wished given hears.works; to_hear = hears.to_hear };
  withdraws = λ place label content work end_is at wished hears. record { works = rows.withdraws place label content work end_is at wished hears.works; to_hear = hears.to_hear };
  tells = λ place label content last work end_is at told other hears. record { works = rows.tells place label content last work end_is at told other hears.works; to_hear = hears.to_hear };
  clears = λ place label content addresses work end_is at piece hears. record { works = rows.clears place label content addresses work end_is at piece hears.works; to_hear = hears.to_hear };
  tells_down = λ place down work end_is hears. record { works = rows.tells_down place down work end_is hears.works; to_hear = hears.to_hear };
  others = λ change work keeps peering hears. record { works = rows.others change work keeps peering hears.works; to_hear = hears.to_hear };
}

-- ---- the end that a FEC names

fec_end : (plan : Plan) (edge : EdgeState) (me peer : EdgeId) (fec : PwFec) (pw_id : ℕ) (place : EndPlace) → edge.me ≡ me → fec.pw_id ≡ Some pw_id → end_named plan me peer pw_id
    ≡ Some place → end_of_fec plan edge peer fec ≡ Some place
fec_end plan edge me peer fec pw_id place at is named =
    ap (λ (o : Option ℕ). option_and_then (end_named plan edge.me peer) o) is ∙ (ap (λ (k : EdgeId). end_named plan k peer pw_id) at ∙ named)

kind_fits : (fec : PwFec) → writable_fec fec ≡ true → fec.kind ≤ 0x7FFF
kind_fits fec can = low fec.kind (has_vlan fec.params.vlan && may_tell fec.pw_id fec.params) can
  where
    low : (n : ℕ) (more : Bool) → nat_le n 0x7FFF && more ≡ true → n ≤ 0x7FFF
    low n more can = grind (arith, nat_tests)

module _ (plan : Plan) (checked : IsChecked plan) (types : HasTypes plan) (others : ℕ → EdgeState) (me peer : EdgeId) (first : EdgeState) (held : ℕ → Option (List ℕ)) (away : nat_eq peer.0 me.0 ≡ false) (placed : (others peer.0).me ≡ peer) where
  abbrev At : Work → Type 0
  At work = WorksRuled plan others me.0 first held work

  abbrev Ruled : Message → Type 0
  Ruled m = IsRuled plan peer.0 me.0 (others peer.0) first m

  same_changes : (work : Work) → At work → ChangesEnds plan others me.0 work.edge work.edge
  same_changes work works = record {
    place = refl;
    peering = refl;
    keeps = names_same work.edge;
    most = works.edge.most;
    bits = works.edge.bits;
    tells = works.edge.tells;
    bound = λ place wire gone. (works.left place gone).bound wire;
  }

  -- an end that owns no more is another one, and tells and holds what is planned
  end_changes : (place : EndPlace) (end : EndState) (work : Work)
      → ((label : ℕ) → Rattle.flight_laws.specs.Rules.part_owns end.local label ≡ true → Rattle.flight_laws.specs.Rules.part_owns (end_at work.edge place).local label ≡ true)
      → TellsAt plan me.0 place.wire.0 place.peer.0 end → (nat_eq place.peer.0 me.0 ≡ false → BindsGiven (others place.peer.0) place.wire.0 me.0 end.remote) → At work
      → ChangesEnds plan others me.0 work.edge (with_end place end work.edge)
  unfolding with_end with_kept
  end_changes place end work less tells given works = record {
    place = refl;
    peering = refl;
    keeps = names_end place end work.edge less;
    most = works.edge.most;
    bits = works.edge.bits;
    tells = λ wire k. end_fact (λ w p e. TellsAt plan me.0 w p e) place end work.edge wire k tells (works.edge.tells wire k);
    bound = λ place2 wire gone. end_fact (λ w k e. k ≡ place2 → BindsGiven (others place2) w me.0 e.remote) place end work.edge wire place2
        (λ same. subst (λ (k : ℕ). BindsGiven (others k) place.wire.0 me.0 end.remote) same (given (subst (λ (k : ℕ). nat_eq k me.0 ≡ false) (sym same) gone)))
        (λ same. (works.left place2 gone).bound wire) refl;
  }

  -- ---- releases

  released_changes : (label : Option ℕ) (place : Option EndPlace) (work : Work) → At work → ChangesEnds plan others me.0 work.edge (with_released label place work.edge)
  unfolding with_end with_kept
  released_changes label None work works = same_changes work works
  released_changes label (Some place) work works =
      let end : ChangesEnds plan others me.0 work.edge (with_end place (released label (end_at work.edge place)) work.edge) =
      end_changes place (released label (end_at work.edge place)) work (owns_released label (end_at work.edge place))
      (local_tells plan me.0 place.wire.0 place.peer.0 (end_at work.edge place) (released label (end_at work.edge place)).local
      (λ row is joined near. near_released plan row me.0 place.peer.0 label (end_at work.edge place).local near) (works.edge.tells place.wire.0 place.peer.0))
      (λ gone. (works.left place.peer.0 gone).bound place.wire.0) works in
      record { place = end.place; peering = end.peering; keeps = names_releasing label place work.edge; most = end.most; bits = end.bits; tells = end.tells; bound = end.bound }

  release_heard : (fec : PwFec) (label : Option ℕ) (work : Work) → At work → At (hears_release plan peer fec label work)
  release_heard fec label work works = changes_keep plan others me.0 first held (λ edge. with_released label (end_of_fec plan edge peer fec) edge) work
      (released_changes label (end_of_fec plan work.edge peer fec) work works) works

  -- ---- withdrawals

  unbound_changes : (label : Option ℕ) (place : Option EndPlace) (work : Work) → At work → ChangesEnds plan others me.0 work.edge (with_end_changed (unbound label) place work.edge)
  unbound_changes label None work works = same_changes work works
  unbound_changes label (Some place) work works = end_changes place (unbound label (end_at work.edge place)) work (λ l owned. owned)
      (remote_tells plan me.0 place.wire.0 place.peer.0 (end_at work.edge place) (unless_named label (end_at work.edge place).remote)
      (λ row is joined far. far_unless plan row place.peer.0 me.0 label (end_at work.edge place).remote far)
      (fits_unless label (end_at work.edge place).remote (works.edge.tells place.wire.0 place.peer.0).held) (works.edge.tells place.wire.0 place.peer.0))
      (λ gone. binds_unless (others place.peer.0) place.wire.0 me.0 label (end_at work.edge place).remote ((works.left place.peer.0 gone).bound place.wire.0)) works

  -- a FEC without parameters names a PW ID
  bare_named : (row : WirePlan) (fec : PwFec) (told : Rattle.pw_signalling.specs.declared.told.Told.Told) → fec ≡ bare_fec_of row.pw_id told → fec.pw_id ≡ Some row.pw_id
  bare_named row fec told is = ap (λ (f : PwFec). f.pw_id) is

  unbinds : (fec : PwFec) (label : Option ℕ) (pw_id : ℕ) (work : Work) → fec.pw_id ≡ Some pw_id → At work
      → At (changes (with_named plan peer fec (unbound label) (group_unbound fec.group) fec.pw_id) work)
  unbinds fec label pw_id work is works =
      subst (λ (o : Option ℕ). At (changes (with_named plan peer fec (unbound label) (group_unbound fec.group) o) work)) (sym is)
      (changes_keep plan others me.0 first held (with_named plan peer fec (unbound label) (group_unbound fec.group) (Some pw_id)) work
      (unbound_changes label (end_named plan work.edge.me peer pw_id) work works) works)

  withdrawal_heard : (id : ℕ) (fec : PwFec) (label : Option ℕ) (work : Work) → Ruled (LabelWithdraw id fec label) → At work
      → At (releases_label taken_all peer fec label (changes (with_named plan peer fec (unbound label) (group_unbound fec.group) fec.pw_id) work))
  withdrawal_heard id fec label work ruled works =
      let names : NamesTold plan peer.0 me.0 fec = ruled.tells in
      let fits = ruled.ready.fits in
      let after : Work = changes (with_named plan peer fec (unbound label) (group_unbound fec.group) fec.pw_id) work in
      let sayable : IsOfWires (release fec label) = release_is fec label (kind_fits fec ruled.ready.can) fits.1.group fits.1.pw_id fits.2 in
      says_ruled plan others me.0 first held peer (release fec label) after
      (λ number low fit gone. record {
        fit = fit;
        ready = ready (ends_at plan me.0 peer.0) (release fec label number) fit (sayable.said (ends_at plan me.0 peer.0) number low);
        own = release_own plan after.edge peer.0 fec label number;
        far = release_of_withdrawal plan (others peer.0) me.0 id fec label number ruled.own;
        tells = release_of_withdrawal_tells plan peer.0 me.0 number fec label ruled.tells;
      })
      (unbinds fec label names.row.pw_id work (bare_named names.row fec (expected_told (expected plan names.row peer.0 me.0) None) names.bare) works)

  -- ---- mappings

  turned : (row : WirePlan) → joins peer.0 me.0 row.path ≡ true → joins me.0 peer.0 row.path ≡ true
  turned row joined = sym (joins_turned row.path peer.0 me.0) ∙ joined

  row_of : (wire other : WireId) (one row : WirePlan) → other ≡ wire → wire_row plan wire ≡ Some one → wire_row plan other ≡ Some row → one ≡ row
  row_of wire other one row same is too = same_row (sym is ∙ (ap (λ (w : WireId). wire_row plan w) (sym same) ∙ too))

  mapping_heard : (id : ℕ) (fec : PwFec) (label : ℕ) (status : Option PwStatus) (points : List Point) (work : Work) → Ruled (LabelMapping id fec label status points) → At work
      → At (maps_to plan taken_all peer fec (binding_in fec label status points) (end_of_fec plan work.edge peer fec) work)
  mapping_heard id fec label status points work ruled works =
      let tells : TellsOfWire plan peer.0 me.0 fec (told_with fec status points) = ruled.tells in
      let near : NamedEnd plan me peer tells.wire tells.row = end_of plan me peer tells.wire tells.row checked tells.is (turned tells.row tells.joined) in
      let far : NamedEnd plan peer me tells.wire tells.row = end_of plan peer me tells.wire tells.row checked tells.is tells.joined in
      let binding : Binding = binding_in fec label status points in
      let taken : takes_content plan work.edge.me near.place binding.told ≡ true =
      subst (λ (k : EdgeId). takes_content plan k near.place binding.told ≡ true) (sym works.edge.place)
      (takes_told plan me peer fec near.place binding.told checked tells (ap (option_and_then (end_named plan me peer)) tells.named ∙ near.named)) in
      let may : MayName (others peer.0) far.place.wire.0 me.0 label =
      subst (λ (o : Option EndPlace). MayNameAt (others peer.0) me.0 o label) (fec_end plan (others peer.0) peer me fec tells.row.pw_id far.place placed tells.named far.named) ruled.own in
      let given : MayName (others near.place.peer.0) near.place.wire.0 me.0 label =
      subst (λ (k : EdgeId). MayName (others k.0) near.place.wire.0 me.0 label) (sym near.peer_is)
      (subst (λ (w : WireId). MayName (others peer.0) w.0 me.0 label) (far.wire_is ∙ sym near.wire_is) may) in
      subst (λ (o : Option EndPlace). At (maps_to plan taken_all peer fec (binding_in fec label status points) o work))
      (sym (fec_end plan work.edge me peer fec tells.row.pw_id near.place works.edge.place tells.named near.named))
      (subst (λ (b : Bool). At (cond b (changes (with_end_changed (bound binding) (Some near.place)) work)
      (releases_label taken_all peer fec (Some label) (changes (with_end_changed (unbound None) (Some near.place)) work)))) (sym taken)
      (changes_keep plan others me.0 first held (with_end_changed (bound binding) (Some near.place)) work
      (end_changes near.place (bound binding (end_at work.edge near.place)) work (λ l owned. owned)
      (remote_tells plan me.0 near.place.wire.0 near.place.peer.0 (end_at work.edge near.place) (Some binding)
      (λ row is joined held_before. subst (λ (k : EdgeId). TellsExpected plan row k.0 me.0 binding.told) (sym near.peer_is)
      (subst (λ (r : WirePlan). TellsExpected plan r peer.0 me.0 binding.told) (row_of tells.wire near.place.wire tells.row row near.wire_is tells.is is) tells.tells))
      (ruled.ready.fits.2, ruled.ready.fits.3) (works.edge.tells near.place.wire.0 near.place.peer.0))
      (λ gone. given) works) works))

  -- ---- statuses

  states : (fec : PwFec) (status : PwStatus) (work : Work) → status.0 < 2 ^ 32 → NamesStatus plan peer.0 me.0 fec → At work
      → At (changes (with_named plan peer fec (stated status) (group_stated fec.group status) fec.pw_id) work)
  states fec status work small names works =
      let near : NamedEnd plan me peer names.wire names.row = end_of plan me peer names.wire names.row checked names.is (turned names.row names.joined) in
      let named : end_named plan work.edge.me peer names.row.pw_id ≡ Some near.place = ap (λ (k : EdgeId). end_named plan k peer names.row.pw_id) works.edge.place ∙ near.named in
      subst (λ (o : Option ℕ). At (changes (with_named plan peer fec (stated status) (group_stated fec.group status) o) work))
      (sym (bare_named names.row fec (expected_told (expected plan names.row peer.0 me.0) None) names.bare))
      (changes_keep plan others me.0 first held (with_named plan peer fec (stated status) (group_stated fec.group status) (Some names.row.pw_id)) work
      (subst (λ (o : Option EndPlace). ChangesEnds plan others me.0 work.edge (with_end_changed (stated status) o work.edge)) (sym named)
      (end_changes near.place (stated status (end_at work.edge near.place)) work (λ l owned. owned)
      (remote_tells plan me.0 near.place.wire.0 near.place.peer.0 (end_at work.edge near.place) (status_part status (end_at work.edge near.place).remote)
      (λ row is joined tells. far_status plan row near.place.peer.0 me.0 status (end_at work.edge near.place).remote
      (subst (λ (k : EdgeId). (expected plan row k.0 me.0).offer.status ≡ true) (sym near.peer_is)
      (subst (λ (r : WirePlan). (expected plan r peer.0 me.0).offer.status ≡ true) (row_of names.wire near.place.wire names.row row near.wire_is names.is is) names.carries)) tells)
      (fits_status status (end_at work.edge near.place).remote small (works.edge.tells near.place.wire.0 near.place.peer.0).held) (works.edge.tells near.place.wire.0 near.place.peer.0))
      (λ gone. binds_status (others near.place.peer.0) near.place.wire.0 me.0 status (end_at work.edge near.place).remote ((works.left near.place.peer.0 gone).bound near.place.wire.0)) works)) works)

  status_heard : (id : ℕ) (code : StatusCode) (status : Option PwStatus) (fec : Option PwFec) (work : Work) → Ruled (Notification id code status fec) → At work
      → At (hears_status plan peer code status fec work)
  status_heard id code None None work ruled works = works
  status_heard id code None (Some fec) work ruled works = works
  status_heard id code (Some status) None work ruled works = works
  status_heard id code (Some status) (Some fec) work ruled works = by_code (code.code == pw_status_code) where
    by_code : (b : Bool) → At (cond b (changes (with_named plan peer fec (stated status) (group_stated fec.group status) fec.pw_id) work) work)
    by_code true = states fec status work ruled.ready.fits.3 ruled.tells works
    by_code false = works

  -- ---- one message

  acts_ruled : (other : Peers) (m : Message) (work : Work) → IsSaidAcross other m → withdraws_addresses m ≡ false → Ruled m → At work → At (acts_on plan taken_all peer m work)
  acts_ruled other (Initialization id params) work said plain ruled works = works
  acts_ruled other (KeepAlive id) work said plain ruled works = works
  acts_ruled other (Notification id code status fec) work said plain ruled works = status_heard id code status fec work ruled works
  acts_ruled other (AddressWithdraw id addresses fec macs) work said plain ruled works = clash (sym plain)
  acts_ruled other (LabelMapping id fec label status points) work said plain ruled works = mapping_heard id fec label status points work ruled works
  acts_ruled other (LabelWithdraw id fec label) work said plain ruled works = withdrawal_heard id fec label work ruled works
  acts_ruled other (LabelRelease id fec label) work said plain ruled works = release_heard fec label work works
  acts_ruled other m work said plain ruled works = absurd said

  window : (kept : Peering) (work : Work) → work.edge.peering peer.0 ≡ Some kept → At work → IsFitEnd (ends_at plan me.0 peer.0) kept
  window kept work at works = subst (FitsIf (ends_at plan me.0 peer.0)) at (works.edge.sessions peer.0)

  pub hearing_ruled : KeptByHearing plan me peer (ends_at plan peer.0 me.0) (IsHearing plan others me.0 peer.0 first held)
  hearing_ruled = record {
    window = λ messages kept work at hears. ((window kept work at hears.works).session.least, (window kept work at hears.works).session.most);
    sender = λ messages work hears. record { works = event_ruled plan others me.0 first held peer (Heard (platform_of (ends_at plan peer.0 me.0).me)) work tt hears.works; to_hear = hears.to_hear };
    gone = λ m messages work at hears. record { works = hears.works; to_hear = hears.to_hear.1 };
    event = λ m messages kept work at said ends hears. record {
      works = event_ruled plan others me.0 first held peer (Received m) work
          (hears.to_hear.0.ready.fits, hears.to_hear.0.ready.can) hears.works;
      to_hear = hears.to_hear.1;
    };
    acts = λ m messages kept work at up said plain pseudowires hears. record {
      works = acts_ruled (ends_at plan peer.0 me.0) m work said pseudowires hears.to_hear.0 hears.works;
      to_hear = hears.to_hear.1;
    };
    goes_by = λ m messages kept work at up said addresses hears. record { works = hears.works; to_hear = hears.to_hear.1 };
    mends = λ messages. rows_hearing plan others me peer.0 first held messages (rows_ruled plan checked types others me first held);
  }
