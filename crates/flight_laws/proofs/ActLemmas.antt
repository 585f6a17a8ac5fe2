-- What calm steps keep is kept by what an edge makes of a message about pseudowires.
use Rattle.std.proofs.Common.{◌≡◌, ◌≤◌, ◌<◌, ◌^◌, ◌||◌, ◌∙◌, ℕ, Bool, true, false, not, cond, length, nat_eq, nat_le, nat_lt, List, Option, Some, None, refl, sym, ap, subst, arith}
use Rattle.std.proofs.lemmas.Bool.Decides.{nat_tests}
use Rattle.std.specs.Prelude.{is_some, option_and_then}
use Rattle.std.specs.List.{list_any}
use Rattle.net_base.specs.declared.plan.Plan.{Plan}
use Rattle.net_base.specs.declared.plan.places.EdgeId.{EdgeId}
use Rattle.net_base.specs.plan.Paths.{edge_address}
use Rattle.net_values.specs.declared.addr.Addr.{Addr}
use Rattle.net_values.proofs.BoolLemmas.{first_holds, clash, second_holds}
use Rattle.ldp_grammar.specs.declared.message.Message.{Message}
use Rattle.ldp_grammar.specs.declared.message.Message.TheVariants.{Notification, Initialization, KeepAlive, AddressWithdraw, LabelMapping, LabelWithdraw, LabelRelease}
use Rattle.ldp_grammar.specs.declared.status_code.StatusCode.{StatusCode}
use Rattle.ldp_grammar.specs.Written.{IsState}
use Rattle.pw_tlvs.specs.declared.point.Point.{Point}
use Rattle.pw_tlvs.specs.declared.pw_fec.PwFec.{PwFec}
use Rattle.pw_tlvs.specs.declared.pw_status.PwStatus.{PwStatus}
use Rattle.pw_tlvs.specs.Written.{writable_fec}
use Rattle.pw_signalling.specs.declared.binding.Binding.{Binding}
use Rattle.pw_signalling.specs.declared.told.Told.{Told}
use Rattle.pw_signalling.specs.End.{EndState, LocalPart, Idle, Advertised, Withdrawing}
use Rattle.pw_signalling.specs.Rows.{bound, group_stated, group_unbound, is_in_group, names, release_part, released, stated, status_part, unbound, unless_named}
use Rattle.pw_messages.specs.Content.{binding_in, pw_status_code, release, told_with}
use Rattle.pw_stitch.specs.Accepting.{is_point_at}
use Rattle.session_core.specs.declared.peers.Peers.{Peers}
use Rattle.edge_model.specs.declared.end_place.EndPlace.{EndPlace}
use Rattle.edge_model.specs.EndPlaces.{end_named}
use Rattle.edge_model.specs.Hear.{acts_on}
use Rattle.edge_model.specs.Mend.{is_up_with}
use Rattle.edge_model.specs.Signal.{accepts_at, end_of_fec, hears_mapping, hears_release, hears_status, hears_withdraw, maps_to, releases_label, takes_content, with_end_changed, with_named, with_released}
use Rattle.edge_model.specs.Labels.{releasing}
use Rattle.edge_model.specs.State.{EdgeState, end_at, with_end, with_ends_beside, with_kept}
use Rattle.edge_model.specs.Work.{Work, changes}
use Rattle.edge_model.proofs.FollowLemmas.{end_named_beside}
use Rattle.network_model.specs.Absorb.{taken_all}
use Rattle.flight_laws.specs.Messages.{IsSaidAcross, IsSound}
use Rattle.flight_laws.specs.Sound.{IsSoundEnd, IsSoundHeld, IsSoundPart, IsSoundTold, TellsSoundly, limit_of, point_limit}
use Rattle.flight_laws.proofs.HearingLemmas.{withdraws_addresses}
use Rattle.flight_laws.proofs.OfferLemmas.{IsOfWires, heard_sound, release_is, status_sound}
use Rattle.flight_laws.proofs.PlaceLemmas.{IsEndOf, named_is}
use Rattle.flight_laws.proofs.SoundLemmas.{sound_beside, sound_releasing, sound_with_end}
use Rattle.flight_laws.proofs.SteadyLemmas.{IsSteady}

-- ---- the end that a FEC names is beside the peer

-- ---- changes of ends beside a peer with which the session is up

-- a change that keeps an end sound, of which at most so many points are taken
KeepsPart : ℕ → (EndState → EndState) → Type 0
KeepsPart limit change = (e : EndState) → IsSoundPart e.local → IsSoundHeld limit e.remote → IsSoundPart (change e).local × IsSoundHeld limit (change e).remote

-- an edge that has changed
record HasChanged (limit : ℕ → ℕ) (old new : EdgeState) : Type 0 where
  peering : new.peering ≡ old.peering
  me : new.me ≡ old.me
  sound : TellsSoundly limit old → TellsSoundly limit new

up_keeps : (limit : ℕ) (change : EndState → EndState) (up : Bool) (e : EndState) → up ≡ true → KeepsPart limit change → IsSoundEnd limit up e → IsSoundEnd limit up (change e)
unfolding KeepsPart
up_keeps limit change true e is keeps sound = keeps e sound.0 sound.1
up_keeps limit change false e is keeps sound = clash is

module _ (limit : ℕ → ℕ) where
  unchanged : (edge : EdgeState) → HasChanged limit edge edge
  unchanged edge = record { peering = refl; me = refl; sound = λ sound. sound }

  end_changes : (change : EndState → EndState) (place : EndPlace) (edge : EdgeState) → KeepsPart (limit place.wire.0) change → is_up_with (edge.peering place.peer.0) ≡ true
      → HasChanged limit edge (with_end place (change (end_at edge place)) edge)
  unfolding with_end with_kept
  end_changes change place edge keeps up = record {
    peering = refl;
    me = refl;
    sound = λ sound. sound_with_end place (change (end_at edge place)) edge
        (up_keeps (limit place.wire.0) change (is_up_with (edge.peering place.peer.0)) (end_at edge place) up keeps (sound.ends place.wire.0 place.peer.0)) sound;
  }

  beside_changes : (change : EndState → EndState) (peer : EdgeId) (edge : EdgeState) → ((most : ℕ) → KeepsPart most change) → is_up_with (edge.peering peer.0) ≡ true
      → HasChanged limit edge (with_ends_beside peer change edge)
  unfolding with_ends_beside with_kept
  beside_changes change peer edge keeps up = record {
    peering = refl;
    me = refl;
    sound = λ sound. sound_beside peer change edge (λ most e is. up_keeps most change (is_up_with (edge.peering peer.0)) e up (keeps most) is) sound;
  }

  named_changes : (plan : Plan) (peer : EdgeId) (change : EndState → EndState) (pw_id : ℕ) (edge : EdgeState) → ((most : ℕ) → KeepsPart most change) → is_up_with (edge.peering peer.0) ≡ true
      → HasChanged limit edge (with_end_changed change (end_named plan edge.me peer pw_id) edge)
  named_changes plan peer change pw_id edge keeps up = by_place (end_named plan edge.me peer pw_id) refl where
    by_place : (found_passes : Option EndPlace) → end_named plan edge.me peer pw_id ≡ found_passes → HasChanged limit edge (with_end_changed change found_passes edge)
    by_place None at = unchanged edge
    by_place (Some place) at = end_changes change place edge (keeps (limit place.wire.0)) (rw (end_named_beside plan edge.me peer pw_id place at) up)

  all_changes : (plan : Plan) (peer : EdgeId) (fec : PwFec) (one all : EndState → EndState) (pw_id : Option ℕ) (edge : EdgeState) → ((most : ℕ) → KeepsPart most one)
      → ((most : ℕ) → KeepsPart most all) → is_up_with (edge.peering peer.0) ≡ true
      → HasChanged limit edge (with_named plan peer fec one all pw_id edge)
  all_changes plan peer fec one all None edge keeps keeps' up = beside_changes all peer edge keeps' up
  all_changes plan peer fec one all (Some pw_id) edge keeps keeps' up = named_changes plan peer one pw_id edge keeps up

  fec_changes : (plan : Plan) (peer : EdgeId) (change : EndState → EndState) (fec : PwFec) (edge : EdgeState) → ((most : ℕ) → KeepsPart most change) → is_up_with (edge.peering peer.0) ≡ true
      → HasChanged limit edge (with_end_changed change (end_of_fec plan edge peer fec) edge)
  fec_changes plan peer change fec edge keeps up = by_id fec.pw_id where
    by_id : (pw_id : Option ℕ) → HasChanged limit edge (with_end_changed change (option_and_then (end_named plan edge.me peer) pw_id) edge)
    by_id None = unchanged edge
    by_id (Some pw_id) = named_changes plan peer change pw_id edge keeps up

  releasing_changes : (label : Option ℕ) (place : EndPlace) (edge : EdgeState) → ((most : ℕ) → KeepsPart most (released label)) → is_up_with (edge.peering place.peer.0) ≡ true
      → HasChanged limit edge (releasing label place edge)
  unfolding with_end with_kept
  releasing_changes label place edge keeps up =
      let one : HasChanged limit edge (with_end place (released label (end_at edge place)) edge) = end_changes (released label) place edge (keeps (limit place.wire.0)) up in
      record { peering = refl; me = refl; sound = λ sound. sound_releasing label place edge sound (one.sound sound) }

-- changes of what is held alone
pub held_unless : (limit : ℕ) (label : Option ℕ) (held : Option Binding) → IsSoundHeld limit held → IsSoundHeld limit (unless_named label held)
held_unless limit label None sound = tt
held_unless limit label (Some binding) sound = by_name (names label binding.label) where
  by_name : (b : Bool) → IsSoundHeld limit (cond b None (Some binding))
  by_name true = tt
  by_name false = sound

held_stated : (limit : ℕ) (status : PwStatus) (held : Option Binding) → status.0 < 2 ^ 32 → IsSoundHeld limit held → IsSoundHeld limit (status_part status held)
held_stated limit status None small sound = tt
held_stated limit status (Some binding) small sound = status_sound limit status binding.told small sound

-- either of two ends that are sound
either_keeps : (limit : ℕ) (b : Bool) (e f : EndState) → IsSoundPart e.local × IsSoundHeld limit e.remote → IsSoundPart f.local × IsSoundHeld limit f.remote
    → IsSoundPart (cond b e f).local × IsSoundHeld limit (cond b e f).remote
either_keeps limit true e f one other = one
either_keeps limit false e f one other = other

bound_keeps : (limit : ℕ) (binding : Binding) → IsSoundTold limit binding.told → KeepsPart limit (bound binding)
unfolding KeepsPart
bound_keeps limit binding told e part held = (part, told)

unbound_keeps : (label : Option ℕ) (limit : ℕ) → KeepsPart limit (unbound label)
unfolding KeepsPart
unbound_keeps label limit e part held = (part, held_unless limit label e.remote held)

group_unbound_keeps : (group limit : ℕ) → KeepsPart limit (group_unbound group)
unfolding KeepsPart
group_unbound_keeps group limit e part held = either_keeps limit (is_in_group group e.remote) (unbound None e) e (part, held_unless limit None e.remote held) (part, held)

stated_keeps : (status : PwStatus) → status.0 < 2 ^ 32 → (limit : ℕ) → KeepsPart limit (stated status)
unfolding KeepsPart
stated_keeps status small limit e part held = (part, held_stated limit status e.remote small held)

group_stated_keeps : (group : ℕ) (status : PwStatus) → status.0 < 2 ^ 32 → (limit : ℕ) → KeepsPart limit (group_stated group status)
unfolding KeepsPart
group_stated_keeps group status small limit e part held = either_keeps limit (is_in_group group e.remote) (stated status e) e (part, held_stated limit status e.remote small held) (part, held)

released_keeps : (label : Option ℕ) (limit : ℕ) → KeepsPart limit (released label)
unfolding KeepsPart
released_keeps label limit e part held = (by_local e.local part, held) where
  either : (b : Bool) (x y : LocalPart) → IsSoundPart x → IsSoundPart y → IsSoundPart (cond b x y)
  either true x y one other = one
  either false x y one other = other

  by_local : (local : LocalPart) → IsSoundPart local → IsSoundPart (release_part label local)
  by_local (Idle declined) sound = tt
  by_local (Advertised own told) sound = either (names label own) (Idle true) (Advertised own told) tt sound
  by_local (Withdrawing own) sound = either (names label own) (Idle false) (Withdrawing own) tt sound

-- ---- rows

pub writable_kind : (fec : PwFec) → writable_fec fec ≡ true → fec.kind ≤ 0x7FFF
writable_kind fec can = small (first_holds (nat_le fec.kind 0x7FFF) _ can) where
  small : nat_le fec.kind 0x7FFF ≡ true → fec.kind ≤ 0x7FFF
  small e = grind (arith, nat_tests)

-- ---- what a switching point takes

-- a list of fewer than three points has two at most
few_points : (n : ℕ) → nat_lt n 3 ≡ true → n ≤ 2
few_points n few = grind (arith, nat_tests)

-- an edge takes of a wire at most so many points
taken_few : (plan : Plan) (me : EdgeId) (place : EndPlace) (content : Told) → IsEndOf plan me place → takes_content plan me place content ≡ true → length content.points ≤ 3
    → length content.points ≤ point_limit plan me.0 place.wire.0
taken_few plan me place content is takes few =
    subst (λ (limit : ℕ). length content.points ≤ limit) (sym (ap (limit_of me) is.is ∙ ap (λ (b : Bool). cond b 3 2) (sym is.terminal))) (by_side place.terminal takes)
  where
    by_address : (own : Option Addr) → accepts_at own content ≡ true → length content.points ≤ 2
    by_address None accepted = clash accepted
    by_address (Some own) accepted = few_points (length content.points) (second_holds (not (list_any (is_point_at own) content.points)) (nat_lt (length content.points) 3) accepted)

    by_side : (terminal : Bool) → terminal || accepts_at (edge_address plan me) content ≡ true → length content.points ≤ cond terminal 3 2
    by_side true takes = few
    by_side false takes = by_address (edge_address plan me) takes

release_changes : (limit : ℕ → ℕ) (plan : Plan) (peer : EdgeId) (label : Option ℕ) (fec : PwFec) (edge : EdgeState) → is_up_with (edge.peering peer.0) ≡ true
    → HasChanged limit edge (with_released label (end_of_fec plan edge peer fec) edge)
release_changes limit plan peer label fec edge up = by_id fec.pw_id where
  by_place : (pw_id : ℕ) (found_passes : Option EndPlace) → end_named plan edge.me peer pw_id ≡ found_passes → HasChanged limit edge (with_released label found_passes edge)
  by_place pw_id None at = unchanged limit edge
  by_place pw_id (Some place) at = releasing_changes limit label place edge (released_keeps label) (rw (end_named_beside plan edge.me peer pw_id place at) up)

  by_id : (pw_id : Option ℕ) → HasChanged limit edge (with_released label (option_and_then (end_named plan edge.me peer) pw_id) edge)
  by_id None = unchanged limit edge
  by_id (Some pw_id) = by_place pw_id (end_named plan edge.me peer pw_id) refl

module _ (plan : Plan) (me peer : EdgeId) (other : Peers) (I : Work → Type 0) (steady : IsSteady plan me I) where
  changed : (change : EdgeState → EdgeState) (work : Work) → HasChanged (point_limit plan me.0) work.edge (change work.edge) → I work → I (changes change work)
  changed change work has i = steady.changes change work has.peering has.me (has.sound (steady.sound work i)) i

  still_up : (change : EdgeState → EdgeState) (work : Work) → HasChanged (point_limit plan me.0) work.edge (change work.edge) → is_up_with (work.edge.peering peer.0) ≡ true
      → is_up_with ((changes change work).edge.peering peer.0) ≡ true
  unfolding changes
  still_up change work has up = rw has.peering up

  maps : (id : ℕ) (fec : PwFec) (label : ℕ) (status : Option PwStatus) (points : List Point) (work : Work) → is_up_with (work.edge.peering peer.0) ≡ true
      → IsSound (LabelMapping id fec label status points)
      → I work → I (hears_mapping plan taken_all peer fec label status points work)
  maps id fec label status points work up sound i = by_id fec.pw_id refl where
    of_wires : IsOfWires (release fec (Some label))
    of_wires = release_is fec (Some label) (writable_kind fec (second_holds (is_some fec.pw_id) (writable_fec fec) sound.1)) sound.0.1.group sound.0.1.pw_id sound.0.2

    takes : (pw_id : ℕ) (place : EndPlace) → end_named plan work.edge.me peer pw_id ≡ Some place → (b : Bool) → takes_content plan work.edge.me place (told_with fec status points) ≡ b
        → I (cond b (changes (with_end_changed (bound (binding_in fec label status points)) (Some place)) work)
        (releases_label taken_all peer fec (Some label) (changes (with_end_changed (unbound None) (Some place)) work)))
    takes pw_id place at true taken = changed (with_end_changed (bound (binding_in fec label status points)) (Some place)) work
        (end_changes (point_limit plan me.0) (bound (binding_in fec label status points)) place work.edge
        (bound_keeps (point_limit plan me.0 place.wire.0) (binding_in fec label status points)
        (heard_sound (point_limit plan me.0 place.wire.0) id fec label status points sound
        (subst (λ (k : EdgeId). length points ≤ point_limit plan k.0 place.wire.0) (steady.placed work i)
        (taken_few plan work.edge.me place (told_with fec status points) (named_is plan work.edge.me peer pw_id place at).holds taken sound.0.4))))
        (rw (end_named_beside plan work.edge.me peer pw_id place at) up)) i
    takes pw_id place at false refused =
        let change : EdgeState → EdgeState = with_end_changed (unbound None) (Some place) in
        let has : HasChanged (point_limit plan me.0) work.edge (change work.edge) =
        end_changes (point_limit plan me.0) (unbound None) place work.edge (unbound_keeps None (point_limit plan me.0 place.wire.0)) (rw (end_named_beside plan work.edge.me peer pw_id place at) up) in
        steady.says peer (release fec (Some label)) (changes change work) (still_up change work has up) of_wires (changed change work has i)

    by_place : (pw_id : ℕ) (found_passes : Option EndPlace) → end_named plan work.edge.me peer pw_id ≡ found_passes
        → I (maps_to plan taken_all peer fec (binding_in fec label status points) found_passes work)
    by_place pw_id None at = steady.says peer (release fec (Some label)) work up of_wires i
    by_place pw_id (Some place) at = takes pw_id place at (takes_content plan work.edge.me place (told_with fec status points)) refl

    by_id : (pw_id : Option ℕ) → fec.pw_id ≡ pw_id → I (maps_to plan taken_all peer fec (binding_in fec label status points) (option_and_then (end_named plan work.edge.me peer) pw_id) work)
    by_id None at = clash (sym (ap is_some at) ∙ first_holds (is_some fec.pw_id) (writable_fec fec) sound.1)
    by_id (Some pw_id) at = (by_place pw_id (end_named plan work.edge.me peer pw_id) refl)

  withdraws : (id : ℕ) (fec : PwFec) (label : Option ℕ) (work : Work) → is_up_with (work.edge.peering peer.0) ≡ true → IsSound (LabelWithdraw id fec label) → I work
      → I (hears_withdraw plan taken_all peer fec label work)
  withdraws id fec label work up sound i =
      let change : EdgeState → EdgeState = with_named plan peer fec (unbound label) (group_unbound fec.group) fec.pw_id in
      let has : HasChanged (point_limit plan me.0) work.edge (change work.edge) =
      all_changes (point_limit plan me.0) plan peer fec (unbound label) (group_unbound fec.group) fec.pw_id work.edge (unbound_keeps label) (group_unbound_keeps fec.group) up in
      steady.says peer (release fec label) (changes change work) (still_up change work has up)
      (release_is fec label (writable_kind fec sound.1) sound.0.1.group sound.0.1.pw_id sound.0.2) (changed change work has i)

  releases : (fec : PwFec) (label : Option ℕ) (work : Work) → is_up_with (work.edge.peering peer.0) ≡ true → I work → I (hears_release plan peer fec label work)
  releases fec label work up i =
      changed (λ edge. with_released label (end_of_fec plan edge peer fec) edge) work (release_changes (point_limit plan me.0) plan peer label fec work.edge up) i

  states : (code : StatusCode) (status : Option PwStatus) (fec : Option PwFec) (work : Work) → is_up_with (work.edge.peering peer.0) ≡ true → IsState status → I work
      → I (hears_status plan peer code status fec work)
  states code None fec work up small i = i
  states code (Some status) None work up small i = i
  states code (Some status) (Some fec) work up small i = by_code (nat_eq code.code pw_status_code) where
    by_code : (b : Bool) → I (cond b (changes (with_named plan peer fec (stated status) (group_stated fec.group status) fec.pw_id) work) work)
    by_code true = changed (with_named plan peer fec (stated status) (group_stated fec.group status) fec.pw_id) work
        (all_changes (point_limit plan me.0) plan peer fec (stated status) (group_stated fec.group status) fec.pw_id work.edge (stated_keeps status small)
        (group_stated_keeps fec.group status small) up) i
    by_code false = i

  pub steady_acts : (m : Message) (work : Work) → IsSaidAcross other m → withdraws_addresses m ≡ false → is_up_with (work.edge.peering peer.0) ≡ true → I work → I (acts_on plan taken_all peer m work)
  steady_acts (Initialization id params) work said plain up i = i
  steady_acts (KeepAlive id) work said plain up i = i
  steady_acts (Notification id code status fec) work said plain up i = states code status fec work up said.0.0.3 i
  steady_acts (AddressWithdraw id addresses fec macs) work said plain up i = clash (sym plain)
  steady_acts (LabelMapping id fec label status points) work said plain up i = maps id fec label status points work up said i
  steady_acts (LabelWithdraw id fec label) work said plain up i = withdraws id fec label work up said i
  steady_acts (LabelRelease id fec label) work said plain up i = releases fec label work up i
  steady_acts m work said plain up i = absurd said
