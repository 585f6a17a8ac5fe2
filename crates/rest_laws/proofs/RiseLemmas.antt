-- Whatever message about a wire an edge that has mended hears, it puts messages of higher levels alone.
use Rattle.std.proofs.Common.{◌≡◌, ◌≤◌, ◌<◌, ◌+◌, ◌*◌, ◌∙◌, ◌&&◌, ◌||◌, arith, length, map, nat_lt, not, suc, ℕ, Bool, true, false, cond, is_some, nat_eq, List, [], ◌∷◌, Option, Some, None, option_and_then, refl, sym, ap, subst, zero-add}
use Rattle.std.proofs.lemmas.Bool.Decides.{nat_tests}
use Rattle.std.proofs.lemmas.Option.{same_Some}
use Rattle.net_values.specs.declared.addr.Addr.{Addr}
use Rattle.ldp_grammar.specs.Written.{written}
use Rattle.pw_messages.specs.Sender.{platform_of}
use Rattle.std.specs.List.{AllByRecursion}
use Rattle.net_base.specs.declared.plan.Plan.{Plan}
use Rattle.net_base.specs.declared.plan.places.EdgeId.{EdgeId}
use Rattle.net_base.specs.declared.plan.places.WireId.{WireId}
use Rattle.net_base.specs.declared.plan.wire_plan.WirePlan.{WirePlan}
use Rattle.net_base.specs.plan.Accepted.{IsChecked}
use Rattle.net_base.specs.plan.Paths.{expected, follows, joins, offer_of}
use Rattle.net_base.specs.plan.Places.{is_mesh_class, wire_row}
use Rattle.net_base.proofs.CommonLemmas.{same_row}
use Rattle.net_base.proofs.PathLemmas.{joins_turned}
use Rattle.net_values.specs.declared.mac.Mac.{Mac}
use Rattle.ldp_grammar.specs.declared.message.Message.{Message}
use Rattle.ldp_grammar.specs.declared.message.Message.TheVariants.{Notification, AddressWithdraw, LabelMapping, LabelWithdraw, LabelRelease}
use Rattle.ldp_grammar.specs.declared.status_code.StatusCode.{StatusCode}
use Rattle.pw_tlvs.specs.declared.point.Point.{Point}
use Rattle.pw_tlvs.specs.declared.pw_fec.PwFec.{PwFec}
use Rattle.pw_tlvs.specs.declared.pw_status.PwStatus.{PwStatus}
use Rattle.pw_messages.specs.Content.{pw_status_code, told_with}
use Rattle.pw_signalling.specs.declared.binding.Binding.{Binding}
use Rattle.pw_signalling.specs.declared.told.Told.{Told}
use Rattle.pw_signalling.specs.End.{EndState}
use Rattle.pw_signalling.specs.Rows.{group_stated, stated, status_part}
use Rattle.pw_status.specs.declared.method.Method.{Method}
use Rattle.pw_status.specs.Status.{method_by}
use Rattle.net_values.proofs.BoolLemmas.{clash}
use Rattle.edge_model.specs.declared.effect.Effect.{Effect}
use Rattle.edge_model.specs.declared.effect.Effect.TheVariants as effect
use Rattle.edge_model.specs.declared.end_place.EndPlace.{EndPlace}
use Rattle.edge_model.specs.EndPlaces.{end_named}
use Rattle.edge_model.specs.Hear.{acts_on}
use Rattle.edge_model.specs.Clear.{hears_mac_withdraw}
use Rattle.edge_model.specs.Mend.{mends, tells_status}
use Rattle.edge_model.specs.Signal.{end_of_fec, hears_mapping, hears_release, hears_status, hears_withdraw, takes_content, with_named}
use Rattle.edge_model.specs.State.{EdgeState, end_at, with_end}
use Rattle.edge_model.specs.Work.{Work, changes}
use Rattle.edge_model.proofs.MendedLemmas.{end_put}
use Rattle.edge_model.proofs.WalkLemmas.{named_alone}
use Rattle.network_model.specs.Absorb.{taken_all}
use Rattle.flight_laws.specs.Rules.{FarTells, TellsExpected, TellsOfWire}
use Rattle.flight_laws.proofs.MendedRunLemmas.{IsMendedAt}
use Rattle.flight_laws.proofs.PlaceLemmas.{IsEndOf, IsNamed, NamedEnd, end_of, named_is}
use Rattle.flight_laws.proofs.WorksLemmas.{changed_edge}
use Rattle.spelling_laws.proofs.PutLemmas.{changed_effects}
use Rattle.rest_laws.specs.Levels.{Saying, Binds, Withdraws, Releases, States, Clears, address_stage, label_stage, levels_end, edges_spoken, status_stage, way_hangs, is_above, is_higher, level, level_at, level_by, level_of, pw_id_of, saying_of}
use Rattle.rest_laws.proofs.DueLemmas.{PutsMore, PutsWell}
use Rattle.rest_laws.specs.Rises.{AreSaidAt, HearingLightens, HearingRises, HoldsByPlan, IsByPlan, PutsAbove, left_above, put_most, said_count}
use Rattle.rest_laws.proofs.BindLemmas.{HoldsOther, tells_by}
use Rattle.rest_laws.proofs.ClearLemmas.{clear_rises}
use Rattle.rest_laws.proofs.CountLemmas.{count_joined, heard_few}
use Rattle.rest_laws.proofs.HearLemmas.{release_rises, spoken_few}
use Rattle.rest_laws.proofs.StatedLemmas.{stated_rises}
use Rattle.rest_laws.proofs.StillLemmas.{mended_puts_none}
use Rattle.rest_laws.proofs.WeightLemmas.{lighter}
use Rattle.rest_laws.proofs.TakeLemmas.{holds_other, mapping_by_rule, pw_named, withdraw_by_rule}

-- ---- what is put at an end of the edge is of the end's level

module _ (plan : Plan) (checked : IsChecked plan) (edges : ℕ → EdgeState) (me : EdgeId) (least : ℕ) where
  level_here : (place : EndPlace) → IsEndOf plan me place → (saying : Saying) (message : Message) → saying_of message ≡ Some saying → pw_id_of message ≡ Some place.pw_id
      → level_of plan edges me.0 place.peer.0 message ≡ level_at plan edges me.0 saying place
  level_here place here saying message says names =
      let near : NamedEnd plan me place.peer place.wire here.row = end_of plan me place.peer place.wire here.row checked here.is here.joined in
      let named : end_named plan me place.peer place.pw_id ≡ Some near.place = ap (end_named plan me place.peer) here.pw_id ∙ near.named in
      ap (λ (o : Option Saying). option_and_then (λ (s : Saying). option_and_then (level_at plan edges me.0 s) (option_and_then (end_named plan me place.peer) (pw_id_of message))) o) says
      ∙ (ap (λ (o : Option ℕ). option_and_then (level_at plan edges me.0 saying) (option_and_then (end_named plan me place.peer) o)) names
      ∙ (ap (option_and_then (level_at plan edges me.0 saying)) named
      ∙ (ap (λ (w : WireId). level_by edges w.0 me.0 near.place.peer.0 saying (wire_row plan w)) near.wire_is
      ∙ ap (λ (k : EdgeId). level_by edges place.wire.0 me.0 k.0 saying (wire_row plan place.wire)) near.peer_is)))

  -- the levels of what is said
  record AreAbove (es : List Effect) : Type 0 where
    levels : List ℕ
    are : AreSaidAt plan edges me.0 es levels
    above : AllByRecursion (λ level. least < level) levels

  below : (a b : ℕ) → nat_lt a b ≡ true → a < b
  below a b is = grind (arith, nat_tests)

  -- a level above, where there is one
  found_above : (e : EdgeId) (octets : List ℕ) (es : List Effect) (message : Message) (router : Addr) → octets ≡ written message (platform_of router) → (o : Option ℕ) → level_of plan edges me.0 e.0 message ≡ o
      → is_higher least o ≡ true → AreAbove es → AreAbove (effect.Said e octets ∷ es)
  found_above e octets es message router spelled None is higher rest = clash higher
  found_above e octets es message router spelled (Some level) is higher rest = record {
    levels = level ∷ rest.levels;
    are = (record { message = message; router = router; spelled = spelled; is = is }, rest.are);
    above = (below least level higher, rest.above);
  }

  effects_above : (es : List Effect) → AllByRecursion (PutsWell plan me (is_above plan edges me.0 least)) es → AreAbove es
  effects_above [] all = record { levels = []; are = tt; above = tt }
  effects_above (effect.Said peer octets ∷ es) all =
      let well = all.0 in
      found_above peer octets es well.message well.router well.spelled (level_of plan edges me.0 peer.0 well.message) refl
      (ap (λ (k : ℕ). is_higher least (level_of plan edges me.0 k well.message)) (sym well.beside)
      ∙ (ap (is_higher least) (level_here well.place well.here well.saying well.message well.says well.names) ∙ well.allowed)) (effects_above es all.1)
  effects_above (e ∷ es) all = (let rest : AreAbove es = effects_above es all.1 in record { levels = rest.levels; are = rest.are; above = rest.above })

  one_each : (a b : ℕ) → a ≡ b → suc a ≡ 1 + b
  one_each a b is = omega (arith, is)

  -- as many levels as messages
  count_levels : (es : List Effect) (levels : List ℕ) → AreSaidAt plan edges me.0 es levels → length levels ≡ said_count es
  count_levels [] [] are = refl
  count_levels [] (l ∷ levels) are = absurd are
  count_levels (effect.Said peer octets ∷ es) [] are = absurd are
  count_levels (effect.Said peer octets ∷ es) (l ∷ levels) are = one_each (length levels) (said_count es) (count_levels es levels are.1)
  count_levels (e ∷ es) levels are = count_levels es levels are ∙ sym (zero-add (said_count es))

  counted : (old more all most : ℕ) → all ≡ old + more → all ≤ old + most → more ≤ most
  counted old more all most is few = omega (arith, is, few)

  pub puts_above : (most : ℕ) (old new : List Effect) → said_count new ≤ said_count old + most → PutsMore plan me (is_above plan edges me.0 least) old new → PutsAbove plan edges me.0 least most old new
  puts_above most old new few puts =
      let found : AreAbove puts.more = effects_above puts.more puts.well in
      record {
        more = puts.more;
        joined = puts.joined;
        levels = found.levels;
        are = found.are;
        above = found.above;
        few = subst (λ (n : ℕ). n ≤ most) (sym (count_levels puts.more found.levels found.are))
            (counted (said_count old) (said_count puts.more) (said_count new) most (ap said_count puts.joined ∙ count_joined old puts.more) few);
      }

-- ---- the end that a message names

-- a message that has a level names an end of the hearer, and the far one of its sender
pub record NamesEnd (plan : Plan) (edges : ℕ → EdgeState) (peer me : EdgeId) (message : Message) (least : ℕ) : Type 0 where
  pub saying : Saying
  pub says : saying_of message ≡ Some saying
  pub place : EndPlace
  pub here : IsEndOf plan me place
  pub peer_is : place.peer ≡ peer
  pub names : option_and_then (end_named plan me peer) (pw_id_of message) ≡ Some place
  pub is : level edges place.wire.0 here.row peer.0 me.0 saying ≡ least
  pub far : EndPlace
  pub far_names : option_and_then (end_named plan peer me) (pw_id_of message) ≡ Some far
  pub far_wire : far.wire ≡ place.wire
  pub far_peer : far.peer ≡ me
  pub far_is : level_at plan edges peer.0 saying far ≡ Some least

pub names_end : (plan : Plan) (checked : IsChecked plan) (edges : ℕ → EdgeState) (peer me : EdgeId) (message : Message) (least : ℕ) → level_of plan edges peer.0 me.0 message ≡ Some least
    → NamesEnd plan edges peer me message least
names_end plan checked edges peer me message least has = by_saying (saying_of message) refl has where
  at_place : (saying : Saying) (n : ℕ) (there : EndPlace) → saying_of message ≡ Some saying → pw_id_of message ≡ Some n → end_named plan peer me n ≡ Some there → level_at plan edges peer.0 saying there ≡ Some least
      → NamesEnd plan edges peer me message least
  at_place saying n there says names named level_is =
      let far : IsNamed plan peer me n there = named_is plan peer me n there named in
      let to_me : joins peer.0 me.0 far.holds.row.path ≡ true = ap (λ (k : EdgeId). joins peer.0 k.0 far.holds.row.path) (sym far.peer_is) ∙ far.holds.joined in
      let near : NamedEnd plan me peer there.wire far.holds.row = end_of plan me peer there.wire far.holds.row checked far.holds.is (sym (joins_turned far.holds.row.path peer.0 me.0) ∙ to_me) in
      let number : n ≡ far.holds.row.pw_id = sym far.pw_id_is ∙ far.holds.pw_id in
      let named_here : end_named plan me peer n ≡ Some near.place = ap (end_named plan me peer) number ∙ near.named in
      let here : IsNamed plan me peer n near.place = named_is plan me peer n near.place named_here in
      let rows : here.holds.row ≡ far.holds.row = same_row (sym here.holds.is ∙ (ap (wire_row plan) near.wire_is ∙ far.holds.is)) in
      let of_row : level edges there.wire.0 far.holds.row peer.0 me.0 saying ≡ least =
      same_Some (level edges there.wire.0 far.holds.row peer.0 me.0 saying) least
      (ap (λ (k : EdgeId). Some (level edges there.wire.0 far.holds.row peer.0 k.0 saying)) (sym far.peer_is)
      ∙ (ap (level_by edges there.wire.0 peer.0 there.peer.0 saying) (sym far.holds.is) ∙ level_is)) in
      record {
        saying = saying;
        says = says;
        place = near.place;
        here = here.holds;
        peer_is = here.peer_is;
        names = ap (option_and_then (end_named plan me peer)) names ∙ named_here;
        is = ap (λ (w : WireId). level edges w.0 here.holds.row peer.0 me.0 saying) near.wire_is ∙ (ap (λ (r : WirePlan). level edges there.wire.0 r peer.0 me.0 saying) rows ∙ of_row);
        far = there;
        far_names = ap (option_and_then (end_named plan peer me)) names ∙ named;
        far_wire = sym near.wire_is;
        far_peer = far.peer_is;
        far_is = level_is;
      }

  by_place : (saying : Saying) (n : ℕ) → saying_of message ≡ Some saying → pw_id_of message ≡ Some n → (o : Option EndPlace) → end_named plan peer me n ≡ o
      → option_and_then (level_at plan edges peer.0 saying) o ≡ Some least → NamesEnd plan edges peer me message least
  by_place saying n says names None named level_is = absurd (cc (level_is))
  by_place saying n says names (Some there) named level_is = at_place saying n there says names named level_is

  by_number : (saying : Saying) → saying_of message ≡ Some saying → (o : Option ℕ) → pw_id_of message ≡ o
      → option_and_then (level_at plan edges peer.0 saying) (option_and_then (end_named plan peer me) o) ≡ Some least → NamesEnd plan edges peer me message least
  by_number saying says None names level_is = absurd (cc (level_is))
  by_number saying says (Some n) names level_is = by_place saying n says names (end_named plan peer me n) refl level_is

  by_saying : (o : Option Saying) → saying_of message ≡ o
      → option_and_then (λ (s : Saying). option_and_then (level_at plan edges peer.0 s) (option_and_then (end_named plan peer me) (pw_id_of message))) o ≡ Some least
      → NamesEnd plan edges peer me message least
  by_saying None says level_is = absurd (cc (level_is))
  by_saying (Some saying) says level_is = by_number saying says (pw_id_of message) refl level_is

-- ---- a status is heard

method_same : (own : Bool) (one other : Option PwStatus) → is_some one ≡ true → is_some other ≡ true → method_by own (Some one) ≡ method_by own (Some other)
method_same own None other some there = clash some
method_same own (Some x) None some there = clash there
method_same true (Some x) (Some y) some there = refl
method_same false (Some x) (Some y) some there = refl

-- whether a terminal end tells anything does not go by which status it holds
steady_status : (plan : Plan) (row : WirePlan) (me : EdgeId) (from bits : ℕ) (status : PwStatus) (held : Option Binding) → FarTells plan row from me.0 held → (expected plan row from me.0).offer.status ≡ true
    → tells_by row me bits (status_part status held) ≡ tells_by row me bits held
steady_status plan row me from bits status None tells has = refl
steady_status plan row me from bits status (Some binding) tells has =
    ap (λ (m : Method). tells_status m || nat_eq bits 0) (method_same (offer_of row me.0).status (Some status) binding.told.status refl (tells.carries ∙ has))

-- another state of an end changes no choice and no priority
put_chosen : (q : EndPlace) (e : EndState) (edge : EdgeState) → ((with_end q e edge).chosen ≡ edge.chosen) × ((with_end q e edge).priority ≡ edge.priority)
unfolding with_end
put_chosen q e edge = (refl, refl)

-- ---- the law

module _ (plan : Plan) (checked : IsChecked plan) (edges : ℕ → EdgeState) (work : Work) (mended : IsMendedAt plan work.edge.me.0 work.edge) (bits : (edges work.edge.me.0).bits ≡ work.edge.bits)
    (place : EndPlace) (here : IsEndOf plan work.edge.me place) (held : FarTells plan here.row place.peer.0 work.edge.me.0 (end_at work.edge place).remote) where
  abbrev me : EdgeId
  me = work.edge.me

  -- the level at the end, of a message of this kind
  abbrev at_end : Saying → ℕ
  at_end saying = level edges place.wire.0 here.row place.peer.0 me.0 saying

  abbrev Puts : Saying → Work → Type 0
  Puts saying next = PutsMore plan me (is_above plan edges me.0 (at_end saying)) work.effects (mends plan taken_all next).effects

  maps : (fec : PwFec) (label : ℕ) (status : Option PwStatus) (points : List Point) → end_of_fec plan work.edge place.peer fec ≡ Some place
      → TellsExpected plan here.row place.peer.0 me.0 (told_with fec status points) → takes_content plan work.edge.me place (told_with fec status points) ≡ true
      → Puts Binds (hears_mapping plan taken_all place.peer fec label status points work)
  maps fec label status points named tells takes = mapping_by_rule plan checked edges me place here work mended bits held fec label status points named takes tells

  withdraws : (fec : PwFec) (label : Option ℕ) → end_of_fec plan work.edge place.peer fec ≡ Some place → Puts Withdraws (hears_withdraw plan taken_all place.peer fec label work)
  withdraws fec label named = withdraw_by_rule plan checked edges me place here work mended bits held fec label named

  releases : (fec : PwFec) (label : Option ℕ) → end_of_fec plan work.edge place.peer fec ≡ Some place → Puts Releases (hears_release plan place.peer fec label work)
  releases fec label named = release_rises plan checked edges me place.peer fec label place work mended named here

  -- nothing changes
  none : (saying : Saying) → Puts saying work
  none saying = mended_puts_none plan me (is_above plan edges me.0 (at_end saying)) work mended

  states_it : (fec : PwFec) (status : PwStatus) → end_of_fec plan work.edge place.peer fec ≡ Some place → (expected plan here.row place.peer.0 me.0).offer.status ≡ true
      → Puts States (changes (with_named plan place.peer fec (stated status) (group_stated fec.group status) fec.pw_id) work)
  states_it fec status named has =
      subst (λ (es : List Effect). PutsMore plan me (is_above plan edges me.0 (at_end States)) es (mends plan taken_all next).effects) (changed_effects change work)
      (stated_rises plan checked edges me place here work.edge next.edge mended other status stated_is steady same_chosen same_priorities next refl)
    where
      change : EdgeState → EdgeState
      change = with_named plan place.peer fec (stated status) (group_stated fec.group status) fec.pw_id

      next : Work
      next = changes change work

      end : EndState
      end = stated status (end_at work.edge place)

      edge_is : next.edge ≡ with_end place end work.edge
      edge_is = changed_edge change work ∙ named_alone plan place.peer fec place (stated status) (group_stated fec.group status) work.edge named

      other : HoldsOther place work.edge next.edge
      other = subst (HoldsOther place work.edge) (sym edge_is) (holds_other place end work.edge refl)

      stated_is : (end_at next.edge place).remote ≡ status_part status (end_at work.edge place).remote
      stated_is = ap (λ (e : EdgeState). (end_at e place).remote) edge_is ∙ ap (λ (e : EndState). e.remote) (end_put place end work.edge)

      steady : place.terminal ≡ true → tells_by here.row work.edge.me (work.edge.bits place.wire.0) (end_at next.edge place).remote ≡ tells_by here.row work.edge.me (work.edge.bits place.wire.0) (end_at work.edge place).remote
      steady terminal =
          ap (tells_by here.row work.edge.me (work.edge.bits place.wire.0)) stated_is
          ∙ subst (λ (k : EdgeId). tells_by here.row k (work.edge.bits place.wire.0) (status_part status (end_at work.edge place).remote) ≡ tells_by here.row k (work.edge.bits place.wire.0) (end_at work.edge place).remote) (sym mended.me)
          (steady_status plan here.row me place.peer.0 (work.edge.bits place.wire.0) status (end_at work.edge place).remote held has)

      same_chosen : next.edge.chosen ≡ work.edge.chosen
      same_chosen = ap (λ (e : EdgeState). e.chosen) edge_is ∙ (put_chosen place end work.edge).0

      same_priorities : next.edge.priority ≡ work.edge.priority
      same_priorities = ap (λ (e : EdgeState). e.priority) edge_is ∙ (put_chosen place end work.edge).1

  states : (code : StatusCode) (status : Option PwStatus) (fec : PwFec) → end_of_fec plan work.edge place.peer fec ≡ Some place → (expected plan here.row place.peer.0 me.0).offer.status ≡ true
      → Puts States (hears_status plan place.peer code status (Some fec) work)
  states code None fec named has = none States
  states code (Some status) fec named has = by (nat_eq code.code pw_status_code) where
    by : (b : Bool) → Puts States (cond b (changes (with_named plan place.peer fec (stated status) (group_stated fec.group status) fec.pw_id) work) work)
    by true = states_it fec status named has
    by false = none States

  clears : (fec : PwFec) (macs : Option (List Mac)) → end_of_fec plan work.edge place.peer fec ≡ Some place → Puts Clears (hears_mac_withdraw plan taken_all place.peer (Some fec) macs work)
  clears fec None named = none Clears
  clears fec (Some addresses) named = clear_rises plan checked edges me place here addresses work mended fec named

  turned : joins place.peer.0 me.0 here.row.path ≡ true
  turned = sym (joins_turned here.row.path me.0 place.peer.0) ∙ here.joined

  -- what is told of a wire that the FEC of the end names is told of the end's wire
  of_wire : (fec : PwFec) (told : Told) → end_of_fec plan work.edge place.peer fec ≡ Some place → TellsOfWire plan place.peer.0 me.0 fec told → TellsExpected plan here.row place.peer.0 me.0 told
  of_wire fec told named tells =
      let near : NamedEnd plan me place.peer tells.wire tells.row = end_of plan me place.peer tells.wire tells.row checked tells.is (sym (joins_turned tells.row.path place.peer.0 me.0) ∙ tells.joined) in
      let one : near.place ≡ place =
      same_Some near.place place (sym near.named ∙ (ap (option_and_then (end_named plan me place.peer)) (sym tells.named) ∙ named)) in
      let rows : tells.row ≡ here.row = same_row (sym tells.is ∙ (ap (wire_row plan) (sym near.wire_is ∙ ap (λ (p : EndPlace). p.wire) one) ∙ here.is)) in
      subst (λ (r : WirePlan). TellsExpected plan r place.peer.0 me.0 told) rows tells.tells

  by_kind : (m : Message) (saying : Saying) → saying_of m ≡ Some saying → option_and_then (end_named plan me place.peer) (pw_id_of m) ≡ Some place → IsByPlan plan work.edge place.peer m
      → Puts saying (acts_on plan taken_all place.peer m work)
  by_kind (LabelMapping id fec label status points) saying says names by_plan =
      subst (λ (x : Saying). Puts x (hears_mapping plan taken_all place.peer fec label status points work)) (same_Some Binds saying says)
      (maps fec label status points names (of_wire fec (told_with fec status points) names by_plan.0) (by_plan.1 place names))
  by_kind (LabelWithdraw id fec label) saying says names by_plan =
      subst (λ (x : Saying). Puts x (hears_withdraw plan taken_all place.peer fec label work)) (same_Some Withdraws saying says) (withdraws fec label names)
  by_kind (LabelRelease id fec label) saying says names by_plan =
      subst (λ (x : Saying). Puts x (hears_release plan place.peer fec label work)) (same_Some Releases saying says) (releases fec label names)
  by_kind (Notification id code status (Some fec)) saying says names by_plan =
      subst (λ (x : Saying). Puts x (hears_status plan place.peer code status (Some fec) work)) (same_Some States saying says)
      (states code status fec names (by_plan place.wire here.row here.is turned (pw_named plan me place.peer place fec.pw_id names ∙ ap (λ (n : ℕ). Some n) here.pw_id)))
  by_kind (AddressWithdraw id addresses (Some fec) macs) saying says names by_plan =
      subst (λ (x : Saying). Puts x (hears_mac_withdraw plan taken_all place.peer (Some fec) macs work)) (same_Some Clears saying says) (clears fec macs names)
  by_kind m saying says names by_plan = absurd (cc (says))

-- what an edge holds at an end beside a peer
held_at : (plan : Plan) (edge : EdgeState) (peer : EdgeId) (place : EndPlace) (here : IsEndOf plan edge.me place) → HoldsByPlan plan edge peer → place.peer ≡ peer
    → FarTells plan here.row place.peer.0 edge.me.0 (end_at edge place).remote
held_at plan edge peer place here holds beside =
    subst (λ (k : EdgeId). HoldsByPlan plan edge k) (sym beside) holds place.wire here.row here.is (sym (joins_turned here.row.path edge.me.0 place.peer.0) ∙ here.joined)

pub hearing_rises : HearingRises
hearing_rises plan checked edges peer message least work there has bits holds by_plan level_is =
    puts_above plan checked edges work.edge.me least (put_most plan work.edge.me message) work.effects (mends plan taken_all (acts_on plan taken_all peer message work)).effects
    (heard_few plan peer message names.saying work there names.says)
    (subst (λ (n : ℕ). PutsMore plan work.edge.me (is_above plan edges work.edge.me.0 n) work.effects (mends plan taken_all (acts_on plan taken_all peer message work)).effects) names.is
    (subst (λ (k : EdgeId). PutsMore plan work.edge.me (is_above plan edges work.edge.me.0 (level edges names.place.wire.0 names.here.row k.0 work.edge.me.0 names.saying)) work.effects
    (mends plan taken_all (acts_on plan taken_all k message work)).effects) names.peer_is
    (by_kind plan checked edges work mended bits names.place names.here (held_at plan work.edge peer names.place names.here holds names.peer_is) message names.saying names.says
    (ap (λ (k : EdgeId). option_and_then (end_named plan work.edge.me k) (pw_id_of message)) names.peer_is ∙ names.names)
    (subst (λ (k : EdgeId). IsByPlan plan work.edge k message) (sym names.peer_is) by_plan))))
  where
    mended : IsMendedAt plan work.edge.me.0 work.edge
    mended = record { me = refl; ends = has.ends; statuses = has.statuses; chosen = has.chosen }

    names : NamesEnd plan edges peer work.edge.me message least
    names = names_end plan checked edges peer work.edge.me message least level_is

-- ---- weights

-- each level is below the end of levels
label_below : (stage n c : ℕ) → stage ≤ 16 → n ≤ 4 → c ≤ 2 → stage + (3 * n + c) < 112
label_below stage n c one other small = omega (arith, one, other, small)

label_stage_low : (hangs : Bool) → label_stage hangs ≤ 16
label_stage_low true = omega arith
label_stage_low false = omega arith

withdraws_below : (stage n : ℕ) → stage ≤ 16 → n ≤ 4 → stage + 3 * n < 112
withdraws_below stage n one other = omega (arith, one, other)

states_below : (spoke : Bool) (n : ℕ) → n ≤ 4 → status_stage spoke + n < 112
states_below true n few = omega (arith, few)
states_below false n few = omega (arith, few)

clears_below : (mesh onward : Bool) (n : ℕ) → n ≤ 4 → address_stage mesh onward + n < 112
clears_below true onward n few = omega (arith, few)
clears_below false true n few = omega (arith, few)
clears_below false false n few = omega (arith, few)

level_below : (edges : ℕ → EdgeState) (wire : ℕ) (row : WirePlan) (from to : ℕ) (saying : Saying) → edges_spoken row from to ≤ 4 → edges_spoken row to from ≤ 4 → level edges wire row from to saying < levels_end
level_below edges wire row from to Binds on back = label_below (label_stage (way_hangs edges wire row from to)) (edges_spoken row from to) 2 (label_stage_low (way_hangs edges wire row from to)) on (omega arith)
level_below edges wire row from to Withdraws on back = withdraws_below (label_stage (way_hangs edges wire row from to)) (edges_spoken row from to) (label_stage_low (way_hangs edges wire row from to)) on
level_below edges wire row from to Releases on back = label_below (label_stage (way_hangs edges wire row to from)) (edges_spoken row to from) 1 (label_stage_low (way_hangs edges wire row to from)) back (omega arith)
level_below edges wire row from to States on back = states_below (not (is_mesh_class row.class) && follows row.path from to) (edges_spoken row from to) on
level_below edges wire row from to Clears on back = clears_below (is_mesh_class row.class) (follows row.path from to) (edges_spoken row from to) on

-- all levels are below the end of levels
pub names_low : (plan : Plan) (checked : IsChecked plan) (edges : ℕ → EdgeState) (peer me : EdgeId) (message : Message) (least : ℕ) → NamesEnd plan edges peer me message least → least < levels_end
names_low plan checked edges peer me message least names =
    subst (λ (n : ℕ). n < levels_end) names.is
    (level_below edges names.place.wire.0 names.here.row peer.0 me.0 names.saying
    (spoken_few plan checked names.place.wire names.here.row peer.0 me.0 names.here.is (sym (joins_turned names.here.row.path me.0 peer.0) ∙ joined))
    (spoken_few plan checked names.place.wire names.here.row me.0 peer.0 names.here.is joined))
  where
    joined : joins me.0 peer.0 names.here.row.path ≡ true
    joined = ap (λ (k : EdgeId). joins me.0 k.0 names.here.row.path) (sym names.peer_is) ∙ names.here.joined

fewer_left : (least level : ℕ) → least < level → least < levels_end → left_above level < left_above least
fewer_left least level above low = omega (arith, above, low)

all_fewer : (least : ℕ) (levels : List ℕ) → least < levels_end → AllByRecursion (λ level. least < level) levels → AllByRecursion (λ n. n < left_above least) (map left_above levels)
all_fewer least [] low all = tt
all_fewer least (level ∷ levels) low all = (fewer_left least level all.0 low, all_fewer least levels low all.1)

mapped_length : (levels : List ℕ) → length (map left_above levels) ≡ length levels
mapped_length [] = refl
mapped_length (level ∷ levels) = ap suc (mapped_length levels)

enough_left : (a b c d : ℕ) → a ≡ b → b ≤ c → c ≤ d → a ≤ d
enough_left a b c d is one other = omega (arith, is, one, other)

-- what is put has fewer levels above it, and is no more than so many messages
pub hearing_fewer : (plan : Plan) → IsChecked plan → (edges : ℕ → EdgeState) (me peer : EdgeId) (message : Message) (least : ℕ) (old new : List Effect) → level_of plan edges peer.0 me.0 message ≡ Some least
    → (puts : PutsAbove plan edges me.0 least (put_most plan me message) old new)
    → AllByRecursion (λ n. n < left_above least) (map left_above puts.levels) × (length (map left_above puts.levels) ≤ put_most plan me message)
hearing_fewer plan checked edges me peer message least old new level_is puts = (
  all_fewer least puts.levels low puts.above,
  enough_left (length (map left_above puts.levels)) (length puts.levels) (put_most plan me message) (put_most plan me message) (mapped_length puts.levels) puts.few (itself (put_most plan me message)),
)
  where
    names : NamesEnd plan edges peer me message least
    names = names_end plan checked edges peer me message least level_is

    low : least < levels_end
    low = names_low plan checked edges peer me message least names

    itself : (n : ℕ) → n ≤ n
    itself n = omega arith

pub hearing_lightens : HearingLightens
hearing_lightens plan checked edges me peer message least few old new level_is puts enough =
    let fewer = hearing_fewer plan checked edges me peer message least old new level_is puts in
    lighter few (left_above least) (map left_above puts.levels)
    (both (length (map left_above puts.levels)) (put_most plan me message) few fewer.1 enough) fewer.0
  where
    both : (a b c : ℕ) → a ≤ b → b ≤ c → a ≤ c
    both a b c one other = omega (arith, one, other)
