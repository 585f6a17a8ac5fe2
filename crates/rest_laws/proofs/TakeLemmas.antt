-- An edge that had mended puts messages of higher levels alone on a Label Mapping and on a Label Withdraw.
use Rattle.std.proofs.Common.{◌≡◌, ◌≤◌, ◌<◌, ◌+◌, ◌*◌, ◌∙◌, ◌&&◌, ◌||◌, ℕ, Bool, true, false, cond, is_some, not, nat_eq, List, [], ◌∷◌, Option, Some, None, option_and_then, refl, sym, ap, subst, arith, inl, inr}
use Rattle.std.proofs.lemmas.Bool.{cases_Bool, eqb-true}
use Rattle.net_base.specs.declared.plan.Plan.{Plan}
use Rattle.net_base.specs.declared.plan.offer.Offer.{Offer}
use Rattle.net_base.specs.declared.plan.places.EdgeId.{EdgeId}
use Rattle.net_base.specs.declared.plan.wire_plan.WirePlan.{WirePlan}
use Rattle.net_base.specs.plan.Accepted.{IsChecked, IsWireOf}
use Rattle.net_base.specs.plan.Paths.{expected, first_edge, follows, has_repeat, is_first, is_last, joins, last_edge, offer_of}
use Rattle.net_values.proofs.BoolLemmas.{clash, first_holds, second_holds}
use Rattle.net_values.proofs.RowLemmas.{row_holds}
use Rattle.network_model.proofs.GoalLemmas.{ends_last}
use Rattle.network_model.proofs.WayLemmas.{behind_first, joins_is, later_stands, one_way, split}
use Rattle.pw_tlvs.specs.declared.point.Point.{Point}
use Rattle.pw_tlvs.specs.declared.pw_fec.PwFec.{PwFec}
use Rattle.pw_tlvs.specs.declared.pw_status.PwStatus.{PwStatus}
use Rattle.pw_status.specs.Status.{method_by}
use Rattle.pw_messages.specs.Content.{binding_in, release}
use Rattle.pw_signalling.specs.declared.binding.Binding.{Binding}
use Rattle.pw_signalling.specs.End.{EndState}
use Rattle.pw_signalling.specs.Rows.{bound, group_unbound, names, unbound, unless_named}
use Rattle.edge_model.specs.declared.effect.Effect.{Effect}
use Rattle.edge_model.specs.declared.end_place.EndPlace.{EndPlace}
use Rattle.edge_model.specs.EndPlaces.{end_named, is_terminal}
use Rattle.edge_model.specs.Mend.{mends, status_held, tells_status}
use Rattle.edge_model.specs.Session.{says}
use Rattle.edge_model.specs.Signal.{end_of_fec, hears_mapping, hears_withdraw, maps_to, takes_content, with_end_changed, with_named}
use Rattle.edge_model.specs.State.{EdgeState, end_at, with_end}
use Rattle.edge_model.specs.Work.{Work, changes}
use Rattle.edge_model.proofs.MendedLemmas.{end_put}
use Rattle.edge_model.proofs.WalkLemmas.{named_alone}
use Rattle.network_model.specs.Absorb.{taken_all}
use Rattle.flight_laws.specs.Rules.{FarTells}
use Rattle.flight_laws.proofs.MendedRunLemmas.{IsMendedAt}
use Rattle.flight_laws.proofs.PlaceLemmas.{IsEndOf, named_is}
use Rattle.spelling_laws.proofs.PutLemmas.{changed_effects}
use Rattle.rest_laws.specs.Levels.{Saying, Binds, Withdraws, Releases, bits_of, hangs, is_above, label_stage, level, edges_spoken, way_hangs}
use Rattle.rest_laws.proofs.DueLemmas.{PutsMore}
use Rattle.rest_laws.proofs.BindLemmas.{HoldsOther, other_due, tells_by}
use Rattle.rest_laws.proofs.HearLemmas.{above_is, clears_above, spoken_few, states_above}
use Rattle.flight_laws.proofs.WorksLemmas.{changed_edge}
use Rattle.rest_laws.proofs.PutLemmas.{HasPut, HasSaid, end_else, mending_puts_due, puts_then, says_puts, stands_at}

-- ---- what a way hangs on

-- the first edge of a path speaks onward
pub first_goes : (path : List EdgeId) (me peer : ℕ) → has_repeat path ≡ false → is_first me path ≡ true → joins me peer path ≡ true → follows path me peer ≡ true
first_goes [] me peer once is joined = clash is
first_goes (first ∷ rest) me peer once is joined = by (follows (first ∷ rest) me peer) refl where
  by : (b : Bool) → follows (first ∷ rest) me peer ≡ b → follows (first ∷ rest) me peer ≡ true
  by true on = on
  by false off =
      let back : follows (first ∷ rest) peer me ≡ true = ap (λ (t : Bool). t || follows (first ∷ rest) peer me) (sym off) ∙ (sym (joins_is (first ∷ rest) me peer) ∙ joined) in
      clash (sym (behind_first first rest me once (later_stands first rest peer me back)) ∙ is)

bits_first : (edges : ℕ → EdgeState) (wire : ℕ) (path : List EdgeId) (me : ℕ) → is_first me path ≡ true → bits_of edges wire (first_edge path) ≡ (edges me).bits wire
bits_first edges wire [] me is = clash is
bits_first edges wire (first ∷ rest) me is = ap (λ (n : ℕ). (edges n).bits wire) (sym (eqb-true me first.0 is))

bits_last : (edges : ℕ → EdgeState) (wire : ℕ) (path : List EdgeId) (me : ℕ) → is_last me path ≡ true → bits_of edges wire (last_edge path) ≡ (edges me).bits wire
bits_last edges wire [] me is = clash is
bits_last edges wire (last ∷ []) me is = ap (λ (n : ℕ). (edges n).bits wire) (sym (eqb-true me last.0 is))
bits_last edges wire (first ∷ next ∷ rest) me is = bits_last edges wire (next ∷ rest) me is

-- what is held carries a status where the far offer has them
held_tells : (plan : Plan) (row : WirePlan) (from to : ℕ) (r : Option Binding) → FarTells plan row from to r → (expected plan row from to).offer.status ≡ true
    → tells_status (method_by true (status_held r)) ≡ true
held_tells plan row from to None tells has = refl
held_tells plan row from to (Some binding) tells has = by binding.told.status (tells.carries ∙ has) where
  by : (status : Option PwStatus) → is_some status ≡ true → tells_status (method_by true (Some status)) ≡ true
  by None carries = clash carries
  by (Some status) carries = refl

or_so : (x : Bool) → x || true ≡ true
or_so true = refl
or_so false = refl

by_method : (own far zero : Bool) (r : Option Binding) → (far ≡ true → tells_status (method_by true (status_held r)) ≡ true) → own && (not far && not zero) ≡ false
    → tells_status (method_by own (status_held r)) || zero ≡ own || zero
by_method false far zero r carries free = refl
by_method true true zero r carries free = ap (λ (t : Bool). t || zero) (carries refl)
by_method true false true r carries free = or_so (tells_status (method_by true (status_held r)))
by_method true false false r carries free = absurd (cc (free))

-- the last edge speaks homeward
pub last_goes : (path : List EdgeId) (me peer : ℕ) → has_repeat path ≡ false → is_last me path ≡ true → follows path me peer ≡ false
last_goes path me peer once is = ends_last path me peer once is

module _ (plan : Plan) (edges : ℕ → EdgeState) (me peer : EdgeId) (wire : ℕ) (row : WirePlan) (once : has_repeat row.path ≡ false) (joined : joins me.0 peer.0 row.path ≡ true) where
  choose : (b : Bool) → Offer
  choose b = cond b row.near row.far

  free_first : is_first me.0 row.path ≡ true → way_hangs edges wire row me.0 peer.0 ≡ false
      → (offer_of row me.0).status && (not (expected plan row peer.0 me.0).offer.status && not (nat_eq ((edges me.0).bits wire) 0)) ≡ false
  free_first first free =
      let on : follows row.path me.0 peer.0 ≡ true = first_goes row.path me.0 peer.0 once first joined in
      let off : follows row.path peer.0 me.0 ≡ false = one_way row.path me.0 peer.0 once on in
      ap (λ (t : Bool). (cond t row.near row.far).status && (not (expected plan row peer.0 me.0).offer.status && not (nat_eq ((edges me.0).bits wire) 0))) first
      ∙ (ap (λ (t : Bool). row.near.status && (not (cond t row.near row.far).status && not (nat_eq ((edges me.0).bits wire) 0))) off
      ∙ (ap (λ (n : ℕ). row.near.status && (not row.far.status && not (nat_eq n 0))) (sym (bits_first edges wire row.path me.0 first))
      ∙ (ap (λ (t : Bool). cond t (hangs row.near row.far (bits_of edges wire (first_edge row.path))) (hangs row.far row.near (bits_of edges wire (last_edge row.path)))) (sym on) ∙ free)))

  free_last : is_first me.0 row.path ≡ false → is_last me.0 row.path ≡ true → way_hangs edges wire row me.0 peer.0 ≡ false
      → (offer_of row me.0).status && (not (expected plan row peer.0 me.0).offer.status && not (nat_eq ((edges me.0).bits wire) 0)) ≡ false
  free_last inner last free =
      let off : follows row.path me.0 peer.0 ≡ false = last_goes row.path me.0 peer.0 once last in
      let on : follows row.path peer.0 me.0 ≡ true = ap (λ (t : Bool). t || follows row.path peer.0 me.0) (sym off) ∙ (sym (joins_is row.path me.0 peer.0) ∙ joined) in
      ap (λ (t : Bool). (cond t row.near row.far).status && (not (expected plan row peer.0 me.0).offer.status && not (nat_eq ((edges me.0).bits wire) 0))) inner
      ∙ (ap (λ (t : Bool). row.far.status && (not (cond t row.near row.far).status && not (nat_eq ((edges me.0).bits wire) 0))) on
      ∙ (ap (λ (n : ℕ). row.far.status && (not row.near.status && not (nat_eq n 0))) (sym (bits_last edges wire row.path me.0 last))
      ∙ (ap (λ (t : Bool). cond t (hangs row.near row.far (bits_of edges wire (first_edge row.path))) (hangs row.far row.near (bits_of edges wire (last_edge row.path)))) (sym off) ∙ free)))

  -- a terminal end of a way that hangs on nothing tells or does not, whatever it holds
  pub free_tells : is_terminal row me ≡ true → way_hangs edges wire row me.0 peer.0 ≡ false → (r : Option Binding) → FarTells plan row peer.0 me.0 r
      → tells_by row me ((edges me.0).bits wire) r ≡ (offer_of row me.0).status || nat_eq ((edges me.0).bits wire) 0
  free_tells terminal free r tells = by_method (offer_of row me.0).status (expected plan row peer.0 me.0).offer.status (nat_eq ((edges me.0).bits wire) 0) r
      (held_tells plan row peer.0 me.0 r tells)
      (split {P = (offer_of row me.0).status && (not (expected plan row peer.0 me.0).offer.status && not (nat_eq ((edges me.0).bits wire) 0)) ≡ false} (is_first me.0 row.path)
      (λ first. free_first first free)
      (λ inner. free_last inner (ap (λ (t : Bool). t || is_last me.0 row.path) (sym inner) ∙ terminal) free))

-- ---- an end holds another binding

local_put : (place : EndPlace) (end : EndState) (edge : EdgeState) → end.local ≡ (end_at edge place).local → (wire k : ℕ) → ((with_end place end edge).ends wire k).local
    ≡ (edge.ends wire k).local
local_put place end edge same wire k = elim (cases_Bool (stands_at place wire k)) [
  | inl here ↦
      both (eqb-true wire place.wire.0 (first_holds (nat_eq wire place.wire.0) (nat_eq k place.peer.0) here))
      (eqb-true k place.peer.0 (second_holds (nat_eq wire place.wire.0) (nat_eq k place.peer.0) here))
      (ap (λ (e : EndState). e.local) (end_put place end edge) ∙ same)
  | inr apart ↦ ap (λ (e : EndState). e.local) (end_else place end edge wire k apart)
]
  where
    both : wire ≡ place.wire.0 → k ≡ place.peer.0 → (end_at (with_end place end edge) place).local ≡ (end_at edge place).local → ((with_end place end edge).ends wire k).local
        ≡ (edge.ends wire k).local
    both w p e =
        ap (λ (n : ℕ). ((with_end place end edge).ends n k).local) w ∙ (ap (λ (n : ℕ). ((with_end place end edge).ends place.wire.0 n).local) p
        ∙ (e ∙ (ap (λ (n : ℕ). (edge.ends place.wire.0 n).local) (sym p) ∙ ap (λ (n : ℕ). (edge.ends n k).local) (sym w))))

pub holds_other : (q : EndPlace) (end : EndState) (edge : EdgeState) → end.local ≡ (end_at edge q).local → HoldsOther q edge (with_end q end edge)
unfolding with_end
holds_other q end edge same = record {
  me = refl;
  wires = refl;
  bits = refl;
  ups = λ k. refl;
  labels = refl;
  locals = λ wire k. local_put q end edge same wire k;
  remotes = λ wire k apart. ap (λ (e : EndState). e.remote) (end_else q end edge wire k apart);
}

-- and the edge has said something since
said_other : (q : EndPlace) (old begun new : EdgeState) → HoldsOther q old begun → HasPut begun new → HoldsOther q old new
said_other q old begun new other put = record {
  me = put.me ∙ other.me;
  wires = put.wires ∙ other.wires;
  bits = put.bits ∙ other.bits;
  ups = λ k. put.ups k ∙ other.ups k;
  labels = put.labels ∙ other.labels;
  locals = λ wire k. ap (λ (all : ℕ → ℕ → EndState). (all wire k).local) put.ends ∙ other.locals wire k;
  remotes = λ wire k apart. ap (λ (all : ℕ → ℕ → EndState). (all wire k).remote) put.ends ∙ other.remotes wire k apart;
}

heard_small : (stage n c : ℕ) → stage ≤ 16 → n ≤ 4 → c ≤ 2 → stage + (3 * n + c) ≤ 30
heard_small stage n c h k small = omega (arith, h, k, small)

no_more_than : (stage n : ℕ) → stage + (n + 0) ≡ stage + n
no_more_than stage n = omega arith

one_more_than : (stage n : ℕ) → stage + (n + 0) < stage + (n + 1)
one_more_than stage n = omega arith

stage_small : (hangs : Bool) → label_stage hangs ≤ 16
stage_small false = omega arith
stage_small true = omega arith

-- what an end is told changes nothing of which PW ID it has
pub pw_named : (plan : Plan) (me peer : EdgeId) (q : EndPlace) (o : Option ℕ) → option_and_then (end_named plan me peer) o ≡ Some q → o ≡ Some q.pw_id
pw_named plan me peer q None e = absurd (cc (e))
pw_named plan me peer q (Some n) e = ap (λ (m : ℕ). Some m) (sym (named_is plan me peer n q e).pw_id_is)

module _ (plan : Plan) (checked : IsChecked plan) (edges : ℕ → EdgeState) (me : EdgeId) (q : EndPlace) (q_is : IsEndOf plan me q) where
  low : (c : ℕ) → c ≤ 2 → label_stage (way_hangs edges q.wire.0 q_is.row q.peer.0 me.0) + (3 * edges_spoken q_is.row q.peer.0 me.0 + c) ≤ 30
  low c small = heard_small (label_stage (way_hangs edges q.wire.0 q_is.row q.peer.0 me.0)) (edges_spoken q_is.row q.peer.0 me.0) c (stage_small (way_hangs edges q.wire.0 q_is.row q.peer.0 me.0))
      (spoken_few plan checked q.wire q_is.row q.peer.0 me.0 q_is.is (sym (Rattle.net_base.proofs.PathLemmas.joins_turned q_is.row.path me.0 q.peer.0) ∙ q_is.joined)) small

  -- an edge that holds another binding at one end mends
  rises : (c : ℕ) (small : c ≤ 2) (old : EdgeState) (work : Work) → IsMendedAt plan me.0 old → HoldsOther q old work.edge
      → (q.terminal ≡ true → way_hangs edges q.wire.0 q_is.row me.0 q.peer.0 ≡ false
      → tells_by q_is.row old.me (old.bits q.wire.0) (end_at work.edge q).remote ≡ tells_by q_is.row old.me (old.bits q.wire.0) (end_at old q).remote)
      → PutsMore plan me (is_above plan edges me.0 (label_stage (way_hangs edges q.wire.0 q_is.row q.peer.0 me.0) + (3 * edges_spoken q_is.row q.peer.0 me.0 + c))) work.effects (mends plan taken_all work).effects
  rises c small old work mended other steady =
      let least : ℕ = label_stage (way_hangs edges q.wire.0 q_is.row q.peer.0 me.0) + (3 * edges_spoken q_is.row q.peer.0 me.0 + c) in
      mending_puts_due plan me (is_above plan edges me.0 least) work (other.me ∙ mended.me) (other_due plan checked edges me q q_is c small old work.edge mended other steady)
      (states_above plan edges me least (low c small)) (clears_above plan edges me least (low c small))

  -- a Label Mapping is heard, whose content the end takes
  pub mapping_rises : (fec : PwFec) (label : ℕ) (status : Option PwStatus) (points : List Point) (work : Work) → IsMendedAt plan me.0 work.edge → end_of_fec plan work.edge q.peer fec ≡ Some q
      → takes_content plan work.edge.me q (binding_in fec label status points).told ≡ true
      → (q.terminal ≡ true → way_hangs edges q.wire.0 q_is.row me.0 q.peer.0 ≡ false
      → tells_by q_is.row work.edge.me (work.edge.bits q.wire.0) (Some (binding_in fec label status points)) ≡ tells_by q_is.row work.edge.me (work.edge.bits q.wire.0) (end_at work.edge q).remote)
      → PutsMore plan me (is_above plan edges me.0 (level edges q.wire.0 q_is.row q.peer.0 me.0 Binds)) work.effects (mends plan taken_all (hears_mapping plan taken_all q.peer fec label status points work)).effects
  mapping_rises fec label status points work mended named takes steady =
      subst (λ (w : Work). PutsMore plan me may work.effects (mends plan taken_all w).effects) (sym heard_is)
      (subst (λ (es : List Effect). PutsMore plan me may es (mends plan taken_all bound_work).effects) (changed_effects change work)
      (rises 2 (omega arith) work.edge bound_work mended other (λ terminal free. ap (tells_by q_is.row work.edge.me (work.edge.bits q.wire.0)) remote_is ∙ steady terminal free)))
    where
      binding : Binding
      binding = binding_in fec label status points

      may : EndPlace → Saying → Bool
      may = is_above plan edges me.0 (level edges q.wire.0 q_is.row q.peer.0 me.0 Binds)

      change : EdgeState → EdgeState
      change = with_end_changed (bound binding) (Some q)

      bound_work : Work
      bound_work = changes change work

      heard_is : hears_mapping plan taken_all q.peer fec label status points work ≡ bound_work
      heard_is = ap (λ (o : Option EndPlace). maps_to plan taken_all q.peer fec binding o work) named ∙ taken (takes_content plan work.edge.me q binding.told) takes where
        taken : (b : Bool) → b ≡ true → cond b (changes (with_end_changed (bound binding) (Some q)) work)
            (Rattle.edge_model.specs.Signal.releases_label taken_all q.peer fec (Some binding.label) (changes (with_end_changed (unbound None) (Some q)) work)) ≡ changes (with_end_changed (bound binding) (Some q)) work
        taken b e = rw e refl

      other : HoldsOther q work.edge bound_work.edge
      other = subst (HoldsOther q work.edge) (sym (changed_edge change work)) (holds_other q (bound binding (end_at work.edge q)) work.edge refl)

      remote_is : (end_at bound_work.edge q).remote ≡ Some binding
      remote_is = ap (λ (e : EdgeState). (end_at e q).remote) (changed_edge change work) ∙ ap (λ (e : EndState). e.remote) (end_put q (bound binding (end_at work.edge q)) work.edge)

  -- a Label Withdraw is heard: it is answered, and the edge mends
  pub withdraw_rises : (fec : PwFec) (label : Option ℕ) (work : Work) → IsMendedAt plan me.0 work.edge → end_of_fec plan work.edge q.peer fec ≡ Some q
      → (q.terminal ≡ true → way_hangs edges q.wire.0 q_is.row me.0 q.peer.0 ≡ false
      → tells_by q_is.row work.edge.me (work.edge.bits q.wire.0) (unbound label (end_at work.edge q)).remote ≡ tells_by q_is.row work.edge.me (work.edge.bits q.wire.0) (end_at work.edge q).remote)
      → PutsMore plan me (is_above plan edges me.0 (level edges q.wire.0 q_is.row q.peer.0 me.0 Withdraws)) work.effects (mends plan taken_all (hears_withdraw plan taken_all q.peer fec label work)).effects
  withdraw_rises fec label work mended named steady =
      subst (λ (n : ℕ). PutsMore plan me (is_above plan edges me.0 n) work.effects (mends plan taken_all next).effects) (no_more_than (label_stage (way_hangs edges q.wire.0 q_is.row q.peer.0 me.0)) (3 * edges_spoken q_is.row q.peer.0 me.0))
      (subst (λ (es : List Effect). PutsMore plan me may es (mends plan taken_all next).effects) begun_effects
      (puts_then plan me may begun.effects next.effects (mends plan taken_all next).effects said.puts
      (rises 0 (omega arith) work.edge next mended (said_other q work.edge begun.edge next.edge begun_other said.put)
      (λ terminal free. ap (tells_by q_is.row work.edge.me (work.edge.bits q.wire.0)) remote_is ∙ steady terminal free))))
    where
      may : EndPlace → Saying → Bool
      may = is_above plan edges me.0 (label_stage (way_hangs edges q.wire.0 q_is.row q.peer.0 me.0) + (3 * edges_spoken q_is.row q.peer.0 me.0 + 0))

      end : EndState
      end = unbound label (end_at work.edge q)

      change : EdgeState → EdgeState
      change = with_named plan q.peer fec (unbound label) (group_unbound fec.group) fec.pw_id

      begun : Work
      begun = changes change work

      next : Work
      next = (says taken_all q.peer (release fec label) begun).work

      begun_is : begun.edge ≡ with_end q end work.edge
      begun_is = changed_edge change work ∙ named_alone plan q.peer fec q (unbound label) (group_unbound fec.group) work.edge named

      begun_effects : begun.effects ≡ work.effects
      begun_effects = changed_effects change work

      begun_other : HoldsOther q work.edge begun.edge
      begun_other = subst (HoldsOther q work.edge) (sym begun_is) (holds_other q end work.edge refl)

      names_it : fec.pw_id ≡ Some q.pw_id
      names_it = pw_named plan work.edge.me q.peer q fec.pw_id named

      said : HasSaid plan me may begun next
      said = says_puts plan me may q (release fec label) Releases begun q_is (λ id. refl) (λ id. names_it)
          (above_is plan edges me (label_stage (way_hangs edges q.wire.0 q_is.row q.peer.0 me.0) + (3 * edges_spoken q_is.row q.peer.0 me.0 + 0)) q q_is.row Releases q_is.is
          (one_more_than (label_stage (way_hangs edges q.wire.0 q_is.row q.peer.0 me.0)) (3 * edges_spoken q_is.row q.peer.0 me.0)))

      remote_is : (end_at next.edge q).remote ≡ end.remote
      remote_is = ap (λ (all : ℕ → ℕ → EndState). (all q.wire.0 q.peer.0).remote) said.put.ends
          ∙ (ap (λ (e : EdgeState). (end_at e q).remote) begun_is ∙ ap (λ (e : EndState). e.remote) (end_put q end work.edge))

-- both bindings are as the told rule has them, so what a terminal end tells does not go by which it holds
pub steady_by_rule : (plan : Plan) (checked : IsChecked plan) (edges : ℕ → EdgeState) (me : EdgeId) (q : EndPlace) (q_is : IsEndOf plan me q) (old : EdgeState) (one other : Option Binding)
    → old.me ≡ me → (edges me.0).bits ≡ old.bits → has_repeat q_is.row.path ≡ false → FarTells plan q_is.row q.peer.0 me.0 one → FarTells plan q_is.row q.peer.0 me.0 other → q.terminal ≡ true
    → way_hangs edges q.wire.0 q_is.row me.0 q.peer.0 ≡ false
    → tells_by q_is.row old.me (old.bits q.wire.0) one ≡ tells_by q_is.row old.me (old.bits q.wire.0) other
steady_by_rule plan checked edges me q q_is old one other at bits once first next terminal free =
    let there : is_terminal q_is.row me ≡ true = sym q_is.terminal ∙ terminal in
    let moved : (r : Option Binding) → tells_by q_is.row old.me (old.bits q.wire.0) r ≡ tells_by q_is.row me ((edges me.0).bits q.wire.0) r =
    λ r. ap (λ (k : EdgeId). tells_by q_is.row k (old.bits q.wire.0) r) at ∙ ap (λ (b : ℕ → ℕ). tells_by q_is.row me (b q.wire.0) r) (sym bits) in
    let same : (r : Option Binding) → FarTells plan q_is.row q.peer.0 me.0 r → tells_by q_is.row me ((edges me.0).bits q.wire.0) r
    ≡ (offer_of q_is.row me.0).status || nat_eq ((edges me.0).bits q.wire.0) 0 =
    λ r tells. free_tells plan edges me q.peer q.wire.0 q_is.row once q_is.joined there free r tells in
    moved one ∙ (same one first ∙ (sym (same other next) ∙ sym (moved other)))

-- what is left of a binding that the told rule has is so
unless_tells : (plan : Plan) (row : WirePlan) (from to : ℕ) (label : Option ℕ) (r : Option Binding) → FarTells plan row from to r → FarTells plan row from to (unless_named label r)
unless_tells plan row from to label None tells = tt
unless_tells plan row from to label (Some binding) tells = by (names label binding.label) where
  by : (b : Bool) → FarTells plan row from to (cond b None (Some binding))
  by true = tt
  by false = tells

module _ (plan : Plan) (checked : IsChecked plan) (edges : ℕ → EdgeState) (me : EdgeId) (q : EndPlace) (q_is : IsEndOf plan me q) (work : Work) (mended : IsMendedAt plan me.0 work.edge) (bits : (edges me.0).bits
    ≡ work.edge.bits) (held : FarTells plan q_is.row q.peer.0 me.0 (end_at work.edge q).remote) where
  once : has_repeat q_is.row.path ≡ false
  once = (row_holds (IsWireOf plan) plan.wires q.wire.0 q_is.row q_is.is checked.wires).once

  -- by the told rule, a Label Mapping
  pub mapping_by_rule : (fec : PwFec) (label : ℕ) (status : Option PwStatus) (points : List Point) → end_of_fec plan work.edge q.peer fec ≡ Some q
      → takes_content plan work.edge.me q (binding_in fec label status points).told ≡ true → FarTells plan q_is.row q.peer.0 me.0 (Some (binding_in fec label status points))
      → PutsMore plan me (is_above plan edges me.0 (level edges q.wire.0 q_is.row q.peer.0 me.0 Binds)) work.effects (mends plan taken_all (hears_mapping plan taken_all q.peer fec label status points work)).effects
  mapping_by_rule fec label status points named takes told =
      mapping_rises plan checked edges me q q_is fec label status points work mended named takes
      (λ terminal free. steady_by_rule plan checked edges me q q_is work.edge (Some (binding_in fec label status points)) (end_at work.edge q).remote mended.me bits once told held terminal free)

  -- and a Label Withdraw
  pub withdraw_by_rule : (fec : PwFec) (label : Option ℕ) → end_of_fec plan work.edge q.peer fec ≡ Some q
      → PutsMore plan me (is_above plan edges me.0 (level edges q.wire.0 q_is.row q.peer.0 me.0 Withdraws)) work.effects (mends plan taken_all (hears_withdraw plan taken_all q.peer fec label work)).effects
  withdraw_by_rule fec label named =
      withdraw_rises plan checked edges me q q_is fec label work mended named
      (λ terminal free. steady_by_rule plan checked edges me q q_is work.edge (unbound label (end_at work.edge q)).remote (end_at work.edge q).remote mended.me bits once
      (unless_tells plan q_is.row q.peer.0 me.0 label (end_at work.edge q).remote held) held terminal free)
