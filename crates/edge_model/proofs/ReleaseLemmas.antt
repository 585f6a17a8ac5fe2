-- A release of another label changes nothing.
use Rattle.std.proofs.Common.{◌≡◌, ◌∙◌, ℕ, Bool, true, false, Option, Some, None, cond, option_and_then, nat_eq, refl, sym, ap, inl, inr}
use Rattle.std.proofs.lemmas.Bool.{cases_Bool, eqb-true}
use Rattle.net_base.specs.declared.plan.Plan.{Plan}
use Rattle.net_base.specs.declared.plan.places.EdgeId.{EdgeId}
use Rattle.pw_tlvs.specs.declared.pw_fec.PwFec.{PwFec}
use Rattle.ldp_grammar.specs.declared.message.Message.{Message}
use Rattle.ldp_grammar.specs.declared.message.Message.TheVariants.{LabelRelease}
use Rattle.pw_signalling.specs.End.{EndState}
use Rattle.pw_signalling.specs.Rows.{released}
use Rattle.pw_signalling.proofs.LawLemmas.{keeps_its_label}
use Rattle.session_core.specs.Table.{Received}
use Rattle.pw_messages.specs.LinkAnswers.{Answers}
use Rattle.edge_model.specs.declared.end_place.EndPlace.{EndPlace}
use Rattle.edge_model.specs.EndPlaces.{end_named}
use Rattle.edge_model.specs.Hear.{acts, acts_on, hears_one, was_up}
use Rattle.edge_model.specs.Released.{IsOfNoEnd, MindsOwnReleases}
use Rattle.edge_model.specs.Session.{happens_with_ends}
use Rattle.edge_model.specs.Signal.{end_of_fec, hears_release, with_released}
use Rattle.edge_model.specs.State.{EdgeState, end_at, has_end, with_end, with_kept}
use Rattle.edge_model.specs.Work.{Work, changes}
use Rattle.edge_model.specs.Labels.{keeps_one, left_label}
use Rattle.pw_signalling.specs.Laws.{own_label}

-- an end with the state that it has
pub same_end : (place : EndPlace) (end : EndState) (edge : EdgeState) → end ≡ end_at edge place → with_end place end edge ≡ edge
unfolding with_end with_kept
same_end place end edge same = λ i. record edge { ends = λ wire k. each wire k i } where
  inner : (wire k : ℕ) → wire ≡ place.wire.0 → cond (nat_eq k place.peer.0) end (edge.ends wire k) ≡ edge.ends wire k
  inner wire k w = elim (cases_Bool (nat_eq k place.peer.0)) [
    | inl here ↦ rw here (same ∙ (ap (λ (n : ℕ). edge.ends n place.peer.0) (sym w) ∙ ap (edge.ends wire) (sym (eqb-true k place.peer.0 here))))
    | inr away ↦ rw away refl
  ]

  each : (wire k : ℕ) → cond (nat_eq wire place.wire.0) (λ (j : ℕ). cond (nat_eq j place.peer.0) end (edge.ends place.wire.0 j)) (edge.ends wire) k ≡ edge.ends wire k
  each wire k = elim (cases_Bool (nat_eq wire place.wire.0)) [
    | inl here ↦
        (let w : wire ≡ place.wire.0 = eqb-true wire place.wire.0 here in
        rw here (ap (λ (n : ℕ). cond (nat_eq k place.peer.0) end (edge.ends n k)) (sym w) ∙ inner wire k w))
    | inr away ↦ rw away refl
  ]

pub left_none : (own : Option ℕ) → left_label own own ≡ None
left_none None = refl
left_none (Some label) = refl

other_label : (plan : Plan) (peer : EdgeId) (fec : PwFec) (label : ℕ) (work : Work) → IsOfNoEnd plan work.edge peer fec label → hears_release plan peer fec (Some label) work ≡ work
unfolding changes with_end with_kept
other_label plan peer fec label work none = ap (λ (e : EdgeState). record work { edge = e }) (by (end_of_fec plan work.edge peer fec) refl) where
  by : (place : Option EndPlace) → end_of_fec plan work.edge peer fec ≡ place → with_released (Some label) place work.edge ≡ work.edge
  by None is = refl
  by (Some place) is =
      let still : released (Some label) (end_at work.edge place) ≡ end_at work.edge place = keeps_its_label.release (end_at work.edge place) label (none place is) in
      ap (λ (e : EndState). with_kept (keeps_one (left_label (own_label (end_at work.edge place).local) (own_label e.local)) place.peer work.edge.kept) (with_end place e work.edge)) still
      ∙ (ap (λ (r : Option ℕ). with_kept (keeps_one r place.peer work.edge.kept) (with_end place (end_at work.edge place) work.edge)) (left_none (own_label (end_at work.edge place).local))
      ∙ ap (with_kept work.edge.kept) (same_end place (end_at work.edge place) work.edge refl))

no_end : (plan : Plan) (peer : EdgeId) (fec : PwFec) (label : Option ℕ) (work : Work) → fec.pw_id ≡ None → hears_release plan peer fec label work ≡ work
unfolding changes
no_end plan peer fec label work none =
    ap (λ (o : Option ℕ). record work { edge = with_released label (option_and_then (end_named plan work.edge.me peer) o) work.edge }) none

heard : (plan : Plan) (told : Answers) (peer : EdgeId) (id : ℕ) (fec : PwFec) (label : ℕ) (work : Work)
    → IsOfNoEnd plan (happens_with_ends told peer (Received (LabelRelease id fec (Some label))) work).edge peer fec label
    → hears_one plan told peer (LabelRelease id fec (Some label)) work ≡ happens_with_ends told peer (Received (LabelRelease id fec (Some label))) work
heard plan told peer id fec label work none = by (was_up (work.edge.peering peer.0)) (has_end happened.edge peer) refl where
  message : Message
  message = LabelRelease id fec (Some label)

  happened : Work
  happened = happens_with_ends told peer (Received message) work

  by : (up : Bool) (stands : Bool) → has_end happened.edge peer ≡ stands → acts plan told peer message up happened ≡ happened
  by false stands is = refl
  by true true is = ap (λ (b : Bool). cond b (acts_on plan told peer message happened) happened) is ∙ other_label plan peer fec label happened none
  by true false is = ap (λ (b : Bool). cond b (acts_on plan told peer message happened) happened) is

pub minds_own_releases : MindsOwnReleases
minds_own_releases = record {
  other_label = λ plan told peer id fec label work none. other_label plan peer fec label work none;
  no_end = λ plan told peer id fec label work none. no_end plan peer fec label work none;
  heard = heard;
}
