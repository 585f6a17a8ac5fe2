-- What a session that is up makes of a message, exit by exit.
use Rattle.std.proofs.Common.{◌≡◌, ◌∙◌, ◌⊎◌, ℕ, Bool, true, false, List, Option, cond, ap, sym, subst, inl, inr}
use Rattle.net_base.specs.declared.outside.link_call.LinkCall.{LinkCall}
use Rattle.net_base.specs.declared.plan.Plan.{Plan}
use Rattle.net_base.specs.declared.plan.places.EdgeId.{EdgeId}
use Rattle.ldp_grammar.specs.declared.message.Message.{Message}
use Rattle.ldp_grammar.specs.declared.message.Message.TheVariants.{LabelMapping, LabelRelease}
use Rattle.pw_signalling.specs.declared.binding.Binding.{Binding}
use Rattle.pw_tlvs.specs.declared.point.Point.{Point}
use Rattle.pw_tlvs.specs.declared.pw_fec.PwFec.{PwFec}
use Rattle.pw_tlvs.specs.declared.pw_status.PwStatus.{PwStatus}
use Rattle.pw_messages.specs.Content.{binding_in}
use Rattle.pw_messages.specs.LinkAnswers.{Answers}
use Rattle.edge_model.specs.declared.effect.Effect.{Effect}
use Rattle.edge_model.specs.Hear.{acts, acts_on, advice_of, advises}
use Rattle.edge_model.specs.Signal.{end_of_fec, maps_to, with_released}
use Rattle.edge_model.specs.State.{EdgeState, has_end}
use Rattle.edge_model.specs.Work.{Work}
use Rattle.peer_dialogue.specs.Peering.{at_edge}
use Rattle.provider_edge.proofs.RowLemmas.{mapping_heard, release_heard}

pub acts_not : (plan : Plan) (told : Answers) (peer : EdgeId) (message : Message) (edge : EdgeState) (calls : List LinkCall) (out : List Effect) → has_end edge peer ≡ false
    → at_edge edge calls out ≡ acts plan told peer message true (at_edge edge calls out)
unfolding at_edge
acts_not plan told peer message edge calls out gone = sym (ap (λ (b : Bool). cond b (acts_on plan told peer message (at_edge edge calls out)) (at_edge edge calls out)) gone)

pub acts_there : (plan : Plan) (told : Answers) (peer : EdgeId) (message : Message) (edge : EdgeState) (calls : List LinkCall) (out : List Effect) (work : Work) → has_end edge peer ≡ true
    → work ≡ acts_on plan told peer message (at_edge edge calls out) → work ≡ acts plan told peer message true (at_edge edge calls out)
unfolding at_edge
acts_there plan told peer message edge calls out work there is = is ∙ sym (ap (λ (b : Bool). cond b (acts_on plan told peer message (at_edge edge calls out)) (at_edge edge calls out)) there)

pub mapping_acts : (plan : Plan) (told : Answers) (peer : EdgeId) (message : Message) (id : ℕ) (fec : PwFec) (label : ℕ) (status : Option PwStatus) (points : List Point) (binding : Binding) (edge : EdgeState) (calls : List LinkCall) (out : List Effect) (work : Work)
    → message ≡ LabelMapping id fec label status points → binding ≡ binding_in fec label status points → work
    ≡ maps_to plan told peer fec binding (end_of_fec plan edge peer fec) (at_edge edge calls out)
    → work ≡ acts_on plan told peer message (at_edge edge calls out)
mapping_acts plan told peer message id fec label status points binding edge calls out work at made is =
    mapping_heard plan told peer fec label status points binding edge calls out work made is ∙ sym (ap (λ (m : Message). acts_on plan told peer m (at_edge edge calls out)) at)

pub release_acts : (plan : Plan) (told : Answers) (peer : EdgeId) (message : Message) (id : ℕ) (fec : PwFec) (label : Option ℕ) (edge now : EdgeState) (calls : List LinkCall) (out : List Effect)
    → message ≡ LabelRelease id fec label → now ≡ with_released label (end_of_fec plan edge peer fec) edge
    → at_edge now calls out ≡ acts_on plan told peer message (at_edge edge calls out)
release_acts plan told peer message id fec label edge now calls out at is =
    release_heard plan peer fec label edge now calls out is ∙ sym (ap (λ (m : Message). acts_on plan told peer m (at_edge edge calls out)) at)

pub split : {A B C : Type 0} → A ⊎ B → (A → C) → (B → C) → C
split (inl one) here there = here one
split (inr other) here there = there other

-- what is made of one message is made of the same
pub is_advised : (plan : Plan) (told : Answers) (peer : EdgeId) (work : Work) (message same : Message) → message ≡ same
    → advises told peer (advice_of same) work ≡ acts_on plan told peer same work → advises told peer (advice_of message) work ≡ acts_on plan told peer message work
is_advised plan told peer work message same at is = subst (λ (m : Message). advises told peer (advice_of m) work ≡ acts_on plan told peer m work) (sym at) is
