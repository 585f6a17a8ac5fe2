-- A Label Release of another label than the end's own changes nothing (RFC 5036 section 3.5.11).
use Rattle.std.specs.Prelude.{◌≡◌, ◌≢◌, ℕ, Option, Some, None}
use Rattle.net_base.specs.declared.plan.Plan.{Plan}
use Rattle.net_base.specs.declared.plan.places.EdgeId.{EdgeId}
use Rattle.pw_tlvs.specs.declared.pw_fec.PwFec.{PwFec}
use Rattle.ldp_grammar.specs.declared.message.Message.TheVariants.{LabelRelease}
use Rattle.pw_signalling.specs.Laws.{own_label}
use Rattle.session_core.specs.Table.{Received}
use Rattle.pw_messages.specs.LinkAnswers.{Answers}
use Rattle.edge_model.specs.declared.end_place.EndPlace.{EndPlace}
use Rattle.edge_model.specs.Hear.{acts_on, hears_one}
use Rattle.edge_model.specs.Session.{happens_with_ends}
use Rattle.edge_model.specs.Signal.{end_of_fec}
use Rattle.edge_model.specs.State.{EdgeState, end_at}
use Rattle.edge_model.specs.Work.{Work}

-- the end that the FEC names, where there is one, does not own the label
abbrev pub IsOfNoEnd : Plan → EdgeState → EdgeId → PwFec → ℕ → Type 0
IsOfNoEnd plan edge peer fec label = (place : EndPlace) → end_of_fec plan edge peer fec ≡ Some place → own_label (end_at edge place).local ≢ Some label

-- Whatever the link answers.
pub record MindsOwnReleases : Type 0 where
  -- the edge stays as it is, calls its link not, and gives out nothing
  pub other_label : (plan : Plan) (told : Answers) (peer : EdgeId) (id : ℕ) (fec : PwFec) (label : ℕ) (work : Work) → IsOfNoEnd plan work.edge peer fec label
      → acts_on plan told peer (LabelRelease id fec (Some label)) work ≡ work
  -- as it does where the FEC has no PW ID, and so names no end
  pub no_end : (plan : Plan) (told : Answers) (peer : EdgeId) (id : ℕ) (fec : PwFec) (label : Option ℕ) (work : Work) → fec.pw_id ≡ None
      → acts_on plan told peer (LabelRelease id fec label) work ≡ work
  -- so all that comes of such a message before the edge mends is what its session makes of any message
  pub heard : (plan : Plan) (told : Answers) (peer : EdgeId) (id : ℕ) (fec : PwFec) (label : ℕ) (work : Work)
      → IsOfNoEnd plan (happens_with_ends told peer (Received (LabelRelease id fec (Some label))) work).edge peer fec label
      → hears_one plan told peer (LabelRelease id fec (Some label)) work ≡ happens_with_ends told peer (Received (LabelRelease id fec (Some label))) work
