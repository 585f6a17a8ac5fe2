-- What came of octets, by what a call has answered: of those that were heard nothing is left but these.
use Rattle.std.specs.Prelude.{◌≡◌, ℕ, List, Result, Ok, Err}
use Rattle.net_base.specs.declared.outside.link_call.LinkCall.{LinkCall}
use Rattle.net_base.specs.declared.plan.Plan.{Plan}
use Rattle.net_base.specs.declared.plan.places.EdgeId.{EdgeId}
use Rattle.ldp_stream.specs.State.{StreamState}
use Rattle.pw_messages.specs.LinkAnswers.{Answers}
use Rattle.independent_model.specs.declared.indep_stop.IndepStop.{IndepStop}
use Rattle.independent_model.specs.declared.indep_stop.IndepStop.TheVariants as stop
use Rattle.independent_mode.specs.Receiver.{receiver_of}
use Rattle.independent_model.specs.Hear.{hears_at}
use Rattle.independent_model.specs.State.{IndepState, with_receiver}
use Rattle.independent_model.specs.Work.{IndepOutcome, Stops}

-- what is left to hear comes behind a call that was done; a stop of the link, or a refusal, is the whole
abbrev pub HearsTo : {T : Type 0} → Plan → Answers → ℕ → EdgeId → Result T IndepStop → StreamState → List ℕ → IndepState → List LinkCall → IndepOutcome → Type 0
HearsTo plan told me peer (Ok done) s more edge calls whole = whole ≡ hears_at plan told me peer (receiver_of s) more edge calls
HearsTo plan told me peer (Err stop.Link) s more edge calls whole = whole ≡ Stops stop.Link edge calls
HearsTo plan told me peer (Err (stop.Refused answer)) s more edge calls whole = whole ≡ Stops (stop.Refused answer) (with_receiver peer.0 (receiver_of s) edge) calls
HearsTo plan told me peer (Err stop.NoMemory) s more edge calls whole = Unit {0}
