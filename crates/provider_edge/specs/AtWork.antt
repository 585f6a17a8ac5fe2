-- An edge at work on one input, as contracts see it: over a state of the edge it is the work of the model.
use Rattle.std.specs.Prelude.{◌≡◌, Bool, true, false, List, []}
use Rattle.net_base.specs.declared.outside.link_call.LinkCall.{LinkCall}
use Rattle.pw_messages.specs.LinkAnswers.{Agrees, Answers}
use Rattle.edge_model.specs.declared.input.Input.{Input}
use Rattle.edge_model.specs.Put.{Spoken}
use Rattle.edge_model.specs.Step.{edge_step}
use Rattle.edge_model.specs.Work.{GoesOn, Work, beginning}
use Rattle.peer_dialogue.specs.AtWork.{WorkGoes}
use Rattle.peer_dialogue.specs.Peering.{at_edge}
use Rattle.peer_dialogue.specs.declared.at_work.AtWork.{AtWork}
use Rattle.provider_edge.specs.Lists.{EdgeLists, Keeps, seen, worked}

-- the edge begins to work on an input: until it is done it counts as stopped, and nothing was given out yet
pub record IsBegun {L : Type 0} (edge : EdgeLists) (work : AtWork L) : Type 0 where
  pub working : edge.stopped ≡ true
  pub fresh : work.effects.now ≡ record { idle = false; list = [] }

module _ {L : Type 0} (link_calls : L → List LinkCall) where
  -- work of the edge on an input that applies
  abbrev pub at_work : EdgeLists → AtWork L → Work
  at_work edge work = at_edge (seen edge) (link_calls work.link.now) work.effects.now.list

  -- work of the edge, which tells whether the input applies
  abbrev pub worked_at : EdgeLists → AtWork L → Work
  worked_at edge work = worked edge (link_calls work.link.now) work.effects.now

  -- the edge works on an input that applies: it keeps what no input changes, and the work goes on
  pub record Works (old : EdgeLists) (begun : AtWork L) (new : EdgeLists) (done : AtWork L) : Type 0 where
    pub keeps : Keeps old new
    pub on : WorkGoes link_calls begun done

  -- the edge takes an input, which may not apply: it keeps what no input changes, and works on the same link and into the same
  -- effects
  pub record Takes (old : EdgeLists) (begun : AtWork L) (new : EdgeLists) (done : AtWork L) : Type 0 where
    pub keeps : Keeps old new
    pub link : done.link.ghost_name ≡ begun.link.ghost_name
    pub effects : done.effects.ghost_name ≡ begun.effects.ghost_name
    pub calls : GoesOn (link_calls begun.link.now) (link_calls done.link.now)

  -- ---- what the edge does, whatever the answers are that its link gave

  -- on an input: its step of the model
  abbrev pub TakesBy : EdgeLists → AtWork L → EdgeLists → AtWork L → Input → Type 0
  TakesBy old begun new done input = (told : Answers) → Agrees told (link_calls done.link.now)
      → worked_at new done ≡ edge_step old.plan told input (beginning (seen old) (link_calls begun.link.now))

  -- on an input that applies: this work
  abbrev pub WorksBy : EdgeLists → AtWork L → EdgeLists → AtWork L → (Answers → Work → Work) → Type 0
  WorksBy old begun new done step = (told : Answers) → Agrees told (link_calls done.link.now)
      → at_work new done ≡ step told (at_work old begun)

  -- as it tells its neighbours: this work, and whether the link did not take a message
  abbrev pub SaysBy : EdgeLists → AtWork L → EdgeLists → AtWork L → (Answers → Work → Spoken) → Bool → Type 0
  SaysBy old begun new done step failed = (told : Answers) → Agrees told (link_calls done.link.now)
      → record { work = at_work new done; failed = failed } ≡ step told (at_work old begun)
