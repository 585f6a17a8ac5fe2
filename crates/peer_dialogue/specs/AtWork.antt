-- What an edge works with on one input, as contracts see it.
use Rattle.std.specs.Prelude.{◌≡◌, List}
use Rattle.net_base.specs.declared.outside.link_call.LinkCall.{LinkCall}
use Rattle.edge_model.specs.Work.{GoesOn}
use Rattle.peer_dialogue.specs.declared.at_work.AtWork.{AtWork}

module _ {L : Type 0} (link_calls : L → List LinkCall) where
  -- the work goes on: on the same link, whose calls before stay, and into the same effects, of an input that applies as before
  pub record WorkGoes (old new : AtWork L) : Type 0 where
    pub link : new.link.ghost_name ≡ old.link.ghost_name
    pub effects : new.effects.ghost_name ≡ old.effects.ghost_name
    pub idle : new.effects.now.idle ≡ old.effects.now.idle
    pub calls : GoesOn (link_calls old.link.now) (link_calls new.link.now)
