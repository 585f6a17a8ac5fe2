-- An edge at work, from one call to the next.
use Rattle.std.proofs.Common.{List}
use Rattle.net_base.specs.declared.outside.link_call.LinkCall.{LinkCall}
use Rattle.peer_dialogue.proofs.AtWorkLemmas.{work_both}
use Rattle.peer_dialogue.specs.AtWork.{WorkGoes}
use Rattle.peer_dialogue.specs.declared.at_work.AtWork.{AtWork}
use Rattle.provider_edge.proofs.ListLemmas.{keeps_both}
use Rattle.provider_edge.specs.AtWork.{Takes, Works}
use Rattle.provider_edge.specs.Lists.{EdgeLists, Keeps}

module _ {L : Type 0} (link_calls : L → List LinkCall) where
  pub works_both : (x y z : EdgeLists) (a b c : AtWork L) → Works link_calls x a y b → Works link_calls y b z c → Works link_calls x a z c
  works_both x y z a b c first next = record { keeps = keeps_both x y z first.keeps next.keeps; on = work_both link_calls a b c first.on next.on }

  -- it changes, and then works
  pub works_then : (x y z : EdgeLists) (a b : AtWork L) → Keeps x y → Works link_calls y a z b → Works link_calls x a z b
  works_then x y z a b first next = record { keeps = keeps_both x y z first next.keeps; on = next.on }

  -- it works, and then changes
  pub works_and : (x y z : EdgeLists) (a b : AtWork L) → Works link_calls x a y b → Keeps y z → Works link_calls x a z b
  works_and x y z a b first next = record { keeps = keeps_both x y z first.keeps next; on = first.on }

  pub takes_by : (x y : EdgeLists) (a b : AtWork L) → Keeps x y → WorkGoes link_calls a b → Takes link_calls x a y b
  takes_by x y a b keeps on = record { keeps = keeps; link = on.link; effects = on.effects; calls = on.calls }
