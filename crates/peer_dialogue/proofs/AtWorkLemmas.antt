-- What an edge works with, from one call to the next.
use Rattle.std.proofs.Common.{◌∙◌, List, refl}
use Rattle.net_base.specs.declared.outside.link_call.LinkCall.{LinkCall}
use Rattle.peer_dialogue.specs.AtWork.{WorkGoes}
use Rattle.peer_dialogue.specs.declared.at_work.AtWork.{AtWork}
use Rattle.peer_dialogue.proofs.SpeakerLemmas.{goes_both, goes_nowhere}

module _ {L : Type 0} (link_calls : L → List LinkCall) where
  pub work_same : (a : AtWork L) → WorkGoes link_calls a a
  work_same a = record { link = refl; effects = refl; idle = refl; calls = goes_nowhere (link_calls a.link.now) }

  pub work_both : (a b c : AtWork L) → WorkGoes link_calls a b → WorkGoes link_calls b c → WorkGoes link_calls a c
  work_both a b c first next = record {
    link = next.link ∙ first.link;
    effects = next.effects ∙ first.effects;
    idle = next.idle ∙ first.idle;
    calls = goes_both (link_calls a.link.now) (link_calls b.link.now) (link_calls c.link.now) first.calls next.calls;
  }
