use Rattle.std.proofs.Common.{◌≡◌, ℕ, List, Some, drop}
use Rattle.session_core.specs.State.{SessionState}
use Rattle.pw_messages.specs.LinkAnswers.{Agrees, Answers}
use Rattle.edge_model.specs.Put.{put_replies}
use Rattle.edge_model.specs.State.{EdgeState}
use Rattle.peer_dialogue.specs.AtWork.{WorkGoes}
use Rattle.peer_dialogue.specs.Peering.{at_peer, having_put}
use Rattle.peer_dialogue.proofs.speaker.Speaker.put_replies.Given as goal

abbrev pub invariant-loop-place : goal.invariant-loop-place
invariant-loop-place g l = record {
  peers : l.self.peers ≡ l.fn.self.peers;
  goes : WorkGoes g.L.Link.calls l.fn.work l.work;
  step : (told : Answers) (s : SessionState) (held : List ℕ) (edge : EdgeState) → Agrees told (g.L.Link.calls l.work.link.now) → s.peers ≡ l.fn.self.peers
      → put_replies told l.peer l.replies (at_peer l.peer (Some (record { session = s; held = held; next_id = l.fn.self.next_id })) edge (g.L.Link.calls l.fn.work.link.now) l.fn.work.effects.now.list)
      ≡ put_replies told l.peer (drop l.place l.replies)
      (at_peer l.peer (Some (record { session = having_put l.spoke s; held = held; next_id = l.self.next_id })) edge (g.L.Link.calls l.work.link.now) l.work.effects.now.list);
}
