use Rattle.std.proofs.Common.{◌∙◌}
use Rattle.std.proofs.lemmas.Result.{on_err_weaker, on_ok_weaker}
use Rattle.seen_state.proofs.NumberedLemmas.{put_behind}
use Rattle.seen_state.proofs.numbered.Numbered.put.Goals as goal

pub returns-clause-put : goal.returns-clause-put
returns-clause-put g c = on_ok_weaker c.set.result (λ put. put_behind c.args.self.now c.reach.new.self c.set.new.self c.args.number c.args.value c.in_ok-reach.ensures.kept put) c.set.ensures.put

pub returns-clause-kept : goal.returns-clause-kept
returns-clause-kept g c = on_err_weaker c.set.result (λ kept. λ n. kept n ∙ c.in_ok-reach.ensures.kept n) c.set.ensures.kept
