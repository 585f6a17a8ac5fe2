use Rattle.vccv_channel.proofs.LawLemmas.{request_answered}
use Rattle.vccv_channel.proofs.laws.answers_exchange.Goals as goal

pub returns : goal.returns
returns c = request_answered
