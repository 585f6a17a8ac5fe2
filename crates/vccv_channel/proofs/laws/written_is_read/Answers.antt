use Rattle.vccv_channel.proofs.LawLemmas.{request_read, answer_read}
use Rattle.vccv_channel.proofs.laws.written_is_read.Goals as goal

pub returns-clause-request : goal.returns-clause-request
returns-clause-request c = request_read

pub returns-clause-answer : goal.returns-clause-answer
returns-clause-answer c = answer_read
