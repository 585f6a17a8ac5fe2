use Rattle.std.proofs.Common.{inr}
use Rattle.pw_tlvs.proofs.FecLemmas.{followed_again}
use Rattle.pw_tlvs.proofs.laws.followed_is_not_looked_into.Goals as goal

pub returns : goal.returns
returns c = λ octets other first is same len. inr (followed_again octets other first is same len)
