use Rattle.pw_signalling.proofs.LawLemmas.{forwards_where_both_agree}
use Rattle.pw_signalling.proofs.laws.forwards_where_both_agree.Goals as goal

pub returns : goal.returns
returns c = forwards_where_both_agree
