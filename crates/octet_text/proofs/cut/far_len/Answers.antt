-- What the search finds is where the text is cut.
use Rattle.std.proofs.Common.{◌∙◌, sym, length, take_all, le_refl}
use Rattle.octet_text.proofs.MarkLemmas.{back_at, back_none, front_at, none_before}
use Rattle.octet_text.proofs.cut.far_len.Goals as goal

pub returns-in-Some-clause-front : goal.returns-in-Some-clause-front
returns-in-Some-clause-front c = front_at c.args.mark c.args.text.now c.in-Some.at c.in-Some.ensures.0.high c.in-Some.ensures.0.before c.in-Some.ensures.1

pub returns-in-Some-clause-behind : goal.returns-in-Some-clause-behind
returns-in-Some-clause-behind c = back_at c.args.mark c.args.text.now c.in-Some.at c.in-Some.ensures.0.high c.in-Some.ensures.0.before c.in-Some.ensures.1

pub returns-in-None-clause-front : goal.returns-in-None-clause-front
returns-in-None-clause-front c = none_before c.args.mark c.args.text.now c.in-None.ensures ∙ sym (take_all _ _ (le_refl (length c.args.text.now)))

pub returns-in-None-clause-behind : goal.returns-in-None-clause-behind
returns-in-None-clause-behind c = back_none c.args.mark c.args.text.now c.in-None.ensures
