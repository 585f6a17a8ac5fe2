use Rattle.text_lines.proofs.WrittenLemmas.{goes_waiting}
use Rattle.text_lines.proofs.page.Page.put_digits.Goals as goal

pub returns-then-self : goal.returns-then-self
returns-then-self g c = goes_waiting _ _ _ c.wait_number.ensures
