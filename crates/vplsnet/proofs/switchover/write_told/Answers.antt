-- What came of the lines was put, and then what waits was written.
use Rattle.std.proofs.Common.{refl}
use Rattle.vplsnet.proofs.WritingLemmas.{text_flushed}
use Rattle.vplsnet.proofs.switchover.write_told.Goals as goal

pub returns-in-Ok : goal.returns-in-Ok
returns-in-Ok g c = text_flushed _ _ _ _ _ _ _ _ refl refl c.requires c.in-Ok.ensures c.flush_page.ensures refl
