use Rattle.migration.proofs.JoinLemmas.{text_read}
use Rattle.migration.proofs.reads_what_is_migrated.Goals as goal

pub returns : goal.returns
returns c = text_read
