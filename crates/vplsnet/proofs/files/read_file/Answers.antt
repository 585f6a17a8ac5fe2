use Rattle.vplsnet.proofs.FileLemmas.{none_longer, short_whole, short_longer, too_long}
use Rattle.vplsnet.proofs.files.read_file.Goals as goal

pub returns-in-Ok-clause-whole : goal.returns-in-Ok-clause-whole
returns-in-Ok-clause-whole g c = short_whole _ _ _ _ c.within.result c.in-Ok.ensures.front c.within.ensures.fits

pub returns-in-Ok-clause-too_long : goal.returns-in-Ok-clause-too_long
returns-in-Ok-clause-too_long g c = too_long _ _ _ _ c.within.result c.in-Ok.ensures.front c.within.ensures.long

pub returns-in-Ok-clause-never_longer : goal.returns-in-Ok-clause-never_longer
returns-in-Ok-clause-never_longer g c = short_longer _ _ _ _ c.within.result c.in-Ok.ensures.front c.within.ensures.fits

pub returns-in-Err-clause-never_longer : goal.returns-in-Err-clause-never_longer
returns-in-Err-clause-never_longer g c = none_longer _ _ _
