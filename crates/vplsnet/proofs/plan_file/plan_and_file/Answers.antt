-- Both files were had.
use Rattle.vplsnet.proofs.PlanFileLemmas.{has_both}
use Rattle.vplsnet.proofs.plan_file.plan_and_file.Goals as goal

pub returns-in-Ok-octets_of-clause-has : goal.returns-in-Ok-octets_of-clause-has
returns-in-Ok-octets_of-clause-has g c =
    has_both c.args.file.now c.args.second.now c.in-Ok-octets_of.octets c.args.limit c.in-Ok.scenario _ _ _ c.in-Ok.ensures.reads c.octets_of.ensures.reads
    c.in-Ok.ensures.has c.in-Ok-octets_of.ensures.has c.in-Ok-octets_of.ensures.fits
