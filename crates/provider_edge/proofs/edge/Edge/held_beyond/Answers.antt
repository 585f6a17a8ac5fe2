use Rattle.std.proofs.Common.{◌∙◌, ap, None, sym}
use Rattle.std.specs.Option.{option_copied}
use Rattle.pw_ends.specs.Ends.{place_of}
use Rattle.edge_model.specs.Across.{held_from, held_of}
use Rattle.provider_edge.proofs.AcrossLemmas.{beyond_read}
use Rattle.provider_edge.specs.Lists.{seen}
use Rattle.provider_edge.proofs.edge.Edge.held_beyond.Goals as goal

pub returns-in-Some : goal.returns-in-Some
returns-in-Some c =
    beyond_read c.args.self.now (place_of c.args.self.now.ends c.args.slot) c.mate_at.result (option_copied c.held_beside.result) c.mate_at.ensures.within c.mate_at.ensures.mate
    (c.held_beside.ensures.held ∙ ap (held_from (held_of (seen c.args.self.now) (place_of c.args.self.now.ends c.args.slot).wire)) (sym c.in-Some.is))

pub returns-in-None : goal.returns-in-None
returns-in-None c =
    beyond_read c.args.self.now (place_of c.args.self.now.ends c.args.slot) c.mate_at.result None c.mate_at.ensures.within c.mate_at.ensures.mate
    (ap (held_from (held_of (seen c.args.self.now) (place_of c.args.self.now.ends c.args.slot).wire)) (sym c.in-None.is))
