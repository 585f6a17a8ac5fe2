use Rattle.std.proofs.Common.{subst, sym}
use Rattle.trace_audit.specs.Arrivals.{ArrivalLists, TellsArrivals}
use Rattle.trace_audit.proofs.ArrivalLemmas.{other_added}
use Rattle.trace_audit.proofs.arrivals.Arrivals.add_other.Goals as goal

pub returns : goal.returns
returns c = λ known tells.
    let old : ArrivalLists = record { places = c.self.inside.places; firsts = c.self.inside.firsts.items; octets = c.self.inside.octets.items; others = c.self.inside.others.keys } in
    other_added old c.insert.new.self.keys c.args.came c.in_ok-insert.ensures.keys known (subst (λ (a : ArrivalLists). TellsArrivals a known) (sym c.self.view_is) tells)
