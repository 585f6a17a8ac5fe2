use Rattle.std.proofs.Common.{◌∙◌, ap}
use Rattle.seen_state.specs.Copies.{is_number}
use Rattle.seen_state.proofs.CopyLemmas.{seen_named}
use Rattle.seen_state.proofs.copies.Copies.names.Goals as goal

pub returns-in-Some : goal.returns-in-Some
returns-in-Some c = λ seen told. ap (is_number c.args.origin) c.in-Some.ensures ∙ seen_named c.args.self.now seen c.args.origin c.args.number told

pub returns-in-None : goal.returns-in-None
returns-in-None c = λ seen told. ap (is_number c.args.origin) c.in-None.ensures ∙ seen_named c.args.self.now seen c.args.origin c.args.number told
