use Rattle.std.proofs.Common.{◌∙◌, ap}
use Rattle.psn_net.specs.ByNumber.{Numbered}
use Rattle.psn_net.specs.Packets.{kept_under}
use Rattle.psn_net.proofs.ByNumberLemmas.{kept_in, kept_out}
use Rattle.psn_net.proofs.by_number.ByNumber.get.Goals as goal

pub returns-in-Some : goal.returns-in-Some
returns-in-Some c =
    let row = c.self.inside.row in record {
      value = kept_in c.args.number row.first row.places c.self.inside.rest.entries c.in-Some.carried.now c.in-Some.ensures ∙ ap (λ (v : Numbered). kept_under c.args.number v.entries) c.self.view_is;
    }

pub returns-in-None : goal.returns-in-None
returns-in-None c =
    let row = c.self.inside.row in record {
      value = c.get-in-None.ensures.value ∙ (kept_out c.args.number row.first row.places c.self.inside.rest.entries c.in-None.ensures ∙ ap (λ (v : Numbered). kept_under c.args.number v.entries) c.self.view_is);
    }
