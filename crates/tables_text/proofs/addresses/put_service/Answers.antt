-- A service has a bridge exactly where it has a port.
use Rattle.std.proofs.Common.{◌∙◌, inr, refl}
use Rattle.tables_text.proofs.TableLemmas.{service_left_out, service_put}
use Rattle.tables_text.proofs.addresses.put_service.Goals as goal

pub returns-in-Some : goal.returns-in-Some
returns-in-Some g c =
    service_put c.put_entries.result _ _ _ _ _ _ _ _ _ _ c.service_over-service.ensures.plan c.service_over-service.ensures.name (c.service_over-service.ensures.ports ∙ c.in-Some.ensures.ports)
    (c.table_in.ensures.table ∙ c.in-Some.ensures.learned) (λ none. let told = c.in-Some.ensures.none.1 (inr none) in absurd (cc))
    (rw (c.as_slice.ensures ∙ c.fill.ensures.all) at c.put_entries.ensures)

pub returns-in-None : goal.returns-in-None
returns-in-None g c = service_left_out _ c.args.edge.now.plan c.args.edge.now.me c.args.place _ _ c.requires.place (c.in-None.ensures.none.0 refl)
