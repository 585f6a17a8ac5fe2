use Rattle.std.proofs.Common.{◌<◌, ◌∙◌, length, ap, sym, subst}
use Rattle.vsi_bridge.specs.BridgeState.{BridgeState}
use Rattle.std.specs.Prelude.{slice_get}
use Rattle.edge_forwarding.proofs.EachLemmas.{first_dropped}
use Rattle.edge_forwarding.proofs.domain.Domain.clear.Goals as goal

pub clearing-smaller : goal.clearing-smaller
clearing-smaller c =
    subst (λ (b : BridgeState). length b.entries < length c.clearing.self.bridge.entries) (sym c.drop_port.ensures.entries)
    (first_dropped c.clearing.self.bridge.entries c.in-Some.entry (sym (c.entry.ensures ∙ ap (λ t. slice_get t.entries 0) c.table.ensures) ∙ c.in-Some.is))
