-- What a terminal end should tell, by its offer, the binding that it holds, its failure bits and the status that it tells.
use Rattle.std.specs.Prelude.{◌==◌, ◌||◌, ℕ, Option, Some, None, if◌then◌else◌}
use Rattle.net_base.specs.declared.plan.offer.Offer.{Offer}
use Rattle.pw_tlvs.specs.declared.pw_status.PwStatus.{PwStatus}
use Rattle.pw_status.specs.Status.{method_by}
use Rattle.pw_signalling.specs.declared.binding.Binding.{Binding}
use Rattle.pw_signalling.specs.declared.told.Told.{Told}
use Rattle.pw_messages.specs.Content.{content_of}
use Rattle.edge_model.specs.Mend.{status_held, tells_status}

-- the same as `terminal_wish` of an edge
abbrev pub wish_of_offer : Offer → Option Binding → ℕ → PwStatus → Option Told
wish_of_offer offer remote bits status =
    if tells_status (method_by offer.status (status_held remote)) || bits == 0
    then Some (content_of offer (if offer.status then Some status else None))
    else None
