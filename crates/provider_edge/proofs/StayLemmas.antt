-- What an edge gives out stays in its service.
use Rattle.std.proofs.Common.{List, sym, subst}
use Rattle.net_base.specs.declared.outside.link_call.LinkCall.{LinkCall}
use Rattle.edge_model.specs.declared.effects.Effects.{Effects}
use Rattle.edge_model.specs.declared.input.Input.{Input}
use Rattle.edge_model.specs.declared.input.Input.TheVariants as input
use Rattle.edge_model.specs.Local.{AllStayBehind, AllStayBeside}
use Rattle.edge_model.specs.Work.{Work}
use Rattle.edge_model.proofs.LocalLemmas.{stays_local}
use Rattle.edge_model.proofs.PacketLemmas.{packets_stay_local}
use Rattle.provider_edge.proofs.EffectLemmas.{Steps, agrees_itself, told_by}
use Rattle.provider_edge.specs.Lists.{EdgeLists, seen, worked}
use Rattle.provider_edge.specs.Taking.{StaysLocal}

pub steps_local : (e now : EdgeLists) (given : Input) (effects : Effects) (before after : List LinkCall) → Steps e now given effects before after → StaysLocal e.plan (seen e) given effects.list
unfolding worked
steps_local e now (input.Connected peer) effects before after steps = tt
steps_local e now (input.Octets peer bytes) effects before after steps = tt
steps_local e now (input.Lost peer) effects before after steps = tt
steps_local e now input.Restart effects before after steps = tt
steps_local e now input.Tick effects before after steps = tt
steps_local e now (input.Frame circuit bytes) effects before after steps =
    subst (λ (w : Work). AllStayBeside e.plan circuit bytes.now w.effects) (sym (steps (told_by after) (agrees_itself after))) (stays_local e.plan (told_by after) (seen e) before circuit bytes.now)
steps_local e now (input.Packet bytes) effects before after steps =
    subst (λ (w : Work). AllStayBehind e.plan (seen e) bytes.now w.effects) (sym (steps (told_by after) (agrees_itself after))) (packets_stay_local e.plan (told_by after) (seen e) before bytes.now)
steps_local e now (input.Wire wire on) effects before after steps = tt
steps_local e now (input.Circuit circuit on) effects before after steps = tt
steps_local e now (input.Status wire bits) effects before after steps = tt
steps_local e now (input.Priority wire priority) effects before after steps = tt
steps_local e now (input.Ping wire) effects before after steps = tt
