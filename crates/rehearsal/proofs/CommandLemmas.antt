-- Connections, the settling and the frames are all commands.
use Rattle.std.proofs.Common.{◌≡◌, ◌++◌, ◌∙◌, ℕ, List, [], ◌∷◌, ap}
use Rattle.net_base.specs.declared.plan.wire_plan.WirePlan.{WirePlan}
use Rattle.command_text.specs.declared.command.Command.{Command}
use Rattle.command_text.specs.declared.command.Command.TheVariants.{Settle}
use Rattle.rehearsal.specs.Commands.{commands, connect_commands, frames_from}

joined : (start connected settled all frames : List Command) (wires : List WirePlan) → start ≡ [] → connected ≡ start ++ connect_commands wires → settled ≡ connected ++ Settle 10000 ∷ [] → all
    ≡ settled ++ frames → all ≡ (connect_commands wires ++ Settle 10000 ∷ []) ++ frames
joined start connected settled all frames wires p q r s =
    s ∙ ap (λ (l : List Command). l ++ frames) (r ∙ ap (λ (l : List Command). l ++ Settle 10000 ∷ []) (q ∙ ap (λ (l : List Command). l ++ connect_commands wires) p))

pub all_commands : (start connected settled all : List Command) (wires : List WirePlan) (seed : ℕ) → start ≡ [] → connected ≡ start ++ connect_commands wires → settled
    ≡ connected ++ Settle 10000 ∷ [] → all ≡ settled ++ frames_from 2000 seed → all ≡ commands wires seed
unfolding commands
all_commands start connected settled all wires seed p q r s = joined start connected settled all (frames_from 2000 seed) wires p q r s
