use Rattle.std.proofs.Common.{[], ◌∷◌, List, ℕ, codes, subst, sym}
use Rattle.std.specs.Str.{IsUtf8}
use Rattle.script_text.specs.Script.{spaced_words}
use Rattle.migration.specs.Sayable.{IsSayable}
use Rattle.migration.proofs.TextLemmas.{play_is_text}
use Rattle.migration.proofs.commands.command_line.Goals as goal

pub line-requires-in-Play : goal.line-requires-in-Play
line-requires-in-Play c =
    subst (λ (name : List ℕ). IsUtf8 (spaced_words (codes "play" ∷ name ∷ c.as_bytes.result.now ∷ []))) (sym c.circuit_word.ensures)
    (play_is_text c.args.plan.now c.in-Play.circuit c.as_bytes.result.now c.requires.names (subst (IsSayable c.args.plan.now) c.in-Play.is c.requires.sayable) c.as_bytes.ensures.utf8)
