-- The same files come to the same text.
use Rattle.std.specs.Prelude.{◌≡◌, ℕ, List, Option}
use Rattle.net_base.specs.outside.Outside.{Agrees}
use Rattle.psn_net.specs.Lists.{NetLists}
use Rattle.text_lines.specs.Written.{Writes}
use Rattle.vplsnet.specs.declared.outcome.Outcome.{Outcome}
use Rattle.vplsnet.specs.declared.outcome.Outcome.TheVariants.{Done, Stopped}
use Rattle.vplsnet.specs.Answers.{SaysOutcome}
use Rattle.vplsnet.specs.Around.{Around}
use Rattle.vplsnet.specs.Asked.{Asked, Replay, Tables, Capture, Decode, Rehearse, Migrate, Discover, Switchover, Audit}

-- a command that writes one text; of `migrate` each text will do that is read as the scenario again
abbrev pub HasOneText : Asked → Type 0
HasOneText (Replay file) = Unit {0}
HasOneText (Tables file) = Unit {0}
HasOneText (Capture file circuit) = Unit {0}
HasOneText (Decode file) = Unit {0}
HasOneText (Rehearse seed) = Unit {0}
HasOneText (Migrate file) = ⊥
HasOneText (Discover file script) = Unit {0}
HasOneText (Switchover file script) = Unit {0}
HasOneText (Audit file report) = Unit {0}

-- two calls did all, or a limit stopped both
abbrev pub EndAlike : Outcome → Outcome → Type 0
EndAlike Done Done = Unit {0}
EndAlike (Stopped one) (Stopped other) = Unit {0}
EndAlike one other = ⊥

-- a call that answers so, the reads of which agree with these files
pub record IsCallOver (held : List ℕ → Option (List ℕ)) (around : Around) (asked : Asked) (outcome : Outcome) : Type 0 where
  pub agrees : Agrees held around.files
  pub network : Option NetLists
  pub says : SaysOutcome around asked network outcome

-- both calls took this text
pub record TakeOneText (one other : Around) : Type 0 where
  pub text : List ℕ
  pub first : Writes one.taken_before one.taken_after text
  pub second : Writes other.taken_before other.taken_after text

-- Two calls of a command, the reads of which agree with files of the same octets, which both did all, or which a limit stopped both, took the
-- same text.
abbrev pub OneInputOneText : Type 0
OneInputOneText = (asked : Asked) (held same : List ℕ → Option (List ℕ)) (one other : Around) (outcome ending : Outcome) → HasOneText asked → ((name : List ℕ) → held name ≡ same name)
    → EndAlike outcome ending → IsCallOver held one asked outcome → IsCallOver same other asked ending → TakeOneText one other
