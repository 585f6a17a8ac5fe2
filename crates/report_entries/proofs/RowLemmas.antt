-- The rows of entries without octets: what they make names places of the plan and has the words of the row.
use Rattle.std.proofs.Common.{◌≡◌, ◌<◌, ℕ, codes, List, [], ◌∷◌, length, Option, Some, None, refl, ap, arith}
use Rattle.net_base.specs.declared.plan.Plan.{Plan}
use Rattle.net_base.specs.declared.trace.down.Down.{Down}
use Rattle.net_base.specs.declared.trace.down.Down.TheVariants as down
use Rattle.net_base.specs.declared.trace.drop_cause.DropCause.{DropCause}
use Rattle.net_base.specs.declared.trace.drop_cause.DropCause.TheVariants as cause
use Rattle.net_base.specs.declared.trace.state_name.Reason.TheVariants as reason
use Rattle.net_base.specs.declared.trace.state_name.StateName.{StateName}
use Rattle.net_base.specs.declared.trace.state_name.StateName.TheVariants as state
use Rattle.plan_names.proofs.BelowLemmas.{all_below}
use Rattle.line_shapes.specs.Choices.{cause_at, cause_place, choice_word, wire_end_at, wire_end_place, state_at, state_place}
use Rattle.line_shapes.specs.declared.choice.Choice.TheVariants as choice
use Rattle.report_text.specs.Named.{IsEntryNamed}
use Rattle.report_text.specs.Report.{entry_words}
use Rattle.line_shapes.specs.Shapes.{AreValuesOf, form_at, row_words, nth_value, value_word}
use Rattle.line_shapes.specs.declared.kind.Kind.TheVariants as kind
use Rattle.line_shapes.proofs.TableLemmas.{AllBelow}
use Rattle.event_rows.proofs.RowLemmas.{at_end_of, word_same}
use Rattle.report_text.specs.Rows.{entry_forms, entry_made}

-- ---- choices

cause_word : (n : ℕ) → n < 18 → choice_word choice.Cause (cause_place (cause_at n)) ≡ choice_word choice.Cause n
unfolding all_below
cause_word n lt = word_same choice.Cause cause_at cause_place n refl lt

end_word : (n : ℕ) → n < 9 → choice_word choice.End (wire_end_place (wire_end_at n)) ≡ choice_word choice.End n
unfolding all_below
end_word n lt = word_same choice.End wire_end_at wire_end_place n refl lt

state_word : (n : ℕ) → n < 16 → choice_word choice.State (state_place (state_at n)) ≡ choice_word choice.State n
unfolding all_below
state_word n lt = word_same choice.State state_at state_place n refl lt

pub cause_told : (x : DropCause) → (cause_place x < 18) × (cause_at (cause_place x) ≡ x)
cause_told cause.Short = (omega arith, refl)
cause_told cause.Long = (omega arith, refl)
cause_told cause.WrongTag = (omega arith, refl)
cause_told cause.NoTag = (omega arith, refl)
cause_told cause.BadNibble = (omega arith, refl)
cause_told cause.NotBottom = (omega arith, refl)
cause_told cause.Ttl = (omega arith, refl)
cause_told cause.NoLabel = (omega arith, refl)
cause_told cause.Down = (omega arith, refl)
cause_told cause.NoBinding = (omega arith, refl)
cause_told cause.Expired = (omega arith, refl)
cause_told cause.Version = (omega arith, refl)
cause_told cause.Channel = (omega arith, refl)
cause_told cause.Ip = (omega arith, refl)
cause_told cause.Checksum = (omega arith, refl)
cause_told cause.Icmp = (omega arith, refl)
cause_told cause.NotOffered = (omega arith, refl)
cause_told cause.LinkFault = (omega arith, refl)

pub end_told : (x : Option Down) → (wire_end_place x < 9) × (wire_end_at (wire_end_place x) ≡ x)
end_told None = (omega arith, refl)
end_told (Some down.NoLocal) = (omega arith, refl)
end_told (Some down.NoRemote) = (omega arith, refl)
end_told (Some down.CBit) = (omega arith, refl)
end_told (Some down.Kind) = (omega arith, refl)
end_told (Some down.Mtu) = (omega arith, refl)
end_told (Some down.LocalFault) = (omega arith, refl)
end_told (Some down.RemoteFault) = (omega arith, refl)
end_told (Some down.Standby) = (omega arith, refl)

pub state_told : (x : StateName) → (state_place x < 16) × (state_at (state_place x) ≡ x)
state_told state.NonExistent = (omega arith, refl)
state_told state.Initialized = (omega arith, refl)
state_told state.OpenSent = (omega arith, refl)
state_told state.OpenRec = (omega arith, refl)
state_told state.Operational = (omega arith, refl)
state_told (state.Ended reason.BadVersion) = (omega arith, refl)
state_told (state.Ended reason.BadReceiver) = (omega arith, refl)
state_told (state.Ended reason.ZeroKeepAlive) = (omega arith, refl)
state_told (state.Ended reason.Unexpected) = (omega arith, refl)
state_told (state.Ended reason.Expired) = (omega arith, refl)
state_told (state.Ended reason.PeerShutdown) = (omega arith, refl)
state_told (state.Ended reason.PeerFatal) = (omega arith, refl)
state_told (state.Ended reason.Decode) = (omega arith, refl)
state_told (state.Ended reason.Closed) = (omega arith, refl)
state_told (state.Ended reason.LinkFault) = (omega arith, refl)
state_told (state.Ended reason.BadIdentifier) = (omega arith, refl)

-- ---- what rows make

-- what a row makes of values that fit it names places of the plan, and has the words of the row
abbrev pub EntryRow : Plan → ℕ → Type 0
EntryRow plan row = (v : List ℕ) → AreValuesOf plan (form_at entry_forms row).kinds v → IsEntryNamed plan (entry_made row v) × (entry_words plan (entry_made row v) ≡ row_words plan (form_at entry_forms row) v)

module _ (plan : Plan) where
  idle_row : EntryRow plan 3
  idle_row v fit = (tt, refl)

  session_row : EntryRow plan 0
  session_row v fit = (
    (fit.1.0, fit.1.1.1.0),
    ap (λ (w : List ℕ). codes "session" ∷ value_word plan kind.Edge (nth_value 0 v) ∷ value_word plan kind.Edge (nth_value 1 v) ∷ w ∷ []) (state_word (nth_value 2 v) fit.1.1.1.1.1.0),
  )

  down_row : EntryRow plan 1
  down_row v fit = ((fit.1.0, fit.1.1.1.0), ap (at_end_of plan (codes "wire") v) (end_word (nth_value 2 v) fit.1.1.1.1.1.0))

  dropped_row : EntryRow plan 2
  dropped_row v fit = (
    (fit.1.0, omega (arith, fit.1.1.1.0.1)),
    ap (λ (w : List ℕ). codes "dropped" ∷ value_word plan kind.Edge (nth_value 0 v) ∷ value_word plan (kind.Number 0 18446744073709551615) (nth_value 1 v) ∷ w ∷ [])
        (cause_word (nth_value 2 v) fit.1.1.1.1.1.0),
  )

  copied_row : EntryRow plan 4
  copied_row v fit = ((omega (arith, fit.1.0.1), omega (arith, fit.1.1.1.0.1)), refl)

  aged_row : EntryRow plan 5
  aged_row v fit = (omega (arith, fit.1.0.1), refl)

  pong_row : EntryRow plan 6
  pong_row v fit = ((fit.1.0, (fit.1.1.1.0, fit.1.1.1.1.1.0)), refl)

  pub entry_rows : AllBelow (EntryRow plan) (length entry_forms)
  entry_rows = (((((((tt, session_row), down_row), dropped_row), idle_row), copied_row), aged_row), pong_row)
