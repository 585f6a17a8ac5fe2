-- The lines of a report one by one.
use Rattle.std.proofs.Common.{◌≡◌, ◌≤◌, ◌<◌, ◌+◌, ◌++◌, ◌∙◌, ℕ, List, [], length, get_or, drop, sym, ap}
use Rattle.std.proofs.lemmas.List.{at_drop_all, at_drop_more}
use Rattle.net_base.specs.declared.plan.Plan.{Plan}
use Rattle.switchover_model.specs.declared.switch_entry.SwitchEntry.{SwitchEntry}
use Rattle.switchover_model.specs.declared.switch_line.SwitchLine.{SwitchLine}
use Rattle.switchover_text.specs.Text.{done_line, first_told, lines_text, told_behind, told_lines, entry_words_told}
use Rattle.text_lines.specs.Lines.{line_of}

-- the line of the next entry, and those behind it
pub told_from : (plan : Plan) (entries : List SwitchEntry) (index : ℕ) (entry : SwitchEntry) → index < length entries → entry ≡ get_or entries index entry
    → told_lines plan (drop index entries) ≡ line_of (entry_words_told plan entry) ++ told_lines plan (drop (index + 1) entries)
told_from plan entries index entry within is =
    at_drop_more (told_lines plan) entries index entry within
    ∙ ap (λ (first : SwitchEntry). line_of (entry_words_told plan first) ++ told_lines plan (drop (index + 1) entries)) (sym is)

-- the next line with what was told of it, and those behind it
pub text_from : (plan : Plan) (lines : List SwitchLine) (told behind : List (List SwitchEntry)) (entries : List SwitchEntry) (index : ℕ) (none : SwitchLine) → index < length lines
    → entries ≡ first_told told → behind ≡ told_behind told
    → lines_text plan (drop index lines) told ≡ (done_line plan (get_or lines index none) ++ told_lines plan entries) ++ lines_text plan (drop (index + 1) lines) behind
text_from plan lines told behind entries index none within one others =
    let line : SwitchLine = get_or lines index none in
    at_drop_more (λ (l : List SwitchLine). lines_text plan l told) lines index none within
    ∙ (ap (λ (e : List SwitchEntry). (done_line plan line ++ told_lines plan e) ++ lines_text plan (drop (index + 1) lines) (told_behind told)) (sym one)
    ∙ ap (λ (b : List (List SwitchEntry)). (done_line plan line ++ told_lines plan entries) ++ lines_text plan (drop (index + 1) lines) b) (sym others))

-- no line is left
pub text_end : (plan : Plan) (lines : List SwitchLine) (told : List (List SwitchEntry)) (index : ℕ) → length lines ≤ index → lines_text plan (drop index lines) told ≡ []
text_end plan lines told index past = at_drop_all (λ (l : List SwitchLine). lines_text plan l told) lines index past
