-- The lines of notes one by one.
use Rattle.std.proofs.Common.{◌≡◌, ◌≤◌, ◌<◌, ◌+◌, ◌-◌, ◌++◌, ◌∙◌, ℕ, List, [], Result, length, get_or, take, drop, sym, ap, subst}
use Rattle.std.proofs.lemmas.List.{at_drop_all, at_drop_more, drop_all, take_all}
use Rattle.net_base.specs.declared.plan.Plan.{Plan}
use Rattle.net_base.specs.declared.trace.entry.Entry.{Entry}
use Rattle.report_text.specs.Report.{entry_lines}
use Rattle.discovery_script.specs.declared.placed_note.PlacedNote.{PlacedNote}
use Rattle.text_lines.specs.Written.{Puts, Written}
use Rattle.text_lines.proofs.WrittenLemmas.{Putting, puts_two}
use Rattle.discovery_text.specs.Text.{note_line, noted_lines}

-- where there are no more entries, all of them stand before, and none behind
pub all_before : (count : ℕ) (trace : List Entry) → length trace ≤ count → trace ≡ take count trace
all_before count trace past = sym (take_all count trace past)

pub none_behind : (count : ℕ) (trace : List Entry) → length trace ≤ count → [] ≡ drop count trace
none_behind count trace past = sym (drop_all count trace past)

-- the next note with the entries before it, and what stands behind it
pub noted_from : (plan : Plan) (written count : ℕ) (trace front behind : List Entry) (notes : List PlacedNote) (index : ℕ) (none : PlacedNote) → index < length notes
    → count ≡ (get_or notes index none).entries - written → front ≡ take count trace → behind ≡ drop count trace
    → noted_lines plan written trace (drop index notes)
    ≡ (entry_lines plan front ++ note_line plan (get_or notes index none).note) ++ noted_lines plan (get_or notes index none).entries behind (drop (index + 1) notes)
noted_from plan written count trace front behind notes index none within counts before after =
    let placed : PlacedNote = get_or notes index none in
    at_drop_more (noted_lines plan written trace) notes index none within
    ∙ (ap (λ (n : ℕ). (entry_lines plan (take n trace) ++ note_line plan placed.note) ++ noted_lines plan placed.entries (drop n trace) (drop (index + 1) notes)) (sym counts)
    ∙ (ap (λ (l : List Entry). (entry_lines plan l ++ note_line plan placed.note) ++ noted_lines plan placed.entries (drop count trace) (drop (index + 1) notes)) (sym before)
    ∙ ap (λ (l : List Entry). (entry_lines plan front ++ note_line plan placed.note) ++ noted_lines plan placed.entries l (drop (index + 1) notes)) (sym after)))

-- behind the last note the entries that are left stand
pub noted_end : (plan : Plan) (written : ℕ) (trace : List Entry) (notes : List PlacedNote) (index : ℕ) → length notes ≤ index → noted_lines plan written trace (drop index notes)
    ≡ entry_lines plan trace
noted_end plan written trace notes index past = at_drop_all (noted_lines plan written trace) notes index past

-- the last piece is put, or a call fails at it
pub putting_last : {T E : Type 0} (result : Result T E) (a b c : Written) (rest last whole : List ℕ) → rest ≡ last → Putting a b rest whole → Puts result b c last → Puts result a c whole
putting_last result a b c rest last whole same putting puts =
    subst (Puts result a c) (ap (λ (l : List ℕ). putting.front ++ l) (sym same) ∙ putting.all) (puts_two result a b c putting.front last putting.goes puts)
