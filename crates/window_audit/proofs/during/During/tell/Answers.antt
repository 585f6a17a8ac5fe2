-- An entry by which what is seen may change waits; by each other one it stays as it is.
use Rattle.std.proofs.Common.{◌++◌, ◌∷◌, ◌∙◌, [], List, ap, sym}
use Rattle.std.proofs.lemmas.Result.{on_ok_weaker}
use Rattle.net_base.specs.declared.trace.entry.Entry.{Entry}
use Rattle.window_audit.proofs.DuringLemmas.{kept_passes, kept_waits, passes, told_one, waits}
use Rattle.window_audit.proofs.during.During.tell.Goals as goal

pub returns-then-moves-clause-told : goal.returns-then-moves-clause-told
returns-then-moves-clause-told c = on_ok_weaker c.keep.result
    (λ is. λ rest told. told_one rest c.args.entry c.args.self.now c.keep.new.self c.requires.bare
    (c.keep.ensures.event ∙ c.note.ensures.event, c.keep.ensures.idle ∙ c.note.ensures.idle, c.keep.ensures.count ∙ c.note.ensures.count, c.keep.ensures.first ∙ c.note.ensures.first)
    (λ seen. waits c.args.entry c.args.self.now.kept.items c.keep.new.self.kept.items seen c.requires.bare c.requires.waiting (is ∙ ap (λ (es : List Entry). es ++ c.args.entry ∷ []) c.note.ensures.kept)) told)
    c.keep.ensures.kept

pub returns-then-moves-clause-kept : goal.returns-then-moves-clause-kept
returns-then-moves-clause-kept c = on_ok_weaker c.keep.result
    (λ is. λ plan kept placed. kept_waits plan c.args.entry c.args.self.now c.keep.new.self c.requires.bare
    (c.keep.ensures.event ∙ c.note.ensures.event, c.keep.ensures.idle ∙ c.note.ensures.idle, c.keep.ensures.count ∙ c.note.ensures.count, c.keep.ensures.first ∙ c.note.ensures.first)
    (is ∙ ap (λ (es : List Entry). es ++ c.args.entry ∷ []) c.note.ensures.kept) kept placed)
    c.keep.ensures.kept

pub returns-else-moves-clause-told : goal.returns-else-moves-clause-told
returns-else-moves-clause-told c = λ rest told. told_one rest c.args.entry c.args.self.now c.note.new.self c.requires.bare
    (c.note.ensures.event, c.note.ensures.idle, c.note.ensures.count, c.note.ensures.first)
    (λ seen. passes c.args.entry c.args.self.now.kept.items c.note.new.self.kept.items seen (sym c.moves.ensures ∙ c.if-moves.false) c.note.ensures.kept) told

pub returns-else-moves-clause-kept : goal.returns-else-moves-clause-kept
returns-else-moves-clause-kept c = λ plan kept placed. kept_passes plan c.args.entry c.args.self.now c.note.new.self
    (c.note.ensures.event, c.note.ensures.idle, c.note.ensures.count, c.note.ensures.first) c.note.ensures.kept kept
