use Rattle.std.proofs.Common.{◌∙◌, sym}
use Rattle.window_audit.specs.OpenWindows.{windows_at}
use Rattle.window_audit.proofs.SpareLemmas.{spoiled_none, spoiled_one}
use Rattle.window_audit.proofs.spared.spoil.Goals as goal

pub returns-in_default : goal.returns-in_default
returns-in_default c = λ seen tells origin.
    spoiled_none c.args.copies.now seen origin c.args.packet c.args.idle (windows_at c.args.open_windows.now origin) (sym c.origin.ensures ∙ c.in_default.is) tells

pub returns : goal.returns
returns c = λ seen tells origin.
    spoiled_one c.args.copies.now seen origin c.args.packet c.in-Some.origin c.args.idle (windows_at c.args.open_windows.now origin) (windows_at c.take.new.self origin) c.if-idle.false (sym
    c.in-Some.ensures) tells (c.take.ensures.left origin)
