use Rattle.window_audit.proofs.windows.Windows.end.Goals as goal

pub returns : goal.returns
returns c = λ trace heard.
    let passed = c.in_ok-pass.ensures.passed trace heard in
    c.verdict.ensures trace passed.known.owed passed.exits
