-- One more message is passed, or a fault is met.
use Rattle.std.proofs.Common.{ℕ, List, drop, subst, sym}
use Rattle.ldp_grammar.specs.Spells.{Spelling}
use Rattle.ldp_grammar.specs.FirstFault.{IsFirst, IsFirstMessageFault, NamesMessages}
use Rattle.ldp_codec.specs.Views.{IsMessagePassed}
use Rattle.ldp_codec.proofs.ViewLemmas.{passes_more, passes_fault}
use Rattle.ldp_codec.proofs.message_pass.count_flat.Goals as goal

pub passing-preserved : goal.passing-preserved
passing-preserved c =
    let passed : IsMessagePassed (drop c.passing.at c.args.body.now) c.in-Ok.size = subst (λ (l : List ℕ). IsMessagePassed l c.in-Ok.size) c.split_at.ensures.back c.in-Ok.ensures.passed in
    passes_more c.args.body.now c.passing.at c.in-Ok.size c.passing.count c.passing.invariant passed

pub returns-in-Err-clause-fault : goal.returns-in-Err-clause-fault
returns-in-Err-clause-fault c =
    let body = c.args.body.now in
    let faults : (before : List Spelling) → IsFirstMessageFault before (drop c.passing.at body) c.in-Err.fault =
    λ before. subst (λ (l : List ℕ). IsFirstMessageFault before l c.in-Err.fault) c.split_at.ensures.back (c.in-Err.ensures.fault before) in
    subst (IsFirst (NamesMessages body)) (sym c.behind.ensures) (passes_fault body c.passing.at c.passing.count c.in-Err.fault c.passing.invariant faults)
