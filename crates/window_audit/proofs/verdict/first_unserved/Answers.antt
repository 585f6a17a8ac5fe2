-- One more window is passed: the first place stays where it is served, and else is the earlier of the two.
use Rattle.std.proofs.Common.{◌≡◌, ◌+◌, ◌++◌, ◌∷◌, ◌∙◌, [], ℕ, Bool, List, Option, Some, ap, arith, subst, sym, take}
use Rattle.std.proofs.lemmas.Grind.{take_at_read}
use Rattle.std.proofs.lemmas.List.{take_all}
use Rattle.seen_network.specs.Verdict.{IsFirstOwed}
use Rattle.seen_network.specs.declared.window.Window.{Window}
use Rattle.window_audit.specs.Verdict.{Judges}
use Rattle.window_audit.proofs.VerdictLemmas.{one_served, one_unserved}
use Rattle.window_audit.proofs.verdict.first_unserved.Goals.{then-not-is_served, else-not-is_served}
use Rattle.window_audit.proofs.verdict.first_unserved.Goals as goal

pub loop-window-preserved : goal.loop-window-preserved
loop-window-preserved c = λ trace known.
    let plan = c.args.plan.now in
    let front = take c.loop-window.window-index c.args.owed.now in
    let last = c.window-item.result in
    let grown : take (c.loop-window.window-index + 1) c.args.owed.now ≡ front ++ last ∷ [] =
    (take_at_read c.args.owed.now c.loop-window.window-index last c.loop-window-test.true).1
    ∙ ap (λ (v : Window). front ++ v ∷ []) (sym c.window-item.is) in
    subst (λ (ws : List Window). IsFirstOwed plan trace ws c.if-not-is_served.first) (sym grown) (elim c.if-not-is_served.branch [
      | then-not-is_served w ↦ subst (λ (o : Option ℕ). IsFirstOwed plan trace (front ++ last ∷ []) o) (sym (w.first-is ∙ ap (λ (p : ℕ). Some p) w.earlier.ensures))
          (one_unserved plan trace front last c.loop-window.first (subst (λ (b : Bool). Judges plan trace last b) w.if-not-is_served.true (c.is_served.ensures trace known))
          (c.loop-window.invariant trace known))
      | else-not-is_served w ↦ subst (λ (o : Option ℕ). IsFirstOwed plan trace (front ++ last ∷ []) o) (sym w.first-is)
          (one_served plan trace front last c.loop-window.first (subst (λ (b : Bool). Judges plan trace last b) w.if-not-is_served.false (c.is_served.ensures trace known))
          (c.loop-window.invariant trace known))
    ])

pub returns : goal.returns
returns c = λ trace known. subst (λ (ws : List Window). IsFirstOwed c.args.plan.now trace ws c.loop-window.first)
    (take_all c.loop-window.window-index c.args.owed.now (omega (arith, c.loop-window-test.false))) (c.loop-window.invariant trace known)
