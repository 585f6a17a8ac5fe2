-- One more circuit is passed: it is a site exactly where a copy is due there.
use Rattle.std.proofs.Common.{◌≡◌, ◌<◌, ◌&&◌, ◌∙◌, ℕ, List, ap, get_or, length, subst, sym}
use Rattle.std.proofs.lemmas.Bool.{eqb-false}
use Rattle.net_values.proofs.NumberLemmas.{not_below_itself}
use Rattle.net_base.specs.declared.plan.circuit_plan.CircuitPlan.{CircuitPlan}
use Rattle.hvpls_spokes.specs.PortSet.{holds_port}
use Rattle.window_audit.specs.Opening.{is_due}
use Rattle.window_audit.proofs.OpeningLemmas.{sites_more}
use Rattle.window_audit.proofs.opening.sites.Goals.{else-is_site, then-is_site}
use Rattle.window_audit.proofs.opening.sites.Goals as goal

pub loop-place-preserved : goal.loop-place-preserved
loop-place-preserved c = λ seen knows.
    let place = c.loop-place.place in
    let row = c.index-rows-place.result in
    let within : place < length c.args.plan.now.circuits = subst (λ (xs : List CircuitPlan). place < length xs) c.as_slice-rows.ensures c.loop-place-test.true in
    let is : row ≡ get_or c.args.plan.now.circuits place row = subst (λ (xs : List CircuitPlan). row ≡ get_or xs place row) c.as_slice-rows.ensures c.index-rows-place.is in
    elim c.if-is_site.branch [
      | then-is_site w ↦ sites_more c.args.plan.now seen c.args.service c.args.sender place row c.loop-place.sites c.if-is_site.sites within is (c.loop-place.invariant seen knows)
          (ap (λ (s : List ℕ). holds_port s place) w.sites-is ∙ (w.insert.ensures.it ∙ (sym w.if-is_site.true ∙ c.is_site.ensures seen knows)))
          (λ q away. ap (λ (s : List ℕ). holds_port s q) w.sites-is ∙ w.insert.ensures.others q (eqb-false q place away))
      | else-is_site w ↦ sites_more c.args.plan.now seen c.args.service c.args.sender place row c.loop-place.sites c.if-is_site.sites within is (c.loop-place.invariant seen knows)
          (ap (λ (s : List ℕ). holds_port s place) w.sites-is
          ∙ (c.loop-place.invariant seen knows place ∙ (ap (λ b. b && is_due c.args.plan.now seen c.args.service c.args.sender place) (not_below_itself place) ∙ (sym w.if-is_site.false
          ∙ c.is_site.ensures seen knows))))
          (λ q away. ap (λ (s : List ℕ). holds_port s q) w.sites-is)
    ]
