-- A cause that was told last is not told again; another one is kept and told. Causes are alike where their numbers are.
use Rattle.std.proofs.Common.{◌≡◌, ◌<◌, ◌==◌, ◌∙◌, Option, ap, length, subst, sym}
use Rattle.net_base.specs.declared.plan.Plan.{Plan}
use Rattle.net_base.specs.declared.trace.down.Down.{Down}
use Rattle.edge_model.specs.Mend.{cause_number}
use Rattle.peer_dialogue.proofs.SettleLemmas.{map_on}
use Rattle.provider_edge.specs.contracts.edge.Edge.{the_view}
use Rattle.provider_edge.proofs.ForwardLemmas.{told_read}
use Rattle.provider_edge.proofs.RowLemmas.{causes_alike, down_new, down_same}
use Rattle.provider_edge.specs.Lists.{EdgeLists, seen}
use Rattle.provider_edge.proofs.edge.Edge.tell_by.Goals as goal

pub told_last-requires : goal.told_last-requires
told_last-requires c = subst (λ (p : Plan). c.args.wire.0 < length p.wires) (sym c.self.invariant.plan)
    (subst (λ (n : EdgeLists). c.args.wire.0 < length n.plan.wires) (sym c.self.view_is) c.requires.within)

pub returns-then-eq-clause-step : goal.returns-then-eq-clause-step
returns-then-eq-clause-step c = λ place calls at.
    let told : c.told_last.result ≡ (seen c.args.self.now).told_down c.args.wire.0 =
    subst (λ (n : EdgeLists). c.told_last.result ≡ (seen n).told_down c.args.wire.0) c.self.view_is (told_read (the_view c.self.inside) c.args.wire c.told_last.result c.told_last.ensures) in
    down_same place c.args.wire c.args.down (seen c.args.self.now) calls c.args.out.now at
    (ap (λ (d : Option Down). cause_number d == cause_number c.args.down) (sym told) ∙ (sym (causes_alike c.told_last.result c.args.down) ∙ (sym c.eq.ensures ∙ c.if-eq.true)))

pub returns-clause-step : goal.returns-clause-step
returns-clause-step c =
    let told : c.told_last.result ≡ (seen c.args.self.now).told_down c.args.wire.0 =
    subst (λ (n : EdgeLists). c.told_last.result ≡ (seen n).told_down c.args.wire.0) c.self.view_is (told_read (the_view c.self.inside) c.args.wire c.told_last.result c.told_last.ensures) in
    map_on _ _ c.push.result (λ gave. λ place calls at.
    down_new place c.args.wire c.args.down (seen c.args.self.now) (seen c.set_told.new.self) calls c.args.out.now c.push.new.self at
    (ap (λ (d : Option Down). cause_number d == cause_number c.args.down) (sym told) ∙ (sym (causes_alike c.told_last.result c.args.down) ∙ (sym c.eq.ensures ∙ c.if-eq.false)))
    (c.set_told.ensures.step) gave)
    c.push.ensures.ok
