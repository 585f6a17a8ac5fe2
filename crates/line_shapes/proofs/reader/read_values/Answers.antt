-- A word that does not fit ends the reading; a value more goes on with it, and its place is small.
use Rattle.std.proofs.Common.{◌+◌, [], ◌∷◌, List, ℕ, length, take, sym, ap, subst, arith, length-append}
use Rattle.line_shapes.specs.Shapes.{AreSmall}
use Rattle.line_shapes.proofs.StopLemmas.{fails, goes_on}
use Rattle.line_shapes.proofs.ValueLemmas.{small_more}
use Rattle.line_shapes.proofs.reader.read_values.Goals as goal

pub returns-in-Err-clause-exact : goal.returns-in-Err-clause-exact
returns-in-Err-clause-exact g c =
    fails c.args.plan.now (g.W.Words.words c.args.line.now) c.args.kinds.now c.loop-place.values c.loop-place.place c.in-Err.word _ _ c.loop-place-test.true c.in-Err.ensures.exact c.loop-place.invariant.0

pub loop-place-preserved : goal.loop-place-preserved
loop-place-preserved g c = (
  goes_on c.args.plan.now (g.W.Words.words c.args.line.now) c.args.kinds.now c.loop-place.values c.push.new.self c.loop-place.place c.in-Ok.value _ _ c.loop-place-test.true c.push.ensures
      c.in-Ok.ensures.exact c.loop-place.invariant.0,
  omega (arith, ap (λ (l : List ℕ). length l) c.push.ensures, length-append c.loop-place.values (c.in-Ok.value ∷ []), c.loop-place.invariant.1),
  subst (AreSmall (take (c.loop-place.place + 1) c.args.kinds.now)) (sym c.push.ensures)
      (small_more c.args.kinds.now c.loop-place.values c.loop-place.place _ c.in-Ok.value c.loop-place-test.true c.loop-place.invariant.1 c.in-Ok.ensures.small c.loop-place.invariant.2),
)
