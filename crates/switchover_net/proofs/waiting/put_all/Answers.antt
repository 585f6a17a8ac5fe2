-- The octets of one more call are in the pipe, until those of all are.
use Rattle.std.proofs.Common.{◌<◌, ◌≤◌, ◌++◌, ◌∙◌, List, ℕ, length, ap, sym, arith}
use Rattle.net_base.specs.declared.outside.link_call.LinkCall.{LinkCall}
use Rattle.octet_pipes.specs.Pipes.{pipes_of, with_pipe_octets}
use Rattle.switchover_net.proofs.PipeLemmas.{put_end, put_more}
use Rattle.switchover_net.proofs.waiting.put_all.Goals as goal

pub loop-place-preserved : goal.loop-place-preserved
loop-place-preserved c =
    let within : c.loop-place.place < length c.args.calls.now = omega (arith, c.loop-place-test.true) in
    record {
      size = c.put.ensures.size ∙ c.loop-place.invariant.size;
      put = put_more c.args.from.0 c.args.to.0 c.args.calls.now c.loop-place.place c.index-calls-place.result (pipes_of c.args.pipes.now) (pipes_of c.loop-place.pipes)
          (pipes_of c.put.new.self) within c.index-calls-place.is
          (c.in_ok-put.ensures.ok ∙ ap (λ (b : List ℕ). with_pipe_octets c.args.from.0 c.args.to.0 (pipes_of c.loop-place.pipes c.args.from.0 c.args.to.0 ++ b) (pipes_of c.loop-place.pipes))
          (c.as_slice.ensures ∙ ap (λ (call : LinkCall). call.bytes) (sym c.index-calls-place.is))) c.loop-place.invariant.put;
    }

pub returns-clause-ok : goal.returns-clause-ok
returns-clause-ok c =
    let past : length c.args.calls.now ≤ c.loop-place.place = omega (arith, c.loop-place-test.false) in
    put_end c.args.from.0 c.args.to.0 c.args.calls.now c.loop-place.place (pipes_of c.args.pipes.now) (pipes_of c.loop-place.pipes) past c.loop-place.invariant.put
