use Rattle.std.proofs.Common.{◌≡◌, ◌<◌, ◌^◌, drop, min}
use Rattle.provider_edge.specs.Sessions.{least_quiet}
use Rattle.provider_edge.proofs.sessions.least_quiet.Given as goal

abbrev pub invariant-loop-one : goal.invariant-loop-one
invariant-loop-one l = record {
  few : l.least < 2 ^ 64;
  least : min l.least (least_quiet (drop l.one-index l.kept)) ≡ least_quiet l.kept;
}
