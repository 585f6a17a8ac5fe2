use Rattle.std.proofs.Common.{◌≡◌, ◌≤◌, ◌*◌}
use Rattle.survey_text.proofs.CaseLemmas.{pairs_at, triples_at}
use Rattle.survey_text.proofs.cases.count_cases.Given as goal

abbrev pub invariant-loop-count : goal.invariant-loop-count
invariant-loop-count l = record {
  pairs : l.pairs ≡ pairs_at l.count;
  triples : l.triples ≡ triples_at l.count;
  few : l.pairs ≤ l.count * 4294967296;
  most : l.triples ≤ l.count * (4294967296 * 4294967296);
}
