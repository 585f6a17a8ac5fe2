-- The first line named the format.
use Rattle.std.proofs.Common.{◌∙◌, sym}
use Rattle.report_entries.proofs.BeginLemmas.{has_begun}
use Rattle.report_entries.proofs.report_reader.ReportReader.begin.Goals as goal

pub returns-in-Ok : goal.returns-in-Ok
returns-in-Ok c = has_begun c.args.text.now c.cut_at.result.0 c.in-Some.rest c.cut_at.result.1 c.first.result c.in-Ok.writer.page c.cut_at.ensures.front c.cut_at.ensures.behind c.in-Some.is (sym c.is_word.ensures ∙ c.if-not-is_word.false) c.first.ensures c.in-Ok.ensures
