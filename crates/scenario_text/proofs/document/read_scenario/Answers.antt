-- A document is UTF-8 text.
use Rattle.scenario_text.proofs.DocumentLemmas.{gives_document, document_other}
use Rattle.scenario_text.proofs.document.read_scenario.Goals as goal

pub returns-in-Ok-clause-document : goal.returns-in-Ok-clause-document
returns-in-Ok-clause-document c = gives_document c.args.bytes.now c.in-Ok.text.now c.read_text.result c.in-Ok.ensures.cases.0 c.in-Ok.ensures.cases.1 c.read_text.ensures.exact

pub returns-in-Err-clause-document : goal.returns-in-Err-clause-document
returns-in-Err-clause-document c = document_other c.args.bytes.now c.in-Err.ensures.cases.0
