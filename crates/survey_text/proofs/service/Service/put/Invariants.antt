use Rattle.survey_text.proofs.service.Service.put.Given as goal

abbrev pub ghost-apart : goal.ghost-apart
ghost-apart g a = g.before

abbrev pub ghost-put_line : goal.ghost-put_line
ghost-put_line g a = g.before

abbrev pub ghost-put_off : goal.ghost-put_off
ghost-put_off g a = g.before

abbrev pub ghost-put_apart : goal.ghost-put_apart
ghost-put_apart g a = g.before
