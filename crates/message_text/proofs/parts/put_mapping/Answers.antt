-- Status and switching points stand behind the label.
use Rattle.std.proofs.Common.{◌++◌, ◌∷◌, []}
use Rattle.std.proofs.lemmas.Result.{on_ok_weaker}
use Rattle.message_text.specs.Words.{fec_words, label_word, point_words, pw_status_words}
use Rattle.text_pieces.proofs.SpacedLemmas.{both_told}
use Rattle.message_text.proofs.parts.put_mapping.Goals as goal

pub returns : goal.returns
returns c =
    let old = c.args.text.now.items in
    let front = both_told old c.put_binding.new.text.items c.put_pw_status.new.text.items (fec_words c.args.fec.now ++ (label_word c.args.label ∷ []))
    (pw_status_words c.args.pw_status) c.in_ok-put_binding.ensures c.in_ok-put_pw_status.ensures in
    on_ok_weaker c.put_points.result (λ told. both_told old c.put_pw_status.new.text.items c.put_points.new.text.items
    ((fec_words c.args.fec.now ++ (label_word c.args.label ∷ [])) ++ pw_status_words c.args.pw_status) (point_words c.args.points.now) front told) c.put_points.ensures
