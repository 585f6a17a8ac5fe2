-- Each parameter stands behind those before it, and all behind the element.
use Rattle.std.proofs.Common.{◌++◌, ◌∙◌, ℕ, List, ap, append_assoc}
use Rattle.std.specs.Prelude.{codes}
use Rattle.std.proofs.lemmas.Result.{on_ok_weaker}
use Rattle.text_pieces.specs.Pieces.{spaced}
use Rattle.message_text.specs.Words.{description_words, element_word, parameter_words, params_words, vccv_words}
use Rattle.text_pieces.proofs.SpacedLemmas.{both_told}
use Rattle.message_text.proofs.pseudowire.put_fec.Goals as goal

pub returns : goal.returns
returns c =
    let old = c.args.text.now.items in
    let begun = c.put_element.new.text.items in
    let fec = c.args.fec.now in
    let p = fec.params in
    let mtu = parameter_words (codes "mtu=") p.mtu in
    let vlan = parameter_words (codes "vlan=") p.vlan in
    let described = c.put_description.new.text.items in
    let first = both_told begun c.put_parameter.new.text.items described mtu (description_words p.description) c.in_ok-put_parameter.ensures c.in_ok-put_description.ensures in
    let second = both_told begun described c.put_parameter-2.new.text.items (mtu ++ description_words p.description) vlan first c.in_ok-put_parameter-2.ensures in
    on_ok_weaker c.put_vccv.result (λ told. both_told begun c.put_parameter-2.new.text.items c.put_vccv.new.text.items ((mtu ++ description_words p.description) ++ vlan)
    (vccv_words p.vccv) second told
    ∙ (ap (λ (text : List ℕ). text ++ spaced (params_words p)) c.in_ok-put_element.ensures ∙ append_assoc old (codes " " ++ element_word fec) (spaced (params_words p)))) c.put_vccv.ensures
