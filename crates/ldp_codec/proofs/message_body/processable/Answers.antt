-- The first reason is why a message is not processed; where there is none, its FEC is an element.
use Rattle.std.proofs.Common.{subst, sym}
use Rattle.ldp_codec.specs.Walk.{HasElement}
use Rattle.ldp_codec.proofs.ReasonLemmas.{complete, has_element, unprocessed}
use Rattle.ldp_codec.proofs.message_body.processable.Goals as goal

pub returns-in-Some-clause-unprocessed : goal.returns-in-Some-clause-unprocessed
returns-in-Some-clause-unprocessed c =
    let w = c.requires.sound in
    unprocessed c.args.kind c.args.body.now c.reason_not.result c.in-Some.why w
    (c.reason_not.ensures.first w.tlvs w.joined (c.fec_of-fec.ensures.told w.tlvs w.joined w.faultless) (c.requires.first w.tlvs w.joined)) c.in-Some.is

pub returns-in-None-clause-complete : goal.returns-in-None-clause-complete
returns-in-None-clause-complete c =
    let w = c.requires.sound in
    complete c.args.kind c.args.body.now c.reason_not.result w (c.reason_not.ensures.first w.tlvs w.joined (c.fec_of-fec.ensures.told w.tlvs w.joined w.faultless) (c.requires.first w.tlvs w.joined)) c.in-None.is

pub returns-in-None-clause-element : goal.returns-in-None-clause-element
returns-in-None-clause-element c =
    let w = c.requires.sound in
    let whole = complete c.args.kind c.args.body.now c.reason_not.result w
    (c.reason_not.ensures.first w.tlvs w.joined (c.fec_of-fec.ensures.told w.tlvs w.joined w.faultless) (c.requires.first w.tlvs w.joined)) c.in-None.is in
    subst (HasElement c.args.kind c.args.body.now) (sym c.element_in.ensures) (has_element c.args.kind c.args.body.now c.fec_of-fec.result whole c.fec_of-fec.ensures.told)
