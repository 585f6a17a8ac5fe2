-- The first fault of the parameters is that of the value.
use Rattle.std.proofs.Common.{◌∙◌, List, ℕ, drop, subst, length, arith, ap, length-drop}
use Rattle.std.proofs.lemmas.Result.{err_from_is_err_and}
use Rattle.std.proofs.lemmas.List.{drop-drop}
use Rattle.pw_tlvs.specs.declared.registry.Registry.TheVariants.{InterfaceParameter}
use Rattle.pw_tlvs.specs.Faults.{IsFirstIn}
use Rattle.pw_tlvs.specs.SubTlvs.{IsNamed}
use Rattle.pw_tlvs.proofs.FecLemmas.{parameter_first}
use Rattle.pw_tlvs.proofs.fec_reading.element_of.Goals as goal

pub returns-in_err-pw_id-clause-fault : goal.returns-in_err-pw_id-clause-fault
returns-in_err-pw_id-clause-fault c =
    let p = err_from_is_err_and c.from_residual.result c.from_residual.ensures.1 in
    let back = ap (drop 4) c.split_at-3.ensures.back ∙ drop-drop 4 8 c.args.value.now in
    let inner = subst (λ (l : List ℕ). IsFirstIn (IsNamed InterfaceParameter 12 l) c.in_err-pw_id.field-0.0) back c.in_err-pw_id.ensures.fault in
    let some = c.in_err-pw_id.ensures.some in
    let len = ap length c.split_at-3.ensures.back in
    let parts = length-drop 8 c.args.value.now in
    let whole = c.requires.whole in
    rw (p.1, p.2) (parameter_first c.args.value.now c.in_err-pw_id.field-0.0 c.requires.begun c.requires.long (omega (arith, some, len, parts, whole)) whole inner)
