-- A fault is the first, and one more part is read.
use Rattle.std.proofs.Common.{◌+◌, ◌++◌, ◌∷◌, ◌∙◌, ℕ, List, [], length, drop, slice_index, sym, refl, subst, arith}
use Rattle.std.proofs.lemmas.Result.{err_from_is_err_and}
use Rattle.pw_tlvs.specs.declared.registry.Registry.TheVariants.{SwitchingPointPart}
use Rattle.pw_tlvs.specs.SubTlvs.{SubTlv, IsFirstWrong, sub_tlv_row, values}
use Rattle.std.specs.Prelude.{◌≡◌, IsSome}
use Rattle.pw_tlvs.proofs.SubTlvLemmas.{good_more}
use Rattle.pw_tlvs.proofs.ReadLemmas.{read_fault, read_more, fresh_of}
use Rattle.pw_tlvs.proofs.point_reading.point_of.Goals as goal

pub returns-in_err-kind-clause-fault : goal.returns-in_err-kind-clause-fault
returns-in_err-kind-clause-fault c =
    let p = err_from_is_err_and c.from_residual.result c.from_residual.ensures.1 in
    let upto = c.reading.invariant.upto in
    let subs = c.reading.invariant.subs in
    let wrong = c.in_err-kind.ensures.fault subs (c.has.ensures subs c.reading.invariant.says) in
    rw (p.1, p.2) (read_fault SwitchingPointPart 0 c.args.value.now c.reading.at c.reading.at subs c.in_err-kind.field-0.0 upto (omega arith)
    (subst (λ (l : List ℕ). IsFirstWrong SwitchingPointPart subs l c.reading.at c.in_err-kind.field-0.0) c.split_at.ensures.back wrong))

pub reading-preserved : goal.reading-preserved
reading-preserved c =
    let upto = c.reading.invariant.upto in
    let subs = c.reading.invariant.subs in
    let s : SubTlv = record { kind = c.in_ok-kind.kind; value = c.in_ok-kind.octets.now } in
    let fresh : IsSome (sub_tlv_row SwitchingPointPart c.in_ok-kind.kind) → values c.in_ok-kind.kind subs ≡ [] =
    fresh_of SwitchingPointPart subs c.in_ok-kind.kind (slice_index c.split_at.result.1.now 0) c.has.result c.in_ok-kind.ensures.kind
    (c.has.ensures subs c.reading.invariant.says) c.in_ok-kind.ensures.fresh in
    record {
      subs = subs ++ s ∷ [];
      upto = read_more SwitchingPointPart c.args.value.now c.reading.at (2 + length c.in_ok-kind.octets.now) subs s
          (drop (2 + length c.in_ok-kind.octets.now) c.split_at.result.1.now) upto (sym c.split_at.ensures.back ∙ c.in_ok-kind.ensures.spelled) refl
          (good_more SwitchingPointPart subs s upto.good c.in_ok-kind.ensures.good fresh);
      says = c.with-point.ensures subs c.reading.invariant.says fresh;
    }
