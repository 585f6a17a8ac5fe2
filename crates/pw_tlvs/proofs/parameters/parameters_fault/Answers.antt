-- A fault is the first, at the end there is none, and one more parameter was met.
use Rattle.std.proofs.Common.{◌+◌, ◌++◌, ◌∷◌, ◌∙◌, ℕ, List, [], length, drop, slice_index, sym, refl, subst, arith}
use Rattle.pw_tlvs.specs.declared.registry.Registry.TheVariants.{InterfaceParameter}
use Rattle.pw_tlvs.specs.SubTlvs.{SubTlv, IsFirstWrong, sub_tlv_row, values}
use Rattle.std.specs.Prelude.{◌≡◌, IsSome}
use Rattle.pw_tlvs.proofs.SubTlvLemmas.{good_more}
use Rattle.pw_tlvs.proofs.ReadLemmas.{read_fault, read_more, none_named, fresh_of}
use Rattle.pw_tlvs.proofs.parameters.parameters_fault.Goals as goal

pub returns-in-Err-clause-fault : goal.returns-in-Err-clause-fault
returns-in-Err-clause-fault c =
    let upto = c.passing.invariant.upto in
    let subs = c.passing.invariant.subs in
    let wrong = c.in-Err.ensures.fault subs (c.has.ensures subs c.passing.invariant.says) in
    read_fault InterfaceParameter 12 c.args.octets.now c.passing.at (12 + c.passing.at) subs c.in-Err.fault upto refl
    (subst (λ (l : List ℕ). IsFirstWrong InterfaceParameter subs l (12 + c.passing.at) c.in-Err.fault) c.split_at.ensures.back wrong)

pub returns-clause-none : goal.returns-clause-none
returns-clause-none c = none_named InterfaceParameter 12 c.args.octets.now c.passing.at c.passing.invariant.subs c.passing.invariant.upto (omega (arith, c.passing-test.false))

pub passing-preserved : goal.passing-preserved
passing-preserved c =
    let upto = c.passing.invariant.upto in
    let subs = c.passing.invariant.subs in
    let s : SubTlv = record { kind = c.in-Ok.sub_tlv.0; value = c.in-Ok.sub_tlv.1.now } in
    let fresh : IsSome (sub_tlv_row InterfaceParameter s.kind) → values s.kind subs ≡ [] =
    fresh_of InterfaceParameter subs s.kind (slice_index c.split_at.result.1.now 0) c.has.result c.in-Ok.ensures.kind (c.has.ensures subs c.passing.invariant.says) c.in-Ok.ensures.fresh in
    record {
      subs = subs ++ s ∷ [];
      upto = read_more InterfaceParameter c.args.octets.now c.passing.at (2 + length s.value) subs s (drop (2 + length s.value) c.split_at.result.1.now) upto
          (sym c.split_at.ensures.back ∙ c.in-Ok.ensures.spelled) refl (good_more InterfaceParameter subs s upto.good c.in-Ok.ensures.good fresh);
      says = c.with-met.ensures subs s.value c.passing.invariant.says fresh;
    }
