-- Octets without fault are joined TLVs, so that one stands whole at each place.
use Rattle.std.proofs.Common.{◌≡◌, ◌∙◌, ◌+◌, List, ℕ, Option, length, drop, refl, sym, ap, subst, arith}
use Rattle.std.specs.Option.{option_or}
use Rattle.ldp_grammar.specs.Rows.{row_of}
use Rattle.ldp_grammar.specs.Tlvs.{IsJoined, unknown_in}
use Rattle.ldp_codec.specs.Walk.{IsSplit}
use Rattle.ldp_codec.proofs.IndexLemmas.{IndexOn, front_whole, index_all, index_more}
use Rattle.ldp_codec.proofs.SearchLemmas.{joined_some, within_of}
use Rattle.ldp_codec.proofs.tlv_index.index_tlvs.Goals as goal

pub unreachable-requires : goal.unreachable-requires
unreachable-requires c =
    let on = c.indexing.invariant.on c.requires.sound.tlvs c.requires.sound.joined in
    let here : IsJoined c.split_at.result.1.now on.further = subst (λ (l : List ℕ). IsJoined l on.further) (sym c.split_at.ensures.back) on.joined in
    joined_some c.split_at.result.1.now on.further here (omega (arith, c.split_at.ensures.back_len, c.indexing-test.true)) (λ t more is e. c.in_default.ensures.none t more is e refl)

pub indexing-preserved : goal.indexing-preserved
indexing-preserved c =
    let octets = c.args.octets.now in
    let at = c.indexing.at in
    let word = c.in-Some.word in
    let value = c.in-Some.value.now in
    let more = c.in-Some.field-0-2.now in
    let split : IsSplit (drop at octets) word value more = subst (λ (l : List ℕ). IsSplit l word value more) c.split_at.ensures.back c.in-Some.ensures.whole in
    let unknown : option_or c.indexing.first (unknown_in (row_of c.args.kind) word) ≡ c.or-first.result = sym (c.or-first.ensures ∙ ap (option_or c.indexing.first) c.unknown.ensures) in
    record {
      within = within_of octets value more at word c.indexing.invariant.within split;
      on = λ ts joined. subst (λ (o : Option ℕ). IndexOn (row_of c.args.kind) octets ts (at + (4 + length value)) o c.keep.new.places) unknown
          (index_more (row_of c.args.kind) octets value more ts at word c.indexing.first c.indexing.places c.keep.new.places (c.indexing.invariant.on ts joined) c.indexing.invariant.within c.requires.few split c.keep.ensures.kept);
      whole = c.keep.ensures.whole octets (front_whole (drop at octets) value more word split) c.indexing.invariant.whole;
    }

pub invariant_of-result : goal.invariant_of-result
invariant_of-result c = (index_all (row_of c.args.kind) c.args.octets.now c.indexing.at c.indexing.first c.indexing.places (omega (arith, c.indexing-test.false)) c.indexing.invariant.on, c.indexing.invariant.whole)
