-- What is kept of a type's field is the first value of the type.
use Rattle.std.proofs.Common.{◌≡◌, ◌∙◌, List, ℕ, get_or, drop, sym, ap, subst}
use Rattle.std.proofs.lemmas.Bool.{ne_eqb}
use Rattle.ldp_grammar.specs.Tlvs.{IsJoined}
use Rattle.ldp_codec.specs.TlvIndex.{front_value}
use Rattle.ldp_codec.proofs.IndexLemmas.{absent_at, found_at}
use Rattle.ldp_codec.proofs.tlv_index.TlvIndex.value.Goals as goal

pub returns-then-at-clause-value : goal.returns-then-at-clause-value
returns-then-at-clause-value c = λ ts joined. absent_at c.self.inside.octets.now c.self.inside.places ts c.args.tlv c.in-Some.field c.self.invariant.0
    (subst (λ (l : List ℕ). IsJoined l ts) (sym c.self.view_is) joined) (sym c.in-Some.is ∙ c.field_of_type.ensures)
    (subst (λ (n : ℕ). get_or c.self.inside.places n 0 ≡ 65535) c.place_of.ensures.place c.if-at.true)

pub returns-clause-value : goal.returns-clause-value
returns-clause-value c = λ ts joined. found_at c.self.inside.octets.now c.self.inside.places c.value_in_front.result.now ts c.args.tlv c.in-Some.field c.self.invariant.0
    (subst (λ (l : List ℕ). IsJoined l ts) (sym c.self.view_is) joined) (sym c.in-Some.is ∙ c.field_of_type.ensures)
    (ne_eqb _ _ (subst (λ (n : ℕ). get_or c.self.inside.places n 0 ≡ 65535 → ⊥) c.place_of.ensures.place c.if-at.false))
    (c.value_in_front.ensures.value ∙ ap front_value (c.split_at.ensures.back ∙ ap (λ (n : ℕ). drop (get_or c.self.inside.places n 0) c.self.inside.octets.now) c.place_of.ensures.place))
