use Rattle.std.proofs.Common.{◌∙◌, ℕ, ap, refl, subst, sym}
use Rattle.seen_state.specs.Copies.{CopyMaps, TellsPackets}
use Rattle.seen_state.specs.Numbered.{Values, value_at}
use Rattle.seen_state.proofs.CopyLemmas.{went_none, went_one}
use Rattle.seen_state.proofs.copies.Copies.go.Goals as goal

pub returns-in_default-clause-told : goal.returns-in_default-clause-told
returns-in_default-clause-told c = λ copies told.
    went_none (record { origins = c.self.inside.origins; counts = c.self.inside.counts; comings = c.self.inside.comings }) _ c.args.number (sym c.in_default.ensures.value) c.in_default.ensures.left (λ o. refl)
    copies (subst (λ (m : CopyMaps). TellsPackets m copies) (sym c.self.view_is) told)

pub returns-clause-told : goal.returns-clause-told
returns-clause-told c = λ copies told.
    went_one (record {
      origins = c.self.inside.origins;
      counts = c.self.inside.counts;
      comings = c.self.inside.comings;
    }) c.count_down.new.self c.args.number c.in-Some.origin (sym c.in-Some.ensures.value)
    (λ n. ap (λ (values : Values ℕ). value_at values n) c.in_ok-count_down.ensures.origins ∙ c.in-Some.ensures.left n)
    c.in_ok-count_down.ensures.counts copies (subst (λ (m : CopyMaps). TellsPackets m copies) (sym c.self.view_is) told)
