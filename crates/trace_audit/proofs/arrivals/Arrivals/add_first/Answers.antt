use Rattle.std.proofs.Common.{◌==◌, ◌++◌, ◌∷◌, ◌∙◌, [], List, Some, ℕ, ap, cond}
use Rattle.std.proofs.lemmas.Result.{on_ok_weaker}
use Rattle.seen_state.specs.Numbered.{Values, value_at}
use Rattle.trace_audit.specs.declared.arrivals.First.{First}
use Rattle.trace_audit.proofs.ArrivalLemmas.{added_behind}
use Rattle.trace_audit.proofs.arrivals.Arrivals.add_first.Goals as goal

pub returns : goal.returns
returns c =
    let made = c.next_first-first.ensures in
    on_ok_weaker c.place.result
    (λ put. added_behind c.args.self.now c.place.new.self c.push_octets.new.self.octets c.args.frame.front.now c.args.frame.back.now c.next_first-first.result c.args.frame.number c.args.frame.service
    c.next_place-place.result made.inside c.requires.new made.number made.at made.len made.service c.next_place-place.ensures
    c.in_ok-push_octets.ensures.octets
    (c.place.ensures.octets ∙ (c.push_first.ensures.octets ∙ c.in_ok-push_octets-2.ensures.octets))
    (c.place.ensures.firsts ∙ (c.in_ok-push_first.ensures.firsts ∙ ap (λ (fs : List First). fs ++ c.next_first-first.result ∷ []) (c.push_octets-2.ensures.firsts ∙ c.push_octets.ensures.firsts)))
    (λ n. put n ∙ ap (λ (v : Values ℕ). cond (n == c.args.frame.number) (Some c.next_place-place.result) (value_at v n)) (c.push_first.ensures.places
    ∙ (c.push_octets-2.ensures.places ∙ c.push_octets.ensures.places)))
    (c.place.ensures.others ∙ (c.push_first.ensures.others ∙ (c.push_octets-2.ensures.others ∙ c.push_octets.ensures.others))))
    c.place.ensures.places
