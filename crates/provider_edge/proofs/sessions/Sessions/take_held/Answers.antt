-- The ticks that have passed are counted before, and with other octets held a session has as many to come.
use Rattle.std.proofs.Common.{◌≡◌, ◌<◌, ◌∙◌, List, [], None, Option, ap, length, option_map, slice_index_or, slice_set, subst, sym}
use Rattle.net_values.proofs.RowLemmas.{same_read}
use Rattle.edge_model.specs.State.{Peering}
use Rattle.provider_edge.proofs.SessionsLemmas.{later_none, watched_held}
use Rattle.provider_edge.specs.Sessions.{AreWatched, all_later, holding}
use Rattle.provider_edge.proofs.sessions.Sessions.take_held.Goals as goal

pub invariant_of-self : goal.invariant_of-self
invariant_of-self c =
    let within : c.args.peer.0 < length c.pass_all.new.kept.items = subst (λ (l : List (Option Peering)). c.args.peer.0 < length l) (sym (c.pass_all.ensures ∙ c.self.view_is)) c.requires in
    let read : c.index_mut.result.now ≡ slice_index_or c.pass_all.new.kept.items c.args.peer.0 None =
    c.index_mut.ensures.value ∙ sym (same_read c.pass_all.new.kept.items c.args.peer.0 None c.index_mut.result.now within) in
    subst (λ (x : Option Peering). AreWatched c.self.inside.standing 0 c.self.inside.spare (slice_set c.pass_all.new.kept.items c.args.peer.0 x))
    (sym (c.take_held.ensures.rest ∙ ap (holding []) read))
    (watched_held c.self.inside.standing c.self.inside.passed c.self.inside.spare c.args.peer.0 c.self.inside.kept.items c.pass_all.new.kept.items
    [] c.self.invariant c.pass_all.ensures within)

pub returns-clause-rest : goal.returns-clause-rest
returns-clause-rest c =
    let within : c.args.peer.0 < length c.pass_all.new.kept.items = subst (λ (l : List (Option Peering)). c.args.peer.0 < length l) (sym (c.pass_all.ensures ∙ c.self.view_is)) c.requires in
    let read : c.index_mut.result.now ≡ slice_index_or c.pass_all.new.kept.items c.args.peer.0 None =
    c.index_mut.ensures.value ∙ sym (same_read c.pass_all.new.kept.items c.args.peer.0 None c.index_mut.result.now within) in
    ap (λ (x : Option Peering). all_later 0 (slice_set c.pass_all.new.kept.items c.args.peer.0 x)) (c.take_held.ensures.rest ∙ ap (holding []) read)
    ∙ (later_none (slice_set c.pass_all.new.kept.items c.args.peer.0 (holding [] (slice_index_or c.pass_all.new.kept.items c.args.peer.0 None)))
    ∙ ap (λ (l : List (Option Peering)). slice_set l c.args.peer.0 (holding [] (slice_index_or l c.args.peer.0 None))) (c.pass_all.ensures ∙ c.self.view_is))

pub returns-clause-taken : goal.returns-clause-taken
returns-clause-taken c =
    let within : c.args.peer.0 < length c.pass_all.new.kept.items = subst (λ (l : List (Option Peering)). c.args.peer.0 < length l) (sym (c.pass_all.ensures ∙ c.self.view_is)) c.requires in
    let read : c.index_mut.result.now ≡ slice_index_or c.pass_all.new.kept.items c.args.peer.0 None =
    c.index_mut.ensures.value ∙ sym (same_read c.pass_all.new.kept.items c.args.peer.0 None c.index_mut.result.now within) in
    c.take_held.ensures.taken
    ∙ ap (λ (x : Option Peering). option_map (λ (kept : Peering). kept.held) x)
    (read ∙ ap (λ (l : List (Option Peering)). slice_index_or l c.args.peer.0 None) (c.pass_all.ensures ∙ c.self.view_is))
