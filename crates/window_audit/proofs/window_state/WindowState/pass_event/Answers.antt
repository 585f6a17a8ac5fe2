-- Behind the event and its entries what is known, remembered, open_windows and owed is that of the longer trace: the entries that were kept
-- show what all show.
use Rattle.std.proofs.lemmas.Result.{on_ok_weaker}
use Rattle.std.proofs.Common.{◌++◌, ◌∷◌, ◌∙◌, List, Some, ℕ, ap, option_map, subst}
use Rattle.net_base.specs.declared.trace.entry.Entry.TheVariants.{Did}
use Rattle.seen_network.specs.Seen.{Seen, happened_or, seen_from, seen_in}
use Rattle.window_audit.specs.CalmMemory.{Remembers}
use Rattle.window_audit.specs.OpenWindows.{HasClosed, are_copies_over, was_flooded, windows_at}
use Rattle.window_audit.specs.Losses.{Follows}
use Rattle.window_audit.specs.WindowState.{placed_behind}
use Rattle.window_audit.proofs.WindowStateLemmas.{passed_on}
use Rattle.window_audit.proofs.window_state.WindowState.pass_event.Goals as goal

pub returns-clause-windows : goal.returns-clause-windows
returns-clause-windows c = on_ok_weaker c.close.result
    (λ closed. λ done rest told at has sources.
    let idle = c.args.during.now.idle in
    let all = done ++ Did c.args.event.now ∷ rest in
    let between = happened_or c.args.during.now.idle c.args.event.now (seen_in done) in
    let shows = ap (seen_from between) c.as_slice-kept.ensures.value ∙ told.shows between in
    let first = c.in_ok-happen.ensures.follows (seen_in done) has.state in
    let then = c.in_ok-tell.ensures.follows between first.knows in
    let p = passed_on c.args.plan.now done c.args.event.now rest c.opened-window.result c.args.during.now.idle c.happen-2.new.state c.tell-2.new.state c.tell.new.self _
    c.happen-2.new.losses.items c.tell-2.new.losses.items c.open.new.losses.items
    c.args.self.now.open_windows c.spare.new.open_windows c.open.new.open_windows c.close.new.open_windows c.args.self.now.owed.items c.close.new.owed.items
    told.bare told.idle has.open_windows has.owed
    (c.opened-window.ensures.opens done rest c.args.during.now.first (λ circuit octets is. told.first circuit octets (c.requires.event ∙ ap Some is))
    (c.placed-entered.ensures ∙ ap (λ (n : ℕ). option_map (placed_behind n) c.args.during.now.first) at) has.state has.calm)
    (c.spare.ensures (seen_in done) has.state.tells) first
    (subst (λ (s : Seen). Follows between s c.tell-2.new.state c.happen-2.new.losses.items c.tell-2.new.losses.items) shows then)
    (subst (λ (s : Seen). Remembers c.args.plan.now s c.tell.new.self) shows
    (c.tell.ensures c.args.plan.now _ (c.happen.ensures c.args.plan.now (seen_in done) (c.opened-window.ensures.remembers (seen_in done) has.state has.calm))))
    c.in_ok-open.ensures.opened c.in_ok-open.ensures.kept c.in_ok-open.ensures.noted
    (λ seen knows.
    subst (λ (losses : List ℕ). HasClosed (are_copies_over seen losses) (was_flooded c.args.plan.now all) (windows_at c.open.new.open_windows) (windows_at c.close.new.open_windows) c.args.self.now.owed.items
    c.close.new.owed.items) c.as_slice.ensures.value (closed c.args.plan.now all seen knows sources)) in
    record { state = p.0; calm = p.1; open_windows = p.2; owed = p.3 })
    c.close.ensures
