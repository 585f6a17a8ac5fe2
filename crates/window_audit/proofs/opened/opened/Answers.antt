-- A frame opens its window; each other event opens none.
use Rattle.std.proofs.Common.{◌≡◌, ◌∙◌, List, ℕ, false, refl, subst, sym}
use Rattle.net_base.specs.declared.trace.event.Event.{Event}
use Rattle.seen_network.specs.Windows.{IsOpened}
use Rattle.seen_network.specs.Seen.{seen_in}
use Rattle.window_audit.specs.Opening.{OpensWith}
use Rattle.window_audit.specs.WindowState.{FrameOpens}
use Rattle.window_audit.proofs.OpenedLemmas.{frame_opens, is_frame, none_opens, with_opens}
use Rattle.window_audit.proofs.opened.opened.Goals as goal

pub returns-in-Frame-clause-opens : goal.returns-in-Frame-clause-opens
returns-in-Frame-clause-opens c = λ before rest first of entered knows known.
    subst (λ (e : Event). IsOpened c.args.plan.now before e rest c.window_with.result) (sym c.in-Frame.is)
    (frame_opens c.args.plan.now before c.in-Frame.circuit c.in-Frame.bytes rest c.window_with.result
    (subst (FrameOpens c.args.plan.now before c.in-Frame.circuit c.in-Frame.bytes rest) (sym c.window_with.ensures)
    (with_opens c.args.plan.now before c.in-Frame.circuit c.in-Frame.bytes rest c.in-Some.entered first c.open_at-opening.result (of c.in-Frame.circuit c.in-Frame.bytes c.in-Frame.is) (sym c.in-Some.is ∙ entered)
    (subst (λ (o : List ℕ). OpensWith c.args.plan.now (seen_in before) c.in-Frame.circuit o c.open_at-opening.result) c.as_slice.ensures (c.open_at-opening.ensures.opens (seen_in before) knows known)))))

pub returns-in-Connect-clause-opens : goal.returns-in-Connect-clause-opens
returns-in-Connect-clause-opens c = λ before rest first of entered knows known. none_opens c.args.plan.now before c.args.event.now rest (subst (λ (e : Event). is_frame e ≡ false) (sym c.in-Connect.is) refl)

pub returns-in-Deliver-clause-opens : goal.returns-in-Deliver-clause-opens
returns-in-Deliver-clause-opens c = λ before rest first of entered knows known. none_opens c.args.plan.now before c.args.event.now rest (subst (λ (e : Event). is_frame e ≡ false) (sym c.in-Deliver.is) refl)

pub returns-in-Lose-clause-opens : goal.returns-in-Lose-clause-opens
returns-in-Lose-clause-opens c = λ before rest first of entered knows known. none_opens c.args.plan.now before c.args.event.now rest (subst (λ (e : Event). is_frame e ≡ false) (sym c.in-Lose.is) refl)

pub returns-in-Restart-clause-opens : goal.returns-in-Restart-clause-opens
returns-in-Restart-clause-opens c = λ before rest first of entered knows known. none_opens c.args.plan.now before c.args.event.now rest (subst (λ (e : Event). is_frame e ≡ false) (sym c.in-Restart.is) refl)

pub returns-in-Circuit-clause-opens : goal.returns-in-Circuit-clause-opens
returns-in-Circuit-clause-opens c = λ before rest first of entered knows known. none_opens c.args.plan.now before c.args.event.now rest (subst (λ (e : Event). is_frame e ≡ false) (sym c.in-Circuit.is) refl)

pub returns-in-Tick-clause-opens : goal.returns-in-Tick-clause-opens
returns-in-Tick-clause-opens c = λ before rest first of entered knows known. none_opens c.args.plan.now before c.args.event.now rest (subst (λ (e : Event). is_frame e ≡ false) (sym c.in-Tick.is) refl)

pub returns-in-Arrive-clause-opens : goal.returns-in-Arrive-clause-opens
returns-in-Arrive-clause-opens c = λ before rest first of entered knows known. none_opens c.args.plan.now before c.args.event.now rest (subst (λ (e : Event). is_frame e ≡ false) (sym c.in-Arrive.is) refl)

pub returns-in-Discard-clause-opens : goal.returns-in-Discard-clause-opens
returns-in-Discard-clause-opens c = λ before rest first of entered knows known. none_opens c.args.plan.now before c.args.event.now rest (subst (λ (e : Event). is_frame e ≡ false) (sym c.in-Discard.is) refl)

pub returns-in-Again-clause-opens : goal.returns-in-Again-clause-opens
returns-in-Again-clause-opens c = λ before rest first of entered knows known. none_opens c.args.plan.now before c.args.event.now rest (subst (λ (e : Event). is_frame e ≡ false) (sym c.in-Again.is) refl)

pub returns-in-Wire-clause-opens : goal.returns-in-Wire-clause-opens
returns-in-Wire-clause-opens c = λ before rest first of entered knows known. none_opens c.args.plan.now before c.args.event.now rest (subst (λ (e : Event). is_frame e ≡ false) (sym c.in-Wire.is) refl)

pub returns-in-Status-clause-opens : goal.returns-in-Status-clause-opens
returns-in-Status-clause-opens c = λ before rest first of entered knows known. none_opens c.args.plan.now before c.args.event.now rest (subst (λ (e : Event). is_frame e ≡ false) (sym c.in-Status.is) refl)

pub returns-in-Priority-clause-opens : goal.returns-in-Priority-clause-opens
returns-in-Priority-clause-opens c = λ before rest first of entered knows known. none_opens c.args.plan.now before c.args.event.now rest (subst (λ (e : Event). is_frame e ≡ false) (sym c.in-Priority.is) refl)

pub returns-in-Ping-clause-opens : goal.returns-in-Ping-clause-opens
returns-in-Ping-clause-opens c = λ before rest first of entered knows known. none_opens c.args.plan.now before c.args.event.now rest (subst (λ (e : Event). is_frame e ≡ false) (sym c.in-Ping.is) refl)
