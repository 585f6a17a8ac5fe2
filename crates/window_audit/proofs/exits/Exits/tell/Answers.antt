-- A frame that left is counted; by any other entry no frame leaves.
use Rattle.std.proofs.Common.{◌≡◌, ◌++◌, ◌∷◌, [], false, refl, subst, sym}
use Rattle.std.proofs.lemmas.Result.{on_ok_weaker}
use Rattle.net_base.specs.declared.trace.entry.Entry.{Entry}
use Rattle.seen_network.specs.Once.{times_seen}
use Rattle.window_audit.specs.Exits.{HasExits, IsAtPort, left_far}
use Rattle.window_audit.proofs.ExitLemmas.{told_left, told_other}
use Rattle.window_audit.proofs.exits.Exits.tell.Goals as goal

pub returns-in-Left : goal.returns-in-Left
returns-in-Left c =
    on_ok_weaker c.leave.result
    (λ left. λ trace has. subst (λ (e : Entry). HasExits c.leave.new.self (trace ++ e ∷ [])) (sym c.in-Left.is)
    (told_left c.in-Left.circuit c.in-Left.origin c.in-Left.hops c.in-Left.bytes c.args.self.now c.leave.new.self trace (subst IsAtPort c.in-Left.is c.requires) left has))
    c.leave.ensures

pub returns-in-Did : goal.returns-in-Did
returns-in-Did c = λ trace has. told_other c.args.entry.now c.args.self.now trace (λ o at. subst (λ (e : Entry). times_seen o at (e ∷ []) ≡ 0) (sym c.in-Did.is) refl)
    (λ o. subst (λ (e : Entry). left_far o e ≡ false) (sym c.in-Did.is) refl) has

pub returns-in-Idle : goal.returns-in-Idle
returns-in-Idle c = λ trace has. told_other c.args.entry.now c.args.self.now trace (λ o at. subst (λ (e : Entry). times_seen o at (e ∷ []) ≡ 0) (sym c.in-Idle.is) refl)
    (λ o. subst (λ (e : Entry). left_far o e ≡ false) (sym c.in-Idle.is) refl) has

pub returns-in-Said : goal.returns-in-Said
returns-in-Said c = λ trace has. told_other c.args.entry.now c.args.self.now trace (λ o at. subst (λ (e : Entry). times_seen o at (e ∷ []) ≡ 0) (sym c.in-Said.is) refl)
    (λ o. subst (λ (e : Entry). left_far o e ≡ false) (sym c.in-Said.is) refl) has

pub returns-in-In : goal.returns-in-In
returns-in-In c =
    on_ok_weaker c.enter.result
    (λ kept. λ trace has. told_other c.args.entry.now c.enter.new.self trace (λ o at. subst (λ (e : Entry). times_seen o at (e ∷ []) ≡ 0) (sym c.in-In.is) refl)
    (λ o. subst (λ (e : Entry). left_far o e ≡ false) (sym c.in-In.is) refl) (kept trace has))
    c.enter.ensures

pub returns-in-Sent : goal.returns-in-Sent
returns-in-Sent c = λ trace has. told_other c.args.entry.now c.args.self.now trace (λ o at. subst (λ (e : Entry). times_seen o at (e ∷ []) ≡ 0) (sym c.in-Sent.is) refl)
    (λ o. subst (λ (e : Entry). left_far o e ≡ false) (sym c.in-Sent.is) refl) has

pub returns-in-Copied : goal.returns-in-Copied
returns-in-Copied c = λ trace has. told_other c.args.entry.now c.args.self.now trace (λ o at. subst (λ (e : Entry). times_seen o at (e ∷ []) ≡ 0) (sym c.in-Copied.is) refl)
    (λ o. subst (λ (e : Entry). left_far o e ≡ false) (sym c.in-Copied.is) refl) has

pub returns-in-Aged : goal.returns-in-Aged
returns-in-Aged c = λ trace has. told_other c.args.entry.now c.args.self.now trace (λ o at. subst (λ (e : Entry). times_seen o at (e ∷ []) ≡ 0) (sym c.in-Aged.is) refl)
    (λ o. subst (λ (e : Entry). left_far o e ≡ false) (sym c.in-Aged.is) refl) has

pub returns-in-Dropped : goal.returns-in-Dropped
returns-in-Dropped c = λ trace has. told_other c.args.entry.now c.args.self.now trace (λ o at. subst (λ (e : Entry). times_seen o at (e ∷ []) ≡ 0) (sym c.in-Dropped.is) refl)
    (λ o. subst (λ (e : Entry). left_far o e ≡ false) (sym c.in-Dropped.is) refl) has

pub returns-in-Session : goal.returns-in-Session
returns-in-Session c = λ trace has. told_other c.args.entry.now c.args.self.now trace (λ o at. subst (λ (e : Entry). times_seen o at (e ∷ []) ≡ 0) (sym c.in-Session.is) refl)
    (λ o. subst (λ (e : Entry). left_far o e ≡ false) (sym c.in-Session.is) refl) has

pub returns-in-Wire : goal.returns-in-Wire
returns-in-Wire c = λ trace has. told_other c.args.entry.now c.args.self.now trace (λ o at. subst (λ (e : Entry). times_seen o at (e ∷ []) ≡ 0) (sym c.in-Wire.is) refl)
    (λ o. subst (λ (e : Entry). left_far o e ≡ false) (sym c.in-Wire.is) refl) has

pub returns-in-Pong : goal.returns-in-Pong
returns-in-Pong c = λ trace has. told_other c.args.entry.now c.args.self.now trace (λ o at. subst (λ (e : Entry). times_seen o at (e ∷ []) ≡ 0) (sym c.in-Pong.is) refl)
    (λ o. subst (λ (e : Entry). left_far o e ≡ false) (sym c.in-Pong.is) refl) has
