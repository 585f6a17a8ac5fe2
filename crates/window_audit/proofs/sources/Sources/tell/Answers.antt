-- A frame that came in names a source; any other entry names none.
use Rattle.std.proofs.Common.{◌++◌, ◌∷◌, ◌≡◌, [], List, ℕ, false, refl, subst, sym}
use Rattle.std.proofs.lemmas.Result.{on_ok_weaker}
use Rattle.net_base.specs.declared.trace.entry.Entry.{Entry}
use Rattle.seen_network.specs.Once.{is_sourced_by}
use Rattle.window_audit.specs.Sources.{HasEnteredOnce, HasSources}
use Rattle.window_audit.proofs.SourceLemmas.{told_in, told_other}
use Rattle.window_audit.proofs.sources.Sources.tell.Goals as goal

pub returns-in-In : goal.returns-in-In
returns-in-In c =
    on_ok_weaker c.enter.result
    (λ entered. λ trace has. subst (λ (e : Entry). HasSources c.args.plan.now c.enter.new.self (trace ++ e ∷ [])) (sym c.in-In.is)
    (told_in c.args.plan.now c.in-In.circuit c.in-In.number c.in-In.bytes c.args.self.now c.enter.new.self trace
    (subst (λ (o : List ℕ). HasEnteredOnce c.args.plan.now c.in-In.circuit o c.args.self.now c.enter.new.self) c.as_slice.ensures entered) has))
    c.enter.ensures

pub returns-in-Did : goal.returns-in-Did
returns-in-Did c = λ trace has. told_other c.args.plan.now c.args.entry.now c.args.self.now trace (λ service address. subst (λ (e : Entry). is_sourced_by c.args.plan.now service address e ≡
    false) (sym c.in-Did.is) refl) has

pub returns-in-Idle : goal.returns-in-Idle
returns-in-Idle c = λ trace has. told_other c.args.plan.now c.args.entry.now c.args.self.now trace (λ service address. subst (λ (e : Entry). is_sourced_by c.args.plan.now service address e ≡
    false) (sym c.in-Idle.is) refl) has

pub returns-in-Said : goal.returns-in-Said
returns-in-Said c = λ trace has. told_other c.args.plan.now c.args.entry.now c.args.self.now trace (λ service address. subst (λ (e : Entry). is_sourced_by c.args.plan.now service address e ≡
    false) (sym c.in-Said.is) refl) has

pub returns-in-Sent : goal.returns-in-Sent
returns-in-Sent c = λ trace has. told_other c.args.plan.now c.args.entry.now c.args.self.now trace (λ service address. subst (λ (e : Entry). is_sourced_by c.args.plan.now service address e ≡
    false) (sym c.in-Sent.is) refl) has

pub returns-in-Copied : goal.returns-in-Copied
returns-in-Copied c = λ trace has. told_other c.args.plan.now c.args.entry.now c.args.self.now trace (λ service address. subst (λ (e : Entry). is_sourced_by c.args.plan.now service address e ≡
    false) (sym c.in-Copied.is) refl) has

pub returns-in-Aged : goal.returns-in-Aged
returns-in-Aged c = λ trace has. told_other c.args.plan.now c.args.entry.now c.args.self.now trace (λ service address. subst (λ (e : Entry). is_sourced_by c.args.plan.now service address e ≡
    false) (sym c.in-Aged.is) refl) has

pub returns-in-Left : goal.returns-in-Left
returns-in-Left c = λ trace has. told_other c.args.plan.now c.args.entry.now c.args.self.now trace (λ service address. subst (λ (e : Entry). is_sourced_by c.args.plan.now service address e ≡
    false) (sym c.in-Left.is) refl) has

pub returns-in-Dropped : goal.returns-in-Dropped
returns-in-Dropped c = λ trace has. told_other c.args.plan.now c.args.entry.now c.args.self.now trace (λ service address. subst (λ (e : Entry). is_sourced_by c.args.plan.now service address e ≡
    false) (sym c.in-Dropped.is) refl) has

pub returns-in-Session : goal.returns-in-Session
returns-in-Session c = λ trace has. told_other c.args.plan.now c.args.entry.now c.args.self.now trace (λ service address. subst (λ (e : Entry). is_sourced_by c.args.plan.now service address e ≡
    false) (sym c.in-Session.is) refl) has

pub returns-in-Wire : goal.returns-in-Wire
returns-in-Wire c = λ trace has. told_other c.args.plan.now c.args.entry.now c.args.self.now trace (λ service address. subst (λ (e : Entry). is_sourced_by c.args.plan.now service address e ≡
    false) (sym c.in-Wire.is) refl) has

pub returns-in-Pong : goal.returns-in-Pong
returns-in-Pong c = λ trace has. told_other c.args.plan.now c.args.entry.now c.args.self.now trace (λ service address. subst (λ (e : Entry). is_sourced_by c.args.plan.now service address e ≡
    false) (sym c.in-Pong.is) refl) has
