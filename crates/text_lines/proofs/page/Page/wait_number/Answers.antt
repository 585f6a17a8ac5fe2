-- Of the eight octets that were laid down the digits stand in front.
use Rattle.std.proofs.Common.{◌≡◌, ◌+◌, ◌-◌, ◌∙◌, ℕ, [], ◌∷◌, take, length, refl, arith, length-append}
use Rattle.std.specs.Fmt.{decimal}
use Rattle.std.proofs.lemmas.Fmt.{length-decimal-le}
use Rattle.text_lines.proofs.RoomLemmas.{digits_left, laid_len}
use Rattle.text_lines.proofs.page.Page.wait_number.Goals as goal

pub write_digits-begin-requires : goal.write_digits-begin-requires
write_digits-begin-requires c = (length-decimal-le 8 c.args.number (omega arith) (omega arith) (omega arith), omega arith)

pub overflow_sub-self : goal.overflow_sub-self
overflow_sub-self c =
    let written = c.write_digits-begin.ensures in
    let begin : ℕ = c.write_digits-begin.result in
    let some = length-append (decimal c.args.number) (0 ∷ 0 ∷ 0 ∷ 0 ∷ 0 ∷ 0 ∷ 0 ∷ 0 ∷ []) in
    let len = laid_len c.self.inside.room.items c.args.self.now _ (decimal c.args.number) _ c.self.inside.len (begin + 8 - begin) (c.self.view_is ∙ c.wait.ensures)
    (λ i. take (begin + 8 - begin) (written.written i)) (omega (arith, c.self.invariant.0, c.self.invariant.1)) (omega (arith, some)) in
    omega (arith, len, written.start)

pub returns : goal.returns
returns c =
    let written = c.write_digits-begin.ensures in
    let begin : ℕ = c.write_digits-begin.result in
    let all : begin + length (decimal c.args.number) ≡ begin + 8 - begin = omega (arith, written.start) in
    digits_left c.self.inside.room.items c.args.self.now _ (decimal c.args.number) _ c.self.inside.len begin (c.self.inside.len - begin) (begin + 8 - begin)
    (c.self.view_is ∙ c.wait.ensures) (λ i. take (begin + 8 - begin) (written.written i)) all refl (omega (arith, c.self.invariant.0, c.self.invariant.1))
    (omega (arith, length-append (decimal c.args.number) (0 ∷ 0 ∷ 0 ∷ 0 ∷ 0 ∷ 0 ∷ 0 ∷ 0 ∷ [])))
