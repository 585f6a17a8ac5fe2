-- What is read in front is the first of the messages that are left.
use Rattle.std.proofs.Common.{◌≡◌, ◌+◌, ◌∙◌, ℕ, List, length, drop, sym, ap, subst, length-take, length-drop, arith}
use Rattle.ldp_grammar.specs.Spells.{Spelling, IsSpelling}
use Rattle.ldp_codec.specs.Part.{joined}
use Rattle.ldp_codec.specs.Views.{IsSoundSpelling, IsFirstOf}
use Rattle.ldp_codec.proofs.SpellingsLemmas.{first_read, first_within}
use Rattle.ldp_codec.proofs.messages.first_message.Goals as goal

pub split_at-requires-2 : goal.split_at-requires-2
split_at-requires-2 c =
    let within = first_within (joined c.args.rest) c.requires.passed c.requires.some in
    omega (arith, within.header, within.least, within.most, ap length c.split_at.ensures.front, length-take (4 + c.two-len.result) (joined c.args.rest), c.two-len.ensures)

pub of-requires-clause-few : goal.of-requires-clause-few
of-requires-clause-few c =
    omega (
      arith,
      c.requires.few,
      ap length c.split_at-2.ensures.back,
      length-drop 8 (joined c.split_at.result.0),
      ap length c.split_at.ensures.front,
      length-take (4 + c.two-len.result) (joined c.args.rest),
    )

pub of-requires-clause-fit : goal.of-requires-clause-fit
of-requires-clause-fit c =
    let read = first_read (joined c.args.rest) (joined c.split_at.result.0) c.two-word.result c.two-len.result c.four-number.result
    (joined c.split_at.result.1) c.requires.passed c.requires.some c.two-word.ensures c.two-len.ensures c.four-number.ensures c.split_at.ensures.front c.split_at.ensures.back in
    subst (λ (l : List ℕ). IsSpelling (record { word = c.two-word.result; id = c.four-number.result; body = l })) (sym c.split_at-2.ensures.back) read.fits

pub of-requires-clause-sound : goal.of-requires-clause-sound
of-requires-clause-sound c =
    let read = first_read (joined c.args.rest) (joined c.split_at.result.0) c.two-word.result c.two-len.result c.four-number.result
    (joined c.split_at.result.1) c.requires.passed c.requires.some c.two-word.ensures c.two-len.ensures c.four-number.ensures c.split_at.ensures.front c.split_at.ensures.back in
    subst (λ (l : List ℕ). IsSoundSpelling (record { word = c.two-word.result; id = c.four-number.result; body = l })) (sym c.split_at-2.ensures.back) read.sound

pub returns-clause-first : goal.returns-clause-first
returns-clause-first c =
    let read = first_read (joined c.args.rest) (joined c.split_at.result.0) c.two-word.result c.two-len.result c.four-number.result
    (joined c.split_at.result.1) c.requires.passed c.requires.some c.two-word.ensures c.two-len.ensures c.four-number.ensures c.split_at.ensures.front c.split_at.ensures.back in
    let is : record { word = c.two-word.result; id = c.four-number.result; body = drop 8 (joined c.split_at.result.0) } ≡ c.of.result =
    (λ i. record { word = c.two-word.result; id = c.four-number.result; body = sym c.split_at-2.ensures.back i }) ∙ sym c.of.ensures in
    subst (λ (m : Spelling). IsFirstOf (joined c.args.rest) m (joined c.split_at.result.1)) is read.first
