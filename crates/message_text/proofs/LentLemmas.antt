-- The lines of messages that are lent, one after another.
use Rattle.std.proofs.Common.{◌≡◌, ◌++◌, ◌∙◌, ℕ, List, [], ◌∷◌, refl, sym, ap, subst, append_assoc, append-nil}
use Rattle.ldp_grammar.specs.declared.message.Message.{Message}
use Rattle.ldp_grammar.specs.declared.message.Message.TheVariants as message
use Rattle.ldp_grammar.specs.Spells.{Spelling, StandsFor}
use Rattle.ldp_grammar.proofs.MessageLemmas.{stand_more}
use Rattle.message_text.specs.Lent.{AddsLine, AddsLines}
use Rattle.message_text.specs.Line.{decoded_line, decoded_lines}

-- the line of a KeepAlive, and of a message that was read
keep_alive_line : (base : ℕ) (s : Spelling) (id : ℕ) (before after : List ℕ) → StandsFor s (message.KeepAlive s.id) → id ≡ s.id → after
    ≡ before ++ decoded_line base (message.KeepAlive id) → AddsLine base s before after
keep_alive_line base s id before after stands is line = record { message = message.KeepAlive s.id; stands = stands; line = line ∙ ap (λ (n : ℕ). before ++ decoded_line base (message.KeepAlive n)) is }

pub read_line : (base : ℕ) (s : Spelling) (m : Message) (before after : List ℕ) → StandsFor s m → after ≡ before ++ decoded_line base m → AddsLine base s before after
read_line base s m before after stands line = record { message = m; stands = stands; line = line }

-- one more line stands behind the others
one_more : (base : ℕ) (messages : List Message) (message : Message) → decoded_lines base (messages ++ message ∷ []) ≡ decoded_lines base messages ++ decoded_line base message
one_more base [] message = append-nil (decoded_line base message)
one_more base (first ∷ messages) message =
    ap (λ (l : List ℕ). decoded_line base first ++ l) (one_more base messages message) ∙ sym (append_assoc (decoded_line base first) (decoded_lines base messages) (decoded_line base message))

-- the lines of the messages so far were added, and these are left
pub record AddsSoFar (base : ℕ) (spellings left : List Spelling) (before now : List ℕ) : Type 0 where
  pub front : List Spelling
  pub split : spellings ≡ front ++ left
  pub added : AddsLines base front before now

pub adds_none : (base : ℕ) (spellings : List Spelling) (before : List ℕ) → AddsSoFar base spellings spellings before before
adds_none base spellings before = record {
  front = [];
  split = refl;
  added = record { messages = []; stand = tt; lines = sym (append-nil before) };
}

pub adds_more : (base : ℕ) (spellings old new : List Spelling) (spelling : Spelling) (before now after : List ℕ) → AddsSoFar base spellings old before now → old ≡ spelling ∷ new
    → AddsLine base spelling now after → AddsSoFar base spellings new before after
adds_more base spellings old new spelling before now after so is line =
    let first = so.added in
    record {
      front = so.front ++ spelling ∷ [];
      split = so.split ∙ (ap (λ (l : List Spelling). so.front ++ l) is ∙ sym (append_assoc so.front (spelling ∷ []) new));
      added = record {
        messages = first.messages ++ line.message ∷ [];
        stand = stand_more so.front first.messages spelling line.message first.stand line.stands;
        lines = line.line ∙ (ap (λ (l : List ℕ). l ++ decoded_line base line.message) first.lines
            ∙ (append_assoc before (decoded_lines base first.messages) (decoded_line base line.message) ∙ ap (λ (l : List ℕ). before ++ l) (sym (one_more base first.messages line.message))));
      };
    }

-- the line of a KeepAlive, which was not read, stands behind them
pub adds_keep_alive : (base : ℕ) (spellings old new : List Spelling) (s : Spelling) (id : ℕ) (before now after : List ℕ) → AddsSoFar base spellings old before now → old ≡ s ∷ new
    → StandsFor s (message.KeepAlive s.id) → id ≡ s.id → after ≡ now ++ decoded_line base (message.KeepAlive id) → AddsSoFar base spellings new before after
adds_keep_alive base spellings old new s id before now after so is stands number line =
    adds_more base spellings old new s before now after so is (keep_alive_line base s id now after stands number line)

pub adds_all : (base : ℕ) (spellings left : List Spelling) (before now : List ℕ) → AddsSoFar base spellings left before now → left ≡ [] → AddsLines base spellings before now
adds_all base spellings left before now so none =
    let whole : spellings ≡ so.front = so.split ∙ (ap (λ (l : List Spelling). so.front ++ l) none ∙ append-nil so.front) in
    subst (λ (l : List Spelling). AddsLines base l before now) (sym whole) so.added
