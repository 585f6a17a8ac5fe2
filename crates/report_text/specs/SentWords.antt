-- The words of a packet that was sent, as they are put.
use Rattle.std.specs.Prelude.{ℕ, codes, List, [], ◌∷◌}
use Rattle.std.specs.Fmt.{decimal}
use Rattle.text_pieces.specs.Pieces.{hex}
use Rattle.report_text.specs.declared.sent_words.SentWords.{SentWords}

-- the octets of each word, in order
abbrev pub sent_words : SentWords → List (List ℕ)
sent_words sent =
    codes "sent" ∷ decimal sent.packet ∷ sent.from.now ∷ sent.to.now ∷ sent.wire.now ∷ sent.arrival.now ∷ decimal sent.origin ∷ decimal sent.hops ∷ hex sent.octets.now ∷ []
