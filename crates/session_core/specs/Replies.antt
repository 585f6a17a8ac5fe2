-- At most two replies, and the list of them.
use Rattle.std.specs.Prelude.{◌≡◌, List, [], ◌∷◌, refl}
use Rattle.session_core.specs.declared.reply.Reply.{Reply}
use Rattle.session_core.specs.declared.held_replies.HeldReplies.{HeldReplies}
use Rattle.session_core.specs.declared.held_replies.HeldReplies.TheVariants as held

-- the replies in order
abbrev pub replies_in : HeldReplies → List Reply
replies_in held.None = []
replies_in (held.One a) = a ∷ []
replies_in (held.Two a b) = a ∷ b ∷ []

-- how the first two replies of a list are held
abbrev pub held_replies : List Reply → HeldReplies
held_replies [] = held.None
held_replies (a ∷ []) = held.One a
held_replies (a ∷ b ∷ rest) = held.Two a b

-- held replies come back from their list
pub held_replies_again : (h : HeldReplies) → held_replies (replies_in h) ≡ h
held_replies_again held.None = refl
held_replies_again (held.One a) = refl
held_replies_again (held.Two a b) = refl
