-- What an end still takes of a peer whose own end is gone: what the peer said before, and the fatal Notification with which it
-- left, if it left with one (RFC 5036 sections 2.5.4 and 3.5.1).
use Rattle.std.specs.Prelude.{◌&&◌, ◌||◌, ◌++◌, Bool, true, false, List, [], ◌∷◌, Option, Some, None}
use Rattle.ldp_grammar.specs.declared.message.Message.{Message}
use Rattle.session_core.specs.Phase.{Phase, Initialized, OpenSent, OpenRec, Operational}
use Rattle.session_core.specs.Reasons.{is_fatal, is_keep_alive}
use Rattle.flight_laws.specs.Flight.{is_empty, is_initialization, is_row}

-- a KeepAlive comes next, where the peer has not left
abbrev pub keep_alive_comes : List Message → Bool
keep_alive_comes [] = true
keep_alive_comes (message ∷ messages) = is_fatal message || is_keep_alive message

-- an Initialization comes next, and then a KeepAlive, where the peer has not left
abbrev pub initialization_comes : List Message → Bool
initialization_comes [] = true
initialization_comes (message ∷ messages) = is_fatal message || (is_initialization message && keep_alive_comes messages)

-- a session in this state is ended by nothing of these messages but by a fatal Notification
abbrev pub is_coming : Phase → List Message → Bool
is_coming Initialized messages = initialization_comes messages
is_coming OpenSent messages = initialization_comes messages
is_coming OpenRec messages = keep_alive_comes messages
is_coming Operational messages = true

-- ---- the same from one end's side

-- the table as an end sees it, which is the active one or not: its state, that of the other end, what is on its way from it
-- and what is on its way to it
abbrev pub is_row_for : Bool → (own other : Phase) → (out back : List Message) → Bool
is_row_for true own other out back = is_row own other out back
is_row_for false own other out back = is_row other own back out

-- what is on its way from an end that stands and to it, where the other end is in a state or gone
abbrev pub is_talk : Bool → Phase → Option Phase → (out back : List Message) → Bool
is_talk active own None out back = is_empty out && is_coming own back
is_talk active own (Some other) out back = is_row_for active own other out back

-- the same of an end that is gone
abbrev pub is_talk_without : Option Phase → (out back : List Message) → Bool
is_talk_without None out back = is_empty out && is_empty back
is_talk_without (Some other) out back = is_empty back && is_coming other out

-- what is on its way once more was said: nothing goes to an end that is gone
abbrev pub and_more : {X : Type 0} → {Y : Type 0} → Option X → List Y → List Y → List Y
and_more None before more = before
and_more (Some end) before more = before ++ more
