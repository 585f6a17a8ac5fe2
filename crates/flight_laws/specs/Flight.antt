-- The session states of the two ends of a connection, and the messages on their way between them (RFC 5036 sections 2.5.3
-- and 2.5.4).
use Rattle.std.specs.Prelude.{◌&&◌, not, Bool, true, false, List, [], ◌∷◌}
use Rattle.ldp_grammar.specs.declared.message.Message.{Message}
use Rattle.ldp_grammar.specs.declared.message.Message.TheVariants.{Initialization}
use Rattle.session_core.specs.Phase.{Phase, Initialized, OpenSent, OpenRec, Operational}
use Rattle.session_core.specs.Reasons.{is_fatal, is_keep_alive}

-- the message is an Initialization
abbrev pub is_initialization : Message → Bool
is_initialization (Initialization id params) = true
is_initialization message = false

-- each message passes a test
abbrev pub all_messages : (Message → Bool) → List Message → Bool
all_messages test [] = true
all_messages test (message ∷ messages) = test message && all_messages test messages

-- ---- flights: the messages on their way in one direction, the next one first

-- nothing is on its way
abbrev pub is_empty : List Message → Bool
is_empty [] = true
is_empty (message ∷ messages) = false

-- one Initialization
abbrev pub is_one_initialization : List Message → Bool
is_one_initialization [] = false
is_one_initialization (message ∷ messages) = is_initialization message && is_empty messages

-- KeepAlives or nothing
abbrev pub has_keep_alives : List Message → Bool
has_keep_alives messages = all_messages is_keep_alive messages

-- one or more KeepAlives
abbrev pub has_some_keep_alives : List Message → Bool
has_some_keep_alives [] = false
has_some_keep_alives (message ∷ messages) = is_keep_alive message && has_keep_alives messages

-- an Initialization, and then one or more KeepAlives
abbrev pub opens_session : List Message → Bool
opens_session [] = false
opens_session (message ∷ messages) = is_initialization message && has_some_keep_alives messages

-- neither an Initialization nor a fatal Notification
abbrev pub is_plain : Message → Bool
is_plain message = not (is_initialization message) && not (is_fatal message)

-- each message is so
abbrev pub has_plain_messages : List Message → Bool
has_plain_messages messages = all_messages is_plain messages

-- a KeepAlive first, and then such messages
abbrev pub begins_with_keep_alive : List Message → Bool
begins_with_keep_alive [] = false
begins_with_keep_alive (message ∷ messages) = is_keep_alive message && has_plain_messages messages

-- ---- the table

-- which session states two ends can have together, and what is then on its way from the active to the passive end, and from
-- the passive to the active one
abbrev pub is_row : (active passive : Phase) → (out back : List Message) → Bool
is_row OpenSent Initialized out back = is_one_initialization out && is_empty back
is_row OpenSent OpenRec out back = is_empty out && opens_session back
is_row OpenRec OpenRec out back = has_some_keep_alives out && has_some_keep_alives back
is_row Operational OpenRec out back = begins_with_keep_alive out && has_keep_alives back
is_row OpenRec Operational out back = has_keep_alives out && begins_with_keep_alive back
is_row Operational Operational out back = has_plain_messages out && has_plain_messages back
is_row active passive out back = false
