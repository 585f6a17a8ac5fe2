-- What stands before the IPv4 packet of a ping, for each type of control channel (RFC 5085 section 5.1).
use Rattle.std.specs.Prelude.{◌+◌, ◌++◌, ℕ, Bool, true, false, List, [], ◌∷◌}
use Rattle.vccv_channel.specs.LabelStack.{stack_entry}
use Rattle.net_values.specs.Label.{router_alert}
use Rattle.vccv_channel.specs.declared.cc.Cc.{Cc}
use Rattle.vccv_channel.specs.declared.cc.Cc.TheVariants.{Header, Alert, Expiry}

-- an associated channel header comes before the packet (RFC 5085 section 5.1.1)
abbrev pub has_header : Cc → Bool
has_header Header = true
has_header Alert = false
has_header Expiry = false

-- the associated channel header of IPv4: first nibble 1, version 0, a reserved octet, channel type 0x0021 (RFC 4385 section 5)
abbrev pub channel_header : Cc → List ℕ
channel_header Header = 0x10 ∷ 0 ∷ 0 ∷ 0x21 ∷ []
channel_header Alert = []
channel_header Expiry = []

-- the label stack: the pseudowire's label, below Router Alert, or with the TTL that ends at the far edge, one more than
-- there are switching points between (RFC 5085 sections 5.1.2 and 5.1.3, RFC 6073 section 7.4)
abbrev pub label_stack : Cc → ℕ → ℕ → List ℕ
label_stack Header label points = stack_entry label true 255
label_stack Alert label points = stack_entry router_alert false 255 ++ stack_entry label true 255
label_stack Expiry label points = stack_entry label true (points + 1)

-- what follows the label stack
abbrev pub payload : Cc → List ℕ → List ℕ
payload kind ip = channel_header kind ++ ip

-- a packet in the control channel
abbrev pub channel_packet : Cc → ℕ → ℕ → List ℕ → List ℕ
channel_packet kind label points ip = label_stack kind label points ++ payload kind ip
