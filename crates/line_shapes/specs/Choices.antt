-- Words of which a line has one, and what they tell.
use Rattle.std.specs.Prelude.{codes, ℕ, Bool, true, false, List, [], ◌∷◌, Option, Some, None, get_or}
use Rattle.net_base.specs.declared.trace.down.Down.{Down}
use Rattle.net_base.specs.declared.trace.down.Down.TheVariants as down
use Rattle.net_base.specs.declared.trace.drop_cause.DropCause.{DropCause}
use Rattle.net_base.specs.declared.trace.drop_cause.DropCause.TheVariants as cause
use Rattle.net_base.specs.declared.trace.state_name.Reason.TheVariants as reason
use Rattle.net_base.specs.declared.trace.state_name.StateName.{StateName}
use Rattle.net_base.specs.declared.trace.state_name.StateName.TheVariants as state
use Rattle.line_shapes.specs.declared.choice.Choice.{Choice}
use Rattle.line_shapes.specs.declared.choice.Choice.TheVariants.{Switch, Cause, End, State}

-- the words of a choice
abbrev pub choice_words : Choice → List (List ℕ)
choice_words Switch = codes "off" ∷ codes "on" ∷ []
choice_words Cause =
    codes "Short" ∷ codes "Long" ∷ codes "WrongTag" ∷ codes "NoTag" ∷ codes "BadNibble"
    ∷ codes "NotBottom" ∷ codes "Ttl" ∷ codes "NoLabel" ∷ codes "Down" ∷ codes "NoBinding"
    ∷ codes "Expired" ∷ codes "Version" ∷ codes "Channel" ∷ codes "Ip" ∷ codes "Checksum"
    ∷ codes "Icmp" ∷ codes "NotOffered" ∷ codes "LinkFault" ∷ []
choice_words End =
    codes "up" ∷ codes "NoLocal" ∷ codes "NoRemote" ∷ codes "CBit" ∷ codes "Kind"
    ∷ codes "Mtu" ∷ codes "LocalFault" ∷ codes "RemoteFault" ∷ codes "Standby" ∷ []
choice_words State =
    codes "NonExistent" ∷ codes "Initialized" ∷ codes "OpenSent" ∷ codes "OpenRec" ∷ codes "Operational"
    ∷ codes "Ended:BadVersion" ∷ codes "Ended:BadReceiver" ∷ codes "Ended:ZeroKeepAlive" ∷ codes "Ended:Unexpected" ∷ codes "Ended:Expired"
    ∷ codes "Ended:PeerShutdown" ∷ codes "Ended:PeerFatal" ∷ codes "Ended:Decode" ∷ codes "Ended:Closed" ∷ codes "Ended:LinkFault"
    ∷ codes "Ended:BadIdentifier" ∷ []

-- the word of a place; empty behind the last one
abbrev pub choice_word : Choice → ℕ → List ℕ
choice_word choice place = get_or (choice_words choice) place []

-- ---- what is put on or off

abbrev pub switch_place : Bool → ℕ
switch_place false = 0
switch_place true = 1

-- ---- why a frame or a packet was dropped

abbrev pub all_causes : List DropCause
all_causes =
    cause.Short ∷ cause.Long ∷ cause.WrongTag ∷ cause.NoTag ∷ cause.BadNibble ∷ cause.NotBottom ∷ cause.Ttl ∷ cause.NoLabel ∷ cause.Down
    ∷ cause.NoBinding ∷ cause.Expired ∷ cause.Version ∷ cause.Channel ∷ cause.Ip ∷ cause.Checksum ∷ cause.Icmp ∷ cause.NotOffered ∷ cause.LinkFault ∷ []

abbrev pub cause_at : ℕ → DropCause
cause_at place = get_or all_causes place cause.Short

abbrev pub cause_place : DropCause → ℕ
cause_place cause.Short = 0
cause_place cause.Long = 1
cause_place cause.WrongTag = 2
cause_place cause.NoTag = 3
cause_place cause.BadNibble = 4
cause_place cause.NotBottom = 5
cause_place cause.Ttl = 6
cause_place cause.NoLabel = 7
cause_place cause.Down = 8
cause_place cause.NoBinding = 9
cause_place cause.Expired = 10
cause_place cause.Version = 11
cause_place cause.Channel = 12
cause_place cause.Ip = 13
cause_place cause.Checksum = 14
cause_place cause.Icmp = 15
cause_place cause.NotOffered = 16
cause_place cause.LinkFault = 17

-- ---- whether a wire's end forwards, and why it does not

abbrev pub all_wire_ends : List (Option Down)
all_wire_ends =
    None ∷ Some down.NoLocal ∷ Some down.NoRemote ∷ Some down.CBit ∷ Some down.Kind ∷ Some down.Mtu ∷ Some down.LocalFault ∷ Some down.RemoteFault ∷ Some down.Standby ∷ []

abbrev pub wire_end_at : ℕ → Option Down
wire_end_at place = get_or all_wire_ends place None

abbrev pub wire_end_place : Option Down → ℕ
wire_end_place None = 0
wire_end_place (Some down.NoLocal) = 1
wire_end_place (Some down.NoRemote) = 2
wire_end_place (Some down.CBit) = 3
wire_end_place (Some down.Kind) = 4
wire_end_place (Some down.Mtu) = 5
wire_end_place (Some down.LocalFault) = 6
wire_end_place (Some down.RemoteFault) = 7
wire_end_place (Some down.Standby) = 8

-- ---- a session's state; one that ended tells why

abbrev pub all_states : List StateName
all_states =
    state.NonExistent ∷ state.Initialized ∷ state.OpenSent ∷ state.OpenRec ∷ state.Operational ∷ state.Ended reason.BadVersion
    ∷ state.Ended reason.BadReceiver ∷ state.Ended reason.ZeroKeepAlive ∷ state.Ended reason.Unexpected ∷ state.Ended reason.Expired ∷ state.Ended reason.PeerShutdown ∷ state.Ended reason.PeerFatal
    ∷ state.Ended reason.Decode ∷ state.Ended reason.Closed ∷ state.Ended reason.LinkFault ∷ state.Ended reason.BadIdentifier ∷ []

abbrev pub state_at : ℕ → StateName
state_at place = get_or all_states place state.NonExistent

abbrev pub state_place : StateName → ℕ
state_place state.NonExistent = 0
state_place state.Initialized = 1
state_place state.OpenSent = 2
state_place state.OpenRec = 3
state_place state.Operational = 4
state_place (state.Ended reason.BadVersion) = 5
state_place (state.Ended reason.BadReceiver) = 6
state_place (state.Ended reason.ZeroKeepAlive) = 7
state_place (state.Ended reason.Unexpected) = 8
state_place (state.Ended reason.Expired) = 9
state_place (state.Ended reason.PeerShutdown) = 10
state_place (state.Ended reason.PeerFatal) = 11
state_place (state.Ended reason.Decode) = 12
state_place (state.Ended reason.Closed) = 13
state_place (state.Ended reason.LinkFault) = 14
state_place (state.Ended reason.BadIdentifier) = 15
