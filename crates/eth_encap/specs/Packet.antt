-- Frames in packets of a pseudowire: one entry of a label stack, a control word where the wire has one, and the frame, with a tag
-- in tagged mode (RFC 3032 section 2.1, RFC 4448 section 4).
use Rattle.std.specs.Prelude.{◌≡◌, ◌≤◌, ◌<◌, ◌==◌, ◌+◌, ◌*◌, ◌/◌, ◌%◌, ◌++◌, not, nat_lt, is_some, ℕ, Bool, true, false, List, [], ◌∷◌, length, take, drop, slice_index, Option, Some, None, Result, Ok, Err, if◌then◌else◌}
use Rattle.byteorder.specs.Endian.{big_bytes, big_number}
use Rattle.net_base.specs.declared.trace.drop_cause.DropCause.{DropCause}
use Rattle.net_base.specs.declared.trace.drop_cause.DropCause.TheVariants.{Short, NoTag, BadNibble, Ttl}
use Rattle.net_base.specs.trace.Frame.{dress, of_size, pair_at, tag_protocol}
use Rattle.net_values.specs.Label.{IsLabel}
use Rattle.eth_encap.specs.declared.stack_entry.StackEntry.{StackEntry}

-- ---- what is written

-- the number of an entry: 20 bits of label, three of traffic class, which are 0, the bottom bit, and 8 bits of TTL
abbrev pub entry_number : ℕ → Bool → ℕ → ℕ
entry_number label bottom ttl = label * 4096 + ((if bottom then 256 else 0) + ttl)

-- the octets of an entry of a label stack (RFC 3032 section 2.1)
abbrev pub entry_octets : ℕ → Bool → ℕ → List ℕ
entry_octets label bottom ttl = big_bytes 4 (entry_number label bottom ttl)

-- the control word of a frame: no flags, no fragments, and a sequence number that is not used (RFC 4448 section 4.6)
abbrev pub control_word : Bool → List ℕ
control_word true = 0 ∷ 0 ∷ 0 ∷ 0 ∷ []
control_word false = []

-- what stands behind the label stack
abbrev pub payload_of : Bool → Option ℕ → List ℕ → List ℕ
payload_of cword vlan frame = control_word cword ++ dress vlan frame

-- a packet of a pseudowire (RFC 4448 section 4)
abbrev pub packed : ℕ → ℕ → Bool → Option ℕ → List ℕ → List ℕ
packed label ttl cword vlan frame = entry_octets label true ttl ++ payload_of cword vlan frame

-- ---- what is read

-- an entry of a label stack; its traffic class is not looked at
abbrev pub entry_in : ℕ → StackEntry
entry_in number = record { label = number / 4096; bottom = number / 256 % 2 == 1; ttl = number % 256 }

-- an entry with TTL 0 goes no further (RFC 3032 section 2.4.1)
abbrev pub live_entry : StackEntry → Result StackEntry DropCause
live_entry entry = if entry.ttl == 0 then Err Ttl else Ok entry

-- the entry at the top of a packet's label stack, or its first fault
abbrev pub entry_of : List ℕ → Result StackEntry DropCause
entry_of packet = if nat_lt (length packet) 4 then Err Short else live_entry (entry_in (big_number 4 packet))

-- the frame behind the control word, where there is one
abbrev pub behind_control : Bool → List ℕ → Result (List ℕ) DropCause
behind_control false payload = Ok payload
behind_control true payload =
    if nat_lt (length payload) 4 then Err Short
    else if not (slice_index payload 0 / 16 == 0) then Err BadNibble
    else Ok (drop 4 payload)

-- the frame without the tag of tagged mode, whatever its VLAN ID
abbrev pub without_tag : Bool → List ℕ → Result (List ℕ) DropCause
without_tag false frame = Ok frame
without_tag true frame =
    if not (pair_at frame 12 == tag_protocol) then Err NoTag
    else if nat_lt (length frame) 18 then Err Short
    else Ok (take 12 frame ++ drop 16 frame)

-- the inner frame of what stands behind the control word, or its first fault
abbrev pub frame_in : Bool → ℕ → List ℕ → Result (List ℕ) DropCause
frame_in tagged mtu rest = if nat_lt (length rest) 14 then Err Short else of_size mtu (without_tag tagged rest)

-- the same, where there was no fault before
abbrev pub frame_behind : Bool → ℕ → Result (List ℕ) DropCause → Result (List ℕ) DropCause
frame_behind tagged mtu (Ok rest) = frame_in tagged mtu rest
frame_behind tagged mtu (Err cause) = Err cause

-- the inner frame of a payload, or its first fault
abbrev pub unpacked : Bool → Bool → ℕ → List ℕ → Result (List ℕ) DropCause
unpacked cword tagged mtu payload = frame_behind tagged mtu (behind_control cword payload)

-- ---- what is packed is unpacked

-- the frame has a header, and no more octets than the MTU leaves room for
pub record IsInner (mtu : ℕ) (frame : List ℕ) : Type 0 where
  pub least : 14 ≤ length frame
  pub most : length frame ≤ mtu + 18

-- the VLAN ID of tagged mode has 12 bits
abbrev pub IsVlan : Option ℕ → Type 0
IsVlan None = Unit {0}
IsVlan (Some vlan) = vlan < 4096

-- An entry that is written is read as it was, and behind it stands the frame that was packed, whatever tag tagged mode had put on.
pub record PackedIsUnpacked : Type 0 where
  pub entry : (label ttl : ℕ) (bottom : Bool) (behind : List ℕ) → IsLabel label → 1 ≤ ttl → ttl ≤ 255
      → entry_of (entry_octets label bottom ttl ++ behind) ≡ Ok (record { label = label; bottom = bottom; ttl = ttl })
  pub frame : (cword : Bool) (vlan : Option ℕ) (mtu : ℕ) (frame : List ℕ) → IsVlan vlan → IsInner mtu frame → unpacked cword (is_some vlan) mtu (payload_of cword vlan frame) ≡ Ok frame
