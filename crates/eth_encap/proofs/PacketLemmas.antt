-- Packets, written and read again.
use Rattle.std.proofs.Common.{◌≡◌, ◌≤◌, ◌<◌, ◌+◌, ◌/◌, ◌%◌, ◌++◌, ◌∙◌, ℕ, Bool, true, false, List, ◌∷◌, Option, Some, None, Result, Ok, Err, cond, not, is_some, length, take, drop, refl, ap, sym, append_assoc, length-append, nat_eq, nat_lt, arith}
use Rattle.std.proofs.lemmas.Bool.{eq-eqb}
use Rattle.std.proofs.lemmas.Bool.Decides.{nat_tests}
use Rattle.byteorder.specs.Endian.{big_number}
use Rattle.byteorder.specs.Numbers.{big_number-reads_back}
use Rattle.net_base.specs.declared.trace.drop_cause.DropCause.{DropCause}
use Rattle.net_base.specs.declared.trace.drop_cause.DropCause.TheVariants.{Short, NoTag, WrongTag}
use Rattle.net_base.specs.trace.Frame.{dress, of_size, pair_at, tag_protocol, vlan_id_of}
use Rattle.net_base.proofs.FrameLemmas.{inner-dress}
use Rattle.net_values.specs.Label.{IsLabel}
use Rattle.eth_encap.specs.declared.stack_entry.StackEntry.{StackEntry}
use Rattle.eth_encap.specs.Packet.{IsInner, IsVlan, PackedIsUnpacked, behind_control, entry_in, entry_number, entry_octets, entry_of, frame_behind, frame_in, live_entry, payload_of, unpacked}
use Rattle.std.proofs.lemmas.List.{drop-drop}
use Rattle.std.proofs.lemmas.Slice.{drop-append-drop}
use Rattle.std.proofs.Math.Seq.{take-append_seam}

-- a frame that is written behind what was made stands behind it, and the rest is as it was
pub packed_behind : (entry control frame base one rest two : List ℕ) (at count : ℕ) → one ≡ (entry ++ control) ++ drop at base → at ≡ length (entry ++ control)
    → rest ≡ frame ++ drop count (drop at one) → count ≡ length frame → two ≡ take at one ++ rest → two ≡ (entry ++ (control ++ frame)) ++ drop (at + count) base
packed_behind entry control frame base one rest two at count begun place written counted joined =
    let front : take at one ≡ entry ++ control = ap (λ (l : List ℕ). take at l) begun
    ∙ (ap (λ (n : ℕ). take n ((entry ++ control) ++ drop at base)) place ∙ take-append_seam (entry ++ control) (drop at base)) in
    let behind : drop at one ≡ drop at base = ap (λ (l : List ℕ). drop at l) begun ∙ drop-append-drop at base (entry ++ control) at (omega arith) (sym place) in
    let last : drop count (drop at one) ≡ drop (at + count) base = ap (λ (l : List ℕ). drop count l) behind ∙ drop-drop count at base in
    joined ∙ (ap (λ (l : List ℕ). l ++ rest) front
    ∙ (ap (λ (l : List ℕ). (entry ++ control) ++ l) (written ∙ ap (λ (l : List ℕ). frame ++ l) last)
    ∙ (sym (append_assoc (entry ++ control) frame (drop (at + count) base)) ∙ ap (λ (l : List ℕ). l ++ drop (at + count) base) (append_assoc entry control frame))))

-- ---- an entry that is written is read

entry_fits : (label ttl : ℕ) (bottom : Bool) → label ≤ 1048575 → ttl ≤ 255 → entry_number label bottom ttl < 4294967296
entry_fits label ttl true fits live = omega (arith, fits, live)
entry_fits label ttl false fits live = omega (arith, fits, live)

label_again : (label ttl : ℕ) (bottom : Bool) → ttl ≤ 255 → entry_number label bottom ttl / 4096 ≡ label
label_again label ttl true live = omega (arith, live)
label_again label ttl false live = omega (arith, live)

bottom_again : (label ttl : ℕ) (bottom : Bool) → ttl ≤ 255 → nat_eq (entry_number label bottom ttl / 256 % 2) 1 ≡ bottom
bottom_again label ttl true live = eq-eqb (entry_number label true ttl / 256 % 2) 1 (omega (arith, live))
bottom_again label ttl false live = let e : entry_number label false ttl / 256 % 2 ≡ 0 = omega (arith, live) in rw e refl

ttl_again : (label ttl : ℕ) (bottom : Bool) → ttl ≤ 255 → entry_number label bottom ttl % 256 ≡ ttl
ttl_again label ttl true live = omega (arith, live)
ttl_again label ttl false live = omega (arith, live)

entry_again : (label ttl : ℕ) (bottom : Bool) → ttl ≤ 255 → entry_in (entry_number label bottom ttl) ≡ record { label = label; bottom = bottom; ttl = ttl }
entry_again label ttl bottom live = λ i. record { label = label_again label ttl bottom live i; bottom = bottom_again label ttl bottom live i; ttl = ttl_again label ttl bottom live i }

live_again : (entry : StackEntry) → nat_eq entry.ttl 0 ≡ false → live_entry entry ≡ Ok entry
live_again entry live = rw live refl

pub entry_is_read : (label ttl : ℕ) (bottom : Bool) (behind : List ℕ) → IsLabel label → 1 ≤ ttl → ttl ≤ 255
    → entry_of (entry_octets label bottom ttl ++ behind) ≡ Ok (record { label = label; bottom = bottom; ttl = ttl })
entry_is_read label ttl bottom behind is least most =
    let long : nat_lt (length (entry_octets label bottom ttl ++ behind)) 4 ≡ false =
    grind (arith, nat_tests, length-append (entry_octets label bottom ttl) behind) in
    let number : big_number 4 (entry_octets label bottom ttl ++ behind) ≡ entry_number label bottom ttl =
    big_number-reads_back 4 (entry_number label bottom ttl) behind (entry_fits label ttl bottom is.below most) in
    rw long (ap (λ (n : ℕ). live_entry (entry_in n)) number ∙ (ap live_entry (entry_again label ttl bottom most)
    ∙ live_again (record { label = label; bottom = bottom; ttl = ttl }) (grind (arith, nat_tests, least))))

-- ---- a frame that is packed is unpacked

-- a frame that passes the test of its VLAN ID passes without it
untested : (a n s w : Bool) (mtu : ℕ) (x frame : List ℕ) → cond a (Err Short) (of_size mtu (cond n (Err NoTag) (cond s (Err Short) (cond w (Err WrongTag) (Ok x))))) ≡ Ok frame
    → cond a (Err Short) (of_size mtu (cond n (Err NoTag) (cond s (Err Short) (Ok x)))) ≡ Ok frame
untested true n s w mtu x frame is = absurd (cc (is))
untested false true s w mtu x frame is = absurd (cc (is))
untested false false true w mtu x frame is = absurd (cc (is))
untested false false false true mtu x frame is = absurd (cc (is))
untested false false false false mtu x frame is = is

tagged_again : (vlan mtu : ℕ) (frame : List ℕ) → vlan < 4096 → IsInner mtu frame → frame_in true mtu (dress (Some vlan) frame) ≡ Ok frame
tagged_again vlan mtu frame fits inside =
    let dressed : List ℕ = dress (Some vlan) frame in
    untested (nat_lt (length dressed) 14) (not (nat_eq (pair_at dressed 12) tag_protocol)) (nat_lt (length dressed) 18) (not (nat_eq (vlan_id_of dressed) vlan)) mtu
    (take 12 dressed ++ drop 16 dressed) frame
    (inner-dress (Some vlan) mtu frame fits (record { header = inside.least; room = inside.most }))

raw_again : (mtu : ℕ) (frame : List ℕ) → IsInner mtu frame → frame_in false mtu frame ≡ Ok frame
raw_again mtu frame inside = inner-dress None mtu frame tt (record { header = inside.least; room = inside.most })

frame_again : (vlan : Option ℕ) (mtu : ℕ) (frame : List ℕ) → IsVlan vlan → IsInner mtu frame → frame_in (is_some vlan) mtu (dress vlan frame) ≡ Ok frame
frame_again None mtu frame fits inside = raw_again mtu frame inside
frame_again (Some vlan) mtu frame fits inside = tagged_again vlan mtu frame fits inside

behind_word : (rest : List ℕ) → behind_control true (0 ∷ 0 ∷ 0 ∷ 0 ∷ rest) ≡ Ok rest
behind_word rest = let long : nat_lt (length (0 ∷ 0 ∷ 0 ∷ 0 ∷ rest)) 4 ≡ false = grind (arith, nat_tests) in rw long refl

pub frame_is_read : (cword : Bool) (vlan : Option ℕ) (mtu : ℕ) (frame : List ℕ) → IsVlan vlan → IsInner mtu frame → unpacked cword (is_some vlan) mtu (payload_of cword vlan frame) ≡ Ok frame
frame_is_read false vlan mtu frame fits inside = frame_again vlan mtu frame fits inside
frame_is_read true vlan mtu frame fits inside =
    ap (λ (r : Result (List ℕ) DropCause). frame_behind (is_some vlan) mtu r) (behind_word (dress vlan frame)) ∙ frame_again vlan mtu frame fits inside

pub packed_is_unpacked : PackedIsUnpacked
packed_is_unpacked = record {
  entry = λ label ttl bottom behind is least most. entry_is_read label ttl bottom behind is least most;
  frame = λ cword vlan mtu frame fits inside. frame_is_read cword vlan mtu frame fits inside;
}
