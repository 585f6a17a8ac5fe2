-- A copy of a frame is made of two pieces: what stands up to its addresses, and the rest of it.
use Rattle.std.proofs.Common.{◌≡◌, ◌+◌, ◌++◌, ◌∙◌, [], ℕ, Bool, true, List, Option, Some, None, take, drop, ap, sym, append_assoc, append-nil}
use Rattle.std.proofs.lemmas.List.{drop-take, take-append-drop}
use Rattle.net_base.specs.trace.Frame.{dress, tag_octets}
use Rattle.eth_encap.specs.Packet.{control_word, entry_octets, packed}

none_behind : (frame : List ℕ) → drop 12 (take 12 frame) ≡ []
none_behind frame = drop-take 12 0 frame

same_front : (frame : List ℕ) → take 12 (take 12 frame) ≡ take 12 frame
same_front frame = sym (append-nil (take 12 (take 12 frame)))
    ∙ (ap (λ (l : List ℕ). take 12 (take 12 frame) ++ l) (sym (none_behind frame)) ∙ take-append-drop 12 (take 12 frame))

pub dressed_whole : (tag : Option ℕ) (frame : List ℕ) → dress tag (take 12 frame) ++ drop 12 frame ≡ dress tag frame
dressed_whole None frame = take-append-drop 12 frame
dressed_whole (Some tag) frame =
    ap (λ (l : List ℕ). l ++ drop 12 frame)
    (ap (λ (l : List ℕ). ((take 12 (take 12 frame)) ++ tag_octets tag) ++ l) (none_behind frame)
    ∙ (append-nil (take 12 (take 12 frame) ++ tag_octets tag) ∙ ap (λ (l : List ℕ). l ++ tag_octets tag) (same_front frame)))

pub packed_whole : (label ttl : ℕ) (cword : Bool) (vlan : Option ℕ) (frame : List ℕ)
    → packed label ttl cword vlan (take 12 frame) ++ drop 12 frame ≡ packed label ttl cword vlan frame
packed_whole label ttl cword vlan frame =
    append_assoc (entry_octets label true ttl) (control_word cword ++ dress vlan (take 12 frame)) (drop 12 frame)
    ∙ ap (λ (l : List ℕ). entry_octets label true ttl ++ l)
    (append_assoc (control_word cword) (dress vlan (take 12 frame)) (drop 12 frame) ∙ ap (λ (l : List ℕ). control_word cword ++ l) (dressed_whole vlan frame))
