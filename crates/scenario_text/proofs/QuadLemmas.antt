-- The octets of a dotted quad.
use Rattle.std.proofs.Common.{◌≡◌, ◌∙◌, ℕ, List, [], ◌∷◌, Option, Some, None, refl, sym, ap, lit≤, append-nil}
use Rattle.std.specs.Net.Grammar.{IsDotted, IsIpv4Text}
use Rattle.std.specs.Net.Reader.{read_ipv4}
use Rattle.std.specs.declared.net.ipv4_addr.Ipv4Addr.{Ipv4Addr}
use Rattle.std.proofs.NetLemmas.Ipv4.{read_ipv4_complete, read_ipv4_sound}
use Rattle.scenario_text.specs.Values.{whole_of, quad_of}

-- what writes an address is read as its octets
pub quad_read : (text octets : List ℕ) → IsDotted text octets → Some octets ≡ quad_of text
quad_read text octets dotted = sym (ap whole_of (rw (append-nil text) at (read_ipv4_complete text octets [] dotted (lit≤ tt))))

-- what writes none is not read
pub quad_refused : (text : List ℕ) → ((a : Ipv4Addr) → ¬ (IsIpv4Text text a)) → None ≡ quad_of text
quad_refused text none = go (read_ipv4 text) refl
  where
    go : (r : Option (List ℕ × List ℕ)) → read_ipv4 text ≡ r → None ≡ whole_of r
    go None e = refl
    go (Some (octets, b ∷ bs)) e = refl
    go (Some (octets, [])) e =
        let (front, split, dotted) = read_ipv4_sound text octets [] e in
        let same : text ≡ front = split ∙ append-nil front in
        absurd (none (record { octets = octets }) (rw same dotted))
