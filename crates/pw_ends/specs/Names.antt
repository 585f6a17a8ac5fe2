-- Ends by the peer and the PW ID (RFC 8077 section 6.1).
use Rattle.std.specs.Prelude.{◌≡◌, ◌==◌, ◌&&◌, position, ℕ, Bool, List}
use Rattle.std.specs.Map.{lookup}
use Rattle.edge_model.specs.declared.end_place.EndPlace.{EndPlace}

-- the names are the same
abbrev pub is_name : ℕ → ℕ → ℕ × ℕ → Bool
is_name peer pw_id key = peer == key.0 && pw_id == key.1

abbrev pub end_name_of : EndPlace → ℕ × ℕ
end_name_of place = (place.peer.0, place.pw_id)

-- the end is beside this peer, and of the wire with this PW ID
abbrev pub has_name : ℕ → ℕ → EndPlace → Bool
has_name peer pw_id place = place.peer.0 == peer && place.pw_id == pw_id

-- the entries give each name its first slot
pub record FindsSlots (places : List EndPlace) (entries : List ((ℕ × ℕ) × ℕ)) : Type 0 where
  pub slot : (peer pw_id : ℕ) → lookup (is_name peer pw_id) entries ≡ position (has_name peer pw_id) places
