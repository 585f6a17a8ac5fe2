-- The octets that go into a pipe.
use Rattle.std.specs.Prelude.{◌++◌, ℕ, List, [], ◌∷◌}
use Rattle.net_base.specs.declared.outside.link_call.LinkCall.{LinkCall}

-- all octets that were put
abbrev pub bytes_of : List LinkCall → List ℕ
bytes_of [] = []
bytes_of (call ∷ calls) = call.bytes ++ bytes_of calls
