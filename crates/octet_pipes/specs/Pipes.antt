-- The pipes between edges, as lists and as a map.
use Rattle.std.specs.Prelude.{◌≡◌, ◌<◌, ◌==◌, ◌&&◌, nat_lt, ℕ, List, [], length, slice_index_or, if◌then◌else◌}

-- a row for each of so many edges, and in it a pipe for each
pub record PipeLists : Type 0 where
  pub size : ℕ
  pub rows : List (List (List ℕ))

-- so many rows, each with as many pipes
pub record IsSquare (size : ℕ) (rows : List (List (List ℕ))) : Type 0 where
  pub count : length rows ≡ size
  pub each : (k : ℕ) → k < size → length (slice_index_or rows k []) ≡ size

-- the octets in the pipe from one edge to another
unfoldable pub pipes_of : PipeLists → ℕ → ℕ → List ℕ
pipes_of pipes from to = slice_index_or (slice_index_or pipes.rows from []) to []

-- nothing is on its way
abbrev pub no_octets : ℕ → ℕ → List ℕ
no_octets from to = []

-- other octets on their way from an edge to another one
abbrev pub with_pipe_octets : ℕ → ℕ → List ℕ → (ℕ → ℕ → List ℕ) → ℕ → ℕ → List ℕ
with_pipe_octets from to octets pipes i = if i == from then (λ j. if j == to then octets else pipes from j) else pipes i

-- nothing is on its way to an edge
abbrev pub without_to : ℕ → (ℕ → ℕ → List ℕ) → ℕ → ℕ → List ℕ
without_to me pipes from to = if to == me then [] else pipes from to

-- nothing is on its way to an edge from so many of the first edges
abbrev pub emptied_to : ℕ → ℕ → (ℕ → ℕ → List ℕ) → ℕ → ℕ → List ℕ
emptied_to me count pipes from to = if to == me && nat_lt from count then [] else pipes from to
