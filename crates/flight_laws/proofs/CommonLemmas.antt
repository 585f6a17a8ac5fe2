-- What several crates and files need of the definitions here.
use Rattle.std.proofs.Common.{◌≡◌, List, None, Option, Some, [], refl, true, ℕ}
use Rattle.net_values.proofs.RowLemmas.{same_octets}
use Rattle.session_core.specs.Parameters.{is_platform}
use Rattle.session_core.specs.declared.peers.Peers.{Peers}
use Rattle.pw_messages.specs.Sender.{platform_of}
use Rattle.edge_model.specs.State.{Peering}
use Rattle.flight_laws.proofs.WorkLemmas.{same_end}
use Rattle.flight_laws.specs.Coming.{and_more}
use Rattle.flight_laws.specs.Pair.{IsStanding}

pub no_more : (far : Option Peering) (out : List ℕ) → and_more far out [] ≡ out
no_more None out = refl
no_more (Some kept) out = same_end out

pub platform_is : (own other : Peers) (kept : Peering) → IsStanding own other kept → is_platform kept.session.peers.peer (platform_of other.me) ≡ true
platform_is own other kept is = rw (is.peers, is.between.facing.there, same_octets other.me.0) refl
