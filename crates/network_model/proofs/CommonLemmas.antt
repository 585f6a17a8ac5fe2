-- What several crates and files need of the definitions here.
use Rattle.std.proofs.Common.{◌++◌, ◌≡◌, Bool, cond, false, refl, true, ℕ}
use Rattle.net_base.specs.declared.plan.places.EdgeId.{EdgeId}
use Rattle.edge_model.specs.declared.effect.Effect.{Effect}
use Rattle.network_model.specs.Absorb.{absorb_one}
use Rattle.network_model.specs.State.{NetworkState, stands, with_packet, with_pipe}
use Rattle.edge_model.specs.declared.effect.Effect.TheVariants as effect

pub one_edges : (me : EdgeId) (origin hops : ℕ) (e : Effect) (network : NetworkState) → (absorb_one me origin hops e network).edges ≡ network.edges
unfolding with_pipe with_packet
one_edges me origin hops (effect.Said peer octets) network = by (stands network peer.0 me.0) where
  by : (b : Bool) → (cond b (with_pipe me peer (network.pipes me.0 peer.0 ++ octets) network) network).edges ≡ network.edges
  by true = refl
  by false = refl
one_edges me origin hops (effect.Sent peer wire came octets) network = refl
one_edges me origin hops (effect.Closed peer) network = refl
one_edges me origin hops (effect.Left circuit octets) network = refl
one_edges me origin hops (effect.Dropped cause) network = refl
one_edges me origin hops (effect.Session peer state) network = refl
one_edges me origin hops (effect.Wire wire down) network = refl
one_edges me origin hops (effect.Pong wire sequence) network = refl
