-- A change of a domain, and of each domain.
use Rattle.std.specs.Prelude.{◌≡◌, ℕ, List, Option, None, length, slice_index_or}
use Rattle.hvpls_spokes.specs.Port.{is_named_port}
use Rattle.edge_forwarding.specs.declared.domain.Domain.{Domain}
use Rattle.edge_forwarding.specs.declared.domain_change.DomainChange.{DomainChange}
use Rattle.edge_forwarding.specs.declared.domain_change.DomainChange.TheVariants as change
use Rattle.edge_forwarding.specs.Domain.{IsKeptClosed, IsKeptTurned, KeptNotAfter, aged_kept, cleared_kept, forgot_kept, withdrawn_kept}

-- addresses age at a tick after which none came
abbrev pub MayChange : DomainChange → Option Domain → Type 0
MayChange (change.Turn port on) kept = Unit {0}
MayChange (change.Forget port) kept = Unit {0}
MayChange (change.Withdraw from addresses) kept = Unit {0}
MayChange change.Close kept = Unit {0}
MayChange change.Clear kept = Unit {0}
MayChange (change.Age now) kept = KeptNotAfter now kept

-- the domain, where there is one, is changed so
abbrev pub IsKeptChanged : DomainChange → Option Domain → Option Domain → Type 0
IsKeptChanged (change.Turn port on) old new = IsKeptTurned (is_named_port port) on old new
IsKeptChanged (change.Forget port) old new = new ≡ forgot_kept (is_named_port port) old
IsKeptChanged (change.Withdraw from addresses) old new = new ≡ withdrawn_kept from addresses.now old
IsKeptChanged change.Close old new = IsKeptClosed old new
IsKeptChanged change.Clear old new = new ≡ cleared_kept old
IsKeptChanged (change.Age now) old new = new ≡ aged_kept now old

-- each domain is changed so
pub record AreChanged (to : DomainChange) (old new : List (Option Domain)) : Type 0 where
  pub len : length new ≡ length old
  pub each : (place : ℕ) → IsKeptChanged to (slice_index_or old place None) (slice_index_or new place None)
