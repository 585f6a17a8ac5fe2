-- What several crates and files need of the definitions here.
use Rattle.std.proofs.Common.{◌<◌, ◌^◌, arith, ℕ}
use Rattle.std.proofs.lemmas.Bool.Decides.{nat_tests}
use Rattle.pw_messages.specs.Sender.{following}

pub following_small : (id : ℕ) → id < 2 ^ 32 → following id < 2 ^ 32
following_small id small = grind (arith, nat_tests)
