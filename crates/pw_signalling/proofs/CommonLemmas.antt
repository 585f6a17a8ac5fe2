-- What several crates and files need of the definitions here.
use Rattle.std.proofs.Common.{◌≡◌, Some}
use Rattle.pw_signalling.specs.declared.told.Told.{Told}

pub same_content : {a b : Told} → Some a ≡ Some b → a ≡ b
same_content e = cc
