-- What several crates and files need of the definitions here.
use Rattle.std.proofs.Common.{◌≡◌, [], refl}
use Rattle.ldp_stream.specs.FrontOf.{More, front_of}

pub none_front : front_of 4096 [] ≡ More
unfolding front_of
none_front = refl
