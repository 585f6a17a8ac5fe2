-- What `decode` makes of the octets of its file.
use Rattle.std.specs.Prelude.{◌≡◌, ℕ, List, Option, None, take}
use Rattle.net_base.specs.outside.Outside.{Appends}
use Rattle.psn_net.specs.Lists.{NetLists}
use Rattle.ldp_stream.specs.Parsed.{PlacedPdu, Ending, IsParsed}
use Rattle.vplsnet.specs.declared.outcome.Outcome.{Outcome}
use Rattle.vplsnet.specs.StreamText.{largest_pdu, IsStreamText, outcome_of_ending}

-- the text is that of the stream before its end or its first fault, and the outcome tells which of the two it is; no run
-- begins
pub record IsDecoding (octets text : List ℕ) (network : Option NetLists) (outcome : Outcome) : Type 0 where
  pub ending : Ending
  pub text_is : IsStreamText octets text ending
  pub ends : outcome ≡ outcome_of_ending ending
  pub no_run : network ≡ None

-- the outcome of a decoding by how its octets end
pub record IsDecodedAs (octets : List ℕ) (outcome : Outcome) : Type 0 where
  pub pdus : List PlacedPdu
  pub ending : Ending
  pub parsed : IsParsed largest_pdu octets pdus ending
  pub ends : outcome ≡ outcome_of_ending ending

-- what was taken goes on by a front of the text, which may be all of it, where it is told
pub record AppendsPart (old now : Option (List ℕ)) (text : List ℕ) : Type 0 where
  pub len : ℕ
  pub taken : Appends old now (take len text)
