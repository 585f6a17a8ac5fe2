use Rattle.std.proofs.Common.{length, ◌-◌, ◌≤◌, List}
use Rattle.ldp_grammar.specs.Rows.{row_of}
use Rattle.ldp_grammar.specs.Tlvs.{Tlv, IsJoined}
use Rattle.ldp_codec.specs.TlvIndex.{AreWhole}
use Rattle.ldp_codec.proofs.IndexLemmas.{IndexOn}
use Rattle.ldp_codec.proofs.tlv_index.index_tlvs.Given as goal

abbrev pub invariant-indexing : goal.invariant-indexing
invariant-indexing l = record {
  within : l.at ≤ length l.octets;
  on : (ts : List Tlv) → IsJoined l.fn.octets ts → IndexOn (row_of l.kind) l.octets ts l.at l.first l.places;
  whole : AreWhole l.octets l.places;
}

abbrev pub decreases-indexing : goal.decreases-indexing
decreases-indexing l = length l.octets - l.at
