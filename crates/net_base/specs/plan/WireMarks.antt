-- Marks that wires leave in a list, by which most wires are seen to break no rule with an earlier one without a walk over those. A wire
-- leaves two marks and asks for two, which may be one: where it breaks a rule with an earlier wire, it asks for a mark that this one left.
use Rattle.std.specs.Prelude.{◌≡◌, ◌+◌, ◌*◌, ◌%◌, ◌||◌, min, max, get_or, ℕ, Bool, true, false, List, [], ◌∷◌, slice_set, Option, Some, None, if◌then◌else◌}
use Rattle.net_base.specs.declared.plan.places.EdgeId.{EdgeId}
use Rattle.net_base.specs.declared.plan.wire_plan.WirePlan.{WirePlan}
use Rattle.net_base.specs.declared.plan.wire_rule.WireRule.{WireRule}
use Rattle.net_base.specs.declared.plan.wire_rule.WireRule.TheVariants.{PwIds, MeshWires, SpokeStarts}
use Rattle.net_base.specs.plan.Paths.{first_edge, last_edge}
use Rattle.net_base.specs.plan.Places.{is_mesh_class}

-- the number of an edge in a mark, and 0 where there is none
abbrev pub edge_number : Option EdgeId → ℕ
edge_number None = 0
edge_number (Some edge) = edge.0

-- the mark of a PW ID
unfoldable pub pw_id_mark : ℕ → ℕ
pw_id_mark pw_id = pw_id % 8192

-- the mark of a service and two edges, in either order
unfoldable pub pair_mark : ℕ → ℕ → ℕ → ℕ
pair_mark service a b = (service * 4096 + (min a b * 64 + max a b)) % 8192

-- the mark of an edge at which a wire of a service ends
unfoldable pub end_mark : ℕ → ℕ → ℕ
end_mark service edge = (service * 64 + edge) % 4096

-- the mark of an edge at which a spoke of a service starts
unfoldable pub start_mark : ℕ → ℕ → ℕ
start_mark service edge = 4096 + end_mark service edge

-- the mark of a wire's two terminal edges in its service
abbrev pub ends_mark : WirePlan → ℕ
ends_mark wire = pair_mark wire.service.0 (edge_number (first_edge wire.path)) (edge_number (last_edge wire.path))

-- the marks that a wire leaves
abbrev pub left_first : WireRule → WirePlan → ℕ
left_first PwIds wire = pw_id_mark wire.pw_id
left_first MeshWires wire = ends_mark wire
left_first SpokeStarts wire = if is_mesh_class wire.class then end_mark wire.service.0 (edge_number (first_edge wire.path)) else start_mark wire.service.0 (edge_number (first_edge wire.path))

-- the second one of the two that it leaves
abbrev pub left_last : WireRule → WirePlan → ℕ
left_last PwIds wire = pw_id_mark wire.pw_id
left_last MeshWires wire = ends_mark wire
left_last SpokeStarts wire = end_mark wire.service.0 (edge_number (last_edge wire.path))

-- the marks for which a wire asks
abbrev pub asked_first : WireRule → WirePlan → ℕ
asked_first PwIds wire = pw_id_mark wire.pw_id
asked_first MeshWires wire = ends_mark wire
asked_first SpokeStarts wire = if is_mesh_class wire.class then start_mark wire.service.0 (edge_number (first_edge wire.path)) else end_mark wire.service.0 (edge_number (first_edge wire.path))

-- the second one of the two
abbrev pub asked_last : WireRule → WirePlan → ℕ
asked_last PwIds wire = pw_id_mark wire.pw_id
asked_last MeshWires wire = ends_mark wire
asked_last SpokeStarts wire = start_mark wire.service.0 (edge_number (last_edge wire.path))

-- a mark for which the wire asks was left
abbrev pub is_wire_marked : WireRule → List Bool → WirePlan → Bool
is_wire_marked rule marks wire = get_or marks (asked_first rule wire) false || get_or marks (asked_last rule wire) false

-- the marks behind those that the wire leaves
abbrev pub marks_with : WireRule → List Bool → WirePlan → List Bool
marks_with rule marks wire = slice_set (slice_set marks (left_first rule wire) true) (left_last rule wire) true

-- the marks that a wire leaves are there
pub record IsMarkLeft (rule : WireRule) (marks : List Bool) (wire : WirePlan) : Type 0 where
  pub first : get_or marks (left_first rule wire) false ≡ true
  pub last : get_or marks (left_last rule wire) false ≡ true

-- the marks that each wire leaves are there
abbrev pub AreMarksLeft : WireRule → List Bool → List WirePlan → Type 0
AreMarksLeft rule marks [] = Unit {0}
AreMarksLeft rule marks (wire ∷ rest) = IsMarkLeft rule marks wire × AreMarksLeft rule marks rest
