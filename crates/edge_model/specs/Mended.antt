-- An edge that has mended has nothing to mend: its ends tell what they should by now (RFC 8077 sections 6 and 6.3).
use Rattle.std.specs.Prelude.{◌≡◌, true, false, Some}
use Rattle.std.specs.List.{list_all}
use Rattle.net_base.specs.declared.plan.Plan.{Plan}
use Rattle.net_base.specs.declared.plan.places.WireId.{WireId}
use Rattle.net_base.specs.declared.plan.wire_plan.WirePlan.{WirePlan}
use Rattle.net_base.specs.plan.Accepted.{IsChecked}
use Rattle.net_base.specs.plan.Paths.{has_repeat}
use Rattle.net_base.specs.plan.Places.{wire_row}
use Rattle.net_base.specs.plan.RowFaults.{is_edge_of}
use Rattle.pw_messages.specs.LinkAnswers.{Answers}
use Rattle.edge_model.specs.Mend.{mends}
use Rattle.edge_model.specs.Work.{Work}

-- the paths of a plan's wires have edges of the plan, each once
pub record HasFitPaths (plan : Plan) : Type 0 where
  pub edges : (wire : WireId) (row : WirePlan) → wire_row plan wire ≡ Some row → list_all (is_edge_of plan) row.path ≡ true
  pub once : (wire : WireId) (row : WirePlan) → wire_row plan wire ≡ Some row → has_repeat row.path ≡ false

-- Whatever the link answers, and whatever the state of the edge: what it mends it mends at once.
pub record MendsAtOnce : Type 0 where
  -- an edge that mends right after it has mended changes nothing, calls its link no more, and gives out nothing more
  pub twice : (plan : Plan) (told : Answers) (work : Work) → HasFitPaths plan → mends plan told (mends plan told work) ≡ mends plan told work
  -- every checked plan has such paths
  pub fit : (plan : Plan) → IsChecked plan → HasFitPaths plan
