-- What `switchover` writes of a script.
use Rattle.std.specs.Prelude.{◌≡◌, ◌++◌, ℕ, true, slice_get, List, Option, Some, None}
use Rattle.net_base.specs.declared.plan.Plan.{Plan}
use Rattle.net_base.specs.declared.plan.wire_plan.WirePlan.{WirePlan}
use Rattle.independent_model.specs.Wires.{is_between}
use Rattle.psn_net.specs.Lists.{NetLists}
use Rattle.switchover_model.specs.declared.switch_line.SwitchLine.{SwitchLine}
use Rattle.switchover_model.specs.Laws.{AgreesOn}
use Rattle.switchover_model.specs.Network.{done_all, first_network}
use Rattle.switchover_text.specs.Text.{switchover_report}
use Rattle.vplsnet.specs.declared.outcome.Outcome.{Outcome}
use Rattle.vplsnet.specs.declared.outcome.Outcome.TheVariants.{Done}

-- Behind each line both ends of each wire between two edges agree (RFC 6870 section 4): while the two are connected, what is on its way are
-- status Notifications of their wires; once an edge has heard them, it knows what the other one calls the wire; an end that asks is not
-- forgotten; and where nothing is on its way, both use the wire exactly where both call it active, and none asks. At every moment an edge
-- uses it only where it, and the last status that it heard on this connection, call it active.
abbrev pub AgreesBehindEach : Plan → List SwitchLine → Type 0
AgreesBehindEach plan lines = (front behind : List SwitchLine) → lines ≡ front ++ behind
    → (a b wire : ℕ) (row : WirePlan) → slice_get plan.wires wire ≡ Some row → is_between plan wire a b ≡ true → AgreesOn plan (done_all plan front first_network) a b wire row

-- the text that `switchover` makes of lines; no network of the full machine runs
pub record IsExchange (plan : Plan) (lines : List SwitchLine) (text : List ℕ) (network : Option NetLists) (outcome : Outcome) : Type 0 where
  pub text_is : text ≡ switchover_report plan lines
  pub agrees : AgreesBehindEach plan lines
  pub ends : outcome ≡ Done
  pub no_run : network ≡ None
