-- The network of edges in independent mode (RFC 6870 section 4), as lists and as its state.
use Rattle.std.specs.Prelude.{◌≡◌, ◌++◌, ℕ, List, length}
use Rattle.net_base.specs.declared.plan.Plan.{Plan}
use Rattle.switchover_model.specs.declared.switch_entry.SwitchEntry.{SwitchEntry}
use Rattle.switchover_model.specs.declared.switch_line.SwitchLine.{SwitchLine}
use Rattle.net_base.specs.plan.Accepted.{IsChecked}
use Rattle.switchover_model.specs.Laws.{HasSwitchTypes}
use Rattle.switchover_model.specs.Network.{SwitchState, connects_one, done_all, first_network, loses_one}
use Rattle.switchover_model.specs.Text.{connect_entries, lose_entries}
use Rattle.octet_pipes.specs.Pipes.{PipeLists, pipes_of}
use Rattle.switchover_net.specs.Rows.{RowLists, seen_row}

-- the edges, and what is on its way between them
pub record SwitchLists : Type 0 where
  pub row : RowLists
  pub pipes : PipeLists

-- what always holds of it
pub record IsNet (net : SwitchLists) : Type 0 where
  pub checked : IsChecked net.row.plan
  pub size : net.pipes.size ≡ length net.row.plan.edges
  pub types : HasSwitchTypes net.row.plan

-- The edges are in this state, and these octets are on their way. What came by a connection before is not kept: it is for laws alone.
pub record ShowsSwitchState (net : SwitchLists) (x : SwitchState) : Type 0 where
  pub edges : seen_row net.row ≡ x.edges
  pub pipes : pipes_of net.pipes ≡ x.pipes

-- some lines of a script have brought the network there
pub record IsReached (net : SwitchLists) : Type 0 where
  pub checked : IsChecked net.row.plan
  pub lines : List SwitchLine
  pub shows : ShowsSwitchState net (done_all net.row.plan lines first_network)

-- ---- what a call makes of it

-- from each state that the network shows it goes to the next one, and this is told behind what was told before
pub record Makes (old new : SwitchLists) (before after : List SwitchEntry) (next : SwitchState → SwitchState) (told : SwitchState → List SwitchEntry) : Type 0 where
  pub shows : (x : SwitchState) → ShowsSwitchState old x → ShowsSwitchState new (next x)
  pub tells : (x : SwitchState) → ShowsSwitchState old x → after ≡ before ++ told x

-- ---- lines

-- what is told of both edges, the first one first
abbrev pub pair_entries : Plan → ℕ → ℕ → SwitchState → List SwitchEntry
pair_entries plan a b x = connect_entries plan a b x ++ connect_entries plan b a (connects_one plan a b x)

abbrev pub cut_entries : Plan → ℕ → ℕ → SwitchState → List SwitchEntry
cut_entries plan a b x = lose_entries plan a b x ++ lose_entries plan b a (loses_one plan a b x)
