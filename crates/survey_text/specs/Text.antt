-- The survey of a network as text.
use Rattle.std.specs.Prelude.{◌+◌, ◌++◌, ◌==◌, ◌&&◌, ◌||◌, not, min, nat_lt, codes, ℕ, Bool, true, false, List, [], ◌∷◌, length, Option, Some, None, option_map, slice_get, if◌then◌else◌}
use Rattle.std.specs.Fmt.{decimal}
use Rattle.net_base.specs.declared.plan.Plan.{Plan}
use Rattle.net_base.specs.declared.plan.circuit_plan.CircuitPlan.{CircuitPlan}
use Rattle.net_base.specs.declared.plan.edge_plan.EdgePlan.{EdgePlan}
use Rattle.net_base.specs.declared.plan.places.EdgeId.{EdgeId}
use Rattle.net_base.specs.declared.plan.places.ServiceId.{ServiceId}
use Rattle.net_base.specs.declared.plan.service_plan.ServicePlan.{ServicePlan}
use Rattle.net_base.specs.declared.plan.wire_plan.WirePlan.{WirePlan}
use Rattle.net_base.specs.declared.trace.event.Event.{Event}
use Rattle.net_base.specs.declared.trace.event.Event.TheVariants as event
use Rattle.net_base.specs.plan.Paths.{first_edge}
use Rattle.net_base.specs.plan.Places.{wire_row}
use Rattle.network_model.specs.Reach.{is_row_on}
use Rattle.network_model.specs.State.{NetworkState}
use Rattle.line_shapes.specs.Words.{edge_name, name_or_empty}
use Rattle.event_rows.specs.Rows.{event_words}
use Rattle.survey_laws.specs.declared.fault.Fault.{Fault}
use Rattle.survey_laws.specs.declared.fault.Fault.TheVariants as fault
use Rattle.survey_reach.specs.FaultList.{all_faults}
use Rattle.survey_reach.specs.Ground.{has_label}
use Rattle.survey_text.specs.Cases.{cases_of, count_found, count_lost, is_told}
use Rattle.survey_text.specs.Relations.{any_edge, are_apart, count_sites, find, is_cut, is_other, is_reached, is_site_at, lose, pairs_where, sites_where}
use Rattle.text_lines.specs.Lines.{line_of}
use Rattle.text_pieces.specs.Pieces.{spaced}

-- the name of a service; empty outside the plan
abbrev pub service_name : Plan → ServiceId → List ℕ
service_name plan service = name_or_empty (option_map (λ row. row.name) (slice_get plan.services service.0))

-- ---- sites

-- the name of a circuit, where it is a site at an edge
abbrev pub name_at : NetworkState → ServiceId → ℕ → ℕ → Option CircuitPlan → List (List ℕ)
name_at before service edge circuit None = []
name_at before service edge circuit (Some row) = if is_site_at before service edge circuit row then row.name ∷ [] else []

-- the names of the sites there, of the rows from a place on
abbrev pub names_at : NetworkState → ServiceId → ℕ → ℕ → List CircuitPlan → List (List ℕ)
names_at before service edge circuit [] = []
names_at before service edge circuit (row ∷ rows) = name_at before service edge circuit (Some row) ++ names_at before service edge (circuit + 1) rows

-- those at an edge that passes a test
abbrev pub names_if : Plan → NetworkState → ServiceId → (ℕ → Bool) → ℕ → List (List ℕ)
names_if plan before service test edge = if test edge then names_at before service edge 0 plan.circuits else []

-- those at the edges of the rows from a place on that pass it
abbrev pub names_where : Plan → NetworkState → ServiceId → (ℕ → Bool) → ℕ → List EdgePlan → List (List ℕ)
names_where plan before service test edge [] = []
names_where plan before service test edge (row ∷ rows) = names_if plan before service test edge ++ names_where plan before service test (edge + 1) rows

-- a circuit of the service that is off
abbrev pub is_off : NetworkState → ServiceId → ℕ → CircuitPlan → Bool
is_off before service circuit row = row.service.0 == service.0 && not (is_row_on before (record { 0 = circuit }) (Some row))

-- the one at a place, where there is one
abbrev pub is_off_row : NetworkState → ServiceId → ℕ → Option CircuitPlan → Bool
is_off_row before service circuit None = false
is_off_row before service circuit (Some row) = is_off before service circuit row

abbrev pub name_off : NetworkState → ServiceId → ℕ → Option CircuitPlan → List (List ℕ)
name_off before service circuit None = []
name_off before service circuit (Some row) = if is_off before service circuit row then row.name ∷ [] else []

-- the names of those of the rows from a place on
abbrev pub names_off : NetworkState → ServiceId → ℕ → List CircuitPlan → List (List ℕ)
names_off before service circuit [] = []
names_off before service circuit (row ∷ rows) = name_off before service circuit (Some row) ++ names_off before service (circuit + 1) rows

-- some circuit of the rows from a place on is off
abbrev pub any_off : NetworkState → ServiceId → ℕ → List CircuitPlan → Bool
any_off before service circuit [] = false
any_off before service circuit (row ∷ rows) = is_off before service circuit row || any_off before service (circuit + 1) rows

-- a word and the name of a service, with which a line begins
abbrev pub line_head : Plan → ServiceId → List ℕ → List ℕ
line_head plan service word = word ++ (codes " " ++ service_name plan service)

-- such a line of names
abbrev pub names_line : Plan → ServiceId → List ℕ → List (List ℕ) → List ℕ
names_line plan service word names = line_head plan service word ++ (spaced names ++ codes "\n")

abbrev pub off_line : Plan → NetworkState → ServiceId → List ℕ
off_line plan before service = if any_off before service 0 plan.circuits then names_line plan service (codes "off") (names_off before service 0 plan.circuits) else []

-- ---- relations

-- the edges that are cut
abbrev pub cut_line : Plan → NetworkState → ServiceId → (ℕ → Bool) → List ℕ
cut_line plan before service cut = if any_edge cut 0 plan.edges then names_line plan service (codes "cut") (names_where plan before service cut 0 plan.edges) else []

-- the sites of an edge, and those at the edges of the rows behind it that pass a test, end a line
abbrev pub sites_end : Plan → NetworkState → ServiceId → (ℕ → Bool) → ℕ → List EdgePlan → List ℕ
sites_end plan before service test edge rest =
    spaced (names_at before service edge 0 plan.circuits) ++ (codes " :" ++ (spaced (names_where plan before service test (edge + 1) rest) ++ codes "\n"))

abbrev pub sites_line : Plan → NetworkState → ServiceId → List ℕ → (ℕ → Bool) → ℕ → List EdgePlan → List ℕ
sites_line plan before service word test edge rest = line_head plan service word ++ sites_end plan before service test edge rest

-- such a line, where an edge behind it passes
abbrev pub row_line : Plan → NetworkState → ServiceId → List ℕ → (ℕ → Bool) → ℕ → List EdgePlan → List ℕ
row_line plan before service word test edge rest = if any_edge test (edge + 1) rest then sites_line plan before service word test edge rest else []

-- each edge of the rows from a place on and the later ones that are a pair with it
abbrev pub row_lines : Plan → NetworkState → ServiceId → List ℕ → (ℕ → ℕ → Bool) → ℕ → List EdgePlan → List ℕ
row_lines plan before service word pair edge [] = []
row_lines plan before service word pair edge (row ∷ rows) = row_line plan before service word (pair edge) edge rows ++ row_lines plan before service word pair (edge + 1) rows

-- two edges are a pair and neither is cut
abbrev pub are_left : (ℕ → ℕ → Bool) → (ℕ → Bool) → ℕ → ℕ → Bool
are_left pair cut a b = pair a b && (not (cut a) && not (cut b))

-- first the edges that are cut, and then the others
abbrev pub relation_text : Plan → NetworkState → ServiceId → List ℕ → (ℕ → ℕ → Bool) → (ℕ → Bool) → List ℕ
relation_text plan before service word pair cut = cut_line plan before service cut ++ row_lines plan before service word (are_left pair cut) 0 plan.edges

-- ---- what there is before each case

abbrev pub count_all : Plan → NetworkState → ServiceId → ℕ
count_all plan before service = sites_where (count_sites plan before service) (λ edge. true) 0 plan.edges

abbrev pub count_apart : Plan → NetworkState → ServiceId → ℕ
count_apart plan before service = pairs_where (count_sites plan before service) (are_apart plan before service) 0 plan.edges

-- the first line of a service
abbrev pub service_line : Plan → NetworkState → ServiceId → List ℕ
service_line plan before service =
    line_of (codes "service" ∷ service_name plan service ∷ (codes "sites=" ++ decimal (count_all plan before service)) ∷ (codes "apart=" ++ decimal (count_apart plan before service)) ∷ [])

-- its pairs of sites that are apart
abbrev pub apart_text : Plan → NetworkState → ServiceId → List ℕ
apart_text plan before service =
    relation_text plan before service (codes "apart") (are_apart plan before service) (is_cut plan.edges (are_apart plan before service) (is_other plan before service))

abbrev pub service_text : Plan → NetworkState → ServiceId → List ℕ
service_text plan before service = service_line plan before service ++ (off_line plan before service ++ apart_text plan before service)

abbrev pub service_texts : Plan → NetworkState → ℕ → List ServicePlan → List ℕ
service_texts plan before service [] = []
service_texts plan before service (row ∷ rows) = service_text plan before (record { 0 = service }) ++ service_texts plan before (service + 1) rows

abbrev pub label_line : Plan → NetworkState → ℕ → List ℕ
label_line plan before edge = if has_label before edge then [] else line_of (codes "no_label" ∷ edge_name plan (record { 0 = edge }) ∷ [])

abbrev pub label_lines : Plan → NetworkState → ℕ → List EdgePlan → List ℕ
label_lines plan before edge [] = []
label_lines plan before edge (row ∷ rows) = label_line plan before edge ++ label_lines plan before (edge + 1) rows

abbrev pub ground_text : Plan → NetworkState → List ℕ
ground_text plan before = service_texts plan before 0 plan.services ++ label_lines plan before 0 plan.edges

-- ---- cases

-- the first edge of a wire
abbrev pub first_of_row : Option WirePlan → Option EdgeId
first_of_row None = None
first_of_row (Some row) = first_edge row.path

abbrev pub edge_or_none : Option EdgeId → EdgeId
edge_or_none None = record { 0 = 0 }
edge_or_none (Some edge) = edge

-- the event that makes a fault
abbrev pub event_of : Plan → Fault → Event
event_of plan (fault.Session one other) = event.Lose one other
event_of plan (fault.Edge edge) = event.Restart edge
event_of plan (fault.Wire wire) = event.Wire (edge_or_none (first_of_row (wire_row plan wire))) wire false
event_of plan (fault.Priority wire number) = event.Priority (edge_or_none (first_of_row (wire_row plan wire))) wire number
event_of plan (fault.Circuit circuit) = event.Circuit circuit false

abbrev pub fault_words : Plan → Fault → List (List ℕ)
fault_words plan one = event_words plan (event_of plan one)

-- those of further events, a plus before each
abbrev pub later_words : Plan → List Fault → List (List ℕ)
later_words plan [] = []
later_words plan (one ∷ faults) = (codes "+" ∷ fault_words plan one) ++ later_words plan faults

-- the words of the events of a case
abbrev pub case_words : Plan → List Fault → List (List ℕ)
case_words plan [] = []
case_words plan (one ∷ faults) = fault_words plan one ++ later_words plan faults

-- what a case changes in a service
abbrev pub lost_text : Plan → NetworkState → List Fault → ServiceId → List ℕ
lost_text plan before faults service =
    relation_text plan before service (codes "lost") (lose plan before service faults) (is_cut plan.edges (lose plan before service faults) (is_reached plan before service))

abbrev pub found_text : Plan → NetworkState → List Fault → ServiceId → List ℕ
found_text plan before faults service = relation_text plan before service (codes "found") (find plan before service faults) (λ edge. false)

abbrev pub change_text : Plan → NetworkState → List Fault → ℕ → List ℕ
change_text plan before faults service = lost_text plan before faults (record { 0 = service }) ++ found_text plan before faults (record { 0 = service })

-- service by service
abbrev pub change_texts : Plan → NetworkState → List Fault → ℕ → List ServicePlan → List ℕ
change_texts plan before faults service [] = []
change_texts plan before faults service (row ∷ rows) = change_text plan before faults service ++ change_texts plan before faults (service + 1) rows

-- a word and a number, with which a line begins
abbrev pub count_head : List ℕ → ℕ → List ℕ
count_head word number = word ++ (codes " " ++ decimal number)

-- the words of the events of a case end a line
abbrev pub case_end : Plan → List Fault → List ℕ
case_end plan faults = spaced (case_words plan faults) ++ codes "\n"

abbrev pub case_line : Plan → NetworkState → List Fault → List ℕ
case_line plan before faults =
    count_head (codes "case") (count_lost plan before faults) ++ ((codes " " ++ decimal (count_found plan before faults)) ++ case_end plan faults)

abbrev pub case_text : Plan → NetworkState → List Fault → List ℕ
case_text plan before faults = if is_told plan before faults then case_line plan before faults ++ change_texts plan before faults 0 plan.services else []

abbrev pub case_texts : Plan → NetworkState → List (List Fault) → List ℕ
case_texts plan before [] = []
case_texts plan before (one ∷ cases) = case_text plan before one ++ case_texts plan before cases

-- ---- what is counted of the cases

pub record Tallied : Type 0 where
  pub cases : ℕ
  pub split : ℕ
  pub told : ℕ
  -- the most pairs that a case loses, and the first case that loses so many
  pub worst : ℕ
  pub worst_case : List Fault

abbrev pub no_cases : Tallied
no_cases = record { cases = 0; split = 0; told = 0; worst = 0; worst_case = [] }

-- a count after one more, which stands still at the greatest number of 64 bits
abbrev pub one_more : ℕ → ℕ
one_more count = min (count + 1) 18446744073709551615

-- after a case that loses so many pairs, and is told or not
abbrev pub counted : List Fault → ℕ → Bool → Tallied → Tallied
counted faults lost told tally = record {
  cases = one_more tally.cases;
  split = if nat_lt 0 lost then one_more tally.split else tally.split;
  told = if told then one_more tally.told else tally.told;
  worst = if nat_lt tally.worst lost then lost else tally.worst;
  worst_case = if nat_lt tally.worst lost then faults else tally.worst_case;
}

abbrev pub tally_case : Plan → NetworkState → List Fault → Tallied → Tallied
tally_case plan before faults tally = counted faults (count_lost plan before faults) (is_told plan before faults) tally

abbrev pub tally_cases : Plan → NetworkState → Tallied → List (List Fault) → Tallied
tally_cases plan before tally [] = tally
tally_cases plan before tally (one ∷ cases) = tally_cases plan before (tally_case plan before one tally) cases

abbrev pub worst_line : Plan → Tallied → List ℕ
worst_line plan tally = if nat_lt 0 tally.worst then count_head (codes "worst") tally.worst ++ case_end plan tally.worst_case else []

abbrev pub end_line : ℕ → Tallied → List ℕ
end_line faults tally =
    line_of (codes "end" ∷ (codes "faults=" ++ decimal faults) ∷ (codes "cases=" ++ decimal tally.cases) ∷ (codes "split=" ++ decimal tally.split) ∷ (codes "told=" ++ decimal tally.told) ∷ [])

abbrev pub end_text : Plan → ℕ → Tallied → List ℕ
end_text plan faults tally = worst_line plan tally ++ end_line faults tally

-- the lines of the cases of some faults, and the last ones
abbrev pub cases_text : Plan → NetworkState → List Fault → List (List Fault) → List ℕ
cases_text plan before faults cases = case_texts plan before cases ++ end_text plan (length faults) (tally_cases plan before no_cases cases)

-- the whole text
unfoldable pub survey_text : Plan → NetworkState → ℕ → List ℕ
survey_text plan before most = ground_text plan before ++ cases_text plan before (all_faults plan before) (cases_of most (all_faults plan before))
