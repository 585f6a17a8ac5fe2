-- The lines of a script, one after another.
use Rattle.std.proofs.Common.{◌≡◌, ◌≢◌, ◌∙◌, List, [], ◌∷◌, Option, Some, None, ap, sym, subst}
use Rattle.std.proofs.lemmas.List.Elements.{All-head}
use Rattle.std.specs.List.{All}
use Rattle.net_base.specs.declared.plan.Plan.{Plan}
use Rattle.network_model.specs.State.{empty_network}
use Rattle.psn_net.specs.declared.net_stop.NetStop.{NetStop}
use Rattle.psn_net.specs.declared.net_stop.NetStop.TheVariants.{NoMemory}
use Rattle.psn_net.specs.Runs.{ended, ran}
use Rattle.discovery_script.specs.declared.script_line.ScriptLine.{ScriptLine}
use Rattle.discovery_script.specs.Planned.{IsDiscoveryLineOf}
use Rattle.discovery_net.specs.Acts.{course}
use Rattle.discovery_net.specs.Deeds.{Discovery, discovery_opened}
use Rattle.discovery_net.specs.Lines.{acts_of, after_line}
use Rattle.discovery_net.specs.Lists.{DiscoveryLists, HaltsIn, HasDoneActs, IsAt, course_on, ended_at}
use Rattle.discovery_net.specs.Script.{IsUnderWay, events_made, script_acts, script_course}
use Rattle.discovery_net.proofs.CourseLemmas.{course_ran, halted_at, network_of}

way_first : (plan : Plan) (all : List ScriptLine) (now : DiscoveryLists) → now.network.plan ≡ plan → now.network.trace ≡ [] → now.notes ≡ [] → IsAt (discovery_opened plan) now → IsUnderWay plan all all now
way_first plan all now same trace notes at = record {
  discovery = discovery_opened plan;
  at = at;
  comes = λ i. course (same i) (at.network i) (trace i) (notes i) (script_acts plan (discovery_opened plan) all);
}

pub way_next : (plan : Plan) (all items left : List ScriptLine) (line : ScriptLine) (old now : DiscoveryLists) → items ≡ line ∷ left → old.network.plan ≡ plan
    → ((d : Discovery) → IsAt d old → HasDoneActs old now (acts_of old.network.plan d line))
    → ((d : Discovery) → IsAt d old → IsAt (after_line old.network.plan d line) now) → IsUnderWay plan all items old → IsUnderWay plan all left now
way_next plan all items left line old now split same acts after begun =
    let way : IsUnderWay plan all (line ∷ left) old = subst (λ (ls : List ScriptLine). IsUnderWay plan all ls old) split begun in
    record {
      discovery = after_line plan way.discovery line;
      at = subst (λ (p : Plan). IsAt (after_line p way.discovery line) now) same (after way.discovery way.at);
      comes = subst (λ (p : Plan). HasDoneActs old now (acts_of p way.discovery line)) same (acts way.discovery way.at) (script_acts plan (after_line plan way.discovery line) left) ∙ way.comes;
    }

pub way_stopped : (plan : Plan) (all items left : List ScriptLine) (line : ScriptLine) (old now : DiscoveryLists) (stop : NetStop) → items ≡ line ∷ left → old.network.plan ≡ plan → stop ≢ NoMemory
    → ((d : Discovery) → IsAt d old → HaltsIn stop old now (acts_of old.network.plan d line)) → IsUnderWay plan all items old → ended_at now (Some stop) ≡ script_course plan all
way_stopped plan all items left line old now stop split same limit halts begun =
    let way : IsUnderWay plan all (line ∷ left) old = subst (λ (ls : List ScriptLine). IsUnderWay plan all ls old) split begun in
    halted_at stop now (course_on old (script_acts plan way.discovery (line ∷ left))) limit
    (subst (λ (p : Plan). HaltsIn stop old now (acts_of p way.discovery line)) same (halts way.discovery way.at) (script_acts plan (after_line plan way.discovery line) left))
    ∙ way.comes

-- no line is left
pub way_ended : (plan : Plan) (all items : List ScriptLine) (now : DiscoveryLists) → items ≡ [] → IsUnderWay plan all items now → ended_at now None ≡ script_course plan all
way_ended plan all items now none begun =
    let way : IsUnderWay plan all [] now = subst (λ (ls : List ScriptLine). IsUnderWay plan all ls now) none begun in
    way.comes

-- the events are those of a run
pub events_ran : (plan : Plan) (lines : List ScriptLine) (n : DiscoveryLists) (stop : Option NetStop) → ended_at n stop ≡ script_course plan lines → ended n.network stop
    ≡ ran plan (empty_network plan) [] (events_made plan lines)
events_ran plan lines n stop is = ap network_of is ∙ course_ran plan (empty_network plan) [] [] (script_acts plan (discovery_opened plan) lines)

-- what all lines come to is what the script comes to
pub script_ended : (plan : Plan) (lines : List ScriptLine) (stop : Option NetStop) (first last : DiscoveryLists) → first.network.plan ≡ plan → first.network.trace ≡ [] → first.notes ≡ []
    → IsAt (discovery_opened plan) first
    → ((all : List ScriptLine) → IsUnderWay first.network.plan all lines first → ended_at last stop ≡ script_course first.network.plan all) → ended_at last stop ≡ script_course plan lines
script_ended plan lines stop first last same trace notes at ends =
    subst (λ (p : Plan). ended_at last stop ≡ script_course p lines) same
    (ends lines (subst (λ (p : Plan). IsUnderWay p lines lines first) (sym same) (way_first plan lines first same trace notes at)))

-- the next line names places of the plan
pub line_first : (plan other : Plan) (items left : List ScriptLine) (line : ScriptLine) → items ≡ line ∷ left → other ≡ plan → All (IsDiscoveryLineOf plan) items → IsDiscoveryLineOf other line
line_first plan other items left line split same are =
    subst (λ (p : Plan). IsDiscoveryLineOf p line) (sym same) (All-head (IsDiscoveryLineOf plan) line left (subst (All (IsDiscoveryLineOf plan)) split are))
