-- What is known of a trace is what the rules say of it.
use Rattle.std.specs.Prelude.{◌≡◌, ◌↔◌, List, None}
use Rattle.net_base.specs.declared.plan.Plan.{Plan}
use Rattle.net_base.specs.declared.trace.entry.Entry.{Entry}
use Rattle.net_base.specs.trace.Isolated.{Isolated}
use Rattle.net_base.specs.trace.Split.{Split}
use Rattle.trace_audit.specs.Judged.{begun, judges_all}

-- no line of a stray is known exactly where each frame that left had entered before
abbrev pub StraysAreTold : Type 0
StraysAreTold = (plan : Plan) (trace : List Entry) → ((judges_all plan begun trace).stray ≡ None) ↔ Isolated plan trace

-- no line of a crossing packet is known exactly where the mesh is split
abbrev pub CrossingsAreTold : Type 0
CrossingsAreTold = (plan : Plan) (trace : List Entry) → ((judges_all plan begun trace).crossed ≡ None) ↔ Split plan trace
