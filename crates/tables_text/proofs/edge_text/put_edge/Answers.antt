-- The lines of the edge, of its sessions, of its ends and of its addresses stand one behind the other.
use Rattle.std.proofs.Common.{◌++◌}
use Rattle.edge_model.specs.EndPlaces.{end_places}
use Rattle.provider_edge.specs.Lists.{seen}
use Rattle.tables_text.specs.Tables.{edge_line, edge_text, end_lines, service_lines, session_lines}
use Rattle.text_lines.proofs.WrittenLemmas.{cut_first, cut_later, puts_two}
use Rattle.tables_text.proofs.edge_text.put_edge.Goals as goal

pub returns-in-Err : goal.returns-in-Err
unfolding edge_text
returns-in-Err g c =
    let edge = c.args.edge.now in
    cut_first _ _ (edge_line edge.plan edge.me (seen edge))
    (session_lines edge.plan edge.me (seen edge) 0 edge.plan.edges
    ++ (end_lines edge.plan (seen edge) (end_places edge.plan edge.me) ++ service_lines edge.plan edge.me (seen edge) 0 edge.plan.services))
    (rw c.words.ensures at c.in-Err.ensures)

pub returns-in-Err-put_sessions : goal.returns-in-Err-put_sessions
unfolding edge_text
returns-in-Err-put_sessions g c =
    let edge = c.args.edge.now in
    let own = edge_line edge.plan edge.me (seen edge) in
    let rest = end_lines edge.plan (seen edge) (end_places edge.plan edge.me) ++ service_lines edge.plan edge.me (seen edge) 0 edge.plan.services in
    cut_later _ _ _ own (session_lines edge.plan edge.me (seen edge) 0 edge.plan.edges ++ rest) (rw c.words.ensures at c.in_default.ensures)
    (cut_first _ _ (session_lines edge.plan edge.me (seen edge) 0 edge.plan.edges) rest c.in-Err-put_sessions.ensures)

pub returns-in-Ok : goal.returns-in-Ok
unfolding edge_text
returns-in-Ok g c =
    let edge = c.args.edge.now in
    let ends = end_lines edge.plan (seen edge) (end_places edge.plan edge.me) in
    let services = service_lines edge.plan edge.me (seen edge) 0 edge.plan.services in
    puts_two c.put_addresses.result _ _ _ (edge_line edge.plan edge.me (seen edge)) (session_lines edge.plan edge.me (seen edge) 0 edge.plan.edges ++ (ends ++ services))
    (rw c.words.ensures at c.in_default.ensures)
    (puts_two c.put_addresses.result _ _ _ (session_lines edge.plan edge.me (seen edge) 0 edge.plan.edges) (ends ++ services) c.in_default-put_sessions.ensures
    (puts_two c.put_addresses.result _ _ _ ends services c.in-Ok.ensures c.put_addresses.ensures))

pub returns-in-Err-put_ends : goal.returns-in-Err-put_ends
unfolding edge_text
returns-in-Err-put_ends g c =
    let edge = c.args.edge.now in
    let ends = end_lines edge.plan (seen edge) (end_places edge.plan edge.me) in
    let services = service_lines edge.plan edge.me (seen edge) 0 edge.plan.services in
    cut_later _ _ _ (edge_line edge.plan edge.me (seen edge)) (session_lines edge.plan edge.me (seen edge) 0 edge.plan.edges ++ (ends ++ services)) (rw c.words.ensures at c.in_default.ensures)
    (cut_later _ _ _ (session_lines edge.plan edge.me (seen edge) 0 edge.plan.edges) (ends ++ services) c.in_default-put_sessions.ensures (cut_first _ _ ends services c.in-Err-put_ends.ensures))
