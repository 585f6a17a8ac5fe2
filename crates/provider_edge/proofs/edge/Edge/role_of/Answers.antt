-- The row of the wire tells the role: that of a mesh wire, or what the end is to a spoke that is chosen or not.
use Rattle.std.proofs.Common.{◌∙◌, ap, refl, slice_get, sym}
use Rattle.net_base.specs.declared.plan.Plan.{Plan}
use Rattle.edge_model.specs.Role.{end_role_of, is_chosen_wire}
use Rattle.provider_edge.proofs.SlotLemmas.{mesh_role, role_read}
use Rattle.provider_edge.specs.Lists.{EdgeLists, seen}
use Rattle.provider_edge.proofs.edge.Edge.role_of.Goals as goal

pub returns-in-Mesh : goal.returns-in-Mesh
returns-in-Mesh c =
    role_read c.args.self.now c.args.self.now c.args.wire c.in-Some.row.now
    (is_chosen_wire c.args.wire ((seen c.args.self.now).chosen c.in-Some.row.now.service.0)) _ refl
    (sym (c.in-Some.ensures ∙ (ap (λ (p : Plan). slice_get p.wires c.args.wire.0) c.deref.ensures
    ∙ ap (λ (n : EdgeLists). slice_get n.plan.wires c.args.wire.0) c.self.view_is))) refl
    (mesh_role c.in-Some.row.now c.args.self.now.me (is_chosen_wire c.args.wire ((seen c.args.self.now).chosen c.in-Some.row.now.service.0)) c.in-Mesh.is)

pub returns-in-Spoke : goal.returns-in-Spoke
returns-in-Spoke c =
    role_read c.args.self.now c.args.self.now c.args.wire c.in-Some.row.now c.is_chosen.result c.role_of.result refl
    (sym (c.in-Some.ensures ∙ (ap (λ (p : Plan). slice_get p.wires c.args.wire.0) c.deref.ensures
    ∙ ap (λ (n : EdgeLists). slice_get n.plan.wires c.args.wire.0) c.self.view_is))) c.is_chosen.ensures
    (c.role_of.ensures.role ∙ ap (λ (n : EdgeLists). end_role_of c.in-Some.row.now n.me c.is_chosen.result) c.self.view_is)
