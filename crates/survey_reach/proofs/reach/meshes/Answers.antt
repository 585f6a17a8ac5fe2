use Rattle.std.proofs.Common.{◌||◌, ◌&&◌, ◌∙◌, Bool, ap, rules}
use Rattle.net_base.specs.plan.Roles.{any_wire}
use Rattle.survey_reach.specs.Reach.{mesh_row, sound_mesh}
use Rattle.survey_reach.specs.Words.{has_pair}
use Rattle.survey_reach.proofs.MeshLemmas.{meshes_end, meshes_more}
use Rattle.survey_reach.proofs.reach.meshes.Goals as goal

pub loop-wire-preserved : goal.loop-wire-preserved
loop-wire-preserved g c a b la lb =
    meshes_more (sound_mesh g.test c.args.service a b) c.loop-wire.wire c.as_slice-wires.result.now c.index-wires-wire.result c.index-wires-wire.result (has_pair c.loop-wire.pairs a b)
    (has_pair c.join_mesh.new.pairs a b) (any_wire (sound_mesh g.test c.args.service a b) 0 c.as_slice-wires.result.now) (search rules) (search rules) (c.loop-wire.invariant a b la lb)
    (c.join_mesh.ensures a b la lb ∙ ap (λ (s : Bool). (mesh_row c.args.service a b c.index-wires-wire.result && s) || has_pair c.loop-wire.pairs a b)
    (c.requires.each c.loop-wire.wire (search rules)))

pub returns : goal.returns
returns g c = record {
  each = λ a b la lb. meshes_end (sound_mesh g.test c.args.service a b) c.loop-wire.wire c.as_slice-wires.result.now (has_pair c.loop-wire.pairs a b)
      (any_wire (sound_mesh g.test c.args.service a b) 0 c.as_slice-wires.result.now) (search rules) (c.loop-wire.invariant a b la lb)
      ∙ ap (any_wire (sound_mesh g.test c.args.service a b) 0) c.as_slice-wires.ensures;
}
