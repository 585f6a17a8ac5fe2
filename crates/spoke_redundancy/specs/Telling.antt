-- What an end tells of the choice among spokes.
use Rattle.std.specs.Prelude.{Bool, true, false}
use Rattle.pw_signalling.specs.declared.end_role.EndRole.{EndRole}
use Rattle.pw_signalling.specs.declared.end_role.EndRole.TheVariants as role

-- a spoke edge's end of a spoke that it has not chosen
abbrev pub is_not_chosen : EndRole → Bool
is_not_chosen role.NotChosen = true
is_not_chosen other = false
