-- The sides of a switching point.
use Rattle.pw_stitch.specs.declared.side.Side.{Side}
use Rattle.pw_stitch.specs.declared.side.Side.TheVariants.{Before, After}

abbrev pub opposite : Side → Side
opposite Before = After
opposite After = Before
