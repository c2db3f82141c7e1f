use Rattle.std.proofs.Common.{arith}
use Rattle.entry.specs.Places.{figures_side, positions_at, sub_types}
use Rattle.entry.proofs.Parts.{inner_kept}
use Rattle.entry.proofs.figures.figures_side.Goals as goal

pub nine-requires : goal.nine-requires
nine-requires c = (c.requires.0, inner_kept positions_at sub_types figures_side c.requires.0 c.args.list.now c.requires.1 (omega arith))
