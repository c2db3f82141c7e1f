use Rattle.std.proofs.Common.{vec_items}
use Rattle.replay.specs.Runs.{any_book}
use Rattle.compare.specs.Kept.{Kept}
use Rattle.compare.proofs.play.play_all.Given as goal

abbrev pub invariant-loop-piece : goal.invariant-loop-piece
invariant-loop-piece l = Kept (any_book l.current) l.desk (vec_items l.purse)
