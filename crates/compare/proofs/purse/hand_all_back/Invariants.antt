use Rattle.std.proofs.Common.{vec_items, vec_len}
use Rattle.book.specs.State.{struck_book}
use Rattle.compare.specs.Kept.{Kept}
use Rattle.compare.proofs.purse.hand_all_back.Given as goal

abbrev pub invariant-loop-place : goal.invariant-loop-place
invariant-loop-place l = Kept (struck_book l.book) l.desk (vec_items l.purse)

abbrev pub decreases-loop-place : goal.decreases-loop-place
decreases-loop-place l = vec_len l.purse
