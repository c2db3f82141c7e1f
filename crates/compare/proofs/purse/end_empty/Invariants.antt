use Rattle.std.proofs.Common.{◌≡◌, vec_items, vec_len}
use Rattle.replay.specs.Guarantee.{claims_in}
use Rattle.compare.proofs.purse.end_empty.Given as goal

abbrev pub invariant-loop-place : goal.invariant-loop-place
invariant-loop-place l = claims_in (vec_items l.purse) ≡ 0

abbrev pub decreases-loop-place : goal.decreases-loop-place
decreases-loop-place l = vec_len l.purse
