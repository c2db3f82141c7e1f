use Rattle.std.proofs.Common.{◌≡◌, ◌+◌, length, get_or}
use Rattle.cover.proofs.SetSums.{Written}
use Rattle.cover.proofs.covering.add_budget.Given as goal

abbrev pub invariant-loop-sum : goal.invariant-loop-sum
invariant-loop-sum l = (length l.sum-items ≡ 143) × Written (λ k. get_or l.initial.sum-items k 0 + l.budget) l.sum-index l.initial.sum-items l.sum-items
