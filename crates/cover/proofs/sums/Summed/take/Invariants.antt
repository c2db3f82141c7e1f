use Rattle.std.proofs.Common.{◌≡◌, ◌-◌, cond, length, get_or}
use Rattle.least.specs.Chains.{mem}
use Rattle.cover.proofs.SetSums.{Written}
use Rattle.cover.proofs.sums.Summed.take.Given as goal

abbrev pub invariant-loop-k : goal.invariant-loop-k
invariant-loop-k l = (length l.sum-items ≡ 144) × Written (λ k. get_or l.initial.sum-items k 0 - cond (mem k l.j) l.d 0) l.k l.initial.sum-items l.sum-items
