use Rattle.std.proofs.Common.{◌≡◌, ◌-◌, min, length, get_or}
use Rattle.cover.specs.Sets.{sum_to}
use Rattle.cover.proofs.SetSums.{Written}
use Rattle.cover.proofs.pending.Pending.take_reach.Given as goal

abbrev pub invariant-loop-k : goal.invariant-loop-k
invariant-loop-k l = (length l.sum-items ≡ 144) × Written (λ k. get_or l.initial.sum-items k 0 - min l.offer.room (sum_to 9 k l.offer.capability.figures)) l.k l.initial.sum-items l.sum-items
