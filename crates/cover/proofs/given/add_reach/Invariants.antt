use Rattle.std.proofs.Common.{◌≡◌, ◌+◌, min, length, get_or}
use Rattle.cover.specs.Sets.{sum_to}
use Rattle.cover.proofs.SetSums.{Written}
use Rattle.cover.proofs.given.add_reach.Given as goal

abbrev pub invariant-loop-k : goal.invariant-loop-k
invariant-loop-k l = (length l.reached ≡ 144) × Written (λ k. get_or l.initial.reached k 0 + min l.offer.room (sum_to 9 k l.offer.capability.figures)) l.k l.initial.reached l.reached
