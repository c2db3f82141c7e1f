use Rattle.std.proofs.Common.{◌≡◌, ℕ, ◌+◌, ◌-◌, ◌<◌, ◌≤◌, length, get_or}
use Rattle.cover.proofs.sums.extend.Given as goal

abbrev pub invariant-loop-k : goal.invariant-loop-k
invariant-loop-k l =
    (length l.sums ≡ 144)
    × ((k : ℕ) → k < l.from → get_or l.sums k 0 ≡ get_or l.initial.sums k 0)
    × ((k : ℕ) → k < l.k → l.from ≤ k → get_or l.sums k 0 ≡ get_or l.initial.sums (k - l.width) 0 + l.figure)
