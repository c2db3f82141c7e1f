use Rattle.std.proofs.Common.{◌≡◌, ℕ, ◌<◌, length, get_or}
use Rattle.cover.specs.Sets.{start_at, sum_to}
use Rattle.cover.proofs.sums.Summed.of.Given as goal

abbrev pub invariant-loop-j : goal.invariant-loop-j
invariant-loop-j l = (length l.sums ≡ 144) × ((i : ℕ) → i < start_at l.j → get_or l.sums i 0 ≡ sum_to 9 i l.figure-items)
