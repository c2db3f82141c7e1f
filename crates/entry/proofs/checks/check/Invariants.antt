use Rattle.std.proofs.Common.{ℕ, ◌<◌}
use Rattle.entry.specs.Keeps.{Keeps}
use Rattle.entry.proofs.checks.check.Given as goal

abbrev pub invariant-loop-i : goal.invariant-loop-i
invariant-loop-i l = (k : ℕ) → k < l.i → Keeps l.form l.list k
