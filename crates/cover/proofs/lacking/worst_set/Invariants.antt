use Rattle.cover.specs.Binding.{Worst}
use Rattle.cover.proofs.lacking.worst_set.Given as goal

abbrev pub invariant-loop-k : goal.invariant-loop-k
invariant-loop-k l = Worst l.k l.reached l.asked.figures l.worst.number l.worst.lack
