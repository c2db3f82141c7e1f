use Rattle.cover.proofs.CoverSteps.{Filing}
use Rattle.cover.proofs.covering.write_cover.Given as goal

abbrev pub invariant-loop-row : goal.invariant-loop-row
invariant-loop-row l = Filing l.row-index l.n l.least l.a l.pending.rest l.pending.left.figures l.initial.out l.out
