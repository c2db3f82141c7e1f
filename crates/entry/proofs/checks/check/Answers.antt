use Rattle.std.proofs.Common.{below_more}
use Rattle.entry.proofs.checks.check.Goals as goal

pub loop-i-preserved : goal.loop-i-preserved
loop-i-preserved c = below_more _ _ c.loop-i.invariant (c.keeps.ensures.0 c.if-not-keeps.false)
