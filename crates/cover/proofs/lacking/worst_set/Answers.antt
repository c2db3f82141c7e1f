use Rattle.std.proofs.Common.{ap, arith}
use Rattle.cover.proofs.SetSums.{sum_under}
use Rattle.cover.proofs.WorstSet.{worst_none, worst_here, worst_there, worst_as}
use Rattle.cover.proofs.lacking.worst_set.Goals as goal
use Rattle.cover.proofs.lacking.worst_set.Goals.{then-lack-worst, else-lack-worst}

pub loop-k-init : goal.loop-k-init
loop-k-init c = worst_none _ _

pub loop-k-preserved : goal.loop-k-preserved
loop-k-preserved c =
    let sum = c.args.asked.now.each c.loop-k.k c.loop-k-test.true in
    elim c.if-lack-worst.branch [
      | then-lack-worst w ↦ worst_as (ap (λ s. s.number) w.worst-is) (ap (λ s. s.lack) w.worst-is) (worst_here _ _ _ _ _ _ _ c.loop-k.invariant c.loop-k-test.true sum c.saturating_sub-lack.ensures w.if-lack-worst.true)
      | else-lack-worst w ↦ worst_as (ap (λ s. s.number) w.worst-is) (ap (λ s. s.lack) w.worst-is) (worst_there _ _ _ _ _ _ _ c.loop-k.invariant c.loop-k-test.true sum c.saturating_sub-lack.ensures w.if-lack-worst.false)
    ]

pub returns-clause-small : goal.returns-clause-small
returns-clause-small c =
    let asked = c.args.asked.now in
    omega (arith, c.loop-k.invariant.lack, sum_under c.loop-k.worst.number 5130000000 asked.figures asked.low)
