use Rattle.cover.specs.Sets.{LimitTo}
use Rattle.cover.proofs.pending.Pending.limit.Given as goal

abbrev pub invariant-loop-k : goal.invariant-loop-k
invariant-loop-k l = LimitTo l.k l.self.rest l.offer.room l.offer.capability.figures l.self.left.figures l.pair.capability l.pair.position l.b l.d
