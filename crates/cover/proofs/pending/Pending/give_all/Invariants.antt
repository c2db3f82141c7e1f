use Rattle.std.proofs.Common.{◌≡◌}
use Rattle.cover.proofs.ServedPairs.{Serving}
use Rattle.cover.proofs.pending.Pending.give_all.Given as goal

abbrev pub invariant-loop-t : goal.invariant-loop-t
invariant-loop-t l =
    (l.self.rest ≡ l.initial.self.rest)
    × Serving l.t l.initial.self.rest l.initial.offer.room l.initial.offer.capability.figures l.initial.self.left.figures l.offer.room l.offer.capability.figures l.self.left.figures l.row
