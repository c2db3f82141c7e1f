use Rattle.std.proofs.Common.{sym, ◌∙◌}
use Rattle.cover.proofs.LimitSteps.{limit_skip, limit_less}
use Rattle.cover.proofs.pending.Pending.limit.Goals as goal
use Rattle.cover.proofs.pending.Pending.limit.Goals.{then-not-member, else-not-member}

pub loop-k-preserved : goal.loop-k-preserved
loop-k-preserved c = elim c.if-not-member.branch [
  | then-not-member w ↦ limit_less _ _ _ _ _ _ _ _ _ _ _ c.loop-k.invariant (sym c.member.ensures ∙ w.if-not-member.true) w.spare.ensures (w.d-is ∙ w.min-d.ensures)
  | else-not-member w ↦ limit_skip _ _ _ _ _ _ _ _ _ _ c.loop-k.invariant (sym c.member.ensures ∙ w.if-not-member.false) w.d-is
]
