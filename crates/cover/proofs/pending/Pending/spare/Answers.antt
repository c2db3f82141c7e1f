use Rattle.std.proofs.Common.{refl, ◌∙◌}
use Rattle.cover.proofs.LimitSteps.{spare_is, gain_yes, gain_no}
use Rattle.cover.proofs.pending.Pending.spare.Goals as goal
use Rattle.cover.proofs.pending.Pending.spare.Goals.{then-member, else-member}

pub returns : goal.returns
returns c =
    let left = c.args.self.now.left in
    let k = c.args.k in
    c.saturating_sub.ensures ∙ spare_is _ _ _ _ _ _ c.member.result _ _ c.member.ensures
    (elim c.if-member.branch [
      | then-member w ↦ gain_yes _ _ _ _ _ w.if-member.true refl (w.gain-is ∙ w.reach-gain.ensures)
      | else-member w ↦ gain_no _ _ _ _ w.if-member.false w.gain-is
    ])
    (left.each k c.requires)
