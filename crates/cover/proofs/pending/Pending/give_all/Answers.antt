use Rattle.std.proofs.Common.{refl, ◌∙◌, arith, rules}
use Rattle.cover.specs.Amounts.{cap_at, pos_at}
use Rattle.cover.proofs.ServedPairs.{serving_none, serving_next, served, zeros14}
use Rattle.cover.proofs.pending.Pending.give_all.Goals as goal

pub loop-t-init : goal.loop-t-init
loop-t-init c = (refl, serving_none _ _ _ _ _ _ (search rules) (search rules) refl zeros14 refl)

pub loop-t-preserved : goal.loop-t-preserved
unfolding cap_at pos_at
loop-t-preserved c =
    let limit = rw c.loop-t.invariant.0 at c.give.ensures.limit in (
      c.give.ensures.rest ∙ c.loop-t.invariant.0,
      rw c.give.ensures.room (serving_next _ _ _ _ _ _ _ _ _ _ _ _ _ _ c.loop-t-test.true c.loop-t.invariant.1 refl refl limit c.give.ensures.capability c.give.ensures.left),
    )

pub returns-clause-served : goal.returns-clause-served
returns-clause-served c = served c.loop-t.t _ _ _ _ _ _ _ _ (omega arith) (omega arith) c.loop-t.invariant.1
