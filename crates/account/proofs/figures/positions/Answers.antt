use Rattle.std.proofs.Common.{◌≡◌, ◌+◌, get_or, pos, ◌+ℤ◌, ◌-ℤ◌, ◌≤ℤ◌, arith, rules}
use Rattle.rows.proofs.FromFn.{elements_given, elements_all}
use Rattle.account.proofs.figures.positions.Goals as goal

pub returns-clause-each : goal.returns-clause-each
returns-clause-each c k h =
    elements_given _ (λ j x. x ≡ pos (get_or c.args.entered.now.kw j 0) +ℤ pos (get_or c.args.sold.now.kw (j + 1) 0) -ℤ pos (get_or c.args.bought.now.kw (j + 1) 0)) _ (λ i y q call. search rules) _ _ c.from_fn.ensures.items k (pos 0) h

pub returns-clause-low : goal.returns-clause-low
returns-clause-low c = elements_all _ (λ x. x ≤ℤ pos 5130000000) _ (λ i y q call. search rules) _ _ c.from_fn.ensures.items (pos 0) (omega arith)
