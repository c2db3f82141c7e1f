use Rattle.std.proofs.Common.{sym, ◌∙◌}
use Rattle.std.proofs.lemmas.Bool.{false≢true}
use Rattle.book.proofs.Charging.{fit_from_rows, low_qses_from_fit, low_loads_from_fit}
use Rattle.book.proofs.books.charges.is_fit.Goals as goal

pub returns-then-all_low : goal.returns-then-all_low
returns-then-all_low c =
    let sum = sym c.sum_of_weights.ensures.value ∙ c.if-sum_of_weights-from.false ∙ c.from.ensures in
    ((λ e. fit_from_rows _ c.args.qses.now c.args.loads.now sum (c.all_low.ensures.0 c.if-all_low.true) (c.all_low-then-all_low.ensures.0 e)), λ fit. c.all_low-then-all_low.ensures.1 (low_loads_from_fit _ c.args.qses.now c.args.loads.now fit))

pub returns-else-all_low : goal.returns-else-all_low
returns-else-all_low c =
    ((λ e. absurd (false≢true (sym c.if-all_low.false ∙ e))), λ fit. c.all_low.ensures.1 (low_qses_from_fit _ c.args.qses.now c.args.loads.now fit))
