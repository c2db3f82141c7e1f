use Rattle.std.proofs.Common.{◌≡◌, ℕ, ◌<◌, get_or, ap, ◌∙◌, arith, below_more}
use Rattle.std.proofs.lemmas.List.{get_or_default}
use Rattle.rows.specs.Rows.{plain_qse}
use Rattle.rows.specs.declared.qse.QseRow.{QseRow}
use Rattle.account.specs.Account.{plain_tables}
use Rattle.account.proofs.Rows.{sum_turn}
use Rattle.shortfall.specs.Strike.{row_short}
use Rattle.shortfall.proofs.measured.Measured.of.Goals as goal

pub loop-i-preserved : goal.loop-i-preserved
loop-i-preserved g c =
    let f : QseRow → ℕ = λ q. row_short (g.M.Measure.meaning c.args.m.now) (plain_tables c.args.tables) (plain_qse q) in
    let R = c.args.rows.now in
    let i = c.loop-i.i in
    let x = c.index-rows-i.result in
    let inv = c.loop-i.invariant in
    let lt = c.loop-i-test.true in
    let s-is = c.short_of-s.ensures.value in
    let P : ℕ → Type 0 = λ k. k < 64 → (d : QseRow) → get_or c.keep.new.first k 0 ≡ f (get_or R k d) in (
      sum_turn f R _ x lt c.index-rows-i.is inv.0 (c.from-sum.ensures ∙ s-is),
      omega (arith, inv.1, c.from-sum.ensures, c.short_of-s.ensures.small),
      omega (arith, c.keep.auto.first, inv.2),
      below_more P i (λ k h few d. c.keep.ensures.others k h ∙ inv.3 k h few d) (λ few d. c.keep.ensures.here few ∙ s-is ∙ ap f (c.index-rows-i.is ∙ get_or_default R i x d lt)),
    )
