use Rattle.std.proofs.Common.{ℕ, ◌+◌, ◌*◌, ◌≤◌, refl, ◌∙◌, arith}
use Rattle.account.proofs.Rows.{sum_turn, sum_all}
use Rattle.measure.specs.Grouped.{supply}
use Rattle.measure.specs.Totals.{own_part}
use Rattle.measure.proofs.LineTotals.{lines_sum}
use Rattle.account.specs.Account.{account_view}
use Rattle.cover.specs.Given.{Within, reach_of}
use Rattle.cover.specs.declared.given.Given.{Given}
use Rattle.cover.proofs.ReachSums.{none_reached, reach_all_is}
use Rattle.cover.proofs.given.Given.of.Goals as goal

more : {g : Given} (m n : ℕ) → m ≤ n → Within g m → Within g n
more m n h w = record { reached = λ k. omega (arith, w.reached k); supply = omega (arith, w.supply); offline = omega (arith, w.offline) }

pub loop-row-init : goal.loop-row-init
loop-row-init c = ((λ k h. none_reached k), refl, refl, record { reached = λ k. omega (arith, none_reached k); supply = omega arith; offline = omega arith })

pub loop-row-preserved : goal.loop-row-preserved
loop-row-preserved c =
    let a = c.args.a.now in
    let adds = c.add_row.ensures.value in
    let d = c.row-item.result in
    let lt = c.loop-row-test.true in
    let inv = c.loop-row.invariant in (
      (λ k h. adds.reached k h ∙ sum_turn (own_part (reach_of k) a) a.resources.now _ d lt c.row-item.is (inv.0 k h) refl),
      adds.supply ∙ sum_turn (own_part supply a) a.resources.now _ d lt c.row-item.is inv.1 refl,
      adds.offline ∙ sum_turn (own_part (λ x. x.offline) a) a.resources.now _ d lt c.row-item.is inv.2 refl,
      more (30000000 * c.loop-row.row-index + 30000000) (30000000 * (c.loop-row.row-index + 1)) (omega arith) (c.add_row.ensures.small _ inv.3),
    )

pub returns : goal.returns
returns c =
    let a = c.args.a.now in
    let left = c.loop-row-test.false in
    let inv = c.loop-row.invariant in
    record {
      value = record {
        reached = λ k h. sum_all (own_part (reach_of k) a) a.resources.now _ left (inv.0 k h) ∙ lines_sum (reach_of k) a ∙ reach_all_is k (account_view a).lines;
        supply = sum_all (own_part supply a) a.resources.now _ left inv.1 ∙ lines_sum supply a;
        offline = sum_all (own_part (λ x. x.offline) a) a.resources.now _ left inv.2 ∙ lines_sum (λ x. x.offline) a;
      };
      small = more (30000000 * c.loop-row.row-index) 15360000000 (omega (arith, c.loop-row.auto.row-index-end, a.few.1)) inv.3;
    }
