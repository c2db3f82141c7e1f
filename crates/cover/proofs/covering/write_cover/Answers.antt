use Rattle.std.proofs.Common.{◌≡◌, ℕ, ◌<◌, get_or, ap, ◌∙◌, arith}
use Rattle.account.specs.Account.{account_view}
use Rattle.account.specs.View.{counted}
use Rattle.least.specs.SubType.{demand}
use Rattle.cover.proofs.CoverSteps.{filing_none, filing_same, filing_skip, filing_next, filing_enough, filing_end}
use Rattle.cover.proofs.covering.write_cover.Goals as goal
use Rattle.cover.proofs.covering.write_cover.Goals.{in-Some, in_default}

pub loop-row-init : goal.loop-row-init
loop-row-init c =
    let a = c.args.a.now in
    let agree : (k : ℕ) → k < 9 → get_or c.asked_of-left.result.figures k 0 ≡ demand (account_view a) k = λ k h. c.asked_of-left.ensures k h ∙ ap counted (c.standing-standing.ensures.positions k h) in
    filing_none _ a _ _ _ _ c.of.ensures.value.reached c.of.ensures.small.reached agree c.worst_set-least.ensures.worst.most c.worst_set-least.ensures.small
    (omega arith) c.add_budget.ensures.none c.add_budget.ensures.more c.requires

pub serve-requires : goal.serve-requires
serve-requires c = filing_enough c.loop-row.row-index c.loop-row.n _ _ _ _ _ _ c.loop-row.invariant c.row-item.result c.loop-row-test.true c.row-item.is c.in-Some.ensures.0 _ c.in-Some.ensures.1

pub loop-row-preserved : goal.loop-row-preserved
loop-row-preserved c =
    let i = c.loop-row.row-index in
    let n = c.loop-row.n in
    let d = c.row-item.result in
    elim c.match-line.branch [
      | in-Some w ↦ filing_same _ _ _ _ _ _ _ _ _ _ _ _ w.n-is (ap (λ s. s.rest) w.pending-is) (ap (λ s. s.left.figures) w.pending-is) w.out-is
          (filing_next i n _ _ _ _ _ _ c.loop-row.invariant d c.loop-row-test.true c.row-item.is w.in-Some.ensures.0 _ w.in-Some.ensures.1
          _ _ _ w.serve.new.self.long w.serve.ensures.taken w.serve.ensures.served)
      | in_default w ↦ filing_same _ _ _ _ _ _ _ _ _ _ _ _ w.n-is (ap (λ s. s.rest) w.pending-is) (ap (λ s. s.left.figures) w.pending-is) w.out-is
          (filing_skip i n _ _ _ _ _ _ c.loop-row.invariant d c.loop-row-test.true c.row-item.is w.in_default.ensures)
    ]

pub returns : goal.returns
returns c =
    let a = c.args.a.now in
    let agree : (k : ℕ) → k < 9 → get_or c.asked_of-left.result.figures k 0 ≡ demand (account_view a) k = λ k h. c.asked_of-left.ensures k h ∙ ap counted (c.standing-standing.ensures.positions k h) in
    filing_end c.loop-row.row-index c.loop-row.n _ a _ _ _ _ _ _ (omega arith) (omega arith) c.of.ensures.value.reached agree c.worst_set-least.ensures.worst.most c.requires c.loop-row.invariant
