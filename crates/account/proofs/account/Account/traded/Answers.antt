use Rattle.std.proofs.Common.{sym, ◌∙◌}
use Rattle.account.proofs.Rows.{raw_moved, moved_is, sum_all}
use Rattle.account.proofs.account.Account.traded.Goals as goal

pub returns : goal.returns
returns c s h =
    let a = c.args.self.now in
    sum_all (raw_moved c.args.party a.side a.qse s) a.trades.now _ c.loop-t-test.false (c.loop-t.invariant.1 s h) ∙ sym (moved_is c.args.party a.side a.qse s a.trades.now)
