use Rattle.std.proofs.Common.{◌≡◌, ℕ, ◌*◌, ◌<◌, ◌≤◌, length, get_or, take, sum_by}
use Rattle.account.proofs.Rows.{raw_moved}
use Rattle.account.proofs.account.Account.traded.Given as goal

abbrev pub invariant-loop-t : goal.invariant-loop-t
invariant-loop-t l =
    (length l.sums ≡ 10)
    × ((s : ℕ) → s < 10 → get_or l.sums s 0 ≡ sum_by (raw_moved l.party l.self.side l.self.qse s) (take l.t-index l.self.trades.now))
    × ((s : ℕ) → get_or l.sums s 0 ≤ 10000000 * l.t-index)
