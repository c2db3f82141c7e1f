-- What the lines of an account give together.
use Rattle.std.specs.Prelude.{◌≡◌, ℕ, ◌+◌, ◌<◌, ◌≤◌, sum_by, slice_index}
use Rattle.rows.specs.declared.resource.ResourceRow.{ResourceRow}
use Rattle.account.specs.View.{View, Line}
use Rattle.account.specs.declared.account.Account.{Account}
use Rattle.measure.specs.Grouped.{supply}
use Rattle.measure.specs.Totals.{own_part}
use Rattle.least.specs.Sources.{reach}
use Rattle.least.specs.Chains.{mem}
use Rattle.cover.specs.Sets.{Under}
use Rattle.cover.specs.Amounts.{Table}
use Rattle.least.specs.SubType.{source, sources}
use Rattle.cover.specs.declared.given.Given.{Given}

-- what a line reaches of the closed set number k
unfoldable pub reach_of : ℕ → Line → ℕ
reach_of k l = reach 9 (source l) (mem k)

-- no number is above m
pub record Within (g : Given) (m : ℕ) : Type 0 where
  pub reached : Under m g.reached
  pub supply : g.supply ≤ m
  pub offline : g.offline ≤ m

-- h is g with the row's line, where the row is the account's
pub record AddsRow (a : Account) (g : Given) (r : ResourceRow) (h : Given) : Type 0 where
  pub reached : (k : ℕ) → k < 144 → slice_index h.reached k ≡ slice_index g.reached k + own_part (reach_of k) a r
  pub supply : h.supply ≡ g.supply + own_part supply a r
  pub offline : h.offline ≡ g.offline + own_part (λ l. l.offline) a r

-- the sums over the lines of a view
pub record IsGiven (v : View) (g : Given) : Type 0 where
  pub reached : Table g.reached (sources v.lines)
  pub supply : g.supply ≡ sum_by supply v.lines
  pub offline : g.offline ≡ sum_by (λ l. l.offline) v.lines
