-- What the lines of an account give together.
use Rattle.std.specs.Prelude.{◌≡◌, ℕ, ◌+◌, ◌≤◌, min, cond, List, sum_by, slice_index}
use Rattle.rows.specs.Rows.{plain_resource}
use Rattle.rows.specs.declared.resource.ResourceRow.{ResourceRow}
use Rattle.account.specs.View.{View, Line, over}
use Rattle.account.specs.Lines.{line_of}
use Rattle.account.specs.Own.{owns_resource}
use Rattle.account.specs.declared.account.Account.{Account}
use Rattle.account.specs.declared.line.Line.{Line as LineRow}
use Rattle.measure.specs.Levels.{IsLevels, AtMost, served}
use Rattle.measure.specs.Grouped.{supply}
use Rattle.measure.specs.declared.totals.Totals.{Totals}

-- no total is above m
pub record Under (t : Totals) (m : ℕ) : Type 0 where
  pub supply : t.supply ≤ m
  pub offline : t.offline ≤ m
  pub served : AtMost t.served m

-- s is t with the line
pub record Adds (t : Totals) (l : LineRow) (s : Totals) : Type 0 where
  pub supply : s.supply ≡ t.supply + (l.available + l.load_part)
  pub offline : s.offline ≡ t.offline + l.offline
  pub served : (f : List ℕ → ℕ) → IsLevels t.served f → IsLevels s.served (λ ks. f ks + min l.room (over ks (λ k. slice_index l.capability k)))

-- g of the row's line where the row is the account's, and nothing where it is another's
abbrev pub own_part : (Line → ℕ) → Account → ResourceRow → ℕ
own_part g a r = cond (owns_resource a.qse (plain_resource r)) (g (line_of a.side (plain_resource r))) 0

-- s is t with the row's line
pub record AddsRow (a : Account) (t : Totals) (r : ResourceRow) (s : Totals) : Type 0 where
  pub supply : s.supply ≡ t.supply + own_part supply a r
  pub offline : s.offline ≡ t.offline + own_part (λ l. l.offline) a r
  pub served : (f : List ℕ → ℕ) → IsLevels t.served f → IsLevels s.served (λ ks. f ks + own_part (served ks) a r)

-- the sums over the lines of a view
pub record IsTotals (v : View) (t : Totals) : Type 0 where
  pub supply : t.supply ≡ sum_by supply v.lines
  pub offline : t.offline ≡ sum_by (λ l. l.offline) v.lines
  pub served : IsLevels t.served (λ ks. sum_by (served ks) v.lines)
