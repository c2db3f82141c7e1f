-- Totals over lines: a turn of the loop over rows, and the sum over an account's lines.
use Rattle.std.proofs.Common.{◌≡◌, ℕ, ◌<◌, ◌≤◌, min, true, cond, List, map, get_or, sum_by, filter, sym, ap, ◌∙◌, arith}
use Rattle.std.specs.List.{AllByRecursion}
use Rattle.rows.specs.Rows.{plain_resource}
use Rattle.rows.specs.declared.resource.ResourceRow.{ResourceRow}
use Rattle.account.specs.View.{Line, over}
use Rattle.account.specs.Lines.{line_of}
use Rattle.account.specs.Own.{owns_resource}
use Rattle.account.specs.Account.{account_view, IsLine}
use Rattle.account.specs.declared.account.Account.{Account}
use Rattle.account.specs.declared.line.Line.{Line as LineRow}
use Rattle.account.proofs.LineParts.{over_same}
use Rattle.account.proofs.Rows.{sum_map, sum_plain}
use Rattle.measure.specs.Levels.{IsLevels, AtMost, served}
use Rattle.measure.specs.Totals.{own_part, Under}
use Rattle.measure.specs.declared.levels.Levels.{Levels}
use Rattle.measure.specs.declared.totals.Totals.{Totals}

-- the groups of the levels hold places below 9 alone
pub levels_same : {l : Levels} (f g : List ℕ → ℕ) → ((ks : List ℕ) → AllByRecursion (λ k. k < 9) ks → f ks ≡ g ks) → IsLevels l f → IsLevels l g
levels_same f g same i = record {
  regup = i.regup ∙ same _ (omega arith, tt);
  rrs = i.rrs ∙ same _ (omega arith, (omega arith, (omega arith, tt)));
  fast = i.fast ∙ same _ (omega arith, (omega arith, (omega arith, (omega arith, tt))));
  ecrs = i.ecrs ∙ same _ (omega arith, (omega arith, (omega arith, (omega arith, (omega arith, (omega arith, tt))))));
  up = i.up ∙ same _ (omega arith, (omega arith, (omega arith, (omega arith, (omega arith, (omega arith, (omega arith, (omega arith, tt))))))));
  regdown = i.regdown ∙ same _ (omega arith, tt);
}

pub at_most_more : {l : Levels} (m n : ℕ) → m ≤ n → AtMost l m → AtMost l n
at_most_more m n h a = record {
  regup = omega (arith, a.regup);
  rrs = omega (arith, a.rrs);
  fast = omega (arith, a.fast);
  ecrs = omega (arith, a.ecrs);
  up = omega (arith, a.up);
  regdown = omega (arith, a.regdown);
}

pub under_more : {t : Totals} (m n : ℕ) → m ≤ n → Under t m → Under t n
under_more m n h u = record { supply = omega (arith, u.supply); offline = omega (arith, u.offline); served = at_most_more m n h u.served }

-- what the code's line serves of a group
pub served_is : (l : LineRow) (m : Line) → IsLine l m → (ks : List ℕ) → AllByRecursion (λ k. k < 9) ks → min l.room (over ks (λ k. get_or l.capability k 0)) ≡ served ks m
served_is l m is ks all = omega (arith, is.room, over_same ks (λ k. get_or l.capability k 0) m.capability all is.capability)

-- a row of the account counts with its line
pub own_part_is : (g : Line → ℕ) (a : Account) (r : ResourceRow) → owns_resource a.qse (plain_resource r) ≡ true → own_part g a r ≡ g (line_of a.side (plain_resource r))
own_part_is g a r own = ap (λ b. cond b (g (line_of a.side (plain_resource r))) 0) own

-- the sum over the account's lines is a sum over all rows
pub lines_sum : (g : Line → ℕ) (a : Account) → sum_by (own_part g a) a.resources.now ≡ sum_by g (account_view a).lines
lines_sum g a =
    sym (sum_map g (line_of a.side) (filter (owns_resource a.qse) (map plain_resource a.resources.now))
    ∙ sum_plain (λ r. g (line_of a.side r)) plain_resource (owns_resource a.qse) a.resources.now)
