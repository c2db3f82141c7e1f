use Rattle.std.proofs.Common.{eqb, map, filter, sym, ◌∙◌, arith}
use Rattle.rows.specs.Rows.{plain_load}
use Rattle.account.specs.Account.{load_in}
use Rattle.account.specs.Own.{owns_load}
use Rattle.account.proofs.Bounds.{cond_le, sum_le}
use Rattle.account.proofs.Rows.{sum_map, sum_plain}
use Rattle.account.proofs.account.Account.load.Goals as goal

pub returns : goal.returns
returns c =
    let a = c.args.self.now in
    let rows = a.loads.now in
    record {
      value = c.loads_of.ensures ∙ sym (sum_map (λ kwh. kwh) (λ l. l.kwh) (filter (owns_load a.qse) (map plain_load rows)) ∙ sum_plain (λ l. l.kwh) plain_load (owns_load a.qse) rows);
      small = omega (arith, c.loads_of.ensures, sum_le (load_in a.qse) 1000000 (λ l. cond_le (eqb l.qse a.qse) l.kwh 1000000 l.limits.1) rows, a.few.0);
    }
