use Rattle.std.proofs.Common.{◌≡◌, ℕ, ◌<◌, ◌≤◌, List, map, length, get_or, sym, ap, ◌∙◌, arith}
use Rattle.std.proofs.lemmas.List.{get_or-map, length-map}
use Rattle.std.proofs.lemmas.List.Sums.{get_or-le-sum_by}
use Rattle.rows.specs.declared.qse.QseRow.{QseRow}
use Rattle.rows.specs.Rows.{PlainQse, plain_qse}
use Rattle.account.specs.Account.{plain_tables}
use Rattle.account.specs.View.{View}
use Rattle.account.specs.Own.{PlainTables, qse_own}
use Rattle.account.proofs.Rows.{sum_map}
use Rattle.shortfall.specs.Shortfall.{shortfall_of}
use Rattle.shortfall.specs.Strike.{row_short, written}
use Rattle.shortfall.proofs.PoolCovered.{sum_covers_pool}
use Rattle.shortfall.specs.Pool.{total, owns}
use Rattle.shortfall.proofs.Turns.{WrittenTo, read_old, write_turn, write_all}
use Rattle.shortfall.proofs.strike.write_shortfalls.Goals as goal

-- what was kept of a row that is written now
pub short_at-s-requires : goal.short_at-s-requires
short_at-s-requires g c few =
    let m = g.M.Measure.meaning c.args.m.now in
    let t = plain_tables c.args.tables in
    let R = c.args.rows.now in
    let i = c.loop-i.i in
    let x = c.index-rows-i.result in
    let lt = c.loop-i-test.true in
    let old = read_old plain_qse (written m t) R c.loop-i.rows i c.loop-i.invariant lt (omega arith) x x in
    c.of-measured.ensures.first i lt few x
    ∙ ap (row_short m t) (sym (get_or-map plain_qse R i x (plain_qse x) lt) ∙ sym old)

-- a shortfall is at most their sum
small : (m : View → ℕ) (t : PlainTables) (R ys : List QseRow) (i s : ℕ) (x : QseRow) → WrittenTo plain_qse (written m t) R ys i → i < length R → i < length ys
    → s ≡ row_short m t (plain_qse (get_or ys i x)) → s ≤ total m (owns t (map plain_qse R))
small m t R ys i s x done lt lt' is =
    let f = row_short m t in
    let P = map plain_qse R in
    let le = get_or-le-sum_by f P i (plain_qse x) (omega (arith, length-map R plain_qse)) in
    omega (arith, le, is ∙ ap f (read_old plain_qse (written m t) R ys i done lt lt' x x), sum_map (shortfall_of m) (λ q. qse_own q t) P)

abbrev with_short : PlainQse → ℕ → PlainQse
with_short q n = record { number = q.number; figures = q.figures; shortfall = n; cents = q.cents }

-- and their sum is not too high
pub overflow_cast-row : goal.overflow_cast-row
overflow_cast-row g c =
    let le = small (g.M.Measure.meaning c.args.m.now) (plain_tables c.args.tables) c.args.rows.now c.loop-i.rows c.loop-i.i _ c.index-rows-i.result c.loop-i.invariant c.loop-i-test.true (omega arith) c.short_at-s.ensures in
    record { fits = omega (arith, le, c.of-measured.ensures.sum, c.if-t-from.false, c.from.ensures) }

pub invariant_of-row : goal.invariant_of-row
invariant_of-row g c =
    let le = small (g.M.Measure.meaning c.args.m.now) (plain_tables c.args.tables) c.args.rows.now c.loop-i.rows c.loop-i.i _ c.index-rows-i.result c.loop-i.invariant c.loop-i-test.true (omega arith) c.short_at-s.ensures in
    let q = get_or c.loop-i.rows c.loop-i.i c.index-rows-i.result in
    record { limits = (q.limits.0, omega (arith, le, c.of-measured.ensures.sum, c.if-t-from.false, c.from.ensures), q.limits.2) }

pub loop-i-preserved : goal.loop-i-preserved
loop-i-preserved g c =
    let m = g.M.Measure.meaning c.args.m.now in
    let t = plain_tables c.args.tables in
    let ys = c.loop-i.rows in
    let i = c.loop-i.i in
    let x = c.index-rows-i.result in
    write_turn plain_qse (written m t) c.args.rows.now ys i c.loop-i.invariant c.loop-i-test.true (omega arith) x _
    (ap (with_short (plain_qse (get_or ys i x))) c.short_at-s.ensures)

pub returns : goal.returns
returns g c =
    let mm = c.args.m.now in
    let m = g.M.Measure.meaning mm in
    let t = plain_tables c.args.tables in
    let laws = g.met.M.Measure in
    let R = c.args.rows.now in
    let sum = c.of-measured.ensures.sum in (
      sum,
      omega (arith, c.from.ensures),
      write_all plain_qse (written m t) R c.loop-i.rows c.loop-i.i c.loop-i-test.false c.loop-i.invariant,
      sum_covers_pool (laws.order mm) (laws.pool mm) (laws.nothing mm) t (map plain_qse R) _ sum,
    )
