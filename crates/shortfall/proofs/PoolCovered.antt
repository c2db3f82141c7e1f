-- The sum of shortfalls is at least the pool's, by Order, Pool and Nothing.
use Rattle.std.proofs.Common.{◌≡◌, ℕ, ◌+◌, ◌≤◌, max, List, [], ◌∷◌, ◌++◌, sum_by, sym, refl, ap, subst, zero-le, arith}
use Rattle.std.specs.List.Sorted.{IsPermutation}
use Rattle.std.specs.List.{AllByRecursion}
use Rattle.std.proofs.lemmas.List.Sums.{sum_by-cons}
use Rattle.rows.specs.Rows.{PlainQse, PlainResource}
use Rattle.rows.specs.declared.codes.Side.{Side}
use Rattle.rows.specs.declared.codes.Side.TheVariants.{Snapshot, Adjusted}
use Rattle.account.specs.View.{View}
use Rattle.account.specs.Lines.{line_of, lines_on}
use Rattle.account.specs.Own.{Own, PlainTables, qse_own, view_on}
use Rattle.measure.specs.Laws.{Order, Pool, Nothing}
use Rattle.shortfall.specs.Shortfall.{shortfall_of}
use Rattle.shortfall.specs.Pool.{joined, pool_shortfall, total, owns, numbers, Among, Distinct, CoversPool}
use Rattle.shortfall.proofs.TableOrder.{table_order, blocks}

abbrev greater : (View → ℕ) → Own → ℕ
greater m o = max (m (view_on Snapshot o)) (m (view_on Adjusted o))

abbrev credit : Own → ℕ
credit o = o.figures.credit

module _ {m : View → ℕ} (order : Order m) (pool : Pool m) (nothing : Nothing m) where
  joined_le : (side : Side) → ((o : Own) → m (view_on side o) ≤ greater m o) → (os : List Own) → m (joined side os) ≤ sum_by (greater m) os
  joined_le side le [] = omega (arith, nothing)
  joined_le side le (o ∷ os) = omega (arith, le o, pool (view_on side o) (joined side os), joined_le side le os, sum_by-cons (greater m) o os)

  less_le : (os : List Own) → sum_by (greater m) os ≤ total m os + sum_by credit os
  less_le [] = zero-le
  less_le (o ∷ os) = omega (arith, less_le os, sum_by-cons (greater m) o os, sum_by-cons (shortfall_of m) o os, sum_by-cons credit o os)

  -- whatever the order of the pool's lines
  pub pool_at_most : (os : List Own) (rs : List PlainResource) → ((side : Side) → IsPermutation (joined side os).lines (lines_on side rs)) → pool_shortfall m os rs ≤ total m os
  pool_at_most os rs same =
      omega (
        arith,
        order (joined Snapshot os) (lines_on Snapshot rs) (same Snapshot),
        order (joined Adjusted os) (lines_on Adjusted rs) (same Adjusted),
        joined_le Snapshot (λ o. omega arith) os,
        joined_le Adjusted (λ o. omega arith) os,
        less_le os,
      )

module _ (t : PlainTables) (side : Side) where
  -- the lines of each QSE, one QSE after the other
  own_blocks : (qs : List PlainQse) → blocks (λ r. r.qse) (line_of side) (numbers qs) t.resources ≡ (joined side (owns t qs)).lines
  own_blocks [] = refl
  own_blocks (q ∷ qs) = ap (λ l. (view_on side (qse_own q t)).lines ++ l) (own_blocks qs)

  lines_in_order : (qs : List PlainQse) → Distinct (numbers qs) → AllByRecursion (λ r. Among (numbers qs) r.qse) t.resources → IsPermutation (joined side (owns t qs)).lines (lines_on side t.resources)
  lines_in_order qs distinct all =
      subst (λ l. IsPermutation l (lines_on side t.resources)) (own_blocks qs) (table_order (λ r. r.qse) (line_of side) _ t.resources distinct all)

pub sum_covers_pool : {m : View → ℕ} → Order m → Pool m → Nothing m → (t : PlainTables) (qs : List PlainQse) (s : ℕ) → s ≡ total m (owns t qs) → CoversPool m t qs s
sum_covers_pool {m} order pool nothing t qs s is distinct all =
    subst (λ n. pool_shortfall m (owns t qs) t.resources ≤ n) (sym is)
    (pool_at_most order pool nothing (owns t qs) t.resources (λ side. lines_in_order t side qs distinct all))
