-- Accounts and pools of limited rows are worth at most 10^12, by the law Bound.
use Rattle.std.proofs.Common.{◌≡◌, ℕ, ◌+◌, ◌≤◌, List, [], ◌∷◌, map, length, subst, arith}
use Rattle.std.proofs.lemmas.List.{length-map}
use Rattle.rows.specs.declared.codes.Side.{Side}
use Rattle.rows.specs.declared.qse.QseRow.{QseRow}
use Rattle.account.specs.View.{View}
use Rattle.rows.specs.Rows.{plain_qse}
use Rattle.account.specs.Own.{qse_own, view_on}
use Rattle.account.specs.Account.{plain_tables}
use Rattle.account.specs.Within.{Within}
use Rattle.account.specs.declared.account.Tables.{Tables}
use Rattle.account.proofs.Bounds.{own_within, zeros_within, add_within, within_more}
use Rattle.measure.specs.Laws.{Bound}
use Rattle.shortfall.specs.Pool.{joined, owns, PoolBounded}

row_within : (q : QseRow) (t : Tables) (side : Side) → Within 1 (view_on side (qse_own (plain_qse q) (plain_tables t)))
row_within q t side = own_within q.number q.figures t.loads.now t.resources.now t.trades.now side t.few.2 t.few.0

pub value_small : {m : View → ℕ} → Bound m → (q : QseRow) (t : Tables) (side : Side) → m (view_on side (qse_own (plain_qse q) (plain_tables t))) ≤ 1000000000000
value_small bound q t side = bound _ (within_more 1 64 _ _ (omega arith) (row_within q t side))

joined_within : (t : Tables) (side : Side) (qs : List QseRow) → Within (length qs) (joined side (owns (plain_tables t) (map plain_qse qs)))
joined_within t side [] = zeros_within
joined_within t side (q ∷ qs) =
    let e : 1 + length qs ≡ length (q ∷ qs) = omega arith in
    subst (λ n. Within n (joined side (owns (plain_tables t) (map plain_qse (q ∷ qs))))) e (add_within 1 (length qs) _ _ (row_within q t side) (joined_within t side qs))

pub pool_bounded : {m : View → ℕ} → Bound m → (t : Tables) (qs : List QseRow) → PoolBounded m (plain_tables t) (map plain_qse qs)
pool_bounded bound t qs few side = bound _ (within_more (length qs) 64 _ _ (omega (arith, few, length-map qs plain_qse)) (joined_within t side qs))
