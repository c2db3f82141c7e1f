-- A trade made void.
use Rattle.std.proofs.Common.{◌≡◌, ℕ, zero, suc, ◌<◌, List, [], ◌∷◌, map, length, get_or, set, refl, ap, arith}
use Rattle.rows.specs.Rows.{PlainTrade, plain_trade}
use Rattle.rows.specs.declared.trade.TradeRow.{TradeRow}
use Rattle.book.specs.Entries.{void_at, voided}

pub plain_at : (ts : List TradeRow) (k : ℕ) (d : PlainTrade) (t : TradeRow) → k < length ts → get_or (map plain_trade ts) k d ≡ plain_trade (get_or ts k t)
plain_at [] k d t lt = absurd (omega arith)
plain_at (x ∷ ts) zero d t lt = refl
plain_at (x ∷ ts) (suc k) d t lt = plain_at ts k d t (omega arith)

pub void_set : (ts : List TradeRow) (k : ℕ) (t new : TradeRow) → k < length ts → plain_trade new ≡ voided (plain_trade (get_or ts k t)) → map plain_trade (set ts k new) ≡ void_at k (map plain_trade ts)
void_set [] k t new lt e = absurd (omega arith)
void_set (x ∷ ts) zero t new lt e = ap (λ p. p ∷ map plain_trade ts) e
void_set (x ∷ ts) (suc k) t new lt e = ap (λ l. plain_trade x ∷ l) (void_set ts k t new (omega arith) e)
