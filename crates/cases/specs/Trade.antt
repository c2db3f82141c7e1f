-- Case 9: QSE 2 sells capacity to QSE 1.
use Rattle.std.specs.Prelude.{◌≡◌, List, [], ◌∷◌, map}
use Rattle.rows.specs.Rows.{PlainQse, PlainTrade, plain_load, plain_qse, plain_resource, plain_trade}
use Rattle.rows.specs.declared.codes.Kind.TheVariants.{Generation}
use Rattle.account.specs.Own.{PlainTables, qse_own}
use Rattle.shortfall.specs.Shortfall.{shortfall_of}
use Rattle.shortfall.specs.Pool.{owns, total, pool_shortfall}
use Rattle.cases.specs.Both.{IsBoth}
use Rattle.cases.specs.Entered.{no_reserves, asking, load_of, unit_of, sale_of}
use Rattle.cases.specs.Cases.{Case, values_of}
use Rattle.cases.specs.declared.figures.Traded.{Traded}
use Rattle.cases.specs.declared.two.Rows.{Rows}

abbrev pub buyer : PlainQse
buyer = asking 1 no_reserves

abbrev pub seller : PlainQse
seller = asking 2 no_reserves

abbrev pub two_qses : List PlainQse
two_qses = buyer ∷ seller ∷ []

-- 1,000 and 500 kWh, and a generator of the seller
abbrev pub tables_with : List PlainTrade → PlainTables
tables_with ts = record { loads = load_of 1 1000 ∷ load_of 2 500 ∷ []; resources = unit_of 2 Generation 3000 no_reserves ∷ []; trades = ts }

abbrev pub untraded : PlainTables
untraded = tables_with []

abbrev pub traded : PlainTables
traded = tables_with (sale_of 2 1 1500 ∷ [])

-- the rows say so
pub record Enters (r : Rows) : Type 0 where
  pub qses : map plain_qse r.qses ≡ two_qses
  pub loads : map plain_load r.loads ≡ traded.loads
  pub units : map plain_resource r.units ≡ traded.resources
  pub trades : map plain_trade r.trades ≡ traded.trades

-- the pool's rows, each of which names QSE 1
abbrev pub pooled : Case
pooled = values_of no_reserves (load_of 1 1000 ∷ load_of 1 500 ∷ []) (unit_of 1 Generation 3000 no_reserves ∷ []) 3000 3000

-- the trade moves a shortfall, and the pool's is the same before and after
pub record Trades (t : Traded) : Type 0 where
  pub before : IsBoth t.before (λ m. total m (owns untraded two_qses))
  pub buyer : IsBoth t.buyer (λ m. shortfall_of m (qse_own buyer traded))
  pub seller : IsBoth t.seller (λ m. shortfall_of m (qse_own seller traded))
  pub poolbefore : IsBoth t.pool (λ m. pool_shortfall m (owns untraded two_qses) untraded.resources)
  pub pool : IsBoth t.pool (λ m. pool_shortfall m (owns traded two_qses) traded.resources)
