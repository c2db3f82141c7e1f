-- Rows written out again as they are entered.
use Rattle.std.specs.Prelude.{◌≡◌, ℕ, Bool, true, cond, List, [], ◌∷◌, ◌++◌, map, ℤ, pos, Ok, Err, Result}
use Rattle.rows.specs.Codes.{kind_number, status_number, traded_number, traded_sub, sides_number}
use Rattle.rows.specs.Rows.{PlainFiguresSide, PlainFigures, PlainLoad, PlainSide, PlainResource, PlainTrade}
use Rattle.rows.specs.declared.fault.Fault.{Fault}
use Rattle.rows.specs.declared.load.LoadRow.{LoadRow}
use Rattle.rows.specs.declared.qse.QseRow.{QseRow}
use Rattle.rows.specs.declared.trade.TradeRow.{TradeRow}

abbrev pub mark : Bool → ℤ
mark b = cond b (pos 1) (pos 0)

abbrev pub figures_side_numbers : PlainFiguresSide → List ℤ
figures_side_numbers s = pos s.dcimport ∷ s.storagenet ∷ map pos s.positions

abbrev pub figures_numbers : ℕ → PlainFigures → List ℤ
figures_numbers qse f = pos qse ∷ pos f.credit ∷ pos f.purchase ∷ pos f.sale ∷ mark f.tie ∷ (figures_side_numbers f.snapshot ++ figures_side_numbers f.adjusted)

-- the numbers of a load that is no row of a table
abbrev pub plain_load_numbers : PlainLoad → List ℤ
plain_load_numbers l = pos l.qse ∷ pos l.point ∷ pos l.kwh ∷ []

abbrev pub load_numbers : LoadRow → List ℤ
load_numbers l = pos l.qse ∷ pos l.point ∷ pos l.kwh ∷ []

abbrev pub side_numbers : PlainSide → List ℤ
side_numbers s = pos (status_number s.status) ∷ pos s.hsl ∷ s.lsl ∷ pos s.potential ∷ (map pos s.offered ++ (map pos s.cop ++ map pos s.qualified))

abbrev pub resource_numbers : PlainResource → List ℤ
resource_numbers r = pos r.qse ∷ pos (kind_number r.kind) ∷ mark r.outage ∷ mark r.decommitted ∷ pos r.before ∷ (side_numbers r.snapshot ++ side_numbers r.adjusted)

abbrev pub trade_numbers : PlainTrade → List ℤ
trade_numbers t = pos (traded_number t.traded) ∷ pos (traded_sub t.traded) ∷ pos (sides_number t.sides) ∷ pos t.seller ∷ pos t.buyer ∷ pos t.kw ∷ []

-- a new trade counts, and a new load has no cents
abbrev pub Counting : Result TradeRow Fault → Type 0
Counting (Ok t) = t.counts ≡ true
Counting (Err e) = Unit {0}

abbrev pub Uncharged : Result LoadRow Fault → Type 0
Uncharged (Ok l) = l.cents ≡ 0
Uncharged (Err e) = Unit {0}

-- a new QSE row has neither shortfall nor cents
abbrev pub Unmeasured : Result QseRow Fault → Type 0
Unmeasured (Ok q) = (q.shortfall ≡ 0) × (q.cents ≡ 0)
Unmeasured (Err e) = Unit {0}
