-- What a call reads of its arguments: the QSE and the side that it names, and the tables that its book counts.
use Rattle.std.specs.Prelude.{◌≡◌, ℕ, List, map, take, ℤ, pos, Ok, Err, Result}
use Rattle.rows.specs.Limits.{max_number}
use Rattle.rows.specs.Rows.{plain_load, plain_resource, plain_trade}
use Rattle.rows.specs.declared.codes.Side.{Side}
use Rattle.rows.specs.declared.fault.Fault.{Fault}
use Rattle.rows.specs.declared.load.LoadRow.{LoadRow}
use Rattle.rows.specs.declared.resource.ResourceRow.{ResourceRow}
use Rattle.rows.specs.declared.trade.TradeRow.{TradeRow}
use Rattle.account.specs.Own.{PlainTables}
use Rattle.account.specs.View.{counted}
use Rattle.book.specs.Causes.{Absent, outside}
use Rattle.book.specs.Measuring.{side_at}
use Rattle.book.specs.declared.books.Counts.{Counts}

-- the number of a QSE, the first figure of a call
abbrev pub NumberOf : ℤ → Result ℕ Fault → Type 0
NumberOf q (Ok n) = Absent (outside 1 q (pos 1) (pos max_number)) × (n ≡ counted q)
NumberOf q (Err e) = outside 1 q (pos 1) (pos max_number) e

-- a side, the second figure of a call
abbrev pub SideOf : ℤ → Result Side Fault → Type 0
SideOf z (Ok side) = Absent (outside 2 z (pos 1) (pos 2)) × (side ≡ side_at z)
SideOf z (Err e) = outside 2 z (pos 1) (pos 2) e

-- the counted rows of three tables
abbrev pub counted_tables : Counts → List LoadRow → List ResourceRow → List TradeRow → PlainTables
counted_tables n ls rs ts = record { loads = take n.loads (map plain_load ls); resources = take n.resources (map plain_resource rs); trades = take n.trades (map plain_trade ts) }
