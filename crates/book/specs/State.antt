-- A book and its tables as plain records, and what each granted call makes of them.
use Rattle.std.specs.Prelude.{ℕ, ◌+◌, Bool, true, false, List, map, take, slice_set}
use Rattle.rows.specs.Rows.{PlainQse, PlainLoad, PlainResource, PlainTrade, plain_qse, plain_load, plain_resource, plain_trade}
use Rattle.rows.specs.declared.load.LoadRow.{LoadRow}
use Rattle.rows.specs.declared.qse.QseRow.{QseRow}
use Rattle.rows.specs.declared.resource.ResourceRow.{ResourceRow}
use Rattle.rows.specs.declared.trade.TradeRow.{TradeRow}
use Rattle.account.specs.Own.{PlainTables}
use Rattle.book.specs.declared.books.OpenBook.{OpenBook}
use Rattle.book.specs.declared.books.StruckBook.{StruckBook}

-- the numbers of a book; the total of an open book is 0
pub record Book : Type 0 where
  pub number : ℕ
  pub struck : Bool
  pub total : ℕ
  pub made : ℕ
  pub outstanding : ℕ
  pub qses : ℕ
  pub loads : ℕ
  pub resources : ℕ
  pub trades : ℕ

abbrev pub open_book : OpenBook → Book
open_book b = record {
  number = b.ledger.number;
  struck = false;
  total = 0;
  made = b.ledger.made;
  outstanding = b.ledger.outstanding;
  qses = b.ledger.counts.qses;
  loads = b.ledger.counts.loads;
  resources = b.ledger.counts.resources;
  trades = b.ledger.counts.trades;
}

abbrev pub struck_book : StruckBook → Book
struck_book b = record {
  number = b.ledger.number;
  struck = true;
  total = b.total;
  made = b.ledger.made;
  outstanding = b.ledger.outstanding;
  qses = b.ledger.counts.qses;
  loads = b.ledger.counts.loads;
  resources = b.ledger.counts.resources;
  trades = b.ledger.counts.trades;
}

-- a book and its whole tables
pub record State : Type 0 where
  pub book : Book
  pub qses : List PlainQse
  pub loads : List PlainLoad
  pub resources : List PlainResource
  pub trades : List PlainTrade

abbrev pub state_of : Book → List QseRow → List LoadRow → List ResourceRow → List TradeRow → State
state_of b qs ls rs ts = record { book = b; qses = map plain_qse qs; loads = map plain_load ls; resources = map plain_resource rs; trades = map plain_trade ts }

-- the rows that are the book's
abbrev pub qse_rows : State → List PlainQse
qse_rows s = take s.book.qses s.qses

abbrev pub load_rows : State → List PlainLoad
load_rows s = take s.book.loads s.loads

abbrev pub tables_of : State → PlainTables
tables_of s = record { loads = load_rows s; resources = take s.book.resources s.resources; trades = take s.book.trades s.trades }

abbrev pub with_counts : Book → ℕ → ℕ → ℕ → ℕ → Book
with_counts b q l r t = record { number = b.number; struck = b.struck; total = b.total; made = b.made; outstanding = b.outstanding; qses = q; loads = l; resources = r; trades = t }

abbrev pub with_claims : Book → ℕ → ℕ → Book
with_claims b m o = record { number = b.number; struck = b.struck; total = b.total; made = m; outstanding = o; qses = b.qses; loads = b.loads; resources = b.resources; trades = b.trades }

abbrev pub with_strike : Book → Bool → ℕ → Book
with_strike b struck total = record { number = b.number; struck = struck; total = total; made = b.made; outstanding = b.outstanding; qses = b.qses; loads = b.loads; resources = b.resources; trades = b.trades }

abbrev pub with_book : State → Book → State
with_book s b = record { book = b; qses = s.qses; loads = s.loads; resources = s.resources; trades = s.trades }

-- one row more at the end of its table
abbrev pub add_qse : State → PlainQse → State
add_qse s q = record {
  book = with_counts s.book (s.book.qses + 1) s.book.loads s.book.resources s.book.trades;
  qses = slice_set s.qses s.book.qses q;
  loads = s.loads;
  resources = s.resources;
  trades = s.trades;
}

abbrev pub add_load : State → PlainLoad → State
add_load s l = record {
  book = with_counts s.book s.book.qses (s.book.loads + 1) s.book.resources s.book.trades;
  qses = s.qses;
  loads = slice_set s.loads s.book.loads l;
  resources = s.resources;
  trades = s.trades;
}

abbrev pub add_resource : State → PlainResource → State
add_resource s r = record {
  book = with_counts s.book s.book.qses s.book.loads (s.book.resources + 1) s.book.trades;
  qses = s.qses;
  loads = s.loads;
  resources = slice_set s.resources s.book.resources r;
  trades = s.trades;
}

abbrev pub add_trade : State → PlainTrade → State
add_trade s t = record {
  book = with_counts s.book s.book.qses s.book.loads s.book.resources (s.book.trades + 1);
  qses = s.qses;
  loads = s.loads;
  resources = s.resources;
  trades = slice_set s.trades s.book.trades t;
}

-- a table replaced
abbrev pub with_qses : State → List PlainQse → State
with_qses s qs = record { book = s.book; qses = qs; loads = s.loads; resources = s.resources; trades = s.trades }

abbrev pub with_loads : State → List PlainLoad → State
with_loads s ls = record { book = s.book; qses = s.qses; loads = ls; resources = s.resources; trades = s.trades }

abbrev pub with_resources : State → List PlainResource → State
with_resources s rs = record { book = s.book; qses = s.qses; loads = s.loads; resources = rs; trades = s.trades }

abbrev pub with_trades : State → List PlainTrade → State
with_trades s ts = record { book = s.book; qses = s.qses; loads = s.loads; resources = s.resources; trades = ts }
