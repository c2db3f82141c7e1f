-- What the account of a QSE on a side says, and what its code answers with.
use Rattle.std.specs.Prelude.{◌≡◌, ℕ, ◌<◌, ◌≤◌, true, false, cond, ◌&&◌, List, map, length, pos, Some, None, Option, ◌==◌, slice_index, slice_index_or}
use Rattle.rows.specs.Limits.{max_rows}
use Rattle.rows.specs.declared.codes.Side.{Side}
use Rattle.rows.specs.declared.qse.QseRow.{QseRow}
use Rattle.rows.specs.Rows.{plain_figures, plain_load, plain_resource, plain_trade}
use Rattle.rows.specs.declared.load.LoadRow.{LoadRow}
use Rattle.rows.specs.declared.resource.ResourceRow.{ResourceRow}
use Rattle.rows.specs.declared.trade.TradeRow.{TradeRow}
use Rattle.account.specs.View.{View, Line}
use Rattle.account.specs.Lines.{line_of}
use Rattle.account.specs.Own.{Own, PlainTables, own_of, view_on, owns_load, owns_resource, on_side, party_of}
use Rattle.account.specs.declared.line.Line.{Line as LineRow}
use Rattle.account.specs.declared.account.Account.{Account}
use Rattle.account.specs.declared.account.Tables.{Tables}
use Rattle.account.specs.declared.party.Party.{Party}
use Rattle.account.specs.declared.standing.Standing.{Standing}

abbrev pub plain_rows : List LoadRow → List ResourceRow → List TradeRow → PlainTables
plain_rows ls rs ts = record { loads = map plain_load ls; resources = map plain_resource rs; trades = map plain_trade ts }

abbrev pub plain_tables : Tables → PlainTables
plain_tables t = plain_rows t.loads.now t.resources.now t.trades.now

abbrev pub account_own : Account → Own
account_own a = own_of a.qse (plain_figures a.figures.now) (plain_rows a.loads.now a.resources.now a.trades.now)

abbrev pub account_view : Account → View
account_view a = view_on a.side (account_own a)

-- the kWh of a load that is q's, and the kW of a trade that counts, on the account's side, for the QSE as that party
abbrev pub load_in : ℕ → LoadRow → ℕ
load_in q l = cond (owns_load q (plain_load l)) l.kwh 0

abbrev pub counts_for : Party → Account → TradeRow → ℕ
counts_for party a t = cond (t.counts && (on_side a.side t.sides && party_of party (plain_trade t) == a.qse)) t.kw 0

-- the thirteen numbers of the line
pub record IsLine (l : LineRow) (m : Line) : Type 0 where
  pub room : l.room ≡ m.room
  pub capability : (k : ℕ) → k < 9 → slice_index l.capability k ≡ m.capability k
  pub available : l.available ≡ m.available
  pub offline : l.offline ≡ m.offline
  pub loadpart : l.load_part ≡ m.loadpart

-- the line of the row where the row is the account's, and nothing where it is another's
abbrev pub LineIn : Account → ResourceRow → Option LineRow → Type 0
LineIn a r None = owns_resource a.qse (plain_resource r) ≡ false
LineIn a r (Some l) = (owns_resource a.qse (plain_resource r) ≡ true) × IsLine l (line_of a.side (plain_resource r))

-- load, net, storage net and the nine positions
pub record Stands (a : Account) (s : Standing) : Type 0 where
  pub load : s.load ≡ (account_view a).load
  pub net : s.net ≡ (account_view a).net
  pub storage : s.storage_net ≡ (account_view a).storage
  pub positions : (k : ℕ) → k < 9 → slice_index_or s.positions k (pos 0) ≡ (account_view a).position k

-- the three tables, or nothing where one has more than 512 rows
abbrev pub TablesOf : List LoadRow → List ResourceRow → List TradeRow → Option Tables → Type 0
TablesOf ls rs ts None = (length ls ≤ max_rows) × (length rs ≤ max_rows) × (length ts ≤ max_rows) → ⊥
TablesOf ls rs ts (Some t) = (t.loads.now ≡ ls) × (t.resources.now ≡ rs) × (t.trades.now ≡ ts)

-- the account reads the row's figures and the tables
pub record AccountOf (q : QseRow) (side : Side) (t : Tables) (a : Account) : Type 0 where
  pub number : a.qse ≡ q.number
  pub on : a.side ≡ side
  pub figures : a.figures.now ≡ q.figures
  pub loads : a.loads.now ≡ t.loads.now
  pub resources : a.resources.now ≡ t.resources.now
  pub trades : a.trades.now ≡ t.trades.now
