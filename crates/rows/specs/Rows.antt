-- Rows as plain records: what a row says, without the proofs of its limits.
use Rattle.std.specs.Prelude.{ℕ, Bool, List, ℤ, is_some}
use Rattle.rows.specs.Codes.{kw_before}
use Rattle.rows.specs.declared.codes.Kind.{Kind}
use Rattle.rows.specs.declared.codes.Status.{Status}
use Rattle.rows.specs.declared.codes.Sides.{Sides}
use Rattle.rows.specs.declared.codes.Traded.{Traded}
use Rattle.rows.specs.declared.figures.Figures.{Figures}
use Rattle.rows.specs.declared.figures.FiguresSide.{FiguresSide}
use Rattle.rows.specs.declared.load.LoadRow.{LoadRow}
use Rattle.rows.specs.declared.qse.QseRow.{QseRow}
use Rattle.rows.specs.declared.resource.ResourceRow.{ResourceRow}
use Rattle.rows.specs.declared.resource.ResourceSide.{ResourceSide}
use Rattle.rows.specs.declared.trade.TradeRow.{TradeRow}

pub record PlainFiguresSide : Type 0 where
  pub dcimport : ℕ
  pub storagenet : ℤ
  pub positions : List ℕ

pub record PlainFigures : Type 0 where
  pub credit : ℕ
  pub purchase : ℕ
  pub sale : ℕ
  pub tie : Bool
  pub snapshot : PlainFiguresSide
  pub adjusted : PlainFiguresSide

abbrev pub plain_figures_side : FiguresSide → PlainFiguresSide
plain_figures_side s = record { dcimport = s.dc_import; storagenet = s.storage_net; positions = s.positions.kw }

abbrev pub plain_figures : Figures → PlainFigures
plain_figures f = record {
  credit = f.credit;
  purchase = f.purchase;
  sale = f.sale;
  tie = f.tie;
  snapshot = plain_figures_side f.snapshot;
  adjusted = plain_figures_side f.adjusted;
}

pub record PlainSide : Type 0 where
  pub status : Status
  pub hsl : ℕ
  pub lsl : ℤ
  pub potential : ℕ
  pub offered : List ℕ
  pub cop : List ℕ
  pub qualified : List ℕ

pub record PlainResource : Type 0 where
  pub qse : ℕ
  pub kind : Kind
  pub outage : Bool
  pub decommitted : Bool
  pub before : ℕ
  pub snapshot : PlainSide
  pub adjusted : PlainSide

abbrev pub plain_side : ResourceSide → PlainSide
plain_side s = record { status = s.status; hsl = s.hsl; lsl = s.lsl; potential = s.potential; offered = s.offered.kw; cop = s.cop.kw; qualified = s.qualified.kw }

abbrev pub plain_resource : ResourceRow → PlainResource
plain_resource r = record {
  qse = r.qse;
  kind = r.kind;
  outage = r.outage;
  decommitted = is_some r.decommitted;
  before = kw_before r.decommitted;
  snapshot = plain_side r.snapshot;
  adjusted = plain_side r.adjusted;
}

-- a trade counts until it is void
pub record PlainTrade : Type 0 where
  pub traded : Traded
  pub sides : Sides
  pub seller : ℕ
  pub buyer : ℕ
  pub kw : ℕ
  pub counts : Bool

abbrev pub plain_trade : TradeRow → PlainTrade
plain_trade t = record { traded = t.traded; sides = t.sides; seller = t.seller; buyer = t.buyer; kw = t.kw; counts = t.counts }

pub record PlainLoad : Type 0 where
  pub qse : ℕ
  pub point : ℕ
  pub kwh : ℕ
  pub cents : ℕ

abbrev pub plain_load : LoadRow → PlainLoad
plain_load l = record { qse = l.qse; point = l.point; kwh = l.kwh; cents = l.cents }

pub record PlainQse : Type 0 where
  pub number : ℕ
  pub figures : PlainFigures
  pub shortfall : ℕ
  pub cents : ℕ

abbrev pub plain_qse : QseRow → PlainQse
plain_qse q = record { number = q.number; figures = plain_figures q.figures; shortfall = q.shortfall; cents = q.cents }
