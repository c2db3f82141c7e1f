-- The rows of one QSE, without shortfalls and cents, and the view of its account that they give.
use Rattle.std.specs.Prelude.{ℕ, ◌+◌, Bool, true, false, cond, ◌&&◌, ◌||◌, List, map, ℤ, pos, ◌+ℤ◌, ◌-ℤ◌, sum_by, filter, ◌==◌, slice_index}
use Rattle.rows.specs.Codes.{traded_sub}
use Rattle.rows.specs.Rows.{PlainFigures, PlainFiguresSide, PlainLoad, PlainQse, PlainResource, PlainTrade}
use Rattle.rows.specs.declared.codes.Side.{Side}
use Rattle.rows.specs.declared.codes.Side.TheVariants.{Snapshot, Adjusted}
use Rattle.rows.specs.declared.codes.Sides.{Sides}
use Rattle.rows.specs.declared.codes.Sides.TheVariants.{SnapshotOnly, AdjustedOnly, Both}
use Rattle.account.specs.View.{View}
use Rattle.account.specs.Lines.{lines_on}
use Rattle.account.specs.declared.party.Party.{Party}
use Rattle.account.specs.declared.party.Party.TheVariants.{Seller, Buyer}

-- loads in kWh; trades are those that count and that the QSE is a party to
pub record Own : Type 0 where
  pub number : ℕ
  pub figures : PlainFigures
  pub loads : List ℕ
  pub resources : List PlainResource
  pub trades : List PlainTrade

abbrev pub owns_load : ℕ → PlainLoad → Bool
owns_load q l = l.qse == q

abbrev pub owns_resource : ℕ → PlainResource → Bool
owns_resource q r = r.qse == q

abbrev pub party_to : ℕ → PlainTrade → Bool
party_to q t = t.counts && (t.seller == q || t.buyer == q)

-- the tables that accounts read
pub record PlainTables : Type 0 where
  pub loads : List PlainLoad
  pub resources : List PlainResource
  pub trades : List PlainTrade

abbrev pub own_of : ℕ → PlainFigures → PlainTables → Own
own_of q f t = record {
  number = q;
  figures = f;
  loads = map (λ l. l.kwh) (filter (owns_load q) t.loads);
  resources = filter (owns_resource q) t.resources;
  trades = filter (party_to q) t.trades;
}

-- the rows of the QSE that a QSE row names, with that row's figures
abbrev pub qse_own : PlainQse → PlainTables → Own
qse_own q t = own_of q.number q.figures t

abbrev pub on_side : Side → Sides → Bool
on_side Snapshot SnapshotOnly = true
on_side Snapshot AdjustedOnly = false
on_side Snapshot Both = true
on_side Adjusted SnapshotOnly = false
on_side Adjusted AdjustedOnly = true
on_side Adjusted Both = true

abbrev pub party_of : Party → PlainTrade → ℕ
party_of Seller t = t.seller
party_of Buyer t = t.buyer

-- the kW that a trade moves for q as that party on a side, in sub-type s; s is 0 for capacity and energy
abbrev pub moved_in : Party → Side → ℕ → ℕ → PlainTrade → ℕ
moved_in party side q s t = cond (on_side side t.sides && (traded_sub t.traded == s && party_of party t == q)) t.kw 0

abbrev pub moved_of : Party → Side → Own → ℕ → ℕ
moved_of party side o s = sum_by (moved_in party side o.number s) o.trades

abbrev pub figures_on : Side → PlainFigures → PlainFiguresSide
figures_on Snapshot f = f.snapshot
figures_on Adjusted f = f.adjusted

-- with the tie mark the import counts on both sides as at the snapshot
abbrev pub import_side : Side → PlainFigures → Side
import_side Snapshot f = Snapshot
import_side Adjusted f = cond f.tie Snapshot Adjusted

-- day-ahead purchase less sale, capacity and energy bought less sold, and the import
abbrev pub net_of : Side → Own → ℤ
net_of side o =
    pos o.figures.purchase -ℤ pos o.figures.sale +ℤ pos (moved_of Buyer side o 0) -ℤ pos (moved_of Seller side o 0)
    +ℤ pos (figures_on (import_side side o.figures) o.figures).dcimport

-- entered, with what was sold and without what was bought
abbrev pub position_of : Side → Own → ℕ → ℤ
position_of side o k =
    pos (slice_index (figures_on side o.figures).positions k) +ℤ pos (moved_of Seller side o (k + 1)) -ℤ pos (moved_of Buyer side o (k + 1))

abbrev pub view_on : Side → Own → View
view_on side o = record {
  load = sum_by (λ kwh. kwh) o.loads;
  net = net_of side o;
  storage = (figures_on side o.figures).storagenet;
  position = position_of side o;
  lines = lines_on side o.resources;
}
