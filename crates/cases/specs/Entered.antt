-- The rows of the worked cases. All are the same on both sides.
use Rattle.std.specs.Prelude.{ℕ, true, false, List, [], ◌∷◌, pos}
use Rattle.rows.specs.Rows.{PlainFiguresSide, PlainLoad, PlainQse, PlainResource, PlainSide, PlainTrade}
use Rattle.rows.specs.declared.codes.Kind.{Kind}
use Rattle.rows.specs.declared.codes.Status.TheVariants.{On}
use Rattle.rows.specs.declared.codes.Sides.TheVariants.{Both}
use Rattle.rows.specs.declared.codes.Traded.TheVariants.{Capacity}

-- kW by sub-type: none, of regulation, and of RRS
abbrev pub regulation : (up down : ℕ) → List ℕ
regulation up down = up ∷ down ∷ 0 ∷ 0 ∷ 0 ∷ 0 ∷ 0 ∷ 0 ∷ 0 ∷ []

abbrev pub responsive : (pfr ufr : ℕ) → List ℕ
responsive pfr ufr = 0 ∷ 0 ∷ pfr ∷ ufr ∷ 0 ∷ 0 ∷ 0 ∷ 0 ∷ 0 ∷ []

abbrev pub no_reserves : List ℕ
no_reserves = responsive 0 0

-- a QSE with these positions and no other figure
abbrev pub asking_side : List ℕ → PlainFiguresSide
asking_side kw = record { dcimport = 0; storagenet = pos 0; positions = kw }

abbrev pub asking : ℕ → List ℕ → PlainQse
asking q kw = record {
  number = q;
  figures = record { credit = 0; purchase = 0; sale = 0; tie = false; snapshot = asking_side kw; adjusted = asking_side kw };
  shortfall = 0;
  cents = 0;
}

-- a load of the QSE
abbrev pub load_of : (qse kwh : ℕ) → PlainLoad
load_of q kwh = record { qse = q; point = 1; kwh = kwh; cents = 0 }

-- a unit of the QSE that is ON: its HSL, and what of each sub-type it offers, plans and is qualified for
abbrev pub unit_side : (hsl : ℕ) → List ℕ → PlainSide
unit_side hsl kw = record { status = On; hsl = hsl; lsl = pos 0; potential = 0; offered = kw; cop = kw; qualified = kw }

abbrev pub unit_of : (qse : ℕ) → Kind → (hsl : ℕ) → List ℕ → PlainResource
unit_of q kind hsl kw = record {
  qse = q;
  kind = kind;
  outage = false;
  decommitted = false;
  before = 0;
  snapshot = unit_side hsl kw;
  adjusted = unit_side hsl kw;
}

-- capacity sold on both sides
abbrev pub sale_of : (seller buyer kw : ℕ) → PlainTrade
sale_of seller buyer kw = record { traded = Capacity; sides = Both; seller = seller; buyer = buyer; kw = kw; counts = true }
