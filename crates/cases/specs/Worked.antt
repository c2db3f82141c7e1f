-- The twelve cases together.
use Rattle.std.specs.Prelude.{◌≡◌, [], ◌∷◌, map}
use Rattle.std.specs.List.{AllByRecursion}
use Rattle.cases.specs.Cases.{cases, reserve_cases, Holds, ByReserves}
use Rattle.cases.specs.Trade.{Trades}
use Rattle.cases.specs.Both.{both}
use Rattle.cases.specs.Parts.{Divides}
use Rattle.cases.specs.Charge.{Charges}
use Rattle.cases.specs.declared.figures.Traded.{Traded}
use Rattle.cases.specs.declared.figures.Charged.{Charged}
use Rattle.cases.specs.declared.figures.CaseFigures.{CaseFigures}

abbrev pub sale : Traded
sale = record { before = both 4000; buyer = both 2500; seller = both 500; pool = both 3000 }

abbrev pub charge : Charged
charge = record { pot = 600; rest = 400; on_qses = 500 ∷ 100 ∷ []; on_loads = 266 ∷ 134 ∷ [] }

abbrev pub claimed : CaseFigures
claimed = record {
  values = map (λ c. c.figures) cases;
  traded = sale;
  even = 33 ∷ 33 ∷ 34 ∷ [];
  one_weight = 0 ∷ 7 ∷ 0 ∷ [];
  charged = charge;
}

-- the definitions give these figures
pub record Worked (w : CaseFigures) : Type 0 where
  pub values : w.values ≡ map (λ c. c.figures) cases
  pub held : AllByRecursion Holds cases
  pub reserves : AllByRecursion ByReserves reserve_cases
  pub traded : Trades w.traded
  pub even : Divides 100 (1 ∷ 1 ∷ 1 ∷ []) w.even
  pub oneweight : Divides 7 (0 ∷ 5 ∷ 0 ∷ []) w.one_weight
  pub charged : Charges w.charged
