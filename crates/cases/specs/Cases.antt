-- Cases 1 to 8: one QSE, its rows, and its value by each edition.
use Rattle.std.specs.Prelude.{◌≡◌, ℕ, List, [], ◌∷◌}
use Rattle.rows.specs.Rows.{PlainLoad, PlainQse, PlainResource}
use Rattle.rows.specs.declared.codes.Kind.TheVariants.{Generation, LoadResource}
use Rattle.rows.specs.declared.codes.Side.{Side}
use Rattle.account.specs.Own.{Own, qse_own, view_on}
use Rattle.measure.specs.Grouped.{overall, reserve as grouped_reserve}
use Rattle.least.specs.SubType.{reserve as sub_type_reserve}
use Rattle.shortfall.specs.Shortfall.{shortfall_of}
use Rattle.cases.specs.Both.{IsBoth}
use Rattle.cases.specs.Entered.{regulation, responsive, no_reserves, asking, load_of, unit_of}
use Rattle.cases.specs.declared.figures.Both.{Both}

pub record Case : Type 0 where
  pub qse : PlainQse
  pub loads : List PlainLoad
  pub units : List PlainResource
  pub figures : Both

abbrev pub case_own : Case → Own
case_own c = qse_own c.qse (record { loads = c.loads; resources = c.units; trades = [] })

-- QSE 1, its positions, loads and units, and its values
abbrev pub values_of : (positions : List ℕ) → List PlainLoad → List PlainResource → (grouped sub_type : ℕ) → Case
values_of kw ls us g s = record { qse = asking 1 kw; loads = ls; units = us; figures = record { grouped = g; sub_type = s } }

abbrev pub one_load : List PlainLoad
one_load = load_of 1 1000 ∷ []

-- 1
abbrev pub nothing : Case
nothing = values_of no_reserves [] [] 0 0

-- 2
abbrev pub bare_load : Case
bare_load = values_of no_reserves one_load [] 4000 4000

-- 3
abbrev pub served_load : Case
served_load = values_of no_reserves one_load (unit_of 1 Generation 4000 no_reserves ∷ []) 0 0

-- 4
abbrev pub one_kw_less : Case
one_kw_less = values_of no_reserves one_load (unit_of 1 Generation 3999 no_reserves ∷ []) 1 1

-- 5: its kilowatts stand behind Reg-Up or Reg-Down, and the grouped edition counts them behind both
abbrev pub regulated : Case
regulated = values_of (regulation 100 100) [] (unit_of 1 Generation 100 (regulation 100 100) ∷ []) 0 100

-- 6: UFR does not cover PFR
abbrev pub ufr_for_pfr : Case
ufr_for_pfr = values_of (responsive 50 0) [] (unit_of 1 LoadResource 50 (responsive 0 50) ∷ []) 0 50

-- 7: PFR covers UFR
abbrev pub pfr_for_ufr : Case
pfr_for_ufr = values_of (responsive 0 50) [] (unit_of 1 Generation 50 (responsive 50 0) ∷ []) 0 0

-- 8: the unit that can give both leaves UFR to the other
abbrev pub two_units : Case
two_units = values_of (responsive 30 30) [] (unit_of 1 Generation 30 (responsive 30 30) ∷ unit_of 1 Generation 30 (responsive 0 30) ∷ []) 0 0

abbrev pub cases : List Case
cases = nothing ∷ bare_load ∷ served_load ∷ one_kw_less ∷ regulated ∷ ufr_for_pfr ∷ pfr_for_ufr ∷ two_units ∷ []

-- those with positions
abbrev pub reserve_cases : List Case
reserve_cases = regulated ∷ ufr_for_pfr ∷ pfr_for_ufr ∷ two_units ∷ []

-- the figures are the values on either side, and so the shortfalls, since there is no credit
pub record Holds (c : Case) : Type 0 where
  pub values : (side : Side) → IsBoth c.figures (λ m. m (view_on side (case_own c)))
  pub shorts : IsBoth c.figures (λ m. shortfall_of m (case_own c))

-- and they are the reserve parts, since the units answer what is asked overall
pub record ByReserves (c : Case) : Type 0 where
  pub overall : (side : Side) → overall (view_on side (case_own c)) ≡ 0
  pub grouped : (side : Side) → grouped_reserve (view_on side (case_own c)) ≡ c.figures.grouped
  pub subtype : (side : Side) → sub_type_reserve (view_on side (case_own c)) ≡ c.figures.sub_type
