-- A figure by each edition.
use Rattle.std.specs.Prelude.{◌≡◌, ℕ}
use Rattle.account.specs.View.{View}
use Rattle.measure.specs.Grouped.{grouped as grouped_value}
use Rattle.least.specs.SubType.{sub_type as sub_type_value}
use Rattle.cases.specs.declared.figures.Both.{Both}

pub record IsBoth (b : Both) (f : (View → ℕ) → ℕ) : Type 0 where
  pub grouped : b.grouped ≡ f grouped_value
  pub subtype : b.sub_type ≡ f sub_type_value

abbrev pub both : ℕ → Both
both n = record { grouped = n; sub_type = n }
