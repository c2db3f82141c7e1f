-- Rows with cents added: every other field is as it was.
use Rattle.std.specs.Prelude.{◌≡◌, ℕ, ◌+◌}
use Rattle.rows.specs.declared.qse.QseRow.{QseRow}
use Rattle.rows.specs.declared.load.LoadRow.{LoadRow}

pub record PaidQse (x : QseRow) (n : ℕ) (y : QseRow) : Type 0 where
  pub number : y.number ≡ x.number
  pub figures : y.figures ≡ x.figures
  pub shortfall : y.shortfall ≡ x.shortfall
  pub cents : y.cents ≡ x.cents + n

pub record PaidLoad (x : LoadRow) (n : ℕ) (y : LoadRow) : Type 0 where
  pub qse : y.qse ≡ x.qse
  pub point : y.point ≡ x.point
  pub kwh : y.kwh ≡ x.kwh
  pub cents : y.cents ≡ x.cents + n
