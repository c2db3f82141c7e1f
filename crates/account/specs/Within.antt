-- Bounds of the figures of n accounts together.
use Rattle.std.specs.Prelude.{ℕ, ◌*◌, ◌≤◌, pos, ◌+ℤ◌, ◌≤ℤ◌}
use Rattle.account.specs.View.{View, counted, over, nine}

-- for each account: 512 loads of 1,000,000 kWh; a sale and 512 trades of 10,000,000 kW; a storage net; nine positions
-- and 512 trades, since a trade has one sub-type
pub record Within (n : ℕ) (v : View) : Type 0 where
  pub load : v.load ≤ n * 512000000
  pub net : pos 0 ≤ℤ (v.net +ℤ pos (n * 5130000000))
  pub storage : pos 0 ≤ℤ (v.storage +ℤ pos (n * 10000000))
  pub positions : over nine (λ k. counted (v.position k)) ≤ n * 5210000000
