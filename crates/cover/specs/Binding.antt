-- The services that bind: a closed set of sub-types whose lack is the reserve part.
use Rattle.std.specs.Prelude.{◌≡◌, ℕ, ◌-◌, ◌<◌, false, List, slice_index, slice_index_or}
use Rattle.account.specs.View.{View}
use Rattle.least.specs.Sources.{sum_in, reach_all}
use Rattle.least.specs.Chains.{mem}
use Rattle.least.specs.SubType.{sources, demand, reserve}
use Rattle.cover.specs.Sets.{sum_to, lack_to}
use Rattle.cover.specs.declared.binding.Binding.{Binding}

-- w is the first set whose lack m is the greatest of the sets below n, by the table of what is reached
pub record Worst (n : ℕ) (reached p : List ℕ) (w m : ℕ) : Type 0 where
  pub most : m ≡ lack_to n reached p
  pub number : w < 144
  pub lack : m ≡ sum_to 9 w p - slice_index reached w
  pub first : (k : ℕ) → k < w → sum_to 9 k p - slice_index reached k < m

-- the services are a closed set; what its positions ask beyond what the lines reach of it is its lack, and that is the reserve part.
-- It is the first such set by number: each one numbered before it lacks less
pub record Binds (v : View) (b : Binding) : Type 0 where
  pub set : ℕ
  pub closed : set < 144
  pub services : (j : ℕ) → j < 9 → slice_index_or b.services j false ≡ mem set j
  pub lack : b.lack ≡ sum_in 9 (mem set) (demand v) - reach_all 9 (sources v.lines) (mem set)
  pub reserve : b.lack ≡ reserve v
  pub first : (k : ℕ) → k < set → sum_in 9 (mem k) (demand v) - reach_all 9 (sources v.lines) (mem k) < b.lack
