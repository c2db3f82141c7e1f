-- New rows, which are written as a list is entered. Such a row is the only one of its list.
use Rattle.std.specs.Prelude.{◌≡◌, true, List, length, ℤ}
use Rattle.rows.specs.Rows.{PlainLoad, PlainQse, PlainSide, PlainResource, PlainTrade}
use Rattle.entry.specs.Numbers.{figures_numbers, plain_load_numbers, resource_numbers, trade_numbers}

-- a number for each sub-type
pub record NineEach (s : PlainSide) : Type 0 where
  pub offered : length s.offered ≡ 9
  pub cop : length s.cop ≡ 9
  pub qualified : length s.qualified ≡ 9

pub record WrittenUnit (r : PlainResource) (xs : List ℤ) : Type 0 where
  pub snapshot : NineEach r.snapshot
  pub adjusted : NineEach r.adjusted
  pub numbers : resource_numbers r ≡ xs

pub record WrittenQse (q : PlainQse) (xs : List ℤ) : Type 0 where
  pub snapshot : length q.figures.snapshot.positions ≡ 9
  pub adjusted : length q.figures.adjusted.positions ≡ 9
  pub shortfall : q.shortfall ≡ 0
  pub cents : q.cents ≡ 0
  pub numbers : figures_numbers q.number q.figures ≡ xs

pub record WrittenLoad (l : PlainLoad) (xs : List ℤ) : Type 0 where
  pub cents : l.cents ≡ 0
  pub numbers : plain_load_numbers l ≡ xs

pub record WrittenTrade (t : PlainTrade) (xs : List ℤ) : Type 0 where
  pub counts : t.counts ≡ true
  pub numbers : trade_numbers t ≡ xs
