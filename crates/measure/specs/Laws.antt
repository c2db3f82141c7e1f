-- The laws of a measure, over what it means on views.
use Rattle.std.specs.Prelude.{◌≡◌, ℕ, ◌+◌, ◌≤◌, List, [], ◌∷◌, ◌≤ℤ◌}
use Rattle.std.specs.List.Sorted.{IsPermutation}
use Rattle.rows.specs.Limits.{max_qses, max_value}
use Rattle.account.specs.View.{View, Line, zeros, add, with_lines}
use Rattle.account.specs.Within.{Within}

-- no number of y is below that of x
pub record Higher (x y : Line) : Type 0 where
  pub room : x.room ≤ y.room
  pub capability : (k : ℕ) → x.capability k ≤ y.capability k
  pub available : x.available ≤ y.available
  pub offline : x.offline ≤ y.offline
  pub loadpart : x.loadpart ≤ y.loadpart

-- each line as high or higher, and perhaps lines more
abbrev pub More : List Line → List Line → Type 0
More [] ys = Unit {0}
More (x ∷ xs) [] = ⊥
More (x ∷ xs) (y ∷ ys) = Higher x y × More xs ys

-- w has all that v has, and no more is asked of it
pub record Helped (v w : View) : Type 0 where
  pub load : w.load ≤ v.load
  pub net : v.net ≤ℤ w.net
  pub storage : v.storage ≤ℤ w.storage
  pub position : (k : ℕ) → w.position k ≤ℤ v.position k
  pub lines : More v.lines w.lines

-- lines in another order give the same value
abbrev pub Order : (View → ℕ) → Type 0
Order m = (v : View) (ls : List Line) → IsPermutation v.lines ls → m (with_lines v ls) ≡ m v

-- two accounts as one are worth at most the sum
abbrev pub Pool : (View → ℕ) → Type 0
Pool m = (v w : View) → m (add v w) ≤ m v + m w

-- more to give, or less asked, never raises the value
abbrev pub Help : (View → ℕ) → Type 0
Help m = (v w : View) → Helped v w → m w ≤ m v

-- zeros and no lines are worth 0
abbrev pub Nothing : (View → ℕ) → Type 0
Nothing m = m zeros ≡ 0

-- the figures of as many accounts of limited rows as a book has are worth no more than a value may be
abbrev pub Bound : (View → ℕ) → Type 0
Bound m = (v : View) → Within max_qses v → m v ≤ max_value
