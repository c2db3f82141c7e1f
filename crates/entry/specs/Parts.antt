-- What is asked of the numbers of a part of a list.
use Rattle.std.specs.Prelude.{◌≡◌, ℕ, ◌+◌, ◌<◌, List, length, ℤ}
use Rattle.entry.specs.Places.{Place, at, place_at, least, greatest, rule_of}
use Rattle.entry.specs.Rules.{RuleKept}
use Rattle.entry.specs.Keeps.{Within}

-- the numbers keep the places; the rule of the first may ask for a number before the part, so it is left out
pub record PartKept (ps : List Place) (kind : ℤ) (xs : List ℤ) : Type 0 where
  pub long : length xs ≡ length ps
  pub limited : (k : ℕ) → k < length ps → Within (at xs k) (least (place_at ps k)) (greatest (place_at ps k))
  pub ruled : (k : ℕ) → k + 1 < length ps → RuleKept (rule_of (place_at ps (k + 1))) (at xs (k + 1)) (at xs k) kind

-- for a resource of some kind
abbrev pub Fits : List Place → List ℤ → Type 0
Fits ps xs = (kind : ℤ) × PartKept ps kind xs
