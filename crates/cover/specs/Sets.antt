-- The closed sets by number, what sums over them say, and the limit of a giving.
use Rattle.std.specs.Prelude.{◌≡◌, ℕ, ◌+◌, ◌-◌, ◌^◌, ◌<◌, ◌≤◌, min, false, cond, ◌||◌, ◌⊎◌, List, [], ◌∷◌, ◌==◌, slice_index}
use Rattle.least.specs.Sources.{sum_in}
use Rattle.least.specs.Cover.{greatest}
use Rattle.least.specs.Chains.{mem}

-- the set number k is the set number p, before it, with the member a
pub record Grows (k p a : ℕ) : Type 0 where
  pub before : p < k
  pub nine : a < 9
  pub new : mem p a ≡ false
  pub same : (j : ℕ) → j < 9 → mem k j ≡ (mem p j || j == a)

-- the first set with the member j and none after it
unfoldable pub start_at : ℕ → ℕ
start_at j = slice_index (1 ∷ 2 ∷ 4 ∷ 8 ∷ 12 ∷ 16 ∷ 32 ∷ 48 ∷ 96 ∷ 144 ∷ []) j

-- the members of the set number k as bits
unfoldable pub mask_at : ℕ → ℕ
mask_at k = sum_in 9 (mem k) (λ j. 2 ^ j)

-- no number above u
abbrev pub Under : ℕ → List ℕ → Type 0
Under u xs = (k : ℕ) → slice_index xs k ≤ u

-- the sum of xs over the members of the set number k below n
unfoldable pub sum_to : ℕ → ℕ → List ℕ → ℕ
sum_to n k xs = sum_in n (mem k) (λ j. slice_index xs j)

-- what capability j may give to a position outside the set number k before the set runs short
unfoldable pub spare_at : List ℕ → ℕ → List ℕ → List ℕ → ℕ → ℕ → ℕ
spare_at rest room caps left j k = (slice_index rest k + cond (mem k j) (min room (sum_to 9 k caps)) room) - sum_to 9 k left

-- r is the least of b and of what the sets below K without q can spare
pub record LimitTo (K : ℕ) (rest : List ℕ) (room : ℕ) (caps left : List ℕ) (j q b r : ℕ) : Type 0 where
  pub under : r ≤ b
  pub each : (k : ℕ) → k < K → mem k q ≡ false → r ≤ spare_at rest room caps left j k
  pub why : (b ≤ r) ⊎ ((k : ℕ) × (k < K) × (mem k q ≡ false) × (spare_at rest room caps left j k ≤ r))

-- the greatest lack of the sets below n, by the table of what is reached
unfoldable pub lack_to : ℕ → List ℕ → List ℕ → ℕ
lack_to n reached p = greatest n (λ k. sum_to 9 k p - slice_index reached k)
