-- The members of the closed sets as bits.
use Rattle.std.proofs.Common.{◌≡◌, ℕ, zero, suc, ◌+◌, ◌/◌, ◌^◌, ◌<◌, Bool, true, eqb, List, [], ◌∷◌, get_or, refl, ap, ◌∙◌, arith}
use lib.Bits.{bit_and}
use Rattle.least.specs.Chains.{mem}
use Rattle.cover.specs.Sets.{mask_at}
use Rattle.cover.proofs.SetSums.{same, alike, alike_at, all_below, below_at}

-- f at n places, the first of them at i
tabulated_from : ℕ → ℕ → (ℕ → ℕ) → List ℕ
tabulated_from zero i f = []
tabulated_from (suc n) i f = f i ∷ tabulated_from n (suc i) f

from_at : (n i : ℕ) (f : ℕ → ℕ) (k : ℕ) → k < n → get_or (tabulated_from n i f) k 0 ≡ f (i + k)
unfolding tabulated_from
from_at zero i f k lt = absurd (omega arith)
from_at (suc n) i f zero lt = let e : i ≡ i + 0 = omega arith in ap f e
from_at (suc n) i f (suc k) lt = let e : suc i + k ≡ i + suc k = omega arith in from_at n (suc i) f k (omega arith) ∙ ap f e

unfoldable pub tabulated : ℕ → (ℕ → ℕ) → List ℕ
unfolding tabulated_from
tabulated n f = tabulated_from n 0 f

pub tabulated_at : (f : ℕ → ℕ) (n k : ℕ) → k < n → get_or (tabulated n f) k 0 ≡ f k
unfolding tabulated
tabulated_at f n k lt = let e : 0 + k ≡ k = omega arith in from_at n 0 f k lt ∙ ap f e

-- bit j of the mask, as one test of all sets
in-mask : ℕ → ℕ → Bool
in-mask k j = eqb (bit_and (mask_at k / 2 ^ j) 1) 1

masks_hold : all_below 144 (λ k. alike 9 (in-mask k) (mem k)) ≡ true
unfolding mem same alike all_below mask_at in-mask
masks_hold = refl

pub mask_member : (k j : ℕ) → k < 144 → j < 9 → eqb (bit_and (mask_at k / 2 ^ j) 1) 1 ≡ mem k j
unfolding in-mask
mask_member k j lk lj = alike_at 9 (in-mask k) (mem k) (below_at 144 (λ k. alike 9 (in-mask k) (mem k)) masks_hold k lk) j lj
