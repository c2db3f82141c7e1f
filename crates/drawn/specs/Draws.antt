-- The linear congruential rule by which numbers are drawn.
use Rattle.std.specs.Prelude.{ℕ, ◌+◌, ◌-◌, ◌*◌, ◌/◌, ◌%◌, ◌^◌, min}

unfoldable pub next_state : ℕ → ℕ
next_state s = (s * 6364136223846793005 + 1442695040888963407) % 2 ^ 64

-- the number up to `most` that a state gives
unfoldable pub number_at : ℕ → ℕ → ℕ
number_at s most = (s / 2 ^ 32) % min (most + 1) (2 ^ 32 - 1)
