-- The closed sets of the nine sub-types: a level in each of the five chains {0} {1} {2,3,4} {5,6} {7,8}; 2 × 2 × 4 × 3 × 3 = 144 of them.
use Rattle.std.specs.Prelude.{ℕ, zero, suc, ◌/◌, ◌%◌, Bool, false, nat_lt}

-- whether j belongs to the closed set number k
unfoldable pub mem : ℕ → ℕ → Bool
mem k zero = nat_lt 0 (k % 2)
mem k (suc zero) = nat_lt 0 (k / 2 % 2)
mem k (suc (suc zero)) = nat_lt 0 (k / 4 % 4)
mem k (suc (suc (suc zero))) = nat_lt 1 (k / 4 % 4)
mem k (suc (suc (suc (suc zero)))) = nat_lt 2 (k / 4 % 4)
mem k (suc (suc (suc (suc (suc zero))))) = nat_lt 0 (k / 16 % 3)
mem k (suc (suc (suc (suc (suc (suc zero)))))) = nat_lt 1 (k / 16 % 3)
mem k (suc (suc (suc (suc (suc (suc (suc zero))))))) = nat_lt 0 (k / 48 % 3)
mem k (suc (suc (suc (suc (suc (suc (suc (suc zero)))))))) = nat_lt 1 (k / 48 % 3)
mem k (suc (suc (suc (suc (suc (suc (suc (suc (suc j))))))))) = false
