-- The 144 closed sets are enough: every closed set is met, and the greatest lack is found among them.
use Rattle.std.proofs.Common.{◌≡◌, ℕ, ◌+◌, ◌-◌, ◌≤◌, T, List, sym, subst, arith}
use Rattle.least.specs.Sources.{Set, sum_in, Source, reach_all, Closed}
use Rattle.least.specs.Cover.{greatest, greatest_lack, Pair}
use Rattle.least.specs.Chains.{mem}
use Rattle.least.proofs.Base.{Below, sum_in_mono, reach_all_sub}
use Rattle.least.proofs.Chains.{num, num_lt, mem_num, mem_closed}
use Rattle.least.proofs.Nine.{lack_le, lack_all, pair_trans, pair_refl, greatest_at, greatest_le}

-- a closed set has the members of the set at its number
pub meets : (A : Set) → Closed Pair A → Below 9 A (mem (num A)) × Below 9 (mem (num A)) A
meets A cl = ((λ k lt t. subst T (sym (mem_num A cl k lt)) t), λ k lt t. subst T (mem_num A cl k lt) t)

-- the lack of the closed set number k
abbrev pub lack_of : List Source → (ℕ → ℕ) → ℕ → ℕ
lack_of ls p k = sum_in 9 (mem k) p - reach_all 9 ls (mem k)

both_ways : (a b : ℕ) → a ≤ b → b ≤ a → a ≡ b
both_ways a b h i = omega arith

lack_within : (a r w : ℕ) → a ≤ r + w → a - r ≤ w
lack_within a r w h = omega arith

asked_within : (a a' r r' m : ℕ) → a' - r' ≤ m → a ≤ a' → r' ≤ r → a ≤ r + m
asked_within a a' r r' m h i j = omega arith

family_under : (ls : List Source) (p : ℕ → ℕ) → greatest 144 (lack_of ls p) ≤ greatest_lack 9 Pair ls p
family_under ls p = greatest_le 144 (lack_of ls p) (greatest_lack 9 Pair ls p) (λ k.
    lack_within (sum_in 9 (mem k) p) (reach_all 9 ls (mem k)) (greatest_lack 9 Pair ls p) (lack_all 9 Pair pair_trans pair_refl ls p (mem k) (mem_closed k)))

family_over : (ls : List Source) (p : ℕ → ℕ) → greatest_lack 9 Pair ls p ≤ greatest 144 (lack_of ls p)
family_over ls p = lack_le 9 Pair pair_trans pair_refl ls p (greatest 144 (lack_of ls p)) (λ A cl.
    asked_within (sum_in 9 A p) (sum_in 9 (mem (num A)) p) (reach_all 9 ls A) (reach_all 9 ls (mem (num A))) (greatest 144 (lack_of ls p))
    (greatest_at 144 (lack_of ls p) (num A) (num_lt A)) (sum_in_mono 9 A (mem (num A)) p (meets A cl).0) ((reach_all_sub 9 ls).mono (mem (num A)) A (meets A cl).1))

-- the greatest lack of the 144 is that of all 512 sets
pub greatest_lack_is : (ls : List Source) (p : ℕ → ℕ) → greatest 144 (lack_of ls p) ≡ greatest_lack 9 Pair ls p
greatest_lack_is ls p = both_ways (greatest 144 (lack_of ls p)) (greatest_lack 9 Pair ls p) (family_under ls p) (family_over ls p)
