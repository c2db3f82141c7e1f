-- The 144 closed sets by their number: each is closed, and every closed set is met at its number.
use Rattle.std.proofs.Common.{◌≡◌, ℕ, suc, ◌+◌, ◌*◌, ◌/◌, ◌%◌, ◌<◌, ◌≤◌, Bool, true, false, cond, T, ltb, refl, ap, ◌∙◌, arith, le→leb, leb→le}
use Rattle.least.specs.Sources.{Set, Closed}
use Rattle.least.specs.Cover.{pairs, Pair}
use Rattle.least.specs.Chains.{mem}
use Rattle.least.proofs.Base.{at_nine}
pub use Rattle.least.proofs.Nine.{AllAt, from_all}

-- 1 for a member, so that a level is a sum
lev : Bool → ℕ
lev b = cond b 1 0

-- the number of a closed set
pub num : Set → ℕ
num A = lev (A 0) + 2 * lev (A 1) + 4 * (lev (A 2) + lev (A 3) + lev (A 4)) + 16 * (lev (A 5) + lev (A 6)) + 48 * (lev (A 7) + lev (A 8))

lev_le : (b : Bool) → lev b ≤ 1
unfolding lev
lev_le true = omega arith
lev_le false = omega arith

pub num_lt : (A : Set) → num A < 144
unfolding num
num_lt A = omega (arith, lev_le (A 0), lev_le (A 1), lev_le (A 2), lev_le (A 3), lev_le (A 4), lev_le (A 5), lev_le (A 6), lev_le (A 7), lev_le (A 8))

-- the digits of a number in the mixed base
digits : (a b c d e k : ℕ) → a ≤ 1 → b ≤ 1 → c ≤ 3 → d ≤ 2 → e ≤ 2 → k ≡ a + 2 * b + 4 * c + 16 * d + 48 * e
    → (k % 2 ≡ a) × (k / 2 % 2 ≡ b) × (k / 4 % 4 ≡ c) × (k / 16 % 3 ≡ d) × (k / 48 % 3 ≡ e)
digits a b c d e k ha hb hc hd he h = (omega arith, omega arith, omega arith, omega arith, omega arith)

-- where a level is above a member of a chain, it is above the members before it
pub mem_closed : (k : ℕ) → Closed Pair (mem k)
unfolding mem
mem_closed k j q e = from_all (λ j q. T (mem k q) → T (mem k j)) pairs
    ((λ t. t), ((λ t. t), ((λ t. t), (d01 _, (d02 _, ((λ t. t), (d12 _, ((λ t. t), ((λ t. t), (d01 _, ((λ t. t), ((λ t. t), (d01 _, ((λ t. t), tt)))))))))))))) j q e
  where
    down : (a b x : ℕ) → a ≤ b → T (ltb b x) → T (ltb a x)
    down a b x h t = le→leb (suc a) x (omega (arith, leb→le (suc b) x t))

    d01 : (x : ℕ) → T (ltb 1 x) → T (ltb 0 x)
    d01 x = down 0 1 x (omega arith)

    d02 : (x : ℕ) → T (ltb 2 x) → T (ltb 0 x)
    d02 x = down 0 2 x (omega arith)

    d12 : (x : ℕ) → T (ltb 2 x) → T (ltb 1 x)
    d12 x = down 1 2 x (omega arith)

-- the members of a chain by its level
chain_of_one : (a : Bool) → ltb 0 (lev a) ≡ a
unfolding lev
chain_of_one true = refl
chain_of_one false = refl

chain_of_two : (a b : Bool) → (T b → T a) → (ltb 0 (lev a + lev b) ≡ a) × (ltb 1 (lev a + lev b) ≡ b)
unfolding lev
chain_of_two true true h = (refl, refl)
chain_of_two true false h = (refl, refl)
chain_of_two false true h = absurd (h tt)
chain_of_two false false h = (refl, refl)

chain_of_three : (a b c : Bool) → (T b → T a) → (T c → T b) → (ltb 0 (lev a + lev b + lev c) ≡ a) × (ltb 1 (lev a + lev b + lev c) ≡ b) × (ltb 2 (lev a + lev b + lev c) ≡ c)
unfolding lev
chain_of_three true true true h i = (refl, refl, refl)
chain_of_three true true false h i = (refl, refl, refl)
chain_of_three true false true h i = absurd (i tt)
chain_of_three true false false h i = (refl, refl, refl)
chain_of_three false true c h i = absurd (h tt)
chain_of_three false false true h i = absurd (i tt)
chain_of_three false false false h i = (refl, refl, refl)

-- a closed set is met at its number
pub mem_num : (A : Set) → Closed Pair A → (j : ℕ) → j < 9 → mem (num A) j ≡ A j
unfolding mem num
mem_num A cl j lt =
    let k : ℕ = num A in
    let d : (k % 2 ≡ lev (A 0)) × (k / 2 % 2 ≡ lev (A 1)) × (k / 4 % 4 ≡ lev (A 2) + lev (A 3) + lev (A 4)) × (k / 16 % 3 ≡ lev (A 5) + lev (A 6)) × (k / 48 % 3 ≡ lev (A 7) + lev (A 8)) =
    digits (lev (A 0)) (lev (A 1)) (lev (A 2) + lev (A 3) + lev (A 4)) (lev (A 5) + lev (A 6)) (lev (A 7) + lev (A 8)) k (lev_le (A 0)) (lev_le (A 1))
    (small3 _ _ _ (lev_le (A 2)) (lev_le (A 3)) (lev_le (A 4))) (small2 _ _ (lev_le (A 5)) (lev_le (A 6))) (small2 _ _ (lev_le (A 7)) (lev_le (A 8))) refl in
    let t3 : (ltb 0 (lev (A 2) + lev (A 3) + lev (A 4)) ≡ A 2) × (ltb 1 (lev (A 2) + lev (A 3) + lev (A 4)) ≡ A 3) × (ltb 2 (lev (A 2) + lev (A 3) + lev (A 4)) ≡ A 4) = chain_of_three (A 2) (A 3) (A 4) (cl 2 3 tt) (cl 3 4 tt) in
    let t5 : (ltb 0 (lev (A 5) + lev (A 6)) ≡ A 5) × (ltb 1 (lev (A 5) + lev (A 6)) ≡ A 6) = chain_of_two (A 5) (A 6) (cl 5 6 tt) in
    let t7 : (ltb 0 (lev (A 7) + lev (A 8)) ≡ A 7) × (ltb 1 (lev (A 7) + lev (A 8)) ≡ A 8) = chain_of_two (A 7) (A 8) (cl 7 8 tt) in
    at_nine (λ j. mem (num A) j ≡ A j) (ap (λ (x : ℕ). ltb 0 x) d.0 ∙ chain_of_one (A 0)) (ap (λ (x : ℕ). ltb 0 x) d.1 ∙ chain_of_one (A 1))
    (ap (λ (x : ℕ). ltb 0 x) d.2 ∙ t3.0) (ap (λ (x : ℕ). ltb 1 x) d.2 ∙ t3.1) (ap (λ (x : ℕ). ltb 2 x) d.2 ∙ t3.2)
    (ap (λ (x : ℕ). ltb 0 x) d.3 ∙ t5.0) (ap (λ (x : ℕ). ltb 1 x) d.3 ∙ t5.1)
    (ap (λ (x : ℕ). ltb 0 x) d.4 ∙ t7.0) (ap (λ (x : ℕ). ltb 1 x) d.4 ∙ t7.1) j lt
  where
    small3 : (a b c : ℕ) → a ≤ 1 → b ≤ 1 → c ≤ 1 → a + b + c ≤ 3
    small3 a b c h i g = omega arith

    small2 : (a b : ℕ) → a ≤ 1 → b ≤ 1 → a + b ≤ 2
    small2 a b h i = omega arith
