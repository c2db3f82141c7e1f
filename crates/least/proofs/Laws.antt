-- The greatest lack keeps the four laws.
use Rattle.std.proofs.Common.{◌≡◌, ℕ, zero, suc, ◌+◌, ◌^◌, ◌≤◌, Bool, List, [], ◌∷◌, ◌++◌, sum_by, refl, arith}
use Rattle.std.specs.List.Sorted.{IsPermutation}
use Rattle.std.proofs.lemmas.List.Sorted.{sum_by-IsPermutation}
use Rattle.std.proofs.lemmas.List.Sums.{sum_by-cons}
use Rattle.least.specs.Sources.{Set, Source, reach, reach_all}
use Rattle.least.specs.Cover.{bit, able, lack, greatest, greatest_lack, Pair}
use Rattle.least.specs.Laws.{Better, Laws}
use Rattle.least.proofs.Duality.{sum_in_le, sum_in_add, sum_in_zero}
use Rattle.least.proofs.Nine.{greatest_le}

reach_all_sum_by : (n : ℕ) (ls : List Source) (A : Set) → reach_all n ls A ≡ sum_by (λ l. reach n l A) ls
reach_all_sum_by n [] A = refl
reach_all_sum_by n (l ∷ ls) A = omega (arith, reach_all_sum_by n ls A, sum_by-cons (λ l. reach n l A) l ls)

reach_all_append : (n : ℕ) (ls ms : List Source) (A : Set) → reach_all n (ls ++ ms) A ≡ reach_all n ls A + reach_all n ms A
reach_all_append n [] ms A = omega arith
reach_all_append n (l ∷ ls) ms A = omega (arith, reach_all_append n ls ms A)

reach_all_better : (n : ℕ) (ls ms : List Source) (A : Set) → Better ls ms → reach_all n ls A ≤ reach_all n ms A
reach_all_better n [] ms A b = omega arith
reach_all_better n (l ∷ ls) [] A b = absurd b
reach_all_better n (l ∷ ls) (m ∷ ms) A b =
    omega (arith, reach_all_better n ls ms A b.1, b.0.room, sum_in_le n A l.capability m.capability (λ k lt t. b.0.capability k))

greatest_mono : (n : ℕ) (f g : ℕ → ℕ) → ((k : ℕ) → f k ≤ g k) → greatest n f ≤ greatest n g
greatest_mono zero f g h = omega arith
greatest_mono (suc n) f g h = omega (arith, greatest_mono n f g h, h n)

greatest_add : (n : ℕ) (f g h : ℕ → ℕ) → ((k : ℕ) → f k ≤ g k + h k) → greatest n f ≤ greatest n g + greatest n h
greatest_add zero f g h e = omega arith
greatest_add (suc n) f g h e = omega (arith, greatest_add n f g h e, e n)

module _ (n : ℕ) (E : ℕ → ℕ → Bool) where
  -- more reach and lower positions never raise the greatest lack
  lack_lower : (ls ms : List Source) (p q : ℕ → ℕ) → ((A : Set) → reach_all n ls A ≤ reach_all n ms A) → ((k : ℕ) → q k ≤ p k) → greatest_lack n E ms q ≤ greatest_lack n E ls p
  lack_lower ls ms p q h le = greatest_mono (2 ^ n) (λ k. lack n E ms q (bit k)) (λ k. lack n E ls p (bit k))
      (λ k. omega (arith, h (able n E (bit k)), sum_in_le n (bit k) q p (λ i lt t. le i)))

  shuffle_free : (ls ms : List Source) (p : ℕ → ℕ) → IsPermutation ls ms → greatest_lack n E ms p ≡ greatest_lack n E ls p
  shuffle_free ls ms p s =
      let e : (A : Set) → reach_all n ms A ≡ reach_all n ls A = λ A. omega (arith, reach_all_sum_by n ls A, reach_all_sum_by n ms A, sum_by-IsPermutation (λ l. reach n l A) ls ms s) in
      omega (arith, lack_lower ls ms p p (λ A. omega (arith, e A)) (λ k. omega arith), lack_lower ms ls p p (λ A. omega (arith, e A)) (λ k. omega arith))

  pool : (ls ms : List Source) (p q r : ℕ → ℕ) → ((k : ℕ) → r k ≤ p k + q k) → greatest_lack n E (ls ++ ms) r ≤ greatest_lack n E ls p + greatest_lack n E ms q
  pool ls ms p q r le = greatest_add (2 ^ n) (λ k. lack n E (ls ++ ms) r (bit k)) (λ k. lack n E ls p (bit k)) (λ k. lack n E ms q (bit k))
      (λ k. omega (arith, reach_all_append n ls ms (able n E (bit k)), sum_in_le n (bit k) r (λ i. p i + q i) (λ i lt t. le i), sum_in_add n (bit k) p q))

  nothing : greatest_lack n E [] (λ k. 0) ≡ 0
  nothing = omega (arith, greatest_le (2 ^ n) (λ k. lack n E [] (λ i. 0) (bit k)) 0 (λ k. omega (arith, sum_in_zero n (bit k))))

-- the four laws of the nine sub-types
pub laws : Laws
laws = record {
  order = shuffle_free 9 Pair;
  pool = pool 9 Pair;
  help = λ ls ms p q b le. lack_lower 9 Pair ls ms p q (λ A. reach_all_better 9 ls ms A b) le;
  nothing = nothing 9 Pair;
}
