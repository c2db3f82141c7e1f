-- Which numbers are among the rows.
use Rattle.std.proofs.Common.{◌≡◌, ℕ, zero, suc, ◌<◌, ◌≤◌, List, [], ◌∷◌, map, length, get_or, take, refl, inl, inr, arith}
use Rattle.shortfall.specs.Pool.{Among}

pub among_at : {X : Type 0} (f : X → ℕ) (n : ℕ) (xs : List X) (i : ℕ) (d : X) → i < length xs → f (get_or xs i d) ≡ n → Among (map f xs) n
among_at f n [] i d lt e = absurd (omega arith)
among_at f n (x ∷ xs) zero d lt e = inl e
among_at f n (x ∷ xs) (suc i) d lt e = inr (among_at f n xs i d (omega arith) e)

-- a number among others has a place
pub place_among : (ns : List ℕ) (n : ℕ) → Among ns n → (k : ℕ) × (k < length ns) × (get_or ns k 0 ≡ n)
place_among [] n h = absurd h
place_among (x ∷ ns) n (inl e) = (0, omega arith, e)
place_among (x ∷ ns) n (inr h) = let p = place_among ns n h in (suc p.0, omega (arith, p.1), p.2)

pub none_before : (ns : List ℕ) (n i : ℕ) → length ns ≤ i → ((j : ℕ) → j < i → get_or ns j 0 ≡ n → ⊥) → Among ns n → ⊥
none_before ns n i le none h = let p = place_among ns n h in none p.0 (omega (arith, p.1)) p.2

pub among_place : (ns : List ℕ) (n k : ℕ) → k < length ns → get_or ns k 0 ≡ n → Among ns n
among_place [] n k lt e = absurd (omega arith)
among_place (x ∷ ns) n zero lt e = inl e
among_place (x ∷ ns) n (suc k) lt e = inr (among_place ns n k (omega arith) e)

-- a place among the first n is below n and within the whole
pub place_taken : {X : Type 0} (f : X → ℕ) (xs : List X) (n k : ℕ) → k < length (map f (take n xs)) → (k < n) × (k < length xs)
place_taken f xs zero k lt = absurd (omega arith)
place_taken f [] (suc n) k lt = absurd (omega arith)
place_taken f (x ∷ xs) (suc n) zero lt = (omega arith, omega arith)
place_taken f (x ∷ xs) (suc n) (suc k) lt = let p = place_taken f xs n k (omega arith) in (omega (arith, p.0), omega (arith, p.1))

pub number_at : {X : Type 0} (f : X → ℕ) (xs : List X) (k : ℕ) (d : X) → k < length xs → get_or (map f xs) k 0 ≡ f (get_or xs k d)
number_at f [] k d lt = absurd (omega arith)
number_at f (x ∷ xs) zero d lt = refl
number_at f (x ∷ xs) (suc k) d lt = number_at f xs k d (omega arith)
