-- The lines of each QSE, one QSE after the other, are the table's lines in another order.
use Rattle.std.proofs.Common.{◌≡◌, ℕ, Bool, true, false, cond, not, eqb, List, [], ◌∷◌, ◌++◌, map, filter, sym, refl, ap, ◌∙◌, subst, inl, inr, arith, ne_eqb, eqb-true}
use borrow.Author.Tests.{eqb-false}
use Rattle.std.specs.List.Sorted.{IsPermutation}
use Rattle.std.specs.List.{AllByRecursion}
use Rattle.std.proofs.lemmas.List.Sorted.{IsPermutation-refl, IsPermutation-cons, IsPermutation-trans, IsPermutation-swap}
use Rattle.shortfall.specs.Pool.{Among, Distinct}

shuffled_after : {Y : Type 0} (fs bs cs : List Y) → IsPermutation bs cs → IsPermutation (fs ++ bs) (fs ++ cs)
shuffled_after [] bs cs s = s
shuffled_after (a ∷ fs) bs cs s = IsPermutation-cons a (fs ++ bs) (fs ++ cs) (shuffled_after fs bs cs s)

to_front : {Y : Type 0} (xs : List Y) (y : Y) (ys : List Y) → IsPermutation (xs ++ y ∷ ys) (y ∷ (xs ++ ys))
to_front [] y ys = IsPermutation-refl (y ∷ ys)
to_front (x ∷ xs) y ys =
    IsPermutation-trans _ (x ∷ y ∷ (xs ++ ys)) _
    (IsPermutation-cons x _ _ (to_front xs y ys))
    (IsPermutation-swap (x ∷ y ∷ (xs ++ ys)) (y ∷ x ∷ (xs ++ ys)) 0 1 (omega arith) (omega arith) refl)

-- f of the rows of each key, one key after the other
module _ {X Y : Type 0} (key : X → ℕ) (f : X → Y) where
  abbrev own : ℕ → X → Bool
  own q x = eqb (key x) q

  abbrev other : ℕ → X → Bool
  other q x = not (own q x)

  -- own rows, then the others
  partition : (q : ℕ) (xs : List X) → IsPermutation (map f (filter (own q) xs) ++ map f (filter (other q) xs)) (map f xs)
  partition q [] = IsPermutation-refl []
  partition q (x ∷ xs) =
      let K = filter (own q) xs in
      let N = filter (other q) xs in
      let rest = partition q xs in
      elim (own q x) as (λ b. IsPermutation (map f (cond b (x ∷ K) K) ++ map f (cond (not b) (x ∷ N) N)) (f x ∷ map f xs)) [
        | true ↦ IsPermutation-cons (f x) _ _ rest
        | false ↦ IsPermutation-trans _ (f x ∷ (map f K ++ map f N)) _ (to_front (map f K) (f x) (map f N)) (IsPermutation-cons (f x) _ _ rest)
      ]

  skip : (q q' : ℕ) → (q ≡ q' → ⊥) → (xs : List X) → filter (own q') (filter (other q) xs) ≡ filter (own q') xs
  skip q q' ne [] = refl
  skip q q' ne (x ∷ xs) =
      let N = filter (other q) xs in
      let rest = skip q q' ne xs in
      let go : (b : Bool) → own q x ≡ b → filter (own q') (cond (not b) (x ∷ N) N) ≡ cond (own q' x) (x ∷ filter (own q') xs) (filter (own q') xs) =
      λ b. elim b as (λ b. own q x ≡ b → filter (own q') (cond (not b) (x ∷ N) N) ≡ cond (own q' x) (x ∷ filter (own q') xs) (filter (own q') xs)) [
        | true ↦ λ e. rest ∙ sym (ap (λ b. cond b (x ∷ filter (own q') xs) (filter (own q') xs)) (ne_eqb (key x) q' (λ e'. ne (sym (eqb-true (key x) q e) ∙ e'))))
        | false ↦ λ e. ap (λ l. cond (own q' x) (x ∷ l) l) rest
      ] in
      go (own q x) refl

  abbrev pub blocks : List ℕ → List X → List Y
  blocks [] xs = []
  blocks (q ∷ qs) xs = map f (filter (own q) xs) ++ blocks qs xs

  blocks_skip : (q : ℕ) (qs : List ℕ) → (Among qs q → ⊥) → (xs : List X) → blocks qs (filter (other q) xs) ≡ blocks qs xs
  blocks_skip q [] out xs = refl
  blocks_skip q (q' ∷ qs) out xs =
      ap (λ l. map f l ++ blocks qs (filter (other q) xs)) (skip q q' (λ e. out (inl (sym e))) xs) ∙ ap (λ l. map f (filter (own q') xs) ++ l) (blocks_skip q qs (λ m. out (inr m)) xs)

  still : (q : ℕ) (qs : List ℕ) (xs : List X) → AllByRecursion (λ x. Among (q ∷ qs) (key x)) xs → AllByRecursion (λ x. Among qs (key x)) (filter (other q) xs)
  still q qs [] all = tt
  still q qs (x ∷ xs) all =
      let N = filter (other q) xs in
      let rest = still q qs xs all.1 in
      let P : List X → Type 0 = AllByRecursion (λ x. Among qs (key x)) in
      let go : (b : Bool) → own q x ≡ b → P (cond (not b) (x ∷ N) N) =
      λ b. elim b as (λ b. own q x ≡ b → P (cond (not b) (x ∷ N) N)) [
        | true ↦ λ e. rest
        | false ↦ λ e. (elim all.0 [ inl s ↦ absurd (eqb-false (key x) q e (sym s)) | inr m ↦ m ], rest)
      ] in
      go (own q x) refl

  pub table_order : (qs : List ℕ) (xs : List X) → Distinct qs → AllByRecursion (λ x. Among qs (key x)) xs → IsPermutation (blocks qs xs) (map f xs)
  table_order [] [] d all = IsPermutation-refl []
  table_order [] (x ∷ xs) d all = absurd all.0
  table_order (q ∷ qs) xs d all =
      let N = filter (other q) xs in
      let later = subst (λ l. IsPermutation l (map f N)) (blocks_skip q qs d.0 xs) (table_order qs N d.1 (still q qs xs all)) in
      IsPermutation-trans _ _ _ (shuffled_after (map f (filter (own q) xs)) _ _ later) (partition q xs)
