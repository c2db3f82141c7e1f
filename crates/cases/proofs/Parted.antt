-- Rows without cents hold their parts after a division.
use Rattle.std.proofs.Common.{◌≡◌, ℕ, suc, ◌+◌, ◌^◌, ◌<◌, List, [], ◌∷◌, map, length, get_or, take, Ok, Err, sum_by, Result, sym, refl, ap, ◌∙◌, subst, add_assoc, add-zero, zero-add, add-one, arith}
use Rattle.std.specs.List.{AllByRecursion}
use Rattle.std.specs.Result.{IsOk}
use Rattle.std.proofs.ByRecursion.{All-get_or}
use Rattle.std.proofs.lemmas.List.Sums.{sum_by-cons, sum-map}
use Rattle.rows.specs.declared.fault.Fault.{Fault}
use Rattle.division.specs.Division.{share, upto, Spread, Divides}
use Rattle.division.proofs.Shares.{an_element}
use Rattle.cases.specs.Parts.{parts_after, parts}

module _ {X : Type 0} (weighs holds : X → ℕ) (paid : X → ℕ → X → Type 0) (adds : (x : X) (n : ℕ) (y : X) → paid x n y → holds y ≡ holds x + n) (pot W : ℕ) where
  upto_cons : (x : X) (xs : List X) (k : ℕ) → upto weighs (x ∷ xs) (suc k) ≡ weighs x + upto weighs xs k
  upto_cons x xs k = sum_by-cons weighs x (take k xs)

  abbrev Paid : ℕ → List X → List X → Type 0
  Paid v old new = (k : ℕ) → k < length old → (d : X) → paid (get_or old k d) (share pot W (v + upto weighs old k) (v + upto weighs old (suc k))) (get_or new k d)

  first_part : (v : ℕ) (x y : X) (xs ys : List X) → holds x ≡ 0 → Paid v (x ∷ xs) (y ∷ ys) → holds y ≡ share pot W v (v + weighs x)
  first_part v x y xs ys none p =
      let start : v + upto weighs (x ∷ xs) 0 ≡ v = add-zero v in
      let one : v + upto weighs (x ∷ xs) 1 ≡ v + weighs x = ap (λ n. v + n) (upto_cons x xs 0 ∙ add-zero (weighs x)) in
      let given : holds y ≡ holds x + share pot W (v + upto weighs (x ∷ xs) 0) (v + upto weighs (x ∷ xs) 1) = adds x _ y (p 0 (omega arith) x) in
      given ∙ ap (λ n. n + share pot W (v + upto weighs (x ∷ xs) 0) (v + upto weighs (x ∷ xs) 1)) none ∙ zero-add _ ∙ (λ i. share pot W (start i) (one i))

  later_parts : (v : ℕ) (x y : X) (xs ys : List X) → Paid v (x ∷ xs) (y ∷ ys) → Paid (v + weighs x) xs ys
  later_parts v x y xs ys p k lt d =
      let moved = λ (j : ℕ). ap (λ n. v + n) (upto_cons x xs j) ∙ sym (add_assoc v (weighs x) (upto weighs xs j)) in
      let a = moved k in
      let b = moved (suc k) in
      let P : ℕ → Type 0 = λ n. paid (get_or xs k d) n (get_or ys k d) in
      let same : share pot W (v + upto weighs (x ∷ xs) (suc k)) (v + upto weighs (x ∷ xs) (suc (suc k))) ≡ share pot W (v + weighs x + upto weighs xs k) (v + weighs x + upto weighs xs (suc k)) = λ i. share pot W (a i) (b i) in
      subst P same (p (suc k) (omega arith) d)

  parted_after : (v : ℕ) (old new : List X) → length new ≡ length old → AllByRecursion (λ x. holds x ≡ 0) old → Paid v old new → map holds new ≡ parts_after pot W v (map weighs old)
  parted_after v [] [] l none p = refl
  parted_after v [] (y ∷ ys) l none p = absurd (omega arith)
  parted_after v (x ∷ xs) [] l none p = absurd (omega arith)
  parted_after v (x ∷ xs) (y ∷ ys) l none p =
      let head = first_part v x y xs ys none.0 p in
      let tail = parted_after (v + weighs x) xs ys (omega arith) none.1 (later_parts v x y xs ys p) in
      λ i. head i ∷ tail i

pub parted : {X : Type 0} (weighs holds : X → ℕ) (paid : X → ℕ → X → Type 0) → ((x : X) (n : ℕ) (y : X) → paid x n y → holds y ≡ holds x + n)
    → (pot : ℕ) (old new : List X) → AllByRecursion (λ x. holds x ≡ 0) old → Spread weighs holds paid pot old new (sum_by weighs old) → map holds new ≡ parts pot (map weighs old)
parted weighs holds paid adds pot old new none s =
    let W = sum_by weighs old in
    let p : Paid weighs holds paid adds pot W 0 old new = λ k lt d.
    let P : ℕ → Type 0 = λ n. paid (get_or old k d) n (get_or new k d) in
    let a = sym (zero-add (upto weighs old k)) in
    let next : k + 1 ≡ suc k = add-one k in
    let b = ap (upto weighs old) next ∙ sym (zero-add (upto weighs old (suc k))) in
    let same : share pot W (upto weighs old k) (upto weighs old (k + 1)) ≡ share pot W (0 + upto weighs old k) (0 + upto weighs old (suc k)) = λ i. share pot W (a i) (b i) in
    subst P same (s.exact k lt d) in
    parted_after weighs holds paid adds pot W 0 old new s.long none p ∙ ap (λ n. parts_after pot n 0 (map weighs old)) (sym (sum-map weighs old))

-- a pot of 32 bits is given to rows without cents
pub paid_out : {X : Type 0} (weighs holds : X → ℕ) (paid : X → ℕ → X → Type 0) → ((x : X) (n : ℕ) (y : X) → paid x n y → holds y ≡ holds x + n)
    → (pot : ℕ) (old new : List X) (r : Result ℕ Fault) → pot < 2 ^ 32 → AllByRecursion (λ x. holds x ≡ 0) old → 0 < sum_by weighs old
    → Divides weighs holds paid pot old new r → IsOk r × (map holds new ≡ parts pot (map weighs old))
paid_out weighs holds paid adds pot old new (Ok given) few none some d = (refl, parted weighs holds paid adds pot old new none (d.spread some))
paid_out weighs holds paid adds pot old new (Err fault) few none some d =
    let x = an_element old d.full.place d.full.within in
    absurd (omega (arith, d.full.above x, All-get_or (λ y. holds y ≡ 0) old d.full.place x d.full.within none))
