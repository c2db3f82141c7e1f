-- Arrays made by a closure that changes nothing.
use Rattle.std.proofs.Common.{◌≡◌, ℕ, zero, suc, ◌+◌, ◌<◌, ◌≤◌, List, slice_index_or, sym, subst, arith, ⊎_elim}
use Rattle.std.proofs.lemmas.Bool.{cases_lt}
use Rattle.std.proofs.lemmas.List.{get_or_past}
use Rattle.std.specs.Fn.{Mut, Called}
use Rattle.std.specs.Array.{IsFromFnResult, IsFromFnResultFrom}

module _ {F B : Type 0} (g : Mut F (ℕ × Unit {0}) B) (P : ℕ → B → Type 0) (f : F) (each : (i : ℕ) (y : B) (q : F) → Called g f (i, tt) y q → P i y × (q ≡ f)) where
  elements_from : (n i : ℕ) (ys : List B) → IsFromFnResultFrom g f ys i n → (k : ℕ) (e : B) → i ≤ k → k < i + n → P k (slice_index_or ys k e)
  elements_from zero i ys r k e l h = absurd (omega arith)
  elements_from (suc n) i ys r k e l h =
      let c = each i r.1 r.0 r.3 in
      let rest = subst (λ (q : F). IsFromFnResultFrom g q ys (i + 1) n) c.1 r.4 in
      ⊎_elim
      (λ (m : i < k). elements_from n (i + 1) ys rest k e (omega arith) (omega arith))
      (λ (m : k ≤ i). let same : i ≡ k = omega arith in subst (λ (j : ℕ). P j (slice_index_or ys j e)) same (subst (P i) (sym (r.2.1 e)) c.0))
      (cases_lt i k)

  -- what the closure gives of a place stands there
  pub elements_given : (n : ℕ) (ys : List B) → IsFromFnResult g f ys n → (k : ℕ) (e : B) → k < n → P k (slice_index_or ys k e)
  elements_given n ys r k e h = elements_from n 0 ys r.each k e (omega arith) (omega arith)

-- what holds of all that it gives, and of a default, holds at every place
pub elements_all : {F B : Type 0} (g : Mut F (ℕ × Unit {0}) B) (Q : B → Type 0) (f : F) (each : (i : ℕ) (y : B) (q : F) → Called g f (i, tt) y q → Q y × (q ≡ f)) (n : ℕ) (ys : List B) → IsFromFnResult g f ys n → (d : B) → Q d → (k : ℕ) → Q (slice_index_or ys k d)
elements_all g Q f each n ys r d q k =
    ⊎_elim
    (λ (h : k < n). elements_given g (λ _. Q) f each n ys r k d h)
    (λ (h : n ≤ k). subst Q (sym (get_or_past ys k d (omega (arith, r.long)))) q)
    (cases_lt k n)
