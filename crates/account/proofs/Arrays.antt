-- A loop that fills an array place by place.
use Rattle.std.proofs.Common.{◌≡◌, ℕ, ◌<◌, ◌≢◌, List, length, get_or, set, sym, subst, ⊎_elim, get_or-set_other, get_or-set_same}
use Rattle.std.proofs.lemmas.Bool.{cases_eq}

module _ {X : Type 0} (xs : List X) (i : ℕ) (v d : X) (lt : i < length xs) where
  -- what holds of every place, and of v, still holds of every place
  pub set_every : (Q : X → Type 0) → ((j : ℕ) → Q (get_or xs j d)) → Q v → (j : ℕ) → Q (get_or (set xs i v) j d)
  set_every Q every here j =
      ⊎_elim
      (λ (e : j ≡ i). subst (λ n. Q (get_or (set xs i v) n d)) (sym e) (rw get_or-set_same here))
      (λ (ne : j ≢ i). rw get_or-set_other (every j))
      (cases_eq j i)
