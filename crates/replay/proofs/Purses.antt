-- Claims taken from a purse and put back.
use Rattle.std.proofs.Common.{◌≡◌, ℕ, ◌<◌, List, length, get_or, set, Some, None, Option, ap, ◌∙◌, inl, inr, arith}
use Rattle.std.proofs.lemmas.List.{set-set, set-get_or, get_or_past, get_or-set_same, length-set}
use Rattle.std.proofs.lemmas.Bool.{cases_lt}
use Rattle.book.specs.declared.books.Claim.{Claim as Slip}
use Rattle.replay.specs.Runs.{Free}

pub held_within : (p : List (Option Slip)) (k : ℕ) (c : Slip) → Some c ≡ get_or p k None → k < length p
held_within p k c e = elim (cases_lt k (length p)) [
  | inl lt ↦ lt
  | inr le ↦ (let past = get_or_past p k None le in let z : ◌≡◌ {A = ℕ} 0 1 = cc in absurd (omega arith))
]

-- a claim put back to its place
pub put_back : (p p₁ p₂ : List (Option Slip)) (k : ℕ) (c back : Slip) → Some c ≡ get_or p k None → p₁ ≡ set p k None → p₂ ≡ set p₁ k (Some back) → back ≡ c → p₂ ≡ p
put_back p p₁ p₂ k c back e t w same =
    w ∙ ap (λ x. set p₁ k (Some x)) same ∙ ap (λ l. set l k (Some c)) t ∙ set-set p k None (Some c) ∙ ap (set p k) e ∙ set-get_or p k None
