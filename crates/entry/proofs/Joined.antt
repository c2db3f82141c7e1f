-- Lists put together again from their parts.
use Rattle.std.proofs.Common.{◌≡◌, ℕ, zero, suc, ◌+◌, ◌≤◌, List, ◌∷◌, ◌++◌, length, take, drop, ℤ, pos, sym, refl, ap, ◌∙◌, arith}
use Rattle.std.proofs.lemmas.List.{take-append-drop, take_all, drop-drop, drop_more, length-drop}
use Rattle.entry.specs.Places.{at}

pub cons_same : {x y : ℤ} {xs ys : List ℤ} → x ≡ y → xs ≡ ys → x ∷ xs ≡ y ∷ ys
cons_same e es = cc

pub append_same : {xs ys zs ws : List ℤ} → xs ≡ ys → zs ≡ ws → xs ++ zs ≡ ys ++ ws
append_same e es = cc

-- from place i on, n numbers one by one, and the rest
abbrev pub one_by_one : List ℤ → ℕ → ℕ → List ℤ
one_by_one xs i zero = drop i xs
one_by_one xs i (suc n) = at xs i ∷ one_by_one xs (i + 1) n

from_on : (xs : List ℤ) (i n : ℕ) → i + n ≤ length xs → one_by_one xs i n ≡ drop i xs
from_on xs i zero h = refl
from_on xs i (suc n) h = ap (λ l. at xs i ∷ l) (from_on xs (i + 1) n (omega arith)) ∙ sym (drop_more xs i (pos 0) (omega arith))

pub firsts_and_rest : (n : ℕ) (xs : List ℤ) → n ≤ length xs → one_by_one xs 0 n ≡ xs
firsts_and_rest n xs h = from_on xs 0 n (omega arith)

-- n numbers from place b on, n more and n more
pub three_parts : (b n : ℕ) (xs : List ℤ) → length xs ≡ b + (n + (n + n)) → take n (drop b xs) ++ (take n (drop (b + n) xs) ++ take n (drop (b + n + n) xs)) ≡ drop b xs
three_parts b n xs long =
    let l : length (drop (b + n + n) xs) ≤ n = simp length-drop (omega arith) in
    let last = take_all n (drop (b + n + n) xs) l ∙ sym (drop-drop n (b + n) xs) in
    append_same refl (append_same refl last ∙ take-append-drop n (drop (b + n) xs) ∙ sym (drop-drop n b xs)) ∙ take-append-drop n (drop b xs)
