-- A division of rows is a division of what the rows say.
use Rattle.std.proofs.Common.{◌≡◌, ℕ, ◌+◌, ◌<◌, ◌≤◌, List, [], ◌∷◌, map, length, get_or, take, sum_by, sym, refl, ap, ◌∙◌, subst, arith}
use Rattle.std.proofs.ByRecursion.{All-map, All-weaker}
use Rattle.std.proofs.lemmas.List.{get_or-map, length-map, take-map}
use Rattle.std.proofs.lemmas.List.Sums.{sum_by-cons}
use Rattle.rows.specs.Limits.{max_cents}
use Rattle.division.specs.Division.{share, upto, HasRoom, Fair, Spread, Divided}
use Rattle.division.proofs.Shares.{an_element}

pub sum_by_map : {X Y : Type 0} (f : X → Y) (h : X → ℕ) (h' : Y → ℕ) → ((x : X) → h x ≡ h' (f x)) → (xs : List X) → sum_by h' (map f xs) ≡ sum_by h xs
sum_by_map f h h' same [] = refl
sum_by_map f h h' same (x ∷ xs) = omega (arith, sum_by-cons h' (f x) (map f xs), sum_by-cons h x xs, same x, sum_by_map f h h' same xs)

module _ {X Y : Type 0} (f : X → Y) (weighs holds : X → ℕ) (weighs' holds' : Y → ℕ) (paid : X → ℕ → X → Type 0) (paid' : Y → ℕ → Y → Type 0)
    (weigh : (x : X) → weighs x ≡ weighs' (f x)) (hold : (x : X) → holds x ≡ holds' (f x)) (pay : (x : X) (n : ℕ) (y : X) → paid x n y → paid' (f x) n (f y))
    (pot : ℕ) (old new : List X) where
  upto_map : (k : ℕ) → upto weighs old k ≡ upto weighs' (map f old) k
  upto_map k = sym (ap (sum_by weighs') (take-map f k old) ∙ sum_by_map f weighs weighs' weigh (take k old))

  room_map : HasRoom holds pot old → HasRoom holds' pot (map f old)
  room_map room =
      All-map (λ y. holds' y + pot ≤ max_cents) f old
      (All-weaker (λ x. holds x + pot ≤ max_cents) (λ x. holds' (f x) + pot ≤ max_cents) (λ x le. subst (λ n. n + pot ≤ max_cents) (hold x) le) old room)

  module _ (long : length new ≡ length old) (k n : ℕ) (lt : k < length old) (d : X) (e : Y) where
    paid_map : paid (get_or old k d) n (get_or new k d) → paid' (get_or (map f old) k e) n (get_or (map f new) k e)
    paid_map p =
        let within : k < length new = omega arith in
        let after = subst (paid' (f (get_or old k d)) n) (sym (get_or-map f new k d e within)) (pay _ _ _ p) in
        subst (λ y. paid' y n (get_or (map f new) k e)) (sym (get_or-map f old k d e lt)) after

  spread_map : (W : ℕ) → Spread weighs holds paid pot old new W → Spread weighs' holds' paid' pot (map f old) (map f new) W
  spread_map W s =
      let same = length-map old f in
      record {
        long = length-map new f ∙ s.long ∙ sym same;
        exact = λ k lt e.
            let within : k < length old = omega (arith, same) in
            let d = an_element old k within in
            let part = ap (λ v. share pot W v (upto weighs old (k + 1))) (upto_map k) ∙ ap (share pot W (upto weighs' (map f old) k)) (upto_map (k + 1)) in
            subst (λ n. paid' (get_or (map f old) k e) n (get_or (map f new) k e)) part (paid_map s.long k _ within d e (s.exact k within d));
        whole = sum_by_map f holds holds' hold new ∙ s.whole ∙ ap (λ n. n + pot) (sym (sum_by_map f holds holds' hold old));
        fair = λ i lt e.
            let within : i < length old = omega (arith, same) in
            let d = an_element old i within in
            let given = s.fair i within d in
            let weight = weigh (get_or old i d) ∙ ap weighs' (sym (get_or-map f old i d e within)) in
            (given.0, paid_map s.long i _ within d e given.1, subst (λ h. Fair pot W h given.0) weight given.2);
      }

  pub divided_map : (given : ℕ) → Divided weighs holds paid pot old new given → Divided weighs' holds' paid' pot (map f old) (map f new) given
  divided_map given d =
      let W = sum_by weighs old in
      let W' = sum_by weighs' (map f old) in
      let sum : W' ≡ W = sum_by_map f weighs weighs' weigh old in
      record {
        room = room_map d.room;
        all = λ pos. d.all (subst (λ n. 0 < n) sum pos);
        spread = λ pos. subst (λ n. Spread weighs' holds' paid' pot (map f old) (map f new) n) (sym sum) (spread_map W (d.spread (subst (λ n. 0 < n) sum pos)));
        idle = λ none. let i = d.idle (sym sum ∙ none) in record { none = i.none; same = ap (map f) i.same };
      }
