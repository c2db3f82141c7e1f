-- The shares of a pot: each within one cent of its part, and together the whole pot.
use Rattle.std.proofs.Common.{◌≡◌, ℕ, zero, suc, ◌+◌, ◌-◌, ◌*◌, ◌/◌, ◌<◌, ◌≤◌, List, [], ◌∷◌, length, get_or, take, drop, set, sum_by, sym, ap, ◌∙◌, subst, add-zero, add-mul, mul-le-mul_left, mul-zero, le-div_iff_mul-le, mul-add, div-mul-le_self, mul-div_cancel, add-one, arith, below_more}
use native.Mathlib.Nat.{lt-div-mul-add, zero-div}
use Rattle.std.proofs.lemmas.List.{drop-drop, drop-set-lt, get_or_default, get_or-drop, get_or-set_same, get_or-set_other, take_all}
use Rattle.std.proofs.lemmas.List.Sums.{sum_by_more}
use Rattle.division.specs.Division.{share, upto, Fair, PaidUpto, Spread}

pub an_element : {X : Type 0} (xs : List X) (i : ℕ) → i < length xs → X
an_element [] i lt = absurd (omega arith)
an_element (x ∷ xs) i lt = x

pub quotient_mono : (a b W : ℕ) → 0 < W → a ≤ b → a / W ≤ b / W
quotient_mono a b W pos le = (le-div_iff_mul-le pos).1 (omega (arith, div-mul-le_self a W))

share_up : (pot W v h : ℕ) → 0 < W → pot * v / W ≤ pot * (v + h) / W
share_up pot W v h pos = quotient_mono (pot * v) (pot * (v + h)) W pos (mul-le-mul_left pot (omega arith))

pub share_fair : (pot W v h : ℕ) → 0 < W → Fair pot W h (share pot W v (v + h))
share_fair pot W v h pos =
    let b = pot * v / W in
    let a = pot * (v + h) / W in
    let up : b ≤ a = share_up pot W v h pos in
    let d = a - b in
    let parts : a ≡ b + d = omega arith in
    let split : a * W ≡ b * W + d * W = ap (λ n. n * W) parts ∙ add-mul b d W in
    let sums = mul-add pot v h in
    record {
      under = omega (arith, split, sums, div-mul-le_self (pot * (v + h)) W, lt-div-mul-add {a = pot * v} pos);
      over = omega (arith, split, sums, div-mul-le_self (pot * v) W, lt-div-mul-add {a = pot * (v + h)} pos);
      none = λ e. let same : pot * (v + h) / W ≡ pot * v / W = ap (λ n. pot * n / W) (ap (λ n. v + n) e ∙ add-zero v) in omega (arith, same);
    }

module _ {X : Type 0} (old new : List X) (i : ℕ) (rest : drop i new ≡ drop i old) where
  -- a row that is not yet paid is as it was
  pub get_or_rest : (d : X) → get_or new i d ≡ get_or old i d
  get_or_rest d =
      ap (λ n. get_or new n d) (sym (add-zero i)) ∙ sym (get_or-drop i new 0 d)
      ∙ ap (λ l. get_or l 0 d) rest
      ∙ get_or-drop i old 0 d ∙ ap (λ n. get_or old n d) (add-zero i)

  pub rest_more : (y : X) → drop (i + 1) (set new i y) ≡ drop (i + 1) old
  rest_more y = drop-set-lt (i + 1) new i y (omega arith) ∙ sym (drop-drop 1 i new) ∙ ap (drop 1) rest ∙ drop-drop 1 i old

  -- the row's weight h takes the running sum one row on
  pub upto_more : (weighs : X → ℕ) (e : X) (b h : ℕ) → i < length old → b ≡ upto weighs old i → h ≡ weighs (get_or new i e) → b + h ≡ upto weighs old (i + 1)
  upto_more weighs e b h lt before here = omega (arith, sum_by_more weighs old i e lt, ap weighs (get_or_rest e))

  module _ (weighs : X → ℕ) (paid : X → ℕ → X → Type 0) (pot W : ℕ) (lt : i < length new) where
    pub paid_more : (e y : X) → PaidUpto weighs paid pot W old new i
        → paid (get_or new i e) (share pot W (upto weighs old i) (upto weighs old (i + 1))) y → PaidUpto weighs paid pot W old (set new i y) (i + 1)
    paid_more e y done here =
        let s : ℕ → ℕ = λ k. share pot W (upto weighs old k) (upto weighs old (k + 1)) in
        below_more (λ k. (d : X) → paid (get_or old k d) (s k) (get_or (set new i y) k d)) i
        (λ k before d. subst (paid (get_or old k d) (s k)) (sym (get_or-set_other new i k y d (omega arith))) (done k before d))
        (λ d.
        let same : get_or new i e ≡ get_or old i d = get_or_default new i e d lt ∙ get_or_rest d in
        subst (paid (get_or old i d) (s i)) (sym (get_or-set_same new i y d lt)) (subst (λ x. paid x (s i) y) same here))

module _ {X : Type 0} (weighs holds : X → ℕ) (paid : X → ℕ → X → Type 0) (adds : (x : X) (n : ℕ) (y : X) → paid x n y → holds y ≡ holds x + n)
    (pot W : ℕ) (pos : 0 < W) (old new : List X) (long : length new ≡ length old) (exact : PaidUpto weighs paid pot W old new (length old)) where
  -- the first i rows are paid the pot's part for their weight
  cents_upto : (i : ℕ) → i ≤ length old → sum_by holds (take i new) ≡ sum_by holds (take i old) + pot * upto weighs old i / W
  cents_upto zero le = let none : pot * 0 / W ≡ 0 = ap (λ n. n / W) (mul-zero pot) ∙ zero-div W in omega (arith, none)
  cents_upto (suc i) le =
      let lt : i < length old = omega arith in
      let d = an_element old i lt in
      let v = upto weighs old i in
      let w = upto weighs old (i + 1) in
      let step : w ≡ v + weighs (get_or old i d) = sum_by_more weighs old i d lt in
      let up : pot * v / W ≤ pot * w / W = quotient_mono _ _ W pos (mul-le-mul_left pot (omega arith)) in
      subst (λ k. sum_by holds (take k new) ≡ sum_by holds (take k old) + pot * upto weighs old k / W) (add-one i)
      (omega (arith, cents_upto i (omega arith), sum_by_more holds new i d (omega arith), sum_by_more holds old i d lt, adds _ _ _ (exact i lt d)))

  pub spread_from_exact : W ≡ sum_by weighs old → Spread weighs holds paid pot old new W
  spread_from_exact sum =
      let n = length old in
      let weight : upto weighs old n ≡ W = ap (sum_by weighs) (take_all n old (omega arith)) ∙ sym sum in
      let all : pot * upto weighs old n / W ≡ pot = ap (λ w. pot * w / W) weight ∙ mul-div_cancel pot pos in
      record {
        long = long;
        exact = exact;
        whole = omega (arith, cents_upto n (omega arith), all, ap (sum_by holds) (take_all n old (omega arith)), ap (sum_by holds) (take_all n new (omega arith)));
        fair = λ i lt d.
            let v = upto weighs old i in
            let h = weighs (get_or old i d) in
            (share pot W v (upto weighs old (i + 1)), exact i lt d, subst (λ w. Fair pot W h (share pot W v w)) (sym (sum_by_more weighs old i d lt)) (share_fair pot W v h pos));
      }
