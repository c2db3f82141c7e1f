-- Lists of rows: maps that agree, sums over them, and what a division leaves as it was.
use Rattle.std.proofs.Common.{◌≡◌, ℕ, ◌+◌, ◌<◌, ◌≤◌, Bool, true, false, cond, List, [], ◌∷◌, ◌++◌, map, length, take, drop, sum_by, filter, sym, refl, ap, ◌∙◌, inl, inr, arith}
use Rattle.std.specs.List.{AllByRecursion}
use Rattle.std.proofs.lemmas.List.{same_lists, length-map, get_or-map, take_at, length-take-le}
use Rattle.std.proofs.lemmas.List.Sums.{sum_by-cons}
use Rattle.std.proofs.lemmas.Bool.{cases_lt}
use Rattle.rows.specs.Rows.{PlainQse, PlainLoad, PlainResource, PlainTrade}
use Rattle.account.specs.Own.{PlainTables, own_of, qse_own, owns_load}
use Rattle.division.specs.Division.{Divided}
use Rattle.shortfall.specs.Pool.{owns}

pub map_same : {X Y : Type 0} (f g : X → Y) → ((x : X) → f x ≡ g x) → (xs : List X) → map f xs ≡ map g xs
map_same f g same [] = refl
map_same f g same (x ∷ xs) = ap (λ y. y ∷ map f xs) (same x) ∙ ap (λ l. g x ∷ l) (map_same f g same xs)

pub map_twice : {X Y Z : Type 0} (g : Y → Z) (f : X → Y) (xs : List X) → map g (map f xs) ≡ map (λ x. g (f x)) xs
map_twice g f [] = refl
map_twice g f (x ∷ xs) = ap (λ l. g (f x) ∷ l) (map_twice g f xs)

pub all_unmap : {X Y : Type 0} (P : Y → Type 0) (f : X → Y) (xs : List X) → AllByRecursion P (map f xs) → AllByRecursion (λ x. P (f x)) xs
all_unmap P f [] h = tt
all_unmap P f (x ∷ xs) h = (h.0, all_unmap P f xs h.1)

pub sum_agree : {X : Type 0} (f g : X → ℕ) (xs : List X) → AllByRecursion (λ x. f x ≡ g x) xs → sum_by f xs ≡ sum_by g xs
sum_agree f g [] h = refl
sum_agree f g (x ∷ xs) h = omega (arith, sum_by-cons f x xs, sum_by-cons g x xs, h.0, sum_agree f g xs h.1)

-- the first n rows replaced, and the others as they were
pub front_of : {X : Type 0} (n : ℕ) (qs ys : List X) → n ≤ length qs → length ys ≡ length (take n qs) → take n (ys ++ drop n qs) ≡ ys
front_of n qs ys le long = take_at ys (drop n qs) n (long ∙ length-take-le n qs le)

module _ {X Y : Type 0} (weighs holds : X → ℕ) (paid : X → ℕ → X → Type 0) (f : X → Y) (unpaid : (x : X) (n : ℕ) (y : X) → paid x n y → f y ≡ f x) (z : X) (pot : ℕ) (old new : List X) (divided : Divided weighs holds paid pot old new pot) where
  -- what a payment does not touch is as it was in every row
  pub rest_kept : map f new ≡ map f old
  rest_kept = elim (cases_lt 0 (sum_by weighs old)) [
    | inl some ↦ (let s = divided.spread some in
        same_lists (map f new) (map f old) (length-map new f ∙ s.long ∙ sym (length-map old f)) (λ k d h.
        let lt : k < length new = omega (arith, h, length-map new f) in
        let lt' : k < length old = omega (arith, lt, s.long) in
        get_or-map f new k z d lt ∙ unpaid _ _ _ (s.exact k lt' z) ∙ sym (get_or-map f old k z d lt')))
    | inr none ↦ ap (map f) (divided.idle (omega arith)).same
  ]

module _ {X : Type 0} (weighs holds : X → ℕ) (paid : X → ℕ → X → Type 0) (pot : ℕ) (old new : List X) (divided : Divided weighs holds paid pot old new pot) where
  -- the pot is on the rows
  pub pot_put : sum_by holds new ≡ sum_by holds old + pot
  pot_put = elim (cases_lt 0 (sum_by weighs old)) [
    | inl some ↦ (divided.spread some).whole
    | inr none ↦ (let i = divided.idle (omega arith) in omega (arith, ap (sum_by holds) i.same, i.none))
  ]

-- a load without its cents
abbrev pub bare_load : PlainLoad → PlainLoad
bare_load l = record { qse = l.qse; point = l.point; kwh = l.kwh; cents = 0 }

-- a QSE without its cents
abbrev pub bare_qse : PlainQse → PlainQse
bare_qse x = record { number = x.number; figures = x.figures; shortfall = x.shortfall; cents = 0 }

own_loads : (q : ℕ) (ls : List PlainLoad) → map (λ l. l.kwh) (filter (owns_load q) (map bare_load ls)) ≡ map (λ l. l.kwh) (filter (owns_load q) ls)
own_loads q [] = refl
own_loads q (l ∷ ls) =
    let K = filter (owns_load q) ls in
    let B = filter (owns_load q) (map bare_load ls) in
    let here : (b : Bool) → map (λ l. l.kwh) (cond b (bare_load l ∷ B) B) ≡ map (λ l. l.kwh) (cond b (l ∷ K) K) =
    λ b. elim b as (λ b. map (λ l. l.kwh) (cond b (bare_load l ∷ B) B) ≡ map (λ l. l.kwh) (cond b (l ∷ K) K)) [ true ↦ ap (λ k. l.kwh ∷ k) (own_loads q ls) | false ↦ own_loads q ls ] in
    here (owns_load q l)

-- the rows of a QSE are the same in tables that differ in cents alone
pub same_own : (t t' : PlainTables) → map bare_load t'.loads ≡ map bare_load t.loads → t'.resources ≡ t.resources → t'.trades ≡ t.trades → (x : PlainQse) → qse_own x t' ≡ qse_own x t
same_own t t' ls rs ts x =
    let q = x.number in
    let kwh : List PlainLoad → List ℕ = λ l. map (λ y. y.kwh) (filter (owns_load q) l) in
    let loads : kwh t'.loads ≡ kwh t.loads = sym (own_loads q t'.loads) ∙ ap kwh ls ∙ own_loads q t.loads in
    ap (λ (l : List ℕ). let o = qse_own x t' in record { number = o.number; figures = o.figures; loads = l; resources = o.resources; trades = o.trades }) loads
    ∙ ap (λ (l : List PlainResource). let o = own_of q x.figures (record { loads = t.loads; resources = l; trades = t'.trades }) in o) rs
    ∙ ap (λ (l : List PlainTrade). own_of q x.figures (record { loads = t.loads; resources = t.resources; trades = l })) ts

-- rows that differ in cents alone have the same rows of their QSEs
pub same_owns : (t : PlainTables) (xs ys : List PlainQse) → map bare_qse ys ≡ map bare_qse xs → owns t ys ≡ owns t xs
same_owns t xs ys e = sym (map_twice (λ q. qse_own q t) bare_qse ys) ∙ ap (owns t) e ∙ map_twice (λ q. qse_own q t) bare_qse xs
