-- Tests, sums over sets of sub-types, and what a reach keeps: it grows with the set, and by less on a larger set.
use Rattle.std.proofs.Common.{◌≡◌, ℕ, zero, suc, ◌+◌, ◌-◌, ◌<◌, ◌≤◌, Bool, true, false, cond, not, ◌&&◌, ◌||◌, T, eqb, ◌⊎◌, List, [], ◌∷◌, sym, refl, ap, ◌∙◌, subst, inl, inr, arith, eqb→eq, eq-eqb}
use borrow.Author.Tests.{apart_eqb}
use Rattle.least.specs.Sources.{Set, sum_in, Source, reach, reach_all, hit, low}

-- no test both fails and holds
pub no_both : (b : Bool) → T (not b) → T b → ⊥
no_both true s t = s
no_both false s t = t

-- numbers that the test tells apart
pub apart : (a b : ℕ) → T (not (eqb a b)) → a ≡ b → ⊥
apart a b t e = subst (λ (c : Bool). T (not c)) (eq-eqb a b e) t

-- what holds at each of the nine sub-types
pub at_nine : (P : ℕ → Type 0) → P 0 → P 1 → P 2 → P 3 → P 4 → P 5 → P 6 → P 7 → P 8 → (j : ℕ) → j < 9 → P j
at_nine P a b c d e f g h i zero lt = a
at_nine P a b c d e f g h i (suc zero) lt = b
at_nine P a b c d e f g h i (suc (suc zero)) lt = c
at_nine P a b c d e f g h i (suc (suc (suc zero))) lt = d
at_nine P a b c d e f g h i (suc (suc (suc (suc zero)))) lt = e
at_nine P a b c d e f g h i (suc (suc (suc (suc (suc zero))))) lt = f
at_nine P a b c d e f g h i (suc (suc (suc (suc (suc (suc zero)))))) lt = g
at_nine P a b c d e f g h i (suc (suc (suc (suc (suc (suc (suc zero))))))) lt = h
at_nine P a b c d e f g h i (suc (suc (suc (suc (suc (suc (suc (suc zero)))))))) lt = i
at_nine P a b c d e f g h i (suc (suc (suc (suc (suc (suc (suc (suc (suc j))))))))) lt = absurd (omega arith)

pub cond_le : (b : Bool) (a : ℕ) → cond b a 0 ≤ a
cond_le true a = omega arith
cond_le false a = omega arith

-- union and intersection of sets
infixl 60 ◌∪◌
infixl 65 ◌∩◌
abbrev pub ◌∪◌ : Set → Set → Set
◌∪◌ A B k = A k || B k

abbrev pub ◌∩◌ : Set → Set → Set
◌∩◌ A B k = A k && B k

-- each member of A below n is in B
abbrev pub Below : ℕ → Set → Set → Type 0
Below n A B = (k : ℕ) → k < n → T (A k) → T (B k)

pub bcase : {G : Type 0} (b : Bool) → (T b → G) → (T (not b) → G) → G
bcase true f g = f tt
bcase false f g = g tt

pub cond_yes : (b : Bool) (x y : ℕ) → T b → cond b x y ≡ x
cond_yes true x y t = refl
cond_yes false x y t = absurd t

pub cond_no : (b : Bool) (x y : ℕ) → T (not b) → cond b x y ≡ y
cond_no true x y t = absurd t
cond_no false x y t = refl

cond_mono : (a b : Bool) (x : ℕ) → (T a → T b) → cond a x 0 ≤ cond b x 0
cond_mono true true x h = omega arith
cond_mono true false x h = absurd (h tt)
cond_mono false true x h = omega arith
cond_mono false false x h = omega arith

cond_mod : (a b : Bool) (x : ℕ) → cond (a || b) x 0 + cond (a && b) x 0 ≡ cond a x 0 + cond b x 0
cond_mod true true x = refl
cond_mod true false x = refl
cond_mod false true x = omega arith
cond_mod false false x = refl

pub sum_in_pt : (n : ℕ) (A B : Set) (f : ℕ → ℕ) → ((k : ℕ) → k < n → cond (A k) (f k) 0 ≤ cond (B k) (f k) 0) → sum_in n A f ≤ sum_in n B f
sum_in_pt zero A B f h = omega arith
sum_in_pt (suc n) A B f h = omega (arith, sum_in_pt n A B f (λ k lt. h k (omega arith)), h n (omega arith))

-- a sum grows with the set
pub sum_in_mono : (n : ℕ) (A B : Set) (f : ℕ → ℕ) → Below n A B → sum_in n A f ≤ sum_in n B f
sum_in_mono n A B f h = sum_in_pt n A B f (λ k lt. cond_mono (A k) (B k) (f k) (h k lt))

pub sum_in_mod : (n : ℕ) (A B : Set) (f : ℕ → ℕ) → sum_in n (A ∪ B) f + sum_in n (A ∩ B) f ≡ sum_in n A f + sum_in n B f
sum_in_mod zero A B f = refl
sum_in_mod (suc n) A B f = omega (arith, sum_in_mod n A B f, cond_mod (A n) (B n) (f n))

cond_sub : (b : Bool) (x y : ℕ) → y ≤ x → cond b (x - y) 0 + cond b y 0 ≡ cond b x 0
cond_sub true x y h = omega arith
cond_sub false x y h = refl

-- a sum of differences
pub sum_in_sub : (n : ℕ) (A : Set) (f h : ℕ → ℕ) → ((k : ℕ) → h k ≤ f k) → sum_in n A (λ k. f k - h k) + sum_in n A h ≡ sum_in n A f
sum_in_sub zero A f h le = refl
sum_in_sub (suc n) A f h le = omega (arith, sum_in_sub n A f h le, cond_sub (A n) (f n) (h n) (le n))

pub cond_zero : (b : Bool) (x : ℕ) → x ≡ 0 → cond b x 0 ≡ 0
cond_zero true x e = e
cond_zero false x e = refl

pub hit_at : (k j d : ℕ) → k ≡ j → hit j d k ≡ d
hit_at k j d e = ap (λ (b : Bool). cond b d 0) (eq-eqb k j e)

pub hit_off : (k j d : ℕ) → (k ≡ j → ⊥) → hit j d k ≡ 0
hit_off k j d e = ap (λ (b : Bool). cond b d 0) (apart_eqb k j e)

pub hit_le : (f : ℕ → ℕ) (j d : ℕ) → d ≤ f j → (k : ℕ) → hit j d k ≤ f k
hit_le f j d le k = bcase (eqb k j)
    (λ t. subst (λ (m : ℕ). hit j d m ≤ f m) (sym (eqb→eq k j t)) (omega (arith, hit_at j j d refl)))
    (λ t. omega (arith, cond_no (eqb k j) d 0 t))

sum_in_hit_off : (n : ℕ) (A : Set) (j d : ℕ) → n ≤ j → sum_in n A (hit j d) ≡ 0
sum_in_hit_off zero A j d le = refl
sum_in_hit_off (suc n) A j d le =
    omega (arith, sum_in_hit_off n A j d (omega arith), cond_zero (A n) (hit j d n) (hit_off n j d (λ e. omega arith)))

pub sum_in_hit : (n : ℕ) (A : Set) (j d : ℕ) → j < n → sum_in n A (hit j d) ≡ cond (A j) d 0
sum_in_hit zero A j d lt = omega arith
sum_in_hit (suc n) A j d lt = bcase (eqb n j)
    (λ t. let e : n ≡ j = eqb→eq n j t in
    let at : cond (A n) (hit j d n) 0 ≡ cond (A j) d 0 = ap (λ (x : ℕ). cond (A n) x 0) (hit_at n j d e) ∙ ap (λ (m : ℕ). cond (A m) d 0) e in
    omega (arith, sum_in_hit_off n A j d (omega arith), at))
    (λ t. let z : cond (A n) (hit j d n) 0 ≡ 0 = cond_zero (A n) (hit j d n) (cond_no (eqb n j) d 0 t) in
    omega (arith, sum_in_hit n A j d (omega (arith, apart n j t)), z))

-- what is left of a sum when d is taken at place j
pub sum_in_low : (n : ℕ) (A : Set) (f : ℕ → ℕ) (j d : ℕ) → j < n → d ≤ f j → sum_in n A (low f j d) + cond (A j) d 0 ≡ sum_in n A f
sum_in_low n A f j d lt le =
    omega (arith, sum_in_sub n A f (hit j d) (hit_le f j d le), sum_in_hit n A j d lt)

-- a member is at most the sum
pub getsum : (n : ℕ) (A : Set) (f : ℕ → ℕ) (j : ℕ) → j < n → T (A j) → f j ≤ sum_in n A f
getsum n A f j lt t = omega (arith, sum_in_low n A f j (f j) lt (omega arith), cond_yes (A j) (f j) 0 t)

-- what a bounded sum keeps: it grows with the set, and by less on a larger set
pub record Sub (n : ℕ) (R : Set → ℕ) : Type 0 where
  pub mono : (A B : Set) → Below n A B → R A ≤ R B
  pub subm : (A B : Set) → R (A ∪ B) + R (A ∩ B) ≤ R A + R B

pub and_left : (a b : Bool) → T (a && b) → T a
and_left true b t = tt
and_left false b t = t

pub and_right : (a b : Bool) → T (a && b) → T b
and_right true b t = t
and_right false b t = absurd t

pub and_both : (a b : Bool) → T a → T b → T (a && b)
and_both true b s t = t
and_both false b s t = s

pub or_left : (a b : Bool) → T a → T (a || b)
or_left true b t = tt
or_left false b t = absurd t

pub or_right : (a b : Bool) → T b → T (a || b)
or_right true b t = tt
or_right false b t = t

pub or_split : (a b : Bool) → T (a || b) → T a ⊎ T b
or_split true b t = inl tt
or_split false b t = inr t

pub or_neither : (a b : Bool) → T (not a) → T (not b) → T (not (a || b))
or_neither true b s t = s
or_neither false b s t = t

pub reach_sub : (n : ℕ) (l : Source) → Sub n (reach n l)
reach_sub n l = record {
  mono = λ A B h. omega (arith, sum_in_mono n A B l.capability h);
  subm = λ A B. omega (
    arith,
    sum_in_mod n A B l.capability,
    sum_in_mono n (A ∩ B) A l.capability (λ k lt t. and_left (A k) (B k) t),
    sum_in_mono n (A ∩ B) B l.capability (λ k lt t. and_right (A k) (B k) t),
  );
}

pub add_sub : (n : ℕ) (R S : Set → ℕ) → Sub n R → Sub n S → Sub n (λ A. R A + S A)
add_sub n R S hr hs = record {
  mono = λ A B h. omega (arith, hr.mono A B h, hs.mono A B h);
  subm = λ A B. omega (arith, hr.subm A B, hs.subm A B);
}

pub zero_sub : (n : ℕ) → Sub n (λ A. 0)
zero_sub n = record { mono = λ A B h. omega arith; subm = λ A B. omega arith }

pub reach_all_sub : (n : ℕ) (ls : List Source) → Sub n (reach_all n ls)
reach_all_sub n [] = zero_sub n
reach_all_sub n (l ∷ ls) = add_sub n (reach n l) (reach_all n ls) (reach_sub n l) (reach_all_sub n ls)
