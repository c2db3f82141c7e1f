-- The cover, line after line: the lines done are served, and those to do, with the budget, cover what is left.
use Rattle.std.proofs.Common.{◌≡◌, ℕ, zero, suc, ◌+◌, ◌-◌, ◌/◌, ◌%◌, ◌<◌, ◌≤◌, min, Bool, true, false, cond, ltb, List, [], ◌∷◌, ◌++◌, map, length, get_or, take, drop, set, filter, sym, refl, ap, ◌∙◌, subst, ⊎_elim, add-one, arith, lit<, le→leb, length-append, length-set, take_all, drop-cons, take-suc, take-suc-set, drop-set-lt}
use lib.ListN.{length-map}
use lib.Seq.{drop-length}
use Rattle.std.proofs.lemmas.Bool.{cases_lt}
use Rattle.rows.specs.Rows.{plain_resource}
use Rattle.rows.specs.declared.resource.ResourceRow.{ResourceRow}
use Rattle.account.specs.View.{View}
use Rattle.account.specs.Lines.{line_of, lines_on}
use Rattle.account.specs.Own.{owns_resource}
use Rattle.account.specs.Account.{account_view, IsLine}
use Rattle.account.specs.declared.account.Account.{Account}
use Rattle.account.specs.declared.line.Line.{Line as LineRow}
use Rattle.least.specs.Sources.{Set, sum_in, Source, reach, reach_all, Hall}
use Rattle.least.specs.Cover.{sum_below, Amounts, taken, Fits, FitsAll, got, got_all, Cover, greatest_lack, Pair}
use Rattle.least.specs.Chains.{mem}
use Rattle.least.proofs.Base.{cond_yes}
use Rattle.least.proofs.Duality.{sum_below_add, sum_below_cong, budget, some_or_none}
use Rattle.least.proofs.Nine.{lack_all, pair_trans, pair_refl}
use Rattle.cover.specs.Sets.{sum_to, lack_to, Under}
use Rattle.cover.specs.Amounts.{at, source_by, Table, amounts_of, amounts_all, Served}
use Rattle.least.specs.SubType.{source, sources, demand, LeastUncovered}
use Rattle.cover.specs.Covered.{CoveredBy}
use Rattle.cover.proofs.SetSums.{sum_same}
use Rattle.cover.proofs.ReachSums.{under_all, lack_is, reserve_is, least_is}

-- what the budget reaches
first_zero : (x : ℕ) → cond (ltb 0 x) 1 0 ≡ zero → x ≡ 0
first_zero zero e = refl
first_zero (suc x) e = absurd (omega (arith, e, cond_yes (ltb 0 (suc x)) 1 0 (le→leb 1 (suc x) (omega arith))))

empty_only : (k : ℕ) → k < 144 → sum_in 9 (mem k) (λ j. 1) ≡ 0 → k ≡ 0
unfolding mem
empty_only k lk e = digits k lk (first_zero (k % 2) parts.0) (first_zero (k / 2 % 2) parts.1) (first_zero (k / 4 % 4) parts.2) (first_zero (k / 16 % 3) parts.3) (first_zero (k / 48 % 3) parts.4)
  where
    small2 : (x : ℕ) → x < 2 → x % 2 ≡ 0 → x ≡ 0
    small2 x h e = omega arith

    small3 : (x : ℕ) → x < 3 → x % 3 ≡ 0 → x ≡ 0
    small3 x h e = omega arith

    small4 : (x : ℕ) → x < 4 → x % 4 ≡ 0 → x ≡ 0
    small4 x h e = omega arith

    digits : (k : ℕ) → k < 144 → k % 2 ≡ 0 → k / 2 % 2 ≡ 0 → k / 4 % 4 ≡ 0 → k / 16 % 3 ≡ 0 → k / 48 % 3 ≡ 0 → k ≡ 0
    digits k lk a b c d e =
        let h48 : k / 48 ≡ 0 = small3 (k / 48) (omega arith) e in
        let h16 : k / 16 ≡ 0 = small3 (k / 16) (omega arith) d in
        let h4 : k / 4 ≡ 0 = small4 (k / 4) (omega arith) c in
        let h2 : k / 2 ≡ 0 = small2 (k / 2) (omega arith) b in
        small2 k (omega arith) a

    nine : (a b c d e f g h i : ℕ) → 0 + a + b + c + d + e + f + g + h + i ≡ 0 → (a ≡ 0) × (b ≡ 0) × (c ≡ 0) × (f ≡ 0) × (h ≡ 0)
    nine a b c d e f g h i z = (omega arith, omega arith, omega arith, omega arith, omega arith)

    parts : (cond (ltb 0 (k % 2)) 1 0 ≡ zero) × (cond (ltb 0 (k / 2 % 2)) 1 0 ≡ zero) × (cond (ltb 0 (k / 4 % 4)) 1 0 ≡ zero) × (cond (ltb 0 (k / 16 % 3)) 1 0 ≡ zero) × (cond (ltb 0 (k / 48 % 3)) 1 0 ≡ zero)
    parts = nine _ _ _ _ _ _ _ _ _ e

budget_none : (u : ℕ) → reach 9 (budget 9 Pair u) (mem 0) ≡ 0
unfolding mem
budget_none u = omega arith

budget_some : (u k : ℕ) → k < 144 → 0 < k → reach 9 (budget 9 Pair u) (mem k) ≡ u
budget_some u k lk pos = ⊎_elim (λ h. least u (sum_in 9 (mem k) (λ j. u)) h) (λ z. let no : ⊥ = omega (arith, empty_only k lk z) in absurd no) (some_or_none 9 Pair 9 u (mem k) (λ j. 1))
  where
    least : (u x : ℕ) → u ≤ x → min u x ≡ u
    least u x h = omega arith

-- lists that grow at the end
fits_more : (n : ℕ) (E : ℕ → ℕ → Bool) (ls : List Source) (xs : List Amounts) (l : Source) (x : Amounts) → FitsAll n E ls xs → Fits n E l x → FitsAll n E (ls ++ (l ∷ [])) (xs ++ (x ∷ []))
fits_more n E [] [] l x f g = (g, tt)
fits_more n E [] (y ∷ xs) l x f g = absurd f
fits_more n E (k ∷ ls) [] l x f g = absurd f
fits_more n E (k ∷ ls) (y ∷ xs) l x f g = (f.0, fits_more n E ls xs l x f.1 g)

got_more : (n : ℕ) (E : ℕ → ℕ → Bool) (xs : List Amounts) (x : Amounts) (q : ℕ) → got_all n E (xs ++ (x ∷ [])) q ≡ got_all n E xs q + got n E x q
got_more n E [] x q = omega arith
got_more n E (y ∷ xs) x q = omega (arith, got_more n E xs x q)

amounts_all-++ : (a b : List (List ℕ)) → amounts_all (a ++ b) ≡ amounts_all a ++ amounts_all b
amounts_all-++ [] b = refl
amounts_all-++ (r ∷ a) b = ap (λ (x : List Amounts). amounts_of r ∷ x) (amounts_all-++ a b)

amounts_next : (out : List (List ℕ)) (i : ℕ) (row : List ℕ) → i < length out → amounts_all (take (i + 1) (set out i row)) ≡ amounts_all (take i out) ++ (amounts_of row ∷ [])
amounts_next out i row lt = ap (λ (m : ℕ). amounts_all (take m (set out i row))) (add-one i) ∙ ap amounts_all (take-suc-set out i row lt) ∙ amounts_all-++ (take i out) (row ∷ [])

all_below : (n : ℕ) (f : ℕ → ℕ) → sum_in n (λ k. true) f ≡ sum_below n f
all_below zero f = refl
all_below (suc n) f = omega (arith, all_below n f)

-- the sources of the account's rows among some
abbrev owned : Account → List ResourceRow → List Source
owned a rs = sources (lines_on a.side (filter (owns_resource a.qse) (map plain_resource rs)))

abbrev source_at : Account → ResourceRow → Source
source_at a r = source (line_of a.side (plain_resource r))

owned_is : (a : Account) (r : ResourceRow) (rs : List ResourceRow) → owned a (r ∷ rs) ≡ cond (owns_resource a.qse (plain_resource r)) (source_at a r ∷ owned a rs) (owned a rs)
owned_is a r rs = pick (owns_resource a.qse (plain_resource r))
  where
    pick : (t : Bool) → sources (lines_on a.side (cond t (plain_resource r ∷ filter (owns_resource a.qse) (map plain_resource rs)) (filter (owns_resource a.qse) (map plain_resource rs)))) ≡ cond t (source_at a r ∷ owned a rs) (owned a rs)
    pick true = refl
    pick false = refl

owned_append : (a : Account) (xs ys : List ResourceRow) → owned a (xs ++ ys) ≡ owned a xs ++ owned a ys
owned_append a [] ys = refl
owned_append a (r ∷ xs) ys =
    owned_is a r (xs ++ ys) ∙ pick (owns_resource a.qse (plain_resource r)) (source_at a r) (owned a (xs ++ ys)) (owned a xs) (owned a ys) (owned_append a xs ys)
    ∙ ap (λ (w : List Source). w ++ owned a ys) (sym (owned_is a r xs))
  where
    pick : (t : Bool) (l : Source) (x y z : List Source) → x ≡ y ++ z → cond t (l ∷ x) x ≡ cond t (l ∷ y) y ++ z
    pick true l x y z e = ap (λ (w : List Source). l ∷ w) e
    pick false l x y z e = e

append_nil : (xs : List Source) → xs ++ [] ≡ xs
append_nil [] = refl
append_nil (x ∷ xs) = ap (λ (w : List Source). x ∷ w) (append_nil xs)

module _ (a : Account) (rows : List ResourceRow) (i : ℕ) (d : ResourceRow) (lt : i < length rows) (read : d ≡ get_or rows i d) where
  took : owned a (take (i + 1) rows) ≡ owned a (take i rows) ++ owned a (d ∷ [])
  took =
      ap (λ (m : ℕ). owned a (take m rows)) (add-one i) ∙ ap (owned a) (take-suc rows i d lt) ∙ owned_append a (take i rows) (get_or rows i d ∷ [])
      ∙ ap (λ (r : ResourceRow). owned a (take i rows) ++ owned a (r ∷ [])) (sym read)

  left_rows : owned a (drop i rows) ≡ owned a (d ∷ drop (i + 1) rows)
  left_rows = ap (owned a) (drop-cons rows i d lt) ∙ ap (λ (m : ℕ). owned a (get_or rows i d ∷ drop m rows)) (sym (add-one i)) ∙ ap (λ (r : ResourceRow). owned a (r ∷ drop (i + 1) rows)) (sym read)

  module _ (own : owns_resource a.qse (plain_resource d) ≡ true) where
    one : (rs : List ResourceRow) → owned a (d ∷ rs) ≡ source_at a d ∷ owned a rs
    one rs = owned_is a d rs ∙ ap (λ (t : Bool). cond t (source_at a d ∷ owned a rs) (owned a rs)) own

    took_one : owned a (take (i + 1) rows) ≡ owned a (take i rows) ++ (source_at a d ∷ [])
    took_one = took ∙ ap (λ (w : List Source). owned a (take i rows) ++ w) (one [])

    left_one : owned a (drop i rows) ≡ source_at a d ∷ owned a (drop (i + 1) rows)
    left_one = left_rows ∙ one (drop (i + 1) rows)

  module _ (other : owns_resource a.qse (plain_resource d) ≡ false) where
    none : (rs : List ResourceRow) → owned a (d ∷ rs) ≡ owned a rs
    none rs = owned_is a d rs ∙ ap (λ (t : Bool). cond t (source_at a d ∷ owned a rs) (owned a rs)) other

    took_none : owned a (take (i + 1) rows) ≡ owned a (take i rows)
    took_none = took ∙ ap (λ (w : List Source). owned a (take i rows) ++ w) (none []) ∙ append_nil (owned a (take i rows))

    left_none : owned a (drop i rows) ≡ owned a (drop (i + 1) rows)
    left_none = left_rows ∙ none (drop (i + 1) rows)

-- the lines done are served, those to do and the budget cover what is left of the positions p
pub record Covers (u : ℕ) (done todo : List Source) (p : ℕ → ℕ) (rest left : List ℕ) (xs : List Amounts) : Type 0 where
  pub table : Table rest (budget 9 Pair u ∷ todo)
  pub long : length rest ≡ 144
  pub small : Under 70000000000 rest
  pub hall : Hall 9 Pair (reach_all 9 (budget 9 Pair u ∷ todo)) (at left)
  pub fits : FitsAll 9 Pair done xs
  pub gets : (q : ℕ) → q < 9 → got_all 9 Pair xs q + at left q ≡ p q

covers_none : (u : ℕ) (ls : List Source) (p : ℕ → ℕ) (left tab rest : List ℕ) → Table tab ls → Under 15360000000 tab → ((k : ℕ) → k < 9 → at left k ≡ p k) → u ≡ lack_to 144 tab left → u ≤ 46170000000
    → length rest ≡ 144 → get_or rest 0 0 ≡ get_or tab 0 0 → ((k : ℕ) → k < 144 → 0 < k → get_or rest k 0 ≡ get_or tab k 0 + u) → Covers u [] ls p rest left []
covers_none u ls p left tab rest t few agree e le len none more =
    let w : u ≡ greatest_lack 9 Pair ls p = lack_is ls tab left p u t agree e in
    record {
      table = λ k lk. ⊎_elim
          (λ pos. add (get_or rest k 0) (get_or tab k 0) u _ _ (more k lk pos) (t k lk) (budget_some u k lk pos))
          (λ z. subst (λ (i : ℕ). get_or rest i 0 ≡ reach_all 9 (budget 9 Pair u ∷ ls) (mem i)) (sym (is_zero k z)) (add0 (get_or rest 0 0) (get_or tab 0 0) _ _ none (t 0 (lit< tt)) (budget_none u)))
          (cases_lt 0 k);
      long = len;
      small = under_all rest 144 70000000000 len (λ k lk. ⊎_elim (λ pos. far (get_or rest k 0) (get_or tab k 0) u (more k lk pos) (few k) le)
          (λ z. subst (λ (i : ℕ). get_or rest i 0 ≤ 70000000000) (sym (is_zero k z)) (far0 (get_or rest 0 0) (get_or tab 0 0) none (few 0))) (cases_lt 0 k));
      hall = λ A cl. ⊎_elim
          (λ s. join (sum_in 9 A (at left)) (sum_in 9 A p) (reach_all 9 ls A) (greatest_lack 9 Pair ls p) u (sum_in 9 A (λ k. u)) (sum_same A (at left) p agree) (lack_all 9 Pair pair_trans pair_refl ls p A cl) w s)
          (λ s. under (sum_in 9 A (at left)) _ s) (some_or_none 9 Pair 9 u A (at left));
      fits = tt;
      gets = λ q lq. same0 (at left q) (p q) (agree q lq);
    }
  where
    add : (r t u b a : ℕ) → r ≡ t + u → t ≡ a → b ≡ u → r ≡ b + a
    add r t u b a e f g = omega arith

    add0 : (r t b a : ℕ) → r ≡ t → t ≡ a → b ≡ 0 → r ≡ b + a
    add0 r t b a e f g = omega arith

    is_zero : (k : ℕ) → k ≤ 0 → k ≡ 0
    is_zero k h = omega arith

    far : (r t u : ℕ) → r ≡ t + u → t ≤ 15360000000 → u ≤ 46170000000 → r ≤ 70000000000
    far r t u e h g = omega arith

    far0 : (r t : ℕ) → r ≡ t → t ≤ 15360000000 → r ≤ 70000000000
    far0 r t e h = omega arith

    same0 : (a b : ℕ) → a ≡ b → 0 + a ≡ b
    same0 a b e = omega arith

    join : (m m' r w u s : ℕ) → m ≡ m' → m' ≤ r + w → u ≡ w → u ≤ s → m ≤ min u s + r
    join m m' r w u s e' h e g = omega arith

    under : (m x : ℕ) → m ≡ 0 → m ≤ x
    under m x e = omega arith

-- the code's line r stands for the source m
module _ (u : ℕ) (done todo : List Source) (r : LineRow) (m : Source) (room : r.room ≡ m.room) (caps : (k : ℕ) → k < 9 → at r.capability k ≡ m.capability k)
    (p : ℕ → ℕ) (rest left : List ℕ) (xs : List Amounts) (c : Covers u done (m ∷ todo) p rest left xs) where
  abbrev l : Source
  l = source_by r.room r.capability

  same_reach : (A : Set) → reach 9 l A ≡ reach 9 m A
  same_reach A = two r.room m.room _ _ room (sum_same A (at r.capability) m.capability caps)
    where
      two : (a b x y : ℕ) → a ≡ b → x ≡ y → min a x ≡ min b y
      two a b x y e f = omega arith

  covers_enough : (k : ℕ) → k < 144 → min r.room (sum_to 9 k r.capability) ≤ get_or rest k 0
  unfolding sum_to
  covers_enough k lk = part (get_or rest k 0) (reach 9 (budget 9 Pair u) (mem k)) _ _ _ (same_reach (mem k)) (c.table k lk)
    where
      part : (r b l l' t : ℕ) → l ≡ l' → r ≡ b + (l' + t) → l ≤ r
      part r b l l' t s e = omega arith

  fits_source : (x : Amounts) → Fits 9 Pair l x → Fits 9 Pair m x
  fits_source x f = record {
    caps = λ j lj. subst (λ (n : ℕ). taken 9 Pair x j ≤ n) (caps j lj) (f.caps j lj);
    room = subst (λ (n : ℕ). sum_below 9 (taken 9 Pair x) ≤ n) room f.room;
  }

  covers_next : (rest' left' row : List ℕ) → length rest' ≡ 144
      → ((k : ℕ) → k < 144 → get_or rest' k 0 ≡ get_or rest k 0 - min r.room (sum_to 9 k r.capability))
      → Served rest' r.room r.capability left left' row → Covers u (done ++ (m ∷ [])) todo p rest' left' (xs ++ (amounts_of row ∷ []))
  unfolding sum_to
  covers_next rest' left' row len tk sv =
      let tab : Table rest' (budget 9 Pair u ∷ todo) = λ k lk. less' (get_or rest k 0) (get_or rest' k 0) (reach 9 (budget 9 Pair u) (mem k)) (reach 9 l (mem k)) (reach 9 m (mem k)) (reach_all 9 todo (mem k)) (same_reach (mem k)) (tk k lk) (c.table k lk) in
      record {
        table = tab;
        long = len;
        small = under_all rest' 144 70000000000 len (λ k lk. lower (get_or rest' k 0) (get_or rest k 0) _ (tk k lk) (c.small k));
        hall = sv.serves (budget 9 Pair u ∷ todo) tab (λ A cl. turn (sum_in 9 A (at left)) (reach 9 (budget 9 Pair u) A) (reach 9 l A) (reach 9 m A) (reach_all 9 todo A) (same_reach A) (c.hall A cl));
        fits = fits_more 9 Pair done xs m (amounts_of row) c.fits (fits_source (amounts_of row) sv.fits);
        gets = λ q lq. sum (got_all 9 Pair (xs ++ (amounts_of row ∷ [])) q) (got_all 9 Pair xs q) (got 9 Pair (amounts_of row) q) (at left' q) (at left q) (p q) (got_more 9 Pair xs (amounts_of row) q) (sv.gets q lq) (c.gets q lq);
      }
    where
      less' : (r r' b l l' t : ℕ) → l ≡ l' → r' ≡ r - l → r ≡ b + (l' + t) → r' ≡ b + t
      less' r r' b l l' t s e f = omega arith

      lower : (r' r l : ℕ) → r' ≡ r - l → r ≤ 70000000000 → r' ≤ 70000000000
      lower r' r l e h = omega arith

      turn : (m b l l' t : ℕ) → l ≡ l' → m ≤ b + (l' + t) → m ≤ l + (b + t)
      turn m b l l' t s h = omega arith

      sum : (a g x l' l p : ℕ) → a ≡ g + x → x + l' ≡ l → g + l ≡ p → a + l' ≡ p
      sum a g x l' l p e f h = omega arith

covers_end : (v : View) (u : ℕ) (p' tab rest left : List ℕ) (out out' : List (List ℕ)) → Table tab (sources v.lines) → ((k : ℕ) → k < 9 → at p' k ≡ demand v k) → u ≡ lack_to 144 tab p'
    → length v.lines ≤ length out → Covers u (sources v.lines) [] (demand v) rest left (amounts_all (take (length v.lines) out')) → drop (length v.lines) out' ≡ drop (length v.lines) out → CoveredBy v out out' u
covers_end v u p' tab rest left out out' t agree e space c kept =
    let p : ℕ → ℕ = demand v in
    let least : LeastUncovered v u = least_is v tab p' u t agree e in
    let xs : List Amounts = amounts_all (take (length v.lines) out') in
    let cov : Cover 9 Pair (sources v.lines) p xs = record { fits = c.fits; under = λ q lq. part (got_all 9 Pair xs q) (at left q) (p q) (c.gets q lq) } in
    let split : sum_below 9 (got_all 9 Pair xs) + sum_below 9 (at left) ≡ sum_below 9 p = sym (sum_below_add 9 (got_all 9 Pair xs) (at left)) ∙ sum_below_cong 9 (λ q. got_all 9 Pair xs q + at left q) p c.gets in
    record {
      space = space;
      covers = cov;
      total = total (sum_below 9 p) (sum_below 9 (got_all 9 Pair xs)) (sum_below 9 (at left)) (sum_in 9 (λ k. true) (at left)) u _ split (all_below 9 (at left)) (c.hall (λ k. true) (λ j q a b. tt)) (least.least xs cov);
      least = least;
      value = reserve_is v tab p' u t agree e;
      later = kept;
    }
  where
    part : (a b c : ℕ) → a + b ≡ c → a ≤ c
    part a b c e = omega arith

    total : (tp tg tl m u s : ℕ) → tg + tl ≡ tp → m ≡ tl → m ≤ min u s + 0 → u ≤ tp - tg → tp - tg ≡ u
    total tp tg tl m u s e f h g = omega arith

-- the loop: i rows passed, n of them the account's
pub record Filing (i n u : ℕ) (a : Account) (rest left : List ℕ) (out out' : List (List ℕ)) : Type 0 where
  pub covers : Covers u (owned a (take i a.resources.now)) (owned a (drop i a.resources.now)) (demand (account_view a)) rest left (amounts_all (take n out'))
  pub count : n ≡ length (owned a (take i a.resources.now))
  pub total : length (owned a (take i a.resources.now)) + length (owned a (drop i a.resources.now)) ≡ length (account_view a).lines
  pub later : drop (length (account_view a).lines) out' ≡ drop (length (account_view a).lines) out
  pub space : length (account_view a).lines ≤ length out'

pub filing_none : (u : ℕ) (a : Account) (left tab rest : List ℕ) (out : List (List ℕ)) → Table tab (sources (account_view a).lines) → Under 15360000000 tab → ((k : ℕ) → k < 9 → at left k ≡ demand (account_view a) k)
    → u ≡ lack_to 144 tab left → u ≤ 46170000000 → length rest ≡ 144 → get_or rest 0 0 ≡ get_or tab 0 0 → ((k : ℕ) → k < 144 → 0 < k → get_or rest k 0 ≡ get_or tab k 0 + u) → length (account_view a).lines ≤ length out → Filing 0 0 u a rest left out out
filing_none u a left tab rest out t few agree e le len first more space = record {
  covers = covers_none u (sources (account_view a).lines) (demand (account_view a)) left tab rest t few agree e le len first more;
  count = refl;
  total = zero_plus _ _ (length-map (account_view a).lines source);
  later = refl;
  space = space;
}
  where
    zero_plus : (a b : ℕ) → a ≡ b → 0 + a ≡ b
    zero_plus a b e = omega arith

module _ (i n u : ℕ) (a : Account) (rest left : List ℕ) (out out' : List (List ℕ)) (f : Filing i n u a rest left out out')
    (d : ResourceRow) (lt : i < length a.resources.now) (read : d ≡ get_or a.resources.now i d) where
  abbrev rows : List ResourceRow
  rows = a.resources.now

  pub filing_skip : owns_resource a.qse (plain_resource d) ≡ false → Filing (i + 1) n u a rest left out out'
  filing_skip e =
      let p : ℕ → ℕ = demand (account_view a) in
      let x : owned a (take (i + 1) rows) ≡ owned a (take i rows) = took_none a rows i d lt read e in
      let y : owned a (drop i rows) ≡ owned a (drop (i + 1) rows) = left_none a rows i d lt read e in
      record {
        covers = subst (λ (ls : List Source). Covers u ls (owned a (drop (i + 1) rows)) p rest left (amounts_all (take n out'))) (sym x)
            (subst (λ (ls : List Source). Covers u (owned a (take i rows)) ls p rest left (amounts_all (take n out'))) y f.covers);
        count = f.count ∙ ap length (sym x);
        total = ap (λ (ls : List Source). length ls + length (owned a (drop (i + 1) rows))) x ∙ ap (λ (ls : List Source). length (owned a (take i rows)) + length ls) (sym y) ∙ f.total;
        later = f.later;
        space = f.space;
      }

  module _ (e : owns_resource a.qse (plain_resource d) ≡ true) (r : LineRow) (is : IsLine r (line_of a.side (plain_resource d))) where
    at_line : Covers u (owned a (take i rows)) (source_at a d ∷ owned a (drop (i + 1) rows)) (demand (account_view a)) rest left (amounts_all (take n out'))
    at_line = subst (λ (ls : List Source). Covers u (owned a (take i rows)) ls (demand (account_view a)) rest left (amounts_all (take n out'))) (left_one a rows i d lt read e) f.covers

    pub filing_enough : (k : ℕ) → k < 144 → min r.room (sum_to 9 k r.capability) ≤ get_or rest k 0
    filing_enough = covers_enough u (owned a (take i rows)) (owned a (drop (i + 1) rows)) r (source_at a d) is.room is.capability (demand (account_view a)) rest left (amounts_all (take n out')) at_line

    pub filing_room : n < length (account_view a).lines
    filing_room = below n (length (owned a (take i rows))) (length (owned a (drop i rows))) (length (owned a (drop (i + 1) rows))) (length (account_view a).lines) f.count (ap length (left_one a rows i d lt read e)) f.total
      where
        below : (n a b c t : ℕ) → n ≡ a → b ≡ suc c → a + b ≡ t → n < t
        below n a b c t e f g = omega arith

    pub filing_next : (rest' left' row : List ℕ) → length rest' ≡ 144
        → ((k : ℕ) → k < 144 → get_or rest' k 0 ≡ get_or rest k 0 - min r.room (sum_to 9 k r.capability))
        → Served rest' r.room r.capability left left' row → Filing (i + 1) (n + 1) u a rest' left' out (set out' n row)
    filing_next rest' left' row len tk sv =
        let p : ℕ → ℕ = demand (account_view a) in
        let lines : ℕ = length (account_view a).lines in
        let x : owned a (take (i + 1) rows) ≡ owned a (take i rows) ++ (source_at a d ∷ []) = took_one a rows i d lt read e in
        let y : owned a (drop i rows) ≡ source_at a d ∷ owned a (drop (i + 1) rows) = left_one a rows i d lt read e in
        let long : length (owned a (take (i + 1) rows)) ≡ length (owned a (take i rows)) + 1 = ap length x ∙ length-append (owned a (take i rows)) (source_at a d ∷ []) in
        record {
          covers = subst (λ (ls : List Source). Covers u ls (owned a (drop (i + 1) rows)) p rest' left' (amounts_all (take (n + 1) (set out' n row)))) (sym x)
              (subst (λ (xs : List Amounts). Covers u (owned a (take i rows) ++ (source_at a d ∷ [])) (owned a (drop (i + 1) rows)) p rest' left' xs)
              (sym (amounts_next out' n row (within n lines (length out') filing_room f.space)))
              (covers_next u (owned a (take i rows)) (owned a (drop (i + 1) rows)) r (source_at a d) is.room is.capability p rest left (amounts_all (take n out')) at_line rest' left' row len tk sv));
          count = plus n (length (owned a (take i rows))) (length (owned a (take (i + 1) rows))) f.count long;
          total = sums (length (owned a (take i rows))) (length (owned a (take (i + 1) rows))) (length (owned a (drop i rows))) (length (owned a (drop (i + 1) rows))) lines long (ap length y) f.total;
          later = drop-set-lt lines out' n row filing_room ∙ f.later;
          space = subst (λ (m : ℕ). lines ≤ m) (sym (length-set out' n row)) f.space;
        }
      where
        within : (i n m : ℕ) → i < n → n ≤ m → i < m
        within i n m h g = omega arith

        plus : (n a b : ℕ) → n ≡ a → b ≡ a + 1 → n + 1 ≡ b
        plus n a b e f = omega arith

        sums : (a a' b c t : ℕ) → a' ≡ a + 1 → b ≡ suc c → a + b ≡ t → a' + c ≡ t
        sums a a' b c t e f g = omega arith

pub filing_end : (i n u : ℕ) (a : Account) (p' tab rest left : List ℕ) (out out' : List (List ℕ)) → i ≤ length a.resources.now → length a.resources.now ≤ i → Table tab (sources (account_view a).lines)
    → ((k : ℕ) → k < 9 → at p' k ≡ demand (account_view a) k) → u ≡ lack_to 144 tab p' → length (account_view a).lines ≤ length out → Filing i n u a rest left out out' → CoveredBy (account_view a) out out' u
filing_end i n u a p' tab rest left out out' h1 h2 t agree e space f =
    let rows : List ResourceRow = a.resources.now in
    let p : ℕ → ℕ = demand (account_view a) in
    let x : owned a (take i rows) ≡ owned a rows = ap (owned a) (take_all i rows h2) in
    let y : owned a (drop i rows) ≡ [] = ap (λ (m : ℕ). owned a (drop m rows)) (both i (length rows) h1 h2) ∙ ap (owned a) (drop-length rows) in
    covers_end (account_view a) u p' tab rest left out out' t agree e space
    (subst (λ (m : ℕ). Covers u (owned a rows) [] p rest left (amounts_all (take m out'))) (f.count ∙ ap length x ∙ length-map (account_view a).lines source)
    (subst (λ (ls : List Source). Covers u (owned a rows) ls p rest left (amounts_all (take n out'))) y
    (subst (λ (ls : List Source). Covers u ls (owned a (drop i rows)) p rest left (amounts_all (take n out'))) x f.covers)))
    f.later
  where
    both : (a b : ℕ) → a ≤ b → b ≤ a → a ≡ b
    both a b h g = omega arith

pub filing_same : (i n n' u : ℕ) (a : Account) (rest rest' left left' : List ℕ) (out o o' : List (List ℕ)) → n' ≡ n → rest' ≡ rest → left' ≡ left → o' ≡ o
    → Filing i n u a rest left out o → Filing i n' u a rest' left' out o'
filing_same i n n' u a rest rest' left left' out o o' en er el eo f =
    subst (λ (x : ℕ). Filing i x u a rest' left' out o') (sym en)
    (subst (λ (x : List ℕ). Filing i n u a x left' out o') (sym er)
    (subst (λ (x : List ℕ). Filing i n u a rest x out o') (sym el)
    (subst (λ (x : List (List ℕ)). Filing i n u a rest left out x) (sym eo) f)))
