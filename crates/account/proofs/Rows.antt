-- Sums over rows: a loop's turn, and the rows of one QSE among all.
use Rattle.std.proofs.Common.{◌≡◌, ℕ, ◌+◌, ◌<◌, ◌≤◌, Bool, true, false, cond, ◌&&◌, ◌||◌, eqb, List, [], ◌∷◌, map, length, get_or, take, sum_by, filter, sym, refl, ap, ◌∙◌, arith, take_all}
use Rattle.std.proofs.lemmas.List.Sums.{sum_by-cons, sum_by_more}
use Rattle.rows.specs.Codes.{traded_sub}
use Rattle.rows.specs.Rows.{plain_trade}
use Rattle.rows.specs.declared.codes.Side.{Side}
use Rattle.rows.specs.declared.trade.TradeRow.{TradeRow}
use Rattle.account.specs.Own.{party_to, on_side, party_of, moved_in}
use Rattle.account.specs.declared.party.Party.{Party}
use Rattle.account.specs.declared.party.Party.TheVariants.{Seller, Buyer}

-- the sum over the rows that pass is a sum over all rows
pub sum_kept : {X Y : Type 0} (g : Y → ℕ) (f : X → Y) (p : X → Bool) (xs : List X) → sum_by g (map f (filter p xs)) ≡ sum_by (λ x. cond (p x) (g (f x)) 0) xs
sum_kept g f p [] = refl
sum_kept {X} {Y} g f p (x ∷ xs) =
    let K = filter p xs in
    let w : X → ℕ = λ y. cond (p y) (g (f y)) 0 in
    let here : (b : Bool) → sum_by g (map f (cond b (x ∷ K) K)) ≡ cond b (g (f x)) 0 + sum_by g (map f K) =
    λ b. elim b as (λ b. sum_by g (map f (cond b (x ∷ K) K)) ≡ cond b (g (f x)) 0 + sum_by g (map f K)) [ true ↦ sum_by-cons g (f x) (map f K) | false ↦ omega arith ] in
    here (p x) ∙ ap (λ n. cond (p x) (g (f x)) 0 + n) (sum_kept g f p xs) ∙ sym (sum_by-cons w x xs)

-- keeping plain rows is keeping rows
pub kept_map : {X Y : Type 0} (f : X → Y) (p : Y → Bool) (xs : List X) → filter p (map f xs) ≡ map f (filter (λ x. p (f x)) xs)
kept_map f p [] = refl
kept_map {X} {Y} f p (x ∷ xs) =
    let K = filter (λ x. p (f x)) xs in
    let here : (b : Bool) → cond b (f x ∷ map f K) (map f K) ≡ map f (cond b (x ∷ K) K) = λ b. elim b as (λ b. cond b (f x ∷ map f K) (map f K) ≡ map f (cond b (x ∷ K) K)) [ true ↦ refl | false ↦ refl ] in
    ap (λ l. cond (p (f x)) (f x ∷ l) l) (kept_map f p xs) ∙ here (p (f x))

-- the sum over the plain rows that pass
pub sum_plain : {X Y : Type 0} (g : Y → ℕ) (f : X → Y) (p : Y → Bool) (xs : List X) → sum_by g (filter p (map f xs)) ≡ sum_by (λ x. cond (p (f x)) (g (f x)) 0) xs
sum_plain g f p xs = ap (sum_by g) (kept_map f p xs) ∙ sum_kept g f (λ x. p (f x)) xs

pub sum_same : {X : Type 0} (f g : X → ℕ) → ((x : X) → f x ≡ g x) → (xs : List X) → sum_by f xs ≡ sum_by g xs
sum_same f g same [] = refl
sum_same f g same (x ∷ xs) = omega (arith, sum_by-cons f x xs, sum_by-cons g x xs, same x, sum_same f g same xs)

pub sum_map : {X Y : Type 0} (g : Y → ℕ) (f : X → Y) (xs : List X) → sum_by g (map f xs) ≡ sum_by (λ x. g (f x)) xs
sum_map g f [] = refl
sum_map g f (x ∷ xs) = omega (arith, sum_by-cons g (f x) (map f xs), sum_by-cons (λ x. g (f x)) x xs, sum_map g f xs)

-- a turn that adds f of the element d that was read
pub sum_turn : {X : Type 0} (f : X → ℕ) (xs : List X) (i : ℕ) (d : X) {sum x : ℕ} → i < length xs → d ≡ get_or xs i d → sum ≡ sum_by f (take i xs) → x ≡ f d → sum + x ≡ sum_by f (take (i + 1) xs)
sum_turn f xs i d h read was is = omega (arith, sum_by_more f xs i d h, was, is, ap f read)

pub sum_all : {X : Type 0} (f : X → ℕ) (xs : List X) (i : ℕ) {sum : ℕ} → length xs ≤ i → sum ≡ sum_by f (take i xs) → sum ≡ sum_by f xs
sum_all f xs i h was = was ∙ ap (sum_by f) (take_all _ _ h)

-- what a trade in the table moves for q as a party on a side in sub-type s
abbrev pub raw_moved : Party → Side → ℕ → ℕ → TradeRow → ℕ
raw_moved party side q s t = cond (eqb (traded_sub t.traded) s) (cond (t.counts && (on_side side t.sides && eqb (party_of party (plain_trade t)) q)) t.kw 0) 0

pub nothing_either_way : (b : Bool) → ◌≡◌ {A = ℕ} (cond b 0 0) 0
nothing_either_way true = refl
nothing_either_way false = refl

-- a party to the trade is its seller or its buyer
guards : (counts seller buyer on sub own : Bool) (kw : ℕ) → (own ≡ true → seller || buyer ≡ true)
    → cond (counts && (seller || buyer)) (cond (on && (sub && own)) kw 0) 0 ≡ cond sub (cond (counts && (on && own)) kw 0) 0
guards false seller buyer on true own kw h = refl
guards false seller buyer on false own kw h = refl
guards true seller buyer false true own kw h = nothing_either_way (seller || buyer)
guards true seller buyer false false own kw h = nothing_either_way (seller || buyer)
guards true seller buyer true true true kw h = ap (λ b. cond b kw 0) (h refl)
guards true seller buyer true true false kw h = nothing_either_way (seller || buyer)
guards true seller buyer true false own kw h = nothing_either_way (seller || buyer)

or_left : (a b : Bool) → a ≡ true → a || b ≡ true
or_left a b e = ap (λ c. c || b) e

or_right : (a b : Bool) → b ≡ true → a || b ≡ true
or_right true b e = refl
or_right false b e = e

raw_is : (party : Party) (side : Side) (q s : ℕ) (t : TradeRow) → cond (party_to q (plain_trade t)) (moved_in party side q s (plain_trade t)) 0 ≡ raw_moved party side q s t
raw_is Seller side q s t = guards t.counts (eqb t.seller q) (eqb t.buyer q) (on_side side t.sides) (eqb (traded_sub t.traded) s) (eqb t.seller q) t.kw (or_left (eqb t.seller q) (eqb t.buyer q))
raw_is Buyer side q s t = guards t.counts (eqb t.seller q) (eqb t.buyer q) (on_side side t.sides) (eqb (traded_sub t.traded) s) (eqb t.buyer q) t.kw (or_right (eqb t.seller q) (eqb t.buyer q))

-- the trades of the QSE move what all trades move for it
pub moved_is : (party : Party) (side : Side) (q s : ℕ) (ts : List TradeRow) → sum_by (moved_in party side q s) (filter (party_to q) (map plain_trade ts)) ≡ sum_by (raw_moved party side q s) ts
moved_is party side q s ts = sum_plain (moved_in party side q s) plain_trade (party_to q) ts ∙ sum_same _ _ (raw_is party side q s) ts
