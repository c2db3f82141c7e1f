-- The figures of limited rows are bounded.
use Rattle.std.proofs.Common.{◌≡◌, ℕ, zero, suc, ◌+◌, ◌-◌, ◌*◌, ◌<◌, ◌≤◌, Bool, true, false, cond, ◌&&◌, eqb, List, [], ◌∷◌, map, length, get_or, ℤ, pos, negsuc, ◌+ℤ◌, ◌-ℤ◌, ◌≤ℤ◌, sum_by, filter, sym, refl, ap, ◌∙◌, zero-le, arith, eqb-true}
use borrow.Author.Differences.{up, down, ints}
use Rattle.std.proofs.lemmas.List.Sums.{sum_by-cons}
use Rattle.rows.specs.Codes.{traded_sub}
use Rattle.rows.specs.Limits.{max_rows}
use Rattle.rows.specs.Rows.{PlainLoad, plain_figures, plain_load, plain_trade}
use Rattle.rows.specs.declared.codes.Side.{Side}
use Rattle.rows.specs.declared.codes.Side.TheVariants.{Snapshot, Adjusted}
use Rattle.rows.specs.declared.figures.Figures.{Figures}
use Rattle.rows.specs.declared.load.LoadRow.{LoadRow}
use Rattle.rows.specs.declared.resource.ResourceRow.{ResourceRow}
use Rattle.rows.specs.declared.trade.TradeRow.{TradeRow}
use Rattle.account.specs.View.{View, zeros, add, with_lines, Line, nine, over, counted}
use Rattle.account.specs.Own.{Own, own_of, owns_load, view_on, position_of, moved_of, figures_on, on_side, party_of}
use Rattle.account.specs.Account.{load_in, plain_rows}
use Rattle.account.specs.Within.{Within}
use Rattle.account.specs.declared.party.Party.{Party}
use Rattle.account.specs.declared.party.Party.TheVariants.{Seller, Buyer}
use Rattle.account.proofs.Rows.{sum_map, sum_plain, raw_moved, moved_is}

-- a counted number in the terms of omega
pub counted_is : (z : ℤ) → counted z ≡ up z - down z
counted_is (pos n) = omega arith
counted_is (negsuc n) = omega arith

pub sum_le : {X : Type 0} (f : X → ℕ) (m : ℕ) → ((x : X) → f x ≤ m) → (xs : List X) → sum_by f xs ≤ m * length xs
sum_le f m h [] = zero-le
sum_le f m h (x ∷ xs) = omega (arith, sum_by-cons f x xs, h x, sum_le f m h xs)

pub cond_le : (b : Bool) (n m : ℕ) → n ≤ m → cond b n 0 ≤ m
cond_le true n m h = h
cond_le false n m h = zero-le

moved_le : (party : Party) (side : Side) (q s : ℕ) (t : TradeRow) → raw_moved party side q s t ≤ 10000000
moved_le party side q s t =
    let counts = t.counts && (on_side side t.sides && eqb (party_of party (plain_trade t)) q) in
    cond_le (eqb (traded_sub t.traded) s) (cond counts t.kw 0) 10000000 (cond_le counts t.kw 10000000 t.amount.1)

-- a trade is of one sub-type at most
abbrev run : ℕ → ℕ → ℕ → ℕ → ℕ
run zero k s w = 0
run (suc n) k s w = cond (eqb s k) w 0 + run n (k + 1) s w

run_le : (n k s w : ℕ) → (run n k s w ≤ w) × (s < k → run n k s w ≡ 0)
run_le zero k s w = (zero-le, λ _. refl)
run_le (suc n) k s w =
    let ih = run_le n (k + 1) s w in
    let R = run n (k + 1) s w in
    let go : (b : Bool) → eqb s k ≡ b → (cond b w 0 + R ≤ w) × (s < k → cond b w 0 + R ≡ 0) = λ b. elim b as (λ b. eqb s k ≡ b → (cond b w 0 + R ≤ w) × (s < k → cond b w 0 + R ≡ 0)) [
      | true ↦ λ e. let same = eqb-true s k e in let z : R ≡ 0 = ih.1 (omega arith) in (omega arith, λ h. absurd (omega arith))
      | false ↦ λ e. (omega (arith, ih.0), λ h. omega (arith, ih.1 (omega arith)))
    ] in
    go (eqb s k) refl

one_sub_type : (party : Party) (side : Side) (q : ℕ) (t : TradeRow) → over nine (λ k. raw_moved party side q (k + 1) t) ≤ 10000000
one_sub_type party side q t =
    let w = cond (t.counts && (on_side side t.sides && eqb (party_of party (plain_trade t)) q)) t.kw 0 in
    let small : w ≤ 10000000 = cond_le _ t.kw 10000000 t.amount.1 in
    omega (arith, (run_le 9 1 (traded_sub t.traded) w).0)

pub over_le : (ks : List ℕ) (f g : ℕ → ℕ) → ((k : ℕ) → f k ≤ g k) → over ks f ≤ over ks g
over_le [] f g h = zero-le
over_le (k ∷ ks) f g h = omega (arith, h k, over_le ks f g h)

over_zero : (ks : List ℕ) (f : ℕ → ℕ) → ((k : ℕ) → f k ≡ 0) → over ks f ≡ 0
over_zero [] f h = refl
over_zero (k ∷ ks) f h = omega (arith, h k, over_zero ks f h)

over_plus : (ks : List ℕ) (f g : ℕ → ℕ) → over ks (λ k. f k + g k) ≡ over ks f + over ks g
over_plus [] f g = omega arith
over_plus (k ∷ ks) f g = omega (arith, over_plus ks f g)

over_eq : (ks : List ℕ) (f g : ℕ → ℕ) → ((k : ℕ) → f k ≡ g k) → over ks f ≡ over ks g
over_eq [] f g h = refl
over_eq (k ∷ ks) f g h = omega (arith, h k, over_eq ks f g h)

-- sums over sub-types and over rows change places
over_sum : {X : Type 0} (ks : List ℕ) (f : ℕ → X → ℕ) (xs : List X) → over ks (λ k. sum_by (f k) xs) ≡ sum_by (λ x. over ks (λ k. f k x)) xs
over_sum ks f [] = over_zero ks _ (λ k. refl)
over_sum ks f (x ∷ xs) =
    over_eq ks _ _ (λ k. sum_by-cons (f k) x xs) ∙ over_plus ks (λ k. f k x) (λ k. sum_by (f k) xs) ∙ ap (λ n. over ks (λ k. f k x) + n) (over_sum ks f xs) ∙ sym (sum_by-cons (λ y. over ks (λ k. f k y)) x xs)

counted_le : (e s b : ℕ) → counted (pos e +ℤ pos s -ℤ pos b) ≤ e + s
counted_le e s b = omega (arith, ints, counted_is (pos e +ℤ pos s -ℤ pos b))

entered_le : (side : Side) (f : Figures) (k : ℕ) → get_or (figures_on side (plain_figures f)).positions k 0 ≤ 10000000
entered_le Snapshot f k = f.snapshot.positions.limits k
entered_le Adjusted f k = f.adjusted.positions.limits k

stored_ge : (side : Side) (f : Figures) → negsuc 9999999 ≤ℤ (figures_on side (plain_figures f)).storagenet
stored_ge Snapshot f = f.snapshot.stored.0
stored_ge Adjusted f = f.adjusted.stored.0

net_ge : (p s b o i : ℕ) → s ≤ 10000000 → o ≤ 5120000000 → pos 0 ≤ℤ ((pos p -ℤ pos s +ℤ pos b -ℤ pos o +ℤ pos i) +ℤ pos (1 * 5130000000))
net_ge p s b o i hs ho = omega (arith, ints)

storage_ge : (z : ℤ) → negsuc 9999999 ≤ℤ z → pos 0 ≤ℤ (z +ℤ pos (1 * 10000000))
storage_ge z h = omega (arith, ints)

module _ (q : ℕ) (f : Figures) (ls : List LoadRow) (rs : List ResourceRow) (ts : List TradeRow) (side : Side) (few : length ts ≤ max_rows) where
  abbrev own : Own
  own = own_of q (plain_figures f) (plain_rows ls rs ts)

  sold_le : (s : ℕ) → moved_of Seller side own s ≤ 5120000000
  sold_le s = omega (arith, moved_is Seller side q s ts, sum_le (raw_moved Seller side q s) 10000000 (moved_le Seller side q s) ts)

  positions_le : over nine (λ k. counted (position_of side own k)) ≤ 5210000000
  positions_le =
      let entered : ℕ → ℕ = λ k. get_or (figures_on side (plain_figures f)).positions k 0 in
      let sold : ℕ → ℕ = λ k. moved_of Seller side own (k + 1) in
      let raw : ℕ → TradeRow → ℕ = λ k. raw_moved Seller side q (k + 1) in
      let le = over_le nine (λ k. counted (position_of side own k)) (λ k. entered k + sold k) (λ k. counted_le (entered k) (sold k) (moved_of Buyer side own (k + 1))) in
      let two = over_plus nine entered sold in
      let tables = over_eq nine sold (λ k. sum_by (raw k) ts) (λ k. moved_is Seller side q (k + 1) ts) in
      let swap = over_sum nine raw ts in
      let most = sum_le (λ t. over nine (λ k. raw k t)) 10000000 (one_sub_type Seller side q) ts in
      let many = over_le nine entered (λ _. 10000000) (entered_le side f) in
      omega (arith, le, two, tables, swap, most, many)

  -- an account of limited rows
  pub own_within : length ls ≤ max_rows → Within 1 (view_on side own)
  own_within fewLoads =
      let load = sum_le (load_in q) 1000000 (λ l. cond_le (eqb l.qse q) l.kwh 1000000 l.limits.1) ls in
      let kept = sum_map (λ kwh. kwh) (λ (l : PlainLoad). l.kwh) (filter (owns_load q) (map plain_load ls)) ∙ sum_plain (λ l. l.kwh) plain_load (owns_load q) ls in
      record {
        load = omega (arith, load, kept);
        net = net_ge f.purchase f.sale (moved_of Buyer side own 0) (moved_of Seller side own 0) _ f.powers.2 (sold_le 0);
        storage = storage_ge _ (stored_ge side f);
        positions = omega (arith, positions_le);
      }

counted_add : (x y : ℤ) → counted (x +ℤ y) ≤ counted x + counted y
counted_add x y = omega (arith, ints, counted_is x, counted_is y, counted_is (x +ℤ y))

add_ge : (x y : ℤ) (m n : ℕ) → pos 0 ≤ℤ (x +ℤ pos m) → pos 0 ≤ℤ (y +ℤ pos n) → pos 0 ≤ℤ ((x +ℤ y) +ℤ pos (m + n))
add_ge x y m n a b = omega (arith, ints)

more_ge : (x : ℤ) (m n : ℕ) → m ≤ n → pos 0 ≤ℤ (x +ℤ pos m) → pos 0 ≤ℤ (x +ℤ pos n)
more_ge x m n h a = omega (arith, ints)

pub zeros_within : Within 0 zeros
zeros_within = record { load = zero-le; net = record { le = tt }; storage = record { le = tt }; positions = zero-le }

pub add_within : (m n : ℕ) (v w : View) → Within m v → Within n w → Within (m + n) (add v w)
add_within m n v w a b = record {
  load = omega (arith, a.load, b.load);
  net = more_ge (v.net +ℤ w.net) (m * 5130000000 + n * 5130000000) ((m + n) * 5130000000) (omega arith) (add_ge v.net w.net (m * 5130000000) (n * 5130000000) a.net b.net);
  storage = more_ge (v.storage +ℤ w.storage) (m * 10000000 + n * 10000000) ((m + n) * 10000000) (omega arith) (add_ge v.storage w.storage (m * 10000000) (n * 10000000) a.storage b.storage);
  positions = omega (arith, a.positions, b.positions, over_le nine (λ k. counted (v.position k +ℤ w.position k)) (λ k. counted (v.position k) + counted (w.position k)) (λ k. counted_add (v.position k) (w.position k)), over_plus nine (λ k. counted (v.position k)) (λ k. counted (w.position k)));
}

-- bounds speak of no line, and grow with the number of accounts
pub within_more : (m n : ℕ) (v : View) (ls : List Line) → m ≤ n → Within m v → Within n (with_lines v ls)
within_more m n v ls h a = record {
  load = omega (arith, a.load);
  net = more_ge v.net (m * 5130000000) (n * 5130000000) (omega arith) a.net;
  storage = more_ge v.storage (m * 10000000) (n * 10000000) (omega arith) a.storage;
  positions = omega (arith, a.positions);
}
