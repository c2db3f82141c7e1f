-- Laws are kept by sums, maxima and differences: a measure built of these needs no argument of its own.
use Rattle.std.specs.Prelude.{◌≡◌, ℕ, ◌+◌, ◌-◌, ◌*◌, ◌≤◌, max, List, [], ◌∷◌, ℤ, pos, ◌+ℤ◌, ◌-ℤ◌, sum_by, refl}
use Rattle.std.proofs.Common.{zero-le, arith}
use Rattle.std.proofs.lemmas.Int.{ints}
use Rattle.std.proofs.lemmas.List.Sums.{sum_by-append, sum_by-cons}
use Rattle.std.proofs.lemmas.List.Sorted.{sum_by-IsPermutation}
use Rattle.account.specs.View.{View, Line, zeros, add, with_lines, counted}
use Rattle.account.proofs.Bounds.{counted_is, over_le}
use Rattle.measure.specs.Laws.{Order, Pool, Help, Nothing, Higher, More}
use Rattle.measure.specs.Levels.{asked, served, level}

pub record Lawful (m : View → ℕ) : Type 0 where
  pub order : Order m
  pub pool : Pool m
  pub help : Help m
  pub nothing : Nothing m

module _ {a b : View → ℕ} (la : Lawful a) (lb : Lawful b) where
  pub lawful_max : Lawful (λ v. max (a v) (b v))
  lawful_max = record {
    order = λ v ls s. omega (arith, la.order v ls s, lb.order v ls s);
    pool = λ v w. omega (arith, la.pool v w, lb.pool v w);
    help = λ v w h. omega (arith, la.help v w h, lb.help v w h);
    nothing = omega (arith, la.nothing, lb.nothing);
  }

  pub lawful_plus : Lawful (λ v. a v + b v)
  lawful_plus = record {
    order = λ v ls s. omega (arith, la.order v ls s, lb.order v ls s);
    pool = λ v w. omega (arith, la.pool v w, lb.pool v w);
    help = λ v w h. omega (arith, la.help v w h, lb.help v w h);
    nothing = omega (arith, la.nothing, lb.nothing);
  }

pub sum_more : (g : Line → ℕ) → ((x y : Line) → Higher x y → g x ≤ g y) → (xs ys : List Line) → More xs ys → sum_by g xs ≤ sum_by g ys
sum_more g mono [] ys m = zero-le
sum_more g mono (x ∷ xs) [] m = absurd m
sum_more g mono (x ∷ xs) (y ∷ ys) m = omega (arith, sum_by-cons g x xs, sum_by-cons g y ys, mono x y m.0, sum_more g mono xs ys m.1)

-- what is asked, less a sum over the lines that grows with them
module _ {f : View → ℕ} (lf : Lawful f) (g : Line → ℕ) (mono : (x y : Line) → Higher x y → g x ≤ g y) where
  pub lawful_less : Lawful (λ v. f v - sum_by g v.lines)
  lawful_less = record {
    order = λ v ls s. omega (arith, lf.order v ls s, sum_by-IsPermutation g v.lines ls s);
    pool = λ v w. omega (arith, lf.pool v w, sum_by-append g v.lines w.lines);
    help = λ v w h. omega (arith, lf.help v w h, sum_more g mono v.lines w.lines h.lines);
    nothing = omega (arith, lf.nothing);
  }

  -- the same, less net and storage net
  abbrev balance : View → ℤ
  balance v = pos (f v) -ℤ pos (sum_by g v.lines) -ℤ v.net -ℤ v.storage

  balance_order : (v : View) (ls : List Line) → sum_by g ls ≡ sum_by g v.lines → f (with_lines v ls) ≡ f v → counted (balance (with_lines v ls)) ≡ counted (balance v)
  balance_order v ls e h = cc

  pub lawful_balance : Lawful (λ v. counted (balance v))
  lawful_balance = record {
    order = λ v ls s. balance_order v ls (sum_by-IsPermutation g v.lines ls s) (lf.order v ls s);
    pool = λ v w. omega (arith, ints, lf.pool v w, sum_by-append g v.lines w.lines, counted_is (balance v), counted_is (balance w), counted_is (balance (add v w)));
    help = λ v w h. omega (arith, ints, lf.help v w h, sum_more g mono v.lines w.lines h.lines, h.net, h.storage, counted_is (balance v), counted_is (balance w));
    nothing = omega (arith, ints, lf.nothing, counted_is (balance zeros));
  }

lawful_position : (k : ℕ) → Lawful (λ v. counted (v.position k))
lawful_position k = record {
  order = λ v ls s. refl;
  pool = λ v w. omega (arith, ints, counted_is (v.position k), counted_is (w.position k), counted_is (v.position k +ℤ w.position k));
  help = λ v w h. omega (arith, ints, counted_is (v.position k), counted_is (w.position k), h.position k);
  nothing = refl;
}

pub lawful_zero : Lawful (λ v. 0)
lawful_zero = record { order = λ v ls s. refl; pool = λ v w. zero-le; help = λ v w h. zero-le; nothing = refl }

pub lawful_load : Lawful (λ v. 4 * v.load)
lawful_load = record {
  order = λ v ls s. refl;
  pool = λ v w. omega arith;
  help = λ v w h. omega (arith, h.load);
  nothing = refl;
}

pub lawful_asked : (ks : List ℕ) → Lawful (asked ks)
lawful_asked [] = lawful_zero
lawful_asked (k ∷ ks) = lawful_plus (lawful_position k) (lawful_asked ks)

pub served_mono : (ks : List ℕ) (x y : Line) → Higher x y → served ks x ≤ served ks y
served_mono ks x y h = omega (arith, h.room, over_le ks x.capability y.capability h.capability)

pub lawful_level : (ks : List ℕ) → Lawful (level ks)
lawful_level ks = lawful_less (lawful_asked ks) (served ks) (served_mono ks)
