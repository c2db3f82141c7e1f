-- One resource more never raises a shortfall, by the law Help.
use Rattle.std.proofs.Common.{◌≡◌, ℕ, List, [], ◌∷◌, ◌++◌, map, ℤ, ◌≤ℤ◌, sym, subst, arith}
use borrow.Author.Differences.{ints}
use Rattle.std.proofs.lemmas.List.{map-append}
use Rattle.rows.specs.Rows.{PlainResource}
use Rattle.rows.specs.declared.codes.Side.{Side}
use Rattle.rows.specs.declared.codes.Side.TheVariants.{Snapshot, Adjusted}
use Rattle.account.specs.View.{View, Line}
use Rattle.account.specs.Lines.{line_of}
use Rattle.account.specs.Own.{Own, view_on}
use Rattle.measure.specs.Laws.{Help, Helped, Higher, More}
use Rattle.shortfall.specs.Shortfall.{shortfall_of, with_resource, NeverRaised}

same_line : (x : Line) → Higher x x
same_line x = record { room = omega arith; capability = λ k. omega arith; available = omega arith; offline = omega arith; loadpart = omega arith }

lines_more : (xs ys : List Line) → More xs (xs ++ ys)
lines_more [] ys = tt
lines_more (x ∷ xs) ys = (same_line x, lines_more xs ys)

le_same : (z : ℤ) → z ≤ℤ z
le_same z = omega (arith, ints)

one_resource_helps : (o : Own) (r : PlainResource) (side : Side) → Helped (view_on side o) (view_on side (with_resource o r))
one_resource_helps o r side =
    let v = view_on side o in
    let f = line_of side in
    record {
      load = omega arith;
      net = le_same v.net;
      storage = le_same v.storage;
      position = λ k. le_same (v.position k);
      lines = subst (More (map f o.resources)) (sym (map-append f o.resources (r ∷ []))) (lines_more (map f o.resources) (map f (r ∷ [])));
    }

pub never_raised : {m : View → ℕ} → Help m → (o : Own) (s : ℕ) → s ≡ shortfall_of m o → NeverRaised m o s
never_raised help o s is r = omega (arith, is, help _ _ (one_resource_helps o r Snapshot), help _ _ (one_resource_helps o r Adjusted))
