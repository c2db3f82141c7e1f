-- A loop that writes each row once, seen through a plain view of the rows.
use Rattle.std.proofs.Common.{◌≡◌, ℕ, zero, suc, ◌+◌, ◌<◌, ◌≤◌, List, [], ◌∷◌, ◌++◌, map, length, get_or, take, drop, set, sym, refl, ap, ◌∙◌, append-nil, arith, take_all}
use Rattle.std.proofs.lemmas.List.{drop_all, get_or-map, length-map, map-set}
use Rattle.std.proofs.lemmas.List.Edits.{map_over_more}

module _ {X Y : Type 0} (see : X → Y) where
  -- the rows are written below i and as they were from there on
  abbrev pub WrittenTo : (Y → Y) → List X → List X → ℕ → Type 0
  WrittenTo f xs ys i = map see ys ≡ map f (take i (map see xs)) ++ drop i (map see xs)

module _ {Y : Type 0} where
  at_rest : (f : Y → Y) (ps : List Y) (i : ℕ) (d : Y) → i < length ps → get_or (map f (take i ps) ++ drop i ps) i d ≡ get_or ps i d
  at_rest f [] i d h = absurd (omega arith)
  at_rest f (p ∷ ps) zero d h = refl
  at_rest f (p ∷ ps) (suc i) d h = at_rest f ps i d (omega arith)

module _ {X Y : Type 0} (see : X → Y) (f : Y → Y) (xs ys : List X) (i : ℕ) (is : WrittenTo see f xs ys i) (lt : i < length xs) (lt' : i < length ys) where
  -- what is read at i is as it was
  pub read_old : (d e : X) → see (get_or ys i d) ≡ get_or (map see xs) i (see e)
  read_old d e =
      sym (get_or-map see ys i d (see e) lt') ∙ ap (λ l. get_or l i (see e)) is ∙ at_rest f (map see xs) i (see e) (omega (arith, length-map xs see))

  pub write_turn : (d v : X) → see v ≡ f (see (get_or ys i d)) → WrittenTo see f xs (set ys i v) (i + 1)
  write_turn d v wrote =
      let P = map see xs in
      let Q = map see ys in
      let p = see (get_or ys i d) in
      let there : p ≡ get_or Q i p = sym (get_or-map see ys i d p lt') in
      map-set see ys i v ∙ ap (set Q i) wrote ∙ map_over_more f P Q i p (omega (arith, length-map xs see)) is there

pub write_all : {X Y : Type 0} (see : X → Y) (f : Y → Y) (xs ys : List X) (i : ℕ) → length xs ≤ i → WrittenTo see f xs ys i → map see ys ≡ map f (map see xs)
write_all see f xs ys i le is =
    let P = map see xs in
    let long : length P ≤ i = omega (arith, length-map xs see) in
    is ∙ ap (λ l. map f (take i P) ++ l) (drop_all i P long) ∙ append-nil (map f (take i P)) ∙ ap (map f) (take_all i P long)
