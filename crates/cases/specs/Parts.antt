-- Cases 10 and 11: cents divided by weight.
use Rattle.std.specs.Prelude.{◌≡◌, ℕ, ◌+◌, List, [], ◌∷◌, map, sum}
use Rattle.std.specs.List.{AllByRecursion}
use Rattle.rows.specs.Rows.{PlainLoad}
use Rattle.division.specs.Division.{share, Divided}
use Rattle.book.specs.Charging.{PaysLoad}

-- whatever loads without cents have these weights: a division of the pot leaves these cents on them
abbrev pub Divides : (pot : ℕ) (weights cents : List ℕ) → Type 0
Divides pot ws cs =
    (old new : List PlainLoad) (given : ℕ)
    → map (λ l. l.kwh) old ≡ ws
    → AllByRecursion (λ l. l.cents ≡ 0) old
    → Divided (λ l. l.kwh) (λ l. l.cents) PaysLoad pot old new given
    → map (λ l. l.cents) new ≡ cs

-- the shares one after another, where the rows before have v of W
abbrev pub parts_after : (pot W v : ℕ) → List ℕ → List ℕ
parts_after pot W v [] = []
parts_after pot W v (w ∷ ws) = share pot W v (v + w) ∷ parts_after pot W (v + w) ws

abbrev pub parts : (pot : ℕ) (weights : List ℕ) → List ℕ
parts pot ws = parts_after pot (sum ws) 0 ws
