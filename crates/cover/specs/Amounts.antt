-- Lines and amounts as the code holds them.
use Rattle.std.specs.Prelude.{◌≡◌, ℕ, ◌+◌, ◌<◌, ◌≤◌, List, [], ◌∷◌, length, slice_index, slice_index_or}
use Rattle.least.specs.Sources.{Source, reach, reach_all, Hall, hit}
use Rattle.least.specs.Cover.{Amounts, Fits, got, pairs, Pair}
use Rattle.least.specs.Chains.{mem}

abbrev pub at : List ℕ → ℕ → ℕ
at xs k = slice_index xs k

abbrev pub source_by : ℕ → List ℕ → Source
source_by room caps = record { room = room; capability = at caps }

-- the capability and the position of the pair number t
unfoldable pub cap_at : ℕ → ℕ
cap_at t = (slice_index_or pairs t (0, 0)).0

unfoldable pub pos_at : ℕ → ℕ
pos_at t = (slice_index_or pairs t (0, 0)).1

-- the amounts of a row: its number t is what the pair number t gives
abbrev pub amounts_by : List (ℕ × ℕ) → List ℕ → Amounts
amounts_by [] vs j q = 0
amounts_by (t ∷ ts) [] j q = 0
amounts_by (t ∷ ts) (v ∷ vs) j q = amounts_by ts vs j q + hit t.0 (hit t.1 v q) j

unfoldable pub amounts_of : List ℕ → Amounts
amounts_of row = amounts_by pairs row

abbrev pub amounts_all : List (List ℕ) → List Amounts
amounts_all [] = []
amounts_all (r ∷ rs) = amounts_of r ∷ amounts_all rs

-- the table holds what the lines reach of each closed set
abbrev pub Table : List ℕ → List Source → Type 0
Table reached ls = (k : ℕ) → k < 144 → slice_index reached k ≡ reach_all 9 ls (mem k)

-- the amounts of the row fit the line; left' is what they leave of left; lines of the table rest, that with this line cover left, cover left' without it
pub record Served (rest : List ℕ) (room : ℕ) (caps left left' row : List ℕ) : Type 0 where
  pub fits : Fits 9 Pair (source_by room caps) (amounts_of row)
  pub gets : (q : ℕ) → q < 9 → got 9 Pair (amounts_of row) q + at left' q ≡ at left q
  pub less : (k : ℕ) → at left' k ≤ at left k
  pub long : length row ≡ 14
  pub serves : (ls : List Source) → Table rest ls → Hall 9 Pair (λ A. reach 9 (source_by room caps) A + reach_all 9 ls A) (at left) → Hall 9 Pair (reach_all 9 ls) (at left')
