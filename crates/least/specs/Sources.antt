-- Lines, sets of sub-types, what lines reach, and positions that are covered by one giving after another.
-- n sub-types, counted from 0; E j q: capability j may cover position q.
use Rattle.std.specs.Prelude.{◌≡◌, ℕ, zero, suc, ◌+◌, ◌-◌, ◌<◌, ◌≤◌, min, Bool, cond, T, List, [], ◌∷◌, ◌==◌}

-- a set of sub-types
abbrev pub Set : Type 0
Set = ℕ → Bool

-- the sum of f over the members of A below n
abbrev pub sum_in : ℕ → Set → (ℕ → ℕ) → ℕ
sum_in zero A f = 0
sum_in (suc n) A f = sum_in n A f + cond (A n) (f n) 0

-- what one resource gives on a side: in all no more than its room, and of each sub-type no more than its capability
pub record Source : Type 0 where
  pub room : ℕ
  pub capability : ℕ → ℕ

-- the most that a line gives by the capabilities of a set, and that all lines give
abbrev pub reach : ℕ → Source → Set → ℕ
reach n l A = min l.room (sum_in n A l.capability)

abbrev pub reach_all : ℕ → List Source → Set → ℕ
reach_all n [] A = 0
reach_all n (l ∷ ls) A = reach n l A + reach_all n ls A

-- whatever may cover a position of the set is in the set
abbrev pub Closed : (ℕ → ℕ → Bool) → Set → Type 0
Closed E A = (j q : ℕ) → T (E j q) → T (A q) → T (A j)

-- no closed set asks for more than is reached by its capabilities
abbrev pub Hall : ℕ → (ℕ → ℕ → Bool) → (Set → ℕ) → (ℕ → ℕ) → Type 0
Hall n E F p = (A : Set) → Closed E A → sum_in n A p ≤ F A

-- d at place j, and 0 elsewhere
abbrev pub hit : ℕ → ℕ → ℕ → ℕ
hit j d k = cond (k == j) d 0

-- f with d taken away at place j
abbrev pub low : (ℕ → ℕ) → ℕ → ℕ → ℕ → ℕ
low f j d k = f k - hit j d k

-- the line after it gave d by capability j
abbrev pub give : Source → ℕ → ℕ → Source
give l j d = record { room = l.room - d; capability = low l.capability j d }

-- the lines of pre, last first, put back in front of post
infixl 40 ◌⋉◌
abbrev pub ◌⋉◌ : List Source → List Source → List Source
[] ⋉ post = post
(l ∷ pre) ⋉ post = pre ⋉ (l ∷ post)

-- the lines ls can cover the positions p, one giving after another
pub data Coverable (n : ℕ) (E : ℕ → ℕ → Bool) : List Source → (ℕ → ℕ) → Type 0 where
  done : (ls : List Source) (p : ℕ → ℕ) → ((q : ℕ) → q < n → p q ≡ 0) → Coverable n E ls p
  move : (pre post : List Source) (l : Source) (p : ℕ → ℕ) (j q d : ℕ) → j < n → q < n → T (E j q) → d ≤ l.room → d ≤ l.capability j → d ≤ p q
      → Coverable n E (pre ⋉ (give l j d ∷ post)) (low p q d) → Coverable n E (pre ⋉ (l ∷ post)) p
