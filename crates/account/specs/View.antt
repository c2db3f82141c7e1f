-- What a measure sees of an account: a view. Sub-types stand by their place, counted from 0, in the order
-- RU, RD, PFR, UFR, FFR, ECS, ECM, NSS, NSM.
use Rattle.std.specs.Prelude.{ℕ, ◌+◌, List, [], ◌∷◌, ◌++◌, ℤ, pos, negsuc, ◌+ℤ◌}

-- an integer, and 0 where it is below 0
abbrev pub counted : ℤ → ℕ
counted (pos n) = n
counted (negsuc n) = 0

-- the sum of f over some sub-types
abbrev pub over : List ℕ → (ℕ → ℕ) → ℕ
over [] f = 0
over (k ∷ ks) f = f k + over ks f

abbrev pub reg_up : List ℕ
reg_up = 0 ∷ []

abbrev pub reg_down : List ℕ
reg_down = 1 ∷ []

abbrev pub rrs : List ℕ
rrs = 2 ∷ 3 ∷ 4 ∷ []

-- ECRS and Non-Spin, which an off-line unit can serve
abbrev pub slow : List ℕ
slow = 5 ∷ 6 ∷ 7 ∷ 8 ∷ []

-- all but Reg-Down
abbrev pub up : List ℕ
up = 0 ∷ 2 ∷ 3 ∷ 4 ∷ 5 ∷ 6 ∷ 7 ∷ 8 ∷ []

abbrev pub nine : List ℕ
nine = 0 ∷ 1 ∷ 2 ∷ 3 ∷ 4 ∷ 5 ∷ 6 ∷ 7 ∷ 8 ∷ []

-- what one resource gives on a side
pub record Line : Type 0 where
  pub room : ℕ
  pub capability : ℕ → ℕ
  pub available : ℕ
  pub offline : ℕ
  pub loadpart : ℕ

pub record View : Type 0 where
  pub load : ℕ
  pub net : ℤ
  pub storage : ℤ
  pub position : ℕ → ℤ
  pub lines : List Line

abbrev pub zeros : View
zeros = record { load = 0; net = pos 0; storage = pos 0; position = λ _. pos 0; lines = [] }

-- two accounts as one: figure by figure, with the lines of both
abbrev pub add : View → View → View
add v w = record {
  load = v.load + w.load;
  net = v.net +ℤ w.net;
  storage = v.storage +ℤ w.storage;
  position = λ k. v.position k +ℤ w.position k;
  lines = v.lines ++ w.lines;
}

abbrev pub with_lines : View → List Line → View
with_lines v ls = record { load = v.load; net = v.net; storage = v.storage; position = v.position; lines = ls }
