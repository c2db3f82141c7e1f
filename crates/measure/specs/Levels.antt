-- The six levels of the grouped edition: groups of sub-types that are asked for together.
use Rattle.std.specs.Prelude.{◌≡◌, ℕ, ◌-◌, ◌≤◌, min, List, [], ◌∷◌, sum_by}
use Rattle.account.specs.View.{View, Line, counted, over, reg_up, reg_down, rrs, up}
use Rattle.measure.specs.declared.levels.Levels.{Levels}

-- Reg-Up and RRS
abbrev pub fast : List ℕ
fast = 0 ∷ 2 ∷ 3 ∷ 4 ∷ []

-- Reg-Up, RRS and ECRS
abbrev pub with_ecrs : List ℕ
with_ecrs = 0 ∷ 2 ∷ 3 ∷ 4 ∷ 5 ∷ 6 ∷ []

-- what positions ask of a group, and what a line serves of it
abbrev pub asked : List ℕ → View → ℕ
asked ks v = over ks (λ k. counted (v.position k))

abbrev pub served : List ℕ → Line → ℕ
served ks l = min l.room (over ks l.capability)

abbrev pub level : List ℕ → View → ℕ
level ks v = asked ks v - sum_by (served ks) v.lines

-- f at each of the six groups
pub record IsLevels (l : Levels) (f : List ℕ → ℕ) : Type 0 where
  pub regup : l.reg_up ≡ f reg_up
  pub rrs : l.rrs ≡ f rrs
  pub fast : l.fast ≡ f fast
  pub ecrs : l.with_ecrs ≡ f with_ecrs
  pub up : l.upward ≡ f up
  pub regdown : l.reg_down ≡ f reg_down

-- no level is above m
pub record AtMost (l : Levels) (m : ℕ) : Type 0 where
  pub regup : l.reg_up ≤ m
  pub rrs : l.rrs ≤ m
  pub fast : l.fast ≤ m
  pub ecrs : l.with_ecrs ≤ m
  pub up : l.upward ≤ m
  pub regdown : l.reg_down ≤ m

-- P of the two levels of each group and what is made of them
pub record Made (P : ℕ → ℕ → ℕ → Type 0) (a b c : Levels) : Type 0 where
  pub regup : P a.reg_up b.reg_up c.reg_up
  pub rrs : P a.rrs b.rrs c.rrs
  pub fast : P a.fast b.fast c.fast
  pub ecrs : P a.with_ecrs b.with_ecrs c.with_ecrs
  pub up : P a.upward b.upward c.upward
  pub regdown : P a.reg_down b.reg_down c.reg_down
