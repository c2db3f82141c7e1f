-- The lists that are drawn from a state.
use Rattle.std.specs.Prelude.{ℕ, zero, suc, ◌+◌, ◌-◌, ◌*◌, ◌^◌, min, ◌==◌, if◌then◌else◌, List, [], ◌∷◌, ◌++◌, ℤ, pos, ◌-ℤ◌}
use Rattle.rows.specs.Codes.{kind_number}
use Rattle.rows.specs.declared.codes.Kind.{Kind}
use Rattle.rows.specs.declared.codes.Kind.TheVariants.{Generation, Renewable, Storage, LoadResource}
use Rattle.drawn.specs.Draws.{next_state, number_at}

abbrev pub drawn_load : ℕ → ℤ → List ℤ
drawn_load s qse = qse ∷ pos 1 ∷ pos (number_at (next_state s) 500) ∷ []

-- the first number moves capacity, energy or, by 2, a position of the sub-type
abbrev pub drawn_trade : ℕ → ℤ → ℤ → List ℤ
drawn_trade s seller buyer =
    let moved = next_state s in
    let sub = next_state moved in
    let sides = next_state sub in
    let kw = next_state sides in
    pos (number_at moved 2 + 1) ∷ pos (if number_at moved 2 == 2 then number_at sub 8 + 1 else 0) ∷ pos (number_at sides 2 + 1) ∷ seller ∷ buyer ∷ pos (number_at kw 100 + 1) ∷ []

-- the state after so many numbers, and those numbers
unfoldable pub state_after : ℕ → ℕ → ℕ
state_after zero s = s
state_after (suc n) s = next_state (state_after n s)

unfoldable pub numbers : ℕ → ℕ → ℕ → List ℤ
numbers zero s most = []
numbers (suc n) s most = numbers n s most ++ pos (number_at (state_after (suc n) s) most) ∷ []

-- a number of either size, at most the greatest of 32 bits
abbrev pub times : ℕ → ℕ → ℕ
times units each = min (units * each) (2 ^ 32 - 1)

abbrev pub drawn_figures_side : ℕ → ℕ → List ℤ
drawn_figures_side s units = pos 0 ∷ pos 0 ∷ numbers 9 s (times units 130)

abbrev pub drawn_figures : ℕ → ℤ → ℕ → List ℤ
drawn_figures s qse units =
    let side = drawn_figures_side s units in
    qse ∷ pos 0 ∷ pos (times units 2000) ∷ pos 0 ∷ pos 0 ∷ (side ++ side)

-- nothing of one sub-type in four: the amount that follows a state, and the state after it
unfoldable pub amount_of : ℕ → ℕ
amount_of s = if number_at (next_state s) 3 == 0 then 0 else number_at (next_state (next_state s)) 300

unfoldable pub amount_state : ℕ → ℕ
amount_state s = if number_at (next_state s) 3 == 0 then next_state s else next_state (next_state s)

unfoldable pub amounts_state : ℕ → ℕ → ℕ
amounts_state zero s = s
amounts_state (suc n) s = amount_state (amounts_state n s)

unfoldable pub amounts : ℕ → ℕ → List ℤ
amounts zero s = []
amounts (suc n) s = amounts n s ++ pos (amount_of (amounts_state n s)) ∷ []

abbrev pub drawn_kind : ℕ → Kind
drawn_kind s = if number_at s 2 == 0 then Generation else (if number_at s 2 == 1 then Storage else LoadResource)

-- the LSL that follows a state, and the state after it
abbrev pub lsl_of : Kind → ℕ → ℕ → ℤ
lsl_of Generation hsl s = pos (number_at (next_state s) 100)
lsl_of Renewable hsl s = pos 0
lsl_of Storage hsl s = pos 0 -ℤ pos (number_at (next_state s) hsl)
lsl_of LoadResource hsl s = pos 0

abbrev pub lsl_state : Kind → ℕ → ℕ
lsl_state Generation s = next_state s
lsl_state Renewable s = s
lsl_state Storage s = next_state s
lsl_state LoadResource s = s

abbrev pub drawn_unit_side : ℕ → Kind → List ℤ
drawn_unit_side s kind =
    let rated = next_state s in
    let hsl = number_at rated 600 + 200 in
    let most = amounts 9 (lsl_state kind rated) in
    pos 1 ∷ pos hsl ∷ lsl_of kind hsl rated ∷ pos 0 ∷ (most ++ (most ++ most))

abbrev pub drawn_unit : ℕ → ℤ → List ℤ
drawn_unit s qse =
    let kind = drawn_kind (next_state s) in
    let side = drawn_unit_side (next_state s) kind in
    qse ∷ pos (kind_number kind) ∷ pos 0 ∷ pos 0 ∷ pos 0 ∷ (side ++ side)

-- the state after a side of a unit, and after a unit
abbrev pub unit_side_state : Kind → ℕ → ℕ
unit_side_state kind s = amounts_state 9 (lsl_state kind (next_state s))

abbrev pub unit_state : ℕ → ℕ
unit_state s = unit_side_state (drawn_kind (next_state s)) (next_state s)
