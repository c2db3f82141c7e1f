-- The rules that tie a number to another of its list.
use Rattle.std.specs.Prelude.{◌≡◌, ◌⊎◌, ℤ, pos, ◌≤ℤ◌, ◌≢◌}
use Rattle.rows.specs.Codes.{kind_number}
use Rattle.rows.specs.declared.codes.Kind.TheVariants.{Renewable, Storage, LoadResource}
use Rattle.entry.specs.declared.form.Rule.{Rule}
use Rattle.entry.specs.declared.form.Rule.TheVariants.{Free, Mark, Before, Lsl, Potential, SubTyped}

-- a mark is 0 unless the kind is neither wind or solar nor load
abbrev pub Marked : ℤ → ℤ → Type 0
Marked x kind = (x ≡ pos 0) ⊎ ((kind ≢ pos (kind_number Renewable)) × (kind ≢ pos (kind_number LoadResource)))

-- x is 0 unless y is n
abbrev pub ZeroUnless : ℤ → ℤ → ℤ → Type 0
ZeroUnless x y n = (x ≡ pos 0) ⊎ (y ≡ n)

-- LSL is at most HSL, and 0 or more unless the kind is storage
abbrev pub Spans : ℤ → ℤ → ℤ → Type 0
Spans lsl hsl kind = (lsl ≤ℤ hsl) × ((pos 0 ≤ℤ lsl) ⊎ (kind ≡ pos (kind_number Storage)))

-- the kind of a trade that moves a position
abbrev pub position : ℤ
position = pos 3

-- a sub-type is 0 for capacity and energy, and for no position
abbrev pub TypedFor : ℤ → ℤ → Type 0
TypedFor sub traded = (sub ≡ pos 0 → traded ≢ position) × ((traded ≢ position) → sub ≡ pos 0)

-- x keeps the rule, with the number before it and the kind of the resource
abbrev pub RuleKept : Rule → ℤ → ℤ → ℤ → Type 0
RuleKept Free x previous kind = Unit {0}
RuleKept Mark x previous kind = Marked x kind
RuleKept Before x previous kind = ZeroUnless x previous (pos 1)
RuleKept Lsl x previous kind = Spans x previous kind
RuleKept Potential x previous kind = ZeroUnless x kind (pos (kind_number Renewable))
RuleKept SubTyped x previous kind = TypedFor x previous
