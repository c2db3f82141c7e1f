-- A test that a list keeps its form, which computes. It is stricter than the form: marks, kW before a decommitment and
-- potentials are 0, LSL is 0 or more, and no trade is of a position.
use Rattle.std.specs.Prelude.{ℕ, zero, suc, ◌-◌, Bool, true, ◌&&◌, List, length, ℤ, pos, ◌==◌}
use Rattle.std.specs.Int.Signed.{le_z}
use Rattle.std.specs.Ordering.{int_eq}
use Rattle.std.proofs.Common.{not}
use Rattle.entry.specs.Places.{at, place_at, places, size, least, greatest, rule_of}
use Rattle.entry.specs.declared.form.Form.{Form}
use Rattle.entry.specs.declared.form.Rule.{Rule}
use Rattle.entry.specs.declared.form.Rule.TheVariants.{Free, Mark, Before, Lsl, Potential, SubTyped}

abbrev pub rule_kept : Rule → (x previous : ℤ) → Bool
rule_kept Free x previous = true
rule_kept Mark x previous = int_eq x (pos 0)
rule_kept Before x previous = int_eq x (pos 0)
rule_kept Lsl x previous = le_z (pos 0) x && le_z x previous
rule_kept Potential x previous = int_eq x (pos 0)
rule_kept SubTyped x previous = int_eq x (pos 0) && not (int_eq previous (pos 3))

abbrev pub place_kept : Form → List ℤ → ℕ → Bool
place_kept f xs k =
    le_z (least (place_at (places f) k)) (at xs k) && le_z (at xs k) (greatest (place_at (places f) k))
    && rule_kept (rule_of (place_at (places f) k)) (at xs k) (at xs (k - 1))

abbrev pub places_kept : Form → List ℤ → ℕ → Bool
places_kept f xs zero = true
places_kept f xs (suc n) = places_kept f xs n && place_kept f xs n

abbrev pub form_kept : Form → List ℤ → Bool
form_kept f xs = (length xs == size f) && places_kept f xs (size f)
