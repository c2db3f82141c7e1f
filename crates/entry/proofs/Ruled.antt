-- What the rules of a resource's places say of its row.
use Rattle.std.proofs.Common.{◌≡◌, ℕ, true, false, Some, None, Option, is_some, eqb, List, ℤ, pos, ◌≤ℤ◌, sym, refl, ap, ◌∙◌, inl, inr, arith, w64, of_z}
use Rattle.std.proofs.lemmas.Int.{ints}
use Rattle.std.proofs.lemmas.Bool.{both_ways}
use borrow.Author.Tests.{clash}
use Rattle.rows.specs.Codes.{is_renewable, is_storage, is_unmarked, kind_number}
use Rattle.rows.specs.Rows.{PlainSide}
use Rattle.rows.specs.declared.codes.Kind.{Kind}
use Rattle.rows.specs.declared.codes.Kind.TheVariants.{Generation, Renewable, Storage, LoadResource}
use Rattle.entry.specs.Places.{at, resource_side}
use Rattle.entry.specs.Rules.{Marked}
use Rattle.entry.specs.Parts.{PartKept}
use Rattle.entry.specs.Numbers.{mark, side_numbers}

-- a mark that is 0 is not set, and one that is 1 is
zero_unset : (x : ℤ) → x ≡ pos 0 → eqb (of_z w64 x) 1 ≡ false
zero_unset x e = rw e refl

mark_zero : (kind : Kind) (x y : ℤ) → y ≡ pos (kind_number kind) → Marked x y → is_unmarked kind ≡ true → x ≡ pos 0
mark_zero Generation x y e m u = absurd (clash u)
mark_zero Renewable x y e m u = elim m [ inl z ↦ z | inr n ↦ absurd (n.0 e) ]
mark_zero Storage x y e m u = absurd (clash u)
mark_zero LoadResource x y e m u = elim m [ inl z ↦ z | inr n ↦ absurd (n.1 e) ]

pub mark_unset : (kind : Kind) (x y : ℤ) → y ≡ pos (kind_number kind) → Marked x y → is_unmarked kind ≡ true → eqb (of_z w64 x) 1 ≡ false
mark_unset kind x y e m u = zero_unset x (mark_zero kind x y e m u)

pub none_marked : (kind : Kind) (r : Option ℕ) (x y : ℤ) → y ≡ pos (kind_number kind) → Marked x y → is_unmarked kind ≡ true → mark (is_some r) ≡ x → r ≡ None
none_marked kind None x y e m u s = refl
none_marked kind (Some kw) x y e m u s = absurd (omega (arith, ints, s, mark_zero kind x y e m u))

numbered_renewable : (kind : Kind) → pos (kind_number kind) ≡ pos (kind_number Renewable) → is_renewable kind ≡ true
numbered_renewable Generation e = absurd (omega (arith, ints))
numbered_renewable Renewable e = refl
numbered_renewable Storage e = absurd (omega (arith, ints))
numbered_renewable LoadResource e = absurd (omega (arith, ints))

numbered_storage : (kind : Kind) → pos (kind_number kind) ≡ pos (kind_number Storage) → is_storage kind ≡ true
numbered_storage Generation e = absurd (omega (arith, ints))
numbered_storage Renewable e = absurd (omega (arith, ints))
numbered_storage Storage e = refl
numbered_storage LoadResource e = absurd (omega (arith, ints))

-- a side of a resource of this kind
module _ (kind : Kind) (y : ℤ) (same : y ≡ pos (kind_number kind)) (xs : List ℤ) (s : PlainSide) (kept : PartKept resource_side y xs) (is : side_numbers s ≡ xs) where
  pub no_potential : is_renewable kind ≡ false → s.potential ≡ 0
  no_potential n =
      let e : pos s.potential ≡ at xs 3 = ap (λ l. at l 3) is in
      elim (kept.ruled 2 (omega arith)) [ inl z ↦ omega (arith, ints) | inr r ↦ absurd (both_ways (is_renewable kind) n (numbered_renewable kind (sym same ∙ r))) ]

  pub lsl_up : is_storage kind ≡ false → pos 0 ≤ℤ s.lsl
  lsl_up n =
      let e : s.lsl ≡ at xs 2 = ap (λ l. at l 2) is in
      elim (kept.ruled 1 (omega arith)).1 [ inl z ↦ omega (arith, ints) | inr r ↦ absurd (both_ways (is_storage kind) n (numbered_storage kind (sym same ∙ r))) ]
