use Rattle.std.proofs.Common.{◌∙◌, arith}
use Rattle.std.proofs.lemmas.Int.{ints}
use Rattle.entry.specs.Places.{at, resource_side, offered_at, cop_at, qualified_at, sub_types}
use Rattle.entry.proofs.Casts.{cast_back, read_back, signed_back}
use Rattle.entry.proofs.Joined.{cons_same, append_same, firsts_and_rest, three_parts}
use Rattle.entry.proofs.Parts.{inner_kept}
use Rattle.entry.proofs.resource.resource_side.Goals as goal

pub nine-requires : goal.nine-requires
nine-requires c = (c.requires.0, inner_kept offered_at sub_types resource_side c.requires.0 c.args.list.now c.requires.1 (omega arith))

pub nine-requires-2 : goal.nine-requires-2
nine-requires-2 c = (c.requires.0, inner_kept cop_at sub_types resource_side c.requires.0 c.args.list.now c.requires.1 (omega arith))

pub nine-requires-3 : goal.nine-requires-3
nine-requires-3 c = (c.requires.0, inner_kept qualified_at sub_types resource_side c.requires.0 c.args.list.now c.requires.1 (omega arith))

pub invariant_of-result : goal.invariant_of-result
invariant_of-result c =
    let h = c.requires.1.limited 1 (omega arith) in
    let l = c.requires.1.limited 2 (omega arith) in
    let p = c.requires.1.limited 3 (omega arith) in
    let span = (c.requires.1.ruled 1 (omega arith)).0 in
    record { powers = (omega (arith, ints), omega (arith, ints)); span = (omega (arith, ints), omega (arith, ints)) }

pub returns : goal.returns
returns c =
    let xs = c.args.list.now in
    let w = c.requires.1.limited in
    cons_same (c.status_of.ensures ∙ read_back (at xs 0) (omega arith) (w 0 (omega arith)))
    (cons_same (cast_back (at xs 1) (omega arith) (w 1 (omega arith)))
    (cons_same (signed_back (at xs 2) (w 2 (omega arith)))
    (cons_same (cast_back (at xs 3) (omega arith) (w 3 (omega arith)))
    (append_same c.nine.ensures (append_same c.nine-2.ensures c.nine-3.ensures) ∙ three_parts offered_at sub_types xs c.requires.1.long))))
    ∙ firsts_and_rest offered_at xs (omega (arith, c.requires.1.long))
