use Rattle.std.proofs.Common.{length, sym, ◌∙◌, arith}
use Rattle.std.proofs.lemmas.List.{take_rest}
use Rattle.entry.specs.Places.{at, figures_head, figures_side}
use Rattle.entry.specs.Keeps.{AllKept}
use Rattle.entry.specs.declared.form.Form.TheVariants.{Figures}
use Rattle.entry.proofs.Casts.{cast_back, mark_back, cast_16, cast_most}
use Rattle.entry.proofs.Joined.{cons_same, append_same, firsts_and_rest}
use Rattle.entry.proofs.Parts.{whole_kept, sides_kept}
use Rattle.entry.proofs.figures.figures_row.Goals as goal

pub figures_side-requires : goal.figures_side-requires
figures_side-requires c =
    (_, (sides_kept Figures (length figures_head) (length figures_side) c.args.list.now c.in_ok-check.ensures (omega arith) c.split_at.ensures.front c.split_at.ensures.back).0)

pub figures_side-requires-2 : goal.figures_side-requires-2
figures_side-requires-2 c =
    (_, (sides_kept Figures (length figures_head) (length figures_side) c.args.list.now c.in_ok-check.ensures (omega arith) c.split_at.ensures.front c.split_at.ensures.back).1)

pub overflow_cast-result : goal.overflow_cast-result
overflow_cast-result c =
    let g : AllKept Figures c.args.list.now = c.in_ok-check.ensures in
    cast_16 (at c.args.list.now 0) (g.each 0 (omega arith)).limited

pub invariant_of-figures : goal.invariant_of-figures
invariant_of-figures c =
    let xs = c.args.list.now in
    let g : AllKept Figures xs = c.in_ok-check.ensures in
    let w = (whole_kept Figures xs g).limited in
    record { powers = (cast_most (at xs 1) (omega arith) (w 1 (omega arith)), cast_most (at xs 2) (omega arith) (w 2 (omega arith)), cast_most (at xs 3) (omega arith) (w 3 (omega arith))) }

pub returns : goal.returns
returns c =
    let xs = c.args.list.now in
    let g : AllKept Figures xs = c.in_ok-check.ensures in
    let w = (whole_kept Figures xs g).limited in (
      g,
      cons_same (cast_back (at xs 0) (omega arith) (w 0 (omega arith)))
          (cons_same (cast_back (at xs 1) (omega arith) (w 1 (omega arith)))
          (cons_same (cast_back (at xs 2) (omega arith) (w 2 (omega arith)))
          (cons_same (cast_back (at xs 3) (omega arith) (w 3 (omega arith)))
          (cons_same (mark_back (at xs 4) (w 4 (omega arith)))
          (append_same c.figures_side.ensures c.figures_side-2.ensures ∙ sym c.split_at.ensures.by_index.0 ∙ take_rest xs (length figures_head))))))
          ∙ firsts_and_rest (length figures_head) xs (omega (arith, g.long)),
    )
