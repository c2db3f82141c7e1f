use Rattle.std.proofs.Common.{◌≡◌, length, pos, sym, ◌∙◌, arith}
use Rattle.std.proofs.lemmas.List.{take_rest}
use Rattle.rows.proofs.CodeRead.{code_of_number}
use Rattle.rows.specs.Codes.{kind_number}
use Rattle.rows.specs.Rows.{plain_side}
use Rattle.entry.specs.Places.{at, resource_head, resource_side}
use Rattle.entry.specs.Keeps.{AllKept}
use Rattle.entry.specs.declared.form.Form.TheVariants.{Resource}
use Rattle.entry.proofs.Casts.{cast_back, read_back, mark_back, cast_least}
use Rattle.entry.proofs.Joined.{cons_same, append_same, firsts_and_rest}
use Rattle.entry.proofs.Parts.{whole_kept, sides_kept}
use Rattle.entry.proofs.Ruled.{mark_unset, none_marked, no_potential, lsl_up}
use Rattle.entry.proofs.resource.resource_row.Goals as goal

pub decommitted_at-requires-clause-rule : goal.decommitted_at-requires-clause-rule
decommitted_at-requires-clause-rule c =
    let xs = c.args.list.now in
    let g : AllKept Resource xs = c.in_ok-check.ensures in
    let w = (whole_kept Resource xs g).limited in
    rw (read_back (at xs 4) (omega arith) (w 4 (omega arith)), read_back (at xs 3) (omega arith) (w 3 (omega arith))) (g.each 4 (omega arith)).ruled

pub resource_side-requires : goal.resource_side-requires
resource_side-requires c =
    (_, (sides_kept Resource (length resource_head) (length resource_side) c.args.list.now c.in_ok-check.ensures (omega arith) c.split_at.ensures.front c.split_at.ensures.back).0)

pub resource_side-requires-2 : goal.resource_side-requires-2
resource_side-requires-2 c =
    (_, (sides_kept Resource (length resource_head) (length resource_side) c.args.list.now c.in_ok-check.ensures (omega arith) c.split_at.ensures.front c.split_at.ensures.back).1)

-- the number, the marks, the kW before, the potentials and the lower limits, in the order of the row's ghost fields
pub invariant_of-result : goal.invariant_of-result
invariant_of-result c =
    let xs = c.args.list.now in
    let g : AllKept Resource xs = c.in_ok-check.ensures in
    let w = (whole_kept Resource xs g).limited in
    let kind = c.unwrap.result in
    let y : at xs 1 ≡ pos (kind_number kind) = sym (code_of_number kind_number 1 4 c.try_from.ensures c.unwrap.ensures ∙ read_back (at xs 1) (omega arith) (w 1 (omega arith))) in
    let s = plain_side c.resource_side.result in
    let t = plain_side c.resource_side-2.result in
    let es = c.resource_side.ensures in
    let et = c.resource_side-2.ensures in
    let sides = sides_kept Resource (length resource_head) (length resource_side) xs g (omega arith) c.split_at.ensures.front c.split_at.ensures.back in
    record {
      named = cast_least (at xs 0) (omega arith) (w 0 (omega arith));
      marks = λ m. (mark_unset kind (at xs 2) (at xs 1) y (g.each 2 (omega arith)).ruled m, none_marked kind c.decommitted_at.result (at xs 3) (at xs 1) y (g.each 3 (omega arith)).ruled m (c.decommitted_at.ensures.mark ∙ read_back (at xs 3) (omega arith) (w 3 (omega arith))));
      instead = c.decommitted_at.ensures.limit;
      wind = λ m. (no_potential kind (at xs 1) y _ s sides.0 es m, no_potential kind (at xs 1) y _ t sides.1 et m);
      charging = λ m. (lsl_up kind (at xs 1) y _ s sides.0 es m, lsl_up kind (at xs 1) y _ t sides.1 et m);
    }

pub returns : goal.returns
returns c =
    let xs = c.args.list.now in
    let g : AllKept Resource xs = c.in_ok-check.ensures in
    let w = (whole_kept Resource xs g).limited in (
      g,
      cons_same (cast_back (at xs 0) (omega arith) (w 0 (omega arith)))
          (cons_same (code_of_number kind_number 1 4 c.try_from.ensures c.unwrap.ensures ∙ read_back (at xs 1) (omega arith) (w 1 (omega arith)))
          (cons_same (mark_back (at xs 2) (w 2 (omega arith)))
          (cons_same (c.decommitted_at.ensures.mark ∙ read_back (at xs 3) (omega arith) (w 3 (omega arith)))
          (cons_same (c.decommitted_at.ensures.kw ∙ read_back (at xs 4) (omega arith) (w 4 (omega arith)))
          (append_same c.resource_side.ensures c.resource_side-2.ensures ∙ sym c.split_at.ensures.by_index.0 ∙ take_rest xs (length resource_head))))))
          ∙ firsts_and_rest (length resource_head) xs (omega (arith, g.long)),
    )
