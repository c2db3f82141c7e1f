use Rattle.std.proofs.Common.{sym, refl, ◌∙◌, arith}
use Rattle.std.proofs.lemmas.List.{drop_all}
use Rattle.entry.specs.Places.{at, size}
use Rattle.entry.specs.Keeps.{AllKept}
use Rattle.entry.specs.declared.form.Form.TheVariants.{Load}
use Rattle.entry.proofs.Casts.{cast_back}
use Rattle.entry.proofs.Joined.{cons_same, firsts_and_rest}
use Rattle.entry.proofs.Parts.{whole_kept}
use Rattle.entry.proofs.load.load_row.Goals as goal

pub returns : goal.returns
returns c =
    let xs = c.args.list.now in
    let g : AllKept Load xs = c.in_ok-check.ensures in
    let w = (whole_kept Load xs g).limited in
    record {
      entered = (
        g,
        cons_same (cast_back (at xs 0) (omega arith) (w 0 (omega arith)))
            (cons_same (cast_back (at xs 1) (omega arith) (w 1 (omega arith)))
            (cons_same (cast_back (at xs 2) (omega arith) (w 2 (omega arith)))
            (sym (drop_all (size Load) xs (omega (arith, g.long))))))
            ∙ firsts_and_rest (size Load) xs (omega (arith, g.long)),
      );
      uncharged = refl;
    }
