use Rattle.std.proofs.Common.{sym, refl, ◌∙◌, arith}
use Rattle.std.proofs.lemmas.List.{drop_all}
use Rattle.entry.specs.Places.{at, size}
use Rattle.entry.specs.Keeps.{AllKept}
use Rattle.entry.specs.declared.form.Form.TheVariants.{Trade}
use Rattle.entry.proofs.Casts.{cast_back, read_back, cast_16}
use Rattle.entry.proofs.Joined.{cons_same, firsts_and_rest}
use Rattle.entry.proofs.Parts.{whole_kept}
use Rattle.entry.proofs.trade.trade_row.Goals as goal

pub overflow_cast-result : goal.overflow_cast-result
overflow_cast-result c =
    let g : AllKept Trade c.args.list.now = c.in_ok-check.ensures in
    cast_16 (at c.args.list.now 3) (g.each 3 (omega arith)).limited

pub returns : goal.returns
returns c =
    let xs = c.args.list.now in
    let g : AllKept Trade xs = c.in_ok-check.ensures in
    let w = (whole_kept Trade xs g).limited in
    record {
      entered = (
        g,
        cons_same (c.traded_of.ensures.kind ∙ read_back (at xs 0) (omega arith) (w 0 (omega arith)))
            (cons_same (c.traded_of.ensures.sub ∙ read_back (at xs 1) (omega arith) (w 1 (omega arith)))
            (cons_same (c.sides_of.ensures ∙ read_back (at xs 2) (omega arith) (w 2 (omega arith)))
            (cons_same (cast_back (at xs 3) (omega arith) (w 3 (omega arith)))
            (cons_same (cast_back (at xs 4) (omega arith) (w 4 (omega arith)))
            (cons_same (cast_back (at xs 5) (omega arith) (w 5 (omega arith)))
            (sym (drop_all (size Trade) xs (omega (arith, g.long)))))))))
            ∙ firsts_and_rest (size Trade) xs (omega (arith, g.long)),
      );
      counting = refl;
    }
