use Rattle.rows.specs.Rows.{plain_figures}
use Rattle.entry.specs.Numbers.{figures_numbers}
use Rattle.entry.specs.declared.form.Form.TheVariants.{Figures}
use Rattle.cases.proofs.Kept.{read_when_kept}
use Rattle.cases.proofs.entered.qse.Goals as goal

pub unwrap-requires : goal.unwrap-requires
unwrap-requires c = read_when_kept Figures (λ q. figures_numbers q.number (plain_figures q.figures)) c.args.list.now _ c.requires c.qse_row.ensures.entered
