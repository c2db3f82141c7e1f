use Rattle.rows.specs.Rows.{plain_trade}
use Rattle.entry.specs.Numbers.{trade_numbers}
use Rattle.entry.specs.declared.form.Form.TheVariants.{Trade}
use Rattle.cases.proofs.Kept.{read_when_kept}
use Rattle.cases.proofs.entered.trade.Goals as goal

pub unwrap-requires : goal.unwrap-requires
unwrap-requires c = read_when_kept Trade (λ q. trade_numbers (plain_trade q)) c.args.list.now _ c.requires c.trade_row.ensures.entered
