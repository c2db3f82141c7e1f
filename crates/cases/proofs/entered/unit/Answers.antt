use Rattle.rows.specs.Rows.{plain_resource}
use Rattle.entry.specs.Numbers.{resource_numbers}
use Rattle.entry.specs.declared.form.Form.TheVariants.{Resource}
use Rattle.cases.proofs.Kept.{read_when_kept}
use Rattle.cases.proofs.entered.unit.Goals as goal

pub unwrap-requires : goal.unwrap-requires
unwrap-requires c = read_when_kept Resource (λ q. resource_numbers (plain_resource q)) c.args.list.now _ c.requires c.resource_row.ensures
