use Rattle.std.proofs.Common.{◌∙◌}
use Rattle.account.proofs.LineParts.{room_is, capability_is, offline_is, loadpart_is}
use Rattle.account.proofs.line.Line.of.Goals as goal

pub returns : goal.returns
returns c =
    let plan = c.of-plan.ensures in
    let room = c.of-plan.result.is in
    let each = c.capabilities-capability.ensures in
    record {
      room = room_is _ _ _ _ plan room each;
      capability = capability_is _ _ _ _ plan room each;
      available = c.available.ensures.value;
      offline = c.off_line_part.ensures.value ∙ offline_is _ _ _ _ plan room each;
      loadpart = c.load_part.ensures.value ∙ loadpart_is _ _ _ _ plan room each c.args.row.now.kind;
    }
