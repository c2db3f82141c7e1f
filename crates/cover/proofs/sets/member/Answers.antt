use Rattle.std.proofs.Common.{◌/◌, ◌^◌, eqb, ap, ◌∙◌}
use lib.Bits.{bit_and}
use Rattle.least.specs.Chains.{mem}
use Rattle.cover.specs.Sets.{mask_at}
use Rattle.cover.proofs.SetMasks.{mask_member, tabulated, tabulated_at}
use Rattle.cover.proofs.sets.member.Goals as goal

pub returns : goal.returns
unfolding mem mask_at tabulated
returns c =
    ap (λ m. eqb (bit_and (m / 2 ^ c.args.j) 1) 1) (tabulated_at mask_at 144 c.args.k c.requires.number)
    ∙ mask_member c.args.k c.args.j c.requires.number c.requires.place
