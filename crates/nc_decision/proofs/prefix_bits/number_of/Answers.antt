use Rattle.std.proofs.Common.{◌-◌, ◌/◌, ◌%◌, ◌^◌, ap, ◌∙◌}
use Rattle.nc_decision.specs.PrefixBits.{number_of}
use Rattle.nc_decision.proofs.prefix_bits.number_of.Goals as goal

pub returns-clause-number : goal.returns-clause-number
unfolding number_of
returns-clause-number c =
    ap (λ base. base / 2 ^ (32 - c.len.result) % 64) (c.from.ensures ∙ c.addr.ensures.base)
    ∙ ap (λ len. c.args.prefix.base / 2 ^ (32 - len) % 64) c.len.ensures.len
