use Rattle.std.proofs.Common.{Some, sym, ap, ◌∙◌}
use Rattle.nc_types.specs.Cidr.{Cidr}
use Rattle.nc_lines.proofs.NumberLemmas.{around_of-not_two, around_of-no_address, around_of-no_len, around_of-made}
use Rattle.nc_lines.proofs.numbers.read_around.Goals as goal

pub returns-in_err-address : goal.returns-in_err-address
returns-in_err-address c = c.from_residual.ensures ∙ sym (around_of-not_two c.args.word.now c.in_err-address.ensures)

pub returns-in_err-address-2 : goal.returns-in_err-address-2
returns-in_err-address-2 c = c.from_residual-in_err-address-2.ensures ∙ sym (around_of-no_address c.args.word.now _ _ c.in_ok-address.ensures (sym c.in_err-address-2.ensures))

pub returns-in_err-len : goal.returns-in_err-len
returns-in_err-len c = c.from_residual-in_err-len.ensures ∙ sym (around_of-no_len c.args.word.now _ _ _ c.in_ok-address.ensures (sym c.in_ok-address-2.ensures) (sym c.in_err-len.ensures.number))

pub returns : goal.returns
returns c = ap (λ (p : Cidr). Some p) c.around.ensures ∙ sym (around_of-made c.args.word.now _ _ _ _ c.in_ok-address.ensures (sym c.in_ok-address-2.ensures) (sym c.in_ok-len.ensures.number))
