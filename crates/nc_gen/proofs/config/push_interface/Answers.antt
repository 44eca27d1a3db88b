use Rattle.std.proofs.Common.{◌∷◌, [], ◌∙◌}
use Rattle.nc_gen.specs.Files.{interface_line, address_line}
use Rattle.nc_gen.proofs.TextLemmas.{then-text, one-line}
use Rattle.nc_gen.proofs.config.push_interface.Goals as goal

pub returns : goal.returns
returns c =
    let first = interface_line c.args.place in
    let second = address_line c.args.addr.0 c.args.mask.now in
    then-text _ _ _ (first ∷ []) (second ∷ [])
    (one-line _ _ _ first c.in_ok-push_line.ensures (c.as_bytes.ensures.value ∙ c.in_ok-head.ensures))
    (one-line _ _ _ second c.in_ok-push_line-2.ensures (c.as_bytes-2.ensures.value ∙ c.in_ok-address.ensures))
