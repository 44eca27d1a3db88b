use Rattle.std.proofs.Common.{◌==◌, ◌||◌, take, take_all, sym, ap, ◌∙◌}
use Rattle.std.proofs.lemmas.List.Folds.{list_any_more}
use Rattle.nc_types.specs.declared.config.NetworkStatement.{NetworkStatement}
use Rattle.nc_decision.specs.PrefixBits.{has_alike, number_of}
use Rattle.nc_decision.proofs.PrefixBits.{or_turned}
use Rattle.nc_decision.proofs.prefix_bits.PrefixBits.of.Goals as goal

pub networks-preserved : goal.networks-preserved
networks-preserved c p =
    let k = c.networks.network-index in
    let item = c.network-item.result in
    let before = has_alike p (take k c.args.networks.now) in
    c.with-bits.ensures p
    ∙ ap (λ b. number_of item.prefix == number_of p || b) (c.networks.invariant p)
    ∙ or_turned (number_of item.prefix == number_of p) before
    ∙ ap (λ (n : NetworkStatement). before || number_of n.prefix == number_of p) c.network-item.is
    ∙ sym (list_any_more (λ n. number_of n.prefix == number_of p) c.args.networks.now k item c.networks-test.true)

pub returns : goal.returns
returns c p = c.networks.invariant p ∙ ap (has_alike p) (take_all c.networks.network-index c.args.networks.now c.networks-test.false)
