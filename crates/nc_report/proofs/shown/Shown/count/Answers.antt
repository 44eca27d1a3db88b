use Rattle.std.proofs.Common.{◌∙◌, List, ap, sym, arith}
use Rattle.std.specs.List.{flat_map}
use Rattle.std.proofs.lemmas.List.{get_or_default}
use Rattle.nc_report.specs.Texts.{Sheet, count_of}
use Rattle.nc_report.proofs.Counting.{count-flat}
use Rattle.nc_report.proofs.shown.Shown.count.Goals as goal

pub returns : goal.returns
returns c =
    let counts = c.self.inside.counts.items in
    c.index.ensures ∙ get_or_default counts c.args.sign c.index.result.now 0 (omega (arith, c.self.invariant.len, c.ranges.sign.fits))
    ∙ c.self.invariant.each c.args.sign (omega (arith, c.ranges.sign.fits)) ∙ sym (count-flat c.args.sign c.self.inside.listing)
    ∙ ap (λ (ss : List Sheet). count_of c.args.sign (flat_map (λ s. s.letters) ss)) c.self.view_is
