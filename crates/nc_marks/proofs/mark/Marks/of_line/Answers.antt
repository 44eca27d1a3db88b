use Rattle.std.proofs.Common.{◌<◌, subst, sym}
use Rattle.nc_marks.proofs.OwnerLemmas.{owner-within}
use Rattle.nc_marks.proofs.mark.Marks.of_line.Goals as goal

pub of_element-requires : goal.of_element-requires
of_element-requires c = subst (λ n. c.in-Some.element.0 < n) (sym c.requires)
    (owner-within c.args.network.now c.args.router.0 c.args.line c.in-Some.element.0 (sym c.in-Some.ensures))
