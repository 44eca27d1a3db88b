use Rattle.std.proofs.Common.{[], All, List, get_or, sym, ap, subst, ◌∙◌}
use Rattle.nc_tables.specs.LocRibs.{IsNumbered}
use Rattle.nc_tables.specs.declared.ribs.Numbered.{Numbered}
use Rattle.nc_round.specs.Parts.{cut_at}
use Rattle.nc_round.specs.Rows.{listed}
use Rattle.nc_round.proofs.OfRouter.{all_cut, all_over_rows}
use Rattle.nc_round.proofs.by_router.by_router.Goals as goal

pub returns-clause-each : goal.returns-clause-each
returns-clause-each c r lt =
    ap (λ (all : List Numbered). get_or (listed (cut_at all c.in_ok-parts.parts.items)) r []) c.in_ok-all.ensures ∙ c.in_ok-parts.ensures.each r lt

pub returns-clause-numbers : goal.returns-clause-numbers
returns-clause-numbers c prefixes are =
    all_cut (IsNumbered prefixes) c.in_ok-all.all.items c.in_ok-parts.parts.items (subst (All (IsNumbered prefixes)) (sym c.in_ok-all.ensures) (all_over_rows (IsNumbered prefixes) c.args.changed.now are))
