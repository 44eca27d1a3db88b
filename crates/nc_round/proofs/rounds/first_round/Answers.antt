use Rattle.std.proofs.Common.{List, sym, ap, subst, ◌∙◌}
use Rattle.nc_types.specs.Cidr.{Cidr}
use Rattle.nc_tables.specs.LocRibs.{Ascend}
use Rattle.nc_tables.specs.Rounds.{no_routes}
use Rattle.nc_round.specs.Next.{next_of}
use Rattle.nc_round.proofs.NextRows.{prefixes_up}
use Rattle.nc_round.proofs.rounds.first_round.Goals as goal

pub first_by-requires-clause-ordered : goal.first_by-requires-clause-ordered
first_by-requires-clause-ordered c = subst Ascend (sym (c.deref.ensures.value ∙ c.in_ok-likeness.ensures.all)) (prefixes_up c.args.inputs.network.now)

pub returns-clause-prefixes : goal.returns-clause-prefixes
returns-clause-prefixes c = c.in_ok-made.ensures.prefixes ∙ c.deref.ensures.value ∙ c.in_ok-likeness.ensures.all

pub returns-clause-table : goal.returns-clause-table
returns-clause-table c = c.in_ok-made.ensures.table ∙ ap (λ (ps : List Cidr). next_of ps c.args.inputs (no_routes c.args.inputs.network.now)) (c.deref.ensures.value ∙ c.in_ok-likeness.ensures.all)
