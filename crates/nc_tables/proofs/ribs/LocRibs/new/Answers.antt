use Rattle.std.proofs.Common.{◌≡◌, List, Vec, Global, [], length, replicate, get_or, ap, ◌∙◌, arith}
use Rattle.nc_tables.specs.declared.bgp.Chosen.{Chosen}
use Rattle.nc_tables.specs.LocRibs.{rows_by}
use Rattle.nc_tables.specs.Rounds.{BgpRowView}
use Rattle.nc_tables.proofs.Choices.{no_choices, none_by}
use Rattle.nc_tables.proofs.NoRoutes.{all_empty}
use Rattle.nc_tables.proofs.ribs.LocRibs.new.Goals as goal

pub invariant_of-result : goal.invariant_of-result
invariant_of-result c = (
  c.requires,
  (λ k d lt. let t = get_or c.routers.routers.items k d in no_choices c.args.prefixes.items t.items (c.routers.invariant.each k d lt) (c.routers.invariant.none k d lt)),
)

pub returns-clause-rows : goal.returns-clause-rows
returns-clause-rows c =
    all_empty (λ (t : Vec (List Chosen) Global). rows_by _ t.items) c.routers.routers.items (λ k d lt. none_by _ (get_or c.routers.routers.items k d).items (c.routers.invariant.none k d lt))
    ∙ ap (λ n. replicate {A = List BgpRowView} n []) (let count : length c.routers.routers.items ≡ c.args.count = omega (arith, c.routers.invariant.count) in count)
