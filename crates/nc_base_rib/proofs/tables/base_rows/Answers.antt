use Rattle.std.proofs.Common.{◌≡◌, sym, ap, subst, ◌∙◌, List, filter}
use Rattle.std.specs.List.{AllPairs}
use Rattle.std.specs.declared.cmp.Ordering.TheVariants.{Less}
use Rattle.nc_types.specs.Config.{config_view}
use Rattle.nc_tables.specs.declared.base.BaseRow.{BaseRow}
use Rattle.nc_tables.specs.Base.{from_cmp, row_cmp, is_nearest, base_table}
use Rattle.nc_tables.specs.Order.{in_order}
use Rattle.nc_base_rib.proofs.Outcome.{if_ok}
use Rattle.nc_base_rib.proofs.Places.{places_rise}
use Rattle.nc_base_rib.proofs.tables.base_rows.Goals as goal

pub nearest_rows-requires : goal.nearest_rows-requires
nearest_rows-requires c = subst (λ (l : List BaseRow). AllPairs (λ (a b : BaseRow). from_cmp a.from b.from ≡ Less) l) (sym c.in_ok-candidates.ensures) (places_rise (config_view c.args.config.now))

pub returns-clause-table : goal.returns-clause-table
unfolding base_table
returns-clause-table c =
    let config = config_view c.args.config.now in
    let same = ap (λ (l : List BaseRow). in_order row_cmp (filter (is_nearest l) l)) c.in_ok-candidates.ensures in
    if_ok (λ kept. kept.items ≡ in_order row_cmp (filter (is_nearest c.in_ok-candidates.candidates.items) c.in_ok-candidates.candidates.items)) (λ rows. rows.items ≡ base_table config) (λ rows e. e ∙ same) c.nearest_rows.result c.nearest_rows.ensures.nearest
