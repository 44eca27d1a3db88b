use Rattle.std.proofs.Common.{◌≡◌, ◌++◌, ◌∷◌, [], List, All, length, map, sym, ap, subst, ◌∙◌, arith}
use Rattle.std.specs.List.{range_with_len}
use Rattle.std.proofs.lemmas.List.{map_push, length-map}
use Rattle.std.proofs.lemmas.List.FromFn.{map-range_with_len_more}
use Rattle.std.proofs.lemmas.List.Elements.{All-push}
use Rattle.nc_types.specs.Config.{config_view}
use Rattle.nc_tables.specs.declared.bgp.MainRow.{MainRow}
use Rattle.nc_tables.specs.Longest.{AreByPrefix}
use Rattle.nc_tables.specs.Main.{main_table, main_tables}
use Rattle.nc_main_rib.proofs.Tabling.{few_seen}
use Rattle.nc_main_rib.proofs.tables.main_tables.Goals as goal

pub routers-preserved : goal.routers-preserved
routers-preserved c =
    let router = c.routers.router in
    let rows = c.in_ok-rows.rows in
    let table = main_table c.args.network.now c.args.base.now c.args.bgp.now in
    let items = c.in_ok-push.ensures.items in
    record {
      tables =
          ap (map (λ v. v.items)) items
          ∙ map_push (λ v. v.items) c.routers.tables.items rows
          ∙ ap (λ (l : List (List MainRow)). l ++ rows.items ∷ []) c.routers.invariant.tables
          ∙ ap (λ (l : List MainRow). map table (range_with_len 0 router) ++ l ∷ []) c.in_ok-rows.ensures.rows
          ∙ sym (map-range_with_len_more table 0 router router (omega arith));
      by_prefix = subst (λ l. All (λ v. AreByPrefix (λ (row : MainRow). row.prefix) v.items) l) (sym items) (All-push (λ v. AreByPrefix (λ (row : MainRow). row.prefix) v.items) c.routers.tables.items rows c.routers.invariant.by_prefix c.in_ok-rows.ensures.by_prefix);
    }

pub from_rows-requires : goal.from_rows-requires
from_rows-requires c =
    let network = c.args.network.now in
    let table = main_table network c.args.base.now c.args.bgp.now in
    let count : length c.routers-router-end.result.now ≡ length network = sym (length-map c.routers-router-end.result.now config_view) ∙ ap length c.routers-router-end.ensures.routers in
    let last : c.routers.router ≡ length network = omega (arith, count) in
    let same = c.routers.invariant.tables ∙ ap (λ n. map table (range_with_len 0 n)) last in
    let few = few_seen (λ v. v.items) c.routers.tables.items (main_tables network c.args.base.now c.args.bgp.now) same c.requires.few in
    λ k d lt. record { by_prefix = c.routers.invariant.by_prefix k d lt; few = few k d lt }
