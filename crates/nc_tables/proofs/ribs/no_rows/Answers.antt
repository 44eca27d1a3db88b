use Rattle.std.proofs.Common.{◌≡◌, ◌+◌, List, Vec, Global, [], All, length, map, replicate, sym, ap, subst, ◌∙◌, arith, rules}
use Rattle.std.proofs.lemmas.List.{length_push}
use Rattle.std.proofs.lemmas.List.Elements.{All-push}
use Rattle.nc_tables.specs.declared.bgp.BgpRow.{BgpRow}
use Rattle.nc_tables.specs.Rounds.{BgpRowView, bgp_row_view}
use Rattle.nc_tables.proofs.NoRoutes.{all_empty}
use Rattle.nc_tables.proofs.ribs.no_rows.Goals as goal

pub routers-preserved : goal.routers-preserved
routers-preserved c = record {
  count = ap length (c.in_ok-push.ensures).items ∙ length_push c.routers.own.items c.new.result ∙ ap (λ n. n + 1) c.routers.invariant.count;
  none = subst (All (λ (rows : Vec BgpRow Global). rows.items ≡ [])) (sym (c.in_ok-push.ensures).items) (All-push (λ (rows : Vec BgpRow Global). rows.items ≡ []) c.routers.own.items c.new.result c.routers.invariant.none (search rules));
}

pub returns : goal.returns
returns c =
    all_empty (λ (rows : Vec BgpRow Global). map bgp_row_view rows.items) c.routers.own.items (λ k d lt. ap (map bgp_row_view) (c.routers.invariant.none k d lt))
    ∙ ap (λ n. replicate {A = List BgpRowView} n []) (let count : length c.routers.own.items ≡ c.args.count = omega (arith, c.routers.invariant.count) in count)
