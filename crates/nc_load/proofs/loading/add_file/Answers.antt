use Rattle.std.proofs.Common.{◌≡◌, ◌++◌, All, [], ◌∷◌, map, ap, sym, subst, ◌∙◌}
use Rattle.std.proofs.lemmas.List.{map-append}
use Rattle.std.proofs.lemmas.Option.{IfSome_then}
use Rattle.std.proofs.lemmas.List.Elements.{All-nil, All-cons, All-append}
use Rattle.nc_types.specs.declared.config.RouterConfig.{RouterConfig}
use Rattle.nc_types.specs.Config.{config_view}
use Rattle.nc_load.specs.Loading.{IsConfigured}
use Rattle.nc_load.proofs.loading.add_file.Goals as goal

pub returns-clause-read : goal.returns-clause-read
returns-clause-read g c all =
    let holds = λ (x : RouterConfig). IsConfigured (config_view x) in
    subst (All holds) (sym c.in_ok-push-2.ensures.items)
    (All-append holds c.args.each.now.configs.items (c.in_ok-one.one.config ∷ []) all (All-cons holds c.in_ok-one.one.config [] c.in_ok-one.ensures.read (All-nil holds)))

pub returns-clause-loaded : goal.returns-clause-loaded
returns-clause-loaded g c =
    let one = config_view c.in_ok-one.one.config in
    let old = c.args.each.now.configs.items in
    let added : map config_view c.push-2.new.self.items ≡ map config_view old ++ one ∷ [] =
    ap (map config_view) c.in_ok-push-2.ensures.items ∙ map-append config_view old (c.in_ok-one.one.config ∷ []) in
    IfSome_then (g.F.Files.files c.args.files.now) c.in_ok-one.ensures.loaded (λ fs is. (one, is, added))
