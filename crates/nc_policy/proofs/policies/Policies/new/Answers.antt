use Rattle.std.proofs.Common.{◌≡◌, ◌<◌, ℕ, List, Some, length, map, refl, ap, sym, subst, ◌∙◌, arith}
use Rattle.std.specs.Prelude.{slice_get}
use Rattle.std.proofs.lemmas.List.{length-map, length_push}
use Rattle.nc_types.specs.Config.{ConfigView, config_view}
use Rattle.nc_policy.specs.declared.router_index.RouterIndex.{RouterIndex}
use Rattle.nc_policy.specs.Indexes.{AreTablesOf}
use Rattle.nc_policy.specs.Seen.{router_tables, IsIndexed}
use Rattle.nc_types.specs.WellFormed.{IsWellFormed}
use Rattle.nc_types.proofs.Members.{all_in, in_by_get}
use Rattle.nc_policy.proofs.Permitting.{seen_at}
use Rattle.nc_policy.proofs.Tables.{pushed, each_seen}
use Rattle.nc_policy.proofs.policies.Policies.new.Goals as goal

pub routers-preserved : goal.routers-preserved
routers-preserved c =
    let configs = c.routers-configs.result.now in
    let config = c.config-item.result in
    let old = c.routers.routers.items in
    let table = c.in_ok-tables.tables in
    let within : c.routers.config-index < length configs = omega arith in
    let at : slice_get (map config_view configs) (length old) ≡ Some (config_view config) =
    ap (slice_get (map config_view configs)) c.routers.invariant.count ∙ seen_at config_view configs configs c.routers.config-index config refl within c.config-item.is in
    record {
      count = omega (arith, ap (length {A = RouterIndex}) c.in_ok-push.ensures.items, length_push old table);
      each = pushed IsIndexed (map config_view configs) old c.push.new.self.items (config_view config) table c.in_ok-push.ensures.items at c.in_ok-tables.ensures c.routers.invariant.each;
    }

pub returns : goal.returns
returns c =
    let configs = c.routers-configs.result.now in
    let all : c.routers.config-index ≡ length configs = omega arith in
    record {
      count = length-map c.routers.routers.items router_tables ∙ c.routers.invariant.count ∙ all ∙ sym (length-map configs config_view) ∙ ap (length {A = ConfigView}) c.routers-configs.ensures.routers;
      each = each_seen AreTablesOf router_tables c.args.network.now c.routers.routers.items (subst (λ (cs : List ConfigView). (k : ℕ) (r : ConfigView) (x : RouterIndex) → slice_get cs k ≡ Some r → slice_get c.routers.routers.items k ≡ Some x → IsIndexed r x) c.routers-configs.ensures.routers c.routers.invariant.each);
    }

pub new-requires-clause-formed : goal.new-requires-clause-formed
new-requires-clause-formed c =
    let configs = c.routers-configs.result.now in
    let config = config_view c.config-item.result in
    let place = c.routers.config-index in
    let within : place < length configs = omega arith in
    let at = seen_at config_view configs configs place c.config-item.result refl within c.config-item.is in
    all_in IsWellFormed c.args.network.now c.routers-configs.ensures.valid.each config (in_by_get c.args.network.now place config (sym (ap (λ (cs : List ConfigView). slice_get cs place) c.routers-configs.ensures.routers) ∙ at))
