use Rattle.std.proofs.Common.{◌≡◌, ◌+◌, ◌++◌, ◌∷◌, [], List, ℕ, map, drop, length, ap, sym, ◌∙◌, arith}
use Rattle.std.proofs.lemmas.List.{append_assoc}
use Rattle.nc_types.specs.Config.{config_view}
use Rattle.nc_types.specs.Tables.{offsets_from}
use Rattle.nc_types.proofs.Offsets.{count_step, offsets_step}
use Rattle.nc_types.proofs.network.elements.element_offsets.Goals as goal

pub overflow_cast-first : goal.overflow_cast-first
overflow_cast-first c = omega (arith, count_step c.args.routers.now c.routers.config-index c.config-item.result c.config-item.is c.routers-test.true)

pub overflow_add-first : goal.overflow_add-first
overflow_add-first c = omega (arith, count_step c.args.routers.now c.routers.config-index c.config-item.result c.config-item.is c.routers-test.true)

pub routers-preserved : goal.routers-preserved
routers-preserved c = record {
  offsets =
      let first : ℕ = c.routers.first in
      let rest : List ℕ = offsets_from (first + length c.config-item.result.elements.items) (drop (c.routers.config-index + 1) (map config_view c.args.routers.now)) in
      let step = offsets_step c.args.routers.now c.routers.config-index c.config-item.result c.config-item.is c.routers-test.true first in
      let count : c.len.result ≡ length c.config-item.result.elements.items = omega arith in
      rw (c.in_ok-push.ensures.items, count) (append_assoc c.routers.offsets.items (first ∷ []) rest ∙ ap (λ (ks : List ℕ). c.routers.offsets.items ++ ks) (sym step) ∙ c.routers.invariant.offsets);
  count = omega (arith, count_step c.args.routers.now c.routers.config-index c.config-item.result c.config-item.is c.routers-test.true);
}
