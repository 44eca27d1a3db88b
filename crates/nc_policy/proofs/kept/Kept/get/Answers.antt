use Rattle.std.proofs.Common.{◌≡◌, ℕ, List, [], Some, Option, ap, subst, ◌∙◌}
use Rattle.std.specs.Option.{option_map}
use Rattle.nc_policy.specs.declared.kept.Asked.{Asked}
use Rattle.nc_policy.specs.declared.statements.PrefixIndex.{PrefixIndex}
use Rattle.nc_policy.specs.Decisions.{decision_or, table_in}
use Rattle.nc_policy.specs.Indexes.{placed_in}
use Rattle.nc_policy.specs.Seen.{asked_view, prefix_table}
use Rattle.nc_policy.proofs.Permitting.{read_at, seen_at}
use Rattle.nc_policy.proofs.Tabling.{answer_right}
use Rattle.nc_types.specs.Config.{ConfigView}
use Rattle.nc_policy.specs.declared.askers.Asker.{Asker}
use Rattle.nc_policy.specs.Kept.{AreAskers, IsUnmet}
use Rattle.nc_policy.proofs.Ranging.{none_bare}
use Rattle.nc_policy.proofs.kept.Kept.get.Goals as goal

-- a route without communities meets no clause that asks for some
bare : (config : ConfigView) (name : List ℕ) (askers : List Asker) → AreAskers config name askers → IsUnmet config name []
bare config name askers are j k at asked = are.unmet j k at asked [] (none_bare askers j)

pub returns-in-Some : goal.returns-in-Some
returns-in-Some c = λ config name are kept own.
    let some = c.in-Some-Some in
    let read = some.ensures.lookup in
    let seen = seen_at (option_map asked_view) c.args.self.now.asked.items c.deref.result.now c.args.asking.map some.field-0.now c.deref.ensures.value read.3.0 read.1 in
    let is = are.each c.args.asking.map name (asked_view some.asked) own (seen ∙ ap (λ (o : Option Asked). Some (option_map asked_view o)) some.field-0-is) in
    record {
      askers = is.askers;
      decided = is.flat c.in-Some.decided c.in-Some.is c.args.asking.prefix [] (bare config name some.asked.askers is.askers);
    }

pub returns : goal.returns
returns c = λ config name are kept own.
    let some = c.in-Some-Some in
    let read = some.ensures.lookup in
    let seen = seen_at (option_map asked_view) c.args.self.now.asked.items c.deref.result.now c.args.asking.map some.field-0.now c.deref.ensures.value read.3.0 read.1 in
    let at = read_at c.args.self.now.asked.items c.deref.result.now c.args.asking.map some.field-0.now c.deref.ensures.value read.3.0 read.1 in
    let is = are.each c.args.asking.map name (asked_view some.asked) own (seen ∙ ap (λ (o : Option Asked). Some (option_map asked_view o)) some.field-0-is) in
    let table = c.in-Some-table.table in
    let found =
    subst (λ (x : PrefixIndex). option_map (decision_or table) (placed_in (prefix_table x) c.args.asking.prefix) ≡ Some c.in_ok-decided.decided) c.as_ref.ensures c.in_ok-decided.ensures in
    record {
      askers = is.askers;
      decided =
          answer_right config (prefix_table c.args.self.now.numbers.value) c.args.self.now.asked.items c.args.asking.map name some.field-0.now table c.args.asking.prefix (Some c.in_ok-decided.decided) kept own at
          (ap table_in some.field-0-is ∙ c.in-Some-table.is) found [] (bare config name some.asked.askers is.askers);
    }
