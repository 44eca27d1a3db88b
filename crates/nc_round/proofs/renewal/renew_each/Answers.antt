use Rattle.std.proofs.Common.{◌≡◌, ℕ, List, [], Contains, length, map, ap, subst, sym, arith, inl, inr}
use Rattle.std.proofs.lemmas.Bool.{cases_lt}
use Rattle.std.proofs.lemmas.List.{length-map}
use Rattle.nc_types.specs.Cidr.{Cidr}
use Rattle.nc_types.specs.Config.{ConfigView, config_view}
use Rattle.nc_round.specs.Keys.{Key, key}
use Rattle.nc_round.specs.declared.changed.NumberedRow.{NumberedRow}
use Rattle.nc_round.specs.Renewing.{AreChangesOf}
use Rattle.nc_round.specs.Rows.{listed, row_key}
use Rattle.nc_round.specs.Waking.{woken_at, AreWoken}
use Rattle.nc_round.proofs.NumberedRows.{none_woken}
use Rattle.nc_round.proofs.Renewed.{none_renewed}
use Rattle.nc_round.proofs.renewal.renew_each.Goals as goal

pub routers-init : goal.routers-init
routers-init c = record {
  woken = λ router p lt some. absurd (omega arith);
  rows = subst (AreWoken 0 c.args.ribs.now.prefixes) (sym c.new.ensures.items) (none_woken c.args.ribs.now.prefixes);
  anew = subst (λ (l : List NumberedRow). AreChangesOf c.args.inputs c.args.ribs.now.prefixes c.args.ribs.now.rows l c.new-2.result.items) (sym c.new.ensures.items)
      (subst (AreChangesOf c.args.inputs c.args.ribs.now.prefixes c.args.ribs.now.rows []) (sym c.new-2.ensures.items) (none_renewed c.args.inputs c.args.ribs.now.prefixes c.args.ribs.now.rows));
}

pub routers-preserved : goal.routers-preserved
routers-preserved c =
    let number = c.routers.router in
    let W : ℕ → List Cidr = woken_at c.args.inputs c.args.ribs.now.rows (listed c.args.lists.now) in
    let keys : List Key = map row_key c.renew_at.new.renewed.rows.items in
    record {
      woken = λ router p lt some. elim (cases_lt router number) [
        | inl less ↦ c.in_ok-renew_at.ensures.kept (key router p) (c.routers.invariant.woken router p less some)
        | inr past ↦
            let same : number ≡ router = omega arith in
            subst (λ (r : ℕ). Contains keys (key r p)) same (c.in_ok-renew_at.ensures.woken p (subst (λ (r : ℕ). Contains (W r) p) (let back : router ≡ number = omega arith in back) some))
      ];
      rows = c.in_ok-renew_at.ensures.rows;
      anew = c.in_ok-renew_at.ensures.anew;
    }

pub returns-clause-woken : goal.returns-clause-woken
returns-clause-woken c router p lt some =
    c.routers.invariant.woken router p
    (omega (arith, c.routers-test.false, length-map c.routers-router-end.result.now config_view, ap (length {A = ConfigView}) c.routers-router-end.ensures.routers)) some

pub returns-clause-rows : goal.returns-clause-rows
returns-clause-rows c =
    let all : c.routers.router ≡ length c.args.inputs.network.now = omega (arith, c.routers-test.false, length-map c.routers-router-end.result.now config_view, ap (length {A = ConfigView}) c.routers-router-end.ensures.routers) in
    subst (λ (n : ℕ). AreWoken n c.args.ribs.now.prefixes c.routers.made.rows.items) all c.routers.invariant.rows
