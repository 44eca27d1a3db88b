use Rattle.std.proofs.Common.{◌≡◌, ℕ, List, refl, ap, sym, ◌∙◌, arith, Some, None}
use Rattle.std.proofs.lemmas.List.{length-map}
use Rattle.nc_types.specs.Config.{clause_view, config_view}
use Rattle.nc_types.specs.declared.config.RouterConfig.{RouterConfig}
use Rattle.nc_tables.specs.declared.bgp.Route.{Route}
use Rattle.nc_tables.specs.Policy.{Permit, deciding}
use Rattle.nc_policy.specs.Views.{asked, candidate_view}
use Rattle.nc_policy.proofs.Few.{few_clauses}
use Rattle.nc_policy.proofs.Verdicts.{decides_alike, names_alike, undecided, denied, permitted}
use Rattle.nc_policy.proofs.route_map.judge.Goals as goal

alike : (config : RouterConfig) (name : List ℕ) (r : Route) (held : List ℕ) → held ≡ r.communities → deciding (config_view config) name (asked r.prefix held) ≡ deciding (config_view config) name r
alike config name r held is = decides_alike (config_view config) r r.prefix held refl (sym is) name

pub returns-in_default : goal.returns-in_default
returns-in_default c = undecided (config_view c.args.config.now) c.args.map.now c.args.route.now (c.in_default.ensures.deciding ∙ alike c.args.config.now c.args.map.now c.args.route.now c.of-held.result c.of-held.ensures.held)

pub returns-then-not-found : goal.returns-then-not-found
returns-then-not-found c =
    let found = c.in-Some.found in
    denied (config_view c.args.config.now) c.args.map.now c.args.route.now (candidate_view found) found.names (c.in-Some.ensures.deciding ∙ alike c.args.config.now c.args.map.now c.args.route.now c.of-held.result c.of-held.ensures.held)
    (c.in-Some.ensures.candidate.names ∙ names_alike (config_view c.args.config.now) c.args.route.now c.args.route.now.prefix c.of-held.result refl (sym c.of-held.ensures.held) (clause_view found.clause.now)) c.if-not-found.true

pub returns-in_default-2 : goal.returns-in_default-2
returns-in_default-2 c =
    let found = c.in-Some.found in
    permitted (config_view c.args.config.now) c.args.map.now c.args.route.now (candidate_view found) found.names (c.in-Some.ensures.deciding ∙ alike c.args.config.now c.args.map.now c.args.route.now c.of-held.result c.of-held.ensures.held)
    (c.in-Some.ensures.candidate.names ∙ names_alike (config_view c.args.config.now) c.args.route.now c.args.route.now.prefix c.of-held.result refl (sym c.of-held.ensures.held) (clause_view found.clause.now)) c.if-not-found.false None
    (sym c.in_default-2.is ∙ c.in_ok-changed.ensures)

pub place_number-requires : goal.place_number-requires
place_number-requires c = let few = few_clauses c.args.config.now c.requires.formed in omega (arith, c.in-Some.ensures.candidate.within, length-map c.args.config.now.clauses.items clause_view)

pub returns : goal.returns
returns c =
    let found = c.in-Some.found in
    let changed = c.in-Some-2.changed in
    ap (λ (n : ℕ). Permit changed n found.names) c.place_number.ensures
    ∙ permitted (config_view c.args.config.now) c.args.map.now c.args.route.now (candidate_view found) found.names (c.in-Some.ensures.deciding ∙ alike c.args.config.now c.args.map.now c.args.route.now c.of-held.result c.of-held.ensures.held)
    (c.in-Some.ensures.candidate.names ∙ names_alike (config_view c.args.config.now) c.args.route.now c.args.route.now.prefix c.of-held.result refl (sym c.of-held.ensures.held) (clause_view found.clause.now)) c.if-not-found.false (Some changed)
    (sym c.in-Some-2.is ∙ c.in_ok-changed.ensures)
