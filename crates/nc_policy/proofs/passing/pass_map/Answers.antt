use Rattle.std.proofs.Common.{◌<◌, ◌≤◌, ◌-◌, length, ℕ, ap, sym, ◌∙◌, arith, Some, None}
use Rattle.std.proofs.lemmas.List.{length-map}
use Rattle.nc_types.specs.Config.{clause_view, config_view}
use Rattle.std.specs.Option.{option_map}
use Rattle.nc_types.specs.declared.TheConstants.{PATH_LIMIT}
use Rattle.nc_tables.specs.Policy.{Permit, set_by}
use Rattle.nc_policy.specs.Passing.{passing_view}
use Rattle.nc_tables.specs.Rounds.{passed_by}
use Rattle.nc_policy.specs.Views.{candidate_view}
use Rattle.nc_policy.proofs.Few.{few_clauses}
use Rattle.nc_policy.proofs.Verdicts.{decides_alike, names_alike, undecided, denied, permitted, too_long, too_full, not_over}
use Rattle.nc_policy.proofs.passing.pass_map.Goals as goal

pub returns-in_err-found-clause-passed : goal.returns-in_err-found-clause-passed
returns-in_err-found-clause-passed c = λ r p l h.
    let config = config_view c.args.config.now in
    ap (option_map (passing_view r)) c.from_residual.ensures
    ∙ ap passed_by (undecided config c.args.map.now r (c.in_err-found.ensures.deciding ∙ decides_alike config r c.args.of.prefix c.args.held.now p h c.args.map.now))

pub returns-then-not-found-clause-passed : goal.returns-then-not-found-clause-passed
returns-then-not-found-clause-passed c = λ r p l h.
    let config = config_view c.args.config.now in
    let found = c.in_ok-found.found in
    ap passed_by (denied config c.args.map.now r (candidate_view found) found.names
    (c.in_ok-found.ensures.deciding ∙ decides_alike config r c.args.of.prefix c.args.held.now p h c.args.map.now)
    (c.in_ok-found.ensures.candidate.names ∙ names_alike config r c.args.of.prefix c.args.held.now p h (clause_view found.clause.now)) c.if-not-found.true)

pub returns-then-len-count-clause-passed : goal.returns-then-len-count-clause-passed
returns-then-len-count-clause-passed c = λ r p l h.
    let config = config_view c.args.config.now in
    let found = c.in_ok-found.found in
    ap passed_by (permitted config c.args.map.now r (candidate_view found) found.names
    (c.in_ok-found.ensures.deciding ∙ decides_alike config r c.args.of.prefix c.args.held.now p h c.args.map.now)
    (c.in_ok-found.ensures.candidate.names ∙ names_alike config r c.args.of.prefix c.args.held.now p h (clause_view found.clause.now)) c.if-not-found.false
    None (too_long (clause_view found.clause.now) r c.args.count l (let more : PATH_LIMIT - c.args.count < length found.clause.now.prepend.items = omega arith in more)))

pub place_number-requires : goal.place_number-requires
place_number-requires c = let few = few_clauses c.args.config.now c.requires.formed in omega (arith, c.in_ok-found.ensures.candidate.within, length-map c.args.config.now.clauses.items clause_view)

pub returns-then-not-fits-clause-passed : goal.returns-then-not-fits-clause-passed
returns-then-not-fits-clause-passed c = λ r p l h.
    let config = config_view c.args.config.now in
    let found = c.in_ok-found.found in
    ap passed_by (permitted config c.args.map.now r (candidate_view found) found.names
    (c.in_ok-found.ensures.deciding ∙ decides_alike config r c.args.of.prefix c.args.held.now p h c.args.map.now)
    (c.in_ok-found.ensures.candidate.names ∙ names_alike config r c.args.of.prefix c.args.held.now p h (clause_view found.clause.now)) c.if-not-found.false
    None (too_full (clause_view found.clause.now) r c.args.held.now h (sym c.fits.ensures ∙ c.if-not-fits.true)))

pub returns-clause-passed : goal.returns-clause-passed
returns-clause-passed c = λ r p l h.
    let config = config_view c.args.config.now in
    let found = c.in_ok-found.found in
    let k = clause_view found.clause.now in
    ap (λ (n : ℕ). passed_by (Permit (set_by k r) n found.names)) c.place_number.ensures
    ∙ ap passed_by (permitted config c.args.map.now r (candidate_view found) found.names
    (c.in_ok-found.ensures.deciding ∙ decides_alike config r c.args.of.prefix c.args.held.now p h c.args.map.now)
    (c.in_ok-found.ensures.candidate.names ∙ names_alike config r c.args.of.prefix c.args.held.now p h k) c.if-not-found.false
    (Some (set_by k r)) (not_over k r c.args.count c.args.held.now l c.requires.few (let fits : length found.clause.now.prepend.items ≤ PATH_LIMIT - c.args.count = omega arith in fits) h (sym c.fits.ensures ∙ c.if-not-fits.false)))
