use Rattle.std.proofs.Common.{◌==◌, Some, sym, ap, ◌∙◌, arith}
use Rattle.std.specs.List.{list_any}
use Rattle.nc_decision.proofs.Bare.{bare_learnt, bare_held, bare_long}
use Rattle.nc_decision.proofs.feasible.feasible_bare.Goals as goal

pub returns-then-contains-clause-feasible : goal.returns-then-contains-clause-feasible
returns-then-contains-clause-feasible c tables router k is =
    bare_held tables router c.args.place k c.args.bare.now is c.args.best.now
    (ap (list_any (λ n. n == c.args.bare.now.receiver)) (sym c.path.ensures) ∙ sym c.contains.ensures ∙ c.if-contains.true)

pub returns-then-path_length-ge-PATH_LIMIT-clause-feasible : goal.returns-then-path_length-ge-PATH_LIMIT-clause-feasible
returns-then-path_length-ge-PATH_LIMIT-clause-feasible c tables router k is =
    bare_long tables router c.args.place k c.args.bare.now is c.args.best.now
    (omega (arith, c.path_length.ensures.length, c.if-path_length-ge-PATH_LIMIT.true))

pub bare-requires : goal.bare-requires
bare-requires c = omega (arith, c.path_length.ensures.length, c.if-path_length-ge-PATH_LIMIT.false)

pub returns-clause-feasible : goal.returns-clause-feasible
returns-clause-feasible c tables router k is =
    ap Some c.bare.ensures
    ∙ bare_learnt tables router c.args.place k c.args.bare.now is c.args.best.now
    (ap (list_any (λ n. n == c.args.bare.now.receiver)) (sym c.path.ensures) ∙ sym c.contains.ensures ∙ c.if-contains.false)
    (omega (arith, c.path_length.ensures.length, c.if-path_length-ge-PATH_LIMIT.false))
