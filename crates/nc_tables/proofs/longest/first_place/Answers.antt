use Rattle.std.proofs.Common.{◌≡◌, ◌-◌, Bool, subst, arith, rules}
use Rattle.std.specs.List.{AllWithin}
use Rattle.std.specs.Ordering.{is_lt}
use Rattle.std.proofs.lemmas.List.Sorted.{IsPartitionPoint-from_clause}
use Rattle.nc_tables.specs.Base.{prefix_cmp, same_prefix}
use Rattle.nc_tables.proofs.SideBySide.{rises, below_first, first_is}
use Rattle.nc_tables.proofs.longest.first_place.Goals as goal

pub returns-then-to-eq0-clause-parts : goal.returns-then-to-eq0-clause-parts
returns-then-to-eq0-clause-parts g c =
    first_is g.R.HasPrefix.prefix_of c.args.rows.now (rises g.R.HasPrefix.prefix_of c.args.rows.now c.requires.ordered) c.args.prefix c.args.to c.requires.bound c.requires.behind
    c.args.to (omega arith) (λ k d lo hi. absurd (omega (arith, c.if-to-eq0.true))) (λ k d lo hi. absurd (omega arith))

pub returns-then-not-last-clause-parts : goal.returns-then-not-last-clause-parts
returns-then-not-last-clause-parts g c =
    first_is g.R.HasPrefix.prefix_of c.args.rows.now (rises g.R.HasPrefix.prefix_of c.args.rows.now c.requires.ordered) c.args.prefix c.args.to c.requires.bound c.requires.behind
    c.args.to (omega arith) (subst (λ (b : Bool). AllWithin (λ row. same_prefix (g.R.HasPrefix.prefix_of row) c.args.prefix ≡ b) c.args.rows.now (c.args.to - 1) c.args.to) c.if-not-last.true c.has_before-last.ensures)
    (λ k d lo hi. absurd (omega arith))

pub returns-then-not-more-clause-parts : goal.returns-then-not-more-clause-parts
returns-then-not-more-clause-parts g c =
    first_is g.R.HasPrefix.prefix_of c.args.rows.now (rises g.R.HasPrefix.prefix_of c.args.rows.now c.requires.ordered) c.args.prefix c.args.to c.requires.bound c.requires.behind
    (c.args.to - 1) (omega arith) (subst (λ (b : Bool). AllWithin (λ row. same_prefix (g.R.HasPrefix.prefix_of row) c.args.prefix ≡ b) c.args.rows.now (c.args.to - 1 - 1) (c.args.to - 1)) c.if-not-more.true c.has_before-more.ensures)
    (subst (λ (b : Bool). AllWithin (λ row. same_prefix (g.R.HasPrefix.prefix_of row) c.args.prefix ≡ b) c.args.rows.now (c.args.to - 1) c.args.to) c.if-not-last.false c.has_before-last.ensures)

pub returns-clause-parts : goal.returns-clause-parts
returns-clause-parts g c =
    IsPartitionPoint-from_clause (λ row. is_lt (prefix_cmp (g.R.HasPrefix.prefix_of row) c.args.prefix)) c.args.rows.now c.partition_point.result c.partition_point.ensures.partitioned
    (below_first g.R.HasPrefix.prefix_of c.args.rows.now (rises g.R.HasPrefix.prefix_of c.args.rows.now c.requires.ordered) c.args.prefix) (λ a r q k. search rules)
