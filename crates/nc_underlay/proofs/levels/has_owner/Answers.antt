use Rattle.std.proofs.Common.{sym, arith, length}
use Rattle.nc_underlay.proofs.Owners.{no_owner, the_owner}
use Rattle.nc_tables.proofs.Owner.{owner_within}
use Rattle.nc_underlay.proofs.levels.has_owner.Goals as goal

pub bounds-level-owner : goal.bounds-level-owner
bounds-level-owner c =
    let lt = owner_within c.args.network.now c.args.addr.0 (record { router = c.in-Some.owner.0; place = c.in-Some.field-0-1.0 }) (sym c.in-Some.ensures) in
    omega (arith, lt, c.requires.few)

pub returns-in-Some : goal.returns-in-Some
returns-in-Some c =
    let lt = owner_within c.args.network.now c.args.addr.0 (record { router = c.in-Some.owner.0; place = c.in-Some.field-0-1.0 }) (sym c.in-Some.ensures) in
    the_owner c.args.network.now c.requires.valid c.args.addr.0 c.args.level.now (length c.args.network.now) (record { router = c.in-Some.owner.0; place = c.in-Some.field-0-1.0 }) (sym c.in-Some.ensures) lt

pub returns-in-None : goal.returns-in-None
returns-in-None c = sym (no_owner c.args.network.now c.requires.valid c.args.addr.0 c.args.level.now (length c.args.network.now) (sym c.in-None.ensures))
