use Rattle.std.proofs.Common.{◌≤◌, is_some, length, sym, ap, arith}
use Rattle.nc_types.specs.Communities.{put_all}
use Rattle.nc_types.specs.declared.TheConstants.{COMMUNITY_LIMIT}
use Rattle.nc_community.proofs.MergeLemmas.{limited_small, too_many}
use Rattle.nc_community.proofs.SetLemmas.{all_shorter}
use Rattle.nc_community.proofs.held.fit.Goals as goal

pub returns-then-a-b-le-COMMUNITY_LIMIT : goal.returns-then-a-b-le-COMMUNITY_LIMIT
returns-then-a-b-le-COMMUNITY_LIMIT c =
    let a = c.args.a.now in
    let b = c.args.b.now in
    let more = c.args.more.now in
    let few : length (put_all (put_all a b) more) ≤ COMMUNITY_LIMIT = omega (arith, all_shorter a b, all_shorter (put_all a b) more, c.if-a-b-le-COMMUNITY_LIMIT.true) in
    sym (ap is_some (limited_small (put_all (put_all a b) more) few))

pub returns-in_default : goal.returns-in_default
returns-in_default c = sym (ap is_some (too_many (put_all c.args.a.now c.args.b.now) c.args.more.now (sym c.in_default.ensures)))
