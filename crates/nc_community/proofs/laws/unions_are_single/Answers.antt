use Rattle.std.proofs.Common.{sym, ◌∙◌}
use Rattle.nc_types.specs.Communities.{put_all}
use Rattle.nc_community.proofs.SetLemmas.{by_places, to_places, all_has, all_ascends, same_sets}
use Rattle.nc_community.proofs.laws.unions_are_single.Goals as goal

pub returns-clause-is : goal.returns-clause-is
returns-clause-is c = λ a b up. record { ascends = to_places (put_all a b) (all_ascends a b (by_places a up)); members = λ n. all_has n a b }

pub returns-clause-only : goal.returns-clause-only
returns-clause-only c = λ a b set up is.
    same_sets set (put_all a b) (by_places set is.ascends) (all_ascends a b (by_places a up)) (λ n. is.members n ∙ sym (all_has n a b))
