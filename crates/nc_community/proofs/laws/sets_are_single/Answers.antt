use Rattle.std.proofs.Common.{[], sym, ◌∙◌}
use Rattle.nc_types.specs.Communities.{put_all}
use Rattle.nc_community.proofs.SetLemmas.{by_places, to_places, all_has, all_ascends, same_sets}
use Rattle.nc_community.proofs.laws.sets_are_single.Goals as goal

pub returns-clause-is : goal.returns-clause-is
returns-clause-is c = λ values. record { ascends = to_places (put_all [] values) (all_ascends [] values tt); members = λ n. all_has n [] values }

pub returns-clause-only : goal.returns-clause-only
returns-clause-only c = λ values set is.
    same_sets set (put_all [] values) (by_places set is.ascends) (all_ascends [] values tt) (λ n. is.members n ∙ sym (all_has n [] values))
