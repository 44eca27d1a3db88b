use Rattle.std.proofs.Common.{◌≡◌, length}
use Rattle.std.specs.Prelude.{None, if◌then◌else◌}
use Rattle.nc_types.specs.Communities.{put_all, limited, gather, IsSmallSet}
use Rattle.nc_lines.specs.Lines.{words_of}
use Rattle.nc_read_policy.specs.Communities.{communities_in, behind_communities}
use Rattle.nc_read_policy.proofs.communities.members.Given as goal

abbrev pub invariant-words : goal.invariant-words
invariant-words l = record {
  set : (if l.full then None else limited (put_all l.set (communities_in (words_of l.rest)))) ≡ gather (communities_in (words_of l.text));
  rest : behind_communities (words_of l.rest) ≡ behind_communities (words_of l.text);
  small : IsSmallSet l.set;
}

abbrev pub decreases-words : goal.decreases-words
decreases-words l = length l.rest
