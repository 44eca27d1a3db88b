use Rattle.std.proofs.Common.{ℕ, List, ap, sym, ◌∙◌}
use Rattle.nc_types.specs.Communities.{put_all, limited}
use Rattle.nc_lines.specs.Lines.{words_of}
use Rattle.nc_read_policy.specs.Communities.{communities_in}
use Rattle.nc_read_policy.proofs.WordLemmas.{communities_more, behind_more, put_more}
use Rattle.nc_read_policy.proofs.communities.members.Goals as goal

pub words-preserved : goal.words-preserved
words-preserved c =
    let is = sym c.read_community.ensures ∙ c.in-Some-read_community.is in
    let more = communities_more _ _ _ _ c.in-Some.ensures.word is in
    record {
      set = put_more c.put.result c.words.set c.put.new.self c.in-Some-read_community.number (communities_in (words_of c.in-Some.behind.now)) c.put.ensures.put
          ∙ ap (λ (ns : List ℕ). limited (put_all c.words.set ns)) (sym more) ∙ (rw c.if-full.false at c.words.invariant.set);
      rest = sym (behind_more _ _ _ _ c.in-Some.ensures.word is) ∙ c.words.invariant.rest;
      small = c.put.ensures.small;
    }
