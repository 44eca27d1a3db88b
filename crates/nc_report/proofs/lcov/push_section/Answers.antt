use Rattle.std.proofs.Common.{◌++◌, List, ℕ, length, ap, ◌∙◌}
use Rattle.std.specs.List.{flat_map}
use Rattle.nc_report.specs.Texts.{ending, hit_count, hit_line, hits_in, section_text}
use Rattle.nc_report.proofs.Lists.{five-pieces}
use Rattle.nc_report.proofs.lcov.push_section.Goals as goal

pub returns : goal.returns
unfolding section_text
returns c =
    let hits = hits_in c.args.letters.now in
    five-pieces c.args.out.now.items _ c.args.name.now (flat_map hit_line hits) (ending (length hits) (hit_count hits)) _ _ _ _ _
    c.in_ok-extend_from_slice.ensures.items c.in_ok-extend_from_slice-2.ensures.items c.in_ok-push.ensures.items c.in_ok-tally.ensures.out
    (c.in_ok-extend_from_slice-3.ensures.items ∙ ap (λ (t : List ℕ). c.push_hits.new.out.items ++ t)
    (c.as_bytes.ensures.value ∙ c.in_ok-ending.ensures ∙ ap (λ (n : ℕ). ending n c.in_ok-tally.tally.hit) c.in_ok-tally.ensures.found ∙ ap (ending (length hits)) c.in_ok-tally.ensures.hit))
