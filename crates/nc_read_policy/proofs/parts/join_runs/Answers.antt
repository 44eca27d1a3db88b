use Rattle.std.proofs.Common.{ℕ, [], ◌∷◌, ◌++◌, List, map, take, drop, sym, ap, ◌∙◌, append_assoc}
use Rattle.std.proofs.lemmas.List.{map_push}
use Rattle.nc_read_policy.specs.declared.parts.EntryLines.{EntryLines}
use Rattle.nc_read_policy.specs.Lists.{EntryPart, parts_of}
use Rattle.nc_read_policy.specs.Outcomes.{entry_part}
use Rattle.nc_read_policy.proofs.RunLemmas.{by_places, next_run}
use Rattle.nc_read_policy.proofs.parts.join_runs.Goals as goal

pub runs-init : goal.runs-init
runs-init c = record {
  made = ap (λ (ps : List EntryLines). map entry_part ps ++ parts_of c.args.entries.now) c.in_ok-parts.ensures.items;
  rises = by_places c.args.entries.now c.requires;
}

pub runs-preserved-then-count-eq0 : goal.runs-preserved-then-count-eq0
runs-preserved-then-count-eq0 c =
    let behind = c.in-Some.others.now in
    let part = c.alone.result in
    let before : List EntryLines = c.runs.parts.items in
    let none = c.if-count-eq0.true in
    let step = next_run c.runs.rest.now behind [] behind c.in-Some.first.now c.run_len-count.result (entry_part part)
    c.in-Some.ensures.cases.0 (sym (ap (λ (n : ℕ). take n behind) none)) (sym (ap (λ (n : ℕ). drop n behind) none)) c.runs.invariant.rises c.run_len-count.ensures.run c.run_len-count.ensures.behind c.alone.ensures in
    record {
      made = ap (λ (ps : List EntryLines). map entry_part ps ++ parts_of behind) c.in_ok-push.ensures.items
          ∙ ap (λ (ps : List EntryPart). ps ++ parts_of behind) (map_push entry_part before part)
          ∙ append_assoc (map entry_part before) (entry_part part ∷ []) (parts_of behind)
          ∙ ap (λ (ps : List EntryPart). map entry_part before ++ ps) (sym step.made) ∙ c.runs.invariant.made;
      rises = step.rises;
    }

pub runs-preserved : goal.runs-preserved
runs-preserved c =
    let behind = c.split_at.result.1.now in
    let part = c.in_ok-part.field-0 in
    let before : List EntryLines = c.runs.parts.items in
    let step = next_run c.runs.rest.now c.in-Some.others.now c.split_at.result.0.now behind c.in-Some.first.now c.run_len-count.result (entry_part part)
    c.in-Some.ensures.cases.0 c.split_at.ensures.front c.split_at.ensures.back c.runs.invariant.rises c.run_len-count.ensures.run c.run_len-count.ensures.behind c.in_ok-part.ensures in
    record {
      made = ap (λ (ps : List EntryLines). map entry_part ps ++ parts_of behind) c.in_ok-push-2.ensures.items
          ∙ ap (λ (ps : List EntryPart). ps ++ parts_of behind) (map_push entry_part before part)
          ∙ append_assoc (map entry_part before) (entry_part part ∷ []) (parts_of behind)
          ∙ ap (λ (ps : List EntryPart). map entry_part before ++ ps) (sym step.made) ∙ c.runs.invariant.made;
      rises = step.rises;
    }
