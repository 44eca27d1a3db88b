-- The lines and the numbers of the entries of a prefix list.
use Rattle.std.proofs.Common.{◌≡◌, ℕ, ◌<◌, List, length, map, Contains, Ok, sym, ap, ◌∙◌, subst, arith}
use Rattle.std.specs.List.Sorted.{IsStrictlyIncreasing}
use Rattle.std.proofs.lemmas.List.{length-map}
use Rattle.nc_types.proofs.Members.{all_in, in_by_contains, contains_by_in}
use Rattle.nc_types.specs.declared.config.Kind.TheVariants as kinds
use Rattle.nc_types.specs.declared.config.ListEntry.{ListEntry}
use Rattle.nc_lines.specs.Parts.{numbered, lines_in}
use Rattle.nc_read_policy.specs.Laws.{HasLines}
use Rattle.nc_read_policy.specs.Lists.{EntryPart, stated_from, parts_of, list_in}
use Rattle.nc_read_policy.proofs.EntryLaws.{ascend, filled}
use Rattle.nc_read_policy.proofs.LineLaws.{stated_lines, whole, apart}
use Rattle.nc_reader.specs.Things.{element_at}
use Rattle.nc_lines.proofs.Pairs.{Has, pairs_all, pairs_weaker, ascends_within, ascends_from, increasing}
use Rattle.nc_reader.proofs.PieceLemmas.{LinesAscend, IsWhole, Apart, AreElements, elements_of, ok_mapped, numbers_of}

module _ (lines : List (List ℕ)) (ks : List ℕ) (ps : List EntryPart) (made : list_in (numbered lines ks) ≡ Ok ps) where
  module _ (up : LinesAscend (length lines) ks) where
    in_order : IsStrictlyIncreasing (lines_in (numbered lines ks))
    in_order = subst IsStrictlyIncreasing (sym (numbers_of lines ks)) (increasing 0 (length lines) ks up)

    entry_lines : (p : EntryPart) → Has ps p → HasLines ks p
    entry_lines p h = subst (λ (ls : List ℕ). HasLines ls p) (numbers_of lines ks) (all_in (HasLines (lines_in (numbered lines ks))) ps (whole (numbered lines ks) ps made in_order) p h)

    entry_own : (p : EntryPart) (k : ℕ) → Has ps p → Has p.lines k → Has ks k
    entry_own p k h hk = in_by_contains ks k (all_in (Contains ks) p.lines (entry_lines p h).within k hk)

    entry_whole : (p : EntryPart) → Has ps p → IsWhole (length lines) p.lines
    entry_whole p h =
        let is = entry_lines p h in
        (is.some, ascends_from 0 (length lines) p.lines is.ascend (λ k hk. ascends_within (λ (k : ℕ). k) 0 (length lines) ks up k (entry_own p k h hk)))

    abbrev NoLine : EntryPart → EntryPart → Type 0
    NoLine p q = (k : ℕ) → Contains p.lines k → Contains q.lines k → ⊥

    pub entries_elements : AreElements (length lines) ks (map (λ (p : EntryPart). element_at kinds.ListEntry p.lines) ps)
    entries_elements =
        elements_of kinds.ListEntry (length lines) ks (λ (p : EntryPart). p.lines) ps entry_whole entry_own
        (pairs_weaker NoLine (λ (p q : EntryPart). Apart p.lines q.lines) ps (λ p q hp hq no_line k a b. no_line k (contains_by_in p.lines k a) (contains_by_in q.lines k b))
        (pairs_all NoLine ps (apart (numbered lines ks) ps made in_order)))

  stated : (es : List ListEntry) × (stated_from 0 (numbered lines ks) ≡ Ok es) × (parts_of es ≡ ps)
  unfolding list_in
  stated = ok_mapped parts_of (stated_from 0 (numbered lines ks)) ps made

  pub entries_ascend : IsStrictlyIncreasing (map (λ (p : EntryPart). p.entry.seq) ps)
  entries_ascend = subst (λ (ps : List EntryPart). IsStrictlyIncreasing (map (λ (p : EntryPart). p.entry.seq) ps)) stated.2 (ascend stated.0)

  pub some_entries : 0 < length ks → 0 < length ps
  some_entries some =
      let same = stated_lines 0 (numbered lines ks) stated.0 stated.1 ∙ numbers_of lines ks in
      let many : 0 < length stated.0 = omega (arith, some, ap length same, length-map stated.0 (λ (e : ListEntry). e.line)) in
      subst (λ (ps : List EntryPart). 0 < length ps) stated.2 (filled stated.0 many)
