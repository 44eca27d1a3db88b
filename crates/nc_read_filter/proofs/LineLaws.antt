-- The lines of the entries ascend, and are those that were given.
use Rattle.std.proofs.Common.{◌≡◌, ℕ, ◌<◌, ◌≤◌, List, [], ◌∷◌, Option, Some, None, sym, ap, subst, arith, inl, inr}
use Rattle.std.specs.List.{cons_option}
use Rattle.std.specs.Option.{option_map}
use Rattle.nc_types.proofs.Members.{in_by_filter_map}
use Rattle.nc_lines.specs.Lines.{line_at}
use Rattle.nc_lines.specs.Parts.{numbered}
use Rattle.nc_lines.proofs.Pairs.{Has, Ascends, ascends_kept}
use Rattle.nc_read_filter.specs.declared.entries.Rule.{Rule}
use Rattle.nc_read_filter.specs.declared.filters.FilterLine.{FilterLine}
use Rattle.nc_read_filter.specs.Filters.{ListSays, ListStatement, line_says, open_behind, statements_from, entry_at, filters_in}
use Rattle.nc_read_filter.specs.Lists.{Head}

abbrev line_of : ListStatement → ℕ
line_of s = s.line

weaker : (low next high : ℕ) (ss : List ListStatement) → low ≤ next → Ascends line_of next high ss → Ascends line_of low high ss
weaker low next high [] le up = tt
weaker low next high (s ∷ ss) le up = (omega (arith, le, up.0), up.1, up.2)

more : (low high k : ℕ) (o : Option ListSays) (ss : List ListStatement) → low < k → k ≤ high → Ascends line_of k high ss
    → Ascends line_of low high (cons_option (option_map (λ (s : ListSays). record { line = k; setting = s }) o) ss)
more low high k None ss below within rest = weaker low k high ss (omega (arith, below)) rest
more low high k (Some s) ss below within rest = (below, within, rest)

statements_ascend : (lines : List (List ℕ)) (low high : ℕ) (list : Option Head) (ks : List ℕ) → Ascends (λ (k : ℕ). k) low high ks → Ascends line_of low high (statements_from list (numbered lines ks))
statements_ascend lines low high list [] up = tt
statements_ascend lines low high list (k ∷ ks) up =
    let text : List ℕ = line_at k lines in
    more low high k (line_says list text) (statements_from (open_behind list text) (numbered lines ks)) up.0 up.1 (statements_ascend lines k high (open_behind list text) ks up.2)

statement_own : (lines : List (List ℕ)) (list : Option Head) (ks : List ℕ) (s : ListStatement) → Has (statements_from list (numbered lines ks)) s → Has ks s.line
statement_own lines list [] s h = absurd h
statement_own lines list (k ∷ ks) s h = on (line_says list (line_at k lines)) (statement_own lines (open_behind list (line_at k lines)) ks s) h
  where
    on : (o : Option ListSays) → (Has (statements_from (open_behind list (line_at k lines)) (numbered lines ks)) s → Has ks s.line)
        → Has (cons_option (option_map (λ (s : ListSays). record { line = k; setting = s }) o) (statements_from (open_behind list (line_at k lines)) (numbered lines ks))) s → Has (k ∷ ks) s.line
    on None later h = inr (later h)
    on (Some said) later (inl same) = inl (ap line_of same)
    on (Some said) later (inr h) = inr (later h)

entry_line : (s : ListStatement) (p : FilterLine) → entry_at s ≡ Some p → p.line ≡ s.line
entry_line s p e = on s.setting.rule e
  where
    on : (o : Option Rule)
        → option_map (λ (r : Rule). record { entry = record { list = s.setting.list; permit = r.permit; ip = r.ip; from = r.from; to = r.to; element = 0 }; line = s.line }) o ≡ Some p → p.line ≡ s.line
    on None e = absurd cc
    on (Some r) e =
        let made : FilterLine = record { entry = record { list = s.setting.list; permit = r.permit; ip = r.ip; from = r.from; to = r.to; element = 0 }; line = s.line } in
        let same : made ≡ p = cc in
        sym (ap (λ (p : FilterLine). p.line) same)

module _ (lines : List (List ℕ)) (ks : List ℕ) where
  pub entries_ascend : (high : ℕ) → Ascends (λ (k : ℕ). k) 0 high ks → Ascends (λ (p : FilterLine). p.line) 0 high (filters_in (numbered lines ks)).entries
  unfolding filters_in
  entries_ascend high up = ascends_kept entry_at line_of (λ (p : FilterLine). p.line) entry_line 0 high (statements_from None (numbered lines ks)) (statements_ascend lines 0 high None ks up)

  pub entry_own : (p : FilterLine) → Has (filters_in (numbered lines ks)).entries p → Has ks p.line
  unfolding filters_in
  entry_own p h =
      let at = in_by_filter_map entry_at (statements_from None (numbered lines ks)) p h in
      subst (Has ks) (sym (entry_line at.0 p at.2)) (statement_own lines None ks at.0 at.1)
