-- The lines of the entries of a community list.
use Rattle.std.proofs.Common.{◌≡◌, ℕ, ◌<◌, List, [], ◌∷◌, length, map, Option, Some, Result, Ok, Err, sym, ap, ◌∙◌, subst, arith, inl, inr}
use Rattle.std.specs.List.{filter_map}
use Rattle.nc_types.proofs.Members.{in_by_filter_map}
use Rattle.nc_types.specs.declared.config.Kind.TheVariants as kinds
use Rattle.nc_types.specs.declared.communities.CommunityEntry.{CommunityEntry}
use Rattle.nc_types.specs.declared.fault.Fault.{Fault}
use Rattle.nc_lines.specs.Lines.{line_at}
use Rattle.nc_read_policy.specs.Results.{ok_map}
use Rattle.nc_read_policy.specs.CommunityEntries.{community_entry_at}
use Rattle.nc_reader.specs.Things.{CommunityPart, community_part, communities_in, ok_of, element_at}
use Rattle.nc_lines.proofs.Pairs.{Has, pairs_weaker, Ascends, ascends_kept, ascends_within, ascends_pairs, kept_map}
use Rattle.nc_reader.proofs.PieceLemmas.{LinesAscend, IsWhole, Apart, AreElements, elements_of}
use Rattle.nc_reader.proofs.ReadLemmas.{all_read_is, some_read}

entry_line : (k : ℕ) (r : Result (List ℕ × CommunityEntry) Fault) (p : CommunityPart) → ok_of (ok_map (λ named. record { entry = named.1; line = k }) r) ≡ Some p → p.line ≡ k
entry_line k (Ok named) p e = let same : record { entry = named.1; line = k } ≡ p = cc in sym (ap (λ (p : CommunityPart). p.line) same)
entry_line k (Err fault) p e = absurd cc

module _ (lines : List (List ℕ)) (ks : List ℕ) (up : LinesAscend (length lines) ks) where
  abbrev entry_of : ℕ → Option CommunityPart
  entry_of k = ok_of (community_part lines k)

  abbrev entries : List CommunityPart
  entries = filter_map entry_of ks

  own_line : (p : CommunityPart) → Has entries p → Has ks p.line
  own_line p h =
      let at = in_by_filter_map entry_of ks p h in
      subst (Has ks) (sym (entry_line at.0 (community_entry_at at.0 (line_at at.0 lines)) p at.2)) at.1

  entries_ascend : Ascends (λ (p : CommunityPart). p.line) 0 (length lines) entries
  entries_ascend = ascends_kept entry_of (λ (k : ℕ). k) (λ (p : CommunityPart). p.line) (λ k p e. entry_line k (community_entry_at k (line_at k lines)) p e) 0 (length lines) ks up

  entry_whole : (p : CommunityPart) → Has entries p → IsWhole (length lines) (p.line ∷ [])
  entry_whole p h = let at = ascends_within (λ (p : CommunityPart). p.line) 0 (length lines) entries entries_ascend p h in (omega arith, (at.0, at.1, tt))

  entry_own : (p : CommunityPart) (k : ℕ) → Has entries p → Has (p.line ∷ []) k → Has ks k
  entry_own p k h (inl same) = subst (Has ks) same (own_line p h)
  entry_own p k h (inr later) = absurd later

  apart : (p q : CommunityPart) → p.line < q.line → Apart (p.line ∷ []) (q.line ∷ [])
  apart p q less k (inl a) (inl b) = absurd (omega (arith, less, a, b))
  apart p q less k (inl a) (inr b) = absurd b
  apart p q less k (inr a) hq = absurd a

  pub communities_elements : (ps : List CommunityPart) → communities_in lines ks ≡ Ok ps → AreElements (length lines) ks (map (λ (p : CommunityPart). element_at kinds.CommunityEntry (p.line ∷ [])) ps)
  communities_elements ps e =
      let is : entries ≡ ps = sym (kept_map ok_of (community_part lines) ks) ∙ all_read_is (map (community_part lines) ks) ps e in
      subst (λ (ps : List CommunityPart). AreElements (length lines) ks (map (λ (p : CommunityPart). element_at kinds.CommunityEntry (p.line ∷ [])) ps)) is
      (elements_of kinds.CommunityEntry (length lines) ks (λ (p : CommunityPart). p.line ∷ []) entries entry_whole entry_own
      (pairs_weaker (λ (p q : CommunityPart). p.line < q.line) (λ (p q : CommunityPart). Apart (p.line ∷ []) (q.line ∷ [])) entries (λ p q hp hq. apart p q) (ascends_pairs (λ (p : CommunityPart). p.line) 0 (length lines) entries entries_ascend)))

-- a list of lines has an entry
pub some_communities : (lines : List (List ℕ)) (k : ℕ) (ks : List ℕ) (ps : List CommunityPart) → communities_in lines (k ∷ ks) ≡ Ok ps → 0 < length ps
some_communities lines k ks ps e = some_read (community_part lines k) (map (community_part lines) ks) ps e
