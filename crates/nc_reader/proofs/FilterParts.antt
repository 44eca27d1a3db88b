-- The lines of the entries of access lists, and of what applies one.
use Rattle.std.proofs.Common.{◌≡◌, ℕ, ◌<◌, Bool, List, [], ◌∷◌, length, map, refl, sym, subst, arith, inl, inr}
use Rattle.nc_types.specs.declared.config.Kind.TheVariants as kinds
use Rattle.nc_lines.specs.Parts.{Numbered, numbered}
use Rattle.nc_read_filter.specs.declared.filters.FilterLine.{FilterLine}
use Rattle.nc_read_filter.specs.Filters.{filters_in}
use Rattle.nc_read_filter.specs.Groups.{applied_in}
use Rattle.nc_read_filter.proofs.LineLaws.{entries_ascend, entry_own}
use Rattle.nc_reader.specs.declared.topic.Topic.TheVariants as topics
use Rattle.nc_reader.specs.Things.{element_at}
use Rattle.nc_lines.proofs.Pairs.{Has, pairs_weaker, Ascends, ascends_within, ascends_pairs}
use Rattle.nc_reader.proofs.PieceLemmas.{LinesAscend, IsWhole, Apart, AreElements, elements_of}

module _ (lines : List (List ℕ)) (ks : List ℕ) (up : LinesAscend (length lines) ks) where
  abbrev entries : List FilterLine
  entries = (filters_in (numbered lines ks)).entries

  own_up : Ascends (λ (p : FilterLine). p.line) 0 (length lines) entries
  own_up = entries_ascend lines ks (length lines) up

  own_whole : (p : FilterLine) → Has entries p → IsWhole (length lines) (p.line ∷ [])
  own_whole p h = let at = ascends_within (λ (p : FilterLine). p.line) 0 (length lines) entries own_up p h in (omega arith, (at.0, at.1, tt))

  own_line : (p : FilterLine) (k : ℕ) → Has entries p → Has (p.line ∷ []) k → Has ks k
  own_line p k h (inl same) = subst (Has ks) same (entry_own lines ks p h)
  own_line p k h (inr later) = absurd later

  apart : (p q : FilterLine) → p.line < q.line → Apart (p.line ∷ []) (q.line ∷ [])
  apart p q less k (inl a) (inl b) = absurd (omega (arith, less, a, b))
  apart p q less k (inl a) (inr b) = absurd b
  apart p q less k (inr a) hq = absurd a

  pub filters_elements : AreElements (length lines) ks (map (λ (p : FilterLine). element_at kinds.Filter (p.line ∷ [])) entries)
  filters_elements =
      elements_of kinds.Filter (length lines) ks (λ (p : FilterLine). p.line ∷ []) entries own_whole own_line
      (pairs_weaker (λ (p q : FilterLine). p.line < q.line) (λ (p q : FilterLine). Apart (p.line ∷ []) (q.line ∷ [])) entries (λ p q hp hq. apart p q) (ascends_pairs (λ (p : FilterLine). p.line) 0 (length lines) entries own_up))

-- what applies a list has all lines of its topic
pub group_elements : (count k : ℕ) (ks : List ℕ) → LinesAscend count (k ∷ ks) → AreElements count (k ∷ ks) (element_at kinds.Group (k ∷ ks) ∷ [])
group_elements count k ks up =
    elements_of kinds.Group count (k ∷ ks) (λ (ls : List ℕ). ls) ((k ∷ ks) ∷ []) whole own ((λ q h. absurd h), tt)
  where
    whole : (ls : List ℕ) → Has ((k ∷ ks) ∷ []) ls → IsWhole count ls
    whole ls (inl same) = subst (IsWhole count) same (omega arith, up)
    whole ls (inr later) = absurd later

    own : (ls : List ℕ) (l : ℕ) → Has ((k ∷ ks) ∷ []) ls → Has ls l → Has (k ∷ ks) l
    own ls l (inl same) h = subst (λ (xs : List ℕ). Has xs l) (sym same) h
    own ls l (inr later) h = absurd later

-- and its name and direction
pub group_named : (name : List ℕ) (inward : Bool) (block : List Numbered) → topics.Group (applied_in name inward block).iface (applied_in name inward block).inward ≡ topics.Group name inward
unfolding applied_in
group_named name inward block = refl
