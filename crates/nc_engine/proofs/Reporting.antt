-- The sheets that are made of the marks of elements are those of which reports are forms.
use Rattle.std.proofs.Common.{◌≡◌, ℕ, suc, zero, ◌+◌, ◌<◌, List, [], ◌∷◌, length, map, Some, slice_get, slice_index_or, refl, sym, ap, ◌∙◌, subst, zero-add, arith}
use Rattle.std.proofs.lemmas.Simd.{map-map}
use Rattle.std.proofs.lemmas.List.FromFn.{length-map-range_with_len, get_or-map-range_with_len}
use Rattle.std.specs.List.{range_with_len}
use Rattle.std.specs.Option.{ForSome}
use Rattle.nc_types.specs.Config.{ConfigView}
use Rattle.nc_types.specs.Network.{element_count, owner_at}
use Rattle.nc_graph.specs.Flow.{Flow}
use Rattle.nc_marks.specs.declared.mark.Mark.{Mark}
use Rattle.nc_marks.specs.declared.mark.Mark.TheVariants.{Outside}
use Rattle.nc_marks.specs.Marks.{ElementMarks, AreMarks, IsMark, mark_of}
use Rattle.nc_marks.proofs.OwnerLemmas.{owner-within}
use Rattle.nc_fact.specs.declared.fact.Fact.{Fact}
use Rattle.nc_report.specs.Texts.{Sheet, letter}
use Rattle.nc_engine.specs.Marks.{AreLineMarks, IsSheet, IsFormOf}
use Rattle.nc_report.specs.Sheets.{letters_from, sheets_from}

module _ (g : Flow Fact) (tested : List Fact) (routers : List ConfigView) (m : ElementMarks) (are : AreMarks g tested (element_count routers) m) where
  owned : (router line : ℕ) → ForSome (owner_at routers router line) (λ e. e < element_count routers)
  owned router line = λ e is. owner-within routers router line e is

  -- the mark of a line by its owner, and the marks of the lines of a router
  abbrev line_mark : ℕ → ℕ → Mark
  line_mark router k = mark_of m (owner_at routers router (k + 1))

  abbrev line_marks : ℕ → ℕ → List Mark
  line_marks router lines = map (line_mark router) (range_with_len 0 lines)

  line_marks-are : (router lines : ℕ) → AreLineMarks g tested routers router lines (line_marks router lines)
  line_marks-are router lines = record {
    count = length-map-range_with_len (line_mark router) 0 lines;
    each = λ k lt. subst (IsMark g tested (owner_at routers router (k + 1))) (sym (at k lt)) (are.each (owner_at routers router (k + 1)) (owned router (k + 1)));
  }
    where
      at : (k : ℕ) → k < lines → slice_index_or (line_marks router lines) k Outside ≡ line_mark router k
      at k lt = get_or-map-range_with_len (line_mark router) 0 lines k k Outside lt (omega arith)

  abbrev made_of : ℕ → ConfigView → Sheet
  made_of router c = record { name = c.name; letters = letters_from routers m router 0 c.line_count }

  sheet-is : (router : ℕ) (c : ConfigView) → IsSheet g tested routers router c (made_of router c)
  sheet-is router c = record {
    name = refl;
    marks = line_marks router c.line_count;
    are_marks = line_marks-are router c.line_count;
    letters = sym (map-map letter (line_mark router) (range_with_len 0 c.line_count));
  }

  sheets-length : (from : ℕ) (cs : List ConfigView) → length (sheets_from routers m from cs) ≡ length cs
  sheets-length from [] = refl
  sheets-length from (c ∷ cs) = ap suc (sheets-length (from + 1) cs)

  sheet-at : (from : ℕ) (cs : List ConfigView) (place : ℕ) (c : ConfigView) (s : Sheet) → slice_get cs place ≡ Some c → slice_get (sheets_from routers m from cs) place ≡ Some s
      → s ≡ made_of (from + place) c
  sheet-at from [] place c s at made = absurd (cc)
  sheet-at from (d ∷ ds) zero c s at made =
      let same : d ≡ c = cc in
      let first : made_of from d ≡ s = cc in
      sym first ∙ ap (made_of from) same ∙ ap (λ (n : ℕ). made_of n c) (omega arith)
  sheet-at from (d ∷ ds) (suc place) c s at made = sheet-at (from + 1) ds place c s at made ∙ ap (λ (n : ℕ). made_of n c) (omega arith)

  pub form-is : (form : List Sheet → List ℕ) → IsFormOf g tested routers form (form (sheets_from routers m 0 routers))
  form-is form = record {
    sheets = sheets_from routers m 0 routers;
    are = record {
      count = sheets-length 0 routers;
      each = λ router c s at made. subst (IsSheet g tested routers router c) (sym (sheet-at 0 routers router c s at made ∙ ap (λ (n : ℕ). made_of n c) (zero-add router))) (sheet-is router c);
    };
    text_is = refl;
  }
