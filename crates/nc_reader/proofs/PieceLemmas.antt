-- The elements that some lines make.
use Rattle.std.proofs.Common.{◌≡◌, ℕ, ◌<◌, Bool, true, cond, List, [], ◌∷◌, length, map, Result, Ok, Err, refl, sym, ap, ◌∙◌, subst, arith, inl, inr, filter}
use Rattle.nc_types.proofs.Members.{in_by_map, in_by_filter}
use Rattle.nc_types.specs.Config.{ElementView}
use Rattle.nc_types.specs.declared.config.Kind.{Kind}
use Rattle.nc_types.specs.declared.fault.Fault.{Fault}
use Rattle.nc_lines.specs.Lines.{line_at}
use Rattle.nc_lines.specs.Parts.{Numbered, numbered}
use Rattle.nc_read_policy.specs.Results.{ok_map}
use Rattle.nc_reader.specs.Things.{element_at}
use Rattle.nc_lines.proofs.Pairs.{Has, Pairs, pairs_map, Ascends, ascends_filter}

-- no line stands in both
abbrev pub Apart : List ℕ → List ℕ → Type 0
Apart xs ys = (k : ℕ) → Has xs k → Has ys k → ⊥

-- the lines ascend within the file
abbrev pub LinesAscend : ℕ → List ℕ → Type 0
LinesAscend count ks = Ascends (λ (k : ℕ). k) 0 count ks

abbrev pub IsWhole : ℕ → List ℕ → Type 0
IsWhole count xs = (0 < length xs) × LinesAscend count xs

-- each of these elements has a line, and its lines ascend and are among those that are given; no line is of two
pub record AreElements (count : ℕ) (ks : List ℕ) (es : List ElementView) : Type 0 where
  pub whole : (e : ElementView) → Has es e → IsWhole count e.lines
  pub own : (e : ElementView) (k : ℕ) → Has es e → Has e.lines k → Has ks k
  pub apart : Pairs (λ e f. Apart e.lines f.lines) es

-- one element, of those of the lines that a test lets pass
pub kept_element : (kind : Kind) (count : ℕ) (p : ℕ → Bool) (k : ℕ) (ks ls : List ℕ) → LinesAscend count (k ∷ ks) → p k ≡ true → ls ≡ filter p (k ∷ ks) → AreElements count (k ∷ ks) (element_at kind ls ∷ [])
kept_element kind count p k ks ls up first kept =
    let some : filter p (k ∷ ks) ≡ k ∷ filter p ks = ap (λ (b : Bool). cond b (k ∷ filter p ks) (filter p ks)) first in
    let whole : IsWhole count ls = (omega (arith, ap length (kept ∙ some)), subst (LinesAscend count) (sym kept) (ascends_filter p (λ (k : ℕ). k) 0 count (k ∷ ks) up)) in
    record {
      whole = λ e h. elim h [
        | inl same ↦ subst (λ (e : ElementView). IsWhole count e.lines) same whole
        | inr later ↦ absurd later
      ];
      own = λ e l h hl. elim h [
        | inl same ↦ (in_by_filter p (k ∷ ks) l (subst (λ (ls : List ℕ). Has ls l) (sym (ap (λ (e : ElementView). e.lines) same) ∙ kept) hl)).0
        | inr later ↦ absurd later
      ];
      apart = ((λ f h. absurd h), tt);
    }

-- elements of things, by what holds of the things
pub elements_of : {P : Type 0} (kind : Kind) (count : ℕ) (ks : List ℕ) (lines : P → List ℕ) (ps : List P)
    → ((p : P) → Has ps p → IsWhole count (lines p)) → ((p : P) (k : ℕ) → Has ps p → Has (lines p) k → Has ks k) → Pairs (λ p q. Apart (lines p) (lines q)) ps
    → AreElements count ks (map (λ (p : P). element_at kind (lines p)) ps)
elements_of {P} kind count ks lines ps whole own apart =
    let element : P → ElementView = λ p. element_at kind (lines p) in
    record {
      whole = λ e h. let at = in_by_map element ps e h in subst (λ (e : ElementView). IsWhole count e.lines) at.2 (whole at.0 at.1);
      own = λ e k h hk. let at = in_by_map element ps e h in own at.0 k at.1 (subst (λ (ls : List ℕ). Has ls k) (sym (ap (λ (e : ElementView). e.lines) at.2)) hk);
      apart = pairs_map element (λ (p q : P). Apart (lines p) (lines q)) (λ (e f : ElementView). Apart e.lines f.lines) ps (λ p q hp hq no_line. no_line) apart;
    }

-- ---- readings

-- what something was made of that was read
pub ok_mapped : {A B : Type 0} (f : A → B) (r : Result A Fault) (y : B) → ok_map f r ≡ Ok y → (x : A) × (r ≡ Ok x) × (f x ≡ y)
ok_mapped {A} {B} f (Ok x) y e = (x, refl, cc)
ok_mapped f (Err fault) y e = absurd cc

-- ---- lines of a file

abbrev pub at_line : List (List ℕ) → ℕ → Numbered
at_line lines k = record { line = k; text = line_at k lines }

pub numbers_of : (lines : List (List ℕ)) (ks : List ℕ) → map (λ (l : Numbered). l.line) (numbered lines ks) ≡ ks
numbers_of lines [] = refl
numbers_of lines (k ∷ ks) = ap (λ (ls : List ℕ). k ∷ ls) (numbers_of lines ks)
