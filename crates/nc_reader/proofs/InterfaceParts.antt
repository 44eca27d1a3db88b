-- The lines and the name of an interface.
use Rattle.std.proofs.Common.{◌≡◌, ℕ, Bool, true, false, cond, ◌||◌, not, List, [], ◌∷◌, map, length, Option, Some, None, Ok, Err, refl, sym, ap, ◌∙◌, filter}
use Rattle.std.specs.Prelude.{is_some}
use Rattle.std.specs.Option.{option_map_or}
use Rattle.std.proofs.lemmas.Bool.{or_left, not_from_false}
use Rattle.nc_types.specs.declared.config.Kind.TheVariants as kinds
use Rattle.nc_types.specs.declared.fault.Fault.{Fault}
use Rattle.nc_lines.specs.Lines.{is_indented, line_at}
use Rattle.nc_lines.specs.Statements.{said_of}
use Rattle.nc_lines.specs.Parts.{Numbered, numbered}
use Rattle.nc_read_link.specs.Interfaces.{InterfacePart, line_says, interface_fault as fault_in, interface_statements as statements_in, lines_in, interface_of, interface_in}
use Rattle.nc_reader.specs.Things.{element_at}
use Rattle.nc_reader.proofs.PieceLemmas.{LinesAscend, AreElements, kept_element, at_line}

-- a line that the element of its block has
abbrev stays : List (List ℕ) → ℕ → Bool
stays lines k = not (is_indented (line_at k lines)) || is_some (said_of (line_says (at_line lines k)))

number_first : (b : Bool) (l : Numbered) (ls : List Numbered) → map (λ (l : Numbered). l.line) (cond b (l ∷ ls) ls) ≡ cond b (l.line ∷ map (λ (l : Numbered). l.line) ls) (map (λ (l : Numbered). l.line) ls)
number_first true l ls = refl
number_first false l ls = refl

lines_kept : (lines : List (List ℕ)) (ks : List ℕ) → lines_in (numbered lines ks) ≡ filter (stays lines) ks
lines_kept lines [] = refl
lines_kept lines (k ∷ ks) =
    number_first (stays lines k) (at_line lines k) (filter (λ (l : Numbered). not (is_indented l.text) || is_some (said_of (line_says l))) (numbered lines ks))
    ∙ ap (λ (rest : List ℕ). cond (stays lines k) (k ∷ rest) rest) (lines_kept lines ks)

ok_part : (o : Option Fault) (x p : InterfacePart) → option_map_or Err o (Ok x) ≡ Ok p → x ≡ p
ok_part None x p e = cc
ok_part (Some fault) x p e = absurd cc

pub interface_is : (name : List ℕ) (block : List Numbered) (p : InterfacePart) → interface_in name block ≡ Ok p → record { interface = interface_of name (statements_in block); lines = lines_in block } ≡ p
unfolding interface_in
interface_is name block p e = ok_part (fault_in block) (record { interface = interface_of name (statements_in block); lines = lines_in block }) p e

-- an interface whose first line is a header is an element of its lines
pub interface_elements : (lines : List (List ℕ)) (name : List ℕ) (k : ℕ) (ks : List ℕ) (p : InterfacePart) → LinesAscend (length lines) (k ∷ ks) → is_indented (line_at k lines) ≡ false → interface_in name (numbered lines (k ∷ ks)) ≡ Ok p
    → AreElements (length lines) (k ∷ ks) (element_at kinds.Interface p.lines ∷ [])
interface_elements lines name k ks p up outer e =
    kept_element kinds.Interface (length lines) (stays lines) k ks p.lines up (or_left (not (is_indented (line_at k lines))) _ (not_from_false _ outer))
    (sym (ap (λ (p : InterfacePart). p.lines) (interface_is name (numbered lines (k ∷ ks)) p e)) ∙ lines_kept lines (k ∷ ks))
