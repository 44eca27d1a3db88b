-- The lines, the name and the number of a clause.
use Rattle.std.proofs.Common.{◌≡◌, ℕ, Bool, cond, List, [], ◌∷◌, map, length, Option, Some, None, Ok, Err, refl, sym, ap, ◌∙◌, filter}
use Rattle.std.specs.Prelude.{is_some, option_and_then}
use Rattle.std.specs.List.{cons_option}
use Rattle.std.specs.Option.{option_map, option_map_or}
use Rattle.nc_types.specs.declared.config.Kind.TheVariants as kinds
use Rattle.nc_types.specs.declared.fault.Fault.{Fault}
use Rattle.nc_lines.specs.Lines.{words_of, line_at}
use Rattle.nc_lines.specs.Statements.{Reading, Outside, Faulty, Says, said_as, said_of}
use Rattle.nc_lines.specs.Parts.{Numbered, numbered, fault_in, statements_in}
use Rattle.nc_read_policy.specs.Clauses.{Header, ClauseStatement, Opens, ClauseLine, ClausePart, header_says, statement_says, line_says, head_by, clause_of, name_in, number_in, clause_in}
use Rattle.nc_read_policy.specs.Lists.{list_name_says}
use Rattle.nc_read_policy.specs.CommunityEntries.{community_name_says}
use Rattle.nc_read_bgp.specs.Statements.{header_says as process_header_says}
use Rattle.nc_reader.specs.declared.topic.Topic.{Topic}
use Rattle.nc_reader.specs.declared.topic.Topic.TheVariants as topics
use Rattle.nc_reader.specs.Roles.{Role, Within, said_role, header_role}
use Rattle.nc_reader.specs.Things.{element_at}
use Rattle.nc_reader.proofs.HeaderCases.{read_by, no_hostname, no_interface, no_filter, no_said, header_read}
use Rattle.nc_reader.proofs.LineOrder.{IsHeader}
use Rattle.nc_reader.proofs.PieceLemmas.{LinesAscend, AreElements, kept_element, at_line}

-- ---- headers

-- a clause's header
abbrev Heads : List ℕ → ℕ → Reading Header → Type 0
Heads name number r = (h : Header) × (r ≡ Says h) × (h.map_name ≡ name) × (h.number ≡ number)

module _ (name : List ℕ) (number : ℕ) where
  abbrev clause : Role
  clause = Within (topics.Clause name number)

  heads : (r : Reading Header) → said_role (λ h. topics.Clause h.map_name h.number) r ≡ clause → Heads name number r
  heads Outside e = absurd cc
  heads (Faulty cause) e = absurd cc
  heads (Says h) e = (h, refl, cc, cc)

  header_heads : (words : List (List ℕ)) → header_role words ≡ clause → Heads name number (header_says words)
  header_heads words =
      let own : Topic = topics.Clause name number in
      header_read own words
      (read_by (λ (r : Role). r ≡ clause → Heads name number (header_says words)) words (no_hostname own) (no_interface own (λ n e. absurd cc)) (λ e. absurd cc)
      (λ rest. no_said topics.List own (λ s e. absurd cc) (list_name_says rest)) (λ rest. no_said topics.Communities own (λ s e. absurd cc) (community_name_says rest)) (no_filter own (λ e. absurd cc))
      (no_said topics.Process own (λ s e. absurd cc) (process_header_says words)) (heads (header_says words)))

-- what the header of a clause says in its block
opens : (lines : List (List ℕ)) (k : ℕ) (name : List ℕ) (number : ℕ) → IsHeader (line_at k lines) (topics.Clause name number)
    → (h : Header) × (line_says (at_line lines k) ≡ Says (Opens h)) × (h.map_name ≡ name) × (h.number ≡ number)
opens lines k name number is =
    let text : List ℕ = line_at k lines in
    let at = header_heads name number (words_of text) is.1 in
    let opened : Header → ClauseStatement = λ h. Opens h in
    (at.0, ap (λ (b : Bool). cond b (statement_says (words_of text)) (said_as opened (header_says (words_of text)))) is.0 ∙ ap (said_as opened) at.1, at.2, at.3)

-- ---- lines

-- a line that is a statement
abbrev stays : List (List ℕ) → ℕ → Bool
stays lines k = is_some (said_of (line_says (at_line lines k)))

stated_first : (k : ℕ) (o : Option ClauseStatement) (ss : List ClauseLine) → map (λ (s : ClauseLine). s.line) (cons_option (option_map (λ s. record { line = k; setting = s }) o) ss)
    ≡ cond (is_some o) (k ∷ map (λ (s : ClauseLine). s.line) ss) (map (λ (s : ClauseLine). s.line) ss)
stated_first k None ss = refl
stated_first k (Some s) ss = refl

lines_kept : (lines : List (List ℕ)) (ks : List ℕ) → map (λ (s : ClauseLine). s.line) (statements_in line_says (numbered lines ks)) ≡ filter (stays lines) ks
lines_kept lines [] = refl
lines_kept lines (k ∷ ks) =
    stated_first k (said_of (line_says (at_line lines k))) (statements_in line_says (numbered lines ks)) ∙ ap (λ (rest : List ℕ). cond (stays lines k) (k ∷ rest) rest) (lines_kept lines ks)

-- ---- a clause

ok_part : (o : Option Fault) (x p : ClausePart) → option_map_or Err o (Ok x) ≡ Ok p → x ≡ p
ok_part None x p e = cc
ok_part (Some fault) x p e = absurd cc

clause_is : (block : List Numbered) (p : ClausePart) → clause_in block ≡ Ok p
    → record { clause = clause_of (name_in block) (number_in block) (statements_in line_says block); lines = map (λ (s : ClauseLine). s.line) (statements_in line_says block) } ≡ p
unfolding clause_in
clause_is block p e =
    ok_part (fault_in line_says block) (record { clause = clause_of (name_in block) (number_in block) (statements_in line_says block); lines = map (λ (s : ClauseLine). s.line) (statements_in line_says block) }) p e

-- a clause whose first line is its header is an element of its lines
pub clause_elements : (lines : List (List ℕ)) (name : List ℕ) (number k : ℕ) (ks : List ℕ) (p : ClausePart) → LinesAscend (length lines) (k ∷ ks) → IsHeader (line_at k lines) (topics.Clause name number)
    → clause_in (numbered lines (k ∷ ks)) ≡ Ok p → AreElements (length lines) (k ∷ ks) (element_at kinds.Clause p.lines ∷ [])
clause_elements lines name number k ks p up is e =
    let at = opens lines k name number is in
    kept_element kinds.Clause (length lines) (stays lines) k ks p.lines up (ap (λ (r : Reading ClauseStatement). is_some (said_of r)) at.1)
    (sym (ap (λ (p : ClausePart). p.lines) (clause_is (numbered lines (k ∷ ks)) p e)) ∙ lines_kept lines (k ∷ ks))

-- and it has the name and the number of the header
pub clause_named : (lines : List (List ℕ)) (name : List ℕ) (number k : ℕ) (ks : List ℕ) (p : ClausePart) → IsHeader (line_at k lines) (topics.Clause name number) → clause_in (numbered lines (k ∷ ks)) ≡ Ok p
    → topics.Clause p.clause.map_name p.clause.number ≡ topics.Clause name number
clause_named lines name number k ks p is e =
    let at = opens lines k name number is in
    let same = clause_is (numbered lines (k ∷ ks)) p e in
    let head : Reading ClauseStatement → Option Header = λ r. option_and_then head_by (said_of r) in
    let named : name_in (numbered lines (k ∷ ks)) ≡ name = ap (λ (r : Reading ClauseStatement). option_map_or (λ (h : Header). h.map_name) (head r) []) at.1 ∙ at.2 in
    let counted : number_in (numbered lines (k ∷ ks)) ≡ number = ap (λ (r : Reading ClauseStatement). option_map_or (λ (h : Header). h.number) (head r) 0) at.1 ∙ at.3 in
    sym (ap (λ (p : ClausePart). topics.Clause p.clause.map_name p.clause.number) same) ∙ ap (λ (n : List ℕ). topics.Clause n (number_in (numbered lines (k ∷ ks)))) named ∙ ap (topics.Clause name) counted
