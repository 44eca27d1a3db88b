-- The lines of a process and of its neighbors, networks and aggregates.
use Rattle.std.proofs.Common.{◌≡◌, ℕ, ◌<◌, Bool, true, false, cond, List, [], ◌∷◌, ◌++◌, length, map, Option, Some, None, Result, Ok, Err, refl, sym, ap, ◌∙◌, subst, arith, inl, inr}
use Rattle.std.specs.Prelude.{◌==◌, All, Contains, if◌then◌else◌}
use Rattle.std.specs.List.{filter_map}
use Rattle.std.specs.List.Sorted.{IsStrictlyIncreasing}
use Rattle.std.specs.Option.{option_map_or, option_eq}
use Rattle.std.proofs.lemmas.Bool.{eqb-true}
use Rattle.std.proofs.lemmas.List.{map-append}
use Rattle.nc_types.proofs.Members.{all_in, in_by_contains, contains_by_in, in_map}
use Rattle.nc_types.specs.Config.{ElementView}
use Rattle.nc_types.specs.declared.config.Kind.{Kind}
use Rattle.nc_types.specs.declared.config.Kind.TheVariants as kinds
use Rattle.nc_types.specs.declared.fault.Fault.{Fault}
use Rattle.nc_lines.proofs.Pairs.{Has, Pairs, pairs_all, pairs_by_map, pairs_weaker, ascends_within, ascends_from, increasing}
use Rattle.nc_lines.specs.Lines.{words_of, line_at}
use Rattle.nc_lines.specs.Parts.{Numbered, Stated, numbered, lines_in, statements_in}
use Rattle.nc_lines.proofs.PartLemmas.{stated}
use Rattle.nc_lines.specs.Statements.{Reading, Outside, Faulty, Says, said_as}
use Rattle.nc_read_bgp.proofs.LawLemmas.{have_lines, are_within, ascend, are_apart}
use Rattle.nc_read_bgp.specs.Laws.{lines_of_things, lines_of_each}
use Rattle.nc_read_bgp.specs.Processes.{ProcessMade, own_by, process_in}
use Rattle.nc_read_bgp.specs.Statements.{ProcessSays, Opens, header_says, statement_says, line_says}
use Rattle.nc_read_policy.specs.Lists.{list_name_says}
use Rattle.nc_read_policy.specs.CommunityEntries.{community_name_says}
use Rattle.nc_read_policy.specs.Clauses.{header_says as clause_header_says}
use Rattle.nc_reader.specs.declared.topic.Topic.{Topic}
use Rattle.nc_reader.specs.declared.topic.Topic.TheVariants as topics
use Rattle.nc_reader.specs.Roles.{Role, Within, said_role, header_role}
use Rattle.nc_reader.specs.Things.{Part, element_at, process_pieces}
use Rattle.nc_reader.proofs.HeaderCases.{read_by, no_hostname, no_interface, no_filter, no_said, header_read}
use Rattle.nc_reader.proofs.LineOrder.{IsHeader}
use Rattle.nc_reader.proofs.PieceLemmas.{LinesAscend, IsWhole, Apart, AreElements, at_line, numbers_of}

-- ---- the header

module _ (asn : ℕ) where
  abbrev own : Topic
  own = topics.Process asn

  heads : (r : Reading ℕ) → said_role topics.Process r ≡ Within own → r ≡ Says asn
  heads Outside e = absurd cc
  heads (Faulty cause) e = absurd cc
  heads (Says n) e = let same : n ≡ asn = cc in ap (λ (n : ℕ). Says n) same

  header_heads : (words : List (List ℕ)) → header_role words ≡ Within own → header_says words ≡ Says asn
  header_heads words =
      header_read own words
      (read_by (λ (r : Role). r ≡ Within own → header_says words ≡ Says asn) words (no_hostname own) (no_interface own (λ n e. absurd cc)) (λ e. absurd cc)
      (λ rest. no_said topics.List own (λ s e. absurd cc) (list_name_says rest)) (λ rest. no_said topics.Communities own (λ s e. absurd cc) (community_name_says rest)) (no_filter own (λ e. absurd cc)) (heads (header_says words))
      (no_said (λ h. topics.Clause h.map_name h.number) own (λ s e. absurd cc) (clause_header_says words)))

-- what the header of a process says in its block
opens : (lines : List (List ℕ)) (k asn : ℕ) → IsHeader (line_at k lines) (topics.Process asn) → line_says (at_line lines k) ≡ Says (Opens asn)
opens lines k asn is =
    let text : List ℕ = line_at k lines in
    let opened : ℕ → ProcessSays = λ n. Opens n in
    ap (λ (b : Bool). cond b (statement_says (words_of text)) (said_as opened (header_says (words_of text)))) is.0 ∙ ap (said_as opened) (header_heads asn (words_of text) is.1)

-- ---- lists of lines

element_lines : (kind : Kind) (each : List (List ℕ)) → map (λ (e : ElementView). e.lines) (map (element_at kind) each) ≡ each
element_lines kind [] = refl
element_lines kind (lines ∷ each) = ap (λ (more : List (List ℕ)). lines ∷ more) (element_lines kind each)

-- the lines of the elements that a process makes
pieces_lines : (made : ProcessMade) → map (λ (e : ElementView). e.lines) (process_pieces made) ≡ lines_of_each made
pieces_lines made =
    ap (λ (each : List (List ℕ)). made.own ∷ each)
    (joined (map (element_at kinds.Neighbor) made.neighbors) (map (element_at kinds.Network) made.networks ++ map (element_at kinds.Aggregate) made.aggregates) (element_lines kinds.Neighbor made.neighbors)
    (joined (map (element_at kinds.Network) made.networks) (map (element_at kinds.Aggregate) made.aggregates) (element_lines kinds.Network made.networks) (element_lines kinds.Aggregate made.aggregates)))
  where
    joined : {each more : List (List ℕ)} (es fs : List ElementView) → map (λ (e : ElementView). e.lines) es ≡ each → map (λ (e : ElementView). e.lines) fs ≡ more → map (λ (e : ElementView). e.lines) (es ++ fs) ≡ each ++ more
    joined {each} {more} es fs a b =
        map-append (λ (e : ElementView). e.lines) es fs ∙ ap (λ (ls : List (List ℕ)). ls ++ map (λ (e : ElementView). e.lines) fs) a ∙ ap (λ (ls : List (List ℕ)). each ++ ls) b

-- ---- the elements of a process whose first line is its header

made_is : (o : Option Fault) (made whole : ProcessMade) → option_map_or Err o (Ok whole) ≡ Ok made → whole ≡ made
made_is None made whole e = cc
made_is (Some fault) made whole e = absurd cc

-- the process itself has the line of its header
own_some : (lines : List (List ℕ)) (asn k : ℕ) (ks : List ℕ) (made : ProcessMade) → IsHeader (line_at k lines) (topics.Process asn) → process_in (numbered lines (k ∷ ks)) ≡ Ok made → 0 < length made.own
unfolding process_in
own_some lines asn k ks made begins read =
    let rest : List (Stated ProcessSays) = statements_in line_says (numbered lines ks) in
    let owned : List (Stated ProcessSays) → List ℕ = λ ss. filter_map (λ s. own_by s.line s.setting) ss in
    let first : statements_in line_says (numbered lines (k ∷ ks)) ≡ record { line = k; setting = Opens asn } ∷ rest = stated line_says (at_line lines k) (numbered lines ks) (Opens asn) (opens lines k asn begins) in
    let is : k ∷ owned rest ≡ made.own = ap owned (sym first) ∙ ap (λ (made : ProcessMade). made.own) (made_is _ made _ read) in
    omega (arith, ap length is)

module _ (lines : List (List ℕ)) (asn k : ℕ) (ks : List ℕ) (made : ProcessMade) (up : LinesAscend (length lines) (k ∷ ks)) (begins : IsHeader (line_at k lines) (topics.Process asn))
    (read : process_in (numbered lines (k ∷ ks)) ≡ Ok made) where
  abbrev block : List Numbered
  block = numbered lines (k ∷ ks)

  abbrev each : List (List ℕ)
  each = lines_of_each made

  in_order : IsStrictlyIncreasing (lines_in block)
  in_order = subst IsStrictlyIncreasing (sym (numbers_of lines (k ∷ ks))) (increasing 0 (length lines) (k ∷ ks) up)

  some_lines : (ls : List ℕ) → Has each ls → 0 < length ls
  some_lines ls (inl itself) = subst (λ (ls : List ℕ). 0 < length ls) itself (own_some lines asn k ks made begins read)
  some_lines ls (inr thing) = all_in (λ (ls : List ℕ). 0 < length ls) (lines_of_things made) (have_lines block made read) ls thing

  own_lines : (ls : List ℕ) (j : ℕ) → Has each ls → Has ls j → Has (k ∷ ks) j
  own_lines ls j h hj =
      let inside : Contains (lines_in block) j = all_in (Contains (lines_in block)) ls (all_in (λ (ls : List ℕ). All (Contains (lines_in block)) ls) each (are_within block made read) ls h) j hj in
      subst (λ (xs : List ℕ). Has xs j) (numbers_of lines (k ∷ ks)) (in_by_contains (lines_in block) j inside)

  whole_lines : (ls : List ℕ) → Has each ls → IsWhole (length lines) ls
  whole_lines ls h =
      let increase : IsStrictlyIncreasing ls = all_in IsStrictlyIncreasing each (ascend block made read in_order) ls h in
      (some_lines ls h, ascends_from 0 (length lines) ls increase (λ j hj. ascends_within (λ (k : ℕ). k) 0 (length lines) (k ∷ ks) up j (own_lines ls j h hj)))

  abbrev NoLine : List ℕ → List ℕ → Type 0
  NoLine p q = (line : ℕ) → Contains p line → Contains q line → ⊥

  apart_lines : Pairs Apart each
  apart_lines = pairs_weaker NoLine Apart each (λ p q hp hq no_line j a b. no_line j (contains_by_in p j a) (contains_by_in q j b)) (pairs_all NoLine each (are_apart block made read in_order))

  lines_of : (e : ElementView) → Has (process_pieces made) e → Has each e.lines
  lines_of e h = subst (λ (each : List (List ℕ)). Has each e.lines) (pieces_lines made) (in_map (λ (e : ElementView). e.lines) (process_pieces made) e h)

  pub process_elements : AreElements (length lines) (k ∷ ks) (process_pieces made)
  process_elements =
      record {
        whole = λ e h. whole_lines e.lines (lines_of e h);
        own = λ e j h hj. own_lines e.lines j (lines_of e h) hj;
        apart = pairs_by_map (λ (e : ElementView). e.lines) Apart (process_pieces made) (subst (Pairs Apart) (sym (pieces_lines made)) apart_lines);
      }

-- ---- the process that a file has

-- what lines make that are of this process
pub process_made : (b : Bool) (r : Result Part Fault) (fault : Fault) (p : Part) → (if b then r else Err fault) ≡ Ok p → (b ≡ true) × (r ≡ Ok p)
process_made true r fault p e = (refl, e)
process_made false r fault p e = absurd cc

pub process_is : (o : Option ℕ) (asn : ℕ) → option_eq (λ x y. x == y) o (Some asn) ≡ true → o ≡ Some asn
process_is None asn e = absurd cc
process_is (Some n) asn e = ap (λ (n : ℕ). Some n) (eqb-true n asn e)
