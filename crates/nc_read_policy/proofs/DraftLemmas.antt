-- The lines of a block one by one: what is left to read gives what the whole gives.
use Rattle.std.proofs.Common.{◌≡◌, ℕ, Bool, false, List, [], ◌∷◌, ◌++◌, Option, Result, Ok, Err, refl, sym, ap, ◌∙◌, append_assoc, map}
use Rattle.std.specs.Prelude.{unwrap_or}
use Rattle.std.specs.List.{filter_map, flat_map}
use Rattle.std.specs.Option.{option_map_or}
use Rattle.nc_types.specs.declared.fault.Fault.{Fault}
use Rattle.nc_types.specs.declared.fault.Cause.{Cause}
use Rattle.nc_types.specs.declared.config.Reference.{Reference}
use Rattle.nc_lines.specs.Statements.{Outside, Faulty, Says}
use Rattle.nc_lines.specs.Parts.{Numbered, fault_in, statements_in}
use Rattle.nc_lines.proofs.PartLemmas.{last_from, no_fault, a_fault, not_stated, stated}
use Rattle.nc_read_policy.specs.Clauses.{ClauseStatement, Opens, Matches, MatchesCommunities, SetsPreference, SetsMetric, Prepends, SetsOrigin, SetsCommunities, ClauseLine, ClausePart, action_by, lists_by, community_lists_by, prepend_by, last_of, line_says, clause_in, name_in, number_in}
use Rattle.nc_read_policy.specs.Drafts.{empty_part, part_with, part_behind, finished}

-- ---- parts

-- what adds up: the lists of both kinds and the lines
abbrev with_sums : ClausePart → List Reference → List Reference → List ℕ → ClausePart
with_sums p ls cs ks = record { clause = record p.clause { lists = ls; community_lists = cs }; lines = ks }

regrouped : (p q : ClausePart) (line : ℕ) (ls cs : List Reference) (ss : List ClauseLine)
    → with_sums q (p.clause.lists ++ (ls ++ flat_map (λ (s : ClauseLine). lists_by s.line s.setting) ss)) (p.clause.community_lists ++ (cs ++ flat_map (λ (s : ClauseLine). community_lists_by s.line s.setting) ss)) (p.lines ++ line ∷ map (λ (s : ClauseLine). s.line) ss)
    ≡ with_sums q ((p.clause.lists ++ ls) ++ flat_map (λ (s : ClauseLine). lists_by s.line s.setting) ss) ((p.clause.community_lists ++ cs) ++ flat_map (λ (s : ClauseLine). community_lists_by s.line s.setting) ss) ((p.lines ++ line ∷ []) ++ map (λ (s : ClauseLine). s.line) ss)
regrouped p q line ls cs ss =
    let lists = flat_map (λ (s : ClauseLine). lists_by s.line s.setting) ss in
    let others = flat_map (λ (s : ClauseLine). community_lists_by s.line s.setting) ss in
    let ks = map (λ (s : ClauseLine). s.line) ss in
    ap (λ (all : List Reference). with_sums q all (p.clause.community_lists ++ (cs ++ others)) (p.lines ++ line ∷ ks)) (sym (append_assoc p.clause.lists ls lists))
    ∙ ap (λ (all : List Reference). with_sums q ((p.clause.lists ++ ls) ++ lists) all (p.lines ++ line ∷ ks)) (sym (append_assoc p.clause.community_lists cs others))
    ∙ ap (with_sums q ((p.clause.lists ++ ls) ++ lists) ((p.clause.community_lists ++ cs) ++ others)) (sym (append_assoc p.lines (line ∷ []) ks))

part_more : (p : ClausePart) (line : ℕ) (s : ClauseStatement) (ss : List ClauseLine) → part_behind p (record { line = line; setting = s } ∷ ss) ≡ part_behind (part_with p line s) ss
part_more p line (Opens h) ss = regrouped p (part_behind (part_with p line (Opens h)) ss) line [] [] ss
part_more p line (Matches names) ss = regrouped p (part_behind (part_with p line (Matches names)) ss) line (lists_by line (Matches names)) [] ss
part_more p line (MatchesCommunities names) ss = regrouped p (part_behind (part_with p line (MatchesCommunities names)) ss) line [] (community_lists_by line (MatchesCommunities names)) ss
part_more p line (SetsPreference n) ss = regrouped p (part_behind (part_with p line (SetsPreference n)) ss) line [] [] ss
part_more p line (SetsMetric n) ss = regrouped p (part_behind (part_with p line (SetsMetric n)) ss) line [] [] ss
part_more p line (Prepends numbers) ss = regrouped p (part_behind (part_with p line (Prepends numbers)) ss) line [] [] ss
part_more p line (SetsOrigin code) ss = regrouped p (part_behind (part_with p line (SetsOrigin code)) ss) line [] [] ss
part_more p line (SetsCommunities set) ss = regrouped p (part_behind (part_with p line (SetsCommunities set)) ss) line [] [] ss

-- ---- drafts

abbrev made : Option Fault → ClausePart → Result ClausePart Fault
made fault p = option_map_or Err fault (Ok p)

goes_on : (old new : ClausePart) (l : Numbered) (block : List Numbered) → fault_in line_says (l ∷ block) ≡ fault_in line_says block
    → part_behind old (statements_in line_says (l ∷ block)) ≡ part_behind new (statements_in line_says block) → finished old (l ∷ block) ≡ finished new block
unfolding finished
goes_on old new l block e h =
    ap (λ (fault : Option Fault). made fault (part_behind old (statements_in line_says (l ∷ block)))) e ∙ ap (made (fault_in line_says block)) h

-- what isn't read adds nothing
pub passes_line : (p : ClausePart) (l : Numbered) (block : List Numbered) → line_says l ≡ Outside → finished p (l ∷ block) ≡ finished p block
passes_line p l block says =
    goes_on p p l block (no_fault line_says l block Outside says refl) (ap (part_behind p) (not_stated line_says l block Outside says refl))

-- a statement sets what it says, and adds its line
pub takes_statement : (old new : ClausePart) (l : Numbered) (s : ClauseStatement) (block : List Numbered) → line_says l ≡ Says s → new ≡ part_with old l.line s
    → finished old (l ∷ block) ≡ finished new block
takes_statement old new l s block says changed =
    goes_on old new l block (no_fault line_says l block (Says s) says refl)
    (ap (part_behind old) (stated line_says l block s says) ∙ part_more old l.line s (statements_in line_says block)
    ∙ ap (λ (p : ClausePart). part_behind p (statements_in line_says block)) (sym changed))

-- a faulty line is told of
pub tells_line : (p : ClausePart) (l : Numbered) (cause : Cause) (block : List Numbered) → line_says l ≡ Faulty cause
    → finished p (l ∷ block) ≡ Err (record { line = l.line; cause = cause })
unfolding finished
tells_line p l cause block says =
    ap (λ (fault : Option Fault). made fault (part_behind p (statements_in line_says (l ∷ block)))) (a_fault line_says l block cause says)

-- ---- the whole

abbrev with_set : Bool → List ℕ → ClausePart → ClausePart
with_set permit prepend p = record { clause = record p.clause { permit = permit; prepend = prepend }; lines = p.lines }

-- the first line of a block finds nothing set
pub started : (name : List ℕ) (number : ℕ) (p : ClausePart) (block : List Numbered) → name ≡ name_in block → number ≡ number_in block → p ≡ empty_part name number → finished p block ≡ clause_in block
unfolding finished clause_in
started name number p block named numbered none =
    let ss = statements_in line_says block in
    let q = part_behind (empty_part (name_in block) (number_in block)) ss in
    let fault = fault_in line_says block in
    ap (λ (p : ClausePart). made fault (part_behind p ss)) none
    ∙ ap (λ (name : List ℕ). made fault (part_behind (empty_part name number) ss)) named
    ∙ ap (λ (number : ℕ). made fault (part_behind (empty_part (name_in block) number) ss)) numbered
    ∙ ap (λ (b : Bool). made fault (with_set b q.clause.prepend q)) (last_from false (filter_map (λ (s : ClauseLine). action_by s.setting) ss))
    ∙ ap (λ (ns : List ℕ). made fault (with_set (unwrap_or (last_of action_by ss) false) ns q)) (last_from [] (filter_map (λ (s : ClauseLine). prepend_by s.setting) ss))
