-- The lines of a block one by one: what is left to read gives what the whole gives.
use Rattle.std.proofs.Common.{◌≡◌, List, ◌∷◌, Option, None, Some, Result, Err, refl, sym, ap, ◌∙◌}
use Rattle.std.specs.Option.{option_map_or, option_or}
use Rattle.nc_types.specs.declared.addr.Addr.{Addr}
use Rattle.nc_types.specs.declared.fault.Fault.{Fault}
use Rattle.nc_types.specs.declared.fault.Cause.{Cause}
use Rattle.nc_lines.specs.Statements.{Outside, Faulty, Says}
use Rattle.nc_lines.specs.Outcomes.{lower_of}
use Rattle.nc_lines.specs.Parts.{Numbered, first_of, fault_in, statements_in}
use Rattle.nc_lines.proofs.PartLemmas.{kept, passed, no_fault, a_fault, not_stated, stated}
use Rattle.nc_read_bgp.specs.Statements.{ProcessSays, line_says}
use Rattle.nc_read_bgp.specs.Neighbors.{NeighborFields}
use Rattle.nc_read_bgp.specs.Processes.{ProcessFields, ProcessMade, process_of, lack_of, lack_in}
use Rattle.nc_read_bgp.specs.Steps.{process_with, process_behind, finished}

abbrev made : Option Fault → ProcessFields → Result ProcessMade Fault
made fault whole = option_map_or Err (lower_of fault (lack_in whole.neighbors)) (Result.Ok (process_of whole))

abbrev told_by : Option Fault → Option Fault → Option Fault
told_by told later = option_or told later

goes_on : (p q : ProcessFields) (t u : Option Fault) (l : Numbered) (block : List Numbered) → told_by t (fault_in line_says (l ∷ block)) ≡ told_by u (fault_in line_says block)
    → process_behind p (statements_in line_says (l ∷ block)) ≡ process_behind q (statements_in line_says block) → finished p t (l ∷ block) ≡ finished q u block
unfolding finished
goes_on p q t u l block e h =
    ap (λ (fault : Option Fault). made fault (process_behind p (statements_in line_says (l ∷ block)))) e ∙ ap (made (told_by u (fault_in line_says block))) h

-- what isn't read adds nothing
pub passes_line : (p : ProcessFields) (t : Option Fault) (l : Numbered) (block : List Numbered) → line_says l ≡ Outside → finished p t (l ∷ block) ≡ finished p t block
passes_line p t l block says =
    goes_on p p t t l block (ap (told_by t) (no_fault line_says l block Outside says refl)) (ap (process_behind p) (not_stated line_says l block Outside says refl))

-- a statement leaves what it says
pub takes_statement : (p q : ProcessFields) (t : Option Fault) (l : Numbered) (s : ProcessSays) (block : List Numbered) → line_says l ≡ Says s → q ≡ process_with p l.line s → finished p t (l ∷ block) ≡ finished q t block
takes_statement p q t l s block says changed =
    goes_on p q t t l block (ap (told_by t) (no_fault line_says l block (Says s) says refl))
    (ap (process_behind p) (stated line_says l block s says) ∙ ap (λ (p : ProcessFields). process_behind p (statements_in line_says block)) (sym changed))

-- the first faulty line is told of
pub tells_line : (p : ProcessFields) (t : Option Fault) (l : Numbered) (cause : Cause) (block : List Numbered) → line_says l ≡ Faulty cause
    → finished p t (l ∷ block) ≡ finished p (told_by t (Some (record { line = l.line; cause = cause }))) block
tells_line p t l cause block says =
    goes_on p p t (told_by t (Some (record { line = l.line; cause = cause }))) l block (first t) (ap (process_behind p) (not_stated line_says l block (Faulty cause) says refl))
  where
    first : (t : Option Fault) → told_by t (fault_in line_says (l ∷ block)) ≡ told_by (told_by t (Some (record { line = l.line; cause = cause }))) (fault_in line_says block)
    first None = a_fault line_says l block cause says
    first (Some f) = refl

-- a neighbor in front of others that lacks its number, or has it
pub lack_here : (e : Addr × NeighborFields) (es : List (Addr × NeighborFields)) (f : Fault) → Some f ≡ lack_of e.1 → Some f ≡ lack_in (e ∷ es)
lack_here e es f lacks = sym (ap (λ (fs : List Fault). first_of fs) (kept (λ (e : Addr × NeighborFields). lack_of e.1) e f es (sym lacks)))

pub lack_later : (e : Addr × NeighborFields) (es : List (Addr × NeighborFields)) → None ≡ lack_of e.1 → lack_in (e ∷ es) ≡ lack_in es
lack_later e es none = ap (λ (fs : List Fault). first_of fs) (passed (λ (e : Addr × NeighborFields). lack_of e.1) e es (sym none))
