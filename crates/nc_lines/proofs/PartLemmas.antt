-- What a line says as a statement, and what it adds in front of others to what they say.
use Rattle.std.proofs.Common.{◌≡◌, List, [], ◌∷◌, Option, Some, None, refl, ap, ◌∙◌}
use Rattle.std.specs.Prelude.{unwrap_or}
use Rattle.std.specs.List.{filter_map, last_or, cons_option}
use Rattle.std.specs.Option.{option_map}
use Rattle.nc_types.specs.declared.fault.Fault.{Fault}
use Rattle.nc_types.specs.declared.fault.Cause.{Cause}
use Rattle.nc_lines.specs.Statements.{Reading, Outside, Faulty, Says, fault_of, said_of}
use Rattle.nc_lines.specs.Parts.{Numbered, Stated, first_of, fault_in, statements_in}

-- ---- lists

pub kept : {X Y : Type 0} (h : X → Option Y) (x : X) (y : Y) (xs : List X) → h x ≡ Some y → filter_map h (x ∷ xs) ≡ y ∷ filter_map h xs
kept {X} {Y} h x y xs e = ap (λ (o : Option Y). cons_option o (filter_map h xs)) e

pub passed : {X Y : Type 0} (h : X → Option Y) (x : X) (xs : List X) → h x ≡ None → filter_map h (x ∷ xs) ≡ filter_map h xs
passed {X} {Y} h x xs e = ap (λ (o : Option Y). cons_option o (filter_map h xs)) e

-- where nothing is in a list, what stood before it is its last
pub last_from : {X : Type 0} (x : X) (xs : List X) → unwrap_or (last_or (Some x) xs) x ≡ unwrap_or (last_or None xs) x
last_from x [] = refl
last_from x (y ∷ ys) = refl

-- ---- lines

-- what is told of a line by what it says, and the statement that it is
abbrev fault_by : {S : Type 0} → Numbered → Reading S → Option Fault
fault_by l r = option_map (λ (cause : Cause). record { line = l.line; cause = cause }) (fault_of r)

abbrev pub stated_by : {S : Type 0} → Numbered → Reading S → Option (Stated S)
stated_by {S} l r = option_map (λ (s : S). record { line = l.line; setting = s }) (said_of r)

-- a statement has the line, and is what the line says
pub stated_is : {S : Type 0} (l : Numbered) (r : Reading S) (s : Stated S) → stated_by l r ≡ Some s → (l.line ≡ s.line) × (r ≡ Says s.setting)
stated_is l Outside s e = absurd (cc)
stated_is l (Faulty cause) s e = absurd (cc)
stated_is {S} l (Says t) s e =
    let same : record { line = l.line; setting = t } ≡ s = cc in
    (ap (λ (s : Stated S). s.line) same, ap (λ (s : Stated S). Says s.setting) same)

pub no_fault : {S : Type 0} (says : Numbered → Reading S) (l : Numbered) (block : List Numbered) (r : Reading S) → says l ≡ r → fault_by l r ≡ None → fault_in says (l ∷ block) ≡ fault_in says block
no_fault says l block r e none = ap (λ (fs : List Fault). first_of fs) (passed (λ (l : Numbered). fault_by l (says l)) l block (ap (fault_by l) e ∙ none))

pub a_fault : {S : Type 0} (says : Numbered → Reading S) (l : Numbered) (block : List Numbered) (cause : Cause) → says l ≡ Faulty cause → fault_in says (l ∷ block) ≡ Some (record { line = l.line; cause = cause })
a_fault says l block cause e = ap (λ (fs : List Fault). first_of fs) (kept (λ (l : Numbered). fault_by l (says l)) l (record { line = l.line; cause = cause }) block (ap (fault_by l) e))

pub not_stated : {S : Type 0} (says : Numbered → Reading S) (l : Numbered) (block : List Numbered) (r : Reading S) → says l ≡ r → stated_by l r ≡ None → statements_in says (l ∷ block) ≡ statements_in says block
not_stated says l block r e none = passed (λ (l : Numbered). stated_by l (says l)) l block (ap (stated_by l) e ∙ none)

pub stated : {S : Type 0} (says : Numbered → Reading S) (l : Numbered) (block : List Numbered) (s : S) → says l ≡ Says s → statements_in says (l ∷ block) ≡ record { line = l.line; setting = s } ∷ statements_in says block
stated says l block s e = kept (λ (l : Numbered). stated_by l (says l)) l (record { line = l.line; setting = s }) block (ap (stated_by l) e)
