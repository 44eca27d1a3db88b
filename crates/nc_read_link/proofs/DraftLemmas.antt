-- The lines of a block one by one: what is left to read gives what the whole gives.
use Rattle.std.proofs.Common.{◌≡◌, ℕ, Bool, true, false, cond, not, List, [], ◌∷◌, ◌++◌, Option, None, Result, Ok, Err, refl, sym, ap, ◌∙◌, append_assoc, map, filter}
use Rattle.std.specs.Prelude.{◌||◌, unwrap_or, is_some}
use Rattle.std.specs.List.{filter_map}
use Rattle.std.specs.Option.{option_map_or}
use Rattle.nc_types.specs.declared.fault.Fault.{Fault}
use Rattle.nc_types.specs.declared.config.IfaceAddr.{IfaceAddr}
use Rattle.nc_types.specs.declared.fault.Cause.{Cause}
use Rattle.nc_lines.specs.Lines.{is_indented, words_of}
use Rattle.nc_lines.specs.Statements.{Reading, Outside, Faulty, Says, said_of}
use Rattle.nc_read_link.specs.declared.setting.Setting.{Setting}
use Rattle.nc_read_link.specs.declared.setting.Setting.TheVariants.{Address, NoAddress, Shut}
use Rattle.nc_read_link.specs.declared.draft.Draft.{Draft}
use Rattle.nc_lines.specs.Parts.{Numbered}
use Rattle.nc_lines.proofs.PartLemmas.{last_from, no_fault, a_fault, not_stated, stated}
use Rattle.nc_read_link.specs.Interfaces.{InterfacePart, InterfaceStatement, line_says, setting_says, interface_fault, interface_statements, lines_in, interface_in, address_by, shut_by}
use Rattle.nc_read_link.specs.Drafts.{address_behind, shut_behind, part_of, finished}

-- ---- what a line says

indented_says : (l : Numbered) → is_indented l.text ≡ true → line_says l ≡ setting_says (words_of l.text)
indented_says l e = ap (λ (b : Bool). cond b (setting_says (words_of l.text)) Outside) e

header_says : (l : Numbered) → is_indented l.text ≡ false → line_says l ≡ Outside
header_says l e = ap (λ (b : Bool). cond b (setting_says (words_of l.text)) Outside) e

-- whether a line is one of the interface's
abbrev counts : Numbered → Bool
counts l = not (is_indented l.text) || is_some (said_of (line_says l))

counted : (l : Numbered) (block : List Numbered) (before : List ℕ) → counts l ≡ true → before ++ lines_in (l ∷ block) ≡ (before ++ l.line ∷ []) ++ lines_in block
counted l block before e =
    ap (λ (b : Bool). before ++ map (λ (l : Numbered). l.line) (cond b (l ∷ filter counts block) (filter counts block))) e ∙ sym (append_assoc before (l.line ∷ []) (lines_in block))

uncounted : (l : Numbered) (block : List Numbered) → counts l ≡ false → lines_in (l ∷ block) ≡ lines_in block
uncounted l block e = ap (λ (b : Bool). map (λ (l : Numbered). l.line) (cond b (l ∷ filter counts block) (filter counts block))) e

-- ---- statements

address_more : (before : Option (ℕ × IfaceAddr)) (line : ℕ) (s : Setting) (ss : List InterfaceStatement) → address_behind before (record { line = line; setting = s } ∷ ss) ≡ address_behind (unwrap_or (address_by line s) before) ss
address_more before line (Address a) ss = refl
address_more before line NoAddress ss = refl
address_more before line (Shut b) ss = refl

shut_more : (before : Bool) (line : ℕ) (s : Setting) (ss : List InterfaceStatement) → shut_behind before (record { line = line; setting = s } ∷ ss) ≡ shut_behind (unwrap_or (shut_by s) before) ss
shut_more before line (Address a) ss = refl
shut_more before line NoAddress ss = refl
shut_more before line (Shut b) ss = refl

-- ---- drafts

abbrev made : List ℕ → Option Fault → Option (ℕ × IfaceAddr) → Bool → List ℕ → Result InterfacePart Fault
made name fault address shut lines = option_map_or Err fault (Ok (part_of name address shut lines))

made_same : (name : List ℕ) (f g : Option Fault) (a b : Option (ℕ × IfaceAddr)) (s t : Bool) (ls ms : List ℕ) → f ≡ g → a ≡ b → s ≡ t → ls ≡ ms → made name f a s ls ≡ made name g b t ms
made_same name f g a b s t ls ms e h i j =
    ap (λ (f : Option Fault). made name f a s ls) e ∙ ap (λ (a : Option (ℕ × IfaceAddr)). made name g a s ls) h ∙ ap (λ (s : Bool). made name g b s ls) i ∙ ap (λ (ls : List ℕ). made name g b t ls) j

goes_on : (name before after : List ℕ) (old new : Draft) (l : Numbered) (block : List Numbered) → interface_fault (l ∷ block) ≡ interface_fault block
    → address_behind old.address (interface_statements (l ∷ block)) ≡ address_behind new.address (interface_statements block)
    → shut_behind old.shut (interface_statements (l ∷ block)) ≡ shut_behind new.shut (interface_statements block)
    → before ++ lines_in (l ∷ block) ≡ after ++ lines_in block → finished name before old (l ∷ block) ≡ finished name after new block
unfolding finished
goes_on name before after old new l block e h i j = made_same name _ _ _ _ _ _ _ _ e h i j

-- a header sets nothing, and counts
pub takes_header : (name before : List ℕ) (d : Draft) (l : Numbered) (block : List Numbered) → is_indented l.text ≡ false
    → finished name before d (l ∷ block) ≡ finished name (before ++ l.line ∷ []) d block
takes_header name before d l block header =
    let says = header_says l header in
    let same = not_stated line_says l block Outside says refl in
    goes_on name before (before ++ l.line ∷ []) d d l block (no_fault line_says l block Outside says refl) (ap (address_behind d.address) same) (ap (shut_behind d.shut) same)
    (counted l block before (ap (λ (b : Bool). not b || is_some (said_of (line_says l))) header))

-- what isn't read adds nothing
pub passes_line : (name before : List ℕ) (d : Draft) (l : Numbered) (block : List Numbered) → is_indented l.text ≡ true → setting_says (words_of l.text) ≡ Outside
    → finished name before d (l ∷ block) ≡ finished name before d block
passes_line name before d l block inside e =
    let says = indented_says l inside ∙ e in
    let same = not_stated line_says l block Outside says refl in
    goes_on name before before d d l block (no_fault line_says l block Outside says refl) (ap (address_behind d.address) same) (ap (shut_behind d.shut) same)
    (ap (λ (ls : List ℕ). before ++ ls) (uncounted l block (ap (λ (b : Bool). not b || is_some (said_of (line_says l))) inside ∙ ap (λ (r : Reading Setting). is_some (said_of r)) says)))

-- a statement sets what it says, and counts
pub takes_statement : (name before : List ℕ) (old new : Draft) (l : Numbered) (s : Setting) (block : List Numbered) → is_indented l.text ≡ true → setting_says (words_of l.text) ≡ Says s
    → new.address ≡ unwrap_or (address_by l.line s) old.address → new.shut ≡ unwrap_or (shut_by s) old.shut
    → finished name before old (l ∷ block) ≡ finished name (before ++ l.line ∷ []) new block
takes_statement name before old new l s block inside e address shut =
    let says = indented_says l inside ∙ e in
    let same = stated line_says l block s says in
    goes_on name before (before ++ l.line ∷ []) old new l block (no_fault line_says l block (Says s) says refl)
    (ap (address_behind old.address) same ∙ address_more old.address l.line s (interface_statements block) ∙ ap (λ (a : Option (ℕ × IfaceAddr)). address_behind a (interface_statements block)) (sym address))
    (ap (shut_behind old.shut) same ∙ shut_more old.shut l.line s (interface_statements block) ∙ ap (λ (b : Bool). shut_behind b (interface_statements block)) (sym shut))
    (counted l block before (ap (λ (b : Bool). not b || is_some (said_of (line_says l))) inside ∙ ap (λ (r : Reading Setting). is_some (said_of r)) says))

-- a faulty line is told of
pub tells_line : (name before : List ℕ) (d : Draft) (l : Numbered) (cause : Cause) (block : List Numbered) → is_indented l.text ≡ true → setting_says (words_of l.text) ≡ Faulty cause
    → finished name before d (l ∷ block) ≡ Err (record { line = l.line; cause = cause })
unfolding finished
tells_line name before d l cause block inside e =
    ap (λ (f : Option Fault). made name f (address_behind d.address (interface_statements (l ∷ block))) (shut_behind d.shut (interface_statements (l ∷ block))) (before ++ lines_in (l ∷ block))) (a_fault line_says l block cause (indented_says l inside ∙ e))

-- the first line of a block finds nothing set
pub started : (name : List ℕ) (d : Draft) (block : List Numbered) → d.address ≡ None → d.shut ≡ false → finished name [] d block ≡ interface_in name block
unfolding finished interface_in
started name d block none opened =
    let ss = interface_statements block in
    made_same name _ _ _ _ _ _ _ _ refl
    (ap (λ (a : Option (ℕ × IfaceAddr)). address_behind a ss) none ∙ last_from None (filter_map (λ (s : InterfaceStatement). address_by s.line s.setting) ss))
    (ap (λ (b : Bool). shut_behind b ss) opened ∙ last_from false (filter_map (λ (s : InterfaceStatement). shut_by s.setting) ss))
    refl
