-- The values in rows are those of the items that made them, and there is a fault exactly where a
-- setting stands twice.
use Rattle.std.proofs.Common.{◌≡◌, ◌∙◌, ◌++◌, ◌+◌, ◌≤◌, ◌||◌, ℕ, Bool, true, false, List, [], ◌∷◌, Some, None, length, codes, refl, sym, subst, ap, ap₂, arith}
use Rattle.std.specs.Prelude.{find}
use Rattle.std.specs.Option.{option_map_or}
use Rattle.std.specs.Str.{bytes_eq}
use Rattle.std.proofs.lemmas.List.{append-nil, append_assoc}
use Rattle.std.proofs.lemmas.Slice.Eq.{bytes_eq-Decides}
use Rattle.clap.specs.Walk.{Row, at_row, has_row, more_values}
use Rattle.clap.specs.Kinds.{Kinds, or_else}
use Rattle.clap.specs.declared.builder.value_parser.Reading.TheVariants.{AsWritten}
use Rattle.clap.specs.declared.error.kind.ErrorKind.TheVariants.{ArgumentConflict}
use Rattle.clap.specs.declared.parser.matches.ValueSource.TheVariants.{CommandLine}
use Rattle.nc_words.specs.Words.{FatTree, Item, Names, Rounds, Sets, Setting, Word, name_of, names_of, value_of, values_of}
use Rattle.nc_words.proofs.Shapes.{id_of}
use Rattle.nc_words.proofs.Turns.{fault_with, rows_with}
use Rattle.nc_words.proofs.Meeting.{faults, or_else_none, uses}

abbrev pub FILE : Word
FILE = codes "FILE"

-- the values of an id
abbrev pub got : Word → List Row → List Word
got id rows = option_map_or (λ (r : Row). r.values) (find (λ (r : Row). bytes_eq r.id id) rows) []

-- the row of an id that was used once
abbrev row_of : Word → Word → Row
row_of id value = record { id = id; values = value ∷ []; count = None; source = Some CommandLine; reading = AsWritten }

-- ---- a row at the end

got_none : (id : Word) (rows : List Row) → has_row id rows ≡ false → got id rows ≡ []
got_none id [] none = refl
got_none id (x ∷ rows) none = go (bytes_eq x.id id) refl (got_none id rows)
  where
    go : (t : Bool) → bytes_eq x.id id ≡ t → (has_row id rows ≡ false → got id rows ≡ []) → got id (x ∷ rows) ≡ []
    go true t further = let bad : true ≡ false = rw t at none in cc
    go false t further = rw t (further (rw t at none))

got_added : (id : Word) (r : Row) (rows : List Row) → bytes_eq r.id id ≡ true → has_row id rows ≡ false → got id (rows ++ r ∷ []) ≡ r.values
got_added id r [] is none = rw is refl
got_added id r (x ∷ rows) is none = go (bytes_eq x.id id) refl (got_added id r rows is)
  where
    go : (t : Bool) → bytes_eq x.id id ≡ t → (has_row id rows ≡ false → got id (rows ++ r ∷ []) ≡ r.values) → got id ((x ∷ rows) ++ r ∷ []) ≡ r.values
    go true t further = let bad : true ≡ false = rw t at none in cc
    go false t further = rw t (further (rw t at none))

got_beside : (id : Word) (r : Row) (rows : List Row) → bytes_eq r.id id ≡ false → got id (rows ++ r ∷ []) ≡ got id rows
got_beside id r [] not = rw not refl
got_beside id r (x ∷ rows) not = go (bytes_eq x.id id) refl (got_beside id r rows not)
  where
    go : (t : Bool) → bytes_eq x.id id ≡ t → got id (rows ++ r ∷ []) ≡ got id rows → got id ((x ∷ rows) ++ r ∷ []) ≡ got id (x ∷ rows)
    go true t further = rw t refl
    go false t further = rw t further

has_added : (id : Word) (r : Row) (rows : List Row) → bytes_eq r.id id ≡ true → has_row id (rows ++ r ∷ []) ≡ true
has_added id r [] is = rw is refl
has_added id r (x ∷ rows) is = go (bytes_eq x.id id) refl (has_added id r rows is)
  where
    go : (t : Bool) → bytes_eq x.id id ≡ t → has_row id (rows ++ r ∷ []) ≡ true → has_row id ((x ∷ rows) ++ r ∷ []) ≡ true
    go true t further = rw t refl
    go false t further = rw t further

has_beside : (id : Word) (r : Row) (rows : List Row) → bytes_eq r.id id ≡ false → has_row id (rows ++ r ∷ []) ≡ has_row id rows
has_beside id r [] not = rw not refl
has_beside id r (x ∷ rows) not = ap (λ t. bytes_eq x.id id || t) (has_beside id r rows not)

-- without a row of the id a change of it is a row at the end
at_end : (id : Word) (change : Row → List Row) (more rows : List Row) → has_row id rows ≡ false → at_row id change more rows ≡ rows ++ more
at_end id change more [] none = refl
at_end id change more (x ∷ rows) none = go (bytes_eq x.id id) refl (at_end id change more rows)
  where
    go : (t : Bool) → bytes_eq x.id id ≡ t → (has_row id rows ≡ false → at_row id change more rows ≡ rows ++ more) → at_row id change more (x ∷ rows) ≡ (x ∷ rows) ++ more
    go true t further = let bad : true ≡ false = rw t at none in cc
    go false t further = rw t (ap (λ (l : List Row). x ∷ l) (further (rw t at none)))

module _ (id value : Word) (rows : List Row) (none : has_row id rows ≡ false) where
  abbrev set_rows : List Row
  set_rows = at_row id (more_values CommandLine (value ∷ [])) (row_of id value ∷ []) (at_row id (λ _. []) [] rows)

  set_at_end : set_rows ≡ rows ++ row_of id value ∷ []
  set_at_end = ap (at_row id (more_values CommandLine (value ∷ [])) (row_of id value ∷ [])) (at_end id (λ _. []) [] rows none ∙ append-nil rows)
      ∙ at_end id (more_values CommandLine (value ∷ [])) (row_of id value ∷ []) rows none

-- a setting that has no row yet
added : (setting : Setting) (value : Word) (rows : List Row) → has_row (id_of setting) rows ≡ false → rows_with rows (Sets setting value) ≡ rows ++ row_of (id_of setting) value ∷ []
added Rounds value rows none = set_at_end (id_of Rounds) value rows none
added FatTree value rows none = set_at_end (id_of FatTree) value rows none

-- ---- one more value of the files

module _ (value : Word) where
  abbrev file_rows : List Row → List Row
  file_rows rows = at_row FILE (more_values CommandLine (value ∷ [])) (row_of FILE value ∷ []) rows

  got_file : (rows : List Row) → got FILE (file_rows rows) ≡ got FILE rows ++ value ∷ []
  got_file [] = refl
  got_file (x ∷ rows) = go (bytes_eq x.id FILE) refl (got_file rows)
    where
      go : (t : Bool) → bytes_eq x.id FILE ≡ t → got FILE (file_rows rows) ≡ got FILE rows ++ value ∷ [] → got FILE (file_rows (x ∷ rows)) ≡ got FILE (x ∷ rows) ++ value ∷ []
      go true t further = rw t (rw t refl)
      go false t further = rw t (rw t further)

  module _ (id : Word) (not : bytes_eq FILE id ≡ false) where
    other_id : (x : Row) → bytes_eq x.id FILE ≡ true → bytes_eq x.id id ≡ false
    other_id x t = ap (λ (l : Word). bytes_eq l id) ((bytes_eq-Decides x.id FILE).0 t) ∙ not

    got_past : (rows : List Row) → got id (file_rows rows) ≡ got id rows
    got_past [] = rw not refl
    got_past (x ∷ rows) = go (bytes_eq x.id FILE) (bytes_eq x.id id) refl refl (got_past rows)
      where
        go : (t u : Bool) → bytes_eq x.id FILE ≡ t → bytes_eq x.id id ≡ u → got id (file_rows rows) ≡ got id rows → got id (file_rows (x ∷ rows)) ≡ got id (x ∷ rows)
        go true u t _ further = rw (t, other_id x t) refl
        go false true t u further = rw (t, u) refl
        go false false t u further = rw (t, u) further

    has_past : (rows : List Row) → has_row id (file_rows rows) ≡ has_row id rows
    has_past [] = rw not refl
    has_past (x ∷ rows) = go (bytes_eq x.id FILE) refl (has_past rows)
      where
        go : (t : Bool) → bytes_eq x.id FILE ≡ t → has_row id (file_rows rows) ≡ has_row id rows → has_row id (file_rows (x ∷ rows)) ≡ has_row id (x ∷ rows)
        go true t further = rw (t, other_id x t) refl
        go false t further = rw t (ap (λ s. bytes_eq x.id id || s) further)

-- ---- what one item adds

-- a setting that is set without a fault has no row yet
unset : (setting : Setting) (value : Word) (rows : List Row) → fault_with rows (Sets setting value) ≡ [] → has_row (id_of setting) rows ≡ false
unset setting value rows none = go setting (has_row (id_of setting) rows) refl none
  where
    go : (setting : Setting) (t : Bool) → has_row (id_of setting) rows ≡ t → fault_with rows (Sets setting value) ≡ [] → has_row (id_of setting) rows ≡ false
    go Rounds true t none = let bad : ArgumentConflict ∷ [] ≡ [] = rw t at none in cc
    go FatTree true t none = let bad : ArgumentConflict ∷ [] ≡ [] = rw t at none in cc
    go setting false t none = t

no_fault : (setting : Setting) (value : Word) (rows : List Row) → has_row (id_of setting) rows ≡ false → fault_with rows (Sets setting value) ≡ []
no_fault Rounds value rows none = rw none refl
no_fault FatTree value rows none = rw none refl

same_id : (setting : Setting) → bytes_eq (id_of setting) (id_of setting) ≡ true
same_id Rounds = refl
same_id FatTree = refl

module _ (setting : Setting) (value : Word) (rows : List Row) (none : has_row (id_of setting) rows ≡ false) where
  got_same : got (id_of setting) (rows_with rows (Sets setting value)) ≡ got (id_of setting) rows ++ value ∷ []
  got_same = ap (got (id_of setting)) (added setting value rows none)
      ∙ got_added (id_of setting) (row_of (id_of setting) value) rows (same_id setting) none
      ∙ sym (ap (λ (l : List Word). l ++ value ∷ []) (got_none (id_of setting) rows none))

  got_other : (id : Word) → bytes_eq (id_of setting) id ≡ false → got id (rows_with rows (Sets setting value)) ≡ got id rows ++ []
  got_other id not = ap (got id) (added setting value rows none) ∙ got_beside id (row_of (id_of setting) value) rows not ∙ sym (append-nil (got id rows))

  has_same : has_row (id_of setting) (rows_with rows (Sets setting value)) ≡ true
  has_same = ap (has_row (id_of setting)) (added setting value rows none) ∙ has_added (id_of setting) (row_of (id_of setting) value) rows (same_id setting)

  has_other : (id : Word) → bytes_eq (id_of setting) id ≡ false → has_row id (rows_with rows (Sets setting value)) ≡ has_row id rows
  has_other id not = ap (has_row id) (added setting value rows none) ∙ has_beside id (row_of (id_of setting) value) rows not

got_setting : (setting : Setting) (item : Item) (rows : List Row) → fault_with rows item ≡ [] → got (id_of setting) (rows_with rows item) ≡ got (id_of setting) rows ++ value_of setting item
got_setting Rounds (Sets Rounds value) rows none = got_same Rounds value rows (unset Rounds value rows none)
got_setting Rounds (Sets FatTree value) rows none = got_other FatTree value rows (unset FatTree value rows none) (id_of Rounds) refl
got_setting FatTree (Sets Rounds value) rows none = got_other Rounds value rows (unset Rounds value rows none) (id_of FatTree) refl
got_setting FatTree (Sets FatTree value) rows none = got_same FatTree value rows (unset FatTree value rows none)
got_setting Rounds (Names name) rows none = got_past name (id_of Rounds) refl rows ∙ sym (append-nil (got (id_of Rounds) rows))
got_setting FatTree (Names name) rows none = got_past name (id_of FatTree) refl rows ∙ sym (append-nil (got (id_of FatTree) rows))

got_name : (item : Item) (rows : List Row) → fault_with rows item ≡ [] → got FILE (rows_with rows item) ≡ got FILE rows ++ name_of item
got_name (Sets Rounds value) rows none = got_other Rounds value rows (unset Rounds value rows none) FILE refl
got_name (Sets FatTree value) rows none = got_other FatTree value rows (unset FatTree value rows none) FILE refl
got_name (Names name) rows none = got_file name rows

-- ---- what all items add

first_none : (a b : Kinds) → or_else a b ≡ [] → a ≡ []
first_none [] b e = refl
first_none (k ∷ ks) b e = cc

pub got_values : (setting : Setting) (items : List Item) (rows : List Row) → faults rows items ≡ [] → got (id_of setting) (uses rows items) ≡ got (id_of setting) rows ++ values_of setting items
got_values setting [] rows none = sym (append-nil (got (id_of setting) rows))
got_values setting (item ∷ items) rows none =
    let here = first_none (fault_with rows item) _ none in
    got_values setting items (rows_with rows item) (or_else_none (fault_with rows item) _ none)
    ∙ ap (λ (l : List Word). l ++ values_of setting items) (got_setting setting item rows here)
    ∙ append_assoc (got (id_of setting) rows) (value_of setting item) (values_of setting items)

pub got_names : (items : List Item) (rows : List Row) → faults rows items ≡ [] → got FILE (uses rows items) ≡ got FILE rows ++ names_of items
got_names [] rows none = sym (append-nil (got FILE rows))
got_names (item ∷ items) rows none =
    let here = first_none (fault_with rows item) _ none in
    got_names items (rows_with rows item) (or_else_none (fault_with rows item) _ none)
    ∙ ap (λ (l : List Word). l ++ names_of items) (got_name item rows here)
    ∙ append_assoc (got FILE rows) (name_of item) (names_of items)

-- ---- no fault where each setting stands at most once

abbrev pub count : Bool → ℕ
count true = 1
count false = 0

-- the setting has a row, or one value, or none of these
abbrev pub Fits : Setting → List Row → List Item → Type 0
Fits setting rows items = count (has_row (id_of setting) rows) + length (values_of setting items) ≤ 1

one_more : (before after : Bool) (value : Word) (values : List Word) → before ≡ false → after ≡ true → count after + length values ≤ 1 → count before + length (value ∷ values) ≤ 1
one_more true after value values none set h = cc
one_more false true value values none set h = omega arith
one_more false false value values none set h = cc

one_less : (after : Bool) (value : Word) (values : List Word) (before : Bool) → before ≡ false → after ≡ true → count before + length (value ∷ values) ≤ 1 → count after + length values ≤ 1
one_less after value values true none set h = cc
one_less true value values false none set h = omega arith
one_less false value values false none set h = cc

kept_count : (before after : Bool) (values : List Word) → after ≡ before → count after + length values ≤ 1 → count before + length values ≤ 1
kept_count before after values same h = subst (λ b. count b + length values ≤ 1) same h

at_most_one : (b : Bool) → count b + 0 ≤ 1
at_most_one true = omega arith
at_most_one false = omega arith

was_unset : (before : Bool) (value : Word) (values : List Word) → count before + length (value ∷ values) ≤ 1 → before ≡ false
was_unset true value values h = absurd (omega arith)
was_unset false value values h = refl

fits_before : (setting : Setting) (item : Item) (items : List Item) (rows : List Row) → fault_with rows item ≡ [] → Fits setting (rows_with rows item) items → Fits setting rows (item ∷ items)
fits_before Rounds (Sets Rounds value) items rows none h = let new = unset Rounds value rows none in one_more _ _ value (values_of Rounds items) new (has_same Rounds value rows new) h
fits_before FatTree (Sets FatTree value) items rows none h = let new = unset FatTree value rows none in one_more _ _ value (values_of FatTree items) new (has_same FatTree value rows new) h
fits_before Rounds (Sets FatTree value) items rows none h = kept_count _ _ (values_of Rounds items) (has_other FatTree value rows (unset FatTree value rows none) (id_of Rounds) refl) h
fits_before FatTree (Sets Rounds value) items rows none h = kept_count _ _ (values_of FatTree items) (has_other Rounds value rows (unset Rounds value rows none) (id_of FatTree) refl) h
fits_before Rounds (Names name) items rows none h = kept_count _ _ (values_of Rounds items) (has_past name (id_of Rounds) refl rows) h
fits_before FatTree (Names name) items rows none h = kept_count _ _ (values_of FatTree items) (has_past name (id_of FatTree) refl rows) h

pub fits : (setting : Setting) (items : List Item) (rows : List Row) → faults rows items ≡ [] → Fits setting rows items
fits setting [] rows none = at_most_one (has_row (id_of setting) rows)
fits setting (item ∷ items) rows none =
    fits_before setting item items rows (first_none (fault_with rows item) _ none) (fits setting items (rows_with rows item) (or_else_none (fault_with rows item) _ none))

-- and a fault where one stands twice
pub fitting : (items : List Item) (rows : List Row) → Fits Rounds rows items → Fits FatTree rows items → faults rows items ≡ []
fitting [] rows a b = refl
fitting (Sets Rounds value ∷ items) rows a b =
    let new = was_unset _ value (values_of Rounds items) a in
    ap₂ or_else (no_fault Rounds value rows new)
    (fitting items (rows_with rows (Sets Rounds value)) (one_less _ value (values_of Rounds items) _ new (has_same Rounds value rows new) a)
    (kept_count _ _ (values_of FatTree items) (sym (has_other Rounds value rows new (id_of FatTree) refl)) b))
fitting (Sets FatTree value ∷ items) rows a b =
    let new = was_unset _ value (values_of FatTree items) b in
    ap₂ or_else (no_fault FatTree value rows new)
    (fitting items (rows_with rows (Sets FatTree value)) (kept_count _ _ (values_of Rounds items) (sym (has_other FatTree value rows new (id_of Rounds) refl)) a)
    (one_less _ value (values_of FatTree items) _ new (has_same FatTree value rows new) b))
fitting (Names name ∷ items) rows a b =
    fitting items (rows_with rows (Names name)) (kept_count _ _ (values_of Rounds items) (sym (has_past name (id_of Rounds) refl rows)) a)
    (kept_count _ _ (values_of FatTree items) (sym (has_past name (id_of FatTree) refl rows)) b)
