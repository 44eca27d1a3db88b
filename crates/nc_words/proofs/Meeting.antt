-- `clap` takes words exactly where they are allowed, and uses what they say.
use Rattle.std.proofs.Common.{◌≡◌, ◌⊎◌, ◌∙◌, ◌++◌, true, false, List, [], ◌∷◌, map, Option, Some, None, refl, sym, ap, ap₂, subst, inl, inr}
use Rattle.std.specs.Prelude.{fold, ⊤}
use Rattle.std.specs.Str.{IsUtf8}
use Rattle.clap.specs.Walk.{Row, Waiting, Walk, option, positional, settled, walked}
use Rattle.clap.specs.Kinds.{Kinds, or_else}
use Rattle.clap.specs.Faults.{settle_fault, walk_fault}
use Rattle.clap.specs.declared.error.kind.ErrorKind.{ErrorKind}
use Rattle.clap.specs.declared.error.kind.ErrorKind.TheVariants.{InvalidValue}
use Rattle.nc_words.specs.Words.{FatTree, Item, Names, Rounds, Sets, Setting, Unknown, Word, and_before, form_of, is_dashed, said, said_by}
use Rattle.nc_words.proofs.Shapes.{Spelling, dashes, first_char, holds, id_of, long, long_word_of, no_flag, opens, short, spelled}
use Rattle.nc_words.proofs.Turns.{behind, behind_fault, behind_missing, behind_next, between, dashes_fault, dashes_next, fault_at, fault_settled, fault_with, held, holds_fault, holds_next, last_fault, last_rows, long_fault_at, next, opens_fault, opens_next, or_else_nil, pending_of, plain_fault, plain_next, rows_settled, rows_with, shape, short_fault_at, valued, valued_dashes, valued_end, valued_fault, valued_holds, valued_long, valued_next, valued_opens, valued_short, waits_with}

-- ---- what items make of rows, and their fault

abbrev pub uses : List Row → List Item → List Row
uses rows [] = rows
uses rows (item ∷ items) = uses (rows_with rows item) items

abbrev pub faults : List Row → List Item → Kinds
faults rows [] = []
faults rows (item ∷ items) = or_else (fault_with rows item) (faults (rows_with rows item) items)

-- the value of a setting begins with a dash and has several bytes
abbrev pub HasDashed : List Item → Type 0
HasDashed [] = ⊥
HasDashed (Sets setting value ∷ items) = (is_dashed value ≡ true) ⊎ HasDashed items
HasDashed (Names name ∷ items) = HasDashed items

-- a fault and the rows at the end are those of what words say
abbrev pub Meets : Kinds → List Row → List Row → Option (List Item) → Type 0
Meets kinds end rows None = kinds ≡ [] → ⊥
Meets kinds end rows (Some items) = ((kinds ≡ faults rows items) × (end ≡ uses rows items)) ⊎ ((kinds ≡ [] → ⊥) × HasDashed items)

pub or_else_none : (a b : Kinds) → or_else a b ≡ [] → b ≡ []
or_else_none [] b e = e
or_else_none (k ∷ ks) b e = cc

or_else_assoc : (a b c : Kinds) → or_else (or_else a b) c ≡ or_else a (or_else b c)
or_else_assoc [] b c = refl
or_else_assoc (k ∷ ks) b c = refl

dashed_more : (item : Item) (items : List Item) → HasDashed items → HasDashed (item ∷ items)
dashed_more (Sets setting value) items h = inr h
dashed_more (Names name) items h = h

-- with an item more in front
meets_item : (rows : List Row) (item : Item) (kinds : Kinds) (end : List Row) (o : Option (List Item)) → Meets kinds end (rows_with rows item) o → Meets (or_else (fault_with rows item) kinds) end rows (and_before item o)
meets_item rows item kinds end None h = λ e. h (or_else_none (fault_with rows item) kinds e)
meets_item rows item kinds end (Some items) (inl p) = inl (ap (or_else (fault_with rows item)) p.0, p.1)
meets_item rows item kinds end (Some items) (inr p) = inr (λ e. p.0 (or_else_none (fault_with rows item) kinds e), dashed_more item items p.1)

abbrev pub with_last : Option Item → Option (List Item) → Option (List Item)
with_last None o = o
with_last (Some item) o = and_before item o

meets_last : (rows : List Row) (last : Option Item) (kinds : Kinds) (end : List Row) (o : Option (List Item)) → Meets kinds end (rows_settled rows last) o → Meets (or_else (fault_settled rows last) kinds) end rows (with_last last o)
meets_last rows None kinds end o h = h
meets_last rows (Some item) kinds end o h = meets_item rows item kinds end o h

-- the value of a setting that is refused
meets_dashed : (kinds : Kinds) (end rows : List Row) (setting : Setting) (value : Word) (o : Option (List Item)) → (kinds ≡ [] → ⊥) → is_dashed value ≡ true → Meets kinds end rows (and_before (Sets setting value) o)
meets_dashed kinds end rows setting value None fails dashed = fails
meets_dashed kinds end rows setting value (Some items) fails dashed = inr (fails, inl dashed)

-- ---- a walk over words

abbrev pub walk_after : Walk → List Word → Walk
walk_after w words = fold (walked shape.rules []) w words

abbrev pub fault_on : Walk → List Word → Kinds
fault_on w words = or_else (walk_fault shape [] w words) (settle_fault shape.rules false (walk_after w words).held)

abbrev pub rows_on : Walk → List Word → List Row
rows_on w words = (settled shape.rules (walk_after w words).held).rows

fault_end : (w : Walk) → fault_on w [] ≡ settle_fault shape.rules false w.held
unfolding walk_fault
fault_end w = refl

fault_step : (w : Walk) (word : Word) (words : List Word) → fault_on w (word ∷ words) ≡ or_else (fault_at w word) (fault_on (next w word) words)
unfolding walk_fault
fault_step w word words = or_else_assoc (fault_at w word) (walk_fault shape [] (next w word) words) (settle_fault shape.rules false (walk_after (next w word) words).held)

module _ (w after : Walk) (word : Word) (words : List Word) (fault : Kinds) (is : fault_at w word ≡ fault) (goes : next w word ≡ after) where
  meets_step : (rows : List Row) (o : Option (List Item)) → Meets (or_else fault (fault_on after words)) (rows_on after words) rows o → Meets (fault_on w (word ∷ words)) (rows_on w (word ∷ words)) rows o
  meets_step rows o h =
      subst (λ (k : Kinds). Meets k (rows_on w (word ∷ words)) rows o) (sym (fault_step w word words ∙ ap₂ (λ (f : Kinds) (v : Walk). or_else f (fault_on v words)) is goes))
      (subst (λ (v : Walk). Meets (or_else fault (fault_on after words)) (rows_on v words) rows o) (sym goes) h)

refuse : (w : Walk) (word : Word) (words : List Word) (k : ErrorKind) → fault_at w word ≡ k ∷ [] → fault_on w (word ∷ words) ≡ [] → ⊥
refuse w word words k is none =
    let bad : k ∷ [] ≡ [] = sym (fault_step w word words ∙ ap (λ (f : Kinds). or_else f (fault_on (next w word) words)) is) ∙ none in
    cc

-- ---- behind `--`

on_end : (rows : List Row) (last : Option Item) (waiting : Waiting) (w : Walk) → w.held ≡ held rows (pending_of last) → Meets (fault_on w []) (rows_on w []) rows (with_last last (Some []))
on_end rows last waiting w is =
    subst (λ (k : Kinds). Meets k (rows_on w []) rows (with_last last (Some []))) (or_else_nil (fault_settled rows last) ∙ sym (fault_end w ∙ ap (settle_fault shape.rules false) is ∙ last_fault rows last))
    (subst (λ (end : List Row). Meets (or_else (fault_settled rows last) []) end rows (with_last last (Some []))) (sym (ap (λ h. (settled shape.rules h).rows) is ∙ last_rows rows last))
    (meets_last rows last [] (rows_settled rows last) (Some []) (inl (refl, refl))))

on_behind : (words : List Word) (rows : List Row) (last : Option Item) (waiting : Waiting)
    → Meets (fault_on (behind rows (pending_of last) waiting) words) (rows_on (behind rows (pending_of last) waiting) words) rows (with_last last (Some (map Names words)))
on_behind [] rows last waiting = on_end rows last waiting (behind rows (pending_of last) waiting) refl
on_behind (word ∷ words) rows last waiting =
    let after = behind (rows_settled rows last) (pending_of (Some (Names word))) positional in
    meets_step (behind rows (pending_of last) waiting) after word words (fault_settled rows last) (behind_fault rows last waiting word) (behind_next rows last waiting word) rows _
    (meets_last rows last (fault_on after words) (rows_on after words) (Some (map Names (word ∷ words)))
    (on_behind words (rows_settled rows last) (Some (Names word)) positional))

-- a setting without a value is refused there
missing : (words : List Word) (rows : List Row) (setting : Setting) (waiting : Waiting) → fault_on (behind rows (Some (id_of setting, [])) waiting) words ≡ [] → ⊥
missing [] rows setting waiting none =
    let bad : InvalidValue ∷ [] ≡ [] = sym (fault_end (behind rows (Some (id_of setting, [])) waiting) ∙ valued_end rows setting) ∙ none in
    cc
missing (word ∷ words) rows setting waiting none = refuse (behind rows (Some (id_of setting, [])) waiting) word words InvalidValue (behind_missing rows setting waiting word) none

-- ---- all words

abbrev pub AreTexts : List Word → Type 0
AreTexts [] = ⊤
AreTexts (word ∷ words) = IsUtf8 word × AreTexts words

abbrev pub MeetsBetween : List Word → List Row → Option Item → Type 0
MeetsBetween words rows last = Meets (fault_on (between rows last) words) (rows_on (between rows last) words) rows (with_last last (said None words))

abbrev pub MeetsValued : List Word → List Row → Setting → Type 0
MeetsValued words rows setting = Meets (fault_on (valued rows setting) words) (rows_on (valued rows setting) words) rows (said (Some setting) words)

pub record MeetsAll (words : List Word) : Type 0 where
  pub between : (rows : List Row) (last : Option Item) → MeetsBetween words rows last
  pub valued : (rows : List Row) (setting : Setting) → MeetsValued words rows setting

unknown : (last : Option Item) (word : Word) (words : List Word) → form_of word ≡ Unknown → with_last last (said None (word ∷ words)) ≡ None
unknown None word words is = rw is refl
unknown (Some item) word words is = rw is refl

module _ (words : List Word) (further : MeetsAll words) (rows : List Row) where
  opened : (last : Option Item) (setting : Setting) → MeetsBetween (long_word_of setting ∷ words) rows last
  opened last Rounds = meets_step (between rows last) (valued (rows_settled rows last) Rounds) (long_word_of Rounds) words (fault_settled rows last) (opens_fault rows last Rounds) (opens_next rows last Rounds) rows _
      (meets_last rows last _ _ (said (Some Rounds) words) (further.valued (rows_settled rows last) Rounds))
  opened last FatTree = meets_step (between rows last) (valued (rows_settled rows last) FatTree) (long_word_of FatTree) words (fault_settled rows last) (opens_fault rows last FatTree) (opens_next rows last FatTree) rows _
      (meets_last rows last _ _ (said (Some FatTree) words) (further.valued (rows_settled rows last) FatTree))

  module _ (last : Option Item) (setting : Setting) (value : Word) where
    abbrev used_rows : List Row
    used_rows = rows_with (rows_settled rows last) (Sets setting value)

    abbrev attached : Word
    attached = long_word_of setting ++ 61 ∷ value

    held_value : Meets (fault_on (between rows last) (attached ∷ words)) (rows_on (between rows last) (attached ∷ words)) rows (with_last last (and_before (Sets setting value) (said None words)))
    held_value = meets_step (between rows last) (between used_rows None) attached words (or_else (fault_settled rows last) (fault_with (rows_settled rows last) (Sets setting value)))
        (holds_fault rows last setting value) (holds_next rows last setting value) rows _
        (subst (λ (k : Kinds). Meets k (rows_on (between used_rows None) words) rows (with_last last (and_before (Sets setting value) (said None words))))
        (sym (or_else_assoc (fault_settled rows last) (fault_with (rows_settled rows last) (Sets setting value)) (fault_on (between used_rows None) words)))
        (meets_last rows last _ _ (and_before (Sets setting value) (said None words))
        (meets_item (rows_settled rows last) (Sets setting value) _ _ (said None words) (further.between used_rows None))))

  attached_value : (last : Option Item) (setting : Setting) (value : Word) → MeetsBetween ((long_word_of setting ++ 61 ∷ value) ∷ words) rows last
  attached_value last Rounds value = held_value last Rounds value
  attached_value last FatTree value = held_value last FatTree value

  between_more : (word : Word) → IsUtf8 word → (last : Option Item) → Spelling word → MeetsBetween (word ∷ words) rows last
  between_more word text last (dashes e) = subst (λ (v : Word). MeetsBetween (v ∷ words) rows last) (sym e)
      (meets_step (between rows last) (behind rows (pending_of last) (waits_with last)) (45 ∷ 45 ∷ []) words [] (dashes_fault rows last) (dashes_next rows last) rows _
      (on_behind words rows last (waits_with last)))
  between_more word text last (opens setting e) = subst (λ (v : Word). MeetsBetween (v ∷ words) rows last) (sym e) (opened last setting)
  between_more word text last (holds setting value e) = subst (λ (v : Word). MeetsBetween (v ∷ words) rows last) (sym e) (attached_value last setting value)
  between_more word text last (long c cs e a b other) = subst (Meets _ _ rows) (sym (unknown last word words other.form))
      (refuse (between rows last) word words _ (ap (fault_at (between rows last)) e ∙ long_fault_at c cs rows last a b))
  between_more word text last (short c cs e letters other) =
      let first = first_char c cs (subst IsUtf8 e text) in
      subst (Meets _ _ rows) (sym (unknown last word words other.form)) (refuse (between rows last) word words _ (short_fault_at c cs rows last word first.0 letters first.1))
  between_more word text last (no_flag is) =
      let after = between (rows_settled rows last) (Some (Names word)) in
      let plain : with_last last (and_before (Names word) (said None words)) ≡ with_last last (said None (word ∷ words)) = ap (λ f. with_last last (said_by f word words (λ waiting. said waiting words))) (sym is.form) in
      subst (Meets _ _ rows) plain
      (meets_step (between rows last) after word words (fault_settled rows last) (plain_fault rows last word is) (plain_next rows last word is) rows (with_last last (and_before (Names word) (said None words)))
      (meets_last rows last _ _ (and_before (Names word) (said None words)) (further.between (rows_settled rows last) (Some (Names word)))))

  dashes_missing : (setting : Setting) → fault_on (valued rows setting) ((45 ∷ 45 ∷ []) ∷ words) ≡ [] → ⊥
  dashes_missing setting none = missing words rows setting (option (id_of setting))
      (ap (λ (w : Walk). fault_on w words) (sym (valued_dashes rows setting))
      ∙ or_else_none (fault_at (valued rows setting) (45 ∷ 45 ∷ [])) _ (sym (fault_step (valued rows setting) (45 ∷ 45 ∷ []) words) ∙ none))

  valued_refused : (setting : Setting) (word : Word) → (fault_on (valued rows setting) (word ∷ words) ≡ [] → ⊥) → is_dashed word ≡ true → MeetsValued (word ∷ words) rows setting
  valued_refused setting word fails dashed = meets_dashed (fault_on (valued rows setting) (word ∷ words)) (rows_on (valued rows setting) (word ∷ words)) rows setting word (said None words) fails dashed

  valued_more : (word : Word) → IsUtf8 word → (setting : Setting) → Spelling word → MeetsValued (word ∷ words) rows setting
  valued_more word text setting (dashes e) = subst (λ (v : Word). MeetsValued (v ∷ words) rows setting) (sym e) (valued_refused setting (45 ∷ 45 ∷ []) (dashes_missing setting) refl)
  valued_more word text setting (opens other e) = subst (λ (v : Word). MeetsValued (v ∷ words) rows setting) (sym e)
      (valued_refused setting (long_word_of other) (refuse (valued rows setting) (long_word_of other) words InvalidValue (valued_opens rows setting other)) refl)
  valued_more word text setting (holds other value e) = subst (λ (v : Word). MeetsValued (v ∷ words) rows setting) (sym e)
      (valued_refused setting (long_word_of other ++ 61 ∷ value) (refuse (valued rows setting) (long_word_of other ++ 61 ∷ value) words InvalidValue (valued_holds rows setting other value)) refl)
  valued_more word text setting (long c cs e a b other) = valued_refused setting word (refuse (valued rows setting) word words _ (ap (fault_at (valued rows setting)) e ∙ valued_long c cs rows setting a b)) other.dashed
  valued_more word text setting (short c cs e letters other) =
      let first = first_char c cs (subst IsUtf8 e text) in
      valued_refused setting word (refuse (valued rows setting) word words _ (valued_short c cs rows setting word first.0 letters first.1)) other.dashed
  valued_more word text setting (no_flag is) =
      meets_step (valued rows setting) (between rows (Some (Sets setting word))) word words [] (valued_fault rows setting word is) (valued_next rows setting word is) rows _
      (further.between rows (Some (Sets setting word)))

pub meets_all : (words : List Word) → AreTexts words → MeetsAll words
meets_all [] are = record {
  between = λ rows last. on_end rows last (waits_with last) (between rows last) refl;
  valued = λ rows setting none.
      let bad : InvalidValue ∷ [] ≡ [] = sym (fault_end (valued rows setting) ∙ valued_end rows setting) ∙ none in
      cc;
}
meets_all (word ∷ words) are =
    let further = meets_all words are.1 in
    record {
      between = λ rows last. between_more words further rows word are.0 last (spelled word);
      valued = λ rows setting. valued_more words further rows word are.0 setting (spelled word);
    }
