-- What holds of the entries that statements make.
use Rattle.std.proofs.Common.{◌≡◌, ℕ, ◌<◌, ◌==◌, Bool, true, false, cond, ◌||◌, nat_eq, List, [], ◌∷◌, length, map, All, Option, Some, None, refl, sym, ap, ◌∙◌, subst, arith, inl, inr}
use Rattle.std.specs.Prelude.{IfSome, if◌then◌else◌}
use Rattle.std.specs.List.{filter_map, cons_option, find, last_or}
use Rattle.std.specs.List.Sorted.{IsStrictlyIncreasing}
use Rattle.std.specs.Option.{option_map}
use Rattle.std.proofs.lemmas.Bool.{eqb-true}
use Rattle.std.proofs.lemmas.Bool.Decides.{nat_tests}
use Rattle.std.proofs.lemmas.List.{length-map}
use Rattle.nc_types.specs.Communities.{has}
use Rattle.nc_types.specs.declared.config.ListEntry.{ListEntry}
use Rattle.nc_types.proofs.Members.{In, is_among, all_by_in, in_by_filter_map}
use Rattle.nc_lines.proofs.PartLemmas.{kept}
use Rattle.nc_community.proofs.SetLemmas.{to_places, all_ascends, all_longer}
use Rattle.nc_read_policy.specs.Lists.{EntryPart, of_seq, part_of, seqs_of, parts_of}
use Rattle.nc_read_policy.proofs.RunLemmas.{some_of, seqs_have}

-- ---- the statements of one number

last_is : (seq : ℕ) (o : Option ListEntry) (es : List ListEntry) → IfSome o (λ (e : ListEntry). e.seq ≡ seq) → IfSome (last_or o (of_seq seq es)) (λ (e : ListEntry). e.seq ≡ seq)
last_is seq o [] is = is
last_is seq o (f ∷ es) is = on (last_is seq (Some f) es) (last_is seq o es is) (f.seq == seq) refl
  where
    on : (f.seq ≡ seq → IfSome (last_or (Some f) (of_seq seq es)) (λ (e : ListEntry). e.seq ≡ seq)) → IfSome (last_or o (of_seq seq es)) (λ (e : ListEntry). e.seq ≡ seq)
        → (b : Bool) → (f.seq == seq) ≡ b → IfSome (last_or o (cond b (f ∷ of_seq seq es) (of_seq seq es))) (λ (e : ListEntry). e.seq ≡ seq)
    on there past true t = there (eqb-true f.seq seq t)
    on there past false t = past

-- an entry has the number and the lines of its statements, of which there is one
pub part_seq : (seq : ℕ) (es : List ListEntry) (p : EntryPart) → part_of (of_seq seq es) ≡ Some p → p.entry.seq ≡ seq
part_seq seq es p made = on (map (λ (e : ListEntry). e.line) (of_seq seq es)) (last_or None (of_seq seq es)) (last_is seq None es tt) made
  where
    on : (ks : List ℕ) (o : Option ListEntry) → IfSome o (λ (e : ListEntry). e.seq ≡ seq) → option_map (λ (last : ListEntry). record { entry = last; lines = ks }) o ≡ Some p → p.entry.seq ≡ seq
    on ks None is made = absurd (cc)
    on ks (Some last) is made = let same : record { entry = last; lines = ks } ≡ p = cc in ap (λ (p : EntryPart). p.entry.seq) (sym same) ∙ is

pub part_lines : (ss : List ListEntry) (p : EntryPart) → part_of ss ≡ Some p → p.lines ≡ map (λ (e : ListEntry). e.line) ss
part_lines ss p made = on (map (λ (e : ListEntry). e.line) ss) (last_or None ss) made
  where
    on : (ks : List ℕ) (o : Option ListEntry) → option_map (λ (last : ListEntry). record { entry = last; lines = ks }) o ≡ Some p → p.lines ≡ ks
    on ks None made = absurd (cc)
    on ks (Some last) made = let same : record { entry = last; lines = ks } ≡ p = cc in ap (λ (p : EntryPart). p.lines) (sym same)

pub part_some : (ss : List ListEntry) (p : EntryPart) → part_of ss ≡ Some p → 0 < length ss
part_some [] p made = absurd (cc)
part_some (s ∷ ss) p made = omega arith

last_some : (x : ListEntry) (xs : List ListEntry) → (y : ListEntry) × (last_or (Some x) xs ≡ Some y)
last_some x [] = (x, refl)
last_some x (y ∷ ys) = last_some y ys

has_part : (ss : List ListEntry) → some_of ss ≡ true → (p : EntryPart) × (part_of ss ≡ Some p)
has_part [] some = absurd (cc)
has_part (x ∷ xs) some =
    let last = last_some x xs in
    (record { entry = last.0; lines = map (λ (e : ListEntry). e.line) (x ∷ xs) }, ap (option_map (λ (last : ListEntry). record { entry = last; lines = map (λ (e : ListEntry). e.line) (x ∷ xs) })) last.1)

-- ---- all numbers

abbrev pub at_seq : List ListEntry → ℕ → Option EntryPart
at_seq es n = part_of (of_seq n es)

keeps : (es : List ListEntry) (ns : List ℕ) → ((n : ℕ) → In n ns → has n (seqs_of es) ≡ true) → map (λ (p : EntryPart). p.entry.seq) (filter_map (at_seq es) ns) ≡ ns
keeps es [] among = refl
keeps es (n ∷ ns) among =
    let p = has_part (of_seq n es) (sym (seqs_have n es) ∙ among n (inl refl)) in
    ap (map (λ (p : EntryPart). p.entry.seq)) (kept (at_seq es) n p.0 ns p.1)
    ∙ ap (λ (m : ℕ). m ∷ map (λ (p : EntryPart). p.entry.seq) (filter_map (at_seq es) ns)) (part_seq n es p.0 p.1) ∙ ap (λ (ms : List ℕ). n ∷ ms) (keeps es ns (λ m i. among m (inr i)))

-- the numbers of the entries are those of the statements
pub seqs_are : (es : List ListEntry) → map (λ (p : EntryPart). p.entry.seq) (parts_of es) ≡ seqs_of es
seqs_are es = keeps es (seqs_of es) (λ n i. is_among n (seqs_of es) i)

pub ascend : (es : List ListEntry) → IsStrictlyIncreasing (map (λ (p : EntryPart). p.entry.seq) (parts_of es))
ascend es = subst IsStrictlyIncreasing (sym (seqs_are es)) (to_places (seqs_of es) (all_ascends [] (map (λ (e : ListEntry). e.seq) es) tt))

pub own_part : (es : List ListEntry) (p : EntryPart) → In p (parts_of es) → part_of (of_seq p.entry.seq es) ≡ Some p
own_part es p i = let r = in_by_filter_map (at_seq es) (seqs_of es) p i in ap (at_seq es) (part_seq r.0 es p r.2) ∙ r.2

pub each : (es : List ListEntry) → All (λ (p : EntryPart). part_of (of_seq p.entry.seq es) ≡ Some p) (parts_of es)
each es = all_by_in (λ (p : EntryPart). part_of (of_seq p.entry.seq es) ≡ Some p) (parts_of es) (own_part es)

both : (b : Bool) (o : Option EntryPart) → o ≡ None → (if b then o else None) ≡ None
both true o none = none
both false o none = refl

find_in : (seq : ℕ) (es : List ListEntry) (ns : List ℕ) → find (λ (p : EntryPart). p.entry.seq == seq) (filter_map (at_seq es) ns) ≡ (if has seq ns then at_seq es seq else None)
find_in seq es [] = refl
find_in seq es (n ∷ ns) = on (find_in seq es ns) (at_seq es n) refl (nat_eq seq n) refl
  where
    on : find (λ (p : EntryPart). p.entry.seq == seq) (filter_map (at_seq es) ns) ≡ (if has seq ns then at_seq es seq else None)
        → (o : Option EntryPart) → at_seq es n ≡ o → (b : Bool) → nat_eq seq n ≡ b
        → find (λ (p : EntryPart). p.entry.seq == seq) (cons_option o (filter_map (at_seq es) ns)) ≡ (if b || has seq ns then at_seq es seq else None)
    on rest None made true t =
        let same : n ≡ seq = sym (eqb-true seq n t) in
        let none : at_seq es seq ≡ None = ap (at_seq es) (sym same) ∙ made in
        rest ∙ both (has seq ns) (at_seq es seq) none ∙ sym none
    on rest None made false t = rest
    on rest (Some p) made true t =
        let same : n ≡ seq = sym (eqb-true seq n t) in
        let is : p.entry.seq ≡ n = part_seq n es p made in
        let found : (p.entry.seq == seq) ≡ true = grind (arith, nat_tests) in
        rw found (sym made ∙ ap (at_seq es) same)
    on rest (Some p) made false t =
        let is : p.entry.seq ≡ n = part_seq n es p made in
        let other : (p.entry.seq == seq) ≡ false = grind (arith, nat_tests) in
        rw other rest

pub all : (es : List ListEntry) (seq : ℕ) → find (λ (p : EntryPart). p.entry.seq == seq) (parts_of es) ≡ part_of (of_seq seq es)
all es seq = find_in seq es (seqs_of es) ∙ ap (λ (b : Bool). if b then at_seq es seq else None) (seqs_have seq es) ∙ some_or_none (of_seq seq es)
  where
    some_or_none : (ss : List ListEntry) → (if some_of ss then part_of ss else None) ≡ part_of ss
    some_or_none [] = refl
    some_or_none (s ∷ ss) = refl

pub filled : (es : List ListEntry) → 0 < length es → 0 < length (parts_of es)
filled [] some = absurd (omega arith)
filled (e ∷ es) some =
    let count : length (parts_of (e ∷ es)) ≡ length (seqs_of (e ∷ es)) = sym (length-map (parts_of (e ∷ es)) (λ (p : EntryPart). p.entry.seq)) ∙ ap length (seqs_are (e ∷ es)) in
    omega (arith, all_longer (e.seq ∷ []) (map (λ (e : ListEntry). e.seq) es))
