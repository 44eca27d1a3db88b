-- Whose lines the entries of a list have.
use Rattle.std.proofs.Common.{◌≡◌, ℕ, ◌<◌, ◌==◌, Bool, true, false, cond, List, [], ◌∷◌, length, map, filter, get_or, All, Contains, Option, Some, None, refl, sym, ap, ◌∙◌, subst, arith, inl, inr}
use Rattle.std.specs.Prelude.{Result, Ok, Err, IfSome, IfOk, option_and_then, codes}
use Rattle.std.specs.List.Sorted.{IsStrictlyIncreasing}
use Rattle.std.specs.Option.{option_map, option_map_or}
use Rattle.std.proofs.lemmas.Bool.{eqb-true}
use Rattle.std.proofs.lemmas.List.{get_or-map, length-map}
use Rattle.std.proofs.lemmas.List.Kept.{AllPairs-from_increasing}
use Rattle.nc_types.specs.declared.fault.Fault.{Fault}
use Rattle.nc_types.specs.declared.fault.Cause.TheVariants.{Syntax}
use Rattle.nc_types.specs.declared.config.ListEntry.{ListEntry}
use Rattle.nc_types.proofs.Members.{In, in_at, all_by_in, in_map, in_by_map, in_by_filter, in_by_contains, contains_by_in}
use Rattle.nc_lines.specs.Lines.{words_of}
use Rattle.nc_lines.specs.Numbers.{around_of}
use Rattle.nc_lines.specs.Statements.{after}
use Rattle.nc_lines.specs.Parts.{Numbered, lines_in}
use Rattle.nc_community.proofs.SetLemmas.{IsBelow, IsAscending, by_places, to_places}
use Rattle.nc_read_policy.specs.Results.{on_ok, ok_map}
use Rattle.nc_read_policy.specs.Clauses.{action_of}
use Rattle.nc_read_policy.specs.Entries.{bounds_of, seq_of, counted_seq, entry_of, numbered_entry, any_entry}
use Rattle.nc_read_policy.specs.Lists.{EntryPart, higher, of_seq, parts_of, behind_name, statement_at, stated_from, list_in}
use Rattle.nc_read_policy.specs.Laws.{HasLines, AreApart}
use Rattle.nc_read_policy.proofs.EntryLaws.{part_lines, part_some, own_part, ascend}

-- ---- the line of a statement

module _ {A B : Type 0} (P : B → Type 0) where
  if_then : (f : A → Option B) → ((x : A) → IfSome (f x) P) → (o : Option A) → IfSome (option_and_then f o) P
  if_then f h None = tt
  if_then f h (Some x) = h x

  if_map : (f : A → B) (Q : A → Type 0) → ((x : A) → Q x → P (f x)) → (o : Option A) → IfSome o Q → IfSome (option_map f o) P
  if_map f Q h None is = tt
  if_map f Q h (Some x) is = h x is

abbrev IsAt : ℕ → ListEntry → Type 0
IsAt line e = e.line ≡ line

entry_line : (line seq : ℕ) (words : List (List ℕ)) → IfSome (entry_of line seq words) (IsAt line)
entry_line line seq [] = tt
entry_line line seq (action ∷ []) = tt
entry_line line seq (action ∷ prefix ∷ words) =
    if_then (IsAt line) _ (λ permit. if_then (IsAt line) _ (λ p. if_map (IsAt line) _ (λ b. Unit {0}) (λ b t. refl) (bounds_of p.len words) (any (bounds_of p.len words))) (around_of prefix)) (action_of action)
  where
    any : (o : Option (ℕ × ℕ)) → IfSome o (λ b. Unit {0})
    any None = tt
    any (Some b) = tt

numbered_line : (line : ℕ) (words : List (List ℕ)) → IfSome (numbered_entry line words) (IsAt line)
numbered_line line [] = tt
numbered_line line (word ∷ words) = if_then (IsAt line) _ (λ seq. entry_line line seq words) (seq_of word)

any_line : (line highest : ℕ) (words : List (List ℕ)) → IfSome (any_entry line highest words) (IsAt line)
any_line line highest words = on (after (codes "seq" ∷ []) words)
  where
    on : (o : Option (List (List ℕ))) → IfSome (option_map_or (numbered_entry line) o (option_and_then (λ seq. entry_of line seq words) (counted_seq highest))) (IsAt line)
    on None = if_then (IsAt line) _ (λ seq. entry_line line seq words) (counted_seq highest)
    on (Some rest) = numbered_line line rest

statement_line : (highest : ℕ) (l : Numbered) → IfOk (statement_at highest l) (IsAt l.line)
statement_line highest l =
    on (option_and_then (any_entry l.line highest) (behind_name (words_of l.text))) (if_then (IsAt l.line) _ (any_line l.line highest) (behind_name (words_of l.text)))
  where
    on : (o : Option ListEntry) → IfSome o (IsAt l.line) → IfOk {E = Fault} (option_map_or (λ e. Ok e) o (Err (record { line = l.line; cause = Syntax }))) (IsAt l.line)
    on None is = tt
    on (Some e) is = is

-- the statements have the lines that they are read from
pub stated_lines : (highest : ℕ) (block : List Numbered) (es : List ListEntry) → stated_from highest block ≡ Ok es → map (λ (e : ListEntry). e.line) es ≡ lines_in block
stated_lines highest [] es made = let none : [] ≡ es = cc in ap (map (λ (e : ListEntry). e.line)) (sym none)
stated_lines highest (l ∷ block) es made = on (λ (e : ListEntry). stated_lines (higher highest e.seq) block) (statement_at highest l) (statement_line highest l) made
  where
    more : (e : ListEntry) → e.line ≡ l.line → ((rest : List ListEntry) → stated_from (higher highest e.seq) block ≡ Ok rest → map (λ (e : ListEntry). e.line) rest ≡ lines_in block)
        → (r : Result (List ListEntry) Fault) → stated_from (higher highest e.seq) block ≡ r → ok_map (λ (es : List ListEntry). e ∷ es) r ≡ Ok es → map (λ (e : ListEntry). e.line) es ≡ l.line ∷ lines_in block
    more e is rest (Ok others) read made =
        let same : e ∷ others ≡ es = cc in
        ap (map (λ (e : ListEntry). e.line)) (sym same) ∙ ap (λ (k : ℕ). k ∷ map (λ (e : ListEntry). e.line) others) is ∙ ap (λ (ks : List ℕ). l.line ∷ ks) (rest others read)
    more e is rest (Err fault) read made = absurd (cc)

    on : ((e : ListEntry) (rest : List ListEntry) → stated_from (higher highest e.seq) block ≡ Ok rest → map (λ (e : ListEntry). e.line) rest ≡ lines_in block)
        → (r : Result ListEntry Fault) → IfOk r (IsAt l.line) → on_ok (λ (e : ListEntry). ok_map (λ (es : List ListEntry). e ∷ es) (stated_from (higher highest e.seq) block)) r ≡ Ok es
        → map (λ (e : ListEntry). e.line) es ≡ l.line ∷ lines_in block
    on rest (Ok e) is made = more e is (rest e) (stated_from (higher highest e.seq) block) refl made
    on rest (Err fault) is made = absurd (cc)

-- the statements of a list, whose lines are those of its block
record AreStated (block : List Numbered) (ps : List EntryPart) : Type 0 where
  entries : List ListEntry
  lines : map (λ (e : ListEntry). e.line) entries ≡ lines_in block
  parts : parts_of entries ≡ ps

stated : (block : List Numbered) (ps : List EntryPart) → list_in block ≡ Ok ps → AreStated block ps
unfolding list_in
stated block ps made = on (stated_from 0 block) (stated_lines 0 block) made
  where
    on : (r : Result (List ListEntry) Fault) → ((es : List ListEntry) → r ≡ Ok es → map (λ (e : ListEntry). e.line) es ≡ lines_in block) → ok_map parts_of r ≡ Ok ps → AreStated block ps
    on (Ok es) lines made = record { entries = es; lines = lines es refl; parts = cc }
    on (Err fault) lines made = absurd (cc)

-- ---- lines of some statements

below_kept : (k : ℕ) (q : ListEntry → Bool) (es : List ListEntry) → IsBelow k (map (λ (e : ListEntry). e.line) es) → IsBelow k (map (λ (e : ListEntry). e.line) (filter q es))
below_kept k q [] b = tt
below_kept k q (e ∷ es) b = on (q e) (below_kept k q es b.1)
  where
    on : (t : Bool) → IsBelow k (map (λ (e : ListEntry). e.line) (filter q es)) → IsBelow k (map (λ (e : ListEntry). e.line) (cond t (e ∷ filter q es) (filter q es)))
    on true rest = (b.0, rest)
    on false rest = rest

still_ascend : (q : ListEntry → Bool) (es : List ListEntry) → IsAscending (map (λ (e : ListEntry). e.line) es) → IsAscending (map (λ (e : ListEntry). e.line) (filter q es))
still_ascend q [] a = tt
still_ascend q (e ∷ es) a = on (q e) (still_ascend q es a.1)
  where
    on : (t : Bool) → IsAscending (map (λ (e : ListEntry). e.line) (filter q es)) → IsAscending (map (λ (e : ListEntry). e.line) (cond t (e ∷ filter q es) (filter q es)))
    on true rest = (below_kept e.line q es a.0, rest)
    on false rest = rest

in_above : (k : ℕ) (es : List ListEntry) (e : ListEntry) → IsBelow k (map (λ (e : ListEntry). e.line) es) → In e es → k < e.line
in_above k [] e b i = absurd i
in_above k (f ∷ es) e b (inl same) = subst (λ (n : ℕ). k < n) (ap (λ (e : ListEntry). e.line) same) b.0
in_above k (f ∷ es) e b (inr i) = in_above k es e b.1 i

-- no two statements have one line
one_line : (es : List ListEntry) (e f : ListEntry) → IsAscending (map (λ (e : ListEntry). e.line) es) → In e es → In f es → e.line ≡ f.line → e ≡ f
one_line [] e f a i j same = absurd i
one_line (x ∷ xs) e f a (inl p) (inl q) same = sym p ∙ q
one_line (x ∷ xs) e f a (inl p) (inr j) same = absurd (let lt : x.line < f.line = in_above x.line xs f a.0 j in let is : x.line ≡ e.line = ap (λ (e : ListEntry). e.line) p in omega arith)
one_line (x ∷ xs) e f a (inr i) (inl q) same = absurd (let lt : x.line < e.line = in_above x.line xs e a.0 i in let is : x.line ≡ f.line = ap (λ (e : ListEntry). e.line) q in omega arith)
one_line (x ∷ xs) e f a (inr i) (inr j) same = one_line xs e f a.1 i j same

-- ---- lines of entries

abbrev of_number : ℕ → ListEntry → Bool
of_number seq e = e.seq == seq

-- a line of an entry is that of a statement of its number
pub line_of : (es : List ListEntry) (p : EntryPart) (k : ℕ) → In p (parts_of es) → In k p.lines → (e : ListEntry) × (In e es) × (e.seq ≡ p.entry.seq) × (e.line ≡ k)
line_of es p k i among =
    let lines : p.lines ≡ map (λ (e : ListEntry). e.line) (of_seq p.entry.seq es) = part_lines (of_seq p.entry.seq es) p (own_part es p i) in
    let r = in_by_map (λ (e : ListEntry). e.line) (of_seq p.entry.seq es) k (subst (In k) lines among) in
    let s = in_by_filter (of_number p.entry.seq) es r.0 r.1 in
    (r.0, s.0, eqb-true r.0.seq p.entry.seq s.1, r.2)

lines_whole : (es : List ListEntry) → IsAscending (map (λ (e : ListEntry). e.line) es) → (p : EntryPart) → In p (parts_of es) → HasLines (map (λ (e : ListEntry). e.line) es) p
lines_whole es a p i =
    let own = own_part es p i in
    let lines : p.lines ≡ map (λ (e : ListEntry). e.line) (of_seq p.entry.seq es) = part_lines (of_seq p.entry.seq es) p own in
    let some : 0 < length (of_seq p.entry.seq es) = part_some (of_seq p.entry.seq es) p own in
    record {
      some = omega (arith, ap length lines, length-map (of_seq p.entry.seq es) (λ (e : ListEntry). e.line));
      ascend = subst IsStrictlyIncreasing (sym lines) (to_places (map (λ (e : ListEntry). e.line) (of_seq p.entry.seq es)) (still_ascend (of_number p.entry.seq) es a));
      within = all_by_in (λ (k : ℕ). Contains (map (λ (e : ListEntry). e.line) es) k) p.lines (λ k among.
          let r = line_of es p k i among in
          contains_by_in (map (λ (e : ListEntry). e.line) es) k (subst (λ (n : ℕ). In n (map (λ (e : ListEntry). e.line) es)) r.3 (in_map (λ (e : ListEntry). e.line) es r.0 r.1)));
    }

pub whole : (block : List Numbered) (ps : List EntryPart) → list_in block ≡ Ok ps → IsStrictlyIncreasing (lines_in block) → All (HasLines (lines_in block)) ps
whole block ps made up =
    let s = stated block ps made in
    let ascending : IsAscending (map (λ (e : ListEntry). e.line) s.entries) = by_places (map (λ (e : ListEntry). e.line) s.entries) (subst IsStrictlyIncreasing (sym s.lines) up) in
    all_by_in (HasLines (lines_in block)) ps (λ p i. subst (λ (ks : List ℕ). HasLines ks p) s.lines (lines_whole s.entries ascending p (subst (In p) (sym s.parts) i)))

numbers_differ : (es : List ListEntry) (i j : ℕ) (d : EntryPart) → i < j → j < length (parts_of es) → (get_or (parts_of es) i d).entry.seq < (get_or (parts_of es) j d).entry.seq
numbers_differ es i j d lt within =
    let seqs : List ℕ = map (λ (p : EntryPart). p.entry.seq) (parts_of es) in
    let count : length seqs ≡ length (parts_of es) = length-map (parts_of es) (λ (p : EntryPart). p.entry.seq) in
    let below : get_or seqs i 0 < get_or seqs j 0 = AllPairs-from_increasing seqs (ascend es) i j 0 lt (omega arith) in
    let first : get_or seqs i 0 ≡ (get_or (parts_of es) i d).entry.seq = get_or-map (λ (p : EntryPart). p.entry.seq) (parts_of es) i d 0 (omega arith) in
    let second : get_or seqs j 0 ≡ (get_or (parts_of es) j d).entry.seq = get_or-map (λ (p : EntryPart). p.entry.seq) (parts_of es) j d 0 within in
    omega arith

lines_apart : (es : List ListEntry) → IsAscending (map (λ (e : ListEntry). e.line) es) → AreApart (parts_of es)
lines_apart es a i j d lt within k one other =
    let p = get_or (parts_of es) i d in
    let q = get_or (parts_of es) j d in
    let r = line_of es p k (in_at (parts_of es) i d (omega arith)) (in_by_contains p.lines k one) in
    let s = line_of es q k (in_at (parts_of es) j d within) (in_by_contains q.lines k other) in
    let same : r.0 ≡ s.0 = one_line es r.0 s.0 a r.1 s.1 (r.3 ∙ sym s.3) in
    let seqs : p.entry.seq ≡ q.entry.seq = sym r.2 ∙ ap (λ (e : ListEntry). e.seq) same ∙ s.2 in
    let differ : p.entry.seq < q.entry.seq = numbers_differ es i j d lt within in
    omega arith

pub apart : (block : List Numbered) (ps : List EntryPart) → list_in block ≡ Ok ps → IsStrictlyIncreasing (lines_in block) → AreApart ps
apart block ps made up =
    let s = stated block ps made in
    subst AreApart s.parts (lines_apart s.entries (by_places (map (λ (e : ListEntry). e.line) s.entries) (subst IsStrictlyIncreasing (sym s.lines) up)))
