-- A place in a list of files, and what reads from there move.
use Rattle.std.proofs.Common.{◌≡◌, ◌≤◌, ◌<◌, ◌+◌, ◌++◌, ℕ, List, [], Some, length, take, drop, get_or, min, refl, sym, ap, ◌∙◌, subst, arith, length-drop, length-append, take-append-drop, length-take}
use Rattle.std.specs.Prelude.{Option, None, IfSome, IsSome, slice_get}
use Rattle.std.specs.Option.{option_map, option_and_then, ForSome}
use Rattle.std.proofs.lemmas.List.{drop-drop, take_at, drop_all}
use Rattle.std.proofs.lemmas.Option.{slice_get_read}
use Rattle.nc_outside.specs.declared.memory.files.Place.{Place}
use Rattle.nc_outside.specs.Named.{Named, content_of, Enters}
use Rattle.nc_outside.specs.Memory.{IsInside, file_from, less_front, whole}

-- the file at a place, less what was read of it
abbrev pub file_at : List Named → Option Place → Option Named
file_at files place = option_and_then (λ p. file_from files p.file p.at) place

-- this file stands at the place, and so many bytes of it were read
pub record Reads (files : List Named) (place : Option Place) (p : Place) (file : Named) : Type 0 where
  pub found : slice_get files p.file ≡ Some file
  pub left : file_at files place ≡ Some (less_front p.at file)
  pub within : p.at ≤ length file.content

pub Reads-inside : (files : List Named) (place : Option Place) (p : Place) (file : Named) → ForSome place (λ q. IsInside files q.file q.at) → place ≡ Some p → file ≡ get_or files p.file file → Reads files place p file
Reads-inside files place p file inside is there =
    let within = inside p is in
    let found = slice_get_read files (length files) p.file file refl within.0 there in
    record {
      found = found;
      left = ap (file_at files) is ∙ ap (option_map (less_front p.at)) found;
      within = subst (λ (o : Option Named). IfSome o (λ f. p.at ≤ length f.content)) found within.1;
    }

-- the front of what was left, where it is copied, and the new rest
pub consumes_front : (content into new : List ℕ) (at count : ℕ) → count ≡ min (length into) (min (length into) (length (drop at content))) → new ≡ take count (drop at content) ++ drop count into → (drop at content ≡ take count new ++ drop (at + count) content) × (count ≡ 0 → 0 < length new → drop (at + count) content ≡ [])
consumes_front content into new at count many moved =
    let front : take count new ≡ take count (drop at content) =
    ap (take count) moved ∙ take_at (take count (drop at content)) (drop count into) count (omega (arith, length-take count (drop at content))) in
    let lengths = ap length moved in (
      sym (take-append-drop count (drop at content)) ∙ ap (λ l. l ++ drop count (drop at content)) (sym front) ∙ ap (λ l. take count new ++ l) (drop-drop count at content),
      λ none some. drop_all (at + count) content (omega (arith, ap length moved, length-append (take count (drop at content)) (drop count into), length-take count (drop at content), length-drop count into, length-drop at content)),
    )

-- the first file of a name is entered, and the whole of it is left
pub Enters-first : (files : List Named) (name : List ℕ) (place : ℕ) → slice_get files place ≡ whole files name → IsSome (content_of files name) → Enters (Some files) name (option_map (λ f. f.name) (file_from files place 0)) (option_map (λ f. f.content) (file_from files place 0))
Enters-first files name place found is_there = on (content_of files name) refl is_there
  where
    on : (o : Option (List ℕ)) → content_of files name ≡ o → IsSome o → Enters (Some files) name (option_map (λ f. f.name) (file_from files place 0)) (option_map (λ f. f.content) (file_from files place 0))
    on None e some = absurd (cc)
    on (Some content) e some =
        let entered : file_from files place 0 ≡ Some (record { name = name; content = content }) =
        ap (option_map (less_front 0)) found ∙ ap (λ o. option_map (less_front 0) (option_map (λ bytes. record { name = name; content = bytes }) o)) e in
        (content, e, ap (option_map (λ f. f.name)) entered, ap (option_map (λ f. f.content)) entered)
