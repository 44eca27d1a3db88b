use Rattle.std.proofs.Common.{◌≡◌, ◌<◌, ◌+◌, ℕ, true, cond, List, ◌∷◌, Some, length, get_or, drop, refl, sym, ap, ◌∙◌}
use Rattle.std.specs.Prelude.{slice_get}
use Rattle.std.specs.Option.{option_map}
use Rattle.std.specs.Str.{bytes_eq}
use Rattle.std.proofs.lemmas.List.{drop_more}
use Rattle.std.proofs.lemmas.Option.{slice_get_read}
use Rattle.std.proofs.lemmas.Slice.Eq.{bytes_eq-Decides}
use Rattle.nc_outside.specs.Named.{Named, content_of}
use Rattle.nc_outside.specs.Memory.{whole}
use Rattle.nc_outside.proofs.memory.files.place_of.Goals as goal

-- a file of the name, behind files that don't have it, is the first of the name
found_here : (files : List Named) (i : ℕ) (name : List ℕ) (file : Named) → i < length files → file ≡ get_or files i file → bytes_eq file.name name ≡ true → content_of (drop i files) name ≡ content_of files name → slice_get files i ≡ whole files name
found_here files i name file within there same from_here =
    let first : drop i files ≡ file ∷ drop (i + 1) files = drop_more files i file within ∙ ap (λ f. f ∷ drop (i + 1) files) (sym there) in
    let content : content_of files name ≡ Some file.content =
    sym from_here ∙ ap (λ fs. content_of fs name) first ∙ ap (λ b. cond b (Some file.content) (content_of (drop (i + 1) files) name)) same in
    let named : whole files name ≡ Some file =
    ap (option_map (λ bytes. record { name = name; content = bytes })) content ∙ ap (λ n. Some (record { name = n; content = file.content })) (sym ((bytes_eq-Decides file.name name).0 same)) in
    slice_get_read files (length files) i file refl within there ∙ sym named

pub returns-then-has_name-clause-found : goal.returns-then-has_name-clause-found
returns-then-has_name-clause-found c =
    let file = c.index-files-place.result in
    found_here c.args.files.now c.loop-place.place c.args.name.now file c.loop-place-test.true c.index-files-place.is (sym c.has_name.ensures ∙ c.if-has_name.true) c.loop-place.invariant
