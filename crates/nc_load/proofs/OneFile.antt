-- What comes of a file that was entered and read whole.
use Rattle.std.proofs.Common.{◌≡◌, ◌≤◌, ℕ, List, [], ◌++◌, length, Option, Some, None, Result, Err, Bool, cond, IfSome, unwrap_or, append-nil, sym, ap, ◌∙◌, subst}
use Rattle.std.specs.Io.KnownBytes.{Consumes, IsAtEnd}
use Rattle.std.proofs.lemmas.Bool.{le-leb}
use Rattle.nc_lines.specs.Lines.{lines_of}
use Rattle.nc_outside.specs.Named.{Named, Enters, content_of}
use Rattle.nc_load.specs.Limits.{most_file_bytes}
use Rattle.nc_load.specs.declared.refusal.LoadFault.{LoadFault}
use Rattle.nc_load.specs.declared.loading.FileRead.{FileRead}
use Rattle.nc_report.specs.Views.{FileView}
use Rattle.nc_load.specs.Reading.{IsRead}
use Rattle.nc_load.specs.Load.{TooMany, load_lines, load_content, file_of}
use Rattle.nc_load.specs.declared.refusal.Quantity.TheVariants.{Bytes}
use Rattle.nc_load.specs.Loading.{IsOne, IsFileOf}

all_read : (content bytes : List ℕ) (rest : Option (List ℕ)) → Consumes (Some content) rest bytes → IsAtEnd rest → content ≡ bytes
all_read content bytes None taken ended = absurd taken
all_read content bytes (Some left) taken ended = taken ∙ ap (λ (l : List ℕ). bytes ++ l) ended ∙ append-nil bytes

module _ (name bytes : List ℕ) (rest : Option (List ℕ)) (short : length bytes ≤ most_file_bytes) where
  whole : (fs : List Named) (entered left : Option (List ℕ)) → Enters (Some fs) name entered left → IsRead most_file_bytes left rest bytes → content_of fs name ≡ Some bytes
  whole fs entered left is read =
      let from : IsRead most_file_bytes (Some is.0) rest bytes = subst (λ (l : Option (List ℕ)). IsRead most_file_bytes l rest bytes) is.3 read in
      is.1 ∙ ap (λ (l : List ℕ). Some l) (all_read is.0 bytes rest from.taken (from.ended short))

  content_is : load_content name (Some bytes) ≡ load_lines name (lines_of bytes)
  content_is = ap (λ (few : Bool). cond few (load_lines name (lines_of bytes)) (Err (TooMany Bytes))) (le-leb (length bytes) most_file_bytes short)

  -- what its lines give is what comes of it
  pub one_loaded : (names : List (List ℕ)) (result : Result FileRead LoadFault) (files : Option (List Named)) (entered left : Option (List ℕ)) → Enters files name entered left → IsRead most_file_bytes left rest bytes
      → IsOne names result (load_lines name (lines_of bytes)) → IfSome files (λ fs. IsOne names result (load_content name (content_of fs name)))
  one_loaded names result None entered left is read one = tt
  one_loaded names result (Some fs) entered left is read one =
      subst (IsOne names result) (sym (ap (load_content name) (whole fs entered left is read) ∙ content_is)) one

  -- and its lines are those of the file
  pub one_file : (file : FileView) (files : Option (List Named)) (entered left : Option (List ℕ)) → Enters files name entered left → IsRead most_file_bytes left rest bytes
      → file ≡ record { name = name; lines = lines_of bytes } → IsFileOf files name file
  one_file file files entered left is read made = record { named = ap (λ (f : FileView). f.name) made; whole = by_files files is }
    where
      by_files : (told : Option (List Named)) → Enters told name entered left → IfSome told (λ fs. file ≡ file_of fs name)
      by_files None none = tt
      by_files (Some fs) here = made ∙ ap (λ (o : Option (List ℕ)). record { name = name; lines = lines_of (unwrap_or o []) }) (sym (whole fs entered left here read))
