-- How many bytes were taken, over several reads.
use Rattle.std.specs.Prelude.{option_and_then, Result, Ok, Err, is_err, OnOk, OnErr}
use Rattle.std.proofs.Common.{◌≡◌, ℕ, ◌+◌, ◌≤◌, true, false, List, [], ◌++◌, length, Option, Some, None, ap, ◌∙◌, subst, arith, length-append}
use Rattle.std.specs.Io.KnownBytes.{Consumes, Keeps}
use Rattle.std.proofs.KnownBytes.{Consumes-nil, Consumes-trans, Consumes-kept}
use Rattle.nc_outside.specs.Named.{Named, Enters, content_of}
use Rattle.nc_load.specs.Limits.{most_file_bytes}
use Rattle.nc_load.specs.Reading.{TakesAtMost}
use Rattle.nc_load.specs.Entering.{TakesOfEntered}

-- nothing was read
pub takes_none : (most : ℕ) (a : Option (List ℕ)) → TakesAtMost most a a
takes_none most a = ([], Consumes-nil a, omega arith)

-- a read that failed took nothing
pub takes_kept : (most : ℕ) (a b : Option (List ℕ)) → Keeps a b → TakesAtMost most a b
takes_kept most a b keeps = ([], Consumes-kept a a b [] (Consumes-nil a) keeps, omega arith)

-- one read more
pub takes_more : (most rest : ℕ) (a b c : Option (List ℕ)) (bytes : List ℕ) → Consumes a b bytes → length bytes + rest ≤ most → TakesAtMost rest b c → TakesAtMost most a c
takes_more most rest a b c bytes consumes within takes =
    (bytes ++ takes.0, Consumes-trans a b c bytes takes.0 consumes takes.1, omega (arith, length-append bytes takes.0, takes.2))

-- what is left of a file that was entered
pub takes_entered : (files : Option (List Named)) (name : List ℕ) (entered now left rest : Option (List ℕ)) → Enters files name entered left → now ≡ entered → TakesAtMost (most_file_bytes + 1) left rest → TakesOfEntered files now rest
takes_entered None name entered now left rest enters same takes = tt
takes_entered (Some files) name entered None left rest enters same takes = tt
takes_entered (Some files) name entered (Some now) left None enters same takes = tt
takes_entered (Some files) name entered (Some now) left (Some rest) enters same takes =
    let named : Some now ≡ Some name = same ∙ enters.2 in
    let is : content_of files now ≡ Some enters.0 = ap (λ (o : Option (List ℕ)). option_and_then (content_of files) o) named ∙ enters.1 in
    (enters.0, is, subst (λ (l : Option (List ℕ)). TakesAtMost (most_file_bytes + 1) l (Some rest)) enters.3 takes)

-- no file is entered
pub takes_no_file : (files : Option (List Named)) (entered left : Option (List ℕ)) → entered ≡ None → TakesOfEntered files entered left
takes_no_file None entered left none = tt
takes_no_file (Some files) None left none = tt
takes_no_file (Some files) (Some name) left none = absurd cc

-- what is ensured of a call that failed, and of one that didn't
pub on_failed : {T E : Type 0} (r : Result T E) (P : Type 0) → is_err r ≡ true → OnErr r P → P
on_failed (Ok x) P failed h = absurd cc
on_failed (Err e) P failed h = h

pub on_done : {T E : Type 0} (r : Result T E) (P : Type 0) → is_err r ≡ false → OnOk r P → P
on_done (Ok x) P done h = h
on_done (Err e) P done h = absurd cc
