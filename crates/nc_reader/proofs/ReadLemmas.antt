-- Lines that are read one by one, up to the first faulty one.
use Rattle.std.proofs.Common.{◌≡◌, ℕ, ◌+◌, ◌<◌, ◌≤◌, List, [], ◌∷◌, ◌++◌, length, map, take, drop, get_or, Option, Some, None, Result, Ok, Err, sym, ap, ◌∙◌, arith}
use Rattle.std.specs.List.{filter_map, cons_option}
use Rattle.std.specs.Option.{option_map_or}
use Rattle.std.proofs.lemmas.List.{map-append, map_push, drop_more, take_all, take_more, take-append-drop}
use Rattle.std.proofs.lemmas.List.Elements.{filter_map-append}
use Rattle.nc_types.specs.declared.fault.Fault.{Fault}
use Rattle.nc_types.specs.declared.fault.ConfigFault.{ConfigFault}
use Rattle.nc_types.specs.declared.fault.ConfigFault.TheVariants.{Bad, Memory}
use Rattle.nc_lines.specs.Parts.{first_of}
use Rattle.nc_lines.specs.Outcomes.{IsFault}
use Rattle.nc_read_policy.specs.Results.{ok_map}
use Rattle.nc_reader.specs.Things.{ok_of, err_of, all_read}
use Rattle.nc_reader.proofs.FaultLemmas.{ok-push, err-push_ok}

-- what is made of what was read has the same fault
pub fault_map : {A B : Type 0} (fault : ConfigFault) (f : A → B) (r : Result A Fault) → IsFault fault r → IsFault fault (ok_map f r)
fault_map (Bad line cause) f r is = ap (ok_map f) is
fault_map Memory f r is = tt

-- what was read without a fault is all
module _ {A : Type 0} where
  read_is : (o : Option Fault) (xs ys : List A) → option_map_or Err o (Ok xs) ≡ Ok ys → xs ≡ ys
  read_is None xs ys e = cc
  read_is (Some fault) xs ys e = absurd cc

  pub all_read_is : (rs : List (Result A Fault)) (xs : List A) → all_read rs ≡ Ok xs → filter_map ok_of rs ≡ xs
  all_read_is rs xs e = read_is (first_of (filter_map err_of rs)) (filter_map ok_of rs) xs e

  -- and it isn't nothing where there is a line
  pub some_read : (r : Result A Fault) (rs : List (Result A Fault)) (xs : List A) → all_read (r ∷ rs) ≡ Ok xs → 0 < length xs
  some_read (Ok x) rs xs e = omega (arith, ap length (all_read_is (Ok x ∷ rs) xs e))
  some_read (Err fault) rs xs e = absurd cc

module _ {A : Type 0} (f : ℕ → Result A Fault) (ks : List ℕ) where
  -- what the first lines make
  abbrev pub so_far : ℕ → List (Result A Fault)
  so_far i = map f (take i ks)

  next : (i d : ℕ) → i < length ks → so_far (i + 1) ≡ so_far i ++ f (get_or ks i d) ∷ []
  next i d lt = ap (map f) (take_more ks i d lt) ∙ map_push f (take i ks) (get_or ks i d)

  pub clean_more : (i d : ℕ) (x : A) → i < length ks → filter_map err_of (so_far i) ≡ [] → f (get_or ks i d) ≡ Ok x → filter_map err_of (so_far (i + 1)) ≡ []
  clean_more i d x lt clean ok = ap (filter_map err_of) (next i d lt) ∙ err-push_ok (so_far i) (f (get_or ks i d)) x ok ∙ clean

  pub read_more : (i d : ℕ) (x : A) → i < length ks → f (get_or ks i d) ≡ Ok x → filter_map ok_of (so_far (i + 1)) ≡ filter_map ok_of (so_far i) ++ x ∷ []
  read_more i d x lt ok = ap (filter_map ok_of) (next i d lt) ∙ ok-push (so_far i) (f (get_or ks i d)) x ok

  -- where no line is faulty, all is read
  pub all_clean : (i : ℕ) → length ks ≤ i → filter_map err_of (so_far i) ≡ [] → all_read (map f ks) ≡ Ok (filter_map ok_of (so_far i))
  all_clean i done clean =
      let all : List (Result A Fault) → Result (List A) Fault = λ rs. all_read rs in
      ap (λ (ls : List ℕ). all (map f ls)) (sym (take_all i ks done)) ∙ ap (λ (es : List Fault). option_map_or Err (first_of es) (Ok (filter_map ok_of (so_far i)))) clean

  -- where the next line is, that is the fault
  pub stops : (i d : ℕ) (fault : ConfigFault) → i < length ks → filter_map err_of (so_far i) ≡ [] → IsFault fault (f (get_or ks i d)) → IsFault fault (all_read (map f ks))
  stops i d Memory lt clean is = tt
  stops i d (Bad line cause) lt clean is =
      let fault : Fault = record { line = line; cause = cause } in
      let rest : List (Result A Fault) = map f (drop (i + 1) ks) in
      let cut : map f ks ≡ so_far i ++ f (get_or ks i d) ∷ rest =
      ap (map f) (sym (take-append-drop i ks) ∙ ap (λ (ls : List ℕ). take i ks ++ ls) (drop_more ks i d lt)) ∙ map-append f (take i ks) (get_or ks i d ∷ drop (i + 1) ks) in
      let found : filter_map err_of (map f ks) ≡ fault ∷ filter_map err_of rest =
      ap (filter_map err_of) cut ∙ filter_map-append err_of (so_far i) (f (get_or ks i d) ∷ rest) ∙ ap (λ (es : List Fault). es ++ filter_map err_of (f (get_or ks i d) ∷ rest)) clean
      ∙ ap (λ (r : Result A Fault). cons_option (err_of r) (filter_map err_of rest)) is in
      ap (λ (es : List Fault). option_map_or Err (first_of es) (Ok (filter_map ok_of (map f ks)))) found
