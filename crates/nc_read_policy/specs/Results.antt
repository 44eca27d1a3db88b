-- What is made of a value that may be faulty.
use Rattle.std.specs.Prelude.{Result, Ok, Err}

-- what is made of the value, or its fault
abbrev pub on_ok : {A B E : Type 0} → (A → Result B E) → Result A E → Result B E
on_ok f (Ok x) = f x
on_ok f (Err fault) = Err fault

abbrev pub ok_map : {A B E : Type 0} → (A → B) → Result A E → Result B E
ok_map f (Ok x) = Ok (f x)
ok_map f (Err fault) = Err fault
