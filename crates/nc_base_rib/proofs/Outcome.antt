-- What follows for the value of an outcome.
use Rattle.std.specs.Prelude.{IfOk, Result, Ok, Err}

pub if_ok : {A E : Type 0} (P Q : A → Type 0) → ((x : A) → P x → Q x) → (r : Result A E) → IfOk r P → IfOk r Q
if_ok P Q step (Ok x) p = step x p
if_ok P Q step (Err e) p = p
