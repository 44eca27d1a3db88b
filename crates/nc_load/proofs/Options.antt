-- What holds of a value that may be there.
use Rattle.std.proofs.Common.{Option, Some, None, IfSome}

-- what holds of every value holds of one that may be there
pub some_of : {A : Type 0} (o : Option A) (P : A → Type 0) → ((x : A) → P x) → IfSome o P
some_of None P holds = tt
some_of (Some x) P holds = holds x

pub some_more : {A : Type 0} (o : Option A) (P Q : A → Type 0) → ((x : A) → P x → Q x) → IfSome o P → IfSome o Q
some_more None P Q holds h = tt
some_more (Some x) P Q holds h = holds x h
