-- What holds of bytes that may be told.
use Rattle.std.proofs.Common.{◌≡◌, ◌⊎◌, ℕ, ◌<◌, ◌≤◌, Bool, true, false, nat_le, List, [], Option, Some, None, refl, sym, ◌∙◌, append-nil, inl, inr, ◌++◌, append_assoc, ap}
use Rattle.std.proofs.lemmas.Bool.{leb-true, leb-false}
use Rattle.std.specs.Io.KnownBytes.{Appends, Keeps}
use Rattle.nc_session.specs.Output.{Writes}

-- the same bytes are kept
pub keeps_same : (old new : Option (List ℕ)) → new ≡ old → Keeps old new
keeps_same None new same = tt
keeps_same (Some xs) None same = absurd cc
keeps_same (Some xs) (Some ys) same = cc

-- what was appended is what was written
pub writes : (old new : Option (List ℕ)) (bytes : List ℕ) (P : List ℕ → Type 0) → Appends old new bytes → P bytes → Writes old new P
writes None new bytes P appends holds = tt
writes (Some xs) None bytes P appends holds = absurd appends
writes (Some xs) (Some ys) bytes P appends holds = (bytes, appends, holds)

pub writes_none : (old new : Option (List ℕ)) (P : List ℕ → Type 0) → Keeps old new → P [] → Writes old new P
writes_none None new P keeps holds = tt
writes_none (Some xs) None P keeps holds = absurd keeps
writes_none (Some xs) (Some ys) P keeps holds = ([], keeps ∙ sym (append-nil xs), holds)

pub writes_more : (old new : Option (List ℕ)) (P Q : List ℕ → Type 0) → ((bytes : List ℕ) → P bytes → Q bytes) → Writes old new P → Writes old new Q
writes_more None new P Q holds w = tt
writes_more (Some xs) None P Q holds w = w
writes_more (Some xs) (Some ys) P Q holds w = (w.0, w.1, holds w.0 w.2)

-- what was written behind a text
pub writes_behind : (old mid new : Option (List ℕ)) (text : List ℕ) (P Q : List ℕ → Type 0) → ((bytes : List ℕ) → P bytes → Q (text ++ bytes)) → Appends old mid text → Writes mid new P → Writes old new Q
writes_behind None mid new text P Q holds appends w = tt
writes_behind (Some xs) None new text P Q holds appends w = absurd appends
writes_behind (Some xs) (Some ys) None text P Q holds appends w = w
writes_behind (Some xs) (Some ys) (Some zs) text P Q holds appends w =
    (text ++ w.0, w.1 ∙ ap (λ (l : List ℕ). l ++ w.0) appends ∙ append_assoc xs text w.0, holds w.0 w.2)

pub by_length : (n m : ℕ) → (n ≤ m) ⊎ (m < n)
by_length n m = on (nat_le n m) refl
  where
    on : (b : Bool) → nat_le n m ≡ b → (n ≤ m) ⊎ (m < n)
    on true e = inl (leb-true n m e)
    on false e = inr (leb-false n m e)
