-- What is lent stands behind what was appended, as a copy of it would.
use Rattle.std.proofs.Common.{◌≡◌, ℕ, Bool, true, false, List, [], ◌++◌, Option, Some, None, refl, sym, ap, ◌∙◌, append_assoc, append-nil}
use Rattle.nc_report.specs.Texts.{Sheet}
use Rattle.nc_engine.specs.declared.work.Work.{Work}
use Rattle.nc_engine.specs.Engine.{Progress, Answered}
use Rattle.nc_engine.specs.Work.{with_lent, lent_of}

-- by itself, behind the bytes
lent-behind : (lends : Bool) (shown : List Sheet) (bytes : List ℕ) → with_lent lends shown bytes ≡ bytes ++ with_lent lends shown []
lent-behind false shown bytes = sym (append-nil bytes)
lent-behind true shown bytes = refl

-- a reply that was made in a buffer of its own is handed on
pub handed : (lends : Bool) (shown : List Sheet) (before reply after : List ℕ) → after ≡ before ++ reply → after ++ with_lent lends shown [] ≡ before ++ with_lent lends shown reply
handed lends shown before reply after is =
    ap (λ (l : List ℕ). l ++ with_lent lends shown []) is ∙ append_assoc before reply (with_lent lends shown [])
    ∙ ap (λ (l : List ℕ). before ++ l) (sym (lent-behind lends shown reply))

-- so is the line answered that was answered there
pub answered-behind : (old new : Progress) (line before reply after : List ℕ) → after ≡ before ++ reply → Answered old new line [] reply → Answered old new line before after
answered-behind old new line before reply after is answered = record {
  reply = answered.reply;
  step = answered.step;
  text = is ∙ ap (λ (l : List ℕ). before ++ l) answered.text;
  loaded = answered.loaded;
  infers = answered.infers;
  draws = answered.draws;
  dead_known = answered.dead_known;
}

-- nothing is lent where nobody lends
pub no-loan : (work : Option Work) → lent_of false work ≡ []
no-loan None = refl
no-loan (Some w) = refl
