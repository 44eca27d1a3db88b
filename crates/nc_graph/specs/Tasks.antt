-- The tasks of a walk, as they lie on two stacks, and the nodes that it keeps on a third.
use Rattle.std.specs.Prelude.{◌≡◌, ℕ, ◌-◌, ◌≤◌, List, [], ◌∷◌, ◌++◌, length, map, reverse, take, drop}
use Rattle.nc_graph.specs.declared.node.NodeKind.{NodeKind}
use Rattle.nc_graph.specs.declared.tasks.Inferred.{Inferred}
use Rattle.nc_graph.specs.declared.tasks.Task.{Task}
use Rattle.nc_graph.specs.declared.tasks.Task.TheVariants.{Visit, Number}
use Rattle.nc_graph.specs.Flow.{Flow}

-- a fact to be found or inferred, or one that was inferred, of a kind and with so many parents, and is to be numbered
pub data Job (F : Type 0) : Type 0 where
  find : F → Job F
  close : F → NodeKind → ℕ → Job F

module _ {F : Type 0} where
  -- the job that a task is
  abbrev pub job_of : Task F → Job F
  job_of (Visit f) = find f
  job_of (Number t) = close t.fact t.kind t.parents

  -- the jobs of a stack of facts and one of facts that wait, the next job first: a fact that waits, the newest first, comes after its parents, which are the facts from a place on
  abbrev pub jobs : List F → ℕ → List (Inferred F) → List (Job F)
  jobs fs from [] = map find (reverse fs)
  jobs fs from (t ∷ ts) = map find (reverse (drop from fs)) ++ close t.fact t.kind t.parents ∷ jobs (take from fs) t.before ts

  -- these places are in order, and the first is the beginning
  abbrev pub AreBegins : ℕ → ℕ → List (Inferred F) → Type 0
  AreBegins len from [] = from ≡ 0
  AreBegins len from (t ∷ ts) = (from ≤ len) × AreBegins from t.before ts

  -- the jobs after a fact is inferred: its parents are to be found, the last one first, and then it is to be numbered
  abbrev pub opened : Flow F → F → List (Job F) → List (Job F)
  opened g f js = map find (reverse (g.parents f)) ++ close f (g.kind f) (length (g.parents f)) ∷ js

module _ {A : Type 0} where
  -- so many from the end, the last one first, and what is before them
  abbrev pub last_of : ℕ → List A → List A
  last_of count xs = reverse (drop (length xs - count) xs)

  abbrev pub before_last : ℕ → List A → List A
  before_last count xs = take (length xs - count) xs
