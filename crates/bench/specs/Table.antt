-- A flow graph as a table: a fact is a number, and its parents are lower numbers.
use Rattle.std.specs.Prelude.{◌≡◌, ℕ, ◌<◌, List, [], length, All, nat_eq, nat_lt, slice_index_or}
use Rattle.nc_graph.specs.declared.node.NodeKind.{NodeKind}
use Rattle.nc_graph.specs.declared.node.NodeKind.TheVariants.{Leaf, Every, Any}
use Rattle.nc_graph.specs.Flow.{Flow}

-- by number: the kind and the parents of each fact
pub record Rows : Type 0 where
  pub kinds : List NodeKind
  pub parents : List (List ℕ)

abbrev pub no_rows : Rows
no_rows = record { kinds = []; parents = [] }

-- what a kind asks of the parents: none at a leaf, some of a disjunctive fact
abbrev pub HasShape : NodeKind → List ℕ → Type 0
HasShape (Leaf e) ps = ps ≡ []
HasShape Every ps = Unit {0}
HasShape Any ps = 0 < length ps

-- the fact of this number may have this kind and these parents
pub record IsRow (number : ℕ) (kind : NodeKind) (parents : List ℕ) : Type 0 where
  pub shape : HasShape kind parents
  pub lower : All (λ p. p < number) parents

-- each fact has its kind and its parents
pub record AreRows (t : Rows) : Type 0 where
  pub count : length t.parents ≡ length t.kinds
  pub each : (i : ℕ) → i < length t.kinds → IsRow i (slice_index_or t.kinds i Every) (slice_index_or t.parents i [])

-- the flow graph of a table; the rank of a fact is its number
abbrev pub flow_of : Rows → Flow ℕ
flow_of t = record {
  same = nat_eq;
  holds = λ i. nat_lt i (length t.kinds);
  kind = λ i. slice_index_or t.kinds i Every;
  parents = λ i. slice_index_or t.parents i [];
  rank = λ i. i;
}
