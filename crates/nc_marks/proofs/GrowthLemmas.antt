-- Places in a table that grew, and lists of nodes that are raised.
use Rattle.std.proofs.Common.{◌≡◌, ℕ, ◌+◌, ◌-◌, ◌<◌, ◌≤◌, Bool, List, [], length, get_or, sym, ap, ◌∙◌, subst, refl, arith}
use Rattle.std.proofs.lemmas.List.{append-nil}
use Rattle.nc_graph.specs.declared.node.NodeId.{NodeId}
use Rattle.nc_marks.specs.Reach.{Raises}
use Rattle.nc_marks.specs.Sets.{Table, Gathering, ArePlaced, Grows, IsTable, has}

further : (a b c : ℕ) → a < b → b ≤ c → a < c
further a b c first second = omega arith

-- places stay those of sets where a table grows
pub placed-on : (t next : Table) (places : List ℕ) → Grows t next → ArePlaced t places → ArePlaced next places
placed-on t next places grows placed = record { each = λ i lt. further (get_or places i 0) (length t.sets) (length next.sets) (placed.each i lt) grows.more }

-- the table stays one of kept sets where it grows and its places are those of more nodes
pub table-on : (t next : Table) (gathered other : Gathering) (places more : List ℕ) (marked count : ℕ) → IsTable t gathered places marked → Grows t next → other.width ≡ gathered.width → count ≡ marked
    → ArePlaced next more → length next.sets ≤ length more + 1 → IsTable next other more count
table-on t next gathered other places more marked count table grows same counted placed few = record {
  empty = record {
    within = further 0 (length t.sets) (length next.sets) table.empty.within grows.more;
    exact = λ e below. ap (λ set. has set e) (grows.kept 0 table.empty.within) ∙ table.empty.exact e (subst (λ w. e < w) grows.width below);
  };
  gathering = same ∙ table.gathering ∙ sym grows.width;
  marked = counted ∙ table.marked ∙ sym grows.width;
  placed = placed;
  few = few;
}

-- where none is raised yet
pub raises-none : (xs : List NodeId) (flags : List Bool) → Raises xs xs flags flags
raises-none xs flags = record {
  more = [];
  next_is = sym (append-nil xs);
  len = refl;
  each = λ i. refl;
  fresh = λ k d lt. absurd (omega arith);
  count = refl;
}

-- what is left falls by the one that was looked at
pub left-falls : (x y m n at : ℕ) → x + m ≡ y + n → at < y → (x + m) - (at + 1) < (y + n) - at
left-falls x y m n at same lt = omega arith
