-- The routers and the links of a tree by their numbers.
use Rattle.std.proofs.Common.{◌≡◌, ℕ, ◌+◌, ◌-◌, ◌*◌, ◌/◌, ◌%◌, ◌<◌, ◌≤◌, Bool, true, false, cond, nat_lt, map, refl, sym, subst, arith}
use Rattle.std.proofs.lemmas.Bool.Decides.{nat_tests}
use Rattle.std.proofs.lemmas.Nat.{div-add-mod'}
use Rattle.nc_gen.specs.declared.tree.Tree.{Tree}
use Rattle.nc_gen.specs.declared.tree.Router.TheVariants.{Core, Aggregation, Edge}
use Rattle.nc_gen.specs.Tree.{tree_of, below, routers, links}
use Rattle.nc_gen.proofs.Sizes.{sizes}
use Rattle.nc_gen.specs.Shape.{IsTree, IsNumbered, router_count, link_count, router_at, pod_router_at, link_at}

of_sizes : (P : Tree → Type 0) (t : Tree) → IsTree t → P (tree_of 2) → P (tree_of 4) → P (tree_of 6) → P (tree_of 8) → P t
of_sizes P t is two four six eight = subst P (sym is.tree) (sizes (λ k. P (tree_of k)) is.size is.is two four six eight)

pub routers-are : (t : Tree) → IsTree t → map (router_at t) (below (router_count t)) ≡ routers t
unfolding routers router_at
routers-are t is = of_sizes (λ t. map (router_at t) (below (router_count t)) ≡ routers t) t is refl refl refl refl

pub links-are : (t : Tree) → IsTree t → map (link_at t) (below (link_count t)) ≡ links t
unfolding links link_at
links-are t is = of_sizes (λ t. map (link_at t) (below (link_count t)) ≡ links t) t is refl refl refl refl

module _ (t : Tree) (n : ℕ) (small : n < 256) (pod_small : (n - t.cores) / t.pods < 256) (place_small : (n - t.cores) % t.pods < 256) where
  abbrev pod : ℕ
  pod = (n - t.cores) / t.pods

  abbrev place : ℕ
  place = (n - t.cores) % t.pods

  whole : pod * t.pods + place ≡ n - t.cores
  whole = div-add-mod' (n - t.cores) t.pods

  by_layer : (b : Bool) → nat_lt place t.half ≡ b → t.cores ≤ n → IsNumbered t n (cond b (Aggregation pod place) (Edge pod (place - t.half)))
  by_layer true lower from =
      record { placed = (pod_small, place_small); is = (let w = whole in omega arith); small = small }
  by_layer false lower from =
      let above : t.half ≤ place = grind (arith, nat_tests, lower) in
      record { placed = (pod_small, omega arith); is = (let w = whole in omega arith); small = small }

  by_core : (b : Bool) → nat_lt n t.cores ≡ b → IsNumbered t n (cond b (Core n) (pod_router_at t pod place))
  by_core true core = record { placed = tt; is = refl; small = small }
  by_core false core = by_layer (nat_lt place t.half) refl (grind (arith, nat_tests, core))

  numbered_at : IsNumbered t n (router_at t n)
  unfolding router_at
  numbered_at = by_core (nat_lt n t.cores) refl

pub numbered : (t : Tree) → IsTree t → (n : ℕ) → n < router_count t → IsNumbered t n (router_at t n)
numbered t is =
    of_sizes (λ t. (n : ℕ) → n < router_count t → IsNumbered t n (router_at t n)) t is
    (λ n within. numbered_at (tree_of 2) n (omega arith) (omega arith) (omega arith))
    (λ n within. numbered_at (tree_of 4) n (omega arith) (omega arith) (omega arith))
    (λ n within. numbered_at (tree_of 6) n (omega arith) (omega arith) (omega arith))
    (λ n within. numbered_at (tree_of 8) n (omega arith) (omega arith) (omega arith))
