-- How the numbers of routers and links lie, by computation.
use Rattle.std.specs.Prelude.{◌≡◌, [], ◌∷◌, length, map, refl}
use Rattle.nc_gen.specs.Tree.{tree_of, below, routers, number_of, links}

-- the routers and the links of each size, as many as there are
pub router_counts : map (λ k. length (routers (tree_of k))) (2 ∷ 4 ∷ 6 ∷ 8 ∷ []) ≡ 5 ∷ 20 ∷ 45 ∷ 80 ∷ []
unfolding routers
router_counts = refl

pub link_counts : map (λ k. length (links (tree_of k))) (2 ∷ 4 ∷ 6 ∷ 8 ∷ []) ≡ 4 ∷ 32 ∷ 108 ∷ 256 ∷ []
unfolding links
link_counts = refl

-- the number of a router is its place, and so is that of a link
pub router_numbers : map (λ k. map (number_of (tree_of k)) (routers (tree_of k))) (2 ∷ 4 ∷ 6 ∷ 8 ∷ []) ≡ map below (5 ∷ 20 ∷ 45 ∷ 80 ∷ [])
unfolding routers
router_numbers = refl

pub link_numbers : map (λ k. map (λ link. link.number) (links (tree_of k))) (2 ∷ 4 ∷ 6 ∷ 8 ∷ []) ≡ map below (4 ∷ 32 ∷ 108 ∷ 256 ∷ [])
unfolding links
link_numbers = refl
