-- References to prefix lists and to community lists, on routers that were worked out by hand.
use Rattle.std.specs.Prelude.{◌≡◌, ℕ, true, List, [], ◌∷◌, map, None, codes, refl}
use Rattle.nc_types.specs.Config.{ConfigView, ClauseView}
use Rattle.nc_types.specs.Joining.{Clash, undefined}
use Rattle.nc_types.specs.declared.config.Reference.{Reference}
use Rattle.nc_network.specs.Judged.{judged, Clashing, References, Fine}

-- ---- parts of configurations

-- a reference to a name on a line
abbrev pub refers : List ℕ → ℕ → Reference
refers name line = record { name = name; line = line }

-- a clause that refers to prefix lists and to community lists
abbrev pub clause : List Reference → List Reference → ClauseView
clause lists communities =
    record {
      map_name = codes "M";
      number = 10;
      permit = true;
      lists = lists;
      community_lists = communities;
      preference = None;
      metric = None;
      prepend = [];
      origin = None;
      communities = None;
      element = 0;
    }

-- a router of this name with clauses, prefix lists and community lists of these names
abbrev pub router : List ℕ → List ClauseView → List (List ℕ) → List (List ℕ) → ConfigView
router name clauses lists communities =
    record {
      name = name;
      name_line = 1;
      line_count = 20;
      elements = [];
      interfaces = [];
      statics = [];
      process = None;
      clauses = clauses;
      lists = map (λ (n : List ℕ). record { name = n; entries = [] }) lists;
      community_lists = map (λ (n : List ℕ). record { name = n; entries = [] }) communities;
      filters = [];
      groups = [];
    }

-- what is told of a reference on a line of the router of a number
abbrev pub untold : ℕ → ℕ → Clash
untold number line = record { first = number; first_line = line; second = 0; second_line = 0 }

-- ---- what is undefined

-- a prefix list that isn't defined is told at its line; one that is defined isn't
pub prefix_list : undefined (router (codes "a") (clause (refers (codes "P") 4 ∷ refers (codes "Q") 5 ∷ []) [] ∷ []) (codes "P" ∷ []) [] ∷ []) ≡ untold 0 5 ∷ []
prefix_list = refl

-- and so is a community list
pub community_list : undefined (router (codes "a") (clause [] (refers (codes "C") 4 ∷ refers (codes "D") 5 ∷ []) ∷ []) [] (codes "C" ∷ []) ∷ []) ≡ untold 0 5 ∷ []
community_list = refl

-- all that one statement names is told at the statement's line
pub one_line : undefined (router (codes "a") (clause [] (refers (codes "C") 4 ∷ refers (codes "D") 4 ∷ []) ∷ []) [] [] ∷ []) ≡ untold 0 4 ∷ untold 0 4 ∷ []
one_line = refl

-- a prefix list and a community list may have one name
pub one_name : judged (router (codes "a") (clause (refers (codes "L") 4 ∷ []) (refers (codes "L") 5 ∷ []) ∷ []) (codes "L" ∷ []) (codes "L" ∷ []) ∷ []) ≡ Fine
one_name = refl

-- a name that only the other kind of list has is undefined
pub other_kind : undefined (router (codes "a") (clause (refers (codes "C") 4 ∷ []) (refers (codes "P") 5 ∷ []) ∷ []) (codes "P" ∷ []) (codes "C" ∷ []) ∷ []) ≡ untold 0 4 ∷ untold 0 5 ∷ []
other_kind = refl

-- nor does the list of another router define it
pub other_router : undefined (router (codes "a") [] [] (codes "C" ∷ []) ∷ router (codes "b") (clause [] (refers (codes "C") 7 ∷ []) ∷ []) [] [] ∷ []) ≡ untold 1 7 ∷ []
other_router = refl

-- of both kinds the lower line is told
pub lower_line : judged (router (codes "a") (clause (refers (codes "P") 9 ∷ []) (refers (codes "C") 6 ∷ []) ∷ []) [] [] ∷ []) ≡ Clashing References (untold 0 6)
lower_line = refl
