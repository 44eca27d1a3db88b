-- Of each router, over how few hops base tables lead to an address.
use Rattle.std.specs.Prelude.{◌≡◌, ℕ, suc, ◌<◌, ◌≤◌, Bool, ◌||◌, List, map, nat_le, nat_lt, ◌⊎◌, slice_index_or}
use Rattle.std.specs.Global.{Vec}
use Rattle.std.specs.List.{list_any}
use Rattle.nc_types.specs.declared.TheConstants.{HOP_LIMIT}
use Rattle.nc_types.specs.declared.config.RouterId.{RouterId}
use Rattle.nc_types.specs.Config.{ConfigView}
use Rattle.nc_tables.specs.declared.base.BaseRow.{BaseRow}
use Rattle.nc_tables.specs.Reach.{next_places, owns, reaches}

-- the number of a router
abbrev pub fewest_of : List ℕ → ℕ → ℕ
fewest_of fewest router = slice_index_or fewest router (suc HOP_LIMIT)

-- its number is lower
abbrev pub is_earlier : List ℕ → ℕ → ℕ → Bool
is_earlier fewest hops router = nat_lt (fewest_of fewest router) hops

-- a test of so many hops from a router
module _ (over : ℕ → ℕ → Bool) where
  -- the number of a router is right for fewer hops than these
  abbrev pub IsRight : ℕ → ℕ → ℕ → Type 0
  IsRight hops number router = (k : ℕ) → k < hops → nat_le number k ≡ over k router

  abbrev pub AreRight : ℕ → List ℕ → Type 0
  AreRight hops fewest = (router : ℕ) → IsRight hops (fewest_of fewest router) router

  -- it is right, and one of them or none
  pub record IsMarked (hops number router : ℕ) : Type 0 where
    pub right : IsRight hops number router
    pub known : (number < hops) ⊎ (number ≡ suc HOP_LIMIT)

  abbrev pub AreMarked : ℕ → List ℕ → Type 0
  AreMarked hops fewest = (router : ℕ) → IsMarked hops (fewest_of fewest router) router

  -- the number of each router is the fewest hops; a number above the limit where no count of hops passes
  pub record AreFewest (fewest : List ℕ) : Type 0 where
    pub hops : (router hops : ℕ) → hops ≤ HOP_LIMIT → nat_le (fewest_of fewest router) hops ≡ over hops router

-- for each router those to which its hits lead
abbrev pub nexts_view : List (Vec RouterId) → List (List ℕ)
nexts_view lists = map (λ nexts. map (λ next. next.0) nexts.items) lists

module _ (routers : List ConfigView) (tables : List (List BaseRow)) (addr : ℕ) where
  -- the routers to which the hits of a router lead
  abbrev pub nexts : ℕ → List ℕ
  nexts router = map (λ next. next.router) (next_places routers tables router addr)

  -- a router owns the address, or one of them passes a test
  abbrev pub passes : (ℕ → Bool) → ℕ → Bool
  passes from router = owns routers router addr || list_any from (nexts router)

  -- whether base tables lead from a router to the address
  abbrev pub within : ℕ → ℕ → Bool
  within hops router = reaches routers tables hops router addr

  -- these are the numbers for the address
  abbrev pub AreDistances : List ℕ → Type 0
  AreDistances fewest = AreFewest within fewest
