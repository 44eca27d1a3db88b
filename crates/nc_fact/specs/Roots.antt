-- The roots: the facts in which it shows what a network does, that is of its main rows, of its sessions and of what its routers accept.
use Rattle.std.specs.Prelude.{◌≡◌, ◌⊎◌, ℕ, ◌<◌, List, [], ◌++◌, length, map, filter, slice_index_or}
use Rattle.std.specs.List.{flat_map, range_with_len}
use Rattle.std.specs.declared.cmp.Ordering.TheVariants.{Less}
use Rattle.nc_tables.specs.declared.bgp.SessionRow.{SessionRow}
use Rattle.nc_tables.specs.Base.{prefix_cmp}
use Rattle.nc_tables.specs.Rounds.{BgpRowView}
use Rattle.nc_tables.specs.State.{StateView}
use Rattle.nc_fact.specs.declared.fact.Fact.{Fact}
use Rattle.nc_fact.specs.declared.fact.Fact.TheVariants.{Session, Entry, Main}
use Rattle.nc_fact.specs.Facts.{main_rows, holds}

-- ---- which facts are roots, and their order

-- a fact of a main row, of a session, or of what is accepted
abbrev pub IsRoot : Fact → Type 0
IsRoot (Main router row) = Unit {0}
IsRoot (Session router place) = Unit {0}
IsRoot (Entry router place prefix) = Unit {0}
IsRoot fact = ⊥

-- the router of a root
abbrev pub router_of : Fact → ℕ
router_of (Main router row) = router.0
router_of (Session router place) = router.0
router_of (Entry router place prefix) = router.0
router_of fact = 0

-- of one router first come the main rows by place, then the sessions by neighbor statement, then what is accepted, by neighbor statement and of
-- one statement by prefix
abbrev pub IsNearer : Fact → Fact → Type 0
IsNearer (Main router row) (Main other next) = row < next
IsNearer (Main router row) (Session other place) = Unit {0}
IsNearer (Main router row) (Entry other place prefix) = Unit {0}
IsNearer (Session router place) (Session other next) = place < next
IsNearer (Session router place) (Entry other next prefix) = Unit {0}
IsNearer (Entry router place prefix) (Entry other next behind) = (place < next) ⊎ ((place ≡ next) × (prefix_cmp prefix behind ≡ Less))
IsNearer fact other = ⊥

-- roots go by router, and those of one router so
abbrev pub IsBefore : Fact → Fact → Type 0
IsBefore fact other = (router_of fact < router_of other) ⊎ ((router_of fact ≡ router_of other) × IsNearer fact other)

-- ---- the roots of a state

module _ (s : StateView) where
  -- the sessions of a router, and the rows of its BGP table
  abbrev pub sessions_at : ℕ → List SessionRow
  sessions_at router = slice_index_or s.sessions router []

  abbrev pub bgp_rows : ℕ → List BgpRowView
  bgp_rows router = slice_index_or s.bgp router []

  -- the facts of a router's main rows
  abbrev pub row_facts : ℕ → List Fact
  row_facts router = map (Main (record { 0 = router })) (range_with_len 0 (length (main_rows s router)))

  -- those of its sessions
  abbrev pub session_facts : ℕ → List Fact
  session_facts router = map (λ session. Session (record { 0 = router }) session.neighbor) (sessions_at router)

  -- those of what it accepts over a session: of the prefixes of which its peer has chosen a route, these for which the fact holds
  abbrev pub entries_over : ℕ → SessionRow → List Fact
  entries_over router session =
      filter (holds s) (map (λ row. Entry (record { 0 = router }) session.neighbor row.prefix) (bgp_rows session.peer.0))

  -- those of what it accepts
  abbrev pub entry_facts : ℕ → List Fact
  entry_facts router = flat_map (entries_over router) (sessions_at router)

  abbrev pub roots_of : ℕ → List Fact
  roots_of router = row_facts router ++ (session_facts router ++ entry_facts router)

  -- the roots, router by router
  unfoldable pub roots : List Fact
  roots = flat_map roots_of (range_with_len 0 (length s.routers))
