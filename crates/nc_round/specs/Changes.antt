-- In which rows tables of BGP differ, and what a row is made from.
use Rattle.std.specs.Prelude.{◌≡◌, ℕ, ◌<◌, true, List, Some, All, Contains, length}
use Rattle.nc_types.specs.Cidr.{Cidr, same_prefix}
use Rattle.nc_types.specs.Config.{ConfigView}
use Rattle.nc_types.specs.declared.config.AggregateStatement.{AggregateStatement}
use Rattle.nc_tables.specs.declared.base.BaseRow.{BaseRow}
use Rattle.nc_tables.specs.declared.bgp.SessionRow.{SessionRow}
use Rattle.nc_tables.specs.Rounds.{BgpRowView, chosen_at, is_longer_in, round, session_by}
use Rattle.nc_round.specs.Next.{round_of}
use Rattle.nc_round.specs.Waking.{aggregates_of}
use Rattle.nc_round.specs.Keys.{Key, key, AreInOrder}

-- exactly the rows in which two tables differ, in order
pub record IsDifference (old new : List (List BgpRowView)) (changed : List Key) : Type 0 where
  pub ordered : AreInOrder changed
  pub differ : All (λ k. ¬ (chosen_at old k.0.0 k.1 ≡ chosen_at new k.0.0 k.1)) changed
  pub all : (router : ℕ) (p : Cidr) → ¬ Contains changed (key router p) → chosen_at old router p ≡ chosen_at new router p

-- each row has a candidate
abbrev pub HaveCandidates : List (List BgpRowView) → Type 0
HaveCandidates table = All (λ rows. All (λ row. 0 < length row.chosen) rows) table

module _ (routers : List ConfigView) (tables : List (List BaseRow)) (sessions : List (List SessionRow)) where
  -- a table is what a round makes of another, in which these rows differ
  pub record IsRoundOf (before table : List (List BgpRowView)) (changed : List Key) : Type 0 where
    pub count : length before ≡ length routers
    pub some : HaveCandidates before
    pub made : table ≡ round routers tables sessions before
    pub difference : IsDifference before table changed

  -- a table is what a round over these prefixes makes of another, in which these rows differ
  pub record IsRoundOver (prefixes : List Cidr) (before table : List (List BgpRowView)) (changed : List Key) : Type 0 where
    pub count : length before ≡ length routers
    pub some : HaveCandidates before
    pub made : table ≡ round_of prefixes routers tables sessions before
    pub difference : IsDifference before table changed

  -- two tables have the same wherever the row of a prefix at a router is made from: what peers choose of the prefix, and what the router
  -- chooses of longer prefixes inside its aggregates for it
  pub record ReadAlike (old new : List (List BgpRowView)) (router : ℕ) (prefix : Cidr) : Type 0 where
    pub heard : (place : ℕ) (s : SessionRow) → session_by sessions router place ≡ Some s → chosen_at old s.peer.0 prefix ≡ chosen_at new s.peer.0 prefix
    pub inside : (a : AggregateStatement) (q : Cidr) → Contains (aggregates_of routers router) a → same_prefix a.prefix prefix ≡ true → is_longer_in q a.prefix ≡ true
        → chosen_at old router q ≡ chosen_at new router q
