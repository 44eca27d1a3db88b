-- Which routers begin a prefix: those that have it among the rows that they begin.
use Rattle.std.proofs.Common.{◌≡◌, ℕ, zero, suc, ◌+◌, ◌<◌, ◌==◌, ◌&&◌, Bool, true, false, cond, not, nat_lt, ◌||◌, List, [], ◌∷◌, ◌++◌, length, map, All, Contains, Option, Some, None, is_some, refl, sym, ap, subst, ◌∙◌, arith}
use Rattle.std.specs.Prelude.{position}
use Rattle.std.specs.List.{flat_map, list_any, position_or_len, slice_get}
use Rattle.std.specs.Option.{option_and_then, option_map_or}
use Rattle.std.proofs.lemmas.Bool.{and_parts, eqb-true, eq-eqb}
use Rattle.std.proofs.lemmas.Bool.Decides.{nat_tests}
use Rattle.std.proofs.lemmas.List.{map-append}
use Rattle.std.proofs.lemmas.List.Elements.{All-head, All-tail}
use Rattle.nc_types.specs.Cidr.{Cidr, same_prefix}
use Rattle.nc_types.specs.Config.{ConfigView, ProcessView, config_view}
use Rattle.nc_types.specs.declared.config.NetworkStatement.{NetworkStatement}
use Rattle.nc_types.specs.declared.config.RouterConfig.{RouterConfig}
use Rattle.nc_types.specs.declared.config.RouterId.{RouterId}
use Rattle.nc_types.proofs.Members.{In, in_left, in_map, in_by_map, in_by_contains, contains_by_in, some_passes}
use Rattle.nc_types.proofs.Sameness.{same_prefix_is}
use Rattle.nc_tables.specs.declared.base.BaseRow.{BaseRow}
use Rattle.nc_tables.specs.Base.{prefix_cmp}
use Rattle.nc_tables.specs.Order.{in_order}
use Rattle.nc_tables.specs.Reach.{rows_of}
use Rattle.nc_tables.specs.Rounds.{distinct, prefixes, prefixes_in}
use Rattle.nc_tables.specs.Sessions.{process_of}
use Rattle.nc_policy.specs.Statements.{networks_in}
use Rattle.nc_main_rib.proofs.Ascending.{of_distinct}
use Rattle.nc_round.specs.declared.owners.Owner.TheVariants.{One}
use Rattle.nc_round.specs.Keys.{Key, key}
use Rattle.nc_round.specs.Likeness.{begins, ArePlain, BeginsAlone, IsOwnerIn, IsPlain}
use Rattle.nc_round.specs.Waking.{begun_from}
use Rattle.nc_round.proofs.Woken.{begun_is, begun_within}

-- ---- the rows that routers begin

-- their prefixes are those that routers begin
begun_prefixes : (number : ℕ) (cs : List ConfigView) → map (λ (k : Key). k.1) (begun_from number cs) ≡ flat_map prefixes_in cs
begun_prefixes number [] = refl
begun_prefixes number (c ∷ cs) =
    map-append (λ (k : Key). k.1) (map (λ p. key number p) (prefixes_in c)) (begun_from (suc number) cs)
    ∙ ap (λ (l : List Cidr). l ++ map (λ (k : Key). k.1) (begun_from (suc number) cs)) (back (prefixes_in c))
    ∙ ap (λ (l : List Cidr). prefixes_in c ++ l) (begun_prefixes (suc number) cs)
  where
    back : (ps : List Cidr) → map (λ (k : Key). k.1) (map (λ p. key number p) ps) ≡ ps
    back [] = refl
    back (p ∷ ps) = ap (λ (l : List Cidr). p ∷ l) (back ps)

-- those prefixes in order, each once, are all
pub sorted_is : (routers : List ConfigView) (sorted all : List Cidr) (keys : List Key) → sorted ≡ in_order prefix_cmp (distinct all) → all ≡ map (λ (k : Key). k.1) keys → keys ≡ begun_from 0 routers → sorted ≡ prefixes routers
sorted_is routers sorted all keys a b d = a ∙ ap (λ (l : List Cidr). in_order prefix_cmp (distinct l)) (b ∙ ap (map (λ (k : Key). k.1)) d ∙ begun_prefixes 0 routers)

-- ---- where a test passes

any_at : {X : Type 0} (test : X → Bool) (xs : List X) → nat_lt (position_or_len test xs) (length xs) ≡ list_any test xs
any_at test [] = refl
any_at test (x ∷ xs) = on (test x) (any_at test xs)
  where
    later : nat_lt (1 + position_or_len test xs) (suc (length xs)) ≡ nat_lt (position_or_len test xs) (length xs)
    later = grind (arith, nat_tests)

    on : (b : Bool) → nat_lt (position_or_len test xs) (length xs) ≡ list_any test xs → nat_lt (cond (not b) (1 + position_or_len test xs) 0) (suc (length xs)) ≡ (b || list_any test xs)
    on true rest = grind (arith, nat_tests)
    on false rest = later ∙ rest

place_any : {X : Type 0} (test : X → Bool) (xs : List X) (o : Option ℕ) → o ≡ position test xs → is_some o ≡ list_any test xs
place_any test xs o e = ap is_some e ∙ on (nat_lt (position_or_len test xs) (length xs)) ∙ any_at test xs
  where
    on : (b : Bool) → is_some (cond b (Some (position_or_len test xs)) None) ≡ b
    on true = refl
    on false = refl

module _ (routers : List ConfigView) (tables : List (List BaseRow)) (prefix : Cidr) where
  abbrev of : NetworkStatement → Bool
  of n = same_prefix n.prefix prefix

  -- a router begins a prefix where it has a network of it, and a row
  pub begins_by : (router : ℕ) (c : ConfigView) (o : Option ℕ) → slice_get routers router ≡ Some c → o ≡ position of (networks_in c) → (is_some o && list_any (λ (row : BaseRow). same_prefix row.prefix prefix) (rows_of tables router)) ≡ begins routers tables router prefix
  begins_by router c o at e =
      ap (λ (b : Bool). b && list_any (λ (row : BaseRow). same_prefix row.prefix prefix) (rows_of tables router))
      (place_any of (networks_in c) o e ∙ on c.process ∙ ap (λ (x : Option ConfigView). option_map_or (λ (p : ProcessView). list_any of p.networks) (option_and_then (λ (y : ConfigView). y.process) x) false) (sym at))
    where
      on : (x : Option ProcessView) → list_any of (option_map_or (λ p. p.networks) x []) ≡ option_map_or (λ (p : ProcessView). list_any of p.networks) x false
      on None = refl
      on (Some p) = refl

  -- what a router begins is among the rows that are begun
  begins_begun : (router : ℕ) → begins routers tables router prefix ≡ true → In (key router prefix) (begun_from 0 routers)
  begins_begun router does = on_router (slice_get routers router) refl (and_parts (option_map_or (λ (p : ProcessView). list_any of p.networks) (process_of routers router) false) (list_any (λ (row : BaseRow). same_prefix row.prefix prefix) (rows_of tables router)) does).0
    where
      on_process : (o : Option ProcessView) → option_map_or (λ (p : ProcessView). list_any of p.networks) o false ≡ true → In prefix (option_map_or (λ p. map (λ n. n.prefix) p.networks ++ map (λ a. a.prefix) p.aggregates) o [])
      on_process None e = absurd cc
      on_process (Some p) e =
          let found = some_passes of p.networks e in
          in_left (map (λ n. n.prefix) p.networks) (map (λ a. a.prefix) p.aggregates) prefix
          (subst (λ (q : Cidr). In q (map (λ n. n.prefix) p.networks)) (same_prefix_is found.0.prefix prefix found.2) (in_map (λ (n : NetworkStatement). n.prefix) p.networks found.0 found.1))

      on_router : (o : Option ConfigView) → slice_get routers router ≡ o → option_map_or (λ (p : ProcessView). list_any of p.networks) (option_and_then (λ (c : ConfigView). c.process) o) false ≡ true → In (key router prefix) (begun_from 0 routers)
      on_router None at e = absurd cc
      on_router (Some c) at e =
          begun_is 0 routers router c router prefix (omega arith) at (on_process c.process e)

  module _ (owner : RouterId) (own : IsOwnerIn (begun_from 0 routers) prefix (One owner)) where
    -- the owner of all rows of a prefix that any router begins is a router
    pub owner_within : Contains (prefixes routers) prefix → owner.0 < length routers
    owner_within known =
        let among : In prefix (flat_map prefixes_in routers) = of_distinct (flat_map prefixes_in routers) prefix (in_by_contains (prefixes routers) prefix known) in
        let row = in_by_map (λ (k : Key). k.1) (begun_from 0 routers) prefix (subst (In prefix) (sym (begun_prefixes 0 routers)) among) in
        let lt : row.0.0.0 < 0 + length routers = begun_within 0 routers row.0 row.1 in
        let same : row.0.0 ≡ owner = own row.0 (contains_by_in (begun_from 0 routers) row.0 row.1) row.2 in
        let number : row.0.0.0 ≡ owner.0 = ap (λ (r : RouterId). r.0) same in
        omega arith

    -- where it begins the prefix, no other router does
    pub owner_alone : begins routers tables owner.0 prefix ≡ true → BeginsAlone routers tables prefix owner.0
    owner_alone does router = on (router == owner.0) refl
      where
        by : (b : Bool) → begins routers tables router prefix ≡ b → (router == owner.0) ≡ false → begins routers tables router prefix ≡ false
        by false f other = f
        by true f other =
            let same : record { 0 = router } ≡ owner = own (key router prefix) (contains_by_in (begun_from 0 routers) (key router prefix) (begins_begun router f)) refl in
            let is : (router == owner.0) ≡ true = eq-eqb router owner.0 (ap (λ (r : RouterId). r.0) same) in
            absurd cc

        on : (b : Bool) → (router == owner.0) ≡ b → begins routers tables router prefix ≡ b
        on true e = ap (λ (r : ℕ). begins routers tables r prefix) (eqb-true router owner.0 e) ∙ does
        on false e = by (begins routers tables router prefix) refl e

-- ---- routers that tell no prefix from another

abbrev pub IsPlainAt : RouterConfig → Type 0
IsPlainAt c = (p : ProcessView) → (config_view c).process ≡ Some p → IsPlain p

pub plain_by : (cs : List RouterConfig) → All IsPlainAt cs → ArePlain (map config_view cs)
plain_by [] each router p e = absurd cc
plain_by (c ∷ cs) each zero p e = All-head IsPlainAt c cs each p e
plain_by (c ∷ cs) each (suc router) p e = plain_by cs (All-tail IsPlainAt c cs each) router p e
