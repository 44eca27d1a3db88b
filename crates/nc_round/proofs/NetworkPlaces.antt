-- The place of a router's network of a prefix.
use Rattle.std.proofs.Common.{◌≡◌, ℕ, ◌*◌, ◌^◌, ◌<◌, ◌≤◌, Bool, List, [], ◌∷◌, length, get_or, Option, Some, None, All, refl, sym, ◌∙◌, arith}
use Rattle.std.specs.Prelude.{position, slice_get}
use Rattle.std.specs.Option.{option_and_then, option_map_or}
use Rattle.std.proofs.lemmas.Option.{none-some, slice_get-get_or}
use Rattle.nc_types.specs.Cidr.{Cidr, same_prefix}
use Rattle.nc_types.specs.Config.{ConfigView, ProcessView}
use Rattle.nc_types.specs.Network.{element_count}
use Rattle.nc_types.specs.WellFormed.{IsWellFormed}
use Rattle.nc_types.specs.declared.TheConstants.{LINE_LIMIT, ROUTER_LIMIT}
use Rattle.nc_types.specs.declared.config.NetworkStatement.{NetworkStatement}
use Rattle.nc_types.proofs.Few.{few_of_process, few_in_network}
use Rattle.nc_types.proofs.Members.{all_in, in_by_get}
use Rattle.nc_message.proofs.Lists.{found_within}
use Rattle.nc_policy.specs.Statements.{networks_in}
use Rattle.nc_round.specs.Likeness.{network_at}

-- a place within a list has an item
pub not_past : {X : Type 0} (xs : List X) (k : ℕ) → k < length xs → slice_get xs k ≡ None → ⊥
not_past [] k lt e = omega arith
not_past (x ∷ xs) k lt e = none-some (get_or (x ∷ xs) k x) (sym e ∙ slice_get-get_or (x ∷ xs) k x lt)

module _ (routers : List ConfigView) (router : ℕ) (prefix : Cidr) where
  abbrev is_of : NetworkStatement → Bool
  is_of n = same_prefix n.prefix prefix

  abbrev place_in : Option ProcessView → Option ℕ
  place_in o = option_and_then (λ (p : ProcessView). position is_of p.networks) o

  abbrev process_in : Option ConfigView → Option ProcessView
  process_in o = option_and_then (λ (c : ConfigView). c.process) o

  -- the place among the networks of the router's configuration
  pub place_is : (o : Option ℕ) → router < length routers → ((c : ConfigView) → slice_get routers router ≡ Some c → o ≡ position is_of (networks_in c)) → o ≡ network_at routers router prefix
  place_is o lt is = on (slice_get routers router) refl
    where
      of_process : (q : Option ProcessView) → position is_of (option_map_or (λ (p : ProcessView). p.networks) q []) ≡ place_in q
      of_process None = refl
      of_process (Some p) = refl

      on : (s : Option ConfigView) → slice_get routers router ≡ s → o ≡ place_in (process_in s)
      on None e = absurd (not_past routers router lt e)
      on (Some c) e = is c e ∙ of_process c.process

  -- a router has few networks
  pub place_few : (place : ℕ) → All IsWellFormed routers → element_count routers ≤ ROUTER_LIMIT * LINE_LIMIT → network_at routers router prefix ≡ Some place → place < 2 ^ 32
  place_few place formed few found = on (slice_get routers router) refl found
    where
      of_process : (c : ConfigView) → slice_get routers router ≡ Some c → (q : Option ProcessView) → c.process ≡ q → place_in q ≡ Some place → place < 2 ^ 32
      of_process c at None e f = absurd (none-some place f)
      of_process c at (Some p) e f =
          let within : place < length p.networks = found_within is_of p.networks (Some place) (sym f) in
          omega (arith, within, few, few_of_process c p (all_in IsWellFormed routers formed c (in_by_get routers router c at)) e, few_in_network routers router c at)

      on : (s : Option ConfigView) → slice_get routers router ≡ s → place_in (process_in s) ≡ Some place → place < 2 ^ 32
      on None e f = absurd (none-some place f)
      on (Some c) e f = of_process c e c.process refl f
