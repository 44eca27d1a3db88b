-- What it rests on that an interface lets a packet pass holds, and has a lower rank.
use Rattle.std.proofs.Common.{◌≡◌, ℕ, Bool, true, not, All, arith}
use Rattle.std.specs.Option.{is_some}
use Rattle.std.proofs.lemmas.Bool.{and_parts}
use Rattle.std.proofs.lemmas.List.Elements.{All-nil, All-cons, All-append}
use Rattle.nc_types.specs.declared.addr.Addr.{Addr}
use Rattle.nc_types.specs.declared.config.RouterId.{RouterId}
use Rattle.nc_types.specs.declared.config.IfaceId.{IfaceId}
use Rattle.nc_types.specs.Network.{up_at}
use Rattle.nc_tables.specs.declared.filters.Passing.{Passing}
use Rattle.nc_tables.specs.declared.filters.Passing.TheVariants.{Free, Deny, By}
use Rattle.nc_tables.specs.Filters.{is_denied, passing_at}
use Rattle.nc_tables.specs.State.{StateView, IsState}
use Rattle.nc_fact.specs.declared.fact.Fact.TheVariants.{Connected, Pass}
use Rattle.nc_fact.specs.Facts.{holds, rank}
use Rattle.nc_fact.proofs.Few.{formed_at}
use Rattle.nc_rules_route.specs.Parents.{group_place, filter_place, of_part, of_passing, parents}
use Rattle.nc_rules_route.proofs.Numbers.{filter_within, group_within}
use Rattle.nc_rules_route.proofs.Holding.{IsBelow, all_higher}
use Rattle.nc_rules_route.proofs.RouteFacts.{part_below}

module _ (s : StateView) (is : IsState s) where
  -- the elements by which an access list lets a packet pass
  passing_below : (router : ℕ) (passing : Passing) → All (IsBelow s 1) (of_passing s router passing)
  passing_below router Free = All-nil (IsBelow s 1)
  passing_below router Deny = All-nil (IsBelow s 1)
  passing_below router (By group entry) =
      All-append (IsBelow s 1) (of_part s router (group_place group)) (of_part s router (filter_place entry))
      (part_below s is router (group_place group) (λ c place at found. group_within c (formed_at s.routers is.valid.each router c at) group place found))
      (part_below s is router (filter_place entry) (λ c place at found. filter_within c (formed_at s.routers is.valid.each router c at) entry place found))

  pub pass_parents_below : (router : RouterId) (iface : IfaceId) (inward : Bool) (from to : Addr) → holds s (Pass inward router iface from to) ≡ true → All (IsBelow s 2) (parents s (Pass inward router iface from to))
  unfolding holds parents rank
  pass_parents_below router iface inward from to e =
      let passing = passing_at from.0 to.0 s.routers router.0 iface.0 inward in
      let both = and_parts (is_some (up_at s.routers router.0 iface.0)) (not (is_denied passing)) e in
      All-cons (IsBelow s 2) (Connected router iface) (of_passing s router.0 passing) (both.0, omega arith) (all_higher s 1 2 (omega arith) (of_passing s router.0 passing) (passing_below router.0 passing))
