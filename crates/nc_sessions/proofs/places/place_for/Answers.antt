use Rattle.std.proofs.Common.{◌≡◌, ℕ, List, [], Option, Some, None, nat_eq, option_and_then, position, slice_get, refl, sym, ap, ◌∙◌}
use Rattle.std.specs.Option.{option_map_or}
use Rattle.nc_types.specs.Config.{ConfigView, ProcessView}
use Rattle.nc_types.specs.declared.config.Neighbor.{Neighbor}
use Rattle.nc_tables.specs.Sessions.{place_for}
use Rattle.nc_sessions.specs.Statements.{neighbors_of, statements_of}
use Rattle.nc_sessions.proofs.places.place_for.Goals as goal

-- a router's place for an address is that among its statements
among : (routers : List ConfigView) (router addr : ℕ) → position (λ n. nat_eq n.addr.0 addr) (statements_of routers router) ≡ place_for routers router addr
among routers router addr = by_config (slice_get routers router)
  where
    by_process : (o : Option ProcessView) → position (λ (n : Neighbor). nat_eq n.addr.0 addr) (option_map_or (λ (p : ProcessView). p.neighbors) o []) ≡ option_and_then (λ (p : ProcessView). position (λ (n : Neighbor). nat_eq n.addr.0 addr) p.neighbors) o
    by_process None = refl
    by_process (Some p) = refl

    by_config : (o : Option ConfigView) → position (λ (n : Neighbor). nat_eq n.addr.0 addr) (option_map_or neighbors_of o []) ≡ option_and_then (λ (p : ProcessView). position (λ (n : Neighbor). nat_eq n.addr.0 addr) p.neighbors) (option_and_then (λ (c : ConfigView). c.process) o)
    by_config None = refl
    by_config (Some c) = by_process c.process

pub returns-in_err-place : goal.returns-in_err-place
returns-in_err-place c =
    let addr = c.args.addr.0 in
    let none : c.place_among.result ≡ None = c.in_err-place.was in
    c.from_residual.ensures ∙ sym none ∙ c.place_among.ensures.place
    ∙ ap (position (λ (n : Neighbor). nat_eq n.addr.0 addr)) c.statements.ensures.statements
    ∙ among c.args.network.now c.args.router.0 addr
