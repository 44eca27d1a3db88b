use Rattle.std.proofs.Common.{ℕ, true, false, List, cond, nat_lt, filter, length, Option, ap, ◌∙◌}
use Rattle.std.specs.Option.{option_map_or, option_or, unwrap_or}
use Rattle.nc_types.specs.declared.addr.Addr.{Addr}
use Rattle.nc_types.specs.declared.config.Interface.{Interface}
use Rattle.nc_tables.specs.Sessions.{greatest, up_addresses, is_loopback}
use Rattle.nc_sessions.specs.Ids.{highest}
use Rattle.nc_sessions.proofs.Highest.{highest_of_all, highest_of_loopbacks, id_of}
use Rattle.nc_sessions.proofs.ids.router_id.Goals as goal

pub returns : goal.returns
returns c =
    let is : List Interface = c.args.config.now.interfaces.items in
    let ls : List ℕ = up_addresses (filter is_loopback is) in
    let ns : List ℕ = up_addresses is in
    ap (λ (a : Addr). a.0) c.unwrap_or.ensures
    ∙ ap (λ (o : Option Addr). (unwrap_or o (record { 0 = 0 })).0) (c.or-2.ensures ∙ ap (λ (o : Option Addr). option_or o c.highest-2.result) c.or.ensures)
    ∙ id_of c.written.result c.highest.result c.highest-2.result ls ns
    (c.highest.ensures ∙ ap (highest true) c.deref.ensures.value ∙ highest_of_loopbacks is)
    (c.highest-2.ensures ∙ ap (highest false) c.deref-2.ensures.value ∙ highest_of_all is)
    ∙ ap (λ (o : Option Addr). option_map_or (λ (a : Addr). a.0) o (cond (nat_lt 0 (length ls)) (greatest ls) (greatest ns))) c.written.ensures
