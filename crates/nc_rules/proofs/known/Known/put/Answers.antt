use Rattle.std.proofs.Common.{sym, ap, ◌∙◌}
use Rattle.std.specs.HashMap.{get}
use Rattle.std.specs.Map.{lookup}
use Rattle.std.specs.Prelude.{nat_eq}
use Rattle.nc_types.specs.declared.addr.Addr.{Addr}
use Rattle.nc_trace.specs.Traced.{IsTracedTo}
use Rattle.nc_rules.proofs.Keeping.{kept_with}
use Rattle.nc_rules.proofs.known.Known.put.Goals as goal

pub returns-clause-others : goal.returns-clause-others
returns-clause-others c =
    kept_with (λ addr past. IsTracedTo c.args.state.now addr past.traced) (get (λ (a b : Addr). nat_eq a.0 b.0) c.make_room.new.self.others) (get (λ (a b : Addr). nat_eq a.0 b.0) c.insert.new.self) c.args.addr c.make_room.ensures.others _
    c.in_ok-insert.ensures.updates.0 c.requires.traced

pub returns-in_err-insert-clause-others : goal.returns-in_err-insert-clause-others
returns-in_err-insert-clause-others c addr x there = c.make_room.ensures.others addr x (sym (ap (lookup (λ (a : Addr). nat_eq addr.0 a.0)) c.in_err-insert.ensures.err) ∙ there)
