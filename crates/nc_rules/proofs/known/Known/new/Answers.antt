use Rattle.std.proofs.Common.{sym, ap, ◌∙◌}
use Rattle.std.specs.Map.{lookup}
use Rattle.std.specs.Prelude.{nat_eq}
use Rattle.std.proofs.lemmas.Option.{none-some}
use Rattle.nc_types.specs.declared.addr.Addr.{Addr}
use Rattle.nc_rules.proofs.known.Known.new.Goals as goal

pub returns : goal.returns
returns c = record {
  traced = c.new-traced.ensures.traced c.args.state.now 0 c.network-state.ensures.state;
  others = λ addr x there. absurd (none-some x (sym (ap (lookup (λ (a : Addr). nat_eq addr.0 a.0)) c.new-others.ensures.empty) ∙ there));
}
