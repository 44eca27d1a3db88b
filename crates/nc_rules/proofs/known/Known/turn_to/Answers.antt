use Rattle.std.proofs.Common.{ℕ, sym, ap, ◌∙◌, subst}
use Rattle.nc_types.specs.declared.addr.Addr.{Addr}
use Rattle.nc_trace.specs.Traced.{Traced, IsTracedTo}
use Rattle.nc_rules.proofs.known.Known.turn_to.Goals as goal

pub put-requires-clause-traced : goal.put-requires-clause-traced
put-requires-clause-traced c =
    subst (λ (t : Traced). IsTracedTo c.args.state.now c.replace-left.result.0 t) (sym (c.replace-traced.ensures.value ∙ c.take-found.ensures.own))
    (subst (λ (a : Addr). IsTracedTo c.args.state.now a.0 c.args.self.now.traced) (sym (c.replace-left.ensures.value ∙ c.take-found.ensures.addr)) c.requires.traced)
