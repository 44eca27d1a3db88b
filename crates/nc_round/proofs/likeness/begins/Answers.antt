use Rattle.std.proofs.Common.{ℕ, ◌&&◌, Option, is_some, sym, ap, ◌∙◌, arith, inl, inr}
use Rattle.std.specs.List.{list_any}
use Rattle.std.proofs.lemmas.Option.{slice_get_cases}
use Rattle.nc_tables.specs.declared.base.BaseRow.{BaseRow}
use Rattle.nc_tables.specs.Base.{same_prefix}
use Rattle.nc_tables.specs.Reach.{rows_of}
use Rattle.nc_round.proofs.BegunAlone.{begins_by}
use Rattle.nc_round.proofs.likeness.begins.Goals as goal

pub returns-in-Some : goal.returns-in-Some
returns-in-Some c =
    let routers = c.args.inputs.now.network.now in
    let tables = c.args.inputs.now.base.now in
    let router = c.args.router.0 in
    let row = list_any (λ (row : BaseRow). same_prefix row.prefix c.args.prefix) (rows_of tables router) in
    elim (slice_get_cases routers router).1 [
      | inl at ↦
          c.has_row.ensures ∙ ap (λ (o : Option ℕ). is_some o && row) (sym c.in-Some.is)
          ∙ begins_by routers tables c.args.prefix router at.0 c.network_of.result at.2 (c.network_of.ensures at.0 at.2)
      | inr past ↦ absurd (omega (arith, past.0, c.requires.router))
    ]

pub returns-in-None : goal.returns-in-None
returns-in-None c =
    let routers = c.args.inputs.now.network.now in
    let tables = c.args.inputs.now.base.now in
    let router = c.args.router.0 in
    let row = list_any (λ (row : BaseRow). same_prefix row.prefix c.args.prefix) (rows_of tables router) in
    elim (slice_get_cases routers router).1 [
      | inl at ↦
          ap (λ (o : Option ℕ). is_some o && row) (sym c.in-None.is)
          ∙ begins_by routers tables c.args.prefix router at.0 c.network_of.result at.2 (c.network_of.ensures at.0 at.2)
      | inr past ↦ absurd (omega (arith, past.0, c.requires.router))
    ]
