use Rattle.std.proofs.Common.{◌++◌, Bool, ℕ, List, [], ◌∷◌, cond, Option, slice_index_or, sym, ap, ◌∙◌}
use Rattle.std.specs.Option.{option_map_or}
use Rattle.std.proofs.lemmas.List.{append-nil}
use Rattle.nc_types.specs.Cidr.{Cidr}
use Rattle.nc_types.specs.declared.config.AggregateStatement.{AggregateStatement}
use Rattle.nc_tables.specs.declared.bgp.Chosen.{Chosen}
use Rattle.nc_tables.specs.declared.bgp.BgpFrom.TheVariants.{Aggregate}
use Rattle.nc_tables.specs.Base.{same_prefix}
use Rattle.nc_tables.specs.Rounds.{begun, has_longer}
use Rattle.nc_decision.proofs.Making.{one_has, single_made}
use Rattle.nc_decision.proofs.candidates.add_aggregate.Goals as goal

abbrev of_first : Bool → Cidr → Option ℕ → List Chosen
of_first holds p o = option_map_or (λ k. cond holds (begun p (Aggregate k) ∷ []) []) o []

pub returns-in_default : goal.returns-in_default
returns-in_default c =
    let p = c.args.prefix in
    let holds = has_longer (slice_index_or c.args.ribs.now.rows c.args.router.0 []) c.args.prefix in
    let items = c.args.candidates.now.items in
    let all = c.args.process.now.aggregates.items in
    sym (
    ap (λ (l : List Chosen). items ++ l) (single_made (λ (s : AggregateStatement). same_prefix s.prefix p) holds (λ (k : ℕ). begun p (Aggregate k)) all (one_has (λ (s : AggregateStatement). s.prefix) p all c.requires.single)
    ∙ ap (of_first holds p) (sym c.in_default.ensures.place))
    ∙ append-nil items
    )

pub returns-then-not-has_longer : goal.returns-then-not-has_longer
returns-then-not-has_longer c =
    let p = c.args.prefix in
    let holds = has_longer (slice_index_or c.args.ribs.now.rows c.args.router.0 []) c.args.prefix in
    let items = c.args.candidates.now.items in
    let all = c.args.process.now.aggregates.items in
    let place = c.in-Some.place in
    sym (
    ap (λ (l : List Chosen). items ++ l) (single_made (λ (s : AggregateStatement). same_prefix s.prefix p) holds (λ (k : ℕ). begun p (Aggregate k)) all (one_has (λ (s : AggregateStatement). s.prefix) p all c.requires.single)
    ∙ ap (of_first holds p) (sym c.in-Some.ensures.place)
    ∙ ap (λ (b : Bool). cond b (begun p (Aggregate place) ∷ []) []) (sym c.has_longer.ensures ∙ c.if-not-has_longer.true))
    ∙ append-nil items
    )

pub returns : goal.returns
returns c =
    let p = c.args.prefix in
    let holds = has_longer (slice_index_or c.args.ribs.now.rows c.args.router.0 []) c.args.prefix in
    let items = c.args.candidates.now.items in
    let all = c.args.process.now.aggregates.items in
    let place = c.in-Some.place in
    c.in_ok-add_begun.ensures
    ∙ sym (
    ap (λ (l : List Chosen). items ++ l) (single_made (λ (s : AggregateStatement). same_prefix s.prefix p) holds (λ (k : ℕ). begun p (Aggregate k)) all (one_has (λ (s : AggregateStatement). s.prefix) p all c.requires.single)
    ∙ ap (of_first holds p) (sym c.in-Some.ensures.place)
    ∙ ap (λ (b : Bool). cond b (begun p (Aggregate place) ∷ []) []) (sym c.has_longer.ensures ∙ c.if-not-has_longer.false))
    )
