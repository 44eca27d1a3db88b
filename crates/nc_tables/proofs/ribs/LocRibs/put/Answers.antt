use Rattle.std.proofs.Common.{◌≡◌, ◌<◌, List, Vec, Global, [], Some, length, map, get_or, slice_get, sym, ap, subst, ◌∙◌, arith}
use Rattle.std.proofs.lemmas.List.{length-map}
use Rattle.nc_tables.specs.declared.bgp.Chosen.{Chosen}
use Rattle.nc_tables.specs.LocRibs.{rows_by, AreChoices, LocRibsView}
use Rattle.nc_tables.specs.Rounds.{BgpRowView, chosen_at, chosen_in}
use Rattle.std.proofs.Common.{◌==◌, ◌&&◌, cond}
use Rattle.std.proofs.lemmas.List.{get_or-map}
use Rattle.std.proofs.lemmas.List.Elements.{All-set}
use Rattle.nc_tables.specs.Base.{same_prefix}
use Rattle.nc_tables.proofs.Choices.{after_set, choices_set, chosen_after, seen}
use Rattle.nc_tables.proofs.ribs.LocRibs.put.Goals as goal
use Rattle.nc_tables.proofs.ribs.LocRibs.put.Goals.{After-self-1}

within : (c : After-self-1) → c.args.router.0 < length c.self.inside.routers.items
within c = omega (arith, length-map c.self.inside.routers.items (seen c.self.inside.prefixes.items), ap (λ (v : LocRibsView). length v.rows) c.self.view_is, c.requires.router)

at : (c : After-self-1) → slice_get c.self.inside.prefixes.items c.args.of.number ≡ Some c.args.of.prefix
at c = ap (λ (v : LocRibsView). slice_get v.prefixes c.args.of.number) c.self.view_is ∙ c.requires.number

old_are : (c : After-self-1) → AreChoices c.self.inside.prefixes.items c.index_mut.result.now.items
old_are c = subst (λ (t : Vec (List Chosen) Global). AreChoices c.self.inside.prefixes.items t.items) (sym c.index_mut.ensures.value) (c.self.invariant.1 c.args.router.0 c.index_mut.result.now (within c))

pub invariant_of-self : goal.invariant_of-self
invariant_of-self c =
    let ps = c.self.inside.prefixes.items in (
      c.self.invariant.0,
      All-set (λ (t : Vec (List Chosen) Global). AreChoices ps t.items) c.self.inside.routers.items c.args.router.0 c.set_choice.new.choices
          (subst (AreChoices ps) (sym c.set_choice.ensures) (choices_set ps c.index_mut.result.now.items c.args.of.number c.args.of.prefix c.args.chosen (at c) c.requires.few c.requires.own (old_are c)))
          c.self.invariant.1,
    )

pub returns-clause-put : goal.returns-clause-put
returns-clause-put c r p =
    let ps = c.self.inside.prefixes.items in
    let tables = c.self.inside.routers.items in
    let i = c.args.router.0 in
    let old = c.index_mut.result.now in
    let css = old.items in
    let chosen = c.args.chosen in
    let here : get_or (map (seen ps) tables) i [] ≡ seen ps old = get_or-map (seen ps) tables i old [] (within c) ∙ ap (seen ps) (sym c.index_mut.ensures.value) in
    chosen_after (seen ps) tables i c.set_choice.new.choices c.args.of.prefix chosen (within c)
    (λ q. ap (λ (l : List (List Chosen)). chosen_in (rows_by ps l) q) c.set_choice.ensures
    ∙ after_set ps css c.args.of.number c.args.of.prefix chosen c.self.invariant.0 (old_are c).count (at c) q
    ∙ ap (λ (rows : List BgpRowView). cond (same_prefix c.args.of.prefix q) chosen (chosen_in rows q)) (sym here)) r p
    ∙ ap (λ (v : LocRibsView). cond ((r == i) && same_prefix c.args.of.prefix p) chosen (chosen_at v.rows r p)) c.self.view_is
