use Rattle.std.proofs.Common.{◌≡◌, ◌<◌, ◌+◌, ◌++◌, ◌∷◌, [], List, length, take, get_or, sym, ap, subst, ◌∙◌, arith}
use Rattle.std.proofs.lemmas.List.{length-take-le, length_push, take_all, take_more}
use Rattle.nc_types.specs.Cidr.{Cidr}
use Rattle.nc_tables.specs.declared.bgp.Chosen.{Chosen}
use Rattle.nc_round.specs.Likeness.{AreMade}
use Rattle.nc_round.proofs.Expanding.{push_made}
use Rattle.nc_round.proofs.expansion.own_choices.Goals as goal

pub prefixes-preserved : goal.prefixes-preserved
prefixes-preserved c =
    let routers = c.args.inputs.now.network.now in
    let l = c.args.likeness.now in
    let table = c.args.ribs.now.rows in
    let router = c.args.router.0 in
    let ps = c.args.prefixes.now in
    let index = c.prefixes.prefix-index in
    let q = c.prefix-item.result in
    let before = c.prefixes.choices.items in
    let x = c.in_ok-own_choice.field-0 in
    let lt : index < length ps = omega arith in
    let items = (c.in_ok-push.ensures).items in
    let size : length (take index ps) ≡ index = length-take-le index ps (omega arith) in
    let longer : take (index + 1) ps ≡ take index ps ++ q ∷ [] = take_more ps index q lt ∙ ap (λ (r : Cidr). take index ps ++ r ∷ []) (sym c.prefix-item.is) in
    let now : AreMade routers l table router (take index ps ++ q ∷ []) (before ++ x ∷ []) = push_made routers l table router (take index ps) before q x (c.prefixes.invariant.count ∙ sym size) c.prefixes.invariant.made c.in_ok-own_choice.ensures in
    record {
      count = ap length items ∙ length_push before x ∙ ap (λ n. n + 1) c.prefixes.invariant.count;
      made = subst (λ (qs : List Cidr). AreMade routers l table router qs c.push.new.self.items) (sym longer) (subst (AreMade routers l table router (take index ps ++ q ∷ [])) (sym items) now);
    }

pub returns-clause-made : goal.returns-clause-made
returns-clause-made c =
    let ps = c.args.prefixes.now in
    subst (λ (qs : List Cidr). AreMade c.args.inputs.now.network.now c.args.likeness.now c.args.ribs.now.rows c.args.router.0 qs c.prefixes.choices.items) (take_all c.prefixes.prefix-index ps (omega arith)) c.prefixes.invariant.made
