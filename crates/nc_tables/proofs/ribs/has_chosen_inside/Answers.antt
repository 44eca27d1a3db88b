use Rattle.std.proofs.Common.{◌≡◌, ◌<◌, Some, false, length, slice_get, refl, sym, ap, ◌∙◌, arith, rules, inl, inr}
use Rattle.std.specs.Ordering.{is_le}
use Rattle.std.proofs.lemmas.List.Sorted.{IsPartitionPoint-from_clause}
use Rattle.std.proofs.lemmas.Option.{slice_get_read, slice_get_within, same_Some}
use Rattle.std.proofs.lemmas.Bool.{cases_lt}
use Rattle.std.proofs.lemmas.Grind.{common_steps}
use Rattle.nc_types.specs.Cidr.{Cidr}
use Rattle.nc_tables.specs.declared.bgp.Chosen.{Chosen}
use Rattle.nc_tables.specs.Base.{prefix_cmp}
use Rattle.nc_tables.specs.Rounds.{is_longer_in}
use Rattle.nc_tables.proofs.Choices.{ascend_rises, beyond, none_upto, one_longer}
use Rattle.nc_tables.proofs.SideBySide.{upto_first}
use Rattle.nc_tables.proofs.ribs.has_chosen_inside.Goals as goal

pub returns-then-not-is_longer_in : goal.returns-then-not-is_longer_in
returns-then-not-is_longer_in c =
    let ps = c.args.prefixes.now in
    let css = c.args.choices.now in
    let outer = c.args.outer in
    let first = c.partition_point-first.result in
    let point = IsPartitionPoint-from_clause (λ (p : Cidr). is_le (prefix_cmp p outer)) ps first c.partition_point-first.ensures.partitioned (upto_first (λ (p : Cidr). p) ps (ascend_rises ps c.requires.ordered) outer) (λ a r q k. search rules) in
    let f = c.index-prefixes-number.result in
    let lt : c.prefixes.number < length ps = omega arith in
    let at : slice_get ps c.prefixes.number ≡ Some f = slice_get_read ps (length ps) c.prefixes.number f refl lt c.index-prefixes-number.is in
    let outside : is_longer_in f outer ≡ false = sym c.is_longer_in.ensures.longer ∙ c.if-not-is_longer_in.true in
    sym (none_upto ps css outer c.requires.ordered c.len-len.ensures.valid first point c.prefixes.number c.prefixes.invariant
    (beyond ps css outer c.requires.ordered c.len-len.ensures.valid first point c.prefixes.number f at (omega arith) c.is_longer_in.ensures.valid outside))

pub returns-then-not-is_empty : goal.returns-then-not-is_empty
returns-then-not-is_empty c =
    let ps = c.args.prefixes.now in
    let css = c.args.choices.now in
    let number = c.prefixes.number in
    let f = c.index-prefixes-number.result in
    let cs = c.index-choices-number.result in
    let lt : number < length ps = omega arith in
    let within : number < length css = omega (arith, c.requires.count) in
    let at : slice_get ps number ≡ Some f = slice_get_read ps (length ps) number f refl lt c.index-prefixes-number.is in
    let there : slice_get css number ≡ Some cs = slice_get_read css (length css) number cs refl within c.index-choices-number.is in
    let some : 0 < length cs = grind (arith, common_steps) in
    sym (one_longer ps css c.args.outer number f cs at there some (sym c.is_longer_in.ensures.longer ∙ c.if-not-is_longer_in.false))

pub prefixes-preserved : goal.prefixes-preserved
prefixes-preserved c k cs from upto at = elim (cases_lt k c.prefixes.number) [
  | inl lt ↦ c.prefixes.invariant k cs from lt at
  | inr le ↦
      let choices = c.args.choices.now in
      let here = c.index-choices-number.result in
      let same : k ≡ c.prefixes.number = omega arith in
      let within : c.prefixes.number < length choices = omega (arith, c.requires.count) in
      let there : slice_get choices c.prefixes.number ≡ Some here = slice_get_read choices (length choices) c.prefixes.number here refl within c.index-choices-number.is in
      let is : cs ≡ here = same_Some cs here (sym at ∙ ap (slice_get choices) same ∙ there) in
      let none : length here ≡ 0 = grind (arith, common_steps) in
      ap (length {A = Chosen}) is ∙ none
]

pub returns : goal.returns
returns c =
    let ps = c.args.prefixes.now in
    let css = c.args.choices.now in
    let outer = c.args.outer in
    let first = c.partition_point-first.result in
    let point = IsPartitionPoint-from_clause (λ (p : Cidr). is_le (prefix_cmp p outer)) ps first c.partition_point-first.ensures.partitioned (upto_first (λ (p : Cidr). p) ps (ascend_rises ps c.requires.ordered) outer) (λ a r q k. search rules) in
    sym (none_upto ps css outer c.requires.ordered c.len-len.ensures.valid first point c.prefixes.number c.prefixes.invariant
    (λ k p le at inside. let lt : k < length ps = slice_get_within ps k p at in absurd (omega arith)))
