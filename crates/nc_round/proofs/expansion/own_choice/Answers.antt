use Rattle.std.proofs.Common.{◌≡◌, ◌<◌, ◌≤◌, ℕ, [], List, Some, All, length, map, get_or, slice_get, refl, sym, ap, subst, ◌∙◌, arith}
use Rattle.std.specs.declared.cmp.Ordering.TheVariants.{Equal}
use Rattle.std.proofs.lemmas.List.{length-map}
use Rattle.std.proofs.lemmas.List.Elements.{All-nil}
use Rattle.std.proofs.lemmas.Option.{slice_get-get_or, slice_get_read, same_Some}
use Rattle.nc_types.specs.Cidr.{Cidr}
use Rattle.nc_types.proofs.Members.{all_in, contains_by_in, in_by_get}
use Rattle.nc_tables.specs.declared.bgp.Chosen.{Chosen}
use Rattle.nc_tables.specs.Base.{prefix_cmp}
use Rattle.nc_tables.specs.LocRibs.{Ascend}
use Rattle.nc_tables.specs.Rounds.{chosen_at}
use Rattle.nc_tables.proofs.Choices.{not_among, searchable}
use Rattle.nc_tables.proofs.InOrder.{equal_is}
use Rattle.nc_round.specs.declared.likeness.Likeness.{Likeness}
use Rattle.nc_round.specs.Likeness.{moved, network_at, IsMade}
use Rattle.nc_round.proofs.Lists.{all_over}
use Rattle.nc_round.proofs.NextRows.{prefixes_up}
use Rattle.nc_round.proofs.Owned.{one_place}
use Rattle.nc_round.proofs.expansion.own_choice.Goals as goal

pub returns-in_default : goal.returns-in_default
returns-in_default c =
    let routers = c.args.inputs.now.network.now in
    let ps = c.deref.result.now in
    let q = c.args.prefix in
    let value = c.deref.ensures.value in
    let up : Ascend ps = subst Ascend (sym (value ∙ c.requires.likeness.all)) (prefixes_up routers) in
    let none : c.none.result ≡ [] = c.none.ensures in
    subst (IsMade routers c.args.likeness.now c.args.ribs.now.rows c.args.router.0 q) (sym none) (record {
      few = omega arith;
      own = All-nil (λ (x : Chosen). x.route.prefix ≡ q);
      moved = λ p s. absurd (not_among ps q c.in_default.field-0 (c.in_default.ensures.position (searchable ps q up)) (contains_by_in ps q (in_by_get ps s.number q (ap (λ (l : List Cidr). slice_get l s.number) value ∙ s.here))));
    })

-- where a prefix stands among all, and which one stands for it
module _ (l : Likeness) (ps : List Cidr) (number place : ℕ) (q p : Cidr) (value : ps ≡ l.all.items) (bound : number < length ps) (equal : (d : Cidr) → prefix_cmp (get_or ps number d) q ≡ Equal) (at_place : place ≡ get_or l.places.items number place)
    (at : p ≡ get_or l.standing.items place p) (count : length l.places.items ≡ length l.all.items) (within : All (λ place. place < length l.standing.items) l.places.items) where
  inside : number < length l.places.items
  inside = let all : number < length l.all.items = subst (λ (l : List Cidr). number < length l) value bound in omega (arith, all, count)

  known : slice_get l.places.items number ≡ Some place
  known = slice_get_read l.places.items (length l.places.items) number place refl inside at_place

  there : slice_get l.standing.items place ≡ Some p
  there = slice_get_read l.standing.items (length l.standing.items) place p refl (all_in (λ (k : ℕ). k < length l.standing.items) l.places.items within place (in_by_get l.places.items number place known)) at

  here : slice_get l.all.items number ≡ Some q
  here = ap (λ (l : List Cidr). slice_get l number) (sym value) ∙ slice_get-get_or ps number q bound ∙ ap Some (equal_is (get_or ps number q) q (equal q))

pub chosen-chosen-requires-clause-number : goal.chosen-chosen-requires-clause-number
chosen-chosen-requires-clause-number c =
    let l = c.args.likeness.now in
    let like = c.requires.likeness in
    let place = c.index-place.result.now in
    ap (λ (ps : List Cidr). slice_get ps place) c.requires.standing
    ∙ there l c.deref.result.now c.in-Ok.number place c.args.prefix c.index.result.now c.deref.ensures.value c.in-Ok.ensures.bound c.in-Ok.ensures.ok c.index-place.ensures c.index.ensures like.count like.within

pub returns : goal.returns
returns c =
    let routers = c.args.inputs.now.network.now in
    let l = c.args.likeness.now in
    let q = c.args.prefix in
    let router = c.args.router.0 in
    let table = c.args.ribs.now.rows in
    let p = c.index.result.now in
    let chosen = c.chosen-chosen.result.now in
    let is : chosen ≡ chosen_at table router p = c.chosen-chosen.ensures.chosen in
    let f = moved q (network_at routers router q) in
    let up : Ascend l.all.items = subst Ascend (sym c.requires.likeness.all) (prefixes_up routers) in
    let most = c.requires.few p in
    let ps = c.deref.result.now in
    let number = c.in-Ok.number in
    let place = c.index-place.result.now in
    let like = c.requires.likeness in
    let value = c.deref.ensures.value in
    let here_is = here l ps number place q p value c.in-Ok.ensures.bound c.in-Ok.ensures.ok c.index-place.ensures c.index.ensures like.count like.within in
    let known_is = known l ps number place q p value c.in-Ok.ensures.bound c.in-Ok.ensures.ok c.index-place.ensures c.index.ensures like.count like.within in
    let there_is = there l ps number place q p value c.in-Ok.ensures.bound c.in-Ok.ensures.ok c.index-place.ensures c.index.ensures like.count like.within in
    let same_count : length (map f chosen) ≡ length (chosen_at table router p) = length-map chosen f ∙ ap (λ (cs : List Chosen). length cs) is in
    subst (IsMade routers l table router q) (sym c.in_ok-made.ensures) (record {
      few = omega (arith, most, same_count);
      own = all_over (λ (x : Chosen). x.route.prefix ≡ q) f chosen (λ k d lt. refl);
      moved = λ r s.
          let same_number : number ≡ s.number = one_place l.all.items q number s.number up here_is s.here in
          let same_place : place ≡ s.place = same_Some place s.place (sym known_is ∙ ap (slice_get l.places.items) same_number ∙ s.known) in
          let same : p ≡ r = same_Some p r (sym there_is ∙ ap (slice_get l.standing.items) same_place ∙ s.there) in
          ap (map f) (is ∙ ap (chosen_at table router) same);
    })
