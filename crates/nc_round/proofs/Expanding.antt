-- The table of all prefixes is made of what routers choose of those that stand for them, with rows of a router's own.
use Rattle.std.proofs.Common.{◌≡◌, ◌⊎◌, ℕ, zero, suc, ◌+◌, ◌<◌, ◌≤◌, Bool, true, false, cond, List, [], ◌∷◌, ◌++◌, length, map, get_or, All, Contains, Option, Some, None, append_assoc, refl, sym, ap, subst, ◌∙◌, arith, inl, inr}
use Rattle.std.specs.Cmp.Lexicographic.{pointwise}
use Rattle.std.specs.List.{find}
use Rattle.std.specs.Option.{option_and_then, option_map_or}
use Rattle.std.specs.Prelude.{position, slice_get}
use Rattle.std.proofs.lemmas.Bool.{cases_lt}
use Rattle.std.proofs.lemmas.List.{get_or_append_left, get_or_at, get_or_past, length-append}
use Rattle.std.proofs.lemmas.List.Elements.{All-head, All-tail}
use Rattle.std.proofs.lemmas.List.Quantifiers.{position-Some}
use Rattle.std.proofs.lemmas.Option.{get_or_from_slice_get, slice_get-get_or, slice_get_within, same_Some}
use Rattle.std.proofs.lemmas.Slice.Eq.{slice_eq-Decides}
use Rattle.nc_types.specs.Cidr.{Cidr, same_prefix}
use Rattle.nc_types.specs.Config.{ConfigView, ProcessView}
use Rattle.nc_types.specs.declared.config.NetworkStatement.{NetworkStatement}
use Rattle.nc_types.proofs.Members.{In, in_at, in_map, all_in, contains_by_in, in_by_contains}
use Rattle.nc_types.proofs.Sameness.{same_prefix_is}
use Rattle.nc_tables.specs.declared.bgp.BgpFrom.{BgpFrom}
use Rattle.nc_tables.specs.declared.bgp.BgpFrom.TheVariants.{Origin, Aggregate, Entry}
use Rattle.nc_tables.specs.declared.bgp.Chosen.{Chosen}
use Rattle.nc_tables.specs.Base.{prefix_cmp}
use Rattle.nc_tables.specs.LocRibs.{row_before, rows_by, Ascend, AreChoices}
use Rattle.nc_tables.specs.Order.{in_order}
use Rattle.nc_tables.specs.Rounds.{BgpRowView, chosen_in, chosen_at, distinct}
use Rattle.nc_tables.specs.Sessions.{process_of}
use Rattle.nc_tables.specs.Spread.{chosen_or, with_prefix}
use Rattle.nc_tables.proofs.ByPrefix.{same_itself}
use Rattle.nc_tables.proofs.Choices.{at_number, joined, nowhere, some_by}
use Rattle.nc_tables.proofs.InOrder.{HaveSome}
use Rattle.nc_round.proofs.Woken.{found_in}
use Rattle.nc_main_rib.proofs.Alone.{in_ordered}
use Rattle.nc_round.specs.Likeness.{moved, moved_from, network_at, networks_at, AreMade, AreOwnRows, IsExpansion, IsMade, IsStandingFor}
use Rattle.nc_round.specs.declared.likeness.Likeness.{Likeness}
use Rattle.nc_round.proofs.Lists.{among}

-- what passes the test of two prefixes are the same
pub same_prefixes : (ps qs : List Cidr) (r : Bool) → r ≡ pointwise same_prefix ps qs → r ≡ true → ps ≡ qs
same_prefixes ps qs r e passed = (slice_eq-Decides (λ p q. (same_prefix_is p q, λ same. ap (same_prefix p) (sym same) ∙ same_itself p)) ps qs r e).0 passed

-- so what are the same pass it
pub prefixes_pass : (ps qs : List Cidr) (r : Bool) → r ≡ pointwise same_prefix ps qs → ps ≡ qs → r ≡ true
prefixes_pass ps qs r e same = (slice_eq-Decides (λ p q. (same_prefix_is p q, λ same. ap (same_prefix p) (sym same) ∙ same_itself p)) ps qs r e).1 same

-- rows made one by one
pub one_more : (p : Cidr) (ps : List Cidr) (cs : List Chosen) (css : List (List Chosen)) (made total : List BgpRowView) → made ++ rows_by (p ∷ ps) (cs ∷ css) ≡ total → (made ++ row_before p cs []) ++ rows_by ps css ≡ total
one_more p ps cs css made total is = append_assoc made (row_before p cs []) (rows_by ps css) ∙ ap (λ (l : List BgpRowView). made ++ l) (sym (joined p cs (rows_by ps css))) ∙ is

-- ---- what is found, or else others

module _ (rows : List BgpRowView) (some : HaveSome rows) (q : Cidr) (others : List Chosen) where
  abbrev found : Option BgpRowView
  found = find (λ row. same_prefix row.prefix q) rows

  pub or_others : chosen_in rows q ≡ [] → chosen_or rows q others ≡ others
  or_others none = on found refl
    where
      on : (o : Option BgpRowView) → found ≡ o → chosen_or rows q others ≡ others
      on None e = ap (λ (o : Option BgpRowView). option_map_or (λ (row : BgpRowView). row.chosen) o others) e
      on (Some row) e =
          let has : 0 < length row.chosen = all_in (λ (r : BgpRowView). 0 < length r.chosen) rows some row (found_in (λ r. same_prefix r.prefix q) rows row e) in
          let empty : row.chosen ≡ [] = sym (ap (λ (o : Option BgpRowView). option_map_or (λ (r : BgpRowView). r.chosen) o []) e) ∙ none in
          let no : length row.chosen ≡ 0 = ap (λ (l : List Chosen). length l) empty in
          absurd (omega arith)

  pub or_found : (x : Chosen) (xs : List Chosen) → chosen_in rows q ≡ x ∷ xs → chosen_or rows q others ≡ x ∷ xs
  or_found x xs is = on found refl
    where
      on : (o : Option BgpRowView) → found ≡ o → chosen_or rows q others ≡ x ∷ xs
      on None e =
          let empty : [] ≡ x ∷ xs = sym (ap (λ (o : Option BgpRowView). option_map_or (λ (r : BgpRowView). r.chosen) o []) e) ∙ is in
          absurd cc
      on (Some row) e =
          ap (λ (o : Option BgpRowView). option_map_or (λ (r : BgpRowView). r.chosen) o others) e
          ∙ sym (ap (λ (o : Option BgpRowView). option_map_or (λ (r : BgpRowView). r.chosen) o []) e)
          ∙ is

-- ---- candidates of another prefix

own_same : (q : Cidr) (xs : List Chosen) → All (λ x. x.route.prefix ≡ q) xs → map (with_prefix q) xs ≡ xs
own_same q [] own = refl
own_same q (x ∷ xs) own =
    ap (λ (p : Cidr). record x { route = record x.route { prefix = p } } ∷ map (with_prefix q) xs) (sym (All-head (λ (y : Chosen). y.route.prefix ≡ q) x xs own))
    ∙ ap (λ (ys : List Chosen). x ∷ ys) (own_same q xs (All-tail (λ (y : Chosen). y.route.prefix ≡ q) x xs own))

-- without a network of the prefix they come from where they came from
from_kept : (f : BgpFrom) → moved_from None f ≡ f
from_kept (Origin own) = refl
from_kept (Aggregate own) = refl
from_kept (Entry own) = refl

moved_nowhere : (q : Cidr) (xs : List Chosen) → map (with_prefix q) xs ≡ map (moved q None) xs
moved_nowhere q [] = refl
moved_nowhere q (x ∷ xs) =
    ap (λ (f : BgpFrom). record x { route = record x.route { prefix = q }; from = f } ∷ map (with_prefix q) xs) (sym (from_kept x.from))
    ∙ ap (λ (ys : List Chosen). moved q None x ∷ ys) (moved_nowhere q xs)

-- of nothing nothing is made
none_moved : (f : Chosen → Chosen) (xs : List Chosen) → map f xs ≡ [] → xs ≡ []
none_moved f [] e = refl
none_moved f (x ∷ xs) e = absurd cc

-- ---- a router's own rows

-- a prefix of no network of a router
no_network : (routers : List ConfigView) (router : ℕ) (q : Cidr) → (In q (map (λ n. n.prefix) (networks_at routers router)) → ⊥) → network_at routers router q ≡ None
no_network routers router q out = on (process_of routers router) out
  where
    by : (networks : List NetworkStatement) → (In q (map (λ n. n.prefix) networks) → ⊥) → (o : Option ℕ) → position (λ n. same_prefix n.prefix q) networks ≡ o → o ≡ None
    by networks none None e = refl
    by networks none (Some k) e =
        let d : NetworkStatement = record { prefix = q; element = 0 } in
        let there = position-Some (λ (n : NetworkStatement). same_prefix n.prefix q) networks k d e in
        let n = get_or networks k d in
        let here : In n.prefix (map (λ n. n.prefix) networks) = in_map (λ (m : NetworkStatement). m.prefix) networks n (in_at networks k d there.0) in
        absurd (none (subst (λ (p : Cidr). In p (map (λ n. n.prefix) networks)) (same_prefix_is n.prefix q there.1) here))

    on : (o : Option ProcessView) → (In q (map (λ n. n.prefix) (option_map_or (λ (p : ProcessView). p.networks) o [])) → ⊥) → option_and_then (λ (p : ProcessView). position (λ n. same_prefix n.prefix q) p.networks) o ≡ None
    on None none = refl
    on (Some p) none = by p.networks none (position (λ n. same_prefix n.prefix q) p.networks) refl

module _ (routers : List ConfigView) (l : Likeness) (table : List (List BgpRowView)) (router : ℕ) where
  -- what is made of each is as what is chosen of it
  pub made_choices : (qs : List Cidr) (css : List (List Chosen)) → length css ≡ length qs → AreMade routers l table router qs css → AreChoices qs css
  made_choices qs css count made = record {
    count = count;
    few = λ k d lt.
        let there = slice_get-get_or css k d lt in
        let within : k < length qs = omega (arith, count, lt) in
        (made k (get_or qs k (record { base = 0; len = 0 })) (get_or css k d) (slice_get-get_or qs k (record { base = 0; len = 0 }) within) there).few;
    own = λ k p cs at there. (made k p cs at there).own;
  }

  -- one more is made
  pub push_made : (qs : List Cidr) (css : List (List Chosen)) (q : Cidr) (cs : List Chosen) → length css ≡ length qs → AreMade routers l table router qs css → IsMade routers l table router q cs → AreMade routers l table router (qs ++ q ∷ []) (css ++ cs ∷ [])
  push_made [] [] q cs count are is zero r made at there =
      let same : q ≡ r = cc in
      let chosen : cs ≡ made = cc in
      subst (λ (p : Cidr). IsMade routers l table router p made) same (subst (IsMade routers l table router q) chosen is)
  push_made [] [] q cs count are is (suc k) r made at there = absurd cc
  push_made [] (d ∷ css) q cs count are is k r made at there = absurd (omega arith)
  push_made (p ∷ qs) [] q cs count are is k r made at there = absurd (omega arith)
  push_made (p ∷ qs) (d ∷ css) q cs count are is zero r made at there = are zero r made at there
  push_made (p ∷ qs) (d ∷ css) q cs count are is (suc k) r made at there = push_made qs css q cs (omega arith) (λ j. are (suc j)) is k r made at there

  module _ (qs : List Cidr) (css : List (List Chosen)) (up : Ascend qs) (count : length css ≡ length qs) (made : AreMade routers l table router qs css) (are : qs ≡ in_order prefix_cmp (distinct (map (λ n. n.prefix) (networks_at routers router)))) where
    abbrev rows : List BgpRowView
    rows = rows_by qs css

    abbrev standing_at : Cidr → List Chosen
    standing_at p = chosen_at table router p

    -- of a prefix that it has a network of
    of_own : (q p : Cidr) → IsStandingFor l q p → (k : ℕ) → slice_get qs k ≡ Some q → map (with_prefix q) (chosen_or rows q (standing_at p)) ≡ map (moved q (network_at routers router q)) (standing_at p)
    of_own q p stands k at = on (get_or css k []) refl
      where
        within : k < length css
        within = omega (arith, slice_get_within qs k q at, count)

        here : chosen_in rows q ≡ get_or css k []
        here = at_number qs css k q up count at

        on : (cs : List Chosen) → get_or css k [] ≡ cs → map (with_prefix q) (chosen_or rows q (standing_at p)) ≡ map (moved q (network_at routers router q)) (standing_at p)
        on [] e =
            let it = made k q [] at (slice_get-get_or css k [] within ∙ ap Some e) in
            let none : standing_at p ≡ [] = none_moved (moved q (network_at routers router q)) (standing_at p) (sym (it.moved p stands)) in
            ap (map (with_prefix q)) (or_others rows (some_by qs css) q (standing_at p) (here ∙ e) ∙ none) ∙ it.moved p stands
        on (x ∷ xs) e =
            let it = made k q (x ∷ xs) at (slice_get-get_or css k [] within ∙ ap Some e) in
            ap (map (with_prefix q)) (or_found rows (some_by qs css) q (standing_at p) x xs (here ∙ e)) ∙ own_same q (x ∷ xs) it.own ∙ it.moved p stands

    -- of another one
    of_another : (q p : Cidr) → (In q qs → ⊥) → map (with_prefix q) (chosen_or rows q (standing_at p)) ≡ map (moved q (network_at routers router q)) (standing_at p)
    of_another q p out =
        let none = no_network routers router q (λ i. out (subst (λ (ps : List Cidr). In q ps) (sym are) (in_ordered (map (λ n. n.prefix) (networks_at routers router)) q i))) in
        ap (map (with_prefix q)) (or_others rows (some_by qs css) q (standing_at p) (nowhere qs css q out))
        ∙ moved_nowhere q (standing_at p)
        ∙ ap (λ (o : Option ℕ). map (moved q o) (standing_at p)) (sym none)

    pub own_are : AreOwnRows routers l table router rows
    own_are q p stands = on (among same_prefix same_prefix_is same_itself q qs)
      where
        on : In q qs ⊎ (In q qs → ⊥) → map (with_prefix q) (chosen_or rows q (standing_at p)) ≡ map (moved q (network_at routers router q)) (standing_at p)
        on (inl i) =
            let c = contains_by_in qs q i in
            of_own q p stands c.0 (slice_get-get_or qs c.0 q c.1 ∙ ap Some c.2)
        on (inr out) = of_another q p out

-- ---- all routers

module _ (routers : List ConfigView) (l : Likeness) (table : List (List BgpRowView)) where
  -- one router more
  pub more_own : (router : ℕ) (before after : List (List BgpRowView)) (rows : List BgpRowView) → length before ≡ router → after ≡ before ++ rows ∷ [] → AreOwnRows routers l table router rows
      → ((r : ℕ) → r < length before → AreOwnRows routers l table r (get_or before r [])) → (r : ℕ) → r < length after → AreOwnRows routers l table r (get_or after r [])
  more_own router before after rows count longer here earlier r lt = elim (cases_lt r (length before)) [
    | inl less ↦ subst (AreOwnRows routers l table r) (sym (ap (λ (full : List (List BgpRowView)). get_or full r []) longer ∙ get_or_append_left before (rows ∷ []) [] r less)) (earlier r less)
    | inr past ↦
        let bound : length after ≡ length before + 1 = ap (length {A = List BgpRowView}) longer ∙ length-append before (rows ∷ []) in
        let last : r ≡ length before = omega (arith, bound, lt, past) in
        let same : router ≡ r = sym count ∙ sym last in
        subst (λ (k : ℕ). AreOwnRows routers l table k (get_or after k [])) same (subst (AreOwnRows routers l table router) (sym (ap (λ (full : List (List BgpRowView)). get_or full router []) longer ∙ get_or_at before rows [] [] router count)) here)
  ]

  -- nothing is chosen by routers that aren't there
  pub past_table : (full : List (List BgpRowView)) (r : ℕ) (p : Cidr) → length full ≤ r → chosen_at full r p ≡ []
  past_table full r p past = ap (λ (rows : List BgpRowView). chosen_in rows p) (get_or_past full r [] past)

  pub is_expansion : (full own : List (List BgpRowView)) → length full ≡ length table → ((r : ℕ) → r < length table → AreOwnRows routers l table r (get_or own r []))
      → ((r k place : ℕ) (q p : Cidr) → slice_get l.all.items k ≡ Some q → slice_get l.places.items k ≡ Some place → slice_get l.standing.items place ≡ Some p → chosen_at full r q ≡ map (with_prefix q) (chosen_or (get_or own r []) q (chosen_at table r p)))
      → ((r : ℕ) (q : Cidr) → (Contains l.all.items q → ⊥) → chosen_at full r q ≡ []) → IsExpansion routers l table full
  is_expansion full own count each spread out = record {
    count = count;
    moved = λ r q p s. elim (cases_lt r (length table)) [
      | inl lt ↦ spread r s.number s.place q p s.here s.known s.there ∙ each r lt q p s
      | inr past ↦ past_table full r q (subst (λ (n : ℕ). n ≤ r) (sym count) past) ∙ sym (ap (map (moved q (network_at routers r q))) (past_table table r p past))
    ];
    others = out;
  }
