-- What is chosen of each of some prefixes in order, and the rows that come of it.
use Rattle.std.proofs.Common.{◌≡◌, ℕ, zero, suc, ◌+◌, ◌<◌, ◌≤◌, ◌==◌, ◌&&◌, Bool, true, false, cond, List, Vec, Global, [], ◌∷◌, ◌++◌, length, map, get_or, set, All, Contains, Some, slice_get, refl, sym, ap, subst, ◌∙◌, nat_lt, arith, inl, inr, ◌⊎◌}
use Rattle.std.specs.List.Sorted.{IsNonDecreasingBy, IsPartitionPoint}
use Rattle.std.specs.Ordering.{is_le, is_lt, is_gt, ordering_index, ordering_reverse}
use Rattle.std.proofs.lemmas.List.Sorted.{searchable_from_sorted}
use Rattle.std.proofs.lemmas.Bool.{cases_lt, eqb-true, and_parts, and_from, lt-ltb}
use Rattle.std.proofs.lemmas.Option.{get_or_from_slice_get, slice_get_within, same_Some}
use Rattle.std.proofs.lemmas.List.{length-set}
use Rattle.std.proofs.lemmas.List.Elements.{All-nil, All-head, All-tail, All-set}
use Rattle.std.specs.declared.cmp.Ordering.TheVariants.{Less, Equal, Greater}
use Rattle.std.proofs.lemmas.Cmp.{tied_itself}
use Rattle.nc_types.specs.declared.TheConstants.{MULTIPATH_LIMIT}
use Rattle.nc_types.specs.Cidr.{Cidr, IsCidr}
use Rattle.nc_types.proofs.Members.{In, in_by_get, all_in, some_passes, passes_some}
use Rattle.nc_types.proofs.Sameness.{same_prefix_is}
use Rattle.nc_tables.specs.declared.bgp.Chosen.{Chosen}
use Rattle.nc_tables.specs.Base.{prefix_cmp, same_prefix}
use Rattle.nc_tables.specs.LocRibs.{row_before, rows_by, Ascend, AreChoices}
use Rattle.nc_tables.specs.Rounds.{BgpRowView, chosen_in, chosen_at, has_longer, is_longer_in, AreBgpRows}
use Rattle.nc_tables.proofs.ByPrefix.{less_differs, same_itself, pairs_head, pairs_tail}
use Rattle.nc_tables.proofs.InOrder.{Up, HaveSome, AreAbove, none_above, past_head, found_before, all_before, up_before}
use Rattle.nc_tables.proofs.SideBySide.{prefix_total}
use Rattle.nc_tables.proofs.LongerIn.{longer_behind, between}
use Rattle.nc_tables.proofs.TableEdits.{set_at}

abbrev IsBelow : Cidr → Cidr → Type 0
IsBelow p q = prefix_cmp p q ≡ Less

-- they don't fall
pub ascend_rises : (ps : List Cidr) → Ascend ps → (i j : ℕ) (d : Cidr) → i ≤ j → j < length ps → is_gt (prefix_cmp (get_or ps i d) (get_or ps j d)) ≡ false
ascend_rises ps up i j d le lt = elim (cases_lt i j) [
  | inl less ↦ ap is_gt (up i j d less lt)
  | inr ge ↦
      let same : i ≡ j = omega arith in
      subst (λ (k : ℕ). is_gt (prefix_cmp (get_or ps i d) (get_or ps k d)) ≡ false) same (ap is_gt (tied_itself prefix_total (get_or ps i d)))
]

-- a prefix that parts them isn't among them
pub not_among : (ps : List Cidr) (q : Cidr) (i : ℕ) → IsPartitionPoint (λ (p : Cidr). prefix_cmp p q ≡ Less) (λ (p : Cidr). prefix_cmp p q ≡ Greater) ps i → Contains ps q → ⊥
not_among ps q i parted some = on (cases_lt some.0 i)
  where
    equal : prefix_cmp (get_or ps some.0 q) q ≡ Equal
    equal = ap (λ (p : Cidr). prefix_cmp p q) some.2 ∙ tied_itself prefix_total q

    on : (some.0 < i) ⊎ (i ≤ some.0) → ⊥
    on (inl before) = let apart : Less ≡ Equal = sym (parted.0 some.0 q (omega arith) before) ∙ equal in absurd cc
    on (inr behind) = let apart : Greater ≡ Equal = sym (parted.1 some.0 q behind some.1) ∙ equal in absurd cc

-- so one can be searched
pub searchable : (ps : List Cidr) (q : Cidr) → Ascend ps → IsNonDecreasingBy (λ (p : Cidr). ordering_index (prefix_cmp p q)) ps
searchable ps q up =
    searchable_from_sorted prefix_total (λ (p : Cidr). p) ps q
    (λ k d lo hi. ap is_lt (prefix_total.antisymm (get_or ps (k + 1) d) (get_or ps k d) ∙ ap ordering_reverse (up k (k + 1) d (omega arith) hi)))

-- what holds of each prefix with what is chosen of it holds of each row
pub all_by : (P : BgpRowView → Type 0) (ps : List Cidr) (css : List (List Chosen))
    → ((k : ℕ) (p : Cidr) (cs : List Chosen) → slice_get ps k ≡ Some p → slice_get css k ≡ Some cs → 0 < length cs → P (record { prefix = p; chosen = cs })) → All P (rows_by ps css)
all_by P [] css each = All-nil P
all_by P (p ∷ ps) [] each = All-nil P
all_by P (p ∷ ps) (cs ∷ css) each = all_before p cs P (each zero p cs refl refl) (rows_by ps css) (all_by P ps css (λ k. each (suc k)))

above_by : (p : Cidr) (ps : List Cidr) (css : List (List Chosen)) → All (IsBelow p) ps → AreAbove p (rows_by ps css)
above_by p ps css above = all_by (λ row. prefix_cmp p row.prefix ≡ Less) ps css (λ k q cs at there some. all_in (IsBelow p) ps above q (in_by_get ps k q at))

pub up_by : (ps : List Cidr) (css : List (List Chosen)) → Ascend ps → Up (rows_by ps css)
up_by [] css up = λ i j d less lt. absurd (omega arith)
up_by (p ∷ ps) [] up = λ i j d less lt. absurd (omega arith)
up_by (p ∷ ps) (cs ∷ css) up = up_before p cs (rows_by ps css) (above_by p ps css (pairs_head IsBelow p ps up)) (up_by ps css (pairs_tail IsBelow p ps up))

pub some_by : (ps : List Cidr) (css : List (List Chosen)) → HaveSome (rows_by ps css)
some_by ps css = all_by (λ row. 0 < length row.chosen) ps css (λ k p cs at there some. some)

-- the rows are those of a router
pub rows_valid : (ps : List Cidr) (css : List (List Chosen)) → Ascend ps → AreChoices ps css → All (λ p. IsCidr p.base p.len) ps → AreBgpRows (rows_by ps css)
rows_valid ps css up are valid = record {
  ordered = up_by ps css up;
  valid = all_by (λ row. IsCidr row.prefix.base row.prefix.len) ps css (λ k p cs at there some. all_in (λ p. IsCidr p.base p.len) ps valid p (in_by_get ps k p at));
  some = some_by ps css;
  few = all_by (λ row. length row.chosen ≤ MULTIPATH_LIMIT) ps css (λ k p cs at there some. all_in (λ cs. length cs ≤ MULTIPATH_LIMIT) css are.few cs (in_by_get css k cs there));
  own = all_by (λ row. All (λ x. x.route.prefix ≡ row.prefix) row.chosen) ps css (λ k p cs at there some. are.own k p cs at there);
}

-- ---- what is found

-- of the first prefix, and of others
pub found_by : (p : Cidr) (ps : List Cidr) (cs : List Chosen) (css : List (List Chosen)) → Ascend (p ∷ ps) → (q : Cidr) → chosen_in (rows_by (p ∷ ps) (cs ∷ css)) q ≡ cond (same_prefix p q) cs (chosen_in (rows_by ps css) q)
found_by p ps cs css up q =
    found_before p cs (rows_by ps css) q (λ same. none_above q (rows_by ps css) (subst (λ (r : Cidr). AreAbove r (rows_by ps css)) (same_prefix_is p q same) (above_by p ps css (pairs_head IsBelow p ps up))))

later_differs : (p : Cidr) (ps : List Cidr) (k : ℕ) (q : Cidr) → Ascend (p ∷ ps) → slice_get ps k ≡ Some q → prefix_cmp p q ≡ Less
later_differs p ps k q up at = all_in (IsBelow p) ps (pairs_head IsBelow p ps up) q (in_by_get ps k q at)

-- by its number
pub at_number : (ps : List Cidr) (css : List (List Chosen)) (k : ℕ) (q : Cidr) → Ascend ps → length css ≡ length ps → slice_get ps k ≡ Some q → chosen_in (rows_by ps css) q ≡ get_or css k []
at_number [] css k q up count at = absurd cc
at_number (p ∷ ps) [] k q up count at = absurd (omega arith)
at_number (p ∷ ps) (cs ∷ css) zero q up count at =
    let same : p ≡ q = cc in
    found_by p ps cs css up q ∙ ap (λ (b : Bool). cond b cs (chosen_in (rows_by ps css) q)) (ap (λ (r : Cidr). same_prefix r q) same ∙ same_itself q)
at_number (p ∷ ps) (cs ∷ css) (suc k) q up count at =
    found_by p ps cs css up q
    ∙ ap (λ (b : Bool). cond b cs (chosen_in (rows_by ps css) q)) (less_differs p q (later_differs p ps k q up at))
    ∙ at_number ps css k q (pairs_tail IsBelow p ps up) (omega arith) at

-- after a choice is set
pub after_set : (ps : List Cidr) (css : List (List Chosen)) (k : ℕ) (p : Cidr) (new : List Chosen) → Ascend ps → length css ≡ length ps → slice_get ps k ≡ Some p → (q : Cidr)
    → chosen_in (rows_by ps (set css k new)) q ≡ cond (same_prefix p q) new (chosen_in (rows_by ps css) q)
after_set [] css k p new up count at q = absurd cc
after_set (x ∷ ps) [] k p new up count at q = absurd (omega arith)
after_set (x ∷ ps) (cs ∷ css) zero p new up count at q =
    let same : x ≡ p = cc in
    found_by x ps new css up q
    ∙ ap (λ (b : Bool). cond b new (chosen_in (rows_by ps css) q)) (ap (λ (r : Cidr). same_prefix r q) same)
    ∙ sym (ap (cond (same_prefix p q) new) (found_by x ps cs css up q ∙ ap (λ (b : Bool). cond b cs (chosen_in (rows_by ps css) q)) (ap (λ (r : Cidr). same_prefix r q) same)) ∙ on (same_prefix p q))
  where
    on : (b : Bool) → cond b new (cond b cs (chosen_in (rows_by ps css) q)) ≡ cond b new (chosen_in (rows_by ps css) q)
    on true = refl
    on false = refl
after_set (x ∷ ps) (cs ∷ css) (suc k) p new up count at q =
    found_by x ps cs (set css k new) up q
    ∙ ap (cond (same_prefix x q) cs) (after_set ps css k p new (pairs_tail IsBelow x ps up) (omega arith) at q)
    ∙ on (same_prefix x q) refl (same_prefix p q) refl
    ∙ ap (cond (same_prefix p q) new) (sym (found_by x ps cs css up q))
  where
    on : (b : Bool) → same_prefix x q ≡ b → (a : Bool) → same_prefix p q ≡ a → cond b cs (cond a new (chosen_in (rows_by ps css) q)) ≡ cond a new (cond b cs (chosen_in (rows_by ps css) q))
    on true e true f =
        let is : p ≡ x = same_prefix_is p q f ∙ sym (same_prefix_is x q e) in
        let differs : same_prefix x p ≡ false = less_differs x p (later_differs x ps k p up at) in
        let same : same_prefix x p ≡ true = ap (same_prefix x) is ∙ same_itself x in
        absurd cc
    on true e false f = refl
    on false e true f = refl
    on false e false f = refl

-- the choices are kept
own_set : (ps : List Cidr) (css : List (List Chosen)) (k : ℕ) (p : Cidr) (new : List Chosen) → slice_get ps k ≡ Some p → All (λ x. x.route.prefix ≡ p) new
    → ((j : ℕ) (q : Cidr) (cs : List Chosen) → slice_get ps j ≡ Some q → slice_get css j ≡ Some cs → All (λ x. x.route.prefix ≡ q) cs)
    → (j : ℕ) (q : Cidr) (cs : List Chosen) → slice_get ps j ≡ Some q → slice_get (set css k new) j ≡ Some cs → All (λ x. x.route.prefix ≡ q) cs
own_set [] css k p new at own each j q cs is there = absurd cc
own_set (x ∷ ps) [] k p new at own each j q cs is there = absurd cc
own_set (x ∷ ps) (c ∷ css) zero p new at own each zero q cs is there =
    let same : p ≡ q = cc in
    let chosen : new ≡ cs = cc in
    subst (λ (l : List Chosen). All (λ x. x.route.prefix ≡ q) l) chosen (subst (λ (r : Cidr). All (λ x. x.route.prefix ≡ r) new) same own)
own_set (x ∷ ps) (c ∷ css) zero p new at own each (suc j) q cs is there = each (suc j) q cs is there
own_set (x ∷ ps) (c ∷ css) (suc k) p new at own each zero q cs is there = each zero q cs is there
own_set (x ∷ ps) (c ∷ css) (suc k) p new at own each (suc j) q cs is there = own_set ps css k p new at own (λ i. each (suc i)) j q cs is there

pub choices_set : (ps : List Cidr) (css : List (List Chosen)) (k : ℕ) (p : Cidr) (new : List Chosen) → slice_get ps k ≡ Some p → length new ≤ MULTIPATH_LIMIT → All (λ x. x.route.prefix ≡ p) new → AreChoices ps css
    → AreChoices ps (set css k new)
choices_set ps css k p new at few own are = record {
  count = length-set css k new ∙ are.count;
  few = All-set (λ cs. length cs ≤ MULTIPATH_LIMIT) css k new few are.few;
  own = own_set ps css k p new at own are.own;
}

-- ---- where nothing is chosen

pub none_by : (ps : List Cidr) (css : List (List Chosen)) → All (λ cs. cs ≡ []) css → rows_by ps css ≡ []
none_by [] css none = refl
none_by (p ∷ ps) [] none = refl
none_by (p ∷ ps) (cs ∷ css) none =
    ap (λ (l : List Chosen). row_before p l (rows_by ps css)) (All-head (λ (l : List Chosen). l ≡ []) cs css none) ∙ none_by ps css (All-tail (λ (l : List Chosen). l ≡ []) cs css none)

pub no_choices : (ps : List Cidr) (css : List (List Chosen)) → length css ≡ length ps → All (λ cs. cs ≡ []) css → AreChoices ps css
no_choices ps css count none = record {
  count = count;
  few = λ k d lt. let no : length (get_or css k d) ≡ 0 = ap length (none k d lt) in omega arith;
  own = λ k p cs at there. subst (λ (l : List Chosen). All (λ x. x.route.prefix ≡ p) l) (sym (all_in (λ (l : List Chosen). l ≡ []) css none cs (in_by_get css k cs there))) (All-nil (λ x. x.route.prefix ≡ p));
}

-- a prefix that isn't among them has no row
pub nowhere : (ps : List Cidr) (css : List (List Chosen)) (q : Cidr) → (In q ps → ⊥) → chosen_in (rows_by ps css) q ≡ []
nowhere [] css q out = refl
nowhere (p ∷ ps) [] q out = refl
nowhere (p ∷ ps) (cs ∷ css) q out = on cs (nowhere ps css q (λ i. out (inr i)))
  where
    other : (b : Bool) → same_prefix p q ≡ b → same_prefix p q ≡ false
    other true same = absurd (out (inl (same_prefix_is p q same)))
    other false e = e

    on : (l : List Chosen) → chosen_in (rows_by ps css) q ≡ [] → chosen_in (row_before p l (rows_by ps css)) q ≡ []
    on [] rest = rest
    on (x ∷ xs) rest = past_head (record { prefix = p; chosen = x ∷ xs }) (rows_by ps css) q (other (same_prefix p q) refl) ∙ rest

-- ---- rows made one by one

pub joined : (p : Cidr) (cs : List Chosen) (rows : List BgpRowView) → row_before p cs rows ≡ row_before p cs [] ++ rows
joined p [] rows = refl
joined p (x ∷ xs) rows = refl

-- ---- longer prefixes inside another

pub in_rows : (ps : List Cidr) (css : List (List Chosen)) (k : ℕ) (p : Cidr) (cs : List Chosen) → slice_get ps k ≡ Some p → slice_get css k ≡ Some cs → 0 < length cs → In (record { prefix = p; chosen = cs }) (rows_by ps css)
in_rows [] css k p cs at there some = absurd cc
in_rows (x ∷ ps) [] k p cs at there some = absurd cc
in_rows (x ∷ ps) (c ∷ css) zero p cs at there some =
    let same : x ≡ p = cc in
    let chosen : c ≡ cs = cc in
    subst (λ (r : Cidr). In (record { prefix = p; chosen = cs }) (row_before r c (rows_by ps css))) (sym same)
    (subst (λ (l : List Chosen). In (record { prefix = p; chosen = cs }) (row_before p l (rows_by ps css))) (sym chosen) (on cs some))
  where
    on : (l : List Chosen) → 0 < length l → In (record { prefix = p; chosen = l }) (row_before p l (rows_by ps css))
    on [] lt = absurd (omega arith)
    on (y ∷ ys) lt = inl refl
in_rows (x ∷ ps) (c ∷ css) (suc k) p cs at there some = on c (in_rows ps css k p cs at there some)
  where
    on : (l : List Chosen) → In (record { prefix = p; chosen = cs }) (rows_by ps css) → In (record { prefix = p; chosen = cs }) (row_before x l (rows_by ps css))
    on [] i = i
    on (y ∷ ys) i = inr i

module _ (ps : List Cidr) (css : List (List Chosen)) (outer : Cidr) where
  abbrev passes : BgpRowView → Bool
  passes row = is_longer_in row.prefix outer && nat_lt 0 (length row.chosen)

  pub one_longer : (k : ℕ) (p : Cidr) (cs : List Chosen) → slice_get ps k ≡ Some p → slice_get css k ≡ Some cs → 0 < length cs → is_longer_in p outer ≡ true → has_longer (rows_by ps css) outer ≡ true
  one_longer k p cs at there some inside =
      passes_some passes (rows_by ps css) (record { prefix = p; chosen = cs }) (in_rows ps css k p cs at there some) (and_from (is_longer_in p outer) (nat_lt 0 (length cs)) inside (lt-ltb 0 (length cs) some))

  abbrev IsOutside : BgpRowView → Type 0
  IsOutside row = is_longer_in row.prefix outer ≡ true → ⊥

  pub none_longer : ((k : ℕ) (p : Cidr) (cs : List Chosen) → slice_get ps k ≡ Some p → slice_get css k ≡ Some cs → 0 < length cs → is_longer_in p outer ≡ true → ⊥) → has_longer (rows_by ps css) outer ≡ false
  none_longer none = on (has_longer (rows_by ps css) outer) refl
    where
      on : (b : Bool) → has_longer (rows_by ps css) outer ≡ b → has_longer (rows_by ps css) outer ≡ false
      on true e =
          let found = some_passes passes (rows_by ps css) e in
          let parts = and_parts (is_longer_in found.0.prefix outer) (nat_lt 0 (length found.0.chosen)) found.2 in
          absurd (all_in IsOutside (rows_by ps css) (all_by IsOutside ps css none) found.0 found.1 parts.0)
      on false e = e

  module _ (up : Ascend ps) (valid : IsCidr outer.base outer.len) (first : ℕ) (point : IsPartitionPoint (λ (p : Cidr). is_le (prefix_cmp p outer) ≡ true) (λ (p : Cidr). is_le (prefix_cmp p outer) ≡ false) ps first) where
    -- one inside stands from the first place on
    past : (k : ℕ) (p : Cidr) → slice_get ps k ≡ Some p → is_longer_in p outer ≡ true → first ≤ k
    past k p at inside = elim (cases_lt k first) [
      | inl before ↦
          let is : get_or ps k p ≡ p = get_or_from_slice_get ps k p p at in
          let upto : is_le (prefix_cmp p outer) ≡ true = ap (λ (q : Cidr). is_le (prefix_cmp q outer)) (sym is) ∙ point.0 k p (omega arith) before in
          let behind : is_le (prefix_cmp p outer) ≡ false = longer_behind outer valid p inside in
          absurd cc
      | inr after ↦ after
    ]

    -- behind one that isn't inside there is none
    pub beyond : (number : ℕ) (f : Cidr) → slice_get ps number ≡ Some f → first ≤ number → IsCidr f.base f.len → is_longer_in f outer ≡ false → (k : ℕ) (p : Cidr) → number ≤ k → slice_get ps k ≡ Some p → is_longer_in p outer ≡ true → ⊥
    beyond number f at le valid_f outside k p later there inside = on (cases_lt number k)
      where
        f_is : get_or ps number f ≡ f
        f_is = get_or_from_slice_get ps number f f at

        clash : is_gt (prefix_cmp f p) ≡ false → ⊥
        clash rising =
            let behind : is_le (prefix_cmp f outer) ≡ false = ap (λ (q : Cidr). is_le (prefix_cmp q outer)) (sym f_is) ∙ point.1 number f le (slice_get_within ps number f at) in
            let longer : is_longer_in f outer ≡ true = between outer valid f p valid_f behind rising inside in
            absurd cc

        on : (number < k) ⊎ (k ≤ number) → ⊥
        on (inl lt) =
            let p_is : get_or ps k f ≡ p = get_or_from_slice_get ps k p f there in
            let less : prefix_cmp f p ≡ Less = subst (λ (q : Cidr). prefix_cmp f q ≡ Less) p_is (subst (λ (q : Cidr). prefix_cmp q (get_or ps k f) ≡ Less) f_is (up number k f lt (slice_get_within ps k p there))) in
            clash (ap is_gt less)
        on (inr le_k) =
            let same_place : k ≡ number = omega arith in
            let same : f ≡ p = same_Some f p (sym at ∙ ap (slice_get ps) (sym same_place) ∙ there) in
            let longer : is_longer_in f outer ≡ true = ap (λ (q : Cidr). is_longer_in q outer) same ∙ inside in
            absurd cc

    -- nothing is chosen of those before a place, and none inside stands from there on
    pub none_upto : (upto : ℕ) → ((k : ℕ) (cs : List Chosen) → first ≤ k → k < upto → slice_get css k ≡ Some cs → length cs ≡ 0) → ((k : ℕ) (p : Cidr) → upto ≤ k → slice_get ps k ≡ Some p → is_longer_in p outer ≡ true → ⊥)
        → has_longer (rows_by ps css) outer ≡ false
    none_upto upto empty none = none_longer (λ k p cs at there some inside. elim (cases_lt k upto) [
      | inl lt ↦ let no : length cs ≡ 0 = empty k cs (past k p at inside) lt there in absurd (omega arith)
      | inr le ↦ none k p le at inside
    ])

-- ---- the choices of one router are set

pub chosen_after : {A : Type 0} (f : A → List BgpRowView) (xs : List A) (i : ℕ) (y : A) (p : Cidr) (cs : List Chosen) → i < length xs → ((q : Cidr) → chosen_in (f y) q ≡ cond (same_prefix p q) cs (chosen_in (get_or (map f xs) i []) q))
    → (r : ℕ) (q : Cidr) → chosen_at (map f (set xs i y)) r q ≡ cond ((r == i) && same_prefix p q) cs (chosen_at (map f xs) r q)
chosen_after f xs i y p cs lt is r q = ap (λ (l : List BgpRowView). chosen_in l q) (set_at f xs i y r lt) ∙ on (r == i) refl
  where
    on : (b : Bool) → (r == i) ≡ b → chosen_in (cond b (f y) (get_or (map f xs) r [])) q ≡ cond (b && same_prefix p q) cs (chosen_at (map f xs) r q)
    on true here = is q ∙ ap (λ (k : ℕ). cond (same_prefix p q) cs (chosen_at (map f xs) k q)) (sym (eqb-true r i here))
    on false other = refl

-- ---- the choices of each router, in memory

module _ (ps : List Cidr) where
  abbrev pub seen : Vec (List Chosen) Global → List BgpRowView
  seen choices = rows_by ps choices.items

  -- those of the router that a call gave
  pub router_are : (tables : List (Vec (List Chosen) Global)) (router : ℕ) (read : List (List Chosen)) → router < length tables → read ≡ get_or (map (λ t. t.items) tables) router [] → All (λ t. AreChoices ps t.items) tables
      → AreChoices ps read
  router_are [] router read lt is each = absurd (omega arith)
  router_are (t ∷ ts) zero read lt is each = subst (AreChoices ps) (sym is) (All-head (λ t. AreChoices ps t.items) t ts each)
  router_are (t ∷ ts) (suc router) read lt is each = router_are ts router read (omega arith) is (All-tail (λ t. AreChoices ps t.items) t ts each)

  pub router_seen : (tables : List (Vec (List Chosen) Global)) (router : ℕ) (read : List (List Chosen)) → router < length tables → read ≡ get_or (map (λ t. t.items) tables) router []
      → rows_by ps read ≡ get_or (map seen tables) router []
  router_seen [] router read lt is = absurd (omega arith)
  router_seen (t ∷ ts) zero read lt is = ap (rows_by ps) is
  router_seen (t ∷ ts) (suc router) read lt is = router_seen ts router read (omega arith) is
