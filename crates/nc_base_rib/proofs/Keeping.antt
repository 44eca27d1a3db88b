-- Going over rows in order of prefix and distance: the row that was kept last says whether the next one is kept.
use Rattle.std.proofs.Common.{◌≡◌, ℕ, ◌+◌, ◌-◌, ◌<◌, ◌≤◌, Bool, true, false, not, ◌&&◌, ◌==◌, ◌++◌, ◌∷◌, [], cond, filter, take, nat_lt, List, length, get_or, append-nil, refl, sym, ap, subst, ◌∙◌, arith, inl, inr, Option, Some, None}
use Rattle.std.specs.List.{list_any}
use Rattle.std.specs.List.Sorted.{IsSorted}
use Rattle.std.specs.Option.{option_map_or}
use Rattle.std.specs.Ordering.{ordering_then, nat_cmp, is_lt}
use Rattle.std.proofs.lemmas.Bool.{cases_lt}
use Rattle.std.proofs.lemmas.Bool.Decides.{nat_tests}
use Rattle.std.proofs.lemmas.List.{get_or_default}
use Rattle.std.proofs.lemmas.List.Elements.{filter_more}
use Rattle.std.proofs.lemmas.List.Folds.{list_any_at, list_any_none}
use Rattle.std.proofs.lemmas.List.Sorted.{sorted_far, ranks_by}
use Rattle.nc_tables.specs.declared.base.BaseRow.{BaseRow}
use Rattle.nc_tables.specs.Base.{same_prefix, is_nearest}
use Rattle.nc_base_rib.specs.declared.nearest.Key.{Key}
use Rattle.nc_base_rib.specs.Nearness.{distance_cmp}
use Rattle.nc_base_rib.proofs.Distances.{beats, is_less, distance_total}

-- ---- numbers

abbrev dist : ℕ → ℕ → ℕ → ℕ → ℕ → ℕ → Bool
dist bb bl bd ab al ad = is_lt (ordering_then (nat_cmp bb ab) (ordering_then (nat_cmp bl al) (nat_cmp bd ad)))

abbrev over : ℕ → ℕ → ℕ → ℕ → ℕ → ℕ → Bool
over ab al ad bb bl bd = ((ab == bb) && (al == bl)) && nat_lt ad bd

base_up : (ab al ad bb bl bd : ℕ) → dist bb bl bd ab al ad ≡ false → ab ≤ bb
base_up ab al ad bb bl bd e = grind (arith, nat_tests)

len_up : (ab al ad bb bl bd : ℕ) → dist bb bl bd ab al ad ≡ false → ab ≡ bb → al ≤ bl
len_up ab al ad bb bl bd e same = grind (arith, nat_tests)

distance_up : (ab al ad bb bl bd : ℕ) → dist bb bl bd ab al ad ≡ false → over bb bl bd ab al ad ≡ false
distance_up ab al ad bb bl bd e = grind (arith, nat_tests)

over_base : (ab al ad bb bl bd : ℕ) → over ab al ad bb bl bd ≡ true → ab ≡ bb
over_base ab al ad bb bl bd e = grind (arith, nat_tests)

over_len : (ab al ad bb bl bd : ℕ) → over ab al ad bb bl bd ≡ true → al ≡ bl
over_len ab al ad bb bl bd e = grind (arith, nat_tests)

over_distance : (ab al ad bb bl bd : ℕ) → over ab al ad bb bl bd ≡ true → ad < bd
over_distance ab al ad bb bl bd e = grind (arith, nat_tests)

not_over : (ab al ad bb bl bd : ℕ) → over ab al ad bb bl bd ≡ false → ab ≡ bb → al ≡ bl → bd ≤ ad
not_over ab al ad bb bl bd e f g = grind (arith, nat_tests)

same_base : (ab al bb bl : ℕ) → ((ab == bb) && (al == bl)) ≡ true → ab ≡ bb
same_base ab al bb bl e = grind (arith, nat_tests)

same_len : (ab al bb bl : ℕ) → ((ab == bb) && (al == bl)) ≡ true → al ≡ bl
same_len ab al bb bl e = grind (arith, nat_tests)

not_nearest : (b : Bool) → b ≡ true → not b ≡ false
not_nearest b e = ap not e

nearest : (b : Bool) → not b ≡ true → b ≡ false
nearest true e = absurd cc
nearest false e = refl

-- ---- the row that was kept last

abbrev pub key_of : BaseRow → Key
key_of row = record { addr = record { 0 = row.prefix.base }; len = row.prefix.len; distance = row.distance }

abbrev pub loses : Key → Option Key → Bool
loses key last = option_map_or (λ o. ((o.addr.0 == key.addr.0) && (o.len == key.len)) && nat_lt o.distance key.distance) last false

-- the key is that of a row before this place, which is nearest and has the prefix of the row just before the place
pub record IsOf (rows : List BaseRow) (k : ℕ) (key : Key) (i : ℕ) (d : BaseRow) : Type 0 where
  pub key_is : key ≡ key_of (get_or rows i d)
  pub nearest : is_nearest rows (get_or rows i d) ≡ true
  pub same : same_prefix (get_or rows i d).prefix (get_or rows (k - 1) d).prefix ≡ true

abbrev pub LastIs : List BaseRow → ℕ → Option Key → Type 0
LastIs rows k None = k ≡ 0
LastIs rows k (Some key) = (i : ℕ) × (i < k) × ((d : BaseRow) → IsOf rows k key i d)

module _ (rows : List BaseRow) (ordered : IsSorted distance_cmp rows) where
  up : (i j : ℕ) (d : BaseRow) → i ≤ j → j < length rows → is_less (get_or rows j d) (get_or rows i d) ≡ false
  up i j d le lt = sorted_far _ (ranks_by distance_total (λ (r : BaseRow). r)) rows ordered i j d le lt

  -- a row that loses isn't nearest
  pub lost : (k : ℕ) (d : BaseRow) (last : Option Key) → k < length rows → LastIs rows k last → loses (key_of (get_or rows k d)) last ≡ true → is_nearest rows (get_or rows k d) ≡ false
  lost k d None lt is e = absurd cc
  lost k d (Some key) lt is e =
      let at : is.0 < k = is.1 in
      let f : beats (get_or rows is.0 d) (get_or rows k d) ≡ true = subst (λ (o : Key). loses (key_of (get_or rows k d)) (Some o) ≡ true) (is.2 d).key_is e in
      not_nearest (list_any (λ other. beats other (get_or rows k d)) rows) (list_any_at (λ other. beats other (get_or rows k d)) rows is.0 d (omega arith) f)

  module _ (k : ℕ) (d : BaseRow) (lt : k < length rows) where
    later : (j : ℕ) → k ≤ j → j < length rows → beats (get_or rows j d) (get_or rows k d) ≡ false
    later j le within =
        let a = get_or rows j d in
        let y = get_or rows k d in
        distance_up y.prefix.base y.prefix.len y.distance a.prefix.base a.prefix.len a.distance (up k j d le within)

    earlier : (key : Key) (i : ℕ) → i < k → IsOf rows k key i d → loses (key_of (get_or rows k d)) (Some key) ≡ false → (j : ℕ) → j < k → (b : Bool) → beats (get_or rows j d) (get_or rows k d) ≡ b → beats (get_or rows j d) (get_or rows k d) ≡ false
    earlier key i before is e j less false f = f
    earlier key i before is e j less true f =
        let a = get_or rows j d in
        let m = get_or rows (k - 1) d in
        let r = get_or rows i d in
        let y = get_or rows k d in
        let e1 : a.prefix.base ≡ y.prefix.base = over_base a.prefix.base a.prefix.len a.distance y.prefix.base y.prefix.len y.distance f in
        let e2 : a.prefix.len ≡ y.prefix.len = over_len a.prefix.base a.prefix.len a.distance y.prefix.base y.prefix.len y.distance f in
        let e3 : a.distance < y.distance = over_distance a.prefix.base a.prefix.len a.distance y.prefix.base y.prefix.len y.distance f in
        let u1 = up j (k - 1) d (omega arith) (omega arith) in
        let u2 = up (k - 1) k d (omega arith) lt in
        let b1 : a.prefix.base ≤ m.prefix.base = base_up a.prefix.base a.prefix.len a.distance m.prefix.base m.prefix.len m.distance u1 in
        let b2 : m.prefix.base ≤ y.prefix.base = base_up m.prefix.base m.prefix.len m.distance y.prefix.base y.prefix.len y.distance u2 in
        let b3 : a.prefix.base ≡ m.prefix.base = omega arith in
        let b4 : m.prefix.base ≡ y.prefix.base = omega arith in
        let l1 : a.prefix.len ≤ m.prefix.len = len_up a.prefix.base a.prefix.len a.distance m.prefix.base m.prefix.len m.distance u1 b3 in
        let l2 : m.prefix.len ≤ y.prefix.len = len_up m.prefix.base m.prefix.len m.distance y.prefix.base y.prefix.len y.distance u2 b4 in
        let s1 : r.prefix.base ≡ m.prefix.base = same_base r.prefix.base r.prefix.len m.prefix.base m.prefix.len is.same in
        let s2 : r.prefix.len ≡ m.prefix.len = same_len r.prefix.base r.prefix.len m.prefix.base m.prefix.len is.same in
        let g : beats r y ≡ false = subst (λ (o : Key). loses (key_of y) (Some o) ≡ false) is.key_is e in
        let d1 : y.distance ≤ r.distance = not_over r.prefix.base r.prefix.len r.distance y.prefix.base y.prefix.len y.distance g (omega arith) (omega arith) in
        let none : list_any (λ other. beats other r) rows ≡ false = nearest (list_any (λ other. beats other r) rows) is.nearest in
        let h : beats a r ≡ false = below_any (beats a r) refl none in
        let d2 : r.distance ≤ a.distance = not_over a.prefix.base a.prefix.len a.distance r.prefix.base r.prefix.len r.distance h (omega arith) (omega arith) in
        absurd (omega arith)
      where
        below_any : (b : Bool) → beats (get_or rows j d) (get_or rows i d) ≡ b → list_any (λ other. beats other (get_or rows i d)) rows ≡ false → beats (get_or rows j d) (get_or rows i d) ≡ false
        below_any false t none = t
        below_any true t none = let some : list_any (λ other. beats other (get_or rows i d)) rows ≡ true = list_any_at (λ other. beats other (get_or rows i d)) rows j d (omega arith) t in absurd cc

    unbeaten : (last : Option Key) → LastIs rows k last → loses (key_of (get_or rows k d)) last ≡ false → (j : ℕ) → j < length rows → beats (get_or rows j d) (get_or rows k d) ≡ false
    unbeaten None is e j within = later j (omega arith) within
    unbeaten (Some key) is e j within = elim (cases_lt j k) [
      | inl less ↦ earlier key is.0 is.1 (is.2 d) e j less (beats (get_or rows j d) (get_or rows k d)) refl
      | inr le ↦ later j le within
    ]

    -- a row that doesn't lose is nearest
    pub won : (last : Option Key) → LastIs rows k last → loses (key_of (get_or rows k d)) last ≡ false → is_nearest rows (get_or rows k d) ≡ true
    won last is e =
        let y = get_or rows k d in
        ap not (list_any_none (λ other. beats other y) rows (λ j e0 within. subst (λ (r : BaseRow). beats r y ≡ false) (get_or_default rows j d e0 within) (unbeaten last is e j within)))

-- ---- steps

same_itself : (a b : ℕ) → ((a == a) && (b == b)) ≡ true
same_itself a b = grind (arith, nat_tests)

over_same : (ab al ad bb bl bd : ℕ) → over ab al ad bb bl bd ≡ true → ((ab == bb) && (al == bl)) ≡ true
over_same ab al ad bb bl bd e = grind (arith, nat_tests)

module _ (rows : List BaseRow) (ordered : IsSorted distance_cmp rows) (k : ℕ) (y : BaseRow) (lt : k < length rows) (at : y ≡ get_or rows k y) (last : Option Key) (is : LastIs rows k last) where
  -- a row is kept
  pub kept_more : loses (key_of y) last ≡ false → (items : List BaseRow) → items ≡ filter (is_nearest rows) (take k rows) → items ++ y ∷ [] ≡ filter (is_nearest rows) (take (k + 1) rows)
  kept_more e items before =
      let here : is_nearest rows (get_or rows k y) ≡ true = won rows ordered k y lt last is (subst (λ (r : BaseRow). loses (key_of r) last ≡ false) at e) in
      ap (λ (l : List BaseRow). l ++ y ∷ []) before ∙ ap (λ (r : BaseRow). filter (is_nearest rows) (take k rows) ++ r ∷ []) at
      ∙ sym (filter_more (is_nearest rows) rows k y lt ∙ ap (λ (b : Bool). filter (is_nearest rows) (take k rows) ++ cond b (get_or rows k y ∷ []) []) here)

  pub kept_last : loses (key_of y) last ≡ false → (key : Key) → key ≡ key_of y → LastIs rows (k + 1) (Some key)
  kept_last e key key_is =
      let here : is_nearest rows (get_or rows k y) ≡ true = won rows ordered k y lt last is (subst (λ (r : BaseRow). loses (key_of r) last ≡ false) at e) in
      let before : k + 1 - 1 ≡ k = omega arith in (
        k,
        (omega arith),
        (λ d. record {
          key_is = key_is ∙ ap key_of (at ∙ get_or_default rows k y d lt);
          nearest = subst (λ (r : BaseRow). is_nearest rows r ≡ true) (get_or_default rows k y d lt) here;
          same = subst (λ (n : ℕ). same_prefix (get_or rows k d).prefix (get_or rows n d).prefix ≡ true) (sym before) (same_itself (get_or rows k d).prefix.base (get_or rows k d).prefix.len);
        }),
      )

  -- a row isn't kept
  pub lost_more : loses (key_of y) last ≡ true → (items : List BaseRow) → items ≡ filter (is_nearest rows) (take k rows) → items ≡ filter (is_nearest rows) (take (k + 1) rows)
  lost_more e items before =
      let here : is_nearest rows (get_or rows k y) ≡ false = lost rows ordered k y last lt is (subst (λ (r : BaseRow). loses (key_of r) last ≡ true) at e) in
      before ∙ sym (append-nil (filter (is_nearest rows) (take k rows))) ∙ sym (filter_more (is_nearest rows) rows k y lt ∙ ap (λ (b : Bool). filter (is_nearest rows) (take k rows) ++ cond b (get_or rows k y ∷ []) []) here)

pub lost_last : (rows : List BaseRow) (k : ℕ) (y : BaseRow) → k < length rows → y ≡ get_or rows k y → (last : Option Key) → LastIs rows k last → loses (key_of y) last ≡ true → LastIs rows (k + 1) last
lost_last rows k y lt at None is e = absurd cc
lost_last rows k y lt at (Some key) is e =
    let i : ℕ = is.0 in
    let below : i < k = is.1 in
    let before : k + 1 - 1 ≡ k = omega arith in
    (i, (omega arith), (λ d. record { key_is = (is.2 d).key_is; nearest = (is.2 d).nearest; same = subst (λ (n : ℕ). same_prefix (get_or rows i d).prefix (get_or rows n d).prefix ≡ true) (sym before) (over_same (get_or rows i d).prefix.base (get_or rows i d).prefix.len (get_or rows i d).distance (get_or rows k d).prefix.base (get_or rows k d).prefix.len (get_or rows k d).distance (beaten d)) }))
  where
    beaten : (d : BaseRow) → beats (get_or rows is.0 d) (get_or rows k d) ≡ true
    beaten d =
        let here : loses (key_of (get_or rows k d)) (Some key) ≡ true = subst (λ (r : BaseRow). loses (key_of r) (Some key) ≡ true) (at ∙ get_or_default rows k y d lt) e in
        subst (λ (o : Key). loses (key_of (get_or rows k d)) (Some o) ≡ true) (is.2 d).key_is here
