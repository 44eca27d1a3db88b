-- Rows made anew: what is put into a table, and that it becomes the next one.
use Rattle.std.proofs.Common.{◌≡◌, ◌⊎◌, ℕ, ◌<◌, Bool, true, false, cond, ◌&&◌, ◌==◌, List, [], ◌∷◌, ◌++◌, length, map, get_or, All, Contains, Option, Some, None, refl, sym, ap, subst, ◌∙◌, inl, inr}
use Rattle.std.specs.List.{AllPairs, filter_map}
use Rattle.std.specs.List.Sorted.{IsPermutation}
use Rattle.std.specs.declared.cmp.Ordering.TheVariants.{Less}
use Rattle.std.proofs.lemmas.Bool.{and_parts, and_from, eqb-true, eq-eqb}
use Rattle.std.proofs.lemmas.List.{same_lists, get_or_default}
use Rattle.std.proofs.lemmas.List.Sorted.{All-permutation, Contains-permutation, IsPermutation-map}
use Rattle.nc_types.specs.Cidr.{Cidr, same_prefix}
use Rattle.nc_types.proofs.Members.{In, in_left, in_right, in_map, in_by_contains, contains_by_in, all_in, all_by_in}
use Rattle.nc_types.proofs.Sameness.{same_prefix_is}
use Rattle.nc_tables.specs.declared.bgp.Chosen.{Chosen}
use Rattle.nc_tables.specs.Base.{prefix_cmp}
use Rattle.nc_tables.specs.LocRibs.{AreChosen, Ascend}
use Rattle.nc_tables.specs.Rounds.{BgpRowView, chosen_in, chosen_at, chosen_anew}
use Rattle.nc_tables.specs.Settling.{same_list, same_candidate}
use Rattle.nc_tables.proofs.ByPrefix.{same_itself}
use Rattle.nc_tables.proofs.InOrder.{same_rows}
use Rattle.nc_tables.proofs.SameTables.{same_list_is, same_list_itself, candidate_is, candidate_itself}
use Rattle.nc_message.specs.declared.inputs.RoutingInputs.{RoutingInputs}
use Rattle.nc_round.specs.declared.loc_rib_change.LocRibChange.{LocRibChange}
use Rattle.nc_round.specs.Keys.{Key, key, key_cmp}
use Rattle.nc_round.specs.Next.{next_of}
use Rattle.nc_round.specs.Changes.{IsDifference}
use Rattle.nc_round.specs.Renewing.{RowChange, row_change, change_at, AreEnough, IsCompletedBy}
use Rattle.nc_round.proofs.KeyOrder.{same_key, same_key_is, key_itself}
use Rattle.nc_round.proofs.Lists.{among, all_made, all_over, in_filter_map, pairs_made, pairs_over}
use Rattle.nc_round.proofs.NextOf.{inside_anew, made_count, made_ascends, made_some_there}

abbrev pub key_of : RowChange → Key
key_of c = c.key

-- ---- rows are put one by one

module _ (target : ℕ → Cidr → List Chosen) where
  -- in another order
  pub leads_moved : (table : List (List BgpRowView)) (xs ys : List LocRibChange) → IsPermutation xs ys → IsCompletedBy target table (map row_change xs) → IsCompletedBy target table (map row_change ys)
  leads_moved table xs ys moved leads =
      let changes = IsPermutation-map row_change xs ys moved in
      record {
        put = All-permutation (λ (c : RowChange). target c.key.0.0 c.key.1 ≡ c.chosen) (map row_change xs) (map row_change ys) changes leads.put;
        others = λ router p none. leads.others router p (λ some.
            none (Contains-permutation (map key_of (map row_change xs)) (map key_of (map row_change ys)) (key router p) (IsPermutation-map key_of (map row_change xs) (map row_change ys) changes) some));
      }

  -- the last one is put
  pub leads_put : (before after : List (List BgpRowView)) (rest : List RowChange) (c : RowChange)
      → ((router : ℕ) (p : Cidr) → chosen_at after router p ≡ cond ((router == c.key.0.0) && same_prefix c.key.1 p) c.chosen (chosen_at before router p))
      → IsCompletedBy target before (rest ++ c ∷ []) → IsCompletedBy target after rest
  leads_put before after rest c is leads = record {
    put = all_by_in (λ (x : RowChange). target x.key.0.0 x.key.1 ≡ x.chosen) rest (λ x i. all_in (λ (x : RowChange). target x.key.0.0 x.key.1 ≡ x.chosen) (rest ++ c ∷ []) leads.put x (in_left rest (c ∷ []) x i));
    others = λ router p none. is router p ∙ on router p none ((router == c.key.0.0) && same_prefix c.key.1 p) refl;
  }
    where
      last : target c.key.0.0 c.key.1 ≡ c.chosen
      last = all_in (λ (x : RowChange). target x.key.0.0 x.key.1 ≡ x.chosen) (rest ++ c ∷ []) leads.put c (in_right rest (c ∷ []) c (inl refl))

      apart : (router : ℕ) (p : Cidr) → (Contains (map key_of rest) (key router p) → ⊥) → ((router == c.key.0.0) && same_prefix c.key.1 p) ≡ false → Contains (map key_of (rest ++ c ∷ [])) (key router p) → ⊥
      apart router p none other some = by_part (in_by_map_either (in_by_contains (map key_of (rest ++ c ∷ [])) (key router p) some))
        where
          in_by_map_either : In (key router p) (map key_of (rest ++ c ∷ [])) → In (key router p) (map key_of rest) ⊎ (c.key ≡ key router p)
          in_by_map_either i = split rest i
            where
              split : (xs : List RowChange) → In (key router p) (map key_of (xs ++ c ∷ [])) → In (key router p) (map key_of xs) ⊎ (c.key ≡ key router p)
              split [] (inl e) = inr e
              split [] (inr j) = absurd j
              split (x ∷ xs) (inl e) = inl (inl e)
              split (x ∷ xs) (inr j) = later (split xs j)
                where
                  later : In (key router p) (map key_of xs) ⊎ (c.key ≡ key router p) → In (key router p) (map key_of (x ∷ xs)) ⊎ (c.key ≡ key router p)
                  later (inl k) = inl (inr k)
                  later (inr e) = inr e

          by_part : In (key router p) (map key_of rest) ⊎ (c.key ≡ key router p) → ⊥
          by_part (inl i) = none (contains_by_in (map key_of rest) (key router p) i)
          by_part (inr e) =
              let here : ((router == c.key.0.0) && same_prefix c.key.1 p) ≡ true =
              and_from (router == c.key.0.0) (same_prefix c.key.1 p) (eq-eqb router c.key.0.0 (sym (ap (λ (k : Key). k.0.0) e))) (ap (same_prefix c.key.1) (sym (ap (λ (k : Key). k.1) e)) ∙ same_itself c.key.1) in
              absurd cc

      on : (router : ℕ) (p : Cidr) → (Contains (map key_of rest) (key router p) → ⊥) → (b : Bool) → ((router == c.key.0.0) && same_prefix c.key.1 p) ≡ b → cond b c.chosen (chosen_at before router p) ≡ target router p
      on router p none true e =
          let parts = and_parts (router == c.key.0.0) (same_prefix c.key.1 p) e in
          sym last ∙ ap (λ (n : ℕ). target n c.key.1) (sym (eqb-true router c.key.0.0 parts.0)) ∙ ap (target router) (same_prefix_is c.key.1 p parts.1)
      on router p none false e = leads.others router p (apart router p none e)

-- ---- what is new of a row

module _ (i : RoutingInputs) (table : List (List BgpRowView)) where
  abbrev pub anew : Key → List Chosen
  anew k = chosen_anew i.network.now i.base.now i.sessions.now table k.0.0 k.1

  abbrev same_as : Key → Bool
  same_as k = same_list same_candidate (anew k) (chosen_at table k.0.0 k.1)

  pub change_none : (k : Key) → anew k ≡ chosen_at table k.0.0 k.1 → change_at i table k ≡ None
  change_none k e =
      ap (λ (b : Bool). cond {A = Option RowChange} b None (Some (record { key = k; chosen = anew k })))
      (ap (λ (cs : List Chosen). same_list same_candidate cs (chosen_at table k.0.0 k.1)) e ∙ same_list_itself same_candidate candidate_itself (chosen_at table k.0.0 k.1))

  pub change_some : (k : Key) → (anew k ≡ chosen_at table k.0.0 k.1 → ⊥) → change_at i table k ≡ Some (record { key = k; chosen = anew k })
  change_some k differs = on (same_as k) refl
    where
      on : (b : Bool) → same_as k ≡ b → cond {A = Option RowChange} b None (Some (record { key = k; chosen = anew k })) ≡ Some (record { key = k; chosen = anew k })
      on true e = absurd (differs (same_list_is same_candidate candidate_is (anew k) (chosen_at table k.0.0 k.1) e))
      on false e = refl

  record IsChange (k : Key) (c : RowChange) : Type 0 where
    row : k ≡ c.key
    new : anew k ≡ c.chosen
    differs : anew k ≡ chosen_at table k.0.0 k.1 → ⊥

  is_change : (k : Key) (c : RowChange) → change_at i table k ≡ Some c → IsChange k c
  is_change k c e = on (same_as k) refl e
    where
      on : (b : Bool) → same_as k ≡ b → cond {A = Option RowChange} b None (Some (record { key = k; chosen = anew k })) ≡ Some c → IsChange k c
      on true is f = absurd cc
      on false is f =
          let same : record { key = k; chosen = anew k } ≡ c = cc in
          record {
            row = ap key_of same;
            new = ap (λ (x : RowChange). x.chosen) same;
            differs = λ g. let is_same : same_as k ≡ true = ap (λ (cs : List Chosen). same_list same_candidate cs (chosen_at table k.0.0 k.1)) g ∙ same_list_itself same_candidate candidate_itself (chosen_at table k.0.0 k.1) in absurd cc;
          }

-- ---- all that may differ

module _ (i : RoutingInputs) (prefixes : List Cidr) (up : Ascend prefixes) (table : List (List BgpRowView)) (keys : List Key) (enough : AreEnough i prefixes table keys) (inside : All (λ k. Contains prefixes k.1) keys) where
  abbrev next_table : List (List BgpRowView)
  next_table = next_of prefixes i table

  abbrev pub target : ℕ → Cidr → List Chosen
  target router p = chosen_at next_table router p

  -- a row is that of a prefix among these at a router of the network
  abbrev IsRow : Key → Type 0
  IsRow k = (k.0.0 < length i.network.now) × Contains prefixes k.1

  are_rows : All IsRow keys
  are_rows = λ k d lt. (enough.within k d lt, inside k d lt)

  abbrev pub all_changes : List RowChange
  all_changes = filter_map (change_at i table) keys

  target_is : (k : Key) → IsRow k → target k.0.0 k.1 ≡ anew i table k
  target_is k is = inside_anew prefixes i.network.now i.base.now i.sessions.now table k.0.0 k.1 is.0 (in_by_contains prefixes k.1 is.1)

  others : (router : ℕ) (p : Cidr) → (Contains (map key_of all_changes) (key router p) → ⊥) → chosen_at table router p ≡ target router p
  others router p none = on (among same_key same_key_is key_itself (key router p) keys)
    where
      made : In (key router p) keys → anew i table (key router p) ≡ chosen_at table router p
      made j = by_test (same_as i table (key router p)) refl
        where
          by_test : (b : Bool) → same_as i table (key router p) ≡ b → anew i table (key router p) ≡ chosen_at table router p
          by_test true e = same_list_is same_candidate candidate_is (anew i table (key router p)) (chosen_at table router p) e
          by_test false e =
              let change : RowChange = record { key = key router p; chosen = anew i table (key router p) } in
              let is : change_at i table (key router p) ≡ Some change = ap (λ (b : Bool). cond b None (Some change)) e in
              absurd (none (contains_by_in (map key_of all_changes) (key router p) (in_map key_of all_changes change (in_filter_map (change_at i table) keys (key router p) change j is))))

      on : In (key router p) keys ⊎ (In (key router p) keys → ⊥) → chosen_at table router p ≡ target router p
      on (inl j) = sym (made j) ∙ sym (target_is (key router p) (all_in IsRow keys are_rows (key router p) j))
      on (inr out) = enough.others router p (λ some. out (in_by_contains keys (key router p) some))

  pub leads : IsCompletedBy target table all_changes
  leads = record {
    put = all_made (λ (c : RowChange). target c.key.0.0 c.key.1 ≡ c.chosen) (change_at i table) IsRow
        (λ k c e lt. let is = is_change i table k c e in sym (ap (λ (q : Key). target q.0.0 q.1) is.row) ∙ target_is k lt ∙ is.new) keys are_rows;
    others = others;
  }

  pub difference : (new : List (List BgpRowView)) → new ≡ next_table → IsDifference table new (map key_of all_changes)
  difference new made = record {
    ordered = pairs_over (λ a b. key_cmp a b ≡ Less) key_of all_changes
        (pairs_made (λ (a b : RowChange). key_cmp a.key b.key ≡ Less) (change_at i table) (λ (a b : Key). key_cmp a b ≡ Less)
        (λ a b x y e f less. subst (λ (q : Key). key_cmp q y.key ≡ Less) (is_change i table a x e).row (subst (λ (q : Key). key_cmp a q ≡ Less) (is_change i table b y f).row less)) keys enough.ordered);
    differ = all_over (λ (k : Key). (chosen_at table k.0.0 k.1 ≡ chosen_at new k.0.0 k.1) → ⊥) key_of all_changes
        (all_made (λ (c : RowChange). (chosen_at table c.key.0.0 c.key.1 ≡ chosen_at new c.key.0.0 c.key.1) → ⊥) (change_at i table) IsRow
        (λ k c e lt same.
        let is = is_change i table k c e in
        let old : chosen_at table k.0.0 k.1 ≡ chosen_at new k.0.0 k.1 = ap (λ (q : Key). chosen_at table q.0.0 q.1) is.row ∙ same ∙ sym (ap (λ (q : Key). chosen_at new q.0.0 q.1) is.row) in
        is.differs (sym (old ∙ ap (λ (t : List (List BgpRowView)). chosen_at t k.0.0 k.1) made ∙ target_is k lt))) keys are_rows);
    all = λ router p none. others router p none ∙ sym (ap (λ (t : List (List BgpRowView)). chosen_at t router p) made);
  }

  -- a table that has everywhere what the next one has is the next one
  pub is_next : (new : List (List BgpRowView)) → length new ≡ length table → All AreChosen new → ((router : ℕ) (p : Cidr) → chosen_at new router p ≡ target router p) → new ≡ next_table
  is_next new count rows same =
      same_lists new next_table (count ∙ enough.count ∙ sym (made_count prefixes i.network.now i.base.now i.sessions.now table)) at
    where
      at : (k : ℕ) (d : List BgpRowView) → k < length new → get_or new k d ≡ get_or next_table k d
      at k d lt =
          let are : AreChosen (get_or new k d) = rows k d lt in
          let mine : get_or new k d ≡ get_or new k [] = get_or_default new k d [] lt in
          let other : k < length next_table = subst (λ (n : ℕ). k < n) (count ∙ enough.count ∙ sym (made_count prefixes i.network.now i.base.now i.sessions.now table)) lt in
          same_rows (get_or new k d) (get_or next_table k d)
          are.ordered (subst (λ (l : List BgpRowView). AllPairs (λ a b. prefix_cmp a.prefix b.prefix ≡ Less) l) (get_or_default next_table k [] d other) (made_ascends prefixes i.network.now i.base.now i.sessions.now table up k))
          are.some (subst (λ (l : List BgpRowView). All (λ row. 0 < length row.chosen) l) (get_or_default next_table k [] d other) (made_some_there prefixes i.network.now i.base.now i.sessions.now table k))
          (λ p. ap (λ (l : List BgpRowView). chosen_in l p) mine ∙ same k p ∙ ap (λ (l : List BgpRowView). chosen_in l p) (get_or_default next_table k [] d other))
