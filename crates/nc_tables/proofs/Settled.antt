-- The stable table that is computed is the one that is defined.
use Rattle.std.proofs.Common.{◌≡◌, ℕ, zero, suc, ◌+◌, ◌≤◌, Bool, true, false, cond, List, Option, Some, None, refl, sym, ap, subst, ◌∙◌, arith, inl, inr}
use Rattle.std.specs.Option.{MatchOption}
use Rattle.std.proofs.lemmas.Bool.{cases_lt}
use Rattle.nc_types.specs.Config.{ConfigView}
use Rattle.nc_tables.specs.declared.base.BaseRow.{BaseRow}
use Rattle.nc_tables.specs.declared.bgp.SessionRow.{SessionRow}
use Rattle.nc_tables.specs.Rounds.{BgpRowView, round, after, IsSettled, IsStable, IsUnstable}
use Rattle.nc_tables.specs.Settling.{same_table, settled_from, settled_table}
use Rattle.nc_tables.proofs.SameTables.{table_is, table_itself}

module _ (routers : List ConfigView) (tables : List (List BaseRow)) (sessions : List (List SessionRow)) where
  abbrev At : ℕ → Option (List (List BgpRowView)) → Type 0
  At rounds o = MatchOption o (IsUnstable routers tables sessions rounds) (IsStable routers tables sessions rounds)

  -- behind so many rounds each of which changes something
  found_from : (rounds k : ℕ) → IsUnstable routers tables sessions k → At (k + rounds) (settled_from routers tables sessions rounds (after routers tables sessions k))
  unfolding settled_from after
  found_from zero k before = λ j lt. before j (omega arith)
  found_from (suc rounds) k before =
      on (same_table (round routers tables sessions (after routers tables sessions k)) (after routers tables sessions k)) refl (λ further. found_from rounds (suc k) further)
    where
      on : (b : Bool) → same_table (round routers tables sessions (after routers tables sessions k)) (after routers tables sessions k) ≡ b
          → (IsUnstable routers tables sessions (suc k) → At (suc k + rounds) (settled_from routers tables sessions rounds (round routers tables sessions (after routers tables sessions k))))
          → At (k + suc rounds) (cond b (Some (after routers tables sessions k)) (settled_from routers tables sessions rounds (round routers tables sessions (after routers tables sessions k))))
      on true same further = record {
        count = k;
        within = omega arith;
        settled = table_is (round routers tables sessions (after routers tables sessions k)) (after routers tables sessions k) same;
        least = before;
        state = refl;
      }
      on false other further =
          let more : suc k + rounds ≡ k + suc rounds = omega arith in
          subst (λ n. At n (settled_from routers tables sessions rounds (round routers tables sessions (after routers tables sessions k)))) more
          (further (λ j lt settled. elim (cases_lt j k) [
            | inl less ↦ before j less settled
            | inr le ↦
                let here : j ≡ k = omega arith in
                let is : IsSettled routers tables sessions k = subst (IsSettled routers tables sessions) here settled in
                let same : same_table (round routers tables sessions (after routers tables sessions k)) (after routers tables sessions k) ≡ true =
                ap (λ t. same_table t (after routers tables sessions k)) is ∙ table_itself (after routers tables sessions k) in
                absurd cc
          ]))

  pub found : (rounds : ℕ) → At rounds (settled_table routers tables sessions rounds)
  unfolding after
  found rounds = let all : 0 + rounds ≡ rounds = omega arith in subst (λ n. At n (settled_table routers tables sessions rounds)) all (found_from rounds 0 (λ j lt. absurd (omega arith)))

  -- there is one stable table
  one_count : (rounds : ℕ) (t u : List (List BgpRowView)) (a : IsStable routers tables sessions rounds t) (b : IsStable routers tables sessions rounds u) → a.count ≤ b.count
  one_count rounds t u a b = elim (cases_lt b.count a.count) [
    | inl less ↦ absurd (a.least b.count less b.settled)
    | inr le ↦ le
  ]

  pub stable_found : (rounds : ℕ) (table : List (List BgpRowView)) → IsStable routers tables sessions rounds table → settled_table routers tables sessions rounds ≡ Some table
  stable_found rounds table is = on (settled_table routers tables sessions rounds) (found rounds)
    where
      on : (o : Option (List (List BgpRowView))) → At rounds o → o ≡ Some table
      on None none = absurd (none is.count is.within is.settled)
      on (Some other) found =
          let low = one_count rounds other table found is in
          let high = one_count rounds table other is found in
          let same : found.count ≡ is.count = omega arith in
          ap Some (found.state ∙ ap (after routers tables sessions) same ∙ sym is.state)
