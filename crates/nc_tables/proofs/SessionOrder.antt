-- Sessions in order of their neighbor statements.
use Rattle.std.proofs.Common.{◌≡◌, ℕ, ◌+◌, ◌<◌, true, false, List, length, get_or, Some, None, arith, nat_eq, inl, inr}
use Rattle.std.specs.List.Sorted.{IsNonDecreasingBy, IsPartitionPoint}
use Rattle.std.specs.Ordering.{nat_cmp, is_lt, ordering_index}
use Rattle.std.specs.declared.cmp.Ordering.TheVariants.{Less, Equal, Greater}
use Rattle.std.proofs.lemmas.Bool.{cases_lt}
use Rattle.std.proofs.lemmas.Bool.Decides.{nat_tests}
use Rattle.std.proofs.lemmas.Cmp.{nat_cmp_total}
use Rattle.std.proofs.lemmas.List.Sorted.{searchable_from_sorted}
use Rattle.nc_tables.specs.declared.bgp.SessionRow.{SessionRow}
use Rattle.nc_tables.specs.Sessions.{AreSessions, session_in}
use Rattle.nc_tables.proofs.Finding.{found_at, found_none}

abbrev neighbor_of : SessionRow → ℕ
neighbor_of s = s.neighbor

not_before : (m n : ℕ) → m < n → is_lt (nat_cmp n m) ≡ false
not_before m n lt = grind (arith, nat_tests)

equal_is : (m n : ℕ) → nat_cmp m n ≡ Equal → nat_eq m n ≡ true
equal_is m n e = grind (arith, nat_tests)

unequal : (m n place : ℕ) → m < n → nat_cmp n place ≡ Equal → nat_eq m place ≡ false
unequal m n place lt e = grind (arith, nat_tests)

less_is : (m n : ℕ) → nat_cmp m n ≡ Less → nat_eq m n ≡ false
less_is m n e = grind (arith, nat_tests)

greater_is : (m n : ℕ) → nat_cmp m n ≡ Greater → nat_eq m n ≡ false
greater_is m n e = grind (arith, nat_tests)

pub searchable : (rows : List SessionRow) (place : ℕ) → AreSessions rows → IsNonDecreasingBy (λ (s : SessionRow). ordering_index (nat_cmp s.neighbor place)) rows
searchable rows place ascend =
    searchable_from_sorted nat_cmp_total neighbor_of rows place (λ k d lo hi. not_before (get_or rows k d).neighbor (get_or rows (k + 1) d).neighbor (ascend k (k + 1) d (omega arith) hi))

-- a binary search finds the session of a statement
pub here_is : (rows : List SessionRow) (place i : ℕ) (d : SessionRow) → AreSessions rows → i < length rows → nat_cmp (get_or rows i d).neighbor place ≡ Equal → session_in rows place ≡ Some (get_or rows i d)
here_is rows place i d ascend lt equal =
    let same : nat_eq (get_or rows i d).neighbor place ≡ true = equal_is (get_or rows i d).neighbor place equal in
    found_at (λ (s : SessionRow). nat_eq s.neighbor place) rows i d lt (λ k less. before k (ascend k i d less lt)) same
  where
    before : (k : ℕ) → (get_or rows k d).neighbor < (get_or rows i d).neighbor → nat_eq (get_or rows k d).neighbor place ≡ false
    before k below = unequal (get_or rows k d).neighbor (get_or rows i d).neighbor place below equal

pub nowhere_is : (rows : List SessionRow) (place i : ℕ) → IsPartitionPoint (λ (s : SessionRow). nat_cmp s.neighbor place ≡ Less) (λ (s : SessionRow). nat_cmp s.neighbor place ≡ Greater) rows i → session_in rows place ≡ None
nowhere_is rows place i parted = found_none (λ (s : SessionRow). nat_eq s.neighbor place) rows (λ k d lt. elim (cases_lt k i) [
  | inl below ↦ less_is (get_or rows k d).neighbor place (parted.0 k d (omega arith) below)
  | inr above ↦ greater_is (get_or rows k d).neighbor place (parted.1 k d above lt)
])

-- equal numbers compare as equal
pub tied_at : (m n : ℕ) → m ≡ n → nat_cmp m n ≡ Equal
tied_at m n e = grind (arith, nat_tests)
