-- The highest address of interfaces, as the router id has it.
use Rattle.std.proofs.Common.{◌≡◌, ℕ, Bool, true, false, not, cond, nat_lt, List, [], ◌∷◌, filter, length, Option, Some, None, refl, sym, ap, ◌∙◌, arith}
use Rattle.std.specs.List.{fold, cons_option}
use Rattle.std.specs.Option.{option_map, option_map_or, option_or, unwrap_or}
use Rattle.std.proofs.lemmas.Bool.Decides.{nat_tests}
use Rattle.nc_types.specs.declared.addr.Addr.{Addr}
use Rattle.nc_types.specs.declared.config.IfaceAddr.{IfaceAddr}
use Rattle.nc_types.specs.declared.config.Interface.{Interface}
use Rattle.nc_types.specs.Network.{up_of}
use Rattle.nc_tables.specs.Sessions.{greatest, up_addresses, is_loopback}
use Rattle.nc_sessions.specs.Ids.{counted, higher, highest}

abbrev greater : ℕ → ℕ → ℕ
greater most n = cond (nat_lt most n) n most

higher_none : (o : Option ℕ) → higher o None ≡ o
higher_none None = refl
higher_none (Some m) = refl

-- from a number on
from_some : (m : ℕ) (ns : List ℕ) → fold (λ o n. higher o (Some n)) (Some m) ns ≡ Some (fold greater m ns)
from_some m [] = refl
from_some m (n ∷ ns) = ap (λ (o : Option ℕ). fold (λ (p : Option ℕ) (k : ℕ). higher p (Some k)) o ns) (by_test (nat_lt m n)) ∙ from_some (greater m n) ns
  where
    by_test : (b : Bool) → cond b (Some n) (Some m) ≡ Some (cond b n m)
    by_test true = refl
    by_test false = refl

-- the greatest of some numbers, if there is one
abbrev pub greatest_of : List ℕ → Option ℕ
greatest_of [] = None
greatest_of (n ∷ ns) = Some (greatest (n ∷ ns))

above_zero : (n : ℕ) → greater 0 n ≡ n
above_zero n = by_test (nat_lt 0 n) refl
  where
    by_test : (b : Bool) → nat_lt 0 n ≡ b → cond b n 0 ≡ n
    by_test true e = refl
    by_test false e = let low : 0 ≡ n = grind (arith, nat_tests) in low

from_none : (ns : List ℕ) → fold (λ o n. higher o (Some n)) None ns ≡ greatest_of ns
from_none [] = refl
from_none (n ∷ ns) = from_some n ns ∙ ap (λ (m : ℕ). Some (fold greater m ns)) (sym (above_zero n))

-- ---- interfaces

abbrev step : Bool → Option ℕ → Interface → Option ℕ
step loopbacks most i = higher most (counted loopbacks i)

abbrev with_addresses : Option ℕ → List ℕ → Option ℕ
with_addresses o ns = fold (λ p n. higher p (Some n)) o ns

one_more : (o : Option ℕ) (a : Option IfaceAddr) (ns : List ℕ) → with_addresses (higher o (option_map (λ a. a.addr.0) a)) ns ≡ with_addresses o (cons_option (option_map (λ a. a.addr.0) a) ns)
one_more o None ns = ap (λ (p : Option ℕ). with_addresses p ns) (higher_none o)
one_more o (Some a) ns = refl

of_all : (o : Option ℕ) (is : List Interface) → fold (step false) o is ≡ with_addresses o (up_addresses is)
of_all o [] = refl
of_all o (i ∷ is) = of_all (step false o i) is ∙ one_more o (up_of i) (up_addresses is)

of_loopbacks : (o : Option ℕ) (is : List Interface) → fold (step true) o is ≡ with_addresses o (up_addresses (filter is_loopback is))
of_loopbacks o [] = refl
of_loopbacks o (i ∷ is) = of_loopbacks (step true o i) is ∙ by_test (is_loopback i)
  where
    by_test : (b : Bool) → with_addresses (higher o (cond (not b) None (option_map (λ (a : IfaceAddr). a.addr.0) (up_of i)))) (up_addresses (filter is_loopback is))
        ≡ with_addresses o (up_addresses (cond b (i ∷ filter is_loopback is) (filter is_loopback is)))
    by_test true = one_more o (up_of i) (up_addresses (filter is_loopback is))
    by_test false = ap (λ (p : Option ℕ). with_addresses p (up_addresses (filter is_loopback is))) (higher_none o)

pub highest_of_all : (is : List Interface) → highest false is ≡ greatest_of (up_addresses is)
highest_of_all is = of_all None is ∙ from_none (up_addresses is)

pub highest_of_loopbacks : (is : List Interface) → highest true is ≡ greatest_of (up_addresses (filter is_loopback is))
highest_of_loopbacks is = of_loopbacks None is ∙ from_none (up_addresses (filter is_loopback is))

-- ---- what an id is

-- the first of these that is there, and 0 where none is
abbrev first_there : Option Addr → Option Addr → Option Addr → ℕ
first_there written loopback any = (unwrap_or (option_or (option_or written loopback) any) (record { 0 = 0 })).0

some_numbers : (l : ℕ) (ls : List ℕ) → nat_lt 0 (length (l ∷ ls)) ≡ true
some_numbers l ls = grind (arith, nat_tests)

by_count : (l : ℕ) (ls ns : List ℕ) → greatest (l ∷ ls) ≡ cond (nat_lt 0 (length (l ∷ ls))) (greatest (l ∷ ls)) (greatest ns)
by_count l ls ns = ap (λ (b : Bool). cond b (greatest (l ∷ ls)) (greatest ns)) (sym (some_numbers l ls))

abbrev or_zero : Option ℕ → ℕ
or_zero o = option_map_or (λ n. n) o 0

pub id_of : (written loopback any : Option Addr) (ls ns : List ℕ) → option_map (λ a. a.0) loopback ≡ greatest_of ls → option_map (λ a. a.0) any ≡ greatest_of ns
    → first_there written loopback any ≡ option_map_or (λ a. a.0) written (cond (nat_lt 0 (length ls)) (greatest ls) (greatest ns))
id_of (Some a) loopback any ls ns of_ls of_ns = refl
id_of None (Some a) any [] ns of_ls of_ns = absurd (cc)
id_of None (Some a) any (l ∷ ls) ns of_ls of_ns = ap or_zero of_ls ∙ by_count l ls ns
id_of None None any (l ∷ ls) ns of_ls of_ns = absurd (cc)
id_of None None (Some a) [] [] of_ls of_ns = absurd (cc)
id_of None None (Some a) [] (n ∷ ns) of_ls of_ns = ap or_zero of_ns
id_of None None None [] (n ∷ ns) of_ls of_ns = absurd (cc)
id_of None None None [] [] of_ls of_ns = refl
