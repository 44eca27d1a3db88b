-- No host bits stand in the prefix that an address of a class has.
use Rattle.std.proofs.Common.{◌≡◌, ℕ, ◌≤◌, ◌/◌, ◌&&◌, ◌==◌, nat_le, List, Option, Some, None, cond, arith}
use Rattle.std.specs.Prelude.{◌^◌, IfSome, option_and_then}
use Rattle.std.proofs.lemmas.Bool.{cond_both}
use Rattle.nc_lines.specs.Numbers.{address_of, whole_prefix}
use Rattle.nc_lines.proofs.PrefixLemmas.{MadeWhole, whole_made}
use Rattle.nc_read_bgp.specs.Prefixes.{octet_len, class_len, class_prefix}

abbrev IsLen : Option ℕ → Type 0
IsLen o = IfSome o (λ len. len ≤ 32)

octet_within : (octet : ℕ) → IsLen (octet_len octet)
octet_within octet =
    cond_both (nat_le 1 octet && nat_le octet 126) (Some 8) _ IsLen (λ _. omega arith)
    (λ _. cond_both (nat_le 128 octet && nat_le octet 191) (Some 16) _ IsLen (λ _. omega arith)
    (λ _. cond_both (nat_le 192 octet && nat_le octet 223) (Some 24) None IsLen (λ _. omega arith) (λ _. tt)))

class_within : (addr : ℕ) → IsLen (class_len addr)
class_within addr = cond_both (addr == 0) (Some 0) (octet_len (addr / 2 ^ 24)) IsLen (λ _. omega arith) (λ _. octet_within (addr / 2 ^ 24))

len_made : (addr : ℕ) (o : Option ℕ) → IsLen o → MadeWhole (option_and_then (λ len. whole_prefix addr len) o)
len_made addr None within = tt
len_made addr (Some len) within = whole_made addr len within

addr_made : (o : Option ℕ) → MadeWhole (option_and_then (λ a. option_and_then (λ len. whole_prefix a len) (class_len a)) o)
addr_made None = tt
addr_made (Some addr) = len_made addr (class_len addr) (class_within addr)

pub class_made : (address : List ℕ) → MadeWhole (class_prefix address)
class_made address = addr_made (address_of address)
