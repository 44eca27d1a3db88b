-- The address of an interface lies in its prefix.
use Rattle.std.proofs.Common.{◌≡◌, ℕ, ◌-◌, ◌/◌, Bool, true, false, eqb, cond, List, [], ◌∷◌, Option, Some, None, refl, sym, ap, subst, inl, inr, codes}
use Rattle.std.specs.Prelude.{◌⊎◌, IfSome, unwrap_or, option_and_then}
use Rattle.std.specs.List.{filter_map, last_or}
use Rattle.std.specs.Option.{option_map, option_map_or}
use Rattle.std.proofs.Math.Nat.{mul-div_cancel}
use Rattle.std.proofs.lemmas.Bool.{cond_both}
use Rattle.std.proofs.lemmas.Nat.{pow_pos}
use Rattle.nc_types.proofs.Members.{in_by_filter_map}
use Rattle.nc_types.specs.Masks.{size_of, network_of}
use Rattle.nc_types.specs.Cidr.{Covers}
use Rattle.nc_types.specs.declared.config.IfaceAddr.{IfaceAddr}
use Rattle.nc_types.specs.declared.fault.Cause.TheVariants.{Syntax, Unsupported}
use Rattle.nc_lines.specs.Lines.{words_of, is_indented}
use Rattle.nc_lines.specs.Statements.{Reading, Outside, Faulty, Says, after, said_of, alone_says}
use Rattle.nc_lines.specs.Numbers.{masked_of}
use Rattle.nc_lines.specs.Parts.{Numbered}
use Rattle.nc_read_link.specs.declared.setting.Setting.{Setting}
use Rattle.nc_read_link.specs.declared.setting.Setting.TheVariants.{Address, NoAddress, Shut}
use Rattle.nc_read_link.specs.Interfaces.{InterfaceStatement as Stated, is_unsupported, address_says, read_says, setting_says, line_says, interface_statements as statements_in, address_by, address_in}
use Rattle.nc_lines.proofs.Pairs.{Has}

abbrev pub IsCovered : IfaceAddr → Type 0
IsCovered a = Covers a.prefix a.addr.0

-- ---- statements

abbrev SaysCovered : Reading Setting → Type 0
SaysCovered Outside = Unit {0}
SaysCovered (Faulty cause) = Unit {0}
SaysCovered (Says (Address a)) = IsCovered a
SaysCovered (Says NoAddress) = Unit {0}
SaysCovered (Says (Shut b)) = Unit {0}

covered : (addr len : ℕ) → Covers (record { base = network_of addr len; len = len }) addr
covered addr len = sym (mul-div_cancel (addr / size_of len) (pow_pos (32 - len)))

abbrev address_at : ℕ × ℕ → Option IfaceAddr
address_at p = cond (eqb p.1 0) None (Some (record { addr = record { 0 = p.0 }; prefix = record { base = network_of p.0 p.1; len = p.1 } }))

masked_covered : (o : Option (ℕ × ℕ)) → SaysCovered (option_map_or (λ (a : IfaceAddr). Says (Address a)) (option_and_then address_at o) (Faulty Syntax))
masked_covered None = tt
masked_covered (Some p) =
    cond_both (eqb p.1 0) None (Some (record { addr = record { 0 = p.0 }; prefix = record { base = network_of p.0 p.1; len = p.1 } }))
    (λ (o : Option IfaceAddr). SaysCovered (option_map_or (λ (a : IfaceAddr). Says (Address a)) o (Faulty Syntax))) (λ _. tt) (λ _. covered p.0 p.1)

address_covered : (words : List (List ℕ)) → SaysCovered (address_says words)
address_covered [] = tt
address_covered (a ∷ []) = tt
address_covered (a ∷ mask ∷ []) = masked_covered (masked_of a mask)
address_covered (a ∷ mask ∷ word ∷ words) = tt

none_covered : (words : List (List ℕ)) → SaysCovered (alone_says NoAddress words)
none_covered [] = tt
none_covered (word ∷ words) = tt

shut_covered : (b : Bool) (words : List (List ℕ)) → SaysCovered (alone_says (Shut b) words)
shut_covered b [] = tt
shut_covered b (word ∷ words) = tt

either_covered : (says : List (List ℕ) → Reading Setting) (o : Option (List (List ℕ))) (other : Reading Setting) → ((words : List (List ℕ)) → SaysCovered (says words)) → SaysCovered other → SaysCovered (option_map_or says o other)
either_covered says None other here there = there
either_covered says (Some words) other here there = here words

read_covered : (words : List (List ℕ)) → SaysCovered (read_says words)
unfolding read_says
read_covered words =
    either_covered address_says (after (codes "ip" ∷ codes "address" ∷ []) words) _ address_covered
    (either_covered (alone_says NoAddress) (after (codes "no" ∷ codes "ip" ∷ codes "address" ∷ []) words) _ none_covered
    (either_covered (alone_says (Shut true)) (after (codes "shutdown" ∷ []) words) _ (shut_covered true)
    (either_covered (alone_says (Shut false)) (after (codes "no" ∷ codes "shutdown" ∷ []) words) Outside (shut_covered false) tt)))

line_covered : (l : Numbered) → SaysCovered (line_says l)
line_covered l =
    cond_both (is_indented l.text) (setting_says (words_of l.text)) Outside SaysCovered
    (λ _. cond_both (is_unsupported (words_of l.text)) (Faulty Unsupported) (read_says (words_of l.text)) SaysCovered (λ _. tt) (λ _. read_covered (words_of l.text))) (λ _. tt)

-- ---- the address in force

said_covered : (line : ℕ) (r : Reading Setting) (s : Stated) → SaysCovered r → option_map (λ (setting : Setting). record { line = line; setting = setting }) (said_of r) ≡ Some s → SaysCovered (Says s.setting)
said_covered line Outside s is e = absurd cc
said_covered line (Faulty cause) s is e = absurd cc
said_covered line (Says setting) s is e =
    let same : record { line = line; setting = setting } ≡ s = cc in
    subst (λ (x : Setting). SaysCovered (Says x)) (ap (λ (s : Stated). s.setting) same) is

stated_covered : (block : List Numbered) (s : Stated) → Has (statements_in block) s → SaysCovered (Says s.setting)
stated_covered block s h =
    let at = in_by_filter_map (λ (l : Numbered). option_map (λ (setting : Setting). record { line = l.line; setting = setting }) (said_of (line_says l))) block s h in
    said_covered at.0.line (line_says at.0) s (line_covered at.0) at.2

pub last_has : {A : Type 0} (o : Option A) (xs : List A) (x : A) → last_or o xs ≡ Some x → (o ≡ Some x) ⊎ Has xs x
last_has o [] x e = inl e
last_has {A} o (y ∷ ys) x e =
    elim (last_has (Some y) ys x e) [
      | inl here ↦ inr (inl (let same : y ≡ x = cc in same))
      | inr later ↦ inr (inr later)
    ]

by_covered : (line : ℕ) (setting : Setting) (p : ℕ × IfaceAddr) → SaysCovered (Says setting) → address_by line setting ≡ Some (Some p) → IsCovered p.1
by_covered line (Address a) p is e = let same : (line, a) ≡ p = cc in subst (λ (p : ℕ × IfaceAddr). IsCovered p.1) same is
by_covered line NoAddress p is e = absurd cc
by_covered line (Shut b) p is e = absurd cc

opened : (o : Option (Option (ℕ × IfaceAddr))) (p : ℕ × IfaceAddr) → unwrap_or o None ≡ Some p → o ≡ Some (Some p)
opened None p e = absurd cc
opened (Some x) p e = ap (λ (x : Option (ℕ × IfaceAddr)). Some x) e

force_covered : (block : List Numbered) (p : ℕ × IfaceAddr) → address_in (statements_in block) ≡ Some p → IsCovered p.1
force_covered block p e =
    let ss = statements_in block in
    let said = filter_map (λ (s : Stated). address_by s.line s.setting) ss in
    elim (last_has None said (Some p) (opened (last_or None said) p e)) [
      | inl never ↦ absurd cc
      | inr h ↦ let at = in_by_filter_map (λ (s : Stated). address_by s.line s.setting) ss (Some p) h in by_covered at.0.line at.0.setting p (stated_covered block at.0 at.1) at.2
    ]

if_some : (o : Option (ℕ × IfaceAddr)) → ((p : ℕ × IfaceAddr) → o ≡ Some p → IsCovered p.1) → IfSome (option_map (λ (p : ℕ × IfaceAddr). p.1) o) IsCovered
if_some None each = tt
if_some (Some p) each = each p refl

pub block_covered : (block : List Numbered) → IfSome (option_map (λ (p : ℕ × IfaceAddr). p.1) (address_in (statements_in block))) IsCovered
block_covered block = if_some (address_in (statements_in block)) (force_covered block)
