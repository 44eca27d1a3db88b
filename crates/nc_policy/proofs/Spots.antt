-- The first entries of a list by prefix and length, and the lowest place of several.
use Rattle.std.proofs.Common.{◌≡◌, ℕ, ◌+◌, ◌-◌, ◌*◌, ◌/◌, ◌<◌, ◌≤◌, Bool, true, false, cond, ◌&&◌, ◌||◌, List, [], ◌∷◌, ◌++◌, length, map, set, drop, get_or, All, Option, Some, None, refl, sym, ap, subst, ◌∙◌, arith, inl, inr}
use Rattle.std.specs.Prelude.{nat_eq, nat_le, nat_lt, ◌==◌, position}
use Rattle.std.specs.List.{position_from}
use Rattle.std.specs.Map.{lookup}
use Rattle.std.specs.Option.{option_or}
use Rattle.std.proofs.Math.Nat.{mul-div_cancel}
use Rattle.std.proofs.lemmas.Bool.{cases_eq, cases_lt, eqb-true, eq-eqb}
use Rattle.std.proofs.lemmas.Bool.Decides.{nat_tests}
use Rattle.std.proofs.lemmas.Iterator.Adapters.{position_from-zero}
use Rattle.std.proofs.lemmas.List.Elements.{All-head, All-tail}
use Rattle.std.proofs.lemmas.List.{drop_all, get_or_default, get_or-set_same, get_or-set_other}
use Rattle.std.proofs.lemmas.Nat.{pow_pos}
use Rattle.nc_types.specs.Cidr.{Cidr, IsCidr, same_prefix}
use Rattle.nc_types.specs.Masks.{size_of, network_of}
use Rattle.nc_types.specs.declared.config.ListEntry.{ListEntry}
use Rattle.nc_types.proofs.Options.{or_none, or_assoc}
use Rattle.nc_types.proofs.Truth.{same_truth, or_false}
use Rattle.nc_types.proofs.Walks.{drop_read}
use Rattle.nc_tables.specs.Base.{covers}
use Rattle.nc_tables.specs.Policy.{is_of}
use Rattle.nc_policy.specs.declared.spot_table.Placed.{Placed}
use Rattle.nc_policy.specs.Indexes.{is_at, is_shorter, lower_of, HasCidr, HasLength}
use Rattle.nc_policy.specs.Placing.{same_spot}
use Rattle.nc_policy.specs.Seen.{spot_at, spot_in, spot_view}

-- ---- an entry added by its prefix and its lengths

-- what is found among items and one more
pub spot_pushed : (items : List Placed) (x : Placed) (q : Cidr) (n : ℕ) → spot_in (items ++ x ∷ []) q n ≡ option_or (spot_in items q n) (cond (same_spot (spot_at q n) x.spot) (Some x.place) None)
spot_pushed [] x q n = refl
spot_pushed (y ∷ ys) x q n = on (same_spot (spot_at q n) y.spot) (spot_pushed ys x q n)
  where
    on : (b : Bool) → spot_in (ys ++ x ∷ []) q n ≡ option_or (spot_in ys q n) (cond (same_spot (spot_at q n) x.spot) (Some x.place) None)
        → cond b (Some y.place) (spot_in (ys ++ x ∷ []) q n) ≡ option_or (cond b (Some y.place) (spot_in ys q n)) (cond (same_spot (spot_at q n) x.spot) (Some x.place) None)
    on true rest = refl
    on false rest = rest

-- one length of an entry that is of it
pub spot_put : (base same : Bool) (low high len n place : ℕ) → low ≤ len → len ≤ high
    → cond (base && (same && nat_eq len n)) (Some place) None ≡ cond ((n == len) && ((base && same) && (nat_le low n && nat_le n high))) (Some place) None
spot_put true true low high len n place least most = grind (arith, nat_tests)
spot_put true false low high len n place least most = grind (arith, nat_tests)
spot_put false same low high len n place least most = grind (arith, nat_tests)

-- no length is added yet
pub no_lengths : (same : Bool) (low high n place : ℕ) (old : Option ℕ) → old ≡ option_or old (cond (nat_lt n low && (same && (nat_le low n && nat_le n high))) (Some place) None)
no_lengths same low high n place old = sym (ap (option_or old) (none same) ∙ or_none old)
  where
    none : (s : Bool) → cond (nat_lt n low && (s && (nat_le low n && nat_le n high))) (Some place) None ≡ None
    none true = grind (arith, nat_tests)
    none false = grind (arith, nat_tests)

-- one length more
pub more_lengths : (at : Bool) (len n place : ℕ) (old : Option ℕ)
    → option_or (option_or old (cond (nat_lt n len && at) (Some place) None)) (cond ((n == len) && at) (Some place) None) ≡ option_or old (cond (nat_lt n (len + 1) && at) (Some place) None)
more_lengths at len n place old =
    or_assoc old (cond (nat_lt n len && at) (Some place) None) (cond ((n == len) && at) (Some place) None)
    ∙ ap (option_or old) (one at)
  where
    one : (b : Bool) → option_or (cond (nat_lt n len && b) (Some place) None) (cond ((n == len) && b) (Some place) None) ≡ cond (nat_lt n (len + 1) && b) (Some place) None
    one true = grind (arith, nat_tests)
    one false = grind (arith, nat_tests)

-- all lengths are added
pub all_lengths : (same : Bool) (low high len n place : ℕ) (old : Option ℕ) → (n ≤ high → n < len)
    → option_or old (cond (nat_lt n len && (same && (nat_le low n && nat_le n high))) (Some place) None) ≡ option_or old (cond (same && (nat_le low n && nat_le n high)) (Some place) None)
all_lengths same low high len n place old within = ap (option_or old) (elim (cases_lt high n) [
  | inr most ↦ let lt : n < len = within most in let yes : nat_lt n len ≡ true = grind (arith, nat_tests) in ap (λ (b : Bool). cond (b && (same && (nat_le low n && nat_le n high))) (Some place) None) yes
  | inl over ↦ let no : nat_le n high ≡ false = grind (arith, nat_tests) in on same (nat_lt n len) (nat_le low n) (nat_le n high) no
])
  where
    on : (s l w h : Bool) → h ≡ false → cond (l && (s && (w && h))) (Some place) None ≡ cond (s && (w && h)) (Some place) None
    on s l w true e = absurd (cc)
    on true true true false e = refl
    on true true false false e = refl
    on true false true false e = refl
    on true false false false e = refl
    on false true w false e = refl
    on false false w false e = refl

-- ---- entries added one after the other

-- the first that is found so far, or else among those that are left
pub one_more_from : {X : Type 0} (f : X → Bool) (xs : List X) (place : ℕ) (x : X) (found : Option ℕ) → x ≡ get_or xs place x → place < length xs
    → option_or (option_or found (cond (f x) (Some place) None)) (position_from f (place + 1) (drop (place + 1) xs)) ≡ option_or found (position_from f place (drop place xs))
one_more_from f xs place x found read inside =
    let later = position_from f (place + 1) (drop (place + 1) xs) in
    or_assoc found (cond (f x) (Some place) None) later
    ∙ ap (option_or found) (on (f x) later ∙ sym (ap (position_from f place) (drop_read xs place x read inside)))
  where
    on : (b : Bool) (later : Option ℕ) → option_or (cond b (Some place) None) later ≡ cond b (Some place) later
    on true later = refl
    on false later = refl

-- none is left
pub all_from : {X : Type 0} (f : X → Bool) (xs : List X) (place : ℕ) (found : Option ℕ) → length xs ≤ place → option_or found (position_from f place (drop place xs)) ≡ found
all_from {X} f xs place found most = ap (λ (ys : List X). option_or found (position_from f place ys)) (drop_all place xs most) ∙ or_none found

-- ---- keys

-- what is found among the items that are kept
pub spot_seen : (items : List Placed) (q : Cidr) (n : ℕ)
    → lookup (λ (k : Cidr × ℕ). same_prefix q k.0 && nat_eq n k.1) (map (λ (x : Placed). (spot_view x.spot, x.place)) items) ≡ spot_in items q n
spot_seen [] q n = refl
spot_seen (x ∷ xs) q n =
    ap (λ (b : Bool). cond b (Some x.place) (lookup (λ (k : Cidr × ℕ). same_prefix q k.0 && nat_eq n k.1) (map (λ (x : Placed). (spot_view x.spot, x.place)) xs)))
    (together (nat_eq q.base x.spot.addr.0) (nat_eq q.len x.spot.prefix_len) (nat_eq n x.spot.len))
    ∙ ap (cond (same_spot (spot_at q n) x.spot) (Some x.place)) (spot_seen xs q n)
  where
    together : (a b c : Bool) → ((a && b) && c) ≡ (a && (b && c))
    together true b c = refl
    together false b c = refl

-- ---- the lowest of two places

-- what is found from a place on isn't before it
pub not_before : {X : Type 0} (f : X → Bool) (k : ℕ) (xs : List X) (j : ℕ) → position_from f k xs ≡ Some j → k ≤ j
not_before f k [] j e = absurd (cc)
not_before f k (x ∷ xs) j e = on (f x) (not_before f (k + 1) xs j) e
  where
    on : (b : Bool) → (position_from f (k + 1) xs ≡ Some j → k + 1 ≤ j) → cond b (Some k) (position_from f (k + 1) xs) ≡ Some j → k ≤ j
    on true rest e = let same : k ≡ j = cc in omega arith
    on false rest e = let later : k + 1 ≤ j = rest e in omega arith

kept : (k j : ℕ) → k < j → lower_of (Some k) (Some j) ≡ Some k
kept k j lt = grind (arith, nat_tests)

replaced : (k j : ℕ) → k < j → lower_of (Some j) (Some k) ≡ Some k
replaced k j lt = grind (arith, nat_tests)

same_place : (k : ℕ) → lower_of (Some k) (Some k) ≡ Some k
same_place k = on (nat_lt k k)
  where
    on : (b : Bool) → Some (cond b k k) ≡ Some k
    on true = refl
    on false = refl

module _ {X : Type 0} (k : ℕ) (g : X → Bool) (xs : List X) where
  first_wins : lower_of (Some k) (position_from g (k + 1) xs) ≡ Some k
  first_wins = on (position_from g (k + 1) xs) (not_before g (k + 1) xs)
    where
      on : (o : Option ℕ) → ((j : ℕ) → o ≡ Some j → k + 1 ≤ j) → lower_of (Some k) o ≡ Some k
      on None later = refl
      on (Some j) later = kept k j (let l : k + 1 ≤ j = later j refl in omega arith)

  second_wins : lower_of (position_from g (k + 1) xs) (Some k) ≡ Some k
  second_wins = on (position_from g (k + 1) xs) (not_before g (k + 1) xs)
    where
      on : (o : Option ℕ) → ((j : ℕ) → o ≡ Some j → k + 1 ≤ j) → lower_of o (Some k) ≡ Some k
      on None later = refl
      on (Some j) later = replaced k j (let l : k + 1 ≤ j = later j refl in omega arith)

-- the first item that passes one of two tests is the lower one of the first that pass each
lowest_from : {X : Type 0} (f g : X → Bool) (k : ℕ) (xs : List X) → lower_of (position_from f k xs) (position_from g k xs) ≡ position_from (λ x. f x || g x) k xs
lowest_from f g k [] = refl
lowest_from f g k (x ∷ xs) = on (lowest_from f g (k + 1) xs) (f x) (g x)
  where
    on : lower_of (position_from f (k + 1) xs) (position_from g (k + 1) xs) ≡ position_from (λ x. f x || g x) (k + 1) xs
        → (b d : Bool) → lower_of (cond b (Some k) (position_from f (k + 1) xs)) (cond d (Some k) (position_from g (k + 1) xs)) ≡ cond (b || d) (Some k) (position_from (λ x. f x || g x) (k + 1) xs)
    on rest true true = same_place k
    on rest true false = first_wins k g xs
    on rest false true = second_wins k f xs
    on rest false false = rest

pub lowest : {X : Type 0} (f g : X → Bool) (xs : List X) → lower_of (position f xs) (position g xs) ≡ position (λ x. f x || g x) xs
lowest f g xs =
    ap (λ (o : Option ℕ). lower_of o (position g xs)) (position_from-zero f xs) ∙ ap (lower_of (position_from f 0 xs)) (position_from-zero g xs)
    ∙ lowest_from f g 0 xs ∙ sym (position_from-zero (λ x. f x || g x) xs)

-- two tests that say the same of each item
same_from : {X : Type 0} (P : X → Type 0) (f g : X → Bool) → ((x : X) → P x → f x ≡ g x) → (k : ℕ) (xs : List X) → All P xs → position_from f k xs ≡ position_from g k xs
same_from P f g same k [] each = refl
same_from P f g same k (x ∷ xs) each =
    ap (λ (b : Bool). cond b (Some k) (position_from f (k + 1) xs)) (same x (All-head P x xs each))
    ∙ ap (cond (g x) (Some k)) (same_from P f g same (k + 1) xs (All-tail P x xs each))

pub same_position : {X : Type 0} (P : X → Type 0) (f g : X → Bool) → ((x : X) → P x → f x ≡ g x) → (xs : List X) → All P xs → position f xs ≡ position g xs
same_position P f g same xs each = position_from-zero f xs ∙ same_from P f g same 0 xs each ∙ sym (position_from-zero g xs)

-- ---- prefixes around an address

-- a prefix covers an address exactly where it is the network of the address
covers_is : (q : Cidr) (addr : ℕ) → IsCidr q.base q.len → covers q addr ≡ (q.base == network_of addr q.len)
covers_is q addr valid =
    let size = size_of q.len in
    same_truth (covers q addr) (q.base == network_of addr q.len)
    (λ e. eq-eqb q.base (network_of addr q.len) (sym valid.no_host_bits ∙ ap (λ (k : ℕ). k * size) (sym (eqb-true (addr / size) (q.base / size) e))))
    (λ e. eq-eqb (addr / size) (q.base / size) (sym (mul-div_cancel (addr / size) (pow_pos (32 - q.len))) ∙ ap (λ (b : ℕ). b / size) (sym (eqb-true q.base (network_of addr q.len) e))))

-- a prefix of this length, and one of another length
here : (lt more cov base eq within : Bool) → lt ≡ false → eq ≡ true → more ≡ true → cov ≡ base → ((lt && (cov && within)) || ((base && eq) && within)) ≡ (more && (cov && within))
here true more cov base eq within a b d f = absurd (cc)
here false false cov base eq within a b d f = absurd (cc)
here false true cov base false within a b d f = absurd (cc)
here false true true true true within a b d f = refl
here false true false false true within a b d f = refl
here false true true false true within a b d f = absurd (cc)
here false true false true true within a b d f = absurd (cc)

there : (lt more cov base eq within : Bool) → eq ≡ false → lt ≡ more → ((lt && (cov && within)) || ((base && eq) && within)) ≡ (more && (cov && within))
there lt more cov base true within a b = absurd (cc)
there lt more cov true false within a b = or_false (lt && (cov && within)) ∙ ap (λ (t : Bool). t && (cov && within)) b
there lt more cov false false within a b = or_false (lt && (cov && within)) ∙ ap (λ (t : Bool). t && (cov && within)) b

-- one prefix more around the address of a route
one_more_at : (p : Cidr) (len : ℕ) (e : ListEntry) → HasCidr e → (is_shorter len p e || is_at (record { base = network_of p.base len; len = len }) p.len e) ≡ is_shorter (len + 1) p e
one_more_at p len e valid =
    let base = e.prefix.base == network_of p.base len in
    let within = nat_le e.low p.len && nat_le p.len e.high in
    elim (cases_eq e.prefix.len len) [
      | inl same ↦ here (nat_lt e.prefix.len len) (nat_lt e.prefix.len (len + 1)) (covers e.prefix p.base) base (e.prefix.len == len) within
          (grind (arith, nat_tests)) (eq-eqb e.prefix.len len same) (grind (arith, nat_tests)) (covers_is e.prefix p.base valid ∙ ap (λ (n : ℕ). e.prefix.base == network_of p.base n) same)
      | inr other ↦ there (nat_lt e.prefix.len len) (nat_lt e.prefix.len (len + 1)) (covers e.prefix p.base) base (e.prefix.len == len) within
          (grind (arith, nat_tests)) (grind (arith, nat_tests))
    ]

pub one_more : (p : Cidr) (len : ℕ) (entries : List ListEntry) → All HasCidr entries
    → lower_of (position (is_shorter len p) entries) (position (is_at (record { base = network_of p.base len; len = len }) p.len) entries) ≡ position (is_shorter (len + 1) p) entries
one_more p len entries valid =
    lowest (is_shorter len p) (is_at (record { base = network_of p.base len; len = len }) p.len) entries
    ∙ same_position HasCidr (λ e. is_shorter len p e || is_at (record { base = network_of p.base len; len = len }) p.len e) (is_shorter (len + 1) p) (one_more_at p len) entries valid

-- no prefix has less than no bits, and each has less than 33
none_from : {X : Type 0} (f : X → Bool) → ((x : X) → f x ≡ false) → (k : ℕ) (xs : List X) → position_from f k xs ≡ None
none_from f none k [] = refl
none_from f none k (x ∷ xs) = ap (λ (b : Bool). cond b (Some k) (position_from f (k + 1) xs)) (none x) ∙ none_from f none (k + 1) xs

pub none_shorter : (p : Cidr) (entries : List ListEntry) → None ≡ position (is_shorter 0 p) entries
none_shorter p entries =
    let none : (e : ListEntry) → is_shorter 0 p e ≡ false = λ e. ap (λ (b : Bool). b && is_of p e) (let no : nat_lt e.prefix.len 0 ≡ false = grind (arith, nat_tests) in no) in
    sym (position_from-zero (is_shorter 0 p) entries ∙ none_from (is_shorter 0 p) none 0 entries)

pub all_shorter : (p : Cidr) (len : ℕ) → 33 ≤ len → (entries : List ListEntry) → All HasCidr entries → position (is_shorter len p) entries ≡ position (is_of p) entries
all_shorter p len most entries valid = same_position HasCidr (is_shorter len p) (is_of p) all entries valid
  where
    all : (e : ListEntry) → HasCidr e → is_shorter len p e ≡ is_of p e
    all e valid = ap (λ (b : Bool). b && is_of p e) (let yes : nat_lt e.prefix.len len ≡ true = (let w : e.prefix.len ≤ 32 = valid.within in grind (arith, nat_tests)) in yes)

-- ---- lengths of entries

-- where no prefix of an entry has a length, no entry is at a prefix of this length
pub no_entry_around : (lengths : List Bool) (base len n : ℕ) (entries : List ListEntry) → get_or lengths len false ≡ false → All (λ (e : ListEntry). HasLength lengths e.prefix.len) entries
    → None ≡ position (is_at (record { base = base; len = len }) n) entries
no_entry_around lengths base len n entries none noted =
    let never : ListEntry → Bool = λ _. false in
    sym (same_position (λ (e : ListEntry). HasLength lengths e.prefix.len) (is_at (record { base = base; len = len }) n) never other entries noted ∙ position_from-zero never entries ∙ none_from never (λ _. refl) 0 entries)
  where
    on : (b s w : Bool) → s ≡ false → ((b && s) && w) ≡ false
    on b true w e = absurd (cc)
    on true false w e = refl
    on false false w e = refl

    other : (e : ListEntry) → HasLength lengths e.prefix.len → is_at (record { base = base; len = len }) n e ≡ false
    other e has = elim (cases_eq e.prefix.len len) [
      | inl same ↦ absurd (let one : true ≡ false = sym has ∙ ap (λ (k : ℕ). get_or lengths k false) same ∙ none in cc)
      | inr apart ↦ on (nat_eq e.prefix.base base) (nat_eq e.prefix.len len) (nat_le e.low n && nat_le n e.high) (grind (arith, nat_tests))
    ]

-- a length more is noted: those that were noted are so still
pub still_noted : (lengths : List Bool) (k j : ℕ) → k < length lengths → HasLength lengths j → HasLength (set lengths k true) j
still_noted lengths k j lt has = elim (cases_eq j k) [
  | inl same ↦ ap (λ (n : ℕ). get_or (set lengths k true) n false) same ∙ get_or-set_same lengths k true false lt
  | inr other ↦ get_or-set_other lengths k j true false other ∙ has
]

-- the prefixes of entries up to a place have their lengths noted, and so has that of the next one
pub one_noted : (lengths : List Bool) (entries : List ListEntry) (place : ℕ) (e : ListEntry) (len : ℕ) → e ≡ get_or entries place e → place < length entries → len ≡ e.prefix.len → len < length lengths
    → ((k : ℕ) (d : ListEntry) → k < place → HasLength lengths (get_or entries k d).prefix.len)
    → (k : ℕ) (d : ListEntry) → k < place + 1 → HasLength (set lengths len true) (get_or entries k d).prefix.len
one_noted lengths entries place e len read inside same within before k d lt = elim (cases_eq k place) [
  | inl here ↦
      let own : get_or entries k d ≡ e = ap (λ (n : ℕ). get_or entries n d) here ∙ get_or_default entries place d e inside ∙ sym read in
      subst (λ (n : ℕ). HasLength (set lengths len true) n) (same ∙ ap (λ (x : ListEntry). x.prefix.len) (sym own)) (get_or-set_same lengths len true false within)
  | inr other ↦ still_noted lengths len (get_or entries k d).prefix.len within (before k d (omega arith))
]

pub one_valid : (entries : List ListEntry) (place : ℕ) (e : ListEntry) → e ≡ get_or entries place e → place < length entries → HasCidr e
    → ((k : ℕ) (d : ListEntry) → k < place → HasCidr (get_or entries k d)) → (k : ℕ) (d : ListEntry) → k < place + 1 → HasCidr (get_or entries k d)
one_valid entries place e read inside valid before k d lt = elim (cases_eq k place) [
  | inl here ↦ subst HasCidr (sym (ap (λ (n : ℕ). get_or entries n d) here ∙ get_or_default entries place d e inside ∙ sym read)) valid
  | inr other ↦ before k d (omega arith)
]
