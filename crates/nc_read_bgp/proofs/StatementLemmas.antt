-- What the lines of a process may say: an indented one is no header, the routes that are used at once are no more than they may be, and no
-- host bits stand in the prefix of a network or an aggregate.
use Rattle.std.proofs.Common.{◌≡◌, ℕ, zero, suc, ◌≤◌, Bool, true, false, ◌&&◌, ◌==◌, cond, nat_le, List, [], ◌∷◌, Option, Some, None, refl, subst, arith, inl, inr}
use Rattle.std.specs.Prelude.{unwrap_or, option_and_then, codes}
use Rattle.std.specs.Str.{bytes_eq}
use Rattle.std.specs.List.{filter_map, last_or}
use Rattle.std.specs.Option.{option_map, option_map_or}
use Rattle.std.proofs.lemmas.Bool.{cond_both, and_parts, leb-true}
use Rattle.nc_types.specs.declared.TheConstants.{MULTIPATH_LIMIT}
use Rattle.nc_types.specs.Cidr.{Cidr, IsCidr}
use Rattle.nc_types.proofs.Members.{In, in_by_filter_map}
use Rattle.nc_types.specs.declared.fault.Cause.TheVariants.{Syntax, Unsupported}
use Rattle.nc_lines.specs.Lines.{words_of, is_indented}
use Rattle.nc_lines.specs.Numbers.{is_plain, value_after, number_of, address_of, masked_prefix}
use Rattle.nc_lines.specs.Statements.{Reading, Outside, Faulty, Says, after, alone_says, or_syntax, said_as}
use Rattle.nc_lines.specs.Parts.{Numbered, Stated, statements_in}
use Rattle.nc_lines.proofs.PrefixLemmas.{MadeWhole, masked_made}
use Rattle.nc_lines.proofs.PartLemmas.{stated_by, stated_is}
use Rattle.nc_read_bgp.specs.Prefixes.{class_prefix}
use Rattle.nc_read_bgp.specs.Statements.{NeighborSays, ProcessSays, Opens, RouterId, MaxPaths, Relax, Agrees, Originates, Aggregates, Of, or_unsupported, header_says, router_id_says, bestpath_says, max_paths_says, family_says, originates, masked_says, network_says, aggregates, summary_says, aggregate_says, neighbor_says, any_neighbor_says, is_unsupported, statement_says, text_says, line_says}
use Rattle.nc_read_bgp.specs.Processes.{max_paths_by, fields_in}
use Rattle.nc_read_bgp.proofs.PrefixLemmas.{class_made}

abbrev IsFew : ℕ → Type 0
IsFew n = (1 ≤ n) × (n ≤ MULTIPATH_LIMIT)

-- what a line may say: of the routes at once, of a network and of an aggregate
abbrev pub IsSound : ProcessSays → Type 0
IsSound (MaxPaths n) = IsFew n
IsSound (Originates p) = IsCidr p.base p.len
IsSound (Aggregates p summary_only) = IsCidr p.base p.len
IsSound s = Unit {0}

-- what an indented line may say
abbrev IsInside : ProcessSays → Type 0
IsInside (Opens n) = ⊥
IsInside s = IsSound s

abbrev ReadsInside : Reading ProcessSays → Type 0
ReadsInside (Says s) = IsInside s
ReadsInside r = Unit {0}

-- ---- alternatives

by_option : {A : Type 0} (f : A → Reading ProcessSays) (o : Option A) (d : Reading ProcessSays) → ((x : A) → ReadsInside (f x)) → ReadsInside d → ReadsInside (option_map_or f o d)
by_option f None d each none = none
by_option f (Some x) d each none = each x

by_test : (b : Bool) (r t : Reading ProcessSays) → ReadsInside r → ReadsInside t → ReadsInside (cond b r t)
by_test true r t one other = one
by_test false r t one other = other

alone : (s : ProcessSays) → IsInside s → (words : List (List ℕ)) → ReadsInside (alone_says s words)
alone s few [] = few
alone s few (word ∷ words) = tt

-- ---- numbers

number_most : (most : ℕ) (word : List ℕ) (n : ℕ) → number_of most word ≡ Some n → n ≤ most
unfolding number_of
number_most most word n e = by_size (is_plain word && nat_le (value_after 0 word) most) refl e
  where
    by_size : (b : Bool) → (is_plain word && nat_le (value_after 0 word) most) ≡ b → cond b (Some (value_after 0 word)) None ≡ Some n → n ≤ most
    by_size true within e =
        let same : value_after 0 word ≡ n = cc in
        subst (λ (k : ℕ). k ≤ most) same (leb-true (value_after 0 word) most (and_parts (is_plain word) (nat_le (value_after 0 word) most) within).1)
    by_size false within e = absurd (cc)

at_least : (n : ℕ) → (n == 0) ≡ false → 1 ≤ n
at_least zero e = absurd (cc)
at_least (suc n) e = omega arith

paths_inside : (words : List (List ℕ)) → ReadsInside (max_paths_says words)
paths_inside [] = tt
paths_inside (word ∷ []) = by_number (number_of MULTIPATH_LIMIT word) (number_most MULTIPATH_LIMIT word)
  where
    by_zero : (n : ℕ) → n ≤ MULTIPATH_LIMIT → (b : Bool) → (n == 0) ≡ b → ReadsInside (or_unsupported (option_map (λ (n : ℕ). MaxPaths n) (cond b None (Some n))))
    by_zero n most true e = tt
    by_zero n most false e = (at_least n e, most)

    by_number : (o : Option ℕ) → ((n : ℕ) → o ≡ Some n → n ≤ MULTIPATH_LIMIT)
        → ReadsInside (or_unsupported (option_map (λ (n : ℕ). MaxPaths n) (option_and_then (λ (n : ℕ). cond (n == 0) None (Some n)) o)))
    by_number None most = tt
    by_number (Some n) most = by_zero n (most n refl) (n == 0) refl
paths_inside (a ∷ b ∷ words) = tt

-- ---- each statement

router_inside : (words : List (List ℕ)) → ReadsInside (router_id_says words)
router_inside [] = tt
router_inside (word ∷ []) = by_address (address_of word)
  where
    by_address : (o : Option ℕ) → ReadsInside (or_syntax (option_map (λ (a : ℕ). RouterId a) o))
    by_address None = tt
    by_address (Some a) = tt
router_inside (a ∷ b ∷ words) = tt

bestpath_inside : (words : List (List ℕ)) → ReadsInside (bestpath_says words)
bestpath_inside [] = tt
bestpath_inside (a ∷ []) = by_test _ Outside (Faulty Unsupported) tt tt
bestpath_inside (a ∷ b ∷ []) =
    by_test (bytes_eq a (codes "as-path")) (cond (bytes_eq b (codes "multipath-relax")) (Says Relax) (Faulty Unsupported)) (Faulty Unsupported)
    (by_test (bytes_eq b (codes "multipath-relax")) (Says Relax) (Faulty Unsupported) tt tt) tt
bestpath_inside (a ∷ b ∷ c ∷ words) = tt

family_inside : (words : List (List ℕ)) → ReadsInside (family_says words)
family_inside [] = tt
family_inside (a ∷ []) = by_test _ (Says Agrees) (Faulty Unsupported) tt tt
family_inside (a ∷ b ∷ []) =
    by_test (bytes_eq a (codes "ipv4")) (cond (bytes_eq b (codes "unicast")) (Says Agrees) (Faulty Unsupported)) (Faulty Unsupported)
    (by_test (bytes_eq b (codes "unicast")) (Says Agrees) (Faulty Unsupported) tt tt) tt
family_inside (a ∷ b ∷ c ∷ words) = tt

originates_inside : (o : Option Cidr) (words : List (List ℕ)) → MadeWhole o → ReadsInside (originates o words)
originates_inside None words whole = tt
originates_inside (Some p) [] whole = whole
originates_inside (Some p) (word ∷ words) whole = by_test _ (Faulty Unsupported) (Faulty Syntax) tt tt

masked_inside : (address : List ℕ) (words : List (List ℕ)) → ReadsInside (masked_says address words)
masked_inside address [] = tt
masked_inside address (mask ∷ words) = originates_inside (masked_prefix address mask) words (masked_made address mask)

network_inside : (words : List (List ℕ)) → ReadsInside (network_says words)
network_inside [] = tt
network_inside (address ∷ words) = by_option (masked_says address) _ (originates (class_prefix address) words) (masked_inside address) (originates_inside (class_prefix address) words (class_made address))

summary_inside : (p : Cidr) (words : List (List ℕ)) → IsCidr p.base p.len → ReadsInside (summary_says p words)
summary_inside p [] whole = whole
summary_inside p (word ∷ []) whole = by_test _ (Says (Aggregates p true)) (Faulty Syntax) whole tt
summary_inside p (a ∷ b ∷ words) whole = tt

aggregates_inside : (o : Option Cidr) (words : List (List ℕ)) → MadeWhole o → ReadsInside (aggregates o words)
aggregates_inside None words whole = tt
aggregates_inside (Some p) words whole = by_test _ (Faulty Unsupported) (summary_says p words) tt (summary_inside p words whole)

aggregate_inside : (words : List (List ℕ)) → ReadsInside (aggregate_says words)
aggregate_inside [] = tt
aggregate_inside (a ∷ []) = tt
aggregate_inside (a ∷ mask ∷ words) = aggregates_inside (masked_prefix a mask) words (masked_made a mask)

neighbor_inside : (words : List (List ℕ)) → ReadsInside (any_neighbor_says words)
neighbor_inside [] = tt
neighbor_inside (word ∷ words) = by_option (λ (a : ℕ). said_as (λ s. Of a s) (neighbor_says words)) (address_of word) (Faulty Unsupported) (λ a. of_any a (neighbor_says words)) tt
  where
    of_any : (a : ℕ) (r : Reading NeighborSays) → ReadsInside (said_as (λ (s : NeighborSays). Of a s) r)
    of_any a Outside = tt
    of_any a (Faulty cause) = tt
    of_any a (Says s) = tt

statement_inside : (words : List (List ℕ)) → ReadsInside (statement_says words)
unfolding statement_says
statement_inside words =
    by_option router_id_says (after (codes "bgp" ∷ codes "router-id" ∷ []) words) _ router_inside
    (by_option (alone_says Agrees) (after (codes "bgp" ∷ codes "always-compare-med" ∷ []) words) _ (alone Agrees tt)
    (by_option bestpath_says (after (codes "bgp" ∷ codes "bestpath" ∷ []) words) _ bestpath_inside
    (by_option max_paths_says (after (codes "maximum-paths" ∷ []) words) _ paths_inside
    (by_option family_says (after (codes "address-family" ∷ []) words) _ family_inside
    (by_option (alone_says Agrees) (after (codes "exit-address-family" ∷ []) words) _ (alone Agrees tt)
    (by_option network_says (after (codes "network" ∷ []) words) _ network_inside
    (by_option aggregate_says (after (codes "aggregate-address" ∷ []) words) _ aggregate_inside
    (by_option any_neighbor_says (after (codes "neighbor" ∷ []) words) _ neighbor_inside (by_test (is_unsupported words) (Faulty Unsupported) Outside tt tt)))))))))

-- an indented line is no header
pub opens_nothing : (words : List (List ℕ)) (n : ℕ) → statement_says words ≡ Says (Opens n) → ⊥
opens_nothing words n e = subst ReadsInside e (statement_inside words)

-- ---- what any line says

abbrev ReadsSound : Reading ProcessSays → Type 0
ReadsSound (Says s) = IsSound s
ReadsSound r = Unit {0}

sound_inside : (r : Reading ProcessSays) → ReadsInside r → ReadsSound r
sound_inside Outside inside = tt
sound_inside (Faulty cause) inside = tt
sound_inside (Says (Opens n)) inside = tt
sound_inside (Says s) inside = inside

header_sound : (r : Reading ℕ) → ReadsSound (said_as (λ (n : ℕ). Opens n) r)
header_sound Outside = tt
header_sound (Faulty cause) = tt
header_sound (Says n) = tt

text_sound : (text : List ℕ) → ReadsSound (text_says text)
text_sound text =
    cond_both (is_indented text) (statement_says (words_of text)) (said_as (λ (n : ℕ). Opens n) (header_says (words_of text))) ReadsSound (λ inner. sound_inside (statement_says (words_of text)) (statement_inside (words_of text)))
    (λ outer. header_sound (header_says (words_of text)))

pub stated_sound : (block : List Numbered) (s : Stated ProcessSays) → In s (statements_in line_says block) → IsSound s.setting
stated_sound block s i =
    let l = in_by_filter_map (λ (l : Numbered). stated_by l (line_says l)) block s i in
    subst ReadsSound (stated_is l.0 (line_says l.0) s l.2).1 (text_sound l.0.text)

-- ---- routes at once

number_few : (s : ProcessSays) (k : ℕ) → max_paths_by s ≡ Some k → IsSound s → IsFew k
number_few (MaxPaths n) k e few = let same : n ≡ k = cc in subst IsFew same few
number_few s k e few = absurd (cc)

last_few : (o : Option ℕ) (ks : List ℕ) → IsFew (unwrap_or o 1) → ((k : ℕ) → In k ks → IsFew k) → IsFew (unwrap_or (last_or o ks) 1)
last_few o [] few each = few
last_few o (k ∷ ks) few each = last_few (Some k) ks (each k (inl refl)) (λ j i. each j (inr i))

pub few_paths : (block : List Numbered) → IsFew (fields_in (statements_in line_says block)).max_paths
few_paths block =
    let ss = statements_in line_says block in
    last_few None (filter_map (λ (s : Stated ProcessSays). max_paths_by s.setting) ss) (omega arith, omega arith)
    (λ k i. let r = in_by_filter_map (λ (s : Stated ProcessSays). max_paths_by s.setting) ss k i in number_few r.0.setting k r.2 (stated_sound block r.0 r.1))
