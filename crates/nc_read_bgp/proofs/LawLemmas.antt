-- The things of a process: their keys, and the lines of each.
use Rattle.std.proofs.Common.{◌≡◌, ℕ, ◌+◌, ◌<◌, Bool, false, cond, List, [], ◌∷◌, ◌++◌, length, get_or, map, Option, Some, None, Ok, Err, All, Contains, refl, sym, ap, ◌∙◌, subst, arith, inl, inr}
use Rattle.std.specs.Prelude.{◌≢◌, unwrap_or}
use Rattle.std.specs.List.{filter_map, last_or, cons_option}
use Rattle.std.specs.List.Sorted.{IsStrictlyIncreasing}
use Rattle.std.specs.Option.{option_map_or}
use Rattle.std.proofs.lemmas.Bool.{cases_Bool}
use Rattle.std.proofs.lemmas.List.{map-append, length-map}
use Rattle.std.proofs.lemmas.List.Kept.{AllPairs-from_increasing}
use Rattle.std.proofs.lemmas.Simd.{map-map}
use Rattle.nc_types.specs.Cidr.{Cidr, IsCidr, same_prefix}
use Rattle.nc_types.specs.WellFormed.{IsProcess}
use Rattle.nc_types.specs.declared.addr.Addr.{Addr}
use Rattle.nc_types.specs.declared.fault.Fault.{Fault}
use Rattle.nc_types.specs.declared.config.Neighbor.{Neighbor}
use Rattle.nc_types.specs.declared.config.NetworkStatement.{NetworkStatement}
use Rattle.nc_types.specs.declared.config.AggregateStatement.{AggregateStatement}
use Rattle.nc_types.proofs.Members.{In, in_at, some_in, in_by_contains, contains_by_in, all_in, all_by_in, in_left, in_right, in_either, in_map, in_by_map, in_by_filter_map}
use Rattle.nc_lines.specs.Groups.{Keyed, Group, groups}
use Rattle.nc_lines.specs.Lines.{words_of, is_indented}
use Rattle.nc_lines.specs.Outcomes.{lower_of}
use Rattle.nc_lines.specs.Statements.{Reading, Says, said_as}
use Rattle.nc_lines.specs.Parts.{Numbered, lines_in, Stated, fault_in, statements_in}
use Rattle.nc_lines.proofs.Pairs.{Pairs, all_pairs, pairs_all, pairs_weaker, pairs_map, pairs_by_map, pairs_kept, pairs_append, pairs_either}
use Rattle.nc_lines.proofs.PartLemmas.{kept, stated_by, stated_is}
use Rattle.nc_lines.proofs.Grouping.{IsSame, grouped, groups_keys, group_pairs, has_grouped}
use Rattle.nc_read_bgp.specs.Statements.{NeighborSays, ProcessSays, Opens, Originates, Aggregates, Of, header_says, statement_says, line_says}
use Rattle.nc_read_bgp.specs.Neighbors.{neighbor_in}
use Rattle.nc_read_bgp.specs.Processes.{PrefixFields, prefix_in, ProcessMade, fields_in, process_of, process_in, lack_in, same_addr, asn_by, own_by, neighbor_by, network_by, aggregate_by, neighbor_of, network_of, aggregate_of}
use Rattle.nc_read_bgp.specs.Laws.{lines_of_things, lines_of_each, IsBlockOf, HaveLinesBeside, HaveLines, AreWithin, Ascend, AreApart}
use Rattle.nc_read_bgp.proofs.ProcessLemmas.{addrs_same, prefixes_same}
use Rattle.nc_read_bgp.proofs.StatementLemmas.{IsSound, opens_nothing, stated_sound, few_paths}

-- ---- statements and their lines

abbrev pub LineAscend : {S : Type 0} → List (Stated S) → Type 0
LineAscend ss = Pairs (λ s t. s.line < t.line) ss

-- what a line says, with its number
abbrev stated_at : Numbered → Option (Stated ProcessSays)
stated_at l = stated_by l (line_says l)

in_block : (block : List Numbered) (s : Stated ProcessSays) → In s (statements_in line_says block) → In s.line (lines_in block)
in_block block s i =
    let l = in_by_filter_map stated_at block s i in
    subst (λ (k : ℕ). In k (lines_in block)) (stated_is l.0 (line_says l.0) s l.2).0 (in_map (λ (l : Numbered). l.line) block l.0 l.1)

pub block_ascends : (block : List Numbered) → IsStrictlyIncreasing (lines_in block) → Pairs (λ l m. l.line < m.line) block
block_ascends block up =
    pairs_by_map (λ (l : Numbered). l.line) (λ a b. a < b) block (pairs_all (λ a b. a < b) (lines_in block) (AllPairs-from_increasing (lines_in block) up))

pub statements_ascend : (block : List Numbered) → IsStrictlyIncreasing (lines_in block) → LineAscend (statements_in line_says block)
statements_ascend block up =
    pairs_kept stated_at (λ (l m : Numbered). l.line < m.line) (λ (s t : Stated ProcessSays). s.line < t.line) block
    (λ l m s t hl hm less e f.
    subst (λ (k : ℕ). k < t.line) (stated_is l (line_says l) s e).0 (subst (λ (k : ℕ). l.line < k) (stated_is m (line_says m) t f).0 less))
    (block_ascends block up)

-- statements of one line are one
one_of_line : (ss : List (Stated ProcessSays)) → LineAscend ss → (s t : Stated ProcessSays) → In s ss → In t ss → s.line ≡ t.line → s ≡ t
one_of_line ss up s t i j same =
    let apart : Pairs (λ (s t : Stated ProcessSays). s.line ≢ t.line) ss =
    pairs_weaker (λ (s t : Stated ProcessSays). s.line < t.line) (λ (s t : Stated ProcessSays). s.line ≢ t.line) ss (λ s t hs ht less e. omega (arith, less, e)) up in
    elim (pairs_either (λ (s t : Stated ProcessSays). s.line ≢ t.line) ss (λ s t other e. other (sym e)) apart s t i j) [
      | inl one ↦ one
      | inr other ↦ absurd (other same)
    ]

-- ---- of what a statement speaks

data Topic : Type 0 where
  Itself : Topic
  Near : Addr → Topic
  Origin : Cidr → Topic
  Summary : Cidr → Topic

abbrev topic_of : ProcessSays → Topic
topic_of (Originates p) = Origin p
topic_of (Aggregates p b) = Summary p
topic_of (Of a s) = Near (record { 0 = a })
topic_of s = Itself

-- the number of a topic's kind
abbrev kind_of : Topic → ℕ
kind_of Itself = 0
kind_of (Near a) = 1
kind_of (Origin p) = 2
kind_of (Summary p) = 3

own_topic : (line : ℕ) (s : ProcessSays) (k : ℕ) → own_by line s ≡ Some k → (line ≡ k) × (topic_of s ≡ Itself)
own_topic line (Originates p) k e = absurd (cc)
own_topic line (Aggregates p b) k e = absurd (cc)
own_topic line (Of a t) k e = absurd (cc)
own_topic line s k e = (cc, refl)

-- a statement by its key is one of that line, which speaks of this
abbrev Speaks : {K V : Type 0} → (Stated ProcessSays → Option (Keyed K (Stated V))) → (K → Topic) → Type 0
Speaks {K} {V} by topic = (s : Stated ProcessSays) (p : Keyed K (Stated V)) → by s ≡ Some p → (s.line ≡ p.value.line) × (topic_of s.setting ≡ topic p.key)

abbrev pub near : Stated ProcessSays → Option (Keyed Addr (Stated NeighborSays))
near s = neighbor_by s.line s.setting

abbrev origin : Stated ProcessSays → Option (Keyed Cidr (Stated Bool))
origin s = network_by s.line s.setting

abbrev summary : Stated ProcessSays → Option (Keyed Cidr (Stated Bool))
summary s = aggregate_by s.line s.setting

near_topic : (line : ℕ) (s : ProcessSays) (p : Keyed Addr (Stated NeighborSays)) → neighbor_by line s ≡ Some p → (line ≡ p.value.line) × (topic_of s ≡ Near p.key)
near_topic line (Of a t) p e =
    let same : record { key = record { 0 = a }; value = record { line = line; setting = t } } ≡ p = cc in (ap (λ (p : Keyed Addr (Stated NeighborSays)). p.value.line) same, ap (λ (p : Keyed Addr (Stated NeighborSays)). Near p.key) same)
near_topic line s p e = absurd (cc)

origin_topic : (line : ℕ) (s : ProcessSays) (p : Keyed Cidr (Stated Bool)) → network_by line s ≡ Some p → (line ≡ p.value.line) × (topic_of s ≡ Origin p.key)
origin_topic line (Originates q) p e =
    let same : record { key = q; value = record { line = line; setting = false } } ≡ p = cc in
    (ap (λ (p : Keyed Cidr (Stated Bool)). p.value.line) same, ap (λ (p : Keyed Cidr (Stated Bool)). Origin p.key) same)
origin_topic line s p e = absurd (cc)

summary_topic : (line : ℕ) (s : ProcessSays) (p : Keyed Cidr (Stated Bool)) → aggregate_by line s ≡ Some p → (line ≡ p.value.line) × (topic_of s ≡ Summary p.key)
summary_topic line (Aggregates q b) p e =
    let same : record { key = q; value = record { line = line; setting = b } } ≡ p = cc in (ap (λ (p : Keyed Cidr (Stated Bool)). p.value.line) same, ap (λ (p : Keyed Cidr (Stated Bool)). Summary p.key) same)
summary_topic line s p e = absurd (cc)

near_speaks : Speaks near Near
near_speaks s p e = near_topic s.line s.setting p e

origin_speaks : Speaks origin Origin
origin_speaks s p e = origin_topic s.line s.setting p e

summary_speaks : Speaks summary Summary
summary_speaks s p e = summary_topic s.line s.setting p e

-- ---- the lines of the things of one kind

-- a topic, and the lines that speak of it
abbrev Told : Type 0
Told = Topic × List ℕ

abbrev told : {K V : Type 0} → (K → Topic) → Group K (Stated V) → Told
told topic g = (topic g.key, map (λ s. s.line) g.values)

kind_is : {K V : Type 0} (topic : K → Topic) (n : ℕ) → ((key : K) → kind_of (topic key) ≡ n) → (gs : List (Group K (Stated V))) (t : Told) → In t (map (told topic) gs) → kind_of t.0 ≡ n
kind_is topic n is gs t i = let g = in_by_map (told topic) gs t i in ap (λ (t : Told). kind_of t.0) (sym g.2) ∙ is g.0.key

-- each line is that of a statement that speaks of this
abbrev IsSpoken : List (Stated ProcessSays) → Told → Type 0
IsSpoken ss t = (k : ℕ) → In k t.1 → (s : Stated ProcessSays) × In s ss × (s.line ≡ k) × (topic_of s.setting ≡ t.0)

module _ {K V : Type 0} (same : K → K → Bool) (is : IsSame same) (by : Stated ProcessSays → Option (Keyed K (Stated V))) (topic : K → Topic) (speaks : Speaks by topic) where
  abbrev keyed : List (Stated ProcessSays) → List (Keyed K (Stated V))
  keyed ss = filter_map by ss

  abbrev of_kind : List (Stated ProcessSays) → List Told
  of_kind ss = map (told topic) (groups same (keyed ss))

  kind_spoken : (ss : List (Stated ProcessSays)) (t : Told) → In t (of_kind ss) → IsSpoken ss t
  kind_spoken ss t i k j =
      let g = in_by_map (told topic) (groups same (keyed ss)) t i in
      let v = in_by_map (λ (s : Stated V). s.line) g.0.values k (subst (λ (t : Told). In k t.1) (sym g.2) j) in
      let p = has_grouped same is (keyed ss) g.0 v.0 g.1 v.1 in
      let s = in_by_filter_map by ss p.0 p.1 in
      let of_it = speaks s.0 p.0 s.2 in
      (s.0, s.1, of_it.0 ∙ ap (λ (v : Stated V). v.line) p.3 ∙ v.2, of_it.1 ∙ ap topic p.2 ∙ ap (λ (t : Told). t.0) g.2)

  keyed_ascend : (ss : List (Stated ProcessSays)) → LineAscend ss → Pairs (λ p q. p.value.line < q.value.line) (keyed ss)
  keyed_ascend ss up =
      pairs_kept by (λ (s t : Stated ProcessSays). s.line < t.line) (λ p q. p.value.line < q.value.line) ss
      (λ s t p q hs ht less e f. subst (λ (k : ℕ). k < q.value.line) (speaks s p e).0 (subst (λ (k : ℕ). s.line < k) (speaks t q f).0 less)) up

  kind_ascends : (ss : List (Stated ProcessSays)) → LineAscend ss → (t : Told) → In t (of_kind ss) → Pairs (λ a b. a < b) t.1
  kind_ascends ss up t i =
      let g = in_by_map (told topic) (groups same (keyed ss)) t i in
      subst (λ (t : Told). Pairs (λ a b. a < b) t.1) g.2
      (pairs_map (λ (s : Stated V). s.line) (λ s t. s.line < t.line) (λ a b. a < b) g.0.values (λ s t hs ht less. less)
      (group_pairs same is (λ (s t : Stated V). s.line < t.line) (keyed ss) (keyed_ascend ss up) g.0 g.1))

  kind_has : (ss : List (Stated ProcessSays)) (t : Told) → In t (of_kind ss) → 0 < length t.1
  kind_has ss t i =
      let g = in_by_map (told topic) (groups same (keyed ss)) t i in
      let some = (grouped same is (keyed ss) g.0 g.1).1 in
      let one : 0 < length (map (λ (s : Stated V). s.line) (some.0 ∷ some.1)) = omega arith in
      subst (λ (t : Told). 0 < length t.1) g.2 (subst (λ (vs : List (Stated V)). 0 < length (map (λ s. s.line) vs)) (sym some.2) one)

  kind_apart : ((a b : K) → topic a ≡ topic b → a ≡ b) → (ss : List (Stated ProcessSays)) → Pairs (λ t u. t.0 ≢ u.0) (of_kind ss)
  kind_apart one ss =
      pairs_map (told topic) (λ (g h : Group K (Stated V)). g.key ≢ h.key) (λ (t u : Told). t.0 ≢ u.0) (groups same (keyed ss)) (λ g h hg hh differ e. differ (one g.key h.key e)) (groups_keys same is (keyed ss))

-- ---- the lines of each

abbrev nears : List (Stated ProcessSays) → List Told
nears ss = map (told Near) (groups same_addr (filter_map near ss))

abbrev origins : List (Stated ProcessSays) → List Told
origins ss = map (told Origin) (groups same_prefix (filter_map origin ss))

abbrev summaries : List (Stated ProcessSays) → List Told
summaries ss = map (told Summary) (groups same_prefix (filter_map summary ss))

abbrev things_told : List (Stated ProcessSays) → List Told
things_told ss = nears ss ++ (origins ss ++ summaries ss)

abbrev own_lines : List (Stated ProcessSays) → List ℕ
own_lines ss = filter_map (λ s. own_by s.line s.setting) ss

abbrev all_told : List (Stated ProcessSays) → List Told
all_told ss = (Itself, own_lines ss) ∷ things_told ss

abbrev made_of : List (Stated ProcessSays) → ProcessMade
made_of ss = process_of (fields_in ss)

lines_told : (ss : List (Stated ProcessSays)) → map (λ t. t.1) (things_told ss) ≡ lines_of_things (made_of ss)
lines_told ss =
    let near_groups = groups same_addr (filter_map near ss) in
    let origin_groups = groups same_prefix (filter_map origin ss) in
    let summary_groups = groups same_prefix (filter_map summary ss) in
    map-append (λ (t : Told). t.1) (nears ss) (origins ss ++ summaries ss)
    ∙ ap (λ (r : List (List ℕ)). r ++ map (λ (t : Told). t.1) (origins ss ++ summaries ss))
    (map-map (λ (t : Told). t.1) (told Near) near_groups ∙ sym (map-map (λ e. e.1.lines) (λ g. (g.key, neighbor_in g.values)) near_groups))
    ∙ ap (λ (r : List (List ℕ)). (made_of ss).neighbors ++ r)
    (map-append (λ (t : Told). t.1) (origins ss) (summaries ss)
    ∙ ap (λ (r : List (List ℕ)). r ++ map (λ (t : Told). t.1) (summaries ss))
    (map-map (λ (t : Told). t.1) (told Origin) origin_groups ∙ sym (map-map (λ e. e.1.lines) (λ g. (g.key, prefix_in g.values)) origin_groups))
    ∙ ap (λ (r : List (List ℕ)). (made_of ss).networks ++ r)
    (map-map (λ (t : Told). t.1) (told Summary) summary_groups ∙ sym (map-map (λ e. e.1.lines) (λ g. (g.key, prefix_in g.values)) summary_groups)))

all_lines_told : (ss : List (Stated ProcessSays)) → map (λ t. t.1) (all_told ss) ≡ lines_of_each (made_of ss)
all_lines_told ss = ap (λ (r : List (List ℕ)). own_lines ss ∷ r) (lines_told ss)

-- the statements of neighbors
pub near_ascend : (ss : List (Stated ProcessSays)) → LineAscend ss → Pairs (λ p q. p.value.line < q.value.line) (filter_map near ss)
near_ascend ss up = keyed_ascend same_addr addrs_same near Near near_speaks ss up

-- what holds of the things of each kind holds of each
module _ (ss : List (Stated ProcessSays)) (P : Told → Type 0) (n : (t : Told) → In t (nears ss) → P t) (o : (t : Told) → In t (origins ss) → P t) (s : (t : Told) → In t (summaries ss) → P t) where
  each_thing : (t : Told) → In t (things_told ss) → P t
  each_thing t i =
      elim (in_either (nears ss) (origins ss ++ summaries ss) t i) [
        | inl first ↦ n t first
        | inr later ↦ elim (in_either (origins ss) (summaries ss) t later) [
          | inl middle ↦ o t middle
          | inr last ↦ s t last
        ]
      ]

  each_told : P (Itself, own_lines ss) → (t : Told) → In t (all_told ss) → P t
  each_told own t (inl same) = subst P same own
  each_told own t (inr later) = each_thing t later

own_spoken : (ss : List (Stated ProcessSays)) → IsSpoken ss (Itself, own_lines ss)
own_spoken ss k i =
    let s = in_by_filter_map (λ (s : Stated ProcessSays). own_by s.line s.setting) ss k i in
    let of_it = own_topic s.0.line s.0.setting k s.2 in
    (s.0, s.1, of_it.0, of_it.1)

own_ascends : (ss : List (Stated ProcessSays)) → LineAscend ss → Pairs (λ a b. a < b) (own_lines ss)
own_ascends ss up =
    pairs_kept (λ (s : Stated ProcessSays). own_by s.line s.setting) (λ (s t : Stated ProcessSays). s.line < t.line) (λ a b. a < b) ss
    (λ s t a b hs ht less e f. subst (λ (k : ℕ). k < b) (own_topic s.line s.setting a e).0 (subst (λ (k : ℕ). s.line < k) (own_topic t.line t.setting b f).0 less)) up

each_spoken : (ss : List (Stated ProcessSays)) (t : Told) → In t (all_told ss) → IsSpoken ss t
each_spoken ss =
    each_told ss (IsSpoken ss) (kind_spoken same_addr addrs_same near Near near_speaks ss) (kind_spoken same_prefix prefixes_same origin Origin origin_speaks ss)
    (kind_spoken same_prefix prefixes_same summary Summary summary_speaks ss) (own_spoken ss)

each_ascends : (ss : List (Stated ProcessSays)) → LineAscend ss → (t : Told) → In t (all_told ss) → Pairs (λ a b. a < b) t.1
each_ascends ss up =
    each_told ss (λ (t : Told). Pairs (λ a b. a < b) t.1) (kind_ascends same_addr addrs_same near Near near_speaks ss up)
    (kind_ascends same_prefix prefixes_same origin Origin origin_speaks ss up) (kind_ascends same_prefix prefixes_same summary Summary summary_speaks ss up) (own_ascends ss up)

each_has : (ss : List (Stated ProcessSays)) (t : Told) → In t (things_told ss) → 0 < length t.1
each_has ss =
    each_thing ss (λ (t : Told). 0 < length t.1) (kind_has same_addr addrs_same near Near near_speaks ss) (kind_has same_prefix prefixes_same origin Origin origin_speaks ss)
    (kind_has same_prefix prefixes_same summary Summary summary_speaks ss)

-- each thing is one of which a statement speaks
thing_spoken : (ss : List (Stated ProcessSays)) (t : Told) → In t (things_told ss) → (s : Stated ProcessSays) × In s ss × (topic_of s.setting ≡ t.0)
thing_spoken ss t i =
    let some = each_has ss t i in
    let s = each_spoken ss t (inr i) (get_or t.1 0 0) (in_at t.1 0 0 some) in
    (s.0, s.1, s.3)

topics_apart : (ss : List (Stated ProcessSays)) → Pairs (λ t u. t.0 ≢ u.0) (all_told ss)
topics_apart ss =
    let kind_near : (t : Told) → In t (nears ss) → kind_of t.0 ≡ 1 = kind_is Near 1 (λ a. refl) (groups same_addr (filter_map near ss)) in
    let kind_origin : (t : Told) → In t (origins ss) → kind_of t.0 ≡ 2 = kind_is Origin 2 (λ p. refl) (groups same_prefix (filter_map origin ss)) in
    let kind_summary : (t : Told) → In t (summaries ss) → kind_of t.0 ≡ 3 = kind_is Summary 3 (λ p. refl) (groups same_prefix (filter_map summary ss)) in (
      λ t i e.
          let one = ap kind_of e in
          each_thing ss (λ (t : Told). kind_of t.0 ≡ 0 → ⊥) (λ t i zero. let k = kind_near t i in omega (arith, k, zero)) (λ t i zero. let k = kind_origin t i in omega (arith, k, zero))
          (λ t i zero. let k = kind_summary t i in omega (arith, k, zero)) t i (sym one),
      pairs_append (λ (t u : Told). t.0 ≢ u.0) (nears ss) (origins ss ++ summaries ss) (kind_apart same_addr addrs_same near Near near_speaks (λ a b e. cc) ss)
          (pairs_append (λ (t u : Told). t.0 ≢ u.0) (origins ss) (summaries ss) (kind_apart same_prefix prefixes_same origin Origin origin_speaks (λ a b e. cc) ss)
          (kind_apart same_prefix prefixes_same summary Summary summary_speaks (λ a b e. cc) ss)
          (λ t u i j e. let a = kind_origin t i in let b = kind_summary u j in let c = ap kind_of e in omega (arith, a, b, c)))
          (λ t u i j e.
          let a = kind_near t i in
          let c = ap kind_of e in
          elim (in_either (origins ss) (summaries ss) u j) [
            | inl middle ↦ let b = kind_origin u middle in omega (arith, a, b, c)
            | inr last ↦ let b = kind_summary u last in omega (arith, a, b, c)
          ]),
    )

-- ---- what was made

was_made : (block : List Numbered) (made : ProcessMade) → process_in block ≡ Ok made → made_of (statements_in line_says block) ≡ made
unfolding process_in
was_made block made e =
    let fields = fields_in (statements_in line_says block) in
    by_fault (lower_of (fault_in line_says block) (lack_in fields.neighbors)) e
  where
    by_fault : (o : Option Fault) → option_map_or Err o (Ok (made_of (statements_in line_says block))) ≡ Ok made → made_of (statements_in line_says block) ≡ made
    by_fault None e = cc
    by_fault (Some f) e = absurd (cc)

pub have_lines : (block : List Numbered) (made : ProcessMade) → process_in block ≡ Ok made → HaveLines (lines_of_things made)
have_lines block made e =
    let ss = statements_in line_says block in
    subst (λ (made : ProcessMade). HaveLines (lines_of_things made)) (was_made block made e)
    (subst HaveLines (lines_told ss)
    (all_by_in (λ (ks : List ℕ). 0 < length ks) (map (λ t. t.1) (things_told ss))
    (λ ks i. let t = in_by_map (λ (t : Told). t.1) (things_told ss) ks i in subst (λ (ks : List ℕ). 0 < length ks) t.2 (each_has ss t.0 t.1))))

in_more : {Y : Type 0} (o : Option Y) (ys : List Y) (y : Y) → In y ys → In y (cons_option o ys)
in_more None ys y i = i
in_more (Some z) ys y i = inr i

in_kept : {X Y : Type 0} (f : X → Option Y) (xs : List X) (x : X) (y : Y) → In x xs → f x ≡ Some y → In y (filter_map f xs)
in_kept f [] x y i e = absurd i
in_kept {X} {Y} f (z ∷ xs) x y (inl same) e = subst (In y) (sym (kept f z y xs (ap f same ∙ e))) (inl refl)
in_kept f (z ∷ xs) x y (inr later) e = in_more (f z) (filter_map f xs) y (in_kept f xs x y later e)

-- the statement of a header
header_stated : (block : List Numbered) (l : Numbered) (asn : ℕ) → Contains block l → line_says l ≡ Says (Opens asn) → In (record { line = l.line; setting = Opens asn }) (statements_in line_says block)
header_stated block l asn within opens =
    in_kept stated_at block l (record { line = l.line; setting = Opens asn }) (in_by_contains block l within)
    (ap (stated_by l) opens)

-- beside each thing stand its lines
pub have_lines_beside : (block : List Numbered) (made : ProcessMade) → process_in block ≡ Ok made → HaveLinesBeside made
have_lines_beside block made e =
    let fields = fields_in (statements_in line_says block) in
    subst HaveLinesBeside (was_made block made e)
    (record {
      neighbors = length-map fields.neighbors (λ e. e.1.lines) ∙ sym (length-map fields.neighbors neighbor_of);
      networks = length-map fields.networks (λ e. e.1.lines) ∙ sym (length-map fields.networks network_of);
      aggregates = length-map fields.aggregates (λ e. e.1.lines) ∙ sym (length-map fields.aggregates aggregate_of);
    })

-- ---- the number of a process

opens_by : (s : ProcessSays) (n : ℕ) → asn_by s ≡ Some n → s ≡ Opens n
opens_by (Opens m) n e = cc
opens_by s n e = absurd (cc)

-- the last of numbers that are all one
last_is : (o : Option ℕ) (ks : List ℕ) (n : ℕ) → unwrap_or o 0 ≡ n → ((k : ℕ) → In k ks → k ≡ n) → unwrap_or (last_or o ks) 0 ≡ n
last_is o [] n is each = is
last_is o (k ∷ ks) n is each = last_is (Some k) ks n (each k (inl refl)) (λ j i. each j (inr i))

last_is_one : (ks : List ℕ) (n : ℕ) → In n ks → ((k : ℕ) → In k ks → k ≡ n) → unwrap_or (last_or None ks) 0 ≡ n
last_is_one [] n i each = absurd i
last_is_one (k ∷ ks) n i each = last_is (Some k) ks n (each k (inl refl)) (λ j i. each j (inr i))

-- ---- the block of a file

header_opens : (l : Numbered) (asn : ℕ) → is_indented l.text ≡ false → header_says (words_of l.text) ≡ Says asn → line_says l ≡ Says (Opens asn)
header_opens l asn outer says =
    let opened : Reading ℕ → Reading ProcessSays = λ r. said_as (λ n. Opens n) r in
    ap (λ (b : Bool). cond b (statement_says (words_of l.text)) (opened (header_says (words_of l.text)))) outer ∙ ap opened says

one_number : (r : Reading ProcessSays) (m n : ℕ) → r ≡ Says (Opens m) → r ≡ Says (Opens n) → n ≡ m
one_number r m n e f = let same : Says (Opens m) ≡ Says (Opens n) = sym e ∙ f in cc

-- what opens a process in its block has its number
opens_it : (l : Numbered) (asn n : ℕ) → (is_indented l.text ≡ false → header_says (words_of l.text) ≡ Says asn) → line_says l ≡ Says (Opens n) → n ≡ asn
opens_it l asn n header opens =
    elim (cases_Bool (is_indented l.text)) [
      | inl inner ↦ absurd (opens_nothing (words_of l.text) n (sym (ap (λ (b : Bool). cond b (statement_says (words_of l.text)) (said_as (λ n. Opens n) (header_says (words_of l.text)))) inner) ∙ opens))
      | inr outer ↦ one_number (line_says l) asn n (header_opens l asn outer (header outer)) opens
    ]

-- the statement of its first line
first_stated : (asn : ℕ) (block : List Numbered) → IsBlockOf asn block → (n : ℕ) × In (record { line = n; setting = Opens asn }) (statements_in line_says block)
first_stated asn [] is = absurd is
first_stated asn (l ∷ block) is =
    (l.line, header_stated (l ∷ block) l asn (contains_by_in (l ∷ block) l (inl refl)) (header_opens l asn is.0 (all_in (λ (l : Numbered). is_indented l.text ≡ false → header_says (words_of l.text) ≡ Says asn) (l ∷ block) is.1 l (inl refl) is.0)))

block_headers : (asn : ℕ) (block : List Numbered) → IsBlockOf asn block → (l : Numbered) → In l block → is_indented l.text ≡ false → header_says (words_of l.text) ≡ Says asn
block_headers asn [] is l i = absurd is
block_headers asn (m ∷ block) is l i = all_in (λ (l : Numbered). is_indented l.text ≡ false → header_says (words_of l.text) ≡ Says asn) (m ∷ block) is.1 l i

pub own_line : (asn : ℕ) (block : List Numbered) (made : ProcessMade) → process_in block ≡ Ok made → IsBlockOf asn block → 0 < length made.own
own_line asn block made e is =
    let ss = statements_in line_says block in
    let first = first_stated asn block is in
    subst (λ (made : ProcessMade). 0 < length made.own) (was_made block made e)
    (some_in (own_lines ss) first.0 (in_kept (λ (s : Stated ProcessSays). own_by s.line s.setting) ss (record { line = first.0; setting = Opens asn }) first.0 first.1 refl))

pub own_number : (asn : ℕ) (block : List Numbered) (made : ProcessMade) → process_in block ≡ Ok made → IsBlockOf asn block → made.process.asn ≡ asn
own_number asn block made e is =
    let ss = statements_in line_says block in
    let first = first_stated asn block is in
    let numbers = filter_map (λ (s : Stated ProcessSays). asn_by s.setting) ss in
    let some : In asn numbers = in_kept (λ (s : Stated ProcessSays). asn_by s.setting) ss (record { line = first.0; setting = Opens asn }) asn first.1 refl in
    subst (λ (made : ProcessMade). made.process.asn ≡ asn) (was_made block made e)
    (last_is_one numbers asn some
    (λ k i.
    let s = in_by_filter_map (λ (s : Stated ProcessSays). asn_by s.setting) ss k i in
    let m = in_by_filter_map stated_at block s.0 s.1 in
    opens_it m.0 asn k (block_headers asn block is m.0 m.1) ((stated_is m.0 (line_says m.0) s.0 m.2).1 ∙ ap (λ (s : ProcessSays). Says s) (opens_by s.0.setting k s.2))))

pub are_within : (block : List Numbered) (made : ProcessMade) → process_in block ≡ Ok made → AreWithin (lines_in block) (lines_of_each made)
are_within block made e =
    let ss = statements_in line_says block in
    subst (λ (made : ProcessMade). AreWithin (lines_in block) (lines_of_each made)) (was_made block made e)
    (subst (AreWithin (lines_in block)) (all_lines_told ss)
    (all_by_in (λ (ks : List ℕ). All (λ k. Contains (lines_in block) k) ks) (map (λ t. t.1) (all_told ss))
    (λ ks i.
    let t = in_by_map (λ (t : Told). t.1) (all_told ss) ks i in
    all_by_in (λ (k : ℕ). Contains (lines_in block) k) ks
    (λ k j.
    let s = each_spoken ss t.0 t.1 k (subst (λ (ks : List ℕ). In k ks) (sym t.2) j) in
    contains_by_in (lines_in block) k (subst (λ (k : ℕ). In k (lines_in block)) s.2 (in_block block s.0 s.1))))))

increases : (ks : List ℕ) → Pairs (λ a b. a < b) ks → IsStrictlyIncreasing ks
increases ks up = λ k within. all_pairs (λ a b. a < b) ks up k (k + 1) 0 (omega arith) within

pub ascend : (block : List Numbered) (made : ProcessMade) → process_in block ≡ Ok made → IsStrictlyIncreasing (lines_in block) → Ascend (lines_of_each made)
ascend block made e up =
    let ss = statements_in line_says block in
    subst (λ (made : ProcessMade). Ascend (lines_of_each made)) (was_made block made e)
    (subst Ascend (all_lines_told ss)
    (all_by_in (λ (ks : List ℕ). IsStrictlyIncreasing ks) (map (λ t. t.1) (all_told ss))
    (λ ks i. let t = in_by_map (λ (t : Told). t.1) (all_told ss) ks i in increases ks (subst (Pairs (λ a b. a < b)) t.2 (each_ascends ss (statements_ascend block up) t.0 t.1)))))

pub are_apart : (block : List Numbered) (made : ProcessMade) → process_in block ≡ Ok made → IsStrictlyIncreasing (lines_in block) → AreApart (lines_of_each made)
are_apart block made e up =
    let ss = statements_in line_says block in
    subst (λ (made : ProcessMade). AreApart (lines_of_each made)) (was_made block made e)
    (subst AreApart (all_lines_told ss)
    (all_pairs (λ p q. (line : ℕ) → Contains p line → Contains q line → ⊥) (map (λ t. t.1) (all_told ss))
    (pairs_map (λ (t : Told). t.1) (λ (t u : Told). t.0 ≢ u.0) (λ p q. (line : ℕ) → Contains p line → Contains q line → ⊥) (all_told ss)
    (λ t u i j differ k c d.
    let a = each_spoken ss t i k (in_by_contains t.1 k c) in
    let b = each_spoken ss u j k (in_by_contains u.1 k d) in
    let one : a.0 ≡ b.0 = one_of_line ss (statements_ascend block up) a.0 b.0 a.1 b.1 (a.2 ∙ sym b.2) in
    differ (sym a.3 ∙ ap (λ (s : Stated ProcessSays). topic_of s.setting) one ∙ b.3))
    (topics_apart ss))))

-- things that are made of groups have keys of their own
keys_apart : {K V X : Type 0} (same : K → K → Bool) → IsSame same → (f : Group K V → X) (R : X → X → Type 0) (ps : List (Keyed K V)) → ((g h : Group K V) → g.key ≢ h.key → R (f g) (f h)) → Pairs R (map f (groups same ps))
keys_apart {K} {V} same is f R ps to = pairs_map f (λ (g h : Group K V). g.key ≢ h.key) R (groups same ps) (λ g h hg hh differ. to g h differ) (groups_keys same is ps)

-- no host bits stand in the prefix of a topic
abbrev IsWhole : Topic → Type 0
IsWhole (Origin p) = IsCidr p.base p.len
IsWhole (Summary p) = IsCidr p.base p.len
IsWhole t = Unit {0}

topic_whole : (s : ProcessSays) → IsSound s → IsWhole (topic_of s)
topic_whole (Originates p) sound = sound
topic_whole (Aggregates p summary_only) sound = sound
topic_whole (Of a s) sound = tt
topic_whole s sound = tt

things_whole : (block : List Numbered) (t : Told) → In t (things_told (statements_in line_says block)) → IsWhole t.0
things_whole block t i = let s = thing_spoken (statements_in line_says block) t i in subst IsWhole s.2 (topic_whole s.0.setting (stated_sound block s.0 s.1))

-- what is made of prefixes keeps them
prefixes_whole : {X : Type 0} (f : Cidr × PrefixFields → X) (prefix : X → Cidr) → ((e : Cidr × PrefixFields) → prefix (f e) ≡ e.0) → (gs : List (Group Cidr (Stated Bool)))
    → ((g : Group Cidr (Stated Bool)) → In g gs → IsCidr g.key.base g.key.len) → All (λ x. IsCidr (prefix x).base (prefix x).len) (map f (map (λ g. (g.key, prefix_in g.values)) gs))
prefixes_whole {X} f prefix keeps gs each =
    let fields : Group Cidr (Stated Bool) → Cidr × PrefixFields = λ g. (g.key, prefix_in g.values) in
    all_by_in (λ (x : X). IsCidr (prefix x).base (prefix x).len) (map f (map fields gs))
    (λ x i.
    let e = in_by_map f (map fields gs) x i in
    let g = in_by_map fields gs e.0 e.1 in
    subst (λ (p : Cidr). IsCidr p.base p.len) (ap (λ (e : Cidr × PrefixFields). e.0) g.2 ∙ sym (keeps e.0) ∙ ap prefix e.2) (each g.0 g.1))

pub well_formed : (block : List Numbered) (made : ProcessMade) → process_in block ≡ Ok made → IsProcess made.process
well_formed block made e =
    let ss = statements_in line_says block in
    let fields = fields_in ss in
    subst (λ (made : ProcessMade). IsProcess made.process) (was_made block made e)
    (record {
      neighbors =
          all_pairs (λ (m n : Neighbor). m.addr.0 ≢ n.addr.0) (made_of ss).process.neighbors
          (pairs_map neighbor_of (λ a b. a.0 ≢ b.0) (λ m n. m.addr.0 ≢ n.addr.0) fields.neighbors (λ a b ha hb differ same. differ (ap (λ (n : ℕ). record { 0 = n }) same))
          (keys_apart same_addr addrs_same (λ g. (g.key, neighbor_in g.values)) (λ a b. a.0 ≢ b.0) (filter_map near ss) (λ g h differ. differ)));
      networks =
          all_pairs (λ (m n : NetworkStatement). m.prefix ≢ n.prefix) (made_of ss).process.networks
          (pairs_map network_of (λ a b. a.0 ≢ b.0) (λ m n. m.prefix ≢ n.prefix) fields.networks (λ a b ha hb differ. differ)
          (keys_apart same_prefix prefixes_same (λ g. (g.key, prefix_in g.values)) (λ a b. a.0 ≢ b.0) (filter_map origin ss) (λ g h differ. differ)));
      aggregates =
          all_pairs (λ (m n : AggregateStatement). m.prefix ≢ n.prefix) (made_of ss).process.aggregates
          (pairs_map aggregate_of (λ a b. a.0 ≢ b.0) (λ m n. m.prefix ≢ n.prefix) fields.aggregates (λ a b ha hb differ. differ)
          (keys_apart same_prefix prefixes_same (λ g. (g.key, prefix_in g.values)) (λ a b. a.0 ≢ b.0) (filter_map summary ss) (λ g h differ. differ)));
      network_prefixes =
          let gs = groups same_prefix (filter_map origin ss) in
          prefixes_whole network_of (λ (n : NetworkStatement). n.prefix) (λ e. refl) gs
          (λ g i. things_whole block (told Origin g) (in_right (nears ss) (origins ss ++ summaries ss) (told Origin g) (in_left (origins ss) (summaries ss) (told Origin g) (in_map (told Origin) gs g i))));
      aggregate_prefixes =
          let gs = groups same_prefix (filter_map summary ss) in
          prefixes_whole aggregate_of (λ (a : AggregateStatement). a.prefix) (λ e. refl) gs
          (λ g i. things_whole block (told Summary g) (in_right (nears ss) (origins ss ++ summaries ss) (told Summary g) (in_right (origins ss) (summaries ss) (told Summary g) (in_map (told Summary) gs g i))));
      paths = few_paths block;
    })
