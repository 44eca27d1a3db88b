-- The process that lines make one by one is the one that is made of the statements of each of its things.
use Rattle.std.proofs.Common.{◌≡◌, ℕ, Bool, false, ◌||◌, ◌==◌, List, [], ◌∷◌, ◌++◌, map, Option, Some, None, Ok, Err, refl, ap, ◌∙◌}
use Rattle.std.specs.Prelude.{unwrap_or}
use Rattle.std.specs.List.{fold, filter_map, last_or, list_any}
use Rattle.std.specs.Option.{option_map_or}
use Rattle.std.proofs.lemmas.Bool.{and_from, eq-eqb, eqb-true}
use Rattle.nc_types.specs.Cidr.{Cidr, same_prefix}
use Rattle.nc_types.specs.declared.addr.Addr.{Addr}
use Rattle.nc_types.specs.declared.config.Reference.{Reference}
use Rattle.nc_types.proofs.Sameness.{same_prefix_is}
use Rattle.nc_types.proofs.Truth.{or_false}
use Rattle.nc_lines.specs.Outcomes.{lower_of}
use Rattle.nc_lines.specs.Parts.{Numbered, Stated, fault_in, statements_in}
use Rattle.nc_lines.specs.Groups.{Keyed}
use Rattle.nc_lines.proofs.Grouping.{IsSame, equiv_of}
use Rattle.nc_read_bgp.specs.Kept.{put_in}
use Rattle.nc_read_bgp.specs.Statements.{NeighborSays, ProcessSays, Opens, RouterId, MaxPaths, Relax, Originates, Aggregates, Of, line_says}
use Rattle.nc_read_bgp.specs.Neighbors.{NeighborFields, neighbor_in, remote_as_by, source_by, map_in_by, map_out_by, is_multihop, is_self_hop, sends_communities, shuts}
use Rattle.nc_read_bgp.specs.Processes.{things, PrefixFields, prefix_in, ProcessFields, fields_in, process_of, process_in, lack_in, same_addr, asn_by, router_id_by, max_paths_by, is_relax, own_by, neighbor_by, network_by, aggregate_by}
use Rattle.nc_read_bgp.specs.Steps.{no_neighbor, neighbor_with, no_prefix, prefix_with, no_process, process_with, process_behind, finished}
use Rattle.nc_read_bgp.proofs.GroupLemmas.{kept_is_things}
use Rattle.nc_read_bgp.proofs.FieldLemmas.{push_all, field_behind, field_by_all, last_behind, option_behind, flag_behind}

-- ---- a neighbor

abbrev neighbor_step : NeighborFields → Stated NeighborSays → NeighborFields
neighbor_step p s = neighbor_with p s.line s.setting

-- a neighbor by its fields
neighbor_of_fields : Option ℕ → Option Reference → Bool → Bool → Bool → Option Reference → Option Reference → Bool → List ℕ → NeighborFields
neighbor_of_fields a b c d e f g h i =
    record { remote_as = a; source = b; multihop = c; self_hop = d; send_community = e; map_in = f; map_out = g; shut = h; lines = i }

same_neighbor : (a k : Option ℕ) (b l : Option Reference) (c m d n e o : Bool) (f q g r : Option Reference) (h s : Bool) (i t : List ℕ) → a ≡ k → b ≡ l → c ≡ m → d ≡ n → e ≡ o
    → f ≡ q → g ≡ r → h ≡ s → i ≡ t → neighbor_of_fields a b c d e f g h i ≡ neighbor_of_fields k l m n o q r s t
same_neighbor a k b l c m d n e o f q g r h s i t ak bl cm dn eo fq gr hs it = cc

neighbor_is : (p q : NeighborFields) → p.remote_as ≡ q.remote_as → p.source ≡ q.source → p.multihop ≡ q.multihop → p.self_hop ≡ q.self_hop → p.send_community ≡ q.send_community
    → p.map_in ≡ q.map_in → p.map_out ≡ q.map_out → p.shut ≡ q.shut → p.lines ≡ q.lines → p ≡ q
unfolding neighbor_of_fields
neighbor_is p q a b c d e f g h i =
    same_neighbor p.remote_as q.remote_as p.source q.source p.multihop q.multihop p.self_hop q.self_hop p.send_community q.send_community p.map_in q.map_in p.map_out q.map_out
    p.shut q.shut p.lines q.lines a b c d e f g h i

flag_of : (get : NeighborFields → Bool) (is : Stated NeighborSays → Bool) → ((p : NeighborFields) (s : Stated NeighborSays) → get (neighbor_step p s) ≡ (is s || get p))
    → get no_neighbor ≡ false → (ss : List (Stated NeighborSays)) → get (fold neighbor_step no_neighbor ss) ≡ list_any is ss
flag_of get is steps none ss = flag_behind neighbor_step get is steps no_neighbor ss ∙ ap (λ (b : Bool). list_any is ss || b) none ∙ or_false (list_any is ss)

neighbor_by_steps : (ss : List (Stated NeighborSays)) → fold neighbor_step no_neighbor ss ≡ neighbor_in ss
neighbor_by_steps ss =
    neighbor_is (fold neighbor_step no_neighbor ss) (neighbor_in ss)
    (option_behind neighbor_step (λ p. p.remote_as) (λ s. remote_as_by s.setting) (λ p s. refl) no_neighbor ss)
    (option_behind neighbor_step (λ p. p.source) (λ s. source_by s.line s.setting) (λ p s. refl) no_neighbor ss)
    (flag_of (λ p. p.multihop) (λ s. is_multihop s.setting) (λ p s. refl) refl ss)
    (flag_of (λ p. p.self_hop) (λ s. is_self_hop s.setting) (λ p s. refl) refl ss)
    (flag_of (λ p. p.send_community) (λ s. sends_communities s.setting) (λ p s. refl) refl ss)
    (option_behind neighbor_step (λ p. p.map_in) (λ s. map_in_by s.line s.setting) (λ p s. refl) no_neighbor ss)
    (option_behind neighbor_step (λ p. p.map_out) (λ s. map_out_by s.line s.setting) (λ p s. refl) no_neighbor ss)
    (flag_of (λ p. p.shut) (λ s. shuts s.setting) (λ p s. refl) refl ss)
    (field_by_all neighbor_step (λ p. p.lines) (λ s. s.line) (λ ks k. ks ++ k ∷ []) (λ p s. refl) no_neighbor ss ∙ push_all [] (map (λ s. s.line) ss))

-- ---- a network or an aggregate

abbrev prefix_step : PrefixFields → Stated Bool → PrefixFields
prefix_step p s = prefix_with s.setting s.line p

prefix_is : (p q : PrefixFields) → p.summary_only ≡ q.summary_only → p.lines ≡ q.lines → p ≡ q
prefix_is p q a b =
    ap (λ (s : Bool). record { summary_only = s; lines = p.lines }) a ∙ ap (λ (ks : List ℕ). record { summary_only = q.summary_only; lines = ks }) b

kept_all : {X Y : Type 0} (f : X → Y) (xs : List X) → filter_map (λ x. Some (f x)) xs ≡ map f xs
kept_all f [] = refl
kept_all {X} {Y} f (x ∷ xs) = ap (λ (ys : List Y). f x ∷ ys) (kept_all f xs)

prefix_by_steps : (ss : List (Stated Bool)) → fold prefix_step no_prefix ss ≡ prefix_in ss
prefix_by_steps ss =
    prefix_is (fold prefix_step no_prefix ss) (prefix_in ss)
    (last_behind prefix_step (λ p. p.summary_only) (λ s. Some s.setting) (λ p s. refl) no_prefix ss
    ∙ ap (λ (bs : List Bool). unwrap_or (last_or None bs) false) (kept_all (λ (s : Stated Bool). s.setting) ss))
    (field_by_all prefix_step (λ p. p.lines) (λ s. s.line) (λ ks k. ks ++ k ∷ []) (λ p s. refl) no_prefix ss ∙ push_all [] (map (λ s. s.line) ss))

-- ---- what one statement changes of each field

abbrev process_step : ProcessFields → Stated ProcessSays → ProcessFields
process_step p s = process_with p s.line s.setting

asn_step : (p : ProcessFields) (line : ℕ) (s : ProcessSays) → (process_with p line s).asn ≡ option_map_or (λ n. n) (asn_by s) p.asn
asn_step p line (Opens n) = refl
asn_step p line s = refl

router_id_step : (p : ProcessFields) (line : ℕ) (s : ProcessSays) → (process_with p line s).router_id ≡ option_map_or (λ a. a) (router_id_by s) p.router_id
router_id_step p line (RouterId a) = refl
router_id_step p line s = refl

max_paths_step : (p : ProcessFields) (line : ℕ) (s : ProcessSays) → (process_with p line s).max_paths ≡ option_map_or (λ n. n) (max_paths_by s) p.max_paths
max_paths_step p line (MaxPaths n) = refl
max_paths_step p line s = refl

relax_step : (p : ProcessFields) (line : ℕ) (s : ProcessSays) → (process_with p line s).relax ≡ (is_relax s || p.relax)
relax_step p line Relax = refl
relax_step p line s = refl

own_step : (p : ProcessFields) (line : ℕ) (s : ProcessSays) → (process_with p line s).own ≡ option_map_or (λ k. p.own ++ k ∷ []) (own_by line s) p.own
own_step p line (Originates q) = refl
own_step p line (Aggregates q b) = refl
own_step p line (Of a t) = refl
own_step p line s = refl

-- ---- and of its things

abbrev put_neighbor : List (Addr × NeighborFields) → Keyed Addr (Stated NeighborSays) → List (Addr × NeighborFields)
put_neighbor es p = put_in same_addr p.key no_neighbor (λ f. neighbor_step f p.value) es

abbrev put_prefix : List (Cidr × PrefixFields) → Keyed Cidr (Stated Bool) → List (Cidr × PrefixFields)
put_prefix es p = put_in same_prefix p.key no_prefix (λ f. prefix_step f p.value) es

neighbors_step : (p : ProcessFields) (line : ℕ) (s : ProcessSays) → (process_with p line s).neighbors ≡ option_map_or (put_neighbor p.neighbors) (neighbor_by line s) p.neighbors
neighbors_step p line (Of a t) = refl
neighbors_step p line s = refl

networks_step : (p : ProcessFields) (line : ℕ) (s : ProcessSays) → (process_with p line s).networks ≡ option_map_or (put_prefix p.networks) (network_by line s) p.networks
networks_step p line (Originates q) = refl
networks_step p line s = refl

aggregates_step : (p : ProcessFields) (line : ℕ) (s : ProcessSays) → (process_with p line s).aggregates ≡ option_map_or (put_prefix p.aggregates) (aggregate_by line s) p.aggregates
aggregates_step p line (Aggregates q b) = refl
aggregates_step p line s = refl

-- the tests of sameness say what is one
pub addrs_same : IsSame same_addr
addrs_same a b = (λ e. ap (λ (n : ℕ). record { 0 = n }) (eqb-true a.0 b.0 e), λ e. eq-eqb a.0 b.0 (ap (λ (a : Addr). a.0) e))

pub prefixes_same : IsSame same_prefix
prefixes_same p q =
    (same_prefix_is p q, λ e. and_from (p.base == q.base) (p.len == q.len) (eq-eqb p.base q.base (ap (λ (p : Cidr). p.base) e)) (eq-eqb p.len q.len (ap (λ (p : Cidr). p.len) e)))

neighbors_kept : (ps : List (Keyed Addr (Stated NeighborSays))) → fold put_neighbor [] ps ≡ things same_addr neighbor_in ps
neighbors_kept ps = kept_is_things (equiv_of addrs_same) no_neighbor neighbor_step neighbor_in neighbor_by_steps ps

prefixes_kept : (ps : List (Keyed Cidr (Stated Bool))) → fold put_prefix [] ps ≡ things same_prefix prefix_in ps
prefixes_kept ps = kept_is_things (equiv_of prefixes_same) no_prefix prefix_step prefix_in prefix_by_steps ps

-- ---- the process

-- a process by its fields
process_of_fields : ℕ → Option Addr → ℕ → Bool → List ℕ → List (Addr × NeighborFields) → List (Cidr × PrefixFields) → List (Cidr × PrefixFields) → ProcessFields
process_of_fields a b c d e f g h = record { asn = a; router_id = b; max_paths = c; relax = d; own = e; neighbors = f; networks = g; aggregates = h }

same_process : (a k : ℕ) (b l : Option Addr) (c m : ℕ) (d n : Bool) (e o : List ℕ) (f q : List (Addr × NeighborFields)) (g r h s : List (Cidr × PrefixFields)) → a ≡ k → b ≡ l → c ≡ m
    → d ≡ n → e ≡ o → f ≡ q → g ≡ r → h ≡ s → process_of_fields a b c d e f g h ≡ process_of_fields k l m n o q r s
same_process a k b l c m d n e o f q g r h s ak bl cm dn eo fq gr hs = cc

process_is : (p q : ProcessFields) → p.asn ≡ q.asn → p.router_id ≡ q.router_id → p.max_paths ≡ q.max_paths → p.relax ≡ q.relax → p.own ≡ q.own
    → p.neighbors ≡ q.neighbors → p.networks ≡ q.networks → p.aggregates ≡ q.aggregates → p ≡ q
unfolding process_of_fields
process_is p q a b c d e f g h =
    same_process p.asn q.asn p.router_id q.router_id p.max_paths q.max_paths p.relax q.relax p.own q.own p.neighbors q.neighbors p.networks q.networks p.aggregates q.aggregates
    a b c d e f g h

pub process_by_steps : (ss : List (Stated ProcessSays)) → process_behind no_process ss ≡ fields_in ss
process_by_steps ss =
    process_is (process_behind no_process ss) (fields_in ss)
    (last_behind process_step (λ p. p.asn) (λ s. asn_by s.setting) (λ p s. asn_step p s.line s.setting) no_process ss)
    (last_behind process_step (λ p. p.router_id) (λ s. router_id_by s.setting) (λ p s. router_id_step p s.line s.setting) no_process ss)
    (last_behind process_step (λ p. p.max_paths) (λ s. max_paths_by s.setting) (λ p s. max_paths_step p s.line s.setting) no_process ss)
    (flag_behind process_step (λ p. p.relax) (λ s. is_relax s.setting) (λ p s. relax_step p s.line s.setting) no_process ss ∙ or_false (list_any (λ (s : Stated ProcessSays). is_relax s.setting) ss))
    (field_behind process_step (λ p. p.own) (λ s. own_by s.line s.setting) (λ ks k. ks ++ k ∷ []) (λ p s. own_step p s.line s.setting) no_process ss
    ∙ push_all [] (filter_map (λ (s : Stated ProcessSays). own_by s.line s.setting) ss))
    (field_behind process_step (λ p. p.neighbors) (λ s. neighbor_by s.line s.setting) put_neighbor (λ p s. neighbors_step p s.line s.setting) no_process ss
    ∙ neighbors_kept (filter_map (λ (s : Stated ProcessSays). neighbor_by s.line s.setting) ss))
    (field_behind process_step (λ p. p.networks) (λ s. network_by s.line s.setting) put_prefix (λ p s. networks_step p s.line s.setting) no_process ss
    ∙ prefixes_kept (filter_map (λ (s : Stated ProcessSays). network_by s.line s.setting) ss))
    (field_behind process_step (λ p. p.aggregates) (λ s. aggregate_by s.line s.setting) put_prefix (λ p s. aggregates_step p s.line s.setting) no_process ss
    ∙ prefixes_kept (filter_map (λ (s : Stated ProcessSays). aggregate_by s.line s.setting) ss))

-- the lines of a block one by one make its process
pub by_steps : (p : ProcessFields) (told : Option _) (block : List Numbered) → p ≡ no_process → told ≡ None → finished p told block ≡ process_in block
unfolding finished process_in
by_steps p told block fresh none =
    ap (λ (p : ProcessFields). finished p told block) fresh ∙ ap (λ told. finished no_process told block) none
    ∙ ap (λ (whole : ProcessFields). option_map_or Err (lower_of (fault_in line_says block) (lack_in whole.neighbors)) (Ok (process_of whole))) (process_by_steps (statements_in line_says block))
