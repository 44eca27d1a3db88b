-- References that are looked up in sets of names.
use Rattle.std.proofs.Common.{◌≡◌, ℕ, Bool, false, cond, ◌||◌, List, [], ◌∷◌, ◌++◌, Option, Some, None, map, refl, sym, ap, ◌∙◌}
use Rattle.std.specs.List.{cons_option, flat_map, filter_map, list_any}
use Rattle.std.specs.Str.{bytes_eq}
use Rattle.std.specs.Option.{is_some, option_map, option_map_or, option_to_list}
use Rattle.nc_types.specs.declared.config.Reference.{Reference}
use Rattle.nc_types.specs.declared.config.Interface.{Interface}
use Rattle.nc_types.specs.declared.config.StaticRoute.{StaticRoute}
use Rattle.nc_types.specs.declared.config.Neighbor.{Neighbor}
use Rattle.nc_types.specs.declared.config.Clause.{Clause}
use Rattle.nc_types.specs.declared.config.Process.{Process}
use Rattle.nc_types.specs.declared.config.RouterConfig.{RouterConfig}
use Rattle.nc_types.specs.Config.{ClauseView, ProcessView, clause_view, config_view, process_view}
use Rattle.nc_types.specs.Joining.{Clash, earliest, undefined_by, interface_by}
use Rattle.nc_network.specs.declared.defined.ListKind.{ListKind}
use Rattle.nc_network.specs.Steps.{merge, first_of_all, Knows, undefined_interfaces, undefined_maps, undefined_lists, names_of, lists_in}
use Rattle.nc_network.proofs.ClashOrder.{merge-none, merge_assoc}
use Rattle.nc_network.proofs.Clashes.{all-append, all-same, all-kept, all-joined}
use Rattle.nc_network.proofs.Walks.{numbered}

module _ (router : ℕ) (keys names : List (List ℕ)) (knows : Knows keys names) where
  by_known : (r : Reference) → earliest (undefined_by router keys r) ≡ earliest (undefined_by router names r)
  by_known r = ap (λ (b : Bool). earliest (cond b [] (record { first = router; first_line = r.line; second = 0; second_line = 0 } ∷ []))) (knows r.name)

  all_known : (rs : List Reference) → first_of_all (undefined_by router names) rs ≡ first_of_all (undefined_by router keys) rs
  all_known rs = sym (all-same (undefined_by router keys) (undefined_by router names) by_known rs)

  kept_known : {A : Type 0} (h : A → Option Reference) (xs : List A) → first_of_all (undefined_by router names) (filter_map h xs) ≡ first_of_all (λ x. flat_map (undefined_by router keys) (option_to_list (h x))) xs
  kept_known h xs = all_known (filter_map h xs) ∙ all-kept h (undefined_by router keys) xs

  joined_known : (lists : ClauseView → List Reference) (ks : List ClauseView)
      → first_of_all (undefined_by router names) (flat_map lists ks) ≡ first_of_all (λ k. flat_map (undefined_by router keys) (lists k)) ks
  joined_known lists ks =
      all-joined lists (undefined_by router names) ks
      ∙ all-same (λ (k : ClauseView). flat_map (undefined_by router names) (lists k)) (λ (k : ClauseView). flat_map (undefined_by router keys) (lists k)) (λ k. all_known (lists k)) ks

abbrev vias : ℕ → List (List ℕ) → StaticRoute → List Clash
vias router keys s = flat_map (undefined_by router keys) (option_to_list (interface_by s.via))

abbrev through : ℕ → List (List ℕ) → (Neighbor → Option Reference) → Neighbor → List Clash
through router keys field n = flat_map (undefined_by router keys) (option_to_list (field n))

abbrev source_references : Option ProcessView → List Reference
source_references p = option_map_or (λ p. filter_map (λ n. n.source) p.neighbors) p []

abbrev map_uses : Option ProcessView → List Reference
map_uses p = option_map_or (λ p. filter_map (λ n. n.map_in) p.neighbors ++ filter_map (λ n. n.map_out) p.neighbors) p []

-- ---- interfaces

none_through : (ss : List StaticRoute) → list_any (λ s. is_some (interface_by s.via)) ss ≡ false → filter_map (λ s. interface_by s.via) ss ≡ []
none_through [] e = refl
none_through (s ∷ ss) e = by_via (interface_by s.via) (none_through ss) e
  where
    by_via : (o : Option Reference) → (list_any (λ s. is_some (interface_by s.via)) ss ≡ false → filter_map (λ s. interface_by s.via) ss ≡ []) → (is_some o || list_any (λ s. is_some (interface_by s.via)) ss) ≡ false
        → cons_option o (filter_map (λ s. interface_by s.via) ss) ≡ []
    by_via None rest e = rest e
    by_via (Some r) rest e = absurd cc

-- where there is no process and no route leads through an interface, nothing refers to one
pub interfaces-unused : (router : ℕ) (config : RouterConfig) (found : Option Clash) → config.process ≡ None → list_any (λ s. is_some (interface_by s.via)) config.statics.items ≡ false
    → found ≡ merge found (earliest (undefined_interfaces (numbered router config)))
interfaces-unused router config found none unused =
    let names = map (λ (i : Interface). i.name) config.interfaces.items in
    let refer : List Reference = filter_map (λ (s : StaticRoute). interface_by s.via) config.statics.items in
    let nothing : refer ++ source_references (option_map process_view config.process) ≡ [] =
    ap (λ (rs : List Reference). rs ++ source_references (option_map process_view config.process)) (none_through config.statics.items unused) ∙ ap (λ (p : Option Process). source_references (option_map process_view p)) none in
    sym (merge-none found) ∙ ap (λ (rs : List Reference). merge found (earliest (flat_map (undefined_by router names) rs))) (sym nothing)

interfaces_parts : (router : ℕ) (config : RouterConfig) (keys : List (List ℕ)) (process : Option Process) → config.process ≡ process → Knows keys (map (λ i. i.name) config.interfaces.items)
    → earliest (undefined_interfaces (numbered router config)) ≡ merge (first_of_all (vias router keys) config.statics.items) (first_of_all (undefined_by router keys) (source_references (option_map process_view process)))
interfaces_parts router config keys process is knows =
    let names = map (λ (i : Interface). i.name) config.interfaces.items in
    let kept = filter_map (λ (s : StaticRoute). interface_by s.via) config.statics.items in
    all-append (undefined_by router names) kept (source_references (option_map process_view config.process))
    ∙ ap (λ (o : Option Clash). merge o (first_of_all (undefined_by router names) (source_references (option_map process_view config.process)))) (kept_known router keys names knows (λ (s : StaticRoute). interface_by s.via) config.statics.items)
    ∙ ap (merge (first_of_all (vias router keys) config.statics.items)) (all_known router keys names knows (source_references (option_map process_view config.process)) ∙ ap (λ (p : Option Process). first_of_all (undefined_by router keys) (source_references (option_map process_view p))) is)

pub interfaces-none : (router : ℕ) (config : RouterConfig) (keys : List (List ℕ)) (interfaces : List Interface) (statics : List StaticRoute) (found r : Option Clash)
    → interfaces ≡ config.interfaces.items → statics ≡ config.statics.items → config.process ≡ None → Knows keys (map (λ i. i.name) interfaces)
    → r ≡ merge found (first_of_all (vias router keys) statics) → r ≡ merge found (earliest (undefined_interfaces (numbered router config)))
interfaces-none router config keys interfaces statics found r same same_statics none knows e =
    let known : Knows keys (map (λ (i : Interface). i.name) config.interfaces.items) = λ q. knows q ∙ ap (λ (is : List Interface). list_any (bytes_eq q) (map (λ (i : Interface). i.name) is)) same in
    e ∙ ap (λ (ss : List StaticRoute). merge found (first_of_all (vias router keys) ss)) same_statics
    ∙ ap (merge found) (sym (interfaces_parts router config keys None none known ∙ merge-none (first_of_all (vias router keys) config.statics.items)))

pub interfaces-some : (router : ℕ) (config : RouterConfig) (p : Process) (keys : List (List ℕ)) (interfaces : List Interface) (statics : List StaticRoute) (neighbors : List Neighbor) (found r s : Option Clash)
    → interfaces ≡ config.interfaces.items → statics ≡ config.statics.items → neighbors ≡ p.neighbors.items → config.process ≡ Some p → Knows keys (map (λ i. i.name) interfaces)
    → r ≡ merge found (first_of_all (vias router keys) statics) → s ≡ merge r (first_of_all (through router keys (λ n. n.source)) neighbors) → s ≡ merge found (earliest (undefined_interfaces (numbered router config)))
interfaces-some router config p keys interfaces statics neighbors found r s same same_statics same_neighbors some knows e f =
    let known : Knows keys (map (λ (i : Interface). i.name) config.interfaces.items) = λ q. knows q ∙ ap (λ (is : List Interface). list_any (bytes_eq q) (map (λ (i : Interface). i.name) is)) same in
    let sources = first_of_all (through router keys (λ n. n.source)) p.neighbors.items in
    f ∙ ap (λ (ns : List Neighbor). merge r (first_of_all (through router keys (λ n. n.source)) ns)) same_neighbors
    ∙ ap (λ (o : Option Clash). merge o sources) (e ∙ ap (λ (ss : List StaticRoute). merge found (first_of_all (vias router keys) ss)) same_statics)
    ∙ merge_assoc found (first_of_all (vias router keys) config.statics.items) sources
    ∙ ap (merge found) (sym (interfaces_parts router config keys (Some p) some known ∙ ap (merge (first_of_all (vias router keys) config.statics.items)) (all-kept (λ (n : Neighbor). n.source) (undefined_by router keys) p.neighbors.items)))

-- ---- route maps

pub maps-some : (router : ℕ) (config : RouterConfig) (p : Process) (keys : List (List ℕ)) (clauses : List Clause) (neighbors others : List Neighbor) (found r s : Option Clash)
    → clauses ≡ config.clauses.items → neighbors ≡ p.neighbors.items → others ≡ p.neighbors.items → config.process ≡ Some p → Knows keys (map (λ k. k.map_name) (map clause_view clauses))
    → r ≡ merge found (first_of_all (through router keys (λ n. n.map_in)) neighbors) → s ≡ merge r (first_of_all (through router keys (λ n. n.map_out)) others) → s ≡ merge found (earliest (undefined_maps (numbered router config)))
maps-some router config p keys clauses neighbors others found r s same same_neighbors same_others some knows e f =
    let names = map (λ (k : ClauseView). k.map_name) (map clause_view config.clauses.items) in
    let known : Knows keys names = λ q. knows q ∙ ap (λ (ks : List Clause). list_any (bytes_eq q) (map (λ (k : ClauseView). k.map_name) (map clause_view ks))) same in
    let ins = first_of_all (through router keys (λ n. n.map_in)) p.neighbors.items in
    let outs = first_of_all (through router keys (λ n. n.map_out)) p.neighbors.items in
    let parts : earliest (undefined_maps (numbered router config)) ≡ merge ins outs =
    ap (λ (o : Option Process). first_of_all (undefined_by router names) (map_uses (option_map process_view o))) some
    ∙ all-append (undefined_by router names) (filter_map (λ (n : Neighbor). n.map_in) p.neighbors.items) (filter_map (λ (n : Neighbor). n.map_out) p.neighbors.items)
    ∙ ap (λ (o : Option Clash). merge o (first_of_all (undefined_by router names) (filter_map (λ (n : Neighbor). n.map_out) p.neighbors.items))) (kept_known router keys names known (λ (n : Neighbor). n.map_in) p.neighbors.items)
    ∙ ap (merge ins) (kept_known router keys names known (λ (n : Neighbor). n.map_out) p.neighbors.items) in
    f ∙ ap (λ (ns : List Neighbor). merge r (first_of_all (through router keys (λ n. n.map_out)) ns)) same_others
    ∙ ap (λ (o : Option Clash). merge o outs) (e ∙ ap (λ (ns : List Neighbor). merge found (first_of_all (through router keys (λ n. n.map_in)) ns)) same_neighbors)
    ∙ merge_assoc found ins outs ∙ ap (merge found) (sym parts)

-- ---- lists of a kind

pub lists-found : (kind : ListKind) (router : ℕ) (config : RouterConfig) (keys : List (List ℕ)) (clauses : List Clause) (found r : Option Clash)
    → clauses ≡ config.clauses.items → Knows keys (names_of kind (config_view config))
    → r ≡ merge found (first_of_all (λ k. flat_map (undefined_by router keys) (lists_in kind k)) (map clause_view clauses)) → r ≡ merge found (earliest (undefined_lists kind (numbered router config)))
lists-found kind router config keys clauses found r same knows e =
    e ∙ ap (λ (ks : List Clause). merge found (first_of_all (λ (k : ClauseView). flat_map (undefined_by router keys) (lists_in kind k)) (map clause_view ks))) same
    ∙ ap (merge found) (sym (joined_known router keys (names_of kind (config_view config)) knows (lists_in kind) (map clause_view config.clauses.items)))
