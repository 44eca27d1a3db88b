-- What is known of each part of a file.
use Rattle.std.proofs.Common.{◌≡◌, ℕ, ◌<◌, false, List, [], ◌∷◌, length, map, Option, Some, Result, Ok, Err, refl, sym, ap, ◌∙◌, subst, arith}
use Rattle.std.specs.Prelude.{◌≢◌, ◌==◌, IfSome, unwrap_or}
use Rattle.std.specs.List.{filter_map}
use Rattle.std.specs.List.Sorted.{IsStrictlyIncreasing}
use Rattle.std.specs.Option.{option_eq}
use Rattle.nc_types.proofs.Members.{in_by_filter_map}
use Rattle.nc_types.specs.Config.{ElementView}
use Rattle.nc_types.specs.WellFormed.{IsProcess}
use Rattle.nc_types.specs.declared.fault.Fault.{Fault}
use Rattle.nc_types.specs.declared.fault.Cause.TheVariants.{TwoProcesses}
use Rattle.nc_lines.specs.Parts.{Numbered, numbered}
use Rattle.nc_read_filter.specs.Filters.{filters_in}
use Rattle.nc_read_filter.specs.Groups.{applied_in}
use Rattle.nc_read_link.specs.Interfaces.{interface_in}
use Rattle.nc_read_policy.specs.Clauses.{clause_in}
use Rattle.nc_read_bgp.proofs.LawLemmas.{well_formed, have_lines_beside}
use Rattle.nc_read_bgp.specs.Laws.{HaveLinesBeside}
use Rattle.nc_read_bgp.specs.Processes.{process_in}
use Rattle.nc_read_policy.specs.Lists.{list_in}
use Rattle.nc_read_policy.specs.Results.{ok_map}
use Rattle.nc_reader.specs.declared.topic.Topic.{Topic}
use Rattle.nc_reader.specs.declared.topic.Topic.TheVariants as topics
use Rattle.nc_lines.specs.Groups.{Group}
use Rattle.nc_reader.specs.Roles.{roles_from}
use Rattle.nc_reader.specs.Topics.{same_topic}
use Rattle.nc_reader.specs.Configuration.{spoken, topics_of, process_number, parts_of}
use Rattle.nc_reader.specs.Things.{Part, AnInterface, Routes, AProcess, AClause, Entries, Communities, Filters, AGroup, part_in, pieces_in, routes_in, communities_in, ok_of}
use Rattle.nc_lines.proofs.Pairs.{Has, Pairs, pairs_kept, kept_map}
use Rattle.nc_lines.proofs.Grouping.{grouped, groups_keys, group_ascends, groups_apart}
use Rattle.nc_reader.proofs.LineOrder.{spoken_ascend, is_group, Starts, begun}
use Rattle.nc_reader.proofs.PieceLemmas.{LinesAscend, Apart, AreElements, ok_mapped}
use Rattle.nc_reader.proofs.TopicLemmas.{topics_same}
use Rattle.nc_reader.proofs.Addresses.{IsCovered, block_covered}
use Rattle.nc_reader.proofs.InterfaceParts.{interface_is, interface_elements}
use Rattle.nc_reader.proofs.ClauseParts.{clause_elements, clause_named}
use Rattle.nc_reader.proofs.RouteParts.{routes_elements}
use Rattle.nc_reader.proofs.ListParts.{entries_elements, entries_ascend, some_entries}
use Rattle.nc_reader.proofs.ProcessParts.{process_elements, process_made, process_is}
use Rattle.nc_reader.proofs.CommunityParts.{communities_elements, some_communities}
use Rattle.nc_reader.proofs.FilterParts.{filters_elements, group_elements, group_named}

-- the topic that a part is of, in a file that has this process
abbrev pub topic_in : Option ℕ → Part → Topic
topic_in process (AnInterface p) = topics.Interface p.interface.name
topic_in process (Routes ps) = topics.Statics
topic_in process (AProcess p) = topics.Process (unwrap_or process 0)
topic_in process (AClause p) = topics.Clause p.clause.map_name p.clause.number
topic_in process (Entries name ps) = topics.List name
topic_in process (Communities name ps) = topics.Communities name
topic_in process (Filters ps odd) = topics.Filters
topic_in process (AGroup p) = topics.Group p.group.iface p.group.inward

-- what holds of the things of a part
abbrev pub IsSound : Part → Type 0
IsSound (AnInterface p) = IfSome p.interface.address IsCovered
IsSound (Routes ps) = Unit {0}
IsSound (AProcess p) = IsProcess p.process × HaveLinesBeside p
IsSound (AClause p) = Unit {0}
IsSound (Entries name ps) = (0 < length ps) × IsStrictlyIncreasing (map (λ p. p.entry.seq) ps)
IsSound (Communities name ps) = 0 < length ps
IsSound (Filters ps odd) = Unit {0}
IsSound (AGroup p) = Unit {0}

pub record IsPartOf (count : ℕ) (process : Option ℕ) (t : Topic) (ks : List ℕ) (p : Part) : Type 0 where
  pub topic : topic_in process p ≡ t
  pub elements : AreElements count ks (pieces_in p)
  pub sound : IsSound p

module _ (lines : List (List ℕ)) (process : Option ℕ) (k : ℕ) (ks : List ℕ) (up : LinesAscend (length lines) (k ∷ ks)) where
  -- what a topic makes whose first line is a header, if it has one
  made_of : (topic : Topic) (p : Part) → (is_group topic ≡ false → Starts lines topic (k ∷ ks)) → part_in lines process topic (k ∷ ks) ≡ Ok p → IsPartOf (length lines) process topic (k ∷ ks) p
  made_of (topics.Interface name) p begins e =
      let at = ok_mapped AnInterface (interface_in name (numbered lines (k ∷ ks))) p e in
      let is = interface_is name (numbered lines (k ∷ ks)) at.0 at.1 in
      subst (IsPartOf (length lines) process (topics.Interface name) (k ∷ ks)) at.2
      (record {
        topic = ap (λ p. topics.Interface p.interface.name) (sym is);
        elements = interface_elements lines name k ks at.0 up (begins refl).0 at.1;
        sound = subst (λ p. IfSome p.interface.address IsCovered) is (block_covered (numbered lines (k ∷ ks)));
      })
  made_of topics.Statics p begins e =
      let at = ok_mapped Routes (routes_in lines (k ∷ ks)) p e in
      subst (IsPartOf (length lines) process topics.Statics (k ∷ ks)) at.2 (record { topic = refl; elements = routes_elements lines (k ∷ ks) up at.0 at.1; sound = tt })
  made_of (topics.Process asn) p begins e =
      let is = process_made (option_eq (λ x y. x == y) process (Some asn)) (ok_map AProcess (process_in (numbered lines (k ∷ ks)))) (record { line = k; cause = TwoProcesses }) p e in
      let at = ok_mapped AProcess (process_in (numbered lines (k ∷ ks))) p is.1 in
      subst (IsPartOf (length lines) process (topics.Process asn) (k ∷ ks)) at.2
      (record {
        topic = ap (λ (o : Option ℕ). topics.Process (unwrap_or o 0)) (process_is process asn is.0);
        elements = process_elements lines asn k ks at.0 up (begins refl) at.1;
        sound = (well_formed (numbered lines (k ∷ ks)) at.0 at.1, have_lines_beside (numbered lines (k ∷ ks)) at.0 at.1);
      })
  made_of (topics.Clause name number) p begins e =
      let at = ok_mapped AClause (clause_in (numbered lines (k ∷ ks))) p e in
      subst (IsPartOf (length lines) process (topics.Clause name number) (k ∷ ks)) at.2
      (record { topic = clause_named lines name number k ks at.0 (begins refl) at.1; elements = clause_elements lines name number k ks at.0 up (begins refl) at.1; sound = tt })
  made_of (topics.List name) p begins e =
      let at = ok_mapped (Entries name) (list_in (numbered lines (k ∷ ks))) p e in
      subst (IsPartOf (length lines) process (topics.List name) (k ∷ ks)) at.2
      (record {
        topic = refl;
        elements = entries_elements lines (k ∷ ks) at.0 at.1 up;
        sound = (some_entries lines (k ∷ ks) at.0 at.1 (omega arith), entries_ascend lines (k ∷ ks) at.0 at.1);
      })
  made_of (topics.Communities name) p begins e =
      let at = ok_mapped (Communities name) (communities_in lines (k ∷ ks)) p e in
      subst (IsPartOf (length lines) process (topics.Communities name) (k ∷ ks)) at.2
      (record { topic = refl; elements = communities_elements lines (k ∷ ks) up at.0 at.1; sound = some_communities lines k ks at.0 at.1 })
  made_of topics.Filters p begins e =
      let block : List Numbered = numbered lines (k ∷ ks) in
      let same : Filters (filters_in block).entries (filters_in block).odd ≡ p = cc in
      subst (IsPartOf (length lines) process topics.Filters (k ∷ ks)) same (record { topic = refl; elements = filters_elements lines (k ∷ ks) up; sound = tt })
  made_of (topics.Group name inward) p begins e =
      let block : List Numbered = numbered lines (k ∷ ks) in
      let same : AGroup (record { group = applied_in name inward block; lines = k ∷ ks }) ≡ p = cc in
      subst (IsPartOf (length lines) process (topics.Group name inward) (k ∷ ks)) same
      (record { topic = group_named name inward block; elements = group_elements (length lines) k ks up; sound = tt })

-- ---- the parts of a file

ok_is : {A : Type 0} (r : Result A Fault) (x : A) → ok_of r ≡ Some x → r ≡ Ok x
ok_is {A} (Ok y) x e = let same : y ≡ x = cc in let whole : A → Result A Fault = λ z. Ok z in ap whole same
ok_is (Err fault) x e = absurd cc

abbrev pub parts_in : List (List ℕ) → List Part
parts_in lines = filter_map ok_of (parts_of lines (roles_from [] lines))

-- two parts are of two topics, and have no line in common
abbrev pub AreTwo : Option ℕ → Part → Part → Type 0
AreTwo process p q = (topic_in process p ≢ topic_in process q) × ((e f : ElementView) → Has (pieces_in p) e → Has (pieces_in q) f → Apart e.lines f.lines)

module _ (lines : List (List ℕ)) where
  abbrev process : Option ℕ
  process = process_number (roles_from [] lines)

  abbrev groups_in : List (Group Topic ℕ)
  groups_in = topics_of (roles_from [] lines)

  abbrev part_at : Group Topic ℕ → Option Part
  part_at g = ok_of (part_in lines process g.key g.values)

  parts_at : parts_in lines ≡ filter_map part_at groups_in
  parts_at = kept_map ok_of (λ (g : Group Topic ℕ). part_in lines process g.key g.values) groups_in

  group_up : (g : Group Topic ℕ) → Has groups_in g → LinesAscend (length lines) g.values
  group_up g h = group_ascends same_topic topics_same (λ (k : ℕ). k) 0 (length lines) (spoken (roles_from [] lines)) (spoken_ascend lines) g h

  part_of_group : (g : Group Topic ℕ) (p : Part) → Has groups_in g → part_at g ≡ Some p → IsPartOf (length lines) process g.key g.values p
  part_of_group g p h e =
      let of_it = grouped same_topic topics_same (spoken (roles_from [] lines)) g h in
      let k : ℕ = of_it.1.0 in
      let ks : List ℕ = of_it.1.1 in
      let is : g.values ≡ k ∷ ks = of_it.1.2 in
      let begins : is_group g.key ≡ false → Starts lines g.key (k ∷ ks) = λ other. subst (Starts lines g.key) (sym of_it.0 ∙ is) (begun lines g.key other) in
      let made : part_in lines process g.key (k ∷ ks) ≡ Ok p = ap (part_in lines process g.key) (sym is) ∙ ok_is (part_in lines process g.key g.values) p e in
      subst (λ (vs : List ℕ). IsPartOf (length lines) process g.key vs p) (sym is) (made_of lines process k ks (subst (LinesAscend (length lines)) is (group_up g h)) g.key p begins made)

  -- a part comes from the lines of a topic
  pub part_from : (p : Part) → Has (parts_in lines) p → (g : Group Topic ℕ) × Has groups_in g × IsPartOf (length lines) process g.key g.values p
  part_from p h =
      let at = in_by_filter_map part_at groups_in p (subst (λ (ps : List Part). Has ps p) parts_at h) in
      (at.0, at.1, part_of_group at.0 p at.1 at.2)

  pub parts_two : Pairs (AreTwo process) (parts_in lines)
  parts_two =
      subst (Pairs (AreTwo process)) (sym parts_at)
      (pairs_kept part_at (λ (g h : Group Topic ℕ). g.key ≢ h.key) (AreTwo process) groups_in
      (λ g h p q hg hh differ eg eh.
      let a = part_of_group g p hg eg in
      let b = part_of_group h q hh eh in (
        λ same. differ (sym a.topic ∙ same ∙ b.topic),
        λ e f he hf k in_e in_f.
            groups_apart same_topic topics_same (λ (k : ℕ). k) 0 (length lines) (spoken (roles_from [] lines)) (spoken_ascend lines) g h hg hh differ k k (a.elements.own e k he in_e) (b.elements.own f k hf in_f) refl,
      ))
      (groups_keys same_topic topics_same (spoken (roles_from [] lines))))
