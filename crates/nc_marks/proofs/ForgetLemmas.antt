-- What is kept for other live nodes, by the sets that are kept.
use Rattle.std.proofs.Common.{◌≡◌, ℕ, ◌<◌, Bool, List, [], length, get_or, map, sym, ap, ◌∙◌, subst, All}
use Rattle.std.proofs.lemmas.List.{length-map}
use Rattle.std.proofs.lemmas.List.Elements.{All-map}
use Rattle.std.specs.List.{list_any}
use Rattle.nc_graph.specs.declared.node.NodeId.{NodeId}
use Rattle.nc_graph.specs.Derivation.{strong}
use Rattle.nc_graph.specs.Nodes.{Nodes, node_flow, IsGraph}
use Rattle.nc_graph.proofs.Members.{of_all, all_from}
use Rattle.nc_marks.specs.Kept.{AreKept}
use Rattle.nc_marks.specs.Marks.{ElementMarks}
use Rattle.nc_marks.specs.Reach.{AreReached, occurs_in}
use Rattle.nc_marks.specs.Sets.{Table, Gathering, IsTable, IsAt, has, flag, in_some}
use Rattle.nc_marks.proofs.KeptLemmas.{sets_at, strong_at-place}
use Rattle.nc_marks.proofs.MarkLemmas.{marks-are}
use Rattle.nc_marks.proofs.StrongLemmas.{tested-strong}

module _ {F : Type 0} (n : Nodes F) (is : IsGraph n) (t : Table) (gathered : Gathering) (places : List ℕ) (marks new : ElementMarks) (table : IsTable t gathered places (length marks.strong))
    (elements : ℕ) (before : List ℕ) (ps : List NodeId) (old flags : List Bool) (are : AreKept (node_flow n) (length n.facts) before elements (record { strong = sets_at t places; reached = old; marks = marks }))
    (valid : All (λ p. p.0 < length n.facts) ps) (all : length flags ≡ length n.facts) (reached : AreReached (node_flow n) (map (λ p. p.0) ps) flags) (count : length new.strong ≡ t.width)
    (s : (e : ℕ) → e < t.width → flag new.strong e ≡ in_some t places ps e)
    (w : (e : ℕ) → e < t.width → flag new.some e ≡ occurs_in (node_flow n) e (map (λ p. p.0) ps)) where
  numbers : All (λ i. i < length n.facts) (map (λ p. p.0) ps)
  numbers = All-map (λ i. i < length n.facts) (λ p. p.0) ps valid

  wide : t.width ≡ elements
  wide = sym table.marked ∙ are.marks.count

  kept-set : (i : ℕ) → i < length n.facts → IsAt t (get_or places i 0) (λ e. strong (node_flow n) e i)
  kept-set i lt =
      let long : length n.facts ≡ length places = sym are.nodes ∙ length-map places (λ place. get_or t.sets place []) in
      let here : i < length places = subst (λ m. i < m) long lt in
      record {
        within = table.placed.each i here;
        exact = λ e below. ap (λ set. has set e) (sym (strong_at-place t places i here)) ∙ are.sets i lt e (subst (λ m. e < m) wide below);
      }

  strong-are : (e : ℕ) → e < elements → flag new.strong e ≡ list_any (strong (node_flow n) e) (map (λ p. p.0) ps)
  strong-are e lt =
      let below : e < t.width = subst (λ m. e < m) (sym wide) lt in
      s e below ∙ tested-strong n t places ps e below (all_from (λ p. IsAt t (get_or places p.0 0) (λ e. strong (node_flow n) e p.0)) ps
      (λ p within. kept-set p.0 (of_all (λ p. p.0 < length n.facts) ps p valid within)))

  -- the sets stay, and the flags and the marks are those of the other live nodes
  pub kept-others : AreKept (node_flow n) (length n.facts) (map (λ p. p.0) ps) elements (record { strong = sets_at t places; reached = flags; marks = new })
  kept-others = record {
    nodes = are.nodes;
    within = numbers;
    sets = are.sets;
    flags = all;
    reached = reached;
    marks = marks-are n is (map (λ p. p.0) ps) numbers elements new (count ∙ wide) strong-are (λ e lt no. w e (subst (λ m. e < m) (sym wide) lt));
  }
