-- What the nodes that are held say of diagrams: the oldest first, they are the nodes in reverse.
use Rattle.std.proofs.Common.{◌≡◌, ◌≢◌, ℕ, zero, suc, ◌+◌, ◌-◌, ◌<◌, Bool, true, false, List, [], ◌∷◌, ◌++◌, length, reverse, take, drop, get_or, slice_get, Some, Contains, refl, sym, ap, subst, ◌∙◌, inl, inr, arith, if◌then◌else◌, length-append}
use Rattle.std.proofs.lemmas.Bool.{cases_lt}
use Rattle.std.proofs.lemmas.List.{reverse-append, reverse-reverse, get_or_append_left, get_or-append_right, get_or-reverse, length-reverse, take-append-drop, drop_at, length-drop}
use Rattle.std.proofs.lemmas.Option.{slice_get_within, get_or_from_slice_get, slice_get-get_or}
use Rattle.nc_diagram.specs.declared.node.Node.{Node}
use Rattle.nc_diagram.specs.Sets.{Members, has}
use Rattle.nc_diagram.specs.Diagrams.{Diagrams, Belongs, meaning, level, IsNode, IsReduced, IsStore}
use Rattle.nc_diagram.specs.Places.{node_at, Makes}
use Rattle.nc_diagram.proofs.DiagramLemmas.{meaning-newest, node_at-newest, node_at-keep, IsNodeAt-found}

-- the node at index k is that of the reference k + 2
node_at-reversed : (nodes : List Node) (k : ℕ) (n : Node) → slice_get (reverse nodes) k ≡ Some n → node_at nodes (k + 2) ≡ Some n
node_at-reversed [] k n h = absurd (cc)
node_at-reversed (m ∷ older) k n h =
    let all = reverse older ++ m ∷ [] in
    let split : reverse (m ∷ older) ≡ all = reverse-append (m ∷ []) older in
    let there : slice_get all k ≡ Some n = ap (λ ks. slice_get ks k) (sym split) ∙ h in
    let within : k < length all = slice_get_within all k n there in
    let count : length all ≡ length older + 1 = omega (arith, length-append (reverse older) (m ∷ []), length-reverse older) in
    let read : get_or all k n ≡ n = get_or_from_slice_get all k n n there in
    let olds : length (reverse older) ≡ length older = length-reverse older in
    elim (cases_lt k (length older)) [
      | inl l ↦
          (let low : k < length (reverse older) = omega arith in
          let before : slice_get (reverse older) k ≡ Some n = slice_get-get_or (reverse older) k n low ∙ ap Some (sym (get_or_append_left (reverse older) (m ∷ []) n k low) ∙ read) in
          node_at-keep m older (k + 2) (omega arith) ∙ node_at-reversed older k n before)
      | inr l ↦
          (let last : k ≡ length older = omega arith in
          let zero_left : k - length (reverse older) ≡ 0 = omega arith in
          let here : m ≡ n = sym (ap (λ i. get_or (m ∷ []) i n) zero_left) ∙ sym (get_or-append_right (reverse older) (m ∷ []) (length (reverse older)) k n refl (omega arith)) ∙ read in
          ap (λ i. node_at (m ∷ older) (i + 2)) last ∙ node_at-newest m older ∙ ap Some here)
    ]

pub node_at-keys : (ks : List Node) (k : ℕ) (n : Node) → slice_get ks k ≡ Some n → node_at (reverse ks) (k + 2) ≡ Some n
node_at-keys ks k n h = node_at-reversed (reverse ks) k n (ap (λ l. slice_get l k) (reverse-reverse ks) ∙ h)

-- a place that holds a node is made
choice : (nodes : List Node) (b : Bool) (high low : ℕ) (s : Members) → meaning nodes (if b then high else low) s ≡ (if b then meaning nodes high s else meaning nodes low s)
choice nodes true high low s = refl
choice nodes false high low s = refl

pub Makes-there : (d : Diagrams) (n : Node) (r : ℕ) → IsReduced d.nodes → node_at d.nodes r ≡ Some n → Makes n.variable n.low n.high d d r
Makes-there d n r o found =
    let h = IsNodeAt-found d.nodes o r n found in
    record {
      same_limit = refl;
      nodes = inl refl;
      reduced = o;
      belongs = h.belongs;
      value = λ s. h.value s ∙ choice d.nodes (has s n.variable) n.high n.low s;
    }

pub Makes-new : (nodes : List Node) (limit : ℕ) (n : Node) → IsReduced nodes → IsNode nodes n → Makes n.variable n.low n.high (record { nodes = nodes; limit = limit }) (record { nodes = n ∷ nodes; limit = limit }) (length nodes + 2)
unfolding IsReduced
Makes-new nodes limit n o h =
    record {
      same_limit = refl;
      nodes = inr refl;
      reduced = (h, o);
      belongs = omega arith;
      value = λ s. meaning-newest n nodes s ∙ choice nodes (has s n.variable) n.high n.low s;
    }

pub Makes-same : (d : Diagrams) (v r q : ℕ) → IsReduced d.nodes → Belongs d.nodes r → r ≡ q → Makes v r q d d r
Makes-same d v r q o b e =
    record {
      same_limit = refl;
      nodes = inl refl;
      reduced = o;
      belongs = b;
      value = λ s. elim (has s v) as (λ c. meaning d.nodes r s ≡ (if c then meaning d.nodes q s else meaning d.nodes r s)) [ true ↦ ap (λ p. meaning d.nodes p s) e | false ↦ refl ];
    }

-- a node that isn't held isn't among the nodes
fresh-held : (ks : List Node) (n : Node) → (Contains ks n → ⊥) → Contains (reverse ks) n → ⊥
fresh-held ks n none c =
    let count : length (reverse ks) ≡ length ks = length-reverse ks in
    let short : c.0 < length ks = omega (arith, c.1) in
    let read : get_or ks (length ks - 1 - c.0) n ≡ n = sym (get_or-reverse ks c.0 n short) ∙ c.2 in
    none (length ks - 1 - c.0, omega arith, read)

-- a node that is added: the diagrams stay reduced, and its place is made
module _ (ks : List Node) (limit : ℕ) (n : Node) (store : IsStore (record { nodes = reverse ks; limit = limit }))
    (low_older : Belongs (reverse ks) n.low) (high_older : Belongs (reverse ks) n.high)
    (low_later : n.variable < level (reverse ks) n.low) (high_later : n.variable < level (reverse ks) n.high) (ends_differ : n.low ≢ n.high)
    (none : Contains ks n → ⊥) where
  pub IsNode-unfound : IsNode (reverse ks) n
  IsNode-unfound = record { low_older = low_older; high_older = high_older; low_later = low_later; high_later = high_later; ends_differ = ends_differ; fresh = fresh-held ks n none }

  grown : (later : List Node) → later ≡ ks ++ n ∷ [] → n ∷ reverse ks ≡ reverse later
  grown later e = sym (ap reverse e ∙ reverse-append ks (n ∷ []))

  pub IsStore-added : (later : List Node) → later ≡ ks ++ n ∷ [] → length ks < limit → IsStore (record { nodes = reverse later; limit = limit })
  unfolding IsReduced
  IsStore-added later e room =
      let count : length (reverse ks) ≡ length ks = length-reverse ks in
      let one_more : IsStore (record { nodes = n ∷ reverse ks; limit = limit }) = record { reduced = (IsNode-unfound, store.reduced); within = omega arith; narrow = store.narrow } in
      subst (λ ns. IsStore (record { nodes = ns; limit = limit })) (grown later e) one_more

  pub Makes-added : (later : List Node) → later ≡ ks ++ n ∷ [] → Makes n.variable n.low n.high (record { nodes = reverse ks; limit = limit }) (record { nodes = reverse later; limit = limit }) (length ks + 2)
  Makes-added later e =
      let made = Makes-new (reverse ks) limit n store.reduced IsNode-unfound in
      let place : Makes n.variable n.low n.high (record { nodes = reverse ks; limit = limit }) (record { nodes = n ∷ reverse ks; limit = limit }) (length ks + 2) =
      subst (λ k. Makes n.variable n.low n.high (record { nodes = reverse ks; limit = limit }) (record { nodes = n ∷ reverse ks; limit = limit }) (k + 2)) (length-reverse ks) made in
      subst (λ ns. Makes n.variable n.low n.high (record { nodes = reverse ks; limit = limit }) (record { nodes = ns; limit = limit }) (length ks + 2)) (grown later e) place

-- what is left where the last nodes are taken back
pub reverse-take : (m : ℕ) (ks : List Node) → reverse (take m ks) ≡ drop (length ks - m) (reverse ks)
reverse-take m ks =
    let whole : reverse ks ≡ reverse (drop m ks) ++ reverse (take m ks) = ap reverse (sym (take-append-drop m ks)) ∙ reverse-append (take m ks) (drop m ks) in
    let count : length (reverse (drop m ks)) ≡ length ks - m = length-reverse (drop m ks) ∙ length-drop m ks in
    sym (ap (drop (length ks - m)) whole ∙ drop_at (reverse (drop m ks)) (reverse (take m ks)) (length ks - m) count)

pub IsReduced-drop : (k : ℕ) (nodes : List Node) → IsReduced nodes → IsReduced (drop k nodes)
unfolding IsReduced
IsReduced-drop zero nodes o = o
IsReduced-drop (suc k) [] o = o
IsReduced-drop (suc k) (n ∷ older) o = IsReduced-drop k older o.1

pub IsStore-drop : (k : ℕ) (nodes : List Node) (limit : ℕ) → IsStore (record { nodes = nodes; limit = limit }) → IsStore (record { nodes = drop k nodes; limit = limit })
IsStore-drop k nodes limit h =
    record { reduced = IsReduced-drop k nodes h.reduced; within = omega (arith, length-drop k nodes, h.within); narrow = h.narrow }
