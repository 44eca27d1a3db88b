-- Where lines ascend, the fault that is told is the lowest of all.
use Rattle.std.proofs.Common.{◌≡◌, ℕ, zero, suc, ◌<◌, Bool, true, false, List, [], ◌∷◌, ◌++◌, map, Option, Some, None, Result, Ok, Err, refl, sym, ap, ◌∙◌, subst, inl, inr}
use Rattle.std.specs.Prelude.{◌⊎◌, is_some}
use Rattle.std.specs.List.{filter_map, list_any, position_or_len}
use Rattle.std.specs.List.Sorted.{IsStrictlyIncreasing}
use Rattle.std.specs.Option.{option_map, option_map_or}
use Rattle.std.proofs.lemmas.Bool.{cases_Bool}
use Rattle.std.proofs.lemmas.List.{append-nil, append_assoc, map_push}
use Rattle.nc_types.specs.Faults.{lowest}
use Rattle.nc_types.specs.declared.addr.Addr.{Addr}
use Rattle.nc_types.specs.declared.fault.Fault.{Fault}
use Rattle.nc_types.specs.declared.fault.Cause.{Cause}
use Rattle.nc_types.proofs.Members.{In, in_by_map}
use Rattle.nc_lines.specs.Groups.{Keyed, Group, groups, changed_at}
use Rattle.nc_lines.specs.Outcomes.{lower_of}
use Rattle.nc_lines.specs.Statements.{fault_of}
use Rattle.nc_lines.specs.Parts.{Numbered, lines_in, Stated, first_of, statements_in}
use Rattle.nc_lines.proofs.FaultLemmas.{lowest_append, lowest_first}
use Rattle.nc_lines.proofs.GroupLemmas.{keys_of, grown, groups-known, groups-new}
use Rattle.nc_lines.proofs.Grouping.{IsSame, equiv_of, grouped, has_grouped}
use Rattle.nc_lines.proofs.Pairs.{Pairs, pairs_map, pairs_by_map, pairs_kept, pairs_append, pairs_across}
use Rattle.nc_read_bgp.specs.Statements.{NeighborSays, line_says}
use Rattle.nc_read_bgp.specs.Neighbors.{NeighborFields, neighbor_in}
use Rattle.nc_read_bgp.specs.Processes.{ProcessMade, fields_in, process_of, process_in, lack_of, first_line, same_addr}
use Rattle.nc_read_bgp.specs.Laws.{faults_in, lacks_in, lowest_or_process}
use Rattle.nc_read_bgp.proofs.ProcessLemmas.{addrs_same}
use Rattle.nc_read_bgp.proofs.LawLemmas.{near, near_ascend, block_ascends, statements_ascend}

-- ---- the first lines of groups

abbrev first_in : {K V : Type 0} → Group K (Stated V) → ℕ
first_in g = first_line (map (λ s. s.line) g.values)

-- some value is in a group
abbrev HasSome : {K V : Type 0} → Group K V → Type 0
HasSome {K} {V} g = (v : V) × (vs : List V) × (g.values ≡ v ∷ vs)

first_stays : {V : Type 0} (more : Stated V) (vs : List (Stated V)) (w : Stated V) (ws : List (Stated V)) → vs ≡ w ∷ ws → first_line (map (λ s. s.line) (vs ++ more ∷ [])) ≡ first_line (map (λ s. s.line) vs)
first_stays more [] w ws e = absurd (cc)
first_stays more (v ∷ vs) w ws e = refl

-- one more value in a group that has some doesn't change its first line
firsts_stay : {K V : Type 0} (more : Stated V) (place : ℕ) (gs : List (Group K (Stated V))) → ((g : Group K (Stated V)) → In g gs → HasSome g) → map first_in (changed_at (grown more) place gs) ≡ map first_in gs
firsts_stay more place [] some = refl
firsts_stay more zero (g ∷ gs) some = let s = some g (inl refl) in ap (λ (k : ℕ). k ∷ map first_in gs) (first_stays more g.values s.0 s.1 s.2)
firsts_stay more (suc place) (g ∷ gs) some = ap (λ (ks : List ℕ). first_in g ∷ ks) (firsts_stay more place gs (λ h i. some h (inr i)))

module _ {K V : Type 0} (same : K → K → Bool) (is : IsSame same) where
  abbrev firsts : List (Keyed K (Stated V)) → List ℕ
  firsts ps = map first_in (groups same ps)

  -- one more statement begins a group, or doesn't
  more_firsts : (ps : List (Keyed K (Stated V))) (p : Keyed K (Stated V)) → (firsts (ps ++ p ∷ []) ≡ firsts ps) ⊎ (firsts (ps ++ p ∷ []) ≡ firsts ps ++ p.value.line ∷ [])
  more_firsts ps p =
      elim (cases_Bool (list_any (same p.key) (keys_of same ps))) [
        | inl known ↦ inl (ap (map first_in) (groups-known (equiv_of is) ps p known) ∙ firsts_stay p.value (position_or_len (same p.key) (keys_of same ps)) (groups same ps) (λ g i. (grouped same is ps g i).1))
        | inr new ↦ inr (ap (map first_in) (groups-new (equiv_of is) ps p new) ∙ map_push first_in (groups same ps) (record { key = p.key; values = p.value ∷ [] }))
      ]

  -- a first line is that of a statement
  is_line : (ps : List (Keyed K (Stated V))) (k : ℕ) → In k (firsts ps) → (p : Keyed K (Stated V)) × In p ps × (p.value.line ≡ k)
  is_line ps k i =
      let g = in_by_map first_in (groups same ps) k i in
      let some = (grouped same is ps g.0 g.1).1 in
      let p = has_grouped same is ps g.0 some.0 g.1 (subst (In some.0) (sym some.2) (inl refl)) in
      (p.0, p.1, ap (λ (s : Stated V). s.line) p.3 ∙ ap (λ (vs : List (Stated V)). first_line (map (λ s. s.line) vs)) (sym some.2) ∙ g.2)

  -- where lines ascend, so do the first lines of the groups in order of first mention
  firsts_ascend : (before ps : List (Keyed K (Stated V))) → Pairs (λ p q. p.value.line < q.value.line) (before ++ ps) → Pairs (λ j k. j < k) (firsts before) → Pairs (λ j k. j < k) (firsts (before ++ ps))
  firsts_ascend before [] up known = subst (λ qs. Pairs (λ j k. j < k) (firsts qs)) (sym (append-nil before)) known
  firsts_ascend before (p ∷ ps) up known =
      subst (λ qs. Pairs (λ j k. j < k) (firsts qs)) (append_assoc before (p ∷ []) ps)
      (firsts_ascend (before ++ p ∷ []) ps (subst (Pairs (λ p q. p.value.line < q.value.line)) (sym (append_assoc before (p ∷ []) ps)) up) next)
    where
      above : (j k : ℕ) → In j (firsts before) → In k (p.value.line ∷ []) → j < k
      above j k i (inl at) =
          let q = is_line before j i in
          subst (λ (j : ℕ). j < k) q.2 (subst (λ (k : ℕ). q.0.value.line < k) at (pairs_across (λ p q. p.value.line < q.value.line) before (p ∷ ps) up q.0 p q.1 (inl refl)))
      above j k i (inr later) = absurd later

      next : Pairs (λ j k. j < k) (firsts (before ++ p ∷ []))
      next =
          elim (more_firsts before p) [
            | inl stay ↦ subst (Pairs (λ j k. j < k)) (sym stay) known
            | inr more ↦ subst (Pairs (λ j k. j < k)) (sym more) (pairs_append (λ j k. j < k) (firsts before) (p.value.line ∷ []) known ((λ k i. absurd i), tt) above)
          ]

-- ---- of a block

fault_line : (n : ℕ) (o : Option Cause) (f : Fault) → option_map (λ (cause : Cause). record { line = n; cause = cause }) o ≡ Some f → n ≡ f.line
fault_line n None f e = absurd (cc)
fault_line n (Some cause) f e = cc

lack_line : (p : NeighborFields) (f : Fault) → lack_of p ≡ Some f → first_line p.lines ≡ f.line
lack_line p f e = by_number (is_some p.remote_as) refl
  where
    by_number : (b : Bool) → is_some p.remote_as ≡ b → first_line p.lines ≡ f.line
    by_number true known = absurd (cc)
    by_number false none = cc

faults_ascend : (block : List Numbered) → IsStrictlyIncreasing (lines_in block) → Pairs (λ f g. f.line < g.line) (faults_in block)
faults_ascend block up =
    pairs_kept (λ (l : Numbered). option_map (λ (cause : Cause). record { line = l.line; cause = cause }) (fault_of (line_says l))) (λ l m. l.line < m.line) (λ f g. f.line < g.line) block
    (λ l m f g hl hm less a b. subst (λ (k : ℕ). k < g.line) (fault_line l.line (fault_of (line_says l)) f a) (subst (λ (k : ℕ). l.line < k) (fault_line m.line (fault_of (line_says m)) g b) less))
    (block_ascends block up)

lacks_ascend : (block : List Numbered) → IsStrictlyIncreasing (lines_in block) → Pairs (λ f g. f.line < g.line) (lacks_in block)
lacks_ascend block up =
    let ss = statements_in line_says block in
    let neighbor_groups = groups same_addr (filter_map near ss) in
    pairs_kept (λ (e : Addr × NeighborFields). lack_of e.1) (λ d e. first_line d.1.lines < first_line e.1.lines) (λ f g. f.line < g.line) (fields_in ss).neighbors
    (λ d e f g hd he less a b. subst (λ (k : ℕ). k < g.line) (lack_line d.1 f a) (subst (λ (k : ℕ). first_line d.1.lines < k) (lack_line e.1 g b) less))
    (pairs_map (λ (g : Group Addr (Stated NeighborSays)). (g.key, neighbor_in g.values)) (λ g h. first_in g < first_in h) (λ d e. first_line d.1.lines < first_line e.1.lines) neighbor_groups (λ g h hg hh less. less)
    (pairs_by_map first_in (λ j k. j < k) neighbor_groups (firsts_ascend same_addr addrs_same [] (filter_map near ss) (near_ascend ss (statements_ascend block up)) tt)))

pub lowest_is_told : (block : List Numbered) → IsStrictlyIncreasing (lines_in block) → process_in block ≡ lowest_or_process block
unfolding process_in
lowest_is_told block up =
    let made : Option Fault → Result ProcessMade Fault = λ o. option_map_or Err o (Ok (process_of (fields_in (statements_in line_says block)))) in
    sym
    (ap made
    (lowest_append (faults_in block) (lacks_in block) ∙ ap (λ (o : Option Fault). lower_of o (lowest (lacks_in block))) (lowest_first (faults_in block) (faults_ascend block up))
    ∙ ap (λ (o : Option Fault). lower_of (first_of (faults_in block)) o) (lowest_first (lacks_in block) (lacks_ascend block up))))
