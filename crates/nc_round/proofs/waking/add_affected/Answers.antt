use Rattle.std.proofs.Common.{◌≡◌, ◌+◌, ◌<◌, ◌∷◌, ◌++◌, ℕ, [], Bool, true, false, cond, List, All, length, drop, filter, not, get_or, append_assoc, refl, sym, ap, subst, ◌∙◌, arith}
use Rattle.std.specs.List.{flat_map}
use Rattle.std.proofs.lemmas.List.{drop_more, map-append}
use Rattle.std.proofs.lemmas.List.Elements.{All-append, All-filter}
use Rattle.nc_types.specs.Cidr.{Cidr}
use Rattle.nc_tables.specs.declared.bgp.SessionRow.{SessionRow}
use Rattle.nc_tables.specs.declared.ribs.Numbered.{Numbered}
use Rattle.nc_tables.specs.LocRibs.{IsNumbered}
use Rattle.nc_decision.specs.BestPath.{leaves_best_path}
use Rattle.nc_round.specs.Rows.{listed, prefixes_of}
use Rattle.nc_round.specs.Waking.{affected_over}
use Rattle.nc_round.proofs.waking.add_affected.Goals as goal

-- what is heard from one more peer is noted
heard_more : (f : SessionRow → List Cidr) (rows : List SessionRow) (k : ℕ) (d : SessionRow) (items more all : List Cidr) → k < length rows → more ≡ items ++ f (get_or rows k d) → items ++ flat_map f (drop k rows) ≡ all
    → more ++ flat_map f (drop (k + 1) rows) ≡ all
heard_more f rows k d items more all lt added is =
    ap (λ (l : List Cidr). l ++ flat_map f (drop (k + 1) rows)) added
    ∙ append_assoc items (f (get_or rows k d)) (flat_map f (drop (k + 1) rows))
    ∙ ap (λ (l : List SessionRow). items ++ flat_map f l) (sym (drop_more rows k d lt)) ∙ is

-- what stands where there is no session
nowhere : SessionRow
nowhere = record { router = record { 0 = 0 }; neighbor = 0; peer = record { 0 = 0 }; peer_neighbor = 0; source = record { 0 = 0 }; peer_source = record { 0 = 0 }; internal = false }

-- the prefixes of those of numbered ones that pass a test are those of their prefixes that do
passing : (test : Cidr → Bool) (ns : List Numbered) → prefixes_of (filter (λ (n : Numbered). test n.prefix) ns) ≡ filter test (prefixes_of ns)
passing test [] = refl
passing test (n ∷ ns) = on (test n.prefix) (filter (λ (m : Numbered). test m.prefix) ns) (passing test ns)
  where
    on : (b : Bool) (later : List Numbered) → prefixes_of later ≡ filter test (prefixes_of ns) → prefixes_of (cond b (n ∷ later) later) ≡ cond b (n.prefix ∷ filter test (prefixes_of ns)) (filter test (prefixes_of ns))
    on true later rest = ap (λ (l : List Cidr). n.prefix ∷ l) rest
    on false later rest = rest

pub rows-preserved : goal.rows-preserved
unfolding nowhere
rows-preserved c =
    let i = c.args.inputs.now in
    let lists : List (List Cidr) = listed c.args.lists.now in
    let f = affected_over i c.args.ribs.now.rows lists c.args.router.0 in
    let rows = c.args.rows.now in
    let k = c.rows.row-index in
    let row = get_or rows k nowhere in
    let test : Cidr → Bool = λ p. not (leaves_best_path i.network.now i.base.now i.sessions.now c.args.ribs.now.rows c.args.router.0 row.neighbor p) in
    let changed : List Numbered = c.changed_at-changed.result.now in
    let counting : List Numbered = filter (λ n. test n.prefix) changed in
    let noted = c.rows.noted.items in
    record {
      prefixes = heard_more f rows k nowhere (prefixes_of noted) (prefixes_of c.add_counting.new.noted.items) (prefixes_of c.args.noted.now.items ++ flat_map f rows) (omega arith)
          (ap prefixes_of c.in_ok-add_counting.ensures ∙ map-append (λ (n : Numbered). n.prefix) noted counting
          ∙ ap (λ (l : List Cidr). prefixes_of noted ++ l) (passing test changed ∙ ap (filter test) c.changed_at-changed.ensures.prefixes))
          c.rows.invariant.prefixes;
      numbers = subst (All (IsNumbered c.args.ribs.now.prefixes)) (sym c.in_ok-add_counting.ensures)
          (All-append (IsNumbered c.args.ribs.now.prefixes) noted counting c.rows.invariant.numbers
          (All-filter (λ n. test n.prefix) (IsNumbered c.args.ribs.now.prefixes) changed (c.changed_at-changed.ensures.numbers c.args.ribs.now.prefixes c.requires.numbers)));
    }
