-- The static routes with one more statement.
use Rattle.std.proofs.Common.{◌≡◌, ℕ, ◌+◌, Bool, true, false, not, cond, ◌||◌, List, [], ◌∷◌, ◌++◌, map, Option, Some, None, refl, sym, ap, ◌∙◌}
use Rattle.std.specs.List.{list_any, position_or_len, last_or, filter_map, cons_option}
use Rattle.std.specs.Option.{option_map, option_map_or}
use Rattle.std.proofs.lemmas.List.{map_push}
use Rattle.nc_types.specs.Cidr.{Cidr}
use Rattle.nc_types.specs.declared.addr.Addr.{Addr}
use Rattle.nc_reader.specs.declared.routes.RouteKey.{RouteKey}
use Rattle.nc_reader.specs.contracts.routes.RouteKeyPartialEq.TheImpl.{eq-value}
use Rattle.nc_lines.specs.Groups.{Keyed, Group, with_key, keys_from, groups, changed_at}
use Rattle.nc_reader.specs.Things.{Routed, RoutePart, RouteKeyView, key_of, same_key, route_part, statics_of}
use Rattle.nc_reader.specs.Parts.{key_view, keyed, with_statement}
use Rattle.nc_reader.proofs.PushLemmas.{last_or-push}
use Rattle.nc_reader.proofs.RouteKeys.{same_key_equiv}
use Rattle.nc_lines.proofs.GroupLemmas.{groups-new, groups-known, keys_of, keys_of-push, with_key-known, with_key-new, grown, map-changed_at}

-- ---- keys

-- the equality of keys is that of their views
pub eq_fields : (p q : Cidr) (i j : Option (List ℕ)) (h k : Option Addr)
    → (eq-value).it (record { prefix = p; interface = i; hop = h }) (record { prefix = q; interface = j; hop = k }) ≡ same_key (key_view (record { prefix = p; interface = i; hop = h })) (key_view (record { prefix = q; interface = j; hop = k }))
eq_fields p q None None None None = refl
eq_fields p q None None None (Some k) = refl
eq_fields p q None None (Some h) None = refl
eq_fields p q None None (Some h) (Some k) = refl
eq_fields p q None (Some j) h k = refl
eq_fields p q (Some i) None h k = refl
eq_fields p q (Some i) (Some j) None None = refl
eq_fields p q (Some i) (Some j) None (Some k) = refl
eq_fields p q (Some i) (Some j) (Some h) None = refl
eq_fields p q (Some i) (Some j) (Some h) (Some k) = refl

pub eq_same : (a b : RouteKey) → (eq-value).it a b ≡ same_key (key_view a) (key_view b)
eq_same a b = eq_fields a.prefix b.prefix a.interface b.interface a.hop b.hop

list_any-view : (k : RouteKey) (keys : List RouteKey) → list_any ((eq-value).it k) keys ≡ list_any (same_key (key_view k)) (map key_view keys)
list_any-view k [] = refl
list_any-view k (x ∷ keys) = ap (λ (b : Bool). b || list_any ((eq-value).it k) keys) (eq_same k x) ∙ ap (λ (b : Bool). same_key (key_view k) (key_view x) || b) (list_any-view k keys)

position-view : (k : RouteKey) (keys : List RouteKey) → position_or_len ((eq-value).it k) keys ≡ position_or_len (same_key (key_view k)) (map key_view keys)
position-view k [] = refl
position-view k (x ∷ keys) = ap (λ (b : Bool). cond (not b) (1 + position_or_len ((eq-value).it k) keys) 0) (eq_same k x) ∙ ap (λ (n : ℕ). cond (not (same_key (key_view k) (key_view x))) (1 + n) 0) (position-view k keys)

-- ---- what the statements of a route make

last_or-some : {A : Type 0} (x : A) (xs : List A) → (y : A) × (last_or (Some x) xs ≡ Some y)
last_or-some x [] = (x, refl)
last_or-some x (y ∷ xs) = last_or-some y xs

lines-part : (vs : List Routed) → option_map_or (λ p. p.lines) (route_part vs) [] ≡ map (λ r. r.line) vs
lines-part [] = refl
lines-part (v ∷ vs) =
    let last = last_or-some v vs in
    ap (λ (o : Option Routed). option_map_or (λ (p : RoutePart). p.lines) (option_map (λ (last : Routed). record { route = last.route; lines = map (λ r. r.line) (v ∷ vs) }) o) []) last.1

-- what was made so far, with one more statement
abbrev with_more : Routed → Option RoutePart → Option RoutePart
with_more v o = Some (record { route = v.route; lines = option_map_or (λ p. p.lines) o [] ++ v.line ∷ [] })

part-push : (vs : List Routed) (v : Routed) → route_part (vs ++ v ∷ []) ≡ with_more v (route_part vs)
part-push vs v =
    ap (λ (o : Option Routed). option_map (λ (last : Routed). record { route = last.route; lines = map (λ r. r.line) (vs ++ v ∷ []) }) o) (last_or-push None vs v)
    ∙ ap (λ (ls : List ℕ). Some (record { route = v.route; lines = ls })) (map_push (λ (r : Routed). r.line) vs v ∙ ap (λ (ls : List ℕ). ls ++ v.line ∷ []) (sym (lines-part vs)))

-- ---- one more statement

-- the keys of some statements
abbrev keys_in : List Routed → List RouteKeyView
keys_in rs = keys_from same_key [] (map (λ p. p.key) (map keyed rs))

keys_in-push : (rs : List Routed) (r : Routed) → keys_in (rs ++ r ∷ []) ≡ with_key same_key (keys_in rs) (key_of r.route)
keys_in-push rs r = ap (keys_of same_key) (map_push keyed rs r) ∙ keys_of-push same_key (map keyed rs) (keyed r)

any_key : (keys : List RouteKey) (k : RouteKey) (rs : List Routed) (r : Routed) → key_view k ≡ key_of r.route → map key_view keys ≡ keys_in rs → list_any ((eq-value).it k) keys ≡ list_any (same_key (key_of r.route)) (keys_in rs)
any_key keys k rs r is known = list_any-view k keys ∙ ap (λ (v : RouteKeyView). list_any (same_key v) (map key_view keys)) is ∙ ap (list_any (same_key (key_of r.route))) known

pub known-new : (keys : List RouteKey) (k : RouteKey) (rs : List Routed) (r : Routed) → key_view k ≡ key_of r.route → map key_view keys ≡ keys_in rs → list_any ((eq-value).it k) keys ≡ false → map key_view (keys ++ k ∷ []) ≡ keys_in (rs ++ r ∷ [])
known-new keys k rs r is known new =
    map_push key_view keys k ∙ ap (λ (vs : List RouteKeyView). vs ++ key_view k ∷ []) known ∙ ap (λ (v : RouteKeyView). keys_in rs ++ v ∷ []) is
    ∙ sym (keys_in-push rs r ∙ with_key-new same_key (keys_in rs) (key_of r.route) (sym (any_key keys k rs r is known) ∙ new))

pub known-same : (keys : List RouteKey) (k : RouteKey) (rs : List Routed) (r : Routed) → key_view k ≡ key_of r.route → map key_view keys ≡ keys_in rs → list_any ((eq-value).it k) keys ≡ true → map key_view keys ≡ keys_in (rs ++ r ∷ [])
known-same keys k rs r is known there = known ∙ sym (keys_in-push rs r ∙ with_key-known same_key (keys_in rs) (key_of r.route) (sym (any_key keys k rs r is known) ∙ there))

-- what the statements of each route make
abbrev made_in : List Routed → List (Option RoutePart)
made_in rs = map (λ g. route_part g.values) (groups same_key (map keyed rs))

pub made-new : (keys : List RouteKey) (k : RouteKey) (parts : List RoutePart) (rs : List Routed) (r : Routed) → key_view k ≡ key_of r.route → map key_view keys ≡ keys_in rs → list_any ((eq-value).it k) keys ≡ false
    → map (λ p. Some p) parts ≡ made_in rs → map (λ p. Some p) (parts ++ record { route = r.route; lines = r.line ∷ [] } ∷ []) ≡ made_in (rs ++ r ∷ [])
made-new keys k parts rs r is known new made =
    let F : Group RouteKeyView Routed → Option RoutePart = λ g. route_part g.values in
    map_push (λ p. Some p) parts (record { route = r.route; lines = r.line ∷ [] }) ∙ ap (λ (os : List (Option RoutePart)). os ++ Some (record { route = r.route; lines = r.line ∷ [] }) ∷ []) made
    ∙ sym (ap (λ (ps : List (Keyed RouteKeyView Routed)). map F (groups same_key ps)) (map_push keyed rs r) ∙ ap (map F) (groups-new same_key_equiv (map keyed rs) (keyed r) (sym (any_key keys k rs r is known) ∙ new))
    ∙ map_push F (groups same_key (map keyed rs)) (record { key = key_of r.route; values = r ∷ [] }))

pub made-same : (keys : List RouteKey) (k : RouteKey) (parts : List RoutePart) (rs : List Routed) (r : Routed) → key_view k ≡ key_of r.route → map key_view keys ≡ keys_in rs → list_any ((eq-value).it k) keys ≡ true
    → map (λ p. Some p) parts ≡ made_in rs → map (λ p. Some p) (changed_at (with_statement r.line r.route) (position_or_len ((eq-value).it k) keys) parts) ≡ made_in (rs ++ r ∷ [])
made-same keys k parts rs r is known there made =
    let F : Group RouteKeyView Routed → Option RoutePart = λ g. route_part g.values in
    let place = position_or_len ((eq-value).it k) keys in
    let same : place ≡ position_or_len (same_key (key_of r.route)) (keys_in rs) = position-view k keys ∙ ap (λ (v : RouteKeyView). position_or_len (same_key v) (map key_view keys)) is ∙ ap (position_or_len (same_key (key_of r.route))) known in
    map-changed_at (λ p. Some p) (with_statement r.line r.route) (with_more r) (λ p. refl) place parts ∙ ap (changed_at (with_more r) place) made ∙ ap (λ (n : ℕ). changed_at (with_more r) n (made_in rs)) same
    ∙ sym (ap (λ (ps : List (Keyed RouteKeyView Routed)). map F (groups same_key ps)) (map_push keyed rs r) ∙ ap (map F) (groups-known same_key_equiv (map keyed rs) (keyed r) (sym (any_key keys k rs r is known) ∙ there))
    ∙ map-changed_at F (grown r) (with_more r) (λ g. part-push g.values r) (position_or_len (same_key (key_of r.route)) (keys_in rs)) (groups same_key (map keyed rs)))

-- what each group makes, where each makes something
some-parts : {X Y : Type 0} (f : X → Option Y) (xs : List X) (ys : List Y) → map (λ y. Some y) ys ≡ map f xs → filter_map f xs ≡ ys
some-parts f [] [] e = refl
some-parts f [] (y ∷ ys) e = absurd cc
some-parts f (x ∷ xs) [] e = absurd cc
some-parts {X} {Y} f (x ∷ xs) (y ∷ ys) e =
    let first : Some y ≡ f x = cc in
    let rest : map (λ y. Some y) ys ≡ map f xs = cc in
    ap (λ (o : Option Y). cons_option o (filter_map f xs)) (sym first) ∙ ap (λ (zs : List Y). y ∷ zs) (some-parts f xs ys rest)

pub statics-made : (parts : List RoutePart) (rs : List Routed) → map (λ p. Some p) parts ≡ made_in rs → parts ≡ statics_of rs
statics-made parts rs made = sym (some-parts (λ g. route_part g.values) (groups same_key (map keyed rs)) parts made)
