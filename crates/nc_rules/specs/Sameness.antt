-- Facts are told apart by their kinds and their numbers.
use mathlib.Core.Bool.{beq}
use Rattle.std.proofs.Common.{◌≡◌, ◌↔◌, ℕ, Bool, true, false, ◌&&◌, nat_eq, refl, ap, subst, ◌∙◌}
use Rattle.std.proofs.lemmas.Bool.{and_parts, eqb-true, eq-eqb}
use Rattle.nc_types.specs.declared.addr.Addr.{Addr}
use Rattle.nc_types.specs.declared.config.RouterId.{RouterId}
use Rattle.nc_types.specs.declared.config.IfaceId.{IfaceId}
use Rattle.nc_types.specs.declared.config.ElementId.{ElementId}
use Rattle.nc_types.specs.Cidr.{Cidr}
use Rattle.nc_tables.specs.Base.{same_prefix}
use Rattle.nc_types.proofs.Sameness.{same_prefix_is}
use Rattle.nc_fact.specs.contracts.fact.FactPartialEq.TheImpl.{eq-value}
use Rattle.nc_fact.specs.declared.fact.Fact.{Fact}
use Rattle.nc_fact.specs.declared.fact.Fact.TheVariants.{Element, Connected, Static, Base, Resolve, NetSource, Reach, Hop, Session, Origin, Contrib, Aggregate, Message, Entry, Chosen, Main, Step, Trace, AllStep, AllTrace, Pass, FlowStep, Flow}
use Rattle.nc_rules.specs.Rules.{same_fact}

same_router : (r s : RouterId) → nat_eq r.0 s.0 ≡ true → r ≡ s
same_router r s e = ap (λ (n : ℕ). let id : RouterId = record { 0 = n } in id) (eqb-true r.0 s.0 e)

same_address : (a b : Addr) → nat_eq a.0 b.0 ≡ true → a ≡ b
same_address a b e = ap (λ (n : ℕ). let addr : Addr = record { 0 = n } in addr) (eqb-true a.0 b.0 e)

-- two facts of a router and a further number
same_two : (make : RouterId → ℕ → Fact) (r s : RouterId) (k l : ℕ) → (nat_eq r.0 s.0 && nat_eq k l) ≡ true → make r k ≡ make s l
same_two make r s k l e = let parts = and_parts (nat_eq r.0 s.0) (nat_eq k l) e in ap (λ (id : RouterId). make id k) (same_router r s parts.0) ∙ ap (make s) (eqb-true k l parts.1)

-- two facts of a router, a further number and a prefix
same_three : (make : RouterId → ℕ → Cidr → Fact) (r s : RouterId) (k l : ℕ) (p q : Cidr) → (nat_eq r.0 s.0 && (nat_eq k l && same_prefix p q)) ≡ true → make r k p ≡ make s l q
same_three make r s k l p q e =
    let parts = and_parts (nat_eq r.0 s.0) (nat_eq k l && same_prefix p q) e in
    let more = and_parts (nat_eq k l) (same_prefix p q) parts.1 in
    ap (λ (id : RouterId). make id k p) (same_router r s parts.0) ∙ ap (λ (n : ℕ). make s n p) (eqb-true k l more.0) ∙ ap (make s l) (same_prefix_is p q more.1)

-- two facts of a router, an address and so many hops
same_way : (make : RouterId → Addr → ℕ → Fact) (r s : RouterId) (a b : Addr) (m n : ℕ) → (nat_eq r.0 s.0 && (nat_eq a.0 b.0 && nat_eq m n)) ≡ true → make r a m ≡ make s b n
same_way make r s a b m n e =
    let parts = and_parts (nat_eq r.0 s.0) (nat_eq a.0 b.0 && nat_eq m n) e in
    let more = and_parts (nat_eq a.0 b.0) (nat_eq m n) parts.1 in
    ap (λ (id : RouterId). make id a m) (same_router r s parts.0) ∙ ap (λ (addr : Addr). make s addr m) (same_address a b more.0) ∙ ap (make s b) (eqb-true m n more.1)

-- two facts of a router, an address, a place and so many hops
same_hop : (make : RouterId → Addr → ℕ → ℕ → Fact) (r s : RouterId) (a b : Addr) (k l m n : ℕ) → (nat_eq r.0 s.0 && (nat_eq a.0 b.0 && (nat_eq k l && nat_eq m n))) ≡ true → make r a k m ≡ make s b l n
same_hop make r s a b k l m n e =
    let parts = and_parts (nat_eq r.0 s.0) (nat_eq a.0 b.0 && (nat_eq k l && nat_eq m n)) e in
    let more = and_parts (nat_eq a.0 b.0) (nat_eq k l && nat_eq m n) parts.1 in
    let last = and_parts (nat_eq k l) (nat_eq m n) more.1 in
    ap (λ (id : RouterId). make id a k m) (same_router r s parts.0) ∙ ap (λ (addr : Addr). make s addr k m) (same_address a b more.0) ∙ ap (λ (row : ℕ). make s b row m) (eqb-true k l last.0) ∙ ap (make s b l) (eqb-true m n last.1)

-- two facts of a packet from an address to another
same_ends : (make : Addr → Addr → Fact) (a b c d : Addr) → nat_eq a.0 b.0 ≡ true → nat_eq c.0 d.0 ≡ true → make a c ≡ make b d
same_ends make a b c d e f = ap (λ (from : Addr). make from c) (same_address a b e) ∙ ap (make b) (same_address c d f)

same_direction : (a b : Bool) → beq a b ≡ true → a ≡ b
same_direction true true e = refl
same_direction false false e = refl
same_direction true false e = absurd cc
same_direction false true e = absurd cc

pub same_is : (x y : Fact) → same_fact x y ≡ true → x ≡ y
same_is (Element e) (Element f) h = ap (λ (n : ℕ). Element (record { 0 = n })) (eqb-true e.0 f.0 h)
same_is (Connected r i) (Connected s j) h = same_two (λ (id : RouterId) (n : ℕ). Connected id (record { 0 = n })) r s i.0 j.0 h
same_is (Static r k) (Static s l) h = same_two Static r s k l h
same_is (Base r k) (Base s l) h = same_two Base r s k l h
same_is (Resolve r a) (Resolve s b) h = same_two (λ (id : RouterId) (n : ℕ). Resolve id (record { 0 = n })) r s a.0 b.0 h
same_is (NetSource r p) (NetSource s q) h = let parts = and_parts (nat_eq r.0 s.0) (same_prefix p q) h in ap (λ (id : RouterId). NetSource id p) (same_router r s parts.0) ∙ ap (NetSource s) (same_prefix_is p q parts.1)
same_is (Reach r a m) (Reach s b n) h = same_way Reach r s a b m n h
same_is (Hop r a k m) (Hop s b l n) h = same_hop Hop r s a b k l m n h
same_is (Session r k) (Session s l) h = same_two Session r s k l h
same_is (Origin r k) (Origin s l) h = same_two Origin r s k l h
same_is (Contrib r k) (Contrib s l) h = same_two Contrib r s k l h
same_is (Aggregate r k) (Aggregate s l) h = same_two Aggregate r s k l h
same_is (Message r k p) (Message s l q) h = same_three Message r s k l p q h
same_is (Entry r k p) (Entry s l q) h = same_three Entry r s k l p q h
same_is (Chosen r p k) (Chosen s q l) h =
    let parts = and_parts (nat_eq r.0 s.0) (same_prefix p q && nat_eq k l) h in
    let more = and_parts (same_prefix p q) (nat_eq k l) parts.1 in
    ap (λ (id : RouterId). Chosen id p k) (same_router r s parts.0) ∙ ap (λ (c : Cidr). Chosen s c k) (same_prefix_is p q more.0) ∙ ap (Chosen s q) (eqb-true k l more.1)
same_is (Main r k) (Main s l) h = same_two Main r s k l h
same_is (Step r a k m) (Step s b l n) h = same_hop Step r s a b k l m n h
same_is (Trace r a m) (Trace s b n) h = same_way Trace r s a b m n h
same_is (AllStep r a k m) (AllStep s b l n) h = same_hop AllStep r s a b k l m n h
same_is (AllTrace r a m) (AllTrace s b n) h = same_way AllTrace r s a b m n h
same_is (Pass into r i a c) (Pass inward s j b d) h =
    let way = and_parts (beq into inward) _ h in
    let parts = and_parts (nat_eq r.0 s.0) _ way.1 in
    let more = and_parts (nat_eq i.0 j.0) (nat_eq a.0 b.0 && nat_eq c.0 d.0) parts.1 in
    let ends = and_parts (nat_eq a.0 b.0) (nat_eq c.0 d.0) more.1 in
    ap (λ (to : Bool). Pass to r i a c) (same_direction into inward way.0) ∙ ap (λ (id : RouterId). Pass inward id i a c) (same_router r s parts.0)
    ∙ ap (λ (n : ℕ). Pass inward s (record { 0 = n }) a c) (eqb-true i.0 j.0 more.0) ∙ same_ends (Pass inward s j) a b c d ends.0 ends.1
same_is (FlowStep m r a c k) (FlowStep n s b d l) h =
    let hops = and_parts (nat_eq m n) _ h in
    let parts = and_parts (nat_eq r.0 s.0) _ hops.1 in
    let first = and_parts (nat_eq a.0 b.0) (nat_eq c.0 d.0 && nat_eq k l) parts.1 in
    let last = and_parts (nat_eq c.0 d.0) (nat_eq k l) first.1 in
    ap (λ (most : ℕ). FlowStep most r a c k) (eqb-true m n hops.0) ∙ ap (λ (id : RouterId). FlowStep n id a c k) (same_router r s parts.0)
    ∙ same_ends (λ from to. FlowStep n s from to k) a b c d first.0 last.0 ∙ ap (FlowStep n s b d) (eqb-true k l last.1)
same_is (Flow r a c m) (Flow s b d n) h =
    let parts = and_parts (nat_eq r.0 s.0) _ h in
    let first = and_parts (nat_eq a.0 b.0) _ parts.1 in
    let last = and_parts (nat_eq c.0 d.0) (nat_eq m n) first.1 in
    ap (λ (id : RouterId). Flow id a c m) (same_router r s parts.0) ∙ same_ends (λ from to. Flow s from to m) a b c d first.0 last.0 ∙ ap (Flow s b d) (eqb-true m n last.1)
same_is f g h = absurd cc

-- ---- facts that the code calls equal are one

never : {A : Type 0} → false ≡ true → A
never e = absurd cc

abbrev IsExact : Fact → Type 0
IsExact x = (y : Fact) → (eq-value).it x y ≡ true → x ≡ y

element_exact : (e : ElementId) → IsExact (Element e)
element_exact e (Element f) h = same_is (Element e) (Element f) h
element_exact e y h = never h

connected_exact : (r : RouterId) (i : IfaceId) → IsExact (Connected r i)
connected_exact r i (Connected s j) h = same_is (Connected r i) (Connected s j) h
connected_exact r i y h = never h

static_exact : (r : RouterId) (k : ℕ) → IsExact (Static r k)
static_exact r k (Static s l) h = same_is (Static r k) (Static s l) h
static_exact r k y h = never h

base_exact : (r : RouterId) (k : ℕ) → IsExact (Base r k)
base_exact r k (Base s l) h = same_is (Base r k) (Base s l) h
base_exact r k y h = never h

resolve_exact : (r : RouterId) (a : Addr) → IsExact (Resolve r a)
resolve_exact r a (Resolve s b) h = same_is (Resolve r a) (Resolve s b) h
resolve_exact r a y h = never h

net_source_exact : (r : RouterId) (p : Cidr) → IsExact (NetSource r p)
net_source_exact r p (NetSource s q) h = same_is (NetSource r p) (NetSource s q) h
net_source_exact r p y h = never h

reach_exact : (r : RouterId) (a : Addr) (m : ℕ) → IsExact (Reach r a m)
reach_exact r a m (Reach s b n) h = same_is (Reach r a m) (Reach s b n) h
reach_exact r a m y h = never h

hop_exact : (r : RouterId) (a : Addr) (k : ℕ) (m : ℕ) → IsExact (Hop r a k m)
hop_exact r a k m (Hop s b l n) h = same_is (Hop r a k m) (Hop s b l n) h
hop_exact r a k m y h = never h

session_exact : (r : RouterId) (k : ℕ) → IsExact (Session r k)
session_exact r k (Session s l) h = same_is (Session r k) (Session s l) h
session_exact r k y h = never h

origin_exact : (r : RouterId) (k : ℕ) → IsExact (Origin r k)
origin_exact r k (Origin s l) h = same_is (Origin r k) (Origin s l) h
origin_exact r k y h = never h

contrib_exact : (r : RouterId) (k : ℕ) → IsExact (Contrib r k)
contrib_exact r k (Contrib s l) h = same_is (Contrib r k) (Contrib s l) h
contrib_exact r k y h = never h

aggregate_exact : (r : RouterId) (k : ℕ) → IsExact (Aggregate r k)
aggregate_exact r k (Aggregate s l) h = same_is (Aggregate r k) (Aggregate s l) h
aggregate_exact r k y h = never h

message_exact : (r : RouterId) (k : ℕ) (p : Cidr) → IsExact (Message r k p)
message_exact r k p (Message s l q) h = same_is (Message r k p) (Message s l q) h
message_exact r k p y h = never h

entry_exact : (r : RouterId) (k : ℕ) (p : Cidr) → IsExact (Entry r k p)
entry_exact r k p (Entry s l q) h = same_is (Entry r k p) (Entry s l q) h
entry_exact r k p y h = never h

chosen_exact : (r : RouterId) (p : Cidr) (k : ℕ) → IsExact (Chosen r p k)
chosen_exact r p k (Chosen s q l) h = same_is (Chosen r p k) (Chosen s q l) h
chosen_exact r p k y h = never h

main_exact : (r : RouterId) (k : ℕ) → IsExact (Main r k)
main_exact r k (Main s l) h = same_is (Main r k) (Main s l) h
main_exact r k y h = never h

step_exact : (r : RouterId) (a : Addr) (k : ℕ) (m : ℕ) → IsExact (Step r a k m)
step_exact r a k m (Step s b l n) h = same_is (Step r a k m) (Step s b l n) h
step_exact r a k m y h = never h

trace_exact : (r : RouterId) (a : Addr) (m : ℕ) → IsExact (Trace r a m)
trace_exact r a m (Trace s b n) h = same_is (Trace r a m) (Trace s b n) h
trace_exact r a m y h = never h

all_step_exact : (r : RouterId) (a : Addr) (k : ℕ) (m : ℕ) → IsExact (AllStep r a k m)
all_step_exact r a k m (AllStep s b l n) h = same_is (AllStep r a k m) (AllStep s b l n) h
all_step_exact r a k m y h = never h

all_trace_exact : (r : RouterId) (a : Addr) (m : ℕ) → IsExact (AllTrace r a m)
all_trace_exact r a m (AllTrace s b n) h = same_is (AllTrace r a m) (AllTrace s b n) h
all_trace_exact r a m y h = never h

pass_exact : (into : Bool) (r : RouterId) (i : IfaceId) (a c : Addr) → IsExact (Pass into r i a c)
pass_exact into r i a c (Pass inward s j b d) h = same_is (Pass into r i a c) (Pass inward s j b d) h
pass_exact into r i a c y h = never h

flow_step_exact : (m : ℕ) (r : RouterId) (a c : Addr) (k : ℕ) → IsExact (FlowStep m r a c k)
flow_step_exact m r a c k (FlowStep n s b d l) h = same_is (FlowStep m r a c k) (FlowStep n s b d l) h
flow_step_exact m r a c k y h = never h

flow_exact : (r : RouterId) (a c : Addr) (m : ℕ) → IsExact (Flow r a c m)
flow_exact r a c m (Flow s b d n) h = same_is (Flow r a c m) (Flow s b d n) h
flow_exact r a c m y h = never h

pub exactly : (x y : Fact) → (eq-value).it x y ≡ true → x ≡ y
exactly (Element e) y h = element_exact e y h
exactly (Connected r i) y h = connected_exact r i y h
exactly (Static r k) y h = static_exact r k y h
exactly (Base r k) y h = base_exact r k y h
exactly (Resolve r a) y h = resolve_exact r a y h
exactly (NetSource r p) y h = net_source_exact r p y h
exactly (Reach r a m) y h = reach_exact r a m y h
exactly (Hop r a k m) y h = hop_exact r a k m y h
exactly (Session r k) y h = session_exact r k y h
exactly (Origin r k) y h = origin_exact r k y h
exactly (Contrib r k) y h = contrib_exact r k y h
exactly (Aggregate r k) y h = aggregate_exact r k y h
exactly (Message r k p) y h = message_exact r k p y h
exactly (Entry r k p) y h = entry_exact r k p y h
exactly (Chosen r p k) y h = chosen_exact r p k y h
exactly (Main r k) y h = main_exact r k y h
exactly (Step r a k m) y h = step_exact r a k m y h
exactly (Trace r a m) y h = trace_exact r a m y h
exactly (AllStep r a k m) y h = all_step_exact r a k m y h
exactly (AllTrace r a m) y h = all_trace_exact r a m y h
exactly (Pass into r i a c) y h = pass_exact into r i a c y h
exactly (FlowStep m r a c k) y h = flow_step_exact m r a c k y h
exactly (Flow r a c m) y h = flow_exact r a c m y h

itself : (n : ℕ) → nat_eq n n ≡ true
itself n = eq-eqb n n refl

direction_itself : (b : Bool) → beq b b ≡ true
direction_itself true = refl
direction_itself false = refl

same_itself : (x : Fact) → same_fact x x ≡ true
same_itself (Element e) = itself e.0
same_itself (Connected r i) = rw (itself r.0, itself i.0) refl
same_itself (Static r k) = rw (itself r.0, itself k) refl
same_itself (Base r k) = rw (itself r.0, itself k) refl
same_itself (Resolve r a) = rw (itself r.0, itself a.0) refl
same_itself (NetSource r p) = rw (itself r.0, itself p.base, itself p.len) refl
same_itself (Reach r a m) = rw (itself r.0, itself a.0, itself m) refl
same_itself (Hop r a k m) = rw (itself r.0, itself a.0, itself k, itself m) refl
same_itself (Session r k) = rw (itself r.0, itself k) refl
same_itself (Origin r k) = rw (itself r.0, itself k) refl
same_itself (Contrib r k) = rw (itself r.0, itself k) refl
same_itself (Aggregate r k) = rw (itself r.0, itself k) refl
same_itself (Message r k p) = rw (itself r.0, itself k, itself p.base, itself p.len) refl
same_itself (Entry r k p) = rw (itself r.0, itself k, itself p.base, itself p.len) refl
same_itself (Chosen r p k) = rw (itself r.0, itself p.base, itself p.len, itself k) refl
same_itself (Main r k) = rw (itself r.0, itself k) refl
same_itself (Step r a k m) = rw (itself r.0, itself a.0, itself k, itself m) refl
same_itself (Trace r a m) = rw (itself r.0, itself a.0, itself m) refl
same_itself (AllStep r a k m) = rw (itself r.0, itself a.0, itself k, itself m) refl
same_itself (AllTrace r a m) = rw (itself r.0, itself a.0, itself m) refl
same_itself (Pass into r i a c) = rw (direction_itself into, itself r.0, itself i.0, itself a.0, itself c.0) refl
same_itself (FlowStep m r a c k) = rw (itself m, itself r.0, itself a.0, itself c.0, itself k) refl
same_itself (Flow r a c m) = rw (itself r.0, itself a.0, itself c.0, itself m) refl

-- the test of facts tells them apart
pub tells_apart : (x y : Fact) → (same_fact x y ≡ true) ↔ (x ≡ y)
tells_apart x y = (same_is x y, λ e. subst (λ (z : Fact). same_fact x z ≡ true) e (same_itself x))
