-- The rows of each router among rows in order: they stand one behind the other.
use Rattle.std.proofs.Common.{◌≡◌, ℕ, suc, ◌+◌, ◌-◌, ◌<◌, ◌≤◌, ◌==◌, Bool, true, false, cond, List, [], ◌∷◌, ◌++◌, length, map, get_or, take, drop, All, Option, Some, None, refl, sym, ap, subst, ◌∙◌, arith, inl, inr}
use Rattle.std.specs.List.{AllPairs, cons_option, prefix_len, slice_range}
use Rattle.std.specs.declared.cmp.Ordering.TheVariants.{Less}
use Rattle.std.proofs.lemmas.Bool.{cases_lt, eqb-true, eqb-false, ne_eqb}
use Rattle.std.proofs.lemmas.Bool.Decides.{nat_tests}
use Rattle.std.proofs.lemmas.List.{drop-map, get_or-map, get_or_push, length-map, map_push, take-map}
use Rattle.std.proofs.lemmas.List.Elements.{All-nil, All-cons, All-drop, All-head, All-map, All-tail, All-take}
use lib.ListN.{get_or-append}
use Rattle.nc_types.specs.Cidr.{Cidr}
use Rattle.nc_tables.specs.declared.ribs.Numbered.{Numbered}
use Rattle.nc_tables.proofs.ByPrefix.{pairs_head, pairs_tail}
use Rattle.nc_round.specs.declared.by_router.Part.{Part}
use Rattle.nc_round.specs.declared.changed.NumberedRow.{NumberedRow}
use Rattle.nc_round.specs.Keys.{Key, key_cmp, AreInOrder}
use Rattle.nc_round.specs.Parts.{cut_at}
use Rattle.nc_round.specs.Rows.{listed, prefixes_of, row_key}
use Rattle.nc_round.specs.Waking.{changed_at}

-- rows go by router
abbrev IsUpto : NumberedRow → NumberedRow → Type 0
IsUpto a b = a.router.0 ≤ b.router.0

abbrev pub GoByRouter : List NumberedRow → Type 0
GoByRouter rows = AllPairs IsUpto rows

no_higher : (a b : Key) → key_cmp a b ≡ Less → a.0.0 ≤ b.0.0
no_higher a b e = grind (arith, nat_tests)

pub go_by_router : (rows : List NumberedRow) → AreInOrder (map row_key rows) → GoByRouter rows
go_by_router rows up i j d less lt =
    let at : (k : ℕ) → k < length rows → get_or (map row_key rows) k (row_key d) ≡ row_key (get_or rows k d) = λ k in_rows. get_or-map row_key rows k d (row_key d) in_rows in
    no_higher (row_key (get_or rows i d)) (row_key (get_or rows j d))
    (subst (λ (k : Key). key_cmp k (row_key (get_or rows j d)) ≡ Less) (at i (omega arith))
    (subst (λ (k : Key). key_cmp (get_or (map row_key rows) i (row_key d)) k ≡ Less) (at j lt)
    (up i j (row_key d) less (let long = length-map rows row_key in omega arith))))

abbrev pub is_of : ℕ → NumberedRow → Bool
is_of router r = r.router.0 == router

-- the number of rows at the front that are of a router
abbrev pub front : ℕ → List NumberedRow → ℕ
front router rows = prefix_len (is_of router) rows

-- a row more, of which it is known whether it is of the router
abbrev joined : Bool → NumberedRow → List Cidr → List Cidr
joined b x later = cons_option (cond {A = Option Cidr} b (Some x.of.prefix) None) later

none_of : (router : ℕ) (rows : List NumberedRow) → All (λ r. router < r.router.0) rows → changed_at (map row_key rows) router ≡ []
none_of router [] above = refl
none_of router (x ∷ xs) above =
    ap (λ (b : Bool). joined b x (changed_at (map row_key xs) router)) (ne_eqb x.router.0 router (λ e. let lt = All-head (λ (r : NumberedRow). router < r.router.0) x xs above in omega arith))
    ∙ none_of router xs (All-tail (λ (r : NumberedRow). router < r.router.0) x xs above)

-- what stands in front is all of a router, and what is left is of later ones
pub record IsCut (router : ℕ) (rows : List NumberedRow) (n : ℕ) : Type 0 where
  pub own : changed_at (map row_key rows) router ≡ prefixes_of (map (λ (r : NumberedRow). r.of) (take n rows))
  pub later : All (λ r. router < r.router.0) (drop n rows)
  pub up : GoByRouter (drop n rows)
  pub others : (r : ℕ) → router < r → changed_at (map row_key (drop n rows)) r ≡ changed_at (map row_key rows) r
  pub few : n ≤ length rows

pub is_cut : (router : ℕ) (rows : List NumberedRow) → GoByRouter rows → All (λ r. router ≤ r.router.0) rows → IsCut router rows (front router rows)
is_cut router [] up from = record { own = refl; later = All-nil (λ (r : NumberedRow). router < r.router.0); up = up; others = λ r lt. refl; few = omega arith }
is_cut router (x ∷ xs) up from = on (x.router.0 == router) refl (is_cut router xs (pairs_tail IsUpto x xs up) (All-tail (λ (r : NumberedRow). router ≤ r.router.0) x xs from))
  where
    one : suc (front router xs) ≡ 1 + front router xs
    one = omega arith

    on : (b : Bool) → (x.router.0 == router) ≡ b → IsCut router xs (front router xs) → IsCut router (x ∷ xs) (cond b (1 + front router xs) 0)
    on true e rest = subst (IsCut router (x ∷ xs)) one (record {
      own = ap (λ (b : Bool). joined b x (changed_at (map row_key xs) router)) e ∙ ap (λ (l : List Cidr). x.of.prefix ∷ l) rest.own;
      later = rest.later;
      up = rest.up;
      others = λ r lt. rest.others r lt ∙ sym (ap (λ (b : Bool). joined b x (changed_at (map row_key xs) r)) (ne_eqb x.router.0 r (λ same. let is = eqb-true x.router.0 router e in omega arith)));
      few = let le = rest.few in omega arith;
    })
    on false e rest =
        let lt : router < x.router.0 = let le = All-head (λ (r : NumberedRow). router ≤ r.router.0) x xs from in let other = eqb-false x.router.0 router e in omega arith in
        let above : All (λ (r : NumberedRow). router < r.router.0) (x ∷ xs) = All-cons (λ (r : NumberedRow). router < r.router.0) x xs lt (λ k d within. let le = pairs_head IsUpto x xs up k d within in omega arith) in
        record {
          own = none_of router (x ∷ xs) above;
          later = above;
          up = up;
          others = λ r less. refl;
          few = omega arith;
        }

-- the numbered prefixes of rows
abbrev pub all_of : List NumberedRow → List Numbered
all_of rows = map (λ (r : NumberedRow). r.of) rows

-- what stands at a part of them
pub part_is : (rows : List NumberedRow) (from n : ℕ) → slice_range (all_of rows) from (from + n) ≡ all_of (take n (drop from rows))
part_is rows from n =
    let count : (from + n) - from ≡ n = omega arith in
    ap (λ (k : ℕ). take k (drop from (all_of rows))) count
    ∙ ap (take n) (drop-map (λ (r : NumberedRow). r.of) from rows)
    ∙ take-map (λ (r : NumberedRow). r.of) n (drop from rows)

abbrev pub cut : List Numbered → Part → List Numbered
cut all p = slice_range all p.from p.to

-- one part more
pub one_more : (all : List Numbered) (parts : List Part) (p : Part) (r : ℕ) (is : List Cidr) → r < length parts + 1 → (r < length parts → get_or (listed (cut_at all parts)) r [] ≡ is)
    → (r ≡ length parts → prefixes_of (slice_range all p.from p.to) ≡ is) → get_or (listed (cut_at all (parts ++ p ∷ []))) r [] ≡ is
one_more all parts p r is lt before here =
    ap (λ (l : List (List Cidr)). get_or l r []) pushed ∙ elim (cases_lt r (length parts)) [
      | inl less ↦ get_or-append (listed (cut_at all parts)) (prefixes_of (cut all p) ∷ []) [] r (omega (arith, long)) ∙ before less
      | inr past ↦ let at : r ≡ length parts = omega arith in get_or_push (listed (cut_at all parts)) (prefixes_of (cut all p)) [] r (long ∙ sym at) ∙ here at
    ]
  where
    pushed : listed (cut_at all (parts ++ p ∷ [])) ≡ listed (cut_at all parts) ++ prefixes_of (cut all p) ∷ []
    pushed = ap listed (map_push (cut all) parts p) ∙ map_push prefixes_of (cut_at all parts) (cut all p)

    long : length (listed (cut_at all parts)) ≡ length parts
    long = length-map (cut_at all parts) prefixes_of ∙ length-map parts (cut all)

-- what stands at a part
pub list_at : (all : List Numbered) (parts : List Part) (r : ℕ) (p d : Part) → r < length parts → get_or parts r d ≡ p → get_or (cut_at all parts) r [] ≡ cut all p
list_at all parts r p d lt is = get_or-map (cut all) parts r d [] lt ∙ ap (cut all) is

pub prefixes_at : (all : List Numbered) (parts : List Part) (r : ℕ) (p d : Part) → r < length parts → get_or parts r d ≡ p → get_or (listed (cut_at all parts)) r [] ≡ prefixes_of (cut all p)
prefixes_at all parts r p d lt is =
    get_or-map prefixes_of (cut_at all parts) r [] [] (let long = length-map parts (cut all) in omega arith) ∙ ap prefixes_of (list_at all parts r p d lt is)

-- what holds of all holds of each list
pub all_cut : (P : Numbered → Type 0) (all : List Numbered) (parts : List Part) → All P all → All (All P) (cut_at all parts)
all_cut P all parts each = All-map (All P) (cut all) parts (λ k d lt. All-take P ((get_or parts k d).to - (get_or parts k d).from) (drop (get_or parts k d).from all) (All-drop P (get_or parts k d).from all each))

pub all_over_rows : (P : Numbered → Type 0) (rows : List NumberedRow) → All (λ r. P r.of) rows → All P (all_of rows)
all_over_rows P rows each = All-map P (λ (r : NumberedRow). r.of) rows each
