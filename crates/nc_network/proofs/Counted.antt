-- Prefixes that are added one by one.
use Rattle.std.proofs.Common.{◌≡◌, ◌<◌, ◌≤◌, Bool, true, false, cond, List, [], ◌∷◌, ◌++◌, Option, Some, length, refl, sym, ap, ◌∙◌, subst, arith}
use Rattle.std.specs.List.{filter_map, cons_option, list_any}
use Rattle.std.proofs.lemmas.Bool.{both_ways}
use Rattle.std.proofs.lemmas.List.{append_assoc, append-nil, length_push}
use Rattle.nc_network.specs.declared.TheConstants.{PREFIX_LIMIT}
use Rattle.nc_types.specs.Cidr.{Cidr, same_prefix}
use Rattle.nc_network.specs.Judged.{new_after}
use Rattle.nc_network.specs.Steps.{added, Fits}

abbrev pub with_prefix : List Cidr → Cidr → List Cidr
with_prefix seen p = cond (list_any (same_prefix p) seen) seen (seen ++ p ∷ [])

pub added-append : (seen ps qs : List Cidr) → added seen (ps ++ qs) ≡ added (added seen ps) qs
added-append seen [] qs = refl
added-append seen (p ∷ ps) qs = added-append (with_prefix seen p) ps qs

longer : (seen : List Cidr) (p : Cidr) (b : Bool) → length seen ≤ length (cond b seen (seen ++ p ∷ []))
longer seen p true = omega arith
longer seen p false = omega (arith, length_push seen p)

pub added-grows : (seen ps : List Cidr) → length seen ≤ length (added seen ps)
added-grows seen [] = omega arith
added-grows seen (p ∷ ps) = omega (arith, longer seen p (list_any (same_prefix p) seen), added-grows (with_prefix seen p) ps)

-- those that are added are new
pub added-new : (seen ps : List Cidr) → added seen ps ≡ seen ++ new_after seen ps
added-new seen [] = sym (append-nil seen)
added-new seen (p ∷ ps) = by (list_any (same_prefix p) seen) (added-new seen ps) (added-new (seen ++ p ∷ []) ps) where
  by : (b : Bool) → added seen ps ≡ seen ++ new_after seen ps → added (seen ++ p ∷ []) ps ≡ (seen ++ p ∷ []) ++ new_after (seen ++ p ∷ []) ps
      → added (cond b seen (seen ++ p ∷ [])) ps ≡ seen ++ cond b (new_after seen ps) (p ∷ new_after (seen ++ p ∷ []) ps)
  by true known new = known
  by false known new = new ∙ append_assoc seen (p ∷ []) (new_after (seen ++ p ∷ []) ps)

-- ---- a walk that adds

-- what is left to add leads from here to where all leads from the start
pub record IsLeft (start now left total : List Cidr) : Type 0 where
  pub rest : added now left ≡ added start total

pub left-more : (start now new total ps xs ys : List Cidr) → IsLeft start now ys total → ys ≡ ps ++ xs → new ≡ added now ps → IsLeft start new xs total
left-more start now new total ps xs ys left cut new_is =
    record { rest = ap (λ (ks : List Cidr). added ks xs) new_is ∙ sym (added-append now ps xs) ∙ ap (added now) (sym cut) ∙ left.rest }

pub left-many : (start now total ps xs ys : List Cidr) → IsLeft start now ys total → ys ≡ ps ++ xs → PREFIX_LIMIT < length (added now ps) → PREFIX_LIMIT < length (added start total)
left-many start now total ps xs ys left cut many =
    let same : length (added (added now ps) xs) ≡ length (added start total) = ap length (sym (added-append now ps xs) ∙ ap (added now) (sym cut) ∙ left.rest) in
    omega (arith, added-grows (added now ps) xs)

-- two parts
pub both-fit : (fits : Bool) (old mid new ps qs : List Cidr) → mid ≡ added old ps → Fits fits mid new qs → Fits fits old new (ps ++ qs)
both-fit fits old mid new ps qs first second =
    let joined : added mid qs ≡ added old (ps ++ qs) = ap (λ (ks : List Cidr). added ks qs) first ∙ sym (added-append old ps qs) in
    record { some = λ e. second.some e ∙ joined; many = λ e. subst (λ (ks : List Cidr). PREFIX_LIMIT < length ks) joined (second.many e) }

pub first-many : (old ps qs : List Cidr) → PREFIX_LIMIT < length (added old ps) → PREFIX_LIMIT < length (added old (ps ++ qs))
first-many old ps qs many =
    let same : length (added old (ps ++ qs)) ≡ length (added (added old ps) qs) = ap length (added-append old ps qs) in
    omega (arith, added-grows (added old ps) qs)

-- what a test keeps of an item that has something
pub kept-some : {A B : Type 0} (h : A → Option B) (y : B) (x : A) (xs ys : List A) → h x ≡ Some y → ys ≡ x ∷ xs → filter_map h ys ≡ y ∷ filter_map h xs
kept-some {A} {B} h y x xs ys e cut = ap (filter_map h) cut ∙ ap (λ (o : Option B). cons_option o (filter_map h xs)) e

-- a walk that found too many
pub stopped : (old now new total ps xs ys : List Cidr) → IsLeft old now ys total → ys ≡ ps ++ xs → (fits : Bool) → Fits fits now new ps → fits ≡ false → Fits false old new total
stopped old now new total ps xs ys left cut fits step e = record { some = λ t. absurd (both_ways false refl t); many = λ t. left-many old now total ps xs ys left cut (step.many e) }

-- and one that goes on
pub moved : (old now new total ps xs ys : List Cidr) → IsLeft old now ys total → ys ≡ ps ++ xs → (fits : Bool) → Fits fits now new ps → fits ≡ true → IsLeft old new xs total
moved old now new total ps xs ys left cut fits step e = left-more old now new total ps xs ys left cut (step.some e)

pub both : (f g : Bool) (old mid new ps qs : List Cidr) → Fits f old mid ps → f ≡ true → Fits g mid new qs → Fits g old new (ps ++ qs)
both f g old mid new ps qs first e second = both-fit g old mid new ps qs (first.some e) second

pub many-first : (f : Bool) (old mid new ps qs : List Cidr) → Fits f old mid ps → f ≡ false → Fits false old new (ps ++ qs)
many-first f old mid new ps qs first e = record { some = λ t. absurd (both_ways false refl t); many = λ t. first-many old ps qs (first.many e) }
