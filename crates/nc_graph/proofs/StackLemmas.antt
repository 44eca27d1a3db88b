-- Stacks of facts to be found and of facts that wait, as the jobs that they are, and these as the steps of a walk.
use Rattle.std.proofs.Common.{◌≡◌, ℕ, ◌<◌, ◌≤◌, List, [], ◌∷◌, ◌++◌, length, map, reverse, take, drop, sym, ap, ◌∙◌, refl, arith}
use Rattle.std.proofs.lemmas.List.{reverse-append, map-append, length_push, length-append, take-append-le, drop-append-le, take_at, drop_at}
use Rattle.nc_graph.specs.declared.tasks.Inferred.{Inferred}
use Rattle.nc_graph.specs.Flow.{Flow}
use Rattle.nc_graph.specs.Tasks.{Job, find, close, jobs, AreBegins, opened}
use Rattle.nc_graph.specs.Walk.{Step, visit, number, expanded}

pub reverse-map : {X Y : Type 0} (f : X → Y) (xs : List X) → reverse (map f xs) ≡ map f (reverse xs)
reverse-map f [] = refl
reverse-map f (x ∷ xs) =
    reverse-append (f x ∷ []) (map f xs) ∙ ap (λ ys. ys ++ f x ∷ []) (reverse-map f xs) ∙ sym (map-append f (reverse xs) (x ∷ [])) ∙ ap (map f) (sym (reverse-append (x ∷ []) xs))

module _ {F : Type 0} where
  -- the last fact is the next job
  pub AreBegins-pop : (fs rest : List F) (f : F) (from : ℕ) (ts : List (Inferred F)) → fs ≡ rest ++ f ∷ [] → from < length fs → AreBegins (length fs) from ts → AreBegins (length rest) from ts
  AreBegins-pop fs rest f from [] e l h = h
  AreBegins-pop fs rest f from (t ∷ ts) e l h = (let a = ap length e in let b = length_push rest f in omega arith, h.1)

  pub jobs-pop : (fs rest : List F) (f : F) (from : ℕ) (ts : List (Inferred F)) → fs ≡ rest ++ f ∷ [] → from < length fs → AreBegins (length fs) from ts → jobs fs from ts ≡ find f ∷ jobs rest from ts
  jobs-pop fs rest f from [] e l h = ap (λ xs. map find (reverse xs)) e ∙ ap (map find) (reverse-append rest (f ∷ []))
  jobs-pop fs rest f from (t ∷ ts) e l h =
      let within : from ≤ length rest = (let a = ap length e in let b = length_push rest f in omega arith) in
      let dropped : drop from fs ≡ drop from rest ++ f ∷ [] = ap (drop from) e ∙ drop-append-le from rest (f ∷ []) within in
      let taken : take from fs ≡ take from rest = ap (take from) e ∙ take-append-le from rest (f ∷ []) within in
      (λ i. map find (reverse (dropped i)) ++ close t.fact t.kind t.parents ∷ jobs (taken i) t.before ts)
      ∙ ap (λ xs. map find xs ++ close t.fact t.kind t.parents ∷ jobs (take from rest) t.before ts) (reverse-append (drop from rest) (f ∷ []))

  -- the last fact that waits is first, turned around
  pub newest : (ts rest : List (Inferred F)) (t : Inferred F) → ts ≡ rest ++ t ∷ [] → reverse ts ≡ t ∷ reverse rest
  newest ts rest t e = ap reverse e ∙ reverse-append rest (t ∷ [])

  -- more facts are to be finded
  pub AreBegins-more : (fs ps all : List F) (from : ℕ) (ts : List (Inferred F)) → all ≡ fs ++ ps → AreBegins (length fs) from ts → AreBegins (length all) from ts
  AreBegins-more fs ps all from [] e h = h
  AreBegins-more fs ps all from (t ∷ ts) e h = (let a = ap length e in let b = length-append fs ps in let c = h.0 in omega arith, h.1)

  -- a fact whose parents begin behind all facts that were to be finded
  pub AreBegins-push : (fs ps all : List F) (t : Inferred F) (ts : List (Inferred F)) → all ≡ fs ++ ps → AreBegins (length fs) t.before ts → AreBegins (length all) (length fs) (t ∷ ts)
  AreBegins-push fs ps all t ts e h = (let a = ap length e in let b = length-append fs ps in omega arith, h)

  pub jobs-push : (g : Flow F) (f : F) (fs all : List F) (t : Inferred F) (ts : List (Inferred F)) → all ≡ fs ++ g.parents f → t.fact ≡ f → t.kind ≡ g.kind f → t.parents ≡ length (g.parents f)
      → jobs all (length fs) (t ∷ ts) ≡ opened g f (jobs fs t.before ts)
  jobs-push g f fs all t ts e is kind parents =
      let ps = g.parents f in
      let dropped : drop (length fs) all ≡ ps = ap (drop (length fs)) e ∙ drop_at fs ps (length fs) refl in
      let taken : take (length fs) all ≡ fs = ap (take (length fs)) e ∙ take_at fs ps (length fs) refl in
      λ i. map find (reverse (dropped i)) ++ close (is i) (kind i) (parents i) ∷ jobs (taken i) t.before ts

  module _ (g : Flow F) where
    -- the step that a job is, where the parents are those that g has
    abbrev pub step_of : Job F → Step F
    step_of (find f) = visit f
    step_of (close f k c) = number f k (g.parents f)

    abbrev pub steps : List (Job F) → List (Step F)
    steps js = map step_of js

    steps-finds : (qs : List F) (js : List (Job F)) → steps (map find qs ++ js) ≡ map visit qs ++ steps js
    steps-finds [] js = refl
    steps-finds (q ∷ qs) js = ap (λ st. visit q ∷ st) (steps-finds qs js)

    pub steps-opened : (f : F) (js : List (Job F)) → steps (opened g f js) ≡ expanded g f (steps js)
    steps-opened f js = steps-finds (reverse (g.parents f)) (close f (g.kind f) (length (g.parents f)) ∷ js)

    pub steps-found : (qs : List F) → steps (map find qs) ≡ map visit qs
    steps-found [] = refl
    steps-found (q ∷ qs) = ap (λ st. visit q ∷ st) (steps-found qs)

    -- what is to be numbered has as many parents as g has
    abbrev pub AreCounted : List (Job F) → Type 0
    AreCounted [] = Unit {0}
    AreCounted (find f ∷ js) = AreCounted js
    AreCounted (close f k c ∷ js) = (c ≡ length (g.parents f)) × AreCounted js

    counted-finds : (qs : List F) (js : List (Job F)) → AreCounted js → AreCounted (map find qs ++ js)
    counted-finds [] js a = a
    counted-finds (q ∷ qs) js a = counted-finds qs js a

    pub counted-opened : (f : F) (js : List (Job F)) → AreCounted js → AreCounted (opened g f js)
    counted-opened f js a = counted-finds (reverse (g.parents f)) (close f (g.kind f) (length (g.parents f)) ∷ js) (refl, a)

    pub counted-found : (qs : List F) → AreCounted (map find qs)
    counted-found [] = tt
    counted-found (q ∷ qs) = counted-found qs
