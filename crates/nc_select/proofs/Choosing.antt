-- What is chosen, by the best candidate and by those as good as it.
use Rattle.std.proofs.Common.{◌≡◌, ℕ, zero, suc, ◌+◌, ◌<◌, Bool, true, false, cond, List, [], ◌∷◌, ◌++◌, length, map, filter, take, drop, get_or, refl, sym, ap, ◌∙◌, arith}
use Rattle.std.specs.List.{IsFirstBest}
use Rattle.std.proofs.lemmas.List.{append_assoc, drop_more}
use Rattle.nc_tables.specs.declared.bgp.Chosen.{Chosen}
use Rattle.nc_tables.specs.Choice.{is_external, is_equal_to, Ranked, ranked_from, by_preference, used_with, choose}
use Rattle.nc_select.specs.declared.choice.Sender.{Sender}
use Rattle.nc_select.specs.Senders.{sender_of, senders_from}
use Rattle.nc_select.proofs.Best.{is_preferred, ranked, best_first}
use Rattle.nc_select.proofs.Alike.{is_equal, equal_itself}

-- the places of the first senders
pub places_taken : (n : ℕ) (xs : List Ranked) → map (λ (s : Sender). s.place) (take n (map sender_of xs)) ≡ map (λ (x : Ranked). x.place) (take n xs)
places_taken zero xs = refl
places_taken (suc n) [] = refl
places_taken (suc n) (x ∷ xs) = ap (λ (places : List ℕ). x.place ∷ places) (places_taken n xs)

-- ---- going over the candidates

module _ (relax : Bool) (best : Chosen) (candidates : List Chosen) (k : ℕ) (x : Chosen) (lt : k < length candidates) (at : x ≡ get_or candidates k x) (items : List Sender)
    (before : items ++ senders_from relax best k (drop k candidates) ≡ senders_from relax best 0 candidates) where
  abbrev here : Ranked
  here = record { place = k; candidate = x }

  abbrev later : List Ranked
  later = ranked_from (k + 1) (drop (k + 1) candidates)

  by_candidate : (b : Bool) → is_equal_to relax best x ≡ b → senders_from relax best k (drop k candidates) ≡ map sender_of (cond b (here ∷ filter (is_equal relax best) later) (filter (is_equal relax best) later))
  by_candidate b e =
      ap (senders_from relax best k) (drop_more candidates k x lt ∙ ap (λ (c : Chosen). c ∷ drop (k + 1) candidates) (sym at))
      ∙ ap (λ (t : Bool). map sender_of (cond t (here ∷ filter (is_equal relax best) later) (filter (is_equal relax best) later))) e

  pub sender_taken : is_equal_to relax best x ≡ true → (items ++ sender_of here ∷ []) ++ senders_from relax best (k + 1) (drop (k + 1) candidates) ≡ senders_from relax best 0 candidates
  sender_taken e = append_assoc items (sender_of here ∷ []) (senders_from relax best (k + 1) (drop (k + 1) candidates)) ∙ ap (λ (l : List Sender). items ++ l) (sym (by_candidate true e)) ∙ before

  pub sender_left : is_equal_to relax best x ≡ false → items ++ senders_from relax best (k + 1) (drop (k + 1) candidates) ≡ senders_from relax best 0 candidates
  sender_left e = ap (λ (l : List Sender). items ++ l) (sym (by_candidate false e)) ∙ before

-- ---- what is chosen

module _ (candidates : List Chosen) (best : ℕ) (d : Chosen) (is : IsFirstBest is_preferred candidates (length candidates) best) (limit : ℕ) (relax : Bool) where
  abbrev places : List Ranked → List ℕ
  places xs = map (λ (x : Ranked). x.place) xs

  pub chosen_alone : is_external (get_or candidates best d) ≡ false → best ∷ [] ≡ choose candidates limit relax
  unfolding choose
  chosen_alone e =
      let first = best_first candidates best d is in
      let b = ranked candidates best d in
      sym (ap (λ (xs : List Ranked). places (used_with limit relax xs)) first.1
      ∙ ap (λ (t : Bool). places (cond t (take limit (b ∷ filter (is_equal relax b.candidate) first.0)) (b ∷ []))) e)

  pub chosen_first : limit ≡ 1 → best ∷ [] ≡ choose candidates limit relax
  unfolding choose
  chosen_first e =
      let first = best_first candidates best d is in
      let b = ranked candidates best d in
      sym (ap (λ (xs : List Ranked). places (used_with limit relax xs)) first.1
      ∙ ap (λ (n : ℕ). places (used_with n relax (b ∷ first.0))) e
      ∙ one (filter (is_equal relax b.candidate) first.0) (is_external b.candidate))
    where
      one : (others : List Ranked) (t : Bool) → places (cond t (take 1 (ranked candidates best d ∷ others)) (ranked candidates best d ∷ [])) ≡ best ∷ []
      one others true = refl
      one others false = refl

  pub chosen_many : is_external (get_or candidates best d) ≡ true → places (take limit (filter (is_equal relax (get_or candidates best d)) (by_preference candidates))) ≡ choose candidates limit relax
  unfolding choose
  chosen_many e =
      let first = best_first candidates best d is in
      let b = ranked candidates best d in
      ap (λ (xs : List Ranked). places (take limit (filter (is_equal relax b.candidate) xs))) first.1
      ∙ ap (λ (t : Bool). places (take limit (cond t (b ∷ filter (is_equal relax b.candidate) first.0) (filter (is_equal relax b.candidate) first.0)))) (equal_itself relax b.candidate e)
      ∙ sym (ap (λ (xs : List Ranked). places (used_with limit relax xs)) first.1
      ∙ ap (λ (t : Bool). places (cond t (take limit (b ∷ filter (is_equal relax b.candidate) first.0)) (b ∷ []))) e)

-- one candidate alone is chosen
pub chosen_only : (c : Chosen) (limit : ℕ) (relax : Bool) → 0 < limit → 0 ∷ [] ≡ choose (c ∷ []) limit relax
unfolding choose
chosen_only c zero relax some = absurd (omega arith)
chosen_only c (suc limit) relax some = on (is_external c) limit
  where
    only : Ranked
    only = record { place = 0; candidate = c }

    on : (b : Bool) (n : ℕ) → 0 ∷ [] ≡ map (λ (x : Ranked). x.place) (cond b (take (suc n) (only ∷ [])) (only ∷ []))
    on true zero = refl
    on true (suc n) = refl
    on false n = refl

pub only_one : (candidates : List Chosen) (limit : ℕ) (relax : Bool) → length candidates ≡ 1 → 0 < limit → 0 ∷ [] ≡ choose candidates limit relax
only_one [] limit relax one some = absurd (omega arith)
only_one (c ∷ []) limit relax one some = chosen_only c limit relax some
only_one (c ∷ d ∷ candidates) limit relax one some = absurd (omega arith)
