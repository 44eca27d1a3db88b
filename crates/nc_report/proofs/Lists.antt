-- What is written place by place.
use Rattle.std.proofs.Common.{◌≡◌, ℕ, ◌+◌, List, [], ◌∷◌, ◌++◌, map, refl, sym, ap, ◌∙◌, append-nil, append_assoc, arith}
use Rattle.std.specs.List.{flat_map}
use Rattle.std.proofs.lemmas.List.Concat.{flat_map-append}
use Rattle.std.proofs.lemmas.List.Folds.{flat_map-map}
use Rattle.std.proofs.lemmas.List.FromFn.{map-range_with_len_more}
use Rattle.nc_report.specs.Texts.{Sheet, lcov_of, places}
use Rattle.nc_report.specs.Views.{FileView}

-- with one place more
pub places-more : (k : ℕ) → map (λ (j : ℕ). j) (places (k + 1)) ≡ map (λ (j : ℕ). j) (places k) ++ k ∷ []
places-more k = map-range_with_len_more (λ (j : ℕ). j) 0 k k (omega arith)

pub written-more : {A : Type 0} (f : ℕ → List A) (k : ℕ) → flat_map f (places (k + 1)) ≡ flat_map f (places k) ++ f k
written-more f k =
    sym (flat_map-map f (λ (j : ℕ). j) (places (k + 1))) ∙ ap (flat_map f) (places-more k)
    ∙ flat_map-append f (map (λ (j : ℕ). j) (places k)) (k ∷ [])
    ∙ ap (λ t. t ++ (f k ++ [])) (flat_map-map f (λ (j : ℕ). j) (places k))
    ∙ ap (λ t. flat_map f (places k) ++ t) (append-nil (f k))

-- five pieces that are appended, the third a line feed
pub five-pieces : (old head name lines rest first second third fourth new : List ℕ) → first ≡ old ++ head → second ≡ first ++ name → third ≡ second ++ 10 ∷ [] → fourth ≡ third ++ lines → new ≡ fourth ++ rest
    → new ≡ old ++ (head ++ (name ++ (10 ∷ (lines ++ rest))))
five-pieces old head name lines rest first second third fourth new a b c d e =
    e ∙ ap (λ t. t ++ rest) (d ∙ ap (λ t. t ++ lines) (c ∙ ap (λ t. t ++ 10 ∷ []) (b ∙ ap (λ t. t ++ name) a))) ∙ regroup old head name (10 ∷ []) lines rest
  where
    regroup : (a b c d e f : List ℕ) → ((((a ++ b) ++ c) ++ d) ++ e) ++ f ≡ a ++ (b ++ (c ++ (d ++ (e ++ f))))
    regroup a b c d e f = simp append_assoc

-- no file is left
pub lcov-none : (sheets : List Sheet) (files : List FileView) → files ≡ [] → lcov_of sheets files ≡ []
lcov-none [] files none = refl
lcov-none (s ∷ ss) [] none = refl
lcov-none (s ∷ ss) (f ∷ fs) none = absurd (cc)
