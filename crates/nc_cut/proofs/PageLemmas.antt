-- What is known by place stays while a page is listed or made, and where a size is put in only its own place changes.
use Rattle.std.proofs.Common.{◌≡◌, ℕ, ◌+◌, ◌-◌, ◌/◌, ◌%◌, ◌<◌, ◌≤◌, Bool, true, false, if◌then◌else◌, List, ◌++◌, length, take, replicate, set, slice_index, slice_index_or, None, refl, sym, ap, subst, ◌∙◌, inl, inr, arith, length-append, length-set, get_or-set_same, get_or-set_other, get_or-append-add, take_all}
use Rattle.std.proofs.lemmas.Bool.{cases_lt, cases_eq}
use Rattle.std.proofs.lemmas.List.{length-replicate, get_or-replicate, get_or_append_left, get_or-append_right, get_or_past}
use Rattle.nc_cut.specs.declared.pages.Slot.{Slot}
use Rattle.nc_cut.specs.declared.pages.Slot.TheVariants.{Unknown}
use Rattle.nc_cut.specs.Pages.{IsPaged, size_in, slot_at, known_at}

-- a page that is listed only starts where one that is not listed does
pub listed_same : (starts : List ℕ) (n i : ℕ) → slice_index (starts ++ replicate n 0) i ≡ slice_index starts i
listed_same starts n i =
    elim (cases_lt i (length starts)) [
      | inl within ↦ get_or_append_left starts (replicate n 0) 0 i within
      | inr past ↦ get_or-append_right starts (replicate n 0) (length starts) i 0 refl past ∙ zeros (i - length starts) ∙ sym (get_or_past starts i 0 past)
    ]
  where
    zeros : (k : ℕ) → slice_index (replicate n 0) k ≡ 0
    zeros k = elim (cases_lt k n) [
      | inl within ↦ get_or-replicate n k 0 0 within
      | inr past ↦ get_or_past (replicate n 0) k 0 (omega (arith, past, length-replicate {A = ℕ} n 0))
    ]

pub resized_same : (starts new : List ℕ) (n k : ℕ) (done : Bool) → length starts ≤ n → new ≡ (if done then take n starts ++ replicate k 0 else starts) → (i : ℕ) → slice_index new i ≡ slice_index starts i
resized_same starts new n k false le e i = ap (λ xs. slice_index xs i) e
resized_same starts new n k true le e i = ap (λ xs. slice_index xs i) (e ∙ ap (λ xs. xs ++ replicate k 0) (take_all n starts le)) ∙ listed_same starts k i

module _ (old new : List ℕ) (slots : List Slot) (same : (i : ℕ) → slice_index new i ≡ slice_index old i) where
  pub listed_paged : IsPaged old slots → IsPaged new slots
  listed_paged paged = record {
    within = λ i. omega (arith, same i, paged.within i);
    blank = paged.blank;
    behind = λ i made. omega (arith, same i, paged.behind i (omega (arith, same i)));
    apart = λ i j k l made kl ll e. paged.apart i j k l (omega (arith, same i)) kl ll (omega (arith, same i, same j));
  }

  pub listed_known : (p : ℕ) → known_at new slots p ≡ known_at old slots p
  listed_known p = ap (λ start. size_in (slice_index_or slots (start + p % 256) Unknown)) (same (p / 256))

module _ (starts : List ℕ) (slots : List Slot) (paged : IsPaged starts slots) where
  pub slot_within : (p : ℕ) → slot_at starts p < length slots
  slot_within p = omega (arith, paged.within (p / 256))

  -- a page is made
  module _ (page : ℕ) (listed : page < length starts) (missing : slice_index starts page ≡ 0) where
    abbrev longer : List ℕ
    longer = set starts page (length slots)

    abbrev more : List Slot
    more = slots ++ replicate 256 Unknown

    length-more : length more ≡ length slots + 256
    length-more = length-append slots (replicate 256 Unknown) ∙ ap (λ n. length slots + n) (length-replicate 256 Unknown)

    here : (i : ℕ) → i ≡ page → slice_index longer i ≡ length slots
    here i e = ap (slice_index longer) e ∙ get_or-set_same starts page (length slots) 0 listed

    there : (i : ℕ) → (i ≡ page → ⊥) → slice_index longer i ≡ slice_index starts i
    there i ne = get_or-set_other starts page i (length slots) 0 ne

    old : (k : ℕ) → k < length slots → slice_index_or more k Unknown ≡ slice_index_or slots k Unknown
    old k lt = get_or_append_left slots (replicate 256 Unknown) Unknown k lt

    pub made_paged : IsPaged longer more
    made_paged = record {
      within = λ i. elim (cases_eq i page) [
        | inl e ↦ omega (arith, here i e, length-more)
        | inr ne ↦ omega (arith, there i ne, paged.within i, length-more)
      ];
      blank = λ k lt. ap size_in (old k (omega (arith, paged.within page))) ∙ paged.blank k lt;
      behind = λ i made. elim (cases_eq i page) [
        | inl e ↦ omega (arith, here i e, paged.within page)
        | inr ne ↦ omega (arith, there i ne, paged.behind i (omega (arith, there i ne)))
      ];
      apart = apart;
    }
      where
        apart : (i j k l : ℕ) → 0 < slice_index longer i → k < 256 → l < 256 → slice_index longer i + k ≡ slice_index longer j + l → i ≡ j
        apart i j k l made kl ll e = elim (cases_eq i page) [
          | inl i_here ↦ elim (cases_eq j page) [
            | inl j_here ↦ i_here ∙ sym j_here
            | inr ne ↦ absurd (omega (arith, here i i_here, there j ne, paged.within j))
          ]
          | inr i_there ↦ elim (cases_eq j page) [
            | inl j_here ↦ absurd (omega (arith, here j j_here, there i i_there, paged.within i))
            | inr ne ↦ paged.apart i j k l (omega (arith, there i i_there)) kl ll (omega (arith, there i i_there, there j ne))
          ]
        ]

    pub made_known : (p : ℕ) → known_at longer more p ≡ known_at starts slots p
    made_known p = elim (cases_eq (p / 256) page) [
      | inl e ↦
          (let zero_behind : 0 + p % 256 ≡ p % 256 = omega arith in
          let new : known_at longer more p ≡ None =
          ap (λ start. size_in (slice_index_or more (start + p % 256) Unknown)) (here (p / 256) e)
          ∙ ap size_in (get_or-append-add slots (replicate 256 Unknown) (p % 256) Unknown ∙ get_or-replicate 256 (p % 256) Unknown Unknown (omega arith)) in
          let was : known_at starts slots p ≡ None =
          ap (λ start. size_in (slice_index_or slots (start + p % 256) Unknown)) (ap (slice_index starts) e ∙ missing)
          ∙ ap (λ k. size_in (slice_index_or slots k Unknown)) zero_behind ∙ paged.blank (p % 256) (omega arith) in
          new ∙ sym was)
      | inr ne ↦
          ap (λ start. size_in (slice_index_or more (start + p % 256) Unknown)) (there (p / 256) ne)
          ∙ ap size_in (old (slot_at starts p) (slot_within p))
    ]

  -- by as many slots as a page has
  module _ (page : ℕ) (listed : page < length starts) (missing : slice_index starts page ≡ 0) (start k : ℕ) (new : List Slot) (behind : start ≡ length slots) (many : k ≡ 256) (made : new ≡ take (start + 256) slots ++ replicate k Unknown) where
    all : new ≡ slots ++ replicate 256 Unknown
    all = made ∙ ap (λ xs. xs ++ replicate k Unknown) (take_all (start + 256) slots (omega arith)) ∙ ap (λ n. slots ++ replicate n Unknown) many

    pub resized_paged : IsPaged (set starts page start) new
    resized_paged =
        subst (λ n. IsPaged (set starts page n) new) (sym behind)
        (subst (IsPaged (set starts page (length slots))) (sym all) (made_paged page listed missing))

    pub resized_known : (p : ℕ) → known_at (set starts page start) new p ≡ known_at starts slots p
    resized_known p =
        ap (λ n. known_at (set starts page n) new p) behind
        ∙ ap (λ xs. known_at (set starts page (length slots)) xs p) all
        ∙ made_known page listed missing p

  -- a size is put in at a place whose page was made
  module _ (p : ℕ) (slot : Slot) (made : 0 < slice_index starts (p / 256)) where
    pub put_paged : IsPaged starts (set slots (slot_at starts p) slot)
    put_paged = record {
      within = λ i. omega (arith, length-set slots (slot_at starts p) slot, paged.within i);
      blank = λ k lt. ap size_in (get_or-set_other slots (slot_at starts p) k slot Unknown (λ e. omega (arith, e, paged.behind (p / 256) made))) ∙ paged.blank k lt;
      behind = paged.behind;
      apart = paged.apart;
    }

    pub put_here : known_at starts (set slots (slot_at starts p) slot) p ≡ size_in slot
    put_here = ap size_in (get_or-set_same slots (slot_at starts p) slot Unknown (slot_within p))

    -- no other place has its slot
    one_place : (q : ℕ) → slot_at starts q ≡ slot_at starts p → q ≡ p
    one_place q e =
        let pages : p / 256 ≡ q / 256 = paged.apart (p / 256) (q / 256) (p % 256) (q % 256) made (omega arith) (omega arith) (sym e) in
        let start : slice_index starts (p / 256) ≡ slice_index starts (q / 256) = ap (slice_index starts) pages in
        omega arith

    pub put_others : (q : ℕ) → (q ≡ p → ⊥) → known_at starts (set slots (slot_at starts p) slot) q ≡ known_at starts slots q
    put_others q ne = ap size_in (get_or-set_other slots (slot_at starts p) (slot_at starts q) slot Unknown (λ e. ne (one_place q e)))
