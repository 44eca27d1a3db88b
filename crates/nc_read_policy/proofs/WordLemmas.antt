-- Communities word by word.
use Rattle.std.proofs.Common.{◌≡◌, ℕ, Bool, true, false, not, nat_lt, List, [], ◌∷◌, length, Option, Some, None, sym, ap, ◌∙◌}
use Rattle.std.specs.Prelude.{is_some, if◌then◌else◌}
use Rattle.std.specs.Option.{option_map_or}
use Rattle.nc_types.specs.Communities.{put, put_all, limited}
use Rattle.nc_types.specs.declared.TheConstants.{COMMUNITY_LIMIT}
use Rattle.nc_community.specs.Words.{community_of}
use Rattle.nc_community.proofs.MergeLemmas.{too_many}
use Rattle.nc_read_policy.specs.Communities.{communities_in, behind_communities}

pub communities_more : (words : List (List ℕ)) (word : List ℕ) (behind : List (List ℕ)) (n : ℕ) → words ≡ word ∷ behind → community_of word ≡ Some n → communities_in words ≡ n ∷ communities_in behind
communities_more words word behind n cut is = ap communities_in cut ∙ ap (λ (o : Option ℕ). option_map_or (λ (n : ℕ). n ∷ communities_in behind) o []) is

pub behind_more : (words : List (List ℕ)) (word : List ℕ) (behind : List (List ℕ)) (n : ℕ) → words ≡ word ∷ behind → community_of word ≡ Some n → behind_communities words ≡ behind_communities behind
behind_more words word behind n cut is = ap behind_communities cut ∙ ap (λ (o : Option ℕ). if is_some o then behind_communities behind else word ∷ behind) is

limited_is : (set new : List ℕ) → Some new ≡ limited set → new ≡ set
limited_is set new e = on (nat_lt COMMUNITY_LIMIT (length set)) e
  where
    on : (b : Bool) → Some new ≡ (if b then None else Some set) → new ≡ set
    on true e = absurd (cc)
    on false e = cc

-- one more community, which is put into the set or is one too many
pub put_more : (put_in : Bool) (set new : List ℕ) (n : ℕ) (ns : List ℕ) → (if put_in then Some new else None) ≡ limited (put n set) → (if not put_in then None else limited (put_all new ns)) ≡ limited (put_all set (n ∷ ns))
put_more true set new n ns e = ap (λ (s : List ℕ). limited (put_all s ns)) (limited_is (put n set) new e)
put_more false set new n ns e = sym (too_many (put n set) ns (sym e))
