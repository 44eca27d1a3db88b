-- Words that write communities, and words that write none.
use Rattle.std.specs.Prelude.{◌≡◌, ◌-◌, ◌^◌, [], ◌∷◌, map, Some, None, codes, refl}
use Rattle.nc_lines.specs.Numbers.{number_of}
use Rattle.nc_community.specs.Words.{community_of}

-- two halves, the upper one first
pub halves : community_of (codes "65001:7") ≡ Some 4259905543
unfolding community_of number_of
halves = refl

pub bounds : map community_of (codes "0:0" ∷ codes "65535:65535" ∷ codes "0" ∷ codes "4294967295" ∷ []) ≡ Some 0 ∷ Some (2 ^ 32 - 1) ∷ Some 0 ∷ Some (2 ^ 32 - 1) ∷ []
unfolding community_of number_of
bounds = refl

-- a half or a number that is too great
pub too_great : map community_of (codes "1:65536" ∷ codes "65536:1" ∷ codes "4294967296" ∷ []) ≡ None ∷ None ∷ None ∷ []
unfolding community_of number_of
too_great = refl

-- other words
pub others : map community_of (codes "internet" ∷ codes "01:1" ∷ codes "1:2:3" ∷ codes ":1" ∷ codes "1:" ∷ codes "-1" ∷ []) ≡ None ∷ None ∷ None ∷ None ∷ None ∷ None ∷ []
unfolding community_of number_of
others = refl
