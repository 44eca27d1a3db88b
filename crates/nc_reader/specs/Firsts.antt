-- The words with which unindented statements begin.
use Rattle.std.specs.Prelude.{◌≡◌, ℕ, Bool, ◌||◌, ◌==◌, List, ◌∷◌, codes}
use Rattle.nc_lines.specs.Lines.{is_gap}
use Rattle.nc_reader.specs.declared.first.First.{First}
use Rattle.nc_reader.specs.declared.first.First.TheVariants as first
use Rattle.nc_reader.specs.Roles.{Passed, header_role}

-- a first word is the one that it is told to be; a statement that begins with any other configures no route
abbrev pub IsFirst : First → List ℕ → Type 0
IsFirst first.Interface word = word ≡ codes "interface"
IsFirst first.Ip word = word ≡ codes "ip"
IsFirst first.Hostname word = word ≡ codes "hostname"
IsFirst first.Router word = word ≡ codes "router"
IsFirst first.RouteMap word = word ≡ codes "route-map"
IsFirst first.No word = word ≡ codes "no"
IsFirst first.AccessList word = word ≡ codes "access-list"
IsFirst first.Other word = (words : List (List ℕ)) → header_role (word ∷ words) ≡ Passed

-- a byte with which a comment or what applies a list may begin, or a gap
abbrev pub is_open : ℕ → Bool
is_open b = (b == 105) || ((b == 33) || is_gap b)
