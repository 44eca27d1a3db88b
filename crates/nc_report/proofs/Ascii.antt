-- Letters and names are ASCII.
use Rattle.std.proofs.Common.{◌≡◌, ℕ, zero, suc, ◌+◌, ◌<◌, ◌≤◌, true, ◌&&◌, nat_le, All, List, [], ◌∷◌, ◌++◌, length, map, set, arith, lit<, sym, subst}
use Rattle.std.specs.List.{list_all, range_with_len}
use Rattle.std.specs.Str.{IsAscii}
use Rattle.std.proofs.lemmas.Bool.{and_parts, leb-true}
use Rattle.std.proofs.lemmas.List.Elements.{All-nil, All-cons, All-take}
use Rattle.std.proofs.Math.Seq.{take-append_seam}
use Rattle.nc_types.specs.declared.TheConstants.{NAME_LIMIT}
use Rattle.nc_types.specs.declared.config.RouterConfig.{RouterConfig}
use Rattle.nc_types.specs.Config.{ConfigView, config_view}
use Rattle.nc_types.specs.WellFormed.{is_name, IsWellFormed}
use Rattle.nc_types.specs.Joining.{IsValid}
use Rattle.nc_types.specs.Network.{owner_at}
use Rattle.nc_marks.specs.Marks.{ElementMarks, mark_of}
use Rattle.nc_marks.specs.declared.mark.Mark.{Mark}
use Rattle.nc_marks.specs.declared.mark.Mark.TheVariants.{Strong, Weak, Uncovered, Outside}
use Rattle.nc_report.specs.Texts.{Sheet, letter}
use Rattle.nc_report.specs.Sheets.{sheets_from}
use Rattle.nc_report.specs.Shown.{IsText, with_letter}

letter-small : (m : Mark) → letter m < 128
letter-small Strong = lit< tt
letter-small Weak = lit< tt
letter-small Uncovered = lit< tt
letter-small Outside = lit< tt

letters-ascii : (f : ℕ → Mark) (ks : List ℕ) → IsAscii (map (λ k. letter (f k)) ks)
letters-ascii f [] i = lit< tt
letters-ascii f (k ∷ ks) zero = letter-small (f k)
letters-ascii f (k ∷ ks) (suc i) = letters-ascii f ks i

printed-ascii : (bs : List ℕ) → list_all (λ b. nat_le 33 b && nat_le b 126) bs ≡ true → IsAscii bs
printed-ascii [] h i = lit< tt
printed-ascii (b ∷ bs) h zero =
    let here : nat_le b 126 ≡ true = (and_parts (nat_le 33 b) (nat_le b 126) (and_parts (nat_le 33 b && nat_le b 126) (list_all (λ b. nat_le 33 b && nat_le b 126) bs) h).0).1 in
    let most : b ≤ 126 = leb-true b 126 here in
    omega arith
printed-ascii (b ∷ bs) h (suc i) = printed-ascii bs (and_parts (nat_le 33 b && nat_le b 126) (list_all (λ b. nat_le 33 b && nat_le b 126) bs) h).1 i

name-ascii : (name : List ℕ) → is_name name ≡ true → IsAscii name
name-ascii name h =
    printed-ascii name (and_parts (nat_le 1 (length name) && nat_le (length name) NAME_LIMIT) (list_all (λ b. nat_le 33 b && nat_le b 126) name) h).1

ascii-set : (bs : List ℕ) (i b : ℕ) → b < 128 → IsAscii bs → IsAscii (set bs i b)
ascii-set [] i b small are k = are k
ascii-set (x ∷ xs) zero b small are zero = small
ascii-set (x ∷ xs) zero b small are (suc k) = are (suc k)
ascii-set (x ∷ xs) (suc i) b small are zero = are zero
ascii-set (x ∷ xs) (suc i) b small are (suc k) = ascii-set xs i b small (λ j. are (suc j)) k

-- a sheet with another letter
pub text-put : (s : Sheet) (place v : ℕ) → v < 128 → IsText s → IsText (with_letter s place v)
text-put s place v small is = record { name = is.name; letters = ascii-set s.letters place v small is.letters }

-- the sheets that are made of marks
texts-from : (routers : List ConfigView) (marks : ElementMarks) (from : ℕ) (cs : List ConfigView) → All IsWellFormed cs → All IsText (sheets_from routers marks from cs)
texts-from routers marks from [] formed = All-nil IsText
texts-from routers marks from (c ∷ cs) formed =
    All-cons IsText _ (sheets_from routers marks (from + 1) cs)
    (record { name = name-ascii c.name (formed 0 c (omega arith)).name; letters = letters-ascii (λ k. mark_of marks (owner_at routers from (k + 1))) (range_with_len 0 c.line_count) })
    (texts-from routers marks (from + 1) cs (λ j e lt. formed (suc j) e (omega (arith, lt))))

-- the first of them, while they are made
pub texts-made : (routers : List ConfigView) (marks : ElementMarks) (read : List RouterConfig) (xs ys : List Sheet) → IsValid routers → map config_view read ≡ routers
    → xs ++ ys ≡ sheets_from routers marks 0 (map config_view read) → All IsText xs
texts-made routers marks read xs ys valid is made =
    subst (All IsText) (take-append_seam xs ys) (All-take IsText (length xs) (xs ++ ys) (subst (All IsText) (sym made) (texts-from routers marks 0 (map config_view read) (subst (All IsWellFormed) (sym is) valid.each))))
