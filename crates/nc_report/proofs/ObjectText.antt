-- The text of the report's value.
use Rattle.std.proofs.Common.{◌≡◌, ℕ, true, false, List, [], ◌∷◌, ◌++◌, map, codes, refl, sym, ap, ◌∙◌, append_assoc}
use Rattle.std.specs.List.{join_with_byte}
use Rattle.std.specs.Fmt.{decimal}
use Rattle.serde_json.specs.View.{items_of}
use Rattle.serde_json.specs.Written.{compact_text, items_text, has_float, items_have_float}
use Rattle.serde_json.proofs.OnLiterals.{serde_json_on_literals}
use Rattle.nc_report.specs.Texts.{Sheet, letters_of, count_of, router_text, object_text}
use Rattle.nc_report.specs.Values.{router_data, report_data}

routers-float : (ss : List Sheet) → items_have_float (items_of (map router_data ss)) ≡ false
unfolding router_data
routers-float [] = refl
routers-float (s ∷ ss) = routers-float ss

router-text : (s : Sheet) → compact_text (router_data s) ≡ router_text s
unfolding router_data router_text serde_json_on_literals
router-text s = refl

-- the text of a router's object and what follows it in the list
routers-text : (s : Sheet) (ss : List Sheet) → compact_text (router_data s) ++ items_text true (items_of (map router_data ss)) ≡ join_with_byte 44 (map router_text (s ∷ ss)) ++ 93 ∷ []
routers-text s [] = ap (λ t. t ++ 93 ∷ []) (router-text s)
routers-text s (next ∷ ss) =
    ap (λ t. t ++ 44 ∷ (compact_text (router_data next) ++ items_text true (items_of (map router_data ss)))) (router-text s)
    ∙ ap (λ t. router_text s ++ 44 ∷ t) (routers-text next ss)
    ∙ sym (append_assoc (router_text s) (44 ∷ join_with_byte 44 (map router_text (next ∷ ss))) (93 ∷ []))

items-text : (ss : List Sheet) → items_text false (items_of (map router_data ss)) ≡ join_with_byte 44 (map router_text ss) ++ 93 ∷ []
items-text [] = refl
items-text (s ∷ ss) = routers-text s ss

pub report-text : (ss : List Sheet) → compact_text (report_data ss) ≡ object_text ss
unfolding report_data object_text serde_json_on_literals
report-text ss =
    let before : List ℕ → List ℕ = λ t. codes "{\"outside\":" ++ (decimal (count_of 46 (letters_of ss)) ++ (codes ",\"routers\":[" ++ t)) in
    let behind = codes ",\"strong\":" ++ (decimal (count_of 83 (letters_of ss)) ++ (codes ",\"uncovered\":" ++ (decimal (count_of 85 (letters_of ss)) ++ (codes ",\"weak\":" ++ (decimal (count_of 87 (letters_of ss)) ++ codes "}"))))) in
    ap (λ t. before (t ++ behind)) (items-text ss) ∙ ap before (append_assoc (join_with_byte 44 (map router_text ss)) (93 ∷ []) behind)

pub report-float : (ss : List Sheet) → has_float (report_data ss) ≡ false
unfolding report_data
report-float ss = rw (routers-float ss) refl
