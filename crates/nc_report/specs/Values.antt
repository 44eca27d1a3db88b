-- The report as a JSON value.
use Rattle.std.specs.Prelude.{List, map, codes}
use Rattle.serde_json.specs.Data.{Data, number, unsigned, string, array, object, member, no_members}
use Rattle.serde_json.specs.View.{items_of}
use Rattle.nc_report.specs.Texts.{Sheet, letters_of, count_of}

unfoldable pub router_data : Sheet → Data
router_data s = object (member (codes "marks") (string s.letters) (member (codes "name") (string s.name) no_members))

unfoldable pub report_data : List Sheet → Data
report_data sheets =
    object (member (codes "outside") (number (unsigned (count_of 46 (letters_of sheets)))) (member (codes "routers") (array (items_of (map router_data sheets)))
    (member (codes "strong") (number (unsigned (count_of 83 (letters_of sheets)))) (member (codes "uncovered") (number (unsigned (count_of 85 (letters_of sheets))))
    (member (codes "weak") (number (unsigned (count_of 87 (letters_of sheets)))) no_members)))))
