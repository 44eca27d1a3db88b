use Rattle.std.proofs.Common.{◌==◌, ◌%◌, ◌||◌, sym, ap, ◌∙◌}
use Rattle.std.proofs.lemmas.List.Folds.{list_any-append}
use Rattle.nc_tables.specs.Pieces.{shared_numbers}
use Rattle.nc_tables.specs.SystemBits.{any_alike}
use Rattle.nc_tables.proofs.PieceBits.{made}
use Rattle.nc_tables.proofs.path.Piece.before.Goals as goal

pub returns-clause-piece : goal.returns-clause-piece
returns-clause-piece c =
    made c.args.numbers c.with_all-bits.result c.args.rest c.requires.full c.requires.pieces (λ n.
    c.with_all-bits.ensures n
    ∙ ap (λ b. any_alike n c.args.numbers || b) (c.shared_bits.ensures n)
    ∙ sym (list_any-append (λ m. m % 256 == n % 256) c.args.numbers (shared_numbers c.args.rest)))
