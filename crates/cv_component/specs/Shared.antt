-- The item that one with a shared value is (CSS Syntax 3, "Consume a list of declarations").
use Rattle.cv_component.specs.declared.items.Piece.{Piece}
use Rattle.cv_component.specs.declared.items.Piece.TheVariants as pieces
use Rattle.cv_component.specs.declared.shared.SharedPiece.{SharedPiece}
use Rattle.cv_component.specs.declared.shared.SharedPiece.TheVariants as shared

abbrev pub piece_of : SharedPiece → Piece
piece_of (shared.Decl name value important) = pieces.Decl name value important
piece_of shared.At = pieces.At
piece_of shared.Other = pieces.Other
