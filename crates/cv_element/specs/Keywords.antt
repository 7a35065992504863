-- The CSS-wide keywords of the code (Values and Units 4, "CSS-wide keywords").
use Rattle.std.specs.Prelude.{List, [], ◌∷◌, Option, None}
use Rattle.cv_spec_text.specs.declared.token.Token.{Token}
use Rattle.cv_spec_element.specs.Keywords as keywords
use Rattle.cv_spec_valuation.specs.Element.{keyword}
use Rattle.cv_element.specs.declared.keywords.Keyword.{Keyword}
use Rattle.cv_element.specs.declared.keywords.Keyword.TheVariants.{Initial, Inherit, Unset, Revert, RevertLayer}

abbrev pub wide : Keyword → keywords.Keyword
wide Initial = keywords.initial
wide Inherit = keywords.inherit
wide Unset = keywords.unset
wide Revert = keywords.revert
wide RevertLayer = keywords.revert_layer

-- the keyword that a list of one token is
abbrev pub alone : List Token → Option keywords.Keyword
alone [] = None
alone (t ∷ []) = keyword t
alone (t ∷ second ∷ rest) = None
