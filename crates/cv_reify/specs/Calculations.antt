-- Math functions as objects (CSS Typed OM 1, "Reifying Math Expressions": CSSMathValue).
use Rattle.std.specs.Prelude.{[], ◌∷◌, if◌then◌else◌, List}
use Rattle.cv_spec_text.specs.declared.token.Token.{Token}
use Rattle.cv_calc.specs.declared.calc.Calc.{Calc}
use Rattle.cv_calc.specs.declared.calc.Calc.TheVariants as tree
use Rattle.cv_calc.specs.declared.calc.Calc.TheOpen as layer
use Rattle.cv_calc.specs.declared.calc.Calc.TheViews.{out-Calc}
use Rattle.cv_calc.specs.Types.{type_of}
use Rattle.cv_calc.specs.Linear.{has_type}
use Rattle.cv_reify.specs.declared.style.Style.{Style}
use Rattle.cv_reify.specs.declared.style.Style.TheVariants as style

abbrev pub items_as : Calc → layer.Calc-F Calc → Calc
items_as c (layer.Num v u) = tree.Sum (tree.Num v u ∷ [])
items_as c l = c

-- the calculation of a math function: a number alone is a sum of one item
unfoldable pub with_items : Calc → Calc
with_items c = items_as c (out-Calc c)
