-- The items of the parts of a list are those that a list of items has.
use Rattle.std.proofs.Common.{◌≡◌, Bool, true, false, List, [], map, refl}
use Rattle.std.specs.Prelude.{if◌then◌else◌}
use Rattle.cv_spec_text.specs.declared.token.Token.{Token}
use Rattle.cv_component.specs.Parts.{is_white, is_comma, parts, filled, trim, has_white_end}
use Rattle.cv_calc.specs.declared.context.Context.{Context}
use Rattle.cv_numeric.specs.declared.matched.Matched.TheVariants.{No}
use Rattle.cv_syntax.specs.declared.syntax.Kind.{Kind}
use Rattle.cv_value.specs.Matching.{each, listed}
use Rattle.cv_value.specs.Parts.{spaced, with_commas}

either : (b : Bool) (k : Kind) (x : Context) (ps : List (List Token)) → each k x (if b then [] else ps) ≡ (if b then No else each k x ps)
either true k x ps = refl
either false k x ps = refl

pub spaced_listed : (k : Kind) (x : Context) (ts : List Token) → each k x (spaced ts) ≡ listed k x ts (filled (parts is_white ts))
spaced_listed k x ts = either (has_white_end ts) k x (filled (parts is_white ts))

pub commas_listed : (k : Kind) (x : Context) (ts : List Token) → each k x (with_commas ts) ≡ listed k x ts (map trim (parts is_comma ts))
commas_listed k x ts = either (has_white_end ts) k x (map trim (parts is_comma ts))
