-- A component value within a list is a piece of one part.
use Rattle.std.specs.Prelude.{◌≡◌, ◌≢◌, Bool, false, List, [], ◌∷◌, ◌++◌, None, if◌then◌else◌}
use Rattle.std.proofs.Common.{refl, sym, ◌∙◌, ap, append_assoc}
use Rattle.cv_spec_text.specs.declared.token.Bracket.{Bracket}
use Rattle.cv_spec_text.specs.declared.token.Bracket.TheVariants.{Round, Square, Curly}
use Rattle.cv_spec_text.specs.declared.token.Token.{Token}
use Rattle.cv_spec_text.specs.declared.token.Token.TheVariants.{Function, Open, Close}
use Rattle.cv_component.specs.Nesting.{opened, is_kind, nesting_after}
use Rattle.cv_component.specs.TopLevel.{begins}
use Rattle.cv_component.specs.Balance.{IsBlock, ends, plain, block}
use Rattle.cv_component.proofs.Balanced.{nesting_after-opens}
use Rattle.cv_component.specs.Parts.{longer, parts_within}
use Rattle.cv_value_laws.specs.Entries.{IsComponentValue, preserved, block as whole_block}

-- the first part begins with these tokens more
abbrev pub lengthened : List Token → List (List Token) → List (List Token)
lengthened [] ps = ps
lengthened (t ∷ ts) ps = longer t (lengthened ts ps)

pub lengthened-append : (xs ys : List Token) (ps : List (List Token)) → lengthened (xs ++ ys) ps ≡ lengthened xs (lengthened ys ps)
lengthened-append [] ys ps = refl
lengthened-append (x ∷ xs) ys ps = ap (longer x) (lengthened-append xs ys ps)

pub lengthened-part : (xs ys : List Token) (ps : List (List Token)) → lengthened xs (ys ∷ ps) ≡ (xs ++ ys) ∷ ps
lengthened-part [] ys ps = refl
lengthened-part (x ∷ xs) ys ps = ap (longer x) (lengthened-part xs ys ps)

-- ---- what a token changes of the open brackets

closed_other : (inner b : Bracket) (outer : List Bracket) → Close b ≢ Close inner → (if is_kind inner b then outer else inner ∷ outer) ≡ inner ∷ outer
closed_other Round Round outer other = absurd (other refl)
closed_other Square Square outer other = absurd (other refl)
closed_other Curly Curly outer other = absurd (other refl)
closed_other Round Square outer other = refl
closed_other Round Curly outer other = refl
closed_other Square Round outer other = refl
closed_other Square Curly outer other = refl
closed_other Curly Round outer other = refl
closed_other Curly Square outer other = refl

after_plain : (inner : Bracket) (outer : List Bracket) (token : Token) → opened token ≡ None → token ≢ Close inner → nesting_after (inner ∷ outer) token ≡ inner ∷ outer
after_plain inner outer (Function name) none other = cc
after_plain inner outer (Open b) none other = cc
after_plain inner outer (Close b) none other = closed_other inner b outer other
after_plain inner outer t none other = refl

after_close : (b : Bracket) (outer : List Bracket) → nesting_after (b ∷ outer) (Close b) ≡ outer
after_close Round outer = refl
after_close Square outer = refl
after_close Curly outer = refl

at_top : (token : Token) → opened token ≡ None → nesting_after [] token ≡ []
at_top (Function name) none = cc
at_top (Open b) none = cc
at_top (Close b) none = refl
at_top t none = refl

-- ---- the parts of a list behind a block, and behind a component value

module _ (stops : Token → Bool) where
  pub parts-block : (bracket : Bracket) (xs : List Token) → IsBlock bracket xs → (outer : List Bracket) (rest : List Token) → parts_within stops (bracket ∷ outer) (xs ++ rest) ≡ lengthened xs (parts_within stops outer rest)
  parts-block _ _ (ends bracket) outer rest = ap (λ nesting. longer (Close bracket) (parts_within stops nesting rest)) (after_close bracket outer)
  parts-block _ _ (plain bracket token more none other is) outer rest =
      ap (λ nesting. longer token (parts_within stops nesting (more ++ rest))) (after_plain bracket outer token none other)
      ∙ ap (longer token) (parts-block bracket more is outer rest)
  parts-block _ _ (block bracket kind token inner more is inner_is more_is) outer rest =
      ap (λ nesting. longer token (parts_within stops nesting ((inner ++ more) ++ rest))) (nesting_after-opens (bracket ∷ outer) token kind is)
      ∙ ap (λ ts. longer token (parts_within stops (kind ∷ bracket ∷ outer) ts)) (append_assoc inner more rest)
      ∙ ap (longer token) (
      parts-block kind inner inner_is (bracket ∷ outer) (more ++ rest) ∙ ap (lengthened inner) (parts-block bracket more more_is outer rest)
      ∙ sym (lengthened-append inner more (parts_within stops outer rest))
      )

  top : (token : Token) (rest : List Token) → stops token ≡ false → parts_within stops [] (token ∷ rest) ≡ longer token (parts_within stops (nesting_after [] token) rest)
  top token rest h = ap (λ (b : Bool). if b then [] ∷ parts_within stops [] rest else longer token (parts_within stops (nesting_after [] token) rest)) h

  pub parts-value : (xs : List Token) → IsComponentValue xs → begins stops xs ≡ false → (rest : List Token) → parts_within stops [] (xs ++ rest) ≡ lengthened xs (parts_within stops [] rest)
  parts-value _ (preserved token none) h rest = top token rest h ∙ ap (λ nesting. longer token (parts_within stops nesting rest)) (at_top token none)
  parts-value _ (whole_block bracket token inside is inside_is) h rest =
      top token (inside ++ rest) h ∙ ap (λ nesting. longer token (parts_within stops nesting (inside ++ rest))) (nesting_after-opens [] token bracket is)
      ∙ ap (longer token) (parts-block bracket inside inside_is [] rest)
