-- Each printed token is read again before what ends it.
use Rattle.std.proofs.Common.{◌≡◌, ℕ, ◌<◌, List, [], ◌∷◌, ◌++◌, length, sym, ◌∙◌, ap, subst, arith, length-append}
use Rattle.std.specs.Prelude.{true, false, ◌==◌, Some}
use Rattle.cv_spec_text.specs.declared.token.Token.{Token}
use Rattle.cv_spec_text.specs.declared.token.Token.TheVariants.{Ident, Function, At, Hash, Str, BadStr, Url, BadUrl, Delim, Number, Percentage, Dimension, White, Cdo, Cdc, Colon, Semicolon, Comma, Open, Close}
use Rattle.cv_spec_text.specs.Characters.{left_parenthesis, reverse_solidus}
use Rattle.cv_spec_text.specs.Names.{name_piece_length, name_piece_value}
use Rattle.cv_spec_text.specs.Tokens.{first_row}
use Rattle.cv_spec_text.specs.Printing.{identifier, printed}
use Rattle.cv_text_laws.proofs.Tests.{if_false}
use Rattle.cv_tokser.specs.Clean.{is_bad}
use Rattle.cv_tokser.proofs.Pieces.{written-positive}
use Rattle.cv_tokser.proofs.NamesBack.{identifier_written}
use Rattle.cv_tokser.proofs.FirstRows.{first_row-single}
use Rattle.cv_tokser.proofs.NumbersBack.{number_back, percentage_back}
use Rattle.cv_tokser.proofs.DimensionsBack.{dimension_back}
use Rattle.cv_tokser.proofs.IdentsBack.{ident_back, function_back, at_back, id_back, no_id_back}
use Rattle.cv_tokser.proofs.UrlsBack.{string_back, url_back}
use Rattle.cv_tokser.proofs.SymbolsBack.{white_back, cdo_back, cdc_back, colon_back, semicolon_back, comma_back, open_back, close_back}
use Rattle.cv_tokser.proofs.WellFormed.{IsDelimiter, IsWellFormed}
use Rattle.cv_tokser.proofs.Ends.{EndsDelim, Ends}

-- the printed token is the first that is read, and is printed with a code point at least
pub record ReadsBack (token : Token) (rest : List ℕ) : Type 0 where
  pub row : first_row (printed token ++ rest) ≡ (length (printed token), Some token)
  pub some : 0 < length (printed token)

identifier-some : (c : ℕ) (cs : List ℕ) → 0 < length (identifier (c ∷ cs))
identifier-some c cs = written-positive name_piece_length name_piece_value c cs (identifier (c ∷ cs)) (identifier_written (c ∷ cs))

delim_back : (c : ℕ) (rest : List ℕ) → IsDelimiter c → (c == reverse_solidus) ≡ false → EndsDelim c rest → ReadsBack (Delim c) rest
delim_back c rest is clean ends =
    let alone : printed (Delim c) ≡ c ∷ [] = if_false (c == reverse_solidus) _ _ clean in
    let row : first_row (c ∷ rest) ≡ (1, Some (Delim c)) = first_row-single c rest ends.alone ∙ ap (λ (token : Token). (1, Some token)) is.single in
    record {
      row = subst (λ (text : List ℕ). first_row (text ++ rest) ≡ (length text, Some (Delim c))) (sym alone) row;
      some = subst (λ (text : List ℕ). 0 < length text) (sym alone) (omega arith);
    }

pub reads_back : (token : Token) (rest : List ℕ) → IsWellFormed token → is_bad token ≡ false → Ends token rest → ReadsBack token rest
reads_back (Ident []) rest well clean ends = absurd (omega (arith, well.some))
reads_back (Ident (c ∷ cs)) rest well clean ends = record { row = ident_back c cs rest ends; some = identifier-some c cs }
reads_back (Function []) rest well clean ends = absurd (omega (arith, well.some))
reads_back (Function (c ∷ cs)) rest well clean ends = record { row = function_back c cs rest ends; some = omega (arith, identifier-some c cs, length-append (identifier (c ∷ cs)) (left_parenthesis ∷ [])) }
reads_back (At []) rest well clean ends = absurd (omega (arith, well.some))
reads_back (At (c ∷ cs)) rest well clean ends = record { row = at_back c cs rest ends; some = omega arith }
reads_back (Hash [] true) rest well clean ends = absurd (omega (arith, well.some))
reads_back (Hash (c ∷ cs) true) rest well clean ends = record { row = id_back c cs rest ends; some = omega arith }
reads_back (Hash [] false) rest well clean ends = absurd (omega (arith, well.0.some))
reads_back (Hash (c ∷ cs) false) rest well clean ends = record { row = no_id_back c cs rest well.1 ends; some = omega arith }
reads_back (Str text) rest well clean ends = record { row = string_back text rest; some = omega arith }
reads_back BadStr rest well clean ends = cc
reads_back (Url text) rest well clean ends = record { row = url_back text rest; some = omega arith }
reads_back BadUrl rest well clean ends = cc
reads_back (Delim c) rest well clean ends = delim_back c rest well clean ends
reads_back (Number []) rest well clean ends = absurd (omega (arith, well.number.some))
reads_back (Number (c ∷ cs)) rest well clean ends = record { row = number_back c cs rest well.number ends.number ends.name ends.percent; some = omega arith }
reads_back (Percentage []) rest well clean ends = absurd (omega (arith, well.number.some))
reads_back (Percentage (c ∷ cs)) rest well clean ends = record { row = percentage_back c cs rest well.number; some = omega arith }
reads_back (Dimension [] name) rest well clean ends = absurd (omega (arith, well.0.number.some))
reads_back (Dimension (c ∷ cs) []) rest well clean ends = absurd (omega (arith, well.1.some))
reads_back (Dimension (c ∷ cs) (d ∷ ds)) rest well clean ends = record { row = dimension_back c cs d ds rest well.0.number ends; some = omega arith }
reads_back White rest well clean ends = record { row = white_back rest ends; some = omega arith }
reads_back Cdo rest well clean ends = record { row = cdo_back rest; some = omega arith }
reads_back Cdc rest well clean ends = record { row = cdc_back rest; some = omega arith }
reads_back Colon rest well clean ends = record { row = colon_back rest; some = omega arith }
reads_back Semicolon rest well clean ends = record { row = semicolon_back rest; some = omega arith }
reads_back Comma rest well clean ends = record { row = comma_back rest; some = omega arith }
reads_back (Open bracket) rest well clean ends = record { row = open_back bracket rest; some = omega arith }
reads_back (Close bracket) rest well clean ends = record { row = close_back bracket rest; some = omega arith }
