-- The parts of entries that are joined.
use Rattle.std.specs.Prelude.{◌≡◌, Bool, true, false, List, [], ◌∷◌, ◌++◌, map, All}
use Rattle.std.specs.List.{AllByRecursion as Each}
use Rattle.std.proofs.lemmas.List.Elements.{recursion_from_All}
use Rattle.std.proofs.Common.{refl, sym, ◌∙◌, ap, ap₂, subst, append_assoc, append-nil}
use Rattle.cv_spec_text.specs.declared.token.Token.{Token}
use Rattle.cv_spec_text.specs.declared.token.Token.TheVariants.{White, Comma}
use Rattle.cv_component.specs.TopLevel.{begins}
use Rattle.cv_component.specs.Parts.{is_white, is_comma, longer, parts_within, parts, with_filled, filled, trim, has_white_end}
use Rattle.cv_value_laws.specs.Entries.{IsComponentValue, preserved, block, IsEntry}
use Rattle.cv_value_laws.specs.Lists.{further, joined, EntriesAreSplit}
use Rattle.cv_value_laws.proofs.Blocks.{lengthened, lengthened-part, parts-value}
use Rattle.cv_value_laws.proofs.Ends.{EndsFull, behind, entry_ends, trim_kept, no_white_ends}

module _ (stops : Token → Bool) where
  -- an entry at the end of the list is the last part
  alone : (e : List Token) → IsComponentValue e → begins stops e ≡ false → parts_within stops [] (e ++ []) ≡ e ∷ []
  alone e value h = parts-value stops e value h [] ∙ lengthened-part e [] [] ∙ ap (λ (ts : List Token). ts ∷ []) (append-nil e)

  -- an entry in front of a separator is the first part
  first : (e : List Token) → IsComponentValue e → begins stops e ≡ false → (separator : Token) (rest : List Token) → stops separator ≡ true → parts_within stops [] (e ++ separator ∷ rest) ≡ e ∷ parts_within stops [] rest
  first e value h separator rest s =
      parts-value stops e value h (separator ∷ rest) ∙ ap (lengthened e) (separates separator rest s) ∙ lengthened-part e [] (parts_within stops [] rest)
      ∙ ap (λ (ts : List Token). ts ∷ parts_within stops [] rest) (append-nil e)
    where
      separates : (separator : Token) (rest : List Token) → stops separator ≡ true → parts_within stops [] (separator ∷ rest) ≡ [] ∷ parts_within stops [] rest
      separates separator rest s = rw s refl

-- ---- between whitespace

spaced_parts : (e : List Token) (es : List (List Token)) → Each IsEntry (e ∷ es) → parts_within is_white [] (joined (White ∷ []) (e ∷ es)) ≡ e ∷ es
spaced_parts e [] all = alone is_white e all.0.value all.0.not_white
spaced_parts e (f ∷ es) all =
    first is_white e all.0.value all.0.not_white White (joined (White ∷ []) (f ∷ es)) refl ∙ ap (λ (ps : List (List Token)). e ∷ ps) (spaced_parts f es all.1)

kept : (e : List Token) → IsComponentValue e → (ps : List (List Token)) → with_filled e ps ≡ e ∷ ps
kept _ (preserved token none) ps = refl
kept _ (block bracket token inside is inside_is) ps = refl

all_filled : (es : List (List Token)) → Each IsEntry es → filled es ≡ es
all_filled [] all = refl
all_filled (e ∷ es) all = kept e all.0.value (filled es) ∙ ap (λ (ps : List (List Token)). e ∷ ps) (all_filled es all.1)

-- ---- between commas

-- each entry with a space in front
abbrev indented : List (List Token) → List (List Token)
indented es = map (λ (e : List Token). White ∷ e) es

separated_parts : (e : List Token) (es : List (List Token)) → Each IsEntry (e ∷ es) → parts_within is_comma [] (joined (Comma ∷ White ∷ []) (e ∷ es)) ≡ e ∷ indented es
separated_parts e [] all = alone is_comma e all.0.value all.0.not_comma
separated_parts e (f ∷ es) all =
    first is_comma e all.0.value all.0.not_comma Comma (White ∷ joined (Comma ∷ White ∷ []) (f ∷ es)) refl
    ∙ ap (λ (ps : List (List Token)). e ∷ longer White ps) (separated_parts f es all.1)

trims : (e : List Token) → IsEntry e → trim e ≡ e
trims e is = trim_kept e is.not_white (entry_ends e is)

all_trimmed : (es : List (List Token)) → Each IsEntry es → map trim (indented es) ≡ es
all_trimmed [] all = refl
all_trimmed (e ∷ es) all = ap₂ (λ (ts : List Token) (ps : List (List Token)). ts ∷ ps) (trims e all.0) (all_trimmed es all.1)

-- ---- the ends

joined_begins : (e : List Token) → IsComponentValue e → (rest : List Token) → begins is_white (e ++ rest) ≡ begins is_white e
joined_begins _ (preserved token none) rest = refl
joined_begins _ (block bracket token inside is inside_is) rest = refl

joined_ends : (separator : List Token) (e : List Token) (es : List (List Token)) → Each IsEntry (e ∷ es) → EndsFull (joined separator (e ∷ es))
joined_ends separator e [] all =
    let end : EndsFull e = entry_ends e all.0 in
    record { before = end.before; last = end.last; are = append-nil e ∙ end.are; full = end.full }
joined_ends separator e (f ∷ es) all =
    behind e (further separator (f ∷ es)) (
    subst EndsFull (sym (append_assoc separator f (further separator es))) (behind separator (joined separator (f ∷ es)) (joined_ends separator f es all.1))
    )

-- ---- the law

spaced : (e : List Token) (es : List (List Token)) → All IsEntry (e ∷ es) → filled (parts is_white (joined (White ∷ []) (e ∷ es))) ≡ e ∷ es
unfolding parts
spaced e es all =
    let each : Each IsEntry (e ∷ es) = recursion_from_All IsEntry (e ∷ es) all in
    ap filled (spaced_parts e es each) ∙ all_filled (e ∷ es) each

separated : (e : List Token) (es : List (List Token)) → All IsEntry (e ∷ es) → map trim (parts is_comma (joined (Comma ∷ White ∷ []) (e ∷ es))) ≡ e ∷ es
unfolding parts
separated e es all =
    let each : Each IsEntry (e ∷ es) = recursion_from_All IsEntry (e ∷ es) all in
    ap (λ (ps : List (List Token)). map trim ps) (separated_parts e es each)
    ∙ ap₂ (λ (ts : List Token) (ps : List (List Token)). ts ∷ ps) (trims e each.0) (all_trimmed es each.1)

no_white_end : (separator : List Token) (e : List Token) (es : List (List Token)) → All IsEntry (e ∷ es) → has_white_end (joined separator (e ∷ es)) ≡ false
no_white_end separator e es all =
    let each : Each IsEntry (e ∷ es) = recursion_from_All IsEntry (e ∷ es) all in
    no_white_ends (joined separator (e ∷ es)) (joined_begins e each.0.value (further separator es) ∙ each.0.not_white) (joined_ends separator e es each)

trimmed : (separator : List Token) (e : List Token) (es : List (List Token)) → All IsEntry (e ∷ es) → trim (joined separator (e ∷ es)) ≡ joined separator (e ∷ es)
trimmed separator e es all =
    let each : Each IsEntry (e ∷ es) = recursion_from_All IsEntry (e ∷ es) all in
    trim_kept (joined separator (e ∷ es)) (joined_begins e each.0.value (further separator es) ∙ each.0.not_white) (joined_ends separator e es each)

pub entries_are_split : EntriesAreSplit
entries_are_split = record {
  spaced = spaced;
  separated = separated;
  no_white_end = no_white_end;
  trimmed = trimmed;
}
