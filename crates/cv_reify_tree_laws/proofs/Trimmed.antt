-- The values of the items of a list have no whitespace at their ends.
use Rattle.std.proofs.Common.{◌≡◌, ℕ, suc, ◌<◌, ◌≤◌, Bool, true, false, List, [], ◌∷◌, ◌++◌, length, reverse, take, Option, Some, None, ◌⊎◌, inl, inr, refl, sym, ◌∙◌, ap, subst, arith, append_assoc}
use Rattle.std.specs.Prelude.{All, ◌==◌, if◌then◌else◌, option_map}
use Rattle.std.proofs.lemmas.List.{reverse-reverse, reverse-append, length-reverse}
use Rattle.std.proofs.lemmas.List.Elements.{All-nil, All-cons, All-from_recursion}
use Rattle.cv_spec_text.specs.Characters.{exclamation_mark}
use Rattle.cv_spec_text.specs.declared.token.Token.{Token}
use Rattle.cv_spec_text.specs.declared.token.Token.TheVariants.{Ident, Delim, Colon, White}
use Rattle.cv_component.specs.declared.items.Piece.{Piece}
use Rattle.cv_component.specs.declared.items.Piece.TheVariants.{Decl, At, Other}
use Rattle.cv_component.specs.Items.{is_important, before_mark, before_importance, unimportant, declaration_by, declared_value, declaration, item, item_length, item_size, begins_item, item_at, items}
use Rattle.cv_component.specs.Nesting.{completed}
use Rattle.cv_component.specs.Parts.{trim}
use Rattle.cv_component.specs.TopLevel.{trim_front, trim_end}
use Rattle.cv_element.proofs.TokenKinds.{Stays, white_or_not}
use Rattle.cv_element.proofs.Trimming.{trim_twice}
use Rattle.cv_element_laws.proofs.Runs.{run_values-All}

abbrev pub IsTrimmed : List Token → Type 0
IsTrimmed list = trim list ≡ list

-- the list is what comes behind some front of the other
abbrev EndsIn : List Token → List Token → Type 0
EndsIn list back = (front : List Token) × (list ≡ front ++ back)

behind : (t : Token) (list back : List Token) → EndsIn list back → EndsIn (t ∷ list) back
behind t list back ends = (t ∷ ends.0, ap (λ l. t ∷ l) ends.1)

ends_front : (list : List Token) → EndsIn list (trim_front list)
ends_front [] = ([], refl)
ends_front (t ∷ rest) = by (ends_front rest) (white_or_not t)
  where
    by : EndsIn rest (trim_front rest) → (t ≡ White) ⊎ Stays t → EndsIn (t ∷ rest) (trim_front (t ∷ rest))
    by shorter (inl white) = subst (λ x. EndsIn (x ∷ rest) (trim_front (x ∷ rest))) (sym white) (behind White rest (trim_front rest) shorter)
    by shorter (inr stays) = subst (EndsIn (t ∷ rest)) (sym (stays.front rest)) ([], refl)

ends_again : (list middle back : List Token) → EndsIn list middle → EndsIn middle back → EndsIn list back
ends_again list middle back first second =
    (first.0 ++ second.0, first.1 ∙ ap (λ l. first.0 ++ l) second.1 ∙ sym (append_assoc first.0 second.0 back))

-- ---- a front of a trimmed list begins with no whitespace

front_shorter : (list : List Token) → length (trim_front list) ≤ length list
front_shorter list =
    let ends = ends_front list in
    subst (λ (l : List Token). length (trim_front list) ≤ length l) (sym ends.1) (longer ends.0 (trim_front list))
  where
    longer : (front back : List Token) → length back ≤ length (front ++ back)
    longer [] back = omega arith
    longer (t ∷ front) back = let rest = longer front back in omega (arith, rest)

trim_shorter : (list : List Token) → length (trim list) ≤ length list
trim_shorter list =
    let end = front_shorter (reverse (trim_front list)) in
    omega (arith, front_shorter list, end, length-reverse (trim_front list), length-reverse (trim_front (reverse (trim_front list))))

white_first : (rest : List Token) → IsTrimmed (White ∷ rest) → ⊥
white_first rest is =
    let same : length (trim rest) ≡ length (White ∷ rest) = ap length is in
    absurd (omega (arith, trim_shorter rest, same))

front_stays : (list more : List Token) → IsTrimmed (list ++ more) → trim_front list ≡ list
front_stays [] more is = refl
front_stays (t ∷ rest) more is = by (white_or_not t)
  where
    by : (t ≡ White) ⊎ Stays t → trim_front (t ∷ rest) ≡ t ∷ rest
    by (inl white) = absurd (white_first (rest ++ more) (subst (λ x. IsTrimmed (x ∷ (rest ++ more))) white is))
    by (inr stays) = stays.front rest

-- ---- importance

abbrev EndsInSome : List Token → Option (List Token) → Type 0
EndsInSome list None = Unit {0}
EndsInSome list (Some back) = EndsIn list back

some_if : (list : List Token) (b : Bool) (o : Option (List Token)) → EndsInSome list o → EndsInSome list (if b then o else None)
some_if list true o ends = ends
some_if list false o ends = tt

some_behind : (list middle : List Token) (o : Option (List Token)) → EndsIn list middle → EndsInSome middle o → EndsInSome list o
some_behind list middle None first second = tt
some_behind list middle (Some back) first second = ends_again list middle back first second

mark_ends : (list : List Token) → EndsInSome list (before_mark list)
mark_ends [] = tt
mark_ends (Delim c ∷ before) = some_if (Delim c ∷ before) (c == exclamation_mark) (Some before) (Delim c ∷ [], refl)
mark_ends (_ ∷ before) = tt

importance_ends : (list : List Token) → EndsInSome list (before_importance list)
importance_ends [] = tt
importance_ends (Ident name ∷ before) =
    some_if (Ident name ∷ before) (is_important name) (before_mark (trim_front before))
    (some_behind (Ident name ∷ before) (trim_front before) (before_mark (trim_front before)) (behind (Ident name) before (trim_front before) (ends_front before)) (mark_ends (trim_front before)))
importance_ends (_ ∷ before) = tt

abbrev IsTrimmedSome : Option (List Token) → Type 0
IsTrimmedSome None = Unit {0}
IsTrimmedSome (Some list) = IsTrimmed list

-- what stands at the end of the turned list, turned back and without whitespace at its end
turned_back : (value before : List Token) → IsTrimmed value → EndsIn (reverse value) before → IsTrimmed (reverse (trim_front before))
turned_back value before is ends =
    let whole : value ≡ reverse before ++ reverse ends.0 = sym (reverse-reverse value) ∙ ap reverse ends.1 ∙ reverse-append ends.0 before in
    let front : trim_front (reverse before) ≡ reverse before = front_stays (reverse before) (reverse ends.0) (subst IsTrimmed whole is) in
    let trimmed : trim (reverse before) ≡ reverse (trim_front before) = ap trim_end front ∙ ap (λ l. reverse (trim_front l)) (reverse-reverse before) in
    subst IsTrimmed trimmed (trim_twice (reverse before))

turned_some : (value : List Token) (o : Option (List Token)) → IsTrimmed value → EndsInSome (reverse value) o → IsTrimmedSome (option_map (λ before. reverse (trim_front before)) o)
turned_some value None is ends = tt
turned_some value (Some before) is ends = turned_back value before is ends

unimportant_trimmed : (value : List Token) → IsTrimmed value → IsTrimmedSome (unimportant value)
unfolding unimportant
unimportant_trimmed value is = turned_some value (before_importance (reverse value)) is (importance_ends (reverse value))

-- ---- items

-- the value of the item has no whitespace at its ends
abbrev pub IsTrimmedPiece : Piece → Type 0
IsTrimmedPiece (Decl name value important) = IsTrimmed value
IsTrimmedPiece At = Unit {0}
IsTrimmedPiece Other = Unit {0}

value_trimmed : (list : List Token) → IsTrimmed (declared_value list)
unfolding declared_value
value_trimmed list = trim_twice (completed list)

by_trimmed : (name : List ℕ) (value : List Token) (o : Option (List Token)) → IsTrimmed value → IsTrimmedSome o → IsTrimmedPiece (declaration_by name value o)
by_trimmed name value None is rest = is
by_trimmed name value (Some list) is rest = rest

declaration_trimmed : (name : List ℕ) (list : List Token) → IsTrimmedPiece (declaration name list)
declaration_trimmed name [] = tt
declaration_trimmed name (Colon ∷ list) =
    let value = value_trimmed list in
    by_trimmed name (declared_value list) (unimportant (declared_value list)) value (unimportant_trimmed (declared_value list) value)
declaration_trimmed name (_ ∷ list) = tt

item_trimmed : (list : List Token) → IsTrimmedPiece (item list)
item_trimmed [] = tt
item_trimmed (Ident name ∷ list) = declaration_trimmed name (trim_front list)
item_trimmed (_ ∷ list) = tt

abbrev IsAny : Token → Type 0
IsAny t = Unit {0}

item_at_trimmed : (list : List Token) → All IsAny list → All IsTrimmedPiece (item_at list)
item_at_trimmed list any = by (begins_item list)
  where
    by : (b : Bool) → All IsTrimmedPiece (if b then item (take (item_length list) list) ∷ [] else [])
    by true = All-cons IsTrimmedPiece (item (take (item_length list) list)) [] (item_trimmed (take (item_length list) list)) (All-nil IsTrimmedPiece)
    by false = All-nil IsTrimmedPiece

all_any : (list : List Token) → All IsAny list
all_any [] = All-nil IsAny
all_any (t ∷ rest) = All-cons IsAny t rest tt (all_any rest)

pub items_trimmed : (list : List Token) → All IsTrimmedPiece (items list)
items_trimmed list = run_values-All item_size item_at IsAny IsTrimmedPiece item_at_trimmed list (all_any list)
