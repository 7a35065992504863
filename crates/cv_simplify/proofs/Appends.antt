-- Tokens that are written behind others, part after part.
use Rattle.std.specs.Prelude.{ℕ, ◌+◌, ◌==◌, Bool, true, false, List, [], ◌∷◌, ◌++◌, map, fold, codes, if◌then◌else◌}
use Rattle.std.proofs.Common.{◌≡◌, refl, sym, ◌∙◌, ap}
use Rattle.std.proofs.lemmas.List.{append_assoc, append-nil}
use Rattle.cv_spec_text.specs.declared.token.Token.{Token}
use Rattle.cv_spec_text.specs.declared.token.Token.TheVariants as tokens
use Rattle.cv_spec_ratio.specs.Ratio.{Ratio}
use Rattle.cv_calc.specs.declared.unit.Unit as units
use Rattle.cv_calc.specs.declared.calc.Calc.{Calc}
use Rattle.cv_calc.specs.declared.calc.Calc.TheVariants.{Num, Sum, Product, Negate, Invert, Min, Max, Clamp}
use Rattle.cv_simplify.specs.declared.place.Place.{Place}
use Rattle.cv_simplify.specs.declared.place.Place.TheVariants.{Operand, Whole, Added, Multiplied, Argument}
use Rattle.cv_simplify.specs.Text.{Written, Line, written, no_line, operator, prefix, has_brackets, bracketed, call, closing, placed, number_placed, negative_placed, inverse_placed, line_of, arguments_of, with_child, with_rank, with_ranked, ranked}
use Rattle.cv_simplify.specs.Starts.{opening_if, closing_if, start_of, end_of, negative_start, negative_end, inverse_start, inverse_end, behind}
use Rattle.cv_simplify.proofs.Texts.{written-Num, written-Sum, written-Product, written-Negate, written-Invert, written-Min, written-Max, written-Clamp, ranked_none, ranked_next}

pub two : (o xs ys : List Token) → (o ++ xs) ++ ys ≡ o ++ (xs ++ ys)
two o xs ys = append_assoc o xs ys

pub three : (o xs ys zs : List Token) → ((o ++ xs) ++ ys) ++ zs ≡ o ++ (xs ++ (ys ++ zs))
three o xs ys zs = append_assoc (o ++ xs) ys zs ∙ append_assoc o xs (ys ++ zs)

pub in_brackets : (b : Bool) (o inner : List Token) → ((o ++ opening_if b) ++ inner) ++ closing_if b ≡ o ++ bracketed b inner
in_brackets true o inner = three o (opening_if true) inner (closing_if true)
in_brackets false o inner = append-nil ((o ++ []) ++ inner) ∙ ap (λ ts. ts ++ inner) (append-nil o)

-- ---- a calculation at a place

pub number_text : (v : Ratio) (u : units.Unit) (place : Place) (o : List Token) → o ++ number_placed place v u ≡ o ++ (written (Num v u)).at_place place
number_text v u place o = ap (λ (w : Written). o ++ w.at_place place) (sym (written-Num v u))

around : (place : Place) (o inner : List Token) → ((o ++ start_of place) ++ inner) ++ end_of place ≡ o ++ placed place inner
around place o inner = ap (λ ts. (ts ++ inner) ++ end_of place) (sym (two o (prefix place) (opening_if (has_brackets place)))) ∙ in_brackets (has_brackets place) (o ++ prefix place) inner ∙ two o (prefix place) (bracketed (has_brackets place) inner)

pub sum_text : (cs : List Calc) (place : Place) (o : List Token) → ((o ++ start_of place) ++ line_of Added (map written cs)) ++ end_of place ≡ o ++ (written (Sum cs)).at_place place
sum_text cs place o = around place o (line_of Added (map written cs)) ∙ ap (λ (w : Written). o ++ w.at_place place) (sym (written-Sum cs))

pub product_text : (cs : List Calc) (place : Place) (o : List Token) → ((o ++ start_of place) ++ line_of Multiplied (map written cs)) ++ end_of place ≡ o ++ (written (Product cs)).at_place place
product_text cs place o = around place o (line_of Multiplied (map written cs)) ∙ ap (λ (w : Written). o ++ w.at_place place) (sym (written-Product cs))

-- a first token and a sign within what is placed
signed_around : (place : Place) (o sign inner : List Token) → ((o ++ (start_of place ++ sign)) ++ inner) ++ end_of place ≡ o ++ placed place (sign ++ inner)
signed_around place o sign inner =
    ap (λ ts. ts ++ end_of place) (ap (λ ts. ts ++ inner) (sym (two o (start_of place) sign)) ∙ two (o ++ start_of place) sign inner)
    ∙ around place o (sign ++ inner)

negative_around : (place : Place) (o inner : List Token) → ((o ++ negative_start place) ++ inner) ++ negative_end place ≡ o ++ negative_placed place inner
negative_around Added o inner = append-nil ((o ++ operator 0x2d) ++ inner) ∙ two o (operator 0x2d) inner
negative_around Operand o inner = signed_around Operand o (tokens.Number (codes "-1") ∷ operator 0x2a) inner
negative_around Whole o inner = signed_around Whole o (tokens.Number (codes "-1") ∷ operator 0x2a) inner
negative_around Multiplied o inner = signed_around Multiplied o (tokens.Number (codes "-1") ∷ operator 0x2a) inner
negative_around Argument o inner = signed_around Argument o (tokens.Number (codes "-1") ∷ operator 0x2a) inner

inverse_around : (place : Place) (o inner : List Token) → ((o ++ inverse_start place) ++ inner) ++ inverse_end place ≡ o ++ inverse_placed place inner
inverse_around Multiplied o inner = append-nil ((o ++ operator 0x2f) ++ inner) ∙ two o (operator 0x2f) inner
inverse_around Operand o inner = signed_around Operand o (tokens.Number (codes "1") ∷ operator 0x2f) inner
inverse_around Whole o inner = signed_around Whole o (tokens.Number (codes "1") ∷ operator 0x2f) inner
inverse_around Added o inner = signed_around Added o (tokens.Number (codes "1") ∷ operator 0x2f) inner
inverse_around Argument o inner = signed_around Argument o (tokens.Number (codes "1") ∷ operator 0x2f) inner

pub negative_text : (c : Calc) (place : Place) (o : List Token) → ((o ++ negative_start place) ++ (written c).at_place Operand) ++ negative_end place ≡ o ++ (written (Negate c)).at_place place
negative_text c place o = negative_around place o ((written c).at_place Operand) ∙ ap (λ (w : Written). o ++ w.at_place place) (sym (written-Negate c))

pub inverse_text : (c : Calc) (place : Place) (o : List Token) → ((o ++ inverse_start place) ++ (written c).at_place Operand) ++ inverse_end place ≡ o ++ (written (Invert c)).at_place place
inverse_text c place o = inverse_around place o ((written c).at_place Operand) ∙ ap (λ (w : Written). o ++ w.at_place place) (sym (written-Invert c))

called : (place : Place) (name : List ℕ) (o inner : List Token) → ((o ++ (prefix place ++ tokens.Function name ∷ [])) ++ inner) ++ closing ≡ o ++ (prefix place ++ call name inner)
called place name o inner =
    ap (λ ts. (ts ++ inner) ++ closing) (sym (two o (prefix place) (tokens.Function name ∷ [])))
    ∙ three (o ++ prefix place) (tokens.Function name ∷ []) inner closing
    ∙ two o (prefix place) (call name inner)

pub min_text : (cs : List Calc) (place : Place) (o : List Token) → ((o ++ (prefix place ++ tokens.Function (codes "min") ∷ [])) ++ arguments_of (map written cs)) ++ closing ≡ o ++ (written (Min cs)).at_place place
min_text cs place o = called place (codes "min") o (arguments_of (map written cs)) ∙ ap (λ (w : Written). o ++ w.at_place place) (sym (written-Min cs))

pub max_text : (cs : List Calc) (place : Place) (o : List Token) → ((o ++ (prefix place ++ tokens.Function (codes "max") ∷ [])) ++ arguments_of (map written cs)) ++ closing ≡ o ++ (written (Max cs)).at_place place
max_text cs place o = called place (codes "max") o (arguments_of (map written cs)) ∙ ap (λ (w : Written). o ++ w.at_place place) (sym (written-Max cs))

pub clamp_text : (a b c : Calc) (place : Place) (o : List Token) →
    ((((o ++ (prefix place ++ tokens.Function (codes "clamp") ∷ [])) ++ (written a).at_place Whole) ++ (written b).at_place Argument) ++ (written c).at_place Argument) ++ closing ≡ o ++ (written (Clamp a b c)).at_place place
clamp_text a b c place o =
    ap (λ ts. ts ++ closing) (three (o ++ (prefix place ++ tokens.Function (codes "clamp") ∷ [])) ((written a).at_place Whole) ((written b).at_place Argument) ((written c).at_place Argument)
    ∙ ap (λ ts. (o ++ (prefix place ++ tokens.Function (codes "clamp") ∷ [])) ++ ts) (sym (append_assoc ((written a).at_place Whole) ((written b).at_place Argument) ((written c).at_place Argument))))
    ∙ called place (codes "clamp") o (arguments_of (written a ∷ written b ∷ written c ∷ []))
    ∙ ap (λ (w : Written). o ++ w.at_place place) (sym (written-Clamp a b c))

-- ---- lines behind other tokens

child_behind : (first further : Place) (before : List Token) (l : Line) (w : Written) → with_child first further (behind before l) w ≡ behind before (with_child first further l w)
child_behind first further before l w = ap (λ ts. record { line = ts; started = true }) (two before l.line (w.at_place (if l.started then further else first)))

arguments_behind : (first further : Place) (before : List Token) (l : Line) (ws : List Written) → fold (with_child first further) (behind before l) ws ≡ behind before (fold (with_child first further) l ws)
arguments_behind first further before l [] = refl
arguments_behind first further before l (w ∷ ws) = ap (λ k. fold (with_child first further) k ws) (child_behind first further before l w) ∙ arguments_behind first further before (with_child first further l w) ws

rank_behind : (further : Place) (r : ℕ) (before : List Token) (l : Line) (w : Written) → with_rank further r (behind before l) w ≡ behind before (with_rank further r l w)
rank_behind further r before l w = go (w.rank == r)
  where
    go : (b : Bool) → (if b then with_child Operand further (behind before l) w else behind before l) ≡ behind before (if b then with_child Operand further l w else l)
    go true = child_behind Operand further before l w
    go false = refl

ranked_behind : (further : Place) (r : ℕ) (before : List Token) (l : Line) (ws : List Written) → with_ranked further ws (behind before l) r ≡ behind before (with_ranked further ws l r)
ranked_behind further r before l [] = refl
ranked_behind further r before l (w ∷ ws) = ap (λ k. fold (with_rank further r) k ws) (rank_behind further r before l w) ∙ ranked_behind further r before (with_rank further r l w) ws

pub rank_start : (further : Place) (before : List Token) (ws : List Written) → record { line = before; started = false } ≡ behind before (ranked further ws 0)
rank_start further before ws = ap (λ ts. record { line = ts; started = false }) (sym (append-nil before)) ∙ ap (behind before) (sym (ranked_none further ws))

-- a further rank
pub rank_more : (further : Place) (n : ℕ) (before : List Token) (l m : Line) (ws : List Written) → l ≡ behind before (ranked further ws n) → m ≡ with_ranked further ws l n → m ≡ behind before (ranked further ws (n + 1))
rank_more further n before l m ws h e =
    e ∙ ap (λ k. with_ranked further ws k n) h ∙ ranked_behind further n before (ranked further ws n) ws ∙ ap (behind before) (sym (ranked_next further ws n))

pub arguments_whole : (before after : List Token) (s : Bool) (ws : List Written) → record { line = after; started = s } ≡ fold (with_child Whole Argument) (record { line = before; started = false }) ws → after ≡ before ++ arguments_of ws
arguments_whole before after s ws e =
    ap (λ (l : Line). l.line) (e ∙ ap (λ ts. fold (with_child Whole Argument) (record { line = ts; started = false }) ws) (sym (append-nil before)) ∙ arguments_behind Whole Argument before no_line ws)

pub ruleset texts = (number_text, sum_text, product_text, negative_text, inverse_text, min_text, max_text, clamp_text)

pub ruleset appends = (two, three, in_brackets)
