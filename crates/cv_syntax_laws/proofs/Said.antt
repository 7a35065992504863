-- What a text says, its grammar says.
use Rattle.std.proofs.Common.{◌≡◌, inl, inr, ℕ, ◌+◌, Bool, true, false, List, [], ◌∷◌, ◌++◌, length, take, drop, refl, sym, ap, ap₂, subst, ◌∙◌, append-nil, append_assoc, arith}
use Rattle.std.specs.Prelude.{◌==◌, ◌&&◌, ◌||◌, not, nat_lt, Result, Ok, Err, Option, Some, None, if◌then◌else◌}
use Rattle.std.specs.List.{list_all}
use Rattle.std.specs.Char.{is_ascii_whitespace, is_ascii_digit}
use Rattle.std.proofs.Math.Seq.{drop-append_seam}
use Rattle.std.proofs.lemmas.List.{length-append}
use Rattle.cv_spec_text.specs.Characters.{number_sign, plus_sign, asterisk, less_than_sign, greater_than_sign, is_ident_start, is_ident_code_point, begins_by, begins_with, hyphen}
use Rattle.cv_syntax.specs.Words.{named, is_left_out, is_forbidden, begins_ident}
use Rattle.cv_syntax.specs.Strings.{vertical_line, blank_length, ended, many_at, kind_at, name_at, name_length, bracketed, word_length, worded, begun, component_at, longer, parts, before, components_of, is_blank, is_star, of_components, syntax}
use Rattle.cv_syntax.specs.declared.syntax.Kind.{Kind}
use Rattle.cv_syntax.specs.declared.syntax.Kind.TheVariants.{Literal}
use Rattle.cv_syntax.specs.declared.syntax.Many.{Many}
use Rattle.cv_syntax.specs.declared.syntax.Many.TheVariants.{One, Spaces, Commas}
use Rattle.cv_syntax.specs.declared.syntax.Component.{Component}
use Rattle.cv_syntax.specs.declared.syntax.Syntax.{Syntax}
use Rattle.cv_syntax.specs.declared.syntax.Syntax.TheVariants.{Any, Of}
use Rattle.cv_syntax.specs.declared.syntax.SyntaxErr.{SyntaxErr}
use Rattle.cv_syntax.specs.declared.syntax.SyntaxErr.TheVariants.{Empty, Unsupported, BadName, BadChar}
use Rattle.cv_syntax_laws.specs.Grammar.{IsBlank, IsKind, IsMultiplier, IsComponent, AreComponents, IsUniversal, IsSyntaxString}
use Rattle.cv_syntax_laws.proofs.Runs.{both, same_code, Split, split, split_size, split_front, split_rest, whole_passes, passes_whole}

abbrev Is : {A : Type 0} → Result A SyntaxErr → A → Type 0
Is r a = r ≡ Ok a

ok_same : {A : Type 0} (a b : A) → Is (Ok a) b → a ≡ b
ok_same a b h = cc

-- ---- the end of a component

-- a multiplier and whitespace
record HasTail (kind : Kind) (text : List ℕ) (c : Component) : Type 0 where
  many : List ℕ
  back : List ℕ
  whole : text ≡ many ++ back
  kind_is : c.kind ≡ kind
  is_many : IsMultiplier c.many many
  blank : IsBlank back

ended_said : (kind : Kind) (m : Many) (place : ℕ) (rest : List ℕ) (c : Component) → ended kind m place rest ≡ Ok c → (record { kind = kind; many = m } ≡ c) × IsBlank rest
unfolding ended
ended_said kind m place rest c h = by (nat_lt (blank_length rest) (length rest)) refl h
  where
    by : (b : Bool) → nat_lt (blank_length rest) (length rest) ≡ b → (if b then Err (BadChar (place + blank_length rest)) else Ok (record { kind = kind; many = m })) ≡ Ok c → (record { kind = kind; many = m } ≡ c) × IsBlank rest
    by true is h = absurd cc
    by false is h = (ok_same (record { kind = kind; many = m }) c h, whole_passes is_ascii_whitespace rest is)

tail : (kind : Kind) (m : Many) (many back text : List ℕ) (c : Component) → record { kind = kind; many = m } ≡ c → text ≡ many ++ back → IsMultiplier m many → IsBlank back → HasTail kind text c
tail kind m many back text c same whole is blank = subst (HasTail kind text) same (record { many = many; back = back; whole = whole; kind_is = refl; is_many = is; blank = blank })

many_said : (kind : Kind) (place : ℕ) (text : List ℕ) (c : Component) → many_at kind place text ≡ Ok c → HasTail kind text c
many_said kind place [] c h = tail kind One [] [] [] c (ok_same (record { kind = kind; many = One }) c h) refl refl refl
many_said kind place (x ∷ xs) c h = by (x == plus_sign) refl h
  where
    by_number : (b : Bool) → (x == number_sign) ≡ b → (if b then ended kind Commas (place + 1) xs else ended kind One place (x ∷ xs)) ≡ Ok c → HasTail kind (x ∷ xs) c
    by_number true is h =
        let (same, blank) = ended_said kind Commas (place + 1) xs c h in
        tail kind Commas (number_sign ∷ []) xs (x ∷ xs) c same (ap (λ y. y ∷ xs) (same_code x number_sign is)) refl blank
    by_number false is h =
        let (same, blank) = ended_said kind One place (x ∷ xs) c h in
        tail kind One [] (x ∷ xs) (x ∷ xs) c same refl refl blank

    by : (b : Bool) → (x == plus_sign) ≡ b → (if b then ended kind Spaces (place + 1) xs else if x == number_sign then ended kind Commas (place + 1) xs else ended kind One place (x ∷ xs)) ≡ Ok c → HasTail kind (x ∷ xs) c
    by true is h =
        let (same, blank) = ended_said kind Spaces (place + 1) xs c h in
        tail kind Spaces (plus_sign ∷ []) xs (x ∷ xs) c same (ap (λ y. y ∷ xs) (same_code x plus_sign is)) refl blank
    by false is h = by_number (x == number_sign) refl h

-- ---- a component without whitespace at its front

record IsBody (c : Component) (text : List ℕ) : Type 0 where
  kind : List ℕ
  more : List ℕ
  whole : text ≡ kind ++ more
  is_kind : IsKind c.kind kind
  has : HasTail c.kind more c

own_tail : (kind : Kind) (text : List ℕ) (c : Component) → HasTail kind text c → HasTail c.kind text c
own_tail kind text c t = subst (λ k. HasTail k text c) (sym t.kind_is) t

is_not : (y : ℕ) → not (y == greater_than_sign) ≡ false → y ≡ greater_than_sign
is_not y h = by (y == greater_than_sign) refl h
  where
    by : (b : Bool) → (y == greater_than_sign) ≡ b → not b ≡ false → y ≡ greater_than_sign
    by true is h = same_code y greater_than_sign is
    by false is h = cc

false_true : false ≡ true → ⊥
false_true h = cc

not_true : (b : Bool) → not b ≡ true → b ≡ false
not_true true h = cc
not_true false h = refl

named_said : (place : ℕ) (name : List ℕ) (after : ℕ) (rest : List ℕ) (c : Component) → name_at place name after rest ≡ Ok c → (named name ≡ Some c.kind) × HasTail c.kind rest c
named_said place name after rest c h = by_left (is_left_out name) h
  where
    by_kind : (o : Option Kind) → named name ≡ o → kind_at place o after rest ≡ Ok c → (named name ≡ Some c.kind) × HasTail c.kind rest c
    by_kind None is h = absurd cc
    by_kind (Some k) is h =
        let t : HasTail k rest c = many_said k after rest c h in
        (is ∙ ap Some (sym t.kind_is), own_tail k rest c t)

    by_left : (b : Bool) → (if b then Err (Unsupported name) else kind_at place (named name) after rest) ≡ Ok c → (named name ≡ Some c.kind) × HasTail c.kind rest c
    by_left true h = absurd cc
    by_left false h = by_kind (named name) refl h

abbrev no_bracket : ℕ → Bool
no_bracket c = not (c == greater_than_sign)

pub drop_more : (n : ℕ) (front : List ℕ) (y : ℕ) (ys : List ℕ) → n ≡ length front → drop (n + 1) (front ++ y ∷ ys) ≡ ys
drop_more n front y ys same =
    let more : n + 1 ≡ length (front ++ y ∷ []) = omega (arith, same, length-append front (y ∷ [])) in
    ap₂ drop more (sym (append_assoc front (y ∷ []) ys)) ∙ drop-append_seam (front ++ y ∷ []) ys

bracketed_said : (place : ℕ) (text : List ℕ) (c : Component) → bracketed place text ≡ Ok c → IsBody c (less_than_sign ∷ text)
unfolding bracketed
bracketed_said place text c h = by (nat_lt (name_length text) (length text)) refl h
  where
    by_rest : (s : Split no_bracket text) (rest : List ℕ) → s.rest ≡ rest → nat_lt (name_length text) (length text) ≡ true →
        name_at place (take (name_length text) text) (place + name_length text + 2) (drop (name_length text + 1) text) ≡ Ok c → IsBody c (less_than_sign ∷ text)
    by_rest s [] is shorter h =
        let all : text ≡ s.front = s.whole ∙ ap (λ l. s.front ++ l) is ∙ append-nil s.front in
        let passes : list_all no_bracket text ≡ true = ap (list_all no_bracket) all ∙ s.passes in
        let longer : nat_lt (name_length text) (length text) ≡ false = passes_whole no_bracket text passes in cc
    by_rest s (y ∷ ys) is shorter h =
        let bracket : y ≡ greater_than_sign = is_not y (sym (ap (begins_by no_bracket) is) ∙ s.stops) in
        let whole : text ≡ s.front ++ y ∷ ys = s.whole ∙ ap (λ l. s.front ++ l) is in
        let name : take (name_length text) text ≡ s.front = split_front no_bracket text s in
        let further : drop (name_length text + 1) text ≡ ys = ap (drop (name_length text + 1)) whole ∙ drop_more (name_length text) s.front y ys (split_size no_bracket text s) in
        let (is_named, has) = named_said place (take (name_length text) text) (place + name_length text + 2) (drop (name_length text + 1) text) c h in
        record {
          kind = less_than_sign ∷ (s.front ++ greater_than_sign ∷ []);
          more = ys;
          whole = ap (λ l. less_than_sign ∷ l) (whole ∙ ap (λ z. s.front ++ z ∷ ys) bracket ∙ sym (append_assoc s.front (greater_than_sign ∷ []) ys));
          is_kind = inl (record { name = s.front; named_so = ap named (sym name) ∙ is_named; whole = refl });
          has = subst (λ l. HasTail c.kind l c) further has;
        }

    by : (b : Bool) → nat_lt (name_length text) (length text) ≡ b →
        (if b then name_at place (take (name_length text) text) (place + name_length text + 2) (drop (name_length text + 1) text) else Err (BadName place)) ≡ Ok c → IsBody c (less_than_sign ∷ text)
    by true is h = let s : Split no_bracket text = split no_bracket text in by_rest s s.rest refl is h
    by false is h = absurd cc

-- ---- idents

either_none : (a b : Bool) → (a || b) ≡ false → (a ≡ false) × (b ≡ false)
either_none true b h = cc
either_none false b h = (refl, h)

-- what begins an ident goes on with one
no_start : (y : ℕ) → is_ident_code_point y ≡ false → (is_ident_start y ≡ false) × ((y == hyphen) ≡ false)
no_start y h =
    let (more, dash) = either_none (is_ident_start y || is_ascii_digit y) (y == hyphen) h in
    let (start, digit) = either_none (is_ident_start y) (is_ascii_digit y) more in (start, dash)

nothing_begins : (rest : List ℕ) → begins_by is_ident_code_point rest ≡ false → begins_ident rest ≡ false
unfolding begins_ident
nothing_begins [] h = refl
nothing_begins (y ∷ ys) h =
    let (start, dash) = no_start y h in
    ap (λ b. b || ((y == hyphen) && begins_by (λ c. c == hyphen || is_ident_start c) ys)) start ∙ ap (λ b. b && begins_by (λ c. c == hyphen || is_ident_start c) ys) dash

second_not : (rest : List ℕ) → begins_by is_ident_code_point rest ≡ false → begins_by (λ c. c == hyphen || is_ident_start c) rest ≡ false
second_not [] h = refl
second_not (y ∷ ys) h = let (start, dash) = no_start y h in ap (λ b. b || is_ident_start y) dash ∙ start

pub begins_alike : (word rest : List ℕ) → begins_by is_ident_code_point rest ≡ false → begins_ident (word ++ rest) ≡ begins_ident word
unfolding begins_ident
begins_alike [] rest h = nothing_begins rest h
begins_alike (w ∷ []) rest h = ap (λ b. is_ident_start w || ((w == hyphen) && b)) (second_not rest h)
begins_alike (w ∷ v ∷ ws) rest h = refl

worded_said : (place : ℕ) (text : List ℕ) (c : Component) → begins_ident text ≡ true → worded place text ≡ Ok c → IsBody c text
unfolding worded
worded_said place text c begins h = by (is_forbidden (take (word_length text) text)) refl h
  where
    by : (b : Bool) → is_forbidden (take (word_length text) text) ≡ b →
        (if b then Err (BadName place) else many_at (Literal (take (word_length text) text)) (place + word_length text) (drop (word_length text) text)) ≡ Ok c → IsBody c text
    by true is h = absurd cc
    by false is h =
        let s : Split is_ident_code_point text = split is_ident_code_point text in
        let word : take (word_length text) text ≡ s.front = split_front is_ident_code_point text s in
        let rest : drop (word_length text) text ≡ s.rest = split_rest is_ident_code_point text s in
        let t : HasTail (Literal (take (word_length text) text)) (drop (word_length text) text) c = many_said (Literal (take (word_length text) text)) (place + word_length text) (drop (word_length text) text) c h in
        record {
          kind = s.front;
          more = s.rest;
          whole = s.whole;
          is_kind = inr (
            t.kind_is ∙ ap Literal word,
            record {
              begins = sym (begins_alike s.front s.rest s.stops) ∙ ap begins_ident (sym s.whole) ∙ begins;
              goes_on = s.passes;
              free = ap is_forbidden (sym word) ∙ is;
            },
          );
          has = subst (λ l. HasTail c.kind l c) rest (own_tail (Literal (take (word_length text) text)) (drop (word_length text) text) c t);
        }

begun_said : (place : ℕ) (text : List ℕ) (c : Component) → begun place text ≡ Ok c → IsBody c text
unfolding begun
begun_said place [] c h = absurd cc
begun_said place (x ∷ xs) c h = by (x == less_than_sign) refl h
  where
    by_ident : (b : Bool) → begins_ident (x ∷ xs) ≡ b → (if b then worded place (x ∷ xs) else Err (BadChar place)) ≡ Ok c → IsBody c (x ∷ xs)
    by_ident true is h = worded_said place (x ∷ xs) c is h
    by_ident false is h = absurd cc

    by : (b : Bool) → (x == less_than_sign) ≡ b → (if b then bracketed place xs else if begins_ident (x ∷ xs) then worded place (x ∷ xs) else Err (BadChar place)) ≡ Ok c → IsBody c (x ∷ xs)
    by true is h = subst (λ y. IsBody c (y ∷ xs)) (sym (same_code x less_than_sign is)) (bracketed_said place xs c h)
    by false is h = by_ident (begins_ident (x ∷ xs)) refl h

with_front : (front rest text : List ℕ) (c : Component) → text ≡ front ++ rest → IsBlank front → (body : IsBody c rest) → HasTail c.kind body.more c → IsComponent c text
with_front front rest text c whole blank body has = record {
  front = front;
  kind = body.kind;
  many = has.many;
  back = has.back;
  whole = whole ∙ ap (λ l. front ++ l) (body.whole ∙ ap (λ l. body.kind ++ l) has.whole);
  blank_front = blank;
  is_kind = body.is_kind;
  is_many = has.is_many;
  blank_back = has.blank;
}

component_said : (place : ℕ) (text : List ℕ) (c : Component) → component_at place text ≡ Ok c → IsComponent c text
unfolding component_at
component_said place text c h = by (subst (IsBody c) (split_rest is_ascii_whitespace text (split is_ascii_whitespace text)) (begun_said (place + blank_length text) (drop (blank_length text) text) c h))
  where
    by : IsBody c (split is_ascii_whitespace text).rest → IsComponent c text
    by body =
        let s : Split is_ascii_whitespace text = split is_ascii_whitespace text in
        with_front s.front s.rest text c s.whole s.passes body body.has

-- ---- all components

-- texts with lines between them
abbrev pub joined : List (List ℕ) → List ℕ
joined [] = []
joined (t ∷ []) = t
joined (t ∷ u ∷ ts) = t ++ vertical_line ∷ joined (u ∷ ts)

abbrev is_filled : List (List ℕ) → Bool
is_filled [] = false
is_filled (t ∷ ts) = true

joined_longer : (c : ℕ) (ts : List (List ℕ)) → is_filled ts ≡ true → joined (longer c ts) ≡ c ∷ joined ts
joined_longer c [] h = cc
joined_longer c (t ∷ []) h = refl
joined_longer c (t ∷ u ∷ ts) h = refl

longer_filled : (c : ℕ) (ts : List (List ℕ)) → is_filled ts ≡ true → is_filled (longer c ts) ≡ true
longer_filled c [] h = cc
longer_filled c (t ∷ ts) h = refl

parts_filled : (text : List ℕ) → is_filled (parts text) ≡ true
parts_filled [] = refl
parts_filled (c ∷ cs) = by (c == vertical_line) (longer_filled c (parts cs) (parts_filled cs))
  where
    by : (b : Bool) → is_filled (longer c (parts cs)) ≡ true → is_filled (if b then [] ∷ parts cs else longer c (parts cs)) ≡ true
    by true h = refl
    by false h = h

joined_line : (ts : List (List ℕ)) → is_filled ts ≡ true → joined ([] ∷ ts) ≡ vertical_line ∷ joined ts
joined_line [] h = cc
joined_line (t ∷ ts) h = refl

pub parts_joined : (text : List ℕ) → joined (parts text) ≡ text
parts_joined [] = refl
parts_joined (c ∷ cs) = by (c == vertical_line) refl (parts_joined cs)
  where
    by : (b : Bool) → (c == vertical_line) ≡ b → joined (parts cs) ≡ cs → joined (if b then [] ∷ parts cs else longer c (parts cs)) ≡ c ∷ cs
    by true is h = joined_line (parts cs) (parts_filled cs) ∙ ap₂ (λ x l. x ∷ l) (sym (same_code c vertical_line is)) h
    by false is h = joined_longer c (parts cs) (parts_filled cs) ∙ ap (λ l. c ∷ l) h

before_said : (r : Result Component SyntaxErr) (rest : Result (List Component) SyntaxErr) (cs : List Component) → before r rest ≡ Ok cs → (d : Component) × (ds : List Component) × (r ≡ Ok d) × (rest ≡ Ok ds) × (d ∷ ds ≡ cs)
before_said (Err e) rest cs h = absurd cc
before_said (Ok d) (Err e) cs h = absurd cc
before_said (Ok d) (Ok ds) cs h = (d, ds, refl, refl, ok_same (d ∷ ds) cs h)

more_said : (c : Component) (cs : List Component) (first rest : List ℕ) → IsComponent c first → AreComponents cs rest → AreComponents (c ∷ cs) (first ++ vertical_line ∷ rest)
more_said c [] first rest h k = absurd k
more_said c (d ∷ ds) first rest h k = (first, rest, refl, h, k)

components_said : (place : ℕ) (ts : List (List ℕ)) (cs : List Component) → is_filled ts ≡ true → components_of place ts ≡ Ok cs → AreComponents cs (joined ts)
components_said place [] cs filled h = cc
components_said place (t ∷ []) cs filled h =
    let (d, ds, is, rest, same) = before_said (component_at place t) (Ok []) cs h in
    let none : [] ≡ ds = ok_same [] ds rest in
    subst (λ l. AreComponents l t) (ap (λ l. d ∷ l) none ∙ same) (component_said place t d is)
components_said place (t ∷ u ∷ ts) cs filled h =
    let (d, ds, is, rest, same) = before_said (component_at place t) (components_of (place + length t + 1) (u ∷ ts)) cs h in
    subst (λ l. AreComponents l (joined (t ∷ u ∷ ts))) same
    (more_said d ds t (joined (u ∷ ts)) (component_said place t d is) (components_said (place + length t + 1) (u ∷ ts) ds refl rest))

-- ---- the whole text

star_said : (text : List ℕ) → is_star text ≡ true → IsUniversal text
star_said text h =
    let s : Split is_ascii_whitespace text = split is_ascii_whitespace text in
    let (star, blank) = both (begins_with asterisk (drop (blank_length text) text)) (is_blank (drop (blank_length text + 1) text)) h in
    by_rest s s.rest refl (ap (begins_with asterisk) (sym (split_rest is_ascii_whitespace text s)) ∙ star) blank
  where
    by_rest : (s : Split is_ascii_whitespace text) (rest : List ℕ) → s.rest ≡ rest → begins_with asterisk s.rest ≡ true → is_blank (drop (blank_length text + 1) text) ≡ true → IsUniversal text
    by_rest s [] is star blank = let no : begins_with asterisk s.rest ≡ false = ap (begins_with asterisk) is in absurd (false_true (sym no ∙ star))
    by_rest s (y ∷ ys) is star blank =
        let same : y ≡ asterisk = same_code y asterisk (sym (ap (begins_with asterisk) is) ∙ star) in
        let whole : text ≡ s.front ++ y ∷ ys = s.whole ∙ ap (λ l. s.front ++ l) is in
        let further : drop (blank_length text + 1) text ≡ ys = ap (drop (blank_length text + 1)) whole ∙ drop_more (blank_length text) s.front y ys (split_size is_ascii_whitespace text s) in
        record {
          front = s.front;
          back = ys;
          whole = whole ∙ ap (λ z. s.front ++ z ∷ ys) same;
          blank_front = s.passes;
          blank_back = whole_passes is_ascii_whitespace ys (not_true (nat_lt (blank_length ys) (length ys)) (ap is_blank (sym further) ∙ blank));
        }

of_said : (text : List ℕ) (r : Result (List Component) SyntaxErr) (s : Syntax) → components_of 0 (parts text) ≡ r → of_components r ≡ Ok s → IsSyntaxString s text
of_said text (Err e) s is h = absurd cc
of_said text (Ok cs) s is h =
    subst (λ (v : Syntax). IsSyntaxString v text) (ok_same (Of cs) s h) (subst (AreComponents cs) (parts_joined text) (components_said 0 (parts text) cs (parts_filled text) is))

pub said : (text : List ℕ) (s : Syntax) → syntax text ≡ Ok s → IsSyntaxString s text
unfolding syntax
said text s h = by (is_blank text) h
  where
    by_star : (b : Bool) → is_star text ≡ b → (if b then Ok Any else of_components (components_of 0 (parts text))) ≡ Ok s → IsSyntaxString s text
    by_star true is h = subst (λ (v : Syntax). IsSyntaxString v text) (ok_same Any s h) (star_said text is)
    by_star false is h = of_said text (components_of 0 (parts text)) s refl h

    by : (b : Bool) → (if b then Err Empty else if is_star text then Ok Any else of_components (components_of 0 (parts text))) ≡ Ok s → IsSyntaxString s text
    by true h = absurd cc
    by false h = by_star (is_star text) refl h
