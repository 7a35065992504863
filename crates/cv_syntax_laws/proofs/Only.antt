-- A text that the grammar says something of says it.
use Rattle.std.proofs.Common.{◌≡◌, ◌≤◌, inl, inr, ℕ, suc, ◌+◌, Bool, true, false, List, [], ◌∷◌, ◌++◌, length, take, drop, refl, sym, ap, ap₂, subst, ◌∙◌, append-nil, append_assoc, arith}
use Rattle.std.specs.Prelude.{◌==◌, ◌&&◌, not, nat_lt, nat_le, codes, bytes_eq, Ok, Err, Option, Some, None, if◌then◌else◌}
use Rattle.std.specs.List.{list_all}
use Rattle.std.specs.Char.{is_ascii_whitespace}
use Rattle.std.proofs.lemmas.Bool.Decides.{nat_tests}
use Rattle.std.proofs.lemmas.Slice.Eq.{bytes_eq-Decides}
use Rattle.std.proofs.lemmas.List.Folds.{list_all-append}
use Rattle.std.proofs.Math.Seq.{drop-append_seam, take-append_seam}
use Rattle.std.proofs.lemmas.List.{length-append}
use Rattle.cv_spec_text.specs.Characters.{number_sign, plus_sign, asterisk, less_than_sign, greater_than_sign, is_ident_code_point, begins_by, begins_with}
use Rattle.cv_syntax.specs.Words.{named, is_left_out, is_forbidden, begins_ident}
use Rattle.cv_syntax.specs.Strings.{vertical_line, blank_length, ended, many_at, kind_at, name_at, name_length, bracketed, word_length, worded, begun, component_at, longer, parts, before, components_of, is_blank, is_star, of_components, syntax}
use Rattle.cv_syntax.specs.declared.syntax.Kind.{Kind}
use Rattle.cv_syntax.specs.declared.syntax.Kind.TheVariants.{Length, Number, Percentage, LengthPercentage, Color, Url, Integer, Angle, Time, Resolution, Str, CustomIdent, Literal}
use Rattle.cv_syntax.specs.declared.syntax.Many.{Many}
use Rattle.cv_syntax.specs.declared.syntax.Many.TheVariants.{One, Spaces, Commas}
use Rattle.cv_syntax.specs.declared.syntax.Component.{Component}
use Rattle.cv_syntax.specs.declared.syntax.Syntax.{Syntax}
use Rattle.cv_syntax.specs.declared.syntax.Syntax.TheVariants.{Any, Of}
use Rattle.cv_syntax.specs.declared.syntax.SyntaxErr.TheVariants.{Empty, Unsupported, BadName, BadChar}
use Rattle.cv_syntax_laws.specs.Grammar.{IsBlank, IsName, IsIdent, IsKind, IsMultiplier, IsComponent, AreComponents, IsSyntaxString}
use Rattle.cv_syntax_laws.proofs.Runs.{both, same_code, run_is, below, passes_whole}
use Rattle.cv_syntax_laws.proofs.Said.{begins_alike, drop_more}

-- ---- code points

contrary : (b : Bool) → b ≡ true → b ≡ false → ⊥
contrary true h k = cc
contrary false h k = cc

-- what passes is no code point that doesn't
other_code : (p : ℕ → Bool) (x k : ℕ) → p x ≡ true → p k ≡ false → (x == k) ≡ false
other_code p x k h j = by (x == k) refl
  where
    by : (b : Bool) → (x == k) ≡ b → (x == k) ≡ false
    by true is = absurd (contrary (p x) h (ap p (same_code x k is) ∙ j))
    by false is = is

white_small : (x : ℕ) → is_ascii_whitespace x ≡ true → x ≤ 32
white_small x h = grind (arith, nat_tests, h)

not_at_least : (n x : ℕ) → x ≤ 32 → nat_lt 32 n ≡ true → nat_le n x ≡ false
not_at_least n x h k = grind (arith, nat_tests)

not_equal : (n x : ℕ) → x ≤ 32 → nat_lt 32 n ≡ true → (x == n) ≡ false
not_equal n x h k = grind (arith, nat_tests)

below_range : (b x : Bool) → b ≡ false → (b && x) ≡ false
below_range true x h = cc
below_range false x h = refl

-- whitespace is no part of an ident
white_no_ident : (x : ℕ) → is_ascii_whitespace x ≡ true → is_ident_code_point x ≡ false
white_no_ident x h =
    let small : x ≤ 32 = white_small x h in
    let upper : (nat_le 65 x && nat_le x 90) ≡ false = below_range (nat_le 65 x) (nat_le x 90) (not_at_least 65 x small refl) in
    let lower : (nat_le 97 x && nat_le x 122) ≡ false = below_range (nat_le 97 x) (nat_le x 122) (not_at_least 97 x small refl) in
    let digit : (nat_le 48 x && nat_le x 57) ≡ false = below_range (nat_le 48 x) (nat_le x 57) (not_at_least 48 x small refl) in
    let line : (x == 95) ≡ false = not_equal 95 x small refl in
    let far : nat_le 0x80 x ≡ false = not_at_least 0x80 x small refl in
    let dash : (x == 45) ≡ false = not_equal 45 x small refl in
    rw (upper, lower, digit, line, far, dash) refl

ident_no_white : (x : ℕ) → is_ident_code_point x ≡ true → is_ascii_whitespace x ≡ false
ident_no_white x h = by (is_ascii_whitespace x) refl
  where
    by : (b : Bool) → is_ascii_whitespace x ≡ b → is_ascii_whitespace x ≡ false
    by true is = absurd (contrary (is_ident_code_point x) h (white_no_ident x is))
    by false is = is

-- ---- the end of a component

ended_only : (kind : Kind) (m : Many) (place : ℕ) (rest : List ℕ) → IsBlank rest → ended kind m place rest ≡ Ok (record { kind = kind; many = m })
unfolding ended
ended_only kind m place rest h = ap (λ b. if b then Err (BadChar (place + blank_length rest)) else Ok (record { kind = kind; many = m })) (passes_whole is_ascii_whitespace rest h)

one_only : (kind : Kind) (place : ℕ) (back : List ℕ) → IsBlank back → many_at kind place back ≡ Ok (record { kind = kind; many = One })
one_only kind place [] h = refl
one_only kind place (x ∷ xs) h =
    let (white, more) = both (is_ascii_whitespace x) (list_all is_ascii_whitespace xs) h in
    let no_plus : (x == plus_sign) ≡ false = other_code is_ascii_whitespace x plus_sign white refl in
    let no_number : (x == number_sign) ≡ false = other_code is_ascii_whitespace x number_sign white refl in
    ap (λ b. if b then ended kind Spaces (place + 1) xs else if x == number_sign then ended kind Commas (place + 1) xs else ended kind One place (x ∷ xs)) no_plus
    ∙ ap (λ b. if b then ended kind Commas (place + 1) xs else ended kind One place (x ∷ xs)) no_number
    ∙ ended_only kind One place (x ∷ xs) h

many_only : (kind : Kind) (m : Many) (many back : List ℕ) (place : ℕ) → IsMultiplier m many → IsBlank back → many_at kind place (many ++ back) ≡ Ok (record { kind = kind; many = m })
many_only kind One many back place is h = ap (λ l. many_at kind place (l ++ back)) is ∙ one_only kind place back h
many_only kind Spaces many back place is h = ap (λ l. many_at kind place (l ++ back)) is ∙ ended_only kind Spaces (place + 1) back h
many_only kind Commas many back place is h = ap (λ l. many_at kind place (l ++ back)) is ∙ ended_only kind Commas (place + 1) back h

-- an ident doesn't go on with a multiplier or whitespace
blank_stops : (back : List ℕ) → IsBlank back → begins_by is_ident_code_point back ≡ false
blank_stops [] h = refl
blank_stops (x ∷ xs) h = white_no_ident x (both (is_ascii_whitespace x) (list_all is_ascii_whitespace xs) h).0

many_stops : (m : Many) (many back : List ℕ) → IsMultiplier m many → IsBlank back → begins_by is_ident_code_point (many ++ back) ≡ false
many_stops One many back is h = ap (λ l. begins_by is_ident_code_point (l ++ back)) is ∙ blank_stops back h
many_stops Spaces many back is h = ap (λ l. begins_by is_ident_code_point (l ++ back)) is
many_stops Commas many back is h = ap (λ l. begins_by is_ident_code_point (l ++ back)) is

-- ---- names

abbrev no_bracket : ℕ → Bool
no_bracket c = not (c == greater_than_sign)

abbrev no_line : ℕ → Bool
no_line c = not (c == vertical_line)

record IsPlain (name : List ℕ) : Type 0 where
  bracketless : list_all no_bracket name ≡ true
  lineless : list_all no_line name ≡ true
  kept : is_left_out name ≡ false

either_plain : (name word : List ℕ) (k kind : Kind) (o : Option Kind) → IsPlain word → (o ≡ Some kind → IsPlain name) → (if bytes_eq name word then Some k else o) ≡ Some kind → IsPlain name
either_plain name word k kind o plain further h = by (bytes_eq name word) refl h
  where
    by : (b : Bool) → bytes_eq name word ≡ b → (if b then Some k else o) ≡ Some kind → IsPlain name
    by true is h = subst IsPlain (sym ((bytes_eq-Decides name word).0 is)) plain
    by false is h = further h

named_plain : (name : List ℕ) (kind : Kind) → named name ≡ Some kind → IsPlain name
unfolding named is_left_out
named_plain name kind h =
    either_plain name (codes "length") Length kind _ (record { bracketless = refl; lineless = refl; kept = refl }) (
    either_plain name (codes "number") Number kind _ (record { bracketless = refl; lineless = refl; kept = refl }) (
    either_plain name (codes "percentage") Percentage kind _ (record { bracketless = refl; lineless = refl; kept = refl }) (
    either_plain name (codes "length-percentage") LengthPercentage kind _ (record { bracketless = refl; lineless = refl; kept = refl }) (
    either_plain name (codes "color") Color kind _ (record { bracketless = refl; lineless = refl; kept = refl }) (
    either_plain name (codes "url") Url kind _ (record { bracketless = refl; lineless = refl; kept = refl }) (
    either_plain name (codes "integer") Integer kind _ (record { bracketless = refl; lineless = refl; kept = refl }) (
    either_plain name (codes "angle") Angle kind _ (record { bracketless = refl; lineless = refl; kept = refl }) (
    either_plain name (codes "time") Time kind _ (record { bracketless = refl; lineless = refl; kept = refl }) (
    either_plain name (codes "resolution") Resolution kind _ (record { bracketless = refl; lineless = refl; kept = refl }) (
    either_plain name (codes "string") Str kind _ (record { bracketless = refl; lineless = refl; kept = refl }) (
    either_plain name (codes "custom-ident") CustomIdent kind None (record { bracketless = refl; lineless = refl; kept = refl }) (λ e. absurd (nothing e))))))))))))) h
  where
    nothing : None ≡ Some kind → ⊥
    nothing e = cc

-- ---- a component

body_of_name : (place : ℕ) (k : Kind) (text more : List ℕ) (c : Component) → IsName k text → ((p : ℕ) → many_at k p more ≡ Ok c) → begun place (text ++ more) ≡ Ok c
unfolding begun bracketed
body_of_name place k text more c n tail =
    let plain : IsPlain n.name = named_plain n.name k n.named_so in
    let whole : text ++ more ≡ less_than_sign ∷ (n.name ++ greater_than_sign ∷ more) =
    ap (λ l. l ++ more) n.whole ∙ ap (λ l. less_than_sign ∷ l) (append_assoc n.name (greater_than_sign ∷ []) more) in
    let size : name_length (n.name ++ greater_than_sign ∷ more) ≡ length n.name = run_is no_bracket n.name (greater_than_sign ∷ more) plain.bracketless refl in
    let long : length (n.name ++ greater_than_sign ∷ more) ≡ length n.name + suc (length more) = length-append n.name (greater_than_sign ∷ more) in
    let shorter : nat_lt (name_length (n.name ++ greater_than_sign ∷ more)) (length (n.name ++ greater_than_sign ∷ more)) ≡ true =
    ap₂ nat_lt size long ∙ below (length n.name) (length more) in
    let front : take (name_length (n.name ++ greater_than_sign ∷ more)) (n.name ++ greater_than_sign ∷ more) ≡ n.name =
    ap (λ m. take m (n.name ++ greater_than_sign ∷ more)) size ∙ take-append_seam n.name (greater_than_sign ∷ more) in
    let rest : drop (name_length (n.name ++ greater_than_sign ∷ more) + 1) (n.name ++ greater_than_sign ∷ more) ≡ more = drop_more (name_length (n.name ++ greater_than_sign ∷ more)) n.name greater_than_sign more size in
    let after : ℕ = place + name_length (n.name ++ greater_than_sign ∷ more) + 2 in
    ap (begun place) whole
    ∙ ap (λ b. if b then name_at place (take (name_length (n.name ++ greater_than_sign ∷ more)) (n.name ++ greater_than_sign ∷ more)) after (drop (name_length (n.name ++ greater_than_sign ∷ more) + 1) (n.name ++ greater_than_sign ∷ more)) else Err (BadName place)) shorter
    ∙ ap₂ (λ l m. name_at place l after m) front rest
    ∙ ap (λ b. if b then Err (Unsupported n.name) else kind_at place (named n.name) after more) plain.kept
    ∙ ap (λ o. kind_at place o after more) n.named_so
    ∙ tail after

no_empty : begins_ident [] ≡ false
unfolding begins_ident
no_empty = refl

starts : (w : ℕ) (ws : List ℕ) → list_all is_ident_code_point (w ∷ ws) ≡ true → is_ident_code_point w ≡ true
starts w ws h = (both (is_ident_code_point w) (list_all is_ident_code_point ws) h).0

body_of_ident : (place : ℕ) (text more : List ℕ) (c : Component) → IsIdent text → begins_by is_ident_code_point more ≡ false → ((p : ℕ) → many_at (Literal text) p more ≡ Ok c) → begun place (text ++ more) ≡ Ok c
unfolding begun worded
body_of_ident place [] more c i stops tail = absurd (contrary (begins_ident []) i.begins no_empty)
body_of_ident place (w ∷ ws) more c i stops tail =
    let no_less : (w == less_than_sign) ≡ false = other_code is_ident_code_point w less_than_sign (starts w ws i.goes_on) refl in
    let begins : begins_ident (w ∷ ws ++ more) ≡ true = begins_alike (w ∷ ws) more stops ∙ i.begins in
    let size : word_length (w ∷ ws ++ more) ≡ length (w ∷ ws) = run_is is_ident_code_point (w ∷ ws) more i.goes_on stops in
    let front : take (word_length (w ∷ ws ++ more)) (w ∷ ws ++ more) ≡ w ∷ ws = ap (λ m. take m (w ∷ ws ++ more)) size ∙ take-append_seam (w ∷ ws) more in
    let rest : drop (word_length (w ∷ ws ++ more)) (w ∷ ws ++ more) ≡ more = ap (λ m. drop m (w ∷ ws ++ more)) size ∙ drop-append_seam (w ∷ ws) more in
    let after : ℕ = place + word_length (w ∷ ws ++ more) in
    ap (λ b. if b then bracketed place (ws ++ more) else if begins_ident (w ∷ ws ++ more) then worded place (w ∷ ws ++ more) else Err (BadChar place)) no_less
    ∙ ap (λ b. if b then worded place (w ∷ ws ++ more) else Err (BadChar place)) begins
    ∙ ap₂ (λ l m. if is_forbidden l then Err (BadName place) else many_at (Literal l) after m) front rest
    ∙ ap (λ b. if b then Err (BadName place) else many_at (Literal (w ∷ ws)) after more) i.free
    ∙ tail after

-- the head of a component's text
record HasHead (text : List ℕ) : Type 0 where
  head : ℕ
  more : List ℕ
  whole : text ≡ head ∷ more
  no_white : is_ascii_whitespace head ≡ false
  no_star : (head == asterisk) ≡ false

kind_head : (k : Kind) (text : List ℕ) → IsKind k text → HasHead text
kind_head k text (inl n) = record { head = less_than_sign; more = n.name ++ greater_than_sign ∷ []; whole = n.whole; no_white = refl; no_star = refl }
kind_head k text (inr (is, i)) = by text i
  where
    by : (text : List ℕ) → IsIdent text → HasHead text
    by [] i = absurd (contrary (begins_ident []) i.begins no_empty)
    by (w ∷ ws) i =
        let ident : is_ident_code_point w ≡ true = starts w ws i.goes_on in
        record { head = w; more = ws; whole = refl; no_white = ident_no_white w ident; no_star = other_code is_ident_code_point w asterisk ident refl }

body_only : (place : ℕ) (c : Component) (kind more : List ℕ) → IsKind c.kind kind → begins_by is_ident_code_point more ≡ false → ((k : Kind) (p : ℕ) → many_at k p more ≡ Ok (record { kind = k; many = c.many })) →
    begun place (kind ++ more) ≡ Ok c
body_only place c kind more (inl n) stops tail = body_of_name place c.kind kind more c n (tail c.kind)
body_only place c kind more (inr (is, i)) stops tail =
    body_of_ident place kind more c i stops (λ p. tail (Literal kind) p ∙ ap (λ (k : Kind). Ok (record { kind = k; many = c.many })) (sym is))

white_ends : (kind more : List ℕ) → HasHead kind → begins_by is_ascii_whitespace (kind ++ more) ≡ false
white_ends kind more h = ap (λ l. begins_by is_ascii_whitespace (l ++ more)) h.whole ∙ h.no_white

component_only : (place : ℕ) (text : List ℕ) (c : Component) → IsComponent c text → component_at place text ≡ Ok c
unfolding component_at
component_only place text c h =
    let stops : begins_by is_ascii_whitespace (h.kind ++ (h.many ++ h.back)) ≡ false = white_ends h.kind (h.many ++ h.back) (kind_head c.kind h.kind h.is_kind) in
    let size : blank_length text ≡ length h.front = ap blank_length h.whole ∙ run_is is_ascii_whitespace h.front (h.kind ++ (h.many ++ h.back)) h.blank_front stops in
    let rest : drop (blank_length text) text ≡ h.kind ++ (h.many ++ h.back) = ap₂ drop size h.whole ∙ drop-append_seam h.front (h.kind ++ (h.many ++ h.back)) in
    ap (begun (place + blank_length text)) rest
    ∙ body_only (place + blank_length text) c h.kind (h.many ++ h.back) h.is_kind (many_stops c.many h.many h.back h.is_many h.blank_back) (λ k p. many_only k c.many h.many h.back p h.is_many h.blank_back)

-- ---- no line stands in a component

all_imply : (p q : ℕ → Bool) → ((x : ℕ) → p x ≡ true → q x ≡ true) → (xs : List ℕ) → list_all p xs ≡ true → list_all q xs ≡ true
all_imply p q imply [] h = refl
all_imply p q imply (x ∷ xs) h =
    let (here, there) = both (p x) (list_all p xs) h in
    ap₂ (λ a b. a && b) (imply x here) (all_imply p q imply xs there)

white_line : (x : ℕ) → is_ascii_whitespace x ≡ true → no_line x ≡ true
white_line x h = ap not (other_code is_ascii_whitespace x vertical_line h refl)

ident_line : (x : ℕ) → is_ident_code_point x ≡ true → no_line x ≡ true
ident_line x h = ap not (other_code is_ident_code_point x vertical_line h refl)

all_append : (p : ℕ → Bool) (xs ys : List ℕ) → list_all p xs ≡ true → list_all p ys ≡ true → list_all p (xs ++ ys) ≡ true
all_append p xs ys h k = list_all-append p xs ys ∙ ap₂ (λ a b. a && b) h k

kind_lineless : (k : Kind) (text : List ℕ) → IsKind k text → list_all no_line text ≡ true
kind_lineless k text (inl n) =
    let plain : IsPlain n.name = named_plain n.name k n.named_so in
    ap (list_all no_line) n.whole ∙ all_append no_line n.name (greater_than_sign ∷ []) plain.lineless refl
kind_lineless k text (inr (is, i)) = all_imply is_ident_code_point no_line ident_line text i.goes_on

many_lineless : (m : Many) (text : List ℕ) → IsMultiplier m text → list_all no_line text ≡ true
many_lineless One text is = ap (list_all no_line) is
many_lineless Spaces text is = ap (list_all no_line) is
many_lineless Commas text is = ap (list_all no_line) is

component_lineless : (c : Component) (text : List ℕ) → IsComponent c text → list_all no_line text ≡ true
component_lineless c text h =
    ap (list_all no_line) h.whole
    ∙ all_append no_line h.front (h.kind ++ (h.many ++ h.back)) (all_imply is_ascii_whitespace no_line white_line h.front h.blank_front)
    (
    all_append no_line h.kind (h.many ++ h.back) (kind_lineless c.kind h.kind h.is_kind)
    (all_append no_line h.many h.back (many_lineless c.many h.many h.is_many) (all_imply is_ascii_whitespace no_line white_line h.back h.blank_back))
    )

is_line : (b : Bool) → not b ≡ true → b ≡ false
is_line true h = cc
is_line false h = refl

parts_one : (text : List ℕ) → list_all no_line text ≡ true → parts text ≡ text ∷ []
parts_one [] h = refl
parts_one (c ∷ cs) h =
    let (here, there) = both (no_line c) (list_all no_line cs) h in
    ap (λ b. if b then [] ∷ parts cs else longer c (parts cs)) (is_line (c == vertical_line) here) ∙ ap (longer c) (parts_one cs there)

parts_more : (text rest : List ℕ) → list_all no_line text ≡ true → parts (text ++ vertical_line ∷ rest) ≡ text ∷ parts rest
parts_more [] rest h = refl
parts_more (c ∷ cs) rest h =
    let (here, there) = both (no_line c) (list_all no_line cs) h in
    ap (λ b. if b then [] ∷ parts (cs ++ vertical_line ∷ rest) else longer c (parts (cs ++ vertical_line ∷ rest))) (is_line (c == vertical_line) here)
    ∙ ap (longer c) (parts_more cs rest there)

components_only : (place : ℕ) (cs : List Component) (text : List ℕ) → AreComponents cs text → components_of place (parts text) ≡ Ok cs
components_only place [] text h = absurd h
components_only place (c ∷ []) text h =
    ap (components_of place) (parts_one text (component_lineless c text h))
    ∙ ap (λ r. before r (Ok [])) (component_only place text c h)
components_only place (c ∷ d ∷ cs) text (first, rest, whole, h, more) =
    ap (λ l. components_of place (parts l)) whole
    ∙ ap (components_of place) (parts_more first rest (component_lineless c first h))
    ∙ ap₂ before (component_only place first c h) (components_only (place + length first + 1) (d ∷ cs) rest more)

-- ---- the whole text

-- whitespace, and then a code point that is none
record Begins (text : List ℕ) : Type 0 where
  front : List ℕ
  head : ℕ
  more : List ℕ
  whole : text ≡ front ++ head ∷ more
  blank : IsBlank front
  no_white : is_ascii_whitespace head ≡ false

blank_size : (text : List ℕ) (b : Begins text) → blank_length text ≡ length b.front
blank_size text b = ap blank_length b.whole ∙ run_is is_ascii_whitespace b.front (b.head ∷ b.more) b.blank b.no_white

not_blank : (text : List ℕ) → Begins text → is_blank text ≡ false
not_blank text b =
    ap not
    (
    ap₂ nat_lt (blank_size text b) (ap length b.whole ∙ length-append b.front (b.head ∷ b.more)) ∙ below (length b.front) (length b.more)
    )

star_is : (text : List ℕ) (b : Begins text) → is_star text ≡ ((b.head == asterisk) && is_blank b.more)
star_is text b =
    let rest : drop (blank_length text) text ≡ b.head ∷ b.more = ap₂ drop (blank_size text b) b.whole ∙ drop-append_seam b.front (b.head ∷ b.more) in
    let further : drop (blank_length text + 1) text ≡ b.more = ap (drop (blank_length text + 1)) b.whole ∙ drop_more (blank_length text) b.front b.head b.more (blank_size text b) in
    ap₂ (λ l m. begins_with asterisk l && is_blank m) rest further

component_begins : (c : Component) (text rest : List ℕ) → IsComponent c text → (b : Begins (text ++ rest)) × ((b.head == asterisk) ≡ false)
component_begins c text rest h =
    let k : HasHead h.kind = kind_head c.kind h.kind h.is_kind in (
      record {
        front = h.front;
        head = k.head;
        more = (k.more ++ (h.many ++ h.back)) ++ rest;
        whole =
            ap (λ l. l ++ rest) (h.whole ∙ ap (λ l. h.front ++ (l ++ (h.many ++ h.back))) k.whole)
            ∙ append_assoc h.front (k.head ∷ (k.more ++ (h.many ++ h.back))) rest;
        blank = h.blank_front;
        no_white = k.no_white;
      },
      k.no_star,
    )

components_begin : (cs : List Component) (text : List ℕ) → AreComponents cs text → (b : Begins text) × ((b.head == asterisk) ≡ false)
components_begin [] text h = absurd h
components_begin (c ∷ []) text h = subst (λ l. (b : Begins l) × ((b.head == asterisk) ≡ false)) (append-nil text) (component_begins c text [] h)
components_begin (c ∷ d ∷ cs) text (first, rest, whole, h, more) = subst (λ l. (b : Begins l) × ((b.head == asterisk) ≡ false)) (sym whole) (component_begins c first (vertical_line ∷ rest) h)

pub only : (text : List ℕ) (s : Syntax) → IsSyntaxString s text → syntax text ≡ Ok s
unfolding syntax
only text Any h =
    let b : Begins text = record { front = h.front; head = asterisk; more = h.back; whole = h.whole; blank = h.blank_front; no_white = refl } in
    let star : is_star text ≡ true = star_is text b ∙ ap not (passes_whole is_ascii_whitespace h.back h.blank_back) in
    ap (λ t. if t then Err Empty else if is_star text then Ok Any else of_components (components_of 0 (parts text))) (not_blank text b)
    ∙ ap (λ t. if t then Ok Any else of_components (components_of 0 (parts text))) star
only text (Of cs) h =
    let (b, other) = components_begin cs text h in
    let star : is_star text ≡ false = star_is text b ∙ ap (λ t. t && is_blank b.more) other in
    ap (λ t. if t then Err Empty else if is_star text then Ok Any else of_components (components_of 0 (parts text))) (not_blank text b)
    ∙ ap (λ t. if t then Ok Any else of_components (components_of 0 (parts text))) star
    ∙ ap of_components (components_only 0 cs text h)
