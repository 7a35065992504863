-- The text of each kind of segment, calculation and object.
use Rattle.std.specs.Prelude.{ℕ, List, [], ◌∷◌, ◌++◌, map, codes, Some, None}
use Rattle.std.proofs.Common.{◌≡◌, sym, ◌∙◌, ap, append_assoc, append-nil}
use Rattle.cv_spec_text.specs.declared.token.Token.{Token}
use Rattle.cv_spec_ratio.specs.Ratio.{Ratio}
use Rattle.cv_calc.specs.declared.unit.Unit as units
use Rattle.cv_calc.specs.declared.calc.Calc.{Calc}
use Rattle.cv_calc.specs.declared.calc.Calc.TheVariants.{Num, Sum, Product, Negate, Invert, Min, Max, Clamp}
use Rattle.cv_calc.specs.Tree.{fold-Num, fold-Sum, fold-Product, fold-Negate, fold-Invert, fold-Min, fold-Max, fold-Clamp}
use Rattle.cv_var.specs.declared.segment.Segment.{Segment}
use Rattle.cv_var.specs.declared.segment.Segment.TheVariants.{Text, Ref, rolls-Text, rolls-Ref}
use Rattle.cv_var.specs.declared.segment.Segment.TheOpen as segments
use Rattle.cv_var.specs.declared.segment.Segment.TheFolds.{fold-Segment, fold-roll-Segment}
use Rattle.cv_reify.specs.declared.style.Style.{Style}
use Rattle.cv_reify.specs.declared.style.Style.TheVariants as style
use Rattle.cv_reify.specs.declared.style.Style.TheOpen as layer
use Rattle.cv_reify.specs.declared.style.Style.TheFolds.{fold-Style, fold-roll-Style}
use Rattle.cv_reify.specs.Text.{joined, call, string_text, name_text, unparsed, segment_step, segment_text, unit_call, tree_step, tree_text, style_step, style_text}

pub segment-Text : (ts : List Token) → segment_text (Text ts) ≡ string_text ts
unfolding segment_text
segment-Text ts = ap (fold-Segment (List ℕ) segment_step) (sym (rolls-Text ts)) ∙ fold-roll-Segment (List ℕ) segment_step (segments.Text ts)

fold-Ref : (A : Type 0) (step : segments.Segment-F A → A) (name : List ℕ) → fold-Segment A step (Ref name None) ≡ step (segments.Ref name None)
fold-Ref A step name = ap (fold-Segment A step) (sym (rolls-Ref name None)) ∙ fold-roll-Segment A step (segments.Ref name None)

fold-Ref-fallback : (A : Type 0) (step : segments.Segment-F A → A) (name : List ℕ) (ss : List Segment) → fold-Segment A step (Ref name (Some ss)) ≡ step (segments.Ref name (Some (map (fold-Segment A step) ss)))
fold-Ref-fallback A step name ss = ap (fold-Segment A step) (sym (rolls-Ref name (Some ss))) ∙ fold-roll-Segment A step (segments.Ref name (Some ss))

named_call : (name : List ℕ) → call (codes "var") (name ++ []) ≡ codes "var(" ++ name ++ codes ")"
named_call name = ap (λ x. codes "var(" ++ x ++ codes ")") (append-nil name)

named_call-or : (name fallback : List ℕ) → call (codes "var") (name ++ (codes ", " ++ fallback)) ≡ codes "var(" ++ name ++ codes ", " ++ fallback ++ codes ")"
named_call-or name fallback =
    ap (λ x. x ++ codes ")") (sym (append_assoc (codes "var(") name (codes ", " ++ fallback)) ∙ sym (append_assoc (codes "var(" ++ name) (codes ", ") fallback))

pub segment-Ref : (name : List ℕ) → segment_text (Ref name None) ≡ codes "var(" ++ name_text name ++ codes ")"
unfolding segment_text
segment-Ref name = fold-Ref (List ℕ) segment_step name ∙ named_call (name_text name)

pub segment-Ref-fallback : (name : List ℕ) (ss : List Segment) → segment_text (Ref name (Some ss)) ≡ codes "var(" ++ name_text name ++ codes ", " ++ unparsed (map segment_text ss) ++ codes ")"
unfolding segment_text
segment-Ref-fallback name ss = fold-Ref-fallback (List ℕ) segment_step name ss ∙ named_call-or (name_text name) (unparsed (map segment_text ss))

pub ruleset segment_equations = (segment-Text, segment-Ref, segment-Ref-fallback)

pub tree-Num : (v : Ratio) (u : units.Unit) → tree_text (Num v u) ≡ unit_call v u
unfolding tree_text
tree-Num v u = fold-Num tree_step v u

pub tree-Sum : (cs : List Calc) → tree_text (Sum cs) ≡ call (codes "sum") (joined (map tree_text cs))
unfolding tree_text
tree-Sum cs = fold-Sum tree_step cs

pub tree-Product : (cs : List Calc) → tree_text (Product cs) ≡ call (codes "product") (joined (map tree_text cs))
unfolding tree_text
tree-Product cs = fold-Product tree_step cs

pub tree-Negate : (c : Calc) → tree_text (Negate c) ≡ call (codes "negate") (tree_text c)
unfolding tree_text
tree-Negate c = fold-Negate tree_step c

pub tree-Invert : (c : Calc) → tree_text (Invert c) ≡ call (codes "invert") (tree_text c)
unfolding tree_text
tree-Invert c = fold-Invert tree_step c

pub tree-Min : (cs : List Calc) → tree_text (Min cs) ≡ call (codes "min") (joined (map tree_text cs))
unfolding tree_text
tree-Min cs = fold-Min tree_step cs

pub tree-Max : (cs : List Calc) → tree_text (Max cs) ≡ call (codes "max") (joined (map tree_text cs))
unfolding tree_text
tree-Max cs = fold-Max tree_step cs

-- the children of a number within limits, each behind what stands before it
within_limits : (l m h : List ℕ) → call (codes "clamp") (joined (l ∷ m ∷ h ∷ [])) ≡ codes "clamp(" ++ l ++ (codes ", " ++ m) ++ (codes ", " ++ h) ++ codes ")"
within_limits l m h =
    ap (λ x. codes "clamp(" ++ (l ++ ((codes ", " ++ m) ++ x)) ++ codes ")") (append-nil (codes ", " ++ h))
    ∙ ap (λ x. x ++ codes ")") (sym (append_assoc (codes "clamp(") l ((codes ", " ++ m) ++ (codes ", " ++ h))) ∙ sym (append_assoc (codes "clamp(" ++ l) (codes ", " ++ m) (codes ", " ++ h)))

pub tree-Clamp : (l m h : Calc) → tree_text (Clamp l m h) ≡ codes "clamp(" ++ tree_text l ++ (codes ", " ++ tree_text m) ++ (codes ", " ++ tree_text h) ++ codes ")"
unfolding tree_text
tree-Clamp l m h = fold-Clamp tree_step l m h ∙ within_limits (tree_text l) (tree_text m) (tree_text h)

pub clamp_is : (l m h low middle high : Calc) → low ≡ l → middle ≡ m → high ≡ h
    → tree_text (Clamp l m h) ≡ codes "clamp(" ++ tree_text low ++ (codes ", " ++ tree_text middle) ++ (codes ", " ++ tree_text high) ++ codes ")"
clamp_is l m h low middle high low_is middle_is high_is = rw (low_is, middle_is, high_is) (tree-Clamp l m h)

pub ruleset tree_equations = (tree-Num, tree-Sum, tree-Product, tree-Negate, tree-Invert, tree-Min, tree-Max, tree-Clamp)

pub style-Unparsed : (ss : List Segment) → style_text (style.Unparsed ss) ≡ unparsed (map segment_text ss)
unfolding style_text
style-Unparsed ss = ap (fold-Style (List ℕ) style_step) (sym (style.rolls-Unparsed ss)) ∙ fold-roll-Style (List ℕ) style_step (layer.Unparsed ss)

pub style-Keyword : (name : List ℕ) → style_text (style.Keyword name) ≡ call (codes "keyword") (name_text name)
unfolding style_text
style-Keyword name = ap (fold-Style (List ℕ) style_step) (sym (style.rolls-Keyword name)) ∙ fold-roll-Style (List ℕ) style_step (layer.Keyword name)

pub style-Unit : (v : Ratio) (u : units.Unit) → style_text (style.Unit v u) ≡ unit_call v u
unfolding style_text
style-Unit v u = ap (fold-Style (List ℕ) style_step) (sym (style.rolls-Unit v u)) ∙ fold-roll-Style (List ℕ) style_step (layer.Unit v u)

pub style-Math : (c : Calc) → style_text (style.Math c) ≡ tree_text c
unfolding style_text
style-Math c = ap (fold-Style (List ℕ) style_step) (sym (style.rolls-Math c)) ∙ fold-roll-Style (List ℕ) style_step (layer.Math c)

pub style-Opaque : (ts : List Token) → style_text (style.Opaque ts) ≡ call (codes "opaque") (string_text ts)
unfolding style_text
style-Opaque ts = ap (fold-Style (List ℕ) style_step) (sym (style.rolls-Opaque ts)) ∙ fold-roll-Style (List ℕ) style_step (layer.Opaque ts)

pub style-List : (ss : List Style) → style_text (style.List ss) ≡ codes "list[" ++ joined (map style_text ss) ++ codes "]"
unfolding style_text
style-List ss = ap (fold-Style (List ℕ) style_step) (sym (style.rolls-List ss)) ∙ fold-roll-Style (List ℕ) style_step (layer.List ss)

pub ruleset style_equations = (style-Unparsed, style-Keyword, style-Unit, style-Math, style-Opaque, style-List)

-- ---- pieces that are added one after another

pub two : {A : Type 0} (old o1 o2 a b w : List A) → o1 ≡ old ++ a → o2 ≡ o1 ++ b → w ≡ a ++ b → o2 ≡ old ++ w
two old o1 o2 a b w e f is = f ∙ ap (λ x. x ++ b) e ∙ append_assoc old a b ∙ ap (λ x. old ++ x) (sym is)

pub four : {A : Type 0} (old o1 o2 o3 o4 a b c d w : List A) → o1 ≡ old ++ a → o2 ≡ o1 ++ b → o3 ≡ o2 ++ c → o4 ≡ o3 ++ d → w ≡ a ++ b ++ c ++ d → o4 ≡ old ++ w
four old o1 o2 o3 o4 a b c d w e f g h is =
    h ∙ ap (λ x. x ++ d) (g ∙ ap (λ x. x ++ c) (f ∙ ap (λ x. x ++ b) e ∙ append_assoc old a b) ∙ append_assoc old (a ++ b) c) ∙ append_assoc old (a ++ b ++ c) d ∙ ap (λ x. old ++ x) (sym is)
