-- A list is read as trees of one shape, whatever its numbers mean.
use Rattle.std.specs.Prelude.{List, [], ◌∷◌, ◌++◌, map, Option, Some, None}
use Rattle.std.proofs.Common.{◌≡◌, refl, sym, ◌∙◌, ap, ap₂, ℕ}
use Rattle.cv_spec_ratio.specs.Ratio.{Ratio}
use Rattle.cv_spec_text.specs.declared.token.Token.{Token}
use Rattle.cv_calc.specs.declared.unit.Unit.TheVariants as unit
use Rattle.cv_calc.specs.declared.calc.Calc.{Calc}
use Rattle.cv_calc.specs.declared.calc.Calc.TheVariants as tree
use Rattle.cv_calc.specs.Linear.{shape, sum_shape, product_shape, inverted_shape, added_shape}
use Rattle.cv_calc.proofs.Shapes.{shape-Num, shape-Sum, shape-Product, shape-Negate, shape-Invert, shape-Min, shape-Max, shape-Clamp}
use Rattle.cv_calcread.specs.Reading.{one_or, made, read}
use Rattle.cv_calcread.specs.Grammar.{ReadsValue, literal, percent, measure, brackets, function, ReadsFactors, factor, times, over, ReadsTerms, term, added, taken, ReadsArguments, argument, further}
use Rattle.cv_calcread.specs.declared.level.Opened.{Opened}
use Rattle.cv_calcread.specs.declared.level.Opened.TheVariants as opening
use Rattle.cv_calcread.proofs.Whole.{grammar_is_read}

map_last : (cs : List Calc) (c : Calc) → map shape (cs ++ c ∷ []) ≡ map shape cs ++ shape c ∷ []
map_last [] c = refl
map_last (d ∷ cs) c = ap (λ ss. shape d ∷ ss) (map_last cs c)

last_alike : (cs ds : List Calc) (c d : Calc) → map shape cs ≡ map shape ds → shape c ≡ shape d → map shape (cs ++ c ∷ []) ≡ map shape (ds ++ d ∷ [])
last_alike cs ds c d e f = map_last cs c ∙ ap₂ (λ ss s. ss ++ s ∷ []) e f ∙ sym (map_last ds d)

one_alike : {S : Type 0} (look : Calc → S) (make : List Calc → Calc) (node : List S → S) → ((es : List Calc) → look (make es) ≡ node (map look es)) → (cs ds : List Calc) → map look cs ≡ map look ds → look (one_or make cs) ≡ look (one_or make ds)
one_alike look make node is [] [] e = refl
one_alike look make node is [] (d ∷ ds) e = cc
one_alike look make node is (c ∷ cs) [] e = cc
one_alike look make node is (c ∷ []) (d ∷ []) e = cc
one_alike look make node is (c ∷ []) (d ∷ b ∷ ds) e = cc
one_alike look make node is (c ∷ a ∷ cs) (d ∷ []) e = cc
one_alike look make node is (c ∷ a ∷ cs) (d ∷ b ∷ ds) e = is (c ∷ a ∷ cs) ∙ ap node e ∙ sym (is (d ∷ b ∷ ds))

record Made (opened : Opened) (ds : List Calc) (c : Calc) : Type 0 where
  tree : Calc
  gives : made opened ds ≡ Some tree
  same : shape c ≡ shape tree

single_alike : (opened : Opened) (c v d : Calc) (ds : List Calc) → Some v ≡ Some c → made opened (d ∷ []) ≡ Some d → shape v ∷ [] ≡ map shape (d ∷ []) → Made opened (d ∷ []) c
single_alike opened c v d ds h m e = record { tree = d; gives = m; same = cc }

made_alike : (opened : Opened) (cs ds : List Calc) (c : Calc) → map shape cs ≡ map shape ds → made opened cs ≡ Some c → Made opened ds c
made_alike opening.Min cs ds c e h = record { tree = tree.Min ds; gives = refl; same = ap shape (sym (inside h)) ∙ shape-Min cs ∙ ap sum_shape e ∙ sym (shape-Min ds) }
  where
    inside : Some (tree.Min cs) ≡ Some c → tree.Min cs ≡ c
    inside h = cc
made_alike opening.Max cs ds c e h = record { tree = tree.Max ds; gives = refl; same = ap shape (sym (inside h)) ∙ shape-Max cs ∙ ap sum_shape e ∙ sym (shape-Max ds) }
  where
    inside : Some (tree.Max cs) ≡ Some c → tree.Max cs ≡ c
    inside h = cc
made_alike opening.Round [] ds c e h = absurd (nothing h)
  where
    nothing : ◌≡◌ {A = Option Calc} None (Some c) → ⊥
    nothing h = cc
made_alike opening.Round (v ∷ []) [] c e h = absurd (nothing e)
  where
    nothing : (shape v ∷ []) ≡ [] → ⊥
    nothing e = cc
made_alike opening.Round (v ∷ []) (d ∷ []) c e h = single_alike opening.Round c v d [] h refl e
made_alike opening.Round (v ∷ []) (d ∷ b ∷ ds) c e h = absurd (nothing e)
  where
    nothing : (shape v ∷ []) ≡ (shape d ∷ shape b ∷ map shape ds) → ⊥
    nothing e = cc
made_alike opening.Round (v ∷ w ∷ cs) ds c e h = absurd (nothing h)
  where
    nothing : ◌≡◌ {A = Option Calc} None (Some c) → ⊥
    nothing h = cc
made_alike opening.Calc [] ds c e h = absurd (nothing h)
  where
    nothing : ◌≡◌ {A = Option Calc} None (Some c) → ⊥
    nothing h = cc
made_alike opening.Calc (v ∷ []) [] c e h = absurd (nothing e)
  where
    nothing : (shape v ∷ []) ≡ [] → ⊥
    nothing e = cc
made_alike opening.Calc (v ∷ []) (d ∷ []) c e h = single_alike opening.Calc c v d [] h refl e
made_alike opening.Calc (v ∷ []) (d ∷ b ∷ ds) c e h = absurd (nothing e)
  where
    nothing : (shape v ∷ []) ≡ (shape d ∷ shape b ∷ map shape ds) → ⊥
    nothing e = cc
made_alike opening.Calc (v ∷ w ∷ cs) ds c e h = absurd (nothing h)
  where
    nothing : ◌≡◌ {A = Option Calc} None (Some c) → ⊥
    nothing h = cc
made_alike opening.Clamp cs ds c e h = clamp_alike cs ds c e h
  where
    none_some : {c : Calc} → ◌≡◌ {A = Option Calc} None (Some c) → ⊥
    none_some h = cc

    clamp_alike : (cs ds : List Calc) (c : Calc) → map shape cs ≡ map shape ds → made opening.Clamp cs ≡ Some c → Made opening.Clamp ds c
    clamp_alike [] ds c e h = absurd (none_some h)
    clamp_alike (u ∷ []) ds c e h = absurd (none_some h)
    clamp_alike (u ∷ v ∷ []) ds c e h = absurd (none_some h)
    clamp_alike (u ∷ v ∷ w ∷ x ∷ cs) ds c e h = absurd (none_some h)
    clamp_alike (u ∷ v ∷ w ∷ []) [] c e h = absurd (short e)
      where
        short : (shape u ∷ shape v ∷ shape w ∷ []) ≡ [] → ⊥
        short e = cc
    clamp_alike (u ∷ v ∷ w ∷ []) (p ∷ []) c e h = absurd (short e)
      where
        short : (shape u ∷ shape v ∷ shape w ∷ []) ≡ (shape p ∷ []) → ⊥
        short e = cc
    clamp_alike (u ∷ v ∷ w ∷ []) (p ∷ q ∷ []) c e h = absurd (short e)
      where
        short : (shape u ∷ shape v ∷ shape w ∷ []) ≡ (shape p ∷ shape q ∷ []) → ⊥
        short e = cc
    clamp_alike (u ∷ v ∷ w ∷ []) (p ∷ q ∷ r ∷ x ∷ ds) c e h = absurd (long e)
      where
        long : (shape u ∷ shape v ∷ shape w ∷ []) ≡ (shape p ∷ shape q ∷ shape r ∷ shape x ∷ map shape ds) → ⊥
        long e = cc
    clamp_alike (u ∷ v ∷ w ∷ []) (p ∷ q ∷ r ∷ []) c e h = record {
      tree = tree.Clamp p q r;
      gives = refl;
      same = ap shape (sym (inside h)) ∙ shape-Clamp u v w ∙ three e ∙ sym (shape-Clamp p q r);
    }
      where
        inside : Some (tree.Clamp u v w) ≡ Some c → tree.Clamp u v w ≡ c
        inside h = cc

        three : (shape u ∷ shape v ∷ shape w ∷ []) ≡ (shape p ∷ shape q ∷ shape r ∷ []) → added_shape (added_shape (shape u) (shape v)) (shape w) ≡ added_shape (added_shape (shape p) (shape q)) (shape r)
        three e = cc

module _ (f g : List ℕ → Ratio) where
  record Value (ts rest : List Token) (c : Calc) : Type 0 where
    tree : Calc
    reads : ReadsValue g ts rest tree
    same : shape c ≡ shape tree

  record Factors (ts rest : List Token) (cs : List Calc) : Type 0 where
    trees : List Calc
    reads : ReadsFactors g ts rest trees
    same : map shape cs ≡ map shape trees

  record Terms (ts rest : List Token) (cs : List Calc) : Type 0 where
    trees : List Calc
    reads : ReadsTerms g ts rest trees
    same : map shape cs ≡ map shape trees

  record Arguments (opened : Opened) (ts rest : List Token) (cs : List Calc) : Type 0 where
    trees : List Calc
    reads : ReadsArguments g opened ts rest trees
    same : map shape cs ≡ map shape trees

  single : (c d : Calc) → shape c ≡ shape d → map shape (c ∷ []) ≡ map shape (d ∷ [])
  single c d e = ap (λ s. s ∷ []) e

  inverted : (c d : Calc) → shape c ≡ shape d → shape (tree.Invert c) ≡ shape (tree.Invert d)
  inverted c d e = shape-Invert c ∙ ap inverted_shape e ∙ sym (shape-Invert d)

  negated : (c d : Calc) → shape c ≡ shape d → shape (tree.Negate c) ≡ shape (tree.Negate d)
  negated c d e = shape-Negate c ∙ e ∙ sym (shape-Negate d)

  product : (cs ds : List Calc) → map shape cs ≡ map shape ds → shape (one_or tree.Product cs) ≡ shape (one_or tree.Product ds)
  product cs ds e = one_alike shape tree.Product product_shape shape-Product cs ds e

  sum : (cs ds : List Calc) → map shape cs ≡ map shape ds → shape (one_or tree.Sum cs) ≡ shape (one_or tree.Sum ds)
  sum cs ds e = one_alike shape tree.Sum sum_shape shape-Sum cs ds e

  mutual
    value_alike : {ts rest : List Token} {c : Calc} → ReadsValue f ts rest c → Value ts rest c
    value_alike (literal n) = record { tree = tree.Num (g n) unit.Number; reads = literal n; same = shape-Num (f n) unit.Number ∙ sym (shape-Num (g n) unit.Number) }
    value_alike (percent n) = record { tree = tree.Num (g n) unit.Percent; reads = percent n; same = shape-Num (f n) unit.Percent ∙ sym (shape-Num (g n) unit.Percent) }
    value_alike (measure n name u h) = record { tree = tree.Num (g n) u; reads = measure n name u h; same = shape-Num (f n) u ∙ sym (shape-Num (g n) u) }
    value_alike (brackets {cs = cs} {c = c} r h) =
        let a = arguments_alike r in
        let m = made_alike opening.Round cs a.trees c a.same h in
        record { tree = m.tree; reads = brackets a.reads m.gives; same = m.same }
    value_alike (function name opened {cs = cs} {c = c} e r h) =
        let a = arguments_alike r in
        let m = made_alike opened cs a.trees c a.same h in
        record { tree = m.tree; reads = function name opened e a.reads m.gives; same = m.same }

    factors_alike : {ts rest : List Token} {cs : List Calc} → ReadsFactors f ts rest cs → Factors ts rest cs
    factors_alike (factor {c = c} k v) = let w = value_alike v in record { trees = w.tree ∷ []; reads = factor k w.reads; same = single c w.tree w.same }
    factors_alike (times {cs = cs} {c = c} r k j v) =
        let q = factors_alike r in
        let w = value_alike v in
        record { trees = q.trees ++ w.tree ∷ []; reads = times q.reads k j w.reads; same = last_alike cs q.trees c w.tree q.same w.same }
    factors_alike (over {cs = cs} {c = c} r k j v) =
        let q = factors_alike r in
        let w = value_alike v in
        record { trees = q.trees ++ tree.Invert w.tree ∷ []; reads = over q.reads k j w.reads; same = last_alike cs q.trees (tree.Invert c) (tree.Invert w.tree) q.same (inverted c w.tree w.same) }

    terms_alike : {ts rest : List Token} {cs : List Calc} → ReadsTerms f ts rest cs → Terms ts rest cs
    terms_alike (term {cs = cs} r) =
        let q = factors_alike r in
        record { trees = one_or tree.Product q.trees ∷ []; reads = term q.reads; same = single (one_or tree.Product cs) (one_or tree.Product q.trees) (product cs q.trees q.same) }
    terms_alike (added {ds = ds} {cs = cs} r k v) =
        let p = terms_alike r in
        let q = factors_alike v in
        record { trees = p.trees ++ one_or tree.Product q.trees ∷ []; reads = added p.reads k q.reads; same = last_alike ds p.trees (one_or tree.Product cs) (one_or tree.Product q.trees) p.same (product cs q.trees q.same) }
    terms_alike (taken {ds = ds} {cs = cs} r k v) =
        let p = terms_alike r in
        let q = factors_alike v in
        record {
          trees = p.trees ++ tree.Negate (one_or tree.Product q.trees) ∷ [];
          reads = taken p.reads k q.reads;
          same = last_alike ds p.trees (tree.Negate (one_or tree.Product cs)) (tree.Negate (one_or tree.Product q.trees)) p.same (negated (one_or tree.Product cs) (one_or tree.Product q.trees) (product cs q.trees q.same));
        }

    arguments_alike : {opened : Opened} {ts rest : List Token} {cs : List Calc} → ReadsArguments f opened ts rest cs → Arguments opened ts rest cs
    arguments_alike (argument {cs = cs} r k) =
        let p = terms_alike r in
        record { trees = one_or tree.Sum p.trees ∷ []; reads = argument p.reads k; same = single (one_or tree.Sum cs) (one_or tree.Sum p.trees) (sum cs p.trees p.same) }
    arguments_alike (further {ds = ds} {cs = cs} b r v k) =
        let a = arguments_alike r in
        let p = terms_alike v in
        record { trees = a.trees ++ one_or tree.Sum p.trees ∷ []; reads = further b a.reads p.reads k; same = last_alike ds a.trees (one_or tree.Sum cs) (one_or tree.Sum p.trees) a.same (sum cs p.trees p.same) }

  pub record Read (ts : List Token) (c : Calc) : Type 0 where
    pub tree : Calc
    pub reads : read g ts ≡ Some tree
    pub same : shape c ≡ shape tree

  pub read_alike : (ts : List Token) (c : Calc) → read f ts ≡ Some c → Read ts c
  read_alike ts c e =
      let (begun, (n, r)) = grammar_is_read.only f ts c e in
      let v = value_alike r in
      record { tree = v.tree; reads = grammar_is_read.reads g ts v.tree (begun, (n, v.reads)); same = v.same }
