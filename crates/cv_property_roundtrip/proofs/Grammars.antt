-- What a grammar gives reads back by it.
use Rattle.std.proofs.Common.{◌≡◌, true, List, [], ◌∷◌, refl, ap, sym, subst, ◌∙◌}
use Rattle.std.specs.List.{list_all}
use Rattle.cv_frac.specs.Bounded.{in_bounds}
use Rattle.cv_spec_text.specs.declared.token.Token.{Token}
use Rattle.cv_calc.specs.declared.unit.Unit.TheVariants as units
use Rattle.cv_calc.specs.declared.context.Basis.TheVariants as basis
use Rattle.cv_calc.specs.declared.context.Context.{Context}
use Rattle.cv_numeric.specs.declared.matched.Matched.{Matched}
use Rattle.cv_numeric.specs.declared.matched.Matched.TheVariants.{No, Out, Fit}
use Rattle.cv_numeric.specs.declared.quantity.Quantity.TheVariants as quantity
use Rattle.cv_numeric.specs.declared.quantity.Range.{Range}
use Rattle.cv_numeric.specs.declared.quantity.Range.TheVariants.{All}
use Rattle.cv_numeric.specs.Matched.{mapped, or_else, IfFit}
use Rattle.cv_numeric.specs.Numeric as numeric
use Rattle.cv_numeric.specs.Numeric.{with_basis, value_of}
use Rattle.cv_value.specs.declared.typed.Item.{Item}
use Rattle.cv_value.specs.declared.typed.Item.TheVariants as item_of
use Rattle.cv_value.specs.Text.{item_text}
use Rattle.cv_value_roundtrip.specs.ReadsBack.{SameItem}
use Rattle.cv_property.specs.declared.grammar.Keyword.{Keyword as Word}
use Rattle.cv_property.specs.declared.grammar.Alternative.{Alternative}
use Rattle.cv_property.specs.declared.grammar.Alternative.TheVariants.{Keyword, Number, Portion}
use Rattle.cv_property.specs.Grammar.{alternative, by_grammar}
use Rattle.cv_property_roundtrip.proofs.Premises.{Laws}
use Rattle.cv_property_roundtrip.proofs.Skipping.{Skips, is_other, grammar_skipped}
use Rattle.cv_property_roundtrip.proofs.Backs.{Backs, IsPx, keyword_back, number_back, portion_back, counted_is}

-- the item's text is an equal item by the grammar
pub record GrammarBacks (y : Context) (all : List Alternative) (i : Item) : Type 0 where
  pub back : Item
  pub read : by_grammar all y (item_text i) ≡ Fit back
  pub same : SameItem i back

or_none : {A : Type 0} (m : Matched A) → or_else m No ≡ m
or_none No = refl
or_none Out = refl
or_none (Fit a) = refl

module _ (laws : Laws) (x y : Context) (ts : List Token) where
  abbrev pub Gives : Alternative → Type 0
  Gives a = (i : Item) → alternative x ts a ≡ Fit i → Backs y a i

  -- what an alternative gives reads back by it, and what the further ones give it skips
  abbrev pub Good : List Alternative → Type 0
  Good [] = Unit {0}
  Good (a ∷ all) = Gives a × ((i : Item) → by_grammar all x ts ≡ Fit i → alternative y (item_text i) a ≡ No) × Good all

  pub good_back : (all : List Alternative) → Good all → (i : Item) → by_grammar all x ts ≡ Fit i → GrammarBacks y all i
  good_back [] good i e = absurd cc
  good_back (a ∷ all) (gives, skips, good) i e = by (good_back all good) (alternative x ts a) refl e
    where
      by : ((j : Item) → by_grammar all x ts ≡ Fit j → GrammarBacks y all j) → (m : Matched Item) → alternative x ts a ≡ m → or_else m (by_grammar all x ts) ≡ Fit i → GrammarBacks y (a ∷ all) i
      by further (Fit j) is e =
          let back : Backs y a i = gives i (is ∙ e) in
          record { back = back.back; read = ap (λ m. or_else m (by_grammar all y (item_text i))) back.read; same = back.same }
      by further Out is e = absurd cc
      by further No is e =
          let back : GrammarBacks y all i = further i e in
          record { back = back.back; read = ap (λ m. or_else m (by_grammar all y (item_text i))) (skips i e) ∙ back.read; same = back.same }

  pub good_one : (a : Alternative) → Gives a → Good (a ∷ [])
  good_one a gives = (gives, (λ i e. absurd (nothing i e)), tt)
    where
      nothing : (i : Item) → No ≡ Fit i → ⊥
      nothing i e = cc

  fits : (Q : Item → Type 0) (m : Matched Item) (i : Item) → m ≡ Fit i → IfFit Q m → Q i
  fits Q m i e h = subst (IfFit Q) e h

  pub good_word : (k : Word) (all : List Alternative) → list_all (is_other k) all ≡ true → Good all → Good (Keyword k ∷ all)
  good_word k all others good = (keyword_back x y k ts, (λ i e. fits (Skips k) (by_grammar all x ts) i e (grammar_skipped laws.free k x ts all others)), good)

  -- a number skips a length, and a percentage
  number_skips : (r : Range) (i : Item) → IsPx i → alternative y (item_text i) (Number r) ≡ No
  number_skips r i px =
      ap (λ (j : Item). alternative y (item_text j) (Number r)) px.is
      ∙ ap (λ m. mapped item_of.Number (mapped value_of m)) (laws.read.other quantity.Number r (with_basis basis.Plain y) px.size units.Px px.small refl refl)

  pub good_number : (r : Range) (a : Alternative) → ((i : Item) → alternative x ts a ≡ Fit i → IsPx i) → Gives a → Good (Number r ∷ a ∷ [])
  good_number r a px gives = ((λ i. number_back laws x y ts i r), (λ i e. number_skips r i (px i (sym (or_none (alternative x ts a)) ∙ e))), good_one a gives)

  pub good_portion : Good (Number All ∷ Portion ∷ [])
  good_portion = ((λ i. number_back laws x y ts i All), skips, good_one Portion (portion_back laws x y ts))
    where
      skips : (i : Item) → by_grammar (Portion ∷ []) x ts ≡ Fit i → alternative y (item_text i) (Number All) ≡ No
      skips i e =
          let (v, is, small, same) = counted_is (numeric.percentage x ts) i (sym (or_none (alternative x ts Portion)) ∙ e) in
          let bounded : in_bounds v ≡ true = (laws.kept.percentage x y ts v is).0 in
          ap (λ (j : Item). alternative y (item_text j) (Number All)) (sym same)
          ∙ ap (λ m. mapped item_of.Number (mapped value_of m)) (laws.read.other quantity.Number All (with_basis basis.Plain y) v units.Percent bounded refl refl)
