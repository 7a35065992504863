-- What an alternative gives reads back by it.
use Rattle.std.proofs.Common.{◌≡◌, ℕ, ℤ, pos, ◌<◌, ◌^◌, Bool, true, false, List, [], ◌∷◌, refl, ap, sym, subst, ◌∙◌, arith}
use Rattle.std.specs.Prelude.{int_lt, unsigned_abs, if◌then◌else◌, encode_utf8_all}
use Rattle.std.specs.Fmt.{signed_decimal}
use Rattle.cv_spec_ratio.specs.Ratio.{Ratio}
use Rattle.cv_frac.specs.Bounded.{in_bounds}
use Rattle.cv_spec_text.specs.Characters.{hyphen, begins_with}
use Rattle.cv_spec_text.specs.Keywords.{is_word}
use Rattle.cv_spec_text.specs.declared.token.Token.{Token}
use Rattle.cv_spec_text.specs.declared.token.Token.TheVariants as token
use Rattle.cv_calc.specs.declared.unit.Unit.TheVariants as units
use Rattle.cv_calc.specs.declared.context.Basis.TheVariants as basis
use Rattle.cv_calc.specs.declared.context.Context.{Context}
use Rattle.cv_calc.specs.declared.calc.Calc.TheVariants as tree
use Rattle.cv_calc.specs.Tree.{out-Num}
use Rattle.cv_simplify.specs.Text.{number_alone}
use Rattle.cv_numeric.specs.declared.matched.Matched.{Matched}
use Rattle.cv_numeric.specs.declared.matched.Matched.TheVariants.{No, Out, Fit}
use Rattle.cv_numeric.specs.declared.quantity.Range.{Range}
use Rattle.cv_numeric.specs.declared.quantity.Range.TheVariants.{NotNegative}
use Rattle.cv_numeric.specs.Matched.{mapped}
use Rattle.cv_numeric.specs.Numeric as numeric
use Rattle.cv_numeric.specs.Numeric.{with_basis}
use Rattle.cv_colorread.specs.Channels.{hundredths}
use Rattle.cv_syntax.specs.declared.syntax.Kind.{Kind}
use Rattle.cv_syntax.specs.declared.syntax.Kind.TheVariants as kinds
use Rattle.cv_value.specs.declared.typed.Item.{Item}
use Rattle.cv_value.specs.declared.typed.Item.TheVariants as item_of
use Rattle.cv_value.specs.Items.{mixed_as, mixed_item, item}
use Rattle.cv_value.specs.Text.{item_text}
use Rattle.cv_value_laws.specs.Sizes.{IsNotNegative}
use Rattle.cv_value_roundtrip.specs.ReadsBack.{SameItem, itself, ReadsBack, SizeReadsBack}
use Rattle.cv_property.specs.declared.grammar.Keyword.{Keyword as Word}
use Rattle.cv_property.specs.declared.grammar.Keyword.TheVariants.{Medium, Normal, Visible, Hidden, Collapse, Inline, Block, InlineBlock, Flex, Grid, Contents, None, Auto}
use Rattle.cv_property.specs.declared.grammar.Alternative.{Alternative}
use Rattle.cv_property.specs.declared.grammar.Alternative.TheVariants.{Keyword, Number, Portion, Integer, PositiveInteger, Length, LengthPercentage, Color}
use Rattle.cv_property.specs.Keywords.{keyword_text}
use Rattle.cv_property.specs.Grammar.{keyword_of, counted_portion, at_least_one, from_one, positive_integer_of, alternative}
use Rattle.cv_property_roundtrip.proofs.Premises.{Laws}

-- ---- matches that fit

module _ {A : Type 0} where
  abbrev from_fit : A → Matched A → A
  from_fit other No = other
  from_fit other Out = other
  from_fit other (Fit a) = a

  pub fit_same : (a b : A) → Fit a ≡ Fit b → a ≡ b
  fit_same a b h = ap (from_fit a) h

pub mapped_fits : {A B : Type 0} (f : A → B) (m : Matched A) (b : B) → mapped f m ≡ Fit b → (a : A) × (m ≡ Fit a) × (f a ≡ b)
mapped_fits f No b h = cc
mapped_fits f Out b h = cc
mapped_fits f (Fit a) b h = (a, refl, fit_same (f a) b h)

-- the item's text is an equal item by the alternative
pub record Backs (y : Context) (a : Alternative) (i : Item) : Type 0 where
  pub back : Item
  pub read : alternative y (item_text i) a ≡ Fit back
  pub same : SameItem i back

pub itself_back : (y : Context) (a : Alternative) (i : Item) → alternative y (item_text i) a ≡ Fit i → Backs y a i
itself_back y a i h = record { back = i; read = h; same = itself refl }

-- ---- keywords

own_word : (k : Word) → is_word (keyword_text k) (keyword_text k) ≡ true
own_word k =
    elim k as (λ k. is_word (keyword_text k) (keyword_text k) ≡ true) [ Medium ↦ refl | Normal ↦ refl | Visible ↦ refl | Hidden ↦ refl | Collapse ↦ refl | Inline ↦ refl | Block ↦ refl | InlineBlock ↦ refl | Flex ↦ refl | Grid ↦ refl | Contents ↦ refl | None ↦ refl | Auto ↦ refl ]

keyword_is : (k : Word) (ts : List Token) (i : Item) → keyword_of (keyword_text k) ts ≡ Fit i → item_of.Ident (keyword_text k) ≡ i
keyword_is k [] i h = absurd cc
keyword_is k (token.Ident name ∷ []) i h = by (is_word (keyword_text k) name) h
  where
    by : (b : Bool) → (if b then Fit (item_of.Ident (keyword_text k)) else No) ≡ Fit i → item_of.Ident (keyword_text k) ≡ i
    by true h = fit_same (item_of.Ident (keyword_text k)) i h
    by false h = absurd cc
keyword_is k (t ∷ ts) i h = absurd cc

pub word_back : (y : Context) (k : Word) → Backs y (Keyword k) (item_of.Ident (keyword_text k))
word_back y k = itself_back y (Keyword k) (item_of.Ident (keyword_text k)) (ap (λ b. if b then Fit (item_of.Ident (keyword_text k)) else No) (own_word k))

pub keyword_back : (x y : Context) (k : Word) (ts : List Token) (i : Item) → alternative x ts (Keyword k) ≡ Fit i → Backs y (Keyword k) i
keyword_back x y k ts i h = subst (Backs y (Keyword k)) (keyword_is k ts i h) (word_back y k)

-- ---- numbers

module _ (laws : Laws) (x y : Context) (ts : List Token) (i : Item) where
  pub number_back : (r : Range) → alternative x ts (Number r) ≡ Fit i → Backs y (Number r) i
  number_back r h =
      let (v, is, same) = mapped_fits item_of.Number (numeric.number r x ts) i h in
      subst (Backs y (Number r)) same (itself_back y (Number r) (item_of.Number v) (ap (mapped item_of.Number) (laws.kept.number r x y ts v is).1))

  of_kind : (k : Kind) (a : Alternative) → ((z : Context) (us : List Token) → alternative z us a ≡ item k z us) → alternative x ts a ≡ Fit i → Backs y a i
  of_kind k a alike h =
      let back : ReadsBack k y i = laws.items.reads k x y ts i (sym (alike x ts) ∙ h) in
      record { back = back.back; read = alike y (item_text i) ∙ back.read; same = back.same }

  pub integer_back : alternative x ts Integer ≡ Fit i → Backs y Integer i
  integer_back = of_kind kinds.Integer Integer (λ z us. refl)

  pub length_back : alternative x ts Length ≡ Fit i → Backs y Length i
  length_back = of_kind kinds.Length Length (λ z us. refl)

  pub color_back : alternative x ts Color ≡ Fit i → Backs y Color i
  color_back = of_kind kinds.Color Color (λ z us. refl)

-- ---- percentages that are parts of 1

pub counted_is : (m : Matched Ratio) (i : Item) → counted_portion m ≡ Fit i → (v : Ratio) × (m ≡ Fit v) × (in_bounds (hundredths 1 v) ≡ true) × (item_of.Percentage v ≡ i)
counted_is No i h = absurd cc
counted_is Out i h = absurd cc
counted_is (Fit v) i h = by (in_bounds (hundredths 1 v)) refl h
  where
    by : (b : Bool) → in_bounds (hundredths 1 v) ≡ b → (if b then Fit (item_of.Percentage v) else Out) ≡ Fit i → (w : Ratio) × (Fit v ≡ Fit w) × (in_bounds (hundredths 1 w) ≡ true) × (item_of.Percentage w ≡ i)
    by true is h = (v, refl, is, fit_same (item_of.Percentage v) i h)
    by false is h = absurd cc

pub portion_back : (laws : Laws) (x y : Context) (ts : List Token) (i : Item) → alternative x ts Portion ≡ Fit i → Backs y Portion i
portion_back laws x y ts i h =
    let (v, is, small, same) = counted_is (numeric.percentage x ts) i h in
    let read : numeric.percentage y (number_alone v units.Percent) ≡ Fit v = (laws.kept.percentage x y ts v is).1 in
    subst (Backs y Portion) same (itself_back y Portion (item_of.Percentage v) (ap counted_portion read ∙ ap (λ b. if b then Fit (item_of.Percentage v) else Out) small))

-- ---- whole numbers of at least 1

pub record IsPositive (z : ℤ) : Type 0 where
  pub small : unsigned_abs z < 2 ^ 63
  pub from : int_lt z (pos 1) ≡ false

positive_read : (laws : Laws) (y : Context) (z : ℤ) → IsPositive z → positive_integer_of y (token.Number (signed_decimal z) ∷ []) ≡ Fit z
positive_read laws y z h =
    ap (from_one (signed_decimal z)) (laws.kept.whole y z h.small) ∙ ap (λ b. if b then No else Fit z) h.from

from_one_is : (n : List ℕ) (m : Matched ℤ) (z : ℤ) → from_one n m ≡ Fit z → (m ≡ Fit z) × (int_lt z (pos 1) ≡ false)
from_one_is n No z h = absurd cc
from_one_is n Out z h = absurd (never (begins_with hyphen (encode_utf8_all n)) h)
  where
    never : (b : Bool) → (if b then No else Out) ≡ Fit z → ⊥
    never true h = cc
    never false h = cc
from_one_is n (Fit a) z h = by (int_lt a (pos 1)) refl h
  where
    by : (b : Bool) → int_lt a (pos 1) ≡ b → (if b then No else Fit a) ≡ Fit z → (Fit a ≡ Fit z) × (int_lt z (pos 1) ≡ false)
    by true is h = absurd cc
    by false is h = (h, ap (λ (c : ℤ). int_lt c (pos 1)) (sym (fit_same a z h)) ∙ is)

least_positive : (n : ℤ) → unsigned_abs n < 2 ^ 63 → IsPositive (at_least_one n)
least_positive n small = by (int_lt n (pos 1)) refl
  where
    by : (b : Bool) → int_lt n (pos 1) ≡ b → IsPositive (if b then pos 1 else n)
    by true is = record { small = omega arith; from = refl }
    by false is = record { small = small; from = is }

positive_given : (laws : Laws) (x : Context) (ts : List Token) (z : ℤ) → positive_integer_of x ts ≡ Fit z → IsPositive z
positive_given laws x (token.Number n ∷ []) z h =
    let (is, from) = from_one_is n (numeric.whole_number n) z h in
    record { small = laws.kept.whole_in_bounds x (token.Number n ∷ []) z is; from = from }
positive_given laws x ts z h =
    let (n, is, same) = mapped_fits at_least_one (numeric.integer x ts) z h in
    subst IsPositive same (least_positive n (laws.kept.whole_in_bounds x ts n is))

pub positive_back : (laws : Laws) (x y : Context) (ts : List Token) (i : Item) → alternative x ts PositiveInteger ≡ Fit i → Backs y PositiveInteger i
positive_back laws x y ts i h =
    let (z, is, same) = mapped_fits item_of.Integer (positive_integer_of x ts) i h in
    subst (Backs y PositiveInteger) same (itself_back y PositiveInteger (item_of.Integer z) (ap (mapped item_of.Integer) (positive_read laws y z (positive_given laws x ts z is))))

-- ---- lengths and percentages

-- with a basis that isn't known
pub size_back : (laws : Laws) (x y : Context) → IsNotNegative x.em → IsNotNegative x.rem → (r : Range) (ts : List Token) (i : Item) → alternative (with_basis basis.Length x) ts (LengthPercentage r) ≡ Fit i →
    Backs (with_basis basis.Length y) (LengthPercentage r) i
size_back laws x y em rem r ts i h =
    let back : SizeReadsBack r y i = laws.sizes r x y em rem ts i h in
    record { back = back.back; read = back.read; same = back.same }

-- one number of px, in bounds and not negative
pub record IsPx (i : Item) : Type 0 where
  pub size : Ratio
  pub is : i ≡ item_of.Length size
  pub small : in_bounds size ≡ true
  pub natural : IsNotNegative size

px_item : (v : Ratio) → mixed_item (tree.Num v units.Px) ≡ item_of.Length v
px_item v = ap (mixed_as (tree.Num v units.Px)) (out-Num v units.Px)

pub px_read : (laws : Laws) (y : Context) (v : Ratio) → in_bounds v ≡ true → IsNotNegative v → Backs y (LengthPercentage NotNegative) (item_of.Length v)
px_read laws y v small natural =
    itself_back y (LengthPercentage NotNegative) (item_of.Length v) (ap (mapped mixed_item) (laws.kept.size NotNegative y v small natural) ∙ ap Fit (px_item v))

pub px_back : (laws : Laws) (y : Context) (i : Item) → IsPx i → Backs y (LengthPercentage NotNegative) i
px_back laws y i px = subst (Backs y (LengthPercentage NotNegative)) (sym px.is) (px_read laws y px.size px.small px.natural)

-- of a known length
pub px_given : (laws : Laws) (x : Context) → IsNotNegative x.em → IsNotNegative x.rem → (ts : List Token) (i : Item) → alternative (with_basis (basis.Of x.em) x) ts (LengthPercentage NotNegative) ≡ Fit i → IsPx i
px_given laws x em rem ts i h =
    let z : Context = with_basis (basis.Of x.em) x in
    let (c, is, same) = mapped_fits mixed_item (numeric.length_percentage_in NotNegative z ts) i h in
    let (v, number, natural) = laws.numbers.not_negative z x.em (record { part = refl; whole_is = em; em_is = em; rem_is = rem }) ts c is in
    record {
      size = v;
      is = sym same ∙ ap mixed_item number ∙ px_item v;
      small = laws.kept.size_in_bounds NotNegative z ts v (is ∙ ap Fit number);
      natural = natural;
    }
