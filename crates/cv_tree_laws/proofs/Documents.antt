-- The tree of a document of texts is one whose elements have one result.
use Rattle.std.proofs.Common.{ℕ, List, [], ◌∷◌, map, sym, ◌∙◌, subst}
use Rattle.std.specs.Prelude.{All}
use Rattle.std.proofs.lemmas.List.{length-map}
use Rattle.std.proofs.lemmas.List.Elements.{All-cons, All-contains_itself, All-head, All-nil, All-tail}
use Rattle.cv_spec_text.specs.Splits.{IsSpelt}
use Rattle.cv_spec_text.specs.Text.{preprocessed}
use Rattle.cv_spec_text.specs.Tokens.{tokens, tokens_of}
use Rattle.cv_spec_text.specs.declared.token.Token.{Token}
use Rattle.cv_component.specs.Items.{items}
use Rattle.cv_component.specs.Rules.{rules}
use Rattle.cv_calc.specs.declared.context.Context.{Context}
use Rattle.cv_doc.specs.Kept.{IsSound}
use Rattle.cv_doc.specs.Reading.{Shape}
use Rattle.cv_doc.specs.declared.elements.Elem.{Elem}
use Rattle.cv_props.specs.Kept.{kept_declarations}
use Rattle.cv_props.specs.Registered.{AreEntries}
use Rattle.cv_props.specs.Registration.{viewport}
use Rattle.cv_props.specs.Sheets.{registry_of}
use Rattle.cv_props.specs.Winners.{winners}
use Rattle.cv_element_laws.specs.Declared.{AreDeclared}
use Rattle.cv_tree.specs.Single.{HaveOneResult}
use Rattle.cv_tree.specs.Styles.{declarations_of, tokens_in}
use Rattle.cv_tree.specs.Tree.{AreInRange, IsTree, Tree, parent_of, tree_of}
use Rattle.cv_tree.proofs.Walked.{parents_earlier}
use Rattle.cv_tree_laws.specs.Texts.{AreTexts, HasText, IsText}

-- the tokens of a text
spelt_text : (characters : List ℕ) → IsText characters → All IsSpelt (tokens_in characters)
spelt_text characters is =
    subst (λ (cs : List ℕ). All IsSpelt (tokens_of (preprocessed cs))) is.2
    (λ k d below. (is.0, is.1, All-contains_itself (tokens is.0) k d below))

-- what the laws below it say
pub record PartsMayStand : Type 0 where
  pub entries : (x : Context) (sheet : List Token) → All IsSpelt sheet → AreEntries (registry_of x (rules sheet))
  pub declared : (style : List Token) → All IsSpelt style → AreDeclared (winners (kept_declarations (items style)))

module _ (parts : PartsMayStand) where
  styles_declared : (elements : List Elem) → All HasText elements → All AreDeclared (map declarations_of elements)
  styles_declared [] texts = All-nil AreDeclared
  styles_declared (element ∷ elements) texts =
      All-cons AreDeclared (declarations_of element) (map declarations_of elements)
      (parts.declared (tokens_in element.style) (spelt_text element.style (All-head HasText element elements texts)))
      (styles_declared elements (All-tail HasText element elements texts))

  document_tree : (document : Shape) → IsSound document → AreTexts document → IsTree (tree_of document)
  document_tree document sound texts = record {
    earlier = parents_earlier document.elements sound.tree;
    declared = length-map document.elements declarations_of ∙ sym (length-map document.elements parent_of);
    entries = parts.entries (viewport document.width document.height) (tokens_in document.sheet) (spelt_text document.sheet texts.sheet);
  }

  -- a document's tree has one result, where trees in range have
  pub document_result : ((tree : Tree) (limit : ℕ) → IsTree tree → All AreDeclared tree.declarations → AreInRange tree limit → HaveOneResult tree limit)
      → (document : Shape) (limit : ℕ) → IsSound document → AreTexts document → AreInRange (tree_of document) limit → HaveOneResult (tree_of document) limit
  document_result trees document limit sound texts in_range =
      trees (tree_of document) limit (document_tree document sound texts) (styles_declared document.elements texts.styles) in_range
