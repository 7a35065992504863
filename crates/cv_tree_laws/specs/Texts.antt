-- Documents of texts: each that was read is one, since JSON's strings are UTF-8.
use Rattle.std.specs.Prelude.{ℕ, ◌≡◌, All, List, IsUtf8}
use Rattle.std.specs.Str.{chars}
use Rattle.cv_doc.specs.declared.elements.Elem.{Elem}
use Rattle.cv_doc.specs.Reading.{Shape}

-- the characters of a text
abbrev pub IsText : List ℕ → Type 0
IsText characters = (text : List ℕ) × IsUtf8 text × (chars text ≡ characters)

abbrev pub HasText : Elem → Type 0
HasText element = IsText element.style

-- the sheet and each style are texts
pub record AreTexts (document : Shape) : Type 0 where
  pub sheet : IsText document.sheet
  pub styles : All HasText document.elements
