-- The keywords of the ordinary properties, in lower case (CSS Values and Units 4, "Pre-defined Keywords").
use Rattle.std.specs.Prelude.{ℕ, List, codes}
use Rattle.cv_property.specs.declared.grammar.Keyword.{Keyword}
use Rattle.cv_property.specs.declared.grammar.Keyword.TheVariants as of

abbrev pub keyword_text : Keyword → List ℕ
keyword_text of.Medium = codes "medium"
keyword_text of.Normal = codes "normal"
keyword_text of.Visible = codes "visible"
keyword_text of.Hidden = codes "hidden"
keyword_text of.Collapse = codes "collapse"
keyword_text of.Inline = codes "inline"
keyword_text of.Block = codes "block"
keyword_text of.InlineBlock = codes "inline-block"
keyword_text of.Flex = codes "flex"
keyword_text of.Grid = codes "grid"
keyword_text of.Contents = codes "contents"
keyword_text of.None = codes "none"
keyword_text of.Auto = codes "auto"
