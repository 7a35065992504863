-- The session of a document (this project's own).
use Rattle.std.specs.Prelude.{ℕ, List, map}
use Rattle.cv_doc.specs.Reading.{Shape}
use Rattle.cv_valuation.specs.declared.key.Key.{Key}
use Rattle.cv_tree.specs.Styles.{declarations_of}
use Rattle.cv_tree.specs.Tree.{parent_of, tree_of}
use Rattle.cv_session.specs.Fold.{Setting, State}
use Rattle.cv_session.specs.Watches.{Places}

-- the setting of a document's session, where the changes of these properties are told
abbrev pub setting_of : Shape → ℕ → List Key → Setting
setting_of document limit keys = record {
  registered = (tree_of document).registered;
  parents = map parent_of document.elements;
  width = document.width;
  height = document.height;
  limit = limit;
  keys = keys;
}

-- the state before any command: the elements have the declarations of their styles, and these watchers are held
abbrev pub first_state : Shape → Places → State
first_state document watchers = record { number = 0; declarations = map declarations_of document.elements; places = watchers }
