-- A session as a fold of its commands (this project's own).
use Rattle.std.specs.Prelude.{ℕ, ◌≡◌, ◌⊎◌, ◌+◌, List, [], ◌∷◌, ◌++◌, codes, length, Option, Some, None, slice_set}
use Rattle.cv_doc.specs.declared.command.Command.{Command}
use Rattle.cv_valuation.specs.declared.computed.Computed.{Computed}
use Rattle.cv_valuation.specs.declared.key.Key.{Key}
use Rattle.cv_props.specs.Registered.{Registered}
use Rattle.cv_props.specs.Winners.{Declarations}
use Rattle.cv_tree.specs.Tree.{AreComputed, IsOutOfRange, Tree, the_tree}
use Rattle.cv_update.specs.Changes.{changes}
use Rattle.cv_session.specs.Asking.{Asked, asked_by, declare, drop, text}
use Rattle.cv_session.specs.Texts.{range_text, reply_line}
use Rattle.cv_session.specs.Watches.{Places, Watch, held, places_of, report_of, told_all, watcher_lines}

-- What stays the same: what is registered, the parent of each element, the size of the viewport in px, the most tokens that a list may have
-- after substitution, and the properties whose changes are told, in their order.
pub record Setting : Type 0 where
  pub registered : Registered
  pub parents : List (Option ℕ)
  pub width : ℕ
  pub height : ℕ
  pub limit : ℕ
  pub keys : List Key

-- The number of commands so far, the declarations of each element, and the watchers that are held, with what each has seen.
pub record State : Type 0 where
  pub number : ℕ
  pub declarations : List Declarations
  pub places : Places

-- the tree of the elements with these declarations
abbrev pub tree_with : Setting → List Declarations → Tree
tree_with setting declarations = the_tree setting.registered setting.parents declarations setting.width setting.height

-- this is computed of all elements, where these are their declarations
abbrev pub AreComputedBy : Setting → List Declarations → List Computed → Type 0
AreComputedBy setting declarations all = AreComputed (tree_with setting declarations) setting.limit (length setting.parents) all

-- one more command
abbrev pub counted : State → State
counted state = record state { number = state.number + 1 }

-- The reply is this text, and nothing else changes.
abbrev pub IsTold : List ℕ → State → State → List ℕ → Type 0
IsTold words old new reply = (new ≡ counted old) × (reply ≡ reply_line old.number words)

-- The element is declared so from now on, with which no property is out of range, and each change of what is computed is told.
pub record IsDeclared (setting : Setting) (all : List Computed) (at : ℕ) (declarations : Declarations) (old new : State) (reply : List ℕ) : Type 0 where
  pub fresh : List Computed
  pub computed : AreComputedBy setting (slice_set old.declarations at declarations) fresh
  pub state : new ≡ counted (record old {
    declarations = slice_set old.declarations at declarations;
    places = told_all (changes setting.keys all fresh) old.places;
  })
  pub reply_is : reply ≡ reply_line old.number (codes "ok")

-- With the element so declared this property would be out of range on this element, the first such.
pub record IsRefused (setting : Setting) (at : ℕ) (declarations : Declarations) (old new : State) (reply : List ℕ) : Type 0 where
  pub element : ℕ
  pub property : Key
  pub out : IsOutOfRange (tree_with setting (slice_set old.declarations at declarations)) setting.limit element property
  pub told : IsTold (range_text element property) old new reply

-- The watcher is dropped, and its report told, if it is held.
abbrev pub IsDropped : ℕ → Option Watch → State → State → List ℕ → Type 0
IsDropped number None old new reply = IsTold (codes "refused NoWatcher") old new reply
IsDropped number (Some watch) old new reply =
    (new ≡ counted (record old { places = slice_set old.places number None })) × (reply ≡ reply_line old.number (codes "ok") ++ watcher_lines number (report_of watch))

-- what is asked for is done
abbrev pub IsDone : Setting → List Computed → Asked → State → State → List ℕ → Type 0
IsDone setting all (text told) old new reply = IsTold told old new reply
IsDone setting all (declare at declarations) old new reply = IsDeclared setting all at declarations old new reply ⊎ IsRefused setting at declarations old new reply
IsDone setting all (drop number) old new reply = IsDropped number (held old.places number) old new reply

-- one step of the fold: by what is computed of all elements, as they are declared, the command is answered
pub record IsStep (setting : Setting) (command : Command) (old new : State) (reply : List ℕ) : Type 0 where
  pub all : List Computed
  pub computed : AreComputedBy setting old.declarations all
  pub done : IsDone setting all (asked_by setting.registered old.declarations all command) old new reply

-- the same where replies are appended to a text
pub record Applies (setting : Setting) (command : Command) (old new : State) (before appended : List ℕ) : Type 0 where
  pub reply : List ℕ
  pub step : IsStep setting command old new reply
  pub text : appended ≡ before ++ reply

-- a watcher is dropped, and the reply is appended to a text
abbrev pub Dropping : ℕ → Option Watch → State → State → List ℕ → List ℕ → Type 0
Dropping number watch old new before appended = (reply : List ℕ) × IsDropped number watch old new reply × (appended ≡ before ++ reply)

-- the state of a session whose watchers have these members
abbrev pub state_of : {W : Type 0} → (W → Watch) → ℕ → List Declarations → List (Option W) → State
state_of watch number declarations places = record { number = number; declarations = declarations; places = places_of watch places }

-- the commands are answered in order, and these are the replies
abbrev pub AreSteps : Setting → List Command → State → State → List ℕ → Type 0
AreSteps setting [] old new replies = (new ≡ old) × (replies ≡ [])
AreSteps setting (command ∷ commands) old new replies =
    (next : State) × (reply : List ℕ) × (others : List ℕ) × IsStep setting command old next reply × AreSteps setting commands next new others × (replies ≡ reply ++ others)
