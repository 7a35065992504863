-- What the last element says once there is one more.
use Rattle.std.proofs.Common.{◌≡◌, List, [], ◌∷◌, ◌++◌, map, Option, Some, None, refl, ap, ◌∙◌, Bor}
use Rattle.std.specs.Option.{option_copied}
use Rattle.std.proofs.lemmas.List.{map-append}
use Rattle.cv_component.specs.declared.items.Piece.{Piece}
use Rattle.cv_component.specs.declared.shared.SharedPiece.{SharedPiece}
use Rattle.cv_component.specs.Shared.{piece_of}
use Rattle.cv_props.specs.Registration.{first_or, last_said}

first_or_last : {B : Type 0} (x : Option B) → first_or None x ≡ first_or x None
first_or_last None = refl
first_or_last (Some x) = refl

first_or_assoc : {B : Type 0} (x y z : Option B) → first_or (first_or x y) z ≡ first_or x (first_or y z)
first_or_assoc None y z = refl
first_or_assoc (Some x) y z = refl

pub last_said-push : {A B : Type 0} (f : A → Option B) (xs : List A) (x : A) → last_said f (xs ++ x ∷ []) ≡ first_or (f x) (last_said f xs)
last_said-push f [] x = first_or_last (f x)
last_said-push f (y ∷ xs) x = ap (λ l. first_or l (f y)) (last_said-push f xs x) ∙ first_or_assoc (f x) (last_said f xs) (f y)

-- one more item of a block
pub last_said-piece : {B : Type 0} (f : Piece → Option B) (before after : List SharedPiece) (p : SharedPiece) → after ≡ before ++ p ∷ []
    → last_said f (map piece_of after) ≡ first_or (f (piece_of p)) (last_said f (map piece_of before))
last_said-piece f before after p is =
    ap (λ l. last_said f (map piece_of l)) is ∙ ap (last_said f) (map-append piece_of before (p ∷ [])) ∙ last_said-push f (map piece_of before) (piece_of p)

-- of what is borrowed
pub copied-first_or : {T : Type 0} (a b : Option (Bor T)) → option_copied (first_or a b) ≡ first_or (option_copied a) (option_copied b)
copied-first_or None b = refl
copied-first_or (Some a) b = refl
