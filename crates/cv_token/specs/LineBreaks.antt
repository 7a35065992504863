-- Preprocessing one character at a time: a CR gives an LF, and an LF behind it gives nothing (CSS Syntax 3, "Preprocessing the
-- input stream").
use Rattle.std.specs.Prelude.{ℕ, Bool, ◌==◌, ◌&&◌, ◌||◌, if◌then◌else◌, List, [], ◌∷◌}
use Rattle.cv_spec_text.specs.Characters.{line_feed, form_feed, carriage_return, replacement_character}

abbrev pub point_of : ℕ → ℕ
point_of c = if c == carriage_return || c == form_feed then line_feed else (if c == 0 then replacement_character else c)

-- the LF of a CR LF
abbrev pub is_second : Bool → ℕ → Bool
is_second after_return c = after_return && (c == line_feed)

-- the code points that a character gives
abbrev pub pushed : Bool → ℕ → List ℕ
pushed after_return c = if is_second after_return c then [] else point_of c ∷ []

-- the code points of these characters, where a CR stands before them or not
abbrev pub points_after : Bool → List ℕ → List ℕ
points_after after_return [] = []
points_after after_return (c ∷ cs) = if is_second after_return c then points_after (c == carriage_return) cs else point_of c ∷ points_after (c == carriage_return) cs
