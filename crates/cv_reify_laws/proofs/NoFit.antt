-- What no match within range is made of.
use Rattle.std.specs.Prelude.{ℕ, Bool, true, false, ◌&&◌, ◌||◌, List, [], ◌∷◌}
use Rattle.std.proofs.Common.{◌≡◌, refl}
use Rattle.cv_spec_ratio.specs.Ratio.{Ratio}
use Rattle.cv_numeric.specs.declared.matched.Matched.{Matched}
use Rattle.cv_numeric.specs.declared.matched.Matched.TheVariants.{No, Out, Fit}
use Rattle.cv_numeric.specs.Matched.{mapped, both, or_else, IsAlike}
use Rattle.cv_colorread.specs.declared.channels.Channels.{Channels}
use Rattle.cv_colorread.specs.Channels.{together, part_of}
use Rattle.cv_property.specs.Grammar.{is_match}

-- no match, or one that is out of range
abbrev pub NoFit : {A : Type 0} → Matched A → Type 0
NoFit No = Unit {0}
NoFit Out = Unit {0}
NoFit (Fit a) = ⊥

pub mapped_is : {A B : Type 0} (f : A → B) (m : Matched A) → NoFit m → NoFit (mapped f m)
mapped_is f No h = tt
mapped_is f Out h = tt
mapped_is f (Fit a) h = h

pub both_first : {A B C : Type 0} (f : A → B → C) (a : Matched A) (b : Matched B) → NoFit a → NoFit (both f a b)
both_first f No b h = tt
both_first f Out No h = tt
both_first f Out Out h = tt
both_first f Out (Fit b) h = tt
both_first f (Fit a) b h = absurd h

pub both_second : {A B C : Type 0} (f : A → B → C) (a : Matched A) (b : Matched B) → NoFit b → NoFit (both f a b)
both_second f No b h = tt
both_second f Out No h = tt
both_second f Out Out h = tt
both_second f Out (Fit b) h = tt
both_second f (Fit a) No h = tt
both_second f (Fit a) Out h = tt
both_second f (Fit a) (Fit b) h = absurd h

pub or_else_is : {A : Type 0} (a b : Matched A) → NoFit a → NoFit b → NoFit (or_else a b)
or_else_is No b h k = k
or_else_is Out b h k = tt
or_else_is (Fit a) b h k = absurd h

pub together_first : (r g b : Matched Ratio) → NoFit r → NoFit (together r g b)
together_first No g b h = tt
together_first Out No b h = tt
together_first Out Out No h = tt
together_first Out Out Out h = tt
together_first Out Out (Fit b) h = tt
together_first Out (Fit g) No h = tt
together_first Out (Fit g) Out h = tt
together_first Out (Fit g) (Fit b) h = tt
together_first (Fit r) g b h = absurd h

pub together_second : (r g b : Matched Ratio) → NoFit g → NoFit (together r g b)
together_second No g b h = tt
together_second Out No b h = tt
together_second Out Out No h = tt
together_second Out Out Out h = tt
together_second Out Out (Fit b) h = tt
together_second Out (Fit g) b h = absurd h
together_second (Fit r) No b h = tt
together_second (Fit r) Out No h = tt
together_second (Fit r) Out Out h = tt
together_second (Fit r) Out (Fit b) h = tt
together_second (Fit r) (Fit g) b h = absurd h

pub together_third : (r g b : Matched Ratio) → NoFit b → NoFit (together r g b)
together_third No g b h = tt
together_third Out No b h = tt
together_third Out Out No h = tt
together_third Out Out Out h = tt
together_third Out Out (Fit b) h = absurd h
together_third Out (Fit g) No h = tt
together_third Out (Fit g) Out h = tt
together_third Out (Fit g) (Fit b) h = absurd h
together_third (Fit r) No b h = tt
together_third (Fit r) Out No h = tt
together_third (Fit r) Out Out h = tt
together_third (Fit r) Out (Fit b) h = absurd h
together_third (Fit r) (Fit g) No h = tt
together_third (Fit r) (Fit g) Out h = tt
together_third (Fit r) (Fit g) (Fit b) h = absurd h

pub part_is : (whole : ℕ) (m : Matched Ratio) → NoFit m → NoFit (part_of whole m)
part_is whole No h = tt
part_is whole Out h = tt
part_is whole (Fit v) h = absurd h

-- ---- whether something is a match

pub alike_match : {A : Type 0} (a b : Matched A) → IsAlike a b → is_match a ≡ is_match b
alike_match No No h = refl
alike_match No Out h = absurd h
alike_match No (Fit b) h = absurd h
alike_match Out No h = absurd h
alike_match Out Out h = refl
alike_match Out (Fit b) h = refl
alike_match (Fit a) No h = absurd h
alike_match (Fit a) Out h = refl
alike_match (Fit a) (Fit b) h = refl

pub match_both : {A B C : Type 0} (f : A → B → C) (a : Matched A) (b : Matched B) → is_match (both f a b) ≡ (is_match a && is_match b)
match_both f No b = refl
match_both f Out No = refl
match_both f Out Out = refl
match_both f Out (Fit b) = refl
match_both f (Fit a) No = refl
match_both f (Fit a) Out = refl
match_both f (Fit a) (Fit b) = refl

pub match_or_else : {A : Type 0} (a b : Matched A) → is_match (or_else a b) ≡ (is_match a || is_match b)
match_or_else No b = refl
match_or_else Out b = refl
match_or_else (Fit a) b = refl

pub match_together : (r g b : Matched Ratio) → is_match (together r g b) ≡ (is_match r && (is_match g && is_match b))
match_together No g b = refl
match_together Out No b = refl
match_together Out Out No = refl
match_together Out Out Out = refl
match_together Out Out (Fit b) = refl
match_together Out (Fit g) No = refl
match_together Out (Fit g) Out = refl
match_together Out (Fit g) (Fit b) = refl
match_together (Fit r) No b = refl
match_together (Fit r) Out No = refl
match_together (Fit r) Out Out = refl
match_together (Fit r) Out (Fit b) = refl
match_together (Fit r) (Fit g) No = refl
match_together (Fit r) (Fit g) Out = refl
match_together (Fit r) (Fit g) (Fit b) = refl

-- a match that doesn't fit is out of range
pub out_is : {A : Type 0} (m : Matched A) → NoFit m → is_match m ≡ true → m ≡ Out
out_is No h k = cc
out_is Out h k = refl
out_is (Fit a) h k = absurd h

-- what comes behind a match that is out of range isn't looked at
pub or_else_out : {A : Type 0} (a b : Matched A) → NoFit a → is_match a ≡ true → NoFit (or_else a b)
or_else_out No b h k = absurd cc
or_else_out Out b h k = tt
or_else_out (Fit a) b h k = absurd h

-- what comes behind no match is all
pub or_else_no : {A : Type 0} (a b : Matched A) → is_match a ≡ false → NoFit b → NoFit (or_else a b)
or_else_no No b k h = h
or_else_no Out b k h = absurd cc
or_else_no (Fit a) b k h = absurd cc
