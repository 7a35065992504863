-- From clap's matches and errors to what the words say.
use Rattle.std.proofs.Common.{◌≡◌, ◌≢◌, ℕ, true, false, List, [], ◌∷◌, Some, refl, sym, ◌∙◌, ap, subst, inl, inr, codes}
use Rattle.clap.specs.Words.{App, HasKind, HasMatchesOf, Kinds, Row, Text, fault_of, first_of, first_value, found_of, is_simple, is_simple_and_free, kind_of, matches_of, rows_of, takes}
use Rattle.clap.specs.declared.error.Error.{Error}
use Rattle.clap.specs.declared.error.kind.ErrorKind.TheVariants.{OutOfMemory}
use Rattle.clap.specs.declared.parser.matches.ArgMatches.{ArgMatches}
use Rattle.clap.proofs.OnLiterals.{clap_on_literals}
use Rattle.clap.proofs.WalkLemmas.{first_value-rows}
use Rattle.cv_words.specs.Command.{Choices, HasJobs, command_of}
use Rattle.cv_words.specs.Words.{Gives, GivesJob, GivesNumber, HasJob, HasNumber, HasWords, IsReadFrom, IsRefused}
use Rattle.cv_words.specs.declared.words.Job.{Job}
use Rattle.cv_words.specs.declared.words.Words.{Words}

-- clap's definitions speak of the command
pub command_is_simple : (names : Choices) → is_simple (command_of names) ≡ true
unfolding clap_on_literals
command_is_simple names = refl

pub command_is_free : (names : Choices) → is_simple_and_free (command_of names) ≡ true
unfolding clap_on_literals
command_is_free names = refl

gives : (names : Choices) (words : List Text) (m : ArgMatches) (id value : Text)
    → rows_of (found_of m) ≡ matches_of (command_of names) words
    → first_value (found_of m) id ≡ Some value → Gives names words id value
gives names words m id value rows found =
    ap (λ (r : List Row). first_of id r) (sym rows) ∙ sym (first_value-rows (found_of m) id) ∙ found

job : (names : Choices) (words : List Text) (m : ArgMatches) (j : Job)
    → rows_of (found_of m) ≡ matches_of (command_of names) words
    → HasJob (found_of m) j → GivesJob names words j
job names words m j rows has = (has.0, gives names words m (codes "job") has.0 rows has.1, has.2)

number : (names : Choices) (words : List Text) (m : ArgMatches) (id : Text) (most n : ℕ)
    → rows_of (found_of m) ≡ matches_of (command_of names) words
    → HasNumber (found_of m) id most n → GivesNumber names words id most n
number names words m id most n rows has = record {
  text = has.text;
  given = gives names words m id has.text rows has.given;
  value = has.value;
  least = has.least;
  bound = has.bound;
}

-- what is read of the matches is what the words say
pub words_from_matches : (app : App) (names : Choices) (words : List Text) (m : ArgMatches) (read : Words)
    → HasJobs names → app ≡ command_of names
    → HasMatchesOf app words m → (is_simple_and_free app ≡ true → fault_of app words ≡ [])
    → IsReadFrom (found_of m) read → HasWords words read
words_from_matches app names words m read jobs same matches faults from =
    let P : App → Type 0 = λ a. HasMatchesOf a words m in
    let F : App → Type 0 = λ a. is_simple_and_free a ≡ true → fault_of a words ≡ [] in
    let rows = (subst P same matches (command_is_simple names)).0 in
    record {
      names = names;
      jobs = jobs;
      no_fault = subst F same faults (command_is_free names);
      job = job names words m _ rows from.job;
      limit = number names words m (codes "limit") _ _ rows from.limit;
      size = number names words m (codes "size") _ _ rows from.size;
    }

-- an error that isn't want of memory means that the command doesn't take the words
pub refused_from_error : (app : App) (names : Choices) (words : List Text) → HasJobs names → app ≡ command_of names
    → (takes app words ≡ true → ⊥) → (is_simple_and_free app ≡ true → fault_of app words ≢ []) → IsRefused words
refused_from_error app names words jobs same not_taken faults =
    let F : App → Type 0 = λ a. is_simple_and_free a ≡ true → fault_of a words ≢ [] in
    record {
      names = names;
      jobs = jobs;
      not_taken = elim (takes (command_of names) words) as (λ b. takes (command_of names) words ≡ b → b ≡ false) [
        | true ↦ λ taken. absurd (not_taken (ap (λ (a : App). takes a words) same ∙ taken))
        | false ↦ λ _. refl
      ] refl;
      fault = subst F same faults (command_is_free names);
    }

-- an error that isn't want of memory has a kind that may come
pub among : (ks : Kinds) (e : Error) → HasKind ks e → (kind_of e ≡ OutOfMemory → ⊥) → ks ≢ []
among [] e (inl memory) other = absurd (other memory)
among [] e (inr none) other = absurd none
among (k ∷ ks) e has other = λ bad. cc
