-- What the words say, by clap's own definitions.
use Rattle.std.specs.Prelude.{◌≡◌, ◌≢◌, ℕ, ◌≤◌, false, List, [], Option, Some, None, codes, String, string_bytes, map, if◌then◌else◌}
use Rattle.std.specs.declared.alloc.Global.{Global}
use Rattle.std.specs.Str.{bytes_eq}
use Rattle.std.specs.Str.Parse.{digits_value, without_leading_plus}
use Rattle.clap.specs.Words.{IsUnsignedIn, Text, fault_of, first_of, first_value, matches_of, takes}
use Rattle.clap.specs.declared.parser.matches.Found.{Found}
use Rattle.cv_words.specs.Command.{Choices, HasJobs, command_of}
use Rattle.cv_words.specs.declared.words.Job.{Job}
use Rattle.cv_words.specs.declared.words.Job.TheVariants.{Compute, Reify, Gen}
use Rattle.cv_words.specs.declared.words.Words.{Words}

-- the words as texts
abbrev pub texts_of : List (String Global) → List Text
texts_of words = map string_bytes words

-- the job of a name
abbrev pub job_named : Text → Option Job
job_named name =
    if bytes_eq name (codes "compute") then Some Compute
    else (if bytes_eq name (codes "reify") then Some Reify
    else (if bytes_eq name (codes "gen") then Some Gen else None))

-- The command doesn't take the words: clap's definition of a line that it takes doesn't hold, and it finds a fault in them.
pub record IsRefused (words : List Text) : Type 0 where
  pub names : Choices
  pub jobs : HasJobs names
  pub not_taken : takes (command_of names) words ≡ false
  pub fault : fault_of (command_of names) words ≢ []

-- clap's matches of the words give this text to an argument
abbrev pub Gives : Choices → List Text → Text → Text → Type 0
Gives names words id value = first_of id (matches_of (command_of names) words) ≡ Some value

-- clap's matches of the words give this job
abbrev pub GivesJob : Choices → List Text → Job → Type 0
GivesJob names words job = (text : Text) × Gives names words (codes "job") text × (job_named text ≡ Some job)

-- clap's matches of the words give this number, in its range, to an option
pub record GivesNumber (names : Choices) (words : List Text) (id : Text) (most number : ℕ) : Type 0 where
  pub text : Text
  pub given : Gives names words id text
  pub value : digits_value 10 (without_leading_plus text) ≡ number
  pub least : 1 ≤ number
  pub bound : number ≤ most

-- What the words say: clap finds no fault in them, and its matches give the job and the numbers.
pub record HasWords (words : List Text) (read : Words) : Type 0 where
  pub names : Choices
  pub jobs : HasJobs names
  pub no_fault : fault_of (command_of names) words ≡ []
  pub job : GivesJob names words read.job
  pub limit : GivesNumber names words (codes "limit") 32768 read.limit
  pub size : GivesNumber names words (codes "size") 4096 read.size

-- ---- what the matches of a parse say

-- the matches have this job
abbrev pub HasJob : Found → Job → Type 0
HasJob found job = (text : Text) × (first_value found (codes "job") ≡ Some text) × (job_named text ≡ Some job)

-- an option's number, in its range, as the matches have it
pub record HasNumber (found : Found) (id : Text) (most number : ℕ) : Type 0 where
  pub text : Text
  pub given : first_value found id ≡ Some text
  pub value : digits_value 10 (without_leading_plus text) ≡ number
  pub least : 1 ≤ number
  pub bound : number ≤ most

-- what the matches say
pub record IsReadFrom (found : Found) (read : Words) : Type 0 where
  pub job : HasJob found read.job
  pub limit : HasNumber found (codes "limit") 32768 read.limit
  pub size : HasNumber found (codes "size") 4096 read.size

-- the matches have the name of a job
abbrev pub MayGiveJob : Found → Type 0
MayGiveJob found = (job : Job) × HasJob found job

-- the matches have a text for an option that its parser takes
pub record MayGiveNumber (found : Found) (id : Text) (most : ℕ) : Type 0 where
  pub text : Text
  pub given : first_value found id ≡ Some text
  pub numeral : IsUnsignedIn 1 most text

-- each argument has a text that its parser takes
pub record IsGiven (found : Found) : Type 0 where
  pub job : MayGiveJob found
  pub limit : MayGiveNumber found (codes "limit") 32768
  pub size : MayGiveNumber found (codes "size") 4096
