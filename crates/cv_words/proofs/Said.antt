-- Words are refused or read, never both, and what is read of them is single.
use Rattle.std.proofs.Common.{◌≡◌, ◌≢◌, ◌↔◌, ◌⊎◌, inl, inr, ℕ, Bool, true, false, true≢false, List, [], Some, refl, sym, ◌∙◌, ap, codes}
use Rattle.clap.specs.Words.{Row, Text, fault_of, first_of, matches_of, takes}
use Rattle.cv_words.specs.Command.{Choices, HasJobs, command_of}
use Rattle.cv_words.specs.Words.{Gives, GivesJob, GivesNumber, HasWords, IsRefused, job_named}
use Rattle.cv_words.specs.declared.words.Job.{Job}
use Rattle.cv_words.specs.declared.words.Words.{Words}
use Rattle.cv_words.proofs.Faulted.{fault_same}
use Rattle.cv_words.proofs.Fitting.{taken_has_words}
use Rattle.cv_words.proofs.Lent.{Lease, all_are_lent, lent}
use Rattle.cv_words.proofs.Taken.{has_fault, is_fault, is_faultless, taken_where}
use Rattle.cv_words.proofs.Walked.{matches_same}

-- what is the same for any two addresses is the same for any two lists
alike : {X : Type 0} (f : Choices → X) → ((one two : Lease) → f (lent one) ≡ f (lent two)) → (names others : Choices) → HasJobs names → HasJobs others → f names ≡ f others
alike f same names others jobs other_jobs =
    all_are_lent (λ n. f n ≡ f others) (λ one. all_are_lent (λ n. f (lent one) ≡ f n) (λ two. same one two) others other_jobs) names jobs

module _ (words : List Text) where
  matches_alike : (names others : Choices) → HasJobs names → HasJobs others → matches_of (command_of names) words ≡ matches_of (command_of others) words
  matches_alike = alike (λ names. matches_of (command_of names) words) (λ one two. matches_same one two words)

  fault_alike : (names others : Choices) → HasJobs names → HasJobs others → fault_of (command_of names) words ≡ fault_of (command_of others) words
  fault_alike = alike (λ names. fault_of (command_of names) words) (λ one two. fault_same one two words)

  taken_by : (names : Choices) → HasJobs names → is_faultless (fault_of (command_of names) words) ≡ takes (command_of names) words
  taken_by names jobs = all_are_lent (λ n. is_faultless (fault_of (command_of n) words) ≡ takes (command_of n) words) (λ at. taken_where at words) names jobs

  -- ---- what the words say

  text_single : (names others : Choices) → HasJobs names → HasJobs others → (id one other : Text) → Gives names words id one → Gives others words id other → other ≡ one
  text_single names others jobs other_jobs id one other first second =
      let same : Some other ≡ Some one = sym second ∙ ap (λ (rows : List Row). first_of id rows) (matches_alike others names other_jobs jobs) ∙ first in
      cc

  job_single : (names others : Choices) → HasJobs names → HasJobs others → (one other : Job) → GivesJob names words one → GivesJob others words other → other ≡ one
  job_single names others jobs other_jobs one other first second =
      let texts : second.0 ≡ first.0 = text_single names others jobs other_jobs (codes "job") first.0 second.0 first.1 second.1 in
      let same : Some other ≡ Some one = sym second.2 ∙ ap job_named texts ∙ first.2 in
      cc

  number_single : (names others : Choices) → HasJobs names → HasJobs others → (id : Text) (most one other : ℕ) → GivesNumber names words id most one → GivesNumber others words id most other → other ≡ one
  number_single names others jobs other_jobs id most one other first second =
      let texts : second.text ≡ first.text = text_single names others jobs other_jobs id first.text second.text first.given second.given in
      let value = first.value in
      let other_value = second.value in
      cc

  pub words_single : (one other : Words) → HasWords words one → HasWords words other → other ≡ one
  words_single one other first second =
      let job = job_single first.names second.names first.jobs second.jobs one.job other.job first.job second.job in
      let limit = number_single first.names second.names first.jobs second.jobs (codes "limit") 32768 one.limit other.limit first.limit second.limit in
      let size = number_single first.names second.names first.jobs second.jobs (codes "size") 4096 one.size other.size first.size second.size in
      λ i. record { job = job i; limit = limit i; size = size i }

  -- ---- whether they are refused

  -- one list of the names finds what another finds
  found_by : (names others : Choices) → HasJobs names → HasJobs others → (answer : Bool) → is_faultless (fault_of (command_of others) words) ≡ answer → takes (command_of names) words ≡ answer
  found_by names others jobs other_jobs answer is = sym (taken_by names jobs) ∙ ap is_faultless (fault_alike names others jobs other_jobs) ∙ is

  refused_by : (names : Choices) → HasJobs names → takes (command_of names) words ≡ false → IsRefused words
  refused_by names jobs not_taken = record {
    names = names;
    jobs = jobs;
    not_taken = not_taken;
    fault = is_fault (fault_of (command_of names) words) (taken_by names jobs ∙ not_taken);
  }

  pub refused_where_not_taken : (names : Choices) → HasJobs names → IsRefused words ↔ (takes (command_of names) words ≡ false)
  refused_where_not_taken names jobs = (
    λ refused. found_by names refused.names jobs refused.jobs false (has_fault (fault_of (command_of refused.names) words) refused.fault),
    refused_by names jobs,
  )

  pub refused_where_at_fault : (names : Choices) → HasJobs names → IsRefused words ↔ (fault_of (command_of names) words ≢ [])
  refused_where_at_fault names jobs = (
    λ refused. is_fault (fault_of (command_of names) words) (taken_by names jobs ∙ (refused_where_not_taken names jobs).0 refused),
    λ fault. refused_by names jobs (sym (taken_by names jobs) ∙ has_fault (fault_of (command_of names) words) fault),
  )

  pub never_both : (read : Words) → HasWords words read → ¬ (IsRefused words)
  never_both read has = λ refused.
      let taken = found_by refused.names has.names refused.jobs has.jobs true (ap is_faultless has.no_fault) in
      true≢false (sym taken ∙ refused.not_taken)

  pub refused_or_read : IsRefused words ⊎ ((read : Words) × HasWords words read)
  refused_or_read = go (takes (command_of names) words) refl
    where
      names : Choices
      names = lent ((0, 0), (λ _. (0, 0)))

      go : (taken : Bool) → takes (command_of names) words ≡ taken → IsRefused words ⊎ ((read : Words) × HasWords words read)
      go true taken = inr (taken_has_words ((0, 0), (λ _. (0, 0))) words taken)
      go false not_taken = inl (refused_by names refl not_taken)
