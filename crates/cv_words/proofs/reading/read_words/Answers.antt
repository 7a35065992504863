-- clap's own definitions, at the command.
use Rattle.std.proofs.Common.{rules, ◌≡◌, true, refl, ◌∙◌}
use Rattle.clap.specs.Words.{app_of, fault_of, kind_of}
use Rattle.clap.specs.declared.error.kind.ErrorKind.TheVariants.{OutOfMemory}
use Rattle.cv_words.specs.Command.{HasJobs}
use Rattle.cv_words.specs.Words.{texts_of}
use Rattle.cv_words.proofs.Given.{given}
use Rattle.cv_words.proofs.Matches.{among, refused_from_error, words_from_matches}
use Rattle.cv_words.proofs.reading.read_words.Goals as goal

pub read_matches-requires : goal.read_matches-requires
read_matches-requires c =
    let jobs : HasJobs c.as_slice.result = search rules in
    given c.in-Ok.command c.as_slice.result c.in-Ok-try_get_matches_from.matches jobs c.in-Ok.ensures
    c.in-Ok-try_get_matches_from.ensures.parsed

pub returns-in-Ok-try_get_matches_from-clause-read :
    goal.returns-in-Ok-try_get_matches_from-clause-read
returns-in-Ok-try_get_matches_from-clause-read c =
    let jobs : HasJobs c.as_slice.result = search rules in
    words_from_matches (app_of c.in-Ok.command) c.as_slice.result (texts_of c.args.words.now) c.in-Ok-try_get_matches_from.matches
    c.read_matches.result jobs c.in-Ok.ensures c.in-Ok-try_get_matches_from.ensures.matches
    c.in-Ok-try_get_matches_from.ensures.kinds c.read_matches.ensures

pub returns-in-Err-2-clause-refused : goal.returns-in-Err-2-clause-refused
returns-in-Err-2-clause-refused c =
    let jobs : HasJobs c.as_slice.result = search rules in
    let app = app_of c.in-Ok.command in
    let words = texts_of c.args.words.now in
    let other : kind_of c.in-Err.error ≡ OutOfMemory → ⊥ = λ memory.
    let yes : c.eq.result ≡ true = c.eq.ensures ∙ rw (c.kind.ensures ∙ memory) refl in
    let no = c.if-eq.false in
    cc in
    λ _. refused_from_error app c.as_slice.result words jobs c.in-Ok.ensures
    (λ taken. other (c.in-Err.ensures.passes taken))
    (λ simple. among (fault_of app words) c.in-Err.error (c.in-Err.ensures.kinds simple) other)
